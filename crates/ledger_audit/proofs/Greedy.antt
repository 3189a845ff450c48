-- The earliest choice of starts, feature by feature.
use Rattle.ledger_audit.proofs.Names.{[], ◌++◌, ◌+◌, ◌<◌, ◌∙◌, ◌∷◌, ◌≡◌, ◌≤◌, Act, ap, AreAtMost, AreFewestUnsound, AreRuns, arith, contacts, Feature}
use Rattle.ledger_audit.proofs.Names.{get_or, HasNoRun, IsFirstRun, IsRun, length, length-take-le, List, MadeContact, refl, Sound, subst, suc, sym}
use Rattle.ledger_audit.proofs.Names.{take, take-take, Wanted, zero, ℕ}
use Rattle.std.proofs.lemmas.List.{take_more}
use Rattle.ledger_audit.proofs.ChoiceLaws.{last_end, sound_take, runs_push, end_push, AreWithLast, runs_split, at_most_push}

-- starts that are a choice, each at most the start in its place of any other choice; their runs end no later than those of another
pub record AreEarliest (ws : List Wanted) (fs : List Feature) (made : List MadeContact) (starts : List ℕ) (over : ℕ) : Type 0 where
  pub runs : AreRuns ws fs starts 0 made
  pub over_is : over ≡ last_end 0 fs starts
  pub least : (others : List ℕ) → AreRuns ws fs others 0 made → AreAtMost starts others × (over ≤ last_end 0 fs others)

-- no features have no starts
pub earliest_none : (ws : List Wanted) (made : List MadeContact) → AreEarliest ws [] made [] 0
earliest_none ws made = record { runs = tt; over_is = refl; least = λ others h. none others h }
  where
    none : (others : List ℕ) → AreRuns ws [] others 0 made → AreAtMost [] others × (0 ≤ last_end 0 [] others)
    none [] h = (tt, omega arith)
    none (o ∷ others) h = absurd h

get_same : (ws : List Wanted) (k : ℕ) (v w : Wanted) → k < length ws → v ≡ get_or ws k v → w ≡ get_or ws k w → v ≡ w
get_same [] k v w lt e d = absurd (omega arith)
get_same (x ∷ ws) zero v w lt e d = e ∙ sym d
get_same (x ∷ ws) (suc k) v w lt e d = get_same ws k v w (omega arith) e d

-- the last run of a choice is one of the next wanted feature
split_run : (ws : List Wanted) (fs : List Feature) (f : Feature) (starts : List ℕ) (made : List MadeContact) (w : Wanted)
    → (h : AreWithLast ws fs f starts 0 made) → w ≡ get_or ws (length fs) w → IsRun w f h.last made
split_run ws fs f starts made w h e =
    subst (λ (x : Wanted). IsRun x f h.last made) (get_same ws (length fs) h.wanted w h.held h.wanted_is e) h.run

-- the first run after the earliest ones is the earliest of one more feature
pub earliest_push : (ws : List Wanted) (fs : List Feature) (made : List MadeContact) (starts : List ℕ) (over : ℕ) (w : Wanted) (f : Feature)
    (s : ℕ) → AreEarliest ws fs made starts over → length fs < length ws → w ≡ get_or ws (length fs) w → IsFirstRun w f over made s
    → AreEarliest ws (fs ++ f ∷ []) made (starts ++ s ∷ []) (s + length f.points)
earliest_push ws fs made starts over w f s h lt e first = record {
  runs = runs_push ws fs starts 0 made w f s h.runs lt e from first.run;
  over_is = sym (end_push ws fs starts 0 made f s h.runs);
  least = λ others g. at others (runs_split ws fs f others 0 made g);
}
  where
    from : last_end 0 fs starts ≤ s
    from = let behind : over ≤ s = first.from in let is : over ≡ last_end 0 fs starts = h.over_is in omega arith

    at : (others : List ℕ) → AreWithLast ws fs f others 0 made
        → AreAtMost (starts ++ s ∷ []) others × (s + length f.points ≤ last_end 0 (fs ++ f ∷ []) others)
    at others g =
        let before = h.least g.front g.runs in
        let le : s ≤ g.last = first.first g.last (omega (arith, before.1, g.from)) (split_run ws fs f others made w g e) in
        let other : List ℕ = g.front ++ g.last ∷ [] in
        let ends : last_end 0 (fs ++ f ∷ []) other ≡ g.last + length f.points = end_push ws fs g.front 0 made f g.last g.runs in
        let one : AreAtMost (starts ++ s ∷ []) other × (s + length f.points ≤ last_end 0 (fs ++ f ∷ []) other)
        = (at_most_push starts g.front s g.last before.0 le, omega arith) in
        subst (λ (l : List ℕ). AreAtMost (starts ++ s ∷ []) l × (s + length f.points ≤ last_end 0 (fs ++ f ∷ []) l)) (sym g.whole) one

-- if the next feature has no run after the earliest ones, there is no choice
pub earliest_stuck : (ws : List Wanted) (fs : List Feature) (made : List MadeContact) (starts : List ℕ) (over : ℕ) (w : Wanted)
    (f : Feature)
    → AreEarliest ws fs made starts over → w ≡ get_or ws (length fs) w → HasNoRun w f over made
    → (others : List ℕ) → AreRuns ws (fs ++ f ∷ []) others 0 made → ⊥
earliest_stuck ws fs made starts over w f h e none others g = at (runs_split ws fs f others 0 made g)
  where
    at : AreWithLast ws fs f others 0 made → ⊥
    at k = let before = h.least k.front k.runs in none k.last (omega (arith, before.1, k.from)) (split_run ws fs f others made w k e)

-- if no further feature is wanted, there is no choice
pub wanted_spent : (ws : List Wanted) (fs : List Feature) (made : List MadeContact) (f : Feature) → length ws ≤ length fs
    → (others : List ℕ) → AreRuns ws (fs ++ f ∷ []) others 0 made → ⊥
wanted_spent ws fs made f le others g = let k = runs_split ws fs f others 0 made g in
    let held : length fs < length ws = k.held in absurd (omega arith)

-- if the first features have a choice, and with one more they have none, these are the fewest that are not sound
pub fewest_by : (ws : List Wanted) (fs : List Feature) (l : List (ℕ × Act)) (k : ℕ) (starts : List ℕ)
    → AreRuns ws (take k fs) starts 0 (contacts l) → k < length fs
    → ((others : List ℕ) → AreRuns ws (take (k + 1) fs) others 0 (contacts l) → ⊥) → AreFewestUnsound ws fs l (k + 1)
fewest_by ws fs l k starts runs lt none = record {
  some = omega arith;
  held = omega arith;
  before = λ fewer le. before fewer (omega arith);
  unsound = λ h. none h.starts h.runs;
}
  where
    before : (fewer : ℕ) → fewer ≤ k → Sound ws (take fewer fs) l
    before fewer le = subst (λ (gs : List Feature). Sound ws gs l) (take-take fewer k fs le)
        (sound_take fewer ws (take k fs) l (record { starts = starts; runs = runs }))

-- so all of them are not sound
pub all_unsound : (ws : List Wanted) (fs : List Feature) (l : List (ℕ × Act)) (k : ℕ) → AreFewestUnsound ws fs l k → Sound ws fs l → ⊥
all_unsound ws fs l k h sound = h.unsound (sound_take k ws fs l sound)

-- ---- in a pass over the features

one_more : (fs : List Feature) (k : ℕ) (f : Feature) → k < length fs → f ≡ get_or fs k f → take (k + 1) fs ≡ take k fs ++ f ∷ []
one_more fs k f lt e = take_more fs k f lt ∙ ap (λ (g : Feature). take k fs ++ g ∷ []) (sym e)

-- the earliest starts of the features passed, and the first run after them
pub passed_push : (ws : List Wanted) (fs : List Feature) (made : List MadeContact) (starts : List ℕ) (over k : ℕ) (w : Wanted) (f : Feature)
    (s : ℕ) → AreEarliest ws (take k fs) made starts over → IsFirstRun w f over made s → k < length fs → f ≡ get_or fs k f
    → k < length ws → w ≡ get_or ws k w
    → AreEarliest ws (take (k + 1) fs) made (starts ++ s ∷ []) (s + length f.points)
passed_push ws fs made starts over k w f s h first lt e held d =
    let long : length (take k fs) ≡ k = length-take-le k fs (omega arith) in
    subst (λ (gs : List Feature). AreEarliest ws gs made (starts ++ s ∷ []) (s + length f.points)) (sym (one_more fs k f lt e))
    (earliest_push ws (take k fs) made starts over w f s h (omega arith) (subst (λ (i : ℕ). w ≡ get_or ws i w) (sym long) d) first)

-- if the next feature has no run after them
pub passed_stuck : (ws : List Wanted) (fs : List Feature) (l : List (ℕ × Act)) (made : List MadeContact) (starts : List ℕ) (over k : ℕ)
    (w : Wanted) (f : Feature) → AreEarliest ws (take k fs) made starts over → HasNoRun w f over made → made ≡ contacts l → k < length fs
    → f ≡ get_or fs k f → w ≡ get_or ws k w → AreFewestUnsound ws fs l (k + 1)
passed_stuck ws fs l made starts over k w f h none is lt e d =
    let long : length (take k fs) ≡ k = length-take-le k fs (omega arith) in
    let stuck = earliest_stuck ws (take k fs) made starts over w f h (subst (λ (i : ℕ). w ≡ get_or ws i w) (sym long) d) none in
    fewest_by ws fs l k starts (subst (λ (ms : List MadeContact). AreRuns ws (take k fs) starts 0 ms) is h.runs) lt
    (λ others g. stuck others (subst (λ (ms : List MadeContact). AreRuns ws (take k fs ++ f ∷ []) others 0 ms) (sym is)
    (subst (λ (gs : List Feature). AreRuns ws gs others 0 (contacts l)) (one_more fs k f lt e) g)))

-- if all wanted features are passed
pub passed_spent : (ws : List Wanted) (fs : List Feature) (l : List (ℕ × Act)) (made : List MadeContact) (starts : List ℕ) (over k : ℕ)
    (f : Feature) → AreEarliest ws (take k fs) made starts over → made ≡ contacts l → k < length fs → f ≡ get_or fs k f → length ws ≤ k
    → AreFewestUnsound ws fs l (k + 1)
passed_spent ws fs l made starts over k f h is lt e spent =
    let long : length (take k fs) ≡ k = length-take-le k fs (omega arith) in
    fewest_by ws fs l k starts (subst (λ (ms : List MadeContact). AreRuns ws (take k fs) starts 0 ms) is h.runs) lt
    (λ others g. wanted_spent ws (take k fs) (contacts l) f (omega arith) others
    (subst (λ (gs : List Feature). AreRuns ws gs others 0 (contacts l)) (one_more fs k f lt e) g))
