-- Features that are sound for a ledger of what was reported are true of what was reported.
use Rattle.witness_laws.proofs.Names.{◌++◌, ◌+◌, ◌-◌, ◌<◌, ◌∙◌, ◌∷◌, ◌≡◌, ◌≤◌, ◌⊎◌, [], Act, ap, AreRuns, arith, cases_lt, contacts, contacts_more}
use Rattle.witness_laws.proofs.Names.{done_on, drop, drop-append-add, drop-append-le, drop-map, Feature, inl, inr, IsRun, length, length-drop, List}
use Rattle.witness_laws.proofs.Names.{MadeContact, map, None, Option, Point, refl, Reported, Serves, Some, Sound, subst, suc, sym, take}
use Rattle.witness_laws.proofs.Names.{take-append-le, take-map, true, zero, ℕ}
use Rattle.dmis_program.specs.declared.features.Touch.{Touch}
use Rattle.dmis_program.specs.declared.features.Wanted.{Wanted}
use Rattle.witness.specs.Numbering.{numbered_from}
use Rattle.witness.specs.Runs.{parts_of, known_contacts, IsToldRun, AreToldRuns, SoundByTold, connection_at, unnumbered, AreRunContacts}
use Rattle.witness.proofs.NextContacts.{numbered_all}
use Rattle.witness.proofs.SameRuns.{run_told, told_sound}
use Rattle.witness_laws.proofs.client.Entries.{entries_of, run_longer, run_reported, AreAt, serves_at, run_long, run_moved}

-- ---- the same ledger with other numbers, all above one

abbrev raised : ℕ → MadeContact → MadeContact
raised n m = record m { connection = suc (n + m.connection) }

abbrev pub renumbered : ℕ → List (ℕ × Act) → List (ℕ × Act)
renumbered n [] = []
renumbered n ((m, a) ∷ l) = (suc (n + m), a) ∷ renumbered n l

raised_contacts : (n : ℕ) (l : List (ℕ × Act)) → contacts (renumbered n l) ≡ map (raised n) (contacts l)
raised_contacts n [] = refl
raised_contacts n ((m, Act.Contact target dir tool frame point) ∷ l) =
    let x : MadeContact = record { connection = suc (n + m); target = target; dir = dir; tool = tool; frame = frame; point = point } in
    ap (λ (ms : List MadeContact). x ∷ ms) (raised_contacts n l)
raised_contacts n ((m, Act.HomedIs homed) ∷ l) = raised_contacts n l
raised_contacts n ((m, Act.Homed) ∷ l) = raised_contacts n l
raised_contacts n ((m, Act.Moved p f) ∷ l) = raised_contacts n l
raised_contacts n ((m, Act.Changed k) ∷ l) = raised_contacts n l
raised_contacts n ((m, Act.Framed f) ∷ l) = raised_contacts n l

unnumbered_raised : (n : ℕ) (ms : List MadeContact) → map unnumbered (map (raised n) ms) ≡ map unnumbered ms
unnumbered_raised n [] = refl
unnumbered_raised n (m ∷ ms) = ap (λ (l : List MadeContact). unnumbered m ∷ l) (unnumbered_raised n ms)

raise : ℕ → Option ℕ → Option ℕ
raise n None = None
raise n (Some m) = Some (suc (n + m))

at_raised : (n : ℕ) (ms : List MadeContact) (k : ℕ) → connection_at (map (raised n) ms) k ≡ raise n (connection_at ms k)
unfolding raise
at_raised n [] k = refl
at_raised n (m ∷ ms) zero = refl
at_raised n (m ∷ ms) (suc k) = at_raised n ms k

raise_same : (n : ℕ) (a b : Option ℕ) → raise n a ≡ raise n b → a ≡ b
unfolding raise
raise_same n None None e = refl
raise_same n None (Some b) e = absurd (cc)
raise_same n (Some a) None e = absurd (cc)
raise_same n (Some a) (Some b) e = let same : suc (n + a) ≡ suc (n + b) = cc in ap (λ (x : ℕ). Some x) (omega (arith, same))

pub are_raised : (n : ℕ) (es : List (ℕ × Reported)) (l : List (ℕ × Act)) → AreRunContacts es l → AreRunContacts es (renumbered n l)
are_raised n es l h = record {
  alike = ap (map unnumbered) (raised_contacts n l) ∙ (unnumbered_raised n (contacts l) ∙ h.alike);
  joined = λ k less. (
    (λ same. (h.joined k less).0 (raise_same n (connection_at (contacts l) k) (connection_at (contacts l) (k + 1))
        (sym (here k) ∙ (same ∙ here (k + 1))))),
    (λ next. here k ∙ (ap (raise n) ((h.joined k less).1 next) ∙ sym (here (k + 1)))),
  );
}
  where
    here : (k : ℕ) → connection_at (contacts (renumbered n l)) k ≡ raise n (connection_at (contacts l) k)
    here k = ap (λ (ms : List MadeContact). connection_at ms k) (raised_contacts n l) ∙ at_raised n (contacts l) k

-- ---- no run is of both

abbrev AreAbove : ℕ → List MadeContact → Type 0
AreAbove n [] = Unit {0}
AreAbove n (m ∷ ms) = (n < m.connection) × AreAbove n ms

raised_above : (n : ℕ) (ms : List MadeContact) → AreAbove n (map (raised n) ms)
raised_above n [] = tt
raised_above n (m ∷ ms) = (omega (arith), raised_above n ms)

above_behind : (n s : ℕ) (ms : List MadeContact) → AreAbove n ms → AreAbove n (drop s ms)
above_behind n zero ms h = h
above_behind n (suc s) [] h = tt
above_behind n (suc s) (m ∷ ms) h = above_behind n s ms h.1

done_at : (n : ℕ) (acts : List Act) → AreAt n (contacts (done_on n acts))
done_at n [] = tt
done_at n (Act.Contact target dir tool frame point ∷ acts) = (refl, done_at n acts)
done_at n (Act.HomedIs homed ∷ acts) = done_at n acts
done_at n (Act.Homed ∷ acts) = done_at n acts
done_at n (Act.Moved p f ∷ acts) = done_at n acts
done_at n (Act.Changed m ∷ acts) = done_at n acts
done_at n (Act.Framed f ∷ acts) = done_at n acts

-- contacts on one connection are not both above another and on it
not_both : (c n k : ℕ) (xs ys : List MadeContact) → 0 < length xs → length xs < k → length (take k (xs ++ ys)) ≡ k
    → AreAt c (take k (xs ++ ys)) → AreAbove n xs → AreAt n ys → ⊥
not_both c n k [] ys some less long at above on = omega (arith, some)
not_both c n zero (x ∷ xs) ys some less long at above on = omega (arith, less)
not_both c n (suc zero) (x ∷ []) ys some less long at above on = omega (arith, less)
not_both c n (suc (suc k)) (x ∷ []) [] some less long at above on = omega (arith, long)
not_both c n (suc (suc k)) (x ∷ []) (y ∷ ys) some less long at above on =
    let first : x.connection ≡ c = at.0 in
    let second : y.connection ≡ c = at.1.0 in
    let up : n < x.connection = above.0 in
    let same : y.connection ≡ n = on.0 in
    omega (arith, first, second, up, same)
not_both c n (suc k) (x ∷ y ∷ xs) ys some less long at above on =
    not_both c n k (y ∷ xs) ys (omega (arith)) (omega (arith, less)) (omega (arith, long)) at.1 above.1 on

-- ---- the same contacts on another connection

abbrev placed : ℕ → MadeContact → MadeContact
placed m x = record x { connection = m }

placed_contacts : (n m : ℕ) (acts : List Act) → contacts (done_on m acts) ≡ map (placed m) (contacts (done_on n acts))
placed_contacts n m [] = refl
placed_contacts n m (Act.Contact target dir tool frame point ∷ acts) =
    let x : MadeContact = record { connection = m; target = target; dir = dir; tool = tool; frame = frame; point = point } in
    ap (λ (ms : List MadeContact). x ∷ ms) (placed_contacts n m acts)
placed_contacts n m (Act.HomedIs homed ∷ acts) = placed_contacts n m acts
placed_contacts n m (Act.Homed ∷ acts) = placed_contacts n m acts
placed_contacts n m (Act.Moved p f ∷ acts) = placed_contacts n m acts
placed_contacts n m (Act.Changed k ∷ acts) = placed_contacts n m acts
placed_contacts n m (Act.Framed f ∷ acts) = placed_contacts n m acts

placed_serves : (c m : ℕ) (ts : List Touch) (ps : List Point) (ms : List MadeContact) → Serves c ts ps ms → Serves m ts ps (map (placed m) ms)
placed_serves c m [] [] [] h = tt
placed_serves c m [] [] (x ∷ ms) h = absurd h
placed_serves c m [] (p ∷ ps) ms h = absurd h
placed_serves c m (t ∷ ts) [] ms h = absurd h
placed_serves c m (t ∷ ts) (p ∷ ps) [] h = absurd h
placed_serves c m (t ∷ ts) (p ∷ ps) (x ∷ ms) h = (
  record {
    on = refl;
    target = h.0.target;
    dir = h.0.dir;
    tool = h.0.tool;
    frame = h.0.frame;
    point_is = h.0.point_is;
  },
  placed_serves c m ts ps ms h.1,
)

placed_run : (w : Wanted) (f : Feature) (s n m : ℕ) (acts : List Act) → IsRun w f s (contacts (done_on n acts))
    → IsRun w f s (contacts (done_on m acts))
placed_run w f s n m acts h = record {
  label = h.label;
  connection = m;
  serves = subst (λ (ms : List MadeContact). Serves m w.touches f.points ms)
      (sym (ap (λ (ms : List MadeContact). take (length f.points) (drop s ms)) (placed_contacts n m acts)
      ∙ (ap (take (length f.points)) (drop-map (placed m) s (contacts (done_on n acts)))
      ∙ take-map (placed m) (length f.points) (drop s (contacts (done_on n acts))))))
      (placed_serves h.connection m w.touches f.points (take (length f.points) (drop s (contacts (done_on n acts)))) h.serves);
}

-- ---- one run

-- where contacts of other connections come first, a run of a ledger is one in what was reported
record IsJoin (n : ℕ) (es : List (ℕ × Reported)) (l : List (ℕ × Act)) : Type 0 where
  made : AreRunContacts es l
  above : AreAbove n (contacts l)

joins : (n : ℕ) (es : List (ℕ × Reported)) → IsJoin n es (renumbered n (numbered_from true None (parts_of es)))
joins n es =
    let l : List (ℕ × Act) = numbered_from true None (parts_of es) in
    record {
      made = are_raised n es l (numbered_all es l refl);
      above = subst (AreAbove n) (sym (raised_contacts n l)) (raised_above n (contacts l));
    }

as_long : (es : List (ℕ × Reported)) (l : List (ℕ × Act)) → AreRunContacts es l → length (contacts l) ≡ length (known_contacts (parts_of es))
as_long es l h = sym (many (contacts l)) ∙ (ap length h.alike ∙ many (known_contacts (parts_of es)))
  where
    many : (ms : List MadeContact) → length (map unnumbered ms) ≡ length ms
    many [] = refl
    many (m ∷ ms) = ap suc (many ms)

early_run : (w : Wanted) (f : Feature) (s n m : ℕ) (es more : List (ℕ × Reported)) (acts : List Act) (l : List (ℕ × Act)) → IsJoin n es l
    → s + length f.points ≤ length (contacts l) → IsRun w f s (contacts l ++ contacts (done_on n acts))
    → IsToldRun w f s (es ++ (entries_of m acts ++ more))
early_run w f s n m es more acts l j within h =
    run_longer w f s es (entries_of m acts ++ more) (run_told es l w f s (IsJoin.made j)
    (run_moved w f s s (contacts l ++ contacts (done_on n acts)) (contacts l)
    (ap (take (length f.points)) (drop-append-le s (contacts l) (contacts (done_on n acts)) (omega (arith, within)))
    ∙ take-append-le (length f.points) (drop s (contacts l)) (contacts (done_on n acts))
    (let long = length-drop s (contacts l) in omega (arith, long, within))) h))

late_run : (w : Wanted) (f : Feature) (s n m : ℕ) (es more : List (ℕ × Reported)) (acts : List Act) (l : List (ℕ × Act)) → IsJoin n es l
    → length (contacts l) ≤ s → IsRun w f s (contacts l ++ contacts (done_on n acts))
    → IsToldRun w f s (es ++ (entries_of m acts ++ more))
late_run w f s n m es more acts l j after h =
    let r : ℕ = s - length (contacts l) in
    let at : length (contacts l) + r ≡ s = omega (arith, after) in
    let long : length (contacts l) ≡ length (known_contacts (parts_of es)) = as_long es l (IsJoin.made j) in
    subst (λ (x : ℕ). IsToldRun w f x (es ++ (entries_of m acts ++ more))) (ap (λ (x : ℕ). x + r) (sym long) ∙ at)
    (run_reported w f r m es more acts (placed_run w f r n m acts
    (run_moved w f s r (contacts l ++ contacts (done_on n acts)) (contacts (done_on n acts))
    (ap (λ (x : ℕ). take (length f.points) (drop x (contacts l ++ contacts (done_on n acts)))) (sym at)
    ∙ ap (take (length f.points)) (drop-append-add (contacts l) (contacts (done_on n acts)) r)) h)))

no_run : (w : Wanted) (f : Feature) (s n : ℕ) (es : List (ℕ × Reported)) (acts : List Act) (l : List (ℕ × Act)) → IsJoin n es l
    → s < length (contacts l) → length (contacts l) < s + length f.points
    → IsRun w f s (contacts l ++ contacts (done_on n acts)) → ⊥
no_run w f s n es acts l j before after h =
    let seam : drop s (contacts l ++ contacts (done_on n acts)) ≡ drop s (contacts l) ++ contacts (done_on n acts) =
    drop-append-le s (contacts l) (contacts (done_on n acts)) (omega (arith, before)) in
    let short = length-drop s (contacts l) in
    let run : Serves h.connection w.touches f.points (take (length f.points) (drop s (contacts l) ++ contacts (done_on n acts))) =
    subst (λ (x : List MadeContact). Serves h.connection w.touches f.points (take (length f.points) x)) seam h.serves in
    not_both h.connection n (length f.points) (drop s (contacts l)) (contacts (done_on n acts)) (omega (arith, short, before))
    (omega (arith, short, before, after))
    (ap (λ (x : List MadeContact). length (take (length f.points) x)) (sym seam)
    ∙ run_long w f s (contacts l ++ contacts (done_on n acts)) h)
    (serves_at h.connection w.touches f.points (take (length f.points) (drop s (contacts l) ++ contacts (done_on n acts))) run)
    (above_behind n s (contacts l) (IsJoin.above j)) (done_at n acts)

one_run : (w : Wanted) (f : Feature) (s n m : ℕ) (es more : List (ℕ × Reported)) (acts : List Act) (l : List (ℕ × Act)) → IsJoin n es l
    → IsRun w f s (contacts l ++ contacts (done_on n acts)) → IsToldRun w f s (es ++ (entries_of m acts ++ more))
one_run w f s n m es more acts l j h = go (cases_lt s (length (contacts l))) (cases_lt (length (contacts l)) (s + length f.points))
  where
    go : (s < length (contacts l)) ⊎ (length (contacts l) ≤ s)
        → (length (contacts l) < s + length f.points) ⊎ (s + length f.points ≤ length (contacts l))
        → IsToldRun w f s (es ++ (entries_of m acts ++ more))
    go (inr after) either = late_run w f s n m es more acts l j after h
    go (inl before) (inr within) = early_run w f s n m es more acts l j within h
    go (inl before) (inl after) = absurd (no_run w f s n es acts l j before after h)

all_runs : (ws : List Wanted) (fs : List Feature) (ss : List ℕ) (least n m : ℕ) (es more : List (ℕ × Reported)) (acts : List Act)
    (l : List (ℕ × Act)) → IsJoin n es l → AreRuns ws fs ss least (contacts l ++ contacts (done_on n acts))
    → AreToldRuns ws fs ss least (es ++ (entries_of m acts ++ more))
all_runs ws [] [] least n m es more acts l j h = tt
all_runs ws [] (s ∷ ss) least n m es more acts l j h = absurd h
all_runs [] (f ∷ fs) ss least n m es more acts l j h = absurd h
all_runs (w ∷ ws) (f ∷ fs) [] least n m es more acts l j h = absurd h
all_runs (w ∷ ws) (f ∷ fs) (s ∷ ss) least n m es more acts l j h = (
  h.0,
  one_run w f s n m es more acts l j h.1,
  all_runs ws fs ss (s + length f.points) n m es more acts l j h.2,
)

-- ---- features

-- if features are sound for each ledger for which the earlier ones are, with these acts of one connection after it, they are true of what was
-- reported earlier with what was reported of these acts after it, and whatever then
pub still_true : (ws : List Wanted) (fs gs : List Feature) (n m : ℕ) (es more : List (ℕ × Reported)) (acts : List Act)
    → SoundByTold ws fs es → ((l : List (ℕ × Act)) → Sound ws fs l → Sound ws gs (l ++ done_on n acts))
    → SoundByTold ws gs (es ++ (entries_of m acts ++ more))
still_true ws fs gs n m es more acts h then =
    let l : List (ℕ × Act) = renumbered n (numbered_from true None (parts_of es)) in
    let j : IsJoin n es l = joins n es in
    let s : Sound ws gs (l ++ done_on n acts) = then l (told_sound es l ws fs (IsJoin.made j) h) in
    record {
      starts = s.starts;
      runs = all_runs ws gs s.starts 0 n m es more acts l j
          (subst (AreRuns ws gs s.starts 0) (contacts_more l (done_on n acts)) s.runs);
    }

-- and they stay so, whatever else is reported
all_longer : (ws : List Wanted) (fs : List Feature) (ss : List ℕ) (least : ℕ) (es more : List (ℕ × Reported))
    → AreToldRuns ws fs ss least es → AreToldRuns ws fs ss least (es ++ more)
all_longer ws [] [] least es more h = tt
all_longer ws [] (s ∷ ss) least es more h = absurd h
all_longer [] (f ∷ fs) ss least es more h = absurd h
all_longer (w ∷ ws) (f ∷ fs) [] least es more h = absurd h
all_longer (w ∷ ws) (f ∷ fs) (s ∷ ss) least es more h =
    (h.0, run_longer w f s es more h.1, all_longer ws fs ss (s + length f.points) es more h.2)

pub true_longer : (ws : List Wanted) (fs : List Feature) (es more : List (ℕ × Reported)) → SoundByTold ws fs es → SoundByTold ws fs (es ++ more)
true_longer ws fs es more h = record { starts = h.starts; runs = all_longer ws fs h.starts 0 es more h.runs }
