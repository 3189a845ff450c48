-- All files that a call names are compared, one after another.
use Rattle.run_opening.proofs.Names.{[], ◌++◌, ◌<◌, ◌∙◌, ◌≡◌, arith, false, is_some, List, None, Option, OnOk, Result, Run, Some, subst, sym, true, true≢false, ℕ}
use Rattle.std.proofs.Common.{◌∷◌, ◌≤◌, ◌⊎◌, ap, inl, inr, map, refl, suc}
use Rattle.std.proofs.lemmas.List.{map-append}
use Rattle.std.proofs.lemmas.Result.{on_ok_weaker}
use Rattle.std.specs.Prelude.{option_map, string_bytes}
use Rattle.effects.specs.Effects.{Reply}
use Rattle.effects.proofs.Comparing.{apart_more, or_not, same_or_less, seen_last, seen_more}
use Rattle.effects.specs.Comparing.{bytes_of}
use Rattle.effects.specs.Naming.{IsIn, IsSeen, Seen, seen_of}
use Rattle.effects.specs.declared.called.Called.{Called}
use Rattle.run_opening.specs.Naming.{AreCompared, AreNone, Covers, IsClear, written}
use Rattle.run_opening.specs.Openings.{Answered, Core, GoesOn, Holds, IsComparing, Known, outcome, Outside, placed, State, untouched}
use Rattle.run_opening.specs.declared.stages.Stage.{Stage}
use Rattle.run_opening.specs.declared.stages.Stage.TheVariants as stage

-- those that are not named need not be looked for
covers_next : (run : Run) (from at : ℕ) (placeless : List ℕ) (seen : List Seen) → AreNone from at run → Covers run from placeless seen
    → Covers run at placeless seen
covers_next run from at placeless seen none covers = record {
  each = λ n below named. or_not (IsIn n placeless ⊎ IsSeen n seen) n from (λ less. covers.each n less named)
      (λ more. absurd (true≢false (sym named ∙ ap (λ (o : Option (List ℕ)). is_some o) (none n more below))));
}

covers_one : (run : Run) (at next : ℕ) (placeless placeless_now : List ℕ) (seen seen_now : List Seen) → next ≤ suc at
    → ((n : ℕ) → IsIn n placeless ⊎ IsSeen n seen → IsIn n placeless_now ⊎ IsSeen n seen_now)
    → IsIn at placeless_now ⊎ IsSeen at seen_now → Covers run at placeless seen → Covers run next placeless_now seen_now
covers_one run at next placeless placeless_now seen seen_now few grows now covers = record {
  each = λ n below named. or_not (IsIn n placeless_now ⊎ IsSeen n seen_now) n at (λ less. grows n (covers.each n less named))
      (λ more. subst (λ (m : ℕ). IsIn m placeless_now ⊎ IsSeen m seen_now) (sym (same_or_less n at next few below more)) now);
}

-- a file lacks a place
placeless_covers : (run : Run) (at next : ℕ) (placeless : List ℕ) (seen : List Seen) → next ≤ suc at → Covers run at placeless seen
    → Covers run next (at ∷ placeless) seen
placeless_covers run at next placeless seen few covers = covers_one run at next placeless (at ∷ placeless) seen seen few
    (λ n h. elim h [ inl p ↦ inl (inr p) | inr s ↦ inr s ]) (inl (inl refl)) covers

-- one joins those before it
joined_covers : (run : Run) (x : Seen) (next : ℕ) (placeless : List ℕ) (seen : List Seen) → next ≤ suc x.at → Covers run x.at placeless seen
    → Covers run next placeless (seen ++ x ∷ [])
joined_covers run x next placeless seen few covers = covers_one run x.at next placeless placeless seen (seen ++ x ∷ []) few
    (λ n h. elim h [ inl p ↦ inl p | inr s ↦ inr (seen_more n seen x s) ]) (inr (seen_last seen x)) covers

-- the next one that is named
pub on_next : (run : Run) (from at : ℕ) (called : List Seen) (c : Core) (a : Answered) → IsComparing run from called c a → AreNone from at c.order
    → IsComparing run at called c a
on_next run from at called c a h none = record {
  fresh = h.fresh;
  seen = h.seen;
  apart = h.apart;
  covers = covers_next run from at a.placeless a.seen (subst (λ (r : Run). AreNone from at r) h.fresh.order none) h.covers;
}

-- all were compared
pub all_compared : (run : Run) (from : ℕ) (called : List Seen) (c : Core) (a : Answered) → IsComparing run from called c a → AreNone from 8 c.order
    → AreCompared run a.placeless a.seen
all_compared run from called c a h none =
    let all : IsComparing run 8 called c a = on_next run from 8 called c a h none in
    record { apart = all.apart; covers = all.covers }

-- ---- what comes of an answer

none_below : (n : ℕ) → n < 0 → ⊥
none_below n below = omega (arith, below)

pub begins_comparing : (run : Run) (called : List Seen) (c : Core) → called ≡ [] → c.order ≡ run → c.features ≡ None
    → IsComparing run 0 called c untouched.answered
begins_comparing run called c none order features = record {
  fresh = record { order = order; features = features };
  seen = sym none;
  apart = tt;
  covers = record { each = λ n below named. absurd (none_below n below) };
}

pub unplaced : (run : Run) (s : State) (o : Outside) (at next : ℕ) (reply : Reply) → s.stage ≡ stage.Placing at → bytes_of reply ≡ None
    → next ≤ suc at → Holds run s o → IsComparing run next s.called s.core (outcome s.stage reply o).answered
unplaced run s o at next reply is none few h =
    let k : IsComparing run at s.called s.core o.answered = subst (λ (st : Stage). Known st run s o) is h in
    subst (λ (st : Stage). IsComparing run next s.called s.core (outcome st reply o).answered) (sym is)
    (subst (λ (b : Option (List ℕ)). IsComparing run next s.called s.core (placed at b o.answered)) (sym none) (record {
      fresh = k.fresh;
      seen = k.seen;
      apart = k.apart;
      covers = placeless_covers run at next o.answered.placeless o.answered.seen few k.covers;
    }))

-- a file joins those before it
pub joined : (run : Run) (x : Called) (next : ℕ) (cs pushed : List Called) (c : Core) (a : Answered)
    → IsComparing run x.at (map seen_of cs) c a → IsClear (map seen_of cs) (seen_of x) → next ≤ suc x.at → pushed ≡ cs ++ x ∷ []
    → IsComparing run next (map seen_of pushed) c (record a { seen = a.seen ++ seen_of x ∷ [] })
joined run x next cs pushed c a h clear few more = record {
  fresh = h.fresh;
  seen = ap (λ (l : List Seen). l ++ seen_of x ∷ []) h.seen ∙ (sym (map-append seen_of cs (x ∷ [])) ∙ ap (λ (l : List Called). map seen_of l) (sym more));
  apart = apart_more false written a.seen (seen_of x) h.apart (subst (λ (l : List Seen). IsClear l (seen_of x)) (sym h.seen) clear);
  covers = joined_covers run (seen_of x) next a.placeless a.seen few h.covers;
}

-- a file joins those before it, whose core is this
abbrev pub Adds : Seen → List Seen → Core → State → Type 0
Adds x called c t = (run : Run) (o : Outside) → IsComparing run x.at called c o.answered
    → Holds run t (record o { answered = record (o.answered) { seen = o.answered.seen ++ x ∷ [] } })

-- its number is there, or none
pub numbered_on : {A E : Type 0} (r : Result A E) (s t : State) (at : ℕ) (reply : Reply) (x : Seen) (called : List Seen) (c : Core)
    → s.stage ≡ stage.Numbering at → x ≡ record { at = at; place = s.text; node = bytes_of reply } → called ≡ s.called → c ≡ s.core
    → OnOk r (Adds x called c t) → OnOk r (GoesOn s reply t)
numbered_on r s t at reply x called c is same same_called same_core joins = on_ok_weaker r (λ join run o h.
    let k : IsComparing run at s.called s.core o.answered × ((s.text ≡ o.answered.place) × (o.answered.last ≡ at)) = subst (λ (st : Stage). Known st run s o) is h in
    let y : Seen = record { at = at; place = o.answered.place; node = bytes_of reply } in
    let one : x ≡ y = same ∙ ap (λ (l : List ℕ). record { at = at; place = l; node = bytes_of reply }) k.1.0 in
    subst (λ (st : Stage). Holds run t (outcome st reply o)) (sym is)
    (subst (λ (z : Seen). Holds run t (record o { answered = record (o.answered) { seen = o.answered.seen ++ z ∷ [] } })) one
    (join run o (subst (λ (z : Seen). IsComparing run z.at called c o.answered) (sym one)
    (subst (λ (l : List Seen). IsComparing run at l c o.answered) (sym same_called)
    (subst (λ (d : Core). IsComparing run at s.called d o.answered) (sym same_core) k.0)))))) joins

-- ---- examples

is_some_map : {A B : Type 0} (f : A → B) (o : Option A) → is_some o ≡ true → is_some (option_map f o) ≡ true
is_some_map f None is = is
is_some_map f (Some x) is = refl

three_below : 3 < 8
three_below = omega (arith)

-- a record is named, and was not looked for
pub uncompared : (run : Run) (placeless : List ℕ) (seen : List Seen) → AreCompared run placeless seen → is_some run.record ≡ true → placeless ≡ []
    → seen ≡ [] → ⊥
uncompared run placeless seen c named none empty =
    elim (subst (λ (l : List Seen). IsIn 3 [] ⊎ IsSeen 3 l) empty (subst (λ (l : List ℕ). IsIn 3 l ⊎ IsSeen 3 seen) none
    (c.covers.each 3 three_below (is_some_map string_bytes run.record named)))) [ inl p ↦ absurd p | inr s ↦ absurd s ]
