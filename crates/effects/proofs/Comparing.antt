-- All files that a call names are compared, one after another.
use Rattle.std.proofs.Common.{◌≡◌, ◌<◌, ◌≤◌, ◌⊎◌, ◌∙◌, inl, inr, ap, subst, sym, refl, arith, ℕ, zero, suc, Bool, true, false, List, [], ◌∷◌}
use Rattle.std.proofs.Common.{◌++◌, ◌+◌, map, length, drop, get_or, Option, None, OnOk, Ok, Err, Result}
use Rattle.std.proofs.lemmas.Bool.{ltb-true, ltb-false}
use Rattle.std.proofs.lemmas.List.{drop_more, map-append}
use Rattle.std.specs.Prelude.{nat_lt}
use Rattle.std.specs.List.{AllByRecursion}
use Rattle.effects.specs.Naming.{AreApart, Disturbs, Files, IsClear, IsFirstMet, IsIn, IsSeen, Seen, seen_of}
use Rattle.effects.specs.Comparing.{Answered, AreCompared, bytes_of, Compares, Covers, Ends, GoesOn, Joins, IsComparing, Known, KnownAt, outcome, placed, State}
use Rattle.effects.specs.declared.comparisons.Stage.{Stage}
use Rattle.effects.specs.declared.comparisons.Stage.TheVariants as stage
use Rattle.effects.specs.Effects.{Reply}
use Rattle.effects.specs.declared.called.Called.{Called}

pub or_not : (A : Type 0) (n m : ℕ) → (n < m → A) → (m ≤ n → A) → A
or_not A n m below above = cases (nat_lt n m) refl
  where
    cases : (b : Bool) → nat_lt n m ≡ b → A
    cases true is = below (ltb-true n m is)
    cases false is = above (ltb-false n m is)

pub same_or_less : (n at next : ℕ) → next ≤ suc at → n < next → at ≤ n → n ≡ at
same_or_less n at next few below more = omega (arith, few, below, more)

covers_one : (at next : ℕ) (placeless placeless_now : List ℕ) (seen seen_now : List Seen) → next ≤ suc at
    → ((n : ℕ) → IsIn n placeless ⊎ IsSeen n seen → IsIn n placeless_now ⊎ IsSeen n seen_now)
    → IsIn at placeless_now ⊎ IsSeen at seen_now → Covers at placeless seen → Covers next placeless_now seen_now
covers_one at next placeless placeless_now seen seen_now few grows now covers = record {
  each = λ n below. or_not (IsIn n placeless_now ⊎ IsSeen n seen_now) n at (λ less. grows n (covers.each n less))
      (λ more. subst (λ (m : ℕ). IsIn m placeless_now ⊎ IsSeen m seen_now) (sym (same_or_less n at next few below more)) now);
}

-- one more is apart from those before it
pub apart_more : (is_kept : Bool) (written : List Bool) (seen : List Seen) (x : Seen) → AreApart is_kept written seen
    → IsClear is_kept written seen x → AreApart is_kept written (seen ++ x ∷ [])
apart_more is_kept written [] x apart clear = (tt, tt)
apart_more is_kept written (s ∷ seen) x apart clear = (all_more seen x apart.0 clear.0, apart_more is_kept written seen x apart.1 clear.1)
  where
    all_more : (later : List Seen) (x : Seen) → AllByRecursion (λ y. Disturbs is_kept written s y → ⊥) later
        → (Disturbs is_kept written s x → ⊥) → AllByRecursion (λ y. Disturbs is_kept written s y → ⊥) (later ++ x ∷ [])
    all_more [] x all last = (last, tt)
    all_more (y ∷ later) x all last = (all.0, all_more later x all.1 last)

-- the first that disturbs this one is the first of all, if those before it do not
pub met_here : (is_kept : Bool) (written : List Bool) (cs : List Called) (at : ℕ) (x : Called) (o : Seen) → at < length cs → x ≡ get_or cs at x
    → Disturbs is_kept written (seen_of x) o
    → ((n m : ℕ) → m ≡ at + n → IsFirstMet is_kept written (map seen_of (drop at cs)) n o → IsFirstMet is_kept written (map seen_of cs) m o)
    → IsFirstMet is_kept written (map seen_of cs) at o
met_here is_kept written cs at x o within is disturbs before = before zero at (omega arith)
    (subst (λ (l : List Called). IsFirstMet is_kept written (map seen_of l) zero o) (sym (drop_more cs at x within))
    (subst (λ (c : Called). Disturbs is_kept written (seen_of c) o) is disturbs))

pub met_later : (is_kept : Bool) (written : List Bool) (cs : List Called) (at : ℕ) (x : Called) (o : Seen) → at < length cs → x ≡ get_or cs at x
    → (Disturbs is_kept written (seen_of x) o → ⊥)
    → ((n m : ℕ) → m ≡ at + n → IsFirstMet is_kept written (map seen_of (drop at cs)) n o → IsFirstMet is_kept written (map seen_of cs) m o)
    → (n m : ℕ) → m ≡ at + 1 + n → IsFirstMet is_kept written (map seen_of (drop (at + 1) cs)) n o → IsFirstMet is_kept written (map seen_of cs) m o
met_later is_kept written cs at x o within is clear before n m same met = before (suc n) m (omega (arith, same))
    (subst (λ (l : List Called). IsFirstMet is_kept written (map seen_of l) (suc n) o) (sym (drop_more cs at x within))
    (subst (λ (c : Called). Disturbs is_kept written (seen_of c) o → ⊥) is clear, met))

-- likewise, none disturbs it if those that are left do not
pub clear_later : (is_kept : Bool) (written : List Bool) (cs : List Called) (at : ℕ) (x : Called) (o : Seen) → at < length cs → x ≡ get_or cs at x
    → (Disturbs is_kept written (seen_of x) o → ⊥)
    → (IsClear is_kept written (map seen_of (drop at cs)) o → IsClear is_kept written (map seen_of cs) o)
    → IsClear is_kept written (map seen_of (drop (at + 1) cs)) o → IsClear is_kept written (map seen_of cs) o
clear_later is_kept written cs at x o within is clear before rest = before
    (subst (λ (l : List Called). IsClear is_kept written (map seen_of l) o) (sym (drop_more cs at x within))
    (subst (λ (c : Called). Disturbs is_kept written (seen_of c) o → ⊥) is clear, rest))

-- none of these are apart from one that one of them disturbs
pub met_apart : (is_kept : Bool) (written : List Bool) (seen : List Seen) (at : ℕ) (x : Seen) → IsFirstMet is_kept written seen at x
    → AreApart is_kept written (seen ++ x ∷ []) → ⊥
met_apart is_kept written [] at x met apart = met
met_apart is_kept written (s ∷ seen) zero x met apart = last_of seen apart.0
  where
    last_of : (later : List Seen) → AllByRecursion (λ y. Disturbs is_kept written s y → ⊥) (later ++ x ∷ []) → ⊥
    last_of [] all = all.0 met
    last_of (y ∷ later) all = last_of later all.1
met_apart is_kept written (s ∷ seen) (suc at) x met apart = met_apart is_kept written seen at x met.1 apart.1

pub then_ok : {A E P Q : Type 0} (r : Result A E) → (P → Q) → OnOk r P → OnOk r Q
then_ok (Ok x) f p = f p
then_ok (Err e) f p = tt

-- a file that disturbs the next one ends a comparison
pub refused : (s t : State) (cs : List Called) (at : ℕ) (x : Called) → s.called ≡ map seen_of cs
    → IsFirstMet true s.files.written (map seen_of cs) at (seen_of x) → Ends s t → Joins (seen_of x) s t
refused s t cs at x was met ends = λ a same h. subst (λ (u : State). Known u (record a { seen = a.seen ++ seen_of x ∷ [] })) (sym ends)
    (inr (
      refl,
      λ apart. met_apart true s.files.written a.seen at (seen_of x)
          (subst (λ (l : List Seen). IsFirstMet true s.files.written l at (seen_of x)) (sym (h.seen ∙ was)) met) apart,
    ))

pub seen_more : (n : ℕ) (seen : List Seen) (x : Seen) → IsSeen n seen → IsSeen n (seen ++ x ∷ [])
seen_more n [] x h = absurd h
seen_more n (s ∷ seen) x (inl is) = inl is
seen_more n (s ∷ seen) x (inr h) = inr (seen_more n seen x h)

pub seen_last : (seen : List Seen) (x : Seen) → IsSeen x.at (seen ++ x ∷ [])
seen_last [] x = inl refl
seen_last (s ∷ seen) x = inr (seen_last seen x)

-- a file lacks a place
pub placeless_more : (s t : State) (a : Answered) (next : ℕ) → t.called ≡ s.called → t.files ≡ s.files → next ≤ suc s.at → AreCompared s s.at a
    → AreCompared t next (record a { placeless = s.at ∷ a.placeless })
placeless_more s t a next same same_files few h = record {
  seen = h.seen ∙ sym same;
  apart = subst (λ (w : Files). AreApart true w.written a.seen) (sym same_files) h.apart;
  covers = covers_one s.at next a.placeless (s.at ∷ a.placeless) a.seen a.seen few
      (λ n k. elim k [ inl p ↦ inl (inr p) | inr q ↦ inr q ]) (inl (inl refl)) h.covers;
}

-- one joins those before it
pub joined : (s t : State) (a : Answered) (x : Called) (next : ℕ) (cs pushed : List Called) → s.called ≡ map seen_of cs → t.called ≡ map seen_of pushed
    → pushed ≡ cs ++ x ∷ [] → t.files ≡ s.files → x.at ≡ s.at → next ≤ suc s.at → IsClear true s.files.written (map seen_of cs) (seen_of x)
    → AreCompared s s.at a → AreCompared t next (record a { seen = a.seen ++ seen_of x ∷ [] })
joined s t a x next cs pushed was now more same_files at few clear h = record {
  seen = ap (λ (l : List Seen). l ++ seen_of x ∷ []) (h.seen ∙ was)
      ∙ (sym (map-append seen_of cs (x ∷ [])) ∙ (ap (λ (l : List Called). map seen_of l) (sym more) ∙ sym now));
  apart = subst (λ (w : Files). AreApart true w.written (a.seen ++ seen_of x ∷ [])) (sym same_files)
      (apart_more true s.files.written a.seen (seen_of x) h.apart (subst (λ (l : List Seen). IsClear true s.files.written l (seen_of x)) (sym (h.seen ∙ was)) clear));
  covers = covers_one s.at next a.placeless a.placeless a.seen (a.seen ++ seen_of x ∷ []) few
      (λ n k. elim k [ inl p ↦ inl p | inr q ↦ inr (seen_more n a.seen (seen_of x) q) ])
      (inr (subst (λ (n : ℕ). IsSeen n (a.seen ++ seen_of x ∷ [])) at (seen_last a.seen (seen_of x)))) h.covers;
}

-- all were compared
pub all_compared : (s t : State) (a : Answered) → t.called ≡ s.called → t.files ≡ s.files → length s.files.names ≤ s.at → AreCompared s s.at a
    → AreCompared t (length t.files.names) a
all_compared s t a same same_files past h = record {
  seen = h.seen ∙ sym same;
  apart = subst (λ (w : Files). AreApart true w.written a.seen) (sym same_files) h.apart;
  covers = record { each = λ n below. h.covers.each n (under n (subst (λ (w : Files). n < length w.names) same_files below)) };
}
  where
    under : (n : ℕ) → n < length s.files.names → n < s.at
    under n below = omega (arith, past, below)

-- a file lacks a place, and the next one is compared
pub unplaced : (s m t : State) (reply : Reply) → s.stage ≡ stage.Placing → bytes_of reply ≡ None → m.called ≡ s.called → m.files ≡ s.files
    → m.at ≤ suc s.at → Compares m t → GoesOn s reply t
unplaced s m t reply is none same same_files few goes = λ a k.
    let h : IsComparing s a = subst (λ (st : Stage). KnownAt st s a) is k in
    subst (λ (st : Stage). Known t (outcome st s.at reply a)) (sym is)
    (subst (λ (b : Option (List ℕ)). Known t (placed s.at b a)) (sym none)
    (goes (record a { placeless = s.at ∷ a.placeless }) (placeless_more s m a m.at same same_files few h.compared)))
