-- Which touch of which feature a touch is.
use Rattle.run_session.proofs.Names.{[], ◌++◌, ◌+◌, ◌-◌, ◌<◌, ◌∙◌, ◌∷◌, ◌≡◌, ◌≤◌, ap, arith, Bool, codes, cond, drop, false, get_or, inl, inr, length, List, map, refl}
use Rattle.run_session.proofs.Names.{suc, sym, take, true, zero, ℕ}
use Rattle.std.proofs.lemmas.Bool.Decides.{nat_tests}
use Rattle.std.proofs.lemmas.List.Sums.{sum_by-cons}
use Rattle.std.specs.Fmt.{decimal}
use Rattle.std.specs.List.{sum}
use Rattle.std.specs.Prelude.{min, nat_lt}
use Rattle.dmis_program.specs.declared.features.Wanted.{Wanted}
use Rattle.run_session.specs.Errors.{touch_named, touch_of, touch_text}
use Rattle.session_telling.specs.Places.{IsBeyond, IsPlace}
use Rattle.dme_line.specs.declared.commands.Kind.{Kind}
use Rattle.dme_line.specs.declared.commands.Kind.TheVariants.{PtMeas}

abbrev pub counts : List Wanted → List ℕ
counts fs = map (λ f. length f.touches) fs

one_more : (x : ℕ) (xs : List ℕ) → sum (x ∷ xs) ≡ x + sum xs
one_more x xs = sum_by-cons (λ y. y) x xs

-- what is left after the first of a list, or after all of it
pub drop_min : (n : ℕ) (fs : List Wanted) → drop (min n (length fs)) fs ≡ drop n fs
drop_min zero fs = let first : min zero (length fs) ≡ zero = omega arith in ap (λ (k : ℕ). drop k fs) first
drop_min (suc n) [] = let first : min (suc n) 0 ≡ zero = omega arith in ap (λ (k : ℕ). drop {A = Wanted} k []) first
drop_min (suc n) (f ∷ fs) =
    let more : min (suc n) (length (f ∷ fs)) ≡ suc (min n (length fs)) = omega arith in ap (λ (k : ℕ). drop k (f ∷ fs)) more ∙ drop_min n fs

before : (a b : ℕ) → nat_lt a b ≡ true → a < b
before a b h = grind (arith, nat_tests)

after : (a b : ℕ) → nat_lt a b ≡ false → b ≤ a
after a b h = grind (arith, nat_tests)

pub named : (fs : List Wanted) (n at touch : ℕ) (f : Wanted) → IsPlace (counts fs) n at touch → f ≡ get_or fs at f
    → touch_text fs n ≡ codes ", " ++ (f.label ++ (codes ", touch " ++ decimal touch))
named [] n at touch f h is = let some = h.0 in absurd (omega (arith, some))
named (g ∷ gs) n zero zero f h is = let some = h.1 in absurd (omega (arith, some))
named (g ∷ gs) n zero (suc k) f h is = go (nat_lt (length g.touches) n) refl
  where
    within : suc k ≤ length g.touches
    within = h.2

    number : n ≡ suc k
    number = let all = h.3 in omega (arith, all)

    same : g ≡ f
    same = sym is

    go : (b : Bool) → nat_lt (length g.touches) n ≡ b
        → cond b (touch_text gs (n - length g.touches)) (touch_named g.label n) ≡ codes ", " ++ (f.label ++ (codes ", touch " ++ decimal (suc k)))
    go true e = let late = before (length g.touches) n e in absurd (omega (arith, late, within, number))
    go false e = ap (touch_named g.label) number ∙ ap (λ (x : Wanted). touch_named x.label (suc k)) same
named (g ∷ gs) n (suc at) touch f h is = later (length g.touches) g gs n touch f (nat_lt (length g.touches) n) refl
    (λ early. let some = h.1 in let all = h.3 in let more = one_more (length g.touches) (take at (counts gs)) in omega (arith, early, some, all, more))
    (named gs (n - length g.touches) at touch f (
      let some = h.0 in omega (arith, some),
      h.1,
      h.2,
      let all = h.3 in let more = one_more (length g.touches) (take at (counts gs)) in omega (arith, all, more),
    ) is)
  where
    later : (len : ℕ) (g : Wanted) (gs : List Wanted) (n touch : ℕ) (f : Wanted) (b : Bool) → nat_lt len n ≡ b → (n ≤ len → ⊥)
        → touch_text gs (n - len) ≡ codes ", " ++ (f.label ++ (codes ", touch " ++ decimal touch))
        → cond b (touch_text gs (n - len)) (touch_named g.label n) ≡ codes ", " ++ (f.label ++ (codes ", touch " ++ decimal touch))
    later len g gs n touch f true e late is = is
    later len g gs n touch f false e late is = absurd (late (after len n e))

pub beyond : (fs : List Wanted) (n : ℕ) → IsBeyond (counts fs) n → touch_text fs n ≡ []
beyond [] n h = refl
beyond (g ∷ gs) n (inl is) = none (length g.touches) (nat_lt (length g.touches) n) refl
  where
    none : (len : ℕ) (b : Bool) → nat_lt len n ≡ b → cond b (touch_text gs (n - len)) (touch_named g.label n) ≡ []
    none len true e = let late = before len n e in absurd (omega (arith, late, is))
    none len false e = ap (touch_named g.label) is
beyond (g ∷ gs) n (inr far) = let all = one_more (length g.touches) (counts gs) in
    later (length g.touches) (nat_lt (length g.touches) n) refl
    (λ early. omega (arith, early, far, all)) (beyond gs (n - length g.touches) (inr (omega (arith, far, all))))
  where
    later : (len : ℕ) (b : Bool) → nat_lt len n ≡ b → (n ≤ len → ⊥) → touch_text gs (n - len) ≡ []
        → cond b (touch_text gs (n - len)) (touch_named g.label n) ≡ []
    later len true e late is = is
    later len false e late is = absurd (late (after len n e))

-- a command that is no touch
pub other : (fs : List Wanted) (kind : Kind) (n : ℕ) → (kind ≡ PtMeas → ⊥) → touch_of fs kind n ≡ []
other fs PtMeas n touches = absurd (touches refl)
other fs kind n touches = refl
