-- Lines that are passed one by one.
use Rattle.program_review.proofs.Outside.{◌+◌, ◌-◌, ◌<◌, ◌∙◌, ◌≡◌, ◌≤◌, ap, arith, drop, drop-drop, length, length-drop, List, min, ℕ}

-- that many lines of all are passed
pub record IsPassed (number left : ℕ) (all rest : List (List ℕ)) : Type 0 where
  pub are_left : rest ≡ drop (number - left) all
  pub down : left ≤ number
  pub up : min 1 number ≤ left
  pub inside : number - left ≤ length all - 1

-- the lines from the one that is asked for
abbrev pub asked : ℕ → List (List ℕ) → List (List ℕ)
asked number all = drop (min (number - 1) (length all - 1)) all

as_many : (number left : ℕ) (all rest : List (List ℕ)) → IsPassed number left all rest → length rest ≡ length all - (number - left)
as_many number left all rest p = ap length p.are_left ∙ length-drop (number - left) all

-- the number of the line that is asked for, counted from 0
abbrev pub asked_index : ℕ → List (List ℕ) → ℕ
asked_index number all = min (number - 1) (length all - 1)

here : (number left : ℕ) (all rest : List (List ℕ)) → IsPassed number left all rest → number - left ≡ asked_index number all
    → rest ≡ asked number all
here number left all rest p e = p.are_left ∙ ap (λ k. drop k all) e

-- all lines before the one that is asked for are passed
pub at_number : (number left : ℕ) (all rest : List (List ℕ)) → IsPassed number left all rest → left ≤ 1
    → number - left ≡ asked_index number all
at_number number left all rest p h = let d = p.down in let u = p.up in let i = p.inside in omega arith

-- there is no further line
pub at_last : (number left : ℕ) (all rest : List (List ℕ)) → IsPassed number left all rest → 1 < left → length rest ≤ 1
    → number - left ≡ asked_index number all
at_last number left all rest p h e =
    let m = as_many number left all rest p in
    let d = p.down in let u = p.up in let i = p.inside in omega arith

-- so the lines from there on are those that are asked for
pub asked_there : (number left : ℕ) (all rest : List (List ℕ)) → IsPassed number left all rest → number - left ≡ asked_index number all
    → rest ≡ asked number all
asked_there number left all rest p e = here number left all rest p e

-- one line more is passed, and there is a further one
pub one_more : (number left : ℕ) (all rest after : List (List ℕ)) → IsPassed number left all rest → 1 < left → after ≡ drop 1 rest
    → 0 < length after → IsPassed number (left - 1) all after
one_more number left all rest after p h e f =
    let d = p.down in let u = p.up in let i = p.inside in
    let n : length after ≡ length rest - 1 = ap length e ∙ length-drop 1 rest in
    let m = as_many number left all rest p in
    let k : number - left + 1 ≡ number - (left - 1) = omega arith in
    record {
      are_left = e ∙ (ap (drop 1) p.are_left ∙ (drop-drop 1 (number - left) all ∙ ap (λ j. drop j all) k));
      down = omega arith;
      up = omega arith;
      inside = omega arith;
    }
