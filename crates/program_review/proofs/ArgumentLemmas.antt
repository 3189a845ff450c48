-- The last apostrophe, and a parameter with a name.
use Rattle.program_review.proofs.Outside.{◌-◌, ◌<◌, ◌==◌, ◌∙◌, ◌≡◌, ◌≢◌, ◌≤◌, ap, arith, length, length-take-le, List, ne_eqb}
use Rattle.program_review.proofs.Outside.{not, slice_index, suffix_len, sym, take, ℕ}
use Rattle.std.proofs.lemmas.List.Sums.{suffix_len_is}
use Rattle.program_review.proofs.Outside.{Option, Result, Some}
use Rattle.program_review.specs.Arguments.{form_cause, last_apostrophe}
use Rattle.program_review.specs.BadNames.{name_fault}
use Rattle.program_review.specs.Causes.{within_ends}
use Rattle.program_review.specs.Spots.{Site, param_spot}
use Rattle.program_review.specs.Words.{Gives, Named}
use Rattle.program_review.specs.declared.words.Fault.{Fault}

-- it is the one before a place from which on there are no apostrophes
pub last_apostrophe-is : (text : List ℕ) (end : ℕ) → end ≤ length text → ((k : ℕ) → end ≤ k → k < length text → slice_index text k ≢ 39)
    → (0 < end → slice_index text (end - 1) ≡ 39) → end - 1 ≡ last_apostrophe text
last_apostrophe-is text end h none there =
    let s : suffix_len (λ (b : ℕ). not (b == 39)) text ≡ length text - end =
    suffix_len_is (λ (b : ℕ). not (b == 39)) text end 0 h (λ k a b. ap not (ne_eqb (slice_index text k) 39 (none k a b)))
    (λ a. ap (λ (b : ℕ). not (b == 39)) (there a)) in
    let n : length text - suffix_len (λ (b : ℕ). not (b == 39)) text - 1 ≡ end - 1 = omega arith in
    sym (ap (λ (k : ℕ). length (take k text)) n ∙ length-take-le (end - 1) text (omega arith))

-- a parameter of this form is at fault as its name is
pub form_is : {E : Type 0} → (r : Result (Option Fault) E) (p : Site) (n : ℕ) (front param name : List ℕ) (word : Named)
    → Some name ≡ within_ends front param → word ≡ param_spot p.rest p.statement n name → Gives r (name_fault name word)
    → Gives r (form_cause p n front param)
form_is r p n front param name word h e g = rw (← h, ← e) g
