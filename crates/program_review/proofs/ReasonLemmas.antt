-- The cause that is shown, from that of the place.
use Rattle.program_review.proofs.Outside.{◌≡◌, Caused, IsOfPlace, IsProgramReason, None, Some, Spot}
use Rattle.program_review.proofs.Outside.{◌-◌, ◌==◌, caused_by, find, length, List, open_block, OpenBlock, Option, refl, Result, slice_get, Statement, subst, ℕ}
use Rattle.std.specs.Prelude.{IfOk}
use Rattle.dmis_program.specs.declared.faults.Refusal.{Refusal}
use Rattle.program_review.specs.Lines.{bytes_from}
use Rattle.program_review.specs.Reasons.{spot_in}
use Rattle.program_review.specs.declared.words.Reason.{Reason}

pub reasoned : (refusal : Refusal) (p : Spot) (c shown : Caused) → IsOfPlace refusal p (Some c) → shown ≡ c → IsProgramReason refusal p shown
reasoned refusal p c shown h e = record { given = Some c; on_place = h; is_shown = e }

pub unreasoned : (refusal : Refusal) (p : Spot) (shown : Caused) → IsOfPlace refusal p None → IsProgramReason refusal p shown
unreasoned refusal p shown h = record { given = None; on_place = h; is_shown = tt }

-- what is known of a line is known as the code keeps it
pub spot_is : (text rest : List ℕ) (n : ℕ) (kept read : List Statement) (statement last : Option Statement) (block : Option OpenBlock)
    → rest ≡ bytes_from n text → kept ≡ read → statement ≡ find (λ s. s.line == n) kept → last ≡ slice_get kept (length kept - 1)
    → block ≡ open_block kept n
    → record { text = text; rest = rest; statement = statement; last = last; block = block } ≡ spot_in text n read
spot_is text rest n kept read statement last block a b d e f = rw (a, d, e, f, b) refl

pub on_spot : {E : Type 0} → (r : Result Reason E) (refusal : Refusal) (p q : Spot) → p ≡ q
    → IfOk r (λ reason. IsProgramReason refusal p (caused_by reason)) → IfOk r (λ reason. IsProgramReason refusal q (caused_by reason))
on_spot r refusal p q e h = subst (λ (x : Spot). IfOk r (λ reason. IsProgramReason refusal x (caused_by reason))) e h
