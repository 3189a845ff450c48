use Rattle.program_review.proofs.Outside.{◌∙◌, ◌≡◌, ap, fault_in, List, NumeralFault, pos, Reads, Result, sym, unsigned_abs, value_of, value_of-is}
use Rattle.program_review.proofs.Outside.{volume_limit, ℕ, ℤ}
use Rattle.program_review.specs.Lengths.{length_fault}
use Rattle.program_review.proofs.numerals.length_fault.Goals as goal

length_fault-is : (text : List ℕ) (limit : ℤ) (r : Result ℤ NumeralFault) → limit ≡ pos volume_limit → Reads 3 (unsigned_abs limit) text r
    → fault_in r ≡ length_fault text
unfolding length_fault
length_fault-is text limit r e h = sym (ap (λ (n : ℤ). fault_in (value_of 3 (unsigned_abs n) text)) (sym e)
    ∙ ap fault_in (value_of-is 3 (unsigned_abs limit) text r h))

pub returns-in-Ok : goal.returns-in-Ok
returns-in-Ok c = rw c.in-Ok.is at (length_fault-is c.args.text.now c.volume_limit.result c.read_um.result c.volume_limit.ensures
    c.read_um.ensures)

pub returns-in-Err : goal.returns-in-Err
returns-in-Err c = rw c.in-Err.is at (length_fault-is c.args.text.now c.volume_limit.result c.read_um.result c.volume_limit.ensures
    c.read_um.ensures)
