-- The fault of a component, from the reading of a direction whose other components are zero.
use Rattle.program_review.proofs.Outside.{◌≡◌, ap, codes, component_limit, Err, false≢true, fault_in, inl, inr, is_some, List, None, NumeralFault, Ok}
use Rattle.program_review.proofs.Outside.{Option, pos, Reads, ReadsDirection, Result, Some, sym, value_of, value_of-is, ℕ, ℤ}
use Rattle.fixed_um.specs.Shapes.{Direction}
use Rattle.fixed_um.specs.Scan.{exponent_of, numeral_of}
use Rattle.program_review.specs.Numerals.{component_fault}

-- the fault of a direction
abbrev pub direction_fault : Result (Option Direction) NumeralFault → Option NumeralFault
direction_fault (Ok direction) = None
direction_fault (Err fault) = Some fault

reading_fault : (text : List ℕ) (r : Result ℤ NumeralFault) → Reads 6 component_limit text r → fault_in r ≡ component_fault text
unfolding component_fault
reading_fault text r h = sym (ap fault_in (value_of-is 6 component_limit text r h))

zero_reads : (e : NumeralFault) → Reads 6 component_limit (codes "0") (Err e) → ⊥
unfolding numeral_of exponent_of
zero_reads e h = false≢true (ap (λ (r : Result ℤ NumeralFault). is_some (fault_in r)) (value_of-is 6 component_limit (codes "0") (Err e) h))

pub component_fault-is : (text : List ℕ) (r : Result (Option Direction) NumeralFault) → ReadsDirection text (codes "0") (codes "0") r
    → direction_fault r ≡ component_fault text
component_fault-is text (Ok (Some d)) h = reading_fault text (Ok d.i) h.0
component_fault-is text (Ok None) h = reading_fault text (Ok (pos 0)) h.0
component_fault-is text (Err e) (inl h) = reading_fault text (Err e) h
component_fault-is text (Err e) (inr (inl h)) = absurd (zero_reads e h.2)
component_fault-is text (Err e) (inr (inr h)) = absurd (zero_reads e h.4)
