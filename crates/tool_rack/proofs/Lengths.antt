-- What fixed_um's reader answers, as the function of the definitions gives it.
use Rattle.std.proofs.Common.{◌≡◌, ℕ, List, ℤ, pos, Result, sym, ap, ◌∙◌}
use Rattle.std.specs.Prelude.{unsigned_abs}
use Rattle.fixed_um.specs.Limits.{volume_limit}
use Rattle.fixed_um.specs.Computed.{value_of}
use Rattle.fixed_um.specs.Numerals.{Reads}
use Rattle.fixed_um.specs.declared.numerals.NumeralFault.{NumeralFault}
use Rattle.fixed_um.proofs.ComputedLemmas.{value_of-is}
use Rattle.tool_rack.specs.Entries.{length_of}

pub length_of-is : (text : List ℕ) (limit : ℤ) (r : Result ℤ NumeralFault) → limit ≡ pos volume_limit → Reads 3 (unsigned_abs limit) text r
    → length_of text ≡ r
unfolding length_of
length_of-is text limit r e h = ap (λ (n : ℤ). value_of 3 (unsigned_abs n) text) (sym e) ∙ value_of-is 3 (unsigned_abs limit) text r h
