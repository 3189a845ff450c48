-- The names of the crates below, and of the definitions of this one, that its proofs use.
pub use Rattle.fixed_um.specs.Fronts.{BeginsWithDecimals, BeginsWithDigits, BeginsWithLength, is_length_byte, minus_if}
pub use Rattle.fixed_um.specs.Limits.{component_limit, wire_limit}
pub use Rattle.fixed_um.specs.Names.{folded, is_name_byte, is_name_text, IsName}
pub use Rattle.fixed_um.specs.Numerals.{absent, denominator, given, IsExponent, IsFraction, IsNumeral, IsRounded, IsSign, IsZero, minus, none}
pub use Rattle.fixed_um.specs.Numerals.{nothing, Numeral, numerator, plus, pointed, Reads, ReadsDirection, signed, StandsFor}
pub use Rattle.fixed_um.specs.Rounding.{RoundsUp}
pub use Rattle.fixed_um.specs.Scan.{digits_behind, digits_front, exponent_digits, fraction_behind, fraction_front, is_short_number, numeral_of}
pub use Rattle.fixed_um.specs.Scan.{numeral_with}
pub use Rattle.fixed_um.specs.Shapes.{Direction, IsDirection}
pub use Rattle.fixed_um.specs.Taken.{IsPlain, the_numeral}
pub use Rattle.fixed_um.specs.Written.{last_digit, minus_sign, six_digits, three_digits, written_component}
pub use Rattle.fixed_um.specs.declared.numerals.NumeralFault.{NumeralFault}
pub use Rattle.fixed_um.specs.declared.numerals.NumeralFault.TheVariants.{NotNumeral, TooLarge, TooManyDigits}
pub use Rattle.std.proofs.Common.{[], ◌%◌, ◌&&◌, ◌*ℤ◌, ◌*◌, ◌++◌, ◌+ℤ◌, ◌+◌, ◌-ℤ◌, ◌-◌, ◌/◌, ◌<ℤ◌, ◌<◌, ◌==◌, ◌^◌, ◌||◌, ◌↔◌, ◌∙◌, ◌∷◌, ◌≡◌, ◌≢◌}
pub use Rattle.std.proofs.Common.{◌≤ℤ◌, ◌≤◌, ◌⊎◌, add-one, add-zero, ap, append-nil, append_assoc, arith, Bool, codes, cond, decimal, drop, drop-drop}
pub use Rattle.std.proofs.Common.{drop_at, eq-eqb, eqb-true, Err, false, FitsSigned, get_or, IfNone, IfSome, if◌then◌else◌, inl, inr, IsTrue, le-leb}
pub use Rattle.std.proofs.Common.{leb-false, leb-true, length, length-append, length-drop, length-set, length-take, List, lt-ltb, ltb-true, nat_le}
pub use Rattle.std.proofs.Common.{nat_lt, ne_eqb, negsuc, None, of_z, Ok, Option, pos, pow-add, refl, Result, rules, slice_index, Some, SomeIff}
pub use Rattle.std.proofs.Common.{subst, suc, sym, take, take-append-drop, take_all, take_at, to_z, true, unsigned_abs, vec_capacity, vec_len, zero}
pub use Rattle.std.proofs.Common.{ℕ, ℤ}
pub use Rattle.std.proofs.Math.Nat.{mul-le-mul_right, one-le-pow}
pub use Rattle.std.proofs.Math.Seq.{drop-cons}
pub use Rattle.std.proofs.lemmas.Bool.{and_from, and_parts, both_ways, cases_lt, cond-true, iff_false, or_cases}
pub use Rattle.std.proofs.lemmas.Bool.Decides.{nat_tests}
pub use Rattle.std.proofs.lemmas.Fmt.{decimal_digit, decimal_is_IsNumeral, decimal_step, length-decimal-le}
pub use Rattle.std.proofs.lemmas.Int.{by_lt_z, ints, to_z-of_z}
pub use Rattle.std.proofs.lemmas.List.{drop-set, take_more}
pub use Rattle.std.proofs.lemmas.Option.{cond_some, same_Some}
pub use Rattle.std.specs.Char.{digit_value, is_ascii_digit, to_ascii_uppercase}
pub use Rattle.std.specs.Int.{w32, w64}
pub use Rattle.std.specs.List.{list_all, prefix_len}
pub use Rattle.std.specs.Str.Parse.{AllDigits, digits_value, digits_value_after, starts_with_minus, without_leading_sign}
