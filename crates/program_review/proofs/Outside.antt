-- The names of the crates below, and of the definitions of this one, that its proofs use.
pub use Rattle.dmis_text.specs.Reading.{text_reading, Unread}
pub use Rattle.dmis_text.specs.declared.elements.Statement.{Statement}
pub use Rattle.fixed_um.proofs.ComputedLemmas.{value_of-is}
pub use Rattle.fixed_um.specs.Computed.{value_of}
pub use Rattle.fixed_um.specs.Limits.{component_limit, volume_limit}
pub use Rattle.fixed_um.specs.Numerals.{Reads, ReadsDirection}
pub use Rattle.fixed_um.specs.declared.numerals.NumeralFault.{NumeralFault}
pub use Rattle.program_review.specs.BadBytes.{has_bad_byte}
pub use Rattle.program_review.specs.Blocks.{open_block, OpenBlock, opened_by}
pub use Rattle.program_review.specs.Lengths.{fault_in}
pub use Rattle.program_review.specs.Lines.{after_feeds, first_of, line_of, lines_from, shown_from, visible_in_line}
pub use Rattle.program_review.specs.Reasons.{IsOfPlace, IsProgramReason, Spot, spot_at, spot_of}
pub use Rattle.program_review.specs.Spots.{after_word}
pub use Rattle.program_review.specs.Words.{Caused, caused_by, is_at}
pub use Rattle.std.proofs.Common.{[], ◌++◌, ◌+◌, ◌-◌, ◌<◌, ◌==◌, ◌∙◌, ◌∷◌, ◌≡◌, ◌≢◌, ◌≤◌, ap, arith, Bool, codes, cond, drop, drop-drop, eqb, Err}
pub use Rattle.std.proofs.Common.{false, find, fold, IfSome, inl, inr, length, length-drop, length-take-le, List, ltb, ltb-false}
pub use Rattle.std.proofs.Common.{min, nat_lt, ne_eqb, None, not, Ok, Option, pos, refl, Result, rules, slice_get, slice_index, Some}
pub use Rattle.std.proofs.Common.{string_bytes, subst, suc, sym, take, true, unsigned_abs, zero, ℕ, ℤ}
pub use Rattle.std.proofs.lemmas.Bool.{false≢true}
pub use Rattle.std.proofs.lemmas.List.{drop_all}
pub use Rattle.std.proofs.lemmas.Result.{IfOk-weaker}
pub use Rattle.std.specs.List.{flat_map, position, position_or_len, prefix_len, range_with_len, suffix_len}
pub use Rattle.std.specs.Option.{is_some, option_map}
pub use Rattle.std.specs.Str.Lines.{lines}
