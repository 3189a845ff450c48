-- The names of the crates below, and of the definitions of this one, that its proofs use.
pub use Rattle.contact_ledger.specs.ContactTexts.{act_fields, act_line, AreContactLines, AreEntries, contact_lines, contacts_text, homed_field}
pub use Rattle.contact_ledger.specs.ContactTexts.{IsContacts, IsDamagedContacts, IsEntry, IsWrittenAct}
pub use Rattle.contact_ledger.specs.Damage.{ReadsFault, ReadsText}
pub use Rattle.contact_ledger.specs.FeatureTexts.{AreFeatureLines, AreFeatures, CanBeWritten, feature_lines, features_text, header, IsDamagedFeatures}
pub use Rattle.contact_ledger.specs.FeatureTexts.{IsFeature, IsFeatures, IsKnown, IsOpening, IsTorn, IsWrittenOrigin, known_fields, lines_of_all}
pub use Rattle.contact_ledger.specs.FeatureTexts.{opening_line, opening_of, origin_fields, point_line}
pub use Rattle.contact_ledger.specs.Fields.{direction_fields, frame_fields, IsFrame, IsLength, IsOnWire, IsTouch, point_fields}
pub use Rattle.contact_ledger.specs.Lines.{but_last, fields_behind, fields_of, line_of, spaced, text_of, whole_lines}
pub use Rattle.contact_ledger.specs.Places.{AddsPoint, feature_of, IsSound, Next}
pub use Rattle.contact_ledger.specs.declared.acts.Act.{Act}
pub use Rattle.contact_ledger.specs.declared.faults.TextFault.{TextFault}
pub use Rattle.contact_ledger.specs.declared.faults.TextFault.TheVariants.{Damaged, Memory}
pub use Rattle.contact_ledger.specs.declared.features.Feature.{Feature}
pub use Rattle.contact_ledger.specs.declared.features.Origin.{Origin}
pub use Rattle.contact_ledger.specs.declared.openings.Opening.{Opening}
pub use Rattle.contact_ledger.specs.declared.openings.Version.{Version}
pub use Rattle.contact_ledger.specs.declared.openings.Version.TheVariants.{First, Second}
pub use Rattle.contact_ledger.specs.declared.places.Place.{Place}
pub use Rattle.contact_ledger.specs.declared.places.Place.TheVariants.{Between, Start, Within}
pub use Rattle.fixed_um.proofs.WrittenLemmas.{direction_reads_back, written_reads_back}
pub use Rattle.fixed_um.specs.Limits.{component_limit, wire_limit}
pub use Rattle.fixed_um.specs.Names.{is_name_byte, IsName}
pub use Rattle.fixed_um.specs.Shapes.{Direction, IsDirection}
pub use Rattle.fixed_um.specs.Written.{last_digit, minus_sign, six_digits, three_digits, written, written_component, written_direction}
pub use Rattle.fixed_um.specs.declared.frames.Frame.{Frame}
pub use Rattle.fixed_um.specs.declared.frames.Frame.TheVariants.{Machine, Part}
pub use Rattle.fixed_um.specs.declared.lengths.Point.{Point}
pub use Rattle.std.proofs.Common.{[], ◌*◌, ◌++◌, ◌+◌, ◌-◌, ◌/◌, ◌<◌, ◌^◌, ◌∙◌, ◌∷◌, ◌≡◌, ◌≤◌, ap, append-nil, append_assoc, arith, Bool, codes, cond}
pub use Rattle.std.proofs.Common.{decimal, drop, drop-drop, eqb, Err, false, get_or, if◌then◌else◌, inl, inr, le-leb, leb-true, length, length-append}
pub use Rattle.std.proofs.Common.{length-drop, List, ltb, ltb-false, ltb-true, map, nat_le, ne_eqb, negsuc, None, not, Ok, OnOk, Option, pos, refl}
pub use Rattle.std.proofs.Common.{Result, rules, slice_index, Some, subst, suc, sym, take, take_all, true, unsigned_abs, zero, ℕ, ℤ}
pub use Rattle.std.proofs.lemmas.Bool.{and_from, and_parts}
pub use Rattle.std.proofs.lemmas.Fmt.{decimal_injective, decimal_is_IsNumeral, IsAscii-decimal, parse-decimal}
pub use Rattle.std.proofs.lemmas.List.Folds.{list_all-append}
pub use Rattle.std.proofs.lemmas.List.Splits.{join_with_byte-slice_split, length-slice_split, slice_split_first}
pub use Rattle.std.specs.List.{AllByRecursion, list_all, position, position_or_len, slice_split}
pub use Rattle.std.specs.Result.{is_ok, IsErr, IsErrAnd}
pub use Rattle.std.specs.Str.Parse.{AllDigits, ParsesUnsigned}
