-- The names of the crates below, and of the definitions of this one, that its proofs use.
pub use Rattle.contact_ledger.proofs.ContactLaws.{is_inner, IsInner, line_first, without_last}
pub use Rattle.contact_ledger.proofs.EntryLines.{direction_tail, entry_plain, frame_tail, kind}
pub use Rattle.contact_ledger.proofs.PlainFields.{ArePlain, decimal_plain, direction_plain, frame_plain, is_plain, IsPlain, name_plain}
pub use Rattle.contact_ledger.proofs.PlainFields.{plain_fields_append, point_plain}
pub use Rattle.contact_ledger.specs.ContactTexts.{act_fields, act_line, AreContactLines, IsContacts, IsDamagedContacts, IsEntry, IsWrittenAct}
pub use Rattle.contact_ledger.specs.Damage.{ReadsFault, ReadsText}
pub use Rattle.contact_ledger.specs.Fields.{direction_fields, frame_fields, IsFrame, IsOnWire, IsTouch, point_fields}
pub use Rattle.contact_ledger.specs.Lines.{but_last, fields_behind, fields_of, line_of, spaced, text_of, whole_lines}
pub use Rattle.contact_ledger.specs.declared.acts.Act.{Act}
pub use Rattle.contact_ledger.specs.declared.faults.TextFault.{TextFault}
pub use Rattle.contact_ledger.specs.declared.faults.TextFault.TheVariants.{Damaged, Memory}
pub use Rattle.dme_line.specs.Tags.{four_digits, written_tag}
pub use Rattle.dme_line.specs.declared.tags.Tag.{Tag}
pub use Rattle.fixed_um.specs.Shapes.{Direction}
pub use Rattle.fixed_um.specs.Written.{last_digit, written_component}
pub use Rattle.fixed_um.specs.declared.frames.Frame.{Frame}
pub use Rattle.fixed_um.specs.declared.frames.Frame.TheVariants.{Machine}
pub use Rattle.fixed_um.specs.declared.lengths.Point.{Point}
pub use Rattle.line_framing.specs.Content.{is_content}
pub use Rattle.protocol_model.specs.Claims.{AreRuns, contacts, IsRun, IsServed, MadeContact, Serves, Sound}
pub use Rattle.std.proofs.Common.{[], ◌*◌, ◌++◌, ◌+◌, ◌-◌, ◌/◌, ◌<◌, ◌==◌, ◌∙◌, ◌∷◌, ◌≡◌, ◌≢◌, ◌≤◌, ap, append-nil, append_assoc, arith, Bool, codes}
pub use Rattle.std.proofs.Common.{decimal, drop, eq-eqb, eqb, eqb-true, Err, false, IfOk, if◌then◌else◌, le-leb, leb-true, length, length-append}
pub use Rattle.std.proofs.Common.{List, map, ne_eqb, None, not, Ok, Option, refl, Result, slice_get, slice_index, Some, subst, suc, sym, take, true}
pub use Rattle.std.proofs.Common.{zero, ℕ}
pub use Rattle.std.proofs.lemmas.Bool.{and_from, and_parts}
pub use Rattle.std.proofs.lemmas.Slice.Eq.{bytes_eq-Decides}
pub use Rattle.std.specs.List.{AllByRecursion, list_all, slice_split}
pub use Rattle.std.specs.Str.{bytes_eq}
pub use Rattle.witness.specs.Numbering.{is_joined, number_of, numbered_from, open_after, second_for}
pub use Rattle.witness.specs.Parts.{IsOtherTold, IsToolName, told_parts}
pub use Rattle.witness.specs.Runs.{AreNext, AreRunContacts, AreToldRuns, connection_at, Doubtful, Ends}
pub use Rattle.witness.specs.Runs.{is_made, IsToldRun, known_contacts, lies_between, Made, parts_of, Passes, SoundByTold, unnumbered}
pub use Rattle.witness.specs.ToldTexts.{AreToldEntries, AreToldLines, AreWrittenEntries, HasNamedTool, IsDamagedTold, IsInDoubt, IsLineText}
pub use Rattle.witness.specs.ToldTexts.{IsNamed, IsPlaced, IsReadTold, IsToldEntry, IsToldText, IsWrittenEntry, IsWrittenTold, last_number}
pub use Rattle.witness.specs.ToldTexts.{NeverFall, read_act, read_back, read_tool, told_file_lines}
pub use Rattle.witness.specs.Texts.{known_frame, rule_name, side_field, told_fields, told_line, told_text, tool_field, unknown_field}
pub use Rattle.witness.specs.declared.lines.Reported.{Reported}
pub use Rattle.witness.specs.declared.lines.Rule.{Rule}
pub use Rattle.witness.specs.declared.lines.Rule.TheVariants.{NoData, NotInTurn, OtherData, OutOfOrder, SecondData, TagInUse, TooMany, UnknownTag}
pub use Rattle.witness.specs.declared.lines.Side.{Side}
pub use Rattle.witness.specs.declared.lines.Side.TheVariants.{Client, Server}
