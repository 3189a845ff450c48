-- The names of other files that contracts of this crate cite.
pub use Rattle.std.specs.List.{list_all, position}
pub use Rattle.contact_ledger.specs.ContactTexts.{IsContacts}
pub use Rattle.contact_ledger.specs.Damage.{ReadsText}
pub use Rattle.contact_ledger.specs.Lines.{fields_behind, fields_of}
pub use Rattle.contact_ledger.specs.declared.acts.Act.{Act}
pub use Rattle.contact_ledger.specs.declared.faults.TextFault.TheVariants.{Damaged}
pub use Rattle.contact_ledger.specs.declared.features.Feature.{Feature}
pub use Rattle.dme_line.specs.Tags.{IsTag, four_digits, written_tag}
pub use Rattle.dmis_program.specs.declared.features.Wanted.{Wanted}
pub use Rattle.fixed_um.specs.Calls.{Finds, Leads}
pub use Rattle.fixed_um.specs.Written.{last_digit}
pub use Rattle.fixed_um.specs.declared.frames.Frame.{Frame}
pub use Rattle.line_framing.specs.Content.{is_content}
pub use Rattle.protocol_model.specs.Claims.{IsRun, Sound, contacts}
pub use Rattle.witness.specs.Texts.{known_frame, rule_name, told_line, told_text, tool_field}
pub use Rattle.witness.specs.declared.lines.Reported.{Reported}
pub use Rattle.witness.specs.declared.lines.Reported.TheVariants.{Left, Opened}
pub use Rattle.witness.specs.Either.{AreAudited, IsDamagedAudited, IsToldFile}
pub use Rattle.witness.specs.Numbering.{is_joined, open_after, pushed, second_after}
pub use Rattle.witness.specs.Parts.{IsOtherTold, IsToolName, told_parts}
pub use Rattle.witness.specs.Runs.{AreRunContacts, AreToldRuns, IsToldRun, SoundByTold, is_doubtful, is_end, is_touch, known_contacts, part_of, parts_of}
pub use Rattle.witness.specs.ToldTexts.{AreToldEntries, AreWrittenEntries, IsDamagedTold, IsLineText, IsNamed, IsPlaced, IsToldEntry, IsToldText, NeverFall, entry_back, last_number}
