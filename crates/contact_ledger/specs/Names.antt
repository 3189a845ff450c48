-- The names of other files that contracts of this crate cite.
pub use Rattle.std.specs.List.{AllByRecursion, position}
pub use Rattle.fixed_um.specs.Calls.{Finds, Leads, Shows, Writes}
pub use Rattle.fixed_um.specs.Names.{IsName}
pub use Rattle.fixed_um.specs.Numerals.{ReadsDirection}
pub use Rattle.fixed_um.specs.Shapes.{Direction, IsDirection}
unfoldable pub use Rattle.fixed_um.specs.Written.{written, written_component}
pub use Rattle.fixed_um.specs.declared.frames.Frame.{Frame}
pub use Rattle.fixed_um.specs.declared.lengths.Point.{Point}
pub use Rattle.contact_ledger.specs.ContactTexts.{AreEntries, IsContacts, IsDamagedContacts, IsEntry, IsWrittenAct, act_fields, act_line, contacts_text, homed_field}
pub use Rattle.contact_ledger.specs.Damage.{ReadsText}
pub use Rattle.contact_ledger.specs.FeatureTexts.{AreFeatures, CanBeWritten, IsDamagedFeatures, IsFeature, IsFeatures, IsKnown, IsOpening, IsWrittenOrigin, feature_lines, features_text, header, known_fields, lines_of_all, opening_line, origin_fields, point_line}
pub use Rattle.contact_ledger.specs.Fields.{IsFrame, IsLength, IsOnWire, IsTouch, direction_fields, frame_fields, point_fields}
pub use Rattle.contact_ledger.specs.Ledgers.{IsConnection, IsOrigin, is_contact}
unfoldable pub use Rattle.contact_ledger.specs.Lines.{fields_of, whole_lines}
pub use Rattle.contact_ledger.specs.Lines.{fields_behind, spaced, text_of}
pub use Rattle.contact_ledger.specs.Places.{IsSound, Next}
pub use Rattle.contact_ledger.specs.declared.acts.Act.{Act}
pub use Rattle.contact_ledger.specs.declared.faults.TextFault.TheVariants.{Damaged}
pub use Rattle.contact_ledger.specs.declared.features.Feature.{Feature}
pub use Rattle.contact_ledger.specs.declared.openings.Version.{Version}
pub use Rattle.contact_ledger.specs.declared.openings.Version.TheVariants.{Second}
pub use Rattle.contact_ledger.specs.declared.places.Place.{Place}
pub use Rattle.contact_ledger.specs.declared.places.Place.TheVariants.{Between, Start, Within}
