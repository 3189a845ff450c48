-- The names of other files that contracts of this crate cite.
pub use Rattle.std.specs.List.{prefix_len}
pub use Rattle.dmis_program.specs.Offsets.{AreFrames}
pub use Rattle.fixed_um.specs.Calls.{Leads}
pub use Rattle.fixed_um.specs.Limits.{volume_limit}
pub use Rattle.fixed_um.specs.Points.{IsInVolume}
pub use Rattle.tool_rack.specs.Carrying.{read_line, setup_more}
unfoldable pub use Rattle.tool_rack.specs.Entries.{entry_on, fields_entry, length_of}
pub use Rattle.tool_rack.specs.Entries.{IsEntryInVolume, frame_entry, point_of, shift_entry, tool_entry}
unfoldable pub use Rattle.tool_rack.specs.Fields.{fields_of}
pub use Rattle.tool_rack.specs.Fields.{has_outer_space, is_dropped, is_word}
unfoldable pub use Rattle.tool_rack.specs.Setups.{setup_of}
pub use Rattle.tool_rack.specs.Setups.{GivesSetup, IsDue, entries_from, has_name, is_twice, judged, shift_at}
pub use Rattle.tool_rack.specs.Spacing.{IsSpaced}
pub use Rattle.tool_rack.specs.declared.entries.Entry.{Entry}
pub use Rattle.tool_rack.specs.declared.faults.SetupFault.{SetupFault}
