-- The names of other files that contracts of this crate cite.
pub use Rattle.std.specs.Int.{int_min}
pub use Rattle.std.specs.List.{AllByRecursion, AllZip, list_all, prefix_len}
pub use Rattle.client_core.specs.Clients.{are_ours, is_ours}
pub use Rattle.contact_ledger.specs.Fields.{point_fields}
pub use Rattle.contact_ledger.specs.Ledgers.{HaveOrigins}
pub use Rattle.csv.specs.Records.{partial_of}
pub use Rattle.csv.specs.Writing.{default_writer, row_text}
pub use Rattle.dmis_program.specs.Programs.{IsFeature, IsTouch}
pub use Rattle.fixed_um.specs.Calls.{Writes}
pub use Rattle.fixed_um.specs.Limits.{component_limit, volume_limit}
pub use Rattle.fixed_um.specs.Points.{IsInVolume}
pub use Rattle.fixed_um.specs.Shapes.{Direction}
unfoldable pub use Rattle.fixed_um.specs.Written.{written, written_component}
pub use Rattle.json.specs.Lex.{tokens}
pub use Rattle.json.specs.Token.{key, null, number, string}
unfoldable pub use Rattle.tool_rack.specs.Entries.{length_of}
pub use Rattle.deviations.specs.Along.{IsAlong, IsDeviation, IsNearestRoot, deviation, deviation_limit, on_side_of, scalar_product, squared, squared_length}
unfoldable pub use Rattle.deviations.specs.Compared.{part_text, point_words, worst_line}
pub use Rattle.deviations.specs.Compared.{compared_count, compared_text, feature_text, features_text, is_out, margin, out_count, worse, worse_row, worst_after, worst_text, worst_words}
unfoldable pub use Rattle.deviations.specs.Entries.{entry_on}
pub use Rattle.deviations.specs.Entries.{is_in_micrometres, is_no_exponent, label_in, length_in, limit_from}
unfoldable pub use Rattle.deviations.specs.Json.{along_member, asked_members, connection_member, count_member, deviation_members, feature_member, found_members, kind_member, limit_member, means_members, measured_members, nominal_members, normal_members, place_members, row_tokens, tool_member}
pub use Rattle.deviations.specs.Json.{Puts, array_text, component_member, components_of, json_of, json_tokens, kind_of, length_member, length_members, length_or_null, null_members, place_of, verdict_member}
unfoldable pub use Rattle.deviations.specs.Limits.{limits_of}
pub use Rattle.deviations.specs.Limits.{GivesLimits, IsDue, common_range, is_named, judged, own_range, range_for, range_under}
pub use Rattle.deviations.specs.Ranges.{range_between, verdict_in}
pub use Rattle.deviations.specs.Records.{Joins, along_fields, connection_fields, csv_text, deviation_fields, frame_columns, header, limit_header, measured_fields, normal_fields, record_of, records_text, verdict_field}
pub use Rattle.deviations.specs.Rows.{IsAlongNormal, IsAway, IsRow, connection_of, feature_places, missing_places, open_places, places_from, places_of}
pub use Rattle.deviations.specs.declared.along.Deviation.{Deviation}
pub use Rattle.deviations.specs.declared.faults.RowsFault.TheVariants.{NotOurs}
pub use Rattle.deviations.specs.declared.ranges.Verdict.TheVariants.{Inside}
