-- The names of other files that contracts of this crate cite.
pub use Rattle.std.specs.List.{flat_map, list_all}
pub use Rattle.contact_ledger.specs.Fields.{point_fields}
unfoldable pub use Rattle.deviations.specs.Compared.{point_words}
pub use Rattle.deviations.specs.Records.{along_fields, deviation_fields, limit_fields, measured_fields, verdict_field}
pub use Rattle.fixed_um.specs.Calls.{Writes}
unfoldable pub use Rattle.fixed_um.specs.Written.{written}
pub use Rattle.fixed_um.specs.Written.{three_digits}
pub use Rattle.drawings.specs.BarCells.{bar_cell, bar_length, greatest, turn}
unfoldable pub use Rattle.drawings.specs.Bars.{bar_text}
pub use Rattle.drawings.specs.Bars.{AreBars, IsBar, IsLongest}
unfoldable pub use Rattle.drawings.specs.Drawing.{head_text}
pub use Rattle.drawings.specs.Drawing.{IsDrawing, IsDrawingOf}
pub use Rattle.drawings.specs.Examples.{limits, on_x, open_row, range, row, wanted, worst}
unfoldable pub use Rattle.drawings.specs.Footer.{caption_text, counts_text, legend_marks, legend_words, ratio_text}
pub use Rattle.drawings.specs.Footer.{IsFooter, asked_count, is_measured, magnified_words, measured_count}
unfoldable pub use Rattle.drawings.specs.Labels.{bullet_text, label_text, leader_text, more_text, name_text}
pub use Rattle.drawings.specs.Labels.{Anchor, AreHighest, AreLabels, AreOnLines, AreOrdered, DoNotCross, anchors_from, bullet_start, label_at, line_for, more_if_any, most_labels}
unfoldable pub use Rattle.drawings.specs.Marks.{done_dot, dots_text, gap_text, line_start, open_dot, way_spot, way_text, whisker, whiskers_text}
pub use Rattle.drawings.specs.Marks.{colour_of, is_sideways, spot_of, thickness_for, thinned}
unfoldable pub use Rattle.drawings.specs.Markup.{between}
pub use Rattle.drawings.specs.Markup.{cell, cells}
unfoldable pub use Rattle.drawings.specs.Pages.{audit_text, broken_end, broken_start, check_calls, complete_text, style, summary_text, within_line}
pub use Rattle.drawings.specs.Pages.{IsPage, audit_start, complete_start, digest_line, errors_text, page_end, limits_text, missing_label, names_text, notes_text, broken_text, page_head, program_line, program_text, seals_text, title_of, verdict_text, within_start, within_text}
unfoldable pub use Rattle.drawings.specs.Pictures.{arrow_text, arrows_text, axes_text, letters_text, picture_text, span_text, title_text}
unfoldable pub use Rattle.drawings.specs.Places.{height_in}
pub use Rattle.drawings.specs.Places.{IsBetween, IsWider, place_of}
pub use Rattle.drawings.specs.Placing.{AreViews, views_room}
unfoldable pub use Rattle.drawings.specs.Scales.{denominator, numerator, on_paper}
pub use Rattle.drawings.specs.Scales.{AreShort, Fits, IsScaleFor, length_limit, round, tenths}
unfoldable pub use Rattle.drawings.specs.Sections.{range_line, row_text, section_text, titles}
pub use Rattle.drawings.specs.Sections.{heading, heading_end, limit_text, limit_title, number_cells, range_text, row_class, row_start, rows_text, sections_text, worst_text}
pub use Rattle.drawings.specs.Sheet.{margin}
unfoldable pub use Rattle.drawings.specs.Stops.{stops_of}
pub use Rattle.drawings.specs.Stops.{act_by, first_with_any, is_asked, later_with, next_points, points_with, stops_at, touches_among, zero_of, zero_with}
unfoldable pub use Rattle.drawings.specs.Texts.{attribute, disc_text, frame_text, line_text, markup, millimetres, text_element, text_start}
pub use Rattle.drawings.specs.Texts.{Adds, escaped, escaped_byte, is_plain, shown_name, spot_text, text_end}
unfoldable pub use Rattle.drawings.specs.Title.{given_title}
pub use Rattle.drawings.specs.Title.{title_words, titled}
pub use Rattle.drawings.specs.Views.{IsInView, moved, part_of, tip_of, upright_of}
pub use Rattle.drawings.specs.Whiskers.{AreWhiskers, IsAtMost, IsLongestAway, NotLonger, one_length, whisker_room}
