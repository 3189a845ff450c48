-- The names of the crates below, and of the definitions of this one, that its proofs use.
pub use Rattle.dmis_program.specs.declared.steps.Step.{Step}
pub use Rattle.drawings.specs.Extents.{AreFilled, AreNearest, AreWithin, x_of, y_of, z_of}
pub use Rattle.drawings.specs.Footer.{asked_count, caption_text, IsFooter, legend_marks, legend_words, measured_count}
pub use Rattle.drawings.specs.Labels.{Anchor, anchors_from, AreHighest, AreLabels, labels_at, line_for, lowest_line, MayStand, more_if_any}
pub use Rattle.drawings.specs.Marks.{done_dot, open_dot, way_spot, whisker}
pub use Rattle.drawings.specs.Named.{farther, farthest, touch_place}
pub use Rattle.drawings.specs.BarCells.{magnitude}
pub use Rattle.drawings.specs.Pages.{missing_label}
pub use Rattle.drawings.specs.Sections.{rows_text, sections_text}
pub use Rattle.drawings.specs.Scales.{Fits, on_paper, round}
pub use Rattle.drawings.specs.Stops.{later_features, later_with, points_left, points_with, stops_at, stops_from, stops_of, touches_among, zero_below, zero_with}
pub use Rattle.drawings.specs.Texts.{Adds, escaped, escaped_byte, is_plain, markup}
pub use Rattle.drawings.specs.Whiskers.{AreWhiskers, IsAtMost, IsLongestAway, NoneLonger, NotLonger}
pub use Rattle.drawings.specs.declared.marks.Mark.{Mark}
pub use Rattle.drawings.specs.declared.places.Place.{Place}
pub use Rattle.drawings.specs.declared.walk.Stop.{Stop}
pub use Rattle.std.proofs.Common.{[], ◌*◌, ◌++◌, ◌+◌, ◌-◌, ◌<◌, ◌∙◌, ◌∷◌, ◌≡◌, ◌≤ℤ◌, ◌≤◌, ap, append-nil, append_assoc, arith, codes, drop, length}
pub use Rattle.std.proofs.Common.{length-take-le, List, max, min, mul-le-mul, refl, suc, sym, take_all, true, ◌^◌, ℕ, ℤ}
pub use Rattle.std.proofs.Math.Nat.{le-max_left, le-max_right, max-le}
pub use Rattle.std.proofs.lemmas.Int.{ints}
pub use Rattle.std.proofs.lemmas.Result.{on_ok_weaker}
pub use Rattle.std.specs.List.{AllByRecursion, AllZip, flat_map, list_all}
pub use Rattle.std.specs.Prelude.{fold}
