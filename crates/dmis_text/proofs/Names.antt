-- The names of the crates below, and of the definitions of this one, that its proofs use.
pub use Rattle.dmis_text.specs.Begun.{begun_of, grown, is_open, OpenStatement}
pub use Rattle.dmis_text.specs.Contents.{EachStands, is_line, IsContent, IsTrimmed, lacks}
pub use Rattle.dmis_text.specs.Elements.{cut_at, element_of, folded, onto_front, pieces}
pub use Rattle.dmis_text.specs.Ends.{IsBehindEnd, IsCommentEnd}
pub use Rattle.dmis_text.specs.Reading.{content_role, ended, finished, line_role, read_line, Reading, reading_of, reading_with, Role, with_first}
pub use Rattle.dmis_text.specs.Reading.Role.{Continued, Damaged, Dropped, Last, TooLong}
pub use Rattle.dmis_text.specs.Runs.{is_bare, is_in_comment, is_in_line, is_in_text, is_kept, is_passed, is_plain, is_settled, is_unmarked}
pub use Rattle.dmis_text.specs.Runs.{is_unquoted, is_within, lowest_set}
pub use Rattle.dmis_text.specs.Splits.{IsCut, IsSplit, NoneOutside, Says}
pub use Rattle.dmis_text.specs.Splits.Says.{with_label, with_params, word_alone}
pub use Rattle.dmis_text.specs.Statements.{has_open_text, headed, last_element, parted, statement_of}
pub use Rattle.dmis_text.specs.Texts.{all_blank, before_comment, begins_comment, inside_after, is_blank, is_clean, is_continued, may_stand, turned}
pub use Rattle.dmis_text.specs.Texts.{without_end_blanks, without_front_blanks, without_mark}
pub use Rattle.dmis_text.specs.declared.elements.Statement.{Statement}
pub use Rattle.std.proofs.Common.{[], ◌%◌, ◌&&◌, ◌++◌, ◌+◌, ◌-◌, ◌<◌, ◌^◌, ◌||◌, ◌↔◌, ◌∙◌, ◌∷◌, ◌≡◌, ◌≢◌, ◌≤◌, ◌⊎◌, ap, append-nil, append_assoc, ap₂}
pub use Rattle.std.proofs.Common.{arith, Bool, cond, drop, drop-drop, drop_at, eq-eqb, eqb, eqb-true, false, Fits, get_or, IfNone, IfOk, IfSome}
pub use Rattle.std.proofs.Common.{if◌then◌else◌, inl, inr, IsTrue, le-leb, leb, leb-true, length, length-append, length-drop, length-take, List, ltb}
pub use Rattle.std.proofs.Common.{ltb-false, ltb-true, map, nat_le, nat_lt, ne_eqb, None, not, Option, refl, rules, slice_index, Some, subst, suc}
pub use Rattle.std.proofs.Common.{sym, take, take-append-drop, take-take, take_all, take_at, true, true≢false, w8, zero, ℕ}
pub use Rattle.std.proofs.lemmas.Bool.{agree_below, agree_below_at, and_from, and_left, and_parts, and_right, both_ways, cases_eq, cond-false}
pub use Rattle.std.proofs.lemmas.Bool.{cond-true, eqb-false, false≢true, lt-leb, not-false, not-true}
pub use Rattle.std.proofs.lemmas.Bool.Decides.{nat_tests}
pub use Rattle.std.proofs.lemmas.List.{drop-take, drop_all, drop_more, get_or_append_left, get_or_at, length-map, length_push, take_more}
pub use Rattle.std.proofs.lemmas.List.Folds.{list_all-append, list_all_at, prefix_len-append}
pub use Rattle.std.proofs.lemmas.List.Splits.{join_with_byte-slice_split, length-slice_split, slice_split_first}
pub use Rattle.std.proofs.lemmas.List.Sums.{list_all-from_AllPass, prefix_len-le-length, prefix_len_passes, prefix_len_stops}
pub use Rattle.std.proofs.lemmas.Option.{cond_some, some_pair_parts}
pub use Rattle.std.proofs.lemmas.Simd.{chunk-drop, chunk-fits, leading_from_mask_l, length-chunk, map-map, mask_l-mod, splat_is_map, trailing_mask_l}
pub use Rattle.std.proofs.lemmas.Simd.{zip2-map, zip2_splat, zip2_splat_left}
pub use Rattle.std.specs.Char.{to_ascii_uppercase}
pub use Rattle.std.specs.List.{flat_map, join_with_byte, list_all, onto_first, position, position_or_len, prefix_len, slice_split}
pub use Rattle.std.specs.Option.{option_map, unwrap_or}
pub use Rattle.std.specs.Str.Lines.{lines, lines_of_parts, strip_carriage_return}
