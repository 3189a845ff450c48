-- The names of the crates below, and of the definitions of this one, that its proofs use.
pub use Rattle.line_framing.specs.Content.{AreLines, is_content, IsLine, line_bytes}
pub use Rattle.line_framing.specs.Next.{BeginsWith, behind_content, content_len, content_of, ending, Front, IsFound, Next, next_of, verdict}
pub use Rattle.line_framing.specs.Stream.{AreSame, fault_in, fault_of, is_bad_end, IsRead, IsStream, TakesFirst}
pub use Rattle.line_framing.specs.declared.faults.FramingFault.{FramingFault}
pub use Rattle.line_framing.specs.declared.faults.FramingFault.TheVariants.{BadByte, LineTooLong}
pub use Rattle.std.proofs.Common.{[], ◌%◌, ◌&&◌, ◌++◌, ◌+◌, ◌-◌, ◌<◌, ◌==◌, ◌^◌, ◌||◌, ◌∙◌, ◌∷◌, ◌≡◌, ◌≤◌, ap, append-nil, append_assoc, ap₂, arith}
pub use Rattle.std.proofs.Common.{Bool, cond, drop, drop-drop, eq-eqb, eqb, eqb-true, Err, false, Fits, get_or, IfOk, if◌then◌else◌, inl, inr, IsNone}
pub use Rattle.std.proofs.Common.{le-ltb, length, length-append, length-drop, length-take, List, lt-ltb, ltb, ltb-false, ltb-true, map, ne_eqb, None}
pub use Rattle.std.proofs.Common.{not, Ok, Option, refl, Result, Some, subst, suc, sym, take, take-append-drop, true, true≢false, w8, zero, ℕ}
pub use Rattle.std.proofs.lemmas.Bool.{agree_below, agree_below_at, and_from, and_parts, cases_eq, cond-false, cond-true, false≢true, not-false}
pub use Rattle.std.proofs.lemmas.List.Folds.{length-prefix_len, prefix_len-append}
pub use Rattle.std.proofs.lemmas.List.Sums.{prefix_len-le-length, prefix_len_is}
pub use Rattle.std.proofs.lemmas.Simd.{chunk-drop, chunk-fits, leading_from_mask_l, length-chunk, map-map, mask_l-mod, trailing_mask_l, zip2-map}
pub use Rattle.std.proofs.lemmas.Simd.{zip2_splat}
pub use Rattle.std.specs.List.{list_all, prefix_len}
