-- The names of the crates below, and of the definitions of this one, that its proofs use.
pub use Rattle.dmis_program.specs.Meaning.{Meaning}
pub use Rattle.order_parts.specs.Numbered.{line_under, lines_from, number_behind, number_behind_all, shown_from}
pub use Rattle.order_parts.specs.Pauses.{pauses_from, pauses_of, place_seen}
pub use Rattle.resume_plan.specs.Made.{planned_with}
pub use Rattle.resume_plan.specs.Sendable.{IsSendable}
pub use Rattle.std.proofs.Common.{All, Bool, List, [], ap, append_assoc, arith, cond, drop, eqb-true, false, length, length-append, map, refl, rules}
pub use Rattle.std.proofs.Common.{subst, suc, sym, take, true, zero, ℕ, ◌%◌, ◌++◌, ◌+◌, ◌<◌, ◌==◌, ◌∙◌, ◌∷◌, ◌≡◌}
