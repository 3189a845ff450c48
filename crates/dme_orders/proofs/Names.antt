-- The names of the crates below, and of the definitions of this one, that its proofs use.
pub use Rattle.contact_ledger.specs.declared.acts.Act.{Act}
pub use Rattle.order_parts.specs.Ends.{ends_shown, first_client, first_server}
pub use Rattle.dme_orders.specs.Missing.{labels_of, more_labels}
pub use Rattle.dme_orders.specs.Orders.{blamed, Carries, IsTorn, no_memory, Prints, torn, Went, went}
pub use Rattle.dme_orders.specs.Simulating.{AreTraced, IsPlayed, IsShown, LeavesLines, LeavesReport, shown_of, ShowsLines}
pub use Rattle.dmis_program.specs.Meaning.{Meaning}
pub use Rattle.link_world.specs.Machines.{simulated}
pub use Rattle.link_world.specs.Reports.{report_text}
pub use Rattle.link_world.specs.Schedules.{Plays, PlaysTraced}
pub use Rattle.link_world.specs.declared.texts.schedules.Instruction.{Instruction}
pub use Rattle.protocol_model.specs.World.{start, World}
pub use Rattle.protocol_model.specs.declared.states.State.{State}
pub use Rattle.std.proofs.Common.{[], ◌++◌, ◌<◌, ◌∙◌, ◌∷◌, ◌≡◌, ◌⊎◌, ap, arith, Bool, codes, drop}
pub use Rattle.std.proofs.Common.{Err, false, IfErr, IfOk, inl, inr, IsErrAnd, length, List, map, None, Ok, OnErr, OnOk, Option, refl}
pub use Rattle.std.proofs.Common.{Result, rules, Some, string_bytes, subst, sym, true, ℕ}
pub use Rattle.std.specs.List.{AllByRecursion, flat_map}
pub use Rattle.tool_rack.specs.Setups.{SetupValue}
