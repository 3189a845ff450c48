use Rattle.run_session.proofs.Names.{◌≡◌, ◌++◌, drop, map}
use Rattle.std.specs.Prelude.{string_bytes}
use Rattle.std.specs.List.{flat_map}
use Rattle.run_session.specs.Errors.{error_kept, error_line, with_about}
use Rattle.run_session.proofs.errors.Errors.add_all.Given as goal

-- the errors so far, and those that are left
abbrev pub invariant-loop-report : goal.invariant-loop-report
invariant-loop-report l = (l.self ≡ record (l.fn.self) { errors = l.self.errors })
    × (l.self.errors ++ map error_kept (drop l.report-index l.reports) ≡ l.fn.self.errors ++ map error_kept l.reports)
    × (l.self.lost ≡ l.fn.self.lost)
    × (string_bytes l.shown ++ flat_map (error_line (drop l.fn.self.kept l.program) l.fn.self.lines) (map (with_about l.fn.self.sent) (drop l.report-index l.reports))
    ≡ string_bytes l.fn.shown ++ flat_map (error_line (drop l.fn.self.kept l.program) l.fn.self.lines) (map (with_about l.fn.self.sent) l.reports))
