use Rattle.witness_laws.proofs.Names.{Bool, list_all, ServerEnd, true, ◌≡◌, ℕ, List}
use Rattle.server_core.specs.Calls.{Call}
use Rattle.witness_laws.specs.Lockstep.{acts_after, all_read, reported, TakesCourse}
use Rattle.witness_laws.specs.Lockstep.TakesCourse.{takes}
use Rattle.witness_laws.specs.Reports.{act_reports, AreReportsOf, breaks_only, some_foreign}
use Rattle.witness_laws.proofs.server.Courses.{reports_of_acts, only_turns_are_broken}
use Rattle.witness_laws.proofs.server_laws.reports_are_what_was_done.Goals as goal

acts : (ordered : Bool) (n : ℕ) (e : ServerEnd) (calls : List Call) → TakesCourse n e calls
    → AreReportsOf (act_reports (reported ordered calls e)) (acts_after n calls e)
acts ordered _ _ _ (takes tools before n calls may course) = reports_of_acts ordered tools before n calls may course

turns : (ordered : Bool) (n : ℕ) (e : ServerEnd) (calls : List Call) → TakesCourse n e calls
    → list_all (breaks_only (some_foreign (all_read calls e))) (reported ordered calls e) ≡ true
turns ordered _ _ _ (takes tools before n calls may course) = only_turns_are_broken ordered tools before n calls may course

pub returns : goal.returns
returns c = record { acts = acts; turns = turns }
