-- What may be known once a command is done, or has failed, is so.
use Rattle.witness_laws.proofs.Names.{◌==◌, ◌≡◌, all_renewed, ap, below, Command, Csy, eq-eqb, false, Frame, Heard, if_true, Known, Machine}
use Rattle.witness_laws.proofs.Names.{MachineCsy, Mark, None, one_renewed, Option, Part, PartCsy, Point, point_opposite, Progress, refl, Renewal}
use Rattle.witness_laws.proofs.Names.{renewed, SentCommand, Some, Stage, Standing, standing, subst, sym, unless_part, unless_refused, with_mark, ℕ}
use Rattle.witness_laws.proofs.server.Knowing.{pending}
use Rattle.witness_laws.proofs.server.Selected.{Selected, is_change, IsSo, IsSoOne, IsSoTool, IsSoPart, IsSoFrame, nothing_so, still_so}

-- ---- what a command changes

-- nothing is changed by a command that fails
abbrev pub idle : Selected → Selected
idle s = record { changing = false; tool = s.tool; frame = s.frame; stored = s.stored }

abbrev pub framed_by : Csy → Point → Frame
framed_by MachineCsy stored = Machine
framed_by PartCsy stored = Part stored

abbrev pub completed : Command → Selected → Selected
completed (Command.ChangeTool name) s = record { changing = false; tool = Some name; frame = s.frame; stored = s.stored }
completed (Command.SetCsyTransformation p) s = record { changing = false; tool = s.tool; frame = s.frame; stored = point_opposite p }
completed (Command.SetCoordSystem csy) s = record { changing = false; tool = s.tool; frame = framed_by csy s.stored; stored = s.stored }
completed _ s = idle s

-- what is so is so at a server on which no change of tool runs
idle_so : (s : Selected) (k : Known) → s.changing ≡ false → IsSo s k → IsSo (idle s) k
idle_so s k e h = record { tool = subst (λ b. IsSoTool b s.tool k.tool) e h.tool; zero = h.zero; frame = h.frame }

unless_so : (csy : Option (Csy × Standing)) (part : Option (Point × Standing)) (frame : Frame) → IsSoFrame csy part frame
    → IsSoFrame (unless_part csy) part frame
unless_so None part frame h = tt
unless_so (Some (MachineCsy, s)) part frame h = (h.0, h.1)
unless_so (Some (PartCsy, s)) part frame h = tt

without_part : (s : Selected) (k : Known) → IsSo s k
    → IsSo s (record { tool = k.tool; csy = unless_part k.csy; part = k.part; zero = k.zero })
without_part s k h = record { tool = h.tool; zero = h.zero; frame = unless_so k.csy k.part s.frame h.frame }

-- ---- a command fails

pub loses : (n : ℕ) → renewed (Mark n Heard.Failed) (pending n Stage.Received) ≡ None
loses n =
    if_true (n == n) (with_mark (pending n Stage.Received) Progress.Begun Heard.Failed) (unless_refused (pending n Stage.Received) n Heard.Failed)
    (eq-eqb n n refl)

pub stopped_so : (s : Selected) (c : Command) (n : ℕ) (k : Known) → s.changing ≡ is_change c → IsSo s k
    → IsSo (idle s) (all_renewed (Mark n Heard.Failed) (below (Some (pending n Stage.Received)) (SentCommand.Known c) k))
stopped_so s Command.StartSession n k e h = nothing_so (idle s)
stopped_so s Command.EndSession n k e h = nothing_so (idle s)
stopped_so s Command.Home n k e h =
    let still : IsSo s (all_renewed (Mark n Heard.Failed) k) = still_so (Mark n Heard.Failed) s k h in
    record { tool = tt; zero = still.zero; frame = still.frame }
stopped_so s (Command.ChangeTool tool) n k e h =
    let still : IsSo s (all_renewed (Mark n Heard.Failed) k) = still_so (Mark n Heard.Failed) s k h in
    record { tool = subst (λ o. IsSoTool false s.tool (standing tool o)) (sym (loses n)) tt; zero = still.zero; frame = still.frame }
stopped_so s (Command.SetCsyTransformation p) n k e h =
    let still : IsSo (idle s) (all_renewed (Mark n Heard.Failed) (record { tool = k.tool; csy = unless_part k.csy; part = k.part; zero = k.zero })) =
    idle_so s _ e (still_so (Mark n Heard.Failed) s _ (without_part s k h)) in
    record { tool = still.tool; zero = subst (λ o. IsSoOne (standing (point_opposite p) o) s.stored) (sym (loses n)) tt; frame = still.frame }
stopped_so s (Command.SetCoordSystem csy) n k e h =
    let still : IsSo (idle s) (all_renewed (Mark n Heard.Failed) k) = idle_so s _ e (still_so (Mark n Heard.Failed) s k h) in
    record {
      tool = still.tool;
      zero = still.zero;
      frame = subst (λ o. IsSoFrame (standing csy o) (one_renewed (Mark n Heard.Failed) k.zero) s.frame) (sym (loses n)) tt;
    }
stopped_so s Command.ClearAllErrors n k e h = idle_so s _ e (still_so (Mark n Heard.Failed) s k h)
stopped_so s Command.IsHomed n k e h = idle_so s _ e (still_so (Mark n Heard.Failed) s k h)
stopped_so s Command.OnPtMeasReport n k e h = idle_so s _ e (still_so (Mark n Heard.Failed) s k h)
stopped_so s (Command.GoTo p) n k e h = idle_so s _ e (still_so (Mark n Heard.Failed) s k h)
stopped_so s (Command.PtMeas p d) n k e h = idle_so s _ e (still_so (Mark n Heard.Failed) s k h)
stopped_so s Command.AbortE n k e h = idle_so s _ e (still_so (Mark n Heard.Failed) s k h)

-- ---- a command is done

abbrev ended : ℕ → Standing
ended n = record { line = n; rival = None; progress = Progress.Done }

ends : (n : ℕ) → renewed (Mark n Heard.Complete) (pending n Stage.Received) ≡ Some (ended n)
ends n =
    if_true (n == n) (with_mark (pending n Stage.Received) Progress.Begun Heard.Complete)
    (unless_refused (pending n Stage.Received) n Heard.Complete) (eq-eqb n n refl)

part_of : (k : Option (Point × Standing)) (stored : Point) → IsSoOne k stored → IsSoPart k (Part stored)
part_of None stored h = tt
part_of (Some (p, s)) stored h = (h.0, ap Part (sym h.1))

part_selected : (r : Renewal) (s : Selected) (k : Known) → IsSo s k → IsSoPart (one_renewed r k.zero) (Part s.stored)
part_selected r s k h = part_of (one_renewed r k.zero) s.stored (still_so r s k h).zero

coord_so : (csy : Csy) (s : Selected) (n : ℕ) (k : Known) → IsSo s k
    → IsSoFrame (Some (csy, ended n)) (one_renewed (Mark n Heard.Complete) k.zero) (framed_by csy s.stored)
coord_so MachineCsy s n k h = (refl, refl)
coord_so PartCsy s n k h = (refl, part_selected (Mark n Heard.Complete) s k h)

pub completed_so : (s : Selected) (c : Command) (n : ℕ) (k : Known) → s.changing ≡ is_change c → IsSo s k
    → IsSo (completed c s) (all_renewed (Mark n Heard.Complete) (below (Some (pending n Stage.Received)) (SentCommand.Known c) k))
completed_so s Command.StartSession n k e h = nothing_so (idle s)
completed_so s Command.EndSession n k e h = nothing_so (idle s)
completed_so s Command.Home n k e h =
    let still : IsSo s (all_renewed (Mark n Heard.Complete) k) = still_so (Mark n Heard.Complete) s k h in
    record { tool = tt; zero = still.zero; frame = still.frame }
completed_so s (Command.ChangeTool tool) n k e h =
    let still : IsSo s (all_renewed (Mark n Heard.Complete) k) = still_so (Mark n Heard.Complete) s k h in
    record {
      tool = subst (λ o. IsSoTool false (Some tool) (standing tool o)) (sym (ends n)) (refl, refl);
      zero = still.zero;
      frame = still.frame;
    }
completed_so s (Command.SetCsyTransformation p) n k e h =
    let still : IsSo (idle s) (all_renewed (Mark n Heard.Complete) (record { tool = k.tool; csy = unless_part k.csy; part = k.part; zero = k.zero })) =
    idle_so s _ e (still_so (Mark n Heard.Complete) s _ (without_part s k h)) in
    record {
      tool = still.tool;
      zero = subst (λ o. IsSoOne (standing (point_opposite p) o) (point_opposite p)) (sym (ends n)) (refl, refl);
      frame = still.frame;
    }
completed_so s (Command.SetCoordSystem csy) n k e h =
    let still : IsSo (idle s) (all_renewed (Mark n Heard.Complete) k) = idle_so s _ e (still_so (Mark n Heard.Complete) s k h) in
    record {
      tool = still.tool;
      zero = still.zero;
      frame = subst (λ o. IsSoFrame (standing csy o) (one_renewed (Mark n Heard.Complete) k.zero) (framed_by csy s.stored)) (sym (ends n))
          (coord_so csy s n k h);
    }
completed_so s Command.ClearAllErrors n k e h = idle_so s _ e (still_so (Mark n Heard.Complete) s k h)
completed_so s Command.IsHomed n k e h = idle_so s _ e (still_so (Mark n Heard.Complete) s k h)
completed_so s Command.OnPtMeasReport n k e h = idle_so s _ e (still_so (Mark n Heard.Complete) s k h)
completed_so s (Command.GoTo p) n k e h = idle_so s _ e (still_so (Mark n Heard.Complete) s k h)
completed_so s (Command.PtMeas p d) n k e h = idle_so s _ e (still_so (Mark n Heard.Complete) s k h)
completed_so s Command.AbortE n k e h = idle_so s _ e (still_so (Mark n Heard.Complete) s k h)
