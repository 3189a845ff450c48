-- What may be known for the first line is so at the server.
use Rattle.witness_laws.proofs.Names.{◌&&◌, ◌==◌, ◌∙◌, ◌≡◌, all_renewed, Answer, answering, ap, Bool, Command, cond, Csy, done, false, Fault, faulted}
use Rattle.witness_laws.proofs.Names.{Frame, frame_by, frame_of, Heard, if_done, inl, inr, is_error, is_rival, Known, List, Machine, MachineCsy, Mark}
use Rattle.witness_laws.proofs.Names.{None, nothing, one_renewed, Option, Part, part_at, PartCsy, Point, Progress, refl, Renewal, renewed, Some}
use Rattle.witness_laws.proofs.Names.{Standing, standing, subst, sym, tool_of, true, unless_refused, with_mark, ℕ}
use Rattle.protocol_model.specs.Server.{Server}
use Rattle.protocol_model.specs.declared.lines.Line.{Line}
use Rattle.witness_laws.specs.Reports.{NamesNoOther}
use Rattle.witness_laws.proofs.server.Knowing.{IsOrNone, IsFrameOrNone, IsWithin, Becomes}

-- ---- the server

-- what is so at a server: whether a change of tool runs, the tool, the frame, and the place of the part's zero point that is stored
pub record Selected : Type 0 where
  pub changing : Bool
  pub tool : Option (List ℕ)
  pub frame : Frame
  pub stored : Point

-- a change of tool runs
abbrev pub is_change : Command → Bool
is_change (Command.ChangeTool name) = true
is_change _ = false

abbrev pub runs_change : Option Line → Bool
runs_change None = false
runs_change (Some line) = is_change line.command

abbrev pub selected : Server → Selected
selected s = record { changing = runs_change s.running; tool = s.tool; frame = s.frame; stored = s.stored }

-- ---- what is known is so

-- a change that is done, and has this effect
abbrev pub IsSoOne : {A : Type 0} → Option (A × Standing) → A → Type 0
IsSoOne None x = Unit {0}
IsSoOne (Some (y, s)) x = (s.progress ≡ Progress.Done) × (y ≡ x)

-- the tool is in the probe head, unless a change of tool runs
abbrev pub IsSoTool : Bool → Option (List ℕ) → Option (List ℕ × Standing) → Type 0
IsSoTool true tool known = Unit {0}
IsSoTool false tool None = Unit {0}
IsSoTool false tool (Some (name, s)) = (s.progress ≡ Progress.Done) × (tool ≡ Some name)

abbrev pub IsSoPart : Option (Point × Standing) → Frame → Type 0
IsSoPart None frame = Unit {0}
IsSoPart (Some (p, s)) frame = (s.progress ≡ Progress.Done) × (frame ≡ Part p)

abbrev pub IsSoFrame : Option (Csy × Standing) → Option (Point × Standing) → Frame → Type 0
IsSoFrame None part frame = Unit {0}
IsSoFrame (Some (MachineCsy, s)) part frame = (s.progress ≡ Progress.Done) × (frame ≡ Machine)
IsSoFrame (Some (PartCsy, s)) part frame = (s.progress ≡ Progress.Done) × IsSoPart part frame

pub record IsSo (s : Selected) (k : Known) : Type 0 where
  pub tool : IsSoTool s.changing s.tool k.tool
  pub zero : IsSoOne k.zero s.stored
  pub frame : IsSoFrame k.csy k.part s.frame

pub no_tool : (changing : Bool) (tool : Option (List ℕ)) → IsSoTool changing tool None
no_tool true tool = tt
no_tool false tool = tt

-- nothing is known
pub nothing_so : (s : Selected) → IsSo s nothing
nothing_so s = record { tool = no_tool s.changing s.tool; zero = tt; frame = tt }

-- ---- a change that is done is lost, or stays as it is

mark_of_done : (s : Standing) (h : Heard) → with_mark s Progress.Done h ≡ None
mark_of_done s Heard.Received = refl
mark_of_done s (Heard.Given d) = refl
mark_of_done s Heard.Unread = refl
mark_of_done s Heard.Complete = refl
mark_of_done s Heard.Failed = refl

refused_of_done : (s : Standing) (line : ℕ) (h : Heard) → Becomes (unless_refused s line h) s
refused_of_done s line h = go (is_rival line s.rival && is_error h)
  where
    go : (b : Bool) → Becomes (cond b None (Some s)) s
    go true = inl refl
    go false = inr refl

marked_done : (b : Bool) (s : Standing) (line : ℕ) (h : Heard) → s.progress ≡ Progress.Done
    → Becomes (cond b (with_mark s s.progress h) (unless_refused s line h)) s
marked_done true s line h e = inl (ap (λ (p : Progress). with_mark s p h) e ∙ mark_of_done s h)
marked_done false s line h e = refused_of_done s line h

pub done_stays : (r : Renewal) (s : Standing) → s.progress ≡ Progress.Done → Becomes (renewed r s) s
done_stays Fault s e = inl (ap (faulted s) e)
done_stays (Mark line h) s e = marked_done (s.line == line) s line h e
done_stays Answer s e = inr (ap (answering s) e)

-- so what is so stays so
one_so : {A : Type 0} (y : A) (s : Standing) (o : Option Standing) (x : A) → Becomes o s → IsSoOne (Some (y, s)) x → IsSoOne (standing y o) x
one_so y s o x (inl e) h = subst (λ p. IsSoOne (standing y p) x) (sym e) tt
one_so y s o x (inr e) h = subst (λ p. IsSoOne (standing y p) x) (sym e) h

so_renewed : {A : Type 0} (r : Renewal) (k : Option (A × Standing)) (x : A) → IsSoOne k x → IsSoOne (one_renewed r k) x
so_renewed r None x h = tt
so_renewed r (Some (y, s)) x h = one_so y s (renewed r s) x (done_stays r s h.0) h

tool_so : (tool : Option (List ℕ)) (name : List ℕ) (s : Standing) (o : Option Standing) → Becomes o s → IsSoTool false tool (Some (name, s))
    → IsSoTool false tool (standing name o)
tool_so tool name s o (inl e) h = subst (λ p. IsSoTool false tool (standing name p)) (sym e) tt
tool_so tool name s o (inr e) h = subst (λ p. IsSoTool false tool (standing name p)) (sym e) h

tool_renewed : (r : Renewal) (changing : Bool) (tool : Option (List ℕ)) (k : Option (List ℕ × Standing)) → IsSoTool changing tool k
    → IsSoTool changing tool (one_renewed r k)
tool_renewed r true tool k h = tt
tool_renewed r false tool None h = tt
tool_renewed r false tool (Some (name, s)) h = tool_so tool name s (renewed r s) (done_stays r s h.0) h

part_so : (p : Point) (s : Standing) (o : Option Standing) (frame : Frame) → Becomes o s → IsSoPart (Some (p, s)) frame
    → IsSoPart (standing p o) frame
part_so p s o frame (inl e) h = subst (λ q. IsSoPart (standing p q) frame) (sym e) tt
part_so p s o frame (inr e) h = subst (λ q. IsSoPart (standing p q) frame) (sym e) h

part_renewed : (r : Renewal) (k : Option (Point × Standing)) (frame : Frame) → IsSoPart k frame → IsSoPart (one_renewed r k) frame
part_renewed r None frame h = tt
part_renewed r (Some (p, s)) frame h = part_so p s (renewed r s) frame (done_stays r s h.0) h

frame_so : (csy : Csy) (s : Standing) (o : Option Standing) (part : Option (Point × Standing)) (frame : Frame) → Becomes o s
    → IsSoFrame (Some (csy, s)) part frame → IsSoFrame (standing csy o) part frame
frame_so csy s o part frame (inl e) h = subst (λ p. IsSoFrame (standing csy p) part frame) (sym e) tt
frame_so csy s o part frame (inr e) h = subst (λ p. IsSoFrame (standing csy p) part frame) (sym e) h

frame_renewed : (r : Renewal) (csy : Option (Csy × Standing)) (part : Option (Point × Standing)) (frame : Frame) → IsSoFrame csy part frame
    → IsSoFrame (one_renewed r csy) (one_renewed r part) frame
frame_renewed r None part frame h = tt
frame_renewed r (Some (MachineCsy, s)) part frame h =
    frame_so MachineCsy s (renewed r s) (one_renewed r part) frame (done_stays r s h.0) (h.0, h.1)
frame_renewed r (Some (PartCsy, s)) part frame h =
    frame_so PartCsy s (renewed r s) (one_renewed r part) frame (done_stays r s h.0) (h.0, part_renewed r part frame h.1)

pub still_so : (r : Renewal) (s : Selected) (k : Known) → IsSo s k → IsSo s (all_renewed r k)
still_so r s k h = record {
  tool = tool_renewed r s.changing s.tool k.tool h.tool;
  zero = so_renewed r k.zero s.stored h.zero;
  frame = frame_renewed r k.csy k.part s.frame h.frame;
}

-- ---- less is so too

one_less : {A : Type 0} (k e : Option (A × Standing)) (x : A) → IsOrNone k e → IsSoOne e x → IsSoOne k x
one_less None e x h g = tt
one_less (Some y) e x h g = subst (λ o. IsSoOne o x) h g

tool_less : (changing : Bool) (tool : Option (List ℕ)) (k e : Option (List ℕ × Standing)) → IsOrNone k e → IsSoTool changing tool e
    → IsSoTool changing tool k
tool_less true tool k e h g = tt
tool_less false tool None e h g = tt
tool_less false tool (Some y) e h g = subst (IsSoTool false tool) h g

part_less : (k e : Option (Point × Standing)) (frame : Frame) → IsOrNone k e → IsSoPart e frame → IsSoPart k frame
part_less None e frame h g = tt
part_less (Some y) e frame h g = subst (λ o. IsSoPart o frame) h g

frame_less : (csy : Option (Csy × Standing)) (part : Option (Point × Standing)) (other : Option (Csy × Standing)) (p : Option (Point × Standing))
    (frame : Frame) → IsFrameOrNone csy part other p → IsSoFrame other p frame → IsSoFrame csy part frame
frame_less None part other p frame h g = tt
frame_less (Some (MachineCsy, s)) part other p frame h g =
    let both : IsSoFrame (Some (MachineCsy, s)) p frame = subst (λ o. IsSoFrame o p frame) h.0 g in (both.0, both.1)
frame_less (Some (PartCsy, s)) part other p frame h g =
    let both : IsSoFrame (Some (PartCsy, s)) p frame = subst (λ o. IsSoFrame o p frame) h.0 g in
    (both.0, part_less part p frame h.1 both.1)

pub less_so : (s : Selected) (k e : Known) → IsWithin k e → IsSo s e → IsSo s k
less_so s k e h g = record {
  tool = tool_less s.changing s.tool k.tool e.tool h.tool g.tool;
  zero = one_less k.zero e.zero s.stored h.zero g.zero;
  frame = frame_less k.csy k.part e.csy e.part s.frame h.frame g.frame;
}

-- ---- what is named

-- a tool that is known is in the probe head
abbrev pub IsToolNamed : Option (List ℕ) → Option (List ℕ) → Type 0
IsToolNamed tool None = Unit {0}
IsToolNamed tool (Some name) = tool ≡ Some name

tool_named : (tool : Option (List ℕ)) (k : Option (List ℕ × Standing)) → IsSoTool false tool k → IsToolNamed tool (done k)
tool_named tool None h = tt
tool_named tool (Some (name, s)) h = subst (λ p. IsToolNamed tool (if_done name p)) (sym h.0) h.1

pub known_tool : (s : Selected) (k : Known) → s.changing ≡ false → IsSo s k → IsToolNamed s.tool (tool_of k)
known_tool s k still h = tool_named s.tool k.tool (subst (λ b. IsSoTool b s.tool k.tool) still h.tool)

part_named : (part : Option (Point × Standing)) (frame : Frame) → IsSoPart part frame → NamesNoOther (part_at (done part)) frame
part_named None frame h = tt
part_named (Some (p, s)) frame h = subst (λ q. NamesNoOther (part_at (if_done p q)) frame) (sym h.0) (sym h.1)

frame_named : (csy : Option (Csy × Standing)) (part : Option (Point × Standing)) (frame : Frame) → IsSoFrame csy part frame
    → NamesNoOther (frame_by (done csy) (done part)) frame
frame_named None part frame h = tt
frame_named (Some (MachineCsy, s)) part frame h =
    subst (λ q. NamesNoOther (frame_by (if_done MachineCsy q) (done part)) frame) (sym h.0) (sym h.1)
frame_named (Some (PartCsy, s)) part frame h =
    subst (λ q. NamesNoOther (frame_by (if_done PartCsy q) (done part)) frame) (sym h.0) (part_named part frame h.1)

pub known_frame : (s : Selected) (k : Known) → IsSo s k → NamesNoOther (frame_of k) s.frame
known_frame s k h = frame_named k.csy k.part s.frame h.frame

pub known_zero : (k : Option (Point × Standing)) (stored : Point) → IsSoOne k stored → NamesNoOther (done k) stored
known_zero None stored h = tt
known_zero (Some (p, s)) stored h = subst (λ q. NamesNoOther (if_done p q) stored) (sym h.0) h.1
