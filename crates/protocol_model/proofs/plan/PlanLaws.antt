-- What a plan measures, and in which order: the laws of plans.
use Rattle.protocol_model.proofs.Names.{[], ◌++◌, ◌∙◌, ◌∷◌, ◌≡◌, ◌≤◌, all_known, ap, append_assoc, arith, behind, Bool, CanBeWritten, Command}
use Rattle.protocol_model.proofs.Names.{commands_of, Csy, Direction, Does, drop, end_of, ends_of, false, feature_ends, feature_touches, flat_map}
use Rattle.protocol_model.proofs.Names.{Frame, frame_behind, framing, HasArguments, HasVolumeLengths, is_last, is_measuring, IsInOrder, IsProgram}
use Rattle.protocol_model.proofs.Names.{List, list_all, MachineCsy, Meaning as Program, measuring, NewConnection, None, nothing_selected, opening}
use Rattle.protocol_model.proofs.Names.{Option, Part, PartCsy, plan, Planned, planned, Point, point_opposite, read_as, read_frame, read_move}
use Rattle.protocol_model.proofs.Names.{read_touch, ReadAsPlanned, refl, SameConnection, selected_by, selected_frame, Selection, Some, Start, Std}
use Rattle.protocol_model.proofs.Names.{Step, step_commands, stepping, sym, tool_behind, tooling, Touch, touch_ends, touch_made, touch_of}
use Rattle.protocol_model.proofs.Names.{touches_made, touches_made_by, true, up_to, Wanted, whole_commands, ℕ}
use Rattle.fixed_um.specs.declared.frames.Frame.TheVariants.{Machine}
use Rattle.protocol_model.specs.PlanReading.{touches_of}
use Rattle.protocol_model.proofs.plan.Blocks.{program_is_plain}
use Rattle.protocol_model.proofs.plan.Fitting.{Know, unknown, known_frame, known_by, FitsMove, FitsTouch, FitsFrame, FitsOne, Fits}
use Rattle.protocol_model.proofs.plan.Marks.{Marked, marks, marks_of, touch_in, touches_in, HasNoAbort, plan_touches, plan_fits, plan_no_abort}
use Rattle.protocol_model.proofs.written_lines.PlainClient.{HaveArguments, plan_arguments, standard_kind}

-- ---- touches

abbrev firsts : List Marked → List Touch
firsts [] = []
firsts (m ∷ ms) = m.0 ∷ firsts ms

abbrev seconds : List Marked → List Bool
seconds [] = []
seconds (m ∷ ms) = m.1 ∷ seconds ms

firsts_more : (ms ns : List Marked) → firsts (ms ++ ns) ≡ firsts ms ++ firsts ns
firsts_more [] ns = refl
firsts_more (m ∷ ms) ns = ap (λ (l : List Touch). m.0 ∷ l) (firsts_more ms ns)

seconds_more : (ms ns : List Marked) → seconds (ms ++ ns) ≡ seconds ms ++ seconds ns
seconds_more [] ns = refl
seconds_more (m ∷ ms) ns = ap (λ (l : List Bool). m.1 ∷ l) (seconds_more ms ns)

touch_first : (d : Does) → touch_of d ≡ firsts (touch_in d)
touch_first Does.Nothing = refl
touch_first Does.AsksHomed = refl
touch_first Does.Homes = refl
touch_first (Does.Moves p f) = refl
touch_first (Does.Changes n) = refl
touch_first (Does.Frames f) = refl
touch_first (Does.Touches t last) = refl

end_second : (d : Does) → end_of d ≡ seconds (touch_in d)
end_second Does.Nothing = refl
end_second Does.AsksHomed = refl
end_second Does.Homes = refl
end_second (Does.Moves p f) = refl
end_second (Does.Changes n) = refl
end_second (Does.Frames f) = refl
end_second (Does.Touches t last) = refl

touches_first : (ps : List Planned) → touches_of ps ≡ firsts (touches_in ps)
touches_first [] = refl
touches_first (p ∷ ps) = ap (λ (l : List Touch). touch_of p.does ++ l) (touches_first ps)
    ∙ (ap (λ (l : List Touch). l ++ firsts (touches_in ps)) (touch_first p.does) ∙ sym (firsts_more (touch_in p.does) (touches_in ps)))

ends_second : (ps : List Planned) → ends_of ps ≡ seconds (touches_in ps)
ends_second [] = refl
ends_second (p ∷ ps) = ap (λ (l : List Bool). end_of p.does ++ l) (ends_second ps)
    ∙ (ap (λ (l : List Bool). l ++ seconds (touches_in ps)) (end_second p.does) ∙ sym (seconds_more (touch_in p.does) (touches_in ps)))

marks_first : (ts : List Touch) → firsts (marks ts) ≡ ts
marks_first [] = refl
marks_first (t ∷ ts) = ap (λ (l : List Touch). t ∷ l) (marks_first ts)

marks_second : (ts : List Touch) → seconds (marks ts) ≡ touch_ends ts
marks_second [] = refl
marks_second (t ∷ []) = refl
marks_second (t ∷ u ∷ ts) = ap (λ (l : List Bool). false ∷ l) (marks_second (u ∷ ts))

features_first : (ws : List Wanted) → firsts (marks_of ws) ≡ feature_touches ws
features_first [] = refl
features_first (w ∷ ws) = firsts_more (marks w.touches) (marks_of ws)
    ∙ (ap (λ (l : List Touch). l ++ firsts (marks_of ws)) (marks_first w.touches)
    ∙ ap (λ (l : List Touch). w.touches ++ l) (features_first ws))

features_second : (ws : List Wanted) → seconds (marks_of ws) ≡ feature_ends ws
features_second [] = refl
features_second (w ∷ ws) = seconds_more (marks w.touches) (marks_of ws)
    ∙ (ap (λ (l : List Bool). l ++ seconds (marks_of ws)) (marks_second w.touches)
    ∙ ap (λ (l : List Bool). touch_ends w.touches ++ l) (features_second ws))

-- the touches of a plan are those of the features that are left
pub plan_touches_left : (p : Program) (k : ℕ) (start : Start) → IsProgram p
    → touches_of (plan p k start) ≡ feature_touches (drop k p.features)
plan_touches_left p k start h = touches_first (plan p k start)
    ∙ (ap firsts (plan_touches p k start (program_is_plain p h)) ∙ features_first (drop k p.features))

-- the last of each feature is marked
pub plan_ends_left : (p : Program) (k : ℕ) (start : Start) → IsProgram p → ends_of (plan p k start) ≡ feature_ends (drop k p.features)
plan_ends_left p k start h = ends_second (plan p k start) ∙ (ap seconds (plan_touches p k start (program_is_plain p h))
    ∙ features_second (drop k p.features))

-- ---- what commands do in their places

-- what is known is selected
record IsSelected (k : Know) (s : Selection) : Type 0 where
  pub tool : (n : List ℕ) → k.tool ≡ Some n → s.tool ≡ Some n
  pub frame : (f : Frame) → k.frame ≡ Some f → s.frame ≡ Some f
  pub stored : (p : Point) → k.stored ≡ Some p → s.stored ≡ Some p

nothing_known : (s : Selection) → IsSelected unknown s
nothing_known s = record { tool = λ n e. absurd (cc); frame = λ f e. absurd (cc); stored = λ p e. absurd (cc) }

frame_is_selected : (system : Csy) (s r : Option Point) → ((p : Point) → s ≡ Some p → r ≡ Some p) → (f : Frame)
    → known_frame system s ≡ Some f → selected_frame system r ≡ Some f
frame_is_selected MachineCsy s r more f e = e
frame_is_selected PartCsy None r more f e = absurd (cc)
frame_is_selected PartCsy (Some p) r more f e = ap (selected_frame PartCsy) (more p refl) ∙ e

selects : (k : Know) (s : Selection) (c : Command) → IsSelected k s → IsSelected (known_by k c) (selected_by s c)
selects k s Command.StartSession h = h
selects k s Command.EndSession h = h
selects k s Command.ClearAllErrors h = nothing_known s
selects k s Command.IsHomed h = h
selects k s Command.Home h = h
selects k s Command.OnPtMeasReport h = h
selects k s (Command.GoTo p) h = h
selects k s (Command.PtMeas p d) h = h
selects k s (Command.ChangeTool n) h = record { tool = λ m e. e; frame = h.frame; stored = h.stored }
selects k s (Command.SetCsyTransformation p) h = record { tool = h.tool; frame = h.frame; stored = λ q e. e }
selects k s (Command.SetCoordSystem system) h = record {
  tool = h.tool;
  frame = frame_is_selected system k.stored s.stored h.stored;
  stored = h.stored;
}
selects k s Command.AbortE h = h

-- a command that fits what is known does what it is planned for
fits_as : (k : Know) (s : Selection) (c : Command) (d : Does) → IsSelected k s → FitsOne k c d → read_as s (is_last d) c ≡ Some d
fits_as k s Command.StartSession d h fits = ap (λ (x : Does). Some x) (sym fits)
fits_as k s Command.EndSession d h fits = ap (λ (x : Does). Some x) (sym fits)
fits_as k s Command.ClearAllErrors d h fits = ap (λ (x : Does). Some x) (sym fits)
fits_as k s Command.IsHomed d h fits = ap (λ (x : Does). Some x) (sym fits)
fits_as k s Command.Home d h fits = ap (λ (x : Does). Some x) (sym fits)
fits_as k s Command.OnPtMeasReport d h fits = ap (λ (x : Does). Some x) (sym fits)
fits_as k s (Command.GoTo p) d h fits =
    let f : FitsMove k p d = fits in
    ap (λ (o : Option Frame). read_as (record s { frame = o }) (is_last d) (Command.GoTo p)) (h.frame f.frame f.known)
    ∙ ap (λ (x : Does). Some x) (sym f.is)
fits_as k s (Command.PtMeas p dir) d h fits =
    let f : FitsTouch k p dir d = fits in
    touched p dir d f.touch f.last (h.tool f.touch.tool f.tool) (h.frame f.touch.frame f.frame) f.target f.dir f.is
  where
    touched : (q : Point) (e : Option Direction) (d : Does) (t : Touch) (last : Bool) → s.tool ≡ Some t.tool → s.frame ≡ Some t.frame
        → q ≡ t.target → e ≡ t.dir → d ≡ Does.Touches t last → read_as s (is_last d) (Command.PtMeas q e) ≡ Some d
    touched q e d t last tool frame target dir is = rw (is, tool, frame, target, dir) refl
fits_as k s (Command.ChangeTool n) d h fits = ap (λ (x : Does). Some x) (sym fits)
fits_as k s (Command.SetCsyTransformation p) d h fits = ap (λ (x : Does). Some x) (sym fits)
fits_as k s (Command.SetCoordSystem system) d h fits =
    let f : FitsFrame k system d = fits in
    ap read_frame (frame_is_selected system k.stored s.stored h.stored f.frame f.known) ∙ ap (λ (x : Does). Some x) (sym f.is)
fits_as k s Command.AbortE d h fits = absurd fits

as_planned : (ps : List Planned) (k : Know) (s : Selection) → IsSelected k s → Fits k ps → ReadAsPlanned s ps
as_planned [] k s h fits = tt
as_planned (p ∷ ps) k s h fits = (
  fits_as k s p.command p.does h fits.0,
  as_planned ps (known_by k p.command) (selected_by s p.command) (selects k s p.command h) fits.1,
)

-- read one after another, its commands do what they are planned to do
pub plan_as_planned : (p : Program) (k : ℕ) (start : Start) → IsProgram p → ReadAsPlanned nothing_selected (plan p k start)
plan_as_planned p k start h = as_planned (plan p k start) unknown nothing_selected (nothing_known nothing_selected)
    (plan_fits p k start unknown (program_is_plain p h))

-- ---- the touches that commands make

some_does : (d e : Does) → ◌≡◌ {A = Option Does} (Some d) (Some e) → d ≡ e
some_does d e is = cc

made_as : (d : Option Does) (e : Does) → d ≡ Some e → touch_made d ≡ touch_made (Some e)
made_as d e is = ap touch_made is

-- a touch that is read as the last of its feature is the same touch as one that is not
made_same : (s : Selection) (p : Point) (d : Option Direction) (last : Bool)
    → touch_made (read_as s false (Command.PtMeas p d)) ≡ touch_made (read_as s last (Command.PtMeas p d))
made_same s p d last = go s.tool s.frame
  where
    go : (tool : Option (List ℕ)) (frame : Option Frame) → touch_made (read_touch p d false tool frame)
        ≡ touch_made (read_touch p d last tool frame)
    go None frame = refl
    go (Some n) None = refl
    go (Some n) (Some f) = refl

-- what means a touch is planned as one
is_touch : (p : Point) (d : Option Direction) (tool : Option (List ℕ)) (frame : Option Frame) (last : Bool) (does : Does)
    → read_touch p d last tool frame ≡ Some does → touch_made (Some does) ∷ [] ≡ all_known (touch_of does)
is_touch p d (Some n) (Some f) last does e = go does e
  where
    go : (x : Does) → read_touch p d last (Some n) (Some f) ≡ Some x → touch_made (Some x) ∷ [] ≡ all_known (touch_of x)
    go Does.Nothing e = absurd (cc)
    go Does.AsksHomed e = absurd (cc)
    go Does.Homes e = absurd (cc)
    go (Does.Moves q g) e = absurd (cc)
    go (Does.Changes m) e = absurd (cc)
    go (Does.Frames g) e = absurd (cc)
    go (Does.Touches t b) e = refl
is_touch p d None frame last does e = absurd (cc)
is_touch p d (Some n) None last does e = absurd (cc)

-- any other command is planned as no touch
no_touch_move : (p : Point) (frame : Option Frame) (does : Does) → read_move p frame ≡ Some does → [] ≡ all_known (touch_of does)
no_touch_move p (Some f) does e = ap (λ (x : Does). all_known (touch_of x)) (some_does (Does.Moves p f) does e)
no_touch_move p None does e = absurd (cc)

no_touch_frame : (frame : Option Frame) (does : Does) → read_frame frame ≡ Some does → [] ≡ all_known (touch_of does)
no_touch_frame (Some f) does e = ap (λ (x : Does). all_known (touch_of x)) (some_does (Does.Frames f) does e)
no_touch_frame None does e = absurd (cc)

makes : (s : Selection) (c : Command) (d : Does) → read_as s (is_last d) c ≡ Some d → touches_made_by s c ≡ all_known (touch_of d)
makes s Command.StartSession d e = ap (λ (x : Does). all_known (touch_of x)) (some_does Does.Nothing d e)
makes s Command.EndSession d e = ap (λ (x : Does). all_known (touch_of x)) (some_does Does.Nothing d e)
makes s Command.ClearAllErrors d e = ap (λ (x : Does). all_known (touch_of x)) (some_does Does.Nothing d e)
makes s Command.IsHomed d e = ap (λ (x : Does). all_known (touch_of x)) (some_does Does.AsksHomed d e)
makes s Command.Home d e = ap (λ (x : Does). all_known (touch_of x)) (some_does Does.Homes d e)
makes s Command.OnPtMeasReport d e = ap (λ (x : Does). all_known (touch_of x)) (some_does Does.Nothing d e)
makes s (Command.GoTo p) d e = no_touch_move p s.frame d e
makes s (Command.PtMeas p dir) d e = ap (λ (o : Option Touch). o ∷ []) (made_same s p dir (is_last d)
    ∙ made_as (read_as s (is_last d) (Command.PtMeas p dir)) d e) ∙ is_touch p dir s.tool s.frame (is_last d) d e
makes s (Command.ChangeTool n) d e = ap (λ (x : Does). all_known (touch_of x)) (some_does (Does.Changes n) d e)
makes s (Command.SetCsyTransformation p) d e = ap (λ (x : Does). all_known (touch_of x)) (some_does Does.Nothing d e)
makes s (Command.SetCoordSystem system) d e = no_touch_frame (selected_frame system s.stored) d e
makes s Command.AbortE d e = absurd (cc)

known_more : (ts us : List Touch) → all_known (ts ++ us) ≡ all_known ts ++ all_known us
known_more [] us = refl
known_more (t ∷ ts) us = ap (λ (l : List (Option Touch)). Some t ∷ l) (known_more ts us)

all_makes : (ps : List Planned) (s : Selection) → ReadAsPlanned s ps → touches_made s (commands_of ps) ≡ all_known (touches_of ps)
all_makes [] s h = refl
all_makes (p ∷ ps) s h =
    ap (λ (l : List (Option Touch)). touches_made_by s p.command ++ l) (all_makes ps (selected_by s p.command) h.1)
    ∙ (ap (λ (l : List (Option Touch)). l ++ all_known (touches_of ps)) (makes s p.command p.does h.0)
    ∙ sym (known_more (touch_of p.does) (touches_of ps)))

-- and make the touches of the features that are left
pub plan_makes : (p : Program) (k : ℕ) (start : Start) → IsProgram p
    → touches_made nothing_selected (commands_of (plan p k start)) ≡ all_known (feature_touches (drop k p.features))
plan_makes p k start h = all_makes (plan p k start) nothing_selected (plan_as_planned p k start h)
    ∙ ap all_known (plan_touches_left p k start h)

-- ---- the order

-- the commands of two plans, one after the other
pub commands_more : (ps qs : List Planned) → commands_of (ps ++ qs) ≡ commands_of ps ++ commands_of qs
commands_more [] qs = refl
commands_more (p ∷ ps) qs = ap (λ (l : List Command). p.command ∷ l) (commands_more ps qs)

-- commands that all measure
abbrev Measure : List Command → Type 0
Measure [] = Unit {0}
Measure (c ∷ cs) = (is_measuring c ≡ true) × Measure cs

measure_all : (cs : List Command) → Measure cs → list_all is_measuring cs ≡ true
measure_all [] h = refl
measure_all (c ∷ cs) h = rw h.0 (measure_all cs h.1)

measure_join : (cs ds : List Command) → Measure cs → Measure ds → Measure (cs ++ ds)
measure_join [] ds h g = g
measure_join (c ∷ cs) ds h g = (h.0, measure_join cs ds h.1 g)

framing_measures : (frame : Frame) → Measure (commands_of (framing frame))
framing_measures Machine = (refl, tt)
framing_measures (Part p) = (refl, (refl, tt))

tooling_measures : (tool : Option (List ℕ)) → Measure (commands_of (tooling tool))
tooling_measures None = tt
tooling_measures (Some n) = (refl, tt)

stepping_measures : (frame : Frame) (ss : List Step) → Measure (commands_of (stepping frame ss))
stepping_measures frame [] = tt
stepping_measures frame (Step.Goto p ∷ ss) = (refl, stepping_measures frame ss)
stepping_measures frame (Step.Begin l ∷ ss) = stepping_measures frame ss
stepping_measures frame (Step.Touch t ∷ ss) = (refl, stepping_measures frame ss)
stepping_measures frame (Step.Tool n ∷ ss) = (refl, stepping_measures frame ss)
stepping_measures frame (Step.Recall p ∷ ss) = (refl, (refl, stepping_measures (Part p) ss))
stepping_measures frame (Step.End ∷ ss) = stepping_measures frame ss

record IsMeasured (commands : List Command) : Type 0 where
  pub body : List Command
  pub parts : commands ≡ body ++ Command.EndSession ∷ []
  pub measures : Measure body

measured_of : (tool : Option (List ℕ)) (frame : Frame) (ss : List Step) → IsMeasured (commands_of (measuring tool frame ss))
measured_of tool frame ss = record {
  body = commands_of (tooling tool) ++ (commands_of (framing frame) ++ commands_of (stepping frame ss));
  parts = commands_more (tooling tool) _ ∙ (ap (λ (l : List Command). commands_of (tooling tool) ++ l) (commands_more (framing frame) _
      ∙ (ap (λ (l : List Command). commands_of (framing frame) ++ l) (commands_more (stepping frame ss) _)
      ∙ sym (append_assoc (commands_of (framing frame)) (commands_of (stepping frame ss)) _)))
      ∙ sym (append_assoc (commands_of (tooling tool)) (commands_of (framing frame) ++ commands_of (stepping frame ss)) _));
  measures = measure_join (commands_of (tooling tool)) _ (tooling_measures tool)
      (measure_join (commands_of (framing frame)) _ (framing_measures frame) (stepping_measures frame ss));
}

-- a plan is its opening, what measures, and the end of the session
pub plan_in_order : (p : Program) (k : ℕ) (start : Start) → IsInOrder start (commands_of (plan p k start))
plan_in_order p k start = go start
  where
    m : IsMeasured (commands_of (measuring (tool_behind None (up_to k p.steps)) (frame_behind Machine (up_to k p.steps))
        (behind k p.steps)))
    m = measured_of (tool_behind None (up_to k p.steps)) (frame_behind Machine (up_to k p.steps)) (behind k p.steps)

    go : (s : Start) → IsInOrder s (commands_of (plan p k s))
    go NewConnection = record {
      measuring = m.body;
      parts = ap (λ (l : List Command). opening NewConnection ++ l) m.parts;
      measures = measure_all m.body m.measures;
    }
    go SameConnection = record {
      measuring = m.body;
      parts = ap (λ (l : List Command). opening SameConnection ++ l) m.parts;
      measures = measure_all m.body m.measures;
    }

-- ---- the plan of a whole program

-- the commands of steps are those of each step
pub steps_commands : (frame : Frame) (ss : List Step) → commands_of (stepping frame ss) ≡ flat_map step_commands ss
steps_commands frame [] = refl
steps_commands frame (Step.Goto p ∷ ss) = ap (λ (l : List Command). Command.GoTo p ∷ l) (steps_commands frame ss)
steps_commands frame (Step.Begin l ∷ ss) = steps_commands frame ss
steps_commands frame (Step.Touch t ∷ ss) = ap (λ (l : List Command). Command.PtMeas t.target t.dir ∷ l) (steps_commands frame ss)
steps_commands frame (Step.Tool n ∷ ss) = ap (λ (l : List Command). Command.ChangeTool n ∷ l) (steps_commands frame ss)
steps_commands frame (Step.Recall p ∷ ss) = ap (λ (l : List Command). Command.SetCsyTransformation (point_opposite p)
    ∷ Command.SetCoordSystem PartCsy ∷ l) (steps_commands (Part p) ss)
steps_commands frame (Step.End ∷ ss) = steps_commands frame ss

-- from the start the commands are those of all steps
pub plan_whole : (p : Program) (start : Start) → commands_of (plan p 0 start) ≡ whole_commands start p.steps
plan_whole p start = go start
  where
    body : commands_of (stepping Machine p.steps ++ planned Command.EndSession Does.Nothing ∷ []) ≡ flat_map step_commands p.steps
        ++ Command.EndSession ∷ []
    body = commands_more (stepping Machine p.steps) _ ∙ ap (λ (l : List Command). l ++ Command.EndSession ∷ [])
        (steps_commands Machine p.steps)

    go : (s : Start) → commands_of (plan p 0 s) ≡ whole_commands s p.steps
    go NewConnection = ap (λ (l : List Command). opening NewConnection ++ Command.SetCoordSystem MachineCsy ∷ l) body
    go SameConnection = ap (λ (l : List Command). opening SameConnection ++ Command.SetCoordSystem MachineCsy ∷ l) body

-- ---- lines

-- arguments that can be written are lengths in the volume, where a command asks for those
pub in_volume : (c : Command) → HasArguments c → HasVolumeLengths c
in_volume Command.StartSession h = tt
in_volume Command.EndSession h = tt
in_volume Command.ClearAllErrors h = tt
in_volume Command.IsHomed h = tt
in_volume Command.Home h = tt
in_volume Command.OnPtMeasReport h = tt
in_volume (Command.GoTo p) h = tt
in_volume (Command.PtMeas p d) h = tt
in_volume (Command.ChangeTool n) h = tt
in_volume (Command.SetCsyTransformation p) h = h
in_volume (Command.SetCoordSystem s) h = tt
in_volume Command.AbortE h = tt

can_be_written : (ps : List Planned) (n : ℕ) → 1 ≤ n → n ≤ 9999 → HaveArguments ps → HasNoAbort ps → CanBeWritten (Std n) ps
can_be_written [] n from to h g = tt
can_be_written (p ∷ ps) n from to h g = (
  record { tagged = record { numbered = (from, omega (arith, to)); sort = standard_kind p.command g.0 }; arguments = h.0 },
  in_volume p.command h.0,
  can_be_written ps n from to h.1 g.1,
)

-- each command of a plan can be written
pub plan_can_be_written : (p : Program) (k : ℕ) (start : Start) (n : ℕ) → IsProgram p → 1 ≤ n → n ≤ 9999
    → CanBeWritten (Std n) (plan p k start)
plan_can_be_written p k start n h from to = can_be_written (plan p k start) n from to (plan_arguments p k start h) (plan_no_abort p k start)
