-- What is selected along a plan is what the plan is for.
use Rattle.witness_laws.proofs.Names.{◌++◌, ◌∙◌, ◌∷◌, ◌≡◌, [], Act, act_of, ap, behind, Bool, Command, Datum, done, false, false≢true, Frame}
use Rattle.witness_laws.proofs.Names.{frame_behind, frame_in, frame_of, framed, framing, homing_is, is_empty, IsGiven, kind_of, Known, List, Machine}
use Rattle.witness_laws.proofs.Names.{MachineCsy, measuring, moved, None, Option, Part, part_at, PartCsy, passed_over, passes, plan, Planned, planned}
use Rattle.witness_laws.proofs.Names.{Point, point_opposite, refl, Reported, selected_at, Some, Start, stepping, subst, sym, tool_behind, tool_of}
use Rattle.witness_laws.proofs.Names.{touched, true, turned_twice, up_to, ℕ}
use Rattle.protocol_model.specs.declared.plans.Does.{Does}
use Rattle.protocol_model.specs.declared.plans.Start.TheVariants.{NewConnection, SameConnection}
use Rattle.protocol_model.proofs.plan.Blocks.{AreSelected, IsPlain, program_is_plain}
use Rattle.dmis_program.specs.Meaning.{Meaning as Program, block_touches}
use Rattle.dmis_program.specs.Programs.{IsProgram}
use Rattle.dmis_program.specs.declared.features.Touch.{Touch}
use Rattle.dmis_program.specs.declared.steps.Step.{Step}
use Rattle.protocol_model.specs.Client as client
use Rattle.witness_laws.specs.Acts.{all_done, without_unasked}
use Rattle.witness_laws.specs.Reports.{AreReportsOf}

-- ---- what is selected

-- the tool, the frame and the part's zero point that commands have selected; None: nothing is claimed of it
pub record Selected : Type 0 where
  pub tool : Option (List ℕ)
  pub frame : Option Frame
  pub zero : Option Point

abbrev pub none_selected : Selected
none_selected = record { tool = None; frame = None; zero = None }

abbrev pub unless_part : Option Frame → Option Frame
unless_part None = None
unless_part (Some Machine) = Some Machine
unless_part (Some (Part p)) = None

-- after a command
abbrev pub selected_after : Selected → Command → Selected
selected_after v Command.StartSession = none_selected
selected_after v Command.EndSession = none_selected
selected_after v Command.Home = record { tool = None; frame = v.frame; zero = v.zero }
selected_after v (Command.ChangeTool n) = record { tool = Some n; frame = v.frame; zero = v.zero }
selected_after v (Command.SetCsyTransformation p) =
    record { tool = v.tool; frame = unless_part v.frame; zero = Some (point_opposite p) }
selected_after v (Command.SetCoordSystem csy) = record { tool = v.tool; frame = frame_in csy v.zero; zero = v.zero }
selected_after v Command.ClearAllErrors = v
selected_after v Command.IsHomed = v
selected_after v Command.OnPtMeasReport = v
selected_after v (Command.GoTo p) = v
selected_after v (Command.PtMeas p d) = v
selected_after v Command.AbortE = v

-- ---- what a witness knows of it

-- the value, or, where some may be lost, none
abbrev pub IsOr : {A : Type 0} → Bool → A → Option A → Type 0
IsOr lossy a None = lossy ≡ true
IsOr lossy a (Some b) = b ≡ a

pub record Fits (lossy : Bool) (v : Selected) (k : Known) : Type 0 where
  pub tool : (n : List ℕ) → v.tool ≡ Some n → IsOr lossy n (tool_of k)
  pub frame : (f : Frame) → v.frame ≡ Some f → IsOr lossy f (frame_of k)
  pub zero : (p : Point) → v.zero ≡ Some p → IsOr lossy p (done k.zero)

-- reports are those of acts, exactly so where nothing may be lost
pub record Tells (lossy : Bool) (acts : List Act) (reported : List Reported) : Type 0 where
  pub exact : lossy ≡ false → reported ≡ all_done acts
  pub shown : AreReportsOf (without_unasked reported) acts

-- a witness that knows what is selected reports of a command the act that it is planned for
abbrev pub TellsAs : Selected → Command → Does → Type 0
TellsAs v c does = (lossy : Bool) (k : Known) → Fits lossy v k → (given : Option Datum) → IsGiven (kind_of c) given
    → Tells lossy (client.act_of does given) (act_of k c given)

-- so for each of these commands, one after another
abbrev pub Agrees : Selected → List Planned → Type 0
Agrees v [] = Unit {0}
Agrees v (p ∷ ps) = TellsAs v p.command p.does × Agrees (selected_after v p.command) ps

-- ---- one command

none_told : (lossy : Bool) → Tells lossy [] []
none_told lossy = record { exact = λ e. refl; shown = tt }

one_told : (lossy : Bool) (a : Act) → Tells lossy (a ∷ []) (Reported.Did a ∷ [])
one_told lossy a = record { exact = λ e. refl; shown = (refl, tt) }

not_lost : {A : Type 0} (lossy : Bool) → lossy ≡ true → lossy ≡ false → A
not_lost lossy lost e = absurd (false≢true (sym e ∙ lost))

tells_homed : (v : Selected) → TellsAs v Command.IsHomed Does.AsksHomed
tells_homed v lossy k fits None g = none_told lossy
tells_homed v lossy k fits (Some (Datum.Homed homed)) g = one_told lossy (Act.HomedIs homed)
tells_homed v lossy k fits (Some (Datum.Point p)) g = none_told lossy

tells_move : (v : Selected) (p : Point) (frame : Frame) → v.frame ≡ Some frame → TellsAs v (Command.GoTo p) (Does.Moves p frame)
tells_move v p frame is lossy k fits given g = go (frame_of k) (Fits.frame fits frame is)
  where
    go : (o : Option Frame) → IsOr lossy frame o → Tells lossy (Act.Moved p frame ∷ []) (moved p o ∷ [])
    go None lost = record { exact = λ e. not_lost lossy lost e; shown = (refl, tt) }
    go (Some f) same = subst (λ (x : Frame). Tells lossy (Act.Moved p frame ∷ []) (Reported.Did (Act.Moved p x) ∷ [])) (sym same)
        (one_told lossy (Act.Moved p frame))

tells_touch : (v : Selected) (t : Touch) (last : Bool) → v.tool ≡ Some t.tool → v.frame ≡ Some t.frame
    → TellsAs v (Command.PtMeas t.target t.dir) (Does.Touches t last)
tells_touch v t last tool frame lossy k fits None g = absurd (false≢true (sym g))
tells_touch v t last tool frame lossy k fits (Some (Datum.Homed homed)) g = absurd (false≢true g)
tells_touch v t last tool frame lossy k fits (Some (Datum.Point at)) g =
    go (tool_of k) (frame_of k) (Fits.tool fits t.tool tool) (Fits.frame fits t.frame frame)
  where
    it : Act
    it = Act.Contact t.target t.dir t.tool t.frame at

    go : (m : Option (List ℕ)) (o : Option Frame) → IsOr lossy t.tool m → IsOr lossy t.frame o
        → Tells lossy (it ∷ []) (touched m o t.target t.dir at ∷ [])
    go None None lost other = record { exact = λ e. not_lost lossy lost e; shown = ((refl, refl, tt, tt, refl), tt) }
    go None (Some f) lost same = record { exact = λ e. not_lost lossy lost e; shown = ((refl, refl, tt, same, refl), tt) }
    go (Some n) None same lost = record { exact = λ e. not_lost lossy lost e; shown = ((refl, refl, same, tt, refl), tt) }
    go (Some n) (Some f) same as_well =
        subst (λ (x : List ℕ). Tells lossy (it ∷ []) (Reported.Did (Act.Contact t.target t.dir x f at) ∷ [])) (sym same)
        (subst (λ (x : Frame). Tells lossy (it ∷ []) (Reported.Did (Act.Contact t.target t.dir t.tool x at) ∷ [])) (sym as_well)
        (one_told lossy it))

tells_part : (v : Selected) (p : Point) → v.zero ≡ Some p → TellsAs v (Command.SetCoordSystem PartCsy) (Does.Frames (Part p))
tells_part v p is lossy k fits given g = go (done k.zero) (Fits.zero fits p is)
  where
    go : (o : Option Point) → IsOr lossy p o → Tells lossy (Act.Framed (Part p) ∷ []) (framed (part_at o) ∷ [])
    go None lost = record { exact = λ e. not_lost lossy lost e; shown = (tt, tt) }
    go (Some q) same = subst (λ (x : Point). Tells lossy (Act.Framed (Part p) ∷ []) (Reported.Did (Act.Framed (Part x)) ∷ [])) (sym same)
        (one_told lossy (Act.Framed (Part p)))

-- ---- plans

abbrev finish : List Planned
finish = planned Command.EndSession Does.Nothing ∷ []

-- commands that select a frame, if what follows agrees with it
agrees_framing : (v : Selected) (frame : Frame) (ps : List Planned)
    → ((w : Selected) → w.tool ≡ v.tool → w.frame ≡ Some frame → Agrees w ps) → Agrees v (framing frame ++ ps)
agrees_framing v Machine ps h = (
  λ lossy k fits given g. one_told lossy (Act.Framed Machine),
  h (record { tool = v.tool; frame = Some Machine; zero = v.zero }) refl refl,
)
agrees_framing v (Part p) ps h =
    let twice : point_opposite (point_opposite p) ≡ p = turned_twice p in
    let w : Selected = selected_after v (Command.SetCsyTransformation (point_opposite p)) in (
      λ lossy k fits given g. none_told lossy,
      (
        tells_part w p (ap (λ (q : Point). Some q) twice),
        h (record { tool = w.tool; frame = Some (Part (point_opposite (point_opposite p))); zero = w.zero }) refl
            (ap (λ (q : Point). Some (Part q)) twice),
      ),
    )

-- a tool is selected if the program has one
abbrev HasTool : Selected → Option (List ℕ) → Type 0
HasTool v tool = (n : List ℕ) → tool ≡ Some n → v.tool ≡ Some n

agrees_steps : (v : Selected) (tool : Option (List ℕ)) (frame : Frame) (ss : List Step) → HasTool v tool → v.frame ≡ Some frame
    → AreSelected tool frame ss → Agrees v (stepping frame ss ++ finish)
agrees_steps v tool frame [] t f h = (λ lossy k fits given g. none_told lossy, tt)
agrees_steps v tool frame (Step.Goto p ∷ ss) t f h = (tells_move v p frame f, agrees_steps v tool frame ss t f h)
agrees_steps v tool frame (Step.Begin l ∷ ss) t f h = agrees_steps v tool frame ss t f h
agrees_steps v tool frame (Step.Touch u ∷ ss) t f h = (
  tells_touch v u (is_empty (block_touches ss)) (t u.tool h.0) (f ∙ ap (λ (x : Frame). Some x) h.1),
  agrees_steps v tool frame ss t f h.2,
)
agrees_steps v tool frame (Step.Tool n ∷ ss) t f h = (
  λ lossy k fits given g. one_told lossy (Act.Changed n),
  agrees_steps (record { tool = Some n; frame = v.frame; zero = v.zero }) (Some n) frame ss (λ m e. e) f h,
)
agrees_steps v tool frame (Step.Recall p ∷ ss) t f h =
    agrees_framing v (Part p) (stepping (Part p) ss ++ finish)
    (λ w same is. agrees_steps w tool (Part p) ss (λ n e. same ∙ t n e) is h)
agrees_steps v tool frame (Step.End ∷ ss) t f h = agrees_steps v tool frame ss t f h

agrees_measuring : (v : Selected) (tool : Option (List ℕ)) (frame : Frame) (ss : List Step) → AreSelected tool frame ss
    → Agrees v (measuring tool frame ss)
agrees_measuring v None frame ss h = agrees_framing v frame (stepping frame ss ++ finish)
    (λ w same is. agrees_steps w None frame ss (λ n e. absurd (cc)) is h)
agrees_measuring v (Some n) frame ss h = (
  λ lossy k fits given g. one_told lossy (Act.Changed n),
  agrees_framing (record { tool = Some n; frame = v.frame; zero = v.zero }) frame (stepping frame ss ++ finish)
      (λ w same is. agrees_steps w (Some n) frame ss (λ m e. same ∙ e) is h),
)

agrees_rest : (v : Selected) (p : Program) (k : ℕ) → IsPlain p
    → Agrees v (measuring (tool_behind None (up_to k p.steps)) (frame_behind Machine (up_to k p.steps)) (behind k p.steps))
agrees_rest v p k h = agrees_measuring v _ _ (behind k p.steps) (selected_at k None Machine p.steps h.selected)

agrees_clearing : (v : Selected) (p : Program) (k : ℕ) → IsProgram p → Agrees v (plan p k SameConnection)
agrees_clearing v p k h = (
  λ lossy x fits given g. none_told lossy,
  (
    tells_homed v,
    (
      λ lossy x fits given g. one_told lossy Act.Homed,
      (
        λ lossy x fits given g. none_told lossy,
        agrees_rest (record { tool = None; frame = v.frame; zero = v.zero }) p k (program_is_plain p h),
      ),
    ),
  ),
)

-- a plan agrees, if nothing is claimed at its start
pub plan_agrees : (p : Program) (k : ℕ) (start : Start) → IsProgram p → Agrees none_selected (plan p k start)
plan_agrees p k NewConnection h = (λ lossy x fits given g. none_told lossy, agrees_clearing none_selected p k h)
plan_agrees p k SameConnection h = agrees_clearing none_selected p k h

-- ---- a homing is passed over

-- what is claimed of one is claimed of the other
record IsLess (v w : Selected) : Type 0 where
  tool : (n : List ℕ) → v.tool ≡ Some n → w.tool ≡ Some n
  frame : (f : Frame) → v.frame ≡ Some f → w.frame ≡ Some f
  zero : (p : Point) → v.zero ≡ Some p → w.zero ≡ Some p

no_value : {A : Type 0} {B : Type 0} (a : A) → ◌≡◌ {A = Option A} None (Some a) → B
no_value a e = absurd (cc)

less_part : (x y : Option Frame) → ((f : Frame) → x ≡ Some f → y ≡ Some f) → (f : Frame) → unless_part x ≡ Some f → unless_part y ≡ Some f
less_part None y h f e = no_value f e
less_part (Some Machine) y h f e = ap unless_part (h Machine refl) ∙ e
less_part (Some (Part p)) y h f e = no_value f e

less_zero : (x y : Option Point) → ((p : Point) → x ≡ Some p → y ≡ Some p) → (f : Frame) → part_at x ≡ Some f → part_at y ≡ Some f
less_zero None y h f e = no_value f e
less_zero (Some p) y h f e = ap part_at (h p refl) ∙ e

less_after : (v w : Selected) (c : Command) → IsLess v w → IsLess (selected_after v c) (selected_after w c)
less_after v w Command.StartSession h = record { tool = λ n e. e; frame = λ f e. e; zero = λ p e. e }
less_after v w Command.EndSession h = record { tool = λ n e. e; frame = λ f e. e; zero = λ p e. e }
less_after v w Command.Home h = record { tool = λ n e. e; frame = IsLess.frame h; zero = IsLess.zero h }
less_after v w (Command.ChangeTool n) h = record { tool = λ m e. e; frame = IsLess.frame h; zero = IsLess.zero h }
less_after v w (Command.SetCsyTransformation p) h =
    record { tool = IsLess.tool h; frame = less_part v.frame w.frame (IsLess.frame h); zero = λ q e. e }
less_after v w (Command.SetCoordSystem MachineCsy) h = record { tool = IsLess.tool h; frame = λ f e. e; zero = IsLess.zero h }
less_after v w (Command.SetCoordSystem PartCsy) h =
    record { tool = IsLess.tool h; frame = less_zero v.zero w.zero (IsLess.zero h); zero = IsLess.zero h }
less_after v w Command.ClearAllErrors h = h
less_after v w Command.IsHomed h = h
less_after v w Command.OnPtMeasReport h = h
less_after v w (Command.GoTo p) h = h
less_after v w (Command.PtMeas p d) h = h
less_after v w Command.AbortE h = h

agrees_more : (v w : Selected) (ps : List Planned) → IsLess v w → Agrees v ps → Agrees w ps
agrees_more v w [] h a = tt
agrees_more v w (p ∷ ps) h a = (
  λ lossy k fits. a.0 lossy k (record {
    tool = λ n e. Fits.tool fits n (IsLess.tool h n e);
    frame = λ f e. Fits.frame fits f (IsLess.frame h f e);
    zero = λ q e. Fits.zero fits q (IsLess.zero h q e);
  }),
  agrees_more (selected_after v p.command) (selected_after w p.command) ps (less_after v w p.command h) a.1,
)

homed_less : (v : Selected) → IsLess (selected_after v Command.Home) v
homed_less v = record { tool = λ n e. no_value n e; frame = λ f e. e; zero = λ p e. e }

-- what is left of a plan agrees too
pub passed_agrees : (v : Selected) (over : Bool) (ps : List Planned) → Agrees v ps → Agrees v (passed_over over ps)
passed_agrees v over ps h = passes (Agrees v) (λ p qs e f. agrees_more (selected_after v Command.Home) v qs (homed_less v)
    (subst (λ (w : Selected). Agrees w qs) (ap (selected_after v) (homing_is p.command e)) f.1)) over ps h
