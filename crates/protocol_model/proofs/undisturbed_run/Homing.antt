-- Plans as they are followed on a machine that is homed or not, and where the question whether it is is in them.
use Rattle.protocol_model.proofs.Names.{[], ◌&&◌, ◌++◌, ◌∙◌, ◌∷◌, ◌≡◌, Act, ap, asks_homed, Bool, Command, Csy, Datum, Direction, Does, Effect, false}
use Rattle.protocol_model.proofs.Names.{false≢true, followed, Frame, framing, heard_in, is_failed, is_homing, Kind, kind_of, Line, List, MachineCsy}
use Rattle.protocol_model.proofs.Names.{measuring, None, not, OpenCommand, Option, Part, PartCsy, passed_over, Planned, Point, point_opposite, refl}
use Rattle.protocol_model.proofs.Names.{Some, Std, Step, stepping, subst, sym, Table, Tag, Tally, tells_homed, tooling, true, Wanted, without_homing}
use Rattle.protocol_model.proofs.Names.{without_homings, ℕ}
use Rattle.fixed_um.specs.declared.frames.Frame.TheVariants.{Machine}
use Rattle.protocol_model.specs.Replies.{Mark}
use Rattle.protocol_model.proofs.HeardTables.{heard}
use Rattle.protocol_model.proofs.table.Basics.{if_true, if_false}
use Rattle.protocol_model.proofs.table.Walks.{two, heard_cases}
use Rattle.protocol_model.proofs.table.Replying.{fine, step_cases}
use Rattle.protocol_model.proofs.invariant.Holding.{all_received}
use Rattle.protocol_model.proofs.undisturbed_run.Following.{kinds_held, kinds_of, IsGiven}

-- ---- what is reported

-- if the first act says whether the machine is homed, it says this
abbrev pub FirstTells : Bool → List Act → Type 0
FirstTells homed [] = Unit {0}
FirstTells homed (Act.HomedIs told ∷ acts) = told ≡ homed
FirstTells homed (Act.Homed ∷ acts) = Unit {0}
FirstTells homed (Act.Moved p f ∷ acts) = Unit {0}
FirstTells homed (Act.Changed n ∷ acts) = Unit {0}
FirstTells homed (Act.Framed f ∷ acts) = Unit {0}
FirstTells homed (Act.Contact target dir tool frame point ∷ acts) = Unit {0}

-- so it does in each front
pub first_tells_front : (homed : Bool) (xs ys : List Act) → FirstTells homed (xs ++ ys) → FirstTells homed xs
first_tells_front homed [] ys h = tt
first_tells_front homed (Act.HomedIs told ∷ acts) ys h = h
first_tells_front homed (Act.Homed ∷ acts) ys h = tt
first_tells_front homed (Act.Moved p f ∷ acts) ys h = tt
first_tells_front homed (Act.Changed n ∷ acts) ys h = tt
first_tells_front homed (Act.Framed f ∷ acts) ys h = tt
first_tells_front homed (Act.Contact target dir tool frame point ∷ acts) ys h = tt

-- ---- a plan as it is followed

-- no command of a plan is such
abbrev pub HasNone : (Command → Bool) → List Planned → Type 0
HasNone such [] = Unit {0}
HasNone such (p ∷ ps) = (such p.command ≡ false) × HasNone such ps

-- no command homes the machine
abbrev pub HasNoHoming : List Planned → Type 0
HasNoHoming ps = HasNone is_homing ps

-- the command that asks whether the machine is homed
abbrev pub is_question : Command → Bool
is_question c = asks_homed (kind_of c)

-- no command asks whether the machine is homed
abbrev pub HasNoQuestion : List Planned → Type 0
HasNoQuestion ps = HasNone is_question ps

-- a command that does not home stays in its place
pub followed_cons : (told : Bool) (p : Planned) (ps : List Planned) → (told ≡ true → is_homing p.command ≡ false)
    → followed told (p ∷ ps) ≡ p ∷ followed told ps
followed_cons false p ps h = refl
followed_cons true p ps h = if_false {A = List Planned} (is_homing p.command) (without_homings ps) (p ∷ without_homings ps) (h refl)

without_passed : (ps : List Planned) → without_homings (without_homing ps) ≡ without_homings ps
without_passed [] = refl
without_passed (p ∷ ps) = go (is_homing p.command) refl
  where
    go : (b : Bool) → is_homing p.command ≡ b → without_homings (without_homing (p ∷ ps)) ≡ without_homings (p ∷ ps)
    go true e = ap without_homings (if_true {A = List Planned} (is_homing p.command) ps (p ∷ ps) e)
        ∙ sym (if_true {A = List Planned} (is_homing p.command) (without_homings ps) (p ∷ without_homings ps) e)
    go false e = ap without_homings (if_false {A = List Planned} (is_homing p.command) ps (p ∷ ps) e)

-- what is skipped because of what is reported is not in it
pub followed_passed : (told t : Bool) (ps : List Planned) → (t ≡ true → told ≡ true) → followed told (passed_over t ps) ≡ followed told ps
followed_passed told false ps h = refl
followed_passed told true ps h = ap (λ (b : Bool). followed b (without_homing ps)) (h refl)
    ∙ (without_passed ps ∙ ap (λ (b : Bool). followed b ps) (sym (h refl)))

-- ---- the question

-- what a plan has before the question: commands that mean no act, and neither ask nor home
pub record IsQuiet (p : Planned) : Type 0 where
  pub nothing : p.does ≡ Does.Nothing
  pub asks : asks_homed (kind_of p.command) ≡ false
  pub homes : is_homing p.command ≡ false

abbrev pub AreQuiet : List Planned → Type 0
AreQuiet [] = Unit {0}
AreQuiet (p ∷ ps) = IsQuiet p × AreQuiet ps

-- the question, the homing after it, and what is left then
pub record IsQuestion (ask home : Planned) (rest : List Planned) : Type 0 where
  pub asks : ask.command ≡ Command.IsHomed
  pub does : ask.does ≡ Does.AsksHomed
  pub homes : is_homing home.command ≡ true
  pub no_homing : HasNoHoming rest
  pub asks_no_more : asks_homed (kind_of home.command) ≡ false
  pub no_question : HasNoQuestion rest

-- what is unsent before the question is counted: the question was sent, and is the last that is open; or it was not
pub data IsLeft (hs : List OpenCommand) (quiet : List Planned) (ask home : Planned) (rest unsent : List Planned) : Type 0 where
  Asked : unsent ≡ home ∷ rest → kinds_held hs ≡ kinds_of quiet ++ Kind.IsHomed ∷ [] → IsLeft hs quiet ask home rest unsent
  Unasked : (later : List Planned) → AreQuiet later → unsent ≡ later ++ ask ∷ home ∷ rest → IsLeft hs quiet ask home rest unsent

-- the question is not counted, and so nothing that means an act
pub record IsBefore (hs : List OpenCommand) (y : Tally) : Type 0 where
  pub quiet : List Planned
  pub are_quiet : AreQuiet quiet
  pub ask : Planned
  pub home : Planned
  pub rest : List Planned
  pub question : IsQuestion ask home rest
  pub todo : y.todo ≡ quiet ++ ask ∷ home ∷ rest
  pub counted : y.counted ≡ []
  pub left : IsLeft hs quiet ask home rest y.unsent

-- it is counted: nothing asks again, and if the machine was reported to be homed, nothing homes it
pub record IsBehind (told : Bool) (y : Tally) : Type 0 where
  pub no_question : HasNoQuestion y.todo
  pub todo : told ≡ true → HasNoHoming y.todo
  pub unsent : told ≡ true → HasNoHoming y.unsent

-- the answer that fits the question
pub answer_of : (given : Option Datum) → IsGiven Kind.IsHomed given → (homed : Bool) × (given ≡ Some (Datum.Homed homed))
answer_of None h = absurd (false≢true (sym h))
answer_of (Some (Datum.Point p)) h = absurd (false≢true h)
answer_of (Some (Datum.Homed homed)) h = (homed, refl)

-- what it says
pub tells_is : (homed : Bool) → tells_homed Kind.IsHomed (Some (Datum.Homed homed)) ≡ homed
tells_is true = refl
tells_is false = refl

-- ---- commands that measure neither ask nor home

-- such commands do not measure, and are not the end of the session
record IsOther (such : Command → Bool) : Type 0 where
  goes : (p : Point) → such (Command.GoTo p) ≡ false
  touches : (p : Point) (d : Option Direction) → such (Command.PtMeas p d) ≡ false
  changes : (n : List ℕ) → such (Command.ChangeTool n) ≡ false
  transforms : (p : Point) → such (Command.SetCsyTransformation p) ≡ false
  selects : (system : Csy) → such (Command.SetCoordSystem system) ≡ false
  ends : such Command.EndSession ≡ false

none_more : (such : Command → Bool) (ps qs : List Planned) → HasNone such ps → HasNone such qs → HasNone such (ps ++ qs)
none_more such [] qs h g = g
none_more such (p ∷ ps) qs h g = (h.0, none_more such ps qs h.1 g)

none_framing : (such : Command → Bool) → IsOther such → (frame : Frame) → HasNone such (framing frame)
none_framing such o Machine = (o.selects MachineCsy, tt)
none_framing such o (Part p) = (o.transforms (point_opposite p), (o.selects PartCsy, tt))

none_tooling : (such : Command → Bool) → IsOther such → (tool : Option (List ℕ)) → HasNone such (tooling tool)
none_tooling such o None = tt
none_tooling such o (Some n) = (o.changes n, tt)

none_steps : (such : Command → Bool) → IsOther such → (frame : Frame) (ss : List Step) → HasNone such (stepping frame ss)
none_steps such o frame [] = tt
none_steps such o frame (Step.Goto p ∷ ss) = (o.goes p, none_steps such o frame ss)
none_steps such o frame (Step.Begin l ∷ ss) = none_steps such o frame ss
none_steps such o frame (Step.Touch t ∷ ss) = (o.touches t.target t.dir, none_steps such o frame ss)
none_steps such o frame (Step.Tool n ∷ ss) = (o.changes n, none_steps such o frame ss)
none_steps such o frame (Step.Recall p ∷ ss) = (
  o.transforms (point_opposite p),
  (o.selects PartCsy, none_steps such o (Part p) ss),
)
none_steps such o frame (Step.End ∷ ss) = none_steps such o frame ss

none_measuring : (such : Command → Bool) → IsOther such → (tool : Option (List ℕ)) (frame : Frame) (ss : List Step)
    → HasNone such (measuring tool frame ss)
none_measuring such o tool frame ss =
    none_more such (tooling tool) _ (none_tooling such o tool) (none_more such (framing frame) _ (none_framing such o frame)
    (none_more such (stepping frame ss) _ (none_steps such o frame ss) (o.ends, tt)))

-- what a plan measures does not home the machine
pub measuring_homes_not : (tool : Option (List ℕ)) (frame : Frame) (ss : List Step) → HasNoHoming (measuring tool frame ss)
measuring_homes_not tool frame ss = none_measuring is_homing (record {
  goes = λ p. refl;
  touches = λ p d. refl;
  changes = λ n. refl;
  transforms = λ p. refl;
  selects = λ system. refl;
  ends = refl;
}) tool frame ss

-- and does not ask whether it is
pub measuring_asks_not : (tool : Option (List ℕ)) (frame : Frame) (ss : List Step) → HasNoQuestion (measuring tool frame ss)
measuring_asks_not tool frame ss = none_measuring is_question (record {
  goes = λ p. refl;
  touches = λ p d. refl;
  changes = λ n. refl;
  transforms = λ p. refl;
  selects = λ system. refl;
  ends = refl;
}) tool frame ss

-- ---- open commands of which none homes the machine

-- the kind of the command that does
abbrev pub homes : Kind → Bool
homes Kind.Home = true
homes _ = false

-- it is the kind of that command
pub homes_is : (c : Command) → homes (kind_of c) ≡ is_homing c
homes_is Command.StartSession = refl
homes_is Command.EndSession = refl
homes_is Command.ClearAllErrors = refl
homes_is Command.IsHomed = refl
homes_is Command.Home = refl
homes_is Command.OnPtMeasReport = refl
homes_is (Command.GoTo p) = refl
homes_is (Command.PtMeas p d) = refl
homes_is (Command.ChangeTool n) = refl
homes_is (Command.SetCsyTransformation p) = refl
homes_is (Command.SetCoordSystem system) = refl
homes_is Command.AbortE = refl

abbrev pub HoldsNoHoming : List OpenCommand → Type 0
HoldsNoHoming [] = Unit {0}
HoldsNoHoming (h ∷ hs) = (homes h.kind ≡ false) × HoldsNoHoming hs

-- one more that does not
pub holds_more : (hs : List OpenCommand) (x : OpenCommand) → HoldsNoHoming hs → homes x.kind ≡ false → HoldsNoHoming (hs ++ x ∷ [])
holds_more [] x h e = (e, tt)
holds_more (y ∷ hs) x h e = (h.0, holds_more hs x h.1 e)

-- a reply opens none
pub holds_keeps : (front : Bool) (hs : List OpenCommand) (t : Tag) (m : Mark) (gs : List OpenCommand) (e : Effect)
    → heard_in front hs t m ≡ two gs e
    → HoldsNoHoming hs → HoldsNoHoming gs
holds_keeps front [] t m gs e is d = absurd (cc)
holds_keeps front (h ∷ hs) t m gs e is d =
    heard_cases front h hs t m gs e (HoldsNoHoming gs) is
    (λ s same v g f. rw g d)
    (λ same v g f. rw g d)
    (λ same v g f. rw g d.1)
    (λ given same v g f. rw g d.1)
    (λ rest other later g. rw g (d.0, holds_keeps (front && is_failed h.stage) hs t m rest e later d.1))

pub step_holds : (ws : List Wanted) (b : Table) (t : Tag) (m : Mark) (c : Table) → heard ws b t m ≡ fine c → HoldsNoHoming b.standard
    → HoldsNoHoming c.standard
step_holds ws b t m c is d =
    step_cases ws b t m c (HoldsNoHoming c.standard) is
    (λ none same. subst (λ (x : Table). HoldsNoHoming x.standard) same d)
    (λ n hs e tag walk g. subst (λ (x : Table). HoldsNoHoming x.standard) (sym g)
    (holds_keeps (not b.tally.failed) b.standard (Std n) m hs e walk d))
    (λ n hs e tag other walk g. subst (λ (x : Table). HoldsNoHoming x.standard) (sym g) d)

-- of what runs and waits, the first that waits does not home
pub waits_homes_not : (busy : List Line) (x : Line) (queued : List Line) (more : List OpenCommand)
    → HoldsNoHoming (all_received (busy ++ x ∷ queued) ++ more) → is_homing x.command ≡ false
waits_homes_not [] x queued more h = sym (homes_is x.command) ∙ h.0
waits_homes_not (l ∷ busy) x queued more h = waits_homes_not busy x queued more h.1
