-- What is to be done succeeds: the session is open, the machine is homed where that is wanted, all is in reach, and the machine obeys; and
-- what is held, with what is still to be measured, are the features that are wanted.
use Rattle.protocol_model.proofs.Names.{[], ◌++◌, ◌+◌, ◌||◌, ◌∙◌, ◌∷◌, ◌≡◌, act_of, ap, append-nil, append_assoc, AreInReach, AreObeyed, as_measured}
use Rattle.protocol_model.proofs.Names.{begins_session, behind, Bool, Command, counted_next, Datum, Does, drop, false, Feature, Frame, frame_behind}
use Rattle.protocol_model.proofs.Names.{framing, is_homing, Job, joined, Kind, length, List, Meaning as Program, measured, MeasuredFeature, None}
use Rattle.protocol_model.proofs.Names.{number_behind, Option, Origin, origin_of, Outcome, Part, passed_over, plain_execution, plain_point}
use Rattle.protocol_model.proofs.Names.{plain_points, plan, Planned, planned, Point, refl, Some, Start, Step, stepping, subst, suc, sym, Tally}
use Rattle.protocol_model.proofs.Names.{tells_homed, tool_behind, tooling, Touch, true, up_to, Wanted, ℕ}
use Rattle.fixed_um.specs.declared.frames.Frame.TheVariants.{Machine}
use Rattle.protocol_model.proofs.table.Replying.{IsFront, front_trans}
use Rattle.protocol_model.proofs.plan.Fitting.{Know, known_by, FitsOne, Fits}
use Rattle.protocol_model.proofs.plan.Marks.{Marked, marks, marks_of, touch_in, touches_in}
use Rattle.protocol_model.proofs.plan.PassedOver.{homing_is, passes, passed_touches}
use Rattle.protocol_model.proofs.invariant.Served.{HaveTouches}

-- ---- the session and the homing

-- whether a command may be processed, by session and homing
abbrev pub Allowed : Bool → Bool → Command → Type 0
Allowed session homed Command.StartSession = session ≡ false
Allowed session homed Command.EndSession = session ≡ true
Allowed session homed Command.ClearAllErrors = Unit {0}
Allowed session homed Command.IsHomed = session ≡ true
Allowed session homed Command.Home = session ≡ true
Allowed session homed Command.OnPtMeasReport = session ≡ true
Allowed session homed (Command.GoTo p) = (session ≡ true) × (homed ≡ true)
Allowed session homed (Command.PtMeas p d) = (session ≡ true) × (homed ≡ true)
Allowed session homed (Command.ChangeTool n) = (session ≡ true) × (homed ≡ true)
Allowed session homed (Command.SetCsyTransformation p) = session ≡ true
Allowed session homed (Command.SetCoordSystem system) = session ≡ true
Allowed session homed Command.AbortE = ⊥

-- the session after a command, and the homing
abbrev pub session_by : Bool → Command → Bool
session_by session Command.StartSession = true
session_by session Command.EndSession = false
session_by session Command.ClearAllErrors = session
session_by session Command.IsHomed = session
session_by session Command.Home = session
session_by session Command.OnPtMeasReport = session
session_by session (Command.GoTo p) = session
session_by session (Command.PtMeas p d) = session
session_by session (Command.ChangeTool n) = session
session_by session (Command.SetCsyTransformation p) = session
session_by session (Command.SetCoordSystem system) = session
session_by session Command.AbortE = session

abbrev pub homed_by : Bool → Command → Bool
homed_by homed Command.Home = true
homed_by homed Command.StartSession = homed
homed_by homed Command.EndSession = homed
homed_by homed Command.ClearAllErrors = homed
homed_by homed Command.IsHomed = homed
homed_by homed Command.OnPtMeasReport = homed
homed_by homed (Command.GoTo p) = homed
homed_by homed (Command.PtMeas p d) = homed
homed_by homed (Command.ChangeTool n) = homed
homed_by homed (Command.SetCsyTransformation p) = homed
homed_by homed (Command.SetCoordSystem system) = homed
homed_by homed Command.AbortE = homed

-- each command of a plan may, one after another
abbrev pub Opened : Bool → Bool → List Planned → Type 0
Opened session homed [] = Unit {0}
Opened session homed (p ∷ ps) = Allowed session homed p.command × Opened (session_by session p.command) (homed_by homed p.command) ps

-- if the machine is homed, so they may without the next homing
opened_homed : (session told : Bool) (ps : List Planned) → Opened session told ps → Opened session told (passed_over told ps)
opened_homed session false ps h = h
opened_homed session true ps h = passes (Opened session true) (λ p qs e f.
    let same : p.command ≡ Command.Home = homing_is p.command e in
    subst (λ (c : Command). Opened (session_by session c) (homed_by true c) qs) same f.1) true ps h

pub opened_passed : (session homed told : Bool) (ps : List Planned) → told ≡ homed → Opened session homed ps
    → Opened session homed (passed_over told ps)
opened_passed session homed told ps e h =
    subst (λ (b : Bool). Opened session b (passed_over told ps)) e
    (opened_homed session told ps (subst (λ (b : Bool). Opened session b ps) (sym e) h))

opened_framing : (f : Frame) (ps : List Planned) → Opened true true ps → Opened true true (framing f ++ ps)
opened_framing Machine ps h = (refl, h)
opened_framing (Part p) ps h = (refl, (refl, h))

opened_tooling : (tool : Option (List ℕ)) (ps : List Planned) → Opened true true ps → Opened true true (tooling tool ++ ps)
opened_tooling None ps h = h
opened_tooling (Some n) ps h = ((refl, refl), h)

opened_steps : (f : Frame) (ss : List Step) (ps : List Planned) → Opened true true ps → Opened true true (stepping f ss ++ ps)
opened_steps f [] ps h = h
opened_steps f (Step.Goto p ∷ ss) ps h = ((refl, refl), opened_steps f ss ps h)
opened_steps f (Step.Begin l ∷ ss) ps h = opened_steps f ss ps h
opened_steps f (Step.Touch t ∷ ss) ps h = ((refl, refl), opened_steps f ss ps h)
opened_steps f (Step.Tool n ∷ ss) ps h = ((refl, refl), opened_steps f ss ps h)
opened_steps f (Step.Recall p ∷ ss) ps h = (refl, (refl, opened_steps (Part p) ss ps h))
opened_steps f (Step.End ∷ ss) ps h = opened_steps f ss ps h

abbrev closing : List Planned
closing = planned Command.EndSession Does.Nothing ∷ []

-- a plan on a new connection may, whether the machine is homed or not
pub plan_opened : (p : Program) (k : ℕ) (homed : Bool) → Opened false homed (plan p k Start.NewConnection)
plan_opened p k homed =
    let f : Frame = frame_behind Machine (up_to k p.steps) in (
      refl,
      (
        tt,
        (
          refl,
          (
            refl,
            (
              refl,
              opened_tooling (tool_behind None (up_to k p.steps)) _
                  (opened_framing f _ (opened_steps f (behind k p.steps) closing (refl, tt))),
            ),
          ),
        ),
      ),
    )

-- ---- what is still to be measured

-- what is measured of touches, with these points of the unfinished feature; the last touch of a feature ends it
abbrev pub rest_of : (Job → ℕ → Outcome) → ℕ → List Wanted → List Point → List Marked → List MeasuredFeature
rest_of answer n ws points [] = []
rest_of answer n ws points ((t, false) ∷ ms) = rest_of answer (suc n) ws (points ++ plain_point answer n t ∷ []) ms
rest_of answer n [] points ((t, true) ∷ ms) = rest_of answer (suc n) [] [] ms
rest_of answer n (w ∷ ws) points ((t, true) ∷ ms) =
    record { label = w.label; points = points ++ plain_point answer n t ∷ [] } ∷ rest_of answer (suc n) ws [] ms

rest_block : (answer : Job → ℕ → Outcome) (n : ℕ) (w : Wanted) (ws : List Wanted) (points : List Point) (t : Touch) (ts : List Touch)
    (ms : List Marked)
    → rest_of answer n (w ∷ ws) points (marks (t ∷ ts) ++ ms)
    ≡ record { label = w.label; points = points ++ plain_points answer n (t ∷ ts) }
    ∷ rest_of answer (n + length (t ∷ ts)) ws [] ms
rest_block answer n w ws points t [] ms = ap (λ (i : ℕ). record { label = w.label; points = points ++ plain_point answer n t ∷ [] }
    ∷ rest_of answer i ws [] ms) (one n)
  where
    one : (i : ℕ) → suc i ≡ i + 1
    one i = omega Rattle.std.proofs.Common.arith
rest_block answer n w ws points t (u ∷ us) ms =
    rest_block answer (suc n) w ws (points ++ plain_point answer n t ∷ []) u us ms
    ∙ (ap (λ (ps : List Point). record { label = w.label; points = ps } ∷ rest_of answer (suc n + length (u ∷ us)) ws [] ms)
    (append_assoc points (plain_point answer n t ∷ []) (plain_points answer (suc n) (u ∷ us)))
    ∙ ap (λ (i : ℕ). record { label = w.label; points = points ++ plain_points answer n (t ∷ u ∷ us) } ∷ rest_of answer i ws [] ms)
    (more n (length us)))
  where
    more : (i k : ℕ) → suc i + suc k ≡ i + suc (suc k)
    more i k = omega Rattle.std.proofs.Common.arith

-- from the beginning of a feature on it is the plain execution
pub rest_plain : (answer : Job → ℕ → Outcome) (n : ℕ) (ws : List Wanted) → HaveTouches ws
    → rest_of answer n ws [] (marks_of ws) ≡ plain_execution answer n ws
rest_plain answer n [] h = refl
rest_plain answer n (w ∷ ws) h = go (rest_plain answer (n + length w.touches) ws h.1) w.touches refl
  where
    go : rest_of answer (n + length w.touches) ws [] (marks_of ws) ≡ plain_execution answer (n + length w.touches) ws
        → (ts : List Touch) → w.touches ≡ ts → rest_of answer n (w ∷ ws) [] (marks_of (w ∷ ws)) ≡ plain_execution answer n (w ∷ ws)
    go later [] e = absurd (h.0 e)
    go later (t ∷ ts) e =
        ap (λ (l : List Touch). rest_of answer n (w ∷ ws) [] (marks l ++ marks_of ws)) e
        ∙ (rest_block answer n w ws [] t ts (marks_of ws)
        ∙ (ap (λ (l : List Touch). record { label = w.label; points = plain_points answer n l }
        ∷ rest_of answer (n + length l) ws [] (marks_of ws)) (sym e)
        ∙ ap (λ (l : List MeasuredFeature). record { label = w.label; points = plain_points answer n w.touches } ∷ l)
        later))

-- ---- all that must hold of what is to be done

-- nothing has failed, what is to be done succeeds, the features held before are the first of those held, and all of them, with what is
-- still to be measured, are the ones that are wanted
pub record IsReady (answer : Job → ℕ → Outcome) (goal : List MeasuredFeature) (kept : List Feature) (ws : List Wanted)
    (session homed : Bool)
    (rack : List (List ℕ)) (n : ℕ) (y : Tally) : Type 0 where
  pub failed : y.failed ≡ false
  pub opened : Opened session homed y.todo
  pub reach : AreInReach rack y.todo
  pub obeys : AreObeyed answer n y.todo
  pub front : IsFront kept y.features
  pub rest : as_measured y.features ++ rest_of answer n (drop (length y.features) ws) y.points (touches_in y.todo) ≡ goal

-- no touch
abbrev pub IsNoTouch : Does → Type 0
IsNoTouch (Does.Touches t last) = ⊥
IsNoTouch Does.Nothing = Unit {0}
IsNoTouch Does.AsksHomed = Unit {0}
IsNoTouch Does.Homes = Unit {0}
IsNoTouch (Does.Moves p f) = Unit {0}
IsNoTouch (Does.Changes n) = Unit {0}
IsNoTouch (Does.Frames f) = Unit {0}

no_mark : (d : Does) → IsNoTouch d → touch_in d ≡ []
no_mark (Does.Touches t last) h = absurd h
no_mark Does.Nothing h = refl
no_mark Does.AsksHomed h = refl
no_mark Does.Homes h = refl
no_mark (Does.Moves p f) h = refl
no_mark (Does.Changes n) h = refl
no_mark (Does.Frames f) h = refl

same_number : (n : ℕ) (d : Does) → IsNoTouch d → number_behind n d ≡ n
same_number n (Does.Touches t last) h = absurd h
same_number n Does.Nothing h = refl
same_number n Does.AsksHomed h = refl
same_number n Does.Homes h = refl
same_number n (Does.Moves p f) h = refl
same_number n (Does.Changes m) h = refl
same_number n (Does.Frames f) h = refl

measures_none : (ws : List Wanted) (d : Does) (given : Option Datum) (y : Tally) → IsNoTouch d → measured ws d given y ≡ y
measures_none ws (Does.Touches t last) given y h = absurd h
measures_none ws Does.Nothing given y h = refl
measures_none ws Does.AsksHomed given y h = refl
measures_none ws Does.Homes given y h = refl
measures_none ws (Does.Moves p f) given y h = refl
measures_none ws (Does.Changes n) given y h = refl
measures_none ws (Does.Frames f) given y h = refl

homes_no_touch : (k : Know) (p : Planned) → is_homing p.command ≡ true → FitsOne k p.command p.does → p.does ≡ Does.Homes
homes_no_touch k p e f = subst (λ (c : Command). FitsOne k c p.does) (homing_is p.command e) f

obeyed_passed : (answer : Job → ℕ → Outcome) (n : ℕ) (k : Know) (told : Bool) (ps : List Planned) → Fits k ps → AreObeyed answer n ps
    → AreObeyed answer n (passed_over told ps)
obeyed_passed answer n k told ps fits h = (passes (λ qs. AreObeyed answer n qs × Fits k qs) (λ p qs e f. (
  subst (λ (i : ℕ). AreObeyed answer i qs) (ap (number_behind n) (homes_no_touch k p e f.1.0)) f.0.1,
  subst (λ (l : Know). Fits l qs) (ap (known_by k) (homing_is p.command e)) f.1.1,
)) told ps (h, fits)).0

reach_passed : (rack : List (List ℕ)) (told : Bool) (ps : List Planned) → AreInReach rack ps → AreInReach rack (passed_over told ps)
reach_passed rack told ps h = passes (AreInReach rack) (λ p qs e f. f.1) told ps h

-- the tally after the first command of what is to be done, before its point
abbrev pub counted_mid : Kind → Option Datum → Planned → List Planned → Tally → Tally
counted_mid k given p todo y = record y {
  session = y.session || begins_session k;
  todo = passed_over (tells_homed k given) todo;
  unsent = passed_over (tells_homed k given) y.unsent;
  counted = y.counted ++ act_of p.does given;
  completed = suc y.completed;
}

-- a command that is not a touch is counted
pub counts_ready : (answer : Job → ℕ → Outcome) (goal : List MeasuredFeature) (kept : List Feature) (ws : List Wanted)
    (session homed later_session later_homed : Bool) (rack : List (List ℕ)) (n : ℕ) (y : Tally) (k : Kind) (given : Option Datum)
    (p : Planned) (whole : List Planned) (know : Know)
    → IsReady answer goal kept ws session homed rack n y → y.todo ≡ p ∷ whole → IsNoTouch p.does → Fits know whole
    → Opened later_session later_homed (passed_over (tells_homed k given) whole)
    → IsReady answer goal kept ws later_session later_homed rack n (counted_next ws k given y.todo y)
counts_ready answer goal kept ws session homed later_session later_homed rack n y k given p whole know r todo none fits opened =
    subst (IsReady answer goal kept ws later_session later_homed rack n) (sym is) (record {
      failed = r.failed;
      opened = opened;
      reach = reach_passed rack told whole reach.1;
      obeys = obeyed_passed answer n know told whole fits (subst (λ (i : ℕ). AreObeyed answer i whole) (same_number n p.does none) obeys.1);
      front = r.front;
      rest = ap (λ (l : List Marked). as_measured y.features ++ rest_of answer n (drop (length y.features) ws) y.points l)
          (passed_touches know told whole fits ∙ sym touches) ∙ r.rest;
    })
  where
    told : Bool
    told = tells_homed k given

    mid : Tally
    mid = counted_mid k given p whole y

    is : counted_next ws k given y.todo y ≡ mid
    is = ap (λ (l : List Planned). counted_next ws k given l y) todo ∙ measures_none ws p.does given mid none

    reach : AreInReach rack (p ∷ whole)
    reach = subst (AreInReach rack) todo r.reach

    obeys : AreObeyed answer n (p ∷ whole)
    obeys = subst (AreObeyed answer n) todo r.obeys

    touches : touches_in y.todo ≡ touches_in whole
    touches = ap touches_in todo ∙ ap (λ (l : List Marked). l ++ touches_in whole) (no_mark p.does none)

-- ---- a touch

-- features as they were measured, one list after another
pub measured_more : (fs gs : List Feature) → as_measured (fs ++ gs) ≡ as_measured fs ++ as_measured gs
measured_more [] gs = refl
measured_more (f ∷ fs) gs = ap (λ (l : List MeasuredFeature). record { label = f.label; points = f.points } ∷ l) (measured_more fs gs)

-- what joins the features that are held: the next one that is wanted
record Joins (ws : List Wanted) (fs : List Feature) (points : List Point) (origin : Option Origin) (answer : Job → ℕ → Outcome) (n : ℕ)
    (t : Touch) (before : List Point) (ms : List Marked) : Type 0 where
  front : IsFront fs (joined ws fs points origin)
  rest : as_measured (joined ws fs points origin)
      ++ rest_of answer (suc n) (drop (length (joined ws fs points origin)) ws) [] ms
      ≡ as_measured fs ++ rest_of answer n (drop (length fs) ws) before ((t, true) ∷ ms)

joins : (ws : List Wanted) (fs : List Feature) (before : List Point) (origin : Option Origin) (answer : Job → ℕ → Outcome) (n : ℕ)
    (t : Touch) (ms : List Marked)
    → Joins ws fs (before ++ plain_point answer n t ∷ []) origin answer n t before ms
joins [] [] before origin answer n t ms = record { front = ([], refl); rest = refl }
joins [] (f ∷ fs) before origin answer n t ms = record {
  front = ([], append-nil (f ∷ fs));
  rest = refl;
}
joins (w ∷ ws) [] before origin answer n t ms = record { front = (_, refl); rest = refl }
joins (w ∷ ws) (f ∷ fs) before origin answer n t ms =
    let j = joins ws fs before origin answer n t ms in
    record {
      front = (j.front.0, ap (λ (l : List Feature). f ∷ l) j.front.1);
      rest = ap (λ (l : List MeasuredFeature). record { label = f.label; points = f.points } ∷ l) j.rest;
    }

-- a touch is counted, with the point that the plain execution has there
pub touch_ready : (answer : Job → ℕ → Outcome) (goal : List MeasuredFeature) (kept : List Feature) (ws : List Wanted)
    (session homed : Bool) (rack : List (List ℕ)) (n : ℕ) (y : Tally) (k : Kind) (t : Touch) (last : Bool) (p : Planned)
    (whole : List Planned)
    → IsReady answer goal kept ws session homed rack n y → y.todo ≡ p ∷ whole → p.does ≡ Does.Touches t last
    → tells_homed k (Some (Datum.Point (plain_point answer n t))) ≡ false → Opened session homed whole
    → IsReady answer goal kept ws session homed rack (suc n)
    (counted_next ws k (Some (Datum.Point (plain_point answer n t))) y.todo y)
touch_ready answer goal kept ws session homed rack n y k t last p whole r todo does quiet opened =
    subst (IsReady answer goal kept ws session homed rack (suc n)) (sym is) (go last does_is)
  where
    given : Option Datum
    given = Some (Datum.Point (plain_point answer n t))

    mid : Tally
    mid = counted_mid k given p whole y

    is : counted_next ws k given y.todo y ≡ measured ws p.does given mid
    is = ap (λ (l : List Planned). counted_next ws k given l y) todo

    does_is : p.does ≡ Does.Touches t last
    does_is = does

    left : mid.todo ≡ whole
    left = ap (λ (b : Bool). passed_over b whole) quiet

    reach : AreInReach rack mid.todo
    reach = subst (AreInReach rack) (sym left) (subst (AreInReach rack) todo r.reach).1

    obeys : AreObeyed answer (suc n) mid.todo
    obeys = subst (AreObeyed answer (suc n)) (sym left)
        (subst (λ (d : Does). AreObeyed answer (number_behind n d) whole) does (subst (AreObeyed answer n) todo r.obeys).1)

    opens : Opened session homed mid.todo
    opens = subst (Opened session homed) (sym left) opened

    rest : (b : Bool) → p.does ≡ Does.Touches t b
        → as_measured y.features ++ rest_of answer n (drop (length y.features) ws) y.points ((t, b) ∷ touches_in whole) ≡ goal
    rest b e = ap (λ (l : List Marked). as_measured y.features ++ rest_of answer n (drop (length y.features) ws) y.points l)
        (sym (ap touches_in todo ∙ ap (λ (d : Does). touch_in d ++ touches_in whole) e)) ∙ r.rest

    go : (b : Bool) → p.does ≡ Does.Touches t b → IsReady answer goal kept ws session homed rack (suc n) (measured ws p.does given mid)
    go false e = subst (λ (d : Does). IsReady answer goal kept ws session homed rack (suc n) (measured ws d given mid)) (sym e) (record {
      failed = r.failed;
      opened = opens;
      reach = reach;
      obeys = obeys;
      front = r.front;
      rest = ap (λ (l : List Planned). as_measured y.features ++ rest_of answer (suc n) (drop (length y.features) ws)
          (y.points ++ plain_point answer n t ∷ []) (touches_in l)) left ∙ rest false e;
    })
    go true e =
        let j = joins ws y.features y.points (origin_of y.connection t.frame) answer n t (touches_in whole) in
        subst (λ (d : Does). IsReady answer goal kept ws session homed rack (suc n) (measured ws d given mid)) (sym e) (record {
          failed = r.failed;
          opened = opens;
          reach = reach;
          obeys = obeys;
          front = front_trans kept y.features _ r.front j.front;
          rest = ap (λ (l : List Planned). as_measured (measured ws (Does.Touches t true) given mid).features
              ++ rest_of answer (suc n) (drop (length (measured ws (Does.Touches t true) given mid).features) ws) [] (touches_in l)) left
              ∙ (j.rest ∙ rest true e);
        })
