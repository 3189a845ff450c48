-- A plan as it is followed: if the machine is reported to be homed, its homing is skipped.
use Rattle.client_core.proofs.Names.{[], ◌++◌, ◌+◌, ◌||◌, ◌∙◌, ◌∷◌, ◌≡◌, Act, act_in, act_of, acts_planned, ap, AreActs, AreAsked, arith, asks_data}
use Rattle.client_core.proofs.Names.{asks_homed, behind, Bool, clearing, Command, cond, Datum, Does, end_of, ends_of, false, false≢true, followed}
use Rattle.client_core.proofs.Names.{frame_behind, framing, has_homing, HasDatum, if_false, is_homing, IsAskedBy, Kind, kind_of, kinds_of, List}
use Rattle.client_core.proofs.Names.{Meaning, measuring, None, Option, passed_over, plan, Planned, refl, Some, StandsFor, Start, stepping, sym, tells}
use Rattle.client_core.proofs.Names.{tells_homed, tells_unasked, told_homed, tool_behind, tooling, true, up_to, without_homing, without_homings, ℕ}
use Rattle.fixed_um.specs.declared.frames.Frame.{Frame}
use Rattle.fixed_um.specs.declared.frames.Frame.TheVariants.{Machine, Part}
use Rattle.dmis_program.specs.declared.steps.Step.{Step}
use Rattle.protocol_model.specs.declared.plans.Start.TheVariants.{NewConnection, SameConnection}
use Rattle.protocol_model.proofs.plan.PassedOver.{passes}

-- ---- a plan asks once, and homes once

abbrev pub once : Bool → ℕ
once true = 1
once false = 0

-- how often planned commands ask whether the machine is homed
abbrev pub asked : List Planned → ℕ
asked [] = 0
asked (p ∷ ps) = once (asks_homed (kind_of p.command)) + asked ps

pub asked_more : (ps qs : List Planned) → asked (ps ++ qs) ≡ asked ps + asked qs
asked_more [] qs = omega (arith)
asked_more (p ∷ ps) qs = let more = asked_more ps qs in omega (arith, more)

-- commands that neither ask nor home
abbrev Measure : List Planned → Type 0
Measure [] = Unit {0}
Measure (p ∷ ps) = (is_homing p.command ≡ false) × (asks_homed (kind_of p.command) ≡ false) × Measure ps

measure_join : (ps qs : List Planned) → Measure ps → Measure qs → Measure (ps ++ qs)
measure_join [] qs h g = g
measure_join (p ∷ ps) qs h g = (h.0, h.1, measure_join ps qs h.2 g)

framing_measures : (frame : Frame) → Measure (framing frame)
framing_measures Machine = (refl, refl, tt)
framing_measures (Part p) = (refl, refl, (refl, refl, tt))

tooling_measures : (tool : Option (List ℕ)) → Measure (tooling tool)
tooling_measures None = tt
tooling_measures (Some n) = (refl, refl, tt)

stepping_measures : (frame : Frame) (ss : List Step) → Measure (stepping frame ss)
stepping_measures frame [] = tt
stepping_measures frame (Step.Goto p ∷ ss) = (refl, refl, stepping_measures frame ss)
stepping_measures frame (Step.Begin l ∷ ss) = stepping_measures frame ss
stepping_measures frame (Step.Touch t ∷ ss) = (refl, refl, stepping_measures frame ss)
stepping_measures frame (Step.Tool n ∷ ss) = (refl, refl, stepping_measures frame ss)
stepping_measures frame (Step.Recall p ∷ ss) = (refl, refl, (refl, refl, stepping_measures (Part p) ss))
stepping_measures frame (Step.End ∷ ss) = stepping_measures frame ss

measuring_measures : (tool : Option (List ℕ)) (frame : Frame) (ss : List Step) → Measure (measuring tool frame ss)
measuring_measures tool frame ss = measure_join (tooling tool) _ (tooling_measures tool)
    (measure_join (framing frame) _ (framing_measures frame) (measure_join (stepping frame ss) _ (stepping_measures frame ss)
    (refl, refl, tt)))

none_asked : (ps : List Planned) → Measure ps → asked ps ≡ 0
none_asked [] h = refl
none_asked (p ∷ ps) h =
    let first : once (asks_homed (kind_of p.command)) ≡ 0 = ap (λ (b : Bool). once b) h.1 in
    let later = none_asked ps h.2 in
    omega (arith, first, later)

none_homes : (ps : List Planned) → Measure ps → has_homing ps ≡ false
none_homes [] h = refl
none_homes (p ∷ ps) h = ap (λ (b : Bool). b || has_homing ps) h.0 ∙ none_homes ps h.2

-- what a plan has after its preamble
abbrev rest_of : Meaning → ℕ → List Planned
rest_of p k = measuring (tool_behind None (up_to k p.steps)) (frame_behind Machine (up_to k p.steps)) (behind k p.steps)

rest_measures : (p : Meaning) (k : ℕ) → Measure (rest_of p k)
rest_measures p k = measuring_measures (tool_behind None (up_to k p.steps)) (frame_behind Machine (up_to k p.steps)) (behind k p.steps)

pub plan_asks_once : (p : Meaning) (k : ℕ) (start : Start) → asked (plan p k start) ≡ 1
plan_asks_once p k NewConnection = let none : asked (rest_of p k) ≡ 0 = none_asked (rest_of p k) (rest_measures p k)
    in omega (arith, none)
plan_asks_once p k SameConnection = let none : asked (rest_of p k) ≡ 0 = none_asked (rest_of p k) (rest_measures p k)
    in omega (arith, none)

-- what is left of commands of which none homes
pub unhomed_behind : (ps qs : List Planned) → has_homing (ps ++ qs) ≡ false → has_homing qs ≡ false
unhomed_behind [] qs h = h
unhomed_behind (p ∷ ps) qs h = unhomed_behind ps qs (later (is_homing p.command) (has_homing (ps ++ qs)) h)
  where
    later : (a b : Bool) → (a || b) ≡ false → b ≡ false
    later true b e = absurd (false≢true (sym e))
    later false b e = e

-- ---- what is passed over

-- the command of this kind homes the machine
abbrev homes : Kind → Bool
homes Kind.Home = true
homes _ = false

homes_by : (c : Command) → is_homing c ≡ homes (kind_of c)
homes_by Command.Home = refl
homes_by Command.StartSession = refl
homes_by Command.EndSession = refl
homes_by Command.ClearAllErrors = refl
homes_by Command.IsHomed = refl
homes_by Command.OnPtMeasReport = refl
homes_by (Command.GoTo p) = refl
homes_by (Command.PtMeas p d) = refl
homes_by (Command.ChangeTool n) = refl
homes_by (Command.SetCsyTransformation p) = refl
homes_by (Command.SetCoordSystem system) = refl
homes_by Command.AbortE = refl

no_question : (k : Kind) → homes k ≡ true → asks_homed k ≡ false
no_question Kind.Home e = refl
no_question Kind.StartSession e = refl
no_question Kind.EndSession e = refl
no_question Kind.ClearAllErrors e = refl
no_question Kind.IsHomed e = absurd (false≢true e)
no_question Kind.OnPtMeasReport e = refl
no_question Kind.GoTo e = refl
no_question Kind.PtMeas e = refl
no_question Kind.ChangeTool e = refl
no_question Kind.SetCsyTransformation e = refl
no_question Kind.SetCoordSystem e = refl
no_question Kind.AbortE e = refl

-- by the kinds of commands alone
abbrev kinds_without : List Kind → List Kind
kinds_without [] = []
kinds_without (k ∷ ks) = cond (homes k) ks (k ∷ ks)

without_kinds : (ps : List Planned) → kinds_of (without_homing ps) ≡ kinds_without (kinds_of ps)
without_kinds [] = refl
without_kinds (p ∷ ps) = go (is_homing p.command) (homes (kind_of p.command)) (homes_by p.command)
  where
    go : (b c : Bool) → b ≡ c → kinds_of (cond b ps (p ∷ ps)) ≡ cond c (kinds_of ps) (kind_of p.command ∷ kinds_of ps)
    go true true e = refl
    go false false e = refl
    go true false e = absurd (false≢true (sym e))
    go false true e = absurd (false≢true e)

-- what is passed over of commands of the same kinds is the same
pub passed_kinds : (told : Bool) (ps qs : List Planned) → kinds_of ps ≡ kinds_of qs
    → kinds_of (passed_over told ps) ≡ kinds_of (passed_over told qs)
passed_kinds false ps qs e = e
passed_kinds true ps qs e = without_kinds ps ∙ (ap kinds_without e ∙ sym (without_kinds qs))

abbrev kinds_home : List Kind → Bool
kinds_home [] = false
kinds_home (k ∷ ks) = homes k || kinds_home ks

home_kinds : (ps : List Planned) → has_homing ps ≡ kinds_home (kinds_of ps)
home_kinds [] = refl
home_kinds (p ∷ ps) = ap (λ (b : Bool). b || has_homing ps) (homes_by p.command)
    ∙ ap (λ (b : Bool). homes (kind_of p.command) || b) (home_kinds ps)

pub homing_kinds : (ps qs : List Planned) → kinds_of ps ≡ kinds_of qs → has_homing ps ≡ has_homing qs
homing_kinds ps qs e = home_kinds ps ∙ (ap kinds_home e ∙ sym (home_kinds qs))

-- it asks as often
pub passed_asked : (told : Bool) (ps : List Planned) → asked (passed_over told ps) ≡ asked ps
passed_asked told ps = passes (λ (qs : List Planned). asked qs ≡ asked ps)
    (λ p qs e f. unasked p qs (no_question (kind_of p.command) (sym (homes_by p.command) ∙ e)) f) told ps refl
  where
    unasked : (p : Planned) (qs : List Planned) → asks_homed (kind_of p.command) ≡ false → asked (p ∷ qs) ≡ asked ps → asked qs ≡ asked ps
    unasked p qs e f = let none : once (asks_homed (kind_of p.command)) ≡ 0 = ap (λ (b : Bool). once b) e in omega (arith, none, f)

-- the same touches end features
pub passed_ends : (told : Bool) (ps : List Planned) → AreAsked ps → ends_of (passed_over told ps) ≡ ends_of ps
passed_ends told ps h = (passes (λ (qs : List Planned). (ends_of qs ≡ ends_of ps) × AreAsked qs)
    (λ p qs e f. (
      ap (λ (l : List Bool). l ++ ends_of qs) (sym (no_end p.does (kind_of p.command) f.1.0 (sym (homes_by p.command) ∙ e))) ∙ f.0,
      f.1.1,
    ))
    told ps (refl, h)).0
  where
    no_end : (d : Does) (k : Kind) → IsAskedBy d k → homes k ≡ true → end_of d ≡ []
    no_end (Does.Touches t last) k is e = absurd (false≢true (ap homes (sym is) ∙ e))
    no_end Does.AsksHomed k is e = refl
    no_end Does.Nothing k is e = refl
    no_end Does.Homes k is e = refl
    no_end (Does.Moves p f) k is e = refl
    no_end (Does.Changes n) k is e = refl
    no_end (Does.Frames f) k is e = refl

-- each command asks for what it needs
pub passed_are_asked : (told : Bool) (ps : List Planned) → AreAsked ps → AreAsked (passed_over told ps)
passed_are_asked told ps h = passes AreAsked (λ p qs e f. f.1) told ps h

-- ---- the whole plan

pub followed_asked : (told : Bool) (ps : List Planned) → asked (followed told ps) ≡ asked ps
followed_asked false ps = refl
followed_asked true [] = refl
followed_asked true (p ∷ ps) = go (is_homing p.command) refl (followed_asked true ps)
  where
    go : (b : Bool) → is_homing p.command ≡ b → asked (without_homings ps) ≡ asked ps
        → asked (cond b (without_homings ps) (p ∷ without_homings ps)) ≡ asked (p ∷ ps)
    go true e later = let none : ◌≡◌ {A = ℕ} (once (asks_homed (kind_of p.command))) 0 =
        ap (λ (b : Bool). once b) (no_question (kind_of p.command) (sym (homes_by p.command) ∙ e)) in omega (arith, none, later)
    go false e later = ap (λ (n : ℕ). once (asks_homed (kind_of p.command)) + n) later

pub followed_are_asked : (told : Bool) (ps : List Planned) → AreAsked ps → AreAsked (followed told ps)
followed_are_asked false ps h = h
followed_are_asked true [] h = tt
followed_are_asked true (p ∷ ps) h = go (is_homing p.command) (followed_are_asked true ps h.1)
  where
    go : (b : Bool) → AreAsked (without_homings ps) → AreAsked (cond b (without_homings ps) (p ∷ without_homings ps))
    go true e = e
    go false e = (h.0, e)

-- no homing is left
pub followed_unhomed : (ps : List Planned) → has_homing (followed true ps) ≡ false
followed_unhomed [] = refl
followed_unhomed (p ∷ ps) = go (is_homing p.command) refl (followed_unhomed ps)
  where
    go : (b : Bool) → is_homing p.command ≡ b → has_homing (without_homings ps) ≡ false
        → has_homing (cond b (without_homings ps) (p ∷ without_homings ps)) ≡ false
    go true e later = later
    go false e later = ap (λ (b : Bool). b || has_homing (without_homings ps)) e ∙ later

-- before the question no command homes the machine, and after it the first alone
abbrev pub HomesBehind : List Planned → Type 0
HomesBehind [] = Unit {0}
HomesBehind (p ∷ ps) = (asks_homed (kind_of p.command) ≡ true → has_homing (without_homing ps) ≡ false)
    × (asks_homed (kind_of p.command) ≡ false → (is_homing p.command ≡ false) × HomesBehind ps)

opening_homes : (p : Meaning) (k : ℕ) → HomesBehind (clearing (rest_of p k))
opening_homes p k = (
  λ e. absurd (false≢true e),
  λ e. (refl, (λ f. none_homes (rest_of p k) (rest_measures p k), λ f. absurd (false≢true (sym f)))),
)

pub plan_homes : (p : Meaning) (k : ℕ) (start : Start) → HomesBehind (plan p k start)
plan_homes p k NewConnection = (λ e. absurd (false≢true e), λ e. (refl, opening_homes p k))
plan_homes p k SameConnection = opening_homes p k

-- where no command homes, none is left out
none_without : (ps : List Planned) → has_homing ps ≡ false → without_homings ps ≡ ps
none_without [] h = refl
none_without (p ∷ ps) h = go (is_homing p.command) h (none_without ps)
  where
    go : (b : Bool) → (b || has_homing ps) ≡ false → (has_homing ps ≡ false → without_homings ps ≡ ps)
        → cond b (without_homings ps) (p ∷ without_homings ps) ≡ p ∷ ps
    go true e later = absurd (false≢true (sym e))
    go false e later = ap (λ (l : List Planned). p ∷ l) (later e)

without_first : (ps : List Planned) → without_homings (without_homing ps) ≡ without_homings ps
without_first [] = refl
without_first (p ∷ ps) = go (is_homing p.command) refl
  where
    go : (b : Bool) → is_homing p.command ≡ b
        → without_homings (cond b ps (p ∷ ps)) ≡ cond b (without_homings ps) (p ∷ without_homings ps)
    go true e = refl
    go false e = if_false {A = List Planned} (is_homing p.command) (without_homings ps) (p ∷ without_homings ps) e

-- at the question the plan as it is followed is the plan with the homing passed over
pub followed_at : (ps : List Planned) (q : Planned) (qs : List Planned) → HomesBehind (ps ++ q ∷ qs) → asked ps ≡ 0
    → asks_homed (kind_of q.command) ≡ true → followed true (ps ++ q ∷ qs) ≡ ps ++ q ∷ passed_over true qs
followed_at [] q qs h none asks =
    if_false {A = List Planned} (is_homing q.command) (without_homings qs) (q ∷ without_homings qs) (go (is_homing q.command) refl)
    ∙ ap (λ (l : List Planned). q ∷ l) (sym (without_first qs) ∙ none_without (without_homing qs) (h.0 asks))
  where
    go : (b : Bool) → is_homing q.command ≡ b → is_homing q.command ≡ false
    go true e = absurd (false≢true (sym (no_question (kind_of q.command) (sym (homes_by q.command) ∙ e)) ∙ asks))
    go false e = e
followed_at (p ∷ ps) q qs h none asks =
    let more : once (asks_homed (kind_of p.command)) + asked ps ≡ 0 = none in
    let quiet = h.1 (go (asks_homed (kind_of p.command)) more) in
    if_false {A = List Planned} (is_homing p.command) (without_homings (ps ++ q ∷ qs)) (p ∷ without_homings (ps ++ q ∷ qs)) quiet.0
    ∙ ap (λ (l : List Planned). p ∷ l) (followed_at ps q qs quiet.1 (omega (arith, more)) asks)
  where
    go : (b : Bool) → once b + asked ps ≡ 0 → b ≡ false
    go true e = absurd (omega (arith, e))
    go false e = refl

-- ---- what the acts say

pub told_more : (xs ys : List Act) → told_homed (xs ++ ys) ≡ (told_homed xs || told_homed ys)
told_more [] ys = refl
told_more (a ∷ xs) ys = go (tells a) (told_more xs ys)
  where
    go : (b : Bool) → told_homed (xs ++ ys) ≡ (told_homed xs || told_homed ys)
        → (b || told_homed (xs ++ ys)) ≡ ((b || told_homed xs) || told_homed ys)
    go true e = refl
    go false e = e

tells_not : (k : Kind) (given : Option Datum) → asks_data k ≡ false → tells_homed k given ≡ false
tells_not Kind.IsHomed given e = absurd (false≢true (sym e))
tells_not Kind.StartSession given e = refl
tells_not Kind.EndSession given e = refl
tells_not Kind.ClearAllErrors given e = refl
tells_not Kind.Home given e = refl
tells_not Kind.OnPtMeasReport given e = refl
tells_not Kind.GoTo given e = refl
tells_not Kind.PtMeas given e = refl
tells_not Kind.ChangeTool given e = refl
tells_not Kind.SetCsyTransformation given e = refl
tells_not Kind.SetCoordSystem given e = refl
tells_not Kind.AbortE given e = refl

-- the act of a counted command says it where its data do
pub told_by : (d : Does) (k : Kind) (given : Option Datum) → IsAskedBy d k → HasDatum d given
    → told_homed (act_of d given) ≡ tells_homed k given
told_by (Does.Touches t last) k None is has = absurd has
told_by (Does.Touches t last) k (Some (Datum.Homed homed)) is has = absurd has
told_by (Does.Touches t last) k (Some (Datum.Point p)) is has = ap (λ (x : Kind). tells_homed x (Some (Datum.Point p))) (sym is)
told_by Does.AsksHomed k None is has = absurd has
told_by Does.AsksHomed k (Some (Datum.Point p)) is has = absurd has
told_by Does.AsksHomed k (Some (Datum.Homed true)) is has = ap (λ (x : Kind). tells_homed x (Some (Datum.Homed true))) (sym is)
told_by Does.AsksHomed k (Some (Datum.Homed false)) is has = ap (λ (x : Kind). tells_homed x (Some (Datum.Homed false))) (sym is)
told_by Does.Nothing k given is has = sym (tells_not k given is)
told_by Does.Homes k given is has = sym (tells_not k given is)
told_by (Does.Moves p f) k given is has = sym (tells_not k given is)
told_by (Does.Changes n) k given is has = sym (tells_not k given is)
told_by (Does.Frames f) k given is has = sym (tells_not k given is)

-- a command that says it asks it
pub told_asks : (k : Kind) (given : Option Datum) → tells_homed k given ≡ true → asks_homed k ≡ true
told_asks k given e = go (asks_homed k) refl
  where
    go : (b : Bool) → asks_homed k ≡ b → asks_homed k ≡ true
    go true is = is
    go false is = absurd (false≢true (sym (tells_unasked k given is) ∙ e))

abbrev is_question : Does → Bool
is_question Does.AsksHomed = true
is_question _ = false

not_told : (a : Act) (d : Does) → is_question d ≡ false → StandsFor a d → tells a ≡ false
not_told (Act.HomedIs homed) Does.AsksHomed other h = absurd (false≢true (sym other))
not_told (Act.HomedIs homed) Does.Nothing other h = absurd h
not_told (Act.HomedIs homed) Does.Homes other h = absurd h
not_told (Act.HomedIs homed) (Does.Moves p f) other h = absurd h
not_told (Act.HomedIs homed) (Does.Changes n) other h = absurd h
not_told (Act.HomedIs homed) (Does.Frames f) other h = absurd h
not_told (Act.HomedIs homed) (Does.Touches t last) other h = absurd h
not_told Act.Homed d other h = refl
not_told (Act.Moved p f) d other h = refl
not_told (Act.Changed n) d other h = refl
not_told (Act.Framed f) d other h = refl
not_told (Act.Contact target dir tool frame point) d other h = refl

one_act : (d : Does) (acts : List Act) (ds : List Does) → is_question d ≡ false → AreActs acts (d ∷ ds)
    → ((rest : List Act) → AreActs rest ds → told_homed rest ≡ false) → told_homed acts ≡ false
one_act d [] ds other h later = absurd h
one_act d (a ∷ acts) ds other h later = ap (λ (b : Bool). b || told_homed acts) (not_told a d other h.0) ∙ later acts h.1

-- before the question it is not reported
pub untold : (acts : List Act) (ps : List Planned) → AreActs acts (acts_planned ps) → AreAsked ps → asked ps ≡ 0
    → told_homed acts ≡ false
untold [] [] h are none = refl
untold (a ∷ acts) [] h are none = absurd h
untold acts (p ∷ ps) h are none = go p.does are.0 h (λ rest g. untold rest ps g are.1 (omega (arith, none)))
  where
    go : (d : Does) → IsAskedBy d (kind_of p.command) → AreActs acts (act_in d ++ acts_planned ps)
        → ((rest : List Act) → AreActs rest (acts_planned ps) → told_homed rest ≡ false) → told_homed acts ≡ false
    go Does.AsksHomed is g later = absurd (question (ap asks_homed is))
      where
        question : asks_homed (kind_of p.command) ≡ true → ⊥
        question e = let one : once (asks_homed (kind_of p.command)) ≡ 1 = ap (λ (b : Bool). once b) e in omega (arith, one, none)
    go Does.Nothing is g later = later acts g
    go Does.Homes is g later = one_act Does.Homes acts (acts_planned ps) refl g later
    go (Does.Moves q f) is g later = one_act (Does.Moves q f) acts (acts_planned ps) refl g later
    go (Does.Changes n) is g later = one_act (Does.Changes n) acts (acts_planned ps) refl g later
    go (Does.Frames f) is g later = one_act (Does.Frames f) acts (acts_planned ps) refl g later
    go (Does.Touches t last) is g later = one_act (Does.Touches t last) acts (acts_planned ps) refl g later
