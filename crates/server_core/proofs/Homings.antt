-- Which calls home the machine of a server, and which end that.
use Rattle.server_core.proofs.Names.{[], ◌&&◌, ◌||◌, ◌∷◌, ◌≡◌, Accept, Act, Answer, ap, behind_call, Bool, Call, carried, carried_out, Command}
use Rattle.server_core.proofs.Names.{command_in, command_of, cond, Deed, deed_at_once, deed_of, done_deed, end_deed, Err, false, false≢true, Feed}
use Rattle.server_core.proofs.Names.{finished, fresh, Front, front_served, homed_behind, is_abort, is_clear, is_event_tag, is_home, is_none, Leave}
use Rattle.server_core.proofs.Names.{length, Line, LineFault, List, Machine, machined, may_end, may_turn, Misread, nat_le, next_of, None, not, Ok}
use Rattle.server_core.proofs.Names.{ok_of, Option, Outcome, Point, possible, Reading, reading_of, ReadOne, refl, refusal, refusal_in, Restart}
use Rattle.server_core.proofs.Names.{Result, runs_home, runs_under, Sent, Server, server_read, ServerEnd, serving_accepted, serving_fed}
use Rattle.server_core.proofs.Names.{serving_machined, serving_read, serving_taken, serving_turned, Some, stands, subst, sym, Tag, tagged, taken}
use Rattle.server_core.proofs.Names.{touch_deed, touched, true, Turn, turn_deed, turned_to, Waiting, waits_under, ℕ}
use Rattle.server_core.proofs.Deeds.{chosen}
use Rattle.server_core.proofs.Steadies.{branch}

-- an answer leaves it as it was
abbrev Stays : Server → Answer → Type 0
Stays s a = a.server.homed ≡ s.homed

-- ---- a line that is read

stands_homed : (s : Server) (t : Tag) (reading : Result Command Misread) → Stays s (stands s t reading)
stands_homed s t reading =
    branch (Stays s) (s.error && not (is_clear reading)) _ _ (λ refused. refl)
    (λ go. branch (Stays s) s.error _ _ (λ error. refl)
    (λ calm. branch (Stays s) (nat_le 64 (length s.waiting)) _ _ (λ full. refl) (λ room. refl)))

fresh_homed : (s : Server) (t : Tag) (reading : Result Command Misread) → Stays s (fresh s t reading)
fresh_homed s t (Ok c) = branch (Stays s) (is_abort (Ok c)) _ _ (λ aborts. refl) (λ other. stands_homed s t (Ok c))
fresh_homed s t (Err why) = branch (Stays s) (is_event_tag t) _ _ (λ event. refl) (λ standard. stands_homed s t (Err why))

tagged_homed : (s : Server) (t : Tag) (reading : Result Command Misread) → Stays s (tagged s t reading)
tagged_homed s t reading =
    branch (Stays s) (runs_under t s.running || waits_under t s.waiting) _ _ (λ used. refl) (λ free. fresh_homed s t reading)

read_homed : (s : Server) (reading : Reading) → Stays s (server_read s reading)
read_homed s (Ok line) = tagged_homed s line.tag (Ok line.command)
read_homed s (Err LineFault.NoTag) = refl
read_homed s (Err (LineFault.UnknownCommand t)) = tagged_homed s t (Err Misread.UnknownCommand)
read_homed s (Err (LineFault.BadArguments t k)) = tagged_homed s t (Err (Misread.BadArguments k))

front_homed : (e : ServerEnd) (front : Front) → (front_served e front).server.homed ≡ e.server.homed
front_homed e (Ok None) = refl
front_homed e (Ok (Some (line, rest))) = read_homed e.server (reading_of (command_of line))
front_homed e (Err why) = refl

-- ---- a turn

carried_homed : (s : Server) (t : Tag) (c : Command) → (carried_out s t c).server.homed ≡ (not (is_home (Some c)) && s.homed)
carried_homed s t Command.StartSession = refl
carried_homed s t Command.EndSession = refl
carried_homed s t Command.ClearAllErrors = refl
carried_homed s t Command.IsHomed = refl
carried_homed s t Command.Home = refl
carried_homed s t Command.OnPtMeasReport = refl
carried_homed s t (Command.GoTo p) = refl
carried_homed s t (Command.PtMeas p d) = refl
carried_homed s t (Command.ChangeTool n) = refl
carried_homed s t (Command.SetCsyTransformation p) = refl
carried_homed s t (Command.SetCoordSystem system) = refl
carried_homed s t Command.AbortE = refl

taken_homed : (s : Server) (w : Waiting) (ws : List Waiting) (number : Option ℕ)
    → (taken s w ws number).server.homed ≡ (not (is_none number && is_home (ok_of w.reading)) && s.homed)
taken_homed s w ws (Some number) = refl
taken_homed s w ws None = go w.reading
  where
    go : (reading : Result Command Misread) → (carried (record s { waiting = ws }) w.tag reading).server.homed
        ≡ (not (is_home (ok_of reading)) && s.homed)
    go (Ok c) = carried_homed (record s { waiting = ws }) w.tag c
    go (Err refused) = refl

turned_homed : (s : Server) (ws : List Waiting)
    → (turned_to s ws).server.homed ≡ (not (is_none (refusal_in s ws) && is_home (command_in ws)) && s.homed)
turned_homed s [] = refl
turned_homed s (w ∷ ws) = taken_homed s w ws (refusal s w.reading)

turn_homed : (e : ServerEnd) (may : Bool) → (cond may (serving_turned e) e).server.homed
    ≡ (not (may && (is_none (refusal_in e.server e.server.waiting) && is_home (command_in e.server.waiting))) && e.server.homed)
turn_homed e true = turned_homed e.server e.server.waiting
turn_homed e false = refl

-- ---- the end of what runs

done_homed : (s : Server) (running : Option Line) → (machined s Outcome.Done running).server.homed ≡ (runs_home running || s.homed)
done_homed s None = refl
done_homed s (Some line) = go line.command
  where
    go : (c : Command) → (finished s line.tag c).server.homed ≡ (is_home (Some c) || s.homed)
    go Command.StartSession = refl
    go Command.EndSession = refl
    go Command.ClearAllErrors = refl
    go Command.IsHomed = refl
    go Command.Home = refl
    go Command.OnPtMeasReport = refl
    go (Command.GoTo p) = refl
    go (Command.PtMeas p d) = refl
    go (Command.ChangeTool n) = refl
    go (Command.SetCsyTransformation p) = refl
    go (Command.SetCoordSystem system) = refl
    go Command.AbortE = refl

not_done : (running : Option Line) → may_end running Outcome.Done ≡ false → runs_home running ≡ false
not_done None e = refl
not_done (Some line) e = go line.command e
  where
    go : (c : Command) → may_end (Some (record { tag = line.tag; command = c })) Outcome.Done ≡ false → is_home (Some c) ≡ false
    go Command.StartSession e = refl
    go Command.EndSession e = refl
    go Command.ClearAllErrors e = refl
    go Command.IsHomed e = refl
    go Command.Home e = absurd (false≢true (sym e))
    go Command.OnPtMeasReport e = refl
    go (Command.GoTo p) e = refl
    go (Command.PtMeas p d) e = refl
    go (Command.ChangeTool n) e = refl
    go (Command.SetCsyTransformation p) e = refl
    go (Command.SetCoordSystem system) e = refl
    go Command.AbortE e = refl

touched_homed : (s : Server) (t : Tag) (c : Command) (at : Point) (tool : Option (List ℕ)) → Stays s (touched s t c at tool)
touched_homed s t Command.StartSession at tool = refl
touched_homed s t Command.EndSession at tool = refl
touched_homed s t Command.ClearAllErrors at tool = refl
touched_homed s t Command.IsHomed at tool = refl
touched_homed s t Command.Home at tool = refl
touched_homed s t Command.OnPtMeasReport at tool = refl
touched_homed s t (Command.GoTo p) at tool = refl
touched_homed s t (Command.PtMeas p d) at (Some n) = refl
touched_homed s t (Command.PtMeas p d) at None = refl
touched_homed s t (Command.ChangeTool n) at tool = refl
touched_homed s t (Command.SetCsyTransformation p) at tool = refl
touched_homed s t (Command.SetCoordSystem system) at tool = refl
touched_homed s t Command.AbortE at tool = refl

touch_homed : (s : Server) (at : Point) (running : Option Line) → Stays s (machined s (Outcome.Touched at) running)
touch_homed s at None = refl
touch_homed s at (Some line) = touched_homed s line.tag line.command at s.tool

missed_homed : (s : Server) (running : Option Line) → Stays s (machined s Outcome.Missed running)
missed_homed s None = refl
missed_homed s (Some line) = refl

fault_homed : (s : Server) (running : Option Line) → Stays s (machined s Outcome.Fault running)
fault_homed s None = refl
fault_homed s (Some line) = refl

-- ---- each call

abbrev As : Call → ServerEnd → ServerEnd → Type 0
As call e f = f.server.homed ≡ homed_behind call e

pub call_homed : (call : Call) (e : ServerEnd) → (behind_call call e).server.homed ≡ homed_behind call e
call_homed (Accept n) e = chosen (As (Accept n) e) (possible (Accept n) e) (serving_accepted n e) e (λ may. refl) (λ may. refl)
call_homed (Feed bytes) e = chosen (As (Feed bytes) e) (possible (Feed bytes) e) (serving_fed bytes e) e (λ may. refl) (λ may. refl)
call_homed ReadOne e = chosen (As ReadOne e) (possible ReadOne e) (serving_read e) e
    (λ may. front_homed e (next_of e.input.rest)) (λ may. refl)
call_homed Turn e = turn_homed e (may_turn e.server)
call_homed (Machine Outcome.Done) e =
    chosen (As (Machine Outcome.Done) e) (possible (Machine Outcome.Done) e) (serving_machined Outcome.Done e) e
    (λ may. done_homed e.server e.server.running)
    (λ may. ap (λ (b : Bool). b || e.server.homed) (sym (not_done e.server.running may)))
call_homed (Machine (Outcome.Touched at)) e =
    chosen (As (Machine (Outcome.Touched at)) e) (possible (Machine (Outcome.Touched at)) e) (serving_machined (Outcome.Touched at) e) e
    (λ may. touch_homed e.server at e.server.running) (λ may. refl)
call_homed (Machine Outcome.Missed) e =
    chosen (As (Machine Outcome.Missed) e) (possible (Machine Outcome.Missed) e) (serving_machined Outcome.Missed e) e
    (λ may. missed_homed e.server e.server.running) (λ may. refl)
call_homed (Machine Outcome.Fault) e =
    chosen (As (Machine Outcome.Fault) e) (possible (Machine Outcome.Fault) e) (serving_machined Outcome.Fault e) e
    (λ may. fault_homed e.server e.server.running) (λ may. refl)
call_homed Leave e = refl
call_homed Restart e = refl
call_homed (Sent count) e = chosen (As (Sent count) e) (possible (Sent count) e) (serving_taken count e) e
    (λ may. refl) (λ may. refl)

-- ---- what is reported

-- where a deed is an answer to IsHomed, it is this one
abbrev Tells : Bool → Option Deed → Type 0
Tells homed None = Unit {0}
Tells homed (Some deed) = (told : Bool) → deed.act ≡ Act.HomedIs told → told ≡ homed

tells_if : (homed b : Bool) (deed : Option Deed) → Tells homed deed → Tells homed (cond b deed None)
tells_if homed true deed h = h
tells_if homed false deed h = tt

told_at_once : (s : Server) (t : Tag) (c : Option Command) → Tells s.homed (deed_at_once s t c)
told_at_once s t None = tt
told_at_once s t (Some Command.StartSession) = tt
told_at_once s t (Some Command.EndSession) = tt
told_at_once s t (Some Command.ClearAllErrors) = tt
told_at_once s t (Some Command.IsHomed) = λ told e. cc
told_at_once s t (Some Command.Home) = tt
told_at_once s t (Some Command.OnPtMeasReport) = tt
told_at_once s t (Some (Command.GoTo p)) = tt
told_at_once s t (Some (Command.PtMeas p d)) = tt
told_at_once s t (Some (Command.ChangeTool n)) = tt
told_at_once s t (Some (Command.SetCsyTransformation p)) = tt
told_at_once s t (Some (Command.SetCoordSystem system)) = λ told e. absurd (cc)
told_at_once s t (Some Command.AbortE) = tt

told_at_turn : (s : Server) (ws : List Waiting) → Tells s.homed (turn_deed s ws)
told_at_turn s [] = tt
told_at_turn s (w ∷ ws) = tells_if s.homed (is_none (refusal s w.reading)) _ (told_at_once s w.tag (ok_of w.reading))

told_when_done : (s : Server) (t : Tag) (c : Command) → Tells s.homed (done_deed s t c)
told_when_done s t Command.StartSession = tt
told_when_done s t Command.EndSession = tt
told_when_done s t Command.ClearAllErrors = tt
told_when_done s t Command.IsHomed = tt
told_when_done s t Command.Home = λ told e. absurd (cc)
told_when_done s t Command.OnPtMeasReport = tt
told_when_done s t (Command.GoTo p) = λ told e. absurd (cc)
told_when_done s t (Command.PtMeas p d) = tt
told_when_done s t (Command.ChangeTool n) = λ told e. absurd (cc)
told_when_done s t (Command.SetCsyTransformation p) = tt
told_when_done s t (Command.SetCoordSystem system) = tt
told_when_done s t Command.AbortE = tt

told_by_touch : (s : Server) (t : Tag) (c : Command) (at : Point) (tool : Option (List ℕ)) → Tells s.homed (touch_deed s t c at tool)
told_by_touch s t Command.StartSession at tool = tt
told_by_touch s t Command.EndSession at tool = tt
told_by_touch s t Command.ClearAllErrors at tool = tt
told_by_touch s t Command.IsHomed at tool = tt
told_by_touch s t Command.Home at tool = tt
told_by_touch s t Command.OnPtMeasReport at tool = tt
told_by_touch s t (Command.GoTo p) at tool = tt
told_by_touch s t (Command.PtMeas p d) at (Some n) = λ told e. absurd (cc)
told_by_touch s t (Command.PtMeas p d) at None = tt
told_by_touch s t (Command.ChangeTool n) at tool = tt
told_by_touch s t (Command.SetCsyTransformation p) at tool = tt
told_by_touch s t (Command.SetCoordSystem system) at tool = tt
told_by_touch s t Command.AbortE at tool = tt

told_at_end : (s : Server) (ended : Outcome) (running : Option Line) → Tells s.homed (end_deed s ended running)
told_at_end s Outcome.Done None = tt
told_at_end s (Outcome.Touched at) None = tt
told_at_end s Outcome.Missed None = tt
told_at_end s Outcome.Fault None = tt
told_at_end s Outcome.Done (Some line) = told_when_done s line.tag line.command
told_at_end s (Outcome.Touched at) (Some line) = told_by_touch s line.tag line.command at s.tool
told_at_end s Outcome.Missed (Some line) = tt
told_at_end s Outcome.Fault (Some line) = tt

told_by : (call : Call) (e : ServerEnd) → Tells e.server.homed (deed_of call e)
told_by (Accept n) e = tt
told_by (Feed bytes) e = tt
told_by ReadOne e = tt
told_by Turn e = tells_if e.server.homed (may_turn e.server) _ (told_at_turn e.server e.server.waiting)
told_by (Machine ended) e = tells_if e.server.homed (may_end e.server.running ended) _ (told_at_end e.server ended e.server.running)
told_by Leave e = tt
told_by Restart e = tt
told_by (Sent count) e = tt

pub homed_is_told : (call : Call) (e : ServerEnd) (deed : Deed) (told : Bool) → deed_of call e ≡ Some deed → deed.act ≡ Act.HomedIs told
    → told ≡ e.server.homed
homed_is_told call e deed told is = subst (Tells e.server.homed) is (told_by call e) told
