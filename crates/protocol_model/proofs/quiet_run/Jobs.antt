-- What runs at a server is a job of its machine.
use Rattle.protocol_model.proofs.Names.{[], ◌&&◌, ◌||◌, ◌∷◌, ◌≡◌, Answer, Bool, carried, carried_out, Command, cond, Err, false, finished, Frame}
use Rattle.protocol_model.proofs.Names.{fresh, is_abort, is_clear, is_event_tag, job_of, job_run, length, Line, LineFault, List, machined, Misread}
use Rattle.protocol_model.proofs.Names.{nat_le, None, not, Ok, Option, Outcome, Point, Reading, refl, refusal, Result, runs_under, Server}
use Rattle.protocol_model.proofs.Names.{server_machined, server_read, server_turned, Some, stands, Tag, tagged, taken, touched, true, turned_to}
use Rattle.protocol_model.proofs.Names.{Waiting, waits_under, ℕ}

-- a command that the machine carries out
abbrev pub IsJob : Command → Type 0
IsJob Command.Home = Unit {0}
IsJob (Command.ChangeTool n) = Unit {0}
IsJob (Command.GoTo p) = Unit {0}
IsJob (Command.PtMeas p d) = Unit {0}
IsJob Command.StartSession = ⊥
IsJob Command.EndSession = ⊥
IsJob Command.ClearAllErrors = ⊥
IsJob Command.IsHomed = ⊥
IsJob Command.OnPtMeasReport = ⊥
IsJob (Command.SetCsyTransformation p) = ⊥
IsJob (Command.SetCoordSystem system) = ⊥
IsJob Command.AbortE = ⊥

-- what runs is one, if anything does
abbrev pub RunsJob : Option Line → Type 0
RunsJob None = Unit {0}
RunsJob (Some line) = IsJob line.command

-- if the machine is asked for nothing, nothing runs
pub nothing_runs : (frame : Frame) (running : Option Line) → RunsJob running → job_run frame running ≡ None → running ≡ None
nothing_runs frame None h e = refl
nothing_runs frame (Some line) h e = absurd (go line.command h e)
  where
    go : (c : Command) → IsJob c → job_of frame c ≡ None → ⊥
    go Command.Home h e = cc
    go (Command.ChangeTool n) h e = cc
    go (Command.GoTo p) h e = cc
    go (Command.PtMeas p d) h e = cc
    go Command.StartSession h e = h
    go Command.EndSession h e = h
    go Command.ClearAllErrors h e = h
    go Command.IsHomed h e = h
    go Command.OnPtMeasReport h e = h
    go (Command.SetCsyTransformation p) h e = h
    go (Command.SetCoordSystem system) h e = h
    go Command.AbortE h e = h

abbrev AnswersJob : Answer → Type 0
AnswersJob a = RunsJob a.server.running

either : (b : Bool) (x y : Answer) → AnswersJob x → AnswersJob y → AnswersJob (cond b x y)
either true x y p q = p
either false x y p q = q

stands_job : (s : Server) (t : Tag) (reading : Result Command Misread) → RunsJob s.running → AnswersJob (stands s t reading)
stands_job s t reading h = either (s.error && not (is_clear reading)) _ _ h (either s.error _ _ h (either (nat_le 64 (length s.waiting)) _ _
    h h))

fresh_job : (s : Server) (t : Tag) (reading : Result Command Misread) → RunsJob s.running → AnswersJob (fresh s t reading)
fresh_job s t (Ok c) h = either (is_abort (Ok c)) _ _ tt (stands_job s t (Ok c) h)
fresh_job s t (Err why) h = either (is_event_tag t) _ _ h (stands_job s t (Err why) h)

tagged_job : (s : Server) (t : Tag) (reading : Result Command Misread) → RunsJob s.running → AnswersJob (tagged s t reading)
tagged_job s t reading h = either (runs_under t s.running || waits_under t s.waiting) _ _ h (fresh_job s t reading h)

-- a line that is read begins no other
pub read_job : (s : Server) (reading : Reading) → RunsJob s.running → RunsJob (server_read s reading).server.running
read_job s (Ok line) h = tagged_job s line.tag (Ok line.command) h
read_job s (Err LineFault.NoTag) h = h
read_job s (Err (LineFault.UnknownCommand t)) h = tagged_job s t (Err Misread.UnknownCommand) h
read_job s (Err (LineFault.BadArguments t k)) h = tagged_job s t (Err (Misread.BadArguments k)) h

carried_job : (s : Server) (t : Tag) (c : Command) → RunsJob s.running → AnswersJob (carried_out s t c)
carried_job s t Command.StartSession h = h
carried_job s t Command.EndSession h = h
carried_job s t Command.ClearAllErrors h = h
carried_job s t Command.IsHomed h = h
carried_job s t Command.Home h = tt
carried_job s t Command.OnPtMeasReport h = h
carried_job s t (Command.GoTo p) h = tt
carried_job s t (Command.PtMeas p d) h = tt
carried_job s t (Command.ChangeTool n) h = tt
carried_job s t (Command.SetCsyTransformation p) h = h
carried_job s t (Command.SetCoordSystem system) h = h
carried_job s t Command.AbortE h = h

taken_job : (s : Server) (w : Waiting) (ws : List Waiting) (number : Option ℕ) → RunsJob s.running → AnswersJob (taken s w ws number)
taken_job s w ws (Some number) h = h
taken_job s w ws None h = go w.reading
  where
    go : (reading : Result Command Misread) → AnswersJob (carried (record s { waiting = ws }) w.tag reading)
    go (Ok c) = carried_job (record s { waiting = ws }) w.tag c h
    go (Err refused) = h

-- nor does a turn, but a job
pub turned_job : (s : Server) → RunsJob s.running → RunsJob (server_turned s).server.running
turned_job s h = go s.waiting
  where
    go : (ws : List Waiting) → AnswersJob (turned_to s ws)
    go [] = h
    go (w ∷ ws) = taken_job s w ws (refusal s w.reading) h

finished_job : (s : Server) (t : Tag) (c : Command) → RunsJob s.running → AnswersJob (finished s t c)
finished_job s t Command.StartSession h = h
finished_job s t Command.EndSession h = h
finished_job s t Command.ClearAllErrors h = h
finished_job s t Command.IsHomed h = h
finished_job s t Command.Home h = tt
finished_job s t Command.OnPtMeasReport h = h
finished_job s t (Command.GoTo p) h = tt
finished_job s t (Command.PtMeas p d) h = h
finished_job s t (Command.ChangeTool n) h = tt
finished_job s t (Command.SetCsyTransformation p) h = h
finished_job s t (Command.SetCoordSystem system) h = h
finished_job s t Command.AbortE h = h

touched_job : (s : Server) (t : Tag) (c : Command) (at : Point) (tool : Option (List ℕ)) → RunsJob s.running
    → AnswersJob (touched s t c at tool)
touched_job s t Command.StartSession at tool h = h
touched_job s t Command.EndSession at tool h = h
touched_job s t Command.ClearAllErrors at tool h = h
touched_job s t Command.IsHomed at tool h = h
touched_job s t Command.Home at tool h = h
touched_job s t Command.OnPtMeasReport at tool h = h
touched_job s t (Command.GoTo p) at tool h = h
touched_job s t (Command.PtMeas p d) at (Some n) h = tt
touched_job s t (Command.PtMeas p d) at None h = h
touched_job s t (Command.ChangeTool n) at tool h = h
touched_job s t (Command.SetCsyTransformation p) at tool h = h
touched_job s t (Command.SetCoordSystem system) at tool h = h
touched_job s t Command.AbortE at tool h = h

-- nor does the end of what runs
pub machined_job : (s : Server) (outcome : Outcome) → RunsJob s.running → RunsJob (server_machined s outcome).server.running
machined_job s outcome h = go outcome s.running
  where
    go : (o : Outcome) (running : Option Line) → AnswersJob (machined s o running)
    go o None = h
    go Outcome.Done (Some line) = finished_job s line.tag line.command h
    go (Outcome.Touched at) (Some line) = touched_job s line.tag line.command at s.tool h
    go Outcome.Missed (Some line) = tt
    go Outcome.Fault (Some line) = tt
