-- What each call of a server appends to its ledger.
use Rattle.server_core.proofs.Names.{[], ◌∙◌, ◌∷◌, ◌≡◌, Act, Answer, ap, append-nil, carried, carried_out, Command, command_of, contacts, Err}
use Rattle.server_core.proofs.Names.{finished, frame_of, Front, front_served, IsOneMore, Line, List, machined, Misread, next_of, None, Ok, Option}
use Rattle.server_core.proofs.Names.{Outcome, Point, read_moves, reading_of, refl, refusal, Result, Server, server_turned, ServerEnd}
use Rattle.server_core.proofs.Names.{serving_machined, serving_read, serving_turned, Some, Tag, taken, touched, turned_to, Waiting, with_act, ℕ}

-- ---- a line that is read appends nothing

front_keeps : (e : ServerEnd) (front : Front) → (front_served e front).server.ledger ≡ e.server.ledger
front_keeps e (Ok None) = refl
front_keeps e (Ok (Some (line, rest))) = (read_moves e.server (reading_of (command_of line))).ledger
    ∙ append-nil e.server.ledger
front_keeps e (Err why) = refl

pub read_keeps : (e : ServerEnd) → (serving_read e).server.ledger ≡ e.server.ledger
read_keeps e = front_keeps e (next_of e.input.rest)

-- ---- a turn appends the choice of a frame, whether the machine is homed, or nothing

-- what is appended is no contact
abbrev pub IsNoContact : Option Act → Type 0
IsNoContact made = (n : ℕ) → contacts (with_act n made []) ≡ []

abbrev pub AddsNoContact : Server → Answer → Type 0
AddsNoContact s a = (made : Option Act) × IsNoContact made × (a.server.ledger ≡ with_act s.last made s.ledger)

carried_adds : (s : Server) (t : Tag) (c : Command) → AddsNoContact s (carried_out s t c)
carried_adds s t Command.StartSession = (None, λ n. refl, refl)
carried_adds s t Command.EndSession = (None, λ n. refl, refl)
carried_adds s t Command.ClearAllErrors = (None, λ n. refl, refl)
carried_adds s t Command.IsHomed = (Some (Act.HomedIs s.homed), λ n. refl, refl)
carried_adds s t Command.Home = (None, λ n. refl, refl)
carried_adds s t Command.OnPtMeasReport = (None, λ n. refl, refl)
carried_adds s t (Command.GoTo p) = (None, λ n. refl, refl)
carried_adds s t (Command.PtMeas p d) = (None, λ n. refl, refl)
carried_adds s t (Command.ChangeTool n) = (None, λ n. refl, refl)
carried_adds s t (Command.SetCsyTransformation p) = (None, λ n. refl, refl)
carried_adds s t (Command.SetCoordSystem system) = (Some (Act.Framed (frame_of system s.stored)), λ n. refl, refl)
carried_adds s t Command.AbortE = (None, λ n. refl, refl)

taken_adds : (s : Server) (w : Waiting) (ws : List Waiting) (number : Option ℕ) → AddsNoContact s (taken s w ws number)
taken_adds s w ws (Some number) = (None, λ n. refl, refl)
taken_adds s w ws None = go w.reading
  where
    go : (reading : Result Command Misread) → AddsNoContact s (carried (record s { waiting = ws }) w.tag reading)
    go (Ok c) = let f = carried_adds (record s { waiting = ws }) w.tag c in (f.0, f.1, f.2)
    go (Err refused) = (None, λ n. refl, refl)

turned_to_adds : (s : Server) (ws : List Waiting) → AddsNoContact s (turned_to s ws)
turned_to_adds s [] = (None, λ n. refl, refl)
turned_to_adds s (w ∷ ws) = taken_adds s w ws (refusal s w.reading)

pub turned_adds : (s : Server) → AddsNoContact s (server_turned s)
turned_adds s = turned_to_adds s s.waiting

pub turned_one_more : (e : ServerEnd) → IsOneMore e.server.last e.server.ledger (serving_turned e).server.ledger
turned_one_more e = let f = turned_adds e.server in record { act = f.0; whole = f.2 }

-- ---- the end of what runs appends its act, or nothing

abbrev pub Adds : Server → Answer → Type 0
Adds s a = (added : Option Act) × (a.server.ledger ≡ with_act s.last added s.ledger)

finished_adds : (s : Server) (t : Tag) (c : Command) → Adds s (finished s t c)
finished_adds s t Command.StartSession = (None, refl)
finished_adds s t Command.EndSession = (None, refl)
finished_adds s t Command.ClearAllErrors = (None, refl)
finished_adds s t Command.IsHomed = (None, refl)
finished_adds s t Command.Home = (Some Act.Homed, refl)
finished_adds s t Command.OnPtMeasReport = (None, refl)
finished_adds s t (Command.GoTo p) = (Some (Act.Moved p s.frame), refl)
finished_adds s t (Command.PtMeas p d) = (None, refl)
finished_adds s t (Command.ChangeTool n) = (Some (Act.Changed n), refl)
finished_adds s t (Command.SetCsyTransformation p) = (None, refl)
finished_adds s t (Command.SetCoordSystem system) = (None, refl)
finished_adds s t Command.AbortE = (None, refl)

touched_adds : (s : Server) (t : Tag) (c : Command) (at : Point) (tool : Option (List ℕ)) → Adds s (touched s t c at tool)
touched_adds s t Command.StartSession at tool = (None, refl)
touched_adds s t Command.EndSession at tool = (None, refl)
touched_adds s t Command.ClearAllErrors at tool = (None, refl)
touched_adds s t Command.IsHomed at tool = (None, refl)
touched_adds s t Command.Home at tool = (None, refl)
touched_adds s t Command.OnPtMeasReport at tool = (None, refl)
touched_adds s t (Command.GoTo p) at tool = (None, refl)
touched_adds s t (Command.PtMeas p d) at (Some n) = (Some _, refl)
touched_adds s t (Command.PtMeas p d) at None = (None, refl)
touched_adds s t (Command.ChangeTool n) at tool = (None, refl)
touched_adds s t (Command.SetCsyTransformation p) at tool = (None, refl)
touched_adds s t (Command.SetCoordSystem system) at tool = (None, refl)
touched_adds s t Command.AbortE at tool = (None, refl)

machined_adds : (s : Server) (ended : Outcome) (running : Option Line) → Adds s (machined s ended running)
machined_adds s ended None = (None, refl)
machined_adds s Outcome.Done (Some line) = finished_adds s line.tag line.command
machined_adds s (Outcome.Touched at) (Some line) = touched_adds s line.tag line.command at s.tool
machined_adds s Outcome.Missed (Some line) = (None, refl)
machined_adds s Outcome.Fault (Some line) = (None, refl)

pub machined_one_more : (ended : Outcome) (e : ServerEnd) → IsOneMore e.server.last e.server.ledger (serving_machined ended e).server.ledger
machined_one_more ended e = let a = machined_adds e.server ended e.server.running in record { act = a.0; whole = a.1 }

-- where nothing runs nothing ends
pub idle_keeps : (ended : Outcome) (e : ServerEnd) → e.server.running ≡ None → (serving_machined ended e).server.ledger ≡ e.server.ledger
idle_keeps ended e none = ap (λ (running : Option Line). (machined e.server ended running).server.ledger) none
