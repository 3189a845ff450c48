-- What waits has standard tags, where lines are read as the interface says.
use Rattle.server_core.proofs.Names.{[], ◌&&◌, ◌++◌, ◌||◌, ◌∙◌, ◌∷◌, ◌≡◌, Answer, AreStandard, carried, carried_out, Command, command_of, Err, false}
use Rattle.server_core.proofs.Names.{finished, fresh, Front, front_served, HasStandardTag, is_abort, is_clear, is_event_tag, length, Line, LineFault}
use Rattle.server_core.proofs.Names.{List, machined, Misread, nat_le, next_of, None, not, Ok, Option, Outcome, Point, read_is_writable, reading_of}
use Rattle.server_core.proofs.Names.{reads_command, ReadsCommand, refusal, Result, runs_under, Server, server_machined, server_read, server_turned}
use Rattle.server_core.proofs.Names.{ServerEnd, serving_read, Some, stands, sym, Tag, tagged, taken, touched, turned_to, Waiting, waits_under, ℕ}
use Rattle.protocol_model.proofs.written_lines.PlainClient.{standard_kind}
use Rattle.server_core.proofs.Steadies.{branch}

standard_join : (ws : List Waiting) (w : Waiting) → AreStandard ws → HasStandardTag w → AreStandard (ws ++ w ∷ [])
standard_join [] w h one = (one, tt)
standard_join (v ∷ ws) w h one = (h.0, standard_join ws w h.1 one)

abbrev Waits : Answer → Type 0
Waits a = AreStandard a.server.waiting

stands_standard : (s : Server) (t : Tag) (reading : Result Command Misread) → is_event_tag t ≡ false → AreStandard s.waiting
    → Waits (stands s t reading)
stands_standard s t reading one h =
    branch Waits (s.error && not (is_clear reading)) _ _ (λ refused. h)
    (λ go. branch Waits s.error _ _ (λ error. standard_join s.waiting _ h one)
    (λ calm. branch Waits (nat_le 64 (length s.waiting)) _ _ (λ full. tt) (λ room. standard_join s.waiting _ h one)))

-- a command other than the abort is under a standard tag
abbrev IsSorted : Tag → Result Command Misread → Type 0
IsSorted t (Ok c) = is_abort (Ok c) ≡ false → is_event_tag t ≡ false
IsSorted t (Err why) = Unit {0}

fresh_standard : (s : Server) (t : Tag) (reading : Result Command Misread) → IsSorted t reading → AreStandard s.waiting
    → Waits (fresh s t reading)
fresh_standard s t (Ok c) sorted h = branch Waits (is_abort (Ok c)) _ _ (λ aborts. tt)
    (λ other. stands_standard s t (Ok c) (sorted other) h)
fresh_standard s t (Err why) sorted h = branch Waits (is_event_tag t) _ _ (λ event. h)
    (λ standard. stands_standard s t (Err why) standard h)

tagged_standard : (s : Server) (t : Tag) (reading : Result Command Misread) → IsSorted t reading → AreStandard s.waiting
    → Waits (tagged s t reading)
tagged_standard s t reading sorted h =
    branch Waits (runs_under t s.running || waits_under t s.waiting) _ _ (λ used. h) (λ free. fresh_standard s t reading sorted h)

reading_standard : (s : Server) (line : List ℕ) (reading : Result (Tag × Command) LineFault) → ReadsCommand line reading
    → AreStandard s.waiting
    → Waits (server_read s (reading_of reading))
reading_standard s line (Ok (t, c)) reads h =
    tagged_standard s t (Ok c) (λ other. (read_is_writable line t c reads).tagged.sort ∙ sym (standard_kind c other)) h
reading_standard s line (Err LineFault.NoTag) reads h = h
reading_standard s line (Err (LineFault.UnknownCommand t)) reads h =
    tagged_standard s t (Err Misread.UnknownCommand) tt h
reading_standard s line (Err (LineFault.BadArguments t k)) reads h =
    tagged_standard s t (Err (Misread.BadArguments k)) tt h

pub front_standard : (e : ServerEnd) (front : Front) → AreStandard e.server.waiting
    → AreStandard (front_served e front).server.waiting
front_standard e (Ok None) h = h
front_standard e (Ok (Some (line, rest))) h = reading_standard e.server line (command_of line) (reads_command line) h
front_standard e (Err why) h = h

pub read_standard : (e : ServerEnd) → AreStandard e.server.waiting
    → AreStandard (serving_read e).server.waiting
read_standard e h = front_standard e (next_of e.input.rest) h

carried_standard : (s : Server) (t : Tag) (c : Command) → AreStandard s.waiting → Waits (carried_out s t c)
carried_standard s t Command.StartSession h = h
carried_standard s t Command.EndSession h = h
carried_standard s t Command.ClearAllErrors h = h
carried_standard s t Command.IsHomed h = h
carried_standard s t Command.Home h = h
carried_standard s t Command.OnPtMeasReport h = h
carried_standard s t (Command.GoTo p) h = h
carried_standard s t (Command.PtMeas p d) h = h
carried_standard s t (Command.ChangeTool n) h = h
carried_standard s t (Command.SetCsyTransformation p) h = h
carried_standard s t (Command.SetCoordSystem system) h = h
carried_standard s t Command.AbortE h = h

taken_standard : (s : Server) (w : Waiting) (ws : List Waiting) (number : Option ℕ) → AreStandard ws → Waits (taken s w ws number)
taken_standard s w ws (Some number) h = tt
taken_standard s w ws None h = go w.reading
  where
    go : (reading : Result Command Misread) → Waits (carried (record s { waiting = ws }) w.tag reading)
    go (Ok c) = carried_standard (record s { waiting = ws }) w.tag c h
    go (Err refused) = h

pub turned_standard : (s : Server) → AreStandard s.waiting → AreStandard (server_turned s).server.waiting
turned_standard s h = go s.waiting h
  where
    go : (ws : List Waiting) → AreStandard ws → Waits (turned_to s ws)
    go [] rest = h
    go (w ∷ ws) rest = taken_standard s w ws (refusal s w.reading) rest.1

finished_standard : (s : Server) (t : Tag) (c : Command) → AreStandard s.waiting → Waits (finished s t c)
finished_standard s t Command.StartSession h = h
finished_standard s t Command.EndSession h = h
finished_standard s t Command.ClearAllErrors h = h
finished_standard s t Command.IsHomed h = h
finished_standard s t Command.Home h = h
finished_standard s t Command.OnPtMeasReport h = h
finished_standard s t (Command.GoTo p) h = h
finished_standard s t (Command.PtMeas p d) h = h
finished_standard s t (Command.ChangeTool n) h = h
finished_standard s t (Command.SetCsyTransformation p) h = h
finished_standard s t (Command.SetCoordSystem system) h = h
finished_standard s t Command.AbortE h = h

touched_standard : (s : Server) (t : Tag) (c : Command) (at : Point) (tool : Option (List ℕ)) → AreStandard s.waiting
    → Waits (touched s t c at tool)
touched_standard s t Command.StartSession at tool h = h
touched_standard s t Command.EndSession at tool h = h
touched_standard s t Command.ClearAllErrors at tool h = h
touched_standard s t Command.IsHomed at tool h = h
touched_standard s t Command.Home at tool h = h
touched_standard s t Command.OnPtMeasReport at tool h = h
touched_standard s t (Command.GoTo p) at tool h = h
touched_standard s t (Command.PtMeas p d) at (Some n) h = h
touched_standard s t (Command.PtMeas p d) at None h = h
touched_standard s t (Command.ChangeTool n) at tool h = h
touched_standard s t (Command.SetCsyTransformation p) at tool h = h
touched_standard s t (Command.SetCoordSystem system) at tool h = h
touched_standard s t Command.AbortE at tool h = h

machined_by_standard : (s : Server) (ended : Outcome) (running : Option Line) → AreStandard s.waiting → Waits (machined s ended running)
machined_by_standard s ended None h = h
machined_by_standard s Outcome.Done (Some line) h = finished_standard s line.tag line.command h
machined_by_standard s (Outcome.Touched at) (Some line) h = touched_standard s line.tag line.command at s.tool h
machined_by_standard s Outcome.Missed (Some line) h = tt
machined_by_standard s Outcome.Fault (Some line) h = tt

pub machined_standard : (s : Server) (ended : Outcome) → AreStandard s.waiting → AreStandard (server_machined s ended).server.waiting
machined_standard s ended h = machined_by_standard s ended s.running h
