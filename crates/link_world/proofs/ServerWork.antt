-- What the server does leaves less to do.
use Rattle.link_world.proofs.Names.{[], ◌*◌, ◌+◌, ◌<◌, ◌∷◌, ◌≡◌, ◌≤◌, and_parts, ap, arith, Bool, can, carried, carried_out, checks, Command, Err}
use Rattle.link_world.proofs.Names.{Event, false, false≢true, finished, first_failing, happens, has_outcome, in_volume, is_empty, IsRunnable, length}
use Rattle.link_world.proofs.Names.{Line, List, machined, None, not, offset, Ok, Option, Outcome, Point, point_sum, refl, refusal, Result, Server}
use Rattle.link_world.proofs.Names.{Some, subst, Tag, taken, touched, true, turned_to, Waiting, World, ℕ}
use Rattle.protocol_model.specs.Server.{Answer}
use Rattle.protocol_model.specs.declared.lines.Misread.{Misread}

-- how much there is to do at most
abbrev pub one_if : Option Line → ℕ
one_if None = 0
one_if (Some line) = 1

abbrev pub work_in : Server → ℕ
work_in s = one_if s.running + 2 * length s.waiting

abbrev pub work_left : World → ℕ
work_left w = work_in w.server.server

one_most : (r : Option Line) → one_if r ≤ 1
one_most None = omega arith
one_most (Some line) = omega arith

-- ---- a turn takes one of what waits

carried_waits : (s : Server) (t : Tag) (c : Command) → (carried_out s t c).server.waiting ≡ s.waiting
carried_waits s t Command.StartSession = refl
carried_waits s t Command.EndSession = refl
carried_waits s t Command.ClearAllErrors = refl
carried_waits s t Command.OnPtMeasReport = refl
carried_waits s t Command.IsHomed = refl
carried_waits s t (Command.SetCsyTransformation p) = refl
carried_waits s t (Command.SetCoordSystem system) = refl
carried_waits s t Command.Home = refl
carried_waits s t (Command.ChangeTool n) = refl
carried_waits s t (Command.GoTo p) = refl
carried_waits s t (Command.PtMeas p d) = refl
carried_waits s t Command.AbortE = refl

carried_few : (s : Server) (t : Tag) (r : Result Command Misread) → length (carried s t r).server.waiting ≤ length s.waiting
carried_few s t (Ok c) = let same = ap length (carried_waits s t c) in omega (arith, same)
carried_few s t (Err why) = omega arith

taken_few : (s : Server) (w : Waiting) (ws : List Waiting) (o : Option ℕ) → length (taken s w ws o).server.waiting ≤ length ws
taken_few s w ws (Some number) = omega arith
taken_few s w ws None = carried_few (record s { waiting = ws }) w.tag w.reading

turned_few : (s : Server) (ws : List Waiting) → not (is_empty ws) ≡ true → length (turned_to s ws).server.waiting < length ws
turned_few s [] some = absurd (false≢true some)
turned_few s (w ∷ ws) some = let few = taken_few s w ws (refusal s w.reading) in omega (arith, few)

pub turn_less : (w : World) → can Event.ServerTurn w ≡ true
    → work_left (happens Event.ServerTurn w) < work_left w
turn_less w may =
    let s : Server = w.server.server in
    let few = turned_few s s.waiting (and_parts _ _ may).1 in
    let most = one_most (turned_to s s.waiting).server.running in omega (arith, few, most)

-- ---- what runs ends

record Ends (s : Server) (a : Answer) : Type 0 where
  pub idle : a.server.running ≡ None
  pub few : length a.server.waiting ≤ length s.waiting

finished_ends : (s : Server) (t : Tag) (c : Command) → has_outcome c Outcome.Done ≡ true → Ends s (finished s t c)
finished_ends s t Command.Home may = record { idle = refl; few = omega arith }
finished_ends s t (Command.ChangeTool n) may = record { idle = refl; few = omega arith }
finished_ends s t (Command.GoTo p) may = record { idle = refl; few = omega arith }
finished_ends s t (Command.PtMeas p d) may = absurd (false≢true may)
finished_ends s t Command.StartSession may = absurd (false≢true may)
finished_ends s t Command.EndSession may = absurd (false≢true may)
finished_ends s t Command.ClearAllErrors may = absurd (false≢true may)
finished_ends s t Command.OnPtMeasReport may = absurd (false≢true may)
finished_ends s t Command.IsHomed may = absurd (false≢true may)
finished_ends s t (Command.SetCsyTransformation p) may = absurd (false≢true may)
finished_ends s t (Command.SetCoordSystem system) may = absurd (false≢true may)
finished_ends s t Command.AbortE may = absurd (false≢true may)

-- a touch runs only with a tool
no_tool : (a b : Bool) (others : List (Bool × ℕ))
    → first_failing ((a, 9005) ∷ (false, 9006) ∷ (b, 9010) ∷ (false, 9012) ∷ (true, 9011) ∷ others) ≡ None → ⊥
no_tool true b others e = cc
no_tool false true others e = cc
no_tool false false others e = cc

touched_ends : (s : Server) (line : Line) (at : Point) (tool : Option (List ℕ)) → s.tool ≡ tool
    → has_outcome line.command (Outcome.Touched at) ≡ true → first_failing (checks s line.command) ≡ None
    → Ends s (touched s line.tag line.command at tool)
touched_ends s line at tool is may fine = go line.command tool is may fine
  where
    go : (c : Command) (tool : Option (List ℕ)) → s.tool ≡ tool → has_outcome c (Outcome.Touched at) ≡ true
        → first_failing (checks s c) ≡ None → Ends s (touched s line.tag c at tool)
    go (Command.PtMeas p d) (Some name) is may fine = record { idle = refl; few = omega arith }
    go (Command.PtMeas p d) None is may fine =
        absurd (no_tool (not s.session) (not s.homed) ((not (in_volume (point_sum p (offset s.frame))), 9013) ∷ [])
        (subst (λ (tool : Option (List ℕ)).
        first_failing (checks (record s { tool = tool }) (Command.PtMeas p d)) ≡ None) is fine))
    go Command.Home tool is may fine = absurd (false≢true may)
    go (Command.ChangeTool n) tool is may fine = absurd (false≢true may)
    go (Command.GoTo p) tool is may fine = absurd (false≢true may)
    go Command.StartSession tool is may fine = absurd (false≢true may)
    go Command.EndSession tool is may fine = absurd (false≢true may)
    go Command.ClearAllErrors tool is may fine = absurd (false≢true may)
    go Command.OnPtMeasReport tool is may fine = absurd (false≢true may)
    go Command.IsHomed tool is may fine = absurd (false≢true may)
    go (Command.SetCsyTransformation p) tool is may fine = absurd (false≢true may)
    go (Command.SetCoordSystem system) tool is may fine = absurd (false≢true may)
    go Command.AbortE tool is may fine = absurd (false≢true may)

machined_ends : (s : Server) (line : Line) (o : Outcome) → has_outcome line.command o ≡ true → IsRunnable s line
    → Ends s (machined s o (Some line))
machined_ends s line Outcome.Done may fine = finished_ends s line.tag line.command may
machined_ends s line (Outcome.Touched at) may fine = touched_ends s line at s.tool refl may fine.1
machined_ends s line Outcome.Missed may fine = record { idle = refl; few = omega arith }
machined_ends s line Outcome.Fault may fine = record { idle = refl; few = omega arith }

end_less : (s : Server) (o : Outcome) (r : Option Line) → s.running ≡ r → Rattle.protocol_model.specs.Server.may_end r o ≡ true
    → ((line : Line) → r ≡ Some line → IsRunnable s line)
    → work_in (machined s o r).server < one_if r + 2 * length s.waiting
end_less s o None is may fine = absurd (false≢true may)
end_less s o (Some line) is may fine =
    let e : Ends s (machined s o (Some line)) = machined_ends s line o may (fine line refl) in
    let few : length (machined s o (Some line)).server.waiting ≤ length s.waiting = e.few in
    let idle : one_if (machined s o (Some line)).server.running ≡ 0 = ap one_if e.idle in
    omega (arith, few, idle)

pub machine_less : (w : World) (o : Outcome) → can (Event.Machine o) w ≡ true
    → ((line : Line) → w.server.server.running ≡ Some line → IsRunnable w.server.server line)
    → work_left (happens (Event.Machine o) w) < work_left w
machine_less w o may fine = end_less w.server.server o w.server.server.running refl may fine
