-- What the calls of a server leave unchanged, and what they add to its ledger.
use Rattle.protocol_model.proofs.Names.{[], ◌&&◌, ◌++◌, ◌||◌, ◌∙◌, ◌∷◌, ◌≡◌, Act, acts_on, Answer, ap, append-nil, AreUpTo, arith, Bool, carried}
use Rattle.protocol_model.proofs.Names.{carried_out, Command, cond, eq-eqb, Err, false, finished, frame_of, fresh, in_error, is_abort, is_clear}
use Rattle.protocol_model.proofs.Names.{is_event_tag, length, Line, LineFault, List, machined, Misread, nat_le, ne_eqb, None, not, Ok, Option}
use Rattle.protocol_model.proofs.Names.{Outcome, Point, queued, Reading, refl, refusal, Result, runs_under, Server, server_machined, server_read}
use Rattle.protocol_model.proofs.Names.{server_turned, Some, stands, sym, Tag, tagged, taken, touched, true, turned_to, Waiting, waits_under, ℕ}
use Rattle.protocol_model.proofs.table.Basics.{if_true, if_false}

-- these acts as a ledger has them, each next to the number of this connection
abbrev pub done_on : ℕ → List Act → List (ℕ × Act)
done_on n [] = []
done_on n (a ∷ acts) = (n, a) ∷ done_on n acts

-- ---- ledgers joined

acts_step : (t : Bool) (b : Act) (l m k : List Act) → l ≡ m ++ k → cond t (b ∷ l) l ≡ cond t (b ∷ m) m ++ k
acts_step true b l m k e = ap (λ (x : List Act). b ∷ x) e
acts_step false b l m k e = e

-- the acts on a connection in two ledgers together: those in the first, then those in the second
pub acts_more : (n : ℕ) (l k : List (ℕ × Act)) → acts_on n (l ++ k) ≡ acts_on n l ++ acts_on n k
acts_more n [] k = refl
acts_more n ((m, b) ∷ l) k = acts_step _ b _ _ (acts_on n k) (acts_more n l k)

-- acts that were done on a connection are all on it
pub acts_done : (n : ℕ) (acts : List Act) → acts_on n (done_on n acts) ≡ acts
acts_done n [] = refl
acts_done n (a ∷ acts) = if_true {A = List Act} _ (a ∷ acts_on n (done_on n acts)) (acts_on n (done_on n acts)) (eq-eqb n n refl)
    ∙ ap (λ (x : List Act). a ∷ x) (acts_done n acts)

-- and none of them is on another
pub acts_elsewhere : (n m : ℕ) (acts : List Act) → (m ≡ n → ⊥) → acts_on n (done_on m acts) ≡ []
acts_elsewhere n m [] apart = refl
acts_elsewhere n m (a ∷ acts) apart = if_false {A = List Act} _ (a ∷ acts_on n (done_on m acts)) (acts_on n (done_on m acts))
    (ne_eqb m n apart) ∙ acts_elsewhere n m acts apart

-- two ledgers without an act above a connection have none above it together
pub up_to_join : (n : ℕ) (l k : List (ℕ × Act)) → AreUpTo n l → AreUpTo n k → AreUpTo n (l ++ k)
up_to_join n [] k h g = g
up_to_join n ((m, a) ∷ l) k h g = (h.0, up_to_join n l k h.1 g)

-- acts that were done on a connection are not above it
pub up_to_done : (n : ℕ) (acts : List Act) → AreUpTo n (done_on n acts)
up_to_done n [] = tt
up_to_done n (a ∷ acts) = (omega arith, up_to_done n acts)

-- ---- a server that is still on the same connection, with these acts more

-- the server has the connection it had, on or off as before, and its ledger has these further acts, done on that connection
pub record Moves (s t : Server) (acts : List Act) : Type 0 where
  pub on : t.on ≡ s.on
  pub last : t.last ≡ s.last
  pub ledger : t.ledger ≡ s.ledger ++ done_on s.last acts

stays : (s t : Server) → t.on ≡ s.on → t.last ≡ s.last → t.ledger ≡ s.ledger → Moves s t []
stays s t on last ledger = record { on = on; last = last; ledger = ledger ∙ sym (append-nil s.ledger) }

either : (P : Answer → Type 0) (b : Bool) (x y : Answer) → P x → P y → P (cond b x y)
either P true x y p q = p
either P false x y p q = q

abbrev Stays : Server → Answer → Type 0
Stays s a = Moves s a.server []

stands_stays : (s : Server) (t : Tag) (reading : Result Command Misread) → Stays s (stands s t reading)
stands_stays s t reading =
    either (Stays s) (s.error && not (is_clear reading)) _ _ (stays s s refl refl refl)
    (either (Stays s) s.error _ _ (stays s (queued t reading (record s { error = false })) refl refl refl)
    (either (Stays s) (nat_le 64 (length s.waiting)) _ _ (stays s (in_error s) refl refl refl)
    (stays s (queued t reading s) refl refl refl)))

fresh_stays : (s : Server) (t : Tag) (reading : Result Command Misread) → Stays s (fresh s t reading)
fresh_stays s t (Ok c) = either (Stays s) (is_abort (Ok c)) _ _ (stays s _ refl refl refl) (stands_stays s t (Ok c))
fresh_stays s t (Err why) = either (Stays s) (is_event_tag t) _ _ (stays s _ refl refl refl) (stands_stays s t (Err why))

tagged_stays : (s : Server) (t : Tag) (reading : Result Command Misread) → Stays s (tagged s t reading)
tagged_stays s t reading = either (Stays s) (runs_under t s.running || waits_under t s.waiting) _ _ (stays s s refl refl refl)
    (fresh_stays s t reading)

-- a server that reads a line does no act
pub read_moves : (s : Server) (reading : Reading) → Moves s (server_read s reading).server []
read_moves s (Ok line) = tagged_stays s line.tag (Ok line.command)
read_moves s (Err LineFault.NoTag) = stays s s refl refl refl
read_moves s (Err (LineFault.UnknownCommand t)) = tagged_stays s t (Err Misread.UnknownCommand)
read_moves s (Err (LineFault.BadArguments t k)) = tagged_stays s t (Err (Misread.BadArguments k))

carried_moves : (s : Server) (t : Tag) (c : Command) → (acts : List Act) × Moves s (carried_out s t c).server acts
carried_moves s t Command.StartSession = ([], stays s _ refl refl refl)
carried_moves s t Command.EndSession = ([], stays s _ refl refl refl)
carried_moves s t Command.ClearAllErrors = ([], stays s _ refl refl refl)
carried_moves s t Command.IsHomed = (Act.HomedIs s.homed ∷ [], record { on = refl; last = refl; ledger = refl })
carried_moves s t Command.Home = ([], stays s _ refl refl refl)
carried_moves s t Command.OnPtMeasReport = ([], stays s _ refl refl refl)
carried_moves s t (Command.GoTo p) = ([], stays s _ refl refl refl)
carried_moves s t (Command.PtMeas p d) = ([], stays s _ refl refl refl)
carried_moves s t (Command.ChangeTool n) = ([], stays s _ refl refl refl)
carried_moves s t (Command.SetCsyTransformation p) = ([], stays s _ refl refl refl)
carried_moves s t (Command.SetCoordSystem system) = (
  Act.Framed (frame_of system s.stored) ∷ [],
  record { on = refl; last = refl; ledger = refl },
)
carried_moves s t Command.AbortE = ([], stays s _ refl refl refl)

taken_moves : (s : Server) (w : Waiting) (ws : List Waiting) (number : Option ℕ) → (acts : List Act)
    × Moves s (taken s w ws number).server acts
taken_moves s w ws (Some number) = ([], stays s _ refl refl refl)
taken_moves s w ws None = go w.reading
  where
    go : (reading : Result Command Misread) → (acts : List Act) × Moves s (carried (record s { waiting = ws }) w.tag reading).server acts
    go (Ok c) = let m = carried_moves (record s { waiting = ws }) w.tag c
        in (m.0, record { on = m.1.on; last = m.1.last; ledger = m.1.ledger })
    go (Err refused) = ([], stays s _ refl refl refl)

turned_to_moves : (s : Server) (ws : List Waiting) → (acts : List Act) × Moves s (turned_to s ws).server acts
turned_to_moves s [] = ([], stays s _ refl refl refl)
turned_to_moves s (w ∷ ws) = taken_moves s w ws (refusal s w.reading)

-- where its first waiting command is processed, it does some acts or none, on its connection
pub turned_moves : (s : Server) → (acts : List Act) × Moves s (server_turned s).server acts
turned_moves s = turned_to_moves s s.waiting

finished_moves : (s : Server) (t : Tag) (c : Command) → (acts : List Act) × Moves s (finished s t c).server acts
finished_moves s t Command.StartSession = ([], stays s _ refl refl refl)
finished_moves s t Command.EndSession = ([], stays s _ refl refl refl)
finished_moves s t Command.ClearAllErrors = ([], stays s _ refl refl refl)
finished_moves s t Command.IsHomed = ([], stays s _ refl refl refl)
finished_moves s t Command.Home = (Act.Homed ∷ [], record { on = refl; last = refl; ledger = refl })
finished_moves s t Command.OnPtMeasReport = ([], stays s _ refl refl refl)
finished_moves s t (Command.GoTo p) = (Act.Moved p s.frame ∷ [], record { on = refl; last = refl; ledger = refl })
finished_moves s t (Command.PtMeas p d) = ([], stays s _ refl refl refl)
finished_moves s t (Command.ChangeTool n) = (Act.Changed n ∷ [], record { on = refl; last = refl; ledger = refl })
finished_moves s t (Command.SetCsyTransformation p) = ([], stays s _ refl refl refl)
finished_moves s t (Command.SetCoordSystem system) = ([], stays s _ refl refl refl)
finished_moves s t Command.AbortE = ([], stays s _ refl refl refl)

abbrev MovesBy : Server → Answer → Type 0
MovesBy s a = (acts : List Act) × Moves s a.server acts

touched_moves : (s : Server) (t : Tag) (c : Command) (at : Point) (tool : Option (List ℕ)) → MovesBy s (touched s t c at tool)
touched_moves s t Command.StartSession at tool = ([], stays s _ refl refl refl)
touched_moves s t Command.EndSession at tool = ([], stays s _ refl refl refl)
touched_moves s t Command.ClearAllErrors at tool = ([], stays s _ refl refl refl)
touched_moves s t Command.IsHomed at tool = ([], stays s _ refl refl refl)
touched_moves s t Command.Home at tool = ([], stays s _ refl refl refl)
touched_moves s t Command.OnPtMeasReport at tool = ([], stays s _ refl refl refl)
touched_moves s t (Command.GoTo p) at tool = ([], stays s _ refl refl refl)
touched_moves s t (Command.PtMeas p d) at (Some n) = (_ ∷ [], record { on = refl; last = refl; ledger = refl })
touched_moves s t (Command.PtMeas p d) at None = ([], stays s _ refl refl refl)
touched_moves s t (Command.ChangeTool n) at tool = ([], stays s _ refl refl refl)
touched_moves s t (Command.SetCsyTransformation p) at tool = ([], stays s _ refl refl refl)
touched_moves s t (Command.SetCoordSystem system) at tool = ([], stays s _ refl refl refl)
touched_moves s t Command.AbortE at tool = ([], stays s _ refl refl refl)

machined_by : (s : Server) (outcome : Outcome) (running : Option Line) → MovesBy s (machined s outcome running)
machined_by s outcome None = ([], stays s _ refl refl refl)
machined_by s Outcome.Done (Some line) = finished_moves s line.tag line.command
machined_by s (Outcome.Touched at) (Some line) = touched_moves s line.tag line.command at s.tool
machined_by s Outcome.Missed (Some line) = ([], stays s _ refl refl refl)
machined_by s Outcome.Fault (Some line) = ([], stays s _ refl refl refl)

-- so it does where the machine is done with what runs
pub machined_moves : (s : Server) (outcome : Outcome) → (acts : List Act) × Moves s (server_machined s outcome).server acts
machined_moves s outcome = machined_by s outcome s.running
