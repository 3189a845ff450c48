-- The homing that a server answers: the homing at that moment, and while no act is done, what it was.
use Rattle.protocol_model.proofs.Names.{[], ◌&&◌, ◌++◌, ◌||◌, ◌∙◌, ◌∷◌, ◌≡◌, Act, Answer, append-nil, Bool, carried, carried_out, Command, cond, Err}
use Rattle.protocol_model.proofs.Names.{false, false≢true, finished, frame_of, fresh, is_abort, is_clear, is_event_tag, is_homing, length, Line}
use Rattle.protocol_model.proofs.Names.{LineFault, List, machined, Misread, nat_le, None, not, Ok, Option, Outcome, Point, Reading, refl, refusal}
use Rattle.protocol_model.proofs.Names.{Result, runs_under, Server, server_machined, server_read, server_turned, Some, stands, sym, Tag, tagged}
use Rattle.protocol_model.proofs.Names.{taken, touched, true, turned_to, Waiting, waits_under, ℕ}
use Rattle.protocol_model.proofs.invariant.Moves.{Moves}
use Rattle.protocol_model.proofs.undisturbed_run.Homing.{FirstTells}

-- a call of a server does these acts; where it was homed so, its first answer says that, and if it does no act, it still is
pub record Tells (told : Bool) (s t : Server) : Type 0 where
  pub acts : List Act
  pub moves : Moves s t acts
  pub tells : s.homed ≡ told → FirstTells told acts
  pub still : acts ≡ [] → s.homed ≡ told → t.homed ≡ told

-- no act, and the same homing
keeps : (told : Bool) (s t : Server) → t.on ≡ s.on → t.last ≡ s.last → t.ledger ≡ s.ledger → t.homed ≡ s.homed → Tells told s t
keeps told s t on last ledger homed = record {
  acts = [];
  moves = record { on = on; last = last; ledger = ledger ∙ sym (append-nil s.ledger) };
  tells = λ e. tt;
  still = λ none e. homed ∙ e;
}

-- one act, which says nothing of the homing but what it is
does_one : (told : Bool) (s t : Server) (a : Act) → t.on ≡ s.on → t.last ≡ s.last → t.ledger ≡ s.ledger ++ (s.last, a) ∷ []
    → (s.homed ≡ told → FirstTells told (a ∷ [])) → Tells told s t
does_one told s t a on last ledger tells = record {
  acts = a ∷ [];
  moves = record { on = on; last = last; ledger = ledger };
  tells = tells;
  still = λ none e. absurd (cc);
}

-- ---- a line is read

abbrev Same : Server → Answer → Type 0
Same s a = a.server.homed ≡ s.homed

either : (P : Answer → Type 0) (b : Bool) (x y : Answer) → P x → P y → P (cond b x y)
either P true x y p q = p
either P false x y p q = q

stands_same : (s : Server) (t : Tag) (reading : Result Command Misread) → Same s (stands s t reading)
stands_same s t reading =
    either (Same s) (s.error && not (is_clear reading)) _ _ refl
    (either (Same s) s.error _ _ refl (either (Same s) (nat_le 64 (length s.waiting)) _ _ refl refl))

fresh_same : (s : Server) (t : Tag) (reading : Result Command Misread) → Same s (fresh s t reading)
fresh_same s t (Ok c) = either (Same s) (is_abort (Ok c)) _ _ refl (stands_same s t (Ok c))
fresh_same s t (Err why) = either (Same s) (is_event_tag t) _ _ refl (stands_same s t (Err why))

tagged_same : (s : Server) (t : Tag) (reading : Result Command Misread) → Same s (tagged s t reading)
tagged_same s t reading = either (Same s) (runs_under t s.running || waits_under t s.waiting) _ _ refl (fresh_same s t reading)

-- a line that is read leaves the homing
pub read_same : (s : Server) (reading : Reading) → (server_read s reading).server.homed ≡ s.homed
read_same s (Ok line) = tagged_same s line.tag (Ok line.command)
read_same s (Err LineFault.NoTag) = refl
read_same s (Err (LineFault.UnknownCommand t)) = tagged_same s t (Err Misread.UnknownCommand)
read_same s (Err (LineFault.BadArguments t k)) = tagged_same s t (Err (Misread.BadArguments k))

-- ---- a turn

-- if the server was homed, what is next does not home it
abbrev pub HomesNot : Bool → List Waiting → Type 0
HomesNot told [] = Unit {0}
HomesNot told (w ∷ ws) = (c : Command) → w.reading ≡ Ok c → told ≡ true → is_homing c ≡ false

carried_tells : (told : Bool) (s : Server) (t : Tag) (c : Command) → (told ≡ true → is_homing c ≡ false)
    → Tells told s (carried_out s t c).server
carried_tells told s t Command.StartSession h = keeps told s _ refl refl refl refl
carried_tells told s t Command.EndSession h = keeps told s _ refl refl refl refl
carried_tells told s t Command.ClearAllErrors h = keeps told s _ refl refl refl refl
carried_tells told s t Command.IsHomed h = does_one told s _ (Act.HomedIs s.homed) refl refl refl (λ e. e)
carried_tells told s t Command.Home h = record {
  acts = [];
  moves = record { on = refl; last = refl; ledger = sym (append-nil s.ledger) };
  tells = λ e. tt;
  still = λ none e. go told h;
}
  where
    go : (b : Bool) → (b ≡ true → is_homing Command.Home ≡ false) → false ≡ b
    go false h = refl
    go true h = absurd (false≢true (sym (h refl)))
carried_tells told s t Command.OnPtMeasReport h = keeps told s _ refl refl refl refl
carried_tells told s t (Command.GoTo p) h = keeps told s _ refl refl refl refl
carried_tells told s t (Command.PtMeas p d) h = keeps told s _ refl refl refl refl
carried_tells told s t (Command.ChangeTool n) h = keeps told s _ refl refl refl refl
carried_tells told s t (Command.SetCsyTransformation p) h = keeps told s _ refl refl refl refl
carried_tells told s t (Command.SetCoordSystem system) h =
    does_one told s _ (Act.Framed (frame_of system s.stored)) refl refl refl (λ e. tt)
carried_tells told s t Command.AbortE h = keeps told s _ refl refl refl refl

taken_tells : (told : Bool) (s : Server) (w : Waiting) (ws : List Waiting) (number : Option ℕ) → HomesNot told (w ∷ ws)
    → Tells told s (taken s w ws number).server
taken_tells told s w ws (Some number) h = keeps told s _ refl refl refl refl
taken_tells told s w ws None h = go w.reading refl
  where
    go : (reading : Result Command Misread) → w.reading ≡ reading → Tells told s (carried (record s { waiting = ws }) w.tag reading).server
    go (Ok c) e =
        let m : Tells told (record s { waiting = ws }) (carried_out (record s { waiting = ws }) w.tag c).server =
        carried_tells told (record s { waiting = ws }) w.tag c (h c e) in
        record {
          acts = m.acts;
          moves = record { on = m.moves.on; last = m.moves.last; ledger = m.moves.ledger };
          tells = m.tells;
          still = m.still;
        }
    go (Err refused) e = keeps told s _ refl refl refl refl

turned_by : (told : Bool) (s : Server) (ws : List Waiting) → HomesNot told ws → Tells told s (turned_to s ws).server
turned_by told s [] h = keeps told s _ refl refl refl refl
turned_by told s (w ∷ ws) h = taken_tells told s w ws (refusal s w.reading) h

-- a turn says the homing at that moment
pub turned_tells : (told : Bool) (s : Server) → HomesNot told s.waiting → Tells told s (server_turned s).server
turned_tells told s h = turned_by told s s.waiting h

-- ---- the machine

finished_tells : (told : Bool) (s : Server) (t : Tag) (c : Command) → Tells told s (finished s t c).server
finished_tells told s t Command.StartSession = keeps told s _ refl refl refl refl
finished_tells told s t Command.EndSession = keeps told s _ refl refl refl refl
finished_tells told s t Command.ClearAllErrors = keeps told s _ refl refl refl refl
finished_tells told s t Command.IsHomed = keeps told s _ refl refl refl refl
finished_tells told s t Command.Home = does_one told s _ Act.Homed refl refl refl (λ e. tt)
finished_tells told s t Command.OnPtMeasReport = keeps told s _ refl refl refl refl
finished_tells told s t (Command.GoTo p) = does_one told s _ (Act.Moved p s.frame) refl refl refl (λ e. tt)
finished_tells told s t (Command.PtMeas p d) = keeps told s _ refl refl refl refl
finished_tells told s t (Command.ChangeTool n) = does_one told s _ (Act.Changed n) refl refl refl (λ e. tt)
finished_tells told s t (Command.SetCsyTransformation p) = keeps told s _ refl refl refl refl
finished_tells told s t (Command.SetCoordSystem system) = keeps told s _ refl refl refl refl
finished_tells told s t Command.AbortE = keeps told s _ refl refl refl refl

touched_tells : (told : Bool) (s : Server) (t : Tag) (c : Command) (at : Point) (tool : Option (List ℕ))
    → Tells told s (touched s t c at tool).server
touched_tells told s t Command.StartSession at tool = keeps told s _ refl refl refl refl
touched_tells told s t Command.EndSession at tool = keeps told s _ refl refl refl refl
touched_tells told s t Command.ClearAllErrors at tool = keeps told s _ refl refl refl refl
touched_tells told s t Command.IsHomed at tool = keeps told s _ refl refl refl refl
touched_tells told s t Command.Home at tool = keeps told s _ refl refl refl refl
touched_tells told s t Command.OnPtMeasReport at tool = keeps told s _ refl refl refl refl
touched_tells told s t (Command.GoTo p) at tool = keeps told s _ refl refl refl refl
touched_tells told s t (Command.PtMeas p d) at (Some n) = does_one told s _ _ refl refl refl (λ e. tt)
touched_tells told s t (Command.PtMeas p d) at None = keeps told s _ refl refl refl refl
touched_tells told s t (Command.ChangeTool n) at tool = keeps told s _ refl refl refl refl
touched_tells told s t (Command.SetCsyTransformation p) at tool = keeps told s _ refl refl refl refl
touched_tells told s t (Command.SetCoordSystem system) at tool = keeps told s _ refl refl refl refl
touched_tells told s t Command.AbortE at tool = keeps told s _ refl refl refl refl

machined_by : (told : Bool) (s : Server) (outcome : Outcome) (running : Option Line) → Tells told s (machined s outcome running).server
machined_by told s outcome None = keeps told s _ refl refl refl refl
machined_by told s Outcome.Done (Some line) = finished_tells told s line.tag line.command
machined_by told s (Outcome.Touched at) (Some line) = touched_tells told s line.tag line.command at s.tool
machined_by told s Outcome.Missed (Some line) = keeps told s _ refl refl refl refl
machined_by told s Outcome.Fault (Some line) = keeps told s _ refl refl refl refl

-- the end of what runs says nothing of it
pub machined_tells : (told : Bool) (s : Server) (outcome : Outcome) → Tells told s (server_machined s outcome).server
machined_tells told s outcome = machined_by told s outcome s.running
