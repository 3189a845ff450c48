-- What holds of a server at any time is kept by each of its calls.
use Rattle.server_core.proofs.Names.{[], ◌&&◌, ◌++◌, ◌+◌, ◌<◌, ◌||◌, ◌∙◌, ◌∷◌, ◌≡◌, ◌≤◌, Act, and_parts, Answer, ap, append-nil, arith, Bool, carried}
use Rattle.server_core.proofs.Names.{carried_out, checks, Command, command_of, cond, drop, Err, false, false≢true, fed_behind, finished}
use Rattle.server_core.proofs.Names.{first_failing, FramingFault, fresh, Front, front_served, is_abort, is_clear, is_event_tag, is_none, IsOff}
use Rattle.server_core.proofs.Names.{IsOrderly, IsRunnable, IsSound, IsSteady, le-leb, leb-true, length, length-append, Line, LineFault, List}
use Rattle.server_core.proofs.Names.{ltb-true, machined, machined_moves, may_accept, may_end, may_feed, may_turn, Misread, Moves, nat_le, nat_lt}
use Rattle.server_core.proofs.Names.{new_server_end, next_of, no_bytes, None, not, Ok, Option, Outcome, Point, read_moves, Reading, reading_of, refl}
use Rattle.server_core.proofs.Names.{refusal, Result, runs_under, Server, server_machined, server_read, server_turned, ServerEnd, serving_accepted}
use Rattle.server_core.proofs.Names.{serving_fed, serving_left, serving_machined, serving_read, serving_restarted, serving_taken, serving_turned}
use Rattle.server_core.proofs.Names.{Some, stands, subst, sym, Tag, tagged, taken, touched, true, turned_moves, turned_to, Waiting, waits_under, ℕ}
use Rattle.std.proofs.Math.Seq.{drop-nil}
use Rattle.contact_ledger.specs.Ledgers.{connection_most, IsConnection}
use Rattle.protocol_model.specs.Plan.{is_empty}

-- ---- tests and lists

-- a test goes one way or the other, with what it says
pub branch : (P : Answer → Type 0) (b : Bool) (x y : Answer) → (b ≡ true → P x) → (b ≡ false → P y) → P (cond b x y)
branch P true x y p q = p refl
branch P false x y p q = q refl

pub none_some : {A : Type 0} (o : Option A) (x : A) → o ≡ None → o ≡ Some x → ⊥
none_some None x none some = cc
none_some (Some y) x none some = cc

abbrev fault_or : FramingFault → Option FramingFault → FramingFault
fault_or why None = why
fault_or why (Some other) = other

one_fault : (x y : FramingFault) → Some x ≡ Some y → x ≡ y
one_fault x y e = ap (fault_or x) e

abbrev value_or : Line → Option Line → Line
value_or line None = line
value_or line (Some other) = other

pub one_value : (x y : Line) → Some x ≡ Some y → x ≡ y
one_value x y e = ap (value_or x) e

pub not_empty : (w : Waiting) (ws : List Waiting) → w ∷ ws ≡ [] → ⊥
not_empty w ws e = cc

pub nothing_runs : (running : Option Line) → is_none running ≡ true → running ≡ None
nothing_runs None e = refl
nothing_runs (Some line) e = absurd (false≢true e)

-- ---- a server without its bytes

stands_orderly : (s : Server) (t : Tag) (reading : Result Command Misread) → IsOrderly s → IsOrderly (stands s t reading).server
stands_orderly s t reading h =
    branch (λ (a : Answer). IsOrderly a.server) (s.error && not (is_clear reading)) _ _ (λ refused. h)
    (λ go. branch (λ (a : Answer). IsOrderly a.server) s.error _ _
    (λ error. record {
      quiet = λ e. absurd (false≢true e);
      few = subst (λ (ws : List Waiting). length (ws ++ record { tag = t; reading = reading } ∷ []) ≤ 64) (sym (h.quiet error))
          (omega arith);
      running = h.running;
    })
    (λ calm. branch (λ (a : Answer). IsOrderly a.server) (nat_le 64 (length s.waiting)) _ _
    (λ full. record { quiet = λ e. refl; few = omega arith; running = h.running })
    (λ room. record {
      quiet = λ e. absurd (false≢true (sym calm ∙ e));
      few = let longer : length (s.waiting ++ record { tag = t; reading = reading } ∷ []) ≡ length s.waiting + 1 =
          length-append s.waiting (record { tag = t; reading = reading } ∷ []) in
          let less : (64 ≤ length s.waiting) → ⊥ = λ le. false≢true (sym room ∙ le-leb 64 (length s.waiting) le) in
          room_for (length s.waiting) (length (s.waiting ++ record { tag = t; reading = reading } ∷ [])) less longer;
      running = h.running;
    })))
  where
    room_for : (n m : ℕ) → (64 ≤ n → ⊥) → m ≡ n + 1 → m ≤ 64
    room_for n m less is = omega arith

fresh_orderly : (s : Server) (t : Tag) (reading : Result Command Misread) → IsOrderly s → IsOrderly (fresh s t reading).server
fresh_orderly s t (Ok c) h =
    branch (λ (a : Answer). IsOrderly a.server) (is_abort (Ok c)) _ _
    (λ aborts. record { quiet = λ e. refl; few = omega arith; running = λ line e. absurd (none_some None line refl e) })
    (λ other. stands_orderly s t (Ok c) h)
fresh_orderly s t (Err why) h =
    branch (λ (a : Answer). IsOrderly a.server) (is_event_tag t) _ _ (λ event. h) (λ standard. stands_orderly s t (Err why) h)

tagged_orderly : (s : Server) (t : Tag) (reading : Result Command Misread) → IsOrderly s → IsOrderly (tagged s t reading).server
tagged_orderly s t reading h =
    branch (λ (a : Answer). IsOrderly a.server) (runs_under t s.running || waits_under t s.waiting) _ _ (λ used. h)
    (λ free. fresh_orderly s t reading h)

pub read_orderly : (s : Server) (reading : Reading) → IsOrderly s → IsOrderly (server_read s reading).server
read_orderly s (Ok line) h = tagged_orderly s line.tag (Ok line.command) h
read_orderly s (Err LineFault.NoTag) h = h
read_orderly s (Err (LineFault.UnknownCommand t)) h = tagged_orderly s t (Err Misread.UnknownCommand) h
read_orderly s (Err (LineFault.BadArguments t k)) h = tagged_orderly s t (Err (Misread.BadArguments k)) h

-- a server on which nothing runs
still : (s : Server) → s.running ≡ None → (s.error ≡ true → s.waiting ≡ []) → length s.waiting ≤ 64 → IsOrderly s
still s idle quiet few = record { quiet = quiet; few = few; running = λ line e. absurd (none_some s.running line idle e) }

-- a server on which this command runs
starts : (s : Server) (line : Line) → s.running ≡ Some line → (s.error ≡ true → s.waiting ≡ []) → length s.waiting ≤ 64 → IsRunnable s line
    → IsOrderly s
starts s line ran quiet few able =
    record { quiet = quiet; few = few; running = λ other e. subst (λ (l : Line). IsRunnable s l) (one_value line other (sym ran ∙ e)) able }

carried_orderly : (s : Server) (t : Tag) (c : Command) → s.running ≡ None → (s.error ≡ true → s.waiting ≡ []) → length s.waiting ≤ 64
    → first_failing (checks s c) ≡ None → IsOrderly (carried_out s t c).server
carried_orderly s t Command.StartSession idle quiet few passed = still _ idle quiet few
carried_orderly s t Command.EndSession idle quiet few passed = still _ idle quiet few
carried_orderly s t Command.ClearAllErrors idle quiet few passed = still _ idle quiet few
carried_orderly s t Command.IsHomed idle quiet few passed = still _ idle quiet few
carried_orderly s t Command.Home idle quiet few passed = starts _ _ refl quiet few (refl, passed)
carried_orderly s t Command.OnPtMeasReport idle quiet few passed = still _ idle quiet few
carried_orderly s t (Command.GoTo p) idle quiet few passed = starts _ _ refl quiet few (refl, passed)
carried_orderly s t (Command.PtMeas p d) idle quiet few passed = starts _ _ refl quiet few (refl, passed)
carried_orderly s t (Command.ChangeTool n) idle quiet few passed = starts _ _ refl quiet few (refl, passed)
carried_orderly s t (Command.SetCsyTransformation p) idle quiet few passed = still _ idle quiet few
carried_orderly s t (Command.SetCoordSystem system) idle quiet few passed = still _ idle quiet few
carried_orderly s t Command.AbortE idle quiet few passed = still _ idle quiet few

one_fewer : (w : Waiting) (ws vs : List Waiting) → vs ≡ w ∷ ws → length vs ≤ 64 → length ws ≤ 64
one_fewer w ws vs is few = let long : length vs ≡ length (w ∷ ws) = ap length is in omega arith

taken_orderly : (s : Server) (w : Waiting) (ws : List Waiting) (number : Option ℕ) → refusal s w.reading ≡ number → s.running ≡ None
    → s.waiting ≡ w ∷ ws
    → IsOrderly s → IsOrderly (taken s w ws number).server
taken_orderly s w ws (Some number) is idle waits h = record { quiet = λ e. refl; few = omega arith; running = h.running }
taken_orderly s w ws None is idle waits h = go w.reading is
  where
    few : length ws ≤ 64
    few = one_fewer w ws s.waiting waits h.few

    quiet : s.error ≡ true → ws ≡ []
    quiet error = absurd (not_empty w ws (sym waits ∙ h.quiet error))

    go : (reading : Result Command Misread) → refusal s reading ≡ None
        → IsOrderly (carried (record s { waiting = ws }) w.tag reading).server
    go (Ok c) none = carried_orderly (record s { waiting = ws }) w.tag c idle quiet few none
    go (Err refused) none = still _ idle quiet few

pub turned_orderly : (s : Server) → s.running ≡ None → IsOrderly s → IsOrderly (server_turned s).server
turned_orderly s idle h = go s.waiting refl
  where
    go : (ws : List Waiting) → s.waiting ≡ ws → IsOrderly (turned_to s ws).server
    go [] is = h
    go (w ∷ ws) is = taken_orderly s w ws (refusal s w.reading) refl idle is h

finished_orderly : (s : Server) (t : Tag) (c : Command) → IsOrderly s → IsOrderly (finished s t c).server
finished_orderly s t Command.StartSession h = h
finished_orderly s t Command.EndSession h = h
finished_orderly s t Command.ClearAllErrors h = h
finished_orderly s t Command.IsHomed h = h
finished_orderly s t Command.Home h = still _ refl h.quiet h.few
finished_orderly s t Command.OnPtMeasReport h = h
finished_orderly s t (Command.GoTo p) h = still _ refl h.quiet h.few
finished_orderly s t (Command.PtMeas p d) h = h
finished_orderly s t (Command.ChangeTool n) h = still _ refl h.quiet h.few
finished_orderly s t (Command.SetCsyTransformation p) h = h
finished_orderly s t (Command.SetCoordSystem system) h = h
finished_orderly s t Command.AbortE h = h

touched_orderly : (s : Server) (t : Tag) (c : Command) (at : Point) (tool : Option (List ℕ)) → IsOrderly s
    → IsOrderly (touched s t c at tool).server
touched_orderly s t Command.StartSession at tool h = h
touched_orderly s t Command.EndSession at tool h = h
touched_orderly s t Command.ClearAllErrors at tool h = h
touched_orderly s t Command.IsHomed at tool h = h
touched_orderly s t Command.Home at tool h = h
touched_orderly s t Command.OnPtMeasReport at tool h = h
touched_orderly s t (Command.GoTo p) at tool h = h
touched_orderly s t (Command.PtMeas p d) at (Some n) h = still _ refl h.quiet h.few
touched_orderly s t (Command.PtMeas p d) at None h = h
touched_orderly s t (Command.ChangeTool n) at tool h = h
touched_orderly s t (Command.SetCsyTransformation p) at tool h = h
touched_orderly s t (Command.SetCoordSystem system) at tool h = h
touched_orderly s t Command.AbortE at tool h = h

machined_by_orderly : (s : Server) (ended : Outcome) (running : Option Line) → IsOrderly s → IsOrderly (machined s ended running).server
machined_by_orderly s ended None h = h
machined_by_orderly s Outcome.Done (Some line) h = finished_orderly s line.tag line.command h
machined_by_orderly s (Outcome.Touched at) (Some line) h = touched_orderly s line.tag line.command at s.tool h
machined_by_orderly s Outcome.Missed (Some line) h = still _ refl (λ e. refl) (omega arith)
machined_by_orderly s Outcome.Fault (Some line) h = still _ refl (λ e. refl) (omega arith)

pub machined_orderly : (s : Server) (ended : Outcome) → IsOrderly s → IsOrderly (server_machined s ended).server
machined_orderly s ended h = machined_by_orderly s ended s.running h

-- ---- a server with its bytes

not_off : (on : Bool) → (on ≡ false → ⊥) → on ≡ true
not_off true never = refl
not_off false never = absurd (never refl)

pub empty_waits : (ws : List Waiting) → not (is_empty ws) ≡ true → ws ≡ [] → ⊥
empty_waits ws some none = false≢true (sym (ap (λ (l : List Waiting). not (is_empty l)) none) ∙ some)

none_ends : (running : Option Line) (ended : Outcome) → may_end running ended ≡ true → running ≡ None → ⊥
none_ends running ended may none = false≢true (sym (ap (λ (r : Option Line). may_end r ended) none) ∙ may)

-- a server that waits for a turn, or on which something runs, is on a connection
pub turns_on : (e : ServerEnd) → may_turn e.server ≡ true → IsSteady e → e.server.on ≡ true
turns_on e may h = not_off e.server.on (λ off. empty_waits e.server.waiting (and_parts _ _ may).1 ((h.off off).waiting))

pub ends_on : (e : ServerEnd) (ended : Outcome) → may_end e.server.running ended ≡ true → IsSteady e → e.server.on ≡ true
ends_on e ended may h = not_off e.server.on (λ off. none_ends e.server.running ended may ((h.off off).running))

-- a server that stays on its connection
on_steady : (e f : ServerEnd) (acts : List Act) → e.server.on ≡ true → IsSteady e → Moves e.server f.server acts → IsOrderly f.server
    → IsSound f.input → IsSteady f
on_steady e f acts on h moves orderly sound = record {
  last = subst (λ (n : ℕ). n ≤ connection_most) (sym moves.last) h.last;
  on = λ still_on. subst IsConnection (sym moves.last) (h.on on);
  off = λ off. absurd (false≢true (sym off ∙ (moves.on ∙ on)));
  orderly = orderly;
  sound = sound;
}

fed_sound : (fault : Option FramingFault) (rest piece : List ℕ) → IsSound (record { rest = rest; fault = fault })
    → IsSound (fed_behind fault rest piece)
fed_sound None rest piece h = record { kept = λ why e. cc }
fed_sound (Some fault) rest piece h = h

not_zero : (m n : ℕ) → m < n → 1 ≤ n
not_zero m n above = omega arith

pub accepted_steady : (n : ℕ) (e : ServerEnd) → may_accept n e.server ≡ true → IsSteady e → IsSteady (serving_accepted n e)
accepted_steady n e may h =
    let numbers : (nat_lt e.server.last n && nat_le n connection_most) ≡ true = (and_parts _ _ may).1 in
    let above : e.server.last < n = ltb-true e.server.last n ((and_parts _ _ numbers).0) in
    let within : n ≤ connection_most = leb-true n connection_most ((and_parts _ _ numbers).1) in
    record {
      last = within;
      on = λ on. (not_zero e.server.last n above, within);
      off = λ off. absurd (false≢true (sym off));
      orderly = record { quiet = h.orderly.quiet; few = h.orderly.few; running = h.orderly.running };
      sound = h.sound;
    }

pub fed_steady : (bytes : List ℕ) (e : ServerEnd) → may_feed e ≡ true → IsSteady e → IsSteady (serving_fed bytes e)
fed_steady bytes e may h =
    on_steady e (serving_fed bytes e) [] ((and_parts _ _ may).0) h
    (record { on = refl; last = refl; ledger = sym (append-nil e.server.ledger) }) h.orderly
    (fed_sound e.input.fault e.input.rest bytes h.sound)

-- a framing fault is kept
pub fault_steady : (e : ServerEnd) (why : FramingFault) → next_of e.input.rest ≡ Err why → e.server.on ≡ true → IsSteady e
    → IsSteady (record e { input = record (e.input) { fault = Some why } })
fault_steady e why is on h =
    on_steady e _ [] on h (record { on = refl; last = refl; ledger = sym (append-nil e.server.ledger) }) h.orderly
    (record { kept = λ other kept. is ∙ ap Err (one_fault why other kept) })

front_steady : (e : ServerEnd) (front : Front) → next_of e.input.rest ≡ front → e.server.on ≡ true → IsSteady e
    → IsSteady (front_served e front)
front_steady e (Ok None) is on h = h
front_steady e (Ok (Some (line, rest))) is on h =
    on_steady e _ [] on h (read_moves e.server (reading_of (command_of line)))
    (read_orderly e.server (reading_of (command_of line)) h.orderly)
    (record { kept = λ why kept. absurd (no why (sym is ∙ h.sound.kept why kept)) })
  where
    no : (why : FramingFault) → ◌≡◌ {A = Front} (Ok (Some (line, rest))) (Err why) → ⊥
    no why e = cc
front_steady e (Err why) is on h = fault_steady e why is on h

pub read_steady : (e : ServerEnd) → e.server.on ≡ true → IsSteady e → IsSteady (serving_read e)
read_steady e on h = front_steady e (next_of e.input.rest) refl on h

pub turned_steady : (e : ServerEnd) → may_turn e.server ≡ true → IsSteady e → IsSteady (serving_turned e)
turned_steady e may h =
    let moves = turned_moves e.server in
    on_steady e _ moves.0 (turns_on e may h) h moves.1 (turned_orderly e.server (nothing_runs e.server.running ((and_parts _ _ may).0))
    h.orderly) h.sound

pub machined_steady : (ended : Outcome) (e : ServerEnd) → may_end e.server.running ended ≡ true → IsSteady e
    → IsSteady (serving_machined ended e)
machined_steady ended e may h =
    let moves = machined_moves e.server ended in
    on_steady e _ moves.0 (ends_on e ended may h) h moves.1 (machined_orderly e.server ended h.orderly) h.sound

none_kept : IsSound no_bytes
none_kept = record { kept = λ why e. cc }

off_steady : (e : ServerEnd) → e.server.last ≤ connection_most → e.server.on ≡ false → IsOff e → IsSteady e
off_steady e last off is = record {
  last = last;
  on = λ on. absurd (false≢true (sym off ∙ on));
  off = λ o. is;
  orderly = still e.server is.running (λ error. is.waiting) (subst (λ (ws : List Waiting). length ws ≤ 64) (sym is.waiting) (omega arith));
  sound = subst IsSound (sym is.input) none_kept;
}

pub left_steady : (e : ServerEnd) → IsSteady e → IsSteady (serving_left e)
left_steady e h =
    off_steady (serving_left e) h.last refl
    (record { session = refl; error = refl; frame = refl; stored = refl; running = refl; waiting = refl; input = refl; out = refl })

pub restarted_steady : (e : ServerEnd) → IsSteady e → IsSteady (serving_restarted e)
restarted_steady e h =
    off_steady (serving_restarted e) h.last refl
    (record { session = refl; error = refl; frame = refl; stored = refl; running = refl; waiting = refl; input = refl; out = refl })

drop_none : (count : ℕ) (bytes : List ℕ) → bytes ≡ [] → drop count bytes ≡ []
drop_none count bytes none = ap (drop count) none ∙ drop-nil count

pub taken_steady : (count : ℕ) (e : ServerEnd) → IsSteady e → IsSteady (serving_taken count e)
taken_steady count e h = record {
  last = h.last;
  on = h.on;
  off = λ off. let o : IsOff e = h.off off in
      record {
        session = o.session;
        error = o.error;
        frame = o.frame;
        stored = o.stored;
        running = o.running;
        waiting = o.waiting;
        input = o.input;
        out = drop_none count e.out o.out;
      };
  orderly = h.orderly;
  sound = h.sound;
}

pub new_steady : (tools : List (List ℕ)) → IsSteady (new_server_end tools)
new_steady tools =
    off_steady (new_server_end tools) (omega arith) refl
    (record { session = refl; error = refl; frame = refl; stored = refl; running = refl; waiting = refl; input = refl; out = refl })
