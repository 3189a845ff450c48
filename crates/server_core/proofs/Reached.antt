-- What holds of a server after every list of calls from a new one.
use Rattle.server_core.proofs.Names.{[], ◌&&◌, ◌++◌, ◌||◌, ◌∙◌, ◌∷◌, ◌≡◌, ◌≤◌, ◌⊎◌, Accept, and_parts, Answer, ap, append-nil, append_assoc}
use Rattle.server_core.proofs.Names.{AreStandard, arith, behind_call, behind_calls, Call, carried, carried_out, Command, command_of, completes_act}
use Rattle.server_core.proofs.Names.{contacts, deed_of, Err, false, false≢true, fed_behind, Feed, finished, FramingFault, fresh, Front, front_served}
use Rattle.server_core.proofs.Names.{gives_up, inl, inr, is_abort, is_clear, is_event_tag, is_some, IsContactOf, IsDone, IsEndOfEarlier, IsFull}
use Rattle.server_core.proofs.Names.{IsServing, IsSteady, Leave, leb-true, length, Line, LineFault, List, Machine, machined, MadeContact, may_end}
use Rattle.server_core.proofs.Names.{Misread, nat_le, new_server_end, next_of, None, not, Ok, Option, Outcome, Point, possible, RanBefore, reached}
use Rattle.server_core.proofs.Names.{Reading, reading_of, ReadOne, refl, refusal, Restart, Result, runs_under, RunsInError, Sent, Server, server_read}
use Rattle.server_core.proofs.Names.{server_turned, ServerEnd, serving_accepted, serving_fed, serving_machined, serving_read, serving_taken}
use Rattle.server_core.proofs.Names.{serving_turned, Some, stands, StaysInError, subst, sym, Tag, tagged, taken, touched, true, Turn, turned_to}
use Rattle.server_core.proofs.Names.{Waiting, waits_under, ℕ}
use Rattle.server_core.proofs.Steadies.{branch, none_some, not_empty, nothing_runs, empty_waits, accepted_steady, fed_steady, read_steady}
use Rattle.server_core.proofs.Steadies.{turned_steady, machined_steady, left_steady, restarted_steady, taken_steady, new_steady}
use Rattle.server_core.proofs.Standards.{read_standard, turned_standard, machined_standard}
use Rattle.server_core.proofs.Deeds.{chosen, call_done, act_due, contact_of_call}

-- ---- what holds at any time

call_steady : (call : Call) (e : ServerEnd) → IsSteady e → IsSteady (behind_call call e)
call_steady (Accept n) e h = chosen IsSteady (possible (Accept n) e) _ _ (λ may. accepted_steady n e may h) (λ may. h)
call_steady (Feed bytes) e h = chosen IsSteady (possible (Feed bytes) e) _ _ (λ may. fed_steady bytes e may h) (λ may. h)
call_steady ReadOne e h = chosen IsSteady (possible ReadOne e) _ _ (λ may. read_steady e may h) (λ may. h)
call_steady Turn e h = chosen IsSteady (possible Turn e) _ _ (λ may. turned_steady e may h) (λ may. h)
call_steady (Machine ended) e h = chosen IsSteady (possible (Machine ended) e) _ _ (λ may. machined_steady ended e may h) (λ may. h)
call_steady Leave e h = left_steady e h
call_steady Restart e h = restarted_steady e h
call_steady (Sent count) e h = chosen IsSteady (possible (Sent count) e) _ _ (λ may. taken_steady count e h) (λ may. h)

abbrev Standard : ServerEnd → Type 0
Standard e = AreStandard e.server.waiting

call_standard : (call : Call) (e : ServerEnd) → Standard e → Standard (behind_call call e)
call_standard (Accept n) e h = chosen Standard (possible (Accept n) e) (serving_accepted n e) e (λ may. h) (λ may. h)
call_standard (Feed bytes) e h = chosen Standard (possible (Feed bytes) e) (serving_fed bytes e) e (λ may. h) (λ may. h)
call_standard ReadOne e h = chosen Standard (possible ReadOne e) (serving_read e) e
    (λ may. read_standard e h) (λ may. h)
call_standard Turn e h = chosen Standard (possible Turn e) (serving_turned e) e (λ may. turned_standard e.server h) (λ may. h)
call_standard (Machine ended) e h =
    chosen Standard (possible (Machine ended) e) (serving_machined ended e) e (λ may. machined_standard e.server ended h) (λ may. h)
call_standard Leave e h = tt
call_standard Restart e h = tt
call_standard (Sent count) e h = chosen Standard (possible (Sent count) e) (serving_taken count e) e (λ may. h) (λ may. h)

calls_steady : (calls : List Call) (e : ServerEnd) → IsSteady e → IsSteady (behind_calls calls e)
calls_steady [] e h = h
calls_steady (call ∷ calls) e h = calls_steady calls (behind_call call e) (call_steady call e h)

calls_standard : (calls : List Call) (e : ServerEnd) → Standard e
    → Standard (behind_calls calls e)
calls_standard [] e h = h
calls_standard (call ∷ calls) e h = calls_standard calls (behind_call call e)
    (call_standard call e h)

pub reached_steady : (tools : List (List ℕ)) (calls : List Call) → IsSteady (reached tools calls)
reached_steady tools calls = calls_steady calls (new_server_end tools) (new_steady tools)

pub reached_serving : (tools : List (List ℕ)) (calls : List Call) → IsServing (reached tools calls)
reached_serving tools calls =
    record { steady = reached_steady tools calls; standard = calls_standard calls (new_server_end tools) tt }

-- ---- one act

pub one_act : (tools : List (List ℕ)) (calls : List Call) (call : Call)
    → IsDone (deed_of call (reached tools calls)) (reached tools calls)
    (behind_call call (reached tools calls))
one_act tools calls call = call_done call (reached tools calls)

pub act_is_due : (tools : List (List ℕ)) (calls : List Call) (call : Call)
    → is_some (deed_of call (reached tools calls)) ≡ completes_act call (reached tools calls)
act_is_due tools calls call = act_due call (reached tools calls) (reached_steady tools calls)

pub contact_is_commanded : (tools : List (List ℕ)) (calls : List Call) (call : Call) (made : MadeContact)
    → contacts (behind_call call (reached tools calls)).server.ledger ≡ contacts (reached tools calls).server.ledger
    ++ made ∷ []
    → IsContactOf (reached tools calls) call made
contact_is_commanded tools calls call made longer =
    contact_of_call call (reached tools calls) made (reached_steady tools calls) longer

-- ---- what runs in the error state

-- it ran in the error state before, or the state was entered by reading a line while 64 waited
abbrev Before : Line → Server → Type 0
Before line s = ((s.error ≡ true) × (s.running ≡ Some line)) ⊎ ((s.error ≡ false) × (s.running ≡ Some line) × (length s.waiting ≡ 64))

abbrev Came : Line → Server → Answer → Type 0
Came line s a = a.server.error ≡ true → a.server.running ≡ Some line → Before line s

abbrev Ran : Line → Server → Type 0
Ran line s = (s.error ≡ true) × (s.running ≡ Some line)

abbrev Stayed : Line → Server → Answer → Type 0
Stayed line s a = a.server.error ≡ true → a.server.running ≡ Some line → Ran line s

still_ran : (line : Line) (s : Server) → s.error ≡ true → s.running ≡ Some line → Ran line s
still_ran line s error runs = (error, runs)

as_before : (line : Line) (s : Server) → s.error ≡ true → s.running ≡ Some line → Before line s
as_before line s error runs = inl (error, runs)

just_full : (n : ℕ) → n ≤ 64 → nat_le 64 n ≡ true → n ≡ 64
just_full n few full = let most : 64 ≤ n = leb-true 64 n full in omega arith

stands_came : (line : Line) (s : Server) (t : Tag) (reading : Result Command Misread) → length s.waiting ≤ 64
    → Came line s (stands s t reading)
stands_came line s t reading few =
    branch (Came line s) (s.error && not (is_clear reading)) _ _ (λ refused. as_before line s)
    (λ go. branch (Came line s) s.error _ _ (λ error cleared runs. absurd (false≢true cleared))
    (λ calm. branch (Came line s) (nat_le 64 (length s.waiting)) _ _
    (λ full entered runs. inr (calm, runs, just_full (length s.waiting) few full)) (λ room. as_before line s)))

fresh_came : (line : Line) (s : Server) (t : Tag) (reading : Result Command Misread) → length s.waiting ≤ 64
    → Came line s (fresh s t reading)
fresh_came line s t (Ok c) few =
    branch (Came line s) (is_abort (Ok c)) _ _ (λ aborts error runs. absurd (none_some None line refl runs))
    (λ other. stands_came line s t (Ok c) few)
fresh_came line s t (Err why) few =
    branch (Came line s) (is_event_tag t) _ _ (λ event. as_before line s) (λ standard. stands_came line s t (Err why) few)

tagged_came : (line : Line) (s : Server) (t : Tag) (reading : Result Command Misread) → length s.waiting ≤ 64
    → Came line s (tagged s t reading)
tagged_came line s t reading few =
    branch (Came line s) (runs_under t s.running || waits_under t s.waiting) _ _ (λ used. as_before line s)
    (λ free. fresh_came line s t reading few)

read_came : (line : Line) (s : Server) (reading : Reading) → length s.waiting ≤ 64 → Came line s (server_read s reading)
read_came line s (Ok l) few = tagged_came line s l.tag (Ok l.command) few
read_came line s (Err LineFault.NoTag) few = as_before line s
read_came line s (Err (LineFault.UnknownCommand t)) few = tagged_came line s t (Err Misread.UnknownCommand) few
read_came line s (Err (LineFault.BadArguments t k)) few = tagged_came line s t (Err (Misread.BadArguments k)) few

front_came : (line : Line) (e : ServerEnd) (front : Front) → length e.server.waiting ≤ 64
    → (front_served e front).server.error ≡ true → (front_served e front).server.running ≡ Some line → Before line e.server
front_came line e (Ok None) few = as_before line e.server
front_came line e (Ok (Some (text, rest))) few = read_came line e.server (reading_of (command_of text)) few
front_came line e (Err why) few = as_before line e.server

carried_error : (s : Server) (t : Tag) (c : Command) → (carried_out s t c).server.error ≡ s.error
carried_error s t Command.StartSession = refl
carried_error s t Command.EndSession = refl
carried_error s t Command.ClearAllErrors = refl
carried_error s t Command.IsHomed = refl
carried_error s t Command.Home = refl
carried_error s t Command.OnPtMeasReport = refl
carried_error s t (Command.GoTo p) = refl
carried_error s t (Command.PtMeas p d) = refl
carried_error s t (Command.ChangeTool n) = refl
carried_error s t (Command.SetCsyTransformation p) = refl
carried_error s t (Command.SetCoordSystem system) = refl
carried_error s t Command.AbortE = refl

taken_came : (line : Line) (s : Server) (w : Waiting) (ws : List Waiting) (number : Option ℕ) → s.running ≡ None → (s.error ≡ true → ⊥)
    → Stayed line s (taken s w ws number)
taken_came line s w ws (Some number) idle calm = λ error runs. absurd (none_some s.running line idle runs)
taken_came line s w ws None idle calm = go w.reading
  where
    go : (reading : Result Command Misread) → Stayed line s (carried (record s { waiting = ws }) w.tag reading)
    go (Ok c) = λ error runs. absurd (calm (sym (carried_error (record s { waiting = ws }) w.tag c) ∙ error))
    go (Err refused) = λ error runs. absurd (calm error)

turned_came : (line : Line) (s : Server) → s.running ≡ None → (s.error ≡ true → s.waiting ≡ []) → Stayed line s (server_turned s)
turned_came line s idle quiet = go s.waiting refl
  where
    go : (ws : List Waiting) → s.waiting ≡ ws → Stayed line s (turned_to s ws)
    go [] is = still_ran line s
    go (w ∷ ws) is = taken_came line s w ws (refusal s w.reading) idle (λ error. not_empty w ws (sym is ∙ quiet error))

finished_came : (line : Line) (s : Server) (t : Tag) (c : Command) → Stayed line s (finished s t c)
finished_came line s t Command.StartSession = still_ran line s
finished_came line s t Command.EndSession = still_ran line s
finished_came line s t Command.ClearAllErrors = still_ran line s
finished_came line s t Command.IsHomed = still_ran line s
finished_came line s t Command.Home = λ error runs. absurd (none_some None line refl runs)
finished_came line s t Command.OnPtMeasReport = still_ran line s
finished_came line s t (Command.GoTo p) = λ error runs. absurd (none_some None line refl runs)
finished_came line s t (Command.PtMeas p d) = still_ran line s
finished_came line s t (Command.ChangeTool n) = λ error runs. absurd (none_some None line refl runs)
finished_came line s t (Command.SetCsyTransformation p) = still_ran line s
finished_came line s t (Command.SetCoordSystem system) = still_ran line s
finished_came line s t Command.AbortE = still_ran line s

touched_came : (line : Line) (s : Server) (t : Tag) (c : Command) (at : Point) (tool : Option (List ℕ))
    → Stayed line s (touched s t c at tool)
touched_came line s t Command.StartSession at tool = still_ran line s
touched_came line s t Command.EndSession at tool = still_ran line s
touched_came line s t Command.ClearAllErrors at tool = still_ran line s
touched_came line s t Command.IsHomed at tool = still_ran line s
touched_came line s t Command.Home at tool = still_ran line s
touched_came line s t Command.OnPtMeasReport at tool = still_ran line s
touched_came line s t (Command.GoTo p) at tool = still_ran line s
touched_came line s t (Command.PtMeas p d) at (Some n) = λ error runs. absurd (none_some None line refl runs)
touched_came line s t (Command.PtMeas p d) at None = still_ran line s
touched_came line s t (Command.ChangeTool n) at tool = still_ran line s
touched_came line s t (Command.SetCsyTransformation p) at tool = still_ran line s
touched_came line s t (Command.SetCoordSystem system) at tool = still_ran line s
touched_came line s t Command.AbortE at tool = still_ran line s

machined_came : (line : Line) (s : Server) (ended : Outcome) (running : Option Line) → Stayed line s (machined s ended running)
machined_came line s ended None = still_ran line s
machined_came line s Outcome.Done (Some l) = finished_came line s l.tag l.command
machined_came line s (Outcome.Touched at) (Some l) = touched_came line s l.tag l.command at s.tool
machined_came line s Outcome.Missed (Some l) = λ error runs. absurd (none_some None line refl runs)
machined_came line s Outcome.Fault (Some l) = λ error runs. absurd (none_some None line refl runs)

-- likewise for a call: reading a line alone enters the error state while a command runs
abbrev BeforeCall : Call → Line → ServerEnd → Type 0
BeforeCall call line e = RunsInError line e ⊎ ((call ≡ ReadOne) × IsFull line e)

abbrev CameBy : Call → Line → ServerEnd → ServerEnd → Type 0
CameBy call line e f = f.server.error ≡ true → f.server.running ≡ Some line → BeforeCall call line e

same_by : (call : Call) (line : Line) (e : ServerEnd) → e.server.error ≡ true → e.server.running ≡ Some line → BeforeCall call line e
same_by call line e error runs = inl (record { error = error; runs = runs })

by_reading : (line : Line) (e : ServerEnd) → Before line e.server → BeforeCall ReadOne line e
by_reading line e (inl h) = inl (record { error = h.0; runs = h.1 })
by_reading line e (inr h) = inr (refl, record { calm = h.0; runs = h.1; full = h.2 })

by_other : (call : Call) (line : Line) (e : ServerEnd) → Ran line e.server → BeforeCall call line e
by_other call line e h = inl (record { error = h.0; runs = h.1 })

came_by : (call : Call) (line : Line) (e : ServerEnd) → IsSteady e → CameBy call line e (behind_call call e)
came_by (Accept n) line e h =
    chosen (CameBy (Accept n) line e) (possible (Accept n) e) (serving_accepted n e) e (λ may. same_by (Accept n) line e)
    (λ may. same_by (Accept n) line e)
came_by (Feed bytes) line e h =
    chosen (CameBy (Feed bytes) line e) (possible (Feed bytes) e) (serving_fed bytes e) e (λ may. same_by (Feed bytes) line e)
    (λ may. same_by (Feed bytes) line e)
came_by ReadOne line e h =
    chosen (CameBy ReadOne line e) (possible ReadOne e) (serving_read e) e
    (λ may error runs. by_reading line e (front_came line e (next_of e.input.rest) h.orderly.few error runs))
    (λ may. same_by ReadOne line e)
came_by Turn line e h =
    chosen (CameBy Turn line e) (possible Turn e) (serving_turned e) e
    (λ may error runs. by_other Turn line e
    (turned_came line e.server (nothing_runs e.server.running ((and_parts _ _ may).0)) h.orderly.quiet error runs))
    (λ may. same_by Turn line e)
came_by (Machine ended) line e h =
    chosen (CameBy (Machine ended) line e) (possible (Machine ended) e) (serving_machined ended e) e
    (λ may error runs. by_other (Machine ended) line e (machined_came line e.server ended e.server.running error runs))
    (λ may. same_by (Machine ended) line e)
came_by Leave line e h = λ error runs. absurd (none_some None line refl runs)
came_by Restart line e h = λ error runs. absurd (none_some None line refl runs)
came_by (Sent count) line e h =
    chosen (CameBy (Sent count) line e) (possible (Sent count) e) (serving_taken count e) e (λ may. same_by (Sent count) line e)
    (λ may. same_by (Sent count) line e)

-- ---- over lists of calls

calls_more : (calls more : List Call) (e : ServerEnd)
    → behind_calls (calls ++ more) e ≡ behind_calls more (behind_calls calls e)
calls_more [] more e = refl
calls_more (call ∷ calls) more e = calls_more calls more (behind_call call e)

stays_more : (line : Line) (call : Call) (calls : List Call) (e : ServerEnd) → StaysInError line calls e
    → RunsInError line (behind_call call (behind_calls calls e)) → StaysInError line (calls ++ call ∷ []) e
stays_more line call [] e h last = (h, last)
stays_more line call (c ∷ calls) e h last = (h.0, stays_more line call calls (behind_call c e) h.1 last)

abbrev RanAll : List (List ℕ) → List Call → Type 0
RanAll tools calls =
    (line : Line) → (reached tools calls).server.error ≡ true → (reached tools calls).server.running ≡ Some line
    → RanBefore tools calls line

-- one call more
goes_on : (tools : List (List ℕ)) (calls : List Call) (call : Call) (line : Line)
    → RunsInError line (behind_call call (reached tools calls)) → RanBefore tools calls line
    → RanBefore tools (calls ++ call ∷ []) line
goes_on tools calls call line last h =
    let here : reached tools calls ≡ behind_calls h.since (behind_call ReadOne (reached tools h.before)) =
    ap (reached tools) h.parts ∙ calls_more h.before (ReadOne ∷ h.since) (new_server_end tools) in
    record {
      before = h.before;
      since = h.since ++ call ∷ [];
      parts = ap (λ (l : List Call). l ++ call ∷ []) h.parts ∙ append_assoc h.before (ReadOne ∷ h.since) (call ∷ []);
      full = h.full;
      stays = stays_more line call h.since (behind_call ReadOne (reached tools h.before)) h.stays
          (subst (λ (e : ServerEnd). RunsInError line (behind_call call e)) here last);
    }

enters : (tools : List (List ℕ)) (calls : List Call) (call : Call) (line : Line)
    → RunsInError line (behind_call call (reached tools calls)) → call ≡ ReadOne → IsFull line (reached tools calls)
    → RanBefore tools (calls ++ call ∷ []) line
enters tools calls call line last is full = record {
  before = calls;
  since = [];
  parts = ap (λ (c : Call). calls ++ c ∷ []) is;
  full = full;
  stays = subst (λ (c : Call). RunsInError line (behind_call c (reached tools calls))) is last;
}

next_ran : (tools : List (List ℕ)) (calls : List Call) (call : Call) (line : Line) → RanAll tools calls
    → RunsInError line (behind_call call (reached tools calls)) → BeforeCall call line (reached tools calls)
    → RanBefore tools (calls ++ call ∷ []) line
next_ran tools calls call line all last (inl h) = goes_on tools calls call line last (all line h.error h.runs)
next_ran tools calls call line all last (inr h) = enters tools calls call line last h.0 h.1

more_ran : (tools : List (List ℕ)) (calls : List Call) (call : Call) → RanAll tools calls
    → RanAll tools (calls ++ call ∷ [])
more_ran tools calls call all line error runs =
    let here : reached tools (calls ++ call ∷ []) ≡ behind_call call (reached tools calls) =
    calls_more calls (call ∷ []) (new_server_end tools) in
    let last : RunsInError line (behind_call call (reached tools calls)) =
    subst (RunsInError line) here (record { error = error; runs = runs }) in
    next_ran tools calls call line all last
    (came_by call line (reached tools calls) (reached_steady tools calls) last.error last.runs)

all_ran : (tools : List (List ℕ)) (calls more : List Call) → RanAll tools calls
    → RanAll tools (calls ++ more)
all_ran tools calls [] h = subst (RanAll tools) (sym (append-nil calls)) h
all_ran tools calls (call ∷ more) h =
    subst (RanAll tools) (append_assoc calls (call ∷ []) more)
    (all_ran tools (calls ++ call ∷ []) more (more_ran tools calls call h))

new_ran : (tools : List (List ℕ)) → RanAll tools []
new_ran tools line error runs = absurd (false≢true error)

pub ran_before : (tools : List (List ℕ)) (calls : List Call) (line : Line)
    → (reached tools calls).server.error ≡ true
    → (reached tools calls).server.running ≡ Some line → RanBefore tools calls line
ran_before tools calls = all_ran tools [] calls (new_ran tools)

-- ---- acts in the error state

end_of_earlier : (tools : List (List ℕ)) (calls : List Call) (ended : Outcome) (running : Option Line)
    → (reached tools calls).server.running ≡ running → (reached tools calls).server.error ≡ true
    → may_end running ended ≡ true
    → IsEndOfEarlier tools calls (Machine ended)
end_of_earlier tools calls ended None is error may = absurd (false≢true may)
end_of_earlier tools calls ended (Some line) is error may =
    record { ended = ended; is_end = refl; line = line; runs = is; ran = ran_before tools calls line error is }

pub act_in_error : (tools : List (List ℕ)) (calls : List Call) (call : Call)
    → (reached tools calls).server.error ≡ true
    → completes_act call (reached tools calls) ≡ true → IsEndOfEarlier tools calls call
act_in_error tools calls (Accept n) error completes = absurd (false≢true completes)
act_in_error tools calls (Feed bytes) error completes = absurd (false≢true completes)
act_in_error tools calls ReadOne error completes = absurd (false≢true completes)
act_in_error tools calls Turn error completes =
    absurd (empty_waits (reached tools calls).server.waiting ((and_parts _ _ ((and_parts _ _ completes).0)).1)
    ((reached_steady tools calls).orderly.quiet error))
act_in_error tools calls (Machine Outcome.Done) error completes =
    end_of_earlier tools calls Outcome.Done (reached tools calls).server.running refl error completes
act_in_error tools calls (Machine (Outcome.Touched at)) error completes =
    end_of_earlier tools calls (Outcome.Touched at) (reached tools calls).server.running refl error completes
act_in_error tools calls (Machine Outcome.Missed) error completes = absurd (false≢true completes)
act_in_error tools calls (Machine Outcome.Fault) error completes = absurd (false≢true completes)
act_in_error tools calls Leave error completes = absurd (false≢true completes)
act_in_error tools calls Restart error completes = absurd (false≢true completes)
act_in_error tools calls (Sent count) error completes = absurd (false≢true completes)

-- ---- a framing fault

read_again : (e : ServerEnd) (why : FramingFault) (front : Front) → next_of e.input.rest ≡ front → front ≡ Err why
    → e.input.fault ≡ Some why
    → (front_served e front).input ≡ e.input
read_again e why (Ok None) is fault kept = refl
read_again e why (Ok (Some found)) is fault kept = absurd (not_fault fault)
  where
    not_fault : ◌≡◌ {A = Front} (Ok (Some found)) (Err why) → ⊥
    not_fault e = cc
read_again e why (Err other) is fault kept =
    ap (λ (f : Option FramingFault). record (e.input) { fault = f }) (ap Some (one_reason fault) ∙ sym kept)
  where
    one_reason : ◌≡◌ {A = Front} (Err other) (Err why) → other ≡ why
    one_reason e = cc

fed_again : (fault : Option FramingFault) (why : FramingFault) (rest piece : List ℕ) → fault ≡ Some why
    → fed_behind fault rest piece ≡ record { rest = rest; fault = fault }
fed_again (Some other) why rest piece kept = refl
fed_again None why rest piece kept = absurd (none_is kept)
  where
    none_is : ◌≡◌ {A = Option FramingFault} None (Some why) → ⊥
    none_is e = cc

call_keeps_fault : (call : Call) (e : ServerEnd) (why : FramingFault) → next_of e.input.rest ≡ Err why
    → e.input.fault ≡ Some why
    → gives_up call ≡ false → (behind_call call e).input ≡ e.input
call_keeps_fault (Accept n) e why front kept stays =
    chosen (λ (f : ServerEnd). f.input ≡ e.input) (possible (Accept n) e) (serving_accepted n e) e (λ may. refl) (λ may. refl)
call_keeps_fault (Feed bytes) e why front kept stays =
    chosen (λ (f : ServerEnd). f.input ≡ e.input) (possible (Feed bytes) e) (serving_fed bytes e) e
    (λ may. fed_again e.input.fault why e.input.rest bytes kept) (λ may. refl)
call_keeps_fault ReadOne e why front kept stays =
    chosen (λ (f : ServerEnd). f.input ≡ e.input) (possible ReadOne e) (serving_read e) e
    (λ may. read_again e why (next_of e.input.rest) refl front kept) (λ may. refl)
call_keeps_fault Turn e why front kept stays =
    chosen (λ (f : ServerEnd). f.input ≡ e.input) (possible Turn e) (serving_turned e) e (λ may. refl) (λ may. refl)
call_keeps_fault (Machine ended) e why front kept stays =
    chosen (λ (f : ServerEnd). f.input ≡ e.input) (possible (Machine ended) e) (serving_machined ended e) e (λ may. refl) (λ may. refl)
call_keeps_fault Leave e why front kept stays = absurd (false≢true (sym stays))
call_keeps_fault Restart e why front kept stays = absurd (false≢true (sym stays))
call_keeps_fault (Sent count) e why front kept stays =
    chosen (λ (f : ServerEnd). f.input ≡ e.input) (possible (Sent count) e) (serving_taken count e) e (λ may. refl) (λ may. refl)

pub kept_fault_stands : (tools : List (List ℕ)) (calls : List Call) (why : FramingFault)
    → (reached tools calls).input.fault ≡ Some why → next_of (reached tools calls).input.rest ≡ Err why
kept_fault_stands tools calls why kept = (reached_steady tools calls).sound.kept why kept

pub fault_is_kept : (tools : List (List ℕ)) (calls : List Call) (call : Call) (why : FramingFault)
    → (reached tools calls).input.fault ≡ Some why → gives_up call ≡ false
    → (behind_call call (reached tools calls)).input ≡ (reached tools calls).input
fault_is_kept tools calls call why kept stays =
    call_keeps_fault call (reached tools calls) why (kept_fault_stands tools calls why kept) kept stays
