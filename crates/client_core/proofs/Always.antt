-- What holds of a client at any time: its state and connection, its cause, its window and numbers, and what it holds on no connection.
use Rattle.client_core.proofs.Names.{[], ◌&&◌, ◌++◌, ◌<◌, ◌==◌, ◌∙◌, ◌∷◌, ◌≡◌, ◌≤◌, Abort, ap, arith, behind_call, behind_calls, Bool, Call, Cause}
use Rattle.client_core.proofs.Names.{Client, client_connected, client_hears, client_left, client_read, client_restarted, client_resumed, ClientEnd}
use Rattle.client_core.proofs.Names.{cond, Connected, connection_most, count_keeps, count_open, Datum, done_by, drop, due, ends_abort, Err, false}
use Rattle.client_core.proofs.Names.{false≢true, faulted, Feature, fed_behind, Feed, fine, first_due, first_state, FitsState, FramingFault, Front}
use Rattle.client_core.proofs.Names.{front_read, given_for, given_homed, given_point, given_under, heard_on, held_now, held_under, homed_of, if_false}
use Rattle.client_core.proofs.Names.{is_asking, is_failed, is_faulted, is_running, is_some, is_whole, IsQuiet, IsReached, Kind, kind_of, last_state}
use Rattle.client_core.proofs.Names.{le_refl, Leave, leb-true, left_by, left_state, line_read, List, ltb-true, may_abort, may_connect, may_go}
use Rattle.client_core.proofs.Names.{may_read, Meaning, nat_lt, new_client, new_client_end, next_number, next_of, None, not, NotHomedText, NotPoint}
use Rattle.client_core.proofs.Names.{NotResponse, Ok, OpenCommand, Option, Planned, Point, point_of, possible, ReadOne, refl, Response, response_of}
use Rattle.client_core.proofs.Names.{response_read, Restart, Result, Resume, Send, sends_abort, sends_next, Sent, Some, State, state_behind}
use Rattle.client_core.proofs.Names.{step_cases, subst, suc, sym, Table, Tag, tag_is, true, Wanted, zero, ℕ}
use Rattle.dme_line.specs.declared.responses.Mark.{Mark as Marked}
use Rattle.protocol_model.specs.Replies.{Mark}
use Rattle.protocol_model.proofs.HeardTables.{heard}
use Rattle.client_core.specs.Clients as clients
use Rattle.client_core.proofs.Fits.{both}
use Rattle.client_core.proofs.Runs.{IsDue, due_running, resumed_state}

-- of the client without its bytes
pub record IsSteady (c : Client) : Type 0 where
  pub connected : FitsState c.state c.on
  pub cause : is_some c.cause ≡ is_faulted c.state
  pub some : 1 ≤ c.window
  pub few : c.window ≤ 16
  pub last : c.last ≤ connection_most
  pub numbered : c.on ≡ true → 1 ≤ c.last
  pub opened : count_open c.table.standard ≤ c.window

-- ---- what is read

-- a client that reads is on a connection, and is not Faulted
pub record Reads (c : Client) : Type 0 where
  pub on : c.on ≡ true
  pub awake : is_faulted c.state ≡ false

not_true : (b : Bool) → not b ≡ true → b ≡ false
not_true true e = absurd (false≢true e)
not_true false e = refl

pub reads_by : (c : Client) → may_read c ≡ true → Reads c
reads_by c e = let two = both c.on _ e in record { on = two.0; awake = not_true (is_faulted c.state) two.1 }

faulted_steady : (c : Client) (cause : Cause) → c.on ≡ true → IsSteady c → IsSteady (faulted cause c)
faulted_steady c cause on h = record {
  connected = on;
  cause = refl;
  some = h.some;
  few = h.few;
  last = h.last;
  numbered = h.numbered;
  opened = h.opened;
}

-- and it is on a connection
record IsLive (c : Client) : Type 0 where
  steady : IsSteady c
  on : c.on ≡ true

faulted_live : (c : Client) (cause : Cause) → IsLive c → IsLive (faulted cause c)
faulted_live c cause h = record { steady = faulted_steady c cause (IsLive.on h) (IsLive.steady h); on = IsLive.on h }

heard_fewer : (ws : List Wanted) (b c : Table) (t : Tag) (m : Mark) → heard ws b t m ≡ fine c
    → count_open c.standard ≤ count_open b.standard
heard_fewer ws b c t m is =
    step_cases ws b t m c (count_open c.standard ≤ count_open b.standard) is
    (λ zero_tag same. subst (λ (x : Table). count_open x.standard ≤ count_open b.standard) same (le_refl (count_open b.standard)))
    (λ n hs e sort here after. subst (λ (x : Table). count_open x.standard ≤ count_open b.standard) (sym after)
    (count_keeps (not b.tally.failed) b.standard (Tag.Std n) m hs e here))
    (λ n hs e sort other here after. subst (λ (x : Table). count_open x.standard ≤ count_open b.standard) (sym after)
    (le_refl (count_open b.standard)))

-- a reply leaves it on its connection, and not Faulted
record Stays (s : State) : Type 0 where
  connected : FitsState s true
  awake : is_faulted s ≡ false

stays_whole : (whole : Bool) → Stays (cond whole State.Done State.Running)
stays_whole true = record { connected = tt; awake = refl }
stays_whole false = record { connected = refl; awake = refl }

stays_failing : (whole none : Bool) → Stays (cond whole State.Done (cond none State.Halted State.Failing))
stays_failing true none = record { connected = tt; awake = refl }
stays_failing false true = record { connected = refl; awake = refl }
stays_failing false false = record { connected = refl; awake = refl }

stays : (s : State) (ends failed whole : Bool) (count : ℕ) → FitsState s true → is_faulted s ≡ false
    → Stays (last_state (first_state s ends failed) whole count)
stays State.Apart ends failed whole count h awake = absurd (false≢true (sym h))
stays State.Running ends true whole count h awake = stays_failing whole (count == 0)
stays State.Running ends false whole count h awake = stays_whole whole
stays State.Failing ends failed whole count h awake = stays_failing whole (count == 0)
stays State.Aborting true failed whole count h awake = stays_failing whole (count == 0)
stays State.Aborting false failed whole count h awake = record { connected = refl; awake = refl }
stays State.Halted ends failed whole count h awake = record { connected = refl; awake = refl }
stays State.Done ends failed whole count h awake = record { connected = tt; awake = refl }
stays State.Faulted ends failed whole count h awake = absurd (false≢true (sym awake))

hears_live : (c : Client) (t : Tag) (m : Mark) → Reads c → IsLive c → (r : Result Table Cause) → heard c.program.features c.table t m ≡ r
    → IsLive (client_hears c t m r)
hears_live c t m reads h (Ok b) is =
    let s : Stays (state_behind c.state (ends_abort c.abort t m) b) =
    stays c.state (ends_abort c.abort t m) b.tally.failed (is_whole b) (count_open b.standard)
    (subst (λ (on : Bool). FitsState c.state on) (Reads.on reads) (IsSteady.connected (IsLive.steady h))) (Reads.awake reads) in
    let fewer = heard_fewer c.program.features c.table b t m is in
    let before : IsSteady c = IsLive.steady h in
    let opened = before.opened in
    record {
      on = IsLive.on h;
      steady = record {
        connected = subst (λ (on : Bool). FitsState (state_behind c.state (ends_abort c.abort t m) b) on) (sym (Reads.on reads))
            (Stays.connected s);
        cause = before.cause ∙ (Reads.awake reads ∙ sym (Stays.awake s));
        some = before.some;
        few = before.few;
        last = before.last;
        numbered = before.numbered;
        opened = omega (arith, fewer, opened);
      };
    }
hears_live c t m reads h (Err cause) is = faulted_live c cause h

reply_live : (c : Client) (t : Tag) (m : Mark) → Reads c → IsLive c → IsLive (client_read c t m)
reply_live c t m reads h = go (tag_is t (Tag.Event 0)) refl
  where
    go : (b : Bool) → tag_is t (Tag.Event 0) ≡ b → IsLive (cond b c (client_hears c t m (heard_on c.program.features c.table t m)))
    go true e = h
    go false e = hears_live c t m reads h (heard_on c.program.features c.table t m)
        (if_false {A = Result Table Cause} (tag_is t (Tag.Event 0)) (fine c.table) (heard_on c.program.features c.table t m) e)

either_live : (b : Bool) (c d : Client) → IsLive c → IsLive d → IsLive (cond b c d)
either_live true c d h g = h
either_live false c d h g = g

point_live : (c : Client) (t : Tag) (r : Result Point NotPoint) → Reads c → IsLive c → IsLive (given_point c t r)
point_live c t (Ok q) reads h = reply_live c t (Mark.Given (Datum.Point q)) reads h
point_live c t (Err why) reads h = faulted_live c Cause.NotResponse h

homed_live : (c : Client) (t : Tag) (r : Result Bool NotHomedText) → Reads c → IsLive c → IsLive (given_homed c t r)
homed_live c t (Ok homed) reads h = reply_live c t (Mark.Given (Datum.Homed homed)) reads h
homed_live c t (Err why) reads h = faulted_live c Cause.NotResponse h

given_live : (c : Client) (t : Tag) (text : List ℕ) (k : Kind) → Reads c → IsLive c
    → IsLive (given_for c t text k)
given_live c t text Kind.PtMeas reads h = point_live c t (point_of text) reads h
given_live c t text Kind.IsHomed reads h = homed_live c t (homed_of text) reads h
given_live c t text Kind.StartSession reads h = faulted_live c Cause.OutOfOrder h
given_live c t text Kind.EndSession reads h = faulted_live c Cause.OutOfOrder h
given_live c t text Kind.ClearAllErrors reads h = faulted_live c Cause.OutOfOrder h
given_live c t text Kind.Home reads h = faulted_live c Cause.OutOfOrder h
given_live c t text Kind.OnPtMeasReport reads h = faulted_live c Cause.OutOfOrder h
given_live c t text Kind.GoTo reads h = faulted_live c Cause.OutOfOrder h
given_live c t text Kind.ChangeTool reads h = faulted_live c Cause.OutOfOrder h
given_live c t text Kind.SetCsyTransformation reads h = faulted_live c Cause.OutOfOrder h
given_live c t text Kind.SetCoordSystem reads h = faulted_live c Cause.OutOfOrder h
given_live c t text Kind.AbortE reads h = faulted_live c Cause.OutOfOrder h

under_live : (c : Client) (t : Tag) (text : List ℕ) (kind : Option Kind) → Reads c → IsLive c
    → IsLive (given_under c t text kind)
under_live c t text None reads h = faulted_live c Cause.UnknownTag h
under_live c t text (Some k) reads h = given_live c t text k reads h

response_live : (c : Client) (t : Tag) (m : Marked) → Reads c → IsLive c → IsLive (response_read c t m)
response_live c t Marked.Ack reads h = reply_live c t Mark.Ack reads h
response_live c t (Marked.Given text) reads h =
    either_live (tag_is t (Tag.Event 0)) c (given_under c t text (held_under t c)) h
    (under_live c t text (held_under t c) reads h)
response_live c t Marked.Done reads h = reply_live c t Mark.Done reads h
response_live c t (Marked.Error text) reads h = reply_live c t Mark.Error reads h

line_live : (c : Client) (r : Result Response NotResponse) → Reads c → IsLive c → IsLive (line_read c r)
line_live c (Ok r) reads h = response_live c r.tag r.mark reads h
line_live c (Err refused) reads h = faulted_live c Cause.NotResponse h

front_live : (c : Client) (f : Front) → Reads c → IsLive c → IsLive (front_read c f)
front_live c (Ok None) reads h = h
front_live c (Ok (Some (line, rest))) reads h = line_live c (response_of line) reads h
front_live c (Err FramingFault.LineTooLong) reads h = faulted_live c Cause.LineTooLong h
front_live c (Err FramingFault.BadByte) reads h = faulted_live c Cause.BadByte h

-- ---- what is written

running_on : (c : Client) → c.state ≡ State.Running → IsSteady c → c.on ≡ true
running_on c running h = subst (λ (s : State). FitsState s c.on) running h.connected

-- a command is due only where fewer than the window are open
due_fewer : (window open_now : ℕ) (l : List Planned) → is_some (first_due window open_now l) ≡ true → open_now < window
due_fewer window open_now [] e = absurd (false≢true e)
due_fewer window open_now (p ∷ ps) e = go (may_go window open_now p.command) refl e
  where
    go : (b : Bool) → may_go window open_now p.command ≡ b → is_some (cond b (Some p) None) ≡ true → open_now < window
    go true may is = ltb-true open_now window (both (nat_lt open_now window) _ may).0
    go false never is = absurd (false≢true is)

may_fewer : (c : Client) → is_some (due c) ≡ true → count_open c.table.standard < c.window
may_fewer c e = go (is_running c.state && not (is_asking c.table.standard)) e
  where
    go : (b : Bool) → is_some (cond b (first_due c.window (count_open c.table.standard) c.table.tally.unsent) None) ≡ true
        → count_open c.table.standard < c.window
    go true is = due_fewer c.window (count_open c.table.standard) c.table.tally.unsent is
    go false is = absurd (false≢true is)

open_more : (hs : List OpenCommand) (x : OpenCommand) → count_open (hs ++ x ∷ []) ≤ suc (count_open hs)
open_more [] x = go (is_failed x.stage)
  where
    go : (b : Bool) → cond b 0 1 ≤ 1
    go true = omega (arith)
    go false = omega (arith)
open_more (h ∷ hs) x = go (is_failed h.stage) (open_more hs x)
  where
    go : (b : Bool) → count_open (hs ++ x ∷ []) ≤ suc (count_open hs)
        → cond b (count_open (hs ++ x ∷ [])) (suc (count_open (hs ++ x ∷ []))) ≤ suc (cond b (count_open hs) (suc (count_open hs)))
    go true e = e
    go false e = omega (arith, e)

sends_steady : (c : Client) (l : List Planned) (number : Option ℕ) → c.state ≡ State.Running → count_open c.table.standard < c.window
    → IsSteady c → IsSteady (sends_next c l number).client
sends_steady c [] number running fewer h = h
sends_steady c (q ∷ qs) None running fewer h = faulted_steady c Cause.TagsSpent (running_on c running h) h
sends_steady c (q ∷ qs) (Some n) running fewer h =
    let more = open_more c.table.standard (held_now (Tag.Std n) (kind_of q.command)) in
    record {
      connected = h.connected;
      cause = h.cause;
      some = h.some;
      few = h.few;
      last = h.last;
      numbered = h.numbered;
      opened = omega (arith, fewer, more);
    }

-- in the states in which it may abort
record Aborts (c : Client) : Type 0 where
  on : c.on ≡ true
  awake : is_faulted c.state ≡ false

aborts_by : (c : Client) (s : State) → c.state ≡ s → may_abort s ≡ true → FitsState s c.on → Aborts c
aborts_by c State.Apart is e h = absurd (false≢true e)
aborts_by c State.Running is e h = record { on = h; awake = ap is_faulted is }
aborts_by c State.Failing is e h = record { on = h; awake = ap is_faulted is }
aborts_by c State.Aborting is e h = absurd (false≢true e)
aborts_by c State.Halted is e h = absurd (false≢true e)
aborts_by c State.Done is e h = absurd (false≢true e)
aborts_by c State.Faulted is e h = absurd (false≢true e)

aborts_steady : (c : Client) (number : Option ℕ) → Aborts c → IsSteady c → IsSteady (sends_abort c number).client
aborts_steady c None a h = faulted_steady c Cause.TagsSpent (Aborts.on a) h
aborts_steady c (Some n) a h = record {
  connected = Aborts.on a;
  cause = h.cause
      ∙ Aborts.awake a;
  some = h.some;
  few = h.few;
  last = h.last;
  numbered = h.numbered;
  opened = h.opened;
}

-- ---- the connection

connected_steady : (n : ℕ) (c : Client) → may_connect n c ≡ true → IsSteady c → IsSteady (client_connected n c)
connected_steady n c may h =
    let some = h.some in
    let numbers = both (nat_lt c.last n) _ (both (clients.is_apart c.state) _ may).1 in
    let above : c.last < n = ltb-true c.last n numbers.0 in
    record {
      connected = refl;
      cause = refl;
      some = some;
      few = h.few;
      last = leb-true n connection_most numbers.1;
      numbered = λ on. omega (arith, above);
      opened = omega (arith);
    }

resumed_steady : (c : Client) → c.state ≡ State.Halted → IsSteady c → IsSteady (client_resumed c)
resumed_steady c halted h =
    record {
      connected = subst (λ (s : State). FitsState s c.on) halted h.connected;
      cause = h.cause
          ∙ ap is_faulted halted;
      some = h.some;
      few = h.few;
      last = h.last;
      numbered = h.numbered;
      opened = h.opened;
    }

left_fits : (s : State) → FitsState (left_state s) false
left_fits State.Done = tt
left_fits State.Apart = refl
left_fits State.Running = refl
left_fits State.Failing = refl
left_fits State.Aborting = refl
left_fits State.Halted = refl
left_fits State.Faulted = refl

left_awake : (s : State) → false ≡ is_faulted (left_state s)
left_awake State.Done = refl
left_awake State.Apart = refl
left_awake State.Running = refl
left_awake State.Failing = refl
left_awake State.Aborting = refl
left_awake State.Halted = refl
left_awake State.Faulted = refl

left_steady : (c : Client) → IsSteady c → IsSteady (client_left c)
left_steady c h = record {
  connected = left_fits c.state;
  cause = left_awake c.state;
  some = h.some;
  few = h.few;
  last = h.last;
  numbered = λ on. absurd (false≢true on);
  opened = h.opened;
}

pub new_steady : (p : Meaning) (fs : List Feature) (window : ℕ) → 1 ≤ window → window ≤ 16 → IsSteady (new_client p fs window)
new_steady p fs window some few = record {
  connected = refl;
  cause = refl;
  some = some;
  few = few;
  last = omega (arith);
  numbered = λ on. absurd (false≢true on);
  opened = omega (arith);
}

restarted_steady : (k : ℕ) (c : Client) → IsSteady c → IsSteady (client_restarted k c)
restarted_steady k c h = record {
  connected = refl;
  cause = refl;
  some = h.some;
  few = h.few;
  last = h.last;
  numbered = λ on. absurd (false≢true on);
  opened = omega (arith);
}

-- ---- with its bytes

pub record IsSound (e : ClientEnd) : Type 0 where
  pub steady : IsSteady e.client
  pub quiet : e.client.on ≡ false → IsQuiet e
  pub unmet : is_faulted e.client.state ≡ false → e.input.fault ≡ None

-- on a connection it may hold anything
live_sound : (e : ClientEnd) → e.client.on ≡ true → IsSteady e.client → (is_faulted e.client.state ≡ false → e.input.fault ≡ None)
    → IsSound e
live_sound e on steady unmet = record { steady = steady; quiet = λ off. absurd (false≢true (sym off ∙ on)); unmet = unmet }

sends_on : (c : Client) (l : List Planned) (number : Option ℕ) → (sends_next c l number).client.on ≡ c.on
sends_on c [] number = refl
sends_on c (q ∷ qs) None = refl
sends_on c (q ∷ qs) (Some n) = refl

aborts_on : (c : Client) (number : Option ℕ) → (sends_abort c number).client.on ≡ c.on
aborts_on c None = refl
aborts_on c (Some n) = refl

fed_unmet : (fault : Option FramingFault) (rest piece : List ℕ) → fault ≡ None → (fed_behind fault rest piece).fault ≡ None
fed_unmet None rest piece e = refl
fed_unmet (Some fault) rest piece e = e

read_unmet : (e : ClientEnd) (f : Front) → next_of e.input.rest ≡ f → e.input.fault ≡ None
    → is_faulted (front_read e.client f).state ≡ false → (left_by f e.input).fault ≡ None
read_unmet e (Ok None) is none awake = none
read_unmet e (Ok (Some (line, rest))) is none awake = none
read_unmet e (Err FramingFault.LineTooLong) is none awake = absurd (false≢true (sym awake))
read_unmet e (Err FramingFault.BadByte) is none awake = absurd (false≢true (sym awake))

drop_none : (k : ℕ) (none : List ℕ) → none ≡ [] → drop k none ≡ []
drop_none zero none e = e
drop_none (suc k) [] e = refl
drop_none (suc k) (x ∷ xs) e = absurd (cc)

done_sound : (call : Call) (e : ClientEnd) → possible call e ≡ true → IsSound e → IsSound (done_by call e)
done_sound (Connected n) e may h = live_sound (done_by (Connected n) e) refl
    (connected_steady n e.client may (IsSound.steady h)) (λ awake. refl)
done_sound Send e may h =
    let now : IsDue e.client = due_running e.client may in
    let running : e.client.state ≡ State.Running = now.running in
    let number : Option ℕ = next_number Tag.Std e.client.table.standard e.client.drawn in
    live_sound (done_by Send e)
    (sends_on e.client e.client.table.tally.unsent number ∙ running_on e.client running (IsSound.steady h))
    (sends_steady e.client e.client.table.tally.unsent number running (may_fewer e.client may) (IsSound.steady h))
    (λ awake. IsSound.unmet h (ap is_faulted running))
done_sound (Feed bytes) e may h =
    let r : Reads e.client = reads_by e.client may in
    live_sound (done_by (Feed bytes) e) (Reads.on r) (IsSound.steady h)
    (λ awake. fed_unmet e.input.fault e.input.rest bytes (IsSound.unmet h (Reads.awake r)))
done_sound ReadOne e may h =
    let r : Reads e.client = reads_by e.client may in
    let l : IsLive (front_read e.client (next_of e.input.rest)) =
    front_live e.client (next_of e.input.rest) r (record { steady = IsSound.steady h; on = Reads.on r }) in
    live_sound (done_by ReadOne e) (IsLive.on l) (IsLive.steady l)
    (read_unmet e (next_of e.input.rest) refl (IsSound.unmet h (Reads.awake r)))
done_sound Abort e may h =
    let a : Aborts e.client = aborts_by e.client e.client.state refl may (IsSteady.connected (IsSound.steady h)) in
    let number : Option ℕ = next_number Tag.Event e.client.table.event e.client.event_drawn in
    live_sound (done_by Abort e) (aborts_on e.client number
    ∙ Aborts.on a) (aborts_steady e.client number a (IsSound.steady h)) (λ awake. IsSound.unmet h (Aborts.awake a))
done_sound Resume e may h =
    let halted : e.client.state ≡ State.Halted = resumed_state e.client e.client.state may in
    live_sound (done_by Resume e) (subst (λ (s : State). FitsState s e.client.on) halted (IsSteady.connected (IsSound.steady h)))
    (resumed_steady e.client halted (IsSound.steady h)) (λ awake. IsSound.unmet h (ap is_faulted halted))
done_sound Leave e may h =
    record {
      steady = left_steady e.client (IsSound.steady h);
      quiet = λ off. record { input = refl; out = refl; points = refl };
      unmet = λ awake. refl;
    }
done_sound (Restart k) e may h =
    record {
      steady = restarted_steady k e.client (IsSound.steady h);
      quiet = λ off. record { input = refl; out = refl; points = refl };
      unmet = λ awake. refl;
    }
done_sound (Sent k) e may h =
    record {
      steady = IsSound.steady h;
      quiet = λ off. let q : IsQuiet e = IsSound.quiet h off in
          record { input = q.input; out = drop_none k e.out q.out; points = q.points };
      unmet = IsSound.unmet h;
    }

call_sound : (call : Call) (e : ClientEnd) → IsSound e → IsSound (behind_call call e)
call_sound call e h = go (possible call e) refl
  where
    go : (b : Bool) → possible call e ≡ b → IsSound (cond b (done_by call e) e)
    go true may = done_sound call e may h
    go false never = h

calls_sound : (calls : List Call) (e : ClientEnd) → IsSound e → IsSound (behind_calls calls e)
calls_sound [] e h = h
calls_sound (call ∷ calls) e h = calls_sound calls (behind_call call e) (call_sound call e h)

new_sound : (p : Meaning) (fs : List Feature) (window : ℕ) → 1 ≤ window → window ≤ 16 → IsSound (new_client_end p fs window)
new_sound p fs window some few =
    record {
      steady = new_steady p fs window some few;
      quiet = λ off. record { input = refl; out = refl; points = refl };
      unmet = λ awake. refl;
    }

pub sound : (e : ClientEnd) → IsReached e → IsSound e
sound e h = subst IsSound (sym h.reached) (calls_sound h.calls (new_client_end h.program h.kept h.window)
    (new_sound h.program h.kept h.window h.some h.few))
