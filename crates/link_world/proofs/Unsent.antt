-- The events of a quiet round leave no more to be sent, and a command that is sent leaves less.
use Rattle.link_world.proofs.Names.{[], ◌&&◌, ◌++◌, ◌<◌, ◌∙◌, ◌∷◌, ◌≡◌, ◌≢◌, ◌≤◌, after, ap, arith, Bool, can, Cause, Client, client_hears}
use Rattle.link_world.proofs.Names.{client_read, cond, counted_next, Datum, Effect, Err, Event, false, false≢true, faulted, first_due, FramingFault}
use Rattle.link_world.proofs.Names.{Front, front_read, given_for, given_homed, given_point, given_under, happens, Heard, heard_event, heard_in}
use Rattle.link_world.proofs.Names.{heard_on, heard_standard, held_under, homed_of, inl, inr, is_homing, is_some, Kind, length, line_read, List}
use Rattle.link_world.proofs.Names.{measured, next_number, next_of, None, not, NotHomedText, NotPoint, NotResponse, Ok, Option, Planned, Point}
use Rattle.link_world.proofs.Names.{point_of, refl, Response, response_of, response_read, Result, run_of, sends_next, Some, State, subst, suc, sym}
use Rattle.link_world.proofs.Names.{Table, Tag, tag_is, tallied, Tally, tells_homed, true, Wanted, without_homing, World, ℕ}
use Rattle.dme_line.specs.declared.responses.Mark.{Mark as Marked}
use Rattle.protocol_model.specs.Replies.{Mark}
use Rattle.protocol_model.specs.Client.{passed_over}
use Rattle.protocol_model.specs.declared.plans.Does.{Does}
use Rattle.link_world.proofs.EventsLeft.{due_there}

-- how many commands are not sent yet
abbrev pub unsent : World → ℕ
unsent w = length w.client.client.table.tally.unsent

-- a second client has no more of them than a first, and has the number of the same connection
pub record Few (c d : Client) : Type 0 where
  pub unsent : length d.table.tally.unsent ≤ length c.table.tally.unsent
  pub last : d.last ≡ c.last

same_few : (n : ℕ) → n ≤ n
same_few n = omega arith

-- ---- counting

without_few : (ps : List Planned) → length (without_homing ps) ≤ length ps
without_few [] = omega arith
without_few (p ∷ ps) = go (is_homing p.command)
  where
    go : (b : Bool) → length (cond b ps (p ∷ ps)) ≤ suc (length ps)
    go true = omega arith
    go false = omega arith

passed_few : (b : Bool) (ps : List Planned) → length (passed_over b ps) ≤ length ps
passed_few true ps = without_few ps
passed_few false ps = same_few (length ps)

measured_same : (ws : List Wanted) (does : Does) (given : Option Datum) (y : Tally) → (measured ws does given y).unsent ≡ y.unsent
measured_same ws (Does.Touches t false) (Some (Datum.Point p)) y = refl
measured_same ws (Does.Touches t true) (Some (Datum.Point p)) y = refl
measured_same ws (Does.Touches t false) (Some (Datum.Homed b)) y = refl
measured_same ws (Does.Touches t true) (Some (Datum.Homed b)) y = refl
measured_same ws (Does.Touches t false) None y = refl
measured_same ws (Does.Touches t true) None y = refl
measured_same ws Does.Nothing given y = refl
measured_same ws Does.AsksHomed given y = refl
measured_same ws Does.Homes given y = refl
measured_same ws (Does.Moves p f) given y = refl
measured_same ws (Does.Changes n) given y = refl
measured_same ws (Does.Frames f) given y = refl

counted_few : (ws : List Wanted) (k : Kind) (given : Option Datum) (todo : List Planned) (y : Tally)
    → length (counted_next ws k given todo y).unsent ≤ length y.unsent
counted_few ws k given [] y = same_few (length y.unsent)
counted_few ws k given (p ∷ todo) y =
    subst (λ (ps : List Planned). length ps ≤ length y.unsent) (sym (measured_same ws p.does given _))
    (passed_few (tells_homed k given) y.unsent)

tallied_few : (ws : List Wanted) (effect : Effect) (y : Tally) → length (tallied ws effect y).unsent ≤ length y.unsent
tallied_few ws Effect.Quiet y = same_few (length y.unsent)
tallied_few ws Effect.Failure y = same_few (length y.unsent)
tallied_few ws (Effect.Count k given) y = counted_few ws k given y.todo y

-- ---- reading

-- a table that a reply leaves has no more of them, if it leaves one
abbrev FewIn : Table → Result Table Cause → Type 0
FewIn b (Ok d) = length d.tally.unsent ≤ length b.tally.unsent
FewIn b (Err cause) = Unit {0}

standard_few : (ws : List Wanted) (b : Table) (h : Heard) → FewIn b (heard_standard ws b h)
standard_few ws b (Ok (hs, effect)) = tallied_few ws effect b.tally
standard_few ws b (Err cause) = tt

event_few : (b : Table) (h : Heard) → FewIn b (heard_event b h)
event_few b (Ok (hs, effect)) = same_few (length b.tally.unsent)
event_few b (Err cause) = tt

heard_few : (ws : List Wanted) (b : Table) (t : Tag) (m : Mark) → FewIn b (heard_on ws b t m)
heard_few ws b (Tag.Std n) m = standard_few ws b (heard_in (not b.tally.failed) b.standard (Tag.Std n) m)
heard_few ws b (Tag.Event n) m = event_few b (heard_in true b.event (Tag.Event n) m)

hears_few : (c : Client) (t : Tag) (m : Mark) (r : Result Table Cause) → FewIn c.table r → Few c (client_hears c t m r)
hears_few c t m (Ok b) h = record { unsent = h; last = refl }
hears_few c t m (Err cause) h = record { unsent = same_few (length c.table.tally.unsent); last = refl }

none_more : (c : Client) → Few c c
none_more c = record { unsent = same_few (length c.table.tally.unsent); last = refl }

given_up : (c : Client) (cause : Cause) → Few c (faulted cause c)
given_up c cause = record { unsent = same_few (length c.table.tally.unsent); last = refl }

one_of : (c : Client) (b : Bool) (d e : Client) → Few c d → Few c e → Few c (cond b d e)
one_of c true d e p q = p
one_of c false d e p q = q

read_few : (c : Client) (t : Tag) (m : Mark) → Few c (client_read c t m)
read_few c t m = one_of c (tag_is t (Tag.Event 0)) c (client_hears c t m (heard_on c.program.features c.table t m)) (none_more c)
    (hears_few c t m (heard_on c.program.features c.table t m) (heard_few c.program.features c.table t m))

point_few : (c : Client) (t : Tag) (r : Result Point NotPoint) → Few c (given_point c t r)
point_few c t (Ok p) = read_few c t (Mark.Given (Datum.Point p))
point_few c t (Err why) = given_up c _

homed_few : (c : Client) (t : Tag) (r : Result Bool NotHomedText) → Few c (given_homed c t r)
homed_few c t (Ok homed) = read_few c t (Mark.Given (Datum.Homed homed))
homed_few c t (Err why) = given_up c _

for_few : (c : Client) (t : Tag) (text : List ℕ) (k : Kind) → Few c (given_for c t text k)
for_few c t text Kind.PtMeas = point_few c t (point_of text)
for_few c t text Kind.IsHomed = homed_few c t (homed_of text)
for_few c t text Kind.StartSession = given_up c _
for_few c t text Kind.EndSession = given_up c _
for_few c t text Kind.ClearAllErrors = given_up c _
for_few c t text Kind.Home = given_up c _
for_few c t text Kind.OnPtMeasReport = given_up c _
for_few c t text Kind.GoTo = given_up c _
for_few c t text Kind.ChangeTool = given_up c _
for_few c t text Kind.SetCsyTransformation = given_up c _
for_few c t text Kind.SetCoordSystem = given_up c _
for_few c t text Kind.AbortE = given_up c _

under_few : (c : Client) (t : Tag) (text : List ℕ) (kind : Option Kind) → Few c (given_under c t text kind)
under_few c t text None = given_up c _
under_few c t text (Some k) = for_few c t text k

response_few : (c : Client) (t : Tag) (m : Marked) → Few c (response_read c t m)
response_few c t Marked.Ack = read_few c t Mark.Ack
response_few c t (Marked.Given text) = one_of c (tag_is t (Tag.Event 0)) c (given_under c t text (held_under t c))
    (none_more c) (under_few c t text (held_under t c))
response_few c t Marked.Done = read_few c t Mark.Done
response_few c t (Marked.Error text) = read_few c t Mark.Error

line_few : (c : Client) (r : Result Response NotResponse) → Few c (line_read c r)
line_few c (Ok r) = response_few c r.tag r.mark
line_few c (Err refused) = given_up c _

pub front_few : (c : Client) (f : Front) → Few c (front_read c f)
front_few c (Ok None) = none_more c
front_few c (Ok (Some (line, rest))) = line_few c (response_of line)
front_few c (Err FramingFault.LineTooLong) = given_up c _
front_few c (Err FramingFault.BadByte) = given_up c _

-- ---- sending

sends_few : (c : Client) (ps : List Planned) (n : Option ℕ) → c.table.tally.unsent ≡ ps
    → length (sends_next c ps n).client.table.tally.unsent ≤ length c.table.tally.unsent
sends_few c [] n is = same_few (length c.table.tally.unsent)
sends_few c (p ∷ ps) None is = same_few (length c.table.tally.unsent)
sends_few c (p ∷ ps) (Some n) is = let long = ap length is in omega (arith, long)

sends_less : (c : Client) (b : Bool) (open_now : ℕ) (ps : List Planned) (n : Option ℕ) → c.table.tally.unsent ≡ ps
    → is_some (cond b (first_due c.window open_now ps) None) ≡ true → (sends_next c ps n).client.state ≢ State.Faulted
    → length (sends_next c ps n).client.table.tally.unsent < length c.table.tally.unsent
sends_less c b open_now [] n is may fine = absurd (due_there c.window open_now b may)
sends_less c b open_now (p ∷ ps) None is may fine = absurd (fine refl)
sends_less c b open_now (p ∷ ps) (Some n) is may fine = let long = ap length is in omega (arith, long)

-- ---- the events of a round

-- an event of which quiet rounds are made
abbrev pub is_calm : Event → Bool
is_calm Event.ClientSends = true
is_calm (Event.Up n) = true
is_calm Event.ServerReads = true
is_calm Event.ServerTurn = true
is_calm (Event.Machine o) = true
is_calm (Event.Down n) = true
is_calm Event.ClientReads = true
is_calm _ = false

abbrev pub AreCalm : List Event → Type 0
AreCalm [] = Unit {0}
AreCalm (e ∷ es) = (is_calm e ≡ true) × AreCalm es

happens_few : (e : Event) (w : World) → is_calm e ≡ true → unsent (happens e w) ≤ unsent w
happens_few Event.ClientSends w calm =
    sends_few w.client.client w.client.client.table.tally.unsent (next_number Tag.Std w.client.client.table.standard w.client.client.drawn) refl
happens_few (Event.Up n) w calm = same_few (unsent w)
happens_few Event.ServerReads w calm = same_few (unsent w)
happens_few Event.ServerTurn w calm = same_few (unsent w)
happens_few (Event.Machine o) w calm = same_few (unsent w)
happens_few (Event.Down n) w calm = same_few (unsent w)
happens_few Event.ClientReads w calm = (front_few w.client.client (next_of w.client.input.rest)).unsent
happens_few Event.Connect w calm = absurd (false≢true calm)
happens_few (Event.Accept n) w calm = absurd (false≢true calm)
happens_few Event.ClientLeaves w calm = absurd (false≢true calm)
happens_few Event.ServerLeaves w calm = absurd (false≢true calm)
happens_few Event.Abort w calm = absurd (false≢true calm)
happens_few Event.Resume w calm = absurd (false≢true calm)
happens_few (Event.ClientRestart n) w calm = absurd (false≢true calm)
happens_few Event.ServerRestart w calm = absurd (false≢true calm)

after_few : (e : Event) (w : World) (b : Bool) → is_calm e ≡ true
    → unsent (cond b (happens e w) w) ≤ unsent w
after_few e w true calm = happens_few e w calm
after_few e w false calm = same_few (unsent w)

pub run_few : (es : List Event) (w : World) → AreCalm es → unsent (run_of es w) ≤ unsent w
run_few [] w calm = same_few (unsent w)
run_few (e ∷ es) w calm =
    let one : unsent (after e w) ≤ unsent w = after_few e w (can e w) calm.0 in
    let more : unsent (run_of es (after e w)) ≤ unsent (after e w) = run_few es (after e w) calm.1 in
    omega (arith, one, more)

pub sent_less : (w : World) → can Event.ClientSends w ≡ true
    → (happens Event.ClientSends w).client.client.state ≢ State.Faulted
    → unsent (happens Event.ClientSends w) < unsent w
sent_less w may fine =
    sends_less w.client.client _ _ w.client.client.table.tally.unsent
    (next_number Tag.Std w.client.client.table.standard w.client.client.drawn) refl may fine
