-- No event changes the program or the window of the client.
use Rattle.protocol_model.proofs.Names.{[], ◌∙◌, ◌∷◌, ◌≡◌, ap, Bool, Cause, Client, client_hears, client_read, cond, Datum, Down, Err, false}
use Rattle.protocol_model.proofs.Names.{FramingFault, Front, front_read, given_for, given_homed, given_point, given_under, heard_on, held_under}
use Rattle.protocol_model.proofs.Names.{homed_of, Kind, line_read, List, Meaning, next_number, next_of, None, NotHomedText, NotPoint, NotResponse, Ok}
use Rattle.protocol_model.proofs.Names.{Option, Planned, Point, point_of, refl, Response, response_of, response_read, Result, sends_abort, sends_next}
use Rattle.protocol_model.proofs.Names.{Some, Table, Tag, tag_is, true, Up, ℕ}
use Rattle.dme_line.specs.declared.responses.Mark.{Mark as Marked}
use Rattle.protocol_model.specs.Replies.{Mark}
use Rattle.protocol_model.specs.World.{after, can, happens, run_of, World}
use Rattle.protocol_model.specs.declared.events.Event.{Event}
use Rattle.protocol_model.specs.declared.events.Event.TheVariants.{Accept, ClientSends, Connect, Machine, ServerReads, ServerTurn}
use Rattle.protocol_model.specs.declared.events.Event.TheVariants.{Abort, ClientLeaves, ClientReads, ClientRestart, Resume, ServerLeaves}
use Rattle.protocol_model.specs.declared.events.Event.TheVariants.{ServerRestart}

-- what no event changes
abbrev kept : Client → Meaning × ℕ
kept c = (c.program, c.window)

-- two clients with one program and one window
abbrev Same : Client → Client → Type 0
Same c d = kept d ≡ kept c

sends_same : (c : Client) (ps : List Planned) (n : Option ℕ) → Same c (sends_next c ps n).client
sends_same c [] n = refl
sends_same c (p ∷ ps) None = refl
sends_same c (p ∷ ps) (Some n) = refl

aborts_same : (c : Client) (n : Option ℕ) → Same c (sends_abort c n).client
aborts_same c None = refl
aborts_same c (Some n) = refl

hears_same : (c : Client) (t : Tag) (m : Mark) (r : Result Table Cause) → Same c (client_hears c t m r)
hears_same c t m (Ok b) = refl
hears_same c t m (Err cause) = refl

one_of : (c : Client) (b : Bool) (d e : Client) → Same c d → Same c e → Same c (cond b d e)
one_of c true d e p q = p
one_of c false d e p q = q

read_same : (c : Client) (t : Tag) (m : Mark) → Same c (client_read c t m)
read_same c t m = one_of c (tag_is t (Tag.Event 0)) c (client_hears c t m (heard_on c.program.features c.table t m)) refl
    (hears_same c t m (heard_on c.program.features c.table t m))

point_same : (c : Client) (t : Tag) (r : Result Point NotPoint) → Same c (given_point c t r)
point_same c t (Ok p) = read_same c t (Mark.Given (Datum.Point p))
point_same c t (Err why) = refl

homed_same : (c : Client) (t : Tag) (r : Result Bool NotHomedText) → Same c (given_homed c t r)
homed_same c t (Ok homed) = read_same c t (Mark.Given (Datum.Homed homed))
homed_same c t (Err why) = refl

for_same : (c : Client) (t : Tag) (text : List ℕ) (k : Kind) → Same c (given_for c t text k)
for_same c t text Kind.PtMeas = point_same c t (point_of text)
for_same c t text Kind.IsHomed = homed_same c t (homed_of text)
for_same c t text Kind.StartSession = refl
for_same c t text Kind.EndSession = refl
for_same c t text Kind.ClearAllErrors = refl
for_same c t text Kind.Home = refl
for_same c t text Kind.OnPtMeasReport = refl
for_same c t text Kind.GoTo = refl
for_same c t text Kind.ChangeTool = refl
for_same c t text Kind.SetCsyTransformation = refl
for_same c t text Kind.SetCoordSystem = refl
for_same c t text Kind.AbortE = refl

under_same : (c : Client) (t : Tag) (text : List ℕ) (kind : Option Kind) → Same c (given_under c t text kind)
under_same c t text None = refl
under_same c t text (Some k) = for_same c t text k

response_same : (c : Client) (t : Tag) (m : Marked) → Same c (response_read c t m)
response_same c t Marked.Ack = read_same c t Mark.Ack
response_same c t (Marked.Given text) = one_of c (tag_is t (Tag.Event 0)) c (given_under c t text (held_under t c)) refl
    (under_same c t text (held_under t c))
response_same c t Marked.Done = read_same c t Mark.Done
response_same c t (Marked.Error text) = read_same c t Mark.Error

line_same : (c : Client) (r : Result Response NotResponse) → Same c (line_read c r)
line_same c (Ok r) = response_same c r.tag r.mark
line_same c (Err refused) = refl

front_same : (c : Client) (f : Front) → Same c (front_read c f)
front_same c (Ok None) = refl
front_same c (Ok (Some (line, rest))) = line_same c (response_of line)
front_same c (Err FramingFault.LineTooLong) = refl
front_same c (Err FramingFault.BadByte) = refl

happens_same : (e : Event) (b : World) → Same b.client.client (happens e b).client.client
happens_same Connect b = refl
happens_same (Accept n) b = refl
happens_same ClientSends b = sends_same b.client.client b.client.client.table.tally.unsent
    (next_number Tag.Std b.client.client.table.standard b.client.client.drawn)
happens_same (Up k) b = refl
happens_same ServerReads b = refl
happens_same ServerTurn b = refl
happens_same (Machine outcome) b = refl
happens_same (Down k) b = refl
happens_same ClientReads b = front_same b.client.client (next_of b.client.input.rest)
happens_same ClientLeaves b = refl
happens_same ServerLeaves b = refl
happens_same Abort b = aborts_same b.client.client (next_number Tag.Event b.client.client.table.event b.client.client.event_drawn)
happens_same Resume b = refl
happens_same (ClientRestart k) b = refl
happens_same ServerRestart b = refl

after_same : (e : Event) (b : World) (t : Bool) → Same b.client.client (cond t (happens e b) b).client.client
after_same e b true = happens_same e b
after_same e b false = refl

runs_same : (es : List Event) (b : World) → Same b.client.client (run_of es b).client.client
runs_same [] b = refl
runs_same (e ∷ es) b = runs_same es (after e b) ∙ after_same e b (can e b)

-- after any list of events the client has the program that it had before
pub run_same : (es : List Event) (b : World) → (run_of es b).client.client.program ≡ b.client.client.program
run_same es b = ap (λ (k : Meaning × ℕ). k.0) (runs_same es b)

-- and as many commands may be open as before
pub run_window : (es : List Event) (b : World) → (run_of es b).client.client.window ≡ b.client.client.window
run_window es b = ap (λ (k : Meaning × ℕ). k.1) (runs_same es b)
