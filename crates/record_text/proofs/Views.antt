-- What the reported acts of a client depend on, and the acts that are reported between two such views.
use Rattle.record_text.proofs.RunNames.{[], ◌++◌, ◌∙◌, ◌∷◌, ◌≡◌, Act, ap, append-nil, Bool, Client, client_hears, client_read, cond, Datum, drop}
use Rattle.record_text.proofs.RunNames.{drop-length, drop-nil, ends_abort, Err, false, faulted, Feature, fine, Front, front_read, given_for, given_homed}
use Rattle.record_text.proofs.RunNames.{given_point, given_under, heard, heard_on, held_under, Kind, length, line_read, List, Meaning, None, NotResponse}
use Rattle.record_text.proofs.RunNames.{numbered, Ok, Option, Planned, Point, refl, Response, response_read, Result, sends_abort, sends_next, Some}
use Rattle.record_text.proofs.RunNames.{state_behind, subst, sym, Table, Tag, Tally, true, ℕ}
use Rattle.dme_line.specs.declared.homed.NotHomedText.{NotHomedText}
use Rattle.dme_line.specs.declared.points.NotPoint.{NotPoint}
use Rattle.dme_line.specs.declared.responses.Mark.{Mark as Marked}
use Rattle.protocol_model.specs.Readings.{homed_of, point_of, response_of}
use Rattle.protocol_model.specs.Replies.{Mark, tag_is}
use Rattle.protocol_model.specs.declared.states.State.{State}
use Rattle.protocol_model.specs.declared.states.Cause.{Cause}
use Rattle.protocol_model.proofs.table.Basics.{if_false}
use Rattle.line_framing.specs.declared.faults.FramingFault.{FramingFault}

-- a client's program, whether it is on a connection, its last number, and its tally without what is unsent and failed
pub record View : Type 0 where
  pub program : Meaning
  pub on : Bool
  pub last : ℕ
  pub connection : ℕ
  pub todo : List Planned
  pub counted : List Act
  pub points : List Point
  pub features : List Feature

abbrev pub view_by : Meaning → Bool → ℕ → Tally → View
view_by p on last y = record {
  program = p;
  on = on;
  last = last;
  connection = y.connection;
  todo = y.todo;
  counted = y.counted;
  points = y.points;
  features = y.features;
}

abbrev pub view : Client → View
view c = view_by c.program c.on c.last c.table.tally

-- the acts that are reported between two views
abbrev pub told_to : View → View → List (ℕ × Act)
told_to v w = numbered w.connection (drop (length v.counted) w.counted)

-- if nothing more is counted, none
pub none_told : (n : ℕ) (acts : List Act) → numbered n (drop (length acts) acts) ≡ []
none_told n acts = ap (numbered n) (drop-length acts)

-- nor if the list of counted acts begins again
pub none_anew : (n : ℕ) (acts : List Act) → numbered n (drop (length acts) []) ≡ []
none_anew n acts = ap (numbered n) (drop-nil (length acts))

-- what holds of the reported acts holds with no further act
pub with_none : (P : List (ℕ × Act) → Type 0) (told more : List (ℕ × Act)) → more ≡ [] → P told → P (told ++ more)
with_none P told more none h = subst P (sym (ap (λ (l : List (ℕ × Act)). told ++ l) none ∙ append-nil told)) h

-- ---- what is written changes no view

pub sends_view : (c : Client) (l : List Planned) (number : Option ℕ) → view (sends_next c l number).client ≡ view c
sends_view c [] number = refl
sends_view c (q ∷ qs) None = refl
sends_view c (q ∷ qs) (Some n) = refl

pub aborts_view : (c : Client) (number : Option ℕ) → view (sends_abort c number).client ≡ view c
aborts_view c None = refl
aborts_view c (Some n) = refl

-- ---- what is read: nothing, a fault, or an expected reply

-- what holds of a client, of the client when Faulted, and of the client after each expected reply
pub record Throughout (c : Client) (P : Client → Type 0) : Type 0 where
  pub same : P c
  pub fault : (cause : Cause) → P (faulted cause c)
  pub reply : (t : Tag) (m : Mark) (b : Table) (s : State) → heard c.program.features c.table t m ≡ fine b
      → P (record c { table = b; state = s })

hears_all : (c : Client) (P : Client → Type 0) → Throughout c P → (t : Tag) (m : Mark) (r : Result Table Cause)
    → heard c.program.features c.table t m ≡ r → P (client_hears c t m r)
hears_all c P h t m (Ok b) is = h.reply t m b (state_behind c.state (ends_abort c.abort t m) b) is
hears_all c P h t m (Err cause) is = h.fault cause

reply_all : (c : Client) (P : Client → Type 0) → Throughout c P → (t : Tag) (m : Mark) → P (client_read c t m)
reply_all c P h t m = go (tag_is t (Tag.Event 0)) refl
  where
    go : (b : Bool) → tag_is t (Tag.Event 0) ≡ b → P (cond b c (client_hears c t m (heard_on c.program.features c.table t m)))
    go true e = h.same
    go false e = hears_all c P h t m (heard_on c.program.features c.table t m)
        (if_false {A = Result Table Cause} (tag_is t (Tag.Event 0)) (fine c.table) (heard_on c.program.features c.table t m) e)

either_all : (P : Client → Type 0) (b : Bool) (c d : Client) → P c → P d → P (cond b c d)
either_all P true c d h g = h
either_all P false c d h g = g

point_all : (c : Client) (P : Client → Type 0) → Throughout c P → (t : Tag) (r : Result Point NotPoint) → P (given_point c t r)
point_all c P h t (Ok q) = reply_all c P h t (Mark.Given (Datum.Point q))
point_all c P h t (Err why) = h.fault Cause.NotResponse

homed_all : (c : Client) (P : Client → Type 0) → Throughout c P → (t : Tag) (r : Result Bool NotHomedText) → P (given_homed c t r)
homed_all c P h t (Ok homed) = reply_all c P h t (Mark.Given (Datum.Homed homed))
homed_all c P h t (Err why) = h.fault Cause.NotResponse

given_all : (c : Client) (P : Client → Type 0) → Throughout c P → (t : Tag) (text : List ℕ) (k : Kind) → P (given_for c t text k)
given_all c P h t text Kind.PtMeas = point_all c P h t (point_of text)
given_all c P h t text Kind.IsHomed = homed_all c P h t (homed_of text)
given_all c P h t text Kind.StartSession = h.fault Cause.OutOfOrder
given_all c P h t text Kind.EndSession = h.fault Cause.OutOfOrder
given_all c P h t text Kind.ClearAllErrors = h.fault Cause.OutOfOrder
given_all c P h t text Kind.Home = h.fault Cause.OutOfOrder
given_all c P h t text Kind.OnPtMeasReport = h.fault Cause.OutOfOrder
given_all c P h t text Kind.GoTo = h.fault Cause.OutOfOrder
given_all c P h t text Kind.ChangeTool = h.fault Cause.OutOfOrder
given_all c P h t text Kind.SetCsyTransformation = h.fault Cause.OutOfOrder
given_all c P h t text Kind.SetCoordSystem = h.fault Cause.OutOfOrder
given_all c P h t text Kind.AbortE = h.fault Cause.OutOfOrder

under_all : (c : Client) (P : Client → Type 0) → Throughout c P → (t : Tag) (text : List ℕ) (k : Option Kind)
    → P (given_under c t text k)
under_all c P h t text None = h.fault Cause.UnknownTag
under_all c P h t text (Some k) = given_all c P h t text k

response_all : (c : Client) (P : Client → Type 0) → Throughout c P → (t : Tag) (m : Marked) → P (response_read c t m)
response_all c P h t Marked.Ack = reply_all c P h t Mark.Ack
response_all c P h t (Marked.Given text) = either_all P (tag_is t (Tag.Event 0)) c (given_under c t text (held_under t c)) h.same
    (under_all c P h t text (held_under t c))
response_all c P h t Marked.Done = reply_all c P h t Mark.Done
response_all c P h t (Marked.Error text) = reply_all c P h t Mark.Error

line_all : (c : Client) (P : Client → Type 0) → Throughout c P → (r : Result Response NotResponse) → P (line_read c r)
line_all c P h (Ok r) = response_all c P h r.tag r.mark
line_all c P h (Err refused) = h.fault Cause.NotResponse

-- what is at the start of the bytes is read
pub read_all : (c : Client) (P : Client → Type 0) → Throughout c P → (f : Front) → P (front_read c f)
read_all c P h (Ok None) = h.same
read_all c P h (Ok (Some (line, rest))) = line_all c P h (response_of line)
read_all c P h (Err FramingFault.LineTooLong) = h.fault Cause.LineTooLong
read_all c P h (Err FramingFault.BadByte) = h.fault Cause.BadByte
