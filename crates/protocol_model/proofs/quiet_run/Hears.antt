-- What a client becomes by what it reads: itself, Faulted, or what one reply makes of it.
use Rattle.protocol_model.proofs.Names.{◌≡◌, ◌≤◌, arith, Bool, Cause, Client, client_hears, client_read, cond, Datum, Err, false, faulted}
use Rattle.protocol_model.proofs.Names.{FramingFault, Front, front_read, given_for, given_homed, given_point, given_under, heard_on, held_under}
use Rattle.protocol_model.proofs.Names.{homed_of, Kind, length, line_read, List, None, NotHomedText, NotPoint, NotResponse, Ok, Option, Planned}
use Rattle.protocol_model.proofs.Names.{Point, point_of, refl, Response, response_of, response_read, Result, Some, Table, Tag, tag_is, true, ℕ}
use Rattle.dme_line.specs.declared.tags.Tag.TheVariants.{Event}
use Rattle.dme_line.specs.declared.responses.Mark.{Mark as Marked}
use Rattle.protocol_model.specs.Replies.{Mark}
use Rattle.protocol_model.proofs.HeardTables.{heard}
use Rattle.protocol_model.proofs.table.Basics.{if_false}
use Rattle.protocol_model.proofs.table.Replying.{fine}
use Rattle.protocol_model.proofs.table.Asking.{step_leaves}
use Rattle.protocol_model.proofs.plan.PassedOver.{passes}

-- what holds of a client, of the client when Faulted, and of the client after each expected reply
pub record Closed (c : Client) (P : Client → Type 0) : Type 0 where
  pub same : P c
  pub fault : (cause : Cause) → P (faulted cause c)
  pub hears : (t : Tag) (m : Mark) (b : Table) → heard c.program.features c.table t m ≡ fine b → P (client_hears c t m (Ok b))

read_cases : (c : Client) (t : Tag) (m : Mark) (P : Client → Type 0) → Closed c P → P (client_read c t m)
read_cases c t m P k = go (tag_is t (Event 0)) refl
  where
    by : (r : Result Table Cause) → heard c.program.features c.table t m ≡ r → P (client_hears c t m r)
    by (Ok b) e = k.hears t m b e
    by (Err cause) e = k.fault cause

    go : (z : Bool) → tag_is t (Event 0) ≡ z → P (cond z c (client_hears c t m (heard_on c.program.features c.table t m)))
    go true e = k.same
    go false e = by (heard_on c.program.features c.table t m)
        (if_false {A = Result Table Cause} (tag_is t (Event 0)) (fine c.table) (heard_on c.program.features c.table t m) e)

either : (P : Client → Type 0) (b : Bool) (x y : Client) → P x → P y → P (cond b x y)
either P true x y p q = p
either P false x y p q = q

point_cases : (c : Client) (t : Tag) (r : Result Point NotPoint) (P : Client → Type 0) → Closed c P → P (given_point c t r)
point_cases c t (Ok p) P k = read_cases c t (Mark.Given (Datum.Point p)) P k
point_cases c t (Err why) P k = k.fault Cause.NotResponse

homed_cases : (c : Client) (t : Tag) (r : Result Bool NotHomedText) (P : Client → Type 0) → Closed c P → P (given_homed c t r)
homed_cases c t (Ok homed) P k = read_cases c t (Mark.Given (Datum.Homed homed)) P k
homed_cases c t (Err why) P k = k.fault Cause.NotResponse

for_cases : (c : Client) (t : Tag) (text : List ℕ) (x : Kind) (P : Client → Type 0) → Closed c P
    → P (given_for c t text x)
for_cases c t text Kind.PtMeas P k = point_cases c t (point_of text) P k
for_cases c t text Kind.IsHomed P k = homed_cases c t (homed_of text) P k
for_cases c t text Kind.StartSession P k = k.fault Cause.OutOfOrder
for_cases c t text Kind.EndSession P k = k.fault Cause.OutOfOrder
for_cases c t text Kind.ClearAllErrors P k = k.fault Cause.OutOfOrder
for_cases c t text Kind.Home P k = k.fault Cause.OutOfOrder
for_cases c t text Kind.OnPtMeasReport P k = k.fault Cause.OutOfOrder
for_cases c t text Kind.GoTo P k = k.fault Cause.OutOfOrder
for_cases c t text Kind.ChangeTool P k = k.fault Cause.OutOfOrder
for_cases c t text Kind.SetCsyTransformation P k = k.fault Cause.OutOfOrder
for_cases c t text Kind.SetCoordSystem P k = k.fault Cause.OutOfOrder
for_cases c t text Kind.AbortE P k = k.fault Cause.OutOfOrder

under_cases : (c : Client) (t : Tag) (text : List ℕ) (held : Option Kind) (P : Client → Type 0) → Closed c P
    → P (given_under c t text held)
under_cases c t text None P k = k.fault Cause.UnknownTag
under_cases c t text (Some x) P k = for_cases c t text x P k

response_cases : (c : Client) (t : Tag) (m : Marked) (P : Client → Type 0) → Closed c P
    → P (response_read c t m)
response_cases c t Marked.Ack P k = read_cases c t Mark.Ack P k
response_cases c t (Marked.Given text) P k = either P (tag_is t (Event 0)) c (given_under c t text (held_under t c)) k.same
    (under_cases c t text (held_under t c) P k)
response_cases c t Marked.Done P k = read_cases c t Mark.Done P k
response_cases c t (Marked.Error text) P k = read_cases c t Mark.Error P k

line_cases : (c : Client) (r : Result Response NotResponse) (P : Client → Type 0) → Closed c P
    → P (line_read c r)
line_cases c (Ok r) P k = response_cases c r.tag r.mark P k
line_cases c (Err refused) P k = k.fault Cause.NotResponse

-- so it holds of the client after whatever it reads
pub front_cases : (c : Client) (f : Front) (P : Client → Type 0) → Closed c P → P (front_read c f)
front_cases c (Ok None) P k = k.same
front_cases c (Ok (Some (line, rest))) P k = line_cases c (response_of line) P k
front_cases c (Err FramingFault.LineTooLong) P k = k.fault Cause.LineTooLong
front_cases c (Err FramingFault.BadByte) P k = k.fault Cause.BadByte

-- ---- what a client that reads has not sent

-- what it reads adds nothing to what is unsent
pub reads_unsent : (c : Client) (f : Front) (most : ℕ) → length c.table.tally.unsent ≤ most
    → length (front_read c f).table.tally.unsent ≤ most
reads_unsent c f most h = front_cases c f (λ (d : Client). length d.table.tally.unsent ≤ most) (record {
  same = h;
  fault = λ cause. h;
  hears = λ t m b is. step_leaves c.program.features c.table t m b (λ (ps : List Planned). length ps ≤ most) is h
      (λ ps told le. passes (λ (qs : List Planned). length qs ≤ most) (λ p qs e le. omega (arith, le)) told ps le);
})

-- reading does not change whether a client is on its connection
pub reads_on : (c : Client) (f : Front) → (front_read c f).on ≡ c.on
reads_on c f = front_cases c f (λ (d : Client). d.on ≡ c.on)
    (record { same = refl; fault = λ cause. refl; hears = λ t m b is. refl })
