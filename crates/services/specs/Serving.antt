-- What the server of `serve` was given and has answered, connection after connection (this profile).
use Rattle.std.specs.Prelude.{◌≡◌, ◌⊎◌, ◌+◌, ◌*◌, ◌-◌, ◌^◌, ◌<◌, ◌≤◌, ⊤, ℕ, suc, Bool, true, false, List, [], ◌∷◌, ◌++◌, length}
use Rattle.contact_ledger.specs.Ledgers.{connection_most}
use Rattle.effects.specs.Effects.{Reply, Done, Bytes, End, Found, Nothing, At}
use Rattle.fixed_um.specs.declared.lengths.Point.{Point}
use Rattle.link_world.specs.Machines.{simulated}
use Rattle.link_world.specs.Pumps.{Stage as Step, Writing}
use Rattle.link_world.specs.ServerPumps.{ServerTurn, IsServerRefusal}
use Rattle.link_world.specs.declared.connections.pumps.PumpFault.{PumpFault}
use Rattle.link_world.specs.declared.connections.pumps.PumpFault.TheVariants as fault
use Rattle.protocol_model.specs.Ends.{ServerEnd, new_server_end, serving_accepted, serving_left}
use Rattle.server_core.specs.Serving.{may_accept}
use Rattle.server_core.specs.declared.faults.ServerFault.{ServerFault}
use Rattle.services.specs.declared.stages.Stage.{Stage}
use Rattle.services.specs.declared.stages.Stage.TheVariants as stage
use Rattle.tool_rack.specs.Setups.{SetupValue}

-- a session's server, the shifts of its machine, the number of its last connection, and what is to be sent there
pub record Talk : Type 0 where
  pub end : ServerEnd
  pub shifts : List Point
  pub number : ℕ
  pub out : List ℕ

-- what was received on each connection that was taken, the last first; and what was sent on the last
pub record Traffic : Type 0 where
  pub heard : List (List ℕ)
  pub sent : List ℕ

abbrev pub no_traffic : Traffic
no_traffic = record { heard = []; sent = [] }

-- more is received on the last connection
abbrev pub heard_more : List ℕ → List (List ℕ) → List (List ℕ)
heard_more piece [] = []
heard_more piece (bytes ∷ heard) = (bytes ++ piece) ∷ heard

-- the traffic after the effect of a stage was answered, at which this was to be sent
abbrev pub passed : Stage → List ℕ → Reply → Traffic → Traffic
passed stage.Accepting out Done f = record { heard = [] ∷ f.heard; sent = [] }
passed stage.Receiving out (Bytes piece) f = record f { heard = heard_more piece f.heard }
passed stage.Sending out Done f = record f { sent = f.sent ++ out }
passed s out reply f = f

-- why a server leaves its connection within a turn that began with n unread bytes, and the service continues: it refuses, or it has made
-- 2^64 - 1 steps
abbrev pub IsBreak : PumpFault ServerFault → (n written : ℕ) → ServerEnd → Type 0
IsBreak (fault.Core why) n written e = IsServerRefusal e why
IsBreak fault.TurnsSpent n written e = 2 ^ 64 - 1 ≤ written + 4 * n + 129
IsBreak why n written e = ⊥

-- a turn with this piece has broken off, and the connection was left
pub record IsBroken (t : Talk) (piece : List ℕ) (u : Talk) : Type 0 where
  pub read : List ℕ
  pub rest : List ℕ
  pub more : List ℕ
  pub step : Step
  pub why : PumpFault ServerFault
  pub last : ServerEnd
  pub parts : piece ≡ read ++ rest
  pub turn : ServerTurn (simulated t.shifts) (length piece) t.end step read more last
  pub is : IsBreak why (length read + length t.end.input.rest) (length more) last
  pub leaves : u.end ≡ serving_left last

-- the connection continues with this piece, unless that has broken it off
abbrev pub GoesOnWith : Talk → List ℕ → Talk → Type 0
GoesOnWith t piece u = t.end.server.on ≡ true → (u.end.server.on ≡ true) ⊎ IsBroken t piece u

-- a connection ends as it should: its client has ended it, or the stop file is there
abbrev pub may_end : Stage → Reply → Bool
may_end stage.Checking Found = true
may_end stage.Receiving End = true
may_end s reply = false

-- the answers at which a connection may be left: its client has ended it, a port has failed, a limit of time may be over, or the stop file
-- is there
abbrev pub may_leave : Stage → Reply → Bool
may_leave stage.Checking Found = true
may_leave stage.Timing (At time) = true
may_leave stage.Receiving (Bytes piece) = false
may_leave stage.Receiving Nothing = false
may_leave stage.Receiving reply = true
may_leave stage.Sending Done = false
may_leave stage.Sending reply = true
may_leave s reply = false

abbrev pub HasBroken : Talk → Reply → Talk → Type 0
HasBroken t (Bytes piece) u = IsBroken t piece u
HasBroken t reply u = ⊥

-- those that are not of its memory or its ports
abbrev pub IsOfTurn : PumpFault ServerFault → Type 0
IsOfTurn (fault.Core why) = ⊤
IsOfTurn fault.TurnsSpent = ⊤
IsOfTurn why = ⊥

-- a server with the machine of a setup, from a new one, once connections were taken and just these bytes received on them, with what it has
-- written on the last: its connections are numbered from 1 on; each piece that is received is given to it in one whole turn, in which it reads
-- each whole line and does all that it has to do, or which breaks off, and then it leaves; and it may leave at any time. If memory runs out
-- in a turn, the service is over
pub data Served (setup : SetupValue) : (over : Bool) → List (List ℕ) → List ℕ → ServerEnd → Type 0 where
  begins : Served setup false [] [] (new_server_end setup.tools)
  accepts : (heard : List (List ℕ)) (written : List ℕ) (e : ServerEnd) → Served setup false heard written e
      → may_accept (suc (length heard)) e.server ≡ true → Served setup false ([] ∷ heard) [] (serving_accepted (suc (length heard)) e)
  refuses : (heard : List (List ℕ)) (written : List ℕ) (e : ServerEnd) → Served setup false heard written e
      → connection_most < suc (length heard) → Served setup false ([] ∷ heard) [] e
  works : (heard : List (List ℕ)) (bytes written piece more : List ℕ) (e f : ServerEnd) → Served setup false (bytes ∷ heard) written e
      → ServerTurn (simulated setup.shifts) (length piece) e Writing piece more f → f.out ≡ []
      → Served setup false ((bytes ++ piece) ∷ heard) (written ++ more) f
  breaks : (heard : List (List ℕ)) (bytes written read rest more : List ℕ) (step : Step) (why : PumpFault ServerFault) (e f : ServerEnd)
      → Served setup false (bytes ∷ heard) written e → ServerTurn (simulated setup.shifts) (length (read ++ rest)) e step read more f
      → IsBreak why (length read + length e.input.rest) (length more) f
      → Served setup false ((bytes ++ (read ++ rest)) ∷ heard) written (serving_left f)
  leaves : (over : Bool) (heard : List (List ℕ)) (written : List ℕ) (e : ServerEnd) → Served setup over heard written e
      → Served setup over heard written (serving_left e)
  closes : (heard : List (List ℕ)) (written : List ℕ) (e : ServerEnd) → Served setup false heard written e → Served setup true heard written e
  loses : (heard : List (List ℕ)) (bytes written read rest more : List ℕ) (step : Step) (e f : ServerEnd)
      → Served setup false (bytes ∷ heard) written e → ServerTurn (simulated setup.shifts) (length (read ++ rest)) e step read more f
      → Served setup true ((bytes ++ (read ++ rest)) ∷ heard) written (serving_left f)

-- a session's server is such a one, with this traffic; and what is to be sent is just what it has written and was not sent
pub record IsServing (setup : SetupValue) (over : Bool) (t : Talk) (f : Traffic) : Type 0 where
  pub machine : simulated t.shifts ≡ simulated setup.shifts
  pub number : t.number ≡ length f.heard
  pub written : List ℕ
  pub served : Served setup over f.heard written t.end
  pub said : t.end.server.on ≡ true → f.sent ++ t.out ≡ written

-- the stages at which a service is over: it takes no connection any more, receives nothing, and sends nothing
abbrev pub is_over : Stage → Bool
is_over stage.Discarding = true
is_over stage.Replacing = true
is_over stage.Printing = true
is_over stage.Telling = true
is_over stage.Exiting = true
is_over s = false

-- it is on no connection, and its connections can be numbered
abbrev pub IsFree : Talk → Type 0
IsFree t = (t.end.server.on ≡ false) × (t.number < 2 ^ 32)

-- at a stage: bytes are received on a connection, once all was sent; and the next one is taken once the last is left
abbrev pub IsAt : Stage → Talk → Type 0
IsAt stage.Checking t = (t.end.server.on ≡ true) × (t.out ≡ [])
IsAt stage.Timing t = (t.end.server.on ≡ true) × (t.out ≡ [])
IsAt stage.Receiving t = (t.end.server.on ≡ true) × (t.out ≡ [])
IsAt stage.Sending t = t.end.server.on ≡ true
IsAt stage.Leaving t = t.end.server.on ≡ false
IsAt stage.Keeping t = ⊤
IsAt stage.Replacing t = ⊤
IsAt stage.Printing t = ⊤
IsAt stage.Discarding t = ⊤
IsAt stage.Telling t = ⊤
IsAt stage.Exiting t = ⊤
IsAt s t = IsFree t
