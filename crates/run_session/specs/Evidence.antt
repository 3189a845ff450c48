-- What a record notes of its run, at which moment (this profile).
use Rattle.std.specs.Prelude.{ℕ, List, [], ◌∷◌, ◌++◌, Bool, true, false, not, ◌&&◌, ◌||◌, nat_le, nat_lt, length, codes, decimal, Option, Some, None, is_some, unwrap_or, if◌then◌else◌}
use Rattle.std.specs.List.{list_all}
use Rattle.client_core.specs.declared.faults.ClientFault.{ClientFault}
use Rattle.link_world.specs.declared.connections.pumps.PumpFault.{PumpFault}
use Rattle.link_world.specs.declared.connections.pumps.PumpFault.TheVariants.{Ended}
use Rattle.protocol_model.specs.declared.states.State.{State}
use Rattle.protocol_model.specs.declared.states.State.TheVariants.{Done, Halted}
use Rattle.record_text.specs.Heads.{is_printed}
use Rattle.record_text.specs.Notes.{Says, has_form}
use Rattle.record_text.specs.declared.notes.Note.{Note}
use Rattle.record_text.specs.declared.notes.Note.TheVariants.{Refused, By, Operator, Program, Setup, Opened, Dated, Left, Sealed}

-- what is noted of the run as its connection is made, if anything is noted; whether that and the end of the connection were; and how many
-- features were noted as complete, or were complete before
pub record Notes : Type 0 where
  pub given : Option (List Says)
  pub opened : Bool
  pub left : Bool
  pub dated : ℕ

-- a run without a record notes nothing
abbrev pub given_notes : (keeps : Bool) → Option (List Says) → Option (List Says)
given_notes keeps given = if keeps then given else None

-- something is to be noted: the connection, features that are complete since, or the end
abbrev pub has_due : Notes → (complete : ℕ) → (over : Bool) → Bool
has_due n complete over = is_some n.given && (not n.opened || (nat_lt n.dated complete || (over && not n.left)))

-- what is given, unless it was noted
abbrev pub given_due : Notes → List Says
given_due n = if n.opened then [] else unwrap_or n.given []

-- when the connection was made, and with which server
abbrev pub opening : Notes → (time server : List ℕ) → List Says
opening n time server = if n.opened then [] else (Opened, time ++ 32 ∷ server) ∷ []

-- when features were complete
abbrev pub dating : Notes → (time : List ℕ) → (complete : ℕ) → List Says
dating n time complete = if nat_lt n.dated complete then (Dated, time) ∷ [] else []

-- when the run on the connection was over, and how it ended
abbrev pub leaving : Notes → (time : List ℕ) → (end : Option (List ℕ)) → List Says
leaving n time None = []
leaving n time (Some how) = if n.left then [] else (Left, time ++ 32 ∷ how) ∷ []

-- what is due besides what is given, in order; nothing if nothing is given
abbrev pub made : Notes → (time server : List ℕ) → (complete : ℕ) → (end : Option (List ℕ)) → List Says
made n time server complete end =
    if is_some n.given then opening n time server ++ (dating n time complete ++ leaving n time end) else []

-- all that is due at a time
abbrev pub due : Notes → (time server : List ℕ) → (complete : ℕ) → (end : Option (List ℕ)) → List Says
due n time server complete end = given_due n ++ made n time server complete end

-- it was noted
abbrev pub passed : Notes → (complete : ℕ) → (over : Bool) → Notes
passed n complete over = record n { opened = true; left = over; dated = complete }

-- a record can say it: 1 to 400 printed bytes in the form of its word
abbrev pub can_say : Says → Bool
can_say (note, text) =
    nat_le 1 (length text) && (nat_le (length text) 400 && (list_all is_printed text && has_form note text))

-- a run notes it of itself: it is no error of its server, and no seal
abbrev pub is_own : Note → Bool
is_own Refused = false
is_own By = true
is_own Operator = true
is_own Program = true
is_own Setup = true
is_own Opened = true
is_own Dated = true
is_own Left = true
is_own Sealed = false

abbrev pub can_note : Says → Bool
can_note said = is_own said.0 && can_say said

-- what is known of a run on its connection: which server it has; why it was broken off, if it was; whether the server has not done in time
-- what was due; and whether the operator has stopped it
pub record Course : Type 0 where
  pub server : List ℕ
  pub broken : Option (PumpFault ClientFault)
  pub lapsed : Bool
  pub stopped : Bool

-- the name of a server, and its port
unfoldable pub server_text : (host : List ℕ) → (port : ℕ) → List ℕ
server_text host port = host ++ (codes " " ++ decimal port)

abbrev pub is_final : State → Bool
is_final Done = true
is_final Halted = true
is_final state = false

-- it is over: it was broken off, or its client is Done or Halted
abbrev pub is_over : Course → State → Bool
is_over c state = is_some c.broken || is_final state

abbrev pub how_halted : (stopped : Bool) → State → List ℕ
how_halted stopped Done = codes "done"
how_halted stopped state = if stopped then codes "stopped" else codes "failed"

abbrev pub how_broken : PumpFault ClientFault → List ℕ
how_broken Ended = codes "closed by the server"
how_broken fault = codes "broken off"

abbrev pub how_left : Option (PumpFault ClientFault) → (stopped : Bool) → State → List ℕ
how_left None stopped state = how_halted stopped state
how_left (Some fault) stopped state = how_broken fault

-- how it has ended, if it has
abbrev pub ended : Course → State → Option (List ℕ)
ended c state = if is_over c state
    then Some (if c.lapsed then codes "no answer in time" else how_left c.broken c.stopped state) else None

-- for examples: two features are complete, and the connection was noted
abbrev pub noted_open : Notes
noted_open = record { given = Some []; opened = true; left = false; dated = 2 }

-- likewise: how a run is
abbrev pub course_of : Option (PumpFault ClientFault) → (lapsed stopped : Bool) → Course
course_of broken lapsed stopped = record { server = []; broken = broken; lapsed = lapsed; stopped = stopped }
