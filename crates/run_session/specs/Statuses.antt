-- The exit status of a run (this profile).
use Rattle.std.specs.Prelude.{ℕ, List, [], ◌∷◌, ◌++◌, Bool, true, false, not, ◌&&◌, ◌||◌, ◌==◌, Option, Some, None, if◌then◌else◌}
use Rattle.client_core.specs.declared.faults.ClientFault.{ClientFault}
use Rattle.link_world.specs.declared.connections.links.LoopFault.TheVariants.{Client}
use Rattle.link_world.specs.declared.connections.pumps.PumpFault.{PumpFault}
use Rattle.link_world.specs.declared.connections.pumps.PumpFault.TheVariants.{Ended, ReadFailed, WriteFailed}
use Rattle.effects.specs.Effects.{Reply, Bytes, Done, End, Nothing, Short}
use Rattle.order_parts.specs.Broken.{break_status}
use Rattle.order_parts.specs.Faults.{status_of_state}
use Rattle.protocol_model.specs.declared.states.State.{State}
use Rattle.protocol_model.specs.declared.states.State.TheVariants as state
use Rattle.run_session.specs.Evidence.{Course}
use Rattle.run_session.specs.declared.runs.Kept.{Kept}
use Rattle.run_session.specs.declared.runs.Kept.TheVariants as kept
use Rattle.run_session.specs.declared.runs.Said.{Said}
use Rattle.run_session.specs.declared.runs.Said.TheVariants as say
use Rattle.run_session.specs.declared.runs.Written.{Written}
use Rattle.run_session.specs.declared.stages.Stage.{Stage}
use Rattle.run_session.specs.declared.stages.Stage.TheVariants as stage

abbrev pub is_complete : State → Bool
is_complete state.Done = true
is_complete st = false

-- by why its connection was broken off; or by the state of its client
abbrev pub of_broken : Option (PumpFault ClientFault) → State → ℕ
of_broken None st = status_of_state st
of_broken (Some fault) st = break_status (Client fault)

-- an answer that breaks the connection off: its server has closed it, or nothing more can be read from it, or written to it
abbrev pub read_break : Reply → Option (PumpFault ClientFault)
read_break (Bytes bytes) = None
read_break Nothing = None
read_break Short = None
read_break End = Some Ended
read_break reply = Some ReadFailed

abbrev pub sent_break : Reply → Option (PumpFault ClientFault)
sent_break Done = None
sent_break Short = None
sent_break reply = Some WriteFailed

abbrev pub break_by : Stage → Reply → Option (PumpFault ClientFault)
break_by stage.Receiving reply = read_break reply
break_by stage.Sending reply = sent_break reply
break_by st reply = None

-- of a run that was on its connection: 1 if the server has not done in time what was due
abbrev pub of_end : Course → State → ℕ
of_end c st = if c.lapsed then 1 else of_broken c.broken st

-- of one that was not: 3 if its stop file has kept it from calling its server, else 1
abbrev pub of_unbegun : (found : Bool) → ℕ
of_unbegun found = if found then 3 else 1

-- something could not be written, or printed
abbrev pub has_failed : Option Bool → Bool
has_failed None = false
has_failed (Some done) = not done

abbrev pub lacks_file : Written → Bool
lacks_file w = has_failed w.features || (has_failed w.kept || has_failed w.contacts)

-- ---- what is said last

-- a file is named if it could not be written
abbrev pub named : Kept → Option Bool → List Said
named file mark = if has_failed mark then say.Unwritten file ∷ [] else []

-- those that could not be written, without that of features, and with it
abbrev pub late : Written → List Said
late w = named kept.Record w.kept ++ named kept.Contacts w.contacts

abbrev pub unwritten : Written → List Said
unwritten w = named kept.Features w.features ++ late w

abbrev pub first_last : List Said → List Said
first_last [] = []
first_last (first ∷ others) = others ++ first ∷ []

-- a message says why, with this status
abbrev pub is_shown : ℕ → Bool
is_shown status = not (status == 0 || status == 3)

-- 1 if a file could not be written, unless a message was shown before
abbrev pub of_files : Written → ℕ → ℕ
of_files w status = if lacks_file w && not (is_shown status) then 1 else status
