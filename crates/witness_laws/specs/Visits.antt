-- The connections of a client, one after another, and what a witness writes of them all (this profile).
use Rattle.std.specs.Prelude.{ℕ, Bool, true, false, ◌||◌, List, [], ◌∷◌, ◌++◌, map}
use Rattle.std.specs.List.{list_all}
use Rattle.dmis_program.specs.Meaning.{Meaning}
use Rattle.protocol_model.specs.Ends.{ClientEnd}
use Rattle.witness.specs.Dialogues.{silence}
use Rattle.witness.specs.Texts.{numbered}
use Rattle.witness.specs.Runs.{SoundByTold}
use Rattle.witness.specs.declared.lines.Reported.{Reported}
use Rattle.client_core.specs.Calls.{Call, Connected, Send, Feed, ReadOne, Abort, Resume, Leave, Restart, Sent, behind_calls}
use Rattle.witness_laws.specs.Acts.{BeginsWith}
use Rattle.witness_laws.specs.Orders.{Line, said_all}
use Rattle.witness_laws.specs.Lines.{counted_by, witnessed, unasked}

-- a call on the connection that a client is on: it neither connects nor leaves, and is no restart
abbrev pub stays : Call → Bool
stays (Connected n) = false
stays Send = true
stays (Feed bytes) = true
stays ReadOne = true
stays Abort = true
stays Resume = true
stays Leave = false
stays (Restart k) = false
stays (Sent k) = true

-- a connection: what the witness writes before it of other clients' connections; the number that the client gives it, and that which the
-- witness does; the calls on it; and the lines that the witness reads there when it has read all that the client has
pub record Visit : Type 0 where
  pub others : List (ℕ × Reported)
  pub own : ℕ
  pub number : ℕ
  pub calls : List Call
  pub unread : List Line

-- all of its calls are on it
abbrev pub is_visit : Visit → Bool
is_visit v = list_all stays v.calls

-- the calls of a connection: the one before is left, this one is begun
abbrev pub calls_of : Visit → List Call
calls_of v = Leave ∷ Connected v.own ∷ v.calls

-- what the witness writes of it, after that of the others; the first argument: the order between the two ends is known to it
abbrev pub told_of : Bool → Visit → ClientEnd → List (ℕ × Reported)
told_of ordered v e =
    v.others ++ map (numbered v.number) (said_all (witnessed (calls_of v) e (silence ordered)) v.unread).reported

-- a client after connections
abbrev pub behind_visits : List Visit → ClientEnd → ClientEnd
behind_visits [] e = e
behind_visits (v ∷ vs) e = behind_visits vs (behind_calls (calls_of v) e)

-- what the witness writes of them, one after another
abbrev pub told_of_all : Bool → List Visit → ClientEnd → List (ℕ × Reported)
told_of_all ordered [] e = []
told_of_all ordered (v ∷ vs) e = told_of ordered v e ++ told_of_all ordered vs (behind_calls (calls_of v) e)

-- whether the client reads on one of them a line that belongs to no command
abbrev pub some_unasked : List Visit → ClientEnd → Bool
some_unasked [] e = false
some_unasked (v ∷ vs) e = unasked (calls_of v) e false || some_unasked vs (behind_calls (calls_of v) e)

-- the features that a client holds are true of what was written
abbrev pub HoldsTrue : Meaning → ClientEnd → List (ℕ × Reported) → Type 0
HoldsTrue program e written = SoundByTold program.features e.client.table.tally.features written

-- ---- any witness

-- what was reported of each connection begins with the acts that the client counted there
abbrev pub BeginSo : List Visit → List (List Reported) → ClientEnd → Type 0
BeginSo [] [] e = Unit {0}
BeginSo (v ∷ vs) (reported ∷ others) e =
    BeginsWith (counted_by (behind_calls (calls_of v) e)) reported × BeginSo vs others (behind_calls (calls_of v) e)
BeginSo _ _ e = ⊥

-- and what is written of it
abbrev pub written_of : List Visit → List (List Reported) → List (ℕ × Reported)
written_of (v ∷ vs) (reported ∷ others) = (v.others ++ map (numbered v.number) reported) ++ written_of vs others
written_of _ _ = []
