-- A record that is written while it follows a client: the calls of the client, and the moments at which lines are added (this profile).
use Rattle.std.specs.Prelude.{ℕ, ◌≤◌, if◌then◌else◌, Bool, List, [], ◌∷◌, length}
use Rattle.std.specs.List.{AllByRecursion}
use Rattle.contact_ledger.specs.ContactTexts.{IsWrittenAct}
use Rattle.contact_ledger.specs.declared.acts.Act.{Act}
use Rattle.protocol_model.specs.Ends.{ClientEnd}
use Rattle.client_core.specs.Calls.{Call, Connected, Send, Feed, ReadOne, Abort, Resume, Leave, Restart, Sent, possible, behind_call}
use Rattle.record_text.specs.Notes.{IsNoteText, Says}
use Rattle.record_text.specs.Growths.{Growth, begun, with_acts, with_acts_unless, with_notes}

-- the lines of the acts that the client has counted are added, and those of the features that they complete
abbrev pub told_now : ClientEnd → Growth → Growth
told_now e g = with_acts e.client.program.features e.client.table.tally.counted g

-- they are added, unless memory runs out
abbrev pub told_unless : Bool → ClientEnd → Growth → Growth
told_unless lacks e g = with_acts_unless lacks e.client.program.features e.client.table.tally.counted g

-- what a call does to the record: before a plan begins and before a restart the lines that are due are added
abbrev pub recorded_by : Call → ClientEnd → Growth → Growth
recorded_by (Connected n) e g = begun n 0 (length e.client.table.tally.features) (told_now e g).text
recorded_by Resume e g =
    begun g.telling.connection (length e.client.table.tally.counted) (length e.client.table.tally.features) (told_now e g).text
recorded_by (Restart k) e g = begun e.client.last 0 k (told_now e g).text
recorded_by Send e g = g
recorded_by (Feed bytes) e g = g
recorded_by ReadOne e g = g
recorded_by Abort e g = g
recorded_by Leave e g = g
recorded_by (Sent k) e g = g

-- a client and its record
pub record Pair : Type 0 where
  pub end : ClientEnd
  pub recording : Growth

-- a moment of a run: a call of the client; or the lines that are due are added, unless memory runs out for them, and then those of notes
pub data Moment : Type 0 where
  Calls : Call → Moment
  Tell : Bool → List Says → Moment

-- what a moment leaves; a call that is not possible changes nothing
abbrev pub behind_moment : Moment → Pair → Pair
behind_moment (Calls call) p = record {
  end = behind_call call p.end;
  recording = if possible call p.end then recorded_by call p.end p.recording else p.recording;
}
behind_moment (Tell lacks notes) p = record { end = p.end; recording = with_notes notes (told_unless lacks p.end p.recording) }

-- moments, one after another
abbrev pub behind_moments : List Moment → Pair → Pair
behind_moments [] p = p
behind_moments (m ∷ ms) p = behind_moments ms (behind_moment m p)

-- the calls of moments
abbrev pub calls_in : List Moment → List Call
calls_in [] = []
calls_in (Calls call ∷ ms) = call ∷ calls_in ms
calls_in (Tell lacks notes ∷ ms) = calls_in ms

-- a call fits a record whose next connection has this number: no connection has a smaller one, and no restart discards a feature
abbrev pub Fits : ℕ → Call → ClientEnd → Type 0
Fits first (Connected n) e = first ≤ n
Fits first (Restart k) e = length e.client.table.tally.features ≤ k
Fits first Send e = Unit {0}
Fits first (Feed bytes) e = Unit {0}
Fits first ReadOne e = Unit {0}
Fits first Abort e = Unit {0}
Fits first Resume e = Unit {0}
Fits first Leave e = Unit {0}
Fits first (Sent k) e = Unit {0}

-- notes: each can say what it says, and the client has made a connection, the number of the last of which is this
abbrev pub AreNotes : List Says → ℕ → Type 0
AreNotes [] last = Unit {0}
AreNotes ((note, text) ∷ notes) last = IsNoteText note text × (1 ≤ last) × AreNotes notes last

-- each moment fits
abbrev pub AreFit : ℕ → List Moment → ClientEnd → Type 0
AreFit first [] e = Unit {0}
AreFit first (Calls call ∷ ms) e = Fits first call e × AreFit first ms (behind_call call e)
AreFit first (Tell lacks notes ∷ ms) e = AreNotes notes e.client.last × AreFit first ms e

-- acts that can be written
abbrev pub AreWritten : List (ℕ × Act) → Type 0
AreWritten acts = AllByRecursion (λ entry. IsWrittenAct entry.1) acts
