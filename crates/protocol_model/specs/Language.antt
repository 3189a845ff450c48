-- The language of replies: which marks a client may read for one command, in order (this profile).
use Rattle.std.specs.Prelude.{◌≡◌, Bool, true, false, ◌⊎◌, ⊤, List, [], ◌∷◌, ◌++◌}
use Rattle.dme_line.specs.declared.commands.Kind.{Kind}
use Rattle.protocol_model.specs.Replies.{Mark}
use Rattle.protocol_model.specs.Open.{Verdict, Becomes, Breaks, Closes, Counts, Refused, judged}
use Rattle.protocol_model.specs.declared.held.Datum.{Datum}
use Rattle.protocol_model.specs.declared.held.Stage.{Stage}

-- a mark, and whether the command is at the front when it is read
abbrev pub Placed : Type 0
Placed = Bool × Mark

-- the marks alone
abbrev pub marks_of : List Placed → List Mark
marks_of [] = []
marks_of ((front, m) ∷ ms) = m ∷ marks_of ms

-- the marks of a counted command: received and complete, with data in between if it asks for any; the second argument: the data that it
-- asks for
abbrev pub IsCounted : Bool → (Datum → Bool) → List Mark → Type 0
IsCounted false asked ms = ms ≡ Mark.Ack ∷ Mark.Done ∷ []
IsCounted true asked ms = (d : Datum) × (asked d ≡ true) × (ms ≡ Mark.Ack ∷ Mark.Given d ∷ Mark.Done ∷ [])

-- errors, one or more
abbrev pub AreErrors : List Mark → Type 0
AreErrors [] = ⊤
AreErrors (Mark.Error ∷ ms) = AreErrors ms
AreErrors (Mark.Ack ∷ ms) = ⊥
AreErrors (Mark.Given d ∷ ms) = ⊥
AreErrors (Mark.Done ∷ ms) = ⊥

-- the marks of a failed command: a proper prefix of those of a counted one, then one or more errors, then nothing or its end
pub record IsFailed (asks : Bool) (asked : Datum → Bool) (ms : List Mark) : Type 0 where
  pub before : List Mark
  pub missing : Mark
  pub rest : List Mark
  pub proper : IsCounted asks asked (before ++ missing ∷ rest)
  pub errors : List Mark
  pub are_errors : AreErrors errors
  pub ends : (ending : List Mark) × ((ending ≡ []) ⊎ (ending ≡ Mark.Done ∷ [])) × (ms ≡ before ++ Mark.Error ∷ (errors ++ ending))

-- the marks of a command, read to their end
abbrev pub IsReplies : Bool → (Datum → Bool) → List Mark → Type 0
IsReplies asks asked ms = IsCounted asks asked ms ⊎ IsFailed asks asked ms

-- the marks that may have been read so far: a prefix of such
pub record IsRepliesFront (asks : Bool) (asked : Datum → Bool) (ms : List Mark) : Type 0 where
  pub more : List Mark
  pub whole : IsReplies asks asked (ms ++ more)

-- data, and the end of a command that has not failed, come at the front only; the first argument: an error has been read
abbrev pub AreAtFront : Bool → List Placed → Type 0
AreAtFront failed [] = ⊤
AreAtFront failed ((front, Mark.Ack) ∷ ms) = AreAtFront failed ms
AreAtFront failed ((front, Mark.Given d) ∷ ms) = (front ≡ true) × AreAtFront failed ms
AreAtFront failed ((front, Mark.Error) ∷ ms) = AreAtFront true ms
AreAtFront false ((front, Mark.Done) ∷ ms) = (front ≡ true) × AreAtFront false ms
AreAtFront true ((front, Mark.Done) ∷ ms) = AreAtFront true ms

-- the table accepts these marks, one after another, of a command at this stage
abbrev pub Goes : Kind → List Placed → Verdict → (Stage → Type 0) → Type 0
Goes kind ms (Becomes stage) next = next stage
Goes kind ms Breaks next = next Stage.Failed
Goes kind ms Closes next = ms ≡ []
Goes kind ms (Counts given) next = ms ≡ []
Goes kind ms (Refused cause) next = ⊥

-- the table accepts these marks, one after another, of a command that is at this stage
abbrev pub Accepts : Kind → Stage → List Placed → Type 0
Accepts kind stage [] = ⊤
Accepts kind stage ((front, m) ∷ ms) = Goes kind ms (judged front kind stage m) (λ next. Accepts kind next ms)
