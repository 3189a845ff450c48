-- What a server reports of the commands that were sent, as the bytes of both sides go by (this profile).
use Rattle.std.specs.Prelude.{◌≡◌, ℕ, ◌-◌, ◌==◌, Bool, false, List, [], ◌∷◌, ◌++◌, length, take, get_or, Option, if◌then◌else◌}
use Rattle.std.specs.List.{AllByRecursion, list_any}
use Rattle.dme_line.specs.declared.tags.Tag.{Tag}
use Rattle.session_telling.specs.Sessions.{Adds, Reports, ReportsNothing}
use Rattle.session_telling.specs.declared.sessions.Sent.{Sent}

-- bytes without a LF
abbrev pub IsUnended : List ℕ → Type 0
IsUnended bytes = list_any (λ b. b == 10) bytes ≡ false

-- lines as bytes: a LF follows each
abbrev pub ended : List (List ℕ) → List ℕ
ended [] = []
ended (line ∷ lines) = line ++ 10 ∷ ended lines

-- the bytes are these lines, each with its LF, and then a line that has not ended
pub record AreCut (bytes : List ℕ) (lines : List (List ℕ)) (rest : List ℕ) : Type 0 where
  pub whole : bytes ≡ ended lines ++ rest
  pub lines_end : AllByRecursion IsUnended lines
  pub rest_is_open : IsUnended rest

-- a line without the CR at its end
abbrev pub content : List ℕ → List ℕ
content line = if get_or line (length line - 1) 0 == 13 then take (length line - 1) line else line

-- lines of the client add their commands, one after another
abbrev pub AllAdd : List (List ℕ) → List Sent → List Sent → Type 0
AllAdd [] before after = after ≡ before
AllAdd (line ∷ lines) before after = (mid : List Sent) × Adds (content line) before mid × AllAdd lines mid after

-- an error that a server reported: the tag of its line, the command that it is about, if one was sent under that tag, and its text
pub record Reported : Type 0 where
  pub tag : Tag
  pub about : Option Sent
  pub text : List ℕ

-- what lines of the server report: each error once, in order, and nothing for any other line
pub data AllReport (sent : List Sent) : List (List ℕ) → List Reported → Type 0 where
  ends : AllReport sent [] []
  passes : (line : List ℕ) (lines : List (List ℕ)) (reports : List Reported) → ReportsNothing (content line)
      → AllReport sent lines reports → AllReport sent (line ∷ lines) reports
  reports : (line : List ℕ) (lines : List (List ℕ)) (report : Reported) (more : List Reported)
      → Reports sent (content line) report.tag report.about report.text → AllReport sent lines more
      → AllReport sent (line ∷ lines) (report ∷ more)

-- the lines that bytes end, and what follows the last of them, where the lines add their commands
pub record SendsLines (bytes : List ℕ) (before after : List Sent) (rest : List ℕ) : Type 0 where
  pub lines : List (List ℕ)
  pub cut : AreCut bytes lines rest
  pub added : AllAdd lines before after

-- what the lines that bytes end report joins what was reported before
pub record ReportsLines (sent : List Sent) (bytes : List ℕ) (before after : List Reported) (rest : List ℕ) : Type 0 where
  pub lines : List (List ℕ)
  pub reports : List Reported
  pub cut : AreCut bytes lines rest
  pub reported : AllReport sent lines reports
  pub joined : after ≡ before ++ reports

-- both sides of a connection: the commands that were sent, and the line of each side that has not ended
pub record Dialogue : Type 0 where
  pub sent : List Sent
  pub sending : List ℕ
  pub hearing : List ℕ

-- bytes of the client: the commands of the lines that they end are sent
pub record Sends (bytes : List ℕ) (old new : Dialogue) : Type 0 where
  pub lines : List (List ℕ)
  pub cut : AreCut (old.sending ++ bytes) lines new.sending
  pub added : AllAdd lines old.sent new.sent
  pub other : new.hearing ≡ old.hearing

-- bytes of the server: the lines that they end report these errors of the commands sent so far
pub record Hears (bytes : List ℕ) (old new : Dialogue) (reports : List Reported) : Type 0 where
  pub lines : List (List ℕ)
  pub cut : AreCut (old.hearing ++ bytes) lines new.hearing
  pub reported : AllReport old.sent lines reports
  pub same : new.sent ≡ old.sent
  pub other : new.sending ≡ old.sending
