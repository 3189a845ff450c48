-- What is shown of the errors of a server, and kept of them for the record (this profile).
use Rattle.std.specs.Prelude.{◌≡◌, ℕ, zero, suc, ◌-◌, List, [], ◌∷◌, ◌++◌, Option, Some, None, Bool, false, if◌then◌else◌, nat_lt, map, length, drop, codes, decimal}
use Rattle.std.specs.List.{flat_map}
use Rattle.client_core.specs.Calls.{Call, Abort, Connected, Feed, Leave, ReadOne, Restart, Resume, Send, Sent as Taken, possible}
use Rattle.dme_line.specs.Kinds.{kind_name, kind_of}
use Rattle.dme_line.specs.Tags.{written_tag}
use Rattle.dme_line.specs.declared.commands.Kind.{Kind}
use Rattle.dme_line.specs.declared.commands.Kind.TheVariants.{PtMeas}
use Rattle.dmis_program.specs.declared.features.Wanted.{Wanted}
use Rattle.protocol_model.specs.Client.{client_aborted, client_sent}
use Rattle.protocol_model.specs.Ends.{ClientEnd}
use Rattle.protocol_model.specs.declared.lines.Line.{Line}
use Rattle.session_telling.specs.Dialogues.{AllReport, AreCut, Reported}
use Rattle.session_telling.specs.Places.{line_of}
use Rattle.session_telling.specs.Sessions.{last_under, with_command}
use Rattle.session_telling.specs.Visible.{visible}
use Rattle.session_telling.specs.declared.sessions.Sent.{Sent}

-- what is known of a connection when errors come: how many features of the program were complete before, and the line of each command that
-- carries out a statement; the commands that were written, in order; what has come of a line that has not ended; the errors that were shown,
-- and are to go into the record; and whether memory has run out for one of these
pub record Talk : Type 0 where
  pub kept : ℕ
  pub lines : List (Option ℕ)
  pub sent : List Sent
  pub hearing : List ℕ
  pub errors : List (List ℕ)
  pub lost : Bool

-- before anything is written or comes
abbrev pub new_talk : ℕ → List (Option ℕ) → Talk
new_talk kept lines = record { kept = kept; lines = lines; sent = []; hearing = []; errors = []; lost = false }

-- the commands with those of lines that are written
abbrev pub with_written : List Sent → List Line → List Sent
with_written sent [] = sent
with_written sent (l ∷ ls) = with_written (with_command sent l.tag (kind_of l.command)) ls

-- what a call of a client that writes leaves of it, if it is possible
abbrev pub noted_by : Call → ClientEnd → Talk → Talk
noted_by Send e t = record t { sent = if possible Send e then with_written t.sent (client_sent e.client).lines else t.sent }
noted_by Abort e t = record t { sent = if possible Abort e then with_written t.sent (client_aborted e.client).lines else t.sent }
noted_by call e t = t

-- a touch of a feature, counted from 1
abbrev pub touch_named : List ℕ → ℕ → List ℕ
touch_named label zero = []
touch_named label (suc n) = codes ", " ++ (label ++ (codes ", touch " ++ decimal (suc n)))

-- the touch of this number, counted from 1, where these features are touched one after another
abbrev pub touch_text : List Wanted → ℕ → List ℕ
touch_text [] n = []
touch_text (f ∷ fs) n = if nat_lt (length f.touches) n then touch_text fs (n - length f.touches) else touch_named f.label n

-- which touch of which of these features a command is, if it is one
abbrev pub touch_of : List Wanted → Kind → ℕ → List ℕ
touch_of fs PtMeas n = touch_text fs n
touch_of fs kind n = []

-- the line of a statement, what it measures, and more text
abbrev pub statement_text : Option ℕ → List ℕ → List ℕ → List ℕ
statement_text None touch more = more
statement_text (Some n) touch more = codes "line " ++ (decimal n ++ (touch ++ (codes ": " ++ more)))

-- the command that an error is about, with the line of its statement and its touch of these features; or that it is about none
abbrev pub command_text : List Wanted → List (Option ℕ) → Option Sent → List ℕ
command_text fs lines None = codes "the server reports: "
command_text fs lines (Some s) =
    statement_text (line_of lines s) (touch_of fs s.kind s.touches) (kind_name s.kind ++ codes " refused: ")

-- the line that is shown of an error: what it is about, and its text as people read it
abbrev pub error_line : List Wanted → List (Option ℕ) → Reported → List ℕ
error_line fs lines r = codes "dme: " ++ (command_text fs lines r.about ++ (flat_map visible r.text ++ codes "\n"))

-- what is kept of it: its line from its tag on, without the mark
abbrev pub error_kept : Reported → List ℕ
error_kept r = written_tag r.tag ++ (32 ∷ r.text)

-- an error is about the last command that was written under its tag
abbrev pub with_about : List Sent → Reported → Reported
with_about sent r = record r { about = last_under r.tag sent }

-- an error is shown, and kept for the record: what was to be shown before, and after
abbrev pub Adds : List Wanted → Reported → Talk → Talk → List ℕ → List ℕ → Type 0
Adds program r old new before after =
    (after ≡ before ++ error_line (drop old.kept program) old.lines (with_about old.sent r))
    × (new ≡ record old { errors = old.errors ++ error_kept r ∷ [] })

-- errors are, one after another
abbrev pub AddsAll : List Wanted → List Reported → Talk → Talk → List ℕ → List ℕ → Type 0
AddsAll program reports old new before after =
    (after ≡ before ++ flat_map (error_line (drop old.kept program) old.lines) (map (with_about old.sent) reports))
    × (new ≡ record old { errors = old.errors ++ map error_kept reports })

-- bytes come from the server: of each error of the lines that they end, once and in order, its line is shown, about the last command that was
-- written under its tag, and it is kept for the record; and of nothing else
pub record Hears (program : List Wanted) (bytes : List ℕ) (old new : Talk) (before after : List ℕ) : Type 0 where
  pub lines : List (List ℕ)
  pub reports : List Reported
  pub cut : AreCut (old.hearing ++ bytes) lines new.hearing
  pub reported : AllReport old.sent lines reports
  pub shown : after ≡ before ++ flat_map (error_line (drop old.kept program) old.lines) reports
  pub kept : new.errors ≡ old.errors ++ map error_kept reports
  pub same : new ≡ record old { hearing = new.hearing; errors = new.errors }

-- what a call of a client leaves of it: what the client writes is noted, and what it is fed is heard
abbrev pub Follows : Call → ClientEnd → Talk → Talk → Type 0
Follows Send e t u = u ≡ noted_by Send e t
Follows Abort e t u = u ≡ noted_by Abort e t
Follows (Feed bytes) e t u = (before after : List ℕ) × Hears e.client.program.features bytes t u before after
Follows (Connected n) e t u = u ≡ t
Follows ReadOne e t u = u ≡ t
Follows Resume e t u = u ≡ t
Follows Leave e t u = u ≡ t
Follows (Restart k) e t u = u ≡ t
Follows (Taken k) e t u = u ≡ t

-- errors for which the record gets lines: all that are to go into it, or none
pub data Records : List (List ℕ) → Talk → Talk → Type 0 where
  takes_none : (t : Talk) → Records [] t t
  takes_all : (t : Talk) → Records t.errors t (record t { errors = [] })
