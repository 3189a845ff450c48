-- A relay that keeps no more than it may (this profile).
use Rattle.std.specs.Prelude.{◌≡◌, ◌⊎◌, ℕ, ◌-◌, Bool, true, false, ◌||◌, nat_lt, if◌then◌else◌, List, [], ◌∷◌, ◌++◌, length, slice_get, drop, Option, Some, None}
use Rattle.dme_line.specs.declared.tags.Tag.{Tag}
use Rattle.dme_line.specs.declared.tags.Tag.TheVariants.{Event}
use Rattle.witness.specs.Relaying as relays
use Rattle.witness.specs.Relaying.{Relaying, Reads, IsClientRead, IsServerRead, IsAllTold, made_due}
use Rattle.std.specs.Option.{option_map_or}
use Rattle.witness.specs.Dialogues.{Dialogue}
use Rattle.witness.specs.Texts.{told_lines}
use Rattle.witness.specs.Watching.{Watching, IsFirstPast, KeepsFew}
use Rattle.witness.specs.declared.lines.Reported.TheVariants as report
use Rattle.witness.specs.declared.lines.Rule.TheVariants.{TooMany}
use Rattle.witness.specs.declared.lines.SentCommand.{SentCommand}
use Rattle.witness.specs.declared.lines.SentCommand.TheVariants.{Known, Asking, Foreign}
use Rattle.witness.specs.declared.lines.Use.{Use}

-- a relay, with its witness; or, once too many lines of the client were open, only the bytes of each end that were not sent on, and the text
-- that is due
pub data Limited : Type 0 where
  Within : Relaying → Limited
  Past : (up down due : List ℕ) → Limited

abbrev pub limited : ℕ → Option Watching → List ℕ → List ℕ → List ℕ → Limited
limited connection (Some w) up down due = Within (record { connection = connection; watching = w; up = up; down = down; due = due })
limited connection None up down due = Past up down due

abbrev pub fresh : ℕ → Limited
fresh connection = Within (relays.fresh connection)

-- bytes come from the client, or from the server: after the limit the witness is not given them
abbrev pub client_came : Limited → List ℕ → Limited
client_came (Within r) bytes = Within (relays.client_came r bytes)
client_came (Past up down due) bytes = Past (up ++ bytes) down due

abbrev pub server_came : Limited → List ℕ → Limited
server_came (Within r) bytes = Within (relays.server_came r bytes)
server_came (Past up down due) bytes = Past up (down ++ bytes) due

-- the tag of the last of these lines
abbrev pub last_tag : List Use → Tag
last_tag uses = option_map_or (λ u. u.tag) (slice_get uses (length uses - 1)) (Event 0)

-- the line that ends what is reported of a connection
abbrev pub too_many : ℕ → Tag → List ℕ
too_many connection tag = told_lines connection (report.Broken TooMany tag ∷ [])

-- the bytes that are kept of a line: those of one that this profile does not know
abbrev pub kept : SentCommand → ℕ
kept (Known c) = 0
kept Asking = 0
kept (Foreign line) = length line

-- more bytes than that are kept of these lines
abbrev pub keeps_more : ℕ → List Use → Bool
keeps_more most [] = false
keeps_more most (u ∷ uses) = if nat_lt most (kept u.command) then true else keeps_more (most - kept u.command) uses

-- more than 10,000 lines are open, or more than 16 MiB are kept of them
abbrev pub are_too_many : List Use → Bool
are_too_many uses = nat_lt 10000 (length uses) || keeps_more 16777216 uses

-- the lines of what was read, and that there are too many, if so
abbrev pub reports : Bool → ℕ → Dialogue → List ℕ
reports false connection d = told_lines connection d.reported
reports true connection d = told_lines connection d.reported ++ too_many connection (last_tag d.uses)

-- what was read is due, and that there are too many; nothing more is reported
abbrev pub ended : Limited → Limited
ended (Within r) = Past r.up r.down (r.due ++ reports true r.connection r.watching.dialogue)
ended (Past up down due) = Past up down due

-- reading ends with too many: at the first line of the client after which more than 10,000 are open, or with all read, if more than 16 MiB are kept
abbrev pub IsStop : Watching → Watching → Type 0
IsStop old w = IsFirstPast 10000 old w ⊎ (IsClientRead w × IsServerRead w)

-- what waits is read, and what it reports is due: all of it, and only bytes of a line without its end are kept, unless too many lines of the client
-- are open; then what was read until then, and that there are too many
pub data IsRead : Limited → Limited → Type 0 where
  all : (r : Relaying) (w : Watching) → Reads r.watching w → IsClientRead w → IsServerRead w
      → KeepsFew w → are_too_many w.dialogue.uses ≡ false → IsRead (Within r) (Within (made_due (record r { watching = w })))
  some : (r : Relaying) (w : Watching) → Reads r.watching w → IsStop r.watching w → are_too_many w.dialogue.uses ≡ true
      → IsRead (Within r) (ended (Within (record r { watching = w })))
  none : (up down due : List ℕ) → IsRead (Past up down due) (Past up down due)

-- the text that is due, and what was not sent on
abbrev pub due_of : Limited → List ℕ
due_of (Within r) = r.due
due_of (Past up down due) = due

abbrev pub without_due : Limited → Limited
without_due (Within r) = Within (record r { due = [] })
without_due (Past up down due) = Past up down []

abbrev pub up_of : Limited → List ℕ
up_of (Within r) = r.up
up_of (Past up down due) = up

abbrev pub down_of : Limited → List ℕ
down_of (Within r) = r.down
down_of (Past up down due) = down

-- all that is to be written was written: only then may bytes be sent to the client
abbrev pub IsTold : Limited → Type 0
IsTold (Within r) = IsAllTold r
IsTold (Past up down due) = due ≡ []

-- bytes were sent on
abbrev pub up_sent : ℕ → Limited → Limited
up_sent n (Within r) = Within (record r { up = drop n r.up })
up_sent n (Past up down due) = Past (drop n up) down due

abbrev pub down_sent : ℕ → Limited → Limited
down_sent n (Within r) = Within (record r { down = drop n r.down })
down_sent n (Past up down due) = Past up (drop n down) due
