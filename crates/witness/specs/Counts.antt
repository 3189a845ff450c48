-- How many lines of each sort are in a recording (this profile).
use Rattle.std.specs.Prelude.{ℕ, Bool, true, false, List, [], ◌∷◌, ◌++◌, map, count_by}
use denote.Enum.Bare.{sameb}
use Rattle.dme_line.specs.contracts.Kind.{the_type}
use Rattle.dme_line.specs.declared.commands.Kind.{Kind}
use Rattle.dme_line.specs.declared.commands.Kind.TheVariants as kind
use Rattle.witness.specs.JudgedUses.{has_mark}
use Rattle.witness.specs.declared.judged_lines.Heard.{Heard}
use Rattle.witness.specs.declared.judged_lines.Heard.TheVariants as heard
use Rattle.witness.specs.declared.judged_lines.Mark.{Mark}
use Rattle.witness.specs.declared.judged_lines.Mark.TheVariants as mark
use Rattle.witness.specs.declared.judged_lines.Sent.{Sent}
use Rattle.witness.specs.declared.judged_lines.Sent.TheVariants as sent

-- the commands of this profile, in the order of their counts
abbrev pub kinds : List Kind
kinds = kind.StartSession ∷ kind.EndSession ∷ kind.ClearAllErrors ∷ kind.IsHomed ∷ kind.Home ∷ kind.OnPtMeasReport ∷ kind.GoTo
    ∷ kind.PtMeas ∷ kind.ChangeTool ∷ kind.SetCsyTransformation ∷ kind.SetCoordSystem ∷ kind.AbortE ∷ []

-- a line of the client has this command's name, whether its arguments read or not; `sameb` says that two commands are the same
abbrev pub names : Kind → Sent → Bool
names k (sent.Command t l) = sameb the_type l k
names k (sent.Unread t l) = sameb the_type l k
names k _ = false

-- it has none of them
abbrev pub names_none : Sent → Bool
names_none (sent.Command t l) = false
names_none (sent.Unread t l) = false
names_none _ = true

abbrev pub named : List Sent → Kind → ℕ
named up k = count_by (names k) up

-- lines of the client by command, and last those of no command of this profile
abbrev pub client_counts : List Sent → List ℕ
client_counts up = map (named up) kinds ++ count_by names_none up ∷ []

-- a line of the server has such a mark
abbrev pub is_marked : Mark → Heard → Bool
is_marked m heard.Other = false
is_marked m (heard.Response t r) = has_mark m r

abbrev pub marked : List Heard → Mark → ℕ
marked down m = count_by (is_marked m) down

-- the marks, in the order of their counts
abbrev pub marks : List Mark
marks = mark.Received ∷ mark.Data ∷ mark.Complete ∷ mark.Error ∷ []

-- lines of the server by mark: received, data, complete, error
abbrev pub server_counts : List Heard → List ℕ
server_counts down = map (marked down) marks
