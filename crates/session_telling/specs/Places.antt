-- Which touch of which feature a touch of a connection is, and on which line of the program a command's statement is.
use Rattle.std.specs.Prelude.{◌≡◌, ◌⊎◌, ℕ, ◌+◌, ◌-◌, ◌<◌, ◌≤◌, List, get_or, length, take, Option, None, nat_lt, ◌&&◌, if◌then◌else◌}
use Rattle.std.specs.List.{sum}
use Rattle.session_telling.specs.Sessions.{is_task}
use Rattle.session_telling.specs.declared.sessions.Sent.{Sent}

-- the touch of this number, counted from 1, is this touch of the feature at this place: those of the features before it come first
abbrev pub IsPlace : List ℕ → ℕ → ℕ → ℕ → Type 0
IsPlace touches number at touch =
    (at < length touches) × (1 ≤ touch) × (touch ≤ get_or touches at 0) × (number ≡ sum (take at touches) + touch)

-- no feature has the touch of this number
abbrev pub IsBeyond : List ℕ → ℕ → Type 0
IsBeyond touches number = (number ≡ 0) ⊎ (sum touches < number)

-- the line of a command that carries out a statement, of which these are the lines: in the place that it has among such commands
abbrev pub line_of : List (Option ℕ) → Sent → Option ℕ
line_of lines sent = if is_task sent.kind && nat_lt 0 sent.tasks then get_or lines (sent.tasks - 1) None else None
