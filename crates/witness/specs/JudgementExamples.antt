-- Examples: lines of both ends as values, and the first break that is found (this profile). No contract but theirs cites these definitions.
use Rattle.std.specs.Prelude.{◌≡◌, ℕ, zero, suc, ◌+◌, List, [], ◌∷◌, ◌++◌, reverse, Option, Some, None}
use Rattle.dme_line.specs.declared.commands.Kind.{Kind}
use Rattle.dme_line.specs.declared.commands.Kind.TheVariants as kind
use Rattle.dme_line.specs.declared.tags.Tag.TheVariants.{Std, Event}
use Rattle.witness.specs.Judging.{client_found, server_found}
use Rattle.witness.specs.declared.judged_lines.Data.{Data}
use Rattle.witness.specs.declared.judged_lines.Heard.{Heard}
use Rattle.witness.specs.declared.judged_lines.Heard.TheVariants.{Response}
use Rattle.witness.specs.declared.judged_lines.Reply.TheVariants as reply
use Rattle.witness.specs.declared.judged_lines.Severity.TheVariants as severity
use Rattle.witness.specs.declared.judged_lines.Sent.{Sent}
use Rattle.witness.specs.declared.judged_lines.Sent.TheVariants.{Command}
use Rattle.witness.specs.declared.rules.Found.{Found}
use Rattle.witness.specs.declared.rules.Rule.{Rule}

-- a line breaks a rule
abbrev pub breaks : ℕ → Rule → Option Found
breaks number rule = Some (record { number = number; rule = rule })

-- a command under a standard tag
abbrev pub asks : ℕ → Kind → Sent
asks n k = Command (Std n) k

-- a session begins under the tag 1
abbrev pub begun : List Sent
begun = asks 1 kind.StartSession ∷ []

-- marks under a standard tag
abbrev pub received : ℕ → Heard
received n = Response (Std n) reply.Received

abbrev pub given : ℕ → Data → Heard
given n d = Response (Std n) (reply.Given d)

abbrev pub complete : ℕ → Heard
complete n = Response (Std n) reply.Complete

abbrev pub error : ℕ → Heard
error n = Response (Std n) (reply.Error severity.Three)

-- an error that stops nothing
abbrev pub warning : ℕ → Heard
warning n = Response (Std n) (reply.Error severity.Other)

-- a line was refused without its tag
abbrev pub refused : Heard
refused = Response (Event 0) (reply.Error severity.Three)

-- an abort, and its marks
abbrev pub abort : Sent
abort = Command (Event 9) kind.AbortE

abbrev pub abort_received : Heard
abort_received = Response (Event 9) reply.Received

abbrev pub abort_complete : Heard
abort_complete = Response (Event 9) reply.Complete

-- what is found in the lines of the client, and in those of the server
abbrev pub client_breaks : List Sent → List Heard → Option Found
client_breaks up down = client_found [] up None down

abbrev pub server_breaks : List Sent → List Heard → Option Found
server_breaks up down = server_found [] up down None

-- nothing is
abbrev pub ClientKeeps : List Sent → List Heard → Type 0
ClientKeeps up down = client_breaks up down ≡ None

abbrev pub ServerKeeps : List Sent → List Heard → Type 0
ServerKeeps up down = server_breaks up down ≡ None

-- a touch, and two moves
abbrev pub touch : List Sent
touch = asks 1 kind.PtMeas ∷ []

abbrev pub moves : List Sent
moves = asks 1 kind.GoTo ∷ asks 2 kind.GoTo ∷ []

-- a move, errors are cleared, and the session ends
abbrev pub cleared_end : List Sent
cleared_end = asks 1 kind.GoTo ∷ asks 2 kind.ClearAllErrors ∷ asks 3 kind.EndSession ∷ []

-- a tag is used again, and then another
abbrev pub again : List Sent
again = begun ++ asks 1 kind.Home ∷ asks 2 kind.Home ∷ []

-- a session with n commands, under the tags from 2 on, the last one first
abbrev pub crowd_back : ℕ → List Sent
crowd_back zero = asks 1 kind.StartSession ∷ []
crowd_back (suc n) = asks (n + 2) kind.GoTo ∷ crowd_back n

abbrev pub crowd : ℕ → List Sent
crowd n = reverse (crowd_back n)

-- the first ended, and n more are received, the last one first
abbrev pub received_back : ℕ → List Heard
received_back zero = complete 1 ∷ []
received_back (suc n) = received (n + 2) ∷ received_back n

abbrev pub all_received : ℕ → List Heard
all_received n = reverse (received_back n)
