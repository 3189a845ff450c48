-- Examples: lines of both ends in orders that are written out (this profile). No law cites these definitions.
use Rattle.std.specs.Prelude.{ℕ, pos, true, List, [], ◌∷◌, ◌++◌, codes}
use Rattle.std.proofs.Common.{refl}
use Rattle.fixed_um.specs.declared.lengths.Point.{Point}
use Rattle.dme_line.specs.Written.{written_command}
use Rattle.dme_line.specs.declared.commands.Command.TheVariants as command
use Rattle.dme_line.specs.declared.tags.Tag.TheVariants.{Std}
use Rattle.witness.specs.Dialogues.{Dialogue, silence}
use Rattle.witness.specs.Relaying.{Relaying, fresh, client_came, server_came, Reads, none, client, server, IsClientRead, FromClient, FromServer, Read, Course}
use Rattle.witness.specs.Relaying.{no_course, with_move, Relays, begun, moved}
use Rattle.witness.specs.Watching.{client_read, server_read}
use Rattle.witness_laws.specs.Orders.{Line, Up, Down, said_all}

-- a command under the tag 00001, the mark that it is received, an error of it, and its end
abbrev pub home : List ℕ
home = codes "00001 Home()"

abbrev pub received : List ℕ
received = codes "00001 &"

abbrev pub refused : List ℕ
refused = codes "00001 !"

abbrev pub ended : List ℕ
ended = codes "00001 %"

-- another command under this tag
abbrev pub selected : List ℕ
selected = codes "00001 SetCoordSystem(MachineCsy)"

-- the same as the first under the tag 00002
abbrev pub home_2 : List ℕ
home_2 = codes "00002 Home()"

abbrev pub ended_2 : List ℕ
ended_2 = codes "00002 %"

-- a line without a tag
abbrev pub untagged : List ℕ
untagged = []

-- a command and its replies, in their order
abbrev pub answered : List Line
answered = Up home ∷ Down received ∷ Down ended ∷ []

-- the frame is selected under the same tag
abbrev pub selecting : List Line
selecting = Up selected ∷ Down received ∷ Down ended ∷ []

-- the first reply comes before the command
abbrev pub early : List Line
early = Down received ∷ Up home ∷ Down ended ∷ []

-- the command fails before its end
abbrev pub failed : List Line
failed = Up home ∷ Down received ∷ Down refused ∷ Down ended ∷ []

abbrev pub failed_before : List Line
failed_before = failed ++ selecting

-- the command is received, and is open
abbrev pub homing : Dialogue
homing = said_all (silence true) (Up home ∷ Down received ∷ [])

-- a frame is selected, and then the probe is moved twice under one tag, which is in use the second time
abbrev pub origin : Point
origin = record { x = pos 0; y = pos 0; z = pos 0 }

abbrev pub moves : List ℕ
moves = written_command (Std 1) (command.GoTo origin)

abbrev pub crossing : List Line
crossing = selecting ++ Up moves ∷ Up moves ∷ Down received ∷ Down ended ∷ []

-- lines as bytes
abbrev pub with_end : List ℕ → List ℕ
with_end line = line ++ 13 ∷ 10 ∷ []

-- ---- a relay, to which a line of the server comes, then one of the client, and which then reads both

abbrev pub heard : Relaying
heard = server_came (fresh 1) (with_end received)

abbrev pub asked_too : Relaying
asked_too = client_came heard (with_end home)

abbrev pub read_both : Relaying
read_both = record asked_too { watching = server_read (client_read asked_too.watching) }

abbrev pub heard_course : Course
heard_course = with_move no_course (fresh 1) (FromServer (with_end received))

abbrev pub asked_course : Course
asked_course = with_move heard_course heard (FromClient (with_end home))

-- the two are read one after the other
abbrev pub reading : IsClientRead (client_read asked_too.watching) → Reads asked_too.watching read_both.watching
reading read =
    server asked_too.watching (client_read asked_too.watching)
    (client asked_too.watching asked_too.watching (none asked_too.watching)) read

-- the relay from its beginning
abbrev pub course : IsClientRead (client_read asked_too.watching) → Relays 1 asked_course read_both
course read =
    moved asked_course asked_too read_both Read
    (moved heard_course heard asked_too (FromClient (with_end home))
    (moved no_course (fresh 1) heard (FromServer (with_end received)) begun refl) refl)
    (reading read, refl)
