-- What is read of a line fits a server, and is read in one way.
use Rattle.server_core.proofs.Names.{◌≡◌, ◌≤◌, ap, arith, BeginsSo, BeginsWith, Command, command_of, Err, Event, IsLineFit, IsNumbered, IsTag}
use Rattle.server_core.proofs.Names.{IsTagged, length, LineFault, List, Ok, read_is_writable, reads_command, ReadsCommand, Result, Std, subst, sym}
use Rattle.server_core.proofs.Names.{Tag, take, ℕ}
use Rattle.dme_line.proofs.OneCommand.{one_command_reading}
use Rattle.protocol_model.proofs.plan.PlanLaws.{in_volume}

tag_of_numbered : (t : Tag) → IsNumbered t → IsTag t
tag_of_numbered (Std n) h = h.1
tag_of_numbered (Event n) h = h.1

-- what is read of a line has a tag that can be written, and lengths in the volume
pub read_is_fit : (line : List ℕ) (reading : Result (Tag × Command) LineFault) → ReadsCommand line reading → IsLineFit reading
read_is_fit line (Ok (t, c)) h =
    (tag_of_numbered t h.begins.tagged.numbered, in_volume c (read_is_writable line t c h).arguments)
read_is_fit line (Err LineFault.NoTag) h = tt
read_is_fit line (Err (LineFault.UnknownCommand t)) h = tag_of_numbered t h.2.tagged.numbered
read_is_fit line (Err (LineFault.BadArguments t k)) h = tag_of_numbered t h.2.tagged.numbered

-- a line that begins with a tag has its five bytes at its start
begins_with : (line text : List ℕ) (t : Tag) → IsTagged line t text → BeginsWith line t
begins_with line text (Std n) h =
    (subst (λ (l : List ℕ). 5 ≤ length l) (sym h.parts) (omega arith), ap (λ (l : List ℕ). take 5 l) h.parts)
begins_with line text (Event n) h =
    (subst (λ (l : List ℕ). 5 ≤ length l) (sym h.parts) (omega arith), ap (λ (l : List ℕ). take 5 l) h.parts)

-- a line begins with the tag that is read of it
pub read_begins : (line : List ℕ) (reading : Result (Tag × Command) LineFault) → ReadsCommand line reading → BeginsSo line reading
read_begins line (Ok (t, c)) h = begins_with line h.begins.text t h.begins.tagged
read_begins line (Err LineFault.NoTag) h = tt
read_begins line (Err (LineFault.UnknownCommand t)) h = begins_with line h.2.text t h.2.tagged
read_begins line (Err (LineFault.BadArguments t k)) h = begins_with line h.2.text t h.2.tagged

-- all that read commands as the interface says read a line in one way
pub one_reading : (line : List ℕ) (reading : Result (Tag × Command) LineFault) → ReadsCommand line reading
    → command_of line ≡ reading
one_reading line reading read = one_command_reading line (command_of line) reading (reads_command line) read
