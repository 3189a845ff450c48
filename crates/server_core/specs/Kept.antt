-- What holds of a server at any time, whatever lines and outcomes have come (this profile).
use Rattle.std.specs.Prelude.{◌≡◌, ◌≤◌, ℕ, List, length, take, [], Option, Some, None, Result, Ok, Err, true, false, IsSome}
use Rattle.std.specs.List.{AllByRecursion}
use Rattle.fixed_um.specs.Points.{IsInVolume}
use Rattle.dme_line.specs.Tags.{IsTag, written_tag}
use Rattle.dme_line.specs.declared.tags.Tag.{Tag}
use Rattle.dme_line.specs.Written.{HasVolumeLengths}
use Rattle.dme_line.specs.declared.commands.Command.{Command}
use Rattle.dme_line.specs.declared.reading.LineFault.{LineFault}
use Rattle.dme_line.specs.declared.reading.LineFault.TheVariants as fault
use Rattle.contact_ledger.specs.Ledgers.{IsConnection}
use Rattle.protocol_model.specs.Server.{Server, offset, job_run}
use Rattle.protocol_model.specs.declared.lines.Line.{Line}
use Rattle.protocol_model.specs.declared.lines.Misread.{Misread}
use Rattle.protocol_model.specs.declared.lines.Waiting.{Waiting}
use Rattle.protocol_model.specs.declared.machine.Job.{Job}

-- a line begins with a tag
abbrev pub BeginsWith : List ℕ → Tag → Type 0
BeginsWith line tag = (5 ≤ length line) × (take 5 line ≡ written_tag tag)

-- what was read under a tag: of a command the lengths of a transformation are within the volume limit
abbrev pub IsReadingFit : Result Command Misread → Type 0
IsReadingFit (Ok c) = HasVolumeLengths c
IsReadingFit (Err why) = Unit {0}

-- what was read of a line: its tag can be written
abbrev pub IsLineFit : Result (Tag × Command) LineFault → Type 0
IsLineFit (Ok (tag, c)) = IsTag tag × HasVolumeLengths c
IsLineFit (Err fault.NoTag) = Unit {0}
IsLineFit (Err (fault.UnknownCommand t)) = IsTag t
IsLineFit (Err (fault.BadArguments t k)) = IsTag t

-- a line begins with the tag that was read of it
abbrev pub BeginsSo : List ℕ → Result (Tag × Command) LineFault → Type 0
BeginsSo line (Ok (tag, c)) = BeginsWith line tag
BeginsSo line (Err fault.NoTag) = Unit {0}
BeginsSo line (Err (fault.UnknownCommand t)) = BeginsWith line t
BeginsSo line (Err (fault.BadArguments t k)) = BeginsWith line t

-- what waits has a tag that can be written, and lengths within the volume limit
pub record IsFit (w : Waiting) : Type 0 where
  pub tag : IsTag w.tag
  pub reading : IsReadingFit w.reading

-- what runs has a tag that can be written
abbrev pub IsRunningFit : Option Line → Type 0
IsRunningFit None = Unit {0}
IsRunningFit (Some line) = IsTag line.tag

-- what runs is a job on the machine
abbrev pub IsJob : Option Line → Option Job → Option Job → Type 0
IsJob None kept job = kept ≡ None
IsJob (Some line) kept job = (kept ≡ job) × IsSome kept

-- what a controller keeps: tags that can be written, zero points in the volume, a connection's number while it is on one, nothing that runs
-- or waits while it is on none, nothing that waits in the error state, and the job of what runs
pub record IsKept (s : Server) (job : Option Job) : Type 0 where
  pub waiting : AllByRecursion IsFit s.waiting
  pub running : IsRunningFit s.running
  pub has_job : IsJob s.running job (job_run s.frame s.running)
  pub stored : IsInVolume s.stored
  pub frame : IsInVolume (offset s.frame)
  pub connection : s.on ≡ true → IsConnection s.last
  pub waiting_off : s.on ≡ false → s.waiting ≡ []
  pub running_off : s.on ≡ false → s.running ≡ None
  pub quiet : s.error ≡ true → s.waiting ≡ []
