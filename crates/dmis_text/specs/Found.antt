-- What the code's step of a reading reports: no public clause cites it.
use Rattle.std.specs.Prelude.{◌≡◌, [], Option, Some, None}
use Rattle.std.specs.Str.Lines.{lines}
use Rattle.dmis_text.specs.Reading.{Reading, reading_of, with_first, refused}
use Rattle.dmis_text.specs.declared.elements.Statement.{Statement}
use Rattle.dmis_text.specs.declared.reading.Found.{Found}
use Rattle.dmis_text.specs.declared.reading.TextFault.{TextFault}
use Rattle.dmis_text.specs.declared.reading.TextFault.TheVariants.{LineTooLong, BadByte, Memory}

-- a statement in front of what is left, or nothing at all
abbrev pub LeavesWith : Reading → Option Statement → Reading → Type 0
LeavesWith reading None left = (reading ≡ record { statements = []; fault = None }) × (left ≡ reading)
LeavesWith reading (Some s) left = reading ≡ with_first s left

-- what was found, and the reading of the lines after it
abbrev pub Leaves : Reading → Found → Type 0
Leaves reading found = LeavesWith reading found.statement (reading_of found.number (lines found.rest.now))

-- the refusal is what the reading begins with
abbrev pub Refuses : Reading → TextFault → Type 0
Refuses reading (LineTooLong n) = reading ≡ refused (LineTooLong n)
Refuses reading (BadByte n) = reading ≡ refused (BadByte n)
Refuses reading Memory = Unit {0}
