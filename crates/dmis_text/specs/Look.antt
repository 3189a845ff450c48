-- How the code's view of a line shows its role: no public clause cites it.
use Rattle.std.specs.Prelude.{◌≡◌, ℕ, Bool, false, List, ◌++◌, IsTrue}
use Rattle.dmis_text.specs.Texts.{inside_after}
use Rattle.dmis_text.specs.Elements.{folded}
use Rattle.dmis_text.specs.Reading.{Role}
use Rattle.dmis_text.specs.Reading.Role.{TooLong, Damaged, Dropped, Continued, Last}
use Rattle.dmis_text.specs.declared.lines.Part.{Part}
use Rattle.dmis_text.specs.declared.lines.Look.{Look}
use Rattle.dmis_text.specs.declared.lines.Look.TheVariants as look

-- what a line that continues adds to its statement
abbrev pub part_text : Part → List ℕ
part_text part = part.front.now ++ part.blanks.now

-- the role that the code has found
abbrev pub role_of : Look → Role
role_of look.TooLong = TooLong
role_of look.Damaged = Damaged
role_of look.Dropped = Dropped
role_of (look.Continued part) = Continued (part_text part)
role_of (look.Last content capitals) = Last content.now

-- a line that continues reports whether a text is open after it, and the last one may report that no small letter is outside texts
abbrev pub TellsFlag : Bool → Look → Type 0
TellsFlag inside look.TooLong = Unit {0}
TellsFlag inside look.Damaged = Unit {0}
TellsFlag inside look.Dropped = Unit {0}
TellsFlag inside (look.Continued part) = part.inside ≡ inside_after inside (part_text part)
TellsFlag inside (look.Last content capitals) = IsTrue capitals → folded false content.now ≡ content.now
