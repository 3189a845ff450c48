-- How the refusals of a program are printed (this profile): their code, their name, and the line.
use Rattle.std.specs.Prelude.{ℕ, List, ◌++◌, codes, decimal}
use Rattle.fixed_um.specs.declared.numerals.NumeralFault.TheVariants.{NotNumeral, TooManyDigits}
use Rattle.fixed_um.specs.declared.numerals.NumeralFault.TheVariants as numeral
use Rattle.dmis_program.specs.declared.faults.Refusal.{Refusal}
use Rattle.dmis_program.specs.declared.faults.Refusal.TheVariants.{NotDmis, Truncated, LineTooLong, BadByte, Unsupported, BadArguments}
use Rattle.dmis_program.specs.declared.faults.Refusal.TheVariants.{BadNumeral, OutsideBlock, InsideBlock, TooFewPoints, UnknownFrame}
use Rattle.dmis_program.specs.declared.faults.Refusal.TheVariants.{NotMillimetres, NoProgMode, ZeroVector, NoTool, TooLarge}
use Rattle.dmis_program.specs.declared.faults.ProgramFault.{ProgramFault}
use Rattle.dmis_program.specs.declared.faults.ProgramFault.TheVariants as fault

-- the code and the name of a refusal; a bad numeral also has its reason
abbrev pub refusal_text : Refusal → List ℕ
refusal_text NotDmis = codes "P1 NotDmis"
refusal_text Truncated = codes "P2 Truncated"
refusal_text LineTooLong = codes "P3 LineTooLong"
refusal_text BadByte = codes "P4 BadByte"
refusal_text Unsupported = codes "P5 Unsupported"
refusal_text BadArguments = codes "P6 BadArguments"
refusal_text (BadNumeral NotNumeral) = codes "P7 BadNumeral (N1 NotNumeral)"
refusal_text (BadNumeral TooManyDigits) = codes "P7 BadNumeral (N2 TooManyDigits)"
refusal_text (BadNumeral numeral.TooLarge) = codes "P7 BadNumeral (N3 TooLarge)"
refusal_text OutsideBlock = codes "P8 OutsideBlock"
refusal_text InsideBlock = codes "P9 InsideBlock"
refusal_text TooFewPoints = codes "P10 TooFewPoints"
refusal_text UnknownFrame = codes "P11 UnknownFrame"
refusal_text NotMillimetres = codes "P12 NotMillimetres"
refusal_text NoProgMode = codes "P13 NoProgMode"
refusal_text ZeroVector = codes "P14 ZeroVector"
refusal_text NoTool = codes "P15 NoTool"
refusal_text TooLarge = codes "P16 TooLarge"

-- a refusal with its line
abbrev pub fault_text : ProgramFault → List ℕ
fault_text (fault.Refused refusal line) = refusal_text refusal ++ (codes " at line " ++ decimal line)
fault_text fault.Memory = codes "out of memory"
