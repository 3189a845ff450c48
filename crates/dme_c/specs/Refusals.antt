-- Why the text of a program is refused, as numbers.
use Rattle.std.specs.Prelude.{◌≡◌, ℕ, List, Ok, Err}
use Rattle.fixed_um.specs.declared.numerals.NumeralFault.TheVariants as numeral
use Rattle.dmis_program.specs.Meaning.{program_of}
use Rattle.dmis_program.specs.declared.faults.Refusal.{Refusal}
use Rattle.dmis_program.specs.declared.faults.Refusal.TheVariants as refusal
use Rattle.tool_rack.specs.Setups.{SetupValue, setup_of}

-- the number of the code with which a refusal is printed: 5 for P5
abbrev pub cause_number : Refusal → ℕ
cause_number refusal.NotDmis = 1
cause_number refusal.Truncated = 2
cause_number refusal.LineTooLong = 3
cause_number refusal.BadByte = 4
cause_number refusal.Unsupported = 5
cause_number refusal.BadArguments = 6
cause_number (refusal.BadNumeral fault) = 7
cause_number refusal.OutsideBlock = 8
cause_number refusal.InsideBlock = 9
cause_number refusal.TooFewPoints = 10
cause_number refusal.UnknownFrame = 11
cause_number refusal.NotMillimetres = 12
cause_number refusal.NoProgMode = 13
cause_number refusal.ZeroVector = 14
cause_number refusal.NoTool = 15
cause_number refusal.TooLarge = 16

-- the number of the code of a bad numeral: 2 for N2; 0 if the refusal is another
abbrev pub numeral_number : Refusal → ℕ
numeral_number (refusal.BadNumeral numeral.NotNumeral) = 1
numeral_number (refusal.BadNumeral numeral.TooManyDigits) = 2
numeral_number (refusal.BadNumeral numeral.TooLarge) = 3
numeral_number _ = 0

-- the setup is read; with its frames the first refusal in the program is this one, on this line
pub record IsRefusedFor (setup program : List ℕ) (cause fault line : ℕ) : Type 0 where
  pub known : SetupValue
  pub setup_is : setup_of setup ≡ Ok known
  pub why : Refusal
  pub refused : program_of known.frames program ≡ Err (why, line)
  pub cause_is : cause ≡ cause_number why
  pub fault_is : fault ≡ numeral_number why
