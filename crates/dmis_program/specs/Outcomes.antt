-- Steps that may be refused.
use Rattle.std.specs.Prelude.{◌≡◌, ℕ, Result, Ok, Err}
use Rattle.dmis_program.specs.declared.faults.Refusal.{Refusal}
use Rattle.dmis_program.specs.declared.faults.Refusal.TheVariants.{LineTooLong, BadByte, BadNumeral}
use Rattle.dmis_program.specs.declared.faults.ProgramFault.{ProgramFault}
use Rattle.dmis_program.specs.declared.faults.ProgramFault.TheVariants as program
use Rattle.dmis_text.specs.declared.reading.TextFault.{TextFault}
use Rattle.dmis_text.specs.declared.reading.TextFault.TheVariants as text
use Rattle.dmis_program.specs.declared.faults.StatementFault.{StatementFault}
use Rattle.dmis_program.specs.declared.faults.StatementFault.TheVariants as faults
use Rattle.fixed_um.specs.declared.numerals.NumeralFault.{NumeralFault}

-- one step, and then the next with what it gave
infixl 10 ◌>>=◌
abbrev pub ◌>>=◌ : {A B : Type 0} → Result A Refusal → (A → Result B Refusal) → Result B Refusal
(Ok x) >>= f = f x
(Err e) >>= f = Err e

-- a numeral's fault as a refusal of the program
abbrev pub numeral_refused : {A : Type 0} → Result A NumeralFault → Result A Refusal
numeral_refused (Ok x) = Ok x
numeral_refused (Err fault) = Err (BadNumeral fault)

-- what a call gives is what is due, unless memory ran out
abbrev pub Gives : {A : Type 0} → Result A StatementFault → Result A Refusal → Type 0
Gives (Ok x) due = due ≡ Ok x
Gives (Err (faults.Refused refusal)) due = due ≡ Err refusal
Gives (Err faults.Memory) due = Unit {0}

-- the faults of a statement and of a text as those of a program
abbrev pub fault_at : StatementFault → ℕ → ProgramFault
fault_at (faults.Refused refusal) line = program.Refused refusal line
fault_at faults.Memory line = program.Memory

abbrev pub text_refused : TextFault → ProgramFault
text_refused (text.LineTooLong line) = program.Refused LineTooLong line
text_refused (text.BadByte line) = program.Refused BadByte line
text_refused text.Memory = program.Memory

-- what reading a program gives is what is due, unless memory ran out
abbrev pub GivesProgram : {A : Type 0} → Result A ProgramFault → Result A (Refusal × ℕ) → Type 0
GivesProgram (Ok x) due = due ≡ Ok x
GivesProgram (Err (program.Refused refusal line)) due = due ≡ Err (refusal, line)
GivesProgram (Err program.Memory) due = Unit {0}

abbrev pub refused_at : Refusal × ℕ → ProgramFault
refused_at e = program.Refused e.0 e.1
