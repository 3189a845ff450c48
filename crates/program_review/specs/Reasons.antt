-- Which cause belongs to which refusal of a program, and which word is at fault (this profile): a table.
use Rattle.std.specs.Prelude.{◌≡◌, ℕ, ◌-◌, ◌==◌, List, length, find, Option, Some, None, IfSome, slice_get, option_and_then}
use Rattle.std.specs.Option.{option_map}
use Rattle.std.specs.Str.Lines.{lines}
use Rattle.dmis_text.specs.Reading.{text_reading}
use Rattle.dmis_text.specs.declared.elements.Statement.{Statement}
use Rattle.dmis_program.specs.declared.faults.Refusal.{Refusal}
use Rattle.dmis_program.specs.declared.faults.Refusal.TheVariants as refusal
use Rattle.program_review.specs.Lines.{first_of, bytes_from}
use Rattle.program_review.specs.declared.causes.Cause.TheVariants as cause
use Rattle.program_review.specs.declared.programs.Passage.{Passage}
use Rattle.program_review.specs.Words.{Caused, of_line}
use Rattle.program_review.specs.Spots.{Site, at_word}
use Rattle.program_review.specs.BadBytes.{IsByteReason}
use Rattle.program_review.specs.Blocks.{OpenBlock, opened_by, open_block}
use Rattle.program_review.specs.Causes as why
use Rattle.program_review.specs.Numerals.{bad_numeral}
use Rattle.program_review.specs.Arguments.{argument_cause}

-- what the causes on a line of a program are made of: its text, the bytes from the line on, the statement that begins on it, the last one of
-- the text, and the block that is open above
pub record Spot : Type 0 where
  pub text : List ℕ
  pub rest : List ℕ
  pub statement : Option Statement
  pub last : Option Statement
  pub block : Option OpenBlock

-- how the code keeps it
abbrev pub spot_at : Passage → Spot
spot_at p = record {
  text = p.text.now;
  rest = p.rest.now;
  statement = option_map (λ s. s.now) p.statement;
  last = option_map (λ s. s.now) p.last;
  block = option_map opened_by p.block;
}

-- line n of a text with these statements
abbrev pub spot_in : List ℕ → ℕ → List Statement → Spot
spot_in text n statements = record {
  text = text;
  rest = bytes_from n text;
  statement = find (λ s. s.line == n) statements;
  last = slice_get statements (length statements - 1);
  block = open_block statements n;
}

abbrev pub spot_of : List ℕ → ℕ → Spot
spot_of text n = spot_in text n (text_reading text).statements

-- of the statement that begins on the line, where this block is open; none if no statement there is refused for this
abbrev pub statement_cause : Refusal → Option OpenBlock → Site → Option Caused
statement_cause refusal.NotDmis b p = at_word p cause.NotFirst
statement_cause refusal.Unsupported b p = why.unsupported p
statement_cause refusal.BadArguments b p = argument_cause p
statement_cause (refusal.BadNumeral fault) b p = bad_numeral p
statement_cause refusal.OutsideBlock b p = at_word p cause.OutsideBlock
statement_cause refusal.InsideBlock b p = option_and_then (why.inside p) b
statement_cause refusal.TooFewPoints b p = option_and_then (why.few_touches p) b
statement_cause refusal.UnknownFrame b p = why.unknown_frame p
statement_cause refusal.NotMillimetres b p = why.first_at_fault p cause.OtherUnit
statement_cause refusal.NoProgMode b p = why.first_at_fault p cause.OtherMode
statement_cause refusal.ZeroVector b p = why.zero_direction p
statement_cause refusal.NoTool b p = at_word p cause.NoTool
statement_cause refusal.TooLarge b p = at_word p cause.TooLarge
statement_cause _ b p = None

-- a text without a statement does not begin with a `DMISMN`
abbrev pub lonely : Refusal → Option Caused
lonely refusal.NotDmis = Some (of_line cause.NoStatement)
lonely _ = None

-- of the statement, if one begins there
abbrev pub cause_with : Option Statement → Refusal → Spot → Option Caused
cause_with None refusal p = lonely refusal
cause_with (Some s) refusal p = statement_cause refusal p.block (record { rest = p.rest; statement = s })

-- of the line: of itself, or of its statement
abbrev pub IsOfPlace : Refusal → Spot → Option Caused → Type 0
IsOfPlace refusal.Truncated p o = o ≡ option_map why.ended p.last
IsOfPlace refusal.LineTooLong p o = o ≡ Some (why.long_line (length (first_of (lines p.rest))))
IsOfPlace refusal.BadByte p o = IsByteReason p.text p.rest o
IsOfPlace refusal p o = o ≡ cause_with p.statement refusal p

-- the cause that is shown: that of the place, if it has one
pub record IsProgramReason (refusal : Refusal) (p : Spot) (shown : Caused) : Type 0 where
  pub given : Option Caused
  pub on_place : IsOfPlace refusal p given
  pub is_shown : IfSome given (λ c. shown ≡ c)
