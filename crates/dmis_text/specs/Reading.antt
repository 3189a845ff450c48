-- The statements of a text as a function of its lines (ISO 22093, comments and continued lines; the limits are this profile's).
use Rattle.std.specs.Prelude.{◌≡◌, ℕ, ◌+◌, ◌-◌, Bool, List, [], ◌∷◌, length, Option, Some, None, nat_lt, if◌then◌else◌}
use Rattle.std.specs.Str.Lines.{lines}
use Rattle.dmis_text.specs.Texts.{all_blank, before_comment, is_clean, is_continued, without_mark}
use Rattle.dmis_text.specs.Begun.{OpenStatement, is_open, grown}
use Rattle.dmis_text.specs.Statements.{statement_of}
use Rattle.dmis_text.specs.declared.elements.Statement.{Statement}
use Rattle.dmis_text.specs.declared.reading.TextFault.{TextFault}
use Rattle.dmis_text.specs.declared.reading.TextFault.TheVariants.{LineTooLong, BadByte, Memory}

-- what a line is to its statement: too long, with a byte that may not be there, nothing, a part that continues, the last part
pub data Role : Type 0 where
  TooLong : Role
  Damaged : Role
  Dropped : Role
  Continued : List ℕ → Role
  Last : List ℕ → Role

-- the role by what is before the comment: blanks alone count for nothing, a `$` at the end continues and is left out
abbrev pub content_role : List ℕ → Role
content_role content = if all_blank content then Dropped else
    (if is_continued content then Continued (without_mark content) else Last content)

-- the role of a line, without its end, that begins inside a text or outside: its length is checked before its bytes
abbrev pub line_role : Bool → List ℕ → Role
line_role inside line = if nat_lt 4096 (length line) then TooLong else
    (if is_clean inside line then content_role (before_comment inside line) else Damaged)

-- what a text gives: statements, and the refusal that ends them
pub record Reading : Type 0 where
  pub statements : List Statement
  pub fault : Option TextFault

-- a refusal, and no statement before it
abbrev pub refused : TextFault → Reading
refused fault = record { statements = []; fault = Some fault }

-- a statement, and after it what the rest gives
abbrev pub with_first : Statement → Reading → Reading
with_first statement rest = record { statements = statement ∷ rest.statements; fault = rest.fault }

-- the statement of all its parts
abbrev pub finished : OpenStatement → Statement
finished begun = statement_of begun.line begun.text

-- at the end of the text a statement that has begun counts as far as it goes, and one of blanks alone does not
abbrev pub ended : Option OpenStatement → Reading
ended None = record { statements = []; fault = None }
ended (Some begun) = record { statements = (if all_blank begun.text then [] else finished begun ∷ []); fault = None }

-- line n in its role: `rest` reads the lines after it, with the statement that has begun by then
abbrev pub read_line : Role → Option OpenStatement → ℕ → (Option OpenStatement → Reading) → Reading
read_line TooLong begun n rest = refused (LineTooLong n)
read_line Damaged begun n rest = refused (BadByte n)
read_line Dropped begun n rest = rest begun
read_line (Continued part) begun n rest = rest (Some (grown begun n part))
read_line (Last part) begun n rest = with_first (finished (grown begun n part)) (rest None)

-- the lines from number n on, where a statement has begun before them or none has
abbrev pub reading_with : Option OpenStatement → ℕ → List (List ℕ) → Reading
reading_with begun n [] = ended begun
reading_with begun n (line ∷ lines) = read_line (line_role (is_open begun) line) begun n (λ next. reading_with next (n + 1) lines)

-- what the lines from number n on give
abbrev pub reading_of : ℕ → List (List ℕ) → Reading
reading_of n lines = reading_with None n lines

-- what a whole text gives
abbrev pub text_reading : List ℕ → Reading
text_reading text = reading_of 1 (lines text)

-- what is left of a text: statements, the refusal that ends them, and the count of lines of the whole text
pub record Unread : Type 0 where
  pub left : List Statement
  pub fault : Option TextFault
  pub lines : ℕ

-- the same where the lines from number n on are left
abbrev pub unread_from : ℕ → List (List ℕ) → Unread
unread_from n lines = record { left = (reading_of n lines).statements; fault = (reading_of n lines).fault; lines = n - 1 + length lines }

-- a refusal is due if nothing is left before it; running out of memory says nothing about the text
abbrev pub IsDue : Unread → TextFault → Type 0
IsDue unread (LineTooLong n) = (unread.left ≡ []) × (unread.fault ≡ Some (LineTooLong n))
IsDue unread (BadByte n) = (unread.left ≡ []) × (unread.fault ≡ Some (BadByte n))
IsDue unread Memory = Unit {0}
