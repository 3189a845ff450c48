-- The lines on which statements begin.
use Rattle.dmis_text.proofs.Names.{[], ◌+◌, ◌<◌, ◌∙◌, ◌∷◌, ◌≡◌, ◌≤◌, all_blank, arith, Bool, cond, Continued, cut_at, Damaged, Dropped, ended, false}
use Rattle.dmis_text.proofs.Names.{finished, grown, headed, IfSome, is_open, Last, length, line_role, List, None, OpenStatement, Option, parted}
use Rattle.dmis_text.proofs.Names.{read_line, Reading, reading_of, reading_with, refl, Role, Some, Statement, statement_of, TooLong, true, ℕ}
use Rattle.dmis_text.specs.Numbers.{AreNumbered, IsFaultWithin}
use Rattle.dmis_text.specs.declared.reading.TextFault.{TextFault}
use Rattle.dmis_text.specs.declared.reading.TextFault.TheVariants.{BadByte, LineTooLong, Memory}

line-headed : (line : ℕ) (params : List (List ℕ)) (head : List ℕ) (o : Option (List ℕ × List ℕ)) → (headed line params head o).line ≡ line
line-headed line params head None = refl
line-headed line params head (Some p) = refl

line-parted : (line : ℕ) (text : List ℕ) (o : Option (List ℕ × List ℕ)) → (parted line text o).line ≡ line
line-parted line text None = refl
line-parted line text (Some p) = line-headed line _ p.0 (cut_at 61 false p.0)

-- a statement begins on the line that it is given
pub line-statement_of : (line : ℕ) (text : List ℕ) → (statement_of line text).line ≡ line
line-statement_of line text = line-parted line text (cut_at 47 false text)

-- where the next statement begins at the earliest
abbrev start_of : Option OpenStatement → ℕ → ℕ
start_of None n = n
start_of (Some begun) n = begun.line

-- it has begun before line n
abbrev HasBegunBefore : Option OpenStatement → ℕ → Type 0
HasBegunBefore None n = Unit {0}
HasBegunBefore (Some begun) n = begun.line < n

-- a reading whose statements are numbered, and its refusal too
abbrev pub IsNumbered : ℕ → ℕ → Reading → Type 0
IsNumbered from to reading = AreNumbered from to reading.statements × IfSome reading.fault (IsFaultWithin from to)

line-grown : (begun : Option OpenStatement) (n : ℕ) (part : List ℕ) → (grown begun n part).line ≡ start_of begun n
line-grown None n part = refl
line-grown (Some begun) n part = refl

start_before : (begun : Option OpenStatement) (n : ℕ) → HasBegunBefore begun n → start_of begun n ≤ n
start_before None n h = omega arith
start_before (Some begun) n h = omega arith

-- statements that are numbered from a later line on are so from an earlier one on
earlier : (from later to : ℕ) (statements : List Statement) → from ≤ later → AreNumbered later to statements
    → AreNumbered from to statements
earlier from later to [] le h = tt
earlier from later to (s ∷ ss) le h = (omega (arith, h.0), h.1, h.2)

fault_earlier : (from later to : ℕ) (fault : Option TextFault) → from ≤ later → IfSome fault (IsFaultWithin later to)
    → IfSome fault (IsFaultWithin from to)
fault_earlier from later to None le h = tt
fault_earlier from later to (Some (LineTooLong n)) le h = (omega (arith, h.0), h.1)
fault_earlier from later to (Some (BadByte n)) le h = (omega (arith, h.0), h.1)
fault_earlier from later to (Some Memory) le h = h

by_role : (from to n : ℕ) (begun : Option OpenStatement) (role : Role) (rest : Option OpenStatement → Reading) → HasBegunBefore begun n
    → from ≤ start_of begun n → n < to
    → ((later : ℕ) (next : Option OpenStatement) → HasBegunBefore next (n + 1) → later ≤ start_of next (n + 1)
    → IsNumbered later to (rest next))
    → IsNumbered from to (read_line role begun n rest)
by_role from to n begun TooLong rest h low within ih = let start = start_before begun n h in (tt, (omega (arith, start), within))
by_role from to n begun Damaged rest h low within ih = let start = start_before begun n h in (tt, (omega (arith, start), within))
by_role from to n None Dropped rest h low within ih = ih from None tt (omega arith)
by_role from to n (Some begun) Dropped rest h low within ih = ih from (Some begun) (omega arith) low
by_role from to n begun (Continued part) rest h low within ih =
    let start = start_before begun n h in
    let line = line-grown begun n part in
    ih from (Some (grown begun n part)) (omega (arith, start, line)) (omega (arith, line))
by_role from to n begun (Last part) rest h low within ih =
    let start = start_before begun n h in
    let line : (finished (grown begun n part)).line ≡ start_of begun n =
    line-statement_of (grown begun n part).line (grown begun n part).text ∙ line-grown begun n part in
    let behind = ih (n + 1) None tt (omega arith) in (
      (omega (arith, line), omega (arith, line, start), earlier _ (n + 1) to (rest None).statements (omega (arith, line, start)) behind.0),
      fault_earlier from (n + 1) to (rest None).fault (omega (arith, start)) behind.1,
    )

at_end : (from to n : ℕ) (begun : Option OpenStatement) → HasBegunBefore begun n → from ≤ start_of begun n → n ≤ to
    → IsNumbered from to (ended begun)
at_end from to n None h low within = (tt, tt)
at_end from to n (Some begun) h low within = (go (all_blank begun.text), tt)
  where
    go : (t : Bool) → AreNumbered from to (cond t [] (finished begun ∷ []))
    go true = tt
    go false = let line = line-statement_of begun.line begun.text in (omega (arith, line), omega (arith, line), tt)

numbered : (from to n : ℕ) (begun : Option OpenStatement) (lines : List (List ℕ)) → HasBegunBefore begun n → from ≤ start_of begun n
    → n + length lines ≤ to → IsNumbered from to (reading_with begun n lines)
numbered from to n begun [] h low within = at_end from to n begun h low (omega arith)
numbered from to n begun (line ∷ lines) h low within =
    by_role from to n begun (line_role (is_open begun) line) (λ next. reading_with next (n + 1) lines) h low (omega arith)
    (λ later next g l. numbered later to (n + 1) next lines g l (omega arith))

-- the statements of a reading, and its refusal, stand on its lines
pub numbered_is : (n : ℕ) (lines : List (List ℕ)) → IsNumbered n (n + length lines) (reading_of n lines)
numbered_is n lines = numbered n (n + length lines) n None lines tt (omega arith) (omega arith)
