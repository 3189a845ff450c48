-- Lines of bare bytes, where no statement has begun before them: what they are to a reading.
use Rattle.dmis_text.proofs.Names.{◌+◌, ◌∷◌, ◌≡◌, all_blank, before_comment, false, is_bare, is_clean, length, List, list_all, nat_lt, reading_of}
use Rattle.dmis_text.proofs.Names.{statement_of, true, with_first, ℕ}
use Rattle.dmis_text.proofs.Bare.{bare_ends}

-- blanks, and perhaps a comment after them, count for nothing
pub dropped_line : (n : ℕ) (line content : List ℕ) (rest : List (List ℕ)) → nat_lt 4096 (length line) ≡ false
    → content ≡ before_comment false line → is_clean false line ≡ true → all_blank content ≡ true
    → reading_of n (line ∷ rest) ≡ reading_of (n + 1) rest
dropped_line n line content rest short is clean blank = rw (short, clean, ← is, blank)

-- other bare bytes are a statement
pub last_line : (n : ℕ) (line content : List ℕ) (rest : List (List ℕ)) → nat_lt 4096 (length line) ≡ false
    → content ≡ before_comment false line → is_clean false line ≡ true → list_all is_bare content ≡ true → all_blank content ≡ false
    → reading_of n (line ∷ rest) ≡ with_first (statement_of n content) (reading_of (n + 1) rest)
last_line n line content rest short is clean bare some = rw (short, clean, ← is, some, bare_ends content bare)

-- for the code that looks for a statement on one line
pub ruleset whole_lines = (dropped_line, last_line)
