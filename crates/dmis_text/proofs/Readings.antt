-- A part more of a statement that continues.
use Rattle.dmis_text.proofs.Names.{[], ◌++◌, ◌+◌, ◌-◌, ◌<◌, ◌∙◌, ◌∷◌, ◌≡◌, ◌≤◌, ap, append_assoc, arith, begun_of, Bool, cond, false, grown, IfNone}
use Rattle.dmis_text.proofs.Names.{inside_after, is_open, length, List, None, Option, refl, rules, Some, sym, true, unwrap_or, ℕ}
use Rattle.dmis_text.proofs.Comments.{inside_after-append}

-- a part more in the code's form
pub grown_as : (first : Option ℕ) (text : List ℕ) (line : ℕ) (part : List ℕ) → IfNone first (text ≡ [])
    → grown (begun_of first text) line part ≡ record { line = unwrap_or first line; text = text ++ part }
grown_as None text line part none = rw none
grown_as (Some first) text line part none = refl

-- whether a text is open after it
pub open_behind : (first : Option ℕ) (text part : List ℕ) → IfNone first (text ≡ [])
    → inside_after (is_open (begun_of first text)) part ≡ inside_after false (text ++ part)
open_behind None text part none = rw none
open_behind (Some first) text part none = sym (inside_after-append false text part)

-- for the code that joins parts
pub ruleset parts = (grown_as, open_behind, append_assoc)
