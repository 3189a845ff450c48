-- What follows lines does not matter to what they say.
use Rattle.std.proofs.Common.{◌≡◌, ℕ, ◌+◌, List, [], ◌∷◌, ◌++◌, length, Result, Ok, Err, refl, sym, ◌∙◌, arith, length-append}
use Rattle.tool_rack.specs.Entries.{entry_on}
use Rattle.tool_rack.specs.Setups.{judged, and_then, entries_from}
use Rattle.tool_rack.specs.declared.entries.Entry.{Entry}
use Rattle.tool_rack.specs.declared.faults.SetupFault.{SetupFault}

-- one line and the lines after it, whatever it says
joined_line : (above : List Entry) (lines behind : List (List ℕ)) (r : Result Entry SetupFault)
    → ((more : List Entry) → entries_from more (lines ++ behind) ≡ and_then (entries_from more lines) (λ es. entries_from es behind))
    → and_then r (λ e. entries_from (above ++ e ∷ []) (lines ++ behind))
    ≡ and_then (and_then r (λ e. entries_from (above ++ e ∷ []) lines)) (λ es. entries_from es behind)
joined_line above lines behind (Err f) rest = refl
joined_line above lines behind (Ok e) rest = rest (above ++ e ∷ [])

-- what lines say, and then what the others say below them
joined : (front behind : List (List ℕ)) (above : List Entry)
    → entries_from above (front ++ behind) ≡ and_then (entries_from above front) (λ es. entries_from es behind)
joined [] behind above = refl
joined (line ∷ lines) behind above = joined_line above lines behind (judged (length above + 1) above (entry_on (length above + 1) line))
    (λ more. joined lines behind more)

-- each line that is not refused says one entry
counted_line : (above : List Entry) (lines : List (List ℕ)) (es : List Entry) (r : Result Entry SetupFault)
    → ((more : List Entry) → entries_from more lines ≡ Ok es → length es ≡ length more + length lines)
    → and_then r (λ e. entries_from (above ++ e ∷ []) lines) ≡ Ok es → length es ≡ length above + (1 + length lines)
counted_line above lines es (Err f) rest h = absurd cc
counted_line above lines es (Ok e) rest h =
    let n : length es ≡ length (above ++ e ∷ []) + length lines = rest (above ++ e ∷ []) h in
    let m : length (above ++ e ∷ []) ≡ length above + 1 = length-append above (e ∷ []) in
    omega arith

counted : (lines : List (List ℕ)) (above es : List Entry) → entries_from above lines ≡ Ok es → length es ≡ length above + length lines
counted [] above es h = let e : above ≡ es = cc in rw e (omega arith)
counted (line ∷ lines) above es h = counted_line above lines es (judged (length above + 1) above (entry_on (length above + 1) line))
    (λ more. counted lines more es) h ∙ omega arith

same_count : (front : List (List ℕ)) (above : List Entry) → entries_from [] front ≡ Ok above → length above ≡ length front
same_count front above h = counted front [] above h ∙ omega arith

pub first_refused : (front : List (List ℕ)) (line : List ℕ) (behind : List (List ℕ)) (above : List Entry) (fault : SetupFault)
    → entries_from [] front ≡ Ok above → judged (length front + 1) above (entry_on (length front + 1) line) ≡ Err fault
    → entries_from [] (front ++ line ∷ behind) ≡ Err fault
first_refused front line behind above fault h r =
    let t = rw (sym (same_count front above h)) at r in
    joined front (line ∷ behind) [] ∙ rw (h, t) refl

pub not_refused : (front : List (List ℕ)) (line : List ℕ) (above : List Entry) (e : Entry)
    → entries_from [] front ≡ Ok above → judged (length front + 1) above (entry_on (length front + 1) line) ≡ Ok e
    → entries_from [] (front ++ line ∷ []) ≡ Ok (above ++ e ∷ [])
not_refused front line above e h r =
    let t = rw (sym (same_count front above h)) at r in
    joined front (line ∷ []) [] ∙ rw (h, t) refl
