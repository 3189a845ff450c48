-- What one line of limits says, or why it is refused (this profile). A point is 46, the letters of an exponent are 69 and 101.
use Rattle.std.specs.Prelude.{ℕ, ◌-◌, Bool, not, ◌&&◌, ◌||◌, ◌==◌, List, [], ◌∷◌, length, codes, nat_le, ℤ}
use Rattle.std.specs.Prelude.{Option, Some, None, Result, Ok, Err, if◌then◌else◌}
use Rattle.std.specs.List.{list_all, prefix_len}
use Rattle.std.specs.Str.{bytes_eq}
use Rattle.fixed_um.specs.Names.{is_name_text, folded}
use Rattle.fixed_um.specs.declared.numerals.NumeralFault.{NumeralFault}
use Rattle.tool_rack.specs.Entries.{length_of}
use Rattle.tool_rack.specs.Fields.{fields_of, is_dropped, has_outer_space, is_word}
use Rattle.deviations.specs.Ranges.{range_between}
use Rattle.deviations.specs.declared.entries.Limit.{Limit}
use Rattle.deviations.specs.declared.limit_faults.LimitsFault.{LimitsFault}
use Rattle.deviations.specs.declared.limit_faults.LimitsFault.TheVariants.{NotLimit, EmptyRange}
use Rattle.deviations.specs.declared.ranges.Range.{Range}

-- how many bytes a numeral has from its point on
abbrev pub from_point : List ℕ → ℕ
from_point text = length text - prefix_len (λ b. not (b == 46)) text

-- a byte that does not begin an exponent
abbrev pub is_no_exponent : ℕ → Bool
is_no_exponent b = not (b == 69) && not (b == 101)

-- a numeral without an exponent, and with at most three decimals: it writes whole micrometres
abbrev pub is_in_micrometres : List ℕ → Bool
is_in_micrometres text = list_all is_no_exponent text && nat_le (from_point text) 4

abbrev pub if_read : Result ℤ NumeralFault → Option ℤ
if_read (Ok length) = Some length
if_read (Err fault) = None

-- the length in micrometres that such a numeral in millimetres writes, within the machine's volume
abbrev pub length_in : List ℕ → Option ℤ
length_in text = if is_in_micrometres text then if_read (length_of text) else None

abbrev pub named_in : List ℕ → Option (Option (List ℕ))
named_in field = if is_name_text field then Some (Some (folded field)) else None

-- the label that a field names, or none for `*`; nothing if it is neither
abbrev pub label_in : List ℕ → Option (Option (List ℕ))
label_in field = if bytes_eq field (codes "*") then Some None else named_in field

abbrev pub limit_with : ℕ → Option (List ℕ) → Option Range → Result (Option Limit) LimitsFault
limit_with n label None = Err (EmptyRange n)
limit_with n label (Some range) = Ok (Some (record { label = label; range = range }))

-- a label and two lengths, of which the lower is not the greater
abbrev pub limit_from : ℕ → Option (Option (List ℕ)) → Option ℤ → Option ℤ → Result (Option Limit) LimitsFault
limit_from n None lower upper = Err (NotLimit n)
limit_from n (Some label) None upper = Err (NotLimit n)
limit_from n (Some label) (Some lower) None = Err (NotLimit n)
limit_from n (Some label) (Some lower) (Some upper) = limit_with n label (range_between lower upper)

-- the three fields after the word
abbrev pub limit_values : ℕ → List (List ℕ) → Result (Option Limit) LimitsFault
limit_values n (label ∷ lower ∷ upper ∷ []) = limit_from n (label_in label) (length_in lower) (length_in upper)
limit_values n _ = Err (NotLimit n)

-- what the fields of line n say: the first is the word
unfoldable pub limit_fields : ℕ → List (List ℕ) → Result (Option Limit) LimitsFault
limit_fields n [] = Err (NotLimit n)
limit_fields n (word ∷ values) = if is_word (codes "LIMIT") word then limit_values n values else Err (NotLimit n)

-- what line n says by itself: a limit or nothing, or its refusal
unfoldable pub entry_on : ℕ → List ℕ → Result (Option Limit) LimitsFault
entry_on n line = if is_dropped line then Ok None else (if has_outer_space line then Err (NotLimit n) else limit_fields n (fields_of line))
