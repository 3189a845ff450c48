-- What an expression is made of: the operator that is applied last, and the texts around it (ISO 22093, expressions; operators of one rank
-- apply from left to right). A `*` is 42, a `+` 43, a `-` 45, a `.` 46, a `/` 47, an `E` 69.
use Rattle.std.specs.Prelude.{ℕ, zero, suc, ◌+◌, ◌-◌, Bool, true, false, ◌&&◌, ◌||◌, not, ◌==◌, List, [], ◌∷◌, length, take, drop}
use Rattle.std.specs.Prelude.{Option, Some, None, slice_index, if◌then◌else◌}
use Rattle.std.specs.Char.{is_ascii_digit}
use Rattle.std.specs.List.{position}
use Rattle.program_flow.specs.declared.places.Place.{Place}
use Rattle.program_flow.specs.declared.places.Place.TheVariants.{Wanted, InNumeral, AfterMark, Ended}
use Rattle.program_flow.specs.declared.places.Rank.{Rank}
use Rattle.program_flow.specs.declared.places.Rank.TheVariants.{Sums, Products, Powers}
use Rattle.program_flow.specs.declared.places.Operator.{Operator}
use Rattle.program_flow.specs.declared.places.Operator.TheVariants.{Plus, Minus, Times, Over, Power}

abbrev pub is_blank : ℕ → Bool
is_blank c = (c == 32) || (c == 9)

abbrev pub is_sign : ℕ → Bool
is_sign c = (c == 43) || (c == 45)

-- an operator, or the beginning of parentheses: an operand must follow
abbrev pub asks_operand : ℕ → Bool
asks_operand c = is_sign c || ((c == 42) || ((c == 47) || (c == 40)))

abbrev pub begins_numeral : ℕ → Bool
begins_numeral c = is_ascii_digit c || (c == 46)

-- a sign directly after the E of a numeral belongs to it
abbrev pub is_in_numeral : Place → ℕ → Bool
is_in_numeral Wanted c = false
is_in_numeral InNumeral c = false
is_in_numeral AfterMark c = is_sign c
is_in_numeral Ended c = false

-- the place after a byte of an operand
abbrev pub in_operand : Place → ℕ → Place
in_operand Wanted c = if begins_numeral c then InNumeral else Ended
in_operand InNumeral c = if begins_numeral c then InNumeral else (if c == 69 then AfterMark else Ended)
in_operand AfterMark c = Ended
in_operand Ended c = Ended

-- the place after a byte
abbrev pub place_after : Place → ℕ → Place
place_after place c = if is_blank c then place else
    (if asks_operand c && not (is_in_numeral place c) then Wanted else in_operand place c)

-- how many parentheses are open after a byte
abbrev pub depth_after : ℕ → ℕ → ℕ
depth_after depth c = if c == 40 then depth + 1 else (if c == 41 then depth - 1 else depth)

-- an operand is before an operator that has two
abbrev pub follows_operand : Place → Bool
follows_operand Wanted = false
follows_operand InNumeral = true
follows_operand AfterMark = true
follows_operand Ended = true

-- an operator of this rank begins here, before what follows
abbrev pub has_rank : Rank → ℕ → List ℕ → Bool
has_rank Sums c next = is_sign c
has_rank Products c next = (c == 47) || ((c == 42) && not (slice_index next 0 == 42))
has_rank Powers c next = (c == 42) && (slice_index next 0 == 42)

-- outside parentheses, between two operands
abbrev pub is_operator : Rank → ℕ → Place → ℕ → List ℕ → Bool
is_operator rank depth place c next =
    (depth == 0) && (follows_operand place && (not (is_in_numeral place c) && has_rank rank c next))

-- a place in the rest, or this one, or none
abbrev pub later : Option ℕ → Bool → Option ℕ
later (Some i) here = Some (i + 1)
later None here = if here then Some 0 else None

-- where the last operator of a rank outside parentheses is
abbrev pub last_operator : Rank → ℕ → Place → List ℕ → Option ℕ
last_operator rank depth place [] = None
last_operator rank depth place (c ∷ cs) =
    later (last_operator rank (depth_after depth c) (place_after place c) cs) (is_operator rank depth place c cs)

abbrev pub operator_of : Rank → ℕ → Operator
operator_of Sums c = if c == 45 then Minus else Plus
operator_of Products c = if c == 47 then Over else Times
operator_of Powers c = Power

abbrev pub operator_length : Rank → ℕ
operator_length Sums = 1
operator_length Products = 1
operator_length Powers = 2

-- without blanks at both ends
abbrev pub without_front : List ℕ → List ℕ
without_front [] = []
without_front (c ∷ cs) = if is_blank c then without_front cs else c ∷ cs

abbrev pub kept_count : ℕ → ℕ → ℕ
kept_count c zero = if is_blank c then 0 else 1
kept_count c (suc n) = suc n + 1

abbrev pub kept_length : List ℕ → ℕ
kept_length [] = 0
kept_length (c ∷ cs) = kept_count c (kept_length cs)

abbrev pub trimmed : List ℕ → List ℕ
trimmed text = take (kept_length (without_front text)) (without_front text)

-- two operands, the opposite of one, one as it is, a function of one (with no name: parentheses), a numeral or a name
pub data Parts : Type 0 where
  Both : List ℕ → Operator → List ℕ → Parts
  Opposite : List ℕ → Parts
  Same : List ℕ → Parts
  Called : List ℕ → List ℕ → Parts
  Leaf : List ℕ → Parts

abbrev pub both_around : Rank → List ℕ → ℕ → Parts
both_around rank text i = Both (take i text) (operator_of rank (slice_index text i)) (drop (i + operator_length rank) text)

-- cut at the place, or else as given
abbrev pub cut_or : Rank → List ℕ → Option ℕ → Parts → Parts
cut_or rank text (Some i) other = both_around rank text i
cut_or rank text None other = other

-- after the first `(`, up to a `)` that ends the text
abbrev pub called : List ℕ → ℕ → List ℕ → Parts
called text i [] = Leaf text
called text i (c ∷ cs) = if slice_index cs (length cs - 1) == 41 then Called (trimmed (take i text)) (take (length cs - 1) cs) else Leaf text

abbrev pub called_at : List ℕ → Option ℕ → Parts
called_at text None = Leaf text
called_at text (Some i) = called text i (drop i text)

-- a name and parentheses, or one numeral or name, unless a power is to be taken
abbrev pub unsigned_parts : List ℕ → Parts
unsigned_parts text = cut_or Powers text (last_operator Powers 0 Wanted text) (called_at text (position (λ b. b == 40) text))

abbrev pub signed_parts : List ℕ → Parts
signed_parts [] = Leaf []
signed_parts (c ∷ cs) = if c == 45 then Opposite cs else (if c == 43 then Same cs else unsigned_parts (c ∷ cs))

-- sums are applied last, then products, then a sign before an operand, then powers
abbrev pub parts_of_trimmed : List ℕ → Parts
parts_of_trimmed text = cut_or Sums text (last_operator Sums 0 Wanted text) (cut_or Products text (last_operator Products 0 Wanted text)
    (signed_parts text))

unfoldable pub parts_of : List ℕ → Parts
parts_of text = parts_of_trimmed (trimmed text)
