-- How the contacts of runs are numbered, line by line, as the code does it: no public clause cites this.
use Rattle.std.specs.Prelude.{ℕ, ◌==◌, if◌then◌else◌, Bool, true, false, not, Option, Some, None, List, [], ◌∷◌, ◌++◌}
use Rattle.contact_ledger.specs.declared.acts.Act.{Act}
use Rattle.contact_ledger.specs.declared.acts.Act.TheVariants as act
use Rattle.witness.specs.Runs.{Part, Made, Doubtful, Ends, Passes}

-- whether a contact on a connection is next to the one before it, by the connection on which the next one would be so
abbrev pub is_joined : Option ℕ → ℕ → Bool
is_joined None n = false
is_joined (Some m) n = n == m

-- whether the number of a contact is the second of the two, by that of the contact before it
abbrev pub second_for : Bool → Option ℕ → ℕ → Bool
second_for second on n = if is_joined on n then second else not second

abbrev pub number_of : Bool → ℕ
number_of true = 2
number_of false = 1

-- what is known after a line
abbrev pub second_after : Bool → Option ℕ → ℕ → Part → Bool
second_after second on n (Made target dir tool frame point) = second_for second on n
second_after second on n Doubtful = second
second_after second on n Ends = second
second_after second on n Passes = second

abbrev pub open_after : Option ℕ → ℕ → Part → Option ℕ
open_after on n (Made target dir tool frame point) = Some n
open_after on n Doubtful = None
open_after on n Ends = if is_joined on n then None else on
open_after on n Passes = on

-- the contact of a line
abbrev pub pushed : Bool → Option ℕ → ℕ → Part → List (ℕ × Act)
pushed second on n (Made target dir tool frame point) =
    (number_of (second_for second on n), act.Contact target dir tool frame point) ∷ []
pushed second on n Doubtful = []
pushed second on n Ends = []
pushed second on n Passes = []

-- the contacts of lines
abbrev pub numbered_from : Bool → Option ℕ → List (ℕ × Part) → List (ℕ × Act)
numbered_from second on [] = []
numbered_from second on ((n, part) ∷ lines) =
    pushed second on n part ++ numbered_from (second_after second on n part) (open_after on n part) lines
