-- What calls do, in the words that contracts share.
use Rattle.std.specs.Prelude.{◌≡◌, ◌≤◌, ◌+◌, ◌++◌, ℕ, List, Option, MatchOption, Result, OnOk, OnErr, vec_len, vec_capacity, Vec}

-- a call does all that is said, or answers an error and changes nothing
abbrev pub Leads : {A E S : Type 0} → Result A E → S → S → S → Type 0
Leads result old new then = OnOk result (new ≡ then) × OnErr result (new ≡ old)

-- there is room for that many bytes more
abbrev pub HasRoom : {X Z : Type 0} → Vec X Z → ℕ → Type 0
HasRoom out count = vec_len out + count ≤ vec_capacity out

-- at most that many bytes were appended, and no room was lost
abbrev pub Grows : {X Z : Type 0} → Vec X Z → Vec X Z → ℕ → Type 0
Grows old new most = (vec_len new ≤ vec_len old + most) × (vec_capacity old ≤ vec_capacity new)

-- a text joined the end, or an error is answered and nothing did
abbrev pub Writes : {A E X Z : Type 0} → Result A E → Vec X Z → Vec X Z → List X → Type 0
Writes result old new text = OnOk result (new.items ≡ old.items ++ text) × OnErr result (new.items ≡ old.items)

-- what is found is such a thing; if nothing is found, no such thing exists
abbrev pub Finds : {A : Type 0} → Option A → (A → Type 0) → Type 0
Finds {A} found Is = MatchOption found ((a : A) → Is a → ⊥) Is

-- what is shown is the value, and each such value is of this sort
abbrev pub Shows : {S : Type 0} → S → S → (S → Type 0) → Type 0
Shows shown value Is = (shown ≡ value) × Is value
