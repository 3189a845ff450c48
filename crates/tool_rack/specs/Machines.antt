-- What the text of a machine's file says (this profile).
use Rattle.std.specs.Prelude.{◌≡◌, ℕ, ◌+◌, Bool, List, [], ◌∷◌, ◌++◌, Option, Some, None, Result, Ok, Err, if◌then◌else◌}
use Rattle.std.specs.List.{list_any}
use Rattle.std.specs.Str.{bytes_eq}
use Rattle.std.specs.Str.Lines.{lines}
use Rattle.tool_rack.specs.MachineEntries.{Given, given_on}
use Rattle.tool_rack.specs.declared.machine_faults.MachineFault.{MachineFault}
use Rattle.tool_rack.specs.declared.machine_faults.MachineFault.TheVariants as fault

-- an option has its value already
abbrev pub has_option : List Given → List ℕ → Bool
has_option above option = list_any (λ g. bytes_eq g.option option) above

-- the lines above and what line n says: it is refused by itself, or for an option that is above
abbrev pub judged : ℕ → List Given → Result (Option Given) MachineFault → Result (List Given) MachineFault
judged n above (Err fault) = Err fault
judged n above (Ok None) = Ok above
judged n above (Ok (Some g)) = if has_option above g.option then Err (fault.Twice n) else Ok (above ++ g ∷ [])

-- one step, and then the next with what it gave
abbrev pub and_then : Result (List Given) MachineFault → (List Given → Result (List Given) MachineFault) → Result (List Given) MachineFault
and_then (Ok x) f = f x
and_then (Err e) f = Err e

-- what lines say below those that said `above`, the first of them with number n; or the refusal of the first line that is refused
abbrev pub given_from : ℕ → List Given → List (List ℕ) → Result (List Given) MachineFault
given_from n above [] = Ok above
given_from n above (line ∷ lines) = and_then (judged n above (given_on n line)) (λ more. given_from (n + 1) more lines)

-- the options of a text, or the refusal of its first line that is refused. A line ends with LF or CR LF, the last may lack its end
unfoldable pub machine_of : List ℕ → Result (List Given) MachineFault
machine_of text = given_from 1 [] (lines text)

-- this fault is due; running out of memory says nothing of the text
abbrev pub IsDue : {A : Type 0} → Result A MachineFault → MachineFault → Type 0
IsDue due (fault.BadLine n) = due ≡ Err (fault.BadLine n)
IsDue due (fault.Twice n) = due ≡ Err (fault.Twice n)
IsDue due fault.Memory = Unit {0}

-- what reading gives is what is due, unless memory ran out
abbrev pub GivesMachine : {A : Type 0} → Result A MachineFault → Result A MachineFault → Type 0
GivesMachine (Ok x) due = due ≡ Ok x
GivesMachine (Err fault) due = IsDue due fault
