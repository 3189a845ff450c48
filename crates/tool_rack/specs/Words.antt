-- The words of a command line with those that a machine's file gives (this profile). A hyphen is 45, `=` is 61.
use Rattle.std.specs.Prelude.{ℕ, Bool, true, false, not, ◌==◌, ◌&&◌, ◌||◌, ◌++◌, List, [], ◌∷◌, take, drop, length, slice_index, codes, Option, Some, None, map, if◌then◌else◌}
use Rattle.std.specs.List.{filter, prefix_len}
use Rattle.std.specs.Str.{bytes_eq}
use Rattle.tool_rack.specs.MachineEntries.{Given}

-- a word ends the options
abbrev pub ends_options : List ℕ → Bool
ends_options word = bytes_eq word (codes "--")

-- a word gives this option, with its value or before it
abbrev pub is_given : List ℕ → List ℕ → Bool
is_given option word = (slice_index word 0 == 45) && ((slice_index word 1 == 45)
    && bytes_eq (take (prefix_len (λ b. not (b == 61)) (drop 2 word)) (drop 2 word)) option)

abbrev pub names_option : List ℕ → List (List ℕ) → Bool
names_option option [] = false
names_option option (word ∷ words) = not (ends_options word) && (is_given option word || names_option option words)

-- the value of an option: after its `=`, or the next word
abbrev pub first_of : List (List ℕ) → Option (List ℕ)
first_of [] = None
first_of (word ∷ words) = Some word

abbrev pub value_with : List ℕ → List (List ℕ) → Option (List ℕ)
value_with word words = if bytes_eq (take 10 word) (codes "--machine=") then Some (drop 10 word) else first_of words

abbrev pub machine_in : List (List ℕ) → Option (List ℕ)
machine_in [] = None
machine_in (word ∷ words) = if ends_options word then None else
    (if is_given (codes "machine") word then value_with word words else machine_in words)

-- the machine's file that a command line names, whose second word is the command
abbrev pub named_machine : List (List ℕ) → Option (List ℕ)
named_machine (program ∷ (command ∷ words)) = if bytes_eq command (codes "run") then machine_in words else None
named_machine _ = None

-- the words for the options that the command line does not name
abbrev pub added : List Given → List (List ℕ) → List (List ℕ)
added [] words = []
added (g ∷ machine) words = if names_option g.option words then added machine words else g.word ∷ added machine words

-- a command line with them, after its command
abbrev pub with_machine : List Given → List (List ℕ) → List (List ℕ)
with_machine machine (program ∷ (command ∷ words)) = program ∷ (command ∷ (added machine words ++ words))
with_machine machine words = words
