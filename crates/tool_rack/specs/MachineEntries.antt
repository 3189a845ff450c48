-- What one line of a machine's file says: an option of a run, and its value (this profile). A space is 32.
use Rattle.std.specs.Prelude.{ℕ, Bool, not, ◌==◌, ◌&&◌, ◌++◌, List, take, drop, length, codes, Option, Some, None, Result, Ok, Err, if◌then◌else◌}
use Rattle.std.specs.List.{prefix_len}
use Rattle.std.specs.Str.{is_utf8}
use Rattle.tool_rack.specs.Fields.{has_outer_space, is_dropped, is_word}
use Rattle.tool_rack.specs.declared.machine_faults.MachineFault.{MachineFault}
use Rattle.tool_rack.specs.declared.machine_faults.MachineFault.TheVariants.{BadLine}

-- an option, and the word of a command line that gives it its value
pub record Given : Type 0 where
  pub option : List ℕ
  pub word : List ℕ

-- the option that the first word of a line names, its letters in any case
abbrev pub option_in : List ℕ → Option (List ℕ)
option_in word = if is_word (codes "SETUP") word then Some (codes "setup") else
    (if is_word (codes "HOST") word then Some (codes "host") else
    (if is_word (codes "PORT") word then Some (codes "port") else
    (if is_word (codes "TIMEOUT") word then Some (codes "timeout") else
    (if is_word (codes "WAIT") word then Some (codes "wait") else
    (if is_word (codes "WINDOW") word then Some (codes "window") else
    (if is_word (codes "RECORDS") word then Some (codes "records") else
    (if is_word (codes "SEALKEY") word then Some (codes "seal-key") else None)))))))

-- the first word of a line, and what follows the spaces after it
abbrev pub first_word : List ℕ → List ℕ
first_word line = take (prefix_len (λ b. not (b == 32)) line) line

abbrev pub after_word : List ℕ → List ℕ
after_word line = drop (prefix_len (λ b. not (b == 32)) line) line

abbrev pub value_of : List ℕ → List ℕ
value_of line = drop (prefix_len (λ b. b == 32) (after_word line)) (after_word line)

-- a value: a text of one byte at least
abbrev pub is_value : List ℕ → Bool
is_value value = not (length value == 0) && is_utf8 value

-- a value, if a text is one
abbrev pub valued : List ℕ → Option (List ℕ)
valued value = if is_value value then Some value else None

abbrev pub given : List ℕ → List ℕ → Given
given option value = record { option = option; word = codes "--" ++ (option ++ (codes "=" ++ value)) }

abbrev pub given_by : ℕ → Option (List ℕ) → Option (List ℕ) → Result (Option Given) MachineFault
given_by n (Some option) (Some value) = Ok (Some (given option value))
given_by n None value = Err (BadLine n)
given_by n (Some option) None = Err (BadLine n)

-- what line n says by itself, or its refusal
unfoldable pub given_on : ℕ → List ℕ → Result (Option Given) MachineFault
given_on n line = if is_dropped line then Ok None else
    (if has_outer_space line then Err (BadLine n) else given_by n (option_in (first_word line)) (valued (value_of line)))
