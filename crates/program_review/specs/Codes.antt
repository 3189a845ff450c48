-- Which topic a code names, and its page (this profile).
use Rattle.std.specs.Prelude.{◌≡◌, ℕ, Bool, true, false, ◌&&◌, ◌==◌, ◌++◌, List, length, map, codes, position, Option, Some, None, IfSome, if◌then◌else◌}
use Rattle.std.specs.List.{list_all}
use Rattle.std.specs.Option.{option_or}
use Rattle.std.specs.Char.{is_ascii_digit, to_ascii_lowercase}
use Rattle.std.specs.Str.{bytes_eq}
use Rattle.program_review.specs.declared.topics.TheConstants.{CODES}
use Rattle.program_review.specs.declared.topics.Topic.{Topic}

-- a code is this one, its letters in any case
abbrev pub is_called : List ℕ → List ℕ → Bool
is_called wanted code = bytes_eq (map to_ascii_lowercase code) (map to_ascii_lowercase wanted)

-- the number of an error, as the wire has it: four digits
abbrev pub is_error_number : List ℕ → Bool
is_error_number code = (length code == 4) && list_all is_ascii_digit code

-- the number of the topic that a code names: its number among the codes, or for an error that is not among them the number after the last
abbrev pub number_of : List ℕ → Option ℕ
number_of code = option_or (position (λ other. is_called other.now code) CODES) (if is_error_number code then Some 50 else None)

abbrev pub is_the : ℕ → Option ℕ → Bool
is_the n None = false
is_the n (Some m) = n == m

-- the code names the topic
abbrev pub is_code_of : Topic → List ℕ → Bool
is_code_of topic code = is_the topic.number (number_of code)

-- a page: the code, if there is one, and the text
abbrev pub page_text : Option (List ℕ) → List ℕ → List ℕ
page_text None text = text ++ codes "\n"
page_text (Some code) text = code ++ (codes " " ++ (text ++ codes "\n"))

-- a text is a page of a topic: the code that it has, if it has one, names the topic
pub record IsPage (topic : Topic) (shown : List ℕ) : Type 0 where
  pub code : Option (List ℕ)
  pub text : List ℕ
  pub is_code : IfSome code (λ c. is_code_of topic c ≡ true)
  pub whole : shown ≡ page_text code text

-- what was there, followed by a page of a topic
abbrev pub WritesPage : Topic → List ℕ → List ℕ → Type 0
WritesPage topic old new = (shown : List ℕ) × (new ≡ old ++ shown) × IsPage topic shown
