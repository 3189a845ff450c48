-- The seals of a record (this profile): a line of a connection, SEAL, with the HMAC of all that is above it, as 64 digits.
use Rattle.std.specs.Prelude.{ℕ, ◌+◌, ◌==◌, Bool, false, not, List, [], ◌∷◌, ◌++◌, take, drop, length, codes, Option, Some, None, is_some, if◌then◌else◌}
use Rattle.std.specs.List.{prefix_len}
use Rattle.std.specs.Option.{option_map_or, option_or}
use Rattle.std.specs.Char.{is_ascii_digit}
use Rattle.std.specs.Str.{bytes_eq}
use Rattle.hex.specs.Hex.{encode_lower}
use Rattle.sha2.specs.Sha256.{sha256}
use Rattle.contact_ledger.specs.Lines.{whole_lines}
use Rattle.record_text.specs.Macs.{hmac}
use Rattle.record_text.specs.declared.seals.SealVerdict.{SealVerdict}
use Rattle.record_text.specs.declared.seals.SealVerdict.TheVariants as verdict

-- the SHA-256 of a text (FIPS 180-4), as 64 digits
abbrev pub digest_of : List ℕ → List ℕ
digest_of text = encode_lower (sha256 text)

-- the seal of a text under a key
abbrev pub seal_of : (key text : List ℕ) → List ℕ
seal_of key text = encode_lower (hmac key text)

-- what follows the number of a connection
abbrev pub behind_number : List ℕ → List ℕ
behind_number line = drop (prefix_len is_ascii_digit line) line

-- the seal that a line says, if it says one
abbrev pub seal_in : List ℕ → Option (List ℕ)
seal_in line = if bytes_eq (take 6 (behind_number line)) (codes " SEAL ") then Some (drop 6 (behind_number line)) else None

-- a line says a seal that is not that of the text above it
abbrev pub is_false : (key above line : List ℕ) → Bool
is_false key above line = option_map_or (λ seal. not (bytes_eq seal (seal_of key above))) (seal_in line) false

-- the number of the first such line below a text, of lines from this number on
abbrev pub false_from : (key above : List ℕ) → (number : ℕ) → List (List ℕ) → Option ℕ
false_from key above number [] = None
false_from key above number (line ∷ lines) = if is_false key above line then Some number
    else false_from key (above ++ (line ++ 10 ∷ [])) (number + 1) lines

-- the number of the first line of a text whose seal is not that of what is above it; what follows the last line end is no line
unfoldable pub false_seal : (key text : List ℕ) → Option ℕ
false_seal key text = false_from key [] 1 (whole_lines text)

-- the number of the line below the last seal, of lines from this number on
abbrev pub below_seal : (below number : ℕ) → List (List ℕ) → ℕ
below_seal below number [] = below
below_seal below number (line ∷ lines) = below_seal (if is_some (seal_in line) then number + 1 else below) (number + 1) lines

-- the number of the first line that is above no seal
unfoldable pub unsealed : List ℕ → Option ℕ
unsealed text = if below_seal 1 1 (whole_lines text) == length (whole_lines text) + 1 then None
    else Some (below_seal 1 1 (whole_lines text))

-- the number of the first line that no seal of this key stands for; none if each line is above a seal, and each seal is that of what is
-- above it
abbrev pub open_line : (key text : List ℕ) → Option ℕ
open_line key text = option_or (false_seal key text) (unsealed text)

-- what the seals of a text say, under a key if one is given
abbrev pub verdict_at : Option ℕ → SealVerdict
verdict_at None = verdict.Sealed
verdict_at (Some line) = verdict.Open line

abbrev pub verdict_under : (key text : List ℕ) → SealVerdict
verdict_under key text = verdict_at (open_line key text)

abbrev pub verdict_of : Option (List ℕ) → List ℕ → SealVerdict
verdict_of None text = verdict.Unjudged
verdict_of (Some key) text = verdict_under key text

-- without a seal nothing is judged
abbrev pub seal_verdict : Option (List ℕ) → List ℕ → SealVerdict
seal_verdict key text = if below_seal 1 1 (whole_lines text) == 1 then verdict.Unsealed else verdict_of key text
