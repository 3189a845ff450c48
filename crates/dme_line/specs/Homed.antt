-- The answer to IsHomed, as a data line carries it (this profile).
use Rattle.std.specs.Prelude.{◌≡◌, ℕ, Bool, true, false, List, ◌++◌, ◌⊎◌, codes, Result, Ok, Err}
use Rattle.dme_line.specs.Words.{is_word}
use Rattle.dme_line.specs.Tokens.{tokens}
use Rattle.dme_line.specs.Arguments.{IsOneWord}
use Rattle.dme_line.specs.Kinds.{kind_name}
use Rattle.dme_line.specs.CommandText.{IsNamed}
use Rattle.dme_line.specs.declared.commands.Kind.TheVariants.{IsHomed}
use Rattle.dme_line.specs.declared.homed.NotHomedText.{NotHomedText}

-- one digit: 1 if the machine is homed, 0 if it is not
abbrev pub homed_digit : Bool → List ℕ
homed_digit true = codes "1"
homed_digit false = codes "0"

-- the command's name with the digit: IsHomed(1) or IsHomed(0)
abbrev pub written_homed : Bool → List ℕ
written_homed homed = codes "IsHomed(" ++ (homed_digit homed ++ codes ")")

-- the name in any case and the digit in parentheses, with spaces as in commands
pub record IsHomedCall (text : List ℕ) (homed : Bool) : Type 0 where
  pub name : List ℕ
  pub rest : List ℕ
  pub named : IsNamed text name rest
  pub known : is_word (kind_name IsHomed) name ≡ true
  pub spelled : IsOneWord (tokens rest) (homed_digit homed)

-- a text that says whether the machine is homed: the digit alone, or in the command's parentheses
abbrev pub IsHomedText : List ℕ → Bool → Type 0
IsHomedText text homed = (text ≡ homed_digit homed) ⊎ IsHomedCall text homed

-- reading such a text gives what it says, or that it says neither
abbrev pub ReadsHomed : List ℕ → Result Bool NotHomedText → Type 0
ReadsHomed text (Ok homed) = IsHomedText text homed
ReadsHomed text (Err refused) = (homed : Bool) → IsHomedText text homed → ⊥
