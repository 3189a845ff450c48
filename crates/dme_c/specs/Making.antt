-- What is due for the texts of which a core is made, apart from running out of memory (this profile).
use Rattle.std.specs.Prelude.{◌≡◌, ◌⊎◌, ℕ, false, true, List, Ok, IsErr}
use Rattle.contact_ledger.specs.FeatureTexts.{IsFeatures, IsDamagedFeatures}
use Rattle.contact_ledger.specs.declared.features.Feature.{Feature}
use Rattle.dmis_program.specs.Meaning.{Meaning, program_of}
use Rattle.tool_rack.specs.Setups.{SetupValue, setup_of}
use Rattle.client_core.specs.Clients.{are_ours, is_window}
use Rattle.protocol_model.specs.Ends.{ClientEnd, new_client_end}
use Rattle.dme_c.specs.declared.codes.NotMade.{NotMade}
use Rattle.dme_c.specs.declared.codes.NotMade.TheVariants as not_made

-- for a call that answered `number`: it answers `due` only if this holds, and if it holds, it answers `due`, or 3 if out of memory
abbrev pub AnswersJust : ℕ → ℕ → Type 0 → Type 0
AnswersJust number due Holds = (number ≡ due → Holds) × (Holds → (number ≡ due) ⊎ (number ≡ 3))

-- the setup is refused
abbrev pub IsBadSetup : List ℕ → Type 0
IsBadSetup setup = IsErr (setup_of setup)

-- the setup is read; with its frames the program is refused
pub record IsBadProgram (setup program : List ℕ) : Type 0 where
  pub known : SetupValue
  pub setup_is : setup_of setup ≡ Ok known
  pub refused : IsErr (program_of known.frames program)

-- the setup is read; with its frames the program means this
pub record Means (setup program : List ℕ) (meaning : Meaning) : Type 0 where
  pub known : SetupValue
  pub setup_is : setup_of setup ≡ Ok known
  pub means : program_of known.frames program ≡ Ok meaning

-- a line of the features is damaged
pub record AreDamaged (features : List ℕ) : Type 0 where
  pub line : ℕ
  pub line_is : IsDamagedFeatures features line

-- setup and program are read; the features are damaged
pub record IsBadFeatures (setup program features : List ℕ) : Type 0 where
  pub meaning : Meaning
  pub program_is : Means setup program meaning
  pub damaged : AreDamaged features

-- all texts are read: this is the program's meaning, and these features are kept
pub record Say (setup program features : List ℕ) (meaning : Meaning) (kept : List Feature) : Type 0 where
  pub program_is : Means setup program meaning
  pub features_are : IsFeatures features kept

-- all texts are read; the window is not from 1 to 16
pub record IsBadWindow (setup program features : List ℕ) (window : ℕ) : Type 0 where
  pub meaning : Meaning
  pub kept : List Feature
  pub texts : Say setup program features meaning kept
  pub outside : is_window window ≡ false

-- all texts are read, the window is one; the kept features are not the program's first
pub record IsNotOurs (setup program features : List ℕ) (window : ℕ) : Type 0 where
  pub meaning : Meaning
  pub kept : List Feature
  pub texts : Say setup program features meaning kept
  pub window_is : is_window window ≡ true
  pub others : are_ours meaning.features kept ≡ false

-- nothing is refused, and this is the new client for what the texts say
pub record IsClientOf (setup program features : List ℕ) (window : ℕ) (client : ClientEnd) : Type 0 where
  pub meaning : Meaning
  pub kept : List Feature
  pub texts : Say setup program features meaning kept
  pub window_is : is_window window ≡ true
  pub ours : are_ours meaning.features kept ≡ true
  pub client_is : client ≡ new_client_end meaning kept window

-- why a text is refused: out of memory, or this fault, which it has
abbrev pub Refuses : NotMade → Type 0 → NotMade → Type 0
Refuses fault IsFaulty why = (why ≡ not_made.Memory) ⊎ ((why ≡ fault) × IsFaulty)

-- why nothing is made of all texts; out of memory says nothing about them
abbrev pub IsWhy : List ℕ → List ℕ → List ℕ → ℕ → NotMade → Type 0
IsWhy setup program features window not_made.Memory = Unit {0}
IsWhy setup program features window not_made.BadSetup = IsBadSetup setup
IsWhy setup program features window not_made.BadProgram = IsBadProgram setup program
IsWhy setup program features window not_made.BadFeatures = IsBadFeatures setup program features
IsWhy setup program features window not_made.BadWindow = IsBadWindow setup program features window
IsWhy setup program features window not_made.NotOurs = IsNotOurs setup program features window

-- setup and program are read
pub record IsAccepted (setup program : List ℕ) : Type 0 where
  pub meaning : Meaning
  pub means : Means setup program meaning
