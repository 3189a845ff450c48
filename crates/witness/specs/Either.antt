-- A text of contacts for an audit, by its first line (this profile).
use Rattle.std.specs.Prelude.{◌≡◌, ℕ, List, ◌∷◌, codes}
use Rattle.contact_ledger.specs.ContactTexts.{IsContacts, IsDamagedContacts}
use Rattle.contact_ledger.specs.Lines.{whole_lines}
use Rattle.contact_ledger.specs.declared.acts.Act.{Act}
use Rattle.witness.specs.declared.lines.Reported.{Reported}
use Rattle.witness.specs.Runs.{AreRunContacts}
use Rattle.witness.specs.ToldTexts.{IsToldText, IsDamagedTold}

-- the first line is that of a text of what was reported
pub record IsToldFile (bytes : List ℕ) : Type 0 where
  pub more : List (List ℕ)
  pub lines : whole_lines bytes ≡ codes "DME-TOLD 1" ∷ more

-- the acts that an audit judges: those of runs in what was reported, or, under any other first line, those of a server
pub data AreAudited (bytes : List ℕ) (ledger : List (ℕ × Act)) : Type 0 where
  reported : IsToldFile bytes → (entries : List (ℕ × Reported)) → IsToldText bytes entries → AreRunContacts entries ledger
      → AreAudited bytes ledger
  acted : (IsToldFile bytes → ⊥) → IsContacts bytes ledger → AreAudited bytes ledger

-- line n is the first that is unexpected in a text of its kind
pub data IsDamagedAudited (bytes : List ℕ) (n : ℕ) : Type 0 where
  reported : IsToldFile bytes → IsDamagedTold bytes n → IsDamagedAudited bytes n
  acted : (IsToldFile bytes → ⊥) → IsDamagedContacts bytes n → IsDamagedAudited bytes n
