-- What reading a text answers (this profile).
use Rattle.std.specs.Prelude.{ℕ, ◌-◌, ◌≤◌, List, length, take, Result, Ok, Err}
use Rattle.contact_ledger.specs.declared.faults.TextFault.{TextFault}
use Rattle.contact_ledger.specs.declared.faults.TextFault.TheVariants.{Damaged, Memory}

-- line n is the first that is unexpected: the lines above it begin a text that can be written, and with it they begin none
pub record IsDamaged (Begins : List (List ℕ) → Type 0) (lines : List (List ℕ)) (n : ℕ) : Type 0 where
  pub first : 1 ≤ n
  pub last : n ≤ length lines
  pub above : Begins (take (n - 1) lines)
  pub torn : Begins (take n lines) → ⊥

-- this line is damaged; running out of memory says nothing of the text
abbrev pub ReadsFault : (ℕ → Type 0) → TextFault → Type 0
ReadsFault IsDue (Damaged n) = IsDue n
ReadsFault IsDue Memory = Unit {0}

-- a text is read as this value, or its first damaged line is answered
abbrev pub ReadsText : {A : Type 0} → (A → Type 0) → (ℕ → Type 0) → Result A TextFault → Type 0
ReadsText Is IsDue (Ok value) = Is value
ReadsText Is IsDue (Err fault) = ReadsFault IsDue fault
