-- What moving many bytes leaves, where it stopped before all of them.
use Rattle.std.specs.Prelude.{◌≡◌, ℕ, ◌+◌, ◌<◌, ◌≤◌, List, length, take, Option, Bool, false}
use Rattle.std.specs.Io.KnownBytes.{Appends, Consumes}

-- known bytes grew by a prefix of bs, short of all (this profile: what a write that failed leaves)
abbrev pub AppendsFront : Option (List ℕ) → Option (List ℕ) → List ℕ → Type 0
AppendsFront old new bs = (n : ℕ) × (n < length bs) × Appends old new (take n bs)

-- known bytes lost some from their front, at least that many
pub record ConsumesFront (old new : Option (List ℕ)) (least : ℕ) : Type 0 where
  pub bytes : List ℕ
  pub long : least ≤ length bytes
  pub consumed : Consumes old new bytes

-- what a pull that gave bytes does: some came, and the source has not failed
pub record GaveBytes {S : Type 0} (left : S → Option (List ℕ)) (has_failed : S → Bool) (old new : S) : Type 0 where
  pub bytes : List ℕ
  pub some : 0 < length bytes
  pub consumed : Consumes (left old) (left new) bytes
  pub works : has_failed new ≡ false

-- that many such pulls, one after another, lead from old to new: none of them met the end of the input
pub data GaveTimes {S : Type 0} (left : S → Option (List ℕ)) (has_failed : S → Bool) : ℕ → S → S → Type 0 where
  none : (s : S) → GaveTimes left has_failed 0 s s
  more : (n : ℕ) (old mid new : S) → GaveTimes left has_failed n old mid → GaveBytes left has_failed mid new
      → GaveTimes left has_failed (n + 1) old new
