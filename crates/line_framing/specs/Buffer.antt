-- How a framing buffer keeps its bytes. No clause of a public call speaks of this.
use Rattle.std.specs.Prelude.{◌≡◌, ℕ, ◌+◌, ◌≤◌, List, length, take, drop, Bool, true, false, Option, Some, None, Result, Ok, Err}
use Rattle.line_framing.specs.Content.{IsLine}
use Rattle.line_framing.specs.Next.{content_len, verdict, next_of}
use Rattle.line_framing.specs.declared.faults.FramingFault.{FramingFault}

-- of the rest the first bytes were searched and are content, and a fault is what is at its front
pub record IsKept (rest : List ℕ) (searched : ℕ) (fault : Option FramingFault) : Type 0 where
  pub known : searched ≤ content_len rest
  pub sound : (f : FramingFault) → fault ≡ Some f → next_of rest ≡ Err f

-- a content and what follows it are: a line (true), nothing whole (false), or a fault
abbrev pub HasVerdict : List ℕ → List ℕ → Result Bool FramingFault → Type 0
HasVerdict content behind (Ok true) = verdict content behind ≡ Ok (Some (content, drop 2 behind))
HasVerdict content behind (Ok false) = verdict content behind ≡ Ok None
HasVerdict content behind (Err fault) = verdict content behind ≡ Err fault

-- likewise for a rest whose content ends at end
abbrev pub HasFront : List ℕ → ℕ → Result Bool FramingFault → Type 0
HasFront rest end (Ok true) =
    (next_of rest ≡ Ok (Some (take end rest, drop (end + 2) rest))) × IsLine (take end rest) × (end + 2 ≤ length rest)
HasFront rest end (Ok false) = next_of rest ≡ Ok None
HasFront rest end (Err fault) = next_of rest ≡ Err fault
