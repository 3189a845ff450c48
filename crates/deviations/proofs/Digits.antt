-- Lengths and components that are printed digit by digit.
use Rattle.deviations.proofs.Names.{[], ◌%◌, ◌+◌, ◌∷◌, ◌≡◌, decimal, ℕ}
use Rattle.fixed_um.proofs.Displayed.{digit}

pub last : (n : ℕ) → decimal (n % 10) ≡ (48 + n % 10) ∷ []
last n = digit n
