-- Why wrong ends are refused.
use Rattle.std.proofs.Common.{◌≡◌, ℕ, List, [], ◌∷◌, ap, inl, inr, arith}
use Rattle.effects.specs.declared.vocabulary.Slot.{Slot}
use Rattle.effects.specs.Effects.{Ask, Print, Where, Named}
use Rattle.watched_ends.specs.Sessions.{cannot_write}
use Rattle.watched_ends.specs.Claims.{Kept, Comes, is_whole, is_failed, is_other, is_short, blamed}
use Rattle.watched_ends.specs.Examples.{called, text, swapped, unprinted}

-- the first byte of the name of the first file
abbrev first_byte : List (Slot × Where) → ℕ
first_byte ((slot, Named (byte ∷ name)) ∷ opened) = byte
first_byte _ = 0

pub swapped_fails : Kept called swapped → ⊥
swapped_fails k = let d : 97 ≡ 98 = ap first_byte k.opened.1 in absurd (omega (arith, d))

pub unprinted_fails : Comes called unprinted 0 → ⊥
unprinted_fails (is_whole n p f s) = absurd cc

abbrev blamed_first : List Ask → List ℕ
blamed_first [] = []
blamed_first (ask ∷ asks) = blamed called ask

pub unsaid_fails : Comes called unprinted 1 → ⊥
unsaid_fails (is_whole n p f s) = absurd cc
unsaid_fails (is_failed ask f (inl e)) = let d : cannot_write ≡ blamed called ask = ap blamed_first f in absurd cc
unsaid_fails (is_failed ask f (inr h)) = let e = h.3 in absurd cc
unsaid_fails (is_other f p n) = absurd cc
