-- What a call does to what a handle holds.
use Rattle.std.specs.Prelude.{Option, None, Some}

-- a value was held before and after, the number is that of an answer, and the call did this
abbrev pub Called : {E A : Type 0} → Option E → Option E → Option A → (E → E → A → Type 0) → Type 0
Called (Some old) (Some new) (Some answer) Did = Did old new answer
Called (Some old) (Some new) None Did = ⊥
Called (Some old) None answer Did = ⊥
Called None new answer Did = ⊥
