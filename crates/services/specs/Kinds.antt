-- Which kind of effect is asked for (this profile).
use Rattle.std.specs.Prelude.{◌≡◌, ⊤}
use Rattle.effects.specs.declared.vocabulary.Growth.{Growth}
use Rattle.effects.specs.Effects.{Ask, Add, Say, SetAside}

abbrev pub IsAdd : Ask → Type 0
IsAdd (Add text) = ⊤
IsAdd ask = ⊥

abbrev pub IsSay : Ask → Type 0
IsSay (Say text) = ⊤
IsSay ask = ⊥

-- what was in a file that grows is set aside
abbrev pub IsSetAside : Growth → Ask → Type 0
IsSetAside growth (SetAside file old) = file ≡ growth
IsSetAside growth ask = ⊥
