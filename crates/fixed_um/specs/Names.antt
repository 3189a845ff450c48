-- Names of features, tools and frames, in this profile.
use Rattle.std.specs.Prelude.{ℕ, Bool, ◌&&◌, not, ◌≡◌, true, List, length, map, nat_le, codes}
use Rattle.std.specs.List.{list_all, list_any}
use Rattle.std.specs.Prelude.{◌==◌}
use Rattle.std.specs.Char.{to_ascii_uppercase}

-- a byte that can be in a name: from 33 to 126 except ( ) , ' " / = $
abbrev pub is_name_byte : ℕ → Bool
is_name_byte b = nat_le 33 b && (nat_le b 126 && not (list_any (λ x. x == b) (codes "(),'\"/=$")))

-- letters a to z as A to Z
abbrev pub folded : List ℕ → List ℕ
folded text = map to_ascii_uppercase text

-- 1 to 64 bytes that can be in a name
abbrev pub is_name_text : List ℕ → Bool
is_name_text text = nat_le 1 (length text) && (nat_le (length text) 64 && list_all is_name_byte text)

-- a name: such a text with its letters folded
pub record IsName (bytes : List ℕ) : Type 0 where
  pub named : is_name_text bytes ≡ true
  pub capitals : folded bytes ≡ bytes
