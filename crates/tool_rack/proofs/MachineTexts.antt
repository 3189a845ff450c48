-- What is a value: the decision on UTF-8 agrees with the relation.
use Rattle.std.specs.Prelude.{◌≡◌, ℕ, Bool, true, false, not, ◌==◌, ◌&&◌, List, length, Option, Some, None, IsUtf8, if◌then◌else◌}
use Rattle.std.proofs.Common.{refl, sym, true≢false}
use Rattle.std.specs.Str.{is_utf8}
use Rattle.std.proofs.lemmas.Str.{IsUtf8-from_is_utf8, is_utf8-from_IsUtf8}
use Rattle.tool_rack.specs.MachineEntries.{valued}

-- a text is a value if it has a byte
pub text_is_value : (v : List ℕ) → IsUtf8 v → valued v ≡ (if not (length v == 0) then Some v else None)
text_is_value v u = kept (not (length v == 0)) (is_utf8 v) (is_utf8-from_IsUtf8 v u)
  where
    kept : (x b : Bool) → b ≡ true → (if x && b then Some v else None) ≡ (if x then Some v else None)
    kept true true e = refl
    kept false b e = refl
    kept true false e = absurd (true≢false (sym e))

pub other_is_none : (v : List ℕ) → (IsUtf8 v → ⊥) → valued v ≡ None
other_is_none v w = dropped (not (length v == 0)) (is_utf8 v) refl
  where
    dropped : (x b : Bool) → is_utf8 v ≡ b → (if x && b then Some v else None) ≡ None
    dropped true true e = absurd (w (IsUtf8-from_is_utf8 v e))
    dropped false b e = refl
    dropped true false e = refl
