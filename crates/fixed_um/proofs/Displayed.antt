-- Digits that are printed one by one, and names, which are text.
use Rattle.fixed_um.proofs.Names.{[], ◌%◌, ◌&&◌, ◌+◌, ◌<◌, ◌∷◌, ◌≡◌, and_parts, arith, decimal, decimal_digit, is_name_byte, IsName, length, List}
use Rattle.fixed_um.proofs.Names.{list_all, nat_le, nat_tests, suc, true, zero, ℕ}
use Rattle.std.specs.Str.{IsAscii, IsUtf8}
use Rattle.std.proofs.lemmas.Str.{IsUtf8-from_ascii}

-- the last digit of a number, printed
pub digit : (n : ℕ) → decimal (n % 10) ≡ (48 + n % 10) ∷ []
digit n = decimal_digit (n % 10) (omega arith)

-- a byte of a name is ASCII
name_byte_is_ascii : (b : ℕ) → is_name_byte b ≡ true → b < 128
name_byte_is_ascii b h = let p = and_parts (nat_le 33 b) _ h in let q = and_parts (nat_le b 126) _ p.1 in grind (arith, nat_tests)

all_ascii : (bs : List ℕ) → list_all is_name_byte bs ≡ true → IsAscii bs
all_ascii [] h i = omega arith
all_ascii (b ∷ bs) h zero = name_byte_is_ascii b (and_parts (is_name_byte b) (list_all is_name_byte bs) h).0
all_ascii (b ∷ bs) h (suc i) = all_ascii bs (and_parts (is_name_byte b) (list_all is_name_byte bs) h).1 i

-- a name is text
pub name_is_text : (bs : List ℕ) → IsName bs → IsUtf8 bs
name_is_text bs n =
    let p = and_parts (nat_le 1 (length bs)) (nat_le (length bs) 64 && list_all is_name_byte bs) n.named in
    let q = and_parts (nat_le (length bs) 64) (list_all is_name_byte bs) p.1 in
    IsUtf8-from_ascii bs (all_ascii bs q.1)
