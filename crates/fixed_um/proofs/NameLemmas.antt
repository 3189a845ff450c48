-- A folded name text is a name.
use Rattle.fixed_um.proofs.Names.{[], ◌&&◌, ◌-◌, ◌<◌, ◌∷◌, ◌≡◌, ◌≤◌, and_from, and_parts, ap, arith, cases_lt, cond, cond-true, folded, inl, inr}
use Rattle.fixed_um.proofs.Names.{is_name_byte, is_name_text, IsName, length, List, list_all, lt-ltb, nat_le, nat_lt, nat_tests, refl, suc}
use Rattle.fixed_um.proofs.Names.{to_ascii_uppercase, true, ℕ}

lowered : (b : ℕ) → 97 ≤ b → b < 123 → to_ascii_uppercase b ≡ b - 32
lowered b high small = grind (arith, nat_tests)

past_letters : (b : ℕ) → 123 ≤ b → to_ascii_uppercase b ≡ b
past_letters b past = grind (arith, nat_tests)

capital_named : (m : ℕ) → 65 ≤ m → m ≤ 90 → is_name_byte m ≡ true
capital_named m low high = grind (arith, nat_tests)

-- folding keeps a byte in a name
name_byte-upper : (b : ℕ) → is_name_byte b ≡ true → is_name_byte (to_ascii_uppercase b) ≡ true
name_byte-upper b h =
    elim (cases_lt b 97) [
      | inl low ↦ rw (cond-true (nat_lt b 97) b (cond (nat_lt b 123) (b - 32) b) (lt-ltb b 97 low)) h
      | inr high ↦
          elim (cases_lt b 123) [
            | inl small ↦ rw (lowered b high small) (capital_named (b - 32) (omega arith) (omega arith))
            | inr past ↦ rw (past_letters b past) h
          ]
    ]

upper-upper : (b : ℕ) → to_ascii_uppercase (to_ascii_uppercase b) ≡ to_ascii_uppercase b
upper-upper b = grind (arith, nat_tests)

all_name_bytes-folded : (text : List ℕ) → list_all is_name_byte text ≡ true → list_all is_name_byte (folded text) ≡ true
all_name_bytes-folded [] h = refl
all_name_bytes-folded (b ∷ bs) h = let p = and_parts (is_name_byte b) (list_all is_name_byte bs) h
    in and_from _ _ (name_byte-upper b p.0) (all_name_bytes-folded bs p.1)

folded-folded : (text : List ℕ) → folded (folded text) ≡ folded text
folded-folded [] = refl
folded-folded (b ∷ bs) = rw (upper-upper b, folded-folded bs) refl

length-folded : (text : List ℕ) → length (folded text) ≡ length text
length-folded [] = refl
length-folded (b ∷ bs) = ap (λ (n : ℕ). suc n) (length-folded bs)

pub name-from_folded : (text : List ℕ) → is_name_text text ≡ true → IsName (folded text)
name-from_folded text h =
    let p = and_parts (nat_le 1 (length text)) (nat_le (length text) 64 && list_all is_name_byte text) h in
    let q = and_parts (nat_le (length text) 64) (list_all is_name_byte text) p.1 in
    record {
      named = rw (length-folded text) (and_from _ _ p.0 (and_from _ _ q.0 (all_name_bytes-folded text q.1)));
      capitals = folded-folded text;
    }
