-- Errors of a server, and their lines.
use Rattle.run_session.proofs.Names.{[], ◌%◌, ◌&&◌, ◌++◌, ◌-◌, ◌/◌, ◌<◌, ◌∙◌, ◌∷◌, ◌≡◌, ◌≤◌, agree_below_at, ap₂, arith, Bool, cond, false}
use Rattle.run_session.proofs.Names.{false≢true, fitting, get_or, is_printed, kept_error, length, length-append, List, list_all, nat_le}
use Rattle.run_session.proofs.Names.{refl, suc, true, w8, ℕ}
use Rattle.std.proofs.Common.{Fits}
use Rattle.record_text.specs.Heads.{IsPrinted}
use Rattle.std.proofs.lemmas.Bool.Decides.{nat_tests}
use Rattle.std.proofs.lemmas.List.Folds.{list_all-append}
use Rattle.session_telling.specs.Visible.{hex_digit, visible}
use Rattle.record_text.proofs.KeptErrors.{fits as fits_whole}

-- a byte is shown by printed bytes
shown : (b : ℕ) → b < 256 → list_all is_printed (visible b) ≡ true
shown b few = agree_below_at (λ x. list_all is_printed (visible x)) (λ x. true) 256 b refl few

some_shown : (b : Bool) (xs ys : List ℕ) → 1 ≤ length xs → 1 ≤ length ys → 1 ≤ length (cond b xs ys)
some_shown true xs ys h g = h
some_shown false xs ys h g = g

some_visible : (b : ℕ) → 1 ≤ length (visible b)
some_visible b = some_shown (nat_le 32 b && nat_le b 126) (b ∷ []) (92 ∷ 120 ∷ hex_digit (b / 16) ∷ hex_digit (b % 16) ∷ [])
    (omega arith) (omega arith)

few_shown : (b : Bool) (xs ys : List ℕ) → length xs ≤ 4 → length ys ≤ 4 → length (cond b xs ys) ≤ 4
few_shown true xs ys h g = h
few_shown false xs ys h g = g

few_visible : (b : ℕ) → length (visible b) ≤ 4
few_visible b = few_shown (nat_le 32 b && nat_le b 126) (b ∷ []) (92 ∷ 120 ∷ hex_digit (b / 16) ∷ hex_digit (b % 16) ∷ [])
    (omega arith) (omega arith)

first_shown : (has_room : Bool) (shown more : List ℕ) → list_all is_printed shown ≡ true → list_all is_printed more ≡ true
    → list_all is_printed (cond has_room (shown ++ more) []) ≡ true
first_shown true shown more h g = list_all-append is_printed shown more ∙ ap₂ (λ (x y : Bool). x && y) h g
first_shown false shown more h g = refl

all_shown : (n : ℕ) (bytes : List ℕ) → ((k : ℕ) → get_or bytes k 0 < 256) → list_all is_printed (fitting n bytes) ≡ true
all_shown n [] few = refl
all_shown n (b ∷ bytes) few = first_shown (nat_le (length (visible b)) n) (visible b) (fitting (n - length (visible b)) bytes)
    (shown b (few 0)) (all_shown (n - length (visible b)) bytes (λ k. few (suc k)))

has_room : (n m : ℕ) → n ≤ m → nat_le n m ≡ true
has_room n m h = grind (arith, nat_tests)

some_first : (room : Bool) (shown more : List ℕ) → room ≡ true → 1 ≤ length shown → 1 ≤ length (cond room (shown ++ more) [])
some_first true shown more h some = let both = length-append shown more in omega (arith, both, some)
some_first false shown more h some = absurd (false≢true h)

below_400 : (n : ℕ) → n ≤ 4 → n ≤ 400
below_400 n h = omega (arith, h)

pub has_refusal : (bytes : List ℕ) → ((k : ℕ) → Fits w8 (get_or bytes k 0)) → 1 ≤ length bytes → IsPrinted 400 (kept_error bytes)
has_refusal [] fits some = absurd (omega (arith, some))
has_refusal (b ∷ bytes) fits some = record {
  some = some_first (nat_le (length (visible b)) 400) (visible b) _
      (has_room (length (visible b)) 400 (below_400 (length (visible b)) (few_visible b))) (some_visible b);
  few = (fits_whole 400 (b ∷ bytes)).few;
  printed = all_shown 400 (b ∷ bytes) (λ k. (fits k).fits);
}
