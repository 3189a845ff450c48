-- Runs in a block: the bits of a mask that was computed lane by lane say where a content ends.
use Rattle.line_framing.proofs.Names.{[], ◌%◌, ◌++◌, ◌+◌, ◌<◌, ◌==◌, ◌^◌, ◌∙◌, ◌∷◌, ◌≡◌, ◌≤◌, agree_below, agree_below_at, ap, ap₂, arith, Bool}
use Rattle.line_framing.proofs.Names.{cases_eq, chunk-drop, chunk-fits, cond, cond-false, cond-true, drop, eq-eqb, Fits, get_or, if◌then◌else◌, inl}
use Rattle.line_framing.proofs.Names.{inr, leading_from_mask_l, length, length-chunk, List, map, map-map, mask_l-mod, ne_eqb, not, prefix_len}
use Rattle.line_framing.proofs.Names.{prefix_len-append, prefix_len-le-length, refl, sym, take, trailing_mask_l, true, w8, zip2-map, ℕ}
use Rattle.std.proofs.lemmas.List.{length-map}
use Rattle.std.specs.Int.{trailing_zeros, w64}
use lib.Lanes.{Each1, chunk, zip2, mask_l, top}

-- the place of the lowest bit that is set, or n if no bit is
abbrev pub lowest_set : ℕ → ℕ → ℕ
lowest_set mask n = if mask == 0 then n else trailing_zeros w64 mask

-- a vector of two that were each computed lane by lane
pub of_both : (h : ℕ → ℕ → ℕ) (f g : ℕ → ℕ) (v : List ℕ) {a b : List ℕ} → a ≡ map f v → b ≡ map g v
    → zip2 h a b ≡ map (λ x. h (f x) (g x)) v
of_both h f g v p q = ap₂ (zip2 h) p q ∙ zip2-map h f g v

-- a test that fails on just the bytes of a class counts the same run
alike : (stops p : ℕ → Bool) (v : List ℕ) → agree_below (λ x. not (stops x)) p 256 ≡ true → Each1 (Fits w8) v
    → prefix_len (λ x. not (stops x)) v ≡ prefix_len p v
alike stops p [] all fits = refl
alike stops p (x ∷ xs) all fits =
    ap₂ (λ b n. cond b (1 + n) 0) (agree_below_at (λ x. not (stops x)) p 256 x all fits.0.fits) (alike stops p xs all fits.1)

counted : (stops : ℕ → Bool) (v : List ℕ) → length v ≡ 16
    → lowest_set (mask_l (map stops v)) 16 ≡ prefix_len (λ x. not (stops x)) v
counted stops v long =
    elim (cases_eq (mask_l (map stops v)) 0) [
      | inl none ↦ cond-true _ _ _ (eq-eqb _ _ none) ∙ sym (leading_from_mask_l stops v none ∙ long)
      | inr some ↦ cond-false _ _ _ (ne_eqb _ _ some) ∙ trailing_mask_l stops 64 v (omega arith) (omega arith)
    ]

-- the run of a class in sixteen bytes, by a vector with a top bit just where a byte is not of the class
pub run_of : (p : ℕ → Bool) (bytes : List ℕ) (at r : ℕ) (z : List ℕ) → at + 16 ≤ length bytes
    → ((k : ℕ) → Fits w8 (get_or bytes k 0)) → r ≡ lowest_set (mask_l (map (top 7) z) % 2 ^ 64) 16
    → (f : ℕ → ℕ) → z ≡ map f (chunk at 16 bytes) → agree_below (λ x. not (top 7 (f x))) p 256 ≡ true
    → r ≡ prefix_len p (take 16 (drop at bytes))
run_of p bytes at r z room fits found f lanes all =
    let v = chunk at 16 bytes in
    let stops : ℕ → Bool = λ x. top 7 (f x) in
    let long = length-chunk at 16 bytes room in
    let mask = ap (λ l. mask_l l % 2 ^ 64) (ap (map (top 7)) lanes ∙ map-map (top 7) f v)
    ∙ mask_l-mod (map stops v) 64 (omega (arith, length-map v stops, long)) in
    found ∙ ap (λ m. lowest_set m 16) mask ∙ counted stops v long ∙ alike stops p v all (chunk-fits w8 at 16 bytes fits)

-- a run that ends within a block, or continues after it
within_block : (p : ℕ → Bool) (front behind : List ℕ) → prefix_len p front < length front
    → prefix_len p (front ++ behind) ≡ prefix_len p front
within_block p front behind short =
    let differ : prefix_len p front ≡ length front → ⊥ = λ is. omega (arith, is, short) in
    prefix_len-append p front behind ∙ cond-false _ _ _ (ne_eqb (prefix_len p front) (length front) differ)

past_block : (p : ℕ → Bool) (front behind : List ℕ) → length front ≤ prefix_len p front
    → prefix_len p (front ++ behind) ≡ length front + prefix_len p behind
past_block p front behind long =
    let is : prefix_len p front ≡ length front = omega (arith, long, prefix_len-le-length p front) in
    prefix_len-append p front behind ∙ cond-true _ _ _ (eq-eqb _ _ is)

module _ (p : ℕ → Bool) (bytes : List ℕ) (at r : ℕ) (room : at + 16 ≤ length bytes)
    (run : r ≡ prefix_len p (take 16 (drop at bytes))) where
  long : length (take 16 (drop at bytes)) ≡ 16
  long = length-chunk at 16 bytes room

  pub ends_in_block : r < 16 → prefix_len p (drop at bytes) ≡ r
  ends_in_block short =
      ap (prefix_len p) (chunk-drop at 16 bytes)
      ∙ within_block p (take 16 (drop at bytes)) (drop (at + 16) bytes) (omega (arith, long, run)) ∙ sym run

  pub goes_behind : 16 ≤ r → (r ≡ 16) × (prefix_len p (drop at bytes) ≡ r + prefix_len p (drop (at + r) bytes))
  goes_behind whole =
      let is : r ≡ 16 = omega (arith, long, run, prefix_len-le-length p (take 16 (drop at bytes))) in
      let behind = ap (prefix_len p) (chunk-drop at 16 bytes)
      ∙ past_block p (take 16 (drop at bytes)) (drop (at + 16) bytes) (omega (arith, long, run)) in
      (is, rw is (behind ∙ ap (λ n. n + prefix_len p (drop (at + 16) bytes)) long))
