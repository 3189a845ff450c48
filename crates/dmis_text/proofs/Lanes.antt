-- Runs in a block: the bits of a mask that was computed lane by lane say where a class ends.
use Rattle.dmis_text.proofs.Names.{[], ◌%◌, ◌&&◌, ◌++◌, ◌+◌, ◌-◌, ◌<◌, ◌^◌, ◌∙◌, ◌∷◌, ◌≡◌, ◌≤◌, agree_below, agree_below_at, ap, ap₂, arith, Bool}
use Rattle.dmis_text.proofs.Names.{cases_eq, chunk-drop, chunk-fits, cond, cond-false, cond-true, drop, drop-drop, eq-eqb, false, Fits, get_or, inl}
use Rattle.dmis_text.proofs.Names.{inr, leading_from_mask_l, leb, length, length-chunk, length-drop, length-map, List, lowest_set, map, map-map}
use Rattle.dmis_text.proofs.Names.{mask_l-mod, ne_eqb, not, prefix_len, prefix_len-append, prefix_len-le-length, refl, suc, sym, take, take_all}
use Rattle.dmis_text.proofs.Names.{trailing_mask_l, true, w8, zero, zip2-map, ℕ}
use lib.Lanes.{Each1, chunk, zip2, mask_l, top}

-- a lane of a vector that says where one byte is at most another
abbrev pub at_most : ℕ → ℕ → ℕ
at_most a b = cond (leb a b) 255 0

-- a vector of two that were each computed lane by lane
pub of_both : (h : ℕ → ℕ → ℕ) (f g : ℕ → ℕ) (v : List ℕ) {a b : List ℕ} → a ≡ map f v → b ≡ map g v
    → zip2 h a b ≡ map (λ x. h (f x) (g x)) v
of_both h f g v p q = ap₂ (zip2 h) p q ∙ zip2-map h f g v

-- a test that fails on just the bytes of a class counts the same run
alike : (stops p : ℕ → Bool) (v : List ℕ) → agree_below (λ x. not (stops x)) p 256 ≡ true → Each1 (Fits w8) v
    → prefix_len (λ x. not (stops x)) v ≡ prefix_len p v
alike stops p [] all fits = refl
alike stops p (x ∷ xs) all fits =
    ap₂ (λ b n. cond b (1 + n) 0) (agree_below_at (λ x. not (stops x)) p 256 x all fits.0.fits) (alike stops p xs all fits.1)

counted : (stops : ℕ → Bool) (v : List ℕ) → length v ≡ 16
    → lowest_set (mask_l (map stops v)) 16 ≡ prefix_len (λ x. not (stops x)) v
counted stops v long =
    elim (cases_eq (mask_l (map stops v)) 0) [
      | inl none ↦ cond-true _ _ _ (eq-eqb _ _ none) ∙ sym (leading_from_mask_l stops v none ∙ long)
      | inr some ↦ cond-false _ _ _ (ne_eqb _ _ some) ∙ trailing_mask_l stops 64 v (omega arith) (omega arith)
    ]

-- the run of a class in sixteen bytes, by a vector with a top bit just where a byte is not of the class
pub run_of : (p : ℕ → Bool) (bytes : List ℕ) (at r : ℕ) (z : List ℕ) → at + 16 ≤ length bytes
    → ((k : ℕ) → Fits w8 (get_or bytes k 0)) → r ≡ lowest_set (mask_l (map (top 7) z) % 2 ^ 64) 16
    → (f : ℕ → ℕ) → z ≡ map f (chunk at 16 bytes) → agree_below (λ x. not (top 7 (f x))) p 256 ≡ true
    → r ≡ prefix_len p (take 16 (drop at bytes))
run_of p bytes at r z room fits found f lanes all =
    let v = chunk at 16 bytes in
    let stops : ℕ → Bool = λ x. top 7 (f x) in
    let long = length-chunk at 16 bytes room in
    let mask = ap (λ l. mask_l l % 2 ^ 64) (ap (map (top 7)) lanes ∙ map-map (top 7) f v)
    ∙ mask_l-mod (map stops v) 64 (omega (arith, length-map v stops, long)) in
    found ∙ ap (λ m. lowest_set m 16) mask ∙ counted stops v long ∙ alike stops p v all (chunk-fits w8 at 16 bytes fits)

-- a run that ends within a block, or continues after it
within_block : (p : ℕ → Bool) (front behind : List ℕ) → prefix_len p front < length front
    → prefix_len p (front ++ behind) ≡ prefix_len p front
within_block p front behind short =
    let differ : prefix_len p front ≡ length front → ⊥ = λ is. omega (arith, is, short) in
    prefix_len-append p front behind ∙ cond-false _ _ _ (ne_eqb (prefix_len p front) (length front) differ)

past_block : (p : ℕ → Bool) (front behind : List ℕ) → length front ≤ prefix_len p front
    → prefix_len p (front ++ behind) ≡ length front + prefix_len p behind
past_block p front behind long =
    let is : prefix_len p front ≡ length front = omega (arith, long, prefix_len-le-length p front) in
    prefix_len-append p front behind ∙ cond-true _ _ _ (eq-eqb _ _ is)

module _ (p : ℕ → Bool) (bytes : List ℕ) (at r : ℕ) (room : at + 16 ≤ length bytes)
    (run : r ≡ prefix_len p (take 16 (drop at bytes))) where
  long : length (take 16 (drop at bytes)) ≡ 16
  long = length-chunk at 16 bytes room

  pub ends_in_block : r < 16 → prefix_len p (drop at bytes) ≡ r
  ends_in_block short =
      ap (prefix_len p) (chunk-drop at 16 bytes)
      ∙ within_block p (take 16 (drop at bytes)) (drop (at + 16) bytes) (omega (arith, long, run)) ∙ sym run

  pub goes_behind : 16 ≤ r → (r ≡ 16) × (prefix_len p (drop at bytes) ≡ r + prefix_len p (drop (at + r) bytes))
  goes_behind whole =
      let is : r ≡ 16 = omega (arith, long, run, prefix_len-le-length p (take 16 (drop at bytes))) in
      let behind = ap (prefix_len p) (chunk-drop at 16 bytes)
      ∙ past_block p (take 16 (drop at bytes)) (drop (at + 16) bytes) (omega (arith, long, run)) in
      (is, rw is (behind ∙ ap (λ n. n + prefix_len p (drop (at + 16) bytes)) long))

-- what two classes both have all of, the second has all of
of_second : (q p : ℕ → Bool) (v : List ℕ) → prefix_len (λ x. q x && p x) v ≡ length v → prefix_len p v ≡ length v
of_second q p [] e = refl
of_second q p (x ∷ xs) e = go (λ h. of_second q p xs h) (q x) (p x) e
  where
    go : (prefix_len (λ y. q y && p y) xs ≡ length xs → prefix_len p xs ≡ length xs) → (a b : Bool)
        → cond (a && b) (1 + prefix_len (λ y. q y && p y) xs) 0 ≡ length (x ∷ xs) → cond b (1 + prefix_len p xs) 0 ≡ length (x ∷ xs)
    go rest true true e = omega (arith, rest (omega (arith, e)))
    go rest true false e = absurd (omega (arith, e))
    go rest false b e = absurd (omega (arith, e))

-- a block of sixty-four whose vector has no top bit is all of the class, where each byte without one is of it
pub filled_of : (p : ℕ → Bool) (bytes : List ℕ) (at : ℕ) (z : List ℕ) → at + 64 ≤ length bytes
    → ((k : ℕ) → Fits w8 (get_or bytes k 0)) → mask_l (map (top 7) z) % 2 ^ 64 ≡ 0
    → (f : ℕ → ℕ) → z ≡ map f (chunk at 64 bytes) → agree_below (λ x. not (top 7 (f x))) (λ x. not (top 7 (f x)) && p x) 256 ≡ true
    → prefix_len p (take 64 (drop at bytes)) ≡ 64
filled_of p bytes at z room fits none f lanes all =
    let v = chunk at 64 bytes in
    let stops : ℕ → Bool = λ x. top 7 (f x) in
    let long = length-chunk at 64 bytes room in
    let mask = ap (λ l. mask_l l % 2 ^ 64) (ap (map (top 7)) lanes ∙ map-map (top 7) f v)
    ∙ mask_l-mod (map stops v) 64 (omega (arith, length-map v stops, long)) in
    let both = sym (alike stops (λ x. not (stops x) && p x) v all (chunk-fits w8 at 64 bytes fits))
    ∙ leading_from_mask_l stops v (sym mask ∙ none) in
    of_second (λ x. not (stops x)) p v both ∙ long

pub behind_filled : (p : ℕ → Bool) (bytes : List ℕ) (at : ℕ) → at + 64 ≤ length bytes → prefix_len p (take 64 (drop at bytes)) ≡ 64
    → prefix_len p (drop at bytes) ≡ 64 + prefix_len p (drop (at + 64) bytes)
behind_filled p bytes at room filled =
    let long = length-chunk at 64 bytes room in
    ap (prefix_len p) (chunk-drop at 64 bytes)
    ∙ past_block p (take 64 (drop at bytes)) (drop (at + 64) bytes) (omega (arith, long, filled))
    ∙ ap (λ n. n + prefix_len p (drop (at + 64) bytes)) long

-- a run continues from each place that it passes
within_run : (p : ℕ → Bool) (d : List ℕ) (k : ℕ) → k ≤ prefix_len p d → k + prefix_len p (drop k d) ≡ prefix_len p d
within_run p d zero h = omega arith
within_run p [] (suc k) h = absurd (omega arith)
within_run p (c ∷ cs) (suc k) h = go (λ l. within_run p cs k l) (p c) h
  where
    go : (k ≤ prefix_len p cs → k + prefix_len p (drop k cs) ≡ prefix_len p cs) → (b : Bool) → suc k ≤ cond b (1 + prefix_len p cs) 0
        → suc k + prefix_len p (drop k cs) ≡ cond b (1 + prefix_len p cs) 0
    go rest true h = omega (arith, rest (omega arith))
    go rest false h = absurd (omega arith)

-- so its end is that of the run in the last sixteen bytes, where they begin no further on
pub ends_in_last : (p : ℕ → Bool) (bytes : List ℕ) (from at last r : ℕ) → from ≤ last → last ≤ at → last + 16 ≡ length bytes
    → at + prefix_len p (drop at bytes) ≡ from + prefix_len p (drop from bytes)
    → r ≡ prefix_len p (take 16 (drop last bytes)) → last + r ≡ from + prefix_len p (drop from bytes)
ends_in_last p bytes from at last r behind before long passed run =
    let k = last - from in
    let there : from + k ≡ last = omega (arith, behind) in
    let whole = take_all 16 (drop last bytes) (omega (arith, length-drop last bytes, long)) in
    let here : drop k (drop from bytes) ≡ drop last bytes = drop-drop k from bytes ∙ ap (λ n. drop n bytes) there in
    let on = within_run p (drop from bytes) k (omega (arith, behind, before, passed)) in
    let is : r ≡ prefix_len p (drop k (drop from bytes)) = run ∙ ap (prefix_len p) (whole ∙ sym here) in
    omega (arith, on, is, there)

-- where the last sixteen bytes are all of a class, those from a place among them on are
pub filled_to_end : (p : ℕ → Bool) (bytes : List ℕ) (from last r : ℕ) → last ≤ from → from ≤ length bytes → last + 16 ≡ length bytes
    → r ≡ prefix_len p (take 16 (drop last bytes)) → r ≡ 16 → from + prefix_len p (drop from bytes) ≡ length bytes
filled_to_end p bytes from last r behind within long run full =
    let k = from - last in
    let there : last + k ≡ from = omega (arith, behind) in
    let whole = take_all 16 (drop last bytes) (omega (arith, length-drop last bytes, long)) in
    let all : prefix_len p (drop last bytes) ≡ 16 = ap (prefix_len p) (sym whole) ∙ sym run ∙ full in
    let here : drop k (drop last bytes) ≡ drop from bytes = drop-drop k last bytes ∙ ap (λ n. drop n bytes) there in
    let on = within_run p (drop last bytes) k (omega (arith, all, there, within, long)) in
    let same : prefix_len p (drop from bytes) ≡ prefix_len p (drop k (drop last bytes)) = ap (prefix_len p) (sym here) in
    omega (arith, on, all, same, there, long)
