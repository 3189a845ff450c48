-- A text that passed a range from 1 on reads as the number that it writes, and a flag as it was given.
use Rattle.dme_words.proofs.Names.{[], ◌&&◌, ◌<◌, ◌==◌, ◌^◌, ◌∙◌, ◌∷◌, ◌≡◌, ap, ap₂, arith, Bool, bool_text, codes, cond, Err, false, first_of}
use Rattle.dme_words.proofs.Names.{HasFlag, IsFlagOf, IsNumber, IsSignedIn, le-leb, List, None, Ok, one_of, Option, ParsesUnsigned, pos, refl, Result}
use Rattle.dme_words.proofs.Names.{Row, Some, starts_with_minus, subst, sym, Text, true, true≢false, unwrap_or, without_minus, ℕ}
use Rattle.std.proofs.lemmas.Int.{ints}
use Rattle.clap.specs.Matches.{ReadsOne}
use Rattle.client_core.specs.Clients.{is_window}

-- a text that does not begin with a minus
without_minus-same : (t : List ℕ) → starts_with_minus t ≡ false → without_minus t ≡ t
without_minus-same [] e = refl
without_minus-same (x ∷ xs) e = go (x == 45) e
  where
    go : (b : Bool) → b ≡ false → unwrap_or (cond b (Some xs) None) (x ∷ xs) ≡ x ∷ xs
    go true e = absurd (true≢false e)
    go false e = refl

-- the text that was read is the text itself, since no number below 0 is in the range
pub number_reads : (E : Type 0) (G : List ℕ → Result ℕ E → Type 0) (bits most : ℕ) (t : List ℕ) (r : Option ℕ)
    → ReadsOne G (without_minus t) r → ((u : List ℕ) (x : Result ℕ E) → G u x → ParsesUnsigned bits 10 u x) → most < 2 ^ bits
    → IsSignedIn (pos 1) (pos most) t
    → (n : ℕ) × (r ≡ Some n) × IsNumber most n t
number_reads E G bits most t r read only fits passed = go (starts_with_minus t) refl r read
  where
    go : (b : Bool) → starts_with_minus t ≡ b → (o : Option ℕ) → ReadsOne G (without_minus t) o
        → (n : ℕ) × (o ≡ Some n) × IsNumber most n t
    go true minus o h =
        let low_ok = rw minus at passed.2 in
        absurd (omega (arith, ints))
    go false minus (Some v) h =
        let low_ok = rw minus at passed.2 in
        let high_ok = rw minus at passed.3 in
        let parsed = only t (Ok v) (subst (λ (u : List ℕ). G u (Ok v)) (without_minus-same t minus) h) in
        (v, refl, (rw minus (ap pos (sym parsed.1)), rw parsed.1 (omega (arith, ints)), rw parsed.1 (omega (arith, ints))))
    go false minus None h =
        let low_ok = rw minus at passed.2 in
        let high_ok = rw minus at passed.3 in
        let numeral = rw minus at passed.0 in
        absurd (only t (Err h.0) (subst (λ (u : List ℕ). G u (Err h.0)) (without_minus-same t minus) h.1) (numeral, omega (arith, ints)))

-- a number of that range is a window that a client takes
pub number-window : (window : ℕ) (text : Text) → IsNumber 16 window text → is_window window ≡ true
number-window window text is = ap₂ (λ a b. a && b) (le-leb 1 window is.1) (le-leb window 16 is.2)

-- the flag that was read is the one that was given
pub flag_reads : (id : Text) (rows : List Row) (one : Option Text) (result : Bool) → one ≡ one_of id rows → HasFlag id rows
    → (one ≡ Some (codes "true") → result ≡ true) → (one ≡ Some (codes "false") → result ≡ false) → IsFlagOf id rows result
flag_reads id rows one result same has raised lowered = go has.is_set has.written (same ∙ has.read)
  where
    go : (b : Bool) → first_of id rows ≡ Some (bool_text b) → one ≡ Some (bool_text b) → IsFlagOf id rows result
    go true written read = subst (IsFlagOf id rows) (sym (raised read)) written
    go false written read = subst (IsFlagOf id rows) (sym (lowered read)) written
