-- The whole lines of texts that end with a line feed.
use Rattle.record_text.proofs.RunNames.{[], ◌++◌, ◌+◌, ◌==◌, ◌∙◌, ◌∷◌, ◌≡◌, and_parts, ap, append-nil, AreWhole, arith, Bool, but_last, EndsLine, eqb}
use Rattle.record_text.proofs.RunNames.{eqb-true, false, inl, inr, length, List, list_all, not, onto_first, refl, sym, text_of, true, ℕ}
use Rattle.std.proofs.lemmas.List.Splits.{length-slice_split, slice_split-cons_no}
use Rattle.contact_ledger.specs.Lines.{whole_lines}

-- a byte before the first of lines, if there is one
abbrev before_first : ℕ → List (List ℕ) → List (List ℕ)
before_first x [] = []
before_first x (l ∷ ls) = (x ∷ l) ∷ ls

but_last_more : (x : List ℕ) (parts : List (List ℕ)) (n : ℕ) → length parts ≡ n + 1 → but_last (x ∷ parts) ≡ x ∷ but_last parts
but_last_more x [] n e = absurd (omega (arith, e))
but_last_more x (y ∷ ys) n e = refl

but_last_first : (x : ℕ) (parts : List (List ℕ)) (n : ℕ) → length parts ≡ n + 1
    → but_last (onto_first x parts) ≡ before_first x (but_last parts)
but_last_first x [] n e = absurd (omega (arith, e))
but_last_first x (p ∷ []) n e = refl
but_last_first x (p ∷ q ∷ ps) n e = refl

nil_whole : whole_lines [] ≡ []
unfolding whole_lines
nil_whole = refl

-- a line feed first
end_first : (xs : List ℕ) → whole_lines (10 ∷ xs) ≡ [] ∷ whole_lines xs
unfolding whole_lines
end_first xs = but_last_more [] _ _ (length-slice_split (λ b. eqb b 10) xs)

-- another byte first
byte_first : (x : ℕ) (xs : List ℕ) → eqb x 10 ≡ false → whole_lines (x ∷ xs) ≡ before_first x (whole_lines xs)
unfolding whole_lines
byte_first x xs other = ap (λ (ps : List (List ℕ)). but_last ps) (slice_split-cons_no (λ b. eqb b 10) x xs other)
    ∙ but_last_first x _ _ (length-slice_split (λ b. eqb b 10) xs)

-- what is up to a line feed has a first line, and its lines as a text are it; what follows has its own lines
record Whole (xs rest : List ℕ) : Type 0 where
  first : List ℕ
  others : List (List ℕ)
  lines : whole_lines (xs ++ 10 ∷ []) ≡ first ∷ others
  text : text_of (first ∷ others) ≡ xs ++ 10 ∷ []
  more : whole_lines (xs ++ 10 ∷ rest) ≡ (first ∷ others) ++ whole_lines rest

whole : (xs rest : List ℕ) → Whole xs rest
whole [] rest = record {
  first = [];
  others = [];
  lines = end_first [] ∙ ap (λ (ls : List (List ℕ)). [] ∷ ls) nil_whole;
  text = refl;
  more = end_first rest;
}
whole (x ∷ xs) rest = go (eqb x 10) refl (whole xs rest)
  where
    go : (b : Bool) → eqb x 10 ≡ b → Whole xs rest → Whole (x ∷ xs) rest
    go true is w = record {
      first = [];
      others = w.first ∷ w.others;
      lines = ap (λ (c : ℕ). whole_lines (c ∷ (xs ++ 10 ∷ []))) (eqb-true x 10 is)
          ∙ (end_first (xs ++ 10 ∷ []) ∙ ap (λ (ls : List (List ℕ)). [] ∷ ls) w.lines);
      text = ap (λ (t : List ℕ). 10 ∷ t) w.text ∙ ap (λ (c : ℕ). c ∷ (xs ++ 10 ∷ [])) (sym (eqb-true x 10 is));
      more = ap (λ (c : ℕ). whole_lines (c ∷ (xs ++ 10 ∷ rest))) (eqb-true x 10 is)
          ∙ (end_first (xs ++ 10 ∷ rest) ∙ ap (λ (ls : List (List ℕ)). [] ∷ ls) w.more);
    }
    go false other w = record {
      first = x ∷ w.first;
      others = w.others;
      lines = byte_first x (xs ++ 10 ∷ []) other ∙ ap (before_first x) w.lines;
      text = ap (λ (t : List ℕ). x ∷ t) w.text;
      more = byte_first x (xs ++ 10 ∷ rest) other ∙ ap (before_first x) w.more;
    }

no_line : (torn : List ℕ) → list_all (λ b. not (b == 10)) torn ≡ true → whole_lines torn ≡ []
no_line [] none = nil_whole
no_line (x ∷ xs) none =
    let parts = and_parts (not (eqb x 10)) (list_all (λ b. not (b == 10)) xs) none in
    byte_first x xs (is_not (eqb x 10) parts.0) ∙ ap (before_first x) (no_line xs parts.1)
  where
    is_not : (b : Bool) → not b ≡ true → b ≡ false
    is_not true e = cc
    is_not false e = refl

-- the whole lines of bytes, as a text, are all up to the last line feed
pub record Found (bytes text : List ℕ) : Type 0 where
  pub text_is : text ≡ text_of (whole_lines bytes)

pub whole_found : (bytes text : List ℕ) → AreWhole bytes text → Found bytes text
whole_found bytes text h = go h.ends
  where
    go : EndsLine text → Found bytes text
    go (inl none) = record {
      text_is = none ∙ ap text_of (sym (ap whole_lines (sym h.parts ∙ ap (λ (t : List ℕ). t ++ h.torn) none) ∙ no_line h.torn h.none));
    }
    go (inr line) =
        let w : Whole line.0 h.torn = whole line.0 h.torn in
        let bytes_are : bytes ≡ line.0 ++ 10 ∷ h.torn =
        sym h.parts ∙ (ap (λ (t : List ℕ). t ++ h.torn) line.1 ∙ joined line.0) in
        record {
          text_is = line.1 ∙ (sym w.text ∙ ap text_of (sym (ap whole_lines bytes_are ∙ (w.more
              ∙ (ap (λ (ls : List (List ℕ)). (w.first ∷ w.others) ++ ls) (no_line h.torn h.none)
              ∙ append-nil (w.first ∷ w.others))))));
        }
      where
        joined : (xs : List ℕ) → (xs ++ 10 ∷ []) ++ h.torn ≡ xs ++ 10 ∷ h.torn
        joined [] = refl
        joined (x ∷ xs) = ap (λ (t : List ℕ). x ∷ t) (joined xs)

-- what follows the whole lines of bytes has its own lines
pub whole_then : (bytes text added : List ℕ) → AreWhole bytes text → whole_lines (text ++ added) ≡ whole_lines bytes ++ whole_lines added
whole_then bytes text added h = go h.ends
  where
    go : EndsLine text → whole_lines (text ++ added) ≡ whole_lines bytes ++ whole_lines added
    go (inl none) =
        let no_lines : whole_lines bytes ≡ [] =
        ap whole_lines (sym h.parts ∙ ap (λ (t : List ℕ). t ++ h.torn) none) ∙ no_line h.torn h.none in
        ap (λ (t : List ℕ). whole_lines (t ++ added)) none
        ∙ ap (λ (ls : List (List ℕ)). ls ++ whole_lines added) (sym no_lines)
    go (inr line) =
        let w : Whole line.0 h.torn = whole line.0 h.torn in
        let v : Whole line.0 added = whole line.0 added in
        let old : whole_lines bytes ≡ whole_lines (line.0 ++ 10 ∷ []) =
        ap whole_lines (sym h.parts ∙ (ap (λ (t : List ℕ). t ++ h.torn) line.1 ∙ joined line.0 h.torn))
        ∙ (w.more ∙ (ap (λ (ls : List (List ℕ)). (w.first ∷ w.others) ++ ls) (no_line h.torn h.none)
        ∙ (append-nil (w.first ∷ w.others) ∙ sym w.lines))) in
        ap whole_lines (ap (λ (t : List ℕ). t ++ added) line.1 ∙ joined line.0 added)
        ∙ (v.more ∙ ap (λ (ls : List (List ℕ)). ls ++ whole_lines added) (sym v.lines ∙ sym old))
      where
        joined : (xs rest : List ℕ) → (xs ++ 10 ∷ []) ++ rest ≡ xs ++ 10 ∷ rest
        joined [] rest = refl
        joined (x ∷ xs) rest = ap (λ (t : List ℕ). x ∷ t) (joined xs rest)
