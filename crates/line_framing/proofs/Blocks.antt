-- A search in blocks ends where the content ends.
use Rattle.line_framing.proofs.Names.{◌&&◌, ◌||◌, ◌∙◌, ◌≡◌, ap, arith, Bool, content_len, false, get_or, is_content, length, List, None, not}
use Rattle.line_framing.proofs.Names.{prefix_len_is, refl, Some, sym, true, ℕ}
use Rattle.memchr.specs.Find.{is_byte2, IsFirstByte}

-- CR and LF are what is no content
no_content_by : (b c : Bool) → (not b && not c) ≡ not (b || c)
no_content_by true c = refl
no_content_by false c = refl

is_no_end : (c : ℕ) → is_content c ≡ not (is_byte2 13 10 c)
is_no_end c = no_content_by _ _

not_end : (b : Bool) → ¬ (b ≡ true) → not b ≡ true
not_end true h = absurd (h refl)
not_end false h = refl

-- the first CR or LF ends the content
pub first_ends_content : (bytes : List ℕ) (k : ℕ) → IsFirstByte (is_byte2 13 10) bytes (Some k) → k ≡ content_len bytes
first_ends_content bytes k h =
    sym (prefix_len_is is_content bytes k 0 (omega (arith, h.0.high))
    (λ j below. is_no_end (get_or bytes j 0) ∙ not_end _ (h.0.before j (omega arith) below))
    (λ short. is_no_end (get_or bytes k 0) ∙ ap not h.1))

-- and if there is none, all is content
pub none_ends_content : (bytes : List ℕ) → IsFirstByte (is_byte2 13 10) bytes None → length bytes ≡ content_len bytes
none_ends_content bytes h =
    sym (prefix_len_is is_content bytes (length bytes) 0 (omega arith)
    (λ k below. is_no_end (get_or bytes k 0) ∙ not_end _ (h k (omega arith) below))
    (λ short. absurd (omega (arith, short))))
