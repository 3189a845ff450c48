-- A text after another gives its place.
use Rattle.program_review.proofs.Names.{◌++◌, ◌+◌, ◌<◌, ◌∙◌, ◌∷◌, ◌≡◌, add-one, ap, append_assoc, Bool, drop, get_or, Held, length, List, map, Option}
use Rattle.program_review.proofs.Names.{place_on, places_below, refl, sym, TaskLine, text_seen, ℕ}
use Rattle.std.proofs.Math.Seq.{drop-cons}
use Rattle.program_review.specs.declared.texts.OperatorText.{OperatorText}

drop_item : {A : Type 0} (i : ℕ) (xs : List A) (x : A) → i < length xs → x ≡ get_or xs i x → drop i xs ≡ x ∷ drop (i + 1) xs
drop_item i xs x h e = rw (← sym e) (rw (add-one, drop-cons xs i x) refl)

pub one_more : (waits confirmed : Bool) (last : Option ℕ) (lines : List (Option ℕ)) (left : List TaskLine) (i : ℕ) (texts : List OperatorText)
    (t : OperatorText) (old new whole : List Held) → i < length texts → t ≡ get_or texts i t
    → new ≡ old ++ place_on waits confirmed last lines left (text_seen t)
    → old ++ places_below waits confirmed last lines left (map text_seen (drop i texts)) ≡ whole
    → new ++ places_below waits confirmed last lines left (map text_seen (drop (i + 1) texts)) ≡ whole
one_more waits confirmed last lines left i texts t old new whole h is more all =
    ap (λ (l : List Held). l ++ places_below waits confirmed last lines left (map text_seen (drop (i + 1) texts))) more
    ∙ (append_assoc old (place_on waits confirmed last lines left (text_seen t))
    (places_below waits confirmed last lines left (map text_seen (drop (i + 1) texts)))
    ∙ (ap (λ (l : List OperatorText). old ++ places_below waits confirmed last lines left (map text_seen l)) (sym (drop_item i texts t h is)) ∙ all))
