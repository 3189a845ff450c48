-- What the lines of one more error add to a record.
use Rattle.std.proofs.Common.{◌≡◌, ℕ, ◌+◌, ◌<◌, List, [], ◌∷◌, ◌++◌, length, map, take, get_or, refl, ap, sym, ◌∙◌, append_assoc}
use Rattle.std.proofs.lemmas.List.{take-map, map_more}
use Rattle.contact_ledger.specs.Lines.{text_of}
use Rattle.record_text.specs.Entries.{error_note, kept_error, noted_line}
use Rattle.record_text.specs.Growths.{note_lines}
use Rattle.record_text.specs.declared.notes.Note.TheVariants.{Refused}

abbrev pub error_line : ℕ → List ℕ → List ℕ
error_line n e = noted_line n Refused (kept_error e)

abbrev pub error_lines : ℕ → List (List ℕ) → List ℕ
error_lines n errors = note_lines n (map error_note errors)

one_more : (n : ℕ) (errors : List (List ℕ)) (e : List ℕ)
    → error_lines n (errors ++ e ∷ []) ≡ error_lines n errors ++ text_of (error_line n e ∷ [])
one_more n [] e = refl
one_more n (a ∷ errors) e = ap (λ (t : List ℕ). error_line n a ++ 10 ∷ t) (one_more n errors e)
    ∙ sym (append_assoc (error_line n a) (10 ∷ error_lines n errors) (text_of (error_line n e ∷ [])))

first_more : {V : Type 0} (f : V → List ℕ) (xs : List V) (i : ℕ) (x : V) → i < length xs → x ≡ get_or xs i x
    → take (i + 1) (map f xs) ≡ take i (map f xs) ++ f x ∷ []
first_more f xs i x h e = take-map f (i + 1) xs ∙ map_more f xs i x h
    ∙ ap (λ (t : List (List ℕ)). t ++ f (get_or xs i x) ∷ []) (sym (take-map f i xs))
    ∙ ap (λ y. take i (map f xs) ++ f y ∷ []) (sym e)

-- a text that has the lines of the first errors, and then gets the line of the next one
pub added : {V : Type 0} (f : V → List ℕ) (n m : ℕ) (xs : List V) (i : ℕ) (x : V) (bytes old before after : List ℕ)
    → after ≡ before ++ text_of (error_line m bytes ∷ []) → bytes ≡ f x
    → before ≡ old ++ error_lines n (take i (map f xs)) → m ≡ n → i < length xs → x ≡ get_or xs i x
    → after ≡ old ++ error_lines n (take (i + 1) (map f xs))
added f n m xs i x bytes old before after w is b same h e =
    w ∙ ap (λ k. before ++ text_of (error_line k bytes ∷ [])) same
    ∙ ap (λ (k : List ℕ). before ++ text_of (error_line n k ∷ [])) is
    ∙ ap (λ (t : List ℕ). t ++ text_of (error_line n (f x) ∷ [])) b
    ∙ append_assoc old (error_lines n (take i (map f xs))) (text_of (error_line n (f x) ∷ []))
    ∙ ap (λ (t : List ℕ). old ++ t) (sym (one_more n (take i (map f xs)) (f x)))
    ∙ ap (λ (t : List (List ℕ)). old ++ error_lines n t) (sym (first_more f xs i x h e))
