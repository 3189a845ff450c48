-- What the writers add, one piece after another.
use Rattle.contact_ledger.proofs.Names.{[], ◌++◌, ◌+◌, ◌<◌, ◌∙◌, ◌∷◌, ◌≡◌, ap, append-nil, append_assoc, arith, codes, decimal, drop, Err, Feature}
use Rattle.contact_ledger.proofs.Names.{feature_lines, get_or, if◌then◌else◌, is_ok, length, line_of, lines_of_all, List, map, Ok, OnOk}
use Rattle.contact_ledger.proofs.Names.{origin_fields, point_line, refl, Result, Second, spaced, suc, sym, text_of, zero, ℕ}

pub then_ok : {A E P Q : Type 0} (r : Result A E) → (P → Q) → OnOk r P → OnOk r Q
then_ok (Ok x) f p = f p
then_ok (Err e) f p = tt

pub then_is_ok : {A E Q : Type 0} (r : Result A E) (new x y : List ℕ) → new ≡ (if is_ok r then x else y) → (new ≡ x → Q) → OnOk r Q
then_is_ok (Ok a) new x y e f = f e
then_is_ok (Err a) new x y e f = tt

-- the first field, and the others with a space before each
pub line_spaced : (field : List ℕ) (fields : List (List ℕ)) → line_of (field ∷ fields) ≡ field ++ spaced fields
line_spaced field [] = sym (append-nil field)
line_spaced field (next ∷ fields) = ap (λ (t : List ℕ). field ++ (32 ∷ t)) (line_spaced next fields)

pub spaced_more : (xs ys : List (List ℕ)) → spaced (xs ++ ys) ≡ spaced xs ++ spaced ys
spaced_more [] ys = refl
spaced_more (x ∷ xs) ys = ap (λ (t : List ℕ). 32 ∷ t) (ap (λ (t : List ℕ). x ++ t) (spaced_more xs ys)
    ∙ sym (append_assoc x (spaced xs) (spaced ys)))

pub text_more : (xs ys : List (List ℕ)) → text_of (xs ++ ys) ≡ text_of xs ++ text_of ys
text_more [] ys = refl
text_more (x ∷ xs) ys = ap (λ (t : List ℕ). x ++ 10 ∷ t) (text_more xs ys) ∙ sym (append_assoc x (10 ∷ text_of xs) (text_of ys))

-- the pieces of an opening line and of what is below
pieces : (old a b c d e f : List ℕ) → ((((((old ++ a) ++ b) ++ c) ++ d) ++ e) ++ f) ≡ old ++ (a ++ (b ++ (c ++ (d ++ (e ++ f)))))
pieces old a b c d e f = append_assoc ((((old ++ a) ++ b) ++ c) ++ d) e f ∙ append_assoc (((old ++ a) ++ b) ++ c) d (e ++ f)
    ∙ append_assoc ((old ++ a) ++ b) c (d ++ (e ++ f)) ∙ append_assoc (old ++ a) b (c ++ (d ++ (e ++ f)))
    ∙ append_assoc old a (b ++ (c ++ (d ++ (e ++ f))))

feature_text : (f : Feature) → text_of (feature_lines Second f)
    ≡ codes "FEATURE" ++ (spaced (f.label ∷ []) ++ (spaced (decimal (length f.points) ∷ []) ++ (spaced (origin_fields f.origin)
    ++ (10 ∷ (text_of (map point_line f.points) ++ codes "END\n")))))
feature_text f =
    let opening : line_of (codes "FEATURE" ∷ f.label ∷ decimal (length f.points) ∷ origin_fields f.origin)
    ≡ codes "FEATURE" ++ (spaced (f.label ∷ []) ++ (spaced (decimal (length f.points) ∷ []) ++ spaced (origin_fields f.origin))) =
    line_spaced (codes "FEATURE") (f.label ∷ decimal (length f.points) ∷ origin_fields f.origin)
    ∙ ap (λ (t : List ℕ). codes "FEATURE" ++ t) (spaced_more (f.label ∷ []) (decimal (length f.points) ∷ origin_fields f.origin)
    ∙ ap (λ (t : List ℕ). spaced (f.label ∷ []) ++ t) (spaced_more (decimal (length f.points) ∷ []) (origin_fields f.origin))) in
    let points : text_of (map point_line f.points ++ codes "END" ∷ []) ≡ text_of (map point_line f.points) ++ codes "END\n" =
    text_more (map point_line f.points) (codes "END" ∷ []) in
    let below = 10 ∷ (text_of (map point_line f.points) ++ codes "END\n") in
    ap (λ (t : List ℕ). t ++ 10 ∷ text_of (map point_line f.points ++ codes "END" ∷ [])) opening
    ∙ ap (λ (t : List ℕ). (codes "FEATURE" ++ (spaced (f.label ∷ []) ++ (spaced (decimal (length f.points) ∷ [])
    ++ spaced (origin_fields f.origin)))) ++ 10 ∷ t) points
    ∙ append_assoc (codes "FEATURE") (spaced (f.label ∷ []) ++ (spaced (decimal (length f.points) ∷ []) ++ spaced
    (origin_fields f.origin))) below
    ∙ ap (λ (t : List ℕ). codes "FEATURE" ++ t)
    (append_assoc (spaced (f.label ∷ [])) (spaced (decimal (length f.points) ∷ []) ++ spaced (origin_fields f.origin)) below
    ∙ ap (λ (t : List ℕ). spaced (f.label ∷ []) ++ t)
    (append_assoc (spaced (decimal (length f.points) ∷ [])) (spaced (origin_fields f.origin)) below))

pub feature_written : (old a b c d e g new : List ℕ) (f : Feature) → a ≡ old ++ codes "FEATURE" → b ≡ a ++ spaced (f.label ∷ [])
    → c ≡ b ++ spaced (decimal (length f.points) ∷ []) → d ≡ c ++ spaced (origin_fields f.origin) → e ≡ d ++ 10 ∷ []
    → g ≡ e ++ text_of (map point_line f.points) → new ≡ g ++ codes "END\n" → new ≡ old ++ text_of (feature_lines Second f)
feature_written old a b c d e g new f p q r s t u v =
    let all : new ≡ ((((((old ++ codes "FEATURE") ++ spaced (f.label ∷ [])) ++ spaced (decimal (length f.points) ∷ []))
    ++ spaced (origin_fields f.origin)) ++ 10 ∷ []) ++ text_of (map point_line f.points)) ++ codes "END\n" =
    rw (v, u, t, s, r, q, p) refl in
    all ∙ append_assoc (((((old ++ codes "FEATURE") ++ spaced (f.label ∷ [])) ++ spaced (decimal (length f.points) ∷ []))
    ++ spaced (origin_fields f.origin)) ++ 10 ∷ []) (text_of (map point_line f.points)) (codes "END\n")
    ∙ pieces old (codes "FEATURE") (spaced (f.label ∷ [])) (spaced (decimal (length f.points) ∷ [])) (spaced (origin_fields f.origin))
    (10 ∷ []) (text_of (map point_line f.points) ++ codes "END\n")
    ∙ ap (λ (x : List ℕ). old ++ x) (sym (feature_text f))

-- ---- a loop over features

drop_suc : (n : ℕ) (xs : List Feature) (x : Feature) → n < length xs → x ≡ get_or xs n x → drop n xs ≡ x ∷ drop (suc n) xs
drop_suc n [] x h e = absurd (omega arith)
drop_suc zero (y ∷ ys) x h e = ap (λ (z : Feature). z ∷ ys) (sym e)
drop_suc (suc n) (y ∷ ys) x h e = drop_suc n ys x (omega arith) e

plus_one : (n : ℕ) → n + 1 ≡ suc n
plus_one n = omega arith

pub drop_item : (n : ℕ) (xs : List Feature) (x : Feature) → n < length xs → x ≡ get_or xs n x → drop n xs ≡ x ∷ drop (n + 1) xs
drop_item n xs x h e = rw (plus_one n) (drop_suc n xs x h e)

pub features_step : (old new whole : List ℕ) (rest : List Feature) (f : Feature)
    → old ++ text_of (lines_of_all Second (f ∷ rest)) ≡ whole → new ≡ old ++ text_of (feature_lines Second f)
    → new ++ text_of (lines_of_all Second rest) ≡ whole
features_step old new whole rest f e w = rw w (append_assoc old (text_of (feature_lines Second f)) (text_of (lines_of_all Second rest)))
    ∙ ap (λ (t : List ℕ). old ++ t) (sym (text_more (feature_lines Second f) (lines_of_all Second rest))) ∙ e

-- ---- acts

pub five_pieces : (old a b c d e n1 n2 n3 n4 n5 : List ℕ) → n1 ≡ old ++ a → n2 ≡ n1 ++ b → n3 ≡ n2 ++ c → n4 ≡ n3 ++ d → n5 ≡ n4 ++ e
    → n5 ≡ old ++ (a ++ (b ++ (c ++ (d ++ e))))
five_pieces old a b c d e n1 n2 n3 n4 n5 p q r s t =
    let all : n5 ≡ ((((old ++ a) ++ b) ++ c) ++ d) ++ e = rw (t, s, r, q, p) refl in
    all ∙ append_assoc (((old ++ a) ++ b) ++ c) d e ∙ append_assoc ((old ++ a) ++ b) c (d ++ e) ∙ append_assoc (old ++ a) b (c ++ (d ++ e))
    ∙ append_assoc old a (b ++ (c ++ (d ++ e)))

pub spaced_five : (a b c d e : List (List ℕ)) → spaced (a ++ (b ++ (c ++ (d ++ e))))
    ≡ spaced a ++ (spaced b ++ (spaced c ++ (spaced d ++ spaced e)))
spaced_five a b c d e = spaced_more a (b ++ (c ++ (d ++ e))) ∙ ap (λ (t : List ℕ). spaced a ++ t) (spaced_more b (c ++ (d ++ e))
    ∙ ap (λ (t : List ℕ). spaced b ++ t) (spaced_more c (d ++ e) ∙ ap (λ (t : List ℕ). spaced c ++ t) (spaced_more d e)))

pub contact_written : (old n1 n2 n3 n4 n5 tool : List ℕ) (target dir frame point : List (List ℕ)) → n1 ≡ old ++ spaced target
    → n2 ≡ n1 ++ spaced dir → n3 ≡ n2 ++ spaced (tool ∷ []) → n4 ≡ n3 ++ spaced frame → n5 ≡ n4 ++ spaced point
    → n5 ≡ old ++ spaced (target ++ (dir ++ (tool ∷ (frame ++ point))))
contact_written old n1 n2 n3 n4 n5 tool target dir frame point p q r s t =
    five_pieces old (spaced target) (spaced dir) (spaced (tool ∷ [])) (spaced frame) (spaced point) n1 n2 n3 n4 n5 p q r s t
    ∙ ap (λ (x : List ℕ). old ++ x) (sym (spaced_five target dir (tool ∷ []) frame point))

pub entry_written : (old a b new number : List ℕ) (fields : List (List ℕ)) → a ≡ old ++ number → b ≡ a ++ spaced fields
    → new ≡ b ++ 10 ∷ [] → new ≡ old ++ (line_of (number ∷ fields) ++ 10 ∷ [])
entry_written old a b new number fields p q r =
    let all : new ≡ ((old ++ number) ++ spaced fields) ++ 10 ∷ [] = rw (r, q, p) refl in
    all ∙ append_assoc (old ++ number) (spaced fields) (10 ∷ []) ∙ append_assoc old number (spaced fields ++ 10 ∷ [])
    ∙ ap (λ (x : List ℕ). old ++ x) (sym (append_assoc number (spaced fields) (10 ∷ []))
    ∙ ap (λ (x : List ℕ). x ++ 10 ∷ []) (sym (line_spaced number fields)))
