-- The whole lines of a text are the lines of which it was made.
use Rattle.contact_ledger.proofs.Names.{[], ◌++◌, ◌+◌, ◌<◌, ◌∙◌, ◌∷◌, ◌≡◌, AllByRecursion, and_from, and_parts, ap, append-nil, append_assoc}
use Rattle.contact_ledger.proofs.Names.{AreFeatures, arith, Bool, but_last, codes, decimal, eqb, false, Feature, feature_lines, features_text, First}
use Rattle.contact_ledger.proofs.Names.{header, inl, inr, IsFeature, IsFeatures, IsOnWire, known_fields, le-leb, leb-true, length, length-append}
use Rattle.contact_ledger.proofs.Names.{length-slice_split, line_of, lines_of_all, List, list_all, map, nat_le, ne_eqb, opening_of, Point, point_line}
use Rattle.contact_ledger.proofs.Names.{refl, Second, slice_split, subst, suc, sym, take, text_of, true, Version, written, zero, ℕ}
use Rattle.contact_ledger.specs.Lines.{whole_lines}
use Rattle.contact_ledger.specs.FeatureTexts.{none, some}
use Rattle.contact_ledger.proofs.PlainFields.{is_plain, ArePlain, point_plain}
use Rattle.contact_ledger.proofs.OpeningLines.{opening_plain}
use Rattle.contact_ledger.proofs.FeatureShapes.{opening_good}

-- a byte that is not a line end
abbrev pub is_text : ℕ → Bool
is_text c = nat_le 32 c

pub record IsText (line : List ℕ) : Type 0 where
  pub all : list_all is_text line ≡ true

abbrev pub AreTexts : List (List ℕ) → Type 0
AreTexts lines = AllByRecursion IsText lines

plain_text : (field rest : List ℕ) → list_all is_plain field ≡ true → IsText rest → IsText (field ++ rest)
plain_text [] rest h t = t
plain_text (x ∷ xs) rest h t =
    let p = and_parts (is_plain x) (list_all is_plain xs) h in
    let more = plain_text xs rest p.1 t in
    record { all = and_from _ _ (le-leb 32 x (omega (arith, leb-true 33 x p.0))) more.all }

line_text : (field : List ℕ) (fields : List (List ℕ)) → ArePlain (field ∷ fields) → IsText (line_of (field ∷ fields))
line_text field [] h = subst (λ (t : List ℕ). IsText t) (append-nil field) (plain_text field [] h.0.plain (record { all = refl }))
line_text field (next ∷ fields) h =
    let more = line_text next fields h.1 in
    plain_text field (32 ∷ line_of (next ∷ fields)) h.0.plain (record { all = more.all })

front_text : (k : ℕ) (line : List ℕ) → IsText line → IsText (take k line)
front_text zero line h = record { all = refl }
front_text (suc k) [] h = record { all = refl }
front_text (suc k) (x ∷ xs) h =
    let p = and_parts (is_text x) (list_all is_text xs) h.all in
    let more = front_text k xs (record { all = p.1 }) in
    record { all = and_from _ _ p.0 more.all }

texts_append : (xs ys : List (List ℕ)) → AreTexts xs → AreTexts ys → AreTexts (xs ++ ys)
texts_append [] ys a b = b
texts_append (x ∷ xs) ys a b = (a.0, texts_append xs ys a.1 b)

-- ---- lines of a text

no_end : (c : ℕ) → is_text c ≡ true → eqb c 10 ≡ false
no_end c h = ne_eqb c 10 (λ e. omega (arith, leb-true 32 c h, e))

end_behind : (line rest : List ℕ) → list_all is_text line ≡ true
    → slice_split (λ b. eqb b 10) (line ++ (10 ∷ rest)) ≡ line ∷ slice_split (λ b. eqb b 10) rest
end_behind [] rest h = refl
end_behind (x ∷ xs) rest h =
    let p = and_parts (is_text x) (list_all is_text xs) h in
    rw (no_end x p.0, end_behind xs rest p.1) refl

end_alone : (line : List ℕ) → list_all is_text line ≡ true → slice_split (λ b. eqb b 10) line ≡ line ∷ []
end_alone [] h = refl
end_alone (x ∷ xs) h =
    let p = and_parts (is_text x) (list_all is_text xs) h in
    rw (no_end x p.0, end_alone xs p.1) refl

but_last_more : (x : List ℕ) (parts : List (List ℕ)) (n : ℕ) → length parts ≡ n + 1 → but_last (x ∷ parts) ≡ x ∷ but_last parts
but_last_more x [] n e = absurd (omega (arith, e))
but_last_more x (y ∷ ys) n e = refl

line_first : (line rest : List ℕ) → IsText line → whole_lines (line ++ (10 ∷ rest)) ≡ line ∷ whole_lines rest
unfolding whole_lines
line_first line rest h = rw (end_behind line rest h.all) (but_last_more line _ _ (length-slice_split (λ b. eqb b 10) rest))

no_line : (line : List ℕ) → IsText line → whole_lines line ≡ []
unfolding whole_lines
no_line line h = rw (end_alone line h.all) refl

pub lines_back : (lines : List (List ℕ)) (tail : List ℕ) → AreTexts lines → whole_lines (text_of lines ++ tail) ≡ lines ++ whole_lines tail
lines_back [] tail h = refl
lines_back (line ∷ lines) tail h =
    ap (λ (t : List ℕ). whole_lines t) (append_assoc line (10 ∷ text_of lines) tail) ∙ line_first line (text_of lines ++ tail) h.0
    ∙ ap (λ (ls : List (List ℕ)). line ∷ ls) (lines_back lines tail h.1)

-- ---- a prefix of a text

pub record Cut (lines : List (List ℕ)) (bytes : List ℕ) : Type 0 where
  pub front : List (List ℕ)
  pub behind : List (List ℕ)
  pub parts : lines ≡ front ++ behind
  pub short : 0 < length behind
  pub whole : whole_lines bytes ≡ front

-- that many bytes of a line and what follows it: a prefix of the line, or the line, its end and a prefix of the rest
data Fronts (k : ℕ) (line rest : List ℕ) : Type 0 where
  within : take k (line ++ (10 ∷ rest)) ≡ take k line → Fronts k line rest
  beyond : (j : ℕ) → j < k → j + length line + 1 ≡ k → take k (line ++ (10 ∷ rest)) ≡ line ++ (10 ∷ take j rest) → Fronts k line rest

fronts_more : (k x : ℕ) (xs rest : List ℕ) → Fronts k xs rest → Fronts (suc k) (x ∷ xs) rest
fronts_more k x xs rest (within e) = within (ap (λ (t : List ℕ). x ∷ t) e)
fronts_more k x xs rest (beyond j l n e) = beyond j (omega arith) (omega (arith, n)) (ap (λ (t : List ℕ). x ∷ t) e)

fronts : (k : ℕ) (line rest : List ℕ) → Fronts k line rest
fronts zero line rest = within refl
fronts (suc k) [] rest = beyond k (omega arith) (omega arith) refl
fronts (suc k) (x ∷ xs) rest = fronts_more k x xs rest (fronts k xs rest)

cut_more : (k : ℕ) (line : List ℕ) (lines : List (List ℕ)) → IsText line
    → ((j : ℕ) → j < length (text_of lines) → Cut lines (take j (text_of lines))) → k < length (text_of (line ∷ lines))
    → Fronts k line (text_of lines) → Cut (line ∷ lines) (take k (text_of (line ∷ lines)))
cut_more k line lines h rest l (within e) = record {
  front = [];
  behind = line ∷ lines;
  parts = refl;
  short = omega arith;
  whole = ap (λ (t : List ℕ). whole_lines t) e ∙ no_line (take k line) (front_text k line h);
}
cut_more k line lines h rest l (beyond j b n e) =
    let more = rest j (omega (arith, l, n, length-append line (10 ∷ text_of lines))) in
    record {
      front = line ∷ more.front;
      behind = more.behind;
      parts = ap (λ (ls : List (List ℕ)). line ∷ ls) more.parts;
      short = more.short;
      whole = ap (λ (t : List ℕ). whole_lines t) e ∙ line_first line (take j (text_of lines)) h
          ∙ ap (λ (ls : List (List ℕ)). line ∷ ls) more.whole;
    }

pub cut_text : (lines : List (List ℕ)) (k : ℕ) → AreTexts lines → k < length (text_of lines) → Cut lines (take k (text_of lines))
cut_text [] k h l = absurd (omega arith)
cut_text (line ∷ lines) k h l = cut_more k line lines h.0 (λ j m. cut_text lines j h.1 m) l (fronts k line (text_of lines))

-- ---- the lines of features

header_text : (v : Version) → IsText (header v)
header_text First = record { all = refl }
header_text Second = record { all = refl }

points_text : (points : List Point) → AllByRecursion IsOnWire points → AreTexts (map point_line points)
points_text [] h = tt
points_text (p ∷ ps) h = (line_text (written p.x) (written p.y ∷ written p.z ∷ []) (point_plain p h.0), points_text ps h.1)

feature_text : (v : Version) (f : Feature) → IsFeature v f → AreTexts (feature_lines v f)
feature_text v f h = (
  line_text (codes "FEATURE") (f.label ∷ decimal (length f.points) ∷ known_fields v f.origin)
      (opening_plain v (opening_of f) (opening_good v f h)),
  texts_append (map point_line f.points) (codes "END" ∷ []) (points_text f.points h.points) (record { all = refl }, tt),
)

features_texts : (v : Version) (fs : List Feature) → AreFeatures v fs → AreTexts (lines_of_all v fs)
features_texts v [] h = tt
features_texts v (f ∷ fs) h = texts_append (feature_lines v f) (lines_of_all v fs) (feature_text v f h.0) (features_texts v fs h.1)

whole_nil : whole_lines [] ≡ []
unfolding whole_lines
whole_nil = refl

-- a written text says its list
pub text_back : (v : Version) (fs : List Feature) → AreFeatures v fs → IsFeatures (features_text v fs) fs
text_back v fs h =
    let lines : whole_lines (features_text v fs) ≡ header v ∷ (lines_of_all v fs ++ []) =
    ap (λ (t : List ℕ). whole_lines t) (sym (append-nil (features_text v fs)))
    ∙ lines_back (header v ∷ lines_of_all v fs) [] (header_text v, features_texts v fs h)
    ∙ ap (λ (ls : List (List ℕ)). header v ∷ (lines_of_all v fs ++ ls)) whole_nil in
    some (record { version = v; rest = []; writable = h; whole = lines; torn = inl refl })

-- cut within a feature it says the features above it
pub torn_back : (v : Version) (fs : List Feature) (f : Feature) (k : ℕ) → AreFeatures v fs → IsFeature v f
    → k < length (text_of (feature_lines v f)) → IsFeatures (features_text v fs ++ take k (text_of (feature_lines v f))) fs
torn_back v fs f k h g l =
    let cut = cut_text (feature_lines v f) k (feature_text v f g) l in
    let lines : whole_lines (features_text v fs ++ take k (text_of (feature_lines v f))) ≡ header v ∷ (lines_of_all v fs ++ cut.front) =
    lines_back (header v ∷ lines_of_all v fs) (take k (text_of (feature_lines v f))) (header_text v, features_texts v fs h)
    ∙ ap (λ (ls : List (List ℕ)). header v ∷ (lines_of_all v fs ++ ls)) cut.whole in
    some (record {
      version = v;
      rest = cut.front;
      writable = h;
      whole = lines;
      torn = inr (f, record { writable = g; behind = cut.behind; front = cut.parts; short = cut.short });
    })

first_none : (line : List ℕ) (front behind : List (List ℕ)) → line ∷ [] ≡ front ++ behind → 0 < length behind → front ≡ []
first_none line [] behind e s = refl
first_none line (x ∷ []) [] e s = absurd (omega arith)
first_none line (x ∷ []) (b ∷ bs) e s = absurd cc
first_none line (x ∷ y ∷ ys) behind e s = absurd cc

-- cut within its header it says none
pub header_back : (v : Version) (k : ℕ) → k < length (text_of (header v ∷ [])) → IsFeatures (take k (text_of (header v ∷ []))) []
header_back v k l =
    let cut = cut_text (header v ∷ []) k (header_text v, tt) l in
    none (cut.whole ∙ first_none (header v) cut.front cut.behind cut.parts cut.short) refl
