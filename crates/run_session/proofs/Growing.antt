-- What a features file grows by.
use Rattle.run_session.proofs.Names.{[], ◌++◌, ◌∙◌, ◌∷◌, ◌≡◌, AllByRecursion, ap, append-nil, append_assoc, codes, drop, List}
use Rattle.run_session.proofs.Names.{refl, suc, sym, take, take-append-drop, zero, ℕ}
use Rattle.contact_ledger.proofs.WrittenTexts.{text_more}
use Rattle.contact_ledger.specs.FeatureTexts.{feature_lines, features_text, header, lines_of_all}
use Rattle.contact_ledger.specs.Lines.{text_of}
use Rattle.contact_ledger.specs.declared.features.Feature.{Feature}
use Rattle.order_parts.specs.Kept.{IsFeaturesText}
use Rattle.run_session.specs.Records.{AreFeaturesLines, IsOneVersion}

-- what holds of each element of a list holds of each element after the first n
pub all_drop : {X : Type 0} (P : X → Type 0) (n : ℕ) (xs : List X) → AllByRecursion P xs → AllByRecursion P (drop n xs)
all_drop P zero xs all = all
all_drop P (suc n) [] all = tt
all_drop P (suc n) (x ∷ xs) all = all_drop P n xs all.1

-- what follows the first line of a text
pub headless : (v : _) (fs : List Feature) (whole : List ℕ) → whole ≡ features_text v fs → header v ≡ codes "DME-FEATURES 2"
    → AreFeaturesLines fs (drop 15 whole)
headless v fs whole is at = (
  v,
  at,
  ap (λ (t : List ℕ). header v ++ 10 ∷ drop 15 t) is
      ∙ ap (λ (first : List ℕ). header v ++ 10 ∷ drop 15 (first ++ 10 ∷ text_of (lines_of_all v fs))) at,
)

pub last_lines : (v : _) (f : Feature) → header v ≡ codes "DME-FEATURES 2" → AreFeaturesLines (f ∷ []) (text_of (feature_lines v f))
last_lines v f at = (v, at, ap (λ (l : List (List ℕ)). text_of (header v ∷ l)) (sym (append-nil (feature_lines v f))))

-- ---- the text of the first features, and then the lines of the others

lines_more : (v : _) (fs gs : List Feature) → lines_of_all v (fs ++ gs) ≡ lines_of_all v fs ++ lines_of_all v gs
lines_more v [] gs = refl
lines_more v (f ∷ fs) gs = ap (λ (l : List (List ℕ)). feature_lines v f ++ l) (lines_more v fs gs)
    ∙ sym (append_assoc (feature_lines v f) (lines_of_all v fs) (lines_of_all v gs))

added : (v : _) (n : ℕ) (fs : List Feature) → features_text v (take n fs) ++ text_of (lines_of_all v (drop n fs)) ≡ features_text v fs
added v n fs = sym (text_more (header v ∷ lines_of_all v (take n fs)) (lines_of_all v (drop n fs)))
    ∙ ap (λ (l : List (List ℕ)). text_of (header v ∷ l))
    (sym (lines_more v (take n fs) (drop n fs)) ∙ ap (λ (l : List Feature). lines_of_all v l) (take-append-drop n fs))

same_lines : (v : _) (lines more : List ℕ) → header v ≡ codes "DME-FEATURES 2" → header v ++ 10 ∷ lines ≡ header v ++ 10 ∷ more → lines ≡ more
same_lines v lines more at is = ap (λ (first : List ℕ). drop 15 (first ++ 10 ∷ lines)) (sym at)
    ∙ (ap (λ (t : List ℕ). drop 15 t) is ∙ ap (λ (first : List ℕ). drop 15 (first ++ 10 ∷ more)) at)

pub text_grows : (n : ℕ) (fs : List Feature) (text more : List ℕ) → IsOneVersion → IsFeaturesText (take n fs) text → AreFeaturesLines (drop n fs) more
    → IsFeaturesText fs (text ++ more)
text_grows n fs text more one is lines = (
  lines.0,
  lines.1,
  ap (λ (t : List ℕ). t ++ more) (is.2 ∙ ap (λ v. features_text v (take n fs)) (one is.0 lines.0 (is.1 ∙ sym lines.1)))
      ∙ (ap (λ (t : List ℕ). features_text lines.0 (take n fs) ++ t)
      (same_lines lines.0 more (text_of (lines_of_all lines.0 (drop n fs))) lines.1 lines.2) ∙ added lines.0 n fs),
)

-- nothing, if there are no others
pub none_more : (more : List ℕ) → AreFeaturesLines [] (7 ∷ more) → ⊥
none_more more lines =
    let none : 7 ∷ more ≡ [] = same_lines lines.0 (7 ∷ more) [] lines.1 lines.2 in cc
