-- Which features of a program were not measured, and the line that names them (this profile).
use Rattle.std.specs.Prelude.{◌≡◌, ◌==◌, if◌then◌else◌, ℕ, List, [], ◌∷◌, ◌++◌, length, drop, codes, decimal, string_bytes}
use Rattle.std.specs.List.{flat_map}
use Rattle.contact_ledger.specs.declared.features.Feature.{Feature}
use Rattle.dmis_program.specs.declared.features.Wanted.{Wanted}
use Rattle.order_parts.specs.LastLine.{feature_noun}
use Rattle.dme_orders.specs.declared.missing.Missing.{Missing}

-- the labels of features that a program asks for
abbrev pub labels_of : List Wanted → List (List ℕ)
labels_of [] = []
labels_of (w ∷ wanted) = w.label ∷ labels_of wanted

-- labels after the first one, each after a comma
abbrev pub more_labels : List (List ℕ) → List ℕ
more_labels labels = flat_map (λ label. codes ", " ++ label) labels

-- the end of the line, by the labels after the first one
abbrev pub missing_verb : List (List ℕ) → List ℕ
missing_verb [] = codes " is missing\n"
missing_verb (label ∷ labels) = codes " are missing\n"

-- the line: how many features were measured, of how many, and the labels of the others; nothing if there are no others
abbrev pub missing_text : ℕ → ℕ → List (List ℕ) → List ℕ
missing_text measured asked [] = []
missing_text measured asked (label ∷ labels) = codes "dme: " ++ (decimal measured ++ (codes " of " ++ (decimal asked ++ (codes " "
    ++ (feature_noun asked ++ (codes ": " ++ (label ++ (more_labels labels ++ missing_verb labels))))))))

-- these are the first features of a program: the others are missing, by their labels in the order of the program, and are named
pub record IsMissing (wanted : List Wanted) (features : List Feature) (missing : Missing) : Type 0 where
  pub measured : missing.measured ≡ length features
  pub asked : missing.asked ≡ length wanted
  pub labels : missing.labels.items ≡ labels_of (drop (length features) wanted)
  pub said : string_bytes missing.sentence ≡ missing_text (length features) (length wanted) (labels_of (drop (length features) wanted))

-- the exit status of an export: 3 if a feature is missing
abbrev pub missing_status : List (List ℕ) → ℕ
missing_status [] = 0
missing_status (label ∷ labels) = 3
