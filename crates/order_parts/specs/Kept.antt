-- What a run reports of the features that a file gives back, and the text of its own features (this profile).
use Rattle.std.specs.Prelude.{◌≡◌, ℕ, ◌==◌, if◌then◌else◌, List, ◌++◌, codes, decimal}
use Rattle.contact_ledger.specs.FeatureTexts.{features_text, header}
use Rattle.contact_ledger.specs.declared.features.Feature.{Feature}

-- all of them
abbrev pub all_kept_text : (count : ℕ) (name : List ℕ) → List ℕ
all_kept_text count name = if count == 1 then codes "dme: the only feature kept from " ++ (name ++ codes ", nothing is measured\n")
    else codes "dme: all " ++ (decimal count ++ (codes " features kept from " ++ (name ++ codes ", nothing is measured\n")))

-- how many, of how many that the program asks for, and from which file
abbrev pub kept_text : (kept asked : ℕ) (name : List ℕ) → List ℕ
kept_text kept asked name = if kept == asked then all_kept_text asked name
    else codes "dme: " ++ (decimal kept ++ (codes " of " ++ (decimal asked ++ (codes " features kept from " ++ (name ++ codes "\n")))))

-- the written form of these features, in the present version
abbrev pub IsFeaturesText : List Feature → List ℕ → Type 0
IsFeaturesText features text = (version : _) × (header version ≡ codes "DME-FEATURES 2") × (text ≡ features_text version features)
