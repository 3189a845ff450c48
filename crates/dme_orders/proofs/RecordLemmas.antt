-- The texts of a record's features and acts.
use Rattle.dme_orders.proofs.Names.{◌<◌, ◌≡◌, Act, AllByRecursion, codes, length, List, map, Meaning, true, ℕ}
use Rattle.client_core.specs.Clients.{are_ours}
use Rattle.client_core.proofs.Fits.{ours_writable}
use Rattle.contact_ledger.specs.ContactTexts.{act_line, contacts_text}
use Rattle.contact_ledger.specs.FeatureTexts.{CanBeWritten, header, lines_of_all}
use Rattle.contact_ledger.specs.Ledgers.{HaveOrigins}
use Rattle.contact_ledger.specs.Lines.{text_of}
use Rattle.contact_ledger.specs.declared.features.Feature.{Feature}
use Rattle.dmis_program.specs.Programs.{IsProgram}
use Rattle.order_parts.specs.Kept.{IsFeaturesText}
use Rattle.order_parts.proofs.PlanLemmas.{some_after}

-- features of a program can be written
pub ours_can_be_written : (program : Meaning) (features : List Feature) → IsProgram program → are_ours program.features features ≡ true
    → HaveOrigins features → AllByRecursion CanBeWritten features
ours_can_be_written program features is ours origins = ours_writable program.features features (IsProgram.features is) ours origins

-- a text of features is not empty
pub features_have_text : (text : List ℕ) (features : List Feature) → IsFeaturesText features text → 0 < length text
features_have_text text features is = rw is.2 (some_after (header is.0) (text_of (lines_of_all is.0 features)))

-- a text of contacts is not empty
pub contacts_have_text : (text : List ℕ) (told : List (ℕ × Act)) → text ≡ contacts_text told → 0 < length text
contacts_have_text text told is = rw is (some_after (codes "DME-CONTACTS 1") (text_of (map act_line told)))
