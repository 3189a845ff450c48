-- Error lines.
use Rattle.dme_line.proofs.Names.{◌++◌, ◌∙◌, ◌≡◌, Aborted, append_assoc, codes, ErrorNumber, ErrorState, four_digits, List, MachineFault, NoSession}
use Rattle.dme_line.proofs.Names.{NoSurface, NotHomed, NoTool, number_of, OutOfVolume, QueueFull, quoted, refl, SessionOpen, TagInUse, text_of}
use Rattle.dme_line.proofs.Names.{UnknownTool, ℕ}
use Rattle.dme_line.specs.Errors.{error_text, numbered}
use Rattle.dme_line.specs.declared.errors.ErrorNumber.TheVariants.{BadArguments, NoTag, UnknownCommand}

-- five texts appended one after another
five_texts : (a b c d e f : List ℕ) → ((((a ++ b) ++ c) ++ d) ++ e) ++ f ≡ a ++ (b ++ (c ++ (d ++ (e ++ f))))
five_texts a b c d e f = simp append_assoc

pub report_text : (old first second third fourth new : List ℕ) (code : ℕ) (name text : List ℕ) → first ≡ old ++ codes "Error(3, "
    → second ≡ first ++ four_digits code → third ≡ second ++ (codes ", " ++ quoted name) → fourth ≡ third ++ (codes ", " ++ quoted text)
    → new ≡ fourth ++ codes ")" → new ≡ old ++ (codes "Error(3, "
    ++ (four_digits code ++ (codes ", " ++ (quoted name ++ (codes ", " ++ (quoted text ++ codes ")"))))))
report_text old first second third fourth new code name text p q r s t =
    t ∙ rw (s, r, q, p) (five_texts old (codes "Error(3, ") (four_digits code) (codes ", " ++ quoted name) (codes ", " ++ quoted text)
    (codes ")"))

-- the text of an error's number is that of the error
pub text_by_number : (e : ErrorNumber) → error_text (number_of e) ≡ text_of e
unfolding error_text numbered
text_by_number NoTag = refl
text_by_number TagInUse = refl
text_by_number UnknownCommand = refl
text_by_number BadArguments = refl
text_by_number NoSession = refl
text_by_number SessionOpen = refl
text_by_number Aborted = refl
text_by_number ErrorState = refl
text_by_number QueueFull = refl
text_by_number NotHomed = refl
text_by_number NoTool = refl
text_by_number UnknownTool = refl
text_by_number OutOfVolume = refl
text_by_number NoSurface = refl
text_by_number MachineFault = refl
