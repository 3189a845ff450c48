-- Which of both texts a text is.
use Rattle.witness.proofs.ToldNames.{[], ◌∙◌, ◌∷◌, ◌≡◌, Act, ap, AreContactLines, AreRunContacts, arith, codes, Damaged, Err, IsContacts}
use Rattle.witness.proofs.ToldNames.{IsDamagedContacts, IsDamagedTold, IsToldText, List, Memory, Ok, ReadsFault, ReadsText, Reported, Result}
use Rattle.witness.proofs.ToldNames.{slice_index, sym, TextFault, whole_lines, ℕ}
use Rattle.contact_ledger.specs.ContactTexts.{none, some}
use Rattle.witness.specs.Either.{acted, AreAudited, IsDamagedAudited, IsToldFile, reported}

pub no_lines : (bytes : List ℕ) → whole_lines bytes ≡ [] → IsToldFile bytes → ⊥
no_lines bytes e told = let both : ◌≡◌ {A = List (List ℕ)} [] (codes "DME-TOLD 1" ∷ told.more) = sym e ∙ told.lines in absurd cc

pub first_line : (bytes line rest : List ℕ) → whole_lines bytes ≡ line ∷ whole_lines rest → line ≡ codes "DME-TOLD 1" → IsToldFile bytes
first_line bytes line rest e same = record { more = whole_lines rest; lines = e ∙ ap (λ (l : List ℕ). l ∷ whole_lines rest) same }

pub line_first : (bytes line rest : List ℕ) → whole_lines bytes ≡ line ∷ whole_lines rest → IsToldFile bytes → line ≡ codes "DME-TOLD 1"
line_first bytes line rest e told =
    let both : line ∷ whole_lines rest ≡ codes "DME-TOLD 1" ∷ told.more = sym e ∙ told.lines in
    cc

pub acts_read : (bytes : List ℕ) (r : Result (List (ℕ × Act)) TextFault) → (IsToldFile bytes → ⊥)
    → ReadsText (IsContacts bytes) (IsDamagedContacts bytes) r → ReadsText (AreAudited bytes) (IsDamagedAudited bytes) r
acts_read bytes (Ok ledger) other h = acted other h
acts_read bytes (Err (Damaged n)) other h = acted other h
acts_read bytes (Err Memory) other h = tt

pub told_damaged : (bytes : List ℕ) (fault : TextFault) → IsToldFile bytes → ReadsFault (IsDamagedTold bytes) fault
    → ReadsFault (IsDamagedAudited bytes) fault
told_damaged bytes (Damaged n) told h = reported told h
told_damaged bytes Memory told h = tt

-- a text of acts is no text of what was reported
lines_apart : (lines more : List (List ℕ)) (es : List (ℕ × Act)) → AreContactLines lines es → lines ≡ codes "DME-TOLD 1" ∷ more → ⊥
lines_apart lines more es (none a b) e = let both : ◌≡◌ {A = List (List ℕ)} [] (codes "DME-TOLD 1" ∷ more) = sym a ∙ e in absurd cc
lines_apart lines more es (some a b) e =
    let header : codes "DME-CONTACTS 1" ≡ codes "DME-TOLD 1" = cc in
    let n : 67 ≡ 84 = ap (λ (t : List ℕ). slice_index t 4) header in
    omega (arith, n)

pub contacts_apart : (bytes : List ℕ) (es : List (ℕ × Act)) → IsContacts bytes es → IsToldFile bytes → ⊥
contacts_apart bytes es h told = lines_apart (whole_lines bytes) told.more es h told.lines

pub contacts_audited : (bytes : List ℕ) (es : List (ℕ × Act)) → IsContacts bytes es → AreAudited bytes es
contacts_audited bytes es h = acted (contacts_apart bytes es h) h

pub report_audited : (bytes : List ℕ) (es : List (ℕ × Reported)) (ledger : List (ℕ × Act)) → IsToldFile bytes → IsToldText bytes es
    → AreRunContacts es ledger → AreAudited bytes ledger
report_audited bytes es ledger told h made = reported told es h made

pub ruleset audited = (acts_read, told_damaged)
