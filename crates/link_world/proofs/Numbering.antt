-- Contacts that are numbered, act by act.
use Rattle.link_world.proofs.Names.{[], ◌++◌, ◌+◌, ◌∙◌, ◌∷◌, ◌≡◌, Act, ap, append-nil, arith, cond, contact_count, contacts, contacts_more, Direction}
use Rattle.link_world.proofs.Names.{false, Frame, is_contact, length, List, MadeContact, numbered_from, Option, Point, refl, reported, suc}
use Rattle.link_world.proofs.Names.{true≢false, ℕ}
use Rattle.std.proofs.lemmas.List.Recursion.{is_count_by}
use Rattle.link_world.specs.Reports.{shown}
use Rattle.link_world.specs.ReportRows.{contact}
use Rattle.link_world.specs.declared.texts.reports.Reported.{Reported}

-- how many contacts are counted
counted_more : (entry : ℕ × Act) (acts : List (ℕ × Act)) → length (contacts (entry ∷ acts))
    ≡ cond (is_contact entry.1) (1 + length (contacts acts)) (length (contacts acts))
counted_more (m, Act.Contact t d o f p) acts = omega arith
counted_more (m, Act.HomedIs h) acts = refl
counted_more (m, Act.Homed) acts = refl
counted_more (m, Act.Moved t f) acts = refl
counted_more (m, Act.Changed o) acts = refl
counted_more (m, Act.Framed f) acts = refl

counted : (acts : List (ℕ × Act)) → length (contacts acts) ≡ contact_count acts
counted acts =
    is_count_by (λ (acts : List (ℕ × Act)). length (contacts acts)) (λ (entry : ℕ × Act). is_contact entry.1) refl counted_more acts

-- the numbers continue after other contacts
numbered_more : (n : ℕ) (front more : List MadeContact)
    → numbered_from n (front ++ more) ≡ numbered_from n front ++ numbered_from (n + length front) more
numbered_more n [] more = ap (λ (k : ℕ). numbered_from k more) (omega arith)
numbered_more n (made ∷ front) more =
    ap (λ (rest : List Reported). shown n made ∷ rest) (numbered_more (suc n) front more
    ∙ ap (λ (k : ℕ). numbered_from (suc n) front ++ numbered_from k more) (omega arith))

-- one more contact follows the others
pub contact_more : (front : List (ℕ × Act)) (connection : ℕ) (target : Point) (dir : Option Direction) (tool : List ℕ) (frame : Frame)
    (point : Point) → reported (front ++ (connection, Act.Contact target dir tool frame point) ∷ [])
    ≡ reported front ++ contact (contact_count front) connection point ∷ []
contact_more front connection target dir tool frame point =
    let same : length (contacts front) ≡ contact_count front = counted front in
    let number : 0 + length (contacts front) ≡ contact_count front = omega (arith, same) in
    ap (numbered_from 0) (contacts_more front ((connection, Act.Contact target dir tool frame point) ∷ []))
    ∙ numbered_more 0 (contacts front) (contacts ((connection, Act.Contact target dir tool frame point) ∷ []))
    ∙ ap (λ (k : ℕ). reported front ++ contact k connection point ∷ []) number

-- another act is not a contact
none_alone : (connection : ℕ) (other : Act) → is_contact other ≡ false → contacts ((connection, other) ∷ []) ≡ []
none_alone connection (Act.Contact t d o f p) not = absurd (true≢false not)
none_alone connection (Act.HomedIs h) not = refl
none_alone connection Act.Homed not = refl
none_alone connection (Act.Moved t f) not = refl
none_alone connection (Act.Changed o) not = refl
none_alone connection (Act.Framed f) not = refl

pub other_more : (front : List (ℕ × Act)) (connection : ℕ) (other : Act) → is_contact other ≡ false
    → reported (front ++ (connection, other) ∷ []) ≡ reported front
other_more front connection other not =
    ap (numbered_from 0) (contacts_more front ((connection, other) ∷ []) ∙ ap (λ (ms : List MadeContact). contacts front ++ ms)
    (none_alone connection other not) ∙ append-nil (contacts front))
