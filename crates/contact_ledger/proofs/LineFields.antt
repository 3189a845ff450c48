-- The fields of a line are those of which it was made.
use Rattle.contact_ledger.proofs.Names.{[], ◌++◌, ◌<◌, ◌∙◌, ◌∷◌, ◌≡◌, and_parts, ap, arith, eqb, false, join_with_byte-slice_split, leb-true, line_of}
use Rattle.contact_ledger.proofs.Names.{List, list_all, ne_eqb, refl, slice_split, sym, true, ℕ}
use Rattle.contact_ledger.specs.Lines.{fields_of}
use Rattle.contact_ledger.proofs.PlainFields.{is_plain, ArePlain}

not_mark : (c mark : ℕ) → mark < 33 → is_plain c ≡ true → eqb c mark ≡ false
not_mark c mark small h = ne_eqb c mark (λ e. omega (arith, leb-true 33 c h, e))

pub part_behind : (mark : ℕ) (field rest : List ℕ) → mark < 33 → list_all is_plain field ≡ true
    → slice_split (λ b. eqb b mark) (field ++ (mark ∷ rest)) ≡ field ∷ slice_split (λ b. eqb b mark) rest
part_behind mark [] rest small h = rw (same mark) refl
  where
    same : (n : ℕ) → eqb n n ≡ true
    same n = grind arith
part_behind mark (x ∷ xs) rest small h =
    let p = and_parts (is_plain x) (list_all is_plain xs) h in
    rw (not_mark x mark small p.0, part_behind mark xs rest small p.1) refl

pub part_alone : (mark : ℕ) (field : List ℕ) → mark < 33 → list_all is_plain field ≡ true
    → slice_split (λ b. eqb b mark) field ≡ field ∷ []
part_alone mark [] small h = refl
part_alone mark (x ∷ xs) small h =
    let p = and_parts (is_plain x) (list_all is_plain xs) h in
    rw (not_mark x mark small p.0, part_alone mark xs small p.1) refl

-- plain fields with a space between each two are the fields of their line
pub line_fields : (field : List ℕ) (fields : List (List ℕ)) → ArePlain (field ∷ fields) → fields_of (line_of (field ∷ fields))
    ≡ field ∷ fields
unfolding fields_of
line_fields field [] h = part_alone 32 field (omega arith) h.0.plain
line_fields field (next ∷ fields) h = part_behind 32 field (line_of (next ∷ fields)) (omega arith) h.0.plain
    ∙ ap (λ (fs : List (List ℕ)). field ∷ fs) (line_fields next fields h.1)

-- a line is made of its fields
pub made_of : (line : List ℕ) (fields : List (List ℕ)) → fields_of line ≡ fields → line ≡ line_of fields
unfolding fields_of
made_of line fields e = sym (join_with_byte-slice_split 32 line) ∙ ap (λ (fs : List (List ℕ)). line_of fs) e
