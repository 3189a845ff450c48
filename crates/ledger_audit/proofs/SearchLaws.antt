-- A search for contacts that serve all touches of a feature.
use Rattle.ledger_audit.proofs.Names.{[], ◌+◌, ◌-◌, ◌<◌, ◌∙◌, ◌∷◌, ◌≡◌, ◌≤◌, ◌⊎◌, ap, arith, asked, asked_at, Begins, cases_lt, connection_by}
use Rattle.ledger_audit.proofs.Names.{contact_at, get_or, HasNoneBetween, inl, inr, IsLeastShift, length, List, MadeContact, Point, Probed, shown}
use Rattle.ledger_audit.proofs.Names.{shown_by, Some, subst, suc, sym, Touch, zero, ℕ}
use Rattle.ledger_audit.proofs.ShiftLaws.{shift_most}

-- a contact, and what a touch asks for, by number
pub contact_read : (made : List MadeContact) (i : ℕ) (m : MadeContact) → i < length made → m ≡ get_or made i m → contact_at made i ≡ Some m
contact_read [] i m lt e = absurd (omega arith)
contact_read (x ∷ made) zero m lt e = ap Some (sym e)
contact_read (x ∷ made) (suc i) m lt e = contact_read made i m (omega arith) e

pub asked_read : (ts : List Touch) (ps : List Point) (i : ℕ) (t : Touch) (p : Point) → i < length ts → i < length ps
    → t ≡ get_or ts i t → p ≡ get_or ps i p → asked_at ts ps i ≡ Some (asked t p)
asked_read [] ps i t p lt lu e d = absurd (omega arith)
asked_read (x ∷ ts) [] i t p lt lu e d = absurd (omega arith)
asked_read (x ∷ ts) (y ∷ ps) zero t p lt lu e d = let one : t ≡ x = e in let other : p ≡ y = d in cc
asked_read (x ∷ ts) (y ∷ ps) (suc i) t p lt lu e d = asked_read ts ps i t p (omega arith) (omega arith) e d

pub connection_read : (made : List MadeContact) (i : ℕ) (m : MadeContact) (n : ℕ) → n ≡ m.connection → i < length made
    → m ≡ get_or made i m → connection_by (contact_at made i) ≡ Some n
connection_read made i m n is lt e = ap connection_by (contact_read made i m lt e) ∙ ap Some (sym is)

-- a contact fits a touch if it shows what the touch asks for
pub fits_by : (ts : List Touch) (ps : List Point) (made : List MadeContact) (i q : ℕ) (m : MadeContact) (a b : Probed)
    → contact_at made i ≡ Some m → a ≡ shown m → asked_at ts ps q ≡ Some b → a ≡ b → shown_by (contact_at made i) ≡ asked_at ts ps q
fits_by ts ps made i q m a b is shows asks same =
    let one : shown_by (contact_at made i) ≡ Some (shown m) = ap shown_by is in
    let other : Some (shown m) ≡ Some b = ap Some (sym shows ∙ same) in
    one ∙ other ∙ sym asks

pub unfit_by : (ts : List Touch) (ps : List Point) (made : List MadeContact) (i q : ℕ) (m : MadeContact) (a b : Probed)
    → contact_at made i ≡ Some m → a ≡ shown m → asked_at ts ps q ≡ Some b → (a ≡ b → ⊥)
    → shown_by (contact_at made i) ≡ asked_at ts ps q → ⊥
unfit_by ts ps made i q m a b is shows asks other fits =
    let one : Some (shown m) ≡ shown_by (contact_at made i) = sym (ap shown_by is) in
    let same : Some (shown m) ≡ Some b = one ∙ fits ∙ asks in
    let inside : shown m ≡ b = cc in
    other (shows ∙ inside)

-- no touches are served anywhere
pub begins_none : (ts : List Touch) (ps : List Point) (made : List MadeContact) (s : ℕ) → s ≤ length made → Begins ts ps made s 0
begins_none ts ps made s le = record {
  within = omega arith;
  alike = λ k lt. absurd (omega arith);
  on = λ k lt. absurd (omega arith);
}

-- one more touch is served
pub begins_more : (ts : List Touch) (ps : List Point) (made : List MadeContact) (s q : ℕ) → Begins ts ps made s q → s + q < length made
    → shown_by (contact_at made (s + q)) ≡ asked_at ts ps q
    → connection_by (contact_at made (s + q)) ≡ connection_by (contact_at made s) → Begins ts ps made s (q + 1)
begins_more ts ps made s q h lt fits same = record {
  within = omega arith;
  alike = λ k below. alike k below (cases_lt k q);
  on = λ k below. on k below (cases_lt k q);
}
  where
    alike : (k : ℕ) → k < q + 1 → (k < q) ⊎ (q ≤ k) → shown_by (contact_at made (s + k)) ≡ asked_at ts ps k
    alike k below (inl under) = h.alike k under
    alike k below (inr over) = let is : q ≡ k = omega arith in
        subst (λ (j : ℕ). shown_by (contact_at made (s + j)) ≡ asked_at ts ps j) is fits

    on : (k : ℕ) → k < q + 1 → (k < q) ⊎ (q ≤ k) → connection_by (contact_at made (s + k)) ≡ connection_by (contact_at made s)
    on k below (inl under) = h.on k under
    on k below (inr over) = let is : q ≡ k = omega arith in
        subst (λ (j : ℕ). connection_by (contact_at made (s + j)) ≡ connection_by (contact_at made s)) is same

-- moved by the least shift of the served touches, the rest of them is served
pub begins_moved : (ts : List Touch) (ps : List Point) (made : List MadeContact) (s q d : ℕ) → Begins ts ps made s q
    → IsLeastShift (asked_at ts ps) q d → s + q < length made → Begins ts ps made (s + d) (q - d)
begins_moved ts ps made s q d h l lt = record {
  within = omega (arith, shift_most (asked_at ts ps) q d l);
  alike = λ k below.
      let far : shown_by (contact_at made (s + (d + k))) ≡ asked_at ts ps (d + k) = h.alike (d + k) (omega arith) in
      let near : asked_at ts ps (d + k) ≡ asked_at ts ps k = l.meets.each k (omega arith) in
      let one : s + d + k ≡ s + (d + k) = omega arith in
      ap (λ (j : ℕ). shown_by (contact_at made j)) one ∙ far ∙ near;
  on = λ k below.
      let far : connection_by (contact_at made (s + (d + k))) ≡ connection_by (contact_at made s) = h.on (d + k) (omega arith) in
      let near : connection_by (contact_at made (s + d)) ≡ connection_by (contact_at made s) = h.on d (omega arith) in
      let one : s + d + k ≡ s + (d + k) = omega arith in
      ap (λ (j : ℕ). connection_by (contact_at made j)) one ∙ far ∙ sym near;
}

-- and no start before serves all, if the next contact does not fit
pub moved_none : (ts : List Touch) (ps : List Point) (made : List MadeContact) (s q d : ℕ) → Begins ts ps made s q
    → IsLeastShift (asked_at ts ps) q d → q < length ps → (shown_by (contact_at made (s + q)) ≡ asked_at ts ps q → ⊥)
    → HasNoneBetween ts ps made s (s + d)
moved_none ts ps made s q d h l part unfit = record { none = λ start from lt run. at start from lt run (cases_lt s start) }
  where
    at : (start : ℕ) → s ≤ start → start < s + d → Begins ts ps made start (length ps) → (s < start) ⊎ (start ≤ s) → ⊥
    at start from lt run (inr same) = let is : start ≡ s = omega arith in
        unfit (subst (λ (j : ℕ). shown_by (contact_at made (j + q)) ≡ asked_at ts ps q) is (run.alike q part))
    at start from lt run (inl above) = l.least (start - s) (omega arith) (omega arith) (record {
      each = λ k below.
          let far : shown_by (contact_at made (s + (start - s + k))) ≡ asked_at ts ps (start - s + k) =
          h.alike (start - s + k) below in
          let near : shown_by (contact_at made (start + k)) ≡ asked_at ts ps k = run.alike k (omega arith) in
          let one : s + (start - s + k) ≡ start + k = omega arith in
          sym far ∙ ap (λ (j : ℕ). shown_by (contact_at made j)) one ∙ near;
    })

-- no start among contacts of one connection serves all beyond the last of them
pub crossed_none : (ts : List Touch) (ps : List Point) (made : List MadeContact) (s q : ℕ) → Begins ts ps made s q → q < length ps
    → (connection_by (contact_at made (s + q)) ≡ connection_by (contact_at made s) → ⊥) → HasNoneBetween ts ps made s (s + q)
crossed_none ts ps made s q h part other = record {
  none = λ start from lt run.
      let near : connection_by (contact_at made (s + (start - s))) ≡ connection_by (contact_at made s) = h.on (start - s) (omega arith) in
      let far : connection_by (contact_at made (start + (s + q - start))) ≡ connection_by (contact_at made start) =
      run.on (s + q - start) (omega arith) in
      let one : s + (start - s) ≡ start = omega arith in
      let two : s + q ≡ start + (s + q - start) = omega arith in
      other (ap (λ (j : ℕ). connection_by (contact_at made j)) two ∙ far ∙ ap (λ (j : ℕ). connection_by (contact_at made j)) (sym one)
      ∙ near);
}

-- starts that serve all, up to one number and up to another
pub none_join : (ts : List Touch) (ps : List Point) (made : List MadeContact) (from over to : ℕ) → HasNoneBetween ts ps made from over
    → HasNoneBetween ts ps made over to → HasNoneBetween ts ps made from to
none_join ts ps made from over to h g = record { none = λ start le lt run. at start le lt run (cases_lt start over) }
  where
    at : (start : ℕ) → from ≤ start → start < to → Begins ts ps made start (length ps) → (start < over) ⊎ (over ≤ start) → ⊥
    at start le lt run (inl under) = h.none start le under run
    at start le lt run (inr above) = g.none start above lt run

pub none_here : (ts : List Touch) (ps : List Point) (made : List MadeContact) (s : ℕ) → HasNoneBetween ts ps made s s
none_here ts ps made s = record { none = λ start le lt run. absurd (omega arith) }

-- too few contacts are left
pub none_left : (ts : List Touch) (ps : List Point) (made : List MadeContact) (from s to : ℕ) → HasNoneBetween ts ps made from s
    → length made < s + length ps → HasNoneBetween ts ps made from to
none_left ts ps made from s to h few = none_join ts ps made from s to h
    (record { none = λ start le lt run. let held : start + length ps ≤ length made = run.within in absurd (omega arith) })
