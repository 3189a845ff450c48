-- The contacts of acts, one act after another.
use Rattle.record_text.proofs.Names.{[], ◌-◌, ◌∙◌, ◌∷◌, ◌≡◌, ◌≤◌, Act, ap, arith, contacts, drop, drop_all, false, is_contact, length, List}
use Rattle.record_text.proofs.Names.{MadeContact, refl, suc, sym, true, zero, ℕ}

pub contacts_other : (n : ℕ) (a : Act) (acts : List (ℕ × Act)) → is_contact a ≡ false → contacts ((n, a) ∷ acts) ≡ contacts acts
contacts_other n (Act.HomedIs homed) acts e = refl
contacts_other n Act.Homed acts e = refl
contacts_other n (Act.Moved target frame) acts e = refl
contacts_other n (Act.Changed tool) acts e = refl
contacts_other n (Act.Framed frame) acts e = refl
contacts_other n (Act.Contact target dir tool frame point) acts e = absurd cc

pub drop_other : (left n : ℕ) (a : Act) (acts : List (ℕ × Act)) → is_contact a ≡ false
    → drop left (contacts ((n, a) ∷ acts)) ≡ drop left (contacts acts)
drop_other left n a acts e = ap (λ (ms : List MadeContact). drop left ms) (contacts_other n a acts e)

drop_suc : (k n : ℕ) (a : Act) (acts : List (ℕ × Act)) → is_contact a ≡ true
    → drop (suc k) (contacts ((n, a) ∷ acts)) ≡ drop k (contacts acts)
drop_suc k n (Act.HomedIs homed) acts e = absurd cc
drop_suc k n Act.Homed acts e = absurd cc
drop_suc k n (Act.Moved target frame) acts e = absurd cc
drop_suc k n (Act.Changed tool) acts e = absurd cc
drop_suc k n (Act.Framed frame) acts e = absurd cc
drop_suc k n (Act.Contact target dir tool frame point) acts e = refl

less_one : (left k : ℕ) → left ≡ suc k → left - 1 ≡ k
less_one left k e = omega (arith, e)

pub drop_one : (left n : ℕ) (a : Act) (acts : List (ℕ × Act)) → 1 ≤ left → is_contact a ≡ true
    → drop left (contacts ((n, a) ∷ acts)) ≡ drop (left - 1) (contacts acts)
drop_one zero n a acts h e = absurd (omega arith)
drop_one (suc k) n a acts h e = drop_suc k n a acts e
    ∙ ap (λ (j : ℕ). drop j (contacts acts)) (sym (less_one (suc k) k refl))

drop_none : (k : ℕ) → ◌≡◌ {A = List MadeContact} (drop k []) []
drop_none zero = refl
drop_none (suc k) = refl

-- after the last act
pub contacts_end : (at left : ℕ) (acts : List (ℕ × Act)) (whole : List MadeContact) → length acts ≤ at
    → drop left (contacts (drop at acts)) ≡ whole → contacts (drop (length acts) acts) ≡ whole
contacts_end at left acts whole h e =
    let ended : drop at acts ≡ [] = drop_all at acts h in
    let all : drop (length acts) acts ≡ [] = drop_all (length acts) acts (omega arith) in
    ap (λ (xs : List (ℕ × Act)). contacts xs) all ∙ sym (drop_none left)
    ∙ ap (λ (xs : List (ℕ × Act)). drop left (contacts xs)) (sym ended) ∙ e
