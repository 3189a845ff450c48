-- The contacts that serve touches, one act after another.
use Rattle.record_text.proofs.Names.{[], ◌++◌, ◌<◌, ◌∷◌, ◌≡◌, Act, append-nil, append_assoc, arith, contacts, false, is_contact, IsServedBy, length}
use Rattle.record_text.proofs.Names.{List, MadeContact, Point, Serves, subst, sym, Touch, true, ℕ}
use Rattle.record_text.proofs.ContactRuns.{contacts_other}

-- the touches and acts that are left, after these points were found: they serve what is left exactly if all serve all
pub record IsLeft (n : ℕ) (touches : List Touch) (acts : List (ℕ × Act)) (points : List Point) (ts : List Touch) (later : List (ℕ × Act)) : Type 0
  where
    pub ahead : (ps : List Point) → Serves n touches ps (contacts acts) → (rest : List Point) × Serves n ts rest (contacts later)
    pub back : (rest : List Point) → Serves n ts rest (contacts later) → Serves n touches (points ++ rest) (contacts acts)

pub left_all : (n : ℕ) (touches : List Touch) (acts : List (ℕ × Act)) → IsLeft n touches acts [] touches acts
left_all n touches acts = record { ahead = λ ps h. (ps, h); back = λ rest h. h }

-- an act that is no contact
pub left_other : (n m : ℕ) (touches ts : List Touch) (acts later : List (ℕ × Act)) (points : List Point) (a : Act)
    → IsLeft n touches acts points ts ((m, a) ∷ later) → is_contact a ≡ false → IsLeft n touches acts points ts later
left_other n m touches ts acts later points a h e =
    let same = contacts_other m a later e in
    record {
      ahead = λ ps g. let r = h.ahead ps g in (r.0, subst (λ (ms : List MadeContact). Serves n ts r.0 ms) same r.1);
      back = λ rest g. h.back rest (subst (λ (ms : List MadeContact). Serves n ts rest ms) (sym same) g);
    }

serves_tail : (n : ℕ) (t : Touch) (ts : List Touch) (ps : List Point) (m : MadeContact) (ms : List MadeContact)
    → Serves n (t ∷ ts) ps (m ∷ ms) → (rest : List Point) × Serves n ts rest ms
serves_tail n t ts [] m ms h = absurd h
serves_tail n t ts (p ∷ ps) m ms h = (ps, h.1)

-- a contact that serves the next touch
pub left_more : (n m : ℕ) (touches ts : List Touch) (t : Touch) (acts later : List (ℕ × Act)) (points : List Point) (p : Point) (a : Act)
    → IsLeft n touches acts points (t ∷ ts) ((m, a) ∷ later) → IsServedBy n t p m a → IsLeft n touches acts (points ++ p ∷ []) ts later
left_more n m touches ts t acts later points p (Act.HomedIs homed) h g = absurd g
left_more n m touches ts t acts later points p Act.Homed h g = absurd g
left_more n m touches ts t acts later points p (Act.Moved target frame) h g = absurd g
left_more n m touches ts t acts later points p (Act.Changed tool) h g = absurd g
left_more n m touches ts t acts later points p (Act.Framed frame) h g = absurd g
left_more n m touches ts t acts later points p (Act.Contact target dir tool frame point) h g = record {
  ahead = λ ps k. let r = h.ahead ps k in serves_tail n t ts r.0 _ (contacts later) r.1;
  back = λ rest k. subst (λ (xs : List Point). Serves n touches xs (contacts acts)) (sym (append_assoc points (p ∷ []) rest))
      (h.back (p ∷ rest) (g, k));
}

-- a contact that serves none
none_serves : (n m : ℕ) (ts : List Touch) (rest : List Point) (a : Act) (later : List (ℕ × Act)) → is_contact a ≡ true → ts ≡ []
    → Serves n ts rest (contacts ((m, a) ∷ later)) → ⊥
none_serves n m (t ∷ ts) rest a later c e h = absurd cc
none_serves n m [] rest (Act.HomedIs homed) later c e h = absurd cc
none_serves n m [] rest Act.Homed later c e h = absurd cc
none_serves n m [] rest (Act.Moved target frame) later c e h = absurd cc
none_serves n m [] rest (Act.Changed tool) later c e h = absurd cc
none_serves n m [] rest (Act.Framed frame) later c e h = absurd cc
none_serves n m [] [] (Act.Contact target dir tool frame point) later c e h = h
none_serves n m [] (p ∷ ps) (Act.Contact target dir tool frame point) later c e h = h

pub no_touch_left : (n m : ℕ) (touches ts : List Touch) (acts later : List (ℕ × Act)) (points ps : List Point) (a : Act)
    → IsLeft n touches acts points ts ((m, a) ∷ later) → ts ≡ [] → is_contact a ≡ true → Serves n touches ps (contacts acts) → ⊥
no_touch_left n m touches ts acts later points ps a h e c g =
    let r = h.ahead ps g in
    none_serves n m ts r.0 a later c e r.1

other_serves : (n m : ℕ) (t : Touch) (ts : List Touch) (rest : List Point) (a : Act) (later : List (ℕ × Act)) → is_contact a ≡ true
    → ((p : Point) → IsServedBy n t p m a → ⊥) → Serves n (t ∷ ts) rest (contacts ((m, a) ∷ later)) → ⊥
other_serves n m t ts rest (Act.HomedIs homed) later c none h = absurd cc
other_serves n m t ts rest Act.Homed later c none h = absurd cc
other_serves n m t ts rest (Act.Moved target frame) later c none h = absurd cc
other_serves n m t ts rest (Act.Changed tool) later c none h = absurd cc
other_serves n m t ts rest (Act.Framed frame) later c none h = absurd cc
other_serves n m t ts [] (Act.Contact target dir tool frame point) later c none h = h
other_serves n m t ts (p ∷ ps) (Act.Contact target dir tool frame point) later c none h = none p h.0

pub other_contact : (n m : ℕ) (touches ts : List Touch) (t : Touch) (acts later : List (ℕ × Act)) (points ps : List Point) (a : Act)
    → IsLeft n touches acts points (t ∷ ts) ((m, a) ∷ later) → is_contact a ≡ true → ((p : Point) → IsServedBy n t p m a → ⊥)
    → Serves n touches ps (contacts acts) → ⊥
other_contact n m touches ts t acts later points ps a h c none g =
    let r = h.ahead ps g in
    other_serves n m t ts r.0 a later c none r.1

-- after the last act
too_few : (n : ℕ) (ts : List Touch) (rest : List Point) → 0 < length ts → Serves n ts rest [] → ⊥
too_few n [] rest l h = absurd (omega arith)
too_few n (t ∷ ts) [] l h = h
too_few n (t ∷ ts) (p ∷ ps) l h = h

pub ends_short : (n : ℕ) (touches ts : List Touch) (acts later : List (ℕ × Act)) (points ps : List Point)
    → IsLeft n touches acts points ts later → later ≡ [] → 0 < length ts → Serves n touches ps (contacts acts) → ⊥
ends_short n touches ts acts later points ps h e l g =
    let r = h.ahead ps g in
    too_few n ts r.0 l (subst (λ (xs : List (ℕ × Act)). Serves n ts r.0 (contacts xs)) e r.1)

pub ends_whole : (n : ℕ) (touches ts : List Touch) (acts later : List (ℕ × Act)) (points : List Point)
    → IsLeft n touches acts points ts later → later ≡ [] → ts ≡ [] → Serves n touches points (contacts acts)
ends_whole n touches ts acts later points h e f =
    let none : Serves n [] [] (contacts []) = tt in
    let all : Serves n ts [] (contacts later) = rw (f, e) none in
    subst (λ (xs : List Point). Serves n touches xs (contacts acts)) (append-nil points) (h.back [] all)
