-- A change that is known for a line holds by the rules.
use Rattle.witness_laws.proofs.Names.{◌||◌, ◌∙◌, ◌≡◌, all_for, ap, at_once_below, Bool, by_progress, done, done_before, false, fault_since}
use Rattle.witness_laws.proofs.Names.{if◌then◌else◌, is_doubtful, Known, known_for, List, marks, may_hold_for, None, nothing, Option, place, Progress}
use Rattle.witness_laws.proofs.Names.{progress_of, refl, Sent, Some, standing, standing_of, sym, true, unless_crossed, unless_fault}
use Rattle.witness.specs.Asking.{Line}

-- the change on the line of `s` holds for the line of `u`
pub record IsHeld (s u : Sent) (h : List Line) : Type 0 where
  pub order : done_before (place s) (place u) h ≡ true
  pub none : at_once_below (place s) h ≡ false
  pub calm : fault_since (place s) h ≡ false
  pub is_done : progress_of (marks (place s) h) ≡ Some Progress.Done

abbrev pub Holds : {A : Type 0} → Option (A × Sent) → Sent → List Line → A → Type 0
Holds o u h a = (s : Sent) × (o ≡ Some (a, s)) × IsHeld s u h

-- ---- one standing

fault_done : {A : Type 0} (a b : A) (s : Sent) (faulty : Bool) → done (standing b (unless_fault faulty s Progress.Done)) ≡ Some a
    → (faulty ≡ false) × (b ≡ a)
fault_done a b s true e = absurd (cc)
fault_done {A} a b s false e = (refl, ap some_of e)
  where
    some_of : Option A → A
    some_of None = b
    some_of (Some x) = x

begun_done : {A : Type 0} (a b : A) (s : Sent) (faulty : Bool) → done (standing b (unless_fault faulty s Progress.Begun)) ≡ Some a → ⊥
begun_done a b s true e = absurd (cc)
begun_done a b s false e = absurd (cc)

progress_done : {A : Type 0} (a b : A) (s : Sent) (faulty : Bool) (p : Option Progress) → done (standing b (by_progress s faulty p)) ≡ Some a
    → (faulty ≡ false) × (b ≡ a) × (p ≡ Some Progress.Done)
progress_done a b s faulty None e = absurd (cc)
progress_done a b s faulty (Some Progress.Sent) e = absurd (cc)
progress_done a b s faulty (Some Progress.Begun) e = absurd (begun_done a b s faulty e)
progress_done a b s faulty (Some Progress.Done) e = let both : (faulty ≡ false) × (b ≡ a) = fault_done a b s faulty e in (both.0, both.1, refl)

standing_done : {A : Type 0} (a b : A) (s : Sent) (h : List Line) → done (standing b (standing_of s h)) ≡ Some a
    → (at_once_below (place s) h ≡ false) × (fault_since (place s) h ≡ false) × (b ≡ a) × (progress_of (marks (place s) h) ≡ Some Progress.Done)
standing_done a b s h e = go (at_once_below (place s) h) (is_doubtful s h) refl e
  where
    go : (x y : Bool) → at_once_below (place s) h ≡ x
        → done (standing b (if x || y then None else by_progress s (fault_since (place s) h) (progress_of (marks (place s) h)))) ≡ Some a
        → (at_once_below (place s) h ≡ false) × (fault_since (place s) h ≡ false) × (b ≡ a) × (progress_of (marks (place s) h) ≡ Some Progress.Done)
    go true y is f = absurd (cc)
    go false true is f = absurd (cc)
    go false false is f =
        let all : (fault_since (place s) h ≡ false) × (b ≡ a) × (progress_of (marks (place s) h) ≡ Some Progress.Done) =
        progress_done a b s (fault_since (place s) h) (progress_of (marks (place s) h)) f in
        (is, all.0, all.1, all.2)

-- ---- for a line

pub held_for : {A : Type 0} (a : A) (u : Sent) (o : Option (A × Sent)) (h : List Line) → done (may_hold_for u o h) ≡ Some a → Holds o u h a
held_for a u None h e = absurd (cc)
held_for {A} a u (Some (b, s)) h e = go (done_before (place s) (place u) h) refl e
  where
    go : (x : Bool) → done_before (place s) (place u) h ≡ x → done (if x then standing b (standing_of s h) else None) ≡ Some a
        → Holds (Some (b, s)) u h a
    go false is f = absurd (cc)
    go true is f =
        let all : (at_once_below (place s) h ≡ false) × (fault_since (place s) h ≡ false) × (b ≡ a)
        × (progress_of (marks (place s) h) ≡ Some Progress.Done) = standing_done a b s h f in
        (s, ap (λ (x : A). Some (x, s)) all.2, record { order = is; none = all.0; calm = all.1; is_done = all.3 })

-- what is known is known of all lines, if it is at all
pub known_all : {A : Type 0} (look : Known → Option A) (a : A) (crossed : Bool) (u : Sent) (h : List Line) → look nothing ≡ None
    → look (unless_crossed crossed (known_for u h)) ≡ Some a → look (all_for u h) ≡ Some a
known_all {A} look a true u h none e = let it : None ≡ Some a = sym none ∙ e in absurd (cc)
known_all {A} look a false u h none e = go (is_doubtful u h) e
  where
    go : (b : Bool) → look (if b then nothing else all_for u h) ≡ Some a → look (all_for u h) ≡ Some a
    go true f = let it : None ≡ Some a = sym none ∙ f in absurd (cc)
    go false f = f

-- nothing is, once a tag was used while in use
pub known_uncrossed : {A : Type 0} (look : Known → Option A) (a : A) (crossed : Bool) (k : Known) → look nothing ≡ None
    → look (unless_crossed crossed k) ≡ Some a → crossed ≡ false
known_uncrossed look a true k none e = let it : None ≡ Some a = sym none ∙ e in absurd (cc)
known_uncrossed look a false k none e = refl
