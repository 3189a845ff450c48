-- What the machine does for lines in their order: what it did for a line, and has not been shown by a mark out of turn.
use Rattle.witness_laws.proofs.Names.{◌&&◌, ◌<◌, ◌==◌, ◌||◌, ◌∙◌, ◌∷◌, ◌≡◌, [], and_from, Answers, ap, Bool, eqb-true, false, false≢true}
use Rattle.witness_laws.proofs.Names.{if◌then◌else◌, List, lt-ltb, nat_lt, None, not, not-true, Option, or_from, or_right, refl, Sends, Some, subst}
use Rattle.witness_laws.proofs.Names.{sym, true, ℕ}
use Rattle.witness_laws.specs.Machines.{Effect, TakesTool, SelectsFrame, StoresZero, Touches, Cause, InTurn, AtOnce, ForNoLine, Entry, Message, Does, lines, last}
use Rattle.witness_laws.specs.Machines.{or_before, before_last, is_for_line}
use Rattle.witness_laws.specs.Premises.{keep_order, out_of_turn, with_shown, is_listed, comes_in_order, none_below}
use Rattle.witness_laws.proofs.machines.Places.{same_place}

-- it is this line
abbrev pub is_it : ℕ → Option ℕ → Bool
is_it v None = false
is_it v (Some n) = v == n

-- something that must keep its order to this effect was done for a line, and no mark of that line came out of turn since
abbrev pub unshown : Effect → ℕ → List Entry → Bool
unshown effect v [] = false
unshown effect v (Message (Sends line what) ∷ h) = unshown effect v h
unshown effect v (Message (Answers line what) ∷ h) = not (is_it v (out_of_turn what (lines h))) && unshown effect v h
unshown effect v (Does cause other ∷ h) = (is_for_line v cause && keep_order effect other) || unshown effect v h

both_left : (a b : Bool) → (a && b) ≡ true → a ≡ true
both_left true b e = refl
both_left false b e = e

both_right : (a b : Bool) → (a && b) ≡ true → b ≡ true
both_right true b e = e
both_right false b e = absurd (false≢true e)

-- what keeps order to a contact does so to anything
pub keeps_more : (effect other : Effect) → keep_order Touches other ≡ true → keep_order effect other ≡ true
keeps_more (TakesTool tool) other e = refl
keeps_more (SelectsFrame frame) other e = refl
keeps_more (StoresZero point) other e = refl
keeps_more Touches other e = e

pub unshown_for : (effect effect' : Effect) (v : ℕ) (h : List Entry)
    → ((other : Effect) → keep_order effect other ≡ true → keep_order effect' other ≡ true)
    → unshown effect v h ≡ true → unshown effect' v h ≡ true
unshown_for effect effect' v [] f e = absurd (false≢true e)
unshown_for effect effect' v (Message (Sends line what) ∷ h) f e = unshown_for effect effect' v h f e
unshown_for effect effect' v (Message (Answers line what) ∷ h) f e =
    and_from (not (is_it v (out_of_turn what (lines h)))) (unshown effect' v h)
    (both_left (not (is_it v (out_of_turn what (lines h)))) (unshown effect v h) e)
    (unshown_for effect effect' v h f (both_right (not (is_it v (out_of_turn what (lines h)))) (unshown effect v h) e))
unshown_for effect effect' v (Does cause other ∷ h) f e =
    go (is_for_line v cause) (keep_order effect other) refl e (unshown_for effect effect' v h f)
  where
    go : (a b : Bool) → keep_order effect other ≡ b → ((a && b) || unshown effect v h) ≡ true
        → (unshown effect v h ≡ true → unshown effect' v h ≡ true)
        → ((a && keep_order effect' other) || unshown effect' v h) ≡ true
    go true true is k rest = ap (λ (b : Bool). b || unshown effect' v h) (f other is)
    go true false is k rest = or_right (keep_order effect' other) (unshown effect' v h) (rest k)
    go false b is k rest = rest k

-- ---- nothing above it may come after it

listed_more : (v : ℕ) (o : Option ℕ) (shown : List ℕ) → is_it v o ≡ false → is_listed v shown ≡ false → is_listed v (with_shown o shown) ≡ false
listed_more v None shown e l = l
listed_more v (Some n) shown e l = or_from (v == n) (is_listed v shown) e l

not_both : (b : Bool) → b ≡ false → b ≡ true → ⊥
not_both b e f = false≢true (sym e ∙ f)

crossing_at : (n v : ℕ) (effect : Effect) (shown : List ℕ) (h : List Entry) → comes_in_order n effect shown h ≡ true → is_listed v shown ≡ false
    → n < v → unshown effect v h ≡ true → ⊥
crossing_at n v effect shown [] c l lt u = false≢true u
crossing_at n v effect shown (Message (Sends line what) ∷ h) c l lt u = crossing_at n v effect shown h c l lt u
crossing_at n v effect shown (Message (Answers line what) ∷ h) c l lt u =
    let hidden : is_it v (out_of_turn what (lines h)) ≡ false =
    not-true (is_it v (out_of_turn what (lines h))) (both_left (not (is_it v (out_of_turn what (lines h)))) (unshown effect v h) u) in
    crossing_at n v effect (with_shown (out_of_turn what (lines h)) shown) h c
    (listed_more v (out_of_turn what (lines h)) shown hidden l) lt
    (both_right (not (is_it v (out_of_turn what (lines h)))) (unshown effect v h) u)
crossing_at n v effect shown (Does (AtOnce m) other ∷ h) c l lt u = crossing_at n v effect shown h c l lt u
crossing_at n v effect shown (Does ForNoLine other ∷ h) c l lt u = crossing_at n v effect shown h c l lt u
crossing_at n v effect shown (Does (InTurn m) other ∷ h) c l lt u =
    go (v == m) (keep_order effect other) refl refl u
    (crossing_at n v effect shown h (both_right (not (nat_lt n m && keep_order effect other) || is_listed m shown) (comes_in_order n effect shown h) c) l lt)
  where
    at_v : keep_order effect other ≡ true → (not (nat_lt n v && keep_order effect other) || is_listed v shown) ≡ true → ⊥
    at_v o f = false≢true (sym (or_from (not (nat_lt n v && keep_order effect other)) (is_listed v shown)
        (ap not (ap (λ (b : Bool). b && keep_order effect other) (lt-ltb n v lt) ∙ o)) l) ∙ f)

    go : (a b : Bool) → (v == m) ≡ a → keep_order effect other ≡ b → ((a && b) || unshown effect v h) ≡ true
        → (unshown effect v h ≡ true → ⊥) → ⊥
    go true true is o k rest =
        at_v o (subst (λ (x : ℕ). (not (nat_lt n x && keep_order effect other) || is_listed x shown) ≡ true) (sym (eqb-true v m is))
        (both_left (not (nat_lt n m && keep_order effect other) || is_listed m shown) (comes_in_order n effect shown h) c))
    go true false is o k rest = rest k
    go false b is o k rest = rest k

pub crossing : (n v : ℕ) (effect : Effect) (h : List Entry) → comes_in_order n effect [] h ≡ true → n < v → unshown effect v h ≡ true → ⊥
crossing n v effect h c lt u = crossing_at n v effect [] h c refl lt u

-- ---- what is carried out at once comes before

pub none_crossed : (n v : ℕ) (effect : Effect) (h : List Entry) → none_below n h ≡ true → n < v → unshown effect v h ≡ true → ⊥
none_crossed n v effect [] c lt u = false≢true u
none_crossed n v effect (Message (Sends line what) ∷ h) c lt u = none_crossed n v effect h c lt u
none_crossed n v effect (Message (Answers line what) ∷ h) c lt u =
    none_crossed n v effect h c lt (both_right (not (is_it v (out_of_turn what (lines h)))) (unshown effect v h) u)
none_crossed n v effect (Does (AtOnce m) other ∷ h) c lt u = none_crossed n v effect h c lt u
none_crossed n v effect (Does ForNoLine other ∷ h) c lt u = none_crossed n v effect h c lt u
none_crossed n v effect (Does (InTurn m) other ∷ h) c lt u =
    go (v == m) refl u (none_crossed n v effect h (both_right (not (nat_lt n m)) (none_below n h) c) lt)
  where
    here : v ≡ m → not (nat_lt n m) ≡ true → ⊥
    here e k = false≢true (sym (ap not (lt-ltb n v lt)) ∙ subst (λ (x : ℕ). not (nat_lt n x) ≡ true) (sym e) k)

    go : (a : Bool) → (v == m) ≡ a → ((a && keep_order effect other) || unshown effect v h) ≡ true → (unshown effect v h ≡ true → ⊥) → ⊥
    go true is k rest = here (eqb-true v m is) (both_left (not (nat_lt n m)) (none_below n h) c)
    go false is k rest = rest k

-- ---- a line that did something, none of whose marks came out of turn

abbrev pub NoneShown : ℕ → List Entry → Type 0
NoneShown v [] = Unit {0}
NoneShown v (Message (Sends line what) ∷ h) = NoneShown v h
NoneShown v (Message (Answers line what) ∷ h) = (is_it v (out_of_turn what (lines h)) ≡ false) × NoneShown v h
NoneShown v (Does cause other ∷ h) = NoneShown v h

abbrev pub cause_of : {A : Type 0} → Option (Cause × A) → Cause
cause_of None = ForNoLine
cause_of (Some (cause, a)) = cause

abbrev pub value_of : {A : Type 0} → A → Option (Cause × A) → A
value_of a None = a
value_of a (Some (cause, b)) = b

-- it did this
pub did_last : {A : Type 0} (sort : Effect → Option A) (i : ℕ) (a : A) (h : List Entry) → NoneShown i h → last sort h ≡ Some (InTurn i, a)
    → unshown (TakesTool None) i h ≡ true
did_last sort i a [] none e = absurd (cc)
did_last sort i a (Message (Sends line what) ∷ h) none e = did_last sort i a h none e
did_last sort i a (Message (Answers line what) ∷ h) none e =
    and_from (not (is_it i (out_of_turn what (lines h)))) (unshown (TakesTool None) i h) (ap not none.0) (did_last sort i a h none.1 e)
did_last {A} sort i a (Does cause other ∷ h) none e = go (sort other) e (did_last sort i a h none)
  where
    go : (o : Option A) → or_before cause o (last sort h) ≡ Some (InTurn i, a)
        → (last sort h ≡ Some (InTurn i, a) → unshown (TakesTool None) i h ≡ true)
        → ((is_for_line i cause && true) || unshown (TakesTool None) i h) ≡ true
    go None f rest = or_right (is_for_line i cause && true) (unshown (TakesTool None) i h) (rest f)
    go (Some b) f rest =
        let it : cause ≡ InTurn i = ap (cause_of {A = A}) f in
        ap (λ (c : Cause). (is_for_line i c && true) || unshown (TakesTool None) i h) it
        ∙ ap (λ (b : Bool). (b && true) || unshown (TakesTool None) i h) (same_place i)

-- it made this contact, or this selection
pub did_there : (is_that : Cause → Effect → Bool) (j : ℕ) (h h' : List Entry)
    → ((cause : Cause) (other : Effect) → is_that cause other ≡ true → cause ≡ InTurn j)
    → NoneShown j h → before_last is_that h ≡ Some h' → unshown (TakesTool None) j h ≡ true
did_there is_that j [] h' its none e = absurd (cc)
did_there is_that j (Message (Sends line what) ∷ h) h' its none e = did_there is_that j h h' its none e
did_there is_that j (Message (Answers line what) ∷ h) h' its none e =
    and_from (not (is_it j (out_of_turn what (lines h)))) (unshown (TakesTool None) j h) (ap not none.0)
    (did_there is_that j h h' its none.1 e)
did_there is_that j (Does cause other ∷ h) h' its none e = go (is_that cause other) refl e (did_there is_that j h h' its none)
  where
    go : (b : Bool) → is_that cause other ≡ b → (if b then Some h else before_last is_that h) ≡ Some h'
        → (before_last is_that h ≡ Some h' → unshown (TakesTool None) j h ≡ true)
        → ((is_for_line j cause && true) || unshown (TakesTool None) j h) ≡ true
    go true is f rest =
        ap (λ (c : Cause). (is_for_line j c && true) || unshown (TakesTool None) j h) (its cause other is)
        ∙ ap (λ (b : Bool). (b && true) || unshown (TakesTool None) j h) (same_place j)
    go false is f rest = or_right (is_for_line j cause && true) (unshown (TakesTool None) j h) (rest f)
