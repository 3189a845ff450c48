-- A change that holds by the rules: what the machine has since then, if its server keeps the premises.
use Rattle.witness_laws.proofs.Names.{◌&&◌, ◌<◌, ◌==◌, ◌∙◌, ◌∷◌, ◌≡◌, ◌≤◌, ◌⊎◌, [], and_from, and_parts, Answers, ap, at_once_below, Bool, cases_lt}
use Rattle.witness_laws.proofs.Names.{cases_order, count_sent, Done, false, false≢true, fault_since, Frame, Heard, if◌then◌else◌, inl, inr}
use Rattle.witness_laws.proofs.Names.{is_at_once, is_fault, is_some, List, mark_in, marks, nat_lt, None, not, Option, or_left, or_parts, or_right}
use Rattle.witness_laws.proofs.Names.{progress_of, progress_with, refl, Sends, SentCommand, Signal, Some, subst, sym, Tag, true, ℕ}
use Rattle.witness_laws.specs.Machines.{Effect, TakesTool, SelectsFrame, StoresZero, Touches, InTurn, AtOnce, ForNoLine, Entry, Message, Does, lines, IsPast, whole}
use Rattle.witness_laws.specs.Machines.{past, sent_at, last, or_before, is_for_line, frame_now}
use Rattle.witness_laws.specs.Premises.{ActsWithin, Keeps, may_in_turn, may_at_once, line_may, has_ended, keep_order, is_unreported, out_of_turn}
use Rattle.witness_laws.proofs.machines.Places.{sent_stays, below_at_once, same_place}
use Rattle.witness_laws.proofs.machines.Orders.{is_it, unshown, unshown_for, crossing, none_crossed, did_last}
use Rattle.witness_laws.proofs.machines.Marking.{IsEarly, early_none, IsDoneBy, ends, stays, done_step, calm_none, has_end}

pub rest_kept : (entry : Entry) (h : List Entry) → Keeps (entry ∷ h) → Keeps h
rest_kept entry h k = record {
  within = (Keeps.within k).1;
  in_order = (Keeps.in_order k).1;
  before = (Keeps.before k).1;
  made = (Keeps.made k).1;
  reported = (Keeps.reported k).1;
  touched = (Keeps.touched k).1;
}

-- ---- what came so far

pub kept_past : (all h : List Entry) → IsPast all h → Keeps all → Keeps h
kept_past all _ whole k = k
kept_past all _ (past entry h p) k = rest_kept entry h (kept_past all (entry ∷ h) p k)

-- the lines so far are among all lines
pub agrees : (all h : List Entry) → IsPast all h → (n : ℕ) (w : Option (Tag × SentCommand)) → sent_at n (lines h) ≡ Some w → sent_at n (lines all) ≡ Some w
agrees all _ whole n w e = e
agrees all _ (past (Message line) h p) n w e = agrees all (Message line ∷ h) p n w (sent_stays n w line (lines h) e)
agrees all _ (past (Does cause effect) h p) n w e = agrees all (Does cause effect ∷ h) p n w e

-- ---- what is asked of a change on the line at place `i`, for something that the line at place `j` does

-- `L`: it may be lost for no line's sake
pub record Fits {A : Type 0} (L : Type 0) (sort : Effect → Option A) (i j : ℕ) (a : A) (all : List Entry) : Type 0 where
  pub above : i < j
  pub no_touch : sort Touches ≡ None
  pub made : (line : List ℕ) (what : Option (Tag × Signal)) (e : Heard) (h : List Entry) → Keeps (Message (Answers line what) ∷ h)
      → IsPast all (Message (Answers line what) ∷ h) → mark_in what (lines h) ≡ Some (i, e) → progress_with (progress_of (marks i (lines h))) e ≡ Some Done
      → is_fault what (lines h) ≡ false → last sort h ≡ Some (InTurn i, a)
  pub in_turn : (h : List Entry) → IsPast all h → may_at_once (sent_at i (lines h)) ≡ true → ⊥
  pub quiet : (n : ℕ) (effect : Effect) (h : List Entry) → IsPast all h → ActsWithin (Does (InTurn n) effect) h → i < n → n ≤ j
      → L ⊎ (last sort h ≡ Some (InTurn i, a)) → is_some (sort effect) ≡ true → ⊥
  pub loses : L → (tool : Option (List ℕ)) → is_some (sort (TakesTool tool)) ≡ true
  pub loss : (effect : Effect) (h : List Entry) → ActsWithin (Does ForNoLine effect) h → is_some (sort effect) ≡ true → L

-- now: it holds; or something was done for a line below `j`, and not shown; or it was lost, and that is not reported
pub data Now {A : Type 0} (L : Type 0) (sort : Effect → Option A) (i j : ℕ) (a : A) (h : List Entry) : Type 0 where
  holds : last sort h ≡ Some (InTurn i, a) → Now L sort i j a h
  crossed : (v : ℕ) → j < v → unshown Touches v h ≡ true → Now L sort i j a h
  lost : L → is_unreported h ≡ true → Now L sort i j a h

-- ---- one entry more

now_sent : {A : Type 0} (L : Type 0) (sort : Effect → Option A) (i j : ℕ) (a : A) (line : List ℕ) (what : Option (Tag × SentCommand)) (h : List Entry)
    → Now L sort i j a h → Now L sort i j a (Message (Sends line what) ∷ h)
now_sent L sort i j a line what h (holds e) = holds e
now_sent L sort i j a line what h (crossed v lt u) = crossed v lt u
now_sent L sort i j a line what h (lost l u) = lost l u

now_answered : {A : Type 0} (L : Type 0) (sort : Effect → Option A) (i j : ℕ) (a : A) (line : List ℕ) (what : Option (Tag × Signal)) (h : List Entry)
    → is_fault what (lines h) ≡ false → Now L sort i j a h → Now L sort i j a (Message (Answers line what) ∷ h)
now_answered L sort i j a line what h clear (holds e) = holds e
now_answered L sort i j a line what h clear (crossed v lt u) =
    crossed v lt (and_from (not (is_it v (out_of_turn what (lines h)))) (unshown Touches v h)
    (ap not (calm_none v (mark_in what (lines h)) (is_fault what (lines h)) clear)) u)
now_answered L sort i j a line what h clear (lost l u) =
    lost l (and_from (not (is_fault what (lines h))) (is_unreported h) (ap not clear) u)

some_is : {A : Type 0} (o : Option A) (b : A) → o ≡ Some b → is_some o ≡ true
some_is o b e = ap is_some e

pub not_none : {A : Type 0} (o : Option A) (b : A) → o ≡ None → o ≡ Some b → ⊥
not_none o b e f = let it : None ≡ Some b = sym e ∙ f in absurd (cc)

-- for no line
now_lost : {A : Type 0} (L : Type 0) (sort : Effect → Option A) (i j : ℕ) (a : A) (all : List Entry) (effect : Effect) (h : List Entry)
    → Fits L sort i j a all → ActsWithin (Does ForNoLine effect) h → Now L sort i j a h → Now L sort i j a (Does ForNoLine effect ∷ h)
now_lost {A} L sort i j a all effect h fits acts (crossed v lt u) = crossed v lt u
now_lost {A} L sort i j a all effect h fits acts (lost l u) = lost l (ap (λ (b : Bool). if b then true else is_unreported h) acts)
now_lost {A} L sort i j a all effect h fits acts (holds e) = go (sort effect) refl
  where
    go : (o : Option A) → sort effect ≡ o → Now L sort i j a (Does ForNoLine effect ∷ h)
    go None is = holds (ap (λ (x : Option A). or_before ForNoLine x (last sort h)) is ∙ e)
    go (Some b) is = lost (Fits.loss fits effect h acts (some_is (sort effect) b is)) (ap (λ (b : Bool). if b then true else is_unreported h) acts)

-- for a line at once: none may
no_at_once : {A : Type 0} (L : Type 0) (sort : Effect → Option A) (i j : ℕ) (a : A) (all : List Entry) (n : ℕ) (effect : Effect) (h : List Entry)
    → Fits L sort i j a all → Keeps (Does (AtOnce n) effect ∷ h) → IsPast all h → at_once_below i (lines h) ≡ false
    → unshown (TakesTool None) i h ≡ true → ⊥
no_at_once L sort i j a all n effect h fits k p none u = go (sent_at n (lines h)) refl (Keeps.within k).0
  where
    by_place : (w : Option (Tag × SentCommand)) → sent_at n (lines h) ≡ Some w → is_at_once w ≡ true → ⊥
    by_place w is once = elim (cases_order n i) [
      | inl same ↦ Fits.in_turn fits h p (subst (λ (m : ℕ). may_at_once (sent_at m (lines h)) ≡ true) same (ap may_at_once is ∙ once))
      | inr (inl above) ↦ none_crossed n i (TakesTool None) h (Keeps.before k).0 above u
      | inr (inr below) ↦ false≢true (sym none ∙ below_at_once i n w (lines h) is once below)
    ]

    go : (o : Option (Option (Tag × SentCommand))) → sent_at n (lines h) ≡ o → may_at_once o ≡ true → ⊥
    go None is may = false≢true may
    go (Some w) is may = by_place w is may

-- for a line in its turn
pub ended_out : (effect : Effect) (now : Option Frame) (ended : Bool) (o : Option (Option (Tag × SentCommand))) → may_in_turn effect now ended o ≡ true
    → ended ≡ true → ⊥
ended_out effect now ended None may e = false≢true may
ended_out effect now ended (Some w) may e =
    let rest : (not (is_at_once w) && not ended) ≡ true = (and_parts (line_may effect now w) (not (is_at_once w) && not ended) may).1 in
    let still : not ended ≡ true = (and_parts (not (is_at_once w)) (not ended) rest).1 in
    false≢true (sym (ap not e) ∙ still)

-- it changes what is looked at
changes_now : {A : Type 0} (L : Type 0) (sort : Effect → Option A) (i j : ℕ) (a : A) (all : List Entry) (n : ℕ) (effect : Effect) (h : List Entry)
    → Fits L sort i j a all → Keeps (Does (InTurn n) effect ∷ h) → IsPast all h → progress_of (marks i (lines h)) ≡ Some Done
    → unshown (TakesTool None) i h ≡ true → L ⊎ (last sort h ≡ Some (InTurn i, a)) → is_some (sort effect) ≡ true
    → ((other : Effect) → keep_order effect other ≡ true) → keep_order Touches effect ≡ true
    → Now L sort i j a (Does (InTurn n) effect ∷ h)
changes_now L sort i j a all n effect h fits k p done u e some keeps kept = elim (cases_order n i) [
  | inl same ↦ absurd (ended_out effect (frame_now h) (has_ended i (lines h)) (sent_at i (lines h))
      (subst (λ (m : ℕ). may_in_turn effect (frame_now h) (has_ended m (lines h)) (sent_at m (lines h)) ≡ true) same (Keeps.within k).0)
      (has_end i h done))
  | inr (inl above) ↦ absurd (crossing n i effect h (Keeps.in_order k).0 above
      (unshown_for (TakesTool None) effect i h (λ other f. keeps other) u))
  | inr (inr below) ↦ elim (cases_lt j n) [
    | inl lower ↦ crossed n lower (or_left (is_for_line n (InTurn n) && keep_order Touches effect) (unshown Touches n h)
        (and_from (n == n) (keep_order Touches effect) (same_place n) kept))
    | inr within ↦ absurd (Fits.quiet fits n effect h p (Keeps.within k).0 below within e some)
  ]
]

now_done : {A : Type 0} (L : Type 0) (sort : Effect → Option A) (i j : ℕ) (a : A) (all : List Entry) (n : ℕ) (effect : Effect) (h : List Entry)
    → Fits L sort i j a all → Keeps (Does (InTurn n) effect ∷ h) → IsPast all h → progress_of (marks i (lines h)) ≡ Some Done
    → unshown (TakesTool None) i h ≡ true → last sort h ≡ Some (InTurn i, a) → (o : _) → sort effect ≡ o
    → Now L sort i j a (Does (InTurn n) effect ∷ h)
now_done L sort i j a all n effect h fits k p done u e None is =
    holds (ap (λ x. or_before (InTurn n) x (last sort h)) is ∙ e)
now_done L sort i j a all n (TakesTool tool) h fits k p done u e (Some b) is =
    changes_now L sort i j a all n (TakesTool tool) h fits k p done u (inr e) (some_is (sort (TakesTool tool)) b is) (λ other. refl) refl
now_done L sort i j a all n (SelectsFrame frame) h fits k p done u e (Some b) is =
    changes_now L sort i j a all n (SelectsFrame frame) h fits k p done u (inr e) (some_is (sort (SelectsFrame frame)) b is) (λ other. refl) refl
now_done L sort i j a all n (StoresZero point) h fits k p done u e (Some b) is =
    changes_now L sort i j a all n (StoresZero point) h fits k p done u (inr e) (some_is (sort (StoresZero point)) b is) (λ other. refl) refl
now_done L sort i j a all n Touches h fits k p done u e (Some b) is =
    absurd (not_none (sort Touches) b (Fits.no_touch fits) is)

now_in_turn : {A : Type 0} (L : Type 0) (sort : Effect → Option A) (i j : ℕ) (a : A) (all : List Entry) (n : ℕ) (effect : Effect) (h : List Entry)
    → Fits L sort i j a all → Keeps (Does (InTurn n) effect ∷ h) → IsPast all h → progress_of (marks i (lines h)) ≡ Some Done
    → unshown (TakesTool None) i h ≡ true → Now L sort i j a h → Now L sort i j a (Does (InTurn n) effect ∷ h)
now_in_turn L sort i j a all n effect h fits k p done u (holds e) =
    now_done L sort i j a all n effect h fits k p done u e (sort effect) refl
now_in_turn L sort i j a all n effect h fits k p done u (crossed v lt x) =
    crossed v lt (or_right (is_for_line v (InTurn n) && keep_order Touches effect) (unshown Touches v h) x)
now_in_turn L sort i j a all n (TakesTool tool) h fits k p done u (lost l x) =
    changes_now L sort i j a all n (TakesTool tool) h fits k p done u (inl l) (Fits.loses fits l tool) (λ other. refl) refl
now_in_turn L sort i j a all n (SelectsFrame frame) h fits k p done u (lost l x) = lost l x
now_in_turn L sort i j a all n (StoresZero point) h fits k p done u (lost l x) = lost l x
now_in_turn L sort i j a all n Touches h fits k p done u (lost l x) = lost l x

-- ---- all entries

pub holding : {A : Type 0} (L : Type 0) (sort : Effect → Option A) (i j : ℕ) (a : A) (all h : List Entry) → Fits L sort i j a all → Keeps h
    → IsPast all h → at_once_below i (lines h) ≡ false → fault_since i (lines h) ≡ false → progress_of (marks i (lines h)) ≡ Some Done
    → (unshown (TakesTool None) i h ≡ true) × Now L sort i j a h
holding L sort i j a all [] fits k p none calm done = absurd (cc)
holding L sort i j a all (Message (Sends line what) ∷ h) fits k p none calm done =
    let before : (unshown (TakesTool None) i h ≡ true) × Now L sort i j a h =
    holding L sort i j a all h fits (rest_kept (Message (Sends line what)) h k) (past (Message (Sends line what)) h p)
    (or_parts (is_at_once what && nat_lt i (count_sent (lines h))) (at_once_below i (lines h)) none).1 calm done in
    (before.0, now_sent L sort i j a line what h before.1)
holding {A} L sort i j a all (Message (Answers line what) ∷ h) fits k p none calm done =
    go (done_step i (mark_in what (lines h)) (is_fault what (lines h)) (fault_since i (lines h)) (marks i (lines h)) done calm)
    (holding L sort i j a all h fits (rest_kept (Message (Answers line what)) h k) (past (Message (Answers line what)) h p) none)
  where
    still : is_fault what (lines h) ≡ false → unshown (TakesTool None) i h ≡ true → unshown (TakesTool None) i (Message (Answers line what) ∷ h) ≡ true
    still clear u = and_from (not (is_it i (out_of_turn what (lines h)))) (unshown (TakesTool None) i h)
        (ap not (calm_none i (mark_in what (lines h)) (is_fault what (lines h)) clear)) u

    go : IsDoneBy i (mark_in what (lines h)) (is_fault what (lines h)) (fault_since i (lines h)) (marks i (lines h))
        → (fault_since i (lines h) ≡ false → progress_of (marks i (lines h)) ≡ Some Done → (unshown (TakesTool None) i h ≡ true) × Now L sort i j a h)
        → (unshown (TakesTool None) i (Message (Answers line what) ∷ h) ≡ true) × Now L sort i j a (Message (Answers line what) ∷ h)
    go (ends e it begun is clear) rest =
        let made : last sort h ≡ Some (InTurn i, a) = Fits.made fits line what e h k p it is clear in
        (still clear (did_last sort i a h (early_none i h (subst IsEarly (sym begun) tt)) made), holds made)
    go (stays is clear quiet) rest =
        let before : (unshown (TakesTool None) i h ≡ true) × Now L sort i j a h = rest quiet is in
        (still clear before.0, now_answered L sort i j a line what h clear before.1)
holding L sort i j a all (Does ForNoLine effect ∷ h) fits k p none calm done =
    let before : (unshown (TakesTool None) i h ≡ true) × Now L sort i j a h =
    holding L sort i j a all h fits (rest_kept (Does ForNoLine effect) h k) (past (Does ForNoLine effect) h p) none calm done in
    (before.0, now_lost L sort i j a all effect h fits (Keeps.within k).0 before.1)
holding L sort i j a all (Does (AtOnce n) effect ∷ h) fits k p none calm done =
    let before : (unshown (TakesTool None) i h ≡ true) × Now L sort i j a h =
    holding L sort i j a all h fits (rest_kept (Does (AtOnce n) effect) h k) (past (Does (AtOnce n) effect) h p) none calm done in
    absurd (no_at_once L sort i j a all n effect h fits k (past (Does (AtOnce n) effect) h p) none before.0)
holding L sort i j a all (Does (InTurn n) effect ∷ h) fits k p none calm done =
    let before : (unshown (TakesTool None) i h ≡ true) × Now L sort i j a h =
    holding L sort i j a all h fits (rest_kept (Does (InTurn n) effect) h k) (past (Does (InTurn n) effect) h p) none calm done in (
      or_right (is_for_line i (InTurn n) && true) (unshown (TakesTool None) i h) before.0,
      now_in_turn L sort i j a all n effect h fits k (past (Does (InTurn n) effect) h p) done before.0 before.1,
    )
