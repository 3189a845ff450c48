-- What the machine had at a contact, or at a selection, of a line below a change that holds.
use Rattle.witness_laws.proofs.Names.{◌&&◌, ◌∙◌, ◌∷◌, ◌≡◌, [], and_from, Answers, ap, at_once_below, Begun, Bool, count_sent, Done, false}
use Rattle.witness_laws.proofs.Names.{fault_since, if◌then◌else◌, is_at_once, is_fault, List, mark_in, marks, nat_lt, None, not, Option, or_parts}
use Rattle.witness_laws.proofs.Names.{progress_of, refl, Sends, Some, subst, sym, true, ℕ}
use Rattle.witness.specs.Asking.{Line}
use Rattle.witness_laws.specs.Machines.{Effect, TakesTool, SelectsFrame, StoresZero, Touches, Cause, InTurn, AtOnce, ForNoLine, Entry, Message, Does, lines, IsPast}
use Rattle.witness_laws.specs.Machines.{past, last, or_before, before_last}
use Rattle.witness_laws.specs.Premises.{Keeps, ActsInOrder, keep_order, is_unreported, is_lost_before}
use Rattle.witness_laws.proofs.machines.Orders.{unshown, keeps_more, unshown_for, crossing, NoneShown, did_there, cause_of}
use Rattle.witness_laws.proofs.machines.Marking.{IsDoneBy, ends, stays, done_step}
use Rattle.witness_laws.proofs.machines.Holding.{rest_kept, Fits, Now, holds, crossed, lost, holding, not_none}

-- no mark of the lower line came out of turn before the upper one ended
abbrev pub IsPrompt : ℕ → ℕ → List Entry → Type 0
IsPrompt i j [] = Unit {0}
IsPrompt i j (Message (Sends line what) ∷ h) = IsPrompt i j h
IsPrompt i j (Message (Answers line what) ∷ h) = (progress_of (marks i (lines h)) ≡ Some Begun → NoneShown j h) × IsPrompt i j h
IsPrompt i j (Does cause effect ∷ h) = IsPrompt i j h

-- it is something that the line at this place does in its turn, and not of this sort
pub record IsOf {A : Type 0} (sort : Effect → Option A) (j : ℕ) (is_that : Cause → Effect → Bool) : Type 0 where
  pub its : (cause : Cause) (effect : Effect) → is_that cause effect ≡ true → cause ≡ InTurn j
  pub other : (cause : Cause) (effect : Effect) → is_that cause effect ≡ true → sort effect ≡ None

-- it did not happen; or the change held; or it was lost before, and that is not reported
pub data There {A : Type 0} (L : Type 0) (sort : Effect → Option A) (i : ℕ) (a : A) (is_that : Cause → Effect → Bool) (h : List Entry) : Type 0 where
  never : before_last is_that h ≡ None → There L sort i a is_that h
  had : (h' : List Entry) → before_last is_that h ≡ Some h' → last sort h' ≡ Some (InTurn i, a) → There L sort i a is_that h
  lost_there : L → is_lost_before is_that h ≡ true → There L sort i a is_that h

-- ---- before the change had ended

had_before : {A : Type 0} (L : Type 0) (sort : Effect → Option A) (i j : ℕ) (a : A) (is_that : Cause → Effect → Bool) (all h h' : List Entry)
    → Fits L sort i j a all → IsOf sort j is_that → Keeps h → NoneShown j h → last sort h ≡ Some (InTurn i, a) → before_last is_that h ≡ Some h'
    → last sort h' ≡ Some (InTurn i, a)
had_before L sort i j a is_that all [] h' fits of k none e f = absurd (cc)
had_before L sort i j a is_that all (Message (Sends line what) ∷ h) h' fits of k none e f =
    had_before L sort i j a is_that all h h' fits of (rest_kept (Message (Sends line what)) h k) none e f
had_before L sort i j a is_that all (Message (Answers line what) ∷ h) h' fits of k none e f =
    had_before L sort i j a is_that all h h' fits of (rest_kept (Message (Answers line what)) h k) none.1 e f
had_before {A} L sort i j a is_that all (Does cause effect ∷ h) h' fits of k none e f =
    go (is_that cause effect) refl f (sort effect) refl e
    (λ e' f'. had_before L sort i j a is_that all h h' fits of (rest_kept (Does cause effect) h k) none e' f')
  where
    unless_crossed : (c : Cause) → Keeps (Does c effect ∷ h) → c ≡ InTurn i → (other : (x : Effect) → keep_order effect x ≡ true)
        → unshown (TakesTool None) j h ≡ true → ⊥
    unless_crossed (InTurn n) kept is keeps u =
        crossing i j effect h (subst (λ c. ActsInOrder (Does c effect) h) is (Keeps.in_order kept).0)
        (Fits.above fits) (unshown_for (TakesTool None) effect j h (λ x g. keeps x) u)
    unless_crossed (AtOnce n) kept is keeps u = absurd (cc)
    unless_crossed ForNoLine kept is keeps u = absurd (cc)

    changes : (x : Effect) → effect ≡ x → (b : A) → sort effect ≡ Some b → cause ≡ InTurn i → unshown (TakesTool None) j h ≡ true → ⊥
    changes (TakesTool t) is b some mine u = unless_crossed cause k mine (λ y. ap (λ z. keep_order z y) is) u
    changes (SelectsFrame t) is b some mine u = unless_crossed cause k mine (λ y. ap (λ z. keep_order z y) is) u
    changes (StoresZero t) is b some mine u = unless_crossed cause k mine (λ y. ap (λ z. keep_order z y) is) u
    changes Touches is b some mine u = not_none (sort Touches) b (Fits.no_touch fits) (sym (ap sort is) ∙ some)

    go : (t : Bool) → is_that cause effect ≡ t → (if t then Some h else before_last is_that h) ≡ Some h' → (o : Option A) → sort effect ≡ o
        → or_before cause (sort effect) (last sort h) ≡ Some (InTurn i, a)
        → (last sort h ≡ Some (InTurn i, a) → before_last is_that h ≡ Some h' → last sort h' ≡ Some (InTurn i, a))
        → last sort h' ≡ Some (InTurn i, a)
    go true is g o so g' rest =
        let none' : sort effect ≡ None = IsOf.other of cause effect is in
        ap (λ x. last sort x) (sym (some_in g)) ∙ (sym (ap (λ x. or_before cause x (last sort h)) none') ∙ g')
      where
        list_of : Option (List Entry) → List Entry
        list_of None = []
        list_of (Some x) = x

        some_in : Some h ≡ Some h' → h ≡ h'
        some_in q = ap list_of q
    go false is g None so g' rest = rest (sym (ap (λ x. or_before cause x (last sort h)) so) ∙ g') g
    go false is g (Some b) so g' rest =
        let mine : cause ≡ InTurn i = ap (cause_of {A = A}) (sym (ap (λ x. or_before cause x (last sort h)) so) ∙ g') in
        absurd (changes effect refl b so mine (did_there is_that j h h' (IsOf.its of) none g))

-- ---- at the end of the change

at_end : {A : Type 0} (L : Type 0) (sort : Effect → Option A) (i j : ℕ) (a : A) (is_that : Cause → Effect → Bool) (all h : List Entry)
    → Fits L sort i j a all → IsOf sort j is_that → Keeps h → NoneShown j h → last sort h ≡ Some (InTurn i, a) → There L sort i a is_that h
at_end L sort i j a is_that all h fits of k none e = go (before_last is_that h) refl
  where
    go : (o : Option (List Entry)) → before_last is_that h ≡ o → There L sort i a is_that h
    go None is = never is
    go (Some h') is = had h' is (had_before L sort i j a is_that all h h' fits of k none e is)

-- ---- one entry more

there_passed : {A : Type 0} (L : Type 0) (sort : Effect → Option A) (i : ℕ) (a : A) (is_that : Cause → Effect → Bool) (line : Line) (h : List Entry)
    → (is_lost_before is_that h ≡ true → is_lost_before is_that (Message line ∷ h) ≡ true)
    → There L sort i a is_that h → There L sort i a is_that (Message line ∷ h)
there_passed L sort i a is_that line h f (never e) = never e
there_passed L sort i a is_that line h f (had h' e g) = had h' e g
there_passed L sort i a is_that line h f (lost_there l e) = lost_there l (f e)

there_not : {A : Type 0} (L : Type 0) (sort : Effect → Option A) (i : ℕ) (a : A) (is_that : Cause → Effect → Bool) (cause : Cause) (effect : Effect)
    (h : List Entry) → is_that cause effect ≡ false → There L sort i a is_that h → There L sort i a is_that (Does cause effect ∷ h)
there_not L sort i a is_that cause effect h clear (never e) = never (ap (λ b. if b then Some h else before_last is_that h) clear ∙ e)
there_not L sort i a is_that cause effect h clear (had h' e g) = had h' (ap (λ b. if b then Some h else before_last is_that h) clear ∙ e) g
there_not L sort i a is_that cause effect h clear (lost_there l e) =
    lost_there l (ap (λ b. if b then is_unreported h else is_lost_before is_that h) clear ∙ e)

-- it happens now
there_now : {A : Type 0} (L : Type 0) (sort : Effect → Option A) (i j : ℕ) (a : A) (is_that : Cause → Effect → Bool) (cause : Cause) (effect : Effect)
    (h : List Entry) → Keeps (Does cause effect ∷ h) → cause ≡ InTurn j → is_that cause effect ≡ true → Now L sort i j a h
    → There L sort i a is_that (Does cause effect ∷ h)
there_now L sort i j a is_that cause effect h k its is (holds e) = had h (ap (λ b. if b then Some h else before_last is_that h) is) e
there_now L sort i j a is_that cause effect h k its is (lost l u) =
    lost_there l (ap (λ b. if b then is_unreported h else is_lost_before is_that h) is ∙ u)
there_now L sort i j a is_that cause effect h k its is (crossed v lt u) =
    absurd (crossing j v effect h (subst (λ c. ActsInOrder (Does c effect) h) its (Keeps.in_order k).0) lt
    (unshown_for Touches effect v h (keeps_more effect) u))

there_does : {A : Type 0} (L : Type 0) (sort : Effect → Option A) (i j : ℕ) (a : A) (is_that : Cause → Effect → Bool) (cause : Cause) (effect : Effect)
    (h : List Entry) → IsOf sort j is_that → Keeps (Does cause effect ∷ h) → Now L sort i j a h → There L sort i a is_that h
    → There L sort i a is_that (Does cause effect ∷ h)
there_does L sort i j a is_that cause effect h of k now there = go (is_that cause effect) refl
  where
    go : (b : Bool) → is_that cause effect ≡ b → There L sort i a is_that (Does cause effect ∷ h)
    go true is = there_now L sort i j a is_that cause effect h k (IsOf.its of cause effect is) is now
    go false is = there_not L sort i a is_that cause effect h is there

-- ---- all entries

pub had_there : {A : Type 0} (L : Type 0) (sort : Effect → Option A) (i j : ℕ) (a : A) (is_that : Cause → Effect → Bool) (all h : List Entry)
    → Fits L sort i j a all → IsOf sort j is_that → Keeps h → IsPast all h → IsPrompt i j h
    → at_once_below i (lines h) ≡ false → fault_since i (lines h) ≡ false → progress_of (marks i (lines h)) ≡ Some Done
    → There L sort i a is_that h
had_there L sort i j a is_that all [] fits of k p prompt none calm done = absurd (cc)
had_there L sort i j a is_that all (Message (Sends line what) ∷ h) fits of k p prompt none calm done =
    there_passed L sort i a is_that (Sends line what) h (λ e. e)
    (had_there L sort i j a is_that all h fits of (rest_kept (Message (Sends line what)) h k) (past (Message (Sends line what)) h p) prompt
    (or_parts (is_at_once what && nat_lt i (count_sent (lines h))) (at_once_below i (lines h)) none).1 calm done)
had_there L sort i j a is_that all (Message (Answers line what) ∷ h) fits of k p prompt none calm done =
    go (done_step i (mark_in what (lines h)) (is_fault what (lines h)) (fault_since i (lines h)) (marks i (lines h)) done calm)
    (had_there L sort i j a is_that all h fits of (rest_kept (Message (Answers line what)) h k)
    (past (Message (Answers line what)) h p) prompt.1 none)
  where
    more : is_fault what (lines h) ≡ false → is_lost_before is_that h ≡ true → is_lost_before is_that (Message (Answers line what) ∷ h) ≡ true
    more clear e = and_from (not (is_fault what (lines h))) (is_lost_before is_that h) (ap not clear) e

    go : IsDoneBy i (mark_in what (lines h)) (is_fault what (lines h)) (fault_since i (lines h)) (marks i (lines h))
        → (fault_since i (lines h) ≡ false → progress_of (marks i (lines h)) ≡ Some Done → There L sort i a is_that h)
        → There L sort i a is_that (Message (Answers line what) ∷ h)
    go (ends e it begun is clear) rest =
        there_passed L sort i a is_that (Answers line what) h (more clear)
        (at_end L sort i j a is_that all h fits of (rest_kept (Message (Answers line what)) h k) (prompt.0 begun)
        (Fits.made fits line what e h k p it is clear))
    go (stays is clear quiet) rest = there_passed L sort i a is_that (Answers line what) h (more clear) (rest quiet is)
had_there L sort i j a is_that all (Does cause effect ∷ h) fits of k p prompt none calm done =
    there_does L sort i j a is_that cause effect h of k
    (holding L sort i j a all h fits (rest_kept (Does cause effect) h k) (past (Does cause effect) h p) none calm done).1
    (had_there L sort i j a is_that all h fits of (rest_kept (Does cause effect) h k) (past (Does cause effect) h p) prompt none calm done)
