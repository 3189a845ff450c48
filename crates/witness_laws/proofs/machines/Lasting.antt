-- Changes, contacts and touches, as a history that keeps the premises has them.
use Rattle.witness_laws.proofs.Names.{◌&&◌, ◌<◌, ◌||◌, ◌∙◌, ◌∷◌, ◌≡◌, ◌≤◌, and_parts, Answers, ap, arith, Bool, cases_lt, Command, Datum, Direction}
use Rattle.witness_laws.proofs.Names.{Done, eqb-true, Event, false, false≢true, Heard, if◌then◌else◌, inl, inr, is_at_once, is_done, is_fault}
use Rattle.witness_laws.proofs.Names.{is_some, List, mark_in, marks, None, not, Option, place, Point, progress_of, progress_with, refl, Sent}
use Rattle.witness_laws.proofs.Names.{SentCommand, Signal, Some, Stage, stage_after, stage_of, Std, step, subst, sym, Tag, true, ℕ}
use Rattle.witness.specs.Histories.{with_mark}
use Rattle.witness_laws.specs.Machines.{Effect, TakesTool, SelectsFrame, StoresZero, Touches, Cause, InTurn, AtOnce, ForNoLine, Entry, Message, Does, lines, IsPast}
use Rattle.witness_laws.specs.Machines.{past, sent_at, frame_now, before_last, is_contact}
use Rattle.witness_laws.specs.Premises.{Keeps, ActsWithin, IfTrue, MadeSent, line_may, may_in_turn, may_at_once, has_ended, is_loss_reported, is_lost_before}
use Rattle.witness_laws.specs.Premises.{has_contact, has_point, point_given, MadeAt}
use Rattle.witness_laws.proofs.machines.Places.{same_place, IsLine, IsMarked, mark_is}
use Rattle.witness_laws.proofs.machines.Holding.{agrees}
use Rattle.witness_laws.proofs.machines.There.{IsOf}
use Rattle.witness_laws.proofs.machines.Prompt.{IsSound}

-- ---- contacts

its_contact : (j : ℕ) (cause : Cause) (effect : Effect) → is_contact j cause effect ≡ true → (cause ≡ InTurn j) × (effect ≡ Touches)
its_contact j cause (TakesTool tool) e = absurd (false≢true e)
its_contact j cause (SelectsFrame frame) e = absurd (false≢true e)
its_contact j cause (StoresZero point) e = absurd (false≢true e)
its_contact j (InTurn m) Touches e = (ap InTurn (sym (eqb-true j m e)), refl)
its_contact j (AtOnce m) Touches e = absurd (false≢true e)
its_contact j ForNoLine Touches e = absurd (false≢true e)

pub contact_of : {A : Type 0} (sort : Effect → Option A) (j : ℕ) → sort Touches ≡ None → IsOf sort j (is_contact j)
contact_of sort j none = record {
  its = λ cause effect e. (its_contact j cause effect e).0;
  other = λ cause effect e. ap sort (its_contact j cause effect e).1 ∙ none;
}

-- ---- a line that asks for a change

-- the line at its place, wherever it was sent
pub sent_as : (i : ℕ) (all h : List Entry) (w x : Option (Tag × SentCommand)) → IsPast all h → sent_at i (lines all) ≡ Some w
    → sent_at i (lines h) ≡ Some x → x ≡ w
sent_as i all h w x t e f = ap some_of (sym (agrees all h t i x f) ∙ e)
  where
    some_of : Option (Option (Tag × SentCommand)) → Option (Tag × SentCommand)
    some_of None = x
    some_of (Some y) = y

-- it is not carried out at once
pub known_in_turn : (i : ℕ) (all h : List Entry) (tag : Tag) (c : Command) → IsPast all h → sent_at i (lines all) ≡ Some (Some (tag, SentCommand.Known c))
    → may_at_once (sent_at i (lines h)) ≡ true → ⊥
known_in_turn i all h tag c t e may = go (sent_at i (lines h)) refl may
  where
    none : (t : Tag) → is_at_once (Some (t, SentCommand.Known c)) ≡ false
    none (Std n) = refl
    none (Event n) = refl

    go : (o : Option (Option (Tag × SentCommand))) → sent_at i (lines h) ≡ o → may_at_once o ≡ true → ⊥
    go None is f = false≢true f
    go (Some x) is f =
        let it : x ≡ Some (tag, SentCommand.Known c) = sent_as i all h (Some (tag, SentCommand.Known c)) x t e is in
        false≢true (sym (none tag) ∙ (ap is_at_once (sym it) ∙ f))

-- its end, in turn, means that it was made
pub made_sent : (i : ℕ) (line : List ℕ) (what : Option (Tag × Signal)) (e : Heard) (all h : List Entry) (w : Option (Tag × SentCommand))
    → Keeps (Message (Answers line what) ∷ h) → IsPast all (Message (Answers line what) ∷ h) → sent_at i (lines all) ≡ Some w
    → mark_in what (lines h) ≡ Some (i, e) → progress_with (progress_of (marks i (lines h))) e ≡ Some Done → is_fault what (lines h) ≡ false
    → MadeSent i h (Some w)
made_sent i line what e all h w k t is mark done clear = go (mark_is what (lines h))
  where
    made : MadeSent i h (sent_at i (lines h))
    made =
        let at : MadeAt (is_fault what (lines h)) h (Some (i, e)) = subst (MadeAt (is_fault what (lines h)) h) mark (Keeps.made k).0 in
        let calm : IfTrue (is_done (progress_with (progress_of (marks i (lines h))) e)) (MadeSent i h (sent_at i (lines h))) =
        subst (λ (b : Bool). IfTrue (not b && is_done (progress_with (progress_of (marks i (lines h))) e)) (MadeSent i h (sent_at i (lines h)))) clear at in
        subst (λ p. IfTrue (is_done p) (MadeSent i h (sent_at i (lines h)))) done calm

    go : IsMarked (lines h) (mark_in what (lines h)) → MadeSent i h (Some w)
    go marked =
        let it : IsMarked (lines h) (Some (i, e)) = subst (IsMarked (lines h)) mark marked in
        subst (MadeSent i h) (it.1 ∙ ap Some (sent_as i all h w (Some it.0) (past (Message (Answers line what)) h t) is it.1)) made

-- a line that does something may do it
pub does_may : (n : ℕ) (effect : Effect) (h : List Entry) → ActsWithin (Does (InTurn n) effect) h
    → (w : Option (Tag × SentCommand)) × (sent_at n (lines h) ≡ Some w) × (line_may effect (frame_now h) w ≡ true)
does_may n effect h acts = go (sent_at n (lines h)) refl acts
  where
    go : (o : Option (Option (Tag × SentCommand))) → sent_at n (lines h) ≡ o → may_in_turn effect (frame_now h) (has_ended n (lines h)) o ≡ true
        → (w : Option (Tag × SentCommand)) × (sent_at n (lines h) ≡ Some w) × (line_may effect (frame_now h) w ≡ true)
    go None is f = absurd (false≢true f)
    go (Some w) is f =
        (w, is, (and_parts (line_may effect (frame_now h) w) (not (is_at_once w) && not (has_ended n (lines h))) f).0)

-- no line below a change, up to that of `u`, does what this may not
pub below_quiet : (may : Option (Tag × SentCommand) → Bool) (i : ℕ) (u : Sent) (all : List Entry)
    → IsLine u (lines all) → may (Some (u.tag, u.command)) ≡ false
    → ((n : ℕ) (w : Option (Tag × SentCommand)) → i < n → sent_at n u.above ≡ Some w → may w ≡ false)
    → (n : ℕ) (effect : Effect) (h : List Entry) → IsPast all h → ActsWithin (Does (InTurn n) effect) h → i < n → n ≤ place u
    → ((w : Option (Tag × SentCommand)) → line_may effect (frame_now h) w ≡ true → may w ≡ true) → ⊥
below_quiet may i u all iu not_this quiet n effect h t acts lt le known = go (does_may n effect h acts)
  where
    go : (w : Option (Tag × SentCommand)) × (sent_at n (lines h) ≡ Some w) × (line_may effect (frame_now h) w ≡ true) → ⊥
    go it = elim (cases_lt n (place u)) [
      | inl below ↦ false≢true (sym (quiet n it.0 lt (sym (IsLine.above iu n below) ∙ agrees all h t n it.0 it.1)) ∙ known it.0 it.2)
      | inr above ↦
          let same : n ≡ place u = omega (arith, le, above) in
          let line : sent_at n (lines all) ≡ Some (Some (u.tag, u.command)) =
          ap (λ (m : ℕ). sent_at m (lines all)) same ∙ IsLine.sent iu in
          let it_is : it.0 ≡ Some (u.tag, u.command) = sent_as n all h (Some (u.tag, u.command)) it.0 t line it.1 in
          false≢true (sym not_this ∙ (ap may (sym it_is) ∙ known it.0 it.2))
    ]

-- ---- touches

-- something that was lost before the contact was reported at its end
pub not_lost : (j : ℕ) (line : List ℕ) (what : Option (Tag × Signal)) (h : List Entry) → Keeps (Message (Answers line what) ∷ h)
    → mark_in what (lines h) ≡ Some (j, Heard.Complete) → is_lost_before (is_contact j) (Message (Answers line what) ∷ h) ≡ true → ⊥
not_lost j line what h k mark lost =
    let reported : is_loss_reported (Some (j, Heard.Complete)) h ≡ true = subst (λ m. is_loss_reported m h ≡ true) mark (Keeps.reported k).0 in
    let was : is_lost_before (is_contact j) h ≡ true =
    (and_parts (not (is_fault what (lines h))) (is_lost_before (is_contact j) h) lost).1 in
    false≢true (sym (ap not was) ∙ reported)

-- the contact was made
pub not_never : (u : Sent) (p : Point) (d : Option Direction) (at : Point) (line : List ℕ) (what : Option (Tag × Signal)) (h : List Entry)
    → Keeps (Message (Answers line what) ∷ h) → IsLine u (lines h) → mark_in what (lines h) ≡ Some (place u, Heard.Complete)
    → stage_of u.command (marks (place u) (lines h)) ≡ Stage.Given (Datum.Point at) → before_last (is_contact (place u)) h ≡ None → ⊥
not_never u p d at line what h k iu mark given none =
    let touched : has_contact (Some (place u, Heard.Complete)) h ≡ true = subst (λ m. has_contact m h ≡ true) mark (Keeps.touched k).0 in
    let at_sent : (not (point_given (Some (Some (u.tag, u.command))) (marks (place u) (lines h)))
    || is_some (before_last (is_contact (place u)) h)) ≡ true =
    subst (λ o. (not (point_given o (marks (place u) (lines h)))
    || is_some (before_last (is_contact (place u)) h)) ≡ true) (IsLine.sent iu) touched in
    let at_stage : (not (has_point (Stage.Given (Datum.Point at)))
    || is_some (before_last (is_contact (place u)) h)) ≡ true =
    subst (λ s. (not (has_point s) || is_some (before_last (is_contact (place u)) h)) ≡ true) given at_sent in
    false≢true (ap is_some (sym none) ∙ at_stage)

-- a touch that ends with its data had no error
pub ended_sound : (u : Sent) (p : Point) (d : Option Direction) (at : Point) (line : List ℕ) (what : Option (Tag × Signal)) (h : List Entry)
    → mark_in what (lines h) ≡ Some (place u, Heard.Complete) → u.command ≡ SentCommand.Known (Command.PtMeas p d)
    → stage_of u.command (marks (place u) (lines h)) ≡ Stage.Given (Datum.Point at)
    → IsSound (stage_of (SentCommand.Known (Command.PtMeas p d)) (marks (place u) (Answers line what ∷ lines h)))
ended_sound u p d at line what h mark is given =
    let one : with_mark (place u) (mark_in what (lines h)) (marks (place u) (lines h)) ≡ Heard.Complete ∷ marks (place u) (lines h) =
    ap (λ m. with_mark (place u) m (marks (place u) (lines h))) mark
    ∙ ap (λ (b : Bool). if b then Heard.Complete ∷ marks (place u) (lines h) else marks (place u) (lines h)) (same_place (place u)) in
    let before : stage_of (SentCommand.Known (Command.PtMeas p d)) (marks (place u) (lines h)) ≡ Stage.Given (Datum.Point at) =
    sym (ap (λ c. stage_of c (marks (place u) (lines h))) is) ∙ given in
    subst (λ ms. IsSound (stage_of (SentCommand.Known (Command.PtMeas p d)) ms)) (sym one)
    (subst (λ s. IsSound (stage_after s (step true s Heard.Complete))) (sym before) tt)
