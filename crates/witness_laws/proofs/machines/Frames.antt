-- The frame that is known of a contact is the one that the machine had.
use Rattle.witness_laws.proofs.Names.{◌==◌, ◌∙◌, ◌∷◌, ◌≡◌, ◌⊎◌, [], all_for, Answers, ap, at_once_below, Bool, Command, Csy, Datum, Direction, Done}
use Rattle.witness_laws.proofs.Names.{done, eqb-true, false, false≢true, fault_since, Frame, frame_by, frame_of, Heard, if◌then◌else◌, inl, inr}
use Rattle.witness_laws.proofs.Names.{is_crossed, is_some, known_for, last_csy, last_part, last_zero, List, list_any, Machine, MachineCsy, mark_in}
use Rattle.witness_laws.proofs.Names.{marks, may_hold_for, None, Option, or_right, Part, PartCsy, place, Point, progress_of, progress_with, refl}
use Rattle.witness_laws.proofs.Names.{Reported, reported_of, Sends, Sent, SentCommand, Signal, slice_get, Some, Stage, stage_of, subst, sym, Tag}
use Rattle.witness_laws.proofs.Names.{touched, true, ℕ}
use Rattle.witness.specs.Asking.{Line}
use Rattle.witness.specs.Histories.{with_mark}
use Rattle.witness_laws.specs.Machines.{Effect, TakesTool, SelectsFrame, StoresZero, Touches, Cause, InTurn, AtOnce, ForNoLine, Entry, Message, Does, lines, IsPast}
use Rattle.witness_laws.specs.Machines.{whole, past, sent_at, frame_selected, zero_stored, last, so, zero_now, frame_now, before_last, is_for_line, is_contact}
use Rattle.witness_laws.specs.Machines.{is_selection, there, part_of, part_when, part_selected}
use Rattle.witness_laws.specs.Premises.{Keeps, KeepsUnlessCrossed, ActsWithin, selects_frame, takes_a_tool, line_may, is_complete, has_ended}
use Rattle.witness_laws.specs.Contacts.{contact_frame, HadFrame}
use Rattle.witness_laws.proofs.machines.Places.{same_place, IsLine, sent_within, line_through, line_stays}
use Rattle.witness_laws.proofs.machines.Changes.{AsksCsy, frame_of_csy, may_select, csy_is, AsksZero, may_store, zero_is, IsLast, part_last}
use Rattle.witness_laws.proofs.machines.Orders.{NoneShown, cause_of}
use Rattle.witness_laws.proofs.machines.Marking.{done_none, done_ended}
use Rattle.witness_laws.proofs.machines.Holding.{ended_out, kept_past, Fits}
use Rattle.witness_laws.proofs.machines.There.{IsOf, There, never, had, lost_there, had_there, IsPrompt}
use Rattle.witness_laws.proofs.machines.Prompt.{touch_prompt}
use Rattle.witness_laws.proofs.machines.Reports.{one_of, IsPlain, reports_are}
use Rattle.witness_laws.proofs.machines.Lasting.{contact_of, known_in_turn, made_sent, below_quiet, not_never, ended_sound}
use Rattle.witness_laws.proofs.machines.Held.{IsHeld, Holds, held_for, known_all, known_uncrossed}

-- ---- what may select a frame, and store a zero point

known_selects : (csy : Csy) (effect : Effect) (w : Option (Tag × SentCommand)) → is_some (frame_selected effect) ≡ true
    → line_may effect (frame_of_csy csy) w ≡ true → may_select csy w ≡ true
known_selects csy (SelectsFrame frame) None some may = refl
known_selects csy (SelectsFrame frame) (Some (tag, SentCommand.Known c)) some may = may
known_selects csy (SelectsFrame frame) (Some (tag, SentCommand.Asking)) some may = may
known_selects csy (SelectsFrame frame) (Some (tag, SentCommand.Foreign line)) some may = refl
known_selects csy (TakesTool tool) w some may = absurd (false≢true some)
known_selects csy (StoresZero point) w some may = absurd (false≢true some)
known_selects csy Touches w some may = absurd (false≢true some)

-- in a part's frame, whatever it is, no more may do so
part_selects : (effect : Effect) (now : Option Frame) (w : Option (Tag × SentCommand)) → is_some (frame_selected effect) ≡ true
    → line_may effect now w ≡ true → may_select PartCsy w ≡ true
part_selects (SelectsFrame frame) now None some may = refl
part_selects (SelectsFrame frame) now (Some (tag, SentCommand.Known c)) some may = part_command c may
  where
    part_command : (c : Command) → selects_frame now c ≡ true → selects_frame None c ≡ true
    part_command Command.StartSession e = refl
    part_command Command.EndSession e = refl
    part_command (Command.SetCoordSystem csy) e = refl
    part_command (Command.SetCsyTransformation p) e = refl
    part_command Command.ClearAllErrors e = e
    part_command Command.IsHomed e = e
    part_command Command.Home e = e
    part_command Command.OnPtMeasReport e = e
    part_command (Command.GoTo p) e = e
    part_command (Command.PtMeas p d) e = e
    part_command (Command.ChangeTool tool) e = e
    part_command Command.AbortE e = e
part_selects (SelectsFrame frame) now (Some (tag, SentCommand.Asking)) some may = may
part_selects (SelectsFrame frame) now (Some (tag, SentCommand.Foreign line)) some may = refl
part_selects (TakesTool tool) now w some may = absurd (false≢true some)
part_selects (StoresZero point) now w some may = absurd (false≢true some)
part_selects Touches now w some may = absurd (false≢true some)

known_stores : (effect : Effect) (now : Option Frame) (w : Option (Tag × SentCommand)) → is_some (zero_stored effect) ≡ true
    → line_may effect now w ≡ true → may_store {A = Bool} true w ≡ true
known_stores (StoresZero point) now None some may = refl
known_stores (StoresZero point) now (Some (tag, SentCommand.Known c)) some may = may
known_stores (StoresZero point) now (Some (tag, SentCommand.Asking)) some may = may
known_stores (StoresZero point) now (Some (tag, SentCommand.Foreign line)) some may = refl
known_stores (TakesTool tool) now w some may = absurd (false≢true some)
known_stores (SelectsFrame frame) now w some may = absurd (false≢true some)
known_stores Touches now w some may = absurd (false≢true some)

-- neither is lost for no line's sake
no_frame_lost : (effect : Effect) → takes_a_tool effect ≡ true → is_some (frame_selected effect) ≡ true → ⊥
no_frame_lost (TakesTool tool) t some = false≢true some
no_frame_lost (SelectsFrame frame) t some = false≢true t
no_frame_lost (StoresZero point) t some = false≢true t
no_frame_lost Touches t some = false≢true t

no_zero_lost : (effect : Effect) → takes_a_tool effect ≡ true → is_some (zero_stored effect) ≡ true → ⊥
no_zero_lost (TakesTool tool) t some = false≢true some
no_zero_lost (SelectsFrame frame) t some = false≢true t
no_zero_lost (StoresZero point) t some = false≢true t
no_zero_lost Touches t some = false≢true t

-- ---- a selection, once its line has ended, stays the last of that line

its_selection : (j : ℕ) (cause : Cause) (effect : Effect) → is_selection j cause effect ≡ true → (cause ≡ InTurn j) × (zero_stored effect ≡ None)
its_selection j cause (TakesTool tool) e = absurd (false≢true e)
its_selection j cause (StoresZero point) e = absurd (false≢true e)
its_selection j cause Touches e = absurd (false≢true e)
its_selection j (InTurn m) (SelectsFrame frame) e = (ap InTurn (sym (eqb-true j m e)), refl)
its_selection j (AtOnce m) (SelectsFrame frame) e = absurd (false≢true e)
its_selection j ForNoLine (SelectsFrame frame) e = absurd (false≢true e)

selection_of : (j : ℕ) → IsOf zero_stored j (is_selection j)
selection_of j = record {
  its = λ cause effect e. (its_selection j cause effect e).0;
  other = λ cause effect e. (its_selection j cause effect e).1;
}

marked_more : (i : ℕ) (mk : Option (ℕ × Heard)) (ms : List Heard) → list_any is_complete ms ≡ true → list_any is_complete (with_mark i mk ms) ≡ true
marked_more i None ms e = e
marked_more i (Some (m, h)) ms e = go (i == m)
  where
    go : (b : Bool) → list_any is_complete (if b then h ∷ ms else ms) ≡ true
    go true = or_right (is_complete h) (list_any is_complete ms) e
    go false = e

ended_more : (i : ℕ) (x : Line) (h : List Line) → has_ended i h ≡ true → has_ended i (x ∷ h) ≡ true
ended_more i (Sends line what) h e = e
ended_more i (Answers line what) h e = marked_more i (mark_in what h) (marks i h) e

unselected : (i : ℕ) (cause : Cause) (effect : Effect) (h : List Entry) → Keeps (Does cause effect ∷ h) → has_ended i (lines h) ≡ true
    → is_selection i cause effect ≡ true → ⊥
unselected i cause effect h k ended e =
    let mine : ActsWithin (Does (InTurn i) effect) h =
    subst (λ (c : Cause). ActsWithin (Does c effect) h) (its_selection i cause effect e).0 (Keeps.within k).0 in
    ended_out effect (frame_now h) (has_ended i (lines h)) (sent_at i (lines h)) mine ended

selection_stays : (i : ℕ) (all h : List Entry) → Keeps all → IsPast all h → has_ended i (lines h) ≡ true
    → before_last (is_selection i) all ≡ before_last (is_selection i) h
selection_stays i all _ k whole ended = refl
selection_stays i all _ k (past (Message line) h t) ended =
    selection_stays i all (Message line ∷ h) k t (ended_more i line (lines h) ended)
selection_stays i all _ k (past (Does cause effect) h t) ended =
    selection_stays i all (Does cause effect ∷ h) k t ended ∙ go (is_selection i cause effect) refl
  where
    go : (b : Bool) → is_selection i cause effect ≡ b → (if b then Some h else before_last (is_selection i) h) ≡ before_last (is_selection i) h
    go true is = absurd (unselected i cause effect h (kept_past all (Does cause effect ∷ h) t k) ended is)
    go false is = refl

-- there is one if a frame was selected for the line last
selected_once : (i : ℕ) (f : Option Frame) (h : List Entry) → last frame_selected h ≡ Some (InTurn i, f) → before_last (is_selection i) h ≡ None → ⊥
selected_once i f [] e none = absurd (cc)
selected_once i f (Message line ∷ h) e none = selected_once i f h e none
selected_once i f (Does cause (TakesTool tool) ∷ h) e none = selected_once i f h e none
selected_once i f (Does cause (StoresZero point) ∷ h) e none = selected_once i f h e none
selected_once i f (Does cause Touches ∷ h) e none = selected_once i f h e none
selected_once i f (Does cause (SelectsFrame frame) ∷ h) e none =
    let mine : cause ≡ InTurn i = ap (cause_of {A = Option Frame}) e in
    let it : is_for_line i cause ≡ true = ap (is_for_line i) mine ∙ same_place i in
    let some : Some h ≡ None = sym (ap (λ (b : Bool). if b then Some h else before_last (is_selection i) h) it) ∙ none in
    absurd (cc)

none_prompt : (i j : ℕ) (h : List Entry) → NoneShown j h → IsPrompt i j h
none_prompt i j [] none = tt
none_prompt i j (Message (Sends line what) ∷ h) none = none_prompt i j h none
none_prompt i j (Message (Answers line what) ∷ h) none = (λ begun. none.1, none_prompt i j h none.1)
none_prompt i j (Does cause effect ∷ h) none = none_prompt i j h none

-- ---- the zero point at the selection

part_quiet : (c : SentCommand) (csy : Csy) (tag : Tag) → c ≡ SentCommand.Known (Command.SetCoordSystem csy) → may_store {A = Bool} true (Some (tag, c)) ≡ false
part_quiet c csy tag is = ap (λ (x : SentCommand). may_store {A = Bool} true (Some (tag, x))) is

zero_fits : (at : Point) (z s : Sent) (all : List Entry) → IsLine s (lines all) → s.command ≡ SentCommand.Known (Command.SetCoordSystem PartCsy)
    → IsLast AsksZero may_store s.above (Some (at, z)) → Fits ⊥ zero_stored (place z) (place s) (Some at) all
zero_fits at z s all is_line is last_is =
    let line_of : IsLine z (lines all) = line_through z s (lines all) last_is.0 is_line in
    let p : Point = last_is.1.0 in
    let sent : sent_at (place z) (lines all) ≡ Some (Some (z.tag, SentCommand.Known (Command.SetCsyTransformation p))) =
    IsLine.sent line_of ∙ ap (λ (c : SentCommand). Some (Some (z.tag, c))) last_is.1.1 in
    record {
      above = sent_within (place z) (Some (z.tag, z.command)) s.above (IsLine.sent last_is.0);
      no_touch = refl;
      made = λ line what e h k t mark done calm.
          made_sent (place z) line what e all h (Some (z.tag, SentCommand.Known (Command.SetCsyTransformation p))) k t sent mark done calm
          ∙ ap (λ (x : Point). Some (InTurn (place z), Some x)) (sym last_is.1.2);
      in_turn = λ h t may. known_in_turn (place z) all h z.tag (Command.SetCsyTransformation p) t sent may;
      quiet = λ n effect h t acts lt le e some.
          below_quiet (may_store {A = Bool} true) (place z) s all is_line (part_quiet s.command PartCsy s.tag is) last_is.2
          n effect h t acts lt le (λ w may. known_stores effect (frame_now h) w some may);
      loses = λ l tool. absurd l;
      loss = λ effect h acts some. no_zero_lost effect acts some;
    }

zero_there : (at : Point) (z s : Sent) (h : List Entry) → IsLine s (lines h) → s.command ≡ SentCommand.Known (Command.SetCoordSystem PartCsy)
    → IsLast AsksZero may_store s.above (Some (at, z)) → Keeps h → at_once_below (place z) (lines h) ≡ false → fault_since (place z) (lines h) ≡ false
    → progress_of (marks (place z) (lines h)) ≡ Some Done → fault_since (place s) (lines h) ≡ false
    → progress_of (marks (place s) (lines h)) ≡ Some Done → There ⊥ zero_stored (place z) (Some at) (is_selection (place s)) h
zero_there at z s h is_line is last_is k none calm done s_calm s_done =
    had_there ⊥ zero_stored (place z) (place s) (Some at) (is_selection (place s)) h h (zero_fits at z s h is_line is last_is)
    (selection_of (place s)) k whole (none_prompt (place z) (place s) h (done_none (place s) h s_done s_calm)) none calm done

-- ---- the frame

touch_quiet : (csy : Csy) (c : SentCommand) (tag : Tag) (p : Point) (d : Option Direction) → c ≡ SentCommand.Known (Command.PtMeas p d)
    → may_select csy (Some (tag, c)) ≡ false
touch_quiet csy c tag p d is = ap (λ (x : SentCommand). may_select csy (Some (tag, x))) is

-- no frame is lost
held_last : (cause : Cause) (h : List Entry) → ⊥ ⊎ (last frame_selected h ≡ Some (cause, Some Machine)) → last frame_selected h ≡ Some (cause, Some Machine)
held_last cause h (inl l) = absurd l
held_last cause h (inr e) = e

machine_fits : (s u : Sent) (p : Point) (d : Option Direction) (all : List Entry) → IsLine u (lines all)
    → u.command ≡ SentCommand.Known (Command.PtMeas p d) → IsLast AsksCsy may_select u.above (Some (MachineCsy, s))
    → Fits ⊥ frame_selected (place s) (place u) (Some Machine) all
machine_fits s u p d all iu is last_is =
    let is_line : IsLine s (lines all) = line_through s u (lines all) last_is.0 iu in
    let sent : sent_at (place s) (lines all) ≡ Some (Some (s.tag, SentCommand.Known (Command.SetCoordSystem MachineCsy))) =
    IsLine.sent is_line ∙ ap (λ (c : SentCommand). Some (Some (s.tag, c))) last_is.1 in
    record {
      above = sent_within (place s) (Some (s.tag, s.command)) u.above (IsLine.sent last_is.0);
      no_touch = refl;
      made = λ line what e h k t mark done calm.
          made_sent (place s) line what e all h (Some (s.tag, SentCommand.Known (Command.SetCoordSystem MachineCsy))) k t sent mark done calm;
      in_turn = λ h t may. known_in_turn (place s) all h s.tag (Command.SetCoordSystem MachineCsy) t sent may;
      quiet = λ n effect h t acts lt le e some.
          below_quiet (may_select MachineCsy) (place s) u all iu (touch_quiet MachineCsy u.command u.tag p d is) last_is.2
          n effect h t acts lt le (λ w may. known_selects MachineCsy effect w some
          (subst (λ (f : Option Frame). line_may effect f w ≡ true) (ap (λ x. so x) (held_last (InTurn (place s)) h e)) may));
      loses = λ l tool. absurd l;
      loss = λ effect h acts some. no_frame_lost effect acts some;
    }

-- a part's frame has the zero point of its selection
part_is_at : (at : Point) (z s : Sent) (all : List Entry) → There ⊥ zero_stored (place z) (Some at) (is_selection (place s)) all
    → (before_last (is_selection (place s)) all ≡ None → ⊥) → part_selected (place s) all ≡ Some (Part at)
part_is_at at z s all (never e) some = absurd (some e)
part_is_at at z s all (lost_there l e) some = elim l [ ]
part_is_at at z s all (had h' e f) some = ap (λ x. part_when (there zero_now x)) e ∙ ap (λ x. part_of (so x)) f

end_after : (i : ℕ) (e : Heard) (mk : Option (ℕ × Heard)) (ms : List Heard) → mk ≡ Some (i, e) → progress_with (progress_of ms) e ≡ Some Done
    → list_any is_complete (with_mark i mk ms) ≡ true
end_after i e mk ms is d =
    ap (λ m. list_any is_complete (with_mark i m ms)) is
    ∙ (ap (λ (b : Bool). list_any is_complete (if b then e ∷ ms else ms)) (same_place i)
    ∙ done_ended (e ∷ ms) d)

part_made : (at : Point) (z s : Sent) (line : List ℕ) (what : Option (Tag × Signal)) (e : Heard) (all h : List Entry) → Keeps all
    → IsPast all (Message (Answers line what) ∷ h) → mark_in what (lines h) ≡ Some (place s, e)
    → progress_with (progress_of (marks (place s) (lines h))) e ≡ Some Done
    → There ⊥ zero_stored (place z) (Some at) (is_selection (place s)) all
    → last frame_selected h ≡ Some (InTurn (place s), part_selected (place s) h)
    → last frame_selected h ≡ Some (InTurn (place s), Some (Part at))
part_made at z s line what e all h kept t mark d zero_is_there made =
    let ended : has_ended (place s) (Answers line what ∷ lines h) ≡ true =
    end_after (place s) e (mark_in what (lines h)) (marks (place s) (lines h)) mark d in
    let same : before_last (is_selection (place s)) all ≡ before_last (is_selection (place s)) h =
    selection_stays (place s) all (Message (Answers line what) ∷ h) kept t ended in
    let part : part_selected (place s) all ≡ Some (Part at) =
    part_is_at at z s all zero_is_there (λ none. selected_once (place s) (part_selected (place s) h) h made (sym same ∙ none)) in
    made ∙ (ap (λ x. Some (InTurn (place s), part_when (there zero_now x))) (sym same) ∙ ap (λ x. Some (InTurn (place s), x)) part)

part_fits : (at : Point) (z s u : Sent) (p : Point) (d : Option Direction) (all : List Entry) → Keeps all → IsLine u (lines all)
    → u.command ≡ SentCommand.Known (Command.PtMeas p d) → IsLast AsksCsy may_select u.above (Some (PartCsy, s))
    → There ⊥ zero_stored (place z) (Some at) (is_selection (place s)) all
    → Fits ⊥ frame_selected (place s) (place u) (Some (Part at)) all
part_fits at z s u p d all kept iu is last_is zero_is_there =
    let is_line : IsLine s (lines all) = line_through s u (lines all) last_is.0 iu in
    let sent : sent_at (place s) (lines all) ≡ Some (Some (s.tag, SentCommand.Known (Command.SetCoordSystem PartCsy))) =
    IsLine.sent is_line ∙ ap (λ (c : SentCommand). Some (Some (s.tag, c))) last_is.1 in
    record {
      above = sent_within (place s) (Some (s.tag, s.command)) u.above (IsLine.sent last_is.0);
      no_touch = refl;
      made = λ line what e h k t mark done calm.
          part_made at z s line what e all h kept t mark done zero_is_there
          (made_sent (place s) line what e all h (Some (s.tag, SentCommand.Known (Command.SetCoordSystem PartCsy))) k t sent mark done calm);
      in_turn = λ h t may. known_in_turn (place s) all h s.tag (Command.SetCoordSystem PartCsy) t sent may;
      quiet = λ n effect h t acts lt le e some.
          below_quiet (may_select PartCsy) (place s) u all iu (touch_quiet PartCsy u.command u.tag p d is) last_is.2
          n effect h t acts lt le (λ w may. part_selects effect (frame_now h) w some may);
      loses = λ l tool. absurd l;
      loss = λ effect h acts some. no_frame_lost effect acts some;
    }

-- ---- a contact

abbrev pub IsFrameHad : Option (Tag × Signal) → List Entry → Reported → Type 0
IsFrameHad what h r = (frame : Frame) → contact_frame r ≡ Some frame → HadFrame what h frame

-- in a frame that holds at the end of a touch
frame_had : (frame : Frame) (s u : Sent) (p : Point) (d : Option Direction) (at : Point) (line : List ℕ) (what : Option (Tag × Signal)) (h : List Entry)
    → Keeps (Message (Answers line what) ∷ h) → IsLine u (lines h) → mark_in what (lines h) ≡ Some (place u, Heard.Complete)
    → u.command ≡ SentCommand.Known (Command.PtMeas p d) → stage_of u.command (marks (place u) (lines h)) ≡ Stage.Given (Datum.Point at)
    → IsHeld s u (Answers line what ∷ lines h) → Fits ⊥ frame_selected (place s) (place u) (Some frame) (Message (Answers line what) ∷ h)
    → HadFrame what h frame
frame_had frame s u p d at line what h k iu mark is given held fits =
    go (had_there ⊥ frame_selected (place s) (place u) (Some frame) (is_contact (place u)) (Message (Answers line what) ∷ h)
    (Message (Answers line what) ∷ h) fits (contact_of frame_selected (place u) refl) k whole
    (touch_prompt (Command.PtMeas p d) (place s) (place u) (Message (Answers line what) ∷ h) (IsHeld.order held)
    (ended_sound u p d at line what h mark is given))
    (IsHeld.none held) (IsHeld.calm held) (IsHeld.is_done held))
  where
    go : There ⊥ frame_selected (place s) (Some frame) (is_contact (place u)) (Message (Answers line what) ∷ h) → HadFrame what h frame
    go (never e) = absurd (not_never u p d at line what h k iu mark given e)
    go (lost_there l e) = elim l [ ]
    go (had h' e f) = record { touch = place u; ends = mark; had = ap (there frame_now) e ∙ ap (λ x. Some (so x)) f }

-- ---- what is known of the frame

-- by the coordinate system, and the zero point of a part's
frame_is : (k_csy : Option Csy) (k_part : Option Point) (frame : Frame) → frame_by k_csy k_part ≡ Some frame
    → ((k_csy ≡ Some MachineCsy) × (frame ≡ Machine)) ⊎ ((at : Point) × (k_csy ≡ Some PartCsy) × (k_part ≡ Some at) × (frame ≡ Part at))
frame_is None k_part frame e = absurd (cc)
frame_is (Some MachineCsy) k_part frame e = inl (refl, frame_eq e)
  where
    frame_eq : Some Machine ≡ Some frame → frame ≡ Machine
    frame_eq f = sym (ap (λ (o : Option Frame). frame_or o) f)
      where
        frame_or : Option Frame → Frame
        frame_or None = Machine
        frame_or (Some x) = x
frame_is (Some PartCsy) None frame e = absurd (cc)
frame_is (Some PartCsy) (Some at) frame e = inr (at, refl, refl, sym (ap frame_or e))
  where
    frame_or : Option Frame → Frame
    frame_or None = Machine
    frame_or (Some x) = x

known_frame_had : (frame : Frame) (u : Sent) (p : Point) (d : Option Direction) (at : Point) (line : List ℕ) (what : Option (Tag × Signal)) (h : List Entry)
    → Keeps (Message (Answers line what) ∷ h) → IsLine u (lines h) → mark_in what (lines h) ≡ Some (place u, Heard.Complete)
    → u.command ≡ SentCommand.Known (Command.PtMeas p d) → stage_of u.command (marks (place u) (lines h)) ≡ Stage.Given (Datum.Point at)
    → frame_of (all_for u (Answers line what ∷ lines h)) ≡ Some frame → HadFrame what h frame
known_frame_had frame u p d at line what h k iu mark is given known =
    elim (frame_is (done (may_hold_for u (last_csy u.above) all)) (done (may_hold_for u (last_part u.above) all)) frame known) [
      | inl both ↦ in_machine both.0 both.1
      | inr part ↦ in_part part.0 part.1 part.2 part.3
    ]
  where
    all : List Line
    all = Answers line what ∷ lines h

    in_machine : done (may_hold_for u (last_csy u.above) (Answers line what ∷ lines h)) ≡ Some MachineCsy → frame ≡ Machine → HadFrame what h frame
    in_machine csy f = subst (HadFrame what h) (sym f) (go (held_for MachineCsy u (last_csy u.above) (Answers line what ∷ lines h) csy))
      where
        go : Holds (last_csy u.above) u (Answers line what ∷ lines h) MachineCsy → HadFrame what h Machine
        go held = frame_had Machine held.0 u p d at line what h k iu mark is given held.2
            (machine_fits held.0 u p d (Message (Answers line what) ∷ h) (line_stays u (Answers line what) (lines h) iu) is
            (subst (IsLast AsksCsy may_select u.above) held.1 (csy_is u.above)))

    in_part : (zero_at : Point) → done (may_hold_for u (last_csy u.above) (Answers line what ∷ lines h)) ≡ Some PartCsy
        → done (may_hold_for u (last_part u.above) (Answers line what ∷ lines h)) ≡ Some zero_at → frame ≡ Part zero_at → HadFrame what h frame
    in_part zero_at csy part f = subst (HadFrame what h) (sym f)
        (go (held_for PartCsy u (last_csy u.above) (Answers line what ∷ lines h) csy)
        (held_for zero_at u (last_part u.above) (Answers line what ∷ lines h) part))
      where
        go : Holds (last_csy u.above) u (Answers line what ∷ lines h) PartCsy → Holds (last_part u.above) u (Answers line what ∷ lines h) zero_at
            → HadFrame what h (Part zero_at)
        go held zero =
            let line_u : IsLine u (Answers line what ∷ lines h) = line_stays u (Answers line what) (lines h) iu in
            let csy_last : IsLast AsksCsy may_select u.above (Some (PartCsy, held.0)) = subst (IsLast AsksCsy may_select u.above) held.1 (csy_is u.above) in
            let same : last_zero (held.0).above ≡ Some (zero_at, zero.0) = sym (part_last PartCsy held.0 u.above held.1) ∙ zero.1 in
            let zero_last : IsLast AsksZero may_store (held.0).above (Some (zero_at, zero.0)) =
            subst (IsLast AsksZero may_store (held.0).above) same (zero_is (held.0).above) in
            frame_had (Part zero_at) held.0 u p d at line what h k iu mark is given held.2
            (part_fits zero_at zero.0 held.0 u p d (Message (Answers line what) ∷ h) k line_u is csy_last
            (zero_there zero_at zero.0 held.0 (Message (Answers line what) ∷ h) (line_through held.0 u (Answers line what ∷ lines h) csy_last.0 line_u)
            csy_last.1 zero_last k (IsHeld.none zero.2) (IsHeld.calm zero.2) (IsHeld.is_done zero.2)
            (IsHeld.calm held.2) (IsHeld.is_done held.2)))

frame_named : (what : Option (Tag × Signal)) (h : List Entry) (p : Point) (d : Option Direction) (at : Point) (t : Option (List ℕ)) (f : Option Frame)
    → ((frame : Frame) → f ≡ Some frame → HadFrame what h frame) → IsFrameHad what h (touched t f p d at)
frame_named what h p d at None None has frame e = has frame e
frame_named what h p d at None (Some f) has frame e = has frame e
frame_named what h p d at (Some t) None has frame e = has frame e
frame_named what h p d at (Some t) (Some f) has frame e = has frame e

frame_plain : (what : Option (Tag × Signal)) (h : List Entry) (r : Reported) → IsPlain r → IsFrameHad what h r
frame_plain what h r plain frame e = let it : None ≡ Some frame = sym plain.1 ∙ e in absurd (cc)

pub known_frame : (line : List ℕ) (what : Option (Tag × Signal)) (h : List Entry) → KeepsUnlessCrossed (Message (Answers line what) ∷ h)
    → (i : ℕ) (r : Reported) (frame : Frame) → slice_get (reported_of true line what (lines h)) i ≡ Some r → contact_frame r ≡ Some frame
    → HadFrame what h frame
known_frame line what h k i r frame e named =
    one_of (IsFrameHad what h) (reported_of true line what (lines h)) i r
    (reports_are (IsFrameHad what h) (frame_plain what h) line what (lines h)
    (λ u p d at iu mark is given. frame_named what h p d at _ _ (λ f known.
    known_frame_had f u p d at line what h (k (known_uncrossed frame_of f (is_crossed true (lines h)) (known_for u (Answers line what ∷ lines h)) refl known)) iu mark is given
    (known_all frame_of f (is_crossed true (lines h)) u (Answers line what ∷ lines h) refl known))))
    e frame named
