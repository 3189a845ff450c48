-- The tool that is known of a contact is the one that the machine had.
use Rattle.witness_laws.proofs.Names.{◌∙◌, ◌∷◌, ◌≡◌, [], Answers, ap, Command, Datum, Direction, false≢true, Frame, Heard, is_crossed, is_some}
use Rattle.witness_laws.proofs.Names.{known_for, last_tool, List, mark_in, marks, None, Option, place, Point, refl, Reported, reported_of, Sent}
use Rattle.witness_laws.proofs.Names.{SentCommand, Signal, slice_get, Some, Stage, stage_of, subst, sym, Tag, tool_of, touched, true, ℕ}
use Rattle.witness_laws.specs.Machines.{Effect, TakesTool, SelectsFrame, StoresZero, Touches, Entry, Message, lines, whole, sent_at, tool_taken, so, tool_now}
use Rattle.witness_laws.specs.Machines.{frame_now, is_contact, there}
use Rattle.witness_laws.specs.Premises.{Keeps, KeepsUnlessCrossed, line_may}
use Rattle.witness_laws.specs.Contacts.{contact_tool, HadTool}
use Rattle.witness_laws.proofs.machines.Places.{IsLine, sent_within, line_through, line_stays}
use Rattle.witness_laws.proofs.machines.Changes.{AsksTool, may_take, IsLast, tool_is}
use Rattle.witness_laws.proofs.machines.Holding.{Fits}
use Rattle.witness_laws.proofs.machines.There.{There, never, had, lost_there, had_there}
use Rattle.witness_laws.proofs.machines.Prompt.{touch_prompt}
use Rattle.witness_laws.proofs.machines.Reports.{one_of, IsPlain, reports_are}
use Rattle.witness_laws.proofs.machines.Lasting.{contact_of, known_in_turn, made_sent, below_quiet, not_lost, not_never, ended_sound}
use Rattle.witness_laws.proofs.machines.Held.{IsHeld, Holds, held_for, known_all, known_uncrossed}

-- ---- the tool

known_takes : (effect : Effect) (w : Option (Tag × SentCommand)) → is_some (tool_taken effect) ≡ true → (now : Option Frame)
    → line_may effect now w ≡ true → may_take {A = List ℕ} [] w ≡ true
known_takes (TakesTool tool) None some now may = refl
known_takes (TakesTool tool) (Some (tag, SentCommand.Known c)) some now may = may
known_takes (TakesTool tool) (Some (tag, SentCommand.Asking)) some now may = may
known_takes (TakesTool tool) (Some (tag, SentCommand.Foreign line)) some now may = refl
known_takes (SelectsFrame frame) w some now may = absurd (false≢true some)
known_takes (StoresZero point) w some now may = absurd (false≢true some)
known_takes Touches w some now may = absurd (false≢true some)

tool_fits : (tool : List ℕ) (s u : Sent) (p : Point) (d : Option Direction) (all : List Entry) → IsLine u (lines all)
    → u.command ≡ SentCommand.Known (Command.PtMeas p d) → IsLast AsksTool may_take u.above (Some (tool, s))
    → Fits (Unit {0}) tool_taken (place s) (place u) (Some tool) all
tool_fits tool s u p d all iu is last_is =
    let is_line : IsLine s (lines all) = line_through s u (lines all) last_is.0 iu in
    let sent : sent_at (place s) (lines all) ≡ Some (Some (s.tag, SentCommand.Known (Command.ChangeTool tool))) =
    IsLine.sent is_line ∙ ap (λ (c : SentCommand). Some (Some (s.tag, c))) last_is.1 in
    record {
      above = sent_within (place s) (Some (s.tag, s.command)) u.above (IsLine.sent last_is.0);
      no_touch = refl;
      made = λ line what e h k t mark done clear.
          made_sent (place s) line what e all h (Some (s.tag, SentCommand.Known (Command.ChangeTool tool))) k t sent mark done clear;
      in_turn = λ h t may. known_in_turn (place s) all h s.tag (Command.ChangeTool tool) t sent may;
      quiet = λ n effect h t acts lt le e some.
          below_quiet (may_take {A = List ℕ} []) (place s) u all iu (ap (λ (c : SentCommand). may_take {A = List ℕ} [] (Some (u.tag, c))) is) last_is.2
          n effect h t acts lt le (λ w may. known_takes effect w some (frame_now h) may);
      loses = λ l tool. refl;
      loss = λ effect h acts some. tt;
    }

-- ---- a contact

abbrev pub IsToolHad : Option (Tag × Signal) → List Entry → Reported → Type 0
IsToolHad what h r = (tool : List ℕ) → contact_tool r ≡ Some tool → HadTool what h tool

tool_had : (tool : List ℕ) (u : Sent) (p : Point) (d : Option Direction) (at : Point) (line : List ℕ) (what : Option (Tag × Signal)) (h : List Entry)
    → Keeps (Message (Answers line what) ∷ h) → IsLine u (lines h) → mark_in what (lines h) ≡ Some (place u, Heard.Complete)
    → u.command ≡ SentCommand.Known (Command.PtMeas p d) → stage_of u.command (marks (place u) (lines h)) ≡ Stage.Given (Datum.Point at)
    → Holds (last_tool u.above) u (Answers line what ∷ lines h) tool → HadTool what h tool
tool_had tool u p d at line what h k iu mark is given held = go the_there
  where
    all : List Entry
    all = Message (Answers line what) ∷ h

    s : Sent
    s = held.0

    the_there : There (Unit {0}) tool_taken (place s) (Some tool) (is_contact (place u)) all
    the_there = had_there (Unit {0}) tool_taken (place s) (place u) (Some tool) (is_contact (place u)) all all
        (tool_fits tool s u p d all (line_stays u (Answers line what) (lines h) iu) is
        (subst (IsLast AsksTool may_take u.above) held.1 (tool_is u.above)))
        (contact_of tool_taken (place u) refl) k whole
        (touch_prompt (Command.PtMeas p d) (place s) (place u) all (IsHeld.order held.2) (ended_sound u p d at line what h mark is given))
        (IsHeld.none held.2) (IsHeld.calm held.2) (IsHeld.is_done held.2)

    go : There (Unit {0}) tool_taken (place s) (Some tool) (is_contact (place u)) all → HadTool what h tool
    go (never e) = absurd (not_never u p d at line what h k iu mark given e)
    go (lost_there l e) = absurd (not_lost (place u) line what h k mark e)
    go (had h' e f) = record { touch = place u; ends = mark; had = ap (there tool_now) e ∙ ap (λ x. Some (so x)) f }

tool_named : (what : Option (Tag × Signal)) (h : List Entry) (p : Point) (d : Option Direction) (at : Point) (t : Option (List ℕ)) (f : Option Frame)
    → ((tool : List ℕ) → t ≡ Some tool → HadTool what h tool) → IsToolHad what h (touched t f p d at)
tool_named what h p d at None None has tool e = has tool e
tool_named what h p d at None (Some f) has tool e = has tool e
tool_named what h p d at (Some t) None has tool e = has tool e
tool_named what h p d at (Some t) (Some f) has tool e = has tool e

tool_plain : (what : Option (Tag × Signal)) (h : List Entry) (r : Reported) → IsPlain r → IsToolHad what h r
tool_plain what h r plain tool e = let it : None ≡ Some tool = sym plain.0 ∙ e in absurd (cc)

pub known_tool : (line : List ℕ) (what : Option (Tag × Signal)) (h : List Entry) → KeepsUnlessCrossed (Message (Answers line what) ∷ h)
    → (i : ℕ) (r : Reported) (tool : List ℕ) → slice_get (reported_of true line what (lines h)) i ≡ Some r → contact_tool r ≡ Some tool
    → HadTool what h tool
known_tool line what h k i r tool e named =
    one_of (IsToolHad what h) (reported_of true line what (lines h)) i r
    (reports_are (IsToolHad what h) (tool_plain what h) line what (lines h)
    (λ u p d at iu mark is given. tool_named what h p d at _ _ (λ t known.
    tool_had t u p d at line what h (k (known_uncrossed tool_of t (is_crossed true (lines h)) (known_for u (Answers line what ∷ lines h)) refl known)) iu mark is given
    (held_for t u (last_tool u.above) (Answers line what ∷ lines h)
    (known_all tool_of t (is_crossed true (lines h)) u (Answers line what ∷ lines h) refl known)))))
    e tool named
