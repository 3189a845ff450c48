-- What a line of the server reports: no contact, or that of a touch which it ends.
use Rattle.witness_laws.proofs.Names.{◌++◌, ◌∙◌, ◌∷◌, ◌≡◌, [], act_of, Answers, ap, asks_data, Bool, Breaks, by_answer, by_owner, Comes, comes_early}
use Rattle.witness_laws.proofs.Names.{Command, Datum, Direction, done, early, Event, events_of, Fails, false, first_of, for_line, Frame, frame_in}
use Rattle.witness_laws.proofs.Names.{frame_of, framed, Heard, heard_as, is_crossed, is_report, kind_of, Known, known_for, line_at, List, mark_in}
use Rattle.witness_laws.proofs.Names.{marks, moved, None, open_lines, Option, other_at, owner, place, Point, refl, report_of, Reported, reported_by}
use Rattle.witness_laws.proofs.Names.{reported_of, Sent, SentCommand, Signal, slice_get, Some, Stage, stage_of, Stays, Std, Step, step, subst, suc}
use Rattle.witness_laws.proofs.Names.{Tag, tool_of, touched, true, unless_crossed, unless_report, zero, ℕ}
use Rattle.witness.specs.Asking.{Line}
use Rattle.witness.specs.declared.lines.Step.TheVariants.{Counts}
use Rattle.witness_laws.specs.Contacts.{contact_tool, contact_frame}
use Rattle.witness_laws.proofs.machines.Places.{IsLine, IsSomeLine, owner_is}

abbrev pub AllOf : (Reported → Type 0) → List Reported → Type 0
AllOf P [] = Unit {0}
AllOf P (r ∷ rs) = P r × AllOf P rs

pub one_of : (P : Reported → Type 0) (rs : List Reported) (i : ℕ) (r : Reported) → AllOf P rs → slice_get rs i ≡ Some r → P r
one_of P [] i r all e = absurd (cc)
one_of P (x ∷ rs) zero r all e = subst P (ap some_of e) all.0
  where
    some_of : Option Reported → Reported
    some_of None = x
    some_of (Some y) = y
one_of P (x ∷ rs) (suc i) r all e = one_of P rs i r all.1 e

both_of : (P : Reported → Type 0) (rs others : List Reported) → AllOf P rs → AllOf P others → AllOf P (rs ++ others)
both_of P [] others all more = more
both_of P (r ∷ rs) others all more = (all.0, both_of P rs others all.1 more)

-- no contact with a tool or in a frame that is known
abbrev pub IsPlain : Reported → Type 0
IsPlain r = (contact_tool r ≡ None) × (contact_frame r ≡ None)

abbrev Plain : (Reported → Type 0) → Type 0
Plain P = (r : Reported) → IsPlain r → P r

-- ---- a command that counts

moved_is : (P : Reported → Type 0) → Plain P → (p : Point) (f : Option Frame) → P (moved p f)
moved_is P plain p None = plain (moved p None) (refl, refl)
moved_is P plain p (Some frame) = plain (moved p (Some frame)) (refl, refl)

framed_is : (P : Reported → Type 0) → Plain P → (f : Option Frame) → P (framed f)
framed_is P plain None = plain (framed None) (refl, refl)
framed_is P plain (Some frame) = plain (framed (Some frame)) (refl, refl)

homed_are : (P : Reported → Type 0) → Plain P → (k : Known) (given : Option Datum) → AllOf P (act_of k Command.IsHomed given)
homed_are P plain k None = tt
homed_are P plain k (Some (Datum.Point p)) = tt
homed_are P plain k (Some (Datum.Homed homed)) = (plain _ (refl, refl), tt)

-- a touch, and its point
abbrev pub OnTouch : (Reported → Type 0) → Known → Command → Option Datum → Type 0
OnTouch P k c given = (p : Point) (d : Option Direction) (at : Point) → c ≡ Command.PtMeas p d → given ≡ Some (Datum.Point at)
    → P (touched (tool_of k) (frame_of k) p d at)

touch_are : (P : Reported → Type 0) (k : Known) (p : Point) (d : Option Direction) (given : Option Datum) → OnTouch P k (Command.PtMeas p d) given
    → AllOf P (act_of k (Command.PtMeas p d) given)
touch_are P k p d None on = tt
touch_are P k p d (Some (Datum.Homed homed)) on = tt
touch_are P k p d (Some (Datum.Point at)) on = (on p d at refl refl, tt)

acts_are : (P : Reported → Type 0) → Plain P → (k : Known) (c : Command) (given : Option Datum) → OnTouch P k c given → AllOf P (act_of k c given)
acts_are P plain k Command.IsHomed given on = homed_are P plain k given
acts_are P plain k Command.Home given on = (plain _ (refl, refl), tt)
acts_are P plain k (Command.GoTo p) given on = (moved_is P plain p (frame_of k), tt)
acts_are P plain k (Command.PtMeas p d) given on = touch_are P k p d given on
acts_are P plain k (Command.ChangeTool tool) given on = (plain _ (refl, refl), tt)
acts_are P plain k (Command.SetCoordSystem csy) given on = (framed_is P plain (frame_in csy (done k.zero)), tt)
acts_are P plain k c given on = tt

step_are : (P : Reported → Type 0) → Plain P → (k : Known) (tag : Tag) (c : Command) (st : Step)
    → ((given : Option Datum) → st ≡ Counts given → OnTouch P k c given) → AllOf P (report_of k tag c st)
step_are P plain k tag c Stays on = tt
step_are P plain k tag c (Comes s) on = tt
step_are P plain k tag c Fails on = tt
step_are P plain k tag c (Breaks rule) on = (plain _ (refl, refl), tt)
step_are P plain k tag c (Counts given) on = acts_are P plain k c given (on given refl)

-- ---- a mark of a line

-- it counts a point only as the end of what was given one
counts_point : (asks : Bool) (s : Stage) (e : Heard) (at : Point) → step asks s e ≡ Counts (Some (Datum.Point at))
    → (s ≡ Stage.Given (Datum.Point at)) × (e ≡ Heard.Complete)
counts_point asks Stage.Lost e at is = absurd (cc)
counts_point asks Stage.Sent Heard.Received at is = absurd (cc)
counts_point asks Stage.Sent (Heard.Given d) at is = absurd (cc)
counts_point asks Stage.Sent Heard.Unread at is = absurd (cc)
counts_point asks Stage.Sent Heard.Complete at is = absurd (cc)
counts_point asks Stage.Sent Heard.Failed at is = absurd (cc)
counts_point asks Stage.Received Heard.Received at is = absurd (cc)
counts_point asks Stage.Received (Heard.Given d) at is = absurd (cc)
counts_point asks Stage.Received Heard.Unread at is = absurd (cc)
counts_point true Stage.Received Heard.Complete at is = absurd (cc)
counts_point false Stage.Received Heard.Complete at is = absurd (cc)
counts_point asks Stage.Received Heard.Failed at is = absurd (cc)
counts_point asks (Stage.Given g) Heard.Received at is = absurd (cc)
counts_point asks (Stage.Given g) (Heard.Given d) at is = absurd (cc)
counts_point asks (Stage.Given g) Heard.Unread at is = absurd (cc)
counts_point asks (Stage.Given g) Heard.Complete at is = (ap given_of is, refl)
  where
    given_of : Step → Stage
    given_of (Counts (Some d)) = Stage.Given d
    given_of _ = Stage.Given g
counts_point asks (Stage.Given g) Heard.Failed at is = absurd (cc)

other_are : (P : Reported → Type 0) → Plain P → (tag : Tag) (line : List ℕ) (s : Stage) → AllOf P (other_at tag line s)
other_are P plain (Std n) line Stage.Sent = (plain _ (refl, refl), tt)
other_are P plain (Std n) line Stage.Received = tt
other_are P plain (Std n) line (Stage.Given d) = tt
other_are P plain (Std n) line Stage.Lost = tt
other_are P plain (Event n) line s = tt

-- the end of a touch that was given its point
abbrev pub OnEnd : (Reported → Type 0) → Known → SentCommand → Stage → Heard → Type 0
OnEnd P k what s e = (p : Point) (d : Option Direction) (at : Point) → what ≡ SentCommand.Known (Command.PtMeas p d) → s ≡ Stage.Given (Datum.Point at)
    → e ≡ Heard.Complete → P (touched (tool_of k) (frame_of k) p d at)

marks_are : (P : Reported → Type 0) → Plain P → (k : Known) (tag : Tag) (what : SentCommand) (s : Stage) (e : Heard) → OnEnd P k what s e
    → AllOf P (reported_by k tag what s e)
marks_are P plain k tag SentCommand.Asking s e on = tt
marks_are P plain k tag (SentCommand.Foreign line) s e on = other_are P plain tag line s
marks_are P plain k tag (SentCommand.Known c) s e on =
    step_are P plain k tag c (step (asks_data (kind_of c)) s e)
    (λ given counts p d at is point.
    let both : (s ≡ Stage.Given (Datum.Point at)) × (e ≡ Heard.Complete) =
    counts_point (asks_data (kind_of c)) s e at (counts ∙ ap Counts point) in
    on p d at (ap SentCommand.Known is) both.0 both.1)

-- ---- a line of the server

abbrev pub known_at : List ℕ → Option (Tag × Signal) → List Line → Sent → Known
known_at line what older u = unless_crossed (is_crossed true older) (known_for u (Answers line what ∷ older))

abbrev pub OnContact : (Reported → Type 0) → List ℕ → Option (Tag × Signal) → List Line → Type 0
OnContact P line what older = (u : Sent) (p : Point) (d : Option Direction) (at : Point) → IsLine u older
    → mark_in what older ≡ Some (place u, Heard.Complete) → u.command ≡ SentCommand.Known (Command.PtMeas p d)
    → stage_of u.command (marks (place u) older) ≡ Stage.Given (Datum.Point at)
    → P (touched (tool_of (known_at line what older u)) (frame_of (known_at line what older u)) p d at)

early_are : (P : Reported → Type 0) → Plain P → (b : Bool) (tag : Tag) → AllOf P (early b tag)
early_are P plain true tag = (plain _ (refl, refl), tt)
early_are P plain false tag = tt

unasked_are : (P : Reported → Type 0) → Plain P → (line : List ℕ) (b : Bool) → AllOf P (unless_report line b)
unasked_are P plain line true = tt
unasked_are P plain line false = (plain _ (refl, refl), tt)

owned_are : (P : Reported → Type 0) → Plain P → (line : List ℕ) (tag : Tag) (signal : Signal) (older : List Line) (at : ℕ) (o : Option Sent)
    → owner tag older ≡ o → OnContact P line (Some (tag, signal)) older
    → AllOf P (by_owner true (Answers line (Some (tag, signal))) older signal at o)
owned_are P plain line tag signal older at None is on = tt
owned_are P plain line tag signal older at (Some s) is on =
    both_of P (early (comes_early older at s (heard_as s.command signal)) s.tag) _
    (early_are P plain (comes_early older at s (heard_as s.command signal)) s.tag)
    (marks_are P plain (known_at line (Some (tag, signal)) older s) s.tag s.command (stage_of s.command (marks (place s) older))
    (heard_as s.command signal)
    (λ p d point c given ends. on s p d point (subst (IsSomeLine older) is (owner_is tag older))
    (ap (for_line signal) is ∙ ap (λ e. Some (place s, e)) ends) c given))

answers_are : (P : Reported → Type 0) → Plain P → (line : List ℕ) (tag : Tag) (signal : Signal) (older : List Line) (o : Option ℕ)
    → first_of tag (open_lines older) ≡ o → OnContact P line (Some (tag, signal)) older → AllOf P (by_answer true line tag signal older o)
answers_are P plain line tag signal older None is on = unasked_are P plain line (is_report tag signal (events_of older))
answers_are P plain line tag signal older (Some at) is on =
    owned_are P plain line tag signal older at (slice_get (open_lines older) at) (ap (line_at (open_lines older)) is) on

pub reports_are : (P : Reported → Type 0) → Plain P → (line : List ℕ) (what : Option (Tag × Signal)) (older : List Line)
    → OnContact P line what older → AllOf P (reported_of true line what older)
reports_are P plain line None older on = (plain _ (refl, refl), tt)
reports_are P plain line (Some (tag, signal)) older on =
    answers_are P plain line tag signal older (first_of tag (open_lines older)) refl on
