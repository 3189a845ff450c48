-- Which act each call of a server completes.
use Rattle.server_core.proofs.Names.{[], ◌&&◌, ◌++◌, ◌∙◌, ◌∷◌, ◌≡◌, Accept, acts_at_once, AllByRecursion, and_parts, Answer, ap, behind_call, Bool}
use Rattle.server_core.proofs.Names.{Call, carried, carried_out, checks, Command, command_in, completes_act, cond, contacts, Deed, deed_at_once}
use Rattle.server_core.proofs.Names.{deed_of, Direction, done_by, done_deed, end_deed, Err, false, false≢true, Feed, finished, first_failing, is_none}
use Rattle.server_core.proofs.Names.{is_some, IsCommanded, IsContactOf, IsDone, IsSteady, Leave, Line, List, Machine, machined, MadeContact, may_end}
use Rattle.server_core.proofs.Names.{may_turn, Misread, None, not, offset, Ok, ok_of, Option, Outcome, Point, point_sum, possible, ReadOne, refl}
use Rattle.server_core.proofs.Names.{refusal, refusal_in, Reply, reply_bytes, Restart, Result, Sent, Server, server_machined, server_turned}
use Rattle.server_core.proofs.Names.{ServerEnd, serving_accepted, serving_fed, serving_left, serving_machined, serving_restarted, serving_taken}
use Rattle.server_core.proofs.Names.{serving_turned, Some, subst, sym, Tag, taken, touch_deed, touched, true, Turn, turn_deed, turned_to, Waiting}
use Rattle.server_core.proofs.Names.{with_answer, ℕ}
use Rattle.fixed_um.specs.declared.frames.Frame.{Frame}
use Rattle.protocol_model.specs.Server.{in_volume}
use Rattle.server_core.proofs.Ledgers.{read_keeps}
use Rattle.server_core.proofs.Contacts.{not_longer, turned_no_contact, machined_as_commanded}
use Rattle.server_core.proofs.Steadies.{nothing_runs}

pub chosen : (P : ServerEnd → Type 0) (b : Bool) (x y : ServerEnd) → (b ≡ true → P x) → (b ≡ false → P y) → P (cond b x y)
chosen P true x y p q = p refl
chosen P false x y p q = q refl

-- ---- one act or none

-- a deed is done by an answer
record IsAnswered (deed : Deed) (s : Server) (a : Answer) : Type 0 where
  ledger : a.server.ledger ≡ s.ledger ++ (s.last, deed.act) ∷ []
  said : a.said ≡ deed.lines ++ Reply.Done deed.tag ∷ []
  idle : a.server.running ≡ None

abbrev DoneBy : Option Deed → Server → Answer → Type 0
DoneBy None s a = a.server.ledger ≡ s.ledger
DoneBy (Some deed) s a = IsAnswered deed s a

with_bytes : (deed : Option Deed) (e : ServerEnd) (a : Answer) → DoneBy deed e.server a → IsDone deed e (with_answer e e.input a)
with_bytes None e a h = h
with_bytes (Some deed) e a h = record {
  ledger = h.ledger;
  said = ap (λ (said : List Reply). e.out ++ reply_bytes said) h.said;
  idle = h.idle;
}

carried_done : (s : Server) (ws : List Waiting) (t : Tag) (c : Command) → s.running ≡ None
    → DoneBy (deed_at_once s t (Some c)) s (carried_out (record s { waiting = ws }) t c)
carried_done s ws t Command.StartSession idle = refl
carried_done s ws t Command.EndSession idle = refl
carried_done s ws t Command.ClearAllErrors idle = refl
carried_done s ws t Command.IsHomed idle = record { ledger = refl; said = refl; idle = idle }
carried_done s ws t Command.Home idle = refl
carried_done s ws t Command.OnPtMeasReport idle = refl
carried_done s ws t (Command.GoTo p) idle = refl
carried_done s ws t (Command.PtMeas p d) idle = refl
carried_done s ws t (Command.ChangeTool n) idle = refl
carried_done s ws t (Command.SetCsyTransformation p) idle = refl
carried_done s ws t (Command.SetCoordSystem system) idle = record { ledger = refl; said = refl; idle = idle }
carried_done s ws t Command.AbortE idle = refl

taken_done : (s : Server) (w : Waiting) (ws : List Waiting) (number : Option ℕ) → s.running ≡ None
    → DoneBy (cond (is_none number) (deed_at_once s w.tag (ok_of w.reading)) None) s (taken s w ws number)
taken_done s w ws (Some number) idle = refl
taken_done s w ws None idle = go w.reading
  where
    go : (reading : Result Command Misread) → DoneBy (deed_at_once s w.tag (ok_of reading)) s
        (carried (record s { waiting = ws }) w.tag reading)
    go (Ok c) = carried_done s ws w.tag c idle
    go (Err refused) = refl

turned_done : (s : Server) (ws : List Waiting) → s.running ≡ None → DoneBy (turn_deed s ws) s (turned_to s ws)
turned_done s [] idle = refl
turned_done s (w ∷ ws) idle = taken_done s w ws (refusal s w.reading) idle

turn_done : (e : ServerEnd) (may : Bool) → may_turn e.server ≡ may
    → IsDone (cond may (turn_deed e.server e.server.waiting) None) e (cond may (serving_turned e) e)
turn_done e true is =
    with_bytes (turn_deed e.server e.server.waiting) e (server_turned e.server)
    (turned_done e.server e.server.waiting (nothing_runs e.server.running ((and_parts _ _ is).0)))
turn_done e false is = refl

finished_done : (s : Server) (t : Tag) (c : Command) → DoneBy (done_deed s t c) s (finished s t c)
finished_done s t Command.StartSession = refl
finished_done s t Command.EndSession = refl
finished_done s t Command.ClearAllErrors = refl
finished_done s t Command.IsHomed = refl
finished_done s t Command.Home = record { ledger = refl; said = refl; idle = refl }
finished_done s t Command.OnPtMeasReport = refl
finished_done s t (Command.GoTo p) = record { ledger = refl; said = refl; idle = refl }
finished_done s t (Command.PtMeas p d) = refl
finished_done s t (Command.ChangeTool n) = record { ledger = refl; said = refl; idle = refl }
finished_done s t (Command.SetCsyTransformation p) = refl
finished_done s t (Command.SetCoordSystem system) = refl
finished_done s t Command.AbortE = refl

touched_done : (s : Server) (t : Tag) (c : Command) (at : Point) (tool : Option (List ℕ))
    → DoneBy (touch_deed s t c at tool) s (touched s t c at tool)
touched_done s t Command.StartSession at tool = refl
touched_done s t Command.EndSession at tool = refl
touched_done s t Command.ClearAllErrors at tool = refl
touched_done s t Command.IsHomed at tool = refl
touched_done s t Command.Home at tool = refl
touched_done s t Command.OnPtMeasReport at tool = refl
touched_done s t (Command.GoTo p) at tool = refl
touched_done s t (Command.PtMeas p d) at (Some n) = record { ledger = refl; said = refl; idle = refl }
touched_done s t (Command.PtMeas p d) at None = refl
touched_done s t (Command.ChangeTool n) at tool = refl
touched_done s t (Command.SetCsyTransformation p) at tool = refl
touched_done s t (Command.SetCoordSystem system) at tool = refl
touched_done s t Command.AbortE at tool = refl

machined_done : (s : Server) (ended : Outcome) (running : Option Line) → DoneBy (end_deed s ended running) s (machined s ended running)
machined_done s Outcome.Done None = refl
machined_done s (Outcome.Touched at) None = refl
machined_done s Outcome.Missed None = refl
machined_done s Outcome.Fault None = refl
machined_done s Outcome.Done (Some line) = finished_done s line.tag line.command
machined_done s (Outcome.Touched at) (Some line) = touched_done s line.tag line.command at s.tool
machined_done s Outcome.Missed (Some line) = refl
machined_done s Outcome.Fault (Some line) = refl

machine_done : (e : ServerEnd) (ended : Outcome) (may : Bool)
    → IsDone (cond may (end_deed e.server ended e.server.running) None) e (cond may (serving_machined ended e) e)
machine_done e ended true =
    with_bytes (end_deed e.server ended e.server.running) e (server_machined e.server ended) (machined_done e.server ended e.server.running)
machine_done e ended false = refl

pub call_done : (call : Call) (e : ServerEnd) → IsDone (deed_of call e) e (behind_call call e)
call_done (Accept n) e = chosen (λ (f : ServerEnd). f.server.ledger ≡ e.server.ledger) (possible (Accept n) e) _ _ (λ b. refl)
    (λ b. refl)
call_done (Feed bytes) e = chosen (λ (f : ServerEnd). f.server.ledger ≡ e.server.ledger) (possible (Feed bytes) e) _ _ (λ b. refl)
    (λ b. refl)
call_done ReadOne e = chosen (λ (f : ServerEnd). f.server.ledger ≡ e.server.ledger) (possible ReadOne e) _ _
    (λ b. read_keeps e) (λ b. refl)
call_done Turn e = turn_done e (may_turn e.server) refl
call_done (Machine ended) e = machine_done e ended (may_end e.server.running ended)
call_done Leave e = refl
call_done Restart e = refl
call_done (Sent count) e = chosen (λ (f : ServerEnd). f.server.ledger ≡ e.server.ledger) (possible (Sent count) e) _ _ (λ b. refl)
    (λ b. refl)

-- ---- which calls

some_none : (n : ℕ) → Some n ≡ None → ⊥
some_none n e = cc

-- no check fails
all_pass : (tests : List (Bool × ℕ)) → first_failing tests ≡ None → AllByRecursion (λ (test : Bool × ℕ). test.0 ≡ false) tests
all_pass [] e = tt
all_pass ((true, n) ∷ tests) e = absurd (some_none n e)
all_pass ((false, n) ∷ tests) e = (refl, all_pass tests e)

-- a command that passes the checks: a touch has its tool, and its target is in the volume
record Passes (s : Server) (p : Point) (d : Option Direction) : Type 0 where
  tool : is_none s.tool ≡ false
  target : not (in_volume (point_sum p (offset s.frame))) ≡ false

touch_passes : (s : Server) (p : Point) (d : Option Direction) → first_failing (checks s (Command.PtMeas p d)) ≡ None → Passes s p d
touch_passes s p d e =
    let passed : AllByRecursion (λ (test : Bool × ℕ). test.0 ≡ false) (checks s (Command.PtMeas p d)) =
    all_pass (checks s (Command.PtMeas p d)) e in
    record { tool = passed.1.1.1.1.0; target = passed.1.1.1.1.1.0 }

not_false : (b : Bool) → not b ≡ false → b ≡ true
not_false true e = refl
not_false false e = absurd (false≢true (sym e))

at_once_due : (s : Server) (t : Tag) (c : Option Command) → is_some (deed_at_once s t c) ≡ acts_at_once c
at_once_due s t None = refl
at_once_due s t (Some Command.StartSession) = refl
at_once_due s t (Some Command.EndSession) = refl
at_once_due s t (Some Command.ClearAllErrors) = refl
at_once_due s t (Some Command.IsHomed) = refl
at_once_due s t (Some Command.Home) = refl
at_once_due s t (Some Command.OnPtMeasReport) = refl
at_once_due s t (Some (Command.GoTo p)) = refl
at_once_due s t (Some (Command.PtMeas p d)) = refl
at_once_due s t (Some (Command.ChangeTool n)) = refl
at_once_due s t (Some (Command.SetCsyTransformation p)) = refl
at_once_due s t (Some (Command.SetCoordSystem system)) = refl
at_once_due s t (Some Command.AbortE) = refl

taken_due : (s : Server) (t : Tag) (c : Option Command) (number : Option ℕ)
    → is_some (cond (is_none number) (deed_at_once s t c) None) ≡ (is_none number && acts_at_once c)
taken_due s t c (Some number) = refl
taken_due s t c None = at_once_due s t c

waiting_due : (s : Server) (ws : List Waiting) → is_some (turn_deed s ws) ≡ (is_none (refusal_in s ws) && acts_at_once (command_in ws))
waiting_due s [] = refl
waiting_due s (w ∷ ws) = taken_due s w.tag (ok_of w.reading) (refusal s w.reading)

turn_due : (s : Server) (may : Bool) → is_some (cond may (turn_deed s s.waiting) None)
    ≡ (may && (is_none (refusal_in s s.waiting) && acts_at_once (command_in s.waiting)))
turn_due s true = waiting_due s s.waiting
turn_due s false = refl

done_due : (s : Server) (running : Option Line)
    → is_some (cond (may_end running Outcome.Done) (end_deed s Outcome.Done running) None) ≡ may_end running Outcome.Done
done_due s None = refl
done_due s (Some line) = go line.command
  where
    go : (c : Command) → is_some (cond (may_end (Some (record { tag = line.tag; command = c })) Outcome.Done) (done_deed s line.tag c) None)
        ≡ may_end (Some (record { tag = line.tag; command = c })) Outcome.Done
    go Command.StartSession = refl
    go Command.EndSession = refl
    go Command.ClearAllErrors = refl
    go Command.IsHomed = refl
    go Command.Home = refl
    go Command.OnPtMeasReport = refl
    go (Command.GoTo p) = refl
    go (Command.PtMeas p d) = refl
    go (Command.ChangeTool n) = refl
    go (Command.SetCsyTransformation p) = refl
    go (Command.SetCoordSystem system) = refl
    go Command.AbortE = refl

touched_due : (s : Server) (t : Tag) (p : Point) (d : Option Direction) (at : Point) (may : Bool) (tool : Option (List ℕ))
    → is_none tool ≡ false
    → is_some (cond may (touch_deed s t (Command.PtMeas p d) at tool) None) ≡ may
touched_due s t p d at true (Some tool) has = refl
touched_due s t p d at false tool has = refl
touched_due s t p d at true None has = absurd (false≢true (sym has))

touch_due : (s : Server) (at : Point) (running : Option Line)
    → ((line : Line) → running ≡ Some line → first_failing (checks s line.command) ≡ None)
    → is_some (cond (may_end running (Outcome.Touched at)) (end_deed s (Outcome.Touched at) running) None)
    ≡ may_end running (Outcome.Touched at)
touch_due s at None passed = refl
touch_due s at (Some line) passed = go line.command (passed line refl)
  where
    go : (c : Command) → first_failing (checks s c) ≡ None
        → is_some (cond (may_end (Some (record { tag = line.tag; command = c })) (Outcome.Touched at)) (touch_deed s line.tag c at s.tool)
        None)
        ≡ may_end (Some (record { tag = line.tag; command = c })) (Outcome.Touched at)
    go Command.StartSession e = refl
    go Command.EndSession e = refl
    go Command.ClearAllErrors e = refl
    go Command.IsHomed e = refl
    go Command.Home e = refl
    go Command.OnPtMeasReport e = refl
    go (Command.GoTo p) e = refl
    go (Command.PtMeas p d) e = touched_due s line.tag p d at (in_volume at) s.tool (touch_passes s p d e).tool
    go (Command.ChangeTool n) e = refl
    go (Command.SetCsyTransformation p) e = refl
    go (Command.SetCoordSystem system) e = refl
    go Command.AbortE e = refl

never_due : (may : Bool) (deed : Option Deed) → deed ≡ None → is_some (cond may deed None) ≡ false
never_due true deed none = ap is_some none
never_due false deed none = refl

pub act_due : (call : Call) (e : ServerEnd) → IsSteady e → is_some (deed_of call e) ≡ completes_act call e
act_due (Accept n) e h = refl
act_due (Feed bytes) e h = refl
act_due ReadOne e h = refl
act_due Turn e h = turn_due e.server (may_turn e.server)
act_due (Machine Outcome.Done) e h = done_due e.server e.server.running
act_due (Machine (Outcome.Touched at)) e h = touch_due e.server at e.server.running (λ line runs. (h.orderly.running line runs).1)
act_due (Machine Outcome.Missed) e h = never_due (may_end e.server.running Outcome.Missed) _ refl
act_due (Machine Outcome.Fault) e h = never_due (may_end e.server.running Outcome.Fault) _ refl
act_due Leave e h = refl
act_due Restart e h = refl
act_due (Sent count) e h = refl

-- ---- contacts

same_contacts : (e f : ServerEnd) (made : MadeContact) → contacts f.server.ledger ≡ contacts e.server.ledger
    → contacts f.server.ledger ≡ contacts e.server.ledger ++ made ∷ [] → ⊥
same_contacts e f made same longer = not_longer (contacts e.server.ledger) made (sym same ∙ longer)

no_contact : (e f : ServerEnd) (call : Call) (made : MadeContact) → contacts f.server.ledger ≡ contacts e.server.ledger
    → contacts f.server.ledger ≡ contacts e.server.ledger ++ made ∷ [] → IsContactOf e call made
no_contact e f call made same longer = absurd (same_contacts e f made same longer)

target_in_volume : (e : ServerEnd) (ended : Outcome) (made : MadeContact) → IsSteady e → IsCommanded e ended made
    → in_volume (point_sum made.target (offset made.frame)) ≡ true
target_in_volume e ended made h commanded =
    subst (λ (frame : Frame). in_volume (point_sum made.target (offset frame)) ≡ true) (sym commanded.frame)
    (not_false _ (touch_passes e.server made.target made.dir (h.orderly.running _ commanded.ran).1).target)

pub contact_of_call : (call : Call) (e : ServerEnd) (made : MadeContact) → IsSteady e
    → contacts (behind_call call e).server.ledger ≡ contacts e.server.ledger ++ made ∷ [] → IsContactOf e call made
contact_of_call (Accept n) e made h =
    chosen (λ (f : ServerEnd). contacts f.server.ledger ≡ contacts e.server.ledger ++ made ∷ []
    → IsContactOf e (Accept n) made) (possible (Accept n) e) (serving_accepted n e) e
    (λ b. no_contact e (serving_accepted n e) (Accept n) made refl) (λ b. no_contact e e (Accept n) made refl)
contact_of_call (Feed bytes) e made h =
    chosen (λ (f : ServerEnd). contacts f.server.ledger ≡ contacts e.server.ledger ++ made ∷ []
    → IsContactOf e (Feed bytes) made) (possible (Feed bytes) e) (serving_fed bytes e) e
    (λ b. no_contact e (serving_fed bytes e) (Feed bytes) made refl) (λ b. no_contact e e (Feed bytes) made refl)
contact_of_call ReadOne e made h =
    chosen (λ (f : ServerEnd). contacts f.server.ledger ≡ contacts e.server.ledger ++ made ∷ []
    → IsContactOf e ReadOne made) (possible ReadOne e) (done_by ReadOne e) e
    (λ b. no_contact e (done_by ReadOne e) ReadOne made (ap contacts (read_keeps e)))
    (λ b. no_contact e e ReadOne made refl)
contact_of_call Turn e made h =
    chosen (λ (f : ServerEnd). contacts f.server.ledger ≡ contacts e.server.ledger ++ made ∷ []
    → IsContactOf e Turn made) (possible Turn e) (serving_turned e) e
    (λ b. no_contact e (serving_turned e) Turn made (turned_no_contact e.server)) (λ b. no_contact e e Turn made refl)
contact_of_call (Machine ended) e made h =
    chosen (λ (f : ServerEnd). contacts f.server.ledger ≡ contacts e.server.ledger ++ made ∷ []
    → IsContactOf e (Machine ended) made) (possible (Machine ended) e) (serving_machined ended e) e
    (λ b longer. let commanded : IsCommanded e ended made = machined_as_commanded ended e made longer in
    record { ended = ended; is_end = refl; commanded = commanded; target = target_in_volume e ended made h commanded })
    (λ b. no_contact e e (Machine ended) made refl)
contact_of_call Leave e made h = no_contact e (serving_left e) Leave made refl
contact_of_call Restart e made h = no_contact e (serving_restarted e) Restart made refl
contact_of_call (Sent count) e made h =
    chosen (λ (f : ServerEnd). contacts f.server.ledger ≡ contacts e.server.ledger ++ made ∷ []
    → IsContactOf e (Sent count) made) (possible (Sent count) e) (serving_taken count e) e
    (λ b. no_contact e (serving_taken count e) (Sent count) made refl) (λ b. no_contact e e (Sent count) made refl)
