-- What a witness reports of a server after each list of its calls on one connection.
use Rattle.witness_laws.proofs.Names.{◌&&◌, ◌++◌, ◌<◌, ◌||◌, ◌∙◌, ◌∷◌, ◌≡◌, ◌≤◌, [], Act, acts_none, acts_on, and_parts, ap, append-nil, arith, Bool}
use Rattle.witness_laws.proofs.Names.{client_lines, command_of, cond, Dialogue, done_on, Err, false, false≢true, Frame, Front, front_served}
use Rattle.witness_laws.proofs.Names.{is_foreign, IsInVolume, line_in, List, list_all, ltb-true, Machine, machined_moves, may_end, Moves, next_of}
use Rattle.witness_laws.proofs.Names.{None, not, not-true, nothing, offset, Ok, Option, or_left, or_right, Outcome, read_moves, reading_of, refl}
use Rattle.witness_laws.proofs.Names.{reply_bytes, reply_texts, Reported, sent, SentCommand, server_lines, server_machined, server_turned, ServerEnd}
use Rattle.witness_laws.proofs.Names.{serving_accepted, serving_machined, serving_turned, silence, slice_get, Some, subst, suc, sym, Tag, tag_is}
use Rattle.witness_laws.proofs.Names.{tag_is-refl, true, turned_moves, up_to_above, up_to_done, up_to_join, Waiting, zero, ℕ}
use Rattle.protocol_model.specs.Server.{Server}
use Rattle.protocol_model.specs.Undisturbed.{AreUpTo}
use Rattle.protocol_model.specs.declared.lines.Line.{Line}
use Rattle.server_core.specs.Calls.{Call, Accept, Feed, ReadOne, Turn, Machine, Leave, Restart, Sent, possible, done_by, behind_call, behind_calls, reached}
use Rattle.server_core.specs.Calls.{gives_up}
use Rattle.server_core.specs.Serving.{may_accept, may_turn}
use Rattle.server_core.specs.Steady.{IsOff}
use Rattle.server_core.proofs.Deeds.{chosen}
use Rattle.server_core.proofs.Reached.{reached_steady}
use Rattle.server_core.proofs.Steadies.{nothing_runs}
use Rattle.witness_laws.specs.Lockstep.{line_read, all_read, replies, answered, seen, all_seen, keeps_out, AreAnew, IsCourse}
use Rattle.witness_laws.specs.Reports.{is_foreign_under, some_foreign, breaks_only, act_reports, NamesNoOther, IsReportOf, AreReportsOf, tool_of, frame_of}
use Rattle.witness_laws.specs.Reports.{tool_named, frame_named, NamesThoseOf}
use Rattle.witness_laws.proofs.server.Knowing.{nothing_within}
use Rattle.witness_laws.proofs.server.Selected.{nothing_so}
use Rattle.witness_laws.proofs.server.Opening.{running_one, AreOpen, AreApart}
use Rattle.witness_laws.proofs.server.Following.{Follows, machined_follows, turned_follows, zero_in_volume}
use Rattle.witness_laws.proofs.server.Reading.{CountsLine, read_follows}

-- ---- lines that this profile does not know

-- each such line is under one of these tags
abbrev pub CountLines : (Tag → Bool) → List (List ℕ) → Type 0
CountLines P [] = Unit {0}
CountLines P (line ∷ lines) = CountsLine P (sent line (command_of line)) × CountLines P lines

counts_one : (P : Tag → Bool) (lines : List (List ℕ)) (o : Option (Tag × SentCommand))
    → ((tag : Tag) → (is_foreign_under tag o || some_foreign lines tag) ≡ true → P tag ≡ true) → CountsLine P o
counts_one P lines None h = tt
counts_one P lines (Some (tag, what)) h =
    λ foreign. h tag (or_left (tag_is tag tag && is_foreign what) (some_foreign lines tag)
    (ap (λ (b : Bool). b && is_foreign what) (tag_is-refl tag) ∙ foreign))

count_lines : (P : Tag → Bool) (lines : List (List ℕ)) → ((tag : Tag) → some_foreign lines tag ≡ true → P tag ≡ true) → CountLines P lines
count_lines P [] h = tt
count_lines P (line ∷ lines) h = (
  counts_one P lines (sent line (command_of line)) h,
  count_lines P lines
      (λ tag e. h tag (or_right (is_foreign_under tag (sent line (command_of line))) (some_foreign lines tag) e)),
)

-- so it is of the tags of these lines themselves
pub count_own : (lines : List (List ℕ)) → CountLines (some_foreign lines) lines
count_own lines = count_lines (some_foreign lines) lines (λ tag e. e)

pub count_parts : (P : Tag → Bool) (xs ys : List (List ℕ)) → CountLines P (xs ++ ys) → CountLines P xs × CountLines P ys
count_parts P [] ys h = (tt, h)
count_parts P (x ∷ xs) ys h = let rest = count_parts P xs ys h.1 in ((h.0, rest.0), rest.1)

-- ---- one call

-- the server is on this connection, and the witness has read all its lines
pub record IsOn (P : Tag → Bool) (n : ℕ) (e : ServerEnd) (t : Dialogue) : Type 0 where
  pub on : e.server.on ≡ true
  pub last : e.server.last ≡ n
  pub follows : Follows P e.server t

-- a server that has moved is still on its connection
still_on : (P : Tag → Bool) (n : ℕ) (e f : ServerEnd) (t u : Dialogue) (acts : List Act) → IsOn P n e t → Moves e.server f.server acts → Follows P f.server u
    → IsOn P n f u
still_on P n e f t u acts h m follows = record { on = m.on ∙ IsOn.on h; last = m.last ∙ IsOn.last h; follows = follows }

-- a line that is read, or none
front_on : (P : Tag → Bool) (n : ℕ) (e : ServerEnd) (front : Front) (t : Dialogue) → AreAnew e.server (line_in front)
    → CountLines P (line_in front) → IsOn P n e t
    → IsOn P n (front_served e front)
    (server_lines (client_lines t (line_in front)) (reply_texts (replies e.server (line_in front))))
front_on P n e (Ok None) t anew counts h = h
front_on P n e (Ok (Some (line, rest))) t anew counts h =
    still_on P n e (front_served e (Ok (Some (line, rest)))) t _ [] h (read_moves e.server (reading_of (command_of line)))
    (read_follows P e.server line t anew counts.0 (IsOn.follows h)).follows
front_on P n e (Err why) t anew counts h = record { on = IsOn.on h; last = IsOn.last h; follows = IsOn.follows h }

read_on : (P : Tag → Bool) (n : ℕ) (on : Bool) (e : ServerEnd) (front : Front) (t : Dialogue) → AreAnew e.server (cond on (line_in front) [])
    → CountLines P (cond on (line_in front) []) → IsOn P n e t
    → IsOn P n (cond on (front_served e front) e)
    (server_lines (client_lines t (cond on (line_in front) [])) (reply_texts (replies e.server (cond on (line_in front) []))))
read_on P n true e front t anew counts h = front_on P n e front t anew counts h
read_on P n false e front t anew counts h = h

turn_on : (P : Tag → Bool) (n : ℕ) (may : Bool) (e : ServerEnd) (t : Dialogue) → may_turn e.server ≡ may → IsOn P n e t
    → IsOn P n (cond may (serving_turned e) e) (server_lines t (reply_texts (cond may (server_turned e.server).said [])))
turn_on P n true e t is h =
    let m = turned_moves e.server in
    still_on P n e (serving_turned e) t _ m.0 h m.1
    (turned_follows P e.server t (nothing_runs e.server.running ((and_parts _ _ is).0)) (IsOn.follows h)).follows
turn_on P n false e t is h = h

machine_on : (P : Tag → Bool) (n : ℕ) (may : Bool) (ended : Outcome) (e : ServerEnd) (t : Dialogue) → may_end e.server.running ended ≡ may → IsOn P n e t
    → IsOn P n (cond may (serving_machined ended e) e) (server_lines t (reply_texts (cond may (server_machined e.server ended).said [])))
machine_on P n true ended e t is h =
    let m = machined_moves e.server ended in
    still_on P n e (serving_machined ended e) t _ m.0 h m.1 (machined_follows P e.server ended e.server.running t is (IsOn.follows h)).follows
machine_on P n false ended e t is h = h

-- no connection is taken on one
no_accept : (n : ℕ) (s : Server) → s.on ≡ true → may_accept n s ≡ true → ⊥
no_accept n s on may =
    let off : not s.on ≡ true = (and_parts _ _ may).0 in false≢true (sym (ap not on) ∙ off)

pub call_on : (P : Tag → Bool) (n : ℕ) (call : Call) (e : ServerEnd) (t : Dialogue) → gives_up call ≡ false → AreAnew e.server (line_read call e)
    → CountLines P (line_read call e) → IsOn P n e t
    → IsOn P n (behind_call call e) (seen call e t)
call_on P n (Accept m) e t stays anew counts h =
    chosen (λ (f : ServerEnd). IsOn P n f t) (possible (Accept m) e) _ _ (λ may. absurd (no_accept m e.server (IsOn.on h) may)) (λ other. h)
call_on P n (Feed bytes) e t stays anew counts h =
    chosen (λ (f : ServerEnd). IsOn P n f t) (possible (Feed bytes) e) _ _
    (λ may. record { on = IsOn.on h; last = IsOn.last h; follows = IsOn.follows h }) (λ other. h)
call_on P n ReadOne e t stays anew counts h = read_on P n e.server.on e (next_of e.input.rest) t anew counts h
call_on P n Turn e t stays anew counts h = turn_on P n (may_turn e.server) e t refl h
call_on P n (Machine ended) e t stays anew counts h = machine_on P n (may_end e.server.running ended) ended e t refl h
call_on P n Leave e t stays anew counts h = absurd (false≢true (sym stays))
call_on P n Restart e t stays anew counts h = absurd (false≢true (sym stays))
call_on P n (Sent count) e t stays anew counts h =
    chosen (λ (f : ServerEnd). IsOn P n f t) (possible (Sent count) e) _ _
    (λ may. record { on = IsOn.on h; last = IsOn.last h; follows = IsOn.follows h }) (λ other. h)

calls_on : (P : Tag → Bool) (n : ℕ) (calls : List Call) (e : ServerEnd) (t : Dialogue) → IsCourse calls e
    → CountLines P (all_read calls e) → IsOn P n e t
    → IsOn P n (behind_calls calls e) (all_seen calls e t)
calls_on P n [] e t course counts h = h
calls_on P n (call ∷ calls) e t course counts h =
    let both = count_parts P (line_read call e) (all_read calls (behind_call call e)) counts in
    calls_on P n calls (behind_call call e) (seen call e t) course.2 both.1 (call_on P n call e t course.0 course.1 both.0 h)

-- ---- at the start of a connection

-- no act is on a later connection than the last
abbrev IsBehind : ServerEnd → Type 0
IsBehind e = AreUpTo e.server.last e.server.ledger

moved : (s t : Server) (acts : List Act) → Moves s t acts → AreUpTo s.last s.ledger → AreUpTo t.last t.ledger
moved s t acts m h =
    let all : AreUpTo s.last (s.ledger ++ done_on s.last acts) = up_to_join s.last s.ledger (done_on s.last acts) h (up_to_done s.last acts)
    in
    subst (λ (n : ℕ). AreUpTo n t.ledger) (sym m.last) (subst (λ (l : List (ℕ × Act)). AreUpTo s.last l) (sym m.ledger) all)

front_behind : (e : ServerEnd) (f : Front) → IsBehind e → IsBehind (front_served e f)
front_behind e (Ok None) h = h
front_behind e (Ok (Some (line, rest))) h = moved e.server _ [] (read_moves e.server (reading_of (command_of line))) h
front_behind e (Err why) h = h

above : (n : ℕ) (s : Server) → may_accept n s ≡ true → s.last < n
above n s may = let numbers = and_parts _ _ ((and_parts _ _ may).1) in ltb-true s.last n numbers.0

less : (m n : ℕ) → m < n → m ≤ n
less m n lt = omega (arith, lt)

done_behind : (call : Call) (e : ServerEnd) → possible call e ≡ true → IsBehind e → IsBehind (done_by call e)
done_behind (Accept n) e may h = up_to_above e.server.last n e.server.ledger (less e.server.last n (above n e.server may)) h
done_behind (Feed bytes) e may h = h
done_behind ReadOne e may h = front_behind e (next_of e.input.rest) h
done_behind Turn e may h = let m = turned_moves e.server in moved e.server _ m.0 m.1 h
done_behind (Machine ended) e may h = let m = machined_moves e.server ended in moved e.server _ m.0 m.1 h
done_behind Leave e may h = h
done_behind Restart e may h = h
done_behind (Sent count) e may h = h

call_behind : (call : Call) (e : ServerEnd) → IsBehind e → IsBehind (behind_call call e)
call_behind call e h = chosen IsBehind (possible call e) (done_by call e) e (λ may. done_behind call e may h) (λ other. h)

calls_behind : (calls : List Call) (e : ServerEnd) → IsBehind e → IsBehind (behind_calls calls e)
calls_behind [] e h = h
calls_behind (call ∷ calls) e h = calls_behind calls (behind_call call e) (call_behind call e h)

-- nothing is open on a new connection, and nothing was done on it
accepted_on : (P : Tag → Bool) (n : ℕ) (ordered : Bool) (e : ServerEnd) → may_accept n e.server ≡ true → IsOff e → IsBehind e
    → IsOn P n (serving_accepted n e) (silence ordered)
accepted_on P n ordered e may off behind = record {
  on = refl;
  last = refl;
  follows = record {
    uses = [];
    ours = subst (λ (ws : List Waiting). AreOpen ws []) (sym none) refl;
    apart = subst AreApart (sym none) tt;
    at = record {
      view = nothing;
      so = nothing_so _;
      within = nothing_within nothing;
      shaped = tt;
      rising = omega arith;
      clear = refl;
      counted = tt;
      tells = record {
        are = subst (AreReportsOf []) (sym (acts_none e.server.last n e.server.ledger behind (above n e.server may))) tt;
        breaks = refl;
      };
    };
    stored = subst IsInVolume (sym off.stored) zero_in_volume;
    frame = subst (λ (f : Frame). IsInVolume (offset f)) (sym off.frame) zero_in_volume;
  };
}
  where
    none : running_one e.server.running ++ e.server.waiting ≡ []
    none = ap (λ (r : Option Line). running_one r ++ e.server.waiting) off.running ∙ off.waiting

pub begun_on : (P : Tag → Bool) (ordered : Bool) (tools : List (List ℕ)) (before : List Call) (n : ℕ)
    → may_accept n (reached tools before).server ≡ true → IsOn P n (serving_accepted n (reached tools before)) (silence ordered)
begun_on P ordered tools before n may =
    accepted_on P n ordered (reached tools before) may
    ((reached_steady tools before).off (not-true (reached tools before).server.on ((and_parts _ _ may).0)))
    (calls_behind before _ tt)

-- ---- what is reported

-- a witness of a course, with the tags of the lines of it that this profile does not know
pub course_on : (ordered : Bool) (tools : List (List ℕ)) (before : List Call) (n : ℕ) (calls : List Call)
    → may_accept n (reached tools before).server ≡ true → IsCourse calls (serving_accepted n (reached tools before))
    → IsOn (some_foreign (all_read calls (serving_accepted n (reached tools before)))) n
    (behind_calls calls (serving_accepted n (reached tools before)))
    (all_seen calls (serving_accepted n (reached tools before)) (silence ordered))
course_on ordered tools before n calls may course =
    let e : ServerEnd = serving_accepted n (reached tools before) in
    calls_on (some_foreign (all_read calls e)) n calls e (silence ordered) course (count_own (all_read calls e))
    (begun_on (some_foreign (all_read calls e)) ordered tools before n may)

-- the reports of a course are those of the acts of its connection
pub reports_of_acts : (ordered : Bool) (tools : List (List ℕ)) (before : List Call) (n : ℕ) (calls : List Call)
    → may_accept n (reached tools before).server ≡ true → IsCourse calls (serving_accepted n (reached tools before))
    → AreReportsOf (act_reports (all_seen calls (serving_accepted n (reached tools before)) (silence ordered)).reported)
    (acts_on n (behind_calls calls (serving_accepted n (reached tools before))).server.ledger)
reports_of_acts ordered tools before n calls may course =
    let h = course_on ordered tools before n calls may course in
    subst (λ (m : ℕ). AreReportsOf (act_reports (all_seen calls (serving_accepted n (reached tools before)) (silence ordered)).reported)
    (acts_on m (behind_calls calls (serving_accepted n (reached tools before))).server.ledger)) (IsOn.last h) (IsOn.follows h).at.tells.are

-- no rule is broken but that of turns, by lines under the tags of lines that this profile does not know
pub only_turns_are_broken : (ordered : Bool) (tools : List (List ℕ)) (before : List Call) (n : ℕ) (calls : List Call)
    → may_accept n (reached tools before).server ≡ true → IsCourse calls (serving_accepted n (reached tools before))
    → list_all (breaks_only (some_foreign (all_read calls (serving_accepted n (reached tools before)))))
    (all_seen calls (serving_accepted n (reached tools before)) (silence ordered)).reported
    ≡ true
only_turns_are_broken ordered tools before n calls may course =
    (IsOn.follows (course_on ordered tools before n calls may course)).at.tells.breaks

-- ---- what is named

some_is : {A : Type 0} (x y : A) → Some x ≡ Some y → x ≡ y
some_is x y e = ap (value_or x) e
  where
    value_or : {A : Type 0} → A → Option A → A
    value_or d None = d
    value_or d (Some v) = v

none_tool : (n : Option (List ℕ)) (tool name : List ℕ) → NamesNoOther n tool → n ≡ Some name → Some tool ≡ Some name
none_tool None tool name h e = absurd (cc)
none_tool (Some m) tool name h e = ap Some (sym h) ∙ e

none_frame : (f : Option Frame) (frame name : Frame) → NamesNoOther f frame → f ≡ Some name → Some frame ≡ Some name
none_frame None frame name h e = absurd (cc)
none_frame (Some m) frame name h e = ap Some (sym h) ∙ e

nothing_named : {A : Type 0} (x : A) (o : Option A) → None ≡ Some x → o ≡ Some x
nothing_named x o e = absurd (cc)

tool_is : (x : Reported) (a : Act) (name : List ℕ) → IsReportOf x a → tool_named x ≡ Some name → tool_of a ≡ Some name
tool_is (Reported.Did b) a name h e = ap tool_of (sym h) ∙ e
tool_is (Reported.Touched p d n f at) (Act.Contact target dir tool frame point) name h e = none_tool n tool name h.2 e
tool_is (Reported.Touched p d n f at) (Act.HomedIs homed) name h e = absurd h
tool_is (Reported.Touched p d n f at) Act.Homed name h e = absurd h
tool_is (Reported.Touched p d n f at) (Act.Moved target frame) name h e = absurd h
tool_is (Reported.Touched p d n f at) (Act.Changed tool) name h e = absurd h
tool_is (Reported.Touched p d n f at) (Act.Framed frame) name h e = absurd h
tool_is (Reported.MovedSomewhere p) a name h e = nothing_named name (tool_of a) e
tool_is Reported.FramedSomehow a name h e = nothing_named name (tool_of a) e
tool_is (Reported.Other side line) a name h e = nothing_named name (tool_of a) e
tool_is (Reported.Unasked line) a name h e = nothing_named name (tool_of a) e
tool_is (Reported.Broken rule tag) a name h e = nothing_named name (tool_of a) e
tool_is Reported.Opened a name h e = nothing_named name (tool_of a) e
tool_is Reported.Left a name h e = nothing_named name (tool_of a) e

frame_is : (x : Reported) (a : Act) (name : Frame) → IsReportOf x a → frame_named x ≡ Some name → frame_of a ≡ Some name
frame_is (Reported.Did b) a name h e = ap frame_of (sym h) ∙ e
frame_is (Reported.Touched p d n f at) (Act.Contact target dir tool frame point) name h e = none_frame f frame name h.3 e
frame_is (Reported.Touched p d n f at) (Act.HomedIs homed) name h e = absurd h
frame_is (Reported.Touched p d n f at) Act.Homed name h e = absurd h
frame_is (Reported.Touched p d n f at) (Act.Moved target frame) name h e = absurd h
frame_is (Reported.Touched p d n f at) (Act.Changed tool) name h e = absurd h
frame_is (Reported.Touched p d n f at) (Act.Framed frame) name h e = absurd h
frame_is (Reported.MovedSomewhere p) a name h e = nothing_named name (frame_of a) e
frame_is Reported.FramedSomehow a name h e = nothing_named name (frame_of a) e
frame_is (Reported.Other side line) a name h e = nothing_named name (frame_of a) e
frame_is (Reported.Unasked line) a name h e = nothing_named name (frame_of a) e
frame_is (Reported.Broken rule tag) a name h e = nothing_named name (frame_of a) e
frame_is Reported.Opened a name h e = nothing_named name (frame_of a) e
frame_is Reported.Left a name h e = nothing_named name (frame_of a) e

-- the i-th report is that of the i-th act
pair_at : (xs : List Reported) (acts : List Act) (i : ℕ) (x : Reported) (a : Act) → AreReportsOf xs acts → slice_get xs i ≡ Some x
    → slice_get acts i ≡ Some a → IsReportOf x a
pair_at [] acts i x a h p q = absurd (cc)
pair_at (y ∷ ys) [] i x a h p q = absurd h
pair_at (y ∷ ys) (b ∷ acts) zero x a h p q =
    subst (λ (z : Reported). IsReportOf z a) (some_is y x p) (subst (IsReportOf y) (some_is b a q) h.0)
pair_at (y ∷ ys) (b ∷ acts) (suc i) x a h p q = pair_at ys acts i x a h.1 p q

-- a tool that is named is that of the act, and so is a frame
pub named : (reports : List Reported) (acts : List Act) → AreReportsOf reports acts → (i : ℕ) (x : Reported) (a : Act)
    → slice_get reports i ≡ Some x → slice_get acts i ≡ Some a → NamesThoseOf x a
named reports acts are i x a p q =
    let is : IsReportOf x a = pair_at reports acts i x a are p q in
    record { tool = λ name e. tool_is x a name is e; frame = λ name e. frame_is x a name is e }

-- ---- the bytes of the lines

none_put : (out : List ℕ) → out ≡ out ++ reply_bytes []
none_put out = sym (append-nil out)

front_put : (e : ServerEnd) (front : Front)
    → (front_served e front).out ≡ e.out ++ reply_bytes (replies e.server (line_in front))
front_put e (Ok None) = none_put e.out
front_put e (Ok (Some (line, rest))) = refl
front_put e (Err why) = none_put e.out

read_put : (on : Bool) (e : ServerEnd) (front : Front)
    → (cond on (front_served e front) e).out ≡ e.out ++ reply_bytes (replies e.server (cond on (line_in front) []))
read_put true e front = front_put e front
read_put false e front = none_put e.out

turn_put : (may : Bool) (e : ServerEnd)
    → (cond may (serving_turned e) e).out ≡ e.out ++ reply_bytes (cond may (server_turned e.server).said [])
turn_put true e = refl
turn_put false e = none_put e.out

machine_put : (may : Bool) (ended : Outcome) (e : ServerEnd)
    → (cond may (serving_machined ended e) e).out ≡ e.out ++ reply_bytes (cond may (server_machined e.server ended).said [])
machine_put true ended e = refl
machine_put false ended e = none_put e.out

-- what a call answers joins the bytes that are to be sent
pub answered_is_put : (call : Call) (e : ServerEnd) → keeps_out call ≡ true
    → (behind_call call e).out ≡ e.out ++ reply_bytes (answered call e)
answered_is_put (Accept n) e keeps =
    chosen (λ (f : ServerEnd). f.out ≡ e.out ++ reply_bytes []) (possible (Accept n) e) _ _ (λ may. none_put e.out)
    (λ other. none_put e.out)
answered_is_put (Feed bytes) e keeps =
    chosen (λ (f : ServerEnd). f.out ≡ e.out ++ reply_bytes []) (possible (Feed bytes) e) _ _ (λ may. none_put e.out)
    (λ other. none_put e.out)
answered_is_put ReadOne e keeps = read_put e.server.on e (next_of e.input.rest)
answered_is_put Turn e keeps = turn_put (may_turn e.server) e
answered_is_put (Machine ended) e keeps = machine_put (may_end e.server.running ended) ended e
answered_is_put Leave e keeps = absurd (false≢true keeps)
answered_is_put Restart e keeps = absurd (false≢true keeps)
answered_is_put (Sent count) e keeps = absurd (false≢true keeps)
