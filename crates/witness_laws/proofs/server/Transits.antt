-- What a witness reports that reads the lines of a course in another order, while further lines are on their way.
use Rattle.witness_laws.proofs.Names.{◌++◌, ◌||◌, ◌∙◌, ◌∷◌, ◌≡◌, ◌≤◌, [], Act, acts_on, after, and_parts, ap, append-nil, append_assoc}
use Rattle.witness_laws.proofs.Names.{are_whole_lines, AreAllRead, AreLines, AreLines-append, AreLinesOf, AreReplies, arith, at_once_line, Bool}
use Rattle.witness_laws.proofs.Names.{ClaimNoMore, ClaimsNoMore, Client, client_line, client_lines, Command, command_of, cond, contact, Dialogue}
use Rattle.witness_laws.proofs.Names.{Direction, Down, downs, Err, Event, false, false≢true, fed_behind, found, Frame, Framing, FramingFault, Front}
use Rattle.witness_laws.proofs.Names.{front_served, in_turn, is_none, is_under, IsBehind, IsCausal, IsNumbered, IsPart, IsPrefix, IsStream}
use Rattle.witness_laws.proofs.Names.{known as part_known, ledger, Line, line_bytes, line_bytes-append, line_in, LineFault, List, map, may_end}
use Rattle.witness_laws.proofs.Names.{ne_eqb, next_of, None, not, not-true, NotResponse, Ok, Option, Outcome, Point, read_is_writable, reading_of}
use Rattle.witness_laws.proofs.Names.{reads_command, ReadsCommand, refl, Reply, reply_lines, reply_read, reply_text, reply_texts, Reported, Response}
use Rattle.witness_laws.proofs.Names.{response_of, Result, said_all, same, sent, Server, server_line, server_lines, server_machined, server_read}
use Rattle.witness_laws.proofs.Names.{server_turned, ServerEnd, serving_accepted, serving_fed, serving_machined, serving_turned, silence, Some}
use Rattle.witness_laws.proofs.Names.{some_sends, Std, subst, sym, Tag, tag_is, true, unknown as part_unknown, Up, ups, Use, Watching, whole_lines, ℕ}
use Rattle.witness_laws.specs.Claims.{moved, framed, touched}
use Rattle.server_core.specs.Calls.{Call, Accept, Feed, ReadOne, Turn, Machine, Leave, Restart, Sent, behind_call, behind_calls, reached, possible, gives_up}
use Rattle.server_core.specs.Serving.{may_accept, may_turn, may_feed}
use Rattle.server_core.proofs.Steadies.{nothing_runs}
use Rattle.witness_laws.proofs.orders.Arrivals.{whole_after, whole_none}
use Rattle.witness_laws.proofs.orders.Claimed.{ups_append, downs_append, only_ups, no_downs}
use Rattle.witness_laws.proofs.orders.Courses.{recorded_told}
use Rattle.witness_laws.specs.Lockstep.{line_read, all_read, replies, answered, seen, all_seen, acts_after, AreAnew, IsCourse, TakesCourse}
use Rattle.witness_laws.specs.Lockstep.TakesCourse.{takes}
use Rattle.witness_laws.specs.Reports.{is_other, act_reports, some_foreign, NamesNoOther, IsReportOf, AreReportsOf}
use Rattle.witness_laws.specs.Transit.{lines_seen, AreReportsOfFirst, fed_by, all_fed, all_written}
use Rattle.witness_laws.proofs.server.Answering.{IsHeard, AreHeard}
use Rattle.witness_laws.proofs.server.Courses.{IsOn, CountLines, count_parts, count_own, call_on, begun_on, reports_of_acts}
use Rattle.witness_laws.proofs.server.Following.{machined_follows, turned_follows}
use Rattle.witness_laws.proofs.server.Reading.{AreAnswersTo, read_follows}
use Rattle.server_core.proofs.Deeds.{chosen}
use Rattle.server_core.proofs.Reached.{reached_steady}
use Rattle.witness_laws.proofs.orders.Commands.{ups_are_causal}
use Rattle.witness_laws.proofs.orders.Sorting.{all_append, all_ups, all_downs}
use Rattle.witness_laws.proofs.orders.More.{server_append}

-- ---- each answer comes after its command

-- the lines of a call: each is for an open command, or they are the refusal of a line without a tag
data AreFor (d : Dialogue) (lines : List (List ℕ)) : Type 0 where
  commands : AreHeard d lines → AreFor d lines
  no_tag : lines ≡ reply_text (Reply.Error (Event 0) 9001 None) ∷ [] → AreFor d lines

of_line : (r : Result (Tag × Command) LineFault) (d : Dialogue) (said : List Reply) → AreAnswersTo r d said → AreFor d (reply_texts said)
of_line (Ok command) d said h = commands h
of_line (Err LineFault.NoTag) d said h = no_tag (ap reply_texts h)
of_line (Err (LineFault.UnknownCommand tag)) d said h = commands h
of_line (Err (LineFault.BadArguments tag kind)) d said h = commands h

front_said : (P : Tag → Bool) (n : ℕ) (e : ServerEnd) (front : Front) (d : Dialogue) → AreAnew e.server (line_in front)
    → CountLines P (line_in front) → IsOn P n e d
    → AreFor (client_lines d (line_in front)) (reply_texts (replies e.server (line_in front)))
front_said P n e (Ok None) d anew counts h = commands tt
front_said P n e (Ok (Some (line, rest))) d anew counts h =
    of_line (command_of line) (after d (client_line line)) (server_read e.server (reading_of (command_of line))).said
    (read_follows P e.server line d anew counts.0 (IsOn.follows h)).heard
front_said P n e (Err why) d anew counts h = commands tt

read_said : (P : Tag → Bool) (n : ℕ) (on : Bool) (e : ServerEnd) (front : Front) (d : Dialogue) → AreAnew e.server (cond on (line_in front) [])
    → CountLines P (cond on (line_in front) []) → IsOn P n e d
    → AreFor (client_lines d (cond on (line_in front) [])) (reply_texts (replies e.server (cond on (line_in front) [])))
read_said P n true e front d anew counts h = front_said P n e front d anew counts h
read_said P n false e front d anew counts h = commands tt

turn_said : (P : Tag → Bool) (n : ℕ) (may : Bool) (e : ServerEnd) (d : Dialogue) → may_turn e.server ≡ may → IsOn P n e d
    → AreHeard d (reply_texts (cond may (server_turned e.server).said []))
turn_said P n true e d is h =
    (turned_follows P e.server d (nothing_runs e.server.running ((and_parts _ _ is).0)) (IsOn.follows h)).heard
turn_said P n false e d is h = tt

machine_said : (P : Tag → Bool) (n : ℕ) (may : Bool) (ended : Outcome) (e : ServerEnd) (d : Dialogue)
    → may_end e.server.running ended ≡ may → IsOn P n e d → AreHeard d (reply_texts (cond may (server_machined e.server ended).said []))
machine_said P n true ended e d is h = (machined_follows P e.server ended e.server.running d is (IsOn.follows h)).heard
machine_said P n false ended e d is h = tt

call_said : (P : Tag → Bool) (n : ℕ) (call : Call) (e : ServerEnd) (d : Dialogue) → AreAnew e.server (line_read call e)
    → CountLines P (line_read call e) → IsOn P n e d
    → AreFor (client_lines d (line_read call e)) (reply_texts (answered call e))
call_said P n (Accept m) e d anew counts h = commands tt
call_said P n (Feed bytes) e d anew counts h = commands tt
call_said P n ReadOne e d anew counts h = read_said P n e.server.on e (next_of e.input.rest) d anew counts h
call_said P n Turn e d anew counts h = commands (turn_said P n (may_turn e.server) e d refl h)
call_said P n (Machine ended) e d anew counts h = commands (machine_said P n (may_end e.server.running ended) ended e d refl h)
call_said P n Leave e d anew counts h = commands tt
call_said P n Restart e d anew counts h = commands tt
call_said P n (Sent count) e d anew counts h = commands tt

-- ---- the order of a course

true_false : (b : Bool) → b ≡ true → b ≡ false → ⊥
true_false b e f = false≢true (sym f ∙ e)

heard_behind : (uses : List Use) (later : List (List ℕ)) (r : Result Response NotResponse) → IsHeard uses r → IsBehind uses later r
heard_behind uses later (Ok r) h = λ none. absurd (true_false _ h none)
heard_behind uses later (Err why) h = absurd h

heard_causal : (d : Dialogue) (lines : List (List ℕ)) (rest : List Line) → AreHeard d lines → IsCausal (server_lines d lines) rest
    → IsCausal d (map Down lines ++ rest)
heard_causal d [] rest h causal = causal
heard_causal d (line ∷ lines) rest h causal = (
  heard_behind d.uses (ups (map Down lines ++ rest)) (response_of line) h.0,
  heard_causal (after d (server_line line)) lines rest h.1 causal,
)

-- no command is sent under the tag of refusals that name none
not_zero : (tag : Tag) → IsNumbered tag → tag_is tag (Event 0) ≡ false
not_zero (Std n) h = refl
not_zero (Event n) h = ne_eqb n 0 (λ e. above n h.0 e)
  where
    above : (m : ℕ) → 1 ≤ m → m ≡ 0 → ⊥
    above m le e = omega arith

zero_reads : (line : List ℕ) (r : Result (Tag × Command) LineFault) → ReadsCommand line r → is_under (Event 0) (sent line r) ≡ false
zero_reads line (Ok (tag, c)) reads = not_zero tag (read_is_writable line tag c reads).tagged.numbered
zero_reads line (Err LineFault.NoTag) reads = refl
zero_reads line (Err (LineFault.UnknownCommand tag)) reads = not_zero tag reads.2.tagged.numbered
zero_reads line (Err (LineFault.BadArguments tag kind)) reads = not_zero tag reads.2.tagged.numbered

none_sends : (lines : List (List ℕ)) → some_sends (Event 0) lines ≡ false
none_sends [] = refl
none_sends (line ∷ lines) =
    ap (λ (b : Bool). b || some_sends (Event 0) lines) (zero_reads line (command_of line) (reads_command line)) ∙ none_sends lines

refusal_is_behind : (uses : List Use) (later : List (List ℕ))
    → IsBehind uses later (response_of (reply_text (Reply.Error (Event 0) 9001 None)))
refusal_is_behind uses later =
    subst (IsBehind uses later) (sym (reply_read (Reply.Error (Event 0) 9001 None) (omega arith))) (λ none. none_sends later)

downs_causal : (d : Dialogue) (lines : List (List ℕ)) (rest : List Line) → AreFor d lines → IsCausal (server_lines d lines) rest
    → IsCausal d (map Down lines ++ rest)
downs_causal d lines rest (commands h) causal = heard_causal d lines rest h causal
downs_causal d lines rest (no_tag is) causal =
    let refusal : List ℕ = reply_text (Reply.Error (Event 0) 9001 None) in
    subst (λ (l : List (List ℕ)). IsCausal d (map Down l ++ rest)) (sym is)
    (refusal_is_behind d.uses (ups rest), subst (λ (l : List (List ℕ)). IsCausal (server_lines d l) rest) is causal)

ups_causal : (d : Dialogue) (lines : List (List ℕ)) (rest : List Line) → IsCausal (client_lines d lines) rest
    → IsCausal d (map Up lines ++ rest)
ups_causal d [] rest causal = causal
ups_causal d (line ∷ lines) rest causal = ups_causal (after d (client_line line)) lines rest causal

-- with any lines of the client after them
lines_causal : (P : Tag → Bool) (n : ℕ) (calls : List Call) (e : ServerEnd) (d : Dialogue) (later : List (List ℕ)) → IsCourse calls e
    → CountLines P (all_read calls e) → IsOn P n e d → IsCausal d (lines_seen calls e ++ map Up later)
lines_causal P n [] e d later course counts h = ups_are_causal d later
lines_causal P n (call ∷ calls) e d later course counts h =
    let up : List (List ℕ) = line_read call e in
    let down : List (List ℕ) = reply_texts (answered call e) in
    let rest : List Line = lines_seen calls (behind_call call e) in
    let both = count_parts P up (all_read calls (behind_call call e)) counts in
    subst (IsCausal d)
    (sym (append_assoc (map Up up) (map Down down ++ rest) (map Up later)
    ∙ ap (λ (l : List Line). map Up up ++ l) (append_assoc (map Down down) rest (map Up later))))
    (ups_causal d up (map Down down ++ (rest ++ map Up later))
    (downs_causal (client_lines d up) down (rest ++ map Up later) (call_said P n call e d course.1 both.0 h)
    (lines_causal P n calls (behind_call call e) (seen call e d) later course.2 both.1 (call_on P n call e d course.0 course.1 both.0 h))))

-- ---- the same lines

said_first : (d : Dialogue) (lines more : List Line) (u : Dialogue) → said_all d lines ≡ u → said_all d (lines ++ more) ≡ said_all u more
said_first d lines more u e = all_append d lines more ∙ ap (λ (s : Dialogue). said_all s more) e

lines_are_seen : (calls : List Call) (e : ServerEnd) (d : Dialogue) → said_all d (lines_seen calls e) ≡ all_seen calls e d
lines_are_seen [] e d = refl
lines_are_seen (call ∷ calls) e d =
    let up : List (List ℕ) = line_read call e in
    let down : List (List ℕ) = reply_texts (answered call e) in
    said_first d (map Up up) (map Down down ++ lines_seen calls (behind_call call e)) (client_lines d up) (all_ups d up)
    ∙ (said_first (client_lines d up) (map Down down) (lines_seen calls (behind_call call e)) (seen call e d) (all_downs (client_lines d up) down)
    ∙ lines_are_seen calls (behind_call call e) (seen call e d))

ups_of_downs : (lines : List (List ℕ)) → ups (map Down lines) ≡ []
ups_of_downs [] = refl
ups_of_downs (line ∷ lines) = ups_of_downs lines

downs_of_downs : (lines : List (List ℕ)) → downs (map Down lines) ≡ lines
downs_of_downs [] = refl
downs_of_downs (line ∷ lines) = ap (λ (l : List (List ℕ)). line ∷ l) (downs_of_downs lines)

-- the lines of the client in a course: that of the first call, and those of the others
ups_seen : (call : Call) (calls : List Call) (e : ServerEnd)
    → ups (lines_seen (call ∷ calls) e) ≡ line_read call e ++ ups (lines_seen calls (behind_call call e))
ups_seen call calls e =
    let up : List (List ℕ) = line_read call e in
    let down : List (List ℕ) = reply_texts (answered call e) in
    let rest : List Line = lines_seen calls (behind_call call e) in
    ups_append (map Up up) (map Down down ++ rest)
    ∙ (ap (λ (l : List (List ℕ)). l ++ ups (map Down down ++ rest)) (only_ups up)
    ∙ ap (λ (l : List (List ℕ)). up ++ l)
    (ups_append (map Down down) rest ∙ ap (λ (l : List (List ℕ)). l ++ ups rest) (ups_of_downs down)))

-- ---- what claims no more than the reports of acts

part_names : {A : Type 0} (x y : Option A) (a : A) → IsPart x y → NamesNoOther y a → NamesNoOther x a
part_names _ y a (part_unknown _) h = tt
part_names _ _ a (part_known x) h = h

touch_less : (p : Point) (d : Option Direction) (n m : Option (List ℕ)) (f g : Option Frame) (at : Point) (a : Act) → IsPart n m → IsPart f g
    → IsReportOf (Reported.Touched p d m g at) a → IsReportOf (Reported.Touched p d n f at) a
touch_less p d n m f g at (Act.Contact target dir tool frame point) tool_part frame_part h =
    (h.0, h.1, part_names n m tool tool_part h.2, part_names f g frame frame_part h.3, h.4)
touch_less p d n m f g at (Act.HomedIs homed) tool_part frame_part h = absurd h
touch_less p d n m f g at Act.Homed tool_part frame_part h = absurd h
touch_less p d n m f g at (Act.Moved target frame) tool_part frame_part h = absurd h
touch_less p d n m f g at (Act.Changed tool) tool_part frame_part h = absurd h
touch_less p d n m f g at (Act.Framed frame) tool_part frame_part h = absurd h

both_left : (b : Bool) (x : Reported) (xs ys : List Reported) (acts : List Act)
    → ((rest : List Act) → AreReportsOf ys rest → AreReportsOf xs rest) → AreReportsOf (cond b ys (x ∷ ys)) acts
    → AreReportsOf (cond b xs (x ∷ xs)) acts
both_left true x xs ys acts rest h = rest acts h
both_left false x xs ys [] rest h = absurd h
both_left false x xs ys (a ∷ acts) rest h = (h.0, rest acts h.1)

one_less : (x y : Reported) (xs ys : List Reported) (acts : List Act) → ClaimsNoMore x y
    → ((rest : List Act) → AreReportsOf (act_reports ys) rest → AreReportsOf (act_reports xs) rest)
    → AreReportsOf (act_reports (y ∷ ys)) acts → AreReportsOf (act_reports (x ∷ xs)) acts
one_less _ _ xs ys acts (same r) rest h = both_left (is_other r) r (act_reports xs) (act_reports ys) acts rest h
one_less _ _ xs ys [] (moved p frame) rest h = absurd h
one_less _ _ xs ys (a ∷ acts) (moved p frame) rest h = (subst (IsReportOf (Reported.MovedSomewhere p)) h.0 refl, rest acts h.1)
one_less _ _ xs ys [] (framed frame) rest h = absurd h
one_less _ _ xs ys (a ∷ acts) (framed frame) rest h = (subst (IsReportOf Reported.FramedSomehow) h.0 tt, rest acts h.1)
one_less _ _ xs ys [] (touched p d n m f g at tool frame) rest h = absurd h
one_less _ _ xs ys (a ∷ acts) (touched p d n m f g at tool frame) rest h = (touch_less p d n m f g at a tool frame h.0, rest acts h.1)
one_less _ _ xs ys [] (contact p d n name f in_frame at tool frame) rest h = absurd h
one_less _ _ xs ys (a ∷ acts) (contact p d n name f in_frame at tool frame) rest h = (
  subst (IsReportOf (Reported.Touched p d n f at)) h.0
      (refl, refl, part_names n (Some name) name tool refl, part_names f (Some in_frame) in_frame frame refl, refl),
  rest acts h.1,
)

claims_of_acts : (xs ys : List Reported) (acts : List Act) → ClaimNoMore xs ys → AreReportsOf (act_reports ys) acts
    → AreReportsOf (act_reports xs) acts
claims_of_acts [] [] acts claims h = h
claims_of_acts [] (y ∷ ys) acts claims h = absurd claims
claims_of_acts (x ∷ xs) [] acts claims h = absurd claims
claims_of_acts (x ∷ xs) (y ∷ ys) acts claims h =
    one_less x y xs ys acts claims.0 (λ rest g. claims_of_acts xs ys rest claims.1 g) h

-- lines of the client are no reports of acts
left_out : (b : Bool) (line : List ℕ) (xs ys : List Reported) → act_reports xs ≡ ys
    → act_reports (cond (not b) (Reported.Other Client line ∷ xs) xs) ≡ ys
left_out true line xs ys e = e
left_out false line xs ys e = e

in_turn_acts : (xs : List Reported) → act_reports (in_turn xs) ≡ act_reports xs
in_turn_acts [] = refl
in_turn_acts (Reported.Other Client line ∷ xs) = left_out (at_once_line line) line (in_turn xs) (act_reports xs) (in_turn_acts xs)
in_turn_acts (Reported.Other Server line ∷ xs) = in_turn_acts xs
in_turn_acts (Reported.Unasked line ∷ xs) = in_turn_acts xs
in_turn_acts (Reported.Broken rule tag ∷ xs) = in_turn_acts xs
in_turn_acts (Reported.Did a ∷ xs) = ap (λ (l : List Reported). Reported.Did a ∷ l) (in_turn_acts xs)
in_turn_acts (Reported.MovedSomewhere p ∷ xs) = ap (λ (l : List Reported). Reported.MovedSomewhere p ∷ l) (in_turn_acts xs)
in_turn_acts (Reported.FramedSomehow ∷ xs) = ap (λ (l : List Reported). Reported.FramedSomehow ∷ l) (in_turn_acts xs)
in_turn_acts (Reported.Touched p d n f at ∷ xs) = ap (λ (l : List Reported). Reported.Touched p d n f at ∷ l) (in_turn_acts xs)
in_turn_acts (Reported.Opened ∷ xs) = ap (λ (l : List Reported). Reported.Opened ∷ l) (in_turn_acts xs)
in_turn_acts (Reported.Left ∷ xs) = ap (λ (l : List Reported). Reported.Left ∷ l) (in_turn_acts xs)

turns_of_acts : (xs ys : List Reported) (acts : List Act) → ClaimNoMore (in_turn xs) (in_turn ys) → AreReportsOf (act_reports ys) acts
    → AreReportsOf (act_reports xs) acts
turns_of_acts xs ys acts claims h =
    subst (λ l. AreReportsOf l acts) (in_turn_acts xs)
    (claims_of_acts (in_turn xs) (in_turn ys) acts claims (subst (λ l. AreReportsOf l acts) (sym (in_turn_acts ys)) h))

-- what is proved of two recordings
abbrev pub Recorded : Type 0
Recorded = (lines : List Line) (later : List (List ℕ)) → IsCausal (silence false) (lines ++ map Up later)
    → ClaimNoMore (in_turn (ledger (ups lines ++ later) (downs lines)).reported) (in_turn (said_all (silence false) lines).reported)

-- a course, with any lines of the client after it
course_causal : (tools : List (List ℕ)) (before : List Call) (n : ℕ) (calls : List Call) (later : List (List ℕ))
    → may_accept n (reached tools before).server ≡ true → IsCourse calls (serving_accepted n (reached tools before))
    → IsCausal (silence false) (lines_seen calls (serving_accepted n (reached tools before)) ++ map Up later)
course_causal tools before n calls later may course =
    let e : ServerEnd = serving_accepted n (reached tools before) in
    lines_causal (some_foreign (all_read calls e)) n calls e (silence false) later course (count_own (all_read calls e))
    (begun_on (some_foreign (all_read calls e)) false tools before n may)

course_acts : (tools : List (List ℕ)) (before : List Call) (n : ℕ) (calls : List Call)
    → may_accept n (reached tools before).server ≡ true → IsCourse calls (serving_accepted n (reached tools before))
    → AreReportsOf (act_reports (said_all (silence false) (lines_seen calls (serving_accepted n (reached tools before)))).reported)
    (acts_on n (behind_calls calls (serving_accepted n (reached tools before))).server.ledger)
course_acts tools before n calls may course =
    let e : ServerEnd = serving_accepted n (reached tools before) in
    subst (λ (d : Dialogue). AreReportsOf (act_reports d.reported) (acts_on n (behind_calls calls e).server.ledger))
    (sym (lines_are_seen calls e (silence false))) (reports_of_acts false tools before n calls may course)

pub all_reported : Recorded → (n : ℕ) (e : ServerEnd) (calls : List Call) (later : List (List ℕ)) → TakesCourse n e calls
    → AreReportsOf (act_reports (ledger (ups (lines_seen calls e) ++ later) (downs (lines_seen calls e))).reported) (acts_after n calls e)
all_reported recorded _ _ _ later (takes tools before n calls may course) =
    let lines : List Line = lines_seen calls (serving_accepted n (reached tools before)) in
    turns_of_acts _ (said_all (silence false) lines).reported _ (recorded lines later (course_causal tools before n calls later may course))
    (course_acts tools before n calls may course)

-- ---- a prefix of the answers

step_more : (b : Bool) (x : Reported) (xs ys zs : List Reported) → zs ≡ xs ++ ys → cond b zs (x ∷ zs) ≡ cond b xs (x ∷ xs) ++ ys
step_more true x xs ys zs e = e
step_more false x xs ys zs e = ap (λ (l : List Reported). x ∷ l) e

reports_append : (xs ys : List Reported) → act_reports (xs ++ ys) ≡ act_reports xs ++ act_reports ys
reports_append [] ys = refl
reports_append (x ∷ xs) ys =
    step_more (is_other x) x (act_reports xs) (act_reports ys) (act_reports (xs ++ ys)) (reports_append xs ys)

first_of : (xs ys : List Reported) (acts : List Act) → AreReportsOf (xs ++ ys) acts → AreReportsOfFirst xs acts
first_of [] ys acts h = record { first = []; others = acts; parts = refl; are = tt }
first_of (x ∷ xs) ys [] h = absurd h
first_of (x ∷ xs) ys (a ∷ acts) h =
    let f : AreReportsOfFirst xs acts = first_of xs ys acts h.1 in
    record { first = a ∷ f.first; others = f.others; parts = ap (λ (l : List Act). a ∷ l) f.parts; are = (h.0, f.are) }

prefix_of : (first all : List Reported) (acts : List Act) → IsPrefix first all → AreReportsOf (act_reports all) acts
    → AreReportsOfFirst (act_reports first) acts
prefix_of first all acts p h =
    first_of (act_reports first) (act_reports p.rest) acts
    (subst (λ (l : List Reported). AreReportsOf l acts) (ap act_reports p.parts ∙ reports_append first p.rest) h)

-- what is proved of more lines
abbrev pub Prefixes : Type 0
Prefixes = (d : Dialogue) (lines more : List Line) → IsPrefix (said_all d lines).reported (said_all d (lines ++ more)).reported

-- what the first lines of a server report is a prefix of what all report
downs_prefix : Prefixes → (d : Dialogue) (read unread : List (List ℕ))
    → IsPrefix (server_lines d read).reported (server_lines d (read ++ unread)).reported
downs_prefix prefixes d read unread =
    subst (λ (s : Dialogue). IsPrefix (server_lines d read).reported s.reported)
    (said_first d (map Down read) (map Down unread) (server_lines d read) (all_downs d read)
    ∙ (all_downs (server_lines d read) unread ∙ sym (server_append d read unread)))
    (subst (λ (s : Dialogue). IsPrefix s.reported (said_all d (map Down read ++ map Down unread)).reported) (all_downs d read)
    (prefixes d (map Down read) (map Down unread)))

pub first_reported : Recorded → Prefixes → (n : ℕ) (e : ServerEnd) (calls : List Call) (later read unread : List (List ℕ))
    → TakesCourse n e calls → downs (lines_seen calls e) ≡ read ++ unread
    → AreReportsOfFirst (act_reports (ledger (ups (lines_seen calls e) ++ later) read).reported) (acts_after n calls e)
first_reported recorded prefixes n e calls later read unread course parts =
    let d : Dialogue = client_lines (silence false) (ups (lines_seen calls e) ++ later) in
    prefix_of (server_lines d read).reported (server_lines d (read ++ unread)).reported _ (downs_prefix prefixes d read unread)
    (subst (λ (down : List (List ℕ)). AreReportsOf (act_reports (server_lines d down).reported) (acts_after n calls e)) parts
    (all_reported recorded n e calls later course))

-- ---- two recordings

both_ups : (up down : List (List ℕ)) → ups (map Up up ++ map Down down) ≡ up
both_ups up down =
    ups_append (map Up up) (map Down down)
    ∙ (ap (λ (l : List (List ℕ)). ups (map Up up) ++ l) (ups_of_downs down) ∙ (append-nil (ups (map Up up)) ∙ only_ups up))

both_downs : (up down : List (List ℕ)) → downs (map Up up ++ map Down down) ≡ down
both_downs up down =
    downs_append (map Up up) (map Down down) ∙ (ap (λ (l : List (List ℕ)). l ++ downs (map Down down)) (no_downs up) ∙ downs_of_downs down)

are_lines : (up down : List ℕ) → AreLinesOf up down (map Up (whole_lines up) ++ map Down (whole_lines down))
are_lines up down =
    let above = are_whole_lines up in
    let below = are_whole_lines down in
    let ups_are : ups (map Up (whole_lines up) ++ map Down (whole_lines down)) ≡ whole_lines up = both_ups (whole_lines up) (whole_lines down) in
    let downs_are : downs (map Up (whole_lines up) ++ map Down (whole_lines down)) ≡ whole_lines down =
    both_downs (whole_lines up) (whole_lines down) in
    record {
      up_rest = above.0;
      up_fault = above.1;
      up_lines = subst (λ (l : List (List ℕ)). IsStream up l above.0 above.1) (sym ups_are) above.2;
      down_rest = below.0;
      down_fault = below.1;
      down_lines = subst (λ (l : List (List ℕ)). IsStream down l below.0 below.1) (sym downs_are) below.2;
    }

-- what a witness reports of all bytes of two recordings
recorded_is : (up down : List ℕ) (w : Watching) → AreAllRead false up down w
    → w.dialogue.reported ≡ (ledger (whole_lines up) (whole_lines down)).reported
recorded_is up down w all =
    recorded_told up down w (map Up (whole_lines up) ++ map Down (whole_lines down)) all (are_lines up down)
    ∙ (ap (λ (l : List (List ℕ)). (ledger l (downs (map Up (whole_lines up) ++ map Down (whole_lines down)))).reported)
    (both_ups (whole_lines up) (whole_lines down))
    ∙ ap (λ (l : List (List ℕ)). (ledger (whole_lines up) l).reported) (both_downs (whole_lines up) (whole_lines down)))

recorded_lines : Recorded → Prefixes → (n : ℕ) (e : ServerEnd) (calls : List Call) (later unread : List (List ℕ)) (up down : List ℕ) (w : Watching)
    → TakesCourse n e calls → whole_lines up ≡ ups (lines_seen calls e) ++ later
    → downs (lines_seen calls e) ≡ whole_lines down ++ unread → AreAllRead false up down w
    → AreReportsOfFirst (act_reports w.dialogue.reported) (acts_after n calls e)
recorded_lines recorded prefixes n e calls later unread up down w course up_is down_is all =
    subst (λ (so_far : List Reported). AreReportsOfFirst (act_reports so_far) (acts_after n calls e))
    (ap (λ (l : List (List ℕ)). (ledger l (whole_lines down)).reported) (sym up_is) ∙ sym (recorded_is up down w all))
    (first_reported recorded prefixes n e calls later (whole_lines down) unread course down_is)

-- ---- the bytes of the client

-- what is left of the bytes, with what is fed, is the line that a call reads, and what is left then
record IsCut (old new more : List ℕ) (lines : List (List ℕ)) : Type 0 where
  parts : old ++ more ≡ line_bytes lines ++ new
  whole : AreLines lines

none_cut : (rest : List ℕ) → IsCut rest rest [] []
none_cut rest = record { parts = append-nil rest; whole = tt }

front_cut : (e : ServerEnd) (front : Front) → next_of e.input.rest ≡ front
    → IsCut e.input.rest (front_served e front).input.rest [] (line_in front)
front_cut e (Ok None) is = none_cut e.input.rest
front_cut e (Ok (Some (line, left))) is =
    let f = found e.input.rest line left is in
    record {
      parts = append-nil e.input.rest ∙ (f.parts ∙ sym (append_assoc line (13 ∷ 10 ∷ []) left));
      whole = (f.is_line, tt);
    }
front_cut e (Err why) is = none_cut e.input.rest

read_cut : (on : Bool) (e : ServerEnd)
    → IsCut e.input.rest (cond on (front_served e (next_of e.input.rest)) e).input.rest [] (cond on (line_in (next_of e.input.rest)) [])
read_cut true e = front_cut e (next_of e.input.rest) refl
read_cut false e = none_cut e.input.rest

fed_rest : (fault : Option FramingFault) (rest bytes : List ℕ) → is_none fault ≡ true → rest ++ bytes ≡ (fed_behind fault rest bytes).rest
fed_rest None rest bytes e = refl
fed_rest (Some why) rest bytes e = absurd (false≢true e)

feed_cut : (may : Bool) (e : ServerEnd) (bytes : List ℕ) → may_feed e ≡ may
    → IsCut e.input.rest (cond may (serving_fed bytes e) e).input.rest (cond may bytes []) []
feed_cut true e bytes is =
    record { parts = fed_rest e.input.fault e.input.rest bytes ((and_parts _ _ is).1); whole = tt }
feed_cut false e bytes is = none_cut e.input.rest

turn_cut : (may : Bool) (e : ServerEnd) → IsCut e.input.rest (cond may (serving_turned e) e).input.rest [] []
turn_cut true e = none_cut e.input.rest
turn_cut false e = none_cut e.input.rest

machine_cut : (may : Bool) (ended : Outcome) (e : ServerEnd) → IsCut e.input.rest (cond may (serving_machined ended e) e).input.rest [] []
machine_cut true ended e = none_cut e.input.rest
machine_cut false ended e = none_cut e.input.rest

call_cut : (call : Call) (e : ServerEnd) → gives_up call ≡ false
    → IsCut e.input.rest (behind_call call e).input.rest (fed_by call e) (line_read call e)
call_cut (Accept n) e stays =
    chosen (λ (f : ServerEnd). IsCut e.input.rest f.input.rest [] []) (possible (Accept n) e) _ _ (λ may. none_cut e.input.rest)
    (λ other. none_cut e.input.rest)
call_cut (Feed bytes) e stays = feed_cut (may_feed e) e bytes refl
call_cut ReadOne e stays = read_cut e.server.on e
call_cut Turn e stays = turn_cut (may_turn e.server) e
call_cut (Machine ended) e stays = machine_cut (may_end e.server.running ended) ended e
call_cut Leave e stays = absurd (false≢true (sym stays))
call_cut Restart e stays = absurd (false≢true (sym stays))
call_cut (Sent count) e stays =
    chosen (λ (f : ServerEnd). IsCut e.input.rest f.input.rest [] []) (possible (Sent count) e) _ _ (λ may. none_cut e.input.rest)
    (λ other. none_cut e.input.rest)

calls_cut : (calls : List Call) (e : ServerEnd) → IsCourse calls e
    → IsCut e.input.rest (behind_calls calls e).input.rest (all_fed calls e) (ups (lines_seen calls e))
calls_cut [] e course = none_cut e.input.rest
calls_cut (call ∷ calls) e course =
    let one : IsCut e.input.rest (behind_call call e).input.rest (fed_by call e) (line_read call e) = call_cut call e course.0 in
    let rest : IsCut (behind_call call e).input.rest (behind_calls (call ∷ calls) e).input.rest (all_fed calls (behind_call call e))
    (ups (lines_seen calls (behind_call call e))) = calls_cut calls (behind_call call e) course.2 in
    subst (IsCut e.input.rest (behind_calls (call ∷ calls) e).input.rest (all_fed (call ∷ calls) e)) (sym (ups_seen call calls e))
    (record {
      parts = sym (append_assoc e.input.rest (fed_by call e) (all_fed calls (behind_call call e)))
          ∙ (ap (λ (l : List ℕ). l ++ all_fed calls (behind_call call e)) (IsCut.parts one)
          ∙ (append_assoc (line_bytes (line_read call e)) (behind_call call e).input.rest (all_fed calls (behind_call call e))
          ∙ (ap (λ (l : List ℕ). line_bytes (line_read call e) ++ l) (IsCut.parts rest)
          ∙ (sym (append_assoc (line_bytes (line_read call e)) (line_bytes (ups (lines_seen calls (behind_call call e))))
          (behind_calls (call ∷ calls) e).input.rest)
          ∙ ap (λ (l : List ℕ). l ++ (behind_calls (call ∷ calls) e).input.rest)
          (sym (line_bytes-append (line_read call e) (ups (lines_seen calls (behind_call call e)))))))));
      whole = AreLines-append (line_read call e) (ups (lines_seen calls (behind_call call e))) (IsCut.whole one) (IsCut.whole rest);
    })

-- ---- the bytes of the server

front_written : (P : Tag → Bool) (n : ℕ) (e : ServerEnd) (front : Front) (d : Dialogue) → AreAnew e.server (line_in front)
    → CountLines P (line_in front) → IsOn P n e d → AreReplies (replies e.server (line_in front))
front_written P n e (Ok None) d anew counts h = tt
front_written P n e (Ok (Some (line, rest))) d anew counts h = (read_follows P e.server line d anew counts.0 (IsOn.follows h)).said
front_written P n e (Err why) d anew counts h = tt

read_written : (P : Tag → Bool) (n : ℕ) (on : Bool) (e : ServerEnd) (front : Front) (d : Dialogue)
    → AreAnew e.server (cond on (line_in front) []) → CountLines P (cond on (line_in front) []) → IsOn P n e d
    → AreReplies (replies e.server (cond on (line_in front) []))
read_written P n true e front d anew counts h = front_written P n e front d anew counts h
read_written P n false e front d anew counts h = tt

turn_written : (P : Tag → Bool) (n : ℕ) (may : Bool) (e : ServerEnd) (d : Dialogue) → may_turn e.server ≡ may → IsOn P n e d
    → AreReplies (cond may (server_turned e.server).said [])
turn_written P n true e d is h =
    (turned_follows P e.server d (nothing_runs e.server.running ((and_parts _ _ is).0)) (IsOn.follows h)).said
turn_written P n false e d is h = tt

machine_written : (P : Tag → Bool) (n : ℕ) (may : Bool) (ended : Outcome) (e : ServerEnd) (d : Dialogue)
    → may_end e.server.running ended ≡ may → IsOn P n e d → AreReplies (cond may (server_machined e.server ended).said [])
machine_written P n true ended e d is h = (machined_follows P e.server ended e.server.running d is (IsOn.follows h)).said
machine_written P n false ended e d is h = tt

call_written : (P : Tag → Bool) (n : ℕ) (call : Call) (e : ServerEnd) (d : Dialogue) → AreAnew e.server (line_read call e)
    → CountLines P (line_read call e) → IsOn P n e d → AreReplies (answered call e)
call_written P n (Accept m) e d anew counts h = tt
call_written P n (Feed bytes) e d anew counts h = tt
call_written P n ReadOne e d anew counts h = read_written P n e.server.on e (next_of e.input.rest) d anew counts h
call_written P n Turn e d anew counts h = turn_written P n (may_turn e.server) e d refl h
call_written P n (Machine ended) e d anew counts h = machine_written P n (may_end e.server.running ended) ended e d refl h
call_written P n Leave e d anew counts h = tt
call_written P n Restart e d anew counts h = tt
call_written P n (Sent count) e d anew counts h = tt

downs_seen : (call : Call) (calls : List Call) (e : ServerEnd)
    → downs (lines_seen (call ∷ calls) e) ≡ reply_texts (answered call e) ++ downs (lines_seen calls (behind_call call e))
downs_seen call calls e =
    let up : List (List ℕ) = line_read call e in
    let down : List (List ℕ) = reply_texts (answered call e) in
    let rest : List Line = lines_seen calls (behind_call call e) in
    downs_append (map Up up) (map Down down ++ rest)
    ∙ (ap (λ (l : List (List ℕ)). l ++ downs (map Down down ++ rest)) (no_downs up)
    ∙ (downs_append (map Down down) rest ∙ ap (λ (l : List (List ℕ)). l ++ downs rest) (downs_of_downs down)))

-- the bytes that are written are those of these lines
record AreWritten (calls : List Call) (e : ServerEnd) : Type 0 where
  bytes : all_written calls e ≡ line_bytes (downs (lines_seen calls e))
  whole : AreLines (downs (lines_seen calls e))

calls_written : (P : Tag → Bool) (n : ℕ) (calls : List Call) (e : ServerEnd) (d : Dialogue) → IsCourse calls e
    → CountLines P (all_read calls e) → IsOn P n e d → AreWritten calls e
calls_written P n [] e d course counts h = record { bytes = refl; whole = tt }
calls_written P n (call ∷ calls) e d course counts h =
    let down : List (List ℕ) = reply_texts (answered call e) in
    let others : List (List ℕ) = downs (lines_seen calls (behind_call call e)) in
    let both = count_parts P (line_read call e) (all_read calls (behind_call call e)) counts in
    let rest : AreWritten calls (behind_call call e) =
    calls_written P n calls (behind_call call e) (seen call e d) course.2 both.1 (call_on P n call e d course.0 course.1 both.0 h) in
    record {
      bytes = ap (λ (l : List ℕ). line_bytes down ++ l) (AreWritten.bytes rest)
          ∙ (sym (line_bytes-append down others) ∙ ap line_bytes (sym (downs_seen call calls e)));
      whole = subst AreLines (sym (downs_seen call calls e))
          (AreLines-append down others (reply_lines (answered call e) (call_written P n call e d course.1 both.0 h)) (AreWritten.whole rest));
    }

-- ---- whole lines

-- of written lines
whole_written : (lines : List (List ℕ)) → AreLines lines → whole_lines (line_bytes lines) ≡ lines
whole_written lines whole =
    ap whole_lines (sym (append-nil (line_bytes lines)))
    ∙ (whole_after (line_bytes lines) [] lines [] (sym (append-nil (line_bytes lines))) whole
    ∙ (ap (λ (l : List (List ℕ)). lines ++ l) whole_none ∙ append-nil lines))

-- of a prefix of written lines
whole_prefix : (down unsent : List ℕ) (lines : List (List ℕ)) → AreLines lines → down ++ unsent ≡ line_bytes lines
    → lines ≡ whole_lines down ++ whole_lines ((are_whole_lines down).0 ++ unsent)
whole_prefix down unsent lines whole is =
    let all = are_whole_lines down in
    sym (whole_written lines whole)
    ∙ (ap whole_lines (sym is) ∙ whole_after down unsent (whole_lines down) all.0 all.2.parts all.2.whole)

-- nothing was read before
accepted_rest : (tools : List (List ℕ)) (before : List Call) (n : ℕ) → may_accept n (reached tools before).server ≡ true
    → (serving_accepted n (reached tools before)).input.rest ≡ []
accepted_rest tools before n may =
    ap (λ (f : Framing). f.rest)
    ((reached_steady tools before).off (not-true (reached tools before).server.on ((and_parts _ _ may).0))).input

pub recorded_reported : Recorded → Prefixes → (n : ℕ) (e : ServerEnd) (calls : List Call) (up down more unsent : List ℕ) (w : Watching)
    → TakesCourse n e calls → up ≡ all_fed calls e ++ more → down ++ unsent ≡ all_written calls e → AreAllRead false up down w
    → AreReportsOfFirst (act_reports w.dialogue.reported) (acts_after n calls e)
recorded_reported recorded prefixes _ _ _ up down more unsent w (takes tools before n calls may course) up_is down_is all =
    let e : ServerEnd = serving_accepted n (reached tools before) in
    let P : Tag → Bool = some_foreign (all_read calls e) in
    let cut : IsCut e.input.rest (behind_calls calls e).input.rest (all_fed calls e) (ups (lines_seen calls e)) = calls_cut calls e course in
    let written : AreWritten calls e =
    calls_written P n calls e (silence false) course (count_own (all_read calls e)) (begun_on P false tools before n may) in
    let fed_is : all_fed calls e ≡ line_bytes (ups (lines_seen calls e)) ++ (behind_calls calls e).input.rest =
    ap (λ (l : List ℕ). l ++ all_fed calls e) (sym (accepted_rest tools before n may)) ∙ IsCut.parts cut in
    recorded_lines recorded prefixes n e calls _ _ up down w (takes tools before n calls may course)
    (ap whole_lines up_is
    ∙ whole_after (all_fed calls e) more (ups (lines_seen calls e)) (behind_calls calls e).input.rest fed_is (IsCut.whole cut))
    (whole_prefix down unsent (downs (lines_seen calls e)) (AreWritten.whole written) (down_is ∙ AreWritten.bytes written)) all
