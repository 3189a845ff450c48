-- More lines report more, and lines of the client report nothing until they are answered.
use Rattle.witness_laws.proofs.Names.{◌&&◌, ◌++◌, ◌||◌, ◌∙◌, ◌∷◌, ◌≡◌, [], all_renewed, answered, ap, append-nil, append_assoc, at_once, at_once_line}
use Rattle.witness_laws.proofs.Names.{Bool, client_lines, client_sent, command_of, Dialogue, Down, downs, Err, false, false≢true, Fault, faulting}
use Rattle.witness_laws.proofs.Names.{foreign_event, has_turn, Heard, heard_as, heard_at, hearing, if◌then◌else◌, is_at_once, is_end, is_open}
use Rattle.witness_laws.proofs.Names.{is_out_of_turn, is_report, is_some, is_under, IsBehind, IsCausal, IsClear, IsPrefix, last_under, ledger}
use Rattle.witness_laws.proofs.Names.{left_over, length, Line, line_of, List, list_any, list_any-append, map, map-append, may_not_come, None}
use Rattle.witness_laws.proofs.Names.{NotInTurn, NotResponse, Ok, Option, or_from, or_parts, refl, remove, Reported, reported_at_once, reported_by}
use Rattle.witness_laws.proofs.Names.{reported_first, Response, response_of, Result, said, said_all, sending, sent, SentCommand, Server}
use Rattle.witness_laws.proofs.Names.{server_answered, server_lines, Signal, signal_of, silence, Some, some_at_once, some_sends, subst, suc, sym, Tag}
use Rattle.witness_laws.proofs.Names.{tag_is, take, true, unasked, unless_crossed, Up, ups, Use, use_heard, use_renewed, waits, zero, ℕ}
use Rattle.witness_laws.proofs.orders.Counts.{answered_prefix, prefix_more, same_prefix, heard_tag}
use Rattle.witness_laws.proofs.orders.Marks.{Found, find_first, marks_first, marks_none}
use Rattle.witness_laws.proofs.orders.Sends.{open_fault, report_same}
use Rattle.witness_laws.proofs.orders.Sorting.{all_append, all_ups, all_downs, said_ordered, same_told}
use Rattle.witness_laws.proofs.orders.Swaps.{InList, in_there, in_map, new_use, or_no}

-- ---- what a line of the client reports

if_reported : (d : Dialogue) (line : List ℕ) (tag : Tag) (what : SentCommand) (b : Bool)
    → (if b then sending (at_once d line) tag what else sending d tag what).reported ≡ d.reported ++ reported_at_once line b
if_reported d line tag what true = refl
if_reported d line tag what false = sym (append-nil d.reported)

client_reported : (d : Dialogue) (line : List ℕ) (w : Option (Tag × SentCommand))
    → (client_sent d line w).reported ≡ d.reported ++ reported_at_once line (is_at_once w)
client_reported d line None = refl
client_reported d line (Some (tag, what)) = if_reported d line tag what (foreign_event tag what)

up_reported : (d : Dialogue) (line : List ℕ) → (said d (Up line)).reported ≡ d.reported ++ reported_at_once line (at_once_line line)
up_reported d line = client_reported d line (sent line (command_of line))

pub ups_reported : (d : Dialogue) (up : List (List ℕ)) → (client_lines d up).reported ≡ d.reported ++ reported_first up
ups_reported d [] = sym (append-nil d.reported)
ups_reported d (line ∷ up) =
    ups_reported (said d (Up line)) up
    ∙ ap (λ (l : List Reported). l ++ reported_first up) (up_reported d line)
    ∙ append_assoc d.reported (reported_at_once line (at_once_line line)) (reported_first up)

pub ups_report_first : (d : Dialogue) (lines : List Line) (up : List (List ℕ))
    → (said_all d (lines ++ map Up up)).reported ≡ (said_all d lines).reported ++ reported_first up
ups_report_first d lines up =
    ap (λ (e : Dialogue). e.reported) (all_append d lines (map Up up) ∙ all_ups (said_all d lines) up) ∙ ups_reported (said_all d lines) up

-- ---- what lines report comes after what was reported

said_prefix : (xs : List Reported) (d : Dialogue) (line : Line) → IsPrefix xs d.reported → IsPrefix xs (said d line).reported
said_prefix xs d (Up line) p =
    subst (IsPrefix xs) (sym (up_reported d line)) (prefix_more xs d.reported (reported_at_once line (at_once_line line)) p)
said_prefix xs d (Down line) p = answered_prefix xs d line (answered (response_of line)) p

all_prefix : (xs : List Reported) (d : Dialogue) (lines : List Line) → IsPrefix xs d.reported → IsPrefix xs (said_all d lines).reported
all_prefix xs d [] p = p
all_prefix xs d (line ∷ lines) p = all_prefix xs (said d line) lines (said_prefix xs d line p)

pub more_report : (d : Dialogue) (lines more : List Line) → IsPrefix (said_all d lines).reported (said_all d (lines ++ more)).reported
more_report d lines more =
    subst (λ (e : Dialogue). IsPrefix (said_all d lines).reported e.reported) (sym (all_append d lines more))
    (all_prefix (said_all d lines).reported (said_all d lines) more (same_prefix (said_all d lines).reported))

pub some_report : (lines more : List Line) → IsCausal (silence false) (lines ++ more) → IsClear (silence false) (lines ++ more)
    → IsPrefix (said_all (silence false) lines).reported (ledger (ups (lines ++ more)) (downs (lines ++ more))).reported
some_report lines more causal clear =
    subst (IsPrefix (said_all (silence false) lines).reported) (same_told (lines ++ more) causal clear) (more_report (silence false) lines more)

pub first_reported : (up down : List (List ℕ)) → IsPrefix (reported_first up) (ledger up down).reported
first_reported up down =
    subst (λ (e : Dialogue). IsPrefix (reported_first up) e.reported) (all_downs (client_lines (silence false) up) down)
    (all_prefix (reported_first up) (client_lines (silence false) up) (map Down down)
    (subst (IsPrefix (reported_first up)) (sym (ups_reported (silence false) up)) (same_prefix (reported_first up))))

-- ---- lines of the client that are not answered: none that may be carried out at once

-- a dialogue, and one in which more commands are open after all others; the first argument: the lines of the client that opened them
record IsLonger (later : List (List ℕ)) (d e : Dialogue) : Type 0 where
  more : List Use
  uses : e.uses ≡ d.uses ++ more
  crossed : e.crossed ≡ d.crossed
  reported : e.reported ≡ d.reported
  under : (tag : Tag) → some_sends tag later ≡ false → is_open tag more ≡ false
  events : (tag : Tag) (signal : Signal) → some_sends tag later ≡ false → is_report tag signal e.events ≡ is_report tag signal d.events

same_longer : (d : Dialogue) → IsLonger [] d d
same_longer d = record {
  more = [];
  uses = sym (append-nil d.uses);
  crossed = refl;
  reported = refl;
  under = λ tag other. refl;
  events = λ tag signal other. refl;
}

-- ---- lines of the client

sending_longer : (d e : Dialogue) (tag : Tag) (what : SentCommand) (line : List ℕ) (later : List (List ℕ))
    → sent line (command_of line) ≡ Some (tag, what) → d.ordered ≡ false → IsLonger later (sending d tag what) e → IsLonger (line ∷ later) d e
sending_longer d e tag what line later is free l =
    let new : Use = new_use d.lines tag what (last_under tag d.uses None) d.known in
    let parts : (t : Tag) → some_sends t (line ∷ later) ≡ false → (tag_is tag t ≡ false) × (some_sends t later ≡ false) =
    λ t other. or_parts (tag_is tag t) (some_sends t later) (ap (λ w. is_under t w || some_sends t later) (sym is) ∙ other) in
    record {
      more = new ∷ l.more;
      uses = l.uses ∙ append_assoc d.uses (new ∷ []) l.more;
      crossed = l.crossed ∙ or_no d.crossed (d.ordered && is_some (line_of (last_under tag d.uses None)))
          (ap (λ (o : Bool). o && is_some (line_of (last_under tag d.uses None))) free);
      reported = l.reported;
      under = λ t other. or_from (tag_is tag t) (is_open t l.more) (parts t other).0 (l.under t (parts t other).1);
      events = λ t signal other. l.events t signal (parts t other).1 ∙ report_same tag t signal d.events (parts t other).0;
    }

client_longer : (d e : Dialogue) (line : List ℕ) (later : List (List ℕ)) (w : Option (Tag × SentCommand)) → sent line (command_of line) ≡ w
    → is_at_once w ≡ false → d.ordered ≡ false → IsLonger later (client_sent d line w) e → IsLonger (line ∷ later) d e
client_longer d e line later None is waits free l = absurd (false≢true (sym waits))
client_longer d e line later (Some (tag, what)) is waits free l =
    sending_longer d e tag what line later is free
    (subst (λ (b : Bool). IsLonger later (if b then sending (at_once d line) tag what else sending d tag what) e) waits l)

ups_longer : (d : Dialogue) (later : List (List ℕ)) → some_at_once later ≡ false → d.ordered ≡ false → IsLonger later d (client_lines d later)
ups_longer d [] waits free = same_longer d
ups_longer d (line ∷ later) waits free =
    let parts = or_parts (at_once_line line) (some_at_once later) waits in
    client_longer d (client_lines (said d (Up line)) later) line later (sent line (command_of line)) refl parts.0 free
    (ups_longer (said d (Up line)) later parts.1 (said_ordered d (Up line) ∙ free))

-- ---- lines of the server

fault_longer : (later : List (List ℕ)) (d e : Dialogue) (x : Reported) → IsLonger later d e → IsLonger later (faulting d x) (faulting e x)
fault_longer later d e x l = record {
  more = map (use_renewed (all_renewed Fault)) l.more;
  uses = ap (map (use_renewed (all_renewed Fault))) l.uses ∙ map-append (use_renewed (all_renewed Fault)) d.uses l.more;
  crossed = l.crossed;
  reported = ap (λ (r : List Reported). r ++ x ∷ []) l.reported;
  under = λ tag other. open_fault tag l.more ∙ l.under tag other;
  events = l.events;
}

pub open_heard : (tag : Tag) (n : ℕ) (h : Heard) (uses : List Use) → is_open tag (map (use_heard n h) uses) ≡ is_open tag uses
open_heard tag n h [] = refl
open_heard tag n h (u ∷ uses) =
    ap (λ (t : Tag). tag_is t tag || is_open tag (map (use_heard n h) uses)) (heard_tag n h u)
    ∙ ap (λ (b : Bool). tag_is u.tag tag || b) (open_heard tag n h uses)

remove_longer : (uses more : List Use) (at : ℕ) → InList uses at → remove (uses ++ more) at ≡ remove uses at ++ more
remove_longer [] more at e = absurd e
remove_longer (u ∷ uses) more zero e = refl
remove_longer (u ∷ uses) more (suc at) e = ap (λ (l : List Use). u ∷ l) (remove_longer uses more at e)

left_longer : (uses more : List Use) (at : ℕ) (ended : Bool) → InList uses at → left_over (uses ++ more) at ended ≡ left_over uses at ended ++ more
left_longer uses more at true e = remove_longer uses more at e
left_longer uses more at false e = refl

ahead_longer : (uses more : List Use) (at : ℕ) → InList uses at → take at (uses ++ more) ≡ take at uses
ahead_longer [] more at e = absurd e
ahead_longer (u ∷ uses) more zero e = refl
ahead_longer (u ∷ uses) more (suc at) e = ap (λ (l : List Use). u ∷ l) (ahead_longer uses more at e)

hearing_longer : (later : List (List ℕ)) (d e : Dialogue) (at : ℕ) (u : Use) (h : Heard) (ended : Bool) → InList d.uses at → IsLonger later d e
    → IsLonger later (hearing d at u h ended) (hearing e at u h ended)
hearing_longer later d e at u h ended here l = record {
  more = map (use_heard u.line h) l.more;
  uses = ap (λ (x : List Use). left_over (map (use_heard u.line h) x) at ended) l.uses
      ∙ ap (λ (x : List Use). left_over x at ended) (map-append (use_heard u.line h) d.uses l.more)
      ∙ left_longer (map (use_heard u.line h) d.uses) (map (use_heard u.line h) l.more) at ended (in_map (use_heard u.line h) d.uses at here);
  crossed = l.crossed;
  reported = ap (λ (r : List Reported). r ++ reported_by (unless_crossed e.crossed (use_heard u.line h u).known) u.tag u.command u.stage h) l.reported
      ∙ ap (λ (c : Bool). d.reported ++ reported_by (unless_crossed c (use_heard u.line h u).known) u.tag u.command u.stage h) l.crossed;
  under = λ tag other. open_heard tag u.line h l.more ∙ l.under tag other;
  events = l.events;
}

if_early : (later : List (List ℕ)) (d e : Dialogue) (at : ℕ) (u : Use) (h : Heard) (ended : Bool) → InList d.uses at → IsLonger later d e → (b : Bool)
    → IsLonger later
    (if b then hearing (faulting d (Reported.Broken NotInTurn u.tag)) at (use_renewed (all_renewed Fault) u) h ended else hearing d at u h ended)
    (if b then hearing (faulting e (Reported.Broken NotInTurn u.tag)) at (use_renewed (all_renewed Fault) u) h ended else hearing e at u h ended)
if_early later d e at u h ended here l true =
    hearing_longer later (faulting d (Reported.Broken NotInTurn u.tag)) (faulting e (Reported.Broken NotInTurn u.tag)) at (use_renewed (all_renewed Fault) u) h
    ended (in_map (use_renewed (all_renewed Fault)) d.uses at here) (fault_longer later d e (Reported.Broken NotInTurn u.tag) l)
if_early later d e at u h ended here l false = hearing_longer later d e at u h ended here l

heard_longer : (later : List (List ℕ)) (d e : Dialogue) (at : ℕ) (u : Use) (h : Heard) (ended : Bool) → InList d.uses at → IsLonger later d e
    → IsLonger later (heard_at d at u h ended) (heard_at e at u h ended)
heard_longer later d e at u h ended here l =
    subst (λ (x : List Use). IsLonger later (heard_at d at u h ended)
    (if has_turn u.command && (list_any waits x && may_not_come u h)
    then hearing (faulting e (Reported.Broken NotInTurn u.tag)) at (use_renewed (all_renewed Fault) u) h ended else hearing e at u h ended))
    (sym (ap (take at) l.uses ∙ ahead_longer d.uses l.more at here))
    (if_early later d e at u h ended here l (is_out_of_turn d.uses at u h))

if_report : (later : List (List ℕ)) (d e : Dialogue) (line : List ℕ) → IsLonger later d e → (b : Bool)
    → IsLonger later (if b then d else faulting d (Reported.Unasked line)) (if b then e else faulting e (Reported.Unasked line))
if_report later d e line l true = l
if_report later d e line l false = fault_longer later d e (Reported.Unasked line) l

first_longer : (later : List (List ℕ)) (d e : Dialogue) (line : List ℕ) (tag : Tag) (signal : Signal) → IsLonger later d e
    → Found (λ (u : Use). tag_is u.tag tag) d.uses
    → IsLonger later (server_answered d line (Some (tag, signal))) (server_answered e line (Some (tag, signal)))
first_longer later d e line tag signal l f =
    subst (λ (x : Dialogue). IsLonger later x (server_answered e line (Some (tag, signal))))
    (sym (marks_first d line tag signal f.before f.one f.after f.parts f.passed f.passes))
    (subst (IsLonger later (heard_at d (length f.before) f.one (heard_as f.one.command signal) (is_end signal)))
    (sym (marks_first e line tag signal f.before f.one (f.after ++ l.more)
    (l.uses ∙ ap (λ (x : List Use). x ++ l.more) f.parts ∙ append_assoc f.before (f.one ∷ f.after) l.more) f.passed f.passes))
    (heard_longer later d e (length f.before) f.one (heard_as f.one.command signal) (is_end signal)
    (subst (λ (x : List Use). InList x (length f.before)) (sym f.parts) (in_there f.before f.one f.after)) l))

none_longer : (later : List (List ℕ)) (d e : Dialogue) (line : List ℕ) (tag : Tag) (signal : Signal) → IsLonger later d e → is_open tag d.uses ≡ false
    → some_sends tag later ≡ false → IsLonger later (server_answered d line (Some (tag, signal))) (server_answered e line (Some (tag, signal)))
none_longer later d e line tag signal l none other =
    subst (λ (x : Dialogue). IsLonger later x (server_answered e line (Some (tag, signal)))) (sym (marks_none d line tag signal none))
    (subst (IsLonger later (unasked d line tag signal))
    (sym (marks_none e line tag signal
    (ap (is_open tag) l.uses ∙ list_any-append (λ (u : Use). tag_is u.tag tag) d.uses l.more
    ∙ or_from (is_open tag d.uses) (is_open tag l.more) none (l.under tag other))))
    (subst (λ (b : Bool). IsLonger later (unasked d line tag signal) (if b then e else faulting e (Reported.Unasked line)))
    (sym (l.events tag signal other)) (if_report later d e line l (is_report tag signal d.events))))

answered_longer : (later : List (List ℕ)) (d e : Dialogue) (line : List ℕ) (r : Result Response NotResponse) → IsLonger later d e
    → IsBehind d.uses later r → IsLonger later (server_answered d line (answered r)) (server_answered e line (answered r))
answered_longer later d e line (Err why) l behind = fault_longer later d e (Reported.Other Server line) l
answered_longer later d e line (Ok r) l behind = go (is_open r.tag d.uses) refl where
  go : (b : Bool) → is_open r.tag d.uses ≡ b → IsLonger later (server_answered d line (answered (Ok r))) (server_answered e line (answered (Ok r)))
  go true is = first_longer later d e line r.tag (signal_of r.mark) l (find_first (λ (u : Use). tag_is u.tag r.tag) d.uses is)
  go false is = none_longer later d e line r.tag (signal_of r.mark) l is (behind is)

pub ups_after : (down up : List (List ℕ)) → ups (map Down down ++ map Up up) ≡ up
ups_after [] [] = refl
ups_after [] (line ∷ up) = ap (λ (l : List (List ℕ)). line ∷ l) (ups_after [] up)
ups_after (line ∷ down) up = ups_after down up

downs_longer : (later : List (List ℕ)) (d e : Dialogue) (down : List (List ℕ)) → IsLonger later d e → IsCausal d (map Down down ++ map Up later)
    → IsLonger later (server_lines d down) (server_lines e down)
downs_longer later d e [] l causal = l
downs_longer later d e (line ∷ down) l causal =
    downs_longer later (said d (Down line)) (said e (Down line)) down
    (answered_longer later d e line (response_of line) l
    (subst (λ (x : List (List ℕ)). IsBehind d.uses x (response_of line)) (ups_after down later) causal.0)) causal.1

-- ---- two recordings

pub client_append : (d : Dialogue) (up more : List (List ℕ)) → client_lines d (up ++ more) ≡ client_lines (client_lines d up) more
client_append d [] more = refl
client_append d (line ∷ up) more = client_append (said d (Up line)) up more

pub server_append : (d : Dialogue) (down more : List (List ℕ)) → server_lines d (down ++ more) ≡ server_lines (server_lines d down) more
server_append d [] more = refl
server_append d (line ∷ down) more = server_append (said d (Down line)) down more

ups_ordered : (d : Dialogue) (up : List (List ℕ)) → (client_lines d up).ordered ≡ d.ordered
ups_ordered d [] = refl
ups_ordered d (line ∷ up) = ups_ordered (said d (Up line)) up ∙ said_ordered d (Up line)

pub unanswered_report_nothing : (up later down : List (List ℕ)) → some_at_once later ≡ false
    → IsCausal (client_lines (silence false) up) (map Down down ++ map Up later)
    → (ledger (up ++ later) down).reported ≡ (ledger up down).reported
unanswered_report_nothing up later down waits causal =
    ap (λ (d : Dialogue). (server_lines d down).reported) (client_append (silence false) up later)
    ∙ (downs_longer later (client_lines (silence false) up) (client_lines (client_lines (silence false) up) later) down
    (ups_longer (client_lines (silence false) up) later waits (ups_ordered (silence false) up)) causal).reported

pub ledgers_grow : (up later down more : List (List ℕ)) → some_at_once later ≡ false
    → IsCausal (client_lines (silence false) up) (map Down down ++ map Up later)
    → IsPrefix (ledger up down).reported (ledger (up ++ later) (down ++ more)).reported
ledgers_grow up later down more waits causal =
    subst (λ (l : List Reported). IsPrefix l (ledger (up ++ later) (down ++ more)).reported) (unanswered_report_nothing up later down waits causal)
    (subst (λ (d : Dialogue). IsPrefix (ledger (up ++ later) down).reported d.reported)
    (all_downs (ledger (up ++ later) down) more ∙ sym (server_append (client_lines (silence false) (up ++ later)) down more))
    (all_prefix (ledger (up ++ later) down).reported (ledger (up ++ later) down) (map Down more) (same_prefix (ledger (up ++ later) down).reported)))
