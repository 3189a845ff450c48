-- What a relay reads is the lines of both ends, and what it writes is what two recordings report.
use Rattle.witness_laws.proofs.Names.{◌++◌, ◌∙◌, ◌∷◌, ◌≡◌, [], after_calls, after_next, ap, append-nil, append_assoc, AreAllRead, AreLinesOf, Ask}
use Rattle.witness_laws.proofs.Names.{begun, bytes_fed, Call, came, ClaimNoMore, client, client_front, client_lines, client_read, client_times}
use Rattle.witness_laws.proofs.Names.{Course, Dialogue, down_in, downs, Err, false, fault_in, fed, Feed, Framing, FromClient, FromServer, Front}
use Rattle.witness_laws.proofs.Names.{handed_out, handed_out_all, IfOk, in_turn, IsAllTold, IsCausal, IsClear, IsLineDue, IsNone, IsStream, ledger}
use Rattle.witness_laws.proofs.Names.{Line, line_in, lines_in, lines_of, lines_read, List, MakeDue, Move, next_of, no_bytes, NoLineLeft, None, none}
use Rattle.witness_laws.proofs.Names.{Ok, one_stream, Option, Read, Reads, ReadsClient, ReadsServer, refl, Relaying, Relays, Reported, said_all, server}
use Rattle.witness_laws.proofs.Names.{server_front, server_lines, server_times, silence, Some, subst, suc, sym, ToClient, told_lines, ToServer, true}
use Rattle.witness_laws.proofs.Names.{up_in, ups, Watching, with_move, Write, zero, ℕ}
use Rattle.witness.specs.Relaying.{Did, moved}
use Rattle.witness.specs.Watching.{server_read, after_first, left_after}
use Rattle.line_framing.specs.Framing.{left_by}
use Rattle.line_framing.specs.declared.faults.FramingFault.{FramingFault}
use Rattle.witness.proofs.Prefixes.{with_reports, prefixed, client_after, server_after}
use Rattle.witness_laws.proofs.orders.Claimed.{ups_append, downs_append, causal_without, told_unordered, ordered_claim}
use Rattle.witness_laws.proofs.orders.More.{client_append, server_append}
use Rattle.witness_laws.proofs.orders.Sorting.{all_append, same_told}
use Rattle.witness_laws.proofs.orders.Views.{clear_alike, silence_alike}

-- ---- the bytes of one end

fed_append : (calls more : List Call) → bytes_fed (calls ++ more) ≡ bytes_fed calls ++ bytes_fed more
fed_append [] more = refl
fed_append (Feed piece ∷ calls) more = ap (λ (l : List ℕ). piece ++ l) (fed_append calls more) ∙ sym (append_assoc piece (bytes_fed calls) (bytes_fed more))
fed_append (Ask ∷ calls) more = fed_append calls more

after_append : (f : Framing) (calls more : List Call) → after_calls f (calls ++ more) ≡ after_calls (after_calls f calls) more
after_append f [] more = refl
after_append f (Feed piece ∷ calls) more = after_append (fed f piece) calls more
after_append f (Ask ∷ calls) more = after_append (after_next f) calls more

out_append : (f : Framing) (calls more : List Call)
    → handed_out f (calls ++ more) ≡ handed_out f calls ++ handed_out (after_calls f calls) more
out_append f [] more = refl
out_append f (Feed piece ∷ calls) more = out_append (fed f piece) calls more
out_append f (Ask ∷ calls) more =
    ap (λ (l : List (List ℕ)). line_in (next_of f.rest) ++ l) (out_append (after_next f) calls more)
    ∙ sym (append_assoc (line_in (next_of f.rest)) (handed_out (after_next f) calls) (handed_out (after_calls (after_next f) calls) more))

-- what a witness keeps of a buffer: nothing of bytes that are no line
pub data IsKept : Framing → Framing → Type 0 where
  kept_all : (rest : List ℕ) → IsKept (record { rest = rest; fault = None }) (record { rest = rest; fault = None })
  kept_none : (rest : List ℕ) (fault : FramingFault) → next_of rest ≡ Err fault
      → IsKept (record { rest = rest; fault = Some fault }) (record { rest = []; fault = Some fault })

kept_fed : (g f : Framing) (piece : List ℕ) → IsKept g f → IsKept (fed g piece) (fed f piece)
kept_fed _ _ piece (kept_all rest) = kept_all (rest ++ piece)
kept_fed _ _ piece (kept_none rest fault e) = kept_none rest fault e

asked_all : (rest : List ℕ) (front : Front) → next_of rest ≡ front
    → IsKept (left_by front (record { rest = rest; fault = None })) (left_after front (record { rest = rest; fault = None }))
asked_all rest (Ok None) e = kept_all rest
asked_all rest (Ok (Some (line, more))) e = kept_all more
asked_all rest (Err fault) e = kept_none rest fault e

kept_asked : (g f : Framing) → IsKept g f → IsKept (after_next g) (after_first f)
kept_asked _ _ (kept_all rest) = asked_all rest (next_of rest) refl
kept_asked _ _ (kept_none rest fault e) =
    subst (λ (front : Front). IsKept (left_by front (record { rest = rest; fault = Some fault })) (record { rest = []; fault = Some fault })) (sym e)
    (kept_none rest fault e)

kept_line : (g f : Framing) → IsKept g f → line_in (next_of g.rest) ≡ line_in (next_of f.rest)
kept_line _ _ (kept_all rest) = refl
kept_line _ _ (kept_none rest fault e) = ap line_in e

no_line : (front : Front) → (IsLineDue front → ⊥) → IfOk front IsNone
no_line (Ok None) ended = refl
no_line (Ok (Some found)) ended = absurd (ended refl)
no_line (Err fault) ended = tt

kept_ended : (g f : Framing) → IsKept g f → (IsLineDue (next_of f.rest) → ⊥) → NoLineLeft g
kept_ended _ _ (kept_all rest) ended = no_line (next_of rest) ended
kept_ended _ _ (kept_none rest fault e) ended = subst (λ (front : Front). IfOk front IsNone) (sym e) tt

-- a witness to whom these bytes of an end came, and that read these lines of it
pub record IsRead (bytes : List ℕ) (f : Framing) (lines : List (List ℕ)) : Type 0 where
  pub calls : List Call
  pub bytes_are : bytes_fed calls ≡ bytes
  pub left : IsKept (after_calls no_bytes calls) f
  pub out : handed_out no_bytes calls ≡ lines

read_fed : (bytes piece : List ℕ) (f : Framing) (lines : List (List ℕ)) → IsRead bytes f lines → IsRead (bytes ++ piece) (fed f piece) lines
read_fed bytes piece f lines r = record {
  calls = r.calls ++ Feed piece ∷ [];
  bytes_are = fed_append r.calls (Feed piece ∷ []) ∙ ap (λ (l : List ℕ). l ++ (piece ++ [])) r.bytes_are
      ∙ ap (λ (l : List ℕ). bytes ++ l) (append-nil piece);
  left = subst (λ (g : Framing). IsKept g (fed f piece)) (sym (after_append no_bytes r.calls (Feed piece ∷ [])))
      (kept_fed (after_calls no_bytes r.calls) f piece r.left);
  out = out_append no_bytes r.calls (Feed piece ∷ []) ∙ append-nil (handed_out no_bytes r.calls) ∙ r.out;
}

pub read_asked : (bytes : List ℕ) (f : Framing) (lines : List (List ℕ)) → IsRead bytes f lines
    → IsRead bytes (after_first f) (lines ++ line_in (next_of f.rest))
read_asked bytes f lines r = record {
  calls = r.calls ++ Ask ∷ [];
  bytes_are = fed_append r.calls (Ask ∷ []) ∙ append-nil (bytes_fed r.calls) ∙ r.bytes_are;
  left = subst (λ (g : Framing). IsKept g (after_first f)) (sym (after_append no_bytes r.calls (Ask ∷ [])))
      (kept_asked (after_calls no_bytes r.calls) f r.left);
  out = out_append no_bytes r.calls (Ask ∷ [])
      ∙ ap (λ (l : List (List ℕ)). handed_out no_bytes r.calls ++ (l ++ [])) (kept_line (after_calls no_bytes r.calls) f r.left)
      ∙ ap (λ (l : List (List ℕ)). handed_out no_bytes r.calls ++ l) (append-nil (line_in (next_of f.rest)))
      ∙ ap (λ (l : List (List ℕ)). l ++ line_in (next_of f.rest)) r.out;
}

pub read_stream : (bytes : List ℕ) (f : Framing) (lines : List (List ℕ)) → IsRead bytes f lines → (IsLineDue (next_of f.rest) → ⊥)
    → (rest : List ℕ) × (fault : Option FramingFault) × IsStream bytes lines rest fault
read_stream bytes f lines r ended =
    let why : Option FramingFault = fault_in (next_of (after_calls no_bytes r.calls).rest) in
    let all : (rest : List ℕ) × IsStream (bytes_fed r.calls) (handed_out no_bytes r.calls) rest why =
    handed_out_all r.calls (kept_ended (after_calls no_bytes r.calls) f r.left ended) in (
      all.0,
      why,
      subst (λ (l : List (List ℕ)). IsStream bytes l all.0 why) r.out
          (subst (λ (b : List ℕ). IsStream b (handed_out no_bytes r.calls) all.0 why) r.bytes_are all.1),
    )

-- ---- a relay

ups_in : (front : Front) → (ups (up_in front) ≡ line_in front) × (downs (up_in front) ≡ [])
ups_in (Ok None) = (refl, refl)
ups_in (Ok (Some (line, rest))) = (refl, refl)
ups_in (Err fault) = (refl, refl)

downs_in : (front : Front) → (downs (down_in front) ≡ line_in front) × (ups (down_in front) ≡ [])
downs_in (Ok None) = (refl, refl)
downs_in (Ok (Some (line, rest))) = (refl, refl)
downs_in (Err fault) = (refl, refl)

client_front_said : (d : Dialogue) (front : Front) → client_front d front ≡ said_all d (up_in front)
client_front_said d (Ok None) = refl
client_front_said d (Ok (Some (line, rest))) = refl
client_front_said d (Err fault) = refl

server_front_said : (d : Dialogue) (front : Front) → server_front d front ≡ said_all d (down_in front)
server_front_said d (Ok None) = refl
server_front_said d (Ok (Some (line, rest))) = refl
server_front_said d (Err fault) = refl

-- a witness to whom these bytes came, and that read these lines; what it reported before was taken
pub record IsAt (up down : List ℕ) (taken : List Reported) (w : Watching) (lines : List Line) : Type 0 where
  pub dialogue : prefixed taken w.dialogue ≡ said_all (silence true) lines
  pub above : IsRead up w.up (ups lines)
  pub below : IsRead down w.down (downs lines)

said_more : (d e : Dialogue) (lines more : List Line) → d ≡ said_all (silence true) lines → e ≡ said_all d more → e ≡ said_all (silence true) (lines ++ more)
said_more d e lines more same then = then ∙ ap (λ (x : Dialogue). said_all x more) same ∙ sym (all_append (silence true) lines more)

pub at_client : (up down : List ℕ) (taken : List Reported) (w : Watching) (lines : List Line) → IsAt up down taken w lines
    → IsAt up down taken (client_read w) (lines ++ up_in (next_of w.up.rest))
at_client up down taken w lines at = record {
  dialogue = said_more (prefixed taken w.dialogue) (prefixed taken (client_read w).dialogue) lines (up_in (next_of w.up.rest)) at.dialogue
      (sym (client_after taken w.dialogue (next_of w.up.rest)) ∙ client_front_said (prefixed taken w.dialogue) (next_of w.up.rest));
  above = subst (IsRead up (after_first w.up))
      (ap (λ (l : List (List ℕ)). ups lines ++ l) (sym ((ups_in (next_of w.up.rest)).0)) ∙ sym (ups_append lines (up_in (next_of w.up.rest))))
      (read_asked up w.up (ups lines) at.above);
  below = subst (IsRead down w.down)
      (sym (downs_append lines (up_in (next_of w.up.rest))
      ∙ ap (λ (l : List (List ℕ)). downs lines ++ l) ((ups_in (next_of w.up.rest)).1) ∙ append-nil (downs lines)))
      at.below;
}

pub at_server : (up down : List ℕ) (taken : List Reported) (w : Watching) (lines : List Line) → IsAt up down taken w lines
    → IsAt up down taken (server_read w) (lines ++ down_in (next_of w.down.rest))
at_server up down taken w lines at = record {
  dialogue = said_more (prefixed taken w.dialogue) (prefixed taken (server_read w).dialogue) lines (down_in (next_of w.down.rest)) at.dialogue
      (sym (server_after taken w.dialogue (next_of w.down.rest)) ∙ server_front_said (prefixed taken w.dialogue) (next_of w.down.rest));
  above = subst (IsRead up w.up)
      (sym (ups_append lines (down_in (next_of w.down.rest))
      ∙ ap (λ (l : List (List ℕ)). ups lines ++ l) ((downs_in (next_of w.down.rest)).1) ∙ append-nil (ups lines)))
      at.above;
  below = subst (IsRead down (after_first w.down))
      (ap (λ (l : List (List ℕ)). downs lines ++ l) (sym ((downs_in (next_of w.down.rest)).0))
      ∙ sym (downs_append lines (down_in (next_of w.down.rest))))
      (read_asked down w.down (downs lines) at.below);
}

at_same : (up down : List ℕ) (taken : List Reported) (w : Watching) (lines : List Line) → IsAt up down taken w lines → IsAt up down taken w (lines ++ [])
at_same up down taken w lines at = subst (IsAt up down taken w) (sym (append-nil lines)) at

pub at_reads : (up down : List ℕ) (taken : List Reported) (old new : Watching) (lines : List Line) (reads : Reads old new) → IsAt up down taken old lines
    → IsAt up down taken new (lines ++ lines_read old new reads)
at_reads up down taken _ _ lines (none w) at = at_same up down taken w lines at
at_reads up down taken _ _ lines (client old w before) at =
    subst (IsAt up down taken (client_read w)) (append_assoc lines (lines_read old w before) (up_in (next_of w.up.rest)))
    (at_client up down taken w (lines ++ lines_read old w before) (at_reads up down taken old w lines before at))
at_reads up down taken _ _ lines (server old w before ended) at =
    subst (IsAt up down taken (server_read w)) (append_assoc lines (lines_read old w before) (down_in (next_of w.down.rest)))
    (at_server up down taken w (lines ++ lines_read old w before) (at_reads up down taken old w lines before at))

pub at_move : (c : Course) (r new : Relaying) (move : Move) (did : Did r move new) (lines : List Line)
    → IsAt c.came_up c.came_down c.reported r.watching lines
    → IsAt (with_move c r move).came_up (with_move c r move).came_down (with_move c r move).reported new.watching (lines ++ lines_in r new move did)
at_move c r new (FromClient bytes) did lines at =
    at_same (c.came_up ++ bytes) c.came_down c.reported new.watching lines
    (subst (λ (x : Relaying). IsAt (c.came_up ++ bytes) c.came_down c.reported x.watching lines) (sym did)
    (record { dialogue = at.dialogue; above = read_fed c.came_up bytes r.watching.up (ups lines) at.above; below = at.below }))
at_move c r new (FromServer bytes) did lines at =
    at_same c.came_up (c.came_down ++ bytes) c.reported new.watching lines
    (subst (λ (x : Relaying). IsAt c.came_up (c.came_down ++ bytes) c.reported x.watching lines) (sym did)
    (record { dialogue = at.dialogue; above = at.above; below = read_fed c.came_down bytes r.watching.down (downs lines) at.below }))
at_move c r new Read did lines at = at_reads c.came_up c.came_down c.reported r.watching new.watching lines did.0 at
at_move c r new MakeDue did lines at =
    at_same c.came_up c.came_down (c.reported ++ r.watching.dialogue.reported) new.watching lines
    (subst (λ (x : Relaying). IsAt c.came_up c.came_down (c.reported ++ r.watching.dialogue.reported) x.watching lines) (sym did)
    (record {
      dialogue = ap (with_reports r.watching.dialogue) (append-nil (c.reported ++ r.watching.dialogue.reported)) ∙ at.dialogue;
      above = at.above;
      below = at.below;
    }))
at_move c r new Write did lines at =
    at_same c.came_up c.came_down c.reported new.watching lines
    (subst (λ (x : Relaying). IsAt c.came_up c.came_down c.reported x.watching lines) (sym did) at)
at_move c r new (ToServer n) did lines at =
    at_same c.came_up c.came_down c.reported new.watching lines
    (subst (λ (x : Relaying). IsAt c.came_up c.came_down c.reported x.watching lines) (sym did.1) at)
at_move c r new (ToClient n) did lines at =
    at_same c.came_up c.came_down c.reported new.watching lines
    (subst (λ (x : Relaying). IsAt c.came_up c.came_down c.reported x.watching lines) (sym did.2) at)

nothing_read : IsRead [] no_bytes []
nothing_read = record { calls = []; bytes_are = refl; left = kept_all []; out = refl }

pub at_course : (n : ℕ) (c : Course) (r : Relaying) (course : Relays n c r)
    → IsAt c.came_up c.came_down c.reported r.watching (lines_of n c r course)
at_course n _ _ begun = record { dialogue = refl; above = nothing_read; below = nothing_read }
at_course n _ _ (moved c r new move before did) = at_move c r new move did (lines_of n c r before) (at_course n c r before)

pub read_lines : (n : ℕ) (c : Course) (r : Relaying) (course : Relays n c r) → IsAllTold r
    → AreLinesOf c.came_up c.came_down (lines_of n c r course)
read_lines n c r course all =
    let at : IsAt c.came_up c.came_down c.reported r.watching (lines_of n c r course) = at_course n c r course in
    let above = read_stream c.came_up r.watching.up (ups (lines_of n c r course)) at.above all.client in
    let below = read_stream c.came_down r.watching.down (downs (lines_of n c r course)) at.below all.server in
    record {
      up_rest = above.0;
      up_fault = above.1;
      up_lines = above.2;
      down_rest = below.0;
      down_fault = below.1;
      down_lines = below.2;
    }

pub told_all : (n : ℕ) (c : Course) (r : Relaying) (course : Relays n c r)
    → c.reported ++ r.watching.dialogue.reported ≡ (said_all (silence true) (lines_of n c r course)).reported
told_all n c r course = ap (λ (d : Dialogue). d.reported) ((at_course n c r course).dialogue)

-- ---- two recordings

record ReadUp (old new : Watching) : Type 0 where
  lines : List (List ℕ)
  dialogue : new.dialogue ≡ client_lines old.dialogue lines
  above : (bytes : List ℕ) (before : List (List ℕ)) → IsRead bytes old.up before → IsRead bytes new.up (before ++ lines)
  below : new.down ≡ old.down

record ReadDown (old new : Watching) : Type 0 where
  lines : List (List ℕ)
  dialogue : new.dialogue ≡ server_lines old.dialogue lines
  below : (bytes : List ℕ) (before : List (List ℕ)) → IsRead bytes old.down before → IsRead bytes new.down (before ++ lines)

client_front_lines : (d : Dialogue) (front : Front) → client_front d front ≡ client_lines d (line_in front)
client_front_lines d (Ok None) = refl
client_front_lines d (Ok (Some (line, rest))) = refl
client_front_lines d (Err fault) = refl

server_front_lines : (d : Dialogue) (front : Front) → server_front d front ≡ server_lines d (line_in front)
server_front_lines d (Ok None) = refl
server_front_lines d (Ok (Some (line, rest))) = refl
server_front_lines d (Err fault) = refl

times_up : (n : ℕ) (w : Watching) → ReadUp w (client_times n w)
times_up zero w = record {
  lines = [];
  dialogue = refl;
  above = λ bytes before read. subst (IsRead bytes w.up) (sym (append-nil before)) read;
  below = refl;
}
times_up (suc n) w =
    let first : ReadUp w (client_times n w) = times_up n w in
    let v : Watching = client_times n w in
    record {
      lines = first.lines ++ line_in (next_of v.up.rest);
      dialogue = client_front_lines v.dialogue (next_of v.up.rest)
          ∙ ap (λ (d : Dialogue). client_lines d (line_in (next_of v.up.rest))) first.dialogue
          ∙ sym (client_append w.dialogue first.lines (line_in (next_of v.up.rest)));
      above = λ bytes before read.
          subst (IsRead bytes (after_first v.up)) (append_assoc before first.lines (line_in (next_of v.up.rest)))
          (read_asked bytes v.up (before ++ first.lines) (first.above bytes before read));
      below = first.below;
    }

times_down : (n : ℕ) (w : Watching) → ReadDown w (server_times n w)
times_down zero w = record {
  lines = [];
  dialogue = refl;
  below = λ bytes before read. subst (IsRead bytes w.down) (sym (append-nil before)) read;
}
times_down (suc n) w =
    let first : ReadDown w (server_times n w) = times_down n w in
    let v : Watching = server_times n w in
    record {
      lines = first.lines ++ line_in (next_of v.down.rest);
      dialogue = server_front_lines v.dialogue (next_of v.down.rest)
          ∙ ap (λ (d : Dialogue). server_lines d (line_in (next_of v.down.rest))) first.dialogue
          ∙ sym (server_append w.dialogue first.lines (line_in (next_of v.down.rest)));
      below = λ bytes before read.
          subst (IsRead bytes (after_first v.down)) (append_assoc before first.lines (line_in (next_of v.down.rest)))
          (read_asked bytes v.down (before ++ first.lines) (first.below bytes before read));
    }

reads_up : (old new : Watching) → ReadsClient old new → ReadUp old new
reads_up old new reads = subst (ReadUp old) (sym reads.1) (times_up reads.0 old)

reads_down : (old new : Watching) → ReadsServer old new → ReadDown old new
reads_down old new reads = subst (ReadDown old) (sym reads.1) (times_down reads.0 old)

bytes_came : (bytes : List ℕ) → IsRead bytes (fed no_bytes bytes) []
bytes_came bytes = record { calls = Feed bytes ∷ []; bytes_are = append-nil bytes; left = kept_all bytes; out = refl }

-- what two recordings report is what their lines report, those of the client read first
pub recorded_told : (up down : List ℕ) (w : Watching) (lines : List Line) → AreAllRead false up down w → AreLinesOf up down lines
    → w.dialogue.reported ≡ (ledger (ups lines) (downs lines)).reported
recorded_told up down w lines all are =
    let first : ReadUp (came false up down) all.between = reads_up (came false up down) all.between all.client in
    let then : ReadDown all.between w = reads_down all.between w all.server in
    let above = read_stream up all.between.up first.lines (first.above up [] (bytes_came up)) all.client_ended in
    let below = read_stream down w.down then.lines
    (then.below down [] (subst (λ (f : Framing). IsRead down f []) (sym first.below) (bytes_came down))) all.server_ended in
    let ups_are = one_stream up first.lines (ups lines) above.0 are.up_rest above.1 are.up_fault
    above.2 are.up_lines in
    let downs_are = one_stream down then.lines (downs lines) below.0 are.down_rest below.1 are.down_fault
    below.2 are.down_lines in
    ap (λ (d : Dialogue). d.reported) then.dialogue
    ∙ ap (λ (d : Dialogue). (server_lines d then.lines).reported) first.dialogue
    ∙ ap (λ (l : List (List ℕ)). (ledger l then.lines).reported) ups_are.lines_are
    ∙ ap (λ (l : List (List ℕ)). (ledger (ups lines) l).reported) downs_are.lines_are

-- all that was reported, when it was taken
all_taken : (n : ℕ) (c : Course) (r : Relaying) (course : Relays n c r) → IsAllTold r → c.reported ≡ (said_all (silence true) (lines_of n c r course)).reported
all_taken n c r course all =
    sym (append-nil c.reported) ∙ ap (λ (l : List Reported). c.reported ++ l) (sym all.taken) ∙ told_all n c r course

pub written_recorded : ((n : ℕ) (c : Course) (r : Relaying) → Relays n c r → c.written ++ r.due ≡ told_lines n c.reported)
    → (n : ℕ) (c : Course) (r : Relaying) (course : Relays n c r) (w : Watching) → IsAllTold r → IsCausal (silence true) (lines_of n c r course)
    → IsClear (silence true) (lines_of n c r course) → (said_all (silence true) (lines_of n c r course)).crossed ≡ false
    → AreAllRead false c.came_up c.came_down w → c.written ≡ told_lines n w.dialogue.reported
written_recorded written n c r course w all causal clear free recorded =
    let lines : List Line = lines_of n c r course in
    sym (append-nil c.written) ∙ ap (λ (l : List ℕ). c.written ++ l) (sym all.written) ∙ written n c r course
    ∙ ap (told_lines n)
    (all_taken n c r course all
    ∙ sym (told_unordered lines free)
    ∙ same_told lines (causal_without lines causal) (clear_alike (silence true) (silence false) lines (silence_alike true false) clear)
    ∙ sym (recorded_told c.came_up c.came_down w lines recorded (read_lines n c r course all)))

pub recordings_claim : (n : ℕ) (c : Course) (r : Relaying) (course : Relays n c r) (w : Watching) → IsAllTold r
    → IsCausal (silence true) (lines_of n c r course) → (said_all (silence true) (lines_of n c r course)).crossed ≡ false
    → AreAllRead false c.came_up c.came_down w → ClaimNoMore (in_turn w.dialogue.reported) (in_turn c.reported)
recordings_claim n c r course w all causal free recorded =
    let lines : List Line = lines_of n c r course in
    subst (λ (l : List Reported). ClaimNoMore (in_turn w.dialogue.reported) (in_turn l)) (sym (all_taken n c r course all))
    (subst (λ (l : List Reported). ClaimNoMore (in_turn l) (in_turn (said_all (silence true) lines).reported))
    (ap (λ (l : List (List ℕ)). (ledger l (downs lines)).reported) (append-nil (ups lines))
    ∙ sym (recorded_told c.came_up c.came_down w lines recorded (read_lines n c r course all)))
    (ordered_claim lines [] (subst (IsCausal (silence true)) (sym (append-nil lines)) causal) free))
