-- A relay reads the lines of the client no later than they came, and all others in their order.
use Rattle.witness_laws.proofs.Names.{◌++◌, ◌∙◌, ◌∷◌, ◌≡◌, [], after_calls, ap, append-nil, append_assoc, append_cancel_left, are_whole_lines}
use Rattle.witness_laws.proofs.Names.{AreAllRead, AreLines, AreLines-append, begun, bytes_fed, client, client_read, completed, Course, Down, down_in}
use Rattle.witness_laws.proofs.Names.{downs, drop, drop-append_seam, Err, false, fault_in, Framing, FramingFault, FromClient, FromServer, Front}
use Rattle.witness_laws.proofs.Names.{handed_out, IsAccounted, IsAllTold, IsCausal, IsClear, IsLineDue, IsStream, length, Line, line_bytes}
use Rattle.witness_laws.proofs.Names.{line_bytes-append, lines_came, lines_coming, lines_in, lines_of, lines_read, List, MakeDue, map, map-append}
use Rattle.witness_laws.proofs.Names.{Move, next_of, no_bytes, None, none, nothing_is_lost, Ok, one_stream, Option, Read, Reads, refl, Relaying}
use Rattle.witness_laws.proofs.Names.{Relays, Reported, said_all, server, silence, Some, subst, sym, ToClient, told_lines, ToServer, true, Up, up_in}
use Rattle.witness_laws.proofs.Names.{ups, Watching, whole_lines, with_move, Write, ℕ}
use Rattle.witness.specs.Relaying.{Did, moved}
use Rattle.witness.specs.Watching.{server_read}
use Rattle.witness_laws.proofs.orders.Claimed.{ups_append, downs_append}
use Rattle.witness_laws.proofs.orders.Counts.{silence_counted}
use Rattle.witness_laws.proofs.orders.Courses.{IsRead, kept_all, IsAt, read_stream, at_course, at_client, at_server, at_reads, written_recorded}
use Rattle.witness_laws.proofs.orders.Views.{IsSooner, same, swapped, sooner_causal, sooner_clear}

-- ---- whole lines

pub whole_is : (bytes : List ℕ) (lines : List (List ℕ)) (rest : List ℕ) (fault : Option FramingFault) → IsStream bytes lines rest fault
    → whole_lines bytes ≡ lines
whole_is bytes lines rest fault stream =
    let all = are_whole_lines bytes in
    (one_stream bytes (whole_lines bytes) lines all.0 rest all.1 fault all.2 stream).lines_are

-- lines before bytes
pub whole_after : (bytes more : List ℕ) (lines : List (List ℕ)) (left : List ℕ) → bytes ≡ line_bytes lines ++ left → AreLines lines
    → whole_lines (bytes ++ more) ≡ lines ++ whole_lines (left ++ more)
whole_after bytes more lines left parts whole =
    let all = are_whole_lines (left ++ more) in
    whole_is (bytes ++ more) (lines ++ whole_lines (left ++ more)) all.0 all.1 (record {
      parts = ap (λ (l : List ℕ). l ++ more) parts ∙ append_assoc (line_bytes lines) left more
          ∙ ap (λ (l : List ℕ). line_bytes lines ++ l) all.2.parts
          ∙ sym (append_assoc (line_bytes lines) (line_bytes (whole_lines (left ++ more))) all.0)
          ∙ ap (λ (l : List ℕ). l ++ all.0) (sym (line_bytes-append lines (whole_lines (left ++ more))));
      whole = AreLines-append lines (whole_lines (left ++ more)) whole all.2.whole;
      no_more = all.2.no_more;
      faulty = all.2.faulty;
    })

-- more bytes complete more lines
whole_more : (came bytes : List ℕ) → whole_lines (came ++ bytes) ≡ whole_lines came ++ completed came bytes
whole_more came bytes =
    let all = are_whole_lines came in
    let more : whole_lines (came ++ bytes) ≡ whole_lines came ++ whole_lines (all.0 ++ bytes) =
    whole_after came bytes (whole_lines came) all.0 all.2.parts all.2.whole in
    more ∙ ap (λ (l : List (List ℕ)). whole_lines came ++ l)
    (sym (ap (λ (l : List (List ℕ)). drop (length (whole_lines came)) l) more
    ∙ drop-append_seam (whole_lines came) (whole_lines (all.0 ++ bytes))))

-- the lines that were read are the first of the whole lines
record HasRest (all first : List (List ℕ)) : Type 0 where
  rest : List (List ℕ)
  parts : all ≡ first ++ rest

read_first : (bytes : List ℕ) (f : Framing) (lines : List (List ℕ)) → IsRead bytes f lines → HasRest (whole_lines bytes) lines
read_first bytes f lines r =
    let a : IsAccounted (bytes_fed r.calls) (handed_out no_bytes r.calls) (after_calls no_bytes r.calls) = nothing_is_lost r.calls in
    let left : List ℕ = (after_calls no_bytes r.calls).rest ++ a.refused in
    record {
      rest = whole_lines (left ++ []);
      parts = ap whole_lines (sym r.bytes_are ∙ sym (append-nil (bytes_fed r.calls)))
          ∙ whole_after (bytes_fed r.calls) [] (handed_out no_bytes r.calls) left a.parts a.whole
          ∙ ap (λ (l : List (List ℕ)). l ++ whole_lines (left ++ [])) r.out;
    }

read_whole : (bytes : List ℕ) (f : Framing) (lines : List (List ℕ)) → IsRead bytes f lines → (IsLineDue (next_of f.rest) → ⊥)
    → whole_lines bytes ≡ lines
read_whole bytes f lines r ended =
    let stream = read_stream bytes f lines r ended in
    whole_is bytes lines stream.0 stream.1 stream.2

-- ---- lines of the client earlier

sooner_as : (first lines others : List Line) → lines ≡ others → IsSooner first lines → IsSooner first others
sooner_as first lines others e p = subst (IsSooner first) e p

sooner_append : (first lines more : List Line) → IsSooner first lines → IsSooner (first ++ more) (lines ++ more)
sooner_append first _ more same = same
sooner_append first _ more (swapped before after up down p) =
    sooner_as (first ++ more) (before ++ Up up ∷ Down down ∷ (after ++ more)) ((before ++ Up up ∷ Down down ∷ after) ++ more)
    (sym (append_assoc before (Up up ∷ Down down ∷ after) more))
    (swapped before (after ++ more) up down
    (sooner_as (first ++ more) ((before ++ Down down ∷ Up up ∷ after) ++ more) (before ++ Down down ∷ Up up ∷ (after ++ more))
    (append_assoc before (Down down ∷ Up up ∷ after) more)
    (sooner_append first (before ++ Down down ∷ Up up ∷ after) more p)))

one_sooner : (first before : List Line) (down : List (List ℕ)) (up : List ℕ) (after : List Line)
    → IsSooner first (before ++ (map Down down ++ Up up ∷ after)) → IsSooner first (before ++ Up up ∷ (map Down down ++ after))
one_sooner first before [] up after p = p
one_sooner first before (line ∷ down) up after p =
    swapped before (map Down down ++ after) up line
    (sooner_as first ((before ++ Down line ∷ []) ++ Up up ∷ (map Down down ++ after)) (before ++ Down line ∷ Up up ∷ (map Down down ++ after))
    (append_assoc before (Down line ∷ []) (Up up ∷ (map Down down ++ after)))
    (one_sooner first (before ++ Down line ∷ []) down up after
    (sooner_as first (before ++ Down line ∷ (map Down down ++ Up up ∷ after)) ((before ++ Down line ∷ []) ++ (map Down down ++ Up up ∷ after))
    (sym (append_assoc before (Down line ∷ []) (map Down down ++ Up up ∷ after))) p)))

all_sooner : (first before : List Line) (down up : List (List ℕ)) → IsSooner first (before ++ (map Down down ++ map Up up))
    → IsSooner first (before ++ (map Up up ++ map Down down))
all_sooner first before down [] p =
    sooner_as first (before ++ (map Down down ++ [])) (before ++ map Down down)
    (ap (λ (l : List Line). before ++ l) (append-nil (map Down down))) p
all_sooner first before down (line ∷ up) p =
    sooner_as first ((before ++ Up line ∷ []) ++ (map Up up ++ map Down down)) (before ++ Up line ∷ (map Up up ++ map Down down))
    (append_assoc before (Up line ∷ []) (map Up up ++ map Down down))
    (all_sooner first (before ++ Up line ∷ []) down up
    (sooner_as first (before ++ Up line ∷ (map Down down ++ map Up up)) ((before ++ Up line ∷ []) ++ (map Down down ++ map Up up))
    (sym (append_assoc before (Up line ∷ []) (map Down down ++ map Up up)))
    (one_sooner first before down line (map Up up) p)))

-- ---- a relay

-- of the lines that came, those that were read come first, then the client's others, and then the server's
record IsWaiting (up down : List ℕ) (came lines : List Line) : Type 0 where
  above : List (List ℕ)
  below : List (List ℕ)
  ups_are : whole_lines up ≡ ups lines ++ above
  downs_are : whole_lines down ≡ downs lines ++ below
  order : IsSooner came (lines ++ (map Up above ++ map Down below))

came_from_client : (up down bytes : List ℕ) (came lines : List Line) → IsWaiting up down came lines
    → IsWaiting (up ++ bytes) down (came ++ map Up (completed up bytes)) lines
came_from_client up down bytes came lines w =
    let new : List (List ℕ) = completed up bytes in
    record {
      above = w.above ++ new;
      below = w.below;
      ups_are = whole_more up bytes ∙ ap (λ (l : List (List ℕ)). l ++ new) w.ups_are ∙ append_assoc (ups lines) w.above new;
      downs_are = w.downs_are;
      order = sooner_as (came ++ map Up new) ((lines ++ map Up w.above) ++ (map Up new ++ map Down w.below))
          (lines ++ (map Up (w.above ++ new) ++ map Down w.below))
          (append_assoc lines (map Up w.above) (map Up new ++ map Down w.below)
          ∙ ap (λ (l : List Line). lines ++ l) (sym (append_assoc (map Up w.above) (map Up new) (map Down w.below)))
          ∙ ap (λ (l : List Line). lines ++ (l ++ map Down w.below)) (sym (map-append Up w.above new)))
          (all_sooner (came ++ map Up new) (lines ++ map Up w.above) w.below new
          (sooner_as (came ++ map Up new) ((lines ++ (map Up w.above ++ map Down w.below)) ++ map Up new)
          ((lines ++ map Up w.above) ++ (map Down w.below ++ map Up new))
          (append_assoc lines (map Up w.above ++ map Down w.below) (map Up new)
          ∙ ap (λ (l : List Line). lines ++ l) (append_assoc (map Up w.above) (map Down w.below) (map Up new))
          ∙ sym (append_assoc lines (map Up w.above) (map Down w.below ++ map Up new)))
          (sooner_append came (lines ++ (map Up w.above ++ map Down w.below)) (map Up new) w.order)));
    }

came_from_server : (up down bytes : List ℕ) (came lines : List Line) → IsWaiting up down came lines
    → IsWaiting up (down ++ bytes) (came ++ map Down (completed down bytes)) lines
came_from_server up down bytes came lines w =
    let new : List (List ℕ) = completed down bytes in
    record {
      above = w.above;
      below = w.below ++ new;
      ups_are = w.ups_are;
      downs_are = whole_more down bytes ∙ ap (λ (l : List (List ℕ)). l ++ new) w.downs_are ∙ append_assoc (downs lines) w.below new;
      order = sooner_as (came ++ map Down new) ((lines ++ (map Up w.above ++ map Down w.below)) ++ map Down new)
          (lines ++ (map Up w.above ++ map Down (w.below ++ new)))
          (append_assoc lines (map Up w.above ++ map Down w.below) (map Down new)
          ∙ ap (λ (l : List Line). lines ++ l) (append_assoc (map Up w.above) (map Down w.below) (map Down new))
          ∙ ap (λ (l : List Line). lines ++ (map Up w.above ++ l)) (sym (map-append Down w.below new)))
          (sooner_append came (lines ++ (map Up w.above ++ map Down w.below)) (map Down new) w.order);
    }

-- a line of the client is read
waits_up : (up down : List ℕ) (came lines : List Line) (front : Front) → IsWaiting up down came lines
    → HasRest (whole_lines up) (ups (lines ++ up_in front)) → IsWaiting up down came (lines ++ up_in front)
waits_up up down came lines (Ok None) w rest = subst (IsWaiting up down came) (sym (append-nil lines)) w
waits_up up down came lines (Ok (Some (line, left))) w rest =
    let one : w.above ≡ line ∷ rest.rest =
    append_cancel_left (ups lines) w.above (line ∷ rest.rest)
    (sym w.ups_are ∙ rest.parts ∙ ap (λ (l : List (List ℕ)). l ++ rest.rest) (ups_append lines (Up line ∷ []))
    ∙ append_assoc (ups lines) (line ∷ []) rest.rest) in
    record {
      above = rest.rest;
      below = w.below;
      ups_are = rest.parts;
      downs_are = w.downs_are
          ∙ ap (λ (l : List (List ℕ)). l ++ w.below) (sym (downs_append lines (Up line ∷ []) ∙ append-nil (downs lines)));
      order = sooner_as came (lines ++ (map Up w.above ++ map Down w.below)) ((lines ++ Up line ∷ []) ++ (map Up rest.rest ++ map Down w.below))
          (ap (λ (l : List (List ℕ)). lines ++ (map Up l ++ map Down w.below)) one
          ∙ sym (append_assoc lines (Up line ∷ []) (map Up rest.rest ++ map Down w.below)))
          w.order;
    }
waits_up up down came lines (Err fault) w rest = subst (IsWaiting up down came) (sym (append-nil lines)) w

-- a line of the server is read, and none of the client waits
waits_down : (up down : List ℕ) (came lines : List Line) (front : Front) → IsWaiting up down came lines → whole_lines up ≡ ups lines
    → HasRest (whole_lines down) (downs (lines ++ down_in front)) → IsWaiting up down came (lines ++ down_in front)
waits_down up down came lines (Ok None) w ended rest = subst (IsWaiting up down came) (sym (append-nil lines)) w
waits_down up down came lines (Ok (Some (line, left))) w ended rest =
    let nobody : w.above ≡ [] = append_cancel_left (ups lines) w.above [] (sym w.ups_are ∙ ended ∙ sym (append-nil (ups lines))) in
    let one : w.below ≡ line ∷ rest.rest =
    append_cancel_left (downs lines) w.below (line ∷ rest.rest)
    (sym w.downs_are ∙ rest.parts ∙ ap (λ (l : List (List ℕ)). l ++ rest.rest) (downs_append lines (Down line ∷ []))
    ∙ append_assoc (downs lines) (line ∷ []) rest.rest) in
    record {
      above = [];
      below = rest.rest;
      ups_are = ended ∙ sym (append-nil (ups lines))
          ∙ ap (λ (l : List (List ℕ)). l ++ []) (sym (ups_append lines (Down line ∷ []) ∙ append-nil (ups lines)));
      downs_are = rest.parts;
      order = sooner_as came (lines ++ (map Up w.above ++ map Down w.below)) ((lines ++ Down line ∷ []) ++ map Down rest.rest)
          (ap (λ (l : List (List ℕ)). lines ++ (map Up l ++ map Down w.below)) nobody
          ∙ ap (λ (l : List (List ℕ)). lines ++ map Down l) one
          ∙ sym (append_assoc lines (Down line ∷ []) (map Down rest.rest)))
          w.order;
    }
waits_down up down came lines (Err fault) w ended rest = subst (IsWaiting up down came) (sym (append-nil lines)) w

waits_reads : (up down : List ℕ) (taken : List Reported) (old new : Watching) (came lines : List Line) (reads : Reads old new)
    → IsAt up down taken old lines → IsWaiting up down came lines → IsWaiting up down came (lines ++ lines_read old new reads)
waits_reads up down taken _ _ came lines (none v) at w = subst (IsWaiting up down came) (sym (append-nil lines)) w
waits_reads up down taken _ _ came lines (client old v before) at w =
    let here : IsAt up down taken v (lines ++ lines_read old v before) = at_reads up down taken old v lines before at in
    let there : IsAt up down taken (client_read v) ((lines ++ lines_read old v before) ++ up_in (next_of v.up.rest)) =
    at_client up down taken v (lines ++ lines_read old v before) here in
    subst (IsWaiting up down came) (append_assoc lines (lines_read old v before) (up_in (next_of v.up.rest)))
    (waits_up up down came (lines ++ lines_read old v before) (next_of v.up.rest)
    (waits_reads up down taken old v came lines before at w)
    (read_first up (client_read v).up (ups ((lines ++ lines_read old v before) ++ up_in (next_of v.up.rest))) there.above))
waits_reads up down taken _ _ came lines (server old v before ended) at w =
    let here : IsAt up down taken v (lines ++ lines_read old v before) = at_reads up down taken old v lines before at in
    let there : IsAt up down taken (server_read v) ((lines ++ lines_read old v before) ++ down_in (next_of v.down.rest)) =
    at_server up down taken v (lines ++ lines_read old v before) here in
    subst (IsWaiting up down came) (append_assoc lines (lines_read old v before) (down_in (next_of v.down.rest)))
    (waits_down up down came (lines ++ lines_read old v before) (next_of v.down.rest)
    (waits_reads up down taken old v came lines before at w)
    (read_whole up v.up (ups (lines ++ lines_read old v before)) here.above ended)
    (read_first down (server_read v).down (downs ((lines ++ lines_read old v before) ++ down_in (next_of v.down.rest))) there.below))

waits_same : (up down : List ℕ) (came lines : List Line) → IsWaiting up down came lines → IsWaiting up down (came ++ []) (lines ++ [])
waits_same up down came lines w =
    subst (λ (l : List Line). IsWaiting up down l (lines ++ [])) (sym (append-nil came))
    (subst (IsWaiting up down came) (sym (append-nil lines)) w)

waits_move : (c : Course) (r new : Relaying) (move : Move) (did : Did r move new) (came lines : List Line)
    → IsAt c.came_up c.came_down c.reported r.watching lines → IsWaiting c.came_up c.came_down came lines
    → IsWaiting (with_move c r move).came_up (with_move c r move).came_down (came ++ lines_coming c move) (lines ++ lines_in r new move did)
waits_move c r new (FromClient bytes) did came lines at w =
    subst (IsWaiting (c.came_up ++ bytes) c.came_down (came ++ map Up (completed c.came_up bytes))) (sym (append-nil lines))
    (came_from_client c.came_up c.came_down bytes came lines w)
waits_move c r new (FromServer bytes) did came lines at w =
    subst (IsWaiting c.came_up (c.came_down ++ bytes) (came ++ map Down (completed c.came_down bytes))) (sym (append-nil lines))
    (came_from_server c.came_up c.came_down bytes came lines w)
waits_move c r new Read did came lines at w =
    subst (λ (l : List Line). IsWaiting c.came_up c.came_down l (lines ++ lines_read r.watching new.watching did.0)) (sym (append-nil came))
    (waits_reads c.came_up c.came_down c.reported r.watching new.watching came lines did.0 at w)
waits_move c r new MakeDue did came lines at w = waits_same c.came_up c.came_down came lines w
waits_move c r new Write did came lines at w = waits_same c.came_up c.came_down came lines w
waits_move c r new (ToServer n) did came lines at w = waits_same c.came_up c.came_down came lines w
waits_move c r new (ToClient n) did came lines at w = waits_same c.came_up c.came_down came lines w

pub whole_none : whole_lines [] ≡ []
whole_none = read_whole [] no_bytes [] (record { calls = []; bytes_are = refl; left = kept_all []; out = refl }) (λ due. absurd (cc))

waits_course : (n : ℕ) (c : Course) (r : Relaying) (course : Relays n c r)
    → IsWaiting c.came_up c.came_down (lines_came n c r course) (lines_of n c r course)
waits_course n _ _ begun = record { above = []; below = []; ups_are = whole_none; downs_are = whole_none; order = same }
waits_course n _ _ (moved c r new move before did) =
    waits_move c r new move did (lines_came n c r before) (lines_of n c r before) (at_course n c r before) (waits_course n c r before)

-- a relay that has taken all has read what came, the client's lines no later
pub read_sooner : (n : ℕ) (c : Course) (r : Relaying) (course : Relays n c r) → IsAllTold r
    → IsSooner (lines_came n c r course) (lines_of n c r course)
read_sooner n c r course all =
    let at : IsAt c.came_up c.came_down c.reported r.watching (lines_of n c r course) = at_course n c r course in
    let w : IsWaiting c.came_up c.came_down (lines_came n c r course) (lines_of n c r course) = waits_course n c r course in
    let ups_done : w.above ≡ [] =
    append_cancel_left (ups (lines_of n c r course)) w.above []
    (sym w.ups_are ∙ read_whole c.came_up r.watching.up (ups (lines_of n c r course)) at.above all.client
    ∙ sym (append-nil (ups (lines_of n c r course)))) in
    let downs_done : w.below ≡ [] =
    append_cancel_left (downs (lines_of n c r course)) w.below []
    (sym w.downs_are ∙ read_whole c.came_down r.watching.down (downs (lines_of n c r course)) at.below all.server
    ∙ sym (append-nil (downs (lines_of n c r course)))) in
    sooner_as (lines_came n c r course) (lines_of n c r course ++ (map Up w.above ++ map Down w.below)) (lines_of n c r course)
    (ap (λ (l : List (List ℕ)). lines_of n c r course ++ (map Up l ++ map Down w.below)) ups_done
    ∙ ap (λ (l : List (List ℕ)). lines_of n c r course ++ map Down l) downs_done
    ∙ append-nil (lines_of n c r course))
    w.order

pub written_came : ((n : ℕ) (c : Course) (r : Relaying) → Relays n c r → c.written ++ r.due ≡ told_lines n c.reported)
    → (n : ℕ) (c : Course) (r : Relaying) (course : Relays n c r) (w : Watching) → IsAllTold r → IsCausal (silence true) (lines_came n c r course)
    → IsClear (silence true) (lines_came n c r course) → (said_all (silence true) (lines_of n c r course)).crossed ≡ false
    → AreAllRead false c.came_up c.came_down w → c.written ≡ told_lines n w.dialogue.reported
written_came written n c r course w all causal clear free recorded =
    let sooner : IsSooner (lines_came n c r course) (lines_of n c r course) = read_sooner n c r course all in
    written_recorded written n c r course w all
    (sooner_causal (silence true) (lines_came n c r course) (lines_of n c r course) (silence_counted true) sooner causal)
    (sooner_clear (silence true) (lines_came n c r course) (lines_of n c r course) (silence_counted true) sooner causal clear)
    free recorded
