-- What follows for the whole course of a relay.
use Rattle.witness.proofs.Names.{[], ◌++◌, ◌∙◌, ◌≡◌, ◌≤◌, ap, append-nil, append_assoc, AreAllRead, Bool, came, client_read, client_times, Dialogue}
use Rattle.witness.proofs.Names.{drop, Err, Framing, IsFew, IsLineDue, length, List, map, map-append, next_of, numbered, Ok, OnErr, OnOk, ReadsClient}
use Rattle.witness.proofs.Names.{ReadsServer, ReadsWithin, refl, Reported, Result, server_read, server_times, subst, suc, sym, take, take-append-drop}
use Rattle.witness.proofs.Names.{text_more, text_of, then_one, told_line, told_lines, true, unwatched, Watching, zero, ℕ}
use Rattle.witness.proofs.Prefixes.{prefixed, client_after, server_after}
use Rattle.witness.specs.Relaying.{Did, FromClient, FromServer, MakeDue, Move, Read, Relaying, ToClient, ToServer, Write}
use Rattle.witness.specs.Relaying.{begun, Course, moved, Relays, untold, with_move, client, IsAllTold, IsClientRead, IsToldOf, none, Reads, server}
use Rattle.witness.specs.Relaying.{came_down, came_up, IsHeard, read, silent}

-- ---- reading

then_reads : (a b c : Watching) → Reads a b → Reads b c → Reads a c
then_reads a b _ p (none w) = p
then_reads a b _ p (client old w q) = client a w (then_reads a b w p q)
then_reads a b _ p (server old w q ended) = server a w (then_reads a b w p q) ended

client_reads : (n : ℕ) (w : Watching) → Reads w (client_times n w)
client_reads zero w = none w
client_reads (suc n) w = client w (client_times n w) (client_reads n w)

-- what is read of the server leaves the client's bytes as they are
up_stays : (n : ℕ) (w : Watching) → (server_times n w).up ≡ w.up
up_stays zero w = refl
up_stays (suc n) w = up_stays n w

still_read : (w v : Watching) → v.up ≡ w.up → IsClientRead w → IsClientRead v
still_read w v e ended = subst (λ (f : Framing). IsLineDue (next_of f.rest) → ⊥) (sym e) ended

server_reads : (n : ℕ) (w : Watching) → IsClientRead w → Reads w (server_times n w)
server_reads zero w ended = none w
server_reads (suc n) w ended =
    server w (server_times n w) (server_reads n w ended) (still_read w (server_times n w) (up_stays n w) ended)

pub client_part : (old new : Watching) → ReadsClient old new → Reads old new
client_part old new reads = subst (Reads old) (sym reads.1) (client_reads reads.0 old)

server_part : (old new : Watching) → IsClientRead old → ReadsServer old new → Reads old new
server_part old new ended reads = subst (Reads old) (sym reads.1) (server_reads reads.0 old ended)

pub both_parts : (old between new : Watching) → ReadsClient old between → IsClientRead between → ReadsServer between new → Reads old new
both_parts old between new p ended q = then_reads old between new (client_part old between p) (server_part between new ended q)

pub client_stays : (old new : Watching) → ReadsServer old new → IsClientRead old → IsClientRead new
client_stays old new reads ended =
    still_read old new (ap (λ (w : Watching). w.up) reads.1 ∙ up_stays reads.0 old) ended

pub line_within : (most : ℕ) (old w new : Watching) → ReadsWithin most old w → IsLineDue (next_of w.up.rest) → new ≡ client_read w
    → length new.dialogue.uses ≤ most → ReadsWithin most old new
line_within most old w new within due e few =
    subst (ReadsWithin most old) (sym e) (then_one w within due (subst (λ (v : Watching). length v.dialogue.uses ≤ most) e few))

pub few_stays : (old new : Watching) → ReadsServer old new → IsFew old.up → IsFew new.up
few_stays old new reads few =
    subst (λ (f : Framing). IsFew f) (sym (ap (λ (w : Watching). w.up) reads.1 ∙ up_stays reads.0 old)) few

-- what is read last may be a fault
pub server_last : {A E : Type 0} (old so_far new : Watching) (r : Result A E) → ReadsServer old so_far
    → OnOk r (new ≡ server_read so_far) → OnErr r (new ≡ so_far) → ReadsServer old new
server_last old so_far new (Ok x) reads ok err = (suc reads.0, ok ∙ ap server_read reads.1)
server_last old so_far new (Err e) reads ok err = (reads.0, err ∙ reads.1)

-- ---- what is sent on came

came_more : (came sent rest bytes : List ℕ) → came ≡ sent ++ rest → came ++ bytes ≡ sent ++ (rest ++ bytes)
came_more came sent rest bytes e = ap (λ (t : List ℕ). t ++ bytes) e ∙ append_assoc sent rest bytes

sent_more : (came sent rest : List ℕ) (n : ℕ) → came ≡ sent ++ rest → came ≡ (sent ++ take n rest) ++ drop n rest
sent_more came sent rest n e = e ∙ ap (λ (t : List ℕ). sent ++ t) (sym (take-append-drop n rest))
    ∙ sym (append_assoc sent (take n rest) (drop n rest))

up_moved : (c : Course) (r new : Relaying) (move : Move) → c.came_up ≡ c.sent_up ++ r.up → Did r move new
    → (with_move c r move).came_up ≡ (with_move c r move).sent_up ++ new.up
up_moved c r new (FromClient bytes) e did =
    subst (λ (x : Relaying). c.came_up ++ bytes ≡ c.sent_up ++ x.up) (sym did) (came_more c.came_up c.sent_up r.up bytes e)
up_moved c r new (FromServer bytes) e did = subst (λ (x : Relaying). c.came_up ≡ c.sent_up ++ x.up) (sym did) e
up_moved c r new Read e did = subst (λ (x : Relaying). c.came_up ≡ c.sent_up ++ x.up) (sym did.1) e
up_moved c r new MakeDue e did = subst (λ (x : Relaying). c.came_up ≡ c.sent_up ++ x.up) (sym did) e
up_moved c r new Write e did = subst (λ (x : Relaying). c.came_up ≡ c.sent_up ++ x.up) (sym did) e
up_moved c r new (ToServer n) e did =
    subst (λ (x : Relaying). c.came_up ≡ (c.sent_up ++ take n r.up) ++ x.up) (sym did.1) (sent_more c.came_up c.sent_up r.up n e)
up_moved c r new (ToClient n) e did = subst (λ (x : Relaying). c.came_up ≡ c.sent_up ++ x.up) (sym did.2) e

pub up_came : (n : ℕ) (c : Course) (r : Relaying) → Relays n c r → c.came_up ≡ c.sent_up ++ r.up
up_came n _ _ begun = refl
up_came n _ _ (moved c r new move before did) = up_moved c r new move (up_came n c r before) did

down_moved : (c : Course) (r new : Relaying) (move : Move) → c.came_down ≡ c.sent_down ++ r.down → Did r move new
    → (with_move c r move).came_down ≡ (with_move c r move).sent_down ++ new.down
down_moved c r new (FromClient bytes) e did = subst (λ (x : Relaying). c.came_down ≡ c.sent_down ++ x.down) (sym did) e
down_moved c r new (FromServer bytes) e did =
    subst (λ (x : Relaying). c.came_down ++ bytes ≡ c.sent_down ++ x.down) (sym did) (came_more c.came_down c.sent_down r.down bytes e)
down_moved c r new Read e did = subst (λ (x : Relaying). c.came_down ≡ c.sent_down ++ x.down) (sym did.1) e
down_moved c r new MakeDue e did = subst (λ (x : Relaying). c.came_down ≡ c.sent_down ++ x.down) (sym did) e
down_moved c r new Write e did = subst (λ (x : Relaying). c.came_down ≡ c.sent_down ++ x.down) (sym did) e
down_moved c r new (ToServer n) e did = subst (λ (x : Relaying). c.came_down ≡ c.sent_down ++ x.down) (sym did.1) e
down_moved c r new (ToClient n) e did =
    subst (λ (x : Relaying). c.came_down ≡ (c.sent_down ++ take n r.down) ++ x.down) (sym did.2)
    (sent_more c.came_down c.sent_down r.down n e)

pub down_came : (n : ℕ) (c : Course) (r : Relaying) → Relays n c r → c.came_down ≡ c.sent_down ++ r.down
down_came n _ _ begun = refl
down_came n _ _ (moved c r new move before did) = down_moved c r new move (down_came n c r before) did

-- ---- what is written was reported

number_moved : (n : ℕ) (r new : Relaying) (move : Move) → r.connection ≡ n → Did r move new → new.connection ≡ n
number_moved n r new (FromClient bytes) e did = ap (λ (x : Relaying). x.connection) did ∙ e
number_moved n r new (FromServer bytes) e did = ap (λ (x : Relaying). x.connection) did ∙ e
number_moved n r new Read e did = ap (λ (x : Relaying). x.connection) did.1 ∙ e
number_moved n r new MakeDue e did = ap (λ (x : Relaying). x.connection) did ∙ e
number_moved n r new Write e did = ap (λ (x : Relaying). x.connection) did ∙ e
number_moved n r new (ToServer k) e did = ap (λ (x : Relaying). x.connection) did.1 ∙ e
number_moved n r new (ToClient k) e did = ap (λ (x : Relaying). x.connection) did.2 ∙ e

number_stays : (n : ℕ) (c : Course) (r : Relaying) → Relays n c r → r.connection ≡ n
number_stays n _ _ begun = refl
number_stays n _ _ (moved c r new move before did) = number_moved n r new move (number_stays n c r before) did

lines_more : (n : ℕ) (a b : List Reported) → told_lines n (a ++ b) ≡ told_lines n a ++ told_lines n b
lines_more n a b = ap (λ (l : List (ℕ × Reported)). text_of (map told_line l)) (map-append (numbered n) a b)
    ∙ ap text_of (map-append told_line (map (numbered n) a) (map (numbered n) b))
    ∙ text_more (map told_line (map (numbered n) a)) (map told_line (map (numbered n) b))

due_more : (n : ℕ) (c : Course) (r : Relaying) → r.connection ≡ n → c.written ++ r.due ≡ told_lines n c.reported
    → c.written ++ (r.due ++ told_lines r.connection r.watching.dialogue.reported) ≡ told_lines n (c.reported ++ r.watching.dialogue.reported)
due_more n c r number e = sym (append_assoc c.written r.due (told_lines r.connection r.watching.dialogue.reported))
    ∙ ap (λ (t : List ℕ). t ++ told_lines r.connection r.watching.dialogue.reported) e
    ∙ ap (λ (m : ℕ). told_lines n c.reported ++ told_lines m r.watching.dialogue.reported) number
    ∙ sym (lines_more n c.reported r.watching.dialogue.reported)

written_moved : (n : ℕ) (c : Course) (r new : Relaying) (move : Move) → r.connection ≡ n → c.written ++ r.due ≡ told_lines n c.reported
    → Did r move new → (with_move c r move).written ++ new.due ≡ told_lines n (with_move c r move).reported
written_moved n c r new (FromClient bytes) number e did = subst (λ (x : Relaying). c.written ++ x.due ≡ told_lines n c.reported) (sym did) e
written_moved n c r new (FromServer bytes) number e did = subst (λ (x : Relaying). c.written ++ x.due ≡ told_lines n c.reported) (sym did) e
written_moved n c r new Read number e did = subst (λ (x : Relaying). c.written ++ x.due ≡ told_lines n c.reported) (sym did.1) e
written_moved n c r new MakeDue number e did =
    subst (λ (x : Relaying). c.written ++ x.due ≡ told_lines n (c.reported ++ r.watching.dialogue.reported)) (sym did) (due_more n c r number e)
written_moved n c r new Write number e did =
    subst (λ (x : Relaying). (c.written ++ r.due) ++ x.due ≡ told_lines n c.reported) (sym did) (append-nil (c.written ++ r.due) ∙ e)
written_moved n c r new (ToServer k) number e did = subst (λ (x : Relaying). c.written ++ x.due ≡ told_lines n c.reported) (sym did.1) e
written_moved n c r new (ToClient k) number e did = subst (λ (x : Relaying). c.written ++ x.due ≡ told_lines n c.reported) (sym did.2) e

pub written_told : (n : ℕ) (c : Course) (r : Relaying) → Relays n c r → c.written ++ r.due ≡ told_lines n c.reported
written_told n _ _ begun = refl
written_told n _ _ (moved c r new move before did) =
    written_moved n c r new move (number_stays n c r before) (written_told n c r before) did

-- ---- what was reported before is before what is reported

abbrev after : List Reported → Watching → Watching
after before w = record { up = w.up; down = w.down; dialogue = prefixed before w.dialogue }

client_read_after : (before : List Reported) (w : Watching) → client_read (after before w) ≡ after before (client_read w)
client_read_after before w = ap (λ (t : Dialogue). record { up = (client_read w).up; down = w.down; dialogue = t })
    (client_after before w.dialogue (next_of w.up.rest))

server_read_after : (before : List Reported) (w : Watching) → server_read (after before w) ≡ after before (server_read w)
server_read_after before w = ap (λ (t : Dialogue). record { up = w.up; down = (server_read w).down; dialogue = t })
    (server_after before w.dialogue (next_of w.down.rest))

reads_after : (before : List Reported) (old new : Watching) → Reads old new → Reads (after before old) (after before new)
reads_after before start _ (none w) = none (after before w)
reads_after before start _ (client old w p) =
    subst (Reads (after before start)) (client_read_after before w)
    (client (after before start) (after before w) (reads_after before start w p))
reads_after before start _ (server old w p ended) =
    subst (Reads (after before start)) (server_read_after before w)
    (server (after before start) (after before w) (reads_after before start w p) ended)

-- ---- what is written is what these bytes report

-- nothing more is reported: what was is now before it
taken_after : (before : List Reported) (w : Watching) → after before w ≡ after (before ++ w.dialogue.reported) (untold w)
taken_after before w = ap (λ (l : List Reported). record { up = w.up; down = w.down; dialogue = record (w.dialogue) { reported = l } })
    (sym (append-nil (before ++ w.dialogue.reported)))

heard_moved : (c : Course) (r new : Relaying) (move : Move) → IsHeard true c.came_up c.came_down (after c.reported r.watching) → Did r move new
    → IsHeard true (with_move c r move).came_up (with_move c r move).came_down (after (with_move c r move).reported new.watching)
heard_moved c r new (FromClient bytes) h did =
    subst (λ (x : Relaying). IsHeard true (c.came_up ++ bytes) c.came_down (after c.reported x.watching)) (sym did)
    (came_up c.came_up c.came_down bytes (after c.reported r.watching) h)
heard_moved c r new (FromServer bytes) h did =
    subst (λ (x : Relaying). IsHeard true c.came_up (c.came_down ++ bytes) (after c.reported x.watching)) (sym did)
    (came_down c.came_up c.came_down bytes (after c.reported r.watching) h)
heard_moved c r new Read h did =
    read c.came_up c.came_down (after c.reported r.watching) (after c.reported new.watching) h
    (reads_after c.reported r.watching new.watching did.0)
heard_moved c r new MakeDue h did =
    subst (λ (x : Relaying). IsHeard true c.came_up c.came_down (after (c.reported ++ r.watching.dialogue.reported) x.watching)) (sym did)
    (subst (IsHeard true c.came_up c.came_down) (taken_after c.reported r.watching) h)
heard_moved c r new Write h did =
    subst (λ (x : Relaying). IsHeard true c.came_up c.came_down (after c.reported x.watching)) (sym did) h
heard_moved c r new (ToServer n) h did =
    subst (λ (x : Relaying). IsHeard true c.came_up c.came_down (after c.reported x.watching)) (sym did.1) h
heard_moved c r new (ToClient n) h did =
    subst (λ (x : Relaying). IsHeard true c.came_up c.came_down (after c.reported x.watching)) (sym did.2) h

heard : (n : ℕ) (c : Course) (r : Relaying) → Relays n c r → IsHeard true c.came_up c.came_down (after c.reported r.watching)
heard n _ _ begun = silent
heard n _ _ (moved c r new move before did) = heard_moved c r new move (heard n c r before) did

pub all_written : (n : ℕ) (c : Course) (r : Relaying) → Relays n c r → IsAllTold r → IsToldOf true n c.came_up c.came_down c.written
all_written n c r relays all = record {
  heard = after c.reported r.watching;
  bytes = heard n c r relays;
  client = all.client;
  server = all.server;
  text_is = sym (append-nil c.written) ∙ ap (λ (t : List ℕ). c.written ++ t) (sym all.written) ∙ written_told n c r relays
      ∙ ap (told_lines n) (sym (append-nil c.reported) ∙ ap (λ (t : List Reported). c.reported ++ t) (sym all.taken));
}

pub recorded : (ordered : Bool) (n : ℕ) (up down : List ℕ) (w : Watching) → AreAllRead ordered up down w
    → IsToldOf ordered n up down (told_lines n w.dialogue.reported)
recorded ordered n up down w all = record {
  heard = w;
  bytes = read up down (came ordered up down) w (came_down up [] down _ (came_up [] [] up (unwatched ordered) silent))
      (both_parts (came ordered up down) all.between w all.client all.client_ended all.server);
  client = client_stays all.between w all.server all.client_ended;
  server = all.server_ended;
  text_is = refl;
}

pub ruleset reading = (client_part)
