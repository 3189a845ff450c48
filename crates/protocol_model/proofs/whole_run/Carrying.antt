-- Both ends with their bytes carry both ends with their lines: what always holds, and the events that move bytes or answer lines.
use Rattle.protocol_model.proofs.Names.{[], ◌&&◌, ◌++◌, ◌<◌, ◌∙◌, ◌∷◌, ◌≡◌, Act, Answer, answered, ap, arith, Bool, Client, client_link}
use Rattle.protocol_model.proofs.Names.{command_bytes, command_of, command_text, cond, eq-eqb, eqb, eqb-false, eqb-true, Err, false, false≢true, fed}
use Rattle.protocol_model.proofs.Names.{fed_behind, Framing, FramingFault, Front, front_served, is_line, is_none, Line, Link, link_of, List, may_end}
use Rattle.protocol_model.proofs.Names.{moved_down, moved_up, ne_eqb, next_of, no_bytes, None, not, Ok, Option, Outcome, reading_of, refl, Reply}
use Rattle.protocol_model.proofs.Names.{reply_bytes, Result, Server, server_link, server_machined, server_read, server_turned, server_writes}
use Rattle.protocol_model.proofs.Names.{ServerEnd, serving_machined, serving_read, serving_turned, Some, subst, sym, take, true, with_answer}
use Rattle.protocol_model.proofs.Names.{with_link, ℕ}
use Rattle.protocol_model.specs.Typed.{World as Lined}
use Rattle.protocol_model.specs.World.{World}
use Rattle.protocol_model.proofs.table.Basics.{if_true, if_false}
use Rattle.protocol_model.proofs.invariant.Holding.{Inv, IsIdle}
use Rattle.protocol_model.proofs.invariant.Moves.{Moves, read_moves, turned_moves, machined_moves}
use Rattle.protocol_model.proofs.each_event.ServerEvents.{reads_event, reads_old_event, turn_event, machine_event}
use Rattle.protocol_model.proofs.written_lines.Writable.{AreReplies, replies_join, reply_bytes_more, command_read}
use Rattle.protocol_model.proofs.whole_run.PlainServer.{IsPlainServer, IsPlainAnswer, read_plain, turned_plain, machined_plain}
use Rattle.protocol_model.proofs.written_lines.PlainClient.{IsPlainClient}
use Rattle.protocol_model.proofs.whole_run.Wires.{IsWhole, IsWired, wired_answers, wired_up, wired_down}
use Rattle.protocol_model.proofs.written_lines.LineTaking.{NextCommand, next_command}

-- both ends, with the lines that are on their way on the client's last connection
abbrev pub lined : World → List Line → List Reply → Lined
lined b up down = record { client = b.client.client; server = b.server.server; up = up; down = down }

-- the bytes of all connections are those of lines and replies for which all holds; no byte waits to be sent, and no fault was met
pub record IsCarried (b : World) : Type 0 where
  pub up : List Line
  pub down : List Reply
  pub inv : Inv (lined b up down)
  pub client : IsPlainClient b.client.client
  pub server : IsPlainServer b.server.server
  pub client_out : b.client.out ≡ []
  pub server_out : b.server.out ≡ []
  pub client_fault : b.client.input.fault ≡ None
  pub server_fault : b.server.input.fault ≡ None
  pub at_rest : b.server.server.on ≡ false → b.server.input ≡ no_bytes
  pub wired : IsWired b.links b.client.client.last b.client.client.on b.client.input.rest b.server.server.last b.server.server.on
      b.server.input.rest up down

-- ---- an answer of the server

abbrev later : World → Framing → Answer → World
later b input a = server_writes b (with_answer b.server input a)

-- what is answered joins the bytes down
abbrev pub answer_carried : (b : World) (h : IsCarried b) (up : List Line) (rest : List ℕ) (a : Answer) (acts : List Act)
    → b.server.server.on ≡ true → Moves b.server.server a.server acts → IsPlainAnswer a
    → IsWired b.links b.client.client.last b.client.client.on b.client.input.rest b.server.server.last b.server.server.on rest up h.down
    → Inv (answered (lined b h.up h.down) up a)
    → IsCarried (server_writes b (with_answer b.server (record { rest = rest; fault = b.server.input.fault }) a))
answer_carried b h up rest a acts on moves plain wired inv = record {
  up = up;
  down = cond (eqb b.server.server.last b.client.client.last) (h.down ++ a.said) h.down;
  inv = inv;
  client = h.client;
  server = plain.server;
  client_out = h.client_out;
  server_out = refl;
  client_fault = h.client_fault;
  server_fault = h.server_fault;
  at_rest = λ off. absurd (false≢true (sym off ∙ (moves.on ∙ on)));
  wired = subst (λ (o : Bool). IsWired new n c.on b.client.input.rest a.server.last o rest up now) (sym (moves.on ∙ on))
      (subst (λ (i : ℕ). IsWired new n c.on b.client.input.rest i true rest up now) (sym moves.last)
      (subst (λ (bytes : List ℕ). IsWired (with_link b.links m (record { up = (server_link b).up; down = (server_link b).down ++ bytes })) n
      c.on b.client.input.rest m true rest up now) (sym out_is)
      (wired_answers b.links n c.on b.client.input.rest m rest up h.down now (reply_bytes a.said)
      (subst (λ (o : Bool). IsWired b.links n c.on b.client.input.rest m o rest up h.down) on wired) (written now_cases)
      (λ same. now_is same) (λ apart. now_was apart))));
}
  where
    c : Client
    c = b.client.client

    n : ℕ
    n = b.client.client.last

    m : ℕ
    m = b.server.server.last

    now : List Reply
    now = cond (eqb b.server.server.last b.client.client.last) (h.down ++ a.said) h.down

    out_is : b.server.out ++ reply_bytes a.said ≡ reply_bytes a.said
    out_is = ap (λ (l : List ℕ). l ++ reply_bytes a.said) h.server_out

    new : List Link
    new = with_link b.links b.server.server.last (record {
      up = (server_link b).up;
      down = (server_link b).down
          ++ (b.server.out ++ reply_bytes a.said);
    })

    now_is : b.server.server.last ≡ b.client.client.last → reply_bytes now ≡ reply_bytes h.down ++ reply_bytes a.said
    now_is same = ap reply_bytes (if_true {A = List Reply} _ _ _ (eq-eqb _ _ same)) ∙ reply_bytes_more h.down a.said

    now_was : (b.server.server.last ≡ b.client.client.last → ⊥) → now ≡ h.down
    now_was apart = if_false {A = List Reply} _ _ _ (ne_eqb _ _ apart)

    now_cases : AreReplies (h.down ++ a.said) × AreReplies h.down
    now_cases = (replies_join h.down a.said h.wired.replies plain.said, h.wired.replies)

    written : AreReplies (h.down ++ a.said) × AreReplies h.down → AreReplies now
    written both = go (eqb b.server.server.last b.client.client.last)
      where
        go : (t : Bool) → AreReplies (cond t (h.down ++ a.said) h.down)
        go true = both.0
        go false = both.1

-- ---- a line is read

-- the server's part of what is wired, with a line less
shorter : (b : World) (h : IsCarried b) (line rest : List ℕ) → b.server.server.on ≡ true
    → next_of b.server.input.rest ≡ Ok (Some (line, rest)) → (up : List Line)
    → (b.server.server.last ≡ b.client.client.last → rest ++ (link_of b.links b.client.client.last).up ≡ command_bytes up)
    → (b.server.server.last < b.client.client.last → up ≡ h.up)
    → IsWhole (rest ++ (link_of b.links b.server.server.last).up)
    → Rattle.protocol_model.proofs.written_lines.Writable.AreWritable up
    → IsWired b.links b.client.client.last b.client.client.on b.client.input.rest b.server.server.last b.server.server.on rest up h.down
shorter b h line rest on next up here elsewhere serves writable = record {
  made = h.wired.made;
  numbers = h.wired.numbers;
  first = h.wired.first;
  taken = h.wired.taken;
  lines = writable;
  replies = h.wired.replies;
  down_is = h.wired.down_is;
  newest_waits = λ lt. h.wired.newest_waits lt ∙ ap command_bytes (sym (elsewhere lt));
  newest_serves = λ e same. here same;
  waits = h.wired.waits;
  serves = λ e. serves;
}

serving_is : (e : ServerEnd) (line rest : List ℕ) (l : Line)
    → next_of e.input.rest ≡ Ok (Some (line, rest)) → line ≡ command_text l
    → Rattle.dme_line.specs.Written.IsWritable l.tag l.command
    → serving_read e ≡ with_answer e (record { rest = rest; fault = e.input.fault }) (server_read e.server (Ok l))
serving_is e line rest l next text w =
    let read : command_of line ≡ Ok (l.tag, l.command) = ap command_of text ∙ command_read l.tag l.command w in
    ap (front_served e) next ∙ ap (λ (r : Result _ _). with_answer e (record { rest = rest; fault = e.input.fault })
    (server_read e.server (reading_of r))) read

-- a server on a connection reads the line at the start of its bytes, and what both ends carry is kept
pub reads_carried : (b : World) (h : IsCarried b) → b.server.server.on ≡ true
    → is_line (next_of b.server.input.rest) ≡ true → IsCarried (server_writes b (serving_read b.server))
reads_carried b h on due = go (next_of b.server.input.rest) refl due
  where
    s : Server
    s = b.server.server

    n : ℕ
    n = b.client.client.last

    at_it : (line rest : List ℕ) → next_of b.server.input.rest ≡ Ok (Some (line, rest)) → (same : Bool)
        → eqb b.server.server.last b.client.client.last ≡ same → IsCarried (server_writes b (serving_read b.server))
    at_it line rest next true same =
        let equal : b.server.server.last ≡ b.client.client.last = eqb-true _ _ same in
        let t : NextCommand h.up line rest (link_of b.links n).up =
        next_command h.up b.server.input.rest (link_of b.links n).up line rest h.wired.lines (h.wired.newest_serves on equal) next in
        let writable = subst Rattle.protocol_model.proofs.written_lines.Writable.AreWritable t.lines_are h.wired.lines in
        let inv : Inv (answered (lined b (t.first ∷ t.others) h.down) t.others (server_read s (Ok t.first))) =
        reads_event (lined b (t.first ∷ t.others) h.down) (subst (λ (ls : List Line). Inv (lined b ls h.down)) t.lines_are h.inv) on same in
        subst IsCarried (ap (λ (e : ServerEnd). server_writes b e)
        (sym (serving_is b.server line rest t.first next t.text writable.0)))
        (answer_carried b h t.others rest (server_read s (Ok t.first)) [] on (read_moves s (Ok t.first))
        (read_plain s t.first h.server writable.0)
        (shorter b h line rest on next t.others (λ e. t.behind) (λ lt. absurd (apart equal lt))
        (record { lines = t.others; writable = writable.1; is = ap (λ (i : ℕ). rest ++ (link_of b.links i).up) equal ∙ t.behind })
        writable.1) inv)
      where
        apart : b.server.server.last ≡ b.client.client.last → b.server.server.last < b.client.client.last → ⊥
        apart e lt = omega arith
    at_it line rest next false other =
        let whole : IsWhole (b.server.input.rest ++ (link_of b.links b.server.server.last).up) = h.wired.serves on in
        let t : NextCommand whole.lines line rest (link_of b.links b.server.server.last).up =
        next_command whole.lines b.server.input.rest (link_of b.links b.server.server.last).up line rest whole.writable whole.is next in
        let writable = subst Rattle.protocol_model.proofs.written_lines.Writable.AreWritable t.lines_are whole.writable in
        let differs : b.server.server.last ≡ b.client.client.last → ⊥ = eqb-false _ _ other in
        subst IsCarried (ap (λ (e : ServerEnd). server_writes b e)
        (sym (serving_is b.server line rest t.first next t.text writable.0)))
        (answer_carried b h h.up rest (server_read s (Ok t.first)) [] on (read_moves s (Ok t.first))
        (read_plain s t.first h.server writable.0)
        (shorter b h line rest on next h.up (λ e. absurd (differs e)) (λ lt. refl)
        (record { lines = t.others; writable = writable.1; is = t.behind }) h.wired.lines)
        (reads_old_event (lined b h.up h.down) (Ok t.first) h.inv on other))

    go : (f : Front) → next_of b.server.input.rest ≡ f → is_line f ≡ true → IsCarried (server_writes b (serving_read b.server))
    go (Ok None) e is = absurd (false≢true is)
    go (Ok (Some (line, rest))) e is = at_it line rest e (eqb b.server.server.last b.client.client.last) refl
    go (Err why) e is = absurd (false≢true is)

-- on its client's connection the first line up is gone after that, and the answer to it has joined the replies down
pub record ReadsFirst (b : World) (h : IsCarried b) (v : World) : Type 0 where
  pub first : Line
  pub others : List Line
  pub up_is : h.up ≡ first ∷ others
  pub carried : IsCarried v
  pub down_is : carried.down
      ≡ cond (eqb b.server.server.last b.client.client.last) (h.down ++ (server_read b.server.server (Ok first)).said) h.down
  pub client_is : v.client ≡ b.client
  pub server_is : v.server.server ≡ (server_read b.server.server (Ok first)).server

pub reads_first : (b : World) (h : IsCarried b) → b.server.server.on ≡ true
    → b.server.server.last ≡ b.client.client.last → is_line (next_of b.server.input.rest) ≡ true
    → ReadsFirst b h (server_writes b (serving_read b.server))
reads_first b h on equal due = go (next_of b.server.input.rest) refl due
  where
    s : Server
    s = b.server.server

    n : ℕ
    n = b.client.client.last

    apart : b.server.server.last < b.client.client.last → ⊥
    apart lt = let e : b.server.server.last ≡ b.client.client.last = equal in omega (arith, e)

    line_case : (line rest : List ℕ) → next_of b.server.input.rest ≡ Ok (Some (line, rest))
        → ReadsFirst b h (server_writes b (serving_read b.server))
    line_case line rest next =
        let t : NextCommand h.up line rest (link_of b.links n).up =
        next_command h.up b.server.input.rest (link_of b.links n).up line rest h.wired.lines (h.wired.newest_serves on equal) next in
        let writable = subst Rattle.protocol_model.proofs.written_lines.Writable.AreWritable t.lines_are h.wired.lines in
        let inv : Inv (answered (lined b (t.first ∷ t.others) h.down) t.others (server_read s (Ok t.first))) =
        reads_event (lined b (t.first ∷ t.others) h.down) (subst (λ (ls : List Line). Inv (lined b ls h.down)) t.lines_are h.inv) on
        (eq-eqb _ _ equal) in
        subst (λ (e : ServerEnd). ReadsFirst b h (server_writes b e))
        (sym (serving_is b.server line rest t.first next t.text writable.0))
        (record {
          first = t.first;
          others = t.others;
          up_is = t.lines_are;
          carried = answer_carried b h t.others rest (server_read s (Ok t.first)) [] on (read_moves s (Ok t.first))
              (read_plain s t.first h.server writable.0)
              (shorter b h line rest on next t.others (λ e. t.behind) (λ lt. absurd (apart lt))
              (record { lines = t.others; writable = writable.1; is = ap (λ (i : ℕ). rest ++ (link_of b.links i).up) equal ∙ t.behind })
              writable.1) inv;
          down_is = refl;
          client_is = refl;
          server_is = refl;
        })

    go : (f : Front) → next_of b.server.input.rest ≡ f → is_line f ≡ true
        → ReadsFirst b h (server_writes b (serving_read b.server))
    go (Ok None) e is = absurd (false≢true is)
    go (Ok (Some (line, rest))) e is = line_case line rest e
    go (Err why) e is = absurd (false≢true is)

-- ---- turns and outcomes

busy_on : (b : World) (h : IsCarried b) (t : Bool) → b.server.server.on ≡ t
    → (b.server.server.running ≡ None → b.server.server.waiting ≡ [] → ⊥) → b.server.server.on ≡ true
busy_on b h true e busy = e
busy_on b h false e busy = let idle : IsIdle b.server.server = h.inv.idle e in absurd (busy idle.running idle.waiting)

-- the first command that waits is processed if none runs, and what both ends carry is kept
abbrev pub turn_carried : (b : World) (h : IsCarried b) → b.server.server.on ≡ true
    → (is_none b.server.server.running && not (Rattle.protocol_model.specs.Plan.is_empty b.server.server.waiting)) ≡ true
    → IsCarried (server_writes b (serving_turned b.server))
turn_carried b h on can =
    let moves = turned_moves b.server.server in
    answer_carried b h h.up b.server.input.rest (server_turned b.server.server) moves.0 on moves.1 (turned_plain b.server.server h.server)
    h.wired (turn_event (lined b h.up h.down) h.inv can)

-- the machine is done with what runs, with an outcome that it can have, and what both ends carry is kept
abbrev pub machine_carried : (b : World) (outcome : Outcome) (h : IsCarried b) → b.server.server.on ≡ true
    → may_end b.server.server.running outcome ≡ true → IsCarried (server_writes b (serving_machined outcome b.server))
machine_carried b outcome h on can =
    let moves = machined_moves b.server.server outcome in
    answer_carried b h h.up b.server.input.rest (server_machined b.server.server outcome) moves.0 on moves.1
    (machined_plain b.server.server outcome h.server can) h.wired (machine_event (lined b h.up h.down) outcome h.inv can)

-- ---- bytes that move

-- the first k bytes up move to a server on a connection, and what both ends carry is kept
abbrev pub up_carried : (b : World) (k : ℕ) (h : IsCarried b) → b.server.server.on ≡ true → IsCarried (moved_up k b)
up_carried b k h on =
    let fed_is : fed b.server.input (take k (server_link b).up)
    ≡ record { rest = b.server.input.rest ++ take k (server_link b).up; fault = None } =
    ap (λ (f : Option FramingFault). fed_behind f b.server.input.rest (take k (server_link b).up)) h.server_fault in
    let wired = wired_up b.links b.client.client.last b.client.client.on b.client.input.rest b.server.server.last b.server.input.rest h.up
    h.down k
    (subst (λ (o : Bool). IsWired b.links b.client.client.last b.client.client.on b.client.input.rest b.server.server.last o
    b.server.input.rest h.up h.down) on h.wired) in
    record {
      up = h.up;
      down = h.down;
      inv = h.inv;
      client = h.client;
      server = h.server;
      client_out = h.client_out;
      server_out = h.server_out;
      client_fault = h.client_fault;
      server_fault = ap (λ (f : Framing). f.fault) fed_is;
      at_rest = λ off. absurd (false≢true (sym off ∙ on));
      wired = subst (λ (f : Framing). IsWired (moved_up k b).links b.client.client.last b.client.client.on b.client.input.rest
          b.server.server.last b.server.server.on f.rest h.up h.down) (sym fed_is)
          (subst (λ (o : Bool). IsWired (moved_up k b).links b.client.client.last b.client.client.on b.client.input.rest
          b.server.server.last o (b.server.input.rest ++ take k (server_link b).up) h.up h.down) (sym on) wired);
    }

-- the first k bytes down move to a client on a connection, and what both ends carry is kept
abbrev pub down_carried : (b : World) (k : ℕ) (h : IsCarried b) → b.client.client.on ≡ true → IsCarried (moved_down k b)
down_carried b k h on =
    let fed_is : fed b.client.input (take k (client_link b).down)
    ≡ record { rest = b.client.input.rest ++ take k (client_link b).down; fault = None } =
    ap (λ (f : Option FramingFault). fed_behind f b.client.input.rest (take k (client_link b).down)) h.client_fault in
    let wired = wired_down b.links b.client.client.last b.client.input.rest b.server.server.last b.server.server.on b.server.input.rest h.up
    h.down k
    (subst (λ (o : Bool). IsWired b.links b.client.client.last o b.client.input.rest b.server.server.last b.server.server.on
    b.server.input.rest h.up h.down) on h.wired) in
    record {
      up = h.up;
      down = h.down;
      inv = h.inv;
      client = h.client;
      server = h.server;
      client_out = h.client_out;
      server_out = h.server_out;
      client_fault = ap (λ (f : Framing). f.fault) fed_is;
      server_fault = h.server_fault;
      at_rest = h.at_rest;
      wired = subst (λ (f : Framing). IsWired (moved_down k b).links b.client.client.last b.client.client.on f.rest b.server.server.last
          b.server.server.on b.server.input.rest h.up h.down) (sym fed_is)
          (subst (λ (o : Bool). IsWired (moved_down k b).links b.client.client.last o (b.client.input.rest ++ take k (client_link b).down)
          b.server.server.last b.server.server.on b.server.input.rest h.up h.down) (sym on) wired);
    }
