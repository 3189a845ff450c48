-- The other events keep what both ends with their bytes carry.
use Rattle.protocol_model.proofs.Names.{[], ◌&&◌, ◌++◌, ◌∙◌, ◌∷◌, ◌≡◌, ◌⊎◌, and_parts, ap, Bool, Cause, Client, client_aborted, client_hears}
use Rattle.protocol_model.proofs.Names.{client_link, client_read, client_reads, client_sent, client_writes, command_bytes, cond, due, end_aborted}
use Rattle.protocol_model.proofs.Names.{end_left, end_read, end_restarted, end_resumed, end_sent, Err, false, false≢true, Framing, Front, front_read}
use Rattle.protocol_model.proofs.Names.{heard_on, inl, inr, is_any, is_some, leb-true, left_by, length, line_read, Link, List, ltb-true, mark_of}
use Rattle.protocol_model.proofs.Names.{may_abort, may_resume, nat_le, nat_lt, next_number, next_of, no_bytes, None, not, Ok, Option, Planned, refl}
use Rattle.protocol_model.proofs.Names.{Reply, reply_bytes, response_of, Result, Sends, sends_abort, sends_next, sent, Server, server_accepted}
use Rattle.protocol_model.proofs.Names.{server_left, serving_accepted, serving_left, serving_restarted, Some, Std, subst, suc, sym, Table, Tag}
use Rattle.protocol_model.proofs.Names.{tag_is, tag_of, true, with_lines, with_link, ℕ}
use Rattle.dme_line.specs.declared.tags.Tag.TheVariants.{Event}
use Rattle.protocol_model.specs.Replies.{Mark}
use Rattle.protocol_model.specs.Typed.{World as Lined}
use Rattle.protocol_model.specs.World.{connected, World}
use Rattle.protocol_model.proofs.invariant.Holding.{Inv, IsOff, IsLive, IsAtRest}
use Rattle.protocol_model.proofs.each_event.ServerEvents.{accept_event, gone_event}
use Rattle.protocol_model.proofs.each_event.ClientEvents.{connect_event, client_left_event, client_restart_event, never_faulted}
use Rattle.protocol_model.proofs.each_event.ClientWrites.{IsDue, due_is, sends_event}
use Rattle.protocol_model.proofs.each_event.ClientResumes.{never_off, abort_event, resume_event}
use Rattle.protocol_model.proofs.each_event.Hearing.{hear_event}
use Rattle.protocol_model.proofs.whole_run.PlainServer.{IsPlainServer, left_plain}
use Rattle.protocol_model.proofs.written_lines.PlainClient.{IsPlainSends, plain_connected, plain_sent, plain_aborted, plain_read}
use Rattle.protocol_model.proofs.written_lines.PlainClient.{plain_resumed, plain_left, plain_restarted}
use Rattle.protocol_model.proofs.whole_run.Wires.{IsWired, wired_connect, wired_accept, wired_left, wired_gone, wired_writes}
use Rattle.protocol_model.proofs.written_lines.LineTaking.{NextReply, next_reply, no_reply_fault, HasPlace, reply_heard}
use Rattle.protocol_model.proofs.whole_run.Carrying.{lined, IsCarried}

-- ---- connections

-- the client makes its next connection, with no bytes on it, and what both ends carry is kept
pub connect_carried : (b : World) → IsCarried b → IsCarried (connected b)
connect_carried b h = record {
  up = [];
  down = [];
  inv = connect_event (lined b h.up h.down) h.inv;
  client = plain_connected (suc b.client.client.last) b.client.client h.client;
  server = h.server;
  client_out = refl;
  server_out = h.server_out;
  client_fault = refl;
  server_fault = h.server_fault;
  at_rest = h.at_rest;
  wired = wired_connect b.links b.client.client.last b.client.client.on b.client.input.rest b.server.server.last b.server.server.on
      b.server.input.rest h.up h.down h.wired;
}

accepted_plain : (s : Server) (n : ℕ) → IsPlainServer s → IsPlainServer (server_accepted n s)
accepted_plain s n h = record {
  lines = h.lines;
  waiting_is = h.waiting_is;
  running = h.running;
  waiting = h.waiting;
  stored = h.stored;
  frame = h.frame;
}

-- a server on no connection takes one that was made later than its last, and what both ends carry is kept
pub accept_carried : (b : World) (n : ℕ) (h : IsCarried b) → (not b.server.server.on
    && (nat_lt b.server.server.last n && nat_le n (length b.links))) ≡ true → IsCarried (record b { server = serving_accepted n b.server })
accept_carried b n h can =
    let can_lined : (not b.server.server.on && (nat_lt b.server.server.last n && nat_le n b.client.client.last)) ≡ true =
    subst (λ (i : ℕ). (not b.server.server.on && (nat_lt b.server.server.last n && nat_le n i)) ≡ true) h.wired.made can in
    let parts = and_parts _ _ can_lined in
    let numbers = and_parts _ _ parts.1 in
    let off : b.server.server.on ≡ false = is_off b.server.server.on parts.0 in
    let rest : b.server.input.rest ≡ [] = ap (λ (f : Framing). f.rest) (h.at_rest off) in
    record {
      up = h.up;
      down = h.down;
      inv = accept_event (lined b h.up h.down) n h.inv can_lined;
      client = h.client;
      server = accepted_plain b.server.server n h.server;
      client_out = h.client_out;
      server_out = h.server_out;
      client_fault = h.client_fault;
      server_fault = h.server_fault;
      at_rest = λ e. absurd (false≢true (sym e));
      wired = subst (λ (bytes : List ℕ). IsWired b.links b.client.client.last b.client.client.on b.client.input.rest n true bytes h.up
          h.down) (sym rest)
          (wired_accept b.links b.client.client.last b.client.client.on b.client.input.rest b.server.server.last n b.server.server.on
          b.server.input.rest h.up h.down h.wired (ltb-true _ _ numbers.0) (leb-true _ _ numbers.1));
    }
  where
    is_off : (t : Bool) → not t ≡ true → t ≡ false
    is_off false e = refl
    is_off true e = absurd (false≢true e)

-- the client leaves its connection and keeps no byte of it, and what both ends carry is kept
pub client_left_carried : (b : World) → IsCarried b → IsCarried (record b { client = end_left b.client })
client_left_carried b h = record {
  up = h.up;
  down = h.down;
  inv = client_left_event (lined b h.up h.down) h.inv;
  client = plain_left b.client.client h.client;
  server = h.server;
  client_out = refl;
  server_out = h.server_out;
  client_fault = refl;
  server_fault = h.server_fault;
  at_rest = h.at_rest;
  wired = wired_left b.links b.client.client.last b.client.client.on b.client.input.rest b.server.server.last b.server.server.on
      b.server.input.rest h.up h.down h.wired;
}

-- the client restarts with its first k features and no bytes, and what both ends carry is kept
pub client_restart_carried : (b : World) (k : ℕ) → IsCarried b → IsCarried (record b { client = end_restarted k b.client })
client_restart_carried b k h = record {
  up = h.up;
  down = h.down;
  inv = client_restart_event (lined b h.up h.down) k h.inv;
  client = plain_restarted k b.client.client h.client;
  server = h.server;
  client_out = refl;
  server_out = h.server_out;
  client_fault = refl;
  server_fault = h.server_fault;
  at_rest = h.at_rest;
  wired = wired_left b.links b.client.client.last b.client.client.on b.client.input.rest b.server.server.last b.server.server.on
      b.server.input.rest h.up h.down h.wired;
}

gone_carried : (b : World) (homed : Bool) (tool : Option (List ℕ)) → IsCarried b
    → IsCarried (record b {
      server = record {
        server = record (server_left b.server.server) { homed = homed; tool = tool };
        input = no_bytes;
        out = [];
      };
    })
gone_carried b homed tool h = record {
  up = h.up;
  down = h.down;
  inv = gone_event (lined b h.up h.down) homed tool h.inv;
  client = h.client;
  server = left_plain b.server.server homed tool;
  client_out = h.client_out;
  server_out = refl;
  client_fault = h.client_fault;
  server_fault = refl;
  at_rest = λ e. refl;
  wired = wired_gone b.links b.client.client.last b.client.client.on b.client.input.rest b.server.server.last b.server.server.on
      b.server.input.rest h.up h.down h.wired;
}

-- the server leaves its connection and keeps no byte of it, and what both ends carry is kept
pub server_left_carried : (b : World) → IsCarried b → IsCarried (record b { server = serving_left b.server })
server_left_carried b h = gone_carried b b.server.server.homed b.server.server.tool h

-- the server restarts with no bytes, neither homed nor with a tool, and what both ends carry is kept
pub server_restart_carried : (b : World) → IsCarried b → IsCarried (record b { server = serving_restarted b.server })
server_restart_carried b h = gone_carried b false None h

-- ---- what the client writes

-- it stays on its connection
pub record StaysOn (c d : Client) : Type 0 where
  pub on : d.on ≡ c.on
  pub last : d.last ≡ c.last

-- a client that sends does
pub sends_stays : (c : Client) (ps : List Planned) (n : Option ℕ) → StaysOn c (sends_next c ps n).client
sends_stays c [] n = record { on = refl; last = refl }
sends_stays c (p ∷ ps) None = record { on = refl; last = refl }
sends_stays c (p ∷ ps) (Some n) = record { on = refl; last = refl }

aborts_stays : (c : Client) (n : Option ℕ) → StaysOn c (sends_abort c n).client
aborts_stays c None = record { on = refl; last = refl }
aborts_stays c (Some n) = record { on = refl; last = refl }

-- what a client writes joins what is on its way up, and what both ends carry is kept
abbrev pub writes_carried : (b : World) (h : IsCarried b) (s : Sends) → b.client.client.on ≡ true
    → StaysOn b.client.client s.client → IsPlainSends s
    → Inv (sent (lined b h.up h.down) s) → IsCarried (client_writes b (with_lines b.client s))
writes_carried b h s on stays plain inv = record {
  up = h.up ++ s.lines;
  down = h.down;
  inv = inv;
  client = plain.client;
  server = h.server;
  client_out = refl;
  server_out = h.server_out;
  client_fault = h.client_fault;
  server_fault = h.server_fault;
  at_rest = h.at_rest;
  wired = subst (λ (o : Bool). IsWired new s.client.last o heard b.server.server.last b.server.server.on b.server.input.rest (h.up
      ++ s.lines) h.down) (sym (stays.on ∙ on))
      (subst (λ (i : ℕ). IsWired new i true heard b.server.server.last b.server.server.on b.server.input.rest (h.up ++ s.lines) h.down)
      (sym stays.last)
      (subst (λ (bytes : List ℕ). IsWired (with_link b.links n (record { up = (client_link b).up ++ bytes; down = (client_link b).down })) n
      true heard b.server.server.last b.server.server.on b.server.input.rest (h.up ++ s.lines) h.down) (sym out_is)
      (wired_writes b.links n heard b.server.server.last b.server.server.on b.server.input.rest h.up h.down s.lines
      (subst (λ (o : Bool). IsWired b.links n o heard b.server.server.last b.server.server.on b.server.input.rest h.up h.down) on h.wired)
      plain.lines)));
}
  where
    n : ℕ
    n = b.client.client.last

    heard : List ℕ
    heard = b.client.input.rest

    out_is : b.client.out ++ command_bytes s.lines ≡ command_bytes s.lines
    out_is = ap (λ (l : List ℕ). l ++ command_bytes s.lines) h.client_out

    new : List Link
    new = with_link b.links b.client.client.last (record {
      up = (client_link b).up ++ (b.client.out ++ command_bytes s.lines);
      down = (client_link b).down;
    })

-- a client for which a command is due, or that may abort, is on a connection
pub due_on : (w : Lined) → Inv w → is_some (due w.client) ≡ true → w.client.on ≡ true
due_on w inv can = go inv.side
  where
    d : IsDue w.client
    d = due_is w.client can

    go : IsOff w ⊎ IsLive w → w.client.on ≡ true
    go (inl off) = absurd (subst IsAtRest d.running off.rest)
    go (inr live) = live.on

-- a client in a state in which it may abort is on a connection
pub abort_on : (w : Lined) → Inv w → may_abort w.client.state ≡ true → w.client.on ≡ true
abort_on w inv can = go inv.side
  where
    go : IsOff w ⊎ IsLive w → w.client.on ≡ true
    go (inl off) = absurd (never_off w off w.client.state refl can)
    go (inr live) = live.on

-- the bytes of the command that is due join those up on the client's connection, and what both ends carry is kept
abbrev pub sends_carried : (b : World) (h : IsCarried b) → is_some (due b.client.client) ≡ true
    → IsCarried (client_writes b (end_sent b.client))
sends_carried b h can =
    writes_carried b h (client_sent b.client.client) (due_on (lined b h.up h.down) h.inv can)
    (sends_stays b.client.client b.client.client.table.tally.unsent (next_number Std b.client.client.table.standard b.client.client.drawn))
    (plain_sent b.client.client h.client) (sends_event (lined b h.up h.down) h.inv can)

-- a client that may abort adds the bytes of an abort to those up, and what both ends carry is kept
pub abort_carried : (b : World) (h : IsCarried b) → may_abort b.client.client.state ≡ true
    → IsCarried (client_writes b (end_aborted b.client))
abort_carried b h can =
    writes_carried b h (client_aborted b.client.client) (abort_on (lined b h.up h.down) h.inv can)
    (aborts_stays b.client.client (next_number Event b.client.client.table.event b.client.client.event_drawn))
    (plain_aborted b.client.client h.client) (abort_event (lined b h.up h.down) h.inv can)

-- a client that may resume begins its plan again and writes nothing yet, and what both ends carry is kept
pub resume_carried : (b : World) (h : IsCarried b) → may_resume b.client.client b.client.client.state ≡ true
    → IsCarried (record b { client = end_resumed b.client })
resume_carried b h can = record {
  up = h.up;
  down = h.down;
  inv = resume_event (lined b h.up h.down) h.inv can;
  client = plain_resumed b.client.client h.client;
  server = h.server;
  client_out = h.client_out;
  server_out = h.server_out;
  client_fault = h.client_fault;
  server_fault = h.server_fault;
  at_rest = h.at_rest;
  wired = h.wired;
}

-- ---- what the client reads

hears_stays : (c : Client) (t : Tag) (m : Mark) (r : Result Table Cause) → StaysOn c (client_hears c t m r)
hears_stays c t m (Ok b) = record { on = refl; last = refl }
hears_stays c t m (Err cause) = record { on = refl; last = refl }

-- a client that reads does
pub read_stays : (c : Client) (t : Tag) (m : Mark) → StaysOn c (client_read c t m)
read_stays c t m = go (tag_is t (Event 0))
  where
    go : (z : Bool) → StaysOn c (cond z c (client_hears c t m (heard_on c.program.features c.table t m)))
    go true = record { on = refl; last = refl }
    go false = hears_stays c t m (heard_on c.program.features c.table t m)

-- the first reply on its way is expected
first_has_place : (b : World) (h : IsCarried b) (r : Reply) (others : List Reply) → b.client.client.on ≡ true → h.down ≡ r ∷ others
    → HasPlace b.client.client (tag_of r) (mark_of r)
first_has_place b h r others on down_is faulty =
    let w : Lined = lined b h.up (r ∷ others) in
    never_faulted (client_reads w (r ∷ others))
    (hear_event w (subst (λ (d : List Reply). Inv (lined b h.up d)) down_is h.inv) on) faulty

-- a reply is read off the front
abbrev pub heard_carried : (b : World) (h : IsCarried b) (r : Reply) (others : List Reply) (rest : List ℕ) → b.client.client.on ≡ true
    → h.down ≡ r ∷ others → rest ++ (client_link b).down ≡ reply_bytes others
    → IsCarried (record b {
      client = record {
        client = client_read b.client.client (tag_of r) (mark_of r);
        input = record { rest = rest; fault = b.client.input.fault };
        out = b.client.out;
      };
    })
heard_carried b h r others rest on down_is behind =
    let stays : StaysOn b.client.client (client_read b.client.client (tag_of r) (mark_of r)) =
    read_stays b.client.client (tag_of r) (mark_of r) in
    let replies = subst Rattle.protocol_model.proofs.written_lines.Writable.AreReplies down_is h.wired.replies in
    let wired : IsWired b.links b.client.client.last b.client.client.on rest b.server.server.last b.server.server.on b.server.input.rest
    h.up others = record {
      made = h.wired.made;
      numbers = h.wired.numbers;
      first = h.wired.first;
      taken = h.wired.taken;
      lines = h.wired.lines;
      replies = replies.1;
      down_is = λ e. behind;
      newest_waits = h.wired.newest_waits;
      newest_serves = h.wired.newest_serves;
      waits = h.wired.waits;
      serves = h.wired.serves;
    } in
    record {
      up = h.up;
      down = others;
      inv = hear_event (lined b h.up (r ∷ others)) (subst (λ (d : List Reply). Inv (lined b h.up d)) down_is h.inv) on;
      client = plain_read b.client.client (tag_of r) (mark_of r) h.client;
      server = h.server;
      client_out = h.client_out;
      server_out = h.server_out;
      client_fault = h.client_fault;
      server_fault = h.server_fault;
      at_rest = h.at_rest;
      wired = subst (λ (o : Bool). IsWired b.links (client_read b.client.client (tag_of r) (mark_of r)).last o rest b.server.server.last
          b.server.server.on b.server.input.rest h.up others) (sym stays.on)
          (subst (λ (i : ℕ). IsWired b.links i b.client.client.on rest b.server.server.last b.server.server.on b.server.input.rest h.up
          others) (sym stays.last) wired);
    }

-- a client reads what is at the start of its bytes, which is a reply and no fault, and what both ends carry is kept
pub hears_carried : (b : World) (h : IsCarried b) → b.client.client.on ≡ true
    → is_any (next_of b.client.input.rest) ≡ true → IsCarried (record b { client = end_read b.client })
hears_carried b h on due_now = go (next_of b.client.input.rest) refl due_now
  where
    bytes : b.client.input.rest ++ (client_link b).down ≡ reply_bytes h.down
    bytes = h.wired.down_is on

    line_case : (line rest : List ℕ) → next_of b.client.input.rest ≡ Ok (Some (line, rest))
        → IsCarried (record b { client = end_read b.client })
    line_case line rest next =
        let t : NextReply h.down line rest (client_link b).down =
        next_reply h.down b.client.input.rest (client_link b).down line rest h.wired.replies bytes next in
        let replies = subst Rattle.protocol_model.proofs.written_lines.Writable.AreReplies t.replies_are h.wired.replies in
        let client_is : front_read b.client.client (next_of b.client.input.rest)
        ≡ client_read b.client.client (tag_of t.first) (mark_of t.first) =
        ap (front_read b.client.client) next ∙ (ap (λ (l : List ℕ). line_read b.client.client (response_of l)) t.text
        ∙ reply_heard b.client.client t.first replies.0 (first_has_place b h t.first t.others on t.replies_are)) in
        let input_is : left_by (next_of b.client.input.rest) b.client.input ≡ record { rest = rest; fault = b.client.input.fault } =
        ap (λ (f : Front). left_by f b.client.input) next in
        subst (λ (c : Client). IsCarried (record b {
          client = record {
            client = c;
            input = left_by (next_of b.client.input.rest) b.client.input;
            out = b.client.out;
          };
        })) (sym client_is)
        (subst (λ (f : Framing). IsCarried (record b {
          client = record
              { client = client_read b.client.client (tag_of t.first) (mark_of t.first); input = f; out = b.client.out };
        })) (sym input_is)
        (heard_carried b h t.first t.others rest on t.replies_are t.behind))

    go : (f : Front) → next_of b.client.input.rest ≡ f → is_any f ≡ true → IsCarried (record b { client = end_read b.client })
    go (Ok None) e is = absurd (false≢true is)
    go (Ok (Some (line, rest))) e is = line_case line rest e
    go (Err why) e is = absurd (no_reply_fault h.down b.client.input.rest (client_link b).down why h.wired.replies bytes e)

-- the first reply down is gone after that, and the client has heard it
pub record HearsFirst (b : World) (h : IsCarried b) (v : World) : Type 0 where
  pub first : Reply
  pub others : List Reply
  pub was : h.down ≡ first ∷ others
  pub carried : IsCarried v
  pub down_is : carried.down ≡ others
  pub server_is : v.server ≡ b.server
  pub client_is : v.client.client ≡ client_read b.client.client (tag_of first) (mark_of first)

pub hears_first : (b : World) (h : IsCarried b) → b.client.client.on ≡ true
    → is_any (next_of b.client.input.rest) ≡ true → HearsFirst b h (record b { client = end_read b.client })
hears_first b h on due_now = go (next_of b.client.input.rest) refl due_now
  where
    bytes : b.client.input.rest ++ (client_link b).down ≡ reply_bytes h.down
    bytes = h.wired.down_is on

    line_case : (line rest : List ℕ) → next_of b.client.input.rest ≡ Ok (Some (line, rest))
        → HearsFirst b h (record b { client = end_read b.client })
    line_case line rest next =
        let t : NextReply h.down line rest (client_link b).down =
        next_reply h.down b.client.input.rest (client_link b).down line rest h.wired.replies bytes next in
        let replies = subst Rattle.protocol_model.proofs.written_lines.Writable.AreReplies t.replies_are h.wired.replies in
        let client_is : front_read b.client.client (next_of b.client.input.rest)
        ≡ client_read b.client.client (tag_of t.first) (mark_of t.first) =
        ap (front_read b.client.client) next ∙ (ap (λ (l : List ℕ). line_read b.client.client (response_of l)) t.text
        ∙ reply_heard b.client.client t.first replies.0 (first_has_place b h t.first t.others on t.replies_are)) in
        let input_is : left_by (next_of b.client.input.rest) b.client.input ≡ record { rest = rest; fault = b.client.input.fault } =
        ap (λ (f : Front). left_by f b.client.input) next in
        subst (λ (c : Client). HearsFirst b h (record b {
          client = record {
            client = c;
            input = left_by (next_of b.client.input.rest) b.client.input;
            out = b.client.out;
          };
        })) (sym client_is)
        (subst (λ (f : Framing). HearsFirst b h (record b {
          client = record
              { client = client_read b.client.client (tag_of t.first) (mark_of t.first); input = f; out = b.client.out };
        })) (sym input_is)
        (record {
          first = t.first;
          others = t.others;
          was = t.replies_are;
          carried = heard_carried b h t.first t.others rest on t.replies_are t.behind;
          down_is = refl;
          server_is = refl;
          client_is = refl;
        }))

    go : (f : Front) → next_of b.client.input.rest ≡ f → is_any f ≡ true
        → HearsFirst b h (record b { client = end_read b.client })
    go (Ok None) e is = absurd (false≢true is)
    go (Ok (Some (line, rest))) e is = line_case line rest e
    go (Err why) e is = absurd (no_reply_fault h.down b.client.input.rest (client_link b).down why h.wired.replies bytes e)
