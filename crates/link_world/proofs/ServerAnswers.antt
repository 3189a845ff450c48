-- What the server answers in a world joins the bytes of its connection, and the bytes that come to it.
use Rattle.link_world.proofs.Names.{◌&&◌, ◌++◌, ◌-◌, ◌<◌, ◌∙◌, ◌≡◌, ap, Bool, can, ClientEnd, Connection, drop, Event, false, fewer_up, FramingFault}
use Rattle.link_world.proofs.Names.{has_some, is_empty, is_line, is_none, IsReached, length, Line, Link, link_of, link_of_connection, links_of, List}
use Rattle.link_world.proofs.Names.{may_end, may_turn, moved_up, next_of, no_link, not, Option, Outcome, quiet_server, seen, server_writes, ServerEnd}
use Rattle.link_world.proofs.Names.{ServerValue, serving_fed, slice_index_or, slice_set, subst, sym, take, true, Waiting, with_down, with_end}
use Rattle.link_world.proofs.Names.{with_link, with_world, WorldValue, ℕ}
use Rattle.protocol_model.proofs.invariant.Holding.{IsIdle}
use Rattle.link_world.proofs.Linking.{links_get, links_same, link_put}
use Rattle.link_world.proofs.Reached.{carried, headline}

-- ---- on no connection it does nothing

idle : (client : ClientEnd) (server : ServerValue) (cs : List Connection) (written : List ℕ) → IsReached (seen client server cs written)
    → server.end.server.on ≡ false → IsIdle server.end.server
idle client server cs written h off = (carried (seen client server cs written) h).inv.idle off

pub off_turn : (l : WorldValue) (client : ClientEnd) (server : ServerValue) (cs : List Connection) (written : List ℕ)
    → seen client server cs written ≡ l → IsReached (seen client server cs written) → server.end.server.on ≡ false
    → may_turn l.world.server.server ≡ false
off_turn l client server cs written view h off =
    let i : IsIdle server.end.server = idle client server cs written h off in
    subst (λ (k : WorldValue). may_turn k.world.server.server ≡ false) view
    (ap (λ (r : Option Line). is_none r && not (is_empty server.end.server.waiting)) i.running
    ∙ ap (λ (w : List Waiting). not (is_empty w)) i.waiting)

pub off_end : (l : WorldValue) (outcome : Outcome) (client : ClientEnd) (server : ServerValue) (cs : List Connection) (written : List ℕ)
    → seen client server cs written ≡ l → IsReached (seen client server cs written) → server.end.server.on ≡ false
    → may_end l.world.server.server.running outcome ≡ false
off_end l outcome client server cs written view h off =
    let i : IsIdle server.end.server = idle client server cs written h off in
    subst (λ (k : WorldValue). may_end k.world.server.server.running outcome ≡ false) view
    (ap (λ (r : Option Line). may_end r outcome) i.running)

-- ---- the bytes of its connection

here : (server : ServerValue) (cs : List Connection) (at : ℕ) (c : Connection) → at ≡ server.end.server.last - 1 → at < length cs
    → c ≡ slice_index_or cs at c → link_of (links_of cs) server.end.server.last ≡ link_of_connection c
here server cs at c place short is = ap (λ (n : ℕ). slice_index_or (links_of cs) n no_link) (sym place) ∙ links_get cs at c short is

-- an answer
pub answers_seen : (client : ClientEnd) (server after : ServerValue) (cs : List Connection) (written : List ℕ) (at : ℕ) (c d : Connection)
    (e : ServerEnd)
    → at ≡ server.end.server.last - 1 → at < length cs → c ≡ slice_index_or cs at c
    → after ≡ with_end server (quiet_server e) → link_of_connection d ≡ with_down c e.out
    → seen client after (slice_set cs at d) written ≡ with_world (seen client server cs written)
    (server_writes (seen client server cs written).world e)
answers_seen client server after cs written at c d e place short is quiet down =
    let links : links_of (slice_set cs at d) ≡ with_link (links_of cs) server.end.server.last
    (record (link_of (links_of cs) server.end.server.last) { down = (link_of (links_of cs) server.end.server.last).down ++ e.out }) =
    link_put (λ (l : Link). record l { down = l.down ++ e.out }) cs at server.end.server.last c d short is place down in
    ap (λ (x : ServerValue). seen client x (slice_set cs at d) written) quiet
    ∙ ap (λ (l : List Link). record {
      setup = server.setup;
      world = record {
        client = client;
        server = quiet_server e;
        links = l;
        written = written;
      };
    }) links

-- ---- bytes that come

pub up_may : (count : ℕ) (client : ClientEnd) (server : ServerValue) (cs : List Connection) (written : List ℕ) (at : ℕ) (c : Connection)
    → IsReached (seen client server cs written) → server.end.server.on ≡ true
    → at ≡ server.end.server.last - 1 → at < length cs → c ≡ slice_index_or cs at c
    → can (Event.Up count) (seen client server cs written).world ≡ has_some count c.up.waiting
up_may count client server cs written at c h on place short is =
    let link : link_of (links_of cs) server.end.server.last ≡ link_of_connection c = here server cs at c place short is in
    ap (λ (x : Bool). x && (is_none server.end.input.fault && has_some count (link_of (links_of cs) server.end.server.last).up)) on
    ∙ (ap (λ (x : Option FramingFault). is_none x && has_some count (link_of (links_of cs) server.end.server.last).up)
    (headline (seen client server cs written) h).server.met
    ∙ ap (λ (l : Link). has_some count l.up) link)

pub up_seen : (count : ℕ) (client : ClientEnd) (server after : ServerValue) (cs : List Connection) (written : List ℕ) (at : ℕ)
    (c d : Connection)
    → at ≡ server.end.server.last - 1 → at < length cs → c ≡ slice_index_or cs at c
    → after ≡ with_end server (serving_fed (take count c.up.waiting) server.end) → link_of_connection d ≡ fewer_up count c
    → seen client after (slice_set cs at d) written ≡ with_world (seen client server cs written)
    (moved_up count (seen client server cs written).world)
up_seen count client server after cs written at c d place short is fed up =
    let link : link_of (links_of cs) server.end.server.last ≡ link_of_connection c = here server cs at c place short is in
    let links : links_of (slice_set cs at d) ≡ with_link (links_of cs) server.end.server.last
    (record (link_of (links_of cs) server.end.server.last) { up = drop count (link_of (links_of cs) server.end.server.last).up }) =
    link_put (λ (l : Link). record l { up = drop count l.up }) cs at server.end.server.last c d short is place up in
    let read : after ≡ with_end server (serving_fed (take count (link_of (links_of cs) server.end.server.last).up) server.end) = fed
    ∙ ap (λ (l : Link). with_end server (serving_fed (take count l.up) server.end)) (sym link) in
    ap (λ (x : ServerValue). seen client x (slice_set cs at d) written) read
    ∙ ap (λ (l : List Link). record {
      setup = server.setup;
      world = record {
        client = client;
        server = serving_fed (take count (link_of (links_of cs) server.end.server.last).up) server.end;
        links = l;
        written = written;
      };
    }) links

-- nothing is answered
pub same_seen : (l : WorldValue) (client : ClientEnd) (server after : ServerValue) (cs : List Connection) (written : List ℕ) (at : ℕ)
    (c d : Connection)
    → l ≡ seen client server cs written → at < length cs → c ≡ slice_index_or cs at c → after ≡ server
    → link_of_connection d ≡ link_of_connection c → seen client after (slice_set cs at d) written ≡ l
same_seen l client server after cs written at c d view short is same link =
    ap (λ (x : ServerValue). seen client x (slice_set cs at d) written) same
    ∙ (ap (λ (x : List Link). record {
      setup = server.setup;
      world = record {
        client = client;
        server = server.end;
        links = x;
        written = written;
      };
    }) (links_same cs at c d short is link) ∙ sym view)

-- ---- whether it reads

pub reads_may : (client : ClientEnd) (server : ServerValue) (cs : List Connection) (written : List ℕ)
    → IsReached (seen client server cs written) → server.end.server.on ≡ true
    → can Event.ServerReads (seen client server cs written).world ≡ is_line (next_of server.end.input.rest)
reads_may client server cs written h on =
    ap (λ (x : Bool). x && (is_none server.end.input.fault && is_line (next_of server.end.input.rest))) on
    ∙ ap (λ (x : Option FramingFault). is_none x && is_line (next_of server.end.input.rest))
    (headline (seen client server cs written) h).server.met
