-- The bytes that come to the client in a world.
use Rattle.link_world.proofs.Names.{◌&&◌, ◌-◌, ◌<◌, ◌∙◌, ◌≡◌, and_from, ap, arith, Bool, can, client_link, ClientEnd, Connection, drop, end_fed}
use Rattle.link_world.proofs.Names.{Event, false, fewer_down, happens, has_some, IsReached, length, Link, link_of, link_of_connection, links_of, List}
use Rattle.link_world.proofs.Names.{may_read, moved_down, no_link, not, seen, ServerValue, slice_index_or, slice_set, sym, take, true, with_link}
use Rattle.link_world.proofs.Names.{with_world, World, WorldValue, ℕ}
use Rattle.protocol_model.specs.World as world
use Rattle.link_world.proofs.Linking.{links_get, link_put}
use Rattle.link_world.proofs.Reached.{made}
use Rattle.link_world.proofs.ClientWriting.{awake}
use Rattle.link_world.proofs.ClientReading.{faulted_same}

-- if it is on a connection it reads
pub reads_on : (client : ClientEnd) (server : ServerValue) (cs : List Connection) (written : List ℕ)
    → IsReached (seen client server cs written)
    → client.client.on ≡ true → may_read client.client ≡ true
reads_on client server cs written h on = and_from _ _ on (ap not (awake client server cs written h))

pub off_no_bytes : (l : WorldValue) (count : ℕ) → l.world.client.client.on ≡ false → can (Event.Down count) l.world ≡ false
off_no_bytes l count off = ap (λ (b : Bool). b && (not (world.is_faulted l.world.client.client.state)
    && has_some count (client_link l.world).down)) off

-- the bytes of its connection
here : (client : ClientEnd) (server : ServerValue) (cs : List Connection) (written : List ℕ) (at : ℕ) (c : Connection)
    → IsReached (seen client server cs written) → at ≡ length cs - 1 → 0 < length cs → c ≡ slice_index_or cs at c
    → link_of (links_of cs) client.client.last ≡ link_of_connection c
here client server cs written at c h place some is =
    let same : length cs ≡ client.client.last = made client server cs written h in
    let number : at ≡ client.client.last - 1 = place ∙ ap (λ (n : ℕ). n - 1) same in
    ap (λ (n : ℕ). slice_index_or (links_of cs) n no_link) (sym number) ∙ links_get cs at c (omega (arith, place, some)) is

pub down_may : (count : ℕ) (client : ClientEnd) (server : ServerValue) (cs : List Connection) (written : List ℕ) (at : ℕ) (c : Connection)
    → IsReached (seen client server cs written) → client.client.on ≡ true
    → at ≡ length cs - 1 → 0 < length cs → c ≡ slice_index_or cs at c
    → can (Event.Down count) (seen client server cs written).world ≡ has_some count c.down.waiting
down_may count client server cs written at c h on place some is =
    let link = here client server cs written at c h place some is in
    let stays : not (world.is_faulted client.client.state) ≡ true =
    ap not (sym (faulted_same client.client.state) ∙ awake client server cs written h) in
    ap (λ (x : Bool). x && (not (world.is_faulted client.client.state) && has_some count (link_of (links_of cs) client.client.last).down))
    on
    ∙ (ap (λ (x : Bool). x && has_some count (link_of (links_of cs) client.client.last).down) stays
    ∙ ap (λ (l : Link). has_some count l.down) link)

pub down_seen : (count : ℕ) (client after : ClientEnd) (server : ServerValue) (cs : List Connection) (written : List ℕ) (at : ℕ)
    (c d : Connection)
    → IsReached (seen client server cs written) → at ≡ length cs - 1 → 0 < length cs → c ≡ slice_index_or cs at c
    → after ≡ end_fed (take count c.down.waiting) client → link_of_connection d ≡ fewer_down count c
    → seen after server (slice_set cs at d) written ≡ with_world (seen client server cs written)
    (moved_down count (seen client server cs written).world)
down_seen count client after server cs written at c d h place some is fed down =
    let same : length cs ≡ client.client.last = made client server cs written h in
    let number : at ≡ client.client.last - 1 = place ∙ ap (λ (n : ℕ). n - 1) same in
    let link : link_of (links_of cs) client.client.last ≡ link_of_connection c = here client server cs written at c h place some is in
    let links : links_of (slice_set cs at d) ≡ with_link (links_of cs) client.client.last
    (record (link_of (links_of cs) client.client.last) { down = drop count (link_of (links_of cs) client.client.last).down }) =
    link_put (λ (l : Link). record l { down = drop count l.down }) cs at client.client.last c d (omega (arith, place, some)) is number down
    in
    let read : after ≡ end_fed (take count (link_of (links_of cs) client.client.last).down) client = fed
    ∙ ap (λ (l : Link). end_fed (take count l.down) client) (sym link) in
    ap (λ (x : ClientEnd). seen x server (slice_set cs at d) written) read
    ∙ ap (λ (l : List Link). record {
      setup = server.setup;
      world = record {
        client = end_fed (take count (link_of (links_of cs) client.client.last).down) client;
        server = server.end;
        links = l;
        written = written;
      };
    }) links
