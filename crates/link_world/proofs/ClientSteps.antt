-- What the client's events make of a world.
use Rattle.link_world.proofs.Names.{[], ◌&&◌, ◌++◌, ◌+◌, ◌<◌, ◌∙◌, ◌∷◌, ◌≡◌, ◌≤◌, and_from, and_parts, ap, arith, Bool, can, ClientEnd, ClientFault}
use Rattle.link_world.proofs.Names.{connected, Connection, connection_most, end_connected, end_left, end_restarted, end_resumed, Event, false}
use Rattle.link_world.proofs.Names.{false≢true, happens, is_apart, IsReached, IsRefused, le-leb, leb-true, length, Link, link_of_connection, links_of}
use Rattle.link_world.proofs.Names.{List, lt-ltb, ltb-true, may_connect, may_resume, nat_le, nat_lt, no_link, refl, refused_by, seen, ServerValue}
use Rattle.link_world.proofs.Names.{State, subst, suc, sym, true, with_world, World, WorldFault, WorldValue, ℕ}
use Rattle.client_core.specs.Clients.{is_faulted}
use Rattle.link_world.proofs.Linking.{links_more}
use Rattle.link_world.proofs.Reached.{reached_more, made, headline}

-- no call of the client finds it Faulted
faulted_state : (s : State) → is_faulted s ≡ true → s ≡ State.Faulted
faulted_state State.Faulted e = refl
faulted_state State.Apart e = absurd (false≢true e)
faulted_state State.Running e = absurd (false≢true e)
faulted_state State.Failing e = absurd (false≢true e)
faulted_state State.Aborting e = absurd (false≢true e)
faulted_state State.Halted e = absurd (false≢true e)
faulted_state State.Done e = absurd (false≢true e)

pub never_faulted_now : (client : ClientEnd) (server : ServerValue) (cs : List Connection) (written : List ℕ)
    → IsReached (seen client server cs written) → is_faulted client.client.state ≡ true → ⊥
never_faulted_now client server cs written h e = (headline (seen client server cs written) h).client (faulted_state client.client.state e)

-- a call that is refused was not possible
pub refused_now : (client : ClientEnd) (server : ServerValue) (cs : List Connection) (written : List ℕ) (can_call : Bool)
    (fault : ClientFault)
    → IsReached (seen client server cs written)
    → IsRefused can_call client fault → refused_by fault ≡ WorldFault.NotNow → can_call ≡ false
refused_now client server cs written can_call ClientFault.NotNow h r e = r.1
refused_now client server cs written can_call (ClientFault.Faulted cause) h r e = absurd (never_faulted_now client server cs written h r.0)
refused_now client server cs written can_call ClientFault.Memory h r e = absurd (cc)

-- ---- the next connection

no_bytes : (c : Connection) → c.up.waiting ≡ [] → c.down.waiting ≡ [] → link_of_connection c ≡ no_link
no_bytes c up down = ap (λ (l : List ℕ). record { up = l; down = c.down.waiting }) up
    ∙ ap (λ (l : List ℕ). record { up = []; down = l }) down

connect_seen : (client after : ClientEnd) (server : ServerValue) (cs ds : List Connection) (written now : List ℕ) (c : Connection)
    (number : ℕ)
    → IsReached (seen client server cs written) → after ≡ end_connected number client → number ≡ length cs + 1 → ds ≡ cs ++ c ∷ []
    → c.up.waiting ≡ [] → c.down.waiting ≡ [] → now ≡ []
    → seen after server ds now ≡ with_world (seen client server cs written) (connected (seen client server cs written).world)
connect_seen client after server cs ds written now c number h is n d up down none =
    let last : number ≡ suc client.client.last = let same : length cs ≡ client.client.last = made client server cs written h in n
    ∙ omega (arith, same) in
    let links : links_of ds ≡ links_of cs ++ no_link ∷ [] = ap links_of d
    ∙ (links_more cs c ∙ ap (λ (l : Link). links_of cs ++ l ∷ []) (no_bytes c up down)) in
    ap (λ (e : ClientEnd). seen e server ds now) (is ∙ ap (λ (k : ℕ). end_connected k client) last)
    ∙ (ap (λ (l : List Link). record {
      setup = server.setup;
      world = record {
        client = end_connected (suc client.client.last) client;
        server = server.end;
        links = l;
        written = now;
      };
    }) links
    ∙ ap (λ (l : List ℕ). record {
      setup = server.setup;
      world = record {
        client = end_connected (suc client.client.last) client;
        server = server.end;
        links = links_of cs ++ no_link ∷ [];
        written = l;
      };
    }) none)

pub connect_reached : (client after : ClientEnd) (server : ServerValue) (cs ds : List Connection) (written now : List ℕ) (c : Connection)
    (number : ℕ)
    → IsReached (seen client server cs written) → can Event.Connect (seen client server cs written).world ≡ true
    → after ≡ end_connected number client → number ≡ length cs + 1 → ds ≡ cs ++ c ∷ [] → c.up.waiting ≡ [] → c.down.waiting ≡ [] → now ≡ []
    → IsReached (seen after server ds now)
connect_reached client after server cs ds written now c number h may is n d up down none =
    reached_more (seen client server cs written) (seen after server ds now) Event.Connect h may
    (connect_seen client after server cs ds written now c number h is n d up down none)

pub connect_is : (l : WorldValue) (client after : ClientEnd) (server : ServerValue) (cs ds : List Connection) (written now : List ℕ)
    (c : Connection) (number : ℕ)
    → l ≡ seen client server cs written → IsReached (seen client server cs written) → after ≡ end_connected number client
    → number ≡ length cs + 1 → ds ≡ cs ++ c ∷ [] → c.up.waiting ≡ [] → c.down.waiting ≡ [] → now ≡ []
    → seen after server ds now ≡ with_world l (connected l.world)
connect_is l client after server cs ds written now c number view h is n d up down none =
    connect_seen client after server cs ds written now c number h is n d up down none
    ∙ ap (λ (k : WorldValue). with_world k (connected k.world)) (sym view)

-- whether the number of the next connection is one that a client may take
next_number_fits : (last most : ℕ) → nat_le (suc last) most ≡ nat_lt last most
next_number_fits last most = refl

pub connect_may : (l : WorldValue) (client : ClientEnd) (server : ServerValue) (cs : List Connection) (written : List ℕ) (number : ℕ)
    (b : Bool)
    → l ≡ seen client server cs written → IsReached (seen client server cs written) → number ≡ length cs + 1
    → (is_apart client.client.state && nat_le number connection_most) ≡ b
    → (is_apart l.world.client.client.state && nat_lt l.world.client.client.last connection_most) ≡ b
connect_may l client server cs written number b view h n is =
    let same : length cs ≡ client.client.last = made client server cs written h in
    let next : number ≡ suc client.client.last = n ∙ omega (arith, same) in
    subst (λ (k : WorldValue). (is_apart k.world.client.client.state && nat_lt k.world.client.client.last connection_most) ≡ b) (sym view)
    (ap (λ (x : Bool). is_apart client.client.state && x) (sym (next_number_fits client.client.last connection_most))
    ∙ (ap (λ (k : ℕ). is_apart client.client.state && nat_le k connection_most) (sym next) ∙ is))

-- it is refused if the client is not apart, or each number is taken
pub connect_refused : (l : WorldValue) (client : ClientEnd) (server : ServerValue) (cs : List Connection) (written : List ℕ) (number : ℕ)
    → l ≡ seen client server cs written → IsReached (seen client server cs written) → number ≡ length cs + 1
    → may_connect number client.client ≡ false
    → (is_apart l.world.client.client.state && nat_lt l.world.client.client.last connection_most) ≡ false
connect_refused l client server cs written number view h n never =
    subst (λ (k : WorldValue). (is_apart k.world.client.client.state && nat_lt k.world.client.client.last connection_most) ≡ false)
    (sym view)
    (go (is_apart client.client.state && nat_lt client.client.last connection_most) refl)
  where
    same : length cs ≡ client.client.last
    same = made client server cs written h

    go : (b : Bool) → (is_apart client.client.state && nat_lt client.client.last connection_most) ≡ b → b ≡ false
    go false e = refl
    go true e =
        let parts = and_parts _ _ e in
        let below : client.client.last < connection_most = ltb-true client.client.last connection_most parts.1 in
        let above : nat_lt client.client.last number ≡ true = lt-ltb client.client.last number (omega (arith, same, n)) in
        let within : nat_le number connection_most ≡ true = le-leb number connection_most (omega (arith, same, n, below)) in
        absurd (false≢true (sym never ∙ and_from _ _ parts.0 (and_from _ _ above within)))

-- ---- events of the client alone

alone : (client after : ClientEnd) (server : ServerValue) (cs : List Connection) (written : List ℕ) (e : Event)
    → IsReached (seen client server cs written) → can e (seen client server cs written).world ≡ true
    → (record (seen client server cs written).world { client = after }
    ≡ happens e (seen client server cs written).world) → IsReached (seen after server cs written)
alone client after server cs written e h may is =
    reached_more (seen client server cs written) (seen after server cs written) e h may
    (ap (λ (w : World). with_world (seen client server cs written) w) (is))

pub resume_reached : (client after : ClientEnd) (server : ServerValue) (cs : List Connection) (written : List ℕ)
    → IsReached (seen client server cs written) → may_resume client.client client.client.state ≡ true
    → after ≡ end_resumed client → IsReached (seen after server cs written)
resume_reached client after server cs written h may is =
    alone client after server cs written Event.Resume h may (ap
    (λ (e : ClientEnd). record (seen client server cs written).world { client = e }) is)

pub left_reached : (client after : ClientEnd) (server : ServerValue) (cs : List Connection) (written : List ℕ)
    → IsReached (seen client server cs written) → client.client.on ≡ true
    → after ≡ end_left client → IsReached (seen after server cs written)
left_reached client after server cs written h may is =
    alone client after server cs written Event.ClientLeaves h may
    (ap (λ (e : ClientEnd). record (seen client server cs written).world { client = e }) is)

pub restart_can : (count : ℕ) (client : ClientEnd) → count ≤ length client.client.table.tally.features
    → nat_le count (length client.client.table.tally.features) ≡ true
restart_can count client le = le-leb count (length client.client.table.tally.features) le

pub restart_refused : (count : ℕ) (client : ClientEnd) → (count ≤ length client.client.table.tally.features → ⊥)
    → nat_le count (length client.client.table.tally.features) ≡ false
restart_refused count client never = go (nat_le count (length client.client.table.tally.features)) refl
  where
    go : (b : Bool) → nat_le count (length client.client.table.tally.features) ≡ b → b ≡ false
    go false e = refl
    go true e = absurd (never (leb-true count (length client.client.table.tally.features) e))

pub restart_reached : (count : ℕ) (client after : ClientEnd) (server : ServerValue) (cs : List Connection) (written : List ℕ)
    → IsReached (seen client server cs written)
    → count ≤ length client.client.table.tally.features → after ≡ end_restarted count client → IsReached (seen after server cs written)
restart_reached count client after server cs written h le is =
    alone client after server cs written (Event.ClientRestart count) h (restart_can count client le)
    (ap (λ (e : ClientEnd). record (seen client server cs written).world { client = e }) is)
