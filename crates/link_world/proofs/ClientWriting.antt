-- What the client writes in a world joins the bytes of its connection.
use Rattle.link_world.proofs.Names.{◌++◌, ◌-◌, ◌<◌, ◌∙◌, ◌≡◌, ◌≢◌, ◌≤◌, ap, arith, Bool, client_writes, ClientEnd, Connection, due, end_aborted}
use Rattle.link_world.proofs.Names.{end_sent, Event, false, is_some, IsCarried, IsReached, length, lined, Link, link_of, link_of_connection, links_of}
use Rattle.link_world.proofs.Names.{List, may_abort, quiet_client, refl, seen, ServerValue, slice_index_or, slice_set, State, sym, true, with_link}
use Rattle.link_world.proofs.Names.{with_up, with_world, WorldValue, ℕ}
use Rattle.protocol_model.proofs.whole_run.CarryingClient.{abort_on, due_on}
use Rattle.client_core.specs.Clients.{is_faulted}
use Rattle.link_world.proofs.Linking.{links_same, link_put}
use Rattle.link_world.proofs.Reached.{carried, made, headline, never_faulted_behind}

-- ---- if it may write it is on a connection

pub some_made : (client : ClientEnd) (server : ServerValue) (cs : List Connection) (written : List ℕ)
    → IsReached (seen client server cs written) → client.client.on ≡ true → 0 < length cs
some_made client server cs written h on =
    let first : 1 ≤ client.client.last = (carried (seen client server cs written) h).wired.first on in
    let same : length cs ≡ client.client.last = made client server cs written h in omega (arith, first, same)

false_by : (b : Bool) → (b ≡ true → ⊥) → b ≡ false
false_by true never = absurd (never refl)
false_by false never = refl

pub none_due : (client : ClientEnd) (server : ServerValue) (cs : List Connection) (written : List ℕ)
    → IsReached (seen client server cs written)
    → (0 < length cs → ⊥) → is_some (due client.client) ≡ false
none_due client server cs written h none =
    let c : IsCarried (seen client server cs written).world = carried (seen client server cs written) h in
    false_by (is_some (due client.client)) (λ e. none (some_made client server cs written h
    (due_on (lined (seen client server cs written).world c.up c.down) c.inv e)))

pub none_aborts : (client : ClientEnd) (server : ServerValue) (cs : List Connection) (written : List ℕ)
    → IsReached (seen client server cs written) → (0 < length cs → ⊥) → may_abort client.client.state ≡ false
none_aborts client server cs written h none =
    let c : IsCarried (seen client server cs written).world = carried (seen client server cs written) h in
    false_by (may_abort client.client.state) (λ e. none (some_made client server cs written h
    (abort_on (lined (seen client server cs written).world c.up c.down) c.inv e)))

-- ---- no tag is missing

awake_state : (s : State) → s ≢ State.Faulted → is_faulted s ≡ false
awake_state State.Apart n = refl
awake_state State.Running n = refl
awake_state State.Failing n = refl
awake_state State.Aborting n = refl
awake_state State.Halted n = refl
awake_state State.Done n = refl
awake_state State.Faulted n = absurd (n refl)

pub awake : (client : ClientEnd) (server : ServerValue) (cs : List Connection) (written : List ℕ)
    → IsReached (seen client server cs written)
    → is_faulted client.client.state ≡ false
awake client server cs written h = awake_state client.client.state (headline (seen client server cs written) h).client

pub send_fine : (client : ClientEnd) (server : ServerValue) (cs : List Connection) (written : List ℕ)
    → IsReached (seen client server cs written) → is_some (due client.client) ≡ true → is_faulted (end_sent client).client.state ≡ false
send_fine client server cs written h may = awake_state (end_sent client).client.state
    (never_faulted_behind (seen client server cs written) Event.ClientSends h may)

pub abort_fine : (client : ClientEnd) (server : ServerValue) (cs : List Connection) (written : List ℕ)
    → IsReached (seen client server cs written) → may_abort client.client.state ≡ true
    → is_faulted (end_aborted client).client.state ≡ false
abort_fine client server cs written h may = awake_state (end_aborted client).client.state
    (never_faulted_behind (seen client server cs written) Event.Abort h may)

-- ---- what is written

pub writes_seen : (client after : ClientEnd) (server : ServerValue) (cs : List Connection) (written now : List ℕ) (at : ℕ)
    (c d : Connection)
    (e : ClientEnd)
    → IsReached (seen client server cs written) → at ≡ length cs - 1 → 0 < length cs → c ≡ slice_index_or cs at c
    → after ≡ quiet_client e → link_of_connection d ≡ with_up c e.out → now ≡ written ++ e.out
    → seen after server (slice_set cs at d) now ≡ with_world (seen client server cs written)
    (client_writes (seen client server cs written).world e)
writes_seen client after server cs written now at c d e h place some is quiet up text =
    let same : length cs ≡ client.client.last = made client server cs written h in
    let number : at ≡ client.client.last - 1 = place ∙ ap (λ (n : ℕ). n - 1) same in
    let links : links_of (slice_set cs at d) ≡ with_link (links_of cs) client.client.last
    (record (link_of (links_of cs) client.client.last) { up = (link_of (links_of cs) client.client.last).up ++ e.out }) =
    link_put (λ (l : Link). record l { up = l.up ++ e.out }) cs at client.client.last c d (omega (arith, place, some)) is number up in
    ap (λ (x : ClientEnd). seen x server (slice_set cs at d) now) quiet
    ∙ (ap (λ (l : List Link). record {
      setup = server.setup;
      world = record {
        client = quiet_client e;
        server = server.end;
        links = l;
        written = now;
      };
    }) links
    ∙ ap (λ (l : List ℕ). record {
      setup = server.setup;
      world = record {
        client = quiet_client e;
        server = server.end;
        links = with_link (links_of cs) client.client.last (record (link_of (links_of cs) client.client.last)
            { up = (link_of (links_of cs) client.client.last).up ++ e.out });
        written = l;
      };
    }) text)

-- nothing is written
pub same_seen : (l : WorldValue) (client after : ClientEnd) (server : ServerValue) (cs : List Connection) (written now : List ℕ) (at : ℕ)
    (c d : Connection)
    → l ≡ seen client server cs written → at ≡ length cs - 1 → 0 < length cs → c ≡ slice_index_or cs at c
    → after ≡ client → link_of_connection d ≡ link_of_connection c → now ≡ written → seen after server (slice_set cs at d) now ≡ l
same_seen l client after server cs written now at c d view place some is same link text =
    rw (same, text) (ap (λ (x : List Link). record {
      setup = server.setup;
      world = record { client = client; server = server.end; links = x; written = written };
    })
    (links_same cs at c d (omega (arith, place, some)) is link) ∙ sym view)
