-- What the client reads in a world, and the bytes that come to it.
use Rattle.link_world.proofs.Names.{◌&&◌, ◌∙◌, ◌≡◌, ◌≢◌, and_from, and_parts, ap, Bool, can, client_link, ClientEnd, ClientFault, Connection}
use Rattle.link_world.proofs.Names.{end_read, Err, Event, false, false≢true, FramingFault, Front, front_read, happens, has_some, IsCarried, IsLineDue}
use Rattle.link_world.proofs.Names.{IsReached, IsReadRefused, left_by, Link, link_of, List, may_read, moved_down, next_of, no_link, None, not, Ok}
use Rattle.link_world.proofs.Names.{refl, refused_by, seen, ServerValue, Some, State, subst, sym, true, with_link, World, WorldFault, ℕ}
use Rattle.protocol_model.specs.World.{is_any}
use Rattle.protocol_model.specs.World as world
use Rattle.protocol_model.proofs.written_lines.LineTaking.{no_reply_fault}
use Rattle.client_core.specs.Clients.{is_faulted}
use Rattle.link_world.proofs.Reached.{carried, reached_more}
use Rattle.link_world.proofs.ClientSteps.{never_faulted_now}
use Rattle.link_world.proofs.ClientWriting.{awake}

-- whether it reads
abbrev pub reads_any : ClientEnd → Bool
reads_any e = e.client.on && (not (world.is_faulted e.client.state) && is_any (next_of e.input.rest))

pub faulted_same : (s : State) → is_faulted s ≡ world.is_faulted s
faulted_same State.Apart = refl
faulted_same State.Running = refl
faulted_same State.Failing = refl
faulted_same State.Aborting = refl
faulted_same State.Halted = refl
faulted_same State.Done = refl
faulted_same State.Faulted = refl

may_is : (e : ClientEnd) → may_read e.client ≡ true → (e.client.on ≡ true) × (not (world.is_faulted e.client.state) ≡ true)
may_is e may = let parts = and_parts _ _ may in (parts.0, subst (λ (b : Bool). not b ≡ true) (faulted_same e.client.state) parts.1)

any_line : (f : Front) → IsLineDue f → is_any f ≡ true
any_line (Ok None) due = absurd (false≢true due)
any_line (Ok (Some found)) due = refl
any_line (Err why) due = refl

pub reads_can : (e : ClientEnd) → may_read e.client ≡ true → IsLineDue (next_of e.input.rest) → reads_any e ≡ true
reads_can e may due = let parts = may_is e may in and_from _ _ parts.0 (and_from _ _ parts.1 (any_line (next_of e.input.rest) due))

-- it never meets bytes that are not a line
no_fault_read : (client : ClientEnd) (server : ServerValue) (cs : List Connection) (written : List ℕ)
    → IsReached (seen client server cs written)
    → client.client.on ≡ true → (why : FramingFault) → next_of client.input.rest ≡ Err why → ⊥
no_fault_read client server cs written h on why is =
    let c : IsCarried (seen client server cs written).world = carried (seen client server cs written) h in
    no_reply_fault c.down client.input.rest (client_link (seen client server cs written).world).down why c.wired.replies
    (c.wired.down_is on) is

pub read_reached : (client after : ClientEnd) (server : ServerValue) (cs : List Connection) (written : List ℕ)
    → IsReached (seen client server cs written)
    → reads_any client ≡ true → (after ≡ end_read client)
    → IsReached (seen after server cs written)
read_reached client after server cs written h may is =
    reached_more (seen client server cs written) (seen after server cs written) Event.ClientReads h may
    (ap (λ (e : ClientEnd). seen e server cs written) (is))

-- no line is there
pub record NothingRead (client after : ClientEnd) : Type 0 where
  pub same : after ≡ client
  pub none : reads_any client ≡ false

none_there : (client : ClientEnd) (f : Front) → f ≡ Ok None
    → record { client = front_read client.client f; input = left_by f client.input; out = client.out } ≡ client
none_there client f e = ap (λ (x : Front). record {
  client = front_read client.client x;
  input = left_by x client.input;
  out = client.out;
}) e

not_any : (e : ClientEnd) (f : Front) → next_of e.input.rest ≡ f → is_any f ≡ false → reads_any e ≡ false
not_any e f is none = go (reads_any e) refl
  where
    go : (b : Bool) → reads_any e ≡ b → b ≡ false
    go false x = refl
    go true x = absurd (false≢true (sym none ∙ (ap is_any (sym is) ∙ (and_parts _ _ (and_parts _ _ x).1).1)))

pub nothing_read : (client after : ClientEnd) (server : ServerValue) (cs : List Connection) (written : List ℕ)
    → IsReached (seen client server cs written)
    → may_read client.client ≡ true → (IsLineDue (next_of client.input.rest) → ⊥)
    → (after ≡ end_read client) → NothingRead client after
nothing_read client after server cs written h may none is = go (next_of client.input.rest) refl
  where
    go : (f : Front) → next_of client.input.rest ≡ f → NothingRead client after
    go (Ok None) e = record {
      same = is ∙ none_there client (next_of client.input.rest) e;
      none = not_any client (Ok None) e refl;
    }
    go (Ok (Some found)) e = absurd (none (subst IsLineDue (sym e) refl))
    go (Err why) e = absurd (no_fault_read client server cs written h (may_is client may).0 why e)

-- a call that is refused found no line, or no memory
pub record NotRead (client after : ClientEnd) (fault : ClientFault) : Type 0 where
  pub same : after ≡ client
  pub none : refused_by fault ≡ WorldFault.NotNow → reads_any client ≡ false

pub off_reads : (e : ClientEnd) → e.client.on ≡ false → reads_any e ≡ false
off_reads e off = ap (λ (b : Bool). b && (not (world.is_faulted e.client.state) && is_any (next_of e.input.rest))) off

never_met : (client after : ClientEnd) (server : ServerValue) (cs : List Connection) (written : List ℕ)
    → IsReached (seen client server cs written) → is_faulted after.client.state ≡ true
    → (may_read client.client ≡ true → after ≡ end_read client)
    → (may_read client.client ≡ false → after ≡ client) → ⊥
never_met client after server cs written h met is before = go (may_read client.client) refl
  where
    front : (f : Front) → next_of client.input.rest ≡ f → may_read client.client ≡ true → ⊥
    front (Ok None) e may =
        never_faulted_now client server cs written h
        (subst (λ (x : ClientEnd). is_faulted x.client.state ≡ true) (is may
        ∙ none_there client (next_of client.input.rest) e) met)
    front (Ok (Some found)) e may =
        let parts = may_is client may in
        let can_now : reads_any client ≡ true = and_from _ _ parts.0 (and_from _ _ parts.1 (ap is_any e)) in
        never_faulted_now after server cs written (read_reached client after server cs written h can_now (is may)) met
    front (Err why) e may = no_fault_read client server cs written h (may_is client may).0 why e

    go : (b : Bool) → may_read client.client ≡ b → ⊥
    go true may = front (next_of client.input.rest) refl may
    go false never = never_faulted_now client server cs written h
        (subst (λ (x : ClientEnd). is_faulted x.client.state ≡ true) (before never) met)

pub not_read : (client after : ClientEnd) (server : ServerValue) (cs : List Connection) (written : List ℕ) (fault : ClientFault)
    → IsReached (seen client server cs written)
    → IsReadRefused client after fault → (fault ≢ ClientFault.Memory → may_read client.client ≡ true → after ≡ end_read client)
    → (may_read client.client ≡ false → after ≡ client) → NotRead client after fault
not_read client after server cs written ClientFault.NotNow h r is before = record { same = r.0; none = λ e. off_reads client r.1 }
not_read client after server cs written (ClientFault.Faulted cause) h r is before =
    absurd (never_met client after server cs written h r.0 (is (λ (e : ClientFault.Faulted cause ≡ ClientFault.Memory). cc)) before)
not_read client after server cs written ClientFault.Memory h r is before = record { same = r; none = λ e. absurd (cc) }

pub no_line : (client : ClientEnd) (server : ServerValue) (cs : List Connection) (written : List ℕ)
    → IsReached (seen client server cs written)
    → client.client.on ≡ true → (IsLineDue (next_of client.input.rest) → ⊥) → reads_any client ≡ false
no_line client server cs written h on none = go (next_of client.input.rest) refl
  where
    go : (f : Front) → next_of client.input.rest ≡ f → reads_any client ≡ false
    go (Ok None) e = not_any client (Ok None) e refl
    go (Ok (Some found)) e = absurd (none (subst IsLineDue (sym e) refl))
    go (Err why) e = absurd (no_fault_read client server cs written h on why e)

pub line_can : (client : ClientEnd) (server : ServerValue) (cs : List Connection) (written : List ℕ)
    → IsReached (seen client server cs written)
    → client.client.on ≡ true → IsLineDue (next_of client.input.rest) → reads_any client ≡ true
line_can client server cs written h on due =
    and_from _ _ on (and_from _ _ (subst (λ (b : Bool). not b ≡ true) (faulted_same client.client.state)
    (ap not (awake client server cs written h))) (any_line (next_of client.input.rest) due))

-- memory runs out only for a line that is there
pub wanted_for : (fault : ClientFault) → refused_by fault ≡ WorldFault.Memory → fault ≡ ClientFault.Memory
wanted_for ClientFault.NotNow e = absurd (cc)
wanted_for (ClientFault.Faulted cause) e = absurd (cc)
wanted_for ClientFault.Memory e = refl
