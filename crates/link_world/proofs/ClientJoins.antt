-- A client's turn over its ports is a list of events of the world.
use Rattle.link_world.proofs.Names.{[], ◌&&◌, ◌++◌, ◌-◌, ◌∙◌, ◌∷◌, ◌≡◌, ◌≤◌, after, always_sound, always_told, and_from, and_parts, ap, append-nil}
use Rattle.link_world.proofs.Names.{append_assoc, arith, Bool, can, Client, client_joined, client_link, ClientEnd, ClientTurn, cond, drop, due}
use Rattle.link_world.proofs.Names.{end_aborted, end_fed, end_left, end_read, end_sent, end_taken, Event, false, fed, fed_behind, Framing}
use Rattle.link_world.proofs.Names.{FramingFault, Front, happens, has_some, is_some, IsClientTurn, IsProgram, le-leb, length, Link, link_of}
use Rattle.link_world.proofs.Names.{link_same, List, may_abort, may_read, Meaning, next_of, no_link, None, not, Ok, Option, Planned, Reading, refl}
use Rattle.link_world.proofs.Names.{run_of, Sending, sends, sends_abort, sends_next, set-get_or, slice_set, Some, Sound, Stage, start, State, steered}
use Rattle.link_world.proofs.Names.{steering, subst, suc, sym, take, take-append-drop, Taking, Told, true, TurnLeads, with_link, World, Writing, zero}
use Rattle.link_world.proofs.Names.{ℕ}
use Rattle.protocol_model.specs.World.{is_any, is_faulted as is_over}
use Rattle.client_core.specs.Clients.{is_faulted}
use Rattle.link_world.specs.Pumps.{begins, has, reads, takes, writes}
use Rattle.link_world.proofs.EventLists.{run_append, done_now, not_done}
use Rattle.link_world.proofs.TurnJoins.{SoFar, not_yet, once_more, all_done, sent_only, client_turned}

-- ---- connections

set_twice : (links : List Link) (at : ℕ) (l m : Link) → slice_set (slice_set links at l) at m ≡ slice_set links at m
set_twice [] at l m = refl
set_twice (k ∷ links) zero l m = refl
set_twice (k ∷ links) (suc at) l m = ap (λ (x : List Link). k ∷ x) (set_twice links at l m)

-- the connection that was given other bytes is given others again
pub put_again : (f : Link → Link) (links : List Link) (n m : ℕ) (l : Link) → m ≡ n → 1 ≤ n → n ≤ length links
    → with_link (with_link links n l) m (f (link_of (with_link links n l) m)) ≡ with_link links n (f l)
put_again f links n m l same from to =
    ap (λ (k : ℕ). with_link (with_link links n l) k (f (link_of (with_link links n l) k))) same
    ∙ (ap (λ (x : Link). with_link (with_link links n l) n (f x)) (link_same links n l from to)
    ∙ set_twice links (n - 1) l (f l))

-- ---- what a client keeps

sends_last : (c : Client) (ps : List Planned) (n : Option ℕ) → (sends_next c ps n).client.last ≡ c.last
sends_last c [] n = refl
sends_last c (p ∷ ps) None = refl
sends_last c (p ∷ ps) (Some n) = refl

pub sent_last : (e : ClientEnd) → (end_sent e).client.last ≡ e.client.last
sent_last e = sends_last e.client e.client.table.tally.unsent _

fed_none_by : (fault : Option FramingFault) (rest : List ℕ) → fed_behind fault rest [] ≡ record { rest = rest; fault = fault }
fed_none_by None rest = ap (λ (x : List ℕ). record { rest = x; fault = None }) (append-nil rest)
fed_none_by (Some fault) rest = refl

pub fed_none : (f : Framing) → fed f [] ≡ f
fed_none f = fed_none_by f.fault f.rest

not_over : (s : State) → not (is_faulted s) ≡ true → not (is_over s) ≡ true
not_over State.Running h = refl
not_over State.Apart h = refl
not_over State.Failing h = refl
not_over State.Aborting h = refl
not_over State.Halted h = refl
not_over State.Done h = refl
not_over State.Faulted h = h

pub never_none : (a b : Bool) → (a && (b && false)) ≡ false
never_none true true = refl
never_none true false = refl
never_none false b = refl

pub fits : (xs ys : List ℕ) → take (length xs) ys ≡ xs → length xs ≤ length ys
fits [] ys front = omega arith
fits (x ∷ xs) [] front = absurd (cc)
fits (x ∷ xs) (y ∷ ys) front = omega (arith, fits xs ys (ap (drop 1) front))

-- ---- one event

-- the client is on a connection that was made, with nothing to send
record IsOn (w : World) : Type 0 where
  pub out : w.client.out ≡ []
  pub from : 1 ≤ w.client.client.last
  pub to : w.client.client.last ≤ length w.links

begun : (w : World) → IsOn w → w ≡ client_joined w w.client w.client.out 0
begun w h = sym (λ i. record {
  client = record (w.client) { out = sym h.out i };
  server = w.server;
  links = (ap (λ (t : List ℕ). with_link w.links w.client.client.last
      (record { up = (client_link w).up ++ t; down = (client_link w).down })) h.out
      ∙ (ap (λ (u : List ℕ). with_link w.links w.client.client.last (record { up = u; down = (client_link w).down }))
      (append-nil (client_link w).up)
      ∙ set-get_or w.links (w.client.client.last - 1) no_link)) i;
  written = (ap (λ (t : List ℕ). w.written ++ t) h.out ∙ append-nil w.written) i;
})

aborts_last : (c : Client) (n : Option ℕ) → (sends_abort c n).client.last ≡ c.last
aborts_last c None = refl
aborts_last c (Some n) = refl

-- a world in which the client is at the start of its turn: what it has written has joined its connection
record Starts (w v : World) (s : ClientEnd) : Type 0 where
  pub stands : v ≡ client_joined w s s.out 0
  pub last : s.client.last ≡ w.client.client.last

stop_starts : (w : World) → IsOn w → (b : Bool) → Starts w (cond b (happens Event.Abort w) w) (cond b (end_aborted w.client) w.client)
stop_starts w h true = record { stands = refl; last = aborts_last w.client.client _ }
stop_starts w h false = record { stands = begun w h; last = refl }

steered_starts : (c : Bool) (w : World) → IsOn w → Starts w (run_of (steering c) w) (steered c w.client)
steered_starts false w h = record { stands = begun w h; last = refl }
steered_starts true w h = stop_starts w h (may_abort w.client.client.state)

sends_on : (w : World) (e : ClientEnd) → IsOn w → e.client.last ≡ w.client.client.last
    → is_some (due e.client) ≡ true
    → after Event.ClientSends (client_joined w e e.out 0) ≡ client_joined w (end_sent e) (end_sent e).out 0
sends_on w e h last is =
    let more : List ℕ = (end_sent (record e { out = [] })).out in
    done_now Event.ClientSends (client_joined w e e.out 0) is ∙ (λ i. record {
      client = record (end_sent e) { out = [] };
      server = w.server;
      links = (put_again (λ (l : Link). record l { up = l.up ++ more }) w.links w.client.client.last e.client.last
          (record { up = (client_link w).up ++ e.out; down = (client_link w).down }) last h.from h.to
          ∙ ap (λ (u : List ℕ). with_link w.links w.client.client.last (record { up = u; down = (client_link w).down }))
          (append_assoc (client_link w).up e.out more)) i;
      written = append_assoc w.written e.out more i;
    })

-- the connection after what was written
there : (w : World) (e : ClientEnd) (text : List ℕ) → IsOn w → e.client.last ≡ w.client.client.last
    → client_link (client_joined w e text 0) ≡ record { up = (client_link w).up ++ text; down = (client_link w).down }
there w e text h last =
    ap (λ (n : ℕ). link_of (client_joined w e text 0).links n) last
    ∙ link_same w.links w.client.client.last (record { up = (client_link w).up ++ text; down = (client_link w).down }) h.from h.to

some_down : (w : World) (e : ClientEnd) (text : List ℕ) (k : ℕ) → IsOn w → e.client.last ≡ w.client.client.last → may_read e.client ≡ true
    → 1 ≤ k → k ≤ length (client_link w).down → can (Event.Down k) (client_joined w e text 0) ≡ true
some_down w e text k h last may some le =
    let parts = and_parts _ _ may in
    and_from _ _ parts.0 (and_from _ _ (not_over e.client.state parts.1)
    (ap (λ (l : Link). has_some k l.down) (there w e text h last)
    ∙ and_from _ _ (le-leb 1 k some) (le-leb k (length (client_link w).down) le)))

takes_on : (w : World) (e : ClientEnd) (text read : List ℕ) → IsOn w → e.client.last ≡ w.client.client.last
    → may_read e.client ≡ true → take (length read) (client_link w).down ≡ read
    → after (Event.Down (length read)) (client_joined w e text 0) ≡ client_joined w (end_fed read e) text (length read)
takes_on w e text [] h last may front =
    not_done (Event.Down 0) (client_joined w e text 0) (never_none e.client.on (not (is_over e.client.state)))
    ∙ ap (λ (f : Framing). client_joined w (record e { input = f }) text 0) (sym (fed_none e.input))
takes_on w e text (x ∷ xs) h last may front =
    let k : ℕ = length (x ∷ xs) in
    let came : take k (client_link (client_joined w e text 0)).down ≡ x ∷ xs =
    ap (λ (l : Link). take k l.down) (there w e text h last) ∙ front in
    done_now (Event.Down k) (client_joined w e text 0)
    (some_down w e text k h last may (omega arith) (fits (x ∷ xs) (client_link w).down front))
    ∙ (λ i. record {
      client = record e { input = fed e.input (came i); out = [] };
      server = w.server;
      links = put_again (λ (l : Link). record l { down = drop k l.down }) w.links w.client.client.last e.client.last
          (record { up = (client_link w).up ++ text; down = (client_link w).down }) last h.from h.to i;
      written = w.written ++ text;
    })

may_hear : (e : ClientEnd) → may_read e.client ≡ true → is_any (next_of e.input.rest) ≡ true
    → (e.client.on && (not (is_over e.client.state) && is_any (next_of e.input.rest))) ≡ true
may_hear e may is = let parts = and_parts _ _ may in and_from _ _ parts.0 (and_from _ _ (not_over e.client.state parts.1) is)

-- all that was to be sent has gone out
all_out : (written : List ℕ) (e : ClientEnd) → e.out ≡ [] → written ++ e.out ≡ written
all_out written e out = ap (λ (x : List ℕ). written ++ x) out ∙ append-nil written

reads_on : (w : World) (e : ClientEnd) (text : List ℕ) (k : ℕ) → may_read e.client ≡ true
    → is_any (next_of e.input.rest) ≡ true
    → after Event.ClientReads (client_joined w e text k) ≡ client_joined w (end_read e) text k
reads_on w e text k may is =
    let parts = and_parts _ _ may in
    done_now Event.ClientReads (client_joined w e text k)
    (and_from _ _ parts.0 (and_from _ _ (not_over e.client.state parts.1) is))

-- ---- the turn

-- in addition: until bytes come in the client is on its connection, and from then on it has nothing to send; it sends until nothing is due
record Sends (v w : World) (e : ClientEnd) : Type 0 where
  pub so_far : SoFar Event.ClientSends v (client_joined w e e.out 0)
  pub last : e.client.last ≡ w.client.client.last

record Writes (v w : World) (written : List ℕ) (e : ClientEnd) : Type 0 where
  pub so_far : SoFar Event.ClientSends v (client_joined w e (written ++ e.out) 0)
  pub last : e.client.last ≡ w.client.client.last
  pub none : due e.client ≡ None

record Hears (v w : World) (read written : List ℕ) (e : ClientEnd) : Type 0 where
  pub first : ClientEnd
  pub sent : SoFar Event.ClientSends v (client_joined w first written 0)
  pub none : due first.client ≡ None
  pub fed : World
  pub came : after (Event.Down (length read)) (client_joined w first written 0) ≡ fed
  pub so_far : SoFar Event.ClientReads fed (client_joined w e written (length read))
  pub out : e.out ≡ []

abbrev Goes : (v w : World) → Stage → List ℕ → List ℕ → ClientEnd → Type 0
Goes v w Sending read written e = Sends v w e × (written ≡ [])
Goes v w Writing read written e = Writes v w written e
Goes v w _ read written e = Hears v w read written e

plays : (least : ℕ) (v w : World) (s : ClientEnd) (stage : Stage) (read written : List ℕ) (e : ClientEnd) → IsOn w → Starts w v s
    → take (length read) (client_link w).down ≡ read → ClientTurn least s stage read written e
    → Goes v w stage read written e
plays least v w s _ _ _ _ h g front begins =
    (record { so_far = not_yet Event.ClientSends v (client_joined w s s.out 0) g.stands; last = g.last }, refl)
plays least v w s _ _ _ _ h g front (sends e t is) =
    let p : Sends v w e = (plays least v w s Sending [] [] e h g front t).0 in (
      record {
        so_far = once_more Event.ClientSends v (client_joined w e e.out 0)
            (client_joined w (end_sent e) (end_sent e).out 0) p.so_far
            is (sends_on w e h p.last is);
        last = sent_last e ∙ p.last;
      },
      refl,
    )
plays least v w s _ _ _ _ h g front (writes e count t none within) =
    let p : Sends v w e = (plays least v w s Sending [] [] e h g front t).0 in record {
      so_far = subst (λ (x : List ℕ). SoFar Event.ClientSends v (client_joined w e x 0))
          (sym (take-append-drop count e.out)) p.so_far;
      last = p.last;
      none = none;
    }
plays least v w s _ _ _ _ h g front (takes e read written t out may) =
    let p : Writes v w written e = plays least v w s Writing [] written e h g refl t in record {
      first = e;
      sent = subst (λ (x : List ℕ). SoFar Event.ClientSends v (client_joined w e x 0)) (all_out written e out) p.so_far;
      none = p.none;
      fed = client_joined w (end_fed read e) written (length read);
      came = takes_on w e written read h p.last may front;
      so_far = not_yet Event.ClientReads (client_joined w (end_fed read e) written (length read))
          (client_joined w (end_fed read e) written (length read)) refl;
      out = out;
    }
plays least v w s _ _ _ _ h g front (has e read written t enough) = plays least v w s Taking read written e h g front t
plays least v w s _ _ _ _ h g front (reads e read written t may is) =
    let p : Hears v w read written e = plays least v w s Reading read written e h g front t in record {
      first = p.first;
      sent = p.sent;
      none = p.none;
      fed = p.fed;
      came = p.came;
      so_far = once_more Event.ClientReads p.fed (client_joined w e written (length read))
          (client_joined w (end_read e) written (length read)) p.so_far (may_hear e may is)
          (reads_on w e written (length read) may is);
      out = p.out;
    }

-- nothing more is due
none_due : (w : World) (e : ClientEnd) (text : List ℕ) → due e.client ≡ None
    → can Event.ClientSends (client_joined w e text 0) ≡ false
none_due w e text none = ap is_some none

abbrev Turns : World → (cut : Bool) → ℕ → World → Type 0
Turns v cut count x = TurnLeads (IsClientTurn count) cut v x

hears_leads : (v w : World) (read written : List ℕ) (e : ClientEnd) → Hears v w read written e
    → Turns v true (length read) (client_joined w e (written ++ e.out) (length read))
hears_leads v w read written e p =
    subst (λ (x : List ℕ). Turns v true (length read) (client_joined w e x (length read))) (sym (all_out written e p.out))
    (client_turned (length read) true v (client_joined w p.first written 0) p.fed (client_joined w e written (length read)) p.sent
    (none_due w p.first written p.none) p.came p.so_far p.so_far.while)

-- so far, in events
sent_leads : (least : ℕ) (v w : World) (s : ClientEnd) (stage : Stage) (read written : List ℕ) (e : ClientEnd) → IsOn w → Starts w v s
    → take (length read) (client_link w).down ≡ read → ClientTurn least s stage read written e
    → Turns v true (length read) (client_joined w e (written ++ e.out) (length read))
sent_leads least v w s _ _ _ _ h g front begins =
    let p : Sends v w s = (plays least v w s Sending [] [] s h g front begins).0 in
    sent_only 0 v (client_joined w s s.out 0) p.so_far
sent_leads least v w s _ _ _ _ h g front (sends e t is) =
    let p : Sends v w (end_sent e) = (plays least v w s Sending [] [] (end_sent e) h g front (sends e t is)).0 in
    sent_only 0 v (client_joined w (end_sent e) (end_sent e).out 0) p.so_far
sent_leads least v w s _ _ _ _ h g front (writes e count t none within) =
    let p : Writes v w (take count e.out) (end_taken count e) =
    plays least v w s Writing [] (take count e.out) (end_taken count e) h g front (writes e count t none within) in
    sent_only 0 v (client_joined w (end_taken count e) (take count e.out ++ drop count e.out) 0) p.so_far
sent_leads least v w s _ _ _ _ h g front (takes e read written t out may) =
    hears_leads v w read written (end_fed read e)
    (plays least v w s Taking read written (end_fed read e) h g front (takes e read written t out may))
sent_leads least v w s _ _ _ _ h g front (has e read written t enough) =
    hears_leads v w read written e (plays least v w s Reading read written e h g front (has e read written t enough))
sent_leads least v w s _ _ _ _ h g front (reads e read written t may is) =
    hears_leads v w read written (end_read e)
    (plays least v w s Reading read written (end_read e) h g front (reads e read written t may is))

-- how far a client's turn has come, in events
pub turn_joins : (c : Bool) (least : ℕ) (w : World) (stage : Stage) (read written : List ℕ) (e : ClientEnd)
    → w.client.out ≡ [] → 1 ≤ w.client.client.last → w.client.client.last ≤ length w.links
    → take (length read) (client_link w).down ≡ read → ClientTurn least (steered c w.client) stage read written e
    → TurnLeads (IsClientTurn (length read)) true (run_of (steering c) w) (client_joined w e (written ++ e.out) (length read))
turn_joins c least w stage read written e out from to front t =
    let on : IsOn w = record { out = out; from = from; to = to } in
    sent_leads least (run_of (steering c) w) w (steered c w.client) stage read written e on (steered_starts c w on) front t

heard_so_far : (c : Bool) (least : ℕ) (w : World) (read written : List ℕ) (e : ClientEnd)
    → w.client.out ≡ [] → 1 ≤ w.client.client.last → w.client.client.last ≤ length w.links
    → take (length read) (client_link w).down ≡ read → ClientTurn least (steered c w.client) Reading read written e
    → Hears (run_of (steering c) w) w read written e
heard_so_far c least w read written e out from to front t =
    let on : IsOn w = record { out = out; from = from; to = to } in
    plays least (run_of (steering c) w) w (steered c w.client) Reading read written e on (steered_starts c w on) front t

-- a turn in which the client has read all
pub turn_whole : (c : Bool) (least : ℕ) (w : World) (read written : List ℕ) (e : ClientEnd)
    → w.client.out ≡ [] → 1 ≤ w.client.client.last → w.client.client.last ≤ length w.links
    → take (length read) (client_link w).down ≡ read → ClientTurn least (steered c w.client) Reading read written e
    → next_of e.input.rest ≡ Ok None
    → TurnLeads (IsClientTurn (length read)) false (run_of (steering c) w) (client_joined w e written (length read))
turn_whole c least w read written e out from to front t none =
    let p : Hears (run_of (steering c) w) w read written e = heard_so_far c least w read written e out from to front t in
    let v : World = client_joined w e written (length read) in
    let never : can Event.ClientReads v ≡ false =
    ap (λ (f : Front). e.client.on && (not (is_over e.client.state) && is_any f)) none
    ∙ never_none e.client.on (not (is_over e.client.state)) in
    client_turned (length read) false (run_of (steering c) w) (client_joined w p.first written 0) p.fed v p.sent
    (none_due w p.first written p.none) p.came p.so_far (all_done Event.ClientReads p.fed v p.so_far never)

-- it has then written all
pub turn_written : (c : Bool) (least : ℕ) (w : World) (read written : List ℕ) (e : ClientEnd)
    → w.client.out ≡ [] → 1 ≤ w.client.client.last → w.client.client.last ≤ length w.links
    → take (length read) (client_link w).down ≡ read → ClientTurn least (steered c w.client) Reading read written e → e.out ≡ []
turn_written c least w read written e out from to front t = (heard_so_far c least w read written e out from to front t).out

-- if a client reads, as many bytes have come in as were asked for
abbrev Enough : Stage → ℕ → List ℕ → Type 0
Enough Reading least read = least ≤ length read
Enough _ least read = Unit {0}

enough_came : (least : ℕ) (s : ClientEnd) (stage : Stage) (read written : List ℕ) (e : ClientEnd)
    → ClientTurn least s stage read written e → Enough stage least read
enough_came least s _ _ _ _ begins = tt
enough_came least s _ _ _ _ (sends e t is) = tt
enough_came least s _ _ _ _ (writes e count t none within) = tt
enough_came least s _ _ _ _ (takes e read written t out may) = tt
enough_came least s _ _ _ _ (has e read written t enough) = enough
enough_came least s _ _ _ _ (reads e read written t may is) = enough_came least s Reading read written e t

pub turn_enough : (least : ℕ) (s : ClientEnd) (read written : List ℕ) (e : ClientEnd)
    → ClientTurn least s Reading read written e → least ≤ length read
turn_enough least s read written e t = enough_came least s Reading read written e t

-- ---- after a turn from a world to which events have led

at_end : (w x : World) (events more : List Event) (v : World) → w ≡ run_of events v
    → run_of more w ≡ x → run_of (events ++ more) v ≡ x
at_end w x events more v is leads = run_append events more v ∙ (ap (run_of more) (sym is) ∙ leads)

pub turn_sound : (c : Bool) (least : ℕ) (w : World) (stage : Stage) (read written : List ℕ) (e : ClientEnd)
    (program : Meaning) (rack : List (List ℕ)) (window : ℕ) (events : List Event) → IsProgram program → window ≤ 16
    → w ≡ run_of events (start program rack window)
    → w.client.out ≡ [] → 1 ≤ w.client.client.last → w.client.client.last ≤ length w.links
    → take (length read) (client_link w).down ≡ read → ClientTurn least (steered c w.client) stage read written e
    → Sound program.features e.client.table.tally.features w.server.server.ledger
turn_sound c least w stage read written e program rack window events is few reached out from to front t =
    let j = turn_joins c least w stage read written e out from to front t in
    subst (λ (v : World). Sound program.features v.client.client.table.tally.features v.server.server.ledger)
    (at_end w (client_joined w e (written ++ e.out) (length read)) events (steering c ++ j.events) (start program rack window) reached
    (run_append (steering c) j.events w ∙ j.leads))
    (always_sound program rack window (events ++ (steering c ++ j.events)) is few)

pub turn_told : (c : Bool) (least : ℕ) (w : World) (stage : Stage) (read written : List ℕ) (e : ClientEnd)
    (program : Meaning) (rack : List (List ℕ)) (window : ℕ) (events : List Event) → IsProgram program → window ≤ 16
    → w ≡ run_of events (start program rack window)
    → w.client.out ≡ [] → 1 ≤ w.client.client.last → w.client.client.last ≤ length w.links
    → take (length read) (client_link w).down ≡ read → ClientTurn least (steered c w.client) stage read written e
    → Told e.client.table.tally.counted w.server.server.ledger e.client.last
turn_told c least w stage read written e program rack window events is few reached out from to front t =
    let j = turn_joins c least w stage read written e out from to front t in
    subst (λ (v : World). Told v.client.client.table.tally.counted v.server.server.ledger v.client.client.last)
    (at_end w (client_joined w e (written ++ e.out) (length read)) events (steering c ++ j.events) (start program rack window) reached
    (run_append (steering c) j.events w ∙ j.leads))
    (always_told program rack window (events ++ (steering c ++ j.events)) is few)

-- the client leaves its connection after events that have led so far
pub turn_leaves : (w : World) (events : List Event) (e : ClientEnd) (text : List ℕ) (count : ℕ)
    → run_of events w ≡ client_joined w e text count → e.client.on ≡ true
    → run_of (events ++ Event.ClientLeaves ∷ []) w ≡ record (client_joined w e text count) { client = end_left e }
turn_leaves w events e text count leads on =
    run_append events (Event.ClientLeaves ∷ []) w
    ∙ (ap (after Event.ClientLeaves) leads ∙ done_now Event.ClientLeaves (client_joined w e text count) on)
