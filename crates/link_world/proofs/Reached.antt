-- What holds of a world to which a list of events has led.
use Rattle.link_world.proofs.Names.{[], ◌&&◌, ◌++◌, ◌-◌, ◌<◌, ◌∙◌, ◌∷◌, ◌≡◌, ◌≢◌, ◌≤◌, after, and_parts, ap, arith, Bool, can, ClientEnd}
use Rattle.link_world.proofs.Names.{command_texts, cond, Connection, Err, Event, false, false≢true, Framing, FramingFault, happens, Headline}
use Rattle.link_world.proofs.Names.{if◌then◌else◌, IsCarried, IsProgram, IsReached, leb-true, length, lined, links_of, List, Meaning, nat_le}
use Rattle.link_world.proofs.Names.{new_client_end, new_serving, next_of, None, Option, refl, run_carried, run_of, seen, served_sound, server_link}
use Rattle.link_world.proofs.Names.{ServerValue, SetupValue, Some, Sound, start, start_carried, State, subst, suc, sym, Told, true, with_world, World}
use Rattle.link_world.proofs.Names.{WorldValue, ℕ}
use Rattle.line_framing.proofs.Streams.{no_fault}
use Rattle.protocol_model.proofs.each_event.ClientEvents.{never_faulted, served_now, told_now}
use Rattle.protocol_model.proofs.whole_run.Wires.{IsWhole}
use Rattle.protocol_model.proofs.written_lines.Writable.{command_lines}

pub carried : (l : WorldValue) → IsReached l → IsCarried l.world
carried l h = subst IsCarried (sym h.reached) (run_carried h.events (start h.program l.setup.tools h.window)
    (start_carried h.program l.setup.tools h.window h.is_program h.few))

-- ---- one more event

run_more : (es : List Event) (e : Event) (w : World)
    → run_of (es ++ e ∷ []) w ≡ after e (run_of es w)
run_more [] e w = refl
run_more (x ∷ es) e w = run_more es e (after x w)

happened : (e : Event) (w : World) (b : Bool) → can e w ≡ b → b ≡ true
    → cond b (happens e w) w ≡ happens e w
happened e w true is may = refl
happened e w false is may = absurd (false≢true may)

pub reached_more : (l m : WorldValue) (e : Event) → IsReached l → can e l.world ≡ true
    → (m ≡ with_world l (happens e l.world)) → IsReached m
reached_more l m e h may is =
    subst IsReached (sym (is)) (record {
      program = h.program;
      is_program = h.is_program;
      window = h.window;
      few = h.few;
      events = h.events ++ e ∷ [];
      reached =
          sym (happened e l.world (can e l.world) refl may)
          ∙ (ap (after e) h.reached ∙ sym (run_more h.events e (start h.program l.setup.tools h.window)));
    })

-- ---- the claims

pub sound : (l : WorldValue) → IsReached l
    → Sound l.world.client.client.program.features l.world.client.client.table.tally.features l.world.server.server.ledger
sound l h = let c : IsCarried l.world = carried l h in
    served_sound l.world.client.client.program.features l.world.client.client.table.tally.features l.world.server.server.ledger
    (served_now (lined l.world c.up c.down) c.inv)

told : (l : WorldValue) → IsReached l → Told l.world.client.client.table.tally.counted l.world.server.server.ledger
    l.world.client.client.last
told l h = let c : IsCarried l.world = carried l h in let t = told_now (lined l.world c.up c.down) c.inv
    in record { more = t.0; whole = t.1 }

-- a server on a connection reads the lines of its client, and one on none has nothing to read
framed : (l : WorldValue) → IsReached l → (on : Bool) → l.world.server.server.on ≡ on → (why : FramingFault)
    → next_of l.world.server.input.rest ≡ Err why → ⊥
framed l h true on why is =
    let c : IsCarried l.world = carried l h in
    let whole : IsWhole (l.world.server.input.rest ++ (server_link l.world).up) = c.wired.serves on in
    no_fault l.world.server.input.rest (server_link l.world).up (command_texts whole.lines) why
    (command_lines whole.lines whole.writable) whole.is is
framed l h false off why is =
    let c : IsCarried l.world = carried l h in
    let none : next_of [] ≡ Err why = ap (λ (input : Framing). next_of input.rest) (sym (c.at_rest off)) ∙ is in
    cc

pub headline : (l : WorldValue) → IsReached l → Headline l.world
headline l h = let c : IsCarried l.world = carried l h in record {
  features = sound l h;
  counted = told l h;
  client = never_faulted (lined l.world c.up c.down) c.inv;
  server = record { met = c.server_fault; next = framed l h l.world.server.server.on refl };
}

-- likewise for a world that is seen as an equal one
pub headline_seen : (l m : WorldValue) → l ≡ m → IsReached l → Headline m.world
headline_seen l m same h = subst (λ (k : WorldValue). Headline k.world) same (headline l h)

-- ---- numbers of connections

pub links_long : (cs : List Connection) → length (links_of cs) ≡ length cs
links_long [] = refl
links_long (c ∷ cs) = ap suc (links_long cs)

pub made : (client : ClientEnd) (server : ServerValue) (cs : List Connection) (written : List ℕ) → IsReached (seen client server cs written)
    → length cs ≡ client.client.last
made client server cs written h = sym (links_long cs) ∙ (carried (seen client server cs written) h).wired.made

pub taken : (client : ClientEnd) (server : ServerValue) (cs : List Connection) (written : List ℕ)
    → IsReached (seen client server cs written)
    → server.end.server.last ≤ length cs
taken client server cs written h =
    let w = (carried (seen client server cs written) h).wired in
    let same : length cs ≡ client.client.last = made client server cs written h in
    let le : server.end.server.last ≤ client.client.last = w.numbers in omega (arith, same, le)

pub server_number : (client : ClientEnd) (server : ServerValue) (cs : List Connection) (written : List ℕ)
    → IsReached (seen client server cs written) → server.end.server.on ≡ true → 1 ≤ server.end.server.last
server_number client server cs written h on = (carried (seen client server cs written) h).wired.taken on

-- the number of the server's connection
abbrev pub number_on : ServerValue → Option ℕ
number_on server = if server.end.server.on then Some server.end.server.last else None

some_number : (server : ServerValue) (number : ℕ) → number_on server ≡ Some number → (server.end.server.on ≡ true)
    × (server.end.server.last ≡ number)
some_number server number is = go server.end.server.on refl is
  where
    value : Option ℕ → ℕ
    value (Some n) = n
    value None = number

    go : (b : Bool) → server.end.server.on ≡ b → cond b (Some server.end.server.last) None ≡ Some number → (server.end.server.on ≡ true)
        × (server.end.server.last ≡ number)
    go true on e = (on, ap value e)
    go false off e = absurd (cc)

pub record Stands (l : WorldValue) (at : ℕ) : Type 0 where
  pub on : l.world.server.server.on ≡ true
  pub place : at ≡ l.world.server.server.last - 1
  pub within : at < length l.world.links

pub stands : (l : WorldValue) (client : ClientEnd) (server : ServerValue) (cs : List Connection) (written : List ℕ) (number at : ℕ)
    → l ≡ seen client server cs written → IsReached (seen client server cs written)
    → number_on server ≡ Some number → at ≡ number - 1 → (1 ≤ number) × Stands l at
stands l client server cs written number at view h is place =
    let two = some_number server number is in
    let one : 1 ≤ server.end.server.last = server_number client server cs written h two.0 in
    let le : server.end.server.last ≤ length cs = taken client server cs written h in
    let last : server.end.server.last ≡ number = two.1 in (
      omega (arith, one, last),
      subst (λ (k : WorldValue). Stands k at) (sym view) (record {
        on = two.0;
        place = place ∙ omega (arith, last);
        within = omega (arith, one, le, last, place, links_long cs);
      }),
    )

-- ---- what is to be sent was sent

pub client_quiet : (client : ClientEnd) (server : ServerValue) (cs : List Connection) (written : List ℕ)
    → IsReached (seen client server cs written) → client.out ≡ []
client_quiet client server cs written h = (carried (seen client server cs written) h).client_out

pub server_quiet : (client : ClientEnd) (server : ServerValue) (cs : List Connection) (written : List ℕ)
    → IsReached (seen client server cs written) → server.end.out ≡ []
server_quiet client server cs written h = (carried (seen client server cs written) h).server_out

-- ---- no side meets bytes that are not a line

pub server_reads_lines : (client : ClientEnd) (server : ServerValue) (cs : List Connection) (written : List ℕ)
    → IsReached (seen client server cs written)
    → server.end.server.on ≡ true → (why : FramingFault) → next_of server.end.input.rest ≡ Err why → ⊥
server_reads_lines client server cs written h on why is = framed (seen client server cs written) h true on why is

pub never_faulted_behind : (l : WorldValue) (e : Event) → IsReached l → can e l.world ≡ true
    → (happens e l.world).client.client.state ≢ State.Faulted
never_faulted_behind l e h may =
    let c : IsCarried (happens e l.world) = Rattle.protocol_model.proofs.whole_run.WholeRun.happens_carried e l.world
    (carried l h) may in
    never_faulted (lined (happens e l.world) c.up c.down) c.inv

-- ---- before any event

pub start_reached : (program : Meaning) (setup : SetupValue) (window : ℕ) (client : ClientEnd) (server : ServerValue) (cs : List Connection)
    (written : List ℕ) → IsProgram program → (nat_le 1 window && nat_le window 16) ≡ true
    → client ≡ new_client_end program [] window → server ≡ new_serving setup → cs ≡ [] → written ≡ []
    → IsReached (seen client server cs written)
start_reached program setup window client server cs written is_program few c s none nothing =
    subst (λ (l : WorldValue). IsReached l) (sym (ap (λ (x : ClientEnd). seen x server cs written) c
    ∙ (ap (λ (x : ServerValue). seen (new_client_end program [] window) x cs written) s
    ∙ (ap (λ (x : List Connection). seen (new_client_end program [] window) (new_serving setup) x written) none
    ∙ ap (λ (x : List ℕ). seen (new_client_end program [] window) (new_serving setup) [] x) nothing))))
    (record {
      program = program;
      is_program = is_program;
      window = window;
      few = leb-true window 16 (and_parts _ _ few).1;
      events = [];
      reached = refl;
    })
