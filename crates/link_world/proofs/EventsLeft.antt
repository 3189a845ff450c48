-- An event that is repeated leaves less to do.
use Rattle.link_world.proofs.Names.{[], ◌&&◌, ◌<◌, ◌∙◌, ◌∷◌, ◌≡◌, ◌≤◌, after, and_parts, ap, arith, Bool, can, Client, ClientEnd, cond, count_open}
use Rattle.link_world.proofs.Names.{Err, Event, false, false≢true, first_due, found, FramingFault, Front, front_read, front_served, happens}
use Rattle.link_world.proofs.Names.{is_asking, is_line, is_running, is_some, IsFound, left_by, length, length-append, List, next_number, next_of}
use Rattle.link_world.proofs.Names.{None, not, Ok, Option, Planned, refl, repeats, sends_next, ServerEnd, Some, State, subst, suc, sym, true}
use Rattle.link_world.proofs.Names.{with_world, World, WorldValue, ℕ}
use Rattle.dme_line.specs.declared.tags.Tag.TheVariants.{Std}
use Rattle.protocol_model.specs.World.{is_any, is_faulted}
use Rattle.link_world.proofs.EventLists.{done_now}

-- how much there is to do at most: commands to be sent, and bytes to be read
abbrev pub sends_left : State → ℕ → ℕ
sends_left State.Running n = suc n
sends_left _ n = 0

abbrev pub reads_left : Bool → ℕ → ℕ
reads_left true n = 0
reads_left false n = suc n

abbrev pub left_of : Event → World → ℕ
left_of Event.ClientSends w = sends_left w.client.client.state (length w.client.client.table.tally.unsent)
left_of Event.ServerReads w = length w.server.input.rest
left_of Event.ClientReads w = reads_left (is_faulted w.client.client.state) (length w.client.input.rest)
left_of _ w = 0

-- ---- sending

is_runs : (s : State) → is_running s ≡ true → s ≡ State.Running
is_runs State.Running e = refl
is_runs State.Apart e = absurd (false≢true e)
is_runs State.Failing e = absurd (false≢true e)
is_runs State.Aborting e = absurd (false≢true e)
is_runs State.Halted e = absurd (false≢true e)
is_runs State.Done e = absurd (false≢true e)
is_runs State.Faulted e = absurd (false≢true e)

due_runs : (c : Client) (b asks : Bool)
    → is_some (cond (b && asks) (first_due c.window (count_open c.table.standard) c.table.tally.unsent) None)
    ≡ true → b ≡ true
due_runs c true asks e = refl
due_runs c false asks e = absurd (false≢true e)

pub due_there : (window open_now : ℕ) (b : Bool) → is_some (cond b (first_due window open_now []) None) ≡ true → ⊥
due_there window open_now true e = false≢true e
due_there window open_now false e = false≢true e

sent_less : (c : Client) (b : Bool) (us : List Planned) (number : Option ℕ) → c.state ≡ State.Running
    → is_some (cond b (first_due c.window (count_open c.table.standard) us) None) ≡ true
    → sends_left (sends_next c us number).client.state (length (sends_next c us number).client.table.tally.unsent)
    < sends_left State.Running (length us)
sent_less c b [] number runs is = absurd (due_there c.window (count_open c.table.standard) b is)
sent_less c b (p ∷ ps) None runs is = omega arith
sent_less c b (p ∷ ps) (Some n) runs is = subst (λ (s : State). sends_left s (length ps) < suc (length (p ∷ ps))) (sym runs) (omega arith)

sends_less : (w : World) → can Event.ClientSends w ≡ true
    → left_of Event.ClientSends (happens Event.ClientSends w) < left_of Event.ClientSends w
sends_less w may =
    let c : Client = w.client.client in
    let runs : c.state ≡ State.Running = is_runs c.state (due_runs c (is_running c.state) (not (is_asking c.table.standard)) may) in
    subst (λ (s : State). left_of Event.ClientSends (happens Event.ClientSends w) < sends_left s (length c.table.tally.unsent))
    (sym runs)
    (sent_less c (is_running c.state && not (is_asking c.table.standard)) c.table.tally.unsent
    (next_number Std c.table.standard c.drawn) runs may)

-- ---- reading

shorter : (bytes line rest : List ℕ) → next_of bytes ≡ Ok (Some (line, rest)) → length rest < length bytes
shorter bytes line rest is =
    let f : IsFound bytes line rest = found bytes line rest is in
    let count = ap length f.parts ∙ length-append line (13 ∷ 10 ∷ rest) in omega (arith, count)

served_less : (e : ServerEnd) (f : Front) → next_of e.input.rest ≡ f → is_line f ≡ true
    → length (front_served e f).input.rest < length e.input.rest
served_less e (Ok None) is line = absurd (false≢true line)
served_less e (Ok (Some (line, rest))) is there = shorter e.input.rest line rest is
served_less e (Err why) is line = absurd (false≢true line)

most_left : (b : Bool) (n : ℕ) → reads_left b n ≤ suc n
most_left true n = omega arith
most_left false n = omega arith

heard_less : (e : ClientEnd) (f : Front) → next_of e.input.rest ≡ f → is_any f ≡ true
    → reads_left (is_faulted (front_read e.client f).state) (length (left_by f e.input).rest) < suc (length e.input.rest)
heard_less e (Ok None) is there = absurd (false≢true there)
heard_less e (Ok (Some (line, rest))) is there =
    let less : length rest < length e.input.rest = shorter e.input.rest line rest is in
    let most : reads_left (is_faulted (front_read e.client (Ok (Some (line, rest)))).state) (length rest) ≤ suc (length rest) =
    most_left _ (length rest) in omega (arith, less, most)
heard_less e (Err FramingFault.LineTooLong) is there = omega arith
heard_less e (Err FramingFault.BadByte) is there = omega arith

awake : (b : Bool) (n : ℕ) → not b ≡ true → reads_left b n ≡ suc n
awake true n e = absurd (false≢true e)
awake false n e = refl

reads_less : (w : World) → can Event.ClientReads w ≡ true
    → left_of Event.ClientReads (happens Event.ClientReads w) < left_of Event.ClientReads w
reads_less w may =
    let parts = and_parts _ _ (and_parts _ _ may).1 in
    subst (λ (n : ℕ). left_of Event.ClientReads (happens Event.ClientReads w) < n)
    (sym (awake (is_faulted w.client.client.state) (length w.client.input.rest) parts.0))
    (heard_less w.client (next_of w.client.input.rest) refl parts.1)

serves_less : (w : World) → can Event.ServerReads w ≡ true
    → left_of Event.ServerReads (happens Event.ServerReads w) < left_of Event.ServerReads w
serves_less w may =
    let parts = and_parts _ _ (and_parts _ _ may).1 in
    served_less w.server (next_of w.server.input.rest) refl parts.1

-- ---- each of them

pub less : (e : Event) (w : World) → repeats e ≡ true → can e w ≡ true → left_of e (happens e w) < left_of e w
less Event.ClientSends w is may = sends_less w may
less Event.ServerReads w is may = serves_less w may
less Event.ClientReads w is may = reads_less w may
less Event.Connect w is may = absurd (false≢true is)
less (Event.Accept n) w is may = absurd (false≢true is)
less (Event.Up n) w is may = absurd (false≢true is)
less Event.ServerTurn w is may = absurd (false≢true is)
less (Event.Machine o) w is may = absurd (false≢true is)
less (Event.Down n) w is may = absurd (false≢true is)
less Event.ClientLeaves w is may = absurd (false≢true is)
less Event.ServerLeaves w is may = absurd (false≢true is)
less Event.Abort w is may = absurd (false≢true is)
less Event.Resume w is may = absurd (false≢true is)
less (Event.ClientRestart n) w is may = absurd (false≢true is)
less Event.ServerRestart w is may = absurd (false≢true is)

-- after an event that happened for all readers
pub less_after : (e : Event) (l m : WorldValue) → repeats e ≡ true → can e l.world ≡ true
    → (m ≡ with_world l (after e l.world)) → left_of e m.world < left_of e l.world
less_after e l m is may leads =
    let same : m.world ≡ happens e l.world = ap (λ (k : WorldValue). k.world) (leads)
    ∙ done_now e l.world may in
    subst (λ (w : World). left_of e w < left_of e l.world) (sym same) (less e l.world is may)
