-- When what is left can be brought to its end, and the state of both ends after coming to the next connection.
use Rattle.link_world.proofs.Names.{[], ◌&&◌, ◌*◌, ◌++◌, ◌+◌, ◌<◌, ◌∙◌, ◌∷◌, ◌≡◌, ◌≢◌, ◌≤◌, after, ap, AreFirstOfJoining, arith, behind}
use Rattle.link_world.proofs.Names.{block_touches, Bool, can, CanFinish, Client, ClientEnd, Command, commands_most, cond, Connection, connection_most}
use Rattle.link_world.proofs.Names.{count_open, due, Event, false, false≢true, Feature, first_due, FitsState, Frame, frame_behind, framing, happens}
use Rattle.link_world.proofs.Names.{is_apart, is_asking, is_empty, is_running, is_some, IsReached, IsTrue, left_state, length, length-append, List}
use Rattle.link_world.proofs.Names.{ltb-true, Makes, Meaning, measuring, nat_lt, None, not, Option, plan, plan_left, Planned, planned, refl, rejoined}
use Rattle.link_world.proofs.Names.{rejoining, rules, run_of, seen, ServerValue, Some, Start, State, stepping, subst, suc, sym, tool_behind, tooling}
use Rattle.link_world.proofs.Names.{true, unwatched, up_to, with_world, World, WorldValue, zero, ℕ}
use Rattle.fixed_um.specs.declared.frames.Frame.TheVariants.{Machine, Part}
use Rattle.dmis_program.specs.declared.steps.Step.{Step}
use Rattle.protocol_model.specs.Client.{client_left}
use Rattle.protocol_model.specs.declared.held.OpenCommand.{OpenCommand}
use Rattle.protocol_model.specs.declared.plans.Does.TheVariants.{Nothing}
use Rattle.link_world.proofs.EventLists.{run_append, leads_unwatched, done_now}
use Rattle.link_world.proofs.Reached.{made}
use Rattle.link_world.proofs.Undisturbed.{program_is}

below_yes : (n : ℕ) → n < connection_most → IsTrue (nat_lt n connection_most)
below_yes n lt = search rules

pub finish_at : (l : WorldValue) (client : ClientEnd) (server : ServerValue) (cs : List Connection) (written : List ℕ) (n : ℕ)
    → seen client server cs written ≡ l → IsReached (seen client server cs written) → n ≡ length cs
    → l.world.client.client.state ≢ State.Done
    → (IsTrue (nat_lt n 4000000000) → CanFinish l.world) × (CanFinish l.world → IsTrue (nat_lt n 4000000000))
finish_at l client server cs written n view h long undone =
    let count : n ≡ l.world.client.client.last = long ∙ (made client server cs written h
    ∙ ap (λ (k : WorldValue). k.world.client.client.last) view) in (
      λ few. record {
        undone = undone;
        connections = subst (λ (i : ℕ). i < connection_most) count (ltb-true _ _ few);
      },
      λ may. below_yes n (subst (λ (i : ℕ). i < connection_most) (sym count) may.connections),
    )

-- ---- the events of joining

joins_one : (e : Event) (l k m : WorldValue) (es : List Event) → k ≡ with_world l (run_of es l.world)
    → m ≡ with_world k (after e k.world) → m ≡ with_world l (run_of (es ++ e ∷ []) l.world)
joins_one e l k m es first then =
    then ∙ (ap (λ (x : WorldValue). with_world x (after e x.world)) first
    ∙ ap (λ (x : World). with_world l x) (sym (run_append es (e ∷ []) l.world)))

-- each of them happened
pub joins_all : (l a b c m : WorldValue) (n : ℕ) → n ≡ suc l.world.client.client.last
    → a ≡ with_world l (after Event.ClientLeaves l.world) → b ≡ with_world a (after Event.ServerLeaves a.world)
    → c ≡ with_world b (after Event.Connect b.world) → m ≡ with_world c (after (Event.Accept n) c.world)
    → m ≡ with_world l (rejoined l.world)
joins_all l a b c m n is first second third fourth =
    subst (λ (k : ℕ). m ≡ with_world l (run_of (Event.ClientLeaves ∷ Event.ServerLeaves ∷ Event.Connect ∷ Event.Accept k ∷ []) l.world))
    is
    (joins_one (Event.Accept n) l c m (Event.ClientLeaves ∷ Event.ServerLeaves ∷ Event.Connect ∷ [])
    (joins_one Event.Connect l b c (Event.ClientLeaves ∷ Event.ServerLeaves ∷ [])
    (joins_one Event.ServerLeaves l a b (Event.ClientLeaves ∷ []) first second) third) fourth)

-- the first of them happened, and the next ran out of memory
pub joins_cut : (l k m : WorldValue) (es more : List Event) → k ≡ with_world l (run_of es l.world) → m ≡ k
    → es ++ more ≡ rejoining l.world → Makes AreFirstOfJoining true None (unwatched l) (unwatched m)
joins_cut l k m es more leads same parts = record {
  events = es;
  made = record { more = more; parts = parts };
  leads = leads_unwatched es l m (same ∙ leads);
  told_is = tt;
}

pub joins_none : (l m : WorldValue) → m ≡ l → Makes AreFirstOfJoining true None (unwatched l) (unwatched m)
joins_none l m same = joins_cut l l m [] (rejoining l.world) refl same refl

pub joins_client : (l a m : WorldValue) → a ≡ with_world l (after Event.ClientLeaves l.world) → m ≡ a
    → Makes AreFirstOfJoining true None (unwatched l) (unwatched m)
joins_client l a m first same = joins_cut l a m (Event.ClientLeaves ∷ []) _ first same refl

pub joins_server : (l a b m : WorldValue) → a ≡ with_world l (after Event.ClientLeaves l.world)
    → b ≡ with_world a (after Event.ServerLeaves a.world) → m ≡ b → Makes AreFirstOfJoining true None (unwatched l) (unwatched m)
joins_server l a b m first second same =
    joins_cut l b m (Event.ClientLeaves ∷ Event.ServerLeaves ∷ []) _
    (joins_one Event.ServerLeaves l a b (Event.ClientLeaves ∷ []) first second) same refl

pub joins_connect : (l a b c m : WorldValue) → a ≡ with_world l (after Event.ClientLeaves l.world)
    → b ≡ with_world a (after Event.ServerLeaves a.world) → c ≡ with_world b (after Event.Connect b.world) → m ≡ c
    → Makes AreFirstOfJoining true None (unwatched l) (unwatched m)
joins_connect l a b c m first second third same =
    joins_cut l c m (Event.ClientLeaves ∷ Event.ServerLeaves ∷ Event.Connect ∷ []) _
    (joins_one Event.Connect l b c (Event.ClientLeaves ∷ Event.ServerLeaves ∷ [])
    (joins_one Event.ServerLeaves l a b (Event.ClientLeaves ∷ []) first second) third) same refl

-- the number of the next connection
pub next_at : (l : WorldValue) (client : ClientEnd) (server : ServerValue) (cs : List Connection) (written : List ℕ) (n : ℕ)
    → seen client server cs written ≡ l → IsReached (seen client server cs written) → n ≡ length cs → n + 1 ≡ suc l.world.client.client.last
next_at l client server cs written n view h long =
    let count : n ≡ l.world.client.client.last = long ∙ (made client server cs written h
    ∙ ap (λ (k : WorldValue). k.world.client.client.last) view) in
    omega (arith, count)

-- ---- the client after them

-- a client that may come to a connection, with what it kept
record IsFree (c d : Client) : Type 0 where
  pub apart : is_apart d.state ≡ true
  pub last : d.last ≡ c.last
  pub program : d.program ≡ c.program
  pub window : d.window ≡ c.window
  pub features : d.table.tally.features ≡ c.table.tally.features

left_free : (c : Client) (b : Bool) → c.on ≡ b → c.state ≢ State.Done → FitsState c.state c.on → IsFree c (cond b (client_left c) c)
left_free c true on undone fits = record { apart = go c.state undone; last = refl; program = refl; window = refl; features = refl }
  where
    go : (s : State) → s ≢ State.Done → is_apart (left_state s) ≡ true
    go State.Apart undone = refl
    go State.Running undone = refl
    go State.Failing undone = refl
    go State.Aborting undone = refl
    go State.Halted undone = refl
    go State.Done undone = absurd (undone refl)
    go State.Faulted undone = refl
left_free c false off undone fits = record {
  apart = go c.state undone (subst (FitsState c.state) off fits);
  last = refl;
  program = refl;
  window = refl;
  features = refl;
}
  where
    go : (s : State) → s ≢ State.Done → FitsState s false → is_apart s ≡ true
    go State.Apart undone off = refl
    go State.Running undone on = absurd (false≢true on)
    go State.Failing undone on = absurd (false≢true on)
    go State.Aborting undone on = absurd (false≢true on)
    go State.Halted undone on = absurd (false≢true on)
    go State.Done undone fits = absurd (undone refl)
    go State.Faulted undone on = absurd (false≢true on)

-- a client on a new connection, with the plan for what is left
pub record IsJoined (w v : World) : Type 0 where
  pub state : v.client.client.state ≡ State.Running
  pub standard : v.client.client.table.standard ≡ []
  pub unsent : v.client.client.table.tally.unsent ≡ plan_left w
  pub window : v.client.client.window ≡ w.client.client.window

client_leaves : (w : World) → w.client.client.state ≢ State.Done → FitsState w.client.client.state w.client.client.on
    → IsFree w.client.client (after Event.ClientLeaves w).client.client
client_leaves w undone fits =
    subst (IsFree w.client.client) (by w.client.client.on) (left_free w.client.client w.client.client.on refl undone fits)
  where
    by : (b : Bool) → cond b (client_left w.client.client) w.client.client
        ≡ (cond b (happens Event.ClientLeaves w) w).client.client
    by true = refl
    by false = refl

server_leaves : (w : World) → (after Event.ServerLeaves w).client ≡ w.client
server_leaves w = by (can Event.ServerLeaves w)
  where
    by : (b : Bool) → (cond b (happens Event.ServerLeaves w) w).client ≡ w.client
    by true = refl
    by false = refl

accepts_same : (n : ℕ) (w : World) → (after (Event.Accept n) w).client ≡ w.client
accepts_same n w = by (can (Event.Accept n) w)
  where
    by : (b : Bool) → (cond b (happens (Event.Accept n) w) w).client ≡ w.client
    by true = refl
    by false = refl

connects : (w v : World) → IsFree w.client.client v.client.client → w.client.client.last < connection_most
    → IsJoined w (after Event.Connect v)
connects w v free few =
    subst (IsJoined w) (sym (done_now Event.Connect v may)) (record {
      state = refl;
      standard = refl;
      unsent = ap (λ (p : Meaning). plan p (length v.client.client.table.tally.features) Start.NewConnection) free.program
          ∙ ap (λ (fs : List Feature). plan w.client.client.program (length fs) Start.NewConnection) free.features;
      window = free.window;
    })
  where
    below : nat_lt v.client.client.last connection_most ≡ true
    below = search (rules, below_yes v.client.client.last (subst (λ (i : ℕ). i < connection_most) (sym free.last) few))

    may : can Event.Connect v ≡ true
    may = ap (λ (b : Bool). b && nat_lt v.client.client.last connection_most) free.apart ∙ below

pub joined_at : (w : World) → CanFinish w → FitsState w.client.client.state w.client.client.on
    → IsJoined w (rejoined w)
joined_at w may fits =
    let left : World = after Event.ServerLeaves (after Event.ClientLeaves w) in
    let free : IsFree w.client.client left.client.client =
    subst (λ (e : ClientEnd). IsFree w.client.client e.client) (sym (server_leaves (after Event.ClientLeaves w)))
    (client_leaves w may.undone fits) in
    let joined : IsJoined w (after Event.Connect left) = connects w left free may.connections in
    let same : (rejoined w).client ≡ (after Event.Connect left).client =
    accepts_same (suc w.client.client.last) (after Event.Connect left) in record {
      state = ap (λ (e : ClientEnd). e.client.state) same ∙ joined.state;
      standard = ap (λ (e : ClientEnd). e.client.table.standard) same ∙ joined.standard;
      unsent = ap (λ (e : ClientEnd). e.client.table.tally.unsent) same ∙ joined.unsent;
      window = ap (λ (e : ClientEnd). e.client.window) same ∙ joined.window;
    }

-- something is due there
pub joined_due : (w v : World) → IsJoined w v → 1 ≤ w.client.client.window → is_some (due v.client.client) ≡ true
joined_due w v joined some =
    ap (λ (s : State). is_some (cond (is_running s && not (is_asking v.client.client.table.standard)) (first_due v.client.client.window
    (count_open v.client.client.table.standard) v.client.client.table.tally.unsent) None)) joined.state
    ∙ (ap (λ (hs : List OpenCommand). is_some (cond (not (is_asking hs)) (first_due v.client.client.window (count_open hs)
    v.client.client.table.tally.unsent) None)) joined.standard
    ∙ (ap (λ (ps : List Planned). is_some (first_due v.client.client.window 0 ps)) joined.unsent
    ∙ (ap (λ (n : ℕ). is_some (first_due n 0 (plan_left w))) joined.window ∙ go w.client.client.window some)))
  where
    below : (n : ℕ) → 0 < n → IsTrue (nat_lt 0 n)
    below n lt = search rules

    some_below : (n : ℕ) → 1 ≤ n → nat_lt 0 n ≡ true
    some_below n le = search (rules, below n (omega (arith, le)))

    go : (n : ℕ) → 1 ≤ n → is_some (first_due n 0 (plan_left w)) ≡ true
    go n le = ap (λ (b : Bool). is_some (cond {A = Option Planned} (b && true)
        (Some (planned Command.StartSession Nothing)) None)) (some_below n le)

-- ---- how many commands there are

behind_few : (k : ℕ) (ss : List Step) → length (behind k ss) ≤ length ss
behind_few zero ss = omega arith
behind_few (suc k) [] = omega arith
behind_few (suc k) (Step.Goto p ∷ ss) = let few = behind_few (suc k) ss in omega (arith, few)
behind_few (suc k) (Step.Begin l ∷ ss) = let few = behind_few (suc k) ss in omega (arith, few)
behind_few (suc k) (Step.Touch t ∷ ss) = go (is_empty (block_touches ss)) (behind_few k ss) (behind_few (suc k) ss)
  where
    go : (b : Bool) → length (behind k ss) ≤ length ss → length (behind (suc k) ss) ≤ length ss
        → length (cond b (behind k ss) (behind (suc k) ss)) ≤ suc (length ss)
    go true few more = omega (arith, few)
    go false few more = omega (arith, more)
behind_few (suc k) (Step.Tool n ∷ ss) = let few = behind_few (suc k) ss in omega (arith, few)
behind_few (suc k) (Step.Recall p ∷ ss) = let few = behind_few (suc k) ss in omega (arith, few)
behind_few (suc k) (Step.End ∷ ss) = let few = behind_few (suc k) ss in omega (arith, few)

stepping_few : (frame : Frame) (ss : List Step) → length (stepping frame ss) ≤ 2 * length ss
stepping_few frame [] = omega arith
stepping_few frame (Step.Goto p ∷ ss) = let few = stepping_few frame ss in omega (arith, few)
stepping_few frame (Step.Begin l ∷ ss) = let few = stepping_few frame ss in omega (arith, few)
stepping_few frame (Step.Touch t ∷ ss) = let few = stepping_few frame ss in omega (arith, few)
stepping_few frame (Step.Tool n ∷ ss) = let few = stepping_few frame ss in omega (arith, few)
stepping_few frame (Step.Recall p ∷ ss) = let few = stepping_few (Part p) ss in omega (arith, few)
stepping_few frame (Step.End ∷ ss) = let few = stepping_few frame ss in omega (arith, few)

tooling_few : (tool : Option (List ℕ)) (ps : List Planned) → length (tooling tool ++ ps) ≤ 1 + length ps
tooling_few None ps = omega arith
tooling_few (Some n) ps = omega arith

framing_few : (frame : Frame) (ps : List Planned) → length (framing frame ++ ps) ≤ 2 + length ps
framing_few Machine ps = omega arith
framing_few (Part p) ps = omega arith

measuring_few : (tool : Option (List ℕ)) (frame : Frame) (ss : List Step) → length (measuring tool frame ss) ≤ 4 + 2 * length ss
measuring_few tool frame ss =
    let last : List Planned = planned Command.EndSession Nothing ∷ [] in
    let a = tooling_few tool (framing frame ++ (stepping frame ss ++ last)) in
    let b = framing_few frame (stepping frame ss ++ last) in
    let c = length-append (stepping frame ss) last in
    let d = stepping_few frame ss in omega (arith, a, b, c, d)

plan_few : (p : Meaning) (k : ℕ) → length p.steps ≤ 10000 → length (plan p k Start.NewConnection) ≤ commands_most
plan_few p k short =
    let a = measuring_few (tool_behind None (up_to k p.steps)) (frame_behind Machine (up_to k p.steps)) (behind k p.steps) in
    let b = behind_few k p.steps in omega (arith, a, b, short)

pub left_few : (l : WorldValue) → IsReached l → length (plan_left l.world) ≤ commands_most
left_few l h = plan_few l.world.client.client.program (length l.world.client.client.table.tally.features) (program_is l h).short

-- a call reported that what is left can be brought to its end
pub may_by : (w : World) (told : Bool) → told ≡ true → (IsTrue told → CanFinish w) × (CanFinish w → IsTrue told) → CanFinish w
may_by w told is h = h.0 (search rules)
