-- What an event answers, and what it makes of a world.
use Rattle.link_world.proofs.Names.{◌++◌, ◌-◌, ◌<◌, ◌∙◌, ◌≡◌, ap, Bool, can, client_writes, ClientEnd, Connection, end_fed, Err, Event, false}
use Rattle.link_world.proofs.Names.{fewer_down, fewer_up, happens, HappensIf, HappensIff, has_some, is_line, IsErrAnd, IsReached, Leads, length}
use Rattle.link_world.proofs.Names.{link_of_connection, List, moved_down, moved_up, next_of, Ok, OnErr, OnOk, quiet_client, quiet_server, refl}
use Rattle.link_world.proofs.Names.{Result, seen, server_writes, ServerEnd, ServerValue, serving_fed, slice_index_or, slice_set, StandsOn, subst, sym}
use Rattle.link_world.proofs.Names.{take, true, with_down, with_end, with_up, with_world, World, WorldFault, WorldValue, ℕ}
use Rattle.link_world.specs.declared.worlds.world.World.TheInside.{Inside}
use Rattle.link_world.proofs.Reached.{reached_more, server_number, taken}
use Rattle.link_world.proofs.ClientBytes.{down_seen, down_may}
use Rattle.link_world.proofs.ClientWriting.{writes_seen, same_seen as client_same}
use Rattle.link_world.proofs.ServerAnswers.{answers_seen, up_seen, up_may, reads_may, same_seen}

-- what is seen of a world's parts
abbrev pub inner : Inside → WorldValue
inner w = seen w.client w.server w.connections.items w.written.items

pub stands : (w : Inside) → IsReached (inner w) → StandsOn w.server.end w.connections.items
stands w h = (
  server_number w.client w.server w.connections.items w.written.items h,
  taken w.client w.server w.connections.items w.written.items h,
)

-- an event that cannot happen is refused
pub not_now : (b : Bool) → b ≡ false → HappensIf (Err WorldFault.NotNow) b
not_now b never = (tt, (λ e. never), (λ e. absurd (cc)))

-- a call of a side is refused
pub refused_if : (r : Result (Unit {0}) WorldFault) (f : WorldFault) (b : Bool) → IsErrAnd r (λ given. given ≡ f)
    → (f ≡ WorldFault.NotNow → b ≡ false) → (f ≡ WorldFault.Memory → b ≡ true) → HappensIf r b
refused_if (Ok u) f b is never wanting = absurd is
refused_if (Err WorldFault.NotNow) f b is never wanting = (tt, (λ e. never (sym is)), (λ e. absurd (cc)))
refused_if (Err WorldFault.Memory) f b is never wanting = (tt, (λ e. absurd (cc)), (λ e. wanting (sym is)))

pub refused_iff : (r : Result (Unit {0}) WorldFault) (f : WorldFault) (b : Bool) → IsErrAnd r (λ given. given ≡ f) → f ≡ WorldFault.NotNow
    → b ≡ false → HappensIff r b
refused_iff (Ok u) f b is now never = absurd is
refused_iff (Err g) f b is now never = (tt, never, is ∙ now)

-- if nothing has changed
pub unchanged : {S : Type 0} (r : Result (Unit {0}) WorldFault) (f : WorldFault) (old new : S) (then : S)
    → IsErrAnd r (λ given. given ≡ f) → new ≡ old → Leads r old new then
unchanged (Ok u) f old new then is same = absurd is
unchanged (Err g) f old new then is same = (tt, same)

-- whether an event may happen, under an equal condition
pub happens_same : (r : Result (Unit {0}) WorldFault) (a b : Bool) → a ≡ b → HappensIf r a → HappensIf r b
happens_same r a b same h = subst (HappensIf r) same h

-- a world after an event: a list of events leads to it, and it is as the event makes it
pub record Tried (l m : WorldValue) (r : Result (Unit {0}) WorldFault) (makes : World → World) : Type 0 where
  pub reached : IsReached m
  pub leads : Leads r l m (with_world l (makes l.world))

pub tried : (e : Event) (makes : World → World) (l k m : WorldValue) (r : Result (Unit {0}) WorldFault) → k ≡ l → IsReached k
    → (happens e k.world ≡ makes k.world) → HappensIf r (can e l.world)
    → Leads r k m (with_world k (makes k.world)) → Tried l m r makes
tried e makes l k m r view h same may leads = record {
  reached = go r (subst (λ (x : WorldValue). HappensIf r (can e x.world)) (sym view) may) leads;
  leads = subst (λ (x : WorldValue). Leads r x m (with_world x (makes x.world))) view leads;
}
  where
    go : (r : Result (Unit {0}) WorldFault) → HappensIf r (can e k.world)
        → Leads r k m (with_world k (makes k.world)) → IsReached m
    go (Ok u) may leads = reached_more k m e h may.0
        (leads.0 ∙ ap (λ (w : World). with_world k w) (sym (same)))
    go (Err f) may leads = subst IsReached (sym leads.1) h

-- the client writes on its connection
pub writes : (e : Event) (written_by : ClientEnd → ClientEnd) (l : WorldValue) (w : Inside) (after : ClientEnd) (now : List ℕ) (at : ℕ)
    (c d : Connection) (r : Result (Unit {0}) WorldFault) → inner w ≡ l → IsReached (inner w)
    → ((x : World) → happens e x ≡ client_writes x (written_by x.client))
    → HappensIf r (can e l.world) → at ≡ length w.connections.items - 1 → 0 < length w.connections.items
    → c ≡ slice_index_or w.connections.items at c
    → Leads r w.client after (quiet_client (written_by w.client))
    → Leads r (link_of_connection c) (link_of_connection d) (with_up c (written_by w.client).out)
    → OnOk r (now ≡ w.written.items ++ (written_by w.client).out) × OnErr r (now ≡ w.written.items)
    → Tried l (seen after w.server (slice_set w.connections.items at d) now) r (λ x. client_writes x (written_by x.client))
writes e written_by l w after now at c d r view h same may place some is sent link text =
    tried e (λ x. client_writes x (written_by x.client)) l (inner w)
    (seen after w.server (slice_set w.connections.items at d) now) r view h (same (inner w).world) may
    (go r sent link text)
  where
    go : (r : Result (Unit {0}) WorldFault) → Leads r w.client after (quiet_client (written_by w.client))
        → Leads r (link_of_connection c) (link_of_connection d) (with_up c (written_by w.client).out)
        → OnOk r (now ≡ w.written.items ++ (written_by w.client).out) × OnErr r (now ≡ w.written.items)
        → Leads r (inner w) (seen after w.server (slice_set w.connections.items at d) now)
        (with_world (inner w) (client_writes (inner w).world (written_by w.client)))
    go (Ok u) sent link text = (
      (writes_seen w.client after w.server w.connections.items w.written.items now at c d (written_by w.client) h
          place some is sent.0 link.0 text.0),
      tt,
    )
    go (Err f) sent link text = (
      tt,
      client_same (inner w) w.client after w.server w.connections.items w.written.items now at c d refl place some is sent.1 link.1 text.1,
    )

-- bytes come to the client
pub comes_down : (count : ℕ) (l : WorldValue) (w : Inside) (after : ClientEnd) (at : ℕ) (c d : Connection)
    (r : Result (Unit {0}) WorldFault)
    → inner w ≡ l → IsReached (inner w) → HappensIf r (can (Event.Down count) l.world)
    → at ≡ length w.connections.items - 1 → 0 < length w.connections.items → c ≡ slice_index_or w.connections.items at c
    → Leads r w.client after (end_fed (take count c.down.waiting) w.client)
    → Leads r (link_of_connection c) (link_of_connection d) (fewer_down count c)
    → Tried l (seen after w.server (slice_set w.connections.items at d) w.written.items) r (moved_down count)
comes_down count l w after at c d r view h may place some is fed link =
    tried (Event.Down count) (moved_down count) l (inner w)
    (seen after w.server (slice_set w.connections.items at d) w.written.items) r view h (refl) may (go r fed link)
  where
    go : (r : Result (Unit {0}) WorldFault) → Leads r w.client after (end_fed (take count c.down.waiting) w.client)
        → Leads r (link_of_connection c) (link_of_connection d) (fewer_down count c)
        → Leads r (inner w) (seen after w.server (slice_set w.connections.items at d) w.written.items)
        (with_world (inner w) (moved_down count (inner w).world))
    go (Ok u) fed link = (
      (down_seen count w.client after w.server w.connections.items w.written.items at c d h place some is fed.0 link.0),
      tt,
    )
    go (Err f) fed link = (
      tt,
      client_same (inner w) w.client after w.server w.connections.items w.written.items w.written.items at c d refl place some is fed.1
          link.1 refl,
    )

-- where bytes may come to the client
pub down_can : (count : ℕ) (l : WorldValue) (w : Inside) (at : ℕ) (c : Connection) (r : Result (Unit {0}) WorldFault)
    → inner w ≡ l → IsReached (inner w) → w.client.client.on ≡ true → at ≡ length w.connections.items - 1
    → 0 < length w.connections.items → c ≡ slice_index_or w.connections.items at c → HappensIf r (has_some count c.down.waiting)
    → HappensIf r (can (Event.Down count) l.world)
down_can count l w at c r view h on place some is may =
    subst (λ (k : WorldValue). HappensIf r (can (Event.Down count) k.world)) view
    (happens_same r _ _ (sym (down_may count w.client w.server w.connections.items w.written.items at c h on place some is)) may)

-- the server answers on its connection
pub answers : (e : Event) (answered : ServerEnd → ServerEnd) (l : WorldValue) (w : Inside) (after : ServerValue) (at : ℕ)
    (c d : Connection) (r : Result (Unit {0}) WorldFault) → inner w ≡ l → IsReached (inner w)
    → ((x : World) → happens e x ≡ server_writes x (answered x.server))
    → HappensIf r (can e l.world) → at ≡ w.server.end.server.last - 1 → at < length w.connections.items
    → c ≡ slice_index_or w.connections.items at c
    → Leads r w.server after (with_end w.server (quiet_server (answered w.server.end)))
    → Leads r (link_of_connection c) (link_of_connection d) (with_down c (answered w.server.end).out)
    → Tried l (seen w.client after (slice_set w.connections.items at d) w.written.items) r
    (λ x. server_writes x (answered x.server))
answers e answered l w after at c d r view h same may place short is served link =
    tried e (λ x. server_writes x (answered x.server)) l (inner w)
    (seen w.client after (slice_set w.connections.items at d) w.written.items) r view h (same (inner w).world) may
    (go r served link)
  where
    go : (r : Result (Unit {0}) WorldFault)
        → Leads r w.server after (with_end w.server (quiet_server (answered w.server.end)))
        → Leads r (link_of_connection c) (link_of_connection d) (with_down c (answered w.server.end).out)
        → Leads r (inner w) (seen w.client after (slice_set w.connections.items at d) w.written.items)
        (with_world (inner w) (server_writes (inner w).world (answered w.server.end)))
    go (Ok u) served link = (
      (answers_seen w.client w.server after w.connections.items w.written.items at c d (answered w.server.end)
          place short is (served.0) (link.0)),
      tt,
    )
    go (Err f) served link = (
      tt,
      same_seen (inner w) w.client w.server after w.connections.items w.written.items at c d refl short is served.1 link.1,
    )

-- bytes come to the server
pub comes_up : (count : ℕ) (l : WorldValue) (w : Inside) (after : ServerValue) (at : ℕ) (c d : Connection)
    (r : Result (Unit {0}) WorldFault)
    → inner w ≡ l → IsReached (inner w) → HappensIf r (can (Event.Up count) l.world)
    → at ≡ w.server.end.server.last - 1 → at < length w.connections.items → c ≡ slice_index_or w.connections.items at c
    → Leads r w.server after (with_end w.server (serving_fed (take count c.up.waiting) w.server.end))
    → Leads r (link_of_connection c) (link_of_connection d) (fewer_up count c)
    → Tried l (seen w.client after (slice_set w.connections.items at d) w.written.items) r (moved_up count)
comes_up count l w after at c d r view h may place short is fed link =
    tried (Event.Up count) (moved_up count) l (inner w)
    (seen w.client after (slice_set w.connections.items at d) w.written.items) r view h (refl) may (go r fed link)
  where
    go : (r : Result (Unit {0}) WorldFault)
        → Leads r w.server after (with_end w.server (serving_fed (take count c.up.waiting) w.server.end))
        → Leads r (link_of_connection c) (link_of_connection d) (fewer_up count c)
        → Leads r (inner w) (seen w.client after (slice_set w.connections.items at d) w.written.items)
        (with_world (inner w) (moved_up count (inner w).world))
    go (Ok u) fed link = (
      (up_seen count w.client w.server after w.connections.items w.written.items at c d place short is fed.0 link.0),
      tt,
    )
    go (Err f) fed link = (
      tt,
      same_seen (inner w) w.client w.server after w.connections.items w.written.items at c d refl short is fed.1 link.1,
    )

-- where bytes may come to the server, and where it reads a line
pub up_can : (count : ℕ) (l : WorldValue) (w : Inside) (at : ℕ) (c : Connection) (r : Result (Unit {0}) WorldFault)
    → inner w ≡ l → IsReached (inner w) → w.server.end.server.on ≡ true → at ≡ w.server.end.server.last - 1
    → at < length w.connections.items → c ≡ slice_index_or w.connections.items at c → HappensIf r (has_some count c.up.waiting)
    → HappensIf r (can (Event.Up count) l.world)
up_can count l w at c r view h on place short is may =
    subst (λ (k : WorldValue). HappensIf r (can (Event.Up count) k.world)) view
    (happens_same r _ _ (sym (up_may count w.client w.server w.connections.items w.written.items at c h on place short is)) may)

pub reads_can : (l : WorldValue) (w : Inside) (r : Result (Unit {0}) WorldFault) → inner w ≡ l → IsReached (inner w)
    → w.server.end.server.on ≡ true → HappensIf r (is_line (next_of w.server.end.input.rest))
    → HappensIf r (can Event.ServerReads l.world)
reads_can l w r view h on may =
    subst (λ (k : WorldValue). HappensIf r (can Event.ServerReads k.world)) view
    (happens_same r _ _ (sym (reads_may w.client w.server w.connections.items w.written.items h on)) may)
