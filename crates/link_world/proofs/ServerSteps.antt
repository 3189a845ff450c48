-- What the server's events make of a world.
use Rattle.link_world.proofs.Names.{[], ◌<◌, ◌∙◌, ◌∷◌, ◌≡◌, ◌≤◌, after, and_from, and_parts, ap, arith, Bool, can, ClientEnd, cond, Connection}
use Rattle.link_world.proofs.Names.{connection_most, Event, false, false≢true, happens, happens_carried, IsCarried, IsReached, le-leb, leb-true}
use Rattle.link_world.proofs.Names.{length, length-append, link_long, links_of, List, ltb-true, may_accept, no_link, refl, run_of, seen, ServerEnd}
use Rattle.link_world.proofs.Names.{ServerValue, serving_accepted, serving_left, serving_restarted, start, start_carried, subst, sym, true, with_end}
use Rattle.link_world.proofs.Names.{with_world, World, WorldValue, ℕ}
use Rattle.link_world.proofs.Reached.{reached_more, links_long}

-- ---- no more connections than have numbers are made

within : (e : Event) (w : World) → can e w ≡ true → length w.links ≡ w.client.client.last
    → length w.links ≤ connection_most
    → length (happens e w).links ≤ connection_most
within Event.Connect w may same le =
    let below : w.client.client.last < connection_most = ltb-true w.client.client.last connection_most (and_parts _ _ may).1 in
    omega (arith, length-append w.links (no_link ∷ []), same, below)
within (Event.Accept n) w may same le = le
within Event.ClientSends w may same le = subst (λ (n : ℕ). n ≤ connection_most) (sym (link_long w.links w.client.client.last _)) le
within (Event.Up k) w may same le = subst (λ (n : ℕ). n ≤ connection_most) (sym (link_long w.links w.server.server.last _)) le
within Event.ServerReads w may same le = subst (λ (n : ℕ). n ≤ connection_most) (sym (link_long w.links w.server.server.last _)) le
within Event.ServerTurn w may same le = subst (λ (n : ℕ). n ≤ connection_most) (sym (link_long w.links w.server.server.last _)) le
within (Event.Machine outcome) w may same le = subst (λ (n : ℕ). n ≤ connection_most)
    (sym (link_long w.links w.server.server.last _)) le
within (Event.Down k) w may same le = subst (λ (n : ℕ). n ≤ connection_most) (sym (link_long w.links w.client.client.last _)) le
within Event.ClientReads w may same le = le
within Event.ClientLeaves w may same le = le
within Event.ServerLeaves w may same le = le
within Event.Abort w may same le = subst (λ (n : ℕ). n ≤ connection_most) (sym (link_long w.links w.client.client.last _)) le
within Event.Resume w may same le = le
within (Event.ClientRestart k) w may same le = le
within Event.ServerRestart w may same le = le

runs_within : (es : List Event) (w : World) → IsCarried w → length w.links ≤ connection_most
    → length (run_of es w).links ≤ connection_most
runs_within [] w h le = le
runs_within (e ∷ es) w h le = go (can e w) refl
    (λ (x : World) (c : IsCarried x) (l : length x.links ≤ connection_most). runs_within es x c l)
  where
    go : (b : Bool) → can e w ≡ b → ((x : World) → IsCarried x → length x.links ≤ connection_most
        → length (run_of es x).links ≤ connection_most) → length (run_of es (cond b (happens e w) w)).links
        ≤ connection_most
    go true may later = later (happens e w) (happens_carried e w h may) (within e w may h.wired.made le)
    go false never later = later w h le

pub connections_few : (client : ClientEnd) (server : ServerValue) (cs : List Connection) (written : List ℕ)
    → IsReached (seen client server cs written) → length cs ≤ connection_most
connections_few client server cs written h =
    let few : length (links_of cs) ≤ connection_most =
    subst (λ (w : World). length w.links ≤ connection_most) (sym h.reached)
    (runs_within h.events (start h.program server.setup.tools h.window)
    (start_carried h.program server.setup.tools h.window h.is_program h.few) (omega arith)) in
    omega (arith, few, links_long cs)

-- ---- events of the server alone

alone : (client : ClientEnd) (server : ServerValue) (after : ServerEnd) (cs : List Connection) (written : List ℕ) (e : Event)
    → IsReached (seen client server cs written) → can e (seen client server cs written).world ≡ true
    → (record (seen client server cs written).world { server = after }
    ≡ happens e (seen client server cs written).world) → IsReached (seen client (with_end server after) cs written)
alone client server after cs written e h may is =
    reached_more (seen client server cs written) (seen client (with_end server after) cs written) e h may
    (ap (λ (w : World). with_world (seen client server cs written) w) (is))

accept_may : (number : ℕ) (client : ClientEnd) (server : ServerValue) (cs : List Connection) (written : List ℕ)
    → may_accept number server.end.server ≡ true → number ≤ length cs
    → can (Event.Accept number) (seen client server cs written).world ≡ true
accept_may number client server cs written may le =
    let parts = and_parts _ _ may in
    and_from _ _ parts.0 (and_from _ _ (and_parts _ _ parts.1).0
    (le-leb number (length (links_of cs)) (subst (λ (n : ℕ). number ≤ n) (sym (links_long cs)) le)))

pub accept_can : (l : WorldValue) (number : ℕ) (client : ClientEnd) (server : ServerValue) (cs : List Connection) (written : List ℕ)
    → l ≡ seen client server cs written → may_accept number server.end.server ≡ true → number ≤ length cs
    → can (Event.Accept number) l.world ≡ true
accept_can l number client server cs written view may le = subst (λ (k : WorldValue). can (Event.Accept number) k.world ≡ true) (sym view)
    (accept_may number client server cs written may le)

pub accept_far : (l : WorldValue) (number : ℕ) (client : ClientEnd) (server : ServerValue) (cs : List Connection) (written : List ℕ)
    → l ≡ seen client server cs written → length cs < number → can (Event.Accept number) l.world ≡ false
accept_far l number client server cs written view far =
    subst (λ (k : WorldValue). can (Event.Accept number) k.world ≡ false) (sym view)
    (go (can (Event.Accept number) (seen client server cs written).world) refl)
  where
    go : (b : Bool) → can (Event.Accept number) (seen client server cs written).world ≡ b → b ≡ false
    go false e = refl
    go true e =
        let le : number ≤ length (links_of cs) = leb-true number (length (links_of cs)) (and_parts _ _ (and_parts _ _ e).1).1 in
        absurd (omega (arith, le, links_long cs, far))

pub accept_refused : (l : WorldValue) (number : ℕ) (client : ClientEnd) (server : ServerValue) (cs : List Connection) (written : List ℕ)
    → l ≡ seen client server cs written → IsReached (seen client server cs written)
    → number ≤ length cs → may_accept number server.end.server ≡ false → can (Event.Accept number) l.world ≡ false
accept_refused l number client server cs written view h near never =
    subst (λ (k : WorldValue). can (Event.Accept number) k.world ≡ false) (sym view)
    (go (can (Event.Accept number) (seen client server cs written).world) refl)
  where
    go : (b : Bool) → can (Event.Accept number) (seen client server cs written).world ≡ b → b ≡ false
    go false e = refl
    go true e =
        let parts = and_parts _ _ e in
        let few : length cs ≤ connection_most = connections_few client server cs written h in
        absurd (false≢true (sym never ∙ and_from _ _ parts.0 (and_from _ _ (and_parts _ _ parts.1).0
        (le-leb number connection_most (omega (arith, near, few))))))

pub accept_reached : (number : ℕ) (client : ClientEnd) (server after : ServerValue) (cs : List Connection) (written : List ℕ)
    → IsReached (seen client server cs written)
    → may_accept number server.end.server ≡ true → number ≤ length cs → after ≡ with_end server (serving_accepted number server.end)
    → IsReached (seen client after cs written)
accept_reached number client server after cs written h may le is =
    subst (λ (s : ServerValue). IsReached (seen client s cs written)) (sym is)
    (alone client server (serving_accepted number server.end) cs written (Event.Accept number) h
    (accept_may number client server cs written may le) (refl))

pub left_reached : (client : ClientEnd) (server after : ServerValue) (cs : List Connection) (written : List ℕ)
    → IsReached (seen client server cs written)
    → server.end.server.on ≡ true → after ≡ with_end server (serving_left server.end) → IsReached (seen client after cs written)
left_reached client server after cs written h may is =
    subst (λ (s : ServerValue). IsReached (seen client s cs written)) (sym is)
    (alone client server (serving_left server.end) cs written Event.ServerLeaves h may (refl))

pub restart_reached : (client : ClientEnd) (server after : ServerValue) (cs : List Connection) (written : List ℕ)
    → IsReached (seen client server cs written)
    → after ≡ with_end server (serving_restarted server.end) → IsReached (seen client after cs written)
restart_reached client server after cs written h is =
    subst (λ (s : ServerValue). IsReached (seen client s cs written)) (sym is)
    (alone client server (serving_restarted server.end) cs written Event.ServerRestart h refl (refl))
