-- One event, and all bytes that wait on a connection.
use Rattle.link_world.proofs.Names.{[], ◌&&◌, ◌-◌, ◌<◌, ◌∙◌, ◌∷◌, ◌≡◌, all_down, all_up, and_parts, ap, arith, Bool, can, client_link, ClientEnd}
use Rattle.link_world.proofs.Names.{cond, Connection, Err, Event, false, has_some, IfOk, inl, inr, is_none, IsOne, IsReached, Leading, length, Link}
use Rattle.link_world.proofs.Names.{links_of, List, Makes, no_link, None, Ok, OnErr, OnOk, Option, refl, Result, seen, server_link, ServerValue}
use Rattle.link_world.proofs.Names.{slice_index_or, Some, Staged, subst, sym, Tells, true, World, WorldValue, ℕ}
use Rattle.protocol_model.specs.Rounds.{possible}
use Rattle.link_world.proofs.EventLists.{leads_none, leads_still}
use Rattle.link_world.proofs.Linking.{links_get}
use Rattle.link_world.proofs.Reached.{made}

-- ---- one event, if there is one

possible_by : (e : Event) (b c : Bool) → b ≡ c → cond {A = Option Event} b (Some e) None ≡ cond c (Some e) None
possible_by e b c is = ap (λ (x : Bool). cond {A = Option Event} x (Some e) None) is

pub possible_now : (e : Event) (w : World) → can e w ≡ true → possible e w ≡ Some e
possible_now e w may = possible_by e (can e w) true may

pub not_possible : (e : Event) (w : World) → can e w ≡ false → possible e w ≡ None
not_possible e w never = possible_by e (can e w) false never

pub one_cut : (o : Option Event) → IsOne o true []
one_cut None = refl
one_cut (Some e) = inr (refl, refl)

abbrev pub Attempted : {E : Type 0} → Result Bool E → Event → Staged → Staged → Type 0
Attempted r e l m =
    IfOk r (λ happened. happened ≡ can e l.world)
    × OnOk r (Leading (e ∷ []) l m) × OnErr r (m ≡ l)

attempted_if : (e : Event) (some : World → Option Event) (l m : Staged) (b : Bool) → (can e l.world ≡ true → some l.world ≡ Some e)
    → (can e l.world ≡ false → some l.world ≡ None) → b ≡ can e l.world
    → Leading (e ∷ []) l m
    → Makes (λ cut w. IsOne (some w) cut) false (Some b) l m
attempted_if e some l m true known never is leads = record {
  events = e ∷ [];
  made = subst (λ (o : Option Event). IsOne o false (e ∷ [])) (sym (known (sym is))) (inl refl);
  leads = leads;
  told_is = refl;
}
attempted_if e some l m false known never is leads = record {
  events = [];
  made = subst (λ (o : Option Event). IsOne o false []) (sym (never (sym is))) refl;
  leads = leads_still e l m (sym is) leads;
  told_is = refl;
}

pub attempted : {E : Type 0} (e : Event) (some : World → Option Event) (l m : Staged) (r : Result Bool E)
    → (can e l.world ≡ true → some l.world ≡ Some e) → (can e l.world ≡ false → some l.world ≡ None) → Attempted r e l m
    → Tells r (λ cut w. IsOne (some w) cut) l m
attempted e some l m (Ok b) known never h = attempted_if e some l m b known never h.0 h.1
attempted e some l m (Err fault) known never h = record {
  events = [];
  made = one_cut (some l.world);
  leads = subst (λ (x : Staged). Leading [] l x) (sym h.2) (leads_none l);
  told_is = tt;
}

-- ---- all bytes up, and all down

up_yes : (count : ℕ) (w : World) → (w.server.server.on ≡ true → count ≡ length (server_link w).up) → can (Event.Up count) w ≡ true
    → all_up w ≡ Some (Event.Up count)
up_yes count w is may =
    let same : count ≡ length (server_link w).up = is (and_parts _ _ may).0 in
    subst (λ (n : ℕ). possible (Event.Up n) w ≡ Some (Event.Up count)) same (possible_now (Event.Up count) w may)

up_no : (count : ℕ) (w : World) (b : Bool) → w.server.server.on ≡ b → (w.server.server.on ≡ true → count ≡ length (server_link w).up)
    → can (Event.Up count) w ≡ false → all_up w ≡ None
up_no count w true on is never =
    subst (λ (n : ℕ). possible (Event.Up n) w ≡ None) (is on) (not_possible (Event.Up count) w never)
up_no count w false off is never =
    possible_by (Event.Up (length (server_link w).up)) (can (Event.Up (length (server_link w).up)) w) false
    (ap (λ (b : Bool). b && (is_none w.server.input.fault && has_some (length (server_link w).up) (server_link w).up)) off)

pub up_done : {E : Type 0} (count : ℕ) (l m : Staged) (r : Result Bool E)
    → (l.world.server.server.on ≡ true → count ≡ length (server_link l.world).up) → Attempted r (Event.Up count) l m
    → Tells r (λ cut w. IsOne (all_up w) cut) l m
up_done count l m r is h = attempted (Event.Up count) all_up l m r (up_yes count l.world is)
    (up_no count l.world l.world.server.server.on refl is) h

pub down_done : {E : Type 0} (count : ℕ) (l m : Staged) (r : Result Bool E)
    → count ≡ length (client_link l.world).down → Attempted r (Event.Down count) l m
    → Tells r (λ cut w. IsOne (all_down w) cut) l m
down_done count l m r is h = attempted (Event.Down count) all_down l m r
    (λ may. subst (λ (n : ℕ). possible (Event.Down n) l.world ≡ Some (Event.Down count)) is (possible_now (Event.Down count) l.world may))
    (λ never. subst (λ (n : ℕ). possible (Event.Down n) l.world ≡ None) is (not_possible (Event.Down count) l.world never)) h

-- ---- how many wait

pub up_waits : (l : WorldValue) (client : ClientEnd) (server : ServerValue) (cs : List Connection) (written : List ℕ) (at : ℕ)
    (c : Connection)
    → seen client server cs written ≡ l → at ≡ server.end.server.last - 1 → at < length cs → c ≡ slice_index_or cs at c
    → length c.up.waiting ≡ length (server_link l.world).up
up_waits l client server cs written at c view place short is =
    subst (λ (k : WorldValue). length c.up.waiting ≡ length (server_link k.world).up) view
    (sym (ap (λ (x : Link). length x.up) (ap (λ (n : ℕ). slice_index_or (links_of cs) n no_link) (sym place) ∙ links_get cs at c short is)))

pub down_waits : (l : WorldValue) (client : ClientEnd) (server : ServerValue) (cs : List Connection) (written : List ℕ) (at : ℕ)
    (c : Connection)
    → seen client server cs written ≡ l → IsReached (seen client server cs written) → at ≡ length cs - 1 → 0 < length cs
    → c ≡ slice_index_or cs at c → length c.down.waiting ≡ length (client_link l.world).down
down_waits l client server cs written at c view h place some is =
    let same : length cs ≡ client.client.last = made client server cs written h in
    let number : at ≡ client.client.last - 1 = place ∙ ap (λ (n : ℕ). n - 1) same in
    subst (λ (k : WorldValue). length c.down.waiting ≡ length (client_link k.world).down) view
    (sym (ap (λ (x : Link). length x.down) (ap (λ (n : ℕ). slice_index_or (links_of cs) n no_link) (sym number)
    ∙ links_get cs at c (omega (arith, place, some)) is)))
