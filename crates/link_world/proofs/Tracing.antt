-- The text of a trace: rows of bytes, and the rows of an event.
use Rattle.link_world.proofs.Names.{[], ◌++◌, ◌+◌, ◌-◌, ◌<◌, ◌∙◌, ◌∷◌, ◌≡◌, ◌≤◌, after, ap, append-nil, append_assoc, arith, Bool, can, client_mark}
use Rattle.link_world.proofs.Names.{client_wrote, ClientEnd, comes_up, command_of, cond, Connection, decimal, down_on, drop, Ends, eqb, Err, Event}
use Rattle.link_world.proofs.Names.{false, false≢true, flat_map, Front, front_served, happens, is_there, IsLastAndRest, IsReached, length, Link}
use Rattle.link_world.proofs.Names.{links_of, List, lost_down, lost_up, machined_moves, next_of, no_link, None, Ok, OnOk, Option, place, position}
use Rattle.link_world.proofs.Names.{read_moves, reading_of, refl, Result, row, rows, seen, server_mark, server_wrote, ServerEnd, ServerValue}
use Rattle.link_world.proofs.Names.{slice_index_or, Some, standing, subst, suc, sym, take, taken_after, traced, Traces, TraceValue, true}
use Rattle.link_world.proofs.Names.{turned_moves, up_on, without_cr, World, WorldValue, zero, ℕ}
use Rattle.link_world.specs.declared.worlds.standing.Standing.{Standing}
use Rattle.link_world.specs.Traces.{passed_over, shown, Follows, Grows}
use Rattle.link_world.proofs.EventLists.{done_now}
use Rattle.link_world.proofs.Linking.{links_get}
use Rattle.link_world.proofs.Reached.{links_long, made}
use Rattle.contact_ledger.proofs.LineCuts.{first_part, one_part}

-- ---- the CR at the end of a line

cond_more : (t : Bool) (b : ℕ) (xs ys : List ℕ) → b ∷ cond t xs ys ≡ cond t (b ∷ xs) (b ∷ ys)
cond_more true b xs ys = refl
cond_more false b xs ys = refl

last_of : (rest : List ℕ) (x : ℕ) → without_cr (rest ++ x ∷ []) ≡ cond (eqb x 13) rest (rest ++ x ∷ [])
last_of [] x = refl
last_of (b ∷ []) x = cond_more (eqb x 13) b [] (x ∷ [])
last_of (b ∷ c ∷ rest) x = ap (λ (xs : List ℕ). b ∷ xs) (last_of (c ∷ rest) x) ∙ cond_more (eqb x 13) b (c ∷ rest) (c ∷ rest ++ x ∷ [])

pub cr_gone : (line front : List ℕ) (x : ℕ) → IsLastAndRest line x front → eqb x 13 ≡ true → front ≡ without_cr line
cr_gone line front x is cr =
    sym (ap without_cr is.0 ∙ (last_of front x ∙ ap (λ (t : Bool). cond t front (front ++ x ∷ [])) cr))

pub cr_none : (line front : List ℕ) (x : ℕ) → IsLastAndRest line x front → eqb x 13 ≡ false → line ≡ without_cr line
cr_none line front x is other =
    is.0 ∙ sym (ap without_cr is.0 ∙ (last_of front x ∙ ap (λ (t : Bool). cond t front (front ++ x ∷ [])) other))

pub cr_empty : (line : List ℕ) → length line ≡ 0 → line ≡ without_cr line
cr_empty [] none = refl
cr_empty (b ∷ bs) none = absurd (omega (arith, none))

-- ---- a row

pub row_none : (n : ℕ) (old mark line : List ℕ) → length line ≡ 0 → old ≡ old ++ row n mark line
row_none n old mark [] none = sym (append-nil old)
row_none n old mark (b ∷ bs) none = absurd (omega (arith, none))

pub row_more : (n : ℕ) (old mark line : List ℕ) → 0 < length line
    → ((old ++ (decimal n ++ mark)) ++ line) ++ 10 ∷ [] ≡ old ++ row n mark line
row_more n old mark [] some = absurd (omega (arith, some))
row_more n old mark (b ∷ bs) some =
    append_assoc (old ++ (decimal n ++ mark)) (b ∷ bs) (10 ∷ [])
    ∙ (append_assoc old (decimal n ++ mark) ((b ∷ bs) ++ 10 ∷ [])
    ∙ ap (λ (xs : List ℕ). old ++ xs) (append_assoc (decimal n) mark ((b ∷ bs) ++ 10 ∷ [])))

-- ---- line by line

-- the rows of lines
rows_by : ℕ → List ℕ → List (List ℕ) → List ℕ
rows_by n mark lines = flat_map (λ (line : List ℕ). row n mark (without_cr line)) lines

pub rows_more : (n at : ℕ) (mark text new rest line stripped after base : List ℕ) → Some at ≡ position (λ b. eqb b 10) rest
    → line ≡ take at rest → stripped ≡ without_cr line → after ≡ drop (at + 1) rest → new ≡ text ++ row n mark stripped
    → text ++ rows n mark rest ≡ base → new ++ rows n mark after ≡ base
rows_more n at mark text new rest line stripped after base e line_is stripped_is after_is is whole =
    ap (λ (xs : List ℕ). new ++ rows n mark xs) after_is
    ∙ (ap (λ (xs : List ℕ). xs ++ rows n mark (drop (at + 1) rest)) (is
    ∙ ap (λ (xs : List ℕ). text ++ row n mark xs) (stripped_is ∙ ap without_cr line_is))
    ∙ (append_assoc text (row n mark (without_cr (take at rest))) (rows n mark (drop (at + 1) rest))
    ∙ (ap (λ (parts : List (List ℕ)). text ++ flat_map (λ (line : List ℕ). row n mark (without_cr line)) parts)
    (sym (first_part (λ b. eqb b 10) rest at e).1) ∙ whole)))

rows_all : (n : ℕ) (mark text new rest base : List ℕ) → None ≡ position (λ b. eqb b 10) rest
    → new ≡ text ++ row n mark (without_cr rest) → text ++ rows n mark rest ≡ base → new ≡ base
rows_all n mark text new rest base e is whole =
    is ∙ (ap (λ (xs : List ℕ). text ++ xs) (sym (append-nil (row n mark (without_cr rest))))
    ∙ (ap (λ (parts : List (List ℕ)). text ++ flat_map (λ (line : List ℕ). row n mark (without_cr line)) parts)
    (sym (one_part (λ b. eqb b 10) rest e)) ∙ whole))

pub rows_end : {E : Type 0} (r : Result (Unit {0}) E) (n : ℕ) (mark text new rest stripped base : List ℕ)
    → None ≡ position (λ b. eqb b 10) rest → stripped ≡ without_cr rest → OnOk r (new ≡ text ++ row n mark stripped)
    → text ++ rows n mark rest ≡ base → OnOk r (new ≡ base)
rows_end (Ok u) n mark text new rest stripped base e stripped_is is whole =
    rows_all n mark text new rest base e (is ∙ ap (λ (xs : List ℕ). text ++ row n mark xs) stripped_is) whole
rows_end (Err fault) n mark text new rest stripped base e stripped_is is whole = tt

-- ---- the bytes of a connection

no_links : (cs : List Connection) (at : ℕ) → length cs ≤ at → slice_index_or (links_of cs) at no_link ≡ no_link
no_links [] at past = refl
no_links (c ∷ cs) zero past = absurd (omega (arith, past))
no_links (c ∷ cs) (suc at) past = no_links cs at (omega (arith, past))

link_found : (l : WorldValue) (client : ClientEnd) (server : ServerValue) (cs : List Connection) (written : List ℕ) (at : ℕ) (c : Connection)
    → seen client server cs written ≡ l → at < length cs → c ≡ slice_index_or cs at c
    → record { up = c.up.waiting; down = c.down.waiting } ≡ slice_index_or l.world.links at no_link
link_found l client server cs written at c view short is =
    sym (links_get cs at c short is) ∙ ap (λ (k : WorldValue). slice_index_or k.world.links at no_link) view

pub up_found : (l : WorldValue) (client : ClientEnd) (server : ServerValue) (cs : List Connection) (written : List ℕ) (n at : ℕ) (c : Connection)
    → seen client server cs written ≡ l → at ≡ n - 1 → at < length cs → c ≡ slice_index_or cs at c → c.up.waiting ≡ up_on l.world n
up_found l client server cs written n at c view place short is =
    ap (λ (x : Link). x.up) (link_found l client server cs written at c view short is
    ∙ ap (λ (i : ℕ). slice_index_or l.world.links i no_link) place)

pub down_found : (l : WorldValue) (client : ClientEnd) (server : ServerValue) (cs : List Connection) (written : List ℕ) (n at : ℕ) (c : Connection)
    → seen client server cs written ≡ l → at ≡ n - 1 → at < length cs → c ≡ slice_index_or cs at c → c.down.waiting ≡ down_on l.world n
down_found l client server cs written n at c view place short is =
    ap (λ (x : Link). x.down) (link_found l client server cs written at c view short is
    ∙ ap (λ (i : ℕ). slice_index_or l.world.links i no_link) place)

link_none : (l : WorldValue) (client : ClientEnd) (server : ServerValue) (cs : List Connection) (written : List ℕ) (at : ℕ)
    → seen client server cs written ≡ l → length cs ≤ at → no_link ≡ slice_index_or l.world.links at no_link
link_none l client server cs written at view past =
    sym (no_links cs at past) ∙ ap (λ (k : WorldValue). slice_index_or k.world.links at no_link) view

pub up_none : (l : WorldValue) (client : ClientEnd) (server : ServerValue) (cs : List Connection) (written : List ℕ) (n at : ℕ)
    → seen client server cs written ≡ l → at ≡ n - 1 → length cs ≤ at → [] ≡ up_on l.world n
up_none l client server cs written n at view place past =
    ap (λ (x : Link). x.up) (link_none l client server cs written at view past
    ∙ ap (λ (i : ℕ). slice_index_or l.world.links i no_link) place)

pub down_none : (l : WorldValue) (client : ClientEnd) (server : ServerValue) (cs : List Connection) (written : List ℕ) (n at : ℕ)
    → seen client server cs written ≡ l → at ≡ n - 1 → length cs ≤ at → [] ≡ down_on l.world n
down_none l client server cs written n at view place past =
    ap (λ (x : Link). x.down) (link_none l client server cs written at view past
    ∙ ap (λ (i : ℕ). slice_index_or l.world.links i no_link) place)

-- ---- a trace that grows

pub grows_none : (t : TraceValue) → Grows t t []
grows_none t kept = record { kept = kept; taken = refl; text = sym (append-nil t.text) }

pub grows_more : (t u v : TraceValue) (first then : List ℕ) → Grows t u first → Grows u v then → Grows t v (first ++ then)
grows_more t u v first then a b kept =
    let two = b kept in
    let one = a two.kept in record {
      kept = one.kept;
      taken = two.taken ∙ one.taken;
      text = two.text ∙ (ap (λ (xs : List ℕ). xs ++ then) one.text ∙ append_assoc t.text first then);
    }

-- a part of some rows
pub record Part (old new : TraceValue) (rest all : List ℕ) : Type 0 where
  pub done : List ℕ
  pub grows : Grows old new done
  pub whole : done ++ rest ≡ all

pub part_none : (t : TraceValue) (all : List ℕ) → Part t t all all
part_none t all = record { done = []; grows = grows_none t; whole = refl }

less : (end at : ℕ) → at < end → end - at ≡ suc (end - (at + 1))
less end at short = omega (arith, short)

pub part_more : (t u v : TraceValue) (w : World) (at end : ℕ) (all : List ℕ) → Part t u (passed_over w (suc at) (end - at)) all → at < end
    → Grows u v (rows (at + 1) (client_mark false) (up_on w (at + 1)))
    → Part t v (passed_over w (suc (at + 1)) (end - (at + 1))) all
part_more t u v w at end all h short one = record {
  done = h.done ++ now;
  grows = grows_more t u v h.done now h.grows one;
  whole = append_assoc h.done now rest ∙ (ap (λ (xs : List ℕ). h.done ++ xs) (sym same) ∙ h.whole);
}
  where
    now : List ℕ
    now = rows (at + 1) (client_mark false) (up_on w (at + 1))

    rest : List ℕ
    rest = passed_over w (suc (at + 1)) (end - (at + 1))

    next : suc at ≡ at + 1
    next = omega arith

    same : passed_over w (suc at) (end - at) ≡ now ++ rest
    same = ap (λ (k : ℕ). passed_over w (suc at) k) (less end at short)
        ∙ ap (λ (k : ℕ). rows k (client_mark false) (up_on w k) ++ passed_over w (suc k) (end - (at + 1))) next

pub part_all : (t u : TraceValue) (w : World) (at end : ℕ) (all : List ℕ) → Part t u (passed_over w (suc at) (end - at)) all → end ≤ at
    → Grows t u all
part_all t u w at end all h past = subst (Grows t u) (same ∙ h.whole) h.grows
  where
    none : end - at ≡ 0
    none = omega (arith, past)

    same : h.done ≡ h.done ++ passed_over w (suc at) (end - at)
    same = sym (ap (λ (k : ℕ). h.done ++ passed_over w (suc at) k) none ∙ append-nil h.done)

-- ---- how many connections there are

pub links_count : (l : WorldValue) (client : ClientEnd) (server : ServerValue) (cs : List Connection) (written : List ℕ) (n : ℕ)
    → seen client server cs written ≡ l → n ≡ length cs → n ≡ length l.world.links
links_count l client server cs written n view long =
    long ∙ (sym (links_long cs) ∙ ap (λ (k : WorldValue). length k.world.links) view)

pub last_count : (l : WorldValue) (client : ClientEnd) (server : ServerValue) (cs : List Connection) (written : List ℕ) (n : ℕ)
    → seen client server cs written ≡ l → IsReached (seen client server cs written) → n ≡ length cs → n ≡ l.world.client.client.last
last_count l client server cs written n view h long =
    long ∙ (made client server cs written h ∙ ap (λ (k : WorldValue). k.world.client.client.last) view)

-- ---- the rows of an event

-- the connection that the server took last, after an event
last_after : (e : Event) (w : World) → (happens e w).server.server.last ≡ taken_after e w.server.server.last
last_after Event.Connect w = refl
last_after (Event.Accept n) w = refl
last_after Event.ClientSends w = refl
last_after (Event.Up k) w = refl
last_after Event.ServerReads w = front_last w.server (next_of w.server.input.rest)
  where
    front_last : (e : ServerEnd) (f : Front) → (front_served e f).server.last ≡ e.server.last
    front_last e (Ok None) = refl
    front_last e (Ok (Some (line, rest))) = (read_moves e.server (reading_of (command_of line))).last
    front_last e (Err why) = refl
last_after Event.ServerTurn w = (turned_moves w.server.server).1.last
last_after (Event.Machine outcome) w = (machined_moves w.server.server outcome).1.last
last_after (Event.Down k) w = refl
last_after Event.ClientReads w = refl
last_after Event.ClientLeaves w = refl
last_after Event.ServerLeaves w = refl
last_after Event.Abort w = refl
last_after Event.Resume w = refl
last_after (Event.ClientRestart k) w = refl
last_after Event.ServerRestart w = refl

traced_one : (e : Event) (w v : World) (s : Standing) → can e w ≡ true → v ≡ happens e w → s ≡ standing w → shown e s v ≡ traced (e ∷ []) w
traced_one e w v s may is stands =
    ap (λ (x : Standing). shown e x v) stands
    ∙ (ap (λ (x : World). shown e (standing w) x) is
    ∙ sym (append-nil (cond (can e w) (shown e (standing w) (happens e w)) [])
    ∙ ap (λ (b : Bool). cond b (shown e (standing w) (happens e w)) []) may))

pub traces_one : (e : Event) (w v : World) (s : Standing) (t r u : TraceValue) → can e w ≡ true → v ≡ happens e w
    → (t.taken ≡ w.server.server.last → s ≡ standing w) → Grows t r (shown e s v) → u ≡ record r { taken = taken_after e r.taken }
    → Traces (e ∷ []) w t u
traces_one e w v s t r u may is stands grows takes kept =
    let still : r.is_kept ≡ true = sym (ap (λ (x : TraceValue). x.is_kept) takes) ∙ kept in
    let f : Follows t r (shown e s v) = grows still in (
      f.kept,
      λ last. record {
        taken = ap (λ (x : TraceValue). x.taken) takes ∙ (ap (λ (n : ℕ). taken_after e n) (f.taken ∙ last)
            ∙ (sym (last_after e w) ∙ ap (λ (x : World). x.server.server.last) (sym (done_now e w may))));
        text = ap (λ (x : TraceValue). x.text) takes ∙ (f.text ∙ ap (λ (xs : List ℕ). t.text ++ xs) (traced_one e w v s may is (stands last)));
      },
    )

-- ---- the end

pub ends_all : (w : World) (s : Standing) (made_count : ℕ) (t a b u : TraceValue) → (t.taken ≡ w.server.server.last → s ≡ standing w)
    → made_count ≡ length w.links → Grows t a (lost_down w s.client) → Grows a b (lost_up w s.server)
    → Grows b u (passed_over w (suc s.taken) (made_count - s.taken)) → Ends w t u
ends_all w s made_count t a b u stands count first second third kept =
    let f = grows_more t b u (lost_down w s.client ++ lost_up w s.server) over
    (grows_more t a b (lost_down w s.client) (lost_up w s.server) first second) third kept in (
      f.kept,
      λ last. f.text ∙ ap (λ (xs : List ℕ). t.text ++ xs) (append_assoc (lost_down w s.client) (lost_up w s.server) over
          ∙ (ap (λ (x : Standing). lost_down w x.client ++ (lost_up w x.server ++ passed_over w (suc x.taken) (made_count - x.taken)))
          (stands last) ∙ ap (λ (n : ℕ). lost_down w (standing w).client ++ (lost_up w (standing w).server
          ++ passed_over w (suc w.server.server.last) (n - w.server.server.last))) number)),
    )
  where
    over : List ℕ
    over = passed_over w (suc s.taken) (made_count - s.taken)

    number : made_count ≡ length w.links
    number = count

-- ---- what is kept

pub grows_kept : (t u : TraceValue) (more : List ℕ) → t.is_kept ≡ true → u.taken ≡ t.taken → u.text ≡ t.text ++ more → Grows t u more
grows_kept t u more kept taken text still = record { kept = kept; taken = taken; text = text }

pub grows_lost : (t u : TraceValue) (more : List ℕ) → u.is_kept ≡ false → Grows t u more
grows_lost t u more lost still = absurd (false≢true (sym lost ∙ still))

pub client_kept : (s : Standing) (w : World) (n : ℕ) (t u : TraceValue) (comes : Bool) (mark bytes rest : List ℕ) → s.client ≡ Some n
    → comes ≡ comes_up s n → mark ≡ client_mark comes → bytes ≡ up_on w n → rest ≡ drop s.up bytes → Grows t u (rows n mark rest)
    → Grows t u (client_wrote s w s.client)
client_kept s w n t u comes mark bytes rest here comes_is mark_is bytes_is rest_is grows =
    subst (λ (xs : List ℕ). Grows t u xs)
    (ap (λ (m : List ℕ). rows n m rest) (mark_is ∙ ap client_mark comes_is)
    ∙ (ap (λ (xs : List ℕ). rows n (client_mark (comes_up s n)) xs) (rest_is ∙ ap (λ (xs : List ℕ). drop s.up xs) bytes_is)
    ∙ ap (λ (o : Option ℕ). client_wrote s w o) (sym here))) grows

pub client_kept_none : (s : Standing) (w : World) (t : TraceValue) → s.client ≡ None → Grows t t (client_wrote s w s.client)
client_kept_none s w t none = subst (λ (o : Option ℕ). Grows t t (client_wrote s w o)) (sym none) (grows_none t)

pub server_kept : (s : Standing) (w : World) (n : ℕ) (t u : TraceValue) (comes : Bool) (mark bytes rest : List ℕ) → s.server ≡ Some n
    → comes ≡ is_there s.client n → mark ≡ server_mark comes → bytes ≡ down_on w n → rest ≡ drop s.down bytes → Grows t u (rows n mark rest)
    → Grows t u (server_wrote s w s.server)
server_kept s w n t u comes mark bytes rest here comes_is mark_is bytes_is rest_is grows =
    subst (λ (xs : List ℕ). Grows t u xs)
    (ap (λ (m : List ℕ). rows n m rest) (mark_is ∙ ap server_mark comes_is)
    ∙ (ap (λ (xs : List ℕ). rows n (server_mark (is_there s.client n)) xs) (rest_is ∙ ap (λ (xs : List ℕ). drop s.down xs) bytes_is)
    ∙ ap (λ (o : Option ℕ). server_wrote s w o) (sym here))) grows

pub server_kept_none : (s : Standing) (w : World) (t : TraceValue) → s.server ≡ None → Grows t t (server_wrote s w s.server)
server_kept_none s w t none = subst (λ (o : Option ℕ). Grows t t (server_wrote s w o)) (sym none) (grows_none t)

pub up_kept : (w : World) (at : Option ℕ) (n : ℕ) (t u : TraceValue) (mark bytes : List ℕ) → at ≡ Some n → mark ≡ client_mark false
    → bytes ≡ up_on w n → Grows t u (rows n mark bytes) → Grows t u (lost_up w at)
up_kept w at n t u mark bytes here mark_is bytes_is grows =
    subst (λ (xs : List ℕ). Grows t u xs)
    (ap (λ (m : List ℕ). rows n m bytes) mark_is
    ∙ (ap (λ (xs : List ℕ). rows n (client_mark false) xs) bytes_is ∙ ap (λ (o : Option ℕ). lost_up w o) (sym here))) grows

pub up_kept_none : (w : World) (at : Option ℕ) (t : TraceValue) → at ≡ None → Grows t t (lost_up w at)
up_kept_none w at t none = subst (λ (o : Option ℕ). Grows t t (lost_up w o)) (sym none) (grows_none t)

pub down_kept : (w : World) (at : Option ℕ) (n : ℕ) (t u : TraceValue) (mark bytes : List ℕ) → at ≡ Some n → mark ≡ server_mark false
    → bytes ≡ down_on w n → Grows t u (rows n mark bytes) → Grows t u (lost_down w at)
down_kept w at n t u mark bytes here mark_is bytes_is grows =
    subst (λ (xs : List ℕ). Grows t u xs)
    (ap (λ (m : List ℕ). rows n m bytes) mark_is
    ∙ (ap (λ (xs : List ℕ). rows n (server_mark false) xs) bytes_is ∙ ap (λ (o : Option ℕ). lost_down w o) (sym here))) grows

pub down_kept_none : (w : World) (at : Option ℕ) (t : TraceValue) → at ≡ None → Grows t t (lost_down w at)
down_kept_none w at t none = subst (λ (o : Option ℕ). Grows t t (lost_down w o)) (sym none) (grows_none t)

-- ---- both sides

abbrev pub build : Option ℕ → Option ℕ → ℕ → ℕ → ℕ → Standing
build a b taken up down = record { client = a; server = b; taken = taken; up = up; down = down }

pub place_is : (l : WorldValue) (client : ClientEnd) (server : ServerValue) (cs : List Connection) (written : List ℕ) (on : Bool) (last : ℕ)
    (r : Option ℕ) → seen client server cs written ≡ l → r ≡ place on last → on ≡ client.client.on → last ≡ l.world.client.client.last
    → r ≡ place l.world.client.client.on l.world.client.client.last
place_is l client server cs written on last r view is on_is last_is =
    is ∙ (ap (λ (b : Bool). place b last) (on_is ∙ ap (λ (k : WorldValue). k.world.client.client.on) view)
    ∙ ap (λ (n : ℕ). place l.world.client.client.on n) last_is)

pub standing_is : (l : WorldValue) (client : ClientEnd) (server : ServerValue) (cs : List Connection) (written : List ℕ) (a b : Option ℕ)
    (taken up down n : ℕ) → seen client server cs written ≡ l → a ≡ place l.world.client.client.on l.world.client.client.last
    → b ≡ place server.end.server.on server.end.server.last → taken ≡ l.world.server.server.last → n ≡ l.world.client.client.last
    → up ≡ length (up_on l.world n) → down ≡ length (down_on l.world taken) → build a b taken up down ≡ standing l.world
standing_is l client server cs written a b taken up down n view a_is b_is taken_is n_is up_is down_is =
    ap (λ (x : Option ℕ). build x b taken up down) a_is
    ∙ (ap (λ (x : Option ℕ). build (standing l.world).client x taken up down)
    (b_is ∙ ap (λ (k : WorldValue). place k.world.server.server.on k.world.server.server.last) view)
    ∙ (ap (λ (x : ℕ). build (standing l.world).client (standing l.world).server x up down) taken_is
    ∙ (ap (λ (x : ℕ). build (standing l.world).client (standing l.world).server l.world.server.server.last x down)
    (up_is ∙ ap (λ (i : ℕ). length (up_on l.world i)) n_is)
    ∙ ap (λ (x : ℕ). build (standing l.world).client (standing l.world).server l.world.server.server.last (standing l.world).up x)
    (down_is ∙ ap (λ (i : ℕ). length (down_on l.world i)) taken_is))))
