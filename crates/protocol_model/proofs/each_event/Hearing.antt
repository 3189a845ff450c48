-- The client reads a reply: all that holds is kept.
use Rattle.protocol_model.proofs.Names.{[], ◌∙◌, ◌∷◌, ◌≡◌, ◌≤◌, ◌⊎◌, ap, Bool, Cause, Client, client_hears, client_read, client_reads, count_open}
use Rattle.protocol_model.proofs.Names.{Effect, ends_abort, false, false≢true, first_state, heard_in, heard_on, inl, inr, is_event_tag, is_whole}
use Rattle.protocol_model.proofs.Names.{last_state, le_trans, List, mark_of, None, not, OpenCommand, Option, refl, Reply, Result, Some, State}
use Rattle.protocol_model.proofs.Names.{state_behind, Std, subst, sym, Table, Tag, tag_is, tag_of, true, Wanted}
use Rattle.dme_line.specs.declared.tags.Tag.TheVariants.{Event}
use Rattle.protocol_model.specs.Replies.{Mark}
use Rattle.protocol_model.proofs.HeardTables.{heard}
use Rattle.protocol_model.specs.Typed.{World}
use Rattle.protocol_model.proofs.table.Basics.{if_true, if_false}
use Rattle.protocol_model.proofs.table.Walks.{two, staged, AreDistinct}
use Rattle.protocol_model.proofs.table.Counts.{failed_tags, is_error, none_fails, one_fails, none_left}
use Rattle.protocol_model.proofs.table.Replying.{fine, step_cases, Reads, step_counts, step_distinct}
use Rattle.protocol_model.proofs.invariant.Holding.{IsAborting, HasEvents, IsTidy, tags_of, IsLive, IsOff, IsHere, IsAhead, IsGone, Inv}
use Rattle.protocol_model.proofs.each_event.HearEvent.{has_state, standard_events, failing_events, AbortLeft, there, gone, IsAbortReply, abort_reply}
use Rattle.protocol_model.proofs.plan.Marks.{HasNoAbort}
use Rattle.protocol_model.proofs.plan.PassedOver.{passed_no_abort}
use Rattle.protocol_model.proofs.table.Asking.{step_leaves}

event_events : (state : State) (abort : Option Tag) (event hs : List OpenCommand) (t : Tag) (m : Mark) (e : Effect) (b : Table)
    → HasEvents state abort event → heard_in true event t m ≡ two hs e → is_error m ≡ false
    → HasEvents (state_behind state (ends_abort abort t m) b) abort hs
event_events State.Apart abort event hs t m e b h is n = absurd (none_heard event hs t m e h is)
  where
    none_heard : (event hs : List OpenCommand) (t : Tag) (m : Mark) (e : Effect) → event ≡ [] → heard_in true event t m ≡ two hs e → ⊥
    none_heard event hs t m e none is = let nowhere : heard_in true [] t m ≡ two hs e =
        ap (λ (l : List OpenCommand). heard_in true l t m) (sym none) ∙ is in cc
event_events State.Running abort event hs t m e b h is n = let nowhere : heard_in true [] t m ≡ two hs e =
    ap (λ (l : List OpenCommand). heard_in true l t m) (sym h) ∙ is in absurd (cc)
event_events State.Failing abort event hs t m e b h is n = let nowhere : heard_in true [] t m ≡ two hs e =
    ap (λ (l : List OpenCommand). heard_in true l t m) (sym h) ∙ is in absurd (cc)
event_events State.Halted abort event hs t m e b h is n = let nowhere : heard_in true [] t m ≡ two hs e =
    ap (λ (l : List OpenCommand). heard_in true l t m) (sym h) ∙ is in absurd (cc)
event_events State.Done abort event hs t m e b h is n = let nowhere : heard_in true [] t m ≡ two hs e =
    ap (λ (l : List OpenCommand). heard_in true l t m) (sym h) ∙ is in absurd (cc)
event_events State.Faulted abort event hs t m e b h is n = absurd h
event_events State.Aborting abort event hs t m e b h is n =
    let reply : IsAbortReply h.held t m hs = abort_reply h.held t m hs e
    (ap (λ (l : List OpenCommand). heard_in true l t m) (sym h.event_is)
    ∙ is) n in
    go reply.left reply.same
  where
    go : AbortLeft h.held m hs → tag_is h.held.tag t ≡ true → HasEvents (state_behind State.Aborting (ends_abort abort t m) b) abort hs
    go (there s left goes_on) same =
        let still : IsAborting abort hs = record {
          tag = h.tag;
          held = staged h.held s;
          abort_is = h.abort_is;
          event_is = left;
          same = h.same;
          sort = h.sort;
        } in
        subst (λ (ends : Bool). HasEvents (last_state (first_state State.Aborting ends b.tally.failed) (is_whole b) (count_open b.standard))
        abort hs) (sym (goes_on abort t)) still
    go (gone none done) same =
        let ends : ends_abort abort t m ≡ true = ap (λ (o : Option Tag). ends_abort o t m) h.abort_is
        ∙ (ap (λ (x : Mark). ends_abort (Some h.tag) t x) done ∙ ap (λ (a : Tag). tag_is a t) (sym h.same) ∙ same) in
        subst (λ (x : Bool). HasEvents (last_state (first_state State.Aborting x b.tally.failed) (is_whole b) (count_open b.standard)) abort
        hs) (sym ends) (failing_events b abort hs none)

-- ---- which error is pending

-- a reply on an event tag is not an error, and none was pending
pub record IsCalm (p : Option Tag) (r : Reply) (rs : List Reply) : Type 0 where
  pub mark : is_error (mark_of r) ≡ false
  pub rest : IsTidy p rs

calm_event : (p : Option Tag) (r : Reply) (rs : List Reply) → IsTidy p (r ∷ rs) → is_event_tag (tag_of r) ≡ true → IsCalm p r rs
calm_event None (Reply.Ack u) rs h e = record { mark = refl; rest = h }
calm_event None (Reply.Given u p) rs h e = record { mark = refl; rest = h }
calm_event None (Reply.Done u) rs h e = record { mark = refl; rest = h }
calm_event None (Reply.Error u code name) rs h e = absurd (false≢true (sym h.0 ∙ e))
calm_event (Some t) (Reply.Ack u) rs h e = absurd h
calm_event (Some t) (Reply.Given u p) rs h e = absurd h
calm_event (Some t) (Reply.Done u) rs h e = absurd (false≢true (sym h.1 ∙ (ap is_event_tag h.0 ∙ e)))
calm_event (Some t) (Reply.Error u code name) rs h e = absurd h

-- after a reply on a standard tag
pub record IsPending (hs : List OpenCommand) (rs : List Reply) : Type 0 where
  pub pending : Option Tag
  pub is : failed_tags hs ≡ tags_of pending
  pub tidy : IsTidy pending rs

pends : (p : Option Tag) (r : Reply) (rs : List Reply) (front : Bool) (hs gs : List OpenCommand) (e : Effect) → IsTidy p (r ∷ rs)
    → failed_tags hs ≡ tags_of p → AreDistinct hs → heard_in front hs (tag_of r) (mark_of r) ≡ two gs e → IsPending gs rs
pends None (Reply.Ack u) rs front hs gs e h p d is = record { pending = None; is = none_fails front hs u Mark.Ack gs e is refl p; tidy = h }
pends None (Reply.Given u q) rs front hs gs e h p d is = record {
  pending = None;
  is = none_fails front hs u (Mark.Given q) gs e is refl p;
  tidy = h;
}
pends None (Reply.Done u) rs front hs gs e h p d is = record {
  pending = None;
  is = none_fails front hs u Mark.Done gs e is refl p;
  tidy = h;
}
pends None (Reply.Error u code name) rs front hs gs e h p d is =
    record { pending = Some u; is = (one_fails front hs u gs e is p).0; tidy = h.1 }
pends (Some t) (Reply.Ack u) rs front hs gs e h p d is = absurd h
pends (Some t) (Reply.Given u q) rs front hs gs e h p d is = absurd h
pends (Some t) (Reply.Done u) rs front hs gs e h p d is = record {
  pending = None;
  is = none_left front hs u gs e is d (p ∙ ap (λ (v : Tag). v ∷ []) h.0);
  tidy = h.2;
}
pends (Some t) (Reply.Error u code name) rs front hs gs e h p d is = absurd h

-- ---- the event

-- the client after a reply
heard_client : Client → Table → Tag → Mark → Client
heard_client c b t m = record c { table = b; state = state_behind c.state (ends_abort c.abort t m) b }

client_is : (c : Client) (t : Tag) (m : Mark) (b : Table) → tag_is t (Event 0) ≡ false → heard c.program.features c.table t m ≡ fine b
    → client_read c t m ≡ record c { table = b; state = state_behind c.state (ends_abort c.abort t m) b }
client_is c t m b other is =
    let on_it : heard_on c.program.features c.table t m ≡ fine b =
    sym (if_false {A = Result Table Cause} (tag_is t (Event 0)) (fine c.table) (heard_on c.program.features c.table t m) other) ∙ is in
    if_false {A = Client} (tag_is t (Event 0)) c (client_hears c t m (heard_on c.program.features c.table t m)) other
    ∙ ap (client_hears c t m) on_it

-- what a reply has to leave of the client's own facts
pub record IsHeard (c : Client) (b : Table) (t : Tag) (m : Mark) (down : List Reply) : Type 0 where
  pub pending : IsPending b.standard down
  pub distinct : AreDistinct b.standard
  pub count : count_open b.standard ≤ count_open c.table.standard
  pub events : HasEvents (state_behind c.state (ends_abort c.abort t m) b) c.abort b.event
  pub plain : HasNoAbort b.tally.unsent

hears : (w : World) (inv : Inv w) (live : IsLive w) (r : Reply) (down : List Reply) (b : Table) → w.down ≡ r ∷ down
    → Reads w.client.program.features b down live.table → IsHeard w.client b (tag_of r) (mark_of r) down
    → Inv (record {
      client = record (w.client) {
        table = b;
        state = state_behind w.client.state
            (ends_abort w.client.abort (tag_of r) (mark_of r)) b;
      };
      server = w.server;
      up = w.up;
      down = down;
    })
hears w inv live r down b e reads h = record {
  program = inv.program;
  window = inv.window;
  numbers = inv.numbers;
  ledger = inv.ledger;
  idle = inv.idle;
  side = inr (record {
    on = live.on;
    table = live.table;
    left = live.left;
    reads = reads;
    counted = live.counted;
    progress = live.progress;
    pending = h.pending.pending;
    pending_is = h.pending.is;
    tidy = h.pending.tidy;
    distinct = h.distinct;
    within = le_trans h.count live.within;
    state = has_state w.client.state (ends_abort w.client.abort (tag_of r) (mark_of r)) w.client.table b live.state h.count;
    events = h.events;
    plain = h.plain;
    place = placed live.place;
  });
}
  where
    after_it : World
    after_it = record {
      client = record (w.client) {
        table = b;
        state = state_behind w.client.state (ends_abort w.client.abort (tag_of r) (mark_of r)) b;
      };
      server = w.server;
      up = w.up;
      down = down;
    }

    placed : IsHere w live.table live.left ⊎ (IsAhead w live.table live.left ⊎ IsGone w) → IsHere after_it live.table live.left
        ⊎ (IsAhead after_it live.table live.left ⊎ IsGone after_it)
    placed (inl here) = inl (record { on = here.on; same = here.same; near = here.near })
    placed (inr (inl ahead)) = inr (inl (record { below = ahead.below; near = ahead.near }))
    placed (inr (inr gone_now)) = inr (inr (record { off = gone_now.off; same = gone_now.same }))

-- a reply that changes nothing
passes : (w : World) (inv : Inv w) (live : IsLive w) (r : Reply) (down : List Reply) → w.down ≡ r ∷ down
    → Reads w.client.program.features w.client.table down live.table → IsTidy live.pending down
    → Inv (record { client = w.client; server = w.server; up = w.up; down = down })
passes w inv live r down e reads tidy = record {
  program = inv.program;
  window = inv.window;
  numbers = inv.numbers;
  ledger = inv.ledger;
  idle = inv.idle;
  side = inr (record {
    on = live.on;
    table = live.table;
    left = live.left;
    reads = reads;
    counted = live.counted;
    progress = live.progress;
    pending = live.pending;
    pending_is = live.pending_is;
    tidy = tidy;
    distinct = live.distinct;
    within = live.within;
    state = live.state;
    events = live.events;
    plain = live.plain;
    place = placed live.place;
  });
}
  where
    after_it : World
    after_it = record { client = w.client; server = w.server; up = w.up; down = down }

    placed : IsHere w live.table live.left ⊎ (IsAhead w live.table live.left ⊎ IsGone w) → IsHere after_it live.table live.left
        ⊎ (IsAhead after_it live.table live.left ⊎ IsGone after_it)
    placed (inl here) = inl (record { on = here.on; same = here.same; near = here.near })
    placed (inr (inl ahead)) = inr (inl (record { below = ahead.below; near = ahead.near }))
    placed (inr (inr gone_now)) = inr (inr (record { off = gone_now.off; same = gone_now.same }))

-- the facts after a reply on another tag than the number 0
is_heard : (w : World) (live : IsLive w) (r : Reply) (down : List Reply) (b : Table) → IsTidy live.pending (r ∷ down)
    → tag_is (tag_of r) (Event 0) ≡ false → heard w.client.program.features w.client.table (tag_of r) (mark_of r) ≡ fine b
    → IsHeard w.client b (tag_of r) (mark_of r) down
is_heard w live r down b tidy other step =
    step_cases ws c.table t m b (IsHeard c b t m down) step
    (λ none same. absurd (false≢true (sym other ∙ none)))
    (λ n hs e tag walk g.
    let sort : is_event_tag t ≡ false = ap is_event_tag tag in
    let walked : heard_in (not c.table.tally.failed) c.table.standard t m ≡ two hs e =
    subst (λ (u : Tag). heard_in (not c.table.tally.failed) c.table.standard u m ≡ two hs e) (sym tag) walk in
    let pends_now : IsPending hs down = pends live.pending r down (not c.table.tally.failed) c.table.standard hs e tidy live.pending_is
    live.distinct walked in
    record {
      pending = subst (λ (x : Table). IsPending x.standard down) (sym g) pends_now;
      distinct = step_distinct ws c.table t m b step live.distinct;
      count = step_counts ws c.table t m b step;
      events = subst (λ (l : List OpenCommand). HasEvents (state_behind c.state (ends_abort c.abort t m) b) c.abort l)
          (ap (λ (x : Table). x.event) (sym g)) (standard_events c.state c.abort c.table.event t m b sort live.events);
      plain = plain;
    })
    (λ n hs e tag apart walk g.
    let sort : is_event_tag t ≡ true = ap is_event_tag tag in
    let calm : IsCalm live.pending r down = calm_event live.pending r down tidy sort in
    let walked : heard_in true c.table.event t m ≡ two hs e = subst (λ (u : Tag). heard_in true c.table.event u m ≡ two hs e) (sym tag) walk
    in
    let still : IsPending c.table.standard down = record { pending = live.pending; is = live.pending_is; tidy = calm.rest } in
    record {
      pending = subst (λ (x : Table). IsPending x.standard down) (sym g) still;
      distinct = step_distinct ws c.table t m b step live.distinct;
      count = step_counts ws c.table t m b step;
      events = subst (λ (l : List OpenCommand). HasEvents (state_behind c.state (ends_abort c.abort t m) b) c.abort l)
          (ap (λ (x : Table). x.event) (sym g)) (event_events c.state c.abort c.table.event hs t m e b live.events walked calm.mark);
      plain = plain;
    })
  where
    c : Client
    c = w.client

    ws : List Wanted
    ws = w.client.program.features

    t : Tag
    t = tag_of r

    m : Mark
    m = mark_of r

    plain : HasNoAbort b.tally.unsent
    plain = step_leaves ws c.table t m b HasNoAbort step live.plain (λ ps told. passed_no_abort told ps)

zero_is_event : (t : Tag) → tag_is t (Event 0) ≡ true → is_event_tag t ≡ true
zero_is_event (Std n) e = absurd (false≢true e)
zero_is_event (Event n) e = refl

-- a client on a connection reads the first reply on its way down, if there is one, and all that holds is kept
pub hear_event : (w : World) → Inv w → w.client.on ≡ true → Inv (client_reads w w.down)
hear_event w inv on = go w.down refl
  where
    ws : List Wanted
    ws = w.client.program.features

    read_by : (live : IsLive w) (r : Reply) (down : List Reply) → w.down ≡ r ∷ down → (b : Table)
        → heard ws w.client.table (tag_of r) (mark_of r) ≡ fine b → Reads ws b down live.table → IsTidy live.pending (r ∷ down)
        → (zero_tag : Bool) → tag_is (tag_of r) (Event 0) ≡ zero_tag → Inv (client_reads w (r ∷ down))
    read_by live r down e b step reads tidy true is =
        let same : w.client.table ≡ b = step_cases ws w.client.table (tag_of r) (mark_of r) b (w.client.table ≡ b) step (λ none same. same)
        (λ n hs f tag walk g. absurd (false≢true (sym (ap (λ (t : Tag). tag_is t (Event 0)) tag) ∙ is)))
        (λ n hs f tag other walk g. absurd (false≢true (sym other ∙ is))) in
        let unchanged : client_read w.client (tag_of r) (mark_of r) ≡ w.client = if_true {A = Client} _ _ _ is in
        subst (λ (c : Client). Inv (record { client = c; server = w.server; up = w.up; down = down })) (sym unchanged)
        (passes w inv live r down e (subst (λ (x : Table). Reads ws x down live.table) (sym same) reads)
        (calm_event live.pending r down tidy (zero_is_event (tag_of r) is)).rest)
    read_by live r down e b step reads tidy false is =
        subst (λ (c : Client). Inv (record { client = c; server = w.server; up = w.up; down = down }))
        (sym (client_is w.client (tag_of r) (mark_of r) b is step))
        (hears w inv live r down b e reads (is_heard w live r down b tidy is step))

    lively : (live : IsLive w) (r : Reply) (down : List Reply) → w.down ≡ r ∷ down → Inv (client_reads w (r ∷ down))
    lively live r down e =
        let reads : Reads ws w.client.table (r ∷ down) live.table =
        subst (λ (d : List Reply). Reads ws w.client.table d live.table) e live.reads in
        let tidy : IsTidy live.pending (r ∷ down) = subst (λ (d : List Reply). IsTidy live.pending d) e live.tidy in
        read_by live r down e reads.0 reads.1 reads.2 tidy (tag_is (tag_of r) (Event 0)) refl

    sided : (r : Reply) (down : List Reply) → w.down ≡ r ∷ down → IsOff w ⊎ IsLive w → Inv (client_reads w (r ∷ down))
    sided r down e (inl off) = absurd (false≢true (sym off.off ∙ on))
    sided r down e (inr live) = lively live r down e

    go : (down : List Reply) → w.down ≡ down → Inv (client_reads w down)
    go [] e = inv
    go (r ∷ down) e = sided r down e inv.side
