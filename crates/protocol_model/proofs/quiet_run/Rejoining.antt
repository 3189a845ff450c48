-- Both ends leave, connect and accept: nothing is on its way, and the client has the plan for what is left.
use Rattle.protocol_model.proofs.Names.{[], ◌&&◌, ◌++◌, ◌∙◌, ◌∷◌, ◌≡◌, ◌≤◌, ◌⊎◌, ap, arith, Bool, CanFinish, client_connected, cond, connection_most}
use Rattle.protocol_model.proofs.Names.{end_left, false, false≢true, Feature, Framing, inl, inr, is_apart, le-leb, left_state, length, Link, link_of}
use Rattle.protocol_model.proofs.Names.{List, Meaning, nat_le, nat_lt, no_link, no_tally, not, plan, plan_left, refl, rejoined, ServerEnd}
use Rattle.protocol_model.proofs.Names.{serving_accepted, serving_left, Start, State, subst, suc, sym, Table, true, ℕ}
use Rattle.protocol_model.specs.World.{after, can, connected, World}
use Rattle.protocol_model.specs.declared.events.Event.TheVariants.{Accept, Connect, ClientLeaves, ServerLeaves}
use Rattle.protocol_model.proofs.invariant.Holding.{IsOff, IsLive, IsAtRest, IsIdle}
use Rattle.protocol_model.proofs.whole_run.Carrying.{lined, IsCarried}
use Rattle.protocol_model.proofs.whole_run.CarryingClient.{client_left_carried, server_left_carried}
use Rattle.protocol_model.proofs.whole_run.Links.{link_new}
use Rattle.protocol_model.proofs.whole_run.WholeRun.{happens_carried}
use Rattle.protocol_model.proofs.quiet_run.Joining.{after_is}
use Rattle.protocol_model.proofs.quiet_run.Phases.{IsStill}

-- ---- both ends have left

-- nothing is measured whole, and neither end is on a connection; what both keep is unchanged
record HasParted (b w : World) : Type 0 where
  carried : IsCarried w
  apart : w.client.client.state ≡ State.Apart
  last : w.client.client.last ≡ b.client.client.last
  kept : w.client.client.program ≡ b.client.client.program
  window : w.client.client.window ≡ b.client.client.window
  features : w.client.client.table.tally.features ≡ b.client.client.table.tally.features

record IsParted (b w : World) : Type 0 where
  client : HasParted b w
  off : w.server.server.on ≡ false
  rack : w.server.server.rack ≡ b.server.server.rack
  ledger : w.server.server.ledger ≡ b.server.server.ledger
  session : (b.server.server.on ≡ false → b.server.server.session ≡ false) → w.server.server.session ≡ false

undone_left : (s : State) → (s ≡ State.Done → ⊥) → left_state s ≡ State.Apart
undone_left State.Done h = absurd (h refl)
undone_left State.Apart h = refl
undone_left State.Running h = refl
undone_left State.Failing h = refl
undone_left State.Aborting h = refl
undone_left State.Halted h = refl
undone_left State.Faulted h = refl

undone_rest : (s : State) → (s ≡ State.Done → ⊥) → IsAtRest s → s ≡ State.Apart
undone_rest State.Done h r = absurd (h refl)
undone_rest State.Apart h r = refl
undone_rest State.Running h r = absurd r
undone_rest State.Failing h r = absurd r
undone_rest State.Aborting h r = absurd r
undone_rest State.Halted h r = absurd r
undone_rest State.Faulted h r = absurd r

client_parts : (b : World) → IsCarried b → CanFinish b → HasParted b (after ClientLeaves b)
client_parts b k f = go b.client.client.on refl
  where
    off_rest : b.client.client.on ≡ false → IsOff (lined b k.up k.down) ⊎ IsLive (lined b k.up k.down) → b.client.client.state ≡ State.Apart
    off_rest e (inl off) = undone_rest b.client.client.state f.undone off.rest
    off_rest e (inr live) = absurd (false≢true (sym e ∙ live.on))

    go : (t : Bool) → b.client.client.on ≡ t → HasParted b (cond t (record b { client = end_left b.client }) b)
    go true e = record {
      carried = client_left_carried b k;
      apart = undone_left b.client.client.state f.undone;
      last = refl;
      kept = refl;
      window = refl;
      features = refl;
    }
    go false e = record {
      carried = k;
      apart = off_rest e k.inv.side;
      last = refl;
      kept = refl;
      window = refl;
      features = refl;
    }

-- the server was not touched so far
server_as : (b : World) → (after ClientLeaves b).server ≡ b.server
server_as b = go b.client.client.on
  where
    go : (t : Bool) → (cond t (record b { client = end_left b.client }) b).server ≡ b.server
    go true = refl
    go false = refl

server_parts : (b w : World) → HasParted b w → w.server ≡ b.server → IsParted b (after ServerLeaves w)
server_parts b w h is = go w.server.server.on refl
  where
    go : (t : Bool) → w.server.server.on ≡ t → IsParted b (cond t (record w { server = serving_left w.server }) w)
    go true e = record {
      client = record {
        carried = server_left_carried w h.carried;
        apart = h.apart;
        last = h.last;
        kept = h.kept;
        window = h.window;
        features = h.features;
      };
      off = refl;
      rack = ap (λ (s : ServerEnd). s.server.rack) is;
      ledger = ap (λ (s : ServerEnd). s.server.ledger) is;
      session = λ p. refl;
    }
    go false e = record {
      client = h;
      off = e;
      rack = ap (λ (s : ServerEnd). s.server.rack) is;
      ledger = ap (λ (s : ServerEnd). s.server.ledger) is;
      session = λ p. ap (λ (s : ServerEnd). s.server.session) is ∙ p (ap (λ (s : ServerEnd). s.server.on) (sym is) ∙ e);
    }

-- ---- both ends are on the next connection

-- the table of a client that begins the plan for what was left
abbrev pub begun : World → Table
begun b = record {
  standard = [];
  event = [];
  tally = record
      (no_tally (suc b.client.client.last) b.client.client.table.tally.features) { todo = plan_left b; unsent = plan_left b };
}

-- both ends are still on the next connection; the client begins the plan for what was left, and the server keeps what it kept
pub record IsRejoined (b w : World) : Type 0 where
  pub still : IsStill w
  pub running : w.client.client.state ≡ State.Running
  pub table : w.client.client.table ≡ begun b
  pub program : w.client.client.program ≡ b.client.client.program
  pub window : w.client.client.window ≡ b.client.client.window
  pub rack : w.server.server.rack ≡ b.server.server.rack
  pub ledger : w.server.server.ledger ≡ b.server.server.ledger
  pub error : w.server.server.error ≡ false
  pub session : (b.server.server.on ≡ false → b.server.server.session ≡ false) → w.server.server.session ≡ false

abbrev taken : World → ℕ → World
taken w n = record (connected w) { server = serving_accepted n w.server }

takes : (b w : World) → CanFinish b → IsParted b w
    → IsRejoined b (after (Accept (suc b.client.client.last)) (after Connect w))
takes b w f p =
    subst (λ (v : World). IsRejoined b (after (Accept n) v)) (sym (after_is Connect w may_connect))
    (subst (IsRejoined b) (sym (after_is (Accept n) (connected w) may_accept)) (record {
      still = record {
        joined = record {
          carried = happens_carried (Accept n) (connected w)
              (happens_carried Connect w p.client.carried may_connect) may_accept;
          on = refl;
          client_on = refl;
          same = ap suc (sym p.client.last);
          jobs = subst Rattle.protocol_model.proofs.quiet_run.Jobs.RunsJob (sym idle.running) tt;
        };
        up = ap (λ (l : Link). l.up) new_one;
        read = ap (λ (i : Framing). i.rest) (p.client.carried.at_rest p.off);
        running = idle.running;
        waiting = idle.waiting;
        down = ap (λ (i : ℕ). (link_of (w.links ++ no_link ∷ []) (suc i)).down) p.client.last ∙ ap (λ (l : Link). l.down) new_one;
        heard = refl;
      };
      running = refl;
      table = ap (λ (i : ℕ). (client_connected (suc i) w.client.client).table) p.client.last ∙ begins;
      program = p.client.kept;
      window = p.client.window;
      rack = p.rack;
      ledger = p.ledger;
      error = idle.error;
      session = p.session;
    }))
  where
    n : ℕ
    n = suc b.client.client.last

    idle : IsIdle w.server.server
    idle = p.client.carried.inv.idle p.off

    made : length w.links ≡ b.client.client.last
    made = p.client.carried.wired.made ∙ p.client.last

    new_one : link_of (w.links ++ no_link ∷ []) n ≡ no_link
    new_one = ap (λ (i : ℕ). link_of (w.links ++ no_link ∷ []) (suc i)) (sym made) ∙ link_new w.links no_link

    table_for : Meaning → List Feature → Table
    table_for q fs = record {
      standard = [];
      event = [];
      tally = record
          (no_tally n fs) { todo = plan q (length fs) Start.NewConnection; unsent = plan q (length fs) Start.NewConnection };
    }

    begins : (client_connected n w.client.client).table ≡ begun b
    begins = ap (λ (q : Meaning). table_for q w.client.client.table.tally.features) p.client.kept
        ∙ ap (table_for b.client.client.program) p.client.features

    may_connect : can Connect w ≡ true
    may_connect = ap (λ (s : State). is_apart s && nat_lt w.client.client.last connection_most) p.client.apart
        ∙ (ap (λ (i : ℕ). nat_lt i connection_most) p.client.last ∙ le-leb n connection_most f.connections)

    long : {k : ℕ} (l : List Link) → length l ≡ k → length (l ++ no_link ∷ []) ≡ suc k
    long [] e = ap suc e
    long (x ∷ l) e = ap suc (long l refl) ∙ ap suc e

    above : suc w.server.server.last ≤ n
    above = let le : w.server.server.last ≤ w.client.client.last = p.client.carried.inv.numbers in omega (arith, le, p.client.last)

    there : n ≤ length (w.links ++ no_link ∷ [])
    there = let e : length (w.links ++ no_link ∷ []) ≡ n = long w.links made in omega (arith, e)

    may_accept : can (Accept n) (connected w) ≡ true
    may_accept = ap (λ (t : Bool). not t && (nat_lt w.server.server.last n && nat_le n (length (w.links ++ no_link ∷ [])))) p.off
        ∙ (ap (λ (t : Bool). t && nat_le n (length (w.links ++ no_link ∷ []))) (le-leb (suc w.server.server.last) n above)
        ∙ le-leb n (length (w.links ++ no_link ∷ [])) there)

-- this holds if something is left to measure, and there is a connection
pub rejoins : (b : World) → IsCarried b → CanFinish b → IsRejoined b (rejoined b)
rejoins b k f = takes b _ f (server_parts b _ (client_parts b k f) (server_as b))
