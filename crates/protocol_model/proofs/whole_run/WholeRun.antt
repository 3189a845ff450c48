-- Every event, and every list of events, keeps what both ends with their bytes carry; and the claims that follow.
use Rattle.protocol_model.proofs.Names.{[], ◌∷◌, ◌≡◌, ◌≢◌, ◌≤◌, and_parts, arith, Bool, cond, Down, false, false≢true, IsProgram, Line, List, may_end}
use Rattle.protocol_model.proofs.Names.{Meaning, None, Option, refl, Sound, State, subst, suc, Told, true, Up, ℕ}
use Rattle.protocol_model.specs.World.{after, can, happens, run_of, start, World}
use Rattle.protocol_model.specs.declared.events.Event.{Event}
use Rattle.protocol_model.specs.declared.events.Event.TheVariants.{Accept, ClientSends, Connect, Machine, ServerReads, ServerTurn}
use Rattle.protocol_model.specs.declared.events.Event.TheVariants.{Abort, ClientLeaves, ClientReads, ClientRestart, Resume, ServerLeaves}
use Rattle.protocol_model.specs.declared.events.Event.TheVariants.{ServerRestart}
use Rattle.protocol_model.proofs.plan.Blocks.{program_is_plain}
use Rattle.protocol_model.proofs.whole_run.SameProgram.{run_same}
use Rattle.protocol_model.proofs.invariant.Served.{served_sound}
use Rattle.protocol_model.proofs.each_event.ClientEvents.{served_now, told_now, never_faulted}
use Rattle.protocol_model.proofs.each_event.ServerEvents.{not_nothing, on_by}
use Rattle.protocol_model.proofs.each_event.Whole.{start_holds}
use Rattle.protocol_model.proofs.whole_run.PlainServer.{plain_new}
use Rattle.protocol_model.proofs.whole_run.Carrying.{lined, IsCarried, reads_carried, turn_carried, machine_carried, up_carried, down_carried}
use Rattle.protocol_model.proofs.whole_run.CarryingClient.{connect_carried, accept_carried, client_left_carried, client_restart_carried}
use Rattle.protocol_model.proofs.whole_run.CarryingClient.{server_left_carried, server_restart_carried, sends_carried, abort_carried}
use Rattle.protocol_model.proofs.whole_run.CarryingClient.{resume_carried, hears_carried}

-- every event that can happen keeps what both ends with their bytes carry
pub happens_carried : (e : Event) (b : World) → IsCarried b → can e b ≡ true
    → IsCarried (happens e b)
happens_carried Connect b h can = connect_carried b h
happens_carried (Accept n) b h can = accept_carried b n h can
happens_carried ClientSends b h can = sends_carried b h can
happens_carried (Up k) b h can = up_carried b k h (and_parts _ _ can).0
happens_carried ServerReads b h can = let parts = and_parts _ _ can
    in reads_carried b h parts.0 (and_parts _ _ parts.1).1
happens_carried ServerTurn b h can =
    let parts = and_parts _ _ can in
    turn_carried b h (on_by (lined b h.up h.down) h.inv b.server.server.on refl (λ r e. not_nothing b.server.server.waiting parts.1 e)) can
happens_carried (Machine outcome) b h can =
    machine_carried b outcome h (on_by (lined b h.up h.down) h.inv b.server.server.on refl
    (λ r e. let no_end : may_end None outcome ≡ true = subst (λ (o : Option Line). may_end o outcome ≡ true) r can
    in false≢true no_end)) can
happens_carried (Down k) b h can = down_carried b k h (and_parts _ _ can).0
happens_carried ClientReads b h can = let parts = and_parts _ _ can
    in hears_carried b h parts.0 (and_parts _ _ parts.1).1
happens_carried ClientLeaves b h can = client_left_carried b h
happens_carried ServerLeaves b h can = server_left_carried b h
happens_carried Abort b h can = abort_carried b h can
happens_carried Resume b h can = resume_carried b h can
happens_carried (ClientRestart k) b h can = client_restart_carried b k h
happens_carried ServerRestart b h can = server_restart_carried b h

after_by : (e : Event) (b : World) → IsCarried b → (t : Bool) → can e b ≡ t
    → IsCarried (cond t (happens e b) b)
after_by e b h true is = happens_carried e b h is
after_by e b h false is = h

-- so does every list of events, where those that cannot happen change nothing
pub run_carried : (es : List Event) (b : World) → IsCarried b → IsCarried (run_of es b)
run_carried [] b h = h
run_carried (e ∷ es) b h = run_carried es (after e b) (after_by e b h (can e b) refl)

-- at the start no connection is made and no byte is there: with a window of at most 16, it all holds
pub start_carried : (p : Meaning) (rack : List (List ℕ)) (window : ℕ) → IsProgram p → window ≤ 16 → IsCarried (start p rack window)
start_carried p rack window program le = record {
  up = [];
  down = [];
  inv = start_holds p rack window (program_is_plain p program) le;
  client = record { program = program; drawn = omega arith; event_drawn = omega arith; unsent = tt; no_abort = tt };
  server = plain_new rack;
  client_out = refl;
  server_out = refl;
  client_fault = refl;
  server_fault = refl;
  at_rest = λ e. refl;
  wired = record {
    made = refl;
    numbers = omega arith;
    first = λ e. absurd (false≢true e);
    taken = λ e. absurd (false≢true e);
    lines = tt;
    replies = tt;
    down_is = λ e. absurd (false≢true e);
    newest_waits = λ lt. absurd (below lt);
    newest_serves = λ e. absurd (false≢true e);
    waits = λ k lt le. absurd (between k lt le);
    serves = λ e. absurd (false≢true e);
  };
}
  where
    below : suc 0 ≤ 0 → ⊥
    below h = omega arith

    between : (k : ℕ) → suc 0 ≤ k → k ≤ 0 → ⊥
    between k a b = omega arith

-- ---- the claims

-- whatever happens to both ends and their bytes, the features that the client holds are true of the server's acts
pub always_sound : (p : Meaning) (rack : List (List ℕ)) (window : ℕ) (es : List Event)
    → IsProgram p → window ≤ 16
    → Sound p.features (run_of es (start p rack window)).client.client.table.tally.features
    (run_of es (start p rack window)).server.server.ledger
always_sound p rack window es program le =
    let b : World = run_of es (start p rack window) in
    let h : IsCarried b = run_carried es (start p rack window) (start_carried p rack window program le) in
    subst (λ (q : Meaning). Sound q.features b.client.client.table.tally.features b.server.server.ledger)
    (run_same es (start p rack window))
    (served_sound b.client.client.program.features b.client.client.table.tally.features b.server.server.ledger
    (served_now (lined b h.up h.down) h.inv))

-- what the client has counted is then the prefix of what the server did on the connection that the client made last
pub always_told : (p : Meaning) (rack : List (List ℕ)) (window : ℕ) (es : List Event)
    → IsProgram p → window ≤ 16
    → Told (run_of es (start p rack window)).client.client.table.tally.counted
    (run_of es (start p rack window)).server.server.ledger (run_of es (start p rack window)).client.client.last
always_told p rack window es program le =
    let b : World = run_of es (start p rack window) in
    let h : IsCarried b = run_carried es (start p rack window) (start_carried p rack window program le) in
    let told = told_now (lined b h.up h.down) h.inv in
    record { more = told.0; whole = told.1 }

-- whatever happens to both ends and their bytes, the client is never Faulted
pub never_faulted_run : (p : Meaning) (rack : List (List ℕ)) (window : ℕ) (es : List Event)
    → IsProgram p → window ≤ 16
    → (run_of es (start p rack window)).client.client.state ≢ State.Faulted
never_faulted_run p rack window es program le =
    let b : World = run_of es (start p rack window) in
    let h : IsCarried b = run_carried es (start p rack window) (start_carried p rack window program le) in
    never_faulted (lined b h.up h.down) h.inv

-- the server never meets a line that is too long or a bad byte
pub no_framing_fault : (p : Meaning) (rack : List (List ℕ)) (window : ℕ) (es : List Event)
    → IsProgram p → window ≤ 16
    → (run_of es (start p rack window)).server.input.fault ≡ None
no_framing_fault p rack window es program le = (run_carried es (start p rack window)
    (start_carried p rack window program le)).server_fault
