-- Every event keeps what always holds, and so does every list of events.
use Rattle.protocol_model.proofs.Names.{[], ◌∷◌, ◌≡◌, ◌≢◌, ◌≤◌, and_parts, arith, Bool, cond, false, false≢true, inl, IsProgram, List}
use Rattle.protocol_model.proofs.Names.{Meaning as Program, not, refl, ServerReadsOld, Sound, State, subst, Told, true, ℕ}
use Rattle.protocol_model.proofs.plan.Blocks.{IsPlain, program_is_plain}
use Rattle.protocol_model.specs.Typed.{Accept, ClientSends, Connect, Event, Machine, ServerReads, ServerTurn, World}
use Rattle.protocol_model.specs.Typed.{Abort, can, ClientLeaves, ClientReads, ClientRestart, Resume, ServerLeaves, ServerRestart, start}
use Rattle.protocol_model.specs.Typed.{after, happens, run_of}
use Rattle.protocol_model.proofs.invariant.Served.{served_sound}
use Rattle.protocol_model.proofs.invariant.Holding.{Inv}
use Rattle.protocol_model.proofs.each_event.ServerEvents.{reads_event, reads_old_event, turn_event, machine_event, accept_event, left_event}
use Rattle.protocol_model.proofs.each_event.ServerEvents.{restart_event}
use Rattle.protocol_model.proofs.each_event.ClientEvents.{served_now, told_now, never_faulted, connect_event, client_left_event, client_restart_event}
use Rattle.protocol_model.proofs.each_event.ClientWrites.{sends_event}
use Rattle.protocol_model.proofs.each_event.ClientResumes.{abort_event, resume_event}
use Rattle.protocol_model.proofs.each_event.Hearing.{hear_event}
use Rattle.protocol_model.proofs.each_event.Constant.{run_program}

not_true : (b : Bool) → not b ≡ true → b ≡ false
not_true false e = refl
not_true true e = absurd (false≢true e)

-- every event that can happen keeps all that holds
pub happens_keeps : (e : Event) (w : World) → Inv w → can e w ≡ true → Inv (happens e w)
happens_keeps Connect w inv can = connect_event w inv
happens_keeps (Accept n) w inv can = accept_event w n inv can
happens_keeps ClientSends w inv can = sends_event w inv can
happens_keeps ServerReads w inv can = let parts = and_parts _ _ can in reads_event w inv parts.0 parts.1
happens_keeps (ServerReadsOld reading) w inv can = let parts = and_parts _ _ can
    in reads_old_event w reading inv parts.0 (not_true _ parts.1)
happens_keeps ServerTurn w inv can = turn_event w inv can
happens_keeps (Machine outcome) w inv can = machine_event w outcome inv can
happens_keeps ClientReads w inv can = hear_event w inv can
happens_keeps ClientLeaves w inv can = client_left_event w inv
happens_keeps ServerLeaves w inv can = left_event w inv
happens_keeps Abort w inv can = abort_event w inv can
happens_keeps Resume w inv can = resume_event w inv can
happens_keeps (ClientRestart k) w inv can = client_restart_event w k inv
happens_keeps ServerRestart w inv can = restart_event w inv

after_by : (e : Event) (w : World) → Inv w → (b : Bool) → can e w ≡ b → Inv (cond b (happens e w) w)
after_by e w inv true is = happens_keeps e w inv is
after_by e w inv false is = inv

-- so does every list of events, where those that cannot happen change nothing
pub run_keeps : (es : List Event) (w : World) → Inv w → Inv (run_of es w)
run_keeps [] w inv = inv
run_keeps (e ∷ es) w inv = run_keeps es (after e w) (after_by e w inv (can e w) refl)

-- all of it holds at the start, where neither side was ever on a connection and the window is at most 16
pub start_holds : (p : Program) (rack : List (List ℕ)) (window : ℕ) → IsPlain p → window ≤ 16 → Inv (start p rack window)
start_holds p rack window program le = record {
  program = program;
  window = le;
  numbers = omega arith;
  ledger = tt;
  idle = λ e. record { running = refl; waiting = refl; error = refl };
  side = inl (record { off = refl; rest = tt; served = tt; told = ([], refl) });
}

-- ---- the claims

abbrev from_start : Program → List (List ℕ) → ℕ → List Event → World
from_start p rack window es = run_of es (start p rack window)

from_start_holds : (p : Program) (rack : List (List ℕ)) (window : ℕ) (es : List Event) → IsProgram p → window ≤ 16
    → Inv (from_start p rack window es)
from_start_holds p rack window es program le = run_keeps es (start p rack window)
    (start_holds p rack window (program_is_plain p program) le)

-- whatever happens from the start on, the features that the client holds are true of the server's acts
pub always_sound : (p : Program) (rack : List (List ℕ)) (window : ℕ) (es : List Event) → IsProgram p → window ≤ 16
    → Sound p.features (run_of es (start p rack window)).client.table.tally.features (run_of es (start p rack window)).server.ledger
always_sound p rack window es program le =
    let w : World = from_start p rack window es in
    subst (λ (q : Program). Sound q.features w.client.table.tally.features w.server.ledger) (run_program es (start p rack window))
    (served_sound w.client.program.features w.client.table.tally.features w.server.ledger
    (served_now w (from_start_holds p rack window es program le)))

-- what the client has counted is then the prefix of what the server did on the connection that the client made last
pub always_told : (p : Program) (rack : List (List ℕ)) (window : ℕ) (es : List Event) → IsProgram p → window ≤ 16
    → Told (run_of es (start p rack window)).client.table.tally.counted (run_of es (start p rack window)).server.ledger
    (run_of es (start p rack window)).client.last
always_told p rack window es program le =
    let told = told_now (from_start p rack window es) (from_start_holds p rack window es program le) in
    record { more = told.0; whole = told.1 }

-- and the client is never Faulted
pub never_disagree : (p : Program) (rack : List (List ℕ)) (window : ℕ) (es : List Event) → IsProgram p → window ≤ 16
    → (run_of es (start p rack window)).client.state ≢ State.Faulted
never_disagree p rack window es program le = never_faulted (from_start p rack window es) (from_start_holds p rack window es program le)
