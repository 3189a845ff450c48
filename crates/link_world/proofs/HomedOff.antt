-- A server after a list of its calls, off a connection: it is as it left that, and no act of it is on a later one.
use Rattle.link_world.proofs.Names.{[], ◌++◌, ◌<◌, ◌∷◌, ◌≡◌, ◌≤◌, Act, and_parts, AreFirstLines, AreUndisturbed, AreUpTo, arith, Bool, command_of}
use Rattle.link_world.proofs.Names.{cond, done_on, Err, Event, false, followed, Front, front_served, homed_lines, IsOff, IsProgram, length, Link}
use Rattle.link_world.proofs.Names.{List, ltb-true, machined_moves, Meaning, met, Moves, next_of, None, Ok, plan, read_moves, reading_of, refl}
use Rattle.link_world.proofs.Names.{run_of, Server, ServerEnd, serving_left, Some, Start, subst, sym, true, turned_moves, up_to_above, up_to_done}
use Rattle.link_world.proofs.Names.{up_to_join, ℕ}
use Rattle.server_core.specs.Calls.{Accept, behind_call, Call, done_by, Feed, Leave, Machine, possible, ReadOne, Restart, Sent, Turn}
use Rattle.server_core.specs.Calls.{behind_calls, reached}
use Rattle.server_core.proofs.Reached.{reached_steady}

-- no act is on a later connection than the last
abbrev IsBehind : ServerEnd → Type 0
IsBehind e = AreUpTo e.server.last e.server.ledger

moved : (s t : Server) (acts : List Act) → Moves s t acts → AreUpTo s.last s.ledger → AreUpTo t.last t.ledger
moved s t acts m h =
    let all : AreUpTo s.last (s.ledger ++ done_on s.last acts) = up_to_join s.last s.ledger (done_on s.last acts) h (up_to_done s.last acts)
    in
    subst (λ (n : ℕ). AreUpTo n t.ledger) (sym m.last) (subst (λ (l : List (ℕ × Act)). AreUpTo s.last l) (sym m.ledger) all)

front_behind : (e : ServerEnd) (f : Front) → IsBehind e → IsBehind (front_served e f)
front_behind e (Ok None) h = h
front_behind e (Ok (Some (line, rest))) h = moved e.server _ [] (read_moves e.server (reading_of (command_of line))) h
front_behind e (Err why) h = h

done_behind : (call : Call) (e : ServerEnd) → possible call e ≡ true → IsBehind e → IsBehind (done_by call e)
done_behind (Accept n) e may h =
    let parts = and_parts _ _ may in
    let numbers = and_parts _ _ parts.1 in
    up_to_above e.server.last n e.server.ledger (later e.server.last n (ltb-true _ _ numbers.0)) h
  where
    later : (m n : ℕ) → m < n → m ≤ n
    later m n lt = omega (arith, lt)
done_behind (Feed bytes) e may h = h
done_behind ReadOne e may h = front_behind e (next_of e.input.rest) h
done_behind Turn e may h = let m = turned_moves e.server in moved e.server _ m.0 m.1 h
done_behind (Machine ended) e may h = let m = machined_moves e.server ended in moved e.server _ m.0 m.1 h
done_behind Leave e may h = h
done_behind Restart e may h = h
done_behind (Sent count) e may h = h

call_behind : (call : Call) (e : ServerEnd) → IsBehind e → (b : Bool) → possible call e ≡ b
    → IsBehind (cond b (done_by call e) e)
call_behind call e h true may = done_behind call e may h
call_behind call e h false may = h

calls_behind : (calls : List Call) (e : ServerEnd) → IsBehind e → IsBehind (behind_calls calls e)
calls_behind [] e h = h
calls_behind (call ∷ calls) e h =
    calls_behind calls (behind_call call e) (call_behind call e h (possible call e) refl)

-- what a server that is on no connection would leave, it has left
left_is : (e : ServerEnd) → e.server.on ≡ false → IsOff e → serving_left e ≡ e
left_is e on off = sym (λ i. record {
  server = record (e.server) {
    on = on i;
    session = off.session i;
    frame = off.frame i;
    stored = off.stored i;
    error = off.error i;
    running = off.running i;
    waiting = off.waiting i;
  };
  input = off.input i;
  out = off.out i;
})

-- after its calls a server that is on no connection is as it left its last
pub off_is_left : (rack : List (List ℕ)) (calls : List Call) → (reached rack calls).server.on ≡ false
    → serving_left (reached rack calls) ≡ reached rack calls
off_is_left rack calls off = left_is (reached rack calls) off ((reached_steady rack calls).off off)

-- and if its machine is homed, it is not asked to home it again
pub homed_off_lines : (rack : List (List ℕ)) (calls : List Call)
    → (reached rack calls).server.homed ≡ true → (program : Meaning) (window : ℕ) (links : List Link) (events : List Event)
    → length links ≡ (reached rack calls).server.last → IsProgram program → window ≤ 16 → AreUndisturbed events
    → AreFirstLines (run_of events (met program window (reached rack calls) links)).written
    (followed true (plan program 0 Start.NewConnection))
homed_off_lines rack calls homed program window links events made is few quiet =
    homed_lines program window (reached rack calls) links events is few (record {
      homed = homed;
      made = made;
      ledger = calls_behind calls _ tt;
    }) quiet
