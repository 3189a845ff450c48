-- A server's turns one after another: what comes in and goes out in all of them.
use Rattle.link_world.proofs.Names.{[], ◌++◌, ◌+◌, ◌<◌, ◌↔◌, ◌≡◌, ◌≤◌, append-nil, append_assoc, Appends, Appends-nil, Appends-trans, arith, Consumes}
use Rattle.link_world.proofs.Names.{Consumes-nil, Consumes-trans, ends, Err, Front, front_served, IfErr, IsOk, Job, knows, length, length-append}
use Rattle.link_world.proofs.Names.{List, Moved, next_of, None, Ok, OnOk, Option, Outcome, PumpFault, Reading, refl, Result, rules, Sending}
use Rattle.link_world.proofs.Names.{ServerEnd, ServerFault, ServerMoved, ServerRun, ServerRunStopped, ServerRunWhy, ServerStopped, ServerTurn}
use Rattle.link_world.proofs.Names.{ServerWhy, serving_left, Some, Stage, steps_most, subst, sym, Taking, turns, turns_most, Working, Writing, ℕ}
use Rattle.link_world.specs.ServerPumps.{begins, has, reads, takes, writes}
use Rattle.link_world.specs.LinkRuns as run
use Rattle.link_world.proofs.ClientPumps.{longer}
use Rattle.link_world.proofs.ClientRuns.{left_fewer}

-- ---- a server's turn

-- a line that is read leaves no more than there was
served_fewer : (e : ServerEnd) (f : Front) → next_of e.input.rest ≡ f
    → length (front_served e f).input.rest ≤ length e.input.rest
served_fewer e (Ok None) is = omega arith
served_fewer e (Ok (Some (line, rest))) is = left_fewer e.input (Ok (Some (line, rest))) is
served_fewer e (Err why) is = omega arith

-- no more is held than was held and came in
turn_held : (answer : Job → ℕ → Outcome) (least : ℕ) (start : ServerEnd) (stage : Stage) (read written : List ℕ)
    (e : ServerEnd) → ServerTurn answer least start stage read written e
    → length e.input.rest ≤ length start.input.rest + length read
turn_held answer least start _ _ _ _ begins = omega arith
turn_held answer least start _ _ _ _ (takes read may) = longer start.input.fault start.input.rest read
turn_held answer least start _ _ _ _ (has e read t enough) = turn_held answer least start Taking read [] e t
turn_held answer least start _ _ _ _ (reads e read t on is) =
    let before = turn_held answer least start Reading read [] e t in
    let fewer = served_fewer e (next_of e.input.rest) refl in omega (arith, before, fewer)
turn_held answer least start _ _ _ _ (knows e read t none) = turn_held answer least start Reading read [] e t
turn_held answer least start _ _ _ _ (turns e read t may) = turn_held answer least start Working read [] e t
turn_held answer least start _ _ _ _ (ends e read job t is) = turn_held answer least start Working read [] e t
turn_held answer least start _ _ _ _ (writes e read count t still none within) =
    turn_held answer least start Working read [] e t

-- as many bytes as were asked for have come in, once lines are read
abbrev Enough : Stage → ℕ → ℕ → Type 0
Enough Taking least count = Unit {0}
Enough Sending least count = Unit {0}
Enough Reading least count = least ≤ count
Enough Working least count = least ≤ count
Enough Writing least count = least ≤ count

turn_enough : (answer : Job → ℕ → Outcome) (least : ℕ) (start : ServerEnd) (stage : Stage) (read written : List ℕ)
    (e : ServerEnd) → ServerTurn answer least start stage read written e → Enough stage least (length read)
turn_enough answer least start _ _ _ _ begins = tt
turn_enough answer least start _ _ _ _ (takes read may) = tt
turn_enough answer least start _ _ _ _ (has e read t enough) = enough
turn_enough answer least start _ _ _ _ (reads e read t on is) = turn_enough answer least start Reading read [] e t
turn_enough answer least start _ _ _ _ (knows e read t none) = turn_enough answer least start Reading read [] e t
turn_enough answer least start _ _ _ _ (turns e read t may) = turn_enough answer least start Working read [] e t
turn_enough answer least start _ _ _ _ (ends e read job t is) = turn_enough answer least start Working read [] e t
turn_enough answer least start _ _ _ _ (writes e read count t still none within) =
    turn_enough answer least start Working read [] e t

-- ---- turns of a server

-- the run so far: each turn had a byte, and no more is held than was held and came in
pub record ServerSoFar (answer : Job → ℕ → Outcome) (turns : ℕ) (old now : ServerEnd) (left left_now taken taken_now : Option (List ℕ))
    : Type 0
  where
    pub read : List ℕ
    pub written : List ℕ
    pub run : ServerRun answer old left taken turns read written now left_now taken_now
    pub consumed : Consumes left left_now read
    pub appended : Appends taken taken_now written
    pub many : turns ≤ length read
    pub held : length now.input.rest ≤ length old.input.rest + length read

pub server_starts : (answer : Job → ℕ → Outcome) (e : ServerEnd) (left taken : Option (List ℕ))
    → ServerSoFar answer 0 e e left left taken taken
server_starts answer e left taken = record {
  read = [];
  written = [];
  run = run.starts;
  consumed = Consumes-nil left;
  appended = Appends-nil taken;
  many = omega arith;
  held = omega arith;
}

pub server_goes : (answer now : Job → ℕ → Outcome) (n : ℕ) (old mid new : ServerEnd)
    (left left_mid left_now taken taken_mid taken_now : Option (List ℕ)) (moved : Moved)
    → ServerSoFar answer n old mid left left_mid taken taken_mid → now ≡ answer
    → ServerMoved now 1 mid new left_mid left_now taken_mid taken_now moved
    → ServerSoFar answer (n + 1) old new left left_now taken taken_now
server_goes answer now n old mid new left left_mid left_now taken taken_mid taken_now moved h same by = record {
  read = h.read ++ m.read;
  written = h.written ++ m.written;
  run = run.goes n h.read h.written mid new left_mid left_now taken_mid taken_now moved h.run m;
  consumed = Consumes-trans left left_mid left_now h.read m.read h.consumed m.consumed;
  appended = Appends-trans taken taken_mid taken_now h.written m.written h.appended m.appended;
  many = let some = turn_enough answer 1 mid Writing m.read m.written new turn in
      let many = h.many in let total = length-append h.read m.read in omega (arith, some, many, total);
  held = let then = turn_held answer 1 mid Writing m.read m.written new turn in
      let before = h.held in let total = length-append h.read m.read in omega (arith, then, before, total);
}
  where
    m : ServerMoved answer 1 mid new left_mid left_now taken_mid taken_now moved
    m = subst (λ (a : Job → ℕ → Outcome). ServerMoved a 1 mid new left_mid left_now taken_mid taken_now moved) same by

    turn : ServerTurn answer 1 mid Writing m.read m.written new
    turn = m.turn

-- the fault of a turn is one of the run
why_of_run : (read written held r w held_now : ℕ) (left_now : Option (List ℕ)) (e : ServerEnd) (f : PumpFault ServerFault)
    → held_now ≤ held + read → ServerWhy 1 steps_most r w held_now left_now e f → ServerRunWhy (read + r) (written + w) held left_now e f
why_of_run read written held r w held_now left_now e PumpFault.ReadFailed most why = tt
why_of_run read written held r w held_now left_now e PumpFault.WriteFailed most why = tt
why_of_run read written held r w held_now left_now e PumpFault.Ended most why = why.1
why_of_run read written held r w held_now left_now e PumpFault.TurnsSpent most why = omega (arith, most, why)
why_of_run read written held r w held_now left_now e (PumpFault.Core cause) most why = why
why_of_run read written held r w held_now left_now e PumpFault.Memory most why = tt

pub server_stops : (answer now : Job → ℕ → Outcome) (n : ℕ) (old mid new : ServerEnd)
    (left left_mid left_now taken taken_mid taken_now : Option (List ℕ)) (f : PumpFault ServerFault)
    → ServerSoFar answer n old mid left left_mid taken taken_mid → n < turns_most → now ≡ answer
    → ServerStopped now 1 steps_most mid new left_mid left_now taken_mid taken_now f
    → ServerRunStopped answer old new left left_now taken taken_now f
server_stops answer now n old mid new left left_mid left_now taken taken_mid taken_now f h few same by = record {
  read = h.read ++ s.read;
  written = h.written ++ s.written;
  lost = s.lost;
  last = s.last;
  ends = run.stops n h.read h.written mid left_mid taken_mid f h.run few s;
  leaves = s.leaves;
  consumed = subst (Consumes left left_now) (sym (append_assoc h.read s.read s.lost))
      (Consumes-trans left left_mid left_now h.read (s.read ++ s.lost) h.consumed s.consumed);
  is_lost = s.is_lost;
  appended = Appends-trans taken taken_mid taken_now h.written s.written h.appended s.appended;
  why = subst (λ (r : ℕ). ServerRunWhy r (length (h.written ++ s.written)) (length old.input.rest) left_now s.last f)
      (sym (length-append h.read s.read))
      (subst (λ (w : ℕ). ServerRunWhy (length h.read + length s.read) w (length old.input.rest) left_now s.last f)
      (sym (length-append h.written s.written))
      (why_of_run (length h.read) (length h.written) (length old.input.rest) (length s.read) (length s.written) (length mid.input.rest)
      left_now s.last f h.held s.why));
}
  where
    s : ServerStopped answer 1 steps_most mid new left_mid left_now taken_mid taken_now f
    s = subst (λ (a : Job → ℕ → Outcome). ServerStopped a 1 steps_most mid new left_mid left_now taken_mid taken_now f) same by

pub server_spends : (answer : Job → ℕ → Outcome) (n : ℕ) (old last new : ServerEnd) (left left_now taken taken_now : Option (List ℕ))
    → ServerSoFar answer n old last left left_now taken taken_now → n ≡ turns_most → new ≡ serving_left last
    → ServerRunStopped answer old new left left_now taken taken_now PumpFault.TurnsSpent
server_spends answer n old last new left left_now taken taken_now h all is = record {
  read = h.read;
  written = h.written;
  lost = [];
  last = last;
  ends = run.spends h.read h.written last
      (subst (λ (n : ℕ). ServerRun answer old left taken n h.read h.written last left_now taken_now) all h.run) is;
  leaves = is;
  consumed = subst (Consumes left left_now) (sym (append-nil h.read)) h.consumed;
  is_lost = refl;
  appended = h.appended;
  why = let many = h.many in omega (arith, many, all);
}

-- ---- how a run ends by the fault of a turn

pub is_ended : {A : Type 0} (r : Result A (PumpFault ServerFault)) (f : PumpFault ServerFault) (Is : PumpFault ServerFault → Type 0)
    → (IsOk r ↔ (f ≡ PumpFault.Ended)) → Is f → OnOk r (Is PumpFault.Ended)
is_ended (Ok x) f Is ended h = subst Is (ended.0 (search rules)) h
is_ended (Err e) f Is ended h = tt

pub is_stopped : {A : Type 0} (r : Result A (PumpFault ServerFault)) (f : PumpFault ServerFault) (Is : PumpFault ServerFault → Type 0)
    → IfErr r (λ e. e ≡ f) → Is f → IfErr r Is
is_stopped (Ok x) f Is same h = tt
is_stopped (Err e) f Is same h = subst Is (sym same) h
