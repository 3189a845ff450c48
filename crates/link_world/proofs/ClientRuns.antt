-- A client's turns one after another: what comes in and goes out in all of them.
use Rattle.link_world.proofs.Names.{[], ◌++◌, ◌+◌, ◌<◌, ◌≡◌, ◌≤◌, append-nil, append_assoc, Appends, Appends-nil, Appends-trans, arith, ClientEnd}
use Rattle.link_world.proofs.Names.{ClientFault, ClientMoved, ClientRan, ClientRun, ClientRunStopped, ClientRunWhy, ClientStopped, ClientTurn}
use Rattle.link_world.proofs.Names.{ClientWhy, Consumes, Consumes-nil, Consumes-trans, end_left, Err, false, Framing, Front, is_over, left_by, length}
use Rattle.link_world.proofs.Names.{length-append, List, Moved, next_of, None, Ok, Option, PumpFault, Reading, refl, Sending, sends, Some, Stage}
use Rattle.link_world.proofs.Names.{steps_most, subst, sym, Taking, turns_most, Working, Writing, ℕ}
use Rattle.link_world.specs.Pumps.{begins, has, reads, takes, writes}
use Rattle.link_world.specs.LinkRuns as run
use Rattle.link_world.proofs.ClientPumps.{longer, two_less}

-- ---- a client's turn

-- a prefix leaves no more than there was
pub left_fewer : (input : Framing) (f : Front) → next_of input.rest ≡ f → length (left_by f input).rest ≤ length input.rest
left_fewer input (Ok None) is = omega arith
left_fewer input (Ok (Some found)) is = let less = two_less input (Ok (Some found)) is refl in omega (arith, less)
left_fewer input (Err why) is = omega arith

-- no more is held than was held and came in
turn_held : (least : ℕ) (start : ClientEnd) (stage : Stage) (read written : List ℕ) (e : ClientEnd)
    → ClientTurn least start stage read written e → length e.input.rest ≤ length start.input.rest + length read
turn_held least start _ _ _ _ begins = omega arith
turn_held least start _ _ _ _ (sends e t is) = turn_held least start Sending [] [] e t
turn_held least start _ _ _ _ (writes e count t none within) = turn_held least start Sending [] [] e t
turn_held least start _ _ _ _ (takes e read written t out may) =
    let before = turn_held least start Writing [] written e t in
    let more = longer e.input.fault e.input.rest read in omega (arith, before, more)
turn_held least start _ _ _ _ (has e read written t enough) = turn_held least start Taking read written e t
turn_held least start _ _ _ _ (reads e read written t may is) =
    let before = turn_held least start Reading read written e t in
    let fewer = left_fewer e.input (next_of e.input.rest) refl in omega (arith, before, fewer)

-- as many bytes as were asked for have come in, once lines are read
abbrev Enough : Stage → ℕ → ℕ → Type 0
Enough Sending least count = Unit {0}
Enough Writing least count = Unit {0}
Enough Taking least count = Unit {0}
Enough Reading least count = least ≤ count
Enough Working least count = Unit {0}

turn_enough : (least : ℕ) (start : ClientEnd) (stage : Stage) (read written : List ℕ) (e : ClientEnd)
    → ClientTurn least start stage read written e → Enough stage least (length read)
turn_enough least start _ _ _ _ begins = tt
turn_enough least start _ _ _ _ (sends e t is) = tt
turn_enough least start _ _ _ _ (writes e count t none within) = tt
turn_enough least start _ _ _ _ (takes e read written t out may) = tt
turn_enough least start _ _ _ _ (has e read written t enough) = enough
turn_enough least start _ _ _ _ (reads e read written t may is) = turn_enough least start Reading read written e t

-- ---- turns of a client

-- the run so far: each turn had a byte, and no more is held than was held and came in
pub record ClientSoFar (turns : ℕ) (old now : ClientEnd) (left left_now taken taken_now : Option (List ℕ)) : Type 0 where
  pub read : List ℕ
  pub written : List ℕ
  pub run : ClientRun old left taken turns read written now left_now taken_now
  pub consumed : Consumes left left_now read
  pub appended : Appends taken taken_now written
  pub many : turns ≤ length read
  pub held : length now.input.rest ≤ length old.input.rest + length read

pub client_starts : (e : ClientEnd) (left taken : Option (List ℕ)) → ClientSoFar 0 e e left left taken taken
client_starts e left taken = record {
  read = [];
  written = [];
  run = run.starts;
  consumed = Consumes-nil left;
  appended = Appends-nil taken;
  many = omega arith;
  held = omega arith;
}

pub client_goes : (turns : ℕ) (old mid new : ClientEnd) (left left_mid left_now taken taken_mid taken_now : Option (List ℕ)) (moved : Moved)
    → ClientSoFar turns old mid left left_mid taken taken_mid → is_over mid.client.state ≡ false
    → ClientMoved 1 mid new left_mid left_now taken_mid taken_now moved → ClientSoFar (turns + 1) old new left left_now taken taken_now
client_goes turns old mid new left left_mid left_now taken taken_mid taken_now moved h going m = record {
  read = h.read ++ m.read;
  written = h.written ++ m.written;
  run = run.goes turns h.read h.written mid new left_mid left_now taken_mid taken_now moved h.run going m;
  consumed = Consumes-trans left left_mid left_now h.read m.read h.consumed m.consumed;
  appended = Appends-trans taken taken_mid taken_now h.written m.written h.appended m.appended;
  many = let some = turn_enough 1 mid Reading m.read m.written new turn in
      let many = h.many in let total = length-append h.read m.read in omega (arith, some, many, total);
  held = let then = turn_held 1 mid Reading m.read m.written new turn in
      let before = h.held in let total = length-append h.read m.read in omega (arith, then, before, total);
}
  where
    turn : ClientTurn 1 mid Reading m.read m.written new
    turn = m.turn

pub client_ran : (turns : ℕ) (old new : ClientEnd) (left left_now taken taken_now : Option (List ℕ))
    → ClientSoFar turns old new left left_now taken taken_now → turns ≤ turns_most → ClientRan old new left left_now taken taken_now
client_ran turns old new left left_now taken taken_now h few = record {
  turns = turns;
  read = h.read;
  written = h.written;
  run = h.run;
  few = few;
  consumed = h.consumed;
  appended = h.appended;
}

-- the fault of a turn is one of the run
why_of_run : (read written held r w held_now : ℕ) (left_now : Option (List ℕ)) (e : ClientEnd) (f : PumpFault ClientFault)
    → held_now ≤ held + read → ClientWhy 1 steps_most r w held_now left_now e f → ClientRunWhy (read + r) (written + w) held left_now e f
why_of_run read written held r w held_now left_now e PumpFault.ReadFailed most why = tt
why_of_run read written held r w held_now left_now e PumpFault.WriteFailed most why = tt
why_of_run read written held r w held_now left_now e PumpFault.Ended most why = why.1
why_of_run read written held r w held_now left_now e PumpFault.TurnsSpent most why = omega (arith, most, why)
why_of_run read written held r w held_now left_now e (PumpFault.Core cause) most why = why
why_of_run read written held r w held_now left_now e PumpFault.Memory most why = tt

pub client_stops : (turns : ℕ) (old mid new : ClientEnd) (left left_mid left_now taken taken_mid taken_now : Option (List ℕ))
    (f : PumpFault ClientFault) → ClientSoFar turns old mid left left_mid taken taken_mid → is_over mid.client.state ≡ false
    → turns < turns_most → ClientStopped 1 steps_most mid new left_mid left_now taken_mid taken_now f
    → ClientRunStopped old new left left_now taken taken_now f
client_stops turns old mid new left left_mid left_now taken taken_mid taken_now f h going few s = record {
  read = h.read ++ s.read;
  written = h.written ++ s.written;
  lost = s.lost;
  last = s.last;
  ends = run.stops turns h.read h.written mid left_mid taken_mid f h.run going few s;
  leaves = s.leaves;
  consumed = subst (Consumes left left_now) (sym (append_assoc h.read s.read s.lost))
      (Consumes-trans left left_mid left_now h.read (s.read ++ s.lost) h.consumed s.consumed);
  is_lost = s.is_lost;
  appended = Appends-trans taken taken_mid taken_now h.written s.written h.appended s.appended;
  why = subst (λ (r : ℕ). ClientRunWhy r (length (h.written ++ s.written)) (length old.input.rest) left_now s.last f)
      (sym (length-append h.read s.read))
      (subst (λ (w : ℕ). ClientRunWhy (length h.read + length s.read) w (length old.input.rest) left_now s.last f)
      (sym (length-append h.written s.written))
      (why_of_run (length h.read) (length h.written) (length old.input.rest) (length s.read) (length s.written) (length mid.input.rest)
      left_now s.last f h.held s.why));
}

pub client_spends : (turns : ℕ) (old last new : ClientEnd) (left left_now taken taken_now : Option (List ℕ))
    → ClientSoFar turns old last left left_now taken taken_now → is_over last.client.state ≡ false → turns ≡ turns_most
    → new ≡ end_left last → ClientRunStopped old new left left_now taken taken_now PumpFault.TurnsSpent
client_spends turns old last new left left_now taken taken_now h going all is = record {
  read = h.read;
  written = h.written;
  lost = [];
  last = last;
  ends = run.spends h.read h.written last
      (subst (λ (n : ℕ). ClientRun old left taken n h.read h.written last left_now taken_now) all h.run) going is;
  leaves = is;
  consumed = subst (Consumes left left_now) (sym (append-nil h.read)) h.consumed;
  is_lost = refl;
  appended = h.appended;
  why = let many = h.many in omega (arith, many, all);
}
