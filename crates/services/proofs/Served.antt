-- A session's server stays one that was given just what was received.
use Rattle.std.proofs.Common.{◌+◌, ◌-◌, ◌≡◌, ◌<◌, ◌≤◌, ◌⊎◌, inl, inr, refl, sym, ap, subst, ◌∙◌, true≢false, ℕ, suc, Bool, true, false, Option, None, Some, List, [], ◌∷◌, ◌++◌, length, append-nil, append_assoc, length-append, arith, Bor}
use Rattle.std.proofs.lemmas.Bool.{and_from, le-leb, leb-false, leb-true, lt-ltb}
use Rattle.std.proofs.lemmas.List.{nil_from_length}
use Rattle.std.specs.Prelude.{⊤, ◌^◌, nat_le, nat_lt, ◌&&◌, not, Ok, Err, OnOk, OnErr, Result, is_err}
use Rattle.std.specs.Io.KnownBytes.{Consumes, Appends}
use Rattle.std.specs.List.{concat}
use Rattle.byte_ports.specs.Pieces.{PiecesValue, stored_piece}
use Rattle.contact_ledger.specs.Ledgers.{contact_count, connection_most}
use Rattle.line_framing.specs.Next.{Front, next_of}
use Rattle.link_world.proofs.ServerJoins.{serving_enough}
use Rattle.link_world.specs.Machines.{simulated}
use Rattle.link_world.specs.Pumps.{Stage as Step, Taking, Writing}
use Rattle.link_world.specs.ServerPumps.{ServerTurn, ServerMoved, ServerStopped, ServerWhy, begins as starts, takes, has, reads, knows, turns, ends, writes}
use Rattle.link_world.specs.declared.connections.pumps.Moved.{Moved}
use Rattle.link_world.specs.declared.connections.pumps.PumpFault.{PumpFault}
use Rattle.link_world.specs.declared.connections.pumps.PumpFault.TheVariants as fault
use Rattle.protocol_model.specs.Ends.{ServerEnd, new_server_end, front_served, serving_read, serving_turned, serving_machined, serving_accepted, serving_left}
use Rattle.protocol_model.specs.Lines.{reading_of}
use Rattle.protocol_model.specs.Readings.{command_of}
use Rattle.protocol_model.specs.declared.machine.Job.{Job}
use Rattle.protocol_model.specs.declared.machine.Outcome.{Outcome}
use Rattle.protocol_model.proofs.invariant.Moves.{read_moves, turned_moves, machined_moves}
use Rattle.protocol_model.specs.Server.{running_job}
use Rattle.server_core.specs.Serving.{may_accept, may_turn}
use Rattle.server_core.specs.declared.faults.ServerFault.{ServerFault}
use Rattle.effects.specs.Effects.{Reply, Done, Bytes, the_reply}
use Rattle.effects.specs.declared.vocabulary.Answer.{Answer}
use Rattle.effects.specs.declared.vocabulary.Answer.TheVariants as answer
use Rattle.services.specs.declared.stages.Stage.{Stage}
use Rattle.services.specs.Sessions.{State, Brings, Serves, StaysOn, Hears, due, due_at, left as gone}
use Rattle.services.specs.Serving.{Talk, Traffic, heard_more, GoesOnWith, IsBreak, may_leave, IsOfTurn, Served, begins, accepts, refuses, works, breaks, leaves, closes, loses, IsServing, IsAt, IsFree, is_over, no_traffic, passed}
use Rattle.tool_rack.specs.Setups.{SetupValue}

-- ---- a turn leaves the connection as it was: on or off, and with its number

abbrev pub IsSame : ServerEnd → ServerEnd → Type 0
IsSame e f = (f.server.on ≡ e.server.on) × (f.server.last ≡ e.server.last)

then_same : (e f g : ServerEnd) → IsSame e f → IsSame f g → IsSame e g
then_same e f g h k = (k.0 ∙ h.0, k.1 ∙ h.1)

front_same : (e : ServerEnd) (f : Front) → IsSame e (front_served e f)
front_same e (Ok None) = (refl, refl)
front_same e (Ok (Some (line, rest))) =
    ((read_moves e.server (reading_of (command_of line))).on, (read_moves e.server (reading_of (command_of line))).last)
front_same e (Err why) = (refl, refl)

turn_same : (answer : Job → ℕ → Outcome) (least : ℕ) (start : ServerEnd) (step : Step) (read written : List ℕ) (e : ServerEnd)
    → ServerTurn answer least start step read written e → IsSame start e
turn_same answer least start _ _ _ _ starts = (refl, refl)
turn_same answer least start _ _ _ _ (takes r may) = (refl, refl)
turn_same answer least start _ _ _ _ (has f r t enough) = turn_same answer least start _ _ _ f t
turn_same answer least start _ _ _ _ (reads f r t on is) = then_same start f (serving_read f) (turn_same answer least start _ _ _ f t)
    (front_same f (next_of f.input.rest))
turn_same answer least start _ _ _ _ (knows f r t none) = turn_same answer least start _ _ _ f t
turn_same answer least start _ _ _ _ (turns f r t may) = then_same start f (serving_turned f) (turn_same answer least start _ _ _ f t)
    ((turned_moves f.server).1.on, (turned_moves f.server).1.last)
turn_same answer least start _ _ _ _ (ends f r job t runs) =
    then_same start f (serving_machined (answer job (contact_count f.server.ledger)) f) (turn_same answer least start _ _ _ f t) (
      (machined_moves f.server (answer job (contact_count f.server.ledger))).1.on,
      (machined_moves f.server (answer job (contact_count f.server.ledger))).1.last,
    )
turn_same answer least start _ _ _ _ (writes f r count t none idle within) = turn_same answer least start _ _ _ f t

too_many : (n : ℕ) → n < suc n
too_many n = omega arith

fewer : (n most : ℕ) → suc n ≤ most → n ≤ most
fewer n most h = omega (arith, h)

no_more : (n most : ℕ) → most < suc n → suc n ≤ most → ⊥
no_more n most h k = omega (arith, h, k)

served_last : (setup : SetupValue) (over : Bool) (heard : List (List ℕ)) (written : List ℕ) (e : ServerEnd) → Served setup over heard written e
    → length heard ≤ connection_most → e.server.last ≡ length heard
served_last setup _ _ _ _ begins few = refl
served_last setup _ _ _ _ (accepts heard written e s may) few = refl
served_last setup _ _ _ _ (refuses heard written e s many) few = absurd (no_more (length heard) connection_most many few)
served_last setup _ _ _ _ (works heard bytes written piece more e f s t none) few =
    (turn_same (simulated setup.shifts) (length piece) e Writing piece more f t).1 ∙ served_last setup false (bytes ∷ heard) written e s few
served_last setup _ _ _ _ (breaks heard bytes written read rest more step why e f s t is) few =
    (turn_same (simulated setup.shifts) (length (read ++ rest)) e step read more f t).1 ∙ served_last setup false (bytes ∷ heard) written e s few
served_last setup _ _ _ _ (leaves over heard written e s) few = served_last setup over heard written e s few
served_last setup _ _ _ _ (closes heard written e s) few = served_last setup false heard written e s few
served_last setup _ _ _ _ (loses heard bytes written read rest more step e f s t) few =
    (turn_same (simulated setup.shifts) (length (read ++ rest)) e step read more f t).1 ∙ served_last setup false (bytes ∷ heard) written e s few

-- before the first connection it is on none
off_first : (setup : SetupValue) (over : Bool) (heard : List (List ℕ)) (written : List ℕ) (e : ServerEnd) → Served setup over heard written e
    → heard ≡ [] → e.server.on ≡ false
off_first setup _ _ _ _ begins is = refl
off_first setup _ _ _ _ (accepts heard written e s may) is = absurd cc
off_first setup _ _ _ _ (refuses heard written e s many) is = absurd cc
off_first setup _ _ _ _ (works heard bytes written piece more e f s t none) is = absurd cc
off_first setup _ _ _ _ (breaks heard bytes written read rest more step why e f s t is') is = absurd cc
off_first setup _ _ _ _ (leaves over heard written e s) is = refl
off_first setup _ _ _ _ (closes heard written e s) is = off_first setup false heard written e s is
off_first setup _ _ _ _ (loses heard bytes written read rest more step e f s t) is = absurd cc

-- ---- a piece is given to it

same_count : (piece : List ℕ) (heard : List (List ℕ)) → length (heard_more piece heard) ≡ length heard
same_count piece [] = refl
same_count piece (bytes ∷ heard) = refl

works_on : (setup : SetupValue) (heard : List (List ℕ)) (written piece more : List ℕ) (e f : ServerEnd) → e.server.on ≡ true
    → Served setup false heard written e → ServerTurn (simulated setup.shifts) (length piece) e Writing piece more f → f.out ≡ []
    → Served setup false (heard_more piece heard) (written ++ more) f
works_on setup [] written piece more e f on s t none = absurd (true≢false (sym on ∙ off_first setup false [] written e s refl))
works_on setup (bytes ∷ heard) written piece more e f on s t none = works heard bytes written piece more e f s t none

breaks_on : (setup : SetupValue) (heard : List (List ℕ)) (written read rest more : List ℕ) (step : Step) (why : PumpFault ServerFault) (e f : ServerEnd)
    → e.server.on ≡ true → Served setup false heard written e → ServerTurn (simulated setup.shifts) (length (read ++ rest)) e step read more f
    → IsBreak why (length read + length e.input.rest) (length more) f → Served setup false (heard_more (read ++ rest) heard) written (serving_left f)
breaks_on setup [] written read rest more step why e f on s t is = absurd (true≢false (sym on ∙ off_first setup false [] written e s refl))
breaks_on setup (bytes ∷ heard) written read rest more step why e f on s t is = breaks heard bytes written read rest more step why e f s t is

loses_on : (setup : SetupValue) (heard : List (List ℕ)) (written read rest more : List ℕ) (step : Step) (e f : ServerEnd)
    → e.server.on ≡ true → Served setup false heard written e → ServerTurn (simulated setup.shifts) (length (read ++ rest)) e step read more f
    → Served setup true (heard_more (read ++ rest) heard) written (serving_left f)
loses_on setup [] written read rest more step e f on s t = absurd (true≢false (sym on ∙ off_first setup false [] written e s refl))
loses_on setup (bytes ∷ heard) written read rest more step e f on s t = loses heard bytes written read rest more step e f s t

-- a service that is not over may be so next
any_served : (setup : SetupValue) (over : Bool) (heard : List (List ℕ)) (written : List ℕ) (e : ServerEnd) → Served setup false heard written e
    → Served setup over heard written e
any_served setup true heard written e s = closes heard written e s
any_served setup false heard written e s = s

pub any_serving : (setup : SetupValue) (over : Bool) (t : Talk) (f : Traffic) → IsServing setup false t f → IsServing setup over t f
any_serving setup over t f s = record {
  machine = s.machine;
  number = s.number;
  written = s.written;
  served = any_served setup over f.heard s.written t.end s.served;
  said = s.said;
}

-- all of it was read
all_read : (piece : List ℕ) (left : Option (List ℕ)) (read : List ℕ) → Consumes (Some piece) left read → length piece ≤ length read → read ≡ piece
all_read piece None read c enough = absurd c
all_read piece (Some rest) read c enough =
    let count = ap length c ∙ length-append read rest in
    let none : length rest ≡ 0 = omega (arith, count, enough) in
    sym (c ∙ (ap (λ (l : List ℕ). read ++ l) (nil_from_length rest none) ∙ append-nil read))

taken_is : (taken : List ℕ) (written : List ℕ) → Appends (Some []) (Some taken) written → taken ≡ written
taken_is taken written is = is

one_piece : (piece : List ℕ) → concat (stored_piece piece) ≡ piece
one_piece [] = refl
one_piece (b ∷ piece) = append-nil (b ∷ piece)

-- a source of one piece
pub one_source : (old new : PiecesValue) (piece : List ℕ) → old.pieces ≡ [] → new ≡ record old { pieces = old.pieces ++ stored_piece piece }
    → Some (concat new.pieces) ≡ Some piece
one_source old new piece none is = ap (λ (p : PiecesValue). Some (concat p.pieces)) is
    ∙ (ap (λ (ps : List (List ℕ)). Some (concat (ps ++ stored_piece piece))) none ∙ ap Some (one_piece piece))

-- a session whose server has taken a turn with the piece
worked : (setup : SetupValue) (t u : Talk) (f : Traffic) (piece taken : List ℕ) (left : Option (List ℕ)) (moved : Moved)
    → ServerMoved (simulated t.shifts) (length piece) t.end u.end (Some piece) left (Some []) (Some taken) moved
    → simulated u.shifts ≡ simulated t.shifts → u.number ≡ t.number → u.out ≡ t.out ++ taken → t.end.server.on ≡ true
    → IsServing setup false t f → IsServing setup false u (record f { heard = heard_more piece f.heard })
worked setup t u f piece taken left moved m answers number out on s =
    let whole : m.read ≡ piece = all_read piece left m.read m.consumed
    (serving_enough (simulated t.shifts) (length piece) t.end m.read m.written u.end m.turn) in
    let turn : ServerTurn (simulated setup.shifts) (length piece) t.end Writing piece m.written u.end =
    subst (λ (l : List ℕ). ServerTurn (simulated setup.shifts) (length piece) t.end Writing l m.written u.end) whole
    (subst (λ (answer : Job → ℕ → Outcome). ServerTurn answer (length piece) t.end Writing m.read m.written u.end) s.machine m.turn) in
    record {
      machine = answers ∙ s.machine;
      number = number ∙ (s.number ∙ sym (same_count piece f.heard));
      written = s.written ++ m.written;
      served = works_on setup f.heard s.written piece m.written t.end u.end on s.served turn m.all;
      said = λ still. ap (λ (l : List ℕ). f.sent ++ l) (out ∙ ap (λ (l : List ℕ). t.out ++ l) (taken_is taken m.written m.appended))
          ∙ (sym (append_assoc f.sent t.out m.written) ∙ ap (λ (l : List ℕ). l ++ m.written) (s.said on));
    }

-- one that leaves its connection
pub left_serving : (setup : SetupValue) (over : Bool) (t u : Talk) (f : Traffic) → u.end ≡ serving_left t.end
    → simulated u.shifts ≡ simulated t.shifts → u.number ≡ t.number → IsServing setup over t f → IsServing setup over u f
left_serving setup over t u f end answers number s = record {
  machine = answers ∙ s.machine;
  number = number ∙ s.number;
  written = s.written;
  served = subst (λ (e : ServerEnd). Served setup over f.heard s.written e) (sym end) (leaves over f.heard s.written t.end s.served);
  said = λ still. absurd (true≢false (sym still ∙ ap (λ (e : ServerEnd). e.server.on) end));
}

-- one that has left within a turn, after the first bytes of the piece
off_now : (setup : SetupValue) (over : Bool) (t u : Talk) (f : Traffic) (piece : List ℕ) (last : ServerEnd)
    → u.end ≡ serving_left last → simulated u.shifts ≡ simulated t.shifts → u.number ≡ t.number
    → (s : IsServing setup false t f) → Served setup over (heard_more piece f.heard) s.written (serving_left last)
    → IsServing setup over u (record f { heard = heard_more piece f.heard })
off_now setup over t u f piece last end answers number s left = record {
  machine = answers ∙ s.machine;
  number = number ∙ (s.number ∙ sym (same_count piece f.heard));
  written = s.written;
  served = subst (λ (e : ServerEnd). Served setup over (heard_more piece f.heard) s.written e) (sym end) left;
  said = λ still. absurd (true≢false (sym still ∙ ap (λ (e : ServerEnd). e.server.on) end));
}

-- before any of it was read
unheard : (setup : SetupValue) (t u : Talk) (f : Traffic) (piece : List ℕ) → u.end ≡ serving_left t.end
    → simulated u.shifts ≡ simulated t.shifts → u.number ≡ t.number → t.end.server.on ≡ true
    → IsServing setup false t f → IsServing setup true u (record f { heard = heard_more piece f.heard })
unheard setup t u f piece end answers number on s = off_now setup true t u f piece t.end end answers number s
    (loses_on setup f.heard s.written [] piece [] Taking t.end t.end on s.served starts)

record Halves (piece read : List ℕ) : Type 0 where
  rest : List ℕ
  parts : piece ≡ read ++ rest

halves : (piece : List ℕ) (left : Option (List ℕ)) (read lost : List ℕ) → Consumes (Some piece) left (read ++ lost) → Halves piece read
halves piece None read lost c = absurd c
halves piece (Some rest) read lost c = record { rest = lost ++ rest; parts = c ∙ append_assoc read lost rest }

-- the turn of a server that has stopped, by the machine of its setup
stopped_turn : (setup : SetupValue) (t : Talk) (f : Traffic) (piece read rest more : List ℕ) (step : Step) (last : ServerEnd)
    → IsServing setup false t f → piece ≡ read ++ rest → ServerTurn (simulated t.shifts) (length piece) t.end step read more last
    → ServerTurn (simulated setup.shifts) (length (read ++ rest)) t.end step read more last
stopped_turn setup t f piece read rest more step last s parts turn =
    subst (λ (answer : Job → ℕ → Outcome). ServerTurn answer (length (read ++ rest)) t.end step read more last) s.machine
    (subst (λ (l : List ℕ). ServerTurn (simulated t.shifts) (length l) t.end step read more last) parts turn)

-- a turn that has stopped for this reason
stopped : (setup : SetupValue) (t u : Talk) (f : Traffic) (piece : List ℕ) (left taken : Option (List ℕ)) (why : PumpFault ServerFault)
    → (h : ServerStopped (simulated t.shifts) (length piece) (2 ^ 64 - 1) t.end u.end (Some piece) left (Some []) taken why)
    → (ServerWhy (length piece) (2 ^ 64 - 1) (length h.read) (length h.written) (length t.end.input.rest) left h.last why
    → IsBreak why (length h.read + length t.end.input.rest) (length h.written) h.last)
    → simulated u.shifts ≡ simulated t.shifts → u.number ≡ t.number → t.end.server.on ≡ true → IsServing setup false t f
    → IsServing setup false u (record f { heard = heard_more piece f.heard })
stopped setup t u f piece left taken why h b answers number on s =
    let two : Halves piece h.read = halves piece left h.read h.lost h.consumed in
    off_now setup false t u f piece h.last h.leaves answers number s
    (subst (λ (l : List ℕ). Served setup false (heard_more l f.heard) s.written (serving_left h.last)) (sym two.parts)
    (breaks_on setup f.heard s.written h.read two.rest h.written h.stage why t.end h.last on s.served
    (stopped_turn setup t f piece h.read two.rest h.written h.stage h.last s two.parts h.turn) (b h.why)))

-- or for memory
stopped_over : (setup : SetupValue) (t u : Talk) (f : Traffic) (piece : List ℕ) (left taken : Option (List ℕ)) (why : PumpFault ServerFault)
    (last : ServerEnd) → ServerStopped (simulated t.shifts) (length piece) (2 ^ 64 - 1) t.end last (Some piece) left (Some []) taken why
    → u.end ≡ serving_left last → simulated u.shifts ≡ simulated t.shifts → u.number ≡ t.number → t.end.server.on ≡ true
    → IsServing setup false t f → IsServing setup true u (record f { heard = heard_more piece f.heard })
stopped_over setup t u f piece left taken why last h end answers number on s =
    let two : Halves piece h.read = halves piece left h.read h.lost h.consumed in
    let w : Talk = record { end = last; shifts = t.shifts; number = t.number; out = t.out } in
    left_serving setup true w u (record f { heard = heard_more piece f.heard }) end answers number
    (off_now setup true t w f piece h.last h.leaves refl refl s
    (subst (λ (l : List ℕ). Served setup true (heard_more l f.heard) s.written (serving_left h.last)) (sym two.parts)
    (loses_on setup f.heard s.written h.read two.rest h.written h.stage t.end h.last on s.served
    (stopped_turn setup t f piece h.read two.rest h.written h.stage h.last s two.parts h.turn))))

-- memory has run out after a turn: its answers are not sent
worked_off : (setup : SetupValue) (t u : Talk) (f : Traffic) (piece taken : List ℕ) (left : Option (List ℕ)) (moved : Moved) (last : ServerEnd)
    → ServerMoved (simulated t.shifts) (length piece) t.end last (Some piece) left (Some []) (Some taken) moved
    → u.end ≡ serving_left last → simulated u.shifts ≡ simulated t.shifts → u.number ≡ t.number → t.end.server.on ≡ true
    → IsServing setup false t f → IsServing setup true u (record f { heard = heard_more piece f.heard })
worked_off setup t u f piece taken left moved last m end answers number on s =
    let w : Talk = record { end = last; shifts = t.shifts; number = t.number; out = t.out ++ taken } in
    left_serving setup true w u (record f { heard = heard_more piece f.heard }) end answers number
    (any_serving setup true w (record f { heard = heard_more piece f.heard }) (worked setup t w f piece taken left moved m refl refl refl on s))

-- ---- the ways of a turn with a piece

-- a fault of a turn breaks its connection off
told : (least read written held : ℕ) (left : Option (List ℕ)) (e : ServerEnd) (why : PumpFault ServerFault) → IsOfTurn why
    → ServerWhy least (2 ^ 64 - 1) read written held left e why → IsBreak why (read + held) written e
told least read written held left e (fault.Core why) is = λ w. w
told least read written held left e fault.TurnsSpent is = λ w. w
told least read written held left e fault.Memory is = absurd is
told least read written held left e fault.ReadFailed is = absurd is
told least read written held left e fault.WriteFailed is = absurd is
told least read written held left e fault.Ended is = absurd is

pub on_err : {A E : Type 0} (r : Result A E) (P : Type 0) → P → OnErr r P
on_err (Ok a) P p = tt
on_err (Err e) P p = p

pub on_ok : {A E : Type 0} (r : Result A E) (P Q : Type 0) → (P → Q) → OnOk r P → OnOk r Q
on_ok (Ok a) P Q f p = f p
on_ok (Err e) P Q f p = tt

pub all_ok : {A E : Type 0} (r : Result A E) (P : Type 0) → P → OnOk r P
all_ok (Ok a) P p = p
all_ok (Err e) P p = tt

now_moved : (answer : Job → ℕ → Outcome) (least : ℕ) (e f : ServerEnd) (piece : List ℕ) (from left sent taken : Option (List ℕ)) (moved : Moved)
    → from ≡ Some piece → sent ≡ Some [] → ServerMoved answer least e f from left sent taken moved
    → ServerMoved answer least e f (Some piece) left (Some []) taken moved
now_moved answer least e f piece from left sent taken moved from_is sent_is m =
    subst (λ (x : Option (List ℕ)). ServerMoved answer least e f x left (Some []) taken moved) from_is
    (subst (λ (x : Option (List ℕ)). ServerMoved answer least e f from left x taken moved) sent_is m)

now_stopped : (answer : Job → ℕ → Outcome) (least : ℕ) (e f : ServerEnd) (piece : List ℕ) (from left sent taken : Option (List ℕ))
    (why : PumpFault ServerFault) → from ≡ Some piece → sent ≡ Some [] → ServerStopped answer least (2 ^ 64 - 1) e f from left sent taken why
    → ServerStopped answer least (2 ^ 64 - 1) e f (Some piece) left (Some []) taken why
now_stopped answer least e f piece from left sent taken why from_is sent_is h =
    subst (λ (x : Option (List ℕ)). ServerStopped answer least (2 ^ 64 - 1) e f x left (Some []) taken why) from_is
    (subst (λ (x : Option (List ℕ)). ServerStopped answer least (2 ^ 64 - 1) e f from left x taken why) sent_is h)

pub moved_hears : (t u : Talk) (piece taken : List ℕ) (from left sent : Option (List ℕ)) (moved : Moved) → from ≡ Some piece → sent ≡ Some []
    → ServerMoved (simulated t.shifts) (length piece) t.end u.end from left sent (Some taken) moved
    → simulated u.shifts ≡ simulated t.shifts → u.number ≡ t.number → u.out ≡ t.out ++ taken → Hears false t piece u
moved_hears t u piece taken from left sent moved from_is sent_is m answers number out = λ on setup f s.
    worked setup t u f piece taken left moved
    (now_moved (simulated t.shifts) (length piece) t.end u.end piece from left sent (Some taken) moved from_is sent_is m) answers number out on s

pub moved_lost : (t u : Talk) (last : ServerEnd) (piece taken : List ℕ) (from left sent : Option (List ℕ)) (moved : Moved) → from ≡ Some piece
    → sent ≡ Some [] → ServerMoved (simulated t.shifts) (length piece) t.end last from left sent (Some taken) moved
    → u.end ≡ serving_left last → simulated u.shifts ≡ simulated t.shifts → u.number ≡ t.number → Hears true t piece u
moved_lost t u last piece taken from left sent moved from_is sent_is m end answers number = λ on setup f s.
    worked_off setup t u f piece taken left moved last
    (now_moved (simulated t.shifts) (length piece) t.end last piece from left sent (Some taken) moved from_is sent_is m) end answers number on s

pub stopped_hears : (t u : Talk) (piece : List ℕ) (from left sent taken : Option (List ℕ)) (why : PumpFault ServerFault) → from ≡ Some piece
    → sent ≡ Some [] → IsOfTurn why → ServerStopped (simulated t.shifts) (length piece) (2 ^ 64 - 1) t.end u.end from left sent taken why
    → simulated u.shifts ≡ simulated t.shifts → u.number ≡ t.number → Hears false t piece u
stopped_hears t u piece from left sent taken why from_is sent_is of h answers number = λ on setup f s.
    let g = now_stopped (simulated t.shifts) (length piece) t.end u.end piece from left sent taken why from_is sent_is h in
    stopped setup t u f piece left taken why g
    (told (length piece) (length g.read) (length g.written) (length t.end.input.rest) left g.last why of) answers number on s

pub stopped_lost : (t u : Talk) (last : ServerEnd) (piece : List ℕ) (from left sent taken : Option (List ℕ)) (why : PumpFault ServerFault)
    → from ≡ Some piece → sent ≡ Some []
    → ServerStopped (simulated t.shifts) (length piece) (2 ^ 64 - 1) t.end last from left sent taken why
    → u.end ≡ serving_left last → simulated u.shifts ≡ simulated t.shifts → u.number ≡ t.number → Hears true t piece u
stopped_lost t u last piece from left sent taken why from_is sent_is h end answers number = λ on setup f s.
    stopped_over setup t u f piece left taken why last
    (now_stopped (simulated t.shifts) (length piece) t.end last piece from left sent taken why from_is sent_is h) end answers number on s

pub unheard_lost : (t u : Talk) (piece : List ℕ) → u.end ≡ serving_left t.end → simulated u.shifts ≡ simulated t.shifts → u.number ≡ t.number
    → Hears true t piece u
unheard_lost t u piece end answers number = λ on setup f s. unheard setup t u f piece end answers number on s

-- the connection continues after a whole turn, or has broken off
pub moved_on : (t u : Talk) (piece : List ℕ) (from left sent taken : Option (List ℕ)) (moved : Moved)
    → ServerMoved (simulated t.shifts) (length piece) t.end u.end from left sent taken moved → t.end.server.on ≡ true → u.end.server.on ≡ true
moved_on t u piece from left sent taken moved m on =
    (turn_same (simulated t.shifts) (length piece) t.end Writing m.read m.written u.end m.turn).0 ∙ on

pub broken_goes : (t u : Talk) (piece : List ℕ) (from left sent taken : Option (List ℕ)) (why : PumpFault ServerFault)
    → from ≡ Some piece → IsOfTurn why
    → ServerStopped (simulated t.shifts) (length piece) (2 ^ 64 - 1) t.end u.end from left sent taken why → GoesOnWith t piece u
broken_goes t u piece from left sent taken why from_is is h = λ on.
    let two : Halves piece h.read = halves piece left h.read h.lost
    (subst (λ (x : Option (List ℕ)). Consumes x left (h.read ++ h.lost)) from_is h.consumed) in
    inr (record {
      read = h.read;
      rest = two.rest;
      more = h.written;
      step = h.stage;
      why = why;
      last = h.last;
      parts = two.parts;
      turn = h.turn;
      is = told (length piece) (length h.read) (length h.written) (length t.end.input.rest) left h.last why is h.why;
      leaves = h.leaves;
    })

-- ---- a connection is taken

pub accepted : (setup : SetupValue) (t u : Talk) (f : Traffic) → u.number ≡ suc t.number → may_accept u.number t.end.server ≡ true
    → u.end ≡ serving_accepted u.number t.end → simulated u.shifts ≡ simulated t.shifts → u.out ≡ [] → IsServing setup false t f
    → IsServing setup false u (record { heard = [] ∷ f.heard; sent = [] })
accepted setup t u f number may end answers out s =
    let next : u.number ≡ suc (length f.heard) = number ∙ ap suc s.number in
    record {
      machine = answers ∙ s.machine;
      number = next;
      written = [];
      served = subst (λ (e : ServerEnd). Served setup false ([] ∷ f.heard) [] e) (sym (end ∙ ap (λ (n : ℕ). serving_accepted n t.end) next))
          (accepts f.heard s.written t.end s.served (subst (λ (n : ℕ). may_accept n t.end.server ≡ true) next may));
      said = λ on. out;
    }

may_by : (on : Bool) (last n most : ℕ) → on ≡ false → last < n → n ≤ most → (not on && (nat_lt last n && nat_le n most)) ≡ true
may_by true last n most off above few = absurd (true≢false off)
may_by false last n most off above few = and_from (nat_lt last n) (nat_le n most) (lt-ltb last n above) (le-leb n most few)

-- it is refused only if its number is too large
too_large : (setup : SetupValue) (heard : List (List ℕ)) (written : List ℕ) (e : ServerEnd) → Served setup false heard written e → e.server.on ≡ false
    → may_accept (suc (length heard)) e.server ≡ false → connection_most < suc (length heard)
too_large setup heard written e s off may = cases (nat_le (suc (length heard)) connection_most) refl
  where
    cases : (b : Bool) → nat_le (suc (length heard)) connection_most ≡ b → connection_most < suc (length heard)
    cases false is = leb-false (suc (length heard)) connection_most is
    cases true is =
        let few : suc (length heard) ≤ connection_most = leb-true (suc (length heard)) connection_most is in
        absurd (true≢false (sym (may_by e.server.on e.server.last (suc (length heard)) connection_most off
        (subst (λ (n : ℕ). n < suc (length heard)) (sym (served_last setup false heard written e s (fewer (length heard) connection_most few)))
        (too_many (length heard))) few) ∙ may))

pub refused : (setup : SetupValue) (t u : Talk) (f : Traffic) → u.number ≡ suc t.number → may_accept u.number t.end.server ≡ false
    → u.end ≡ t.end → simulated u.shifts ≡ simulated t.shifts → t.end.server.on ≡ false → IsServing setup false t f
    → IsServing setup false u (record { heard = [] ∷ f.heard; sent = [] })
refused setup t u f number may end answers off s =
    let next : u.number ≡ suc (length f.heard) = number ∙ ap suc s.number in
    record {
      machine = answers ∙ s.machine;
      number = next;
      written = [];
      served = subst (λ (e : ServerEnd). Served setup false ([] ∷ f.heard) [] e) (sym end)
          (refuses f.heard s.written t.end s.served (too_large setup f.heard s.written t.end s.served off
          (subst (λ (n : ℕ). may_accept n t.end.server ≡ false) next may)));
      said = λ on. absurd (true≢false (sym on ∙ (ap (λ (e : ServerEnd). e.server.on) end ∙ off)));
    }

-- ---- it has done all that it had to do

abbrev IsDone : Step → ServerEnd → Type 0
IsDone Step.Working e = next_of e.input.rest ≡ Ok None
IsDone Step.Writing e = (next_of e.input.rest ≡ Ok None) × ((may_turn e.server ≡ false) × (running_job e.server ≡ None))
IsDone Step.Sending e = ⊤
IsDone Step.Taking e = ⊤
IsDone Step.Reading e = ⊤

turn_done : (answer : Job → ℕ → Outcome) (least : ℕ) (start : ServerEnd) (step : Step) (read written : List ℕ) (e : ServerEnd)
    → ServerTurn answer least start step read written e → IsDone step e
turn_done answer least start _ _ _ _ starts = tt
turn_done answer least start _ _ _ _ (takes r may) = tt
turn_done answer least start _ _ _ _ (has f r t enough) = tt
turn_done answer least start _ _ _ _ (reads f r t on is) = tt
turn_done answer least start _ _ _ _ (knows f r t none) = none
turn_done answer least start _ _ _ _ (turns f r t may) = turn_done answer least start _ _ _ f t
turn_done answer least start _ _ _ _ (ends f r job t runs) = turn_done answer least start _ _ _ f t
turn_done answer least start _ _ _ _ (writes f r count t none idle within) = (turn_done answer least start _ _ _ f t, (none, idle))

pub has_done : (setup : SetupValue) (over : Bool) (heard : List (List ℕ)) (written : List ℕ) (e : ServerEnd) → Served setup over heard written e
    → IsDone Writing e
has_done setup _ _ _ _ begins = (refl, (refl, refl))
has_done setup _ _ _ _ (accepts heard written e s may) = has_done setup false heard written e s
has_done setup _ _ _ _ (refuses heard written e s many) = has_done setup false heard written e s
has_done setup _ _ _ _ (works heard bytes written piece more e f s t none) = turn_done (simulated setup.shifts) (length piece) e Writing piece more f t
has_done setup _ _ _ _ (breaks heard bytes written read rest more step why e f s t is) = (refl, (refl, refl))
has_done setup _ _ _ _ (leaves over heard written e s) = (refl, (refl, refl))
has_done setup _ _ _ _ (closes heard written e s) = has_done setup false heard written e s
has_done setup _ _ _ _ (loses heard bytes written read rest more step e f s t) = (refl, (refl, refl))

-- ---- what comes of an answer

pub new_served : (setup : SetupValue) (t : Talk) → t.end ≡ new_server_end setup.tools → t.shifts ≡ setup.shifts → t.number ≡ 0 → t.out ≡ []
    → IsServing setup false t no_traffic
new_served setup t end answers number out = record {
  machine = ap simulated answers;
  number = number;
  written = [];
  served = subst (λ (e : ServerEnd). Served setup false [] [] e) (sym end) begins;
  said = λ on. out;
}

-- answers that bring no traffic
abbrev pub BringsNone : Stage → Reply → Type 0
BringsNone st reply = (out : List ℕ) (f : Traffic) → passed st out reply f ≡ f

-- stages at which a service is not over
abbrev pub IsOpen : Stage → Type 0
IsOpen at = (next : Stage) → is_over (due_at at next) ≡ false

not_over : (setup : SetupValue) (s : State) (at : Stage) (f : Traffic) → s.stage ≡ at → IsOpen at → IsServing setup (is_over (due_at s.stage s.next)) s.talk f
    → IsServing setup false s.talk f
not_over setup s at f is opens h = subst (λ (b : Bool). IsServing setup b s.talk f)
    (ap (λ (x : Stage). is_over (due_at x s.next)) is ∙ opens s.next) h

brings_none : (setup : SetupValue) (over : Bool) (t : Talk) (st at : Stage) (reply : Reply) (f : Traffic) → st ≡ at → BringsNone at reply
    → (out : List ℕ) → IsServing setup over t f → IsServing setup over t (passed st out reply f)
brings_none setup over t st at reply f is none out s = subst (λ (g : Traffic). IsServing setup over t g)
    (sym (subst (λ (x : Stage). passed x out reply f ≡ f) (sym is) (none out f))) s

pub same_serves : (over : Bool) (s t : State) (at : Stage) (reply : Reply) → s.stage ≡ at → BringsNone at reply → IsOpen at → t.talk ≡ s.talk
    → Brings over s reply t
same_serves over s t at reply is none opens same = λ stands setup f h. brings_none setup over t.talk s.stage at reply f is none s.talk.out
    (subst (λ (x : Talk). IsServing setup over x f) (sym same) (any_serving setup over s.talk f (not_over setup s at f is opens h)))

pub left_serves : (over : Bool) (s t : State) (at : Stage) (reply : Reply) → s.stage ≡ at → BringsNone at reply → IsOpen at
    → t.talk ≡ record (s.talk) { end = serving_left s.talk.end } → Brings over s reply t
left_serves over s t at reply is none opens same = λ stands setup f h. brings_none setup over t.talk s.stage at reply f is none s.talk.out
    (left_serving setup over s.talk t.talk f (ap (λ (x : Talk). x.end) same) (ap (λ (x : Talk). simulated x.shifts) same)
    (ap (λ (x : Talk). x.number) same) (any_serving setup over s.talk f (not_over setup s at f is opens h)))

-- memory has run out after it: the connection is left, and the service is over
pub short_serves : (s t u : State) (reply : Reply) → Brings true s reply (gone t) → u.talk ≡ (gone t).talk → is_over (due u) ≡ true
    → Serves s reply u
short_serves s t u reply serves same over = λ stands setup f h.
    subst (λ (b : Bool). IsServing setup b u.talk (passed s.stage s.talk.out reply f)) (sym over)
    (subst (λ (x : Talk). IsServing setup true x (passed s.stage s.talk.out reply f)) (sym same) (serves stands setup f h))

-- a piece has come
pub heard_serves : (over : Bool) (s t : State) (piece : List ℕ) → s.stage ≡ Stage.Receiving → Hears over s.talk piece t.talk
    → Brings over s (Bytes piece) t
heard_serves over s t piece is hears = λ stands setup f h.
    subst (λ (x : Stage). IsServing setup over t.talk (passed x s.talk.out (Bytes piece) f)) (sym is)
    (hears (subst (λ (x : Stage). IsAt (due_at x s.next) s.talk) is stands).0 setup f (not_over setup s Stage.Receiving f is (λ next. refl) h))

-- all was sent
pub sent_serves : (over : Bool) (s t : State) → s.stage ≡ Stage.Sending → t.talk ≡ record (s.talk) { out = [] } → Brings over s Done t
sent_serves over s t is same = λ stands setup f h.
    let k = not_over setup s Stage.Sending f is (λ next. refl) h in
    subst (λ (x : Stage). IsServing setup over t.talk (passed x s.talk.out Done f)) (sym is)
    (any_serving setup over t.talk (record f { sent = f.sent ++ s.talk.out })
    (subst (λ (x : Talk). IsServing setup false x (record f { sent = f.sent ++ s.talk.out })) (sym same) (record {
      machine = k.machine;
      number = k.number;
      written = k.written;
      served = k.served;
      said = λ on. append-nil (f.sent ++ s.talk.out) ∙ k.said on;
    })))

-- a connection is taken, or refused
accepted_brings : (s t : State) → s.stage ≡ Stage.Accepting → (s.talk.number < 2 ^ 32 → t.talk.number ≡ suc s.talk.number)
    → may_accept t.talk.number s.talk.end.server ≡ true → t.talk.end ≡ serving_accepted t.talk.number s.talk.end
    → t.talk.shifts ≡ s.talk.shifts → t.talk.out ≡ [] → Brings false s Done t
accepted_brings s t is number may end answers out = λ stands setup f h.
    let free : IsFree s.talk = subst (λ (x : Stage). IsAt (due_at x s.next) s.talk) is stands in
    subst (λ (x : Stage). IsServing setup false t.talk (passed x s.talk.out Done f)) (sym is)
    (accepted setup s.talk t.talk f (number free.1) may end (ap simulated answers) out (not_over setup s Stage.Accepting f is (λ next. refl) h))

pub accepted_serves : (v s t : State) → v ≡ s → s.stage ≡ Stage.Accepting → (v.talk.number < 2 ^ 32 → t.talk.number ≡ suc v.talk.number)
    → may_accept t.talk.number v.talk.end.server ≡ true → t.talk.end ≡ serving_accepted t.talk.number v.talk.end
    → t.talk.shifts ≡ v.talk.shifts → t.talk.out ≡ [] → Brings false s Done t
accepted_serves v s t now is number may end answers out = subst (λ (x : State). Brings false x Done t) now
    (accepted_brings v t (ap (λ (x : State). x.stage) now ∙ is) number may end answers out)

refused_brings : (s t : State) → s.stage ≡ Stage.Accepting → (s.talk.number < 2 ^ 32 → t.talk.number ≡ suc s.talk.number)
    → may_accept t.talk.number s.talk.end.server ≡ false → t.talk.end ≡ s.talk.end → t.talk.shifts ≡ s.talk.shifts → Brings false s Done t
refused_brings s t is number may end answers = λ stands setup f h.
    let free : IsFree s.talk = subst (λ (x : Stage). IsAt (due_at x s.next) s.talk) is stands in
    subst (λ (x : Stage). IsServing setup false t.talk (passed x s.talk.out Done f)) (sym is)
    (refused setup s.talk t.talk f (number free.1) may end (ap simulated answers) free.0 (not_over setup s Stage.Accepting f is (λ next. refl) h))

pub refused_serves : (v s t : State) → v ≡ s → s.stage ≡ Stage.Accepting → (v.talk.number < 2 ^ 32 → t.talk.number ≡ suc v.talk.number)
    → may_accept t.talk.number v.talk.end.server ≡ false → t.talk.end ≡ v.talk.end → t.talk.shifts ≡ v.talk.shifts → Brings false s Done t
refused_serves v s t now is number may end answers = subst (λ (x : State). Brings false x Done t) now
    (refused_brings v t (ap (λ (x : State). x.stage) now ∙ is) number may end answers)

-- ---- the stages of a step

-- what holds of one stage, or of others
pub at_stage : (P : Stage → Type 0) (st a : Stage) → P a → st ≡ a → P st
at_stage P st a p is = subst P (sym is) p

pub or_stage : {X : Type 0} (P : Stage → Type 0) (st a : Stage) → P a → (X → P st) → (st ≡ a) ⊎ X → P st
or_stage P st a p other (inl is) = at_stage P st a p is
or_stage P st a p other (inr x) = other x

-- a service that is over stays so
lifts : (setup : SetupValue) (old new : Bool) (t : Talk) (f : Traffic) → (old ≡ true → new ≡ true) → IsServing setup old t f → IsServing setup new t f
lifts setup false new t f stays s = any_serving setup new t f s
lifts setup true new t f stays s = subst (λ (b : Bool). IsServing setup b t f) (sym (stays refl)) s

stays_serves : (over : Bool) (s t : State) (reply : Reply) → BringsNone s.stage reply → t.talk ≡ s.talk
    → (is_over (due s) ≡ true → over ≡ true) → Brings over s reply t
stays_serves over s t reply none same stays = λ stands setup f h. brings_none setup over t.talk s.stage s.stage reply f refl none s.talk.out
    (subst (λ (x : Talk). IsServing setup over x f) (sym same) (lifts setup (is_over (due s)) over s.talk f stays h))

-- and leaves its connection, if memory has run out
gone_brings : (s t : State) (reply : Reply) → Brings true s reply t → Brings true s reply (gone t)
gone_brings s t reply brings = λ stands setup f h.
    left_serving setup true t.talk (gone t).talk (passed s.stage s.talk.out reply f) refl refl refl (brings stands setup f h)

-- a step that changes nothing of its server
pub talk_serves : {A E : Type 0} (r : Result A E) (v s t : State) (reply : Reply) → v ≡ s → BringsNone v.stage reply → t.talk ≡ s.talk
    → OnOk r (is_over (due s) ≡ true → is_over (due t) ≡ true) → OnOk r (Serves s reply t)
talk_serves r v s t reply is none same stays = on_ok r (is_over (due s) ≡ true → is_over (due t) ≡ true) (Serves s reply t)
    (stays_serves (is_over (due t)) s t reply (subst (λ (x : State). BringsNone x.stage reply) is none) same) stays

pub talk_lost : {A E : Type 0} (r : Result A E) (v s t : State) (reply : Reply) → v ≡ s → BringsNone v.stage reply → t.talk ≡ s.talk
    → OnErr r (Brings true s reply (gone t))
talk_lost r v s t reply is none same = on_err r (Brings true s reply (gone t)) (gone_brings s t reply
    (stays_serves true s t reply (subst (λ (x : State). BringsNone x.stage reply) is none) same (λ was. refl)))

-- one that serves whether the service is over or not
brings_any : (over : Bool) (s t : State) (reply : Reply) → Brings false s reply t → Brings over s reply t
brings_any over s t reply brings = λ stands setup f h. any_serving setup over t.talk (passed s.stage s.talk.out reply f) (brings stands setup f h)

pub serves_ok : {A E : Type 0} (r : Result A E) (s t : State) (reply : Reply) → OnOk r (Brings false s reply t) → OnOk r (Serves s reply t)
serves_ok r s t reply = on_ok r (Brings false s reply t) (Serves s reply t) (brings_any (is_over (due t)) s t reply)

pub serves_lost : {A E : Type 0} (r : Result A E) (s t : State) (reply : Reply) → Brings false s reply t → OnErr r (Brings true s reply (gone t))
serves_lost r s t reply brings = on_err r (Brings true s reply (gone t)) (gone_brings s t reply (brings_any true s t reply brings))

-- what was heard before memory ran out
pub hears_ok : {A E : Type 0} (r : Result A E) (t u v : Talk) (piece : List ℕ) → Hears false t piece u → v ≡ u → OnOk r (Hears false t piece v)
hears_ok r t u v piece hears same = all_ok r (Hears false t piece v) (subst (λ (x : Talk). Hears false t piece x) (sym same) hears)

pub hears_lost : {A E : Type 0} (r : Result A E) (t u v : Talk) (piece : List ℕ) → Hears false t piece u
    → v ≡ record u { end = serving_left u.end } → OnErr r (Hears true t piece v)
hears_lost r t u v piece hears same = on_err r (Hears true t piece v) (λ on setup f s.
    left_serving setup true u v (record f { heard = heard_more piece f.heard }) (ap (λ (x : Talk). x.end) same)
    (ap (λ (x : Talk). simulated x.shifts) same) (ap (λ (x : Talk). x.number) same)
    (any_serving setup true u (record f { heard = heard_more piece f.heard }) (hears on setup f s)))

pub heard_ok : {A E : Type 0} (r : Result A E) (s t : State) (piece : List ℕ) → s.stage ≡ Stage.Receiving
    → OnOk r (Hears false s.talk piece t.talk) → OnOk r (Brings false s (Bytes piece) t)
heard_ok r s t piece is = on_ok r (Hears false s.talk piece t.talk) (Brings false s (Bytes piece) t) (heard_serves false s t piece is)

pub heard_lost : {A E : Type 0} (r : Result A E) (s t : State) (piece : List ℕ) → s.stage ≡ Stage.Receiving
    → OnErr r (Hears true s.talk piece t.talk) → OnErr r (Brings true s (Bytes piece) t)
heard_lost (Ok a) s t piece is h = tt
heard_lost (Err e) s t piece is h = heard_serves true s t piece is h

-- ---- a connection is left only where it may be

pub goes_ok : {A E : Type 0} (r : Result A E) (t u v : Talk) (piece : List ℕ) → GoesOnWith t piece u → v ≡ u → OnOk r (GoesOnWith t piece v)
goes_ok r t u v piece goes same = all_ok r (GoesOnWith t piece v) (subst (λ (x : Talk). GoesOnWith t piece x) (sym same) goes)

pub end_stays : {A E : Type 0} (r : Result A E) (s t : State) (reply : Reply) → t.talk.end ≡ s.talk.end → OnOk r (StaysOn s reply t)
end_stays r s t reply same = all_ok r (StaysOn s reply t) (λ on. inl (ap (λ (e : ServerEnd). e.server.on) same ∙ on))

pub on_stays : {A E : Type 0} (r : Result A E) (s t : State) (reply : Reply)
    → OnOk r (s.talk.end.server.on ≡ true → t.talk.end.server.on ≡ true) → OnOk r (StaysOn s reply t)
on_stays r s t reply = on_ok r (s.talk.end.server.on ≡ true → t.talk.end.server.on ≡ true) (StaysOn s reply t) (λ h on. inl (h on))

pub may_stay : {A E : Type 0} (r : Result A E) (s t : State) (at : Stage) (reply : Reply) → s.stage ≡ at → may_leave at reply ≡ true
    → OnOk r (StaysOn s reply t)
may_stay r s t at reply is may = all_ok r (StaysOn s reply t) (λ on. inr (inl (ap (λ (x : Stage). may_leave x reply) is ∙ may)))

pub heard_stays : {A E : Type 0} (r : Result A E) (s t : State) (piece : List ℕ) → OnOk r (GoesOnWith s.talk piece t.talk)
    → OnOk r (StaysOn s (Bytes piece) t)
heard_stays r s t piece = on_ok r (GoesOnWith s.talk piece t.talk) (StaysOn s (Bytes piece) t)
    (λ goes on. elim (goes on) [ inl still ↦ inl still | inr broken ↦ inr (inr (inl broken)) ])

pub over_stays : (s t : State) (reply : Reply) → is_over (due t) ≡ true → StaysOn s reply t
over_stays s t reply over = λ on. inr (inr (inr over))

-- ---- the parts of a step

-- a connection is taken, or all was sent, only if that is done
pub untaken : (a : Answer) → (a ≡ answer.Done → ⊥) → BringsNone Stage.Accepting (the_reply a)
untaken answer.Done not_done = absurd (not_done refl)
untaken (answer.Bytes bytes) not_done = λ out f. refl
untaken answer.End not_done = λ out f. refl
untaken answer.Missing not_done = λ out f. refl
untaken answer.Found not_done = λ out f. refl
untaken answer.Nothing not_done = λ out f. refl
untaken (answer.At ms) not_done = λ out f. refl
untaken (answer.Took count) not_done = λ out f. refl
untaken (answer.Failed why) not_done = λ out f. refl
untaken answer.Short not_done = λ out f. refl

-- an answer after which a connection is left
abbrev pub Loses : Stage → Reply → Type 0
Loses st reply = BringsNone st reply × (may_leave st reply ≡ true)

pub unsent : (a : Answer) → (a ≡ answer.Done → ⊥) → Loses Stage.Sending (the_reply a)
unsent answer.Done not_done = absurd (not_done refl)
unsent (answer.Bytes bytes) not_done = (λ out f. refl, refl)
unsent answer.End not_done = (λ out f. refl, refl)
unsent answer.Missing not_done = (λ out f. refl, refl)
unsent answer.Found not_done = (λ out f. refl, refl)
unsent answer.Nothing not_done = (λ out f. refl, refl)
unsent (answer.At ms) not_done = (λ out f. refl, refl)
unsent (answer.Took count) not_done = (λ out f. refl, refl)
unsent (answer.Failed why) not_done = (λ out f. refl, refl)
unsent answer.Short not_done = (λ out f. refl, refl)

pub unreceived : (a : Answer) → ((bytes : Bor (List ℕ)) → a ≡ answer.Bytes bytes → ⊥) → (a ≡ answer.Nothing → ⊥) → Loses Stage.Receiving (the_reply a)
unreceived answer.Done not_bytes not_nothing = (λ out f. refl, refl)
unreceived (answer.Bytes bytes) not_bytes not_nothing = absurd (not_bytes bytes refl)
unreceived answer.End not_bytes not_nothing = (λ out f. refl, refl)
unreceived answer.Missing not_bytes not_nothing = (λ out f. refl, refl)
unreceived answer.Found not_bytes not_nothing = (λ out f. refl, refl)
unreceived answer.Nothing not_bytes not_nothing = absurd (not_nothing refl)
unreceived (answer.At ms) not_bytes not_nothing = (λ out f. refl, refl)
unreceived (answer.Took count) not_bytes not_nothing = (λ out f. refl, refl)
unreceived (answer.Failed why) not_bytes not_nothing = (λ out f. refl, refl)
unreceived answer.Short not_bytes not_nothing = (λ out f. refl, refl)

-- at a stage at which the service is not over, an answer that brings nothing
pub open_serves : {A E : Type 0} (r : Result A E) (v s t : State) (reply : Reply) → v ≡ s → BringsNone v.stage reply × IsOpen v.stage
    → t.talk ≡ s.talk → OnOk r (Serves s reply t)
open_serves r v s t reply is quiet same =
    let now = subst (λ (x : State). BringsNone x.stage reply × IsOpen x.stage) is quiet in
    all_ok r (Serves s reply t) (same_serves (is_over (due t)) s t s.stage reply refl now.0 now.1 same)

-- a service that is over stays so, and one that is not may
pub over_goes : {A E : Type 0} (r : Result A E) (s t : State) → due s ≡ s.stage → (is_over s.stage ≡ true → OnOk r (is_over (due t) ≡ true))
    → OnOk r (is_over (due s) ≡ true → is_over (due t) ≡ true)
over_goes r s t plain over = cases (is_over s.stage) refl
  where
    cases : (b : Bool) → is_over s.stage ≡ b → OnOk r (is_over (due s) ≡ true → is_over (due t) ≡ true)
    cases true is = on_ok r (is_over (due t) ≡ true) (is_over (due s) ≡ true → is_over (due t) ≡ true) (λ now was. now) (over is)
    cases false is = all_ok r (is_over (due s) ≡ true → is_over (due t) ≡ true)
        (λ was. absurd (true≢false (sym was ∙ (ap is_over plain ∙ is))))

-- a step that has failed, or has not
pub of_err : {A E : Type 0} (r : Result A E) (P : Type 0) → is_err r ≡ true → OnErr r P → P
of_err (Ok a) P is p = absurd (true≢false (sym is))
of_err (Err e) P is p = p

pub of_ok : {A E : Type 0} (r : Result A E) (P : Type 0) → is_err r ≡ false → OnOk r P → P
of_ok (Ok a) P is p = p
of_ok (Err e) P is p = absurd (true≢false is)

-- memory has run out before a piece was given to the server
pub unheard_short : {A E : Type 0} (r : Result A E) (v s : State) (piece : List ℕ) → v ≡ s → OnErr r (Hears true s.talk piece (gone v).talk)
unheard_short r v s piece is = on_err r (Hears true s.talk piece (gone v).talk) (subst (λ (x : State). Hears true x.talk piece (gone v).talk) is
    (unheard_lost v.talk (gone v).talk piece refl refl refl))

-- likewise for the values that a session is opened with
pub gone_serves : (over : Bool) (v s t : State) (at : Stage) (reply : Reply) → v ≡ s → v.stage ≡ at → BringsNone at reply → IsOpen at
    → t.talk ≡ (gone v).talk → Brings over s reply t
gone_serves over v s t at reply now is none opens same = subst (λ (x : State). Brings over x reply t) now
    (left_serves over v t at reply is none opens same)

pub over_serves : (v s t : State) (reply : Reply) → v ≡ s → BringsNone v.stage reply → t.talk ≡ v.talk → Brings true s reply t
over_serves v s t reply now none same = subst (λ (x : State). Brings true x reply t) now (stays_serves true v t reply none same (λ was. refl))

pub may_go : (s t : State) (at : Stage) (reply : Reply) → s.stage ≡ at → may_leave at reply ≡ true → StaysOn s reply t
may_go s t at reply is may = λ on. inr (inl (ap (λ (x : Stage). may_leave x reply) is ∙ may))
