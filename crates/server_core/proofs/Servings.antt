-- What holds of a server at any time, as its calls keep it.
use Rattle.server_core.proofs.Names.{◌++◌, ◌∙◌, ◌≡◌, Answer, ap, AreStandard, command_of, ControllerValue, Err, false, false≢true, Framing}
use Rattle.server_core.proofs.Names.{FramingFault, Front, front_served, is_err, IsServing, IsSteady, List, may_accept, may_end, may_feed, may_turn}
use Rattle.server_core.proofs.Names.{new_server_end, next_of, Ok, OnErr, OnOk, Outcome, reading_of, reply_bytes, Result, Server, server_machined}
use Rattle.server_core.proofs.Names.{server_read, server_turned, ServerEnd, serving_accepted, serving_fed, serving_left, serving_restarted}
use Rattle.server_core.proofs.Names.{serving_taken, Some, subst, sym, true, with_answered, ℕ}
use Rattle.server_core.proofs.Steadies.{new_steady, accepted_steady, fed_steady, fault_steady, read_steady, turned_steady, machined_steady}
use Rattle.server_core.proofs.Steadies.{left_steady, restarted_steady, taken_steady}
use Rattle.server_core.proofs.Standards.{front_standard, turned_standard, machined_standard}

-- a server with its bytes, of which all holds that holds at any time
abbrev pub Holds : Server → Framing → List ℕ → Type 0
Holds s input out = IsServing (record { server = s; input = input; out = out })

pub new_holds : (tools : List (List ℕ)) → IsServing (new_server_end tools)
new_holds tools = record { steady = new_steady tools; standard = tt }

pub accepted_holds : (n : ℕ) (e : ServerEnd) → may_accept n e.server ≡ true → IsServing e → IsServing (serving_accepted n e)
accepted_holds n e may h = record { steady = accepted_steady n e may h.steady; standard = h.standard }

pub fed_holds : (bytes : List ℕ) (e : ServerEnd) → may_feed e ≡ true → IsServing e → IsServing (serving_fed bytes e)
fed_holds bytes e may h = record { steady = fed_steady bytes e may h.steady; standard = h.standard }

pub fault_holds : (e : ServerEnd) (why : FramingFault) → next_of e.input.rest ≡ Err why → e.server.on ≡ true → IsServing e
    → IsServing (record e { input = record (e.input) { fault = Some why } })
fault_holds e why is on h = record { steady = fault_steady e why is on h.steady; standard = h.standard }

pub left_holds : (e : ServerEnd) → IsServing e → IsServing (serving_left e)
left_holds e h = record { steady = left_steady e h.steady; standard = tt }

pub restarted_holds : (e : ServerEnd) → IsServing e → IsServing (serving_restarted e)
restarted_holds e h = record { steady = restarted_steady e h.steady; standard = tt }

pub taken_holds : (count : ℕ) (e : ServerEnd) → IsServing e → IsServing (serving_taken count e)
taken_holds count e h = record { steady = taken_steady count e h.steady; standard = h.standard }

-- an answer, or running out of memory, which changes nothing
answered_holds : {A B : Type 0} (r : Result A B) (b d : ControllerValue) (input : Framing) (out mid more : List ℕ) (a : Answer) → mid ≡ out
    → OnOk r (d ≡ with_answered b a) → OnOk r (more ≡ mid ++ reply_bytes a.said) → OnErr r (d ≡ b) → OnErr r (more ≡ mid)
    → Holds a.server input (out ++ reply_bytes a.said) → Holds b.server input out → Holds d.server input more
answered_holds (Ok x) b d input out mid more a room is said same silent after before =
    subst (λ (c : ControllerValue). Holds c.server input more) (sym is)
    (subst (λ (l : List ℕ). Holds a.server input l) (sym (said ∙ ap (λ (l : List ℕ). l ++ reply_bytes a.said) room)) after)
answered_holds (Err y) b d input out mid more a room is said same silent after before =
    subst (λ (c : ControllerValue). Holds c.server input more) (sym same)
    (subst (λ (l : List ℕ). Holds b.server input l) (sym (silent ∙ room)) before)

pub machined_holds : {A B : Type 0} (ended : Outcome) (r : Result A B) (b d : ControllerValue) (input : Framing) (out mid more : List ℕ)
    → OnOk r (d ≡ with_answered b (server_machined b.server ended))
    → OnOk r (more ≡ mid ++ reply_bytes (server_machined b.server ended).said)
    → OnErr r (d ≡ b) → OnErr r (more ≡ mid) → Holds b.server input out → mid ≡ out → may_end b.server.running ended ≡ true
    → Holds d.server input more
machined_holds ended r b d input out mid more is said same silent h room may =
    answered_holds r b d input out mid more (server_machined b.server ended) room is said same silent
    (record {
      steady = machined_steady ended (record { server = b.server; input = input; out = out }) may h.steady;
      standard = machined_standard b.server ended h.standard;
    }) h

pub turned_holds : {A B : Type 0} (r : Result A B) (b d : ControllerValue) (input : Framing) (out mid more : List ℕ)
    → OnOk r (d ≡ with_answered b (server_turned b.server)) → OnOk r (more ≡ mid ++ reply_bytes (server_turned b.server).said)
    → OnErr r (d ≡ b) → OnErr r (more ≡ mid) → Holds b.server input out → mid ≡ out → may_turn b.server ≡ true → Holds d.server input more
turned_holds r b d input out mid more is said same silent h room may =
    answered_holds r b d input out mid more (server_turned b.server) room is said same silent
    (record {
      steady = turned_steady (record { server = b.server; input = input; out = out }) may h.steady;
      standard = turned_standard b.server h.standard;
    }) h

-- a line that was read, and taken off the start of the bytes
pub read_holds : {A B : Type 0} (r : Result A B) (b d : ControllerValue) (input now left : Framing) (out mid more line rest : List ℕ)
    → OnOk r (d ≡ with_answered b (server_read b.server (reading_of (command_of line))))
    → OnOk r (more ≡ mid
    ++ reply_bytes (server_read b.server (reading_of (command_of line))).said)
    → left ≡ record now { rest = rest } → Holds b.server input out → mid ≡ out → now ≡ input → is_err r ≡ false
    → next_of now.rest ≡ Ok (Some (line, rest)) → b.server.on ≡ true → Holds d.server left more
read_holds (Err y) b d input now left out mid more line rest is said parts h room same no_error front on =
    absurd (false≢true (sym no_error))
read_holds (Ok x) b d input now left out mid more line rest is said parts h room same no_error front on =
    let e : ServerEnd = record { server = b.server; input = input; out = out } in
    let served : ServerEnd = front_served e (Ok (Some (line, rest))) in
    let steady : IsSteady served = subst (λ (f : Front). IsSteady (front_served e f))
    (sym (ap (λ (f : Framing). next_of f.rest) same) ∙ front) (read_steady e on h.steady) in
    let standard : AreStandard served.server.waiting = front_standard e (Ok (Some (line, rest))) h.standard in
    subst (λ (c : ControllerValue). Holds c.server left more) (sym is)
    (subst (λ (f : Framing). Holds served.server f more) (sym (parts ∙ ap (λ (f : Framing). record f { rest = rest }) same))
    (subst (λ (l : List ℕ). Holds served.server (record input { rest = rest }) l)
    (sym (said ∙ ap (λ (l : List ℕ). l ++ reply_bytes (server_read b.server (reading_of (command_of line))).said) room))
    (record { steady = steady; standard = standard })))
