-- The lines of a simulation, from what was played to the sink.
use Rattle.dme_orders.proofs.Names.{[], ◌++◌, ◌∙◌, ◌≡◌, ap, AreTraced, Bool, Err, false, IfOk, inl, inr, Instruction, IsShown, LeavesLines, List}
use Rattle.dme_orders.proofs.Names.{Meaning, None, Ok, OnErr, OnOk, Option, PlaysTraced, refl, report_text, Result, SetupValue, shown_of, ShowsLines}
use Rattle.dme_orders.proofs.Names.{simulated, Some, start, State, subst, sym, true, went, World, ℕ}
use Rattle.std.specs.Io.KnownBytes.{Appends}
use Rattle.byte_ports.specs.Transfers.{AppendsFront}
use Rattle.protocol_model.specs.declared.machine.Job.{Job}
use Rattle.protocol_model.specs.declared.machine.Outcome.{Outcome}
use Rattle.link_world.specs.Traces.{Ends, traced, TracesAll, TraceValue, undelivered}

-- a trace that is new
abbrev pub fresh : TraceValue
fresh = record { is_kept = true; taken = 0; text = [] }

-- what was played and ended
pub are_traced : (answer : Job → ℕ → Outcome) (is : List Instruction) (w v : World) (n t u : TraceValue) (text : List ℕ) → n ≡ fresh
    → PlaysTraced answer is false w v n t → Ends v t u → u.is_kept ≡ true → text ≡ u.text → 0 ≡ w.server.server.last
    → AreTraced answer is w v text
are_traced answer is w v n t u text new h ends kept same none =
    let end = ends kept in
    let played = h.traces end.0 in
    let all : TracesAll h.events w n t = played.1 (ap (λ (x : TraceValue). x.taken) new ∙ none) in record {
      events = h.events;
      made = h.made;
      leads = h.leads;
      is = same ∙ (end.1 (all.taken ∙ ap (λ (x : World). x.server.server.last) (sym h.leads))
          ∙ ap (λ (xs : List ℕ). xs ++ undelivered v) (all.text ∙ ap (λ (x : TraceValue). x.text ++ traced h.events w) new));
    }

-- no sink
pub shows_none : {L : Type 0} (taken : L → Option (List ℕ)) (has_failed : L → Bool) (old new : Option L) (Holds : List ℕ → Type 0)
    → old ≡ None → new ≡ old → ShowsLines taken has_failed old new Holds
shows_none {L} taken has_failed old new Holds none same =
    subst (λ (o : Option L). ShowsLines taken has_failed o new Holds) (sym none) (same ∙ none)

-- a sink that took all, or has failed
pub shown : {L E : Type 0} (taken : L → Option (List ℕ)) (has_failed : L → Bool) (r : Result (Unit {0}) E) (old new : L)
    (Holds : List ℕ → Type 0) (text : List ℕ) → OnOk r (Appends (taken old) (taken new) text) → OnErr r (has_failed new ≡ true)
    → OnErr r (AppendsFront (taken old) (taken new) text) → Holds text → IsShown (went taken has_failed old new) Holds
shown taken has_failed (Ok u) old new Holds text all fails front holds = (text, holds, inl all)
shown taken has_failed (Err f) old new Holds text all fails front holds = (text, holds, inr (fails, front))

-- with the report of the same world
pub leaves_lines : {V E L : Type 0} (result : Result (State × V) E) (items : V → List ℕ) (taken : L → Option (List ℕ)) (has_failed : L → Bool)
    (old new : Option L) (window : ℕ) (setup : SetupValue) (instructions : List Instruction) (program : Meaning) (world : World)
    → ShowsLines taken has_failed old new (AreTraced (simulated setup.shifts) instructions (start program setup.tools window) world)
    → IfOk result (λ end. end.0 ≡ world.client.client.state) → IfOk result (λ end. items end.1 ≡ report_text (shown_of world))
    → IfOk result (λ end. LeavesLines taken has_failed old new window setup instructions program end.0 (items end.1))
leaves_lines (Ok end) items taken has_failed old new window setup instructions program world lines stands told =
    record { world = world; stands = stands; told = told; lines = lines }
leaves_lines (Err fault) items taken has_failed old new window setup instructions program world lines stands told = tt
