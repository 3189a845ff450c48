-- What a run begins with is due, and a refusal has a status.
use Rattle.run_opening.proofs.Names.{[], Answered, ap, AreFeaturesRead, arith, Beginning, begun, Bool, ClientEnd, end_connected}
use Rattle.run_opening.proofs.Names.{false, Feature, GivesBack, HasClient, HasGiven, is_some, IsFilled, IsLookedAt, IsOpened, IsProgramOf, IsProgramRead}
use Rattle.run_opening.proofs.Names.{IsRecordRead, IsSetupRead, Keeps, Leads, length, List, may_connect, Meaning, new_client_end, None}
use Rattle.run_opening.proofs.Names.{Option, OrderFault, part_of, Run, SetupValue, Some, Start, Starts, StartsClient, State, status_of, subst}
use Rattle.run_opening.proofs.Names.{sym, TakesClient, true, true≢false, unwrap_or, ℕ, ◌<◌, ◌∙◌, ◌≡◌}
use Rattle.order_parts.specs.declared.faults.OrderFault.TheVariants as fault

program_read : (setup : Option SetupValue) (program : Option Meaning) (a : Answered) (p : Meaning) → IsSetupRead setup a.setup
    → IsProgramRead setup program a.program → program ≡ Some p → IsProgramOf p a
program_read None program a p s r is = absurd s
program_read (Some setup) program a p s r is = record {
  setup = setup;
  is_setup = s;
  is_program = subst (λ (q : Option Meaning). IsProgramRead (Some setup) q a.program) is r;
}

-- a client that was made
pub opened_starts : (e f : ClientEnd) (n : ℕ) (text : List ℕ) (b : Start) (s v u t : State) → may_connect n e.client ≡ true → HasGiven s v
    → f ≡ end_connected n e → b.growth ≡ begun n 0 (length e.client.table.tally.features) text → HasClient f b v u → Leads IsOpened u t
    → StartsClient e n text s t
opened_starts e f n text b s v u t can given same growth has leads run o nearly begins = leads run o (subst (λ (x : State). IsOpened run x.core o.answered) (sym has) (record {
  confirm = given.confirm ∙ ap (λ (r : Run). r.confirm) nearly.0;
  held = nearly.1.0;
  free = nearly.1.1;
  begins = begins (Some f) (Some b) (can, (same, growth));
}))

-- a run that keeps these features
pub kept_keeps : (kept : List Feature) (s t : State) (text : List ℕ) → text ≡ [] → TakesClient kept 1 text s t → Keeps kept s t
kept_keeps kept s t text empty takes run o nearly setup program without named none = takes run o nearly (λ p client start is ours starts. record {
  alone = λ _. record {
    p = p;
    program = program_read s.core.setup s.core.program o.answered p setup program is;
    kept = kept;
    named = named;
    none = none;
    ours = ours;
    starts = subst (λ (r : Run). Starts 1 (new_client_end p kept r.window) [] client start) nearly.0
        (subst (λ (x : List ℕ). Starts 1 (new_client_end p kept s.core.order.window) x client start) empty starts);
  };
  recorded = λ some. absurd (true≢false (sym some ∙ without));
})

held_read : (held : Option (List Feature)) (none : List Feature) (bytes : Option (List ℕ)) → AreFeaturesRead held bytes
    → AreFeaturesRead (Some (unwrap_or held none)) bytes
held_read None none bytes read = absurd read
held_read (Some kept) none bytes read = read

-- those of its file, which are taken out of it, or none
pub alone_leads : (kept none : List Feature) (left : Option (List Feature)) (v s t : State) → v ≡ s → kept ≡ unwrap_or v.core.features none
    → none ≡ [] → is_some v.core.order.record ≡ false → v.core.stopped ≡ false
    → Keeps kept (record v { core = record (v.core) { features = left } }) t → Leads IsLookedAt s t
alone_leads kept none left v s t same is empty without free keeps = subst (λ (x : State). Leads IsLookedAt x t) same (λ run o l. keeps run o
    (l.0.prepared.order, (l.0.prepared.held, λ n. l.1 n ∙ ap (λ (b : Bool). Some b) free)) l.0.prepared.setup l.0.program
    (ap (λ (r : Run). is_some r.record) (sym l.0.prepared.order) ∙ without)
    (λ n. subst (λ (x : List Feature). AreFeaturesRead (Some x) o.answered.features) (sym is)
    (held_read v.core.features none o.answered.features (l.0.prepared.features n)))
    (λ n. is ∙ (ap (λ (x : Option (List Feature)). unwrap_or x none) (l.0.prepared.none n) ∙ empty)))

-- a run that continues its record
pub filled_leads : (b : Beginning) (left : Option Beginning) (v s t : State) → v ≡ s → s.core.beginning ≡ Some b
    → TakesClient b.features b.connection b.text.items (record v { core = record (v.core) { beginning = left } }) t → Leads IsFilled s t
filled_leads b left v s t same is takes run o f =
    let order : v.core.order ≡ run = ap (λ (x : State). x.core.order) same ∙ f.0.understood.prepared.order in
    takes run o (order, (f.0.understood.prepared.held, f.0.free)) (λ p client start q ours starts.
    let program : s.core.program ≡ Some p = sym (ap (λ (x : State). x.core.program) same) ∙ q in
    record {
      alone = λ none. absurd (true≢false (sym f.0.named ∙ none));
      recorded = λ _. record {
        p = p;
        program = program_read s.core.setup s.core.program o.answered p f.0.understood.prepared.setup f.0.understood.program program;
        b = b;
        recorded = subst (λ (x : Option Beginning). IsRecordRead (part_of run) (Some p) x o.answered.recorded) is
            (subst (λ (x : Option Meaning). IsRecordRead (part_of run) x s.core.beginning o.answered.recorded) program f.0.recorded);
        sealed = f.0.sealed;
        kept = record {
          held = s.core.features;
          read = f.0.understood.prepared.features;
          first = subst (λ (x : Option Beginning). GivesBack x s.core.features) is f.0.first;
        };
        filled = f.1;
        ours = ours;
        starts = subst (λ (r : Run). Starts b.connection (new_client_end p b.features r.window) b.text.items client start) order starts;
      };
    })

-- each fault has a status above 0
pub positive : (f : OrderFault) → 0 < status_of f
positive (fault.Program cause) = omega (arith)
positive (fault.Setup cause) = omega (arith)
positive (fault.Schedule cause) = omega (arith)
positive (fault.Features cause) = omega (arith)
positive (fault.Contacts cause) = omega (arith)
positive (fault.Record cause) = omega (arith)
positive (fault.Limits cause) = omega (arith)
positive (fault.Machine cause) = omega (arith)
positive (fault.OtherProgram label) = omega (arith)
positive (fault.BadSeal line) = omega (arith)
positive fault.EmptyKey = omega (arith)
positive (fault.CannotRead file) = omega (arith)
positive fault.CannotWriteOutput = omega (arith)
positive (fault.CannotWrite file) = omega (arith)
positive fault.NotOurs = omega (arith)
positive (fault.ConnectionFailed cause) = omega (arith)
positive fault.Memory = omega (arith)
