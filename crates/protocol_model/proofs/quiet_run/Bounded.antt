-- Each round that does something sends a command, and none is sent twice.
use Rattle.protocol_model.proofs.Names.{[], ◌++◌, ◌+◌, ◌∙◌, ◌∷◌, ◌≡◌, ◌≢◌, ◌≤◌, All, all_down, all_of, all_up, ap, AreBusy, AreRounds, AreWhile}
use Rattle.protocol_model.proofs.Names.{AreWork, arith, Bool, CanFinish, Client, cond, Down, Err, false, false≢true, IsOne, IsProgram, IsRound, Job}
use Rattle.protocol_model.proofs.Names.{le_refl, le_trans, length, List, Meaning, next_number, next_of, None, Ok, Option, Outcome, plan_left, Planned}
use Rattle.protocol_model.proofs.Names.{refl, rejoined, sends_next, Some, State, Std, subst, suc, sym, Table, Then, true, Up, ℕ}
use Rattle.std.proofs.lemmas.List.Elements.{All-head, All-tail}
use Rattle.protocol_model.specs.World.{after, can, happens, run_of, start, World}
use Rattle.protocol_model.specs.declared.events.Event.{Event}
use Rattle.protocol_model.specs.declared.events.Event.TheVariants.{Accept, ClientSends, Connect, Machine, ServerReads, ServerTurn}
use Rattle.protocol_model.specs.declared.events.Event.TheVariants.{Abort, ClientLeaves, ClientReads, ClientRestart, Resume, ServerLeaves}
use Rattle.protocol_model.specs.declared.events.Event.TheVariants.{ServerRestart}
use Rattle.protocol_model.proofs.each_event.ClientEvents.{never_faulted}
use Rattle.protocol_model.proofs.each_event.ClientWrites.{IsDue, due_is}
use Rattle.protocol_model.proofs.whole_run.Carrying.{lined, IsCarried}
use Rattle.protocol_model.proofs.whole_run.WholeRun.{happens_carried, run_carried, start_carried}
use Rattle.protocol_model.proofs.quiet_run.Hears.{reads_unsent}
use Rattle.protocol_model.proofs.quiet_run.Joining.{IsOfRound, IsJoined, after_is, after_joined}
use Rattle.protocol_model.proofs.quiet_run.Phases.{Keeps, IsStill, Leaves, Cut, cut_of, run_more, round_still, round_none}
use Rattle.protocol_model.proofs.quiet_run.Rejoining.{IsRejoined, rejoins}

-- how many commands of its plan the client has not sent
abbrev pub unsent_in : World → ℕ
unsent_in w = length w.client.client.table.tally.unsent

abbrev pub AtMost : ℕ → World → Type 0
AtMost most w = unsent_in w ≤ most

sends_most : (c : Client) (ps : List Planned) (n : Option ℕ) (most : ℕ) → length c.table.tally.unsent ≤ most
    → c.table.tally.unsent ≡ ps → length (sends_next c ps n).client.table.tally.unsent ≤ most
sends_most c [] n most h e = h
sends_most c (p ∷ ps) None most h e = h
sends_most c (p ∷ ps) (Some n) most h e =
    let long : length c.table.tally.unsent ≡ suc (length ps) = ap length e in omega (arith, h, long)

-- no event of a round adds to them
pub keeps_most : (answer : Job → ℕ → Outcome) (most : ℕ) → Keeps answer (AtMost most)
keeps_most answer most e w of joined h = go e of (can e w)
  where
    go : (e : Event) → IsOfRound answer w e → (t : Bool) → AtMost most (cond t (happens e w) w)
    go e of false = h
    go ClientSends of true = sends_most w.client.client w.client.client.table.tally.unsent
        (next_number Std w.client.client.table.standard w.client.client.drawn) most h refl
    go (Up k) of true = h
    go ServerReads of true = h
    go ServerTurn of true = h
    go (Machine outcome) of true = h
    go (Down k) of true = h
    go ClientReads of true = reads_unsent w.client.client (next_of w.client.input.rest) most h
    go Connect of true = absurd of
    go (Accept n) of true = absurd of
    go ClientLeaves of true = absurd of
    go ServerLeaves of true = absurd of
    go Abort of true = absurd of
    go Resume of true = absurd of
    go (ClientRestart k) of true = absurd of
    go ServerRestart of true = absurd of

-- a command that is sent is one less
send_less : (w : World) → IsJoined w → can ClientSends w ≡ true
    → suc (unsent_in (after ClientSends w)) ≤ unsent_in w
send_less w h may =
    subst (λ (v : World). suc (unsent_in v) ≤ unsent_in w) (sym (after_is ClientSends w may))
    (go c.table.tally.unsent refl (next_number Std c.table.standard c.drawn) refl fine)
  where
    c : Client
    c = w.client.client

    d : IsDue c
    d = due_is c may

    later : IsCarried (happens ClientSends w)
    later = happens_carried ClientSends w h.carried may

    fine : (sends_next c c.table.tally.unsent (next_number Std c.table.standard c.drawn)).client.state ≡ State.Faulted → ⊥
    fine = never_faulted (lined (happens ClientSends w) later.up later.down) later.inv

    go : (ps : List Planned) → c.table.tally.unsent ≡ ps → (n : Option ℕ) → next_number Std c.table.standard c.drawn ≡ n
        → ((sends_next c c.table.tally.unsent (next_number Std c.table.standard c.drawn)).client.state ≡ State.Faulted → ⊥)
        → suc (length (sends_next c c.table.tally.unsent (next_number Std c.table.standard c.drawn)).client.table.tally.unsent)
        ≤ length c.table.tally.unsent
    go [] e n number f = let none : [] ≡ d.planned ∷ d.others = sym e ∙ d.unsent in absurd (cc)
    go (p ∷ ps) e None number f =
        absurd (f (ap (λ (o : Option ℕ). (sends_next c c.table.tally.unsent o).client.state) number
        ∙ ap (λ (l : List Planned). (sends_next c l None).client.state) e))
    go (p ∷ ps) e (Some n) number f =
        let left : (sends_next c c.table.tally.unsent (next_number Std c.table.standard c.drawn)).client.table.tally.unsent ≡ ps =
        ap (λ (o : Option ℕ). (sends_next c c.table.tally.unsent o).client.table.tally.unsent) number
        ∙ ap (λ (l : List Planned). (sends_next c l (Some n)).client.table.tally.unsent) e in
        let long : length c.table.tally.unsent ≡ suc (length ps) = ap length e in
        omega (arith, ap length left, long)

-- the parts of a round after the first
abbrev pub Behind : (Job → ℕ → Outcome) → Bool → World → List Event → Type 0
Behind answer =
    Then (λ cut w. IsOne (all_up w) cut) (
    Then (AreWhile ServerReads) (
    Then (AreWork answer) (
    Then (λ cut w. IsOne (all_down w) cut) (AreWhile ClientReads))))

-- a round that does something sends one at least
pub round_less : (answer : Job → ℕ → Outcome) (es : List Event) (w : World) → IsStill w
    → IsRound answer false w es → es ≢ [] → suc (unsent_in (run_of es w)) ≤ unsent_in w
round_less answer es w s round busy = go (can ClientSends w) refl
  where
    begins : (cut : Cut (AreWhile ClientSends) (Behind answer) w es) (front : List Event) → cut.front ≡ front
        → can ClientSends w ≡ true → AreWhile ClientSends false w front → suc (unsent_in (run_of es w)) ≤ unsent_in w
    begins cut [] e may while = absurd (false≢true (sym while ∙ may))
    begins cut (f ∷ fs) e may while =
        let v : World = after f w in
        let same : after ClientSends w ≡ v = ap (λ (x : Event). after x w) (sym while.0) in
        let less : suc (unsent_in v) ≤ unsent_in w =
        subst (λ (x : World). suc (unsent_in x) ≤ unsent_in w) same (send_less w s.joined may) in
        let joined : IsJoined v = subst IsJoined same (after_joined answer ClientSends w tt s.joined) in
        let happened : happens ClientSends w ≡ v = sym (after_is ClientSends w may) ∙ same in
        let rest : IsRound answer false v (fs ++ cut.back) = record {
          front = fs;
          back = cut.back;
          whole = refl;
          parts = Rattle.std.proofs.Common.inl (
            subst (λ (x : World). AreWhile ClientSends false x fs) happened while.2,
            subst (λ (l : List Event). Behind answer false (run_of l w) cut.back) e cut.second,
          );
        } in
        let left : Leaves (AtMost (unsent_in v)) (run_of (fs ++ cut.back) v) =
        round_still answer (AtMost (unsent_in v)) (keeps_most answer (unsent_in v)) (fs ++ cut.back) v rest joined
        (le_refl (unsent_in v)) in
        let whole : es ≡ f ∷ (fs ++ cut.back) = cut.whole ∙ ap (λ (l : List Event). l ++ cut.back) e in
        let kept : unsent_in (run_of es w) ≤ unsent_in v =
        subst (λ (l : List Event). unsent_in (run_of l w) ≤ unsent_in v) (sym whole) left.kept in
        omega (arith, less, kept)

    go : (t : Bool) → can ClientSends w ≡ t → suc (unsent_in (run_of es w)) ≤ unsent_in w
    go false never = absurd (busy (round_none answer w s never es round))
    go true may =
        let cut : Cut (AreWhile ClientSends) (Behind answer) w es = cut_of _ _ w es round in
        begins cut cut.front refl may cut.first

-- what rounds keep, and that after them both ends are still
pub rounds_leave : (answer : Job → ℕ → Outcome) (G : World → Type 0) → Keeps answer G
    → (rounds : List (List Event)) (w : World) → AreRounds answer w rounds → Leaves G w
    → Leaves G (run_of (all_of rounds) w)
rounds_leave answer G keeps [] w h s = s
rounds_leave answer G keeps (r ∷ rounds) w h s =
    subst (Leaves G) (sym (run_more r (all_of rounds) w))
    (rounds_leave answer G keeps rounds (run_of r w) h.1
    (round_still answer G keeps r w h.0 s.still.joined s.kept))

-- so there are no more of them than there were commands to send
pub rounds_few : (answer : Job → ℕ → Outcome) (rounds : List (List Event)) (w : World)
    → AreRounds answer w rounds → All (λ r. r ≢ []) rounds → IsStill w → length rounds ≤ unsent_in w
rounds_few answer [] w h busy s = omega arith
rounds_few answer (r ∷ rounds) w h busy s =
    let less : suc (unsent_in (run_of r w)) ≤ unsent_in w =
    round_less answer r w s h.0 (All-head (λ x. x ≢ []) r rounds busy) in
    let left : Leaves (λ v. Unit {0}) (run_of r w) =
    round_still answer (λ v. Unit {0}) (λ e v of j k. tt) r w h.0 s.joined tt in
    let rest : length rounds ≤ unsent_in (run_of r w) =
    rounds_few answer rounds (run_of r w) h.1 (All-tail (λ x. x ≢ []) r rounds busy) left.still in
    omega (arith, less, rest)

-- after every list of events
pub bounded : (answer : Job → ℕ → Outcome) (program : Meaning) (rack : List (List ℕ))
    (window : ℕ) (events : List Event) (rounds : List (List Event)) → IsProgram program → window ≤ 16
    → CanFinish (run_of events (start program rack window))
    → AreBusy answer (rejoined (run_of events (start program rack window))) rounds
    → length rounds ≤ length (plan_left (run_of events (start program rack window)))
bounded answer program rack window events rounds is le f busy =
    let b : World = run_of events (start program rack window) in
    let j : IsRejoined b (rejoined b) =
    rejoins b (run_carried events (start program rack window) (start_carried program rack window is le)) f in
    subst (λ (n : ℕ). length rounds ≤ n) (ap (λ (t : Table). length t.tally.unsent) j.table)
    (rounds_few answer rounds (rejoined b) busy.are busy.busy j.still)
