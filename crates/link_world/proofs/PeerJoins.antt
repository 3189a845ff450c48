-- Calls of a client's pump are calls of the client, whatever its peer sends.
use Rattle.link_world.proofs.Names.{[], ◌++◌, ◌∙◌, ◌∷◌, ◌≡◌, ap, are_ours, AreOwnCalls, Bool, called, ClientCalls, ClientEnd, ClientEnds, ClientFault}
use Rattle.link_world.proofs.Names.{ClientRan, ClientRun, ClientRunStopped, ClientTurn, cond, false, false≢true, Feature, IsProgram, le-leb, List}
use Rattle.link_world.proofs.Names.{Meaning, moves, new_client_end, not_called, Option, PumpFault, Reading, refl, Send, Sending, sends, Stage, stops}
use Rattle.link_world.proofs.Names.{subst, sym, Taking, true, Writing, ℕ}
use Rattle.client_core.specs.Calls.{behind_call, behind_calls, Call, done_by, Feed, Leave, possible, ReadOne, Sent}
use Rattle.client_core.proofs.Runs.{features_are_ours}
use Rattle.link_world.specs.Pumps.{begins, has, reads, takes, writes}
use Rattle.link_world.specs.LinkRuns as run

-- ---- one more call

calls_append : (calls : List Call) (call : Call) (e : ClientEnd)
    → behind_calls (calls ++ call ∷ []) e ≡ behind_call call (behind_calls calls e)
calls_append [] call e = refl
calls_append (x ∷ calls) call e = calls_append calls call (behind_call x e)

any_more : (s e : ClientEnd) (call : Call) → AreOwnCalls s e
    → AreOwnCalls s (behind_call call e)
any_more s e call h = record {
  calls = h.calls ++ call ∷ [];
  lead = ap (behind_call call) h.lead ∙ sym (calls_append h.calls call s);
}

done_now : (call : Call) (e : ClientEnd) (b : Bool) → possible call e ≡ b → b ≡ true
    → cond b (done_by call e) e ≡ done_by call e
done_now call e true is may = refl
done_now call e false is may = absurd (false≢true may)

one_more : (s e : ClientEnd) (call : Call) → AreOwnCalls s e → possible call e ≡ true
    → AreOwnCalls s (done_by call e)
one_more s e call h may =
    subst (AreOwnCalls s) (done_now call e (possible call e) refl may) (any_more s e call h)

-- ---- a turn

turn_calls : (least : ℕ) (first s : ClientEnd) (stage : Stage) (read written : List ℕ) (e : ClientEnd)
    → AreOwnCalls first s → ClientTurn least s stage read written e → AreOwnCalls first e
turn_calls least first s _ _ _ _ h begins = h
turn_calls least first s _ _ _ _ h (sends e t is) =
    one_more first e Send (turn_calls least first s Sending [] [] e h t) is
turn_calls least first s _ _ _ _ h (writes e count t none within) =
    one_more first e (Sent count) (turn_calls least first s Sending [] [] e h t) (le-leb count _ within)
turn_calls least first s _ _ _ _ h (takes e read written t out may) =
    one_more first e (Feed read) (turn_calls least first s Writing [] written e h t) may
turn_calls least first s _ _ _ _ h (has e read written t enough) = turn_calls least first s Taking read written e h t
turn_calls least first s _ _ _ _ h (reads e read written t may is) =
    one_more first e ReadOne (turn_calls least first s Reading read written e h t) may

-- ---- all calls

pub pumped_calls : (first e : ClientEnd) → ClientCalls first e
    → AreOwnCalls first e
pumped_calls first _ not_called = record { calls = []; lead = refl }
pumped_calls first _ (moves e f least left left_now taken taken_now moved t h) =
    turn_calls least first e Reading h.read h.written f (pumped_calls first e t) (h.turn)
pumped_calls first _ (stops e f least bound left left_now taken taken_now fault t h) =
    subst (AreOwnCalls first) (sym h.leaves)
    (one_more first h.last Leave
    (turn_calls least first e h.stage h.read h.written h.last (pumped_calls first e t) (h.turn)) refl)
pumped_calls first _ (called e call t) = any_more first e call (pumped_calls first e t)

pub pumped_features : (program : Meaning) (kept : List Feature) (window : ℕ) (e : ClientEnd)
    → IsProgram program → are_ours program.features kept ≡ true → ClientCalls (new_client_end program kept window) e
    → are_ours program.features e.client.table.tally.features ≡ true
pumped_features program kept window e is ours t =
    let h = pumped_calls (new_client_end program kept window) e t in
    subst (λ (x : ClientEnd). are_ours program.features x.client.table.tally.features ≡ true) (sym h.lead)
    (features_are_ours program kept window h.calls is ours)

-- ---- a run

so_far : (first : ClientEnd) (left taken : Option (List ℕ)) (turns : ℕ) (read written : List ℕ)
    (e : ClientEnd) (left_now taken_now : Option (List ℕ)) → ClientRun first left taken turns read written e left_now taken_now
    → ClientCalls first e
so_far first left taken _ _ _ _ _ _ run.starts = not_called
so_far first left taken _ _ _ _ _ _ (run.goes turns read written mid new left_mid left_now taken_mid taken_now moved t going turn) =
    moves mid new 1 left_mid left_now taken_mid taken_now moved (so_far first left taken turns read written mid left_mid taken_mid t) turn

pub run_calls : (first e : ClientEnd) (left left_now taken taken_now : Option (List ℕ)) → ClientRan first e left left_now taken taken_now
    → ClientCalls first e
run_calls first e left left_now taken taken_now h = so_far first left taken h.turns h.read h.written e left_now taken_now h.run

ends_so : (first e : ClientEnd) (left left_now taken taken_now : Option (List ℕ)) (fault : PumpFault ClientFault)
    (read written lost : List ℕ) (last : ClientEnd)
    → ClientEnds first e left left_now taken taken_now fault read written lost last → ClientCalls first e
ends_so first e left left_now taken taken_now _ _ _ _ _ (run.stops turns read written mid left_mid taken_mid fault t going few turn) =
    stops mid e 1 1000000 left_mid left_now taken_mid taken_now fault
    (so_far first left taken turns read written mid left_mid taken_mid t) turn
ends_so first e left left_now taken taken_now _ _ _ _ _ (run.spends read written last t going is) =
    subst (ClientCalls first) (sym is)
    (called last Leave (so_far first left taken 1000000 read written last left_now taken_now t))

pub broken_calls : (first e : ClientEnd) (left left_now taken taken_now : Option (List ℕ)) (fault : PumpFault ClientFault)
    → ClientRunStopped first e left left_now taken taken_now fault → ClientCalls first e
broken_calls first e left left_now taken taken_now fault h =
    ends_so first e left left_now taken taken_now fault h.read h.written h.lost h.last h.ends
