use Rattle.witness_laws.proofs.Names.{◌++◌, ◌||◌, ◌∷◌, ◌≡◌, [], Act, answered, ap, Did, false, Left, List, map, NotResponse, numbered, refl, Reported}
use Rattle.witness_laws.proofs.Names.{Response, Result, server_answered, silence, true}
use Rattle.record_text.specs.ToldExamples.{completed}
use Rattle.witness_laws.specs.Lines.{is_unasked}
use Rattle.witness_laws.proofs.client.ExampleLines.{completed_reads, zero_reads}
use Rattle.witness_laws.proofs.client_examples.visit_rows.Goals as goal

pub returns-clause-told : goal.returns-clause-told
returns-clause-told c = ap (λ (r : Result Response NotResponse).
    (6, Left) ∷ (map (numbered 7) (server_answered (silence true) completed (answered r)).reported
    ++ (6, Left) ∷ (map (numbered 8) (server_answered (silence true) completed (answered r)).reported ++ []))) completed_reads

pub returns-clause-unasked : goal.returns-clause-unasked
returns-clause-unasked c = ap (λ (r : Result Response NotResponse). (false || is_unasked r) || false) zero_reads

pub returns-clause-begins : goal.returns-clause-begins
returns-clause-begins c = (record { more = Did Act.Homed ∷ []; parts = refl }, (record { more = []; parts = refl }, tt))

pub returns-clause-too_few : goal.returns-clause-too_few
returns-clause-too_few c = λ h. h.1

pub returns-clause-not_so : goal.returns-clause-not_so
returns-clause-not_so c = λ h. let b = h.0 in none (Did Act.Homed) b.more b.parts
  where
    none : (x : Reported) (more : List Reported) → ◌≡◌ {A = List Reported} [] (x ∷ more) → ⊥
    none x more e = cc
