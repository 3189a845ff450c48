use Rattle.witness_laws.proofs.Names.{◌||◌, ◌∙◌, ◌∷◌, ◌≡◌, [], answered, ap, false, false≢true, is_of, List, NotResponse, refl, Response, Result}
use Rattle.witness_laws.proofs.Names.{server_answered, Std, sym, ℕ}
use Rattle.record_text.specs.ToldExamples.{completed}
use Rattle.witness_laws.specs.ClientExamples.{watching}
use Rattle.witness_laws.specs.Lines.{is_unasked}
use Rattle.witness_laws.proofs.client.ExampleLines.{completed_reads, zero_reads}
use Rattle.witness_laws.proofs.client_examples.ahead_rows.Goals as goal

pub returns-clause-told : goal.returns-clause-told
returns-clause-told c =
    ap (λ (r : Result Response NotResponse). (server_answered watching completed (answered r)).reported) completed_reads

pub returns-clause-causal : goal.returns-clause-causal
returns-clause-causal c = (tt, ((λ may. record { on = refl; later = []; first = refl; unanswered = tt }), tt))

pub returns-clause-unread : goal.returns-clause-unread
returns-clause-unread c = λ h. let k = h.0 refl in no_line completed k.later k.first
  where
    no_line : (line : List ℕ) (later : List (List ℕ)) → ◌≡◌ {A = List (List ℕ)} [] (line ∷ later) → ⊥
    no_line line later e = cc

pub returns-clause-leaves : goal.returns-clause-leaves
returns-clause-leaves c = λ h. let k = h.0 refl in false≢true k.on

pub returns-clause-answered : goal.returns-clause-answered
returns-clause-answered c = λ h. false≢true (sym h.0
    ∙ ap (λ (r : Result Response NotResponse). is_of (Std 7) r || false) completed_reads)

pub returns-clause-unanswered : goal.returns-clause-unanswered
returns-clause-unanswered c = (ap (λ (r : Result Response NotResponse). is_of (Std 8) r || false) completed_reads, tt)

pub returns-clause-unasked_read : goal.returns-clause-unasked_read
returns-clause-unasked_read c = ap (λ (r : Result Response NotResponse). false || is_unasked r) zero_reads
