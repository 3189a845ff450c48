use Rattle.witness_laws.proofs.Names.{◌||◌, answered, ap, false, line_read, NotResponse, Response, Result, server_answered, silence, true}
use Rattle.witness_laws.specs.ClientExamples.{zero, stray}
use Rattle.witness_laws.specs.Lines.{is_unasked}
use Rattle.witness_laws.proofs.client.ExampleLines.{completed_reads, zero_reads}
use Rattle.witness_laws.proofs.client_examples.unasked_rows.Goals as goal

pub returns-clause-reported : goal.returns-clause-reported
returns-clause-reported c =
    ap (λ (r : Result Response NotResponse). (server_answered (silence true) zero (answered r)).reported) zero_reads

pub returns-clause-passed : goal.returns-clause-passed
returns-clause-passed c = ap (λ (r : Result Response NotResponse). line_read stray.client r) zero_reads

pub returns-clause-read : goal.returns-clause-read
returns-clause-read c = ap (λ (r : Result Response NotResponse). false || is_unasked r) zero_reads

pub returns-clause-answer : goal.returns-clause-answer
returns-clause-answer c = ap (λ (r : Result Response NotResponse). false || is_unasked r) completed_reads
