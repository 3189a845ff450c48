use Rattle.std.proofs.Common.{rules}
use Rattle.program_review.proofs.Outside.{opened_by, option_map, spot_of, text_reading}
use Rattle.program_review.proofs.ReasonLemmas.{on_spot, spot_is}
use Rattle.program_review.proofs.programs.program_reason.Goals as goal

pub returns : goal.returns
returns c = on_spot c.reason_on.result c.args.refusal _ (spot_of c.args.text.now c.args.number)
    (spot_is c.args.text.now c.from_line.result.now c.args.number c.as_slice-statements.result.now (text_reading c.args.text.now).statements
    (option_map (λ s. s.now) c.statement_on.result) (option_map (λ s. s.now) c.last.result) (option_map opened_by c.open_block.result)
    c.from_line.ensures.bytes (search rules) c.statement_on.ensures (search rules) c.open_block.ensures) c.reason_on.ensures
