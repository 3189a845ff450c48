use Rattle.program_lowering.proofs.Names.{rules}
use Rattle.std.specs.Result.{result_ok}
use Rattle.program_flow.specs.Texts.{expanded}
use Rattle.program_flow.specs.Variables.{entry_value}
use Rattle.program_lowering.specs.Carried.{named_as}
use Rattle.program_lowering.specs.Valued.{commanded, own_params, word_in}
use Rattle.program_lowering.proofs.FeatureLemmas.{gives_feature, readable}
use Rattle.program_lowering.proofs.values.Values.feature_lines.Goals as goal

pub returns-in-Some-clause-read : goal.returns-in-Some-clause-read
returns-in-Some-clause-read c =
    let s = c.args.statement.now in
    readable s s (named_as s s (word_in (result_ok (expanded (entry_value c.args.self.now.variables) c.deref-in-Some.result.now)))
    (own_params c.args.other (entry_value c.args.self.now.variables) s.params)) c.named_lines.result (c.named_lines.ensures s)

pub returns-in-Some-clause-valued : goal.returns-in-Some-clause-valued
returns-in-Some-clause-valued c above k clash =
    gives_feature above c.args.statement.now c.args.self.now.variables c.args.self.now.declared c.args.other c.deref-in-Some.result.now c.named_lines.result
    (search rules) (search rules) (search rules) (search rules) k clash (c.named_lines.ensures (commanded above c.args.statement.now))
