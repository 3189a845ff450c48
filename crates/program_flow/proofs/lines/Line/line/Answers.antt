use Rattle.std.proofs.Common.{◌∙◌, ap, sym}
use Rattle.dmis_text.specs.declared.elements.Statement.{Statement}
use Rattle.program_flow.proofs.SaidLines.{is_said}
use Rattle.program_flow.proofs.lines.Line.line.Goals as goal

pub returns : goal.returns
returns c =
    let it = is_said c.self.inside.line c.self.inside.text.items c.self.invariant in
    sym (ap (λ (s : Statement). s.line) it.said) ∙ ap (λ (s : Statement). s.line) c.self.view_is
