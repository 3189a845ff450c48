use Rattle.std.proofs.Common.{◌∙◌, ap, sym}
use Rattle.dmis_text.specs.Reading.{text_reading}
use Rattle.program_flow.proofs.SaidLines.{is_said}
use Rattle.program_flow.proofs.lines.Line.given.Goals as goal

pub returns : goal.returns
returns c = λ others.
    let it = is_said c.self.inside.line c.self.inside.text.items c.self.invariant in (
      it.read,
      ap text_reading (c.in_ok-text.ensures.items ∙ c.deref.ensures.value) ∙ it.says.only,
      sym c.self.view_is ∙ it.said,
    )
