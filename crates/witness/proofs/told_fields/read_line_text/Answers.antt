use Rattle.witness.proofs.ToldNames.{◌∙◌, ap, is_content, List, list_all, sym, ℕ}
use Rattle.witness.proofs.OtherLines.{some_fields, one_line}
use Rattle.witness.proofs.told_fields.read_line_text.Goals as goal

pub returns-in_default : goal.returns-in_default
returns-in_default c line h = some_fields line (sym h.1 ∙ c.in_default.ensures)

pub returns-then-not-is_line_text : goal.returns-then-not-is_line_text
returns-then-not-is_line_text c line h =
    let same = one_line c.in-Some.line.now line (sym c.in-Some.ensures ∙ h.1) in
    let free = c.is_line_text.ensures ∙ ap (λ (l : List ℕ). list_all is_content l) same ∙ h.0.free in
    let t = c.if-not-is_line_text.true in
    absurd cc
