use Rattle.std.proofs.Common.{◌≡◌, ◌∙◌, IfOk, List, subst, sym, ℕ}
use Rattle.dmis_text.specs.declared.elements.Statement.{Statement}
use Rattle.program_flow.specs.SaidLines.{Says}
use Rattle.program_flow.proofs.SaidLines.{is_said}
use Rattle.program_flow.proofs.lines.Line.read.Goals as goal

pub read_one-requires : goal.read_one-requires
read_one-requires c =
    let it = is_said c.self.inside.line c.self.inside.text.items c.self.invariant in
    (it.read, subst (λ (t : List ℕ). Says t it.read) (sym c.deref.ensures.value) it.says)

pub returns : goal.returns
returns c =
    let it = is_said c.self.inside.line c.self.inside.text.items c.self.invariant in
    subst (λ (s : Statement). IfOk c.read_one.result (λ given. given ≡ s)) (sym it.said ∙ c.self.view_is)
    (c.read_one.ensures it.read (subst (λ (t : List ℕ). Says t it.read) (sym c.deref.ensures.value) it.says))
