use Rattle.program_lowering.proofs.Names.{◌++◌, ◌∙◌, ap, List, ℕ}
use Rattle.program_lowering.specs.Reasons.{detail}
use Rattle.program_lowering.proofs.LineParts.{note_is}
use Rattle.program_lowering.proofs.lowering.push_note.Goals as goal

pub returns : goal.returns
returns c =
    let start = c.push_start.new.notes.items in
    let mark = c.extend_from_slice.new.self.items in
    let shown = c.extend_from_slice-2.new.self.items in
    rw c.in-Some.is (note_is c.args.statement.now c.in-Some.reason c.args.notes.now.items c.push_start.new.notes.items mark shown
    c.push_detail.new.out.items c.push.new.self.items c.in_ok-push_start.ensures
    (c.in_ok-extend_from_slice.ensures.items ∙ ap (λ (text : List ℕ). start ++ text) c.joint.ensures)
    (c.in_ok-extend_from_slice-2.ensures.items ∙ ap (λ (text : List ℕ). mark ++ text) c.reason_text.ensures)
    (c.in_ok-push_detail.ensures ∙ ap (λ (params : List (List ℕ)). shown ++ detail c.in-Some.reason params) c.deref.ensures)
    c.in_ok-push.ensures.items)
