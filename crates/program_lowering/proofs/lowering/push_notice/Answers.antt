use Rattle.program_lowering.proofs.Names.{◌∙◌, ap, rules}
use Rattle.program_lowering.proofs.EvenLemmas.{notice_is}
use Rattle.program_lowering.specs.Reasons.{start_text}
use Rattle.program_lowering.proofs.lowering.push_notice.Goals as goal

pub returns : goal.returns
returns c =
    notice_is c.args.line c.args.filling.now c.args.notes.now.items c.push_note_line.new.out.items c.extend_from_slice.new.self.items
    c.push_touches.new.out.items c.extend_from_slice-2.new.self.items c.deref.result.now c.as_bytes.result.now c.start_text-start.result.now
    c.in_ok-push_note_line.ensures c.in_ok-extend_from_slice.ensures.items c.in_ok-push_touches.ensures c.in_ok-extend_from_slice-2.ensures.items
    (search rules) (search rules) (c.start_text-start.ensures ∙ ap start_text (search rules))
