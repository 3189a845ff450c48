use Rattle.program_lowering.proofs.Names.{◌≡◌, is_none, rules, true}
use Rattle.program_lowering.proofs.LabelLemmas.{is_absent, noted_new}
use Rattle.program_lowering.proofs.labels.Labels.note.Goals as goal

pub returns-in_ok-insert : goal.returns-in_ok-insert
returns-in_ok-insert c =
    let absent : is_none c.get.result ≡ true = search rules in
    let none = is_absent c.args.self.now c.args.label.name.items c.get.result (rw c.as_slice.ensures.value at c.get.ensures.value) absent in
    noted_new c.args.self.now (record { parts = c.insert.new.self }) c.args.label.name c.args.label.parts none c.in_ok-insert.ensures.updates
