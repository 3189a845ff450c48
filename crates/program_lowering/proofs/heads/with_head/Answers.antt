use Rattle.program_lowering.proofs.Names.{◌++◌, ◌∙◌, ap, List, names_of, rules, ℕ}
use Rattle.program_lowering.proofs.LineParts.{head_is}
use Rattle.program_lowering.proofs.heads.with_head.Goals as goal

pub returns : goal.returns
returns c =
    c.in_ok-extend_from_slice.ensures.items ∙ ap (λ (xs : List ℕ). xs ++ c.args.lines.now)
    (head_is (names_of c.args.names.program.now c.args.names.setup.now) c.args.choices c.args.answers.now c.args.source.now c.new-head.result.items
    c.push_named.new.out.items c.push_named-2.new.out.items c.push_named-3.new.out.items c.push_named-4.new.out.items
    c.push_named-5.new.out.items c.push_values.new.out.items c.as_slice.result.now c.as_bytes-3.result.now c.as_slice-2.result.now c.or_none.result.now
    (search rules) (search rules) (search rules) (search rules) (search rules) c.in_ok-push_named.ensures c.in_ok-push_named-2.ensures
    c.in_ok-push_named-3.ensures c.in_ok-push_named-4.ensures c.in_ok-push_named-5.ensures c.in_ok-push_values.ensures)
