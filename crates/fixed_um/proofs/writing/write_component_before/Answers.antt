use Rattle.fixed_um.proofs.Names.{append_assoc, FitsSigned, rules, to_z-of_z, w64}
use Rattle.fixed_um.specs.Written.{written_component}
use Rattle.fixed_um.proofs.writing.write_component_before.Goals as goal

pub returns-clause-written : goal.returns-clause-written
unfolding written_component
returns-clause-written c =
    let fits : FitsSigned w64 c.args.value = search rules in
    rw (
      c.put_whole_before.ensures.written,
      c.put_three_before-point.ensures.written,
      c.put_three_before-middle.ensures.written,
      c.unsigned_abs-magnitude.ensures.value,
    )
    (simp (append_assoc, to_z-of_z w64 c.args.value fits))
