use Rattle.program_lowering.proofs.Names.{◌≡◌, bytes_eq, codes, flat, rules, true}
use Rattle.program_flow.specs.Variables.{entry_value}
use Rattle.program_lowering.specs.Carried.{pair_of}
use Rattle.program_lowering.specs.Valued.{held_or_none}
use Rattle.program_lowering.proofs.LineLemmas.{flat_statement}
use Rattle.program_lowering.proofs.ValuedLemmas.{assign_good, gives_assigned, read_is}
use Rattle.program_lowering.proofs.values.Values.take.Goals as goal

pub returns-then-is_text-clause-read : goal.returns-then-is_text-clause-read
returns-then-is_text-clause-read c =
    let is : bytes_eq c.args.statement.now.word (codes "ASSIGN") ≡ true = search rules in
    let made = pair_of c.in_ok-done.done (entry_value c.carry_out.new.self.variables) c.args.statement.now.label in (
      flat_statement (flat c.args.statement.now.word (held_or_none c.args.statement.now.word made)) 1,
      read_is c.args.statement.now.word c.in_ok-assigned_line.field-0.items made (assign_good c.args.statement.now.word is) c.in_ok-assigned_line.ensures,
    )

pub returns-then-is_text-clause-valued : goal.returns-then-is_text-clause-valued
returns-then-is_text-clause-valued c above k clash =
    let is : bytes_eq c.args.statement.now.word (codes "ASSIGN") ≡ true = search rules in
    let out = c.in_ok-done.ensures.done above k in (
      out.0,
      gives_assigned above c.args.statement.now c.carry_out.new.self.variables c.carry_out.new.self.declared c.in_ok-done.done
          c.in_ok-assigned_line.field-0.items is out.0 out.1 c.in_ok-assigned_line.ensures,
    )
