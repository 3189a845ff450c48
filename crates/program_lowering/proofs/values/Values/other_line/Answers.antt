use Rattle.program_lowering.proofs.Names.{◌∙◌, ◌≡◌, false, flat, is_none, rules, sym, true}
use Rattle.dmis_program.specs.Keywords.{is_among}
use Rattle.program_flow.specs.Variables.{entry_value}
use Rattle.program_lowering.specs.Valued.{commanding, held_or_none, own_params}
use Rattle.program_lowering.proofs.LineLemmas.{flat_statement}
use Rattle.program_lowering.proofs.ValuedLemmas.{commanding_good, gives_same, gives_valued, read_is}
use Rattle.program_lowering.proofs.values.Values.other_line.Goals as goal

pub returns-clause-read : goal.returns-clause-read
returns-clause-read c =
    let is : is_among c.args.statement.now.word commanding ≡ true = search rules in
    let made = own_params c.args.other (entry_value c.args.self.now.variables) c.args.statement.now.params in (
      flat_statement (flat c.args.statement.now.word (held_or_none c.args.statement.now.word made)) 1,
      read_is c.args.statement.now.word c.in_ok-valued_line.field-0.items made (commanding_good c.args.statement.now.word is) c.in_ok-valued_line.ensures,
    )

pub returns-clause-valued : goal.returns-clause-valued
returns-clause-valued c above other k clash =
    let is : is_among c.args.statement.now.word commanding ≡ true = search rules in
    let bare : is_none c.args.statement.now.label ≡ true = search rules in
    let some : c.args.self.now.declared ≡ true = search rules in
    gives_valued above c.args.statement.now c.args.self.now.variables c.args.self.now.declared c.args.other c.in_ok-valued_line.field-0.items other bare is some k clash
    c.in_ok-valued_line.ensures

pub returns-then-all_stay-clause-valued : goal.returns-then-all_stay-clause-valued
returns-then-all_stay-clause-valued c above other k clash =
    let is : is_among c.args.statement.now.word commanding ≡ true = search rules in
    let bare : is_none c.args.statement.now.label ≡ true = search rules in
    let some : c.args.self.now.declared ≡ true = search rules in
    let free : c.args.other ≡ false = search rules in
    gives_same above c.args.statement.now c.args.self.now.variables c.args.self.now.declared other bare is some k (sym free ∙ clash) (rw c.deref-then-not-other.ensures at (c.all_stay.ensures c.if-all_stay.true))
