use Rattle.program_lowering.proofs.Names.{[], ◌∙◌, ◌≡◌, flat, flat_line, List, Option, refl, Some, subst, sym, true, ℕ}
use Rattle.std.specs.Result.{result_ok}
use Rattle.program_flow.specs.Texts.{expanded}
use Rattle.program_flow.specs.Variables.{entry_value}
use Rattle.program_lowering.specs.Carried.{IsFeature, named_as}
use Rattle.program_lowering.specs.Lowering.{ended}
use Rattle.program_lowering.specs.Valued.{is_word, own_params, word_in}
use Rattle.program_lowering.proofs.FeatureLemmas.{are_lines}
use Rattle.program_lowering.proofs.values.Values.named_lines.Goals as goal

pub returns : goal.returns
returns c without =
    let name = c.in-Some.name.items in
    let text = result_ok (expanded (entry_value c.args.self.now.variables) c.args.label.now) in
    let made = own_params c.args.other (entry_value c.args.self.now.variables) c.args.statement.now.params in
    let word : is_word name ≡ true = rw c.deref.ensures.value at (sym c.is_word.ensures ∙ c.if-not-is_word.false) in
    let line : c.in_ok-label.label.items ≡ ended (flat_line (flat name []) 1) = rw c.deref-2.ensures.value at c.in_ok-label.ensures in
    let given : Some name ≡ text = rw c.in-Some.is at c.in_ok-name.ensures in
    let labelled : Some name ≡ word_in text = rw (sym given, word) refl in
    subst (λ (o : Option (List ℕ)). IsFeature c.in_ok-label.label.items c.in_ok-line.line.items c.args.statement.now (named_as c.args.statement.now without o made))
    labelled
    (are_lines c.args.statement.now name c.in_ok-label.label.items c.in_ok-line.line.items made c.requires word line c.in_ok-line.ensures)
