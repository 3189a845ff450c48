use Rattle.fixed_um.proofs.Names.{◌∙◌, ◌≡◌, ap, negsuc, pos, rules, sym, written_component}
use Rattle.fixed_um.proofs.WrittenLemmas.{zero_component, one_component, minus_one_component}
use Rattle.fixed_um.proofs.writing.text_on_axis.Goals as goal

pub returns-in-0-clause-text : goal.returns-in-0-clause-text
returns-in-0-clause-text c = let e : c.args.value ≡ pos 0 = search rules in zero_component ∙ ap written_component (sym e)

pub returns-in-1000000-clause-text : goal.returns-in-1000000-clause-text
returns-in-1000000-clause-text c = let e : c.args.value ≡ pos 1000000 = search rules in one_component ∙ ap written_component (sym e)

pub returns-in-minus1000000-clause-text : goal.returns-in-minus1000000-clause-text
returns-in-minus1000000-clause-text c =
    let e : c.args.value ≡ negsuc 999999 = search rules in minus_one_component ∙ ap written_component (sym e)
