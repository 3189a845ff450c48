use Rattle.program_lowering.proofs.ExampleLemmas as example
use Rattle.program_lowering.proofs.laws.examples_of_texts.Goals as goal

pub returns-clause-oper : goal.returns-clause-oper
returns-clause-oper c = example.text_oper

pub returns-clause-man : goal.returns-clause-man
returns-clause-man c = example.text_man

pub returns-clause-outfil : goal.returns-clause-outfil
returns-clause-outfil c = example.text_outfil

pub returns-clause-display : goal.returns-clause-display
returns-clause-display c = example.text_display

pub returns-clause-noted : goal.returns-clause-noted
returns-clause-noted c = example.text_noted

pub returns-clause-fits : goal.returns-clause-fits
returns-clause-fits c = example.text_fits

pub returns-clause-dollar : goal.returns-clause-dollar
returns-clause-dollar c = example.text_dollar

pub returns-clause-blank : goal.returns-clause-blank
returns-clause-blank c = example.text_blank

pub returns-clause-others : goal.returns-clause-others
returns-clause-others c = example.text_others
