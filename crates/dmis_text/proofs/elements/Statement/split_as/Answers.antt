use Rattle.std.proofs.Common.{arith, refl}
use Rattle.dmis_text.proofs.Capitals.{front_of_cut, behind_cut}
use Rattle.dmis_text.proofs.Commas.{behind_bare}
use Rattle.dmis_text.proofs.SplittingLaws.{no_label}
use Rattle.dmis_text.proofs.elements.Statement.split_as.Goals as goal

pub split-requires-clause-capitals : goal.split-requires-clause-capitals
split-requires-clause-capitals c = λ capitals. behind_cut 47 _ _ _ c.in-Some.ensures.cut (c.requires.capitals capitals) refl

pub split-requires-clause-bare : goal.split-requires-clause-bare
split-requires-clause-bare c = λ bare. behind_bare 47 c.args.text.now _ _ c.in-Some.ensures.cut (c.requires.bare bare)

pub element-requires-then-first-head : goal.element-requires-then-first-head
element-requires-then-first-head c = λ capitals. front_of_cut 47 _ _ _ c.in-Some.ensures.cut (c.requires.capitals capitals)

pub returns-then-first-head : goal.returns-then-first-head
returns-then-first-head c =
    let none = no_label c.args.text.now c.in-Some.head.now c.in-Some.behind.now c.in-Some.ensures.cut
    (omega (arith, c.first_mark-first.ensures.run, c.if-first-head.true)) in
    rw (c.in-Some.ensures.cut, none, c.in_ok-word-2.ensures, c.in_ok-params.ensures)

pub headed-requires : goal.headed-requires
headed-requires c = λ capitals. front_of_cut 47 _ _ _ c.in-Some.ensures.cut (c.requires.capitals capitals)
