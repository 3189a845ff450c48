use Rattle.program_lowering.proofs.Names.{◌∙◌, sym}
use Rattle.program_lowering.proofs.EvenLemmas.{none_without, some_more}
use Rattle.program_lowering.proofs.even.touches_of.Goals as goal

pub returns-in_default : goal.returns-in_default
returns-in_default c = sym (none_without c.args.bore.now c.args.count c.loop-place.place c.args.count c.loop-place.made.items c.loop-place.invariant
    (sym c.in_ok-touch.ensures ∙ c.in_default.is) c.loop-place-test.true)

pub loop-place-preserved : goal.loop-place-preserved
loop-place-preserved c = some_more c.args.bore.now c.args.count c.loop-place.place c.loop-place.made.items c.push.new.self.items c.in-Some.touch
    c.loop-place.invariant (sym c.in_ok-touch.ensures ∙ c.in-Some.is) c.in_ok-push.ensures.items
