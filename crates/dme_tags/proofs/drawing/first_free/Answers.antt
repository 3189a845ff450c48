use Rattle.dme_tags.proofs.Names.{◌∙◌, ◌≡◌, ap, arith, is_held, numbered, sym, Tag, true}
use Rattle.dme_tags.proofs.Numbers.{held_next, held_more}
use Rattle.dme_tags.proofs.drawing.first_free.Goals as goal

pub loop-number-preserved : goal.loop-number-preserved
loop-number-preserved c =
    let here : is_held (numbered c.args.sort c.loop-number.number) c.args.commands.now ≡ true =
    ap (λ (t : Tag). is_held t c.args.commands.now) (sym c.tag.ensures) ∙ sym c.is_held.ensures ∙ c.if-not-is_held.false in
    record {
      same = c.loop-number.invariant.same ∙ held_next (numbered c.args.sort) c.args.commands.now c.loop-number.number 10000 (omega arith)
          here;
      held = held_more (numbered c.args.sort) c.args.commands.now c.args.from c.loop-number.number c.loop-number.invariant.held here;
    }
