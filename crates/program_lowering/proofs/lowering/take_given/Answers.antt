use Rattle.program_lowering.proofs.Names.{◌∙◌, Statement, subst, sym}
use Rattle.program_lowering.specs.Carried.{IsRead, TakesValued, seen_by, touched_step}
use Rattle.program_lowering.proofs.GivenLemmas.{item_at}
use Rattle.program_lowering.proofs.lowering.take_given.Goals as goal

pub returns-in-Stated : goal.returns-in-Stated
returns-in-Stated c = λ above s of known.
    let at = rw c.in-Stated.is at of in
    let is = item_at c.in-Stated.place c.args.statements.now s c.index-statements-place.result at.0 at.1 c.index-statements-place.is in
    subst (λ (t : Statement). TakesValued c.take_valued.result c.take_valued.new.lowering c.args.reference.now c.take_valued.new.reference
    c.take_valued.new.even c.take_valued.new.values above t (touched_step c.args.frames.now c.args.choices c.args.even.now c.args.lowering.now) (seen_by c.args.choices c.args.even.now)) is
    (c.take_valued.ensures above known)

pub returns-in_ok-made-in-Made : goal.returns-in_ok-made-in-Made
returns-in_ok-made-in-Made c = λ above s of known.
    let at = rw c.in-Made.is at of in
    let there : IsRead c.in-Made.text.items at.0 = record { only = at.1 } in
    let read : IsRead c.deref.result.now at.0 = rw c.deref.ensures.value there in
    let is = c.in_ok-made-in-Made.ensures.read at.0 read ∙ sym at.2 in
    subst (λ (t : Statement). TakesValued c.take_valued-in-Made.result c.take_valued-in-Made.new.lowering c.args.reference.now
    c.take_valued-in-Made.new.reference c.take_valued-in-Made.new.even c.take_valued-in-Made.new.values above t
    (touched_step c.args.frames.now c.args.choices c.args.even.now c.args.lowering.now) (seen_by c.args.choices c.args.even.now)) is (c.take_valued-in-Made.ensures above known)
