use Rattle.program_lowering.proofs.Names.{[], ◌∙◌, ◌≡◌, None, Statement, subst, sym}
use Rattle.program_flow.specs.Flow.{carried}
use Rattle.program_lowering.specs.Carried.{IsFeature, IsRead, Knows, KnowsParts, TakesCartesian, seen_by, touched_step}
use Rattle.program_lowering.specs.Valued.{commanded, valued}
use Rattle.program_lowering.proofs.FeatureLemmas.{labelled_is}
use Rattle.program_lowering.proofs.ValuedLemmas.{on_ok, read_again}
use Rattle.program_lowering.proofs.lowering.take_valued.Goals as goal

pub read_back-requires : goal.read_back-requires
read_back-requires c = let lines = rw c.in-Some.is at c.in_ok-feature.ensures.read in rw c.deref.ensures.value lines.0

pub read_back-requires-in-Some : goal.read_back-requires-in-Some
read_back-requires-in-Some c = let lines = rw c.in-Some.is at c.in_ok-feature.ensures.read in rw c.deref-in-Some.ensures.value lines.1

pub returns-in-Some : goal.returns-in-Some
returns-in-Some c above all =
    let s = c.args.statement.now in
    let v = valued above s in
    let entered = c.in_ok-other.ensures.known above all in
    let k : Knows above c.enter_label.new.self.variables c.enter_label.new.self.declared = rw (c.enter_label.ensures.same.0, c.enter_label.ensures.same.1) all.0 in
    let f : IsFeature c.in-Some.lines.label.items c.in-Some.lines.line.items s v = rw c.in-Some.is at (c.in_ok-feature.ensures.valued above k entered.0) in
    let named = c.in_ok-named.ensures.read (record { line = 1; label = None; word = f.name; params = [] }) (rw c.deref.ensures.value f.named) in
    let read = c.in_ok-read.ensures.read (record { line = 1; label = None; word = s.word; params = f.params }) (rw c.deref-in-Some.ensures.value f.read) in
    let is = c.labelled-valued.ensures ∙ labelled_is s v c.in_ok-named.named c.in_ok-read.read c.in-Some.lines.label.items c.in-Some.lines.line.items f named read in (
      subst (λ (t : Statement). TakesCartesian c.take_cartesian.result c.take_cartesian.new.lowering c.args.reference.now
          c.take_cartesian.new.reference c.take_cartesian.new.even t
          (touched_step c.args.frames.now c.args.choices c.args.even.now c.args.lowering.now) (seen_by c.args.choices c.args.even.now)) is c.take_cartesian.ensures,
      on_ok c.take_cartesian.result ((c.in_ok-line.ensures.valued above k entered.0).0, subst (KnowsParts (carried above s)) (sym c.take.ensures.labels) entered.1),
    )

pub returns : goal.returns
returns c above all =
    let s = c.args.statement.now in
    let v = commanded above s in
    let entered = c.in_ok-other.ensures.known above all in
    let k : Knows above c.enter_label.new.self.variables c.enter_label.new.self.declared = rw (c.enter_label.ensures.same.0, c.enter_label.ensures.same.1) all.0 in
    let other : valued above s ≡ v = rw c.in_default.is at (c.in_ok-feature.ensures.valued above k entered.0) in
    let given = rw c.in-Some-line.is at (c.in_ok-line.ensures.valued above k entered.0) in
    let read : IsRead c.deref-2.result.now (record v { line = 1 }) = rw c.deref-2.ensures.value given.1.0 in
    let is = (c.in_ok-valued.ensures.read (record v { line = 1 }) read ∙ read_again v s.line given.1.1) ∙ sym other in (
      subst (λ (t : Statement). TakesCartesian c.take_cartesian-2.result c.take_cartesian-2.new.lowering c.args.reference.now
          c.take_cartesian-2.new.reference c.take_cartesian-2.new.even t
          (touched_step c.args.frames.now c.args.choices c.args.even.now c.args.lowering.now) (seen_by c.args.choices c.args.even.now)) is c.take_cartesian-2.ensures,
      on_ok c.take_cartesian-2.result (given.0, subst (KnowsParts (carried above s)) (sym c.take.ensures.labels) entered.1),
    )
