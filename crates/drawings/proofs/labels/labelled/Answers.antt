use Rattle.drawings.proofs.Names.{arith, length-take-le, sym, take_all}
use Rattle.drawings.proofs.labels.labelled.Goals as goal

pub slice_bounds-result-end : goal.slice_bounds-result-end
slice_bounds-result-end c = sym (length-take-le 33 c.args.marks.now (omega arith))

pub returns-then-marks-le-MOST-clause-first : goal.returns-then-marks-le-MOST-clause-first
returns-then-marks-le-MOST-clause-first c = sym (take_all 33 c.args.marks.now c.if-marks-le-MOST.true)

pub returns-else-marks-le-MOST-clause-few : goal.returns-else-marks-le-MOST-clause-few
returns-else-marks-le-MOST-clause-few c = let e = length-take-le 33 c.args.marks.now (omega arith) in omega (arith, e)
