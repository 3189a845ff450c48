use Rattle.program_lowering.proofs.Names.{◌∙◌, ap, Err, fault_at, GivesLines, length, lines, List, Statement, subst, sym, text_reading, ℕ}
use Rattle.program_flow.specs.Flow.{carried}
use Rattle.program_flow.specs.Left.{IsGiven, left_of}
use Rattle.program_lowering.specs.Cartesian.{all_cartesian, cartesian, made_cartesian}
use Rattle.program_lowering.specs.EvenTouches.{touched_from}
use Rattle.program_lowering.specs.Valued.{all_valued, valued}
use Rattle.program_lowering.proofs.EndLemmas.{at_end, at_statement, closes_at, finished, goes_round, split_next, written_of}
use Rattle.program_lowering.proofs.EvenLemmas.{due_on, no_more}
use Rattle.program_lowering.proofs.FeatureLemmas.{valued_line}
use Rattle.program_lowering.proofs.ValuedLemmas.{same_place}
use Rattle.program_lowering.proofs.lowering.lines_of.Goals as goal

pub returns-in_default-next-2 : goal.returns-in_default-next-2
returns-in_default-next-2 c =
    let known = c.loop-next.invariant in
    let none = rw c.in_default-next-2.is at (c.in-Ok-next.ensures.given known.0 known.1.0.holds) in
    let end = c.in-Ok.ensures.end ∙ c.new-statements.ensures.fault in
    let count = c.lines.ensures ∙ (c.in-Ok.ensures.lines ∙ c.new-statements.ensures.lines) in
    let rest = λ (ss : List Statement). touched_from c.args.choices known.2.0 (all_cartesian c.loop-next.reference (all_valued known.0 ss)) in
    rw (c.missing_end.ensures, end, count) (at_end c.args.frames.now c.args.choices c.args.answers.now c.args.bytes.now
    (rest (left_of c.loop-next.flow known.0)) c.loop-next.lowering (ap rest none ∙ no_more c.args.choices known.2.0) known.2.2)

pub take_given-requires : goal.take_given-requires
take_given-requires c =
    let known = c.loop-next.invariant in
    let next = rw c.in-Some.is at (c.in-Ok-next.ensures.given known.0 known.1.0.holds) in
    (next.0, subst (λ (ss : List Statement). IsGiven ss c.in-Some.given next.0) (sym (c.outside-outside.ensures ∙ c.next.ensures.outside)) next.1)

pub line_of-requires : goal.line_of-requires
line_of-requires c =
    let known = c.loop-next.invariant in
    let next = rw c.in-Some.is at (c.in-Ok-next.ensures.given known.0 known.1.0.holds) in
    (next.0, subst (λ (ss : List Statement). IsGiven ss c.in-Some.given next.0) (sym (c.outside-outside.ensures ∙ c.next.ensures.outside)) next.1)

pub returns-in-Ok-true : goal.returns-in-Ok-true
returns-in-Ok-true c =
    let known = c.loop-next.invariant in
    let next = rw c.in-Some.is at (c.in-Ok-next.ensures.given known.0 known.1.0.holds) in
    let of = subst (λ (ss : List Statement). IsGiven ss c.in-Some.given next.0) (sym (c.outside-outside.ensures ∙ c.next.ensures.outside)) next.1 in
    let s = cartesian c.loop-next.reference (valued known.0 next.0) in
    let split = split_next c.args.choices known.2.0 known.0 (left_of c.loop-next.flow known.0) (left_of c.next.new.self (carried known.0 next.0))
    c.loop-next.reference c.loop-next.even next.0 known.2.1 next.2 in
    let on = due_on c.args.choices c.loop-next.even s in
    let due = rw c.in-Ok-true.field-0-test at (c.in-Ok-true.ensures known.0 next.0 of known.1).0.0 in
    let closed = closes_at c.args.frames.now c.args.choices (text_reading c.args.bytes.now).fault (length (lines c.args.bytes.now)) s.line _ _ _
    c.loop-next.lowering c.take_given.new.lowering split on due in
    let w = written_of c.args.frames.now c.args.choices c.args.answers.now c.args.bytes.now _ (sym known.2.2 ∙ closed) in
    finished c.args.frames.now c.args.choices c.args.answers.now c.args.bytes.now _ _ c.finish.result w c.finish.ensures.text c.finish.ensures.notes c.finish.ensures.err

pub returns-in-Err : goal.returns-in-Err
returns-in-Err c =
    let known = c.loop-next.invariant in
    let next = rw c.in-Some.is at (c.in-Ok-next.ensures.given known.0 known.1.0.holds) in
    let of = subst (λ (ss : List Statement). IsGiven ss c.in-Some.given next.0) (sym (c.outside-outside.ensures ∙ c.next.ensures.outside)) next.1 in
    let s = cartesian c.loop-next.reference (valued known.0 next.0) in
    let split = split_next c.args.choices known.2.0 known.0 (left_of c.loop-next.flow known.0) (left_of c.next.new.self (carried known.0 next.0))
    c.loop-next.reference c.loop-next.even next.0 known.2.1 next.2 in
    let on = due_on c.args.choices c.loop-next.even s in
    let v = valued known.0 next.0 in
    let line = same_place v (made_cartesian c.loop-next.reference v) ∙ valued_line known.0 next.0 in
    rw c.fault_at.ensures (subst (λ (n : ℕ). GivesLines c.args.frames.now c.args.choices c.args.answers.now c.args.bytes.now (Err (fault_at c.in-Err.fault n)))
    (line ∙ sym (c.line_of.ensures next.0 of)) (at_statement c.args.frames.now c.args.choices c.args.answers.now c.args.bytes.now c.in-Err.fault
    (text_reading c.args.bytes.now).fault (length (lines c.args.bytes.now)) s.line _ _ _ c.loop-next.lowering c.take_given.new.lowering split on
    (c.in-Err.ensures known.0 next.0 of known.1).0.0 known.2.2))

pub loop-next-preserved-in-Ok-false : goal.loop-next-preserved-in-Ok-false
loop-next-preserved-in-Ok-false c =
    let known = c.loop-next.invariant in
    let next = rw c.in-Some.is at (c.in-Ok-next.ensures.given known.0 known.1.0.holds) in
    let of = subst (λ (ss : List Statement). IsGiven ss c.in-Some.given next.0) (sym (c.outside-outside.ensures ∙ c.next.ensures.outside)) next.1 in
    let taken = c.in-Ok-false.ensures known.0 next.0 of known.1 in
    goes_round c.args.frames.now c.args.choices c.args.answers.now c.args.bytes.now known.2.0 known.0 (left_of c.loop-next.flow known.0) (left_of c.next.new.self)
    c.loop-next.reference c.take_given.new.reference c.loop-next.even c.take_given.new.even c.loop-next.lowering c.take_given.new.lowering next.0
    c.take_given.new.values known.2.1 next.2 (rw c.in-Ok-false.field-0-test at taken.0.0) taken.0.1.0
    taken.0.1.1 taken.1 known.2.2

pub loop-next-preserved : goal.loop-next-preserved
loop-next-preserved c =
    let known = c.loop-next.invariant in
    let next = rw c.in-Some.is at (c.in-Ok-next.ensures.given known.0 known.1.0.holds) in
    let of = subst (λ (ss : List Statement). IsGiven ss c.in-Some.given next.0) (sym (c.outside-outside.ensures ∙ c.next.ensures.outside)) next.1 in
    let taken = c.in-Ok-false.ensures known.0 next.0 of known.1 in
    goes_round c.args.frames.now c.args.choices c.args.answers.now c.args.bytes.now known.2.0 known.0 (left_of c.loop-next.flow known.0) (left_of c.next.new.self)
    c.loop-next.reference c.take_given.new.reference c.loop-next.even c.take_given.new.even c.loop-next.lowering c.take_given.new.lowering next.0
    c.take_given.new.values known.2.1 next.2 (rw c.in-Ok-false.field-0-test at taken.0.0) taken.0.1.0
    taken.0.1.1 taken.1 known.2.2
