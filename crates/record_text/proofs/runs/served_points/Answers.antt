use Rattle.record_text.proofs.Names.{◌+◌, ◌<◌, ◌∙◌, arith, drop, drop_all, length, length-drop, List, Point, subst, sym}
use Rattle.record_text.proofs.HeadLines.{drop_item}
use Rattle.record_text.proofs.ServedRuns.{IsLeft, left_all, other_contact, ends_short, ends_whole}
use Rattle.record_text.proofs.runs.served_points.Goals as goal

pub loop-entry-init : goal.loop-entry-init
loop-entry-init c = subst (λ (ps : List Point). IsLeft c.args.connection c.args.touches.now c.args.acts.now ps
    (drop (length ps) c.args.touches.now) c.args.acts.now) (sym c.new-points.ensures)
    (left_all c.args.connection c.args.touches.now c.args.acts.now)

pub returns-in_default-served_point : goal.returns-in_default-served_point
returns-in_default-served_point c ps h =
    let act = drop_item c.loop-entry.entry-index c.args.acts.now c.entry-item.result c.loop-entry-test.true c.entry-item.is in
    let found = rw c.len.ensures at c.in-Some.ensures.lookup in
    let touch = drop_item (length c.loop-entry.points) c.args.touches.now c.in-Some.touch.now found.3.0 found.1 in
    let all = c.loop-entry.invariant in
    other_contact c.args.connection c.entry-item.result.0 c.args.touches.now (drop (length c.loop-entry.points + 1) c.args.touches.now)
    c.in-Some.touch.now c.args.acts.now (drop (c.loop-entry.entry-index + 1) c.args.acts.now) c.loop-entry.points ps
    c.entry-item.result.1 (rw (act, touch) at all) (sym c.is_contact.ensures ∙ c.if-not-is_contact.false)
    (rw c.in_default-served_point.is at c.served_point.ensures) h

pub returns-then-len-touches : goal.returns-then-len-touches
returns-then-len-touches c ps h =
    let few : length c.loop-entry.points < length c.args.touches.now = rw (sym c.len-2.ensures) c.if-len-touches.true in
    ends_short c.args.connection c.args.touches.now (drop (length c.loop-entry.points) c.args.touches.now) c.args.acts.now
    (drop c.loop-entry.entry-index c.args.acts.now) c.loop-entry.points ps c.loop-entry.invariant
    (drop_all c.loop-entry.entry-index c.args.acts.now c.loop-entry-test.false)
    (rw (length-drop (length c.loop-entry.points) c.args.touches.now) (omega (arith, few))) h

pub returns : goal.returns
returns c = ends_whole c.args.connection c.args.touches.now (drop (length c.loop-entry.points) c.args.touches.now) c.args.acts.now
    (drop c.loop-entry.entry-index c.args.acts.now) c.loop-entry.points c.loop-entry.invariant
    (drop_all c.loop-entry.entry-index c.args.acts.now c.loop-entry-test.false)
    (drop_all (length c.loop-entry.points) c.args.touches.now (rw (sym c.len-2.ensures) c.if-len-touches.false))
