use Rattle.ledger_audit.proofs.Names.{◌+◌, ◌-◌, ◌<◌, ◌≡◌, ◌≤◌, arith, asked_at, IsLeastShift, length, rules, slice_index_or}
use Rattle.ledger_audit.proofs.ShiftLaws.{shift_most, candidate_moved}
use Rattle.ledger_audit.proofs.shifts.least_shift.Goals as goal

pub overflow_add-shift : goal.overflow_add-shift
overflow_add-shift c =
    let below : c.loop-shift.shift < length c.args.shifts.now = search rules in
    let held : length c.args.shifts.now - 1 - c.loop-shift.shift < length c.args.shifts.now = omega arith in
    let most : slice_index_or c.args.shifts.now (length c.args.shifts.now - 1 - c.loop-shift.shift) 0
    ≤ length c.args.shifts.now - 1 - c.loop-shift.shift + 1 =
    shift_most (asked_at c.args.touches.now c.args.points.now) _ _ (c.requires.shifts.each _ held) in
    omega arith

pub loop-shift-preserved : goal.loop-shift-preserved
loop-shift-preserved c =
    let below : c.loop-shift.shift < length c.args.shifts.now = search rules in
    let held : length c.args.shifts.now - 1 - c.loop-shift.shift < length c.args.shifts.now = omega arith in
    let whole : c.loop-shift.shift + (length c.args.shifts.now - 1 - c.loop-shift.shift) + 1 ≡ length c.args.shifts.now = omega arith in
    let least : IsLeastShift (asked_at c.args.touches.now c.args.points.now) (length c.args.shifts.now - 1 - c.loop-shift.shift)
    (slice_index_or c.args.shifts.now (length c.args.shifts.now - 1 - c.loop-shift.shift) 0) = c.requires.shifts.each _ held in
    candidate_moved _ _ _ _ _ c.loop-shift.invariant (λ last. let no = c.last_meets.ensures.meets.1 last in absurd (search rules)) whole
    least
