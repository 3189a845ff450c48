use Rattle.std.proofs.Common.{◌≡◌, ℕ, ◌+◌, List, [], ◌∷◌, ◌++◌, length, length-append, ap, sym, subst, rules, arith}
use Rattle.ledger_audit.specs.Shifts.{asked_at, IsLeastShift, IsCandidate, AreShifts}
use Rattle.ledger_audit.proofs.ShiftLaws.{candidate_next, shifts_push}
use Rattle.ledger_audit.proofs.shifts.shifts_of.Goals as goal

pub loop-shifts-preserved : goal.loop-shifts-preserved
loop-shifts-preserved c =
    let items : c.push.new.self.items ≡ c.loop-shifts.shifts.items ++ c.least_shift-shift.result ∷ [] = search rules in
    let long : length c.push.new.self.items ≡ length c.loop-shifts.shifts.items + 1 =
    omega (arith, ap length items, length-append c.loop-shifts.shifts.items (c.least_shift-shift.result ∷ [])) in
    let same : c.as_slice.result.now ≡ c.loop-shifts.shifts.items = c.as_slice.ensures.value in
    let least : IsLeastShift (asked_at c.args.touches.now c.args.points.now) (length c.loop-shifts.shifts.items)
    c.least_shift-shift.result =
    subst (λ (l : List ℕ). IsLeastShift (asked_at c.args.touches.now c.args.points.now) (length l) c.least_shift-shift.result) same
    c.least_shift-shift.ensures in
    record {
      shifts = subst (λ (l : List ℕ). AreShifts (asked_at c.args.touches.now c.args.points.now) l) (sym items)
          (shifts_push _ _ _ c.loop-shifts.invariant.shifts least);
      next = subst (λ (n : ℕ). IsCandidate (asked_at c.args.touches.now c.args.points.now) n c.least_shift-shift.result) (sym long)
          (candidate_next _ _ _ least);
      within = omega (arith, long);
    }
