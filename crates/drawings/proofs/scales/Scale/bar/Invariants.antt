use Rattle.drawings.proofs.Names.{◌+◌, ◌<◌, ◌≤◌, on_paper, round, ℕ}
use Rattle.drawings.proofs.scales.Scale.bar.Given as goal

-- no length that was tried fits
abbrev pub invariant-loop-back : goal.invariant-loop-back
invariant-loop-back l = (longer : ℕ) → 30 < longer + l.back → longer ≤ 30 → on_paper l.self (round longer) ≤ l.room → ⊥
