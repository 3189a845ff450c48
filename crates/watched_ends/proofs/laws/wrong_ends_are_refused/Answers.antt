use Rattle.std.proofs.Common.{◌≡◌, List, [], ◌∷◌, ap, sym, length, inl, inr}
use Rattle.watched_ends.proofs.Refusals.{swapped_fails, unprinted_fails, unsaid_fails}
use Rattle.watched_ends.proofs.laws.wrong_ends_are_refused.Goals as goal

pub returns-clause-early : goal.returns-clause-early
returns-clause-early c = λ k. elim k.printed [ inl e ↦ absurd cc | inr p ↦ let e = p.1.reports.ended in absurd cc ]

pub returns-clause-twice : goal.returns-clause-twice
returns-clause-twice c = λ k. elim k.printed [ inl e ↦ absurd cc | inr p ↦ let e = p.1.printed in absurd cc ]

pub returns-clause-silent : goal.returns-clause-silent
returns-clause-silent c = λ k. elim k.printed [ inl e ↦ absurd cc | inr p ↦ let e = p.1.noted.1 in absurd cc ]

pub returns-clause-swapped : goal.returns-clause-swapped
returns-clause-swapped c = swapped_fails

pub returns-clause-unprinted : goal.returns-clause-unprinted
returns-clause-unprinted c = unprinted_fails

pub returns-clause-unsaid : goal.returns-clause-unsaid
returns-clause-unsaid c = unsaid_fails
