use Rattle.std.proofs.Common.{◌+◌, ◌<◌, length, arith}
use Rattle.ledger_audit.proofs.SearchLaws.{none_join, none_left}
use Rattle.ledger_audit.proofs.runs.first_served.Goals as goal

pub returns-then-contacts-search-clause-none : goal.returns-then-contacts-search-clause-none
returns-then-contacts-search-clause-none c =
    let few : length c.args.contacts.now < c.loop-search.search.start + length c.args.points.now = omega arith in
    none_left _ _ _ _ _ _ c.loop-search.invariant.before few

pub loop-search-preserved : goal.loop-search-preserved
loop-search-preserved c = record {
  begins = c.step-search.ensures.begins;
  before = none_join _ _ _ _ _ _ c.loop-search.invariant.before c.step-search.ensures.passed;
  from = omega arith;
  served = c.step-search.ensures.served;
}
