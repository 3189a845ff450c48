use Rattle.ledger_audit.proofs.Names.{[], ◌++◌, ◌+◌, ◌∷◌, ◌≡◌, ◌≤◌, AreFewestUnsound, arith, contacts, HasNoRun, IsFirstRun, length, List, rules}
use Rattle.ledger_audit.proofs.Names.{subst, sym, take, Wanted, ℕ}
use Rattle.ledger_audit.proofs.Greedy.{AreEarliest, all_unsound, passed_push, passed_stuck, passed_spent}
use Rattle.ledger_audit.proofs.auditing.audit.Goals as goal

pub returns-then-index-wanted-clause-no_run : goal.returns-then-index-wanted-clause-no_run
returns-then-index-wanted-clause-no_run c =
    let is : c.in_ok-contacts.contacts.items ≡ contacts c.args.ledger.now = search rules in
    let all : AreFewestUnsound c.features-wanted.result.now c.args.features.now c.args.ledger.now (c.loop-index.index + 1) =
    passed_spent _ _ _ _ _ _ _ c.index-features-index.result c.loop-index.invariant.0 is c.loop-index-test.true c.index-features-index.is
    c.if-index-wanted.true in
    subst (λ (ws : List Wanted). AreFewestUnsound ws c.args.features.now c.args.ledger.now (c.loop-index.index + 1))
    c.features-wanted.ensures.features all

pub returns-then-index-wanted-clause-sound : goal.returns-then-index-wanted-clause-sound
returns-then-index-wanted-clause-sound c = (λ none. absurd none, all_unsound _ _ _ _ (returns-then-index-wanted-clause-no_run c))

pub returns-in_default-clause-no_run : goal.returns-in_default-clause-no_run
returns-in_default-clause-no_run c =
    let is : c.in_ok-contacts.contacts.items ≡ contacts c.args.ledger.now = search rules in
    let none : HasNoRun c.index-wanted-index.result c.index-features-index.result c.loop-index.least c.in_ok-contacts.contacts.items =
    search rules in
    let all : AreFewestUnsound c.features-wanted.result.now c.args.features.now c.args.ledger.now (c.loop-index.index + 1) =
    passed_stuck _ _ _ _ _ _ _ c.index-wanted-index.result c.index-features-index.result c.loop-index.invariant.0 none is
    c.loop-index-test.true c.index-features-index.is c.index-wanted-index.is in
    subst (λ (ws : List Wanted). AreFewestUnsound ws c.args.features.now c.args.ledger.now (c.loop-index.index + 1))
    c.features-wanted.ensures.features all

pub returns-in_default-clause-sound : goal.returns-in_default-clause-sound
returns-in_default-clause-sound c = (λ none. absurd none, all_unsound _ _ _ _ (returns-in_default-clause-no_run c))

pub loop-index-preserved : goal.loop-index-preserved
loop-index-preserved c =
    let first : IsFirstRun c.index-wanted-index.result c.index-features-index.result c.loop-index.least c.in_ok-contacts.contacts.items
    c.in-Some.start = search rules in
    let earliest = passed_push c.features-wanted.result.now c.args.features.now c.in_ok-contacts.contacts.items c.loop-index.starts
    c.loop-index.least c.loop-index.index c.index-wanted-index.result c.index-features-index.result c.in-Some.start
    c.loop-index.invariant.0 first c.loop-index-test.true c.index-features-index.is c.if-index-wanted.false c.index-wanted-index.is in
    let starts : c.push.new.self ≡ c.loop-index.starts ++ c.in-Some.start ∷ [] = search rules in
    let long : c.len.result ≡ length c.index-features-index.result.points = c.len.ensures in
    let within : c.in-Some.start + length c.index-features-index.result.points ≤ length c.in_ok-contacts.contacts.items = search rules in (
      subst (λ (k : ℕ). AreEarliest c.features-wanted.result.now (take (c.loop-index.index + 1) c.args.features.now)
          c.in_ok-contacts.contacts.items c.push.new.self (c.in-Some.start + k)) (sym long)
          (subst (λ (ss : List ℕ). AreEarliest c.features-wanted.result.now (take (c.loop-index.index + 1) c.args.features.now)
          c.in_ok-contacts.contacts.items ss (c.in-Some.start + length c.index-features-index.result.points)) (sym starts) earliest),
      omega arith,
    )

pub returns-then-index-wanted-clause-unsound : goal.returns-then-index-wanted-clause-unsound
returns-then-index-wanted-clause-unsound c = (λ no. all_unsound _ _ _ _ (returns-then-index-wanted-clause-no_run c), λ no. tt)

pub returns-in_default-clause-unsound : goal.returns-in_default-clause-unsound
returns-in_default-clause-unsound c = (λ no. all_unsound _ _ _ _ (returns-in_default-clause-no_run c), λ no. tt)
