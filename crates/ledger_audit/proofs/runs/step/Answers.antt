use Rattle.ledger_audit.proofs.Names.{◌+◌, ◌-◌, ◌<◌, ◌≡◌, ◌≤◌, arith, asked_at, Begins, connection_by, contact_at, IsLeastShift, length, rules}
use Rattle.ledger_audit.proofs.Names.{slice_index_or, Some, subst, ℕ}
use Rattle.ledger_audit.proofs.ShiftLaws.{shift_most}
use Rattle.ledger_audit.proofs.SearchLaws.{contact_read, connection_read, fits_by, unfit_by, begins_more, begins_moved, moved_none, crossed_none}
use Rattle.ledger_audit.proofs.runs.step.Goals as goal

pub returns-then-connection-clause-passed : goal.returns-then-connection-clause-passed
returns-then-connection-clause-passed c =
    let far : connection_by (contact_at c.args.contacts.now (c.args.search.start + c.args.search.served)) ≡ Some c.connection.result =
    connection_read _ _ c.index-contacts-start-2.result _ c.connection.ensures c.requires.contact c.index-contacts-start-2.is in
    let held : c.args.search.start < length c.args.contacts.now = omega arith in
    let near : connection_by (contact_at c.args.contacts.now c.args.search.start) ≡ Some c.connection-2.result =
    connection_read _ _ c.index-contacts-start.result _ c.connection-2.ensures held c.index-contacts-start.is in
    crossed_none _ _ _ _ _ c.requires.begins c.requires.touch
    (λ same. let one : c.connection.result ≡ c.connection-2.result = cc (far, near, same) in absurd (omega arith))

pub returns-then-same_probing-clause-begins : goal.returns-then-same_probing-clause-begins
returns-then-same_probing-clause-begins c =
    let far : connection_by (contact_at c.args.contacts.now (c.args.search.start + c.args.search.served)) ≡ Some c.connection.result =
    connection_read _ _ c.index-contacts-start-2.result _ c.connection.ensures c.requires.contact c.index-contacts-start-2.is in
    let held : c.args.search.start < length c.args.contacts.now = omega arith in
    let near : connection_by (contact_at c.args.contacts.now c.args.search.start) ≡ Some c.connection-2.result =
    connection_read _ _ c.index-contacts-start.result _ c.connection-2.ensures held c.index-contacts-start.is in
    let one : c.connection.result ≡ c.connection-2.result = search rules in
    let next : contact_at c.args.contacts.now (c.args.search.start + c.args.search.served) ≡ Some c.index-contacts-start-2.result =
    contact_read _ _ c.index-contacts-start-2.result c.requires.contact c.index-contacts-start-2.is in
    begins_more _ _ _ _ _ c.requires.begins c.requires.contact
    (fits_by c.args.touches.now c.args.points.now c.args.contacts.now (c.args.search.start + c.args.search.served) c.args.search.served
    c.index-contacts-start-2.result c.probing.result c.asked.result next c.probing.ensures c.asked.ensures
    (c.same_probing.ensures.0 (search rules))) (cc (far, near, one))

pub overflow_add-result-2 : goal.overflow_add-result-2
overflow_add-result-2 c =
    let most : slice_index_or c.args.shifts.now c.args.search.served 0 ≤ c.args.search.served + 1 =
    shift_most (asked_at c.args.touches.now c.args.points.now) _ _ (c.requires.shifts.each c.args.search.served (omega arith)) in
    omega arith

pub returns-clause-begins : goal.returns-clause-begins
returns-clause-begins c =
    let least : IsLeastShift (asked_at c.args.touches.now c.args.points.now) c.args.search.served
    (slice_index_or c.args.shifts.now c.args.search.served 0) = c.requires.shifts.each c.args.search.served (omega arith) in
    let is : c.args.search.served - slice_index_or c.args.shifts.now c.args.search.served 0 ≡ c.saturating_sub.result = omega arith in
    subst (λ (q : ℕ). Begins c.args.touches.now c.args.points.now c.args.contacts.now
    (c.args.search.start + slice_index_or c.args.shifts.now c.args.search.served 0) q) is
    (begins_moved _ _ _ _ _ _ c.requires.begins least c.requires.contact)

pub returns-clause-passed : goal.returns-clause-passed
returns-clause-passed c =
    let least : IsLeastShift (asked_at c.args.touches.now c.args.points.now) c.args.search.served
    (slice_index_or c.args.shifts.now c.args.search.served 0) = c.requires.shifts.each c.args.search.served (omega arith) in
    let next : contact_at c.args.contacts.now (c.args.search.start + c.args.search.served) ≡ Some c.index-contacts-start-2.result =
    contact_read _ _ c.index-contacts-start-2.result c.requires.contact c.index-contacts-start-2.is in
    moved_none _ _ _ _ _ _ c.requires.begins least c.requires.touch
    (unfit_by c.args.touches.now c.args.points.now c.args.contacts.now (c.args.search.start + c.args.search.served) c.args.search.served
    c.index-contacts-start-2.result c.probing.result c.asked.result next c.probing.ensures c.asked.ensures
    (λ same. let no = c.same_probing.ensures.1 same in absurd (search rules)))
