use Rattle.record_text.proofs.Names.{◌-◌, ◌<◌, ◌∙◌, ◌≡◌, ◌≤◌, Act, ap, contacts, drop, Finds, IfOk, Kept, length, List, refl, Serves, subst, Touch, ℕ}
use Rattle.record_text.proofs.BodySteps.{contacts_counted, too_few, last_found}
use Rattle.record_text.proofs.bodies.Body.last_points.Goals as goal

pub returns-then-unused-count : goal.returns-then-unused-count
returns-then-unused-count c points h =
    let few : length (contacts c.self.inside.told) - c.self.inside.used < length c.args.wanted.now.touches =
    rw (contacts_counted c.self.inside.told, ← c.contacts.ensures, ← c.saturating_sub-unused.ensures, ← c.touches.ensures)
    c.if-unused-count.true in
    too_few c.args.self.now c.args.wanted.now c.args.connection points (rw (← c.self.view_is) few) h

pub returns : goal.returns
returns c =
    let room : length c.args.wanted.now.touches ≤ length (contacts c.self.inside.told) - c.self.inside.used =
    rw (contacts_counted c.self.inside.told, ← c.contacts.ensures, ← c.saturating_sub-unused.ensures, ← c.touches.ensures)
    c.if-unused-count.false in
    let skipped : c.saturating_sub-unused.result - length c.touches.result.now
    ≡ length (contacts c.self.inside.told) - c.self.inside.used - length c.args.wanted.now.touches =
    rw (contacts_counted c.self.inside.told, ← c.contacts.ensures, ← c.saturating_sub-unused.ensures, ← c.touches.ensures) refl in
    let acts = ap (λ (l : List (ℕ × Act)). contacts l) (c.split_at.ensures.back ∙ ap (λ (l : List (ℕ × Act)). drop c.self.inside.from l) c.acts.ensures.0) in
    let behind = rw acts at c.behind_contacts-acts.ensures in
    let serves = subst (λ (ts : List Touch). IfOk c.served_points.result (λ found. Finds found (λ points.
    Serves c.args.connection ts points (contacts c.behind_contacts-acts.result.now)))) c.touches-2.ensures c.served_points.ensures in
    let kept : Kept = record {
      features = c.self.inside.features;
      told = c.self.inside.told;
      used = c.self.inside.used;
      last = c.self.inside.last;
      waiting = c.self.inside.waiting.items;
      errors = c.self.inside.errors.items;
      notes = c.self.inside.notes.items;
    } in
    rw (← c.self.view_is) (last_found kept c.args.wanted.now c.args.connection c.self.inside.from
    (c.saturating_sub-unused.result - length c.touches.result.now) c.behind_contacts-acts.result.now c.served_points.result
    c.self.invariant room skipped behind serves)
