use Rattle.record_text.proofs.Names.{[], ◌++◌, ◌-◌, ◌∙◌, ◌∷◌, Act, ap, contact_count, errors_during, Feature, Kept, length, List, Some, ℕ}
use Rattle.record_text.proofs.BodySteps.{unused_none, completes}
use Rattle.record_text.proofs.bodies.Body.complete.Goals as goal

pub invariant_of-self-2 : goal.invariant_of-self-2
invariant_of-self-2 c = unused_none c.self.inside.told c.contacts-self-inside.result (length c.acts.result.now)
    c.contacts-self-inside.ensures (ap (λ (l : List (ℕ × Act)). length l) c.acts.ensures.0)

pub returns-clause-completes : goal.returns-clause-completes
returns-clause-completes c =
    let found = rw c.in-Some.is at c.in_ok-frame.ensures in
    let feature : Feature = record {
      label = c.args.label;
      points = c.in-Some.points;
      origin = Some (record { connection = c.args.connection; frame = c.in-Some.frame });
    } in
    let same = c.self.view_is in
    let pushed = rw (c.saturating_sub-before.ensures, c.contacts.ensures, c.len.ensures, c.deref.ensures.value)
    at c.in_ok-push_during.ensures in
    completes c.args.asked.now c.args.self.now _ c.args.connection c.args.label found.0 c.in-Some.points c.in-Some.frame found.2 found.1
    (c.in_ok-push.ensures.appended.0 ∙ ap (λ (k : Kept). k.features ++ feature ∷ []) same)
    (ap (λ (k : Kept). k.told) same) (c.contacts-self-inside.ensures ∙ ap (λ (k : Kept). contact_count k.told) same)
    (ap (λ (k : Kept). k.last) same)
    c.clear.ensures.items
    (pushed ∙ ap (λ (k : Kept). k.errors ++ errors_during c.args.label (contact_count k.told - length c.in-Some.points) k.waiting) same)
    (ap (λ (k : Kept). k.notes) same)
