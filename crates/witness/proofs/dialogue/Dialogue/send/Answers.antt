use Rattle.witness.proofs.Names.{◌∙◌, ◌≡◌, last_under, map, None, nothing, refl, rules, sym, unknowing, unless_crossed}
use Rattle.std.proofs.lemmas.List.{with_items_is}
use Rattle.witness.specs.Dialogues as dialogues
use Rattle.witness.proofs.AfterMarks.{at_once_sent, same_parts}
use Rattle.witness.proofs.dialogue.Dialogue.send.Goals as goal
use Rattle.witness.proofs.dialogue.Dialogue.send.Goals.{then-at_once+in_ok-other+in_ok-push, else-at_once}

pub returns : goal.returns
returns c =
    let rival : c.last_under-rival.result.0 ≡ dialogues.line_of (last_under c.args.tag c.self.inside.uses.items None) = search rules in
    let lost : c.last_under-rival.result.1 ≡ dialogues.is_lost (last_under c.args.tag c.self.inside.uses.items None) = search rules in
    let kept : c.reserve.new.self.items ≡ c.self.inside.uses.items = search rules in
    elim c.if-at_once.branch [
      | then-at_once+in_ok-other+in_ok-push w ↦
          let noted = rw w.self-inside-is at c.note_event.ensures in
          let replaced = rw w.self-inside-is at c.replace-known.ensures in
          let forgot : c.if-at_once.self-inside.uses.items ≡ map unknowing c.self.inside.uses.items =
          rw w.self-inside-is (with_items_is c.reserve.new.self w.forget.new.uses (search rules) ∙ search rules) in
          let known : c.unless.result ≡ nothing = rw w.if-at_once.true at c.unless.ensures in
          rw (at_once_sent c.args.self.now c.args.line.now c.args.tag c.args.command c.fresh-standing.result c.args.self.now.known
          (sym c.foreign_event-at_once.ensures.event ∙ w.if-at_once.true) (c.foreign_event-at_once.ensures.foreign w.if-at_once.true))
          (rw (w.self-inside-is, ← c.self.view_is)
          (same_parts _ _ refl refl (rw (forgot, known, rival, w.self-inside-is) at c.push_reserved.ensures.items) (search (rules, noted)) (search rules) (search (rules, replaced)) (search rules), tt))
      | else-at_once w ↦
          let pushed = rw w.self-inside-is at c.push_reserved.ensures.items in
          let noted = rw w.self-inside-is at c.note_event.ensures in
          let replaced = rw w.self-inside-is at c.replace-known.ensures in
          let known : c.unless.result ≡ unless_crossed c.last_under-rival.result.1 c.self.inside.known =
          search (rules, replaced, rw w.if-at_once.false at c.unless.ensures) in
          rw (sym c.foreign_event-at_once.ensures.event ∙ w.if-at_once.false)
          (rw (w.self-inside-is, ← c.self.view_is)
          (same_parts _ _ refl refl (rw (kept, known, rival, lost) at pushed) (search (rules, noted)) (search rules) (search (rules, replaced)) (search rules), tt))
    ]
