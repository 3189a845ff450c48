use Rattle.std.proofs.Common.{rules}
use Rattle.witness.proofs.JudgementNames.{◌≡◌, ◌∙◌, ◌∷◌, ap, found, has_mark, Heard, last_end, List, Mark, next_of, Option, Reply, reverse, subst, sym, Tag, ℕ}
use Rattle.witness.proofs.Links.{linked, unlinked, closed_more, still_closed}
use Rattle.witness.proofs.Lists.{above_count}
use Rattle.witness.proofs.Notes.{other_of, own_of}
use Rattle.witness.proofs.course.Course.hear.Goals as goal
use Rattle.witness.specs.JudgedUses.{AreLinked}
use Rattle.witness.specs.declared.judged_lines.Heard.TheVariants.{Response}

pub returns-in_ok-put-in-Received : goal.returns-in_ok-put-in-Received
returns-in_ok-put-in-Received c = record {
  links = record {
    next = c.requires.course.links.next;
    ends = subst (λ (h : Heard). AreLinked Mark.Complete c.args.up.now (h ∷ reverse c.args.above.now) c.args.self.now.ends.items) (sym c.in-Response.is)
        (unlinked Mark.Complete c.args.up.now (reverse c.args.above.now) c.in-Response.tag c.in-Response.reply _ c.requires.course.links.ends
        (ap (has_mark Mark.Complete) c.in-Received.is));
    receipts = subst (λ (h : Heard). AreLinked Mark.Received c.args.up.now (h ∷ reverse c.args.above.now) c.put.new.table.items) (sym c.in-Response.is)
        (linked Mark.Received c.args.up.now (reverse c.args.above.now) c.in-Response.tag c.in-Response.reply c.args.self.now.next.items
        c.args.self.now.receipts.items c.put.new.table.items c.look-counted.result _ c.requires.course.links.next c.requires.course.links.receipts
        (ap (has_mark Mark.Received) c.in-Received.is)
        (c.look-counted.ensures ∙ ap (λ (l : List (Option ℕ)). found l c.in-Response.tag) c.as_slice-2.ensures.value
        ∙ c.requires.course.links.receipts c.in-Response.tag)
        (c.next_of-after.ensures ∙ ap (λ (l : List (Option ℕ)). next_of l c.look-counted.result) c.as_slice-in-Received.ensures.value)
        c.in_ok-put-in-Received.ensures);
    closed = subst (λ (h : Heard). (t : Tag) → found c.args.self.now.closed.items t ≡ last_end t (h ∷ reverse c.args.above.now)) (sym c.in-Response.is)
        (still_closed (reverse c.args.above.now) c.in-Response.tag c.in-Response.reply _ c.requires.course.links.closed
        (ap (has_mark Mark.Complete) c.in-Received.is));
  };
  notes = record {
    received = own_of Mark.Complete Mark.Received c.args.up.now (reverse c.args.above.now) c.args.heard c.in-Response.tag c.in-Response.reply
        c.args.self.now.notes.received.items _ c.look-place.result c.moment_after-moment.result c.in-Response.is c.requires.course.notes.received
        (ap (has_mark Mark.Received) c.in-Received.is)
        (c.look-place.ensures ∙ ap (λ (l : List (Option ℕ)). found l c.in-Response.tag) c.as_slice.ensures.value
        ∙ c.requires.course.links.ends c.in-Response.tag)
        c.moment_after-moment.ensures c.note.ensures.count c.note.ensures.each;
    given = other_of Mark.Complete Mark.Data c.args.up.now (reverse c.args.above.now) c.args.heard c.in-Response.tag c.in-Response.reply _ c.in-Response.is
        c.requires.course.notes.given (ap (has_mark Mark.Data) c.in-Received.is);
    complete = other_of Mark.Complete Mark.Complete c.args.up.now (reverse c.args.above.now) c.args.heard c.in-Response.tag c.in-Response.reply _ c.in-Response.is
        c.requires.course.notes.complete (ap (has_mark Mark.Complete) c.in-Received.is);
    error = other_of Mark.Complete Mark.Error c.args.up.now (reverse c.args.above.now) c.args.heard c.in-Response.tag c.in-Response.reply _ c.in-Response.is
        c.requires.course.notes.error (ap (has_mark Mark.Error) c.in-Received.is);
    counted = own_of Mark.Received Mark.Received c.args.up.now (reverse c.args.above.now) c.args.heard c.in-Response.tag c.in-Response.reply
        c.args.self.now.notes.counted.items _ c.look-counted.result c.moment_after-moment.result c.in-Response.is c.requires.course.notes.counted
        (ap (has_mark Mark.Received) c.in-Received.is)
        (c.look-counted.ensures ∙ ap (λ (l : List (Option ℕ)). found l c.in-Response.tag) c.as_slice-2.ensures.value
        ∙ c.requires.course.links.receipts c.in-Response.tag)
        c.moment_after-moment.ensures c.note-in-Received.ensures.count c.note-in-Received.ensures.each;
  };
  so_far = search rules;
  unclear = search rules;
}

pub returns-in_ok-put-in-Complete-2 : goal.returns-in_ok-put-in-Complete-2
returns-in_ok-put-in-Complete-2 c = record {
  links = record {
    next = c.requires.course.links.next;
    ends = subst (λ (h : Heard). AreLinked Mark.Complete c.args.up.now (h ∷ reverse c.args.above.now) c.put-in-Complete.new.table.items) (sym c.in-Response.is)
        (linked Mark.Complete c.args.up.now (reverse c.args.above.now) c.in-Response.tag c.in-Response.reply c.args.self.now.next.items
        c.args.self.now.ends.items c.put-in-Complete.new.table.items c.look-place.result _ c.requires.course.links.next c.requires.course.links.ends
        (ap (has_mark Mark.Complete) c.in-Complete.is)
        (c.look-place.ensures ∙ ap (λ (l : List (Option ℕ)). found l c.in-Response.tag) c.as_slice.ensures.value
        ∙ c.requires.course.links.ends c.in-Response.tag)
        (c.next_of-after-in-Complete.ensures ∙ ap (λ (l : List (Option ℕ)). next_of l c.look-place.result) c.as_slice-in-Complete.ensures.value)
        c.in_ok-put-in-Complete.ensures);
    receipts = subst (λ (h : Heard). AreLinked Mark.Received c.args.up.now (h ∷ reverse c.args.above.now) c.args.self.now.receipts.items) (sym c.in-Response.is)
        (unlinked Mark.Received c.args.up.now (reverse c.args.above.now) c.in-Response.tag c.in-Response.reply _ c.requires.course.links.receipts
        (ap (has_mark Mark.Received) c.in-Complete.is));
    closed = subst (λ (h : Heard). (t : Tag) → found c.put-in-Complete-2.new.table.items t ≡ last_end t (h ∷ reverse c.args.above.now)) (sym c.in-Response.is)
        (λ t. closed_more (reverse c.args.above.now) c.in-Response.tag c.args.self.now.closed.items c.put-in-Complete-2.new.table.items _
        c.requires.course.links.closed (sym (above_count c.args.above.now)) c.in_ok-put-in-Complete-2.ensures t
        ∙ ap (λ (r : Reply). last_end t (Response c.in-Response.tag r ∷ reverse c.args.above.now)) (sym c.in-Complete.is));
  };
  notes = record {
    received = other_of Mark.Complete Mark.Received c.args.up.now (reverse c.args.above.now) c.args.heard c.in-Response.tag c.in-Response.reply _ c.in-Response.is
        c.requires.course.notes.received (ap (has_mark Mark.Received) c.in-Complete.is);
    given = other_of Mark.Complete Mark.Data c.args.up.now (reverse c.args.above.now) c.args.heard c.in-Response.tag c.in-Response.reply _ c.in-Response.is
        c.requires.course.notes.given (ap (has_mark Mark.Data) c.in-Complete.is);
    complete = own_of Mark.Complete Mark.Complete c.args.up.now (reverse c.args.above.now) c.args.heard c.in-Response.tag c.in-Response.reply
        c.args.self.now.notes.complete.items _ c.look-place.result c.moment_after-moment.result c.in-Response.is c.requires.course.notes.complete
        (ap (has_mark Mark.Complete) c.in-Complete.is)
        (c.look-place.ensures ∙ ap (λ (l : List (Option ℕ)). found l c.in-Response.tag) c.as_slice.ensures.value
        ∙ c.requires.course.links.ends c.in-Response.tag)
        c.moment_after-moment.ensures c.note-in-Complete.ensures.count c.note-in-Complete.ensures.each;
    error = other_of Mark.Complete Mark.Error c.args.up.now (reverse c.args.above.now) c.args.heard c.in-Response.tag c.in-Response.reply _ c.in-Response.is
        c.requires.course.notes.error (ap (has_mark Mark.Error) c.in-Complete.is);
    counted = other_of Mark.Received Mark.Received c.args.up.now (reverse c.args.above.now) c.args.heard c.in-Response.tag c.in-Response.reply _ c.in-Response.is
        c.requires.course.notes.counted (ap (has_mark Mark.Received) c.in-Complete.is);
  };
  so_far = search rules;
  unclear = search rules;
}
