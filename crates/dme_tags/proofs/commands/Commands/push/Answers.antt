use Rattle.dme_tags.proofs.Names.{[], ◌++◌, ◌+◌, ◌∙◌, ◌∷◌, ◌≡◌, ap, arith, held_now, is_open, is_open_question, length, List, OpenCommand, Option}
use Rattle.dme_tags.proofs.Names.{refl, Slab, slab_len, Slots, sym, ℕ}
use Rattle.dme_tags.proofs.Kept.{IsInserted, inserted_at, counted_pushed, one_more}
use Rattle.dme_tags.proofs.commands.Commands.push.Goals as goal

-- the command follows the others
behind : (c : goal.After-push_reserved) → IsInserted c.self.inside.slab c.insert_reserved-key.new.self c.self.inside.keys.items
    c.push_reserved.new.self.items (held_now c.args.tag c.args.kind)
behind c =
    inserted_at _ c.reserve.new.self _ _ c.reserve-2.new.self.items _ c.insert_reserved-key.result _
    (ap (λ (s : Slab OpenCommand). s.slots) c.reserve.ensures.rest_kept) c.reserve-2.ensures.items c.push_reserved.ensures.items
    c.insert_reserved-key.ensures.was_vacant c.insert_reserved-key.ensures.updates c.self.invariant.0

pub invariant_of-self-2 : goal.invariant_of-self-2
invariant_of-self-2 c = (
  (behind c).keys,
  one_more c.self.inside.slab c.reserve.new.self c.insert_reserved-key.new.self _ _ _ c.insert_reserved-key.result
      (ap (λ (s : Slab OpenCommand). s.slots) c.reserve.ensures.rest_kept) c.reserve-2.ensures.items
      c.push_reserved.ensures.items c.insert_reserved-key.ensures.len c.self.invariant.1,
  counted_pushed is_open _ _ _ _ _ c.self.invariant.2 refl (behind c).list,
  counted_pushed is_open_question _ _ _ _ _ c.self.invariant.3 c.question_one.ensures (behind c).list,
)

pub returns-clause-ok : goal.returns-clause-ok
returns-clause-ok c =
    (behind c).list ∙ ap (λ (hs : List OpenCommand). hs ++ held_now c.args.tag c.args.kind ∷ []) c.self.view_is
