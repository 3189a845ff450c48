use Rattle.dme_tags.proofs.Names.{◌∙◌, ap, arith, is_open, is_open_question, List, OpenCommand, remove}
use Rattle.dme_tags.proofs.Kept.{IsRemoved, removed_at, counted_removed, enough_left, key_there, one_fewer, within_keys}
use Rattle.dme_tags.proofs.commands.Commands.remove.Goals as goal

pub remove-ended-requires : goal.remove-ended-requires
remove-ended-requires c =
    key_there c.self.inside.slab.slots c.self.inside.keys.items c.args.index c.remove-key.result c.self.invariant.0
    (within_keys c.self.inside.slab.slots c.self.inside.keys.items c.args.self.now c.args.index c.self.view_is c.requires)
    c.remove-key.ensures.value

pub overflow_sub-self : goal.overflow_sub-self
overflow_sub-self c =
    enough_left is_open c.self.inside.slab.slots c.self.inside.keys.items c.args.self.now c.args.index c.remove-key.result
    c.remove-ended.result _ _ c.self.view_is c.requires c.remove-key.ensures.value c.remove-ended.ensures.value c.self.invariant.2
    c.open_one.ensures

pub overflow_sub-self-2 : goal.overflow_sub-self-2
overflow_sub-self-2 c =
    enough_left is_open_question c.self.inside.slab.slots c.self.inside.keys.items c.args.self.now c.args.index c.remove-key.result
    c.remove-ended.result _ _ c.self.view_is c.requires c.remove-key.ensures.value c.remove-ended.ensures.value c.self.invariant.3
    c.question_one.ensures

-- the command is gone
gone : (c : goal.After-self-2-1) → IsRemoved c.self.inside.slab c.remove-ended.new.self c.self.inside.keys.items
    c.remove-key.new.self.items c.args.index c.remove-ended.result
gone c =
    removed_at c.self.inside.slab c.remove-ended.new.self c.self.inside.keys.items c.remove-key.new.self.items c.args.self.now c.args.index
    c.remove-key.result c.remove-ended.result c.self.view_is c.requires c.remove-key.ensures.value c.remove-key.ensures.items
    c.remove-ended.ensures.value c.remove-ended.ensures.updates c.self.invariant.0

pub invariant_of-self : goal.invariant_of-self
invariant_of-self c = (
  (gone c).keys,
  one_fewer _ _ _ _ c.args.index (within_keys c.self.inside.slab.slots c.self.inside.keys.items c.args.self.now c.args.index c.self.view_is
      c.requires) c.remove-key.ensures.items c.remove-ended.ensures.len c.self.invariant.1,
  counted_removed is_open _ _ c.args.index _ _ _ (gone c).within (gone c).here c.self.invariant.2 c.open_one.ensures (gone c).list,
  counted_removed is_open_question _ _ c.args.index _ _ _ (gone c).within (gone c).here c.self.invariant.3 c.question_one.ensures
      (gone c).list,
)

pub returns : goal.returns
returns c = (gone c).list ∙ ap (λ (hs : List OpenCommand). remove hs c.args.index) c.self.view_is
