use Rattle.dme_tags.proofs.Names.{◌∙◌, ◌≡◌, ap, get_or, is_open, is_open_question, List, OpenCommand, set, sym, with_value}
use Rattle.dme_tags.proofs.Kept.{IsWritten, written_at, counted_changed, enough_at, key_there, same_stage, within_keys}
use Rattle.dme_tags.proofs.commands.Commands.set_stage.Goals as goal

pub index-held-requires : goal.index-held-requires
index-held-requires c =
    key_there c.self.inside.slab.slots c.self.inside.keys.items c.args.index c.index-key.result.now c.self.invariant.0
    (within_keys c.self.inside.slab.slots c.self.inside.keys.items c.args.self.now c.args.index c.self.view_is c.requires)
    c.index-key.ensures

pub overflow_sub-self : goal.overflow_sub-self
overflow_sub-self c =
    enough_at is_open c.self.inside.slab.slots c.self.inside.keys.items c.args.self.now c.args.index c.index-key.result.now
    c.index-held.result.now (record c.index-held.result.now { stage = c.args.stage }) _ _ _
    c.self.view_is c.requires c.index-key.ensures c.index-held.ensures c.self.invariant.2 c.open_one-2.ensures c.open_one.ensures

pub overflow_sub-self-2 : goal.overflow_sub-self-2
overflow_sub-self-2 c =
    enough_at is_open_question c.self.inside.slab.slots c.self.inside.keys.items c.args.self.now c.args.index c.index-key.result.now
    c.index-held.result.now (record c.index-held.result.now { stage = c.args.stage }) _ _ _
    c.self.view_is c.requires c.index-key.ensures c.index-held.ensures c.self.invariant.3 c.question_one-2.ensures c.question_one.ensures

-- the command is written in place
in_place : (c : goal.After-self-2-1) → IsWritten c.self.inside.slab
    (with_value c.self.inside.slab c.index-key.result.now (record c.index-held.result.now { stage = c.args.stage }))
    c.self.inside.keys.items c.args.index c.index-held.result.now (record c.index-held.result.now { stage = c.args.stage })
in_place c =
    written_at c.self.inside.slab c.self.inside.keys.items c.args.self.now c.args.index c.index-key.result.now _ _
    c.self.view_is c.requires c.index-key.ensures c.index-held.ensures c.self.invariant.0

pub invariant_of-self : goal.invariant_of-self
invariant_of-self c = (
  (in_place c).keys,
  (in_place c).many ∙ c.self.invariant.1,
  counted_changed is_open _ _ c.args.index _ _ _ _ _ (in_place c).within (in_place c).here c.self.invariant.2 c.open_one-2.ensures
      c.open_one.ensures (in_place c).list,
  counted_changed is_open_question _ _ c.args.index _ _ _ _ _ (in_place c).within (in_place c).here c.self.invariant.3
      c.question_one-2.ensures c.question_one.ensures (in_place c).list,
)

pub returns : goal.returns
returns c held here =
    (in_place c).list
    ∙ ap (λ (hs : List OpenCommand). set hs c.args.index (record c.index-held.result.now { stage = c.args.stage })) c.self.view_is
    ∙ same_stage c.args.self.now c.args.index c.index-held.result.now held c.args.stage c.requires
    (ap (λ (hs : List OpenCommand). get_or hs c.args.index c.index-held.result.now) (sym c.self.view_is) ∙ (in_place c).here) here
