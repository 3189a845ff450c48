use Rattle.dme_tags.proofs.Names.{◌∙◌, ◌≡◌, ap, false, get_or, is_failed, is_open, is_open_question, List, OpenCommand, set, sym, with_value}
use Rattle.dme_tags.proofs.Kept.{IsWritten, written_at, counted_alike, key_there, open_alike, question_alike, same_stage, within_keys}
use Rattle.dme_tags.proofs.commands.Commands.advance.Goals as goal

pub index_mut-requires : goal.index_mut-requires
index_mut-requires c =
    key_there c.self.inside.slab.slots c.self.inside.keys.items c.args.index c.index-key.result.now c.self.invariant.0
    (within_keys c.self.inside.slab.slots c.self.inside.keys.items c.args.self.now c.args.index c.self.view_is c.requires.within)
    c.index-key.ensures

-- the command is written in place
in_place : (c : goal.After-self-1) → IsWritten c.self.inside.slab
    (with_value c.self.inside.slab c.index-key.result.now (record c.index_mut.result.now { stage = c.args.stage }))
    c.self.inside.keys.items c.args.index c.index_mut.result.now (record c.index_mut.result.now { stage = c.args.stage })
in_place c =
    written_at c.self.inside.slab c.self.inside.keys.items c.args.self.now c.args.index c.index-key.result.now _ _
    c.self.view_is c.requires.within c.index-key.ensures c.index_mut.ensures.value c.self.invariant.0

unfailed : (c : goal.After-self-1) → is_failed (c.index_mut.result.now).stage ≡ false
unfailed c =
    c.requires.held c.index_mut.result.now
    (ap (λ (hs : List OpenCommand). get_or hs c.args.index c.index_mut.result.now) (sym c.self.view_is) ∙ (in_place c).here)

pub invariant_of-self : goal.invariant_of-self
invariant_of-self c = (
  (in_place c).keys,
  (in_place c).many ∙ c.self.invariant.1,
  counted_alike is_open _ _ c.args.index _ _ _ (in_place c).within (in_place c).here c.self.invariant.2
      (open_alike c.index_mut.result.now c.args.stage (unfailed c) c.requires.stage) (in_place c).list,
  counted_alike is_open_question _ _ c.args.index _ _ _ (in_place c).within (in_place c).here c.self.invariant.3
      (question_alike c.index_mut.result.now c.args.stage (unfailed c) c.requires.stage) (in_place c).list,
)

pub returns : goal.returns
returns c held here =
    (in_place c).list
    ∙ ap (λ (hs : List OpenCommand). set hs c.args.index (record c.index_mut.result.now { stage = c.args.stage })) c.self.view_is
    ∙ same_stage c.args.self.now c.args.index c.index_mut.result.now held c.args.stage c.requires.within
    (ap (λ (hs : List OpenCommand). get_or hs c.args.index c.index_mut.result.now) (sym c.self.view_is) ∙ (in_place c).here) here
