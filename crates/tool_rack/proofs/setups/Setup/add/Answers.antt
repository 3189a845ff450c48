use Rattle.std.proofs.Common.{◌≡◌, false, ◌++◌, ◌∷◌, [], sym, ◌∙◌}
use Rattle.tool_rack.specs.Setups.{has_name}
use Rattle.tool_rack.proofs.Growing.{distinct_more, frames_added}
use Rattle.tool_rack.proofs.setups.Setup.add.Goals as goal

pub invariant_of-self-in-Tool : goal.invariant_of-self-in-Tool
invariant_of-self-in-Tool c =
    let new : has_name c.self.inside.rack c.in-Tool.name ≡ false = sym c.has.ensures.value ∙ c.if-has.false in
    let more : c.push.new.self ≡ c.self.inside.rack ++ (c.in-Tool.name ∷ []) = c.in_ok-push-in-Tool.ensures.0 in
    rw more (record {
      tools_once = distinct_more c.self.inside.rack c.in-Tool.name c.self.invariant.tools_once new;
      frames = c.self.invariant.frames;
      shifts_within = c.self.invariant.shifts_within;
    })

pub invariant_of-self-in-Frame : goal.invariant_of-self-in-Frame
invariant_of-self-in-Frame c =
    let within = rw c.in-Frame.is at c.requires in
    record {
      tools_once = c.self.invariant.tools_once;
      frames = frames_added c.self.inside.frames c.add.new.self c.in-Frame.name
          c.in-Frame.offset c.add.result c.self.invariant.frames within c.add.ensures.is_new c.add.ensures.added c.add.ensures.err;
      shifts_within = c.self.invariant.shifts_within;
    }
