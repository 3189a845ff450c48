use Rattle.std.proofs.Common.{length, ◌<◌, List, ℕ}
use Rattle.dme_tags.proofs.Kept.{command_there, key_there, within_keys}
use Rattle.dme_tags.proofs.commands.Commands.at.Goals as goal

inside : (c : goal.After-row_known-1) → c.args.index < length c.self.inside.keys.items
inside c = within_keys c.self.inside.slab.slots c.self.inside.keys.items c.args.self.now c.args.index c.self.view_is c.requires

pub index-requires-2 : goal.index-requires-2
index-requires-2 c =
    key_there c.self.inside.slab.slots c.self.inside.keys.items c.args.index c.index.result.now c.self.invariant.0 (inside c)
    c.index.ensures
