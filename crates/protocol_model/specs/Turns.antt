-- A client that also has an abort open (this profile).
use Rattle.std.specs.Prelude.{[], ◌∷◌}
use Rattle.dme_line.specs.declared.tags.Tag.TheVariants.{Event}
use Rattle.dme_line.specs.declared.commands.Kind.TheVariants as kind
use Rattle.protocol_model.specs.Client.{Client}
use Rattle.protocol_model.specs.declared.held.Stage.{Stage}

-- a client that also has an abort, at this stage
abbrev pub with_abort : Stage → Client → Client
with_abort stage c = record c {
  table = record (c.table) { event = record { tag = Event 1; kind = kind.AbortE; stage = stage } ∷ [] };
}
