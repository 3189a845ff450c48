use Rattle.std.proofs.Common.{◌++◌, refl, ap, ◌∙◌}
use Rattle.watched_ends.specs.Sessions.{cannot_read}
use Rattle.watched_ends.proofs.sessions.Session.blame.Goals as goal

pub returns : goal.returns
returns c = record { stage = refl; said = c.in_ok-self-inside.ensures.ok ∙ ap (λ x. c.args.notes.now ++ cannot_read x) c.name-name.ensures; status = refl }
