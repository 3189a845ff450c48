use Rattle.std.proofs.Common.{◌∙◌, ap, refl, length, List, ℕ}
use Rattle.std.specs.Prelude.{min}
use Rattle.watched_ends.specs.Limits.{up_sent}
use Rattle.services.proofs.Relayed.{up_steps}
use Rattle.services.proofs.relaying.RelaySession.passed_up.Goals as goal

pub returns : goal.returns
returns c = up_steps _ _ _ _ c.args.count c.self.view_is c.requires
    (c.sent_to_server.ensures ∙ ap (λ (n : ℕ). up_sent n c.self.inside.relay)
    (c.min-count.ensures ∙ ap (λ (l : List ℕ). min c.args.count (length l)) c.to_server.ensures))
    refl refl refl refl c.after_up.ensures
