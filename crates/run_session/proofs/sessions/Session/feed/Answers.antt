use Rattle.run_session.proofs.Names.{◌∙◌, ap, Bool, List, subst}
use Rattle.std.specs.Prelude.{◌||◌, string_bytes}
use Rattle.dmis_program.specs.Meaning.{Meaning}
use Rattle.dmis_program.specs.declared.features.Wanted.{Wanted}
use Rattle.run_session.proofs.ClientCalls.{feeds_keep, unheard_keeps}
use Rattle.run_session.proofs.Reporting.{keeps_by}
use Rattle.run_session.specs.Errors.{Hears}
use Rattle.run_session.proofs.sessions.Session.feed.Goals as goal

pub returns-in_err-hear-clause-ran : goal.returns-in_err-hear-clause-ran
returns-in_err-hear-clause-ran c = keeps_by _ _ _ _ _ c.self.view_is (unheard_keeps c.self.inside.pauses.items c.self.inside.client c.self.inside.growth
    c.self.inside.errors c.hear.new.self c.in_err-hear.ensures.lost)

pub returns-clause-ran : goal.returns-clause-ran
returns-clause-ran c = keeps_by _ _ _ _ _ c.self.view_is (feeds_keep c.feed-fed.result c.self.inside.pauses.items c.args.bytes.now c.self.inside.client
    c.feed-fed.new.self c.self.inside.growth c.self.inside.errors c.hear.new.self c.lose_if.new.self
    (string_bytes c.self.inside.shown) (string_bytes c.hear.new.shown)
    c.feed-fed.ensures.leads.0 c.feed-fed.ensures.leads.1 c.feed-fed.ensures.can
    (subst (λ (fs : List Wanted). Hears fs c.args.bytes.now c.self.inside.errors c.hear.new.self (string_bytes c.self.inside.shown) (string_bytes c.hear.new.shown))
    (c.features-program.ensures.features ∙ ap (λ (p : Meaning). p.features) c.program.ensures) c.in_ok-hear.ensures.heard)
    (c.lose_if.ensures ∙ ap (λ (b : Bool). record c.hear.new.self { lost = c.hear.new.self.lost || b }) c.is_err.ensures.value))
