use Rattle.std.proofs.Common.{◌^◌, ◌<◌, ◌≡◌, ◌∙◌, ap, arith, false, refl, rules, subst, suc, sym, true}
use Rattle.effects.specs.Effects.{Done}
use Rattle.protocol_model.specs.Ends.{serving_accepted}
use Rattle.server_core.specs.Serving.{may_accept}
use Rattle.services.specs.Serving.{Talk}
use Rattle.services.specs.Sessions.{Brings, State}
use Rattle.services.proofs.Served.{accepted_serves, refused_serves}
use Rattle.services.proofs.sessions.Session.taken.Goals as goal

pub returns-in-Err-clause-served : goal.returns-in-Err-clause-served
returns-in-Err-clause-served c =
    let u : Talk = record { end = c.accept.new.self.end; shifts = c.self.inside.machine; number = c.saturating_add-self-inside.result; out = c.clear.new.self.items } in
    let number : c.self.inside.number < 2 ^ 32 → c.saturating_add-self-inside.result ≡ suc c.self.inside.number = λ small. omega (arith, small) in
    let may : may_accept c.saturating_add-self-inside.result c.self.inside.server.end.server ≡ false = search rules in
    let end : c.accept.new.self.end ≡ c.self.inside.server.end = search rules in
    subst (λ (k : Talk). Brings false c.args.self.now Done (record (c.args.self.now) { talk = k }))
    (sym (ap (λ (x : State). x.talk) c.self-in-Err.view_is ∙ ap (λ (x : State). x.talk) c.break_off.ensures.new))
    (refused_serves _ c.args.self.now (record (c.args.self.now) { talk = u }) c.self.view_is c.requires number may end refl)

pub returns-in_err-message-clause-served : goal.returns-in_err-message-clause-served
returns-in_err-message-clause-served c =
    let u : Talk = record { end = c.accept.new.self.end; shifts = c.self.inside.machine; number = c.saturating_add-self-inside.result; out = c.clear.new.self.items } in
    let number : c.self.inside.number < 2 ^ 32 → c.saturating_add-self-inside.result ≡ suc c.self.inside.number = λ small. omega (arith, small) in
    let may : may_accept c.saturating_add-self-inside.result c.self.inside.server.end.server ≡ true = search rules in
    let end : c.accept.new.self.end ≡ serving_accepted c.saturating_add-self-inside.result c.self.inside.server.end = search rules in
    accepted_serves _ c.args.self.now (record (c.args.self.now) { talk = u }) c.self.view_is c.requires number may end refl c.clear.ensures.items

pub returns-in_ok-message-clause-served : goal.returns-in_ok-message-clause-served
returns-in_ok-message-clause-served c =
    let u : Talk = record { end = c.accept.new.self.end; shifts = c.self.inside.machine; number = c.saturating_add-self-inside.result; out = c.clear.new.self.items } in
    let number : c.self.inside.number < 2 ^ 32 → c.saturating_add-self-inside.result ≡ suc c.self.inside.number = λ small. omega (arith, small) in
    let may : may_accept c.saturating_add-self-inside.result c.self.inside.server.end.server ≡ true = search rules in
    let end : c.accept.new.self.end ≡ serving_accepted c.saturating_add-self-inside.result c.self.inside.server.end = search rules in
    subst (λ (k : Talk). Brings false c.args.self.now Done (record (c.args.self.now) { talk = k })) (sym (ap (λ (x : State). x.talk) c.say.ensures))
    (accepted_serves _ c.args.self.now (record (c.args.self.now) { talk = u }) c.self.view_is c.requires number may end refl c.clear.ensures.items)

pub returns-else-self-clause-served : goal.returns-else-self-clause-served
returns-else-self-clause-served c =
    let u : Talk = record { end = c.accept.new.self.end; shifts = c.self.inside.machine; number = c.saturating_add-self-inside.result; out = c.clear.new.self.items } in
    let number : c.self.inside.number < 2 ^ 32 → c.saturating_add-self-inside.result ≡ suc c.self.inside.number = λ small. omega (arith, small) in
    let may : may_accept c.saturating_add-self-inside.result c.self.inside.server.end.server ≡ true = search rules in
    let end : c.accept.new.self.end ≡ serving_accepted c.saturating_add-self-inside.result c.self.inside.server.end = search rules in
    accepted_serves _ c.args.self.now (record (c.args.self.now) { talk = u }) c.self.view_is c.requires number may end refl c.clear.ensures.items
