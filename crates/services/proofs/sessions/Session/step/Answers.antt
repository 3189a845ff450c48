use Rattle.std.proofs.Common.{◌≡◌, ◌⊎◌, false, refl, subst}
use Rattle.effects.specs.Effects.{Reply, the_reply}
use Rattle.services.specs.Serving.{Talk}
use Rattle.services.specs.Sessions.{Brings, due, due_at, State}
use Rattle.services.specs.declared.stages.Stage.{Stage}
use Rattle.services.proofs.Served.{all_ok, at_stage, BringsNone, IsOpen, open_serves, or_stage, over_goes, over_serves, serves_lost, serves_ok, talk_lost, talk_serves}
use Rattle.services.proofs.sessions.Session.step.Goals as goal

-- an answer brings nothing at a stage, and the service is not over there
abbrev Quiet : Reply → Stage → Type 0
Quiet reply st = BringsNone st reply × IsOpen st

pub returns-in-Logged-clause-served : goal.returns-in-Logged-clause-served
returns-in-Logged-clause-served c =
    let reply : Reply = the_reply c.args.answer in
    let st : Stage = c.self.inside.stage in
    let quiet : Quiet reply st = or_stage (Quiet reply) st Stage.Logged (λ out f. refl, λ next. refl)
    (or_stage (Quiet reply) st Stage.Looking (λ out f. refl, λ next. refl)
    (or_stage (Quiet reply) st Stage.Making (λ out f. refl, λ next. refl)
    (at_stage (Quiet reply) st Stage.Listening (λ out f. refl, λ next. refl)))) c.in-Logged.is in
    open_serves c.prepare.result _ c.args.self.now c.prepare.new.self reply c.self.view_is quiet c.prepare.ensures.talk

pub returns-in-Logged-clause-lost : goal.returns-in-Logged-clause-lost
returns-in-Logged-clause-lost c =
    let reply : Reply = the_reply c.args.answer in
    let st : Stage = c.self.inside.stage in
    let none : BringsNone st reply = or_stage (λ (x : Stage). BringsNone x reply) st Stage.Logged (λ out f. refl)
    (or_stage (λ (x : Stage). BringsNone x reply) st Stage.Looking (λ out f. refl)
    (or_stage (λ (x : Stage). BringsNone x reply) st Stage.Making (λ out f. refl)
    (at_stage (λ (x : Stage). BringsNone x reply) st Stage.Listening (λ out f. refl)))) c.in-Logged.is in
    talk_lost c.prepare.result _ c.args.self.now c.prepare.new.self reply c.self.view_is none c.prepare.ensures.talk

-- the stages before the first connection at which a file is left as it was, or begins
beginning_none : (reply : Reply) (st : Stage) → (st ≡ Stage.Discarding) ⊎ ((st ≡ Stage.SettingAside) ⊎ (st ≡ Stage.Beginning)) → BringsNone st reply
beginning_none reply st is = or_stage (λ (x : Stage). BringsNone x reply) st Stage.Discarding (λ out f. refl)
    (or_stage (λ (x : Stage). BringsNone x reply) st Stage.SettingAside (λ out f. refl)
    (at_stage (λ (x : Stage). BringsNone x reply) st Stage.Beginning (λ out f. refl))) is

beginning_plain : (next st : Stage) → (st ≡ Stage.Discarding) ⊎ ((st ≡ Stage.SettingAside) ⊎ (st ≡ Stage.Beginning)) → due_at st next ≡ st
beginning_plain next st is = or_stage (λ (x : Stage). due_at x next ≡ x) st Stage.Discarding refl
    (or_stage (λ (x : Stage). due_at x next ≡ x) st Stage.SettingAside refl (at_stage (λ (x : Stage). due_at x next ≡ x) st Stage.Beginning refl)) is

pub returns-in-Discarding-clause-served : goal.returns-in-Discarding-clause-served
returns-in-Discarding-clause-served c =
    let plain : due c.args.self.now ≡ c.args.self.now.stage = subst (λ (s : State). due s ≡ s.stage) c.self.view_is
    (beginning_plain c.self.inside.next c.self.inside.stage c.in-Discarding.is) in
    talk_serves c.begin.result _ c.args.self.now c.begin.new.self (the_reply c.args.answer) c.self.view_is
    (beginning_none (the_reply c.args.answer) c.self.inside.stage c.in-Discarding.is) c.begin.ensures.talk
    (over_goes c.begin.result c.args.self.now c.begin.new.self plain c.begin.ensures.over)

pub returns-in-Discarding-clause-lost : goal.returns-in-Discarding-clause-lost
returns-in-Discarding-clause-lost c = talk_lost c.begin.result _ c.args.self.now c.begin.new.self (the_reply c.args.answer) c.self.view_is
    (beginning_none (the_reply c.args.answer) c.self.inside.stage c.in-Discarding.is) c.begin.ensures.talk

pub returns-in-Peeking-clause-served : goal.returns-in-Peeking-clause-served
returns-in-Peeking-clause-served c = serves_ok c.take_next.result c.args.self.now c.take_next.new.self (the_reply c.args.answer)
    (all_ok c.take_next.result (Brings false c.args.self.now (the_reply c.args.answer) c.take_next.new.self) c.take_next.ensures.served)

pub returns-in-Peeking-clause-lost : goal.returns-in-Peeking-clause-lost
returns-in-Peeking-clause-lost c =
    serves_lost c.take_next.result c.args.self.now c.take_next.new.self (the_reply c.args.answer) c.take_next.ensures.served

pub returns-in-Checking-clause-served : goal.returns-in-Checking-clause-served
returns-in-Checking-clause-served c =
    serves_ok c.receive.result c.args.self.now c.receive.new.self (the_reply c.args.answer) c.receive.ensures.served

pub returns-in-Tracing-clause-lost : goal.returns-in-Tracing-clause-lost
returns-in-Tracing-clause-lost c =
    let reply : Reply = the_reply c.args.answer in
    let none : BringsNone c.self.inside.stage reply = or_stage (λ (x : Stage). BringsNone x reply) c.self.inside.stage Stage.Tracing (λ out f. refl)
    (or_stage (λ (x : Stage). BringsNone x reply) c.self.inside.stage Stage.Stamping (λ out f. refl)
    (at_stage (λ (x : Stage). BringsNone x reply) c.self.inside.stage Stage.Logging (λ out f. refl))) c.in-Tracing.is in
    talk_lost c.show_on.result _ c.args.self.now c.show_on.new.self reply c.self.view_is none c.show_on.ensures.talk

pub returns-in-Keeping-clause-served : goal.returns-in-Keeping-clause-served
returns-in-Keeping-clause-served c = serves_ok c.answer.result c.args.self.now c.answer.new.self (the_reply c.args.answer)
    (all_ok c.answer.result (Brings false c.args.self.now (the_reply c.args.answer) c.answer.new.self) c.answer.ensures.served)

pub returns-in-Keeping-clause-lost : goal.returns-in-Keeping-clause-lost
returns-in-Keeping-clause-lost c =
    serves_lost c.answer.result c.args.self.now c.answer.new.self (the_reply c.args.answer) c.answer.ensures.served

pub returns-in-Replacing-clause-lost : goal.returns-in-Replacing-clause-lost
returns-in-Replacing-clause-lost c =
    let reply : Reply = the_reply c.args.answer in
    let none : BringsNone c.self.inside.stage reply = or_stage (λ (x : Stage). BringsNone x reply) c.self.inside.stage Stage.Replacing (λ out f. refl)
    (at_stage (λ (x : Stage). BringsNone x reply) c.self.inside.stage Stage.Printing (λ out f. refl)) c.in-Replacing.is in
    talk_lost c.close_on.result _ c.args.self.now c.close_on.new.self reply c.self.view_is none c.close_on.ensures.talk

pub returns-in-Telling-clause-served : goal.returns-in-Telling-clause-served
returns-in-Telling-clause-served c =
    let reply : Reply = the_reply c.args.answer in
    let none : BringsNone c.self.inside.stage reply = or_stage (λ (x : Stage). BringsNone x reply) c.self.inside.stage Stage.Telling (λ out f. refl)
    (at_stage (λ (x : Stage). BringsNone x reply) c.self.inside.stage Stage.Exiting (λ out f. refl)) c.in-Telling.is in
    let u : Talk = record { end = c.self.inside.server.end; shifts = c.self.inside.machine; number = c.self.inside.number; out = c.self.inside.out.items } in
    over_serves _ c.args.self.now (record (c.args.self.now) { talk = u }) reply c.self.view_is none refl
