use Rattle.std.proofs.Common.{refl, arith, rules}
use Rattle.effects.specs.Effects.{Done}
use Rattle.services.specs.Relays.{Stops}
use Rattle.services.proofs.Relayed.{taken_steps, taken_stops}
use Rattle.services.proofs.relaying.RelaySession.taken.Goals as goal

pub returns-in_err-begin_recording : goal.returns-in_err-begin_recording
returns-in_err-begin_recording c =
    let stops : Stops c.args.self.now Done c.begin_recording.new.self = taken_stops _ _ _ _ c.self.view_is c.requires
    c.in_err-begin_recording.ensures.err refl (λ few. omega (arith, few)) refl c.new-self-inside.ensures refl in
    search (rules, stops)

pub returns : goal.returns
returns c = (
  taken_steps _ _ _ _ c.self.view_is c.requires c.new.ensures (λ few. omega (arith, few)) refl c.new-self-inside.ensures refl
      c.in_ok-begin_recording.ensures.ok,
  tt,
)
