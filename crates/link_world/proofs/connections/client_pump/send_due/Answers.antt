use Rattle.link_world.proofs.Names.{◌∙◌, ap, ClientEnd}
use Rattle.link_world.proofs.ClientPumps.{sending_less, sent_more, send_goes}
use Rattle.link_world.proofs.connections.client_pump.send_due.Goals as goal

pub loop-client-smaller : goal.loop-client-smaller
loop-client-smaller c = sending_less c.loop-client.client c.send.new.self c.in_ok-send.ensures.can c.in_ok-send.ensures.ok

pub loop-client-preserved : goal.loop-client-preserved
loop-client-preserved c = (
  sent_more c.args.client.now c.loop-client.client c.send.new.self c.loop-client.invariant.0 c.in_ok-send.ensures.can c.in_ok-send.ensures.ok,
  ap (λ (e : ClientEnd). e.input) c.in_ok-send.ensures.ok ∙ c.loop-client.invariant.1,
)

pub returns-in_err-send-clause-sent : goal.returns-in_err-send-clause-sent
returns-in_err-send-clause-sent c = send_goes c.args.client.now c.loop-client.client c.send.new.self c.in_err-send.field-0.0
    c.loop-client.invariant.0 c.in_err-send.ensures.refused
