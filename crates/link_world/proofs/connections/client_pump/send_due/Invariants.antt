use Rattle.link_world.proofs.Names.{[], ◌≡◌, Event, GoesOn, Sending}
use Rattle.link_world.proofs.EventsLeft.{left_of}
use Rattle.link_world.proofs.ClientPumps.{alone}
use Rattle.link_world.proofs.connections.client_pump.send_due.Given as goal

abbrev pub invariant-loop-client : goal.invariant-loop-client
invariant-loop-client l = GoesOn Sending [] [] l.initial.client l.client × (l.client.input ≡ l.initial.client.input)

abbrev pub decreases-loop-client : goal.decreases-loop-client
decreases-loop-client l = left_of Event.ClientSends (alone l.client)
