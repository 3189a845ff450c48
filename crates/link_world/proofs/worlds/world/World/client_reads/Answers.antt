use Rattle.link_world.proofs.Names.{◌∙◌, ◌≡◌, ap, ClientEnd, false, IsReached, rules, seen, subst, sym, true, WorldValue}
use Rattle.link_world.proofs.ClientReading.{reads_any, read_reached, no_line, line_can, not_read}
use Rattle.link_world.proofs.Events.{not_now, refused_if, unchanged}
use Rattle.link_world.proofs.worlds.world.World.client_reads.Goals as goal

pub returns-then-not-has_line-clause-can : goal.returns-then-not-has_line-clause-can
returns-then-not-has_line-clause-can c =
    not_now _ (subst (λ (l : WorldValue). reads_any l.world.client ≡ false) c.self.view_is
    (no_line c.self.inside.client c.self.inside.server c.self.inside.connections.items c.self.inside.written.items c.self.invariant
    (search rules) (λ due. search rules)))

pub returns-in_err-read_one-clause-can : goal.returns-in_err-read_one-clause-can
returns-in_err-read_one-clause-can c =
    refused_if _ _ _ c.from_residual.ensures.1
    (λ e. subst (λ (l : WorldValue). reads_any l.world.client ≡ false) c.self.view_is ((
    not_read c.self.inside.client c.read_one.new.self c.self.inside.server c.self.inside.connections.items c.self.inside.written.items
    c.in_err-read_one.field-0.0 c.self.invariant c.in_err-read_one.ensures.refused c.in_err-read_one.ensures.met
    c.in_err-read_one.ensures.before).none e))
    (λ e. subst (λ (l : WorldValue). reads_any l.world.client ≡ true) c.self.view_is
    (line_can c.self.inside.client c.self.inside.server c.self.inside.connections.items c.self.inside.written.items c.self.invariant
    (search rules) (search rules)))

pub invariant_of-self : goal.invariant_of-self
invariant_of-self c =
    subst (λ (e : ClientEnd). IsReached (seen e c.self.inside.server c.self.inside.connections.items c.self.inside.written.items))
    (sym (
    not_read c.self.inside.client c.read_one.new.self c.self.inside.server c.self.inside.connections.items c.self.inside.written.items
    c.in_err-read_one.field-0.0 c.self.invariant c.in_err-read_one.ensures.refused c.in_err-read_one.ensures.met
    c.in_err-read_one.ensures.before).same) c.self.invariant

pub returns-in_err-read_one-clause-world : goal.returns-in_err-read_one-clause-world
returns-in_err-read_one-clause-world c = unchanged _ _ _ _ _ c.from_residual.ensures.1
    (ap (λ (e : ClientEnd). seen e c.self.inside.server c.self.inside.connections.items c.self.inside.written.items) (
    not_read c.self.inside.client c.read_one.new.self c.self.inside.server c.self.inside.connections.items c.self.inside.written.items
    c.in_err-read_one.field-0.0 c.self.invariant c.in_err-read_one.ensures.refused c.in_err-read_one.ensures.met
    c.in_err-read_one.ensures.before).same ∙ c.self.view_is)

pub invariant_of-self-2 : goal.invariant_of-self-2
invariant_of-self-2 c =
    read_reached c.self.inside.client c.read_one.new.self c.self.inside.server c.self.inside.connections.items c.self.inside.written.items
    c.self.invariant
    (line_can c.self.inside.client c.self.inside.server c.self.inside.connections.items c.self.inside.written.items c.self.invariant
    (search rules) (search rules)) c.in_ok-read_one.ensures.ok

pub returns-clause-can : goal.returns-clause-can
returns-clause-can c = (
  subst (λ (l : WorldValue). reads_any l.world.client ≡ true) c.self.view_is
      (line_can c.self.inside.client c.self.inside.server c.self.inside.connections.items c.self.inside.written.items c.self.invariant
      (search rules) (search rules)),
  (λ e. absurd (cc)),
  (λ e. absurd (cc)),
)
