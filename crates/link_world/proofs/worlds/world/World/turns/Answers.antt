use Rattle.link_world.proofs.Names.{◌∙◌, arith, due, false, None, refl, rules, Some, true, unwatched}
use Rattle.link_world.proofs.RoundLists.{none_yet, round_more, turns_whole, turns_cut, round_as}
use Rattle.link_world.proofs.Turning.{due_there, none_due, still_as, on_err}
use Rattle.link_world.proofs.worlds.world.World.turns.Goals as goal

pub loop-self-init : goal.loop-self-init
loop-self-init g c = (
  (none_yet (g.M.Machine.answers c.args.machine.now) true (unwatched c.args.self.now)),
  refl,
  omega arith,
  λ none. absurd (due_there _ c.requires.due none),
)

pub loop-self-preserved : goal.loop-self-preserved
loop-self-preserved g c = (
  round_more (g.M.Machine.answers c.args.machine.now) true c.loop-self.turns true
      (unwatched c.args.self.now) (unwatched c.loop-self.self) (unwatched c.turn.new.self) (c.loop-self.invariant.0)
      (round_as (g.M.Machine.answers c.loop-self.machine) (g.M.Machine.answers c.args.machine.now) false
      (Some true) (unwatched c.loop-self.self) (unwatched c.turn.new.self) c.loop-self.invariant.1
      (c.in_ok-turn.ensures.made)) (λ e. refl),
  c.turn.ensures.keeps ∙ c.loop-self.invariant.1,
  (let before = c.loop-self.invariant.2 in let less = c.in_ok-turn.ensures.fewer in omega (arith, before, less)),
  λ none. still_as (g.M.Machine.answers c.loop-self.machine) (g.M.Machine.answers c.args.machine.now)
      c.turn.new.self.world c.loop-self.invariant.1 (c.in_ok-turn.ensures.still none),
)

pub returns-in_err-turn-clause-cut : goal.returns-in_err-turn-clause-cut
returns-in_err-turn-clause-cut g c = on_err c.from_residual.result _ (turns_cut (g.M.Machine.answers c.args.machine.now) c.loop-self.turns (unwatched c.args.self.now) (unwatched c.loop-self.self) (unwatched c.turn.new.self)
    (c.loop-self.invariant.0)
    (round_as (g.M.Machine.answers c.loop-self.machine) (g.M.Machine.answers c.args.machine.now) true None (unwatched c.loop-self.self)
    (unwatched c.turn.new.self) c.loop-self.invariant.1 (c.in_err-turn.ensures.cut)))

pub returns-clause-made : goal.returns-clause-made
returns-clause-made g c = turns_whole (g.M.Machine.answers c.args.machine.now) c.loop-self.turns (unwatched c.args.self.now)
    (unwatched c.loop-self.self) (c.loop-self.invariant.0)
    (c.loop-self.invariant.3 (none_due (due c.loop-self.self.world.client.client) (search rules)))
