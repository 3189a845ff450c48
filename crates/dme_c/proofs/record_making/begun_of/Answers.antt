-- What the bytes give is what the client and its record begin with.
use Rattle.std.proofs.Common.{rules, refl}
use Rattle.dme_c.proofs.record_making.begun_of.Goals as goal

pub returns-clause-continues : goal.returns-clause-continues
returns-clause-continues c = λ setup text asks. record {
  meaning = c.args.program;
  asks = asks;
  beginning = c.in-Ok.begun;
  begins = c.in-Ok.ensures.continues;
  client_is = search rules;
  on_is = search rules;
  held_is = refl;
}
