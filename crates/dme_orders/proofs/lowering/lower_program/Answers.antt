use Rattle.std.proofs.Common.{rules, refl, inr}
use Rattle.dme_orders.specs.Orders.{torn}
use Rattle.dme_orders.proofs.OrderLemmas.{stops_at, works_or_empty}
use Rattle.dme_orders.proofs.lowering.lower_program.Goals as goal

pub returns-in_err-flat : goal.returns-in_err-flat
returns-in_err-flat g c = stops_at _ _ _ _ c.in_err-flat.field-0.0 c.from_residual-in_err-flat.result (search rules) (inr (
  c.in_ok-setup.setup,
  c.in_ok-setup.ensures.ok,
  search rules,
)) refl

pub returns-in-Ok : goal.returns-in-Ok
returns-in-Ok g c = record {
  input = record { setup = c.in_ok-setup.setup; flat = (c.in_ok-flat.flat.text.items, c.in_ok-flat.flat.notes.items) };
  read = record { said = c.in_ok-setup.ensures.ok; accepted = c.in_ok-flat.ensures.ok };
  text = c.as_slice.result.now;
  leaves = record { is = search rules; answered = refl };
  written = search rules;
  works = works_or_empty _ _ c.as_slice.result.now c.in-Ok.ensures.works c.in-Ok.ensures.empty;
}

pub returns : goal.returns
returns g c = torn refl (record {
  input = record { setup = c.in_ok-setup.setup; flat = (c.in_ok-flat.flat.text.items, c.in_ok-flat.flat.notes.items) };
  read = record { said = c.in_ok-setup.ensures.ok; accepted = c.in_ok-flat.ensures.ok };
  end = c.in_ok-flat.flat;
  text = c.as_slice.result.now;
  leaves = record { is = search rules; answered = refl };
  front = search rules;
  fails = search rules;
})
