use Rattle.dme_orders.proofs.Names.{inr, refl, rules, torn}
use Rattle.program_review.specs.Reviews.{texts_of}
use Rattle.dme_orders.proofs.OrderLemmas.{no_room, stops_at, works_or_empty}
use Rattle.dme_orders.proofs.reviewing.review_program.Goals as goal

pub returns-in_err-text : goal.returns-in_err-text
returns-in_err-text g c = stops_at _ _ _ _ c.in_err-text.field-0.0 c.from_residual-in_err-text.result (search rules) (inr (
  (c.in_ok-read.read.setup, c.in_ok-read.read.text.items),
  c.in_ok-read.ensures.ok,
  search rules,
)) refl

pub returns-in_err-report : goal.returns-in_err-report
returns-in_err-report g c = no_room _ _ _ _ c.from_residual-in_err-report.result (search rules)
    (texts_of c.in_ok-read.read.setup c.in_ok-read.read.text.items c.in_ok-text.text.items)
    (record { stored = c.in_ok-read.ensures.ok; read = c.in_ok-text.ensures.ok }) refl

pub returns-in-Ok : goal.returns-in-Ok
returns-in-Ok g c = record {
  input = texts_of c.in_ok-read.read.setup c.in_ok-read.read.text.items c.in_ok-text.text.items;
  read = record { stored = c.in_ok-read.ensures.ok; read = c.in_ok-text.ensures.ok };
  text = c.as_slice-findings.result.now;
  leaves = record { report = search rules; status_is = search rules };
  written = search rules;
  works = works_or_empty _ _ c.as_slice-findings.result.now c.in-Ok.ensures.works c.in-Ok.ensures.empty;
}

pub returns : goal.returns
returns g c = torn refl (record {
  input = texts_of c.in_ok-read.read.setup c.in_ok-read.read.text.items c.in_ok-text.text.items;
  read = record { stored = c.in_ok-read.ensures.ok; read = c.in_ok-text.ensures.ok };
  end = c.status_of-status.result;
  text = c.as_slice-findings.result.now;
  leaves = record { report = search rules; status_is = search rules };
  front = search rules;
  fails = search rules;
})
