use Rattle.dme_line.proofs.Names.{◌∙◌, Begins, sym}
use Rattle.dme_line.proofs.CommandLemmas.{says_here, wrong_sort}
use Rattle.dme_line.proofs.reading.read_any_command.Goals as goal

pub returns-then-is_event-clause-reads : goal.returns-then-is_event-clause-reads
returns-then-is_event-clause-reads c line tagged =
    let begins : Begins line c.args.tag c.cut_name.result.0.now c.cut_name.result.1.now =
    record { text = c.args.text.now; tagged = tagged; named = c.cut_name.ensures } in (
      c.cut_name.result.0.now,
      c.cut_name.result.1.now,
      begins,
      c.in-Some.ensures,
      λ command h.
          let here = says_here line c.args.tag c.args.tag c.cut_name.result.0.now c.cut_name.result.1.now c.in-Some.kind command begins
          c.in-Some.ensures h in
          wrong_sort c.is_event.result c.is_event-2.result (c.is_event.ensures ∙ here.fits.sort
          ∙ sym c.is_event-2.ensures) c.if-is_event.true,
    )

pub returns-in-None-clause-reads : goal.returns-in-None-clause-reads
returns-in-None-clause-reads c line tagged =
    let begins : Begins line c.args.tag c.cut_name.result.0.now c.cut_name.result.1.now =
    record { text = c.args.text.now; tagged = tagged; named = c.cut_name.ensures } in
    let none = rw c.in-None.is at c.in_ok-command.ensures.read in (
      c.cut_name.result.0.now,
      c.cut_name.result.1.now,
      begins,
      c.in-Some.ensures,
      λ command h.
          none command (says_here line c.args.tag c.args.tag c.cut_name.result.0.now c.cut_name.result.1.now c.in-Some.kind command begins
          c.in-Some.ensures h).says,
    )
