use Rattle.std.proofs.Common.{rules}
use Rattle.witness.proofs.JudgementNames.{Mark}
use Rattle.witness.proofs.Links.{first_linked}
use Rattle.witness.proofs.Notes.{none}
use Rattle.witness.proofs.course.Course.new.Goals as goal

pub returns : goal.returns
returns c = record {
  links = record {
    next = search rules;
    ends = search (rules, first_linked);
    receipts = search (rules, first_linked);
    closed = search rules;
  };
  notes = record {
    received = none Mark.Complete Mark.Received c.args.up.now _ (search rules);
    given = none Mark.Complete Mark.Data c.args.up.now _ (search rules);
    complete = none Mark.Complete Mark.Complete c.args.up.now _ (search rules);
    error = none Mark.Complete Mark.Error c.args.up.now _ (search rules);
    counted = none Mark.Received Mark.Received c.args.up.now _ (search rules);
  };
  so_far = search rules;
  unclear = search rules;
}
