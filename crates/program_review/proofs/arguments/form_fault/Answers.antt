use Rattle.std.proofs.Common.{rules}
use Rattle.program_review.specs.Spots.{site_of}
use Rattle.program_review.proofs.ArgumentLemmas.{form_is}
use Rattle.program_review.proofs.arguments.form_fault.Goals as goal

pub returns-in-Some : goal.returns-in-Some
returns-in-Some c = form_is c.name_fault.result (site_of c.args.found) c.args.index c.args.front.now c.args.param.now c.in-Some.name.now _
    (search rules) c.in_param.ensures c.name_fault.ensures
