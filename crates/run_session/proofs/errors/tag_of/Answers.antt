use Rattle.run_session.proofs.Noting.{tag_unread}
use Rattle.run_session.proofs.errors.tag_of.Goals as goal

pub returns-in-Err : goal.returns-in-Err
returns-in-Err c = λ tag text t is. tag_unread tag c.args.line.now text t is c.in-Err.ensures
