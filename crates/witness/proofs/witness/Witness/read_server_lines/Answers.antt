use Rattle.witness.proofs.Names.{◌∙◌, ap, server_read, suc}
use Rattle.witness.proofs.Courses.{server_last}
use Rattle.witness.proofs.witness.Witness.read_server_lines.Goals as goal

-- one line more
pub loop-self-preserved : goal.loop-self-preserved
loop-self-preserved c =
    let so_far = c.loop-self.invariant in
    (suc so_far.0, c.in_ok-read_server.ensures.ok ∙ ap server_read so_far.1)

pub returns-clause-reads : goal.returns-clause-reads
returns-clause-reads c =
    server_last _ _ _ c.read_server-2.result c.loop-self.invariant c.read_server-2.ensures.ok c.read_server-2.ensures.err
