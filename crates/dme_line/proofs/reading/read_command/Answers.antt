use Rattle.dme_line.proofs.Names.{◌∙◌, Command, Kind, sym}
use Rattle.dme_line.proofs.NamedLemmas.{command_here}
use Rattle.dme_line.proofs.reading.read_command.Goals as goal

pub returns-in-Some-read_written_go_to-clause-reads : goal.returns-in-Some-read_written_go_to-clause-reads
returns-in-Some-read_written_go_to-clause-reads c = command_here c.args.line.now c.in-Some.text.now c.in-Some.tag Kind.GoTo
    (Command.GoTo c.in-Some-read_written_go_to.target) c.in-Some.ensures
    (sym c.is_event.ensures ∙ c.if-not-is_event.true) c.in-Some-read_written_go_to.ensures

pub returns-in-Some-read_written_pt_meas-clause-reads : goal.returns-in-Some-read_written_pt_meas-clause-reads
returns-in-Some-read_written_pt_meas-clause-reads c = command_here c.args.line.now c.in-Some.text.now c.in-Some.tag Kind.PtMeas
    (Command.PtMeas c.in-Some-read_written_pt_meas.target c.in-Some-read_written_pt_meas.direction) c.in-Some.ensures
    (sym c.is_event.ensures ∙ c.if-not-is_event.true) c.in-Some-read_written_pt_meas.ensures
