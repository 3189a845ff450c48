use Rattle.program_flow.proofs.Plain.{straight_text}
use Rattle.program_flow.proofs.examples.straight_texts_come_out.Goals as goal

pub returns : goal.returns
returns c = straight_text
