use Rattle.witness.proofs.EitherText.{first_line, line_first}
use Rattle.witness.proofs.auditing.is_told_file.Goals as goal

pub returns-in-Some : goal.returns-in-Some
returns-in-Some c = (
  (λ yes. first_line c.args.bytes.now c.in-Some.line.now c.in-Some.field-0-1.now c.in-Some.ensures.cut (c.is_header.ensures.0 yes)),
  (λ told. c.is_header.ensures.1 (line_first c.args.bytes.now c.in-Some.line.now c.in-Some.field-0-1.now c.in-Some.ensures.cut told)),
)
