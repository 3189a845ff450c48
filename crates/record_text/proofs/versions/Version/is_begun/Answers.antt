use Rattle.record_text.specs.Heads.{header}
use Rattle.record_text.proofs.StageRuns.{begins_line}
use Rattle.record_text.proofs.versions.Version.is_begun.Goals as goal

pub returns : goal.returns
returns c = begins_line c.args.bytes.now c.header.result.now (header c.args.self) c.starts_with.result c.header.ensures
    c.starts_with.ensures.value
