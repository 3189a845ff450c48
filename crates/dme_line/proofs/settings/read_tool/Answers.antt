use Rattle.dme_line.specs.Tokens.{tokens}
use Rattle.dme_line.proofs.ToolLemmas.{tool_read}
use Rattle.dme_line.proofs.settings.read_tool.Goals as goal

pub returns-clause-read : goal.returns-clause-read
returns-clause-read c = tool_read (tokens c.args.bytes.now) c.in-Some.word.now c.unquoted.result.now c.new.result c.in-Some.ensures
    c.unquoted.ensures c.new.ensures
