use Rattle.std.proofs.Common.{arith, ◌-◌, length, rules}
use Rattle.dmis_text.proofs.Lanes.{filled_to_end}
use Rattle.dmis_text.proofs.runs.is_filled_to_end.Goals as goal

pub returns-then-last-from : goal.returns-then-last-from
returns-then-last-from g c = λ full. filled_to_end _ c.args.bytes.now c.args.from (length c.args.bytes.now - 16) _
    (omega (arith, c.if-last-from.true)) c.requires (omega (arith, c.if-bytes-lt-LANES.false)) c.run_in_block.ensures (search rules)
