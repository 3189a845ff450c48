use Rattle.server_core.proofs.Names.{◌*◌, ◌++◌, ◌+◌, ◌≡◌, ◌≤◌, all_fail, AllByRecursion, IsFit, length, reply_bytes, vec_capacity, vec_len}
use Rattle.server_core.specs.Answering.{failure_most}
use Rattle.server_core.proofs.answers.write_all_aborted.Given as goal

abbrev pub invariant-loop-command : goal.invariant-loop-command
invariant-loop-command l =
    AllByRecursion IsFit l.waiting
    × (l.out.items ++ reply_bytes (all_fail 9007 l.waiting) ≡ l.fn.out.items ++ reply_bytes (all_fail 9007 l.fn.waiting))
    × (vec_len l.out + failure_most * length l.waiting ≤ vec_len l.fn.out + failure_most * length l.fn.waiting)
    × (vec_capacity l.fn.out ≤ vec_capacity l.out)

abbrev pub decreases-loop-command : goal.decreases-loop-command
decreases-loop-command l = length l.waiting
