use Rattle.std.proofs.Common.{[], append-nil, arith, subst, sym}
use Rattle.program_flow.specs.Pieces.{piece}
use Rattle.program_flow.specs.Texts.{Appends}
use Rattle.program_flow.specs.Variables.{entry_value}
use Rattle.program_flow.proofs.Appending.{appends-both, joined-by}
use Rattle.program_flow.proofs.pieces.+push_joined.Goals as goal

pub returns : goal.returns
returns t c = subst (λ made. Appends c.push_joined.result c.args.out.now.items c.push_joined.new.out.items made)
    (sym (joined-by (entry_value c.args.variables.now) c.args.text.now c.next-item.result c.args.others.now (omega (arith, c.in-len1-up.len_at_least)) c.next-item.is))
    (appends-both c.push_joined.result c.args.out.now.items c.args.out.now.items c.push_named_piece.new.out.items c.push_joined.new.out.items []
    (piece (entry_value c.args.variables.now) c.args.text.now) _ (sym (append-nil c.args.out.now.items)) c.in_ok-push_named_piece.ensures.0
    (rw c.deref.ensures at c.push_joined.ensures))
