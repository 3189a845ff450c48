use Rattle.program_lowering.proofs.Names.{arith, refl}
use Rattle.program_lowering.proofs.ValuedLemmas.{line_bare, line_held, not_held, not_plain}
use Rattle.program_lowering.proofs.values.line_of.Goals as goal
use Rattle.program_lowering.proofs.values.line_of.Goals.{then-plain+then-len-le-MOST_BYTES, else-plain+in_ok-line, else-plain-via-then-plain+else-len-le-MOST_BYTES, else-plain-via-else-plain}

pub returns : goal.returns
returns c params e p =
    elim c.if-plain.branch [
      | then-plain+then-len-le-MOST_BYTES w ↦ rw (c.in_ok-push.ensures.items, c.in_ok-push_comment.ensures, w.line-is) (line_held c.args.word.now
          c.args.text.items _ params c.args.plain e p w.if-plain.true (omega (arith, w.if-len-le-MOST_BYTES.true, w.len.ensures)) refl)
      | else-plain+in_ok-line w ↦ elim w.else-plain.branch [
        | else-plain-via-then-plain+else-len-le-MOST_BYTES v ↦ rw (
          c.in_ok-push.ensures.items,
          c.in_ok-push_comment.ensures,
          w.line-is,
          w.in_ok-line.ensures.items,
          not_held c.args.word.now c.args.text.items params c.args.plain e p v.if-plain.true (omega (arith, v.if-len-le-MOST_BYTES.false, v.len.ensures)),
        ) (line_bare c.args.word.now _ refl)
        | else-plain-via-else-plain v ↦ rw (
          c.in_ok-push.ensures.items,
          c.in_ok-push_comment.ensures,
          w.line-is,
          w.in_ok-line.ensures.items,
          not_plain c.args.word.now params c.args.plain p v.if-plain.false,
        ) (line_bare c.args.word.now _ refl)
      ]
    ]
