use Rattle.program_lowering.proofs.Names.{[], ◌∙◌, ◌≡◌, append-nil, flat, flat_line, IfOk, List, refl, subst, sym, ℕ}
use Rattle.program_lowering.specs.Lowering.{ended}
use Rattle.program_lowering.proofs.ValuedLemmas.{nothing_held}
use Rattle.program_lowering.proofs.values.bare_line.Goals as goal

pub returns : goal.returns
returns c =
    subst (λ (ps : List (List ℕ)). IfOk c.line_of.result (λ line. line.items ≡ ended (flat_line (flat c.args.word.now ps) 1)))
    (nothing_held c.args.word.now) (c.line_of.ensures [] (c.in_ok-from_slice.ensures.items ∙ sym (append-nil c.args.word.now)) refl)
