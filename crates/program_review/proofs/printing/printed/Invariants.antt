use Rattle.program_review.proofs.Names.{[], ◌++◌, ◌∷◌, ◌≡◌, array_tokens, drop, finding_lines, findings_tokens, names_of}
use Rattle.json.specs.Token.{end_array}
use Rattle.program_review.proofs.printing.printed.Given as goal

abbrev pub invariant-loop-finding : goal.invariant-loop-finding
invariant-loop-finding l = l.text.items ++ finding_lines (names_of l.style.program.now l.style.setup.now) (drop l.finding-index l.findings)
    ≡ finding_lines (names_of l.style.program.now l.style.setup.now) l.findings

abbrev pub invariant-loop-one : goal.invariant-loop-one
invariant-loop-one l = (l.json.tokens
    ++ (findings_tokens (names_of l.style.program.now l.style.setup.now) (drop l.one-index l.findings) ++ end_array ∷ [])
    ≡ array_tokens (names_of l.style.program.now l.style.setup.now) l.findings) × (l.json.before ≡ [])
