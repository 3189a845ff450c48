use Rattle.dme_words.proofs.Names.{◌≡◌, app_of, drop, false, fold, out-Command, with_line}
use Rattle.dme_words.proofs.line.with_lines.Given as goal

-- what is there and what is left are all subcommands
abbrev pub invariant-loop-line : goal.invariant-loop-line
invariant-loop-line l = (fold with_line (app_of l.command) (drop l.line-index l.lines) ≡ fold with_line (app_of l.fn.command) l.lines)
    × ((out-Command l.command).has_globals ≡ false)
