use Rattle.dme_words.proofs.Names.{◌≡◌, app_of, drop, false, fold, out-Command, with_argument}
use Rattle.dme_words.proofs.line.with_arguments.Given as goal

-- what is there and what is left are all arguments
abbrev pub invariant-loop-argument : goal.invariant-loop-argument
invariant-loop-argument l = (fold with_argument (app_of l.command) (drop l.argument-index l.arguments)
    ≡ fold with_argument (app_of l.fn.command) l.arguments)
    × ((out-Command l.command).has_globals ≡ false)
