use Rattle.run_session.proofs.Names.{◌≡◌, ◌++◌, drop, map, numbered}
use Rattle.contact_ledger.specs.Lines.{text_of}
use Rattle.contact_ledger.specs.ContactTexts.{act_line}
use Rattle.run_session.proofs.reported.Reported.follow.Given as goal

-- the lines so far, and those that are left
abbrev pub invariant-loop-act : goal.invariant-loop-act
invariant-loop-act l = l.lines.items ++ text_of (map act_line (numbered l.fn.number (drop l.act-index l.act-items)))
    ≡ text_of (map act_line (numbered l.fn.number l.act-items))
