use Rattle.record_text.proofs.Names.{◌++◌, ◌≡◌, AllByRecursion, drop, entries_of, entry_line, IsWrittenAct, map, text_of, told_on}
use Rattle.record_text.proofs.telling.Telling.add.Given as goal

-- what is written and counted, and the acts that are left
abbrev pub invariant-loop-act : goal.invariant-loop-act
invariant-loop-act l = record {
  text : l.text.items ++ text_of (map entry_line (entries_of l.wanted l.self.connection l.self.counted (drop l.act-index l.acts)))
      ≡ l.fn.text.items ++ text_of (map entry_line (entries_of l.wanted l.fn.self.connection l.fn.self.counted l.acts));
  counts : told_on l.wanted l.self (drop l.act-index l.acts) ≡ told_on l.wanted l.fn.self l.acts;
  acts : AllByRecursion IsWrittenAct (drop l.act-index l.acts) → AllByRecursion IsWrittenAct l.acts;
}
