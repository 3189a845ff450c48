use Rattle.contact_ledger.proofs.Names.{◌++◌, ◌≡◌, act_line, AllByRecursion, drop, IsWrittenAct, map, text_of}
use Rattle.contact_ledger.proofs.contact_writing.add_entries.Given as goal

-- what is written, and the lines that are left
abbrev pub invariant-loop-entry : goal.invariant-loop-entry
invariant-loop-entry l = record {
  text : l.text.items ++ text_of (map act_line (drop l.entry-index l.entries)) ≡ l.fn.text.items ++ text_of (map act_line l.entries);
  acts : AllByRecursion (λ entry. IsWrittenAct entry.1) (drop l.entry-index l.entries)
      → AllByRecursion (λ entry. IsWrittenAct entry.1) l.entries;
}
