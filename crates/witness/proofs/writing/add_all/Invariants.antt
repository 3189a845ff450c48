use Rattle.witness.proofs.Names.{◌++◌, ◌≡◌, drop, map, numbered, text_of, told_line}
use Rattle.witness.proofs.writing.add_all.Given as goal

-- what is written, and the lines that are left
abbrev pub invariant-loop-one : goal.invariant-loop-one
invariant-loop-one l =
    l.text.items ++ text_of (map told_line (map (numbered l.connection) (drop l.one-index l.reported)))
    ≡ l.fn.text.items ++ text_of (map told_line (map (numbered l.connection) l.reported))
