use Rattle.dme_line.proofs.reading.read_change_tool.Goals as goal

pub returns-in-None-clause-read : goal.returns-in-None-clause-read
returns-in-None-clause-read c = let none = rw c.in-None.is at c.in_ok-name.ensures.read in λ command h. none h.0 h.1
