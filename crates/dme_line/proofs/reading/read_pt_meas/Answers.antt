use Rattle.dme_line.proofs.Names.{Direction, IsPlace, Option, Point, rules, tokens}
use Rattle.dme_line.proofs.reading.read_pt_meas.Goals as goal

pub returns-in_default : goal.returns-in_default
returns-in_default c =
    let none : (p : Point) (d : Option Direction) → IsPlace (tokens c.args.bytes.now) p d → ⊥ = search rules in
    λ command h. none h.0 h.1 h.2
