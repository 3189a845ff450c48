use Rattle.dme_line.proofs.Names.{◌≡◌, List, point_tokens, rules, tokens, ℕ}
use Rattle.dme_line.proofs.points.read_any_point.Goals as goal

pub returns-in_default : goal.returns-in_default
returns-in_default c =
    let none : (x y z : List ℕ) → tokens c.args.text.now ≡ point_tokens x y z → ⊥ = search rules in
    λ p h. none h.x h.y h.z h.spelled
