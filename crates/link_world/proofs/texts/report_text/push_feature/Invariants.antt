use Rattle.link_world.proofs.Names.{◌++◌, ◌≡◌, codes, drop, line, point_rows}
use Rattle.link_world.proofs.texts.report_text.push_feature.Given as goal

-- what is written and what is left are all rows
abbrev pub invariant-loop-point : goal.invariant-loop-point
invariant-loop-point l =
    l.text.items ++ point_rows (drop l.point-index l.feature.points)
    ≡ (l.fn.text.items ++ line (codes "FEATURE " ++ l.feature.label)) ++ point_rows l.feature.points
