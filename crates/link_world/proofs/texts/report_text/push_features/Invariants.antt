use Rattle.link_world.proofs.Names.{◌++◌, ◌≡◌, drop, feature_rows}
use Rattle.link_world.proofs.texts.report_text.push_features.Given as goal

-- what is written and what is left are all rows
abbrev pub invariant-loop-feature : goal.invariant-loop-feature
invariant-loop-feature l =
    l.text.items ++ feature_rows (drop l.feature-index l.features) ≡ l.fn.text.items ++ feature_rows l.features
