use Rattle.contact_ledger.proofs.Names.{◌++◌, ◌≡◌, AllByRecursion, AreFeatures, CanBeWritten, drop, lines_of_all, Second, text_of}
use Rattle.contact_ledger.proofs.feature_writing.add_features.Given as goal

-- what is written, and the lines that are left
abbrev pub invariant-loop-feature : goal.invariant-loop-feature
invariant-loop-feature l = record {
  text : l.text.items ++ text_of (lines_of_all Second (drop l.feature-index l.features))
      ≡ l.fn.text.items ++ text_of (lines_of_all Second l.features);
  features : AreFeatures Second (drop l.feature-index l.features) → AreFeatures Second l.features;
  owed : AllByRecursion CanBeWritten (drop l.feature-index l.features);
}
