use Rattle.record_text.proofs.Names.{◌++◌, ◌≡◌, AllByRecursion, AreAsked, asked_lines, drop, text_of}
use Rattle.dmis_program.specs.Programs.{IsFeature}
use Rattle.record_text.proofs.head_writing.add_asked.Given as goal

-- what is written, and the lines that are left
abbrev pub invariant-loop-feature : goal.invariant-loop-feature
invariant-loop-feature l = record {
  text : l.text.items ++ text_of (asked_lines (drop l.feature-index l.wanted)) ≡ l.fn.text.items ++ text_of (asked_lines l.wanted);
  asked : AllByRecursion IsFeature l.wanted
      → AllByRecursion IsFeature (drop l.feature-index l.wanted) × (AreAsked (drop l.feature-index l.wanted) → AreAsked l.wanted);
}
