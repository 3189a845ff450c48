use Rattle.record_text.proofs.Names.{◌++◌, ◌≡◌, AllByRecursion, drop, IsAskedTouch, map, text_of, touch_line}
use Rattle.record_text.proofs.head_writing.add_touches.Given as goal

-- what is written, and the lines that are left
abbrev pub invariant-loop-touch : goal.invariant-loop-touch
invariant-loop-touch l = record {
  text : l.text.items ++ text_of (map touch_line (drop l.touch-index l.touches)) ≡ l.fn.text.items ++ text_of (map touch_line l.touches);
  touches : AllByRecursion IsAskedTouch (drop l.touch-index l.touches) → AllByRecursion IsAskedTouch l.touches;
}
