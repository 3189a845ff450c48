use Rattle.record_text.proofs.Names.{◌≡◌, last_frame, take}
use Rattle.record_text.proofs.runs.last_frame.Given as goal

-- the frame of the last touch so far
abbrev pub invariant-loop-touch : goal.invariant-loop-touch
invariant-loop-touch l = l.frame ≡ last_frame (take l.touch-index l.touches)
