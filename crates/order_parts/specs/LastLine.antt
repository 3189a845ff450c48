-- What a run says last (this profile): by what it was stopped and how far it came, or that nothing was left to be measured.
use Rattle.std.specs.Prelude.{ℕ, ◌==◌, if◌then◌else◌, List, [], ◌++◌, codes, decimal, Option, Some, None}
use Rattle.protocol_model.specs.declared.states.State.{State}
use Rattle.protocol_model.specs.declared.states.State.TheVariants as state
use Rattle.order_parts.specs.declared.run_endings.Counts.{Counts}
use Rattle.order_parts.specs.declared.run_endings.LastLine.{LastLine}
use Rattle.order_parts.specs.declared.run_endings.LastLine.TheVariants as line
use Rattle.order_parts.specs.declared.run_endings.RunEnding.{RunEnding}
use Rattle.order_parts.specs.declared.run_endings.RunEnding.TheVariants as ending
use Rattle.order_parts.specs.declared.run_endings.StopCause.{StopCause}
use Rattle.order_parts.specs.declared.run_endings.StopCause.TheVariants as cause

-- a halted run was halted by the stop file if no command had failed before that was seen, else by the server's error
abbrev pub halt_cause : Option State → StopCause
halt_cause (Some state.Running) = cause.StopFile
halt_cause _ = cause.ServerError

-- what kept a run from its end; nothing, if its whole program was carried out
abbrev pub stop_cause : RunEnding → Option StopCause
stop_cause ending.NotConfirmed = Some cause.Operator
stop_cause ending.NotBegun = Some cause.StopFile
stop_cause (ending.Left state.Done seen) = None
stop_cause (ending.Left state.Halted seen) = Some (halt_cause seen)
stop_cause (ending.Left _ seen) = Some cause.Shown

-- a run that has come to its end says something only if all features were kept before, and there are any
abbrev pub kept_line : (kept asked : ℕ) → Option LastLine
kept_line kept asked = if asked == 0 then None else if kept == asked then Some (line.AllKept asked) else None

-- the last line, by what kept the run from its end
abbrev pub line_after : Option StopCause → Counts → Option LastLine
line_after (Some why) counts = Some (line.Stopped why counts.complete counts.asked)
line_after None counts = kept_line counts.kept counts.asked

abbrev pub last_line : RunEnding → Counts → Option LastLine
last_line how counts = line_after (stop_cause how) counts

-- by whom or what a run was stopped, in words; nothing, if the lines before say it
abbrev pub cause_words : StopCause → List ℕ
cause_words cause.ServerError = codes " by the server's error"
cause_words cause.StopFile = codes " by the stop file"
cause_words cause.Operator = codes " by the operator"
cause_words cause.Shown = []

-- all features were kept before
abbrev pub kept_words : ℕ → List ℕ
kept_words n = if n == 1 then codes "dme: the only feature was kept before: nothing was measured\n"
    else codes "dme: all " ++ (decimal n ++ codes " features were kept before: nothing was measured\n")

-- features are counted in words: one feature, two features
abbrev pub feature_noun : ℕ → List ℕ
feature_noun n = if n == 1 then codes "feature" else codes "features"

-- the line as it is shown
abbrev pub last_text : LastLine → List ℕ
last_text (line.Stopped why complete asked) = codes "dme: stopped" ++ (cause_words why ++ (codes ": " ++ (decimal complete ++ (codes " of "
    ++ (decimal asked ++ (codes " " ++ (feature_noun asked ++ codes " complete. Remove the cause, then make the same call.\n")))))))
last_text (line.AllKept n) = kept_words n
