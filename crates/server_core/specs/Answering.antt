-- What the calls of a server need and do that answer, in the words that contracts share (this profile).
use Rattle.std.specs.Prelude.{◌≡◌, ◌≤◌, ◌+◌, ◌++◌, ℕ, true, List, Result, Vec, vec_len}
use Rattle.fixed_um.specs.Calls.{Grows, HasRoom, Leads, Writes}
use Rattle.dme_line.specs.Tags.{IsTag}
use Rattle.dme_line.specs.declared.tags.Tag.{Tag}
use Rattle.dme_line.specs.declared.commands.Command.{Command}
use Rattle.protocol_model.specs.Lines.{reply_bytes}
use Rattle.protocol_model.specs.Replies.{Reply}
use Rattle.protocol_model.specs.Server.{Answer, may_end}
use Rattle.protocol_model.specs.declared.lines.Misread.{Misread}
use Rattle.protocol_model.specs.declared.machine.Outcome.{Outcome}
use Rattle.server_core.specs.Kept.{IsReadingFit}
use Rattle.server_core.specs.Serving.{ControllerValue, with_answered, may_turn}

-- the most bytes of one line that a server answers, its end included
abbrev pub answer_line_most : ℕ
answer_line_most = 80

-- the most bytes of the two lines of a failure
abbrev pub failure_most : ℕ
failure_most = 160

-- the most bytes that one call answers: 132 such lines
abbrev pub answer_most : ℕ
answer_most = 10560

-- a tag that can be written, and room for that many bytes under it
abbrev pub HasRoomFor : {X Z : Type 0} → Tag → Vec X Z → ℕ → Type 0
HasRoomFor tag out most = IsTag tag × HasRoom out most

-- room for all that one call answers
abbrev pub HasAnswerRoom : {X Z : Type 0} → Vec X Z → Type 0
HasAnswerRoom out = HasRoom out answer_most

-- a server on a connection may read a line, and has room to answer it
abbrev pub MayHear : {X Z : Type 0} → ControllerValue → Vec X Z → Type 0
MayHear c out = (c.server.on ≡ true) × HasAnswerRoom out

-- it may, under a tag, and knows what was read there
abbrev pub MayTake : {X Z : Type 0} → ControllerValue → Vec X Z → Tag → Result Command Misread → Type 0
MayTake c out tag reading = IsTag tag × IsReadingFit reading × MayHear c out

-- the first waiting command may be processed, and has room for its answer
abbrev pub MayTurn : {X Z : Type 0} → ControllerValue → Vec X Z → Type 0
MayTurn c out = (may_turn c.server ≡ true) × HasAnswerRoom out

-- what runs can end so, and has room for its answer
abbrev pub MayEnd : {X Z : Type 0} → ControllerValue → Vec X Z → Outcome → Type 0
MayEnd c out ended = (may_end c.server.running ended ≡ true) × HasAnswerRoom out

-- at most what one call may answer was appended
abbrev pub IsBounded : {X Z : Type 0} → Vec X Z → Vec X Z → Type 0
IsBounded out sent = vec_len sent ≤ vec_len out + answer_most

-- these lines were written, and took at most that many bytes
abbrev pub Says : {Z : Type 0} → Vec ℕ Z → Vec ℕ Z → List Reply → ℕ → Type 0
Says out sent lines most = (sent.items ≡ out.items ++ reply_bytes lines) × Grows out sent most

-- the server is as an answer says, and its lines were written
abbrev pub Answers : {Z : Type 0} → ControllerValue → ControllerValue → Vec ℕ Z → Vec ℕ Z → Answer → Type 0
Answers old new out sent answer =
    (new ≡ with_answered old answer) × (sent.items ≡ out.items ++ reply_bytes answer.said) × IsBounded out sent

-- the same, or an error is answered, and neither the server nor what it says has changed
abbrev pub AnswersIfOk : {A E Z : Type 0} → Result A E → ControllerValue → ControllerValue → Vec ℕ Z → Vec ℕ Z → Answer → Type 0
AnswersIfOk result old new out sent answer =
    Leads result old new (with_answered old answer) × Writes result out sent (reply_bytes answer.said) × IsBounded out sent
