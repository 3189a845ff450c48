-- Lists of calls on the open commands of a client, in any order (this profile).
use Rattle.std.specs.Prelude.{Bool, false, if◌then◌else◌, Option, Some, None, List, [], ◌∷◌, Ok, Err}
use Rattle.dme_line.specs.declared.tags.Tag.{Tag}
use Rattle.dme_line.specs.declared.commands.Kind.{Kind}
use Rattle.protocol_model.specs.Replies.{Mark, tag_is}
use Rattle.protocol_model.specs.Language.{Placed}
use Rattle.protocol_model.specs.declared.held.Datum.{Datum}
use Rattle.dme_tags.specs.Opened.{OpenValue, Answer, heard, is_next, next_tag, with_drawn}

-- a call that did not run out of memory: a tag is drawn for a command of this kind; `&`, data, `!` or `%` is read under a tag; a plan
-- begins
pub data Call : Type 0 where
  Draw : Kind → Call
  Received : Tag → Call
  Data : Tag → Datum → Call
  Failed : Tag → Call
  Complete : Tag → Call
  BeginPlan : Call

-- a command is held under the tag that is drawn for it; where all tags are held nothing changes
abbrev pub behind_draw : OpenValue → Kind → Option Tag → OpenValue
behind_draw o kind None = o
behind_draw o kind (Some tag) = with_drawn o tag kind

-- an expected mark changes what is open, a refused one does not
abbrev pub behind_answer : OpenValue → Answer → OpenValue
behind_answer o (Ok (next, effect)) = next
behind_answer o (Err cause) = o

-- what is open after a call
abbrev pub behind_call : OpenValue → Call → OpenValue
behind_call o (Draw kind) = behind_draw o kind (next_tag o kind)
behind_call o (Received t) = behind_answer o (heard o t Mark.Ack)
behind_call o (Data t datum) = behind_answer o (heard o t (Mark.Given datum))
behind_call o (Failed t) = behind_answer o (heard o t Mark.Error)
behind_call o (Complete t) = behind_answer o (heard o t Mark.Done)
behind_call o BeginPlan = record o { failed = false }

-- the marks after one that was taken in: `%` is the last
abbrev pub until_end : Mark → List Placed → List Placed
until_end Mark.Ack later = later
until_end (Mark.Given datum) later = later
until_end Mark.Error later = later
until_end Mark.Done later = []

-- a mark by its answer: one that was taken in comes before those that were taken in later
abbrev pub answered : Bool → Mark → Answer → List Placed → List Placed
answered front m (Ok next) later = (front, m) ∷ until_end m later
answered front m (Err cause) later = later

-- a mark under one tag among those under another: it counts where they are one
abbrev pub placed : Tag → OpenValue → Tag → Mark → List Placed → List Placed
placed t o u m later = if tag_is u t then answered (is_next t o) m (heard o u m) later else later

-- a call among the marks under a tag
abbrev pub placed_by : Tag → OpenValue → Call → List Placed → List Placed
placed_by t o (Draw kind) later = later
placed_by t o (Received u) later = placed t o u Mark.Ack later
placed_by t o (Data u datum) later = placed t o u (Mark.Given datum) later
placed_by t o (Failed u) later = placed t o u Mark.Error later
placed_by t o (Complete u) later = placed t o u Mark.Done later
placed_by t o BeginPlan later = later

-- the marks that calls took in under a tag, up to its `%`, each with whether the command of the tag was next
abbrev pub taken_under : Tag → OpenValue → List Call → List Placed
taken_under t o [] = []
taken_under t o (call ∷ calls) = placed_by t o call (taken_under t (behind_call o call) calls)
