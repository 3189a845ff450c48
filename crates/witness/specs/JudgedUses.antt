-- Which command a line of the server answers (this profile): the n-th end of a tag belongs to its n-th use. Lines above a line are listed with the
-- nearest first.
use Rattle.std.specs.Prelude.{◌≡◌, ◌<◌, length, get_or, ℕ, zero, suc, ◌+◌, ◌-◌, ◌==◌, Bool, true, false, ◌&&◌, nat_lt, if◌then◌else◌, List, [], ◌∷◌, drop, Option, Some, None, is_some}
use Rattle.std.specs.List.{list_any}
use Rattle.std.specs.Option.{option_or}
use Rattle.dme_line.specs.declared.tags.Tag.{Tag}
use Rattle.dme_line.specs.declared.tags.Tag.TheVariants.{Std, Event}
use Rattle.protocol_model.specs.Replies.{tag_is}
use Rattle.witness.specs.declared.judged_lines.Heard.{Heard}
use Rattle.witness.specs.declared.judged_lines.Heard.TheVariants as heard
use Rattle.witness.specs.declared.judged_lines.Mark.{Mark}
use Rattle.witness.specs.declared.judged_lines.Mark.TheVariants as mark
use Rattle.witness.specs.declared.judged_lines.Reply.{Reply}
use Rattle.witness.specs.declared.judged_lines.Reply.TheVariants as reply
use Rattle.witness.specs.declared.judged_lines.Sent.{Sent}
use Rattle.witness.specs.declared.judged_lines.Sent.TheVariants as sent
use Rattle.witness.specs.declared.course.Course.{Course}
use Rattle.witness.specs.declared.course.Notes.{Notes}
use Rattle.witness.specs.declared.rules.Moment.{Moment}
use Rattle.witness.specs.declared.rules.Stage.{Stage}
use Rattle.witness.specs.declared.rules.Stage.TheVariants as stage

-- ---- tags

-- the tag of a line of the client, whatever follows it
abbrev pub tag_of : Sent → Option Tag
tag_of sent.Untagged = None
tag_of (sent.Command t k) = Some t
tag_of (sent.Standard t) = Some t
tag_of (sent.Unknown t) = Some t
tag_of (sent.Unread t k) = Some t

abbrev pub is_under : Tag → Option Tag → Bool
is_under t None = false
is_under t (Some u) = tag_is u t

abbrev pub is_use : Tag → Sent → Bool
is_use t s = is_under t (tag_of s)

-- the place of the nearest of these lines that is such a line; the last of them has the place 0
abbrev pub latest : {X : Type 0} → (X → Bool) → List X → Option ℕ
latest p [] = None
latest p (x ∷ above) = if p x then Some (length above) else latest p above

-- the place of the use of a tag before, and of that before it
abbrev pub previous : Tag → List Sent → Option ℕ
previous t above = latest (is_use t) above

abbrev pub before_previous : Tag → List Sent → Option ℕ
before_previous t [] = None
before_previous t (s ∷ above) = if is_use t s then previous t above else before_previous t above

-- the place of the n-th use of a tag, counted from 0, where the first of these lines is at a place
abbrev pub place_from : ℕ → Tag → ℕ → List Sent → Option ℕ
place_from at t n [] = None
place_from at t zero (s ∷ ss) = if is_use t s then Some at else place_from (at + 1) t zero ss
place_from at t (suc n) (s ∷ ss) = if is_use t s then place_from (at + 1) t n ss else place_from (at + 1) t (suc n) ss

-- likewise for all lines of the client
abbrev pub place_of : Tag → ℕ → List Sent → Option ℕ
place_of t n lines = place_from 0 t n lines

-- ---- marks

abbrev pub has_mark : Mark → Reply → Bool
has_mark mark.Received reply.Received = true
has_mark mark.Data (reply.Given d) = true
has_mark mark.Complete reply.Complete = true
has_mark mark.Error (reply.Error s) = true
has_mark _ _ = false

-- a line of the server is a response under a tag, with such a mark
abbrev pub replies : Mark → Tag → Heard → Bool
replies m t heard.Other = false
replies m t (heard.Response u r) = tag_is u t && has_mark m r

-- how many such marks of a tag are in these lines of the server
abbrev pub marks_of : Mark → Tag → List Heard → ℕ
marks_of m t [] = 0
marks_of m t (h ∷ above) = if replies m t h then suc (marks_of m t above) else marks_of m t above

-- the number of the last end of a tag
abbrev pub last_end : Tag → List Heard → Option ℕ
last_end t above = latest (replies mark.Complete t) above

abbrev pub has_end : Tag → List Heard → Bool
has_end t above = is_some (last_end t above)

-- ---- which command a line answers

-- the use of a tag that has as many uses above as these lines have such marks of the tag
abbrev pub use_after : Mark → List Sent → List Heard → Tag → Option ℕ
use_after m up above t = place_of t (marks_of m t above) up

abbrev pub is_at : Option ℕ → ℕ → Bool
is_at None n = false
is_at (Some m) n = m == n

-- a line of the server is a mark of the command at a place: under its tag, with as many marks of the first sort above as it has uses above. For all
-- but one rule these are ends
abbrev pub answers : Mark → Mark → List Sent → List Heard → Heard → ℕ → Bool
answers c m up above heard.Other at = false
answers c m up above (heard.Response t r) at = has_mark m r && is_at (use_after c up above t) at

-- ---- what the server refused without a tag

-- an error under E0000: the server refused a line without naming its tag, as it must if the tag is in use. Which one is not known
abbrev pub refuses : Heard → Bool
refuses h = replies mark.Error (Event 0) h

abbrev pub refusals : List Heard → ℕ
refusals [] = 0
refusals (h ∷ above) = if refuses h then refusals above + 1 else refusals above

abbrev pub has_refused : List Heard → Bool
has_refused above = nat_lt 0 (refusals above)

-- a line that is no response may be an error of any command
abbrev pub is_unclear : Heard → Bool
is_unclear heard.Other = true
is_unclear (heard.Response t r) = false

-- ---- what the server has done

-- how many commands under standard tags are received and not ended, after a line of the server more
abbrev pub busy_after : ℕ → Heard → ℕ
busy_after busy (heard.Response (Std n) reply.Received) = busy + 1
busy_after busy (heard.Response (Std n) reply.Complete) = busy - 1
busy_after busy _ = busy

abbrev pub busy : List Heard → ℕ
busy [] = 0
busy (h ∷ above) = busy_after (busy above) h

-- the greater of a place and of the place of a command that is answered
abbrev pub farther : ℕ → Option ℕ → ℕ
farther at None = at
farther at (Some k) = if nat_lt at k then k else at

-- the use whose command a line answers
abbrev pub use_under : List Sent → List Heard → Heard → Option ℕ
use_under up above heard.Other = None
use_under up above (heard.Response t r) = use_after mark.Complete up above t

-- the last place of a command that these lines answer
abbrev pub farthest : List Sent → List Heard → ℕ
farthest up [] = 0
farthest up (h ∷ above) = farther (farthest up above) (use_under up above h)

abbrev pub moment : List Sent → List Heard → Moment
moment up above = record { number = length above; refusals = refusals above; busy = busy above; farthest = farthest up above }

-- when the first such mark of the command at a place came, if it is in these lines
abbrev pub noted : Mark → Mark → List Sent → List Heard → ℕ → Option Moment
noted c m up [] at = None
noted c m up (h ∷ above) at = option_or (noted c m up above at) (if answers c m up above h at then Some (moment up (h ∷ above)) else None)

-- likewise, if a mark belongs to the use that has as many uses above as the mark has ends above
abbrev pub came : Mark → List Sent → List Heard → ℕ → Option Moment
came m up above at = noted mark.Complete m up above at

abbrev pub has_come : Mark → List Sent → List Heard → ℕ → Bool
has_come m up above at = is_some (came m up above at)

-- how far the command at a place is, by the first of these that is true: its end, an error, data, and that it was received are in these lines
abbrev pub stage_by : Bool → Bool → Bool → Bool → Stage
stage_by true failed given received = stage.Ended
stage_by false true given received = stage.Failed
stage_by false false true received = stage.Given
stage_by false false false true = stage.Received
stage_by false false false false = stage.Sent

abbrev pub stage_of : List Sent → List Heard → ℕ → Stage
stage_of up above at = stage_by (has_come mark.Complete up above at) (has_come mark.Error up above at) (has_come mark.Data up above at)
    (has_come mark.Received up above at)

-- ---- tables

-- the number of a tag in a table
abbrev pub code_of : Tag → ℕ
code_of (Std n) = n + n
code_of (Event n) = n + n + 1

-- what a table has for a tag
abbrev pub found : List (Option ℕ) → Tag → Option ℕ
found table t = get_or table (code_of t) None

-- the place of the use after the one at a place
abbrev pub next_of : List (Option ℕ) → Option ℕ → Option ℕ
next_of next None = None
next_of next (Some at) = get_or next at None

-- a table has the first use of each tag from a place on
abbrev pub AreFirst : List Sent → ℕ → List (Option ℕ) → Type 0
AreFirst up from table = (t : Tag) → found table t ≡ place_from from t 0 (drop from up)

-- a list has the next use of its tag for each line of the client from a place on
pub record AreNext (up : List Sent) (from : ℕ) (next : List (Option ℕ)) : Type 0 where
  pub count : length next ≡ length up
  pub each : (t : Tag) (n at : ℕ) → place_from from t n (drop from up) ≡ Some at → get_or next at None ≡ place_from from t (suc n) (drop from up)

-- a table has the use of each tag that has as many uses above as there were such marks of the tag
abbrev pub AreLinked : Mark → List Sent → List Heard → List (Option ℕ) → Type 0
AreLinked m up above table = (t : Tag) → found table t ≡ use_after m up above t

-- what came for each command of the client
pub record AreNoted (c m : Mark) (up : List Sent) (above : List Heard) (notes : List (Option Moment)) : Type 0 where
  pub count : length notes ≡ length up
  pub each : (at : ℕ) → at < length up → get_or notes at None ≡ noted c m up above at

pub record AreAllNoted (up : List Sent) (above : List Heard) (n : Notes) : Type 0 where
  pub received : AreNoted mark.Complete mark.Received up above n.received.items
  pub given : AreNoted mark.Complete mark.Data up above n.given.items
  pub complete : AreNoted mark.Complete mark.Complete up above n.complete.items
  pub error : AreNoted mark.Complete mark.Error up above n.error.items
  pub counted : AreNoted mark.Received mark.Received up above n.counted.items

-- which use of each tag is next
pub record AreAllLinked (up : List Sent) (above : List Heard) (l : Course) : Type 0 where
  pub next : AreNext up 0 l.next.items
  pub ends : AreLinked mark.Complete up above l.ends.items
  pub receipts : AreLinked mark.Received up above l.receipts.items
  pub closed : (t : Tag) → found l.closed.items t ≡ last_end t above

-- what a server has done in these lines
pub record IsCourse (up : List Sent) (above : List Heard) (c : Course) : Type 0 where
  pub links : AreAllLinked up above c
  pub notes : AreAllNoted up above c.notes
  pub so_far : c.moment ≡ moment up above
  pub unclear : c.is_unclear ≡ list_any is_unclear above
