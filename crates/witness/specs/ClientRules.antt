-- The rules for a line of the client (this profile). Where the order between the lines of both ends is not known, a line is blamed only for what no
-- order excuses. What a machine needs for a motion (homing, a tool) is the server's to refuse, and breaks no rule.
use Rattle.std.specs.Prelude.{◌≡◌, ℕ, ◌-◌, Bool, true, false, ◌&&◌, ◌||◌, not, nat_lt, nat_le, if◌then◌else◌, List, [], ◌∷◌, length, slice_get, Option, Some, None, is_some}
use Rattle.std.specs.List.{list_any}
use Rattle.dme_line.specs.Kinds.{is_event_kind}
use Rattle.dme_line.specs.Tags.{is_event_tag}
use Rattle.dme_line.specs.declared.tags.Tag.{Tag}
use Rattle.dme_line.specs.declared.commands.Kind.{Kind}
use Rattle.dme_line.specs.declared.commands.Kind.TheVariants as kind
use Rattle.witness.specs.JudgedUses.{tag_of, found, previous, before_previous, noted, came, has_come, farthest, has_refused, is_unclear}
use Rattle.witness.specs.declared.client.Above.{Above}
use Rattle.witness.specs.declared.judged_lines.Heard.{Heard}
use Rattle.witness.specs.declared.judged_lines.Mark.TheVariants as mark
use Rattle.witness.specs.declared.judged_lines.Sent.{Sent}
use Rattle.witness.specs.declared.judged_lines.Sent.TheVariants as sent
use Rattle.witness.specs.declared.rules.Moment.{Moment}
use Rattle.witness.specs.declared.rules.Rule.{Rule}
use Rattle.witness.specs.declared.rules.Rule.TheVariants as rule

-- ---- which commands failed. All lines of the server, the nearest first, are the second argument

-- the command at a place may have failed: an error was reported for it, or a line of the server is no response, or its tag was used before and the
-- server refused a line without its tag
abbrev pub may_have_failed : List Sent → List Heard → ℕ → Bool → Bool
may_have_failed up all at again = has_come mark.Error up all at || (list_any is_unclear all || (again && has_refused all))

abbrev pub is_again : Tag → List Sent → Bool
is_again t above = is_some (previous t above)

-- ---- sessions: of the lines above a line, the nearest first

abbrev pub is_start : Kind → Bool
is_start kind.StartSession = true
is_start _ = false

abbrev pub is_end : Kind → Bool
is_end kind.EndSession = true
is_end _ = false

-- whether a session may be open after a command; the second argument: the command may have failed, the third: a session may be open before it
abbrev pub may_after : Kind → Bool → Bool → Bool
may_after k failed before = is_start k || (if is_end k then failed && before else before)

-- a session may be open: one was begun, and no EndSession after it succeeded for certain
abbrev pub may_be_open : List Sent → List Heard → List Sent → Bool
may_be_open up all [] = false
may_be_open up all (sent.Command t k ∷ above) =
    may_after k (may_have_failed up all (length above) (is_again t above)) (may_be_open up all above)
may_be_open up all (s ∷ above) = may_be_open up all above

-- whether a session is open for certain after a command
abbrev pub must_after : Kind → Bool → Bool → Bool
must_after k failed before = if is_start k then (not failed || before) else (not (is_end k) && before)

-- a session is open for certain: one was begun and did not fail, and no EndSession follows it, whether it failed or not
abbrev pub must_be_open : List Sent → List Heard → List Sent → Bool
must_be_open up all [] = false
must_be_open up all (sent.Command t k ∷ above) =
    must_after k (may_have_failed up all (length above) (is_again t above)) (must_be_open up all above)
must_be_open up all (s ∷ above) = must_be_open up all above

-- ---- the rules

-- how many lines the server had refused when the command at a place ended
abbrev pub refused_by : Option Moment → ℕ
refused_by None = 0
refused_by (Some m) = m.refusals

abbrev pub refused_before : List Sent → List Heard → Option ℕ → ℕ
refused_before up all None = 0
refused_before up all (Some at) = refused_by (came mark.Complete up all at)

-- how far the server had come when it received the use at a place; all the way, if it did not
abbrev pub reach : Option Moment → ℕ → ℕ
reach None far = far
reach (Some m) far = m.farthest

-- the server passed over the line at a place: it answered a line after it, before it received as many uses of the tag as this one is
abbrev pub was_passed : List Sent → List Heard → ℕ → Bool
was_passed up all at = nat_lt at (reach (noted mark.Received mark.Received up all at) (farthest up all))

-- the line at a place was whole before one of the server, if it is known how many lines of the client were; the last argument: what is said if not
abbrev pub was_before : Option ℕ → ℕ → Bool → Bool
was_before None at unknown = unknown
was_before (Some count) at unknown = nat_lt at count

-- the use before has no end, or its end came after the line at a place. If their order is not known: the server refused a line without its tag while
-- that use was open, and passed over this one. If it was another line, that is above this one, and breaks a rule. Of a tag whose uses have all ended
-- in the end it cannot be said whether they had when it was used again
abbrev pub is_kept : List ℕ → ℕ → Option Moment → ℕ → Bool → Bool
is_kept seen at None refused passed = true
is_kept seen at (Some m) refused passed = was_before (slice_get seen (m.number - 1)) at (nat_lt refused m.refusals && passed)

-- the use before, and the one before that; the first argument: how many lines of the client were whole when each line of the server was, if their order
-- is known
abbrev pub is_used : List ℕ → List Sent → List Heard → ℕ → Option ℕ → Option ℕ → Bool
is_used seen up all at None two = false
is_used seen up all at (Some one) two =
    is_kept seen at (came mark.Complete up all one) (refused_before up all two) (was_passed up all at)

abbrev pub is_in_use : List ℕ → List Sent → List Heard → List Sent → Tag → Bool
is_in_use seen up all above t = is_used seen up all (length above) (previous t above) (before_previous t above)

-- these commands are possible without a session
abbrev pub needs_session : Kind → Bool
needs_session kind.StartSession = false
needs_session kind.ClearAllErrors = false
needs_session kind.AbortE = false
needs_session _ = true

-- a command that reads; the second argument: a session may be open, the third: it is open for certain
abbrev pub session_rule : Kind → Bool → Bool → Option Rule
session_rule k may must =
    if needs_session k && not may then Some rule.NoSession else (if is_start k && must then Some rule.SessionOpen else None)

-- a command whose arguments do not read, or that is under a tag of the other sort
abbrev pub unread_rule : Bool → Bool → Option Rule
unread_rule true true = Some rule.BadArguments
unread_rule false false = Some rule.BadArguments
unread_rule true false = Some rule.WrongTag
unread_rule false true = Some rule.WrongTag

-- ---- the queue

-- a use was received as the 66th that was open, or a later one: one runs, and 64 wait
abbrev pub is_full : Option Moment → Bool
is_full None = false
is_full (Some m) = nat_le 66 m.busy

-- the server received it so
abbrev pub is_crowded : List Sent → List Heard → List Sent → Tag → Bool
is_crowded up all above t = not (is_event_tag t) && is_full (came mark.Received up all (length above))

abbrev pub queue_rule : Bool → Option Rule
queue_rule crowded = if crowded then Some rule.QueueFull else None

-- ---- the line

-- a line that begins with a tag; the last argument is its own rule
abbrev pub tagged_rule : Bool → Bool → Option Rule → Option Rule
tagged_rule true crowded own = Some rule.TagInUse
tagged_rule false crowded (Some r) = Some r
tagged_rule false crowded None = queue_rule crowded

abbrev pub rule_under : List ℕ → List Sent → List Heard → List Sent → Tag → Option Rule → Option Rule
rule_under seen up all above t own = tagged_rule (is_in_use seen up all above t) (is_crowded up all above t) own

-- the rule that a line with a tag breaks by itself; the second argument: a session may be open, the third: it is open for certain
abbrev pub own_rule : Sent → Bool → Bool → Option Rule
own_rule sent.Untagged may must = Some rule.NoTag
own_rule (sent.Command t k) may must = session_rule k may must
own_rule (sent.Standard t) may must = None
own_rule (sent.Unknown t) may must = Some rule.UnknownCommand
own_rule (sent.Unread t k) may must = unread_rule (is_event_tag t) (is_event_kind k)

abbrev pub rule_by : Option Tag → List ℕ → List Sent → List Heard → List Sent → Option Rule → Option Rule
rule_by None seen up all above own = Some rule.NoTag
rule_by (Some t) seen up all above own = rule_under seen up all above t own

-- the first of the rules, in this order, that a line of the client breaks under the lines above it
abbrev pub client_rule : List ℕ → List Sent → List Heard → List Sent → Sent → Option Rule
client_rule seen up all above s = rule_by (tag_of s) seen up all above (own_rule s (may_be_open up all above) (must_be_open up all above))

-- ---- what is kept of the lines above

pub record AreAbove (up : List Sent) (all : List Heard) (above : List Sent) (a : Above) : Type 0 where
  pub previous : (t : Tag) → found a.previous.items t ≡ previous t above
  pub before : (t : Tag) → found a.before.items t ≡ before_previous t above
  pub may : a.may ≡ may_be_open up all above
  pub must : a.must ≡ must_be_open up all above
