-- Lists of calls of a client, whatever its peer sends, and what is claimed of them (this profile).
use Rattle.std.specs.Prelude.{◌≡◌, ℕ, suc, ◌+◌, nat_le, Bool, true, false, not, ◌||◌, if◌then◌else◌, is_some, Option, Some, None, List, [], ◌∷◌}
use Rattle.std.specs.Prelude.{◌++◌, length, take, drop, Ok, Err}
use Rattle.contact_ledger.specs.declared.acts.Act.{Act}
use Rattle.contact_ledger.specs.declared.acts.Act.TheVariants as act
use Rattle.contact_ledger.specs.declared.features.Origin.{Origin}
use Rattle.contact_ledger.specs.declared.features.Feature.{Feature}
use Rattle.dme_line.specs.Kinds.{kind_of}
use Rattle.dme_line.specs.declared.commands.Kind.{Kind}
use Rattle.dme_line.specs.declared.tags.Tag.TheVariants.{Std}
use Rattle.dmis_program.specs.Meaning.{Meaning}
use Rattle.protocol_model.specs.Replies.{Mark}
use Rattle.protocol_model.specs.Open.{Effect, Heard, heard_in}
use Rattle.protocol_model.specs.Plan.{plan}
use Rattle.protocol_model.specs.Client.{Client, Tally, origin_of, is_homing, due, may_abort, may_resume}
use Rattle.protocol_model.specs.Ends.{ClientEnd, new_client_end, end_connected, end_sent, end_aborted, end_fed, end_read, end_resumed}
use Rattle.protocol_model.specs.Ends.{end_left, end_restarted, end_taken}
use Rattle.protocol_model.specs.Undisturbed.{acts_planned, AreActs, followed}
use Rattle.protocol_model.specs.declared.plans.Does.{Does}
use Rattle.protocol_model.specs.declared.plans.Planned.{Planned}
use Rattle.protocol_model.specs.declared.plans.Start.{Start}
use Rattle.protocol_model.specs.declared.plans.Start.TheVariants.{NewConnection, SameConnection}
use Rattle.client_core.specs.Clients.{may_connect, may_read}

-- a call, with what it is given: a connection's number, a piece of bytes, how many features are kept, how many bytes were sent
pub data Call : Type 0 where
  Connected : ℕ → Call
  Send : Call
  Feed : List ℕ → Call
  ReadOne : Call
  Abort : Call
  Resume : Call
  Leave : Call
  Restart : ℕ → Call
  Sent : ℕ → Call

-- whether a call is possible now
abbrev pub possible : Call → ClientEnd → Bool
possible (Connected n) e = may_connect n e.client
possible Send e = is_some (due e.client)
possible (Feed bytes) e = may_read e.client
possible ReadOne e = may_read e.client
possible Abort e = may_abort e.client.state
possible Resume e = may_resume e.client e.client.state
possible Leave e = true
possible (Restart k) e = nat_le k (length e.client.table.tally.features)
possible (Sent k) e = nat_le k (length e.out)

-- what a call does
abbrev pub done_by : Call → ClientEnd → ClientEnd
done_by (Connected n) e = end_connected n e
done_by Send e = end_sent e
done_by (Feed bytes) e = end_fed bytes e
done_by ReadOne e = end_read e
done_by Abort e = end_aborted e
done_by Resume e = end_resumed e
done_by Leave e = end_left e
done_by (Restart k) e = end_restarted k e
done_by (Sent k) e = end_taken k e

-- a call that is not possible changes nothing
abbrev pub behind_call : Call → ClientEnd → ClientEnd
behind_call call e = if possible call e then done_by call e else e

-- calls, one after another
abbrev pub behind_calls : List Call → ClientEnd → ClientEnd
behind_calls [] e = e
behind_calls (call ∷ calls) e = behind_calls calls (behind_call call e)

-- an act says that the machine is homed
abbrev pub tells : Act → Bool
tells (act.HomedIs homed) = homed
tells _ = false

-- and one of these does
abbrev pub told_homed : List Act → Bool
told_homed [] = false
told_homed (a ∷ acts) = tells a || told_homed acts

-- a plan that was begun after that many completed features, how many of its commands were counted, and whether it was answered that the
-- machine is homed
pub record PlanStart : Type 0 where
  pub features : ℕ
  pub completed : ℕ
  pub homed : Bool

-- the first plan of a connection begins a session, each later one continues in it
abbrev pub start_behind : List PlanStart → Start
start_behind [] = NewConnection
start_behind (b ∷ bs) = SameConnection

-- the acts for which the counted prefixes of plans stand, in the order of the plans; the latest plan is the first of the list
abbrev pub acts_of_fronts : Meaning → List PlanStart → List Does
acts_of_fronts p [] = []
acts_of_fronts p (b ∷ bs) = acts_of_fronts p bs ++ acts_planned (take b.completed (followed b.homed (plan p b.features (start_behind bs))))

-- the plan that a client is on, by how many features it held and how many acts it had counted on the connection when that was begun, and
-- the plans that were begun before it on the connection, the latest first
pub record Plans : Type 0 where
  pub features : ℕ
  pub before : ℕ
  pub earlier : List PlanStart

-- whether it was answered since then that the machine is homed
abbrev pub is_told : Plans → Tally → Bool
is_told plans tally = told_homed (drop plans.before tally.counted)

-- the present plan, with what is counted of it
abbrev pub begun_now : Plans → Tally → PlanStart
begun_now plans tally = record { features = plans.features; completed = tally.completed; homed = is_told plans tally }

-- the first plan of a connection, for a client that holds these features
abbrev pub first_plan : List Feature → Plans
first_plan features = record { features = length features; before = 0; earlier = [] }

-- the plans after a call: a connection begins the first, a resume one more after the features that are held then, a restart forgets all
abbrev pub plans_by : Call → ClientEnd → Plans → Plans
plans_by (Connected n) e plans = first_plan e.client.table.tally.features
plans_by Resume e plans = record {
  features = length e.client.table.tally.features;
  before = length e.client.table.tally.counted;
  earlier = begun_now plans e.client.table.tally ∷ plans.earlier;
}
plans_by (Restart k) e plans = first_plan (take k e.client.table.tally.features)
plans_by Send e plans = plans
plans_by (Feed bytes) e plans = plans
plans_by ReadOne e plans = plans
plans_by Abort e plans = plans
plans_by Leave e plans = plans
plans_by (Sent k) e plans = plans

-- the plans after calls, one after another
abbrev pub plans_behind : List Call → ClientEnd → Plans → Plans
plans_behind [] e plans = plans
plans_behind (call ∷ calls) e plans =
    plans_behind calls (behind_call call e) (if possible call e then plans_by call e plans else plans)

-- a client after calls, from one that was never on a connection
abbrev pub client_behind : List Call → Meaning → List Feature → ℕ → Client
client_behind calls p kept window = (behind_calls calls (new_client_end p kept window)).client

-- and its plans
abbrev pub plans_begun : List Call → Meaning → List Feature → ℕ → Plans
plans_begun calls p kept window = plans_behind calls (new_client_end p kept window) (first_plan kept)

-- the counted prefix of the present plan, as it is followed
abbrev pub front_of : Meaning → Plans → Tally → List Planned
front_of p plans tally = take tally.completed (followed (is_told plans tally) (plan p plans.features (start_behind plans.earlier)))

-- the machine is homed by one of these commands
abbrev pub has_homing : List Planned → Bool
has_homing [] = false
has_homing (p ∷ ps) = is_homing p.command || has_homing ps

-- the last touch of a feature
abbrev pub is_last : Does → Bool
is_last (Does.Touches t last) = last
is_last _ = false

-- how many features end in planned commands, each with its last touch
abbrev pub features_ended : List Planned → ℕ
features_ended [] = 0
features_ended (p ∷ ps) = if is_last p.does then suc (features_ended ps) else features_ended ps

-- where features come from
abbrev pub origins_of : List Feature → List (Option Origin)
origins_of [] = []
origins_of (f ∷ fs) = f.origin ∷ origins_of fs

-- where the feature comes from that ends with a planned command on the connection of this number, if one does
abbrev pub origin_ended : ℕ → Does → List (Option Origin)
origin_ended n (Does.Touches t true) = origin_of n t.frame ∷ []
origin_ended n (Does.Touches t false) = []
origin_ended n _ = []

-- and where those come from that end in planned commands
abbrev pub origins_ended : ℕ → List Planned → List (Option Origin)
origins_ended n [] = []
origins_ended n (p ∷ ps) = origin_ended n p.does ++ origins_ended n ps

-- a client's tally is that of its plans: its acts are those for which the counted prefix of the present plan stands, after those of the
-- plans before it; and its features are those that it held when that was begun and one for each that ends in the prefix, with the number of
-- the connection and the frame of its last touch
pub record AreCounted (p : Meaning) (plans : Plans) (tally : Tally) : Type 0 where
  pub acts : AreActs tally.counted (acts_of_fronts p (begun_now plans tally ∷ plans.earlier))
  pub joined : length tally.features ≡ plans.features + features_ended (front_of p plans tally)
  pub origins : drop plans.features (origins_of tally.features) ≡ origins_ended tally.connection (front_of p plans tally)

-- the kind of the command that is to be counted next
abbrev pub next_kind : List Planned → Option Kind
next_kind [] = None
next_kind (p ∷ ps) = Some (kind_of p.command)

-- the kind of the command that was counted, if one was
abbrev pub kind_counted : Heard → Option Kind
kind_counted (Ok (hs, Effect.Quiet)) = None
kind_counted (Ok (hs, Effect.Failure)) = None
kind_counted (Ok (hs, Effect.Count kind given)) = Some kind
kind_counted (Err cause) = None

-- the kind of the command that a mark on a standard tag counts, if it counts one
abbrev pub counted_by : Client → ℕ → Mark → Option Kind
counted_by c n m = kind_counted (heard_in (not c.table.tally.failed) c.table.standard (Std n) m)
