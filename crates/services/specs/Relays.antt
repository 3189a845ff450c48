-- What the session of `watch` asks, and what it promises of both ends, of the told file and of its status (this profile).
use Rattle.std.specs.Prelude.{◌≡◌, ◌⊎◌, ⊤, ℕ, suc, ◌-◌, ◌^◌, ◌<◌, Bool, true, false, ◌||◌, if◌then◌else◌, List, [], ◌++◌, take, None, nat_lt, Result, OnOk, OnErr}
use Rattle.effects.specs.declared.vocabulary.Cause.TheVariants.{Interrupted}
use Rattle.effects.specs.declared.vocabulary.Growth.TheVariants.{Told}
use Rattle.effects.specs.declared.vocabulary.Peer.{Peer}
use Rattle.effects.specs.declared.vocabulary.Peer.TheVariants.{Client, Server}
use Rattle.effects.specs.Effects.{Ask, Make, Discard, Begin, Append, Keep, Names, Create, Save, Settle, Remove, Extend, Stamp, Now, Sleep, Listen, Accept, Connect, Join, Wait, Receive, Pass, Close, Leave, Say, Exit}
use Rattle.effects.specs.Effects.{Reply, Done, Bytes, End, Found, Nothing, Took, Failed, Short}
use Rattle.services.specs.Kinds.{IsAdd, IsSay, IsSetAside}
use Rattle.services.specs.declared.recordings.Made.{Made}
use Rattle.services.specs.declared.relay_stages.RelayStage.{RelayStage}
use Rattle.services.specs.declared.relay_stages.RelayStage.TheVariants as stage
use Rattle.witness.specs.Relaying.{Relaying, Course, Relays as IsCourse}
use Rattle.watched_ends.specs.Limits.{Limited, fresh, client_came, server_came, up_of, up_sent, down_of, down_sent, due_of, without_due, IsTold, IsRead}

-- the relay of the present connection, the number of that, whether the told file is kept, and whether the client has ended what it sends
pub record RelayTalk : Type 0 where
  pub relay : Limited
  pub number : ℕ
  pub is_told : Bool
  pub has_ended : Bool

-- the status, which is 0 as long as all that was asked for was done, and how many connections are still to come
pub record RelayEnd : Type 0 where
  pub status : ℕ
  pub left : ℕ

pub record RelayState : Type 0 where
  pub stage : RelayStage
  pub next : RelayStage  -- what comes after what is said, or once files are removed
  pub talk : RelayTalk
  pub end : RelayEnd
  pub files : Made  -- which files of its recording were made, and not removed; or were forced, once it ends

-- the stages before the one whose effect is due
abbrev pub is_aside : RelayStage → Bool
is_aside stage.Saying = true
is_aside stage.Removing = true
is_aside s = false

abbrev pub due_at : (stage next : RelayStage) → RelayStage
due_at s next = if is_aside s then next else s

abbrev pub due : RelayState → RelayStage
due s = due_at s.stage s.next

-- where a stage is: before the port is listened on; before the told file grows, or a recording is made; between two connections; on one; at its
-- end; at the end of all
pub data Phase : Type 0 where
  Before : Phase
  Opening : Phase
  Between : Phase
  Joined : Phase
  Ending : Phase
  Closing : Phase

abbrev pub phase_of : RelayStage → Phase
phase_of stage.Making = Before
phase_of stage.Listening = Opening
phase_of stage.Listing = Opening
phase_of stage.Creating = Opening
phase_of stage.Heading = Opening
phase_of stage.SettingAside = Opening
phase_of stage.Beginning = Opening
phase_of stage.Logged = Between
phase_of stage.Accepting = Between
phase_of stage.Pausing = Between
phase_of stage.Forcing = Ending
phase_of stage.Settling = Ending
phase_of stage.Leaving = Ending
phase_of stage.Discarding = Closing
phase_of stage.Saying = Closing
phase_of stage.Removing = Closing
phase_of stage.Parting = Closing
phase_of stage.Exiting = Closing
phase_of s = Joined

abbrev pub phase : RelayState → Phase
phase s = phase_of (due s)

-- ---- what is asked

abbrev pub IsMake : Ask → Type 0
IsMake (Make growth name beside text) = growth ≡ Told
IsMake ask = ⊥

abbrev pub IsListen : Ask → Type 0
IsListen (Listen address port is_polled) = is_polled ≡ false
IsListen ask = ⊥

abbrev pub IsNames : Ask → Type 0
IsNames (Names folder) = ⊤
IsNames ask = ⊥

-- a file of a recording is made, written, forced or removed; nothing is said if there is none
abbrev pub IsCreate : Ask → Type 0
IsCreate (Create slot name) = ⊤
IsCreate (Say text) = text ≡ []
IsCreate ask = ⊥

abbrev pub IsSave : Ask → Type 0
IsSave (Save slot bytes) = ⊤
IsSave (Say text) = text ≡ []
IsSave ask = ⊥

abbrev pub IsSettle : Ask → Type 0
IsSettle (Settle slot) = ⊤
IsSettle (Say text) = text ≡ []
IsSettle ask = ⊥

abbrev pub IsRemove : Ask → Type 0
IsRemove (Remove name) = ⊤
IsRemove (Say text) = text ≡ []
IsRemove ask = ⊥

abbrev pub IsExtend : Ask → Type 0
IsExtend (Extend name) = ⊤
IsExtend ask = ⊥

abbrev pub IsConnect : Ask → Type 0
IsConnect (Connect host port ms) = ⊤
IsConnect ask = ⊥

abbrev pub IsWait : Ask → Type 0
IsWait (Wait ms) = ⊤
IsWait ask = ⊥

-- all that waits for the client is sent on, once all that the server told was written
abbrev pub IsDown : Limited → Ask → Type 0
IsDown r (Pass Client bytes) = IsTold r → bytes ≡ down_of r
IsDown r ask = ⊥

-- what each stage asks for, and nothing else
abbrev pub AsksAt : RelayStage → RelayState → Ask → Type 0
AsksAt stage.Making s ask = IsMake ask
AsksAt stage.Listening s ask = IsListen ask
AsksAt stage.Listing s ask = IsNames ask
AsksAt stage.Creating s ask = IsCreate ask
AsksAt stage.Heading s ask = IsSave ask
AsksAt stage.Removing s ask = IsRemove ask
AsksAt stage.Discarding s ask = ask ≡ Discard Told
AsksAt stage.SettingAside s ask = IsSetAside Told ask
AsksAt stage.Beginning s ask = ask ≡ Begin Told
AsksAt stage.Logged s ask = IsExtend ask
AsksAt stage.Accepting s ask = ask ≡ Accept None None
AsksAt stage.Pausing s ask = ask ≡ Sleep 100
AsksAt stage.Connecting s ask = IsConnect ask
AsksAt stage.Joining s ask = ask ≡ Join
AsksAt stage.HearingClient s ask = ask ≡ Receive Client
AsksAt stage.HearingServer s ask = ask ≡ Receive Server
AsksAt stage.Tracing s ask = IsSay ask
AsksAt stage.Stamping s ask = ask ≡ Stamp
AsksAt stage.Logging s ask = IsAdd ask
AsksAt stage.Saving s ask = IsSave ask
AsksAt stage.Noting s ask = IsSave ask
AsksAt stage.Telling s ask = ask ≡ Append Told (due_of s.talk.relay)
AsksAt stage.PassingUp s ask = ask ≡ Pass Server (up_of s.talk.relay)
AsksAt stage.ClosingUp s ask = ask ≡ Close Server
AsksAt stage.PassingDown s ask = IsDown s.talk.relay ask
AsksAt stage.ClosingDown s ask = ask ≡ Close Client
AsksAt stage.Timing s ask = ask ≡ Now
AsksAt stage.Waiting s ask = IsWait ask
AsksAt stage.Forcing s ask = ask ≡ Keep Told []
AsksAt stage.Settling s ask = IsSettle ask
AsksAt stage.Leaving s ask = ask ≡ Leave
AsksAt stage.Saying s ask = IsSay ask
AsksAt stage.Parting s ask = IsSay ask
AsksAt stage.Exiting s ask = ask ≡ Exit s.end.status

-- what is sent on is what waits, to the client only once all that the server told was written; what is written is what is due
abbrev pub Sends : Limited → Ask → Type 0
Sends r (Pass Server bytes) = bytes ≡ up_of r
Sends r (Pass Client bytes) = (bytes ≡ []) ⊎ (IsTold r × (bytes ≡ down_of r))
Sends r (Append growth text) = text ≡ due_of r
Sends r ask = ⊤

abbrev pub Asks : RelayState → Ask → Type 0
Asks s ask = AsksAt s.stage s ask × Sends s.talk.relay ask

-- the stages of three parts of `asks`
abbrev pub is_before : RelayStage → Bool
is_before stage.Making = true
is_before stage.Listening = true
is_before stage.Listing = true
is_before stage.Discarding = true
is_before stage.SettingAside = true
is_before stage.Beginning = true
is_before stage.Logged = true
is_before s = false

abbrev pub is_recording : RelayStage → Bool
is_recording stage.Creating = true
is_recording stage.Heading = true
is_recording stage.Removing = true
is_recording stage.Saving = true
is_recording stage.Noting = true
is_recording stage.Settling = true
is_recording s = false

abbrev pub is_of_ends : RelayStage → Bool
is_of_ends stage.Accepting = true
is_of_ends stage.Connecting = true
is_of_ends stage.Joining = true
is_of_ends stage.HearingClient = true
is_of_ends stage.HearingServer = true
is_of_ends stage.PassingUp = true
is_of_ends stage.ClosingUp = true
is_of_ends stage.PassingDown = true
is_of_ends stage.ClosingDown = true
is_of_ends stage.Waiting = true
is_of_ends stage.Leaving = true
is_of_ends s = false

-- ---- the end

-- something that was asked for was not done
abbrev pub has_failed : RelayEnd → Bool
has_failed e = nat_lt 0 e.status

abbrev pub failed : RelayEnd → RelayEnd
failed e = record e { status = 1 }

-- the answers after which something that was asked for was not done: the files that are kept, the port, and both ends of each connection. A
-- connection that cannot be taken is waited for, and the log is left alone
abbrev pub must_fail : RelayStage → Reply → Bool
must_fail stage.Making Done = false
must_fail stage.Making Found = false
must_fail stage.Making reply = true
must_fail stage.Listening Done = false
must_fail stage.Listening reply = true
must_fail stage.Listing Short = true
must_fail stage.Creating Done = false
must_fail stage.Creating reply = true
must_fail stage.Heading Done = false
must_fail stage.Heading reply = true
must_fail stage.SettingAside Done = false
must_fail stage.SettingAside reply = true
must_fail stage.Beginning Done = false
must_fail stage.Beginning reply = true
must_fail stage.Accepting Short = true
must_fail stage.Connecting Done = false
must_fail stage.Connecting reply = true
must_fail stage.Joining Done = false
must_fail stage.Joining reply = true
must_fail stage.HearingClient (Bytes piece) = false
must_fail stage.HearingClient End = false
must_fail stage.HearingClient Nothing = false
must_fail stage.HearingClient (Failed Interrupted) = false
must_fail stage.HearingClient reply = true
must_fail stage.HearingServer (Bytes piece) = false
must_fail stage.HearingServer End = false
must_fail stage.HearingServer Nothing = false
must_fail stage.HearingServer (Failed Interrupted) = false
must_fail stage.HearingServer reply = true
must_fail stage.Saving Done = false
must_fail stage.Saving reply = true
must_fail stage.Noting Done = false
must_fail stage.Noting reply = true
must_fail stage.Telling Done = false
must_fail stage.Telling reply = true
must_fail stage.PassingUp (Took count) = false
must_fail stage.PassingUp Nothing = false
must_fail stage.PassingUp (Failed Interrupted) = false
must_fail stage.PassingUp reply = true
must_fail stage.PassingDown (Took count) = false
must_fail stage.PassingDown Nothing = false
must_fail stage.PassingDown (Failed Interrupted) = false
must_fail stage.PassingDown reply = true
must_fail stage.Waiting (Failed Interrupted) = false
must_fail stage.Waiting (Failed why) = true
must_fail stage.Forcing Done = false
must_fail stage.Forcing reply = true
must_fail stage.Settling Done = false
must_fail stage.Settling reply = true
must_fail s reply = false

-- that is kept to the end
abbrev pub Fails : RelayState → Reply → RelayState → Type 0
Fails s reply t = (has_failed s.end ≡ true) ⊎ (must_fail s.stage reply ≡ true) → has_failed t.end ≡ true

-- a connection counts at most once, when it was left
abbrev pub Counts : RelayStage → RelayEnd → RelayEnd → Type 0
Counts st e f = (f.left ≡ e.left) ⊎ ((st ≡ stage.Leaving) × (f.left ≡ e.left - 1))

-- the status is 0 only if no connection is to come
abbrev pub IsVerdict : RelayEnd → Type 0
IsVerdict e = e.status ≡ 0 → e.left ≡ 0

-- ---- before a connection

-- what the outside has answered so far: the told file is locked, with its first text; and it has that text, and grows
pub record RelayOutside : Type 0 where
  pub is_made : Bool
  pub is_begun : Bool

abbrev pub not_opened : RelayOutside
not_opened = record { is_made = false; is_begun = false }

abbrev pub makes : RelayStage → Reply → Bool
makes stage.Making Done = true
makes stage.Making Found = true
makes s reply = false

abbrev pub begins_told : RelayStage → Reply → Bool
begins_told stage.Beginning Done = true
begins_told s reply = false

abbrev pub outcome : RelayStage → Reply → RelayOutside → RelayOutside
outcome s reply o = record { is_made = o.is_made || makes s reply; is_begun = o.is_begun || begins_told s reply }

abbrev pub IsBegun : RelayOutside → Type 0
IsBegun o = (o.is_made ≡ true) × (o.is_begun ≡ true)

-- what holds before an effect is asked for: the port is listened on only once the told file was made, and no client is taken, no server called and
-- nothing received or sent on before that file has begun
abbrev pub ReadyAt : Phase → (number : ℕ) → RelayOutside → Type 0
ReadyAt Before n o = 0 < n → IsBegun o
ReadyAt Opening n o = (o.is_made ≡ true) × (0 < n → o.is_begun ≡ true)
ReadyAt Between n o = IsBegun o
ReadyAt Joined n o = IsBegun o
ReadyAt Ending n o = IsBegun o
ReadyAt Closing n o = ⊤

abbrev pub Ready : RelayState → RelayOutside → Type 0
Ready s o = ReadyAt (phase s) s.talk.number o

-- a session that is ready is ready after an answer, too
abbrev pub GoesOn : RelayState → Reply → RelayState → Type 0
GoesOn s reply t = (o : RelayOutside) → Ready s o → Ready t (outcome s.stage reply o)

-- ---- what is sent on, and what is reported

abbrev pub came : Peer → Limited → List ℕ → Limited
came Client r bytes = client_came r bytes
came Server r bytes = server_came r bytes

-- what was received on the present connection, what each end was sent, and what was added to the told file
pub record RelayTraffic : Type 0 where
  pub from_client : List ℕ
  pub to_server : List ℕ
  pub from_server : List ℕ
  pub to_client : List ℕ
  pub told : List ℕ

abbrev pub nothing_passed : RelayTraffic
nothing_passed = record { from_client = []; to_server = []; from_server = []; to_client = []; told = [] }

abbrev pub heard : Peer → List ℕ → RelayTraffic → RelayTraffic
heard Client bytes f = record f { from_client = f.from_client ++ bytes }
heard Server bytes f = record f { from_server = f.from_server ++ bytes }

abbrev pub told_more : List ℕ → RelayTraffic → RelayTraffic
told_more text f = record f { told = f.told ++ text }

abbrev pub up_passed : List ℕ → RelayTraffic → RelayTraffic
up_passed bytes f = record f { to_server = f.to_server ++ bytes }

abbrev pub down_passed : List ℕ → RelayTraffic → RelayTraffic
down_passed bytes f = record f { to_client = f.to_client ++ bytes }

-- what an answer means for the relay
pub data Event : Type 0 where
  Quiet : Event
  Taken : Event
  Came : Peer → List ℕ → Event
  Written : Event
  WentUp : ℕ → Event
  WentDown : ℕ → Event

abbrev pub event_of : RelayStage → Reply → Event
event_of stage.Accepting Done = Taken
event_of stage.HearingClient (Bytes piece) = Came Client piece
event_of stage.HearingServer (Bytes piece) = Came Server piece
event_of stage.Telling Done = Written
event_of stage.PassingUp (Took n) = WentUp n
event_of stage.PassingDown (Took n) = WentDown n
event_of s reply = Quiet

-- the traffic after it
abbrev pub passed : Event → Limited → RelayTraffic → RelayTraffic
passed Quiet r f = f
passed Taken r f = nothing_passed
passed (Came peer piece) r f = heard peer piece f
passed Written r f = told_more (due_of r) f
passed (WentUp n) r f = up_passed (take n (up_of r)) f
passed (WentDown n) r f = down_passed (take n (down_of r)) f

-- the number of a connection is that of the one before, and one more; the first has the number 1
abbrev pub Numbered : Event → RelayTalk → RelayTalk → Type 0
Numbered Taken t u = t.number < 2 ^ 64 - 1 → u.number ≡ suc t.number
Numbered Quiet t u = u.number ≡ t.number
Numbered (Came peer piece) t u = u.number ≡ t.number
Numbered Written t u = u.number ≡ t.number
Numbered (WentUp n) t u = u.number ≡ t.number
Numbered (WentDown n) t u = u.number ≡ t.number

abbrev pub Numbers : RelayStage → Reply → RelayTalk → RelayTalk → Type 0
Numbers s reply t u = Numbered (event_of s reply) t u

-- a relay of the connection of this number, with this traffic since it was taken: it was given just what was received, and reads it at once; what
-- that reports is due, and no longer so once the told file has it, or if that cannot be kept; and bytes go to the client only if nothing is due
-- and all was read
pub data Relayed (number : ℕ) : (is_told : Bool) → RelayTraffic → Limited → Type 0 where
  begins : (is_told : Bool) → Relayed number is_told nothing_passed (fresh number)
  hears : (is_told : Bool) (peer : Peer) (bytes : List ℕ) (f : RelayTraffic) (r read : Limited) → Relayed number is_told f r
      → IsRead (came peer r bytes) read → Relayed number is_told (heard peer bytes f) read
  tells : (is_told : Bool) (f : RelayTraffic) (r : Limited) → Relayed number is_told f r
      → Relayed number is_told (told_more (due_of r) f) (without_due r)
  loses : (is_told : Bool) (f : RelayTraffic) (r : Limited) → Relayed number is_told f r → Relayed number false f (without_due r)
  ups : (is_told : Bool) (n : ℕ) (f : RelayTraffic) (r : Limited) → Relayed number is_told f r
      → Relayed number is_told (up_passed (take n (up_of r)) f) (up_sent n r)
  downs : (is_told : Bool) (n : ℕ) (f : RelayTraffic) (r : Limited) → Relayed number is_told f r → IsTold r
      → Relayed number is_told (down_passed (take n (down_of r)) f) (down_sent n r)

-- a relay within its limit has a course (`witness`) with just this traffic, of which all rules on told files speak
pub record HasCourse (number : ℕ) (f : RelayTraffic) (r : Relaying) : Type 0 where
  pub course : Course
  pub is : IsCourse number course r
  pub from_client : course.came_up ≡ f.from_client
  pub to_server : course.sent_up ≡ f.to_server
  pub from_server : course.came_down ≡ f.from_server
  pub to_client : course.sent_down ≡ f.to_client
  pub told : course.written ≡ f.told

-- nothing is known of the relay between two connections, at the end of one that has failed, and at the end of all
abbrev pub is_off : Phase → RelayEnd → Bool
is_off Between e = true
is_off Closing e = true
is_off Ending e = has_failed e
is_off p e = false

abbrev pub is_over : RelayState → Bool
is_over s = is_off (phase s) s.end

-- nothing is left: all that came from the client was sent on, and what was reported was written; and so was sent on what came from the server,
-- unless the client has ended what it sends
pub record IsPassed (t : RelayTalk) : Type 0 where
  pub up : up_of t.relay ≡ []
  pub written : due_of t.relay ≡ []
  pub down : (IsTold t.relay × (down_of t.relay ≡ [])) ⊎ (t.has_ended ≡ true)

-- what was reported is written before anything is sent on; bytes go to the client only if, with that, all whole lines were read; nothing is left
-- at the end of a connection, unless something has failed; and a relay that ends has its status
abbrev pub IsAt : RelayStage → RelayTalk → RelayEnd → Type 0
IsAt stage.PassingUp t e = due_of t.relay ≡ []
IsAt stage.PassingDown t e = IsTold t.relay
IsAt stage.Forcing t e = e.status ≡ 0 → IsPassed t
IsAt stage.Settling t e = e.status ≡ 0 → IsPassed t
IsAt stage.Leaving t e = e.status ≡ 0 → IsPassed t
IsAt stage.Discarding t e = IsVerdict e
IsAt stage.Parting t e = IsVerdict e
IsAt stage.Exiting t e = IsVerdict e
IsAt s t e = ⊤

abbrev pub Stands : RelayState → Type 0
Stands s = IsAt (due s) s.talk s.end

-- its relay is one with this traffic
abbrev pub IsRelaying : RelayState → RelayTraffic → Type 0
IsRelaying s f = is_over s ≡ false → Relayed s.talk.number s.talk.is_told f s.talk.relay

-- what each end was sent is all that came from the other; that of the client, unless it has ended what it sends; and what was reported was written
pub record HasPassed (s : RelayState) (f : RelayTraffic) : Type 0 where
  pub up : f.to_server ≡ f.from_client
  pub written : due_of s.talk.relay ≡ []
  pub down : (IsTold s.talk.relay × (f.to_client ≡ f.from_server)) ⊎ (s.talk.has_ended ≡ true)

-- the client has ended what it sends only if that was answered on the present connection
abbrev pub EndsAt : RelayStage → Reply → RelayTalk → RelayTalk → Type 0
EndsAt st reply t u = u.has_ended ≡ true
    → ((t.has_ended ≡ true) × (event_of st reply ≡ Taken → ⊥)) ⊎ ((st ≡ stage.HearingClient) × (reply ≡ End))

abbrev pub Relays : RelayState → Reply → RelayState → Type 0
Relays s reply t = Stands s → (f : RelayTraffic) → IsRelaying s f → IsRelaying t (passed (event_of s.stage reply) s.talk.relay f)

-- the told file is written as long as it can be kept; if not, that counts
abbrev pub may_lose : RelayStage → Reply → Bool
may_lose stage.Telling Done = false
may_lose stage.Telling reply = true
may_lose stage.Forcing Done = false
may_lose stage.Forcing reply = true
may_lose s reply = false

abbrev pub Keeps : RelayState → Reply → RelayState → Type 0
Keeps s reply t = s.talk.is_told ≡ true
    → (t.talk.is_told ≡ true) ⊎ ((may_lose s.stage reply ≡ true) × (has_failed t.end ≡ true))

-- what was read reports nothing any more
pub record IsCleared (r t : Limited) : Type 0 where
  pub read : Limited
  pub is : IsRead r read
  pub cleared : t ≡ without_due read

-- bytes of an end were given to the relay, and what they report is due, as long as the told file is kept
abbrev pub IsGiven : RelayTalk → Peer → List ℕ → RelayTalk → Type 0
IsGiven s peer bytes t = (s.is_told ≡ true → IsRead (came peer s.relay bytes) t.relay)
    × (s.is_told ≡ false → IsCleared (came peer s.relay bytes) t.relay)

-- ---- a session

-- before anything was answered, with this number of connections to come
pub record Begins (count : ℕ) (s : RelayState) : Type 0 where
  pub ready : Ready s not_opened
  pub stands : Stands s
  pub relays : IsRelaying s nothing_passed
  pub number : s.talk.number ≡ 0
  pub told : s.talk.is_told ≡ true
  pub whole : s.end.status ≡ 0
  pub left : s.end.left ≡ count

-- a session, an answer, and the session after it
pub record Steps (s : RelayState) (reply : Reply) (t : RelayState) : Type 0 where
  pub goes : GoesOn s reply t
  pub stands : Stands s → Stands t
  pub relays : Relays s reply t
  pub numbers : Numbers s.stage reply s.talk t.talk
  pub ended : EndsAt s.stage reply s.talk t.talk
  pub keeps : Keeps s reply t
  pub fails : Fails s reply t
  pub counts : Counts s.stage s.end t.end

-- likewise when memory has run out on the way
pub record Stops (s : RelayState) (reply : Reply) (t : RelayState) : Type 0 where
  pub stage : t.stage ≡ s.stage
  pub numbers : Numbers s.stage reply s.talk t.talk
  pub ended : EndsAt s.stage reply s.talk t.talk
  pub keeps : s.talk.is_told ≡ true → (t.talk.is_told ≡ true) ⊎ (may_lose s.stage reply ≡ true)
  pub left : t.end.left ≡ s.end.left

abbrev pub Takes : {A E : Type 0} → Result A E → RelayState → Reply → RelayState → Type 0
Takes r s reply t = OnOk r (Steps s reply t) × OnErr r (Stops s reply t)

-- a stage of a connection, which is due itself
abbrev pub IsOnly : RelayStage → Type 0
IsOnly s = (is_aside s ≡ false) × (phase_of s ≡ Joined)

-- and that was seen to
pub record IsShort (s t : RelayState) : Type 0 where
  pub talk : t.talk ≡ s.talk
  pub failed : has_failed t.end ≡ true
  pub left : t.end.left ≡ s.end.left
  pub off : is_over t ≡ true
  pub stands : Stands t
  pub at : IsOnly s.stage ⊎ (phase t ≡ Closing)

-- another stage is next, which is not told or removed for, and nothing else has changed
pub record Turns (s t : RelayState) : Type 0 where
  pub talk : t.talk ≡ s.talk
  pub end : t.end ≡ s.end
  pub plain : is_aside t.stage ≡ false
  pub stands : IsAt t.stage t.talk t.end

-- likewise; before the told file grows, a server is called only if connections were taken before
pub record Opens (s t : RelayState) : Type 0 where
  pub turns : Turns s t
  pub next : (0 < s.talk.number) ⊎ (phase t ≡ Opening)

-- an end sends nothing more
abbrev pub with_end : Peer → RelayState → RelayState
with_end Client s = record s { talk = record (s.talk) { has_ended = true } }
with_end Server s = s

-- a message is to be said, and then this is next
abbrev pub saying : RelayStage → RelayState → RelayState
saying next s = record s { stage = stage.Saying; next = next }

-- something has failed
abbrev pub failing : RelayState → RelayState
failing s = record s { end = failed s.end }

-- a message is to be said, and then the relay ends before its first connection
abbrev pub refusing : RelayState → RelayState
refusing s = record s { stage = stage.Discarding; end = failed s.end }

-- the told file is not written any more
abbrev pub untold : RelayState → RelayState
untold s = record s { talk = record (s.talk) { is_told = false }; end = failed s.end }

-- the stages of the parts of a step
abbrev pub is_preparing : RelayStage → Bool
is_preparing stage.Making = true
is_preparing stage.Listening = true
is_preparing stage.Listing = true
is_preparing s = false

abbrev pub is_beginning : RelayStage → Bool
is_beginning stage.SettingAside = true
is_beginning stage.Beginning = true
is_beginning stage.Logged = true
is_beginning s = false

abbrev pub is_creating : RelayStage → Bool
is_creating stage.Creating = true
is_creating stage.Heading = true
is_creating s = false

abbrev pub is_accepting : RelayStage → Bool
is_accepting stage.Accepting = true
is_accepting stage.Pausing = true
is_accepting s = false

abbrev pub is_joining : RelayStage → Bool
is_joining stage.Connecting = true
is_joining stage.Joining = true
is_joining s = false

abbrev pub is_showing : RelayStage → Bool
is_showing stage.Tracing = true
is_showing stage.Stamping = true
is_showing stage.Logging = true
is_showing s = false

abbrev pub is_saving : RelayStage → Bool
is_saving stage.Saving = true
is_saving stage.Noting = true
is_saving s = false

abbrev pub is_passing : RelayStage → Bool
is_passing stage.PassingUp = true
is_passing stage.PassingDown = true
is_passing s = false

abbrev pub is_waiting : RelayStage → Bool
is_waiting stage.ClosingUp = true
is_waiting stage.ClosingDown = true
is_waiting stage.Timing = true
is_waiting stage.Waiting = true
is_waiting s = false

abbrev pub is_ending : RelayStage → Bool
is_ending stage.Forcing = true
is_ending stage.Settling = true
is_ending stage.Leaving = true
is_ending s = false

abbrev pub is_closing : RelayStage → Bool
is_closing stage.Discarding = true
is_closing stage.Removing = true
is_closing stage.Saying = true
is_closing stage.Parting = true
is_closing stage.Exiting = true
is_closing s = false

-- the stage at which an end is heard
abbrev pub hearing : Peer → RelayStage
hearing Client = stage.HearingClient
hearing Server = stage.HearingServer
