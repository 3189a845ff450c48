-- What the session of `serve` knows and may ask next, as far as its promises speak of it (this profile).
use Rattle.std.specs.Prelude.{◌≡◌, ◌⊎◌, ⊤, ℕ, Bool, true, false, List, [], ◌∷◌, ◌++◌, Option, Some, None, if◌then◌else◌, zero, suc, length, drop, map}
use Rattle.contact_ledger.specs.Lines.{text_of}
use Rattle.contact_ledger.specs.ContactTexts.{act_line, contacts_text}
use Rattle.contact_ledger.specs.declared.acts.Act.{Act}
use Rattle.protocol_model.specs.Ends.{serving_left}
use Rattle.link_world.specs.Reports.{reported, contact_rows}
use Rattle.effects.specs.declared.vocabulary.Growth.{Growth}
use Rattle.effects.specs.declared.vocabulary.Growth.TheVariants.{Contacts}
use Rattle.effects.specs.declared.vocabulary.Peer.TheVariants.{Client}
use Rattle.effects.specs.Effects.{Ask, Exists, Look, Make, Discard, Begin, Keep, Replace, Extend, Stamp, Now, Sleep, Listen, Accept, Receive, Send, Leave, Print, Say, Exit, Reply, Done, Found, Did}
use Rattle.services.specs.Kinds.{IsAdd, IsSay, IsSetAside}
use Rattle.services.specs.declared.stages.Stage.{Stage}
use Rattle.services.specs.declared.stages.Stage.TheVariants as stage
use Rattle.services.specs.Serving.{Talk, Traffic, passed, heard_more, is_over, may_end, may_leave, HasBroken, IsServing, IsAt, IsFree}
use Rattle.tool_rack.specs.Setups.{SetupValue}

-- the contacts file, and what the server has done
pub record Core : Type 0 where
  pub named : Bool  -- whether there is one
  pub name : List ℕ  -- its name
  pub grows : Bool  -- whether it was locked and has a next text
  pub lost : Bool  -- whether it could not be kept
  pub text : List ℕ  -- what is to be added to it
  pub held : ℕ  -- how many acts it has with that
  pub ledger : List (ℕ × Act)
  pub rows : List ℕ  -- what is printed at the end
  pub broken : Bool  -- whether a connection was broken off, or memory has run out
  pub status : ℕ  -- with which it exits

pub record State : Type 0 where
  pub stage : Stage
  pub next : Stage  -- what comes after what is said, shown or logged
  pub core : Core
  pub talk : Talk

-- the stage whose effect is due, after what is to be said or shown
abbrev pub due_at : Stage → Stage → Stage
due_at stage.Saying next = next
due_at stage.Tracing next = next
due_at stage.Stamping next = next
due_at stage.Logging next = next
due_at s next = s

abbrev pub due : State → Stage
due s = due_at s.stage s.next

-- the session is where its stage is said to be
abbrev pub Stands : State → Type 0
Stands s = IsAt (due s) s.talk

-- likewise if its server is on no connection
abbrev pub Rests : Talk → State → Type 0
Rests t s = IsFree t → Stands s

-- its server stays one that was given just what was received, which is that at once, if it then is over or not
abbrev pub Brings : (over : Bool) → State → Reply → State → Type 0
Brings over s reply t = Stands s → (setup : SetupValue) (f : Traffic) → IsServing setup (is_over (due s)) s.talk f
    → IsServing setup over t.talk (passed s.stage s.talk.out reply f)

abbrev pub Serves : State → Reply → State → Type 0
Serves s reply t = Brings (is_over (due t)) s reply t

-- a piece that is received on a connection is given to the server at once
abbrev pub Hears : (over : Bool) → Talk → List ℕ → Talk → Type 0
Hears over t piece u = t.end.server.on ≡ true → (setup : SetupValue) (f : Traffic) → IsServing setup false t f
    → IsServing setup over u (record f { heard = heard_more piece f.heard })

-- its connection is left only at answers that say so, after a turn that has broken off, or if the service is over
abbrev pub StaysOn : State → Reply → State → Type 0
StaysOn s reply t = s.talk.end.server.on ≡ true → (t.talk.end.server.on ≡ true) ⊎ ((may_leave s.stage reply ≡ true)
    ⊎ (HasBroken s.talk reply t.talk ⊎ (is_over (due t) ≡ true)))

-- its server leaves its connection
abbrev pub left : State → State
left s = record s { stage = stage.Leaving; talk = record (s.talk) { end = serving_left s.talk.end } }

-- and was broken off
abbrev pub broken_off : State → State
broken_off s = record (left s) { core = record (s.core) { broken = true } }

-- a connection that was taken, before or just now, is broken off: it is left, and neither has its client ended it nor is the stop file there
abbrev pub IsBrokenOff : State → Reply → State → Type 0
IsBrokenOff s reply t = (t.talk.end.server.on ≡ false) × ((may_end s.stage reply ≡ false)
    × ((s.talk.end.server.on ≡ true) ⊎ ((s.stage ≡ stage.Accepting) × (reply ≡ Done))))

-- that is kept to the end
abbrev pub Breaks : State → Reply → State → Type 0
Breaks s reply t = (s.core.broken ≡ true) ⊎ IsBrokenOff s reply t → t.core.broken ≡ true

-- what the outside has answered so far
pub record Outside : Type 0 where
  pub is_listened : Bool  -- the port was listened on
  pub seen : Option (List ℕ × Reply)  -- which file was looked for, as the contacts file, and what was answered
  pub is_made : Bool  -- it is locked, and its next text was made
  pub next : List ℕ  -- that text
  pub safe : List ℕ  -- what is in it since it began, and no crash takes away
  pub is_whole : Bool  -- at the end it got the text of all acts
  pub is_printed : Bool  -- the contacts were printed

abbrev pub untouched : Outside
untouched = record { is_listened = false; seen = None; is_made = false; next = []; safe = []; is_whole = false; is_printed = false }

abbrev pub is_done : Reply → Bool
is_done Done = true
is_done reply = false

abbrev pub makes : Reply → Bool
makes Done = true
makes Found = true
makes reply = false

-- the outside after the effect of a stage was answered
abbrev pub outcome : Stage → Core → Reply → Outside → Outside
outcome stage.Looking c reply o = record o { seen = Some (c.name, reply) }
outcome stage.Making c reply o = if makes reply then record o { is_made = true; next = c.text } else o
outcome stage.Listening c reply o = if is_done reply then record o { is_listened = true } else o
outcome stage.Beginning c reply o = if is_done reply then record o { safe = o.next } else o
outcome stage.Keeping c reply o = if is_done reply then record o { safe = o.safe ++ c.text } else o
outcome stage.Replacing c reply o = if is_done reply then record o { is_whole = true } else o
outcome stage.Printing c reply o = if is_done reply then record o { is_printed = true } else o
outcome s c reply o = o

-- before the first connection: nothing was done, as the status says, too, and so does the next text of the contacts file
pub record IsBefore (c : Core) (o : Outside) : Type 0 where
  pub ledger : c.ledger ≡ []
  pub held : c.held ≡ 0
  pub lost : c.lost ≡ false
  pub status : c.status ≡ 1
  pub text : c.text ≡ contacts_text []
  pub made : c.grows ≡ true → (o.is_made ≡ true) × (o.next ≡ c.text)

-- a file of this name was seen to be a plain one, or none
abbrev pub IsPlain : List ℕ → Outside → Type 0
IsPlain name o = o.seen ≡ Some (name, Done)

-- the contacts file can be written, if one is named
abbrev pub IsPrepared : Core → Outside → Type 0
IsPrepared c o = (c.named ≡ false) ⊎ (o.is_made ≡ true)

-- the contacts file that grows has all that the server has done, but for this text, unless it could not be kept
abbrev pub HasAllBut : List ℕ → Core → Outside → Type 0
HasAllBut text c o = c.grows ≡ true → c.lost ≡ false → (o.safe ++ text ≡ contacts_text c.ledger) × (c.held ≡ length c.ledger)

pub record IsKept (c : Core) (o : Outside) : Type 0 where
  pub all : HasAllBut [] c o
  pub text : c.grows ≡ true → c.lost ≡ false → c.text ≡ []
  pub listened : o.is_listened ≡ true

-- the port is had, unless something was broken off
abbrev pub IsHad : Core → Outside → Type 0
IsHad c o = c.broken ≡ false → o.is_listened ≡ true

-- the whole contacts file was written at the end, if one is named, unless it could not be kept
abbrev pub IsWhole : Core → Outside → Type 0
IsWhole c o = c.lost ≡ false → c.named ≡ true → o.is_whole ≡ true

-- all that was asked for was done: the port was listened on, nothing was broken off, the contacts file was kept and written, and the contacts
-- were printed
pub record HasServed (c : Core) (o : Outside) : Type 0 where
  pub listened : o.is_listened ≡ true
  pub unbroken : c.broken ≡ false
  pub kept : c.lost ≡ false
  pub whole : c.named ≡ true → o.is_whole ≡ true
  pub printed : o.is_printed ≡ true

-- the exit status is 0 only then, and else 1, or 4 if memory has run out
abbrev pub IsStatus : ℕ → Type 0 → Type 0
IsStatus zero served = served
IsStatus (suc zero) served = ⊤
IsStatus (suc (suc (suc (suc zero)))) served = ⊤
IsStatus status served = ⊥

abbrev pub IsEnding : Core → Outside → Type 0
IsEnding c o = IsStatus c.status (HasServed c o)

-- what holds before the effect of a stage is asked for
abbrev pub Ready : Stage → Core → Outside → Type 0
Ready stage.Logged c o = IsBefore c o
Ready stage.Looking c o = IsBefore c o
Ready stage.Making c o = IsBefore c o × IsPlain c.name o
Ready stage.Listening c o = IsBefore c o × IsPrepared c o
Ready stage.SettingAside c o = IsBefore c o × ((c.grows ≡ true) × (o.is_listened ≡ true))
Ready stage.Beginning c o = IsBefore c o × ((c.grows ≡ true) × (o.is_listened ≡ true))
Ready stage.Keeping c o = HasAllBut c.text c o × (o.is_listened ≡ true)
Ready stage.Discarding c o = IsEnding c o
Ready stage.Replacing c o = (c.text ≡ contacts_text c.ledger) × IsHad c o
Ready stage.Printing c o = (c.rows ≡ contact_rows (reported c.ledger)) × (IsWhole c o × IsHad c o)
Ready stage.Telling c o = IsEnding c o
Ready stage.Exiting c o = IsEnding c o
Ready s c o = IsKept c o

-- a session that is ready is ready after an answer, too
abbrev pub GoesOn : State → Reply → State → Type 0
GoesOn s reply t = (o : Outside) → Ready (due s) s.core o → Ready (due t) t.core (outcome s.stage s.core reply o)

-- the service ends, whatever else holds
abbrev pub Ends : State → Type 0
Ends t = (o : Outside) → IsHad t.core o → Ready (due t) t.core o

-- what is kept stays so
abbrev pub Keeps : State → State → Type 0
Keeps s t = (o : Outside) → IsKept s.core o → IsKept t.core o

-- the contacts are to be printed
abbrev pub Prints : Core → State → Type 0
Prints c t = (due t ≡ stage.Printing) × (t.core ≡ record c { rows = contact_rows (reported c.ledger) })

-- the stages of a connection, and between two, that keep nothing
abbrev pub is_serving : Stage → Bool
is_serving stage.Peeking = true
is_serving stage.Accepting = true
is_serving stage.Pausing = true
is_serving stage.Checking = true
is_serving stage.Timing = true
is_serving stage.Receiving = true
is_serving stage.Sending = true
is_serving stage.Leaving = true
is_serving s = false

abbrev pub is_receiving : Stage → Bool
is_receiving stage.Checking = true
is_receiving stage.Timing = true
is_receiving stage.Receiving = true
is_receiving s = false

abbrev pub is_showing : Stage → Bool
is_showing stage.Tracing = true
is_showing stage.Stamping = true
is_showing stage.Logging = true
is_showing s = false

abbrev pub is_answering : Stage → Bool
is_answering stage.Keeping = true
is_answering stage.Sending = true
is_answering stage.Leaving = true
is_answering s = false

abbrev pub is_closing : Stage → Bool
is_closing stage.Replacing = true
is_closing stage.Printing = true
is_closing s = false

abbrev pub is_taking : Stage → Bool
is_taking stage.Peeking = true
is_taking stage.Accepting = true
is_taking stage.Pausing = true
is_taking s = false

-- the next effect is one that keeps nothing, or the service ends
pub data Continues (s t : State) : Type 0 where
  serves : is_serving (due t) ≡ true → Keeps s t → Continues s t
  ends : Ends t → Continues s t

-- the server has done more
abbrev pub IsMore : (old new : List (ℕ × Act)) → Type 0
IsMore old new = (more : List (ℕ × Act)) × (new ≡ old ++ more)

abbrev pub is_preparing : Stage → Bool
is_preparing stage.Logged = true
is_preparing stage.Looking = true
is_preparing stage.Making = true
is_preparing stage.Listening = true
is_preparing s = false

abbrev pub is_beginning : Stage → Bool
is_beginning stage.Discarding = true
is_beginning stage.SettingAside = true
is_beginning stage.Beginning = true
is_beginning s = false

-- the log is opened, or nothing is said if there is none
abbrev pub IsOpening : Ask → Type 0
IsOpening (Extend name) = ⊤
IsOpening (Say text) = text ≡ []
IsOpening ask = ⊥

abbrev pub IsMake : Core → Ask → Type 0
IsMake c (Make growth name beside first) = (name ≡ c.name) × (first ≡ c.text)
IsMake c ask = ⊥

abbrev pub IsListen : Ask → Type 0
IsListen (Listen address port is_polled) = ⊤
IsListen ask = ⊥

abbrev pub IsAccept : Ask → Type 0
IsAccept (Accept ms seconds) = ⊤
IsAccept ask = ⊥

abbrev pub IsReplace : Core → Ask → Type 0
IsReplace c (Replace name beside whole) = (name ≡ c.name) × (whole ≡ c.text)
IsReplace c ask = ⊥

abbrev pub IsExists : Ask → Type 0
IsExists (Exists name) = ⊤
IsExists ask = ⊥

-- what each stage asks for, and nothing else
abbrev pub AsksAt : Stage → State → Ask → Type 0
AsksAt stage.Logged s ask = IsOpening ask
AsksAt stage.Looking s ask = ask ≡ Look s.core.name
AsksAt stage.Making s ask = IsMake s.core ask
AsksAt stage.Discarding s ask = ask ≡ Discard Contacts
AsksAt stage.SettingAside s ask = IsSetAside Contacts ask
AsksAt stage.Beginning s ask = ask ≡ Begin Contacts
AsksAt stage.Keeping s ask = ask ≡ Keep Contacts s.core.text
AsksAt stage.Listening s ask = IsListen ask
AsksAt stage.Peeking s ask = IsExists ask
AsksAt stage.Accepting s ask = IsAccept ask
AsksAt stage.Pausing s ask = ask ≡ Sleep 100
AsksAt stage.Checking s ask = IsExists ask
AsksAt stage.Timing s ask = ask ≡ Now
AsksAt stage.Receiving s ask = ask ≡ Receive Client
AsksAt stage.Tracing s ask = IsSay ask
AsksAt stage.Stamping s ask = ask ≡ Stamp
AsksAt stage.Logging s ask = IsAdd ask
AsksAt stage.Sending s ask = ask ≡ Send Client s.talk.out
AsksAt stage.Leaving s ask = ask ≡ Leave
AsksAt stage.Replacing s ask = IsReplace s.core ask
AsksAt stage.Printing s ask = ask ≡ Print s.core.rows
AsksAt stage.Saying s ask = IsSay ask
AsksAt stage.Telling s ask = IsSay ask
AsksAt stage.Exiting s ask = ask ≡ Exit s.core.status

abbrev pub Asks : State → Ask → Type 0
Asks s ask = AsksAt s.stage s ask

abbrev pub is_asking_before : Stage → Bool
is_asking_before stage.Logged = true
is_asking_before stage.Looking = true
is_asking_before stage.Making = true
is_asking_before stage.Listening = true
is_asking_before stage.Discarding = true
is_asking_before stage.SettingAside = true
is_asking_before stage.Beginning = true
is_asking_before s = false

abbrev pub is_asking_while : Stage → Bool
is_asking_while stage.Tracing = true
is_asking_while stage.Stamping = true
is_asking_while stage.Logging = true
is_asking_while stage.Keeping = true
is_asking_while s = is_serving s

-- what the contacts file lacks is to be added
abbrev pub followed : Core → Core
followed c = record c { text = c.text ++ text_of (map act_line (drop c.held c.ledger)); held = length c.ledger }

-- an answer has its effect
pub record Steps (s : State) (reply : Reply) (t : State) : Type 0 where
  pub goes : GoesOn s reply t
  pub served : Serves s reply t
  pub stays : StaysOn s reply t
  pub breaks : Breaks s reply t
  pub stands : Stands s → Stands t

-- what was asked and answered, the last first, has led a session to another state, and the outside with it: it asked for no exit
pub data Led (first : State) : List Did → State → Outside → Type 0 where
  starts : Led first [] first untouched
  follows : (past : List Did) (s t : State) (o : Outside) (ask : Ask) (reply : Reply) → Led first past s o → (s.stage ≡ stage.Exiting → ⊥)
      → Asks s ask → Steps s reply t → Led first ((ask, reply) ∷ past) t (outcome s.stage s.core reply o)

-- a file of this name was seen to be a plain one, or none
abbrev pub WasSeen : List ℕ → List Did → Type 0
WasSeen name [] = ⊥
WasSeen name (did ∷ past) = (did ≡ (Look name, Done)) ⊎ WasSeen name past

-- and so was each file that was to grow, before it was locked and its next text made: it was no link
abbrev pub AreSeen : List Did → Type 0
AreSeen [] = ⊤
AreSeen (did ∷ past) = ((growth : Growth) (name beside text : List ℕ) → did.0 ≡ Make growth name beside text → WasSeen name past) × AreSeen past

-- no connection was broken off on the way
abbrev pub NoneBroken : (first : State) (past : List Did) (s : State) (o : Outside) → Led first past s o → Type 0
NoneBroken first _ _ _ starts = ⊤
NoneBroken first _ _ _ (follows past s t o ask reply led on asks steps) = NoneBroken first past s o led × (IsBrokenOff s reply t → ⊥)

-- to its exit, with this status
abbrev pub IsRun : State → List Did → ℕ → Type 0
IsRun first past status = (s : State) × (o : Outside) × Led first past s o × (s.stage ≡ stage.Exiting) × (status ≡ s.core.status)
