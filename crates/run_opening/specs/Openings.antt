-- What is known of a run before its server is called, by what the outside has answered (this profile).
use Rattle.std.specs.Prelude.{◌≡◌, ◌⊎◌, ◌<◌, ◌++◌, ◌∷◌, [], ⊤, ℕ, Bool, true, false, List, length, Option, None, Some, is_some, Ok, option_map, string_bytes}
use Rattle.client_core.specs.Clients.{are_ours, may_connect}
use Rattle.contact_ledger.specs.FeatureTexts.{IsFeatures}
use Rattle.contact_ledger.specs.declared.features.Feature.{Feature}
use Rattle.dme_words.specs.declared.orders.Run.{Run}
use Rattle.dmis_program.specs.Meaning.{Meaning, program_of}
use Rattle.effects.specs.declared.vocabulary.Cause.TheVariants as cause
use Rattle.effects.specs.Effects.{Reply, Done, Bytes, End, Missing, Found as IsThere, Failed}
use Rattle.protocol_model.specs.Ends.{ClientEnd, new_client_end, end_connected}
use Rattle.record_text.specs.Beginnings.{BeginsWith}
use Rattle.record_text.specs.Seals.{false_seal}
use Rattle.record_text.specs.Growths.{begun}
use Rattle.record_text.specs.declared.opening.Beginning.{Beginning}
use Rattle.run_session.specs.Records.{Start}
use Rattle.tool_rack.specs.Setups.{SetupValue, setup_of}
use Rattle.effects.specs.Comparing.{bytes_of}
use Rattle.effects.specs.Naming.{Seen}
use Rattle.run_opening.specs.Naming.{AreApart, AreCompared, Covers}
use Rattle.run_opening.specs.declared.stages.Text.{Text}
use Rattle.run_opening.specs.declared.stages.Text.TheVariants as text
use Rattle.run_opening.specs.declared.stages.Stage.{Stage}
use Rattle.run_opening.specs.declared.stages.Stage.TheVariants as stage

-- what was understood of the texts that were read, and what the run begins with
pub record Core : Type 0 where
  pub order : Run  -- what is asked for; the names of its files are taken out at the end
  pub setup : Option SetupValue
  pub features : Option (List Feature)
  pub program : Option Meaning
  pub key : Option (List ℕ)
  pub stopped : Bool  -- whether the stop file was there
  pub beginning : Option Beginning
  pub client : Option ClientEnd
  pub begun : Option Start

pub record State : Type 0 where
  pub stage : Stage
  pub text : List ℕ  -- what came of the text that is read
  pub status : ℕ
  pub called : List Seen  -- the files that were compared
  pub core : Core

-- what the outside has answered: which of the files that are named lack a place, and where the others are; which files are locked, or are
-- written at the end alone; the texts that were read to their end; whether the stop file was there, when it was looked for; and whether the
-- record has the text that the run continues from
pub record Answered : Type 0 where
  pub placeless : List ℕ
  pub place : List ℕ  -- the last place, and the number of its file
  pub last : ℕ
  pub seen : List Seen
  pub has_record : Bool
  pub has_features : Bool
  pub is_other_features : Bool
  pub has_contacts : Bool
  pub is_other_contacts : Bool
  pub setup : Option (List ℕ)
  pub features : Option (List ℕ)
  pub program : Option (List ℕ)
  pub key : Option (List ℕ)
  pub recorded : Option (List ℕ)
  pub stop : Option Bool
  pub is_filled : Bool

pub record Outside : Type 0 where
  pub answered : Answered
  pub text : List ℕ  -- what was read of the text that is open
  pub typed : List ℕ  -- what was typed as the answer
  pub left_features : Bool  -- whether the files that were locked were left as they were
  pub left_contacts : Bool
  pub left_record : Bool

abbrev pub untouched : Outside
untouched = record {
  answered = record {
    placeless = [];
    place = [];
    last = 0;
    seen = [];
    has_record = false;
    has_features = false;
    is_other_features = false;
    has_contacts = false;
    is_other_contacts = false;
    setup = None;
    features = None;
    program = None;
    key = None;
    recorded = None;
    stop = None;
    is_filled = false;
  };
  text = [];
  typed = [];
  left_features = false;
  left_contacts = false;
  left_record = false;
}

-- a whole text was read
abbrev pub with_text : Text → List ℕ → Outside → Outside
with_text text.Setup bytes o = record o { answered = record (o.answered) { setup = Some bytes } }
with_text text.Features bytes o = record o { answered = record (o.answered) { features = Some bytes } }
with_text text.Program bytes o = record o { answered = record (o.answered) { program = Some bytes } }
with_text text.Key bytes o = record o { answered = record (o.answered) { key = Some bytes } }
with_text text.Record bytes o = record o { answered = record (o.answered) { recorded = Some bytes } }

-- the outside after the effect of a stage was answered
abbrev pub if_done : Reply → Outside → Outside → Outside
if_done Done new o = new
if_done reply new o = o

-- features that are a device or a folder, and contacts that are a device or a link, are not locked
abbrev pub is_unlocked_features : Reply → Bool
is_unlocked_features (Failed cause.Device) = true
is_unlocked_features (Failed cause.Folder) = true
is_unlocked_features reply = false

abbrev pub is_unlocked_contacts : Reply → Bool
is_unlocked_contacts (Failed cause.Device) = true
is_unlocked_contacts (Failed cause.Link) = true
is_unlocked_contacts reply = false

abbrev pub is_there : Reply → Bool
is_there IsThere = true
is_there reply = false

-- a text that is not there is read as one without bytes
abbrev pub opened : Text → Reply → Outside → Outside
opened t Done o = record o { text = [] }
opened t Missing o = with_text t [] o
opened t reply o = o

abbrev pub read : Text → Reply → Outside → Outside
read t (Bytes bytes) o = record o { text = o.text ++ bytes }
read t End o = with_text t o.text o
read t reply o = o

abbrev pub typed : List ℕ → Reply → Outside → Outside
typed before (Bytes bytes) o = record o { typed = before ++ bytes }
typed before reply o = o

-- the place of a file, or none; and its number on its device, if it exists
abbrev pub placed : ℕ → Option (List ℕ) → Answered → Answered
placed at (Some place) a = record a { place = place; last = at }
placed at None a = record a { placeless = at ∷ a.placeless }

abbrev pub numbered : ℕ → Option (List ℕ) → Answered → Answered
numbered at node a = record a { seen = a.seen ++ record { at = at; place = a.place; node = node } ∷ [] }

abbrev pub outcome : Stage → Reply → Outside → Outside
outcome (stage.Placing at) reply o = record o { answered = placed at (bytes_of reply) o.answered }
outcome (stage.Numbering at) reply o = record o { answered = numbered at (bytes_of reply) o.answered }
outcome stage.HoldingRecord reply o = if_done reply (record o { answered = record (o.answered) { has_record = true } }) o
outcome stage.LookingFeatures reply o = record o { answered = record (o.answered) { is_other_features = is_unlocked_features reply } }
outcome stage.HoldingFeatures reply o = if_done reply (record o { answered = record (o.answered) { has_features = true } }) o
outcome stage.LookingContacts reply o = record o { answered = record (o.answered) { is_other_contacts = is_unlocked_contacts reply } }
outcome stage.HoldingContacts reply o = if_done reply (record o { answered = record (o.answered) { has_contacts = true } }) o
outcome (stage.Opening t) reply o = opened t reply o
outcome (stage.Reading t) reply o = read t reply o
outcome stage.Peeking reply o = record o { answered = record (o.answered) { stop = Some (is_there reply) } }
outcome stage.Filling reply o = if_done reply (record o { answered = record (o.answered) { is_filled = true } }) o
outcome stage.Confirming reply o = typed [] reply o
outcome stage.Returning reply o = typed o.typed reply o
outcome stage.DiscardingFeatures reply o = record o { left_features = true }
outcome stage.DiscardingContacts reply o = record o { left_contacts = true }
outcome stage.DiscardingRecord reply o = record o { left_record = true }
outcome s reply o = o

-- each file of a call that grows is locked, or is written at the end alone
abbrev pub IsRecordHeld : Run → Answered → Type 0
IsRecordHeld run a = is_some run.record ≡ true → a.has_record ≡ true

abbrev pub AreFeaturesHeld : Run → Answered → Type 0
AreFeaturesHeld run a = is_some run.features ≡ true → (a.has_features ≡ true) ⊎ (a.is_other_features ≡ true)

abbrev pub AreContactsHeld : Run → Answered → Type 0
AreContactsHeld run a = is_some run.contacts ≡ true → (a.has_contacts ≡ true) ⊎ (a.is_other_contacts ≡ true)

pub record AreHeld (run : Run) (a : Answered) : Type 0 where
  pub compared : AreCompared run a.placeless a.seen
  pub recorded : IsRecordHeld run a
  pub features : AreFeaturesHeld run a
  pub contacts : AreContactsHeld run a

-- a text was read to its end, and is accepted as this
abbrev pub IsSetupRead : Option SetupValue → Option (List ℕ) → Type 0
IsSetupRead None bytes = ⊥
IsSetupRead (Some setup) None = ⊥
IsSetupRead (Some setup) (Some bytes) = setup_of bytes ≡ Ok setup

abbrev pub AreFeaturesRead : Option (List Feature) → Option (List ℕ) → Type 0
AreFeaturesRead None bytes = ⊥
AreFeaturesRead (Some features) None = ⊥
AreFeaturesRead (Some features) (Some bytes) = IsFeatures bytes features

abbrev pub IsProgramRead : Option SetupValue → Option Meaning → Option (List ℕ) → Type 0
IsProgramRead None p bytes = ⊥
IsProgramRead (Some setup) None bytes = ⊥
IsProgramRead (Some setup) (Some p) None = ⊥
IsProgramRead (Some setup) (Some p) (Some bytes) = program_of setup.frames bytes ≡ Ok p

abbrev pub IsKeyRead : Option (List ℕ) → Option (List ℕ) → Type 0
IsKeyRead None bytes = ⊥
IsKeyRead (Some key) None = ⊥
IsKeyRead (Some key) (Some bytes) = (key ≡ bytes) × (0 < length bytes)

-- no line of a record has a seal that is not that of what is above it under this key, which has a byte
abbrev pub KeepsSeals : (key recorded : Option (List ℕ)) → Type 0
KeepsSeals None recorded = ⊥
KeepsSeals (Some key) None = ⊥
KeepsSeals (Some key) (Some text) = (0 < length key) × (false_seal key text ≡ None)

abbrev pub part_of : Run → Option (List ℕ)
part_of run = option_map string_bytes run.part

abbrev pub IsRecordRead : Option (List ℕ) → Option Meaning → Option Beginning → Option (List ℕ) → Type 0
IsRecordRead part None b bytes = ⊥
IsRecordRead part (Some p) None bytes = ⊥
IsRecordRead part (Some p) (Some b) None = ⊥
IsRecordRead part (Some p) (Some b) (Some bytes) = BeginsWith part p.features bytes b

-- one feature is another: it has its label and its points. Where it comes from may be unknown of either.
abbrev pub IsAlike : Feature → Feature → Type 0
IsAlike one other = (one.label ≡ other.label) × (one.points ≡ other.points)

-- features are the first of others, in their order
abbrev pub AreFirstFeatures : List Feature → List Feature → Type 0
AreFirstFeatures [] others = ⊤
AreFirstFeatures (f ∷ fs) [] = ⊥
AreFirstFeatures (f ∷ fs) (g ∷ gs) = IsAlike f g × AreFirstFeatures fs gs

-- a run gives back the features of a file, if it has these: they are the first of those that it begins with
abbrev pub GivesBack : Option Beginning → Option (List Feature) → Type 0
GivesBack b None = ⊤
GivesBack None (Some features) = ⊥
GivesBack (Some b) (Some features) = AreFirstFeatures features b.features

-- the features file, if one is named, was read to its end and accepted, and a run gives its features back
pub record KeepsFile (run : Run) (a : Answered) (b : Beginning) : Type 0 where
  pub held : Option (List Feature)
  pub read : is_some run.features ≡ true → AreFeaturesRead held a.features
  pub first : GivesBack (Some b) held

-- nothing is read yet
pub record IsFresh (run : Run) (c : Core) : Type 0 where
  pub order : c.order ≡ run
  pub features : c.features ≡ None

-- the setup is read, and the features file, if one is named
pub record IsPrepared (run : Run) (c : Core) (a : Answered) : Type 0 where
  pub order : c.order ≡ run
  pub held : AreHeld run a
  pub setup : IsSetupRead c.setup a.setup
  pub features : is_some run.features ≡ true → AreFeaturesRead c.features a.features
  pub none : is_some run.features ≡ false → c.features ≡ None

-- and the program
pub record IsUnderstood (run : Run) (c : Core) (a : Answered) : Type 0 where
  pub prepared : IsPrepared run c a
  pub program : IsProgramRead c.setup c.program a.program

-- the stop file was looked for, if one is named
abbrev pub IsStopKnown : Run → Core → Answered → Type 0
IsStopKnown run c a = is_some run.stop ≡ true → a.stop ≡ Some c.stopped

-- it was not there
abbrev pub IsFree : Run → Answered → Type 0
IsFree run a = is_some run.stop ≡ true → a.stop ≡ Some false

-- and the key, if one is named
abbrev pub IsKeyKnown : Run → Core → Answered → Type 0
IsKeyKnown run c a = is_some run.seal_key ≡ true → IsKeyRead c.key a.key

-- the seals of the record hold, if a key is named
abbrev pub AreSealsKept : Run → Answered → Type 0
AreSealsKept run a = is_some run.seal_key ≡ true → KeepsSeals a.key a.recorded

-- what is known before a text is opened
abbrev pub Reads : Text → Run → Core → Answered → Type 0
Reads text.Setup run c a = IsFresh run c × AreHeld run a
Reads text.Features run c a = (c.order ≡ run) × (AreHeld run a × (IsSetupRead c.setup a.setup × (is_some run.features ≡ true)))
Reads text.Program run c a = IsPrepared run c a
Reads text.Key run c a = IsUnderstood run c a × (IsStopKnown run c a × (is_some run.record ≡ true))
Reads text.Record run c a = IsUnderstood run c a × (IsStopKnown run c a × ((is_some run.record ≡ true) × IsKeyKnown run c a))

-- the record is read, and the run continues from it, with the features of the file
pub record IsContinued (run : Run) (c : Core) (a : Answered) : Type 0 where
  pub understood : IsUnderstood run c a
  pub free : IsFree run a
  pub named : is_some run.record ≡ true
  pub recorded : IsRecordRead (part_of run) c.program c.beginning a.recorded
  pub sealed : AreSealsKept run a
  pub first : GivesBack c.beginning c.features

-- a client that may connect has come to this connection, and its record has this text
abbrev pub Starts : ℕ → ClientEnd → List ℕ → Option ClientEnd → Option Start → Type 0
Starts n e text None start = ⊥
Starts n e text (Some f) None = ⊥
Starts n e text (Some f) (Some start) = (may_connect n e.client ≡ true) × ((f ≡ end_connected n e)
    × (start.growth ≡ begun n 0 (length e.client.table.tally.features) text))

-- a program was read under its setup
pub record IsProgramOf (p : Meaning) (a : Answered) : Type 0 where
  pub setup : SetupValue
  pub is_setup : IsSetupRead (Some setup) a.setup
  pub is_program : IsProgramRead (Some setup) (Some p) a.program

-- without a record a run has the features of its file, or none, and is on connection 1
pub record BeginsAlone (run : Run) (a : Answered) (client : Option ClientEnd) (start : Option Start) : Type 0 where
  pub p : Meaning
  pub program : IsProgramOf p a
  pub kept : List Feature
  pub named : is_some run.features ≡ true → AreFeaturesRead (Some kept) a.features
  pub none : is_some run.features ≡ false → kept ≡ []
  pub ours : are_ours p.features kept ≡ true
  pub starts : Starts 1 (new_client_end p kept run.window) [] client start

-- with one it has what the record gives, which begins with the features of the file, and the record's file has its text
pub record BeginsRecorded (run : Run) (a : Answered) (client : Option ClientEnd) (start : Option Start) : Type 0 where
  pub p : Meaning
  pub program : IsProgramOf p a
  pub b : Beginning
  pub recorded : IsRecordRead (part_of run) (Some p) (Some b) a.recorded
  pub sealed : AreSealsKept run a
  pub kept : KeepsFile run a b
  pub filled : a.is_filled ≡ true
  pub ours : are_ours p.features b.features ≡ true
  pub starts : Starts b.connection (new_client_end p b.features run.window) b.text.items client start

pub record Begins (run : Run) (a : Answered) (client : Option ClientEnd) (start : Option Start) : Type 0 where
  pub alone : is_some run.record ≡ false → BeginsAlone run a client start
  pub recorded : is_some run.record ≡ true → BeginsRecorded run a client start

-- all was read, and the client is made
pub record IsOpened (run : Run) (c : Core) (a : Answered) : Type 0 where
  pub confirm : c.order.confirm ≡ run.confirm
  pub held : AreHeld run a
  pub free : IsFree run a
  pub begins : Begins run a c.client c.begun

abbrev pub IsEmptyLine : List ℕ → Type 0
IsEmptyLine line = (line ≡ 10 ∷ []) ⊎ (line ≡ 13 ∷ 10 ∷ [])

-- what was asked for is known, and what is locked so far
abbrev pub HasNone : Run → Core → Answered → Type 0
HasNone run c a = IsFresh run c × AreCompared run a.placeless a.seen

abbrev pub HasRecord : Run → Core → Answered → Type 0
HasRecord run c a = HasNone run c a × IsRecordHeld run a

abbrev pub HasFeatures : Run → Core → Answered → Type 0
HasFeatures run c a = HasNone run c a × (IsRecordHeld run a × AreFeaturesHeld run a)

-- the files before this number were compared
pub record IsComparing (run : Run) (at : ℕ) (called : List Seen) (c : Core) (a : Answered) : Type 0 where
  pub fresh : IsFresh run c
  pub seen : a.seen ≡ called
  pub apart : AreApart a.seen
  pub covers : Covers run at a.placeless a.seen

-- the program is read, and it is known whether the stop file was there
abbrev pub IsLookedAt : Run → Core → Answered → Type 0
IsLookedAt run c a = IsUnderstood run c a × IsStopKnown run c a

-- the record's file has its text
abbrev pub IsFilled : Run → Core → Answered → Type 0
IsFilled run c a = IsContinued run c a × (a.is_filled ≡ true)

-- all but the client is there
abbrev pub IsNearlyOpened : Run → Core → Answered → Type 0
IsNearlyOpened run c a = (c.order ≡ run) × (AreHeld run a × IsFree run a)

-- what is known at a stage
abbrev pub Known : Stage → Run → State → Outside → Type 0
Known (stage.Placing at) run s o = IsComparing run at s.called s.core o.answered
Known (stage.Numbering at) run s o = IsComparing run at s.called s.core o.answered
    × ((s.text ≡ o.answered.place) × (o.answered.last ≡ at))
Known stage.HoldingRecord run s o = HasNone run s.core o.answered
Known stage.LookingFeatures run s o = HasRecord run s.core o.answered
Known stage.HoldingFeatures run s o = HasRecord run s.core o.answered
Known stage.LookingContacts run s o = HasFeatures run s.core o.answered
Known stage.HoldingContacts run s o = HasFeatures run s.core o.answered
Known (stage.Opening t) run s o = Reads t run s.core o.answered
Known (stage.Reading t) run s o = Reads t run s.core o.answered × (s.text ≡ o.text)
Known stage.Warning run s o = IsUnderstood run s.core o.answered
Known stage.Peeking run s o = IsUnderstood run s.core o.answered
Known stage.Filling run s o = IsContinued run s.core o.answered
Known stage.Telling run s o = IsOpened run s.core o.answered
Known stage.Confirming run s o = IsOpened run s.core o.answered
Known stage.Returning run s o = IsOpened run s.core o.answered × (o.typed ≡ 13 ∷ [])
Known stage.Ready run s o = IsOpened run s.core o.answered × (run.confirm ≡ true → IsEmptyLine o.typed)
Known stage.DiscardingFeatures run s o = 0 < s.status
Known stage.DiscardingContacts run s o = (0 < s.status) × (o.left_features ≡ true)
Known stage.DiscardingRecord run s o = (0 < s.status) × ((o.left_features ≡ true) × (o.left_contacts ≡ true))
Known stage.Ending run s o = (0 < s.status) × ((o.left_features ≡ true) × ((o.left_contacts ≡ true) × (o.left_record ≡ true)))
Known stage.Exiting run s o = (0 < s.status) × ((o.left_features ≡ true) × ((o.left_contacts ≡ true) × (o.left_record ≡ true)))

abbrev pub Holds : Run → State → Outside → Type 0
Holds run s o = Known s.stage run s o

-- it holds after an answer, too
abbrev pub GoesOn : State → Reply → State → Type 0
GoesOn s reply t = (run : Run) (o : Outside) → Holds run s o → Holds run t (outcome s.stage reply o)

-- nothing is begun, whatever else holds
abbrev pub Ends : State → Type 0
Ends t = (run : Run) (o : Outside) → Holds run t o

-- where this is known of what was read, that is known which is at the stage
abbrev pub Leads : (Run → Core → Answered → Type 0) → State → State → Type 0
Leads Is s t = (run : Run) (o : Outside) → Is run s.core o.answered → Holds run t o

-- likewise once the files before this number were compared, or this one is to join them
abbrev pub Compares : ℕ → State → State → Type 0
Compares from s t = (run : Run) (o : Outside) → IsComparing run from s.called s.core o.answered → Holds run t o

abbrev pub Joins : Seen → State → State → Type 0
Joins x s t = (run : Run) (o : Outside) → IsComparing run x.at s.called s.core o.answered
    → Holds run t (record o { answered = record (o.answered) { seen = o.answered.seen ++ x ∷ [] } })

-- likewise once a whole text was read
abbrev pub Takes : Text → List ℕ → State → State → Type 0
Takes which bytes s t = (run : Run) (o : Outside) (whole : List ℕ) → bytes ≡ whole → Reads which run s.core o.answered
    → Holds run t (with_text which whole o)

-- likewise once the program, the record or the features were accepted
abbrev pub Accepts : Meaning → State → State → Type 0
Accepts p s t = (run : Run) (o : Outside) → IsPrepared run s.core o.answered → IsProgramRead s.core.setup (Some p) o.answered.program
    → Holds run t o

abbrev pub Fills : Beginning → State → State → Type 0
Fills b s t = (run : Run) (o : Outside) → IsUnderstood run s.core o.answered → IsFree run o.answered → is_some run.record ≡ true
    → IsRecordRead (part_of run) s.core.program (Some b) o.answered.recorded → AreSealsKept run o.answered → Holds run t o

-- likewise once that text was checked
abbrev pub Checks : Beginning → List ℕ → State → State → Type 0
Checks b text s t = (run : Run) (o : Outside) → IsUnderstood run s.core o.answered → IsFree run o.answered → is_some run.record ≡ true
    → IsRecordRead (part_of run) s.core.program (Some b) o.answered.recorded → IsKeyKnown run s.core o.answered
    → o.answered.recorded ≡ Some text → Holds run t o

-- the line of the first seal that does not hold under a key, if there is a key
abbrev pub false_in : (key : Option (List ℕ)) (text : List ℕ) → Option ℕ
false_in None text = None
false_in (Some key) text = false_seal key text

abbrev pub Keeps : List Feature → State → State → Type 0
Keeps kept s t = (run : Run) (o : Outside) → IsNearlyOpened run s.core o.answered → IsSetupRead s.core.setup o.answered.setup
    → IsProgramRead s.core.setup s.core.program o.answered.program → is_some run.record ≡ false
    → (is_some run.features ≡ true → AreFeaturesRead (Some kept) o.answered.features) → (is_some run.features ≡ false → kept ≡ [])
    → Holds run t o

-- likewise once a client is made that is to come to this connection: whatever the run then begins with is due
abbrev pub TakesClient : List Feature → ℕ → List ℕ → State → State → Type 0
TakesClient kept n text s t = (run : Run) (o : Outside) → IsNearlyOpened run s.core o.answered
    → ((p : Meaning) (client : Option ClientEnd) (start : Option Start) → s.core.program ≡ Some p → are_ours p.features kept ≡ true
    → Starts n (new_client_end p kept s.core.order.window) text client start → Begins run o.answered client start)
    → Holds run t o

abbrev pub StartsClient : ClientEnd → ℕ → List ℕ → State → State → Type 0
StartsClient e n text s t = (run : Run) (o : Outside) → IsNearlyOpened run s.core o.answered
    → ((client : Option ClientEnd) (start : Option Start) → Starts n e text client start → Begins run o.answered client start)
    → Holds run t o

-- likewise once an empty line was typed
abbrev pub Confirms : State → State → Type 0
Confirms s t = (run : Run) (o : Outside) → IsOpened run s.core o.answered → IsEmptyLine o.typed → Holds run t o

-- the stages at which files are locked; at which texts are looked for; and at which a run ends that did not begin
abbrev pub is_holding : Stage → Bool
is_holding stage.HoldingRecord = true
is_holding stage.LookingFeatures = true
is_holding stage.HoldingFeatures = true
is_holding stage.LookingContacts = true
is_holding stage.HoldingContacts = true
is_holding s = false

abbrev pub is_confirming : Stage → Bool
is_confirming stage.Confirming = true
is_confirming stage.Returning = true
is_confirming s = false

abbrev pub is_ending : Stage → Bool
is_ending stage.DiscardingFeatures = true
is_ending stage.DiscardingContacts = true
is_ending stage.DiscardingRecord = true
is_ending stage.Ending = true
is_ending stage.Exiting = true
is_ending s = false

-- only names of files, and the key, were taken out of what is asked for
pub record HasGiven (s t : State) : Type 0 where
  pub stage : t.stage ≡ s.stage
  pub confirm : t.core.order.confirm ≡ s.core.order.confirm
  pub core : t.core ≡ record (s.core) { order = t.core.order; key = t.core.key }

-- the run has its client
abbrev pub HasClient : ClientEnd → Start → State → State → Type 0
HasClient e start s t = t ≡ record s { core = record (s.core) { client = Some e; begun = Some start } }
