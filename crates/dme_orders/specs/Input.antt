-- The files of an order, each read to its end and understood before the next is read (this profile).
use Rattle.std.specs.Prelude.{◌≡◌, ◌⊎◌, ℕ, List, Bool, Option, Some, None}
use Rattle.contact_ledger.specs.declared.acts.Act.{Act}
use Rattle.contact_ledger.specs.declared.features.Feature.{Feature}
use Rattle.dmis_program.specs.Meaning.{Meaning}
use Rattle.link_world.specs.declared.texts.schedules.Instruction.{Instruction}
use Rattle.deviations.specs.declared.entries.Limit.{Limit}
use Rattle.record_text.specs.Seals.{digest_of, seal_verdict}
use Rattle.record_text.specs.declared.seals.SealVerdict.{SealVerdict}
use Rattle.record_text.specs.Records.{Recorded}
use Rattle.tool_rack.specs.Setups.{SetupValue}
use Rattle.program_review.specs.Reviews.{frames_under}
use Rattle.order_parts.specs.declared.faults.FilesFault.{FilesFault}
use Rattle.dme_orders.specs.Reading.{Came, came, IsUntouched, Reads, ReadsSetup, WhyNoSetup, ReadsSchedule, WhyNoSchedule, ReadsFeatures}
use Rattle.dme_orders.specs.Reading.{WhyNoFeatures, ReadsContacts, WhyNoContacts, ReadsRecord, WhyNoRecord, ReadsLimits, WhyNoLimits, WhyNoSealed}
use Rattle.dme_orders.specs.Reading.{ReadsProgram, WhyNoProgram}

-- a file comes before others: it is blamed for a reason of its own, and the others are untouched; or it is accepted, and one of the others
-- is blamed
abbrev pub InTurn : {A : Type 0} → (Read : A → Type 0) → (Why : FilesFault → Type 0) → (others : Type 0) → (Rest : A → FilesFault → Type 0)
    → FilesFault → Type 0
InTurn Read Why others Rest fault = (Why fault × others) ⊎ ((said : _) × Read said × Rest said fault)

-- ---- a setup that may be named

-- the source of a setup before and after a call, if a setup is named
pub record Named (S : Type 0) : Type 0 where
  pub left : S → Option (List ℕ)
  pub has_failed : S → Bool
  pub old : Option S
  pub new : Option S

abbrev pub named : {S : Type 0} → (S → Option (List ℕ)) → (S → Bool) → (old new : Option S) → Named S
named left has_failed old new = record { left = left; has_failed = has_failed; old = old; new = new }

module _ {S : Type 0} (left : S → Option (List ℕ)) (has_failed : S → Bool) where
  -- the setup that is named, or none if none is named
  abbrev pub IsNamed : (old new : Option S) → Option SetupValue → Type 0
  IsNamed (Some old) (Some new) (Some said) = ReadsSetup (came left has_failed old new) said
  IsNamed None None None = Unit {0}
  IsNamed _ _ _ = ⊥

  -- why the one that is named is not read
  abbrev pub IsBlamed : (old new : Option S) → FilesFault → Type 0
  IsBlamed (Some old) (Some new) fault = WhyNoSetup (came left has_failed old new) fault
  IsBlamed _ _ fault = ⊥

abbrev pub ReadsNamed : {S : Type 0} → Named S → Option SetupValue → Type 0
ReadsNamed n said = IsNamed n.left n.has_failed n.old n.new said

abbrev pub WhyNoNamed : {S : Type 0} → Named S → FilesFault → Type 0
WhyNoNamed n fault = IsBlamed n.left n.has_failed n.old n.new fault

-- ---- limits that may be named

module _ {L : Type 0} (left : L → Option (List ℕ)) (has_failed : L → Bool) where
  -- the limits that are named, or none if none are named
  abbrev pub AreNamed : (old new : Option L) → Option (List Limit) → Type 0
  AreNamed (Some old) (Some new) (Some said) = ReadsLimits (came left has_failed old new) said
  AreNamed None None None = Unit {0}
  AreNamed _ _ _ = ⊥

  -- why those that are named are not read
  abbrev pub AreBlamed : (old new : Option L) → FilesFault → Type 0
  AreBlamed (Some old) (Some new) fault = WhyNoLimits (came left has_failed old new) fault
  AreBlamed _ _ fault = ⊥

abbrev pub ReadsNamedLimits : {L : Type 0} → Named L → Option (List Limit) → Type 0
ReadsNamedLimits n said = AreNamed n.left n.has_failed n.old n.new said

abbrev pub WhyNoNamedLimits : {L : Type 0} → Named L → FilesFault → Type 0
WhyNoNamedLimits n fault = AreBlamed n.left n.has_failed n.old n.new fault

-- limits, if they are named, and what other files say
pub record Limited (A : Type 0) : Type 0 where
  pub limits : Option (List Limit)
  pub input : A

-- limits were read if they are named, then other files
abbrev pub ReadsLimited : {L A : Type 0} → Named L → (Reads : A → Type 0) → Limited A → Type 0
ReadsLimited l Reads input = ReadsNamedLimits l input.limits × Reads input.input

-- the limits are blamed, and the other files are untouched; or one of those is blamed
abbrev pub WhyNoLimited : {L : Type 0} → Named L → (others : Type 0) → (WhyNo : FilesFault → Type 0) → FilesFault → Type 0
WhyNoLimited l others WhyNo = InTurn (ReadsNamedLimits l) (WhyNoNamedLimits l) others (λ limits. WhyNo)

-- ---- the files of each order

module _ {S R : Type 0} (s : Came S) (r : Came R) where
  -- a setup, then a program under its frames
  abbrev pub WhyNoProgramUnder : FilesFault → Type 0
  WhyNoProgramUnder = InTurn (ReadsSetup s) (WhyNoSetup s) (IsUntouched r) (λ setup. WhyNoProgram r setup.frames)

-- a setup if one is named, and a program under its frames
pub record CheckInput : Type 0 where
  pub setup : Option SetupValue
  pub program : Meaning

module _ {S R : Type 0} (s : Named S) (r : Came R) where
  pub record ReadsCheck (input : CheckInput) : Type 0 where
    pub said : ReadsNamed s input.setup
    pub accepted : ReadsProgram r (frames_under input.setup) input.program

  abbrev pub WhyNoCheck : FilesFault → Type 0
  WhyNoCheck = InTurn (ReadsNamed s) (WhyNoNamed s) (IsUntouched r) (λ setup. WhyNoProgram r (frames_under setup))

-- a setup, the instructions of a schedule, and a program under the setup's frames
pub record SimulationInput : Type 0 where
  pub setup : SetupValue
  pub instructions : List Instruction
  pub program : Meaning

module _ {S C R : Type 0} (s : Came S) (c : Came C) (r : Came R) where
  pub record ReadsSimulation (input : SimulationInput) : Type 0 where
    pub said : ReadsSetup s input.setup
    pub asked : ReadsSchedule c input.instructions
    pub accepted : ReadsProgram r input.setup.frames input.program

  abbrev pub WhyNoSimulation : FilesFault → Type 0
  WhyNoSimulation = InTurn (ReadsSetup s) (WhyNoSetup s) (IsUntouched c × IsUntouched r) (λ setup.
      InTurn (ReadsSchedule c) (WhyNoSchedule c) (IsUntouched r) (λ instructions. WhyNoProgram r setup.frames))

-- features, the acts of a server, and a program under the frames of a setup
pub record AuditInput : Type 0 where
  pub setup : SetupValue
  pub features : List Feature
  pub ledger : List (ℕ × Act)
  pub program : Meaning

module _ {S F C R : Type 0} (s : Came S) (f : Came F) (c : Came C) (r : Came R) where
  pub record ReadsAudit (input : AuditInput) : Type 0 where
    pub said : ReadsSetup s input.setup
    pub held : ReadsFeatures f input.features
    pub made : ReadsContacts c input.ledger
    pub accepted : ReadsProgram r input.setup.frames input.program

  abbrev pub WhyNoAudit : FilesFault → Type 0
  WhyNoAudit = InTurn (ReadsSetup s) (WhyNoSetup s) (IsUntouched f × IsUntouched c × IsUntouched r) (λ setup.
      InTurn (ReadsFeatures f) (WhyNoFeatures f) (IsUntouched c × IsUntouched r) (λ features.
      InTurn (ReadsContacts c) (WhyNoContacts c) (IsUntouched r) (λ ledger. WhyNoProgram r setup.frames)))

-- features, and a program under the frames of a setup, if one is named
pub record ExportInput : Type 0 where
  pub setup : Option SetupValue
  pub features : List Feature
  pub program : Meaning

module _ {S F R : Type 0} (s : Named S) (f : Came F) (r : Came R) where
  pub record ReadsExport (input : ExportInput) : Type 0 where
    pub said : ReadsNamed s input.setup
    pub held : ReadsFeatures f input.features
    pub accepted : ReadsProgram r (frames_under input.setup) input.program

  abbrev pub AreUntouched : Type 0
  AreUntouched = (s.new ≡ s.old) × IsUntouched f × IsUntouched r

  abbrev pub WhyNoExport : FilesFault → Type 0
  WhyNoExport = InTurn (ReadsNamed s) (WhyNoNamed s) (IsUntouched f × IsUntouched r) (λ setup.
      InTurn (ReadsFeatures f) (WhyNoFeatures f) (IsUntouched r) (λ features. WhyNoProgram r (frames_under setup)))

-- a record, if it is begun, and a program under the frames of a setup, if one is named
pub record RecordInput : Type 0 where
  pub setup : Option SetupValue
  pub held : Option Recorded
  pub program : Meaning

module _ {S J R : Type 0} (s : Named S) (j : Came J) (r : Came R) where
  pub record ReadsHeld (input : RecordInput) : Type 0 where
    pub said : ReadsNamed s input.setup
    pub held : ReadsRecord j input.held
    pub accepted : ReadsProgram r (frames_under input.setup) input.program

  abbrev pub WhyNoneHeld : FilesFault → Type 0
  WhyNoneHeld = InTurn (ReadsNamed s) (WhyNoNamed s) (IsUntouched j × IsUntouched r) (λ setup.
      InTurn (ReadsRecord j) (WhyNoRecord j) (IsUntouched r) (λ held. WhyNoProgram r (frames_under setup)))

  -- likewise for a record that is to be sealed
  abbrev pub WhyNoneSealed : Option (List ℕ) → FilesFault → Type 0
  WhyNoneSealed key = InTurn (ReadsNamed s) (WhyNoNamed s) (IsUntouched j × IsUntouched r) (λ setup.
      InTurn (ReadsRecord j) (WhyNoSealed j key) (IsUntouched r) (λ held. WhyNoProgram r (frames_under setup)))

-- likewise, and what the seals of the record say, and its SHA-256 as digits
pub record JudgedInput : Type 0 where
  pub seals : SealVerdict
  pub digest : List ℕ
  pub files : RecordInput

module _ {S J R : Type 0} (s : Named S) (j : Came J) (r : Came R) where
  -- the files were read, and the seals of the record's text are judged under a key, if one is given
  pub record ReadsJudged (key : Option (List ℕ)) (input : JudgedInput) : Type 0 where
    pub read : ReadsHeld s j r input.files
    pub judged : Reads j (λ text. input.seals ≡ seal_verdict key text)
    pub digested : Reads j (λ text. input.digest ≡ digest_of text)
