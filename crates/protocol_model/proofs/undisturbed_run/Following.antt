-- What is planned against what is counted, and what a mark does to a command that has not failed.
use Rattle.protocol_model.proofs.Names.{[], ◌&&◌, ◌++◌, ◌∙◌, ◌∷◌, ◌≡◌, Act, act_in, act_of, acts_planned, ap, append_assoc, AreActs, AreFirstActs}
use Rattle.protocol_model.proofs.Names.{asks_data, Becomes, Bool, Closes, Command, Counts, Datum, Does, false, false≢true, fits, is_failed, judged}
use Rattle.protocol_model.proofs.Names.{judged_done, judged_given, Kind, kind_of, List, None, OpenCommand, Option, Planned, refl, Some, Stage, subst}
use Rattle.protocol_model.proofs.Names.{suc, sym, tag_at, true, ℕ}
use Rattle.protocol_model.specs.Replies.{Mark}
use Rattle.protocol_model.proofs.invariant.Touching.{HasDatum}
use Rattle.protocol_model.proofs.plan.Fitting.{Know, known_by, FitsMove, FitsTouch, FitsFrame, FitsOne, Fits}

-- ---- plans whose touches and questions are commands that ask for data

-- a touch is measured by a PtMeas, an IsHomed asks whether the machine is homed, and what is for nothing of both asks for no data
abbrev pub IsAskedBy : Does → Kind → Type 0
IsAskedBy (Does.Touches t last) k = k ≡ Kind.PtMeas
IsAskedBy Does.AsksHomed k = k ≡ Kind.IsHomed
IsAskedBy Does.Nothing k = asks_data k ≡ false
IsAskedBy Does.Homes k = asks_data k ≡ false
IsAskedBy (Does.Moves p f) k = asks_data k ≡ false
IsAskedBy (Does.Changes n) k = asks_data k ≡ false
IsAskedBy (Does.Frames f) k = asks_data k ≡ false

-- a command asks for the data that what it is planned for needs
abbrev pub IsAsked : Planned → Type 0
IsAsked p = IsAskedBy p.does (kind_of p.command)

-- each command of a plan does
abbrev pub AreAsked : List Planned → Type 0
AreAsked [] = Unit {0}
AreAsked (p ∷ ps) = IsAsked p × AreAsked ps

asked_as : (d e : Does) (k : Kind) → d ≡ e → IsAskedBy e k → IsAskedBy d k
asked_as d e k same h = subst (λ (x : Does). IsAskedBy x k) (sym same) h

one_asked : (k : Know) (c : Command) (d : Does) → FitsOne k c d → IsAskedBy d (kind_of c)
one_asked k Command.StartSession d h = asked_as d Does.Nothing _ h refl
one_asked k Command.EndSession d h = asked_as d Does.Nothing _ h refl
one_asked k Command.ClearAllErrors d h = asked_as d Does.Nothing _ h refl
one_asked k Command.IsHomed d h = asked_as d Does.AsksHomed _ h refl
one_asked k Command.Home d h = asked_as d Does.Homes _ h refl
one_asked k Command.OnPtMeasReport d h = asked_as d Does.Nothing _ h refl
one_asked k (Command.GoTo p) d h = let f : FitsMove k p d = h in asked_as d (Does.Moves p f.frame) _ f.is refl
one_asked k (Command.PtMeas p dir) d h = let f : FitsTouch k p dir d = h in asked_as d (Does.Touches f.touch f.last) _ f.is refl
one_asked k (Command.ChangeTool n) d h = asked_as d (Does.Changes n) _ h refl
one_asked k (Command.SetCsyTransformation p) d h = asked_as d Does.Nothing _ h refl
one_asked k (Command.SetCoordSystem system) d h = let f : FitsFrame k system d = h
    in asked_as d (Does.Frames f.frame) _ f.is refl
one_asked k Command.AbortE d h = absurd h

-- in a plan that fits each does
pub fits_asked : (ps : List Planned) (k : Know) → Fits k ps → AreAsked ps
fits_asked [] k h = tt
fits_asked (p ∷ ps) k h = (one_asked k p.command p.does h.0, fits_asked ps (known_by k p.command) h.1)

-- so does each that is in such a plan
pub asked_at : (xs : List Planned) (p : Planned) (ys : List Planned) → AreAsked (xs ++ p ∷ ys) → IsAsked p
asked_at [] p ys h = h.0
asked_at (x ∷ xs) p ys h = asked_at xs p ys h.1

-- ---- acts for what is planned

-- acts that commands mean, one list after another
pub acts_join : (xs ys : List Act) (ds es : List Does) → AreActs xs ds → AreActs ys es → AreActs (xs ++ ys) (ds ++ es)
acts_join [] ys [] es h g = g
acts_join [] ys (d ∷ ds) es h g = absurd h
acts_join (a ∷ xs) ys [] es h g = absurd h
acts_join (a ∷ xs) ys (d ∷ ds) es h g = (h.0, acts_join xs ys ds es h.1 g)

-- acts that the prefix of commands means
pub first_acts : (xs : List Act) (ds es : List Does) → AreActs xs ds → AreFirstActs xs (ds ++ es)
first_acts [] ds es h = tt
first_acts (a ∷ xs) [] es h = absurd h
first_acts (a ∷ xs) (d ∷ ds) es h = (h.0, first_acts xs ds es h.1)

-- what two plans mean, one after the other
pub planned_more : (ps qs : List Planned) → acts_planned (ps ++ qs) ≡ acts_planned ps ++ acts_planned qs
planned_more [] qs = refl
planned_more (p ∷ ps) qs = ap (λ (l : List Does). act_in p.does ++ l) (planned_more ps qs)
    ∙ sym (append_assoc (act_in p.does) (acts_planned ps) (acts_planned qs))

-- what is counted means what was planned; a touch is counted with its point, an IsHomed with its answer
pub act_stands : (d : Does) (given : Option Datum) → HasDatum d given → AreActs (act_of d given) (act_in d)
act_stands Does.Nothing given h = tt
act_stands Does.AsksHomed None h = absurd h
act_stands Does.AsksHomed (Some (Datum.Point p)) h = absurd h
act_stands Does.AsksHomed (Some (Datum.Homed homed)) h = (tt, tt)
act_stands Does.Homes given h = (tt, tt)
act_stands (Does.Moves p f) given h = ((refl, refl), tt)
act_stands (Does.Changes n) given h = (refl, tt)
act_stands (Does.Frames f) given h = (refl, tt)
act_stands (Does.Touches t last) None h = absurd h
act_stands (Does.Touches t last) (Some (Datum.Homed homed)) h = absurd h
act_stands (Does.Touches t last) (Some (Datum.Point p)) h = ((refl, refl, refl, refl), tt)

-- ---- data that fit

-- a command of this kind is counted with such data: those that it asks for, or none if it asks for none
abbrev pub IsGiven : Kind → Option Datum → Type 0
IsGiven k None = asks_data k ≡ false
IsGiven k (Some d) = fits k d ≡ true

-- the data that a command of this kind was given are those that it asks for
abbrev pub IsFilled : Kind → Stage → Type 0
IsFilled k Stage.Sent = Unit {0}
IsFilled k Stage.Received = Unit {0}
IsFilled k (Stage.Given d) = fits k d ≡ true
IsFilled k Stage.Failed = Unit {0}

-- those of each open command are
abbrev pub AreFilled : List OpenCommand → Type 0
AreFilled [] = Unit {0}
AreFilled (h ∷ hs) = IsFilled h.kind h.stage × AreFilled hs

-- what is counted with data that fit has what it was planned for
pub has_datum : (d : Does) (k : Kind) (given : Option Datum) → IsAskedBy d k → IsGiven k given → HasDatum d given
has_datum (Does.Touches t last) k None asked g = absurd (false≢true (sym (ap asks_data (sym asked) ∙ g)))
has_datum (Does.Touches t last) k (Some (Datum.Point p)) asked g = tt
has_datum (Does.Touches t last) k (Some (Datum.Homed homed)) asked g =
    false≢true (ap (λ (x : Kind). fits x (Datum.Homed homed)) (sym asked) ∙ g)
has_datum Does.AsksHomed k None asked g = absurd (false≢true (sym (ap asks_data (sym asked) ∙ g)))
has_datum Does.AsksHomed k (Some (Datum.Homed homed)) asked g = tt
has_datum Does.AsksHomed k (Some (Datum.Point p)) asked g = false≢true (ap (λ (x : Kind). fits x (Datum.Point p)) (sym asked) ∙ g)
has_datum Does.Nothing k given asked g = tt
has_datum Does.Homes k given asked g = tt
has_datum (Does.Moves p f) k given asked g = tt
has_datum (Does.Changes n) k given asked g = tt
has_datum (Does.Frames f) k given asked g = tt

-- ---- open commands that have not failed

-- no open command has failed
abbrev pub AreCalm : List OpenCommand → Type 0
AreCalm [] = Unit {0}
AreCalm (h ∷ hs) = (is_failed h.stage ≡ false) × AreCalm hs

-- their tags are those of their places in the plan, from this place on
abbrev pub HaveTags : ℕ → List OpenCommand → Type 0
HaveTags place [] = Unit {0}
HaveTags place (h ∷ hs) = (h.tag ≡ tag_at place) × HaveTags (suc place) hs

-- the kinds of open commands
abbrev pub kinds_held : List OpenCommand → List Kind
kinds_held [] = []
kinds_held (h ∷ hs) = h.kind ∷ kinds_held hs

-- the kinds of planned commands
abbrev pub kinds_of : List Planned → List Kind
kinds_of [] = []
kinds_of (p ∷ ps) = kind_of p.command ∷ kinds_of ps

-- a stage that has not failed becomes none that has
data_calm : (b : Bool) (stage : Stage) (p : Datum) (s : Stage) → judged_given b stage p ≡ Becomes s → is_failed s ≡ false
data_calm true Stage.Sent p s e = absurd (cc)
data_calm true Stage.Received p s e = let same : Stage.Given p ≡ s = cc in ap is_failed (sym same)
data_calm true (Stage.Given q) p s e = absurd (cc)
data_calm true Stage.Failed p s e = absurd (cc)
data_calm false stage p s e = absurd (cc)

-- if a command that has not failed goes to another stage, it still has not
pub becomes_calm : (front : Bool) (kind : Kind) (stage : Stage) (m : Mark) (s : Stage) → is_failed stage ≡ false
    → judged front kind stage m ≡ Becomes s → is_failed s ≡ false
becomes_calm front kind stage (Mark.Given p) s calm e = data_calm (front && fits kind p) stage p s e
becomes_calm front kind Stage.Sent Mark.Ack s calm e = let same : Stage.Received ≡ s = cc in ap is_failed (sym same)
becomes_calm front kind Stage.Received Mark.Ack s calm e = absurd (cc)
becomes_calm front kind (Stage.Given q) Mark.Ack s calm e = absurd (cc)
becomes_calm front kind Stage.Failed Mark.Ack s calm e = absurd (false≢true (sym calm))
becomes_calm front kind Stage.Sent Mark.Error s calm e = absurd (cc)
becomes_calm front kind Stage.Received Mark.Error s calm e = absurd (cc)
becomes_calm front kind (Stage.Given q) Mark.Error s calm e = absurd (cc)
becomes_calm front kind Stage.Failed Mark.Error s calm e = absurd (false≢true (sym calm))
becomes_calm front kind stage Mark.Done s calm e = absurd (go front (asks_data kind) stage e)
  where
    go : (f a : Bool) (stage : Stage) → judged_done f a stage ≡ Becomes s → ⊥
    go true true Stage.Sent e = cc
    go true true Stage.Received e = cc
    go true true (Stage.Given q) e = cc
    go true true Stage.Failed e = cc
    go true false Stage.Sent e = cc
    go true false Stage.Received e = cc
    go true false (Stage.Given q) e = cc
    go true false Stage.Failed e = cc
    go false a Stage.Sent e = cc
    go false a Stage.Received e = cc
    go false a (Stage.Given q) e = cc
    go false a Stage.Failed e = cc

-- and closes for nothing
data_closes : (b : Bool) (stage : Stage) (p : Datum) → judged_given b stage p ≡ Closes → ⊥
data_closes true Stage.Sent p e = cc
data_closes true Stage.Received p e = cc
data_closes true (Stage.Given q) p e = cc
data_closes true Stage.Failed p e = cc
data_closes false stage p e = cc

-- a command that has not failed is not closed uncounted
pub no_closes : (front : Bool) (kind : Kind) (stage : Stage) (m : Mark) → is_failed stage ≡ false → judged front kind stage m ≡ Closes → ⊥
no_closes front kind stage (Mark.Given p) calm e = data_closes (front && fits kind p) stage p e
no_closes front kind Stage.Sent Mark.Ack calm e = cc
no_closes front kind Stage.Received Mark.Ack calm e = cc
no_closes front kind (Stage.Given q) Mark.Ack calm e = cc
no_closes front kind Stage.Failed Mark.Ack calm e = cc
no_closes front kind Stage.Sent Mark.Error calm e = cc
no_closes front kind Stage.Received Mark.Error calm e = cc
no_closes front kind (Stage.Given q) Mark.Error calm e = cc
no_closes front kind Stage.Failed Mark.Error calm e = cc
no_closes front kind stage Mark.Done calm e = go front (asks_data kind) stage calm e
  where
    go : (f a : Bool) (stage : Stage) → is_failed stage ≡ false → judged_done f a stage ≡ Closes → ⊥
    go f a Stage.Failed calm e = false≢true (sym calm)
    go true true Stage.Sent calm e = cc
    go true true Stage.Received calm e = cc
    go true true (Stage.Given q) calm e = cc
    go true false Stage.Sent calm e = cc
    go true false Stage.Received calm e = cc
    go true false (Stage.Given q) calm e = cc
    go false a Stage.Sent calm e = cc
    go false a Stage.Received calm e = cc
    go false a (Stage.Given q) calm e = cc

-- after the front nothing is counted
data_counts : (b : Bool) (stage : Stage) (p : Datum) (given : Option Datum) → judged_given b stage p ≡ Counts given → ⊥
data_counts true Stage.Sent p given e = cc
data_counts true Stage.Received p given e = cc
data_counts true (Stage.Given q) p given e = cc
data_counts true Stage.Failed p given e = cc
data_counts false stage p given e = cc

-- after the front no command is counted
pub no_counts : (kind : Kind) (stage : Stage) (m : Mark) (given : Option Datum) → judged false kind stage m ≡ Counts given → ⊥
no_counts kind stage (Mark.Given p) given e = data_counts false stage p given e
no_counts kind Stage.Sent Mark.Ack given e = cc
no_counts kind Stage.Received Mark.Ack given e = cc
no_counts kind (Stage.Given q) Mark.Ack given e = cc
no_counts kind Stage.Failed Mark.Ack given e = cc
no_counts kind Stage.Sent Mark.Error given e = cc
no_counts kind Stage.Received Mark.Error given e = cc
no_counts kind (Stage.Given q) Mark.Error given e = cc
no_counts kind Stage.Failed Mark.Error given e = cc
no_counts kind Stage.Sent Mark.Done given e = cc
no_counts kind Stage.Received Mark.Done given e = cc
no_counts kind (Stage.Given q) Mark.Done given e = cc
no_counts kind Stage.Failed Mark.Done given e = cc

-- data that fit are taken alone
data_fills : (b : Bool) (kind : Kind) (stage : Stage) (p : Datum) (s : Stage) → (b ≡ true → fits kind p ≡ true)
    → judged_given b stage p ≡ Becomes s → IsFilled kind s
data_fills true kind Stage.Sent p s fit e = absurd (cc)
data_fills true kind Stage.Received p s fit e = let same : Stage.Given p ≡ s = cc in subst (IsFilled kind) same (fit refl)
data_fills true kind (Stage.Given q) p s fit e = absurd (cc)
data_fills true kind Stage.Failed p s fit e = absurd (cc)
data_fills false kind stage p s fit e = absurd (cc)

both_hold : (a b : Bool) → (a && b) ≡ true → b ≡ true
both_hold true b e = e
both_hold false b e = absurd (false≢true e)

-- a command that goes to another stage still has data that fit
pub becomes_filled : (front : Bool) (kind : Kind) (stage : Stage) (m : Mark) (s : Stage) → judged front kind stage m ≡ Becomes s
    → IsFilled kind s
becomes_filled front kind stage (Mark.Given p) s e =
    data_fills (front && fits kind p) kind stage p s (both_hold front (fits kind p)) e
becomes_filled front kind Stage.Sent Mark.Ack s e = let same : Stage.Received ≡ s = cc in subst (IsFilled kind) same tt
becomes_filled front kind Stage.Received Mark.Ack s e = absurd (cc)
becomes_filled front kind (Stage.Given q) Mark.Ack s e = absurd (cc)
becomes_filled front kind Stage.Failed Mark.Ack s e = absurd (cc)
becomes_filled front kind Stage.Sent Mark.Error s e = absurd (cc)
becomes_filled front kind Stage.Received Mark.Error s e = absurd (cc)
becomes_filled front kind (Stage.Given q) Mark.Error s e = absurd (cc)
becomes_filled front kind Stage.Failed Mark.Error s e = let same : Stage.Failed ≡ s = cc in subst (IsFilled kind) same tt
becomes_filled front kind stage Mark.Done s e = absurd (go front (asks_data kind) stage e)
  where
    go : (f a : Bool) (stage : Stage) → judged_done f a stage ≡ Becomes s → ⊥
    go true true Stage.Sent e = cc
    go true true Stage.Received e = cc
    go true true (Stage.Given q) e = cc
    go true true Stage.Failed e = cc
    go true false Stage.Sent e = cc
    go true false Stage.Received e = cc
    go true false (Stage.Given q) e = cc
    go true false Stage.Failed e = cc
    go false a Stage.Sent e = cc
    go false a Stage.Received e = cc
    go false a (Stage.Given q) e = cc
    go false a Stage.Failed e = cc

-- a command is counted with the data that it asks for
pub counts_given : (kind : Kind) (stage : Stage) (m : Mark) (given : Option Datum) → IsFilled kind stage
    → judged true kind stage m ≡ Counts given → IsGiven kind given
counts_given kind stage (Mark.Given p) given f e = absurd (data_counts (fits kind p) stage p given e)
counts_given kind Stage.Sent Mark.Ack given f e = absurd (cc)
counts_given kind Stage.Received Mark.Ack given f e = absurd (cc)
counts_given kind (Stage.Given q) Mark.Ack given f e = absurd (cc)
counts_given kind Stage.Failed Mark.Ack given f e = absurd (cc)
counts_given kind Stage.Sent Mark.Error given f e = absurd (cc)
counts_given kind Stage.Received Mark.Error given f e = absurd (cc)
counts_given kind (Stage.Given q) Mark.Error given f e = absurd (cc)
counts_given kind Stage.Failed Mark.Error given f e = absurd (cc)
counts_given kind stage Mark.Done given f e = go (asks_data kind) refl stage f e
  where
    go : (a : Bool) → asks_data kind ≡ a → (stage : Stage) → IsFilled kind stage → judged_done true a stage ≡ Counts given
        → IsGiven kind given
    go a is Stage.Sent f e = absurd (cc)
    go true is Stage.Received f e = absurd (cc)
    go false is Stage.Received f e = let same : None ≡ given = cc in subst (IsGiven kind) same is
    go a is (Stage.Given q) f e = let same : Some q ≡ given = cc in subst (IsGiven kind) same f
    go a is Stage.Failed f e = absurd (cc)
