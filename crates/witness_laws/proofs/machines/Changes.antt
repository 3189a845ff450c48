-- The last line above that may change a tool, a frame or a zero point.
use Rattle.witness_laws.proofs.Names.{◌<◌, ◌==◌, ◌∙◌, ◌∷◌, ◌≡◌, [], Answers, ap, arith, Bool, Command, count_sent, Csy, csy_after, false, Frame}
use Rattle.witness_laws.proofs.Names.{if◌then◌else◌, last_csy, last_part, last_tool, last_zero, List, Machine, MachineCsy, None, Option, PartCsy}
use Rattle.witness_laws.proofs.Names.{place, Point, point_opposite, refl, Sends, Sent, SentCommand, Signal, Some, subst, suc, sym, Tag, tool_after}
use Rattle.witness_laws.proofs.Names.{true, zero_after, ℕ}
use Rattle.witness.specs.Asking.{Line}
use Rattle.witness.specs.Rules.{unless_part}
use Rattle.witness_laws.specs.Machines.{TakesTool, SelectsFrame, StoresZero, sent_at}
use Rattle.witness_laws.specs.Premises.{line_may}
use Rattle.witness_laws.proofs.machines.Places.{sent_within, IsLine, line_stays, line_begins}

-- it is a line above, asks for this, and no line below it may change it
abbrev pub IsLast : {A : Type 0} → (A → SentCommand → Type 0) → (A → Option (Tag × SentCommand) → Bool) → List Line → Option (A × Sent) → Type 0
IsLast asks may h None = Unit {0}
IsLast asks may h (Some (a, s)) = IsLine s h × asks a s.command
    × ((n : ℕ) (w : Option (Tag × SentCommand)) → place s < n → sent_at n h ≡ Some w → may a w ≡ false)

abbrev some_of : Option (Option (Tag × SentCommand)) → Option (Tag × SentCommand)
some_of None = None
some_of (Some x) = x

-- one more line, which may not
quiet_more : (may : Option (Tag × SentCommand) → Bool) (k : ℕ) (line : List ℕ) (what : Option (Tag × SentCommand)) (h : List Line) → may what ≡ false
    → ((n : ℕ) (w : Option (Tag × SentCommand)) → k < n → sent_at n h ≡ Some w → may w ≡ false)
    → (n : ℕ) (w : Option (Tag × SentCommand)) → k < n → sent_at n (Sends line what ∷ h) ≡ Some w → may w ≡ false
quiet_more may k line what h none rest n w lt e = go (n == count_sent h) e
  where
    go : (b : Bool) → (if b then Some what else sent_at n h) ≡ Some w → may w ≡ false
    go true f = ap may (sym (ap some_of f)) ∙ none
    go false f = rest n w lt f

pub last_stays : {A : Type 0} (asks : A → SentCommand → Type 0) (may : A → Option (Tag × SentCommand) → Bool) (line : List ℕ)
    (what : Option (Tag × SentCommand)) (h : List Line) (o : Option (A × Sent)) → ((a : A) → may a what ≡ false)
    → IsLast asks may h o → IsLast asks may (Sends line what ∷ h) o
last_stays asks may line what h None none is = tt
last_stays asks may line what h (Some (a, s)) none is =
    (line_stays s (Sends line what) h is.0, is.1, quiet_more (may a) (place s) line what h (none a) is.2)

pub last_answered : {A : Type 0} (asks : A → SentCommand → Type 0) (may : A → Option (Tag × SentCommand) → Bool)
    (x : Line) (h : List Line) (o : Option (A × Sent)) → ((n : ℕ) → sent_at n (x ∷ h) ≡ sent_at n h)
    → IsLast asks may h o → IsLast asks may (x ∷ h) o
last_answered asks may x h None same is = tt
last_answered asks may x h (Some (a, s)) same is =
    (line_stays s x h is.0, is.1, λ n w lt e. is.2 n w lt (sym (same n) ∙ e))

-- this line itself
pub last_begins : {A : Type 0} (asks : A → SentCommand → Type 0) (may : A → Option (Tag × SentCommand) → Bool) (line : List ℕ)
    (tag : Tag) (c : SentCommand) (h : List Line) (a : A) → asks a c
    → IsLast asks may (Sends line (Some (tag, c)) ∷ h) (Some (a, record { above = h; tag = tag; command = c }))
last_begins asks may line tag c h a asked = (line_begins line tag c h, asked, λ n w lt e. absurd (none n w lt e))
  where
    none : (n : ℕ) (w : Option (Tag × SentCommand)) → count_sent h < n → sent_at n (Sends line (Some (tag, c)) ∷ h) ≡ Some w → ⊥
    none n w lt e =
        let within : n < suc (count_sent h) = sent_within n w (Sends line (Some (tag, c)) ∷ h) e in
        omega (arith, lt, within)

-- ---- the tool

abbrev pub AsksTool : List ℕ → SentCommand → Type 0
AsksTool tool c = c ≡ SentCommand.Known (Command.ChangeTool tool)

abbrev pub may_take : {A : Type 0} → A → Option (Tag × SentCommand) → Bool
may_take a w = line_may (TakesTool None) None w

abbrev IsTool : List Line → Option (List ℕ × Sent) → Type 0
IsTool h o = IsLast AsksTool may_take h o

tool_command : (line : List ℕ) (tag : Tag) (h : List Line) (c : Command) (o : Option (List ℕ × Sent)) → IsTool h o
    → IsTool (Sends line (Some (tag, SentCommand.Known c)) ∷ h)
    (tool_after (record { above = h; tag = tag; command = SentCommand.Known c }) c o)
tool_command line tag h Command.StartSession o is = tt
tool_command line tag h Command.EndSession o is = tt
tool_command line tag h Command.Home o is = tt
tool_command line tag h (Command.ChangeTool tool) o is =
    last_begins AsksTool may_take line tag (SentCommand.Known (Command.ChangeTool tool)) h tool refl
tool_command line tag h c o is = last_stays AsksTool may_take line (Some (tag, SentCommand.Known c)) h o (λ a. refl) is

pub tool_is : (h : List Line) → IsTool h (last_tool h)
tool_is [] = tt
tool_is (Sends line None ∷ h) = tt
tool_is (Sends line (Some (tag, SentCommand.Known c)) ∷ h) = tool_command line tag h c (last_tool h) (tool_is h)
tool_is (Sends line (Some (tag, SentCommand.Asking)) ∷ h) =
    last_stays AsksTool may_take line (Some (tag, SentCommand.Asking)) h (last_tool h) (λ a. refl) (tool_is h)
tool_is (Sends line (Some (tag, SentCommand.Foreign x)) ∷ h) = tt
tool_is (Answers line what ∷ h) = last_answered AsksTool may_take (Answers line what) h (last_tool h) (λ n. refl) (tool_is h)

-- ---- the coordinate system

abbrev pub AsksCsy : Csy → SentCommand → Type 0
AsksCsy csy c = c ≡ SentCommand.Known (Command.SetCoordSystem csy)

-- the frame in which a zero point that is stored selects none
abbrev pub frame_of_csy : Csy → Option Frame
frame_of_csy MachineCsy = Some Machine
frame_of_csy PartCsy = None

abbrev pub may_select : Csy → Option (Tag × SentCommand) → Bool
may_select csy w = line_may (SelectsFrame None) (frame_of_csy csy) w

abbrev IsCsy : List Line → Option (Csy × Sent) → Type 0
IsCsy h o = IsLast AsksCsy may_select h o

csy_zero : (line : List ℕ) (tag : Tag) (p : Point) (h : List Line) (o : Option (Csy × Sent)) → IsCsy h o
    → IsCsy (Sends line (Some (tag, SentCommand.Known (Command.SetCsyTransformation p))) ∷ h) (unless_part o)
csy_zero line tag p h None is = tt
csy_zero line tag p h (Some (PartCsy, s)) is = tt
csy_zero line tag p h (Some (MachineCsy, s)) is = (
  line_stays s (Sends line (Some (tag, SentCommand.Known (Command.SetCsyTransformation p)))) h is.0,
  is.1,
  quiet_more (may_select MachineCsy) (place s) line (Some (tag, SentCommand.Known (Command.SetCsyTransformation p))) h refl is.2,
)

csy_command : (line : List ℕ) (tag : Tag) (h : List Line) (c : Command) (o : Option (Csy × Sent)) → IsCsy h o
    → IsCsy (Sends line (Some (tag, SentCommand.Known c)) ∷ h)
    (csy_after (record { above = h; tag = tag; command = SentCommand.Known c }) c o)
csy_command line tag h Command.StartSession o is = tt
csy_command line tag h Command.EndSession o is = tt
csy_command line tag h (Command.SetCsyTransformation p) o is = csy_zero line tag p h o is
csy_command line tag h (Command.SetCoordSystem csy) o is =
    last_begins AsksCsy may_select line tag (SentCommand.Known (Command.SetCoordSystem csy)) h csy refl
csy_command line tag h c o is = last_stays AsksCsy may_select line (Some (tag, SentCommand.Known c)) h o (λ a. refl) is

pub csy_is : (h : List Line) → IsCsy h (last_csy h)
csy_is [] = tt
csy_is (Sends line None ∷ h) = tt
csy_is (Sends line (Some (tag, SentCommand.Known c)) ∷ h) = csy_command line tag h c (last_csy h) (csy_is h)
csy_is (Sends line (Some (tag, SentCommand.Asking)) ∷ h) =
    last_stays AsksCsy may_select line (Some (tag, SentCommand.Asking)) h (last_csy h) (λ a. refl) (csy_is h)
csy_is (Sends line (Some (tag, SentCommand.Foreign x)) ∷ h) = tt
csy_is (Answers line what ∷ h) = last_answered AsksCsy may_select (Answers line what) h (last_csy h) (λ n. refl) (csy_is h)

-- ---- the zero point

abbrev pub AsksZero : Point → SentCommand → Type 0
AsksZero at c = (p : Point) × (c ≡ SentCommand.Known (Command.SetCsyTransformation p)) × (at ≡ point_opposite p)

abbrev pub may_store : {A : Type 0} → A → Option (Tag × SentCommand) → Bool
may_store a w = line_may (StoresZero None) None w

abbrev IsZero : List Line → Option (Point × Sent) → Type 0
IsZero h o = IsLast AsksZero may_store h o

zero_command : (line : List ℕ) (tag : Tag) (h : List Line) (c : Command) (o : Option (Point × Sent)) → IsZero h o
    → IsZero (Sends line (Some (tag, SentCommand.Known c)) ∷ h)
    (zero_after (record { above = h; tag = tag; command = SentCommand.Known c }) c o)
zero_command line tag h Command.StartSession o is = tt
zero_command line tag h Command.EndSession o is = tt
zero_command line tag h (Command.SetCsyTransformation p) o is =
    last_begins AsksZero may_store line tag (SentCommand.Known (Command.SetCsyTransformation p)) h (point_opposite p) (p, refl, refl)
zero_command line tag h c o is = last_stays AsksZero may_store line (Some (tag, SentCommand.Known c)) h o (λ a. refl) is

pub zero_is : (h : List Line) → IsZero h (last_zero h)
zero_is [] = tt
zero_is (Sends line None ∷ h) = tt
zero_is (Sends line (Some (tag, SentCommand.Known c)) ∷ h) = zero_command line tag h c (last_zero h) (zero_is h)
zero_is (Sends line (Some (tag, SentCommand.Asking)) ∷ h) =
    last_stays AsksZero may_store line (Some (tag, SentCommand.Asking)) h (last_zero h) (λ a. refl) (zero_is h)
zero_is (Sends line (Some (tag, SentCommand.Foreign x)) ∷ h) = tt
zero_is (Answers line what ∷ h) = last_answered AsksZero may_store (Answers line what) h (last_zero h) (λ n. refl) (zero_is h)

-- that of a part's frame is the last above the line that selects it

abbrev IsPart : List Line → Option (Csy × Sent) → Type 0
IsPart h None = Unit {0}
IsPart h (Some (csy, s)) = last_part h ≡ last_zero s.above

part_zero : (line : List ℕ) (tag : Tag) (p : Point) (h : List Line) (o : Option (Csy × Sent)) → IsPart h o
    → IsPart (Sends line (Some (tag, SentCommand.Known (Command.SetCsyTransformation p))) ∷ h) (unless_part o)
part_zero line tag p h None is = tt
part_zero line tag p h (Some (PartCsy, s)) is = tt
part_zero line tag p h (Some (MachineCsy, s)) is = is

part_stays : (line : List ℕ) (what : Option (Tag × SentCommand)) (h : List Line) (o : Option (Csy × Sent))
    → last_part (Sends line what ∷ h) ≡ last_part h → IsPart h o → IsPart (Sends line what ∷ h) o
part_stays line what h None same is = tt
part_stays line what h (Some (csy, s)) same is = same ∙ is

part_command : (line : List ℕ) (tag : Tag) (h : List Line) (c : Command) (o : Option (Csy × Sent)) → IsPart h o
    → IsPart (Sends line (Some (tag, SentCommand.Known c)) ∷ h)
    (csy_after (record { above = h; tag = tag; command = SentCommand.Known c }) c o)
part_command line tag h Command.StartSession o is = tt
part_command line tag h Command.EndSession o is = tt
part_command line tag h (Command.SetCsyTransformation p) o is = part_zero line tag p h o is
part_command line tag h (Command.SetCoordSystem csy) o is = refl
part_command line tag h c o is = part_stays line (Some (tag, SentCommand.Known c)) h o refl is

answered_part : (line : List ℕ) (what : Option (Tag × Signal)) (h : List Line) (o : Option (Csy × Sent)) → IsPart h o → IsPart (Answers line what ∷ h) o
answered_part line what h None is = tt
answered_part line what h (Some (csy, s)) is = is

pub part_is : (h : List Line) → IsPart h (last_csy h)
part_is [] = tt
part_is (Sends line None ∷ h) = tt
part_is (Sends line (Some (tag, SentCommand.Known c)) ∷ h) = part_command line tag h c (last_csy h) (part_is h)
part_is (Sends line (Some (tag, SentCommand.Asking)) ∷ h) = part_stays line (Some (tag, SentCommand.Asking)) h (last_csy h) refl (part_is h)
part_is (Sends line (Some (tag, SentCommand.Foreign x)) ∷ h) = tt
part_is (Answers line what ∷ h) = answered_part line what h (last_csy h) (part_is h)

pub part_last : (csy : Csy) (s : Sent) (h : List Line) → last_csy h ≡ Some (csy, s) → last_part h ≡ last_zero s.above
part_last csy s h e = subst (IsPart h) e (part_is h)
