-- The tasks of an accepted program are its steps, each on the line of the statement that commands it.
use Rattle.program_review.proofs.Names.{[], ◌++◌, ◌∷◌, ◌≡◌, Bool, closes, Command, cond, Context, context_at, continued, Err, false, inl, inr}
use Rattle.program_review.proofs.Names.{is_none, IsCarriedBy, IsOn, judged, keyword_of, List, Meaning, None, offset_of, Ok, Option, Point, program_of}
use Rattle.program_review.proofs.Names.{recall_steps, refl, Refusal, Result, Some, Statement, StatementMeaning, Step, steps_from, steps_of, subst}
use Rattle.program_review.proofs.Names.{Task, task_lines_of, task_on, task_said, TaskLine, text_reading, TextFault, touch_steps, true, with_front, ℕ}
use Rattle.fixed_um.specs.Points.{point_opposite}
use Rattle.fixed_um.specs.Shapes.{Direction}
use Rattle.dme_line.specs.declared.commands.Csy.TheVariants.{PartCsy}
use Rattle.dmis_program.specs.Meaning.{meaning_of}
use Rattle.program_review.specs.UnderSetup.{meaning_with}
use Rattle.program_review.proofs.FirstLemmas.{end_is}
use Rattle.program_review.proofs.StepLemmas.{IsFound, taken_is, meant_is, meant_steps}

-- a statement on this line is carried out by the commands of a step
abbrev pub StepIsOn : List (List ℕ × Point) → List Statement → Step → ℕ → Type 0
StepIsOn frames statements (Step.Goto p) line = IsOn frames statements line (Command.GoTo p)
StepIsOn frames statements (Step.Begin l) line = Unit {0}
StepIsOn frames statements (Step.Touch t) line = IsOn frames statements line (Command.PtMeas t.target t.dir)
StepIsOn frames statements (Step.Tool n) line = IsOn frames statements line (Command.ChangeTool n)
StepIsOn frames statements (Step.Recall p) line = IsOn frames statements line (Command.SetCsyTransformation (point_opposite p))
    × IsOn frames statements line (Command.SetCoordSystem PartCsy)
StepIsOn frames statements Step.End line = Unit {0}

-- the tasks are the steps, but for the bounds of blocks, each on its line
abbrev pub AreTasks : (Step → ℕ → Type 0) → List Step → List TaskLine → Type 0
AreTasks on [] [] = Unit {0}
AreTasks on [] (t ∷ ts) = ⊥
AreTasks on (Step.Goto p ∷ ss) [] = ⊥
AreTasks on (Step.Goto p ∷ ss) (t ∷ ts) = (t.task ≡ Task.Move) × (on (Step.Goto p) t.line × AreTasks on ss ts)
AreTasks on (Step.Begin l ∷ ss) ts = AreTasks on ss ts
AreTasks on (Step.Touch x ∷ ss) [] = ⊥
AreTasks on (Step.Touch x ∷ ss) (t ∷ ts) = (t.task ≡ Task.Touch) × (on (Step.Touch x) t.line × AreTasks on ss ts)
AreTasks on (Step.Tool n ∷ ss) [] = ⊥
AreTasks on (Step.Tool n ∷ ss) (t ∷ ts) = (t.task ≡ Task.Tool) × (on (Step.Tool n) t.line × AreTasks on ss ts)
AreTasks on (Step.Recall p ∷ ss) [] = ⊥
AreTasks on (Step.Recall p ∷ ss) (t ∷ ts) = (t.task ≡ Task.Frame) × (on (Step.Recall p) t.line × AreTasks on ss ts)
AreTasks on (Step.End ∷ ss) ts = AreTasks on ss ts

-- with one statement more they still are
step_stays : (frames : List (List ℕ × Point)) (s : Statement) (statements : List Statement) (one : Step) (line : ℕ)
    → StepIsOn frames statements one line → StepIsOn frames (s ∷ statements) one line
step_stays frames s statements (Step.Begin l) line h = tt
step_stays frames s statements (Step.Recall p) line h = (inr h.0, inr h.1)
step_stays frames s statements Step.End line h = tt
step_stays frames s statements one line h = inr h

tasks_stay : (frames : List (List ℕ × Point)) (s : Statement) (statements : List Statement) (ss : List Step) (ts : List TaskLine)
    → AreTasks (StepIsOn frames statements) ss ts → AreTasks (StepIsOn frames (s ∷ statements)) ss ts
tasks_stay frames s statements [] [] h = tt
tasks_stay frames s statements [] (t ∷ ts) h = absurd h
tasks_stay frames s statements (Step.Begin l ∷ ss) ts h = tasks_stay frames s statements ss ts h
tasks_stay frames s statements (Step.End ∷ ss) ts h = tasks_stay frames s statements ss ts h
tasks_stay frames s statements (one ∷ ss) [] h = absurd h
tasks_stay frames s statements (one ∷ ss) (t ∷ ts) h =
    (h.0, (step_stays frames s statements one t.line h.1.0, tasks_stay frames s statements ss ts h.1.1))

-- the task of an accepted statement is its step
carried : (frames : List (List ℕ × Point)) (s : Statement) (statements : List Statement) (m : StatementMeaning) (c : Command)
    → meaning_with (keyword_of s.word) s ≡ Some m → IsCarriedBy frames (Some m) c → IsOn frames (s ∷ statements) s.line c
carried frames s statements m c is h = inl (refl, rw is h)

touch_task : (frames : List (List ℕ × Point)) (s : Statement) (statements : List Statement) (tool : Option (List ℕ)) (c : Context)
    (target : Point) (direction : Option Direction) (later : List Step) (ts : List TaskLine) → is_none tool ≡ false
    → meaning_with (keyword_of s.word) s ≡ Some (StatementMeaning.Touches target direction)
    → AreTasks (StepIsOn frames (s ∷ statements)) later ts
    → AreTasks (StepIsOn frames (s ∷ statements)) (touch_steps tool c.frame target direction ++ later)
    (record { task = Task.Touch; line = s.line } ∷ ts)
touch_task frames s statements None c target direction later ts found is h = absurd cc
touch_task frames s statements (Some tool) c target direction later ts found is h =
    (refl, (carried frames s statements (StatementMeaning.Touches target direction) _ is refl, h))

recall_task : (frames : List (List ℕ × Point)) (s : Statement) (statements : List Statement) (name : List ℕ) (offset : Option Point)
    (later : List Step) (ts : List TaskLine) → offset_of frames name ≡ offset → is_none offset ≡ false
    → meaning_with (keyword_of s.word) s ≡ Some (StatementMeaning.Recalls name)
    → AreTasks (StepIsOn frames (s ∷ statements)) later ts
    → AreTasks (StepIsOn frames (s ∷ statements)) (recall_steps offset ++ later) (record { task = Task.Frame; line = s.line } ∷ ts)
recall_task frames s statements name None later ts stored found is h = absurd cc
recall_task frames s statements name (Some offset) later ts stored found is h = (
  refl,
  (
    (
      carried frames s statements (StatementMeaning.Recalls name) _ is (offset, stored, inl refl),
      carried frames s statements (StatementMeaning.Recalls name) _ is (offset, stored, inr refl),
    ),
    h,
  ),
)

own_tasks : (frames : List (List ℕ × Point)) (c : Context) (s : Statement) (statements : List Statement) (m : StatementMeaning)
    (later : List Step) (ts : List TaskLine) → IsFound frames c.tool m → meaning_with (keyword_of s.word) s ≡ Some m
    → AreTasks (StepIsOn frames (s ∷ statements)) later ts
    → AreTasks (StepIsOn frames (s ∷ statements)) (steps_of frames c m ++ later) (task_on s.line (task_said (Some m)) ++ ts)
own_tasks frames c s statements (StatementMeaning.Goes target) later ts found is h =
    (refl, (carried frames s statements (StatementMeaning.Goes target) _ is refl, h))
own_tasks frames c s statements (StatementMeaning.Touches target direction) later ts found is h =
    touch_task frames s statements c.tool c target direction later ts found is h
own_tasks frames c s statements (StatementMeaning.Selects name) later ts found is h =
    (refl, (carried frames s statements (StatementMeaning.Selects name) _ is refl, h))
own_tasks frames c s statements (StatementMeaning.Recalls name) later ts found is h =
    recall_task frames s statements name (offset_of frames name) later ts refl found is h
own_tasks frames c s statements m later ts found is h = h

-- one statement, and those after it
goes_on : (on : Step → ℕ → Type 0) (closed : Bool) (own : List Step) (behind : Result (List Step) (Refusal × ℕ)) (steps : List Step)
    (what more : List TaskLine) → cond closed (Ok []) (with_front own behind) ≡ Ok steps
    → ((later : List Step) → behind ≡ Ok later → AreTasks on (own ++ later) (what ++ more))
    → AreTasks on steps (cond closed [] (what ++ more))
goes_on on true own behind steps what more h f =
    let none : [] ≡ steps = cc in
    subst (λ (all : List Step). AreTasks on all []) none tt
goes_on on false own (Ok later) steps what more h f =
    let all : own ++ later ≡ steps = cc in
    subst (λ (some : List Step). AreTasks on some (what ++ more)) all (f later refl)
goes_on on false own (Err e) steps what more h f = absurd cc

abbrev Agrees : List (List ℕ × Point) → Option TextFault → ℕ → List Statement → List Statement → Type 0
Agrees frames fault n statements above = (steps : List Step) → steps_from frames fault n above statements ≡ Ok steps
    → AreTasks (StepIsOn frames statements) steps (task_lines_of statements)

by_judgement : (frames : List (List ℕ × Point)) (fault : Option TextFault) (n : ℕ) (s : Statement) (statements above : List Statement)
    (steps : List Step) (r : Result StatementMeaning Refusal) → Agrees frames fault n statements (s ∷ above)
    → judged frames (context_at frames above) s ≡ r
    → continued s.line r (steps_of frames (context_at frames above)) (steps_from frames fault n (s ∷ above) statements) ≡ Ok steps
    → AreTasks (StepIsOn frames (s ∷ statements)) steps (task_lines_of (s ∷ statements))
by_judgement frames fault n s statements above steps (Err e) rest is h = absurd cc
by_judgement frames fault n s statements above steps (Ok m) rest is h =
    let taken = taken_is frames (context_at frames above) s m is in
    let meant : meaning_with (keyword_of s.word) s ≡ Some m = meant_is (keyword_of s.word) s m taken.said taken.known taken.read in
    let ends = end_is s m taken.said in
    let later_tasks = λ (later : List Step) (e : steps_from frames fault n (s ∷ above) statements ≡ Ok later).
    own_tasks frames (context_at frames above) s statements m later (task_lines_of statements) taken.found meant
    (tasks_stay frames s statements later (task_lines_of statements) (rest later e)) in
    rw (ends, meant)
    (goes_on (StepIsOn frames (s ∷ statements)) (closes m) (steps_of frames (context_at frames above) m)
    (steps_from frames fault n (s ∷ above) statements) steps (task_on s.line (task_said (Some m))) (task_lines_of statements) h later_tasks)

agrees : (frames : List (List ℕ × Point)) (fault : Option TextFault) (n : ℕ) (statements above : List Statement)
    → Agrees frames fault n statements above
agrees frames fault n [] above steps h = absurd cc
agrees frames fault n (s ∷ statements) above steps h =
    by_judgement frames fault n s statements above steps (judged frames (context_at frames above) s)
    (agrees frames fault n statements (s ∷ above)) refl h

pub tasks_are_steps : (frames : List (List ℕ × Point)) (text : List ℕ) (m : Meaning) → program_of frames text ≡ Ok m
    → AreTasks (StepIsOn frames (text_reading text).statements) m.steps (task_lines_of (text_reading text).statements)
unfolding meaning_of
tasks_are_steps frames text m h =
    agrees frames (text_reading text).fault _ (text_reading text).statements [] m.steps (meant_steps _ m h)
