-- An accepted program keeps its shape, and recalls stored frames alone.
use Rattle.dmis_program.proofs.Names.{[], ◌++◌, ◌∙◌, ◌∷◌, ◌≡◌, AllByRecursion, ap, AreInVolume, Bool, closes, cond, context_at, continued, Direction}
use Rattle.dmis_program.proofs.Names.{Err, false, Frame, frame_at, frame_said, FrameIsStored, IfOk, IsProgram, judged, length, lines, List, Meaning}
use Rattle.dmis_program.proofs.Names.{meant, nearest, next, no_statement, None, offset_of, Ok, Option, part_at, Point, program_of, ReaderState}
use Rattle.dmis_program.proofs.Names.{recall_steps, refl, Refusal, Result, Some, Statement, StatementMeaning, Step, StepIsStored, steps_from}
use Rattle.dmis_program.proofs.Names.{steps_of, text_reading, TextFault, touch_steps, true, with_front, ℕ}
use Rattle.dmis_program.specs.Meaning.{meaning_of}
use Rattle.dmis_program.proofs.CarryingRuns.{ran, run}
use Rattle.dmis_program.proofs.Sound.{IsSound}
use Rattle.dmis_program.proofs.SoundLemmas.{sound_at_start}
use Rattle.dmis_program.proofs.CarryingLemmas.{keeps_sound, starts}

-- what a run gives is a program
ran_program : (frames : List (List ℕ × Point)) (c : ReaderState) (s : Statement) (r : Result (Bool × ReaderState) Refusal)
    (behind : ReaderState
    → Result Meaning (Refusal × ℕ)) → AreInVolume frames → next frames c s ≡ r → IsSound c
    → ((d : ReaderState) → IsSound d → IfOk (behind d) IsProgram) → IfOk (ran s.line r behind) IsProgram
ran_program frames c s (Err refusal) behind volume e sound h = tt
ran_program frames c s (Ok (true, d)) behind volume e sound h = (keeps_sound frames c s true d volume sound e).program refl
ran_program frames c s (Ok (false, d)) behind volume e sound h = h d (keeps_sound frames c s false d volume sound e).sound

run_program : (frames : List (List ℕ × Point)) (fault : Option TextFault) (n : ℕ) (statements : List Statement) (c : ReaderState)
    → AreInVolume frames → IsSound c → IfOk (run frames fault n statements c) IsProgram
run_program frames fault n [] c volume sound = tt
run_program frames fault n (s ∷ statements) c volume sound =
    ran_program frames c s (next frames c s) (run frames fault n statements) volume refl sound
    (λ d h. run_program frames fault n statements d volume h)

pub program_shape : (frames : List (List ℕ × Point)) (text : List ℕ) (m : Meaning) → AreInVolume frames → program_of frames text ≡ Ok m
    → IsProgram m
program_shape frames text m volume e =
    let given = run_program frames (text_reading text).fault (length (lines text)) (text_reading text).statements no_statement volume
    sound_at_start in
    let same = starts frames text (text_reading text).statements (text_reading text).fault (length (lines text)) no_statement volume refl
    refl refl refl ∙ e in
    rw same at given

-- a stored frame or the machine's
part_stored : (frames : List (List ℕ × Point)) (name : List ℕ) (o : Option Point) → offset_of frames name ≡ o
    → FrameIsStored frames (part_at o)
part_stored frames name None e = tt
part_stored frames name (Some offset) e = (name, e)

frame_stored : (frames : List (List ℕ × Point)) (o : Option (List ℕ)) → FrameIsStored frames (frame_at frames o)
frame_stored frames None = tt
frame_stored frames (Some name) = part_stored frames name (offset_of frames name) refl

touch_stored : (frames : List (List ℕ × Point)) (tool : Option (List ℕ)) (frame : Frame) (target : Point) (direction : Option Direction)
    → FrameIsStored frames frame → AllByRecursion (StepIsStored frames) (touch_steps tool frame target direction)
touch_stored frames None frame target direction h = tt
touch_stored frames (Some tool) frame target direction h = (h, tt)

recall_stored : (frames : List (List ℕ × Point)) (name : List ℕ) (o : Option Point) → offset_of frames name ≡ o
    → AllByRecursion (StepIsStored frames) (recall_steps o)
recall_stored frames name None e = tt
recall_stored frames name (Some offset) e = ((name, e), tt)

steps_stored : (frames : List (List ℕ × Point)) (above : List Statement) (s : StatementMeaning)
    → AllByRecursion (StepIsStored frames) (steps_of frames (context_at frames above) s)
steps_stored frames above (StatementMeaning.Goes target) = (tt, tt)
steps_stored frames above (StatementMeaning.Begins name count) = (tt, tt)
steps_stored frames above (StatementMeaning.Touches target direction) =
    touch_stored frames (context_at frames above).tool (context_at frames above).frame target direction
    (frame_stored frames (nearest frame_said above))
steps_stored frames above StatementMeaning.Ends = (tt, tt)
steps_stored frames above (StatementMeaning.Selects name) = (tt, tt)
steps_stored frames above (StatementMeaning.Recalls name) = recall_stored frames name (offset_of frames name) refl
steps_stored frames above StatementMeaning.Closes = tt
steps_stored frames above StatementMeaning.Passes = tt

all_joined : (frames : List (List ℕ × Point)) (front more : List Step) → AllByRecursion (StepIsStored frames) front
    → AllByRecursion (StepIsStored frames) more → AllByRecursion (StepIsStored frames) (front ++ more)
all_joined frames [] more h g = g
all_joined frames (step ∷ front) more h g = (h.0, all_joined frames front more h.1 g)

front_stored : (frames : List (List ℕ × Point)) (front : List Step) (r : Result (List Step) (Refusal × ℕ))
    → AllByRecursion (StepIsStored frames) front → IfOk r (AllByRecursion (StepIsStored frames))
    → IfOk (with_front front r) (AllByRecursion (StepIsStored frames))
front_stored frames front (Ok more) h g = all_joined frames front more h g
front_stored frames front (Err e) h g = tt

unless_closed : (frames : List (List ℕ × Point)) (b : Bool) (r : Result (List Step) (Refusal × ℕ))
    → IfOk r (AllByRecursion (StepIsStored frames)) → IfOk (cond b (Ok []) r) (AllByRecursion (StepIsStored frames))
unless_closed frames true r h = tt
unless_closed frames false r h = h

continued_stored : (frames : List (List ℕ × Point)) (above : List Statement) (line : ℕ) (r : Result StatementMeaning Refusal)
    (behind : Result (List Step) (Refusal × ℕ)) → IfOk behind (AllByRecursion (StepIsStored frames))
    → IfOk (continued line r (steps_of frames (context_at frames above)) behind) (AllByRecursion (StepIsStored frames))
continued_stored frames above line (Err refusal) behind h = tt
continued_stored frames above line (Ok s) behind h = unless_closed frames (closes s)
    (with_front (steps_of frames (context_at frames above) s) behind)
    (front_stored frames (steps_of frames (context_at frames above) s) behind (steps_stored frames above s) h)

all_stored : (frames : List (List ℕ × Point)) (fault : Option TextFault) (n : ℕ) (above statements : List Statement)
    → IfOk (steps_from frames fault n above statements) (AllByRecursion (StepIsStored frames))
all_stored frames fault n above [] = tt
all_stored frames fault n above (s ∷ statements) = continued_stored frames above s.line (judged frames (context_at frames above) s)
    (steps_from frames fault n (s ∷ above) statements) (all_stored frames fault n (s ∷ above) statements)

same_meaning : {m k : Meaning} → ◌≡◌ {A = Result Meaning (Refusal × ℕ)} (Ok m) (Ok k) → m ≡ k
same_meaning e = cc

meant_stored : (frames : List (List ℕ × Point)) (r : Result (List Step) (Refusal × ℕ)) (m : Meaning)
    → IfOk r (AllByRecursion (StepIsStored frames)) → meant r ≡ Ok m → AllByRecursion (StepIsStored frames) m.steps
meant_stored frames (Ok steps) m h e = rw (ap (λ (k : Meaning). k.steps) (same_meaning e)) at h
meant_stored frames (Err f) m h e = absurd cc

pub program_stored : (frames : List (List ℕ × Point)) (text : List ℕ) (m : Meaning) → program_of frames text ≡ Ok m
    → AllByRecursion (StepIsStored frames) m.steps
unfolding meaning_of
program_stored frames text m e = meant_stored frames (steps_from frames (text_reading text).fault (length (lines text)) []
    (text_reading text).statements) m (all_stored frames (text_reading text).fault (length (lines text)) [] (text_reading text).statements)
    e
