-- What the code gives at each end of a text.
use Rattle.program_lowering.proofs.Names.{[], ◌∙◌, ◌≡◌, ap, AreLines, Carried, Choices, ended_lines, Err, false, fault_at, flat_lines}
use Rattle.program_lowering.proofs.Names.{GivesLines, GivesStep, kept, length, lines, List, lowered_meaning, meaning_with, meant}
use Rattle.program_lowering.proofs.Names.{notes_from, nothing_carried, Ok, Option, Point, refl, Refusal, refused_at, Result, Statement}
use Rattle.program_lowering.proofs.Names.{Step, sym, text_reading, TextFault, true, ℕ}
use Rattle.dmis_program.specs.Meaning.{ended, meaning_of}
use Rattle.dmis_program.specs.declared.faults.ProgramFault.{ProgramFault}
use Rattle.dmis_program.specs.declared.faults.ProgramFault.TheVariants as program
use Rattle.std.specs.Prelude.{IfErr}
use Rattle.program_lowering.proofs.Names.{IfOk}
use Rattle.dmis_program.specs.declared.faults.StatementFault.{StatementFault}
use Rattle.dmis_program.specs.declared.faults.StatementFault.TheVariants as faults
use Rattle.program_lowering.proofs.RunLemmas.{run_from_start, with_texts}
use Rattle.program_lowering.proofs.Runs.{Written, run, steps_up_to}
use Rattle.program_lowering.specs.declared.lowering.Lowered.{Lowered}
use Rattle.program_lowering.specs.Inches.{all_stated}
use Rattle.program_lowering.specs.Prompts.{Answer}
use Rattle.program_lowering.proofs.Names.{◌++◌, ◌∷◌}
use Rattle.program_lowering.specs.Carried.{KnowsAll, Seen, all_steps, frames_closed, seen_by, touches_due}
use Rattle.program_lowering.specs.Cartesian.{all_cartesian, cartesian, reference_after}
use Rattle.program_lowering.specs.declared.cartesian.Reference.{Reference}
use Rattle.program_lowering.specs.EvenTouches.{touched_from}
use Rattle.program_lowering.specs.Valued.{all_valued, valued}
use Rattle.program_lowering.specs.declared.values.Values.{Values}
use Rattle.program_flow.specs.Flow.{carried}
use Rattle.program_lowering.proofs.EvenLemmas.{AllOn, Sees, due_on, run_through, sees_after, touched_next}
use Rattle.program_lowering.specs.Lowering.{kept_passes, prepared}
use Rattle.program_lowering.specs.StoredFrames.{frame_notes, if_stored}

-- all of a text
abbrev pub run_of : List (List ℕ × Point) → Choices → List Answer → List ℕ → Result Written (Refusal × ℕ)
run_of frames choices answers text = run frames choices (text_reading text).fault (length (lines text)) (prepared choices answers text) nothing_carried

record HasTexts (r : Result (List Step) (Refusal × ℕ)) (text notes about : List ℕ) (w : Written) : Type 0 where
  steps : List Step
  is : r ≡ Ok steps
  text_is : w.text ≡ text
  notes_are : w.notes ≡ notes
  frames_are : w.frames ≡ about

has_texts : (r : Result (List Step) (Refusal × ℕ)) (text notes about : List ℕ) (w : Written) → with_texts r text notes about ≡ Ok w
    → HasTexts r text notes about w
has_texts (Ok steps) text notes about w h =
    let same : record { text = text; notes = notes; frames = about } ≡ w = cc in
    record {
      steps = steps;
      is = refl;
      text_is = ap (λ (v : Written). v.text) (sym same);
      notes_are = ap (λ (v : Written). v.notes) (sym same);
      frames_are = ap (λ (v : Written). v.frames) (sym same);
    }
has_texts (Err e) text notes about w h = absurd cc

has_refusal : (r : Result (List Step) (Refusal × ℕ)) (text notes about : List ℕ) (e : Refusal × ℕ) → with_texts r text notes about ≡ Err e
    → meant r ≡ Err e
has_refusal (Ok steps) text notes about e h = absurd cc
has_refusal (Err refusal) text notes about e h = cc

pub written_of : (frames : List (List ℕ × Point)) (choices : Choices) (answers : List Answer) (text : List ℕ) (w : Written) → run_of frames choices answers text ≡ Ok w
    → AreLines frames choices answers text w.text (w.notes ++ if_stored choices w.frames)
unfolding meaning_of
written_of frames choices answers text w h =
    let statements = prepared choices answers text in
    let t = has_texts (steps_up_to frames (text_reading text).fault (length (lines text)) [] (all_stated [] (kept choices statements)))
    (ended_lines (flat_lines (kept_passes choices statements) (all_stated [] (kept choices statements)))) (notes_from choices [] statements)
    (frame_notes (all_stated [] (kept choices statements))) w
    (sym (run_from_start frames choices (text_reading text).fault (length (lines text)) statements) ∙ h) in
    record {
      meaning = meaning_with t.steps;
      accepted = ap meant t.is;
      flat = t.text_is;
      notes_are = rw (t.notes_are, t.frames_are) refl;
    }

pub refused_of : (frames : List (List ℕ × Point)) (choices : Choices) (answers : List Answer) (text : List ℕ) (e : Refusal × ℕ) → run_of frames choices answers text ≡ Err e
    → lowered_meaning frames choices answers text ≡ Err e
unfolding meaning_of
refused_of frames choices answers text e h =
    let statements = prepared choices answers text in
    has_refusal (steps_up_to frames (text_reading text).fault (length (lines text)) [] (all_stated [] (kept choices statements)))
    (ended_lines (flat_lines (kept_passes choices statements) (all_stated [] (kept choices statements)))) (notes_from choices [] statements)
    (frame_notes (all_stated [] (kept choices statements))) e
    (sym (run_from_start frames choices (text_reading text).fault (length (lines text)) statements) ∙ h)

-- one statement more with what is given before it, by what the code gives at it
pub goes_past : (frames : List (List ℕ × Point)) (choices : Choices) (fault : Option TextFault) (n line : ℕ) (xs all left : List Statement)
    (c d : Carried) → all ≡ xs ++ left → AllOn line xs → all_steps frames choices c xs ≡ Ok (false, d)
    → run frames choices fault n left d ≡ run frames choices fault n all c
goes_past frames choices fault n line xs all left c d split on e = rw (split, run_through frames choices fault n line xs left c on, e) refl

pub closes_at : (frames : List (List ℕ × Point)) (choices : Choices) (fault : Option TextFault) (n line : ℕ) (xs all left : List Statement)
    (c d : Carried) → all ≡ xs ++ left → AllOn line xs → all_steps frames choices c xs ≡ Ok (true, d)
    → run frames choices fault n all c ≡ Ok (record { text = d.text; notes = d.notes; frames = frames_closed d.frames d.since })
closes_at frames choices fault n line xs all left c d split on e = rw (split, run_through frames choices fault n line xs left c on, e) refl

pub refused_at_statement : (frames : List (List ℕ × Point)) (choices : Choices) (fault : Option TextFault) (n line : ℕ) (xs all left : List Statement)
    (c : Carried) (refusal : Refusal) → all ≡ xs ++ left → AllOn line xs → all_steps frames choices c xs ≡ Err refusal
    → run frames choices fault n all c ≡ Err (refusal, line)
refused_at_statement frames choices fault n line xs all left c refusal split on e =
    rw (split, run_through frames choices fault n line xs left c on, e) refl

pub ends_at : (frames : List (List ℕ × Point)) (choices : Choices) (fault : Option TextFault) (n : ℕ) (all : List Statement) (c : Carried)
    → all ≡ [] → run frames choices fault n all c ≡ Err (ended fault c.above.number n)
ends_at frames choices fault n all c e = rw e refl

-- the next statement that comes out, with what is given before it, and what is below it
pub split_next : (choices : Choices) (told above left rest : List Statement) (ref : Reference) (seen : Seen) (t : Statement) → Sees choices told seen
    → left ≡ t ∷ rest → touched_from choices told (all_cartesian ref (all_valued above left))
    ≡ (touches_due choices seen (cartesian ref (valued above t)) ++ cartesian ref (valued above t) ∷ [])
    ++ touched_from choices (cartesian ref (valued above t) ∷ told)
    (all_cartesian (reference_after ref (cartesian ref (valued above t))) (all_valued (carried above t) rest))
split_next choices told above left rest ref seen t sees is =
    ap (λ (ss : List Statement). touched_from choices told (all_cartesian ref (all_valued above ss))) is
    ∙ touched_next choices told (all_cartesian (reference_after ref (cartesian ref (valued above t))) (all_valued (carried above t) rest)) seen
    (cartesian ref (valued above t)) sees

-- what is known below it
pub goes_round : (frames : List (List ℕ × Point)) (choices : Choices) (answers : List Answer) (text : List ℕ) (told above left : List Statement)
    (below : List Statement → List Statement) (ref after : Reference) (seen now : Seen) (c d : Carried) (t : Statement) (values : Values)
    → Sees choices told seen → left ≡ t ∷ below (carried above t)
    → all_steps frames choices c (touches_due choices seen (cartesian ref (valued above t)) ++ cartesian ref (valued above t) ∷ []) ≡ Ok (false, d)
    → after ≡ reference_after ref (cartesian ref (valued above t)) → now ≡ seen_by choices seen (cartesian ref (valued above t))
    → KnowsAll (carried above t) values → run frames choices (text_reading text).fault (length (lines text))
    (touched_from choices told (all_cartesian ref (all_valued above left))) c ≡ run_of frames choices answers text
    → (next : List Statement) × KnowsAll next values × ((more : List Statement) × Sees choices more now
    × (run frames choices (text_reading text).fault (length (lines text)) (touched_from choices more (all_cartesian after (all_valued next (below next)))) d
    ≡ run_of frames choices answers text))
goes_round frames choices answers text told above left below ref after seen now c d t values sees is steps refers looks knows same =
    let s = cartesian ref (valued above t) in
    let past = goes_past frames choices (text_reading text).fault (length (lines text)) s.line _ _ _ c d
    (split_next choices told above left (below (carried above t)) ref seen t sees is) (due_on choices seen s) steps in
    (carried above t, knows, (s ∷ told, rw looks (sees_after choices told seen s sees), rw refers (past ∙ same)))

-- what is answered where a statement is refused
pub at_statement : (frames : List (List ℕ × Point)) (choices : Choices) (answers : List Answer) (text : List ℕ) (refused : StatementFault) (fault : Option TextFault) (n line : ℕ)
    (xs all left : List Statement) (c d : Carried) → all ≡ xs ++ left → AllOn line xs → GivesStep (Err refused) d (all_steps frames choices c xs)
    → run frames choices fault n all c ≡ run_of frames choices answers text → GivesLines frames choices answers text (Err (fault_at refused line))
at_statement frames choices answers text (faults.Refused refusal) fault n line xs all left c d split on given same =
    refused_of frames choices answers text (refusal, line)
    (sym same ∙ refused_at_statement frames choices fault n line xs all left c refusal split on given)
at_statement frames choices answers text faults.Memory fault n line xs all left c d split on given same = tt

-- where nothing is left
pub at_end : (frames : List (List ℕ × Point)) (choices : Choices) (answers : List Answer) (text : List ℕ) (all : List Statement) (c : Carried) → all ≡ []
    → run frames choices (text_reading text).fault (length (lines text)) all c ≡ run_of frames choices answers text
    → GivesLines frames choices answers text (Err (refused_at (ended (text_reading text).fault c.above.number (length (lines text)))))
at_end frames choices answers text all c none same =
    refused_of frames choices answers text (ended (text_reading text).fault c.above.number (length (lines text)))
    (sym same ∙ ends_at frames choices (text_reading text).fault (length (lines text)) all c none)

-- where the program ends
pub finished : (frames : List (List ℕ × Point)) (choices : Choices) (answers : List Answer) (source text notes : List ℕ) (r : Result Lowered ProgramFault)
    → AreLines frames choices answers source text notes → IfOk r (λ (lowered : Lowered). lowered.text.items ≡ text)
    → IfOk r (λ (lowered : Lowered). lowered.notes.items ≡ notes) → IfErr r (λ (fault : ProgramFault). fault ≡ program.Memory)
    → GivesLines frames choices answers source r
finished frames choices answers source text notes (Ok lowered) h t n e = record {
  meaning = h.meaning;
  accepted = h.accepted;
  flat = t ∙ h.flat;
  notes_are = n ∙ h.notes_are;
}
finished frames choices answers source text notes (Err fault) h t n e = rw e tt
