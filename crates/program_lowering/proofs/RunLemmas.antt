-- Carrying forward gives what looking back gives.
use Rattle.program_lowering.proofs.Names.{[], ◌&&◌, ◌++◌, ◌==◌, ◌>>=◌, ◌∙◌, ◌∷◌, ◌≡◌, after_said, ap, append-nil, append_assoc, arith, BadByte}
use Rattle.program_lowering.proofs.Names.{before_refused, Bool, Carried, Choices, closes, cond, Context, context_at, continued, due, ended_lines, Err}
use Rattle.program_lowering.proofs.Names.{false, fault_for, flat_lines, flat_meant, followed, has_open_text, is_closing}
use Rattle.program_lowering.proofs.Names.{is_operator_text, is_unknown, judged, kept, Keyword, keyword_of, length}
use Rattle.program_lowering.proofs.Names.{line_for, LineTooLong, List, ne_eqb, None, none_above, not, note_for, noted, notes_from, nothing_carried}
use Rattle.program_lowering.proofs.Names.{Ok, Option, passed_over, Point, Reason, reason_for, refl, Refusal, refused_by, Result, saying, Some}
use Rattle.program_lowering.proofs.Names.{Statement, StatementMeaning, Step, stepped, steps_from, steps_of, subst, suc, sym, text_refusal, TextFault}
use Rattle.program_lowering.proofs.Names.{true, up_to_refused, with_front, word_refusal, ℕ}
use Rattle.dmis_program.specs.Meaning.{ended}
use Rattle.dmis_program.specs.declared.keywords.Keyword.TheVariants as word
use Rattle.program_lowering.proofs.AboveLemmas.{Stands, due_is, stands_after, IsAccepted, accepted_if}
use Rattle.program_lowering.proofs.Runs.{Written, ran, run, steps_up_to}
use Rattle.program_lowering.specs.Inches.{all_stated, in_inches, inches_after, stated}
use Rattle.program_lowering.proofs.StatedLemmas.{closes_nothing, flat_same, noted_same, text_same}
use Rattle.program_lowering.proofs.Names.{in_manual, is_skipped, kept_below, left_out_in, manual_after, measures}
use Rattle.program_lowering.specs.declared.words.Reason.TheVariants.{Manual}
use Rattle.std.proofs.Common.{◌⊎◌, inl, inr}
use Rattle.program_lowering.proofs.PassLemmas.{HasPassed, none_is_passed, one_more_passed}
use Rattle.program_lowering.specs.Carried.{entered, judged_next, none_passed, pass_of}
use Rattle.program_lowering.specs.Lowering.{counted_at, kept_above, kept_passes, note_at, passes_below, passes_over, unless_left_out}
use Rattle.program_lowering.specs.StoredFrames.{by_frame, frame_notes, is_used, touches_until}
use Rattle.program_lowering.proofs.FrameLemmas.{frames_then, frames_with, last_is, next_is, same_end, same_line, same_mode}
use Rattle.program_lowering.proofs.UseLemmas.{HasUses, counted_alike, none_used, uses_kept, uses_left}

-- lines with their ends, one list after the other
pub ended_append : (xs ys : List (List ℕ)) → ended_lines (xs ++ ys) ≡ ended_lines xs ++ ended_lines ys
ended_append [] ys = refl
ended_append (x ∷ xs) ys = ap (λ (rest : List ℕ). (x ++ 10 ∷ []) ++ rest) (ended_append xs ys)
    ∙ sym (append_assoc (x ++ 10 ∷ []) (ended_lines xs) (ended_lines ys))

-- a verdict with these texts, where there is no refusal
abbrev pub with_texts : Result (List Step) (Refusal × ℕ) → List ℕ → List ℕ → List ℕ → Result Written (Refusal × ℕ)
with_texts (Ok steps) text notes about = Ok (record { text = text; notes = notes; frames = about })
with_texts (Err e) text notes about = Err e

with_texts_front : (front : List Step) (r : Result (List Step) (Refusal × ℕ)) (text notes about : List ℕ)
    → with_texts (with_front front r) text notes about ≡ with_texts r text notes about
with_texts_front front (Ok steps) text notes about = refl
with_texts_front front (Err e) text notes about = refl

two_refusals : (b : Bool) (x y : Refusal) → ◌≡◌ {A = Option Refusal} (cond b (Some x) (Some y)) None → ⊥
two_refusals true x y h = cc
two_refusals false x y h = cc

-- a word that is no flat program's is refused, so none is accepted
unknown_refused : (k : Keyword) (n : ℕ) (wanted : Option ℕ) (params : List (List ℕ)) → word_refusal n wanted k params ≡ None
    → is_unknown k ≡ false
unknown_refused word.Dmismn n wanted params h = refl
unknown_refused word.Goto n wanted params h = refl
unknown_refused word.Meas n wanted params h = refl
unknown_refused word.Ptmeas n wanted params h = refl
unknown_refused word.Endmes n wanted params h = refl
unknown_refused word.Snslct n wanted params h = refl
unknown_refused word.Recall n wanted params h = refl
unknown_refused word.Endfil n wanted params h = refl
unknown_refused word.Units n wanted params h = refl
unknown_refused word.Mode n wanted params h = refl
unknown_refused word.Definition n wanted params h = refl
unknown_refused word.Passed n wanted params h = refl
unknown_refused word.Unknown n wanted params h = absurd (two_refusals _ _ _ h)

pub accepted_known : (frames : List (List ℕ × Point)) (c : Context) (s : Statement) (m : StatementMeaning) → IsAccepted frames c s m
    → is_unknown (keyword_of s.word) ≡ false
accepted_known frames c s m h = unknown_refused (keyword_of s.word) c.number c.wanted s.params h.known

-- a statement that is left out is no `ENDFIL`
skipped_measures : (manual a b : Bool) → (manual && (a && b)) ≡ true → a ≡ true
skipped_measures true true b h = refl
skipped_measures true false b h = absurd cc
skipped_measures false a b h = absurd cc

left_out_closes : (choices : Choices) (used : List ℕ → Bool) (manual : Bool) (s : Statement) (reason : Reason) → left_out_in choices manual s ≡ Some reason
    → is_closing (saying (by_frame choices used s)) ≡ false
left_out_closes choices used manual s reason h = go choices.skip_manual (is_skipped manual s) (is_unknown (keyword_of s.word)) refl refl h
  where
    other : (k : Keyword) → (measures k s.word ≡ true) ⊎ (is_unknown k ≡ true) → k ≡ word.Endfil → ⊥
    other k (inl h) e = let f = rw e at h in absurd cc
    other k (inr h) e = let f = rw e at h in absurd cc

    nothing : (keyword_of s.word ≡ word.Endfil → ⊥) → is_closing (saying (by_frame choices used s)) ≡ false
    nothing h = closes_nothing (by_frame choices used s) (same_end choices used s h)

    go : (asked b unknown : Bool) → is_skipped manual s ≡ b → is_unknown (keyword_of s.word) ≡ unknown
        → cond (asked && b) (Some Manual) (cond (unknown && not (has_open_text s)) (reason_for choices s) None) ≡ Some reason
        → is_closing (saying (by_frame choices used s)) ≡ false
    go true true unknown e f h = nothing (other (keyword_of s.word) (inl (skipped_measures manual _ _ e)))
    go asked b true e f h = nothing (other (keyword_of s.word) (inr f))
    go true false false e f h = absurd cc
    go false b false e f h = absurd cc

-- what is to come of the statements below others, with what was written so far: `sources` are those above as they are in the source,
-- without those that are left out, and `all` with them
abbrev RunsAs : List (List ℕ × Point) → Choices → Option TextFault → ℕ → List Statement → List Statement → List Statement → List Statement
    → List ℕ → List Statement → Carried → Type 0
RunsAs frames choices fault lines aboves sources all statements passes below c = run frames choices fault lines statements c
    ≡ with_texts (steps_up_to frames fault lines aboves (all_stated sources below)) (c.text ++ ended_lines (flat_lines passes (all_stated sources below)))
    (c.notes ++ notes_from choices all statements) (frames_then c.frames c.since (all_stated sources below))

-- what follows a statement that says this in millimetres, by whether it closes the program
by_end : (frames : List (List ℕ × Point)) (choices : Choices) (fault : Option TextFault) (lines : ℕ) (aboves sources all : List Statement)
    (s : Statement) (u : Bool) (statements : List Statement) (passes : List ℕ) (below : List Statement) (c : Carried) (m : StatementMeaning) (b : Bool) → closes m ≡ b
    → (b ≡ false → RunsAs frames choices fault lines (stated u s ∷ aboves) (s ∷ sources) all statements passes below (followed c s m))
    → ran s.line (Ok (b, followed c s m)) (run frames choices fault lines statements)
    ≡ with_texts (cond b (Ok []) (with_front (steps_of frames (context_at frames aboves) m)
    (steps_up_to frames fault lines (stated u s ∷ aboves) (all_stated (s ∷ sources) below))))
    (c.text ++ ended_lines (line_for s.line (pass_of c.passes s.line) (flat_meant s m) ++ cond b [] (flat_lines passes (all_stated (s ∷ sources) below))))
    (c.notes ++ (note_for s (passed_over s (Ok m)) ++ cond b [] (notes_from choices all statements)))
    (frames_with c.frames c.since s.line (Ok m) (all_stated (s ∷ sources) below))
by_end frames choices fault lines aboves sources all s u statements passes below c m true e behind =
    rw (
      append-nil (line_for s.line (pass_of c.passes s.line) (flat_meant s m)),
      append-nil (note_for s (passed_over s (Ok m))),
      last_is c.frames c.since s.line m (touches_until (all_stated (s ∷ sources) below)) (frame_notes (all_stated (s ∷ sources) below)) e,
    )
    refl
by_end frames choices fault lines aboves sources all s u statements passes below c m false e behind =
    rw (
      behind refl,
      next_is c.frames c.since s.line m (touches_until (all_stated (s ∷ sources) below)) (frame_notes (all_stated (s ∷ sources) below)) e,
      ended_append (line_for s.line (pass_of c.passes s.line) (flat_meant s m)) (flat_lines passes (all_stated (s ∷ sources) below)),
      with_texts_front (steps_of frames (context_at frames aboves) m) (steps_up_to frames fault lines (stated u s ∷ aboves) (all_stated (s ∷ sources) below)) _ _ _,
      append_assoc c.text (ended_lines (line_for s.line (pass_of c.passes s.line) (flat_meant s m))) (ended_lines (flat_lines passes (all_stated (s ∷ sources) below))),
      append_assoc c.notes (note_for s (passed_over s (Ok m))) (notes_from choices all statements),
    )
    refl

accepted_says : (frames : List (List ℕ × Point)) (aboves : List Statement) (s : Statement) (b : Bool) (m : StatementMeaning)
    → judged frames (context_at frames aboves) (stated b s) ≡ Ok m → saying (stated b s) ≡ Ok m
accepted_says frames aboves s b m e = (accepted_if frames (context_at frames aboves) (stated b s) m e).says

-- the notes of a statement that counts, and of those below
abbrev noted_below : Choices → List Statement → Statement → List Statement → List ℕ
noted_below choices all s statements = note_for s (passed_over s (saying s)) ++ cond (is_closing (saying s)) [] (notes_from choices all statements)

-- a statement that counts
by_judgement : (frames : List (List ℕ × Point)) (choices : Choices) (fault : Option TextFault) (lines : ℕ) (aboves sources all : List Statement)
    (s : Statement) (statements : List Statement) (passes : List ℕ) (below : List Statement) (c : Carried) (b : Bool) (r : Result StatementMeaning Refusal)
    → ((m : StatementMeaning) → r ≡ Ok m → saying (stated b s) ≡ Ok m)
    → ((m : StatementMeaning) → r ≡ Ok m
    → RunsAs frames choices fault lines (stated b s ∷ aboves) (s ∷ sources) all statements passes below (followed c s m))
    → ran s.line (r >>= λ m. Ok (closes m, followed c s m)) (run frames choices fault lines statements)
    ≡ with_texts (continued s.line r (steps_of frames (context_at frames aboves))
    (steps_up_to frames fault lines (stated b s ∷ aboves) (all_stated (s ∷ sources) below)))
    (c.text ++ ended_lines (flat_lines (pass_of c.passes s.line ∷ passes) (stated b s ∷ all_stated (s ∷ sources) below))) (c.notes ++ noted_below choices all s statements)
    (frames_then c.frames c.since (stated b s ∷ all_stated (s ∷ sources) below))
by_judgement frames choices fault lines aboves sources all s statements passes below c b (Err e) says behind = refl
by_judgement frames choices fault lines aboves sources all s statements passes below c b (Ok m) says behind =
    let said = says m refl in
    let alike = noted_same b s m said in
    rw (said, flat_same b s m said, alike.notes, alike.ends)
    (by_end frames choices fault lines aboves sources all s b statements passes below c m (closes m) refl (λ e. behind m refl))

-- a text for the operator is refused on its line
refusal_is : (s : Statement) (n lines : ℕ) (r : Refusal) → text_refusal s ≡ Some r → ended (Some (fault_for s.line r)) n lines ≡ (r, s.line)
refusal_is s n lines r = go (is_operator_text s) _ _
  where
    go : (a b c : Bool) → cond a (cond b (Some BadByte) (cond c (Some LineTooLong) None)) None ≡ Some r
        → ended (Some (fault_for s.line r)) n lines ≡ (r, s.line)
    go false b c h = absurd cc
    go true true c h =
        let e : BadByte ≡ r = cc in
        subst (λ (x : Refusal). ended (Some (fault_for s.line x)) n lines ≡ (x, s.line)) e refl
    go true false true h =
        let e : LineTooLong ≡ r = cc in
        subst (λ (x : Refusal). ended (Some (fault_for s.line x)) n lines ≡ (x, s.line)) e refl
    go true false false h = absurd cc

-- the unit is known of what is carried, and whether the operator measures
abbrev HasUnit : List Statement → Carried → Type 0
HasUnit sources c = c.inches ≡ in_inches sources

abbrev HasMode : List Statement → Carried → Type 0
HasMode all c = c.manual ≡ in_manual all

-- the same if it is not left out
by_text : (frames : List (List ℕ × Point)) (choices : Choices) (fault : Option TextFault) (lines : ℕ) (aboves sources all : List Statement)
    (s : Statement) (statements : List Statement) (passes : List ℕ) (below : List Statement) (c : Carried) (o : Option Refusal) → text_refusal s ≡ o → Stands aboves c.above → HasUnit sources c
    → ((m : StatementMeaning) → saying (stated (in_inches sources) s) ≡ Ok m → Stands (stated (in_inches sources) s ∷ aboves) (after_said c.above m)
    → RunsAs frames choices fault lines (stated (in_inches sources) s ∷ aboves) (s ∷ sources) all statements passes below (followed c s m))
    → ran s.line (refused_by o (due frames c.above c.inches s) >>= λ m. Ok (closes m, followed c s m)) (run frames choices fault lines statements)
    ≡ with_texts (steps_from frames (before_refused (stated (in_inches sources) s) o (up_to_refused fault (all_stated (s ∷ sources) below))).fault lines
    aboves (before_refused (stated (in_inches sources) s) o (up_to_refused fault (all_stated (s ∷ sources) below))).statements)
    (c.text ++ ended_lines (flat_lines (pass_of c.passes s.line ∷ passes) (stated (in_inches sources) s ∷ all_stated (s ∷ sources) below)))
    (c.notes ++ noted_below choices all s statements) (frames_then c.frames c.since (stated (in_inches sources) s ∷ all_stated (s ∷ sources) below))
by_text frames choices fault lines aboves sources all s statements passes below c (Some refusal) e stands unit behind =
    rw (refusal_is s (length aboves) lines refusal e) refl
by_text frames choices fault lines aboves sources all s statements passes below c None e stands unit behind =
    let judged_here : due frames c.above c.inches s ≡ judged frames (context_at frames aboves) (stated (in_inches sources) s) =
    due_is frames aboves c.above c.inches s stands ∙ ap (λ (b : Bool). judged frames (context_at frames aboves) (stated b s)) unit in
    rw judged_here (by_judgement frames choices fault lines aboves sources all s statements passes below c (in_inches sources)
    (judged frames (context_at frames aboves) (stated (in_inches sources) s)) (accepted_says frames aboves s (in_inches sources)) (λ m e.
    behind m (accepted_says frames aboves s (in_inches sources) m e) (stands_after aboves c.above (stated (in_inches sources) s) m stands (accepted_says frames aboves s (in_inches sources) m e))))

counts : (frames : List (List ℕ × Point)) (choices : Choices) (fault : Option TextFault) (lines : ℕ) (aboves sources all : List Statement)
    (s : Statement) (statements : List Statement) (passes : List ℕ) (below : List Statement) (c : Carried) → Stands aboves c.above → HasUnit sources c
    → ((m : StatementMeaning) → saying (stated (in_inches sources) s) ≡ Ok m → Stands (stated (in_inches sources) s ∷ aboves) (after_said c.above m)
    → RunsAs frames choices fault lines (stated (in_inches sources) s ∷ aboves) (s ∷ sources) all statements passes below (followed c s m))
    → ran s.line (judged_next frames c s >>= λ m. Ok (closes m, followed c s m)) (run frames choices fault lines statements)
    ≡ with_texts (steps_up_to frames fault lines aboves (all_stated sources (s ∷ below)))
    (c.text ++ ended_lines (flat_lines (pass_of c.passes s.line ∷ passes) (all_stated sources (s ∷ below)))) (c.notes ++ noted_below choices all s statements)
    (frames_then c.frames c.since (all_stated sources (s ∷ below)))
counts frames choices fault lines aboves sources all s statements passes below c stands unit behind =
    rw (text_same (in_inches sources) s) (by_text frames choices fault lines aboves sources all s statements passes below c (text_refusal s) refl stands unit behind)

some_above : (n : ℕ) → (suc n == 0) ≡ false
some_above n = ne_eqb (suc n) 0 (λ z. omega arith)

-- a statement that may be left out, and the one that counts in its place
by_reason : (frames : List (List ℕ × Point)) (choices : Choices) (fault : Option TextFault) (lines : ℕ) (aboves sources all : List Statement)
    (s t : Statement) (statements : List Statement) (c : Carried) (o : Option Reason) → t.line ≡ s.line → pass_of c.passes t.line ≡ passes_over s.line (s ∷ all) → ((reason : Reason) → o ≡ Some reason → is_closing (saying t) ≡ false) → Stands aboves c.above → HasUnit sources c
    → ((reason : Reason) → o ≡ Some reason
    → RunsAs frames choices fault lines aboves sources (s ∷ all) statements (passes_below choices (s ∷ all) statements) (kept_below choices (s ∷ all) statements) (noted c s (Some reason)))
    → (o ≡ None → (m : StatementMeaning) → saying (stated (in_inches sources) t) ≡ Ok m → Stands (stated (in_inches sources) t ∷ aboves) (after_said c.above m)
    → RunsAs frames choices fault lines (stated (in_inches sources) t ∷ aboves) (t ∷ sources) (s ∷ all) statements
    (passes_below choices (s ∷ all) statements) (kept_below choices (s ∷ all) statements) (followed c t m))
    → ran s.line (stepped frames c s t o) (run frames choices fault lines statements)
    ≡ with_texts (steps_up_to frames fault lines aboves (all_stated sources (unless_left_out o t ++ kept_below choices (s ∷ all) statements)))
    (c.text ++ ended_lines (flat_lines (unless_left_out o (passes_over s.line (s ∷ all)) ++ passes_below choices (s ∷ all) statements)
    (all_stated sources (unless_left_out o t ++ kept_below choices (s ∷ all) statements))))
    (c.notes ++ (note_at o s t ++ cond (is_closing (saying t)) [] (notes_from choices (s ∷ all) statements)))
    (frames_then c.frames c.since (all_stated sources (unless_left_out o t ++ kept_below choices (s ∷ all) statements)))
by_reason frames choices fault lines aboves sources all s t statements c None line pass ends stands unit without behind =
    rw (sym pass) (ap (λ (n : ℕ). ran n (stepped frames c s t None) (run frames choices fault lines statements)) (sym line)
    ∙ counts frames choices fault lines aboves sources (s ∷ all) t statements (passes_below choices (s ∷ all) statements)
    (kept_below choices (s ∷ all) statements) c stands unit (behind refl))
by_reason frames choices fault lines aboves sources all s t statements c (Some reason) line pass ends stands unit without behind =
    rw (ends reason refl, ← append_assoc c.notes (note_for s (Some reason)) (notes_from choices (s ∷ all) statements))
    (without reason refl)

pub run_is : (frames : List (List ℕ × Point)) (choices : Choices) (fault : Option TextFault) (lines : ℕ) (t u : Statement)
    (aboves sources all statements : List Statement) (c : Carried) → Stands (t ∷ aboves) c.above → HasUnit sources c → HasMode (u ∷ all) c
    → HasUses (kept_above choices (u ∷ all)) c → HasPassed (u ∷ all) c.passes
    → RunsAs frames choices fault lines (t ∷ aboves) sources (u ∷ all) statements (passes_below choices (u ∷ all) statements)
    (kept_below choices (u ∷ all) statements) c
run_is frames choices fault lines t u aboves sources all [] c stands unit mode uses passed = rw stands.number refl
run_is frames choices fault lines t u aboves sources all (next ∷ statements) c stands unit mode uses passed =
    let some : (c.above.number == 0) ≡ false = ap (λ (n : ℕ). n == 0) stands.number ∙ some_above (length aboves) in
    let then : manual_after c.manual next ≡ in_manual (next ∷ u ∷ all) = ap (λ (b : Bool). manual_after b next) mode in
    let used = is_used (kept_above choices (u ∷ all)) in
    let counted = counted_at choices (u ∷ all) next in
    let here = entered c next.line in
    let once = one_more_passed (u ∷ all) next c.passes passed in
    rw (some, then, counted_alike choices (u ∷ all) next c uses) (by_reason frames choices fault lines (t ∷ aboves) sources (u ∷ all) next counted
    statements here (left_out_in choices (in_manual (next ∷ u ∷ all)) next) (same_line choices used next)
    (ap (pass_of here.passes) (same_line choices used next) ∙ once.count next.line)
    (left_out_closes choices used (in_manual (next ∷ u ∷ all)) next) stands unit
    (λ reason out. run_is frames choices fault lines t next aboves sources (u ∷ all) statements (noted here next (Some reason)) stands unit then
    (uses_left choices (u ∷ all) next here reason out uses) once)
    (λ stays m says held. run_is frames choices fault lines (stated (in_inches sources) counted) next (t ∷ aboves) (counted ∷ sources)
    (u ∷ all) statements (followed here counted m) held (ap (λ (b : Bool). inches_after b counted) unit) (same_mode choices used c.manual next ∙ then)
    (uses_kept (in_inches sources) choices (u ∷ all) next here m stays says uses) once))

none_stand : Stands [] none_above
none_stand = record { number = refl; tool = refl; wanted = refl; touched = refl }

pub run_from_start : (frames : List (List ℕ × Point)) (choices : Choices) (fault : Option TextFault) (lines : ℕ) (statements : List Statement)
    → run frames choices fault lines statements nothing_carried
    ≡ with_texts (steps_up_to frames fault lines [] (all_stated [] (kept choices statements)))
    (ended_lines (flat_lines (kept_passes choices statements) (all_stated [] (kept choices statements)))) (notes_from choices [] statements)
    (frame_notes (all_stated [] (kept choices statements)))
run_from_start frames choices fault lines [] = refl
run_from_start frames choices fault lines (s ∷ statements) =
    let counted = counted_at choices [] s in
    let here = entered nothing_carried s.line in
    let once = one_more_passed [] s none_passed (none_is_passed) in
    let pass : pass_of here.passes counted.line ≡ passes_over s.line (s ∷ []) =
    ap (pass_of here.passes) (same_line choices (is_used []) s) ∙ once.count s.line in
    rw (counted_alike choices [] s nothing_carried none_used, sym pass) (
    ap (λ (n : ℕ). ran n (stepped frames here s counted None) (run frames choices fault lines statements)) (sym (same_line choices (is_used []) s))
    ∙ counts frames choices fault lines [] [] (s ∷ []) counted statements (passes_below choices (s ∷ []) statements)
    (kept_below choices (s ∷ []) statements) here none_stand
    refl (λ m says held. run_is frames choices fault lines (stated false counted) s [] (counted ∷ []) [] statements
    (followed here counted m) held refl (same_mode choices (is_used []) false s)
    (uses_kept false choices [] s here m refl says none_used) once))
