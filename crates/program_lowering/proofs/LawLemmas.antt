-- The laws of whole texts.
use Rattle.program_lowering.proofs.Names.{[], ◌++◌, ◌+◌, ◌<◌, ◌^◌, ◌∙◌, ◌∷◌, ◌≡◌, ◌≤◌, acts_of, AllByRecursion, ap, arith, Choices}
use Rattle.program_lowering.proofs.Names.{ended_lines, flat_lines, flat_program, IsComment, kept, kept_below, left_out_at, length, lines, List}
use Rattle.program_lowering.proofs.Names.{lowered_meaning, Meaning, None, Ok, Option, Point, program_of, Reason, Some, Statement, sym, text_reading, TextsFit, unless_left_out}
use Rattle.program_lowering.proofs.Names.{ℕ}
use Rattle.dmis_text.specs.Numbers.{AreNumbered}
use Rattle.dmis_text.proofs.NumberLaws.{numbered_is}
use Rattle.dmis_program.specs.Meaning.{meaning_of}
use Rattle.program_lowering.proofs.FlatSourceLemmas.{valued_source}
use Rattle.program_lowering.proofs.LineCounts.{lines_few}
use Rattle.program_lowering.proofs.ReadBackLemmas.{HasShortLine, acts_back, reads_back}
use Rattle.program_lowering.proofs.RunLemmas.{ended_append}
use Rattle.program_lowering.specs.Inches.{all_stated}
use Rattle.program_lowering.specs.Prompts.{Answer, answered}
use Rattle.program_lowering.proofs.AnswerLemmas.{answered_short}
use Rattle.program_lowering.proofs.Names.{map}
use Rattle.program_lowering.proofs.EvenLemmas.{AllOn, before_on}
use Rattle.program_lowering.proofs.FeatureLemmas.{valued_line}
use Rattle.program_lowering.proofs.ValuedLemmas.{same_place}
use Rattle.program_lowering.specs.EvenTouches.{all_touched, touched_from, touches_before}
use Rattle.program_lowering.specs.Cartesian.{all_cartesian, cartesian, made_cartesian, no_reference, reference_after}
use Rattle.program_lowering.specs.declared.cartesian.Reference.{Reference}
use Rattle.program_flow.specs.Calls.{carried_out}
use Rattle.program_flow.specs.Flow.{carried}
use Rattle.program_flow.proofs.Comes.{all_carried_out}
use Rattle.program_lowering.specs.Valued.{all_valued}
use Rattle.program_lowering.specs.Lowering.{counted_at, kept_above, kept_passes, prepared}
use Rattle.program_lowering.specs.StoredFrames.{is_used}
use Rattle.program_lowering.proofs.FrameLemmas.{same_line}
use Rattle.program_lowering.proofs.Names.{subst}
use Rattle.program_lowering.proofs.Names.{◌&&◌, Bool, cond, false, has_open_text, in_manual, is_skipped, keyword_of, left_out, refl, true}
use Rattle.program_lowering.specs.declared.words.Reason.TheVariants.{Manual}
use Rattle.dmis_program.specs.declared.keywords.Keyword.TheVariants as word

-- the numbers of lines are small where the text has few lines
numbers_short : (from to : ℕ) (statements : List Statement) → to ≤ 2 ^ 64 → AreNumbered from to statements → AllByRecursion HasShortLine statements
numbers_short from to [] few h = tt
numbers_short from to (s ∷ statements) few h = (omega (arith, few, h.1), numbers_short (s.line + 1) to statements few h.2)

kept_short : (choices : Choices) (above statements : List Statement) → AllByRecursion HasShortLine statements
    → AllByRecursion HasShortLine (kept_below choices above statements)
kept_short choices above [] h = tt
kept_short choices above (s ∷ statements) h = go (left_out_at choices above s) (kept_short choices (s ∷ above) statements h.1)
  where
    go : (o : Option Reason) → AllByRecursion HasShortLine (kept_below choices (s ∷ above) statements)
        → AllByRecursion HasShortLine (unless_left_out o (counted_at choices above s) ++ kept_below choices (s ∷ above) statements)
    go None rest = (subst (λ (n : ℕ). n < 2 ^ 64) (sym (same_line choices (is_used (kept_above choices above)) s)) h.0, rest)
    go (Some reason) rest = rest

stated_short : (sources statements : List Statement) → AllByRecursion HasShortLine statements → AllByRecursion HasShortLine (all_stated sources statements)
stated_short sources [] h = tt
stated_short sources (s ∷ statements) h = (h.0, stated_short (s ∷ sources) statements h.1)

valued_short : (above statements : List Statement) → AllByRecursion HasShortLine statements → AllByRecursion HasShortLine (all_valued above statements)
valued_short above [] h = tt
valued_short above (s ∷ statements) h =
    (subst (λ (n : ℕ). n < 2 ^ 64) (sym (valued_line above s)) h.0, valued_short (carried above s) statements h.1)

cartesian_short : (ref : Reference) (statements : List Statement) → AllByRecursion HasShortLine statements
    → AllByRecursion HasShortLine (all_cartesian ref statements)
cartesian_short ref [] h = tt
cartesian_short ref (s ∷ statements) h = (
  subst (λ (n : ℕ). n < 2 ^ 64) (sym (same_place s (made_cartesian ref s))) h.0,
  cartesian_short (reference_after ref (cartesian ref s)) statements h.1,
)

-- and so are those of touches that are given
on_short : (line : ℕ) (xs ys : List Statement) → line < 2 ^ 64 → AllOn line xs → AllByRecursion HasShortLine ys → AllByRecursion HasShortLine (xs ++ ys)
on_short line [] ys few on h = h
on_short line (x ∷ xs) ys few on h = (subst (λ (n : ℕ). n < 2 ^ 64) (sym on.0) few, on_short line xs ys few on.1 h)

touched_short : (above statements : List Statement) → AllByRecursion HasShortLine statements
    → AllByRecursion HasShortLine (all_touched above statements)
touched_short above [] h = tt
touched_short above (s ∷ statements) h = on_short s.line (touches_before above s) (s ∷ all_touched (s ∷ above) statements) h.0 (before_on above s)
    (h.0, touched_short (s ∷ above) statements h.1)

chosen_short : (choices : Choices) (statements : List Statement) → AllByRecursion HasShortLine statements
    → AllByRecursion HasShortLine (touched_from choices [] statements)
chosen_short choices statements h = go choices.even_touches
  where
    go : (b : Bool) → AllByRecursion HasShortLine (cond b (all_touched [] statements) statements)
    go true = touched_short [] statements h
    go false = h

-- and so are those of what comes out
flow_short : (statements : List Statement) → AllByRecursion HasShortLine statements → AllByRecursion HasShortLine (carried_out statements)
flow_short statements h = all_carried_out HasShortLine (λ s a short is line. subst (λ (n : ℕ). n < 2 ^ 64) (sym line) short)
    (λ s a short line. subst (λ (n : ℕ). n < 2 ^ 64) (sym line) short) statements h

text_short : (choices : Choices) (answers : List Answer) (text : List ℕ) → length text < 2 ^ 64
    → AllByRecursion HasShortLine (all_stated [] (kept choices (prepared choices answers text)))
text_short choices answers text few =
    let short = numbers_short 1 (1 + length (lines text)) (text_reading text).statements (omega (arith, few, lines_few text)) (numbered_is 1 (lines text)).0 in
    let asked = map (answered answers) (text_reading text).statements in
    let valued = valued_short [] (carried_out asked) (flow_short asked (answered_short answers (text_reading text).statements short)) in
    let all = all_cartesian no_reference (all_valued [] (carried_out asked)) in
    stated_short [] (kept choices (prepared choices answers text)) (kept_short choices [] (prepared choices answers text)
    (chosen_short choices all (cartesian_short no_reference (all_valued [] (carried_out asked)) valued)))

pub programs_read_back : (frames : List (List ℕ × Point)) (choices : Choices) (answers : List Answer) (text : List ℕ) (heads : List (List ℕ)) (m : Meaning)
    → length text < 2 ^ 64 → AllByRecursion IsComment heads → lowered_meaning frames choices answers text ≡ Ok m
    → program_of frames (ended_lines heads ++ flat_program choices answers text) ≡ Ok m
unfolding meaning_of
programs_read_back frames choices answers text heads m few comments h =
    ap (λ (t : List ℕ). program_of frames t) (sym (ended_append heads (flat_lines (kept_passes choices (prepared choices answers text)) (all_stated [] (kept choices (prepared choices answers text))))))
    ∙ reads_back frames (text_reading text).fault (length (lines text)) (kept_passes choices (prepared choices answers text)) (all_stated [] (kept choices (prepared choices answers text))) heads m
    (text_short choices answers text few) comments h

pub texts_stay : (frames : List (List ℕ × Point)) (choices : Choices) (answers : List Answer) (text : List ℕ) (heads : List (List ℕ)) (m : Meaning)
    → length text < 2 ^ 64 → AllByRecursion IsComment heads → lowered_meaning frames choices answers text ≡ Ok m
    → acts_of frames (text_reading (ended_lines heads ++ flat_program choices answers text)).statements
    ≡ acts_of frames (all_stated [] (kept choices (prepared choices answers text)))
unfolding meaning_of
texts_stay frames choices answers text heads m few comments h =
    ap (λ (t : List ℕ). acts_of frames (text_reading t).statements) (sym (ended_append heads (flat_lines (kept_passes choices (prepared choices answers text)) (all_stated [] (kept choices (prepared choices answers text))))))
    ∙ acts_back frames (text_reading text).fault (length (lines text)) (kept_passes choices (prepared choices answers text)) (all_stated [] (kept choices (prepared choices answers text))) heads m
    (text_short choices answers text few) comments h

pub sources_keep : (frames : List (List ℕ × Point)) (choices : Choices) (answers : List Answer) (text : List ℕ) (m : Meaning) → TextsFit text → program_of frames text ≡ Ok m
    → lowered_meaning frames choices answers text ≡ Ok m
unfolding meaning_of
sources_keep frames choices answers text m fit h =
    valued_source frames choices answers (text_reading text).fault (length (lines text)) (text_reading text).statements m fit h

-- manual blocks
pub touches_skipped : (choices : Choices) (t s : Statement) (above : List Statement) → choices.skip_manual ≡ true
    → in_manual (s ∷ t ∷ above) ≡ true → keyword_of s.word ≡ word.Ptmeas → s.label ≡ None → has_open_text s ≡ false
    → left_out_at choices (t ∷ above) s ≡ Some Manual
touches_skipped choices t s above asked manual touch bare closed = rw (asked, manual, touch, bare, closed) refl

pub others_stay : (choices : Choices) (t s : Statement) (above : List Statement) → in_manual (s ∷ t ∷ above) ≡ false
    → left_out_at choices (t ∷ above) s ≡ left_out choices s
others_stay choices t s above h = go choices.skip_manual
  where
    go : (asked : Bool) → cond (asked && is_skipped (in_manual (s ∷ t ∷ above)) s) (Some Manual) (left_out choices s) ≡ left_out choices s
    go true = rw h refl
    go false = refl
