-- A flat program is read back: it has the steps of the program that it was written of.
use Rattle.program_lowering.proofs.Names.{[], ◌&&◌, ◌++◌, ◌+◌, ◌<◌, ◌==◌, ◌^◌, ◌∙◌, ◌∷◌, ◌≡◌, ◌≤◌, Act, acts_from, add-zero, AllByRecursion, and_from}
use Rattle.program_lowering.proofs.Names.{ap, arith, as_read, before_refused, Bool, bound_count, bound_said, closes, cond, context_at, continued}
use Rattle.program_lowering.proofs.Names.{Does, Dropped, ended_lines, Err, false, Flat, flat_line, flat_lines, flat_meant, flat_passed, flat_said}
use Rattle.program_lowering.proofs.Names.{frame_said, IfSome, is_line, is_operator_text, is_start, is_unsupported, IsComment, judged, Keyword}
use Rattle.program_lowering.proofs.Names.{keyword_of, length, line_for, line_role, List, list_all, list_all-append, map, Meaning, meaning_with, meant}
use Rattle.program_lowering.proofs.Names.{misplaced, nat_le, nat_lt, nat_tests, ne_eqb, nearest, None, not, NotDmis, Ok, Option, or_else, Point}
use Rattle.program_lowering.proofs.Names.{program_of, reading_of, refl, Refusal, Result, saying, shown_by, Some, Statement, StatementMeaning, Step}
use Rattle.program_lowering.proofs.Names.{steps_from, steps_of, subst, suc, sym, text_reading, text_refusal, TextFault, tool_said, touched}
use Rattle.program_lowering.proofs.Names.{touched_with, true, Unsupported, up_to_refused, with_first, with_front, word_refusal, ℕ}
use Rattle.dmis_text.proofs.LineLaws.{lines_written}
use Rattle.program_lowering.specs.Flats.{with_pass}
use Rattle.program_lowering.specs.Lowering.{first_pass, other_passes}
use Rattle.dmis_program.specs.Meaning.{meaning_of}
use Rattle.dmis_program.specs.declared.keywords.Keyword.TheVariants as word
use Rattle.dmis_program.specs.declared.sayings.StatementMeaning.TheVariants as said
use Rattle.program_lowering.proofs.AboveLemmas.{IsAccepted, accepted_if, accepts}
use Rattle.program_lowering.proofs.LineLemmas.{IsHeld, flat_statement, line_read, statement_read, flat_is_line, comment_is_line}
use Rattle.program_lowering.proofs.Runs.{steps_up_to}
use Rattle.program_lowering.proofs.TextLemmas.{IsWrittenOf, written_is}

-- ---- the lines of a flat program

-- a written line is a statement
pub line_first : (n k pass : ℕ) (f : Flat) (rest : List (List ℕ)) → IsHeld f k
    → reading_of n (with_pass (flat_line f k) pass ∷ rest) ≡ with_first (flat_statement f n) (reading_of (n + 1) rest)
line_first n k pass f rest h =
    rw (line_read f k pass h) (ap (λ (s : Statement). with_first s (reading_of (n + 1) rest)) (statement_read n f.word f.params h.word h.params))

-- a comment is not a statement
comment_role : (line : List ℕ) → IsComment line → line_role false line ≡ Dropped
comment_role line h =
    let long : nat_lt 4096 (length line) ≡ false = grind (arith, nat_tests, h.short) in
    rw (long, h.is, h.clean) refl

pub comments_first : (n : ℕ) (heads rest : List (List ℕ)) → AllByRecursion IsComment heads
    → reading_of n (heads ++ rest) ≡ reading_of (n + length heads) rest
comments_first n [] rest h = ap (λ (k : ℕ). reading_of k rest) (sym (add-zero n))
comments_first n (head ∷ heads) rest h =
    let count : n + 1 + length heads ≡ n + length (head ∷ heads) = omega arith in
    rw (comment_role head h.0) (comments_first (n + 1) heads rest h.1 ∙ ap (λ (k : ℕ). reading_of k rest) count)

-- ---- statements that decide alike

not_none : (n : ℕ) → (suc n == 0) ≡ false
not_none n = ne_eqb (suc n) 0 (λ z. omega arith)

-- what is above a flat statement decides as what is above the statement that it was written of
record Similar (aboves flats : List Statement) : Type 0 where
  number : length flats ≤ length aboves
  start : (length flats == 0) ≡ (length aboves == 0)
  tool : nearest tool_said flats ≡ nearest tool_said aboves
  frame : nearest frame_said flats ≡ nearest frame_said aboves
  bound : nearest bound_said flats ≡ nearest bound_said aboves
  touched_is : touched flats ≡ touched aboves

-- one more of each, which say the same
record SimilarAfter (r q : Result StatementMeaning Refusal) (aboves flats : List Statement) : Type 0 where
  tool : or_else (tool_said q) (nearest tool_said flats) ≡ or_else (tool_said r) (nearest tool_said aboves)
  frame : or_else (frame_said q) (nearest frame_said flats) ≡ or_else (frame_said r) (nearest frame_said aboves)
  bound : or_else (bound_said q) (nearest bound_said flats) ≡ or_else (bound_said r) (nearest bound_said aboves)
  touched_is : touched_with q (touched flats) ≡ touched_with r (touched aboves)

after_same : (aboves flats : List Statement) (r : Result StatementMeaning Refusal) → Similar aboves flats → SimilarAfter r r aboves flats
after_same aboves flats r h = record {
  tool = ap (λ (o : Option (List ℕ)). or_else (tool_said r) o) h.tool;
  frame = ap (λ (o : Option (List ℕ)). or_else (frame_said r) o) h.frame;
  bound = ap (λ (o : Option (Option ℕ)). or_else (bound_said r) o) h.bound;
  touched_is = ap (λ (n : ℕ). touched_with r n) h.touched_is;
}

similar_over : (aboves flats : List Statement) (s t : Statement) → Similar aboves flats → SimilarAfter (saying s) (saying t) aboves flats
    → Similar (s ∷ aboves) (t ∷ flats)
similar_over aboves flats s t h g = record {
  number = omega (arith, h.number);
  start = not_none (length flats) ∙ sym (not_none (length aboves));
  tool = g.tool;
  frame = g.frame;
  bound = g.bound;
  touched_is = g.touched_is;
}

similar_written : (aboves flats : List Statement) (s t : Statement) (m : StatementMeaning) → Similar aboves flats → saying s ≡ Ok m → saying t ≡ Ok m
    → Similar (s ∷ aboves) (t ∷ flats)
similar_written aboves flats s t m h e g =
    similar_over aboves flats s t h (subst (λ (r : Result StatementMeaning Refusal). SimilarAfter r (saying t) aboves flats) (sym e)
    (subst (λ (q : Result StatementMeaning Refusal). SimilarAfter (Ok m) q aboves flats) (sym g) (after_same aboves flats (Ok m) h)))

-- one more that commands nothing and is not written
record SimilarPast (r : Result StatementMeaning Refusal) (aboves flats : List Statement) : Type 0 where
  tool : nearest tool_said flats ≡ or_else (tool_said r) (nearest tool_said aboves)
  frame : nearest frame_said flats ≡ or_else (frame_said r) (nearest frame_said aboves)
  bound : nearest bound_said flats ≡ or_else (bound_said r) (nearest bound_said aboves)
  touched_is : touched flats ≡ touched_with r (touched aboves)

similar_past : (aboves flats : List Statement) (s : Statement) → Similar aboves flats → (length flats == 0) ≡ false
    → SimilarPast (saying s) aboves flats → Similar (s ∷ aboves) flats
similar_past aboves flats s h some g = record {
  number = omega (arith, h.number);
  start = some ∙ sym (not_none (length aboves));
  tool = g.tool;
  frame = g.frame;
  bound = g.bound;
  touched_is = g.touched_is;
}

similar_passed : (aboves flats : List Statement) (s : Statement) → Similar aboves flats → (length flats == 0) ≡ false → saying s ≡ Ok said.Passes
    → Similar (s ∷ aboves) flats
similar_passed aboves flats s h some e =
    similar_past aboves flats s h some (subst (λ (r : Result StatementMeaning Refusal). SimilarPast r aboves flats) (sym e)
    record { tool = h.tool; frame = h.frame; bound = h.bound; touched_is = h.touched_is })

-- of three tests none refuses
pub record NoneRefuses (a b : Bool) (o : Option Refusal) : Type 0 where
  pub first : a ≡ false
  pub second : b ≡ false
  pub third : o ≡ None

none_refuses : (a b : Bool) (x y : Refusal) (o : Option Refusal) → cond a (Some x) (cond b (Some y) o) ≡ None → NoneRefuses a b o
none_refuses true b x y o h = absurd cc
none_refuses false true x y o h = absurd cc
none_refuses false false x y o h = record { first = refl; second = refl; third = h }

pub by_tests : (n : ℕ) (wanted : Option ℕ) (keyword : Keyword) (params : List (List ℕ)) → word_refusal n wanted keyword params ≡ None
    → NoneRefuses ((n == 0) && not (is_start keyword)) (is_unsupported (n == 0) keyword params) (misplaced keyword wanted)
by_tests n wanted keyword params h = none_refuses ((n == 0) && not (is_start keyword)) (is_unsupported (n == 0) keyword params) NotDmis Unsupported
    (misplaced keyword wanted) h

known_flat : (n k : ℕ) (wanted : Option ℕ) (keyword : Keyword) (params flats : List (List ℕ)) → (k == 0) ≡ (n == 0)
    → ((b : Bool) → is_unsupported b keyword params ≡ false → is_unsupported b keyword flats ≡ false)
    → word_refusal n wanted keyword params ≡ None → word_refusal k wanted keyword flats ≡ None
known_flat n k wanted keyword params flats start supported h =
    let r = by_tests n wanted keyword params h in
    rw (start, r.first, supported (n == 0) r.second) r.third

few_flat : (n k : ℕ) → k ≤ n → nat_le 10000 n ≡ false → nat_le 10000 k ≡ false
few_flat n k h few = grind (arith, nat_tests)

-- a flat statement is accepted where the one that it was written of is
accepted_flat : (frames : List (List ℕ × Point)) (aboves flats : List Statement) (s : Statement) (m : StatementMeaning) (f : Flat) (n : ℕ)
    → Similar aboves flats → IsAccepted frames (context_at frames aboves) s m → IsWrittenOf s m f
    → IsAccepted frames (context_at frames flats) (flat_statement f n) m
accepted_flat frames aboves flats s m f n h a g =
    record {
      few = few_flat (length aboves) (length flats) h.number a.few;
      known = rw (g.word, h.bound) (known_flat (length aboves) (length flats) (bound_count (nearest bound_said aboves)) (keyword_of s.word)
          s.params f.params h.start g.supported a.known);
      says = g.says n;
      settles = rw (h.tool, h.bound, h.touched_is) a.settles;
    }

-- the steps of a statement are the same in both places
steps_alike : (frames : List (List ℕ × Point)) (aboves flats : List Statement) (m : StatementMeaning) → Similar aboves flats
    → steps_of frames (context_at frames flats) m ≡ steps_of frames (context_at frames aboves) m
steps_alike frames aboves flats (said.Goes target) h = refl
steps_alike frames aboves flats (said.Begins name count) h = refl
steps_alike frames aboves flats (said.Touches target direction) h = rw (h.tool, h.frame) refl
steps_alike frames aboves flats said.Ends h = refl
steps_alike frames aboves flats (said.Selects name) h = refl
steps_alike frames aboves flats (said.Recalls name) h = refl
steps_alike frames aboves flats said.Closes h = refl
steps_alike frames aboves flats said.Passes h = refl

-- what is not written commands nothing
only_passes : (keyword : Keyword) (params : List (List ℕ)) (m : StatementMeaning) → flat_said keyword params m ≡ None
    → (m ≡ said.Passes) × (flat_passed keyword ≡ None)
only_passes keyword params (said.Goes target) h = absurd cc
only_passes keyword params (said.Begins name count) h = absurd cc
only_passes keyword params (said.Touches target direction) h = absurd cc
only_passes keyword params said.Ends h = absurd cc
only_passes keyword params (said.Selects name) h = absurd cc
only_passes keyword params (said.Recalls name) h = absurd cc
only_passes keyword params said.Closes h = absurd cc
only_passes keyword params said.Passes h = (refl, h)

-- the first statement is written
first_written : (b : Bool) (keyword : Keyword) → (b && not (is_start keyword)) ≡ false → flat_passed keyword ≡ None → b ≡ false
first_written false keyword h g = refl
first_written true word.Dmismn h g = absurd cc
first_written true word.Goto h g = absurd cc
first_written true word.Meas h g = absurd cc
first_written true word.Ptmeas h g = absurd cc
first_written true word.Endmes h g = absurd cc
first_written true word.Snslct h g = absurd cc
first_written true word.Recall h g = absurd cc
first_written true word.Endfil h g = absurd cc
first_written true word.Units h g = absurd cc
first_written true word.Mode h g = absurd cc
first_written true word.Definition h g = absurd cc
first_written true word.Passed h g = absurd cc
first_written true word.Unknown h g = absurd cc

-- ---- a program and its flat lines

abbrev pub HasShortLine : Statement → Type 0
HasShortLine s = s.line < 2 ^ 64

-- the flat lines are lines, and have these steps from line n on
record Reads (frames : List (List ℕ × Point)) (end n : ℕ) (flats : List Statement) (steps : List Step)
    (acts : List Act) (written : List (List ℕ)) : Type 0 where
  are_lines : list_all is_line written ≡ true
  steps_are : (fault : Option TextFault) → steps_from frames fault end flats (reading_of n written).statements ≡ Ok steps
  acts_are : acts_from frames flats (reading_of n written).statements ≡ acts

record Fronted (front steps : List Step) (r : Result (List Step) (Refusal × ℕ)) : Type 0 where
  more : List Step
  rest : r ≡ Ok more
  is : steps ≡ front ++ more

fronted : (front steps : List Step) (r : Result (List Step) (Refusal × ℕ)) → with_front front r ≡ Ok steps → Fronted front steps r
fronted front steps (Ok more) h = record { more = more; rest = refl; is = cc }
fronted front steps (Err e) h = absurd cc

-- what follows a statement, wherever its flat lines begin
abbrev Later : List (List ℕ × Point) → Option TextFault → ℕ → ℕ → List Statement → List Statement → Type 0
Later frames fault lines end aboves below = (n : ℕ) (flats : List Statement) (passes : List ℕ) (more : List Step) → Similar aboves flats
    → steps_up_to frames fault lines aboves below ≡ Ok more → Reads frames end n flats more (acts_from frames aboves below) (flat_lines passes below)

-- a statement that is not written
past : (frames : List (List ℕ × Point)) (fault : Option TextFault) (lines end n : ℕ) (aboves flats : List Statement) (s : Statement)
    (below : List Statement) (passes : List ℕ) (steps : List Step) → Similar aboves flats → (length flats == 0) ≡ false → saying s ≡ Ok said.Passes
    → is_operator_text s ≡ false → with_front [] (steps_up_to frames fault lines (s ∷ aboves) below) ≡ Ok steps → Later frames fault lines end (s ∷ aboves) below
    → Reads frames end n flats steps (shown_by s ++ acts_from frames (s ∷ aboves) below) (flat_lines passes below)
past frames fault lines end n aboves flats s below passes steps h some says none e later =
    let f = fronted [] steps (steps_up_to frames fault lines (s ∷ aboves) below) e in
    rw none (subst (λ (all : List Step). Reads frames end n flats all (acts_from frames (s ∷ aboves) below) (flat_lines passes below)) (sym f.is)
    (later n flats passes f.more (similar_passed aboves flats s h some says) f.rest))

-- the line of a statement, and what follows it
line_then : (frames : List (List ℕ × Point)) (end n : ℕ) (flats : List Statement) (m : StatementMeaning) (f : Flat) (line pass : ℕ)
    (written : List (List ℕ)) (steps : List Step) (acts : List Act) (b : Bool) → closes m ≡ b → IsHeld f line
    → judged frames (context_at frames flats) (flat_statement f n) ≡ Ok m → saying (flat_statement f n) ≡ Ok m → list_all is_line written ≡ true
    → ((fault : Option TextFault) → cond b (Ok []) (with_front (steps_of frames (context_at frames flats) m)
    (steps_from frames fault end (flat_statement f n ∷ flats) (reading_of (n + 1) written).statements)) ≡ Ok steps)
    → cond b [] (shown_by (flat_statement f n) ++ (map (λ (t : Step). Does t) (steps_of frames (context_at frames flats) m)
    ++ acts_from frames (flat_statement f n ∷ flats) (reading_of (n + 1) written).statements)) ≡ acts
    → Reads frames end n flats steps acts (with_pass (flat_line f line) pass ∷ written)
line_then frames end n flats m f line pass written steps acts b e h g says all then shows = record {
  are_lines = rw (flat_is_line f line pass h) all;
  steps_are = λ fault. rw (line_first n line pass f written h, g, e) (then fault);
  acts_are = rw (line_first n line pass f written h, says, e) shows;
}

by_end : (frames : List (List ℕ × Point)) (fault : Option TextFault) (lines end n pass : ℕ) (aboves flats : List Statement) (s : Statement)
    (below : List Statement) (passes : List ℕ) (steps : List Step) (m : StatementMeaning) (f : Flat) (b : Bool) → closes m ≡ b
    → Similar aboves flats → IsAccepted frames (context_at frames aboves) s m → IsWrittenOf s m f
    → cond b (Ok []) (with_front (steps_of frames (context_at frames aboves) m) (steps_up_to frames fault lines (s ∷ aboves) below)) ≡ Ok steps
    → Later frames fault lines end (s ∷ aboves) below
    → Reads frames end n flats steps (cond b [] (shown_by s ++ (map (λ (t : Step). Does t) (steps_of frames (context_at frames aboves) m)
    ++ acts_from frames (s ∷ aboves) below))) (with_pass (flat_line f s.line) pass ∷ cond b [] (flat_lines passes below))
by_end frames fault lines end n pass aboves flats s below passes steps m f true e h a g ends later =
    line_then frames end n flats m f s.line pass [] steps _ true e g.held
    (accepts frames (context_at frames flats) (flat_statement f n) m (accepted_flat frames aboves flats s m f n h a g)) (g.says n) refl (λ _. ends) refl
by_end frames fault lines end n pass aboves flats s below passes steps m f false e h a g ends later =
    let front = fronted (steps_of frames (context_at frames aboves) m) steps (steps_up_to frames fault lines (s ∷ aboves) below) ends in
    let rest = later (n + 1) (flat_statement f n ∷ flats) passes front.more (similar_written aboves flats s (flat_statement f n) m h a.says (g.says n))
    front.rest in
    line_then frames end n flats m f s.line pass (flat_lines passes below) steps _ false e g.held
    (accepts frames (context_at frames flats) (flat_statement f n) m (accepted_flat frames aboves flats s m f n h a g)) (g.says n) rest.are_lines
    (λ fault. rw (rest.steps_are fault, steps_alike frames aboves flats m h) (ap (λ (all : List Step). Ok all) (sym front.is)))
    (rw (g.shown n, steps_alike frames aboves flats m h, rest.acts_are) refl)

no_text : (b : Bool) (f : Flat) (o : Option Flat) → cond b (Some f) o ≡ None → o ≡ None
no_text true f o h = absurd cc
no_text false f o h = h

is_no_text : (b : Bool) (f : Flat) (o : Option Flat) → cond b (Some f) o ≡ None → b ≡ false
is_no_text true f o h = absurd cc
is_no_text false f o h = refl

taken : (o : Option Flat) (P : Flat → Type 0) (f : Flat) → o ≡ Some f → IfSome o P → P f
taken o P f e h = rw e at h

by_flat : (frames : List (List ℕ × Point)) (fault : Option TextFault) (lines end n pass : ℕ) (aboves flats : List Statement) (s : Statement)
    (below : List Statement) (passes : List ℕ) (steps : List Step) (m : StatementMeaning) (o : Option Flat) → flat_meant s m ≡ o
    → text_refusal s ≡ None → s.line < 2 ^ 64 → Similar aboves flats → IsAccepted frames (context_at frames aboves) s m
    → continued s.line (Ok m) (steps_of frames (context_at frames aboves)) (steps_up_to frames fault lines (s ∷ aboves) below) ≡ Ok steps
    → Later frames fault lines end (s ∷ aboves) below
    → Reads frames end n flats steps (cond (closes m) [] (shown_by s ++ (map (λ (t : Step). Does t) (steps_of frames (context_at frames aboves) m)
    ++ acts_from frames (s ∷ aboves) below))) (line_for s.line pass o ++ cond (closes m) [] (flat_lines passes below))
by_flat frames fault lines end n pass aboves flats s below passes steps m (Some f) e none few h a ends later =
    let g = taken (flat_meant s m) (IsWrittenOf s m) f e (written_is s m a.says none few) in
    by_end frames fault lines end n pass aboves flats s below passes steps m f (closes m) refl h a g ends later
by_flat frames fault lines end n pass aboves flats s below passes steps m None e none few h a ends later =
    let p = only_passes (keyword_of s.word) s.params m (no_text (is_operator_text s) (as_read s) (flat_said (keyword_of s.word) s.params m) e) in
    let tests = by_tests (length aboves) (bound_count (nearest bound_said aboves)) (keyword_of s.word) s.params a.known in
    let some = first_written (length aboves == 0) (keyword_of s.word) tests.first p.1 in
    let ends2 = subst (λ (k : StatementMeaning). continued s.line (Ok k) (steps_of frames (context_at frames aboves))
    (steps_up_to frames fault lines (s ∷ aboves) below) ≡ Ok steps) p.0 ends in
    rw p.0 (past frames fault lines end n aboves flats s below passes steps h (h.start ∙ some) (a.says ∙ ap (λ (k : StatementMeaning). Ok k) p.0)
    (is_no_text (is_operator_text s) (as_read s) (flat_said (keyword_of s.word) s.params m) e) ends2 later)

by_judged : (frames : List (List ℕ × Point)) (fault : Option TextFault) (lines end n : ℕ) (aboves flats : List Statement) (s : Statement)
    (below : List Statement) (passes : List ℕ) (steps : List Step) (r : Result StatementMeaning Refusal) → judged frames (context_at frames aboves) s ≡ r
    → text_refusal s ≡ None → s.line < 2 ^ 64 → Similar aboves flats
    → continued s.line r (steps_of frames (context_at frames aboves)) (steps_up_to frames fault lines (s ∷ aboves) below) ≡ Ok steps
    → Later frames fault lines end (s ∷ aboves) below
    → Reads frames end n flats steps (acts_from frames aboves (s ∷ below)) (flat_lines passes (s ∷ below))
by_judged frames fault lines end n aboves flats s below passes steps (Err refusal) e none few h ends later = absurd cc
by_judged frames fault lines end n aboves flats s below passes steps (Ok m) e none few h ends later =
    let a = accepted_if frames (context_at frames aboves) s m e in
    rw a.says (by_flat frames fault lines end n (first_pass passes) aboves flats s below (other_passes passes) steps m (flat_meant s m) refl none few h a ends later)

by_text : (frames : List (List ℕ × Point)) (fault : Option TextFault) (lines end n : ℕ) (aboves flats : List Statement) (s : Statement)
    (below : List Statement) (passes : List ℕ) (steps : List Step) (o : Option Refusal) → text_refusal s ≡ o → s.line < 2 ^ 64 → Similar aboves flats
    → steps_from frames (before_refused s o (up_to_refused fault below)).fault lines aboves
    (before_refused s o (up_to_refused fault below)).statements ≡ Ok steps
    → Later frames fault lines end (s ∷ aboves) below
    → Reads frames end n flats steps (acts_from frames aboves (s ∷ below)) (flat_lines passes (s ∷ below))
by_text frames fault lines end n aboves flats s below passes steps (Some refusal) e few h ends later = absurd cc
by_text frames fault lines end n aboves flats s below passes steps None e few h ends later =
    by_judged frames fault lines end n aboves flats s below passes steps (judged frames (context_at frames aboves) s) refl e few h ends later

reads : (frames : List (List ℕ × Point)) (fault : Option TextFault) (lines end : ℕ) (aboves below : List Statement)
    → AllByRecursion HasShortLine below → Later frames fault lines end aboves below
reads frames fault lines end aboves [] short n flats passes steps h e = absurd cc
reads frames fault lines end aboves (s ∷ below) short n flats passes steps h e =
    by_text frames fault lines end n aboves flats s below passes steps (text_refusal s) refl short.0 h e
    (reads frames fault lines end (s ∷ aboves) below short.1)

none_similar : Similar [] []
none_similar = record { number = omega arith; start = refl; tool = refl; frame = refl; bound = refl; touched_is = refl }

-- ---- a whole text

heads_are_lines : (heads : List (List ℕ)) → AllByRecursion IsComment heads → list_all is_line heads ≡ true
heads_are_lines [] h = refl
heads_are_lines (head ∷ heads) h =
    let one : is_line head ≡ true = rw h.0.is (comment_is_line h.0.text h.0.clean) in
    and_from (is_line head) (list_all is_line heads) one (heads_are_lines heads h.1)

pub meant_steps : (m : Meaning) (r : Result (List Step) (Refusal × ℕ)) → meant r ≡ Ok m → (steps : List Step) × (r ≡ Ok steps) × (m ≡ meaning_with steps)
meant_steps m (Ok steps) h = (steps, refl, cc)
meant_steps m (Err e) h = absurd cc

-- a text of comments and of the flat lines of statements means what those mean
pub reads_back : (frames : List (List ℕ × Point)) (fault : Option TextFault) (n : ℕ) (passes : List ℕ) (statements : List Statement) (heads : List (List ℕ))
    (m : Meaning) → AllByRecursion HasShortLine statements → AllByRecursion IsComment heads
    → meant (steps_up_to frames fault n [] statements) ≡ Ok m
    → program_of frames (ended_lines (heads ++ flat_lines passes statements)) ≡ Ok m
unfolding meaning_of
reads_back frames fault n passes statements heads m short comments h =
    let found = meant_steps m (steps_up_to frames fault n [] statements) h in
    let end = length (heads ++ flat_lines passes statements) in
    let back = reads frames fault n end [] statements short (1 + length heads) [] passes found.0 none_similar found.1 in
    let all : list_all is_line (heads ++ flat_lines passes statements) ≡ true =
    rw (list_all-append is_line heads (flat_lines passes statements), heads_are_lines heads comments) back.are_lines in
    rw (
      lines_written (heads ++ flat_lines passes statements) all,
      comments_first 1 heads (flat_lines passes statements) comments,
      back.steps_are (reading_of (1 + length heads) (flat_lines passes statements)).fault,
    )
    (ap (λ (all : Meaning). Ok all) (sym found.2))

-- and shows the same texts in the same places
pub acts_back : (frames : List (List ℕ × Point)) (fault : Option TextFault) (n : ℕ) (passes : List ℕ) (statements : List Statement) (heads : List (List ℕ))
    (m : Meaning) → AllByRecursion HasShortLine statements → AllByRecursion IsComment heads
    → meant (steps_up_to frames fault n [] statements) ≡ Ok m
    → acts_from frames [] (text_reading (ended_lines (heads ++ flat_lines passes statements))).statements ≡ acts_from frames [] statements
acts_back frames fault n passes statements heads m short comments h =
    let found = meant_steps m (steps_up_to frames fault n [] statements) h in
    let back = reads frames fault n 0 [] statements short (1 + length heads) [] passes found.0 none_similar found.1 in
    let all : list_all is_line (heads ++ flat_lines passes statements) ≡ true =
    rw (list_all-append is_line heads (flat_lines passes statements), heads_are_lines heads comments) back.are_lines in
    rw (lines_written (heads ++ flat_lines passes statements) all, comments_first 1 heads (flat_lines passes statements) comments) back.acts_are
