-- The first refusal that is listed is the one that the program is refused for.
use Rattle.program_review.proofs.Names.{[], ◌++◌, ◌+◌, ◌-◌, ◌<◌, ◌>>=◌, ◌||◌, ◌∙◌, ◌∷◌, ◌≡◌, ◌≤◌, after, after_said, ap, arith, at_start, Bool}
use Rattle.program_review.proofs.Names.{bound_count, bound_said, closes, cond, Context, context_at, context_of, continued, due, Err, false, fault_of}
use Rattle.program_review.proofs.Names.{first_of, is_badly_formed, is_end, is_err, is_none, is_selection, is_some, is_too_few, Keyword, keyword_of}
use Rattle.program_review.proofs.Names.{lacking_said, length, lines, List, listed, meant, misplaced, names_by, nat_le, nat_lt, nearest, None}
use Rattle.program_review.proofs.Names.{number_at, Ok, one_less, one_more, Option, or_else, Point, program_of, refl, Refusal, refusals_from}
use Rattle.program_review.proofs.Names.{refusals_of, refused_by, Remark, Result, saying, settled, Some, some_tool, Statement, StatementMeaning, Step}
use Rattle.program_review.proofs.Names.{steps_from, steps_of, subst, sym, text_reading, TextFault, tool_said, TooLarge, touched, touched_with, true}
use Rattle.program_review.proofs.Names.{with_front, without_parameters, word_refusal, ℕ}
use Rattle.std.proofs.Math.Bool.{or-false}
use Rattle.std.proofs.lemmas.Bool.Decides.{nat_tests}
use Rattle.dmis_program.specs.Sayings.{said_by, said_of}
use Rattle.dmis_program.specs.Judging.{judged}
use Rattle.dmis_program.specs.Meaning.{meaning_of}
use Rattle.dmis_program.proofs.Sound.{SaidBy}
use Rattle.dmis_program.proofs.SayingLemmas.{said_of_if}
use Rattle.program_review.specs.Taken.{around_after, nothing_around}
use Rattle.program_review.specs.declared.standing.Standing.{Standing}
use Rattle.program_review.specs.declared.taking.Around.{Around}
use Rattle.dmis_program.proofs.CarryingLemmas.{settling_is}

-- what an open block that has this many touches lacks
abbrev lacks : Option ℕ → ℕ → Option ℕ
lacks None n = None
lacks (Some count) n = Some (count - n)

-- what is carried is what is found by looking back, as long as nothing is refused
record Matches (above : List Statement) (st : Standing) : Type 0 where
  number : st.number ≡ length above
  few : st.number ≤ 10000
  start : st.lacks_start ≡ false
  tool : is_none (some_tool st.has_tool) ≡ is_none (nearest tool_said above)
  lacking : st.lacking ≡ lacks (bound_count (nearest bound_said above)) (touched above)

-- the count of touches refuses the same, whether it goes up or down
too_few_same : (wanted : Option ℕ) (n : ℕ) → is_too_few (lacks wanted n) 0 ≡ is_too_few wanted n
too_few_same None n = refl
too_few_same (Some count) n = grind (arith, nat_tests)

misplaced_same : (keyword : Keyword) (wanted : Option ℕ) (n : ℕ) → misplaced keyword (lacks wanted n) ≡ misplaced keyword wanted
misplaced_same keyword None n = refl
misplaced_same Keyword.Recall (Some count) n = refl
misplaced_same keyword (Some count) n = refl

settled_same : (frames : List (List ℕ × Point)) (t u : Option (List ℕ)) (wanted : Option ℕ) (n : ℕ) (m : StatementMeaning)
    → is_none t ≡ is_none u → settled frames t (lacks wanted n) 0 m ≡ settled frames u wanted n m
settled_same frames t u wanted n (StatementMeaning.Touches target direction) h = rw h refl
settled_same frames t u wanted n StatementMeaning.Ends h = rw (too_few_same wanted n) refl
settled_same frames t u wanted n m h = refl

bind_same : (frames : List (List ℕ × Point)) (t u : Option (List ℕ)) (wanted : Option ℕ) (n : ℕ) (r : Result StatementMeaning Refusal)
    → is_none t ≡ is_none u → (r >>= settled frames t (lacks wanted n) 0) ≡ (r >>= settled frames u wanted n)
bind_same frames t u wanted n (Ok m) h = settled_same frames t u wanted n m h
bind_same frames t u wanted n (Err e) h = refl

judged_same : (frames : List (List ℕ × Point)) (c d : Context) (s : Statement) → c.number ≡ d.number → is_none c.tool ≡ is_none d.tool
    → c.wanted ≡ lacks d.wanted d.touched → c.touched ≡ 0 → judged frames c s ≡ judged frames d s
unfolding judged
judged_same frames c d s number tool wanted none =
    rw (
      number,
      wanted,
      none,
      misplaced_same (keyword_of s.word) d.wanted d.touched,
      bind_same frames c.tool d.tool d.wanted d.touched (saying s) tool,
    ) refl

number_is : (above : List Statement) (st : Standing) (keyword : Keyword) → Matches above st → number_at st keyword ≡ length above
number_is above st keyword h =
    let few : nat_lt 10000 st.number ≡ false = grind (arith, nat_tests, h.few) in
    rw (h.start, few) h.number

due_is : (frames : List (List ℕ × Point)) (above : List Statement) (st : Standing) (s : Statement) → Matches above st
    → due frames st s ≡ judged frames (context_at frames above) s
due_is frames above st s h = judged_same frames (context_of st (keyword_of s.word)) (context_at frames above) s
    (number_is above st (keyword_of s.word) h) h.tool h.lacking refl

reached : (b : Bool) (e : Refusal) (o : Option Refusal) (r : Result StatementMeaning Refusal) (t : StatementMeaning)
    → cond b (Err e) (refused_by o r) ≡ Ok t → (b ≡ false) × (r ≡ Ok t)
reached true e o r t h = absurd cc
reached false e (Some x) r t h = absurd cc
reached false e None r t h = (refl, h)

pub record IsAccepted (c : Context) (s : Statement) (t : StatementMeaning) : Type 0 where
  pub few : c.number < 10000
  pub said : saying s ≡ Ok t

below_most : (n : ℕ) → nat_le 10000 n ≡ false → n < 10000
below_most n h = grind (arith, nat_tests)

pub accepted_is : (frames : List (List ℕ × Point)) (c : Context) (s : Statement) (t : StatementMeaning) → judged frames c s ≡ Ok t
    → IsAccepted c s t
unfolding judged
accepted_is frames c s t h =
    let both = reached (nat_le 10000 c.number) TooLarge (word_refusal c.number c.wanted (keyword_of s.word) s.params)
    (saying s >>= settled frames c.tool c.wanted c.touched) t h in
    record { few = below_most c.number both.0; said = settling_is frames c.tool c.wanted c.touched (saying s) t both.1 }

-- an accepted statement ends the program by its word
no_parameters_close : (params : List (List ℕ)) (t : StatementMeaning) → without_parameters StatementMeaning.Closes params ≡ Ok t → closes t ≡ true
no_parameters_close [] t h = let same : StatementMeaning.Closes ≡ t = cc in rw (← same) refl
no_parameters_close (p ∷ params) t h = absurd cc

pub unless_badly : (b : Bool) (e : Refusal) (r : Result StatementMeaning Refusal) (t : StatementMeaning) → cond b (Err e) r ≡ Ok t → r ≡ Ok t
unless_badly true e r t h = absurd cc
unless_badly false e r t h = h

end_closes : (s : Statement) (t : StatementMeaning) → said_of Keyword.Endfil s ≡ Ok t → closes t ≡ true
unfolding said_of said_by
end_closes s t h = no_parameters_close s.params t (unless_badly (is_badly_formed Keyword.Endfil s) _ _ t h)

closing_ends : (keyword : Keyword) (t : StatementMeaning) → SaidBy keyword t → closes t ≡ true → keyword ≡ Keyword.Endfil
closing_ends keyword StatementMeaning.Closes h e = h
closing_ends keyword t h e = absurd cc

both_same : (keyword : Keyword) (t : StatementMeaning) (b : Bool) → closes t ≡ b → (closes t ≡ true → keyword ≡ Keyword.Endfil)
    → (keyword ≡ Keyword.Endfil → closes t ≡ true) → is_end keyword ≡ b
both_same keyword t true h f g = rw (f h) refl
both_same Keyword.Endfil t false h f g = let e = g refl in cc
both_same keyword t false h f g = refl

pub end_is : (s : Statement) (t : StatementMeaning) → saying s ≡ Ok t → is_end (keyword_of s.word) ≡ closes t
end_is s t h =
    let by_word : SaidBy (keyword_of s.word) t = rw h at (said_of_if (keyword_of s.word) s) in
    both_same (keyword_of s.word) t (closes t) refl (closing_ends (keyword_of s.word) t by_word)
    (λ e. end_closes s t (subst (λ (k : Keyword). said_of k s ≡ Ok t) e h))

-- what is carried past an accepted statement
tool_after : (has_tool : Bool) (m : StatementMeaning) (above : Option (List ℕ)) → is_none (some_tool has_tool) ≡ is_none above
    → is_none (some_tool (has_tool || is_selection m)) ≡ is_none (or_else (tool_said (Ok m)) above)
tool_after has_tool (StatementMeaning.Goes target) above h = rw (or-false has_tool) h
tool_after has_tool (StatementMeaning.Begins name n) above h = rw (or-false has_tool) h
tool_after has_tool (StatementMeaning.Touches target direction) above h = rw (or-false has_tool) h
tool_after has_tool StatementMeaning.Ends above h = rw (or-false has_tool) h
tool_after true (StatementMeaning.Selects name) above h = refl
tool_after false (StatementMeaning.Selects name) above h = refl
tool_after has_tool (StatementMeaning.Recalls name) above h = rw (or-false has_tool) h
tool_after has_tool StatementMeaning.Closes above h = rw (or-false has_tool) h
tool_after has_tool StatementMeaning.Passes above h = rw (or-false has_tool) h

one_less_lacks : (wanted : Option ℕ) (n : ℕ) → one_less (lacks wanted n) ≡ lacks wanted (n + 1)
one_less_lacks None n = refl
one_less_lacks (Some count) n = let e : (count - n) - 1 ≡ count - (n + 1) = omega arith in rw e refl

nothing_less : (count : ℕ) → Some count ≡ lacks (Some count) 0
nothing_less count = let e : count - 0 ≡ count = omega arith in rw e refl

lacking_after : (lacking : Option ℕ) (m : StatementMeaning) (bound : Option (Option ℕ)) (n : ℕ)
    → lacking ≡ lacks (bound_count bound) n
    → lacking_said m lacking ≡ lacks (bound_count (or_else (bound_said (Ok m)) bound)) (touched_with (Ok m) n)
lacking_after lacking (StatementMeaning.Begins name count) bound n h = nothing_less count
lacking_after lacking (StatementMeaning.Touches target direction) bound n h = rw h (one_less_lacks (bound_count bound) n)
lacking_after lacking StatementMeaning.Ends bound n h = refl
lacking_after lacking m bound n h = h

one_more_is : (n : ℕ) → n < 10000 → one_more n ≡ n + 1
one_more_is n h = let few : nat_lt 10000 n ≡ false = grind (arith, nat_tests, h) in rw few refl

matches_after : (frames : List (List ℕ × Point)) (above : List Statement) (st : Standing) (s : Statement) (m : StatementMeaning)
    → Matches above st → IsAccepted (context_at frames above) s m → Matches (s ∷ above) (after_said st (keyword_of s.word) m)
matches_after frames above st s m h a =
    let more : one_more st.number ≡ st.number + 1 = one_more_is st.number (omega (arith, h.number, a.few)) in
    record {
      number = omega (arith, more, h.number);
      few = omega (arith, more, h.number, a.few);
      start = rw h.start refl;
      tool = rw a.said (tool_after st.has_tool m (nearest tool_said above) h.tool);
      lacking = rw a.said (lacking_after st.lacking m (nearest bound_said above) (touched above) h.lacking);
    }

front_keeps : (front : List Step) (r : Result (List Step) (Refusal × ℕ)) → fault_of (with_front front r) ≡ fault_of r
front_keeps front (Ok steps) = refl
front_keeps front (Err e) = refl

-- one statement, by its judgement
goes_on : (b : Bool) (steps : List Step) (behind : Result (List Step) (Refusal × ℕ)) (more : List Remark)
    → first_of more ≡ fault_of behind
    → first_of (cond b [] more) ≡ fault_of (cond b (Ok []) (with_front steps behind))
goes_on true steps behind more h = refl
goes_on false steps behind more h = h ∙ sym (front_keeps steps behind)

by_judgement : (names : List (List ℕ)) (around : Around) (s : Statement) (st : Standing) (r : Result StatementMeaning Refusal) (steps : StatementMeaning → List Step)
    (behind : Result (List Step) (Refusal × ℕ)) (rest : Standing → List Remark)
    → ((m : StatementMeaning) → r ≡ Ok m → is_end (keyword_of s.word) ≡ closes m)
    → ((m : StatementMeaning) → r ≡ Ok m → first_of (rest (after_said st (keyword_of s.word) m)) ≡ fault_of behind)
    → first_of (listed names around s r ++ cond (is_end (keyword_of s.word)) [] (rest (after st (keyword_of s.word) r)))
    ≡ fault_of (continued s.line r steps behind)
by_judgement names around s st (Err e) steps behind rest ends more = refl
by_judgement names around s st (Ok m) steps behind rest ends more = rw (ends m refl) (goes_on (closes m) (steps m) behind _ (more m refl))

agrees : (frames : List (List ℕ × Point)) (fault : Option TextFault) (n : ℕ) (names : List (List ℕ)) (around : Around)
    (statements above : List Statement) (st : Standing) → Matches above st
    → first_of (refusals_from frames fault n names around st statements) ≡ fault_of (steps_from frames fault n above statements)
agrees frames fault n names around [] above st h = rw h.number refl
agrees frames fault n names around (s ∷ statements) above st h =
    let keyword = keyword_of s.word in
    rw (due_is frames above st s h)
    (by_judgement names around s st (judged frames (context_at frames above) s) (steps_of frames (context_at frames above))
    (steps_from frames fault n (s ∷ above) statements) (λ (next : Standing). refusals_from frames fault n (names ++ names_by s) (around_after around s) next statements)
    (λ m e. end_is s m (accepted_is frames (context_at frames above) s m e).said)
    (λ m e. agrees frames fault n (names ++ names_by s) (around_after around s) statements (s ∷ above) (after_said st keyword m)
    (matches_after frames above st s m h (accepted_is frames (context_at frames above) s m e))))

meant_keeps : (r : Result (List Step) (Refusal × ℕ)) → fault_of (meant r) ≡ fault_of r
meant_keeps (Ok steps) = refl
meant_keeps (Err e) = refl

first_is : (frames : List (List ℕ × Point)) (text : List ℕ) → first_of (refusals_of frames text) ≡ fault_of (program_of frames text)
unfolding meaning_of
first_is frames text =
    agrees frames (text_reading text).fault (length (lines text)) [] nothing_around (text_reading text).statements [] at_start (record {
      number = refl;
      few = omega arith;
      start = refl;
      tool = refl;
      lacking = refl;
    })
    ∙ sym (meant_keeps (steps_from frames (text_reading text).fault (length (lines text)) [] (text_reading text).statements))

-- there is a first one exactly if the program is refused
fault_is : {A : Type 0} (r : Result A (Refusal × ℕ)) (o : Option (Refusal × ℕ)) → o ≡ fault_of r → is_some o ≡ is_err r
fault_is (Ok x) o is = ap is_some is
fault_is (Err e) o is = ap is_some is

pub refused_is : (frames : List (List ℕ × Point)) (text : List ℕ) (found : List Remark) → found ≡ refusals_of frames text
    → is_some (first_of found) ≡ is_err (program_of frames text)
refused_is frames text found is = fault_is (program_of frames text) (first_of found) (ap first_of is ∙ first_is frames text)
