-- Carrying the selections forward gives what looking back for them gives.
use Rattle.dmis_program.proofs.Names.{[], ◌++◌, ◌>>=◌, ◌∙◌, ◌∷◌, ◌≡◌, ap, append-nil, append_assoc, AreInVolume, arith, Block, Bool, bound_count}
use Rattle.dmis_program.proofs.Names.{bound_said, changed, closes, cond, Context, context_at, context_of, continued, count_wanted, counted, Direction}
use Rattle.dmis_program.proofs.Names.{ended, Err, false, frame_at, frame_said, IfOk, is_none, is_too_few, IsProgram, keyword_of, length}
use Rattle.dmis_program.proofs.Names.{length-append, lines, List, Meaning, meaning_with, meant, nat_le, nearest, next, no_statement, None, offset_of}
use Rattle.dmis_program.proofs.Names.{Ok, Option, or_else, part_at, Point, program_of, ReaderState, recall_steps, recalled_at, refl, Refusal}
use Rattle.dmis_program.proofs.Names.{refused_by, Result, saying, settled, Some, Statement, StatementMeaning, Step, steps_from, steps_of, subst, suc}
use Rattle.dmis_program.proofs.Names.{sym, text_reading, TextFault, tool_said, TooLarge, touch_steps, touch_with, touched, touches_left, true}
use Rattle.dmis_program.proofs.Names.{with_front, word_refusal, ℕ}
use Rattle.dmis_program.specs.LookBack.{touched_with as touched_since}
use Rattle.dmis_program.specs.Judging.{judged}
use Rattle.dmis_program.specs.Meaning.{meaning_of}
use Rattle.dmis_program.specs.Carrying.{touched_with as carry_touch}
use Rattle.dmis_program.proofs.CarryingRuns.{ran, run}
use Rattle.dmis_program.proofs.Sound.{MayFollow, IsAllowed, IsSound}
use Rattle.dmis_program.proofs.JudgingLemmas.{judged_if}
use Rattle.dmis_program.proofs.SoundLemmas.{sound_after, sound_at_start}
use Rattle.dmis_program.proofs.ProgramLemmas.{done_is, program_is}
use Rattle.dmis_program.specs.declared.features.Touch as touch

-- two contexts are one where their parts are
same_context : (c d : Context) → c.number ≡ d.number → c.tool ≡ d.tool → c.frame ≡ d.frame → c.wanted ≡ d.wanted → c.touched ≡ d.touched
    → c ≡ d
same_context c d number tool frame wanted touched = λ i. record {
  number = number i;
  tool = tool i;
  frame = frame i;
  wanted = wanted i;
  touched = touched i;
}

-- the parts of what is carried, as they are above
record Stands (frames : List (List ℕ × Point)) (above : List Statement) (c : ReaderState) : Type 0 where
  number : c.number ≡ length above
  tool : c.tool ≡ nearest tool_said above
  frame : c.frame ≡ frame_at frames (nearest frame_said above)
  wanted : count_wanted c.open_block ≡ bound_count (nearest bound_said above)
  touched : length c.touches ≡ touched above

context_is : (frames : List (List ℕ × Point)) (above : List Statement) (c : ReaderState) → Stands frames above c
    → context_of c ≡ context_at frames above
context_is frames above c h = same_context (context_of c) (context_at frames above) h.number h.tool h.frame h.wanted h.touched

-- what a statement that is not refused says, it says by itself
unless_is : (b : Bool) (e : Refusal) (s t : StatementMeaning) → cond b (Err e) (Ok s) ≡ Ok t → s ≡ t
unless_is true e s t h = absurd cc
unless_is false e s t h = cc

settled_is : (frames : List (List ℕ × Point)) (tool : Option (List ℕ)) (wanted : Option ℕ) (count : ℕ) (s t : StatementMeaning)
    → settled frames tool wanted count s ≡ Ok t → s ≡ t
settled_is frames tool wanted count (StatementMeaning.Goes target) t h = cc
settled_is frames tool wanted count (StatementMeaning.Begins name n) t h = cc
settled_is frames tool wanted count (StatementMeaning.Touches target direction) t h = unless_is (is_none tool) _ (StatementMeaning.Touches target direction) t h
settled_is frames tool wanted count StatementMeaning.Ends t h = unless_is (is_too_few wanted count) _ StatementMeaning.Ends t h
settled_is frames tool wanted count (StatementMeaning.Selects name) t h = cc
settled_is frames tool wanted count (StatementMeaning.Recalls name) t h = unless_is (is_none (offset_of frames name)) _ (StatementMeaning.Recalls name) t h
settled_is frames tool wanted count StatementMeaning.Closes t h = cc
settled_is frames tool wanted count StatementMeaning.Passes t h = cc

pub settling_is : (frames : List (List ℕ × Point)) (tool : Option (List ℕ)) (wanted : Option ℕ) (count : ℕ)
    (r : Result StatementMeaning Refusal) (t : StatementMeaning)
    → (r >>= settled frames tool wanted count) ≡ Ok t → r ≡ Ok t
settling_is frames tool wanted count (Ok s) t h = ap (λ (x : StatementMeaning). Ok x) (settled_is frames tool wanted count s t h)
settling_is frames tool wanted count (Err e) t h = absurd cc

reached : (b : Bool) (e : Refusal) (o : Option Refusal) (r : Result StatementMeaning Refusal) (t : StatementMeaning)
    → cond b (Err e) (refused_by o r) ≡ Ok t
    → r ≡ Ok t
reached true e o r t h = absurd cc
reached false e (Some x) r t h = absurd cc
reached false e None r t h = h

said_is : (frames : List (List ℕ × Point)) (c : Context) (s : Statement) (t : StatementMeaning) → judged frames c s ≡ Ok t → saying s ≡ Ok t
unfolding judged
said_is frames c s t h = settling_is frames c.tool c.wanted c.touched (saying s) t
    (reached (nat_le 10000 c.number) TooLarge (word_refusal c.number c.wanted (keyword_of s.word) s.params)
    (saying s >>= settled frames c.tool c.wanted c.touched) t h)

-- the same parts after a statement, by what it says
record StandsBehind (frames : List (List ℕ × Point)) (r : Result StatementMeaning Refusal) (above : List Statement)
    (c : ReaderState) : Type 0 where
  number : c.number ≡ suc (length above)
  tool : c.tool ≡ or_else (tool_said r) (nearest tool_said above)
  frame : c.frame ≡ frame_at frames (or_else (frame_said r) (nearest frame_said above))
  wanted : count_wanted c.open_block ≡ bound_count (or_else (bound_said r) (nearest bound_said above))
  touched : length c.touches ≡ touched_since r (touched above)

stands_behind : (frames : List (List ℕ × Point)) (above : List Statement) (s : Statement) (c : ReaderState)
    → StandsBehind frames (saying s) above c → Stands frames (s ∷ above) c
stands_behind frames above s c h = record { number = h.number; tool = h.tool; frame = h.frame; wanted = h.wanted; touched = h.touched }

idle_count : (block : Option Block) (touches : List touch.Touch) → block ≡ None → (block ≡ None → touches ≡ []) → length touches ≡ 0
idle_count block touches out idle = rw (idle out) refl

left_count : (block : Option Block) (b : Block) (touches : List touch.Touch) → block ≡ Some b → length (touches_left block touches) ≡ 0
left_count None b touches e = absurd cc
left_count (Some d) b touches e = refl

behind_said : (frames : List (List ℕ × Point)) (above : List Statement) (c : ReaderState) (t : StatementMeaning) → Stands frames above c
    → (c.open_block ≡ None → c.touches ≡ []) → IsAllowed frames c.tool c.open_block (length c.touches) t
    → StandsBehind frames (Ok t) above (changed frames (counted c) t)
behind_said frames above c (StatementMeaning.Goes target) h idle may = record {
  number = omega (arith, h.number);
  tool = h.tool;
  frame = h.frame;
  wanted = h.wanted;
  touched = h.touched;
}
behind_said frames above c (StatementMeaning.Begins name n) h idle may =
    record {
      number = omega (arith, h.number);
      tool = h.tool;
      frame = h.frame;
      wanted = refl;
      touched = idle_count c.open_block c.touches may.0 idle;
    }
behind_said frames above c (StatementMeaning.Touches target direction) h idle may =
    subst (λ (o : Option (List ℕ)). StandsBehind frames (Ok (StatementMeaning.Touches target direction)) above
    (carry_touch (counted c) o target direction)) (sym may.2.1)
    record {
      number = omega (arith, h.number);
      tool = h.tool;
      frame = h.frame;
      wanted = h.wanted;
      touched = omega (arith, length-append c.touches (touch_with may.2.0 c.frame target direction ∷ []), h.touched);
    }
behind_said frames above c StatementMeaning.Ends h idle may = record {
  number = omega (arith, h.number);
  tool = h.tool;
  frame = h.frame;
  wanted = refl;
  touched = left_count c.open_block may.0 c.touches may.1;
}
behind_said frames above c (StatementMeaning.Selects name) h idle may =
    record { number = omega (arith, h.number); tool = refl; frame = h.frame; wanted = h.wanted; touched = h.touched }
behind_said frames above c (StatementMeaning.Recalls name) h idle may =
    subst (λ (o : Option Point). StandsBehind frames (Ok (StatementMeaning.Recalls name)) above (recalled_at (counted c) o)) (sym may.1)
    record { number = omega (arith, h.number); tool = h.tool; frame = ap part_at (sym may.1); wanted = h.wanted; touched = h.touched }
behind_said frames above c StatementMeaning.Closes h idle may = record {
  number = omega (arith, h.number);
  tool = h.tool;
  frame = h.frame;
  wanted = h.wanted;
  touched = h.touched;
}
behind_said frames above c StatementMeaning.Passes h idle may = record {
  number = omega (arith, h.number);
  tool = h.tool;
  frame = h.frame;
  wanted = h.wanted;
  touched = h.touched;
}

stands_said : (frames : List (List ℕ × Point)) (above : List Statement) (c : ReaderState) (s : Statement) (t : StatementMeaning)
    → Stands frames above c
    → IsSound c → saying s ≡ Ok t → IsAllowed frames c.tool c.open_block (length c.touches) t
    → Stands frames (s ∷ above) (changed frames (counted c) t)
stands_said frames above c s t h sound e may =
    stands_behind frames above s (changed frames (counted c) t)
    (subst (λ (r : Result StatementMeaning Refusal). StandsBehind frames r above (changed frames (counted c) t)) (sym e)
    (behind_said frames above c t h sound.idle may))

-- the steps after a statement
touch_steps_are : (c : ReaderState) (o : Option (List ℕ)) (target : Point) (direction : Option Direction)
    → (carry_touch (counted c) o target direction).steps ≡ c.steps ++ touch_steps o c.frame target direction
touch_steps_are c None target direction = sym (append-nil c.steps)
touch_steps_are c (Some tool) target direction = refl

recall_steps_are : (c : ReaderState) (o : Option Point) → (recalled_at (counted c) o).steps ≡ c.steps ++ recall_steps o
recall_steps_are c None = sym (append-nil c.steps)
recall_steps_are c (Some offset) = refl

steps_are : (frames : List (List ℕ × Point)) (c : ReaderState) (t : StatementMeaning)
    → (changed frames (counted c) t).steps ≡ c.steps ++ steps_of frames (context_of c) t
steps_are frames c (StatementMeaning.Goes target) = refl
steps_are frames c (StatementMeaning.Begins name n) = refl
steps_are frames c (StatementMeaning.Touches target direction) = touch_steps_are c c.tool target direction
steps_are frames c StatementMeaning.Ends = refl
steps_are frames c (StatementMeaning.Selects name) = refl
steps_are frames c (StatementMeaning.Recalls name) = recall_steps_are c (offset_of frames name)
steps_are frames c StatementMeaning.Closes = sym (append-nil c.steps)
steps_are frames c StatementMeaning.Passes = sym (append-nil c.steps)

-- steps so far, and what is to come
abbrev whole : List Step → Result (List Step) (Refusal × ℕ) → Result Meaning (Refusal × ℕ)
whole front (Ok steps) = Ok (meaning_with (front ++ steps))
whole front (Err e) = Err e

whole_none : (r : Result (List Step) (Refusal × ℕ)) → whole [] r ≡ meant r
whole_none (Ok steps) = refl
whole_none (Err e) = refl

whole_front : (front steps : List Step) (r : Result (List Step) (Refusal × ℕ)) → whole (front ++ steps) r ≡ whole front (with_front steps r)
whole_front front steps (Ok more) = ap (λ (all : List Step). Ok (meaning_with all)) (append_assoc front steps more)
whole_front front steps (Err e) = refl

-- where a program closes, all that was carried is its meaning
closed_is : (c : ReaderState) → IsSound c → c.open_block ≡ None
    → ◌≡◌ {A = Result Meaning (Refusal × ℕ)} (Ok (record { features = c.done; steps = c.steps })) (Ok (meaning_with (c.steps ++ [])))
closed_is c h out = rw (append-nil c.steps, done_is c h out) refl

-- a statement's part of a run, and of the meaning
abbrev RunsAs : List (List ℕ × Point) → Option TextFault → ℕ → List Statement → List Statement → ReaderState → Type 0
RunsAs frames fault lines statements above c = run frames fault lines statements c
    ≡ whole c.steps (steps_from frames fault lines above statements)

goes_on : (frames : List (List ℕ × Point)) (fault : Option TextFault) (lines : ℕ) (statements above : List Statement) (c : ReaderState)
    (s : Statement) (t : StatementMeaning) → IsSound c → context_of c ≡ context_at frames above → closes t ≡ false
    → RunsAs frames fault lines statements (s ∷ above) (changed frames (counted c) t)
    → ran s.line (Ok (closes t, changed frames (counted c) t)) (run frames fault lines statements)
    ≡ whole c.steps (continued s.line (Ok t) (steps_of frames (context_at frames above))
    (steps_from frames fault lines (s ∷ above) statements))
goes_on frames fault lines statements above c s t sound same open_end behind =
    rw (open_end, behind, steps_are frames c t, ← same) (whole_front c.steps (steps_of frames (context_of c) t)
    (steps_from frames fault lines (s ∷ above) statements))

by_judgement : (frames : List (List ℕ × Point)) (fault : Option TextFault) (lines : ℕ) (statements above : List Statement) (c : ReaderState)
    (s : Statement) (r : Result StatementMeaning Refusal) → IsSound c → context_of c ≡ context_at frames above → IfOk r (MayFollow frames c)
    → ((t : StatementMeaning) → r ≡ Ok t → RunsAs frames fault lines statements (s ∷ above) (changed frames (counted c) t))
    → ran s.line (r >>= λ t. Ok (closes t, changed frames (counted c) t)) (run frames fault lines statements)
    ≡ whole c.steps (continued s.line r (steps_of frames (context_at frames above)) (steps_from frames fault lines (s ∷ above) statements))
by_judgement frames fault lines statements above c s (Err e) sound same may behind = refl
by_judgement frames fault lines statements above c s (Ok (StatementMeaning.Goes target)) sound same may behind =
    goes_on frames fault lines statements above c s (StatementMeaning.Goes target) sound same refl (behind (StatementMeaning.Goes target) refl)
by_judgement frames fault lines statements above c s (Ok (StatementMeaning.Begins name n)) sound same may behind =
    goes_on frames fault lines statements above c s (StatementMeaning.Begins name n) sound same refl (behind (StatementMeaning.Begins name n) refl)
by_judgement frames fault lines statements above c s (Ok (StatementMeaning.Touches target direction)) sound same may behind =
    goes_on frames fault lines statements above c s (StatementMeaning.Touches target direction) sound same refl
    (behind (StatementMeaning.Touches target direction) refl)
by_judgement frames fault lines statements above c s (Ok StatementMeaning.Ends) sound same may behind =
    goes_on frames fault lines statements above c s StatementMeaning.Ends sound same refl (behind StatementMeaning.Ends refl)
by_judgement frames fault lines statements above c s (Ok (StatementMeaning.Selects name)) sound same may behind =
    goes_on frames fault lines statements above c s (StatementMeaning.Selects name) sound same refl (behind (StatementMeaning.Selects name) refl)
by_judgement frames fault lines statements above c s (Ok (StatementMeaning.Recalls name)) sound same may behind =
    goes_on frames fault lines statements above c s (StatementMeaning.Recalls name) sound same refl (behind (StatementMeaning.Recalls name) refl)
by_judgement frames fault lines statements above c s (Ok StatementMeaning.Closes) sound same may behind = closed_is c sound may.1
by_judgement frames fault lines statements above c s (Ok StatementMeaning.Passes) sound same may behind =
    goes_on frames fault lines statements above c s StatementMeaning.Passes sound same refl (behind StatementMeaning.Passes refl)

may_follow : (frames : List (List ℕ × Point)) (c : ReaderState) (s : Statement) (t : StatementMeaning)
    → judged frames (context_of c) s ≡ Ok t
    → MayFollow frames c t
may_follow frames c s t e = rw e at (judged_if frames c s)

run_is : (frames : List (List ℕ × Point)) (fault : Option TextFault) (lines : ℕ) (statements above : List Statement) (c : ReaderState)
    → AreInVolume frames → IsSound c → Stands frames above c → RunsAs frames fault lines statements above c
run_is frames fault lines [] above c volume sound stands = rw stands.number refl
run_is frames fault lines (s ∷ statements) above c volume sound stands =
    let same = context_is frames above c stands in
    subst (λ (k : Context). ran s.line (judged frames (context_of c) s >>= λ t. Ok (closes t, changed frames (counted c) t))
    (run frames fault lines statements) ≡ whole c.steps (continued s.line (judged frames k s)
    (steps_of frames (context_at frames above)) (steps_from frames fault lines (s ∷ above) statements))) same
    (by_judgement frames fault lines statements above c s (judged frames (context_of c) s) sound same (judged_if frames c s) (λ t e.
    let may = may_follow frames c s t e in
    run_is frames fault lines statements (s ∷ above) (changed frames (counted c) t) volume (sound_after frames c t volume sound may)
    (stands_said frames above c s t stands sound (said_is frames (context_of c) s t e) may.1)))

-- from the first statement on the code gives the meaning
pub run_from_start : (frames : List (List ℕ × Point)) (fault : Option TextFault) (lines : ℕ) (statements : List Statement)
    → AreInVolume frames → run frames fault lines statements no_statement ≡ meant (steps_from frames fault lines [] statements)
run_from_start frames fault lines statements volume =
    run_is frames fault lines statements [] no_statement volume sound_at_start record {
      number = refl;
      tool = refl;
      frame = refl;
      wanted = refl;
      touched = refl;
    }
    ∙ whole_none (steps_from frames fault lines [] statements)

-- each statement keeps what holds, and the closing one leaves a program
pub record KeepsSound (closed : Bool) (c : ReaderState) : Type 0 where
  pub sound : IsSound c
  pub program : closed ≡ true → IsProgram (record { features = c.done; steps = c.steps })

closes_out : (frames : List (List ℕ × Point)) (c : ReaderState) (t : StatementMeaning) → closes t ≡ true → MayFollow frames c t
    → c.open_block ≡ None
closes_out frames c (StatementMeaning.Goes target) e may = absurd cc
closes_out frames c (StatementMeaning.Begins name n) e may = absurd cc
closes_out frames c (StatementMeaning.Touches target direction) e may = absurd cc
closes_out frames c StatementMeaning.Ends e may = absurd cc
closes_out frames c (StatementMeaning.Selects name) e may = absurd cc
closes_out frames c (StatementMeaning.Recalls name) e may = absurd cc
closes_out frames c StatementMeaning.Closes e may = may.1
closes_out frames c StatementMeaning.Passes e may = absurd cc

closes_same : (frames : List (List ℕ × Point)) (c : ReaderState) (t : StatementMeaning) → closes t ≡ true
    → changed frames (counted c) t ≡ counted c
closes_same frames c (StatementMeaning.Goes target) e = absurd cc
closes_same frames c (StatementMeaning.Begins name n) e = absurd cc
closes_same frames c (StatementMeaning.Touches target direction) e = absurd cc
closes_same frames c StatementMeaning.Ends e = absurd cc
closes_same frames c (StatementMeaning.Selects name) e = absurd cc
closes_same frames c (StatementMeaning.Recalls name) e = absurd cc
closes_same frames c StatementMeaning.Closes e = refl
closes_same frames c StatementMeaning.Passes e = absurd cc

keeps_said : (frames : List (List ℕ × Point)) (c : ReaderState) (r : Result StatementMeaning Refusal) (closed : Bool) (d : ReaderState)
    → AreInVolume frames
    → IsSound c → IfOk r (MayFollow frames c) → ◌>>=◌ {B = Bool × ReaderState} r (λ t. Ok (closes t, changed frames (counted c) t))
    ≡ Ok (closed, d) → KeepsSound closed d
keeps_said frames c (Err e) closed d volume sound may h = absurd cc
keeps_said frames c (Ok t) closed d volume sound may h =
    let after = sound_after frames c t volume sound may in
    let both : ◌≡◌ {A = Bool × ReaderState} (closes t, changed frames (counted c) t) (closed, d) = cc in
    let same : changed frames (counted c) t ≡ d = ap (λ (p : Bool × ReaderState). p.1) both in
    let ends : closes t ≡ closed = ap (λ (p : Bool × ReaderState). p.0) both in
    record {
      sound = subst IsSound same after;
      program = λ e. subst (λ (k : ReaderState). IsProgram (record { features = k.done; steps = k.steps })) same
          (program_is (changed frames (counted c) t) after (rw (closes_same frames c t (ends ∙ e)) (closes_out frames c t (ends ∙ e) may)));
    }

pub keeps_sound : (frames : List (List ℕ × Point)) (c : ReaderState) (s : Statement) (closed : Bool) (d : ReaderState) → AreInVolume frames
    → IsSound c → next frames c s ≡ Ok (closed, d) → KeepsSound closed d
keeps_sound frames c s closed d volume sound h = keeps_said frames c (judged frames (context_of c) s) closed d volume sound
    (judged_if frames c s) h

-- a text from its first statement on
pub starts : (frames : List (List ℕ × Point)) (text : List ℕ) (left : List Statement) (fault : Option TextFault) (n : ℕ) (c : ReaderState)
    → AreInVolume frames → c ≡ no_statement → left ≡ (text_reading text).statements → fault ≡ (text_reading text).fault
    → n ≡ length (lines text) → run frames fault n left c ≡ program_of frames text
unfolding meaning_of
starts frames text left fault n c volume e f g h = rw (e, f, g, h)
    (run_from_start frames (text_reading text).fault (length (lines text)) (text_reading text).statements volume)

-- one statement more, by what the code gives at it
pub goes_past : (frames : List (List ℕ × Point)) (fault : Option TextFault) (n : ℕ) (s : Statement) (all left : List Statement)
    (c d : ReaderState) → all ≡ s ∷ left → next frames c s ≡ Ok (false, d) → run frames fault n left d ≡ run frames fault n all c
goes_past frames fault n s all left c d split e = rw (split, e) refl

pub closes_at : (frames : List (List ℕ × Point)) (fault : Option TextFault) (n : ℕ) (s : Statement) (all left : List Statement)
    (c d : ReaderState) → all ≡ s ∷ left → next frames c s ≡ Ok (true, d)
    → run frames fault n all c ≡ Ok (record { features = d.done; steps = d.steps })
closes_at frames fault n s all left c d split e = rw (split, e) refl

pub refused_at_statement : (frames : List (List ℕ × Point)) (fault : Option TextFault) (n : ℕ) (s : Statement) (all left : List Statement)
    (c : ReaderState) (refusal : Refusal) → all ≡ s ∷ left → next frames c s ≡ Err refusal
    → run frames fault n all c ≡ Err (refusal, s.line)
refused_at_statement frames fault n s all left c refusal split e = rw (split, e) refl

pub ends_at : (frames : List (List ℕ × Point)) (fault : Option TextFault) (n : ℕ) (all : List Statement) (c : ReaderState) → all ≡ []
    → run frames fault n all c ≡ Err (ended fault c.number n)
ends_at frames fault n all c e = rw e refl
