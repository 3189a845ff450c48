-- What is carried decides as what is looked back for.
use Rattle.program_lowering.proofs.Names.{◌>>=◌, ◌∙◌, ◌∷◌, ◌≡◌, after_said, ap, arith, Bool, bound_count, bound_said, cond, Context, context_at}
use Rattle.program_lowering.proofs.Names.{context_of, due, Err, false, is_none, is_some, is_too_few, keyword_of, length, List, nat_le, nearest, None}
use Rattle.program_lowering.proofs.Names.{Ok, Option, or_else, Point, refl, Refusal, refused_by, Result, saying, settled, Some, some_tool, Statement}
use Rattle.program_lowering.proofs.Names.{StatementMeaning, subst, suc, sym, tool_said, TooLarge, touched, touched_with, true, word_refusal, ℕ}
use Rattle.dmis_program.specs.Judging.{judged}
use Rattle.dmis_program.specs.Offsets.{offset_of}
use Rattle.dmis_program.specs.declared.sayings.StatementMeaning.TheVariants as said
use Rattle.program_lowering.specs.declared.above.Above.{Above}
use Rattle.program_lowering.specs.Inches.{stated}
use Rattle.program_lowering.proofs.InchLemmas.{judged_stated}

-- which tool is selected does not matter, but whether one is
settled_same : (frames : List (List ℕ × Point)) (t u : Option (List ℕ)) (wanted : Option ℕ) (n : ℕ) (m : StatementMeaning)
    → is_none t ≡ is_none u → settled frames t wanted n m ≡ settled frames u wanted n m
settled_same frames t u wanted n (said.Goes target) e = refl
settled_same frames t u wanted n (said.Begins name count) e = refl
settled_same frames t u wanted n (said.Touches target direction) e = rw e refl
settled_same frames t u wanted n said.Ends e = refl
settled_same frames t u wanted n (said.Selects name) e = refl
settled_same frames t u wanted n (said.Recalls name) e = refl
settled_same frames t u wanted n said.Closes e = refl
settled_same frames t u wanted n said.Passes e = refl

settling_same : (frames : List (List ℕ × Point)) (t u : Option (List ℕ)) (wanted : Option ℕ) (n : ℕ) (r : Result StatementMeaning Refusal)
    → is_none t ≡ is_none u → (r >>= settled frames t wanted n) ≡ (r >>= settled frames u wanted n)
settling_same frames t u wanted n (Ok m) e = settled_same frames t u wanted n m e
settling_same frames t u wanted n (Err refusal) e = refl

-- two contexts decide alike
pub record Alike (c d : Context) : Type 0 where
  pub number : c.number ≡ d.number
  pub tool : is_none c.tool ≡ is_none d.tool
  pub wanted : c.wanted ≡ d.wanted
  pub touched : c.touched ≡ d.touched

pub judged_alike : (frames : List (List ℕ × Point)) (c d : Context) (s : Statement) → Alike c d → judged frames c s ≡ judged frames d s
unfolding judged
judged_alike frames c d s h = rw (
  h.number,
  h.wanted,
  h.touched,
  settling_same frames c.tool d.tool d.wanted d.touched (saying s) h.tool,
) refl

-- the parts of what is carried, as they are above
pub record Stands (aboves : List Statement) (a : Above) : Type 0 where
  pub number : a.number ≡ length aboves
  pub tool : a.has_tool ≡ is_some (nearest tool_said aboves)
  pub wanted : a.wanted ≡ bound_count (nearest bound_said aboves)
  pub touched : a.touched ≡ touched aboves

none_of : (o : Option (List ℕ)) → is_none (some_tool (is_some o)) ≡ is_none o
none_of None = refl
none_of (Some name) = refl

pub due_is : (frames : List (List ℕ × Point)) (aboves : List Statement) (a : Above) (b : Bool) (s : Statement) → Stands aboves a
    → due frames a b s ≡ judged frames (context_at frames aboves) (stated b s)
due_is frames aboves a b s h =
    judged_stated frames (context_of a) b s
    ∙ judged_alike frames (context_of a) (context_at frames aboves) (stated b s) record {
      number = h.number;
      tool = ap (λ (b : Bool). is_none (some_tool b)) h.tool ∙ none_of (nearest tool_said aboves);
      wanted = h.wanted;
      touched = h.touched;
    }

-- the same after one statement more, by what it says
record StandsAfter (r : Result StatementMeaning Refusal) (aboves : List Statement) (a : Above) : Type 0 where
  number : a.number ≡ suc (length aboves)
  tool : a.has_tool ≡ is_some (or_else (tool_said r) (nearest tool_said aboves))
  wanted : a.wanted ≡ bound_count (or_else (bound_said r) (nearest bound_said aboves))
  touched : a.touched ≡ touched_with r (touched aboves)

stands_said : (aboves : List Statement) (a : Above) (m : StatementMeaning) → Stands aboves a → StandsAfter (Ok m) aboves (after_said a m)
stands_said aboves a (said.Goes target) h = record {
  number = omega (arith, h.number);
  tool = h.tool;
  wanted = h.wanted;
  touched = h.touched;
}
stands_said aboves a (said.Begins name count) h = record {
  number = omega (arith, h.number);
  tool = h.tool;
  wanted = refl;
  touched = refl;
}
stands_said aboves a (said.Touches target direction) h = record {
  number = omega (arith, h.number);
  tool = h.tool;
  wanted = h.wanted;
  touched = omega (arith, h.touched);
}
stands_said aboves a said.Ends h = record {
  number = omega (arith, h.number);
  tool = h.tool;
  wanted = refl;
  touched = refl;
}
stands_said aboves a (said.Selects name) h = record {
  number = omega (arith, h.number);
  tool = refl;
  wanted = h.wanted;
  touched = h.touched;
}
stands_said aboves a (said.Recalls name) h = record {
  number = omega (arith, h.number);
  tool = h.tool;
  wanted = h.wanted;
  touched = h.touched;
}
stands_said aboves a said.Closes h = record {
  number = omega (arith, h.number);
  tool = h.tool;
  wanted = h.wanted;
  touched = h.touched;
}
stands_said aboves a said.Passes h = record {
  number = omega (arith, h.number);
  tool = h.tool;
  wanted = h.wanted;
  touched = h.touched;
}

stands_over : (aboves : List Statement) (a : Above) (s : Statement) → StandsAfter (saying s) aboves a → Stands (s ∷ aboves) a
stands_over aboves a s h = record { number = h.number; tool = h.tool; wanted = h.wanted; touched = h.touched }

pub stands_after : (aboves : List Statement) (a : Above) (s : Statement) (m : StatementMeaning) → Stands aboves a → saying s ≡ Ok m
    → Stands (s ∷ aboves) (after_said a m)
stands_after aboves a s m h e = stands_over aboves (after_said a m) s
    (subst (λ (r : Result StatementMeaning Refusal). StandsAfter r aboves (after_said a m)) (sym e) (stands_said aboves a m h))

-- what a statement that is accepted says, it says by itself
unless_is : (b : Bool) (e : Refusal) (m n : StatementMeaning) → cond b (Err e) (Ok m) ≡ Ok n → m ≡ n
unless_is true e m n h = absurd cc
unless_is false e m n h = cc

settled_is : (frames : List (List ℕ × Point)) (tool : Option (List ℕ)) (wanted : Option ℕ) (count : ℕ) (m n : StatementMeaning)
    → settled frames tool wanted count m ≡ Ok n → m ≡ n
settled_is frames tool wanted count (said.Goes target) n h = cc
settled_is frames tool wanted count (said.Begins name k) n h = cc
settled_is frames tool wanted count (said.Touches target direction) n h = unless_is (is_none tool) _ (said.Touches target direction) n h
settled_is frames tool wanted count said.Ends n h = unless_is (is_too_few wanted count) _ said.Ends n h
settled_is frames tool wanted count (said.Selects name) n h = cc
settled_is frames tool wanted count (said.Recalls name) n h = unless_is (is_none (offset_of frames name)) _ (said.Recalls name) n h
settled_is frames tool wanted count said.Closes n h = cc
settled_is frames tool wanted count said.Passes n h = cc

settling_is : (frames : List (List ℕ × Point)) (tool : Option (List ℕ)) (wanted : Option ℕ) (count : ℕ)
    (r : Result StatementMeaning Refusal) (n : StatementMeaning) → (r >>= settled frames tool wanted count) ≡ Ok n → r ≡ Ok n
settling_is frames tool wanted count (Ok m) n h = ap (λ (x : StatementMeaning). Ok x) (settled_is frames tool wanted count m n h)
settling_is frames tool wanted count (Err e) n h = absurd cc

-- an accepted statement: the count, the word and the place refuse nothing, and it says this
pub record IsAccepted (frames : List (List ℕ × Point)) (c : Context) (s : Statement) (m : StatementMeaning) : Type 0 where
  pub few : nat_le 10000 c.number ≡ false
  pub known : word_refusal c.number c.wanted (keyword_of s.word) s.params ≡ None
  pub says : saying s ≡ Ok m
  pub settles : settled frames c.tool c.wanted c.touched m ≡ Ok m

-- the three steps of a judgement that is no refusal
record IsReached (b : Bool) (o : Option Refusal) (r : Result StatementMeaning Refusal) (m : StatementMeaning) : Type 0 where
  few : b ≡ false
  known : o ≡ None
  says : r ≡ Ok m

reached : (b : Bool) (e : Refusal) (o : Option Refusal) (r : Result StatementMeaning Refusal) (m : StatementMeaning)
    → cond b (Err e) (refused_by o r) ≡ Ok m → IsReached b o r m
reached true e o r m h = absurd cc
reached false e (Some x) r m h = absurd cc
reached false e None r m h = record { few = refl; known = refl; says = h }

pub accepted_if : (frames : List (List ℕ × Point)) (c : Context) (s : Statement) (m : StatementMeaning) → judged frames c s ≡ Ok m
    → IsAccepted frames c s m
unfolding judged
accepted_if frames c s m h =
    let r = reached (nat_le 10000 c.number) TooLarge (word_refusal c.number c.wanted (keyword_of s.word) s.params)
    (saying s >>= settled frames c.tool c.wanted c.touched) m h in
    let says = settling_is frames c.tool c.wanted c.touched (saying s) m r.says in
    record { few = r.few; known = r.known; says = says; settles = rw says at r.says }

pub accepts : (frames : List (List ℕ × Point)) (c : Context) (s : Statement) (m : StatementMeaning) → IsAccepted frames c s m
    → judged frames c s ≡ Ok m
unfolding judged
accepts frames c s m h = rw (h.few, h.known, h.says) h.settles
