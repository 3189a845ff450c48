-- The tasks up to the last touch of some features are the steps up to it, and those after it are the steps after it.
use Rattle.program_review.proofs.Names.{[], ◌++◌, ◌+◌, ◌-◌, ◌∙◌, ◌∷◌, ◌≡◌, ◌≤◌, after_touch, ap, AreBlocks, arith, behind, block_touches, Bool, cond}
use Rattle.program_review.proofs.Names.{false, feature_touches, features_of, is_empty, length, List, None, Option, refl, Some, Step, subst, suc, sym}
use Rattle.program_review.proofs.Names.{take, Task, TaskLine, touches_left, touches_of, true, up_to, up_to_touch, Wanted, zero, ℕ}
use Rattle.dmis_program.specs.declared.features.Touch.{Touch}
use Rattle.program_review.proofs.TaskSteps.{AreTasks}

-- that many features are completed in the steps
abbrev pub reaches : ℕ → List Step → Bool
reaches zero ss = true
reaches (suc k) [] = false
reaches (suc k) (Step.Touch t ∷ ss) = cond (is_empty (block_touches ss)) (reaches k ss) (reaches (suc k) ss)
reaches (suc k) (s ∷ ss) = reaches (suc k) ss

abbrev pub count_of : ℕ → List Step → ℕ
count_of k ss = length (touches_of (up_to k ss))

some_left : (k : ℕ) (ss : List Step) → reaches (suc k) ss ≡ true → 1 ≤ count_of (suc k) ss
some_left k [] h = absurd cc
some_left k (Step.Touch t ∷ ss) h = omega arith
some_left k (s ∷ ss) h = some_left k ss h

abbrev pub Parts : (Step → ℕ → Type 0) → List Step → List Step → ℕ → List TaskLine → Type 0
Parts on before after n ts = AreTasks on before (up_to_touch n ts) × AreTasks on after (after_touch n ts)

-- a task that is no touch
passed_before : (n : ℕ) (t : TaskLine) (ts : List TaskLine) → 1 ≤ n → touches_left t.task n ≡ n → up_to_touch n (t ∷ ts) ≡ t ∷ up_to_touch n ts
passed_before zero t ts some h = absurd (omega (arith, some))
passed_before (suc n) t ts some h = ap (λ (left : ℕ). t ∷ up_to_touch left ts) h

passed_after : (n : ℕ) (t : TaskLine) (ts : List TaskLine) → 1 ≤ n → touches_left t.task n ≡ n → after_touch n (t ∷ ts) ≡ after_touch n ts
passed_after zero t ts some h = absurd (omega (arith, some))
passed_after (suc n) t ts some h = ap (λ (left : ℕ). after_touch left ts) h

-- a touch
one_less : (n : ℕ) → suc n - 1 ≡ n
one_less n = omega arith

touch_left : (n : ℕ) (t : TaskLine) → t.task ≡ Task.Touch → n ≡ touches_left t.task (suc n)
touch_left n t is = rw is (sym (one_less n))

touched : (on : Step → ℕ → Type 0) (x : Touch) (before after : List Step) (n : ℕ) (t : TaskLine) (ts : List TaskLine)
    → t.task ≡ Task.Touch → on (Step.Touch x) t.line → Parts on before after n ts
    → Parts on (Step.Touch x ∷ before) after (suc n) (t ∷ ts)
touched on x before after n t ts is h both = (
  (is, (h, subst (λ (left : ℕ). AreTasks on before (up_to_touch left ts)) (touch_left n t is) both.0)),
  subst (λ (left : ℕ). AreTasks on after (after_touch left ts)) (touch_left n t is) both.1,
)

either : (on : Step → ℕ → Type 0) (last one other : Bool) (b c a d : List Step) (ts : List TaskLine) → cond last one other ≡ true
    → (one ≡ true → Parts on b a (length (touches_of b)) ts) → (other ≡ true → Parts on c d (length (touches_of c)) ts)
    → Parts on (cond last b c) (cond last a d) (length (touches_of (cond last b c))) ts
either on true one other b c a d ts h f g = f h
either on false one other b c a d ts h f g = g h

pub parts : (on : Step → ℕ → Type 0) (k : ℕ) (ss : List Step) (ts : List TaskLine) → reaches k ss ≡ true → AreTasks on ss ts
    → Parts on (up_to k ss) (behind k ss) (count_of k ss) ts
parts on zero ss ts r h = (tt, h)
parts on (suc k) [] ts r h = absurd cc
parts on (suc k) (Step.Begin l ∷ ss) ts r h = parts on (suc k) ss ts r h
parts on (suc k) (Step.End ∷ ss) ts r h = parts on (suc k) ss ts r h
parts on (suc k) (Step.Touch x ∷ ss) (t ∷ ts) r h =
    touched on x (cond (is_empty (block_touches ss)) (up_to k ss) (up_to (suc k) ss))
    (cond (is_empty (block_touches ss)) (behind k ss) (behind (suc k) ss)) _ t ts h.0 h.1.0
    (either on (is_empty (block_touches ss)) (reaches k ss) (reaches (suc k) ss) (up_to k ss) (up_to (suc k) ss) (behind k ss)
    (behind (suc k) ss) ts r (λ e. parts on k ss ts e h.1.1) (λ e. parts on (suc k) ss ts e h.1.1))
parts on (suc k) (s ∷ ss) [] r h = absurd h
parts on (suc k) (s ∷ ss) (t ∷ ts) r h =
    let some = some_left k ss r in
    let same : touches_left t.task (count_of (suc k) ss) ≡ count_of (suc k) ss = rw h.0 refl in
    let more = parts on (suc k) ss ts r h.1.1 in
    rw (passed_before (count_of (suc k) ss) t ts some same, passed_after (count_of (suc k) ss) t ts some same)
    ((h.0, (h.1.0, more.0)), more.1)

-- where the features of a program are completed, that many touches are made
pub record IsCounted (k : ℕ) (ss : List Step) (n : ℕ) : Type 0 where
  pub there : reaches k ss ≡ true
  pub count : count_of k ss ≡ n

-- in a block of which these touches are left
abbrev Inner : ℕ → List Step → List Wanted → List Touch → Type 0
Inner k ss features [] = IsCounted k ss (length (feature_touches (take k features)))
Inner k ss features (t ∷ ts) = IsCounted (suc k) ss (length ((t ∷ ts) ++ feature_touches (take k features)))

abbrev Counted : Option ℕ → List Step → Type 0
Counted None ss = (k : ℕ) → k ≤ length (features_of ss) → IsCounted k ss (length (feature_touches (take k (features_of ss))))
Counted (Some n) ss = (k : ℕ) (rest : List Touch) → k ≤ length (features_of ss) → block_touches ss ≡ rest → Inner k ss (features_of ss) rest

abbrev IsNoTouch : Step → Type 0
IsNoTouch (Step.Touch t) = ⊥
IsNoTouch s = Unit {0}

passed : (s : Step) (k : ℕ) (ss : List Step) (n : ℕ) → IsNoTouch s → IsCounted k ss n → IsCounted k (s ∷ ss) n
passed s zero ss n quiet h = record { there = refl; count = h.count }
passed (Step.Touch t) (suc k) ss n quiet h = absurd quiet
passed s (suc k) ss n quiet h = record { there = h.there; count = h.count }

passed_within : (s : Step) (k : ℕ) (ss : List Step) (features : List Wanted) (rest : List Touch) → IsNoTouch s → Inner k ss features rest
    → Inner k (s ∷ ss) features rest
passed_within s k ss features [] quiet h = passed s k ss _ quiet h
passed_within s k ss features (t ∷ ts) quiet h = passed s (suc k) ss _ quiet h

-- one touch more, which is the last of its block if no touch follows
one_more : (t : Touch) (k n : ℕ) (ss : List Step) (rest : List Touch) → block_touches ss ≡ rest
    → cond (is_empty rest) (reaches k ss) (reaches (suc k) ss) ≡ true
    → length (touches_of (cond (is_empty rest) (up_to k ss) (up_to (suc k) ss))) ≡ n → IsCounted (suc k) (Step.Touch t ∷ ss) (suc n)
one_more t k n ss rest e there count = record {
  there = subst (λ (ts : List Touch). cond (is_empty ts) (reaches k ss) (reaches (suc k) ss) ≡ true) (sym e) there;
  count = subst (λ (ts : List Touch). suc (length (touches_of (cond (is_empty ts) (up_to k ss) (up_to (suc k) ss)))) ≡ suc n) (sym e)
      (ap (λ (m : ℕ). suc m) count);
}

touched_within : (t : Touch) (k : ℕ) (ss : List Step) (features : List Wanted) (rest : List Touch) → block_touches ss ≡ rest
    → Inner k ss features rest → IsCounted (suc k) (Step.Touch t ∷ ss) (suc (length (rest ++ feature_touches (take k features))))
touched_within t k ss features [] e h = one_more t k _ ss [] e h.there h.count
touched_within t k ss features (x ∷ rest) e h = one_more t k _ ss (x ∷ rest) e h.there h.count

touch_counted : (n : ℕ) (t : Touch) (ss : List Step) → Counted (Some (n + 1)) ss → Counted (Some n) (Step.Touch t ∷ ss)
touch_counted n t ss h k [] few e = absurd cc
touch_counted n t ss h k (x ∷ rest) few e =
    let more : block_touches ss ≡ rest = cc in touched_within t k ss (features_of ss) rest more (h k rest few more)

-- a block that has no touch yet has one to come
has_touch : (ss : List Step) → AreBlocks (Some 0) ss → block_touches ss ≡ [] → ⊥
has_touch [] h e = absurd h
has_touch (Step.Begin l ∷ ss) h e = absurd h
has_touch (Step.Touch t ∷ ss) h e = absurd cc
has_touch (Step.End ∷ ss) h e = absurd (omega (arith, h.0))
has_touch (s ∷ ss) h e = has_touch ss h e

begun : (l : List ℕ) (k : ℕ) (ss : List Step) (rest : List Touch) → AreBlocks (Some 0) ss → block_touches ss ≡ rest
    → Inner k ss (features_of ss) rest
    → IsCounted (suc k) (Step.Begin l ∷ ss) (length (block_touches ss ++ feature_touches (take k (features_of ss))))
begun l k ss [] h e inner = absurd (has_touch ss h e)
begun l k ss (t ∷ ts) h e inner = record {
  there = inner.there;
  count = inner.count ∙ ap (λ (touches : List Touch). length (touches ++ feature_touches (take k (features_of ss)))) (sym e);
}

begin_counted : (l : List ℕ) (ss : List Step) → AreBlocks (Some 0) ss → Counted (Some 0) ss → Counted None (Step.Begin l ∷ ss)
begin_counted l ss h inner zero few = record { there = refl; count = refl }
begin_counted l ss h inner (suc k) few =
    begun l k ss (block_touches ss) h refl (inner k (block_touches ss) (omega (arith, few)) refl)

end_counted : (n : ℕ) (ss : List Step) → Counted None ss → Counted (Some n) (Step.End ∷ ss)
end_counted n ss h k [] few e = passed Step.End k ss _ tt (h k few)
end_counted n ss h k (x ∷ rest) few e = absurd cc

none_counted : Counted None []
none_counted zero few = record { there = refl; count = refl }
none_counted (suc k) few = absurd (omega (arith, few))

pub counted : (o : Option ℕ) (ss : List Step) → AreBlocks o ss → Counted o ss
counted None [] h = none_counted
counted None (Step.Begin l ∷ ss) h = begin_counted l ss h (counted (Some 0) ss h)
counted None (Step.Touch t ∷ ss) h = absurd h
counted None (Step.End ∷ ss) h = absurd h
counted None (s ∷ ss) h = λ k few. passed s k ss _ tt (counted None ss h k few)
counted (Some n) [] h = absurd h
counted (Some n) (Step.Begin l ∷ ss) h = absurd h
counted (Some n) (Step.Touch t ∷ ss) h = touch_counted n t ss (counted (Some (n + 1)) ss h)
counted (Some n) (Step.End ∷ ss) h = end_counted n ss (counted None ss h.1)
counted (Some n) (s ∷ ss) h = λ k rest few e. passed_within s k ss _ rest tt (counted (Some n) ss h k rest few e)
