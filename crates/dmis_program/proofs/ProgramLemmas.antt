-- What follows for the features of steps that are in blocks.
use Rattle.dmis_program.proofs.Names.{[], ◌++◌, ◌+◌, ◌∙◌, ◌∷◌, ◌≡◌, ◌≤◌, AllByRecursion, ap, append-nil, AreBlocks, arith, Begin, block_touches, End}
use Rattle.dmis_program.proofs.Names.{feature_touches, features_of, FollowSelections, Goto, IsFeature, IsProgram, IsStep, IsTouch, length, List}
use Rattle.dmis_program.proofs.Names.{Machine, None, Option, ReaderState, Recall, refl, Some, Step, subst, sym, Tool, Touch, touches_of, ℕ}
use Rattle.dmis_program.proofs.Sound.{IsSound}
use Rattle.dmis_program.specs.declared.features.Touch as touch

-- the touches of the open block are not those of a feature to come
abbrev before : Option ℕ → List Step → List touch.Touch
before None steps = []
before (Some n) steps = block_touches steps

pub touches_are : (o : Option ℕ) (steps : List Step) → AreBlocks o steps
    → touches_of steps ≡ before o steps ++ feature_touches (features_of steps)
touches_are None [] h = refl
touches_are None (Goto target ∷ steps) h = touches_are None steps h
touches_are None (Begin label ∷ steps) h = touches_are (Some 0) steps h
touches_are None (Touch t ∷ steps) h = absurd h
touches_are None (Tool name ∷ steps) h = touches_are None steps h
touches_are None (Recall offset ∷ steps) h = touches_are None steps h
touches_are None (End ∷ steps) h = absurd h
touches_are (Some n) [] h = absurd h
touches_are (Some n) (Goto target ∷ steps) h = touches_are (Some n) steps h
touches_are (Some n) (Begin label ∷ steps) h = absurd h
touches_are (Some n) (Touch t ∷ steps) h = ap (λ (ts : List touch.Touch). t ∷ ts) (touches_are (Some (n + 1)) steps h)
touches_are (Some n) (Tool name ∷ steps) h = touches_are (Some n) steps h
touches_are (Some n) (Recall offset ∷ steps) h = touches_are (Some n) steps h
touches_are (Some n) (End ∷ steps) h = touches_are None steps h.1

-- the touches of a block: each is one, there is one at least, and there are no more than steps
block_all : (steps : List Step) → AllByRecursion IsStep steps → AllByRecursion IsTouch (block_touches steps)
block_all [] h = tt
block_all (Goto target ∷ steps) h = block_all steps h.1
block_all (Begin label ∷ steps) h = block_all steps h.1
block_all (Touch t ∷ steps) h = (h.0, block_all steps h.1)
block_all (Tool name ∷ steps) h = block_all steps h.1
block_all (Recall offset ∷ steps) h = block_all steps h.1
block_all (End ∷ steps) h = tt

block_some : (n : ℕ) (steps : List Step) → AreBlocks (Some n) steps → 1 ≤ n + length (block_touches steps)
block_some n [] h = absurd h
block_some n (Goto target ∷ steps) h = block_some n steps h
block_some n (Begin label ∷ steps) h = absurd h
block_some n (Touch t ∷ steps) h = omega arith
block_some n (Tool name ∷ steps) h = block_some n steps h
block_some n (Recall offset ∷ steps) h = block_some n steps h
block_some n (End ∷ steps) h = omega (arith, h.0)

block_few : (steps : List Step) → length (block_touches steps) ≤ length steps
block_few [] = omega arith
block_few (Goto target ∷ steps) = omega (arith, block_few steps)
block_few (Begin label ∷ steps) = omega (arith, block_few steps)
block_few (Touch t ∷ steps) = omega (arith, block_few steps)
block_few (Tool name ∷ steps) = omega (arith, block_few steps)
block_few (Recall offset ∷ steps) = omega (arith, block_few steps)
block_few (End ∷ steps) = omega arith

pub features_are : (o : Option ℕ) (steps : List Step) → AreBlocks o steps → AllByRecursion IsStep steps → length steps ≤ 10000
    → AllByRecursion IsFeature (features_of steps)
features_are None [] h all few = tt
features_are None (Goto target ∷ steps) h all few = features_are None steps h all.1 (omega arith)
features_are None (Begin label ∷ steps) h all few = (
  record {
    label = all.0;
    some = omega (arith, block_some 0 steps h);
    few = omega (arith, block_few steps);
    touches = block_all steps all.1;
  },
  features_are (Some 0) steps h all.1 (omega arith),
)
features_are None (Touch t ∷ steps) h all few = absurd h
features_are None (Tool name ∷ steps) h all few = features_are None steps h all.1 (omega arith)
features_are None (Recall offset ∷ steps) h all few = features_are None steps h all.1 (omega arith)
features_are None (End ∷ steps) h all few = absurd h
features_are (Some n) [] h all few = absurd h
features_are (Some n) (Goto target ∷ steps) h all few = features_are (Some n) steps h all.1 (omega arith)
features_are (Some n) (Begin label ∷ steps) h all few = absurd h
features_are (Some n) (Touch t ∷ steps) h all few = features_are (Some (n + 1)) steps h all.1 (omega arith)
features_are (Some n) (Tool name ∷ steps) h all few = features_are (Some n) steps h all.1 (omega arith)
features_are (Some n) (Recall offset ∷ steps) h all few = features_are (Some n) steps h all.1 (omega arith)
features_are (Some n) (End ∷ steps) h all few = features_are None steps h.1 all.1 (omega arith)

-- where no block is open, the features are those of the steps
pub done_is : (c : ReaderState) → IsSound c → c.open_block ≡ None → c.done ≡ features_of c.steps
done_is c h out = sym (append-nil c.done) ∙ sym (rw (append-nil c.steps, out) at (h.features []))

pub program_is : (c : ReaderState) → IsSound c → c.open_block ≡ None → IsProgram (record { features = c.done; steps = c.steps })
program_is c h out =
    let built = done_is c h out in
    let blocks = subst (AreBlocks None) (append-nil c.steps) (h.blocks [] (rw out tt)) in
    let few : length c.steps ≤ 10000 = omega (arith, h.short, h.few) in
    record {
      built = built;
      blocks = blocks;
      selections = subst (FollowSelections None Machine) (append-nil c.steps) (h.selections [] tt);
      steps = h.steps;
      short = few;
      features = rw built (features_are None c.steps blocks h.steps few);
      touches = rw built (touches_are None c.steps blocks);
    }
