-- A block is a feature.
use Rattle.dmis_program.proofs.Names.{[], ◌++◌, ◌+◌, ◌∙◌, ◌∷◌, ◌≡◌, ap, AreBlocks, Begin, block_touches, End, features_of, Goto, List, None, Option}
use Rattle.dmis_program.proofs.Names.{Recall, refl, Some, StayInside, Step, Tool, Touch, touches_of, ℕ}
use Rattle.dmis_program.specs.declared.features.Touch as touch

-- the touches of a block that ends do not continue after its end
block_ends : (n : ℕ) (steps more : List Step) → AreBlocks (Some n) steps → block_touches (steps ++ more) ≡ block_touches steps
block_ends n [] more h = absurd h
block_ends n (Goto target ∷ steps) more h = block_ends n steps more h
block_ends n (Begin label ∷ steps) more h = absurd h
block_ends n (Touch t ∷ steps) more h = ap (λ (ts : List touch.Touch). t ∷ ts) (block_ends (n + 1) steps more h)
block_ends n (Tool name ∷ steps) more h = block_ends n steps more h
block_ends n (Recall offset ∷ steps) more h = block_ends n steps more h
block_ends n (End ∷ steps) more h = refl

features_front : (o : Option ℕ) (before more : List Step) → AreBlocks o before
    → features_of (before ++ more) ≡ features_of before ++ features_of more
features_front None [] more h = refl
features_front None (Goto target ∷ before) more h = features_front None before more h
features_front None (Begin label ∷ before) more h = rw (block_ends 0 before more h, features_front (Some 0) before more h) refl
features_front None (Touch t ∷ before) more h = absurd h
features_front None (Tool name ∷ before) more h = features_front None before more h
features_front None (Recall offset ∷ before) more h = features_front None before more h
features_front None (End ∷ before) more h = absurd h
features_front (Some n) [] more h = absurd h
features_front (Some n) (Goto target ∷ before) more h = features_front (Some n) before more h
features_front (Some n) (Begin label ∷ before) more h = absurd h
features_front (Some n) (Touch t ∷ before) more h = features_front (Some (n + 1)) before more h
features_front (Some n) (Tool name ∷ before) more h = features_front (Some n) before more h
features_front (Some n) (Recall offset ∷ before) more h = features_front (Some n) before more h
features_front (Some n) (End ∷ before) more h = features_front None before more h.1

inner_touches : (inner more : List Step) → StayInside inner → block_touches (inner ++ (End ∷ more)) ≡ touches_of inner
inner_touches [] more h = refl
inner_touches (Goto target ∷ inner) more h = inner_touches inner more h
inner_touches (Begin label ∷ inner) more h = absurd h
inner_touches (Touch t ∷ inner) more h = ap (λ (ts : List touch.Touch). t ∷ ts) (inner_touches inner more h)
inner_touches (Tool name ∷ inner) more h = inner_touches inner more h
inner_touches (Recall offset ∷ inner) more h = inner_touches inner more h
inner_touches (End ∷ inner) more h = absurd h

inner_features : (inner more : List Step) → StayInside inner → features_of (inner ++ (End ∷ more)) ≡ features_of more
inner_features [] more h = refl
inner_features (Goto target ∷ inner) more h = inner_features inner more h
inner_features (Begin label ∷ inner) more h = absurd h
inner_features (Touch t ∷ inner) more h = inner_features inner more h
inner_features (Tool name ∷ inner) more h = inner_features inner more h
inner_features (Recall offset ∷ inner) more h = inner_features inner more h
inner_features (End ∷ inner) more h = absurd h

pub block_is_feature : (before inner behind : List Step) (label : List ℕ) → AreBlocks None before → StayInside inner
    → features_of (before ++ (Begin label ∷ (inner ++ (End ∷ behind)))) ≡ features_of before
    ++ (record { label = label; touches = touches_of inner } ∷ features_of behind)
block_is_feature before inner behind label h g = features_front None before (Begin label ∷ (inner ++ (End ∷ behind))) h
    ∙ rw (inner_touches inner behind g, inner_features inner behind g) refl
