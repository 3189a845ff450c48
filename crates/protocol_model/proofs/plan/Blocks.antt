-- What a plan needs of a program: its blocks, and what is selected where.
use Rattle.protocol_model.proofs.Names.{[], ◌+◌, ◌<◌, ◌∷◌, ◌≡◌, ◌≤◌, ap, AreBlocks as AreCounted, arith, block_touches, Bool, false, features_of}
use Rattle.protocol_model.proofs.Names.{FollowSelections, Frame, IsProgram, length, List, Meaning as Program, None, Option, Part, refl, Some, Step}
use Rattle.protocol_model.proofs.Names.{sym, true, ℕ}
use Rattle.fixed_um.specs.declared.frames.Frame.TheVariants.{Machine}

-- blocks are not nested, touches are inside them, each has a touch, and each ends
abbrev pub AreBlocks : Bool → List Step → Type 0
AreBlocks inside [] = inside ≡ false
AreBlocks inside (Step.Goto p ∷ ss) = AreBlocks inside ss
AreBlocks inside (Step.Begin l ∷ ss) = (inside ≡ false) × (block_touches ss ≡ [] → ⊥) × AreBlocks true ss
AreBlocks inside (Step.Touch t ∷ ss) = (inside ≡ true) × AreBlocks inside ss
AreBlocks inside (Step.Tool n ∷ ss) = AreBlocks inside ss
AreBlocks inside (Step.Recall p ∷ ss) = AreBlocks inside ss
AreBlocks inside (Step.End ∷ ss) = (inside ≡ true) × AreBlocks false ss

-- each touch wants the tool and the frame that are selected before it
abbrev pub AreSelected : Option (List ℕ) → Frame → List Step → Type 0
AreSelected tool frame [] = Unit {0}
AreSelected tool frame (Step.Goto p ∷ ss) = AreSelected tool frame ss
AreSelected tool frame (Step.Begin l ∷ ss) = AreSelected tool frame ss
AreSelected tool frame (Step.Touch t ∷ ss) = (tool ≡ Some t.tool) × (frame ≡ t.frame) × AreSelected tool frame ss
AreSelected tool frame (Step.Tool n ∷ ss) = AreSelected (Some n) frame ss
AreSelected tool frame (Step.Recall p ∷ ss) = AreSelected tool (Part p) ss
AreSelected tool frame (Step.End ∷ ss) = AreSelected tool frame ss

-- a program's features are those of its blocks, and its touches have what is selected before them, at first no tool and the machine's frame
pub record IsPlain (p : Program) : Type 0 where
  pub features : p.features ≡ features_of p.steps
  pub blocks : AreBlocks false p.steps
  pub selected : AreSelected None Machine p.steps

-- ---- a program is such a one

some_left : (n : ℕ) (ss : List Step) → AreCounted (Some n) ss → 1 ≤ n + length (block_touches ss)
some_left n [] h = absurd h
some_left n (Step.Goto p ∷ ss) h = some_left n ss h
some_left n (Step.Begin l ∷ ss) h = absurd h
some_left n (Step.Touch t ∷ ss) h = omega arith
some_left n (Step.Tool m ∷ ss) h = some_left n ss h
some_left n (Step.Recall p ∷ ss) h = some_left n ss h
some_left n (Step.End ∷ ss) h = let some : 0 < n = h.0 in omega arith

not_none : (ss : List Step) → AreCounted (Some 0) ss → block_touches ss ≡ [] → ⊥
not_none ss h e = let long : 1 ≤ 0 + length (block_touches ss) = some_left 0 ss h in let short : length (block_touches ss) ≡ 0 = ap length e
    in omega arith

abbrev is_open : Option ℕ → Bool
is_open None = false
is_open (Some n) = true

blocks_are : (o : Option ℕ) (ss : List Step) → AreCounted o ss → AreBlocks (is_open o) ss
blocks_are None [] h = refl
blocks_are None (Step.Goto p ∷ ss) h = blocks_are None ss h
blocks_are None (Step.Begin l ∷ ss) h = (refl, not_none ss h, blocks_are (Some 0) ss h)
blocks_are None (Step.Touch t ∷ ss) h = absurd h
blocks_are None (Step.Tool m ∷ ss) h = blocks_are None ss h
blocks_are None (Step.Recall p ∷ ss) h = blocks_are None ss h
blocks_are None (Step.End ∷ ss) h = absurd h
blocks_are (Some n) [] h = absurd h
blocks_are (Some n) (Step.Goto p ∷ ss) h = blocks_are (Some n) ss h
blocks_are (Some n) (Step.Begin l ∷ ss) h = absurd h
blocks_are (Some n) (Step.Touch t ∷ ss) h = (refl, blocks_are (Some (n + 1)) ss h)
blocks_are (Some n) (Step.Tool m ∷ ss) h = blocks_are (Some n) ss h
blocks_are (Some n) (Step.Recall p ∷ ss) h = blocks_are (Some n) ss h
blocks_are (Some n) (Step.End ∷ ss) h = (refl, blocks_are None ss h.1)

selected_are : (tool : Option (List ℕ)) (frame : Frame) (ss : List Step) → FollowSelections tool frame ss → AreSelected tool frame ss
selected_are tool frame [] h = tt
selected_are tool frame (Step.Goto p ∷ ss) h = selected_are tool frame ss h
selected_are tool frame (Step.Begin l ∷ ss) h = selected_are tool frame ss h
selected_are tool frame (Step.Touch t ∷ ss) h = (h.0, sym h.1, selected_are tool frame ss h.2)
selected_are tool frame (Step.Tool m ∷ ss) h = selected_are (Some m) frame ss h
selected_are tool frame (Step.Recall p ∷ ss) h = selected_are tool (Part p) ss h
selected_are tool frame (Step.End ∷ ss) h = selected_are tool frame ss h

-- the features, touches and selections of a program are those of its steps
pub program_is_plain : (p : Program) → IsProgram p → IsPlain p
program_is_plain p h = record {
  features = h.built;
  blocks = blocks_are None p.steps h.blocks;
  selected = selected_are None Machine p.steps h.selections;
}
