-- Each statement keeps what holds of the code's state.
use Rattle.dmis_program.proofs.Names.{[], ◌++◌, ◌+◌, ◌<◌, ◌∙◌, ◌∷◌, ◌≡◌, ◌≤◌, AllByRecursion, ap, append-nil, append_assoc, AreBlocks, AreInVolume}
use Rattle.dmis_program.proofs.Names.{arith, Begin, Block, block_touches, changed, closed_block, counted, Direction, End, features_of}
use Rattle.dmis_program.proofs.Names.{FollowSelections, Goto, IfSome, IsDirection, IsFrame, IsInVolume, IsName, IsStep, length, length-append, List}
use Rattle.dmis_program.proofs.Names.{Machine, no_statement, None, Option, Point, ReaderState, Recall, recalled_at, refl, Some, StatementMeaning}
use Rattle.dmis_program.proofs.Names.{Step, subst, sym, Tool, Touch, touch_with, touches_left, Wanted, with_step, ℕ}
use Rattle.dmis_program.proofs.OffsetLemmas.{offset_within}
use Rattle.dmis_program.specs.Carrying.{touched_with}
use Rattle.dmis_program.proofs.Sound.{MayFollow, under_way, open_count, IsSound}
use Rattle.dmis_program.specs.declared.features.Touch as touch

-- one step after others, and more after it
one_more : (front : List Step) (step : Step) (more : List Step) → (front ++ step ∷ []) ++ more ≡ front ++ (step ∷ more)
one_more front step more = append_assoc front (step ∷ []) more

-- all of a list and one element more
all_more : (front : List Step) (step : Step) → AllByRecursion IsStep front → IsStep step → AllByRecursion IsStep (front ++ step ∷ [])
all_more [] step h g = (g, tt)
all_more (s ∷ front) step h g = (h.0, all_more front step h.1 g)

-- one step: what it makes of what is to come, and what else it leaves
record Advances (c d : ReaderState) (step : Step) : Type 0 where
  steps : d.steps ≡ c.steps ++ step ∷ []
  number : d.number ≡ c.number + 1
  features : (more : List Step) → c.done ++ under_way c.open_block c.touches (step ∷ more) ≡ d.done ++ under_way d.open_block d.touches more
  blocks : (more : List Step) → AreBlocks (open_count d.open_block d.touches) more
      → AreBlocks (open_count c.open_block c.touches) (step ∷ more)
  selections : (more : List Step) → FollowSelections d.tool d.frame more → FollowSelections c.tool c.frame (step ∷ more)
  step_is : IsStep step
  tool : IfSome d.tool IsName
  frame : IsFrame d.frame
  wanted : IfSome d.open_block (λ b. 1 ≤ b.wanted)
  idle : d.open_block ≡ None → d.touches ≡ []

advance : (c d : ReaderState) (step : Step) → c.number < 10000 → IsSound c → Advances c d step → IsSound d
advance c d step few h g =
    record {
      features = λ more. ap (λ (steps : List Step). features_of (steps ++ more)) g.steps ∙ ap features_of (one_more c.steps step more)
          ∙ h.features (step ∷ more) ∙ g.features more;
      blocks = λ more k. subst (AreBlocks None) (sym (ap (λ (steps : List Step). steps ++ more) g.steps ∙ one_more c.steps step more))
          (h.blocks (step ∷ more) (g.blocks more k));
      selections = λ more k. subst (FollowSelections None Machine)
          (sym (ap (λ (steps : List Step). steps ++ more) g.steps ∙ one_more c.steps step more))
          (h.selections (step ∷ more) (g.selections more k));
      steps = rw g.steps (all_more c.steps step h.steps g.step_is);
      tool = g.tool;
      frame = g.frame;
      wanted = g.wanted;
      idle = g.idle;
      short = omega (arith, ap (λ (steps : List Step). length steps) g.steps, length-append c.steps (step ∷ []), h.short, g.number);
      few = omega (arith, g.number);
    }

-- a step that neither block nor touches know of
plain_features : (block : Option Block) (touches : List touch.Touch) (step : Step) (more : List Step)
    → (block_touches (step ∷ more) ≡ block_touches more) → features_of (step ∷ more) ≡ features_of more
    → under_way block touches (step ∷ more) ≡ under_way block touches more
plain_features None touches step more h g = g
plain_features (Some b) touches step more h g = rw (h, g) refl

goto_blocks : (o : Option ℕ) (target : Point) (more : List Step) → AreBlocks o more → AreBlocks o (Goto target ∷ more)
goto_blocks None target more h = h
goto_blocks (Some n) target more h = h

tool_blocks : (o : Option ℕ) (name : List ℕ) (more : List Step) → AreBlocks o more → AreBlocks o (Tool name ∷ more)
tool_blocks None name more h = h
tool_blocks (Some n) name more h = h

recall_blocks : (o : Option ℕ) (offset : Point) (more : List Step) → AreBlocks o more → AreBlocks o (Recall offset ∷ more)
recall_blocks None offset more h = h
recall_blocks (Some n) offset more h = h

sound_goto : (c : ReaderState) (target : Point) → c.number < 10000 → IsSound c → IsInVolume target
    → IsSound (with_step (counted c) (Goto target))
sound_goto c target few h g =
    advance c (with_step (counted c) (Goto target)) (Goto target) few h record {
      steps = refl;
      number = refl;
      features = λ more. ap (λ (ws : List Wanted). c.done ++ ws) (plain_features c.open_block c.touches (Goto target) more refl refl);
      blocks = λ more k. goto_blocks (open_count c.open_block c.touches) target more k;
      selections = λ more k. k;
      step_is = g;
      tool = h.tool;
      frame = h.frame;
      wanted = h.wanted;
      idle = h.idle;
    }

sound_select : (c : ReaderState) (name : List ℕ) → c.number < 10000 → IsSound c → IsName name
    → IsSound (record (with_step (counted c) (Tool name)) { tool = Some name })
sound_select c name few h g =
    advance c (record (with_step (counted c) (Tool name)) { tool = Some name }) (Tool name) few h record {
      steps = refl;
      number = refl;
      features = λ more. ap (λ (ws : List Wanted). c.done ++ ws) (plain_features c.open_block c.touches (Tool name) more refl refl);
      blocks = λ more k. tool_blocks (open_count c.open_block c.touches) name more k;
      selections = λ more k. k;
      step_is = g;
      tool = g;
      frame = h.frame;
      wanted = h.wanted;
      idle = h.idle;
    }

sound_recall : (c : ReaderState) (offset : Point) → c.number < 10000 → IsSound c → IsInVolume offset
    → IsSound (recalled_at (counted c) (Some offset))
sound_recall c offset few h g =
    advance c (recalled_at (counted c) (Some offset)) (Recall offset) few h record {
      steps = refl;
      number = refl;
      features = λ more. ap (λ (ws : List Wanted). c.done ++ ws) (plain_features c.open_block c.touches (Recall offset) more refl refl);
      blocks = λ more k. recall_blocks (open_count c.open_block c.touches) offset more k;
      selections = λ more k. k;
      step_is = g;
      tool = h.tool;
      frame = g;
      wanted = h.wanted;
      idle = h.idle;
    }

-- a block begins
begin_features : (block : Option Block) (touches : List touch.Touch) (name : List ℕ) (wanted : ℕ) (more : List Step) → block ≡ None
    → touches ≡ [] → under_way block touches (Begin name ∷ more) ≡ under_way (Some (record { label = name; wanted = wanted })) touches more
begin_features None touches name wanted more e idle = rw idle refl
begin_features (Some b) touches name wanted more e idle = absurd cc

begin_blocks : (block : Option Block) (touches : List touch.Touch) (name : List ℕ) (more : List Step) → block ≡ None → touches ≡ []
    → AreBlocks (Some (length touches)) more → AreBlocks (open_count block touches) (Begin name ∷ more)
begin_blocks None touches name more e idle h = rw idle at h
begin_blocks (Some b) touches name more e idle h = absurd cc

sound_begin : (c : ReaderState) (name : List ℕ) (wanted : ℕ) → c.number < 10000 → IsSound c → c.open_block ≡ None → IsName name → 1 ≤ wanted
    → IsSound (record (with_step (counted c) (Begin name)) { open_block = Some (record { label = name; wanted = wanted }) })
sound_begin c name wanted few h out g some =
    advance c (record (with_step (counted c) (Begin name)) { open_block = Some (record { label = name; wanted = wanted }) }) (Begin name)
    few h record {
      steps = refl;
      number = refl;
      features = λ more. ap (λ (ws : List Wanted). c.done ++ ws) (begin_features c.open_block c.touches name wanted more out (h.idle out));
      blocks = λ more k. begin_blocks c.open_block c.touches name more out (h.idle out) k;
      selections = λ more k. k;
      step_is = g;
      tool = h.tool;
      frame = h.frame;
      wanted = some;
      idle = λ e. absurd cc;
    }

-- a touch in the open block
touch_features : (block : Option Block) (b : Block) (touches : List touch.Touch) (t : touch.Touch) (more : List Step) → block ≡ Some b
    → under_way block touches (Touch t ∷ more) ≡ under_way block (touches ++ t ∷ []) more
touch_features None b touches t more e = absurd cc
touch_features (Some d) b touches t more e = rw (append_assoc touches (t ∷ []) (block_touches more)) refl

touch_blocks : (block : Option Block) (b : Block) (touches : List touch.Touch) (t : touch.Touch) (more : List Step) → block ≡ Some b
    → AreBlocks (open_count block (touches ++ t ∷ [])) more → AreBlocks (open_count block touches) (Touch t ∷ more)
touch_blocks None b touches t more e h = absurd cc
touch_blocks (Some d) b touches t more e h = rw (length-append touches (t ∷ [])) at h

sound_touch : (c : ReaderState) (tool : List ℕ) (b : Block) (target : Point) (direction : Option Direction) → c.number < 10000 → IsSound c
    → c.tool ≡ Some tool → c.open_block ≡ Some b → IsInVolume target → IfSome direction IsDirection
    → IsSound (touched_with (counted c) (Some tool) target direction)
sound_touch c tool b target direction few h selected block within directed =
    let t = touch_with tool c.frame target direction in
    advance c (touched_with (counted c) (Some tool) target direction) (Touch t) few h record {
      steps = refl;
      number = refl;
      features = λ more. ap (λ (ws : List Wanted). c.done ++ ws) (touch_features c.open_block b c.touches t more block);
      blocks = λ more k. touch_blocks c.open_block b c.touches t more block k;
      selections = λ more k. (selected, refl, k);
      step_is = record { target = within; direction = directed; tool = rw selected at h.tool; frame = h.frame };
      tool = h.tool;
      frame = h.frame;
      wanted = h.wanted;
      idle = λ e. absurd cc;
    }

-- the open block ends
end_features : (block : Option Block) (b : Block) (done : List Wanted) (touches : List touch.Touch) (more : List Step) → block ≡ Some b
    → done ++ under_way block touches (End ∷ more) ≡ (done ++ closed_block block touches)
    ++ under_way None (touches_left block touches) more
end_features None b done touches more e = absurd cc
end_features (Some d) b done touches more e = rw (
  append_assoc done (record { label = d.label; touches = touches } ∷ []) (features_of more),
  append-nil touches,
) refl

end_blocks : (block : Option Block) (b : Block) (touches : List touch.Touch) (more : List Step) → block ≡ Some b → 1 ≤ b.wanted
    → b.wanted ≤ length touches → AreBlocks None more → AreBlocks (open_count block touches) (End ∷ more)
end_blocks None b touches more e some enough h = absurd cc
end_blocks (Some d) b touches more e some enough h = (omega arith, h)

left_none : (block : Option Block) (b : Block) (touches : List touch.Touch) → block ≡ Some b → touches_left block touches ≡ []
left_none None b touches e = absurd cc
left_none (Some d) b touches e = refl

sound_end : (frames : List (List ℕ × Point)) (c : ReaderState) (b : Block) → c.number < 10000 → IsSound c → c.open_block ≡ Some b
    → b.wanted ≤ length c.touches → IsSound (changed frames (counted c) StatementMeaning.Ends)
sound_end frames c b few h block enough =
    advance c (changed frames (counted c) StatementMeaning.Ends) End few h record {
      steps = refl;
      number = refl;
      features = λ more. end_features c.open_block b c.done c.touches more block;
      blocks = λ more k. end_blocks c.open_block b c.touches more block (rw block at h.wanted) enough k;
      selections = λ more k. k;
      step_is = tt;
      tool = h.tool;
      frame = h.frame;
      wanted = tt;
      idle = λ e. left_none c.open_block b c.touches block;
    }

-- a statement without a step
sound_counted : (c : ReaderState) → c.number < 10000 → IsSound c → IsSound (counted c)
sound_counted c few h =
    record {
      features = h.features;
      blocks = h.blocks;
      selections = h.selections;
      steps = h.steps;
      tool = h.tool;
      frame = h.frame;
      wanted = h.wanted;
      idle = h.idle;
      short = omega (arith, h.short);
      few = omega arith;
    }

pub sound_after : (frames : List (List ℕ × Point)) (c : ReaderState) (s : StatementMeaning) → AreInVolume frames → IsSound c
    → MayFollow frames c s
    → IsSound (changed frames (counted c) s)
sound_after frames c (StatementMeaning.Goes target) volume h g = sound_goto c target g.0 h g.1
sound_after frames c (StatementMeaning.Begins name wanted) volume h g = sound_begin c name wanted g.0 h g.1.0 g.1.1 g.1.2
sound_after frames c (StatementMeaning.Touches target direction) volume h g =
    subst (λ (o : Option (List ℕ)). IsSound (touched_with (counted c) o target direction)) (sym g.1.2.1)
    (sound_touch c g.1.2.0 g.1.3.0 target direction g.0 h g.1.2.1 g.1.3.1 g.1.0 g.1.1)
sound_after frames c StatementMeaning.Ends volume h g = sound_end frames c g.1.0 g.0 h g.1.1 g.1.2
sound_after frames c (StatementMeaning.Selects name) volume h g = sound_select c name g.0 h g.1
sound_after frames c (StatementMeaning.Recalls name) volume h g = rw g.1.1 (sound_recall c g.1.0 g.0 h (offset_within frames name g.1.0 volume g.1.1))
sound_after frames c StatementMeaning.Closes volume h g = sound_counted c g.0 h
sound_after frames c StatementMeaning.Passes volume h g = sound_counted c g.0 h

pub sound_at_start : IsSound no_statement
sound_at_start =
    record {
      features = λ more. refl;
      blocks = λ more k. k;
      selections = λ more k. k;
      steps = tt;
      tool = tt;
      frame = tt;
      wanted = tt;
      idle = λ e. refl;
      short = omega arith;
      few = omega arith;
    }
