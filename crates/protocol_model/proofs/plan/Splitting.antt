-- A plan continues after the last touch of the last completed feature: the laws of its position.
use Rattle.protocol_model.proofs.Names.{[], ◌++◌, ◌<◌, ◌∙◌, ◌∷◌, ◌≡◌, ◌≤◌, ap, append_cancel_right, arith, behind, block_touches, Bool, Command}
use Rattle.protocol_model.proofs.Names.{commands_of, cond, Does, drop, false, false≢true, feature_touches, features_of, flat_map, Frame, frame_behind}
use Rattle.protocol_model.proofs.Names.{framing, is_empty, IsProgram, length, List, Meaning as Program, measuring, NewConnection, None, opening}
use Rattle.protocol_model.proofs.Names.{Option, Part, plan, Planned, planned, refl, SameConnection, Some, Start, Step, step_commands, stepping, suc}
use Rattle.protocol_model.proofs.Names.{sym, take, take-append-drop, tool_behind, tooling, Touch, true, up_to, Wanted, zero, ℕ}
use Rattle.std.proofs.lemmas.Grind.{flat_map-append}
use Rattle.fixed_um.specs.declared.frames.Frame.TheVariants.{Machine}
use Rattle.dmis_program.specs.Programs.{touches_of as step_touches}
use Rattle.protocol_model.specs.PlanReading.{touches_of}
use Rattle.protocol_model.specs.Positions.{commands_from, EndInTouch, frame_commands, tool_commands}
use Rattle.protocol_model.proofs.plan.Blocks.{AreBlocks, IsPlain, program_is_plain}
use Rattle.protocol_model.proofs.plan.Marks.{left_of, left_with}
use Rattle.protocol_model.proofs.plan.PlanLaws.{plan_touches_left, commands_more, steps_commands}

-- ---- both parts are all

touch_parts : (b : Bool) (t : Touch) (here there here_behind there_behind ss : List Step) → here ++ here_behind ≡ ss
    → there ++ there_behind ≡ ss
    → Step.Touch t ∷ (cond b here there ++ cond b here_behind there_behind) ≡ Step.Touch t ∷ ss
touch_parts true t here there a b ss e f = ap (λ (l : List Step). Step.Touch t ∷ l) e
touch_parts false t here there a b ss e f = ap (λ (l : List Step). Step.Touch t ∷ l) f

-- the steps up to a position and those after it are all of them
pub all_steps : (k : ℕ) (ss : List Step) → up_to k ss ++ behind k ss ≡ ss
all_steps zero ss = refl
all_steps (suc k) [] = refl
all_steps (suc k) (Step.Goto p ∷ ss) = ap (λ (l : List Step). Step.Goto p ∷ l) (all_steps (suc k) ss)
all_steps (suc k) (Step.Begin l ∷ ss) = ap (λ (m : List Step). Step.Begin l ∷ m) (all_steps (suc k) ss)
all_steps (suc k) (Step.Touch t ∷ ss) = touch_parts (is_empty (block_touches ss)) t (up_to k ss) (up_to (suc k) ss) (behind k ss)
    (behind (suc k) ss) ss (all_steps k ss) (all_steps (suc k) ss)
all_steps (suc k) (Step.Tool n ∷ ss) = ap (λ (l : List Step). Step.Tool n ∷ l) (all_steps (suc k) ss)
all_steps (suc k) (Step.Recall p ∷ ss) = ap (λ (l : List Step). Step.Recall p ∷ l) (all_steps (suc k) ss)
all_steps (suc k) (Step.End ∷ ss) = ap (λ (l : List Step). Step.End ∷ l) (all_steps (suc k) ss)

-- ---- the touches of the front

touches_more : (ss rs : List Step) → step_touches (ss ++ rs) ≡ step_touches ss ++ step_touches rs
touches_more [] rs = refl
touches_more (Step.Goto p ∷ ss) rs = touches_more ss rs
touches_more (Step.Begin l ∷ ss) rs = touches_more ss rs
touches_more (Step.Touch t ∷ ss) rs = ap (λ (l : List Touch). t ∷ l) (touches_more ss rs)
touches_more (Step.Tool n ∷ ss) rs = touches_more ss rs
touches_more (Step.Recall p ∷ ss) rs = touches_more ss rs
touches_more (Step.End ∷ ss) rs = touches_more ss rs

abbrev finish : List Planned
finish = planned Command.EndSession Does.Nothing ∷ []

stepping_touches : (frame : Frame) (ss : List Step) → touches_of (stepping frame ss ++ finish) ≡ step_touches ss
stepping_touches frame [] = refl
stepping_touches frame (Step.Goto p ∷ ss) = stepping_touches frame ss
stepping_touches frame (Step.Begin l ∷ ss) = stepping_touches frame ss
stepping_touches frame (Step.Touch t ∷ ss) = ap (λ (l : List Touch). t ∷ l) (stepping_touches frame ss)
stepping_touches frame (Step.Tool n ∷ ss) = stepping_touches frame ss
stepping_touches frame (Step.Recall p ∷ ss) = stepping_touches (Part p) ss
stepping_touches frame (Step.End ∷ ss) = stepping_touches frame ss

framing_touches : (frame : Frame) (ps : List Planned) → touches_of (framing frame ++ ps) ≡ touches_of ps
framing_touches Machine ps = refl
framing_touches (Part p) ps = refl

tooling_touches : (tool : Option (List ℕ)) (ps : List Planned) → touches_of (tooling tool ++ ps) ≡ touches_of ps
tooling_touches None ps = refl
tooling_touches (Some n) ps = refl

measuring_touches : (tool : Option (List ℕ)) (frame : Frame) (ss : List Step) → touches_of (measuring tool frame ss) ≡ step_touches ss
measuring_touches tool frame ss = tooling_touches tool _ ∙ (framing_touches frame _ ∙ stepping_touches frame ss)

left_touches : (p : Program) (k : ℕ) → IsProgram p → step_touches (behind k p.steps) ≡ feature_touches (drop k p.features)
left_touches p k h =
    sym (measuring_touches (tool_behind None (up_to k p.steps)) (frame_behind Machine (up_to k p.steps)) (behind k p.steps))
    ∙ plan_touches_left p k SameConnection h

-- the touches up to it are those of the first features
pub front_touches : (p : Program) (k : ℕ) → IsProgram p → step_touches (up_to k p.steps) ≡ feature_touches (take k p.features)
front_touches p k h =
    append_cancel_right (step_touches (up_to k p.steps)) (feature_touches (take k p.features)) (feature_touches (drop k p.features)) both
  where
    all : feature_touches p.features ≡ feature_touches (take k p.features) ++ feature_touches (drop k p.features)
    all = sym (ap feature_touches (take-append-drop k p.features))
        ∙ flat_map-append (λ (w : Wanted). w.touches) (take k p.features) (drop k p.features)

    both : step_touches (up_to k p.steps) ++ feature_touches (drop k p.features) ≡ feature_touches (take k p.features)
        ++ feature_touches (drop k p.features)
    both = ap (λ (l : List Touch). step_touches (up_to k p.steps) ++ l) (sym (left_touches p k h))
        ∙ (sym (touches_more (up_to k p.steps) (behind k p.steps)) ∙ (ap step_touches (all_steps k p.steps) ∙ (h.touches ∙ all)))

-- ---- the front ends in a touch

one_more : (s : Step) (ss : List Step) → EndInTouch ss → EndInTouch (s ∷ ss)
one_more s ss h = record { before = s ∷ h.before; touch = h.touch; parts = ap (λ (l : List Step). s ∷ l) h.parts }

one_touch : (t : Touch) → EndInTouch (Step.Touch t ∷ [])
one_touch t = record { before = []; touch = t; parts = refl }

none_left : (inside : Bool) (ws : List Wanted) → length (left_with inside [] ws) ≡ length ws
none_left true ws = refl
none_left false ws = refl

some_left : (ts : List Touch) (ws : List Wanted) → is_empty ts ≡ false → length (left_with true ts ws) ≡ suc (length ws)
some_left [] ws e = absurd (false≢true (sym e))
some_left (t ∷ ts) ws e = refl

not_empty : (ts : List Touch) → (ts ≡ [] → ⊥) → is_empty ts ≡ false
not_empty [] some = absurd (some refl)
not_empty (t ∷ ts) some = refl

left_false : (ts : List Touch) (ws : List Wanted) (inside : Bool) → inside ≡ false → length (left_with inside ts ws) ≡ length ws
left_false ts ws true e = absurd (false≢true (sym e))
left_false ts ws false e = refl

left_true : (t : Touch) (ts : List Touch) (ws : List Wanted) (inside : Bool) → inside ≡ true
    → length (left_with inside (t ∷ ts) ws) ≡ suc (length ws)
left_true t ts ws true e = refl
left_true t ts ws false e = absurd (false≢true e)

-- after the last touch of a feature that many are left, and after another as many as before
touch_ends_by : (b : Bool) (k : ℕ) (t : Touch) (ss : List Step) → is_empty (block_touches ss) ≡ b → suc k ≤ suc (length (features_of ss))
    → ((j : ℕ) → k ≡ suc j → suc j ≤ length (left_of true ss) → EndInTouch (up_to (suc j) ss))
    → (suc k ≤ length (left_of true ss) → EndInTouch (up_to (suc k) ss))
    → EndInTouch (Step.Touch t ∷ cond b (up_to k ss) (up_to (suc k) ss))
touch_ends_by true zero t ss e long here there = one_touch t
touch_ends_by true (suc j) t ss e long here there =
    let same : length (left_of true ss) ≡ length (features_of ss) = none_by (block_touches ss) e in
    one_more (Step.Touch t) (up_to (suc j) ss) (here j refl (omega (arith, same, long)))
  where
    none_by : (ts : List Touch) → is_empty ts ≡ true → length (left_with true ts (features_of ss)) ≡ length (features_of ss)
    none_by [] e = refl
    none_by (u ∷ ts) e = absurd (false≢true e)
touch_ends_by false k t ss e long here there =
    let same : length (left_of true ss) ≡ suc (length (features_of ss)) = some_left (block_touches ss) (features_of ss) e in
    one_more (Step.Touch t) (up_to (suc k) ss) (there (omega (arith, same, long)))

ends_by : (inside : Bool) (k : ℕ) (ss : List Step) → AreBlocks inside ss → suc k ≤ length (left_of inside ss)
    → EndInTouch (up_to (suc k) ss)
ends_by inside k [] h long = let none : length (left_of inside []) ≡ 0 = none_left inside [] in absurd (omega (arith, none, long))
ends_by inside k (Step.Goto p ∷ ss) h long = one_more (Step.Goto p) _ (ends_by inside k ss h long)
ends_by inside k (Step.Begin l ∷ ss) h long =
    let before : length (left_of inside (Step.Begin l ∷ ss)) ≡ suc (length (features_of ss)) =
    left_false (block_touches ss) (record { label = l; touches = block_touches ss } ∷ features_of ss) inside h.0 in
    let after : length (left_of true ss) ≡ suc (length (features_of ss)) =
    some_left (block_touches ss) (features_of ss) (not_empty (block_touches ss) h.1) in
    one_more (Step.Begin l) _ (ends_by true k ss h.2 (omega (arith, before, after, long)))
ends_by inside zero (Step.Touch t ∷ ss) h long = touch_ends_by (is_empty (block_touches ss)) zero t ss refl (omega arith)
    (λ j e l. absurd (cc)) (λ l. ends_by inside zero ss h.1 (same_long l))
  where
    same_long : suc zero ≤ length (left_of true ss) → suc zero ≤ length (left_of inside ss)
    same_long l = let e : length (left_of inside ss) ≡ length (left_of true ss) = ap (λ (b : Bool). length (left_of b ss)) h.0
        in omega (arith, e, l)
ends_by inside (suc j) (Step.Touch t ∷ ss) h long =
    let all : length (left_of inside (Step.Touch t ∷ ss)) ≡ suc (length (features_of ss)) =
    left_true t (block_touches ss) (features_of ss) inside h.0 in
    touch_ends_by (is_empty (block_touches ss)) (suc j) t ss refl (omega (arith, all, long))
    (λ i e l. same_index i e (λ m. ends_by inside j ss h.1 (same_long (suc j) m)) l)
    (λ l. ends_by inside (suc j) ss h.1 (same_long (suc (suc j)) l))
  where
    same_long : (n : ℕ) → n ≤ length (left_of true ss) → n ≤ length (left_of inside ss)
    same_long n l = let e : length (left_of inside ss) ≡ length (left_of true ss) = ap (λ (b : Bool). length (left_of b ss)) h.0
        in omega (arith, e, l)

    same_index : (i : ℕ) → suc j ≡ suc i → (suc j ≤ length (left_of true ss) → EndInTouch (up_to (suc j) ss))
        → suc i ≤ length (left_of true ss) → EndInTouch (up_to (suc i) ss)
    same_index i e run l = rw (sym e) (run (omega (arith, e, l)))
ends_by inside k (Step.Tool n ∷ ss) h long = one_more (Step.Tool n) _ (ends_by inside k ss h long)
ends_by inside k (Step.Recall p ∷ ss) h long = one_more (Step.Recall p) _ (ends_by inside k ss h long)
ends_by inside k (Step.End ∷ ss) h long =
    let before : length (left_of inside (Step.End ∷ ss)) ≡ length (features_of ss) = none_left inside (features_of ss) in
    one_more Step.End _ (ends_by false k ss h.1 (omega (arith, before, long)))

-- the steps up to it end in a touch
pub front_ends : (p : Program) (k : ℕ) → IsProgram p → 0 < k → k ≤ length p.features → EndInTouch (up_to k p.steps)
front_ends p zero h some few = absurd (omega (arith, some))
front_ends p (suc k) h some few =
    let plain : IsPlain p = program_is_plain p h in
    let same : length p.features ≡ length (features_of p.steps) = ap length h.built in
    ends_by false k p.steps plain.blocks (omega (arith, same, few))

-- ---- the commands of a plan

tooling_commands : (tool : Option (List ℕ)) (ps : List Planned) → commands_of (tooling tool ++ ps) ≡ tool_commands tool ++ commands_of ps
tooling_commands None ps = refl
tooling_commands (Some n) ps = refl

framing_commands : (frame : Frame) (ps : List Planned) → commands_of (framing frame ++ ps) ≡ frame_commands frame ++ commands_of ps
framing_commands Machine ps = refl
framing_commands (Part p) ps = refl

measuring_commands : (tool : Option (List ℕ)) (frame : Frame) (ss : List Step)
    → commands_of (measuring tool frame ss) ≡ tool_commands tool
    ++ (frame_commands frame ++ (flat_map step_commands ss ++ Command.EndSession ∷ []))
measuring_commands tool frame ss =
    tooling_commands tool _ ∙ ap (λ (l : List Command). tool_commands tool ++ l)
    (framing_commands frame _ ∙ ap (λ (l : List Command). frame_commands frame ++ l)
    (commands_more (stepping frame ss) finish ∙ ap (λ (l : List Command). l ++ Command.EndSession ∷ []) (steps_commands frame ss)))

-- a plan is that of the steps after its position
pub plan_commands : (p : Program) (k : ℕ) (start : Start) → commands_of (plan p k start)
    ≡ commands_from start (up_to k p.steps) (behind k p.steps)
plan_commands p k start = go start
  where
    body : commands_of (measuring (tool_behind None (up_to k p.steps)) (frame_behind Machine (up_to k p.steps)) (behind k p.steps))
        ≡ tool_commands (tool_behind None (up_to k p.steps)) ++ (frame_commands (frame_behind Machine (up_to k p.steps))
        ++ (flat_map step_commands (behind k p.steps) ++ Command.EndSession ∷ []))
    body = measuring_commands (tool_behind None (up_to k p.steps)) (frame_behind Machine (up_to k p.steps)) (behind k p.steps)

    go : (s : Start) → commands_of (plan p k s) ≡ commands_from s (up_to k p.steps) (behind k p.steps)
    go NewConnection = ap (λ (l : List Command). opening NewConnection ++ l) body
    go SameConnection = ap (λ (l : List Command). opening SameConnection ++ l) body
