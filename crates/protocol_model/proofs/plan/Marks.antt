-- The touches of plans and of wanted features, each with whether it is the last of its feature.
use Rattle.protocol_model.proofs.Names.{[], ◌++◌, ◌∙◌, ◌∷◌, ◌≡◌, ap, append-nil, append_assoc, behind, block_touches, Bool, Command, cond, Does, drop}
use Rattle.protocol_model.proofs.Names.{false, false≢true, features_of, Frame, frame_behind, framing, is_abort, is_empty, List, Meaning as Program}
use Rattle.protocol_model.proofs.Names.{measuring, NewConnection, None, Ok, Option, Part, plan, Planned, planned, Point, point_opposite, refl}
use Rattle.protocol_model.proofs.Names.{SameConnection, Some, Start, starting, Step, stepping, subst, suc, sym, tool_behind, tooling, Touch, true}
use Rattle.protocol_model.proofs.Names.{up_to, Wanted, zero, ℕ}
use Rattle.std.proofs.Math.IntN.{neg_ℤ-neg_ℤ}
use Rattle.fixed_um.specs.declared.frames.Frame.TheVariants.{Machine}
use Rattle.protocol_model.proofs.plan.Blocks.{AreBlocks, AreSelected, IsPlain}
use Rattle.protocol_model.proofs.plan.Fitting.{Know, unknown, Fits, IsSane, HasNoClear, sane_without, no_clear_more}

-- a touch, and whether it is the last of its feature
abbrev pub Marked : Type 0
Marked = Touch × Bool

-- the touches of a feature, so marked
abbrev pub marks : List Touch → List Marked
marks [] = []
marks (t ∷ ts) = (t, is_empty ts) ∷ marks ts

-- the touches of features, so marked
abbrev pub marks_of : List Wanted → List Marked
marks_of [] = []
marks_of (w ∷ ws) = marks w.touches ++ marks_of ws

-- the touch that a command means, so marked, if it is one
abbrev pub touch_in : Does → List Marked
touch_in Does.Nothing = []
touch_in Does.AsksHomed = []
touch_in Does.Homes = []
touch_in (Does.Moves p f) = []
touch_in (Does.Changes n) = []
touch_in (Does.Frames f) = []
touch_in (Does.Touches t last) = (t, last) ∷ []

-- the touches of a plan, so marked
abbrev pub touches_in : List Planned → List Marked
touches_in [] = []
touches_in (p ∷ ps) = touch_in p.does ++ touches_in ps

pub touches_more : (ps qs : List Planned) → touches_in (ps ++ qs) ≡ touches_in ps ++ touches_in qs
touches_more [] qs = refl
touches_more (p ∷ ps) qs = ap (λ (l : List Marked). touch_in p.does ++ l) (touches_more ps qs)
    ∙ sym (append_assoc (touch_in p.does) (touches_in ps) (touches_in qs))

-- ---- what is left from a position on

-- inside a block whose touches are not all passed, those that are left are a feature
abbrev pub left_with : Bool → List Touch → List Wanted → List Wanted
left_with false ts ws = ws
left_with true [] ws = ws
left_with true (t ∷ ts) ws = record { label = []; touches = t ∷ ts } ∷ ws

-- the features that are left in steps; within a block the first is that of the block
abbrev pub left_of : Bool → List Step → List Wanted
left_of inside ss = left_with inside (block_touches ss) (features_of ss)

left_none : (inside : Bool) (ws : List Wanted) → left_with inside [] ws ≡ ws
left_none true ws = refl
left_none false ws = refl

marks_left : (ts : List Touch) (ws : List Wanted) → marks_of (left_with true ts ws) ≡ marks ts ++ marks_of ws
marks_left [] ws = refl
marks_left (t ∷ ts) ws = refl

-- the touches of the commands of steps are those that are left
pub touches_left : (inside : Bool) (frame : Frame) (ss : List Step) → AreBlocks inside ss
    → touches_in (stepping frame ss) ≡ marks_of (left_of inside ss)
touches_left inside frame [] h = sym (ap marks_of (left_none inside []))
touches_left inside frame (Step.Goto p ∷ ss) h = touches_left inside frame ss h
touches_left inside frame (Step.Begin l ∷ ss) h =
    touches_left true frame ss h.2 ∙ (marks_left (block_touches ss) (features_of ss)
    ∙ sym (ap (λ (b : Bool). marks_of (left_with b (block_touches ss)
    (record { label = l; touches = block_touches ss } ∷ features_of ss))) h.0))
touches_left inside frame (Step.Touch t ∷ ss) h =
    ap (λ (l : List Marked). (t, is_empty (block_touches ss)) ∷ l) (touches_left inside frame ss h.1
    ∙ (ap (λ (b : Bool). marks_of (left_of b ss)) h.0 ∙ marks_left (block_touches ss) (features_of ss)))
    ∙ sym (ap (λ (b : Bool). marks_of (left_of b (Step.Touch t ∷ ss))) h.0)
touches_left inside frame (Step.Tool n ∷ ss) h = touches_left inside frame ss h
touches_left inside frame (Step.Recall p ∷ ss) h = touches_left inside (Part p) ss h
touches_left inside frame (Step.End ∷ ss) h = touches_left false frame ss h.1 ∙ sym (ap marks_of (left_none inside (features_of ss)))

-- a position in steps, after that many features
pub record IsPlace (inside : Bool) (ss : List Step) (k : ℕ) (rest : List Step) : Type 0 where
  pub within : Bool
  pub blocks : AreBlocks within rest
  pub left : marks_of (left_of within rest) ≡ marks_of (drop k (left_of inside ss))

empty_is : (ts : List Touch) → is_empty ts ≡ true → ts ≡ []
empty_is [] e = refl
empty_is (t ∷ ts) e = absurd (false≢true e)

drop_more : (ts : List Touch) (ws : List Wanted) (k : ℕ) → is_empty ts ≡ false → drop (suc k) (left_with true ts ws) ≡ drop k ws
drop_more [] ws k e = absurd (false≢true (sym e))
drop_more (t ∷ ts) ws k e = refl

drop_none : (inside : Bool) (k : ℕ) → drop (suc k) (left_with inside [] []) ≡ []
drop_none true k = refl
drop_none false k = refl

touch_place : (inside : Bool) (k : ℕ) (t : Touch) (ss : List Step) (b : Bool) → is_empty (block_touches ss) ≡ b → inside ≡ true
    → IsPlace inside ss k (behind k ss) → IsPlace inside ss (suc k) (behind (suc k) ss)
    → IsPlace inside (Step.Touch t ∷ ss) (suc k) (cond b (behind k ss) (behind (suc k) ss))
touch_place inside k t ss true e i here there = record {
  within = here.within;
  blocks = here.blocks;
  left = here.left ∙ (ap (λ (a : Bool). marks_of (drop k (left_of a ss))) i
      ∙ (ap (λ (ts : List Touch). marks_of (drop k (left_with true ts (features_of ss)))) (empty_is (block_touches ss) e)
      ∙ sym (ap (λ (a : Bool). marks_of (drop (suc k) (left_of a (Step.Touch t ∷ ss)))) i)));
}
touch_place inside k t ss false e i here there = record {
  within = there.within;
  blocks = there.blocks;
  left = there.left ∙ (ap (λ (a : Bool). marks_of (drop (suc k) (left_of a ss))) i
      ∙ (ap marks_of (drop_more (block_touches ss) (features_of ss) k e)
      ∙ sym (ap (λ (a : Bool). marks_of (drop (suc k) (left_of a (Step.Touch t ∷ ss)))) i)));
}

begin_is : (inside : Bool) (l : List ℕ) (ss : List Step) (k : ℕ) → inside ≡ false → (block_touches ss ≡ [] → ⊥)
    → drop (suc k) (left_of true ss) ≡ drop (suc k) (left_of inside (Step.Begin l ∷ ss))
begin_is inside l ss k i some = go (block_touches ss) refl ∙ sym (ap (λ (a : Bool). drop (suc k) (left_of a (Step.Begin l ∷ ss))) i)
  where
    go : (ts : List Touch) → block_touches ss ≡ ts → drop (suc k) (left_of true ss) ≡ drop k (features_of ss)
    go [] e = absurd (some e)
    go (t ∷ ts) e = ap (λ (us : List Touch). drop (suc k) (left_with true us (features_of ss))) e

pub place_at : (inside : Bool) (k : ℕ) (ss : List Step) → AreBlocks inside ss → IsPlace inside ss k (behind k ss)
place_at inside zero ss h = record { within = inside; blocks = h; left = refl }
place_at inside (suc k) [] h = record {
  within = inside;
  blocks = h;
  left = ap marks_of (left_none inside [])
      ∙ sym (ap marks_of (drop_none inside k));
}
place_at inside (suc k) (Step.Goto p ∷ ss) h = let at = place_at inside (suc k) ss h
    in record { within = at.within; blocks = at.blocks; left = at.left }
place_at inside (suc k) (Step.Begin l ∷ ss) h = let at = place_at true (suc k) ss h.2
    in record { within = at.within; blocks = at.blocks; left = at.left ∙ ap marks_of (begin_is inside l ss k h.0 h.1) }
place_at inside (suc k) (Step.Touch t ∷ ss) h = touch_place inside k t ss (is_empty (block_touches ss)) refl h.0 (place_at inside k ss h.1)
    (place_at inside (suc k) ss h.1)
place_at inside (suc k) (Step.Tool n ∷ ss) h = let at = place_at inside (suc k) ss h
    in record { within = at.within; blocks = at.blocks; left = at.left }
place_at inside (suc k) (Step.Recall p ∷ ss) h = let at = place_at inside (suc k) ss h
    in record { within = at.within; blocks = at.blocks; left = at.left }
place_at inside (suc k) (Step.End ∷ ss) h =
    let at = place_at false (suc k) ss h.1 in
    record {
      within = at.within;
      blocks = at.blocks;
      left = at.left
          ∙ sym (ap (λ (ws : List Wanted). marks_of (drop (suc k) ws)) (left_none inside (features_of ss)));
    }

-- what is selected at a position
touch_selected : (k : ℕ) (tool : Option (List ℕ)) (frame : Frame) (t : Touch) (ss : List Step) (b : Bool)
    → AreSelected (tool_behind tool (up_to k ss)) (frame_behind frame (up_to k ss)) (behind k ss)
    → AreSelected (tool_behind tool (up_to (suc k) ss)) (frame_behind frame (up_to (suc k) ss)) (behind (suc k) ss)
    → AreSelected (tool_behind tool (Step.Touch t ∷ cond b (up_to k ss) (up_to (suc k) ss)))
    (frame_behind frame (Step.Touch t ∷ cond b (up_to k ss) (up_to (suc k) ss))) (cond b (behind k ss) (behind (suc k) ss))
touch_selected k tool frame t ss true here there = here
touch_selected k tool frame t ss false here there = there

pub selected_at : (k : ℕ) (tool : Option (List ℕ)) (frame : Frame) (ss : List Step) → AreSelected tool frame ss
    → AreSelected (tool_behind tool (up_to k ss)) (frame_behind frame (up_to k ss)) (behind k ss)
selected_at zero tool frame ss h = h
selected_at (suc k) tool frame [] h = tt
selected_at (suc k) tool frame (Step.Goto p ∷ ss) h = selected_at (suc k) tool frame ss h
selected_at (suc k) tool frame (Step.Begin l ∷ ss) h = selected_at (suc k) tool frame ss h
selected_at (suc k) tool frame (Step.Touch t ∷ ss) h = touch_selected k tool frame t ss (is_empty (block_touches ss))
    (selected_at k tool frame ss h.2) (selected_at (suc k) tool frame ss h.2)
selected_at (suc k) tool frame (Step.Tool n ∷ ss) h = selected_at (suc k) (Some n) frame ss h
selected_at (suc k) tool frame (Step.Recall p ∷ ss) h = selected_at (suc k) tool (Part p) ss h
selected_at (suc k) tool frame (Step.End ∷ ss) h = selected_at (suc k) tool frame ss h

-- ---- plans

abbrev finish : List Planned
finish = planned Command.EndSession Does.Nothing ∷ []

pub turned_twice : (p : Point) → point_opposite (point_opposite p) ≡ p
turned_twice p = λ i. record { x = neg_ℤ-neg_ℤ p.x i; y = neg_ℤ-neg_ℤ p.y i; z = neg_ℤ-neg_ℤ p.z i }

abbrev knows : Option (List ℕ) → Frame → Option Point → Know
knows tool frame stored = record { tool = tool; frame = Some frame; stored = stored }

-- commands that select a frame fit, where what follows fits in that frame
fits_framing : (tool : Option (List ℕ)) (f : Option Frame) (stored : Option Point) (frame : Frame) (ps : List Planned)
    → ((s : Option Point) → Fits (knows tool frame s) ps) → Fits (record { tool = tool; frame = f; stored = stored }) (framing frame ++ ps)
fits_framing tool f stored Machine ps h = (record { frame = Machine; known = refl; is = refl }, h stored)
fits_framing tool f stored (Part p) ps h =
    let twice : point_opposite (point_opposite p) ≡ p = turned_twice p in (
      refl,
      (
        record { frame = Part p; known = ap (λ (q : Point). Some (Part q)) twice; is = refl },
        subst (λ (q : Point). Fits (knows tool (Part q) (Some q)) ps) (sym twice) (h (Some p)),
      ),
    )

fits_steps : (tool : Option (List ℕ)) (frame : Frame) (stored : Option Point) (ss : List Step) → AreSelected tool frame ss
    → Fits (knows tool frame stored) (stepping frame ss ++ finish)
fits_steps tool frame stored [] h = (refl, tt)
fits_steps tool frame stored (Step.Goto p ∷ ss) h = (record { frame = frame; known = refl; is = refl }, fits_steps tool frame stored ss h)
fits_steps tool frame stored (Step.Begin l ∷ ss) h = fits_steps tool frame stored ss h
fits_steps tool frame stored (Step.Touch t ∷ ss) h = (
  record {
    touch = t;
    last = is_empty (block_touches ss);
    tool = h.0;
    frame = ap (λ (f : Frame). Some f) h.1;
    target = refl;
    dir = refl;
    is = refl;
  },
  fits_steps tool frame stored ss h.2,
)
fits_steps tool frame stored (Step.Tool n ∷ ss) h = (refl, fits_steps (Some n) frame stored ss h)
fits_steps tool frame stored (Step.Recall p ∷ ss) h =
    fits_framing tool (Some frame) stored (Part p) (stepping (Part p) ss ++ finish) (λ s. fits_steps tool (Part p) s ss h)
fits_steps tool frame stored (Step.End ∷ ss) h = fits_steps tool frame stored ss h

fits_measuring : (tool : Option (List ℕ)) (frame : Frame) (ss : List Step) → AreSelected tool frame ss
    → Fits unknown (measuring tool frame ss)
fits_measuring None frame ss h = fits_framing None None None frame (stepping frame ss ++ finish) (λ s. fits_steps None frame s ss h)
fits_measuring (Some n) frame ss h = (
  refl,
  fits_framing (Some n) None None frame (stepping frame ss ++ finish)
      (λ s. fits_steps (Some n) frame s ss h),
)

fits_rest : (p : Program) (k : ℕ) → IsPlain p → Fits unknown
    (measuring (tool_behind None (up_to k p.steps)) (frame_behind Machine (up_to k p.steps)) (behind k p.steps))
fits_rest p k h = fits_measuring _ _ (behind k p.steps) (selected_at k None Machine p.steps h.selected)

-- a plan fits, whatever is known of the server
pub plan_fits : (p : Program) (k : ℕ) (start : Start) (know : Know) → IsPlain p → Fits know (plan p k start)
plan_fits p k NewConnection know h = (refl, (refl, (refl, (refl, (refl, fits_rest p k h)))))
plan_fits p k SameConnection know h = (refl, (refl, (refl, (refl, fits_rest p k h))))

no_clear_framing : (frame : Frame) → HasNoClear (framing frame)
no_clear_framing Machine = (refl, tt)
no_clear_framing (Part p) = (refl, (refl, tt))

no_clear_tooling : (tool : Option (List ℕ)) → HasNoClear (tooling tool)
no_clear_tooling None = tt
no_clear_tooling (Some n) = (refl, tt)

no_clear_steps : (frame : Frame) (ss : List Step) → HasNoClear (stepping frame ss)
no_clear_steps frame [] = tt
no_clear_steps frame (Step.Goto p ∷ ss) = (refl, no_clear_steps frame ss)
no_clear_steps frame (Step.Begin l ∷ ss) = no_clear_steps frame ss
no_clear_steps frame (Step.Touch t ∷ ss) = (refl, no_clear_steps frame ss)
no_clear_steps frame (Step.Tool n ∷ ss) = (refl, no_clear_steps frame ss)
no_clear_steps frame (Step.Recall p ∷ ss) = (refl, (refl, no_clear_steps (Part p) ss))
no_clear_steps frame (Step.End ∷ ss) = no_clear_steps frame ss

no_clear_measuring : (tool : Option (List ℕ)) (frame : Frame) (ss : List Step) → HasNoClear (measuring tool frame ss)
no_clear_measuring tool frame ss =
    no_clear_more (tooling tool) _ (no_clear_tooling tool) (no_clear_more (framing frame) _ (no_clear_framing frame)
    (no_clear_more (stepping frame ss) finish (no_clear_steps frame ss) (refl, tt)))

-- and what follows its ClearAllErrors fits by itself
sane_clearing : (p : Program) (k : ℕ) → IsPlain p → IsSane (plan p k SameConnection)
sane_clearing p k h = (
  (λ e know. (refl, (refl, (refl, (refl, fits_rest p k h))))),
  (
    (λ e know. absurd (false≢true e)),
    (
      (λ e know. absurd (false≢true e)),
      ((λ e know. absurd (false≢true e)), sane_without _ (no_clear_measuring _ _ (behind k p.steps))),
    ),
  ),
)

-- a plan is sane
pub plan_sane : (p : Program) (k : ℕ) (start : Start) → IsPlain p → IsSane (plan p k start)
plan_sane p k NewConnection h = ((λ e know. absurd (false≢true e)), sane_clearing p k h)
plan_sane p k SameConnection h = sane_clearing p k h

no_touch_framing : (frame : Frame) (ps : List Planned) → touches_in (framing frame ++ ps) ≡ touches_in ps
no_touch_framing Machine ps = refl
no_touch_framing (Part p) ps = refl

no_touch_tooling : (tool : Option (List ℕ)) (ps : List Planned) → touches_in (tooling tool ++ ps) ≡ touches_in ps
no_touch_tooling None ps = refl
no_touch_tooling (Some n) ps = refl

measuring_touches : (tool : Option (List ℕ)) (frame : Frame) (ss : List Step)
    → touches_in (measuring tool frame ss) ≡ touches_in (stepping frame ss)
measuring_touches tool frame ss =
    no_touch_tooling tool (framing frame ++ (stepping frame ss ++ finish))
    ∙ (no_touch_framing frame (stepping frame ss ++ finish) ∙ (touches_more (stepping frame ss) finish
    ∙ append-nil (touches_in (stepping frame ss))))

starting_touches : (start : Start) (ps : List Planned) → touches_in (starting start ps) ≡ touches_in ps
starting_touches NewConnection ps = refl
starting_touches SameConnection ps = refl

-- the touches of a plan are those of the features that are not completed
pub plan_touches : (p : Program) (k : ℕ) (start : Start) → IsPlain p → touches_in (plan p k start) ≡ marks_of (drop k p.features)
plan_touches p k start h =
    let at : IsPlace false p.steps k (behind k p.steps) = place_at false k p.steps h.blocks in
    starting_touches start _ ∙ (measuring_touches _ _ (behind k p.steps)
    ∙ (touches_left at.within _ (behind k p.steps) at.blocks ∙ (at.left
    ∙ sym (ap (λ (ws : List Wanted). marks_of (drop k ws)) h.features))))

-- no command of a plan is an abort
abbrev pub HasNoAbort : List Planned → Type 0
HasNoAbort [] = Unit {0}
HasNoAbort (p ∷ ps) = (is_abort (Ok p.command) ≡ false) × HasNoAbort ps

no_abort_more : (ps qs : List Planned) → HasNoAbort ps → HasNoAbort qs → HasNoAbort (ps ++ qs)
no_abort_more [] qs h g = g
no_abort_more (p ∷ ps) qs h g = (h.0, no_abort_more ps qs h.1 g)

no_abort_framing : (frame : Frame) → HasNoAbort (framing frame)
no_abort_framing Machine = (refl, tt)
no_abort_framing (Part p) = (refl, (refl, tt))

no_abort_tooling : (tool : Option (List ℕ)) → HasNoAbort (tooling tool)
no_abort_tooling None = tt
no_abort_tooling (Some n) = (refl, tt)

no_abort_steps : (frame : Frame) (ss : List Step) → HasNoAbort (stepping frame ss)
no_abort_steps frame [] = tt
no_abort_steps frame (Step.Goto p ∷ ss) = (refl, no_abort_steps frame ss)
no_abort_steps frame (Step.Begin l ∷ ss) = no_abort_steps frame ss
no_abort_steps frame (Step.Touch t ∷ ss) = (refl, no_abort_steps frame ss)
no_abort_steps frame (Step.Tool n ∷ ss) = (refl, no_abort_steps frame ss)
no_abort_steps frame (Step.Recall p ∷ ss) = (refl, (refl, no_abort_steps (Part p) ss))
no_abort_steps frame (Step.End ∷ ss) = no_abort_steps frame ss

no_abort_measuring : (tool : Option (List ℕ)) (frame : Frame) (ss : List Step) → HasNoAbort (measuring tool frame ss)
no_abort_measuring tool frame ss =
    no_abort_more (tooling tool) _ (no_abort_tooling tool) (no_abort_more (framing frame) _ (no_abort_framing frame)
    (no_abort_more (stepping frame ss) finish (no_abort_steps frame ss) (refl, tt)))

-- a plan has no abort
pub plan_no_abort : (p : Program) (k : ℕ) (start : Start) → HasNoAbort (plan p k start)
plan_no_abort p k NewConnection = (refl, (refl, (refl, (refl, (refl, no_abort_measuring _ _ (behind k p.steps))))))
plan_no_abort p k SameConnection = (refl, (refl, (refl, (refl, no_abort_measuring _ _ (behind k p.steps)))))
