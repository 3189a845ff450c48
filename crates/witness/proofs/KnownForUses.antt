-- What a line of the server makes of what is known, for the next line and for those that are open.
use Rattle.witness.proofs.Names.{◌&&◌, ◌==◌, ◌||◌, ◌∙◌, ◌∷◌, ◌≡◌, after_mark, all_for, all_renewed, Answer, answered_known, Answers, ap}
use Rattle.witness.proofs.Names.{at_once_below, Begun, Bool, by_progress, Csy, Done, done_before, error_at, false, Fault, fault_since, Heard}
use Rattle.witness.proofs.Names.{if◌then◌else◌, is_answer, is_done, is_doubtful, is_error, is_fault, is_for, is_rival, Known, known_below, known_for}
use Rattle.witness.proofs.Names.{last_csy, last_part, last_tool, last_zero, Line, List, Mark, mark_in, marks, may_hold, may_hold_for, None, not}
use Rattle.witness.proofs.Names.{nothing, one_renewed, Option, or-false, place, Point, Progress, progress_of, refl, rival_of, seen, SentCommand}
use Rattle.witness.proofs.Names.{Signal, so_far, Some, Stage, stage_of, stage_with, Standing, standing, standing_of, sym, Tag, true, unknowing, Use}
use Rattle.witness.proofs.Names.{use_heard, use_renewed, ℕ}
use Rattle.witness.proofs.Standings.{fault_on, mark_on, rival_hit, same, standing_more, one_error}
use Rattle.witness.specs.Histories.{Sent, with_mark}
use Rattle.witness.specs.declared.lines.Progress.TheVariants.{Sent as SentOnly}

-- ---- one change, with what it selects

abbrev pub claim_fault : {A : Type 0} → Bool → Option (A × Standing) → Option (A × Standing)
claim_fault true c = one_renewed Fault c
claim_fault false c = c

abbrev pub claim_answer : {A : Type 0} → Bool → Option (A × Standing) → Option (A × Standing)
claim_answer true c = one_renewed Answer c
claim_answer false c = c

abbrev pub claim_mark : {A : Type 0} → Option (ℕ × Heard) → Option (A × Standing) → Option (A × Standing)
claim_mark None c = c
claim_mark (Some (n, e)) c = one_renewed (Mark n e) c

marked : {A : Type 0} (a : A) (m : Option (ℕ × Heard)) (o : Option Standing) → standing a (mark_on m o) ≡ claim_mark m (standing a o)
marked a None None = refl
marked a (Some (n, e)) None = refl
marked a None (Some s) = refl
marked a (Some (n, e)) (Some s) = refl

faulted : {A : Type 0} (a : A) (f : Bool) (o : Option Standing) → standing a (fault_on f o) ≡ claim_fault f (standing a o)
faulted a true None = refl
faulted a false None = refl
faulted a true (Some s) = refl
faulted a false (Some s) = refl

both : {A : Type 0} (a : A) (m : Option (ℕ × Heard)) (f : Bool) (o : Option Standing)
    → standing a (mark_on m (fault_on f o)) ≡ claim_mark m (claim_fault f (standing a o))
both a m f o = marked a m (fault_on f o) ∙ ap (claim_mark m) (faulted a f o)

claim_more : {A : Type 0} (x : Option (A × Sent)) (line : List ℕ) (what : Option (Tag × Signal)) (h : List Line)
    → may_hold x (Answers line what ∷ h) ≡ claim_mark (mark_in what h) (claim_fault (is_fault what h) (may_hold x h))
claim_more {A} None line what h = none (mark_in what h) (is_fault what h) where
  none : (m : Option (ℕ × Heard)) (f : Bool) → None ≡ claim_mark {A = A} m (claim_fault f None)
  none None true = refl
  none None false = refl
  none (Some (n, e)) true = refl
  none (Some (n, e)) false = refl
claim_more (Some (a, s)) line what h =
    ap (standing a) (standing_more s line what h) ∙ both a (mark_in what h) (is_fault what h) (standing_of s h)

-- ---- what is known for the next line

abbrev pub known_fault : Bool → Known → Known
known_fault true k = all_renewed Fault k
known_fault false k = k

abbrev pub known_mark : Option (ℕ × Heard) → Known → Known
known_mark None k = k
known_mark (Some (n, e)) k = all_renewed (Mark n e) k

-- four changes, one by one
abbrev pub of_four : Option (List ℕ × Standing) → Option (Csy × Standing) → Option (Point × Standing) → Option (Point × Standing) → Known
of_four a c e g = record { tool = a; csy = c; part = e; zero = g }

pub four : {a b : Option (List ℕ × Standing)} {c d : Option (Csy × Standing)} {e f g h : Option (Point × Standing)}
    → a ≡ b → c ≡ d → e ≡ f → g ≡ h → of_four a c e g ≡ of_four b d f h
four {a} {b} {c} {d} {e} {f} {g} {h} p q r s =
    ap (λ x. of_four x c e g) p ∙ ap (λ x. of_four b x e g) q ∙ ap (λ x. of_four b d x g) r ∙ ap (λ x. of_four b d f x) s

-- a known of four changes, after a fault and a mark
all_marked : (m : Option (ℕ × Heard)) (f : Bool) (a : Option (List ℕ × Standing)) (c : Option (Csy × Standing)) (e g : Option (Point × Standing))
    → of_four (claim_mark m (claim_fault f a)) (claim_mark m (claim_fault f c)) (claim_mark m (claim_fault f e)) (claim_mark m (claim_fault f g))
    ≡ known_mark m (known_fault f (of_four a c e g))
all_marked None true a c e g = refl
all_marked None false a c e g = refl
all_marked (Some (n, h)) true a c e g = refl
all_marked (Some (n, h)) false a c e g = refl

pub below_more : (line : List ℕ) (what : Option (Tag × Signal)) (h : List Line)
    → known_below (Answers line what ∷ h) ≡ known_mark (mark_in what h) (known_fault (is_fault what h) (known_below h))
below_more line what h =
    four (claim_more (last_tool h) line what h) (claim_more (last_csy h) line what h)
    (claim_more (last_part h) line what h) (claim_more (last_zero h) line what h)
    ∙ all_marked (mark_in what h) (is_fault what h) (may_hold (last_tool h) h) (may_hold (last_csy h) h)
    (may_hold (last_part h) h) (may_hold (last_zero h) h)

-- ---- what is known for an open line

marked_none : {A : Type 0} (m : Option (ℕ × Heard)) → claim_mark {A = A} m None ≡ None
marked_none None = refl
marked_none (Some (n, e)) = refl

all_none : {A : Type 0} (m : Option (ℕ × Heard)) (ans f : Bool) → claim_mark {A = A} m (claim_answer ans (claim_fault f None)) ≡ None
all_none None true true = refl
all_none None true false = refl
all_none None false true = refl
all_none None false false = refl
all_none (Some (n, e)) true true = refl
all_none (Some (n, e)) true false = refl
all_none (Some (n, e)) false true = refl
all_none (Some (n, e)) false false = refl

-- an answer, with a change that may hold and is done, or is not
answered_done : {A : Type 0} (a : A) (s : Sent) (m : Option (ℕ × Heard)) (f lost faulty : Bool) (p : Option Progress)
    → (if is_done p then standing a (mark_on m (fault_on f (if lost then None else by_progress s faulty p))) else None)
    ≡ claim_mark m (claim_answer true (claim_fault f (standing a (if lost then None else by_progress s faulty p))))
answered_done a s m f true faulty p = same (is_done p) None ∙ sym (all_none m true f)
answered_done a s m f false faulty None = sym (all_none m true f)
answered_done a s m true false faulty (Some SentOnly) = sym (marked_none m)
answered_done a s m false false faulty (Some SentOnly) = sym (marked_none m)
answered_done a s m true false true (Some Begun) = sym (marked_none m)
answered_done a s m false false true (Some Begun) = sym (marked_none m)
answered_done a s m true false false (Some Begun) = sym (marked_none m)
answered_done a s m false false false (Some Begun) = sym (marked_none m)
answered_done a s m true false true (Some Done) = sym (marked_none m)
answered_done a s m false false true (Some Done) = sym (marked_none m)
answered_done a s m true false false (Some Done) = sym (marked_none m)
answered_done a s m false false false (Some Done) = marked a m (Some (so_far s Done))

answered : {A : Type 0} (a : A) (s : Sent) (m : Option (ℕ × Heard)) (ans before f lost faulty : Bool) (p : Option Progress)
    → (if (not ans || is_done p) && before
    then standing a (mark_on m (fault_on f (if lost then None else by_progress s faulty p))) else None)
    ≡ claim_mark m (claim_answer ans (claim_fault f
    (if before then standing a (if lost then None else by_progress s faulty p) else None)))
answered a s m ans false f lost faulty p = no_more (not ans || is_done p) ∙ sym (all_none m ans f) where
  no_more : (b : Bool)
      → (if b && false then standing a (mark_on m (fault_on f (if lost then None else by_progress s faulty p))) else None) ≡ None
  no_more true = refl
  no_more false = refl
answered a s m false true f lost faulty p = both a m f (if lost then None else by_progress s faulty p)
answered a s m true true f lost faulty p = all_true (is_done p) ∙ answered_done a s m f lost faulty p where
  all_true : (b : Bool)
      → (if b && true then standing a (mark_on m (fault_on f (if lost then None else by_progress s faulty p))) else None)
      ≡ (if b then standing a (mark_on m (fault_on f (if lost then None else by_progress s faulty p))) else None)
  all_true true = refl
  all_true false = refl

for_more : {A : Type 0} (u : Sent) (x : Option (A × Sent)) (line : List ℕ) (what : Option (Tag × Signal)) (h : List Line)
    → may_hold_for u x (Answers line what ∷ h)
    ≡ claim_mark (mark_in what h) (claim_answer (is_for is_answer (place u) (mark_in what h)) (claim_fault (is_fault what h) (may_hold_for u x h)))
for_more u None line what h = sym (all_none (mark_in what h) (is_for is_answer (place u) (mark_in what h)) (is_fault what h))
for_more u (Some (a, s)) line what h =
    ap (λ o. if done_before (place s) (place u) (Answers line what ∷ h) then standing a o else None) (standing_more s line what h)
    ∙ answered a s (mark_in what h) (is_for is_answer (place u) (mark_in what h)) (done_before (place s) (place u) h) (is_fault what h)
    (at_once_below (place s) h || is_doubtful s h) (fault_since (place s) h) (progress_of (marks (place s) h))

abbrev pub known_answer : Bool → Known → Known
known_answer answers k = if answers then all_renewed Answer k else k

all_answered : (m : Option (ℕ × Heard)) (ans f : Bool) (a : Option (List ℕ × Standing)) (c : Option (Csy × Standing)) (e g : Option (Point × Standing))
    → of_four (claim_mark m (claim_answer ans (claim_fault f a))) (claim_mark m (claim_answer ans (claim_fault f c)))
    (claim_mark m (claim_answer ans (claim_fault f e))) (claim_mark m (claim_answer ans (claim_fault f g)))
    ≡ known_mark m (known_answer ans (known_fault f (of_four a c e g)))
all_answered None true true a c e g = refl
all_answered None true false a c e g = refl
all_answered None false true a c e g = refl
all_answered None false false a c e g = refl
all_answered (Some (n, h)) true true a c e g = refl
all_answered (Some (n, h)) true false a c e g = refl
all_answered (Some (n, h)) false true a c e g = refl
all_answered (Some (n, h)) false false a c e g = refl

all_for_more : (u : Sent) (line : List ℕ) (what : Option (Tag × Signal)) (h : List Line)
    → all_for u (Answers line what ∷ h)
    ≡ known_mark (mark_in what h) (known_answer (is_for is_answer (place u) (mark_in what h)) (known_fault (is_fault what h) (all_for u h)))
all_for_more u line what h =
    four (for_more u (last_tool u.above) line what h) (for_more u (last_csy u.above) line what h)
    (for_more u (last_part u.above) line what h) (for_more u (last_zero u.above) line what h)
    ∙ all_answered (mark_in what h) (is_for is_answer (place u) (mark_in what h)) (is_fault what h)
    (may_hold_for u (last_tool u.above) h) (may_hold_for u (last_csy u.above) h)
    (may_hold_for u (last_part u.above) h) (may_hold_for u (last_zero u.above) h)

-- nothing stays nothing
nothing_known : (m : Option (ℕ × Heard)) (f doubtful hit ans : Bool) (k : Known)
    → (if doubtful || hit then nothing else known_mark m (known_answer ans (known_fault f k)))
    ≡ known_mark m (known_answer ans (if hit then nothing else known_fault f (if doubtful then nothing else k)))
nothing_known None true true true true k = refl
nothing_known None true true true false k = refl
nothing_known None true true false true k = refl
nothing_known None true true false false k = refl
nothing_known None false true true true k = refl
nothing_known None false true true false k = refl
nothing_known None false true false true k = refl
nothing_known None false true false false k = refl
nothing_known None f false true true k = refl
nothing_known None f false true false k = refl
nothing_known (Some (n, e)) true true true true k = refl
nothing_known (Some (n, e)) true true true false k = refl
nothing_known (Some (n, e)) true true false true k = refl
nothing_known (Some (n, e)) true true false false k = refl
nothing_known (Some (n, e)) false true true true k = refl
nothing_known (Some (n, e)) false true true false k = refl
nothing_known (Some (n, e)) false true false true k = refl
nothing_known (Some (n, e)) false true false false k = refl
nothing_known (Some (n, e)) f false true true k = refl
nothing_known (Some (n, e)) f false true false k = refl
nothing_known m f false false ans k = refl

known_more : (u : Sent) (line : List ℕ) (what : Option (Tag × Signal)) (h : List Line)
    → known_for u (Answers line what ∷ h)
    ≡ known_mark (mark_in what h) (known_answer (is_for is_answer (place u) (mark_in what h))
    (if rival_hit (rival_of u.tag u.above) (mark_in what h) then nothing else known_fault (is_fault what h) (known_for u h)))
known_more u line what h =
    ap (λ d. if d then nothing else all_for u (Answers line what ∷ h)) (one_error (rival_of u.tag u.above) line what h)
    ∙ ap (λ k. if is_doubtful u h || rival_hit (rival_of u.tag u.above) (mark_in what h) then nothing else k) (all_for_more u line what h)
    ∙ nothing_known (mark_in what h) (is_fault what h) (is_doubtful u h) (rival_hit (rival_of u.tag u.above) (mark_in what h))
    (is_for is_answer (place u) (mark_in what h)) (all_for u h)

-- ---- an open line

abbrev pub built : Sent → Stage → Bool → Known → Use
built u st failed k = record {
  tag = u.tag;
  command = u.command;
  line = place u;
  stage = st;
  has_failed = failed;
  rival = rival_of u.tag u.above;
  known = k;
}

pub three : (u : Sent) {a b : Stage} {c d : Bool} {e f : Known} → a ≡ b → c ≡ d → e ≡ f → built u a c e ≡ built u b d f
three u {a} {b} {c} {d} {e} {f} p q r = ap (λ x. built u x c e) p ∙ ap (λ x. built u b x e) q ∙ ap (λ x. built u b d x) r

abbrev pub use_fault : Bool → Use → Use
use_fault true u = use_renewed (all_renewed Fault) u
use_fault false u = u

abbrev pub use_mark : Option (ℕ × Heard) → Use → Use
use_mark None u = u
use_mark (Some (n, e)) u = use_heard n e u

heard_use : (u : Sent) (st : Stage) (failed : Bool) (k : Known) (n : ℕ) (e : Heard) (own hit : Bool)
    → built u (if own then stage_with u.command st e else st) (failed || (own && is_error e))
    (all_renewed (Mark n e) (known_answer (own && is_answer e) (if hit then nothing else k)))
    ≡ use_renewed (all_renewed (Mark n e)) (if own
    then after_mark (use_renewed (answered_known e) (if hit then unknowing (built u st failed k) else built u st failed k)) e
    else (if hit then unknowing (built u st failed k) else built u st failed k))
heard_use u st failed k n e true true = refl
heard_use u st failed k n e true false = refl
heard_use u st failed k n e false true = three u refl (or-false failed) refl
heard_use u st failed k n e false false = three u refl (or-false failed) refl

more_stage : (c : SentCommand) (n m : ℕ) (e : Heard) (ms : List Heard)
    → stage_of c (with_mark n (Some (m, e)) ms) ≡ (if n == m then stage_with c (stage_of c ms) e else stage_of c ms)
more_stage c n m e ms = either (n == m) where
  either : (b : Bool) → stage_of c (if b then e ∷ ms else ms) ≡ (if b then stage_with c (stage_of c ms) e else stage_of c ms)
  either true = refl
  either false = refl

faulted_use : (u : Sent) (st : Stage) (failed f : Bool) (k : Known) → built u st failed (known_fault f k) ≡ use_fault f (built u st failed k)
faulted_use u st failed true k = refl
faulted_use u st failed false k = refl

after_one : (u : Sent) (m : Option (ℕ × Heard)) (f failed : Bool) (ms : List Heard) (k : Known)
    → built u (stage_of u.command (with_mark (place u) m ms)) (failed || is_for is_error (place u) m)
    (known_mark m (known_answer (is_for is_answer (place u) m)
    (if rival_hit (rival_of u.tag u.above) m then nothing else known_fault f k)))
    ≡ use_mark m (use_fault f (built u (stage_of u.command ms) failed k))
after_one u None f failed ms k =
    three u refl (or-false failed) refl ∙ faulted_use u (stage_of u.command ms) failed f k
after_one u (Some (n, e)) f failed ms k =
    three u (more_stage u.command (place u) n e ms) refl refl
    ∙ heard_use u (stage_of u.command ms) failed (known_fault f k) n e (place u == n) (is_rival n (rival_of u.tag u.above) && is_error e)
    ∙ ap (use_heard n e) (faulted_use u (stage_of u.command ms) failed f k)

-- a line that is open, after a line of the server
pub seen_more : (u : Sent) (line : List ℕ) (what : Option (Tag × Signal)) (h : List Line)
    → seen (Answers line what ∷ h) u ≡ use_mark (mark_in what h) (use_fault (is_fault what h) (seen h u))
seen_more u line what h =
    three u refl refl (known_more u line what h)
    ∙ after_one u (mark_in what h) (is_fault what h) (error_at (place u) h) (marks (place u) h) (known_for u h)
