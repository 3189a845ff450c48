-- What a witness may know for a command of a client: the changes that stand above it are as far as the commands that made them.
use Rattle.witness_laws.proofs.Names.{◌&&◌, ◌++◌, ◌<◌, ◌==◌, ◌||◌, ◌∙◌, ◌∷◌, ◌≡◌, ◌≤◌, [], all_renewed, Answer, ap, AreCounted, arith, asks_data, at}
use Rattle.witness_laws.proofs.Names.{below_command, Bool, Command, cond, Csy, done, eq-eqb, eqb-true, false, false≢true, Fault, Frame, frame_by}
use Rattle.witness_laws.proofs.Names.{frame_in, Heard, if_done, is_error, is_rival, kind_of, Known, List, list_any, Machine, MachineCsy, map, Mark}
use Rattle.witness_laws.proofs.Names.{ne_eqb, None, not, one_renewed, Option, or_parts, Part, part_at, PartCsy, Point, Progress, refl, Renewal}
use Rattle.witness_laws.proofs.Names.{renewed, Some, Stage, Standing, standing, subst, suc, sym, true, unless_refused, Use, use_renewed, waits}
use Rattle.witness_laws.proofs.Names.{with_mark, ℕ}
use Rattle.witness.specs.Known as knows
use Rattle.witness_laws.proofs.client.Cuts.{kind_by}
use Rattle.witness_laws.proofs.client.Knowing.{Selected, none_selected, selected_after, unless_part, IsOr, Fits}
use Rattle.witness_laws.proofs.orders.Counts.{none_below, none_before, none_after, line_is}

not_here : (n m : ℕ) → n < m → (m == n) ≡ false
not_here n m h = ne_eqb m n (λ e. omega (arith, h, e))

-- ---- how far a change is

-- by the stage of its command, if that waits and asks for no data
abbrev pub by_stage : Stage → Option Progress
by_stage Stage.Sent = Some Progress.Sent
by_stage Stage.Received = Some Progress.Begun
by_stage (Stage.Given d) = None
by_stage Stage.Lost = None

abbrev pub so_far : Use → Option Progress
so_far u = cond (waits u && not (asks_data (kind_by u.command))) (by_stage u.stage) None

-- of the line of a number; one that is not open is done
abbrev pub progress_in : List Use → ℕ → Option Progress
progress_in [] n = Some Progress.Done
progress_in (u ∷ us) n = cond (u.line == n) (so_far u) (progress_in us n)

pub progress_renewed : (f : Known → Known) (us : List Use) (n : ℕ) → progress_in (map (use_renewed f) us) n ≡ progress_in us n
progress_renewed f [] n = refl
progress_renewed f (u ∷ us) n = ap (λ (o : Option Progress). cond (u.line == n) (so_far u) o) (progress_renewed f us n)

past : (u : Use) (us : List Use) (n : ℕ) → (u.line == n) ≡ false → progress_in (u ∷ us) n ≡ progress_in us n
past u us n e = ap (λ (b : Bool). cond b (so_far u) (progress_in us n)) e

first : (u : Use) (us : List Use) (n : ℕ) → (u.line == n) ≡ true → progress_in (u ∷ us) n ≡ so_far u
first u us n e = ap (λ (b : Bool). cond b (so_far u) (progress_in us n)) e

-- of another line than that of a command in the middle, or of one that was there
progress_other : (f : Known → Known) (before : List Use) (u v : Use) (after : List Use) (n : ℕ) → (u.line == n) ≡ false → v.line ≡ u.line
    → progress_in (map (use_renewed f) before ++ v ∷ map (use_renewed f) after) n ≡ progress_in (before ++ u ∷ after) n
progress_other f [] u v after n other same =
    past v (map (use_renewed f) after) n (ap (λ (l : ℕ). l == n) same ∙ other)
    ∙ (progress_renewed f after n ∙ sym (past u after n other))
progress_other f (w ∷ before) u v after n other same =
    ap (λ (o : Option Progress). cond (w.line == n) (so_far w) o) (progress_other f before u v after n other same)

progress_left : (f : Known → Known) (before : List Use) (u : Use) (after : List Use) (n : ℕ) → (u.line == n) ≡ false
    → progress_in (map (use_renewed f) before ++ map (use_renewed f) after) n ≡ progress_in (before ++ u ∷ after) n
progress_left f [] u after n other = progress_renewed f after n ∙ sym (past u after n other)
progress_left f (w ∷ before) u after n other =
    ap (λ (o : Option Progress). cond (w.line == n) (so_far w) o) (progress_left f before u after n other)

-- of its own line
progress_own : (before : List Use) (u : Use) (after : List Use) (n : ℕ) → (u.line == n) ≡ true → list_any (line_is n) before ≡ false
    → progress_in (before ++ u ∷ after) n ≡ so_far u
progress_own [] u after n own none = first u after n own
progress_own (w ∷ before) u after n own none =
    let parts = or_parts (w.line == n) (list_any (line_is n) before) none in
    past w (before ++ u ∷ after) n parts.0 ∙ progress_own before u after n own parts.1

progress_none : (us : List Use) (n : ℕ) → list_any (line_is n) us ≡ false → progress_in us n ≡ Some Progress.Done
progress_none [] n none = refl
progress_none (w ∷ us) n none =
    let parts = or_parts (w.line == n) (list_any (line_is n) us) none in
    past w us n parts.0 ∙ progress_none us n parts.1

none_join : (us vs : List Use) (n : ℕ) → list_any (line_is n) us ≡ false → list_any (line_is n) vs ≡ false → list_any (line_is n) (us ++ vs) ≡ false
none_join [] vs n f g = g
none_join (u ∷ us) vs n f g =
    let parts = or_parts (u.line == n) (list_any (line_is n) us) f in
    ap (λ (b : Bool). b || list_any (line_is n) (us ++ vs)) parts.0 ∙ none_join us vs n parts.1 g

none_renewed : (f : Known → Known) (us : List Use) (n : ℕ) → list_any (line_is n) us ≡ false
    → list_any (line_is n) (map (use_renewed f) us) ≡ false
none_renewed f [] n e = refl
none_renewed f (u ∷ us) n e =
    let parts = or_parts (u.line == n) (list_any (line_is n) us) e in
    ap (λ (b : Bool). b || list_any (line_is n) (map (use_renewed f) us)) parts.0 ∙ none_renewed f us n parts.1

-- of a line above the first one that waits: it is done
pub progress_front : (from : ℕ) (before : List Use) (u : Use) (after : List Use) (top n : ℕ) (p : Progress)
    → AreCounted from (before ++ u ∷ after) top → list_any waits before ≡ false → n < u.line
    → progress_in (before ++ u ∷ after) n ≡ Some p → p ≡ Progress.Done
progress_front from [] u after top n p h none low is =
    let done_now : ◌≡◌ {A = Option Progress} (Some Progress.Done) (Some p) =
    sym (progress_none after n (none_below (suc u.line) after top n h.1 (omega (arith, low))))
    ∙ (sym (past u after n (not_here n u.line low)) ∙ is) in
    cc
progress_front from (w ∷ before) u after top n p h none low is =
    go (w.line == n) refl (progress_front (suc w.line) before u after top n p h.1 (or_parts (waits w) (list_any waits before) none).1 low)
  where
    rests : so_far w ≡ None
    rests = ap (λ (b : Bool). cond (b && not (asks_data (kind_by w.command))) (by_stage w.stage) None)
        (or_parts (waits w) (list_any waits before) none).0

    go : (b : Bool) → (w.line == n) ≡ b → (progress_in (before ++ u ∷ after) n ≡ Some p → p ≡ Progress.Done) → p ≡ Progress.Done
    go true own later =
        let clash : ◌≡◌ {A = Option Progress} None (Some p) = sym rests ∙ (sym (first w (before ++ u ∷ after) n own) ∙ is) in
        absurd (cc)
    go false other later = later (sym (past w (before ++ u ∷ after) n other) ∙ is)

-- ---- a change that stands

-- it is as far as its command, was sent under a tag that was free, and is above a line
pub record IsFine (us : List Use) (top : ℕ) (s : Standing) : Type 0 where
  pub alone : s.rival ≡ None
  pub below : s.line < top
  pub reached : progress_in us s.line ≡ Some s.progress

abbrev pub IsThere : Bool → List Use → ℕ → Option Standing → Type 0
IsThere lossy us top None = lossy ≡ true
IsThere lossy us top (Some s) = IsFine us top s

-- of this value, or, where some may be lost, none
abbrev pub Has : {A : Type 0} → Bool → List Use → ℕ → A → Option (A × Standing) → Type 0
Has lossy us top a None = lossy ≡ true
Has lossy us top a (Some (x, s)) = (x ≡ a) × IsFine us top s

abbrev pub HasIf : {A : Type 0} → Bool → List Use → ℕ → Option A → Option (A × Standing) → Type 0
HasIf lossy us top None o = Unit {0}
HasIf lossy us top (Some a) o = Has lossy us top a o

abbrev pub HasFrame : Bool → List Use → ℕ → Option Frame → Option (Csy × Standing) → Option (Point × Standing) → Type 0
HasFrame lossy us top None csy part = Unit {0}
HasFrame lossy us top (Some Machine) csy part = Has lossy us top MachineCsy csy
HasFrame lossy us top (Some (Part p)) csy part = Has lossy us top PartCsy csy × Has lossy us top p part

-- what is selected is what is known
pub record Holds (lossy : Bool) (us : List Use) (top : ℕ) (v : Selected) (k : Known) : Type 0 where
  pub tool : HasIf lossy us top v.tool k.tool
  pub frame : HasFrame lossy us top v.frame k.csy k.part
  pub zero : HasIf lossy us top v.zero k.zero

pub none_held : (lossy : Bool) (us : List Use) (top : ℕ) (k : Known) → Holds lossy us top none_selected k
none_held lossy us top k = record { tool = tt; frame = tt; zero = tt }

-- ---- at the front

-- all that stands above a line is done
abbrev pub AreDone : List Use → ℕ → Type 0
AreDone us top = (s : Standing) → IsFine us top s → s.progress ≡ Progress.Done

pub front_done : (before : List Use) (u : Use) (after : List Use) (top : ℕ) → AreCounted 0 (before ++ u ∷ after) top
    → list_any waits before ≡ false → AreDone (before ++ u ∷ after) u.line
front_done before u after top rising none s fine =
    progress_front 0 before u after top s.line s.progress rising none (IsFine.below fine) (IsFine.reached fine)

has_done : {A : Type 0} (lossy : Bool) (us : List Use) (top : ℕ) (a : A) (o : Option (A × Standing)) → AreDone us top
    → Has lossy us top a o → IsOr lossy a (done o)
has_done lossy us top a None all h = h
has_done {A = A} lossy us top a (Some (x, s)) all h =
    subst (λ (p : Progress). IsOr lossy a (if_done x p)) (sym (all s h.1)) h.0

frame_done : (lossy : Bool) (us : List Use) (top : ℕ) (f : Frame) (csy : Option (Csy × Standing)) (part : Option (Point × Standing))
    → AreDone us top → HasFrame lossy us top (Some f) csy part → IsOr lossy f (frame_by (done csy) (done part))
frame_done lossy us top Machine csy part all h = go (done csy) (has_done lossy us top MachineCsy csy all h)
  where
    go : (o : Option Csy) → IsOr lossy MachineCsy o → IsOr lossy Machine (frame_by o (done part))
    go None lost = lost
    go (Some c) same = subst (λ (x : Csy). IsOr lossy Machine (frame_in x (done part))) (sym same) refl
frame_done lossy us top (Part p) csy part all h =
    go (done csy) (done part) (has_done lossy us top PartCsy csy all h.0) (has_done lossy us top p part all h.1)
  where
    go : (o : Option Csy) (q : Option Point) → IsOr lossy PartCsy o → IsOr lossy p q → IsOr lossy (Part p) (frame_by o q)
    go None q lost is = lost
    go (Some c) None same lost = subst (λ (x : Csy). IsOr lossy (Part p) (frame_in x None)) (sym same) lost
    go (Some c) (Some q) same is = subst (λ (x : Csy). IsOr lossy (Part p) (frame_in x (Some q))) (sym same)
        (ap (λ (x : Point). Part x) is)

pub holds_fits : (lossy : Bool) (us : List Use) (top : ℕ) (v : Selected) (k : Known) → AreDone us top → Holds lossy us top v k → Fits lossy v k
holds_fits lossy us top v k all h = record {
  tool = λ n e. has_done lossy us top n k.tool all (subst (λ (o : Option (List ℕ)). HasIf lossy us top o k.tool) e (Holds.tool h));
  frame = λ f e. frame_done lossy us top f k.csy k.part all
      (subst (λ (o : Option Frame). HasFrame lossy us top o k.csy k.part) e (Holds.frame h));
  zero = λ p e. has_done lossy us top p k.zero all (subst (λ (o : Option Point). HasIf lossy us top o k.zero) e (Holds.zero h));
}

-- ---- what is renewed

pub record Moves (lossy later : Bool) (us vs : List Use) (top : ℕ) (r : Renewal) : Type 0 where
  pub lost : lossy ≡ true → later ≡ true
  pub each : (s : Standing) → IsFine us top s → IsThere later vs top (renewed r s)

stands : {A : Type 0} (lossy : Bool) (us : List Use) (top : ℕ) (a x : A) (o : Option Standing) → x ≡ a → IsThere lossy us top o
    → Has lossy us top a (standing x o)
stands lossy us top a x None same h = h
stands lossy us top a x (Some s) same h = (same, h)

has_moved : {A : Type 0} (lossy later : Bool) (us vs : List Use) (top : ℕ) (r : Renewal) (a : A) (o : Option (A × Standing))
    → Moves lossy later us vs top r → Has lossy us top a o → Has later vs top a (one_renewed r o)
has_moved lossy later us vs top r a None m h = Moves.lost m h
has_moved lossy later us vs top r a (Some (x, s)) m h = stands later vs top a x (renewed r s) h.0 (Moves.each m s h.1)

if_moved : {A : Type 0} (lossy later : Bool) (us vs : List Use) (top : ℕ) (r : Renewal) (v : Option A) (o : Option (A × Standing))
    → Moves lossy later us vs top r → HasIf lossy us top v o → HasIf later vs top v (one_renewed r o)
if_moved lossy later us vs top r None o m h = tt
if_moved lossy later us vs top r (Some a) o m h = has_moved lossy later us vs top r a o m h

frame_moved : (lossy later : Bool) (us vs : List Use) (top : ℕ) (r : Renewal) (v : Option Frame) (csy : Option (Csy × Standing))
    (part : Option (Point × Standing)) → Moves lossy later us vs top r → HasFrame lossy us top v csy part
    → HasFrame later vs top v (one_renewed r csy) (one_renewed r part)
frame_moved lossy later us vs top r None csy part m h = tt
frame_moved lossy later us vs top r (Some Machine) csy part m h = has_moved lossy later us vs top r MachineCsy csy m h
frame_moved lossy later us vs top r (Some (Part p)) csy part m h =
    (has_moved lossy later us vs top r PartCsy csy m h.0, has_moved lossy later us vs top r p part m h.1)

pub holds_moved : (lossy later : Bool) (us vs : List Use) (top : ℕ) (r : Renewal) (v : Selected) (k : Known)
    → Moves lossy later us vs top r → Holds lossy us top v k → Holds later vs top v (all_renewed r k)
holds_moved lossy later us vs top r v k m h = record {
  tool = if_moved lossy later us vs top r v.tool k.tool m (Holds.tool h);
  frame = frame_moved lossy later us vs top r v.frame k.csy k.part m (Holds.frame h);
  zero = if_moved lossy later us vs top r v.zero k.zero m (Holds.zero h);
}

-- ---- each renewal

-- a fault
pub fault_moves : (lossy : Bool) (us : List Use) (top : ℕ) → Moves lossy true us (map (use_renewed (all_renewed Fault)) us) top Fault
fault_moves lossy us top = record { lost = λ e. refl; each = each }
  where
    kept : (s : Standing) → IsFine us top s → IsFine (map (use_renewed (all_renewed Fault)) us) top s
    kept s fine = record {
      alone = IsFine.alone fine;
      below = IsFine.below fine;
      reached = progress_renewed (all_renewed Fault) us s.line ∙ IsFine.reached fine;
    }

    go : (s : Standing) (p : Progress) → IsFine us top s → IsThere true (map (use_renewed (all_renewed Fault)) us) top (knows.faulted s p)
    go s Progress.Sent fine = kept s fine
    go s Progress.Begun fine = refl
    go s Progress.Done fine = refl

    each : (s : Standing) → IsFine us top s → IsThere true (map (use_renewed (all_renewed Fault)) us) top (renewed Fault s)
    each s fine = go s s.progress fine

-- the answer to a line at the front
pub answer_moves : (lossy : Bool) (us : List Use) (top : ℕ) → AreDone us top → Moves lossy lossy us us top Answer
answer_moves lossy us top all = record {
  lost = λ e. e;
  each = λ s fine. subst (λ (p : Progress). IsThere lossy us top (knows.answering s p)) (sym (all s fine)) fine;
}

-- a mark carries what is so far of a command to what is so far of it then
pub record IsCarried (s : Standing) (o : Option Standing) (next : Option Progress) : Type 0 where
  pub progress : Progress
  pub is : o ≡ at s progress
  pub reached : next ≡ Some progress

abbrev pub Carries : Option Progress → Heard → Option Progress → Type 0
Carries now h next = (s : Standing) (p : Progress) → now ≡ Some p → IsCarried s (with_mark s p h) next

other_stands : (s : Standing) (line : ℕ) (h : Heard) → s.rival ≡ None → unless_refused s line h ≡ Some s
other_stands s line h alone = ap (λ (r : Option ℕ). cond (is_rival line r && is_error h) None (Some s)) alone

-- a mark for a command, after which its list of uses is this
mark_moves : (lossy : Bool) (us vs : List Use) (top line : ℕ) (h : Heard) (now next : Option Progress)
    → ((n : ℕ) → (line == n) ≡ false → progress_in vs n ≡ progress_in us n)
    → progress_in us line ≡ now → progress_in vs line ≡ next → Carries now h next → Moves lossy lossy us vs top (Mark line h)
mark_moves lossy us vs top line h now next others before after carries = record { lost = λ e. e; each = each }
  where
    own : (s : Standing) → IsFine us top s → s.line ≡ line → (o : Option Standing) → IsCarried s o next → IsThere lossy vs top o
    own s fine same o c = subst (IsThere lossy vs top) (sym (IsCarried.is c)) (record {
      alone = IsFine.alone fine;
      below = IsFine.below fine;
      reached = ap (progress_in vs) same ∙ (after ∙ IsCarried.reached c);
    })

    each : (s : Standing) → IsFine us top s → IsThere lossy vs top (renewed (Mark line h) s)
    each s fine = go (s.line == line) refl
      where
        go : (b : Bool) → (s.line == line) ≡ b
            → IsThere lossy vs top (cond b (with_mark s s.progress h) (unless_refused s line h))
        go true is =
            let same : s.line ≡ line = eqb-true s.line line is in
            own s fine same (with_mark s s.progress h)
            (carries s s.progress (sym before ∙ (ap (progress_in us) (sym same) ∙ IsFine.reached fine)))
        go false is = subst (IsThere lossy vs top) (sym (other_stands s line h (IsFine.alone fine))) (record {
          alone = IsFine.alone fine;
          below = IsFine.below fine;
          reached = others s.line (ne_eqb line s.line (λ e. false≢true (sym is ∙ eq-eqb s.line line (sym e)))) ∙ IsFine.reached fine;
        })

-- a mark for a line below what stands
pub aside_moves : (lossy : Bool) (us : List Use) (line : ℕ) (h : Heard) → Moves lossy lossy us us line (Mark line h)
aside_moves lossy us line h = record { lost = λ e. e; each = each }
  where
    each : (s : Standing) → IsFine us line s → IsThere lossy us line (renewed (Mark line h) s)
    each s fine =
        let low = IsFine.below fine in
        subst (IsThere lossy us line)
        (sym (ap (λ (b : Bool). cond b (with_mark s s.progress h) (unless_refused s line h)) (ne_eqb s.line line (λ e. omega (arith, low, e)))
        ∙ other_stands s line h (IsFine.alone fine))) fine

pub kept_moves : (lossy : Bool) (f : Known → Known) (from : ℕ) (before : List Use) (u v : Use) (after : List Use) (top high : ℕ) (h : Heard)
    → AreCounted from (before ++ u ∷ after) high → v.line ≡ u.line → Carries (so_far u) h (so_far v)
    → Moves lossy lossy (before ++ u ∷ after) (map (use_renewed f) before ++ v ∷ map (use_renewed f) after) top (Mark u.line h)
kept_moves lossy f from before u v after top high h rising same carries =
    mark_moves lossy (before ++ u ∷ after) (map (use_renewed f) before ++ v ∷ map (use_renewed f) after) top u.line h (so_far u) (so_far v)
    (λ n other. progress_other f before u v after n other same)
    (progress_own before u after u.line (eq-eqb u.line u.line refl) none)
    (progress_own (map (use_renewed f) before) v (map (use_renewed f) after) u.line (eq-eqb v.line u.line same)
    (none_renewed f before u.line none))
    carries
  where
    none : list_any (line_is u.line) before ≡ false
    none = none_before from before u after high rising

pub gone_moves : (lossy : Bool) (f : Known → Known) (from : ℕ) (before : List Use) (u : Use) (after : List Use) (top high : ℕ) (h : Heard)
    → AreCounted from (before ++ u ∷ after) high → Carries (so_far u) h (Some Progress.Done)
    → Moves lossy lossy (before ++ u ∷ after) (map (use_renewed f) before ++ map (use_renewed f) after) top (Mark u.line h)
gone_moves lossy f from before u after top high h rising carries =
    mark_moves lossy (before ++ u ∷ after) (map (use_renewed f) before ++ map (use_renewed f) after) top u.line h (so_far u)
    (Some Progress.Done)
    (λ n other. progress_left f before u after n other)
    (progress_own before u after u.line (eq-eqb u.line u.line refl) none)
    (progress_none (map (use_renewed f) before ++ map (use_renewed f) after) u.line
    (none_join (map (use_renewed f) before) (map (use_renewed f) after) u.line (none_renewed f before u.line none)
    (none_renewed f after u.line (none_after from before u after high rising))))
    carries
  where
    none : list_any (line_is u.line) before ≡ false
    none = none_before from before u after high rising

-- ---- a command is sent

progress_last : (us : List Use) (u : Use) (n : ℕ) → (u.line == n) ≡ false → progress_in (us ++ u ∷ []) n ≡ progress_in us n
progress_last [] u n other = past u [] n other
progress_last (v ∷ us) u n other = ap (λ (o : Option Progress). cond (v.line == n) (so_far v) o) (progress_last us u n other)

-- a command that was just sent
pub progress_sent : (us : List Use) (u : Use) (top : ℕ) → list_any (line_is top) us ≡ false → u.line ≡ top → progress_in (us ++ u ∷ []) top ≡ so_far u
progress_sent us u top none is = progress_own us u [] top (eq-eqb u.line top is) none

-- what stood stands, above any line
pub fine_more : (us : List Use) (u : Use) (top more : ℕ) (s : Standing) → top ≤ u.line → top ≤ more → IsFine us top s → IsFine (us ++ u ∷ []) more s
fine_more us u top more s high le fine = let low = IsFine.below fine in record {
  alone = IsFine.alone fine;
  below = omega (arith, low, le);
  reached = progress_last us u s.line (not_here s.line u.line (omega (arith, low, high))) ∙ IsFine.reached fine;
}

abbrev pub Stays : List Use → ℕ → List Use → ℕ → Type 0
Stays us top vs more = (s : Standing) → IsFine us top s → IsFine vs more s

has_stays : {A : Type 0} (lossy : Bool) (us vs : List Use) (top more : ℕ) (a : A) (o : Option (A × Standing)) → Stays us top vs more
    → Has lossy us top a o → Has lossy vs more a o
has_stays lossy us vs top more a None m h = h
has_stays lossy us vs top more a (Some (x, s)) m h = (h.0, m s h.1)

if_stays : {A : Type 0} (lossy : Bool) (us vs : List Use) (top more : ℕ) (v : Option A) (o : Option (A × Standing)) → Stays us top vs more
    → HasIf lossy us top v o → HasIf lossy vs more v o
if_stays lossy us vs top more None o m h = tt
if_stays lossy us vs top more (Some a) o m h = has_stays lossy us vs top more a o m h

frame_stays : (lossy : Bool) (us vs : List Use) (top more : ℕ) (v : Option Frame) (csy : Option (Csy × Standing))
    (part : Option (Point × Standing)) → Stays us top vs more → HasFrame lossy us top v csy part → HasFrame lossy vs more v csy part
frame_stays lossy us vs top more None csy part m h = tt
frame_stays lossy us vs top more (Some Machine) csy part m h = has_stays lossy us vs top more MachineCsy csy m h
frame_stays lossy us vs top more (Some (Part p)) csy part m h =
    (has_stays lossy us vs top more PartCsy csy m h.0, has_stays lossy us vs top more p part m h.1)

pub holds_stays : (lossy : Bool) (us vs : List Use) (top more : ℕ) (v : Selected) (k : Known) → Stays us top vs more
    → Holds lossy us top v k → Holds lossy vs more v k
holds_stays lossy us vs top more v k m h = record {
  tool = if_stays lossy us vs top more v.tool k.tool m (Holds.tool h);
  frame = frame_stays lossy us vs top more v.frame k.csy k.part m (Holds.frame h);
  zero = if_stays lossy us vs top more v.zero k.zero m (Holds.zero h);
}

-- a part's frame is no longer selected
frame_unless : (lossy : Bool) (us : List Use) (top : ℕ) (v : Option Frame) (csy : Option (Csy × Standing)) (part : Option (Point × Standing))
    → HasFrame lossy us top v csy part → HasFrame lossy us top (unless_part v) (knows.unless_part csy) part
frame_unless lossy us top None csy part h = tt
frame_unless lossy us top (Some (Part p)) csy part h = tt
frame_unless lossy us top (Some Machine) None part h = h
frame_unless lossy us top (Some Machine) (Some (MachineCsy, s)) part h = h
frame_unless lossy us top (Some Machine) (Some (PartCsy, s)) part h = absurd (cc)

-- the part's frame is selected
part_selected : (lossy : Bool) (us : List Use) (top : ℕ) (s : Standing) (v : Option Point) (zero : Option (Point × Standing))
    → IsFine us top s → HasIf lossy us top v zero → HasFrame lossy us top (part_at v) (Some (PartCsy, s)) zero
part_selected lossy us top s None zero fine h = tt
part_selected lossy us top s (Some p) zero fine h = ((refl, fine), h)

-- what is selected below a command is what may be known there
pub holds_below : (lossy : Bool) (us vs : List Use) (top more : ℕ) (s : Standing) (v : Selected) (k : Known)
    → Stays us top vs more → Holds lossy us top v k → (c : Command) → (asks_data (kind_of c) ≡ false → IsFine vs more s)
    → Holds lossy vs more (selected_after v c) (below_command (Some s) c k)
holds_below lossy us vs top more s v k m h c may = go (holds_stays lossy us vs top more v k m h) c may
  where
    go : Holds lossy vs more v k → (c : Command) → (asks_data (kind_of c) ≡ false → IsFine vs more s)
        → Holds lossy vs more (selected_after v c) (below_command (Some s) c k)
    go g Command.StartSession fine = none_held lossy vs more (below_command (Some s) Command.StartSession k)
    go g Command.EndSession fine = none_held lossy vs more (below_command (Some s) Command.EndSession k)
    go g Command.Home fine = record { tool = tt; frame = Holds.frame g; zero = Holds.zero g }
    go g (Command.ChangeTool n) fine = record { tool = (refl, fine refl); frame = Holds.frame g; zero = Holds.zero g }
    go g (Command.SetCsyTransformation p) fine = record {
      tool = Holds.tool g;
      frame = frame_unless lossy vs more v.frame k.csy k.part (Holds.frame g);
      zero = (refl, fine refl);
    }
    go g (Command.SetCoordSystem MachineCsy) fine = record { tool = Holds.tool g; frame = (refl, fine refl); zero = Holds.zero g }
    go g (Command.SetCoordSystem PartCsy) fine = record {
      tool = Holds.tool g;
      frame = part_selected lossy vs more s v.zero k.zero (fine refl) (Holds.zero g);
      zero = Holds.zero g;
    }
    go g Command.ClearAllErrors fine = g
    go g Command.IsHomed fine = g
    go g Command.OnPtMeasReport fine = g
    go g (Command.GoTo p) fine = g
    go g (Command.PtMeas p d) fine = g
    go g Command.AbortE fine = g
