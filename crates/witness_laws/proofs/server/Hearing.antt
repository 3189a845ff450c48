-- What a witness that has read all lines of a server knows and has reported, and what a mark makes of it.
use Rattle.witness_laws.proofs.Names.{◌&&◌, ◌++◌, ◌==◌, ◌||◌, ◌∙◌, ◌∷◌, ◌≡◌, [], Act, all_renewed, and_false, Answer, answered_known, ap}
use Rattle.witness_laws.proofs.Names.{append-nil, at_once, below, Bool, Client, Command, cond, Dialogue, false, false≢true, Fault, faulting, Heard}
use Rattle.witness_laws.proofs.Names.{hearing, if_false, inl, inr, is_foreign, Known, left_over, length, List, list_all, list_all-append, list_any}
use Rattle.witness_laws.proofs.Names.{map, Mark, None, nothing, one_more, or_parts, refl, Renewal, renewed, Reported, reported_by, sending}
use Rattle.witness_laws.proofs.Names.{sending_after, SentCommand, Some, Stage, subst, sym, Tag, true, unknowing, unless_crossed, unless_refused, Use}
use Rattle.witness_laws.proofs.Names.{use_heard, use_renewed, with_mark, ℕ}
use Rattle.witness_laws.specs.Reports.{is_other, act_reports, breaks_only, IsReportOf, AreReportsOf}
use Rattle.witness_laws.proofs.server.Knowing.{IsWithin, within_itself, within_trans, answer_within, Becomes, below_renewed, begun_at, pending, next, AreWithin}
use Rattle.witness_laws.proofs.server.Knowing.{more_within, IsStep, AreSteps, steps_within, gone_within, nothing_left}
use Rattle.witness_laws.proofs.server.Selected.{Selected, IsSo, still_so, less_so}
use Rattle.witness_laws.proofs.server.Places.{Shape, opened, used, AreShaped, HaveOthers, renews, shaped_renewed, shaped_join, Split, none_under, marked, own}
use Rattle.witness_laws.proofs.server.Places.{use_same, heard_uses, ended_uses}
use Rattle.witness_laws.proofs.orders.Counts.{line_is, none_before, none_after, renewed_counted, marked_counted, gone_counted, map_counted, higher, one_counted}
use Rattle.witness_laws.specs.Orders
use Rattle.witness_laws.proofs.orders.Claiming.{reports_join}

-- ---- reports

reports_step : (b : Bool) (y x : Reported) (ys xs : List Reported) → ys ≡ xs ++ x ∷ [] → cond b ys (y ∷ ys) ≡ cond b xs (y ∷ xs) ++ x ∷ []
reports_step true y x ys xs e = e
reports_step false y x ys xs e = ap (λ (l : List Reported). y ∷ l) e

reports_step_other : (b : Bool) (y : Reported) (ys xs : List Reported) → ys ≡ xs → cond b ys (y ∷ ys) ≡ cond b xs (y ∷ xs)
reports_step_other b y ys xs e = ap (λ (l : List Reported). cond b l (y ∷ l)) e

report_last : (x : Reported) → is_other x ≡ false → act_reports (x ∷ []) ≡ x ∷ []
report_last x e = ap (λ (b : Bool). cond b [] (x ∷ [])) e

no_report : (x : Reported) → is_other x ≡ true → act_reports (x ∷ []) ≡ []
no_report x e = ap (λ (b : Bool). cond b [] (x ∷ [])) e

reports_more : (so_far : List Reported) (x : Reported) → is_other x ≡ false → act_reports (so_far ++ x ∷ []) ≡ act_reports so_far ++ x ∷ []
reports_more [] x e = report_last x e
reports_more (y ∷ ys) x e = reports_step (is_other y) y x (act_reports (ys ++ x ∷ [])) (act_reports ys) (reports_more ys x e)

reports_other : (so_far : List Reported) (x : Reported) → is_other x ≡ true → act_reports (so_far ++ x ∷ []) ≡ act_reports so_far
reports_other [] x e = no_report x e
reports_other (y ∷ ys) x e =
    reports_step_other (is_other y) y (act_reports (ys ++ x ∷ [])) (act_reports ys) (reports_other ys x e)

all_more : (P : Tag → Bool) (so_far : List Reported) (x : Reported) → list_all (breaks_only P) so_far ≡ true → breaks_only P x ≡ true
    → list_all (breaks_only P) (so_far ++ x ∷ []) ≡ true
all_more P so_far x h one =
    list_all-append (breaks_only P) so_far (x ∷ [])
    ∙ (ap (λ (b : Bool). b && (breaks_only P x && true)) h ∙ ap (λ (b : Bool). b && true) one)

-- what was reported are the acts so far, and no rule is broken but that of turns, under one of these tags
pub record Tells (P : Tag → Bool) (so_far : List Reported) (acts : List Act) : Type 0 where
  pub are : AreReportsOf (act_reports so_far) acts
  pub breaks : list_all (breaks_only P) so_far ≡ true

-- one act more is reported
pub tells_more : (P : Tag → Bool) (so_far : List Reported) (acts : List Act) (x : Reported) (a : Act) → is_other x ≡ false
    → breaks_only P x ≡ true → Tells P so_far acts → IsReportOf x a → Tells P (so_far ++ x ∷ []) (acts ++ a ∷ [])
tells_more P so_far acts x a e b h one = record {
  are = subst (λ (l : List Reported). AreReportsOf l (acts ++ a ∷ [])) (sym (reports_more so_far x e)) (reports_join acts (a ∷ []) (act_reports so_far) (x ∷ []) h.are (one, tt));
  breaks = all_more P so_far x h.breaks b;
}

-- or another line
pub tells_other : (P : Tag → Bool) (so_far : List Reported) (acts : List Act) (x : Reported) → is_other x ≡ true → breaks_only P x ≡ true
    → Tells P so_far acts → Tells P (so_far ++ x ∷ []) acts
tells_other P so_far acts x e b h = record {
  are = subst (λ (l : List Reported). AreReportsOf l acts) (sym (reports_other so_far x e)) h.are;
  breaks = all_more P so_far x h.breaks b;
}

pub tells_same : (P : Tag → Bool) (so_far : List Reported) (acts : List Act) → Tells P so_far acts → Tells P (so_far ++ []) acts
tells_same P so_far acts h = subst (λ (l : List Reported). Tells P l acts) (sym (append-nil so_far)) h

-- ---- lines that this profile does not know

-- the tag of such a line is one of these
abbrev pub IsCounted : (Tag → Bool) → Tag → SentCommand → Type 0
IsCounted P tag what = is_foreign what ≡ true → P tag ≡ true

abbrev pub AreCounted : (Tag → Bool) → List Shape → Type 0
AreCounted P [] = Unit {0}
AreCounted P (x ∷ xs) = IsCounted P x.tag x.asked × AreCounted P xs

pub counted_at : (P : Tag → Bool) (before : List Shape) (x : Shape) (after : List Shape) → AreCounted P (before ++ x ∷ after)
    → IsCounted P x.tag x.asked
counted_at P [] x after h = h.0
counted_at P (y ∷ before) x after h = counted_at P before x after h.1

counted_gone : (P : Tag → Bool) (before : List Shape) (x : Shape) (after : List Shape) → AreCounted P (before ++ x ∷ after)
    → AreCounted P (before ++ after)
counted_gone P [] x after h = h.1
counted_gone P (y ∷ before) x after h = (h.0, counted_gone P before x after h.1)

counted_marked : (P : Tag → Bool) (before : List Shape) (x : Shape) (h : Heard) (after : List Shape) → AreCounted P (before ++ x ∷ after)
    → AreCounted P (before ++ marked x h ∷ after)
counted_marked P [] x h after c = c
counted_marked P (y ∷ before) x h after c = (c.0, counted_marked P before x h after c.1)

counted_more : (P : Tag → Bool) (xs : List Shape) (x : Shape) → AreCounted P xs → IsCounted P x.tag x.asked → AreCounted P (xs ++ x ∷ [])
counted_more P [] x h one = (one, tt)
counted_more P (y ∷ xs) x h one = (h.0, counted_more P xs x h.1 one)

-- ---- a witness

-- a witness has these open commands, all it knows is so, and it has reported these acts
pub record IsAt (P : Tag → Bool) (s : Selected) (acts : List Act) (xs : List Shape) (d : Dialogue) : Type 0 where
  pub view : Known
  pub so : IsSo s view
  pub within : AreWithin view d.uses d.known
  pub shaped : AreShaped xs d.uses
  pub rising : Orders.AreCounted 0 d.uses d.lines
  pub clear : d.crossed ≡ false
  pub counted : AreCounted P xs
  pub tells : Tells P d.reported acts

-- ---- steps

-- what happens to a change below does not end it
kept : (r : Renewal) (u : Use) → Becomes (renewed r (pending u.line u.stage)) (pending u.line u.stage)
    → IsStep r u (use_renewed (all_renewed r) u)
kept r u h =
    record { waiting = λ o. o; known = λ o. within_itself (all_renewed r u.known); next = λ e. go u.has_failed e }
  where
    go : (b : Bool) (e : Known) → IsWithin (all_renewed r (cond b e (below (Some (pending u.line u.stage)) u.command e)))
        (cond b (all_renewed r e) (below (Some (pending u.line u.stage)) u.command (all_renewed r e)))
    go true e = within_itself (all_renewed r e)
    go false e = below_renewed r (pending u.line u.stage) (pending u.line u.stage) u.command e h

fault_becomes : (n : ℕ) (at : Stage) → Becomes (renewed Fault (pending n at)) (pending n at)
fault_becomes n Stage.Sent = inr refl
fault_becomes n Stage.Received = inl refl
fault_becomes n (Stage.Given d) = inl refl
fault_becomes n Stage.Lost = inl refl

faults_step : (us : List Use) → AreSteps Fault us (renews Fault us)
faults_step [] = tt
faults_step (u ∷ us) = (kept Fault u (fault_becomes u.line u.stage), faults_step us)

other_becomes : (m n : ℕ) (at : Stage) (h : Heard) → (m == n) ≡ false → Becomes (renewed (Mark n h) (pending m at)) (pending m at)
other_becomes m n at h other =
    inr (if_false (m == n) (with_mark (pending m at) (begun_at at) h) (unless_refused (pending m at) n h) other)

others_step : (n : ℕ) (h : Heard) (us : List Use) → list_any (line_is n) us ≡ false → AreSteps (Mark n h) us (renews (Mark n h) us)
others_step n h [] others = tt
others_step n h (u ∷ us) others =
    let no = or_parts (u.line == n) (list_any (line_is n) us) others in
    (kept (Mark n h) u (other_becomes u.line n u.stage h no.0), others_step n h us no.1)

steps_among : (r : Renewal) (b : List Use) (u v : Use) (a c : List Use) → AreSteps r b (renews r b) → IsStep r u v → AreSteps r a c
    → AreSteps r (b ++ u ∷ a) (renews r b ++ v ∷ c)
steps_among r [] u v a c front one back = (one, back)
steps_among r (w ∷ b) u v a c front one back = (front.0, steps_among r b u v a c front.1 one back)

steps_join : (r : Renewal) (b a : List Use) → AreSteps r b (renews r b) → AreSteps r a (renews r a)
    → AreSteps r (b ++ a) (renews r b ++ renews r a)
steps_join r [] a front back = back
steps_join r (w ∷ b) a front back = (front.0, steps_join r b a front.1 back)

-- ---- a fault

pub faulting_at : (P : Tag → Bool) (s : Selected) (acts : List Act) (xs : List Shape) (d : Dialogue) (report : Reported) → is_other report ≡ true
    → breaks_only P report ≡ true → IsAt P s acts xs d → IsAt P s acts xs (faulting d report)
faulting_at P s acts xs d report other breaks h = record {
  view = all_renewed Fault h.view;
  so = still_so Fault s h.view h.so;
  within = steps_within Fault h.view d.uses (renews Fault d.uses) d.known (faults_step d.uses) h.within;
  shaped = shaped_renewed (all_renewed Fault) xs d.uses h.shaped;
  rising = renewed_counted (all_renewed Fault) 0 d.uses d.lines h.rising;
  clear = h.clear;
  counted = h.counted;
  tells = tells_other P d.reported acts report other breaks h.tells;
}

-- ---- lines of the client

unknowing_shaped : (xs : List Shape) (us : List Use) → AreShaped xs us → AreShaped xs (map unknowing us)
unknowing_shaped [] [] h = tt
unknowing_shaped [] (u ∷ us) h = absurd h
unknowing_shaped (x ∷ xs) [] h = absurd h
unknowing_shaped (x ∷ xs) (u ∷ us) h = (ap unknowing h.0, unknowing_shaped xs us h.1)

-- one that may be carried out at once
pub at_once_at : (P : Tag → Bool) (s : Selected) (acts : List Act) (xs : List Shape) (d : Dialogue) (line : List ℕ) → IsAt P s acts xs d
    → IsAt P s acts xs (at_once d line)
at_once_at P s acts xs d line h = record {
  view = h.view;
  so = h.so;
  within = nothing_left h.view d.uses d.known h.within;
  shaped = unknowing_shaped xs d.uses h.shaped;
  rising = map_counted unknowing (λ u. refl) 0 d.uses d.lines h.rising;
  clear = h.clear;
  counted = h.counted;
  tells = tells_other P d.reported acts (Reported.Other Client line) refl refl h.tells;
}

pub one_more_at : (P : Tag → Bool) (s : Selected) (acts : List Act) (xs : List Shape) (d : Dialogue) → IsAt P s acts xs d
    → IsAt P s acts xs (one_more d)
one_more_at P s acts xs d h = record {
  view = h.view;
  so = h.so;
  within = h.within;
  shaped = h.shaped;
  rising = higher 0 d.uses d.lines h.rising;
  clear = h.clear;
  counted = h.counted;
  tells = h.tells;
}

-- one under a tag that is not in use
first_sent : (P : Tag → Bool) (s : Selected) (acts : List Act) (xs : List Shape) (d : Dialogue) (tag : Tag) (what : SentCommand)
    → IsCounted P tag what → IsAt P s acts xs d
    → IsAt P s acts (xs ++ opened tag what Stage.Sent ∷ []) (sending_after d tag what None)
first_sent P s acts xs d tag what counts h =
    let u : Use = used (opened tag what Stage.Sent) d.lines d.known in record {
      view = h.view;
      so = h.so;
      within = more_within h.view d.uses u d.known (below (Some (pending d.lines Stage.Sent)) what d.known) h.within
          (within_itself d.known) (within_itself (below (Some (pending d.lines Stage.Sent)) what d.known));
      shaped = shaped_join xs (opened tag what Stage.Sent ∷ []) d.uses (u ∷ []) h.shaped (refl, tt);
      rising = one_counted 0 d.uses u h.rising;
      clear = ap (λ (b : Bool). b || (d.ordered && false)) h.clear ∙ and_false d.ordered;
      counted = counted_more P xs (opened tag what Stage.Sent) h.counted counts;
      tells = h.tells;
    }

pub sent_at : (P : Tag → Bool) (s : Selected) (acts : List Act) (xs : List Shape) (d : Dialogue) (tag : Tag) (what : SentCommand)
    → IsCounted P tag what → HaveOthers tag xs → IsAt P s acts xs d → IsAt P s acts (xs ++ opened tag what Stage.Sent ∷ []) (sending d tag what)
sent_at P s acts xs d tag what counts others h =
    subst (λ o. IsAt P s acts (xs ++ opened tag what Stage.Sent ∷ []) (sending_after d tag what o))
    (sym (none_under tag xs d.uses h.shaped others)) (first_sent P s acts xs d tag what counts h)

-- ---- a mark for a command

-- what is reported of a mark
abbrev pub said_of : Dialogue → Shape → ℕ → Known → Heard → List Reported
said_of d x n k h = reported_by (unless_crossed d.crossed (use_heard n h (used x n k)).known) x.tag x.asked x.stage h

-- it is at another stage
pub stays_at : (P : Tag → Bool) (s : Selected) (acts : List Act) (before : List Shape) (x : Shape) (after : List Shape) (d : Dialogue) (h : Heard)
    → (at : IsAt P s acts (before ++ x ∷ after) d) → (p : Split before x after d.uses)
    → IsStep (Mark p.n h) (used x p.n p.k) (own x p.n p.k h) → Tells P (d.reported ++ said_of d x p.n p.k h) acts
    → IsAt P s acts (before ++ marked x h ∷ after) (hearing d (length p.b) (used x p.n p.k) h false)
stays_at P s acts before x after d h at p step tells =
    let r : Renewal = Mark p.n h in
    let u : Use = used x p.n p.k in
    let v : Use = own x p.n p.k h in
    let is : map (use_heard p.n h) d.uses ≡ renews r p.b ++ v ∷ renews r p.a = heard_uses h before x after d.uses d.lines at.rising p in
    let rising : Orders.AreCounted 0 (p.b ++ u ∷ p.a) d.lines = subst (λ us. Orders.AreCounted 0 us d.lines) p.parts at.rising in
    record {
      view = all_renewed r at.view;
      so = still_so r s at.view at.so;
      within = subst (λ us. AreWithin (all_renewed r at.view) us (all_renewed r d.known)) (sym is)
          (steps_within r at.view (p.b ++ u ∷ p.a) (renews r p.b ++ v ∷ renews r p.a) d.known
          (steps_among r p.b u v p.a (renews r p.a) (others_step p.n h p.b (none_before 0 p.b u p.a d.lines rising)) step
          (others_step p.n h p.a (none_after 0 p.b u p.a d.lines rising)))
          (subst (λ us. AreWithin at.view us d.known) p.parts at.within));
      shaped = subst (AreShaped (before ++ marked x h ∷ after)) (sym is)
          (shaped_join before (marked x h ∷ after) (renews r p.b) (v ∷ renews r p.a) (shaped_renewed (all_renewed r) before p.b p.front)
          (refl, shaped_renewed (all_renewed r) after p.a p.back));
      rising = subst (λ us. Orders.AreCounted 0 us d.lines) (sym is) (marked_counted (all_renewed r) 0 p.b u v p.a d.lines refl rising);
      clear = at.clear;
      counted = counted_marked P before x h after at.counted;
      tells = tells;
    }

-- it has failed, and ends: it is open no more
pub ends_at : (P : Tag → Bool) (s : Selected) (acts : List Act) (before : List Shape) (x : Shape) (after : List Shape) (d : Dialogue) (h : Heard)
    → (at : IsAt P s acts (before ++ x ∷ after) d) → (p : Split before x after d.uses) → x.failed ≡ true
    → Tells P (d.reported ++ said_of d x p.n p.k h) acts
    → IsAt P s acts (before ++ after) (hearing d (length p.b) (used x p.n p.k) h true)
ends_at P s acts before x after d h at p failed tells =
    let r : Renewal = Mark p.n h in
    let u : Use = used x p.n p.k in
    let is : left_over (map (use_heard p.n h) d.uses) (length p.b) true ≡ renews r p.b ++ renews r p.a =
    ended_uses h before x after d.uses d.lines at.rising p in
    let rising : Orders.AreCounted 0 (p.b ++ u ∷ p.a) d.lines = subst (λ us. Orders.AreCounted 0 us d.lines) p.parts at.rising in
    record {
      view = all_renewed r at.view;
      so = still_so r s at.view at.so;
      within = subst (λ us. AreWithin (all_renewed r at.view) us (all_renewed r d.known)) (sym is)
          (steps_within r at.view (p.b ++ p.a) (renews r p.b ++ renews r p.a) d.known
          (steps_join r p.b p.a (others_step p.n h p.b (none_before 0 p.b u p.a d.lines rising))
          (others_step p.n h p.a (none_after 0 p.b u p.a d.lines rising)))
          (gone_within at.view p.b u p.a d.known failed (subst (λ us. AreWithin at.view us d.known) p.parts at.within)));
      shaped = subst (AreShaped (before ++ after)) (sym is)
          (shaped_join before after (renews r p.b) (renews r p.a) (shaped_renewed (all_renewed r) before p.b p.front)
          (shaped_renewed (all_renewed r) after p.a p.back));
      rising = subst (λ us. Orders.AreCounted 0 us d.lines) (sym is) (gone_counted (all_renewed r) 0 p.b u p.a d.lines rising);
      clear = at.clear;
      counted = counted_gone P before x after at.counted;
      tells = tells;
    }

pub none_shaped : (b : List Use) → AreShaped [] b → b ≡ []
none_shaped [] h = refl
none_shaped (u ∷ b) h = absurd h

-- what may be known for the first command, when it is answered, is so
pub known_first : (P : Tag → Bool) (s : Selected) (acts : List Act) (x : Shape) (after : List Shape) (d : Dialogue) (h : Heard)
    → (at : IsAt P s acts (x ∷ after) d) → (p : Split [] x after d.uses) → p.b ≡ [] → x.failed ≡ false
    → IsSo s (unless_crossed d.crossed (use_heard p.n h (used x p.n p.k)).known)
known_first P s acts x after d h at p first waiting =
    let u : Use = used x p.n p.k in
    let here : AreWithin at.view (u ∷ p.a) d.known =
    subst (λ b. AreWithin at.view (b ++ u ∷ p.a) d.known) first (subst (λ us. AreWithin at.view us d.known) p.parts at.within) in
    subst (λ k. IsSo s (unless_crossed d.crossed k)) (sym (ap (λ (v : Use). v.known) (use_same p.n h x p.k)))
    (subst (IsSo s) (sym (if_false d.crossed nothing (all_renewed (Mark p.n h) (answered_known h p.k)) at.clear))
    (still_so (Mark p.n h) s (answered_known h p.k)
    (less_so s (answered_known h p.k) at.view (answered_less h p.k at.view (here.0 waiting)) at.so)))
  where
    answered_less : (g : Heard) (k e : Known) → IsWithin k e → IsWithin (answered_known g k) e
    answered_less Heard.Received k e w = w
    answered_less Heard.Failed k e w = w
    answered_less (Heard.Given g) k e w = within_trans (all_renewed Answer k) k e (answer_within k) w
    answered_less Heard.Unread k e w = within_trans (all_renewed Answer k) k e (answer_within k) w
    answered_less Heard.Complete k e w = within_trans (all_renewed Answer k) k e (answer_within k) w

-- the first command fails: what it has begun is lost
pub stops_at : (P : Tag → Bool) (s new : Selected) (acts : List Act) (tag : Tag) (c : Command) (after : List Shape) (d : Dialogue)
    → (at : IsAt P s acts (opened tag (SentCommand.Known c) Stage.Received ∷ after) d)
    → (p : Split [] (opened tag (SentCommand.Known c) Stage.Received) after d.uses)
    → ((n : ℕ) (k : Known) → IsSo s k
    → IsSo new (all_renewed (Mark n Heard.Failed) (below (Some (pending n Stage.Received)) (SentCommand.Known c) k)))
    → Tells P (d.reported ++ said_of d (opened tag (SentCommand.Known c) Stage.Received) p.n p.k Heard.Failed) acts
    → IsAt P new acts (marked (opened tag (SentCommand.Known c) Stage.Received) Heard.Failed ∷ after)
    (hearing d (length p.b) (used (opened tag (SentCommand.Known c) Stage.Received) p.n p.k) Heard.Failed false)
stops_at P s new acts tag c after d at p so tells =
    let x : Shape = opened tag (SentCommand.Known c) Stage.Received in
    let r : Renewal = Mark p.n Heard.Failed in
    let u : Use = used x p.n p.k in
    let v : Use = own x p.n p.k Heard.Failed in
    let first : p.b ≡ [] = none_shaped p.b p.front in
    let is : map (use_heard p.n Heard.Failed) d.uses ≡ renews r p.b ++ v ∷ renews r p.a =
    heard_uses Heard.Failed [] x after d.uses d.lines at.rising p in
    let only : map (use_heard p.n Heard.Failed) d.uses ≡ v ∷ renews r p.a = is ∙ ap (λ b. renews r b ++ v ∷ renews r p.a) first in
    let rising : Orders.AreCounted 0 (p.b ++ u ∷ p.a) d.lines = subst (λ us. Orders.AreCounted 0 us d.lines) p.parts at.rising in
    let here : AreWithin at.view (u ∷ p.a) d.known =
    subst (λ b. AreWithin at.view (b ++ u ∷ p.a) d.known) first (subst (λ us. AreWithin at.view us d.known) p.parts at.within) in
    record {
      view = all_renewed r (next u at.view);
      so = so p.n at.view at.so;
      within = subst (λ us. AreWithin (all_renewed r (next u at.view)) us (all_renewed r d.known)) (sym only) (
        λ waiting. absurd (false≢true (sym waiting)),
        steps_within r (next u at.view) p.a (renews r p.a) d.known
            (others_step p.n Heard.Failed p.a (none_after 0 p.b u p.a d.lines rising)) here.1,
      );
      shaped = subst (AreShaped (marked x Heard.Failed ∷ after)) (sym only)
          (refl, shaped_renewed (all_renewed r) after p.a p.back);
      rising = subst (λ us. Orders.AreCounted 0 us d.lines) (sym is) (marked_counted (all_renewed r) 0 p.b u v p.a d.lines refl rising);
      clear = at.clear;
      counted = at.counted;
      tells = tells;
    }

-- the first command is done, with its act
pub done_at : (P : Tag → Bool) (s new : Selected) (acts done : List Act) (tag : Tag) (c : Command) (at_stage : Stage) (after : List Shape)
    (d : Dialogue) → (at : IsAt P s acts (opened tag (SentCommand.Known c) at_stage ∷ after) d)
    → (p : Split [] (opened tag (SentCommand.Known c) at_stage) after d.uses)
    → ((n : ℕ) (k : Known) → IsSo s k → IsSo new (all_renewed (Mark n Heard.Complete) (below (Some (pending n at_stage)) (SentCommand.Known c) k)))
    → Tells P (d.reported ++ said_of d (opened tag (SentCommand.Known c) at_stage) p.n p.k Heard.Complete) done
    → IsAt P new done after (hearing d (length p.b) (used (opened tag (SentCommand.Known c) at_stage) p.n p.k) Heard.Complete true)
done_at P s new acts done tag c at_stage after d at p so tells =
    let x : Shape = opened tag (SentCommand.Known c) at_stage in
    let r : Renewal = Mark p.n Heard.Complete in
    let u : Use = used x p.n p.k in
    let first : p.b ≡ [] = none_shaped p.b p.front in
    let is : left_over (map (use_heard p.n Heard.Complete) d.uses) (length p.b) true ≡ renews r p.b ++ renews r p.a =
    ended_uses Heard.Complete [] x after d.uses d.lines at.rising p in
    let only : left_over (map (use_heard p.n Heard.Complete) d.uses) (length p.b) true ≡ renews r p.a =
    is ∙ ap (λ b. renews r b ++ renews r p.a) first in
    let rising : Orders.AreCounted 0 (p.b ++ u ∷ p.a) d.lines = subst (λ us. Orders.AreCounted 0 us d.lines) p.parts at.rising in
    let here : AreWithin at.view (u ∷ p.a) d.known =
    subst (λ b. AreWithin at.view (b ++ u ∷ p.a) d.known) first (subst (λ us. AreWithin at.view us d.known) p.parts at.within) in
    record {
      view = all_renewed r (below (Some (pending p.n at_stage)) (SentCommand.Known c) at.view);
      so = so p.n at.view at.so;
      within = subst (λ us. AreWithin (all_renewed r (next u at.view)) us (all_renewed r d.known)) (sym only)
          (steps_within r (next u at.view) p.a (renews r p.a) d.known
          (others_step p.n Heard.Complete p.a (none_after 0 p.b u p.a d.lines rising)) here.1);
      shaped = subst (AreShaped after) (sym only) (shaped_renewed (all_renewed r) after p.a p.back);
      rising = subst (λ us. Orders.AreCounted 0 us d.lines) (sym is) (gone_counted (all_renewed r) 0 p.b u p.a d.lines rising);
      clear = at.clear;
      counted = at.counted.1;
      tells = tells;
    }
