-- Which of two lists of reports claims more: what holds of any lists, and of what a mark reports.
use Rattle.witness_laws.proofs.Names.{◌++◌, ◌∙◌, ◌∷◌, ◌≡◌, [], Act, act_of, ap, asks_data, Bool, Breaks, ClaimNoMore, ClaimsNoMore, Comes, Command}
use Rattle.witness_laws.proofs.Names.{cond, Datum, Direction, done, Fails, false, false≢true, filter, filter-append, Frame, frame_in, frame_of}
use Rattle.witness_laws.proofs.Names.{framed, Heard, is_at_once_report, IsPart, kind_of, Known, known, List, moved, None, not, Option, other_at}
use Rattle.witness_laws.proofs.Names.{Point, refl, report_of, Reported, reported_by, SentCommand, Some, Stage, Stays, Step, step, subst, sym, Tag}
use Rattle.witness_laws.proofs.Names.{tool_of, touched, true, unknown, ℕ}
use Rattle.witness.specs.declared.lines.Step.TheVariants.{Counts}
use Rattle.witness_laws.specs.Claims as claims
use Rattle.witness_laws.proofs.orders.Knowing.{LessKnown, tool_less, frame_less, done_part, by_part}
use Rattle.witness_laws.specs.Reports.{AreReportsOf}

-- ---- any reports

pub same_claims : (xs : List Reported) → ClaimNoMore xs xs
same_claims [] = tt
same_claims (x ∷ xs) = (claims.same x, same_claims xs)

pub part_trans : {A : Type 0} (x y z : Option A) → IsPart x y → IsPart y z → IsPart x z
part_trans _ _ z (unknown y) q = unknown z
part_trans _ _ z (known y) q = q

pub part_both : {A : Type 0} (x y : Option A) → IsPart x y → IsPart y x → x ≡ y
part_both _ _ (unknown y) q = none y q where
  none : {A : Type 0} (y : Option A) → IsPart y None → None ≡ y
  none _ (unknown _) = refl
  none _ (known _) = refl
part_both _ _ (known y) q = refl

one_trans : (x y z : Reported) → ClaimsNoMore x y → ClaimsNoMore y z → ClaimsNoMore x z
one_trans _ _ z (claims.same x) q = q
one_trans _ _ _ p (claims.same y) = p
one_trans _ _ _ (claims.touched p d tool tool_too frame frame_too at a b) (claims.touched _ _ _ tool_last _ frame_last _ e f) =
    claims.touched p d tool tool_last frame frame_last at (part_trans tool tool_too tool_last a e) (part_trans frame frame_too frame_last b f)
one_trans _ _ _ (claims.touched p d tool tool_too frame frame_too at a b) (claims.contact _ _ _ name _ in_frame _ e f) =
    claims.contact p d tool name frame in_frame at (part_trans tool tool_too (Some name) a e) (part_trans frame frame_too (Some in_frame) b f)

pub claims_trans : (xs ys zs : List Reported) → ClaimNoMore xs ys → ClaimNoMore ys zs → ClaimNoMore xs zs
claims_trans [] [] [] p q = tt
claims_trans [] [] (z ∷ zs) p q = absurd q
claims_trans [] (y ∷ ys) zs p q = absurd p
claims_trans (x ∷ xs) [] zs p q = absurd p
claims_trans (x ∷ xs) (y ∷ ys) [] p q = absurd q
claims_trans (x ∷ xs) (y ∷ ys) (z ∷ zs) p q = (one_trans x y z p.0 q.0, claims_trans xs ys zs p.1 q.1)

-- the tool and the frame of a touch
touch_tool : Reported → Option (List ℕ)
touch_tool (Reported.Touched p d tool frame at) = tool
touch_tool (Reported.Did (Act.Contact p d tool frame at)) = Some tool
touch_tool _ = None

touch_frame : Reported → Option Frame
touch_frame (Reported.Touched p d tool frame at) = frame
touch_frame (Reported.Did (Act.Contact p d tool frame at)) = Some frame
touch_frame _ = None

tool_part : (x y : Reported) → ClaimsNoMore x y → IsPart (touch_tool x) (touch_tool y)
unfolding touch_tool
tool_part _ _ (claims.same x) = known (touch_tool x)
tool_part _ _ (claims.moved p frame) = unknown None
tool_part _ _ (claims.framed frame) = unknown None
tool_part _ _ (claims.touched p d tool tool_too frame frame_too at a b) = a
tool_part _ _ (claims.contact p d tool name frame in_frame at a b) = a

frame_part : (x y : Reported) → ClaimsNoMore x y → IsPart (touch_frame x) (touch_frame y)
unfolding touch_frame
frame_part _ _ (claims.same x) = known (touch_frame x)
frame_part _ _ (claims.moved p frame) = unknown None
frame_part _ _ (claims.framed frame) = unknown None
frame_part _ _ (claims.touched p d tool tool_too frame frame_too at a b) = b
frame_part _ _ (claims.contact p d tool name frame in_frame at a b) = b

-- one that is not the other names more
abbrev pub is_named : Reported → Bool
is_named (Reported.Did done) = true
is_named _ = false

pub named_stays : (x y : Reported) → ClaimsNoMore x y → is_named x ≡ true → is_named y ≡ true
named_stays _ _ (claims.same x) e = e
named_stays _ _ (claims.moved p frame) e = refl
named_stays _ _ (claims.framed frame) e = refl
named_stays _ _ (claims.touched p d tool tool_too frame frame_too at a b) e = e
named_stays _ _ (claims.contact p d tool name frame in_frame at a b) e = refl

one_both : (x y : Reported) → ClaimsNoMore x y → ClaimsNoMore y x → x ≡ y
unfolding touch_tool touch_frame
one_both _ _ (claims.same x) q = refl
one_both _ _ (claims.moved p frame) q = absurd (false≢true (named_stays _ _ q refl))
one_both _ _ (claims.framed frame) q = absurd (false≢true (named_stays _ _ q refl))
one_both _ _ (claims.touched p d tool tool_too frame frame_too at a b) q =
    ap (λ t. Reported.Touched p d t frame at) (part_both tool tool_too a (tool_part _ _ q))
    ∙ ap (λ x. Reported.Touched p d tool_too x at) (part_both frame frame_too b (frame_part _ _ q))
one_both _ _ (claims.contact p d tool name frame in_frame at a b) q = absurd (false≢true (named_stays _ _ q refl))

pub claims_both : (xs ys : List Reported) → ClaimNoMore xs ys → ClaimNoMore ys xs → xs ≡ ys
claims_both [] [] p q = refl
claims_both [] (y ∷ ys) p q = absurd p
claims_both (x ∷ xs) [] p q = absurd p
claims_both (x ∷ xs) (y ∷ ys) p q =
    ap (λ (r : Reported). r ∷ xs) (one_both x y p.0 q.0) ∙ ap (λ (l : List Reported). y ∷ l) (claims_both xs ys p.1 q.1)

claims_append : (xs ys zs ws : List Reported) → ClaimNoMore xs ys → ClaimNoMore zs ws → ClaimNoMore (xs ++ zs) (ys ++ ws)
claims_append [] [] zs ws p q = q
claims_append [] (y ∷ ys) zs ws p q = absurd p
claims_append (x ∷ xs) [] zs ws p q = absurd p
claims_append (x ∷ xs) (y ∷ ys) zs ws p q = (p.0, claims_append xs ys zs ws p.1 q)

-- ---- some of the reports

-- a choice of reports that does not depend on the tool and the frame
abbrev pub IsFair : (Reported → Bool) → Type 0
IsFair f = (x y : Reported) → ClaimsNoMore x y → f x ≡ f y

pub all_fair : IsFair (λ x. true)
all_fair x y p = refl

pub in_turn_fair : IsFair (λ x. not (is_at_once_report x))
in_turn_fair _ _ (claims.same x) = refl
in_turn_fair _ _ (claims.moved p frame) = refl
in_turn_fair _ _ (claims.framed frame) = refl
in_turn_fair _ _ (claims.touched p d tool tool_too frame frame_too at a b) = refl
in_turn_fair _ _ (claims.contact p d tool name frame in_frame at a b) = refl

pub all_of : (xs : List Reported) → filter (λ (x : Reported). true) xs ≡ xs
all_of [] = refl
all_of (x ∷ xs) = ap (λ (l : List Reported). x ∷ l) (all_of xs)

if_chosen : (x y : Reported) (xs ys : List Reported) (a b : Bool) → a ≡ b → ClaimsNoMore x y → ClaimNoMore xs ys
    → ClaimNoMore (cond a (x ∷ xs) xs) (cond b (y ∷ ys) ys)
if_chosen x y xs ys true true e p q = (p, q)
if_chosen x y xs ys true false e p q = absurd (cc (e))
if_chosen x y xs ys false true e p q = absurd (cc (e))
if_chosen x y xs ys false false e p q = q

pub chosen : (f : Reported → Bool) → IsFair f → (xs ys : List Reported) → ClaimNoMore xs ys → ClaimNoMore (filter f xs) (filter f ys)
chosen f fair [] [] p = tt
chosen f fair [] (y ∷ ys) p = absurd p
chosen f fair (x ∷ xs) [] p = absurd p
chosen f fair (x ∷ xs) (y ∷ ys) p = if_chosen x y (filter f xs) (filter f ys) (f x) (f y) (fair x y p.0) p.0 (chosen f fair xs ys p.1)

pub more_chosen : (f : Reported → Bool) → IsFair f → (xs ys zs ws : List Reported) → ClaimNoMore (filter f xs) (filter f ys) → ClaimNoMore zs ws
    → ClaimNoMore (filter f (xs ++ zs)) (filter f (ys ++ ws))
more_chosen f fair xs ys zs ws p q =
    subst (λ (l : List Reported). ClaimNoMore (filter f (xs ++ zs)) l) (sym (filter-append f ys ws))
    (subst (λ (l : List Reported). ClaimNoMore l (filter f ys ++ filter f ws)) (sym (filter-append f xs zs))
    (claims_append (filter f xs) (filter f ys) (filter f zs) (filter f ws) p (chosen f fair zs ws q)))

-- ---- what a mark reports

moved_less : (p : Point) (x y : Option Frame) → IsPart x y → ClaimsNoMore (moved p x) (moved p y)
moved_less p _ _ (unknown None) = claims.same (Reported.MovedSomewhere p)
moved_less p _ _ (unknown (Some frame)) = claims.moved p frame
moved_less p _ _ (known x) = claims.same (moved p x)

framed_less : (x y : Option Frame) → IsPart x y → ClaimsNoMore (framed x) (framed y)
framed_less _ _ (unknown None) = claims.same Reported.FramedSomehow
framed_less _ _ (unknown (Some frame)) = claims.framed frame
framed_less _ _ (known x) = claims.same (framed x)

touched_less : (t u : Option (List ℕ)) (x y : Option Frame) (p : Point) (d : Option Direction) (at : Point) → IsPart t u → IsPart x y
    → ClaimsNoMore (touched t x p d at) (touched u y p d at)
touched_less _ _ _ _ p d at (unknown None) (unknown y) = claims.touched p d None None None y at (unknown None) (unknown y)
touched_less _ _ _ _ p d at (unknown None) (known y) = claims.same (Reported.Touched p d None y at)
touched_less _ _ _ _ p d at (unknown (Some t)) (unknown None) = claims.touched p d None (Some t) None None at (unknown (Some t)) (unknown None)
touched_less _ _ _ _ p d at (unknown (Some t)) (unknown (Some y)) = claims.contact p d None t None y at (unknown (Some t)) (unknown (Some y))
touched_less _ _ _ _ p d at (unknown (Some t)) (known None) = claims.touched p d None (Some t) None None at (unknown (Some t)) (known None)
touched_less _ _ _ _ p d at (unknown (Some t)) (known (Some y)) = claims.contact p d None t (Some y) y at (unknown (Some t)) (known (Some y))
touched_less _ _ _ _ p d at (known None) (unknown y) = claims.touched p d None None None y at (known None) (unknown y)
touched_less _ _ _ _ p d at (known None) (known y) = claims.same (Reported.Touched p d None y at)
touched_less _ _ _ _ p d at (known (Some t)) (unknown None) = claims.same (Reported.Touched p d (Some t) None at)
touched_less _ _ _ _ p d at (known (Some t)) (unknown (Some y)) = claims.contact p d (Some t) t None y at (known (Some t)) (unknown (Some y))
touched_less _ _ _ _ p d at (known (Some t)) (known y) = claims.same (touched (Some t) y p d at)

act_less : (Live : ℕ → Type 0) (k m : Known) → LessKnown Live k m → (c : Command) (given : Option Datum) → ClaimNoMore (act_of k c given) (act_of m c given)
act_less Live k m l Command.StartSession given = tt
act_less Live k m l Command.EndSession given = tt
act_less Live k m l Command.ClearAllErrors given = tt
act_less Live k m l Command.IsHomed None = tt
act_less Live k m l Command.IsHomed (Some (Datum.Point at)) = tt
act_less Live k m l Command.IsHomed (Some (Datum.Homed homed)) = same_claims (act_of m Command.IsHomed (Some (Datum.Homed homed)))
act_less Live k m l Command.Home given = same_claims (act_of m Command.Home given)
act_less Live k m l Command.OnPtMeasReport given = tt
act_less Live k m l (Command.GoTo p) given = (moved_less p (frame_of k) (frame_of m) (frame_less Live k m l), tt)
act_less Live k m l (Command.PtMeas p d) None = tt
act_less Live k m l (Command.PtMeas p d) (Some (Datum.Point at)) =
    (touched_less (tool_of k) (tool_of m) (frame_of k) (frame_of m) p d at (tool_less Live k m l) (frame_less Live k m l), tt)
act_less Live k m l (Command.PtMeas p d) (Some (Datum.Homed homed)) = tt
act_less Live k m l (Command.ChangeTool tool) given = same_claims (act_of m (Command.ChangeTool tool) given)
act_less Live k m l (Command.SetCsyTransformation p) given = tt
act_less Live k m l (Command.SetCoordSystem csy) given =
    (framed_less (frame_in csy (done k.zero)) (frame_in csy (done m.zero)) (by_part csy (done k.zero) (done m.zero) (done_part Live k.zero m.zero l.zero)), tt)
act_less Live k m l Command.AbortE given = tt

step_less : (Live : ℕ → Type 0) (k m : Known) → LessKnown Live k m → (tag : Tag) (c : Command) (s : Step)
    → ClaimNoMore (report_of k tag c s) (report_of m tag c s)
step_less Live k m l tag c Stays = tt
step_less Live k m l tag c (Comes s) = tt
step_less Live k m l tag c Fails = tt
step_less Live k m l tag c (Breaks rule) = same_claims (Reported.Broken rule tag ∷ [])
step_less Live k m l tag c (Counts given) = act_less Live k m l c given

pub reported_less : (Live : ℕ → Type 0) (k m : Known) → LessKnown Live k m → (tag : Tag) (what : SentCommand) (s : Stage) (h : Heard)
    → ClaimNoMore (reported_by k tag what s h) (reported_by m tag what s h)
reported_less Live k m l tag (SentCommand.Known c) s h = step_less Live k m l tag c (step (asks_data (kind_of c)) s h)
reported_less Live k m l tag SentCommand.Asking s h = tt
reported_less Live k m l tag (SentCommand.Foreign line) s h = same_claims (other_at tag line s)

-- ---- reports of acts

pub reports_join : (acts more : List Act) (xs ys : List Reported) → AreReportsOf xs acts → AreReportsOf ys more
    → AreReportsOf (xs ++ ys) (acts ++ more)
reports_join [] more [] ys h g = g
reports_join [] more (x ∷ xs) ys h g = absurd h
reports_join (a ∷ acts) more [] ys h g = absurd h
reports_join (a ∷ acts) more (x ∷ xs) ys h g = (h.0, reports_join acts more xs ys h.1 g)
