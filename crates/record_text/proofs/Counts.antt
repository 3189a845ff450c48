-- What a reply counts, next to the contacts reported before it.
use Rattle.record_text.proofs.RunNames.{[], ◌++◌, ◌||◌, ◌∙◌, ◌∷◌, ◌≡◌, Act, act_of, ap, append-nil, begins_session, Bool, contacts, counted_next, Datum}
use Rattle.record_text.proofs.RunNames.{done_on, drop, drop-append_seam, false, false≢true, fine, followed, HaveTouches, heard, is_empty, IsCalm, IsNext}
use Rattle.record_text.proofs.RunNames.{IsOnPlan, IsProgram, IsProgress, Kind, length, List, MadeContact, Marked, marks, marks_of, Meaning, measured}
use Rattle.record_text.proofs.RunNames.{next_touch, None, not, numbered, Option, passed_over, plan, plan_fits, Planned, Plans, program_is_plain, refl}
use Rattle.record_text.proofs.RunNames.{Some, start_behind, step_cases, subst, suc, sym, Table, Tag, tallied, Tally, tells_homed, told_homed, Touch}
use Rattle.record_text.proofs.RunNames.{touch_in, touches_in, true, Wanted, ℕ}
use Rattle.dme_line.specs.Kinds.{kind_of}
use Rattle.protocol_model.specs.Replies.{Mark}
use Rattle.protocol_model.specs.Open.{Effect}
use Rattle.protocol_model.specs.declared.held.OpenCommand.{OpenCommand}
use Rattle.protocol_model.specs.declared.plans.Does.{Does}
use Rattle.protocol_model.proofs.plan.Fitting.{unknown}
use Rattle.protocol_model.proofs.plan.PassedOver.{homing_is, passes}
use Rattle.protocol_model.proofs.invariant.Touching.{does_goes, Goes, HasDatum, Keeps, measured_keeps}
use Rattle.protocol_model.proofs.undisturbed_run.Following.{AreAsked, asked_at, fits_asked, has_datum, IsAskedBy, IsGiven, kinds_of}
use Rattle.client_core.proofs.Fronts.{Fronted, fronted, live_kinds}
use Rattle.client_core.proofs.Homing.{followed_are_asked}
use Rattle.record_text.proofs.Views.{View, view_by, told_to, none_told}

-- ---- numbered acts

-- they are what a ledger has of acts that were done on one connection
pub numbered_done : (n : ℕ) (acts : List Act) → numbered n acts ≡ done_on n acts
numbered_done n [] = refl
numbered_done n (a ∷ acts) = ap (λ (l : List (ℕ × Act)). (n, a) ∷ l) (numbered_done n acts)

-- ---- what is counted of the tally

measured_number : (ws : List Wanted) (does : Does) (given : Option Datum) (y : Tally)
    → (measured ws does given y).connection ≡ y.connection
measured_number ws (Does.Touches t false) (Some (Datum.Point p)) y = refl
measured_number ws (Does.Touches t true) (Some (Datum.Point p)) y = refl
measured_number ws (Does.Touches t false) (Some (Datum.Homed homed)) y = refl
measured_number ws (Does.Touches t true) (Some (Datum.Homed homed)) y = refl
measured_number ws (Does.Touches t false) None y = refl
measured_number ws (Does.Touches t true) None y = refl
measured_number ws Does.Nothing given y = refl
measured_number ws Does.AsksHomed given y = refl
measured_number ws Does.Homes given y = refl
measured_number ws (Does.Moves p f) given y = refl
measured_number ws (Does.Changes n) given y = refl
measured_number ws (Does.Frames f) given y = refl

-- acts are counted after those that were, on the same connection
pub record Grows (y z : Tally) : Type 0 where
  pub more : List Act
  pub acts : z.counted ≡ y.counted ++ more
  pub number : z.connection ≡ y.connection

-- what is reported then are these
pub grows_told : (y z : Tally) → (g : Grows y z) → numbered z.connection (drop (length y.counted) z.counted) ≡ numbered y.connection g.more
grows_told y z g = ap (λ (n : ℕ). numbered n (drop (length y.counted) z.counted)) g.number
    ∙ ap (numbered y.connection) (ap (λ (l : List Act). drop (length y.counted) l) g.acts ∙ drop-append_seam y.counted g.more)

stays : (y z : Tally) → z.counted ≡ y.counted → z.connection ≡ y.connection → Grows y z
stays y z same number = record { more = []; acts = same ∙ sym (append-nil y.counted); number = number }

-- the tally in which a command is counted before its touch is measured
abbrev on_its_way : Kind → Option Datum → Planned → List Planned → Tally → Tally
on_its_way kind given q rest y = record y {
  session = y.session || begins_session kind;
  todo = passed_over (tells_homed kind given) rest;
  unsent = passed_over (tells_homed kind given) y.unsent;
  counted = y.counted ++ act_of q.does given;
  completed = suc y.completed;
}

counted_grows : (ws : List Wanted) (kind : Kind) (given : Option Datum) (q : Planned) (rest : List Planned) (y : Tally)
    → Grows y (counted_next ws kind given (q ∷ rest) y)
counted_grows ws kind given q rest y = record {
  more = act_of q.does given;
  acts = Keeps.counted (measured_keeps ws q.does given (on_its_way kind given q rest y));
  number = measured_number ws q.does given (on_its_way kind given q rest y);
}

effect_grows : (ws : List Wanted) (e : Effect) (y : Tally) → Grows y (tallied ws e y)
effect_grows ws Effect.Quiet y = stays y y refl refl
effect_grows ws Effect.Failure y = stays y (record y { failed = true }) refl refl
effect_grows ws (Effect.Count kind given) y = go y.todo
  where
    go : (todo : List Planned) → Grows y (counted_next ws kind given todo y)
    go [] = stays y y refl refl
    go (q ∷ rest) = counted_grows ws kind given q rest y

-- likewise for each expected reply
pub heard_grows : (ws : List Wanted) (b c : Table) (t : Tag) (m : Mark) → heard ws b t m ≡ fine c → Grows b.tally c.tally
heard_grows ws b c t m is =
    step_cases ws b t m c (Grows b.tally c.tally) is
    (λ zero_tag same. subst (λ (x : Table). Grows b.tally x.tally) same (stays b.tally b.tally refl refl))
    (λ n hs e sort here after. subst (λ (x : Table). Grows b.tally x.tally) (sym after) (effect_grows ws e b.tally))
    (λ n hs e sort other here after. subst (λ (x : Table). Grows b.tally x.tally) (sym after) (stays b.tally b.tally refl refl))

-- ---- the touches that are left

-- a client on a connection, and the contacts reported: those of the held features, then those of the unfinished one, and what is left
-- of the features are the touches of the plan that are not counted
pub record IsGoing (v : View) (ms : List MadeContact) : Type 0 where
  pub left : List Wanted
  pub touches : touches_in v.todo ≡ marks_of left
  pub progress : IsProgress v.program.features v.connection v.features v.points ms left
  pub ended : left ≡ [] → v.points ≡ []

-- commands that home the machine do no touch
no_touch : (d : Does) (k : Kind) → IsAskedBy d k → k ≡ Kind.Home → touch_in d ≡ []
no_touch (Does.Touches t last) k is home = absurd (apart (sym is ∙ home))
  where
    apart : Kind.PtMeas ≡ Kind.Home → ⊥
    apart e = cc
no_touch Does.AsksHomed k is home = refl
no_touch Does.Nothing k is home = refl
no_touch Does.Homes k is home = refl
no_touch (Does.Moves p f) k is home = refl
no_touch (Does.Changes n) k is home = refl
no_touch (Does.Frames f) k is home = refl

-- so a plan whose homing is skipped has the same touches
passed_touches : (told : Bool) (ps : List Planned) → AreAsked ps → touches_in (passed_over told ps) ≡ touches_in ps
passed_touches told ps h =
    (passes (λ (qs : List Planned). (touches_in qs ≡ touches_in ps) × AreAsked qs) (λ p qs e f. (
      ap (λ (l : List Marked). l ++ touches_in qs) (sym (no_touch p.does (kind_of p.command) f.1.0 (ap kind_of (homing_is p.command e))))
          ∙ f.0,
      f.1.1,
    )) told ps (refl, h)).0

some_marks : (ts : List Touch) (l : List Marked) → (ts ≡ [] → ⊥) → marks ts ++ l ≡ [] → ⊥
some_marks [] l some e = some refl
some_marks (t ∷ ts) l some e = cc

-- if no touch is left, no feature is left
none_left : (left : List Wanted) → HaveTouches left → marks_of left ≡ [] → left ≡ []
none_left [] some e = refl
none_left (w ∷ ws) some e = absurd (some_marks w.touches (marks_of ws) some.0 e)

not_empty : (ts : List Touch) → false ≡ is_empty ts → ts ≡ [] → ⊥
not_empty [] e none = false≢true e
not_empty (t ∷ ts) e none = cc

-- if no feature is left after a counted command, none is unfinished
measured_ends : (ws : List Wanted) (does : Does) (given : Option Datum) (y : Tally) (left later : List Wanted) (rest : List Marked)
    → HasDatum does given → HaveTouches left → touch_in does ++ rest ≡ marks_of left → rest ≡ marks_of later → (left ≡ [] → y.points ≡ [])
    → later ≡ [] → (measured ws does given y).points ≡ []
measured_ends ws (Does.Touches t false) (Some (Datum.Point p)) y left later rest has some e goes ended none =
    let next : IsNext t false rest left = next_touch t false rest left some e in
    absurd (some_marks next.ts (marks_of next.later) (not_empty next.ts next.ends) (sym next.rest_is ∙ (goes ∙ ap marks_of none)))
measured_ends ws (Does.Touches t true) (Some (Datum.Point p)) y left later rest has some e goes ended none = refl
measured_ends ws (Does.Touches t last) (Some (Datum.Homed homed)) y left later rest has some e goes ended none = absurd has
measured_ends ws (Does.Touches t last) None y left later rest has some e goes ended none = absurd has
measured_ends ws Does.AsksHomed given y left later rest has some e goes ended none =
    ended (none_left left some (sym e ∙ (goes ∙ ap marks_of none)))
measured_ends ws Does.Nothing given y left later rest has some e goes ended none =
    ended (none_left left some (sym e ∙ (goes ∙ ap marks_of none)))
measured_ends ws Does.Homes given y left later rest has some e goes ended none =
    ended (none_left left some (sym e ∙ (goes ∙ ap marks_of none)))
measured_ends ws (Does.Moves p f) given y left later rest has some e goes ended none =
    ended (none_left left some (sym e ∙ (goes ∙ ap marks_of none)))
measured_ends ws (Does.Changes n) given y left later rest has some e goes ended none =
    ended (none_left left some (sym e ∙ (goes ∙ ap marks_of none)))
measured_ends ws (Does.Frames f) given y left later rest has some e goes ended none =
    ended (none_left left some (sym e ∙ (goes ∙ ap marks_of none)))

-- ---- a command is counted

abbrev first_kind : List Kind → Kind → Kind
first_kind [] d = d
first_kind (k ∷ ks) d = k

behind_asked : (xs : List Planned) (x : Planned) (ys : List Planned) → AreAsked (xs ++ x ∷ ys) → AreAsked ys
behind_asked [] x ys h = h.1
behind_asked (w ∷ xs) x ys h = behind_asked xs x ys h.1

-- the first command of the plan is counted: it asks for what was given, and so do those after it
record IsFirst (q : Planned) (rest : List Planned) (given : Option Datum) : Type 0 where
  has : HasDatum q.does given
  others : AreAsked rest

first_asked : (p : Meaning) → IsProgram p → (y : Tally) (hs gs : List OpenCommand) (kind : Kind) (given : Option Datum) (q : Planned)
    (rest : List Planned) (plans : Plans) → IsOnPlan p hs y plans → y.todo ≡ q ∷ rest → IsCalm hs y → live_kinds hs ≡ kind ∷ live_kinds gs
    → IsGiven kind given → IsFirst q rest given
first_asked p program y hs gs kind given q rest plans f is calm live given_one =
    let steps : List Planned = plan p plans.features (start_behind plans.earlier) in
    let kinds : kind ∷ (live_kinds gs ++ kinds_of y.unsent) ≡ kinds_of (q ∷ rest) =
    ap (λ (l : List Kind). l ++ kinds_of y.unsent) (sym live) ∙ (calm.kinds ∙ ap kinds_of is) in
    let same : kind_of q.command ≡ kind = sym (ap (λ (l : List Kind). first_kind l kind) kinds) in
    let parts : f.finished ++ q ∷ rest ≡ followed (told_homed f.since) steps =
    ap (λ (l : List Planned). f.finished ++ l) (sym is) ∙ f.parts in
    let asked : AreAsked steps = fits_asked steps unknown
    (plan_fits p plans.features (start_behind plans.earlier) unknown (program_is_plain p program)) in
    let are : AreAsked (f.finished ++ q ∷ rest) = subst AreAsked (sym parts) (followed_are_asked (told_homed f.since) steps asked) in
    record {
      has = has_datum q.does (kind_of q.command) given (asked_at f.finished q rest are)
          (subst (λ (k : Kind). IsGiven k given) (sym same) given_one);
      others = behind_asked f.finished q rest are;
    }

-- what is reported then joins the contacts
counted_goes : (p : Meaning) (on : Bool) (last : ℕ) (y : Tally) (kind : Kind) (given : Option Datum) (q : Planned) (rest : List Planned)
    (ms : List MadeContact) → y.todo ≡ q ∷ rest → IsFirst q rest given → IsGoing (view_by p on last y) ms
    → IsGoing (view_by p on last (counted_next p.features kind given (q ∷ rest) y)) (ms
    ++ contacts (told_to (view_by p on last y) (view_by p on last (counted_next p.features kind given (q ∷ rest) y))))
unfolding counted_grows
counted_goes p on last y kind given q rest ms is first h =
    let mid : Tally = on_its_way kind given q rest y in
    let z : Tally = measured p.features q.does given mid in
    let keeps : Keeps mid z = measured_keeps p.features q.does given mid in
    let next : touch_in q.does ++ touches_in rest ≡ marks_of h.left = ap touches_in (sym is) ∙ h.touches in
    let goes : Goes p.features y.connection mid ms q.does given (touches_in rest) =
    does_goes p.features y.connection mid ms h.left q.does given (touches_in rest) h.progress (IsFirst.has first) next in
    let told : done_on y.connection (act_of q.does given)
    ≡ told_to (view_by p on last y) (view_by p on last z) =
    sym (grows_told y z (counted_grows p.features kind given q rest y) ∙ numbered_done y.connection (act_of q.does given)) in
    record {
      left = goes.left;
      touches = ap touches_in keeps.todo
          ∙ (passed_touches (tells_homed kind given) rest (IsFirst.others first) ∙ goes.touches);
      progress = subst (λ (n : ℕ). IsProgress p.features n z.features z.points
          (ms ++ contacts (told_to (view_by p on last y) (view_by p on last z))) goes.left)
          (sym (measured_number p.features q.does given mid))
          (subst (λ (l : List (ℕ × Act)). IsProgress p.features y.connection z.features z.points (ms ++ contacts l) goes.left)
          told goes.progress);
      ended = measured_ends p.features q.does given mid h.left goes.left (touches_in rest) (IsFirst.has first) h.progress.some next
          goes.touches h.ended;
    }

not_true : (b : Bool) → not b ≡ true → b ≡ false
not_true true e = absurd (false≢true e)
not_true false e = refl

-- if nothing is reported, the contacts are the same
still_goes : (v w : View) (ms : List MadeContact) → told_to v w ≡ [] → IsGoing w ms → IsGoing w (ms ++ contacts (told_to v w))
still_goes v w ms none h = subst (λ (l : List MadeContact). IsGoing w l)
    (sym (ap (λ (l : List (ℕ × Act)). ms ++ contacts l) none ∙ append-nil ms)) h

effect_goes : (p : Meaning) (on : Bool) (last : ℕ) → IsProgram p → (hs gs : List OpenCommand) (y : Tally) (plans : Plans) (e : Effect)
    (ms : List MadeContact) → IsOnPlan p hs y plans → Fronted (not y.failed) (live_kinds hs) (live_kinds gs) e
    → IsGoing (view_by p on last y) ms
    → IsGoing (view_by p on last (tallied p.features e y)) (ms
    ++ contacts (told_to (view_by p on last y) (view_by p on last (tallied p.features e y))))
effect_goes p on last program hs gs y plans Effect.Quiet ms f h going =
    still_goes (view_by p on last y) (view_by p on last y) ms (none_told y.connection y.counted) going
effect_goes p on last program hs gs y plans Effect.Failure ms f h going =
    still_goes (view_by p on last y) (view_by p on last y) ms (none_told y.connection y.counted) going
effect_goes p on last program hs gs y plans (Effect.Count kind given) ms f h going = go y.todo refl
  where
    go : (todo : List Planned) → y.todo ≡ todo → IsGoing (view_by p on last (counted_next p.features kind given todo y)) (ms
        ++ contacts (told_to (view_by p on last y) (view_by p on last (counted_next p.features kind given todo y))))
    go [] is = still_goes (view_by p on last y) (view_by p on last y) ms (none_told y.connection y.counted) going
    go (q ∷ rest) is = counted_goes p on last y kind given q rest ms is
        (first_asked p program y hs gs kind given q rest plans f is (f.calm (not_true y.failed h.0)) h.1 h.2) going

-- what holds of what is reported between two tallies
abbrev GoesTo : Meaning → Bool → ℕ → List MadeContact → Tally → Tally → Type 0
GoesTo p on last ms y z = IsGoing (view_by p on last z) (ms ++ contacts (told_to (view_by p on last y) (view_by p on last z)))

-- an expected reply
pub heard_goes : (p : Meaning) (on : Bool) (last : ℕ) → IsProgram p → (b c : Table) (t : Tag) (m : Mark) (plans : Plans)
    (ms : List MadeContact) → heard p.features b t m ≡ fine c → IsOnPlan p b.standard b.tally plans
    → IsGoing (view_by p on last b.tally) ms
    → IsGoing (view_by p on last c.tally) (ms ++ contacts (told_to (view_by p on last b.tally) (view_by p on last c.tally)))
heard_goes p on last program b c t m plans ms is f going =
    let none : GoesTo p on last ms b.tally b.tally = still_goes (view_by p on last b.tally) (view_by p on last b.tally) ms
    (none_told b.tally.connection b.tally.counted) going in
    step_cases p.features b t m c (GoesTo p on last ms b.tally c.tally) is
    (λ zero_tag same. subst (λ (x : Table). GoesTo p on last ms b.tally x.tally) same none)
    (λ n hs e sort here after. subst (λ (x : Table). GoesTo p on last ms b.tally x.tally) (sym after)
    (effect_goes p on last program b.standard hs b.tally plans e ms f
    (fronted (not b.tally.failed) b.standard (Tag.Std n) m hs e here f.filled) going))
    (λ n hs e sort other here after. subst (λ (x : Table). GoesTo p on last ms b.tally x.tally) (sym after) none)
