-- What a client holds and counts after every list of calls.
use Rattle.client_core.proofs.Names.{[], ◌&&◌, ◌++◌, ◌+◌, ◌||◌, ◌∙◌, ◌∷◌, ◌≡◌, ◌≤◌, Abort, Act, act_in, act_of, act_stands, acts_join, acts_of_fronts}
use Rattle.client_core.proofs.Names.{acts_planned, ap, append-nil, append_assoc, are_ours, AreActs, AreAsked, AreCounted, AreFilled, arith, asked_at}
use Rattle.client_core.proofs.Names.{asks_homed, begins_session, begun_now, behind_call, behind_calls, Bool, Call, Cause, Client, client_behind}
use Rattle.client_core.proofs.Names.{client_connected, client_hears, client_left, client_read, client_restarted, client_resumed, ClientEnd, cond}
use Rattle.client_core.proofs.Names.{Connected, count_keeps, count_open, counted_by, counted_next, Datum, Does, done_by, drop, drop-append_seam, due}
use Rattle.client_core.proofs.Names.{Effect, end_of, ends_abort, ends_of, eqb, eqb-true, Err, false, false≢true, faulted, Feature, features_ended}
use Rattle.client_core.proofs.Names.{Feed, fine, first_due, first_plan, first_state, fits_asked, followed, FramingFault, Front, front_of, front_read}
use Rattle.client_core.proofs.Names.{given_for, given_homed, given_point, given_under, has_datum, has_homing, HasDatum, Heard as Heardings, heard_in}
use Rattle.client_core.proofs.Names.{heard_on, held_now, held_under, homed_of, if_false, if◌then◌else◌, is_asking, is_last, is_running, is_some}
use Rattle.client_core.proofs.Names.{is_told, is_whole, IsAsked, IsGiven, IsProgram, Keeps, Kind, kind_counted, kind_of, kinds_of, last_state}
use Rattle.client_core.proofs.Names.{le_refl, Leave, left_state, length, length-append, line_read, List, may_abort, may_read, may_resume, Meaning}
use Rattle.client_core.proofs.Names.{measured, measured_keeps, new_client, new_client_end, next_kind, next_number, next_of, None, not, NotHomedText}
use Rattle.client_core.proofs.Names.{NotPoint, NotResponse, Ok, OpenCommand, Option, Origin, origin_ended, origin_of, origins_ended, origins_of}
use Rattle.client_core.proofs.Names.{passed_over, plan, Planned, planned_more, Plans, plans_begun, plans_behind, plans_by, Point, point_of, possible}
use Rattle.client_core.proofs.Names.{ReadOne, refl, Response, response_of, response_read, Restart, Result, Resume, Send, sends_abort, sends_next}
use Rattle.client_core.proofs.Names.{Sent, Some, Start, start_behind, State, state_behind, step_cases, subst, suc, sym, Table, Tag, tag_is, take}
use Rattle.client_core.proofs.Names.{take-append_seam, tallied, Tally, tells_homed, told_homed, true, Wanted, zero, ℕ}
use Rattle.dme_line.specs.declared.responses.Mark.{Mark as Marked}
use Rattle.protocol_model.specs.Replies.{Mark}
use Rattle.protocol_model.proofs.HeardTables.{heard}
use Rattle.protocol_model.proofs.plan.Blocks.{program_is_plain}
use Rattle.protocol_model.proofs.plan.Marks.{plan_fits}
use Rattle.protocol_model.proofs.plan.PlanLaws.{plan_ends_left}
use Rattle.protocol_model.proofs.plan.Fitting.{unknown}
use Rattle.client_core.proofs.Fits.{Fits, both, fits_ours, plan_fits_features, joined_more, point_fits, last_fits, fewer_are_ours, joined_origin}
use Rattle.client_core.proofs.Fronts.{live_kinds, Fronted, fronted, none_live, live_more, stay_filled, filled_more, none_asks}
use Rattle.client_core.proofs.Fronts.{IsAskedLast, asked_last}
use Rattle.client_core.proofs.Homing.{once, asked, asked_more, plan_asks_once, followed_unhomed, unhomed_behind, passed_kinds, homing_kinds}
use Rattle.client_core.proofs.Homing.{passed_ends, HomesBehind, plan_homes, followed_asked, followed_are_asked, followed_at, told_more}
use Rattle.client_core.proofs.Homing.{told_by, told_asks, untold}

-- ---- what holds on a connection

-- what is open of a plan of which no command has failed, and what is unsent of it, are what is to be counted; after the question whether
-- the machine is homed nothing is open
pub record IsCalm (hs : List OpenCommand) (y : Tally) : Type 0 where
  pub kinds : live_kinds hs ++ kinds_of y.unsent ≡ kinds_of y.todo
  pub asked_last : IsAskedLast (live_kinds hs)

-- the present plan: its counted prefix, the acts and the features that it gave, and what is open of it
pub record IsOnPlan (p : Meaning) (hs : List OpenCommand) (y : Tally) (plans : Plans) : Type 0 where
  pub finished : List Planned
  pub first : List Act
  pub since : List Act
  pub counted_are : y.counted ≡ first ++ since
  pub before : length first ≡ plans.before
  pub parts : finished ++ y.todo ≡ followed (told_homed since) (plan p plans.features (start_behind plans.earlier))
  pub many : length finished ≡ y.completed
  pub earlier_acts : AreActs first (acts_of_fronts p plans.earlier)
  pub acts : AreActs since (acts_planned finished)
  pub fits : Fits p.features y.features (length y.points) (ends_of y.todo)
  pub joined : length y.features ≡ plans.features + features_ended finished
  pub origins : drop plans.features (origins_of y.features) ≡ origins_ended y.connection finished
  pub filled : AreFilled hs
  pub unhomed : told_homed since ≡ true → has_homing y.unsent ≡ false
  pub calm : y.failed ≡ false → IsCalm hs y

plan_asked : (p : Meaning) (k : ℕ) (start : Start) → IsProgram p → AreAsked (plan p k start)
plan_asked p k start h = fits_asked (plan p k start) unknown (plan_fits p k start unknown (program_is_plain p h))

-- ---- what is counted

abbrev first_kind : List Kind → Kind → Kind
first_kind [] d = d
first_kind (k ∷ ks) d = k

abbrev other_kinds : List Kind → List Kind
other_kinds [] = []
other_kinds (k ∷ ks) = ks

measured_completed : (ws : List Wanted) (does : Does) (given : Option Datum) (y : Tally)
    → (measured ws does given y).completed ≡ y.completed
measured_completed ws (Does.Touches t false) (Some (Datum.Point p)) y = refl
measured_completed ws (Does.Touches t true) (Some (Datum.Point p)) y = refl
measured_completed ws (Does.Touches t false) (Some (Datum.Homed homed)) y = refl
measured_completed ws (Does.Touches t true) (Some (Datum.Homed homed)) y = refl
measured_completed ws (Does.Touches t false) None y = refl
measured_completed ws (Does.Touches t true) None y = refl
measured_completed ws Does.Nothing given y = refl
measured_completed ws Does.AsksHomed given y = refl
measured_completed ws Does.Homes given y = refl
measured_completed ws (Does.Moves p f) given y = refl
measured_completed ws (Does.Changes n) given y = refl
measured_completed ws (Does.Frames f) given y = refl

measured_fits : (p : Meaning) → IsProgram p → (does : Does) (given : Option Datum) (y : Tally) (rest : List Planned)
    → HasDatum does given
    → Fits p.features y.features (length y.points) (end_of does ++ ends_of rest)
    → Fits p.features (measured p.features does given y).features (length (measured p.features does given y).points) (ends_of rest)
measured_fits p program (Does.Touches t false) (Some (Datum.Point q)) y rest has h =
    subst (λ (n : ℕ). Fits p.features y.features n (ends_of rest)) (omega (arith, length-append y.points (q ∷ [])))
    (point_fits p.features y.features (length y.points) (ends_of rest) h)
measured_fits p program (Does.Touches t true) (Some (Datum.Point q)) y rest has h =
    last_fits p.features y.features y.points q (origin_of y.connection t.frame) (ends_of rest) (IsProgram.features program) h
measured_fits p program (Does.Touches t last) (Some (Datum.Homed homed)) y rest has h = absurd has
measured_fits p program (Does.Touches t last) None y rest has h = absurd has
measured_fits p program Does.AsksHomed given y rest has h = h
measured_fits p program Does.Nothing given y rest has h = h
measured_fits p program Does.Homes given y rest has h = h
measured_fits p program (Does.Moves q f) given y rest has h = h
measured_fits p program (Does.Changes n) given y rest has h = h
measured_fits p program (Does.Frames f) given y rest has h = h

ended_more : (ps : List Planned) (q : Planned) → features_ended (ps ++ q ∷ []) ≡ features_ended ps + features_ended (q ∷ [])
ended_more [] q = omega (arith)
ended_more (p ∷ ps) q = go (is_last p.does) (ended_more ps q)
  where
    go : (b : Bool) → features_ended (ps ++ q ∷ []) ≡ features_ended ps + features_ended (q ∷ [])
        → cond b (suc (features_ended (ps ++ q ∷ []))) (features_ended (ps ++ q ∷ []))
        ≡ cond b (suc (features_ended ps)) (features_ended ps) + features_ended (q ∷ [])
    go true e = omega (arith, e)
    go false e = e

measured_joins : (p : Meaning) (does : Does) (given : Option Datum) (y : Tally) (rest : List Planned)
    → HasDatum does given
    → Fits p.features y.features (length y.points) (end_of does ++ ends_of rest)
    → length (measured p.features does given y).features ≡ length y.features + cond (is_last does) 1 0
measured_joins p (Does.Touches t false) (Some (Datum.Point q)) y rest has h = omega (arith)
measured_joins p (Does.Touches t true) (Some (Datum.Point q)) y rest has h = let more =
    joined_more p.features y.features (length y.points) (y.points ++ q ∷ []) (origin_of y.connection t.frame) (ends_of rest) h in
    omega (arith, more)
measured_joins p (Does.Touches t last) (Some (Datum.Homed homed)) y rest has h = absurd has
measured_joins p (Does.Touches t last) None y rest has h = absurd has
measured_joins p Does.AsksHomed given y rest has h = omega (arith)
measured_joins p Does.Nothing given y rest has h = omega (arith)
measured_joins p Does.Homes given y rest has h = omega (arith)
measured_joins p (Does.Moves q f) given y rest has h = omega (arith)
measured_joins p (Does.Changes n) given y rest has h = omega (arith)
measured_joins p (Does.Frames f) given y rest has h = omega (arith)

-- ---- where features come from

origins_long : (fs : List Feature) → length (origins_of fs) ≡ length fs
origins_long [] = refl
origins_long (f ∷ fs) = ap suc (origins_long fs)

none_behind : (fs : List Feature) → drop (length fs) (origins_of fs) ≡ []
none_behind [] = refl
none_behind (f ∷ fs) = none_behind fs

drop_within : (k : ℕ) (xs ys : List (Option Origin)) → k ≤ length xs → drop k (xs ++ ys) ≡ drop k xs ++ ys
drop_within zero xs ys le = refl
drop_within (suc k) [] ys le = absurd (omega (arith, le))
drop_within (suc k) (x ∷ xs) ys le = drop_within k xs ys (omega (arith, le))

origins_more : (n : ℕ) (ps : List Planned) (q : Planned) → origins_ended n (ps ++ q ∷ []) ≡ origins_ended n ps ++ origin_ended n q.does
origins_more n [] q = append-nil (origin_ended n q.does)
origins_more n (p ∷ ps) q = ap (λ (l : List (Option Origin)). origin_ended n p.does ++ l) (origins_more n ps q)
    ∙ sym (append_assoc (origin_ended n p.does) (origins_ended n ps) (origin_ended n q.does))

measured_number : (ws : List Wanted) (does : Does) (given : Option Datum) (y : Tally)
    → (measured ws does given y).connection ≡ y.connection
measured_number ws (Does.Touches t false) (Some (Datum.Point p)) y = refl
measured_number ws (Does.Touches t true) (Some (Datum.Point p)) y = refl
measured_number ws (Does.Touches t false) (Some (Datum.Homed homed)) y = refl
measured_number ws (Does.Touches t true) (Some (Datum.Homed homed)) y = refl
measured_number ws (Does.Touches t false) None y = refl
measured_number ws (Does.Touches t true) None y = refl
measured_number ws Does.Nothing given y = refl
measured_number ws Does.AsksHomed given y = refl
measured_number ws Does.Homes given y = refl
measured_number ws (Does.Moves p f) given y = refl
measured_number ws (Does.Changes n) given y = refl
measured_number ws (Does.Frames f) given y = refl

measured_origins : (p : Meaning) (does : Does) (given : Option Datum) (y : Tally) (rest : List Planned)
    → HasDatum does given
    → Fits p.features y.features (length y.points) (end_of does ++ ends_of rest)
    → origins_of (measured p.features does given y).features ≡ origins_of y.features ++ origin_ended y.connection does
measured_origins p (Does.Touches t false) (Some (Datum.Point q)) y rest has h = sym (append-nil (origins_of y.features))
measured_origins p (Does.Touches t true) (Some (Datum.Point q)) y rest has h =
    joined_origin p.features y.features (length y.points) (y.points ++ q ∷ []) (origin_of y.connection t.frame) (ends_of rest) h
measured_origins p (Does.Touches t last) (Some (Datum.Homed homed)) y rest has h = absurd has
measured_origins p (Does.Touches t last) None y rest has h = absurd has
measured_origins p Does.AsksHomed given y rest has h = sym (append-nil (origins_of y.features))
measured_origins p Does.Nothing given y rest has h = sym (append-nil (origins_of y.features))
measured_origins p Does.Homes given y rest has h = sym (append-nil (origins_of y.features))
measured_origins p (Does.Moves q f) given y rest has h = sym (append-nil (origins_of y.features))
measured_origins p (Does.Changes n) given y rest has h = sym (append-nil (origins_of y.features))
measured_origins p (Does.Frames f) given y rest has h = sym (append-nil (origins_of y.features))

counted_number : (ws : List Wanted) (kind : Kind) (given : Option Datum) (todo : List Planned) (y : Tally)
    → (counted_next ws kind given todo y).connection ≡ y.connection
counted_number ws kind given [] y = refl
counted_number ws kind given (q ∷ todo) y = measured_number ws q.does given (record y {
  session = y.session || begins_session kind;
  todo = passed_over (tells_homed kind given) todo;
  unsent = passed_over (tells_homed kind given) y.unsent;
  counted = y.counted ++ act_of q.does given;
  completed = suc y.completed;
})

tallied_number : (ws : List Wanted) (e : Effect) (y : Tally) → (tallied ws e y).connection ≡ y.connection
tallied_number ws Effect.Quiet y = refl
tallied_number ws Effect.Failure y = refl
tallied_number ws (Effect.Count kind given) y = counted_number ws kind given y.todo y

joins_on : (b : Bool) (now before features ended longer : ℕ) → now ≡ before + cond b 1 0 → longer ≡ ended + cond b 1 0
    → before ≡ features + ended → now ≡ features + longer
joins_on true now before features ended longer e f g = omega (arith, e, f, g)
joins_on false now before features ended longer e f g = omega (arith, e, f, g)

-- the plan as it is followed, after one command more
record IsFollowed (p : Meaning) (plans : Plans) (finished rest : List Planned) (q : Planned) (told now : Bool) : Type 0 where
  pub parts : (finished ++ q ∷ []) ++ passed_over told rest ≡ followed now (plan p plans.features (start_behind plans.earlier))
  pub unhomed : told ≡ true → has_homing (passed_over told rest) ≡ false

-- where a command asks, none asked before it
not_before : (finished : List Planned) (q : Planned) (rest : List Planned) → asks_homed (kind_of q.command) ≡ true
    → asked finished + asked (q ∷ rest) ≡ 1 → asked finished ≡ 0
not_before finished q rest asks e =
    let more : asked (q ∷ rest) ≡ once true + asked rest = ap (λ (b : Bool). once b + asked rest) asks in omega (arith, more, e)

follows_on : (p : Meaning) → IsProgram p → (plans : Plans) (finished rest : List Planned) (q : Planned) (since more : List Act)
    (told : Bool)
    → finished ++ q ∷ rest ≡ followed (told_homed since) (plan p plans.features (start_behind plans.earlier))
    → AreActs since (acts_planned finished) → AreAsked (finished ++ q ∷ rest)
    → told_homed more ≡ told → (told ≡ true → asks_homed (kind_of q.command) ≡ true)
    → IsFollowed p plans finished rest q told (told_homed (since ++ more))
follows_on p program plans finished rest q since more false parts acts are tells asks = record {
  parts = append_assoc finished (q ∷ []) rest ∙ (parts ∙ ap (λ (b : Bool). followed b (plan p plans.features (start_behind plans.earlier)))
      (sym (told_more since more ∙ (ap (λ (b : Bool). told_homed since || b) tells ∙ or_false (told_homed since)))));
  unhomed = λ e. absurd (false≢true e);
}
  where
    or_false : (b : Bool) → (b || false) ≡ b
    or_false true = refl
    or_false false = refl
follows_on p program plans finished rest q since more true parts acts are tells asks =
    let steps : List Planned = plan p plans.features (start_behind plans.earlier) in
    let times : asked (finished ++ q ∷ rest) ≡ 1 = ap asked parts ∙ (followed_asked (told_homed since) steps
    ∙ plan_asks_once p plans.features (start_behind plans.earlier)) in
    let none : asked finished ≡ 0 = not_before finished q rest (asks refl) (sym (asked_more finished (q ∷ rest)) ∙ times) in
    let not_yet : told_homed since ≡ false = untold since finished acts (front_asked finished (q ∷ rest) are) none in
    let whole : finished ++ q ∷ rest ≡ steps = parts ∙ ap (λ (b : Bool). followed b steps) not_yet in
    let told_now : told_homed (since ++ more) ≡ true = told_more since more
    ∙ (ap (λ (b : Bool). b || told_homed more) not_yet ∙ tells) in
    let passed : (finished ++ q ∷ []) ++ passed_over true rest ≡ followed true steps =
    append_assoc finished (q ∷ []) (passed_over true rest) ∙ (sym (followed_at finished q rest
    (subst HomesBehind (sym whole) (plan_homes p plans.features (start_behind plans.earlier))) none (asks refl))
    ∙ ap (followed true) whole) in
    record {
      parts = passed ∙ ap (λ (b : Bool). followed b steps) (sym told_now);
      unhomed = λ e. unhomed_behind (finished ++ q ∷ []) (passed_over true rest)
          (ap has_homing passed ∙ followed_unhomed steps);
    }
  where
    front_asked : (xs ys : List Planned) → AreAsked (xs ++ ys) → AreAsked xs
    front_asked [] ys h = tt
    front_asked (x ∷ xs) ys h = (h.0, front_asked xs ys h.1)

counts_on : (p : Meaning) → IsProgram p → (y : Tally) (hs gs : List OpenCommand) (kind : Kind) (given : Option Datum) (todo : List Planned)
    (plans : Plans) → (f : IsOnPlan p hs y plans) → y.todo ≡ todo → IsCalm hs y → live_kinds hs ≡ kind ∷ live_kinds gs
    → IsGiven kind given → AreFilled gs → IsOnPlan p gs (counted_next p.features kind given todo y) plans
counts_on p program y hs gs kind given [] plans f is calm live given_one filled =
    absurd (no (ap (λ (l : List Kind). l ++ kinds_of y.unsent) (sym live) ∙ (calm.kinds ∙ ap kinds_of is)))
  where
    no : kind ∷ (live_kinds gs ++ kinds_of y.unsent) ≡ [] → ⊥
    no e = cc
counts_on p program y hs gs kind given (q ∷ rest) plans f is calm live given_one filled =
    let steps : List Planned = plan p plans.features (start_behind plans.earlier) in
    let kinds : kind ∷ (live_kinds gs ++ kinds_of y.unsent) ≡ kinds_of (q ∷ rest) =
    ap (λ (l : List Kind). l ++ kinds_of y.unsent) (sym live) ∙ (calm.kinds ∙ ap kinds_of is) in
    let same : kind_of q.command ≡ kind = sym (ap (λ (l : List Kind). first_kind l kind) kinds) in
    let others : live_kinds gs ++ kinds_of y.unsent ≡ kinds_of rest = ap other_kinds kinds in
    let last : IsAskedLast (kind ∷ live_kinds gs) = subst IsAskedLast live calm.asked_last in
    let parts : f.finished ++ q ∷ rest ≡ followed (told_homed f.since) steps =
    ap (λ (l : List Planned). f.finished ++ l) (sym is) ∙ f.parts in
    let are : AreAsked (f.finished ++ q ∷ rest) = subst AreAsked (sym parts)
    (followed_are_asked (told_homed f.since) steps (plan_asked p plans.features (start_behind plans.earlier) program)) in
    let one : IsAsked q = asked_at f.finished q rest are in
    let has : HasDatum q.does given = has_datum q.does (kind_of q.command) given one
    (subst (λ (k : Kind). IsGiven k given) (sym same) given_one) in
    let told : Bool = tells_homed kind given in
    let tells : told_homed (act_of q.does given) ≡ told = told_by q.does (kind_of q.command) given one has
    ∙ ap (λ (k : Kind). tells_homed k given) same in
    let mid : Tally = record y {
      session = y.session || begins_session kind;
      todo = passed_over told rest;
      unsent = passed_over told y.unsent;
      counted = y.counted ++ act_of q.does given;
      completed = suc y.completed;
    } in
    let z : Tally = measured p.features q.does given mid in
    let keeps : Keeps mid z = measured_keeps p.features q.does given mid in
    let on : IsFollowed p plans f.finished rest q told (told_homed (f.since ++ act_of q.does given)) =
    follows_on p program plans f.finished rest q f.since (act_of q.does given) told parts f.acts are tells
    (λ e. ap asks_homed same ∙ told_asks kind given e) in
    let left : told ≡ true → kinds_of y.unsent ≡ kinds_of rest =
    λ e. ap (λ (l : List Kind). l ++ kinds_of y.unsent) (sym (last.0 (told_asks kind given e))) ∙ others in
    let fits : Fits p.features y.features (length y.points) (end_of q.does ++ ends_of rest) =
    subst (λ (l : List Planned). Fits p.features y.features (length y.points) (ends_of l)) is f.fits in
    let ends : ends_of z.todo ≡ ends_of rest = ap ends_of keeps.todo ∙ passed_ends told rest (behind_asked f.finished q rest are) in
    record {
      finished = f.finished ++ q ∷ [];
      first = f.first;
      since = f.since ++ act_of q.does given;
      counted_are = keeps.counted ∙ (ap (λ (l : List Act). l ++ act_of q.does given) f.counted_are
          ∙ append_assoc f.first f.since (act_of q.does given));
      before = f.before;
      parts = ap (λ (l : List Planned). (f.finished ++ q ∷ []) ++ l) keeps.todo ∙ on.parts;
      many = let so_far = f.many in length-append f.finished (q ∷ []) ∙ (omega (arith, so_far)
          ∙ sym (measured_completed p.features q.does given mid));
      earlier_acts = f.earlier_acts;
      acts = subst (λ (l : List Does). AreActs (f.since ++ act_of q.does given) l)
          (ap (λ (l : List Does). acts_planned f.finished ++ l) (sym (append-nil (act_in q.does)))
          ∙ sym (planned_more f.finished (q ∷ [])))
          (acts_join f.since (act_of q.does given) (acts_planned f.finished) (act_in q.does) f.acts (act_stands q.does given has));
      fits = subst (λ (l : List Bool). Fits p.features z.features (length z.points) l) (sym ends)
          (measured_fits p program q.does given mid rest has fits);
      joined = joins_on (is_last q.does) _ (length y.features) plans.features (features_ended f.finished)
          (features_ended (f.finished ++ q ∷ []))
          (measured_joins p q.does given mid rest has fits) (ended_more f.finished q) f.joined;
      origins = ap (λ (l : List (Option Origin)). drop plans.features l) (measured_origins p q.does given mid rest has fits)
          ∙ (drop_within plans.features (origins_of y.features) (origin_ended y.connection q.does)
          (let long = origins_long y.features in let so_many = f.joined in omega (arith, long, so_many))
          ∙ (ap (λ (l : List (Option Origin)). l ++ origin_ended y.connection q.does) f.origins
          ∙ (sym (origins_more y.connection f.finished q)
          ∙ ap (λ (n : ℕ). origins_ended n (f.finished ++ q ∷ [])) (sym (measured_number p.features q.does given mid)))));
      filled = filled;
      unhomed = λ e. ap has_homing keeps.unsent ∙ stay_unhomed told y.unsent rest f.since (act_of q.does given) tells left on.unhomed
          f.unhomed e;
      calm = λ e. record {
        kinds = ap (λ (l : List Planned). live_kinds gs ++ kinds_of l) keeps.unsent
            ∙ (still_kinds told (live_kinds gs) y.unsent rest others left (λ t. last.0 (told_asks kind given t))
            ∙ ap kinds_of (sym keeps.todo));
        asked_last = last.1;
      };
    }
  where
    behind_asked : (xs : List Planned) (x : Planned) (ys : List Planned) → AreAsked (xs ++ x ∷ ys) → AreAsked ys
    behind_asked [] x ys h = h.1
    behind_asked (w ∷ xs) x ys h = behind_asked xs x ys h.1

    stay_unhomed : (told : Bool) (unsent rest : List Planned) (since more : List Act) → told_homed more ≡ told
        → (told ≡ true → kinds_of unsent ≡ kinds_of rest) → (told ≡ true → has_homing (passed_over told rest) ≡ false)
        → (told_homed since ≡ true → has_homing unsent ≡ false) → told_homed (since ++ more) ≡ true
        → has_homing (passed_over told unsent) ≡ false
    stay_unhomed true unsent rest since more tells left on before e =
        homing_kinds (passed_over true unsent) (passed_over true rest) (passed_kinds true unsent rest (left refl)) ∙ on refl
    stay_unhomed false unsent rest since more tells left on before e = before (no_more (told_homed since)
        (ap (λ (b : Bool). told_homed since || b) (sym tells) ∙ (sym (told_more since more) ∙ e)))
      where
        no_more : (b : Bool) → (b || false) ≡ true → b ≡ true
        no_more true is = refl
        no_more false is = is

    still_kinds : (told : Bool) (ks : List Kind) (unsent rest : List Planned) → ks ++ kinds_of unsent ≡ kinds_of rest
        → (told ≡ true → kinds_of unsent ≡ kinds_of rest) → (told ≡ true → ks ≡ [])
        → ks ++ kinds_of (passed_over told unsent) ≡ kinds_of (passed_over told rest)
    still_kinds false ks unsent rest others left none = others
    still_kinds true ks unsent rest others left none =
        ap (λ (l : List Kind). l ++ kinds_of (passed_over true unsent)) (none refl) ∙ passed_kinds true unsent rest (left refl)

-- ---- a reply

not_true : (b : Bool) → not b ≡ true → b ≡ false
not_true true e = absurd (false≢true e)
not_true false e = refl

effect_on : (p : Meaning) → IsProgram p → (hs gs : List OpenCommand) (y : Tally) (plans : Plans) (e : Effect)
    → IsOnPlan p hs y plans → Fronted (not y.failed) (live_kinds hs) (live_kinds gs) e → AreFilled gs
    → IsOnPlan p gs (tallied p.features e y) plans
effect_on p program hs gs y plans Effect.Quiet f h filled =
    record {
      finished = f.finished;
      first = f.first;
      since = f.since;
      counted_are = f.counted_are;
      before = f.before;
      parts = f.parts;
      many = f.many;
      earlier_acts = f.earlier_acts;
      acts = f.acts;
      fits = f.fits;
      joined = f.joined;
      origins = f.origins;
      filled = filled;
      unhomed = f.unhomed;
      calm = λ still. let c : IsCalm hs y = f.calm still in record {
        kinds = ap (λ (l : List Kind). l ++ kinds_of y.unsent) h ∙ c.kinds;
        asked_last = subst IsAskedLast (sym h) c.asked_last;
      };
    }
effect_on p program hs gs y plans Effect.Failure f h filled =
    record {
      finished = f.finished;
      first = f.first;
      since = f.since;
      counted_are = f.counted_are;
      before = f.before;
      parts = f.parts;
      many = f.many;
      earlier_acts = f.earlier_acts;
      acts = f.acts;
      fits = f.fits;
      joined = f.joined;
      origins = f.origins;
      filled = filled;
      unhomed = f.unhomed;
      calm = λ still. absurd (false≢true (sym still));
    }
effect_on p program hs gs y plans (Effect.Count kind given) f h filled =
    counts_on p program y hs gs kind given y.todo plans f refl (f.calm (not_true y.failed h.0)) h.1 h.2 filled

abbrev OnPlan : Meaning → Table → Plans → Type 0
OnPlan p b plans = IsOnPlan p b.standard b.tally plans

record Heard (p : Meaning) (b c : Table) (plans : Plans) : Type 0 where
  plan_is : OnPlan p c plans
  fewer : count_open c.standard ≤ count_open b.standard
  number : c.tally.connection ≡ b.tally.connection

heard_on_plan : (p : Meaning) → IsProgram p → (b c : Table) (t : Tag) (m : Mark) (plans : Plans) → heard p.features b t m ≡ fine c
    → OnPlan p b plans → Heard p b c plans
heard_on_plan p program b c t m plans is f =
    step_cases p.features b t m c (Heard p b c plans) is
    (λ zero_tag same. subst (λ (x : Table). Heard p b x plans) same
    (record { plan_is = f; fewer = le_refl (count_open b.standard); number = refl }))
    (λ n hs e sort here after. subst (λ (x : Table). Heard p b x plans) (sym after)
    (record {
      plan_is = effect_on p program b.standard hs b.tally plans e f
          (fronted (not b.tally.failed) b.standard (Tag.Std n) m hs e here f.filled)
          (stay_filled (not b.tally.failed) b.standard (Tag.Std n) m hs e here f.filled);
      fewer = count_keeps (not b.tally.failed) b.standard (Tag.Std n) m hs e here;
      number = tallied_number p.features e b.tally;
    }))
    (λ n hs e sort other here after. subst (λ (x : Table). Heard p b x plans) (sym after)
    (record { plan_is = f; fewer = le_refl (count_open b.standard); number = refl }))

-- ---- states

-- where it has halted nothing is open
abbrev Rests : State → List OpenCommand → Type 0
Rests State.Halted hs = count_open hs ≡ 0
Rests State.Apart hs = Unit {0}
Rests State.Running hs = Unit {0}
Rests State.Failing hs = Unit {0}
Rests State.Aborting hs = Unit {0}
Rests State.Done hs = Unit {0}
Rests State.Faulted hs = Unit {0}

failing_rests : (b : Table) → Rests (last_state State.Failing (is_whole b) (count_open b.standard)) b.standard
failing_rests b = go (is_whole b) (eqb (count_open b.standard) 0) refl
  where
    go : (whole none : Bool) → eqb (count_open b.standard) 0 ≡ none
        → Rests (cond whole State.Done (cond none State.Halted State.Failing)) b.standard
    go true none e = tt
    go false true e = eqb-true (count_open b.standard) 0 e
    go false false e = tt

running_rests : (b : Table) → Rests (last_state State.Running (is_whole b) (count_open b.standard)) b.standard
running_rests b = go (is_whole b)
  where
    go : (whole : Bool) → Rests (cond whole State.Done State.Running) b.standard
    go true = tt
    go false = tt

behind_rests : (state : State) (ends : Bool) (b : Table) (hs : List OpenCommand) → Rests state hs → count_open b.standard ≤ count_open hs
    → Rests (state_behind state ends b) b.standard
behind_rests State.Apart ends b hs h le = tt
behind_rests State.Running ends b hs h le = go b.tally.failed
  where
    go : (failed : Bool) → Rests (last_state (first_state State.Running ends failed) (is_whole b) (count_open b.standard)) b.standard
    go true = failing_rests b
    go false = running_rests b
behind_rests State.Failing ends b hs h le = failing_rests b
behind_rests State.Aborting true b hs h le = failing_rests b
behind_rests State.Aborting false b hs h le = tt
behind_rests State.Halted ends b hs h le = let none : count_open hs ≡ 0 = h in omega (arith, none, le)
behind_rests State.Done ends b hs h le = tt
behind_rests State.Faulted ends b hs h le = tt

-- on no connection it is apart or done
abbrev IsOff : State → Type 0
IsOff State.Apart = Unit {0}
IsOff State.Done = Unit {0}
IsOff State.Running = ⊥
IsOff State.Failing = ⊥
IsOff State.Aborting = ⊥
IsOff State.Halted = ⊥
IsOff State.Faulted = ⊥

-- ---- what holds at any time

abbrev Reads : Client → Plans → Type 0
Reads c plans = OnPlan c.program c.table plans

pub record Holds (p : Meaning) (c : Client) (plans : Plans) : Type 0 where
  pub program : IsProgram c.program
  pub same : c.program ≡ p
  pub ours : are_ours c.program.features c.table.tally.features ≡ true
  pub counted : AreCounted c.program plans c.table.tally
  pub live : c.on ≡ true → Reads c plans
  pub off : c.on ≡ false → IsOff c.state
  pub rests : Rests c.state c.table.standard
  pub unhomed : is_told plans c.table.tally ≡ true → has_homing c.table.tally.unsent ≡ false
  pub numbered : c.table.tally.connection ≡ c.last

drop_first : (xs ys : List Act) (n : ℕ) → length xs ≡ n → drop n (xs ++ ys) ≡ ys
drop_first xs ys n e = subst (λ (k : ℕ). drop k (xs ++ ys) ≡ ys) e (drop-append_seam xs ys)

told_is : (p : Meaning) (y : Tally) (hs : List OpenCommand) (plans : Plans) → (f : IsOnPlan p hs y plans)
    → is_told plans y ≡ told_homed f.since
told_is p y hs plans f = ap told_homed (ap (λ (l : List Act). drop plans.before l) f.counted_are
    ∙ drop_first f.first f.since plans.before f.before)

front_is : (p : Meaning) (y : Tally) (hs : List OpenCommand) (plans : Plans) → (f : IsOnPlan p hs y plans)
    → front_of p plans y ≡ f.finished
front_is p y hs plans f =
    ap (λ (b : Bool). take y.completed (followed b (plan p plans.features (start_behind plans.earlier)))) (told_is p y hs plans f)
    ∙ subst (λ (n : ℕ). take n (followed (told_homed f.since) (plan p plans.features (start_behind plans.earlier))) ≡ f.finished) f.many
    (ap (λ (l : List Planned). take (length f.finished) l) (sym f.parts) ∙ take-append_seam f.finished y.todo)

counted_front : (p : Meaning) (y : Tally) (hs : List OpenCommand) (plans : Plans) → IsOnPlan p hs y plans
    → AreActs y.counted (acts_of_fronts p (begun_now plans y ∷ plans.earlier))
counted_front p y hs plans f =
    subst (λ (l : List Planned). AreActs y.counted (acts_of_fronts p plans.earlier ++ acts_planned l))
    (sym (front_is p y hs plans f))
    (subst (λ (l : List Act). AreActs l (acts_of_fronts p plans.earlier ++ acts_planned f.finished)) (sym f.counted_are)
    (acts_join f.first f.since (acts_of_fronts p plans.earlier) (acts_planned f.finished) f.earlier_acts f.acts))

-- what holds on a connection holds
read_holds : (p : Meaning) (plans : Plans) (c : Client) → IsProgram c.program → c.program ≡ p → c.on ≡ true → (r : Reads c plans)
    → Rests c.state c.table.standard → c.table.tally.connection ≡ c.last → Holds p c plans
read_holds p plans c program same on r rests numbered = record {
  program = program;
  same = same;
  ours = fits_ours c.program.features c.table.tally.features (length c.table.tally.points) (ends_of c.table.tally.todo) r.fits;
  counted = record {
    acts = counted_front c.program c.table.tally c.table.standard plans r;
    joined = subst (λ (l : List Planned). length c.table.tally.features ≡ plans.features + features_ended l)
        (sym (front_is c.program c.table.tally c.table.standard plans r)) r.joined;
    origins = subst (λ (l : List Planned). drop plans.features (origins_of c.table.tally.features)
        ≡ origins_ended c.table.tally.connection l)
        (sym (front_is c.program c.table.tally c.table.standard plans r)) r.origins;
  };
  live = λ e. r;
  off = λ e. absurd (false≢true (sym e ∙ on));
  rests = rests;
  unhomed = λ e. r.unhomed (sym (told_is c.program c.table.tally c.table.standard plans r) ∙ e);
  numbered = numbered;
}

faulted_holds : (p : Meaning) (plans : Plans) (c : Client) (cause : Cause) → c.on ≡ true → Holds p c plans → Holds p (faulted cause c) plans
faulted_holds p plans c cause on h = record {
  program = h.program;
  same = h.same;
  ours = h.ours;
  counted = h.counted;
  live = λ e. h.live e;
  off = λ e. absurd (false≢true (sym e ∙ on));
  rests = tt;
  unhomed = h.unhomed;
  numbered = h.numbered;
}

-- ---- what is read

hears_holds : (p : Meaning) (plans : Plans) (c : Client) (t : Tag) (m : Mark) → c.on ≡ true → Holds p c plans → (r : Result Table Cause)
    → heard c.program.features c.table t m ≡ r → Holds p (client_hears c t m r) plans
hears_holds p plans c t m on h (Ok b) is =
    let r : Reads c plans = h.live on in
    let now : Heard c.program c.table b plans = heard_on_plan c.program h.program c.table b t m plans is r in
    read_holds p plans (client_hears c t m (Ok b)) h.program h.same on now.plan_is
    (behind_rests c.state (ends_abort c.abort t m) b c.table.standard h.rests now.fewer) (now.number ∙ h.numbered)
hears_holds p plans c t m on h (Err cause) is = faulted_holds p plans c cause on h

reply_holds : (p : Meaning) (plans : Plans) (c : Client) (t : Tag) (m : Mark) → c.on ≡ true → Holds p c plans
    → Holds p (client_read c t m) plans
reply_holds p plans c t m on h = go (tag_is t (Tag.Event 0)) refl
  where
    go : (b : Bool) → tag_is t (Tag.Event 0) ≡ b → Holds p (cond b c (client_hears c t m (heard_on c.program.features c.table t m))) plans
    go true e = h
    go false e = hears_holds p plans c t m on h (heard_on c.program.features c.table t m)
        (if_false {A = Result Table Cause} (tag_is t (Tag.Event 0)) (fine c.table) (heard_on c.program.features c.table t m) e)

either_holds : (p : Meaning) (plans : Plans) (b : Bool) (c d : Client) → Holds p c plans → Holds p d plans → Holds p (cond b c d) plans
either_holds p plans true c d h g = h
either_holds p plans false c d h g = g

point_holds : (p : Meaning) (plans : Plans) (c : Client) (t : Tag) (r : Result Point NotPoint) → c.on ≡ true → Holds p c plans
    → Holds p (given_point c t r) plans
point_holds p plans c t (Ok q) on h = reply_holds p plans c t (Mark.Given (Datum.Point q)) on h
point_holds p plans c t (Err why) on h = faulted_holds p plans c Cause.NotResponse on h

homed_holds : (p : Meaning) (plans : Plans) (c : Client) (t : Tag) (r : Result Bool NotHomedText) → c.on ≡ true → Holds p c plans
    → Holds p (given_homed c t r) plans
homed_holds p plans c t (Ok homed) on h = reply_holds p plans c t (Mark.Given (Datum.Homed homed)) on h
homed_holds p plans c t (Err why) on h = faulted_holds p plans c Cause.NotResponse on h

given_holds : (p : Meaning) (plans : Plans) (c : Client) (t : Tag) (text : List ℕ) (k : Kind) → c.on ≡ true
    → Holds p c plans → Holds p (given_for c t text k) plans
given_holds p plans c t text Kind.PtMeas on h = point_holds p plans c t (point_of text) on h
given_holds p plans c t text Kind.IsHomed on h = homed_holds p plans c t (homed_of text) on h
given_holds p plans c t text Kind.StartSession on h = faulted_holds p plans c Cause.OutOfOrder on h
given_holds p plans c t text Kind.EndSession on h = faulted_holds p plans c Cause.OutOfOrder on h
given_holds p plans c t text Kind.ClearAllErrors on h = faulted_holds p plans c Cause.OutOfOrder on h
given_holds p plans c t text Kind.Home on h = faulted_holds p plans c Cause.OutOfOrder on h
given_holds p plans c t text Kind.OnPtMeasReport on h = faulted_holds p plans c Cause.OutOfOrder on h
given_holds p plans c t text Kind.GoTo on h = faulted_holds p plans c Cause.OutOfOrder on h
given_holds p plans c t text Kind.ChangeTool on h = faulted_holds p plans c Cause.OutOfOrder on h
given_holds p plans c t text Kind.SetCsyTransformation on h = faulted_holds p plans c Cause.OutOfOrder on h
given_holds p plans c t text Kind.SetCoordSystem on h = faulted_holds p plans c Cause.OutOfOrder on h
given_holds p plans c t text Kind.AbortE on h = faulted_holds p plans c Cause.OutOfOrder on h

under_holds : (p : Meaning) (plans : Plans) (c : Client) (t : Tag) (text : List ℕ) (kind : Option Kind) → c.on ≡ true
    → Holds p c plans → Holds p (given_under c t text kind) plans
under_holds p plans c t text None on h = faulted_holds p plans c Cause.UnknownTag on h
under_holds p plans c t text (Some k) on h = given_holds p plans c t text k on h

response_holds : (p : Meaning) (plans : Plans) (c : Client) (t : Tag) (m : Marked) → c.on ≡ true → Holds p c plans
    → Holds p (response_read c t m) plans
response_holds p plans c t Marked.Ack on h = reply_holds p plans c t Mark.Ack on h
response_holds p plans c t (Marked.Given text) on h =
    either_holds p plans (tag_is t (Tag.Event 0)) c (given_under c t text (held_under t c)) h
    (under_holds p plans c t text (held_under t c) on h)
response_holds p plans c t Marked.Done on h = reply_holds p plans c t Mark.Done on h
response_holds p plans c t (Marked.Error text) on h = reply_holds p plans c t Mark.Error on h

line_holds : (p : Meaning) (plans : Plans) (c : Client) (r : Result Response NotResponse) → c.on ≡ true
    → Holds p c plans → Holds p (line_read c r) plans
line_holds p plans c (Ok r) on h = response_holds p plans c r.tag r.mark on h
line_holds p plans c (Err refused) on h = faulted_holds p plans c Cause.NotResponse on h

front_holds : (p : Meaning) (plans : Plans) (c : Client) (f : Front) → c.on ≡ true → Holds p c plans
    → Holds p (front_read c f) plans
front_holds p plans c (Ok None) on h = h
front_holds p plans c (Ok (Some (line, rest))) on h = line_holds p plans c (response_of line) on h
front_holds p plans c (Err FramingFault.LineTooLong) on h = faulted_holds p plans c Cause.LineTooLong on h
front_holds p plans c (Err FramingFault.BadByte) on h = faulted_holds p plans c Cause.BadByte on h

-- ---- what is written

pub on_unless_off : (c : Client) → (c.on ≡ false → ⊥) → c.on ≡ true
on_unless_off c never = go c.on refl
  where
    go : (b : Bool) → c.on ≡ b → c.on ≡ true
    go true e = e
    go false e = absurd (never e)

pub running_by : (s : State) → is_running s ≡ true → s ≡ State.Running
running_by State.Running e = refl
running_by State.Apart e = absurd (false≢true e)
running_by State.Failing e = absurd (false≢true e)
running_by State.Aborting e = absurd (false≢true e)
running_by State.Halted e = absurd (false≢true e)
running_by State.Done e = absurd (false≢true e)
running_by State.Faulted e = absurd (false≢true e)

-- a command is due while it is running, and no question is open
pub record IsDue (c : Client) : Type 0 where
  pub running : c.state ≡ State.Running
  pub unasked : is_asking c.table.standard ≡ false

pub due_running : (c : Client) → is_some (due c) ≡ true → IsDue c
due_running c e = go (is_running c.state && not (is_asking c.table.standard)) refl e
  where
    go : (b : Bool) → (is_running c.state && not (is_asking c.table.standard)) ≡ b
        → is_some (cond b (first_due c.window (count_open c.table.standard) c.table.tally.unsent) None) ≡ true → IsDue c
    go true r is = let two = both (is_running c.state) _ r in
        record { running = running_by c.state two.0; unasked = not_true (is_asking c.table.standard) two.1 }
    go false r is = absurd (false≢true is)

sends_holds : (p : Meaning) (plans : Plans) (c : Client) (l : List Planned) (number : Option ℕ) → c.table.tally.unsent ≡ l → IsDue c
    → Holds p c plans → Holds p (sends_next c l number).client plans
sends_holds p plans c [] number e now h = h
sends_holds p plans c (q ∷ qs) None e now h = faulted_holds p plans c Cause.TagsSpent
    (on_unless_off c (λ off. subst IsOff now.running (h.off off))) h
sends_holds p plans c (q ∷ qs) (Some n) e now h =
    let on : c.on ≡ true = on_unless_off c (λ off. subst IsOff now.running (h.off off)) in
    let r : Reads c plans = h.live on in
    let x : OpenCommand = held_now (Tag.Std n) (kind_of q.command) in
    let one_more : live_kinds (c.table.standard ++ x ∷ []) ≡ live_kinds c.table.standard ++ kind_of q.command ∷ [] =
    live_more c.table.standard x refl in
    read_holds p plans (sends_next c (q ∷ qs) (Some n)).client h.program h.same on (record {
      finished = r.finished;
      first = r.first;
      since = r.since;
      counted_are = r.counted_are;
      before = r.before;
      parts = r.parts;
      many = r.many;
      earlier_acts = r.earlier_acts;
      acts = r.acts;
      fits = r.fits;
      joined = r.joined;
      origins = r.origins;
      filled = filled_more c.table.standard x r.filled tt;
      unhomed = λ told. unhomed_behind (q ∷ []) qs (ap has_homing (sym e) ∙ r.unhomed told);
      calm = λ still. let k : IsCalm c.table.standard c.table.tally = r.calm still in record {
        kinds = ap (λ (l : List Kind). l ++ kinds_of qs) one_more
            ∙ (append_assoc (live_kinds c.table.standard) (kind_of q.command ∷ []) (kinds_of qs)
            ∙ (ap (λ (l : List Planned). live_kinds c.table.standard ++ kinds_of l) (sym e) ∙ k.kinds));
        asked_last = subst IsAskedLast (sym one_more) (asked_last (live_kinds c.table.standard) (kind_of q.command)
            (none_asks c.table.standard now.unasked));
      };
    }) (subst (λ (s : State). Rests s (c.table.standard ++ x ∷ [])) (sym now.running) tt) h.numbered

may_abort_on : (s : State) → may_abort s ≡ true → IsOff s → ⊥
may_abort_on State.Apart e off = false≢true e
may_abort_on State.Running e off = off
may_abort_on State.Failing e off = off
may_abort_on State.Aborting e off = off
may_abort_on State.Halted e off = off
may_abort_on State.Done e off = false≢true e
may_abort_on State.Faulted e off = off

aborts_holds : (p : Meaning) (plans : Plans) (c : Client) (number : Option ℕ) → c.on ≡ true → Holds p c plans
    → Holds p (sends_abort c number).client plans
aborts_holds p plans c None on h = faulted_holds p plans c Cause.TagsSpent on h
aborts_holds p plans c (Some n) on h =
    let r : Reads c plans = h.live on in
    read_holds p plans (sends_abort c (Some n)).client h.program h.same on
    (record {
      finished = r.finished;
      first = r.first;
      since = r.since;
      counted_are = r.counted_are;
      before = r.before;
      parts = r.parts;
      many = r.many;
      earlier_acts = r.earlier_acts;
      acts = r.acts;
      fits = r.fits;
      joined = r.joined;
      origins = r.origins;
      filled = r.filled;
      unhomed = r.unhomed;
      calm = λ still. let k : IsCalm c.table.standard c.table.tally = r.calm still
          in record { kinds = k.kinds; asked_last = k.asked_last };
    })
    tt h.numbered

-- ---- plans are begun

begins_fit : (p : Meaning) (fs : List Feature) (start : Start) → IsProgram p → are_ours p.features fs ≡ true
    → Fits p.features fs 0 (ends_of (plan p (length fs) start))
begins_fit p fs start program ours =
    subst (λ (l : List Bool). Fits p.features fs 0 l) (sym (plan_ends_left p (length fs) start program))
    (plan_fits_features p.features fs (IsProgram.features program) ours)

connected_holds : (p : Meaning) (plans : Plans) (n : ℕ) (c : Client) → Holds p c plans
    → Holds p (client_connected n c) (first_plan c.table.tally.features)
connected_holds p plans n c h =
    read_holds p (first_plan c.table.tally.features) (client_connected n c) h.program h.same refl (record {
      finished = [];
      first = [];
      since = [];
      counted_are = refl;
      before = refl;
      parts = refl;
      many = refl;
      earlier_acts = tt;
      acts = tt;
      fits = begins_fit c.program c.table.tally.features Start.NewConnection h.program h.ours;
      joined = omega (arith);
      origins = none_behind c.table.tally.features;
      filled = tt;
      unhomed = λ e. absurd (false≢true e);
      calm = λ still. record { kinds = refl; asked_last = tt };
    }) tt refl

pub resumed_state : (c : Client) (s : State) → may_resume c s ≡ true → s ≡ State.Halted
resumed_state c State.Halted e = refl
resumed_state c State.Apart e = absurd (false≢true e)
resumed_state c State.Running e = absurd (false≢true e)
resumed_state c State.Failing e = absurd (false≢true e)
resumed_state c State.Aborting e = absurd (false≢true e)
resumed_state c State.Done e = absurd (false≢true e)
resumed_state c State.Faulted e = absurd (false≢true e)

abbrev resumed_plans : Client → Plans → Plans
resumed_plans c plans = record {
  features = length c.table.tally.features;
  before = length c.table.tally.counted;
  earlier = begun_now plans c.table.tally ∷ plans.earlier;
}

resumed_holds : (p : Meaning) (plans : Plans) (c : Client) → c.state ≡ State.Halted → Holds p c plans
    → Holds p (client_resumed c) (resumed_plans c plans)
resumed_holds p plans c halted h =
    let on : c.on ≡ true = on_unless_off c (λ off. subst IsOff halted (h.off off)) in
    let r : Reads c plans = h.live on in
    let none : live_kinds c.table.standard ≡ [] = none_live c.table.standard
    (subst (λ (s : State). Rests s c.table.standard) halted h.rests) in
    let steps : List Planned = plan c.program (length c.table.tally.features) Start.SameConnection in
    read_holds p (resumed_plans c plans) (client_resumed c) h.program h.same on (record {
      finished = [];
      first = c.table.tally.counted;
      since = [];
      counted_are = sym (append-nil c.table.tally.counted);
      before = refl;
      parts = refl;
      many = refl;
      earlier_acts = counted_front c.program c.table.tally c.table.standard plans r;
      acts = tt;
      fits = begins_fit c.program c.table.tally.features Start.SameConnection h.program h.ours;
      joined = omega (arith);
      origins = none_behind c.table.tally.features;
      filled = r.filled;
      unhomed = λ e. absurd (false≢true e);
      calm = λ still. record {
        kinds = ap (λ (l : List Kind). l ++ kinds_of steps) none;
        asked_last = subst IsAskedLast (sym none) tt;
      };
    }) tt h.numbered

-- ---- the connection is left

left_off : (s : State) → IsOff (left_state s)
left_off State.Done = tt
left_off State.Apart = tt
left_off State.Running = tt
left_off State.Failing = tt
left_off State.Aborting = tt
left_off State.Halted = tt
left_off State.Faulted = tt

left_rests : (s : State) (hs : List OpenCommand) → Rests (left_state s) hs
left_rests State.Done hs = tt
left_rests State.Apart hs = tt
left_rests State.Running hs = tt
left_rests State.Failing hs = tt
left_rests State.Aborting hs = tt
left_rests State.Halted hs = tt
left_rests State.Faulted hs = tt

left_holds : (p : Meaning) (plans : Plans) (c : Client) → Holds p c plans → Holds p (client_left c) plans
left_holds p plans c h = record {
  program = h.program;
  same = h.same;
  ours = h.ours;
  counted = record { acts = h.counted.acts; joined = h.counted.joined; origins = h.counted.origins };
  live = λ e. absurd (false≢true e);
  off = λ e. left_off c.state;
  rests = left_rests c.state c.table.standard;
  unhomed = h.unhomed;
  numbered = h.numbered;
}

new_holds : (p : Meaning) (fs : List Feature) (window : ℕ) → IsProgram p → are_ours p.features fs ≡ true
    → Holds p (new_client p fs window) (first_plan fs)
new_holds p fs window program ours = record {
  program = program;
  same = refl;
  ours = ours;
  counted = record { acts = tt; joined = omega (arith); origins = none_behind fs };
  live = λ e. absurd (false≢true e);
  off = λ e. tt;
  rests = tt;
  unhomed = λ e. absurd (false≢true e);
  numbered = refl;
}

restarted_holds : (p : Meaning) (plans : Plans) (k : ℕ) (c : Client) → Holds p c plans
    → Holds p (client_restarted k c) (first_plan (take k c.table.tally.features))
restarted_holds p plans k c h = record {
  program = h.program;
  same = h.same;
  ours = fewer_are_ours c.program.features c.table.tally.features k h.ours;
  counted = record { acts = tt; joined = omega (arith); origins = none_behind (take k c.table.tally.features) };
  live = λ e. absurd (false≢true e);
  off = λ e. tt;
  rests = tt;
  unhomed = λ e. absurd (false≢true e);
  numbered = refl;
}

-- ---- calls

read_on : (c : Client) → may_read c ≡ true → c.on ≡ true
read_on c e = (both c.on _ e).0

done_holds : (p : Meaning) (plans : Plans) (call : Call) (e : ClientEnd) → possible call e ≡ true
    → Holds p e.client plans → Holds p (done_by call e).client (plans_by call e plans)
done_holds p plans (Connected n) e may h = connected_holds p plans n e.client h
done_holds p plans Send e may h = sends_holds p plans e.client e.client.table.tally.unsent
    (next_number Tag.Std e.client.table.standard e.client.drawn) refl (due_running e.client may) h
done_holds p plans (Feed bytes) e may h = h
done_holds p plans ReadOne e may h = front_holds p plans e.client (next_of e.input.rest) (read_on e.client may) h
done_holds p plans Abort e may h =
    aborts_holds p plans e.client (next_number Tag.Event e.client.table.event e.client.event_drawn)
    (on_unless_off e.client (λ off. may_abort_on e.client.state may (h.off off))) h
done_holds p plans Resume e may h = resumed_holds p plans e.client (resumed_state e.client e.client.state may) h
done_holds p plans Leave e may h = left_holds p plans e.client h
done_holds p plans (Restart k) e may h = restarted_holds p plans k e.client h
done_holds p plans (Sent k) e may h = h

call_holds : (p : Meaning) (plans : Plans) (call : Call) (e : ClientEnd) → Holds p e.client plans
    → Holds p (behind_call call e).client (if possible call e then plans_by call e plans else plans)
call_holds p plans call e h = go (possible call e) refl
  where
    go : (b : Bool) → possible call e ≡ b → Holds p (cond b (done_by call e) e).client (cond b (plans_by call e plans) plans)
    go true may = done_holds p plans call e may h
    go false never = h

calls_hold : (p : Meaning) (plans : Plans) (calls : List Call) (e : ClientEnd) → Holds p e.client plans
    → Holds p (behind_calls calls e).client (plans_behind calls e plans)
calls_hold p plans [] e h = h
calls_hold p plans (call ∷ calls) e h =
    calls_hold p (if possible call e then plans_by call e plans else plans) calls (behind_call call e)
    (call_holds p plans call e h)

pub behind_holds : (p : Meaning) (kept : List Feature) (window : ℕ) (calls : List Call) → IsProgram p
    → are_ours p.features kept ≡ true
    → Holds p (client_behind calls p kept window) (plans_begun calls p kept window)
behind_holds p kept window calls program ours =
    calls_hold p (first_plan kept) calls (new_client_end p kept window) (new_holds p kept window program ours)

-- a client keeps its program
pub program_stays : (p : Meaning) (kept : List Feature) (window : ℕ) (calls : List Call) → IsProgram p
    → are_ours p.features kept ≡ true
    → (client_behind calls p kept window).program ≡ p
program_stays p kept window calls program ours =
    let h : Holds p (client_behind calls p kept window) (plans_begun calls p kept window) =
    behind_holds p kept window calls program ours in
    h.same

-- the features that a client holds are the first of its program
pub features_are_ours : (p : Meaning) (kept : List Feature) (window : ℕ) (calls : List Call) → IsProgram p
    → are_ours p.features kept ≡ true
    → are_ours p.features (client_behind calls p kept window).table.tally.features ≡ true
features_are_ours p kept window calls program ours =
    let h : Holds p (client_behind calls p kept window) (plans_begun calls p kept window) =
    behind_holds p kept window calls program ours in
    subst (λ (q : Meaning). are_ours q.features (client_behind calls p kept window).table.tally.features ≡ true) h.same h.ours

-- and what it has counted is that of its plans
pub counted_are_planned : (p : Meaning) (kept : List Feature) (window : ℕ) (calls : List Call) → IsProgram p
    → are_ours p.features kept ≡ true
    → AreCounted p (plans_begun calls p kept window) (client_behind calls p kept window).table.tally
counted_are_planned p kept window calls program ours =
    let h : Holds p (client_behind calls p kept window) (plans_begun calls p kept window) =
    behind_holds p kept window calls program ours in
    subst (λ (q : Meaning). AreCounted q (plans_begun calls p kept window) (client_behind calls p kept window).table.tally)
    h.same h.counted

-- on the connection of its own last number
pub counted_on_the_last : (p : Meaning) (kept : List Feature) (window : ℕ) (calls : List Call) → IsProgram p
    → are_ours p.features kept ≡ true
    → (client_behind calls p kept window).table.tally.connection ≡ (client_behind calls p kept window).last
counted_on_the_last p kept window calls program ours =
    let h : Holds p (client_behind calls p kept window) (plans_begun calls p kept window) =
    behind_holds p kept window calls program ours in
    h.numbered

-- in a plan for which the machine was reported to be homed, no homing is unsent
pub told_is_unhomed : (p : Meaning) (kept : List Feature) (window : ℕ) (calls : List Call) → IsProgram p
    → are_ours p.features kept ≡ true
    → is_told (plans_begun calls p kept window) (client_behind calls p kept window).table.tally ≡ true
    → has_homing (client_behind calls p kept window).table.tally.unsent ≡ false
told_is_unhomed p kept window calls program ours told =
    let h : Holds p (client_behind calls p kept window) (plans_begun calls p kept window) =
    behind_holds p kept window calls program ours in
    h.unhomed told

-- a counted command is the next of the plan, by its kind
first_is_next : (todo : List Planned) (k : Kind) (ks : List Kind) → k ∷ ks ≡ kinds_of todo → next_kind todo ≡ Some k
first_is_next [] k ks e = absurd (no e)
  where
    no : k ∷ ks ≡ [] → ⊥
    no is = cc
first_is_next (q ∷ todo) k ks e = ap (λ (x : Kind). Some x) (sym (ap (λ (l : List Kind). first_kind l k) e))

kind_is : (k kind : Kind) → Some k ≡ Some kind → k ≡ kind
kind_is k kind e = cc

pub counted_is_next : (p : Meaning) (kept : List Feature) (window : ℕ) (calls : List Call) → IsProgram p
    → are_ours p.features kept ≡ true
    → (client_behind calls p kept window).on ≡ true
    → (n : ℕ) (m : Mark) (kind : Kind) → counted_by (client_behind calls p kept window) n m ≡ Some kind
    → next_kind (client_behind calls p kept window).table.tally.todo ≡ Some kind
counted_is_next p kept window calls program ours on n m kind is =
    let c : Client = client_behind calls p kept window in
    let h : Holds p c (plans_begun calls p kept window) = behind_holds p kept window calls program ours in
    let r : Reads c (plans_begun calls p kept window) = h.live on in
    go c.table.standard c.table.tally (plans_begun calls p kept window) c.program r
    (heard_in (not c.table.tally.failed) c.table.standard (Tag.Std n) m) refl is
  where
    go : (hs : List OpenCommand) (y : Tally) (plans : Plans) (program : Meaning) → IsOnPlan program hs y plans
        → (heard : Heardings) → heard_in (not y.failed) hs (Tag.Std n) m ≡ heard → kind_counted heard ≡ Some kind
        → next_kind y.todo ≡ Some kind
    go hs y plans program r (Ok (gs, Effect.Quiet)) here e = absurd (cc)
    go hs y plans program r (Ok (gs, Effect.Failure)) here e = absurd (cc)
    go hs y plans program r (Ok (gs, Effect.Count k given)) here e =
        let f : Fronted (not y.failed) (live_kinds hs) (live_kinds gs) (Effect.Count k given) =
        fronted (not y.failed) hs (Tag.Std n) m gs (Effect.Count k given) here r.filled in
        let c : IsCalm hs y = r.calm (not_true y.failed f.0) in
        first_is_next y.todo k (live_kinds gs ++ kinds_of y.unsent) (ap (λ (l : List Kind). l ++ kinds_of y.unsent) (sym f.1)
        ∙ c.kinds)
        ∙ ap (λ (x : Kind). Some x) (kind_is k kind e)
    go hs y plans program r (Err cause) here e = absurd (cc)
