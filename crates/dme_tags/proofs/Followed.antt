-- The marks that are taken in under a tag between its draw and its `%`.
use Rattle.dme_tags.proofs.Names.{[], ◌&&◌, ◌++◌, ◌-◌, ◌∙◌, ◌∷◌, ◌≡◌, accepts_only, ahead_of, all_failed, Answer, answered, ap, asks_data, Becomes}
use Rattle.dme_tags.proofs.Names.{BeginPlan, behind_answer, behind_draw, Bool, Breaks, Call, Closes, Complete, cond, Counts, Data, Datum, Draw, drawn}
use Rattle.dme_tags.proofs.Names.{Effect, Err, Event, Failed, failed_behind, false, fits, Heard, heard, heard_cases, heard_event, heard_in}
use Rattle.dme_tags.proofs.Names.{heard_standard, held_now, is_event_kind, is_failed, is_held, is_next, judged, judged_ack, judged_done, judged_error}
use Rattle.dme_tags.proofs.Names.{judged_given, Kind, List, Mark, next_number, next_tag, None, not, Ok, OpenCommand, OpenValue, Option, placed}
use Rattle.dme_tags.proofs.Names.{Received, refl, Refused, Some, Stage, staged, standing, standing_in, Std, subst, sym, Tag, tag_is, tagged}
use Rattle.dme_tags.proofs.Names.{taken_under, true, true≢false, two, until_end, Verdict, with_drawn, ℕ}
use Rattle.protocol_model.specs.Language.{Accepts, AreAtFront, Goes, IsRepliesFront, marks_of, Placed}
use Rattle.protocol_model.proofs.table.Basics.{if_false, if_true, tag_is-refl, tag_is-true}
use Rattle.dme_tags.proofs.Dues.{Standing, and_assoc, and_true, kinds_same, stages_same}

-- ---- what becomes of a command

-- what is held under its tag after a verdict
abbrev Stays : Verdict → Kind → Standing → Type 0
Stays (Becomes stage) k st = st ≡ Some (k, stage)
Stays Breaks k st = st ≡ Some (k, Stage.Failed)
Stays Closes k st = Unit {0}
Stays (Counts given) k st = Unit {0}
Stays (Refused why) k st = ⊥

stays_by : (v w : Verdict) (k : Kind) (x y : Standing) → v ≡ w → x ≡ y → Stays w k y → Stays v k x
stays_by v w k x y e f h = subst (λ (z : Verdict). Stays z k x) (sym e) (subst (λ (z : Standing). Stays w k z) (sym f) h)

moved : (front : Bool) (hs gs : List OpenCommand) (t : Tag) (m : Mark) (e : Effect) (k : Kind) (s : Stage)
    → heard_in front hs t m ≡ two gs e
    → standing_in t hs ≡ Some (k, s)
    → Stays (judged (front && all_failed (ahead_of t hs)) k s m) k (standing_in t gs)
moved front [] gs t m e k s is st = absurd (cc)
moved front (h ∷ hs) gs t m e k s is st =
    heard_cases front h hs t m gs e (Stays (judged (front && all_failed (ahead_of t (h ∷ hs))) k s m) k (standing_in t gs)) is
    (λ stage same v g f. stays_by _ (Becomes stage) k _ (Some (k, stage)) (here same ∙ v) (ap (standing_in t) g ∙ (at same stage)) refl)
    (λ same v g f. stays_by _ Breaks k _ (Some (k, Stage.Failed)) (here same ∙ v) (ap (standing_in t) g ∙ (at same Stage.Failed)) refl)
    (λ same v g f. stays_by _ Closes k _ (standing_in t gs) (here same ∙ v) refl tt)
    (λ given same v g f. stays_by _ (Counts given) k _ (standing_in t gs) (here same ∙ v) refl tt)
    (λ rest other later g. stays_by _ _ k _ (standing_in t rest)
    (ap (λ (l : List OpenCommand). judged (front && all_failed l) k s m)
    (if_false {A = List OpenCommand} (tag_is h.tag t) [] (h ∷ ahead_of t hs) other)
    ∙ ap (λ (b : Bool). judged b k s m) (sym (and_assoc front (is_failed h.stage) (all_failed (ahead_of t hs)))))
    (ap (standing_in t) g ∙ if_false {A = Standing} (tag_is h.tag t) (Some (h.kind, h.stage)) (standing_in t rest) other)
    (moved (front && is_failed h.stage) hs rest t m e k s later
    (sym (if_false {A = Standing} (tag_is h.tag t) (Some (h.kind, h.stage)) (standing_in t hs) other) ∙ st)))
  where
    its : tag_is h.tag t ≡ true → ◌≡◌ {A = Standing} (Some (h.kind, h.stage)) (Some (k, s))
    its same = sym (if_true {A = Standing} (tag_is h.tag t) (Some (h.kind, h.stage)) (standing_in t hs) same) ∙ st

    here : tag_is h.tag t ≡ true → judged (front && all_failed (ahead_of t (h ∷ hs))) k s m ≡ judged front h.kind h.stage m
    here same =
        ap (λ (l : List OpenCommand). judged (front && all_failed l) k s m)
        (if_true {A = List OpenCommand} (tag_is h.tag t) [] (h ∷ ahead_of t hs) same)
        ∙ (ap (λ (b : Bool). judged b k s m) (and_true front)
        ∙ (ap (λ (x : Kind). judged front x s m) (sym (kinds_same _ _ _ _ (its same)))
        ∙ ap (λ (x : Stage). judged front h.kind x m) (sym (stages_same _ _ _ _ (its same)))))

    at : tag_is h.tag t ≡ true → (stage : Stage) → standing_in t (staged h stage ∷ hs) ≡ Some (k, stage)
    at same stage = if_true {A = Standing} (tag_is h.tag t) (Some (h.kind, stage)) (standing_in t hs) same
        ∙ ap (λ (x : Kind). Some (x, stage)) (kinds_same _ _ _ _ (its same))

-- what is held under another tag stays
apart_from : (h : OpenCommand) (u t : Tag) → tag_is u t ≡ false → tag_is h.tag u ≡ true → tag_is h.tag t ≡ false
apart_from h u t apart same = ap (λ (x : Tag). tag_is x t) (tag_is-true h.tag u same) ∙ apart

left_alone : (front : Bool) (hs gs : List OpenCommand) (u t : Tag) (m : Mark) (e : Effect) → tag_is u t ≡ false
    → heard_in front hs u m ≡ two gs e
    → standing_in t gs ≡ standing_in t hs
left_alone front [] gs u t m e apart is = absurd (cc)
left_alone front (h ∷ hs) gs u t m e apart is =
    heard_cases front h hs u m gs e (standing_in t gs ≡ standing_in t (h ∷ hs)) is
    (λ stage same v g f. ap (standing_in t) g ∙ (past same stage ∙ sym (gone same)))
    (λ same v g f. ap (standing_in t) g ∙ (past same Stage.Failed ∙ sym (gone same)))
    (λ same v g f. ap (standing_in t) g ∙ sym (gone same))
    (λ given same v g f. ap (standing_in t) g ∙ sym (gone same))
    (λ rest other later g. ap (standing_in t) g
    ∙ ap (λ (x : Standing). cond (tag_is h.tag t) (Some (h.kind, h.stage)) x)
    (left_alone (front && is_failed h.stage) hs rest u t m e apart later))
  where
    gone : tag_is h.tag u ≡ true → standing_in t (h ∷ hs) ≡ standing_in t hs
    gone same = if_false {A = Standing} (tag_is h.tag t) (Some (h.kind, h.stage)) (standing_in t hs) (apart_from h u t apart same)

    past : tag_is h.tag u ≡ true → (stage : Stage) → standing_in t (staged h stage ∷ hs) ≡ standing_in t hs
    past same stage = if_false {A = Standing} (tag_is h.tag t) (Some (h.kind, stage)) (standing_in t hs) (apart_from h u t apart same)

-- one command more at the end
stays_behind : (t : Tag) (hs : List OpenCommand) (x : OpenCommand) (v : Kind × Stage) → standing_in t hs ≡ Some v
    → standing_in t (hs ++ x ∷ []) ≡ Some v
stays_behind t [] x v e = absurd (cc)
stays_behind t (h ∷ hs) x v e = go (stays_behind t hs x v) (tag_is h.tag t) e
  where
    go : (standing_in t hs ≡ Some v → standing_in t (hs ++ x ∷ []) ≡ Some v) → (b : Bool)
        → cond b (Some (h.kind, h.stage)) (standing_in t hs) ≡ Some v
        → cond b (Some (h.kind, h.stage)) (standing_in t (hs ++ x ∷ [])) ≡ Some v
    go deeper true e = e
    go deeper false e = deeper e

stands_last : (t : Tag) (k : Kind) (hs : List OpenCommand) → is_held t hs ≡ false
    → standing_in t (hs ++ held_now t k ∷ []) ≡ Some (k, Stage.Sent)
stands_last t k [] e = if_true {A = Standing} (tag_is t t) (Some (k, Stage.Sent)) None (tag_is-refl t)
stands_last t k (h ∷ hs) e = go (stands_last t k hs) (tag_is h.tag t) e
  where
    go : (is_held t hs ≡ false → standing_in t (hs ++ held_now t k ∷ []) ≡ Some (k, Stage.Sent)) → (b : Bool)
        → cond b true (is_held t hs) ≡ false
        → cond b (Some (h.kind, h.stage)) (standing_in t (hs ++ held_now t k ∷ [])) ≡ Some (k, Stage.Sent)
    go deeper true e = absurd (true≢false e)
    go deeper false e = deeper e

-- ---- on both sorts of tags

-- a mark that is taken in on standard tags
record IsStandard (o next : OpenValue) (n : ℕ) (m : Mark) : Type 0 where
  hs : List OpenCommand
  e : Effect
  is : heard_in (not o.failed) o.standard (Std n) m ≡ two hs e
  standard : next.standard ≡ hs
  event : next.event ≡ o.event

record IsEvent (o next : OpenValue) (n : ℕ) (m : Mark) : Type 0 where
  hs : List OpenCommand
  e : Effect
  is : heard_in true o.event (Event n) m ≡ two hs e
  standard : next.standard ≡ o.standard
  event : next.event ≡ hs

abbrev next_in : Answer → OpenValue → OpenValue
next_in (Ok r) d = r.0
next_in (Err c) d = d

standard_taken : (o next : OpenValue) (n : ℕ) (m : Mark) (effect : Effect) → heard o (Std n) m ≡ Ok (next, effect) → IsStandard o next n m
standard_taken o next n m effect is = go (heard_in (not o.failed) o.standard (Std n) m) refl is
  where
    go : (r : Heard) → heard_in (not o.failed) o.standard (Std n) m ≡ r → heard_standard o r ≡ Ok (next, effect) → IsStandard o next n m
    go (Ok (hs, e)) heard_is is =
        let same : record o { standard = hs; failed = failed_behind e o.failed } ≡ next = ap (λ (a : Answer). next_in a next) is in
        record {
          hs = hs;
          e = e;
          is = heard_is;
          standard = sym (ap (λ (p : OpenValue). p.standard) same);
          event = sym (ap (λ (p : OpenValue). p.event) same);
        }
    go (Err c) heard_is is = absurd (cc)

event_taken : (o next : OpenValue) (n : ℕ) (m : Mark) (effect : Effect) → heard o (Event n) m ≡ Ok (next, effect) → IsEvent o next n m
event_taken o next n m effect is = go (heard_in true o.event (Event n) m) refl is
  where
    go : (r : Heard) → heard_in true o.event (Event n) m ≡ r → heard_event o r ≡ Ok (next, effect) → IsEvent o next n m
    go (Ok (hs, e)) heard_is is =
        let same : record o { event = hs } ≡ next = ap (λ (a : Answer). next_in a next) is in
        record {
          hs = hs;
          e = e;
          is = heard_is;
          standard = sym (ap (λ (p : OpenValue). p.standard) same);
          event = sym (ap (λ (p : OpenValue). p.event) same);
        }
    go (Err c) heard_is is = absurd (cc)

moved_on : (o next : OpenValue) (t : Tag) (m : Mark) (effect : Effect) (k : Kind) (s : Stage) → heard o t m ≡ Ok (next, effect)
    → standing t o ≡ Some (k, s)
    → Stays (judged (is_next t o) k s m) k (standing t next)
moved_on o next (Std n) m effect k s is st =
    let x : IsStandard o next n m = standard_taken o next n m effect is in
    subst (λ (l : List OpenCommand). Stays (judged (is_next (Std n) o) k s m) k (standing_in (Std n) l)) (sym x.standard)
    (moved (not o.failed) o.standard x.hs (Std n) m x.e k s x.is st)
moved_on o next (Event n) m effect k s is st =
    let x : IsEvent o next n m = event_taken o next n m effect is in
    subst (λ (l : List OpenCommand). Stays (judged (is_next (Event n) o) k s m) k (standing_in (Event n) l)) (sym x.event)
    (moved true o.event x.hs (Event n) m x.e k s x.is st)

alone : (o next : OpenValue) (u t : Tag) (m : Mark) (effect : Effect) → tag_is u t ≡ false → heard o u m ≡ Ok (next, effect)
    → standing t next ≡ standing t o
alone o next (Std n) (Std j) m effect apart is =
    let x : IsStandard o next n m = standard_taken o next n m effect is in
    ap (standing_in (Std j)) x.standard ∙ left_alone (not o.failed) o.standard x.hs (Std n) (Std j) m x.e apart x.is
alone o next (Std n) (Event j) m effect apart is = let x : IsStandard o next n m = standard_taken o next n m effect is
    in ap (standing_in (Event j)) x.event
alone o next (Event n) (Std j) m effect apart is = let x : IsEvent o next n m = event_taken o next n m effect is
    in ap (standing_in (Std j)) x.standard
alone o next (Event n) (Event j) m effect apart is =
    let x : IsEvent o next n m = event_taken o next n m effect is in
    ap (standing_in (Event j)) x.event ∙ left_alone true o.event x.hs (Event n) (Event j) m x.e apart x.is

drawn_behind : (o : OpenValue) (t u : Tag) (kind : Kind) (v : Kind × Stage) → standing t o ≡ Some v
    → standing t (with_drawn o u kind) ≡ Some v
drawn_behind o (Std j) (Std n) kind v e = stays_behind (Std j) o.standard (held_now (Std n) kind) v e
drawn_behind o (Std j) (Event n) kind v e = e
drawn_behind o (Event j) (Std n) kind v e = e
drawn_behind o (Event j) (Event n) kind v e = stays_behind (Event j) o.event (held_now (Event n) kind) v e

-- ---- the marks under a tag

-- a verdict that does not end the command
abbrev Goes_further : Verdict → Type 0
Goes_further (Becomes stage) = Unit {0}
Goes_further Breaks = Unit {0}
Goes_further Closes = ⊥
Goes_further (Counts given) = ⊥
Goes_further (Refused why) = Unit {0}

further_ack : (s : Stage) → Goes_further (judged_ack s)
further_ack Stage.Sent = tt
further_ack Stage.Received = tt
further_ack (Stage.Given p) = tt
further_ack Stage.Failed = tt

further_data : (b : Bool) (s : Stage) (p : Datum) → Goes_further (judged_given b s p)
further_data true Stage.Sent p = tt
further_data true Stage.Received p = tt
further_data true (Stage.Given q) p = tt
further_data true Stage.Failed p = tt
further_data false s p = tt

further_error : (s : Stage) → Goes_further (judged_error s)
further_error Stage.Sent = tt
further_error Stage.Received = tt
further_error (Stage.Given p) = tt
further_error Stage.Failed = tt

goes_further : (k : Kind) (st : Standing) (later : List Placed) (v : Verdict) → ((r : Stage) → st ≡ Some (k, r) → Accepts k r later)
    → Goes_further v → Stays v k st → Goes k later v (λ r. Accepts k r later)
goes_further k st later (Becomes stage) ih further stays = ih stage stays
goes_further k st later Breaks ih further stays = ih Stage.Failed stays
goes_further k st later Closes ih further stays = absurd further
goes_further k st later (Counts given) ih further stays = absurd further
goes_further k st later (Refused why) ih further stays = stays

goes_to_end : (k : Kind) (st : Standing) (v : Verdict) → Stays v k st → Goes k [] v (λ r. Accepts k r [])
goes_to_end k st (Becomes stage) stays = tt
goes_to_end k st Breaks stays = tt
goes_to_end k st Closes stays = refl
goes_to_end k st (Counts given) stays = refl
goes_to_end k st (Refused why) stays = stays

accepted : (k : Kind) (st : Standing) (s : Stage) (front : Bool) (m : Mark) (later : List Placed)
    → ((r : Stage) → st ≡ Some (k, r) → Accepts k r later)
    → Stays (judged front k s m) k st → Accepts k s ((front, m) ∷ until_end m later)
accepted k st s front Mark.Ack later ih stays = goes_further k st later (judged_ack s) ih (further_ack s) stays
accepted k st s front (Mark.Given p) later ih stays = goes_further k st later (judged_given (front && fits k p) s p) ih
    (further_data (front && fits k p) s p) stays
accepted k st s front Mark.Error later ih stays = goes_further k st later (judged_error s) ih (further_error s) stays
accepted k st s front Mark.Done later ih stays = goes_to_end k st (judged_done front (asks_data k) s) stays

marked : (k : Kind) (s : Stage) (t u : Tag) (m : Mark) (o : OpenValue) (rest : OpenValue → List Placed)
    → ((r : Stage) (next : OpenValue) → standing t next ≡ Some (k, r) → Accepts k r (rest next)) → standing t o ≡ Some (k, s)
    → Accepts k s (placed t o u m (rest (behind_answer o (heard o u m))))
marked k s t u m o rest ih st = go (tag_is u t) refl (heard o u m) refl
  where
    go : (b : Bool) → tag_is u t ≡ b → (a : Answer) → heard o u m ≡ a
        → Accepts k s (cond b (answered (is_next t o) m a (rest (behind_answer o a))) (rest (behind_answer o a)))
    go true same (Ok (next, effect)) is =
        accepted k (standing t next) s (is_next t o) m (rest next) (λ r e. ih r next e)
        (moved_on o next t m effect k s (ap (λ (x : Tag). heard o x m) (sym (tag_is-true u t same)) ∙ is) st)
    go true same (Err c) is = ih s o st
    go false apart (Ok (next, effect)) is = ih s next (alone o next u t m effect apart is ∙ st)
    go false apart (Err c) is = ih s o st

drawn_keeps : (o : OpenValue) (t : Tag) (kind : Kind) (v : Kind × Stage) (tag : Option Tag) → standing t o ≡ Some v
    → standing t (behind_draw o kind tag) ≡ Some v
drawn_keeps o t kind v None e = e
drawn_keeps o t kind v (Some u) e = drawn_behind o t u kind v e

plan_keeps : (o : OpenValue) (t : Tag) → standing t (record o { failed = false }) ≡ standing t o
plan_keeps o (Std n) = refl
plan_keeps o (Event n) = refl

follows : (k : Kind) (s : Stage) (t : Tag) (o : OpenValue) (calls : List Call) → standing t o ≡ Some (k, s)
    → Accepts k s (taken_under t o calls)
follows k s t o [] e = tt
follows k s t o (Draw kind ∷ calls) e = follows k s t (behind_draw o kind (next_tag o kind)) calls
    (drawn_keeps o t kind (k, s) (next_tag o kind) e)
follows k s t o (Received u ∷ calls) e = marked k s t u Mark.Ack o (λ p. taken_under t p calls) (λ r p f. follows k r t p calls f) e
follows k s t o (Data u datum ∷ calls) e = marked k s t u (Mark.Given datum) o (λ p. taken_under t p calls)
    (λ r p f. follows k r t p calls f) e
follows k s t o (Failed u ∷ calls) e = marked k s t u Mark.Error o (λ p. taken_under t p calls) (λ r p f. follows k r t p calls f) e
follows k s t o (Complete u ∷ calls) e = marked k s t u Mark.Done o (λ p. taken_under t p calls) (λ r p f. follows k r t p calls f) e
follows k s t o (BeginPlan ∷ calls) e = follows k s t (record o { failed = false }) calls (plan_keeps o t ∙ e)

-- ---- from the draw on

tag_drawn : (sort : ℕ → Tag) (hs : List OpenCommand) (d : ℕ) (t : Tag) → tagged sort (next_number sort hs d) ≡ Some t → is_held t hs ≡ false
tag_drawn sort hs d t is = go (next_number sort hs d) refl is
  where
    go : (r : Option ℕ) → next_number sort hs d ≡ r → tagged sort r ≡ Some t → is_held t hs ≡ false
    go None e is = absurd (cc)
    go (Some n) e is =
        let same : sort n ≡ t = cc in
        let free : is_held (sort n) hs ≡ false = (drawn sort hs d (9999 - d) 9999 n e).free in
        subst (λ (u : Tag). is_held u hs ≡ false) same free

standard_number : (r : Option ℕ) (t : Tag) → tagged Std r ≡ Some t → (n : ℕ) × (t ≡ Std n)
standard_number None t is = absurd (cc)
standard_number (Some n) t is = let same : Std n ≡ t = cc in (n, sym same)

event_number : (r : Option ℕ) (t : Tag) → tagged Event r ≡ Some t → (n : ℕ) × (t ≡ Event n)
event_number None t is = absurd (cc)
event_number (Some n) t is = let same : Event n ≡ t = cc in (n, sym same)

begun : (o : OpenValue) (kind : Kind) (t : Tag) → next_tag o kind ≡ Some t → standing t (with_drawn o t kind) ≡ Some (kind, Stage.Sent)
begun o kind t is = go (is_event_kind kind) is
  where
    go : (b : Bool) → cond b (tagged Event (next_number Event o.event o.event_drawn)) (tagged Std (next_number Std o.standard o.drawn))
        ≡ Some t
        → standing t (with_drawn o t kind) ≡ Some (kind, Stage.Sent)
    go true is =
        let n = event_number (next_number Event o.event o.event_drawn) t is in
        subst (λ (u : Tag). standing u (with_drawn o u kind) ≡ Some (kind, Stage.Sent)) (sym n.1)
        (stands_last (Event n.0) kind o.event (subst (λ (u : Tag). is_held u o.event ≡ false) n.1
        (tag_drawn Event o.event o.event_drawn t is)))
    go false is =
        let n = standard_number (next_number Std o.standard o.drawn) t is in
        subst (λ (u : Tag). standing u (with_drawn o u kind) ≡ Some (kind, Stage.Sent)) (sym n.1)
        (stands_last (Std n.0) kind o.standard (subst (λ (u : Tag). is_held u o.standard ≡ false) n.1
        (tag_drawn Std o.standard o.drawn t is)))

pub in_language : (o : OpenValue) (kind : Kind) (t : Tag) (calls : List Call) → next_tag o kind ≡ Some t
    → IsRepliesFront (asks_data kind) (fits kind) (marks_of (taken_under t (with_drawn o t kind) calls))
in_language o kind t calls is = (accepts_only kind (taken_under t (with_drawn o t kind) calls)
    (follows kind Stage.Sent t (with_drawn o t kind) calls (begun o kind t is))).0

pub at_front : (o : OpenValue) (kind : Kind) (t : Tag) (calls : List Call) → next_tag o kind ≡ Some t
    → AreAtFront false (taken_under t (with_drawn o t kind) calls)
at_front o kind t calls is = (accepts_only kind (taken_under t (with_drawn o t kind) calls)
    (follows kind Stage.Sent t (with_drawn o t kind) calls (begun o kind t is))).1
