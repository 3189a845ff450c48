-- Where no IsHomed is open, replies pass nothing over: what is unsent stays as it is, whatever it is.
use Rattle.protocol_model.proofs.Names.{[], ◌&&◌, ◌++◌, ◌||◌, ◌∙◌, ◌∷◌, ◌≡◌, ◌⊎◌, act_of, ap, asks_homed, Becomes, begins_session, Bool, Cause}
use Rattle.protocol_model.proofs.Names.{counted_next, Counts, Datum, Does, Effect, false, false≢true, heard_in, heard_on, inl, inr, is_asking}
use Rattle.protocol_model.proofs.Names.{is_failed, judged, Kind, List, mark_of, measured, None, not, OpenCommand, Option, passed_over, Planned, refl}
use Rattle.protocol_model.proofs.Names.{Reply, Result, Some, Stage, Std, subst, suc, sym, Table, Tag, tag_is, tag_of, tallied, Tally, tells_homed}
use Rattle.protocol_model.proofs.Names.{true, Wanted}
use Rattle.dme_line.specs.declared.tags.Tag.TheVariants.{Event}
use Rattle.protocol_model.specs.Replies.{Mark}
use Rattle.protocol_model.proofs.HeardTables.{heard}
use Rattle.protocol_model.proofs.table.Basics.{if_true}
use Rattle.protocol_model.proofs.table.Walks.{two, staged, heard_cases}
use Rattle.protocol_model.proofs.table.Counts.{failed_stays, is_failed-true, never_counts}
use Rattle.protocol_model.proofs.table.Replying.{tabled, fine, same_table, step_cases, standard_step, event_step, Reads}

-- ---- open commands of which none asks whether the machine is homed

-- the first does not, and neither do the others
pub record AskNothing (h : OpenCommand) (hs : List OpenCommand) : Type 0 where
  pub first : (asks_homed h.kind && not (is_failed h.stage)) ≡ false
  pub others : is_asking hs ≡ false

or_parts : (a b : Bool) → (a || b) ≡ false → (a ≡ false) × (b ≡ false)
or_parts false b e = (refl, e)
or_parts true b e = absurd (false≢true (sym e))

-- of commands of which none does
pub ask_nothing : (h : OpenCommand) (hs : List OpenCommand) → is_asking (h ∷ hs) ≡ false → AskNothing h hs
ask_nothing h hs e = let parts = or_parts _ _ e in record { first = parts.0; others = parts.1 }

asking_cons : (h : OpenCommand) (hs : List OpenCommand) → AskNothing h hs → is_asking (h ∷ hs) ≡ false
asking_cons h hs a = ap (λ (b : Bool). b || is_asking hs) a.first ∙ a.others

-- a command that does not ask does not ask at another stage
still_nothing : (asks : Bool) (s x : Stage) → (asks && not (is_failed s)) ≡ false → (is_failed s ≡ true → is_failed x ≡ true)
    → (asks && not (is_failed x)) ≡ false
still_nothing false s x e stays = refl
still_nothing true s x e stays = ap not (stays (go (is_failed s) e))
  where
    go : (b : Bool) → not b ≡ false → b ≡ true
    go true e = refl
    go false e = absurd (false≢true (sym e))

-- a reply opens no question
pub asking_keeps : (front : Bool) (hs : List OpenCommand) (t : Tag) (m : Mark) (gs : List OpenCommand) (e : Effect)
    → heard_in front hs t m ≡ two gs e
    → is_asking hs ≡ false → is_asking gs ≡ false
asking_keeps front [] t m gs e is none = absurd (cc)
asking_keeps front (h ∷ hs) t m gs e is none =
    let a : AskNothing h hs = ask_nothing h hs none in
    heard_cases front h hs t m gs e (is_asking gs ≡ false) is
    (λ s same v g f. rw g (asking_cons (staged h s) hs (record {
      first = still_nothing (asks_homed h.kind) h.stage s a.first (λ b. stays front h m s b v);
      others = a.others;
    })))
    (λ same v g f. rw g (asking_cons (staged h Stage.Failed) hs (record {
      first = still_nothing (asks_homed h.kind) h.stage Stage.Failed a.first (λ b. refl);
      others = a.others;
    })))
    (λ same v g f. rw g a.others)
    (λ given same v g f. rw g a.others)
    (λ rest other later g. rw g (asking_cons h rest (record {
      first = a.first;
      others = asking_keeps (front && is_failed h.stage) hs t m rest e later a.others;
    })))
  where
    stays : (f : Bool) (h : OpenCommand) (m : Mark) (s : Stage) → is_failed h.stage ≡ true → judged f h.kind h.stage m ≡ Becomes s
        → is_failed s ≡ true
    stays f h m s b v = ap is_failed (failed_stays f h.kind m s
        (ap (λ (x : Stage). judged f h.kind x m) (sym (is_failed-true h.stage b)) ∙ v))

-- and counts none
pub counts_unasked : (front : Bool) (hs : List OpenCommand) (t : Tag) (m : Mark) (gs : List OpenCommand) (k : Kind) (given : Option Datum)
    → heard_in front hs t m ≡ two gs (Effect.Count k given) → is_asking hs ≡ false → asks_homed k ≡ false
counts_unasked front [] t m gs k given is none = absurd (cc)
counts_unasked front (h ∷ hs) t m gs k given is none =
    let a : AskNothing h hs = ask_nothing h hs none in
    heard_cases front h hs t m gs (Effect.Count k given) (asks_homed k ≡ false) is
    (λ s same v g f. absurd (cc))
    (λ same v g f. absurd (cc))
    (λ same v g f. absurd (cc))
    (λ got same v g f. let kinds : k ≡ h.kind = cc in ap asks_homed kinds ∙ counted h got v a.first (is_failed h.stage) refl)
    (λ rest other later g. counts_unasked (front && is_failed h.stage) hs t m rest k given later a.others)
  where
    counted : (h : OpenCommand) (got : Option Datum) → judged front h.kind h.stage m ≡ Counts got
        → (asks_homed h.kind && not (is_failed h.stage)) ≡ false
        → (b : Bool) → is_failed h.stage ≡ b → asks_homed h.kind ≡ false
    counted h got v e true b = absurd (never_counts front h.kind m got
        (ap (λ (x : Stage). judged front h.kind x m) (sym (is_failed-true h.stage b)) ∙ v))
    counted h got v e false b = go (asks_homed h.kind) (ap (λ (x : Bool). asks_homed h.kind && not x) (sym b) ∙ e)
      where
        go : (x : Bool) → (x && true) ≡ false → x ≡ false
        go false e = refl
        go true e = absurd (false≢true (sym e))

-- what does not ask says nothing
pub tells_unasked : (k : Kind) (given : Option Datum) → asks_homed k ≡ false → tells_homed k given ≡ false
tells_unasked Kind.IsHomed given e = absurd (false≢true (sym e))
tells_unasked Kind.StartSession given e = refl
tells_unasked Kind.EndSession given e = refl
tells_unasked Kind.ClearAllErrors given e = refl
tells_unasked Kind.Home given e = refl
tells_unasked Kind.OnPtMeasReport given e = refl
tells_unasked Kind.GoTo given e = refl
tells_unasked Kind.PtMeas given e = refl
tells_unasked Kind.ChangeTool given e = refl
tells_unasked Kind.SetCsyTransformation given e = refl
tells_unasked Kind.SetCoordSystem given e = refl
tells_unasked Kind.AbortE given e = refl

-- what says that the machine is homed was asked
pub tells_asks : (k : Kind) (given : Option Datum) → tells_homed k given ≡ true → asks_homed k ≡ true
tells_asks k given e = go (asks_homed k) refl
  where
    go : (b : Bool) → asks_homed k ≡ b → asks_homed k ≡ true
    go true f = f
    go false f = absurd (false≢true (sym (tells_unasked k given f) ∙ e))

-- ---- the tally with other commands unsent

-- a tally with these commands unsent
abbrev pub unsent_in : List Planned → Tally → Tally
unsent_in ps y = record y { unsent = ps }

measured_unsent : (ws : List Wanted) (does : Does) (given : Option Datum) (ps : List Planned) (y : Tally)
    → measured ws does given (unsent_in ps y) ≡ unsent_in ps (measured ws does given y)
measured_unsent ws (Does.Touches t false) (Some (Datum.Point p)) ps y = refl
measured_unsent ws (Does.Touches t true) (Some (Datum.Point p)) ps y = refl
measured_unsent ws (Does.Touches t false) (Some (Datum.Homed homed)) ps y = refl
measured_unsent ws (Does.Touches t true) (Some (Datum.Homed homed)) ps y = refl
measured_unsent ws (Does.Touches t false) None ps y = refl
measured_unsent ws (Does.Touches t true) None ps y = refl
measured_unsent ws Does.Nothing given ps y = refl
measured_unsent ws Does.AsksHomed given ps y = refl
measured_unsent ws Does.Homes given ps y = refl
measured_unsent ws (Does.Moves p f) given ps y = refl
measured_unsent ws (Does.Changes n) given ps y = refl
measured_unsent ws (Does.Frames f) given ps y = refl

-- what is measured of a command leaves what is unsent
pub measured_leaves : (ws : List Wanted) (does : Does) (given : Option Datum) (y : Tally) → (measured ws does given y).unsent ≡ y.unsent
measured_leaves ws does given y = ap (λ (z : Tally). z.unsent) (measured_unsent ws does given y.unsent y)

counted_unsent : (ws : List Wanted) (k : Kind) (given : Option Datum) (todo ps : List Planned) (y : Tally) → tells_homed k given ≡ false
    → counted_next ws k given todo (unsent_in ps y) ≡ unsent_in ps (counted_next ws k given todo y)
counted_unsent ws k given [] ps y quiet = refl
counted_unsent ws k given (p ∷ todo) ps y quiet =
    ap (λ (b : Bool). measured ws p.does given (unsent_in (passed_over b ps) (next b))) quiet
    ∙ (measured_unsent ws p.does given ps (next false)
    ∙ ap (λ (b : Bool). unsent_in ps (measured ws p.does given (next b))) (sym quiet))
  where
    next : Bool → Tally
    next b = record y {
      session = y.session || begins_session k;
      todo = passed_over b todo;
      unsent = passed_over b y.unsent;
      counted = y.counted ++ act_of p.does given;
      completed = suc y.completed;
    }

tallied_unsent : (ws : List Wanted) (e : Effect) (ps : List Planned) (y : Tally)
    → ((k : Kind) (given : Option Datum) → e ≡ Effect.Count k given → asks_homed k ≡ false)
    → tallied ws e (unsent_in ps y) ≡ unsent_in ps (tallied ws e y)
tallied_unsent ws Effect.Quiet ps y quiet = refl
tallied_unsent ws Effect.Failure ps y quiet = refl
tallied_unsent ws (Effect.Count k given) ps y quiet =
    counted_unsent ws k given y.todo ps y (tells_unasked k given (quiet k given refl))

counted_leaves : (ws : List Wanted) (k : Kind) (given : Option Datum) (todo : List Planned) (y : Tally)
    → ((counted_next ws k given todo y).unsent ≡ passed_over (tells_homed k given) y.unsent)
    ⊎ ((counted_next ws k given todo y).unsent ≡ y.unsent)
counted_leaves ws k given [] y = inr refl
counted_leaves ws k given (p ∷ todo) y = inl (measured_leaves ws p.does given _)

-- what a reply leaves unsent: what was unsent, or that with the next homing skipped
pub tallied_leaves : (ws : List Wanted) (e : Effect) (y : Tally) (P : List Planned → Type 0) → P y.unsent
    → ((ps : List Planned) (told : Bool) → P ps → P (passed_over told ps)) → P (tallied ws e y).unsent
tallied_leaves ws Effect.Quiet y P p keeps = p
tallied_leaves ws Effect.Failure y P p keeps = p
tallied_leaves ws (Effect.Count k given) y P p keeps = go (counted_leaves ws k given y.todo y)
  where
    go : ((counted_next ws k given y.todo y).unsent ≡ passed_over (tells_homed k given) y.unsent)
        ⊎ ((counted_next ws k given y.todo y).unsent ≡ y.unsent) → P (counted_next ws k given y.todo y).unsent
    go (inl e) = subst P (sym e) (keeps y.unsent (tells_homed k given) p)
    go (inr e) = subst P (sym e) p

-- ---- the table with other commands unsent

-- a table with these commands unsent
abbrev pub with_unsent : List Planned → Table → Table
with_unsent ps b = tabled b.standard b.event (unsent_in ps b.tally)

-- what a reply leaves unsent, on whatever tag
pub step_leaves : (ws : List Wanted) (b : Table) (t : Tag) (m : Mark) (c : Table) (P : List Planned → Type 0) → heard ws b t m ≡ fine c
    → P b.tally.unsent → ((ps : List Planned) (told : Bool) → P ps → P (passed_over told ps)) → P c.tally.unsent
step_leaves ws b t m c P is p keeps =
    step_cases ws b t m c (P c.tally.unsent) is
    (λ none same. subst (λ (x : Table). P x.tally.unsent) same p)
    (λ n hs e tag walk g. subst (λ (x : Table). P x.tally.unsent) (sym g) (tallied_leaves ws e b.tally P p keeps))
    (λ n hs e tag other walk g. subst (λ (x : Table). P x.tally.unsent) (sym g) p)

-- if nothing is asked, a reply asks nothing, and is expected whatever is unsent
pub record IsUnasked (ws : List Wanted) (b c : Table) (t : Tag) (m : Mark) : Type 0 where
  pub asking : is_asking c.standard ≡ false
  pub unsent : c.tally.unsent ≡ b.tally.unsent
  pub anyhow : (ps : List Planned) → heard ws (with_unsent ps b) t m ≡ fine (with_unsent ps c)

same_unsent : (ws : List Wanted) (b : Table) (t : Tag) (m : Mark) (c : Table) → heard ws b t m ≡ fine c
    → heard ws (with_unsent b.tally.unsent b) t m ≡ fine (with_unsent b.tally.unsent c) → c.tally.unsent ≡ b.tally.unsent
same_unsent ws b t m c is again = ap (λ (x : Table). x.tally.unsent) (same_table c (with_unsent b.tally.unsent c) (sym is ∙ again))

-- what such a reply does
record Unasked (ws : List Wanted) (b c : Table) (t : Tag) (m : Mark) : Type 0 where
  asking : is_asking c.standard ≡ false
  anyhow : (ps : List Planned) → heard ws (with_unsent ps b) t m ≡ fine (with_unsent ps c)

unasked_by : (ws : List Wanted) (b : Table) (t : Tag) (m : Mark) (c : Table) → heard ws b t m ≡ fine c
    → is_asking b.standard ≡ false → Unasked ws b c t m
unasked_by ws b t m c is none =
    step_cases ws b t m c (Unasked ws b c t m) is
    (λ zero_tag same. record {
      asking = subst (λ (x : Table). is_asking x.standard ≡ false) same none;
      anyhow = λ ps. if_true {A = Result Table Cause} (tag_is t (Event 0)) (fine (with_unsent ps b)) (heard_on ws (with_unsent ps b) t m)
          zero_tag ∙ ap (λ (x : Table). fine (with_unsent ps x)) same;
    })
    (λ n hs e tag walk g. record {
      asking = subst (λ (x : Table). is_asking x.standard ≡ false) (sym g) (asking_keeps _ b.standard (Std n) m hs e walk none);
      anyhow = λ ps. ap (λ (u : Tag). heard ws (with_unsent ps b) u m) tag
          ∙ (standard_step ws (with_unsent ps b) n m hs e walk
          ∙ (ap (λ (y : Tally). fine (tabled hs b.event y)) (tallied_unsent ws e ps b.tally (λ k given is_count.
          counts_unasked _ b.standard (Std n) m hs k given (walk ∙ ap (λ (f : Effect). two hs f) is_count) none))
          ∙ ap (λ (x : Table). fine (with_unsent ps x)) (sym g)));
    })
    (λ n hs e tag other walk g. record {
      asking = subst (λ (x : Table). is_asking x.standard ≡ false) (sym g) none;
      anyhow = λ ps. ap (λ (u : Tag). heard ws (with_unsent ps b) u m) tag
          ∙ (event_step ws (with_unsent ps b) n m hs e (subst (λ (u : Tag). tag_is u (Event 0) ≡ false) tag other) walk
          ∙ ap (λ (x : Table). fine (with_unsent ps x)) (sym g));
    })

-- a reply does so if nothing is asked
pub step_unasked : (ws : List Wanted) (b : Table) (t : Tag) (m : Mark) (c : Table) → heard ws b t m ≡ fine c
    → is_asking b.standard ≡ false → IsUnasked ws b c t m
step_unasked ws b t m c is none =
    let by : Unasked ws b c t m = unasked_by ws b t m c is none in
    record { asking = by.asking; unsent = same_unsent ws b t m c is (by.anyhow b.tally.unsent); anyhow = by.anyhow }

-- replies, one after another, ask nothing and leave what is unsent, and are expected whatever that is
pub record AreUnasked (ws : List Wanted) (b c : Table) (rs : List Reply) : Type 0 where
  pub asking : is_asking c.standard ≡ false
  pub unsent : c.tally.unsent ≡ b.tally.unsent
  pub anyhow : (ps : List Planned) → Reads ws (with_unsent ps b) rs (with_unsent ps c)

pub reads_unasked : (ws : List Wanted) (rs : List Reply) (b c : Table) → Reads ws b rs c → is_asking b.standard ≡ false
    → AreUnasked ws b c rs
reads_unasked ws [] b c reads none = record {
  asking = subst (λ (x : Table). is_asking x.standard ≡ false) reads none;
  unsent = ap (λ (x : Table). x.tally.unsent) (sym reads);
  anyhow = λ ps. ap (with_unsent ps) reads;
}
reads_unasked ws (r ∷ rs) b c reads none =
    let one : IsUnasked ws b reads.0 (tag_of r) (mark_of r) = step_unasked ws b (tag_of r) (mark_of r) reads.0 reads.1 none in
    let rest : AreUnasked ws reads.0 c rs = reads_unasked ws rs reads.0 c reads.2 one.asking in
    record {
      asking = rest.asking;
      unsent = rest.unsent ∙ one.unsent;
      anyhow = λ ps. (with_unsent ps reads.0, one.anyhow ps, rest.anyhow ps);
    }
