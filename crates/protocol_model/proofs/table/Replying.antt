-- A client that reads a list of replies, one after another.
use Rattle.protocol_model.proofs.Names.{[], ◌++◌, ◌||◌, ◌∙◌, ◌∷◌, ◌≡◌, ◌≤◌, act_of, ap, append-nil, append_assoc, begins_session, Cause, count_open}
use Rattle.protocol_model.proofs.Names.{counted_next, Datum, Does, Effect, Err, false, Feature, Heard, heard_event, heard_in, heard_on}
use Rattle.protocol_model.proofs.Names.{heard_standard, is_held, joined, Kind, le_refl, le_trans, List, mark_of, measured, None, not, Ok, OpenCommand}
use Rattle.protocol_model.proofs.Names.{Option, Origin, origin_of, passed_over, Planned, Point, refl, Reply, Result, Some, Std, subst, suc, sym}
use Rattle.protocol_model.proofs.Names.{Table, Tag, tag_is, tag_of, tallied, Tally, tells_homed, true, Wanted, ℕ}
use Rattle.dme_line.specs.declared.tags.Tag.TheVariants.{Event}
use Rattle.protocol_model.specs.Replies.{Mark}
use Rattle.protocol_model.proofs.HeardTables.{heard}
use Rattle.protocol_model.proofs.table.Basics.{if_cases, if_true, if_false}
use Rattle.protocol_model.proofs.table.Walks.{two, heard_more, not_held_keeps, AreDistinct, distinct_keeps}
use Rattle.protocol_model.proofs.table.Counts.{AreFailed, OnlyEnds, only_ends, count_keeps}

-- a table of these open commands and this tally
abbrev pub tabled : List OpenCommand → List OpenCommand → Tally → Table
tabled standard event tally = record { standard = standard; event = event; tally = tally }

-- a reply that had its place
abbrev pub fine : Table → Result Table Cause
fine b = Ok b

abbrev table_in : Result Table Cause → Table → Table
table_in (Ok b) d = b
table_in (Err cause) d = d

pub same_table : (b c : Table) → fine b ≡ fine c → b ≡ c
same_table b c e = ap (λ (r : Result Table Cause). table_in r c) e

standard_cases : (ws : List Wanted) (b c : Table) (r : Heard) (P : Type 0) → heard_standard ws b r ≡ fine c
    → ((hs : List OpenCommand) (e : Effect) → r ≡ two hs e → c ≡ tabled hs b.event (tallied ws e b.tally) → P) → P
standard_cases ws b c (Ok (hs, e)) P is k = k hs e refl (sym (same_table _ _ is))
standard_cases ws b c (Err cause) P is k = absurd (cc)

event_cases : (b c : Table) (r : Heard) (P : Type 0) → heard_event b r ≡ fine c
    → ((hs : List OpenCommand) (e : Effect) → r ≡ two hs e → c ≡ tabled b.standard hs b.tally → P) → P
event_cases b c (Ok (hs, e)) P is k = k hs e refl (sym (same_table _ _ is))
event_cases b c (Err cause) P is k = absurd (cc)

-- what a reply can have done to a table
pub step_cases : (ws : List Wanted) (b : Table) (t : Tag) (m : Mark) (c : Table) (P : Type 0) → heard ws b t m ≡ fine c
    → (tag_is t (Event 0) ≡ true → b ≡ c → P)
    → ((n : ℕ) (hs : List OpenCommand) (e : Effect) → t ≡ Std n → heard_in (not b.tally.failed) b.standard (Std n) m ≡ two hs e
    → c ≡ tabled hs b.event (tallied ws e b.tally) → P)
    → ((n : ℕ) (hs : List OpenCommand) (e : Effect) → t ≡ Event n → tag_is t (Event 0) ≡ false
    → heard_in true b.event (Event n) m ≡ two hs e
    → c ≡ tabled b.standard hs b.tally → P)
    → P
step_cases ws b (Std n) m c P is none standard event = standard_cases ws b c (heard_in (not b.tally.failed) b.standard (Std n) m) P is
    (λ hs e. standard n hs e refl)
step_cases ws b (Event n) m c P is none standard event =
    if_cases {A = Result Table Cause} (tag_is (Event n) (Event 0)) (fine b) (heard_event b (heard_in true b.event (Event n) m)) (fine c) P
    is
    (λ zero_tag same. none zero_tag (same_table _ _ same))
    (λ other later. event_cases b c (heard_in true b.event (Event n) m) P later (λ hs e. event n hs e refl other))

-- and what shows that a reply does it
pub standard_step : (ws : List Wanted) (b : Table) (n : ℕ) (m : Mark) (hs : List OpenCommand) (e : Effect)
    → heard_in (not b.tally.failed) b.standard (Std n) m ≡ two hs e → heard ws b (Std n) m ≡ fine (tabled hs b.event (tallied ws e b.tally))
standard_step ws b n m hs e is = ap (heard_standard ws b) is

-- an expected reply on an event tag changes only the event commands
pub event_step : (ws : List Wanted) (b : Table) (n : ℕ) (m : Mark) (hs : List OpenCommand) (e : Effect) → tag_is (Event n) (Event 0) ≡ false
    → heard_in true b.event (Event n) m ≡ two hs e → heard ws b (Event n) m ≡ fine (tabled b.standard hs b.tally)
event_step ws b n m hs e other is = if_false {A = Result Table Cause} (tag_is (Event n) (Event 0)) (fine b)
    (heard_event b (heard_in true b.event (Event n) m)) other ∙ ap (heard_event b) is

-- ---- lists of replies

-- from this table, these replies lead to that one
abbrev pub Reads : List Wanted → Table → List Reply → Table → Type 0
Reads ws b [] c = b ≡ c
Reads ws b (r ∷ rs) c = (mid : Table) × (heard ws b (tag_of r) (mark_of r) ≡ fine mid) × Reads ws mid rs c

-- replies that are read one after another
pub reads_more : (ws : List Wanted) (rs ss : List Reply) (b c d : Table) → Reads ws b rs c → Reads ws c ss d → Reads ws b (rs ++ ss) d
reads_more ws [] ss b c d first then = subst (λ (x : Table). Reads ws x ss d) (sym first) then
reads_more ws (r ∷ rs) ss b c d first then = (first.0, first.1, reads_more ws rs ss first.0 c d first.2 then)

-- what each reply keeps, a list of them keeps
pub reads_keeps : (ws : List Wanted) (P : Table → Type 0) → ((b : Table) (t : Tag) (m : Mark) (c : Table) → heard ws b t m ≡ fine c → P b
    → P c) → (rs : List Reply) (b c : Table) → Reads ws b rs c → P b → P c
reads_keeps ws P keeps [] b c reads p = subst P reads p
reads_keeps ws P keeps (r ∷ rs) b c reads p = reads_keeps ws P keeps rs reads.0 c reads.2 (keeps b (tag_of r) (mark_of r) reads.0 reads.1 p)

-- ---- with one open command more

-- a table with one standard command more
abbrev pub with_standard : OpenCommand → Table → Table
with_standard x b = tabled (b.standard ++ x ∷ []) b.event b.tally

-- a table with one event command more
abbrev pub with_event : OpenCommand → Table → Table
with_event x b = tabled b.standard (b.event ++ x ∷ []) b.tally

step_with_standard : (ws : List Wanted) (x : OpenCommand) (b : Table) (t : Tag) (m : Mark) (c : Table) → heard ws b t m ≡ fine c
    → heard ws (with_standard x b) t m ≡ fine (with_standard x c)
step_with_standard ws x b t m c is =
    step_cases ws b t m c (heard ws (with_standard x b) t m ≡ fine (with_standard x c)) is
    (λ none same. if_true {A = Result Table Cause} (tag_is t (Event 0)) (fine (with_standard x b)) (heard_on ws (with_standard x b) t m)
    none ∙ ap (λ (y : Table). fine (with_standard x y)) same)
    (λ n hs e tag walk g. rw (tag, g) (standard_step ws (with_standard x b) n m (hs ++ x ∷ []) e
    (heard_more (not b.tally.failed) b.standard x (Std n) m hs e walk)))
    (λ n hs e tag other walk g. rw (tag, g) (event_step ws (with_standard x b) n m hs e (rw tag at other) walk))

step_with_event : (ws : List Wanted) (x : OpenCommand) (b : Table) (t : Tag) (m : Mark) (c : Table) → heard ws b t m ≡ fine c
    → heard ws (with_event x b) t m ≡ fine (with_event x c)
step_with_event ws x b t m c is =
    step_cases ws b t m c (heard ws (with_event x b) t m ≡ fine (with_event x c)) is
    (λ none same. if_true {A = Result Table Cause} (tag_is t (Event 0)) (fine (with_event x b)) (heard_on ws (with_event x b) t m) none
    ∙ ap (λ (y : Table). fine (with_event x y)) same)
    (λ n hs e tag walk g. rw (tag, g) (standard_step ws (with_event x b) n m hs e walk))
    (λ n hs e tag other walk g. rw (tag, g) (event_step ws (with_event x b) n m (hs ++ x ∷ []) e (rw tag at other)
    (heard_more true b.event x (Event n) m hs e walk)))

-- what is read is read next to one standard command more
pub reads_with_standard : (ws : List Wanted) (x : OpenCommand) (rs : List Reply) (b c : Table) → Reads ws b rs c
    → Reads ws (with_standard x b) rs (with_standard x c)
reads_with_standard ws x [] b c reads = ap (with_standard x) reads
reads_with_standard ws x (r ∷ rs) b c reads = (
  with_standard x reads.0,
  step_with_standard ws x b (tag_of r) (mark_of r) reads.0 reads.1,
  reads_with_standard ws x rs reads.0 c reads.2,
)

-- what is read is read next to one event command more
pub reads_with_event : (ws : List Wanted) (x : OpenCommand) (rs : List Reply) (b c : Table) → Reads ws b rs c
    → Reads ws (with_event x b) rs (with_event x c)
reads_with_event ws x [] b c reads = ap (with_event x) reads
reads_with_event ws x (r ∷ rs) b c reads = (
  with_event x reads.0,
  step_with_event ws x b (tag_of r) (mark_of r) reads.0 reads.1,
  reads_with_event ws x rs reads.0 c reads.2,
)

-- ---- if all standard commands have failed: replies count nothing, whatever is to be counted

-- a table with another tally
abbrev pub with_tally : Tally → Table → Table
with_tally y b = tabled b.standard b.event y

-- replies that count nothing, leave each standard command failed, and are expected whatever is counted
pub record OnlyCloses (ws : List Wanted) (b c : Table) (rs : List Reply) : Type 0 where
  pub same : c.tally ≡ b.tally
  pub left : AreFailed c.standard
  pub anyhow : (y : Tally) → Reads ws (with_tally y b) rs (with_tally y c)

pub record StepCloses (ws : List Wanted) (b c : Table) (t : Tag) (m : Mark) : Type 0 where
  pub same : c.tally ≡ b.tally
  pub left : AreFailed c.standard
  pub anyhow : (y : Tally) → heard ws (with_tally y b) t m ≡ fine (with_tally y c)

step_closes : (ws : List Wanted) (b : Table) (t : Tag) (m : Mark) (c : Table) → heard ws b t m ≡ fine c → AreFailed b.standard
    → StepCloses ws b c t m
step_closes ws b t m c is failed =
    step_cases ws b t m c (StepCloses ws b c t m) is
    (λ none same. record {
      same = ap (λ (x : Table). x.tally) (sym same);
      left = subst (λ (x : Table). AreFailed x.standard) same failed;
      anyhow = λ (y : Tally). if_true {A = Result Table Cause} (tag_is t (Event 0)) (fine (with_tally y b))
          (heard_on ws (with_tally y b) t m) none ∙ ap (λ (x : Table). fine (with_tally y x)) same;
    })
    (λ n hs e tag walk g.
    let ends : OnlyEnds b.standard hs (Std n) m e = only_ends (not b.tally.failed) b.standard (Std n) m hs e walk failed in
    let quiet : c ≡ tabled hs b.event b.tally = g ∙ ap (λ (f : Effect). tabled hs b.event (tallied ws f b.tally)) ends.quiet in
    let calm : e ≡ Effect.Quiet = ends.quiet in
    record {
      same = ap (λ (x : Table). x.tally) quiet;
      left = subst (λ (x : Table). AreFailed x.standard) (sym quiet) ends.left;
      anyhow = λ (y : Tally). ap (λ (u : Tag). heard ws (with_tally y b) u m) tag
          ∙ (standard_step ws (with_tally y b) n m hs e (ends.anywhere (not y.failed))
          ∙ (ap (λ (f : Effect). fine (tabled hs b.event (tallied ws f y))) calm ∙ ap (λ (x : Table). fine (with_tally y x)) (sym quiet)));
    })
    (λ n hs e tag other walk g. record {
      same = ap (λ (x : Table). x.tally) g;
      left = subst (λ (x : Table). AreFailed x.standard) (sym g) failed;
      anyhow = λ (y : Tally). ap (λ (u : Tag). heard ws (with_tally y b) u m) tag
          ∙ (event_step ws (with_tally y b) n m hs e (subst (λ (u : Tag). tag_is u (Event 0) ≡ false) tag other) walk
          ∙ ap (λ (x : Table). fine (with_tally y x)) (sym g));
    })

-- if each standard command has failed, replies do nothing else
pub only_closes : (ws : List Wanted) (rs : List Reply) (b c : Table) → Reads ws b rs c → AreFailed b.standard → OnlyCloses ws b c rs
only_closes ws [] b c reads failed = record {
  same = ap (λ (x : Table). x.tally) (sym reads);
  left = subst (λ (x : Table). AreFailed x.standard) reads failed;
  anyhow = λ (y : Tally). ap (with_tally y) reads;
}
only_closes ws (r ∷ rs) b c reads failed =
    let one : StepCloses ws b reads.0 (tag_of r) (mark_of r) = step_closes ws b (tag_of r) (mark_of r) reads.0 reads.1 failed in
    let rest : OnlyCloses ws reads.0 c rs = only_closes ws rs reads.0 c reads.2 one.left in
    record {
      same = rest.same ∙ one.same;
      left = rest.left;
      anyhow = λ (y : Tally). (with_tally y reads.0, one.anyhow y, rest.anyhow y);
    }

-- ---- what only grows, and what only shrinks

-- a list is the prefix of another
abbrev pub IsFront : {A : Type 0} → List A → List A → Type 0
IsFront {A} xs ys = (more : List A) × (xs ++ more ≡ ys)

pub front_refl : {A : Type 0} (xs : List A) → IsFront xs xs
front_refl xs = ([], append-nil xs)

-- the prefix of a front is a front
pub front_trans : {A : Type 0} (xs ys zs : List A) → IsFront xs ys → IsFront ys zs → IsFront xs zs
front_trans {A} xs ys zs h g = (h.0 ++ g.0, sym (append_assoc xs h.0 g.0) ∙ (ap (λ (l : List A). l ++ g.0) h.1 ∙ g.1))

-- a list is the prefix of itself with more
pub front_more : {A : Type 0} (xs ys : List A) → IsFront xs (xs ++ ys)
front_more xs ys = (ys, refl)

-- the acts counted and the features only grow, and what is counted is done in order
pub record Grows (y z : Tally) : Type 0 where
  pub counted : IsFront y.counted z.counted
  pub features : IsFront y.features z.features

pub grows_refl : (y : Tally) → Grows y y
grows_refl y = record { counted = front_refl y.counted; features = front_refl y.features }

pub grows_trans : (x y z : Tally) → Grows x y → Grows y z → Grows x z
grows_trans x y z h g = record {
  counted = front_trans x.counted y.counted z.counted h.counted g.counted;
  features = front_trans x.features y.features z.features h.features g.features;
}

joined_front : (ws : List Wanted) (fs : List Feature) (ps : List Point) (origin : Option Origin) → IsFront fs (joined ws fs ps origin)
joined_front [] fs ps origin = front_refl fs
joined_front (w ∷ ws) [] ps origin = front_more [] _
joined_front (w ∷ ws) (f ∷ fs) ps origin = let rest = joined_front ws fs ps origin in (rest.0, ap (λ (l : List Feature). f ∷ l) rest.1)

measured_grows : (ws : List Wanted) (does : Does) (given : Option Datum) (y : Tally) → Grows y (measured ws does given y)
measured_grows ws (Does.Touches t false) (Some (Datum.Point p)) y =
    record { counted = front_refl y.counted; features = front_refl y.features }
measured_grows ws (Does.Touches t true) (Some (Datum.Point p)) y = record {
  counted = front_refl y.counted;
  features = joined_front ws y.features (y.points ++ p ∷ []) (origin_of y.connection t.frame);
}
measured_grows ws (Does.Touches t false) (Some (Datum.Homed homed)) y = grows_refl y
measured_grows ws (Does.Touches t true) (Some (Datum.Homed homed)) y = grows_refl y
measured_grows ws (Does.Touches t false) None y = grows_refl y
measured_grows ws (Does.Touches t true) None y = grows_refl y
measured_grows ws Does.Nothing given y = grows_refl y
measured_grows ws Does.AsksHomed given y = grows_refl y
measured_grows ws Does.Homes given y = grows_refl y
measured_grows ws (Does.Moves p f) given y = grows_refl y
measured_grows ws (Does.Changes n) given y = grows_refl y
measured_grows ws (Does.Frames f) given y = grows_refl y

counted_grows : (ws : List Wanted) (k : Kind) (given : Option Datum) (todo : List Planned) (y : Tally)
    → Grows y (counted_next ws k given todo y)
counted_grows ws k given [] y = grows_refl y
counted_grows ws k given (p ∷ todo) y =
    let mid : Tally = record y {
      session = y.session || begins_session k;
      todo = passed_over (tells_homed k given) todo;
      unsent = passed_over (tells_homed k given) y.unsent;
      counted = y.counted ++ act_of p.does given;
      completed = suc y.completed;
    } in
    grows_trans y mid (measured ws p.does given mid) (record {
      counted = front_more y.counted (act_of p.does given);
      features = front_refl y.features;
    }) (measured_grows ws p.does given mid)

tallied_grows : (ws : List Wanted) (e : Effect) (y : Tally) → Grows y (tallied ws e y)
tallied_grows ws Effect.Quiet y = grows_refl y
tallied_grows ws Effect.Failure y = record { counted = front_refl y.counted; features = front_refl y.features }
tallied_grows ws (Effect.Count k given) y = counted_grows ws k given y.todo y

step_grows : (ws : List Wanted) (b : Table) (t : Tag) (m : Mark) (c : Table) → heard ws b t m ≡ fine c → Grows b.tally c.tally
step_grows ws b t m c is =
    step_cases ws b t m c (Grows b.tally c.tally) is
    (λ none same. subst (λ (x : Table). Grows b.tally x.tally) same (grows_refl b.tally))
    (λ n hs e tag walk g. subst (λ (x : Table). Grows b.tally x.tally) (sym g) (tallied_grows ws e b.tally))
    (λ n hs e tag other walk g. subst (λ (x : Table). Grows b.tally x.tally) (sym g) (grows_refl b.tally))

-- what is counted and the features only grow while replies are read
pub reads_grows : (ws : List Wanted) (rs : List Reply) (b c : Table) → Reads ws b rs c → Grows b.tally c.tally
reads_grows ws rs b c reads = reads_keeps ws (λ (x : Table). Grows b.tally x.tally)
    (λ x t m y is h. grows_trans b.tally x.tally y.tally h (step_grows ws x t m y is)) rs b c reads (grows_refl b.tally)

-- the number of open standard commands does not grow, and each tag is held once
pub step_counts : (ws : List Wanted) (b : Table) (t : Tag) (m : Mark) (c : Table) → heard ws b t m ≡ fine c
    → count_open c.standard ≤ count_open b.standard
step_counts ws b t m c is =
    step_cases ws b t m c (count_open c.standard ≤ count_open b.standard) is
    (λ none same. subst (λ (x : Table). count_open x.standard ≤ count_open b.standard) same (le_refl _))
    (λ n hs e tag walk g. subst (λ (x : Table). count_open x.standard ≤ count_open b.standard) (sym g)
    (count_keeps (not b.tally.failed) b.standard (Std n) m hs e walk))
    (λ n hs e tag other walk g. subst (λ (x : Table). count_open x.standard ≤ count_open b.standard) (sym g) (le_refl _))

-- replies open no command
pub reads_counts : (ws : List Wanted) (rs : List Reply) (b c : Table) → Reads ws b rs c → count_open c.standard ≤ count_open b.standard
reads_counts ws rs b c reads = reads_keeps ws (λ (x : Table). count_open x.standard ≤ count_open b.standard)
    (λ x t m y is h. le_trans (step_counts ws x t m y is) h) rs b c reads (le_refl _)

-- a reply leaves the tags of open commands different
pub step_distinct : (ws : List Wanted) (b : Table) (t : Tag) (m : Mark) (c : Table) → heard ws b t m ≡ fine c → AreDistinct b.standard
    → AreDistinct c.standard
step_distinct ws b t m c is d =
    step_cases ws b t m c (AreDistinct c.standard) is
    (λ none same. subst (λ (x : Table). AreDistinct x.standard) same d)
    (λ n hs e tag walk g. subst (λ (x : Table). AreDistinct x.standard) (sym g)
    (distinct_keeps (not b.tally.failed) b.standard (Std n) m hs e walk d))
    (λ n hs e tag other walk g. subst (λ (x : Table). AreDistinct x.standard) (sym g) d)

-- so do replies, one after another
pub reads_distinct : (ws : List Wanted) (rs : List Reply) (b c : Table) → Reads ws b rs c → AreDistinct b.standard → AreDistinct c.standard
reads_distinct ws rs b c reads d = reads_keeps ws (λ (x : Table). AreDistinct x.standard) (step_distinct ws) rs b c reads d

pub step_not_held : (ws : List Wanted) (u : Tag) (b : Table) (t : Tag) (m : Mark) (c : Table) → heard ws b t m ≡ fine c
    → is_held u b.standard ≡ false → is_held u c.standard ≡ false
step_not_held ws u b t m c is d =
    step_cases ws b t m c (is_held u c.standard ≡ false) is
    (λ none same. subst (λ (x : Table). is_held u x.standard ≡ false) same d)
    (λ n hs e tag walk g. subst (λ (x : Table). is_held u x.standard ≡ false) (sym g)
    (not_held_keeps u (not b.tally.failed) b.standard (Std n) m hs e walk d))
    (λ n hs e tag other walk g. subst (λ (x : Table). is_held u x.standard ≡ false) (sym g) d)

-- if no event command is held, none will be
pub step_no_event : (ws : List Wanted) (b : Table) (t : Tag) (m : Mark) (c : Table) → heard ws b t m ≡ fine c → b.event ≡ [] → c.event ≡ []
step_no_event ws b t m c is none =
    step_cases ws b t m c (c.event ≡ []) is
    (λ no_tag same. subst (λ (x : Table). x.event ≡ []) same none)
    (λ n hs e tag walk g. subst (λ (x : Table). x.event ≡ []) (sym g) none)
    (λ n hs e tag other walk g. let nowhere : heard_in true [] (Event n) m
    ≡ two hs e = ap (λ (l : List OpenCommand). heard_in true l (Event n) m) (sym none) ∙ walk in absurd (cc))

-- if no event command is held, none is held after replies
pub reads_no_event : (ws : List Wanted) (rs : List Reply) (b c : Table) → Reads ws b rs c → b.event ≡ [] → c.event ≡ []
reads_no_event ws rs b c reads none = reads_keeps ws (λ (x : Table). x.event ≡ []) (step_no_event ws) rs b c reads none
