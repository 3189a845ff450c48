-- Features that contacts serve, with the contacts left out between them; and the contacts of an unfinished feature.
use Rattle.protocol_model.proofs.Names.{[], ◌++◌, ◌+◌, ◌<◌, ◌∙◌, ◌∷◌, ◌≡◌, ◌≤◌, Act, acts_on, ap, append-nil, append_assoc, AreRuns, AreUpTo, arith}
use Rattle.protocol_model.proofs.Names.{Bool, cond, contacts, drop, eq-eqb, false, Feature, features_of, is_empty, IsRun, IsServed, joined, length}
use Rattle.protocol_model.proofs.Names.{length-append, List, MadeContact, Meaning as Program, ne_eqb, Option, Origin, Point, refl, Serves, Sound}
use Rattle.protocol_model.proofs.Names.{Step, subst, suc, sym, take, Touch, true, Wanted, zero, ℕ}
use Rattle.protocol_model.proofs.plan.Blocks.{AreBlocks, IsPlain}
use Rattle.protocol_model.proofs.table.Basics.{if_true, if_false}
use Rattle.protocol_model.proofs.plan.Marks.{Marked, marks, marks_of}

-- ---- ledgers

-- the contacts in two ledgers together: those in the first, then those in the second
pub contacts_more : (l m : List (ℕ × Act)) → contacts (l ++ m) ≡ contacts l ++ contacts m
contacts_more [] m = refl
contacts_more ((n, Act.Contact target dir tool frame point) ∷ l) m =
    let first : MadeContact = record { connection = n; target = target; dir = dir; tool = tool; frame = frame; point = point } in
    ap (λ (ms : List MadeContact). first ∷ ms) (contacts_more l m)
contacts_more ((n, Act.HomedIs homed) ∷ l) m = contacts_more l m
contacts_more ((n, Act.Homed) ∷ l) m = contacts_more l m
contacts_more ((n, Act.Moved p f) ∷ l) m = contacts_more l m
contacts_more ((n, Act.Changed k) ∷ l) m = contacts_more l m
contacts_more ((n, Act.Framed f) ∷ l) m = contacts_more l m

acts_step : (t : Bool) (b : Act) (l m : List Act) (more : List Act) → l ≡ m ++ more → cond t (b ∷ l) l ≡ cond t (b ∷ m) m ++ more
acts_step true b l m more e = ap (λ (k : List Act). b ∷ k) e
acts_step false b l m more e = e

-- one act more on a connection is the last of those on it
pub acts_same : (n : ℕ) (l : List (ℕ × Act)) (a : Act) → acts_on n (l ++ (n, a) ∷ []) ≡ acts_on n l ++ a ∷ []
acts_same n [] a = if_true {A = List Act} _ (a ∷ []) [] (eq-eqb n n refl)
acts_same n ((m, b) ∷ l) a = acts_step _ b _ _ (a ∷ []) (acts_same n l a)

-- one act more on another connection changes nothing of those on this one
pub acts_other : (n m : ℕ) (l : List (ℕ × Act)) (a : Act) → (m ≡ n → ⊥) → acts_on n (l ++ (m, a) ∷ []) ≡ acts_on n l
acts_other n m [] a apart = if_false {A = List Act} _ (a ∷ []) [] (ne_eqb m n apart)
acts_other n m ((k, b) ∷ l) a apart = acts_step _ b _ _ [] (acts_other n m l a apart ∙ sym (append-nil (acts_on n l))) ∙ append-nil _

-- if no act is above a connection, adding an act that is not above it keeps that true
pub up_to_more : (n : ℕ) (l : List (ℕ × Act)) (m : ℕ) (a : Act) → AreUpTo n l → m ≤ n → AreUpTo n (l ++ (m, a) ∷ [])
up_to_more n [] m a h le = (le, tt)
up_to_more n ((k, b) ∷ l) m a h le = (h.0, up_to_more n l m a h.1 le)

-- if no act is above a connection, none is above a greater one
pub up_to_above : (n m : ℕ) (l : List (ℕ × Act)) → n ≤ m → AreUpTo n l → AreUpTo m l
up_to_above n m [] le h = tt
up_to_above n m ((k, b) ∷ l) le h = (omega (arith, h.0), up_to_above n m l le h.1)

-- so there are no acts on a greater one
pub acts_none : (n m : ℕ) (l : List (ℕ × Act)) → AreUpTo n l → n < m → acts_on m l ≡ []
acts_none n m [] h lt = refl
acts_none n m ((k, b) ∷ l) h lt = if_false {A = List Act} _ (b ∷ acts_on m l) (acts_on m l) (ne_eqb k m (λ (e : k ≡ m). below e))
    ∙ acts_none n m l h.1 lt
  where
    below : k ≡ m → ⊥
    below e = let le : k ≤ n = h.0 in omega arith

-- nor is a contact
abbrev pub AreMadeUpTo : ℕ → List MadeContact → Type 0
AreMadeUpTo n [] = Unit {0}
AreMadeUpTo n (m ∷ ms) = (m.connection ≤ n) × AreMadeUpTo n ms

-- if no act of a ledger is above a connection, none of its contacts is
pub made_up_to : (n : ℕ) (l : List (ℕ × Act)) → AreUpTo n l → AreMadeUpTo n (contacts l)
made_up_to n [] h = tt
made_up_to n ((m, Act.Contact target dir tool frame point) ∷ l) h = (h.0, made_up_to n l h.1)
made_up_to n ((m, Act.HomedIs homed) ∷ l) h = made_up_to n l h.1
made_up_to n ((m, Act.Homed) ∷ l) h = made_up_to n l h.1
made_up_to n ((m, Act.Moved p f) ∷ l) h = made_up_to n l h.1
made_up_to n ((m, Act.Changed k) ∷ l) h = made_up_to n l h.1
made_up_to n ((m, Act.Framed f) ∷ l) h = made_up_to n l h.1

-- if no contact of two lists is above a connection, none of the second is
pub made_behind : (n : ℕ) (xs ys : List MadeContact) → AreMadeUpTo n (xs ++ ys) → AreMadeUpTo n ys
made_behind n [] ys h = h
made_behind n (x ∷ xs) ys h = made_behind n xs ys h.1

-- ---- served features

-- contacts are some that serve no feature, then a run that serves this feature, then the rest
pub record HasRun (wanted : Wanted) (feature : Feature) (made rest : List MadeContact) : Type 0 where
  pub gap : List MadeContact
  pub run : List MadeContact
  pub connection : ℕ
  pub whole : made ≡ gap ++ (run ++ rest)
  pub label : feature.label ≡ wanted.label
  pub serves : Serves connection wanted.touches feature.points run

-- features are the first of the wanted ones, and each is served by a run of contacts, after the run of the one before
abbrev pub Served : List Wanted → List Feature → List MadeContact → Type 0
Served ws [] made = Unit {0}
Served [] (f ∷ fs) made = ⊥
Served (w ∷ ws) (f ∷ fs) made = (rest : List MadeContact) × HasRun w f made rest × Served ws fs rest

run_more : (w : Wanted) (f : Feature) (made rest more : List MadeContact) → HasRun w f made rest → HasRun w f (made ++ more) (rest ++ more)
run_more w f made rest more h = record {
  gap = h.gap;
  run = h.run;
  connection = h.connection;
  whole = ap (λ (l : List MadeContact). l ++ more) h.whole ∙ (append_assoc h.gap (h.run ++ rest) more
      ∙ ap (λ (l : List MadeContact). h.gap ++ l) (append_assoc h.run rest more));
  label = h.label;
  serves = h.serves;
}

-- features that are served are so with more contacts after
pub served_more : (ws : List Wanted) (fs : List Feature) (made more : List MadeContact) → Served ws fs made → Served ws fs (made ++ more)
served_more ws [] made more h = tt
served_more [] (f ∷ fs) made more h = absurd h
served_more (w ∷ ws) (f ∷ fs) made more h = (h.0 ++ more, run_more w f made h.0 more h.1, served_more ws fs h.0 more h.2)

-- where features are served, the first ones of them are
pub served_front : (ws : List Wanted) (fs gs : List Feature) (made : List MadeContact) → Served ws (fs ++ gs) made → Served ws fs made
served_front ws [] gs made h = tt
served_front [] (f ∷ fs) gs made h = absurd h
served_front (w ∷ ws) (f ∷ fs) gs made h = (h.0, h.1, served_front ws fs gs h.0 h.2)

-- so are the first k of them
pub served_take : (k : ℕ) (ws : List Wanted) (fs : List Feature) (made : List MadeContact) → Served ws fs made → Served ws (take k fs) made
served_take zero ws fs made h = tt
served_take (suc k) ws [] made h = tt
served_take (suc k) [] (f ∷ fs) made h = absurd h
served_take (suc k) (w ∷ ws) (f ∷ fs) made h = (h.0, h.1, served_take k ws fs h.0 h.2)

-- one feature more, served by the contacts after
pub served_push : (front : List Wanted) (w : Wanted) (later : List Wanted) (fs : List Feature) (f : Feature) (made run : List MadeContact)
    (n : ℕ)
    → length front ≡ length fs → Served (front ++ w ∷ later) fs made → f.label ≡ w.label → Serves n w.touches f.points run
    → Served (front ++ w ∷ later) (fs ++ f ∷ []) (made ++ run)
served_push [] w later [] f made run n e h label serves = (
  [],
  record {
    gap = made;
    run = run;
    connection = n;
    whole = ap (λ (l : List MadeContact). made ++ l) (sym (append-nil run));
    label = label;
    serves = serves;
  },
  tt,
)
served_push [] w later (g ∷ gs) f made run n e h label serves = absurd (cc)
served_push (v ∷ front) w later [] f made run n e h label serves = absurd (cc)
served_push (v ∷ front) w later (g ∷ gs) f made run n e h label serves =
    (h.0 ++ run, run_more v g made h.0 run h.1, served_push front w later gs f h.0 run n (omega arith) h.2 label serves)

-- the next wanted feature, after as many as are held, joins them last under its own label
pub joined_is : (front : List Wanted) (w : Wanted) (later : List Wanted) (fs : List Feature) (ps : List Point) (origin : Option Origin)
    → length front ≡ length fs
    → joined (front ++ w ∷ later) fs ps origin ≡ fs ++ record { label = w.label; points = ps; origin = origin } ∷ []
joined_is [] w later [] ps origin e = refl
joined_is [] w later (g ∷ gs) ps origin e = absurd (cc)
joined_is (v ∷ front) w later [] ps origin e = absurd (cc)
joined_is (v ∷ front) w later (g ∷ gs) ps origin e = ap (λ (l : List Feature). g ∷ l) (joined_is front w later gs ps origin (omega arith))

-- after contacts that serve touches, a contact that serves one touch more
pub serves_more : (n : ℕ) (ts : List Touch) (ps : List Point) (ms : List MadeContact) (t : Touch) (p : Point) (m : MadeContact)
    → Serves n ts ps ms
    → IsServed n t p m → Serves n (ts ++ t ∷ []) (ps ++ p ∷ []) (ms ++ m ∷ [])
serves_more n [] [] [] t p m h g = (g, tt)
serves_more n [] [] (y ∷ ms) t p m h g = absurd h
serves_more n [] (q ∷ ps) ms t p m h g = absurd h
serves_more n (u ∷ ts) [] ms t p m h g = absurd h
serves_more n (u ∷ ts) (q ∷ ps) [] t p m h g = absurd h
serves_more n (u ∷ ts) (q ∷ ps) (y ∷ ms) t p m h g = (h.0, serves_more n ts ps ms t p m h.1 g)

-- ---- contacts, cut where the unfinished feature began

-- each of these has a touch
abbrev pub HaveTouches : List Wanted → Type 0
HaveTouches [] = Unit {0}
HaveTouches (w ∷ ws) = (w.touches ≡ [] → ⊥) × HaveTouches ws

-- touches that are made, put before those that are left of the first feature
abbrev pub with_made : List Touch → List Wanted → List Wanted
with_made made [] = []
with_made made (w ∷ ws) = record { label = w.label; touches = made ++ w.touches } ∷ ws

-- contacts: those that serve the features held, then those that serve the touches made of the unfinished one; and what is left
pub record IsProgress (ws : List Wanted) (n : ℕ) (fs : List Feature) (points : List Point) (ms : List MadeContact)
    (left : List Wanted) : Type 0
  where
    pub front : List Wanted
    pub made : List Touch
    pub before : List MadeContact
    pub run : List MadeContact
    pub whole : ws ≡ front ++ with_made made left
    pub long : length front ≡ length fs
    pub parts : ms ≡ before ++ run
    pub served : Served ws fs before
    pub serves : Serves n made points run
    pub some : HaveTouches left

-- the features that are held are served by all of these contacts
pub progress_served : (ws : List Wanted) (n : ℕ) (fs : List Feature) (points : List Point) (ms : List MadeContact) (left : List Wanted)
    → IsProgress ws n fs points ms left → Served ws fs ms
progress_served ws n fs points ms left h = subst (λ (l : List MadeContact). Served ws fs l) (sym h.parts)
    (served_more ws fs h.before h.run h.served)

-- a prefix of that many wanted features
served_cut : (ws : List Wanted) (fs : List Feature) (ms : List MadeContact) → Served ws fs ms → (front : List Wanted)
    × (ws ≡ front ++ drop (length fs) ws) × (length front ≡ length fs)
served_cut ws [] ms h = ([], refl, refl)
served_cut [] (f ∷ fs) ms h = absurd h
served_cut (w ∷ ws) (f ∷ fs) ms h = let rest = served_cut ws fs h.0 h.2
    in (w ∷ rest.0, ap (λ (l : List Wanted). w ∷ l) rest.1, ap suc rest.2)

-- those after the first k have
pub have_drop : (k : ℕ) (ws : List Wanted) → HaveTouches ws → HaveTouches (drop k ws)
have_drop zero ws h = h
have_drop (suc k) [] h = tt
have_drop (suc k) (w ∷ ws) h = have_drop k ws h.1

with_none : (ws : List Wanted) → with_made [] ws ≡ ws
with_none [] = refl
with_none (w ∷ ws) = refl

-- at the beginning of a plan nothing is unfinished
pub progress_new : (ws : List Wanted) (n : ℕ) (fs : List Feature) (ms : List MadeContact) → Served ws fs ms → HaveTouches ws
    → IsProgress ws n fs [] ms (drop (length fs) ws)
progress_new ws n fs ms h some =
    let cut = served_cut ws fs ms h in
    record {
      front = cut.0;
      made = [];
      before = ms;
      run = [];
      whole = cut.1 ∙ ap (λ (l : List Wanted). cut.0 ++ l) (sym (with_none (drop (length fs) ws)));
      long = cut.2;
      parts = sym (append-nil ms);
      served = h;
      serves = tt;
      some = have_drop (length fs) ws some;
    }

serves_none : (n : ℕ) (ts : List Touch) (ms : List MadeContact) → Serves n ts [] ms → (ts ≡ []) × (ms ≡ [])
serves_none n [] [] h = (refl, refl)
serves_none n [] (m ∷ ms) h = absurd h
serves_none n (t ∷ ts) ms h = absurd h

-- contacts that are made on a connection are not all below it
serves_up_to : (n b : ℕ) (ts : List Touch) (ps : List Point) (ms : List MadeContact) → Serves n ts ps ms → AreMadeUpTo b ms → b < n
    → ps ≡ []
serves_up_to n b ts [] ms h u lt = refl
serves_up_to n b [] (p ∷ ps) ms h u lt = absurd h
serves_up_to n b (t ∷ ts) (p ∷ ps) [] h u lt = absurd h
serves_up_to n b (t ∷ ts) (p ∷ ps) (m ∷ ms) h u lt = let on : m.connection ≡ n = h.0.on in let le : m.connection ≤ b = u.0
    in absurd (omega arith)

-- if all contacts are on earlier connections, the unfinished feature has no points yet
pub no_points : (ws : List Wanted) (n b : ℕ) (fs : List Feature) (points : List Point) (ms : List MadeContact) (left : List Wanted)
    → IsProgress ws n fs points ms left → AreMadeUpTo b ms → b < n → points ≡ []
no_points ws n b fs points ms left h u lt =
    serves_up_to n b h.made points h.run h.serves (made_behind b h.before h.run
    (subst (λ (l : List MadeContact). AreMadeUpTo b l) h.parts u)) lt

-- a contact that is not of the unfinished feature, if nothing is unfinished
pub progress_other : (ws : List Wanted) (n : ℕ) (fs : List Feature) (points : List Point) (ms more : List MadeContact) (left : List Wanted)
    → IsProgress ws n fs points ms left → points ≡ [] → IsProgress ws n fs points (ms ++ more) left
progress_other ws n fs points ms more left h e =
    let nothing = serves_none n h.made h.run (subst (λ (l : List Point). Serves n h.made l h.run) e h.serves) in
    record {
      front = h.front;
      made = h.made;
      before = h.before ++ more;
      run = h.run;
      whole = h.whole;
      long = h.long;
      parts = ap (λ (l : List MadeContact). l ++ more) h.parts
          ∙ (ap (λ (l : List MadeContact). (h.before ++ l) ++ more) nothing.1
          ∙ (ap (λ (l : List MadeContact). l ++ more) (append-nil h.before)
          ∙ (sym (append-nil (h.before ++ more)) ∙ ap (λ (l : List MadeContact). (h.before ++ more) ++ l) (sym nothing.1))));
      served = served_more ws fs h.before more h.served;
      serves = h.serves;
      some = h.some;
    }

-- the points of the unfinished feature are discarded
pub progress_anew : (ws : List Wanted) (n m : ℕ) (fs : List Feature) (points : List Point) (ms : List MadeContact) (left : List Wanted)
    → HaveTouches ws → IsProgress ws n fs points ms left → IsProgress ws m fs [] ms (drop (length fs) ws)
progress_anew ws n m fs points ms left some h = progress_new ws m fs ms (progress_served ws n fs points ms left h) some

-- ---- a touch that was wanted

-- the next touch, whether it is the last of its feature, and what is left after it
pub record IsNext (t : Touch) (last : Bool) (rest : List Marked) (left : List Wanted) : Type 0 where
  pub wanted : Wanted
  pub ts : List Touch
  pub later : List Wanted
  pub first : left ≡ wanted ∷ later
  pub touches : wanted.touches ≡ t ∷ ts
  pub ends : last ≡ is_empty ts
  pub rest_is : rest ≡ marks ts ++ marks_of later

next_by : (t : Touch) (last : Bool) (rest : List Marked) (w : Wanted) (later : List Wanted) (ts : List Touch) → w.touches ≡ ts
    → (ts ≡ [] → ⊥) → (t, last) ∷ rest ≡ marks ts ++ marks_of later → IsNext t last rest (w ∷ later)
next_by t last rest w later [] e some is = absurd (some refl)
next_by t last rest w later (u ∷ us) e some is =
    let head : ◌≡◌ {A = Marked} (t, last) (u, is_empty us) = cc in
    record {
      wanted = w;
      ts = us;
      later = later;
      first = refl;
      touches = e ∙ ap (λ (x : Touch). x ∷ us) (sym (ap (λ (x : Marked). x.0) head));
      ends = ap (λ (x : Marked). x.1) head;
      rest_is = cc;
    }

-- the first of the marked touches is the next one of what is left, and its mark says whether it ends its feature
pub next_touch : (t : Touch) (last : Bool) (rest : List Marked) (left : List Wanted) → HaveTouches left → (t, last) ∷ rest ≡ marks_of left
    → IsNext t last rest left
next_touch t last rest [] some is = absurd (cc)
next_touch t last rest (w ∷ later) some is = next_by t last rest w later w.touches refl some.0 is

-- ---- programs

-- if the blocks of steps are well made, each of their features has a touch
pub features_have : (inside : Bool) (ss : List Step) → AreBlocks inside ss → HaveTouches (features_of ss)
features_have inside [] h = tt
features_have inside (Step.Goto p ∷ ss) h = features_have inside ss h
features_have inside (Step.Begin l ∷ ss) h = (h.1, features_have true ss h.2)
features_have inside (Step.Touch t ∷ ss) h = features_have inside ss h.1
features_have inside (Step.Tool n ∷ ss) h = features_have inside ss h
features_have inside (Step.Recall p ∷ ss) h = features_have inside ss h
features_have inside (Step.End ∷ ss) h = features_have false ss h.1

-- each feature of a plain program has a touch
pub program_has : (p : Program) → IsPlain p → HaveTouches p.features
program_has p h = subst HaveTouches (sym h.features) (features_have false p.steps h.blocks)

-- ---- the same with start numbers

serves_long : (n : ℕ) (ts : List Touch) (ps : List Point) (ms : List MadeContact) → Serves n ts ps ms → length ms ≡ length ps
serves_long n [] [] [] h = refl
serves_long n [] [] (m ∷ ms) h = absurd h
serves_long n [] (p ∷ ps) ms h = absurd h
serves_long n (t ∷ ts) [] ms h = absurd h
serves_long n (t ∷ ts) (p ∷ ps) [] h = absurd h
serves_long n (t ∷ ts) (p ∷ ps) (m ∷ ms) h = ap suc (serves_long n ts ps ms h.1)

drop_front : (xs ys : List MadeContact) → drop (length xs) (xs ++ ys) ≡ ys
drop_front [] ys = refl
drop_front (x ∷ xs) ys = drop_front xs ys

take_front : (xs ys : List MadeContact) → take (length xs) (xs ++ ys) ≡ xs
take_front [] ys = refl
take_front (x ∷ xs) ys = ap (λ (l : List MadeContact). x ∷ l) (take_front xs ys)

served_starts : (ws : List Wanted) (fs : List Feature) (passed ms : List MadeContact) → Served ws fs ms → (starts : List ℕ)
    × AreRuns ws fs starts (length passed) (passed ++ ms)
served_starts ws [] passed ms h = ([], tt)
served_starts [] (f ∷ fs) passed ms h = absurd h
served_starts (w ∷ ws) (f ∷ fs) passed ms h =
    let r : HasRun w f ms h.0 = h.1 in
    let begin : List MadeContact = passed ++ r.gap in
    let over : List MadeContact = begin ++ r.run in
    let long : length r.run ≡ length f.points = serves_long r.connection w.touches f.points r.run r.serves in
    let all : passed ++ ms ≡ begin ++ (r.run ++ h.0) = ap (λ (l : List MadeContact). passed ++ l) r.whole
    ∙ sym (append_assoc passed r.gap (r.run ++ h.0)) in
    let cut : take (length f.points) (drop (length begin) (passed ++ ms)) ≡ r.run =
    ap (λ (l : List MadeContact). take (length f.points) (drop (length begin) l)) all
    ∙ (ap (λ (l : List MadeContact). take (length f.points) l) (drop_front begin (r.run ++ h.0))
    ∙ (ap (λ (k : ℕ). take k (r.run ++ h.0)) (sym long) ∙ take_front r.run h.0)) in
    let rest = served_starts ws fs over h.0 h.2 in
    let one : IsRun w f (length begin) (passed ++ ms) = record {
      label = r.label;
      connection = r.connection;
      serves = subst (λ (l : List MadeContact). Serves r.connection w.touches f.points l) (sym cut) r.serves;
    } in
    let least : length over ≡ length begin + length f.points = length-append begin r.run ∙ ap (λ (k : ℕ). length begin + k) long in
    let together : over ++ h.0 ≡ passed ++ ms = append_assoc begin r.run h.0 ∙ sym all in (
      length begin ∷ rest.0,
      (
        omega (arith, length-append passed r.gap),
        one,
        subst (λ (k : ℕ). AreRuns ws fs rest.0 k (passed ++ ms)) least
            (subst (λ (l : List MadeContact). AreRuns ws fs rest.0 (length over) l) together rest.1),
      ),
    )

-- features that the contacts of a ledger serve are true of that ledger
pub served_sound : (ws : List Wanted) (fs : List Feature) (l : List (ℕ × Act)) → Served ws fs (contacts l) → Sound ws fs l
served_sound ws fs l h = let all = served_starts ws fs [] (contacts l) h in record { starts = all.0; runs = all.1 }
