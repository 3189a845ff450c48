-- What one counted command adds to a record, next to what it changes of the client's features and points.
use Rattle.record_text.proofs.RunNames.{[], ◌++◌, ◌+◌, ◌-◌, ◌∙◌, ◌∷◌, ◌≡◌, ◌≤◌, Act, act_of, AllByRecursion, ap, append-nil, append_assoc, AreAsked}
use Rattle.record_text.proofs.RunNames.{arith, Bool, Completed, completed_feature, Completes, cond, contacts, contacts_more, Counted, counted}
use Rattle.record_text.proofs.RunNames.{counted_after, Datum, drop, drop-append_seam, entries_of, Entry, false, false≢true, Feature, Follow, is_contact}
use Rattle.record_text.proofs.RunNames.{IsAsked, IsConnection, IsNext, IsProgress, IsWrittenAct, joined, joined_is, Kept, last_frame, le-leb, length}
use Rattle.record_text.proofs.RunNames.{length-append, List, lt-leb, MadeContact, Marked, marks_of, measured, nat_le, next_touch, None, numbered}
use Rattle.record_text.proofs.RunNames.{one_point, Option, origin_of, Point, refl, Serves, serves_more, slice_get, Some, subst, suc, sym, Tally}
use Rattle.record_text.proofs.RunNames.{touch_in, true, Wanted, with_completed, with_made, with_told, ℕ}
use Rattle.fixed_um.specs.declared.frames.Frame.{Frame}
use Rattle.dmis_program.specs.declared.features.Touch.{Touch}
use Rattle.protocol_model.specs.Plan.{is_empty}
use Rattle.protocol_model.specs.declared.plans.Does.{Does}
use Rattle.record_text.proofs.RunSounds.{serves_count}
use Rattle.record_text.specs.declared.entries.Entry.TheVariants.{Told}
use Rattle.record_text.proofs.ContactRuns.{contacts_other}

-- the entries of acts follow what is kept, and what they leave has these features; that many points of the next one are counted, by
-- contacts that are not used up
pub record Moves (ws : List Wanted) (n : ℕ) (c : Counted) (kept : Kept) (more : List Act) (fs : List Feature) (ps : List Point) : Type 0
  where
    pub new : Kept
    pub follow : Follow ws kept (entries_of ws n c more) new
    pub features : new.features ≡ fs
    pub told : new.told ≡ kept.told ++ numbered n more
    pub last : new.last ≤ n
    pub held : (counted_after ws n c more).features ≡ length fs
    pub points : (counted_after ws n c more).points ≡ length ps
    pub unused : new.used + length ps ≤ length (contacts new.told)

-- before them
pub record Rests (n : ℕ) (c : Counted) (kept : Kept) (fs : List Feature) (ps : List Point) : Type 0 where
  pub features : kept.features ≡ fs
  pub connection : IsConnection n
  pub last : kept.last ≤ n
  pub held : c.features ≡ length fs
  pub points : c.points ≡ length ps
  pub unused : kept.used + length ps ≤ length (contacts kept.told)

-- no act
pub none_moves : (ws : List Wanted) (n : ℕ) (c : Counted) (kept : Kept) (fs : List Feature) (ps : List Point) → Rests n c kept fs ps
    → Moves ws n c kept [] fs ps
none_moves ws n c kept fs ps h = record {
  new = kept;
  follow = refl;
  features = h.features;
  told = sym (append-nil kept.told);
  last = h.last;
  held = h.held;
  points = h.points;
  unused = h.unused;
}

-- one act, by what it counts for
record MovesBy (ws : List Wanted) (n : ℕ) (kept : Kept) (a : Act) (fs : List Feature) (ps : List Point) (x : Counted × List Entry) : Type 0
  where
    new : Kept
    follow : Follow ws kept (Told n a ∷ (x.1 ++ [])) new
    features : new.features ≡ fs
    told : new.told ≡ kept.told ++ (n, a) ∷ []
    last : new.last ≤ n
    held : x.0.features ≡ length fs
    points : x.0.points ≡ length ps
    unused : new.used + length ps ≤ length (contacts new.told)

one_moves : (ws : List Wanted) (n : ℕ) (c : Counted) (kept : Kept) (a : Act) (fs : List Feature) (ps : List Point)
    (x : Counted × List Entry)
    → counted ws n a c ≡ x → MovesBy ws n kept a fs ps x → Moves ws n c kept (a ∷ []) fs ps
one_moves ws n c kept a fs ps x is m =
    let h : MovesBy ws n kept a fs ps (counted ws n a c) =
    subst (λ (y : Counted × List Entry). MovesBy ws n kept a fs ps y) (sym is) m in
    record {
      new = h.new;
      follow = h.follow;
      features = h.features;
      told = h.told;
      last = h.last;
      held = h.held;
      points = h.points;
      unused = h.unused;
    }

-- an act that is no contact
calm_moves : (ws : List Wanted) (n : ℕ) (c : Counted) (kept : Kept) (a : Act) (fs : List Feature) (ps : List Point) → is_contact a ≡ false
    → IsWrittenAct a → Rests n c kept fs ps → Moves ws n c kept (a ∷ []) fs ps
calm_moves ws n c kept a fs ps calm written h =
    let same : contacts (kept.told ++ (n, a) ∷ []) ≡ contacts kept.told =
    contacts_more kept.told ((n, a) ∷ []) ∙ (ap (λ (l : List MadeContact). contacts kept.told ++ l) (contacts_other n a [] calm)
    ∙ append-nil (contacts kept.told)) in
    one_moves ws n c kept a fs ps (c, [])
    (ap (λ (b : Bool). cond {A = Counted × List Entry} b (one_point n (slice_get ws c.features) c) (c, [])) calm)
    (record {
      new = with_told kept n a;
      follow = (with_told kept n a, ((h.connection, written), h.last, refl), refl);
      features = h.features;
      told = refl;
      last = omega arith;
      held = h.held;
      points = h.points;
      unused = subst (λ (l : List MadeContact). kept.used + length ps ≤ length l) (sym same) h.unused;
    })

-- ---- a contact

-- the wanted feature at a place
at_front : (front : List Wanted) (w : Wanted) (later : List Wanted) → slice_get (front ++ w ∷ later) (length front) ≡ Some w
at_front [] w later = refl
at_front (x ∷ front) w later = at_front front w later

asked_there : (front : List Wanted) (w : Wanted) (later : List Wanted) → AreAsked (front ++ w ∷ later) → IsAsked w
asked_there [] w later h = h.0
asked_there (x ∷ front) w later h = asked_there front w later h.1

last_of : (ts : List Touch) (t : Touch) → last_frame (ts ++ t ∷ []) ≡ t.frame
last_of [] t = refl
last_of (u ∷ []) t = refl
last_of (u ∷ v ∷ ts) t = last_of (v ∷ ts) t

-- the wanted feature that is next: its place, its touches, those made of it, and the contacts that served them
record IsTouched (ws : List Wanted) (n : ℕ) (fs : List Feature) (ps : List Point) (ms : List MadeContact) (t : Touch) (last : Bool) : Type 0
  where
    front : List Wanted
    wanted : Wanted
    later : List Wanted
    made : List Touch
    ts : List Touch
    before : List MadeContact
    run : List MadeContact
    whole : ws ≡ front ++ wanted ∷ later
    long : length front ≡ length fs
    touches : wanted.touches ≡ made ++ t ∷ ts
    count : length made ≡ length ps
    parts : ms ≡ before ++ run
    serves : Serves n made ps run
    ends : last ≡ is_empty ts

touched : (ws : List Wanted) (n : ℕ) (fs : List Feature) (ps : List Point) (ms : List MadeContact) (left : List Wanted) (t : Touch)
    (last : Bool) (rest : List Marked) → IsProgress ws n fs ps ms left → touch_in (Does.Touches t last) ++ rest ≡ marks_of left
    → IsTouched ws n fs ps ms t last
touched ws n fs ps ms left t last rest h e =
    let next : IsNext t last rest left = next_touch t last rest left h.some e in
    record {
      front = h.front;
      wanted = record { label = next.wanted.label; touches = h.made ++ t ∷ next.ts };
      later = next.later;
      made = h.made;
      ts = next.ts;
      before = h.before;
      run = h.run;
      whole = h.whole ∙ ap (λ (l : List Wanted). h.front ++ l) (ap (with_made h.made) next.first
          ∙ ap (λ (us : List Touch). record { label = next.wanted.label; touches = h.made ++ us } ∷ next.later) next.touches);
      long = h.long;
      touches = refl;
      count = sym (serves_count n h.made ps h.run h.serves);
      parts = h.parts;
      serves = h.serves;
      ends = next.ends;
    }

abbrev contact_of : Touch → Point → Act
contact_of t p = Act.Contact t.target t.dir t.tool t.frame p

abbrev made_by : ℕ → Touch → Point → MadeContact
made_by n t p = record { connection = n; target = t.target; dir = t.dir; tool = t.tool; frame = t.frame; point = p }

some_left : (ts : List Touch) → false ≡ is_empty ts → 1 ≤ length ts
some_left [] e = absurd (false≢true e)
some_left (t ∷ ts) e = omega arith

none_left : (ts : List Touch) → true ≡ is_empty ts → ts ≡ []
none_left [] e = refl
none_left (t ∷ ts) e = absurd (false≢true (sym e))

next_is : (ws : List Wanted) (n : ℕ) (fs : List Feature) (ps : List Point) (ms : List MadeContact) (t : Touch) (last : Bool) (k : ℕ)
    → (h : IsTouched ws n fs ps ms t last) → k ≡ length fs → slice_get ws k ≡ Some (IsTouched.wanted h)
next_is ws n fs ps ms t last k h is =
    ap (λ (i : ℕ). slice_get ws i) (is ∙ sym (IsTouched.long h))
    ∙ (ap (λ (l : List Wanted). slice_get l (length (IsTouched.front h))) (IsTouched.whole h)
    ∙ at_front (IsTouched.front h) (IsTouched.wanted h) (IsTouched.later h))

-- what a contact counts for
contact_counts : (n : ℕ) (c : Counted) (found : Option Wanted) (w : Wanted) (b : Bool) → found ≡ Some w
    → nat_le (length w.touches) (c.points + 1) ≡ b
    → one_point n found c ≡ cond {A = Counted × List Entry} b (record { features = c.features + 1; points = 0 }, Completed n w.label ∷ [])
    (record { features = c.features; points = c.points + 1 }, [])
contact_counts n c found w b is few = ap (λ (o : Option Wanted). one_point n o c) is
    ∙ ap (λ (x : Bool). cond {A = Counted × List Entry} x (record { features = c.features + 1; points = 0 }, Completed n w.label ∷ [])
    (record { features = c.features; points = c.points + 1 }, [])) few

-- a contact that is not the last of its feature
contact_moves : (ws : List Wanted) (n : ℕ) (c : Counted) (kept : Kept) (fs : List Feature) (ps : List Point) (t : Touch) (p : Point)
    → Rests n c kept fs ps → IsTouched ws n fs ps (contacts kept.told) t false → IsWrittenAct (contact_of t p)
    → Moves ws n c kept (contact_of t p ∷ []) fs (ps ++ p ∷ [])
contact_moves ws n c kept fs ps t p h g written =
    let w : Wanted = IsTouched.wanted g in
    let made : List Touch = IsTouched.made g in
    let ts : List Touch = IsTouched.ts g in
    let some : 1 ≤ length ts = some_left ts (IsTouched.ends g) in
    let long : length w.touches ≡ length made + suc (length ts) =
    ap (λ (l : List Touch). length l) (IsTouched.touches g) ∙ length-append made (t ∷ ts) in
    let count : length made ≡ length ps = IsTouched.count g in
    let points : c.points ≡ length ps = h.points in
    let more : nat_le (length w.touches) (c.points + 1) ≡ false =
    lt-leb (length w.touches) (c.points + 1) (omega (arith, some, long, count, points)) in
    let grown : length (contacts (kept.told ++ (n, contact_of t p) ∷ [])) ≡ length (contacts kept.told) + 1 =
    ap (λ (l : List MadeContact). length l) (contacts_more kept.told ((n, contact_of t p) ∷ []))
    ∙ length-append (contacts kept.told) (made_by n t p ∷ []) in
    let unused : kept.used + length ps ≤ length (contacts kept.told) = h.unused in
    let one_more : length (ps ++ p ∷ []) ≡ length ps + 1 = length-append ps (p ∷ []) in
    one_moves ws n c kept (contact_of t p) fs (ps ++ p ∷ []) (record { features = c.features; points = c.points + 1 }, [])
    (contact_counts n c (slice_get ws c.features) w false (next_is ws n fs ps (contacts kept.told) t false c.features g h.held) more)
    (record {
      new = with_told kept n (contact_of t p);
      follow = (with_told kept n (contact_of t p), ((h.connection, written), h.last, refl), refl);
      features = h.features;
      told = refl;
      last = omega arith;
      held = h.held;
      points = omega (arith, points, one_more);
      unused = omega (arith, unused, one_more, grown);
    })

-- and one that is
last_moves : (ws : List Wanted) (n : ℕ) (c : Counted) (kept : Kept) (fs : List Feature) (ps : List Point) (t : Touch) (p : Point)
    → AreAsked ws → Rests n c kept fs ps → IsTouched ws n fs ps (contacts kept.told) t true → IsWrittenAct (contact_of t p)
    → Moves ws n c kept (contact_of t p ∷ []) (joined ws fs (ps ++ p ∷ []) (origin_of n t.frame)) []
last_moves ws n c kept fs ps t p asked h g written =
    let w : Wanted = IsTouched.wanted g in
    let made : List Touch = IsTouched.made g in
    let before : List MadeContact = IsTouched.before g in
    let run : List MadeContact = IsTouched.run g ++ made_by n t p ∷ [] in
    let touches : w.touches ≡ made ++ t ∷ [] =
    IsTouched.touches g ∙ ap (λ (l : List Touch). made ++ t ∷ l) (none_left (IsTouched.ts g) (IsTouched.ends g)) in
    let long : length w.touches ≡ length made + 1 = ap (λ (l : List Touch). length l) touches ∙ length-append made (t ∷ []) in
    let count : length made ≡ length ps = IsTouched.count g in
    let points : c.points ≡ length ps = h.points in
    let few : nat_le (length w.touches) (c.points + 1) ≡ true =
    le-leb (length w.touches) (c.points + 1) (omega (arith, long, count, points)) in
    let told : List (ℕ × Act) = kept.told ++ (n, contact_of t p) ∷ [] in
    let all : contacts told ≡ before ++ run =
    contacts_more kept.told ((n, contact_of t p) ∷ [])
    ∙ (ap (λ (l : List MadeContact). l ++ made_by n t p ∷ []) (IsTouched.parts g)
    ∙ append_assoc before (IsTouched.run g) (made_by n t p ∷ [])) in
    let serves : Serves n (made ++ t ∷ []) (ps ++ p ∷ []) run =
    serves_more n made ps (IsTouched.run g) t p (made_by n t p) (IsTouched.serves g)
    (record { on = refl; target = refl; dir = refl; tool = refl; frame = refl; point_is = refl }) in
    let run_long : length run ≡ length w.touches =
    serves_many n (made ++ t ∷ []) (ps ++ p ∷ []) run serves ∙ ap (λ (l : List Touch). length l) (sym touches) in
    let all_long : length (contacts told) ≡ length before + length run =
    ap (λ (l : List MadeContact). length l) all ∙ length-append before run in
    let at : length (contacts told) - length w.touches ≡ length before = omega (arith, all_long, run_long) in
    let ending : drop (length (contacts told) - length w.touches) (contacts told) ≡ run =
    ap (λ (k : ℕ). drop k (contacts told)) at
    ∙ (ap (λ (l : List MadeContact). drop (length before) l) all ∙ drop-append_seam before run) in
    let grown : length (contacts told) ≡ length (contacts kept.told) + 1 =
    ap (λ (l : List MadeContact). length l) (contacts_more kept.told ((n, contact_of t p) ∷ []))
    ∙ length-append (contacts kept.told) (made_by n t p ∷ []) in
    let unused : kept.used + length ps ≤ length (contacts kept.told) = h.unused in
    let next : slice_get ws (length kept.features) ≡ Some w =
    next_is ws n fs ps (contacts kept.told) t true (length kept.features) g (ap (λ (l : List Feature). length l) h.features) in
    let named : IsAsked w = asked_there (IsTouched.front g) w (IsTouched.later g) (subst AreAsked (IsTouched.whole g) asked) in
    let feature : Feature = completed_feature n w (ps ++ p ∷ []) in
    let new : Kept = with_completed (with_told kept n (contact_of t p)) n w (ps ++ p ∷ []) in
    let completes : Completes ws (with_told kept n (contact_of t p)) n w.label new = record {
      wanted = w;
      points = ps ++ p ∷ [];
      next = next;
      label_is = refl;
      same = refl;
      run = record {
        unused = omega (arith, unused, grown, long, count);
        serves = subst (λ (l : List MadeContact). Serves n w.touches (ps ++ p ∷ []) l) (sym ending)
            (subst (λ (l : List Touch). Serves n l (ps ++ p ∷ []) run) (sym touches) serves);
      };
      more = refl;
    } in
    let origin : last_frame w.touches ≡ t.frame = ap last_frame touches ∙ last_of made t in
    let joined_now : kept.features ++ feature ∷ [] ≡ joined ws fs (ps ++ p ∷ []) (origin_of n t.frame) =
    ap (λ (l : List Feature). l ++ feature ∷ []) h.features
    ∙ (ap (λ (f : Frame). fs ++ record { label = w.label; points = ps ++ p ∷ []; origin = origin_of n f } ∷ []) origin
    ∙ (sym (joined_is (IsTouched.front g) w (IsTouched.later g) fs (ps ++ p ∷ []) (origin_of n t.frame) (IsTouched.long g))
    ∙ ap (λ (l : List Wanted). joined l fs (ps ++ p ∷ []) (origin_of n t.frame)) (sym (IsTouched.whole g)))) in
    let one_more : length (joined ws fs (ps ++ p ∷ []) (origin_of n t.frame)) ≡ length fs + 1 =
    ap (λ (l : List Feature). length l) (sym joined_now)
    ∙ (ap (λ (l : List Feature). length (l ++ feature ∷ [])) h.features ∙ length-append fs (feature ∷ [])) in
    let held : c.features ≡ length fs = h.held in
    one_moves ws n c kept (contact_of t p) (joined ws fs (ps ++ p ∷ []) (origin_of n t.frame)) []
    (record { features = c.features + 1; points = 0 }, Completed n w.label ∷ [])
    (contact_counts n c (slice_get ws c.features) w true (next_is ws n fs ps (contacts kept.told) t true c.features g h.held) few)
    (record {
      new = new;
      follow = (
        with_told kept n (contact_of t p),
        ((h.connection, written), h.last, refl),
        (new, ((h.connection, named.label), completes), refl),
      );
      features = joined_now;
      told = refl;
      last = omega arith;
      held = omega (arith, held, one_more);
      points = refl;
      unused = omega arith;
    })
  where
    serves_many : (m : ℕ) (us : List Touch) (qs : List Point) (ms : List MadeContact) → Serves m us qs ms → length ms ≡ length us
    serves_many m [] [] [] s = refl
    serves_many m [] [] (x ∷ ms) s = absurd s
    serves_many m [] (q ∷ qs) ms s = absurd s
    serves_many m (u ∷ us) [] ms s = absurd s
    serves_many m (u ∷ us) (q ∷ qs) [] s = absurd s
    serves_many m (u ∷ us) (q ∷ qs) (x ∷ ms) s = ap (λ (k : ℕ). suc k) (serves_many m us qs ms s.1)

-- ---- a counted command

-- the acts that it means can be written
abbrev pub AreWrittenActs : List Act → Type 0
AreWrittenActs acts = AllByRecursion IsWrittenAct acts

pub measured_moves : (ws : List Wanted) (does : Does) (given : Option Datum) (y : Tally) (c : Counted) (kept : Kept)
    (left : List Wanted) (rest : List Marked) → AreAsked ws → AreWrittenActs (act_of does given)
    → Rests y.connection c kept y.features y.points
    → IsProgress ws y.connection y.features y.points (contacts kept.told) left → touch_in does ++ rest ≡ marks_of left
    → Moves ws y.connection c kept (act_of does given) (measured ws does given y).features (measured ws does given y).points
measured_moves ws (Does.Touches t false) (Some (Datum.Point p)) y c kept left rest asked written h progress e =
    contact_moves ws y.connection c kept y.features y.points t p h
    (touched ws y.connection y.features y.points (contacts kept.told) left t false rest progress e) written.0
measured_moves ws (Does.Touches t true) (Some (Datum.Point p)) y c kept left rest asked written h progress e =
    last_moves ws y.connection c kept y.features y.points t p asked h
    (touched ws y.connection y.features y.points (contacts kept.told) left t true rest progress e) written.0
measured_moves ws (Does.Touches t false) (Some (Datum.Homed homed)) y c kept left rest asked written h progress e =
    none_moves ws y.connection c kept y.features y.points h
measured_moves ws (Does.Touches t true) (Some (Datum.Homed homed)) y c kept left rest asked written h progress e =
    none_moves ws y.connection c kept y.features y.points h
measured_moves ws (Does.Touches t false) None y c kept left rest asked written h progress e =
    none_moves ws y.connection c kept y.features y.points h
measured_moves ws (Does.Touches t true) None y c kept left rest asked written h progress e =
    none_moves ws y.connection c kept y.features y.points h
measured_moves ws Does.Nothing given y c kept left rest asked written h progress e =
    none_moves ws y.connection c kept y.features y.points h
measured_moves ws Does.AsksHomed (Some (Datum.Homed homed)) y c kept left rest asked written h progress e =
    calm_moves ws y.connection c kept (Act.HomedIs homed) y.features y.points refl written.0 h
measured_moves ws Does.AsksHomed (Some (Datum.Point p)) y c kept left rest asked written h progress e =
    none_moves ws y.connection c kept y.features y.points h
measured_moves ws Does.AsksHomed None y c kept left rest asked written h progress e =
    none_moves ws y.connection c kept y.features y.points h
measured_moves ws Does.Homes given y c kept left rest asked written h progress e =
    calm_moves ws y.connection c kept Act.Homed y.features y.points refl written.0 h
measured_moves ws (Does.Moves q f) given y c kept left rest asked written h progress e =
    calm_moves ws y.connection c kept (Act.Moved q f) y.features y.points refl written.0 h
measured_moves ws (Does.Changes m) given y c kept left rest asked written h progress e =
    calm_moves ws y.connection c kept (Act.Changed m) y.features y.points refl written.0 h
measured_moves ws (Does.Frames f) given y c kept left rest asked written h progress e =
    calm_moves ws y.connection c kept (Act.Framed f) y.features y.points refl written.0 h
