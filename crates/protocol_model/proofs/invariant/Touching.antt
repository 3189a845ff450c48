-- A counted command and the contacts of the unfinished feature.
use Rattle.protocol_model.proofs.Names.{[], ◌++◌, ◌+◌, ◌∙◌, ◌∷◌, ◌≡◌, act_of, ap, append-nil, append_assoc, contacts, Datum, Does, false, false≢true}
use Rattle.protocol_model.proofs.Names.{Feature, is_empty, IsServed, joined, length-append, List, MadeContact, measured, None, Option, Origin}
use Rattle.protocol_model.proofs.Names.{origin_of, Point, refl, Some, subst, sym, Tally, Touch, true, Wanted, ℕ}
use Rattle.protocol_model.proofs.plan.Marks.{Marked, marks, marks_of, touch_in}
use Rattle.protocol_model.proofs.invariant.Served.{Served, served_push, joined_is, serves_more, HaveTouches, with_made, IsProgress, IsNext}
use Rattle.protocol_model.proofs.invariant.Served.{next_touch}
use Rattle.protocol_model.proofs.invariant.Moves.{done_on}

-- a command is counted with what it asks for: a touch with its point, and the question whether the machine is homed with its answer
abbrev pub HasDatum : Does → Option Datum → Type 0
HasDatum (Does.Touches t last) (Some (Datum.Point p)) = Unit {0}
HasDatum (Does.Touches t last) _ = ⊥
HasDatum Does.AsksHomed (Some (Datum.Homed homed)) = Unit {0}
HasDatum Does.AsksHomed _ = ⊥
HasDatum Does.Nothing given = Unit {0}
HasDatum Does.Homes given = Unit {0}
HasDatum (Does.Moves p f) given = Unit {0}
HasDatum (Does.Changes n) given = Unit {0}
HasDatum (Does.Frames f) given = Unit {0}

-- what is counted changes the points and the features alone
pub record Keeps (y z : Tally) : Type 0 where
  pub failed : z.failed ≡ y.failed
  pub todo : z.todo ≡ y.todo
  pub unsent : z.unsent ≡ y.unsent
  pub counted : z.counted ≡ y.counted

keeps_all : (y : Tally) → Keeps y y
keeps_all y = record { failed = refl; todo = refl; unsent = refl; counted = refl }

-- what is measured of a command, whatever it does, changes neither failures nor the plan nor the counted acts
pub measured_keeps : (ws : List Wanted) (does : Does) (given : Option Datum) (y : Tally) → Keeps y (measured ws does given y)
measured_keeps ws (Does.Touches t false) (Some (Datum.Point p)) y = record { failed = refl; todo = refl; unsent = refl; counted = refl }
measured_keeps ws (Does.Touches t true) (Some (Datum.Point p)) y = record { failed = refl; todo = refl; unsent = refl; counted = refl }
measured_keeps ws (Does.Touches t false) (Some (Datum.Homed homed)) y = keeps_all y
measured_keeps ws (Does.Touches t true) (Some (Datum.Homed homed)) y = keeps_all y
measured_keeps ws (Does.Touches t false) None y = keeps_all y
measured_keeps ws (Does.Touches t true) None y = keeps_all y
measured_keeps ws Does.Nothing given y = keeps_all y
measured_keeps ws Does.AsksHomed given y = keeps_all y
measured_keeps ws Does.Homes given y = keeps_all y
measured_keeps ws (Does.Moves p f) given y = keeps_all y
measured_keeps ws (Does.Changes n) given y = keeps_all y
measured_keeps ws (Does.Frames f) given y = keeps_all y

-- after a counted command: what is left, and the contacts divided again
pub record Goes (ws : List Wanted) (n : ℕ) (y : Tally) (ms : List MadeContact) (does : Does) (given : Option Datum)
    (rest : List Marked) : Type 0
  where
    pub left : List Wanted
    pub touches : rest ≡ marks_of left
    pub progress : IsProgress ws n (measured ws does given y).features (measured ws does given y).points (ms
        ++ contacts (done_on n (act_of does given))) left

made_of : ℕ → Touch → Point → MadeContact
made_of n t p = record { connection = n; target = t.target; dir = t.dir; tool = t.tool; frame = t.frame; point = p }

is_served : (n : ℕ) (t : Touch) (p : Point) → IsServed n t p
    (record { connection = n; target = t.target; dir = t.dir; tool = t.tool; frame = t.frame; point = p })
is_served n t p = record { on = refl; target = refl; dir = refl; tool = refl; frame = refl; point_is = refl }

not_empty : (ts : List Touch) → is_empty ts ≡ false → ts ≡ [] → ⊥
not_empty [] e none = false≢true (sym e)
not_empty (t ∷ ts) e none = cc

empty_is : (ts : List Touch) → is_empty ts ≡ true → ts ≡ []
empty_is [] e = refl
empty_is (t ∷ ts) e = absurd (false≢true e)

-- a touch that is not the last of its feature
touch_goes : (ws : List Wanted) (n : ℕ) (fs : List Feature) (points : List Point) (ms : List MadeContact) (left : List Wanted) (t : Touch)
    (p : Point) (rest : List Marked) → IsProgress ws n fs points ms left → IsNext t false rest left
    → (later : List Wanted) × (rest ≡ marks_of later) × IsProgress ws n fs (points ++ p ∷ []) (ms
    ++ record { connection = n; target = t.target; dir = t.dir; tool = t.tool; frame = t.frame; point = p } ∷ []) later
touch_goes ws n fs points ms left t p rest h next =
    let m : MadeContact = record { connection = n; target = t.target; dir = t.dir; tool = t.tool; frame = t.frame; point = p } in
    let smaller : Wanted = record { label = next.wanted.label; touches = next.ts } in
    let here : with_made h.made left ≡ with_made (h.made ++ t ∷ []) (smaller ∷ next.later) =
    ap (with_made h.made) next.first
    ∙ ap (λ (ts : List Touch). record { label = next.wanted.label; touches = ts } ∷ next.later)
    (ap (λ (ts : List Touch). h.made ++ ts) next.touches ∙ sym (append_assoc h.made (t ∷ []) next.ts)) in
    let some : HaveTouches (next.wanted ∷ next.later) = subst HaveTouches next.first h.some in (
      smaller ∷ next.later,
      next.rest_is,
      record {
        front = h.front;
        made = h.made ++ t ∷ [];
        before = h.before;
        run = h.run ++ m ∷ [];
        whole = h.whole ∙ ap (λ (l : List Wanted). h.front ++ l) here;
        long = h.long;
        parts = ap (λ (l : List MadeContact). l ++ m ∷ []) h.parts ∙ append_assoc h.before h.run (m ∷ []);
        served = h.served;
        serves = serves_more n h.made points h.run t p m h.serves (is_served n t p);
        some = (not_empty next.ts (sym next.ends), some.1);
      },
    )

with_none : (ws : List Wanted) → with_made [] ws ≡ ws
with_none [] = refl
with_none (w ∷ ws) = refl

-- and one that is, whatever its origin
touch_ends : (ws : List Wanted) (n : ℕ) (fs : List Feature) (points : List Point) (ms : List MadeContact) (left : List Wanted) (t : Touch)
    (p : Point) (origin : Option Origin) (rest : List Marked) → IsProgress ws n fs points ms left → IsNext t true rest left
    → (later : List Wanted) × (rest ≡ marks_of later) × IsProgress ws n (joined ws fs (points ++ p ∷ []) origin) [] (ms
    ++ record { connection = n; target = t.target; dir = t.dir; tool = t.tool; frame = t.frame; point = p } ∷ []) later
touch_ends ws n fs points ms left t p origin rest h next =
    let m : MadeContact = record { connection = n; target = t.target; dir = t.dir; tool = t.tool; frame = t.frame; point = p } in
    let none : next.ts ≡ [] = empty_is next.ts (sym next.ends) in
    let whole_one : Wanted = record { label = next.wanted.label; touches = h.made ++ t ∷ [] } in
    let here : with_made h.made left ≡ whole_one ∷ next.later =
    ap (with_made h.made) next.first
    ∙ ap (λ (ts : List Touch). record { label = next.wanted.label; touches = ts } ∷ next.later)
    (ap (λ (ts : List Touch). h.made ++ ts) (next.touches ∙ ap (λ (ts : List Touch). t ∷ ts) none)) in
    let whole : ws ≡ h.front ++ whole_one ∷ next.later = h.whole ∙ ap (λ (l : List Wanted). h.front ++ l) here in
    let run : List MadeContact = h.run ++ m ∷ [] in
    let feature : Feature = record { label = whole_one.label; points = points ++ p ∷ []; origin = origin } in
    let features : joined ws fs (points ++ p ∷ []) origin ≡ fs ++ feature ∷ [] =
    ap (λ (l : List Wanted). joined l fs (points ++ p ∷ []) origin) whole
    ∙ joined_is h.front whole_one next.later fs (points ++ p ∷ []) origin h.long in
    let served : Served ws (fs ++ feature ∷ []) (h.before ++ run) =
    subst (λ (l : List Wanted). Served l (fs ++ feature ∷ []) (h.before ++ run)) (sym whole)
    (served_push h.front whole_one next.later fs feature h.before run n h.long
    (subst (λ (l : List Wanted). Served l fs h.before) whole h.served) refl
    (serves_more n h.made points h.run t p m h.serves (is_served n t p))) in
    let some : HaveTouches (next.wanted ∷ next.later) = subst HaveTouches next.first h.some in (
      next.later,
      next.rest_is ∙ ap (λ (ts : List Touch). marks ts ++ marks_of next.later) none,
      subst (λ (gs : List Feature). IsProgress ws n gs [] (ms ++ m ∷ []) next.later) (sym features)
          (record {
            front = h.front ++ whole_one ∷ [];
            made = [];
            before = h.before ++ run;
            run = [];
            whole = whole ∙ (sym (append_assoc h.front (whole_one ∷ []) next.later)
                ∙ ap (λ (l : List Wanted). (h.front ++ whole_one ∷ []) ++ l) (sym (with_none next.later)));
            long = length-append h.front (whole_one ∷ []) ∙ (ap (λ (k : ℕ). k + 1) h.long ∙ sym (length-append fs (feature ∷ [])));
            parts = ap (λ (l : List MadeContact). l ++ m ∷ []) h.parts ∙ (append_assoc h.before h.run (m ∷ [])
                ∙ sym (append-nil (h.before ++ run)));
            served = served;
            serves = tt;
            some = some.1;
          }),
    )

calm_goes : (ws : List Wanted) (n : ℕ) (y : Tally) (ms : List MadeContact) (left : List Wanted)
    → IsProgress ws n y.features y.points ms left
    → IsProgress ws n y.features y.points (ms ++ []) left
calm_goes ws n y ms left h = subst (λ (l : List MadeContact). IsProgress ws n y.features y.points l left) (sym (append-nil ms)) h

-- a command that does the next touch left, with a point, brings its contact to the progress; one that does none leaves it
pub does_goes : (ws : List Wanted) (n : ℕ) (y : Tally) (ms : List MadeContact) (left : List Wanted) (does : Does) (given : Option Datum)
    (rest : List Marked) → IsProgress ws n y.features y.points ms left → HasDatum does given → touch_in does ++ rest ≡ marks_of left
    → Goes ws n y ms does given rest
does_goes ws n y ms left (Does.Touches t false) (Some (Datum.Point p)) rest h has e =
    let next : IsNext t false rest left = next_touch t false rest left h.some e in
    let goes = touch_goes ws n y.features y.points ms left t p rest h next in
    record { left = goes.0; touches = goes.1; progress = goes.2 }
does_goes ws n y ms left (Does.Touches t true) (Some (Datum.Point p)) rest h has e =
    let next : IsNext t true rest left = next_touch t true rest left h.some e in
    let goes = touch_ends ws n y.features y.points ms left t p (origin_of y.connection t.frame) rest h next in
    record { left = goes.0; touches = goes.1; progress = goes.2 }
does_goes ws n y ms left (Does.Touches t last) (Some (Datum.Homed homed)) rest h has e = absurd has
does_goes ws n y ms left (Does.Touches t last) None rest h has e = absurd has
does_goes ws n y ms left Does.AsksHomed (Some (Datum.Homed homed)) rest h has e = record {
  left = left;
  touches = e;
  progress = calm_goes ws n y ms left h;
}
does_goes ws n y ms left Does.AsksHomed (Some (Datum.Point p)) rest h has e = absurd has
does_goes ws n y ms left Does.AsksHomed None rest h has e = absurd has
does_goes ws n y ms left Does.Nothing given rest h has e = record { left = left; touches = e; progress = calm_goes ws n y ms left h }
does_goes ws n y ms left Does.Homes given rest h has e = record { left = left; touches = e; progress = calm_goes ws n y ms left h }
does_goes ws n y ms left (Does.Moves p f) given rest h has e = record { left = left; touches = e; progress = calm_goes ws n y ms left h }
does_goes ws n y ms left (Does.Changes m) given rest h has e = record { left = left; touches = e; progress = calm_goes ws n y ms left h }
does_goes ws n y ms left (Does.Frames f) given rest h has e = record { left = left; touches = e; progress = calm_goes ws n y ms left h }
