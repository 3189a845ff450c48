-- Contacts that serve touches, and runs of them at a number.
use Rattle.ledger_audit.proofs.Names.{[], ◌+◌, ◌<◌, ◌∙◌, ◌∷◌, ◌≡◌, ◌≤◌, ◌⊎◌, ap, arith, asked, asked_at, Begins, cases_lt, connection_by, contact_at}
use Rattle.ledger_audit.proofs.Names.{drop, Feature, HasNoneBetween, HasNoRun, IfNone, IfSome, inl, inr, IsFirstRun, IsFirstServed, IsRun, IsServed}
use Rattle.ledger_audit.proofs.Names.{length, length-drop, length-take, List, MadeContact, None, Option, Point, Probed, refl, Serves, shown, shown_by}
use Rattle.ledger_audit.proofs.Names.{Some, subst, suc, sym, take, Touch, Wanted, zero, ℕ}
use Rattle.ledger_audit.proofs.SearchLaws.{begins_none}

-- there are as many contacts that serve as points
serves_long : (n : ℕ) (ts : List Touch) (ps : List Point) (ms : List MadeContact) → Serves n ts ps ms → length ms ≡ length ps
serves_long n [] [] [] h = refl
serves_long n [] [] (m ∷ ms) h = absurd h
serves_long n [] (p ∷ ps) ms h = absurd h
serves_long n (t ∷ ts) [] ms h = absurd h
serves_long n (t ∷ ts) (p ∷ ps) [] h = absurd h
serves_long n (t ∷ ts) (p ∷ ps) (m ∷ ms) h = ap suc (serves_long n ts ps ms h.1)

-- a run that begins within the contacts ends within them
pub run_within : (w : Wanted) (f : Feature) (s : ℕ) (made : List MadeContact) → IsRun w f s made → s ≤ length made
    → s + length f.points ≤ length made
run_within w f s made h le =
    let long : length (take (length f.points) (drop s made)) ≡ length f.points = serves_long h.connection w.touches f.points _ h.serves in
    omega (arith, length-take (length f.points) (drop s made), length-drop s made)

-- a run is the first one, if none begins before it
pub first_by : (w : Wanted) (f : Feature) (least : ℕ) (made : List MadeContact) (s : ℕ)
    → ((other : ℕ) → least ≤ other → other < s → IsRun w f other made → ⊥) → least ≤ s → IsRun w f s made → IsFirstRun w f least made s
first_by w f least made s below from run = record {
  from = from;
  run = run;
  first = λ other le h. at other (cases_lt other s) le h;
}
  where
    at : (other : ℕ) → (other < s) ⊎ (s ≤ other) → least ≤ other → IsRun w f other made → s ≤ other
    at other (inl lt) le h = absurd (below other le lt h)
    at other (inr over) le h = over

-- there are as many touches as points that contacts serve
serves_touches : (n : ℕ) (ts : List Touch) (ps : List Point) (ms : List MadeContact) → Serves n ts ps ms → length ts ≡ length ps
serves_touches n [] [] ms h = refl
serves_touches n [] (p ∷ ps) ms h = absurd h
serves_touches n (t ∷ ts) [] ms h = absurd h
serves_touches n (t ∷ ts) (p ∷ ps) [] h = absurd h
serves_touches n (t ∷ ts) (p ∷ ps) (m ∷ ms) h = ap suc (serves_touches n ts ps ms h.1)

-- a run of a feature has as many points as touches
pub run_touches : (w : Wanted) (f : Feature) (s : ℕ) (made : List MadeContact) → IsRun w f s made → length w.touches ≡ length f.points
run_touches w f s made h = serves_touches h.connection w.touches f.points (take (length f.points) (drop s made)) h.serves

-- a contact serves a touch if it shows what the touch asks for
served_shows : (n : ℕ) (t : Touch) (p : Point) (m : MadeContact) → IsServed n t p m → shown m ≡ asked t p
served_shows n t p m h =
    let target : m.target ≡ t.target = h.target in
    let dir : m.dir ≡ t.dir = h.dir in
    let tool : m.tool ≡ t.tool = h.tool in
    let frame : m.frame ≡ t.frame = h.frame in
    let point : m.point ≡ p = h.point_is in cc

shows_served : (n : ℕ) (t : Touch) (p : Point) (m : MadeContact) → Some m.connection ≡ Some n → Some (shown m) ≡ Some (asked t p)
    → IsServed n t p m
shows_served n t p m on e =
    let same : shown m ≡ asked t p = cc in
    record {
      on = cc;
      target = ap (λ (x : Probed). x.target) same;
      dir = ap (λ (x : Probed). x.dir) same;
      tool = ap (λ (x : Probed). x.tool) same;
      frame = ap (λ (x : Probed). x.frame) same;
      point_is = ap (λ (x : Probed). x.point) same;
    }

-- contacts serve touches if each shows what its touch asks for, and is on the connection
serves_each : (n : ℕ) (ts : List Touch) (ps : List Point) (ms : List MadeContact) → Serves n ts ps ms → (k : ℕ) → k < length ps
    → (shown_by (contact_at ms k) ≡ asked_at ts ps k) × (connection_by (contact_at ms k) ≡ Some n)
serves_each n [] [] ms h k lt = absurd (omega arith)
serves_each n [] (p ∷ ps) ms h k lt = absurd h
serves_each n (t ∷ ts) [] ms h k lt = absurd h
serves_each n (t ∷ ts) (p ∷ ps) [] h k lt = absurd h
serves_each n (t ∷ ts) (p ∷ ps) (m ∷ ms) h zero lt =
    let served : IsServed n t p m = h.0 in (ap Some (served_shows n t p m served), ap Some served.on)
serves_each n (t ∷ ts) (p ∷ ps) (m ∷ ms) h (suc k) lt = serves_each n ts ps ms h.1 k (omega arith)

each_serves : (n : ℕ) (ts : List Touch) (ps : List Point) (ms : List MadeContact) → length ts ≡ length ps → length ms ≡ length ps
    → ((k : ℕ) → k < length ps → shown_by (contact_at ms k) ≡ asked_at ts ps k)
    → ((k : ℕ) → k < length ps → connection_by (contact_at ms k) ≡ Some n) → Serves n ts ps ms
each_serves n [] [] [] long many shows on = tt
each_serves n [] [] (m ∷ ms) long many shows on = absurd (omega arith)
each_serves n [] (p ∷ ps) ms long many shows on = absurd (omega arith)
each_serves n (t ∷ ts) [] ms long many shows on = absurd (omega arith)
each_serves n (t ∷ ts) (p ∷ ps) [] long many shows on = absurd (omega arith)
each_serves n (t ∷ ts) (p ∷ ps) (m ∷ ms) long many shows on = (
  shows_served n t p m (on zero (omega arith)) (shows zero (omega arith)),
  each_serves n ts ps ms (omega arith) (omega arith) (λ k lt. shows (suc k) (omega arith)) (λ k lt. on (suc k) (omega arith)),
)

-- the contacts from a number on, and a count of them
contact_drop : (made : List MadeContact) (s k : ℕ) → contact_at (drop s made) k ≡ contact_at made (s + k)
contact_drop made zero k = let is : k ≡ zero + k = omega arith in ap (λ (j : ℕ). contact_at made j) is
contact_drop [] (suc s) k = refl
contact_drop (m ∷ made) (suc s) k = let is : suc (s + k) ≡ suc s + k = omega arith in
    contact_drop made s k ∙ ap (λ (j : ℕ). contact_at (m ∷ made) j) is

contact_take : (ms : List MadeContact) (n k : ℕ) → k < n → contact_at (take n ms) k ≡ contact_at ms k
contact_take ms zero k lt = absurd (omega arith)
contact_take [] (suc n) k lt = refl
contact_take (m ∷ ms) (suc n) zero lt = refl
contact_take (m ∷ ms) (suc n) (suc k) lt = contact_take ms n k (omega arith)

contact_window : (made : List MadeContact) (s n k : ℕ) → k < n → contact_at (take n (drop s made)) k ≡ contact_at made (s + k)
contact_window made s n k lt = contact_take (drop s made) n k lt ∙ contact_drop made s k

-- a run serves all touches, each by its contact
pub run_begins : (w : Wanted) (f : Feature) (s : ℕ) (made : List MadeContact) → IsRun w f s made → s ≤ length made
    → Begins w.touches f.points made s (length f.points)
run_begins w f s made h le = record { within = run_within w f s made h le; alike = alike; on = λ k lt. on k lt ∙ sym (first (omega arith)) }
  where
    window : (k : ℕ) → k < length f.points → contact_at made (s + k) ≡ contact_at (take (length f.points) (drop s made)) k
    window k lt = sym (contact_window made s (length f.points) k lt)

    alike : (k : ℕ) → k < length f.points → shown_by (contact_at made (s + k)) ≡ asked_at w.touches f.points k
    alike k lt = ap shown_by (window k lt)
        ∙ (serves_each h.connection w.touches f.points (take (length f.points) (drop s made)) h.serves k lt).0

    on : (k : ℕ) → k < length f.points → connection_by (contact_at made (s + k)) ≡ Some h.connection
    on k lt = ap connection_by (window k lt)
        ∙ (serves_each h.connection w.touches f.points (take (length f.points) (drop s made)) h.serves k lt).1

    first : 0 < length f.points → connection_by (contact_at made s) ≡ Some h.connection
    first some = let is : s ≡ s + 0 = omega arith in ap (λ (j : ℕ). connection_by (contact_at made j)) is ∙ on 0 some

-- the number of a connection, or 0 without one
abbrev value_of : Option ℕ → ℕ
value_of None = 0
value_of (Some n) = n

connected : (made : List MadeContact) (i : ℕ) → i < length made
    → connection_by (contact_at made i) ≡ Some (value_of (connection_by (contact_at made i)))
connected [] i lt = absurd (omega arith)
connected (m ∷ made) zero lt = refl
connected (m ∷ made) (suc i) lt = connected made i (omega arith)

-- contacts that serve all touches are a run
pub begins_run : (w : Wanted) (f : Feature) (s : ℕ) (made : List MadeContact) → f.label ≡ w.label → length w.touches ≡ length f.points
    → Begins w.touches f.points made s (length f.points) → IsRun w f s made
begins_run w f s made label long h = record {
  label = label;
  connection = value_of (connection_by (contact_at made s));
  serves = each_serves (value_of (connection_by (contact_at made s))) w.touches f.points (take (length f.points) (drop s made)) long
      (omega (arith, length-take (length f.points) (drop s made), length-drop s made, h.within)) alike on;
}
  where
    alike : (k : ℕ) → k < length f.points
        → shown_by (contact_at (take (length f.points) (drop s made)) k) ≡ asked_at w.touches f.points k
    alike k lt = ap shown_by (contact_window made s (length f.points) k lt) ∙ h.alike k lt

    on : (k : ℕ) → k < length f.points
        → connection_by (contact_at (take (length f.points) (drop s made)) k) ≡ Some (value_of (connection_by (contact_at made s)))
    on k lt = ap connection_by (contact_window made s (length f.points) k lt) ∙ h.on k lt ∙ connected made s (omega (arith, h.within))

-- the first contacts that serve all touches are the first run
pub first_served_run : (w : Wanted) (f : Feature) (least s : ℕ) (made : List MadeContact) → f.label ≡ w.label
    → length w.touches ≡ length f.points → IsFirstServed w.touches f.points made least s → IsFirstRun w f least made s
first_served_run w f least s made label long h =
    first_by w f least made s
    (λ other le lt run. h.before.none other le lt (run_begins w f other made run (omega (arith, h.all.within))))
    h.from (begins_run w f s made label long h.all)

-- if no contacts serve all touches, there is no run
pub none_served_run : (w : Wanted) (f : Feature) (least : ℕ) (made : List MadeContact) → least ≤ length made
    → HasNoneBetween w.touches f.points made least (length made + 1) → HasNoRun w f least made
none_served_run w f least made le h start from run = at (cases_lt start (length made + 1))
  where
    at : (start < length made + 1) ⊎ (length made + 1 ≤ start) → ⊥
    at (inl lt) = h.none start from lt (run_begins w f start made run (omega arith))
    at (inr over) =
        let long : length (take (length f.points) (drop start made)) ≡ length f.points =
        serves_long run.connection w.touches f.points (take (length f.points) (drop start made)) run.serves in
        let empty : length f.points ≡ 0 = omega (arith, length-take (length f.points) (drop start made), length-drop start made) in
        h.none least (omega arith) (omega arith)
        (subst (λ (n : ℕ). Begins w.touches f.points made least n) (sym empty) (begins_none w.touches f.points made least le))

-- what a search finds is the first run, if the labels are equal; what it does not find is no run
pub found_run : (w : Wanted) (f : Feature) (least : ℕ) (made : List MadeContact) (ts : List Touch) (ps : List Point) (r : Option ℕ)
    → ts ≡ w.touches → ps ≡ f.points → f.label ≡ w.label → length ts ≡ length ps → IfSome r (IsFirstServed ts ps made least)
    → IfSome r (IsFirstRun w f least made)
found_run w f least made ts ps None e d label long h = tt
found_run w f least made ts ps (Some s) e d label long h =
    let same : length w.touches ≡ length f.points = sym (ap length e) ∙ long ∙ ap length d in
    first_served_run w f least s made label same (subst (λ (l : List Touch). IsFirstServed l f.points made least s) e
    (subst (λ (l : List Point). IsFirstServed ts l made least s) d h))

pub none_run : (w : Wanted) (f : Feature) (least : ℕ) (made : List MadeContact) (ts : List Touch) (ps : List Point) (r : Option ℕ)
    → ts ≡ w.touches → ps ≡ f.points → least ≤ length made → IfNone r (HasNoneBetween ts ps made least (length made + 1))
    → IfNone r (HasNoRun w f least made)
none_run w f least made ts ps (Some s) e d le h = tt
none_run w f least made ts ps None e d le h =
    none_served_run w f least made le (subst (λ (l : List Touch). HasNoneBetween l f.points made least (length made + 1)) e
    (subst (λ (l : List Point). HasNoneBetween ts l made least (length made + 1)) d h))
