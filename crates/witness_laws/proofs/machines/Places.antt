-- Lines of the client by their places.
use Rattle.witness_laws.proofs.Names.{◌&&◌, ◌++◌, ◌<◌, ◌==◌, ◌||◌, ◌∙◌, ◌∷◌, ◌≡◌, [], Answers, ap, arith, at_once_below, Bool, count_sent, eq-eqb}
use Rattle.witness_laws.proofs.Names.{eqb-true, false, first_of, for_line, Heard, if◌then◌else◌, is_at_once, is_end, line_at, List, lt-ltb, mark_in}
use Rattle.witness_laws.proofs.Names.{nat_lt, ne_eqb, None, open_lines, Option, or_right, owner, place, refl, remove, Sends, Sent, SentCommand}
use Rattle.witness_laws.proofs.Names.{Signal, slice_get, Some, suc, Tag, true, without, zero, ℕ}
use Rattle.witness.specs.Asking.{Line}
use Rattle.witness_laws.specs.Machines.{sent_at}

pub not_place : (n m : ℕ) → m < n → (n == m) ≡ false
not_place n m p = ne_eqb n m (λ e. omega (arith, p, e))

pub not_place_above : (n m : ℕ) → n < m → (n == m) ≡ false
not_place_above n m p = ne_eqb n m (λ e. omega (arith, p, e))

pub same_place : (n : ℕ) → (n == n) ≡ true
same_place n = eq-eqb n n refl

-- the place of a line is less than the number of lines that were sent
pub sent_within : (n : ℕ) (w : Option (Tag × SentCommand)) (h : List Line) → sent_at n h ≡ Some w → n < count_sent h
sent_within n w [] e = absurd (cc)
sent_within n w (Sends line what ∷ h) e = go (n == count_sent h) refl e (sent_within n w h)
  where
    go : (b : Bool) → (n == count_sent h) ≡ b → (if b then Some what else sent_at n h) ≡ Some w
        → (sent_at n h ≡ Some w → n < count_sent h) → n < suc (count_sent h)
    go true is f rest = let same : n ≡ count_sent h = eqb-true n (count_sent h) is in omega (arith, same)
    go false is f rest = let below : n < count_sent h = rest f in omega (arith, below)
sent_within n w (Answers line what ∷ h) e = sent_within n w h e

-- it stays at its place
pub sent_stays : (n : ℕ) (w : Option (Tag × SentCommand)) (x : Line) (h : List Line) → sent_at n h ≡ Some w → sent_at n (x ∷ h) ≡ Some w
sent_stays n w (Sends line what) h e =
    ap (λ (b : Bool). if b then Some what else sent_at n h) (not_place_above n (count_sent h) (sent_within n w h e)) ∙ e
sent_stays n w (Answers line what) h e = e

-- ---- a line with a tag, at its place, with what stands above it

pub record IsLine (s : Sent) (h : List Line) : Type 0 where
  pub sent : sent_at (place s) h ≡ Some (Some (s.tag, s.command))
  pub above : (n : ℕ) → n < place s → sent_at n h ≡ sent_at n s.above

pub line_stays : (s : Sent) (x : Line) (h : List Line) → IsLine s h → IsLine s (x ∷ h)
line_stays s (Answers line what) h is = record { sent = IsLine.sent is; above = IsLine.above is }
line_stays s (Sends line what) h is =
    let within : place s < count_sent h = sent_within (place s) (Some (s.tag, s.command)) h (IsLine.sent is) in
    record {
      sent = sent_stays (place s) (Some (s.tag, s.command)) (Sends line what) h (IsLine.sent is);
      above = λ n p. ap (λ (b : Bool). if b then Some what else sent_at n h) (not_place_above n (count_sent h) (omega (arith, p, within)))
          ∙ IsLine.above is n p;
    }

pub line_begins : (line : List ℕ) (tag : Tag) (c : SentCommand) (h : List Line)
    → IsLine (record { above = h; tag = tag; command = c }) (Sends line (Some (tag, c)) ∷ h)
line_begins line tag c h = record {
  sent = ap (λ (b : Bool). if b then Some (Some (tag, c)) else sent_at (count_sent h) h) (same_place (count_sent h));
  above = λ n p. ap (λ (b : Bool). if b then Some (Some (tag, c)) else sent_at n h) (not_place_above n (count_sent h) p);
}

-- what stands above a line above is above it
pub line_through : (s u : Sent) (h : List Line) → IsLine s u.above → IsLine u h → IsLine s h
line_through s u h is iu =
    let within : place s < place u = sent_within (place s) (Some (s.tag, s.command)) u.above (IsLine.sent is) in
    record {
      sent = IsLine.above iu (place s) within ∙ IsLine.sent is;
      above = λ n p. IsLine.above iu n (omega (arith, p, within)) ∙ IsLine.above is n p;
    }

-- ---- open lines

abbrev pub AreLines : List Line → List Sent → Type 0
AreLines h [] = Unit {0}
AreLines h (s ∷ ss) = IsLine s h × AreLines h ss

lines_stay : (x : Line) (h : List Line) (ss : List Sent) → AreLines h ss → AreLines (x ∷ h) ss
lines_stay x h [] are = tt
lines_stay x h (s ∷ ss) (is, are) = (line_stays s x h is, lines_stay x h ss are)

one_line : (h : List Line) (ss : List Sent) (s : Sent) → AreLines h ss → IsLine s h → AreLines h (ss ++ s ∷ [])
one_line h [] s are is = (is, tt)
one_line h (x ∷ ss) s (ix, are) is = (ix, one_line h ss s are is)

without_one : (h : List Line) (ss : List Sent) (k : ℕ) → AreLines h ss → AreLines h (remove ss k)
without_one h [] zero are = tt
without_one h [] (suc k) are = tt
without_one h (s ∷ ss) zero (is, are) = are
without_one h (s ∷ ss) (suc k) (is, are) = (is, without_one h ss k are)

without_some : (h : List Line) (ss : List Sent) (k : Option ℕ) → AreLines h ss → AreLines h (without ss k)
without_some h ss None are = are
without_some h ss (Some k) are = without_one h ss k are

after_end : (h : List Line) (ss : List Sent) (k : Option ℕ) (b : Bool) → AreLines h ss → AreLines h (if b then without ss k else ss)
after_end h ss k true are = without_some h ss k are
after_end h ss k false are = are

pub open_are : (h : List Line) → AreLines h (open_lines h)
open_are [] = tt
open_are (Sends line None ∷ h) = lines_stay (Sends line None) h (open_lines h) (open_are h)
open_are (Sends line (Some (tag, c)) ∷ h) =
    one_line (Sends line (Some (tag, c)) ∷ h) (open_lines h) (record { above = h; tag = tag; command = c })
    (lines_stay (Sends line (Some (tag, c))) h (open_lines h) (open_are h)) (line_begins line tag c h)
open_are (Answers line None ∷ h) = lines_stay (Answers line None) h (open_lines h) (open_are h)
open_are (Answers line (Some (tag, signal)) ∷ h) =
    lines_stay (Answers line (Some (tag, signal))) h (if is_end signal then without (open_lines h) (first_of tag (open_lines h)) else open_lines h)
    (after_end h (open_lines h) (first_of tag (open_lines h)) (is_end signal) (open_are h))

abbrev pub IsSomeLine : List Line → Option Sent → Type 0
IsSomeLine h None = Unit {0}
IsSomeLine h (Some s) = IsLine s h

at_are : (h : List Line) (ss : List Sent) (k : ℕ) → AreLines h ss → IsSomeLine h (slice_get ss k)
at_are h [] k are = tt
at_are h (s ∷ ss) zero (is, are) = is
at_are h (s ∷ ss) (suc k) (is, are) = at_are h ss k are

some_are : (h : List Line) (ss : List Sent) (k : Option ℕ) → AreLines h ss → IsSomeLine h (line_at ss k)
some_are h ss None are = tt
some_are h ss (Some k) are = at_are h ss k are

pub owner_is : (tag : Tag) (h : List Line) → IsSomeLine h (owner tag h)
owner_is tag h = some_are h (open_lines h) (first_of tag (open_lines h)) (open_are h)

-- a mark is for a line that was sent
abbrev pub IsMarked : List Line → Option (ℕ × Heard) → Type 0
IsMarked h None = Unit {0}
IsMarked h (Some (n, e)) = (what : Tag × SentCommand) × (sent_at n h ≡ Some (Some what))

for_line_is : (signal : Signal) (h : List Line) (o : Option Sent) → IsSomeLine h o → IsMarked h (for_line signal o)
for_line_is signal h None is = tt
for_line_is signal h (Some s) is = ((s.tag, s.command), IsLine.sent is)

pub mark_is : (what : Option (Tag × Signal)) (h : List Line) → IsMarked h (mark_in what h)
mark_is None h = tt
mark_is (Some (tag, signal)) h = for_line_is signal h (owner tag h) (owner_is tag h)

-- ---- lines that may be carried out at once

pub below_at_once : (i n : ℕ) (w : Option (Tag × SentCommand)) (h : List Line) → sent_at n h ≡ Some w → is_at_once w ≡ true → i < n
    → at_once_below i h ≡ true
below_at_once i n w [] e once lt = absurd (cc)
below_at_once i n w (Answers line what ∷ h) e once lt = below_at_once i n w h e once lt
below_at_once i n w (Sends line what ∷ h) e once lt = go (n == count_sent h) refl e (λ f. below_at_once i n w h f once lt)
  where
    some_of : Option (Option (Tag × SentCommand)) → Option (Tag × SentCommand)
    some_of None = None
    some_of (Some x) = x

    go : (b : Bool) → (n == count_sent h) ≡ b → (if b then Some what else sent_at n h) ≡ Some w
        → (sent_at n h ≡ Some w → at_once_below i h ≡ true)
        → ((is_at_once what && nat_lt i (count_sent h)) || at_once_below i h) ≡ true
    go true is f rest =
        let same : n ≡ count_sent h = eqb-true n (count_sent h) is in
        let it : what ≡ w = ap some_of f in
        let below : nat_lt i (count_sent h) ≡ true = lt-ltb i (count_sent h) (omega (arith, lt, same)) in
        ap (λ (x : Option (Tag × SentCommand)). (is_at_once x && nat_lt i (count_sent h)) || at_once_below i h) it
        ∙ (ap (λ (b : Bool). (b && nat_lt i (count_sent h)) || at_once_below i h) once
        ∙ ap (λ (b : Bool). b || at_once_below i h) below)
    go false is f rest = or_right (is_at_once what && nat_lt i (count_sent h)) (at_once_below i h) (rest f)
