-- What a line of the server makes of a change that may hold.
use Rattle.witness.proofs.Names.{◌&&◌, ◌==◌, ◌||◌, ◌∙◌, ◌∷◌, ◌≡◌, Answers, ap, at_once_below, Begun, Bool, by_progress, Done, error_at, error_of}
use Rattle.witness.proofs.Names.{false, Fault, fault_since, Heard, if◌then◌else◌, is_doubtful, is_error, is_fault, is_for, is_received, is_rival}
use Rattle.witness.proofs.Names.{Line, List, Mark, mark_in, marks, None, Option, place, Progress, progress_of, progress_with, refl, renewed, rival_of}
use Rattle.witness.proofs.Names.{Signal, Some, Standing, standing_of, sym, Tag, true, ℕ}
use Rattle.witness.specs.Histories.{Sent, with_mark}
use Rattle.witness.specs.Known.{with_mark as marked_standing}
use Rattle.witness.specs.declared.lines.Progress.TheVariants.{Sent as SentOnly}

-- ---- one mark of the line itself

-- a fault, and then a mark, or none, for a change that may hold
abbrev pub fault_on : Bool → Option Standing → Option Standing
fault_on f None = None
fault_on false (Some s) = Some s
fault_on true (Some s) = renewed Fault s

abbrev pub own_mark : Heard → Option Standing → Option Standing
own_mark e None = None
own_mark e (Some s) = marked_standing s s.progress e

own_step : (s : Sent) (e : Heard) (f faulty : Bool) (p : Option Progress)
    → by_progress s (if is_received e then false else f || faulty) (progress_with p e) ≡ own_mark e (fault_on f (by_progress s faulty p))
own_step s e f faulty None = refl
own_step s Heard.Received true faulty (Some SentOnly) = refl
own_step s Heard.Received false faulty (Some SentOnly) = refl
own_step s (Heard.Given d) true faulty (Some SentOnly) = refl
own_step s (Heard.Given d) false faulty (Some SentOnly) = refl
own_step s Heard.Unread true faulty (Some SentOnly) = refl
own_step s Heard.Unread false faulty (Some SentOnly) = refl
own_step s Heard.Complete true faulty (Some SentOnly) = refl
own_step s Heard.Complete false faulty (Some SentOnly) = refl
own_step s Heard.Failed true faulty (Some SentOnly) = refl
own_step s Heard.Failed false faulty (Some SentOnly) = refl
own_step s Heard.Received true true (Some Begun) = refl
own_step s Heard.Received true false (Some Begun) = refl
own_step s Heard.Received false true (Some Begun) = refl
own_step s Heard.Received false false (Some Begun) = refl
own_step s (Heard.Given d) true true (Some Begun) = refl
own_step s (Heard.Given d) true false (Some Begun) = refl
own_step s (Heard.Given d) false true (Some Begun) = refl
own_step s (Heard.Given d) false false (Some Begun) = refl
own_step s Heard.Unread true true (Some Begun) = refl
own_step s Heard.Unread true false (Some Begun) = refl
own_step s Heard.Unread false true (Some Begun) = refl
own_step s Heard.Unread false false (Some Begun) = refl
own_step s Heard.Complete true true (Some Begun) = refl
own_step s Heard.Complete true false (Some Begun) = refl
own_step s Heard.Complete false true (Some Begun) = refl
own_step s Heard.Complete false false (Some Begun) = refl
own_step s Heard.Failed true true (Some Begun) = refl
own_step s Heard.Failed true false (Some Begun) = refl
own_step s Heard.Failed false true (Some Begun) = refl
own_step s Heard.Failed false false (Some Begun) = refl
own_step s Heard.Received true true (Some Done) = refl
own_step s Heard.Received true false (Some Done) = refl
own_step s Heard.Received false true (Some Done) = refl
own_step s Heard.Received false false (Some Done) = refl
own_step s (Heard.Given d) true true (Some Done) = refl
own_step s (Heard.Given d) true false (Some Done) = refl
own_step s (Heard.Given d) false true (Some Done) = refl
own_step s (Heard.Given d) false false (Some Done) = refl
own_step s Heard.Unread true true (Some Done) = refl
own_step s Heard.Unread true false (Some Done) = refl
own_step s Heard.Unread false true (Some Done) = refl
own_step s Heard.Unread false false (Some Done) = refl
own_step s Heard.Complete true true (Some Done) = refl
own_step s Heard.Complete true false (Some Done) = refl
own_step s Heard.Complete false true (Some Done) = refl
own_step s Heard.Complete false false (Some Done) = refl
own_step s Heard.Failed true true (Some Done) = refl
own_step s Heard.Failed true false (Some Done) = refl
own_step s Heard.Failed false true (Some Done) = refl
own_step s Heard.Failed false false (Some Done) = refl

pub same : {A : Type 0} (b : Bool) (x : A) → (if b then x else x) ≡ x
same true x = refl
same false x = refl

-- an error ends a change, whatever else it is
own_error : (s : Sent) (e : Heard) (r faulty : Bool) (p : Option Progress)
    → (if r && is_error e then None else by_progress s faulty (progress_with p e)) ≡ by_progress s faulty (progress_with p e)
own_error s e false faulty p = refl
own_error s Heard.Received true faulty p = refl
own_error s (Heard.Given d) true faulty p = refl
own_error s Heard.Unread true faulty p = refl
own_error s Heard.Complete true faulty p = refl
own_error s Heard.Failed true faulty None = refl
own_error s Heard.Failed true faulty (Some SentOnly) = refl
own_error s Heard.Failed true faulty (Some Begun) = refl
own_error s Heard.Failed true faulty (Some Done) = refl

-- ---- a mark of another line

abbrev pub other_mark : Bool → Option Standing → Option Standing
other_mark r None = None
other_mark r (Some s) = if r then None else Some s

other_step : (s : Sent) (r f faulty : Bool) (p : Option Progress)
    → (if r then None else by_progress s (f || faulty) p) ≡ other_mark r (fault_on f (by_progress s faulty p))
other_step s r f faulty None = same r None
other_step s r true faulty (Some SentOnly) = refl
other_step s r false faulty (Some SentOnly) = refl
other_step s r true true (Some Begun) = same r None
other_step s r true false (Some Begun) = same r None
other_step s r false true (Some Begun) = same r None
other_step s r false false (Some Begun) = refl
other_step s r true true (Some Done) = same r None
other_step s r true false (Some Done) = same r None
other_step s r false true (Some Done) = same r None
other_step s r false false (Some Done) = refl

-- ---- any mark, or none

abbrev pub mark_on : Option (ℕ × Heard) → Option Standing → Option Standing
mark_on m None = None
mark_on None (Some s) = Some s
mark_on (Some (n, e)) (Some s) = renewed (Mark n e) s

abbrev pub rival_hit : Option ℕ → Option (ℕ × Heard) → Bool
rival_hit r None = false
rival_hit r (Some (n, e)) = is_rival n r && is_error e

-- which of the two it is
either_mark : (s : Sent) (n : ℕ) (e : Heard) (f faulty : Bool) (p : Option Progress)
    → mark_on (Some (n, e)) (fault_on f (by_progress s faulty p))
    ≡ (if place s == n then own_mark e (fault_on f (by_progress s faulty p))
    else other_mark (is_rival n (rival_of s.tag s.above) && is_error e) (fault_on f (by_progress s faulty p)))
either_mark s n e f faulty None = sym (same (place s == n) None)
either_mark s n e true faulty (Some SentOnly) = refl
either_mark s n e false faulty (Some SentOnly) = refl
either_mark s n e true true (Some Begun) = sym (same (place s == n) None)
either_mark s n e true false (Some Begun) = sym (same (place s == n) None)
either_mark s n e false true (Some Begun) = sym (same (place s == n) None)
either_mark s n e false false (Some Begun) = refl
either_mark s n e true true (Some Done) = sym (same (place s == n) None)
either_mark s n e true false (Some Done) = sym (same (place s == n) None)
either_mark s n e false true (Some Done) = sym (same (place s == n) None)
either_mark s n e false false (Some Done) = refl

of_one : (s : Sent) (own r : Bool) (e : Heard) (f faulty : Bool) (p : Option Progress)
    → (if r && is_error e then None
    else by_progress s (if own && is_received e then false else f || faulty) (if own then progress_with p e else p))
    ≡ (if own then own_mark e (fault_on f (by_progress s faulty p)) else other_mark (r && is_error e) (fault_on f (by_progress s faulty p)))
of_one s true r e f faulty p = own_error s e r (if is_received e then false else f || faulty) p ∙ own_step s e f faulty p
of_one s false r e f faulty p = other_step s (r && is_error e) f faulty p

abbrev pub with_progress : ℕ → Option (ℕ × Heard) → Option Progress → Option Progress
with_progress n None p = p
with_progress n (Some (m, e)) p = if n == m then progress_with p e else p

of_any : (s : Sent) (m : Option (ℕ × Heard)) (f at_once doubtful faulty : Bool) (p : Option Progress)
    → (if at_once || (doubtful || rival_hit (rival_of s.tag s.above) m) then None
    else by_progress s (if is_for is_received (place s) m then false else f || faulty) (with_progress (place s) m p))
    ≡ mark_on m (fault_on f (if at_once || doubtful then None else by_progress s faulty p))
of_any s m f true doubtful faulty p = refl
of_any s m f false true faulty p = refl
of_any s None f false false faulty p = other_step s false f faulty p ∙ unmarked (fault_on f (by_progress s faulty p)) where
  unmarked : (o : Option Standing) → other_mark false o ≡ mark_on None o
  unmarked None = refl
  unmarked (Some s) = refl
of_any s (Some (n, e)) f false false faulty p =
    of_one s (place s == n) (is_rival n (rival_of s.tag s.above)) e f faulty p ∙ sym (either_mark s n e f faulty p)

-- ---- a line of the server

pub one_error : (r : Option ℕ) (line : List ℕ) (what : Option (Tag × Signal)) (h : List Line)
    → error_of r (Answers line what ∷ h) ≡ (error_of r h || rival_hit r (mark_in what h))
one_error None line what h = no_error (mark_in what h) where
  no_error : (m : Option (ℕ × Heard)) → false ≡ (false || rival_hit None m)
  no_error None = refl
  no_error (Some (n, e)) = refl
one_error (Some k) line what h = ap (λ b. error_at k h || b) (one_hit (mark_in what h)) where
  one_hit : (m : Option (ℕ × Heard)) → is_for is_error k m ≡ rival_hit (Some k) m
  one_hit None = refl
  one_hit (Some (n, e)) = refl

more_progress : (n : ℕ) (m : Option (ℕ × Heard)) (ms : List Heard) → progress_of (with_mark n m ms) ≡ with_progress n m (progress_of ms)
more_progress n None ms = refl
more_progress n (Some (k, e)) ms = if_more (n == k) where
  if_more : (b : Bool) → progress_of (if b then e ∷ ms else ms) ≡ (if b then progress_with (progress_of ms) e else progress_of ms)
  if_more true = refl
  if_more false = refl

-- a change that may hold, after a line of the server
pub standing_more : (s : Sent) (line : List ℕ) (what : Option (Tag × Signal)) (h : List Line)
    → standing_of s (Answers line what ∷ h) ≡ mark_on (mark_in what h) (fault_on (is_fault what h) (standing_of s h))
standing_more s line what h =
    ap (λ d. if at_once_below (place s) h || d then None
    else by_progress s (fault_since (place s) (Answers line what ∷ h)) (progress_of (marks (place s) (Answers line what ∷ h))))
    (one_error (rival_of s.tag s.above) line what h)
    ∙ ap (λ p. if at_once_below (place s) h || (is_doubtful s h || rival_hit (rival_of s.tag s.above) (mark_in what h)) then None
    else by_progress s (fault_since (place s) (Answers line what ∷ h)) p) (more_progress (place s) (mark_in what h) (marks (place s) h))
    ∙ of_any s (mark_in what h) (is_fault what h) (at_once_below (place s) h) (is_doubtful s h) (fault_since (place s) h)
    (progress_of (marks (place s) h))
