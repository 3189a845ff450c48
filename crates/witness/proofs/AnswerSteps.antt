-- A witness reads a line of the server: it then keeps and reports what the rules say of the lines that came.
use Rattle.witness.proofs.Names.{[], ◌&&◌, ◌++◌, ◌+◌, ◌||◌, ◌∙◌, ◌∷◌, ◌≡◌, after, all_renewed, all_reported, Answers, ap, append-nil, append_assoc}
use Rattle.witness.proofs.Names.{at_use, Bool, by_answer, by_owner, comes_early, cond, count_sent, Dialogue, drop, drop-map, early, early_at}
use Rattle.witness.proofs.Names.{events_of, false, Fault, fault_of, faulting, first_of, for_line, has_turn, Heard, heard_as, heard_under, hearing}
use Rattle.witness.proofs.Names.{if◌then◌else◌, is_crossed, is_end, is_fault, is_out_of_turn, is_report, Known, known_below, known_for, length, Line}
use Rattle.witness.proofs.Names.{line_at, List, map, map-append, mark_in, marks, may_not_come, nat_lt, None, not, NotInTurn, open_lines, Option}
use Rattle.witness.proofs.Names.{option_map, place, position, refl, remove, Reported, reported_by, seen, Signal, slice_get, slice_get-map, Some}
use Rattle.witness.proofs.Names.{stage_of, subst, suc, sym, Tag, tag_is, take, take-map, true, unless_crossed, unless_report, Use, use_heard}
use Rattle.witness.proofs.Names.{use_renewed, waits, without, witnessed, zero, ℕ}
use Rattle.std.specs.List.{list_any, position_or_len, prefix_len}
use Rattle.witness.proofs.KnownForUses.{known_fault, known_mark, use_fault, use_mark, seen_more, below_more}
use Rattle.witness.specs.Histories.{Sent}

-- ---- lists

pub map_twice : {A B C : Type 0} (f : B → C) (g : A → B) (k : A → C) → ((x : A) → f (g x) ≡ k x) → (xs : List A)
    → map f (map g xs) ≡ map k xs
map_twice f g k e [] = refl
map_twice f g k e (x ∷ xs) = ap (λ y. y ∷ map f (map g xs)) (e x) ∙ ap (λ ys. k x ∷ ys) (map_twice f g k e xs)

map_same : {A : Type 0} (xs : List A) → map (λ x. x) xs ≡ xs
map_same [] = refl
map_same (x ∷ xs) = ap (λ ys. x ∷ ys) (map_same xs)

pub length_map : {A B : Type 0} (f : A → B) (xs : List A) → length (map f xs) ≡ length xs
length_map f [] = refl
length_map f (x ∷ xs) = ap suc (length_map f xs)

prefix_map : {A B : Type 0} (p : B → Bool) (f : A → B) (xs : List A) → prefix_len p (map f xs) ≡ prefix_len (λ x. p (f x)) xs
prefix_map p f [] = refl
prefix_map p f (x ∷ xs) = ap (λ n. cond (p (f x)) (1 + n) 0) (prefix_map p f xs)

place_map : {A B : Type 0} (p : B → Bool) (f : A → B) (xs : List A) → position p (map f xs) ≡ position (λ x. p (f x)) xs
place_map p f xs =
    ap (λ n. cond (nat_lt n (length (map f xs))) (Some n) None) (prefix_map (λ y. not (p y)) f xs)
    ∙ ap (λ n. cond (nat_lt (position_or_len (λ x. p (f x)) xs) n) (Some (position_or_len (λ x. p (f x)) xs)) None) (length_map f xs)

remove_map : {A B : Type 0} (f : A → B) (xs : List A) (n : ℕ) → remove (map f xs) n ≡ map f (remove xs n)
remove_map f xs n =
    ap (λ ys. ys ++ drop (suc n) (map f xs)) (take-map f n xs)
    ∙ ap (λ ys. map f (take n xs) ++ ys) (drop-map f (suc n) xs)
    ∙ sym (map-append f (take n xs) (drop (suc n) xs))

any_map : {A B : Type 0} (p : B → Bool) (f : A → B) (xs : List A) → list_any p (map f xs) ≡ list_any (λ x. p (f x)) xs
any_map p f [] = refl
any_map p f (x ∷ xs) = ap (λ b. p (f x) || b) (any_map p f xs)

IsThere : {A : Type 0} → Option A → Type 0
IsThere None = ⊥
IsThere (Some x) = Unit {0}

remove_none : {A : Type 0} (xs : List A) (n : ℕ) → slice_get xs n ≡ None → remove xs n ≡ xs
unfolding IsThere
remove_none [] zero e = refl
remove_none [] (suc n) e = refl
remove_none {A} (x ∷ xs) zero e = absurd (subst (IsThere {A = A}) e tt)
remove_none (x ∷ xs) (suc n) e = ap (λ ys. x ∷ ys) (remove_none xs n e)

-- ---- the parts of a witness

abbrev parted : Bool → List ℕ → Bool → ℕ → List Use → Known → List Reported → Dialogue
parted ordered events crossed lines uses known reported = record {
  ordered = ordered;
  lines = lines;
  uses = uses;
  events = events;
  crossed = crossed;
  known = known;
  reported = reported;
}

four_parts : (o : Bool) (ev : List ℕ) (cr : Bool) {a b : ℕ} {c d : List Use} {e f : Known} {g h : List Reported}
    → a ≡ b → c ≡ d → e ≡ f → g ≡ h → parted o ev cr a c e g ≡ parted o ev cr b d f h
four_parts o ev cr {a} {b} {c} {d} {e} {f} {g} {h} p q r s =
    ap (λ x. parted o ev cr x c e g) p ∙ ap (λ x. parted o ev cr b x e g) q ∙ ap (λ x. parted o ev cr b d x g) r
    ∙ ap (λ x. parted o ev cr b d f x) s

-- ---- what the witness is after an answer, by the place of its line among the open ones

abbrev mark_to : Signal → List Sent → Option ℕ → Option (ℕ × Heard)
mark_to signal xs at = for_line signal (line_at xs at)

abbrev open_after : Signal → List Sent → Option ℕ → List Sent
open_after signal xs at = if is_end signal then without xs at else xs

-- the reports, with what is known of a line given
abbrev owned : Bool → List Line → (Sent → Known) → Signal → ℕ → Option Sent → List Reported
owned o h k signal at None = []
owned o h k signal at (Some s) = early (comes_early h at s (heard_as s.command signal)) s.tag
    ++ reported_by (unless_crossed (is_crossed o h) (k s)) s.tag s.command (stage_of s.command (marks (place s) h)) (heard_as s.command signal)

abbrev placed : Bool → List Line → (Sent → Known) → List ℕ → Tag → Signal → Option ℕ → List Reported
placed o h k line tag signal None = unless_report line (is_report tag signal (events_of h))
placed o h k line tag signal (Some at) = owned o h k signal at (slice_get (open_lines h) at)

abbrev known_at : List Line → Tag → Signal → Option ℕ → Sent → Known
known_at h tag signal at s = (use_mark (mark_to signal (open_lines h) at) (use_fault (fault_of tag signal h at) (seen h s))).known

abbrev result : Bool → List Line → List ℕ → Tag → Signal → Option ℕ → Dialogue
result o h line tag signal at = parted o (events_of h) (is_crossed o h) (count_sent h)
    (map (λ u. use_mark (mark_to signal (open_lines h) at) (use_fault (fault_of tag signal h at) u)) (map (seen h) (open_after signal (open_lines h) at)))
    (known_mark (mark_to signal (open_lines h) at) (known_fault (fault_of tag signal h at) (known_below h)))
    (all_reported o h ++ placed o h (known_at h tag signal at) line tag signal at)

-- no line has that tag
none_step : (o : Bool) (h : List Line) (line : List ℕ) (b is_last : Bool)
    → (if b then witnessed o h else faulting (witnessed o h) (Reported.Unasked line))
    ≡ parted o (events_of h) (is_crossed o h) (count_sent h)
    (map (λ u. use_mark None (use_fault (not b) u)) (map (seen h) (if is_last then open_lines h else open_lines h)))
    (known_mark None (known_fault (not b) (known_below h))) (all_reported o h ++ unless_report line b)
none_step o h line true true =
    four_parts o (events_of h) (is_crossed o h) refl (sym (map_same (map (seen h) (open_lines h)))) refl (sym (append-nil (all_reported o h)))
none_step o h line true false =
    four_parts o (events_of h) (is_crossed o h) refl (sym (map_same (map (seen h) (open_lines h)))) refl (sym (append-nil (all_reported o h)))
none_step o h line false true = refl
none_step o h line false false = refl

-- a line has it, and its turn has come or has not
heard_twice : (n : ℕ) (e : Heard) (us : List Use)
    → map (use_heard n e) (map (use_renewed (all_renewed Fault)) us) ≡ map (λ u. use_mark (Some (n, e)) (use_fault true u)) us
heard_twice n e us =
    map_twice (use_heard n e) (use_renewed (all_renewed Fault)) (λ u. use_mark (Some (n, e)) (use_fault true u)) (λ u. refl) us

turn_step : (o : Bool) (h : List Line) (at : ℕ) (s : Sent) (e : Heard) (b is_last : Bool)
    → (if b
    then hearing (faulting (witnessed o h) (Reported.Broken NotInTurn s.tag)) at (use_renewed (all_renewed Fault) (seen h s)) e is_last
    else hearing (witnessed o h) at (seen h s) e is_last)
    ≡ parted o (events_of h) (is_crossed o h) (count_sent h)
    (map (λ u. use_mark (Some (place s, e)) (use_fault b u)) (map (seen h) (if is_last then remove (open_lines h) at else open_lines h)))
    (known_mark (Some (place s, e)) (known_fault b (known_below h)))
    (all_reported o h ++ (early b s.tag
    ++ reported_by (unless_crossed (is_crossed o h) (use_mark (Some (place s, e)) (use_fault b (seen h s))).known) s.tag s.command
    (stage_of s.command (marks (place s) h)) e))
turn_step o h at s e true true =
    four_parts o (events_of h) (is_crossed o h) refl
    (ap (λ us. remove us at) (heard_twice (place s) e (map (seen h) (open_lines h)))
    ∙ remove_map (λ u. use_mark (Some (place s, e)) (use_fault true u)) (map (seen h) (open_lines h)) at
    ∙ ap (map (λ u. use_mark (Some (place s, e)) (use_fault true u))) (remove_map (seen h) (open_lines h) at))
    refl (append_assoc (all_reported o h) (Reported.Broken NotInTurn s.tag ∷ []) _)
turn_step o h at s e true false =
    four_parts o (events_of h) (is_crossed o h) refl (heard_twice (place s) e (map (seen h) (open_lines h)))
    refl (append_assoc (all_reported o h) (Reported.Broken NotInTurn s.tag ∷ []) _)
turn_step o h at s e false true =
    four_parts o (events_of h) (is_crossed o h) refl
    (remove_map (use_heard (place s) e) (map (seen h) (open_lines h)) at
    ∙ ap (map (use_heard (place s) e)) (remove_map (seen h) (open_lines h) at))
    refl refl
turn_step o h at s e false false = refl

same_turn : (h : List Line) (at : ℕ) (s : Sent) (e : Heard)
    → is_out_of_turn (map (seen h) (open_lines h)) at (seen h s) e ≡ comes_early h at s e
same_turn h at s e =
    ap (λ w. has_turn s.command && (w && may_not_come (seen h s) e))
    (ap (list_any waits) (take-map (seen h) at (open_lines h)) ∙ any_map waits (seen h) (take at (open_lines h)))

none_left : {A : Type 0} (xs : List A) (at : ℕ) (b : Bool) → slice_get xs at ≡ None → (if b then remove xs at else xs) ≡ xs
none_left xs at true e = remove_none xs at e
none_left xs at false e = refl

slot_step : (o : Bool) (h : List Line) (signal : Signal) (at : ℕ) (slot : Option Sent) → slice_get (open_lines h) at ≡ slot
    → at_use (witnessed o h) at signal (option_map (seen h) slot)
    ≡ parted o (events_of h) (is_crossed o h) (count_sent h)
    (map (λ u. use_mark (for_line signal slot) (use_fault (early_at h at signal slot) u))
    (map (seen h) (if is_end signal then remove (open_lines h) at else open_lines h)))
    (known_mark (for_line signal slot) (known_fault (early_at h at signal slot) (known_below h)))
    (all_reported o h ++ owned o h (λ s. (use_mark (for_line signal slot) (use_fault (early_at h at signal slot) (seen h s))).known) signal at slot)
slot_step o h signal at None e =
    four_parts o (events_of h) (is_crossed o h) refl
    (sym (map_same (map (seen h) (open_lines h)))
    ∙ ap (λ xs. map (λ u. u) (map (seen h) xs)) (sym (none_left (open_lines h) at (is_end signal) e)))
    refl (sym (append-nil (all_reported o h)))
slot_step o h signal at (Some s) e =
    ap (λ b. (if b
    then hearing (faulting (witnessed o h) (Reported.Broken NotInTurn s.tag)) at (use_renewed (all_renewed Fault) (seen h s))
    (heard_as s.command signal) (is_end signal)
    else hearing (witnessed o h) at (seen h s) (heard_as s.command signal) (is_end signal)))
    (same_turn h at s (heard_as s.command signal))
    ∙ turn_step o h at s (heard_as s.command signal) (comes_early h at s (heard_as s.command signal)) (is_end signal)

place_step : (o : Bool) (h : List Line) (line : List ℕ) (tag : Tag) (signal : Signal) (at : Option ℕ)
    → heard_under (witnessed o h) line tag signal at ≡ result o h line tag signal at
place_step o h line tag signal None = none_step o h line (is_report tag signal (events_of h)) (is_end signal)
place_step o h line tag signal (Some at) =
    ap (λ u. at_use (witnessed o h) at signal u) (slice_get-map (seen h) (open_lines h) at)
    ∙ slot_step o h signal at (slice_get (open_lines h) at) refl

-- ---- the reports

same_owned : (o : Bool) (h : List Line) (l : Line) (k : Sent → Known) → ((s : Sent) → k s ≡ known_for s (l ∷ h))
    → (signal : Signal) (at : ℕ) (slot : Option Sent) → owned o h k signal at slot ≡ by_owner o l h signal at slot
same_owned o h l k e signal at None = refl
same_owned o h l k e signal at (Some s) =
    ap (λ x. early (comes_early h at s (heard_as s.command signal)) s.tag
    ++ reported_by (unless_crossed (is_crossed o h) x) s.tag s.command (stage_of s.command (marks (place s) h)) (heard_as s.command signal))
    (e s)

same_placed : (o : Bool) (h : List Line) (line : List ℕ) (tag : Tag) (signal : Signal) (k : Sent → Known)
    → ((s : Sent) → k s ≡ known_for s (Answers line (Some (tag, signal)) ∷ h))
    → (at : Option ℕ) → placed o h k line tag signal at ≡ by_answer o line tag signal h at
same_placed o h line tag signal k e None = refl
same_placed o h line tag signal k e (Some at) =
    same_owned o h (Answers line (Some (tag, signal))) k e signal at (slice_get (open_lines h) at)

-- ---- a line of the server

uses_more : (line : List ℕ) (what : Option (Tag × Signal)) (h : List Line) (xs : List Sent)
    → map (λ u. use_mark (mark_in what h) (use_fault (is_fault what h) u)) (map (seen h) xs) ≡ map (seen (Answers line what ∷ h)) xs
uses_more line what h xs =
    map_twice (λ u. use_mark (mark_in what h) (use_fault (is_fault what h) u)) (seen h) (seen (Answers line what ∷ h))
    (λ s. sym (seen_more s line what h)) xs

answer_step : (o : Bool) (h : List Line) (line : List ℕ) (tag : Tag) (signal : Signal)
    → result o h line tag signal (first_of tag (open_lines h)) ≡ witnessed o (Answers line (Some (tag, signal)) ∷ h)
answer_step o h line tag signal =
    four_parts o (events_of h) (is_crossed o h) refl
    (uses_more line (Some (tag, signal)) h (open_after signal (open_lines h) (first_of tag (open_lines h))))
    (sym (below_more line (Some (tag, signal)) h))
    (ap (λ rs. all_reported o h ++ rs) (same_placed o h line tag signal (known_at h tag signal (first_of tag (open_lines h)))
    (λ s. sym (ap (λ (u : Use). u.known) (seen_more s line (Some (tag, signal)) h))) (first_of tag (open_lines h))))

-- a witness that reads one more line of the server
pub answers_more : (o : Bool) (h : List Line) (line : List ℕ) (what : Option (Tag × Signal))
    → after (witnessed o h) (Answers line what) ≡ witnessed o (Answers line what ∷ h)
answers_more o h line None =
    four_parts o (events_of h) (is_crossed o h) refl (uses_more line None h (open_lines h)) (sym (below_more line None h)) refl
answers_more o h line (Some (tag, signal)) =
    ap (λ at. heard_under (witnessed o h) line tag signal at) (place_map (λ u. tag_is u.tag tag) (seen h) (open_lines h))
    ∙ place_step o h line tag signal (first_of tag (open_lines h))
    ∙ answer_step o h line tag signal
