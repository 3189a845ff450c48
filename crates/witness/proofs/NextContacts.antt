-- Two contacts have one number exactly if they are next to one another.
use Rattle.witness.proofs.ToldNames.{[], ◌++◌, ◌+◌, ◌<◌, ◌==◌, ◌∙◌, ◌∷◌, ◌≡◌, Act, and_from, and_parts, ap, append-nil, AreNext, AreRunContacts, arith}
use Rattle.witness.proofs.ToldNames.{Bool, connection_at, contacts, Doubtful, drop, Ends, eq-eqb, eqb-true, false, if◌then◌else◌, is_joined, is_made}
use Rattle.witness.proofs.ToldNames.{known_contacts, length, lies_between, List, list_all, Made, MadeContact, map, None, not, number_of, numbered_from}
use Rattle.witness.proofs.ToldNames.{open_after, Option, parts_of, Passes, refl, Reported, second_for, Some, subst, suc, sym, true, unnumbered, zero}
use Rattle.witness.proofs.ToldNames.{ℕ}
use Rattle.witness.specs.Runs.{Part}

-- the connections of numbered contacts
abbrev numbers : Bool → Option ℕ → List (ℕ × Part) → List MadeContact
numbers s o ls = contacts (numbered_from s o ls)

apart : (s : Bool) → Some (number_of (not s)) ≡ Some (number_of s) → ⊥
apart true e = let n : ◌≡◌ {A = ℕ} 1 2 = cc in omega (arith, n)
apart false e = let n : ◌≡◌ {A = ℕ} 2 1 = cc in omega (arith, n)

-- ---- the contact that follows

-- on a connection a contact follows, and before it lies only what may
pub record Goes (n : ℕ) (ls : List (ℕ × Part)) : Type 0 where
  pub between : List (ℕ × Part)
  pub next : ℕ × Part
  pub after : List (ℕ × Part)
  pub all : ls ≡ between ++ (next ∷ after)
  pub made : is_made next.1 ≡ true
  pub same : next.0 ≡ n
  pub quiet : list_all (lies_between n) between ≡ true

abbrev GoesOn : Option ℕ → List (ℕ × Part) → Type 0
GoesOn None ls = ⊥
GoesOn (Some n) ls = Goes n ls

goes_more : (n : ℕ) (l : ℕ × Part) (ls : List (ℕ × Part)) → lies_between n l ≡ true → Goes n ls → Goes n (l ∷ ls)
goes_more n l ls q g = record {
  between = l ∷ g.between;
  next = g.next;
  after = g.after;
  all = ap (λ (x : List (ℕ × Part)). l ∷ x) g.all;
  made = g.made;
  same = g.same;
  quiet = and_from _ _ q g.quiet;
}

-- the number that a contact gets, if it is joined and if it is not
joined_second : (s : Bool) (o : Option ℕ) (n : ℕ) → is_joined o n ≡ true → second_for s o n ≡ s
joined_second s o n e = ap (λ (b : Bool). if b then s else not s) e

other_second : (s : Bool) (o : Option ℕ) (n : ℕ) → is_joined o n ≡ false → second_for s o n ≡ not s
other_second s o n e = ap (λ (b : Bool). if b then s else not s) e

not_joined : (s : Bool) (o : Option ℕ) (n : ℕ) → is_joined o n ≡ false → Some (number_of (second_for s o n)) ≡ Some (number_of s) → ⊥
not_joined s o n e same = apart s (ap (λ (b : Bool). Some (number_of b)) (sym (other_second s o n e)) ∙ same)

made_goes : (s : Bool) (n m : ℕ) (part : Part) (ls : List (ℕ × Part)) → is_made part ≡ true
    → Some (number_of (second_for s (Some n) m)) ≡ Some (number_of s) → Goes n ((m, part) ∷ ls)
made_goes s n m part ls made e = go (m == n) refl
  where
    go : (b : Bool) → (m == n) ≡ b → Goes n ((m, part) ∷ ls)
    go true t = record {
      between = [];
      next = (m, part);
      after = ls;
      all = refl;
      made = made;
      same = eqb-true m n t;
      quiet = refl;
    }
    go false t = absurd (not_joined s (Some n) m t e)

-- what ends runs on a connection
ended : (n m : ℕ) → (m == n) ≡ true → open_after (Some n) m Ends ≡ None
ended n m t = ap (λ (b : Bool). if b then None else Some n) t

kept : (n m : ℕ) → (m == n) ≡ false → open_after (Some n) m Ends ≡ Some n
kept n m t = ap (λ (b : Bool). if b then None else Some n) t

other_ends : (n m : ℕ) → (m == n) ≡ false → lies_between n (m, Ends) ≡ true
other_ends n m t = ap (λ (b : Bool). not b) t

ends_goes : (s : Bool) (n m : ℕ) (ls : List (ℕ × Part)) → connection_at (numbers s (open_after (Some n) m Ends) ls) 0 ≡ Some (number_of s)
    → (connection_at (numbers s None ls) 0 ≡ Some (number_of s) → ⊥)
    → (connection_at (numbers s (Some n) ls) 0 ≡ Some (number_of s) → Goes n ls) → Goes n ((m, Ends) ∷ ls)
ends_goes s n m ls e none some = go (m == n) refl
  where
    starts : Option ℕ → Type 0
    starts o = connection_at (numbers s o ls) 0 ≡ Some (number_of s)

    go : (b : Bool) → (m == n) ≡ b → Goes n ((m, Ends) ∷ ls)
    go true t = absurd (none (subst starts (ended n m t) e))
    go false t = goes_more n (m, Ends) ls (other_ends n m t) (some (subst starts (kept n m t) e))

to_goes : (s : Bool) (o : Option ℕ) (ls : List (ℕ × Part)) → connection_at (numbers s o ls) 0 ≡ Some (number_of s) → GoesOn o ls
to_goes s None [] e = absurd cc
to_goes s (Some n) [] e = absurd cc
to_goes s None ((m, Made t d k f p) ∷ ls) e = apart s e
to_goes s (Some n) ((m, Made t d k f p) ∷ ls) e = made_goes s n m (Made t d k f p) ls refl e
to_goes s None ((m, Doubtful) ∷ ls) e = to_goes s None ls e
to_goes s (Some n) ((m, Doubtful) ∷ ls) e = absurd (to_goes s None ls e)
to_goes s None ((m, Ends) ∷ ls) e = to_goes s None ls e
to_goes s (Some n) ((m, Ends) ∷ ls) e = ends_goes s n m ls e (λ x. to_goes s None ls x) (λ x. to_goes s (Some n) ls x)
to_goes s None ((m, Passes) ∷ ls) e = to_goes s None ls e
to_goes s (Some n) ((m, Passes) ∷ ls) e = goes_more n (m, Passes) ls refl (to_goes s (Some n) ls e)

not_true : (b : Bool) → not b ≡ true → b ≡ false
not_true true e = absurd cc
not_true false e = refl

from_goes : (s : Bool) (n m : ℕ) (between after : List (ℕ × Part)) (part : Part) → is_made part ≡ true → m ≡ n
    → list_all (lies_between n) between ≡ true
    → connection_at (numbers s (Some n) (between ++ ((m, part) ∷ after))) 0 ≡ Some (number_of s)
from_goes s n m [] after (Made t d k f p) made same quiet =
    ap (λ (b : Bool). Some (number_of b)) (joined_second s (Some n) m (eq-eqb m n same))
from_goes s n m [] after Doubtful made same quiet = absurd cc
from_goes s n m [] after Ends made same quiet = absurd cc
from_goes s n m [] after Passes made same quiet = absurd cc
from_goes s n m ((l, Made t d k f p) ∷ between) after part made same quiet = absurd cc
from_goes s n m ((l, Doubtful) ∷ between) after part made same quiet = absurd cc
from_goes s n m ((l, Ends) ∷ between) after part made same quiet =
    let q = and_parts (not (l == n)) (list_all (lies_between n) between) quiet in
    let still = kept n l (not_true (l == n) q.0) in
    subst (λ (o : Option ℕ). connection_at (numbers s o (between ++ ((m, part) ∷ after))) 0 ≡ Some (number_of s)) (sym still)
    (from_goes s n m between after part made same q.1)
from_goes s n m ((l, Passes) ∷ between) after part made same quiet =
    from_goes s n m between after part made same quiet

goes_from : (s : Bool) (n : ℕ) (ls : List (ℕ × Part)) → Goes n ls → connection_at (numbers s (Some n) ls) 0 ≡ Some (number_of s)
goes_from s n ls g = subst (λ (x : List (ℕ × Part)). connection_at (numbers s (Some n) x) 0 ≡ Some (number_of s)) (sym g.all)
    (from_goes s n g.next.0 g.between g.after g.next.1 g.made g.same g.quiet)

-- ---- two contacts

next_first : (m : ℕ) (part : Part) (ls : List (ℕ × Part)) → is_made part ≡ true → Goes m ls → AreNext ((m, part) ∷ ls) 0
next_first m part ls made g = record {
  before = [];
  one = (m, part);
  between = g.between;
  next = g.next;
  after = g.after;
  all = ap (λ (x : List (ℕ × Part)). (m, part) ∷ x) g.all;
  number = refl;
  one_made = made;
  next_made = g.made;
  same = g.same;
  quiet = g.quiet;
}

next_more : (l : ℕ × Part) (ls : List (ℕ × Part)) (k j : ℕ) (next : AreNext ls k) → length (known_contacts (l ∷ next.before)) ≡ j
    → AreNext (l ∷ ls) j
next_more l ls k j next count = record {
  before = l ∷ next.before;
  one = next.one;
  between = next.between;
  next = next.next;
  after = next.after;
  all = ap (λ (x : List (ℕ × Part)). l ∷ x) next.all;
  number = count;
  one_made = next.one_made;
  next_made = next.next_made;
  same = next.same;
  quiet = next.quiet;
}

less_one : (m n : ℕ) → suc (suc m) < suc n → suc m < n
less_one m n h = omega (arith, h)

pub to_next : (s : Bool) (o : Option ℕ) (ls : List (ℕ × Part)) (k : ℕ) → suc k < length (known_contacts ls)
    → connection_at (numbers s o ls) k ≡ connection_at (numbers s o ls) (suc k) → AreNext ls k
to_next s o [] k h e = absurd (omega (arith, h))
to_next s o ((m, Made t d n f p) ∷ ls) zero h e =
    next_first m (Made t d n f p) ls refl (to_goes (second_for s o m) (Some m) ls (sym e))
to_next s o ((m, Made t d n f p) ∷ ls) (suc k) h e =
    let next = to_next (second_for s o m) (Some m) ls k (less_one k (length (known_contacts ls)) h) e in
    next_more (m, Made t d n f p) ls k (suc k) next (ap suc next.number)
to_next s o ((m, Doubtful) ∷ ls) k h e = let next = to_next s None ls k h e in next_more (m, Doubtful) ls k k next next.number
to_next s o ((m, Ends) ∷ ls) k h e = let next = to_next s (open_after o m Ends) ls k h e in next_more (m, Ends) ls k k next next.number
to_next s o ((m, Passes) ∷ ls) k h e = let next = to_next s o ls k h e in next_more (m, Passes) ls k k next next.number

from_next : (s : Bool) (o : Option ℕ) (before : List (ℕ × Part)) (m : ℕ) (part : Part) (between : List (ℕ × Part)) (next : ℕ × Part)
    (after : List (ℕ × Part)) → is_made part ≡ true → Goes m (between ++ (next ∷ after))
    → connection_at (numbers s o (before ++ ((m, part) ∷ (between ++ (next ∷ after))))) (length (known_contacts before))
    ≡ connection_at (numbers s o (before ++ ((m, part) ∷ (between ++ (next ∷ after))))) (suc (length (known_contacts before)))
from_next s o [] m (Made t d n f p) between next after made g = sym (goes_from (second_for s o m) m (between ++ (next ∷ after)) g)
from_next s o [] m Doubtful between next after made g = absurd cc
from_next s o [] m Ends between next after made g = absurd cc
from_next s o [] m Passes between next after made g = absurd cc
from_next s o ((l, Made t d n f p) ∷ before) m part between next after made g =
    from_next (second_for s o l) (Some l) before m part between next after made g
from_next s o ((l, Doubtful) ∷ before) m part between next after made g = from_next s None before m part between next after made g
from_next s o ((l, Ends) ∷ before) m part between next after made g =
    from_next s (open_after o l Ends) before m part between next after made g
from_next s o ((l, Passes) ∷ before) m part between next after made g = from_next s o before m part between next after made g

pub next_from : (s : Bool) (o : Option ℕ) (ls : List (ℕ × Part)) (k : ℕ) → AreNext ls k
    → connection_at (numbers s o ls) k ≡ connection_at (numbers s o ls) (suc k)
next_from s o ls k next =
    let here : connection_at (numbers s o (next.before ++ (next.one ∷ (next.between ++ (next.next ∷ next.after)))))
    (length (known_contacts next.before))
    ≡ connection_at (numbers s o (next.before ++ (next.one ∷ (next.between ++ (next.next ∷ next.after)))))
    (suc (length (known_contacts next.before))) =
    from_next s o next.before next.one.0 next.one.1 next.between next.next next.after next.one_made (record {
      between = next.between;
      next = next.next;
      after = next.after;
      all = refl;
      made = next.next_made;
      same = next.same;
      quiet = next.quiet;
    }) in
    subst (λ (x : List (ℕ × Part)). connection_at (numbers s o x) k ≡ connection_at (numbers s o x) (suc k)) (sym next.all)
    (subst (λ (j : ℕ). connection_at (numbers s o (next.before ++ (next.one ∷ (next.between ++ (next.next ∷ next.after))))) j
    ≡ connection_at (numbers s o (next.before ++ (next.one ∷ (next.between ++ (next.next ∷ next.after))))) (suc j)) next.number here)

-- ---- the contacts are those that are known

pub alike : (s : Bool) (o : Option ℕ) (ls : List (ℕ × Part)) → map unnumbered (numbers s o ls) ≡ map unnumbered (known_contacts ls)
alike s o [] = refl
alike s o ((m, Made t d n f p) ∷ ls) =
    ap (λ (r : List MadeContact). record { connection = 0; target = t; dir = d; tool = n; frame = f; point = p } ∷ r)
    (alike (second_for s o m) (Some m) ls)
alike s o ((m, Doubtful) ∷ ls) = alike s None ls
alike s o ((m, Ends) ∷ ls) = alike s (open_after o m Ends) ls
alike s o ((m, Passes) ∷ ls) = alike s o ls

-- ---- contacts that are next to one another are on one connection

first_known : (n m : ℕ) (between after : List (ℕ × Part)) (part : Part) → is_made part ≡ true → list_all (lies_between n) between ≡ true
    → connection_at (known_contacts (between ++ ((m, part) ∷ after))) 0 ≡ Some m
first_known n m [] after (Made t d k f p) made quiet = refl
first_known n m [] after Doubtful made quiet = absurd cc
first_known n m [] after Ends made quiet = absurd cc
first_known n m [] after Passes made quiet = absurd cc
first_known n m ((l, Made t d k f p) ∷ between) after part made quiet = absurd cc
first_known n m ((l, Doubtful) ∷ between) after part made quiet = absurd cc
first_known n m ((l, Ends) ∷ between) after part made quiet =
    first_known n m between after part made ((and_parts (not (l == n)) (list_all (lies_between n) between) quiet).1)
first_known n m ((l, Passes) ∷ between) after part made quiet = first_known n m between after part made quiet

known_next : (before : List (ℕ × Part)) (m : ℕ) (part : Part) (between : List (ℕ × Part)) (next : ℕ × Part) (after : List (ℕ × Part))
    → is_made part ≡ true → is_made next.1 ≡ true → next.0 ≡ m → list_all (lies_between m) between ≡ true
    → connection_at (known_contacts (before ++ ((m, part) ∷ (between ++ (next ∷ after))))) (length (known_contacts before))
    ≡ connection_at (known_contacts (before ++ ((m, part) ∷ (between ++ (next ∷ after))))) (suc (length (known_contacts before)))
known_next [] m (Made t d n f p) between next after made made_next same quiet =
    sym (first_known m next.0 between after next.1 made_next quiet ∙ ap (λ (j : ℕ). Some j) same)
known_next [] m Doubtful between next after made made_next same quiet = absurd cc
known_next [] m Ends between next after made made_next same quiet = absurd cc
known_next [] m Passes between next after made made_next same quiet = absurd cc
known_next ((l, Made t d n f p) ∷ before) m part between next after made made_next same quiet =
    known_next before m part between next after made made_next same quiet
known_next ((l, Doubtful) ∷ before) m part between next after made made_next same quiet =
    known_next before m part between next after made made_next same quiet
known_next ((l, Ends) ∷ before) m part between next after made made_next same quiet =
    known_next before m part between next after made made_next same quiet
known_next ((l, Passes) ∷ before) m part between next after made made_next same quiet =
    known_next before m part between next after made made_next same quiet

pub next_known : (ls : List (ℕ × Part)) (k : ℕ) → AreNext ls k → connection_at (known_contacts ls) k ≡ connection_at (known_contacts ls) (suc k)
next_known ls k next =
    subst (λ (x : List (ℕ × Part)). connection_at (known_contacts x) k ≡ connection_at (known_contacts x) (suc k)) (sym next.all)
    (subst (λ (j : ℕ). connection_at (known_contacts (next.before ++ (next.one ∷ (next.between ++ (next.next ∷ next.after))))) j
    ≡ connection_at (known_contacts (next.before ++ (next.one ∷ (next.between ++ (next.next ∷ next.after))))) (suc j)) next.number
    (known_next next.before next.one.0 next.one.1 next.between next.next next.after next.one_made next.next_made next.same next.quiet))

-- ---- the whole ledger

plus_one : (n : ℕ) → n + 1 ≡ suc n
plus_one n = omega arith

pub numbered_all : (entries : List (ℕ × Reported)) (ledger : List (ℕ × Act)) → ledger ≡ numbered_from true None (parts_of entries)
    → AreRunContacts entries ledger
numbered_all entries ledger e = subst (λ (l : List (ℕ × Act)). AreRunContacts entries l) (sym e) (record {
  alike = alike true None (parts_of entries);
  joined = λ k within. (
    (λ same. to_next true None (parts_of entries) k (omega (arith, within)) (same ∙ ap (λ (j : ℕ).
        connection_at (numbers true None (parts_of entries)) j) (plus_one k))),
    (λ next. next_from true None (parts_of entries) k next ∙ ap (λ (j : ℕ). connection_at (numbers true None (parts_of entries)) j)
        (sym (plus_one k))),
  );
})

pub all_read : (entries reported : List (ℕ × Reported)) (ledger : List (ℕ × Act)) (s : Bool) (o : Option ℕ) (i : ℕ) → entries ≡ reported
    → drop i entries ≡ [] → ledger ++ numbered_from s o (parts_of (drop i entries)) ≡ numbered_from true None (parts_of entries)
    → AreRunContacts reported ledger
all_read entries reported ledger s o i same end e =
    let whole : ledger ++ numbered_from s o (parts_of []) ≡ numbered_from true None (parts_of entries) =
    subst (λ (x : List (ℕ × Reported)). ledger ++ numbered_from s o (parts_of x) ≡ numbered_from true None (parts_of entries)) end e in
    subst (λ (x : List (ℕ × Reported)). AreRunContacts x ledger) same (numbered_all entries ledger (sym (append-nil ledger) ∙ whole))
