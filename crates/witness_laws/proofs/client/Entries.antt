-- Runs of contacts in what was reported, next to runs in a ledger of acts.
use Rattle.witness_laws.proofs.Names.{◌++◌, ◌+◌, ◌<◌, ◌∙◌, ◌∷◌, ◌≡◌, ◌≤◌, [], Act, ap, append_assoc, arith, contacts, done_on, drop, drop-append-add}
use Rattle.witness_laws.proofs.Names.{Feature, IsRun, length, length-append, List, list_all, MadeContact, map, map-append, numbered, Point, refl}
use Rattle.witness_laws.proofs.Names.{Reported, Serves, subst, suc, sym, take, true, zero, ℕ}
use Rattle.dmis_program.specs.declared.features.Touch.{Touch}
use Rattle.dmis_program.specs.declared.features.Wanted.{Wanted}
use Rattle.witness.specs.Runs.{Part, Made, Passes, made_on, entry_part, parts_of, known_contacts, is_made, lies_between, AreNext, IsToldRun}
use Rattle.witness_laws.specs.Acts.{all_done}

-- ---- lines, one list after another

known_more : (ls ks : List (ℕ × Part)) → known_contacts (ls ++ ks) ≡ known_contacts ls ++ known_contacts ks
known_more [] ks = refl
known_more ((n, part) ∷ ls) ks = ap (λ (l : List MadeContact). made_on n part ++ l) (known_more ls ks)
    ∙ sym (append_assoc (made_on n part) (known_contacts ls) (known_contacts ks))

parts_more : (es fs : List (ℕ × Reported)) → parts_of (es ++ fs) ≡ parts_of es ++ parts_of fs
parts_more es fs = map-append entry_part es fs

next_longer : (ls more : List (ℕ × Part)) (k : ℕ) → AreNext ls k → AreNext (ls ++ more) k
next_longer ls more k h = record {
  before = h.before;
  one = h.one;
  between = h.between;
  next = h.next;
  after = h.after ++ more;
  all = ap (λ (l : List (ℕ × Part)). l ++ more) h.all
      ∙ (append_assoc h.before (h.one ∷ (h.between ++ (h.next ∷ h.after))) more
      ∙ ap (λ (l : List (ℕ × Part)). h.before ++ (h.one ∷ l)) (append_assoc h.between (h.next ∷ h.after) more));
  number = h.number;
  one_made = h.one_made;
  next_made = h.next_made;
  same = h.same;
  quiet = h.quiet;
}

next_later : (first ls : List (ℕ × Part)) (k : ℕ) → AreNext ls k → AreNext (first ++ ls) (length (known_contacts first) + k)
next_later first ls k h = record {
  before = first ++ h.before;
  one = h.one;
  between = h.between;
  next = h.next;
  after = h.after;
  all = ap (λ (l : List (ℕ × Part)). first ++ l) h.all
      ∙ sym (append_assoc first h.before (h.one ∷ (h.between ++ (h.next ∷ h.after))));
  number = ap length (known_more first h.before) ∙ (length-append (known_contacts first) (known_contacts h.before)
      ∙ ap (λ (n : ℕ). length (known_contacts first) + n) h.number);
  one_made = h.one_made;
  next_made = h.next_made;
  same = h.same;
  quiet = h.quiet;
}

-- ---- acts of one connection, as they were reported

abbrev pub entries_of : ℕ → List Act → List (ℕ × Reported)
entries_of n acts = map (numbered n) (all_done acts)

abbrev lines_of : ℕ → List Act → List (ℕ × Part)
lines_of n acts = parts_of (entries_of n acts)

known_acts : (n : ℕ) (acts : List Act) → known_contacts (lines_of n acts) ≡ contacts (done_on n acts)
known_acts n [] = refl
known_acts n (Act.Contact target dir tool frame point ∷ acts) =
    let m : MadeContact = record { connection = n; target = target; dir = dir; tool = tool; frame = frame; point = point } in
    ap (λ (l : List MadeContact). m ∷ l) (known_acts n acts)
known_acts n (Act.HomedIs homed ∷ acts) = known_acts n acts
known_acts n (Act.Homed ∷ acts) = known_acts n acts
known_acts n (Act.Moved p f ∷ acts) = known_acts n acts
known_acts n (Act.Changed m ∷ acts) = known_acts n acts
known_acts n (Act.Framed f ∷ acts) = known_acts n acts

-- on a connection a contact follows, and before it lies only what may
record Follows (n : ℕ) (ls : List (ℕ × Part)) : Type 0 where
  between : List (ℕ × Part)
  next : ℕ × Part
  after : List (ℕ × Part)
  all : ls ≡ between ++ (next ∷ after)
  made : is_made next.1 ≡ true
  same : next.0 ≡ n
  quiet : list_all (lies_between n) between ≡ true

follows_past : (n : ℕ) (ls : List (ℕ × Part)) → Follows n ls → Follows n ((n, Passes) ∷ ls)
follows_past n ls h = record {
  between = (n, Passes) ∷ Follows.between h;
  next = Follows.next h;
  after = Follows.after h;
  all = ap (λ (l : List (ℕ × Part)). (n, Passes) ∷ l) (Follows.all h);
  made = Follows.made h;
  same = Follows.same h;
  quiet = Follows.quiet h;
}

some_follows : (n : ℕ) (acts : List Act) → 0 < length (contacts (done_on n acts)) → Follows n (lines_of n acts)
some_follows n [] some = absurd (omega (arith, some))
some_follows n (Act.Contact target dir tool frame point ∷ acts) some = record {
  between = [];
  next = (n, Made target dir tool frame point);
  after = lines_of n acts;
  all = refl;
  made = refl;
  same = refl;
  quiet = refl;
}
some_follows n (Act.HomedIs homed ∷ acts) some = follows_past n (lines_of n acts) (some_follows n acts some)
some_follows n (Act.Homed ∷ acts) some = follows_past n (lines_of n acts) (some_follows n acts some)
some_follows n (Act.Moved p f ∷ acts) some = follows_past n (lines_of n acts) (some_follows n acts some)
some_follows n (Act.Changed m ∷ acts) some = follows_past n (lines_of n acts) (some_follows n acts some)
some_follows n (Act.Framed f ∷ acts) some = follows_past n (lines_of n acts) (some_follows n acts some)

next_past : (x : ℕ × Part) (ls : List (ℕ × Part)) (k j : ℕ) → (h : AreNext ls k) → length (known_contacts (x ∷ h.before)) ≡ j
    → AreNext (x ∷ ls) j
next_past x ls k j h count = record {
  before = x ∷ h.before;
  one = h.one;
  between = h.between;
  next = h.next;
  after = h.after;
  all = ap (λ (l : List (ℕ × Part)). x ∷ l) h.all;
  number = count;
  one_made = h.one_made;
  next_made = h.next_made;
  same = h.same;
  quiet = h.quiet;
}

next_first : (n : ℕ) (part : Part) (ls : List (ℕ × Part)) → is_made part ≡ true → Follows n ls → AreNext ((n, part) ∷ ls) 0
next_first n part ls made h = record {
  before = [];
  one = (n, part);
  between = Follows.between h;
  next = Follows.next h;
  after = Follows.after h;
  all = ap (λ (l : List (ℕ × Part)). (n, part) ∷ l) (Follows.all h);
  number = refl;
  one_made = made;
  next_made = Follows.made h;
  same = Follows.same h;
  quiet = Follows.quiet h;
}

-- contacts of one connection that follow one another are next to one another
next_in : (n : ℕ) (acts : List Act) (k : ℕ) → suc k < length (contacts (done_on n acts)) → AreNext (lines_of n acts) k
next_in n [] k less = absurd (omega (arith, less))
next_in n (Act.Contact target dir tool frame point ∷ acts) zero less =
    next_first n (Made target dir tool frame point) (lines_of n acts) refl (some_follows n acts (omega (arith, less)))
next_in n (Act.Contact target dir tool frame point ∷ acts) (suc k) less =
    let h : AreNext (lines_of n acts) k = next_in n acts k (omega (arith, less)) in
    next_past (n, Made target dir tool frame point) (lines_of n acts) k (suc k) h (ap suc h.number)
next_in n (Act.HomedIs homed ∷ acts) k less = let h : AreNext (lines_of n acts) k = next_in n acts k less
    in next_past (n, Passes) (lines_of n acts) k k h h.number
next_in n (Act.Homed ∷ acts) k less = let h : AreNext (lines_of n acts) k = next_in n acts k less
    in next_past (n, Passes) (lines_of n acts) k k h h.number
next_in n (Act.Moved p f ∷ acts) k less = let h : AreNext (lines_of n acts) k = next_in n acts k less
    in next_past (n, Passes) (lines_of n acts) k k h h.number
next_in n (Act.Changed m ∷ acts) k less = let h : AreNext (lines_of n acts) k = next_in n acts k less
    in next_past (n, Passes) (lines_of n acts) k k h h.number
next_in n (Act.Framed f ∷ acts) k less = let h : AreNext (lines_of n acts) k = next_in n acts k less
    in next_past (n, Passes) (lines_of n acts) k k h h.number

-- ---- a run is whole

serves_long : (c : ℕ) (ts : List Touch) (ps : List Point) (ms : List MadeContact) → Serves c ts ps ms → length ms ≡ length ps
serves_long c [] [] [] h = refl
serves_long c [] [] (m ∷ ms) h = absurd h
serves_long c [] (p ∷ ps) ms h = absurd h
serves_long c (t ∷ ts) [] ms h = absurd h
serves_long c (t ∷ ts) (p ∷ ps) [] h = absurd h
serves_long c (t ∷ ts) (p ∷ ps) (m ∷ ms) h = ap suc (serves_long c ts ps ms h.1)

-- all of these contacts are on a connection
abbrev pub AreAt : ℕ → List MadeContact → Type 0
AreAt c [] = Unit {0}
AreAt c (m ∷ ms) = (m.connection ≡ c) × AreAt c ms

pub serves_at : (c : ℕ) (ts : List Touch) (ps : List Point) (ms : List MadeContact) → Serves c ts ps ms → AreAt c ms
serves_at c [] [] [] h = tt
serves_at c [] [] (m ∷ ms) h = absurd h
serves_at c [] (p ∷ ps) ms h = absurd h
serves_at c (t ∷ ts) [] ms h = absurd h
serves_at c (t ∷ ts) (p ∷ ps) [] h = absurd h
serves_at c (t ∷ ts) (p ∷ ps) (m ∷ ms) h = (h.0.on, serves_at c ts ps ms h.1)

-- a run that is whole is the same with more contacts after them
pub same_run : (s k : ℕ) (xs ys : List MadeContact) → length (take k (drop s xs)) ≡ k → take k (drop s (xs ++ ys)) ≡ take k (drop s xs)
same_run s zero xs ys e = refl
same_run zero (suc k) [] ys e = absurd (omega (arith, e))
same_run zero (suc k) (x ∷ xs) ys e = ap (λ (l : List MadeContact). x ∷ l) (same_run zero k xs ys (omega (arith, e)))
same_run (suc s) (suc k) [] ys e = absurd (omega (arith, e))
same_run (suc s) (suc k) (x ∷ xs) ys e = same_run s (suc k) xs ys e

-- and it lies within them
pub run_within : (s k : ℕ) (xs : List MadeContact) → length (take (suc k) (drop s xs)) ≡ suc k → s + suc k ≤ length xs
run_within zero k [] e = absurd (omega (arith, e))
run_within zero zero (x ∷ xs) e = omega (arith)
run_within zero (suc k) (x ∷ xs) e = let rest = run_within zero k xs (omega (arith, e)) in omega (arith, rest)
run_within (suc s) k [] e = absurd (omega (arith, e))
run_within (suc s) k (x ∷ xs) e = let rest = run_within s k xs e in omega (arith, rest)

pub run_long : (w : Wanted) (f : Feature) (s : ℕ) (ms : List MadeContact) → IsRun w f s ms
    → length (take (length f.points) (drop s ms)) ≡ length f.points
run_long w f s ms h = serves_long h.connection w.touches f.points (take (length f.points) (drop s ms)) h.serves

-- a run is one in other contacts that has the same there
pub run_moved : (w : Wanted) (f : Feature) (s r : ℕ) (ms ks : List MadeContact)
    → take (length f.points) (drop s ms) ≡ take (length f.points) (drop r ks) → IsRun w f s ms → IsRun w f r ks
run_moved w f s r ms ks same h = record {
  label = h.label;
  connection = h.connection;
  serves = subst (λ (l : List MadeContact). Serves h.connection w.touches f.points l) same h.serves;
}

-- ---- a run in what was reported

-- it is still one with more reported after it
pub run_longer : (w : Wanted) (f : Feature) (s : ℕ) (es more : List (ℕ × Reported)) → IsToldRun w f s es → IsToldRun w f s (es ++ more)
run_longer w f s es more h = record {
  run = run_moved w f s s (known_contacts (parts_of es)) (known_contacts (parts_of (es ++ more)))
      (sym (ap (λ (l : List MadeContact). take (length f.points) (drop s l))
      (ap known_contacts (parts_more es more) ∙ known_more (parts_of es) (parts_of more))
      ∙ same_run s (length f.points) (known_contacts (parts_of es)) (known_contacts (parts_of more))
      (run_long w f s (known_contacts (parts_of es)) h.run))) h.run;
  unbroken = λ k less. subst (λ (l : List (ℕ × Part)). AreNext l (s + k)) (sym (parts_more es more))
      (next_longer (parts_of es) (parts_of more) (s + k) (h.unbroken k less));
}

-- a run of acts of one connection is one in what was reported of them, after and before whatever else
pub run_reported : (w : Wanted) (f : Feature) (s n : ℕ) (es more : List (ℕ × Reported)) (acts : List Act)
    → IsRun w f s (contacts (done_on n acts))
    → IsToldRun w f (length (known_contacts (parts_of es)) + s) (es ++ (entries_of n acts ++ more))
run_reported w f s n es more acts h =
    let all : parts_of (es ++ (entries_of n acts ++ more)) ≡ parts_of es ++ (lines_of n acts ++ parts_of more) =
    parts_more es (entries_of n acts ++ more) ∙ ap (λ (l : List (ℕ × Part)). parts_of es ++ l) (parts_more (entries_of n acts) more) in
    let known : known_contacts (parts_of (es ++ (entries_of n acts ++ more)))
    ≡ known_contacts (parts_of es) ++ (contacts (done_on n acts) ++ known_contacts (parts_of more)) =
    ap known_contacts all ∙ (known_more (parts_of es) (lines_of n acts ++ parts_of more)
    ∙ ap (λ (l : List MadeContact). known_contacts (parts_of es) ++ l)
    (known_more (lines_of n acts) (parts_of more)
    ∙ ap (λ (l : List MadeContact). l ++ known_contacts (parts_of more)) (known_acts n acts))) in
    let long = run_long w f s (contacts (done_on n acts)) h in
    record {
      run = run_moved w f s (length (known_contacts (parts_of es)) + s) (contacts (done_on n acts))
          (known_contacts (parts_of (es ++ (entries_of n acts ++ more))))
          (sym (ap (λ (l : List MadeContact). take (length f.points) (drop (length (known_contacts (parts_of es)) + s) l)) known
          ∙ (ap (take (length f.points)) (drop-append-add (known_contacts (parts_of es))
          (contacts (done_on n acts) ++ known_contacts (parts_of more)) s)
          ∙ same_run s (length f.points) (contacts (done_on n acts)) (known_contacts (parts_of more)) long))) h;
      unbroken = λ k less. subst (λ (l : List (ℕ × Part)). AreNext l ((length (known_contacts (parts_of es)) + s) + k)) (sym all)
          (subst (AreNext (parts_of es ++ (lines_of n acts ++ parts_of more))) (omega (arith))
          (next_later (parts_of es) (lines_of n acts ++ parts_of more) (s + k)
          (next_longer (lines_of n acts) (parts_of more) (s + k) (next_in n acts (s + k) (inside k less long)))));
    }
  where
    inside : (k : ℕ) → k + 1 < length f.points
        → length (take (length f.points) (drop s (contacts (done_on n acts)))) ≡ length f.points
        → suc (s + k) < length (contacts (done_on n acts))
    inside k less long = go (length f.points) less long
      where
        go : (m : ℕ) → k + 1 < m → length (take m (drop s (contacts (done_on n acts)))) ≡ m → suc (s + k) < length (contacts (done_on n acts))
        go zero l e = absurd (omega (arith, l))
        go (suc m) l e = let within = run_within s m (contacts (done_on n acts)) e in omega (arith, l, within)
