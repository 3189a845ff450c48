-- A run in the numbered ledger is one in what was reported.
use Rattle.witness.proofs.ToldNames.{[], ◌+◌, ◌<◌, ◌∙◌, ◌∷◌, ◌≡◌, ◌≤◌, Act, ap, AreNext, AreRunContacts, AreRuns}
use Rattle.witness.proofs.ToldNames.{AreToldRuns, arith, connection_at, contacts, drop, Err, IfOk, IsRun, IsServed, IsToldRun, known_contacts, length}
use Rattle.witness.proofs.ToldNames.{List, MadeContact, map, None, Ok, parts_of, Point, refl, Reported, Result, Serves, Some, Sound, SoundByTold}
use Rattle.witness.proofs.ToldNames.{subst, suc, sym, take, unnumbered, zero, ℕ}
use Rattle.std.proofs.lemmas.List.{drop-map, length-map, take-map}
use Rattle.contact_ledger.specs.declared.features.Feature.{Feature}
use Rattle.dmis_program.specs.declared.features.Touch.{Touch}
use Rattle.dmis_program.specs.declared.features.Wanted.{Wanted}
use Rattle.witness.proofs.NextContacts.{next_known}

plus_one : (n : ℕ) → n + 1 ≡ suc n
plus_one n = omega arith

-- ---- contacts on one connection

-- all of these contacts are on a connection
abbrev AreOn : ℕ → List MadeContact → Type 0
AreOn n [] = Unit {0}
AreOn n (m ∷ ms) = (m.connection ≡ n) × AreOn n ms

serves_on : (n : ℕ) (ts : List Touch) (ps : List Point) (ms : List MadeContact) → Serves n ts ps ms → AreOn n ms
serves_on n [] [] [] h = tt
serves_on n [] [] (m ∷ ms) h = absurd h
serves_on n [] (p ∷ ps) ms h = absurd h
serves_on n (t ∷ ts) [] ms h = absurd h
serves_on n (t ∷ ts) (p ∷ ps) [] h = absurd h
serves_on n (t ∷ ts) (p ∷ ps) (m ∷ ms) h = (h.0.on, serves_on n ts ps ms h.1)

serves_length : (n : ℕ) (ts : List Touch) (ps : List Point) (ms : List MadeContact) → Serves n ts ps ms → length ms ≡ length ps
serves_length n [] [] [] h = refl
serves_length n [] [] (m ∷ ms) h = absurd h
serves_length n [] (p ∷ ps) ms h = absurd h
serves_length n (t ∷ ts) [] ms h = absurd h
serves_length n (t ∷ ts) (p ∷ ps) [] h = absurd h
serves_length n (t ∷ ts) (p ∷ ps) (m ∷ ms) h = ap suc (serves_length n ts ps ms h.1)

-- the connection is not what a touch asks for
served_moved : (c d : ℕ) (t : Touch) (p : Point) (x y : MadeContact) → unnumbered x ≡ unnumbered y → y.connection ≡ d → IsServed c t p x
    → IsServed d t p y
served_moved c d t p x y same on h = record {
  on = on;
  target = sym (ap (λ (m : MadeContact). m.target) same) ∙ h.target;
  dir = sym (ap (λ (m : MadeContact). m.dir) same) ∙ h.dir;
  tool = sym (ap (λ (m : MadeContact). m.tool) same) ∙ h.tool;
  frame = sym (ap (λ (m : MadeContact). m.frame) same) ∙ h.frame;
  point_is = sym (ap (λ (m : MadeContact). m.point) same) ∙ h.point_is;
}

serves_moved : (c d : ℕ) (ts : List Touch) (ps : List Point) (xs ys : List MadeContact) → map unnumbered xs ≡ map unnumbered ys
    → AreOn d ys → Serves c ts ps xs → Serves d ts ps ys
serves_moved c d [] [] [] [] e on h = tt
serves_moved c d [] [] [] (y ∷ ys) e on h = absurd cc
serves_moved c d [] [] (x ∷ xs) ys e on h = absurd h
serves_moved c d [] (p ∷ ps) xs ys e on h = absurd h
serves_moved c d (t ∷ ts) [] xs ys e on h = absurd h
serves_moved c d (t ∷ ts) (p ∷ ps) [] ys e on h = absurd h
serves_moved c d (t ∷ ts) (p ∷ ps) (x ∷ xs) [] e on h = absurd cc
serves_moved c d (t ∷ ts) (p ∷ ps) (x ∷ xs) (y ∷ ys) e on h =
    let first : unnumbered x ≡ unnumbered y = cc in
    let rest : map unnumbered xs ≡ map unnumbered ys = cc in
    (served_moved c d t p x y first on.0 h.0, serves_moved c d ts ps xs ys rest on.1 h.1)

-- contacts that have each the connection of the one before it have one
chain : (n : ℕ) (m : MadeContact) (ms : List MadeContact) → n ≤ length ms
    → ((k : ℕ) → k < n → connection_at (m ∷ ms) k ≡ connection_at (m ∷ ms) (suc k)) → AreOn m.connection (take n ms)
chain zero m [] h same = tt
chain zero m (x ∷ xs) h same = tt
chain (suc n) m [] h same = absurd (omega (arith, h))
chain (suc n) m (x ∷ xs) h same =
    let first : Some m.connection ≡ Some x.connection = same 0 (omega arith) in
    let one : m.connection ≡ x.connection = cc in
    let rest = chain n x xs (omega (arith, h)) (λ k less. same (suc k) (omega (arith, less))) in
    (sym one, subst (λ (c : ℕ). AreOn c (take n xs)) (sym one) rest)

record OneConnection (ms : List MadeContact) : Type 0 where
  connection : ℕ
  on : AreOn connection ms

one_connection : (n : ℕ) (ms : List MadeContact) → n ≤ length ms
    → ((k : ℕ) → suc k < n → connection_at ms k ≡ connection_at ms (suc k)) → OneConnection (take n ms)
one_connection zero [] h same = record { connection = 0; on = tt }
one_connection zero (x ∷ xs) h same = record { connection = 0; on = tt }
one_connection (suc n) [] h same = absurd (omega (arith, h))
one_connection (suc n) (x ∷ xs) h same = record {
  connection = x.connection;
  on = (refl, chain n x xs (omega (arith, h)) (λ k less. same k (omega (arith, less))));
}

-- and where they have one, each has that of the one before it
all_same : (n c : ℕ) (ms : List MadeContact) (k : ℕ) → AreOn c (take n ms) → suc k < n → n ≤ length ms
    → connection_at ms k ≡ connection_at ms (suc k)
all_same zero c ms k on less h = absurd (omega (arith, less))
all_same (suc n) c [] k on less h = absurd (omega (arith, h))
all_same (suc zero) c (x ∷ xs) k on less h = absurd (omega (arith, less))
all_same (suc (suc n)) c (x ∷ []) k on less h = absurd (omega (arith, h))
all_same (suc (suc n)) c (x ∷ y ∷ ys) zero on less h =
    let rest : AreOn c (take (suc n) (y ∷ ys)) = on.1 in
    ap (λ (j : ℕ). Some j) (on.0 ∙ sym rest.0)
all_same (suc (suc n)) c (x ∷ y ∷ ys) (suc k) on less h = all_same (suc n) c (y ∷ ys) k on.1 (omega (arith, less)) (omega (arith, h))

suc_add : (s k : ℕ) → suc s + k ≡ suc (s + k)
suc_add s k = omega arith

zero_add : (k : ℕ) → 0 + k ≡ k
zero_add k = omega arith

none_at : (k : ℕ) → connection_at [] k ≡ None
none_at zero = refl
none_at (suc k) = refl

at_drop : (s k : ℕ) (ms : List MadeContact) → connection_at (drop s ms) k ≡ connection_at ms (s + k)
at_drop zero k [] = ap (λ (j : ℕ). connection_at [] j) (sym (zero_add k))
at_drop zero k (m ∷ ms) = ap (λ (j : ℕ). connection_at (m ∷ ms) j) (sym (zero_add k))
at_drop (suc s) k [] = none_at k ∙ sym (none_at (suc s + k))
at_drop (suc s) k (m ∷ ms) = at_drop s k ms ∙ ap (λ (j : ℕ). connection_at (m ∷ ms) j) (sym (suc_add s k))

add_suc : (s k : ℕ) → s + suc k ≡ suc (s + k)
add_suc s k = omega arith

-- as many contacts as there are points
taken_length : (n : ℕ) (ms : List MadeContact) → length (take n ms) ≡ n → n ≤ length ms
taken_length zero ms e = omega arith
taken_length (suc n) [] e = absurd (omega (arith, e))
taken_length (suc n) (m ∷ ms) e =
    let less : length (take n ms) ≡ n = omega (arith, e) in
    let rest = taken_length n ms less in
    omega (arith, rest)

-- ---- one run

-- the contacts from a start on of two lists that differ in their connections only
alike_part : (s n : ℕ) (xs ys : List MadeContact) → map unnumbered xs ≡ map unnumbered ys
    → map unnumbered (take n (drop s xs)) ≡ map unnumbered (take n (drop s ys))
alike_part s n xs ys e =
    sym (take-map unnumbered n (drop s xs)) ∙ ap (λ (m : List MadeContact). take n m) (sym (drop-map unnumbered s xs)
    ∙ ap (λ (m : List MadeContact). drop s m) e ∙ drop-map unnumbered s ys) ∙ take-map unnumbered n (drop s ys)

alike_length : (xs ys : List MadeContact) → map unnumbered xs ≡ map unnumbered ys → length xs ≡ length ys
alike_length xs ys e =
    sym (length-map xs unnumbered) ∙ ap (λ (m : List MadeContact). length m) e ∙ length-map ys unnumbered

dropped : (s n : ℕ) (ms : List MadeContact) → 1 ≤ n → n ≤ length (drop s ms) → s + n ≤ length ms
dropped zero n [] some h = omega (arith, h)
dropped zero n (m ∷ ms) some h = omega (arith, h)
dropped (suc s) n [] some h = absurd (omega (arith, some, h))
dropped (suc s) n (m ∷ ms) some h = let rest = dropped s n ms some h in omega (arith, rest)

pub run_told : (entries : List (ℕ × Reported)) (ledger : List (ℕ × Act)) (w : Wanted) (f : Feature) (s : ℕ) → AreRunContacts entries ledger
    → IsRun w f s (contacts ledger) → IsToldRun w f s entries
run_told entries ledger w f s made run =
    let n = length f.points in
    let xs = contacts ledger in
    let ys = known_contacts (parts_of entries) in
    let long = taken_length n (drop s xs) (serves_length run.connection w.touches f.points (take n (drop s xs)) run.serves) in
    let on = serves_on run.connection w.touches f.points (take n (drop s xs)) run.serves in
    let count = alike_length (drop s xs) (drop s ys) (sym (drop-map unnumbered s xs) ∙ ap (λ (m : List MadeContact). drop s m) made.alike
    ∙ drop-map unnumbered s ys) in
    let next : (k : ℕ) → suc k < n → AreNext (parts_of entries) (s + k) =
    λ k less. (made.joined (s + k) (let within = dropped s n ys (omega (arith, less)) (omega (arith, long, count)) in
    omega (arith, within, less))).0 (sym (at_drop s k xs) ∙ all_same n run.connection (drop s xs) k on less long
    ∙ at_drop s (suc k) xs ∙ ap (λ (j : ℕ). connection_at xs j) (add_suc s k ∙ sym (plus_one (s + k)))) in
    let one = one_connection n (drop s ys) (omega (arith, long, count)) (λ k less. at_drop s k ys
    ∙ next_known (parts_of entries) (s + k) (next k less) ∙ ap (λ (j : ℕ). connection_at ys j) (sym (add_suc s k))
    ∙ sym (at_drop s (suc k) ys)) in
    record {
      run = record {
        label = run.label;
        connection = one.connection;
        serves = serves_moved run.connection one.connection w.touches f.points (take n (drop s xs)) (take n (drop s ys))
            (alike_part s n xs ys made.alike) one.on run.serves;
      };
      unbroken = λ k less. next k (omega (arith, less));
    }

pub told_run : (entries : List (ℕ × Reported)) (ledger : List (ℕ × Act)) (w : Wanted) (f : Feature) (s : ℕ) → AreRunContacts entries ledger
    → IsToldRun w f s entries → IsRun w f s (contacts ledger)
told_run entries ledger w f s made told =
    let n = length f.points in
    let xs = contacts ledger in
    let ys = known_contacts (parts_of entries) in
    let run = told.run in
    let long = taken_length n (drop s ys) (serves_length run.connection w.touches f.points (take n (drop s ys)) run.serves) in
    let count = alike_length (drop s xs) (drop s ys) (sym (drop-map unnumbered s xs) ∙ ap (λ (m : List MadeContact). drop s m) made.alike
    ∙ drop-map unnumbered s ys) in
    let one = one_connection n (drop s xs) (omega (arith, long, count)) (λ k less. at_drop s k xs
    ∙ (made.joined (s + k) (let within = dropped s n ys (omega (arith, less)) long in omega (arith, within, less))).1
    (told.unbroken k (omega (arith, less))) ∙ ap (λ (j : ℕ). connection_at xs j) (plus_one (s + k) ∙ sym (add_suc s k))
    ∙ sym (at_drop s (suc k) xs)) in
    record {
      label = run.label;
      connection = one.connection;
      serves = serves_moved run.connection one.connection w.touches f.points (take n (drop s ys)) (take n (drop s xs))
          (sym (alike_part s n xs ys made.alike)) one.on run.serves;
    }

-- ---- all runs

pub runs_told : (entries : List (ℕ × Reported)) (ledger : List (ℕ × Act)) (ws : List Wanted) (fs : List Feature) (ss : List ℕ) (least : ℕ)
    → AreRunContacts entries ledger → AreRuns ws fs ss least (contacts ledger) → AreToldRuns ws fs ss least entries
runs_told entries ledger ws [] [] least made h = tt
runs_told entries ledger ws [] (s ∷ ss) least made h = absurd h
runs_told entries ledger [] (f ∷ fs) [] least made h = absurd h
runs_told entries ledger [] (f ∷ fs) (s ∷ ss) least made h = absurd h
runs_told entries ledger (w ∷ ws) (f ∷ fs) [] least made h = absurd h
runs_told entries ledger (w ∷ ws) (f ∷ fs) (s ∷ ss) least made h =
    (h.0, run_told entries ledger w f s made h.1, runs_told entries ledger ws fs ss (s + length f.points) made h.2)

pub told_runs : (entries : List (ℕ × Reported)) (ledger : List (ℕ × Act)) (ws : List Wanted) (fs : List Feature) (ss : List ℕ) (least : ℕ)
    → AreRunContacts entries ledger → AreToldRuns ws fs ss least entries → AreRuns ws fs ss least (contacts ledger)
told_runs entries ledger ws [] [] least made h = tt
told_runs entries ledger ws [] (s ∷ ss) least made h = absurd h
told_runs entries ledger [] (f ∷ fs) [] least made h = absurd h
told_runs entries ledger [] (f ∷ fs) (s ∷ ss) least made h = absurd h
told_runs entries ledger (w ∷ ws) (f ∷ fs) [] least made h = absurd h
told_runs entries ledger (w ∷ ws) (f ∷ fs) (s ∷ ss) least made h =
    (h.0, told_run entries ledger w f s made h.1, told_runs entries ledger ws fs ss (s + length f.points) made h.2)

pub sound_told : (entries : List (ℕ × Reported)) (ledger : List (ℕ × Act)) (ws : List Wanted) (fs : List Feature) → AreRunContacts entries ledger
    → Sound ws fs ledger → SoundByTold ws fs entries
sound_told entries ledger ws fs made h = record { starts = h.starts; runs = runs_told entries ledger ws fs h.starts 0 made h.runs }

pub told_sound : (entries : List (ℕ × Reported)) (ledger : List (ℕ × Act)) (ws : List Wanted) (fs : List Feature) → AreRunContacts entries ledger
    → SoundByTold ws fs entries → Sound ws fs ledger
told_sound entries ledger ws fs made h = record { starts = h.starts; runs = told_runs entries ledger ws fs h.starts 0 made h.runs }
