-- Features that are sound for a ledger are served by its contacts, and are those of the program by labels and counts.
use Rattle.record_text.proofs.RunNames.{[], ◌&&◌, ◌++◌, ◌+◌, ◌-◌, ◌==◌, ◌∙◌, ◌∷◌, ◌≡◌, ◌≤◌, Act, ap, are_ours, AreRuns, arith, Bool, bytes_eq, contacts}
use Rattle.record_text.proofs.RunNames.{drop, drop-drop, eq-eqb, Feature, HasRun, is_ours, IsRun, length, List, MadeContact, Point, refl, Served, Serves}
use Rattle.record_text.proofs.RunNames.{Sound, suc, sym, take, take-append-drop, Touch, true, Wanted, ℕ}

-- ---- from start numbers to contacts in order

-- contacts from one place on are those up to a later place, then those from there on
from_on : (least start : ℕ) (made : List MadeContact) → least ≤ start
    → drop least made ≡ take (start - least) (drop least made) ++ drop start made
from_on least start made le =
    sym (take-append-drop (start - least) (drop least made))
    ∙ ap (λ (l : List MadeContact). take (start - least) (drop least made) ++ l)
    (drop-drop (start - least) least made ∙ ap (λ (k : ℕ). drop k made) (omega (arith, le)))

runs_serve : (ws : List Wanted) (fs : List Feature) (starts : List ℕ) (least : ℕ) (made : List MadeContact)
    → AreRuns ws fs starts least made → Served ws fs (drop least made)
runs_serve ws [] starts least made h = tt
runs_serve [] (f ∷ fs) [] least made h = absurd h
runs_serve [] (f ∷ fs) (start ∷ starts) least made h = absurd h
runs_serve (w ∷ ws) (f ∷ fs) [] least made h = absurd h
runs_serve (w ∷ ws) (f ∷ fs) (start ∷ starts) least made h =
    let one : IsRun w f start made = h.1 in
    let run : List MadeContact = take (length f.points) (drop start made) in
    let rest : List MadeContact = drop (start + length f.points) made in (
      rest,
      record {
        gap = take (start - least) (drop least made);
        run = run;
        connection = one.connection;
        whole = from_on least start made h.0
            ∙ ap (λ (l : List MadeContact). take (start - least) (drop least made) ++ l)
            (sym (take-append-drop (length f.points) (drop start made))
            ∙ ap (λ (l : List MadeContact). run ++ l) (drop-drop (length f.points) start made));
        label = one.label;
        serves = one.serves;
      },
      runs_serve ws fs starts (start + length f.points) made h.2,
    )

-- features that are sound for a ledger are served by its contacts
pub sound_served : (ws : List Wanted) (fs : List Feature) (l : List (ℕ × Act)) → Sound ws fs l → Served ws fs (contacts l)
sound_served ws fs l h = runs_serve ws fs h.starts 0 (contacts l) h.runs

-- ---- labels and counts

pub serves_count : (n : ℕ) (ts : List Touch) (ps : List Point) (ms : List MadeContact) → Serves n ts ps ms → length ps ≡ length ts
serves_count n [] [] [] h = refl
serves_count n [] [] (m ∷ ms) h = absurd h
serves_count n [] (p ∷ ps) ms h = absurd h
serves_count n (t ∷ ts) [] ms h = absurd h
serves_count n (t ∷ ts) (p ∷ ps) [] h = absurd h
serves_count n (t ∷ ts) (p ∷ ps) (m ∷ ms) h = ap suc (serves_count n ts ps ms h.1)

same_bytes : (xs : List ℕ) → bytes_eq xs xs ≡ true
same_bytes [] = refl
same_bytes (x ∷ xs) = ap (λ (b : Bool). b && bytes_eq xs xs) (eq-eqb x x refl) ∙ same_bytes xs

one_ours : (w : Wanted) (f : Feature) → f.label ≡ w.label → length f.points ≡ length w.touches → is_ours w f ≡ true
one_ours w f label long =
    ap (λ (l : List ℕ). bytes_eq l w.label && (length f.points == length w.touches)) label
    ∙ (ap (λ (b : Bool). b && (length f.points == length w.touches)) (same_bytes w.label)
    ∙ eq-eqb (length f.points) (length w.touches) long)

pub served_ours : (ws : List Wanted) (fs : List Feature) (made : List MadeContact) → Served ws fs made → are_ours ws fs ≡ true
served_ours [] [] made h = refl
served_ours (w ∷ ws) [] made h = refl
served_ours [] (f ∷ fs) made h = absurd h
served_ours (w ∷ ws) (f ∷ fs) made h =
    let r : HasRun w f made h.0 = h.1 in
    ap (λ (b : Bool). b && are_ours ws fs)
    (one_ours w f r.label (serves_count r.connection w.touches f.points r.run r.serves))
    ∙ served_ours ws fs h.0 h.2

-- ---- a ledger, cut between two of its contacts

pub record IsCut (l : List (ℕ × Act)) (xs ys : List MadeContact) : Type 0 where
  pub before : List (ℕ × Act)
  pub after : List (ℕ × Act)
  pub parts : l ≡ before ++ after
  pub first : contacts before ≡ xs
  pub then : contacts after ≡ ys

-- an act that is not a contact, at the start
calm_cut : (x : ℕ × Act) (l : List (ℕ × Act)) (xs ys : List MadeContact)
    → ((k : List (ℕ × Act)) → contacts (x ∷ k) ≡ contacts k) → IsCut l xs ys → IsCut (x ∷ l) xs ys
calm_cut x l xs ys calm c = record {
  before = x ∷ c.before;
  after = c.after;
  parts = ap (λ (k : List (ℕ × Act)). x ∷ k) c.parts;
  first = calm c.before ∙ c.first;
  then = c.then;
}

-- where contacts of a ledger are two lists, it can be cut between them
pub cut_at : (l : List (ℕ × Act)) (xs ys : List MadeContact) → contacts l ≡ xs ++ ys → IsCut l xs ys
cut_at l [] ys e = record { before = []; after = l; parts = refl; first = refl; then = e }
cut_at [] (x ∷ xs) ys e = absurd (cc)
cut_at ((n, Act.Contact target dir tool frame point) ∷ l) (x ∷ xs) ys e =
    let c : IsCut l xs ys = cut_at l xs ys (cc) in
    let m : MadeContact = record { connection = n; target = target; dir = dir; tool = tool; frame = frame; point = point } in
    let head : m ≡ x = cc in
    record {
      before = (n, Act.Contact target dir tool frame point) ∷ c.before;
      after = c.after;
      parts = ap (λ (k : List (ℕ × Act)). (n, Act.Contact target dir tool frame point) ∷ k) c.parts;
      first = ap (λ (k : List MadeContact). m ∷ k) c.first ∙ ap (λ (y : MadeContact). y ∷ xs) head;
      then = c.then;
    }
cut_at ((n, Act.HomedIs homed) ∷ l) (x ∷ xs) ys e = calm_cut (n, Act.HomedIs homed) l (x ∷ xs) ys (λ k. refl) (cut_at l (x ∷ xs) ys e)
cut_at ((n, Act.Homed) ∷ l) (x ∷ xs) ys e = calm_cut (n, Act.Homed) l (x ∷ xs) ys (λ k. refl) (cut_at l (x ∷ xs) ys e)
cut_at ((n, Act.Moved p f) ∷ l) (x ∷ xs) ys e = calm_cut (n, Act.Moved p f) l (x ∷ xs) ys (λ k. refl) (cut_at l (x ∷ xs) ys e)
cut_at ((n, Act.Changed m) ∷ l) (x ∷ xs) ys e = calm_cut (n, Act.Changed m) l (x ∷ xs) ys (λ k. refl) (cut_at l (x ∷ xs) ys e)
cut_at ((n, Act.Framed f) ∷ l) (x ∷ xs) ys e = calm_cut (n, Act.Framed f) l (x ∷ xs) ys (λ k. refl) (cut_at l (x ∷ xs) ys e)
