-- What a reader keeps of the entries, one more at a time.
use Rattle.record_text.proofs.Names.{[], ◌++◌, ◌+◌, ◌-◌, ◌<◌, ◌∙◌, ◌∷◌, ◌≡◌, ◌≤◌, Act, ap, arith, CanComplete, Completes, cond, contact_count}
use Rattle.record_text.proofs.Names.{contacts, drop, drop-append-le, drop-drop, drop_all, Err, errors_during, Feature, Finds, Frame, IfOk, is_contact}
use Rattle.record_text.proofs.Names.{IsLastRun, Kept, last_frame, length, length-append, List, MadeContact, None, Ok, Option, Point, refl, Result}
use Rattle.record_text.proofs.Names.{Serves, Some, subst, suc, sym, Touch, Wanted, ℕ}
use Rattle.std.proofs.lemmas.List.Recursion.{is_count_by}
use Rattle.protocol_model.specs.Client.{origin_of}
use Rattle.record_text.specs.declared.run_errors.Reported.{Reported}
use Rattle.record_text.specs.declared.run_errors.RunError.{RunError}
use Rattle.record_text.specs.declared.run_errors.Remark.{Remark}

-- ---- contacts

contacts_append : (l m : List (ℕ × Act)) → contacts (l ++ m) ≡ contacts l ++ contacts m
contacts_append [] m = refl
contacts_append ((n, Act.HomedIs homed) ∷ l) m = contacts_append l m
contacts_append ((n, Act.Homed) ∷ l) m = contacts_append l m
contacts_append ((n, Act.Moved target frame) ∷ l) m = contacts_append l m
contacts_append ((n, Act.Changed tool) ∷ l) m = contacts_append l m
contacts_append ((n, Act.Framed frame) ∷ l) m = contacts_append l m
contacts_append ((n, Act.Contact t d o f p) ∷ l) m =
    let made : MadeContact = record { connection = n; target = t; dir = d; tool = o; frame = f; point = p } in
    ap (λ (ms : List MadeContact). made ∷ ms) (contacts_append l m)

counted_more : (entry : ℕ × Act) (acts : List (ℕ × Act)) → length (contacts (entry ∷ acts))
    ≡ cond (is_contact entry.1) (1 + length (contacts acts)) (length (contacts acts))
counted_more (m, Act.Contact t d o f p) acts = omega arith
counted_more (m, Act.HomedIs h) acts = refl
counted_more (m, Act.Homed) acts = refl
counted_more (m, Act.Moved t f) acts = refl
counted_more (m, Act.Changed o) acts = refl
counted_more (m, Act.Framed f) acts = refl

-- the count of a ledger is the length of its contacts
pub contacts_counted : (acts : List (ℕ × Act)) → length (contacts acts) ≡ contact_count acts
contacts_counted acts =
    is_count_by (λ (l : List (ℕ × Act)). length (contacts l)) (λ (entry : ℕ × Act). is_contact entry.1) refl counted_more acts

-- ---- the acts whose contacts are not used up

abbrev IsUnused : List (ℕ × Act) → ℕ → ℕ → Type 0
IsUnused told used from = (used ≤ length (contacts told)) × (from ≤ length told) × (contacts (drop from told) ≡ drop used (contacts told))

-- one more act
pub unused_more : (told new : List (ℕ × Act)) (e : ℕ × Act) (used from : ℕ) → new ≡ told ++ e ∷ []
    → (used ≤ length (contacts told)) × (from ≤ length told) × (contacts (drop from told) ≡ drop used (contacts told))
    → (used ≤ length (contacts new)) × (from ≤ length new) × (contacts (drop from new) ≡ drop used (contacts new))
unused_more told new e used from is h =
    let few = h.0 in
    let within = h.1 in
    let all : contacts (told ++ e ∷ []) ≡ contacts told ++ contacts (e ∷ []) = contacts_append told (e ∷ []) in
    let rest : contacts (drop from (told ++ e ∷ [])) ≡ contacts (drop from told) ++ contacts (e ∷ []) =
    ap (λ (l : List (ℕ × Act)). contacts l) (drop-append-le from told (e ∷ []) h.1) ∙ contacts_append (drop from told) (e ∷ []) in
    let same : drop used (contacts told ++ contacts (e ∷ [])) ≡ drop used (contacts told) ++ contacts (e ∷ []) =
    drop-append-le used (contacts told) (contacts (e ∷ [])) h.0 in
    let more : IsUnused (told ++ e ∷ []) used from = (
      rw all (omega (arith, few, length-append (contacts told) (contacts (e ∷ [])))),
      omega (arith, within, length-append told (e ∷ [])),
      rest ∙ ap (λ (ms : List MadeContact). ms ++ contacts (e ∷ [])) h.2 ∙ sym same
          ∙ ap (λ (ms : List MadeContact). drop used ms) (sym all),
    ) in
    subst (λ (l : List (ℕ × Act)). IsUnused l used from) (sym is) more

-- no contact is unused
pub unused_none : (told : List (ℕ × Act)) (used from : ℕ) → used ≡ contact_count told → from ≡ length told
    → (used ≤ length (contacts told)) × (from ≤ length told) × (contacts (drop from told) ≡ drop used (contacts told))
unused_none told used from p q =
    let count : used ≡ length (contacts told) = p ∙ sym (contacts_counted told) in
    let none : drop from told ≡ [] = drop_all from told (omega (arith, q)) in
    let no_more : drop used (contacts told) ≡ [] = drop_all used (contacts told) (omega (arith, count)) in
    (omega (arith, count), omega (arith, q), ap (λ (l : List (ℕ × Act)). contacts l) none ∙ sym no_more)

-- ---- the last contacts

-- they are too few
pub too_few : (kept : Kept) (w : Wanted) (n : ℕ) (points : List Point) → length (contacts kept.told) - kept.used < length w.touches
    → IsLastRun kept w n points → ⊥
too_few kept w n points few h =
    let unused = h.unused in
    omega (arith, few, unused)

last_contacts : (told : List (ℕ × Act)) (used from count : ℕ) → IsUnused told used from → used + count ≤ length (contacts told)
    → drop (length (contacts told) - used - count) (contacts (drop from told)) ≡ drop (length (contacts told) - count) (contacts told)
last_contacts told used from count h few =
    let n = length (contacts told) in
    let sum : used + (n - used - count) ≡ n - count = omega (arith, few) in
    ap (λ (ms : List MadeContact). drop (n - used - count) ms) h.2 ∙ drop-drop (n - used - count) used (contacts told)
    ∙ ap (λ (k : ℕ). drop k (contacts told)) sum

last_run : {E : Type 0} (kept : Kept) (w : Wanted) (n : ℕ) (ms : List MadeContact) (r : Result (Option (List Point)) E)
    → kept.used + length w.touches ≤ length (contacts kept.told)
    → ms ≡ drop (length (contacts kept.told) - length w.touches) (contacts kept.told)
    → IfOk r (λ found. Finds found (λ points. Serves n w.touches points ms)) → IfOk r (λ found. Finds found (λ points. IsLastRun kept w n points))
last_run kept w n ms (Err e) few same h = tt
last_run kept w n ms (Ok None) few same h = λ points g.
    h points (subst (λ (l : List MadeContact). Serves n w.touches points l) (sym same) g.serves)
last_run kept w n ms (Ok (Some points)) few same h = record {
  unused = few;
  serves = subst (λ (l : List MadeContact). Serves n w.touches points l) same h;
}

-- they serve the touches or not, as the contacts of these acts do
pub last_found : {E : Type 0} (kept : Kept) (w : Wanted) (n from skipped : ℕ) (behind : List (ℕ × Act)) (r : Result (Option (List Point)) E)
    → (kept.used ≤ length (contacts kept.told)) × (from ≤ length kept.told)
    × (contacts (drop from kept.told) ≡ drop kept.used (contacts kept.told))
    → length w.touches ≤ length (contacts kept.told) - kept.used
    → skipped ≡ length (contacts kept.told) - kept.used - length w.touches
    → contacts behind ≡ drop skipped (contacts (drop from kept.told))
    → IfOk r (λ found. Finds found (λ points. Serves n w.touches points (contacts behind)))
    → IfOk r (λ found. Finds found (λ points. IsLastRun kept w n points))
last_found kept w n from skipped behind r h few k e f =
    let low = h.0 in
    let room : kept.used + length w.touches ≤ length (contacts kept.told) = omega (arith, few, low) in
    last_run kept w n (contacts behind) r room (e
    ∙ ap (λ (j : ℕ). drop j (contacts (drop from kept.told))) k
    ∙ last_contacts kept.told kept.used from (length w.touches) h room) f

-- ---- a completed feature

pub serves_length : (n : ℕ) (ts : List Touch) (ps : List Point) (ms : List MadeContact) → Serves n ts ps ms → length ts ≡ length ps
serves_length n [] [] [] h = refl
serves_length n [] [] (m ∷ ms) h = absurd h
serves_length n [] (p ∷ ps) ms h = absurd h
serves_length n (t ∷ ts) [] ms h = absurd h
serves_length n (t ∷ ts) (p ∷ ps) [] h = absurd h
serves_length n (t ∷ ts) (p ∷ ps) (m ∷ ms) h = ap (λ (k : ℕ). suc k) (serves_length n ts ps ms h.1)

-- the feature of a label, points, and the connection and frame of its origin
abbrev feature_of : List ℕ → List Point → ℕ → Frame → Feature
feature_of label points n frame = record { label = label; points = points; origin = origin_of n frame }

same_feature : {l m : List ℕ} {f g : Frame} (points : List Point) (n : ℕ) → l ≡ m → f ≡ g → feature_of l points n f ≡ feature_of m points n g
same_feature points n p q = λ k. feature_of (p k) points n (q k)

pub completes : (asked : List Wanted) (old new : Kept) (n : ℕ) (label : List ℕ) (w : Wanted) (points : List Point) (frame : Frame)
    → CanComplete asked old n label w points → frame ≡ last_frame w.touches
    → new.features ≡ old.features ++ feature_of label points n frame ∷ [] → new.told ≡ old.told → new.used ≡ contact_count old.told
    → new.last ≡ old.last → new.waiting ≡ []
    → new.errors ≡ old.errors ++ errors_during label (contact_count old.told - length points) old.waiting → new.notes ≡ old.notes
    → Completes asked old n label new
completes asked old new n label w points frame h same features told used last waiting errors notes = record {
  wanted = w;
  points = points;
  next = h.next;
  label_is = h.label_is;
  same = h.same;
  run = h.run;
  more = same_kept (features ∙ ap (λ (f : Feature). old.features ++ f ∷ []) (same_feature points n h.label_is same)) told
      (used ∙ sym (contacts_counted old.told)) (last ∙ sym h.same) waiting
      (errors ∙ ap (λ (l : List ℕ). old.errors ++ errors_during l (contact_count old.told - length points) old.waiting) h.label_is
      ∙ ap (λ (k : ℕ). old.errors ++ errors_during w.label (contact_count old.told - k) old.waiting)
      (sym (serves_length n w.touches points (drop (length (contacts old.told) - length w.touches) (contacts old.told)) h.run.serves)))
      notes;
}
  where
    kept_of : List Feature → List (ℕ × Act) → ℕ → ℕ → List Reported → List RunError → List Remark → Kept
    kept_of a b i j c d m = record { features = a; told = b; used = i; last = j; waiting = c; errors = d; notes = m }

    same_kept : {a b : List Feature} {c d : List (ℕ × Act)} {i j k l : ℕ} {u v : List Reported} {x y : List RunError} {m n : List Remark}
        → a ≡ b → c ≡ d → i ≡ j → k ≡ l → u ≡ v → x ≡ y → m ≡ n → kept_of a c i k u x m ≡ kept_of b d j l v y n
    same_kept p q r s t o w = λ z. kept_of (p z) (q z) (r z) (s z) (t z) (o z) (w z)
