-- What an order leaves that stops.
use Rattle.dme_orders.proofs.Names.{[], ◌<◌, ◌∷◌, ◌≡◌, ◌⊎◌, arith, blamed, Bool, Carries, Err, false, IfErr, inl, inr, IsErrAnd, IsTorn, length, List}
use Rattle.dme_orders.proofs.Names.{no_memory, Ok, Prints, refl, Result, subst, sym, torn, Went, ℕ}
use Rattle.order_parts.specs.declared.faults.FilesFault.{FilesFault}

-- its files were read, and nothing was written
pub no_room : {A B W : Type 0} (Reads : A → Type 0) (Leaves : A → B → List ℕ → Type 0) (w : Went W) (WhyNo : FilesFault → Type 0)
    (r : Result B FilesFault) → IsErrAnd r (λ f. f ≡ FilesFault.Memory) → (input : A) → Reads input → w.new ≡ w.old
    → Carries Reads Leaves w WhyNo r
no_room Reads Leaves w WhyNo (Ok end) is input read same = absurd is
no_room Reads Leaves w WhyNo (Err f) is input read same = no_memory is input read same

-- its files were read, and the sink has failed
pub torn_as : {A B W : Type 0} (Reads : A → Type 0) (Leaves : A → B → List ℕ → Type 0) (w : Went W) (WhyNo : FilesFault → Type 0)
    (r : Result B FilesFault) → IsErrAnd r (λ f. f ≡ FilesFault.Write) → IsTorn Reads Leaves w → Carries Reads Leaves w WhyNo r
torn_as Reads Leaves w WhyNo (Ok end) is front = absurd is
torn_as Reads Leaves w WhyNo (Err f) is front = torn is front

-- it reads no files
pub no_text : {B W : Type 0} (Leaves : B → List ℕ → Type 0) (w : Went W) (r : Result B FilesFault)
    → IsErrAnd r (λ f. f ≡ FilesFault.Memory) → w.new ≡ w.old → Prints Leaves w r
no_text Leaves w (Ok end) is same = absurd is
no_text Leaves w (Err f) is same = no_memory is tt tt same

-- a file is blamed
pub blamed_as : {B : Type 0} (WhyNo : FilesFault → Type 0) (f : FilesFault) (r : Result B FilesFault) → IsErrAnd r (λ given. given ≡ f)
    → WhyNo f → IfErr r WhyNo
blamed_as WhyNo f (Ok end) is why = tt
blamed_as WhyNo f (Err given) is why = subst WhyNo (sym is) why

-- a file is blamed, and nothing was written
pub stops_at : {A B W : Type 0} (Reads : A → Type 0) (Leaves : A → B → List ℕ → Type 0) (w : Went W) (WhyNo : FilesFault → Type 0)
    (f : FilesFault) (r : Result B FilesFault) → IsErrAnd r (λ given. given ≡ f) → WhyNo f → w.new ≡ w.old → Carries Reads Leaves w WhyNo r
stops_at Reads Leaves w WhyNo f (Ok end) is why same = absurd is
stops_at Reads Leaves w WhyNo f (Err given) is why same = blamed (subst WhyNo (sym is) why) same

-- all files were read: one is blamed, or memory ran out
pub refuses : {A B W : Type 0} (Reads : A → Type 0) (Leaves : A → B → List ℕ → Type 0) (w : Went W) (WhyNo : FilesFault → Type 0)
    (f : FilesFault) (r : Result B FilesFault) → IsErrAnd r (λ given. given ≡ f) → (input : A) → Reads input → w.new ≡ w.old
    → WhyNo f ⊎ (f ≡ FilesFault.Memory) → Carries Reads Leaves w WhyNo r
refuses Reads Leaves w WhyNo f (Ok end) is input read same why = absurd is
refuses Reads Leaves w WhyNo f (Err given) is input read same (inl why) = blamed (subst WhyNo (sym is) why) same
refuses Reads Leaves w WhyNo f (Err given) is input read same (inr short) = no_memory (subst (λ (x : FilesFault). x ≡ FilesFault.Memory) (sym is) short) input read same

pub first_why : {P M Q : Type 0} → (P → Q) → P ⊎ M → Q ⊎ M
first_why h (inl p) = inl (h p)
first_why h (inr m) = inr m

-- the sink works, unless there was nothing to write
pub works_or_empty : (failed : Bool) (Same : Type 0) (xs : List ℕ) → (0 < length xs → failed ≡ false) → (length xs ≡ 0 → Same)
    → (failed ≡ false) ⊎ ((xs ≡ []) × Same)
works_or_empty failed Same [] works empty = inr (refl, empty refl)
works_or_empty failed Same (x ∷ xs) works empty = inl (works (omega arith))
