-- The table of variables is carried forward, and says the same as looking back.
use Rattle.std.proofs.Common.{◌≡◌, ℕ, Bool, true, false, List, [], ◌∷◌, refl, sym, ap, ◌∙◌}
use Rattle.std.specs.Prelude.{Option, Some, None, bytes_eq, if◌then◌else◌}
use Rattle.std.proofs.lemmas.Slice.Eq.{bytes_eq-Decides}
use Rattle.program_flow.specs.Variables.{Entry, find, next_place, place_of, put, put_at}

-- a name that is first in two places is the same
merged : {A : Type 0} (a b : Bool) (x e r : A) → (a ≡ true → b ≡ true → ⊥)
    → (if a then x else (if b then e else r)) ≡ (if b then e else (if a then x else r))
merged true true x e r h = absurd (h refl refl)
merged true false x e r h = refl
merged false true x e r h = refl
merged false false x e r h = refl

same_test : {A : Type 0} (a b : Bool) (x e r : A) → a ≡ b → (if b then e else r) ≡ (if b then e else (if a then x else r))
same_test true true x e r h = refl
same_test false false x e r h = refl
same_test true false x e r h = absurd cc
same_test false true x e r h = absurd cc

both : (x e name : List ℕ) → bytes_eq x e ≡ false → bytes_eq x name ≡ true → bytes_eq e name ≡ true → ⊥
both x e name apart h g =
    let p = (bytes_eq-Decides x name).0 h in
    let q = (bytes_eq-Decides e name).0 g in
    let r = (bytes_eq-Decides x e).1 (p ∙ sym q) in
    absurd cc

put-next : (entry x : Entry) (es : List Entry) (p : Option ℕ) → put_at entry (x ∷ es) (next_place p) ≡ x ∷ put_at entry es p
put-next entry x es None = refl
put-next entry x es (Some i) = refl

find-put-with : (entry x : Entry) (es : List Entry) (name : List ℕ) (b : Bool) → bytes_eq x.name entry.name ≡ b
    → find (put entry es) name ≡ (if bytes_eq entry.name name then Some entry else find es name)
    → find (put_at entry (x ∷ es) (if b then Some 0 else next_place (place_of es entry.name))) name
    ≡ (if bytes_eq entry.name name then Some entry else (if bytes_eq x.name name then Some x else find es name))
find-put-with entry x es name true h rest = same_test (bytes_eq x.name name) (bytes_eq entry.name name) (Some x) (Some entry) (find es name)
    (ap (λ n. bytes_eq n name) ((bytes_eq-Decides x.name entry.name).0 h))
find-put-with entry x es name false h rest = ap (λ t. find t name) (put-next entry x es (place_of es entry.name))
    ∙ (ap (λ r. if bytes_eq x.name name then Some x else r) rest
    ∙ merged (bytes_eq x.name name) (bytes_eq entry.name name) (Some x) (Some entry) (find es name) (both x.name entry.name name h))

pub find-put : (entry : Entry) (es : List Entry) (name : List ℕ) → find (put entry es) name ≡ (if bytes_eq entry.name name then Some entry else find es name)
find-put entry [] name = refl
find-put entry (x ∷ es) name = find-put-with entry x es name (bytes_eq x.name entry.name) refl (find-put entry es name)
