-- The report list.
use Rattle.dme_line.proofs.Names.{[], ◌∷◌, ◌≡◌, Close, codes, Comma, is_word, IsReport, List, Open, Token, true, Word, ℕ}

-- after the second axis of a report comes the third
third_axis : (ts t u v w z : List Token) (a b : List ℕ) (h : IsReport ts) → ts ≡ Open ∷ t → t ≡ Word a ∷ Open ∷ Close ∷ u → u ≡ Comma ∷ v
    → v ≡ Word b ∷ Open ∷ Close ∷ w → w ≡ Comma ∷ z → z ≡ Word h.z ∷ Open ∷ Close ∷ Close ∷ []
third_axis ts t u v w z a b h p q r s x = let spelled = h.spelled in cc

pub no_third_axis : (ts t u v w z : List Token) (a b : List ℕ) → ts ≡ Open ∷ t → t ≡ Word a ∷ Open ∷ Close ∷ u → u ≡ Comma ∷ v
    → v ≡ Word b ∷ Open ∷ Close ∷ w → w ≡ Comma ∷ z → ((name : List ℕ) (us : List Token) → z ≡ Word name ∷ Open ∷ Close ∷ us
    → is_word (codes "Z") name ≡ true → ⊥) → IsReport ts → ⊥
no_third_axis ts t u v w z a b p q r s x none h = none h.z (Close ∷ []) (third_axis ts t u v w z a b h p q r s x) h.z_named
