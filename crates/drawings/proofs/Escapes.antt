-- What an escaped text is made of.
use Rattle.drawings.proofs.Names.{[], ◌++◌, ◌∷◌, ◌≡◌, escaped, is_plain, List, list_all, refl, true, ℕ}
use Rattle.std.proofs.Common.{Bool, cond, eqb, false, codes}

by_tests : (b : ℕ) (amp less more quote : Bool) → eqb b 38 ≡ amp → eqb b 60 ≡ less → eqb b 62 ≡ more → eqb b 34 ≡ quote → (rest : List ℕ)
    → list_all is_plain rest ≡ true
    → list_all is_plain (cond amp (codes "&amp;") (cond less (codes "&lt;") (cond more (codes "&gt;") (cond quote (codes "&quot;") (b ∷ [])))) ++ rest)
    ≡ true
by_tests b true less more quote a l m q rest h = h
by_tests b false true more quote a l m q rest h = h
by_tests b false false true quote a l m q rest h = h
by_tests b false false false true a l m q rest h = h
by_tests b false false false false a l m q rest h = rw (l, m, q) h

pub plain : (text : List ℕ) → list_all is_plain (escaped text) ≡ true
plain [] = refl
plain (b ∷ text) = by_tests b (eqb b 38) (eqb b 60) (eqb b 62) (eqb b 34) refl refl refl refl (escaped text) (plain text)
