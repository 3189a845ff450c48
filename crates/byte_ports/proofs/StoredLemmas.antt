-- What storing a piece and giving a part of one do to the pieces.
use Rattle.std.proofs.Common.{◌≡◌, ℕ, zero, suc, ◌<◌, ◌≤◌, Bool, true, false, if◌then◌else◌, nat_lt, List, [], ◌∷◌, ◌++◌, length, take}
use Rattle.std.proofs.Common.{drop, refl, sym, ap, ◌∙◌, rules, take-append-drop, append_assoc}
use Rattle.std.specs.List.{concat}
use Rattle.std.proofs.lemmas.List.{take_all}
use Rattle.std.proofs.lemmas.Bool.Decides.{nat_tests}
use Rattle.byte_ports.specs.Pieces.{next_piece, pieces_after, HoldBytes, HoldMore}

HoldBytes-push : (ps : List (List ℕ)) (p : List ℕ) → HoldBytes ps → 0 < length p → HoldBytes (ps ++ p ∷ [])
HoldBytes-push [] p h some = (some, tt)
HoldBytes-push (q ∷ ps) p h some = (h.0, HoldBytes-push ps p h.1 some)

-- a piece that has bytes may be stored after the others
pub HoldMore-push : (n : ℕ) (ps : List (List ℕ)) (p : List ℕ) → HoldMore n ps → 0 < length p → HoldMore n (ps ++ p ∷ [])
HoldMore-push n [] p h some = (rw h some, tt)
HoldMore-push n (q ∷ ps) p h some = (h.0, HoldBytes-push ps p h.1 some)

concat-cut : (n : ℕ) (p : List ℕ) (ps : List (List ℕ)) (b : Bool) → nat_lt n (length p) ≡ b
    → concat (p ∷ ps) ≡ take n p ++ concat (if b then drop n p ∷ ps else ps)
concat-cut n p ps true e = ap (λ l. l ++ concat ps) (sym (take-append-drop n p)) ∙ append_assoc (take n p) (drop n p) (concat ps)
concat-cut n p ps false e =
    let all : length p ≤ n = search (rules, nat_tests) in
    ap (λ l. l ++ concat ps) (sym (take_all n p all))

-- n bytes of the next piece are the first of all that are to come
pub concat-pieces_after : (n : ℕ) (ps : List (List ℕ)) → n ≤ length (next_piece ps)
    → concat ps ≡ take n (next_piece ps) ++ concat (pieces_after n ps)
concat-pieces_after zero [] within = refl
concat-pieces_after (suc n) [] within = refl
concat-pieces_after n (p ∷ ps) within = concat-cut n p ps (nat_lt n (length p)) refl

-- what the check needs for a pull
pub ruleset given = (concat-pieces_after)
