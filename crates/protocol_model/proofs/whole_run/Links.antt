-- Lists of connections.
use Rattle.protocol_model.proofs.Names.{[], ◌++◌, ◌-◌, ◌∙◌, ◌∷◌, ◌≡◌, ◌≤◌, ap, arith, get_or, get_or-set_other, get_or-set_same, length, length-set}
use Rattle.protocol_model.proofs.Names.{Link, link_of, List, no_link, suc, with_link, ℕ}
use Rattle.std.proofs.Math.ListN.{get_or-append}
use Rattle.std.proofs.Math.Seq.{get_or-append_seam}

-- a connection that is given other bytes has these
pub link_same : (links : List Link) (n : ℕ) (l : Link) → 1 ≤ n → n ≤ length links → link_of (with_link links n l) n ≡ l
link_same links n l from to = get_or-set_same links (n - 1) l no_link (omega arith)

-- if one connection is given other bytes, each other connection keeps its bytes
pub link_other : (links : List Link) (n m : ℕ) (l : Link) → 1 ≤ n → 1 ≤ m → (m ≡ n → ⊥) → link_of (with_link links n l) m ≡ link_of links m
link_other links n m l from also apart = get_or-set_other links (n - 1) (m - 1) l no_link (λ (e : m - 1 ≡ n - 1). go e)
  where
    go : m - 1 ≡ n - 1 → ⊥
    go e = apart (omega arith)

-- if one connection is given other bytes, the number of connections is unchanged
pub link_long : (links : List Link) (n : ℕ) (l : Link) → length (with_link links n l) ≡ length links
link_long links n l = length-set links (n - 1) l

-- with one connection more, each earlier one has the bytes that it had
pub link_old : (links : List Link) (m : ℕ) (l : Link) → 1 ≤ m → m ≤ length links → link_of (links ++ l ∷ []) m ≡ link_of links m
link_old links m l from to = get_or-append links (l ∷ []) no_link (m - 1) (omega arith)

-- one connection more has the next number, and under it the bytes that it was given
pub link_new : (links : List Link) (l : Link) → link_of (links ++ l ∷ []) (suc (length links)) ≡ l
link_new links l = ap (λ (k : ℕ). get_or (links ++ l ∷ []) k no_link) one ∙ get_or-append_seam links l [] no_link
  where
    one : suc (length links) - 1 ≡ length links
    one = omega arith
