-- The bytes of one connection among those of all.
use Rattle.link_world.proofs.Names.{[], ◌++◌, ◌-◌, ◌<◌, ◌∙◌, ◌∷◌, ◌≡◌, ap, arith, Connection, length, Link, link_of, link_of_connection, links_of}
use Rattle.link_world.proofs.Names.{List, no_link, refl, slice_index_or, slice_set, suc, sym, with_link, zero, ℕ}

pub links_more : (cs : List Connection) (c : Connection) → links_of (cs ++ c ∷ []) ≡ links_of cs ++ link_of_connection c ∷ []
links_more [] c = refl
links_more (d ∷ cs) c = ap (λ (l : List Link). link_of_connection d ∷ l) (links_more cs c)

pub links_set : (cs : List Connection) (at : ℕ) (c : Connection)
    → links_of (slice_set cs at c) ≡ slice_set (links_of cs) at (link_of_connection c)
links_set [] at c = refl
links_set (d ∷ cs) zero c = refl
links_set (d ∷ cs) (suc at) c = ap (λ (l : List Link). link_of_connection d ∷ l) (links_set cs at c)

pub links_get : (cs : List Connection) (at : ℕ) (c : Connection) → at < length cs → c ≡ slice_index_or cs at c
    → slice_index_or (links_of cs) at no_link ≡ link_of_connection c
links_get [] at c short is = absurd (omega (arith, short))
links_get (d ∷ cs) zero c short is = ap link_of_connection (sym is)
links_get (d ∷ cs) (suc at) c short is = links_get cs at c (omega (arith, short)) is

-- the same bytes there
pub links_same : (cs : List Connection) (at : ℕ) (c d : Connection) → at < length cs → c ≡ slice_index_or cs at c
    → link_of_connection d ≡ link_of_connection c → links_of (slice_set cs at d) ≡ links_of cs
links_same [] at c d short is same = refl
links_same (b ∷ cs) zero c d short is same = ap (λ (l : Link). l ∷ links_of cs) (same ∙ ap link_of_connection is)
links_same (b ∷ cs) (suc at) c d short is same = ap (λ (l : List Link). link_of_connection b ∷ l)
    (links_same cs at c d (omega (arith, short)) is same)

-- other bytes, on the connection of this number
pub link_put : (f : Link → Link) (cs : List Connection) (at number : ℕ) (c d : Connection) → at < length cs → c ≡ slice_index_or cs at c
    → at ≡ number - 1 → link_of_connection d ≡ f (link_of_connection c)
    → links_of (slice_set cs at d) ≡ with_link (links_of cs) number (f (link_of (links_of cs) number))
link_put f cs at number c d short is same put =
    let here : link_of (links_of cs) number ≡ link_of_connection c = ap (λ (n : ℕ). slice_index_or (links_of cs) n no_link) (sym same)
    ∙ links_get cs at c short is in
    links_set cs at d ∙ (ap (λ (l : Link). slice_set (links_of cs) at l) (put ∙ ap f (sym here))
    ∙ ap (λ (n : ℕ). slice_set (links_of cs) n (f (link_of (links_of cs) number))) same)
