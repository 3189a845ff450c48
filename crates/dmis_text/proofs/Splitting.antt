-- Pieces as repeated cuts.
use Rattle.dmis_text.proofs.Names.{[], ◌&&◌, ◌++◌, ◌∙◌, ◌∷◌, ◌≡◌, ap, append_assoc, Bool, cond, cut_at, eqb, false, last_element, List, None, not}
use Rattle.dmis_text.proofs.Names.{onto_first, onto_front, Option, option_map, pieces, refl, Some, true, turned, ℕ}

-- a cut with more bytes in front
abbrev pub put_before : List ℕ → Option (List ℕ × List ℕ) → Option (List ℕ × List ℕ)
put_before front None = None
put_before front (Some p) = Some (front ++ p.0, p.1)

-- the pieces by the first cut
abbrev pub pieces_at : List ℕ → Option (List ℕ × List ℕ) → List (List ℕ)
pieces_at bytes None = bytes ∷ []
pieces_at bytes (Some p) = p.0 ∷ pieces false p.1

onto_cut : (c : ℕ) (cs : List ℕ) (o : Option (List ℕ × List ℕ))
    → onto_first c (pieces_at cs o) ≡ pieces_at (c ∷ cs) (option_map (onto_front c) o)
onto_cut c cs None = refl
onto_cut c cs (Some p) = refl

pub pieces_by_cut : (inside : Bool) (bytes : List ℕ) → pieces inside bytes ≡ pieces_at bytes (cut_at 44 inside bytes)
pieces_by_cut inside [] = refl
pieces_by_cut inside (c ∷ cs) = go (pieces_by_cut (turned inside c) cs) (not inside && eqb c 44) refl
  where
    go : pieces (turned inside c) cs ≡ pieces_at cs (cut_at 44 (turned inside c) cs) → (t : Bool) → (not inside && eqb c 44) ≡ t
        → pieces inside (c ∷ cs) ≡ pieces_at (c ∷ cs) (cut_at 44 inside (c ∷ cs))
    go rest true e = rw e
    go rest false e = rw (e, rest) (onto_cut c cs (cut_at 44 (turned inside c) cs))

-- without a comma outside texts the whole is one piece
pub pieces_none : (bytes : List ℕ) → cut_at 44 false bytes ≡ None → pieces false bytes ≡ bytes ∷ []
pieces_none bytes e = pieces_by_cut false bytes ∙ ap (pieces_at bytes) e

-- else the first piece ends at the first one
pub pieces_some : (bytes front behind : List ℕ) → cut_at 44 false bytes ≡ Some (front, behind)
    → pieces false bytes ≡ front ∷ pieces false behind
pieces_some bytes front behind e = pieces_by_cut false bytes ∙ ap (pieces_at bytes) e

-- the last element of a statement with parameters
pub last_element_at : (word last : List ℕ) (front : List (List ℕ)) → last_element word (front ++ last ∷ []) ≡ last
last_element_at word last [] = refl
last_element_at word last (p ∷ ps) = last_element_at p last ps

-- for the code that splits parameters
pub ruleset splits = (pieces_none, pieces_some, append_assoc)
