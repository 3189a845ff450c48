-- Points in their written form.
use Rattle.dme_line.proofs.Names.{[], ◌++◌, ◌∙◌, ◌∷◌, ◌≡◌, ap, Argument, argument_tokens, BeginsWithPoint, Close, codes, Comma, Direction}
use Rattle.dme_line.proofs.Names.{EndsWithAlong, HasCoordinates, IfSome, IsPlace, IsPointText, IsTarget, List, None, Ok, Open, Option, Point}
use Rattle.dme_line.proofs.Names.{point_tokens, ReadsDirection, refl, Single, Some, Token, tokens, triple_named, triple_of, ℕ}

-- three axes, one after the other
pub three_axes : (ts t u v w us : List Token) (x y z : List ℕ) → ts ≡ argument_tokens (Single (codes "X") x) ++ t → t ≡ Comma ∷ u
    → u ≡ argument_tokens (Single (codes "Y") y) ++ v → v ≡ Comma ∷ w → w ≡ argument_tokens (Single (codes "Z") z) ++ us
    → ts ≡ point_tokens x y z ++ us
three_axes ts t u v w us x y z p q r s e = cc

-- the target of a point that follows the first parenthesis
target_of : (x y z : List ℕ) (more : List Argument) (p : Point) → HasCoordinates x y z p
    → IsTarget (Single (codes "X") x ∷ Single (codes "Y") y ∷ Single (codes "Z") z ∷ more) p
target_of x y z more p h =
    record {
      x = record { numeral = x; found = refl; reads = h.x_reads };
      y = record { numeral = y; found = refl; reads = h.y_reads };
      z = record { numeral = z; found = refl; reads = h.z_reads };
    }

-- a point in its parentheses
pub written_move : (ts : List Token) (text rest : List ℕ) (p : Point) → BeginsWithPoint text rest p → ts ≡ Open ∷ tokens text
    → tokens rest ≡ Close ∷ [] → IsPlace ts p None
written_move ts text rest p h e f =
    record {
      arguments = Single (codes "X") h.x ∷ Single (codes "Y") h.y ∷ Single (codes "Z") h.z ∷ [];
      spelled = (let a = h.spelled in cc);
      target = target_of h.x h.y h.z [] p h.reads;
      ijk = refl;
    }

-- the direction after three axes
fourth_found : (x y z : List ℕ) (a : Argument) (words : List ℕ × List ℕ × List ℕ) → triple_of (codes "IJK") a ≡ Some words
    → triple_named (codes "IJK") (Single (codes "X") x ∷ Single (codes "Y") y ∷ Single (codes "Z") z ∷ a ∷ []) ≡ Some words
fourth_found x y z a words e = rw e refl

-- a point with a direction in its parentheses
pub written_touch : (ts : List Token) (text rest : List ℕ) (p : Point) (d : Direction) → BeginsWithPoint text rest p
    → ts ≡ Open ∷ tokens text → EndsWithAlong (tokens rest) d → IsPlace ts p (Some d)
written_touch ts text rest p d h e f =
    record {
      arguments = Single (codes "X") h.x ∷ Single (codes "Y") h.y ∷ Single (codes "Z") h.z ∷ f.argument ∷ [];
      spelled = (let a = h.spelled in let b = f.spelled in cc);
      target = target_of h.x h.y h.z (f.argument ∷ []) p h.reads;
      ijk = (refl, record { words = f.words; found = fourth_found h.x h.y h.z f.argument f.words f.found; reads = f.reads });
    }

-- what three words after three axes say
pub along_behind : (ts us : List Token) (a : Argument) (words : List ℕ × List ℕ × List ℕ) (o : Option Direction)
    → triple_of (codes "IJK") a ≡ Some words → ts ≡ Comma ∷ (argument_tokens a ++ us) → us ≡ Close ∷ []
    → ReadsDirection words.0 words.1 words.2 (Ok o) → IfSome o (λ d. EndsWithAlong ts d)
along_behind ts us a words None e f h g = tt
along_behind ts us a words (Some d) e f h g =
    record { argument = a; words = words; found = e; spelled = f ∙ ap (λ (t : List Token). Comma ∷ (argument_tokens a ++ t)) h; reads = g }

-- a point text
pub point_text : (text rest : List ℕ) (p : Point) → BeginsWithPoint text rest p → tokens rest ≡ []
    → ((more : List ℕ) → text ≡ 32 ∷ more → ⊥) → IsPointText text p
point_text text rest p h e flush =
    record { x = h.x; y = h.y; z = h.z; flush = flush; spelled = (let a = h.spelled in cc); reads = h.reads }
