-- A statement that continues after a line.
use Rattle.dmis_text.proofs.Names.{[], ◌&&◌, ◌++◌, ◌||◌, ◌∙◌, ◌∷◌, ◌≡◌, all_blank, ap, append-nil, append_assoc, Bool, cut_at, element_of, eqb}
use Rattle.dmis_text.proofs.Names.{eqb-true, false, is_blank, List, map, None, onto_first, Option, pieces, refl, Some, sym, true, ℕ}
use Rattle.dmis_text.proofs.Splitting.{pieces_at, pieces_by_cut, pieces_some, pieces_none}
use Rattle.dmis_text.proofs.SplittingLaws.{cut_is}
use Rattle.dmis_text.proofs.Capitals.{blank_turns}

-- a cut stays where it is, whatever follows
pub cut_more : (mark : ℕ) (text front behind more : List ℕ) → cut_at mark false text ≡ Some (front, behind)
    → cut_at mark false (text ++ more) ≡ Some (front, behind ++ more)
cut_more mark text front behind more e =
    let cut = (cut_is mark text front behind).1 e in
    (cut_is mark (text ++ more) front (behind ++ more)).0 (record {
      parts = ap (λ (xs : List ℕ). xs ++ more) cut.parts ∙ append_assoc front (mark ∷ behind) more;
      closed = cut.closed;
      first = cut.first;
    })

-- and so does the first piece
pub pieces_more : (text front behind more : List ℕ) → cut_at 44 false text ≡ Some (front, behind)
    → pieces false (text ++ more) ≡ front ∷ pieces false (behind ++ more)
pieces_more text front behind more e = pieces_some (text ++ more) front (behind ++ more) (cut_more 44 text front behind more e)

-- a blank is no comma
blank_is_no_comma : (c : ℕ) → is_blank c ≡ true → eqb c 44 ≡ false
blank_is_no_comma c e = go (eqb c 32) refl e
  where
    go : (b : Bool) → eqb c 32 ≡ b → (b || eqb c 9) ≡ true → eqb c 44 ≡ false
    go true space e = rw (eqb-true c 32 space) refl
    go false other e = rw (eqb-true c 9 e) refl

onto_blank : (c : ℕ) (bytes : List ℕ) (o : Option (List ℕ × List ℕ)) → is_blank c ≡ true
    → map element_of (onto_first c (pieces_at bytes o)) ≡ map element_of (pieces_at bytes o)
onto_blank c bytes None e = rw e refl
onto_blank c bytes (Some p) e = rw e refl

-- blanks in front of the first piece count for nothing
pub blanks_before : (blanks text : List ℕ) → all_blank blanks ≡ true
    → map element_of (pieces false (blanks ++ text)) ≡ map element_of (pieces false text)
blanks_before [] text e = refl
blanks_before (c ∷ cs) text e = go (λ k. blanks_before cs text k) (is_blank c) refl e
  where
    go : (all_blank cs ≡ true → map element_of (pieces false (cs ++ text)) ≡ map element_of (pieces false text)) → (b : Bool) → is_blank c ≡ b
        → (b && all_blank cs) ≡ true
        → map element_of (pieces false (c ∷ cs ++ text)) ≡ map element_of (pieces false text)
    go rest false other e = cc
    go rest true blank e = rw (blank_is_no_comma c blank, blank_turns c blank, pieces_by_cut false (cs ++ text))
        (onto_blank c (cs ++ text) (cut_at 44 false (cs ++ text)) blank
        ∙ sym (ap (map element_of) (pieces_by_cut false (cs ++ text)))
        ∙ rest e)

-- all pieces but the last, and the last after them
pub pieces_to_last : (made texts : List (List ℕ)) (last bytes : List ℕ) → ((more : List ℕ) → made ++ map element_of (pieces false (last ++ more))
    ≡ texts ++ map element_of (pieces false (bytes ++ more)))
    → cut_at 44 false last ≡ None → made ++ element_of last ∷ [] ≡ texts ++ map element_of (pieces false bytes)
pieces_to_last made texts last bytes cut none =
    let whole : made ++ map element_of (pieces false last) ≡ texts ++ map element_of (pieces false bytes) =
    ap (λ (xs : List ℕ). made ++ map element_of (pieces false xs)) (sym (append-nil last)) ∙ cut []
    ∙ ap (λ (xs : List ℕ). texts ++ map element_of (pieces false xs)) (append-nil bytes) in
    ap (λ (ps : List (List ℕ)). made ++ map element_of ps) (sym (pieces_none last none)) ∙ whole

-- where the last piece is blank it counts for nothing
pub over_blanks : (made texts : List (List ℕ)) (last front behind : List ℕ) → ((more : List ℕ) → made ++ map element_of (pieces false (last ++ more))
    ≡ texts ++ map element_of (pieces false (front ++ more)))
    → texts ≡ [] → all_blank last ≡ true
    → made ++ map element_of (pieces false behind) ≡ map element_of (pieces false (front ++ behind))
over_blanks made texts last front behind cut none blank =
    ap (λ (ps : List (List ℕ)). made ++ ps) (sym (blanks_before last behind blank)) ∙ cut behind
    ∙ ap (λ (ts : List (List ℕ)). ts ++ map element_of (pieces false (front ++ behind))) none

-- for the code that splits over lines
pub ruleset over_lines = (cut_more, pieces_more, pieces_none, blanks_before, append_assoc)
