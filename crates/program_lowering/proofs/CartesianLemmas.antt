-- Statements with Cartesian coordinates: the lines from which they are read back, and which stay as they are.
use Rattle.program_lowering.proofs.Names.{[], ◌&&◌, ◌∷◌, ◌≡◌, arith, Bool, codes, cond, false, is_none, is_unsupported, List, None, Option}
use Rattle.program_lowering.proofs.Names.{refl, Result, Some, Statement, true, ℕ}
use Rattle.std.proofs.lemmas.Slice.Eq.{bytes_eq-Decides}
use Rattle.std.specs.Str.{bytes_eq}
use Rattle.dmis_program.specs.Keywords.{is_among, keyword_of}
use Rattle.dmis_program.specs.Parameters.{is_other_coordinates}
use Rattle.program_flow.specs.declared.faults.ValueFault.{ValueFault}
use Rattle.program_lowering.specs.Carried.{GivesLine, line_if, line_with}
use Rattle.program_lowering.specs.Cartesian.{cartesian, cartesian_params, made_cartesian}
use Rattle.program_lowering.specs.EvenTouches.{moving}
use Rattle.program_lowering.specs.Valued.{with_params}
use Rattle.program_lowering.specs.declared.cartesian.Reference.{Reference}
use Rattle.program_lowering.proofs.ValuedLemmas.{GoodWord, among_all, read_is}

pub moving_good : (word : List ℕ) → is_among word moving ≡ true → GoodWord word
moving_good word e = among_all GoodWord word moving
    (record { solid = refl; some = omega arith; short = omega arith }, (record { solid = refl; some = omega arith; short = omega arith }, tt)) e

pub gives_cartesian : (ref : Reference) (s : Statement) (line : Option (List ℕ)) → line ≡ line_if s.word (made_cartesian ref s)
    → GivesLine line s (cartesian ref s)
gives_cartesian ref s line h = go (is_none s.label) (is_among s.word moving) (cartesian_params ref s.word s.params) refl h
  where
    go : (a b : Bool) (o : Option (Result (List (List ℕ)) ValueFault)) → is_among s.word moving ≡ b → line ≡ line_if s.word (cond (a && b) o None)
        → GivesLine line s (with_params s (cond (a && b) o None))
    go true true (Some made) e l = rw l (read_is s.word (line_with s.word made) made (moving_good s.word e) refl, refl)
    go true true None e l = rw l refl
    go true false o e l = rw l refl
    go false b o e l = rw l refl

-- what has no other coordinates stays
not_form : (form other : List ℕ) (rest : List (List ℕ)) → is_other_coordinates (form ∷ rest) ≡ false → is_other_coordinates (other ∷ rest) ≡ true
    → bytes_eq form other ≡ false
not_form form other rest h o = go (bytes_eq form other) refl
  where
    go : (b : Bool) → bytes_eq form other ≡ b → b ≡ false
    go false e = refl
    go true e = let is = (bytes_eq-Decides form other).0 e in let same = rw is at h in absurd cc

no_params : (ref : Reference) (word : List ℕ) (params : List (List ℕ)) → is_other_coordinates params ≡ false → cartesian_params ref word params ≡ None
no_params ref word [] h = refl
no_params ref word (form ∷ rest) h = rw (not_form form (codes "POL") rest h refl, not_form form (codes "INCR") rest h refl) refl

pub cartesian_already : (ref : Reference) (s : Statement) → (is_among s.word moving ≡ true → is_other_coordinates s.params ≡ false) → cartesian ref s ≡ s
cartesian_already ref s h = go (is_none s.label) (is_among s.word moving) refl
  where
    go : (a b : Bool) → is_among s.word moving ≡ b → with_params s (cond (a && b) (cartesian_params ref s.word s.params) None) ≡ s
    go true true e = rw (no_params ref s.word s.params (h e)) refl
    go true false e = refl
    go false b e = refl

pub accepted_already : (first : Bool) (ref : Reference) (s : Statement) → is_unsupported first (keyword_of s.word) s.params ≡ false → cartesian ref s ≡ s
unfolding keyword_of
accepted_already first ref s h = cartesian_already ref s (λ e. among_all
    (λ (word : List ℕ). is_unsupported first (keyword_of word) s.params ≡ false → is_other_coordinates s.params ≡ false) s.word moving
    ((λ g. g), ((λ g. g), tt)) e h)
