-- A name is between its mark and a `)`.
use Rattle.dmis_program.proofs.Names.{[], ◌++◌, ◌+◌, ◌-◌, ◌<◌, ◌==◌, ◌∙◌, ◌∷◌, ◌≡◌, ap, arith, before_close, begins, Bool, codes, cond, Decides-eqb}
use Rattle.dmis_program.proofs.Names.{drop, drop-append_seam, eqb-true, false, folded, get_or, get_or_push, is_name_text, length, length-append, List}
use Rattle.dmis_program.proofs.Names.{name_of, None, Option, option_and_then, refl, Some, starts_is, sym, take, take-append_seam, take-length}
use Rattle.dmis_program.proofs.Names.{take_more, true, ℕ}
use Rattle.std.specs.Bool.{Decides}
use Rattle.dmis_program.specs.Parameters.{name_within}

-- the bytes of a text in front are there
byte_test : (a b : ℕ) → Decides (a == b) (a ≡ b)
byte_test a b = Decides-eqb a b

begins_front : (front rest : List ℕ) → begins front (front ++ rest) ≡ true
begins_front front rest = (starts_is byte_test (front ++ rest) front (begins front (front ++ rest)) refl).1 rest refl

begins_parts : (front text : List ℕ) → begins front text ≡ true → text ≡ front ++ drop (length front) text
begins_parts front text h = (starts_is byte_test text front (begins front text) refl).0 h

-- what precedes a `)` at the end
closed_at : (inner : List ℕ) → before_close (inner ++ 41 ∷ []) ≡ Some inner
closed_at inner =
    let e : length (inner ++ 41 ∷ []) - 1 ≡ length inner = omega (arith, length-append inner (41 ∷ [])) in
    rw (e, get_or_push inner 41 0 (length inner) refl, take-append_seam inner (41 ∷ [])) refl

closing : (b : Bool) (text inner : List ℕ) → (get_or text (length text - 1) 0 == 41) ≡ b → 0 < length text
    → cond b (Some (take (length text - 1) text)) None ≡ Some inner → text ≡ inner ++ 41 ∷ []
closing false text inner t some h = absurd cc
closing true text inner t some h =
    let front : take (length text - 1) text ≡ inner = cc in
    let last : get_or text (length text - 1) 0 ≡ 41 = eqb-true (get_or text (length text - 1) 0) 41 t in
    let all : length text - 1 + 1 ≡ length text = omega arith in
    sym (take-length text) ∙ ap (λ (n : ℕ). take n text) (sym all) ∙ take_more text (length text - 1) 0 (omega arith)
    ∙ rw (front, last) refl

closed_parts : (text inner : List ℕ) → before_close text ≡ Some inner → text ≡ inner ++ 41 ∷ []
closed_parts [] inner h = absurd cc
closed_parts (t ∷ ts) inner h = closing (get_or (t ∷ ts) (length (t ∷ ts) - 1) 0 == 41) (t ∷ ts) inner refl (omega arith) h

pub written : (front inner : List ℕ) → is_name_text inner ≡ true → name_within front (front ++ (inner ++ codes ")")) ≡ Some (folded inner)
unfolding name_within
written front inner h = rw (begins_front front (inner ++ codes ")"), drop-append_seam front (inner ++ codes ")"), closed_at inner, h) refl

-- the name that was found
record IsWritten (front text name : List ℕ) : Type 0 where
  inner : List ℕ
  parts : text ≡ front ++ (inner ++ codes ")")
  named : is_name_text inner ≡ true
  is : name ≡ folded inner

named_inner : (b : Bool) (text name : List ℕ) → cond b (Some (folded text)) None ≡ Some name → (b ≡ true) × (name ≡ folded text)
named_inner true text name h = (refl, cc)
named_inner false text name h = absurd cc

from_inner : (front text name : List ℕ) (o : Option (List ℕ)) → before_close (drop (length front) text) ≡ o → begins front text ≡ true
    → option_and_then name_of o ≡ Some name → IsWritten front text name
from_inner front text name None e h g = absurd cc
from_inner front text name (Some inner) e h g =
    let found = named_inner (is_name_text inner) inner name g in
    record {
      inner = inner;
      parts = begins_parts front text h ∙ ap (λ (rest : List ℕ). front ++ rest)
          (closed_parts (drop (length front) text) inner e);
      named = found.0;
      is = found.1;
    }

from_front : (front text name : List ℕ) (b : Bool) → begins front text ≡ b
    → cond b (option_and_then name_of (before_close (drop (length front) text))) None ≡ Some name → IsWritten front text name
from_front front text name true e h = from_inner front text name (before_close (drop (length front) text)) refl e h
from_front front text name false e h = absurd cc

pub only : (front text name : List ℕ) → name_within front text ≡ Some name → (inner : List ℕ) × (text ≡ front ++ (inner ++ codes ")"))
    × (is_name_text inner ≡ true) × (name ≡ folded inner)
unfolding name_within
only front text name h = let w = from_front front text name (begins front text) refl h in (w.inner, w.parts, w.named, w.is)
