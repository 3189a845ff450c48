-- A place is read in one way.
use Rattle.dme_line.proofs.Names.{◌∙◌, ◌≡◌, ap, Argument, arith, codes, component_limit, Direction, enclosed, Err, HasIjk, inl, inr, IsAlong, IsAxis}
use Rattle.dme_line.proofs.Names.{IsPlace, IsTarget, length, List, list_tokens, MatchOption, None, NumeralFault, Ok, Option, Point, pos, Reads}
use Rattle.dme_line.proofs.Names.{ReadsDirection, refl, single_named, Some, subst, sym, Token, triple_named, wire_limit, ℕ, ℤ}
use Rattle.std.proofs.lemmas.Option.{same_Some}
use Rattle.fixed_um.proofs.ReadLemmas.{one_reading}
use Rattle.dme_line.proofs.ArgumentLemmas.{same_arguments}

-- a numeral has one value
pub one_length : (scale limit : ℕ) (text : List ℕ) (x y : ℤ) → Reads scale limit text (Ok x) → Reads scale limit text (Ok y) → x ≡ y
one_length scale limit text x y f g = let e = one_reading scale limit text (Ok x) (Ok y) f g in cc

pub not_refused : (scale limit : ℕ) (text : List ℕ) (x : ℤ) (fault : NumeralFault) → Reads scale limit text (Ok x)
    → Reads scale limit text (Err fault) → ⊥
not_refused scale limit text x fault f g = let e = one_reading scale limit text (Ok x) (Err fault) f g in cc

pub axis_refused : (name numeral : List ℕ) (args : List Argument) (fault : NumeralFault) (value : ℤ) → single_named name args ≡ Some numeral
    → Reads 3 wire_limit numeral (Err fault) → IsAxis name args value → ⊥
axis_refused name numeral args fault value e f h =
    let same = same_Some numeral h.numeral (sym e ∙ h.found) in
    not_refused 3 wire_limit h.numeral value fault h.reads (subst (λ (t : List ℕ). Reads 3 wire_limit t (Err fault)) same f)

pub axis_missing : (name : List ℕ) (args : List Argument) (value : ℤ) → single_named name args ≡ None → IsAxis name args value → ⊥
axis_missing name args value e h = let f = h.found in cc

pub one_axis : (name : List ℕ) (args : List Argument) (x y : ℤ) → IsAxis name args x → IsAxis name args y → x ≡ y
one_axis name args x y f g =
    let same = same_Some f.numeral g.numeral (sym f.found ∙ g.found) in
    one_length 3 wire_limit g.numeral x y (subst (λ (t : List ℕ). Reads 3 wire_limit t (Ok x)) same f.reads) g.reads

-- three texts say one direction
same_direction : (d e : Direction) → d.i ≡ e.i → d.j ≡ e.j → d.k ≡ e.k → d ≡ e
same_direction d e p q r = λ n. record { i = p n; j = q n; k = r n }

pub one_direction : (i j k : List ℕ) (d e : Direction) → ReadsDirection i j k (Ok (Some d)) → ReadsDirection i j k (Ok (Some e)) → d ≡ e
one_direction i j k d e f g = same_direction d e (one_length 6 component_limit i d.i e.i f.0 g.0)
    (one_length 6 component_limit j d.j e.j f.1 g.1) (one_length 6 component_limit k d.k e.k f.2 g.2)

direction_refused : (i j k : List ℕ) (d : Direction) (fault : NumeralFault) → ReadsDirection i j k (Ok (Some d))
    → ReadsDirection i j k (Err fault) → ⊥
direction_refused i j k d fault f (inl g) = not_refused 6 component_limit i d.i fault f.0 g
direction_refused i j k d fault f (inr (inl g)) = not_refused 6 component_limit j d.j fault f.1 g.2
direction_refused i j k d fault f (inr (inr g)) = not_refused 6 component_limit k d.k fault f.2 g.4

direction_zero : (i j k : List ℕ) (d : Direction) → ReadsDirection i j k (Ok (Some d)) → ReadsDirection i j k (Ok None) → ⊥
direction_zero i j k d f g =
    f.3.not_zero (one_length 6 component_limit i d.i (pos 0) f.0 g.0) (one_length 6 component_limit j d.j (pos 0) f.1 g.1)
    (one_length 6 component_limit k d.k (pos 0) f.2 g.2)

along_words : (args : List Argument) (words : List ℕ × List ℕ × List ℕ) (d : Direction) → Some words ≡ triple_named (codes "IJK") args
    → IsAlong args d → ReadsDirection words.0 words.1 words.2 (Ok (Some d))
along_words args words d e h =
    let same = same_Some h.words words (sym h.found ∙ sym e) in
    subst (λ (w : List ℕ × List ℕ × List ℕ). ReadsDirection w.0 w.1 w.2 (Ok (Some d))) same h.reads

pub along_refused : (args : List Argument) (words : List ℕ × List ℕ × List ℕ) (d : Direction) (fault : NumeralFault)
    → Some words ≡ triple_named (codes "IJK") args → ReadsDirection words.0 words.1 words.2 (Err fault) → IsAlong args d → ⊥
along_refused args words d fault e g h = direction_refused words.0 words.1 words.2 d fault (along_words args words d e h) g

-- what three words say is the direction
pub along_is : (args : List Argument) (words : List ℕ × List ℕ × List ℕ) (o : Option Direction)
    → Some words ≡ triple_named (codes "IJK") args → ReadsDirection words.0 words.1 words.2 (Ok o)
    → MatchOption o ((d : Direction) → IsAlong args d → ⊥) (λ d. IsAlong args d)
along_is args words None e g = λ d h. direction_zero words.0 words.1 words.2 d (along_words args words d e h) g
along_is args words (Some d) e g = record { words = words; found = sym e; reads = g }

pub one_along : (args : List Argument) (d e : Direction) → IsAlong args d → IsAlong args e → d ≡ e
one_along args d e f g = one_direction g.words.0 g.words.1 g.words.2 d e (along_words args g.words d (sym g.found) f) g.reads

-- three axes are one point
pub same_point : (p q : Point) → p.x ≡ q.x → p.y ≡ q.y → p.z ≡ q.z → p ≡ q
same_point p q f g h = λ n. record { x = f n; y = g n; z = h n }

pub one_target : (args : List Argument) (p q : Point) → IsTarget args p → IsTarget args q → p ≡ q
one_target args p q f g = same_point p q (one_axis (codes "X") args p.x q.x f.x g.x) (one_axis (codes "Y") args p.y q.y f.y g.y)
    (one_axis (codes "Z") args p.z q.z f.z g.z)

-- ---- a place whose arguments are known

pub place_target : (ts : List Token) (args : List Argument) (p : Point) (d : Option Direction) → ts ≡ enclosed (list_tokens args)
    → IsPlace ts p d → IsTarget args p
place_target ts args p d e h = subst (λ (x : List Argument). IsTarget x p) (same_arguments h.arguments args (sym h.spelled ∙ e)) h.target

pub place_ijk : (ts : List Token) (args : List Argument) (p : Point) (d : Option Direction) → ts ≡ enclosed (list_tokens args)
    → IsPlace ts p d → HasIjk args d
place_ijk ts args p d e h = subst (λ (x : List Argument). HasIjk x d) (same_arguments h.arguments args (sym h.spelled ∙ e)) h.ijk

pub no_target : (ts : List Token) (args : List Argument) → ts ≡ enclosed (list_tokens args) → ((p : Point) → IsTarget args p → ⊥)
    → (p : Point) (d : Option Direction) → IsPlace ts p d → ⊥
no_target ts args e none p d h = none p (place_target ts args p d e h)

pub no_along : (ts : List Token) (args : List Argument) → ts ≡ enclosed (list_tokens args) → length args ≡ 4
    → ((d : Direction) → IsAlong args d → ⊥) → (p : Point) (d : Option Direction) → IsPlace ts p d → ⊥
no_along ts args e long none p None h = absurd (omega (arith, long, place_ijk ts args p None e h))
no_along ts args e long none p (Some d) h = none d (place_ijk ts args p (Some d) e h).1

-- a place has one direction or none
same_ijk : (args : List Argument) (d e : Option Direction) → HasIjk args d → HasIjk args e → d ≡ e
same_ijk args None None f g = refl
same_ijk args None (Some e) f g = absurd (omega (arith, f, g.0))
same_ijk args (Some d) None f g = absurd (omega (arith, f.0, g))
same_ijk args (Some d) (Some e) f g = ap (λ (x : Direction). Some x) (one_along args d e f.1 g.1)

-- tokens say one place
pub record SamePlace (p q : Point) (d e : Option Direction) : Type 0 where
  pub target : p ≡ q
  pub ijk : d ≡ e

pub one_place : (ts : List Token) (p q : Point) (d e : Option Direction) → IsPlace ts p d → IsPlace ts q e → SamePlace p q d e
one_place ts p q d e f g =
    record {
      target = one_target g.arguments p q (place_target ts g.arguments p d g.spelled f) g.target;
      ijk = same_ijk g.arguments d e (place_ijk ts g.arguments p d g.spelled f) g.ijk;
    }

-- a place with a direction is no place without one
pub no_move : (ts : List Token) (p : Point) (d : Option Direction) → IsPlace ts p d → (d ≡ None → ⊥) → (q : Point) → IsPlace ts q None → ⊥
no_move ts p d f some q g = some (one_place ts p q d None f g).ijk
