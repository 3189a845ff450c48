-- Small facts on tests, tags and lists.
use Rattle.protocol_model.proofs.Names.{◌&&◌, ◌≡◌, ap, Bool, cond, eq-eqb, eqb-true, false, false≢true, refl, Std, Tag, tag_is, true}
use Rattle.dme_line.specs.declared.tags.Tag.TheVariants.{Event}

-- a test goes one way or the other
pub if_cases : {A : Type 0} (b : Bool) (x y z : A) (P : Type 0) → cond b x y ≡ z → (b ≡ true → x ≡ z → P) → (b ≡ false → y ≡ z → P) → P
if_cases true x y z P e yes_case no_case = yes_case refl e
if_cases false x y z P e yes_case no_case = no_case refl e

-- a choice whose test is true
pub if_true : {A : Type 0} (b : Bool) (x y : A) → b ≡ true → cond b x y ≡ x
if_true b x y e = ap (λ (c : Bool). cond c x y) e

-- a choice whose test is false
pub if_false : {A : Type 0} (b : Bool) (x y : A) → b ≡ false → cond b x y ≡ y
if_false b x y e = ap (λ (c : Bool). cond c x y) e

-- a tag is itself
pub tag_is-refl : (t : Tag) → tag_is t t ≡ true
tag_is-refl (Std n) = eq-eqb n n refl
tag_is-refl (Event n) = eq-eqb n n refl

-- tags that are found alike are the same
pub tag_is-true : (t u : Tag) → tag_is t u ≡ true → t ≡ u
tag_is-true (Std n) (Std m) e = ap Std (eqb-true n m e)
tag_is-true (Std n) (Event m) e = absurd (false≢true e)
tag_is-true (Event n) (Std m) e = absurd (false≢true e)
tag_is-true (Event n) (Event m) e = ap Event (eqb-true n m e)

-- nothing and false is false
pub and_false : (b : Bool) → (b && false) ≡ false
and_false true = refl
and_false false = refl
