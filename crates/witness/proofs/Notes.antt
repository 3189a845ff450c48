-- What came for each command, with a line of the server more.
use Rattle.witness.proofs.JudgementNames.{[], ◌&&◌, ◌<◌, ◌∙◌, ◌∷◌, ◌≡◌, ap, AreNoted, Bool, false, get_or, has_mark, Heard, if◌then◌else◌, is_at, length}
use Rattle.witness.proofs.JudgementNames.{length-replicate, List, Mark, Moment, moment, None, noted, Option, option_or, refl, replicate, Reply, Sent}
use Rattle.witness.proofs.JudgementNames.{Some, subst, suc, sym, Tag, true, use_after, zero, ℕ}
use Rattle.witness.specs.declared.judged_lines.Heard.TheVariants.{Response}

or_none : {A : Type 0} (o : Option A) → o ≡ option_or o None
or_none None = refl
or_none (Some a) = refl

not_noted : (now : Moment) (b c : Bool) (o : Option Moment) → b ≡ false → o ≡ option_or o (if b && c then Some now else None)
not_noted now true c o is = absurd (cc)
not_noted now false c o is = or_none o

-- a mark of another sort
pub other : (c m : Mark) (up : List Sent) (above : List Heard) (t : Tag) (r : Reply) (notes : List (Option Moment)) → AreNoted c m up above notes
    → has_mark m r ≡ false → AreNoted c m up (Response t r ∷ above) notes
other c m up above t r notes are is = record {
  count = are.count;
  each = λ at short. are.each at short ∙ not_noted (moment up (Response t r ∷ above)) (has_mark m r) (is_at (use_after c up above t) at) (noted c m up above at) is;
}

own_noted : (now : Moment) (b c : Bool) (o : Option Moment) → b ≡ true
    → option_or o (if c then Some now else None) ≡ option_or o (if b && c then Some now else None)
own_noted now true c o is = refl
own_noted now false c o is = absurd (cc)

-- one of this sort
pub own : (c m : Mark) (up : List Sent) (above : List Heard) (t : Tag) (r : Reply) (old new : List (Option Moment)) (place : Option ℕ) (now : Moment)
    → AreNoted c m up above old → has_mark m r ≡ true → place ≡ use_after c up above t → now ≡ moment up (Response t r ∷ above)
    → length new ≡ length old
    → ((at : ℕ) → at < length old → get_or new at None ≡ option_or (get_or old at None) (if is_at place at then Some now else None))
    → AreNoted c m up (Response t r ∷ above) new
own c m up above t r old new place now are is there is_now count each = record {
  count = count ∙ are.count;
  each = λ at short. go at (subst (λ (n : ℕ). at < n) (sym are.count) short);
}
  where
    go : (at : ℕ) → at < length old → get_or new at None ≡ noted c m up (Response t r ∷ above) at
    go at short = each at short
        ∙ ap (λ (o : Option Moment). option_or o (if is_at place at then Some now else None)) (are.each at (subst (λ (n : ℕ). at < n) are.count short))
        ∙ ap (λ (p : Option ℕ). option_or (noted c m up above at) (if is_at p at then Some now else None)) there
        ∙ ap (λ (x : Moment). option_or (noted c m up above at) (if is_at (use_after c up above t) at then Some x else None)) is_now
        ∙ own_noted (moment up (Response t r ∷ above)) (has_mark m r) (is_at (use_after c up above t) at) (noted c m up above at) is

-- nothing came
nothing : (n at : ℕ) → get_or {A = Option Moment} (replicate n None) at None ≡ None
nothing zero zero = refl
nothing zero (suc at) = refl
nothing (suc n) zero = refl
nothing (suc n) (suc at) = nothing n at

none_of : (c m : Mark) (up : List Sent) (n : ℕ) → n ≡ length up → AreNoted c m up [] (replicate n None)
none_of c m up n count = record { count = length-replicate n None ∙ count; each = λ at short. nothing n at }

pub none : (c m : Mark) (up : List Sent) (notes : List (Option Moment)) → notes ≡ replicate (length up) None → AreNoted c m up [] notes
none c m up notes is = subst (λ (l : List (Option Moment)). AreNoted c m up [] l) (sym is) (none_of c m up (length up) refl)

-- likewise of a line that is such a response
pub other_of : (c m : Mark) (up : List Sent) (above : List Heard) (h : Heard) (t : Tag) (r : Reply) (notes : List (Option Moment)) → h ≡ Response t r
    → AreNoted c m up above notes → has_mark m r ≡ false → AreNoted c m up (h ∷ above) notes
other_of c m up above h t r notes heard are is =
    subst (λ (k : Heard). AreNoted c m up (k ∷ above) notes) (sym heard) (other c m up above t r notes are is)

pub own_of : (c m : Mark) (up : List Sent) (above : List Heard) (h : Heard) (t : Tag) (r : Reply) (old new : List (Option Moment)) (place : Option ℕ) (now : Moment)
    → h ≡ Response t r → AreNoted c m up above old → has_mark m r ≡ true → place ≡ use_after c up above t
    → now ≡ moment up (Response t r ∷ above) → length new ≡ length old
    → ((at : ℕ) → at < length old → get_or new at None ≡ option_or (get_or old at None) (if is_at place at then Some now else None))
    → AreNoted c m up (h ∷ above) new
own_of c m up above h t r old new place now heard are is there is_now count each =
    subst (λ (k : Heard). AreNoted c m up (k ∷ above) new) (sym heard)
    (own c m up above t r old new place now are is there is_now count each)
