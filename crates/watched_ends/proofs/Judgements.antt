-- What is printed of a judgement.
use Rattle.std.proofs.Common.{◌≡◌, ℕ, ◌==◌, Bool, true, List, [], ◌∷◌, length, take, Option, Some, refl, sym, subst, arith}
use Rattle.std.proofs.lemmas.Bool.{eqb-true}
use Rattle.std.specs.Prelude.{MatchOption}
use Rattle.witness.specs.declared.lines.Side.TheVariants.{Client, Server}
use Rattle.watched_ends.specs.Pieces.{IsOrder}
use Rattle.witness.specs.Judging.{IsJudged}
use Rattle.witness.specs.Orders.{Pieces, bytes_of, HasFirst}
use Rattle.witness.specs.JudgementTexts.{judgement_text, judgement_status}
use Rattle.witness.specs.declared.judgement.Judgement.{Judgement}
use Rattle.watched_ends.specs.Jobs.{IsOrderedJudgement, IsPlainJudgement}

pub found : {A : Type 0} (P : Type 0) (Q : A → Type 0) (o : Option A) (a : A) → o ≡ Some a → MatchOption o P Q → Q a
found {A} P Q o a is holds = subst (λ (x : Option A). MatchOption x P Q) is holds

pub ordered : (up down bytes first_up first_down : List ℕ) (pieces all these : Pieces) (whole : Bool) (j : Judgement) (text : List ℕ) (status : ℕ)
    → IsOrder bytes pieces → all ≡ pieces → HasFirst up down all whole → first_up ≡ take (bytes_of Client all) up
    → first_down ≡ take (bytes_of Server all) down → these ≡ pieces → IsJudged first_up first_down these j
    → text ≡ judgement_text j → status ≡ judgement_status j → IsOrderedJudgement up down bytes text status whole
ordered up down bytes first_up first_down pieces all these whole j text status order all_is first up_is down_is these_is holds text_is status_is = record {
  pieces = pieces;
  order_is = order;
  first = subst (λ (p : Pieces). HasFirst up down p whole) all_is first;
  judged = j;
  holds = subst (λ (p : Pieces). IsJudged (take (bytes_of Client p) up) (take (bytes_of Server p) down) pieces j) all_is
      (subst (λ (p : Pieces). IsJudged (take (bytes_of Client all) up) (take (bytes_of Server all) down) p j) these_is
      (subst (λ (l : List ℕ). IsJudged (take (bytes_of Client all) up) l these j) down_is
      (subst (λ (l : List ℕ). IsJudged l first_down these j) up_is holds)));
  shows = record { text_is = text_is; status_is = status_is };
}

pub empty : (bytes : List ℕ) → true ≡ (length bytes == 0) → bytes ≡ []
empty [] is = refl
empty (b ∷ bytes) is = let none : length (b ∷ bytes) ≡ 0 = eqb-true (length (b ∷ bytes)) 0 (sym is) in absurd (omega (arith, none))

pub plain : (up down bytes : List ℕ) (j : Judgement) (text : List ℕ) (status : ℕ) → bytes ≡ [] → IsJudged up down [] j
    → text ≡ judgement_text j → status ≡ judgement_status j → IsPlainJudgement up down bytes text status
plain up down bytes j text status none holds text_is status_is =
    record { none = none; judged = j; holds = holds; shows = record { text_is = text_is; status_is = status_is } }
