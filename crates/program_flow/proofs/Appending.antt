-- Texts that are appended one after the other, and those of variables of letters.
use Rattle.std.proofs.Common.{◌≡◌, ℕ, Bool, true, false, List, [], ◌∷◌, ◌++◌, length, ◌≤◌, ◌<◌, refl, sym, ap, ◌∙◌, arith, append_assoc}
use Rattle.std.proofs.lemmas.Bool.Decides.{nat_tests}
use Rattle.std.specs.Prelude.{◌-◌, Result, Ok, Err, drop, get_or, nat_le, take, if◌then◌else◌}
use Rattle.program_flow.specs.LookBack.{limited}
use Rattle.program_flow.specs.Numbers.{and_then}
use Rattle.program_flow.specs.Pieces.{joined, piece}
use Rattle.program_flow.specs.Texts.{Appends, appended}
use Rattle.program_flow.specs.Values.{Valuation, Value}
use Rattle.program_flow.specs.Values.Value.{Letters}
use Rattle.program_flow.specs.declared.faults.ValueFault.{ValueFault}
use Rattle.program_flow.specs.declared.faults.ValueFault.TheVariants.{PastBound}

-- a text, and one after it
both-ok : (old start mid new pre : List ℕ) (front rest : Result (List ℕ) ValueFault) → start ≡ old ++ pre → appended start front ≡ Ok mid
    → appended mid rest ≡ Ok new → appended old (and_then front (λ f. and_then rest (λ r. Ok (pre ++ (f ++ r))))) ≡ Ok new
both-ok old start mid new pre (Ok f) (Ok r) s e g =
    let front : (start ++ f) ≡ mid = cc in
    let all : (mid ++ r) ≡ new = cc in
    ap (λ (xs : List ℕ). Ok xs) (sym (append_assoc old pre (f ++ r)) ∙ (ap (λ (xs : List ℕ). xs ++ (f ++ r)) (sym s)
    ∙ (sym (append_assoc start f r) ∙ (ap (λ (xs : List ℕ). xs ++ r) front ∙ all))))
both-ok old start mid new pre (Ok f) (Err fault) s e g = absurd cc
both-ok old start mid new pre (Err fault) rest s e g = absurd cc

both-err : (start mid pre : List ℕ) (front rest : Result (List ℕ) ValueFault) (fault : ValueFault) → appended start front ≡ Ok mid → rest ≡ Err fault
    → and_then front (λ f. and_then rest (λ r. Ok (pre ++ (f ++ r)))) ≡ Err fault
both-err start mid pre (Ok f) rest fault e g = ap (λ (r : Result (List ℕ) ValueFault). and_then r (λ r. Ok (pre ++ (f ++ r)))) g
both-err start mid pre (Err given) rest fault e g = absurd cc

pub appends-both : {A : Type 0} (result : Result A ValueFault) (old start mid new pre : List ℕ) (front rest : Result (List ℕ) ValueFault)
    → start ≡ old ++ pre → appended start front ≡ Ok mid → Appends result mid new rest
    → Appends result old new (and_then front (λ f. and_then rest (λ r. Ok (pre ++ (f ++ r)))))
appends-both (Ok a) old start mid new pre front rest s e h = (both-ok old start mid new pre front rest s e h.0, tt)
appends-both (Err fault) old start mid new pre front rest s e h = (tt, λ apart. both-err start mid pre front rest fault e (h.1 apart))

-- the letters of several pieces, by the first and the others
all-taken : (xs : List (List ℕ)) → take (length xs) xs ≡ xs
all-taken [] = refl
all-taken (x ∷ xs) = ap (λ (ys : List (List ℕ)). x ∷ ys) (all-taken xs)

pub joined-by : (said : Valuation) (text next : List ℕ) (others : List (List ℕ)) → 1 ≤ length others → next ≡ get_or others 0 next
    → joined said text others ≡ and_then (piece said text) (λ front. and_then (joined said next (take (length others - 1) (drop 1 others))) (λ rest. Ok (front ++ rest)))
joined-by said text next [] some is = absurd (omega (arith, some))
joined-by said text next (o ∷ os) some is =
    let count : length (o ∷ os) - 1 ≡ length os = omega arith in
    let taken : take (length (o ∷ os) - 1) os ≡ os = ap (λ (n : ℕ). take n os) count ∙ all-taken os in
    rw (taken, is) refl

-- the letters that a variable takes
pub letters-found : (made : Result (List ℕ) ValueFault) (text : List ℕ) (most : ℕ) → appended [] made ≡ Ok text → and_then made (limited most) ≡ limited most text
letters-found (Ok t) text most e =
    let same : t ≡ text = cc in
    rw same refl
letters-found (Err fault) text most e = absurd cc

pub within-limit : (text : List ℕ) (most : ℕ) → length text ≤ most → limited most text ≡ Ok (Letters text)
within-limit text most h =
    let fits : nat_le (length text) most ≡ true = grind (arith, nat_tests, h) in
    rw fits refl

pub past-limit : (text : List ℕ) (most : ℕ) → most < length text → limited most text ≡ Err PastBound
past-limit text most h =
    let past : nat_le (length text) most ≡ false = grind (arith, nat_tests, h) in
    rw past refl
