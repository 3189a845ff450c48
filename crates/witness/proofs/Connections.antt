-- The connections of known contacts, one after another.
use Rattle.witness.proofs.ToldNames.{◌∷◌, ◌≡◌, Doubtful, Ends, false, is_made, known_contacts, List, Made, MadeContact, map, Passes, refl, true, ℕ}
use Rattle.witness.specs.Runs.{Part}

pub one_more : (n : ℕ) (part : Part) (ls : List (ℕ × Part)) → true ≡ is_made part
    → map (λ (m : MadeContact). m.connection) (known_contacts ((n, part) ∷ ls)) ≡ n ∷ map (λ (m : MadeContact). m.connection) (known_contacts ls)
one_more n (Made t d k f p) ls e = refl
one_more n Doubtful ls e = absurd cc
one_more n Ends ls e = absurd cc
one_more n Passes ls e = absurd cc

pub none_more : (n : ℕ) (part : Part) (ls : List (ℕ × Part)) → false ≡ is_made part
    → map (λ (m : MadeContact). m.connection) (known_contacts ((n, part) ∷ ls)) ≡ map (λ (m : MadeContact). m.connection) (known_contacts ls)
none_more n (Made t d k f p) ls e = absurd cc
none_more n Doubtful ls e = refl
none_more n Ends ls e = refl
none_more n Passes ls e = refl

pub ruleset connections = (one_more, none_more)
