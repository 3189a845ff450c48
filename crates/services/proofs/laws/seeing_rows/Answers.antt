use Rattle.std.proofs.Common.{◌≡◌, ap, inl, inr, refl, [], ◌∷◌, List, ℕ}
use Rattle.effects.specs.declared.vocabulary.Cause.TheVariants.{Link}
use Rattle.effects.specs.declared.vocabulary.Growth.TheVariants.{Contacts}
use Rattle.effects.specs.Effects.{Ask, Look, Reply, Done, Failed, Did}
use Rattle.services.specs.Sessions.{WasSeen}
use Rattle.services.proofs.laws.seeing_rows.Goals as goal

pub returns-clause-plain : goal.returns-clause-plain
returns-clause-plain c = (λ growth name beside text is. inl cc, (λ growth name beside text is. absurd cc, tt))

-- a file was seen by the only answer, which was this one
only : (ask : Ask) (reply : Reply) (name : List ℕ) → WasSeen name ((ask, reply) ∷ []) → (ask ≡ Look name) × (reply ≡ Done)
only ask reply name (inl is) = (ap (λ (did : Did). did.0) is, ap (λ (did : Did). did.1) is)
only ask reply name (inr none) = absurd none

other_answer : Failed Link ≡ Done → ⊥
other_answer is = absurd cc

other_name : Look (5 ∷ []) ≡ Look (7 ∷ []) → ⊥
other_name is = absurd cc

pub returns-clause-link : goal.returns-clause-link
returns-clause-link c = λ seen. other_answer (only (Look (7 ∷ [])) (Failed Link) (7 ∷ []) (seen.0 Contacts (7 ∷ []) [] [] refl)).1

pub returns-clause-late : goal.returns-clause-late
returns-clause-late c = λ seen. seen.1.0 Contacts (7 ∷ []) [] [] refl

pub returns-clause-other_plain : goal.returns-clause-other_plain
returns-clause-other_plain c = λ seen. other_name (only (Look (5 ∷ [])) Done (7 ∷ []) (seen.0 Contacts (7 ∷ []) [] [] refl)).0
