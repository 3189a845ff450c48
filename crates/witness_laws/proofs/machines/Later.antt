-- A relay that reads replies later knows no more than one that reads them as they are sent.
use Rattle.witness_laws.proofs.Names.{◌++◌, ◌∙◌, ◌∷◌, ◌≡◌, [], ap, Bool, ClaimNoMore, Dialogue, Down, false, in_turn, is_at_once_report, IsCausal}
use Rattle.witness_laws.proofs.Names.{IsCounted, Line, List, not, refl, Reported, response_of, said, said_all, silence, subst, true, Up, ups, ℕ}
use Rattle.witness_laws.proofs.orders.Claiming.{in_turn_fair}
use Rattle.witness_laws.proofs.orders.Claimed.{causal_without, told_unordered}
use Rattle.witness_laws.proofs.orders.Counts.{said_counted, silence_counted}
use Rattle.witness_laws.proofs.orders.Sinking.{Claims, trans, same_below, swap_below}
use Rattle.witness_laws.proofs.orders.Sorting.{said_ordered, behind_first}
use Rattle.witness_laws.proofs.orders.Views.{causal_swapped}
use Rattle.witness_laws.specs.Relays.{IsReadLater, as_sent, later}

-- the reports that are compared: those of lines at once come as they are read
abbrev chosen : Reported → Bool
chosen r = not (is_at_once_report r)

swapped : (d : Dialogue) (before after : List Line) (up down : List ℕ) → IsCounted d → d.ordered ≡ false
    → IsCausal d (before ++ Down down ∷ Up up ∷ after)
    → Claims chosen (said_all d (before ++ Up up ∷ Down down ∷ after)) (said_all d (before ++ Down down ∷ Up up ∷ after))
swapped d [] after up down c free causal =
    swap_below chosen in_turn_fair d up down c free (behind_first d.uses up (ups after) (response_of down) causal.0) (λ e. ap not e) after
swapped d (Up line ∷ before) after up down c free causal =
    swapped (said d (Up line)) before after up down (said_counted d (Up line) c) (said_ordered d (Up line) ∙ free) causal
swapped d (Down line ∷ before) after up down c free causal =
    swapped (said d (Down line)) before after up down (said_counted d (Down line) c) (said_ordered d (Down line) ∙ free) causal.1

later_causal : (sent lines : List Line) → IsReadLater sent lines → IsCausal (silence false) sent → IsCausal (silence false) lines
later_causal sent _ as_sent causal = causal
later_causal sent _ (later before after up down p) causal =
    causal_swapped (silence false) before after up down (silence_counted false) (later_causal sent (before ++ Down down ∷ Up up ∷ after) p causal)

later_claims : (sent lines : List Line) → IsReadLater sent lines → IsCausal (silence false) sent
    → Claims chosen (said_all (silence false) lines) (said_all (silence false) sent)
later_claims sent _ as_sent causal =
    same_below chosen in_turn_fair (said_all (silence false) sent) (said_all (silence false) sent) refl []
later_claims sent _ (later before after up down p) causal =
    trans chosen _ _ _
    (swapped (silence false) before after up down (silence_counted false) refl
    (later_causal sent (before ++ Down down ∷ Up up ∷ after) p causal))
    (later_claims sent (before ++ Down down ∷ Up up ∷ after) p causal)

pub read_later : (sent read : List Line) → IsReadLater sent read → IsCausal (silence true) sent
    → (said_all (silence true) sent).crossed ≡ false → (said_all (silence true) read).crossed ≡ false
    → ClaimNoMore (in_turn (said_all (silence true) read).reported) (in_turn (said_all (silence true) sent).reported)
read_later sent read order causal free free_read =
    subst (λ (l : List Reported). ClaimNoMore (in_turn l) (in_turn (said_all (silence true) sent).reported)) (told_unordered read free_read)
    (subst (λ (l : List Reported). ClaimNoMore (in_turn (said_all (silence false) read).reported) (in_turn l)) (told_unordered sent free)
    (later_claims sent read order (causal_without sent causal)).reported)
