-- What waits under a tag.
use Rattle.std.proofs.Common.{◌≡◌, Bool, ◌||◌, Bor, List, [], ◌∷◌, drop, slice_get, MatchOption, Option, Some, None, refl, sym, ap}
use Rattle.std.specs.Prelude.{option_copied}
use Rattle.std.specs.List.{list_any}
use Rattle.dme_line.specs.declared.tags.Tag.{Tag}
use Rattle.protocol_model.specs.Replies.{tag_is}
use Rattle.protocol_model.specs.Server.{waits_under}
use Rattle.protocol_model.specs.declared.lines.Waiting.{Waiting}

pub waits_under_any : (t : Tag) (ws : List Waiting) → waits_under t ws ≡ list_any (λ w. tag_is w.tag t) ws
waits_under_any t [] = refl
waits_under_any t (w ∷ ws) = ap (λ (b : Bool). tag_is w.tag t || b) (waits_under_any t ws)

-- the first element of a list, and none if the list is empty
pub front_of : (r : Option (Bor Waiting)) (ws : List Waiting) → option_copied r ≡ slice_get ws 0
    → MatchOption r (ws ≡ []) (λ w. ws ≡ w.now ∷ drop 1 ws)
front_of None [] e = refl
front_of None (w ∷ ws) e = absurd (cc)
front_of (Some b) [] e = absurd (cc)
front_of (Some b) (w ∷ ws) e = let same : b.now ≡ w = cc in ap (λ (x : Waiting). x ∷ ws) (sym same)
