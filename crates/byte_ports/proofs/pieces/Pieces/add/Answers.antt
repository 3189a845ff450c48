use Rattle.std.proofs.Common.{rules}
use Rattle.std.proofs.lemmas.List.{map-append}
use Rattle.byte_ports.proofs.StoredLemmas.{HoldMore-push}
use Rattle.byte_ports.proofs.pieces.Pieces.add.Goals as goal

pub invariant_of-self-2 : goal.invariant_of-self-2
invariant_of-self-2 c =
    rw (c.in_ok-push_back.ensures.items, map-append) (HoldMore-push _ _ _ c.self.invariant (rw c.in_ok-copy.ensures.items (search rules)))
