-- What counted pushes and pulls have done.
use Rattle.link_world.proofs.Names.{[], ◌≤◌, Appends, Appends-kept, Consumes, Consumes-nil, IsPushFault, Keeps, length, List, None, Option, PumpFault}
use Rattle.link_world.proofs.Names.{Pushed, Some, sym, take, ℕ}
use Rattle.byte_ports.proofs.Moved.{Appends-more}

-- nothing was pulled
pub Consumes-none : (a b : Option (List ℕ)) → Keeps a b → Consumes a b []
Consumes-none None b p = tt
Consumes-none (Some x) None p = absurd p
Consumes-none (Some x) (Some y) p = sym p

-- a prefix was pushed, and no more
pub front_pushed : {F : Type 0} (bytes : List ℕ) (a b : Option (List ℕ)) (budget n : ℕ) (fault : PumpFault F) → n ≤ length bytes
    → Appends a b (take n bytes) → IsPushFault budget n fault → Pushed bytes a b budget fault
front_pushed bytes a b budget n fault within appended why = record { count = n; within = within; appended = appended; why = why }

pub ruleset pushed = (Appends-more, Appends-kept, front_pushed)

pub ruleset pulled = (Consumes-nil, Consumes-none)
