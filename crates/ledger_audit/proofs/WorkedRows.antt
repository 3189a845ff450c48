-- What the examples show.
use Rattle.ledger_audit.proofs.Names.{[], ◌<◌, ◌∷◌, ◌≤◌, AreAtMost, AreFewestUnsound, AreLeast, AreRuns, arith, codes, contacts, Feature, IsServed}
use Rattle.ledger_audit.proofs.Names.{List, MadeContact, Point, refl, Sound, suc, take, Touch, Wanted, zero, ℕ}
use Rattle.protocol_model.specs.LedgerRows.{first_point, first_touch, measured_as, one_wanted, second_point, second_touch}
use Rattle.protocol_model.proofs.worked_rows.LedgerRefused.{no_contact_is_none}
use Rattle.ledger_audit.specs.Rows.{made_twice, once, once_more}
use Rattle.ledger_audit.proofs.Greedy.{wanted_spent}

served : (touch : Touch) (point : Point) → IsServed 1 touch point
    (record { connection = 1; target = touch.target; dir = touch.dir; tool = touch.tool; frame = touch.frame; point = point })
served touch point = record { on = refl; target = refl; dir = refl; tool = refl; frame = refl; point_is = refl }

pub first_is : AreRuns one_wanted once (0 ∷ []) 0 (contacts made_twice)
first_is = (
  omega arith,
  record { label = refl; connection = 1; serves = (served first_touch first_point, (served second_touch second_point, tt)) },
  tt,
)

pub second_is : AreRuns one_wanted once (2 ∷ []) 0 (contacts made_twice)
second_is = (
  omega arith,
  record { label = refl; connection = 1; serves = (served first_touch first_point, (served second_touch second_point, tt)) },
  tt,
)

-- no start is less than 0
zero_least : (ws : List Wanted) (f : Feature) (others : List ℕ) (made : List MadeContact) → AreRuns ws (f ∷ []) others 0 made
    → AreAtMost (0 ∷ []) others
zero_least [] f others made h = absurd h
zero_least (w ∷ ws) f [] made h = absurd h
zero_least (w ∷ ws) f (t ∷ []) made h = (omega arith, tt)
zero_least (w ∷ ws) f (t ∷ u ∷ others) made h = absurd h.2

pub least_is : AreLeast one_wanted once (contacts made_twice) (0 ∷ [])
least_is others h = zero_least one_wanted (measured_as (codes "A")) others (contacts made_twice) h

pub second_is_not_least : AreLeast one_wanted once (contacts made_twice) (2 ∷ []) → ⊥
second_is_not_least h = let le : 2 ≤ 0 = (h (0 ∷ []) first_is).0 in absurd (omega arith)

pub none_are_not_least : AreLeast one_wanted once (contacts made_twice) [] → ⊥
none_are_not_least h = h (0 ∷ []) first_is

fewer_are_sound : (k : ℕ) → k < 2 → Sound one_wanted (take k once_more) made_twice
fewer_are_sound zero lt = record { starts = []; runs = tt }
fewer_are_sound (suc zero) lt = record { starts = 0 ∷ []; runs = first_is }
fewer_are_sound (suc (suc k)) lt = absurd (omega arith)

pub behind_the_program_is : AreFewestUnsound one_wanted once_more made_twice 2
behind_the_program_is = record {
  some = omega arith;
  held = omega arith;
  before = fewer_are_sound;
  unsound = λ h. wanted_spent one_wanted once (contacts made_twice) (measured_as (codes "B")) (omega arith) h.starts h.runs;
}

pub one_fewer_is_not : AreFewestUnsound one_wanted once_more made_twice 1 → ⊥
one_fewer_is_not h = h.unsound (fewer_are_sound 1 (omega arith))

none_are_sound : (k : ℕ) → k < 1 → Sound one_wanted (take k once_more) []
none_are_sound zero lt = record { starts = []; runs = tt }
none_are_sound (suc k) lt = absurd (omega arith)

pub nothing_done_is : AreFewestUnsound one_wanted once_more [] 1
nothing_done_is = record {
  some = omega arith;
  held = omega arith;
  before = none_are_sound;
  unsound = λ h. no_contact_is_none h;
}

pub one_more_is_not : AreFewestUnsound one_wanted once_more [] 2 → ⊥
one_more_is_not h = no_contact_is_none (h.before 1 (omega arith))
