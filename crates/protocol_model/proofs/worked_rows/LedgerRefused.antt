-- What the claim allows and refuses next to ledgers that are written out.
use Rattle.protocol_model.proofs.Names.{[], ◌+◌, ◌∙◌, ◌∷◌, ◌≡◌, Act, along, ap, AreRuns, arith, at, Bool, bytes_eq, codes, Direction, drop, false}
use Rattle.protocol_model.proofs.Names.{false≢true, feature, Frame, from_above, IsServed, List, MadeContact, None, Option, Origin, part, Point, pos}
use Rattle.protocol_model.proofs.Names.{refl, Serves, Some, Sound, suc, sym, take, Told, tool, Touch, true, unsigned_abs, zero, ℕ}
use Rattle.protocol_model.specs.LedgerRows.{contact_of, first_point, first_touch, one_wanted, second_point, second_touch, two_wanted}
use Rattle.protocol_model.specs.LedgerRows.{first_contact, ledger_with, measured_as, right_ledger, second_contact, two_connections, asked_twice}

-- ---- what is allowed

served : (touch : Touch) (point : Point) → IsServed 1 touch point
    (record { connection = 1; target = touch.target; dir = touch.dir; tool = touch.tool; frame = touch.frame; point = point })
served touch point = record { on = refl; target = refl; dir = refl; tool = refl; frame = refl; point_is = refl }

-- what is claimed holds whatever the origin
pub right_from : (origin : Option Origin)
    → Sound one_wanted (record { label = codes "A"; points = first_point ∷ second_point ∷ []; origin = origin } ∷ []) right_ledger
right_from origin = record {
  starts = 0 ∷ [];
  runs = (
    omega arith,
    record {
      label = refl;
      connection = 1;
      serves = (served first_touch first_point, (served second_touch second_point, tt));
    },
    tt,
  );
}

-- the right ledger serves the feature
pub right_is : Sound one_wanted (measured_as (codes "A") ∷ []) right_ledger
right_is = right_from None

-- no feature is claimed of nothing
pub nothing_is : Sound one_wanted [] []
nothing_is = record { starts = []; runs = tt }

-- each of two features has its contacts
pub both_are : Sound two_wanted (measured_as (codes "A") ∷ measured_as (codes "B") ∷ [])
    (first_contact ∷ second_contact ∷ first_contact ∷ second_contact ∷ [])
both_are = record {
  starts = 0 ∷ 2 ∷ [];
  runs = (
    omega arith,
    record { label = refl; connection = 1; serves = (served first_touch first_point, (served second_touch second_point, tt)) },
    (
      omega arith,
      record {
        label = refl;
        connection = 1;
        serves = (served first_touch first_point, (served second_touch second_point, tt));
      },
      tt,
    ),
  );
}

-- ---- one run of two contacts

-- a feature of two points next to two contacts has both, one after another, on one connection
record HasBoth (touches : List Touch) (points : List Point) (one two : MadeContact) : Type 0 where
  pub connection : ℕ
  pub serves : Serves connection touches points (one ∷ two ∷ [])

-- the touches of the feature that is wanted
abbrev both : List Touch
both = first_touch ∷ second_touch ∷ []

both_at : (p q : Point) (one two : MadeContact) (n s : ℕ) → Serves n both (p ∷ q ∷ []) (take 2 (drop s (one ∷ two ∷ [])))
    → HasBoth both (p ∷ q ∷ []) one two
both_at p q one two n zero h = record { connection = n; serves = h }
both_at p q one two n (suc zero) h = absurd h.1
both_at p q one two n (suc (suc zero)) h = absurd h
both_at p q one two n (suc (suc (suc k))) h = absurd h

has_both : (p q : Point) (one two : MadeContact) (starts : List ℕ)
    → AreRuns one_wanted (feature (codes "A") (p ∷ q ∷ []) ∷ []) starts 0 (one ∷ two ∷ []) → HasBoth both (p ∷ q ∷ []) one two
has_both p q one two [] h = absurd h
has_both p q one two (s ∷ starts) h = both_at p q one two h.1.connection s h.1.serves

-- the contact of an act
abbrev made_by : ℕ → Point → Option Direction → List ℕ → Frame → Point → MadeContact
made_by n target dir name f point = record { connection = n; target = target; dir = dir; tool = name; frame = f; point = point }

abbrev first_made : MadeContact
first_made = made_by 1 (at (pos 10000) (pos 0) (pos 0)) from_above tool Frame.Machine first_point

abbrev second_made : MadeContact
second_made = made_by 1 (at (pos 20000) (pos 0) (pos 0)) from_above tool Frame.Machine second_point

-- what both contacts have where the second is this one
has_second : (n : ℕ) (target : Point) (dir : Option Direction) (name : List ℕ) (f : Frame) (point : Point)
    → Sound one_wanted (measured_as (codes "A") ∷ []) (ledger_with (contact_of n target dir name f point))
    → HasBoth both (first_point ∷ second_point ∷ []) first_made (made_by n target dir name f point)
has_second n target dir name f point h = has_both first_point second_point first_made (made_by n target dir name f point) h.starts h.runs

-- ---- each word of a contact

abbrev is_machine : Frame → Bool
is_machine Frame.Machine = true
is_machine (Frame.Part p) = false

abbrev size_of : Option Direction → ℕ
size_of None = 0
size_of (Some d) = unsigned_abs d.i + 1

-- another tool
pub other_tool_is_none : Sound one_wanted (measured_as (codes "A") ∷ [])
    (ledger_with (contact_of 1 (at (pos 20000) (pos 0) (pos 0)) from_above (codes "P2") Frame.Machine second_point)) → ⊥
other_tool_is_none h =
    let served = has_second 1 (at (pos 20000) (pos 0) (pos 0)) from_above (codes "P2") Frame.Machine second_point h in
    let e : false ≡ true = ap (λ (name : List ℕ). bytes_eq name tool) served.serves.1.0.tool in
    absurd (false≢true e)

-- another frame
pub other_frame_is_none : Sound one_wanted (measured_as (codes "A") ∷ [])
    (ledger_with (contact_of 1 (at (pos 20000) (pos 0) (pos 0)) from_above tool (Frame.Part part) second_point)) → ⊥
other_frame_is_none h =
    let served = has_second 1 (at (pos 20000) (pos 0) (pos 0)) from_above tool (Frame.Part part) second_point h in
    let e : false ≡ true = ap is_machine served.serves.1.0.frame in
    absurd (false≢true e)

-- another target
pub other_target_is_none : Sound one_wanted (measured_as (codes "A") ∷ [])
    (ledger_with (contact_of 1 (at (pos 20001) (pos 0) (pos 0)) from_above tool Frame.Machine second_point)) → ⊥
other_target_is_none h =
    let served = has_second 1 (at (pos 20001) (pos 0) (pos 0)) from_above tool Frame.Machine second_point h in
    let e : ◌≡◌ {A = ℕ} 20001 20000 = ap (λ (q : Point). unsigned_abs q.x) served.serves.1.0.target in
    absurd (omega arith)

-- another direction
pub other_direction_is_none : Sound one_wanted (measured_as (codes "A") ∷ [])
    (ledger_with (contact_of 1 (at (pos 20000) (pos 0) (pos 0)) (along (pos 1000000) (pos 0) (pos 0)) tool Frame.Machine second_point)) → ⊥
other_direction_is_none h =
    let served = has_second 1 (at (pos 20000) (pos 0) (pos 0)) (along (pos 1000000) (pos 0) (pos 0)) tool Frame.Machine second_point h in
    let e : ◌≡◌ {A = ℕ} 1000001 1 = ap size_of served.serves.1.0.dir in
    absurd (omega arith)

-- no direction
pub no_direction_is_none : Sound one_wanted (measured_as (codes "A") ∷ [])
    (ledger_with (contact_of 1 (at (pos 20000) (pos 0) (pos 0)) None tool Frame.Machine second_point)) → ⊥
no_direction_is_none h =
    let served = has_second 1 (at (pos 20000) (pos 0) (pos 0)) None tool Frame.Machine second_point h in
    let e : ◌≡◌ {A = ℕ} 0 1 = ap size_of served.serves.1.0.dir in
    absurd (omega arith)

-- another point
pub other_point_is_none : Sound one_wanted (measured_as (codes "A") ∷ [])
    (ledger_with (contact_of 1 (at (pos 20000) (pos 0) (pos 0)) from_above tool Frame.Machine (at (pos 20000) (pos 0) (pos 5)))) → ⊥
other_point_is_none h =
    let served = has_second 1 (at (pos 20000) (pos 0) (pos 0)) from_above tool Frame.Machine (at (pos 20000) (pos 0) (pos 5)) h in
    let e : ◌≡◌ {A = ℕ} 5 4 = ap (λ (q : Point). unsigned_abs q.z) served.serves.1.0.point_is in
    absurd (omega arith)

-- two connections
pub two_connections_are_none : Sound one_wanted (measured_as (codes "A") ∷ [])
    (ledger_with (contact_of 2 (at (pos 20000) (pos 0) (pos 0)) from_above tool Frame.Machine second_point)) → ⊥
two_connections_are_none h =
    let served = has_second 2 (at (pos 20000) (pos 0) (pos 0)) from_above tool Frame.Machine second_point h in
    let e : ◌≡◌ {A = ℕ} 1 2 = served.serves.0.on ∙ sym served.serves.1.0.on in
    absurd (omega arith)

-- ---- each word of a feature

label_by : (starts : List ℕ) → AreRuns one_wanted (measured_as (codes "B") ∷ []) starts 0 (first_made ∷ second_made ∷ [])
    → ◌≡◌ {A = List ℕ} (codes "B") (codes "A")
label_by [] h = absurd h
label_by (s ∷ starts) h = h.1.label

-- another label
pub other_label_is_none : Sound one_wanted (measured_as (codes "B") ∷ []) right_ledger → ⊥
other_label_is_none h = let e : false ≡ true = ap (λ (name : List ℕ). bytes_eq name (codes "A")) (label_by h.starts h.runs)
    in absurd (false≢true e)

first_label_by : (starts : List ℕ) → AreRuns two_wanted (measured_as (codes "B") ∷ []) starts 0 (first_made ∷ second_made ∷ [])
    → ◌≡◌ {A = List ℕ} (codes "B") (codes "A")
first_label_by [] h = absurd h
first_label_by (s ∷ starts) h = h.1.label

-- the first feature is left out
pub first_left_out_is_none : Sound two_wanted (measured_as (codes "B") ∷ []) right_ledger → ⊥
first_left_out_is_none h = let e : false ≡ true = ap (λ (name : List ℕ). bytes_eq name (codes "A")) (first_label_by h.starts h.runs)
    in absurd (false≢true e)

one_of_two : (n s : ℕ) → Serves n both (first_point ∷ []) (take 1 (drop s (first_made ∷ second_made ∷ []))) → ⊥
one_of_two n zero h = h.1
one_of_two n (suc zero) h = h.1
one_of_two n (suc (suc zero)) h = h
one_of_two n (suc (suc (suc k))) h = h

fewer_by : (starts : List ℕ) → AreRuns one_wanted (feature (codes "A") (first_point ∷ []) ∷ []) starts 0 (first_made ∷ second_made ∷ []) → ⊥
fewer_by [] h = h
fewer_by (s ∷ starts) h = one_of_two h.1.connection s h.1.serves

-- fewer points than touches
pub fewer_points_are_none : Sound one_wanted (feature (codes "A") (first_point ∷ []) ∷ []) right_ledger → ⊥
fewer_points_are_none h = fewer_by h.starts h.runs

no_points_by : (starts : List ℕ) → AreRuns one_wanted (feature (codes "A") [] ∷ []) starts 0 (first_made ∷ second_made ∷ []) → ⊥
no_points_by [] h = h
no_points_by (s ∷ starts) h = h.1.serves

-- no points
pub no_points_are_none : Sound one_wanted (feature (codes "A") [] ∷ []) right_ledger → ⊥
no_points_are_none h = no_points_by h.starts h.runs

three_of_two : (n s : ℕ) → Serves n both (first_point ∷ second_point ∷ second_point ∷ [])
    (take 3 (drop s (first_made ∷ second_made ∷ second_made ∷ []))) → ⊥
three_of_two n zero h = h.1.1
three_of_two n (suc zero) h = h.1.1
three_of_two n (suc (suc zero)) h = h.1
three_of_two n (suc (suc (suc zero))) h = h
three_of_two n (suc (suc (suc (suc k)))) h = h

more_by : (starts : List ℕ) → AreRuns one_wanted (feature (codes "A") (first_point ∷ second_point ∷ second_point ∷ []) ∷ []) starts 0
    (first_made ∷ second_made ∷ second_made ∷ []) → ⊥
more_by [] h = h
more_by (s ∷ starts) h = three_of_two h.1.connection s h.1.serves

-- more points than touches
pub more_points_are_none : Sound one_wanted (feature (codes "A") (first_point ∷ second_point ∷ second_point ∷ []) ∷ [])
    (first_contact ∷ second_contact ∷ second_contact ∷ []) → ⊥
more_points_are_none h = more_by h.starts h.runs

-- the points are exchanged
pub exchanged_points_are_none : Sound one_wanted (feature (codes "A") (second_point ∷ first_point ∷ []) ∷ []) right_ledger → ⊥
exchanged_points_are_none h =
    let served = has_both second_point first_point first_made second_made h.starts h.runs in
    let e : ◌≡◌ {A = ℕ} 10002 20000 = ap (λ (q : Point). unsigned_abs q.x) served.serves.0.point_is in
    absurd (omega arith)

no_contact_at : (n s : ℕ) → Serves n both (first_point ∷ second_point ∷ []) (take 2 (drop s [])) → ⊥
no_contact_at n zero h = h
no_contact_at n (suc k) h = h

no_contact_by : (starts : List ℕ) → AreRuns one_wanted (measured_as (codes "A") ∷ []) starts 0 [] → ⊥
no_contact_by [] h = h
no_contact_by (s ∷ starts) h = no_contact_at h.1.connection s h.1.serves

-- no contact
pub no_contact_is_none : Sound one_wanted (measured_as (codes "A") ∷ []) [] → ⊥
no_contact_is_none h = no_contact_by h.starts h.runs

more_features_by : (starts : List ℕ) → AreRuns one_wanted (measured_as (codes "A") ∷ measured_as (codes "A") ∷ []) starts 0
    (first_made ∷ second_made ∷ first_made ∷ second_made ∷ []) → ⊥
more_features_by [] h = h
more_features_by (s ∷ []) h = h.2
more_features_by (s ∷ t ∷ starts) h = h.2

-- more features than are wanted
pub more_features_are_none : Sound one_wanted (measured_as (codes "A") ∷ measured_as (codes "A") ∷ [])
    (first_contact ∷ second_contact ∷ first_contact ∷ second_contact ∷ []) → ⊥
more_features_are_none h = more_features_by h.starts h.runs

-- ---- counted acts

-- all that was done on the first connection
pub first_connection_is : Told (Act.Homed ∷ Act.Changed tool ∷ []) two_connections 1
first_connection_is = record { more = []; whole = refl }

-- all that was done on the second
pub second_connection_is : Told (Act.Homed ∷ Act.Framed Frame.Machine ∷ []) two_connections 2
second_connection_is = record { more = []; whole = refl }

-- the prefix of what was done
pub front_is : Told (Act.Homed ∷ []) two_connections 1
front_is = record { more = Act.Changed tool ∷ []; whole = refl }

-- nothing was counted
pub nothing_counted_is : Told [] two_connections 3
nothing_counted_is = record { more = []; whole = refl }

-- what acts are, as numbers
abbrev sort_of : Act → ℕ
sort_of (Act.HomedIs false) = 6
sort_of (Act.HomedIs true) = 7
sort_of Act.Homed = 1
sort_of (Act.Moved p f) = 2
sort_of (Act.Changed n) = 3
sort_of (Act.Framed f) = 4
sort_of (Act.Contact t d n f p) = 5

abbrev first_sort : List Act → ℕ
first_sort [] = 0
first_sort (a ∷ rest) = sort_of a

abbrev next_sort : List Act → ℕ
next_sort [] = 0
next_sort (a ∷ rest) = first_sort rest

abbrev third_sort : List Act → ℕ
third_sort [] = 0
third_sort (a ∷ rest) = next_sort rest

abbrev tool_changed : Act → List ℕ
tool_changed (Act.Changed n) = n
tool_changed _ = []

abbrev next_tool : List Act → List ℕ
next_tool (a ∷ b ∷ rest) = tool_changed b
next_tool _ = []

-- the first act is left out
pub no_front_is_none : Told (Act.Changed tool ∷ []) two_connections 1 → ⊥
no_front_is_none h = let e : ◌≡◌ {A = ℕ} 3 1 = ap first_sort h.whole in absurd (omega arith)

-- the acts are exchanged
pub exchanged_is_none : Told (Act.Changed tool ∷ Act.Homed ∷ []) two_connections 1 → ⊥
exchanged_is_none h = let e : ◌≡◌ {A = ℕ} 3 1 = ap first_sort h.whole in absurd (omega arith)

-- an act was never done
pub never_done_is_none : Told (Act.Homed ∷ Act.Changed (codes "P2") ∷ []) two_connections 1 → ⊥
never_done_is_none h = let e : false ≡ true = ap (λ (l : List Act). bytes_eq (next_tool l) tool) h.whole in absurd (false≢true e)

-- one act too many
pub too_many_are_none : Told (Act.Homed ∷ Act.Changed tool ∷ Act.Homed ∷ []) two_connections 1 → ⊥
too_many_are_none h = let e : ◌≡◌ {A = ℕ} 1 0 = ap third_sort h.whole in absurd (omega arith)

-- acts of another connection
pub other_connection_is_none : Told (Act.Homed ∷ Act.Changed tool ∷ []) two_connections 2 → ⊥
other_connection_is_none h = let e : ◌≡◌ {A = ℕ} 3 4 = ap next_sort h.whole in absurd (omega arith)

-- acts of no connection
pub no_connection_is_none : Told (Act.Homed ∷ []) two_connections 3 → ⊥
no_connection_is_none h = let e : ◌≡◌ {A = ℕ} 1 0 = ap first_sort h.whole in absurd (omega arith)

-- ---- the question whether the machine is homed

-- all that was done on the first connection
pub asked_and_homed_is : Told (Act.HomedIs false ∷ Act.Homed ∷ []) asked_twice 1
asked_and_homed_is = record { more = []; whole = refl }

-- all that was done on the second
pub asked_again_is : Told (Act.HomedIs true ∷ Act.Framed Frame.Machine ∷ []) asked_twice 2
asked_again_is = record { more = []; whole = refl }

-- the other answer
pub other_answer_is_none : Told (Act.HomedIs false ∷ []) asked_twice 2 → ⊥
other_answer_is_none h = let e : ◌≡◌ {A = ℕ} 6 7 = ap first_sort h.whole in absurd (omega arith)

-- a homing that was skipped
pub passed_over_is_none : Told (Act.HomedIs true ∷ Act.Homed ∷ []) asked_twice 2 → ⊥
passed_over_is_none h = let e : ◌≡◌ {A = ℕ} 1 4 = ap next_sort h.whole in absurd (omega arith)
