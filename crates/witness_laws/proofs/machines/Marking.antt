-- A mark and a change whose marks must be just `&` and then `%`.
use Rattle.witness_laws.proofs.Names.{◌&&◌, ◌==◌, ◌||◌, ◌∷◌, ◌≡◌, [], Answers, ap, Begun, Bool, Done, eqb-true, false, fault_since, Heard}
use Rattle.witness_laws.proofs.Names.{if◌then◌else◌, is_fault, is_for, is_received, List, list_any, mark_in, marks, None, Option, or_parts, Progress}
use Rattle.witness_laws.proofs.Names.{progress_of, progress_with, refl, Sends, Some, subst, sym, true, ℕ}
use Rattle.witness.specs.Histories.{with_mark}
use Rattle.witness.specs.declared.lines.Progress.TheVariants.{Sent}
use Rattle.witness_laws.specs.Machines.{Entry, Message, Does, lines}
use Rattle.witness_laws.specs.Premises.{is_complete, has_ended, place_of, out_of_turn}
use Rattle.witness_laws.proofs.machines.Orders.{is_it, NoneShown}

-- ---- it has not ended yet

abbrev pub IsEarly : Option Progress → Type 0
IsEarly None = ⊥
IsEarly (Some Sent) = Unit {0}
IsEarly (Some Begun) = Unit {0}
IsEarly (Some Done) = ⊥

-- a mark for it then is the first `&`
early_mark : (e : Heard) (p : Option Progress) → IsEarly (progress_with p e) → (is_received e ≡ true) × IsEarly p
early_mark e None is = elim is [ ]
early_mark Heard.Received (Some Sent) is = (refl, tt)
early_mark (Heard.Given d) (Some Sent) is = elim is [ ]
early_mark Heard.Unread (Some Sent) is = elim is [ ]
early_mark Heard.Complete (Some Sent) is = elim is [ ]
early_mark Heard.Failed (Some Sent) is = elim is [ ]
early_mark Heard.Received (Some Begun) is = elim is [ ]
early_mark (Heard.Given d) (Some Begun) is = elim is [ ]
early_mark Heard.Unread (Some Begun) is = elim is [ ]
early_mark Heard.Complete (Some Begun) is = elim is [ ]
early_mark Heard.Failed (Some Begun) is = elim is [ ]
early_mark e (Some Done) is = elim is [ ]

-- no mark of another line is out of turn for it
pub other_line : (i m : ℕ) (e : Heard) (ft : Bool) → (i == m) ≡ false → is_it i (if ft then place_of (Some (m, e)) else None) ≡ false
other_line i m e false is = refl
other_line i m e true is = go (is_received e)
  where
    go : (b : Bool) → is_it i (if b then None else Some m) ≡ false
    go true = refl
    go false = is

pub no_line : (i : ℕ) (ft : Bool) → is_it i (if ft then place_of None else None) ≡ false
no_line i true = refl
no_line i false = refl

pub received_line : (i m : ℕ) (e : Heard) (ft : Bool) → is_received e ≡ true → is_it i (if ft then place_of (Some (m, e)) else None) ≡ false
received_line i m e false is = refl
received_line i m e true is = ap (λ (b : Bool). is_it i (if b then None else Some m)) is

pub early_step : (i : ℕ) (mk : Option (ℕ × Heard)) (ft : Bool) (ms : List Heard) → IsEarly (progress_of (with_mark i mk ms))
    → (is_it i (if ft then place_of mk else None) ≡ false) × IsEarly (progress_of ms)
early_step i None ft ms is = (no_line i ft, is)
early_step i (Some (m, e)) ft ms is = go (i == m) refl is
  where
    go : (b : Bool) → (i == m) ≡ b → IsEarly (progress_of (if b then e ∷ ms else ms))
        → (is_it i (if ft then place_of (Some (m, e)) else None) ≡ false) × IsEarly (progress_of ms)
    go true same early =
        let both : (is_received e ≡ true) × IsEarly (progress_of ms) = early_mark e (progress_of ms) early in
        (received_line i m e ft both.0, both.1)
    go false other early = (other_line i m e ft other, early)

pub early_none : (i : ℕ) (h : List Entry) → IsEarly (progress_of (marks i (lines h))) → NoneShown i h
early_none i [] is = tt
early_none i (Message (Sends line what) ∷ h) is = early_none i h is
early_none i (Message (Answers line what) ∷ h) is =
    let both : (is_it i (out_of_turn what (lines h)) ≡ false) × IsEarly (progress_of (marks i (lines h))) =
    early_step i (mark_in what (lines h)) (is_fault what (lines h)) (marks i (lines h)) is in
    (both.0, early_none i h both.1)
early_none i (Does cause effect ∷ h) is = early_none i h is

-- ---- it has ended

-- this mark is its end, and no fault; or it had ended before, and this is neither a mark of it nor a fault
pub data IsDoneBy (i : ℕ) (mk : Option (ℕ × Heard)) (ft fs : Bool) (ms : List Heard) : Type 0 where
  ends : (e : Heard) → mk ≡ Some (i, e) → progress_of ms ≡ Some Begun → progress_with (progress_of ms) e ≡ Some Done → ft ≡ false
      → IsDoneBy i mk ft fs ms
  stays : progress_of ms ≡ Some Done → ft ≡ false → fs ≡ false → IsDoneBy i mk ft fs ms

done_mark : (e : Heard) (p : Option Progress) → progress_with p e ≡ Some Done → (p ≡ Some Begun) × (e ≡ Heard.Complete)
done_mark e None is = absurd (cc)
done_mark Heard.Received (Some Sent) is = absurd (cc)
done_mark (Heard.Given d) (Some Sent) is = absurd (cc)
done_mark Heard.Unread (Some Sent) is = absurd (cc)
done_mark Heard.Complete (Some Sent) is = absurd (cc)
done_mark Heard.Failed (Some Sent) is = absurd (cc)
done_mark Heard.Received (Some Begun) is = absurd (cc)
done_mark (Heard.Given d) (Some Begun) is = absurd (cc)
done_mark Heard.Unread (Some Begun) is = absurd (cc)
done_mark Heard.Complete (Some Begun) is = (refl, refl)
done_mark Heard.Failed (Some Begun) is = absurd (cc)
done_mark Heard.Received (Some Done) is = absurd (cc)
done_mark (Heard.Given d) (Some Done) is = absurd (cc)
done_mark Heard.Unread (Some Done) is = absurd (cc)
done_mark Heard.Complete (Some Done) is = absurd (cc)
done_mark Heard.Failed (Some Done) is = absurd (cc)

pub done_step : (i : ℕ) (mk : Option (ℕ × Heard)) (ft fs : Bool) (ms : List Heard) → progress_of (with_mark i mk ms) ≡ Some Done
    → (if is_for is_received i mk then false else ft || fs) ≡ false → IsDoneBy i mk ft fs ms
done_step i None ft fs ms is calm = let both : (ft ≡ false) × (fs ≡ false) = or_parts ft fs calm in stays is both.0 both.1
done_step i (Some (m, e)) ft fs ms is calm = go (i == m) refl is calm
  where
    go : (b : Bool) → (i == m) ≡ b → progress_of (if b then e ∷ ms else ms) ≡ Some Done
        → (if b && is_received e then false else ft || fs) ≡ false → IsDoneBy i (Some (m, e)) ft fs ms
    go true same done quiet =
        let both : (progress_of ms ≡ Some Begun) × (e ≡ Heard.Complete) = done_mark e (progress_of ms) done in
        let clear : (ft || fs) ≡ false = subst (λ (x : Heard). (if is_received x then false else ft || fs) ≡ false) both.1 quiet in
        let it : Some (m, e) ≡ Some (i, e) = ap (λ (k : ℕ). Some (k, e)) (sym (eqb-true i m same)) in
        ends e it both.0 done (or_parts ft fs clear).0
    go false other done quiet = let both : (ft ≡ false) × (fs ≡ false) = or_parts ft fs quiet in stays done both.0 both.1

-- what is no fault is no mark out of turn
pub calm_none : (i : ℕ) (mk : Option (ℕ × Heard)) (ft : Bool) → ft ≡ false → is_it i (if ft then place_of mk else None) ≡ false
calm_none i mk ft e = ap (λ (b : Bool). is_it i (if b then place_of mk else None)) e

pub done_none : (i : ℕ) (h : List Entry) → progress_of (marks i (lines h)) ≡ Some Done → fault_since i (lines h) ≡ false → NoneShown i h
done_none i [] is calm = tt
done_none i (Message (Sends line what) ∷ h) is calm = done_none i h is calm
done_none i (Does cause effect ∷ h) is calm = done_none i h is calm
done_none i (Message (Answers line what) ∷ h) is calm =
    go (done_step i (mark_in what (lines h)) (is_fault what (lines h)) (fault_since i (lines h)) (marks i (lines h)) is calm) (done_none i h)
  where
    go : IsDoneBy i (mark_in what (lines h)) (is_fault what (lines h)) (fault_since i (lines h)) (marks i (lines h))
        → (progress_of (marks i (lines h)) ≡ Some Done → fault_since i (lines h) ≡ false → NoneShown i h)
        → NoneShown i (Message (Answers line what) ∷ h)
    go (ends e it begun done clear) rest =
        (calm_none i (mark_in what (lines h)) (is_fault what (lines h)) clear, early_none i h (subst IsEarly (sym begun) tt))
    go (stays done clear quiet) rest = (calm_none i (mark_in what (lines h)) (is_fault what (lines h)) clear, rest done quiet)

-- a change that is done has ended
pub done_ended : (ms : List Heard) → progress_of ms ≡ Some Done → list_any is_complete ms ≡ true
done_ended [] is = absurd (cc)
done_ended (e ∷ ms) is =
    let both : (progress_of ms ≡ Some Begun) × (e ≡ Heard.Complete) = done_mark e (progress_of ms) is in
    ap (λ (x : Heard). is_complete x || list_any is_complete ms) both.1

pub has_end : (i : ℕ) (h : List Entry) → progress_of (marks i (lines h)) ≡ Some Done → has_ended i (lines h) ≡ true
has_end i h is = done_ended (marks i (lines h)) is
