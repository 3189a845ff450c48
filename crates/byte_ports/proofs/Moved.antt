-- What bytes that move in several steps have done together.
use Rattle.std.proofs.Common.{◌≡◌, ℕ, ◌+◌, ◌≤◌, ◌≢◌, List, ◌++◌, Bool, false, length, take, drop, sym, subst, arith, length-take-le}
use Rattle.std.specs.Prelude.{Option}
use Rattle.std.specs.Io.KnownBytes.{Appends, Consumes, Keeps}
use Rattle.std.proofs.KnownBytes.{Appends-trans, Consumes-trans, Consumes-kept}
use Rattle.std.proofs.Math.Seq.{take-add}
use Rattle.std.proofs.lemmas.Grind.{common_steps}
use Rattle.byte_ports.specs.Transfers.{ConsumesFront, GaveBytes, GaveTimes, none, more}

-- known bytes grew by a prefix of bs, and then by a prefix of what was left of bs
pub Appends-more : (a b c : Option (List ℕ)) (bs : List ℕ) (m n : ℕ) → Appends a b (take m bs) → Appends b c (take n (drop m bs))
    → Appends a c (take (m + n) bs)
Appends-more a b c bs m n p q = subst (Appends a c) (sym (take-add m n bs)) (Appends-trans a b c (take m bs) (take n (drop m bs)) p q)

-- bytes that were pulled, by one pull or by several, are a front
pub ConsumesFront-one : (a b : Option (List ℕ)) (bs : List ℕ) (least : ℕ) → Consumes a b bs → least ≤ length bs → ConsumesFront a b least
ConsumesFront-one a b bs least p long = record { bytes = bs; long = long; consumed = p }

pub ConsumesFront-kept : (a b c : Option (List ℕ)) (bs : List ℕ) → Consumes a b bs → Keeps b c → ConsumesFront a c 0
ConsumesFront-kept a b c bs p q = record { bytes = bs; long = omega arith; consumed = Consumes-kept a b c bs p q }

pub ConsumesFront-more : (a b c : Option (List ℕ)) (bs cs : List ℕ) → Consumes a b bs → Consumes b c cs → ConsumesFront a c 0
ConsumesFront-more a b c bs cs p q = record { bytes = bs ++ cs; long = omega arith; consumed = Consumes-trans a b c bs cs p q }

module _ {S : Type 0} (left : S → Option (List ℕ)) (has_failed : S → Bool) where
  -- one pull more, which gave the first m bytes of buf
  pub GaveTimes-more : (n m : ℕ) (old mid new : S) (buf : List ℕ) → GaveTimes left has_failed n old mid
      → Consumes (left mid) (left new) (take m buf) → m ≢ 0 → m ≤ length buf → has_failed new ≡ false
      → GaveTimes left has_failed (n + 1) old new
  GaveTimes-more n m old mid new buf p taken some within works =
      let count_of : length (take m buf) ≡ m = length-take-le m buf within in
      more n old mid new p (record { bytes = take m buf; some = omega arith; consumed = taken; works = works })

-- what the check needs for a loop that pushes, and for one that pulls
pub ruleset pushed = (Appends-more)

pub ruleset pulled = (none, GaveTimes-more, ConsumesFront-one, ConsumesFront-kept, ConsumesFront-more, common_steps)
