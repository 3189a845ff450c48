-- What an order over files leaves: what it has written, or why it was not carried out (this profile).
use Rattle.std.specs.Prelude.{◌≡◌, ◌⊎◌, ℕ, List, [], Bool, true, false, Option, Result, Ok, Err}
use Rattle.std.specs.Io.KnownBytes.{Appends}
use Rattle.byte_ports.specs.Transfers.{AppendsFront}
use Rattle.order_parts.specs.declared.faults.FilesFault.{FilesFault}
use Rattle.order_parts.specs.declared.faults.FilesFault.TheVariants as fault

-- a sink before and after a call: the bytes that it has taken, if it reports them, and whether it has failed
pub record Went (W : Type 0) : Type 0 where
  pub taken : W → Option (List ℕ)
  pub has_failed : W → Bool
  pub old : W
  pub new : W

abbrev pub went : {W : Type 0} → (W → Option (List ℕ)) → (W → Bool) → (old new : W) → Went W
went taken has_failed old new = record { taken = taken; has_failed = has_failed; old = old; new = new }

module _ {A B W : Type 0} (Reads : A → Type 0) (Leaves : A → B → List ℕ → Type 0) (w : Went W) where
  -- the files were read, and the text that is due was written after what was there, and nothing else; the sink works, unless there was
  -- nothing to write
  pub record IsDone (end : B) : Type 0 where
    pub input : A
    pub read : Reads input
    pub text : List ℕ
    pub leaves : Leaves input end text
    pub written : Appends (w.taken w.old) (w.taken w.new) text
    pub works : (w.has_failed w.new ≡ false) ⊎ ((text ≡ []) × (w.new ≡ w.old))

  -- the files were read, and the sink has failed and has taken a proper prefix of the text that is due
  pub record IsTorn : Type 0 where
    pub input : A
    pub read : Reads input
    pub end : B
    pub text : List ℕ
    pub leaves : Leaves input end text
    pub front : AppendsFront (w.taken w.old) (w.taken w.new) text
    pub fails : w.has_failed w.new ≡ true

  -- the order was not carried out: a file is blamed, or memory ran out, and the sink is untouched; or the sink has failed
  pub data Stops (WhyNo : FilesFault → Type 0) (cause : FilesFault) : Type 0 where
    blamed : WhyNo cause → w.new ≡ w.old → Stops WhyNo cause
    no_memory : cause ≡ fault.Memory → (input : A) → Reads input → w.new ≡ w.old → Stops WhyNo cause
    torn : cause ≡ fault.Write → IsTorn → Stops WhyNo cause

  -- what an order leaves
  abbrev pub Carries : (WhyNo : FilesFault → Type 0) → Result B FilesFault → Type 0
  Carries WhyNo (Ok end) = IsDone end
  Carries WhyNo (Err cause) = Stops WhyNo cause

-- what an order that reads no file leaves: its text was written, or memory ran out, or the sink has failed
abbrev pub Prints : {B W : Type 0} → (Leaves : B → List ℕ → Type 0) → Went W → Result B FilesFault → Type 0
Prints Leaves w = Carries (λ (input : Unit {0}). Unit {0}) (λ input. Leaves) w (λ cause. ⊥)
