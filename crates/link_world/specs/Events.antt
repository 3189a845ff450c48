-- Words for what an event answers (this profile).
use Rattle.std.specs.Prelude.{◌≡◌, Bool, true, false, Result, OnOk, OnErr, IfErr}
use Rattle.std.specs.Result.{IsErrOf}
use Rattle.link_world.specs.declared.worlds.faults.WorldFault.{WorldFault}
use Rattle.link_world.specs.declared.worlds.faults.WorldFault.TheVariants as fault

-- it happens only if it can, is refused only if it cannot, and runs out of memory only if it can
abbrev pub HappensIf : Result (Unit {0}) WorldFault → Bool → Type 0
HappensIf result can =
    OnOk result (can ≡ true) × (IsErrOf result fault.NotNow → can ≡ false) × (IsErrOf result fault.Memory → can ≡ true)

-- it happens if it can, and is refused if it cannot; it does not allocate
abbrev pub HappensIff : Result (Unit {0}) WorldFault → Bool → Type 0
HappensIff result can = OnOk result (can ≡ true) × OnErr result (can ≡ false) × IfErr result (λ f. f ≡ fault.NotNow)
