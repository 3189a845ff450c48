-- What the fault of a check says about its setup (this profile).
use Rattle.order_parts.specs.declared.faults.FilesFault.{FilesFault}
use Rattle.order_parts.specs.declared.faults.FilesFault.TheVariants as files
use Rattle.order_parts.specs.declared.faults.Role.TheVariants as role

-- a fact for each fault of the setup
abbrev pub OnSetup : Type 0 → FilesFault → Type 0
OnSetup P (files.Setup cause) = P
OnSetup P (files.Unread role.Setup) = P
OnSetup P _ = Unit {0}
