-- A setup is blamed only if one is named.
use Rattle.std.proofs.Common.{◌≡◌, ℕ, List, Bool, true, Option, Some, None, is_some, Result, Ok, Err, IfErr, inl, inr, refl, sym, subst}
use Rattle.tool_rack.specs.Setups.{SetupValue}
use Rattle.program_review.specs.Reviews.{frames_under}
use Rattle.dme_orders.specs.Input.{Named, IsBlamed, ReadsCheck, WhyNoCheck}
use Rattle.dme_orders.specs.Orders.{Went, Stops, blamed, no_memory, torn}
use Rattle.order_parts.specs.Plan.{plan_text}
use Rattle.dme_orders.specs.Reading.{Came, WhyNoProgram}
use Rattle.dme_orders.specs.UnderSetup.{Checks}
use Rattle.order_parts.specs.declared.faults.FilesFault.{FilesFault}
use Rattle.order_parts.specs.declared.faults.Role.{Role}
use Rattle.dme_program.specs.Blamed.{OnSetup}

on_any : (P : Type 0) (cause : FilesFault) → P → OnSetup P cause
on_any P (FilesFault.Setup cause) p = p
on_any P (FilesFault.Schedule cause) p = tt
on_any P (FilesFault.Features cause) p = tt
on_any P (FilesFault.Contacts cause) p = tt
on_any P (FilesFault.Record cause) p = tt
on_any P (FilesFault.Limits cause) p = tt
on_any P (FilesFault.Machine cause) p = tt
on_any P (FilesFault.OtherProgram label) p = tt
on_any P (FilesFault.BadSeal line) p = tt
on_any P FilesFault.EmptyKey p = tt
on_any P (FilesFault.Program cause) p = tt
on_any P (FilesFault.Unread Role.Setup) p = p
on_any P (FilesFault.Unread Role.Schedule) p = tt
on_any P (FilesFault.Unread Role.Features) p = tt
on_any P (FilesFault.Unread Role.Contacts) p = tt
on_any P (FilesFault.Unread Role.Record) p = tt
on_any P (FilesFault.Unread Role.Limits) p = tt
on_any P (FilesFault.Unread Role.Machine) p = tt
on_any P (FilesFault.Unread Role.Key) p = tt
on_any P (FilesFault.Unread Role.Program) p = tt
on_any P FilesFault.NotOurs p = tt
on_any P FilesFault.Write p = tt
on_any P FilesFault.Memory p = tt

no_setup : Role.Setup ≡ Role.Program → ⊥
no_setup is = absurd (cc)

-- a fault of the program is not one of the setup
of_program : {R : Type 0} (r : Came R) (said : Option SetupValue) (P : Type 0) (cause : FilesFault)
    → WhyNoProgram r (frames_under said) cause → OnSetup P cause
of_program r said P (FilesFault.Setup cause) why = absurd why
of_program r said P (FilesFault.Schedule cause) why = tt
of_program r said P (FilesFault.Features cause) why = tt
of_program r said P (FilesFault.Contacts cause) why = tt
of_program r said P (FilesFault.Record cause) why = tt
of_program r said P (FilesFault.Limits cause) why = tt
of_program r said P (FilesFault.Machine cause) why = tt
of_program r said P (FilesFault.OtherProgram label) why = tt
of_program r said P (FilesFault.BadSeal line) why = tt
of_program r said P FilesFault.EmptyKey why = tt
of_program r said P (FilesFault.Program cause) why = tt
of_program r said P (FilesFault.Unread Role.Setup) why = absurd (no_setup why.0)
of_program r said P (FilesFault.Unread Role.Schedule) why = tt
of_program r said P (FilesFault.Unread Role.Features) why = tt
of_program r said P (FilesFault.Unread Role.Contacts) why = tt
of_program r said P (FilesFault.Unread Role.Record) why = tt
of_program r said P (FilesFault.Unread Role.Limits) why = tt
of_program r said P (FilesFault.Unread Role.Machine) why = tt
of_program r said P (FilesFault.Unread Role.Key) why = tt
of_program r said P (FilesFault.Unread Role.Program) why = tt
of_program r said P FilesFault.NotOurs why = tt
of_program r said P FilesFault.Write why = tt
of_program r said P FilesFault.Memory why = tt

of_named : {S : Type 0} (left : S → Option (List ℕ)) (has_failed : S → Bool) (old new : Option S) (P : Type 0) (cause : FilesFault)
    → (is_some old ≡ true → P) → IsBlamed left has_failed old new cause → OnSetup P cause
of_named left has_failed (Some old) (Some new) P cause p why = on_any P cause (p refl)
of_named left has_failed (Some old) None P cause p why = absurd why
of_named left has_failed None (Some new) P cause p why = absurd why
of_named left has_failed None None P cause p why = absurd why

of_stop : {S R W : Type 0} (s : Named S) (r : Came R) (w : Went W) (P : Type 0) (cause : FilesFault) → (is_some s.old ≡ true → P)
    → Stops (ReadsCheck s r) (λ input (done : Unit {0}) text. text ≡ plan_text input.program) w (WhyNoCheck s r) cause → OnSetup P cause
of_stop s r w P cause p (blamed (inl why) same) = of_named s.left s.has_failed s.old s.new P cause p why.0
of_stop s r w P cause p (blamed (inr why) same) = of_program r why.0 P cause why.2
of_stop s r w P cause p (no_memory is input read same) = subst (OnSetup P) (sym is) tt
of_stop s r w P cause p (torn is front) = subst (OnSetup P) (sym is) tt

-- a check blames its setup only if one is named
pub only_named : {S R W : Type 0} (s : Named S) (r : Came R) (w : Went W) (P : Type 0) (result : Result (Unit {0}) FilesFault)
    → Checks s r w result → (is_some s.old ≡ true → P) → IfErr result (OnSetup P)
only_named s r w P (Ok done) h p = tt
only_named s r w P (Err cause) h p = of_stop s r w P cause p h
