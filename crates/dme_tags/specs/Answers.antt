-- What the calls on open commands answer.
use Rattle.std.specs.Prelude.{◌≡◌, Bool, true, false, Option, Some, None, Result, Ok, Err, IfOk, IfErr, OnErr}
use Rattle.protocol_model.specs.Open.{Effect}
use Rattle.protocol_model.specs.declared.states.Cause.{Cause}
use Rattle.protocol_model.specs.declared.states.Cause.TheVariants as cause
use Rattle.dme_line.specs.declared.tags.Tag.{Tag}
use Rattle.dme_line.specs.declared.commands.Kind.{Kind}
use Rattle.dme_tags.specs.Opened.{OpenValue, with_drawn}
use Rattle.dme_tags.specs.declared.faults.TagFault.{TagFault}
use Rattle.dme_tags.specs.declared.faults.TagFault.TheVariants as fault
use Rattle.dme_tags.specs.declared.endings.Ended.{Ended}
use Rattle.dme_tags.specs.declared.endings.Ended.TheVariants as ended

-- why a client that meets a fault leaves its connection; it stays if memory ran out
abbrev pub cause_of : TagFault → Option Cause
cause_of fault.UnknownTag = Some cause.UnknownTag
cause_of fault.OutOfOrder = Some cause.OutOfOrder
cause_of fault.NoData = Some cause.NoData
cause_of fault.SecondData = Some cause.SecondData
cause_of fault.TagsSpent = Some cause.TagsSpent
cause_of fault.Memory = None

-- an answer is a refusal for this cause
abbrev pub IsRefused : {A : Type 0} → Result A Cause → Option Cause → Type 0
IsRefused answer None = ⊥
IsRefused answer (Some cause) = answer ≡ Err cause

-- a call that answers an error does so for the cause of this answer, and changes nothing
abbrev pub Refuses : {A R : Type 0} → Result R TagFault → OpenValue → OpenValue → Result A Cause → Type 0
Refuses result old new answer = IfErr result (λ fault. IsRefused answer (cause_of fault)) × OnErr result (new ≡ old)

-- the effect of a command's end
abbrev pub effect_of : Ended → Effect
effect_of (ended.Counted kind given) = Effect.Count kind given
effect_of ended.Closed = Effect.Quiet

-- the effect of a mark, if it is expected
abbrev pub effect_heard : {A : Type 0} → Result (A × Effect) Cause → Option Effect
effect_heard (Ok (behind, effect)) = Some effect
effect_heard (Err cause) = None

-- the effect of an error: a command fails at its first one
abbrev pub failure_of : Bool → Effect
failure_of true = Effect.Failure
failure_of false = Effect.Quiet

-- whether a command counts at its end
abbrev pub is_counted : Ended → Bool
is_counted (ended.Counted kind given) = true
is_counted ended.Closed = false

-- a tag that is answered is drawn, and an error changes nothing
abbrev pub Draws : {E : Type 0} → Result Tag E → OpenValue → OpenValue → Kind → Type 0
Draws result old new kind = IfOk result (λ tag. new ≡ with_drawn old tag kind) × OnErr result (new ≡ old)
