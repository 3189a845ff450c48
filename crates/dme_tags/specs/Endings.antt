-- How the end of a command is answered, exactly (this profile).
use Rattle.std.specs.Prelude.{◌≡◌, ◌↔◌, ◌⊎◌, Option, None, Result, Ok, IsErrOf, IfErr}
use Rattle.dme_line.specs.declared.tags.Tag.{Tag}
use Rattle.dme_line.specs.declared.commands.Kind.{Kind}
use Rattle.protocol_model.specs.declared.held.Datum.{Datum}
use Rattle.dme_tags.specs.Opened.{OpenValue, kind_under}
use Rattle.dme_tags.specs.Standing.{AwaitsData, CountsAs, HasFailed}
use Rattle.dme_tags.specs.declared.faults.TagFault.{TagFault}
use Rattle.dme_tags.specs.declared.faults.TagFault.TheVariants as fault
use Rattle.dme_tags.specs.declared.endings.Ended.{Ended}
use Rattle.dme_tags.specs.declared.endings.Ended.TheVariants as ended

-- the answer to a `%` under a tag: the command counts where it does, and is closed where it has failed; each refusal comes if it is
-- due, and out of order is all that is left
pub record IsEnding (tag : Tag) (before : OpenValue) (result : Result Ended TagFault) : Type 0 where
  pub counted : (kind : Kind) (given : Option Datum) → (result ≡ Ok (ended.Counted kind given)) ↔ CountsAs tag before kind given
  pub closed : (result ≡ Ok ended.Closed) ↔ HasFailed tag before
  pub unknown : IsErrOf result fault.UnknownTag ↔ (kind_under tag before ≡ None)
  pub no_data : IsErrOf result fault.NoData ↔ AwaitsData tag before
  pub named : IfErr result (λ why. (why ≡ fault.UnknownTag) ⊎ (why ≡ fault.OutOfOrder) ⊎ (why ≡ fault.NoData))
