-- A check under the setup that was read is one of both.
use Rattle.std.proofs.Common.{◌≡◌, Option, Result, Ok, Err, inl, inr}
use Rattle.dme_orders.specs.Input.{Named, ReadsNamed, WhyNoNamed}
use Rattle.dme_orders.specs.Orders.{Went, blamed, no_memory, torn}
use Rattle.dme_orders.specs.Reading.{Came, IsUntouched}
use Rattle.dme_orders.specs.UnderSetup.{Checks, PlansFor}
use Rattle.order_parts.specs.declared.faults.FilesFault.{FilesFault}
use Rattle.program_review.specs.Reviews.{frames_under}
use Rattle.tool_rack.specs.Setups.{SetupValue}

pub checked : {S R W : Type 0} → (s : Named S) (r : Came R) (w : Went W) (said : Option SetupValue) (result : Result (Unit {0}) FilesFault)
    → ReadsNamed s said → PlansFor (frames_under said) r w result → Checks s r w result
checked s r w said (Ok done) read d = record {
  input = record { setup = said; program = d.input };
  read = record { said = read; accepted = d.read };
  text = d.text;
  leaves = d.leaves;
  written = d.written;
  works = d.works;
}
checked s r w said (Err cause) read (blamed why same) = blamed (inr (said, read, why)) same
checked s r w said (Err cause) read (no_memory is p a same) =
    no_memory is (record { setup = said; program = p }) (record { said = read; accepted = a }) same
checked s r w said (Err cause) read (torn is t) = torn is (record {
  input = record { setup = said; program = t.input };
  read = record { said = read; accepted = t.read };
  end = t.end;
  text = t.text;
  leaves = t.leaves;
  front = t.front;
  fails = t.fails;
})

pub unnamed : {S R W : Type 0} → (s : Named S) (r : Came R) (w : Went W) (cause : FilesFault)
    → WhyNoNamed s cause → IsUntouched r → w.new ≡ w.old → Checks s r w (Err cause)
unnamed s r w cause why same stays = blamed (inl (why, same)) stays
