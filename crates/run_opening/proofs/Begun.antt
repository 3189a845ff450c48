-- A run that is ready begins as its record says.
use Rattle.run_opening.proofs.Names.{◌∙◌, ◌≡◌, Answered, ap₂, BeginsRecorded, ClientEnd, Growth, IsRecordRead, IsRunBegun, IsSessionOf, List, None, Option}
use Rattle.run_opening.proofs.Names.{Pair, part_of, Run, Some, Start, subst, ℕ}

pub run_begun : (run : Run) (a : Answered) (bytes : List ℕ) (client : Option ClientEnd) (start : Option Start) (pair : Pair)
    → BeginsRecorded run a client start → a.recorded ≡ Some bytes → IsSessionOf client start pair → IsRunBegun run a bytes pair
run_begun run a bytes None start pair r is session = absurd session
run_begun run a bytes (Some e) None pair r is session = absurd session
run_begun run a bytes (Some e) (Some start) pair r is session = record {
  p = r.p;
  program = r.program;
  b = r.b;
  kept = r.kept;
  begun = record {
    begins = subst (λ (x : Option (List ℕ)). IsRecordRead (part_of run) (Some r.p) (Some r.b) x) is r.recorded;
    can = r.starts.0;
    start = session ∙ ap₂ (λ (f : ClientEnd) (g : Growth). record { end = f; recording = g }) r.starts.1.0 r.starts.1.1;
  };
}
