use Rattle.std.proofs.Common.{◌++◌, codes, ap, sym, ◌∙◌}
use Rattle.std.proofs.Math.Seq.{take-length}
use Rattle.watched_ends.proofs.SessionNames.{stripped, one_stem, other_stems}
use Rattle.watched_ends.proofs.sessions.beside.Goals as goal

pub returns-then-ne : goal.returns-then-ne
returns-then-ne c = λ stem u d. other_stems _ _ _ _ stem _ _ c.if-ne.ensures
    (stripped _ _ _ c.in-Some-Some.ensures.cases) (stripped _ _ _ c.in-Some-Some.ensures'.cases) u d

pub returns : goal.returns
returns c = (
  c.in-Some-Some.stem.now,
  stripped _ _ _ c.in-Some-Some.ensures.cases,
  stripped _ _ _ c.in-Some-Some.ensures'.cases ∙ ap (λ x. x ++ codes ".down") (sym (one_stem _ _ c.if-ne.ensures)),
  c.in_ok-format.ensures.ok ∙ ap (λ x. x ++ codes ".order") (take-length c.in-Some-Some.stem.now),
)
