use Rattle.std.proofs.Common.{rules}
use Rattle.std.proofs.lemmas.List.Sorted.{answers_always, IsNonDecreasingBy-from_sort}
use Rattle.std.proofs.lemmas.Result.{on_ok_weaker}
use Rattle.program_review.specs.declared.remarks.Remark.{Remark}
use Rattle.program_review.proofs.remarks.sort_by_line.Goals as goal

pub returns : goal.returns
returns c =
    let keys = answers_always _ _ _ (λ f a r next called. search rules) in
    on_ok_weaker c.sort_by_key.result
    (λ sorted. record {
      same = c.sort_by_key.ensures.permutation;
      ordered = IsNonDecreasingBy-from_sort (λ (r : Remark). r.line) _ (sorted (λ (r : Remark). r.line) keys);
      stable = c.sort_by_key.ensures.stable (λ (r : Remark). r.line) keys;
    })
    c.sort_by_key.ensures.sorted
