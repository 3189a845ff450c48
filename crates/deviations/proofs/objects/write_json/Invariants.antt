use Rattle.std.proofs.Common.{◌≡◌, ◌++◌, ◌∷◌, [], length}
use Rattle.json.specs.Token.{end_array}
use Rattle.deviations.specs.Json.{rows_tokens, json_tokens}
use Rattle.deviations.proofs.objects.write_json.Given as goal

abbrev pub invariant-loop-left : goal.invariant-loop-left
invariant-loop-left l = (l.json.tokens ++ (rows_tokens l.of l.limits l.left ++ end_array ∷ []) ≡ json_tokens l.of l.limits l.fn.rows) × (l.json.before ≡ [])

abbrev pub decreases-loop-left : goal.decreases-loop-left
decreases-loop-left l = length l.left
