use Rattle.std.proofs.Common.{◌≡◌, length, get_or, rules}
use Rattle.dme_line.proofs.ArgumentLemmas.{closed_by_one}
use Rattle.dme_line.proofs.arguments.is_closed.Goals as goal

pub returns-in-41 : goal.returns-in-41
returns-in-41 c =
    let bytes = c.args.bytes.now in
    let one : length bytes ≡ 1 = search rules in
    let mark : get_or bytes 0 0 ≡ 41 = search rules in
    (λ _. closed_by_one bytes one mark, λ _. search rules)
