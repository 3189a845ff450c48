use Rattle.std.proofs.Common.{◌≡◌, ◌-◌, length, get_or, take, drop, rules}
use Rattle.dme_line.proofs.NamedLemmas.{seven_in_front, named_touch}
use Rattle.dme_line.proofs.reading.read_written_pt_meas.Goals as goal

pub returns-in-80 : goal.returns-in-80
returns-in-80 c =
    let text = c.args.text.now in
    let h0 : get_or text 0 0 ≡ 80 = search rules in
    let h1 : get_or text 1 0 ≡ 116 = search rules in
    let h2 : get_or text 2 0 ≡ 77 = search rules in
    let h3 : get_or text 3 0 ≡ 101 = search rules in
    let h4 : get_or text 4 0 ≡ 97 = search rules in
    let h5 : get_or text 5 0 ≡ 115 = search rules in
    let h6 : get_or text 6 0 ≡ 40 = search rules in
    named_touch text (take (length text - 7) (drop 7 text)) c.read_written_touch.result
    (seven_in_front text _ _ _ _ _ _ _ c.in-80.len_at_least h0 h1 h2 h3 h4 h5 h6) c.read_written_touch.ensures
