use Rattle.dme_line.proofs.Names.{◌-◌, ◌≡◌, ap, drop, FitsSigned, get_or, length, Ok, Reads, rules, subst, sym, take, unsigned_abs, wire_limit, ℤ}
use Rattle.std.specs.Int.{w64}
use Rattle.std.proofs.lemmas.Int.{to_z-of_z}
use Rattle.dme_line.proofs.PointLemmas.{one_in_front, two_in_front, point_in_front}
use Rattle.dme_line.proofs.points.cut_written_point.Goals as goal

pub returns : goal.returns
returns c =
    let text = c.args.text.now in
    let behind = c.in_ok-z.rest.now in
    let letter : get_or text 0 0 ≡ 88 = search rules in
    let open_is : get_or text 1 0 ≡ 40 = search rules in
    let close_is : get_or behind 0 0 ≡ 41 = search rules in
    let x_fits : FitsSigned w64 c.in_ok-x.x = search rules in
    let y_fits : FitsSigned w64 c.in_ok-y.y = search rules in
    let z_fits : FitsSigned w64 c.in_ok-z.z = search rules in
    let axes = point_in_front _ _ _ text _ c.in_ok-x.rest.now _ c.in_ok-y.rest.now _ behind
    (take (length behind - 1) (drop 1 behind)) c.in_ok-x.x c.in_ok-y.y c.in_ok-z.z
    (ap unsigned_abs c.wire_limit.ensures) (ap unsigned_abs c.wire_limit-2.ensures) (ap unsigned_abs c.wire_limit-3.ensures)
    (two_in_front text 88 40 c.in-88.len_at_least letter open_is) c.in_ok-x.ensures c.in_ok-second.ensures
    c.in_ok-y.ensures c.in_ok-third.ensures c.in_ok-z.ensures (one_in_front behind 41 c.in-41.len_at_least close_is) in
    rw c.in_ok-point.ensures (record {
      x = axes.first;
      y = axes.second;
      z = axes.third;
      spelled = axes.spelled;
      reads = record {
        x_reads = subst (λ (v : ℤ). Reads 3 wire_limit axes.first (Ok v)) (sym (to_z-of_z w64 c.in_ok-x.x x_fits)) axes.x_reads;
        y_reads = subst (λ (v : ℤ). Reads 3 wire_limit axes.second (Ok v)) (sym (to_z-of_z w64 c.in_ok-y.y y_fits)) axes.y_reads;
        z_reads = subst (λ (v : ℤ). Reads 3 wire_limit axes.third (Ok v)) (sym (to_z-of_z w64 c.in_ok-z.z z_fits)) axes.z_reads;
      };
    })
