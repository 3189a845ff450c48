use Rattle.std.proofs.Common.{arith}
use Rattle.fixed_um.proofs.RoundingLemmas.{ten_some}
use Rattle.fixed_um.proofs.rounding.word_scaled_down.Goals as goal

pub rounded_word-requires : goal.rounded_word-requires
rounded_word-requires c = omega (arith, ten_some c.args.places c.requires.some, c.power_of_ten.ensures)
