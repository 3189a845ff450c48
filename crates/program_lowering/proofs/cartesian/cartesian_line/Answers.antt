use Rattle.program_lowering.proofs.Names.{◌++◌, ◌∙◌, ◌∷◌, ◌≡◌, ap, append_assoc, codes, false, List, map, ℕ}
use Rattle.std.specs.List.{list_all}
use Rattle.program_flow.specs.Numbers.{numeral}
use Rattle.program_lowering.specs.OperatorTexts.{is_plain, marked}
use Rattle.program_lowering.proofs.cartesian.cartesian_line.Goals as goal

pub returns : goal.returns
returns c =
    let rest : List (List ℕ) = map numeral c.args.numbers.now ++ c.args.rest.now in
    let head = c.in_ok-extend_from_slice.ensures.items ∙ ap (λ (t : List ℕ). t ++ codes "/CART") c.in_ok-text.ensures.items in
    let text : c.push_place.new.out.items ≡ c.args.word.now ++ marked 47 (codes "CART" ∷ rest) =
    c.in_ok-plain.ensures.0 ∙ (ap (λ (t : List ℕ). t ++ marked 44 rest) head ∙ append_assoc c.args.word.now (codes "/CART") (marked 44 rest)) in
    let plain : c.in_ok-plain.plain ≡ list_all (is_plain false) (codes "CART" ∷ rest) = c.in_ok-plain.ensures.1 in
    c.line_of.ensures (codes "CART" ∷ rest) text plain
