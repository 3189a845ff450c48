use Rattle.program_lowering.proofs.Names.{◌∙◌, ◌∷◌, ap, append-nil, codes, GivesStep, List, map, Ok, Result, Statement, step, subst, ℕ}
use Rattle.program_flow.specs.Numbers.{numeral}
use Rattle.program_flow.specs.declared.faults.ValueFault.{ValueFault}
use Rattle.program_lowering.specs.Carried.{IsRead, line_with}
use Rattle.program_lowering.specs.EvenTouches.{made_at}
use Rattle.program_lowering.proofs.CartesianLemmas.{moving_good}
use Rattle.program_lowering.proofs.ValuedLemmas.{read_is}
use Rattle.program_lowering.proofs.lowering.Lowering.take_made.Goals as goal

pub read_back-requires : goal.read_back-requires
read_back-requires c =
    let made : Result (List (List ℕ)) ValueFault = Ok (codes "CART" ∷ map numeral c.args.numbers.now) in
    let text = c.in_ok-text.ensures ∙ ap (λ (ns : List (List ℕ)). line_with c.args.word.now (Ok (codes "CART" ∷ ns))) (append-nil (map numeral c.args.numbers.now)) in (
      record (made_at 1 c.args.word.now c.args.numbers.now) { line = 1 },
      rw c.deref.ensures.value (read_is c.args.word.now c.in_ok-text.text.items made (moving_good c.args.word.now c.requires) text),
    )

pub returns : goal.returns
returns c =
    let made : Result (List (List ℕ)) ValueFault = Ok (codes "CART" ∷ map numeral c.args.numbers.now) in
    let text = c.in_ok-text.ensures ∙ ap (λ (ns : List (List ℕ)). line_with c.args.word.now (Ok (codes "CART" ∷ ns))) (append-nil (map numeral c.args.numbers.now)) in
    let read : IsRead c.deref.result.now (made_at 1 c.args.word.now c.args.numbers.now) =
    rw c.deref.ensures.value (read_is c.args.word.now c.in_ok-text.text.items made (moving_good c.args.word.now c.requires) text) in
    let is = c.in_ok-made.ensures.read (made_at 1 c.args.word.now c.args.numbers.now) read in
    subst (λ (t : Statement). GivesStep c.take.result c.take.new.self (step c.args.frames.now c.args.choices c.args.self.now t)) is c.take.ensures
