use Rattle.dme_words.proofs.Names.{◌∙◌, arith, ExplainsUnsignedError, found_of, HasUnsignedDigitsIfOk, IsNumber, IsSomeAnd, List, none-some}
use Rattle.dme_words.proofs.Names.{one_text-rows, Option, ParsesUnsigned, same_Some, subst, sym, without_minus, ℕ}
use Rattle.dme_words.proofs.NumberLemmas.{number_reads}
use Rattle.dme_words.proofs.values.number_of.Goals as goal

pub unreachable-requires : goal.unreachable-requires
unreachable-requires c =
    let most = c.requires.most in
    let one = c.get_one.ensures.value (without_minus c.requires.number.text) (one_text-rows (found_of c.args.values.now) c.args.id.now
    ∙ c.requires.number.read)
    in
    let got = number_reads _ (λ bs r. ParsesUnsigned 32 10 bs r × ExplainsUnsignedError 10 bs r × HasUnsignedDigitsIfOk bs r) 32 c.args.most
    c.requires.number.text c.get_one.result one (λ u x g. g.0) (omega arith) c.requires.number.ranged in
    none-some _ (sym c.in-None.is ∙ got.1)

pub returns : goal.returns
returns c =
    let most = c.requires.most in
    let one = c.get_one.ensures.value (without_minus c.requires.number.text) (one_text-rows (found_of c.args.values.now) c.args.id.now
    ∙ c.requires.number.read)
    in
    let got = number_reads _ (λ bs r. ParsesUnsigned 32 10 bs r × ExplainsUnsignedError 10 bs r × HasUnsignedDigitsIfOk bs r) 32 c.args.most
    c.requires.number.text c.get_one.result one (λ u x g. g.0) (omega arith) c.requires.number.ranged in
    let same = same_Some _ _ (sym got.1 ∙ c.in-Some.is) in
    let is : IsNumber c.args.most c.in-Some.number c.requires.number.text =
    subst (λ (n : ℕ). IsNumber c.args.most n c.requires.number.text) same got.2 in
    record {
      named = subst (λ (o : Option (List ℕ)). IsSomeAnd o (IsNumber c.args.most c.in-Some.number)) (sym c.requires.number.written) is;
      ready = (is.1, is.2);
    }
