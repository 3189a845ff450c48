use Rattle.fixed_um.proofs.Names.{◌≡◌, codes, component_limit, List, Ok, pos, Reads, rules, subst, sym, ℕ}
use Rattle.fixed_um.proofs.WrittenLemmas.{zero_reads, one_reads, zero_digit_reads, one_digit_reads}
use Rattle.fixed_um.proofs.numerals.component_on_axis.Goals as goal

pub returns-then-eq : goal.returns-then-eq
returns-then-eq c = let e : c.args.bytes.now ≡ codes "0" = search rules in
    subst (λ (text : List ℕ). Reads 6 component_limit text (Ok (pos 0))) (sym e) zero_digit_reads

pub returns-then-eq-2 : goal.returns-then-eq-2
returns-then-eq-2 c = let e : c.args.bytes.now ≡ codes "1" = search rules in
    subst (λ (text : List ℕ). Reads 6 component_limit text (Ok (pos 1000000))) (sym e) one_digit_reads

pub returns-then-eq-3 : goal.returns-then-eq-3
returns-then-eq-3 c = let e : c.args.bytes.now ≡ codes "0.000000" = search rules in
    subst (λ (text : List ℕ). Reads 6 component_limit text (Ok (pos 0))) (sym e) zero_reads

pub returns-then-eq-4 : goal.returns-then-eq-4
returns-then-eq-4 c = let e : c.args.bytes.now ≡ codes "1.000000" = search rules in
    subst (λ (text : List ℕ). Reads 6 component_limit text (Ok (pos 1000000))) (sym e) one_reads
