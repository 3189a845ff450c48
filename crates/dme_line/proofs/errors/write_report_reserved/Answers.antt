use Rattle.dme_line.proofs.Names.{◌++◌, ◌∙◌, ap, codes, error_name, error_text, four_digits, List, number_of, quoted, sym, ℕ}
use Rattle.dme_line.proofs.ErrorLemmas.{report_text, text_by_number}
use Rattle.dme_line.proofs.errors.write_report_reserved.Goals as goal

pub returns-clause-text : goal.returns-clause-text
returns-clause-text c =
    report_text _ _ _ _ _ _ (number_of c.args.error) (error_name c.args.kind) (error_text (number_of c.args.error))
    c.append_reserved.ensures.text
    (c.write_four_digits_reserved.ensures.text ∙ ap (λ (n : ℕ). c.append_reserved.new.out.items ++ four_digits n) (c.from.ensures
    ∙ c.number.ensures.number))
    (c.write_quoted_next_reserved.ensures.text ∙ ap (λ (t : List ℕ). c.write_four_digits_reserved.new.out.items ++ (codes ", " ++ quoted t))
    c.error_name.ensures.name)
    (c.write_quoted_next_reserved-2.ensures.text ∙ ap (λ (t : List ℕ). c.write_quoted_next_reserved.new.out.items
    ++ (codes ", " ++ quoted t)) (c.text.ensures.text ∙ sym (text_by_number c.args.error)))
    c.push_reserved.ensures.items
