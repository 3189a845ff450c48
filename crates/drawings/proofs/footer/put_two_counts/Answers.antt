use Rattle.drawings.proofs.Names.{◌∙◌, append_assoc, on_ok_weaker}
use Rattle.drawings.specs.Footer.{counts_text}
use Rattle.drawings.proofs.footer.put_two_counts.Goals as goal

pub returns : goal.returns
unfolding counts_text
returns c = on_ok_weaker c.put_markup-2.result
    (λ e. e ∙ simp (c.in_ok-put_number-2.ensures, c.in_ok-put_markup.ensures, c.in_ok-put_number.ensures, append_assoc))
    c.put_markup-2.ensures
