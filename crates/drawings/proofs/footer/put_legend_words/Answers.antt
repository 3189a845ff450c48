use Rattle.drawings.proofs.Names.{◌∙◌, append_assoc, on_ok_weaker}
use Rattle.drawings.specs.Footer.{legend_words}
use Rattle.drawings.proofs.footer.put_legend_words.Goals as goal

pub returns : goal.returns
unfolding legend_words
returns c = on_ok_weaker c.put_text-4.result
    (λ e. e ∙ simp (
      c.in_ok-put_text-3.ensures,
      c.in_ok-put_text-2.ensures,
      c.in_ok-put_text.ensures,
      c.new-4.ensures,
      c.new-3.ensures,
      c.new-2.ensures,
      c.new.ensures,
      append_assoc,
    ))
    c.put_text-4.ensures
