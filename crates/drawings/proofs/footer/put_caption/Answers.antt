use Rattle.drawings.proofs.Names.{◌∙◌, append_assoc, on_ok_weaker}
use Rattle.drawings.specs.Footer.{caption_text}
use Rattle.drawings.proofs.footer.put_caption.Goals as goal

pub returns : goal.returns
unfolding caption_text
returns c = on_ok_weaker c.end_text.result
    (λ e. e ∙ simp (
      c.in_ok-put_counts.ensures,
      c.in_ok-put_markup-2.ensures,
      c.in_ok-put_ratio-2.ensures,
      c.in_ok-put_magnified.ensures,
      c.in_ok-put_ratio.ensures,
      c.in_ok-put_markup.ensures,
      c.in_ok-begin_text.ensures,
      c.new.ensures,
      append_assoc,
    ))
    c.end_text.ensures
