use Rattle.drawings.proofs.Names.{◌∙◌, append_assoc, on_ok_weaker}
use Rattle.drawings.specs.BarCells.{bar_of}
use Rattle.drawings.proofs.bar_cells.put_bar_of.Goals as goal

pub returns : goal.returns
unfolding bar_of
returns c = on_ok_weaker c.put_markup-3.result
    (λ e. e ∙ simp (
      c.in_ok-put_number.ensures,
      c.in_ok-put_markup-2.ensures,
      c.in_ok-extend_from_slice.ensures.items,
      c.in_ok-put_markup.ensures,
      append_assoc,
    ))
    c.put_markup-3.ensures
