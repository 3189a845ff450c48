use Rattle.drawings.proofs.Names.{◌∙◌, append_assoc, on_ok_weaker}
use Rattle.drawings.specs.Marks.{way_text}
use Rattle.drawings.proofs.pictures.put_way.Goals as goal

pub returns : goal.returns
unfolding way_text
returns c = on_ok_weaker c.put_markup-2.result
    (λ e. e ∙ simp (c.in_ok-put_way_spots.ensures, c.in_ok-put_markup.ensures, append_assoc))
    c.put_markup-2.ensures
