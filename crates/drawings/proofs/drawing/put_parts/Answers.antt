use Rattle.std.proofs.lemmas.Result.{on_ok_weaker}
use Rattle.drawings.proofs.Drawn.{drawn}
use Rattle.drawings.proofs.drawing.put_parts.Goals as goal

pub returns : goal.returns
returns c = on_ok_weaker c.put_markup.result
    (λ e. drawn c.args.title.now c.args.stops.now c.args.seen.now c.args.marks.now c.args.wanted.now c.in_ok-extents.extents c.of-views.result c.whiskers_of-whiskers.result
    c.args.out.now.items c.put_head.new.out.items c.put_labels.new.out.items c.put_picture.new.out.items c.put_picture-2.new.out.items
    c.put_footer.new.out.items c.put_markup.new.out.items c.in_ok-extents.ensures c.of-views.ensures c.whiskers_of-whiskers.ensures
    c.in_ok-put_head.ensures c.in_ok-put_labels.ensures c.in_ok-put_picture.ensures c.in_ok-put_picture-2.ensures
    c.in_ok-put_footer.ensures e)
    c.put_markup.ensures
