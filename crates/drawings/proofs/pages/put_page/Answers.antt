use Rattle.drawings.proofs.Names.{on_ok_weaker}
use Rattle.drawings.proofs.Filled.{paged}
use Rattle.drawings.proofs.pages.put_page.Goals as goal

pub returns : goal.returns
returns c = on_ok_weaker c.put_end.result
    (λ e. paged c.args.facts.now c.args.program.now c.args.features.now c.args.limits.now c.args.rows.now
    c.args.out.now.items c.put_head.new.out.items c.put_summary.new.out.items c.put_sections.new.out.items c.write_drawing.new.out.items
    c.put_end.new.out.items c.in_ok-put_head.ensures (rw (c.features-wanted.ensures.features) at c.in_ok-put_summary.ensures)
    (rw (c.greatest.ensures.value, c.features-wanted.ensures.features) at c.in_ok-put_sections.ensures)
    (rw c.title_of.ensures at c.in_ok-write_drawing.ensures.ok) e)
    c.put_end.ensures
