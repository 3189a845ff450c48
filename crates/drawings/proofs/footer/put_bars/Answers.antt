use Rattle.drawings.proofs.Names.{◌∙◌, append_assoc, arith, on_ok_weaker, refl}
use Rattle.drawings.specs.Bars.{bars_text}
use Rattle.drawings.proofs.footer.put_bars.Goals as goal

pub returns : goal.returns
unfolding bars_text
returns c =
    let bar = c.in_ok-put_bar.ensures (omega arith) in
    let magnified = c.in_ok-put_bar-2.ensures (omega arith) in
    on_ok_weaker c.put_markup-3.result
    (λ e. record {
      text = bars_text c.args.scale c.args.whiskers.now.scale bar.is.number magnified.is.number;
      is = record {
        bar = bar.is.number;
        magnified = magnified.is.number;
        bar_is = bar.is.longest;
        magnified_is = magnified.is.longest;
        are = refl;
      };
      added = e ∙ simp (
        magnified.added,
        magnified.is.is,
        c.in_ok-put_markup-2.ensures,
        bar.added,
        bar.is.is,
        c.in_ok-put_markup.ensures,
        append_assoc,
      );
    })
    c.put_markup-3.ensures
