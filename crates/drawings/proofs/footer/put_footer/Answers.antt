use Rattle.drawings.proofs.Names.{◌++◌, ◌∙◌, append_assoc, asked_count, caption_text, legend_marks, legend_words, measured_count, on_ok_weaker, refl}
use Rattle.drawings.proofs.footer.put_footer.Goals as goal

pub returns : goal.returns
returns c =
    let bars = c.in_ok-put_bars.ensures in
    on_ok_weaker c.put_caption.result
    (λ e. record {
      text = bars.text ++ (legend_marks ++ (legend_words ++ caption_text c.args.scale c.args.whiskers.now
          (measured_count c.args.stops.now) (asked_count c.args.stops.now)));
      is = record { bars = bars.text; bars_are = bars.is; is = refl };
      added = e ∙ simp (c.in_ok-put_legend_words.ensures, c.in_ok-put_legend_marks.ensures, bars.added, append_assoc);
    })
    c.put_caption.ensures
