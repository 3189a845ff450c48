use Rattle.drawings.proofs.Names.{◌∙◌, ap, List, on_ok_weaker, Step, stops_of}
use Rattle.drawings.proofs.drawing.put_drawing.Goals as goal

pub returns : goal.returns
returns c =
    let of = c.in_ok-stops.ensures ∙ ap (λ (steps : List Step). stops_of steps c.args.features.now) c.statements.ensures.steps in
    let seen = c.in_ok-seen.ensures in
    let s = c.as_slice-2.ensures.value ∙ of in
    on_ok_weaker c.put_parts.result
    (λ d. record {
      text = d.text;
      is = record {
        seen = c.as_slice-3.result.now;
        seen_are = rw c.as_slice-3.ensures.value (rw (c.as_slice.ensures.value, of) at seen);
        marks = c.as_slice-4.result.now;
        marks_are = rw c.as_slice-4.ensures.value c.in_ok-marks.ensures;
        is = rw (s, c.features.ensures.features) at d.is;
      };
      added = d.added;
    })
    c.put_parts.ensures
