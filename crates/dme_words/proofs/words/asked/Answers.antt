use Rattle.dme_words.proofs.Names.{◌∙◌, ◌≡◌, ap, app_of, is_simple_and_free, map, refl, whole_line}
use Rattle.dme_words.proofs.WordsLemmas.{asked_or_refused, names_askable}
use Rattle.dme_words.proofs.words.asked.Goals as goal

pub answered-requires : goal.answered-requires
answered-requires c =
    let shape : app_of c.in_ok-command.command ≡ whole_line = c.in_ok-command.ensures.shape in
    names_askable (app_of c.in_ok-command.command) (map (λ word. word.now) c.args.words.now) c.try_get_matches_from.result shape
    (c.try_get_matches_from.ensures.kinds (ap is_simple_and_free shape ∙ refl)) c.try_get_matches_from.ensures.matches

pub returns : goal.returns
returns c =
    let shape : app_of c.in_ok-command.command ≡ whole_line = c.in_ok-command.ensures.shape in
    let both = asked_or_refused (app_of c.in_ok-command.command) (map (λ word. word.now) c.args.words.now) c.try_get_matches_from.result
    c.answered.result shape
    (c.try_get_matches_from.ensures.kinds (ap is_simple_and_free shape ∙ refl)) c.try_get_matches_from.ensures.matches
    c.answered.ensures.order c.answered.ensures.taken c.answered.ensures.refused in
    record {
      order = both.0;
      refused = both.1;
      ready = c.answered.ensures.ready;
    }
