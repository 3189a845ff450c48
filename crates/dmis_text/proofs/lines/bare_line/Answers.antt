use Rattle.dmis_text.proofs.Names.{◌∙◌, ◌∷◌, ap, arith, before_comment, drop, false, is_bare, is_clean, lines, List, list_all, sym, take, ℕ}
use Rattle.dmis_text.proofs.Bare.{content_is_bare, found_content, found_clean, found_line}
use Rattle.dmis_text.proofs.lines.bare_line.Goals as goal

pub returns-clause-bare : goal.returns-clause-bare
returns-clause-bare c =
    ap (list_all is_bare) (c.split_at-2.ensures.front ∙ ap (take c.run_end-bare.result) c.split_at.ensures.front)
    ∙ content_is_bare c.args.bytes.now _ _ (omega (arith, c.run_end-bare.ensures.run)) c.comment_end-end.ensures.end c.comment_end-end.ensures.from

pub returns-clause-content : goal.returns-clause-content
returns-clause-content c =
    c.split_at-2.ensures.front ∙ ap (take c.run_end-bare.result) c.split_at.ensures.front
    ∙ found_content c.args.bytes.now _ _ (omega (arith, c.run_end-bare.ensures.run)) c.comment_end-end.ensures.end c.comment_end-end.ensures.from
    ∙ ap (before_comment false) (sym c.split_at.ensures.front)

pub returns-clause-clean : goal.returns-clause-clean
returns-clause-clean c =
    ap (is_clean false) c.split_at.ensures.front
    ∙ found_clean c.args.bytes.now _ _ (omega (arith, c.run_end-bare.ensures.run)) c.comment_end-end.ensures.end c.comment_end-end.ensures.from

pub returns-clause-cut : goal.returns-clause-cut
returns-clause-cut c =
    found_line c.args.bytes.now _ _ (omega (arith, c.run_end-bare.ensures.run)) c.comment_end-end.ensures.end c.comment_end-end.ensures.from
    c.in_ok-after.after.now (rw c.split_at.ensures.back at c.in_ok-after.ensures)
    ∙ ap (λ (l : List ℕ). l ∷ lines c.in_ok-after.after.now) (sym c.split_at.ensures.front)
