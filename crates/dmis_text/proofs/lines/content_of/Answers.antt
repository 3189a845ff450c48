use Rattle.dmis_text.proofs.Names.{◌+◌, ◌∙◌, ◌≡◌, ap, begins_comment, drop, false, get_or, refl, sym, turned}
use Rattle.dmis_text.proofs.Comments.{inside_after_more, before_comment_more, is_clean_more}
use Rattle.dmis_text.proofs.Skipping.{content_run, clean_run, flag_run}
use Rattle.dmis_text.proofs.lines.content_of.Goals as goal

pub loop-at-init : goal.loop-at-init
loop-at-init c =
    let run = c.passed_end-at.ensures.run in (
      rw run (content_run c.args.inside c.args.line.now 0),
      rw run (clean_run c.args.inside c.args.line.now 0),
      rw run (flag_run c.args.inside c.args.inside c.args.line.now 0 refl),
      c.passed_end-at.ensures.within,
    )

pub loop-at-preserved : goal.loop-at-preserved
loop-at-preserved c =
    let line = c.args.line.now in
    let inside = c.loop-at.inside in
    let at = c.loop-at.at in
    let next = turned inside (get_or line at 0) in
    let here = c.loop-at-test.true in
    let run = c.passed_end-at-in-loop-at.ensures.run in
    let none : begins_comment inside (drop at line) ≡ false =
    ap (begins_comment inside) (sym c.split_at.ensures.back) ∙ sym c.begins_comment.ensures ∙ c.if-begins_comment.false in
    let stands = sym c.may_stand.ensures ∙ c.if-not-may_stand.false in (
      rw (run, c.turned-inside.ensures)
          (content_run next line (at + 1) ∙ before_comment_more inside line at here none ∙ c.loop-at.invariant.0),
      rw (run, c.turned-inside.ensures)
          (clean_run next line (at + 1) ∙ is_clean_more inside line at here none stands ∙ c.loop-at.invariant.1),
      rw (run, c.turned-inside.ensures)
          (flag_run c.args.inside next line (at + 1) (inside_after_more c.args.inside inside line at here c.loop-at.invariant.2)),
      c.passed_end-at-in-loop-at.ensures.within,
    )
