use Rattle.run_session.proofs.Names.{◌∙◌, ap, List, sym, subst, true}
use Rattle.std.specs.Prelude.{string_bytes}
use Rattle.run_session.proofs.Hearing.{all_heard, are_tagged, is_ended, is_true, quiet_heard}
use Rattle.run_session.specs.Errors.{Talk}
use Rattle.session_telling.specs.Dialogues.{AllReport, Hears, Reported}
use Rattle.run_session.proofs.errors.Errors.hear.Goals as goal

pub returns-then-are_no_errors : goal.returns-then-are_no_errors
returns-then-are_no_errors c = let quiet = c.are_no_errors.ensures c.if-are_no_errors.true in record {
  heard = quiet_heard c.args.program.now c.args.bytes.now c.args.self.now (string_bytes c.args.shown.now) quiet.0 quiet.1 quiet.2;
  lost = tt;
}

pub invariant_of-self-2 : goal.invariant_of-self-2
invariant_of-self-2 c = (
  λ whole. is_ended c.self.inside.dialogue.hearing c.args.bytes.now c.in_ok-reports.ensures.lines c.hear.new.self.hearing
      c.in_ok-reports.ensures.cut (c.ends_line.ensures (is_true c.ends_line.result whole)),
  c.self.invariant.1,
)

pub add_all-requires : goal.add_all-requires
add_all-requires c = are_tagged _ c.in_ok-reports.ensures.lines c.as_slice.result.now
    (subst (λ (l : List Reported). AllReport c.self.inside.dialogue.sent c.in_ok-reports.ensures.lines l) (sym c.as_slice.ensures.value) c.in_ok-reports.ensures.reported)

pub returns-clause-heard : goal.returns-clause-heard
returns-clause-heard c = all_heard c.args.program.now c.args.bytes.now c.self.inside.dialogue c.hear.new.self c.as_slice.result.now
    c.args.self.now _ c.add_all.new.self _ (string_bytes c.args.shown.now) (string_bytes c.add_all.new.shown)
    (sym (ap (λ (x : Talk). x.hearing) c.self.view_is))
    (subst (λ (l : List Reported). Hears c.args.bytes.now c.self.inside.dialogue c.hear.new.self l) (sym c.as_slice.ensures.value) c.in_ok-reports.ensures)
    (ap (λ (x : Talk). record x { hearing = c.hear.new.self.hearing; lost = true }) c.self.view_is) c.in_ok-add_all.ensures.added
    (ap (λ (x : Talk). record x { lost = c.self.inside.is_lost }) c.self-2.view_is
    ∙ ap (λ (x : Talk). record c.add_all.new.self { lost = x.lost }) c.self.view_is)
