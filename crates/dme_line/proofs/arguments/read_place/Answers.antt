use Rattle.std.proofs.lemmas.Bool.{iff_false}
use Rattle.dme_line.proofs.ArgumentLemmas.{no_first, no_second, no_third, no_fourth, no_end}
use Rattle.dme_line.proofs.arguments.read_place.Goals as goal

pub returns-in_err-first : goal.returns-in_err-first
returns-in_err-first c = rw c.from_residual-in_err-first.ensures (no_first _ _ c.in_ok-take_mark.ensures c.in_err-first.ensures)

pub returns-in_err-second : goal.returns-in_err-second
returns-in_err-second c = rw c.from_residual-in_err-second.ensures
    (no_second _ _ _ _ c.in_ok-take_mark.ensures c.in_ok-first.ensures c.in_err-second.ensures)

pub returns-in_err-third : goal.returns-in_err-third
returns-in_err-third c = rw c.from_residual-in_err-third.ensures
    (no_third _ _ _ _ _ _ c.in_ok-take_mark.ensures c.in_ok-first.ensures c.in_ok-second.ensures c.in_err-third.ensures)

pub returns-in_err-fourth : goal.returns-in_err-fourth
returns-in_err-fourth c = rw c.from_residual-in_err-fourth.ensures
    (no_fourth _ _ _ _ _ _ _ _ c.in_ok-take_mark.ensures c.in_ok-first.ensures c.in_ok-second.ensures c.in_ok-third.ensures
    (iff_false c.is_closed.ensures c.if-is_closed.false) c.in_err-fourth.ensures)

pub returns-then-not-is_closed : goal.returns-then-not-is_closed
returns-then-not-is_closed c = no_end _ _ _ _ _ _ _ _ _ _ c.in_ok-take_mark.ensures c.in_ok-first.ensures c.in_ok-second.ensures
    c.in_ok-third.ensures c.in_ok-fourth.ensures (iff_false c.is_closed-2.ensures c.if-not-is_closed.true)
