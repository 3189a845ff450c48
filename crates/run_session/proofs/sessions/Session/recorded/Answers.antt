use Rattle.run_session.proofs.Names.{◌∙◌, ◌≡◌, ap, Done, Err, FollowsTold, GoesOn, HasTold, of_file, Ok, OnOk, Reply, Result, State}
use Rattle.run_session.proofs.Names.{StaysTold, subst, sym, the_reply}
use Rattle.run_session.proofs.Steps.{filed_nears, lost_nears}
use Rattle.run_session.proofs.Filing.{filed_goes, lost_goes, goes_further}
use Rattle.run_session.proofs.sessions.Session.recorded.Goals as goal

pub returns-in-Done-clause-goes : goal.returns-in-Done-clause-goes
returns-in-Done-clause-goes c = subst (λ (r : Reply). GoesOn c.args.self.now r c.record.new.self) (sym (ap the_reply c.in-Done.is))
    (goes_further c.args.self.now c.file.new.self c.record.new.self Done
    (filed_goes c.args.self.now c.file.new.self c.requires
    (sym (ap (λ (s : State). s.book.lost) c.self.view_is) ∙ c.if-not-self.true) (record { pair = c.file.ensures.pair; talk = c.file.ensures.talk; reports = c.file.ensures.reports }) c.file.ensures.book)
    c.record.ensures.ran (ap of_file c.record.ensures.book))

pub returns-in_err-lose-clause-goes : goal.returns-in_err-lose-clause-goes
returns-in_err-lose-clause-goes c =
    subst (λ (t : State). GoesOn c.args.self.now (the_reply c.args.answer) t) (sym (c.in_err-lose.ensures))
    (lost_goes c.args.self.now c.lose_record.new.self (the_reply c.args.answer) c.requires (record { pair = c.lose_record.ensures.pair; talk = c.lose_record.ensures.talk; reports = c.lose_record.ensures.reports }) c.lose_record.ensures.book)

pub returns-clause-goes : goal.returns-clause-goes
returns-clause-goes c = goes_further c.args.self.now c.lose.new.self c.record-2.new.self (the_reply c.args.answer)
    (subst (λ (t : State). GoesOn c.args.self.now (the_reply c.args.answer) t) (sym (c.in_ok-lose.ensures))
    (lost_goes c.args.self.now c.lose_record.new.self (the_reply c.args.answer) c.requires (record { pair = c.lose_record.ensures.pair; talk = c.lose_record.ensures.talk; reports = c.lose_record.ensures.reports }) c.lose_record.ensures.book))
    c.record-2.ensures.ran (ap of_file c.record-2.ensures.book)

-- what follows once the file is lost
after_lost : {A E : Type 0} (r : Result A E) (s m n t : State) → n ≡ m → StaysTold s m → OnOk r (FollowsTold n t) → OnOk r (FollowsTold s t)
after_lost (Ok a) s m n t is told f = λ has. f (subst HasTold (sym is) (told has))
after_lost (Err e) s m n t is told f = tt

pub returns-clause-followed : goal.returns-clause-followed
returns-clause-followed c = after_lost c.record-2.result c.args.self.now c.lose_record.new.self c.lose.new.self c.record-2.new.self
    c.in_ok-lose.ensures c.lose_record.ensures.told c.record-2.ensures.followed

pub returns-in-Done-clause-nears : goal.returns-in-Done-clause-nears
returns-in-Done-clause-nears c = filed_nears c.record.result c.args.self.now c.file.new.self c.record.new.self c.requires c.file.ensures.same
    c.file.ensures.book c.record.ensures.nears

pub returns-clause-nears : goal.returns-clause-nears
returns-clause-nears c = lost_nears c.record-2.result c.args.self.now c.lose_record.new.self c.lose.new.self c.record-2.new.self c.requires
    c.lose_record.ensures.same c.lose_record.ensures.book c.in_ok-lose.ensures c.record-2.ensures.nears
