use Rattle.watched_ends.proofs.Names.{◌++◌, ◌∙◌, ap, Bool, IsRead, Limited, limited, None, reports, Some, subst, sym}
use Rattle.watched_ends.proofs.LimitLemmas.{none_read, over_read, all_read}
use Rattle.watched_ends.proofs.limits.LimitedRelay.read.Goals as goal

pub returns-in_default : goal.returns-in_default
returns-in_default c =
    let relay = c.self.inside in
    subst (λ (l : Limited). IsRead l (limited relay.connection relay.witness relay.up.waiting relay.down.waiting relay.due.items)) c.self.view_is
    (none_read relay.connection relay.witness relay.up.waiting relay.down.waiting relay.due.items c.in_default.is)

pub returns-then-is_over : goal.returns-then-is_over
returns-then-is_over c =
    let relay = c.self.inside in
    subst (λ (l : Limited). IsRead l (limited relay.connection None relay.up.waiting relay.down.waiting c.make_due.new.due.items)) c.self.view_is
    (over_read relay.connection relay.witness relay.up.waiting relay.down.waiting relay.due.items c.make_due.new.due.items
    c.in-Some.witness c.read_most.new.witness c.in-Some.is
    c.read_most.ensures.reads (c.in_ok-is_over.ensures.stop c.if-is_over.true) (sym c.in_ok-is_over.ensures.over ∙ c.if-is_over.true)
    (c.in_ok-make_due.ensures ∙ ap (λ (b : Bool). relay.due.items ++ reports b relay.connection c.read_most.new.witness.dialogue) c.if-is_over.true))

pub returns : goal.returns
returns c =
    let relay = c.self.inside in
    subst (λ (l : Limited). IsRead l
    (limited relay.connection (Some c.clear_reported.new.self) relay.up.waiting relay.down.waiting c.make_due.new.due.items))
    c.self.view_is
    (all_read relay.connection relay.witness relay.up.waiting relay.down.waiting relay.due.items
    c.make_due.new.due.items c.in-Some.witness c.read_most.new.witness c.clear_reported.new.self c.in-Some.is
    c.read_most.ensures.reads (c.in_ok-is_over.ensures.client c.if-is_over.false) (c.in_ok-is_over.ensures.server c.if-is_over.false)
    (c.in_ok-is_over.ensures.few c.if-is_over.false) (sym c.in_ok-is_over.ensures.over ∙ c.if-is_over.false)
    (c.in_ok-make_due.ensures ∙ ap (λ (b : Bool). relay.due.items ++ reports b relay.connection c.read_most.new.witness.dialogue) c.if-is_over.false)
    c.clear_reported.ensures)
