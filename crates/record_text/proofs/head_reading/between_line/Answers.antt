use Rattle.record_text.proofs.Names.{◌∙◌, ◌≡◌, false, not_equal_word, sym, true}
use Rattle.record_text.proofs.HeadSteps.{no_between}
use Rattle.record_text.proofs.head_reading.between_line.Goals as goal

pub returns-then-not-is_empty-clause-damaged : goal.returns-then-not-is_empty-clause-damaged
returns-then-not-is_empty-clause-damaged c n e = no_between c.args.head.now.part c.args.head.now.asked c.args.line.now c.args.number n e
    (λ text p q h s.
    let yes : c.is_empty.result ≡ true = c.is_empty.ensures.1 (p, q) in
    let no : c.is_empty.result ≡ false = c.if-not-is_empty.true in
    absurd cc)
    (rw c.in_default.is at c.in_ok-label.ensures) (λ s. not_equal_word _ _ c.if-eq.ensures (s ∙ sym c.as_slice.ensures))

pub returns-in_default-2-clause-damaged : goal.returns-in_default-2-clause-damaged
returns-in_default-2-clause-damaged c n e = no_between c.args.head.now.part c.args.head.now.asked c.args.line.now c.args.number n e
    (λ text p q h s. rw c.in_default-2.is at c.in_ok-part.ensures text (h, s))
    (rw c.in_default.is at c.in_ok-label.ensures) (λ s. not_equal_word _ _ c.if-eq.ensures (s ∙ sym c.as_slice.ensures))
