use Rattle.std.proofs.lemmas.Result.{IfOk-weaker}
use Rattle.program_review.proofs.topics.topic_text.Goals as goal

pub returns-clause-page : goal.returns-clause-page
returns-clause-page c =
    IfOk-weaker c.page_text.result _ _
    (λ text e. record { code = _; text = c.page_at.result.now; is_code = c.code.ensures; whole = e }) c.page_text.ensures.text
