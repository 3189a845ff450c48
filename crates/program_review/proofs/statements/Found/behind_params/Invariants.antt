use Rattle.program_review.proofs.Outside.{◌≡◌, after_word, drop, fold}
use Rattle.program_review.proofs.statements.Found.behind_params.Given as goal

-- the words so far and those that are left are all of them
abbrev pub invariant-loop-param : goal.invariant-loop-param
invariant-loop-param l = fold (after_word l.self.rest.now) l.place (drop l.param-index l.front)
    ≡ fold (after_word l.self.rest.now) l.initial.place l.front
