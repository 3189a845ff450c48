use Rattle.run_session.proofs.Names.{[], ◌∙◌, ◌≡◌, AddsErrors, ap, Bool, error_note, Global, List, map, OnErr, OnOk, subst, Vec, with_notes, ℕ}
use Rattle.std.specs.Prelude.{◌||◌}
use Rattle.run_session.proofs.Filing.{told_errors_keep, told_on}
use Rattle.run_session.proofs.Reporting.{keeps_by}
use Rattle.run_session.specs.Errors.{Talk}
use Rattle.run_session.proofs.sessions.Session.tell_errors.Goals as goal

pub returns-clause-ran : goal.returns-clause-ran
returns-clause-ran c =
    let told : map (λ (e : Vec ℕ Global). e.items) c.as_slice.result.now ≡ c.self.inside.errors.errors =
    ap (map (λ (e : Vec ℕ Global). e.items)) c.as_slice.ensures.value ∙ c.take-errors.ensures.errors in
    keeps_by _ _ _ _ _ c.self.view_is (told_on c.self.inside.pauses.items c.self.inside.client c.self.inside.growth c.tell_errors-told.new.self
    c.self.inside.errors _ c.lose_if.new.self
    (told_errors_keep c.tell_errors-told.result c.self.inside.pauses.items c.self.inside.client c.self.inside.growth c.tell_errors-told.new.self
    c.self.inside.errors c.take-errors.ensures.lines
    (subst (λ (l : List (List ℕ)). OnOk c.tell_errors-told.result (c.tell_errors-told.new.self ≡ with_notes (map error_note l) c.self.inside.growth)) told c.tell_errors-told.ensures.ok)
    (subst (λ (l : List (List ℕ)). OnErr c.tell_errors-told.result ((n : ℕ) × AddsErrors l c.self.inside.growth c.tell_errors-told.new.self n)) told
    c.tell_errors-told.ensures.err))
    (c.lose_if.ensures ∙ (ap (λ (x : Talk). record x { lost = x.lost || c.is_err.result }) c.take-errors.ensures.rest
    ∙ ap (λ (b : Bool). record c.self.inside.errors { errors = []; lost = c.self.inside.errors.lost || b }) c.is_err.ensures.value)))
