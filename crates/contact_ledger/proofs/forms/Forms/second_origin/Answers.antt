use Rattle.std.proofs.Common.{sym, ap, ◌∙◌, ℕ, List, ◌∷◌}
use Rattle.contact_ledger.proofs.OpeningLines.{dash_alone, second_refused}
use Rattle.contact_ledger.proofs.Leaves.{equal_word, not_equal_word}
use Rattle.contact_ledger.proofs.forms.Forms.second_origin.Goals as goal

pub returns-in-Some : goal.returns-in-Some
returns-in-Some c o h = dash_alone _ _ _ _ o
    (c.in_ok-first.ensures ∙ ap (λ (x : List (List ℕ)). c.in_ok-first.first.now ∷ x) c.in-Some.ensures)
    (equal_word _ _ c.if-eq.ensures ∙ c.as_slice.ensures) h.0 h.1

pub returns-in_default : goal.returns-in_default
returns-in_default c o h =
    second_refused _ _ _ o c.in_default.ensures c.in_ok-first.ensures
    (λ e. not_equal_word _ _ c.if-eq.ensures (e ∙ sym c.as_slice.ensures)) h.0 h.1
