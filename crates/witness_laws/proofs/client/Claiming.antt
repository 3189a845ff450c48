-- Reports, one list after another, and the acts that they are of.
use Rattle.witness_laws.proofs.Names.{◌++◌, ◌∙◌, ◌∷◌, ◌≡◌, [], Act, ap, append-nil, append_assoc, Bool, false, List, refl, Reported, subst, sym}
use Rattle.witness_laws.specs.Acts.{all_done, BeginsWith, unless_unasked, without_unasked, Claims, BeginsToClaim}
use Rattle.witness_laws.specs.Reports.{AreReportsOf}
use Rattle.witness_laws.proofs.orders.Claiming.{reports_join}

pub without_more : (xs ys : List Reported) → without_unasked (xs ++ ys) ≡ without_unasked xs ++ without_unasked ys
without_more [] ys = refl
without_more (x ∷ xs) ys = ap (λ (l : List Reported). unless_unasked x ++ l) (without_more xs ys)
    ∙ sym (append_assoc (unless_unasked x) (without_unasked xs) (without_unasked ys))

-- more acts are reported
pub claims_more : (acts more : List Act) (xs ys : List Reported) → Claims acts xs → AreReportsOf (without_unasked ys) more
    → Claims (acts ++ more) (xs ++ ys)
claims_more acts more xs ys h g = subst (λ (l : List Reported). AreReportsOf l (acts ++ more)) (sym (without_more xs ys))
    (reports_join acts more (without_unasked xs) (without_unasked ys) h g)

-- no act is
pub claims_same : (acts : List Act) (xs ys : List Reported) → Claims acts xs → without_unasked ys ≡ [] → Claims acts (xs ++ ys)
claims_same acts xs ys h none = subst (λ (l : List Reported). AreReportsOf l acts)
    (sym (without_more xs ys ∙ (ap (λ (l : List Reported). without_unasked xs ++ l) none ∙ append-nil (without_unasked xs)))) h

-- what was reported begins with what is of these acts, exactly so unless a line came that belongs to no command
pub record Begins (lossy : Bool) (acts : List Act) (reported : List Reported) : Type 0 where
  pub first : List Reported
  pub more : List Reported
  pub parts : reported ≡ first ++ more
  pub exact : lossy ≡ false → first ≡ all_done acts
  pub claims : Claims acts first

pub begins_all : (lossy : Bool) (acts : List Act) (reported : List Reported) → (lossy ≡ false → reported ≡ all_done acts)
    → Claims acts reported → Begins lossy acts reported
begins_all lossy acts reported exact claims = record {
  first = reported;
  more = [];
  parts = sym (append-nil reported);
  exact = exact;
  claims = claims;
}

-- if one came before, so it is later
pub begins_lossy : (lossy later : Bool) (acts : List Act) (reported : List Reported) → (later ≡ false → lossy ≡ false)
    → Begins lossy acts reported → Begins later acts reported
begins_lossy lossy later acts reported less b = record {
  first = Begins.first b;
  more = Begins.more b;
  parts = Begins.parts b;
  exact = λ e. Begins.exact b (less e);
  claims = Begins.claims b;
}

pub begins_with : (acts : List Act) (reported : List Reported) → Begins false acts reported → BeginsWith acts reported
begins_with acts reported b = record {
  more = Begins.more b;
  parts = Begins.parts b ∙ ap (λ (l : List Reported). l ++ Begins.more b) (Begins.exact b refl);
}

pub begins_to_claim : (lossy : Bool) (acts : List Act) (reported : List Reported) → Begins lossy acts reported → BeginsToClaim acts reported
begins_to_claim lossy acts reported b = record {
  first = Begins.first b;
  more = Begins.more b;
  parts = Begins.parts b;
  claims = Begins.claims b;
}
