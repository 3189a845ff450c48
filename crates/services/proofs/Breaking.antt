-- A connection that was broken off is never forgotten.
use Rattle.std.proofs.Common.{◌≡◌, inl, inr, sym, ap, subst, ◌∙◌, true≢false, true, List, [], ◌∷◌, ℕ}
use Rattle.std.specs.Prelude.{OnOk, Result}
use Rattle.effects.specs.Effects.{Reply, Bytes, Done}
use Rattle.protocol_model.specs.Ends.{ServerEnd}
use Rattle.services.specs.declared.stages.Stage.{Stage}
use Rattle.services.specs.Serving.{Talk, Traffic, may_end, no_traffic}
use Rattle.services.specs.Sessions.{State, Breaks}
use Rattle.services.proofs.Served.{BringsNone, all_ok, on_ok}

-- none is, where the server is on its connection, or not, as before, and takes none
pub none_breaks : (s t : State) (reply : Reply) → t.talk.end ≡ s.talk.end → t.core.broken ≡ s.core.broken
    → (s.stage ≡ Stage.Accepting → reply ≡ Done → ⊥) → Breaks s reply t
none_breaks s t reply same broken none = λ h. elim h [
  | inl was ↦ broken ∙ was
  | inr off ↦ elim off.1.1 [
    | inl on ↦ absurd (true≢false (sym on ∙ (sym (ap (λ (e : ServerEnd). e.server.on) same) ∙ off.0)))
    | inr taken ↦ absurd (none taken.0 taken.1)
  ]
]

pub quiet_breaks : {A E : Type 0} (r : Result A E) (s t : State) (reply : Reply) → t.talk.end ≡ s.talk.end
    → OnOk r (t.core.broken ≡ s.core.broken) → (s.stage ≡ Stage.Accepting → ⊥) → OnOk r (Breaks s reply t)
quiet_breaks r s t reply same broken none = on_ok r (t.core.broken ≡ s.core.broken) (Breaks s reply t)
    (λ b. none_breaks s t reply same b (λ at is. none at)) broken

-- nor where the client has ended it, or at the stop file
pub ended_breaks : {A E : Type 0} (r : Result A E) (s t : State) (at : Stage) (reply : Reply) → s.stage ≡ at → may_end at reply ≡ true
    → t.core.broken ≡ s.core.broken → OnOk r (Breaks s reply t)
ended_breaks r s t at reply is may broken = all_ok r (Breaks s reply t) (λ h. elim h [
  | inl was ↦ broken ∙ was
  | inr off ↦ absurd (true≢false (sym may ∙ (sym (ap (λ (x : Stage). may_end x reply) is) ∙ off.1.0)))
])

-- an answer that brings nothing takes none
not_one : (heard : List (List ℕ)) → [] ∷ heard ≡ [] → ⊥
not_one heard is = absurd cc

pub none_taken : (reply : Reply) → BringsNone Stage.Accepting reply → reply ≡ Done → ⊥
none_taken reply none is =
    not_one [] (ap (λ (f : Traffic). f.heard) (subst (λ (r : Reply). BringsNone Stage.Accepting r) is none [] no_traffic))

pub bytes_or_done : (bytes : List ℕ) → Bytes bytes ≡ Done → ⊥
bytes_or_done bytes is = absurd cc

-- a step that keeps what another has broken off
pub breaks_ok : {A E : Type 0} (r : Result A E) (s m t : State) (reply : Reply) → Breaks s reply m → t.talk ≡ m.talk
    → OnOk r (t.core.broken ≡ m.core.broken) → OnOk r (Breaks s reply t)
breaks_ok r s m t reply breaks talk broken = on_ok r (t.core.broken ≡ m.core.broken) (Breaks s reply t) (λ b h. b ∙ breaks (elim h [
  | inl was ↦ inl was
  | inr off ↦ inr (sym (ap (λ (x : Talk). x.end.server.on) talk) ∙ off.0, off.1)
])) broken
