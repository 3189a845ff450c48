-- Names and their endings, and what is due once all was read.
use Rattle.std.proofs.Common.{◌≡◌, ◌⊎◌, inl, inr, ℕ, Bool, true, false, not, Result, Ok, Err, OnOk, List, [], ◌∷◌, ◌++◌, refl, ap, sym, ◌∙◌, subst, true≢false}
use Rattle.std.specs.Str.{bytes_eq}
use Rattle.std.specs.Str.Pattern.{StripsSuffix, FindsTextSuffix}
use Rattle.std.proofs.lemmas.Slice.Eq.{bytes_eq-Decides}
use Rattle.std.proofs.lemmas.List.{append_cancel_right}
use Rattle.effects.specs.declared.vocabulary.Slot.{Slot}
use Rattle.effects.specs.declared.vocabulary.Slot.TheVariants.{Order}
use Rattle.watched_ends.specs.declared.recorded.Order.TheVariants as ordered
use Rattle.watched_ends.specs.declared.recorded.Order as the
use Rattle.watched_ends.specs.Jobs.{IsAnswer}
use Rattle.watched_ends.specs.declared.jobs.Job.{Job}
use Rattle.watched_ends.specs.Sessions.{Called, State, Says, Notes, cannot_read, name_of, AreNotes, IsDue, IsFinished}

pub stripped : (ending name stem : List ℕ) → StripsSuffix (FindsTextSuffix ending) name stem → name ≡ stem ++ ending
stripped ending name stem h = h.1.1 ∙ ap (λ (x : List ℕ). x ++ ending) (sym h.2)

pub one_stem : (a b : List ℕ) → false ≡ not (bytes_eq a b) → a ≡ b
one_stem a b e = (bytes_eq-Decides a b).0 (same (bytes_eq a b) e)
  where
    same : (x : Bool) → false ≡ not x → x ≡ true
    same true e = refl
    same false e = absurd (true≢false (sym e))

pub other_stems : (ending end a b stem up down : List ℕ) → true ≡ not (bytes_eq a b) → up ≡ a ++ ending → down ≡ b ++ end
    → up ≡ stem ++ ending → down ≡ stem ++ end → ⊥
other_stems ending end a b stem up down n p q u d =
    let x : a ≡ stem = append_cancel_right a stem ending (sym p ∙ u) in
    let y : b ≡ stem = append_cancel_right b stem end (sym q ∙ d) in
    differ (bytes_eq a b) n ((bytes_eq-Decides a b).1 (x ∙ sym y))
  where
    differ : (x : Bool) → true ≡ not x → x ≡ true → ⊥
    differ true n e = true≢false n
    differ false n e = true≢false (sym e)

-- what follows from what holds of a success holds of it
pub on_ok : {T E P Q : Type 0} (r : Result T E) → (P → Q) → OnOk r P → OnOk r Q
on_ok (Ok x) f p = f p
on_ok (Err e) f p = tt

-- all was read, and this is due
pub finished : (s t : State) (order : the.Order) (job : Job) (status : ℕ) (up down bytes told notes up_name down_name : List ℕ)
    → job ≡ s.called.job → up ≡ s.up → down ≡ s.down → bytes ≡ s.order → IsAnswer job up down bytes told order status
    → up_name ≡ s.called.up → down_name ≡ s.called.down
    → ((c : Called) → c.job ≡ job → c.up ≡ up_name → c.down ≡ down_name → AreNotes c up down order notes)
    → IsDue order s.called notes told status t → IsFinished s t
finished s t order job status up down bytes told notes up_name down_name n u d o answer un dn noted due = record {
  known = order;
  notes = notes;
  text = told;
  status = status;
  answer = subst (λ (x : List ℕ). IsAnswer s.called.job s.up s.down x told order status) o
      (subst (λ (x : List ℕ). IsAnswer s.called.job s.up x bytes told order status) d
      (subst (λ (x : List ℕ). IsAnswer s.called.job x down bytes told order status) u
      (subst (λ (x : Job). IsAnswer x up down bytes told order status) n answer)));
  notes_are = subst (λ (x : List ℕ). AreNotes s.called s.up x order notes) d
      (subst (λ (x : List ℕ). AreNotes s.called x down order notes) u (noted s.called (sym n) (sym un) (sym dn)));
  due = due;
}

-- the order is that of the recordings, or not
pub theirs : (order : the.Order) (c : Called) (notes told : List ℕ) (n : ℕ) (t : State)
    → (order ≡ ordered.Whole) ⊎ ((order ≡ ordered.Part) ⊎ (order ≡ ordered.Unknown)) → Notes notes told n t → IsDue order c notes told n t
theirs order c notes told n t (inl e) h = subst (λ (x : the.Order). IsDue x c notes told n t) (sym e) h
theirs order c notes told n t (inr (inl e)) h = subst (λ (x : the.Order). IsDue x c notes told n t) (sym e) h
theirs order c notes told n t (inr (inr e)) h = subst (λ (x : the.Order). IsDue x c notes told n t) (sym e) h

pub not_theirs : (s t : State) (order : the.Order) (notes shown told : List ℕ) (n : ℕ) → s.slot ≡ Order → order ≡ ordered.NotTheirs → shown ≡ notes
    → Says (shown ++ cannot_read (name_of s.slot s.called)) 1 t → IsDue order s.called notes told n t
not_theirs s t order notes shown told n slot is e h = subst (λ (x : the.Order). IsDue x s.called notes told n t) (sym is)
    (subst (λ (x : List ℕ). Says (x ++ cannot_read (name_of Order s.called)) 1 t) e
    (subst (λ (x : Slot). Says (shown ++ cannot_read (name_of x s.called)) 1 t) slot h))
