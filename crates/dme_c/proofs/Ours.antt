-- Features that are sound for a ledger have the labels and counts of points of the program's first features.
use Rattle.dme_c.proofs.Names.{[], ◌&&◌, ◌==◌, ◌∙◌, ◌∷◌, ◌≡◌, ap, are_ours, Bool, bytes_eq, eq-eqb, Feature, is_ours, length, List, refl, suc, true}
use Rattle.dme_c.proofs.Names.{ℕ}
use Rattle.std.proofs.lemmas.Slice.Eq.{bytes_eq-Decides}
use Rattle.fixed_um.specs.declared.lengths.Point.{Point}
use Rattle.contact_ledger.specs.declared.acts.Act.{Act}
use Rattle.dmis_program.specs.declared.features.Touch.{Touch}
use Rattle.dmis_program.specs.declared.features.Wanted.{Wanted}
use Rattle.protocol_model.specs.Claims.{AreRuns, MadeContact, Serves, Sound}

-- as many points are reported as touches are served
as_many : (n : ℕ) (ts : List Touch) (ps : List Point) (ms : List MadeContact) → Serves n ts ps ms → length ps ≡ length ts
as_many n [] [] [] h = refl
as_many n [] [] (m ∷ ms) h = absurd h
as_many n [] (p ∷ ps) ms h = absurd h
as_many n (t ∷ ts) [] ms h = absurd h
as_many n (t ∷ ts) (p ∷ ps) [] h = absurd h
as_many n (t ∷ ts) (p ∷ ps) (m ∷ ms) h = ap suc (as_many n ts ps ms h.1)

is_one : (w : Wanted) (f : Feature) → f.label ≡ w.label → length f.points ≡ length w.touches → is_ours w f ≡ true
is_one w f label count = ap (λ (b : Bool). b && (length f.points == length w.touches)) ((bytes_eq-Decides f.label w.label).1 label)
    ∙ eq-eqb (length f.points) (length w.touches) count

runs_are_ours : (ws : List Wanted) (fs : List Feature) (starts : List ℕ) (least : ℕ) (made : List MadeContact)
    → AreRuns ws fs starts least made → are_ours ws fs ≡ true
runs_are_ours ws [] starts least made h = refl
runs_are_ours [] (f ∷ fs) starts least made h = absurd h
runs_are_ours (w ∷ ws) (f ∷ fs) [] least made h = absurd h
runs_are_ours (w ∷ ws) (f ∷ fs) (s ∷ starts) least made h =
    ap (λ (b : Bool). b && are_ours ws fs) (is_one w f h.1.label (as_many h.1.connection w.touches f.points _ h.1.serves))
    ∙ runs_are_ours ws fs starts _ made h.2

pub sound_are_ours : (ws : List Wanted) (fs : List Feature) (ledger : List (ℕ × Act)) → Sound ws fs ledger → are_ours ws fs ≡ true
sound_are_ours ws fs ledger h = runs_are_ours ws fs h.starts 0 _ h.runs
