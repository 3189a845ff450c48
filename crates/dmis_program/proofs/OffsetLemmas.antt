-- Stored frames: one more name that is not there yet leaves each name once.
use Rattle.dmis_program.proofs.Names.{[], ◌++◌, ◌∙◌, ◌∷◌, ◌≡◌, ◌≢◌, AllByRecursion, ap, AreFrames, AreInVolume, AreNamedOnce, Bool, bytes_eq}
use Rattle.dmis_program.proofs.Names.{bytes_eq-Decides, cond, false, find, IsInVolume, List, names_of, None, offset_of, Option, Point, refl, Some}
use Rattle.dmis_program.proofs.Names.{subst, sym, true, ℕ}
use Rattle.std.proofs.lemmas.Option.{same_Some}
use Rattle.std.specs.Option.{option_map}

-- of one frame and others: the name is not that frame's, and not among the others
record IsNotFirst (f : List ℕ × Point) (frames : List (List ℕ × Point)) (name : List ℕ) : Type 0 where
  first : bytes_eq f.0 name ≡ false
  behind : offset_of frames name ≡ None

not_first : (f : List ℕ × Point) (frames : List (List ℕ × Point)) (name : List ℕ) (b : Bool) → bytes_eq f.0 name ≡ b
    → option_map (λ (g : List ℕ × Point). g.1) (cond b (Some f) (find (λ (g : List ℕ × Point). bytes_eq g.0 name) frames)) ≡ None
    → IsNotFirst f frames name
not_first f frames name true e h = absurd cc
not_first f frames name false e h = record { first = e; behind = h }

unequal : (a b : List ℕ) → bytes_eq a b ≡ false → a ≢ b
unequal a b h e = let t = (bytes_eq-Decides a b).1 e in absurd cc

-- one more name, which differs from each
differs_more : (front : List ℕ) (frames : List (List ℕ × Point)) (name : List ℕ) (point : Point) → front ≢ name
    → AllByRecursion (λ y. front ≢ y) (names_of frames) → AllByRecursion (λ y. front ≢ y) (names_of (frames ++ (name, point) ∷ []))
differs_more front [] name point e h = (e, tt)
differs_more front (f ∷ frames) name point e h = (h.0, differs_more front frames name point e h.1)

pub named_once_more : (frames : List (List ℕ × Point)) (name : List ℕ) (point : Point) → AreNamedOnce frames → offset_of frames name ≡ None
    → AreNamedOnce (frames ++ (name, point) ∷ [])
named_once_more [] name point once new = (tt, tt)
named_once_more (f ∷ frames) name point once new =
    let h = not_first f frames name (bytes_eq f.0 name) refl new in
    (differs_more f.0 frames name point (unequal f.0 name h.first) once.0, named_once_more frames name point once.1 h.behind)

-- ---- zero points in the volume

volume_more : (frames : List (List ℕ × Point)) (name : List ℕ) (point : Point) → AreInVolume frames → IsInVolume point
    → AreInVolume (frames ++ (name, point) ∷ [])
volume_more [] name point h g = (g, tt)
volume_more (f ∷ frames) name point h g = (h.0, volume_more frames name point h.1 g)

pub frames_more : (frames : List (List ℕ × Point)) (name : List ℕ) (point : Point) → AreFrames frames → IsInVolume point
    → offset_of frames name ≡ None → AreFrames (frames ++ (name, point) ∷ [])
frames_more frames name point h g new = record {
  once = named_once_more frames name point h.once new;
  within = volume_more frames name point h.within g;
}

within_first : (f : List ℕ × Point) (frames : List (List ℕ × Point)) (name : List ℕ) (offset : Point) (b : Bool) → IsInVolume f.1
    → (offset_of frames name ≡ Some offset → IsInVolume offset)
    → option_map (λ (g : List ℕ × Point). g.1) (cond b (Some f) (find (λ (g : List ℕ × Point). bytes_eq g.0 name) frames)) ≡ Some offset
    → IsInVolume offset
within_first f frames name offset true h behind e = subst IsInVolume (same_Some f.1 offset e) h
within_first f frames name offset false h behind e = behind e

-- a zero point that is found is in the volume
pub offset_within : (frames : List (List ℕ × Point)) (name : List ℕ) (offset : Point) → AreInVolume frames
    → offset_of frames name ≡ Some offset → IsInVolume offset
offset_within [] name offset h e = absurd cc
offset_within (f ∷ frames) name offset h e = within_first f frames name offset (bytes_eq f.0 name) h.0
    (offset_within frames name offset h.1) e

-- ---- a stored frame is found

-- the name of the first of frames, as it is looked up
offset_first : (f : List ℕ × Point) (frames : List (List ℕ × Point)) (name : List ℕ) (b : Bool) → bytes_eq f.0 name ≡ b
    → offset_of (f ∷ frames) name ≡ cond b (Some f.1) (offset_of frames name)
offset_first f frames name true e = rw e refl
offset_first f frames name false e = rw e refl

same_bytes : (a : List ℕ) → bytes_eq a a ≡ true
same_bytes a = (bytes_eq-Decides a a).1 refl

other_bytes : (a b : List ℕ) (t : Bool) → bytes_eq a b ≡ t → a ≢ b → bytes_eq a b ≡ false
other_bytes a b true e h = absurd (h ((bytes_eq-Decides a b).0 e))
other_bytes a b false e h = e

-- a name that differs from each differs from one among them
differs_among : (front : List ℕ) (frames more : List (List ℕ × Point)) (name : List ℕ) (offset : Point)
    → AllByRecursion (λ y. front ≢ y) (names_of (frames ++ ((name, offset) ∷ more))) → front ≢ name
differs_among front [] more name offset h = h.0
differs_among front (f ∷ frames) more name offset h = differs_among front frames more name offset h.1

pub frame_found : (frames more : List (List ℕ × Point)) (name : List ℕ) (offset : Point) → AreNamedOnce (frames ++ ((name, offset) ∷ more))
    → offset_of (frames ++ ((name, offset) ∷ more)) name ≡ Some offset
frame_found [] more name offset once = offset_first (name, offset) more name true (same_bytes name)
frame_found (f ∷ frames) more name offset once =
    let other = other_bytes f.0 name (bytes_eq f.0 name) refl (differs_among f.0 frames more name offset once.0) in
    offset_first f (frames ++ ((name, offset) ∷ more)) name false other ∙ frame_found frames more name offset once.1

pub frame_others : (frames : List (List ℕ × Point)) (name other : List ℕ) (offset : Point) → name ≢ other
    → offset_of (frames ++ (name, offset) ∷ []) other ≡ offset_of frames other
frame_others [] name other offset h = offset_first (name, offset) [] other false (other_bytes name other (bytes_eq name other) refl h)
frame_others (f ∷ frames) name other offset h =
    offset_first f (frames ++ (name, offset) ∷ []) other (bytes_eq f.0 other) refl
    ∙ ap (λ (o : Option Point). cond (bytes_eq f.0 other) (Some f.1) o) (frame_others frames name other offset h)
    ∙ sym (offset_first f frames other (bytes_eq f.0 other) refl)
