-- What a line of the server does, by the commands before and after the one that it is for.
use Rattle.witness_laws.proofs.Names.{◌++◌, ◌+◌, ◌||◌, ◌∙◌, ◌∷◌, ◌≡◌, [], ap, arith, at_use, Bool, cond, Dialogue, false, first_under, heard_as}
use Rattle.witness_laws.proofs.Names.{heard_at, heard_under, is_end, is_open, length, List, list_any, None, or_from, or_parts, position}
use Rattle.witness_laws.proofs.Names.{position_from, position_from-zero, refl, remove, Signal, slice_get, Some, Tag, tag_is, true, unasked, Use, ℕ}

-- ---- the first of a list that passes

pub record Found (p : Use → Bool) (xs : List Use) : Type 0 where
  pub before : List Use
  pub one : Use
  pub after : List Use
  pub parts : xs ≡ before ++ one ∷ after
  pub passed : list_any p before ≡ false
  pub passes : p one ≡ true

pub find_first : (p : Use → Bool) (xs : List Use) → list_any p xs ≡ true → Found p xs
find_first p [] e = absurd (cc)
find_first p (x ∷ xs) e = go (find_first p xs) (p x) refl e where
  go : (list_any p xs ≡ true → Found p xs) → (b : Bool) → p x ≡ b → (b || list_any p xs) ≡ true → Found p (x ∷ xs)
  go rest true is e = record { before = []; one = x; after = xs; parts = refl; passed = refl; passes = is }
  go rest false is e =
      let f : Found p xs = rest e in
      record {
        before = x ∷ f.before;
        one = f.one;
        after = f.after;
        parts = ap (λ (l : List Use). x ∷ l) f.parts;
        passed = or_from (p x) (list_any p f.before) is f.passed;
        passes = f.passes;
      }

place_from : (p : Use → Bool) (n : ℕ) (before : List Use) (u : Use) (after : List Use) → list_any p before ≡ false → p u ≡ true
    → position_from p n (before ++ u ∷ after) ≡ Some (n + length before)
place_from p n [] u after none is =
    ap (λ (b : Bool). cond b (Some n) (position_from p (n + 1) after)) is ∙ ap Some (omega arith)
place_from p n (x ∷ before) u after none is =
    let no = or_parts (p x) (list_any p before) none in
    ap (λ (b : Bool). cond b (Some n) (position_from p (n + 1) (before ++ u ∷ after))) no.0
    ∙ place_from p (n + 1) before u after no.1 is
    ∙ ap Some (omega arith)

nowhere_from : (p : Use → Bool) (n : ℕ) (xs : List Use) → list_any p xs ≡ false → position_from p n xs ≡ None
nowhere_from p n [] none = refl
nowhere_from p n (x ∷ xs) none =
    let no = or_parts (p x) (list_any p xs) none in
    ap (λ (b : Bool). cond b (Some n) (position_from p (n + 1) xs)) no.0 ∙ nowhere_from p (n + 1) xs no.1

pub place : (p : Use → Bool) (before : List Use) (u : Use) (after : List Use) → list_any p before ≡ false → p u ≡ true
    → position p (before ++ u ∷ after) ≡ Some (length before)
place p before u after none is =
    position_from-zero p (before ++ u ∷ after) ∙ place_from p 0 before u after none is ∙ ap Some (omega arith)

pub nowhere : (p : Use → Bool) (xs : List Use) → list_any p xs ≡ false → position p xs ≡ None
nowhere p xs none = position_from-zero p xs ∙ nowhere_from p 0 xs none

-- ---- the command at a place

pub get_there : (before : List Use) (u : Use) (after : List Use) → slice_get (before ++ u ∷ after) (length before) ≡ Some u
get_there [] u after = refl
get_there (x ∷ before) u after = get_there before u after

pub removed_there : (before : List Use) (u : Use) (after : List Use) → remove (before ++ u ∷ after) (length before) ≡ before ++ after
removed_there [] u after = refl
removed_there (x ∷ before) u after = ap (λ (l : List Use). x ∷ l) (removed_there before u after)

-- ---- a mark

-- a mark under a tag is heard for the first command that is open under it
pub marks_first : (d : Dialogue) (line : List ℕ) (tag : Tag) (signal : Signal) (before : List Use) (u : Use) (after : List Use)
    → d.uses ≡ before ++ u ∷ after → is_open tag before ≡ false → tag_is u.tag tag ≡ true
    → heard_under d line tag signal (first_under tag d.uses) ≡ heard_at d (length before) u (heard_as u.command signal) (is_end signal)
marks_first d line tag signal before u after parts passed passes =
    ap (λ (l : List Use). heard_under d line tag signal (first_under tag l)) parts
    ∙ ap (heard_under d line tag signal) (place (λ (u : Use). tag_is u.tag tag) before u after passed passes)
    ∙ ap (λ (l : List Use). at_use d (length before) signal (slice_get l (length before))) parts
    ∙ ap (at_use d (length before) signal) (get_there before u after)

-- a mark under a tag under which none is open
pub marks_none : (d : Dialogue) (line : List ℕ) (tag : Tag) (signal : Signal) → is_open tag d.uses ≡ false
    → heard_under d line tag signal (first_under tag d.uses) ≡ unasked d line tag signal
marks_none d line tag signal none = ap (heard_under d line tag signal) (nowhere (λ (u : Use). tag_is u.tag tag) d.uses none)
