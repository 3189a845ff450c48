-- The files that one call names, and when two of them meet (this profile).
use Rattle.std.specs.Prelude.{◌≡◌, ◌⊎◌, ◌++◌, ◌<◌, ◌||◌, ⊤, ℕ, zero, suc, Bool, true, false, get_or, List, [], ◌∷◌, codes, Option, None, Some, option_map}
use Rattle.std.specs.List.{AllByRecursion}
use Rattle.effects.specs.declared.called.Called.{Called}

-- the names of the files of a call, and whether each is written
pub record Files : Type 0 where
  pub names : List (List ℕ)
  pub written : List Bool

abbrev pub no_files : Files
no_files = record { names = []; written = [] }

-- one more, if it is named
abbrev pub with_file : Option (List ℕ) → Bool → Files → Files
with_file None is_written f = f
with_file (Some name) is_written f = record { names = f.names ++ name ∷ []; written = f.written ++ is_written ∷ [] }

-- the second is made next to the first: its next text, and, where that is kept, what was in it before
abbrev pub IsBeside : (is_kept : Bool) → List ℕ → List ℕ → Type 0
IsBeside is_kept name beside = (beside ≡ name ++ codes ".new") ⊎ ((is_kept ≡ true) × (beside ≡ name ++ codes ".old"))

-- they are one, or one is made next to the other
abbrev pub Meet : (is_kept : Bool) → List ℕ → List ℕ → Type 0
Meet is_kept first second = (first ≡ second) ⊎ (IsBeside is_kept first second ⊎ IsBeside is_kept second first)

-- a file that is named: its number among those of the call, its place, and its number on its device if it exists
pub record Seen : Type 0 where
  pub at : ℕ
  pub place : List ℕ
  pub node : Option (List ℕ)

abbrev pub seen_of : Called → Seen
seen_of c = record { at = c.at; place = c.place.items; node = option_map (λ node. node.items) c.node }

-- two files are one on their device
abbrev pub AreOne : Option (List ℕ) → Option (List ℕ) → Type 0
AreOne (Some first) (Some second) = first ≡ second
AreOne first second = ⊥

-- whether a file is written, by the list of those that are
abbrev pub is_written : List Bool → ℕ → Bool
is_written written at = get_or written at false

-- they are one, by their numbers or their places, or one is made next to the other; and either is written
abbrev pub Disturbs : (is_kept : Bool) (written : List Bool) → Seen → Seen → Type 0
Disturbs is_kept written a b =
    ((is_written written a.at || is_written written b.at) ≡ true) × (AreOne a.node b.node ⊎ Meet is_kept a.place b.place)

-- none of these disturbs this one
abbrev pub IsClear : (is_kept : Bool) (written : List Bool) → List Seen → Seen → Type 0
IsClear is_kept written seen s = AllByRecursion (λ earlier. Disturbs is_kept written earlier s → ⊥) seen

-- that of this number is the first of these that disturbs this one
abbrev pub IsFirstMet : (is_kept : Bool) (written : List Bool) → List Seen → ℕ → Seen → Type 0
IsFirstMet is_kept written [] at s = ⊥
IsFirstMet is_kept written (earlier ∷ seen) zero s = Disturbs is_kept written earlier s
IsFirstMet is_kept written (earlier ∷ seen) (suc at) s = (Disturbs is_kept written earlier s → ⊥) × IsFirstMet is_kept written seen at s

-- none of these disturbs a later one
abbrev pub AreApart : (is_kept : Bool) (written : List Bool) → List Seen → Type 0
AreApart is_kept written [] = ⊤
AreApart is_kept written (s ∷ seen) = AllByRecursion (λ later. Disturbs is_kept written s later → ⊥) seen × AreApart is_kept written seen

-- a number is among these
abbrev pub IsIn : ℕ → List ℕ → Type 0
IsIn n [] = ⊥
IsIn n (m ∷ ms) = (n ≡ m) ⊎ IsIn n ms

-- a file is among these
abbrev pub IsSeen : ℕ → List Seen → Type 0
IsSeen n [] = ⊥
IsSeen n (s ∷ seen) = (n ≡ s.at) ⊎ IsSeen n seen
