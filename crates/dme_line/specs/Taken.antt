-- What the slices of a text that was taken apart say. Public clauses cite Arguments instead.
use Rattle.std.specs.Prelude.{ℕ, ◌-◌, ◌≡◌, ◌⊎◌, ◌==◌, ◌&&◌, nat_le, if◌then◌else◌, List, [], ◌∷◌, length, take, drop, slice_index, Option, Some, None}
use Rattle.std.specs.Borrow.{Bor}
use Rattle.dme_line.specs.Arguments.{Argument, Single, Triple, Seven}
use Rattle.dme_line.specs.declared.arguments.Argument.{Argument as Slices}
use Rattle.dme_line.specs.declared.arguments.Argument.TheVariants as slices
use Rattle.dme_line.specs.declared.arguments.Place.{Place}
use Rattle.dme_line.specs.declared.arguments.Transformation.{Transformation}

abbrev pub the_argument : Slices → Argument
the_argument (slices.Single name x) = Single name.now x.now
the_argument (slices.Triple name i j k) = Triple name.now i.now j.now k.now

-- the arguments of a place in the order in which they stand
abbrev pub fourth_of : Option Slices → List Argument
fourth_of None = []
fourth_of (Some a) = the_argument a ∷ []

abbrev pub the_list : Place → List Argument
the_list p = the_argument p.first ∷ the_argument p.second ∷ the_argument p.third ∷ fourth_of p.fourth

-- three or four
abbrev pub IsPlaceLong : List Argument → Type 0
IsPlaceLong arguments = (length arguments ≡ 3) ⊎ (length arguments ≡ 4)

abbrev pub the_seven : Transformation → Seven
the_seven t = record { system = t.system.now; x = t.x.now; y = t.y.now; z = t.z.now; a = t.a.now; b = t.b.now; c = t.c.now }

abbrev pub the_words : Bor (List ℕ) × Bor (List ℕ) × Bor (List ℕ) → List ℕ × List ℕ × List ℕ
the_words w = (w.0.now, w.1.now, w.2.now)

-- a word without a quote at its start and one at its end
abbrev pub bare_word : List ℕ → List ℕ
bare_word word = if nat_le 2 (length word) && ((slice_index word 0 == 34) && (slice_index word (length word - 1) == 34)) then take
    (length word - 2) (drop 1 word) else word
