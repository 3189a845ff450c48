-- Texts whose bytes say that there is no operator, blank or parenthesis to look for.
use Rattle.std.proofs.Common.{◌≡◌, ℕ, zero, suc, ◌+◌, ◌-◌, Bool, true, false, List, [], ◌∷◌, length, take, drop, arith, refl, subst, sym, ap, ◌∙◌}
use Rattle.std.specs.Prelude.{None, ◌==◌, ◌||◌, ◌&&◌, not, get_or, if◌then◌else◌}
use Rattle.std.specs.List.{list_all, position, position_from}
use Rattle.std.proofs.Math.Seq.{take-length}
use Rattle.std.proofs.lemmas.Iterator.Adapters.{position_from-zero}
use Rattle.program_flow.specs.Parts.{Parts, asks_operand, depth_after, follows_operand, has_rank, is_blank, is_in_numeral, is_operator, is_sign, kept_count, kept_length, last_operator, later, parts_of}
use Rattle.program_flow.specs.Parts.{parts_of_trimmed, place_after, signed_parts, trimmed, unsigned_parts}
use Rattle.program_flow.specs.Parts.Parts.{Leaf, Opposite, Same}
use Rattle.program_flow.specs.ValueCuts.{is_bare, lacks}
use Rattle.program_flow.specs.declared.places.Place.{Place}
use Rattle.program_flow.specs.declared.places.Place.TheVariants.{Wanted}
use Rattle.program_flow.specs.declared.places.Rank.{Rank}
use Rattle.program_flow.specs.declared.places.Rank.TheVariants.{Sums, Products, Powers}

-- what a byte is not
record IsNone (a p m t o c : Bool) : Type 0 where
  blank : a ≡ false
  plus : p ≡ false
  minus : m ≡ false
  times : t ≡ false
  over : o ≡ false
  call : c ≡ false

not-true : (a : Bool) → not a ≡ true → a ≡ false
not-true false h = refl
not-true true h = absurd cc

each-false : (a b : Bool) → (a || b) ≡ false → (a ≡ false) × (b ≡ false)
each-false false false h = (refl, refl)
each-false true b h = absurd cc
each-false false true h = absurd cc

both : (a b : Bool) → (a && b) ≡ true → (a ≡ true) × (b ≡ true)
both true true h = (refl, refl)
both true false h = absurd cc
both false b h = absurd cc

bare : (c : ℕ) → is_bare c ≡ true → IsNone (is_blank c) (c == 43) (c == 45) (c == 42) (c == 47) (c == 40)
bare c h =
    let e = each-false (is_blank c) (asks_operand c) (not-true (is_blank c || asks_operand c) h) in
    let f = each-false (is_sign c) ((c == 42) || ((c == 47) || (c == 40))) e.1 in let g = each-false (c == 43) (c == 45) f.0 in
    let i = each-false (c == 42) ((c == 47) || (c == 40)) f.1 in let j = each-false (c == 47) (c == 40) i.1 in
    record { blank = e.0; plus = g.0; minus = g.1; times = i.0; over = j.0; call = j.1 }

-- no operator of a rank begins at such a byte
lacks-rank : (rank : Rank) (c : ℕ) (next : List ℕ) → lacks rank c ≡ true → has_rank rank c next ≡ false
lacks-rank Sums c next h = not-true (is_sign c) h
lacks-rank Products c next h = let e = each-false (c == 47) (c == 42) (not-true ((c == 47) || (c == 42)) h) in rw (e.0, e.1) refl
lacks-rank Powers c next h = rw (not-true (c == 42) h) refl

bare-lacks : (rank : Rank) (c : ℕ) → is_bare c ≡ true → lacks rank c ≡ true
bare-lacks Sums c h = let n = bare c h in rw (n.plus, n.minus) refl
bare-lacks Products c h = let n = bare c h in rw (n.over, n.times) refl
bare-lacks Powers c h = let n = bare c h in rw n.times refl

never-here : (depth follows within has : Bool) → has ≡ false → (depth && (follows && (not within && has))) ≡ false
never-here false f w has h = refl
never-here true false w has h = refl
never-here true true true has h = refl
never-here true true false has h = h

pub last-none : (rank : Rank) (depth : ℕ) (place : Place) (text : List ℕ) → list_all (lacks rank) text ≡ true → None ≡ last_operator rank depth place text
last-none rank depth place [] h = refl
last-none rank depth place (c ∷ cs) h =
    let b = both (lacks rank c) (list_all (lacks rank) cs) h in
    let here : is_operator rank depth place c cs ≡ false = never-here (depth == 0) (follows_operand place) (is_in_numeral place c) (has_rank rank c cs) (lacks-rank rank c cs b.0) in
    ap (λ o. later o false) (last-none rank (depth_after depth c) (place_after place c) cs b.1)
    ∙ ap (λ t. later (last_operator rank (depth_after depth c) (place_after place c) cs) t) (sym here)

all-lack : (rank : Rank) (text : List ℕ) → list_all is_bare text ≡ true → list_all (lacks rank) text ≡ true
all-lack rank [] h = refl
all-lack rank (c ∷ cs) h = let b = both (is_bare c) (list_all is_bare cs) h in rw (bare-lacks rank c b.0) (all-lack rank cs b.1)

bare-none : (rank : Rank) (depth : ℕ) (place : Place) (text : List ℕ) → list_all is_bare text ≡ true → last_operator rank depth place text ≡ None
bare-none rank depth place text h = sym (last-none rank depth place text (all-lack rank text h))

none-from : (i : ℕ) (text : List ℕ) → list_all is_bare text ≡ true → position_from (λ b. b == 40) i text ≡ None
none-from i [] h = refl
none-from i (c ∷ cs) h = let b = both (is_bare c) (list_all is_bare cs) h in rw (bare c b.0).call (none-from (i + 1) cs b.1)

no-call : (text : List ℕ) → list_all is_bare text ≡ true → position (λ b. b == 40) text ≡ None
no-call text h = position_from-zero (λ b. b == 40) text ∙ none-from 0 text h

-- nothing is cut off a text without blanks at its ends
kept-one : (c n : ℕ) → is_blank c ≡ false → kept_count c n ≡ suc n
kept-one c zero h = rw h refl
kept-one c (suc n) h = omega arith

kept-bare : (text : List ℕ) → list_all is_bare text ≡ true → kept_length text ≡ length text
kept-bare [] h = refl
kept-bare (c ∷ cs) h = let b = both (is_bare c) (list_all is_bare cs) h in
    ap (λ n. kept_count c n) (kept-bare cs b.1) ∙ kept-one c (length cs) (bare c b.0).blank

kept-last : (c : ℕ) (cs : List ℕ) → is_blank (get_or (c ∷ cs) (length cs) 0) ≡ false → kept_length (c ∷ cs) ≡ suc (length cs)
kept-last c [] h = kept-one c 0 h
kept-last c (d ∷ ds) h = ap (λ n. kept_count c n) (kept-last d ds h) ∙ omega arith

whole : (c : ℕ) (cs : List ℕ) → is_blank c ≡ false → kept_length (c ∷ cs) ≡ suc (length cs) → trimmed (c ∷ cs) ≡ c ∷ cs
whole c cs h e = rw h (ap (λ n. take n (c ∷ cs)) e ∙ take-length (c ∷ cs))

pub trimmed-whole : (text : List ℕ) → is_blank (get_or text 0 0) ≡ false → is_blank (get_or text (length text - 1) 0) ≡ false → text ≡ trimmed text
trimmed-whole [] h e = refl
trimmed-whole (c ∷ cs) h e = let n : suc (length cs) - 1 ≡ length cs = omega arith in
    sym (whole c cs h (kept-last c cs (subst (λ i. is_blank (get_or (c ∷ cs) i 0) ≡ false) n e)))

trimmed-bare : (text : List ℕ) → list_all is_bare text ≡ true → trimmed text ≡ text
trimmed-bare [] h = refl
trimmed-bare (c ∷ cs) h = let b = both (is_bare c) (list_all is_bare cs) h in whole c cs (bare c b.0).blank (kept-bare (c ∷ cs) h)

unsigned-leaf : (text : List ℕ) → list_all is_bare text ≡ true → unsigned_parts text ≡ Leaf text
unsigned-leaf text h = rw (bare-none Powers 0 Wanted text h, no-call text h) refl

neither : (a b : Bool) (x y z : Parts) → a ≡ false → b ≡ false → (if a then x else (if b then y else z)) ≡ z
neither false false x y z h e = refl
neither true b x y z h e = absurd cc
neither false true x y z h e = absurd cc

signed-leaf : (text : List ℕ) → list_all is_bare text ≡ true → signed_parts text ≡ Leaf text
signed-leaf [] h = refl
signed-leaf (c ∷ cs) h = let b = both (is_bare c) (list_all is_bare cs) h in let n = bare c b.0 in
    neither (c == 45) (c == 43) (Opposite cs) (Same cs) (unsigned_parts (c ∷ cs)) n.minus n.plus ∙ unsigned-leaf (c ∷ cs) h

pub parts-leaf : (text : List ℕ) → list_all is_bare text ≡ true → Leaf text ≡ parts_of text
unfolding parts_of
parts-leaf text h = sym (ap parts_of_trimmed (trimmed-bare text h)
    ∙ rw (bare-none Sums 0 Wanted text h, bare-none Products 0 Wanted text h) (signed-leaf text h))

-- no operator of two operands is in a text whose first byte alone may be one
alone : (c : ℕ) (rest : List ℕ) → list_all is_bare rest ≡ true → parts_of_trimmed (c ∷ rest) ≡ signed_parts (c ∷ rest)
alone c rest h = rw (bare-none Sums (depth_after 0 c) (place_after Wanted c) rest h, bare-none Products (depth_after 0 c) (place_after Wanted c) rest h) refl

pub parts-alone : (text : List ℕ) → list_all is_bare (take (length text - 1) (drop 1 text)) ≡ true → parts_of_trimmed text ≡ signed_parts text
parts-alone [] h = refl
parts-alone (c ∷ cs) h = let n : suc (length cs) - 1 ≡ length cs = omega arith in
    alone c cs (subst (λ t. list_all is_bare t ≡ true) (ap (λ i. take i cs) n ∙ take-length cs) h)
