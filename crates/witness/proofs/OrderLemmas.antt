-- Places in the bytes of an end.
use Rattle.witness.proofs.JudgementNames.{[], ◌+◌, ◌-◌, ◌<◌, ◌∙◌, ◌∷◌, ◌≡◌, ◌≤◌, ap, arith, Bool, drop, drop_all, drop_more, false, get_or}
use Rattle.witness.proofs.JudgementNames.{if◌then◌else◌, IsAt, IsOn, le-leb, leb-true, length, List, nat_le, refl, subst, suc, sym, true, whole_in, zero}
use Rattle.witness.proofs.JudgementNames.{ℕ}
use Rattle.witness.proofs.JudgementNames.{◌++◌, append_assoc, bytes_of, replicate, seen_from, take}
use Rattle.std.proofs.lemmas.List.{take_all}
use Rattle.witness.specs.declared.lines.Side.{Side}
use Rattle.witness.specs.declared.lines.Side.TheVariants.{Client, Server}
use Rattle.witness.specs.Orders.{count_of, Pieces}
use Rattle.witness.specs.declared.orders.Place.{Place}

regroup : (a b n : ℕ) → a + b + n ≡ a + (b + n)
regroup a b n = omega arith

pub on_start : (lines : List (List ℕ)) (bytes at left count : ℕ) → IsOn lines bytes at left → IsOn lines (bytes + count) at (left + count)
on_start lines bytes at left count is = record {
  within = is.within;
  few = let f = is.few in omega (arith, f);
  rest = λ n. ap (λ (k : ℕ). whole_in k lines) (regroup bytes count n) ∙ is.rest (count + n)
      ∙ ap (λ (k : ℕ). at + whole_in k (drop at lines)) (sym (regroup left count n));
}

whole_more : (n : ℕ) (line : List ℕ) (lines : List (List ℕ)) → length line + 2 ≤ n → whole_in n (line ∷ lines) ≡ suc (whole_in (n - (length line + 2)) lines)
whole_more n line lines long =
    ap (λ (b : Bool). if b then suc (whole_in (n - (length line + 2)) lines) else 0) (le-leb (length line + 2) n long)

at_false : (b : Bool) → (b ≡ true → ⊥) → b ≡ false
at_false true never = absurd (never refl)
at_false false never = refl

whole_none : (n : ℕ) (line : List ℕ) (lines : List (List ℕ)) → n < length line + 2 → whole_in n (line ∷ lines) ≡ 0
whole_none n line lines short =
    ap (λ (b : Bool). if b then suc (whole_in (n - (length line + 2)) lines) else 0)
    (at_false (nat_le (length line + 2) n) (λ e. omega (arith, leb-true (length line + 2) n e, short)))

one_on : (at n : ℕ) → at + suc n ≡ at + 1 + n
one_on at n = omega arith

taken : (left n needed : ℕ) → needed ≤ left → left + n - needed ≡ left - needed + n
taken left n needed long = omega (arith, long)

enough : (left n needed : ℕ) → needed ≤ left → needed ≤ left + n
enough left n needed long = omega (arith, long)

fewer : (left needed bytes : ℕ) → left ≤ bytes → left - needed ≤ bytes
fewer left needed bytes few = omega (arith, few)

pub on_next : (lines : List (List ℕ)) (bytes at left : ℕ) (line : List ℕ) → IsOn lines bytes at left → at < length lines
    → get_or lines at [] ≡ line → length line + 2 ≤ left → IsOn lines bytes (at + 1) (left - (length line + 2))
on_next lines bytes at left line is short there long = record {
  within = omega (arith, short);
  few = fewer left (length line + 2) bytes is.few;
  rest = λ n. is.rest n
      ∙ ap (λ (l : List (List ℕ)). at + whole_in (left + n) l) (drop_more lines at [] short)
      ∙ ap (λ (l : List ℕ). at + whole_in (left + n) (l ∷ drop (at + 1) lines)) there
      ∙ ap (λ (k : ℕ). at + k) (whole_more (left + n) line (drop (at + 1) lines) (enough left n (length line + 2) long))
      ∙ one_on at (whole_in (left + n - (length line + 2)) (drop (at + 1) lines))
      ∙ ap (λ (k : ℕ). at + 1 + whole_in k (drop (at + 1) lines)) (taken left n (length line + 2) long);
}

-- no further line is whole
no_more : (n : ℕ) → n + 0 ≡ n
no_more n = omega arith

at_place : (lines : List (List ℕ)) (bytes at left : ℕ) → IsOn lines bytes at left → whole_in left (drop at lines) ≡ 0
    → IsAt lines (record { bytes = bytes; at = at; left = left })
at_place lines bytes at left is none = record {
  on = is;
  whole = ap (λ (k : ℕ). whole_in k lines) (sym (no_more bytes)) ∙ is.rest 0
      ∙ ap (λ (k : ℕ). at + whole_in k (drop at lines)) (no_more left) ∙ ap (λ (k : ℕ). at + k) none ∙ no_more at;
}

pub stays_at : (lines : List (List ℕ)) (bytes at left : ℕ) (line : List ℕ) → IsOn lines bytes at left → at < length lines
    → get_or lines at [] ≡ line → left < length line + 2 → IsAt lines (record { bytes = bytes; at = at; left = left })
stays_at lines bytes at left line is short there few = at_place lines bytes at left is
    (ap (whole_in left) (drop_more lines at [] short) ∙ ap (λ (l : List ℕ). whole_in left (l ∷ drop (at + 1) lines)) there
    ∙ whole_none left line (drop (at + 1) lines) few)

all_whole : (at count : ℕ) → at ≤ count → count ≤ at → at ≡ count
all_whole at count low high = omega (arith, low, high)

pub ends_whole : (lines : List (List ℕ)) (bytes at left : ℕ) → IsOn lines bytes at left → length lines ≤ at
    → IsAt lines (record { bytes = bytes; at = length lines; left = left })
ends_whole lines bytes at left is all =
    subst (λ (k : ℕ). IsAt lines (record { bytes = bytes; at = k; left = left })) (all_whole at (length lines) is.within all)
    (at_place lines bytes at left is (ap (whole_in left) (drop_all at lines all)))

pub at_start : (lines : List (List ℕ)) → IsAt lines (record { bytes = 0; at = 0; left = 0 })
at_start lines = at_place lines 0 0 0 (record { within = omega arith; few = omega arith; rest = λ n. start n }) (empty lines)
  where
    start : (n : ℕ) → whole_in (0 + n) lines ≡ 0 + whole_in (0 + n) (drop 0 lines)
    start n = omega arith

    empty : (lines : List (List ℕ)) → whole_in 0 lines ≡ 0
    empty [] = refl
    empty (line ∷ lines) = whole_none 0 line lines (omega arith)

-- an item has no default
pub same_line : (lines : List (List ℕ)) (at : ℕ) (d e : List ℕ) → at < length lines → get_or lines at d ≡ get_or lines at e
same_line [] at d e short = absurd (omega (arith, short))
same_line (line ∷ lines) zero d e short = refl
same_line (line ∷ lines) (suc at) d e short = same_line lines at d e (omega (arith, short))

-- ---- a piece more

-- what was seen, and what the pieces that follow add
pub seen_more : (up down : List (List ℕ)) (seen new : List ℕ) (pieces rest : Pieces) (p : Side × ℕ) (c d c' d' : Place) → pieces ≡ p ∷ rest
    → IsAt up c' → IsAt down d → IsAt down d' → c'.bytes ≡ c.bytes + count_of Client p → d'.bytes ≡ d.bytes + count_of Server p
    → new ≡ seen ++ replicate (d'.at - d.at) c'.at
    → new ++ seen_from c'.bytes d'.bytes rest up down ≡ seen ++ seen_from c.bytes d.bytes pieces up down
seen_more up down seen new pieces rest p c d c' d' are one two next far wide is =
    ap (λ (l : List ℕ). l ++ seen_from c'.bytes d'.bytes rest up down) is
    ∙ append_assoc seen (replicate (d'.at - d.at) c'.at) (seen_from c'.bytes d'.bytes rest up down)
    ∙ ap (λ (n : ℕ). seen ++ (replicate (d'.at - d.at) n ++ seen_from c'.bytes d'.bytes rest up down)) (sym one.whole)
    ∙ ap (λ (n : ℕ). seen ++ (replicate (n - d.at) (whole_in c'.bytes up) ++ seen_from c'.bytes d'.bytes rest up down)) (sym next.whole)
    ∙ ap (λ (n : ℕ). seen ++ (replicate (whole_in d'.bytes down - n) (whole_in c'.bytes up) ++ seen_from c'.bytes d'.bytes rest up down)) (sym two.whole)
    ∙ ap (λ (n : ℕ). seen ++ (replicate (whole_in d'.bytes down - whole_in d.bytes down) (whole_in n up) ++ seen_from n d'.bytes rest up down)) far
    ∙ ap (λ (n : ℕ). seen ++ (replicate (whole_in n down - whole_in d.bytes down) (whole_in (c.bytes + count_of Client p) up)
    ++ seen_from (c.bytes + count_of Client p) n rest up down)) wide
    ∙ ap (λ (l : Pieces). seen ++ seen_from c.bytes d.bytes l up down) (sym are)

pub grown : (seen new : List ℕ) (n m k x : ℕ) → n ≡ length seen → m ≡ length seen → new ≡ take (n + k) seen ++ replicate (n + k - m) x
    → new ≡ seen ++ replicate k x
grown seen new n m k x one two is = is ∙ ap (λ (l : List ℕ). l ++ replicate (n + k - m) x) (take_all (n + k) seen (omega (arith, one)))
    ∙ ap (λ (j : ℕ). seen ++ replicate j x) (omega (arith, one, two))

pub bytes_more : (side : Side) (pieces rest : Pieces) (p : Side × ℕ) (n m : ℕ) → pieces ≡ p ∷ rest → m ≡ n + count_of side p
    → m + bytes_of side rest ≡ n + bytes_of side pieces
bytes_more side pieces rest p n m are is = ap (λ (k : ℕ). k + bytes_of side rest) is ∙ regroup n (count_of side p) (bytes_of side rest)
    ∙ ap (λ (l : Pieces). n + bytes_of side l) (sym are)
