-- The uses of each tag above a line of the client, with a line more.
use Rattle.witness.proofs.JudgementNames.{[], ◌+◌, ◌<◌, ◌∙◌, ◌∷◌, ◌≡◌, ◌≤◌, ap, arith, before_previous, Bool, false, found, IfSome, if◌then◌else◌}
use Rattle.witness.proofs.JudgementNames.{is_under, is_use, length, List, None, none-some, Option, previous, refl, Sent, Some, subst, sym, Tag}
use Rattle.witness.proofs.JudgementNames.{tag_is, tag_of, true, ℕ}
use Rattle.witness.proofs.TagTables.{same_tag}

within_by : (n count : ℕ) (b : Bool) (x y : Option ℕ) → (x ≡ Some n → n < count) → (y ≡ Some n → n < count) → (if b then x else y) ≡ Some n → n < count
within_by n count true x y one two e = one e
within_by n count false x y one two e = two e

last_within : (k n : ℕ) → Some k ≡ Some n → n < k + 1
last_within k n e = let same : k ≡ n = cc in omega (arith, same)

one_more : (n k : ℕ) → n < k → n < k + 1
one_more n k short = omega (arith, short)

previous_within : (t : Tag) (above : List Sent) (n : ℕ) → previous t above ≡ Some n → n < length above
previous_within t [] n is = absurd (none-some _ is)
previous_within t (s ∷ above) n is = subst (λ (k : ℕ). n < k) (omega arith) (within_by n (length above + 1) (is_use t s) (Some (length above)) (previous t above)
    (last_within (length above) n) (λ e. one_more n (length above) (previous_within t above n e)) is)

before_within : (t : Tag) (above : List Sent) (n : ℕ) → before_previous t above ≡ Some n → n < length above
before_within t [] n is = absurd (none-some _ is)
before_within t (s ∷ above) n is = subst (λ (k : ℕ). n < k) (omega arith) (within_by n (length above + 1) (is_use t s) (previous t above) (before_previous t above)
    (λ e. one_more n (length above) (previous_within t above n e)) (λ e. one_more n (length above) (before_within t above n e)) is)

-- the places of uses are among the lines
if_some : (o : Option ℕ) (count : ℕ) → ((n : ℕ) → o ≡ Some n → n < count) → IfSome o (λ n. n < count)
if_some None count all = tt
if_some (Some n) count all = all n refl

later_than : (n k count : ℕ) → n < k → k ≤ count → n < count
later_than n k count short within = omega (arith, short, within)

pub previous_among : (t : Tag) (above : List Sent) (o : Option ℕ) (count : ℕ) → o ≡ previous t above → length above ≤ count → IfSome o (λ n. n < count)
previous_among t above o count is within = if_some o count (λ n e. later_than n (length above) count (previous_within t above n (sym is ∙ e)) within)

pub before_among : (t : Tag) (above : List Sent) (o : Option ℕ) (count : ℕ) → o ≡ before_previous t above → length above ≤ count
    → IfSome o (λ n. n < count)
before_among t above o count is within = if_some o count (λ n e. later_than n (length above) count (before_within t above n (sym is ∙ e)) within)

pub previous_more : (above : List Sent) (s : Sent) (u : Tag) (old new : List (Option ℕ)) (n : ℕ) → tag_of s ≡ Some u
    → ((t : Tag) → found old t ≡ previous t above) → n ≡ length above
    → ((t : Tag) → found new t ≡ (if tag_is u t then Some n else found old t)) → (t : Tag) → found new t ≡ previous t (s ∷ above)
previous_more above s u old new n is are count put t = put t
    ∙ ap (λ (o : Option ℕ). if tag_is u t then Some n else o) (are t)
    ∙ ap (λ (k : ℕ). if tag_is u t then Some k else previous t above) count
    ∙ ap (λ (o : Option Tag). if is_under t o then Some (length above) else previous t above) (sym is)

pub before_more : (above : List Sent) (s : Sent) (u : Tag) (old new : List (Option ℕ)) (one : Option ℕ) → tag_of s ≡ Some u
    → ((t : Tag) → found old t ≡ before_previous t above) → one ≡ previous u above
    → ((t : Tag) → found new t ≡ (if tag_is u t then one else found old t)) → (t : Tag) → found new t ≡ before_previous t (s ∷ above)
before_more above s u old new one is are there put t = put t ∙ go (tag_is u t) refl
    ∙ ap (λ (o : Option Tag). if is_under t o then previous t above else before_previous t above) (sym is)
  where
    go : (b : Bool) → tag_is u t ≡ b → (if b then one else found old t) ≡ (if tag_is u t then previous t above else before_previous t above)
    go true same = there ∙ ap (λ (v : Tag). previous v above) (same_tag u t same)
        ∙ ap (λ (b : Bool). if b then previous t above else before_previous t above) (sym same)
    go false same = are t ∙ ap (λ (b : Bool). if b then previous t above else before_previous t above) (sym same)

pub previous_untagged : (above : List Sent) (s : Sent) (t : Tag) → tag_of s ≡ None → previous t above ≡ previous t (s ∷ above)
previous_untagged above s t is = ap (λ (o : Option Tag). if is_under t o then Some (length above) else previous t above) (sym is)

pub before_untagged : (above : List Sent) (s : Sent) (t : Tag) → tag_of s ≡ None → before_previous t above ≡ before_previous t (s ∷ above)
before_untagged above s t is = ap (λ (o : Option Tag). if is_under t o then previous t above else before_previous t above) (sym is)
