-- How bytes are cut into their content and what follows it: there is one such cut, and more bytes move it only at its end.
use Rattle.line_framing.proofs.Names.{[], ◌++◌, ◌+◌, ◌∙◌, ◌∷◌, ◌≡◌, ◌≤◌, and_from, and_parts, ap, append_assoc, arith, BeginsWith, behind_content}
use Rattle.line_framing.proofs.Names.{Bool, cond, content_len, content_of, drop, false, false≢true, is_content, List, list_all, prefix_len, refl, suc}
use Rattle.line_framing.proofs.Names.{sym, take, take-append-drop, true, zero, ℕ}

one_more : (n : ℕ) → 1 + n ≡ suc n
one_more n = omega arith

-- the longest front that passes a test passes it
front_by : (p : ℕ → Bool) (x : ℕ) (xs : List ℕ) (b : Bool) → p x ≡ b → list_all p (take (prefix_len p xs) xs) ≡ true
    → list_all p (take (cond b (1 + prefix_len p xs) 0) (x ∷ xs)) ≡ true
front_by p x xs true e h = rw (one_more (prefix_len p xs)) (and_from _ _ e h)
front_by p x xs false e h = refl

pub front_passes : (p : ℕ → Bool) (xs : List ℕ) → list_all p (take (prefix_len p xs) xs) ≡ true
front_passes p [] = refl
front_passes p (x ∷ xs) = front_by p x xs (p x) refl (front_passes p xs)

-- what follows it begins with an element that does not pass
stops_by : (p : ℕ → Bool) (x : ℕ) (xs : List ℕ) (b : Bool) → p x ≡ b
    → ((c : ℕ) (more : List ℕ) → drop (prefix_len p xs) xs ≡ c ∷ more → p c ≡ false) → (c : ℕ) (more : List ℕ)
    → drop (cond b (1 + prefix_len p xs) 0) (x ∷ xs) ≡ c ∷ more → p c ≡ false
stops_by p x xs true e h c more is = h c more (rw (one_more (prefix_len p xs)) at is)
stops_by p x xs false e h c more is = let same : x ≡ c = cc in ap p (sym same) ∙ e

pub behind_stops : (p : ℕ → Bool) (xs : List ℕ) (c : ℕ) (more : List ℕ) → drop (prefix_len p xs) xs ≡ c ∷ more → p c ≡ false
behind_stops p [] c more is = absurd (cc)
behind_stops p (x ∷ xs) c more is = stops_by p x xs (p x) refl (behind_stops p xs) c more is

-- each list of bytes has a cut
pub begins : (bytes : List ℕ) → BeginsWith bytes (content_of bytes) (behind_content bytes)
begins bytes = record {
  parts = sym (take-append-drop (content_len bytes) bytes);
  free = front_passes is_content bytes;
  stop = behind_stops is_content bytes;
}

-- and no more than one
same_cut : (c a d b : List ℕ) → list_all is_content c ≡ true → list_all is_content d ≡ true
    → ((x : ℕ) (more : List ℕ) → a ≡ x ∷ more → is_content x ≡ false) → ((x : ℕ) (more : List ℕ) → b ≡ x ∷ more → is_content x ≡ false)
    → c ++ a ≡ d ++ b → (c ≡ d) × (a ≡ b)
same_cut [] a [] b ec ed sa sb e = (refl, e)
same_cut [] a (y ∷ d) b ec ed sa sb e = absurd (false≢true (sym (sa y (d ++ b) e) ∙ (and_parts _ _ ed).0))
same_cut (x ∷ c) a [] b ec ed sa sb e = absurd (false≢true (sym (sb x (c ++ a) (sym e)) ∙ (and_parts _ _ ec).0))
same_cut (x ∷ c) a (y ∷ d) b ec ed sa sb e =
    let head : x ≡ y = cc in
    let tail : c ++ a ≡ d ++ b = cc in
    let rest = same_cut c a d b (and_parts _ _ ec).1 (and_parts _ _ ed).1 sa sb tail in
    (ap (λ (l : List ℕ). x ∷ l) rest.0 ∙ ap (λ (z : ℕ). z ∷ d) head, rest.1)

pub one_cut : (bytes c a d b : List ℕ) → BeginsWith bytes c a → BeginsWith bytes d b → (c ≡ d) × (a ≡ b)
one_cut bytes c a d b h g = same_cut c a d b h.free g.free h.stop g.stop (sym h.parts ∙ g.parts)

-- bytes after a stop do not move the cut
pub cut_stays : (bytes c : List ℕ) (x : ℕ) (a more : List ℕ) → BeginsWith bytes c (x ∷ a) → BeginsWith (bytes ++ more) c (x ∷ (a ++ more))
cut_stays bytes c x a more h = record {
  parts = ap (λ (l : List ℕ). l ++ more) h.parts ∙ append_assoc c (x ∷ a) more;
  free = h.free;
  stop = λ y rest is. let same : x ≡ y = cc in ap is_content (sym same) ∙ h.stop x a refl;
}

-- and more bytes never make the content shorter
longer_by : (p : ℕ → Bool) (x : ℕ) (xs ys : List ℕ) (b : Bool) → p x ≡ b → prefix_len p xs ≤ prefix_len p (xs ++ ys)
    → cond b (1 + prefix_len p xs) 0 ≤ cond b (1 + prefix_len p (xs ++ ys)) 0
longer_by p x xs ys true e h = omega (arith, h)
longer_by p x xs ys false e h = omega arith

pub prefix_len-le-append : (p : ℕ → Bool) (xs ys : List ℕ) → prefix_len p xs ≤ prefix_len p (xs ++ ys)
prefix_len-le-append p [] ys = omega arith
prefix_len-le-append p (x ∷ xs) ys = longer_by p x xs ys (p x) refl (prefix_len-le-append p xs ys)

-- a search may continue where it stopped
gone_on_by : (p : ℕ → Bool) (x : ℕ) (xs : List ℕ) (b : Bool) (n : ℕ) → p x ≡ b → suc n ≤ cond b (1 + prefix_len p xs) 0
    → (n ≤ prefix_len p xs → prefix_len p xs ≡ n + prefix_len p (drop n xs))
    → cond b (1 + prefix_len p xs) 0 ≡ suc n + prefix_len p (drop n xs)
gone_on_by p x xs true n e h next = let m : n ≤ prefix_len p xs = omega arith in omega (arith, next m)
gone_on_by p x xs false n e h next = absurd (omega (arith, h))

pub prefix_len_from : (p : ℕ → Bool) (n : ℕ) (xs : List ℕ) → n ≤ prefix_len p xs → prefix_len p xs ≡ n + prefix_len p (drop n xs)
prefix_len_from p zero xs h = omega arith
prefix_len_from p (suc n) [] h = absurd (omega (arith, h))
prefix_len_from p (suc n) (x ∷ xs) h = gone_on_by p x xs (p x) n refl h (prefix_len_from p n xs)
