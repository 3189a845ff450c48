-- A command's name is cut off in one way.
use Rattle.dme_line.proofs.Names.{[], ◌++◌, ◌∙◌, ◌∷◌, ◌≡◌, and_parts, Bool, drop, false, false≢true, is_name_part, IsNamed, List, list_all}
use Rattle.dme_line.proofs.Names.{prefix_len, refl, subst, sym, take, take-append-drop, true, ℕ}
use Rattle.dme_line.proofs.TokenLemmas.{list_all-front, begins, begins-behind}

starts : (p : ℕ → Bool) (rest : List ℕ) → begins p rest ≡ false → (c : ℕ) (more : List ℕ) → rest ≡ c ∷ more → p c ≡ false
starts p rest h c more e = subst (λ (t : List ℕ). begins p t ≡ false) e h

pub name_cut : (text : List ℕ) → IsNamed text (take (prefix_len is_name_part text) text) (drop (prefix_len is_name_part text) text)
name_cut text = record {
  parts = sym (take-append-drop (prefix_len is_name_part text) text);
  whole = list_all-front is_name_part text;
  stop = starts is_name_part (drop (prefix_len is_name_part text) text) (begins-behind is_name_part text);
}

-- two cuts of one text are one
pub record SameCut (a b r s : List ℕ) : Type 0 where
  pub front : a ≡ b
  pub behind : r ≡ s

pub one_cut : (p : ℕ → Bool) (a b r s : List ℕ) → a ++ r ≡ b ++ s → list_all p a ≡ true → list_all p b ≡ true
    → ((c : ℕ) (more : List ℕ) → r ≡ c ∷ more → p c ≡ false) → ((c : ℕ) (more : List ℕ) → s ≡ c ∷ more → p c ≡ false) → SameCut a b r s
one_cut p [] [] r s e f g h k = record { front = refl; behind = e }
one_cut p [] (d ∷ b) r s e f g h k = absurd (false≢true (sym (h d (b ++ s) e) ∙ (and_parts (p d) (list_all p b) g).0))
one_cut p (c ∷ a) [] r s e f g h k = absurd (false≢true (sym (k c (a ++ r) (sym e)) ∙ (and_parts (p c) (list_all p a) f).0))
one_cut p (c ∷ a) (d ∷ b) r s e f g h k =
    let head : c ≡ d = cc in
    let tail : a ++ r ≡ b ++ s = cc in
    let same = one_cut p a b r s tail (and_parts (p c) (list_all p a) f).1 (and_parts (p d) (list_all p b) g).1 h k in
    record { front = (let x = same.front in cc); behind = same.behind }
