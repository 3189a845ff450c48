-- Where the client uses each tag last.
use Rattle.watched_ends.proofs.Names.{[], ◌+◌, ◌<◌, ◌==◌, ◌∙◌, ◌∷◌, ◌≡◌, ◌≤◌, ap, AreLast, AreQuiet, arith, at_once_line, Bool, command_of, drop}
use Rattle.watched_ends.proofs.Names.{eq-eqb, eqb-true, false, get_or, get_or-drop, if◌then◌else◌, is_under, IsBefore, length, length-drop, List}
use Rattle.watched_ends.proofs.Names.{list_any, None, Option, refl, sends, sent, Some, some_sends, subst, suc, sym, Tag, true, zero, ℕ}
use Rattle.std.proofs.lemmas.Bool.{false≢true}
use Rattle.protocol_model.specs.Replies.{tag_is}
use Rattle.witness.specs.declared.lines.SentCommand.{SentCommand}
use Rattle.witness.specs.JudgedUses.{found}

same_eqb : (n : ℕ) → (n == n) ≡ true
same_eqb n = eq-eqb n n refl

pub none_any : (p : List ℕ → Bool) (xs : List (List ℕ)) → ((at : ℕ) → at < length xs → p (get_or xs at []) ≡ false) → list_any p xs ≡ false
none_any p [] each = refl
none_any p (x ∷ xs) each = rw (each zero (omega arith)) (none_any p xs (λ at short. each (suc at) (omega (arith, short))))

pub none_later : (up : List (List ℕ)) (places : List (Option ℕ)) (tag : Tag) (next : ℕ) → AreLast up (length up) places
    → ((at : ℕ) → next ≤ at → IsBefore at (found places tag) → ⊥) → some_sends tag (drop next up) ≡ false
none_later up places tag next last later = none_any (sends tag) (drop next up) (λ at short. go at short (sends tag (get_or up (next + at) [])) refl)
  where
    go : (at : ℕ) → at < length (drop next up) → (b : Bool) → sends tag (get_or up (next + at) []) ≡ b → sends tag (get_or (drop next up) at []) ≡ false
    go at short false is = ap (sends tag) (get_or-drop next up at []) ∙ is
    go at short true is = absurd (later (next + at) (omega arith) (last.each tag (next + at) (omega (arith, short, length-drop next up)) is))

-- ---- the lines of the client one after another

-- an item has no default
pub same_item : (xs : List (List ℕ)) (at : ℕ) (d e : List ℕ) → at < length xs → get_or xs at d ≡ get_or xs at e
same_item [] at d e short = absurd (omega (arith, short))
same_item (x ∷ xs) zero d e short = refl
same_item (x ∷ xs) (suc at) d e short = same_item xs at d e (omega (arith, short))

before_or_at : (at n : ℕ) → at < n + 1 → (at ≡ n → ⊥) → at < n
before_or_at at n short apart = omega (arith, short, apart)

pub noted : (up : List (List ℕ)) (at : ℕ) (old new : List (Option ℕ)) (line : List ℕ) (used : Tag) (what : SentCommand)
    → sent line (command_of line) ≡ Some (used, what) → ((t : Tag) → found new t ≡ (if tag_is used t then Some (at + 1) else found old t))
    → get_or up at [] ≡ line → AreLast up at old → AreLast up (at + 1) new
noted up at old new line used what is put there last = record { each = λ tag i short sent. subst (IsBefore i) (sym (put tag)) (go tag i short sent (tag_is used tag) refl) }
  where
    go : (tag : Tag) (i : ℕ) → i < at + 1 → sends tag (get_or up i []) ≡ true → (b : Bool) → tag_is used tag ≡ b
        → IsBefore i (if b then Some (at + 1) else found old tag)
    go tag i short sent true same = short
    go tag i short sent false other = last.each tag i (before_or_at i at short apart) sent
      where
        apart : i ≡ at → ⊥
        apart here = false≢true (sym other ∙ sym (ap (is_under tag) is) ∙ sym (ap (sends tag) (ap (λ (n : ℕ). get_or up n []) here ∙ there)) ∙ sent)

pub untagged : (up : List (List ℕ)) (at : ℕ) (old : List (Option ℕ)) (line : List ℕ) → sent line (command_of line) ≡ None → get_or up at [] ≡ line
    → AreLast up at old → AreLast up (at + 1) old
untagged up at old line is there last = record { each = λ tag i short sent. last.each tag i (before_or_at i at short (apart tag i sent)) sent }
  where
    apart : (tag : Tag) (i : ℕ) → sends tag (get_or up i []) ≡ true → i ≡ at → ⊥
    apart tag i sent here = false≢true (sym (ap (is_under tag) is) ∙ sym (ap (sends tag) (ap (λ (n : ℕ). get_or up n []) here ∙ there)) ∙ sent)

pub quiet_more : (up : List (List ℕ)) (at place : ℕ) (line : List ℕ) → get_or up at [] ≡ line → AreQuiet up at place → (once : Bool)
    → once ≡ at_once_line line → AreQuiet up (at + 1) (if once then at + 1 else place)
quiet_more up at place line is quiet true once = record { each = λ i short later. absurd (omega (arith, short, later)) }
quiet_more up at place line is quiet false once = record { each = λ i short later. go i short later (i == at) refl }
  where
    go : (i : ℕ) → i < at + 1 → place ≤ i → (b : Bool) → (i == at) ≡ b → at_once_line (get_or up i []) ≡ false
    go i short later true is_at = ap (λ (n : ℕ). at_once_line (get_or up n [])) (eqb-true i at is_at) ∙ ap at_once_line is ∙ sym once
    go i short later false is_at =
        quiet.each i (before_or_at i at short (λ same. false≢true (sym is_at ∙ ap (λ (n : ℕ). n == at) same ∙ same_eqb at))) later

pub last_all : (up : List (List ℕ)) (at : ℕ) (places : List (Option ℕ)) → length up ≤ at → AreLast up at places → AreLast up (length up) places
last_all up at places all last = record { each = λ tag i short sent. last.each tag i (omega (arith, short, all)) sent }

pub quiet_all : (up : List (List ℕ)) (at place : ℕ) → length up ≤ at → AreQuiet up at place → AreQuiet up (length up) place
quiet_all up at place all quiet = record { each = λ i short later. quiet.each i (omega (arith, short, all)) later }

pub quiet_within : (once : Bool) (at quiet place : ℕ) → place ≡ (if once then at + 1 else quiet) → quiet ≤ at → place ≤ at + 1
quiet_within true at quiet place is within = omega (arith, is)
quiet_within false at quiet place is within = omega (arith, is, within)
