-- Folding, trimming and open texts.
use Rattle.dmis_text.proofs.Names.{[], ◌++◌, ◌-◌, ◌↔◌, ◌∙◌, ◌∷◌, ◌≡◌, all_blank, and_from, and_parts, ap, append-nil, arith, Bool, drop, drop_at}
use Rattle.dmis_text.proofs.Names.{element_of, eqb, false, false≢true, folded, get_or, get_or_append_left, has_open_text, if◌then◌else◌, inside_after}
use Rattle.dmis_text.proofs.Names.{is_blank, IsCut, IsSplit, IsTrimmed, last_element, length, length-append, List, map, nat_tests, ne_eqb, refl, Says}
use Rattle.dmis_text.proofs.Names.{slice_index, Statement, statement_of, suc, sym, take, take_at, to_ascii_uppercase, true, turned, with_label}
use Rattle.dmis_text.proofs.Names.{with_params, without_end_blanks, without_front_blanks, word_alone, zero, ℕ}
use Rattle.dmis_text.proofs.Blanks.{kept_cut, first_not_blank}
use Rattle.dmis_text.proofs.Comments.{inside_after-append}
use Rattle.dmis_text.proofs.SplittingLaws.{says_is}

pub length-folded : (inside : Bool) (bytes : List ℕ) → length (folded inside bytes) ≡ length bytes
length-folded inside [] = refl
length-folded inside (c ∷ cs) = ap suc (length-folded (turned inside c) cs)

nothing_folded : (t : Bool) → 0 ≡ (if t then 0 else to_ascii_uppercase 0)
nothing_folded true = refl
nothing_folded false = refl

-- a byte in a text stays, and any other is folded
pub folded_at : (inside : Bool) (bytes : List ℕ) (k : ℕ) → slice_index (folded inside bytes) k
    ≡ (if inside_after inside (take k bytes) then slice_index bytes k else to_ascii_uppercase (slice_index bytes k))
folded_at inside [] k = nothing_folded (inside_after inside (take k []))
folded_at inside (c ∷ cs) zero = refl
folded_at inside (c ∷ cs) (suc k) = folded_at (turned inside c) cs k

-- no letter is an apostrophe
quote_kept : (c : ℕ) → eqb (to_ascii_uppercase c) 39 ≡ eqb c 39
quote_kept c = grind (arith, nat_tests)

turned-folded : (inside : Bool) (c : ℕ) → turned inside (if inside then c else to_ascii_uppercase c) ≡ turned inside c
turned-folded true c = refl
turned-folded false c = rw (quote_kept c)

inside_after-folded : (inside : Bool) (bytes : List ℕ) → inside_after inside (folded inside bytes) ≡ inside_after inside bytes
inside_after-folded inside [] = refl
inside_after-folded inside (c ∷ cs) = ap (λ (t : Bool). inside_after t (folded (turned inside c) cs)) (turned-folded inside c)
    ∙ inside_after-folded (turned inside c) cs

not_quote : (c : ℕ) → is_blank c ≡ true → c ≡ 39 → ⊥
not_quote c h e = false≢true (rw e at h)

-- blanks turn nothing
inside_after_blanks : (inside : Bool) (bytes : List ℕ) → all_blank bytes ≡ true → inside_after inside bytes ≡ inside
inside_after_blanks inside [] h = refl
inside_after_blanks inside (c ∷ cs) h =
    let both = and_parts (is_blank c) (all_blank cs) h in
    ap (λ (t : Bool). inside_after t cs) (turned_blank c both.0) ∙ inside_after_blanks inside cs both.1
  where
    turned_blank : (c : ℕ) → is_blank c ≡ true → turned inside c ≡ inside
    turned_blank c h = rw (ne_eqb c 39 (λ e. not_quote c h e))

-- what is taken away in front are blanks
front_blanks : (bytes : List ℕ) → (before : List ℕ) × (bytes ≡ before ++ without_front_blanks bytes) × (all_blank before ≡ true)
    × (is_blank (slice_index (without_front_blanks bytes) 0) ≡ false)
front_blanks [] = ([], refl, refl, refl)
front_blanks (c ∷ cs) = go (front_blanks cs) (is_blank c) refl
  where
    go : (before : List ℕ) × (cs ≡ before ++ without_front_blanks cs) × (all_blank before ≡ true)
        × (is_blank (slice_index (without_front_blanks cs) 0) ≡ false)
        → (t : Bool) → is_blank c ≡ t
        → (before : List ℕ) × (c ∷ cs ≡ before ++ without_front_blanks (c ∷ cs)) × (all_blank before ≡ true)
        × (is_blank (slice_index (without_front_blanks (c ∷ cs)) 0) ≡ false)
    go rest true e = rw e (c ∷ rest.0, ap (λ (xs : List ℕ). c ∷ xs) rest.1, and_from (is_blank c) (all_blank rest.0) e rest.2, rest.3)
    go rest false e = rw e ([], refl, refl, e)

-- the last byte of a list with one more in front
last_of_more : (c : ℕ) (cs : List ℕ) → (cs ≡ [] → is_blank c ≡ false) → is_blank (slice_index cs (length cs - 1)) ≡ false
    → is_blank (slice_index (c ∷ cs) (length (c ∷ cs) - 1)) ≡ false
last_of_more c [] alone last = alone refl
last_of_more c (d ∷ ds) alone last = let e : length (c ∷ d ∷ ds) - 1 ≡ suc (length (d ∷ ds) - 1) = omega arith in rw e last

-- and after it
end_blanks : (bytes : List ℕ) → (behind : List ℕ) × (bytes ≡ without_end_blanks bytes ++ behind) × (all_blank behind ≡ true)
    × (is_blank (slice_index (without_end_blanks bytes) (length (without_end_blanks bytes) - 1)) ≡ false)
end_blanks [] = ([], refl, refl, refl)
end_blanks (c ∷ cs) = go (end_blanks cs) (all_blank (c ∷ cs)) refl
  where
    alone : (behind : List ℕ) → cs ≡ without_end_blanks cs ++ behind → all_blank behind ≡ true → all_blank (c ∷ cs) ≡ false
        → without_end_blanks cs ≡ [] → is_blank c ≡ false
    alone behind parts blank some none =
        let blanks : all_blank cs ≡ true = rw (parts ∙ ap (λ (xs : List ℕ). xs ++ behind) none) blank in
        first_not_blank c cs some blanks

    go : (behind : List ℕ) × (cs ≡ without_end_blanks cs ++ behind) × (all_blank behind ≡ true)
        × (is_blank (slice_index (without_end_blanks cs) (length (without_end_blanks cs) - 1)) ≡ false)
        → (t : Bool) → all_blank (c ∷ cs) ≡ t
        → (behind : List ℕ) × (c ∷ cs ≡ without_end_blanks (c ∷ cs) ++ behind) × (all_blank behind ≡ true)
        × (is_blank (slice_index (without_end_blanks (c ∷ cs)) (length (without_end_blanks (c ∷ cs)) - 1)) ≡ false)
    go rest true e = rw e (c ∷ cs, refl, e, refl)
    go rest false e = rw e (
      rest.0,
      ap (λ (xs : List ℕ). c ∷ xs) rest.1,
      rest.2,
      last_of_more c (without_end_blanks cs) (alone rest.0 rest.1 rest.2 e) rest.3,
    )

first_of_front : (bytes kept behind : List ℕ) → bytes ≡ kept ++ behind → is_blank (slice_index bytes 0) ≡ false
    → is_blank (slice_index kept 0) ≡ false
first_of_front bytes [] behind e h = refl
first_of_front bytes (k ∷ ks) behind e h = rw e at h

trimmed_there : (bytes : List ℕ) → IsTrimmed bytes (without_end_blanks (without_front_blanks bytes))
trimmed_there bytes =
    let front = front_blanks bytes in
    let end = end_blanks (without_front_blanks bytes) in
    record {
      before = front.0;
      behind = end.0;
      parts = front.1 ∙ ap (λ (xs : List ℕ). front.0 ++ xs) end.1;
      blank_before = front.2;
      blank_behind = end.2;
      first = first_of_front (without_front_blanks bytes) (without_end_blanks (without_front_blanks bytes)) end.0 end.1 front.3;
      last = end.3;
    }

past_blanks : (before rest : List ℕ) → all_blank before ≡ true → without_front_blanks (before ++ rest) ≡ without_front_blanks rest
past_blanks [] rest h = refl
past_blanks (c ∷ cs) rest h =
    let both = and_parts (is_blank c) (all_blank cs) h in
    rw both.0 (past_blanks cs rest both.1)

trimmed_only : (kept behind : List ℕ) → all_blank behind ≡ true → is_blank (slice_index kept 0) ≡ false
    → is_blank (slice_index kept (length kept - 1)) ≡ false → kept ≡ without_end_blanks (without_front_blanks (kept ++ behind))
trimmed_only [] behind blank first last =
    let none : without_front_blanks behind ≡ [] = ap without_front_blanks (sym (append-nil behind)) ∙ past_blanks behind [] blank in
    rw none
trimmed_only (k ∷ ks) behind blank first last =
    let kept = k ∷ ks in
    let at_end : is_blank (get_or (kept ++ behind) (length kept - 1) 0) ≡ false =
    rw (get_or_append_left kept behind 0 (length kept - 1) (omega arith)) last in
    let blanks : all_blank (drop (length kept) (kept ++ behind)) ≡ true = rw (drop_at kept behind (length kept) refl) blank in
    rw first (sym (take_at kept behind (length kept) refl) ∙ kept_cut (kept ++ behind) (length kept)
    (omega (arith, length-append kept behind)) blanks (λ _. at_end))

-- bytes without blanks at both ends, and no others
pub trimmed_is : (bytes kept : List ℕ) → IsTrimmed bytes kept ↔ (kept ≡ without_end_blanks (without_front_blanks bytes))
trimmed_is bytes kept = (
  λ h. rw (h.parts, past_blanks h.before (kept ++ h.behind) h.blank_before) (trimmed_only kept h.behind h.blank_behind h.first h.last),
  λ e. rw e (trimmed_there bytes),
)

-- a text that is open after bytes is open after their element
open_element : (bytes : List ℕ) → inside_after false (element_of bytes) ≡ inside_after false bytes
open_element bytes =
    let kept = without_end_blanks (without_front_blanks bytes) in
    let t = trimmed_there bytes in
    inside_after-folded false kept
    ∙ sym (ap (inside_after false) t.parts ∙ inside_after-append false t.before (kept ++ t.behind)
    ∙ ap (λ (b : Bool). inside_after b (kept ++ t.behind)) (inside_after_blanks false t.before t.blank_before)
    ∙ inside_after-append false kept t.behind ∙ inside_after_blanks (inside_after false kept) t.behind t.blank_behind)

open_behind_cut : (mark : ℕ) (text front behind : List ℕ) → turned false mark ≡ false → IsCut mark text front behind
    → inside_after false text ≡ inside_after false behind
open_behind_cut mark text front behind plain cut =
    ap (inside_after false) cut.parts ∙ inside_after-append false front (mark ∷ behind)
    ∙ ap (λ (b : Bool). inside_after b (mark ∷ behind)) cut.closed ∙ ap (λ (b : Bool). inside_after b behind) plain

open_pieces : (text word : List ℕ) (parts : List (List ℕ)) → IsSplit text parts
    → inside_after false (last_element word (map element_of parts)) ≡ inside_after false text
open_pieces text word [] h = absurd h
open_pieces text word (piece ∷ []) h = open_element piece ∙ ap (inside_after false) (sym h.0)
open_pieces text word (piece ∷ next ∷ more) h = open_pieces h.0 (element_of piece) (next ∷ more) h.2
    ∙ sym (open_behind_cut 44 text piece h.0 refl h.1)

open_says : (line : ℕ) (text : List ℕ) (s : Statement) → Says line text s → has_open_text s ≡ inside_after false text
open_says line text _ (word_alone none) = open_element text
open_says line text _ (with_params word behind params cut none split) = open_pieces behind (element_of word) params split
    ∙ sym (open_behind_cut 47 text word behind refl cut)
open_says line text _ (with_label head behind label word params cut named split) = open_pieces behind (element_of word) params split
    ∙ sym (open_behind_cut 47 text head behind refl cut)

-- a statement has an open text where its joined text has one
pub open_is : (line : ℕ) (text : List ℕ) → has_open_text (statement_of line text) ≡ inside_after false text
open_is line text = open_says line text (statement_of line text) ((says_is line text (statement_of line text)).1 refl)
