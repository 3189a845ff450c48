-- A line of bare bytes, and perhaps a comment after them: what it is to its statement.
use Rattle.dmis_text.proofs.Names.{[], ◌&&◌, ◌++◌, ◌+◌, ◌-◌, ◌∙◌, ◌∷◌, ◌≡◌, ◌≤◌, ◌⊎◌, agree_below, agree_below_at, all_blank, and_from, and_parts, ap}
use Rattle.dmis_text.proofs.Names.{arith, before_comment, begins_comment, Bool, cond, drop, drop-take, drop_all, eqb, eqb-true, false, folded, inl}
use Rattle.dmis_text.proofs.Names.{inr, is_bare, is_clean, is_continued, is_in_comment, is_plain, is_settled, is_unquoted, IsBehindEnd, IsCommentEnd}
use Rattle.dmis_text.proofs.Names.{lacks, Last, leb-true, length, length-take, line_role, lines, List, list_all, nat_le, nat_lt, not, prefix_len}
use Rattle.dmis_text.proofs.Names.{refl, suc, sym, take, take-append-drop, take-take, true, true≢false, ℕ}
use Rattle.dmis_text.proofs.CommentLaws.{nothing_before}
use Rattle.dmis_text.proofs.LineLaws.{lacks_more, line_in_front}
use Rattle.dmis_text.proofs.Skipping.{copies_content, drops_clean, kept_byte}

-- what a bare byte is besides
bare_is : (q : ℕ → Bool) → agree_below is_bare (λ x. is_bare x && q x) 256 ≡ true → (c : ℕ) → is_bare c ≡ true → q c ≡ true
bare_is q all c e =
    let most = leb-true c 96 (and_parts (nat_le 32 c) (nat_le c 96)
    (and_parts (nat_le 32 c && nat_le c 96) (not (eqb c 39) && not (eqb c 36)) e).0).1 in
    (and_parts (is_bare c) (q c) (sym (agree_below_at is_bare (λ x. is_bare x && q x) 256 c all (omega (arith, most))) ∙ e)).1

-- a byte of a comment ends no line
comment_byte : (end c : ℕ) → is_in_comment end ≡ false → is_in_comment c ≡ true → not (eqb c end) ≡ true
comment_byte end c other e = go (eqb c end) refl
  where
    go : (b : Bool) → eqb c end ≡ b → not b ≡ true
    go false is = refl
    go true is = sym (sym e ∙ ap is_in_comment (eqb-true c end is) ∙ other)

-- what all of a list are, if all are of a class
all_also : (p q : ℕ → Bool) → ((c : ℕ) → p c ≡ true → q c ≡ true) → (xs : List ℕ) → list_all p xs ≡ true → list_all q xs ≡ true
all_also p q h [] e = refl
all_also p q h (c ∷ cs) e =
    let both = and_parts (p c) (list_all p cs) e in and_from (q c) (list_all q cs) (h c both.0) (all_also p q h cs both.1)

-- bare bytes neither open nor close a text
pub bare_unquoted : (content : List ℕ) → list_all is_bare content ≡ true → list_all is_unquoted content ≡ true
bare_unquoted content e = all_also is_bare is_unquoted (bare_is is_unquoted refl) content e

-- a run is all of its class
pub run_is_all : (p : ℕ → Bool) (d : List ℕ) → list_all p (take (prefix_len p d) d) ≡ true
run_is_all p [] = refl
run_is_all p (c ∷ cs) = go (run_is_all p cs) (p c) refl
  where
    go : list_all p (take (prefix_len p cs) cs) ≡ true → (b : Bool) → p c ≡ b
        → list_all p (take (cond b (1 + prefix_len p cs) 0) (c ∷ cs)) ≡ true
    go rest true e =
        let one : 1 + prefix_len p cs ≡ suc (prefix_len p cs) = omega arith in
        ap (λ n. list_all p (take n (c ∷ cs))) one ∙ and_from (p c) (list_all p (take (prefix_len p cs) cs)) e rest
    go rest false e = refl

-- a `$` at its end continues a line, and none is bare
pub bare_ends : (content : List ℕ) → list_all is_bare content ≡ true → is_continued content ≡ false
bare_ends [] e = refl
bare_ends (c ∷ cs) e =
    let both = and_parts (is_bare c) (list_all is_bare cs) e in
    go (bare_ends cs both.1) (bare_is (λ b. not (eqb b 36)) refl c both.0) (all_blank cs)
  where
    go : is_continued cs ≡ false → not (eqb c 36) ≡ true → (b : Bool) → cond b (eqb c 36) (is_continued cs) ≡ false
    go rest other true = dollar (eqb c 36) other
      where
        dollar : (b : Bool) → not b ≡ true → b ≡ false
        dollar false e = refl
        dollar true e = sym e
    go rest other false = rest

-- bare bytes are handed out as they are
pub bare_capitals : (content : List ℕ) → list_all is_bare content ≡ true → folded false content ≡ content
bare_capitals [] e = refl
bare_capitals (c ∷ cs) e =
    let both = and_parts (is_bare c) (list_all is_bare cs) e in
    kept_byte false c cs (bare_is is_settled refl c both.0)
    ∙ ap (λ (xs : List ℕ). c ∷ xs) (bare_capitals cs both.1)

module _ (comment : List ℕ) (begun : (comment ≡ []) ⊎ (begins_comment false comment ≡ true)) where
  pub bare_content : (content : List ℕ) → list_all is_bare content ≡ true → content ≡ before_comment false (content ++ comment)
  bare_content [] e = go begun
    where
      go : (comment ≡ []) ⊎ (begins_comment false comment ≡ true) → [] ≡ before_comment false comment
      go (inl none) = rw none
      go (inr some) = sym (nothing_before false comment some)
  bare_content (c ∷ cs) e =
      let both = and_parts (is_bare c) (list_all is_bare cs) e in
      ap (λ (xs : List ℕ). c ∷ xs) (bare_content cs both.1)
      ∙ sym (copies_content false c (cs ++ comment) (bare_is is_plain refl c both.0))

  module _ (free : list_all is_in_comment comment ≡ true) where
    pub bare_clean : (content : List ℕ) → list_all is_bare content ≡ true → is_clean false (content ++ comment) ≡ true
    bare_clean [] e = go begun comment refl
      where
        of_more : (c : ℕ) (cs : List ℕ) → begins_comment false (c ∷ cs) ≡ true → list_all is_in_comment (c ∷ cs) ≡ true
            → is_clean false (c ∷ cs) ≡ true
        of_more c cs some all = rw some all

        go : (comment ≡ []) ⊎ (begins_comment false comment ≡ true) → (xs : List ℕ) → comment ≡ xs → is_clean false comment ≡ true
        go (inl none) xs is = rw none
        go (inr some) [] is = rw is
        go (inr some) (c ∷ cs) is = rw is (of_more c cs (rw is at some) (rw is at free))
    bare_clean (c ∷ cs) e =
        let both = and_parts (is_bare c) (list_all is_bare cs) e in
        drops_clean false c (cs ++ comment) (bare_is is_plain refl c both.0) ∙ bare_clean cs both.1

    module _ (content : List ℕ) (bare : list_all is_bare content ≡ true) where
      pub lacks_feed : lacks 10 (content ++ comment) ≡ true
      lacks_feed = lacks_more 10 content comment
          (all_also is_bare (λ b. not (eqb b 10)) (bare_is (λ b. not (eqb b 10)) refl) content bare)
          (all_also is_in_comment (λ b. not (eqb b 10)) (λ c e. comment_byte 10 c refl e) comment free)

      pub lacks_return : lacks 13 (content ++ comment) ≡ true
      lacks_return = lacks_more 13 content comment
          (all_also is_bare (λ b. not (eqb b 13)) (bare_is (λ b. not (eqb b 13)) refl) content bare)
          (all_also is_in_comment (λ b. not (eqb b 13)) (λ c e. comment_byte 13 c refl e) comment free)

-- the role of such a line whose content is not blank
pub bare_role : (line content : List ℕ) → nat_lt 4096 (length line) ≡ false → list_all is_bare content ≡ true
    → content ≡ before_comment false line → is_clean false line ≡ true → all_blank content ≡ false → Last content ≡ line_role false line
bare_role line content short bare is clean some = rw (short, clean, ← is, some, bare_ends content bare)

-- a comment that begins is still there in the run of its bytes
begins_run : (d : List ℕ) → begins_comment false d ≡ true → begins_comment false (take (prefix_len is_in_comment d) d) ≡ true
begins_run [] e = absurd (true≢false (sym e))
begins_run (c ∷ []) e = absurd (true≢false (sym e))
begins_run (c ∷ d ∷ cs) e =
    let both = and_parts (eqb c 36) (eqb d 36) e in
    let n = prefix_len is_in_comment cs in
    let two : 1 + (1 + n) ≡ suc (suc n) = omega arith in
    rw (eqb-true c 36 both.0, eqb-true d 36 both.1) (ap (λ k. begins_comment false (take k (36 ∷ 36 ∷ cs))) two)

-- what the two passes find
module _ (bytes : List ℕ) (bare end : ℕ) (run : bare ≡ prefix_len is_bare bytes) (ends : IsCommentEnd bytes bare end)
    (from : bare ≤ end) where
  pub content_is_bare : list_all is_bare (take bare (take end bytes)) ≡ true
  content_is_bare = ap (list_all is_bare) (take-take bare end bytes from ∙ ap (λ n. take n bytes) run) ∙ run_is_all is_bare bytes

  behind : end ≡ bare + prefix_len is_in_comment (drop bare bytes)
      → drop bare (take end bytes) ≡ take (prefix_len is_in_comment (drop bare bytes)) (drop bare bytes)
  behind e = ap (λ n. drop bare (take n bytes)) e ∙ drop-take bare (prefix_len is_in_comment (drop bare bytes)) bytes

  none : end ≡ bare → drop bare (take end bytes) ≡ []
  none e = drop_all bare (take end bytes) (omega (arith, e, length-take end bytes))

  pub comment_is_free : list_all is_in_comment (drop bare (take end bytes)) ≡ true
  comment_is_free = go ends
    where
      go : IsCommentEnd bytes bare end → list_all is_in_comment (drop bare (take end bytes)) ≡ true
      go (inl e) = rw (none e)
      go (inr b) = ap (list_all is_in_comment) (behind b.1) ∙ run_is_all is_in_comment (drop bare bytes)

  pub comment_begins : (drop bare (take end bytes) ≡ []) ⊎ (begins_comment false (drop bare (take end bytes)) ≡ true)
  comment_begins = go ends
    where
      go : IsCommentEnd bytes bare end
          → (drop bare (take end bytes) ≡ []) ⊎ (begins_comment false (drop bare (take end bytes)) ≡ true)
      go (inl e) = inl (none e)
      go (inr b) = inr (ap (begins_comment false) (behind b.1) ∙ begins_run (drop bare bytes) b.0)

  parts : take bare (take end bytes) ++ drop bare (take end bytes) ≡ take end bytes
  parts = take-append-drop bare (take end bytes)

  pub found_content : take bare (take end bytes) ≡ before_comment false (take end bytes)
  found_content =
      bare_content (drop bare (take end bytes)) comment_begins (take bare (take end bytes)) content_is_bare
      ∙ ap (before_comment false) parts

  pub found_clean : is_clean false (take end bytes) ≡ true
  found_clean =
      sym (ap (is_clean false) parts)
      ∙ bare_clean (drop bare (take end bytes)) comment_begins comment_is_free (take bare (take end bytes)) content_is_bare

  pub found_line : (after : List ℕ) → IsBehindEnd (drop end bytes) after → lines bytes ≡ take end bytes ∷ lines after
  found_line after is =
      let content = take bare (take end bytes) in
      let comment = drop bare (take end bytes) in
      sym (ap lines (take-append-drop end bytes))
      ∙ line_in_front (take end bytes) (drop end bytes) after
      (sym (ap (lacks 10) parts) ∙ lacks_feed comment comment_begins comment_is_free content content_is_bare)
      (sym (ap (lacks 13) parts) ∙ lacks_return comment comment_begins comment_is_free content content_is_bare) is
