-- Runs over which nothing changes: what is passed over in blocks is passed over byte by byte.
use Rattle.dmis_text.proofs.Names.{[], ◌&&◌, ◌++◌, ◌+◌, ◌<◌, ◌∙◌, ◌∷◌, ◌≡◌, ◌≤◌, ap, append_assoc, ap₂, arith, before_comment, begins_comment, Bool}
use Rattle.dmis_text.proofs.Names.{cases_eq, cond, cut_at, drop, drop-drop, drop_more, eq-eqb, eqb, eqb-true, false, folded, get_or, inl, inr}
use Rattle.dmis_text.proofs.Names.{inside_after, is_clean, is_in_text, is_kept, is_passed, is_unmarked, is_unquoted, is_within, length, length-drop}
use Rattle.dmis_text.proofs.Names.{List, list_all, list_all-from_AllPass, list_all_at, may_stand, ne_eqb, None, not, not-false, not-true, onto_front}
use Rattle.dmis_text.proofs.Names.{Option, option_map, prefix_len, prefix_len-le-length, prefix_len_passes, prefix_len_stops, refl, Some, suc, sym}
use Rattle.dmis_text.proofs.Names.{take, take_more, to_ascii_uppercase, true, true≢false, turned, ℕ}
use Rattle.std.proofs.Math.Seq.{take-add}
use Rattle.std.proofs.lemmas.List.Elements.{All-from_get_or}
use Rattle.dmis_text.proofs.Comments.{inside_after-append}
use Rattle.dmis_text.proofs.Splitting.{put_before}

one_more : (n : ℕ) → 1 + n ≡ suc n
one_more n = omega arith

-- a function of a list that drops each byte of a class
pub dropped : {X : Type 0} (F : List ℕ → X) (p : ℕ → Bool) → ((c : ℕ) (cs : List ℕ) → p c ≡ true → F (c ∷ cs) ≡ F cs)
    → (d : List ℕ) → F (drop (prefix_len p d) d) ≡ F d
dropped F p h [] = refl
dropped F p h (c ∷ cs) = go (dropped F p h cs) (p c) refl
  where
    go : F (drop (prefix_len p cs) cs) ≡ F cs → (b : Bool) → p c ≡ b
        → F (drop (cond b (1 + prefix_len p cs) 0) (c ∷ cs)) ≡ F (c ∷ cs)
    go rest true e = ap (λ n. F (drop n (c ∷ cs))) (one_more (prefix_len p cs)) ∙ rest ∙ sym (h c cs e)
    go rest false e = refl

-- one that copies it
pub copied : (F : List ℕ → List ℕ) (p : ℕ → Bool) → ((c : ℕ) (cs : List ℕ) → p c ≡ true → F (c ∷ cs) ≡ c ∷ F cs)
    → (d : List ℕ) → take (prefix_len p d) d ++ F (drop (prefix_len p d) d) ≡ F d
copied F p h [] = refl
copied F p h (c ∷ cs) = go (copied F p h cs) (p c) refl
  where
    go : take (prefix_len p cs) cs ++ F (drop (prefix_len p cs) cs) ≡ F cs → (b : Bool) → p c ≡ b
        → take (cond b (1 + prefix_len p cs) 0) (c ∷ cs) ++ F (drop (cond b (1 + prefix_len p cs) 0) (c ∷ cs)) ≡ F (c ∷ cs)
    go rest true e =
        ap (λ n. take n (c ∷ cs) ++ F (drop n (c ∷ cs))) (one_more (prefix_len p cs))
        ∙ ap (λ (r : List ℕ). c ∷ r) rest ∙ sym (h c cs e)
    go rest false e = refl

onto_put : (c : ℕ) (xs : List ℕ) (o : Option (List ℕ × List ℕ))
    → put_before (c ∷ xs) o ≡ option_map (onto_front c) (put_before xs o)
onto_put c xs None = refl
onto_put c xs (Some p) = refl

pub put_nothing : (o : Option (List ℕ × List ℕ)) → put_before [] o ≡ o
put_nothing None = refl
put_nothing (Some p) = refl

-- one that puts it before a cut
pub uncut : (F : List ℕ → Option (List ℕ × List ℕ)) (p : ℕ → Bool)
    → ((c : ℕ) (cs : List ℕ) → p c ≡ true → F (c ∷ cs) ≡ option_map (onto_front c) (F cs))
    → (d : List ℕ) → put_before (take (prefix_len p d) d) (F (drop (prefix_len p d) d)) ≡ F d
uncut F p h [] = put_nothing (F [])
uncut F p h (c ∷ cs) = go (uncut F p h cs) (p c) refl
  where
    go : put_before (take (prefix_len p cs) cs) (F (drop (prefix_len p cs) cs)) ≡ F cs → (b : Bool) → p c ≡ b
        → put_before (take (cond b (1 + prefix_len p cs) 0) (c ∷ cs)) (F (drop (cond b (1 + prefix_len p cs) 0) (c ∷ cs)))
        ≡ F (c ∷ cs)
    go rest true e =
        ap (λ n. put_before (take n (c ∷ cs)) (F (drop n (c ∷ cs)))) (one_more (prefix_len p cs))
        ∙ onto_put c (take (prefix_len p cs) cs) (F (drop (prefix_len p cs) cs))
        ∙ ap (option_map (onto_front c)) rest ∙ sym (h c cs e)
    go rest false e = put_nothing (F (c ∷ cs))

-- no byte of a run opens or closes a text
pub unturned : (p : ℕ → Bool) (inside : Bool) → ((c : ℕ) → p c ≡ true → turned inside c ≡ inside)
    → (d : List ℕ) → inside_after inside (take (prefix_len p d) d) ≡ inside
unturned p inside h [] = refl
unturned p inside h (c ∷ cs) = go (unturned p inside h cs) (p c) refl
  where
    go : inside_after inside (take (prefix_len p cs) cs) ≡ inside → (b : Bool) → p c ≡ b
        → inside_after inside (take (cond b (1 + prefix_len p cs) 0) (c ∷ cs)) ≡ inside
    go rest true e =
        ap (λ n. inside_after inside (take n (c ∷ cs))) (one_more (prefix_len p cs))
        ∙ ap (λ i. inside_after i (take (prefix_len p cs) cs)) (h c e) ∙ rest
    go rest false e = refl

both_true : (a b : Bool) → (a && b) ≡ true → (a ≡ true) × (b ≡ true)
both_true true true e = (refl, refl)
both_true true false e = cc
both_true false b e = cc

stays : (inside : Bool) (c : ℕ) → eqb c 39 ≡ false → turned inside c ≡ inside
stays inside c e = rw e

unquoted_turns : (inside : Bool) (c : ℕ) → is_unquoted c ≡ true → turned inside c ≡ inside
unquoted_turns inside c e = stays inside c (not-true _ e)

in_text_turns : (inside : Bool) (c : ℕ) → is_in_text c ≡ true → turned inside c ≡ inside
in_text_turns inside c e = stays inside c (not-true _ (both_true _ _ e).1)

passed_turns : (inside : Bool) (c : ℕ) → is_passed inside c ≡ true → turned inside c ≡ inside
passed_turns true c e = in_text_turns true c e
passed_turns false c e = stays false c (not-true _ (both_true _ _ (both_true _ _ e).1).0)

passed_stands : (inside : Bool) (c : ℕ) → is_passed inside c ≡ true → may_stand inside c ≡ true
passed_stands true c e = (both_true _ _ e).0
passed_stands false c e = (both_true _ _ e).0

no_comment : (inside : Bool) (c : ℕ) (cs : List ℕ) → is_passed inside c ≡ true → begins_comment inside (c ∷ cs) ≡ false
no_comment inside c [] e = refl
no_comment true c (d ∷ cs) e = refl
no_comment false c (d ∷ cs) e =
    let other : eqb c 36 ≡ false = not-true _ (both_true _ _ (both_true _ _ e).1).1 in rw other

pub copies_content : (inside : Bool) (c : ℕ) (cs : List ℕ) → is_passed inside c ≡ true
    → before_comment inside (c ∷ cs) ≡ c ∷ before_comment inside cs
copies_content inside c cs e = rw (no_comment inside c cs e, passed_turns inside c e)

pub drops_clean : (inside : Bool) (c : ℕ) (cs : List ℕ) → is_passed inside c ≡ true
    → is_clean inside (c ∷ cs) ≡ is_clean inside cs
drops_clean inside c cs e = rw (no_comment inside c cs e, passed_stands inside c e, passed_turns inside c e)

-- a run of a line
pub content_run : (inside : Bool) (line : List ℕ) (at : ℕ)
    → take (at + prefix_len (is_passed inside) (drop at line)) line
    ++ before_comment inside (drop (at + prefix_len (is_passed inside) (drop at line)) line)
    ≡ take at line ++ before_comment inside (drop at line)
content_run inside line at =
    let n = prefix_len (is_passed inside) (drop at line) in
    rw (take-add at n line, ← drop-drop n at line, append_assoc)
    (ap (λ (xs : List ℕ). take at line ++ xs) (copied (before_comment inside) (is_passed inside) (copies_content inside) (drop at line)))

pub clean_run : (inside : Bool) (line : List ℕ) (at : ℕ)
    → is_clean inside (drop (at + prefix_len (is_passed inside) (drop at line)) line) ≡ is_clean inside (drop at line)
clean_run inside line at =
    rw (← drop-drop (prefix_len (is_passed inside) (drop at line)) at line)
    (dropped (is_clean inside) (is_passed inside) (drops_clean inside) (drop at line))

pub flag_run : (start inside : Bool) (line : List ℕ) (at : ℕ) → inside ≡ inside_after start (take at line)
    → inside ≡ inside_after start (take (at + prefix_len (is_passed inside) (drop at line)) line)
flag_run start inside line at e =
    let n = prefix_len (is_passed inside) (drop at line) in
    rw (take-add at n line, inside_after-append start (take at line) (take n (drop at line)), ← e)
    (sym (unturned (is_passed inside) inside (passed_turns inside) (drop at line)))

-- a run within an element
mark_differs : (c mark : ℕ) → is_unmarked c ≡ true → is_unmarked mark ≡ false → eqb c mark ≡ false
mark_differs c mark e m = go (eqb c mark) refl
  where
    go : (b : Bool) → eqb c mark ≡ b → b ≡ false
    go true is = absurd (true≢false (sym e ∙ ap is_unmarked (eqb-true c mark is) ∙ m))
    go false is = refl

uncut_byte : (mark : ℕ) (inside : Bool) (c : ℕ) (cs : List ℕ) → is_unmarked mark ≡ false → is_within inside c ≡ true
    → cut_at mark inside (c ∷ cs) ≡ option_map (onto_front c) (cut_at mark inside cs)
uncut_byte mark true c cs m e = rw (unquoted_turns true c e)
uncut_byte mark false c cs m e = rw (mark_differs c mark e m, stays false c (not-true _ (both_true _ _ e).0))

pub cut_run : (mark : ℕ) (inside : Bool) (bytes : List ℕ) (at : ℕ) → is_unmarked mark ≡ false
    → put_before (take (prefix_len (is_within inside) (drop at bytes)) (drop at bytes))
    (cut_at mark inside (drop (at + prefix_len (is_within inside) (drop at bytes)) bytes))
    ≡ cut_at mark inside (drop at bytes)
cut_run mark inside bytes at m =
    rw (← drop-drop (prefix_len (is_within inside) (drop at bytes)) at bytes)
    (uncut (cut_at mark inside) (is_within inside) (λ c cs e. uncut_byte mark inside c cs m e) (drop at bytes))

put_twice : (xs ys : List ℕ) (o : Option (List ℕ × List ℕ)) → put_before (xs ++ ys) o ≡ put_before xs (put_before ys o)
put_twice xs ys None = refl
put_twice xs ys (Some p) = rw append_assoc

-- the cut before a run, after that run
pub cut_behind : (mark : ℕ) (inside : Bool) (bytes : List ℕ) (at : ℕ) → is_unmarked mark ≡ false
    → put_before (take (at + prefix_len (is_within inside) (drop at bytes)) bytes)
    (cut_at mark inside (drop (at + prefix_len (is_within inside) (drop at bytes)) bytes))
    ≡ put_before (take at bytes) (cut_at mark inside (drop at bytes))
cut_behind mark inside bytes at m =
    rw (take-add at (prefix_len (is_within inside) (drop at bytes)) bytes, put_twice)
    (ap (put_before (take at bytes)) (cut_run mark inside bytes at m))

-- the cut of all bytes, after the first run
pub cut_first : (mark : ℕ) (bytes : List ℕ) → is_unmarked mark ≡ false
    → put_before (take (prefix_len is_unmarked bytes) bytes) (cut_at mark false (drop (prefix_len is_unmarked bytes) bytes))
    ≡ cut_at mark false bytes
cut_first mark bytes m = uncut (cut_at mark false) is_unmarked (λ c cs e. uncut_byte mark false c cs m e) bytes

-- no mark is before the first
pub plain_uncut : (mark : ℕ) (front behind : List ℕ) → is_unmarked mark ≡ false → length front ≤ prefix_len is_unmarked (front ++ behind)
    → cut_at mark false front ≡ None
plain_uncut mark [] behind m e = refl
plain_uncut mark (c ∷ cs) behind m e = go (λ k. plain_uncut mark cs behind m k) (is_unmarked c) refl e
  where
    go : (length cs ≤ prefix_len is_unmarked (cs ++ behind) → cut_at mark false cs ≡ None) → (b : Bool) → is_unmarked c ≡ b
        → suc (length cs) ≤ cond b (1 + prefix_len is_unmarked (cs ++ behind)) 0 → cut_at mark false (c ∷ cs) ≡ None
    go rest true is h = uncut_byte mark false c cs m is ∙ ap (option_map (onto_front c)) (rest (omega arith))
    go rest false is h = absurd (omega arith)

-- a run of bytes that are handed out as they are
pub kept_byte : (inside : Bool) (c : ℕ) (cs : List ℕ) → is_kept inside c ≡ true → folded inside (c ∷ cs) ≡ c ∷ folded inside cs
kept_byte true c cs e = rw (unquoted_turns true c e)
kept_byte false c cs e =
    ap₂ (λ (d : ℕ) (i : Bool). d ∷ folded i cs) (eqb-true _ _ (both_true _ _ e).1) (stays false c (not-true _ (both_true _ _ e).0))

pub kept_run : (inside : Bool) (bytes : List ℕ) (at : ℕ)
    → take (at + prefix_len (is_kept inside) (drop at bytes)) bytes
    ++ folded inside (drop (at + prefix_len (is_kept inside) (drop at bytes)) bytes)
    ≡ take at bytes ++ folded inside (drop at bytes)
kept_run inside bytes at =
    let n = prefix_len (is_kept inside) (drop at bytes) in
    rw (take-add at n bytes, ← drop-drop n at bytes, append_assoc)
    (ap (λ (xs : List ℕ). take at bytes ++ xs) (copied (folded inside) (is_kept inside) (kept_byte inside) (drop at bytes)))

-- a run in or outside texts
pub open_run : (inside : Bool) (bytes : List ℕ) (at : ℕ)
    → inside_after inside (drop (at + prefix_len is_unquoted (drop at bytes)) bytes) ≡ inside_after inside (drop at bytes)
open_run inside bytes at =
    rw (← drop-drop (prefix_len is_unquoted (drop at bytes)) at bytes)
    (dropped (inside_after inside) is_unquoted (λ c cs e. ap (λ i. inside_after i cs) (unquoted_turns inside c e)) (drop at bytes))

-- the bound of a run
pub run_within : (p : ℕ → Bool) (bytes : List ℕ) (at : ℕ) → at ≤ length bytes → at + prefix_len p (drop at bytes) ≤ length bytes
run_within p bytes at h = omega (arith, prefix_len-le-length p (drop at bytes), length-drop at bytes)

-- a byte and the run after it, for each loop
pub open_next : (inside : Bool) (bytes : List ℕ) (at : ℕ) → at < length bytes
    → inside_after (turned inside (get_or bytes at 0)) (drop (at + 1 + prefix_len is_unquoted (drop (at + 1) bytes)) bytes)
    ≡ inside_after inside (drop at bytes)
open_next inside bytes at h = open_run (turned inside (get_or bytes at 0)) bytes (at + 1) ∙ rw (drop_more bytes at 0 h) refl

kept_one : (inside : Bool) (c : ℕ) (cs : List ℕ) → (not inside && not (eqb (to_ascii_uppercase c) c)) ≡ false
    → folded inside (c ∷ cs) ≡ c ∷ folded (turned inside c) cs
kept_one true c cs e = refl
kept_one false c cs e = ap (λ (d : ℕ). d ∷ folded (turned false c) cs) (eqb-true _ _ (not-false _ e))

pub kept_next : (inside : Bool) (bytes : List ℕ) (at : ℕ) → at < length bytes
    → (not inside && not (eqb (to_ascii_uppercase (get_or bytes at 0)) (get_or bytes at 0))) ≡ false
    → take (at + 1 + prefix_len (is_kept (turned inside (get_or bytes at 0))) (drop (at + 1) bytes)) bytes
    ++ folded (turned inside (get_or bytes at 0))
    (drop (at + 1 + prefix_len (is_kept (turned inside (get_or bytes at 0))) (drop (at + 1) bytes)) bytes)
    ≡ take at bytes ++ folded inside (drop at bytes)
kept_next inside bytes at h e =
    kept_run (turned inside (get_or bytes at 0)) bytes (at + 1)
    ∙ rw (take_more bytes at 0 h, append_assoc, drop_more bytes at 0 h)
    (ap (λ (xs : List ℕ). take at bytes ++ xs) (sym (kept_one inside (get_or bytes at 0) (drop (at + 1) bytes) e)))

put_one : (c : ℕ) (o : Option (List ℕ × List ℕ)) → put_before (c ∷ []) o ≡ option_map (onto_front c) o
put_one c None = refl
put_one c (Some p) = refl

uncut_one : (mark : ℕ) (inside : Bool) (c : ℕ) (cs : List ℕ) → (not inside && eqb c mark) ≡ false
    → cut_at mark inside (c ∷ cs) ≡ option_map (onto_front c) (cut_at mark (turned inside c) cs)
uncut_one mark inside c cs e = rw e

pub cut_next : (mark : ℕ) (inside : Bool) (bytes : List ℕ) (at : ℕ) → is_unmarked mark ≡ false → at < length bytes
    → (not inside && eqb (get_or bytes at 0) mark) ≡ false
    → put_before (take (at + 1 + prefix_len (is_within (turned inside (get_or bytes at 0))) (drop (at + 1) bytes)) bytes)
    (cut_at mark (turned inside (get_or bytes at 0))
    (drop (at + 1 + prefix_len (is_within (turned inside (get_or bytes at 0))) (drop (at + 1) bytes)) bytes))
    ≡ put_before (take at bytes) (cut_at mark inside (drop at bytes))
cut_next mark inside bytes at m h e =
    let c = get_or bytes at 0 in
    cut_behind mark (turned inside c) bytes (at + 1) m
    ∙ rw (take_more bytes at 0 h, put_twice, drop_more bytes at 0 h)
    (ap (put_before (take at bytes)) (put_one c (cut_at mark (turned inside c) (drop (at + 1) bytes))
    ∙ sym (uncut_one mark inside c (drop (at + 1) bytes) e)))

-- all bytes are of a class where its run is the whole
pub all_in_run : (p : ℕ → Bool) (xs : List ℕ) → list_all p xs ≡ eqb (prefix_len p xs) (length xs)
all_in_run p xs =
    elim (cases_eq (prefix_len p xs) (length xs)) [
      | inl whole ↦ go xs whole ∙ sym (eq-eqb _ _ whole)
      | inr other ↦
          let short : prefix_len p xs < length xs = omega (arith, prefix_len-le-length p xs) in
          list_all_at p xs (prefix_len p xs) 0 short (prefix_len_stops p xs 0 short) ∙ sym (ne_eqb _ _ other)
    ]
  where
    go : (xs : List ℕ) → prefix_len p xs ≡ length xs → list_all p xs ≡ true
    go xs whole = list_all-from_AllPass p xs (All-from_get_or (λ x. p x ≡ true) xs 0
        (λ k inside. prefix_len_passes p xs k 0 (omega (arith, inside, whole))))

pub all_in_run_from : (p : ℕ → Bool) (xs : List ℕ) → eqb (0 + prefix_len p xs) (length xs) ≡ list_all p xs
all_in_run_from p xs = ap (λ n. eqb n (length xs)) (omega arith) ∙ sym (all_in_run p xs)
