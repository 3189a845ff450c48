-- Lines are read as they were written.
use Rattle.dmis_text.proofs.Names.{[], ◌++◌, ◌+◌, ◌-◌, ◌∙◌, ◌∷◌, ◌≡◌, and_from, and_parts, ap, append_assoc, arith, Bool, cond, eqb, false, flat_map}
use Rattle.dmis_text.proofs.Names.{get_or_at, inl, inr, is_line, IsBehindEnd, join_with_byte, join_with_byte-slice_split, lacks, length}
use Rattle.dmis_text.proofs.Names.{length-append, length-slice_split, length_push, lines, lines_of_parts, List, list_all, list_all-append, not}
use Rattle.dmis_text.proofs.Names.{not-true, onto_first, refl, slice_index, slice_split, strip_carriage_return, suc, take_at, true, zero, ℕ}
use Rattle.dmis_text.proofs.LineEnds.{lines_of_more}

-- a list free of the byte is a part of its own before it
part_before : (bytes rest : List ℕ) → lacks 10 bytes ≡ true
    → slice_split (λ b. eqb b 10) (bytes ++ 10 ∷ rest) ≡ bytes ∷ slice_split (λ b. eqb b 10) rest
part_before [] rest h = refl
part_before (c ∷ cs) rest h =
    let both = and_parts (not (eqb c 10)) (lacks 10 cs) h in
    rw (not-true (eqb c 10) both.0, part_before cs rest both.1)

first_line : (bytes rest : List ℕ) → lacks 10 bytes ≡ true → lines (bytes ++ 10 ∷ rest) ≡ strip_carriage_return bytes ∷ lines rest
first_line bytes rest h = rw (part_before bytes rest h) (lines_of_more bytes _ _ (length-slice_split (λ b. eqb b 10) rest))

-- without a CR there is none to strip
not_at : (bytes : List ℕ) (n : ℕ) → lacks 13 bytes ≡ true → eqb (slice_index bytes n) 13 ≡ false
not_at [] n h = refl
not_at (c ∷ cs) zero h = not-true (eqb c 13) (and_parts (not (eqb c 13)) (lacks 13 cs) h).0
not_at (c ∷ cs) (suc n) h = not_at cs n (and_parts (not (eqb c 13)) (lacks 13 cs) h).1

strip_none : (bytes : List ℕ) → lacks 13 bytes ≡ true → strip_carriage_return bytes ≡ bytes
strip_none bytes h = rw (not_at bytes (length bytes - 1) h)

-- and one at the end is stripped
strip_one : (bytes : List ℕ) → strip_carriage_return (bytes ++ 13 ∷ []) ≡ bytes
strip_one bytes =
    let count : length (bytes ++ 13 ∷ []) - 1 ≡ length bytes = omega (arith, length-append bytes (13 ∷ [])) in
    rw (count, get_or_at bytes 13 [] 0 (length bytes) refl, take_at bytes (13 ∷ []) (length bytes) refl)

pub lacks_more : (c : ℕ) (xs ys : List ℕ) → lacks c xs ≡ true → lacks c ys ≡ true → lacks c (xs ++ ys) ≡ true
lacks_more c xs ys h g = rw (list_all-append (λ b. not (eqb b c)) xs ys) (and_from (lacks c xs) (lacks c ys) h g)

-- a line in front of its end
pub line_in_front : (line rest after : List ℕ) → lacks 10 line ≡ true → lacks 13 line ≡ true → IsBehindEnd rest after
    → lines (line ++ rest) ≡ line ∷ lines after
line_in_front line rest after h g (inl e) = rw (e, first_line line after h, strip_none line g)
line_in_front line rest after h g (inr e) =
    let cut : line ++ 13 ∷ 10 ∷ after ≡ (line ++ 13 ∷ []) ++ 10 ∷ after = simp append_assoc in
    rw (e, cut, first_line (line ++ 13 ∷ []) after (lacks_more 10 line (13 ∷ []) h refl), strip_one line)

-- lines that were written with LF after each
pub lines_written : (ls : List (List ℕ)) → list_all is_line ls ≡ true → lines (flat_map (λ (l : List ℕ). l ++ 10 ∷ []) ls) ≡ ls
lines_written [] h = refl
lines_written (l ∷ ls) h =
    let both = and_parts (is_line l) (list_all is_line ls) h in
    let free = and_parts (lacks 13 l) (lacks 10 l) both.0 in
    rw (
      append_assoc l (10 ∷ []) (flat_map (λ (l : List ℕ). l ++ 10 ∷ []) ls),
      first_line l (flat_map (λ (l : List ℕ). l ++ 10 ∷ []) ls) free.1,
      strip_none l free.0,
    )
    (ap (λ (xs : List (List ℕ)). l ∷ xs) (lines_written ls both.1))

-- or with CR and LF
pub lines_written_with_return : (ls : List (List ℕ)) → list_all is_line ls ≡ true
    → lines (flat_map (λ (l : List ℕ). l ++ 13 ∷ 10 ∷ []) ls) ≡ ls
lines_written_with_return [] h = refl
lines_written_with_return (l ∷ ls) h =
    let both = and_parts (is_line l) (list_all is_line ls) h in
    let free = and_parts (lacks 13 l) (lacks 10 l) both.0 in
    let rest = flat_map (λ (l : List ℕ). l ++ 13 ∷ 10 ∷ []) ls in
    let cut : (l ++ 13 ∷ 10 ∷ []) ++ rest ≡ (l ++ 13 ∷ []) ++ 10 ∷ rest = simp append_assoc in
    rw (cut, first_line (l ++ 13 ∷ []) rest (lacks_more 10 l (13 ∷ []) free.1 refl), strip_one l)
    (ap (λ (xs : List (List ℕ)). l ∷ xs) (lines_written_with_return ls both.1))

-- the parts of a list that lacks a byte lack it
onto_lacks : (c : ℕ) (parts : List (List ℕ)) → not (eqb c 13) ≡ true → list_all (lacks 13) parts ≡ true
    → list_all (lacks 13) (onto_first c parts) ≡ true
onto_lacks c [] e h = rw e
onto_lacks c (p ∷ ps) e h = rw e h

parts_lack : (bytes : List ℕ) → lacks 13 bytes ≡ true → list_all (lacks 13) (slice_split (λ b. eqb b 10) bytes) ≡ true
parts_lack [] h = refl
parts_lack (c ∷ cs) h =
    let both = and_parts (not (eqb c 13)) (lacks 13 cs) h in
    go both.0 (parts_lack cs both.1) (eqb c 10)
  where
    go : not (eqb c 13) ≡ true → list_all (lacks 13) (slice_split (λ b. eqb b 10) cs) ≡ true → (t : Bool)
        → list_all (lacks 13) (cond t ([] ∷ slice_split (λ b. eqb b 10) cs) (onto_first c (slice_split (λ b. eqb b 10) cs))) ≡ true
    go e rest true = rest
    go e rest false = onto_lacks c (slice_split (λ b. eqb b 10) cs) e rest

-- parts, and nothing after the last LF
lines_of_all : (parts : List (List ℕ)) → list_all (lacks 13) parts ≡ true → lines_of_parts (parts ++ [] ∷ []) ≡ parts
lines_of_all [] h = refl
lines_of_all (p ∷ ps) h =
    let both = and_parts (lacks 13 p) (list_all (lacks 13) ps) h in
    lines_of_more p (ps ++ [] ∷ []) (length ps) (length_push ps []) ∙ rw (strip_none p both.0, lines_of_all ps both.1)

onto_append : (c : ℕ) (parts more : List (List ℕ)) (n : ℕ) → length parts ≡ n + 1
    → onto_first c (parts ++ more) ≡ onto_first c parts ++ more
onto_append c [] more n h = absurd (omega (arith, h))
onto_append c (p ∷ ps) more n h = refl

split_ended : (text : List ℕ) → slice_split (λ b. eqb b 10) (text ++ 10 ∷ []) ≡ slice_split (λ b. eqb b 10) text ++ [] ∷ []
split_ended [] = refl
split_ended (c ∷ cs) = go (split_ended cs) (eqb c 10)
  where
    go : slice_split (λ b. eqb b 10) (cs ++ 10 ∷ []) ≡ slice_split (λ b. eqb b 10) cs ++ [] ∷ [] → (t : Bool)
        → cond t ([] ∷ slice_split (λ b. eqb b 10) (cs ++ 10 ∷ [])) (onto_first c (slice_split (λ b. eqb b 10) (cs ++ 10 ∷ [])))
        ≡ cond t ([] ∷ slice_split (λ b. eqb b 10) cs) (onto_first c (slice_split (λ b. eqb b 10) cs)) ++ [] ∷ []
    go rest true = ap (λ (ps : List (List ℕ)). [] ∷ ps) rest
    go rest false = rw rest (onto_append c (slice_split (λ b. eqb b 10) cs) ([] ∷ []) _ (length-slice_split (λ b. eqb b 10) cs))

-- the lines of a text without CR, joined by LF, are the text
pub lines_joined : (text : List ℕ) → lacks 13 text ≡ true → join_with_byte 10 (lines (text ++ 10 ∷ [])) ≡ text
lines_joined text h = rw (split_ended text, lines_of_all (slice_split (λ b. eqb b 10) text) (parts_lack text h))
    (join_with_byte-slice_split 10 text)
