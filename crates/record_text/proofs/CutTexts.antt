-- The text of a record, cut anywhere.
use Rattle.record_text.proofs.Names.{[], ◌++◌, ◌+◌, ◌<◌, ◌∙◌, ◌∷◌, ◌≡◌, ◌≤◌, ◌⊎◌, act_fields, AllByRecursion, ap, append-nil, AreAsked, ArePlain}
use Rattle.record_text.proofs.Names.{AreTornHead, arith, asked_lines, BeginsHeader, codes, Completed, decimal, decimal_plain, drop, Entry, entry_line}
use Rattle.record_text.proofs.Names.{entry_plain, Follow, head_lines, header, inl, inr, is_plain, is_printed, IsAskedTouch, IsPartGiven, IsRecord}
use Rattle.record_text.proofs.Names.{IsWrittenEntry, Kept, le-leb, leb-true, length, line_of, List, list_all, map, name_plain, nat_le, None}
use Rattle.record_text.proofs.Names.{nothing_kept, Option, part_lines, record_lines, recorded, refl, Note, Noted, Some, subst, suc, sym, take}
use Rattle.record_text.proofs.Names.{take-append-add, take-append-drop, text_of, Told, Touch, touch_fields, touch_line, true, Wanted, wanted_lines}
use Rattle.record_text.proofs.Names.{append_assoc, First, length-append, Second, Version, word_of, zero, ℕ}
use Rattle.std.proofs.lemmas.Bool.{and_from, and_parts}
use Rattle.std.proofs.lemmas.List.{take-append-le}
use Rattle.contact_ledger.specs.Lines.{whole_lines}
use Rattle.contact_ledger.proofs.TextLines.{AreTexts, cut_text, IsText, lines_back}
use Rattle.record_text.specs.Cuts.{begun, ReadsCut, unbegun}
use Rattle.record_text.proofs.RecordFields.{touch_plain, feature_plain, word_plain}
use Rattle.record_text.proofs.StageOnes.{written_follows}

-- ---- each line is a text without a line feed

plain_text : (field rest : List ℕ) → list_all is_plain field ≡ true → IsText rest → IsText (field ++ rest)
plain_text [] rest h t = t
plain_text (x ∷ xs) rest h t =
    let p = and_parts (is_plain x) (list_all is_plain xs) h in
    let more = plain_text xs rest p.1 t in
    record { all = and_from _ _ (le-leb 32 x (omega (arith, leb-true 33 x p.0))) more.all }

line_text : (field : List ℕ) (fields : List (List ℕ)) → ArePlain (field ∷ fields) → IsText (line_of (field ∷ fields))
line_text field [] h = subst (λ (t : List ℕ). IsText t) (append-nil field) (plain_text field [] h.0.plain (record { all = refl }))
line_text field (next ∷ fields) h =
    let more = line_text next fields h.1 in
    plain_text field (32 ∷ line_of (next ∷ fields)) h.0.plain (record { all = more.all })

printed_text : (text : List ℕ) → list_all is_printed text ≡ true → IsText text
printed_text [] h = record { all = refl }
printed_text (x ∷ xs) h =
    let p = and_parts (is_printed x) (list_all is_printed xs) h in
    let more = printed_text xs p.1 in
    record { all = and_from _ _ (and_parts (nat_le 32 x) _ p.0).0 more.all }

-- the word of a note, and what it says
noted_text : (note : Note) (text : List ℕ) → IsText text → IsText (32 ∷ (word_of note ++ 32 ∷ text))
noted_text note text h =
    let rest : IsText (32 ∷ text) = record { all = h.all } in
    let more = plain_text (word_of note) (32 ∷ text) (word_plain note) rest in
    record { all = more.all }

texts_append : (xs ys : List (List ℕ)) → AreTexts xs → AreTexts ys → AreTexts (xs ++ ys)
texts_append [] ys a b = b
texts_append (x ∷ xs) ys a b = (a.0, texts_append xs ys a.1 b)

touches_text : (ts : List Touch) → AllByRecursion IsAskedTouch ts → AreTexts (map touch_line ts)
touches_text [] h = tt
touches_text (t ∷ ts) h = (line_text (codes "TOUCH") (touch_fields t) (touch_plain t h.0), touches_text ts h.1)

asked_text : (ws : List Wanted) → AreAsked ws → AreTexts (asked_lines ws)
asked_text [] h = tt
asked_text (w ∷ ws) h = texts_append (wanted_lines w) (asked_lines ws) (
  line_text (codes "FEATURE") (w.label ∷ decimal (length w.touches) ∷ []) (feature_plain w.label (length w.touches) h.0.label h.0.counted),
  touches_text w.touches h.0.touches,
) (asked_text ws h.1)

part_text : (part : Option (List ℕ)) → IsPartGiven part → AreTexts (part_lines part)
part_text None h = tt
part_text (Some text) h =
    let t = printed_text text h.printed in
    (record { all = t.all }, tt)

entry_text : (e : Entry) → IsWrittenEntry e → IsText (entry_line e)
entry_text (Told n a) h = line_text (decimal n) (act_fields a) (entry_plain (n, a) h)
entry_text (Noted n note text) h =
    let number = decimal_plain n (omega (arith, h.0.1)) in
    let t = printed_text text h.1.printed.printed in
    plain_text (decimal n) (32 ∷ (word_of note ++ 32 ∷ text)) number.plain
    (noted_text note text t)
entry_text (Completed n label) h = line_text (decimal n) (codes "COMPLETED" ∷ label ∷ [])
    (decimal_plain n (omega (arith, h.0.1)), (record { plain = refl }, (name_plain label h.1, tt)))

entries_text : (es : List Entry) (asked : List Wanted) (old new : Kept) → Follow asked old es new → AreTexts (map entry_line es)
entries_text [] asked old new h = tt
entries_text (e ∷ es) asked old new h =
    (entry_text e (written_follows asked old h.0 e h.1), entries_text es asked h.0 new h.2)

header_text : (v : Version) → IsText (header v)
header_text First = record { all = refl }
header_text Second = record { all = refl }

record_texts : (v : Version) (part : Option (List ℕ)) (asked : List Wanted) (es : List Entry) (kept : Kept) → IsPartGiven part → AreAsked asked
    → Follow asked nothing_kept es kept → AreTexts (record_lines v part asked es)
record_texts v part asked es kept h g f = texts_append (head_lines v part asked) (map entry_line es) (
  header_text v,
  texts_append (part_lines part) (asked_lines asked ++ codes "END" ∷ []) (part_text part h)
      (texts_append (asked_lines asked) (codes "END" ∷ []) (asked_text asked g) (record { all = refl }, tt)),
) (entries_text es asked nothing_kept kept f)

-- ---- the first entries

pub record IsFrontOf (asked : List Wanted) (old : Kept) (es : List Entry) (lines : List (List ℕ)) : Type 0 where
  pub count : ℕ
  pub kept : Kept
  pub follow : Follow asked old (take count es) kept
  pub lines_are : lines ≡ map entry_line (take count es)

-- fewer lines are those of fewer entries
fewer : (es : List Entry) (asked : List Wanted) (old new : Kept) (xs ys : List (List ℕ)) → Follow asked old es new
    → map entry_line es ≡ xs ++ ys → IsFrontOf asked old es xs
fewer es asked old new [] ys f e = record { count = 0; kept = old; follow = refl; lines_are = refl }
fewer [] asked old new (x ∷ xs) ys f e = absurd cc
fewer (e0 ∷ es) asked old new (x ∷ xs) ys f e =
    let first : entry_line e0 ≡ x = cc in
    let rest : map entry_line es ≡ xs ++ ys = cc in
    let r = fewer es asked f.0 new xs ys f.2 rest in
    record {
      count = suc r.count;
      kept = r.kept;
      follow = (f.0, f.1, r.follow);
      lines_are = same_lines (sym first) r.lines_are;
    }
  where
    same_lines : {a b : List ℕ} {k l : List (List ℕ)} → a ≡ b → k ≡ l → a ∷ k ≡ b ∷ l
    same_lines p q = λ n. p n ∷ q n

-- the first lines of two lists are some of the first list; or all of it and some of the second
data Sides (xs ys front : List (List ℕ)) : Type 0 where
  first : (more : List (List ℕ)) → xs ≡ front ++ more → 0 < length more → Sides xs ys front
  second : (tail more : List (List ℕ)) → front ≡ xs ++ tail → ys ≡ tail ++ more → Sides xs ys front

side_more : (x z : List ℕ) (xs ys front : List (List ℕ)) → x ≡ z → Sides xs ys front → Sides (x ∷ xs) ys (z ∷ front)
side_more x z xs ys front e (first more p l) = first more (same e p) l
  where
    same : {a b : List ℕ} {k l : List (List ℕ)} → a ≡ b → k ≡ l → a ∷ k ≡ b ∷ l
    same p q = λ n. p n ∷ q n
side_more x z xs ys front e (second tail more p q) = second tail more (same (sym e) p) q
  where
    same : {a b : List ℕ} {k l : List (List ℕ)} → a ≡ b → k ≡ l → a ∷ k ≡ b ∷ l
    same p q = λ n. p n ∷ q n

sides : (xs ys front behind : List (List ℕ)) → xs ++ ys ≡ front ++ behind → Sides xs ys front
sides [] ys front behind e = second front behind refl e
sides (x ∷ xs) ys [] behind e = first (x ∷ xs) refl (omega arith)
sides (x ∷ xs) ys (z ∷ front) behind e =
    let one : x ≡ z = cc in
    let rest : xs ++ ys ≡ front ++ behind = cc in
    side_more x z xs ys front one (sides xs ys front behind rest)

-- ---- a text that is cut

-- what the whole lines of a text are
data ReadsFront (v : Version) (part : Option (List ℕ)) (asked : List Wanted) (es : List Entry) (lines : List (List ℕ)) : Type 0 where
  torn : AreTornHead lines → ReadsFront v part asked es lines
  entries : (front : List (List ℕ)) → IsFrontOf asked nothing_kept es front → lines ≡ head_lines v part asked ++ front
      → ReadsFront v part asked es lines

front_read : (v : Version) (part : Option (List ℕ)) (asked : List Wanted) (es : List Entry) (kept : Kept) (lines behind : List (List ℕ))
    → IsPartGiven part → AreAsked asked → Follow asked nothing_kept es kept → record_lines v part asked es ≡ lines ++ behind
    → ReadsFront v part asked es lines
front_read v part asked es kept lines behind h g f e =
    go (sides (head_lines v part asked) (map entry_line es) lines behind e)
  where
    go : Sides (head_lines v part asked) (map entry_line es) lines → ReadsFront v part asked es lines
    go (first more p l) = torn (record {
      version = v;
      part = part;
      asked = asked;
      part_given = h;
      are_asked = g;
      behind = more;
      front = p;
      short = l;
    })
    go (second tail more p q) = entries tail (fewer es asked nothing_kept kept tail more f q) p

split_at : (n k : ℕ) → (k ≤ n) ⊎ ((j : ℕ) × (k ≡ n + 1 + j))
split_at n zero = inl (omega arith)
split_at zero (suc k) = inr (k, omega arith)
split_at (suc n) (suc k) = go (split_at n k)
  where
    go : (k ≤ n) ⊎ ((j : ℕ) × (k ≡ n + 1 + j)) → (suc k ≤ suc n) ⊎ ((j : ℕ) × (suc k ≡ suc n + 1 + j))
    go (inl h) = inl (omega (arith, h))
    go (inr h) = let e = h.1 in inr (h.0, omega (arith, e))

-- a text that has no whole line begins its first
cut_line : (line rest : List ℕ) (k : ℕ) → IsText line → whole_lines (take k (line ++ 10 ∷ rest)) ≡ []
    → (behind : List ℕ) × (line ≡ take k (line ++ 10 ∷ rest) ++ behind)
cut_line line rest k t e = go (split_at (length line) k)
  where
    go : (k ≤ length line) ⊎ ((j : ℕ) × (k ≡ length line + 1 + j)) → (behind : List ℕ) × (line ≡ take k (line ++ 10 ∷ rest) ++ behind)
    go (inl h) = (
      drop k line,
      sym (take-append-drop k line) ∙ ap (λ (t : List ℕ). t ++ drop k line) (sym (take-append-le k line (10 ∷ rest) h)),
    )
    go (inr h) =
        let whole : List ℕ = text_of (line ∷ []) in
        let count : k ≡ length whole + h.0 = h.1 ∙ ap (λ (n : ℕ). n + h.0) (sym (length-append line (10 ∷ []))) in
        let front : take k (line ++ 10 ∷ rest) ≡ whole ++ take h.0 rest =
        ap (λ (t : List ℕ). take k t) (sym (append_assoc line (10 ∷ []) rest))
        ∙ ap (λ (n : ℕ). take n (whole ++ rest)) count ∙ take-append-add whole rest h.0 in
        let lines : whole_lines (whole ++ take h.0 rest) ≡ line ∷ whole_lines (take h.0 rest) =
        lines_back (line ∷ []) (take h.0 rest) (t, tt) in
        let none : line ∷ whole_lines (take h.0 rest) ≡ [] = sym lines ∙ ap (λ (t : List ℕ). whole_lines t) (sym front) ∙ e in
        absurd cc

-- so a text of a header that has no whole line begins the header
cut_header : (v : Version) (k : ℕ) (rest : List ℕ) → whole_lines (take k (header v ++ 10 ∷ rest)) ≡ []
    → BeginsHeader (take k (header v ++ 10 ∷ rest))
cut_header v k rest e =
    let cut = cut_line (header v) rest k (header_text v) e in
    (v, cut.0, cut.1)

read_as : (v : Version) (part : Option (List ℕ)) (asked : List Wanted) (es : List Entry) (bytes : List ℕ) → IsPartGiven part → AreAsked asked
    → (whole_lines bytes ≡ [] → BeginsHeader bytes) → ReadsFront v part asked es (whole_lines bytes) → ReadsCut part asked es bytes
read_as v part asked es bytes h g ours (torn t) = unbegun (record { torn = t; ours = ours })
read_as v part asked es bytes h g ours (entries front f e) = begun f.count f.kept f.follow (record {
  version = v;
  entries = take f.count es;
  kept = f.kept;
  part = h;
  asked = g;
  follow = f.follow;
  says = refl;
  whole = e ∙ ap (λ (ls : List (List ℕ)). head_lines v part asked ++ ls) f.lines_are;
})

pub cut_read : (v : Version) (part : Option (List ℕ)) (asked : List Wanted) (es : List Entry) (kept : Kept) (k : ℕ) → IsPartGiven part → AreAsked asked
    → Follow asked nothing_kept es kept → k < length (text_of (record_lines v part asked es))
    → ReadsCut part asked es (take k (text_of (record_lines v part asked es)))
cut_read v part asked es kept k h g f l =
    let text = text_of (record_lines v part asked es) in
    let cut = cut_text (record_lines v part asked es) k (record_texts v part asked es kept h g f) l in
    let parts : record_lines v part asked es ≡ whole_lines (take k text) ++ cut.behind =
    cut.parts ∙ ap (λ (ls : List (List ℕ)). ls ++ cut.behind) (sym cut.whole) in
    read_as v part asked es (take k text) h g (cut_header v k _)
    (front_read v part asked es kept (whole_lines (take k text)) cut.behind h g f parts)

whole_nil : whole_lines [] ≡ []
unfolding whole_lines
whole_nil = refl

-- a text that is not cut
pub whole_read : (v : Version) (part : Option (List ℕ)) (asked : List Wanted) (es : List Entry) (kept : Kept) → IsPartGiven part → AreAsked asked
    → Follow asked nothing_kept es kept → IsRecord (text_of (record_lines v part asked es)) (recorded part asked kept)
whole_read v part asked es kept h g f = record {
  version = v;
  entries = es;
  kept = kept;
  part = h;
  asked = g;
  follow = f;
  says = refl;
  whole = ap (λ (t : List ℕ). whole_lines t) (sym (append-nil (text_of (record_lines v part asked es))))
      ∙ lines_back (record_lines v part asked es) [] (record_texts v part asked es kept h g f)
      ∙ ap (λ (ls : List (List ℕ)). record_lines v part asked es ++ ls) whole_nil ∙ append-nil (record_lines v part asked es);
}
