-- A text is read in one way, and a written one is read back.
use Rattle.witness.proofs.ToldNames.{[], ◌++◌, ◌∙◌, ◌∷◌, ◌≡◌, ◌≢◌, ◌≤◌, Act, act_fields, AllByRecursion, and_from, and_parts, ap, ArePlain}
use Rattle.witness.proofs.ToldNames.{AreToldEntries, AreToldLines, AreWrittenEntries, arith, Bool, bytes_eq, bytes_eq-Decides, Client, codes, decimal}
use Rattle.witness.proofs.ToldNames.{decimal_plain, Direction, entry_plain, eqb, false, Frame, is_content, is_inner, is_plain, IsDamagedTold, IsInner}
use Rattle.witness.proofs.ToldNames.{IsPlain, IsReadTold, IsToldText, IsWrittenAct, IsWrittenEntry, IsWrittenTold, leb-true, length, line_first}
use Rattle.witness.proofs.ToldNames.{line_of, List, list_all, map, ne_eqb, NeverFall, None, not, Option, Point, read_act, read_back, read_tool, refl}
use Rattle.witness.proofs.ToldNames.{Reported, Server, Side, side_field, slice_split, Some, spaced, subst, suc, sym, take, text_of, told_fields}
use Rattle.witness.proofs.ToldNames.{told_file_lines, told_line, told_text, true, unknown_field, without_last, zero, ℕ}
use Rattle.std.proofs.lemmas.List.Folds.{list_all-append}
use Rattle.contact_ledger.specs.Lines.{whole_lines}
use Rattle.contact_ledger.proofs.WrittenTexts.{line_spaced}
use Rattle.witness.specs.Dialogues.{touched}
use Rattle.witness.specs.ToldTexts.{none, some, entry_back}
use Rattle.witness.proofs.OneTold.{one_told}
use Rattle.witness.proofs.OtherLines.{touch_plain, moved_plain, broken_plain}

-- ---- in one way

same_list : (e f : ℕ × Reported) (es fs : List (ℕ × Reported)) → e ≡ f → es ≡ fs → e ∷ es ≡ f ∷ fs
same_list e f es fs p q = λ n. p n ∷ q n

one_list : (es fs : List (ℕ × Reported)) → AreToldEntries es → AreToldEntries fs → map told_line es ≡ map told_line fs → es ≡ fs
one_list [] [] g h e = refl
one_list [] (y ∷ ys) g h e = absurd cc
one_list (x ∷ xs) [] g h e = absurd cc
one_list (x ∷ xs) (y ∷ ys) g h e =
    let first : told_line x ≡ told_line y = cc in
    let rest : map told_line xs ≡ map told_line ys = cc in
    same_list x y xs ys (one_told x y g.0 h.0 first) (one_list xs ys g.1 h.1 rest)

one_lines : (ls : List (List ℕ)) (es fs : List (ℕ × Reported)) → AreToldLines ls es → AreToldLines ls fs → es ≡ fs
one_lines ls es fs (none a b) (none c d) = b ∙ sym d
one_lines ls es fs (none a b) (some c up d) = absurd cc
one_lines ls es fs (some a up b) (none c d) = absurd cc
one_lines ls es fs (some a up b) (some c up2 d) =
    let both : told_file_lines es ≡ told_file_lines fs = sym b ∙ d in
    let same : map told_line es ≡ map told_line fs = cc in
    one_list es fs a c same

pub one_text : (bytes : List ℕ) (es fs : List (ℕ × Reported)) → IsToldText bytes es → IsToldText bytes fs → es ≡ fs
one_text bytes es fs g h = one_lines (whole_lines bytes) es fs g h

-- ---- never both

pub take_lines : (n : ℕ) (es : List (ℕ × Reported)) → take n (map told_line es) ≡ map told_line (take n es)
take_lines zero [] = refl
take_lines zero (x ∷ xs) = refl
take_lines (suc n) [] = refl
take_lines (suc n) (x ∷ xs) = ap (λ (r : List (List ℕ)). told_line x ∷ r) (take_lines n xs)

pub take_entries : (n : ℕ) (es : List (ℕ × Reported)) → AreToldEntries es → AreToldEntries (take n es)
take_entries zero [] h = tt
take_entries zero (x ∷ xs) h = tt
take_entries (suc n) [] h = tt
take_entries (suc n) (x ∷ xs) h = (h.0, take_entries n xs h.1)

pub take_up : (n : ℕ) (es : List (ℕ × Reported)) → NeverFall es → NeverFall (take n es)
take_up zero [] h = tt
take_up zero (x ∷ xs) h = tt
take_up (suc n) [] h = tt
take_up (suc zero) (x ∷ []) h = tt
take_up (suc zero) (x ∷ y ∷ xs) h = tt
take_up (suc (suc n)) (x ∷ []) h = tt
take_up (suc (suc n)) (x ∷ y ∷ xs) h = (h.0, take_up (suc n) (y ∷ xs) h.1)

front_begins : (n : ℕ) (ls : List (List ℕ)) (es : List (ℕ × Reported)) → 1 ≤ n → n ≤ length ls → AreToldLines ls es
    → (fs : List (ℕ × Reported)) × AreToldLines (take n ls) fs
front_begins zero ls es low high h = absurd (omega (arith, low))
front_begins (suc n) ls es low high (none a b) = let short = ap (λ (r : List (List ℕ)). length r) a in absurd (omega (arith, short, high))
front_begins (suc n) ls es low high (some a up b) =
    (take n es, some (take_entries n es a) (take_up n es up) (rw b (ap (λ (r : List (List ℕ)). codes "DME-TOLD 1" ∷ r) (take_lines n es))))

pub never_both : (bytes : List ℕ) (es : List (ℕ × Reported)) (n : ℕ) → IsToldText bytes es → IsDamagedTold bytes n → ⊥
never_both bytes es n h d = d.torn (front_begins n (whole_lines bytes) es d.first d.last h)

-- ---- read back

-- what is read of a line is what can be read, and has the same line
record IsBack (t back : Reported) : Type 0 where
  written : IsWrittenTold back
  known : IsReadTold back
  fields : told_fields back ≡ told_fields t

tool_back : (tool : List ℕ) (frame : Option Frame) (target point : Point) (dir : Option Direction)
    → IsWrittenTold (Reported.Touched target dir (Some tool) frame point)
    → IsBack (Reported.Touched target dir (Some tool) frame point) (touched (read_tool tool) frame target dir point)
tool_back tool frame target point dir h = go (bytes_eq tool unknown_field) refl frame h
  where
    goal : Option Frame → Option (List ℕ) → Type 0
    goal frame read = IsBack (Reported.Touched target dir (Some tool) frame point) (touched read frame target dir point)

    is_unknown : bytes_eq tool unknown_field ≡ true → read_tool tool ≡ None
    is_unknown t = rw t refl

    is_known : bytes_eq tool unknown_field ≡ false → read_tool tool ≡ Some tool
    is_known t = rw t refl

    other : bytes_eq tool unknown_field ≡ false → tool ≢ unknown_field
    other t same = let yes = (bytes_eq-Decides tool unknown_field).1 same in absurd cc

    of_unknown : (frame : Option Frame) → bytes_eq tool unknown_field ≡ true
        → IsWrittenTold (Reported.Touched target dir (Some tool) frame point) → goal frame None
    of_unknown frame t h = record {
      written = (h.0, h.1, tt, h.3, h.4);
      known = tt;
      fields = ap (λ (name : List ℕ). told_fields (Reported.Touched target dir (Some name) frame point))
          (sym ((bytes_eq-Decides tool unknown_field).0 t));
    }

    of_known : (frame : Option Frame) → bytes_eq tool unknown_field ≡ false
        → IsWrittenTold (Reported.Touched target dir (Some tool) frame point) → goal frame (Some tool)
    of_known None t h = record { written = h; known = other t; fields = refl }
    of_known (Some frame) t h = record { written = h; known = other t; fields = refl }

    go : (b : Bool) → bytes_eq tool unknown_field ≡ b → (frame : Option Frame)
        → IsWrittenTold (Reported.Touched target dir (Some tool) frame point) → goal frame (read_tool tool)
    go true t frame h = subst (goal frame) (sym (is_unknown t)) (of_unknown frame t h)
    go false t frame h = subst (goal frame) (sym (is_known t)) (of_known frame t h)

act_back : (a : Act) → IsWrittenAct a → IsBack (Reported.Did a) (read_act a)
act_back (Act.HomedIs homed) h = record { written = h; known = tt; fields = refl }
act_back Act.Homed h = record { written = h; known = tt; fields = refl }
act_back (Act.Moved target frame) h = record { written = h; known = tt; fields = refl }
act_back (Act.Changed tool) h = record { written = h; known = tt; fields = refl }
act_back (Act.Framed frame) h = record { written = h; known = tt; fields = refl }
act_back (Act.Contact target dir tool frame point) h =
    let back = tool_back tool (Some frame) target point dir h in
    record { written = back.written; known = back.known; fields = back.fields }

told_back : (t : Reported) → IsWrittenTold t → IsBack t (read_back t)
told_back (Reported.Did a) h = act_back a h
told_back (Reported.MovedSomewhere target) h = record { written = h; known = tt; fields = refl }
told_back Reported.FramedSomehow h = record { written = h; known = tt; fields = refl }
told_back (Reported.Touched target dir None frame point) h = record { written = h; known = tt; fields = refl }
told_back (Reported.Touched target dir (Some tool) frame point) h = tool_back tool frame target point dir h
told_back (Reported.Other side line) h = record { written = h; known = tt; fields = refl }
told_back (Reported.Unasked line) h = record { written = h; known = tt; fields = refl }
told_back (Reported.Broken rule tag) h = record { written = h; known = tt; fields = refl }
told_back Reported.Opened h = record { written = h; known = tt; fields = refl }
told_back Reported.Left h = record { written = h; known = tt; fields = refl }

pub entries_back : (es : List (ℕ × Reported)) → AreWrittenEntries es → AreToldEntries (map entry_back es)
entries_back [] h = tt
entries_back (e ∷ es) h =
    let back = told_back e.1 h.0.1 in
    (((h.0.0, back.written), back.known), entries_back es h.1)

pub lines_back : (es : List (ℕ × Reported)) → AreWrittenEntries es → map told_line (map entry_back es) ≡ map told_line es
lines_back [] h = refl
lines_back (e ∷ es) h =
    let back = told_back e.1 h.0.1 in
    let first : told_line (entry_back e) ≡ told_line e = ap (λ (fs : List (List ℕ)). line_of (decimal e.0 ∷ fs)) back.fields in
    λ n. first n ∷ lines_back es h.1 n

pub back_up : (es : List (ℕ × Reported)) → NeverFall es → NeverFall (map entry_back es)
back_up [] h = tt
back_up (e ∷ []) h = tt
back_up (e ∷ f ∷ es) h = (h.0, back_up (f ∷ es) h.1)

-- what can be read is read as it is
known_same : (tool : List ℕ) → tool ≢ unknown_field → read_tool tool ≡ Some tool
known_same tool other = go (bytes_eq tool unknown_field) refl
  where
    go : (b : Bool) → bytes_eq tool unknown_field ≡ b → read_tool tool ≡ Some tool
    go true t = absurd (other ((bytes_eq-Decides tool unknown_field).0 t))
    go false t = rw t refl

told_same : (t : Reported) → IsReadTold t → read_back t ≡ t
told_same (Reported.Did (Act.HomedIs homed)) h = refl
told_same (Reported.Did Act.Homed) h = refl
told_same (Reported.Did (Act.Moved target frame)) h = refl
told_same (Reported.Did (Act.Changed tool)) h = refl
told_same (Reported.Did (Act.Framed frame)) h = refl
told_same (Reported.Did (Act.Contact target dir tool frame point)) h =
    ap (λ (m : Option (List ℕ)). touched m (Some frame) target dir point) (known_same tool h)
told_same (Reported.MovedSomewhere target) h = refl
told_same Reported.FramedSomehow h = refl
told_same (Reported.Touched target dir None frame point) h = refl
told_same (Reported.Touched target dir (Some tool) None point) h =
    ap (λ (m : Option (List ℕ)). touched m None target dir point) (known_same tool h)
told_same (Reported.Touched target dir (Some tool) (Some frame) point) h = absurd h
told_same (Reported.Other side line) h = refl
told_same (Reported.Unasked line) h = refl
told_same (Reported.Broken rule tag) h = refl
told_same Reported.Opened h = refl
told_same Reported.Left h = refl

pub entries_same : (es : List (ℕ × Reported)) → AreToldEntries es → map entry_back es ≡ es
entries_same [] h = refl
entries_same (e ∷ es) h =
    let first : entry_back e ≡ e = λ n. (e.0, told_same e.1 h.0.1 n) in
    λ n. first n ∷ entries_same es h.1 n

-- ---- the lines of a written text

plain_byte : (c : ℕ) → is_plain c ≡ true → is_inner c ≡ true
plain_byte c h = let other : eqb c 10 ≡ false = ne_eqb c 10 (λ e. omega (arith, leb-true 33 c h, e)) in rw other refl

plain_inner : (xs : List ℕ) → list_all is_plain xs ≡ true → list_all is_inner xs ≡ true
plain_inner [] h = refl
plain_inner (x ∷ xs) h =
    let s = and_parts (is_plain x) (list_all is_plain xs) h in
    and_from _ _ (plain_byte x s.0) (plain_inner xs s.1)

content_inner : (xs : List ℕ) → list_all is_content xs ≡ true → list_all is_inner xs ≡ true
content_inner [] h = refl
content_inner (x ∷ xs) h =
    let s = and_parts (is_content x) (list_all is_content xs) h in
    and_from _ _ ((and_parts (not (eqb x 13)) (not (eqb x 10)) s.0).1) (content_inner xs s.1)

inner_append : (a b : List ℕ) → list_all is_inner a ≡ true → list_all is_inner b ≡ true → list_all is_inner (a ++ b) ≡ true
inner_append a b f g = list_all-append is_inner a b ∙ and_from _ _ f g

spaced_inner : (fields : List (List ℕ)) → ArePlain fields → list_all is_inner (spaced fields) ≡ true
spaced_inner [] h = refl
spaced_inner (x ∷ xs) h = inner_append x (spaced xs) (plain_inner x h.0.plain) (spaced_inner xs h.1)

line_inner : (field : List ℕ) (fields : List (List ℕ)) → ArePlain (field ∷ fields) → IsInner (line_of (field ∷ fields))
line_inner field fields h = record {
  inner = rw (line_spaced field fields) (inner_append field (spaced fields) (plain_inner field h.0.plain) (spaced_inner fields h.1));
}

side_inner : (side : Side) → list_all is_inner (side_field side) ≡ true
side_inner Client = refl
side_inner Server = refl

foreign_inner : (number : List ℕ) (side : Side) (line : List ℕ) → list_all is_inner number ≡ true → list_all is_inner line ≡ true
    → IsInner (line_of (number ∷ codes "OTHER" ∷ side_field side ∷ line ∷ []))
foreign_inner number side line n l = record {
  inner = inner_append number (32 ∷ line_of (codes "OTHER" ∷ side_field side ∷ line ∷ [])) n
      (inner_append (codes " OTHER ") (line_of (side_field side ∷ line ∷ [])) refl
      (inner_append (side_field side) (32 ∷ line) (side_inner side) (inner_append (codes " ") line refl l)));
}

unasked_inner : (number line : List ℕ) → list_all is_inner number ≡ true → list_all is_inner line ≡ true
    → IsInner (line_of (number ∷ codes "UNASKED" ∷ line ∷ []))
unasked_inner number line n l = record {
  inner = inner_append number (32 ∷ line_of (codes "UNASKED" ∷ line ∷ [])) n (inner_append (codes " UNASKED ") line refl l);
}

told_inner : (e : ℕ × Reported) → IsWrittenEntry e → IsInner (told_line e)
told_inner e h = go e.1 h.1
  where
    number : IsPlain (decimal e.0)
    number = decimal_plain e.0 (omega (arith, h.0.1))

    go : (t : Reported) → IsWrittenTold t → IsInner (told_line (e.0, t))
    go (Reported.Did a) w = line_inner (decimal e.0) (act_fields a) (entry_plain (e.0, a) (h.0, w))
    go (Reported.MovedSomewhere target) w = line_inner (decimal e.0) (told_fields (Reported.MovedSomewhere target))
        (number, moved_plain target w)
    go Reported.FramedSomehow w = line_inner (decimal e.0) (told_fields Reported.FramedSomehow)
        (number, (record { plain = refl }, (record { plain = refl }, tt)))
    go (Reported.Touched target dir tool frame point) w = line_inner (decimal e.0) (told_fields (Reported.Touched target dir tool frame point))
        (number, touch_plain target dir tool frame point w)
    go (Reported.Other side line) w =
        foreign_inner (decimal e.0) side line (plain_inner (decimal e.0) number.plain) (content_inner line w.free)
    go (Reported.Unasked line) w = unasked_inner (decimal e.0) line (plain_inner (decimal e.0) number.plain) (content_inner line w.free)
    go (Reported.Broken rule tag) w = line_inner (decimal e.0) (told_fields (Reported.Broken rule tag))
        (number, broken_plain rule tag)
    go Reported.Opened w = line_inner (decimal e.0) (told_fields Reported.Opened)
        (number, (record { plain = refl }, tt))
    go Reported.Left w = line_inner (decimal e.0) (told_fields Reported.Left)
        (number, (record { plain = refl }, tt))

entries_inner : (es : List (ℕ × Reported)) → AreWrittenEntries es → AllByRecursion IsInner (map told_line es)
entries_inner [] h = tt
entries_inner (e ∷ es) h = (told_inner e h.0, entries_inner es h.1)

pub file_inner : (es : List (ℕ × Reported)) → AreWrittenEntries es → AllByRecursion IsInner (told_file_lines es)
file_inner es h = (record { inner = refl }, entries_inner es h)

text_split : (ls : List (List ℕ)) → AllByRecursion IsInner ls → slice_split (λ b. eqb b 10) (text_of ls) ≡ ls ++ [] ∷ []
text_split [] h = refl
text_split (l ∷ ls) h = line_first l (text_of ls) h.0.inner ∙ ap (λ (r : List (List ℕ)). l ∷ r) (text_split ls h.1)

text_lines : (ls : List (List ℕ)) → AllByRecursion IsInner ls → whole_lines (text_of ls) ≡ ls
unfolding whole_lines
text_lines ls h = rw (text_split ls h) (without_last ls)

-- the lines of what was reported are those of what is read of them
pub file_lines_back : (es : List (ℕ × Reported)) → AreWrittenEntries es → told_file_lines es ≡ told_file_lines (map entry_back es)
file_lines_back es h = ap (λ (r : List (List ℕ)). codes "DME-TOLD 1" ∷ r) (sym (lines_back es h))

pub written_read : (es : List (ℕ × Reported)) → AreWrittenEntries es → NeverFall es → IsToldText (told_text es) (map entry_back es)
written_read es h up = some (entries_back es h) (back_up es up) (text_lines (told_file_lines es) (file_inner es h) ∙ file_lines_back es h)

told_written : (es : List (ℕ × Reported)) → AreToldEntries es → AreWrittenEntries es
told_written [] h = tt
told_written (e ∷ es) h = (h.0.0, told_written es h.1)

pub told_read : (es : List (ℕ × Reported)) → AreToldEntries es → NeverFall es → IsToldText (told_text es) es
told_read es h up =
    subst (λ (x : List (ℕ × Reported)). IsToldText (told_text es) x) (entries_same es h) (written_read es (told_written es h) up)
