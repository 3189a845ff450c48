-- A line leads from a stage in one way, so lines lead to one stage.
use Rattle.record_text.proofs.Names.{[], ◌++◌, ◌-◌, ◌∙◌, ◌∷◌, ◌≡◌, Act, act_fields, act_line, AddsEntry, ap, append_assoc, arith, body, codes}
use Rattle.record_text.proofs.Names.{Completed, completed_line, Completes, contacts, decimal, direction_fields, drop, Entry, entry_back, entry_line}
use Rattle.record_text.proofs.Names.{feature_line, Follows, frame_fields, head, inl, inr, IsAskedTouch, IsConnection, IsEntry, IsName, IsPointCount}
use Rattle.record_text.proofs.Names.{IsWrittenEntry, Kept, kind, Leads, length, line_of, List, MadeContact, Next, Option, part_line}
use Rattle.record_text.proofs.Names.{Point, point_fields, pos, refl, Noted, noted_line, Note, Serves, slice_index, Some, Stage, start, subst, sym, Told}
use Rattle.record_text.proofs.Names.{Touch, touch_fields, touch_line, Unfinished, Wanted, wanted_with, with_touch, within, word_of, Bool, true, false, ℕ}
use Rattle.std.specs.Prelude.{◌||◌, ◌==◌}
use Rattle.std.proofs.lemmas.Fmt.{decimal_injective}
use Rattle.contact_ledger.specs.Lines.{fields_of}
use Rattle.contact_ledger.proofs.OneEntry.{one_entry}
use Rattle.record_text.specs.Records as records
use Rattle.record_text.proofs.RecordFields.{append_same, touch_back, feature_back, completed_back, noted_back, noted_number, noted_rest, noted_word, one_note}
use Rattle.record_text.specs.declared.notes.Note.TheVariants as note

-- ---- a line of a head says one thing

same_opening : {l m : List ℕ} {c d : ℕ} (part : Option (List ℕ)) (asked : List Wanted) → l ≡ m → c ≡ d
    → within part asked (record { label = l; count = c; touches = [] }) ≡ within part asked (record { label = m; count = d; touches = [] })
same_opening part asked p q = λ n. within part asked (record { label = p n; count = q n; touches = [] })

one_opening : (l m : List ℕ) (c d : ℕ) → IsName l → IsPointCount c → IsName m → IsPointCount d → feature_line l c ≡ feature_line m d
    → (l ≡ m) × (c ≡ d)
one_opening l m c d f g h k e =
    let fields : codes "FEATURE" ∷ l ∷ decimal c ∷ [] ≡ codes "FEATURE" ∷ m ∷ decimal d ∷ [] =
    sym (feature_back (feature_line l c) l c f g refl) ∙ feature_back (feature_line l c) m d h k e in
    let label : l ≡ m = cc in
    let number : decimal c ≡ decimal d = cc in
    (label, decimal_injective c d (omega (arith, g.1)) (omega (arith, k.1)) number)

abbrev zero_point : Point
zero_point = record { x = pos 0; y = pos 0; z = pos 0 }

-- the contact that a touch asks for, with this point
abbrev touched : Touch → Act
touched t = Act.Contact t.target t.dir t.tool t.frame zero_point

touched_fields : (t : Touch) → act_fields (touched t) ≡ codes "CONTACT" ∷ (touch_fields t ++ point_fields zero_point)
touched_fields t = ap (λ (r : List (List ℕ)). codes "CONTACT" ∷ (point_fields t.target ++ r))
    (sym (append_assoc (direction_fields t.dir) (t.tool ∷ frame_fields t.frame) (point_fields zero_point)))

touched_entry : (t : Touch) → IsAskedTouch t → IsEntry (1, touched t)
touched_entry t h = (
  (omega arith, omega arith),
  (h.target, h.dir, h.tool, h.frame, record { x = omega arith; y = omega arith; z = omega arith }),
)

abbrev touch_of : Touch → Act → Touch
touch_of other (Act.HomedIs homed) = other
touch_of other Act.Homed = other
touch_of other (Act.Moved target frame) = other
touch_of other (Act.Changed tool) = other
touch_of other (Act.Framed frame) = other
touch_of other (Act.Contact target dir tool frame point) = record { target = target; dir = dir; tool = tool; frame = frame }

one_touch : (t u : Touch) → IsAskedTouch t → IsAskedTouch u → touch_line t ≡ touch_line u → t ≡ u
one_touch t u h g e =
    let fields : codes "TOUCH" ∷ touch_fields t ≡ codes "TOUCH" ∷ touch_fields u =
    sym (touch_back (touch_line t) t h refl) ∙ touch_back (touch_line t) u g e in
    let same : touch_fields t ≡ touch_fields u = cc in
    let acts : act_fields (touched t) ≡ act_fields (touched u) = touched_fields t
    ∙ ap (λ (r : List (List ℕ)). codes "CONTACT" ∷ (r ++ point_fields zero_point)) same ∙ sym (touched_fields u) in
    let entries : (1, touched t) ≡ (1, touched u) = one_entry (1, touched t) (1, touched u) (touched_entry t h) (touched_entry u g)
    (ap (λ (r : List (List ℕ)). line_of (decimal 1 ∷ r)) acts) in
    ap (λ (x : ℕ × Act). touch_of t x.1) entries

-- ---- and so does the line of an entry

-- no act is read as a note
abbrev is_noted : List ℕ → Bool
is_noted word = let first = slice_index word 0 in
    (first == 66) || (first == 68) || (first == 76) || (first == 79) || (first == 80) || (first == 82) || (first == 83)

abbrev first_noted : List (List ℕ) → Bool
first_noted [] = false
first_noted (word ∷ fields) = is_noted word

word_noted : (note : Note) → is_noted (word_of note) ≡ true
word_noted note.Refused = refl
word_noted note.By = refl
word_noted note.Operator = refl
word_noted note.Program = refl
word_noted note.Setup = refl
word_noted note.Opened = refl
word_noted note.Dated = refl
word_noted note.Left = refl
word_noted note.Sealed = refl

act_noted : (a : Act) → first_noted (act_fields a) ≡ false
act_noted (Act.HomedIs homed) = refl
act_noted Act.Homed = refl
act_noted (Act.Moved target frame) = refl
act_noted (Act.Changed tool) = refl
act_noted (Act.Framed frame) = refl
act_noted (Act.Contact t d n f p) = refl

no_noted : (a : Act) (note : Note) (rest : List (List ℕ)) → act_fields a ≡ word_of note ∷ rest → ⊥
no_noted a note rest e =
    let both : false ≡ true = sym (act_noted a) ∙ ap (λ (fs : List (List ℕ)). first_noted fs) e ∙ word_noted note in
    absurd cc

no_completed : (a : Act) (rest : List (List ℕ)) → act_fields a ≡ codes "COMPLETED" ∷ rest → ⊥
no_completed (Act.HomedIs homed) rest e = let k : 777 ≡ 779 = ap (λ (fs : List (List ℕ)). kind fs) e in omega (arith, k)
no_completed Act.Homed rest e = let k : 775 ≡ 779 = ap (λ (fs : List (List ℕ)). kind fs) e in omega (arith, k)
no_completed (Act.Moved target frame) rest e = let k : 865 ≡ 779 = ap (λ (fs : List (List ℕ)). kind fs) e in omega (arith, k)
no_completed (Act.Changed tool) rest e = let k : 657 ≡ 779 = ap (λ (fs : List (List ℕ)). kind fs) e in omega (arith, k)
no_completed (Act.Framed frame) rest e = let k : 656 ≡ 779 = ap (λ (fs : List (List ℕ)). kind fs) e in omega (arith, k)
no_completed (Act.Contact t d n f p) rest e = let k : 787 ≡ 779 = ap (λ (fs : List (List ℕ)). kind fs) e in omega (arith, k)

told_noted : (n m : ℕ) (a : Act) (note : Note) (text : List ℕ) → IsEntry (n, a) → IsConnection m
    → act_line (n, a) ≡ noted_line m note text → ⊥
told_noted n m a note text h g e =
    let fields : decimal n ∷ act_fields a ≡ decimal m ∷ word_of note ∷ fields_of text =
    sym (entry_back (act_line (n, a)) n a h refl) ∙ noted_back (act_line (n, a)) text m note g e in
    let same : act_fields a ≡ word_of note ∷ fields_of text = cc in
    no_noted a note (fields_of text) same

told_completed : (n m : ℕ) (a : Act) (label : List ℕ) → IsEntry (n, a) → IsConnection m → IsName label
    → act_line (n, a) ≡ completed_line m label → ⊥
told_completed n m a label h g k e =
    let fields : decimal n ∷ act_fields a ≡ decimal m ∷ codes "COMPLETED" ∷ label ∷ [] =
    sym (entry_back (act_line (n, a)) n a h refl) ∙ completed_back (act_line (n, a)) label m g k e in
    let same : act_fields a ≡ codes "COMPLETED" ∷ label ∷ [] = cc in
    no_completed a (label ∷ []) same

noted_completed : (n m : ℕ) (note : Note) (text label : List ℕ) → IsConnection n → IsConnection m → IsName label
    → noted_line n note text ≡ completed_line m label → ⊥
noted_completed n m note text label h g k e =
    let fields : decimal n ∷ word_of note ∷ fields_of text ≡ decimal m ∷ codes "COMPLETED" ∷ label ∷ [] =
    sym (noted_back (noted_line n note text) text n note h refl) ∙ completed_back (noted_line n note text) label m g k e in
    let word : word_of note ≡ codes "COMPLETED" = cc in
    let both : true ≡ false = sym (word_noted note) ∙ ap (λ (w : List ℕ). is_noted w) word in
    absurd cc

one_noted : (n m : ℕ) (note other_note : Note) (text other : List ℕ) → IsConnection n → IsConnection m
    → noted_line n note text ≡ noted_line m other_note other → (n ≡ m) × (note ≡ other_note) × (text ≡ other)
one_noted n m note other_note text other h g e =
    let back = noted_back (noted_line n note text) text n note h refl in
    let number : decimal n ≡ decimal m =
    noted_number (noted_line n note text) other (decimal n) (word_of note ∷ fields_of text) m other_note back g e in
    let word : word_of note ≡ word_of other_note =
    noted_word (noted_line n note text) other (decimal n) (word_of note) (fields_of text) m other_note back g e in (
      decimal_injective n m (omega (arith, h.1)) (omega (arith, g.1)) number,
      one_note note other_note word,
      noted_rest (noted_line n note text) (decimal n) (word_of note) text other (fields_of text) m other_note back g e refl,
    )

one_completed : (n m : ℕ) (label other : List ℕ) → IsConnection n → IsConnection m → IsName label → IsName other
    → completed_line n label ≡ completed_line m other → (n ≡ m) × (label ≡ other)
one_completed n m label other h g k l e =
    let fields : decimal n ∷ codes "COMPLETED" ∷ label ∷ [] ≡ decimal m ∷ codes "COMPLETED" ∷ other ∷ [] =
    sym (completed_back (completed_line n label) label n h k refl) ∙ completed_back (completed_line n label) other m g l e in
    let number : decimal n ≡ decimal m = cc in
    let same : label ≡ other = cc in
    (decimal_injective n m (omega (arith, h.1)) (omega (arith, g.1)) number, same)

pub one_line : (e f : Entry) → IsWrittenEntry e → IsWrittenEntry f → entry_line e ≡ entry_line f → e ≡ f
one_line (Told n a) (Told m b) h g e = ap (λ (x : ℕ × Act). Told x.0 x.1) (one_entry (n, a) (m, b) h g e)
one_line (Told n a) (Noted m note text) h g e = absurd (told_noted n m a note text h g.0 e)
one_line (Told n a) (Completed m label) h g e = absurd (told_completed n m a label h g.0 g.1 e)
one_line (Noted n note text) (Told m b) h g e = absurd (told_noted m n b note text g h.0 (sym e))
one_line (Noted n note text) (Noted m other_note other) h g e =
    let same = one_noted n m note other_note text other h.0 g.0 e in
    λ k. Noted (same.0 k) (same.1 k) (same.2 k)
one_line (Noted n note text) (Completed m label) h g e = absurd (noted_completed n m note text label h.0 g.0 g.1 e)
one_line (Completed n label) (Told m b) h g e = absurd (told_completed m n b label g h.0 h.1 (sym e))
one_line (Completed n label) (Noted m note text) h g e = absurd (noted_completed m n note text label g.0 h.0 h.1 (sym e))
one_line (Completed n label) (Completed m other) h g e =
    let same = one_completed n m label other h.0 g.0 h.1 g.1 e in
    λ k. Completed (same.0 k) (same.1 k)

-- ---- what an entry leaves is one thing

next_point : {p q : Point} {ps qs : List Point} → p ≡ q → ps ≡ qs → p ∷ ps ≡ q ∷ qs
next_point a b = λ n. a n ∷ b n

pub one_points : (n : ℕ) (ts : List Touch) (ps qs : List Point) (ms : List MadeContact) → Serves n ts ps ms → Serves n ts qs ms → ps ≡ qs
one_points n [] [] [] [] h g = refl
one_points n [] [] (q ∷ qs) ms h g = absurd g
one_points n [] (p ∷ ps) qs ms h g = absurd h
one_points n [] [] [] (m ∷ ms) h g = absurd h
one_points n (t ∷ ts) [] qs ms h g = absurd h
one_points n (t ∷ ts) (p ∷ ps) qs [] h g = absurd h
one_points n (t ∷ ts) (p ∷ ps) [] (m ∷ ms) h g = absurd g
one_points n (t ∷ ts) (p ∷ ps) (q ∷ qs) (m ∷ ms) h g =
    next_point (sym h.0.point_is ∙ g.0.point_is) (one_points n ts ps qs ms h.1 g.1)

same_behind : (old : Kept) (n : ℕ) {w v : Wanted} {ps qs : List Point} → w ≡ v → ps ≡ qs
    → records.with_completed old n w ps ≡ records.with_completed old n v qs
same_behind old n a b = λ k. records.with_completed old n (a k) (b k)

one_completes : (asked : List Wanted) (old p q : Kept) (n : ℕ) (label : List ℕ) → Completes asked old n label p
    → Completes asked old n label q → p ≡ q
one_completes asked old p q n label h g =
    let some : Some h.wanted ≡ Some g.wanted = sym h.next ∙ g.next in
    let wanted : h.wanted ≡ g.wanted = cc in
    let ms = contacts old.told in
    let serves : Serves n g.wanted.touches h.points (drop (length ms - length g.wanted.touches) ms) =
    subst (λ (w : Wanted). Serves n w.touches h.points (drop (length ms - length w.touches) ms)) wanted h.run.serves in
    let points = one_points n g.wanted.touches h.points g.points (drop (length ms - length g.wanted.touches) ms) serves g.run.serves in
    h.more ∙ same_behind old n wanted points ∙ sym g.more

one_follows : (asked : List Wanted) (old p q : Kept) (e : Entry) → Follows asked old e p → Follows asked old e q → p ≡ q
one_follows asked old p q (Told n a) h g = h.2 ∙ sym g.2
one_follows asked old p q (Noted n note text) h g = h.2 ∙ sym g.2
one_follows asked old p q (Completed n label) h g = one_completes asked old p q n label h.1 g.1

pub written_follows : (asked : List Wanted) (old new : Kept) (entry : Entry) → Follows asked old entry new → IsWrittenEntry entry
written_follows asked old new (Told n act) h = h.0
written_follows asked old new (Noted n note text) h = h.0
written_follows asked old new (Completed n label) h = h.0

-- ---- a line leads to one stage

no_part_opening : (text label : List ℕ) (count : ℕ) → part_line text ≡ feature_line label count → ⊥
no_part_opening text label count e = let k : 80 ≡ 70 = ap (λ (t : List ℕ). slice_index t 0) e in omega (arith, k)

no_part_end : (text : List ℕ) → part_line text ≡ codes "END" → ⊥
no_part_end text e = let k : 80 ≡ 69 = ap (λ (t : List ℕ). slice_index t 0) e in omega (arith, k)

no_opening_end : (label : List ℕ) (count : ℕ) → feature_line label count ≡ codes "END" → ⊥
no_opening_end label count e = let k : 70 ≡ 69 = ap (λ (t : List ℕ). slice_index t 0) e in omega (arith, k)

one_head : (part : Option (List ℕ)) (asked : List Wanted) (l : List ℕ) (q r : Stage) → Next (head part asked) l q
    → Next (head part asked) l r → q ≡ r
one_head part asked l q r (inl a) (inl b) = a.next
    ∙ ap (λ (t : List ℕ). head (Some t) []) (append_same (codes "PART ") a.text b.text (sym a.line_is ∙ b.line_is)) ∙ sym b.next
one_head part asked l q r (inl a) (inr (inl b)) = absurd (no_part_opening a.text b.label b.count (sym a.line_is ∙ b.line_is))
one_head part asked l q r (inl a) (inr (inr b)) = absurd (no_part_end a.text (sym a.line_is ∙ b.line_is))
one_head part asked l q r (inr (inl a)) (inl b) = absurd (no_part_opening b.text a.label a.count (sym b.line_is ∙ a.line_is))
one_head part asked l q r (inr (inl a)) (inr (inl b)) =
    let same = one_opening a.label b.label a.count b.count a.named a.counted b.named b.counted (sym a.line_is ∙ b.line_is) in
    a.next ∙ same_opening part asked same.0 same.1 ∙ sym b.next
one_head part asked l q r (inr (inl a)) (inr (inr b)) = absurd (no_opening_end a.label a.count (sym a.line_is ∙ b.line_is))
one_head part asked l q r (inr (inr a)) (inl b) = absurd (no_part_end b.text (sym b.line_is ∙ a.line_is))
one_head part asked l q r (inr (inr a)) (inr (inl b)) = absurd (no_opening_end b.label b.count (sym b.line_is ∙ a.line_is))
one_head part asked l q r (inr (inr a)) (inr (inr b)) = a.next ∙ sym b.next

one_within : (part : Option (List ℕ)) (asked : List Wanted) (u : Unfinished) (l : List ℕ) (q r : Stage) → Next (within part asked u) l q
    → Next (within part asked u) l r → q ≡ r
one_within part asked u l q r (inl a) (inl b) = a.next
    ∙ ap (λ (t : Touch). within part asked (with_touch u t)) (one_touch a.touch b.touch a.is_touch b.is_touch (sym a.line_is ∙ b.line_is))
    ∙ sym b.next
one_within part asked u l q r (inl a) (inr b) = let m = a.more in let w = b.whole in absurd (omega (arith, m, w))
one_within part asked u l q r (inr a) (inl b) = let m = b.more in let w = a.whole in absurd (omega (arith, m, w))
one_within part asked u l q r (inr a) (inr b) = a.next
    ∙ ap (λ (t : Touch). head part (asked ++ wanted_with u t ∷ []))
    (one_touch a.touch b.touch a.is_touch b.is_touch (sym a.line_is ∙ b.line_is)) ∙ sym b.next

one_body : (part : Option (List ℕ)) (asked : List Wanted) (kept : Kept) (l : List ℕ) (q r : Stage) → AddsEntry part asked kept l q
    → AddsEntry part asked kept l r → q ≡ r
one_body part asked kept l q r a b =
    let e = a.follows.entry in
    let f = b.follows.entry in
    let same : e ≡ f = one_line e f (written_follows asked kept a.mid e a.follows.follows)
    (written_follows asked kept b.mid f b.follows.follows) (sym a.follows.line_is ∙ b.follows.line_is) in
    let moved = subst (λ (x : Entry). Follows asked kept x a.mid) same a.follows.follows in
    a.next ∙ ap (λ (k : Kept). body part asked k) (one_follows asked kept a.mid b.mid f moved b.follows.follows) ∙ sym b.next

pub next_one : (p q r : Stage) (l : List ℕ) → Next p l q → Next p l r → q ≡ r
next_one start q r l a b = a.2 ∙ sym b.2
next_one (head part asked) q r l a b = one_head part asked l q r a b
next_one (within part asked u) q r l a b = one_within part asked u l q r a b
next_one (body part asked kept) q r l a b = one_body part asked kept l q r a b

pub leads_one : (ls : List (List ℕ)) (p q r : Stage) → Leads p ls q → Leads p ls r → q ≡ r
leads_one [] p q r a b = a ∙ sym b
leads_one (l ∷ ls) p q r a b =
    let same = next_one p a.0 b.0 l a.1 b.1 in
    leads_one ls b.0 q r (subst (λ (s : Stage). Leads s ls q) same a.2) b.2
