-- The fields of the lines of a record.
use Rattle.record_text.proofs.Names.{[], ◌++◌, ◌==◌, ◌∙◌, ◌∷◌, ◌≡◌, ◌≤◌, Act, act_line, ap, append-nil, ArePlain, arith, codes, Completed}
use Rattle.record_text.proofs.Names.{completed_line, Decides-eqb, decimal, decimal_plain, direction_fields, direction_plain, direction_tail, Entry}
use Rattle.record_text.proofs.Names.{entry_line, Err, feature_line, fields_behind, Finds, Frame, frame_fields, frame_plain, frame_tail, IfOk}
use Rattle.record_text.proofs.Names.{IsAskedTouch, IsConnection, IsEntry, IsFrame, IsName, IsPointCount, IsNoteText, is_plain, list_all, IsWrittenEntry, if◌then◌else◌, slice_index, line_fields, List}
use Rattle.record_text.proofs.Names.{made_of, name_plain, None, Ok, Option, part_behind, plain_fields_append, Point, point_fields, point_plain, refl}
use Rattle.record_text.proofs.Names.{Noted, noted_line, Note, Result, Some, sym, Told, Touch, touch_fields, touch_line, true, word_of, ℕ}
use Rattle.std.specs.Bool.{Decides}
use Rattle.std.specs.Prelude.{MatchOption}
use Rattle.fixed_um.specs.Shapes.{Direction}
use Rattle.contact_ledger.specs.Lines.{fields_of}
use Rattle.record_text.specs.declared.notes.Note.TheVariants.{Refused, By, Operator, Program, Setup, Opened, Dated, Left, Sealed}

-- ---- a touch

pub touch_plain : (t : Touch) → IsAskedTouch t → ArePlain (codes "TOUCH" ∷ touch_fields t)
touch_plain t h = (
  record { plain = refl },
  plain_fields_append (point_fields t.target) (direction_fields t.dir ++ (t.tool ∷ frame_fields t.frame)) (point_plain t.target h.target)
      (plain_fields_append (direction_fields t.dir) (t.tool ∷ frame_fields t.frame) (direction_plain t.dir h.dir)
      (name_plain t.tool h.tool, frame_plain t.frame h.frame)),
)

pub touch_back : (line : List ℕ) (t : Touch) → IsAskedTouch t → line ≡ touch_line t → fields_of line ≡ codes "TOUCH" ∷ touch_fields t
touch_back line t h e = rw e (line_fields (codes "TOUCH") (touch_fields t) (touch_plain t h))

pub touch_made : (line : List ℕ) (t : Touch) → fields_of line ≡ codes "TOUCH" ∷ touch_fields t → line ≡ touch_line t
touch_made line t e = made_of line (codes "TOUCH" ∷ touch_fields t) e

-- fields that begin as those of a touch end as they do
pub record TouchEnds (tool : List ℕ) (t : List (List ℕ)) (x : Touch) : Type 0 where
  pub tool_is : tool ≡ x.tool
  pub behind : t ≡ frame_fields x.frame

pub touch_ends : (fields r s t : List (List ℕ)) (p : Point) (d : Option Direction) (tool : List ℕ) (x : Touch)
    → fields ≡ point_fields p ++ r → r ≡ direction_fields d ++ s → s ≡ tool ∷ t → fields ≡ touch_fields x → TouchEnds tool t x
touch_ends fields r s t p d tool x i j k e =
    let both : point_fields p ++ r ≡ point_fields x.target ++ (direction_fields x.dir ++ (x.tool ∷ frame_fields x.frame)) = sym i ∙ e in
    let second : r ≡ direction_fields x.dir ++ (x.tool ∷ frame_fields x.frame) = cc in
    let third : s ≡ x.tool ∷ frame_fields x.frame = direction_tail d x.dir s _ (sym j ∙ second) in
    let tools : tool ∷ t ≡ x.tool ∷ frame_fields x.frame = sym k ∙ third in
    let name : tool ≡ x.tool = cc in
    let tail : t ≡ frame_fields x.frame = cc in
    record { tool_is = name; behind = tail }

pub no_frame : (t : List (List ℕ)) (tool : List ℕ) (x : Touch) → TouchEnds tool t x → IsFrame x.frame
    → ((f : Frame) (more : List (List ℕ)) → IsFrame f → t ≡ frame_fields f ++ more → ⊥) → ⊥
no_frame t tool x h g none = none x.frame [] g (h.behind ∙ sym (append-nil (frame_fields x.frame)))

pub no_more : (t more : List (List ℕ)) (tool next : List ℕ) (f : Frame) (x : Touch) → TouchEnds tool t x
    → t ≡ frame_fields f ++ (next ∷ more) → ⊥
no_more t more tool next f x h e =
    let tail : next ∷ more ≡ [] = frame_tail f x.frame (next ∷ more) [] (sym e ∙ h.behind ∙ sym (append-nil (frame_fields x.frame))) in
    absurd cc

pub touch_found : {E : Type 0} (line word : List ℕ) (fields : List (List ℕ)) (r : Result (Option Touch) E) → fields_of line ≡ word ∷ fields
    → word ≡ codes "TOUCH" → IfOk r (λ found. Finds found (λ t. IsAskedTouch t × (fields ≡ touch_fields t)))
    → IfOk r (λ found. Finds found (λ t. IsAskedTouch t × (line ≡ touch_line t)))
touch_found line word fields (Err e) p w h = tt
touch_found line word fields (Ok None) p w h = λ t g.
    let both : word ∷ fields ≡ codes "TOUCH" ∷ touch_fields t = sym p ∙ touch_back line t g.0 g.1 in
    let same : fields ≡ touch_fields t = cc in
    h t (g.0, same)
touch_found line word fields (Ok (Some t)) p w h = (h.0, touch_made line t (p ∙ rw (w, h.1) refl))

-- ---- a feature

pub feature_plain : (label : List ℕ) (count : ℕ) → IsName label → IsPointCount count
    → ArePlain (codes "FEATURE" ∷ label ∷ decimal count ∷ [])
feature_plain label count h g = (record { plain = refl }, (name_plain label h, (decimal_plain count (omega (arith, g.1)), tt)))

pub feature_back : (line label : List ℕ) (count : ℕ) → IsName label → IsPointCount count → line ≡ feature_line label count
    → fields_of line ≡ codes "FEATURE" ∷ label ∷ decimal count ∷ []
feature_back line label count h g e = rw e (line_fields (codes "FEATURE") (label ∷ decimal count ∷ []) (feature_plain label count h g))

pub feature_made : (line label : List ℕ) (count : ℕ) → fields_of line ≡ codes "FEATURE" ∷ label ∷ decimal count ∷ []
    → line ≡ feature_line label count
feature_made line label count e = made_of line (codes "FEATURE" ∷ label ∷ decimal count ∷ []) e

pub feature_found : (line word label number r s t name : List ℕ) (count : ℕ) → fields_of line ≡ word ∷ fields_behind r
    → word ≡ codes "FEATURE" → fields_behind r ≡ label ∷ fields_behind s → fields_behind s ≡ number ∷ fields_behind t
    → fields_behind t ≡ [] → (1 ≤ count) × (count ≤ 10000) × (number ≡ decimal count) → IsName name × (label ≡ name)
    → IsName name × IsPointCount count × (line ≡ feature_line name count)
feature_found line word label number r s t name count p w q u v m l = (
  l.0,
  (m.0, m.1),
  feature_made line name count (p ∙ rw (w, q, l.1, u, m.2, v) refl),
)

-- ---- entries

pub completed_back : (line label : List ℕ) (n : ℕ) → IsConnection n → IsName label → line ≡ completed_line n label
    → fields_of line ≡ decimal n ∷ codes "COMPLETED" ∷ label ∷ []
completed_back line label n h g e = rw e (line_fields (decimal n) (codes "COMPLETED" ∷ label ∷ [])
    (decimal_plain n (omega (arith, h.1)), (record { plain = refl }, (name_plain label g, tt))))

pub completed_made : (line label : List ℕ) (n : ℕ) → fields_of line ≡ decimal n ∷ codes "COMPLETED" ∷ label ∷ []
    → line ≡ completed_line n label
completed_made line label n e = made_of line (decimal n ∷ codes "COMPLETED" ∷ label ∷ []) e

pub word_plain : (note : Note) → list_all is_plain (word_of note) ≡ true
word_plain Refused = refl
word_plain By = refl
word_plain Operator = refl
word_plain Program = refl
word_plain Setup = refl
word_plain Opened = refl
word_plain Dated = refl
word_plain Left = refl
word_plain Sealed = refl

pub noted_back : (line text : List ℕ) (n : ℕ) (note : Note) → IsConnection n → line ≡ noted_line n note text
    → fields_of line ≡ decimal n ∷ word_of note ∷ fields_of text
unfolding fields_of
noted_back line text n note h e =
    let plain = decimal_plain n (omega (arith, h.1)) in
    rw e (part_behind 32 (decimal n) (word_of note ++ 32 ∷ text) (omega arith) plain.plain)
    ∙ ap (λ (r : List (List ℕ)). decimal n ∷ r) (part_behind 32 (word_of note) text (omega arith) (word_plain note))

-- the number and the word of a note
pub noted_number : (line text field : List ℕ) (fields : List (List ℕ)) (n : ℕ) (note : Note) → fields_of line ≡ field ∷ fields → IsConnection n
    → line ≡ noted_line n note text → field ≡ decimal n
noted_number line text field fields n note p h e =
    let both : field ∷ fields ≡ decimal n ∷ word_of note ∷ fields_of text = sym p ∙ noted_back line text n note h e in
    cc

pub noted_word : (line text field word : List ℕ) (fields : List (List ℕ)) (n : ℕ) (note : Note) → fields_of line ≡ field ∷ word ∷ fields
    → IsConnection n → line ≡ noted_line n note text → word ≡ word_of note
noted_word line text field word fields n note p h e =
    let both : field ∷ word ∷ fields ≡ decimal n ∷ word_of note ∷ fields_of text = sym p ∙ noted_back line text n note h e in
    cc

-- a note is known by its word
abbrev note_named : List ℕ → Note
note_named word = let at = λ (k : ℕ). slice_index word k in
    if at 0 == 66 then By else if at 0 == 68 then Dated else if at 0 == 76 then Left else if at 0 == 80 then Program
    else if at 0 == 82 then Refused else if at 0 == 79 then (if at 3 == 82 then Operator else Opened)
    else if at 2 == 65 then Sealed else Setup

named : (note : Note) → note_named (word_of note) ≡ note
named Refused = refl
named By = refl
named Operator = refl
named Program = refl
named Setup = refl
named Opened = refl
named Dated = refl
named Left = refl
named Sealed = refl

pub one_note : (m n : Note) → word_of m ≡ word_of n → m ≡ n
one_note m n e = sym (named m) ∙ ap (λ (w : List ℕ). note_named w) e ∙ named n

pub completed_found : (line number word label r s t name : List ℕ) (n : ℕ) → fields_of line ≡ number ∷ fields_behind r
    → fields_behind r ≡ word ∷ fields_behind s → word ≡ codes "COMPLETED" → fields_behind s ≡ label ∷ fields_behind t
    → fields_behind t ≡ [] → (1 ≤ n) × (n ≤ 4000000000) × (number ≡ decimal n) → IsName name × (label ≡ name)
    → IsConnection n × IsName name × (line ≡ completed_line n name)
completed_found line number word label r s t name n p q w u v m l = (
  (m.0, m.1),
  l.0,
  completed_made line name n (p ∙ rw (m.2, q, w, u, l.1, v) refl),
)

pub append_same : (a x y : List ℕ) → a ++ x ≡ a ++ y → x ≡ y
append_same [] x y e = e
append_same (b ∷ bs) x y e =
    let rest : bs ++ x ≡ bs ++ y = cc in
    append_same bs x y rest

-- what follows the number and the word of a note
pub noted_rest : (line field word rest text : List ℕ) (fields : List (List ℕ)) (n : ℕ) (note : Note) → fields_of line ≡ field ∷ word ∷ fields
    → IsConnection n → line ≡ noted_line n note text → line ≡ field ++ (32 ∷ (word ++ 32 ∷ rest)) → rest ≡ text
noted_rest line field word rest text fields n note p h e q =
    let number = noted_number line text field (word ∷ fields) n note p h e in
    let named = noted_word line text field word fields n note p h e in
    let both : decimal n ++ (32 ∷ (word_of note ++ 32 ∷ rest)) ≡ decimal n ++ (32 ∷ (word_of note ++ 32 ∷ text)) =
    ap (λ (f : List ℕ). f ++ (32 ∷ (word_of note ++ 32 ∷ rest))) (sym number)
    ∙ ap (λ (w : List ℕ). field ++ (32 ∷ (w ++ 32 ∷ rest))) (sym named) ∙ sym q ∙ e in
    append_same (32 ∷ []) rest text (append_same (word_of note) (32 ∷ rest) (32 ∷ text)
    (append_same (32 ∷ []) (word_of note ++ 32 ∷ rest) (word_of note ++ 32 ∷ text)
    (append_same (decimal n) (32 ∷ (word_of note ++ 32 ∷ rest)) (32 ∷ (word_of note ++ 32 ∷ text)) both)))

-- a line that ends after its number is of no note
pub no_word : (line text field : List ℕ) (n : ℕ) (note : Note) → fields_of line ≡ field ∷ [] → IsConnection n → line ≡ noted_line n note text → ⊥
no_word line text field n note p h e =
    let both : field ∷ [] ≡ decimal n ∷ word_of note ∷ fields_of text = sym p ∙ noted_back line text n note h e in
    absurd cc

pub noted_parts : (line field word text : List ℕ) (fields : List (List ℕ)) (n : ℕ) (note : Note) → fields_of line ≡ field ∷ word ∷ fields
    → IsConnection n → line ≡ noted_line n note text → line ≡ field ++ (32 ∷ (word ++ 32 ∷ text))
noted_parts line field word text fields n note p h e =
    let number = noted_number line text field (word ∷ fields) n note p h e in
    let named = noted_word line text field word fields n note p h e in
    e ∙ ap (λ (f : List ℕ). f ++ (32 ∷ (word_of note ++ 32 ∷ text))) (sym number)
    ∙ ap (λ (w : List ℕ). field ++ (32 ∷ (w ++ 32 ∷ text))) (sym named)

-- what follows a number and a word, each with the space after it, is found or not
pub tail_found : {V : Type 0} (now : V → List ℕ) (line number first second word third space : List ℕ) → space ≡ codes " " → line ≡ number ++ first → first ≡ 32 ∷ second
    → second ≡ word ++ third → (r : Option V) → MatchOption r ((rest : List ℕ) → third ≡ space ++ rest → ⊥) (λ rest. third ≡ space ++ now rest)
    → MatchOption r ((rest : List ℕ) → line ≡ number ++ (32 ∷ (word ++ 32 ∷ rest)) → ⊥)
    (λ rest. line ≡ number ++ (32 ∷ (word ++ 32 ∷ now rest)))
tail_found now line number first second word third space s p q u None h = λ rest e.
    let one : first ≡ 32 ∷ (word ++ 32 ∷ rest) = append_same number first (32 ∷ (word ++ 32 ∷ rest)) (sym p ∙ e) in
    let two : second ≡ word ++ 32 ∷ rest = append_same (32 ∷ []) second (word ++ 32 ∷ rest) (sym q ∙ one) in
    let three : third ≡ 32 ∷ rest = append_same word third (32 ∷ rest) (sym u ∙ two) in
    h rest (three ∙ ap (λ (x : List ℕ). x ++ rest) (sym s))
tail_found now line number first second word third space s p q u (Some rest) h =
    p ∙ ap (λ (x : List ℕ). number ++ x) (q ∙ ap (λ (x : List ℕ). 32 ∷ x) (u ∙ ap (λ (x : List ℕ). word ++ x)
    (h ∙ ap (λ (x : List ℕ). x ++ now rest) s)))

-- a line that is of no entry
pub no_entry : (line : List ℕ) (a : Entry) → ((e : ℕ × Act) → IsEntry e × (line ≡ act_line e) → ⊥)
    → ((r : ℕ × Note × List ℕ) → IsConnection r.0 × IsNoteText r.1 r.2 × (line ≡ noted_line r.0 r.1 r.2) → ⊥)
    → ((c : ℕ × List ℕ) → IsConnection c.0 × IsName c.1 × (line ≡ completed_line c.0 c.1) → ⊥)
    → IsWrittenEntry a × (line ≡ entry_line a) → ⊥
no_entry line (Told n act) told noted completed h = told (n, act) (h.0, h.1)
no_entry line (Noted n note text) told noted completed h = noted (n, note, text) (h.0.0, h.0.1, h.1)
no_entry line (Completed n label) told noted completed h = completed (n, label) (h.0.0, h.0.1, h.1)

pub byte_test : (a b : ℕ) → Decides (a == b) (a ≡ b)
byte_test a b = Decides-eqb a b

pub ruleset fields = (touch_back, touch_made, feature_back, feature_made, completed_back, completed_made, noted_number)
