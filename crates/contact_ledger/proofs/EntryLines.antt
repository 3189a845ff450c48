-- The lines of acts, and the fields after their words.
use Rattle.contact_ledger.proofs.Names.{[], ◌*◌, ◌++◌, ◌+◌, ◌∙◌, ◌∷◌, ◌≡◌, ◌≤◌, Act, act_fields, act_line, ap, append-nil, arith, codes, decimal}
use Rattle.contact_ledger.proofs.Names.{Direction, direction_fields, false, fields_behind, fields_of, Frame, frame_fields, IsEntry, IsFrame, IsOnWire}
use Rattle.contact_ledger.proofs.Names.{IsWrittenAct, length, List, Machine, None, Option, Part, Point, point_fields, refl, slice_index, Some, sym}
use Rattle.contact_ledger.proofs.Names.{true, ℕ}
use Rattle.contact_ledger.proofs.PlainFields.{ArePlain, plain_fields_append, decimal_plain, name_plain, point_plain, frame_plain, direction_plain}
use Rattle.contact_ledger.proofs.LineFields.{line_fields, made_of}

-- ---- a number for each word

abbrev pub kind : List (List ℕ) → ℕ
kind [] = 0
kind (word ∷ fields) = slice_index word 2 * 10 + length word

-- what follows fields of a frame or of a direction
pub frame_tail : (f g : Frame) (x y : List (List ℕ)) → frame_fields f ++ x ≡ frame_fields g ++ y → x ≡ y
frame_tail Machine Machine x y e = cc
frame_tail Machine (Part o) x y e =
    let word : codes "M" ≡ codes "P" = cc in
    let first : 77 ≡ 80 = ap (λ (t : List ℕ). slice_index t 0) word in
    absurd (omega (arith, first))
frame_tail (Part o) Machine x y e =
    let word : codes "P" ≡ codes "M" = cc in
    let first : 80 ≡ 77 = ap (λ (t : List ℕ). slice_index t 0) word in
    absurd (omega (arith, first))
frame_tail (Part o) (Part r) x y e = cc

pub direction_tail : (d e : Option Direction) (x y : List (List ℕ)) → direction_fields d ++ x ≡ direction_fields e ++ y → x ≡ y
direction_tail None None x y e = cc
direction_tail None (Some d) x y e =
    let word : codes "N" ≡ codes "D" = cc in
    let first : 78 ≡ 68 = ap (λ (t : List ℕ). slice_index t 0) word in
    absurd (omega (arith, first))
direction_tail (Some d) None x y e =
    let word : codes "D" ≡ codes "N" = cc in
    let first : 68 ≡ 78 = ap (λ (t : List ℕ). slice_index t 0) word in
    absurd (omega (arith, first))
direction_tail (Some d) (Some c) x y e = cc

-- ---- fields that are no act's after a word

abbrev NoFrame : List (List ℕ) → Type 0
NoFrame fields = (f : Frame) (more : List (List ℕ)) → IsFrame f → fields ≡ frame_fields f ++ more → ⊥

abbrev NoPoint : List (List ℕ) → Type 0
NoPoint fields = (p : Point) (more : List (List ℕ)) → IsOnWire p → fields ≡ point_fields p ++ more → ⊥

pub no_framed : (fields : List (List ℕ)) (a : Act) → NoFrame fields → IsWrittenAct a → codes "FRAMED" ∷ fields ≡ act_fields a → ⊥
no_framed fields (Act.HomedIs homed) none h e = let k : 656 ≡ 777 = ap (λ (fs : List (List ℕ)). kind fs) e in omega (arith, k)
no_framed fields Act.Homed none h e = let k : 656 ≡ 775 = ap (λ (fs : List (List ℕ)). kind fs) e in omega (arith, k)
no_framed fields (Act.Moved target frame) none h e = let k : 656 ≡ 865 = ap (λ (fs : List (List ℕ)). kind fs) e in omega (arith, k)
no_framed fields (Act.Changed tool) none h e = let k : 656 ≡ 657 = ap (λ (fs : List (List ℕ)). kind fs) e in omega (arith, k)
no_framed fields (Act.Framed frame) none h e =
    let same : fields ≡ frame_fields frame = cc in
    none frame [] h (same ∙ sym (append-nil (frame_fields frame)))
no_framed fields (Act.Contact target dir tool frame point) none h e =
    let k : 656 ≡ 787 = ap (λ (fs : List (List ℕ)). kind fs) e in omega (arith, k)

pub no_moved : (fields behind : List (List ℕ)) (p : Point) (a : Act) → fields ≡ point_fields p ++ behind → NoFrame behind → IsWrittenAct a
    → codes "MOVED" ∷ fields ≡ act_fields a → ⊥
no_moved fields behind p (Act.HomedIs homed) q none h e = let k : 865 ≡ 777 = ap (λ (fs : List (List ℕ)). kind fs) e in omega (arith, k)
no_moved fields behind p Act.Homed q none h e = let k : 865 ≡ 775 = ap (λ (fs : List (List ℕ)). kind fs) e in omega (arith, k)
no_moved fields behind p (Act.Moved target frame) q none h e =
    let all : fields ≡ point_fields target ++ frame_fields frame = cc in
    let both : point_fields p ++ behind ≡ point_fields target ++ frame_fields frame = sym q ∙ all in
    let same : behind ≡ frame_fields frame = cc in
    none frame [] h.1 (same ∙ sym (append-nil (frame_fields frame)))
no_moved fields behind p (Act.Changed tool) q none h e = let k : 865 ≡ 657 = ap (λ (fs : List (List ℕ)). kind fs) e in omega (arith, k)
no_moved fields behind p (Act.Framed frame) q none h e = let k : 865 ≡ 656 = ap (λ (fs : List (List ℕ)). kind fs) e in omega (arith, k)
no_moved fields behind p (Act.Contact target dir tool frame point) q none h e =
    let k : 865 ≡ 787 = ap (λ (fs : List (List ℕ)). kind fs) e in omega (arith, k)

pub no_contact : (fields r s t u : List (List ℕ)) (p : Point) (d : Option Direction) (tool : List ℕ) (f : Frame) (a : Act)
    → fields ≡ point_fields p ++ r → r ≡ direction_fields d ++ s → s ≡ tool ∷ t → t ≡ frame_fields f ++ u → NoPoint u → IsWrittenAct a
    → codes "CONTACT" ∷ fields ≡ act_fields a → ⊥
no_contact fields r s t u p d tool f (Act.HomedIs homed) i j k l none h e =
    let n : 787 ≡ 777 = ap (λ (fs : List (List ℕ)). kind fs) e in omega (arith, n)
no_contact fields r s t u p d tool f Act.Homed i j k l none h e =
    let n : 787 ≡ 775 = ap (λ (fs : List (List ℕ)). kind fs) e in omega (arith, n)
no_contact fields r s t u p d tool f (Act.Moved target frame) i j k l none h e =
    let n : 787 ≡ 865 = ap (λ (fs : List (List ℕ)). kind fs) e in omega (arith, n)
no_contact fields r s t u p d tool f (Act.Changed name) i j k l none h e =
    let n : 787 ≡ 657 = ap (λ (fs : List (List ℕ)). kind fs) e in omega (arith, n)
no_contact fields r s t u p d tool f (Act.Framed frame) i j k l none h e =
    let n : 787 ≡ 656 = ap (λ (fs : List (List ℕ)). kind fs) e in omega (arith, n)
no_contact fields r s t u p d tool f (Act.Contact target dir name frame point) i j k l none h e =
    let all : fields ≡ point_fields target ++ (direction_fields dir ++ (name ∷ (frame_fields frame ++ point_fields point))) = cc in
    let first : point_fields p ++ r ≡ point_fields target ++ (direction_fields dir ++ (name ∷ (frame_fields frame ++ point_fields point))) =
    sym i ∙ all in
    let second : r ≡ direction_fields dir ++ (name ∷ (frame_fields frame ++ point_fields point)) = cc in
    let third : s ≡ name ∷ (frame_fields frame ++ point_fields point) = direction_tail d dir s _ (sym j ∙ second) in
    let tools : tool ∷ t ≡ name ∷ (frame_fields frame ++ point_fields point) = sym k ∙ third in
    let fourth : t ≡ frame_fields frame ++ point_fields point = cc in
    let fifth : u ≡ point_fields point = frame_tail f frame u _ (sym l ∙ fourth) in
    none point [] h.4 fifth

-- ---- the fields of a line of an act

act_plain : (a : Act) → IsWrittenAct a → ArePlain (act_fields a)
act_plain (Act.HomedIs true) h = (record { plain = refl }, (record { plain = refl }, tt))
act_plain (Act.HomedIs false) h = (record { plain = refl }, (record { plain = refl }, tt))
act_plain Act.Homed h = (record { plain = refl }, tt)
act_plain (Act.Moved target frame) h = (
  record { plain = refl },
  plain_fields_append (point_fields target) (frame_fields frame) (point_plain target h.0) (frame_plain frame h.1),
)
act_plain (Act.Changed tool) h = (record { plain = refl }, (name_plain tool h, tt))
act_plain (Act.Framed frame) h = (record { plain = refl }, frame_plain frame h)
act_plain (Act.Contact target dir tool frame point) h = (
  record { plain = refl },
  plain_fields_append (point_fields target) (direction_fields dir ++ (tool ∷ (frame_fields frame ++ point_fields point)))
      (point_plain target h.0) (plain_fields_append (direction_fields dir) (tool ∷ (frame_fields frame ++ point_fields point))
      (direction_plain dir h.1) (
        name_plain tool h.2,
        plain_fields_append (frame_fields frame) (point_fields point) (frame_plain frame h.3) (point_plain point h.4),
      )),
)

pub entry_back : (line : List ℕ) (n : ℕ) (a : Act) → IsEntry (n, a) → line ≡ act_line (n, a) → fields_of line ≡ decimal n ∷ act_fields a
entry_back line n a h e = rw e (line_fields (decimal n) (act_fields a) (decimal_plain n (omega (arith, h.0.1)), act_plain a h.1))

-- a line whose first field is no such number, or whose other fields are no act's
pub no_number : (line word rest : List ℕ) (n : ℕ) (a : Act) → fields_of line ≡ word ∷ fields_behind rest
    → ((m : ℕ) → (1 ≤ m) × (m ≤ 4000000000) × (word ≡ decimal m) → ⊥) → IsEntry (n, a) → line ≡ act_line (n, a) → ⊥
no_number line word rest n a p none h e =
    let all : word ∷ fields_behind rest ≡ decimal n ∷ act_fields a = sym p ∙ entry_back line n a h e in
    let same : word ≡ decimal n = cc in
    none n (h.0.0, h.0.1, same)

pub no_act : (line word rest : List ℕ) (n : ℕ) (a : Act) → fields_of line ≡ word ∷ fields_behind rest
    → ((b : Act) → IsWrittenAct b × (fields_behind rest ≡ act_fields b) → ⊥) → IsEntry (n, a) → line ≡ act_line (n, a) → ⊥
no_act line word rest n a p none h e =
    let all : word ∷ fields_behind rest ≡ decimal n ∷ act_fields a = sym p ∙ entry_back line n a h e in
    let same : fields_behind rest ≡ act_fields a = cc in
    none a (h.1, same)

pub entry_found : (line word rest : List ℕ) (n : ℕ) (a : Act) → fields_of line ≡ word ∷ fields_behind rest
    → (1 ≤ n) × (n ≤ 4000000000) × (word ≡ decimal n) → IsWrittenAct a × (fields_behind rest ≡ act_fields a)
    → IsEntry (n, a) × (line ≡ act_line (n, a))
entry_found line word rest n a p q r = (((q.0, q.1), r.0), made_of line (decimal n ∷ act_fields a) (p ∙ rw (q.2, r.1) refl))

pub entry_plain : (e : ℕ × Act) → IsEntry e → ArePlain (decimal e.0 ∷ act_fields e.1)
entry_plain e h = (decimal_plain e.0 (omega (arith, h.0.1)), act_plain e.1 h.1)
