-- An act has its line alone.
use Rattle.contact_ledger.proofs.Names.{[], ◌++◌, ◌∙◌, ◌∷◌, ◌≡◌, Act, act_fields, act_line, ap, arith, Bool, codes, decimal, decimal_injective}
use Rattle.contact_ledger.proofs.Names.{Direction, direction_fields, direction_reads_back, false, Frame, frame_fields, homed_field, IsEntry, IsFrame}
use Rattle.contact_ledger.proofs.Names.{IsTouch, IsWrittenAct, List, Machine, None, Option, Part, Point, point_fields, refl, slice_index, Some, sym}
use Rattle.contact_ledger.proofs.Names.{true, written_component, ℕ}
use Rattle.contact_ledger.proofs.EntryLines.{kind, frame_tail, direction_tail, entry_back}
use Rattle.contact_ledger.proofs.FeatureRuns.{one_place, one_frame}
use Rattle.contact_ledger.proofs.Leaves.{direction_read}

one_homed : (a b : Bool) → homed_field a ≡ homed_field b → a ≡ b
one_homed true true e = refl
one_homed false false e = refl
one_homed true false e = let n : 49 ≡ 48 = ap (λ (t : List ℕ). slice_index t 0) e in absurd (omega (arith, n))
one_homed false true e = let n : 48 ≡ 49 = ap (λ (t : List ℕ). slice_index t 0) e in absurd (omega (arith, n))

frame_head : (f g : Frame) (x y : List (List ℕ)) → IsFrame f → IsFrame g → frame_fields f ++ x ≡ frame_fields g ++ y → f ≡ g
frame_head Machine Machine x y p q e = refl
frame_head Machine (Part o) x y p q e =
    let word : codes "M" ≡ codes "P" = cc in
    let n : 77 ≡ 80 = ap (λ (t : List ℕ). slice_index t 0) word in
    absurd (omega (arith, n))
frame_head (Part o) Machine x y p q e =
    let word : codes "P" ≡ codes "M" = cc in
    let n : 80 ≡ 77 = ap (λ (t : List ℕ). slice_index t 0) word in
    absurd (omega (arith, n))
frame_head (Part o) (Part r) x y p q e =
    let same : point_fields o ≡ point_fields r = cc in
    ap (λ (z : Point). Part z) (one_place o r p q same)

one_touch : (d e : Option Direction) (x y : List (List ℕ)) → IsTouch d → IsTouch e → direction_fields d ++ x ≡ direction_fields e ++ y
    → d ≡ e
one_touch None None x y p q h = refl
one_touch None (Some e) x y p q h =
    let word : codes "N" ≡ codes "D" = cc in
    let n : 78 ≡ 68 = ap (λ (t : List ℕ). slice_index t 0) word in
    absurd (omega (arith, n))
one_touch (Some d) None x y p q h =
    let word : codes "D" ≡ codes "N" = cc in
    let n : 68 ≡ 78 = ap (λ (t : List ℕ). slice_index t 0) word in
    absurd (omega (arith, n))
one_touch (Some d) (Some e) x y p q h =
    let i : written_component d.i ≡ written_component e.i = cc in
    let j : written_component d.j ≡ written_component e.j = cc in
    let k : written_component d.k ≡ written_component e.k = cc in
    ap (λ (z : Direction). Some z) (direction_read (written_component d.i) (written_component d.j) (written_component d.k) d e
    (direction_reads_back d p) q i j k)

same_moved : (t u : Point) (f g : Frame) → t ≡ u → f ≡ g → Act.Moved t f ≡ Act.Moved u g
same_moved t u f g p q = λ n. Act.Moved (p n) (q n)

same_contact : {t u : Point} {d e : Option Direction} {m n : List ℕ} {f g : Frame} {p q : Point} → t ≡ u → d ≡ e → m ≡ n → f ≡ g → p ≡ q
    → Act.Contact t d m f p ≡ Act.Contact u e n g q
same_contact a b c x y = λ n. Act.Contact (a n) (b n) (c n) (x n) (y n)

one_act : (a b : Act) → IsWrittenAct a → IsWrittenAct b → act_fields a ≡ act_fields b → a ≡ b
one_act (Act.HomedIs ah) (Act.HomedIs bh) g h e =
    let all : homed_field ah ∷ [] ≡ homed_field bh ∷ [] = cc in
    let same : homed_field ah ≡ homed_field bh = cc in
    ap (λ (x : Bool). Act.HomedIs x) (one_homed ah bh same)
one_act (Act.HomedIs ah) Act.Homed g h e =
    let n : 777 ≡ 775 = ap (λ (fs : List (List ℕ)). kind fs) e in absurd (omega (arith, n))
one_act (Act.HomedIs ah) (Act.Moved bx bf) g h e =
    let n : 777 ≡ 865 = ap (λ (fs : List (List ℕ)). kind fs) e in absurd (omega (arith, n))
one_act (Act.HomedIs ah) (Act.Changed bn) g h e =
    let n : 777 ≡ 657 = ap (λ (fs : List (List ℕ)). kind fs) e in absurd (omega (arith, n))
one_act (Act.HomedIs ah) (Act.Framed bf) g h e =
    let n : 777 ≡ 656 = ap (λ (fs : List (List ℕ)). kind fs) e in absurd (omega (arith, n))
one_act (Act.HomedIs ah) (Act.Contact bx bd bn bf bq) g h e =
    let n : 777 ≡ 787 = ap (λ (fs : List (List ℕ)). kind fs) e in absurd (omega (arith, n))
one_act Act.Homed (Act.HomedIs bh) g h e =
    let n : 775 ≡ 777 = ap (λ (fs : List (List ℕ)). kind fs) e in absurd (omega (arith, n))
one_act Act.Homed Act.Homed g h e = refl
one_act Act.Homed (Act.Moved bx bf) g h e =
    let n : 775 ≡ 865 = ap (λ (fs : List (List ℕ)). kind fs) e in absurd (omega (arith, n))
one_act Act.Homed (Act.Changed bn) g h e =
    let n : 775 ≡ 657 = ap (λ (fs : List (List ℕ)). kind fs) e in absurd (omega (arith, n))
one_act Act.Homed (Act.Framed bf) g h e =
    let n : 775 ≡ 656 = ap (λ (fs : List (List ℕ)). kind fs) e in absurd (omega (arith, n))
one_act Act.Homed (Act.Contact bx bd bn bf bq) g h e =
    let n : 775 ≡ 787 = ap (λ (fs : List (List ℕ)). kind fs) e in absurd (omega (arith, n))
one_act (Act.Moved ax af) (Act.HomedIs bh) g h e =
    let n : 865 ≡ 777 = ap (λ (fs : List (List ℕ)). kind fs) e in absurd (omega (arith, n))
one_act (Act.Moved ax af) Act.Homed g h e =
    let n : 865 ≡ 775 = ap (λ (fs : List (List ℕ)). kind fs) e in absurd (omega (arith, n))
one_act (Act.Moved ax af) (Act.Moved bx bf) g h e =
    let all : point_fields ax ++ frame_fields af ≡ point_fields bx ++ frame_fields bf = cc in
    let point : point_fields ax ≡ point_fields bx = cc in
    let frame : frame_fields af ≡ frame_fields bf = cc in
    same_moved ax bx af bf (one_place ax bx g.0 h.0 point) (one_frame af bf g.1 h.1 frame)
one_act (Act.Moved ax af) (Act.Changed bn) g h e =
    let n : 865 ≡ 657 = ap (λ (fs : List (List ℕ)). kind fs) e in absurd (omega (arith, n))
one_act (Act.Moved ax af) (Act.Framed bf) g h e =
    let n : 865 ≡ 656 = ap (λ (fs : List (List ℕ)). kind fs) e in absurd (omega (arith, n))
one_act (Act.Moved ax af) (Act.Contact bx bd bn bf bq) g h e =
    let n : 865 ≡ 787 = ap (λ (fs : List (List ℕ)). kind fs) e in absurd (omega (arith, n))
one_act (Act.Changed an) (Act.HomedIs bh) g h e =
    let n : 657 ≡ 777 = ap (λ (fs : List (List ℕ)). kind fs) e in absurd (omega (arith, n))
one_act (Act.Changed an) Act.Homed g h e =
    let n : 657 ≡ 775 = ap (λ (fs : List (List ℕ)). kind fs) e in absurd (omega (arith, n))
one_act (Act.Changed an) (Act.Moved bx bf) g h e =
    let n : 657 ≡ 865 = ap (λ (fs : List (List ℕ)). kind fs) e in absurd (omega (arith, n))
one_act (Act.Changed an) (Act.Changed bn) g h e =
    let same : an ≡ bn = cc in
    ap (λ (x : List ℕ). Act.Changed x) same
one_act (Act.Changed an) (Act.Framed bf) g h e =
    let n : 657 ≡ 656 = ap (λ (fs : List (List ℕ)). kind fs) e in absurd (omega (arith, n))
one_act (Act.Changed an) (Act.Contact bx bd bn bf bq) g h e =
    let n : 657 ≡ 787 = ap (λ (fs : List (List ℕ)). kind fs) e in absurd (omega (arith, n))
one_act (Act.Framed af) (Act.HomedIs bh) g h e =
    let n : 656 ≡ 777 = ap (λ (fs : List (List ℕ)). kind fs) e in absurd (omega (arith, n))
one_act (Act.Framed af) Act.Homed g h e =
    let n : 656 ≡ 775 = ap (λ (fs : List (List ℕ)). kind fs) e in absurd (omega (arith, n))
one_act (Act.Framed af) (Act.Moved bx bf) g h e =
    let n : 656 ≡ 865 = ap (λ (fs : List (List ℕ)). kind fs) e in absurd (omega (arith, n))
one_act (Act.Framed af) (Act.Changed bn) g h e =
    let n : 656 ≡ 657 = ap (λ (fs : List (List ℕ)). kind fs) e in absurd (omega (arith, n))
one_act (Act.Framed af) (Act.Framed bf) g h e =
    let same : frame_fields af ≡ frame_fields bf = cc in
    ap (λ (x : Frame). Act.Framed x) (one_frame af bf g h same)
one_act (Act.Framed af) (Act.Contact bx bd bn bf bq) g h e =
    let n : 656 ≡ 787 = ap (λ (fs : List (List ℕ)). kind fs) e in absurd (omega (arith, n))
one_act (Act.Contact ax ad an af aq) (Act.HomedIs bh) g h e =
    let n : 787 ≡ 777 = ap (λ (fs : List (List ℕ)). kind fs) e in absurd (omega (arith, n))
one_act (Act.Contact ax ad an af aq) Act.Homed g h e =
    let n : 787 ≡ 775 = ap (λ (fs : List (List ℕ)). kind fs) e in absurd (omega (arith, n))
one_act (Act.Contact ax ad an af aq) (Act.Moved bx bf) g h e =
    let n : 787 ≡ 865 = ap (λ (fs : List (List ℕ)). kind fs) e in absurd (omega (arith, n))
one_act (Act.Contact ax ad an af aq) (Act.Changed bn) g h e =
    let n : 787 ≡ 657 = ap (λ (fs : List (List ℕ)). kind fs) e in absurd (omega (arith, n))
one_act (Act.Contact ax ad an af aq) (Act.Framed bf) g h e =
    let n : 787 ≡ 656 = ap (λ (fs : List (List ℕ)). kind fs) e in absurd (omega (arith, n))
one_act (Act.Contact ax ad an af aq) (Act.Contact bx bd bn bf bq) g h e =
    let all : point_fields ax ++ (direction_fields ad ++ (an ∷ (frame_fields af ++ point_fields aq)))
    ≡ point_fields bx ++ (direction_fields bd ++ (bn ∷ (frame_fields bf ++ point_fields bq))) = cc in
    let first : point_fields ax ≡ point_fields bx = cc in
    let second : direction_fields ad ++ (an ∷ (frame_fields af ++ point_fields aq))
    ≡ direction_fields bd ++ (bn ∷ (frame_fields bf ++ point_fields bq)) = cc in
    let third : an ∷ (frame_fields af ++ point_fields aq) ≡ bn ∷ (frame_fields bf ++ point_fields bq) = direction_tail ad bd _ _ second in
    let tool : an ≡ bn = cc in
    let fourth : frame_fields af ++ point_fields aq ≡ frame_fields bf ++ point_fields bq = cc in
    let last : point_fields aq ≡ point_fields bq = frame_tail af bf _ _ fourth in
    same_contact (one_place ax bx g.0 h.0 first) (one_touch ad bd _ _ g.1 h.1 second) tool (frame_head af bf _ _ g.3 h.3 fourth)
    (one_place aq bq g.4 h.4 last)

same_entry : (e f : ℕ × Act) → e.0 ≡ f.0 → e.1 ≡ f.1 → e ≡ f
same_entry e f p q = λ n. (p n, q n)

pub one_entry : (e f : ℕ × Act) → IsEntry e → IsEntry f → act_line e ≡ act_line f → e ≡ f
one_entry e f g h same =
    let all : decimal e.0 ∷ act_fields e.1 ≡ decimal f.0 ∷ act_fields f.1 =
    sym (entry_back (act_line e) e.0 e.1 g refl) ∙ entry_back (act_line e) f.0 f.1 h same in
    let number : decimal e.0 ≡ decimal f.0 = cc in
    let fields : act_fields e.1 ≡ act_fields f.1 = cc in
    same_entry e f (decimal_injective e.0 f.0 (omega (arith, g.0.1)) (omega (arith, h.0.1)) number) (one_act e.1 f.1 g.1 h.1 fields)
