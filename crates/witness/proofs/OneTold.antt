-- What was reported has its line alone.
use Rattle.witness.proofs.ToldNames.{[], ◌*◌, ◌++◌, ◌+◌, ◌==◌, ◌∙◌, ◌∷◌, ◌≡◌, ◌≢◌, Act, act_fields, act_line, ap, append-nil, arith, Client, codes}
use Rattle.witness.proofs.ToldNames.{decimal, Direction, direction_fields, direction_tail, fields_of, Frame, frame_fields, HasNamedTool, if◌then◌else◌}
use Rattle.witness.proofs.ToldNames.{IsFrame, IsInDoubt, IsOtherTold, IsPlaced, IsToldEntry, IsToolName, IsTouch, kind, known_frame, length, List}
use Rattle.witness.proofs.ToldNames.{Machine, NoData, None, NotInTurn, Option, OtherData, OutOfOrder, Point, point_fields, refl, Reported, Rule}
use Rattle.witness.proofs.ToldNames.{rule_name, SecondData, Server, Side, side_field, slice_index, Some, subst, sym, Tag, TagInUse, told_line}
use Rattle.witness.proofs.ToldNames.{told_parts, tool_field, TooMany, unknown_field, UnknownTag, written_component, written_tag, ℕ}
use Rattle.std.proofs.lemmas.Fmt.{decimal_injective}
use Rattle.fixed_um.specs.declared.frames.Frame.TheVariants.{Part}
use Rattle.fixed_um.proofs.WrittenLemmas.{direction_reads_back}
use Rattle.dme_line.proofs.TagLemmas.{one_tag}
use Rattle.contact_ledger.proofs.EntryLines.{entry_back}
use Rattle.contact_ledger.proofs.FeatureRuns.{one_place}
use Rattle.contact_ledger.proofs.Leaves.{direction_read}
use Rattle.contact_ledger.proofs.OneEntry.{one_entry}
use Rattle.witness.proofs.OtherLines.{one_line, known_tail, doubt_name, other_back, View, acted, reported, view}

-- ---- fields that are known by what they are of

-- a frame is not written like one that is not known
no_frame : (f : Frame) (x y : List (List ℕ)) → frame_fields f ++ x ≡ unknown_field ∷ y → ⊥
no_frame Machine x y e =
    let word : codes "M" ≡ codes "?" = cc in
    let n : 77 ≡ 63 = ap (λ (t : List ℕ). slice_index t 0) word in
    omega (arith, n)
no_frame (Part o) x y e =
    let word : codes "P" ≡ codes "?" = cc in
    let n : 80 ≡ 63 = ap (λ (t : List ℕ). slice_index t 0) word in
    omega (arith, n)

frame_head : (f g : Frame) (x y : List (List ℕ)) → IsFrame f → IsFrame g → frame_fields f ++ x ≡ frame_fields g ++ y → f ≡ g
frame_head Machine Machine x y p q e = refl
frame_head Machine (Part o) x y p q e =
    let word : codes "M" ≡ codes "P" = cc in
    let n : 77 ≡ 80 = ap (λ (t : List ℕ). slice_index t 0) word in
    absurd (omega (arith, n))
frame_head (Part o) Machine x y p q e =
    let word : codes "P" ≡ codes "M" = cc in
    let n : 80 ≡ 77 = ap (λ (t : List ℕ). slice_index t 0) word in
    absurd (omega (arith, n))
frame_head (Part o) (Part r) x y p q e =
    let same : point_fields o ≡ point_fields r = cc in
    ap (λ (z : Point). Part z) (one_place o r p q same)

known_head : (f g : Option Frame) (x y : List (List ℕ)) → IsPlaced f → IsPlaced g → known_frame f ++ x ≡ known_frame g ++ y → f ≡ g
known_head None None x y p q e = refl
known_head None (Some g) x y p q e = absurd (no_frame g y x (sym e))
known_head (Some f) None x y p q e = absurd (no_frame f x y e)
known_head (Some f) (Some g) x y p q e = ap (λ (z : Frame). Some z) (frame_head f g x y p q e)

one_touch : (d e : Option Direction) (x y : List (List ℕ)) → IsTouch d → IsTouch e → direction_fields d ++ x ≡ direction_fields e ++ y
    → d ≡ e
one_touch None None x y p q h = refl
one_touch None (Some e) x y p q h =
    let word : codes "N" ≡ codes "D" = cc in
    let n : 78 ≡ 68 = ap (λ (t : List ℕ). slice_index t 0) word in
    absurd (omega (arith, n))
one_touch (Some d) None x y p q h =
    let word : codes "D" ≡ codes "N" = cc in
    let n : 68 ≡ 78 = ap (λ (t : List ℕ). slice_index t 0) word in
    absurd (omega (arith, n))
one_touch (Some d) (Some e) x y p q h =
    let i : written_component d.i ≡ written_component e.i = cc in
    let j : written_component d.j ≡ written_component e.j = cc in
    let k : written_component d.k ≡ written_component e.k = cc in
    ap (λ (z : Direction). Some z) (direction_read (written_component d.i) (written_component d.j) (written_component d.k) d e
    (direction_reads_back d p) q i j k)

one_tool : (m n : Option (List ℕ)) → IsToolName m → IsToolName n → tool_field m ≡ tool_field n → m ≡ n
one_tool None None g h e = refl
one_tool None (Some n) g h e = absurd (h (sym e))
one_tool (Some m) None g h e = absurd (g e)
one_tool (Some m) (Some n) g h e = ap (λ (z : List ℕ). Some z) e

one_side : (r s : Side) → side_field r ≡ side_field s → r ≡ s
one_side Client Client e = refl
one_side Client Server e = let n : 62 ≡ 60 = ap (λ (t : List ℕ). slice_index t 0) e in absurd (omega (arith, n))
one_side Server Client e = let n : 60 ≡ 62 = ap (λ (t : List ℕ). slice_index t 0) e in absurd (omega (arith, n))
one_side Server Server e = refl

same_other : {r s : Side} {k l : List ℕ} → r ≡ s → k ≡ l → Reported.Other r k ≡ Reported.Other s l
same_other p q = λ n. Reported.Other (p n) (q n)

same_broken : {r s : Rule} {k l : Tag} → r ≡ s → k ≡ l → Reported.Broken r k ≡ Reported.Broken s l
same_broken p q = λ n. Reported.Broken (p n) (q n)

same_touched : {t u : Point} {d e : Option Direction} {m n : Option (List ℕ)} {f g : Option Frame} {p q : Point} → t ≡ u → d ≡ e → m ≡ n
    → f ≡ g → p ≡ q → Reported.Touched t d m f p ≡ Reported.Touched u e n g q
same_touched a b c x y = λ n. Reported.Touched (a n) (b n) (c n) (x n) (y n)

one_touched : (t u : Point) (d e : Option Direction) (m n : Option (List ℕ)) (f g : Option Frame) (p q : Point)
    → IsOtherTold (Reported.Touched t d m f p) → IsOtherTold (Reported.Touched u e n g q)
    → told_parts (Reported.Touched t d m f p) ≡ told_parts (Reported.Touched u e n g q) → Reported.Touched t d m f p ≡ Reported.Touched u e n g q
one_touched t u d e m n f g p q a b same =
    let all : point_fields t ++ (direction_fields d ++ (tool_field m ∷ (known_frame f ++ point_fields p)))
    ≡ point_fields u ++ (direction_fields e ++ (tool_field n ∷ (known_frame g ++ point_fields q))) = cc in
    let first : point_fields t ≡ point_fields u = cc in
    let second : direction_fields d ++ (tool_field m ∷ (known_frame f ++ point_fields p))
    ≡ direction_fields e ++ (tool_field n ∷ (known_frame g ++ point_fields q)) = cc in
    let third : tool_field m ∷ (known_frame f ++ point_fields p) ≡ tool_field n ∷ (known_frame g ++ point_fields q) =
    direction_tail d e _ _ second in
    let tool : tool_field m ≡ tool_field n = cc in
    let fourth : known_frame f ++ point_fields p ≡ known_frame g ++ point_fields q = cc in
    let last : point_fields p ≡ point_fields q = known_tail f g _ _ fourth in
    same_touched (one_place t u a.0 b.0 first) (one_touch d e _ _ a.1 b.1 second)
    (one_tool m n (doubt_name m f a.5) (doubt_name n g b.5) tool) (known_head f g _ _ a.3 b.3 fourth) (one_place p q a.4 b.4 last)

contact_known : (m : List ℕ) (n : Option (List ℕ)) (f : Frame) (g : Option Frame) (x y : List (List ℕ)) → m ≢ unknown_field → IsInDoubt n g
    → m ≡ tool_field n → frame_fields f ++ x ≡ known_frame g ++ y → ⊥
contact_known m None f g x y named h e same = named e
contact_known m (Some n) f None x y named h e same = no_frame f x y same
contact_known m (Some n) f (Some g) x y named h e same = h

contact_apart : (t u : Point) (d e : Option Direction) (m : List ℕ) (n : Option (List ℕ)) (f : Frame) (g : Option Frame) (p q : Point)
    → m ≢ unknown_field → IsOtherTold (Reported.Touched u e n g q)
    → act_fields (Act.Contact t d m f p) ≡ told_parts (Reported.Touched u e n g q) → ⊥
contact_apart t u d e m n f g p q named b same =
    let all : point_fields t ++ (direction_fields d ++ (m ∷ (frame_fields f ++ point_fields p)))
    ≡ point_fields u ++ (direction_fields e ++ (tool_field n ∷ (known_frame g ++ point_fields q))) = cc in
    let second : direction_fields d ++ (m ∷ (frame_fields f ++ point_fields p))
    ≡ direction_fields e ++ (tool_field n ∷ (known_frame g ++ point_fields q)) = cc in
    let third : m ∷ (frame_fields f ++ point_fields p) ≡ tool_field n ∷ (known_frame g ++ point_fields q) =
    direction_tail d e _ _ second in
    let tool : m ≡ tool_field n = cc in
    let fourth : frame_fields f ++ point_fields p ≡ known_frame g ++ point_fields q = cc in
    contact_known m n f g _ _ named b.5 tool fourth

-- ---- what was reported

-- an act and another report have different fields
apart : (a : Act) (t : Reported) → HasNamedTool a → IsOtherTold t → act_fields a ≡ told_parts t → ⊥
apart (Act.HomedIs ah) (Reported.Did b) g h e = h
apart (Act.HomedIs ah) (Reported.MovedSomewhere t2) g h e =
    let n : 777 ≡ 865 = ap (λ (fs : List (List ℕ)). kind fs) e in omega (arith, n)
apart (Act.HomedIs ah) Reported.FramedSomehow g h e =
    let n : 777 ≡ 656 = ap (λ (fs : List (List ℕ)). kind fs) e in omega (arith, n)
apart (Act.HomedIs ah) (Reported.Touched t2 bd bn bf p2) g h e =
    let n : 777 ≡ 787 = ap (λ (fs : List (List ℕ)). kind fs) e in omega (arith, n)
apart (Act.HomedIs ah) (Reported.Other bs bl) g h e =
    let n : 777 ≡ 725 = ap (λ (fs : List (List ℕ)). kind fs) e in omega (arith, n)
apart (Act.HomedIs ah) (Reported.Unasked bl) g h e =
    let n : 777 ≡ 657 = ap (λ (fs : List (List ℕ)). kind fs) e in omega (arith, n)
apart (Act.HomedIs ah) (Reported.Broken br bg) g h e =
    let n : 777 ≡ 796 = ap (λ (fs : List (List ℕ)). kind fs) e in omega (arith, n)
apart (Act.HomedIs ah) Reported.Opened g h e =
    let n : 777 ≡ 696 = ap (λ (fs : List (List ℕ)). kind fs) e in omega (arith, n)
apart (Act.HomedIs ah) Reported.Left g h e =
    let n : 777 ≡ 704 = ap (λ (fs : List (List ℕ)). kind fs) e in omega (arith, n)
apart Act.Homed (Reported.Did b) g h e = h
apart Act.Homed (Reported.MovedSomewhere t2) g h e =
    let n : 775 ≡ 865 = ap (λ (fs : List (List ℕ)). kind fs) e in omega (arith, n)
apart Act.Homed Reported.FramedSomehow g h e =
    let n : 775 ≡ 656 = ap (λ (fs : List (List ℕ)). kind fs) e in omega (arith, n)
apart Act.Homed (Reported.Touched t2 bd bn bf p2) g h e =
    let n : 775 ≡ 787 = ap (λ (fs : List (List ℕ)). kind fs) e in omega (arith, n)
apart Act.Homed (Reported.Other bs bl) g h e =
    let n : 775 ≡ 725 = ap (λ (fs : List (List ℕ)). kind fs) e in omega (arith, n)
apart Act.Homed (Reported.Unasked bl) g h e =
    let n : 775 ≡ 657 = ap (λ (fs : List (List ℕ)). kind fs) e in omega (arith, n)
apart Act.Homed (Reported.Broken br bg) g h e =
    let n : 775 ≡ 796 = ap (λ (fs : List (List ℕ)). kind fs) e in omega (arith, n)
apart Act.Homed Reported.Opened g h e =
    let n : 775 ≡ 696 = ap (λ (fs : List (List ℕ)). kind fs) e in omega (arith, n)
apart Act.Homed Reported.Left g h e =
    let n : 775 ≡ 704 = ap (λ (fs : List (List ℕ)). kind fs) e in omega (arith, n)
apart (Act.Moved t1 af) (Reported.Did b) g h e = h
apart (Act.Moved t1 af) (Reported.MovedSomewhere t2) g h e =
    let all : point_fields t1 ++ frame_fields af ≡ point_fields t2 ++ unknown_field ∷ [] = cc in
    let frame : frame_fields af ≡ unknown_field ∷ [] = cc in
    no_frame af [] [] (append-nil (frame_fields af) ∙ frame)
apart (Act.Moved t1 af) Reported.FramedSomehow g h e =
    let n : 865 ≡ 656 = ap (λ (fs : List (List ℕ)). kind fs) e in omega (arith, n)
apart (Act.Moved t1 af) (Reported.Touched t2 bd bn bf p2) g h e =
    let n : 865 ≡ 787 = ap (λ (fs : List (List ℕ)). kind fs) e in omega (arith, n)
apart (Act.Moved t1 af) (Reported.Other bs bl) g h e =
    let n : 865 ≡ 725 = ap (λ (fs : List (List ℕ)). kind fs) e in omega (arith, n)
apart (Act.Moved t1 af) (Reported.Unasked bl) g h e =
    let n : 865 ≡ 657 = ap (λ (fs : List (List ℕ)). kind fs) e in omega (arith, n)
apart (Act.Moved t1 af) (Reported.Broken br bg) g h e =
    let n : 865 ≡ 796 = ap (λ (fs : List (List ℕ)). kind fs) e in omega (arith, n)
apart (Act.Moved t1 af) Reported.Opened g h e =
    let n : 865 ≡ 696 = ap (λ (fs : List (List ℕ)). kind fs) e in omega (arith, n)
apart (Act.Moved t1 af) Reported.Left g h e =
    let n : 865 ≡ 704 = ap (λ (fs : List (List ℕ)). kind fs) e in omega (arith, n)
apart (Act.Changed an) (Reported.Did b) g h e = h
apart (Act.Changed an) (Reported.MovedSomewhere t2) g h e =
    let n : 657 ≡ 865 = ap (λ (fs : List (List ℕ)). kind fs) e in omega (arith, n)
apart (Act.Changed an) Reported.FramedSomehow g h e =
    let n : 657 ≡ 656 = ap (λ (fs : List (List ℕ)). kind fs) e in omega (arith, n)
apart (Act.Changed an) (Reported.Touched t2 bd bn bf p2) g h e =
    let n : 657 ≡ 787 = ap (λ (fs : List (List ℕ)). kind fs) e in omega (arith, n)
apart (Act.Changed an) (Reported.Other bs bl) g h e =
    let n : 657 ≡ 725 = ap (λ (fs : List (List ℕ)). kind fs) e in omega (arith, n)
apart (Act.Changed an) (Reported.Unasked bl) g h e =
    let word : codes "CHANGED" ≡ codes "UNASKED" = cc in
    let n : 67 ≡ 85 = ap (λ (t : List ℕ). slice_index t 0) word in
    omega (arith, n)
apart (Act.Changed an) (Reported.Broken br bg) g h e =
    let n : 657 ≡ 796 = ap (λ (fs : List (List ℕ)). kind fs) e in omega (arith, n)
apart (Act.Changed an) Reported.Opened g h e =
    let n : 657 ≡ 696 = ap (λ (fs : List (List ℕ)). kind fs) e in omega (arith, n)
apart (Act.Changed an) Reported.Left g h e =
    let n : 657 ≡ 704 = ap (λ (fs : List (List ℕ)). kind fs) e in omega (arith, n)
apart (Act.Framed af) (Reported.Did b) g h e = h
apart (Act.Framed af) (Reported.MovedSomewhere t2) g h e =
    let n : 656 ≡ 865 = ap (λ (fs : List (List ℕ)). kind fs) e in omega (arith, n)
apart (Act.Framed af) Reported.FramedSomehow g h e =
    let frame : frame_fields af ≡ unknown_field ∷ [] = cc in
    no_frame af [] [] (append-nil (frame_fields af) ∙ frame)
apart (Act.Framed af) (Reported.Touched t2 bd bn bf p2) g h e =
    let n : 656 ≡ 787 = ap (λ (fs : List (List ℕ)). kind fs) e in omega (arith, n)
apart (Act.Framed af) (Reported.Other bs bl) g h e =
    let n : 656 ≡ 725 = ap (λ (fs : List (List ℕ)). kind fs) e in omega (arith, n)
apart (Act.Framed af) (Reported.Unasked bl) g h e =
    let n : 656 ≡ 657 = ap (λ (fs : List (List ℕ)). kind fs) e in omega (arith, n)
apart (Act.Framed af) (Reported.Broken br bg) g h e =
    let n : 656 ≡ 796 = ap (λ (fs : List (List ℕ)). kind fs) e in omega (arith, n)
apart (Act.Framed af) Reported.Opened g h e =
    let n : 656 ≡ 696 = ap (λ (fs : List (List ℕ)). kind fs) e in omega (arith, n)
apart (Act.Framed af) Reported.Left g h e =
    let n : 656 ≡ 704 = ap (λ (fs : List (List ℕ)). kind fs) e in omega (arith, n)
apart (Act.Contact t1 ad an af p1) (Reported.Did b) g h e = h
apart (Act.Contact t1 ad an af p1) (Reported.MovedSomewhere t2) g h e =
    let n : 787 ≡ 865 = ap (λ (fs : List (List ℕ)). kind fs) e in omega (arith, n)
apart (Act.Contact t1 ad an af p1) Reported.FramedSomehow g h e =
    let n : 787 ≡ 656 = ap (λ (fs : List (List ℕ)). kind fs) e in omega (arith, n)
apart (Act.Contact t1 ad an af p1) (Reported.Touched t2 bd bn bf p2) g h e = contact_apart t1 t2 ad bd an bn af bf p1 p2 g h e
apart (Act.Contact t1 ad an af p1) (Reported.Other bs bl) g h e =
    let n : 787 ≡ 725 = ap (λ (fs : List (List ℕ)). kind fs) e in omega (arith, n)
apart (Act.Contact t1 ad an af p1) (Reported.Unasked bl) g h e =
    let n : 787 ≡ 657 = ap (λ (fs : List (List ℕ)). kind fs) e in omega (arith, n)
apart (Act.Contact t1 ad an af p1) (Reported.Broken br bg) g h e =
    let n : 787 ≡ 796 = ap (λ (fs : List (List ℕ)). kind fs) e in omega (arith, n)
apart (Act.Contact t1 ad an af p1) Reported.Opened g h e =
    let n : 787 ≡ 696 = ap (λ (fs : List (List ℕ)). kind fs) e in omega (arith, n)
apart (Act.Contact t1 ad an af p1) Reported.Left g h e =
    let n : 787 ≡ 704 = ap (λ (fs : List (List ℕ)). kind fs) e in omega (arith, n)

-- a number for each name of a rule
abbrev rule_number : List ℕ → ℕ
rule_number name = slice_index name 0 * 100 + length name

-- and the rule of that number
abbrev rule_at : ℕ → Rule
rule_at n =
    if n == 8510 then UnknownTag else if n == 7910 then OutOfOrder else if n == 7806 then NoData else if n == 8310 then SecondData
    else if n == 7909 then OtherData else if n == 8408 then TagInUse else if n == 8407 then TooMany else NotInTurn

rule_back : (r : Rule) → rule_at (rule_number (rule_name r)) ≡ r
rule_back UnknownTag = refl
rule_back OutOfOrder = refl
rule_back NoData = refl
rule_back SecondData = refl
rule_back OtherData = refl
rule_back TagInUse = refl
rule_back NotInTurn = refl
rule_back TooMany = refl

one_rule : (r s : Rule) → rule_name r ≡ rule_name s → r ≡ s
one_rule r s e = sym (rule_back r) ∙ (ap (λ (name : List ℕ). rule_at (rule_number name)) e ∙ rule_back s)

-- what was reported other than acts is known by its fields
one_parts : (a b : Reported) → IsOtherTold a → IsOtherTold b → told_parts a ≡ told_parts b → a ≡ b
one_parts (Reported.Did a) b g h e = absurd g
one_parts (Reported.MovedSomewhere t1) (Reported.Did b) g h e = absurd h
one_parts (Reported.MovedSomewhere t1) (Reported.MovedSomewhere t2) g h e =
    let all : point_fields t1 ++ unknown_field ∷ [] ≡ point_fields t2 ++ unknown_field ∷ [] = cc in
    let same : point_fields t1 ≡ point_fields t2 = cc in
    ap (λ (p : Point). Reported.MovedSomewhere p) (one_place t1 t2 g h same)
one_parts (Reported.MovedSomewhere t1) Reported.FramedSomehow g h e =
    let n : 865 ≡ 656 = ap (λ (fs : List (List ℕ)). kind fs) e in absurd (omega (arith, n))
one_parts (Reported.MovedSomewhere t1) (Reported.Touched t2 bd bn bf p2) g h e =
    let n : 865 ≡ 787 = ap (λ (fs : List (List ℕ)). kind fs) e in absurd (omega (arith, n))
one_parts (Reported.MovedSomewhere t1) (Reported.Other bs bl) g h e =
    let n : 865 ≡ 725 = ap (λ (fs : List (List ℕ)). kind fs) e in absurd (omega (arith, n))
one_parts (Reported.MovedSomewhere t1) (Reported.Unasked bl) g h e =
    let n : 865 ≡ 657 = ap (λ (fs : List (List ℕ)). kind fs) e in absurd (omega (arith, n))
one_parts (Reported.MovedSomewhere t1) (Reported.Broken br bg) g h e =
    let n : 865 ≡ 796 = ap (λ (fs : List (List ℕ)). kind fs) e in absurd (omega (arith, n))
one_parts (Reported.MovedSomewhere t1) Reported.Opened g h e =
    let n : 865 ≡ 696 = ap (λ (fs : List (List ℕ)). kind fs) e in absurd (omega (arith, n))
one_parts (Reported.MovedSomewhere t1) Reported.Left g h e =
    let n : 865 ≡ 704 = ap (λ (fs : List (List ℕ)). kind fs) e in absurd (omega (arith, n))
one_parts Reported.FramedSomehow (Reported.Did b) g h e = absurd h
one_parts Reported.FramedSomehow (Reported.MovedSomewhere t2) g h e =
    let n : 656 ≡ 865 = ap (λ (fs : List (List ℕ)). kind fs) e in absurd (omega (arith, n))
one_parts Reported.FramedSomehow Reported.FramedSomehow g h e = refl
one_parts Reported.FramedSomehow (Reported.Touched t2 bd bn bf p2) g h e =
    let n : 656 ≡ 787 = ap (λ (fs : List (List ℕ)). kind fs) e in absurd (omega (arith, n))
one_parts Reported.FramedSomehow (Reported.Other bs bl) g h e =
    let n : 656 ≡ 725 = ap (λ (fs : List (List ℕ)). kind fs) e in absurd (omega (arith, n))
one_parts Reported.FramedSomehow (Reported.Unasked bl) g h e =
    let n : 656 ≡ 657 = ap (λ (fs : List (List ℕ)). kind fs) e in absurd (omega (arith, n))
one_parts Reported.FramedSomehow (Reported.Broken br bg) g h e =
    let n : 656 ≡ 796 = ap (λ (fs : List (List ℕ)). kind fs) e in absurd (omega (arith, n))
one_parts Reported.FramedSomehow Reported.Opened g h e =
    let n : 656 ≡ 696 = ap (λ (fs : List (List ℕ)). kind fs) e in absurd (omega (arith, n))
one_parts Reported.FramedSomehow Reported.Left g h e =
    let n : 656 ≡ 704 = ap (λ (fs : List (List ℕ)). kind fs) e in absurd (omega (arith, n))
one_parts (Reported.Touched t1 ad an af p1) (Reported.Did b) g h e = absurd h
one_parts (Reported.Touched t1 ad an af p1) (Reported.MovedSomewhere t2) g h e =
    let n : 787 ≡ 865 = ap (λ (fs : List (List ℕ)). kind fs) e in absurd (omega (arith, n))
one_parts (Reported.Touched t1 ad an af p1) Reported.FramedSomehow g h e =
    let n : 787 ≡ 656 = ap (λ (fs : List (List ℕ)). kind fs) e in absurd (omega (arith, n))
one_parts (Reported.Touched t1 ad an af p1) (Reported.Touched t2 bd bn bf p2) g h e = one_touched t1 t2 ad bd an bn af bf p1 p2 g h e
one_parts (Reported.Touched t1 ad an af p1) (Reported.Other bs bl) g h e =
    let n : 787 ≡ 725 = ap (λ (fs : List (List ℕ)). kind fs) e in absurd (omega (arith, n))
one_parts (Reported.Touched t1 ad an af p1) (Reported.Unasked bl) g h e =
    let n : 787 ≡ 657 = ap (λ (fs : List (List ℕ)). kind fs) e in absurd (omega (arith, n))
one_parts (Reported.Touched t1 ad an af p1) (Reported.Broken br bg) g h e =
    let n : 787 ≡ 796 = ap (λ (fs : List (List ℕ)). kind fs) e in absurd (omega (arith, n))
one_parts (Reported.Touched t1 ad an af p1) Reported.Opened g h e =
    let n : 787 ≡ 696 = ap (λ (fs : List (List ℕ)). kind fs) e in absurd (omega (arith, n))
one_parts (Reported.Touched t1 ad an af p1) Reported.Left g h e =
    let n : 787 ≡ 704 = ap (λ (fs : List (List ℕ)). kind fs) e in absurd (omega (arith, n))
one_parts (Reported.Other aside al) (Reported.Did b) g h e = absurd h
one_parts (Reported.Other aside al) (Reported.MovedSomewhere t2) g h e =
    let n : 725 ≡ 865 = ap (λ (fs : List (List ℕ)). kind fs) e in absurd (omega (arith, n))
one_parts (Reported.Other aside al) Reported.FramedSomehow g h e =
    let n : 725 ≡ 656 = ap (λ (fs : List (List ℕ)). kind fs) e in absurd (omega (arith, n))
one_parts (Reported.Other aside al) (Reported.Touched t2 bd bn bf p2) g h e =
    let n : 725 ≡ 787 = ap (λ (fs : List (List ℕ)). kind fs) e in absurd (omega (arith, n))
one_parts (Reported.Other aside al) (Reported.Other bs bl) g h e =
    let side : side_field aside ≡ side_field bs = cc in
    let line : fields_of al ≡ fields_of bl = cc in
    same_other (one_side aside bs side) (one_line al bl line)
one_parts (Reported.Other aside al) (Reported.Unasked bl) g h e =
    let n : 725 ≡ 657 = ap (λ (fs : List (List ℕ)). kind fs) e in absurd (omega (arith, n))
one_parts (Reported.Other aside al) (Reported.Broken br bg) g h e =
    let n : 725 ≡ 796 = ap (λ (fs : List (List ℕ)). kind fs) e in absurd (omega (arith, n))
one_parts (Reported.Other aside al) Reported.Opened g h e =
    let n : 725 ≡ 696 = ap (λ (fs : List (List ℕ)). kind fs) e in absurd (omega (arith, n))
one_parts (Reported.Other aside al) Reported.Left g h e =
    let n : 725 ≡ 704 = ap (λ (fs : List (List ℕ)). kind fs) e in absurd (omega (arith, n))
one_parts (Reported.Unasked al) (Reported.Did b) g h e = absurd h
one_parts (Reported.Unasked al) (Reported.MovedSomewhere t2) g h e =
    let n : 657 ≡ 865 = ap (λ (fs : List (List ℕ)). kind fs) e in absurd (omega (arith, n))
one_parts (Reported.Unasked al) Reported.FramedSomehow g h e =
    let n : 657 ≡ 656 = ap (λ (fs : List (List ℕ)). kind fs) e in absurd (omega (arith, n))
one_parts (Reported.Unasked al) (Reported.Touched t2 bd bn bf p2) g h e =
    let n : 657 ≡ 787 = ap (λ (fs : List (List ℕ)). kind fs) e in absurd (omega (arith, n))
one_parts (Reported.Unasked al) (Reported.Other bs bl) g h e =
    let n : 657 ≡ 725 = ap (λ (fs : List (List ℕ)). kind fs) e in absurd (omega (arith, n))
one_parts (Reported.Unasked al) (Reported.Unasked bl) g h e =
    let line : fields_of al ≡ fields_of bl = cc in
    ap (λ (l : List ℕ). Reported.Unasked l) (one_line al bl line)
one_parts (Reported.Unasked al) (Reported.Broken br bg) g h e =
    let n : 657 ≡ 796 = ap (λ (fs : List (List ℕ)). kind fs) e in absurd (omega (arith, n))
one_parts (Reported.Unasked al) Reported.Opened g h e =
    let n : 657 ≡ 696 = ap (λ (fs : List (List ℕ)). kind fs) e in absurd (omega (arith, n))
one_parts (Reported.Unasked al) Reported.Left g h e =
    let n : 657 ≡ 704 = ap (λ (fs : List (List ℕ)). kind fs) e in absurd (omega (arith, n))
one_parts (Reported.Broken ar ag) (Reported.Did b) g h e = absurd h
one_parts (Reported.Broken ar ag) (Reported.MovedSomewhere t2) g h e =
    let n : 796 ≡ 865 = ap (λ (fs : List (List ℕ)). kind fs) e in absurd (omega (arith, n))
one_parts (Reported.Broken ar ag) Reported.FramedSomehow g h e =
    let n : 796 ≡ 656 = ap (λ (fs : List (List ℕ)). kind fs) e in absurd (omega (arith, n))
one_parts (Reported.Broken ar ag) (Reported.Touched t2 bd bn bf p2) g h e =
    let n : 796 ≡ 787 = ap (λ (fs : List (List ℕ)). kind fs) e in absurd (omega (arith, n))
one_parts (Reported.Broken ar ag) (Reported.Other bs bl) g h e =
    let n : 796 ≡ 725 = ap (λ (fs : List (List ℕ)). kind fs) e in absurd (omega (arith, n))
one_parts (Reported.Broken ar ag) (Reported.Unasked bl) g h e =
    let n : 796 ≡ 657 = ap (λ (fs : List (List ℕ)). kind fs) e in absurd (omega (arith, n))
one_parts (Reported.Broken ar ag) (Reported.Broken br bg) g h e =
    let rule : rule_name ar ≡ rule_name br = cc in
    let tag : written_tag ag ≡ written_tag bg = cc in
    same_broken (one_rule ar br rule)
    (one_tag ag bg [] [] g h (append-nil (written_tag ag) ∙ tag ∙ sym (append-nil (written_tag bg)))).tag
one_parts (Reported.Broken ar ag) Reported.Opened g h e =
    let n : 796 ≡ 696 = ap (λ (fs : List (List ℕ)). kind fs) e in absurd (omega (arith, n))
one_parts (Reported.Broken ar ag) Reported.Left g h e =
    let n : 796 ≡ 704 = ap (λ (fs : List (List ℕ)). kind fs) e in absurd (omega (arith, n))
one_parts Reported.Opened (Reported.Did b) g h e = absurd h
one_parts Reported.Opened (Reported.MovedSomewhere t2) g h e =
    let n : 696 ≡ 865 = ap (λ (fs : List (List ℕ)). kind fs) e in absurd (omega (arith, n))
one_parts Reported.Opened Reported.FramedSomehow g h e =
    let n : 696 ≡ 656 = ap (λ (fs : List (List ℕ)). kind fs) e in absurd (omega (arith, n))
one_parts Reported.Opened (Reported.Touched t2 bd bn bf p2) g h e =
    let n : 696 ≡ 787 = ap (λ (fs : List (List ℕ)). kind fs) e in absurd (omega (arith, n))
one_parts Reported.Opened (Reported.Other bs bl) g h e =
    let n : 696 ≡ 725 = ap (λ (fs : List (List ℕ)). kind fs) e in absurd (omega (arith, n))
one_parts Reported.Opened (Reported.Unasked bl) g h e =
    let n : 696 ≡ 657 = ap (λ (fs : List (List ℕ)). kind fs) e in absurd (omega (arith, n))
one_parts Reported.Opened (Reported.Broken br bg) g h e =
    let n : 696 ≡ 796 = ap (λ (fs : List (List ℕ)). kind fs) e in absurd (omega (arith, n))
one_parts Reported.Opened Reported.Opened g h e = refl
one_parts Reported.Opened Reported.Left g h e =
    let n : 696 ≡ 704 = ap (λ (fs : List (List ℕ)). kind fs) e in absurd (omega (arith, n))
one_parts Reported.Left (Reported.Did b) g h e = absurd h
one_parts Reported.Left (Reported.MovedSomewhere t2) g h e =
    let n : 704 ≡ 865 = ap (λ (fs : List (List ℕ)). kind fs) e in absurd (omega (arith, n))
one_parts Reported.Left Reported.FramedSomehow g h e =
    let n : 704 ≡ 656 = ap (λ (fs : List (List ℕ)). kind fs) e in absurd (omega (arith, n))
one_parts Reported.Left (Reported.Touched t2 bd bn bf p2) g h e =
    let n : 704 ≡ 787 = ap (λ (fs : List (List ℕ)). kind fs) e in absurd (omega (arith, n))
one_parts Reported.Left (Reported.Other bs bl) g h e =
    let n : 704 ≡ 725 = ap (λ (fs : List (List ℕ)). kind fs) e in absurd (omega (arith, n))
one_parts Reported.Left (Reported.Unasked bl) g h e =
    let n : 704 ≡ 657 = ap (λ (fs : List (List ℕ)). kind fs) e in absurd (omega (arith, n))
one_parts Reported.Left (Reported.Broken br bg) g h e =
    let n : 704 ≡ 796 = ap (λ (fs : List (List ℕ)). kind fs) e in absurd (omega (arith, n))
one_parts Reported.Left Reported.Opened g h e =
    let n : 704 ≡ 696 = ap (λ (fs : List (List ℕ)). kind fs) e in absurd (omega (arith, n))
one_parts Reported.Left Reported.Left g h e = refl

abbrev SameEntry : ℕ → ℕ → Reported → Reported → Type 0
SameEntry m n t u = ◌≡◌ {A = ℕ × Reported} (m, t) (n, u)

same_entry : (e f : ℕ × Reported) → e.0 ≡ f.0 → e.1 ≡ f.1 → e ≡ f
same_entry e f p q = λ n. (p n, q n)

one_act : (m n : ℕ) (t u : Reported) (a b : Act) → IsToldEntry (m, t) → IsToldEntry (n, u) → told_line (m, t) ≡ told_line (n, u)
    → t ≡ Reported.Did a → u ≡ Reported.Did b → SameEntry m n t u
one_act m n t u a b g h same p q =
    let as_a = subst (λ (x : Reported). IsToldEntry (m, x)) p g in
    let as_b = subst (λ (x : Reported). IsToldEntry (n, x)) q h in
    let lines : act_line (m, a) ≡ act_line (n, b) = ap (λ (x : Reported). told_line (m, x)) (sym p) ∙ same ∙ ap (λ (x : Reported). told_line (n, x)) q in
    let both = one_entry (m, a) (n, b) as_a.0 as_b.0 lines in
    same_entry (m, t) (n, u) (ap (λ (x : ℕ × Act). x.0) both) (p ∙ ap (λ (x : ℕ × Act). Reported.Did x.1) both ∙ sym q)

not_one : (m n : ℕ) (t u : Reported) (a : Act) → IsToldEntry (m, t) → IsToldEntry (n, u) → told_line (m, t) ≡ told_line (n, u)
    → t ≡ Reported.Did a → IsOtherTold u → ⊥
not_one m n t u a g h same p other =
    let as_a = subst (λ (x : Reported). IsToldEntry (m, x)) p g in
    let line : act_line (m, a) ≡ told_line (n, u) = ap (λ (x : Reported). told_line (m, x)) (sym p) ∙ same in
    let fields : decimal m ∷ act_fields a ≡ decimal n ∷ told_parts u =
    sym (entry_back (act_line (m, a)) m a as_a.0 refl) ∙ ap (λ (l : List ℕ). fields_of l) line ∙ other_back n u h.0.0 other in
    let parts : act_fields a ≡ told_parts u = cc in
    apart a u as_a.1 other parts

one_reported : (m n : ℕ) (t u : Reported) → IsToldEntry (m, t) → IsToldEntry (n, u) → told_line (m, t) ≡ told_line (n, u) → IsOtherTold t
    → IsOtherTold u → SameEntry m n t u
one_reported m n t u g h same p q =
    let fields : decimal m ∷ told_parts t ≡ decimal n ∷ told_parts u =
    sym (other_back m t g.0.0 p) ∙ ap (λ (l : List ℕ). fields_of l) same ∙ other_back n u h.0.0 q in
    let number : decimal m ≡ decimal n = cc in
    let parts : told_parts t ≡ told_parts u = cc in
    same_entry (m, t) (n, u) (decimal_injective m n (omega (arith, g.0.0.1)) (omega (arith, h.0.0.1)) number) (one_parts t u p q parts)

one_viewed : (m n : ℕ) (t u : Reported) → IsToldEntry (m, t) → IsToldEntry (n, u) → told_line (m, t) ≡ told_line (n, u) → View t → View u
    → SameEntry m n t u
one_viewed m n t u g h same (acted a p) (acted b q) = one_act m n t u a b g h same p q
one_viewed m n t u g h same (acted a p) (reported q) = absurd (not_one m n t u a g h same p q)
one_viewed m n t u g h same (reported p) (acted b q) = absurd (not_one n m u t b h g (sym same) q p)
one_viewed m n t u g h same (reported p) (reported q) = one_reported m n t u g h same p q

pub one_told : (e f : ℕ × Reported) → IsToldEntry e → IsToldEntry f → told_line e ≡ told_line f → e ≡ f
one_told e f g h same = one_viewed e.0 f.0 e.1 f.1 g h same (view e.1 g.0.1 g.1) (view f.1 h.0.1 h.1)
