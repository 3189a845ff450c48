-- The lines of what was reported other than acts, and the fields after their words.
use Rattle.witness.proofs.ToldNames.{[], ◌++◌, ◌/◌, ◌∙◌, ◌∷◌, ◌≡◌, ◌≤◌, Act, act_fields, act_line, and_from, ap, append-nil, ArePlain, arith, Bool, bytes_eq}
use Rattle.witness.proofs.ToldNames.{bytes_eq-Decides, Client, codes, decimal, decimal_plain, Direction, direction_fields, direction_plain}
use Rattle.witness.proofs.ToldNames.{direction_tail, eqb, false, fields_behind, four_digits, Frame, frame_plain, frame_tail, is_plain, IsEntry}
use Rattle.witness.proofs.ToldNames.{IsInDoubt, IsLineText, IsNamed, IsOnWire, IsOtherTold, IsPlaced, IsPlain, IsReadTold, IsToldEntry, IsToolName}
use Rattle.witness.proofs.ToldNames.{IsWrittenTold, kind, known_frame, last_digit, le-leb, length, line_of, List, list_all, Machine, name_plain}
use Rattle.witness.proofs.ToldNames.{NoData, None, NotInTurn, Option, OtherData, OutOfOrder, plain_fields_append, Point, point_fields, point_plain}
use Rattle.witness.proofs.ToldNames.{read_act, refl, Reported, Rule, rule_name, SecondData, Server, Side, side_field, slice_index, slice_split, Some}
use Rattle.witness.proofs.ToldNames.{subst, sym, Tag, TagInUse, told_fields, told_line, told_parts, tool_field, TooMany, true, unknown_field}
use Rattle.witness.proofs.ToldNames.{UnknownTag, written_tag, ℕ}
use Rattle.std.proofs.lemmas.List.Splits.{length-slice_split}
use Rattle.fixed_um.specs.declared.frames.Frame.TheVariants.{Part}
use Rattle.dme_line.specs.declared.tags.Tag.TheVariants.{Event, Std}
use Rattle.contact_ledger.specs.Lines.{fields_of}
use Rattle.contact_ledger.specs.Ledgers.{IsConnection}
use Rattle.contact_ledger.proofs.EntryLines.{entry_back}
use Rattle.contact_ledger.proofs.LineFields.{line_fields, made_of, part_behind}

-- ---- parts of a line

pub some_fields : (line : List ℕ) → fields_of line ≡ [] → ⊥
unfolding fields_of
some_fields line e =
    let n = length-slice_split (λ b. eqb b 32) line in
    let zero : length (slice_split (λ b. eqb b 32) line) ≡ 0 = ap (λ (fs : List (List ℕ)). length fs) e in
    omega (arith, n, zero)

-- a line is known by its fields
pub one_line : (a b : List ℕ) → fields_of a ≡ fields_of b → a ≡ b
one_line a b e = made_of a (fields_of b) e ∙ sym (made_of b (fields_of b) refl)

-- what follows the fields of a frame
pub known_tail : (f g : Option Frame) (x y : List (List ℕ)) → known_frame f ++ x ≡ known_frame g ++ y → x ≡ y
known_tail None None x y e = cc
known_tail None (Some Machine) x y e =
    let word : codes "?" ≡ codes "M" = cc in
    let first : 63 ≡ 77 = ap (λ (t : List ℕ). slice_index t 0) word in
    absurd (omega (arith, first))
known_tail None (Some (Part o)) x y e =
    let word : codes "?" ≡ codes "P" = cc in
    let first : 63 ≡ 80 = ap (λ (t : List ℕ). slice_index t 0) word in
    absurd (omega (arith, first))
known_tail (Some Machine) None x y e =
    let word : codes "M" ≡ codes "?" = cc in
    let first : 77 ≡ 63 = ap (λ (t : List ℕ). slice_index t 0) word in
    absurd (omega (arith, first))
known_tail (Some (Part o)) None x y e =
    let word : codes "P" ≡ codes "?" = cc in
    let first : 80 ≡ 63 = ap (λ (t : List ℕ). slice_index t 0) word in
    absurd (omega (arith, first))
known_tail (Some f) (Some g) x y e = frame_tail f g x y e

pub doubt_name : (tool : Option (List ℕ)) (frame : Option Frame) → IsInDoubt tool frame → IsToolName tool
doubt_name None frame h = tt
doubt_name (Some tool) None h = h
doubt_name (Some tool) (Some frame) h = absurd h

-- ---- fields that are not those after a word

abbrev NoPoint : List (List ℕ) → Type 0
NoPoint fields = (p : Point) (more : List (List ℕ)) → IsOnWire p → fields ≡ point_fields p ++ more → ⊥

abbrev NoTool : List ℕ → Type 0
NoTool field = (tool : Option (List ℕ)) → IsNamed tool × IsToolName tool × (field ≡ tool_field tool) → ⊥

-- what the fields of a touch are
record TouchParts (target : Point) (dir : Option Direction) (tool : Option (List ℕ)) (frame : Option Frame) (point : Point)
    (word : List ℕ) (last : List (List ℕ)) : Type 0 where
  named : word ≡ tool_field tool
  ended : last ≡ point_fields point

touch_parts : (fields r s t u : List (List ℕ)) (word : List ℕ) (p target point : Point) (d dir : Option Direction) (f frame : Option Frame)
    (tool : Option (List ℕ)) → fields ≡ point_fields p ++ r → r ≡ direction_fields d ++ s → s ≡ word ∷ t → t ≡ known_frame f ++ u
    → codes "CONTACT" ∷ fields ≡ told_parts (Reported.Touched target dir tool frame point)
    → TouchParts target dir tool frame point word u
touch_parts fields r s t u word p target point d dir f frame tool i j k l e =
    let all : fields ≡ point_fields target ++ (direction_fields dir ++ (tool_field tool ∷ (known_frame frame ++ point_fields point))) = cc in
    let first : point_fields p ++ r
    ≡ point_fields target ++ (direction_fields dir ++ (tool_field tool ∷ (known_frame frame ++ point_fields point))) = sym i ∙ all in
    let second : r ≡ direction_fields dir ++ (tool_field tool ∷ (known_frame frame ++ point_fields point)) = cc in
    let third : s ≡ tool_field tool ∷ (known_frame frame ++ point_fields point) = direction_tail d dir s _ (sym j ∙ second) in
    let tools : word ∷ t ≡ tool_field tool ∷ (known_frame frame ++ point_fields point) = sym k ∙ third in
    let fourth : t ≡ known_frame frame ++ point_fields point = cc in
    let name : word ≡ tool_field tool = cc in
    record { named = name; ended = known_tail f frame u _ (sym l ∙ fourth) }

pub no_last_point : (fields r s t u : List (List ℕ)) (p : Point) (d : Option Direction) (word : List ℕ) (f : Option Frame) (a : Reported)
    → fields ≡ point_fields p ++ r → r ≡ direction_fields d ++ s → s ≡ word ∷ t → t ≡ known_frame f ++ u → NoPoint u → IsOtherTold a
    → codes "CONTACT" ∷ fields ≡ told_parts a → ⊥
no_last_point fields r s t u p d word f (Reported.Did x) i j k l none h e = h
no_last_point fields r s t u p d word f (Reported.MovedSomewhere target) i j k l none h e =
    let n : 787 ≡ 865 = ap (λ (fs : List (List ℕ)). kind fs) e in omega (arith, n)
no_last_point fields r s t u p d word f Reported.FramedSomehow i j k l none h e =
    let n : 787 ≡ 656 = ap (λ (fs : List (List ℕ)). kind fs) e in omega (arith, n)
no_last_point fields r s t u p d word f (Reported.Touched target dir tool frame point) i j k l none h e =
    let parts = touch_parts fields r s t u word p target point d dir f frame tool i j k l e in
    none point [] h.4 (parts.ended ∙ sym (append-nil (point_fields point)))
no_last_point fields r s t u p d word f (Reported.Other side line) i j k l none h e =
    let n : 787 ≡ 725 = ap (λ (fs : List (List ℕ)). kind fs) e in omega (arith, n)
no_last_point fields r s t u p d word f (Reported.Unasked line) i j k l none h e =
    let n : 787 ≡ 657 = ap (λ (fs : List (List ℕ)). kind fs) e in omega (arith, n)
no_last_point fields r s t u p d word f (Reported.Broken rule tag) i j k l none h e =
    let n : 787 ≡ 796 = ap (λ (fs : List (List ℕ)). kind fs) e in omega (arith, n)
no_last_point fields r s t u p d word f Reported.Opened i j k l none h e =
    let n : 787 ≡ 696 = ap (λ (fs : List (List ℕ)). kind fs) e in omega (arith, n)
no_last_point fields r s t u p d word f Reported.Left i j k l none h e =
    let n : 787 ≡ 704 = ap (λ (fs : List (List ℕ)). kind fs) e in omega (arith, n)

pub no_tool : (fields r s t u : List (List ℕ)) (p : Point) (d : Option Direction) (word : List ℕ) (f : Option Frame) (a : Reported)
    → fields ≡ point_fields p ++ r → r ≡ direction_fields d ++ s → s ≡ word ∷ t → t ≡ known_frame f ++ u → NoTool word → IsOtherTold a
    → codes "CONTACT" ∷ fields ≡ told_parts a → ⊥
no_tool fields r s t u p d word f (Reported.Did x) i j k l none h e = h
no_tool fields r s t u p d word f (Reported.MovedSomewhere target) i j k l none h e =
    let n : 787 ≡ 865 = ap (λ (fs : List (List ℕ)). kind fs) e in omega (arith, n)
no_tool fields r s t u p d word f Reported.FramedSomehow i j k l none h e =
    let n : 787 ≡ 656 = ap (λ (fs : List (List ℕ)). kind fs) e in omega (arith, n)
no_tool fields r s t u p d word f (Reported.Touched target dir tool frame point) i j k l none h e =
    let parts = touch_parts fields r s t u word p target point d dir f frame tool i j k l e in
    none tool (h.2, doubt_name tool frame h.5, parts.named)
no_tool fields r s t u p d word f (Reported.Other side line) i j k l none h e =
    let n : 787 ≡ 725 = ap (λ (fs : List (List ℕ)). kind fs) e in omega (arith, n)
no_tool fields r s t u p d word f (Reported.Unasked line) i j k l none h e =
    let n : 787 ≡ 657 = ap (λ (fs : List (List ℕ)). kind fs) e in omega (arith, n)
no_tool fields r s t u p d word f (Reported.Broken rule tag) i j k l none h e =
    let n : 787 ≡ 796 = ap (λ (fs : List (List ℕ)). kind fs) e in omega (arith, n)
no_tool fields r s t u p d word f Reported.Opened i j k l none h e =
    let n : 787 ≡ 696 = ap (λ (fs : List (List ℕ)). kind fs) e in omega (arith, n)
no_tool fields r s t u p d word f Reported.Left i j k l none h e =
    let n : 787 ≡ 704 = ap (λ (fs : List (List ℕ)). kind fs) e in omega (arith, n)

-- the parts of a line that is not known
other_parts : (fields : List (List ℕ)) (t : Reported) → IsOtherTold t → codes "OTHER" ∷ fields ≡ told_parts t
    → (side : Side) × (line : List ℕ) × IsLineText line × (fields ≡ side_field side ∷ fields_of line)
other_parts fields (Reported.Did x) h e = absurd h
other_parts fields (Reported.MovedSomewhere target) h e = let n : 725 ≡ 865 = ap (λ (fs : List (List ℕ)). kind fs) e in absurd (omega (arith, n))
other_parts fields Reported.FramedSomehow h e = let n : 725 ≡ 656 = ap (λ (fs : List (List ℕ)). kind fs) e in absurd (omega (arith, n))
other_parts fields (Reported.Touched target dir tool frame point) h e =
    let n : 725 ≡ 787 = ap (λ (fs : List (List ℕ)). kind fs) e in absurd (omega (arith, n))
other_parts fields (Reported.Other side line) h e = let same : fields ≡ side_field side ∷ fields_of line = cc in (side, line, h, same)
other_parts fields (Reported.Unasked line) h e = let n : 725 ≡ 657 = ap (λ (fs : List (List ℕ)). kind fs) e in absurd (omega (arith, n))
other_parts fields (Reported.Broken rule tag) h e = let n : 725 ≡ 796 = ap (λ (fs : List (List ℕ)). kind fs) e in absurd (omega (arith, n))
other_parts fields Reported.Opened h e = let n : 725 ≡ 696 = ap (λ (fs : List (List ℕ)). kind fs) e in absurd (omega (arith, n))
other_parts fields Reported.Left h e = let n : 725 ≡ 704 = ap (λ (fs : List (List ℕ)). kind fs) e in absurd (omega (arith, n))

-- fields that are not those of a line
abbrev NoLine : List (List ℕ) → Type 0
NoLine fields = (line : List ℕ) → IsLineText line × (fields ≡ fields_of line) → ⊥

pub no_line : (fields more : List (List ℕ)) (word : List ℕ) (t : Reported) → fields ≡ word ∷ more → NoLine more → IsOtherTold t
    → codes "OTHER" ∷ fields ≡ told_parts t → ⊥
no_line fields more word t p none h e =
    let parts = other_parts fields t h e in
    let both : word ∷ more ≡ side_field parts.0 ∷ fields_of parts.1 = sym p ∙ parts.3 in
    let same : more ≡ fields_of parts.1 = cc in
    none parts.1 (parts.2, same)

pub no_unasked : (fields : List (List ℕ)) (t : Reported) → NoLine fields → IsOtherTold t → codes "UNASKED" ∷ fields ≡ told_parts t → ⊥
no_unasked fields (Reported.Did x) none h e = h
no_unasked fields (Reported.MovedSomewhere target) none h e = let n : 657 ≡ 865 = ap (λ (fs : List (List ℕ)). kind fs) e in omega (arith, n)
no_unasked fields Reported.FramedSomehow none h e = let n : 657 ≡ 656 = ap (λ (fs : List (List ℕ)). kind fs) e in omega (arith, n)
no_unasked fields (Reported.Touched target dir tool frame point) none h e =
    let n : 657 ≡ 787 = ap (λ (fs : List (List ℕ)). kind fs) e in omega (arith, n)
no_unasked fields (Reported.Other side line) none h e = let n : 657 ≡ 725 = ap (λ (fs : List (List ℕ)). kind fs) e in omega (arith, n)
no_unasked fields (Reported.Unasked line) none h e = let same : fields ≡ fields_of line = cc in none line (h, same)
no_unasked fields (Reported.Broken rule tag) none h e = let n : 657 ≡ 796 = ap (λ (fs : List (List ℕ)). kind fs) e in omega (arith, n)
no_unasked fields Reported.Opened none h e = let n : 657 ≡ 696 = ap (λ (fs : List (List ℕ)). kind fs) e in omega (arith, n)
no_unasked fields Reported.Left none h e = let n : 657 ≡ 704 = ap (λ (fs : List (List ℕ)). kind fs) e in omega (arith, n)

-- ---- the fields of a line

digit_plain : (n : ℕ) → is_plain (last_digit n) ≡ true
digit_plain n = le-leb 33 (last_digit n) (omega arith)

four_plain : (n : ℕ) → list_all is_plain (four_digits n) ≡ true
four_plain n =
    and_from _ _ (digit_plain (n / 1000)) (and_from _ _ (digit_plain (n / 100)) (and_from _ _ (digit_plain (n / 10))
    (and_from _ _ (digit_plain n) refl)))

tag_plain : (t : Tag) → IsPlain (written_tag t)
tag_plain (Std n) = record { plain = and_from _ _ (digit_plain (n / 10000)) (four_plain n) }
tag_plain (Event n) = record { plain = four_plain n }

rule_plain : (r : Rule) → IsPlain (rule_name r)
rule_plain UnknownTag = record { plain = refl }
rule_plain OutOfOrder = record { plain = refl }
rule_plain NoData = record { plain = refl }
rule_plain SecondData = record { plain = refl }
rule_plain OtherData = record { plain = refl }
rule_plain TagInUse = record { plain = refl }
rule_plain NotInTurn = record { plain = refl }
rule_plain TooMany = record { plain = refl }

side_plain : (s : Side) → list_all is_plain (side_field s) ≡ true
side_plain Client = refl
side_plain Server = refl

tool_plain : (tool : Option (List ℕ)) → IsNamed tool → IsPlain (tool_field tool)
tool_plain None h = record { plain = refl }
tool_plain (Some tool) h = name_plain tool h

placed_plain : (frame : Option Frame) → IsPlaced frame → ArePlain (known_frame frame)
placed_plain None h = (record { plain = refl }, tt)
placed_plain (Some frame) h = frame_plain frame h

pub touch_plain : (target : Point) (dir : Option Direction) (tool : Option (List ℕ)) (frame : Option Frame) (point : Point)
    → IsWrittenTold (Reported.Touched target dir tool frame point) → ArePlain (told_fields (Reported.Touched target dir tool frame point))
touch_plain target dir tool frame point h = (
  record { plain = refl },
  plain_fields_append (point_fields target) _ (point_plain target h.0) (plain_fields_append (direction_fields dir) _
      (direction_plain dir h.1) (
        tool_plain tool h.2,
        plain_fields_append (known_frame frame) (point_fields point) (placed_plain frame h.3) (point_plain point h.4),
      )),
)

pub moved_plain : (target : Point) → IsOnWire target → ArePlain (told_fields (Reported.MovedSomewhere target))
moved_plain target h = (
  record { plain = refl },
  plain_fields_append (point_fields target) (unknown_field ∷ []) (point_plain target h) (record { plain = refl }, tt),
)

pub broken_plain : (rule : Rule) (tag : Tag) → ArePlain (told_fields (Reported.Broken rule tag))
broken_plain rule tag = (record { plain = refl }, (rule_plain rule, (tag_plain tag, tt)))

-- a line of another maker after its connection and the way that it went
foreign_back : (n : ℕ) (side : Side) (line : List ℕ) → IsConnection n
    → fields_of (told_line (n, Reported.Other side line)) ≡ decimal n ∷ told_parts (Reported.Other side line)
unfolding fields_of
foreign_back n side line h =
    part_behind 32 (decimal n) (line_of (codes "OTHER" ∷ side_field side ∷ line ∷ [])) (omega arith)
    (decimal_plain n (omega (arith, h.1))).plain
    ∙ ap (λ (fs : List (List ℕ)). decimal n ∷ fs) (part_behind 32 (codes "OTHER") (line_of (side_field side ∷ line ∷ [])) (omega arith) refl
    ∙ ap (λ (fs : List (List ℕ)). codes "OTHER" ∷ fs) (part_behind 32 (side_field side) line (omega arith) (side_plain side)))

unasked_back : (n : ℕ) (line : List ℕ) → IsConnection n
    → fields_of (told_line (n, Reported.Unasked line)) ≡ decimal n ∷ told_parts (Reported.Unasked line)
unfolding fields_of
unasked_back n line h =
    part_behind 32 (decimal n) (line_of (codes "UNASKED" ∷ line ∷ [])) (omega arith) (decimal_plain n (omega (arith, h.1))).plain
    ∙ ap (λ (fs : List (List ℕ)). decimal n ∷ fs) (part_behind 32 (codes "UNASKED") line (omega arith) refl)

plain_back : (n : ℕ) (fields : List (List ℕ)) → IsConnection n → ArePlain fields → fields_of (line_of (decimal n ∷ fields))
    ≡ decimal n ∷ fields
plain_back n fields h all = line_fields (decimal n) fields (decimal_plain n (omega (arith, h.1)), all)

pub other_back : (n : ℕ) (t : Reported) → IsConnection n → IsOtherTold t → fields_of (told_line (n, t)) ≡ decimal n ∷ told_parts t
other_back n (Reported.Did x) c h = absurd h
other_back n (Reported.MovedSomewhere target) c h = plain_back n (told_fields (Reported.MovedSomewhere target)) c (moved_plain target h)
other_back n Reported.FramedSomehow c h = plain_back n (told_fields Reported.FramedSomehow) c (record { plain = refl }, (record { plain = refl }, tt))
other_back n (Reported.Touched target dir tool frame point) c h =
    plain_back n (told_fields (Reported.Touched target dir tool frame point)) c
    (touch_plain target dir tool frame point (h.0, h.1, h.2, h.3, h.4))
other_back n (Reported.Other side line) c h = foreign_back n side line c
other_back n (Reported.Unasked line) c h = unasked_back n line c
other_back n (Reported.Broken rule tag) c h = plain_back n (told_fields (Reported.Broken rule tag)) c (broken_plain rule tag)
other_back n Reported.Opened c h = plain_back n (told_fields Reported.Opened) c (record { plain = refl }, tt)
other_back n Reported.Left c h = plain_back n (told_fields Reported.Left) c (record { plain = refl }, tt)

-- ---- the line of an act

-- an act that is not read as what else was reported names its tool
abbrev NoOther : List ℕ → Type 0
NoOther rest = (x : Reported) → IsOtherTold x × (fields_behind rest ≡ told_parts x) → ⊥

pub act_found : (line word rest : List ℕ) (n : ℕ) (a : Act) → fields_of line ≡ word ∷ fields_behind rest → NoOther rest → IsEntry (n, a)
    → line ≡ act_line (n, a) → IsToldEntry (n, Reported.Did a) × (line ≡ told_line (n, Reported.Did a))
act_found line word rest n (Act.HomedIs homed) p none h e = (((h.0, h.1), tt), e)
act_found line word rest n Act.Homed p none h e = (((h.0, h.1), tt), e)
act_found line word rest n (Act.Moved target frame) p none h e = (((h.0, h.1), tt), e)
act_found line word rest n (Act.Changed tool) p none h e = (((h.0, h.1), tt), e)
act_found line word rest n (Act.Framed frame) p none h e = (((h.0, h.1), tt), e)
act_found line word rest n (Act.Contact target dir tool frame point) p none h e = (((h.0, h.1), λ unnamed. none t (other, parts unnamed)), e)
  where
    t : Reported
    t = Reported.Touched target dir None (Some frame) point

    other : IsOtherTold (Reported.Touched target dir None (Some frame) point)
    other = (h.1.0, h.1.1, tt, h.1.3, h.1.4, tt)

    parts : tool ≡ unknown_field → fields_behind rest ≡ told_parts (Reported.Touched target dir None (Some frame) point)
    parts unnamed =
        let is : line ≡ told_line (n, Reported.Touched target dir None (Some frame) point) =
        e ∙ ap (λ (name : List ℕ). act_line (n, Act.Contact target dir name frame point)) unnamed in
        let all : word ∷ fields_behind rest ≡ decimal n ∷ told_parts (Reported.Touched target dir None (Some frame) point) =
        sym p ∙ ap (λ (l : List ℕ). fields_of l) is ∙ other_back n (Reported.Touched target dir None (Some frame) point) h.0 other in
        cc

-- ---- lines without an entry

pub data View (t : Reported) : Type 0 where
  acted : (a : Act) → t ≡ Reported.Did a → View t
  reported : IsOtherTold t → View t

pub view : (t : Reported) → IsWrittenTold t → IsReadTold t → View t
view (Reported.Did a) h k = acted a refl
view (Reported.MovedSomewhere target) h k = reported h
view Reported.FramedSomehow h k = reported tt
view (Reported.Touched target dir tool frame point) h k = reported (h.0, h.1, h.2, h.3, h.4, k)
view (Reported.Other side line) h k = reported h
view (Reported.Unasked line) h k = reported h
view (Reported.Broken rule tag) h k = reported h
view Reported.Opened h k = reported tt
view Reported.Left h k = reported tt

abbrev NoEntry : List ℕ → Type 0
NoEntry line = (e : ℕ × Act) → IsEntry e × (line ≡ act_line e) → ⊥

no_act_line : (line : List ℕ) (n : ℕ) (t : Reported) (a : Act) → NoEntry line → IsToldEntry (n, t) → line ≡ told_line (n, t) → t ≡ Reported.Did a → ⊥
no_act_line line n t a none h e same =
    let written = subst (λ (x : Reported). IsWrittenTold x) same h.0.1 in
    none (n, a) ((h.0.0, written), e ∙ ap (λ (x : Reported). told_line (n, x)) same)

pub no_number : (line word rest : List ℕ) (n : ℕ) (t : Reported) → fields_of line ≡ word ∷ fields_behind rest
    → ((m : ℕ) → (1 ≤ m) × (m ≤ 4000000000) × (word ≡ decimal m) → ⊥) → IsToldEntry (n, t) → line ≡ told_line (n, t) → ⊥
no_number line word rest n t p none h e = go (view t h.0.1 h.1)
  where
    is_number : (parts : List (List ℕ)) → fields_of line ≡ decimal n ∷ parts → ⊥
    is_number parts fields =
        let all : word ∷ fields_behind rest ≡ decimal n ∷ parts = sym p ∙ fields in
        let same : word ≡ decimal n = cc in
        none n (h.0.0.0, h.0.0.1, same)

    go : View t → ⊥
    go (acted a same) =
        let written = subst (λ (x : Reported). IsWrittenTold x) same h.0.1 in
        is_number (act_fields a) (entry_back line n a (h.0.0, written) (e ∙ ap (λ (x : Reported). told_line (n, x)) same))
    go (reported other) = is_number (told_parts t) (ap (λ (l : List ℕ). fields_of l) e ∙ other_back n t h.0.0 other)

pub no_told : (line word rest : List ℕ) (n : ℕ) (t : Reported) → NoEntry line → fields_of line ≡ word ∷ fields_behind rest
    → ((x : Reported) → IsOtherTold x × (fields_behind rest ≡ told_parts x) → ⊥) → IsToldEntry (n, t) → line ≡ told_line (n, t) → ⊥
no_told line word rest n t acts p none h e = go (view t h.0.1 h.1)
  where
    go : View t → ⊥
    go (acted a same) = no_act_line line n t a acts h e same
    go (reported other) =
        let all : word ∷ fields_behind rest ≡ decimal n ∷ told_parts t =
        sym p ∙ ap (λ (l : List ℕ). fields_of l) e ∙ other_back n t h.0.0 other in
        let same : fields_behind rest ≡ told_parts t = cc in
        none t (other, same)

as_told : (t : Reported) → IsOtherTold t → IsWrittenTold t × IsReadTold t
as_told (Reported.Did a) h = absurd h
as_told (Reported.MovedSomewhere target) h = (h, tt)
as_told Reported.FramedSomehow h = (tt, tt)
as_told (Reported.Touched target dir tool frame point) h = ((h.0, h.1, h.2, h.3, h.4), h.5)
as_told (Reported.Other side line) h = (h, tt)
as_told (Reported.Unasked line) h = (h, tt)
as_told (Reported.Broken rule tag) h = (h, tt)
as_told Reported.Opened h = (tt, tt)
as_told Reported.Left h = (tt, tt)

pub told_found : (line word rest : List ℕ) (n : ℕ) (t : Reported) → fields_of line ≡ word ∷ fields_behind rest
    → (1 ≤ n) × (n ≤ 4000000000) × (word ≡ decimal n) → IsOtherTold t × (fields_behind rest ≡ told_parts t)
    → IsToldEntry (n, t) × (line ≡ told_line (n, t))
told_found line word rest n t p q r =
    let kinds = as_told t r.0 in
    let fields : fields_of line ≡ decimal n ∷ told_parts t = p ∙ rw (q.2, r.1) refl in
    ((((q.0, q.1), kinds.0), kinds.1), one_line line (told_line (n, t)) (fields ∙ sym (other_back n t (q.0, q.1) r.0)))
