-- The blocks of a text and its labels (ISO 22093, IF, SELECT, DO and JUMPTO; labels alone on their lines). A `(` is 40, a `)` is 41.
use Rattle.std.specs.Prelude.{ℕ, ◌+◌, ◌-◌, Bool, true, false, ◌&&◌, ◌==◌, nat_le, nat_lt, List, [], ◌∷◌, length, codes, slice_index, bytes_eq}
use Rattle.std.specs.Prelude.{is_none, Option, Some, None, if◌then◌else◌}
use Rattle.dmis_text.specs.declared.elements.Statement.{Statement}
use Rattle.program_flow.specs.declared.blocks.Block.{Block}
use Rattle.program_flow.specs.declared.blocks.Part.{Part}
use Rattle.program_flow.specs.declared.blocks.Part.TheVariants.{If, Else, EndIf, Do, EndDo, Select, Case, DefaultCase, EndCase, EndSelect, Jump, Label, Other}

abbrev pub is_label : List ℕ → Bool
is_label [] = false
is_label (c ∷ cs) = (c == 40) && (slice_index cs (length cs - 1) == 41)

-- what a statement is to the flow: by its word, and by whether it has parameters
abbrev pub part_alone : List ℕ → Part
part_alone word = if bytes_eq word (codes "ELSE") then Else else
    (if bytes_eq word (codes "ENDIF") then EndIf else
    (if bytes_eq word (codes "ENDDO") then EndDo else
    (if bytes_eq word (codes "DFTCAS") then DefaultCase else
    (if bytes_eq word (codes "ENDCAS") then EndCase else
    (if bytes_eq word (codes "ENDSEL") then EndSelect else
    (if is_label word then Label else Other))))))

abbrev pub part_named : List ℕ → List (List ℕ) → Part
part_named word [] = part_alone word
part_named word (param ∷ params) = if bytes_eq word (codes "IF") then If else
    (if bytes_eq word (codes "DO") then Do else
    (if bytes_eq word (codes "SELECT") then Select else
    (if bytes_eq word (codes "CASE") then Case else
    (if bytes_eq word (codes "JUMPTO") then Jump else Other))))

unfoldable pub part_of : Statement → Part
part_of s = if is_none s.label then part_named s.word s.params else Other

-- a block begins, or ends
abbrev pub opens : Part → Bool
opens If = true
opens Do = true
opens Select = true
opens Case = true
opens DefaultCase = true
opens _ = false

abbrev pub closes : Part → Bool
closes EndIf = true
closes EndDo = true
closes EndCase = true
closes EndSelect = true
closes _ = false

-- the block that began with the first of these ends with the second
abbrev pub matches : Part → Part → Bool
matches If Else = true
matches If EndIf = true
matches Else EndIf = true
matches Do EndDo = true
matches Select EndSelect = true
matches Case EndCase = true
matches DefaultCase EndCase = true
matches _ _ = false

-- how many blocks are open after a part
abbrev pub depth_after : ℕ → Part → ℕ
depth_after depth part = if opens part then depth + 1 else (if closes part then depth - 1 else depth)

abbrev pub is_end : ℕ → Part → Bool
is_end depth Else = depth == 0
is_end depth EndIf = depth == 0
is_end depth EndDo = depth == 0
is_end depth EndCase = depth == 0
is_end depth EndSelect = depth == 0
is_end depth _ = false

abbrev pub end_here : Part → ℕ → Part → ℕ → Option ℕ → Option ℕ
end_here begun depth part place below = if is_end depth part then (if matches begun part then Some place else None) else below

-- where the block ends that began with this part, in statements of which the first is in this place
unfoldable pub end_of : Part → ℕ → ℕ → List Statement → Option ℕ
end_of begun depth place [] = None
end_of begun depth place (s ∷ below) = end_here begun depth (part_of s) place (end_of begun (depth_after depth (part_of s)) (place + 1) below)

-- each block that begins in these statements ends there
unfoldable pub is_level : ℕ → List Statement → Bool
is_level depth [] = depth == 0
is_level depth (s ∷ below) = is_level (depth_after depth (part_of s)) below

-- where a label is
abbrev pub is_label_part : Part → Bool
is_label_part Label = true
is_label_part _ = false

unfoldable pub label_place : List ℕ → ℕ → List Statement → Option ℕ
label_place name place [] = None
label_place name place (s ∷ below) = if is_label_part (part_of s) && bytes_eq s.word name then Some place else label_place name (place + 1) below

-- the innermost of the open blocks that has a place in it, with those around it
abbrev pub has_place : Block → ℕ → Bool
has_place b place = nat_le b.start place && nat_lt place b.end

abbrev pub around : ℕ → List Block → List Block
around place [] = []
around place (b ∷ outer) = if has_place b place then b ∷ outer else around place outer

abbrev pub start_of : List Block → ℕ
start_of [] = 0
start_of (b ∷ outer) = b.start
