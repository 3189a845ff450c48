-- What the examples of this crate speak of.
use Rattle.std.specs.Prelude.{ℕ, List, [], ◌∷◌, ◌++◌, codes, decimal, drop, map, true, false, Option, None, Some, Result, Ok}
use Rattle.dmis_text.specs.declared.elements.Statement.{Statement}
use Rattle.program_flow.specs.declared.faults.ValueFault.{ValueFault}
use Rattle.program_lowering.specs.Cartesian.{no_reference, reference_after}
use Rattle.program_lowering.specs.EvenTouches.{touches_before}
use Rattle.program_lowering.specs.Prompts.{Answer, answer_of}
use Rattle.program_lowering.specs.StoredFrames.{by_frame, is_used}
use Rattle.program_lowering.specs.declared.cartesian.Reference.{Reference}
use Rattle.program_lowering.specs.declared.words.Choices.{Choices}

-- nothing is left out besides what measures and moves nothing; and all that may be
abbrev pub plain_choices : Choices
plain_choices = record { no_clearing = false; compensated = false; skip_manual = false; stored_frames = false; even_touches = false }

abbrev pub all_choices : Choices
all_choices = record { no_clearing = true; compensated = true; skip_manual = true; stored_frames = true; even_touches = true }

-- a statement without a label
abbrev pub bare : List ℕ → List (List ℕ) → Statement
bare word params = record { line = 1; label = None; word = word; params = params }

-- a text for the operator
abbrev pub to_operator : Statement
to_operator = bare (codes "TEXT") (codes "OPER" ∷ codes "'Turn, then /go'" ∷ [])

-- a program whose first feature is measured by the operator
abbrev pub manual_front : List Statement
manual_front = bare (codes "TEXT") (codes "OPER" ∷ []) ∷ bare (codes "SNSLCT") (codes "S(A)" ∷ []) ∷ bare (codes "FEAT") (codes "POINT" ∷ []) ∷ []

abbrev pub measured : List Statement
measured = bare (codes "MEAS") (codes "POINT" ∷ []) ∷ bare (codes "GOTO") (codes "1" ∷ []) ∷ bare (codes "PTMEAS") (codes "CART" ∷ []) ∷ bare (codes "ENDMES") [] ∷ []

abbrev pub start : Statement
start = bare (codes "DMISMN") []

abbrev pub mode_man : Statement
mode_man = bare (codes "MODE") (codes "MAN" ∷ [])

abbrev pub mode_prog : Statement
mode_prog = bare (codes "MODE") (codes "PROG" ∷ codes "MAN" ∷ [])

abbrev pub first_by_hand : List Statement
first_by_hand = start ∷ mode_man ∷ (manual_front ++ (measured ++ (mode_prog ∷ measured)))

-- statements that make and recall coordinate systems, and a touch
abbrev pub labelled : List ℕ → List ℕ → Statement
labelled label word = record { line = 1; label = Some label; word = word; params = codes "DAT(A)" ∷ [] }

abbrev pub recall_a : Statement
recall_a = bare (codes "RECALL") (codes "D(A)" ∷ [])

abbrev pub make_b : Statement
make_b = by_frame all_choices (is_used []) (labelled (codes "D(B)") (codes "TRANS"))

abbrev pub make_a : Statement
make_a = labelled (codes "D(A)") (codes "TRANS")

abbrev pub make_a_on_7 : Statement
make_a_on_7 = record make_a { line = 7 }

abbrev pub a_touch : Statement
a_touch = bare (codes "PTMEAS") (codes "CART" ∷ codes "1" ∷ codes "2" ∷ codes "3" ∷ [])

-- what the setup's frames take the place of, and other statements of its word
abbrev pub of_setup : List Statement
of_setup = bare (codes "DATDEF") [] ∷ bare (codes "SAVE") (codes "D(A)" ∷ []) ∷ bare (codes "SAVE") (codes "DA(A)" ∷ []) ∷ []

abbrev pub saving : List Statement
saving = bare (codes "SAVE") (codes "S(A)" ∷ []) ∷ bare (codes "SAVE") (codes "D(A)" ∷ codes "D(B)" ∷ []) ∷ []

-- what selects A by its name, and what selects nothing so
abbrev pub naming_a : List Statement
naming_a = labelled (codes "D(A)") (codes "DATSET") ∷ labelled (codes "D(A)") (codes "TRANS") ∷ labelled (codes "DA(a)") (codes "ROTATE")
    ∷ bare (codes "RECALL") (codes "DA(A)" ∷ []) ∷ []

abbrev pub naming_none : List Statement
naming_none = labelled (codes "F(A)") (codes "DATSET") ∷ labelled (codes "D(A)") (codes "EQUATE") ∷ bare (codes "DATSET") (codes "DAT(A)" ∷ [])
    ∷ record (labelled (codes "D(A)") (codes "DATSET")) { params = codes "'A" ∷ [] } ∷ bare (codes "RECALL") (codes "D(a)" ∷ [])
    ∷ bare (codes "RECALL") (codes "DA(A)" ∷ codes "DA(B)" ∷ []) ∷ of_setup

-- two touches in A and one in B; what is below the end counts no more
abbrev pub two_frames : List Statement
two_frames = recall_a ∷ a_touch ∷ bare (codes "ENDMES") [] ∷ a_touch ∷ make_b ∷ a_touch ∷ bare (codes "ENDFIL") [] ∷ a_touch ∷ recall_a ∷ []

-- a variable that is declared, and assigned to
abbrev pub declare_x : Statement
declare_x = bare (codes "DECL") (codes "GLOBAL" ∷ codes "REAL" ∷ codes "X" ∷ [])

abbrev pub assign : List ℕ → List ℕ → Statement
assign name text = record { line = 1; label = Some name; word = codes "ASSIGN"; params = text ∷ [] }

abbrev pub x_is_five : List Statement
x_is_five = assign (codes "X") (codes "5") ∷ declare_x ∷ []

-- likewise a variable of letters
abbrev pub declare_t : Statement
declare_t = bare (codes "DECL") (codes "GLOBAL" ∷ codes "CHAR" ∷ codes "4" ∷ codes "T" ∷ [])

abbrev pub t_is_bore : List Statement
t_is_bore = assign (codes "T") (codes "'BORE'") ∷ declare_t ∷ []

-- a move to a place, in polar coordinates and by 10, the parameters of a Cartesian one, and what follows statements refers to
abbrev pub a_move : Statement
a_move = bare (codes "GOTO") (codes "CART" ∷ codes "1" ∷ codes "2.5" ∷ codes "3" ∷ [])

abbrev pub around : List ℕ → List ℕ → List ℕ → Statement
around r a h = bare (codes "GOTO") (codes "POL" ∷ r ∷ a ∷ h ∷ [])

abbrev pub by_ten : List ℕ → List ℕ → List ℕ → Statement
by_ten i j k = bare (codes "GOTO") (codes "INCR" ∷ codes "10" ∷ i ∷ j ∷ k ∷ [])

abbrev pub placed : List ℕ → List ℕ → List ℕ → Option (Result (List (List ℕ)) ValueFault)
placed x y z = Some (Ok (codes "CART" ∷ x ∷ y ∷ z ∷ []))

abbrev pub below : List Statement → Reference
below [] = no_reference
below (s ∷ above) = reference_after (below above) s

-- a feature named A, a bore of a diameter of 50 with an axis, or one of a length, and a block for A; what is given before its end, and a touch from
-- the centre at a depth
abbrev pub feature_named : List ℕ → List (List ℕ) → Statement
feature_named label params = record { line = 1; label = Some label; word = codes "FEAT"; params = params }

abbrev pub feature_a : List (List ℕ) → Statement
feature_a params = feature_named (codes "F(A)") params

abbrev pub bore_a : List ℕ → List ℕ → List ℕ → Statement
bore_a i j k = feature_a (codes "CIRCLE" ∷ codes "INNER" ∷ codes "CART" ∷ codes "0" ∷ codes "0" ∷ codes "-5" ∷ i ∷ j ∷ k ∷ codes "50" ∷ [])

abbrev pub upright : Statement
upright = bore_a (codes "0") (codes "0") (codes "1")

abbrev pub along : List (List ℕ) → List ℕ → List ℕ → Statement
along axis side length = feature_a (codes "CYLNDR" ∷ side ∷ codes "CART" ∷ codes "0" ∷ codes "0" ∷ codes "-5" ∷ (axis ++ codes "50" ∷ length ∷ []))

abbrev pub downwards : List (List ℕ)
downwards = codes "0" ∷ codes "0" ∷ codes "-1" ∷ []

abbrev pub deep : Statement
deep = along downwards (codes "INNER") (codes "40")

abbrev pub block_a : List ℕ → List ℕ → Statement
block_a kind count = bare (codes "MEAS") (kind ∷ codes "F(A)" ∷ count ∷ [])

abbrev pub two_ways : List Statement
two_ways = along (codes "1" ∷ codes "0" ∷ codes "0" ∷ []) (codes "INNER") (codes "40")
    ∷ along (codes "-1" ∷ codes "0" ∷ codes "0" ∷ []) (codes "INNER") (codes "40") ∷ []

abbrev pub three_of_a : Statement
three_of_a = block_a (codes "CIRCLE") (codes "3")

abbrev pub six_of_a : Statement
six_of_a = block_a (codes "CYLNDR") (codes "6")

abbrev pub end_of_block : Statement
end_of_block = bare (codes "ENDMES") []

abbrev pub given_below : List Statement → List Statement
given_below above = touches_before above end_of_block

abbrev pub told_of : ℕ → List ℕ → Statement
told_of n start = bare (codes "ENDMES is given") (decimal n ∷ codes "A" ∷ start ∷ [] ∷ [])

abbrev pub told_of_circle : ℕ → Statement
told_of_circle n = told_of n (codes "its centre")

-- a feature whose label and place have values, and what has none
abbrev pub feature_by_x : Statement
feature_by_x = feature_named (codes "F(B@X)") (codes "CIRCLE" ∷ codes "X+1" ∷ [])

abbrev pub without_values : List Statement
without_values = feature_named (codes "F(@Y)") (codes "X+1" ∷ []) ∷ feature_named (codes "F(B,@X)") (codes "X+1" ∷ [])
    ∷ feature_named [] (codes "X+1" ∷ []) ∷ record feature_by_x { params = codes "'@X" ∷ [] } ∷ record feature_by_x { label = None }
    ∷ record feature_by_x { word = codes "TOL" } ∷ []

-- I and J with these values; a block and a feature that they name, and others that are measured or go to a place
abbrev pub declare_ij : Statement
declare_ij = bare (codes "DECL") (codes "GLOBAL" ∷ codes "INTGR" ∷ codes "I" ∷ codes "J" ∷ [])

abbrev pub with_ij : List ℕ → List ℕ → List Statement → List Statement
with_ij i j above = assign (codes "J") j ∷ assign (codes "I") i ∷ above

abbrev pub point_of : List ℕ → Statement
point_of label = bare (codes "MEAS") (codes "POINT" ∷ label ∷ [])

abbrev pub of_ij : Statement
of_ij = point_of (codes "F(P@I@J)")

abbrev pub p111 : Statement
p111 = point_of (codes "F(P111)")

abbrev pub feature_ij : Statement
feature_ij = feature_named (codes "F(P@I@J)") (codes "POINT" ∷ [])

abbrev pub to_ij : Statement
to_ij = bare (codes "GOTO") (codes "@I@J" ∷ codes "F(P@I@J)" ∷ [])

-- what is above for 1 and 11, and these for 11 and 1
abbrev pub one_eleven : List Statement
one_eleven = with_ij (codes "1") (codes "11") (declare_ij ∷ [])

abbrev pub eleven_one : List Statement → List Statement
eleven_one above = with_ij (codes "11") (codes "1") (above ++ one_eleven)

-- T with these letters
abbrev pub with_t : List ℕ → List Statement → List Statement
with_t text above = assign (codes "T") text ∷ above

-- statements on lines; and a round over a bore that is given its touches, with a statement that is left out
abbrev pub on_line : ℕ → Statement → Statement
on_line line s = record s { line = line }

abbrev pub moves_on : List ℕ → List Statement
moves_on lines = map (λ line. on_line line a_move) lines

abbrev pub bore_round : List Statement
bore_round = on_line 3 three_of_a ∷ on_line 4 end_of_block ∷ on_line 5 (bare (codes "VFORM") []) ∷ []

abbrev pub two_rounds : List Statement
two_rounds = start ∷ on_line 2 upright ∷ (bore_round ++ bore_round)

abbrev pub minus : ℕ → List ℕ
minus n = codes "-" ++ decimal n

abbrev pub to_place : List (List ℕ) → List Statement
to_place numbers = bare (codes "GOTO") (codes "CART" ∷ numbers) ∷ []

abbrev pub to_depth : ℕ → List Statement
to_depth d = to_place (decimal 0 ∷ decimal 0 ∷ minus d ∷ [])

abbrev pub from_five : List (List ℕ) → List Statement
from_five numbers = to_depth 5 ++ bare (codes "PTMEAS") (codes "CART" ∷ numbers) ∷ []

abbrev pub on_wall : ℕ → List ℕ → List ℕ → List ℕ → List ℕ → List Statement
on_wall d x y i j = to_depth d ++ bare (codes "PTMEAS") (codes "CART" ∷ x ∷ y ∷ minus d ∷ i ∷ j ∷ decimal 0 ∷ []) ∷ []

-- four touches at a depth, and three
abbrev pub four_at : ℕ → List Statement
four_at d = on_wall d (decimal 25) (decimal 0) (minus 1) (decimal 0) ++ (on_wall d (decimal 0) (decimal 25) (decimal 0) (minus 1)
    ++ (on_wall d (minus 25) (decimal 0) (decimal 1) (decimal 0) ++ on_wall d (decimal 0) (minus 25) (decimal 0) (decimal 1)))

abbrev pub three_at : ℕ → List Statement
three_at d = on_wall d (decimal 25) (decimal 0) (minus 1) (decimal 0)
    ++ (on_wall d (minus 12 ++ codes ".500000") (decimal 21 ++ codes ".650635") (decimal 0 ++ codes ".500000") (minus 0 ++ codes ".866025")
    ++ on_wall d (minus 12 ++ codes ".500000") (minus 21 ++ codes ".650635") (decimal 0 ++ codes ".500000") (decimal 0 ++ codes ".866025"))

-- features and blocks for which nothing is given
abbrev pub another_a : List ℕ → List ℕ → List ℕ → Statement
another_a kind side d = feature_a (kind ∷ side ∷ codes "CART" ∷ codes "0" ∷ codes "0" ∷ codes "-5" ∷ codes "0" ∷ codes "0" ∷ codes "1" ∷ d ∷ [])

abbrev pub no_bores : List Statement
no_bores = another_a (codes "CIRCLE") (codes "OUTER") (codes "50") ∷ another_a (codes "CYLNDR") (codes "INNER") (codes "50")
    ∷ another_a (codes "CIRCLE") (codes "INNER") (codes "0") ∷ another_a (codes "CIRCLE") (codes "INNER") (codes "-50")
    ∷ bore_a (codes "0.6") (codes "0") (codes "0.8") ∷ bore_a (codes "1") (codes "0") (codes "1") ∷ bore_a (codes "0") (codes "0") (codes "2")
    ∷ record upright { label = Some (codes "F(B)") } ∷ record upright { word = codes "TOL" } ∷ []

abbrev pub no_cylinders : List Statement
no_cylinders = upright ∷ another_a (codes "CYLNDR") (codes "INNER") (codes "50") ∷ along downwards (codes "OUTER") (codes "40")
    ∷ along downwards (codes "INNER") (codes "0") ∷ along downwards (codes "INNER") (codes "-40")
    ∷ along (codes "0" ∷ codes "0.6" ∷ codes "0.8" ∷ []) (codes "INNER") (codes "40")
    ∷ record deep { params = codes "CIRCLE" ∷ drop 1 deep.params } ∷ record deep { params = deep.params ++ codes "40" ∷ [] } ∷ []

abbrev pub no_blocks : List (List Statement)
no_blocks = (block_a (codes "CIRCLE") (codes "2") ∷ []) ∷ (block_a (codes "CIRCLE") (codes "1001") ∷ []) ∷ (block_a (codes "CYLNDR") (codes "6") ∷ [])
    ∷ (block_a (codes "SPHERE") (codes "6") ∷ [])
    ∷ (a_touch ∷ three_of_a ∷ []) ∷ (end_of_block ∷ three_of_a ∷ []) ∷ (three_of_a ∷ mode_man ∷ []) ∷ (three_of_a ∷ bare (codes "UNITS") [] ∷ [])
    ∷ (three_of_a ∷ bare (codes "RECALL") (codes "D(B)" ∷ []) ∷ []) ∷ (three_of_a ∷ bare (codes "RECALL") (codes "DA(B)" ∷ []) ∷ [])
    ∷ (three_of_a ∷ bare (codes "TRANS") [] ∷ []) ∷ []

-- a question for N, and answers
abbrev pub ask_n : Statement
ask_n = record { line = 7; label = Some (codes "N"); word = codes "PROMPT"; params = codes "'How many?'" ∷ [] }

abbrev pub only_m : List Answer
only_m = answer_of (codes "M") (codes "1") ∷ []

abbrev pub answers_n : List Answer
answers_n = only_m ++ answer_of (codes "n") (codes "x+2") ∷ answer_of (codes "N") (codes "4") ∷ []
