-- The programs of the examples are what their texts mean.
use Rattle.std.proofs.Common.{◌≡◌, [], ◌∷◌, ◌++◌, codes, Ok, refl}
use Rattle.dmis_program.specs.Meaning.{meaning_of, program_of}
use Rattle.dmis_program.specs.Judging.{judged}
use Rattle.dmis_program.specs.Keywords.{keyword_of}
use Rattle.dmis_program.specs.Parameters.{name_within, count_of}
use Rattle.dmis_program.specs.Positions.{length_of, component_of, position_of, direction_of}
use Rattle.dmis_program.specs.Sayings.{said_by, said_of}
use Rattle.fixed_um.specs.Scan.{exponent_of, numeral_of}
use Rattle.protocol_model.specs.PositionExamples.{moved_between}
use Rattle.protocol_model.specs.Examples.{part}
use Rattle.protocol_model.specs.Scripts.{empty, one_point, circle, two_frames, two_points, same_twice}

-- a program of nothing
pub empty_text : program_of [] (codes "DMISMN/'E',05.2\nENDFIL") ≡ Ok empty
unfolding meaning_of judged keyword_of name_within count_of length_of component_of position_of direction_of said_by said_of exponent_of
    numeral_of
empty_text = refl

-- a move and a touch
pub one_point_text : program_of []
    (codes "DMISMN/'ONE',05.2\nSNSLCT/S(P1)\nMEAS/POINT,F(A),1\nGOTO/10,20,30\n"
    ++ codes "PTMEAS/CART,10,20,25,0,0,1\nENDMES\nENDFIL")
    ≡ Ok one_point
unfolding meaning_of judged keyword_of name_within count_of length_of component_of position_of direction_of said_by said_of exponent_of
    numeral_of
one_point_text = refl

-- three touches around a circle
pub circle_text : program_of []
    (codes "DMISMN/'THREE',05.2\nSNSLCT/S(P1)\nMEAS/CIRCLE,F(C),3\nPTMEAS/CART,1,0,0,-1,0,0\n"
    ++ codes "PTMEAS/CART,0,1,0,0,-1,0\nPTMEAS/CART,-1,0,0,1,0,0\nENDMES\nENDFIL")
    ≡ Ok circle
unfolding meaning_of judged keyword_of name_within count_of length_of component_of position_of direction_of said_by said_of exponent_of
    numeral_of
circle_text = refl

-- a point, and a line in two frames
pub two_frames_text : program_of ((codes "PART", part) ∷ [])
    (codes "DMISMN/'FRAMES',05.2\nSNSLCT/S(P1)\nMEAS/POINT,F(A),1\nPTMEAS/CART,10,0,0,0,0,1\n"
    ++ codes "ENDMES\nMEAS/LINE,F(B),2\nPTMEAS/CART,20,0,0,0,0,1\nRECALL/D(PART)\n"
    ++ codes "PTMEAS/CART,30,0,0,0,0,1\nENDMES\nENDFIL")
    ≡ Ok two_frames
unfolding meaning_of judged keyword_of name_within count_of length_of component_of position_of direction_of said_by said_of exponent_of
    numeral_of
two_frames_text = refl

-- two features of one point
pub two_points_text : program_of []
    (codes "DMISMN/'TWO',05.2\nSNSLCT/S(P1)\nMEAS/POINT,F(A),1\nPTMEAS/CART,1,2,3,0,0,1\n"
    ++ codes "ENDMES\nMEAS/POINT,F(B),1\nPTMEAS/CART,4,5,6,0,0,1\nENDMES\nENDFIL")
    ≡ Ok two_points
unfolding meaning_of judged keyword_of name_within count_of length_of component_of position_of direction_of said_by said_of exponent_of
    numeral_of
two_points_text = refl

-- two touches that are alike
pub same_twice_text : program_of []
    (codes "DMISMN/'TWICE',05.2\nSNSLCT/S(P1)\nMEAS/LINE,F(A),2\nPTMEAS/CART,10,0,0,0,0,1\n"
    ++ codes "PTMEAS/CART,10,0,0,0,0,1\nENDMES\nENDFIL")
    ≡ Ok same_twice
unfolding meaning_of judged keyword_of name_within count_of length_of component_of position_of direction_of said_by said_of exponent_of
    numeral_of
same_twice_text = refl

-- moves and a tool after a touch
pub moved_between_text : program_of []
    (codes "DMISMN/'BETWEEN',05.2\nSNSLCT/S(P1)\nMEAS/POINT,F(A),1\nPTMEAS/CART,1,2,3,0,0,1\n"
    ++ codes "GOTO/1,2,10\nSNSLCT/S(P2)\nENDMES\nGOTO/4,5,10\nMEAS/POINT,F(B),1\n"
    ++ codes "PTMEAS/CART,4,5,6,0,0,1\nENDMES\nENDFIL")
    ≡ Ok moved_between
unfolding meaning_of judged keyword_of name_within count_of length_of component_of position_of direction_of said_by said_of exponent_of
    numeral_of
moved_between_text = refl
