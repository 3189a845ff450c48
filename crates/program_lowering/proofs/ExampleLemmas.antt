-- The examples, computed.
use Rattle.program_lowering.proofs.Names.{[], ◌++◌, ◌∷◌, ◌≡◌, ◌≤◌, arith, as_read, BadByte, codes, decimal, false, flat, flat_line, flat_meant}
use Rattle.program_lowering.proofs.Names.{flat_text, is_operator_text, left_out, length, length-append, length-decimal-le, nat_lt, nat_tests, None}
use Rattle.program_lowering.proofs.Names.{Err, map, Ok, passed_over, Passes, refl, Some, steps_from, text_refusal, true, Unsupported}
use Rattle.fixed_um.specs.Scan.{exponent_of, numeral_of}
use Rattle.std.specs.Option.{option_map}
use Rattle.dmis_program.specs.Keywords.{keyword_of}
use Rattle.program_lowering.specs.Examples.{a_touch, all_choices, bare, first_by_hand, make_a, make_a_on_7, make_b, manual_front, measured, mode_man, mode_prog}
use Rattle.program_lowering.specs.Examples.{naming_a, naming_none, of_setup, plain_choices, recall_a, saving, start, to_operator, two_frames}
use Rattle.program_lowering.specs.Lowering.{counted_at, kept}
use Rattle.program_lowering.specs.StoredFrames.{by_frame, frame_note, frame_notes, is_used}
use Rattle.dmis_program.specs.Judging.{judged}
use Rattle.dmis_program.specs.LookBack.{frame_said, nearest}
use Rattle.dmis_program.specs.Parameters.{name_within}
use Rattle.dmis_program.specs.Positions.{length_of, position_of}
use Rattle.dmis_program.specs.Sayings.{said_by, said_of}
use Rattle.program_lowering.proofs.Names.{Recalls}
use Rattle.program_lowering.specs.Manual.{in_manual, is_skipped}
use Rattle.program_lowering.specs.declared.words.Reason.TheVariants as reason
use Rattle.program_lowering.specs.Inches.{in_inches, stated}
use Rattle.program_flow.specs.Blocks.{part_of}

pub printing : left_out plain_choices (bare (codes "VFORM") (codes "ALL" ∷ [])) ≡ Some reason.Printing
unfolding keyword_of part_of
printing = refl

pub naming : left_out plain_choices (bare (codes "LOTID") []) ≡ Some reason.Naming
unfolding keyword_of part_of
naming = refl

pub evaluating : left_out plain_choices (bare (codes "EVAL") []) ≡ Some reason.Evaluating
unfolding keyword_of part_of
evaluating = refl

pub motion : left_out plain_choices (bare (codes "RAPID") []) ≡ Some reason.Motion
unfolding keyword_of part_of
motion = refl

pub clearing : left_out plain_choices (bare (codes "CLRSRF") (codes "20" ∷ [])) ≡ None
unfolding keyword_of part_of
clearing = refl

pub no_clearing : left_out all_choices (bare (codes "CLRSRF") (codes "20" ∷ [])) ≡ Some reason.Clearing
unfolding keyword_of part_of
no_clearing = refl

pub uncompensated : left_out plain_choices (bare (codes "TECOMP") (codes "OFF" ∷ [])) ≡ Some reason.Uncompensated
unfolding keyword_of part_of
uncompensated = refl

pub compensated : left_out plain_choices (bare (codes "TECOMP") (codes "ON" ∷ [])) ≡ None
unfolding keyword_of part_of
compensated = refl

pub loop_stays : left_out all_choices (bare (codes "DO") (codes "I" ∷ [])) ≡ None
unfolding keyword_of part_of
loop_stays = refl

pub open_text : left_out all_choices (bare (codes "PARTID") (codes "'A" ∷ [])) ≡ None
unfolding keyword_of part_of
open_text = refl

pub written : flat_text (flat (codes "PTMEAS") (codes "CART" ∷ codes "1.000" ∷ [])) ≡ codes "PTMEAS/CART,1.000"
written = refl

pub text_oper : option_map flat_text (flat_meant to_operator Passes) ≡ Some (codes "TEXT/OPER,'Turn, then /go'")
text_oper = refl

pub text_man : is_operator_text (bare (codes "TEXT") (codes "MAN" ∷ [])) ≡ true
text_man = refl

pub text_outfil : flat_meant (bare (codes "TEXT") (codes "OUTFIL" ∷ codes "'A'" ∷ [])) Passes ≡ None
unfolding keyword_of part_of
text_outfil = refl

pub text_display : is_operator_text (bare (codes "DISPLY") (codes "OPER" ∷ [])) ≡ false
text_display = refl

pub text_noted : passed_over to_operator (Ok Passes) ≡ None
text_noted = refl

text_short : length (flat_line (as_read to_operator) 1) ≤ 4096
text_short =
    omega (
      arith,
      length-append (flat_text (as_read to_operator)) (codes " $$ line " ++ decimal 1),
      length-append (codes " $$ line ") (decimal 1),
      length-decimal-le 20 1 (omega arith) (omega arith) (omega arith),
    )

pub text_fits : text_refusal to_operator ≡ None
text_fits =
    let long : nat_lt 4096 (length (flat_line (as_read to_operator) 1)) ≡ false = grind (arith, nat_tests, text_short) in
    rw long refl

pub text_dollar : text_refusal (bare (codes "TEXT") (codes "OPER" ∷ codes "A$B" ∷ [])) ≡ Some BadByte
text_dollar = refl

pub text_blank : text_refusal (bare (codes "TEXT") (codes "MAN" ∷ codes "'A' 'B'" ∷ [])) ≡ Some BadByte
text_blank = refl

pub text_others : text_refusal (bare (codes "TEXT") (codes "OUTFIL" ∷ codes "A$B" ∷ [])) ≡ None
text_others = refl

pub unit_inch : (stated false (bare (codes "UNITS") (codes "INCH" ∷ codes "ANGDEC" ∷ []))).params ≡ codes "MM" ∷ codes "ANGDEC" ∷ []
unfolding keyword_of part_of
unit_inch = refl

pub unit_other : (stated false (bare (codes "UNITS") (codes "FEET" ∷ []))).params ≡ codes "FEET" ∷ []
unfolding keyword_of part_of
unit_other = refl

pub unit_on : in_inches (bare (codes "ENDMES") [] ∷ bare (codes "UNITS") (codes "INCH" ∷ []) ∷ []) ≡ true
unfolding keyword_of part_of
unit_on = refl

pub unit_off : in_inches (bare (codes "UNITS") (codes "MM" ∷ []) ∷ bare (codes "UNITS") (codes "INCH" ∷ []) ∷ []) ≡ false
unfolding keyword_of part_of
unit_off = refl

pub unit_polar : (stated true (bare (codes "GOTO") (codes "POL" ∷ codes "1" ∷ []))).params ≡ codes "POL" ∷ codes "1" ∷ []
unfolding keyword_of part_of
unit_polar = refl

pub manual_skipped : kept all_choices first_by_hand ≡ start ∷ (manual_front ++ (mode_prog ∷ measured))
unfolding keyword_of part_of
manual_skipped = refl

pub manual_unasked : kept plain_choices first_by_hand ≡ first_by_hand
unfolding keyword_of part_of
manual_unasked = refl

pub manual_again : in_manual (bare (codes "ENDMES") [] ∷ mode_man ∷ mode_prog ∷ []) ≡ true
unfolding keyword_of part_of
manual_again = refl

pub manual_ended : in_manual (bare (codes "GOTO") [] ∷ mode_prog ∷ mode_man ∷ []) ≡ false
unfolding keyword_of part_of
manual_ended = refl

pub manual_automatic : in_manual (bare (codes "MODE") (codes "AUTO" ∷ codes "MAN" ∷ []) ∷ []) ≡ false
unfolding keyword_of part_of
manual_automatic = refl

pub manual_scanned : is_skipped true (bare (codes "SCAN") []) ≡ true
unfolding keyword_of part_of
manual_scanned = refl

pub manual_looped : is_skipped true (bare (codes "DO") []) ≡ false
unfolding keyword_of part_of
manual_looped = refl

pub manual_open : is_skipped true (bare (codes "GOTO") (codes "'A" ∷ [])) ≡ false
unfolding keyword_of part_of
manual_open = refl

pub frames_selecting : map (by_frame all_choices (is_used [])) naming_a ≡ recall_a ∷ recall_a ∷ recall_a ∷ recall_a ∷ []
unfolding keyword_of part_of name_within
frames_selecting = refl

pub frames_unasked : map (by_frame plain_choices (is_used [])) naming_a ≡ naming_a
unfolding keyword_of part_of name_within
frames_unasked = refl

pub frames_others : map (by_frame all_choices (is_used [])) naming_none ≡ naming_none
unfolding keyword_of part_of name_within
frames_others = refl

pub frames_setup : map (left_out all_choices) of_setup ≡ Some reason.Stored ∷ Some reason.Stored ∷ Some reason.Stored ∷ []
unfolding keyword_of part_of
frames_setup = refl

pub frames_setup_unasked : map (left_out plain_choices) of_setup ≡ None ∷ None ∷ None ∷ []
unfolding keyword_of part_of
frames_setup_unasked = refl

pub frames_saved : map (left_out all_choices) saving ≡ None ∷ None ∷ []
unfolding keyword_of part_of
frames_saved = refl

pub frame_nearest : nearest frame_said (make_b ∷ recall_a ∷ []) ≡ Some (codes "B")
unfolding keyword_of part_of name_within said_of said_by position_of
frame_nearest = refl

pub frame_before : nearest frame_said (recall_a ∷ make_b ∷ recall_a ∷ []) ≡ Some (codes "A")
unfolding keyword_of part_of name_within said_of said_by position_of
frame_before = refl

pub frames_listed : frame_notes two_frames
    ≡ frame_note 1 (Ok (Recalls (codes "A"))) 2 ++ (frame_note 1 (Ok (Recalls (codes "B"))) 1 ++ [])
unfolding keyword_of part_of name_within said_of said_by position_of length_of numeral_of exponent_of
frames_listed = refl

pub again_in_a_row : kept all_choices (start ∷ make_a ∷ make_a ∷ a_touch ∷ []) ≡ start ∷ recall_a ∷ recall_a ∷ a_touch ∷ []
unfolding keyword_of part_of name_within said_of said_by
again_in_a_row = refl

pub again_touched : kept all_choices (start ∷ make_a ∷ a_touch ∷ make_a ∷ []) ≡ start ∷ recall_a ∷ a_touch ∷ make_a ∷ []
unfolding keyword_of part_of name_within said_of said_by
again_touched = refl

pub again_recalled_before : counted_at all_choices (a_touch ∷ recall_a ∷ start ∷ []) make_a ≡ make_a
unfolding keyword_of part_of name_within said_of said_by
again_recalled_before = refl

pub again_long_before : counted_at all_choices (recall_a ∷ make_b ∷ a_touch ∷ recall_a ∷ start ∷ []) make_a ≡ make_a
unfolding keyword_of part_of name_within said_of said_by
again_long_before = refl

pub again_another : counted_at all_choices (a_touch ∷ make_b ∷ recall_a ∷ start ∷ []) make_a ≡ recall_a
unfolding keyword_of part_of name_within said_of said_by
again_another = refl

pub again_recalled : counted_at all_choices (a_touch ∷ recall_a ∷ start ∷ []) (bare (codes "RECALL") (codes "DA(A)" ∷ [])) ≡ recall_a
unfolding keyword_of part_of name_within said_of said_by
again_recalled = refl

pub again_manual : counted_at all_choices (a_touch ∷ mode_man ∷ recall_a ∷ start ∷ []) make_a ≡ recall_a
unfolding keyword_of part_of name_within said_of said_by
again_manual = refl

pub again_refused : steps_from [] None 9 (a_touch ∷ recall_a ∷ start ∷ []) (make_a_on_7 ∷ []) ≡ Err (Unsupported, 7)
unfolding keyword_of part_of judged
again_refused = refl
