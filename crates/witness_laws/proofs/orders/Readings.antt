-- What the lines of the examples read as.
use Rattle.witness_laws.proofs.Names.{◌++◌, ◌∷◌, ◌≡◌, ◌≤◌, [], arith, Command, command_of, Err, fault_in, first_line_at, inr, IsLine, IsStream, IsTag}
use Rattle.witness_laws.proofs.Names.{IsWritable, LineFault, List, MachineCsy, next_of, Ok, reads_command, reads_response, ReadsCommand, refl}
use Rattle.witness_laws.proofs.Names.{response_of, Result, Std, stream_end, stream_more, Tag, whole_lines, written_tag, ℕ}
use Rattle.dme_line.specs.Responses.{IsMarkText}
use Rattle.dme_line.specs.declared.reading.LineFault.TheVariants.{NoTag}
use Rattle.dme_line.specs.declared.responses.Mark.{Mark}
use Rattle.dme_line.proofs.CommandBack.{command_reads_back}
use Rattle.dme_line.proofs.OneCommand.{one_command_reading}
use Rattle.dme_line.proofs.OneResponse.{one_response_reading}
use Rattle.dme_line.specs.Written.{written_command}
use Rattle.witness_laws.specs.OrderExamples.{home, received, refused, ended, selected, home_2, ended_2, untagged, origin, moves, with_end}
use Rattle.witness_laws.proofs.orders.Arrivals.{whole_is}

one_command : (line : List ℕ) (r : Result (Tag × Command) LineFault) → ReadsCommand line r → command_of line ≡ r
one_command line r read = one_command_reading line (command_of line) r (reads_command line) read

pub one_mark : (line text : List ℕ) (tag : Tag) (mark : Mark) → IsTag tag → line ≡ written_tag tag ++ 32 ∷ text → IsMarkText text mark
    → response_of line ≡ Ok (record { tag = tag; mark = mark })
one_mark line text tag mark tagged parts marked =
    one_response_reading line (response_of line) (Ok (record { tag = tag; mark = mark })) (reads_response line)
    (record { text = text; tagged = tagged; parts = parts; marked = marked })

can_be_written : (n : ℕ) → 1 ≤ n → n ≤ 99999 → IsWritable (Std n) Command.Home
can_be_written n least most = record { tagged = record { numbered = (least, most); sort = refl }; arguments = tt }

pub home_reads : command_of home ≡ Ok (Std 1, Command.Home)
unfolding written_command
home_reads = one_command home (Ok (Std 1, Command.Home)) (command_reads_back (Std 1) Command.Home (can_be_written 1 (omega arith) (omega arith)))

pub home_2_reads : command_of home_2 ≡ Ok (Std 2, Command.Home)
unfolding written_command
home_2_reads = one_command home_2 (Ok (Std 2, Command.Home)) (command_reads_back (Std 2) Command.Home (can_be_written 2 (omega arith) (omega arith)))

pub received_reads : response_of received ≡ Ok (record { tag = Std 1; mark = Mark.Ack })
received_reads = one_mark received (38 ∷ []) (Std 1) Mark.Ack (omega arith) refl ([], refl, refl)

pub ended_reads : response_of ended ≡ Ok (record { tag = Std 1; mark = Mark.Done })
ended_reads = one_mark ended (37 ∷ []) (Std 1) Mark.Done (omega arith) refl ([], refl, refl)

pub ended_2_reads : response_of ended_2 ≡ Ok (record { tag = Std 2; mark = Mark.Done })
ended_2_reads = one_mark ended_2 (37 ∷ []) (Std 2) Mark.Done (omega arith) refl ([], refl, refl)

pub refused_reads : response_of refused ≡ Ok (record { tag = Std 1; mark = Mark.Error [] })
refused_reads = one_mark refused (33 ∷ []) (Std 1) (Mark.Error []) (omega arith) refl (inr (refl, refl))

pub selected_reads : command_of selected ≡ Ok (Std 1, Command.SetCoordSystem MachineCsy)
unfolding written_command
selected_reads =
    one_command selected (Ok (Std 1, Command.SetCoordSystem MachineCsy)) (command_reads_back (Std 1) (Command.SetCoordSystem MachineCsy)
    (record { tagged = record { numbered = (omega arith, omega arith); sort = refl }; arguments = tt }))

pub moves_reads : command_of moves ≡ Ok (Std 1, Command.GoTo origin)
moves_reads =
    one_command moves (Ok (Std 1, Command.GoTo origin)) (command_reads_back (Std 1) (Command.GoTo origin)
    (record {
      tagged = record { numbered = (omega arith, omega arith); sort = refl };
      arguments = record { x = omega arith; y = omega arith; z = omega arith };
    }))

not_empty : (xs ys : List ℕ) → ([] ≡ xs ++ (32 ∷ ys)) → ⊥
not_empty [] ys e = absurd (cc (e))
not_empty (x ∷ xs) ys e = absurd (cc (e))

pub untagged_reads : command_of untagged ≡ Err NoTag
untagged_reads = one_command untagged (Err NoTag) (λ tag text tagged. not_empty (written_tag tag) text tagged.parts)

-- ---- bytes

pub home_line : IsLine home
home_line = record { free = refl; short = omega arith }

pub received_line : IsLine received
received_line = record { free = refl; short = omega arith }

pub line_stream : (line : List ℕ) → IsLine line → IsStream (with_end line) (line ∷ []) [] (fault_in (next_of []))
line_stream line is =
    stream_more (with_end line) line [] [] [] (fault_in (next_of [])) (first_line_at line [] is) (stream_end [] refl)

pub line_whole : (line : List ℕ) → IsLine line → whole_lines (with_end line) ≡ line ∷ []
line_whole line is = whole_is (with_end line) (line ∷ []) [] (fault_in (next_of [])) (line_stream line is)
