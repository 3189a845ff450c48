-- What only proofs speak of.
use Rattle.dmis_program.proofs.Names.{[], ◌∷◌, Bool, ended, Err, false, List, Meaning, next, Ok, Option, Point, ReaderState, Refusal, Result}
use Rattle.dmis_program.proofs.Names.{Statement, TextFault, true, ℕ}

-- from here to the end of the program
abbrev pub ran : ℕ → Result (Bool × ReaderState) Refusal → (ReaderState → Result Meaning (Refusal × ℕ)) → Result Meaning (Refusal × ℕ)
ran line (Err refusal) behind = Err (refusal, line)
ran line (Ok (true, c)) behind = Ok (record { features = c.done; steps = c.steps })
ran line (Ok (false, c)) behind = behind c

abbrev pub run : List (List ℕ × Point) → Option TextFault → ℕ → List Statement → ReaderState → Result Meaning (Refusal × ℕ)
run frames fault lines [] c = Err (ended fault c.number lines)
run frames fault lines (s ∷ statements) c = ran s.line (next frames c s) (run frames fault lines statements)
