-- What the examples of macros and calls speak of.
use Rattle.std.specs.Prelude.{ℕ, List, [], ◌∷◌, ◌++◌, codes, Some}
use Rattle.dmis_text.specs.declared.elements.Statement.{Statement}
use Rattle.program_flow.specs.Examples.{alone, on, with_one}

abbrev pub labelled : ℕ → List ℕ → List ℕ → List (List ℕ) → Statement
labelled line label word params = record { line = line; label = Some label; word = word; params = params }

abbrev pub macro_head : ℕ → List ℕ → List (List ℕ) → Statement
macro_head line name [] = alone line (name ++ codes "=MACRO")
macro_head line name (param ∷ params) = labelled line name (codes "MACRO") (param ∷ params)

-- a macro around some statements, on these lines
abbrev pub macro_on : ℕ → ℕ → List ℕ → List (List ℕ) → List Statement → List Statement
macro_on line end name params inner = macro_head line name params ∷ (inner ++ (alone end (codes "ENDMAC") ∷ []))

abbrev pub call_on : ℕ → List ℕ → List (List ℕ) → Statement
call_on line name arguments = on line (codes "CALL") (name ∷ arguments)

-- a macro of N and TO, that is called on line 6 with these arguments, and a statement of N outside
abbrev pub calling : List (List ℕ) → List Statement
calling arguments = macro_on 1 4 (codes "M(A)") (codes "N" ∷ (codes "TO" ∷ [])) (on 2 (codes "GOTO") (codes "N*2+TO" ∷ (codes "N2" ∷ (codes "TON" ∷ [])))
    ∷ (labelled 3 (codes "F(N)") (codes "TEXT") (codes "'N'" ∷ (codes "P@N" ∷ [])) ∷ []))
    ++ (alone 5 (codes "N") ∷ (call_on 6 (codes "M(A)") arguments ∷ (with_one 7 (codes "B") (codes "N") ∷ [])))

-- what comes out of it, if N is 7 and TO is I; the CALL leads to line 2
abbrev pub called : List Statement
called = alone 5 (codes "N") ∷ (with_one 6 (codes "CALL") (codes "2") ∷ (on 2 (codes "GOTO") (codes "7*2+I" ∷ (codes "N2" ∷ (codes "TON" ∷ [])))
    ∷ (labelled 3 (codes "F(7)") (codes "TEXT") (codes "'N'" ∷ (codes "P@7" ∷ [])) ∷ (with_one 7 (codes "B") (codes "N") ∷ []))))

-- a macro of N that calls another of N with one more
abbrev pub calling_twice : List Statement
calling_twice = call_on 1 (codes "M(A)") (codes "3" ∷ []) ∷ (macro_on 2 4 (codes "M(A)") (codes "N" ∷ []) (call_on 3 (codes "M(B)") (codes "N+1" ∷ []) ∷ [])
    ++ macro_on 5 7 (codes "M(B)") (codes "N" ∷ []) (with_one 6 (codes "B") (codes "N") ∷ []))

-- a macro that is called on line 4, around a jump to this label, with labels in it, of which one is a parameter, and outside
abbrev pub jumping_in_macro : List ℕ → List Statement
jumping_in_macro label = alone 1 (codes "(SAME)") ∷ (alone 2 (codes "A") ∷ (call_on 3 (codes "M(A)") (codes "ARG" ∷ []) ∷ (alone 4 (codes "(OUT)") ∷ (alone 5 (codes "B")
    ∷ macro_on 6 13 (codes "M(A)") (codes "P" ∷ []) (with_one 7 (codes "JUMPTO") label ∷ (alone 8 (codes "C") ∷ (alone 9 (codes "(SAME)") ∷ (alone 10 (codes "D")
    ∷ (alone 11 (codes "(P)") ∷ (alone 12 (codes "E") ∷ []))))))))))

-- a macro around some statements, that is called on line 20
abbrev pub calling_with : List Statement → List Statement
calling_with inner = macro_on 1 19 (codes "M(A)") [] inner ++ (call_on 20 (codes "M(A)") [] ∷ (alone 21 (codes "B") ∷ []))
