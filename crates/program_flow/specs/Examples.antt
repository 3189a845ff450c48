-- What the examples of this crate speak of.
use Rattle.std.specs.Prelude.{ℕ, ◌+◌, List, [], ◌∷◌, ◌++◌, map, codes, Some, None, if◌then◌else◌}
use Rattle.dmis_text.specs.declared.elements.Statement.{Statement}
use Rattle.program_flow.specs.Calls.{carried_out, is_lead}

-- a statement on a line, with these parameters or with none
abbrev pub on : ℕ → List ℕ → List (List ℕ) → Statement
on line word params = record { line = line; label = None; word = word; params = params }

abbrev pub alone : ℕ → List ℕ → Statement
alone line word = on line word []

abbrev pub with_one : ℕ → List ℕ → List ℕ → Statement
with_one line word param = on line word (param ∷ [])

-- I, J and K are declared on line 1
abbrev pub declared : Statement
declared = on 1 (codes "DECL") (codes "GLOBAL" ∷ (codes "INTGR" ∷ (codes "I" ∷ (codes "J" ∷ (codes "K" ∷ [])))))

abbrev pub assigned : ℕ → List ℕ → List ℕ → Statement
assigned line name text = record { line = line; label = Some name; word = codes "ASSIGN"; params = text ∷ [] }

-- what comes out of some statements but decisions, and these
abbrev pub but_leads : List Statement → List Statement
but_leads [] = []
but_leads (s ∷ below) = if is_lead s then but_leads below else s ∷ but_leads below

abbrev pub only_leads : List Statement → List Statement
only_leads [] = []
only_leads (s ∷ below) = if is_lead s then s ∷ only_leads below else only_leads below

abbrev pub lines_of : List Statement → List ℕ
lines_of statements = map (λ (s : Statement). s.line) (but_leads (carried_out statements))

abbrev pub leads_of : List Statement → List Statement
leads_of statements = only_leads (carried_out statements)

-- an IF with both branches, by a condition
abbrev pub branching : List ℕ → List Statement
branching condition = declared ∷ (assigned 2 (codes "I") (codes "5") ∷ (with_one 3 (codes "IF") condition ∷ (alone 4 (codes "A")
    ∷ (alone 5 (codes "ELSE") ∷ (alone 6 (codes "B") ∷ (alone 7 (codes "ENDIF") ∷ (alone 8 (codes "C") ∷ [])))))))

-- a DO around one statement
abbrev pub looping : List (List ℕ) → List Statement
looping params = declared ∷ (on 2 (codes "DO") params ∷ (alone 3 (codes "A") ∷ (alone 4 (codes "ENDDO") ∷ (alone 5 (codes "B") ∷ []))))

-- a DO in a DO, whose first value is the outer index
abbrev pub nested : List Statement
nested = declared ∷ (on 2 (codes "DO") (codes "I" ∷ (codes "1" ∷ (codes "3" ∷ []))) ∷ (on 3 (codes "DO") (codes "J" ∷ (codes "I" ∷ (codes "2" ∷ [])))
    ∷ (alone 4 (codes "A") ∷ (alone 5 (codes "ENDDO") ∷ (alone 6 (codes "ENDDO") ∷ [])))))

-- a DO whose limit changes
abbrev pub changing : List Statement
changing = declared ∷ (assigned 2 (codes "K") (codes "2") ∷ (on 3 (codes "DO") (codes "I" ∷ (codes "1" ∷ (codes "K" ∷ [])))
    ∷ (assigned 4 (codes "K") (codes "9") ∷ (alone 5 (codes "ENDDO") ∷ []))))

-- a jump to a label in this text: out of a loop, and into one
abbrev pub jumping : List ℕ → List Statement
jumping label = declared ∷ (on 2 (codes "DO") (codes "I" ∷ (codes "1" ∷ (codes "9" ∷ []))) ∷ (with_one 3 (codes "JUMPTO") label
    ∷ (alone 4 (codes "ENDDO") ∷ (on 5 (codes "DO") (codes "J" ∷ (codes "1" ∷ (codes "9" ∷ []))) ∷ (alone 6 (codes "(IN)") ∷ (alone 7 (codes "ENDDO")
    ∷ (alone 8 (codes "(OUT)") ∷ (alone 9 (codes "A") ∷ []))))))))

-- a SELECT by a text: a CASE of one value, one of 3 and of I, which is 5, and a DFTCAS
abbrev pub selecting : List ℕ → List Statement
selecting text = declared ∷ (assigned 2 (codes "I") (codes "5") ∷ (with_one 3 (codes "SELECT") text ∷ (with_one 4 (codes "CASE") (codes "1")
    ∷ (alone 5 (codes "A") ∷ (alone 6 (codes "ENDCAS") ∷ (on 7 (codes "CASE") (codes "3" ∷ (codes "I" ∷ [])) ∷ (alone 8 (codes "B")
    ∷ (alone 9 (codes "ENDCAS") ∷ (alone 10 (codes "DFTCAS") ∷ (alone 11 (codes "C") ∷ (alone 12 (codes "ENDCAS") ∷ (alone 13 (codes "ENDSEL")
    ∷ (alone 14 (codes "D") ∷ [])))))))))))))

-- the branches around one statement, each in three lines from this one on
abbrev pub case_on : ℕ → List (List ℕ) → List Statement
case_on line values = on line (codes "CASE") values ∷ (alone (line + 1) (codes "A") ∷ (alone (line + 2) (codes "ENDCAS") ∷ []))

abbrev pub case_of : ℕ → List ℕ → List Statement
case_of line value = case_on line (value ∷ [])

abbrev pub default_on : ℕ → List Statement
default_on line = alone line (codes "DFTCAS") ∷ (alone (line + 1) (codes "B") ∷ (alone (line + 2) (codes "ENDCAS") ∷ []))

-- a SELECT by a text on line 1 around some statements, and one statement below it
abbrev pub select_of : List ℕ → List Statement → List Statement
select_of text inner = with_one 1 (codes "SELECT") text ∷ (inner ++ (alone 20 (codes "ENDSEL") ∷ (alone 21 (codes "D") ∷ [])))

abbrev pub select_around : List Statement → List Statement
select_around inner = select_of (codes "2") inner

-- a CASE of this value around a SELECT of 2 that has a CASE of 2 and a DFTCAS, on lines 2 to 12
abbrev pub select_in_case : List ℕ → List Statement
select_in_case value = with_one 2 (codes "CASE") value ∷ (with_one 3 (codes "SELECT") (codes "2") ∷ (case_on 4 (codes "2" ∷ []) ++ (default_on 7
    ++ (alone 10 (codes "ENDSEL") ∷ (alone 11 (codes "E") ∷ (alone 12 (codes "ENDCAS") ∷ []))))))

-- a jump to a label in this text: within a branch, between two, into another, and out of the SELECT
abbrev pub jumping_in_select : List ℕ → List Statement
jumping_in_select label = with_one 1 (codes "SELECT") (codes "1") ∷ (with_one 2 (codes "CASE") (codes "1") ∷ (with_one 3 (codes "JUMPTO") label
    ∷ (alone 4 (codes "A") ∷ (alone 5 (codes "(IN)") ∷ (alone 6 (codes "B") ∷ (alone 7 (codes "ENDCAS") ∷ (alone 8 (codes "(BETWEEN)")
    ∷ (with_one 9 (codes "CASE") (codes "2") ∷ (alone 10 (codes "(OTHER)") ∷ (alone 11 (codes "ENDCAS") ∷ (alone 12 (codes "ENDSEL")
    ∷ (alone 13 (codes "C") ∷ (alone 14 (codes "(OUT)") ∷ (alone 15 (codes "D") ∷ []))))))))))))))
