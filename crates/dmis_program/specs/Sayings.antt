-- What one statement says by itself, or why it is refused for itself.
use Rattle.std.specs.Prelude.{ℕ, Bool, true, false, not, ◌&&◌, ◌||◌, List, [], ◌∷◌, codes, Option, Some, None, Result, Ok, Err, is_some}
use Rattle.std.specs.Prelude.{if◌then◌else◌}
use Rattle.std.specs.List.{list_any}
use Rattle.std.specs.Str.{bytes_eq}
use Rattle.dmis_text.specs.Statements.{has_open_text}
use Rattle.dmis_text.specs.declared.elements.Statement.{Statement}
use Rattle.dmis_program.specs.Outcomes.{◌>>=◌}
use Rattle.dmis_program.specs.Positions.{position_of, direction_of}
use Rattle.dmis_program.specs.Parameters.{is_letters, begins, name_within, count_of, without_cart}
use Rattle.dmis_program.specs.declared.faults.Refusal.{Refusal}
use Rattle.dmis_program.specs.declared.faults.Refusal.TheVariants.{BadArguments, NotMillimetres, NoProgMode}
use Rattle.dmis_program.specs.declared.keywords.Keyword.{Keyword}
use Rattle.dmis_program.specs.declared.keywords.Keyword.TheVariants as word
use Rattle.dmis_program.specs.declared.sayings.StatementMeaning.{StatementMeaning}
use Rattle.dmis_program.specs.declared.sayings.StatementMeaning.TheVariants.{Goes, Begins, Touches, Ends, Selects, Recalls, Closes, Passes}

-- `GOTO/x,y,z` and `GOTO/CART,x,y,z`: a move
abbrev pub goes : List (List ℕ) → Result StatementMeaning Refusal
goes (x ∷ (y ∷ (z ∷ []))) = position_of x y z >>= λ target. Ok (Goes target)
goes _ = Err BadArguments

-- `MEAS/kind,F(name),n`: a block for the feature of this name begins, which asks for n touches
abbrev pub begun : Bool → Option (List ℕ) → Option ℕ → Result StatementMeaning Refusal
begun true (Some name) (Some count) = Ok (Begins name count)
begun _ _ _ = Err BadArguments

abbrev pub begins_block : List (List ℕ) → Result StatementMeaning Refusal
begins_block (kind ∷ (feature ∷ (count ∷ []))) = begun (is_letters kind) (name_within (codes "F(") feature) (count_of count)
begins_block _ = Err BadArguments

-- `x,y,z` and `x,y,z,i,j,k`: a touch at a target, with a direction
abbrev pub touches_at : List (List ℕ) → Result StatementMeaning Refusal
touches_at (x ∷ (y ∷ (z ∷ []))) = position_of x y z >>= λ target. Ok (Touches target None)
touches_at (x ∷ (y ∷ (z ∷ (i ∷ (j ∷ (k ∷ [])))))) = position_of x y z >>= λ target.
    (direction_of i j k >>= λ direction. Ok (Touches target (Some direction)))
touches_at _ = Err BadArguments

-- the same after `PTMEAS/CART`
abbrev pub touches : List (List ℕ) → Result StatementMeaning Refusal
touches [] = Err BadArguments
touches (first ∷ rest) = if bytes_eq first (codes "CART") then touches_at rest else Err BadArguments

-- `ENDMES` and `ENDFIL` have no parameters
abbrev pub without_parameters : StatementMeaning → List (List ℕ) → Result StatementMeaning Refusal
without_parameters said [] = Ok said
without_parameters said (first ∷ rest) = Err BadArguments

-- `SNSLCT/S(name)` and `SNSLCT/SA(name)`: a tool is selected
abbrev pub selected : Option (List ℕ) → Option (List ℕ) → Result StatementMeaning Refusal
selected (Some name) other = Ok (Selects name)
selected None (Some name) = Ok (Selects name)
selected None None = Err BadArguments

abbrev pub selects : List (List ℕ) → Result StatementMeaning Refusal
selects (first ∷ []) = selected (name_within (codes "S(") first) (name_within (codes "SA(") first)
selects _ = Err BadArguments

-- `RECALL/D(name)`: a stored frame is selected. `RECALL/S(..)` and `RECALL/SA(..)` command nothing
abbrev pub recalled : Option (List ℕ) → Result StatementMeaning Refusal
recalled (Some name) = Ok (Recalls name)
recalled None = Err BadArguments

abbrev pub recalls_frame : List (List ℕ) → Result StatementMeaning Refusal
recalls_frame (first ∷ []) = recalled (name_within (codes "D(") first)
recalls_frame _ = Err BadArguments

abbrev pub recalls : List (List ℕ) → Result StatementMeaning Refusal
recalls [] = Err BadArguments
recalls (first ∷ rest) = if begins (codes "D(") first then recalls_frame (first ∷ rest) else Ok Passes

-- `UNITS/MM,..`
abbrev pub units : List (List ℕ) → Result StatementMeaning Refusal
units [] = Err BadArguments
units (first ∷ rest) = if bytes_eq first (codes "MM") then Ok Passes else Err NotMillimetres

-- `MODE/..` with PROG among the words
abbrev pub mode : List (List ℕ) → Result StatementMeaning Refusal
mode [] = Err BadArguments
mode (first ∷ rest) = if list_any (λ p. bytes_eq p (codes "PROG")) (first ∷ rest) then Ok Passes else Err NoProgMode

-- by keyword. An unknown word never gets this far
unfoldable pub said_by : Keyword → List (List ℕ) → Result StatementMeaning Refusal
said_by word.Dmismn params = Ok Passes
said_by word.Goto params = goes (without_cart params)
said_by word.Meas params = begins_block params
said_by word.Ptmeas params = touches params
said_by word.Endmes params = without_parameters Ends params
said_by word.Snslct params = selects params
said_by word.Recall params = recalls params
said_by word.Endfil params = without_parameters Closes params
said_by word.Units params = units params
said_by word.Mode params = mode params
said_by word.Definition params = Ok Passes
said_by word.Passed params = Ok Passes
said_by word.Unknown params = Ok Passes

-- whether a word may have a label
abbrev pub may_have_label : Keyword → Bool
may_have_label word.Definition = true
may_have_label _ = false

-- a label before a word that is not a definition, or a text that is not closed
abbrev pub is_badly_formed : Keyword → Statement → Bool
is_badly_formed keyword s = (is_some s.label && not (may_have_label keyword)) || has_open_text s

unfoldable pub said_of : Keyword → Statement → Result StatementMeaning Refusal
said_of keyword s = if is_badly_formed keyword s then Err BadArguments else said_by keyword s.params
