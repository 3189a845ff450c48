-- The reasons as they are printed (this profile).
use Rattle.std.specs.Prelude.{Bool, true, false, List, [], ◌∷◌, ◌++◌, ℕ, codes}
use Rattle.program_lowering.specs.declared.words.Reason.{Reason}
use Rattle.program_lowering.specs.declared.words.Reason.TheVariants.{Printing, Naming, Evaluating, Motion, Clearing, Uncompensated}
use Rattle.program_lowering.specs.declared.words.Reason.TheVariants.{Compensated, Manual, Passed, Stored, Declared, Assigned, Leads, Touched}

abbrev pub reason_text : Reason → List ℕ
reason_text Printing = codes "it says what is printed or shown, and where"
reason_text Naming = codes "it names what is measured, by whom, or on what"
reason_text Evaluating = codes "it computes with touches that are made already"
reason_text Motion = codes "a setting of motion or probing; the machine keeps its own"
reason_text Clearing = codes "it clears the part between features; nothing moves there by itself"
reason_text Uncompensated = codes "nothing is corrected for temperature"
reason_text Compensated = codes "the machine corrects for temperature"
reason_text Manual = codes "it is in a manual block; the operator would carry it out"
reason_text Stored = codes "the frames are the setup's"
reason_text Passed = codes "it commands nothing"
reason_text Declared = codes "it declares variables"
reason_text Assigned = codes "from here on "
reason_text Leads = codes "it leads to line "
reason_text Touched = []

-- what is before it, after the word
abbrev pub joint : Reason → List ℕ
joint Touched = codes " "
joint _ = codes " is left out: "

-- and what follows: the name of a variable with its value, a line, or how many touches of what a block is given, and from where
abbrev pub assigned_text : List (List ℕ) → List ℕ
assigned_text (name ∷ (value ∷ [])) = name ++ (codes " is " ++ value)
assigned_text _ = []

abbrev pub first_param : List (List ℕ) → List ℕ
first_param [] = []
first_param (line ∷ others) = line

abbrev pub start_text : Bool → List ℕ
start_text true = codes "its axis, on two levels"
start_text false = codes "its centre"

unfoldable pub touches_text : List ℕ → List ℕ → List ℕ → List ℕ
touches_text count name start =
    count ++ (codes " touches of F(" ++ (name ++ (codes "), each from " ++ (start ++ codes ": see that the way there is free"))))

abbrev pub given_text : List (List ℕ) → List ℕ
given_text (count ∷ (name ∷ (start ∷ rest))) = touches_text count name start
given_text _ = []

abbrev pub detail : Reason → List (List ℕ) → List ℕ
detail Assigned params = assigned_text params
detail Leads params = first_param params
detail Touched params = given_text params
detail _ params = []
