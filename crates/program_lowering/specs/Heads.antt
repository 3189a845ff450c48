-- The comments before a flat program: what it was written of, and how (this profile).
use Rattle.std.specs.Prelude.{◌≡◌, ℕ, ◌≤◌, true, List, [], ◌∷◌, ◌++◌, length, map, take, codes, Bool, if◌then◌else◌}
use Rattle.std.specs.List.{list_all}
use Rattle.record_text.specs.Seals.{digest_of}
use Rattle.dmis_text.specs.Texts.{may_stand}
use Rattle.program_lowering.specs.Prompts.{Answer}
use Rattle.program_lowering.specs.Lowering.{ended_lines, flat_program}
use Rattle.program_lowering.specs.declared.words.Choices.{Choices}

-- a line that is a comment: `$$`, and bytes that may be in one. A `$` is 36
pub record IsComment (line : List ℕ) : Type 0 where
  pub text : List ℕ
  pub is : line ≡ 36 ∷ 36 ∷ text
  pub clean : list_all (may_stand true) text ≡ true
  pub short : length line ≤ 4096

-- the names of the files that a flat program was written of; an empty one of the setup says that none was named
pub record Names : Type 0 where
  pub program : List ℕ
  pub setup : List ℕ

abbrev pub names_of : List ℕ → List ℕ → Names
names_of program setup = record { program = program; setup = setup }

-- a name in a comment: its first 1,000 bytes, with a `?` for one that may not be there
abbrev pub shown_byte : ℕ → ℕ
shown_byte c = if may_stand true c then c else 63

abbrev pub shown_name : List ℕ → List ℕ
shown_name name = map shown_byte (take 1000 name)

-- the setup's, or that there is none
abbrev pub setup_name : List ℕ → List ℕ
setup_name [] = codes "none"
setup_name (c ∷ cs) = c ∷ cs

-- the options that were given, each after a blank
abbrev pub option_text : Bool → List ℕ → List ℕ
option_text given name = if given then name else []

abbrev pub given_options : Choices → List ℕ
given_options choices = option_text choices.no_clearing (codes " --no-clearing") ++ (option_text choices.compensated (codes " --compensated")
    ++ (option_text choices.skip_manual (codes " --skip-manual") ++ (option_text choices.stored_frames (codes " --stored-frames") ++ option_text choices.even_touches (codes " --even-touches"))))

abbrev pub or_none : List ℕ → List ℕ
or_none [] = codes " none"
or_none (c ∷ cs) = c ∷ cs

abbrev pub options_text : Choices → List ℕ
options_text choices = or_none (given_options choices)

-- an answer, with a `=` (61) after the name
abbrev pub value_line : Answer → List ℕ
value_line answer = codes "$$ value: " ++ shown_name (answer.name ++ 61 ∷ answer.text)

abbrev pub head_lines : Names → Choices → List Answer → List ℕ → List (List ℕ)
head_lines names choices answers text =
    codes "$$ flat program, written by dme lower"
    ∷ (codes "$$ source: " ++ shown_name names.program)
    ∷ (codes "$$ SHA-256 of the source: " ++ digest_of text)
    ∷ (codes "$$ setup: " ++ shown_name (setup_name names.setup))
    ∷ (codes "$$ options:" ++ options_text choices)
    ∷ map value_line answers

-- the flat program with its head
abbrev pub whole_text : Names → Choices → List Answer → List ℕ → List ℕ
whole_text names choices answers text = ended_lines (head_lines names choices answers text) ++ flat_program choices answers text
