-- Response lines (I++ DME Interface version 1; spaces at the end and empty texts: this profile).
use Rattle.std.specs.Prelude.{◌≡◌, ℕ, ◌⊎◌, Bool, true, ◌==◌, List, [], ◌∷◌, ◌++◌, codes, Result, Ok, Err}
use Rattle.std.specs.List.{list_all}
use Rattle.dme_line.specs.Words.{IsWireText}
use Rattle.dme_line.specs.Limits.{text_most}
use Rattle.fixed_um.specs.declared.lengths.Point.{Point}
use Rattle.dme_line.specs.Points.{written_point}
use Rattle.dme_line.specs.Homed.{written_homed}
use Rattle.dme_line.specs.Tags.{written_tag, IsTag}
use Rattle.dme_line.specs.declared.tags.Tag.{Tag}
use Rattle.dme_line.specs.declared.responses.Mark.{Mark}
use Rattle.dme_line.specs.declared.responses.Mark.TheVariants.{Ack, Given, Done, Error}
use Rattle.dme_line.specs.declared.responses.Response.{Response}
use Rattle.dme_line.specs.declared.responses.MarkSlice.{MarkSlice}
use Rattle.dme_line.specs.declared.responses.MarkSlice.TheVariants as marks
use Rattle.dme_line.specs.declared.responses.ResponseSlice.{ResponseSlice}
use Rattle.dme_line.specs.declared.responses.NotResponse.{NotResponse}

-- a mark as it is written: & received, # data, % complete, ! error
abbrev pub written_mark : Mark → List ℕ
written_mark Ack = codes "&"
written_mark (Given text) = codes "# " ++ text
written_mark Done = codes "%"
written_mark (Error text) = codes "! " ++ text

-- the line of a response, without its end
abbrev pub written_response : Response → List ℕ
written_response r = written_tag r.tag ++ (32 ∷ written_mark r.mark)

-- a text that a response can hold, none of its bytes CR or LF
abbrev pub HasText : Mark → Type 0
HasText Ack = Unit {0}
HasText (Given text) = IsWireText text_most text
HasText Done = Unit {0}
HasText (Error text) = IsWireText text_most text

-- a response that can be written
pub record IsWritableResponse (r : Response) : Type 0 where
  pub tagged : IsTag r.tag
  pub texts : HasText r.mark

abbrev pub are_spaces : List ℕ → Bool
are_spaces text = list_all (λ c. c == 32) text

-- what follows a response's tag and space; an error may lack its text with the space in front of it
abbrev pub IsMarkText : List ℕ → Mark → Type 0
IsMarkText text Ack = (spaces : List ℕ) × (text ≡ 38 ∷ spaces) × (are_spaces spaces ≡ true)
IsMarkText text (Given given) = text ≡ 35 ∷ 32 ∷ given
IsMarkText text Done = (spaces : List ℕ) × (text ≡ 37 ∷ spaces) × (are_spaces spaces ≡ true)
IsMarkText text (Error given) = (text ≡ 33 ∷ 32 ∷ given) ⊎ ((text ≡ 33 ∷ []) × (given ≡ []))

-- the line stands for this response; its tag may be number 0
pub record IsResponseLine (line : List ℕ) (r : Response) : Type 0 where
  pub text : List ℕ
  pub tagged : IsTag r.tag
  pub parts : line ≡ written_tag r.tag ++ (32 ∷ text)
  pub marked : IsMarkText text r.mark

-- a mark that holds a text
abbrev pub HoldsText : Mark → Type 0
HoldsText Ack = ⊥
HoldsText (Given text) = Unit {0}
HoldsText Done = ⊥
HoldsText (Error text) = Unit {0}

-- the line stands for a response that holds a text; only making that text can run out of memory
abbrev pub HoldsResponseText : List ℕ → Type 0
HoldsResponseText line = (r : Response) × IsResponseLine line r × HoldsText r.mark

-- reading a line gives its response, or reports that it is not one
abbrev pub ReadsResponse : List ℕ → Result Response NotResponse → Type 0
ReadsResponse line (Ok r) = IsResponseLine line r
ReadsResponse line (Err fault) = (r : Response) → IsResponseLine line r → ⊥

-- a mark with the text that is in a line
abbrev pub the_mark : MarkSlice → Mark
the_mark marks.Ack = Ack
the_mark (marks.Given text) = Given text.now
the_mark marks.Done = Done
the_mark (marks.Error text) = Error text.now

-- the response whose text is in a line, and the reading that gives it
abbrev pub the_response : ResponseSlice → Response
the_response r = record { tag = r.tag; mark = the_mark r.mark }

abbrev pub the_reading : Result ResponseSlice NotResponse → Result Response NotResponse
the_reading (Ok r) = Ok (the_response r)
the_reading (Err fault) = Err fault

-- the response that carries a point
abbrev pub data_response : Tag → Point → Response
data_response tag p = record { tag = tag; mark = Given (written_point p) }

-- the response that carries the answer to IsHomed
abbrev pub homed_response : Tag → Bool → Response
homed_response tag homed = record { tag = tag; mark = Given (written_homed homed) }
