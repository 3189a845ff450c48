-- The text of what was reported (this profile): version 1. An act is as in a text of contacts.
use Rattle.std.specs.Prelude.{ℕ, List, [], ◌∷◌, ◌++◌, map, codes, decimal, Option, Some, None}
use Rattle.fixed_um.specs.declared.frames.Frame.{Frame}
use Rattle.dme_line.specs.Tags.{written_tag}
use Rattle.contact_ledger.specs.Lines.{text_of, line_of}
use Rattle.contact_ledger.specs.Fields.{point_fields, frame_fields, direction_fields}
use Rattle.contact_ledger.specs.ContactTexts.{act_fields}
use Rattle.witness.specs.declared.lines.Rule.{Rule}
use Rattle.witness.specs.declared.lines.Rule.TheVariants.{UnknownTag, OutOfOrder, NoData, SecondData, OtherData, TagInUse, NotInTurn, TooMany}
use Rattle.witness.specs.declared.lines.Side.{Side}
use Rattle.witness.specs.declared.lines.Side.TheVariants.{Client, Server}
use Rattle.witness.specs.declared.lines.Reported.{Reported}
use Rattle.witness.specs.declared.lines.Reported.TheVariants as reports

-- what is not known
abbrev pub unknown_field : List ℕ
unknown_field = codes "?"

-- a tool and a frame, as far as they are known
abbrev pub tool_field : Option (List ℕ) → List ℕ
tool_field (Some tool) = tool
tool_field None = unknown_field

abbrev pub known_frame : Option Frame → List (List ℕ)
known_frame (Some frame) = frame_fields frame
known_frame None = unknown_field ∷ []

abbrev pub rule_name : Rule → List ℕ
rule_name UnknownTag = codes "UnknownTag"
rule_name OutOfOrder = codes "OutOfOrder"
rule_name NoData = codes "NoData"
rule_name SecondData = codes "SecondData"
rule_name OtherData = codes "OtherData"
rule_name TagInUse = codes "TagInUse"
rule_name NotInTurn = codes "NotInTurn"
rule_name TooMany = codes "TooMany"

-- the way that a line went
abbrev pub side_field : Side → List ℕ
side_field Client = codes ">"
side_field Server = codes "<"

-- the fields of what was reported, after the number of the connection; the last field of a line that is shown is the line, with its spaces
abbrev pub told_fields : Reported → List (List ℕ)
told_fields (reports.Did act) = act_fields act
told_fields (reports.MovedSomewhere target) = codes "MOVED" ∷ (point_fields target ++ unknown_field ∷ [])
told_fields reports.FramedSomehow = codes "FRAMED" ∷ unknown_field ∷ []
told_fields (reports.Touched target dir tool frame point) = codes "CONTACT"
    ∷ (point_fields target ++ (direction_fields dir ++ (tool_field tool ∷ (known_frame frame ++ point_fields point))))
told_fields (reports.Other side line) = codes "OTHER" ∷ side_field side ∷ line ∷ []
told_fields (reports.Unasked line) = codes "UNASKED" ∷ line ∷ []
told_fields (reports.Broken rule tag) = codes "BROKEN" ∷ rule_name rule ∷ written_tag tag ∷ []
told_fields reports.Opened = codes "OPENED" ∷ []
told_fields reports.Left = codes "LEFT" ∷ []

-- the line of what was reported on a connection
abbrev pub told_line : ℕ × Reported → List ℕ
told_line entry = line_of (decimal entry.0 ∷ told_fields entry.1)

-- the text of what was reported
abbrev pub told_text : List (ℕ × Reported) → List ℕ
told_text entries = text_of (codes "DME-TOLD 1" ∷ map told_line entries)

-- what was reported on a connection
abbrev pub numbered : ℕ → Reported → ℕ × Reported
numbered connection told = (connection, told)

-- the lines of what was reported on a connection
abbrev pub told_lines : ℕ → List Reported → List ℕ
told_lines connection told = text_of (map told_line (map (numbered connection) told))
