-- What two recordings of a connection say of either end (this profile).
use Rattle.std.specs.Prelude.{◌≡◌, ◌≤◌, ℕ, ◌+◌, ◌-◌, List, [], ◌∷◌, length, take, reverse, map, get_or, slice_get, Option, Some, None}
use Rattle.std.specs.Option.{option_map}
use Rattle.line_framing.specs.Stream.{IsStream}
use Rattle.line_framing.specs.declared.faults.FramingFault.{FramingFault}
use Rattle.line_framing.specs.declared.faults.FramingFault.TheVariants as framing
use Rattle.witness.specs.JudgedLines.{sent_of, heard_of}
use Rattle.witness.specs.ClientRules.{client_rule}
use Rattle.witness.specs.ServerRules.{server_rule}
use Rattle.witness.specs.Counts.{client_counts, server_counts}
use Rattle.witness.specs.Orders.{Pieces, seen_lines}
use Rattle.witness.specs.declared.judgement.Break.{Break}
use Rattle.witness.specs.declared.judgement.Judgement.{Judgement}
use Rattle.witness.specs.declared.judged_lines.Heard.{Heard}
use Rattle.witness.specs.declared.judged_lines.Sent.{Sent}
use Rattle.witness.specs.declared.rules.Found.{Found}
use Rattle.witness.specs.declared.rules.Rule.{Rule}
use Rattle.witness.specs.declared.rules.Rule.TheVariants as rule

-- what the first of the lines is, if it breaks a rule, or else what is found in the others
abbrev pub found_at : ℕ → Option Rule → Option Found → Option Found
found_at number (Some r) others = Some (record { number = number; rule = r })
found_at number None others = others

-- the first line that breaks a rule; the second argument: the lines above, the nearest first
abbrev pub first_break : {X : Type 0} → (List X → X → Option Rule) → List X → List X → Option Found
first_break rule above [] = None
first_break rule above (x ∷ xs) = found_at (length above + 1) (rule above x) (first_break rule (x ∷ above) xs)

-- the line at a place, counted from 0, breaks a rule under the lines above it
pub record BreaksAt {X : Type 0} (rule : List X → X → Option Rule) (lines : List X) (at : ℕ) (broken : Rule) : Type 0 where
  pub line : X
  pub there : slice_get lines at ≡ Some line
  pub breaks : rule (reverse (take at lines)) line ≡ Some broken

-- what is found is the first line that breaks a rule: the one that is named
pub record IsFirst {X : Type 0} (rule : List X → X → Option Rule) (lines : List X) (found : Option Found) : Type 0 where
  pub breaks : (f : Found) → found ≡ Some f → BreaksAt rule lines (f.number - 1) f.rule
  pub first : (f : Found) → found ≡ Some f → (at : ℕ) (broken : Rule) → BreaksAt rule lines at broken → f.number ≤ at + 1
  pub none : found ≡ None → (at : ℕ) (broken : Rule) → BreaksAt rule lines at broken → ⊥

-- bytes that are not lines
abbrev pub framing_rule : FramingFault → Rule
framing_rule framing.LineTooLong = rule.LineTooLong
framing_rule framing.BadByte = rule.BadByte

-- bytes that are not lines, after that many lines
abbrev pub fault_found : ℕ → Option FramingFault → Option Found
fault_found count None = None
fault_found count (Some fault) = Some (record { number = count + 1; rule = framing_rule fault })

-- the first break of an end: a line, or the bytes after all lines. A line without its end is no break
abbrev pub end_break : Option Found → ℕ → Option FramingFault → Option Found
end_break (Some found) count fault = Some found
end_break None count fault = fault_found count fault

-- what is found in the lines of the client, and in those of the server
abbrev pub client_found : List ℕ → List Sent → Option FramingFault → List Heard → Option Found
client_found seen up fault down = end_break (first_break (client_rule seen up (reverse down)) [] up) (length up) fault

abbrev pub server_found : List ℕ → List Sent → List Heard → Option FramingFault → Option Found
server_found seen up down fault = end_break (first_break (server_rule seen up) [] down) (length down) fault

-- a break with its line, which bytes that are not lines lack
abbrev pub shown : List (List ℕ) → Found → Break
shown lines found = record { number = found.number; rule = found.rule; line = get_or lines (found.number - 1) [] }

-- it is what their whole lines say, and their bytes that are not lines, with the order in which pieces of them came; without a piece, it is not known
pub record IsJudged (up down : List ℕ) (pieces : Pieces) (j : Judgement) : Type 0 where
  pub up_lines : List (List ℕ)
  pub up_rest : List ℕ
  pub up_fault : Option FramingFault
  pub up_stream : IsStream up up_lines up_rest up_fault
  pub down_lines : List (List ℕ)
  pub down_rest : List ℕ
  pub down_fault : Option FramingFault
  pub down_stream : IsStream down down_lines down_rest down_fault
  pub client : j.client ≡ option_map (shown up_lines)
      (client_found (seen_lines pieces up_lines down_lines) (map sent_of up_lines) up_fault (map heard_of down_lines))
  pub server : j.server ≡ option_map (shown down_lines)
      (server_found (seen_lines pieces up_lines down_lines) (map sent_of up_lines) (map heard_of down_lines) down_fault)
  pub commands : j.commands.items ≡ client_counts (map sent_of up_lines)
  pub marks : j.marks.items ≡ server_counts (map heard_of down_lines)
