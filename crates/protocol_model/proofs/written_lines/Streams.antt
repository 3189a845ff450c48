-- Streams of written lines hand out these lines in order.
use Rattle.protocol_model.proofs.Names.{[], ◌++◌, ◌∙◌, ◌∷◌, ◌≡◌, ap, AreLines, arith, command-wire, command_reads_back, Err, Front, IsLine}
use Rattle.protocol_model.proofs.Names.{IsWireText, line_bytes, List, map, next_of, no_fault, None, Ok, refl, Response, response-wire}
use Rattle.protocol_model.proofs.Names.{response_reads_back, Some, subst, sym, takes_first, TakesFirst, ℕ}
use Rattle.protocol_model.specs.Streams.{AreWritable, commands, HandsFirst, IsFirst, responses, Sent, stream_of, Wording}

-- what can be written is on a line, and reads back
pub record IsFaithful {X : Type 0} (wording : Wording X) : Type 0 where
  pub line : (x : X) → wording.May x → IsLine (wording.text x)
  pub back : (x : X) → wording.May x → wording.Reads (wording.text x) x

-- a text of the wire is a line
line-from_wire : (text : List ℕ) → IsWireText 200 text → IsLine text
line-from_wire text h = record { free = h.free; short = omega (arith, h.short) }

commands_are : IsFaithful commands
commands_are = record {
  line = λ s h. line-from_wire (commands.text s) (command-wire s.tag s.command h);
  back = λ s h. command_reads_back s.tag s.command h;
}

responses_are : IsFaithful responses
responses_are = record {
  line = λ r h. line-from_wire (responses.text r) (response-wire r h);
  back = λ r h. response_reads_back r h.tagged;
}

module _ {X : Type 0} (wording : Wording X) (are : IsFaithful wording) where
  are_lines : (sent : List X) → AreWritable wording sent → AreLines (map wording.text sent)
  are_lines [] h = tt
  are_lines (x ∷ sent) h = (are.line x h.0, are_lines sent h.1)

  first_of : (sent : List X) (more line left : List ℕ) → AreWritable wording sent
      → TakesFirst (map wording.text sent) line left more → IsFirst wording sent more line left
  first_of [] more line left h t = let e = t.first in absurd cc
  first_of (x ∷ sent) more line left h t =
      let same : line ≡ wording.text x = let e = t.first in cc in
      let rest : t.others ≡ map wording.text sent = let e = t.first in cc in
      record {
        first = x;
        others = sent;
        parts = refl;
        written = same;
        reads = subst (λ (l : List ℕ). wording.Reads l x) (sym same) (are.back x h.0);
        behind = t.behind ∙ ap line_bytes rest;
      }

  hands : (sent : List X) (rest more : List ℕ) (front : Front) → AreWritable wording sent → rest ++ more ≡ stream_of wording sent
      → next_of rest ≡ front → HandsFirst wording sent more front
  hands sent rest more (Ok None) h e f = tt
  hands sent rest more (Ok (Some (line, left))) h e f =
      first_of sent more line left h (takes_first rest more (map wording.text sent) line left (are_lines sent h) e f)
  hands sent rest more (Err fault) h e f = no_fault rest more (map wording.text sent) fault (are_lines sent h) e f

-- a buffer that holds a prefix of such a stream of commands hands out nothing yet, or the first of them
pub commands_in_order : (sent : List Sent) (rest more : List ℕ) → AreWritable commands sent → rest ++ more ≡ stream_of commands sent
    → HandsFirst commands sent more (next_of rest)
commands_in_order sent rest more h e = hands commands commands_are sent rest more (next_of rest) h e refl

-- likewise for responses
pub responses_in_order : (sent : List Response) (rest more : List ℕ) → AreWritable responses sent
    → rest ++ more ≡ stream_of responses sent → HandsFirst responses sent more (next_of rest)
responses_in_order sent rest more h e = hands responses responses_are sent rest more (next_of rest) h e refl
