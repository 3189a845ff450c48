-- The place of a refusal, from what its parts are.
use Rattle.program_review.proofs.Outside.{◌∙◌, ◌≡◌, ap, Caused, first_of, length, line_of, lines_from, List, shown_from, ℕ}
use Rattle.program_review.specs.Windows.{shown_start}
use Rattle.program_review.specs.Places.{IsPlace, IsReason, place_text, shown_for}
use Rattle.order_parts.specs.declared.faults.FilesFault.{FilesFault}

-- what is written of the first of the lines that begin with a number is the place of that number
pub placed : (fault : FilesFault) (name bytes line shown written sentence : List ℕ) (why : Caused) (rest : List (List ℕ)) (number start : ℕ)
    → rest ≡ lines_from number bytes → line ≡ first_of rest → IsReason fault bytes number why → start ≡ shown_start (length line) why.at why.len
    → shown ≡ shown_from start line → written ≡ place_text name number shown sentence → IsPlace fault name bytes number written
placed fault name bytes line shown written sentence why rest number start e f r w g h =
    let k : line ≡ line_of number bytes = f ∙ ap first_of e in
    record {
      why = why;
      sentence = sentence;
      is_reason = r;
      whole = h ∙ ap (λ s. place_text name number s sentence) (g ∙ (ap (λ (n : ℕ). shown_from n line) w ∙ ap (shown_for why) k));
    }
