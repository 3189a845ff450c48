-- All that read as the interface says read a line, a point, and whether the machine is homed, in one way. What a server says unasked
-- changes nothing.
use Rattle.client_core.proofs.Names.{◌≡◌, Bool, Client, client_hears, Event, false, given_under, heard_on, held_under, homed_of, if◌then◌else◌, List}
use Rattle.client_core.proofs.Names.{NotHomedText, NotPoint, NotResponse, Point, point_of, reads_homed, reads_point, reads_response, refl, Response}
use Rattle.client_core.proofs.Names.{response_of, response_read, Result, Tag, tag_is, true, ℕ}
use Rattle.dme_line.specs.Points.{ReadsPoint}
use Rattle.dme_line.specs.Homed.{ReadsHomed}
use Rattle.dme_line.specs.Responses.{ReadsResponse}
use Rattle.dme_line.proofs.HomedLemmas.{one_homed_reading}
use Rattle.dme_line.proofs.OneResponse.{one_response_reading}
use Rattle.dme_line.proofs.PointLemmas.{one_point_reading}
use Rattle.dme_line.specs.declared.responses.Mark.{Mark as Marked}
use Rattle.protocol_model.specs.Replies.{Mark}

pub one_point : (text : List ℕ) (r : Result Point NotPoint) → ReadsPoint text r → point_of text ≡ r
one_point text r read = one_point_reading text (point_of text) r (reads_point text) read

pub one_homed : (text : List ℕ) (r : Result Bool NotHomedText) → ReadsHomed text r → homed_of text ≡ r
one_homed text r read = one_homed_reading text (homed_of text) r (reads_homed text) read

pub one_response : (line : List ℕ) (r : Result Response NotResponse) → ReadsResponse line r → response_of line ≡ r
one_response line r read = one_response_reading line (response_of line) r (reads_response line) read

kept : (b : Bool) (c d : Client) → b ≡ true → (if b then c else d) ≡ c
kept true c d is = refl
kept false c d is = absurd (cc is)

pub unasked : (c : Client) (t : Tag) (m : Marked) → tag_is t (Event 0) ≡ true → response_read c t m ≡ c
unasked c t Marked.Ack is = kept (tag_is t (Event 0)) c (client_hears c t Mark.Ack (heard_on c.program.features c.table t Mark.Ack)) is
unasked c t (Marked.Given text) is = kept (tag_is t (Event 0)) c (given_under c t text (held_under t c)) is
unasked c t Marked.Done is = kept (tag_is t (Event 0)) c (client_hears c t Mark.Done (heard_on c.program.features c.table t Mark.Done)) is
unasked c t (Marked.Error text) is =
    kept (tag_is t (Event 0)) c (client_hears c t Mark.Error (heard_on c.program.features c.table t Mark.Error)) is
