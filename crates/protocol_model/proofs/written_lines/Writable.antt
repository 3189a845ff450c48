-- Lines that can be written: their bytes are lines, and they read back.
use Rattle.protocol_model.proofs.Names.{[], ◌++◌, ◌-ℤ◌, ◌∙◌, ◌∷◌, ◌≡◌, ◌≤◌, ap, AreLines, arith, Bool, Command, command-wire, command_bytes}
use Rattle.protocol_model.proofs.Names.{command_of, command_reads_back, command_text, command_texts, Datum, error-wire, error_reads_back, homed_of}
use Rattle.protocol_model.proofs.Names.{IsInVolume, IsLine, IsTag, IsWireText, IsWritable, Line, line_bytes, line_bytes-append, List, neg_ℤ, Ok}
use Rattle.protocol_model.proofs.Names.{Point, point_difference, point_of, point_opposite, point_reads_back, reads_command, reads_homed, reads_point}
use Rattle.protocol_model.proofs.Names.{reads_response, refl, Reply, reply_bytes, reply_text, reply_texts, Response, response-wire, response_of}
use Rattle.protocol_model.proofs.Names.{response_reads_back, Tag, unsigned_abs, wire_weaker, written_command, written_datum, ℕ, ℤ}
use Rattle.std.proofs.lemmas.Int.{ints}
use Rattle.fixed_um.specs.Limits.{volume_limit, wire_limit}
use Rattle.dme_line.specs.Points.{IsOnWire, written_point}
use Rattle.dme_line.specs.Homed.{written_homed}
use Rattle.dme_line.specs.Responses.{homed_response, written_response}
use Rattle.dme_line.specs.Errors.{error_report, written_error}
use Rattle.dme_line.proofs.OneCommand.{one_command_reading}
use Rattle.dme_line.proofs.OneResponse.{one_response_reading}
use Rattle.dme_line.proofs.PointLemmas.{one_point_reading}
use Rattle.dme_line.proofs.HomedLemmas.{homed_reads_back, homed_writable, one_homed_reading}
use Rattle.dme_line.proofs.WireTexts.{point-wire}
use Rattle.dme_line.specs.declared.responses.Mark.{Mark}

-- ---- commands

-- each of these commands can be written under its tag
abbrev pub AreWritable : List Line → Type 0
AreWritable [] = Unit {0}
AreWritable (l ∷ ls) = IsWritable l.tag l.command × AreWritable ls

-- if each of two lists of commands can be written, both together can
pub writable_join : (xs ys : List Line) → AreWritable xs → AreWritable ys → AreWritable (xs ++ ys)
writable_join [] ys h g = g
writable_join (x ∷ xs) ys h g = (h.0, writable_join xs ys h.1 g)

-- where two lists of commands together can be written, the second can
pub writable_behind : (xs ys : List Line) → AreWritable (xs ++ ys) → AreWritable ys
writable_behind [] ys h = h
writable_behind (x ∷ xs) ys h = writable_behind xs ys h.1

wire_line : (n : ℕ) (text : List ℕ) → IsWireText n text → n ≤ 65536 → IsLine text
wire_line n text h le = record { free = h.free; short = omega (arith, h.short) }

-- the texts of commands that can be written are lines
pub command_lines : (ls : List Line) → AreWritable ls → AreLines (command_texts ls)
command_lines [] h = tt
command_lines (l ∷ ls) h = (wire_line 200 (command_text l) (command-wire l.tag l.command h.0) (omega arith), command_lines ls h.1)

texts_more : (xs ys : List Line) → command_texts (xs ++ ys) ≡ command_texts xs ++ command_texts ys
texts_more [] ys = refl
texts_more (x ∷ xs) ys = ap (λ (l : List (List ℕ)). command_text x ∷ l) (texts_more xs ys)

-- the bytes of two lists of commands: those of the first, then those of the second
pub command_bytes_more : (xs ys : List Line) → command_bytes (xs ++ ys) ≡ command_bytes xs ++ command_bytes ys
command_bytes_more xs ys = ap line_bytes (texts_more xs ys) ∙ line_bytes-append (command_texts xs) (command_texts ys)

-- a command that can be written under a tag is read back as itself under that tag
pub command_read : (t : Tag) (c : Command) → IsWritable t c → command_of (written_command t c) ≡ Ok (t, c)
command_read t c w = one_command_reading (written_command t c) (command_of (written_command t c)) (Ok (t, c))
    (reads_command (written_command t c)) (command_reads_back t c w)

-- ---- replies

-- data can be written: a point that is within the wire limit, and whether the machine is homed
abbrev pub IsWritableDatum : Datum → Type 0
IsWritableDatum (Datum.Point p) = IsOnWire p
IsWritableDatum (Datum.Homed homed) = Unit {0}

-- a reply can be written: its tag has room in its digits, and the data that it gives can be written
abbrev pub IsWritableReply : Reply → Type 0
IsWritableReply (Reply.Ack t) = IsTag t
IsWritableReply (Reply.Given t d) = IsTag t × IsWritableDatum d
IsWritableReply (Reply.Done t) = IsTag t
IsWritableReply (Reply.Error t code name) = IsTag t

-- each of these replies can be written
abbrev pub AreReplies : List Reply → Type 0
AreReplies [] = Unit {0}
AreReplies (r ∷ rs) = IsWritableReply r × AreReplies rs

-- if each of two lists of replies can be written, both together can
pub replies_join : (xs ys : List Reply) → AreReplies xs → AreReplies ys → AreReplies (xs ++ ys)
replies_join [] ys h g = g
replies_join (x ∷ xs) ys h g = (h.0, replies_join xs ys h.1 g)

-- the response that a reply is written as
abbrev pub response_for : Reply → Response
response_for (Reply.Ack t) = record { tag = t; mark = Mark.Ack }
response_for (Reply.Given t d) = record { tag = t; mark = Mark.Given (written_datum d) }
response_for (Reply.Done t) = record { tag = t; mark = Mark.Done }
response_for (Reply.Error t code name) = record { tag = t; mark = Mark.Error (error_report code name) }

reply_wire : (r : Reply) → IsWritableReply r → IsWireText 200 (reply_text r)
reply_wire (Reply.Ack t) h = response-wire (record { tag = t; mark = Mark.Ack }) (record { tagged = h; texts = tt })
reply_wire (Reply.Given t (Datum.Point p)) h = response-wire (record { tag = t; mark = Mark.Given (written_point p) })
    (record { tagged = h.0; texts = wire_weaker 49 192 (written_point p) (omega arith) (point-wire p h.1) })
reply_wire (Reply.Given t (Datum.Homed homed)) h = response-wire (homed_response t homed) (homed_writable t homed h.0)
reply_wire (Reply.Done t) h = response-wire (record { tag = t; mark = Mark.Done }) (record { tagged = h; texts = tt })
reply_wire (Reply.Error t code name) h = wire_weaker 80 200 (written_error t code name) (omega arith) (error-wire t code name)

-- the texts of replies that can be written are lines
pub reply_lines : (rs : List Reply) → AreReplies rs → AreLines (reply_texts rs)
reply_lines [] h = tt
reply_lines (r ∷ rs) h = (wire_line 200 (reply_text r) (reply_wire r h.0) (omega arith), reply_lines rs h.1)

reply_texts_more : (xs ys : List Reply) → reply_texts (xs ++ ys) ≡ reply_texts xs ++ reply_texts ys
reply_texts_more [] ys = refl
reply_texts_more (x ∷ xs) ys = ap (λ (l : List (List ℕ)). reply_text x ∷ l) (reply_texts_more xs ys)

-- the bytes of two lists of replies: those of the first, then those of the second
pub reply_bytes_more : (xs ys : List Reply) → reply_bytes (xs ++ ys) ≡ reply_bytes xs ++ reply_bytes ys
reply_bytes_more xs ys = ap line_bytes (reply_texts_more xs ys) ∙ line_bytes-append (reply_texts xs) (reply_texts ys)

response_back : (x : Response) → IsTag x.tag → response_of (written_response x) ≡ Ok x
response_back x t = one_response_reading (written_response x) (response_of (written_response x)) (Ok x) (reads_response (written_response x))
    (response_reads_back x t)

-- a reply that can be written is read back as the response it is written as
pub reply_read : (x : Reply) → IsWritableReply x → response_of (reply_text x) ≡ Ok (response_for x)
reply_read (Reply.Ack t) w = response_back (record { tag = t; mark = Mark.Ack }) w
reply_read (Reply.Given t d) w = response_back (record { tag = t; mark = Mark.Given (written_datum d) }) w.0
reply_read (Reply.Done t) w = response_back (record { tag = t; mark = Mark.Done }) w
reply_read (Reply.Error t code name) w =
    one_response_reading (written_error t code name) (response_of (written_error t code name))
    (Ok (record { tag = t; mark = Mark.Error (error_report code name) })) (reads_response (written_error t code name))
    (error_reads_back t code name w)

-- a point within the wire limit is read back as itself
pub point_read : (p : Point) → IsOnWire p → point_of (written_point p) ≡ Ok p
point_read p w = one_point_reading (written_point p) (point_of (written_point p)) (Ok p) (reads_point (written_point p))
    (point_reads_back p w)

-- whether the machine is homed is read back as it was written
pub homed_read : (homed : Bool) → homed_of (written_homed homed) ≡ Ok homed
homed_read homed = one_homed_reading (written_homed homed) (homed_of (written_homed homed)) (Ok homed) (reads_homed (written_homed homed))
    (homed_reads_back homed)

-- ---- points

abs_difference : (a b : ℤ) → unsigned_abs a ≤ volume_limit → unsigned_abs b ≤ volume_limit → unsigned_abs (a -ℤ b) ≤ wire_limit
abs_difference a b h g = omega (arith, ints)

-- the difference of two points in the volume is within the wire limit
pub difference_on_wire : (p q : Point) → IsInVolume p → IsInVolume q → IsOnWire (point_difference p q)
difference_on_wire p q h g = record {
  x = abs_difference p.x q.x h.x g.x;
  y = abs_difference p.y q.y h.y g.y;
  z = abs_difference p.z q.z h.z g.z;
}

abs_opposite : (a : ℤ) → unsigned_abs a ≤ volume_limit → unsigned_abs (neg_ℤ a) ≤ volume_limit
abs_opposite a h = omega (arith, ints)

-- the opposite of a point in the volume is in the volume
pub opposite_in_volume : (p : Point) → IsInVolume p → IsInVolume (point_opposite p)
opposite_in_volume p h = record { x = abs_opposite p.x h.x; y = abs_opposite p.y h.y; z = abs_opposite p.z h.z }
