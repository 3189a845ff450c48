-- What is written of responses, points and errors can be in a line, and reads back.
use Rattle.dme_line.proofs.Names.{[], ◌++◌, ◌+◌, ◌∙◌, ◌∷◌, ◌≡◌, Aborted, Ack, ap, append-nil, arith, codes, data_response, Done, Error, error_name}
use Rattle.dme_line.proofs.Names.{error_report, error_response, ErrorNumber, ErrorState, four_digits, Given, HasText, inl, IsMarkText, IsOnWire}
use Rattle.dme_line.proofs.Names.{IsTag, IsWireText, IsWritableResponse, Kind, List, MachineFault, Mark, None, NoSession, NoSurface, NotHomed, NoTool}
use Rattle.dme_line.proofs.Names.{numbered, Ok, Option, OutOfVolume, Point, QueueFull, quoted, ReadsPoint, ReadsResponse, refl, Response, said_of}
use Rattle.dme_line.proofs.Names.{SessionOpen, Some, subst, sym, Tag, TagInUse, text_of, tokens, UnknownTool, written, written_mark, written_point}
use Rattle.dme_line.proofs.Names.{written_response, written_tag, ℕ}
use Rattle.dme_line.specs.Errors.{error_text, written_error}
use Rattle.dme_line.specs.declared.errors.ErrorNumber.TheVariants.{BadArguments, NoTag, UnknownCommand}
use Rattle.dme_line.proofs.WireTexts.{wire_append, point-wire, tag-wire, four_digits-wire}
use Rattle.dme_line.proofs.CommandBack.{point-append, point-tokens, reads_back}
use Rattle.dme_line.proofs.CommandWire.{wire_weaker, name-wire}

-- ---- responses

mark_back : (m : Mark) → IsMarkText (written_mark m) m
mark_back Ack = ([], refl, refl)
mark_back (Given text) = refl
mark_back Done = ([], refl, refl)
mark_back (Error text) = inl refl

pub response_reads_back : (r : Response) → IsTag r.tag → ReadsResponse (written_response r) (Ok r)
response_reads_back r h = record { text = written_mark r.mark; tagged = h; parts = refl; marked = mark_back r.mark }

mark-wire : (m : Mark) → HasText m → IsWireText 194 (written_mark m)
mark-wire Ack h = record { free = refl; short = omega arith }
mark-wire (Given text) h = wire_append 2 192 194 (codes "# ") text (record { free = refl; short = omega arith }) h (omega arith)
mark-wire Done h = record { free = refl; short = omega arith }
mark-wire (Error text) h = wire_append 2 192 194 (codes "! ") text (record { free = refl; short = omega arith }) h (omega arith)

pub response-wire : (r : Response) → IsWritableResponse r → IsWireText 200 (written_response r)
response-wire r h =
    let mark = wire_append 1 194 195 (codes " ") (written_mark r.mark) (record { free = refl; short = omega arith })
    (mark-wire r.mark h.texts) (omega arith) in
    wire_append 5 195 200 (written_tag r.tag) (32 ∷ written_mark r.mark) (tag-wire r.tag) mark (omega arith)

-- ---- points

no_space : (p : Point) (more : List ℕ) → written_point p ≡ 32 ∷ more → ⊥
no_space p more e = let f : ◌≡◌ {A = ℕ} 88 32 = cc in omega (arith, f)

pub point_reads_back : (p : Point) → IsOnWire p → ReadsPoint (written_point p) (Ok p)
point_reads_back p h =
    let whole = sym (append-nil (written_point p)) ∙ point-append p [] in
    record {
      x = written p.x;
      y = written p.y;
      z = written p.z;
      flush = no_space p;
      spelled = ap (λ (t : List ℕ). tokens t) whole ∙ point-tokens p [] h;
      reads = record { x_reads = reads_back p.x h.x; y_reads = reads_back p.y h.y; z_reads = reads_back p.z h.z };
    }

-- a point can be the text of a response
pub data_writable : (tag : Tag) (p : Point) → IsTag tag → IsOnWire p → IsWritableResponse (data_response tag p)
data_writable tag p h g = record { tagged = h; texts = wire_weaker 49 192 (written_point p) (omega arith) (point-wire p g) }

-- ---- errors

pub written_error-response : (tag : Tag) (code : ℕ) (kind : Option Kind)
    → written_error tag code kind ≡ written_response (error_response tag code kind)
unfolding written_error
written_error-response tag code kind = refl

quoted-wire : (n : ℕ) (text : List ℕ) → IsWireText n text → IsWireText (n + 2) (quoted text)
quoted-wire n text h =
    let behind = wire_append n 1 (n + 1) text (codes "\"") h (record { free = refl; short = omega arith }) (omega arith) in
    wire_append 1 (n + 1) (n + 2) (codes "\"") (text ++ codes "\"") (record { free = refl; short = omega arith }) behind (omega arith)

error_name-wire : (kind : Option Kind) → IsWireText 20 (error_name kind)
error_name-wire None = record { free = refl; short = omega arith }
error_name-wire (Some kind) = name-wire kind

text-wire : (e : ErrorNumber) → IsWireText 15 (text_of e)
text-wire NoTag = record { free = refl; short = omega arith }
text-wire TagInUse = record { free = refl; short = omega arith }
text-wire UnknownCommand = record { free = refl; short = omega arith }
text-wire BadArguments = record { free = refl; short = omega arith }
text-wire NoSession = record { free = refl; short = omega arith }
text-wire SessionOpen = record { free = refl; short = omega arith }
text-wire Aborted = record { free = refl; short = omega arith }
text-wire ErrorState = record { free = refl; short = omega arith }
text-wire QueueFull = record { free = refl; short = omega arith }
text-wire NotHomed = record { free = refl; short = omega arith }
text-wire NoTool = record { free = refl; short = omega arith }
text-wire UnknownTool = record { free = refl; short = omega arith }
text-wire OutOfVolume = record { free = refl; short = omega arith }
text-wire NoSurface = record { free = refl; short = omega arith }
text-wire MachineFault = record { free = refl; short = omega arith }

said-wire : (o : Option ErrorNumber) → IsWireText 15 (said_of o)
said-wire None = record { free = refl; short = omega arith }
said-wire (Some e) = text-wire e

error_text-wire : (code : ℕ) → IsWireText 15 (error_text code)
unfolding error_text
error_text-wire code = said-wire (numbered code)

pub report-wire : (code : ℕ) (kind : Option Kind) → IsWireText 57 (error_report code kind)
report-wire code kind =
    let text = wire_append 17 1 18 (quoted (error_text code)) (codes ")") (quoted-wire 15 (error_text code) (error_text-wire code))
    (record { free = refl; short = omega arith }) (omega arith) in
    let text_all = wire_append 2 18 20 (codes ", ") (quoted (error_text code) ++ codes ")") (record { free = refl; short = omega arith })
    text (omega arith) in
    let name = wire_append 22 20 42 (quoted (error_name kind)) (codes ", " ++ (quoted (error_text code) ++ codes ")"))
    (quoted-wire 20 (error_name kind) (error_name-wire kind)) text_all (omega arith) in
    let name_all = wire_append 2 42 44 (codes ", ") (quoted (error_name kind) ++ (codes ", " ++ (quoted (error_text code) ++ codes ")")))
    (record { free = refl; short = omega arith }) name (omega arith) in
    let number = wire_append 4 44 48 (four_digits code) (codes ", "
    ++ (quoted (error_name kind) ++ (codes ", " ++ (quoted (error_text code) ++ codes ")")))) (four_digits-wire code) name_all
    (omega arith) in
    wire_append 9 48 57 (codes "Error(3, ") (four_digits code ++ (codes ", "
    ++ (quoted (error_name kind) ++ (codes ", " ++ (quoted (error_text code) ++ codes ")")))))
    (record { free = refl; short = omega arith }) number (omega arith)

pub error-wire : (tag : Tag) (code : ℕ) (kind : Option Kind) → IsWireText 80 (written_error tag code kind)
unfolding written_error
error-wire tag code kind =
    let report = wire_append 3 57 60 (codes " ! ") (error_report code kind) (record { free = refl; short = omega arith })
    (report-wire code kind) (omega arith) in
    wire_append 5 60 80 (written_tag tag) (codes " ! " ++ error_report code kind) (tag-wire tag) report (omega arith)

-- an error is a response that can be written, and reads back
pub error_writable : (tag : Tag) (code : ℕ) (kind : Option Kind) → IsTag tag → IsWritableResponse (error_response tag code kind)
error_writable tag code kind h = record {
  tagged = h;
  texts = wire_weaker 57 192 (error_report code kind) (omega arith)
      (report-wire code kind);
}

pub error_reads_back : (tag : Tag) (code : ℕ) (kind : Option Kind) → IsTag tag
    → ReadsResponse (written_error tag code kind) (Ok (error_response tag code kind))
error_reads_back tag code kind h = subst (λ (line : List ℕ). ReadsResponse line (Ok (error_response tag code kind)))
    (sym (written_error-response tag code kind)) (response_reads_back (error_response tag code kind) h)
