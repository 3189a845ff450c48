use Rattle.witness_laws.proofs.Names.{◌∙◌, ◌≡◌, [], Ack, after, ap, arith, Bool, client_sent, codes, Command, command_of, command_read, cond}
use Rattle.witness_laws.proofs.Names.{Dialogue, false, first_under, heard_under, IsWritable, LineFault, List, MachineCsy, None, Ok, reading_of, refl}
use Rattle.witness_laws.proofs.Names.{Reply, reply_text, reply_texts, Reported, Result, sent, server_line, server_lines, server_read, server_turned}
use Rattle.witness_laws.proofs.Names.{silence, Std, Tag, ℕ}
use Rattle.protocol_model.specs.Server.{Answer}
use Rattle.dme_line.specs.Written.{written_command}
use Rattle.server_core.specs.Serving.{may_turn}
use Rattle.witness_laws.specs.ServerExamples.{serving}
use Rattle.witness_laws.proofs.server.Places.{said_is}
use Rattle.witness_laws.proofs.server_examples.seen_rows.Goals as goal

-- the witness after a line that reads so
abbrev sent_as : Bool → List ℕ → Result (Tag × Command) LineFault → Dialogue
sent_as ordered line r = client_sent (silence ordered) line (sent line r)

abbrev framing : Command
framing = Command.SetCoordSystem MachineCsy

framing_writable : IsWritable (Std 7) framing
framing_writable = record { tagged = record { numbered = (omega arith, omega arith); sort = refl }; arguments = tt }

framing_read : command_of (codes "00007 SetCoordSystem(MachineCsy)") ≡ Ok (Std 7, framing)
unfolding written_command
framing_read = command_read (Std 7) framing framing_writable

-- what is reported after such a line and the turn of its command
abbrev whole_as : Result (Tag × Command) LineFault → List Reported
whole_as r =
    let a : Answer = server_read (serving None [] []).server (reading_of r) in
    (server_lines (server_lines (sent_as false (codes "00007 SetCoordSystem(MachineCsy)") r) (reply_texts a.said))
    (reply_texts (cond (may_turn a.server) (server_turned a.server).said []))).reported

-- the witness after such a line and its first answer
abbrev framing_sent : Dialogue
framing_sent = sent_as false (codes "00007 SetCoordSystem(MachineCsy)") (Ok (Std 7, framing))

abbrev framing_heard : Dialogue
framing_heard = heard_under framing_sent (reply_text (Reply.Ack (Std 7))) (Std 7) Ack (first_under (Std 7) framing_sent.uses)

pub returns-clause-whole : goal.returns-clause-whole
returns-clause-whole c =
    ap whole_as framing_read
    ∙ (ap (λ (d : Dialogue). (after d (server_line (reply_text (Reply.Done (Std 7))))).reported)
    (said_is framing_sent (Reply.Ack (Std 7)) (omega arith))
    ∙ ap (λ (d : Dialogue). d.reported) (said_is framing_heard (Reply.Done (Std 7)) (omega arith)))
