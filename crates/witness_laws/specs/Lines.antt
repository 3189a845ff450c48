-- What a witness of a client's connection reports: it reads the lines that the client writes and the lines that the client reads, in the
-- order in which it does so (this profile).
use Rattle.std.specs.Prelude.{◌≡◌, ℕ, Bool, true, false, ◌||◌, List, [], ◌∷◌, if◌then◌else◌, Some, None, Result, Ok, Err}
use Rattle.contact_ledger.specs.declared.acts.Act.{Act}
use Rattle.contact_ledger.specs.declared.features.Feature.{Feature}
use Rattle.dmis_program.specs.Meaning.{Meaning}
use Rattle.dmis_program.specs.Programs.{IsProgram}
use Rattle.line_framing.specs.Next.{Front, next_of}
use Rattle.dme_line.specs.declared.tags.Tag.TheVariants.{Event}
use Rattle.dme_line.specs.declared.responses.Response.{Response}
use Rattle.dme_line.specs.declared.responses.NotResponse.{NotResponse}
use Rattle.protocol_model.specs.Client.{client_sent, client_aborted}
use Rattle.protocol_model.specs.Ends.{ClientEnd, new_client_end}
use Rattle.protocol_model.specs.Lines.{command_texts}
use Rattle.protocol_model.specs.Readings.{response_of}
use Rattle.protocol_model.specs.Replies.{tag_is}
use Rattle.witness.specs.Dialogues.{Dialogue, silence}
use Rattle.witness.specs.Watching.{client_lines, server_front}
use Rattle.client_core.specs.Clients.{are_ours}
use Rattle.client_core.specs.Calls.{Call, Connected, Send, Feed, ReadOne, Abort, Resume, Leave, Restart, Sent, possible, behind_call}

-- ---- a client of ours

-- a client with any program, that was never on a connection
pub data IsNewClient (program : Meaning) : ClientEnd → Type 0 where
  never_on : (kept : List Feature) (window : ℕ) → IsProgram program → IsNewClient program (new_client_end program kept window)

-- such a client, with kept features that are its own
pub data IsOurClient : ClientEnd → Type 0 where
  our_client : (program : Meaning) (kept : List Feature) (window : ℕ) → IsProgram program → are_ours program.features kept ≡ true
      → IsOurClient (new_client_end program kept window)

-- the acts that a client counted on its connection
abbrev pub counted_by : ClientEnd → List Act
counted_by e = e.client.table.tally.counted

-- ---- the lines of a call

-- a witness after a call that is possible: it begins with each connection, and with a restart; it reads the lines that the client writes, and
-- the line that the client reads
abbrev pub witnessed_by : Call → ClientEnd → Dialogue → Dialogue
witnessed_by (Connected n) e d = silence d.ordered
witnessed_by Send e d = client_lines d (command_texts (client_sent e.client).lines)
witnessed_by (Feed bytes) e d = d
witnessed_by ReadOne e d = server_front d (next_of e.input.rest)
witnessed_by Abort e d = client_lines d (command_texts (client_aborted e.client).lines)
witnessed_by Resume e d = d
witnessed_by Leave e d = d
witnessed_by (Restart k) e d = silence d.ordered
witnessed_by (Sent k) e d = d

-- a call that is not possible writes and reads nothing
abbrev pub witnessed_call : Call → ClientEnd → Dialogue → Dialogue
witnessed_call call e d = if possible call e then witnessed_by call e d else d

-- a witness after calls, one after another
abbrev pub witnessed : List Call → ClientEnd → Dialogue → Dialogue
witnessed [] e d = d
witnessed (call ∷ calls) e d = witnessed calls (behind_call call e) (witnessed_call call e d)

-- ---- lines that belong to no command

-- a response under the event tag of number 0: a client of ours never uses it, and passes over what comes under it
abbrev pub is_unasked : Result Response NotResponse → Bool
is_unasked (Ok r) = tag_is r.tag (Event 0)
is_unasked (Err why) = false

-- whether the line at the front is one, or one came before
abbrev pub unasked_front : Bool → Front → Bool
unasked_front came (Ok None) = came
unasked_front came (Ok (Some (line, rest))) = came || is_unasked (response_of line)
unasked_front came (Err fault) = came

-- whether the client read one on its connection, after a call that is possible
abbrev pub unasked_by : Call → ClientEnd → Bool → Bool
unasked_by (Connected n) e came = false
unasked_by Send e came = came
unasked_by (Feed bytes) e came = came
unasked_by ReadOne e came = unasked_front came (next_of e.input.rest)
unasked_by Abort e came = came
unasked_by Resume e came = came
unasked_by Leave e came = came
unasked_by (Restart k) e came = false
unasked_by (Sent k) e came = came

abbrev pub unasked_call : Call → ClientEnd → Bool → Bool
unasked_call call e came = if possible call e then unasked_by call e came else came

-- and after calls, one after another
abbrev pub unasked : List Call → ClientEnd → Bool → Bool
unasked [] e came = came
unasked (call ∷ calls) e came = unasked calls (behind_call call e) (unasked_call call e came)
