-- No event changes the program of a client or the tools of a server.
use Rattle.protocol_model.proofs.Names.{[], ◌∙◌, ◌∷◌, ◌≡◌, Bool, Cause, Client, client_hears, client_read, client_reads, cond, Err, false, heard_on}
use Rattle.protocol_model.proofs.Names.{Line, List, mark_of, next_number, None, Ok, Option, Planned, refl, Reply, Result, sends_abort, sends_next}
use Rattle.protocol_model.proofs.Names.{server_reads, ServerReadsOld, Some, Table, Tag, tag_is, tag_of, true, ℕ}
use Rattle.protocol_model.specs.Replies.{Mark}
use Rattle.protocol_model.specs.Typed.{Accept, ClientSends, Connect, Event, Machine, ServerReads, ServerTurn, World}
use Rattle.protocol_model.specs.Typed.{Abort, can, ClientLeaves, ClientReads, ClientRestart, happens, Resume, ServerLeaves, ServerRestart}
use Rattle.protocol_model.specs.Typed.{after, run_of}

-- the next command of a plan is sent, or finds no free tag: the client's program is the same
pub sends_program : (c : Client) (ps : List Planned) (n : Option ℕ) → (sends_next c ps n).client.program ≡ c.program
sends_program c [] n = refl
sends_program c (p ∷ ps) None = refl
sends_program c (p ∷ ps) (Some n) = refl

-- an abort is sent, or finds no free tag: the client's program is the same
pub aborts_program : (c : Client) (n : Option ℕ) → (sends_abort c n).client.program ≡ c.program
aborts_program c None = refl
aborts_program c (Some n) = refl

hears_program : (c : Client) (t : Tag) (m : Mark) (r : Result Table Cause) → (client_hears c t m r).program ≡ c.program
hears_program c t m (Ok b) = refl
hears_program c t m (Err cause) = refl

-- a reply is read, expected or not: the client's program is the same
pub read_program : (c : Client) (t : Tag) (m : Mark) → (client_read c t m).program ≡ c.program
read_program c t m = go (tag_is t (Tag.Event 0))
  where
    go : (b : Bool) → (cond b c (client_hears c t m (heard_on c.program.features c.table t m))).program ≡ c.program
    go true = refl
    go false = hears_program c t m (heard_on c.program.features c.table t m)

server_reads_program : (w : World) (up : List Line) → (server_reads w up).client.program ≡ w.client.program
server_reads_program w [] = refl
server_reads_program w (l ∷ up) = refl

client_reads_program : (w : World) (down : List Reply) → (client_reads w down).client.program ≡ w.client.program
client_reads_program w [] = refl
client_reads_program w (r ∷ down) = read_program w.client (tag_of r) (mark_of r)

happens_program : (e : Event) (w : World) → (happens e w).client.program ≡ w.client.program
happens_program Connect w = refl
happens_program (Accept n) w = refl
happens_program ClientSends w = sends_program w.client w.client.table.tally.unsent
    (next_number Tag.Std w.client.table.standard w.client.drawn)
happens_program ServerReads w = server_reads_program w w.up
happens_program (ServerReadsOld reading) w = refl
happens_program ServerTurn w = refl
happens_program (Machine outcome) w = refl
happens_program ClientReads w = client_reads_program w w.down
happens_program ClientLeaves w = refl
happens_program ServerLeaves w = refl
happens_program Abort w = aborts_program w.client (next_number Tag.Event w.client.table.event w.client.event_drawn)
happens_program Resume w = refl
happens_program (ClientRestart k) w = refl
happens_program ServerRestart w = refl

after_program : (e : Event) (w : World) (b : Bool) → (cond b (happens e w) w).client.program ≡ w.client.program
after_program e w true = happens_program e w
after_program e w false = refl

-- after any list of events the client has the program that it had before
pub run_program : (es : List Event) (w : World) → (run_of es w).client.program ≡ w.client.program
run_program [] w = refl
run_program (e ∷ es) w = run_program es (after e w) ∙ after_program e w (can e w)
