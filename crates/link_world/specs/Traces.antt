-- The lines that both sides of a world write, as text, in the order in which they were written; and what was never delivered (this
-- profile). A LF is 10, a CR is 13.
use Rattle.std.specs.Prelude.{◌≡◌, ◌==◌, ◌||◌, ℕ, zero, suc, ◌-◌, nat_lt, Bool, true, false, if◌then◌else◌, Option, Some, None, List, [], ◌∷◌, ◌++◌}
use Rattle.std.specs.Prelude.{length, drop, codes, decimal}
use Rattle.std.specs.List.{flat_map, slice_split}
use Rattle.protocol_model.specs.World.{World, link_of, can, happens, after, run_of}
use Rattle.protocol_model.specs.declared.events.Event.{Event}
use Rattle.protocol_model.specs.declared.events.Event.TheVariants as event
use Rattle.link_world.specs.declared.worlds.standing.Standing.{Standing}

-- ---- the rows of bytes

-- a line without the CR at its end
abbrev pub without_cr : List ℕ → List ℕ
without_cr [] = []
without_cr (b ∷ []) = if b == 13 then [] else b ∷ []
without_cr (b ∷ c ∷ bs) = b ∷ without_cr (c ∷ bs)

-- the row of a line: the number of its connection, the mark, and the line; an empty line has no row
abbrev pub row : ℕ → List ℕ → List ℕ → List ℕ
row n mark [] = []
row n mark (b ∷ bs) = decimal n ++ (mark ++ ((b ∷ bs) ++ 10 ∷ []))

-- the rows of bytes on the connection of this number, line by line; the last line may lack its LF
abbrev pub rows : ℕ → List ℕ → List ℕ → List ℕ
rows n mark bytes = flat_map (λ line. row n mark (without_cr line)) (slice_split (λ b. b == 10) bytes)

-- the mark of the client, and the mark of the server, by whether the other side can still take the line
abbrev pub client_mark : Bool → List ℕ
client_mark true = codes " > "
client_mark false = codes " > never delivered: "

abbrev pub server_mark : Bool → List ℕ
server_mark true = codes " < "
server_mark false = codes " < never delivered: "

-- ---- both sides before an event

-- the bytes that wait on the connection of this number: those of the client, and those of the server
abbrev pub up_on : World → ℕ → List ℕ
up_on w n = (link_of w.links n).up

abbrev pub down_on : World → ℕ → List ℕ
down_on w n = (link_of w.links n).down

-- the number of the connection that a side is on, if it is on one
abbrev pub place : Bool → ℕ → Option ℕ
place on last = if on then Some last else None

-- where both sides are, which connection the server took last, and how many bytes wait where each writes
abbrev pub standing : World → Standing
standing w = record {
  client = place w.client.client.on w.client.client.last;
  server = place w.server.server.on w.server.server.last;
  taken = w.server.server.last;
  up = length (up_on w w.client.client.last);
  down = length (down_on w w.server.server.last);
}

-- a side is on the connection of this number
abbrev pub is_there : Option ℕ → ℕ → Bool
is_there None n = false
is_there (Some m) n = m == n

-- the server can take what the client writes: it is on that connection, or has not come to it yet
abbrev pub comes_up : Standing → ℕ → Bool
comes_up s n = is_there s.server n || nat_lt s.taken n

-- ---- the rows of an event

-- what the client wrote, and what the server wrote: the bytes that joined those that waited
abbrev pub client_wrote : Standing → World → Option ℕ → List ℕ
client_wrote s v None = []
client_wrote s v (Some n) = rows n (client_mark (comes_up s n)) (drop s.up (up_on v n))

abbrev pub server_wrote : Standing → World → Option ℕ → List ℕ
server_wrote s v None = []
server_wrote s v (Some n) = rows n (server_mark (is_there s.client n)) (drop s.down (down_on v n))

-- what is never delivered on a connection that its reader has left: of the client, and of the server
abbrev pub lost_up : World → Option ℕ → List ℕ
lost_up v None = []
lost_up v (Some n) = rows n (client_mark false) (up_on v n)

abbrev pub lost_down : World → Option ℕ → List ℕ
lost_down v None = []
lost_down v (Some n) = rows n (server_mark false) (down_on v n)

-- what is never delivered on this many connections from number n on, because the server never takes them
abbrev pub passed_over : World → ℕ → ℕ → List ℕ
passed_over v n zero = []
passed_over v n (suc count) = rows n (client_mark false) (up_on v n) ++ passed_over v (suc n) count

-- the rows of an event, from both sides before it and the world after it
abbrev pub shown : Event → Standing → World → List ℕ
shown event.ClientSends s v = client_wrote s v s.client
shown event.Abort s v = client_wrote s v s.client
shown event.ServerReads s v = server_wrote s v s.server
shown event.ServerTurn s v = server_wrote s v s.server
shown (event.Machine outcome) s v = server_wrote s v s.server
shown event.ClientLeaves s v = lost_down v s.client
shown (event.ClientRestart count) s v = lost_down v s.client
shown event.ServerLeaves s v = lost_up v s.server
shown event.ServerRestart s v = lost_up v s.server
shown (event.Accept n) s v = passed_over v (suc s.taken) ((n - 1) - s.taken)
shown _ s v = []

-- ---- the text of a run

-- the rows of events, one after another; an event that cannot happen has none
abbrev pub traced : List Event → World → List ℕ
traced [] w = []
traced (e ∷ es) w = (if can e w then shown e (standing w) (happens e w) else []) ++ traced es (after e w)

-- what has not come to its reader when no more events happen
abbrev pub undelivered : World → List ℕ
undelivered w =
    lost_down w (standing w).client
    ++ (lost_up w (standing w).server ++ passed_over w (suc w.server.server.last) (length w.links - w.server.server.last))

-- ---- a trace

-- whether the text is kept, the number of the connection that the server took last, and the text
pub record TraceValue : Type 0 where
  pub is_kept : Bool
  pub taken : ℕ
  pub text : List ℕ

-- a trace that is not kept
abbrev pub no_trace : TraceValue
no_trace = record { is_kept = false; taken = 0; text = [] }

-- a trace before and after rows: if it is still kept, they follow the text; if memory ran out for a row, it is kept no longer
pub record Follows (old new : TraceValue) (rows : List ℕ) : Type 0 where
  pub kept : old.is_kept ≡ true
  pub taken : new.taken ≡ old.taken
  pub text : new.text ≡ old.text ++ rows

abbrev pub Grows : TraceValue → TraceValue → List ℕ → Type 0
Grows old new rows = new.is_kept ≡ true → Follows old new rows

-- the number of the connection that the server took last, after an event
abbrev pub taken_after : Event → ℕ → ℕ
taken_after (event.Accept n) taken = n
taken_after _ taken = taken

-- likewise before and after events of a world, of which the trace has the connection that the server took last
pub record TracesAll (events : List Event) (w : World) (old new : TraceValue) : Type 0 where
  pub taken : new.taken ≡ (run_of events w).server.server.last
  pub text : new.text ≡ old.text ++ traced events w

abbrev pub Traces : List Event → World → TraceValue → TraceValue → Type 0
Traces events w old new = new.is_kept ≡ true → (old.is_kept ≡ true)
    × (old.taken ≡ w.server.server.last → TracesAll events w old new)

-- likewise for what is not delivered in the end
abbrev pub Ends : World → TraceValue → TraceValue → Type 0
Ends w old new = new.is_kept ≡ true → (old.is_kept ≡ true)
    × (old.taken ≡ w.server.server.last → new.text ≡ old.text ++ undelivered w)
