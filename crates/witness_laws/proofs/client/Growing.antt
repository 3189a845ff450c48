-- What was reported only grows.
use Rattle.witness_laws.proofs.Names.{◌++◌, ◌∙◌, ◌∷◌, ◌≡◌, [], Act, all_renewed, answered, ap, append-nil, append_assoc, at_once, at_use, Bool}
use Rattle.witness_laws.proofs.Names.{Client, client_sent, command_of, cond, Dialogue, Down, false, Fault, faulting, first_under, foreign_event}
use Rattle.witness_laws.proofs.Names.{Heard, heard_as, heard_at, heard_under, hearing, is_end, is_out_of_turn, is_report, Line, List, None, NotInTurn}
use Rattle.witness_laws.proofs.Names.{Option, refl, Reported, reported_by, response_of, said, said_all, sending, sent, SentCommand, Server}
use Rattle.witness_laws.proofs.Names.{server_answered, Signal, slice_get, Some, sym, Tag, true, unasked, unless_crossed, Up, Use, use_heard}
use Rattle.witness_laws.proofs.Names.{use_renewed, ℕ}
use Rattle.witness_laws.proofs.client.Claiming.{Begins}

-- more is reported
pub record Grows (d e : Dialogue) : Type 0 where
  pub more : List Reported
  pub parts : e.reported ≡ d.reported ++ more

pub grows_not : (d e : Dialogue) → e.reported ≡ d.reported → Grows d e
grows_not d e same = record { more = []; parts = same ∙ sym (append-nil d.reported) }

mark_grows : (d : Dialogue) (at : ℕ) (u : Use) (h : Heard) (ended : Bool) → Grows d (heard_at d at u h ended)
mark_grows d at u h ended = go (is_out_of_turn d.uses at u h)
  where
    more : Dialogue → Use → List Reported
    more e v = reported_by (unless_crossed e.crossed (use_heard v.line h v).known) v.tag v.command v.stage h

    early : Dialogue
    early = faulting d (Reported.Broken NotInTurn u.tag)

    late : Use
    late = use_renewed (all_renewed Fault) u

    go : (b : Bool) → Grows d (cond b (hearing (faulting d (Reported.Broken NotInTurn u.tag)) at (use_renewed (all_renewed Fault) u) h ended)
        (hearing d at u h ended))
    go true = record {
      more = Reported.Broken NotInTurn u.tag ∷ more early late;
      parts = append_assoc d.reported (Reported.Broken NotInTurn u.tag ∷ []) (more early late);
    }
    go false = record { more = more d u; parts = refl }

place_grows : (d : Dialogue) (at : ℕ) (signal : Signal) (o : Option Use) → Grows d (at_use d at signal o)
place_grows d at signal None = grows_not d d refl
place_grows d at signal (Some u) = mark_grows d at u (heard_as u.command signal) (is_end signal)

unasked_grows : (d : Dialogue) (line : List ℕ) (x : Tag) (signal : Signal) → Grows d (unasked d line x signal)
unasked_grows d line x signal = go (is_report x signal d.events)
  where
    go : (b : Bool) → Grows d (cond b d (faulting d (Reported.Unasked line)))
    go true = grows_not d d refl
    go false = record { more = Reported.Unasked line ∷ []; parts = refl }

under_grows : (d : Dialogue) (line : List ℕ) (x : Tag) (signal : Signal) (at : Option ℕ) → Grows d (heard_under d line x signal at)
under_grows d line x signal None = unasked_grows d line x signal
under_grows d line x signal (Some at) = place_grows d at signal (slice_get d.uses at)

-- a line of the server
pub answer_grows : (d : Dialogue) (line : List ℕ) (o : Option (Tag × Signal)) → Grows d (server_answered d line o)
answer_grows d line None = record { more = Reported.Other Server line ∷ []; parts = refl }
answer_grows d line (Some (x, signal)) = under_grows d line x signal (first_under x d.uses)

-- a line of the client
sent_grows : (d : Dialogue) (line : List ℕ) (o : Option (Tag × SentCommand)) → Grows d (client_sent d line o)
sent_grows d line None = record { more = Reported.Other Client line ∷ []; parts = refl }
sent_grows d line (Some (x, what)) = go (foreign_event x what)
  where
    go : (b : Bool) → Grows d (cond b (sending (at_once d line) x what) (sending d x what))
    go true = record { more = Reported.Other Client line ∷ []; parts = refl }
    go false = grows_not d (sending d x what) refl

said_grows : (d : Dialogue) (line : Line) → Grows d (said d line)
said_grows d (Up line) = sent_grows d line (sent line (command_of line))
said_grows d (Down line) = answer_grows d line (answered (response_of line))

-- what was reported still begins with what it did
pub begins_still : (lossy : Bool) (acts : List Act) (d e : Dialogue) → Begins lossy acts d.reported → Grows d e → Begins lossy acts e.reported
begins_still lossy acts d e b g = record {
  first = Begins.first b;
  more = Begins.more b ++ g.more;
  parts = g.parts ∙ (ap (λ (l : List Reported). l ++ g.more) (Begins.parts b) ∙ append_assoc (Begins.first b) (Begins.more b) g.more);
  exact = Begins.exact b;
  claims = Begins.claims b;
}

pub begins_after : (lossy : Bool) (acts : List Act) (d : Dialogue) (lines : List Line) → Begins lossy acts d.reported
    → Begins lossy acts (said_all d lines).reported
begins_after lossy acts d [] b = b
begins_after lossy acts d (line ∷ lines) b =
    begins_after lossy acts (said d line) lines (begins_still lossy acts d (said d line) b (said_grows d line))
