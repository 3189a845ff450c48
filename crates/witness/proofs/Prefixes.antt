-- What was reported before stays before what is reported.
use Rattle.witness.proofs.Names.{[], ◌++◌, ◌∙◌, ◌∷◌, ◌≡◌, all_renewed, answered, ap, append_assoc, at_once, at_use, Bool, client_front, client_sent}
use Rattle.witness.proofs.Names.{command_of, Dialogue, Err, false, Fault, faulting, first_under, foreign_event, Front, Heard, heard_as, heard_at}
use Rattle.witness.proofs.Names.{heard_under, hearing, if◌then◌else◌, is_end, is_out_of_turn, is_report, List, None, NotInTurn, Ok, one_more, Option}
use Rattle.witness.proofs.Names.{refl, Reported, reported_by, response_of, sending, sent, sent_tagged, SentCommand, server_answered, server_front}
use Rattle.witness.proofs.Names.{Signal, slice_get, Some, Tag, true, unasked, unless_crossed, Use, use_heard, use_renewed, ℕ}
use Rattle.witness.specs.declared.lines.Side.TheVariants.{Client, Server}

abbrev pub with_reports : Dialogue → List Reported → Dialogue
with_reports d rs = record {
  ordered = d.ordered;
  lines = d.lines;
  uses = d.uses;
  events = d.events;
  crossed = d.crossed;
  known = d.known;
  reported = rs;
}

abbrev pub prefixed : List Reported → Dialogue → Dialogue
prefixed before d = with_reports d (before ++ d.reported)

-- ---- a line of the client

once_after : (before : List Reported) (d : Dialogue) (line : List ℕ) → at_once (prefixed before d) line ≡ prefixed before (at_once d line)
once_after before d line = ap (with_reports (at_once d line)) (append_assoc before d.reported (Reported.Other Client line ∷ []))

tagged_after : (before : List Reported) (d : Dialogue) (line : List ℕ) (tag : Tag) (what : SentCommand)
    → sent_tagged (prefixed before d) line tag what ≡ prefixed before (sent_tagged d line tag what)
tagged_after before d line tag what = by (foreign_event tag what) where
  by : (b : Bool) → (if b then sending (at_once (prefixed before d) line) tag what else sending (prefixed before d) tag what)
      ≡ prefixed before (if b then sending (at_once d line) tag what else sending d tag what)
  by true = ap (λ x. sending x tag what) (once_after before d line)
  by false = refl

sent_after : (before : List Reported) (d : Dialogue) (line : List ℕ) (what : Option (Tag × SentCommand))
    → client_sent (prefixed before d) line what ≡ prefixed before (client_sent d line what)
sent_after before d line None = ap one_more (once_after before d line)
sent_after before d line (Some (tag, what)) = tagged_after before d line tag what

pub client_after : (before : List Reported) (d : Dialogue) (f : Front) → client_front (prefixed before d) f ≡ prefixed before (client_front d f)
client_after before d (Ok None) = refl
client_after before d (Ok (Some (line, rest))) = sent_after before d line (sent line (command_of line))
client_after before d (Err fault) = refl

-- ---- a line of the server

fault_after : (before : List Reported) (d : Dialogue) (r : Reported) → faulting (prefixed before d) r ≡ prefixed before (faulting d r)
fault_after before d r = ap (with_reports (faulting d r)) (append_assoc before d.reported (r ∷ []))

hearing_after : (before : List Reported) (d : Dialogue) (at : ℕ) (u : Use) (h : Heard) (e : Bool)
    → hearing (prefixed before d) at u h e ≡ prefixed before (hearing d at u h e)
hearing_after before d at u h e = ap (with_reports (hearing d at u h e)) (append_assoc before d.reported
    (reported_by (unless_crossed d.crossed (use_heard u.line h u).known) u.tag u.command u.stage h))

heard_after : (before : List Reported) (d : Dialogue) (at : ℕ) (u : Use) (h : Heard) (e : Bool)
    → heard_at (prefixed before d) at u h e ≡ prefixed before (heard_at d at u h e)
heard_after before d at u h e = by (is_out_of_turn d.uses at u h) where
  by : (b : Bool) → (if b
      then hearing (faulting (prefixed before d) (Reported.Broken NotInTurn u.tag)) at (use_renewed (all_renewed Fault) u) h e
      else hearing (prefixed before d) at u h e)
      ≡ prefixed before (if b then hearing (faulting d (Reported.Broken NotInTurn u.tag)) at (use_renewed (all_renewed Fault) u) h e
      else hearing d at u h e)
  by true = ap (λ x. hearing x at (use_renewed (all_renewed Fault) u) h e) (fault_after before d (Reported.Broken NotInTurn u.tag))
      ∙ hearing_after before (faulting d (Reported.Broken NotInTurn u.tag)) at (use_renewed (all_renewed Fault) u) h e
  by false = hearing_after before d at u h e

use_after : (before : List Reported) (d : Dialogue) (at : ℕ) (signal : Signal) (u : Option Use)
    → at_use (prefixed before d) at signal u ≡ prefixed before (at_use d at signal u)
use_after before d at signal None = refl
use_after before d at signal (Some u) = heard_after before d at u (heard_as u.command signal) (is_end signal)

unasked_after : (before : List Reported) (d : Dialogue) (line : List ℕ) (tag : Tag) (signal : Signal)
    → unasked (prefixed before d) line tag signal ≡ prefixed before (unasked d line tag signal)
unasked_after before d line tag signal = by (is_report tag signal d.events) where
  by : (b : Bool) → (if b then prefixed before d else faulting (prefixed before d) (Reported.Unasked line))
      ≡ prefixed before (if b then d else faulting d (Reported.Unasked line))
  by true = refl
  by false = fault_after before d (Reported.Unasked line)

under_after : (before : List Reported) (d : Dialogue) (line : List ℕ) (tag : Tag) (signal : Signal) (at : Option ℕ)
    → heard_under (prefixed before d) line tag signal at ≡ prefixed before (heard_under d line tag signal at)
under_after before d line tag signal None = unasked_after before d line tag signal
under_after before d line tag signal (Some at) = use_after before d at signal (slice_get d.uses at)

answered_after : (before : List Reported) (d : Dialogue) (line : List ℕ) (what : Option (Tag × Signal))
    → server_answered (prefixed before d) line what ≡ prefixed before (server_answered d line what)
answered_after before d line None = fault_after before d (Reported.Other Server line)
answered_after before d line (Some (tag, signal)) = under_after before d line tag signal (first_under tag d.uses)

pub server_after : (before : List Reported) (d : Dialogue) (f : Front) → server_front (prefixed before d) f ≡ prefixed before (server_front d f)
server_after before d (Ok None) = refl
server_after before d (Ok (Some (line, rest))) = answered_after before d line (answered (response_of line))
server_after before d (Err fault) = refl
