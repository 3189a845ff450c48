-- A witness that reads lines of the server before the client does: what it has reported begins with what the client counts.
use Rattle.witness_laws.proofs.Names.{◌++◌, ◌∙◌, ◌∷◌, ◌≡◌, [], Act, after, answered, answers, ap, AreCounted, Bool, client_lines, ClientEnd, Command}
use Rattle.witness_laws.proofs.Names.{command_read, command_texts, cond, Dialogue, drop, Err, false, false≢true, Feature, Front, length, LineFault}
use Rattle.witness_laws.proofs.Names.{List, list_any, new_client_end, next_number, next_of, None, Ok, Option, Planned, refl, response_of, Result}
use Rattle.witness_laws.proofs.Names.{Sends, sends_abort, sends_next, sent, server_front, server_line, server_lines, silence, Some, subst, sym, Tag}
use Rattle.witness_laws.proofs.Names.{true, written_command, ℕ}
use Rattle.protocol_model.specs.Client.{Client}
use Rattle.witness.specs.declared.lines.SentCommand.TheVariants.{Known}
use Rattle.dmis_program.specs.Meaning.{Meaning}
use Rattle.dmis_program.specs.Programs.{IsProgram}
use Rattle.client_core.specs.Calls.{Call, Connected, Send, Feed, ReadOne, Abort, Resume, Leave, Restart, Sent, possible, done_by, behind_calls, Plans, plans_begun}
use Rattle.client_core.specs.Clients.{are_ours}
use Rattle.client_core.proofs.Runs.{Holds, behind_holds}
use Rattle.witness_laws.proofs.orders.Commands.{swap_command}
use Rattle.witness_laws.specs.Acts.{BeginsWith, BeginsToClaim}
use Rattle.witness_laws.specs.Ahead.{Turn, Calls, Comes, Watched, written_by, line_at, read_by, called, after_turn, after_turns, AreUnanswered, IsCausalCall}
use Rattle.witness_laws.specs.Ahead.{IsBegun, IsCausalTurn, AreCausal, unasked_turn, unasked_turns, begun_on}
use Rattle.witness_laws.specs.Ahead.IsBegun.{connected}
use Rattle.witness_laws.specs.Lines.IsOurClient.{our_client}
use Rattle.witness_laws.specs.Lines.{IsOurClient, counted_by, witnessed_by, unasked_by}
use Rattle.witness_laws.proofs.client.Agreeing.{AgreesOn}
use Rattle.witness_laws.proofs.client.Claiming.{Begins, begins_with, begins_to_claim}
use Rattle.witness_laws.proofs.client.Growing.{answer_grows, begins_still}
use Rattle.witness_laws.proofs.client.Seeing.{IsSeen, IsDrawn, not_foreign, sent_drawn, aborted_drawn, sending_agrees, aborting_agrees, done_seen, connected_seen}
use Rattle.witness_laws.proofs.client.Seeing.{IsBehind, behind_one_more}

-- ---- lines of the server

server_last : (d : Dialogue) (down : List (List ℕ)) (line : List ℕ)
    → after (server_lines d down) (server_line line) ≡ server_lines d (down ++ line ∷ [])
server_last d [] line = refl
server_last d (x ∷ down) line = server_last (after d (server_line x)) down line

begins_lines : (lossy : Bool) (acts : List Act) (d : Dialogue) (down : List (List ℕ)) → Begins lossy acts d.reported
    → Begins lossy acts (server_lines d down).reported
begins_lines lossy acts d [] b = b
begins_lines lossy acts d (line ∷ down) b = begins_lines lossy acts (after d (server_line line)) down
    (begins_still lossy acts d (after d (server_line line)) b (answer_grows d line (answered (response_of line))))

-- ---- what is written

-- a witness that reads the line of a command before or after lines of the server
one_apart : (d : Dialogue) (x : Tag) (c : Command) (ahead : List (List ℕ)) → AreCounted 0 d.uses d.lines → IsDrawn d x c
    → list_any (answers x) ahead ≡ false
    → client_lines (server_lines d ahead) (command_texts (record { tag = x; command = c } ∷ []))
    ≡ server_lines (client_lines d (command_texts (record { tag = x; command = c } ∷ []))) ahead
one_apart d x c ahead counted k none =
    sends (server_lines d ahead)
    ∙ (swap_command d (written_command x c) x (Known c) ahead counted (IsDrawn.free k) (not_foreign x c) none
    ∙ ap (λ (e : Dialogue). server_lines e ahead) (sym (sends d)))
  where
    sends : (e : Dialogue) → client_lines e (command_texts (record { tag = x; command = c } ∷ []))
        ≡ after e (Sends (written_command x c) (Some (x, Known c)))
    sends e = ap (λ (r : Result (Tag × Command) LineFault). after e (Sends (written_command x c) (sent (written_command x c) r)))
        (command_read x c (IsDrawn.writable k))

sent_apart : (lossy : Bool) (c : Client) (d : Dialogue) (ahead : List (List ℕ)) → AgreesOn lossy c.table d → (l : List Planned)
    → c.table.tally.unsent ≡ l → (number : Option ℕ) → next_number Tag.Std c.table.standard c.drawn ≡ number
    → AreUnanswered (sends_next c l number).lines ahead
    → client_lines (server_lines d ahead) (command_texts (sends_next c l number).lines)
    ≡ server_lines (client_lines d (command_texts (sends_next c l number).lines)) ahead
sent_apart lossy c d ahead a [] is number drawn none = refl
sent_apart lossy c d ahead a (q ∷ qs) is None drawn none = refl
sent_apart lossy c d ahead a (q ∷ qs) is (Some n) drawn none =
    one_apart d (Tag.Std n) q.command ahead (AgreesOn.rising a) (sent_drawn lossy c d a q qs is n drawn) none.0

abort_apart : (lossy : Bool) (c : Client) (d : Dialogue) (ahead : List (List ℕ)) → AgreesOn lossy c.table d → (number : Option ℕ)
    → next_number Tag.Event c.table.event c.event_drawn ≡ number → AreUnanswered (sends_abort c number).lines ahead
    → client_lines (server_lines d ahead) (command_texts (sends_abort c number).lines)
    ≡ server_lines (client_lines d (command_texts (sends_abort c number).lines)) ahead
abort_apart lossy c d ahead a None drawn none = refl
abort_apart lossy c d ahead a (Some n) drawn none =
    one_apart d (Tag.Event n) Command.AbortE ahead (AgreesOn.rising a) (aborted_drawn lossy c d a n drawn) none.0

-- ---- what is read

read_apart : (d : Dialogue) (ahead later : List (List ℕ)) (f : Front) → ahead ≡ line_at f ++ later
    → server_lines d ahead ≡ server_lines (server_front d f) (drop (length (line_at f)) ahead)
read_apart d ahead later (Ok None) is = refl
read_apart d ahead later (Ok (Some (line, rest))) is =
    ap (server_lines d) is ∙ ap (λ (l : List (List ℕ)). server_lines (after d (server_line line)) (drop 1 l)) (sym is)
read_apart d ahead later (Err fault) is = refl

-- ---- each turn

-- the witness is as one that reads the server's lines with the client, and then those that are ahead
record IsAhead (lossy : Bool) (p : Meaning) (kept : List Feature) (window : ℕ) (w : Watched) : Type 0 where
  with_client : Dialogue
  reached : IsBehind p kept window w.client
  seen : IsSeen lossy w.client.client with_client
  dialogue : w.dialogue ≡ server_lines with_client w.ahead

call_apart : (lossy : Bool) (p : Meaning) (plans : Plans) (call : Call) (w : Watched) (d : Dialogue) → Holds p w.client.client plans
    → possible call w.client ≡ true → IsSeen lossy w.client.client d → IsCausalCall call w
    → client_lines (server_lines d w.ahead) (command_texts (written_by call w.client))
    ≡ server_lines (witnessed_by call w.client d) (drop (length (read_by call w.client)) w.ahead)
call_apart lossy p plans Send w d h may s k =
    sent_apart lossy w.client.client d w.ahead (sending_agrees lossy p plans w.client.client d h may s)
    w.client.client.table.tally.unsent refl (next_number Tag.Std w.client.client.table.standard w.client.client.drawn) refl k.unanswered
call_apart lossy p plans Abort w d h may s k =
    abort_apart lossy w.client.client d w.ahead (aborting_agrees lossy p plans w.client.client d h may s)
    (next_number Tag.Event w.client.client.table.event w.client.client.event_drawn) refl k.unanswered
call_apart lossy p plans ReadOne w d h may s k = read_apart d w.ahead k.later (next_of w.client.input.rest) k.first
call_apart lossy p plans (Feed bytes) w d h may s k = refl
call_apart lossy p plans Resume w d h may s k = refl
call_apart lossy p plans (Sent n) w d h may s k = refl
call_apart lossy p plans (Connected n) w d h may s k = absurd (false≢true k.on)
call_apart lossy p plans Leave w d h may s k = absurd (false≢true k.on)
call_apart lossy p plans (Restart n) w d h may s k = absurd (false≢true k.on)

turn_ahead : (lossy : Bool) (p : Meaning) (kept : List Feature) (window : ℕ) → IsProgram p → are_ours p.features kept ≡ true → (turn : Turn)
    (w : Watched) → IsCausalTurn turn w → IsAhead lossy p kept window w
    → IsAhead (unasked_turn turn w lossy) p kept window (after_turn turn w)
turn_ahead lossy p kept window program ours (Comes line) w causal a = record {
  with_client = IsAhead.with_client a;
  reached = IsAhead.reached a;
  seen = IsAhead.seen a;
  dialogue = ap (λ (d : Dialogue). after d (server_line line)) (IsAhead.dialogue a) ∙ server_last (IsAhead.with_client a) w.ahead line;
}
turn_ahead lossy p kept window program ours (Calls call) w causal a = go (possible call w.client) refl
  where
    now : possible call w.client ≡ true → IsAhead (unasked_by call w.client lossy) p kept window (called call w)
    now may =
        let b : IsBehind p kept window w.client = IsAhead.reached a in
        let h : Holds p w.client.client (plans_begun b.calls p kept window) =
        subst (λ (x : ClientEnd). Holds p x.client (plans_begun b.calls p kept window)) (sym b.is)
        (behind_holds p kept window b.calls program ours) in
        record {
          with_client = witnessed_by call w.client (IsAhead.with_client a);
          reached = behind_one_more p kept window call w.client b;
          seen = subst (λ (x : Bool). IsSeen (unasked_by call w.client lossy) (cond x (done_by call w.client) w.client).client
              (witnessed_by call w.client (IsAhead.with_client a))) (sym may)
              (done_seen lossy p (plans_begun b.calls p kept window) call w.client (IsAhead.with_client a) h may (IsAhead.seen a));
          dialogue = ap (λ (d : Dialogue). client_lines d (command_texts (written_by call w.client))) (IsAhead.dialogue a)
              ∙ call_apart lossy p (plans_begun b.calls p kept window) call w (IsAhead.with_client a) h may (IsAhead.seen a)
              (causal may);
        }

    go : (x : Bool) → possible call w.client ≡ x
        → IsAhead (cond x (unasked_by call w.client lossy) lossy) p kept window (cond x (called call w) w)
    go true may = now may
    go false never = a

turns_ahead : (lossy : Bool) (p : Meaning) (kept : List Feature) (window : ℕ) → IsProgram p → are_ours p.features kept ≡ true
    → (turns : List Turn) (w : Watched) → AreCausal turns w → IsAhead lossy p kept window w
    → IsAhead (unasked_turns turns w lossy) p kept window (after_turns turns w)
turns_ahead lossy p kept window program ours [] w causal a = a
turns_ahead lossy p kept window program ours (turn ∷ turns) w causal a =
    turns_ahead (unasked_turn turn w lossy) p kept window program ours turns (after_turn turn w) causal.1
    (turn_ahead lossy p kept window program ours turn w causal.0 a)

begun_ahead : (ordered : Bool) (p : Meaning) (kept : List Feature) (window n : ℕ) → IsProgram p → are_ours p.features kept ≡ true
    → (calls : List Call) → possible (Connected n) (behind_calls calls (new_client_end p kept window)) ≡ true
    → IsAhead false p kept window (begun_on ordered n (behind_calls calls (new_client_end p kept window)))
begun_ahead ordered p kept window n program ours calls may =
    let e : ClientEnd = behind_calls calls (new_client_end p kept window) in
    let h : Holds p e.client (plans_begun calls p kept window) = behind_holds p kept window calls program ours in
    record {
      with_client = silence ordered;
      reached = behind_one_more p kept window (Connected n) e (record { calls = calls; is = refl });
      seen = subst (λ (x : Bool). IsSeen false (cond x (done_by (Connected n) e) e).client (silence ordered)) (sym may)
          (connected_seen ordered n e.client h.program);
      dialogue = refl;
    }

-- ---- the law

before : (ordered : Bool) (p : Meaning) (kept : List Feature) (window n : ℕ) (calls : List Call) (turns : List Turn) → IsProgram p
    → are_ours p.features kept ≡ true
    → possible (Connected n) (behind_calls calls (new_client_end p kept window)) ≡ true
    → AreCausal turns (begun_on ordered n (behind_calls calls (new_client_end p kept window)))
    → Begins (unasked_turns turns (begun_on ordered n (behind_calls calls (new_client_end p kept window))) false)
    (after_turns turns (begun_on ordered n (behind_calls calls (new_client_end p kept window)))).client.client.table.tally.counted
    (after_turns turns (begun_on ordered n (behind_calls calls (new_client_end p kept window)))).dialogue.reported
before ordered p kept window n calls turns program ours may causal =
    last (unasked_turns turns (begun_on ordered n (behind_calls calls (new_client_end p kept window))) false)
    (after_turns turns (begun_on ordered n (behind_calls calls (new_client_end p kept window))))
    (turns_ahead false p kept window program ours turns (begun_on ordered n (behind_calls calls (new_client_end p kept window))) causal
    (begun_ahead ordered p kept window n program ours calls may))
  where
    last : (lossy : Bool) (w : Watched) → IsAhead lossy p kept window w → Begins lossy w.client.client.table.tally.counted w.dialogue.reported
    last lossy w a =
        subst (λ (d : Dialogue). Begins lossy w.client.client.table.tally.counted d.reported) (sym (IsAhead.dialogue a))
        (begins_lines lossy w.client.client.table.tally.counted (IsAhead.with_client a) w.ahead (IsSeen.begins (IsAhead.seen a)))

before_of : (ordered : Bool) (n : ℕ) (calls : List Call) (turns : List Turn) (e : ClientEnd) → IsOurClient e
    → possible (Connected n) (behind_calls calls e) ≡ true → AreCausal turns (begun_on ordered n (behind_calls calls e))
    → Begins (unasked_turns turns (begun_on ordered n (behind_calls calls e)) false)
    (counted_by (after_turns turns (begun_on ordered n (behind_calls calls e))).client)
    (after_turns turns (begun_on ordered n (behind_calls calls e))).dialogue.reported
before_of ordered n calls turns _ (our_client p kept window program ours) = before ordered p kept window n calls turns program ours

begins_before : (w : Watched) (turns : List Turn) → IsBegun w → AreCausal turns w
    → Begins (unasked_turns turns w false) (counted_by (after_turns turns w).client) (after_turns turns w).dialogue.reported
begins_before _ turns (connected ordered n calls e ours may) causal = before_of ordered n calls turns e ours may causal

pub reported_before : (w : Watched) (turns : List Turn) → IsBegun w → AreCausal turns w → unasked_turns turns w false ≡ false
    → BeginsWith (counted_by (after_turns turns w).client) (after_turns turns w).dialogue.reported
reported_before w turns begun causal none =
    begins_with _ _ (subst (λ (b : Bool). Begins b (counted_by (after_turns turns w).client) (after_turns turns w).dialogue.reported) none
    (begins_before w turns begun causal))

pub claimed_before : (w : Watched) (turns : List Turn) → IsBegun w → AreCausal turns w
    → BeginsToClaim (counted_by (after_turns turns w).client) (after_turns turns w).dialogue.reported
claimed_before w turns begun causal = begins_to_claim _ _ _ (begins_before w turns begun causal)
