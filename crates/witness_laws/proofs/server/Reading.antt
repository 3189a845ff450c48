-- A server and a witness read a line of the client.
use Rattle.witness_laws.proofs.Names.{◌&&◌, ◌++◌, ◌||◌, ◌∙◌, ◌∷◌, ◌≡◌, [], aborted, Act, acts_on, after, all_fail, ap, append-nil, append_assoc}
use Rattle.witness_laws.proofs.Names.{AreReplies, arith, at_once, Bool, client_line, client_sent, Command, command_of, cond, Dialogue, drop, Err}
use Rattle.witness_laws.proofs.Names.{Event, fails, false, false≢true, fault_number, foreign_event, heard_under, in_error, is_abort, is_asking}
use Rattle.witness_laws.proofs.Names.{is_clear, is_event_tag, IsInVolume, IsTag, Kind, kind_in, kind_of, length, LineFault, List, Misread, nat_le}
use Rattle.witness_laws.proofs.Names.{None, not, offset, Ok, one_more, Option, queued, read_is_writable, reading_of, reads_command, ReadsCommand}
use Rattle.witness_laws.proofs.Names.{refl, replies_join, Reply, reply_text, reply_texts, Reported, response_of, Result, runs_under, sending, sent}
use Rattle.witness_laws.proofs.Names.{sent_tagged, SentCommand, server_line, server_lines, server_read, Some, Stage, standard_kind, stands, Std}
use Rattle.witness_laws.proofs.Names.{subst, sym, Tag, tag_is, tagged, true, Waiting, waits_under, ℕ}
use Rattle.protocol_model.specs.Server.{Server, Answer, answers, fresh}
use Rattle.protocol_model.specs.declared.lines.Line.{Line}
use Rattle.witness.specs.Asking.{unknown}
use Rattle.server_core.specs.Kept.{IsLineFit}
use Rattle.server_core.proofs.LinesRead.{read_is_fit}
use Rattle.server_core.proofs.Steadies.{branch}
use Rattle.witness.specs.Asking as witness
use Rattle.witness_laws.specs.Lockstep.{uses_again}
use Rattle.witness_laws.proofs.server.Places.{Shape, HaveOthers, not_found, opened, said_is}
use Rattle.witness_laws.proofs.server.Selected.{Selected, selected}
use Rattle.witness_laws.proofs.server.Hearing.{IsAt, IsCounted, faulting_at, at_once_at, one_more_at, sent_at, tells_same}
use Rattle.witness_laws.proofs.server.Completing.{stopped_so, completed_so}
use Rattle.witness_laws.proofs.server.Replies.{says_failure, receives, fails_first, fails_here, ends_first, fails_heard}
use Rattle.witness_laws.proofs.server.Opening.{running_one, IsAskedAs, IsOpen, AreOpen, AreApart, others_open, under_one, apart_more, all_fail_heard, all_fail_said}
use Rattle.witness_laws.proofs.server.Opening.{open_more, AreFree, free_first, free_second, all_fail_at}
use Rattle.witness_laws.proofs.server.Following.{open_at, Follows, FollowsTo, still, none_open, line_first}
use Rattle.witness_laws.proofs.server.Answering.{heard_there, heard_texts, IsHeard, AreHeard}
use Rattle.witness_laws.proofs.orders.More.{server_append}

-- ---- a line is sent under a tag that is not in use

-- a server, and a witness that has read one line more of the client, under a tag that is not in use
record IsSent (P : Tag → Bool) (s : Server) (tag : Tag) (asked : SentCommand) (t : Dialogue) : Type 0 where
  uses : List Shape
  ours : AreOpen (open_at s) uses
  apart : AreApart (open_at s)
  under : waits_under tag (open_at s) ≡ false
  room : IsTag tag
  at : IsAt P (selected s) (acts_on s.last s.ledger) (uses ++ opened tag asked Stage.Sent ∷ []) t
  stored : IsInVolume s.stored
  frame : IsInVolume (offset s.frame)

abbrev acts_of : Server → List Act
acts_of s = acts_on s.last s.ledger

others : (P : Tag → Bool) (s : Server) (tag : Tag) (asked : SentCommand) (t : Dialogue) → (h : IsSent P s tag asked t) → HaveOthers tag (IsSent.uses h)
others P s tag asked t h = others_open tag (open_at s) (IsSent.uses h) (IsSent.ours h) (IsSent.under h)

-- after its first answer it is received
received : (P : Tag → Bool) (s : Server) (tag : Tag) (asked : SentCommand) (t : Dialogue) → (h : IsSent P s tag asked t)
    → IsAt P (selected s) (acts_of s) (IsSent.uses h ++ opened tag asked Stage.Received ∷ []) (after t (server_line (reply_text (Reply.Ack tag))))
received P s tag asked t h =
    receives P (selected s) (acts_of s) (IsSent.uses h) tag asked [] t (IsSent.room h) (others P s tag asked t h) (IsSent.at h)

received_heard : (P : Tag → Bool) (s : Server) (tag : Tag) (asked : SentCommand) (t : Dialogue) → (h : IsSent P s tag asked t)
    → IsHeard t.uses (response_of (reply_text (Reply.Ack tag)))
received_heard P s tag asked t h =
    heard_there t (Reply.Ack tag) (IsSent.uses h) (opened tag asked Stage.Sent) [] (IsSent.room h) refl (IsSent.at h).shaped

-- a command that is refused at once
refused_now : (P : Tag → Bool) (s : Server) (tag : Tag) (asked : SentCommand) (t : Dialogue) (code : ℕ) (name : Option Kind) → (h : IsSent P s tag asked t)
    → IsAt P (selected s) (acts_of s) (IsSent.uses h) (says_failure (after t (server_line (reply_text (Reply.Ack tag)))) tag code name)
refused_now P s tag asked t code name h =
    let u : Dialogue = after t (server_line (reply_text (Reply.Ack tag))) in
    subst (λ (us : List Shape). IsAt P (selected s) (acts_of s) us (says_failure u tag code name)) (append-nil (IsSent.uses h))
    (fails_here P (selected s) (acts_of s) (IsSent.uses h) tag asked [] u code name (IsSent.room h) (others P s tag asked t h)
    (received P s tag asked t h))

refused_heard : (P : Tag → Bool) (s : Server) (tag : Tag) (asked : SentCommand) (t : Dialogue) (code : ℕ) (name : Option Kind) → (h : IsSent P s tag asked t)
    → IsHeard (after t (server_line (reply_text (Reply.Ack tag)))).uses (response_of (reply_text (Reply.Error tag code name)))
    × IsHeard (after (after t (server_line (reply_text (Reply.Ack tag)))) (server_line (reply_text (Reply.Error tag code name)))).uses
    (response_of (reply_text (Reply.Done tag)))
refused_heard P s tag asked t code name h =
    fails_heard P (selected s) (acts_of s) (IsSent.uses h) tag asked [] (after t (server_line (reply_text (Reply.Ack tag)))) code name
    (IsSent.room h) (others P s tag asked t h) (received P s tag asked t h)

refused_follows : (P : Tag → Bool) (s : Server) (tag : Tag) (asked : SentCommand) (t : Dialogue) (code : ℕ) (name : Option Kind) → IsSent P s tag asked t
    → FollowsTo P t (answers s (Reply.Ack tag ∷ fails tag code name))
refused_follows P s tag asked t code name h = record {
  follows = record {
    uses = IsSent.uses h;
    ours = IsSent.ours h;
    apart = IsSent.apart h;
    at = refused_now P s tag asked t code name h;
    stored = IsSent.stored h;
    frame = IsSent.frame h;
  };
  heard = let two = refused_heard P s tag asked t code name h in (received_heard P s tag asked t h, (two.0, (two.1, tt)));
  said = (IsSent.room h, (IsSent.room h, (IsSent.room h, tt)));
}

-- a command that is queued; the error state may end
queued_follows : (P : Tag → Bool) (s : Server) (tag : Tag) (reading : Result Command Misread) (asked : SentCommand) (t : Dialogue) (error : Bool)
    → IsOpen (record { tag = tag; reading = reading }) asked → IsSent P s tag asked t
    → FollowsTo P t (answers (queued tag reading (record s { error = error })) (Reply.Ack tag ∷ []))
queued_follows P s tag reading asked t error one h =
    let w : Waiting = record { tag = tag; reading = reading } in
    let same : (running_one s.running ++ s.waiting) ++ w ∷ [] ≡ running_one s.running ++ (s.waiting ++ w ∷ []) =
    append_assoc (running_one s.running) s.waiting (w ∷ []) in
    record {
      follows = record {
        uses = IsSent.uses h ++ opened tag asked Stage.Received ∷ [];
        ours = subst (λ (ws : List Waiting). AreOpen ws (IsSent.uses h ++ opened tag asked Stage.Received ∷ [])) same
            (open_more (open_at s) (IsSent.uses h) w asked (IsSent.ours h) one);
        apart = subst AreApart same (apart_more (open_at s) w (IsSent.apart h) (IsSent.under h));
        at = received P s tag asked t h;
        stored = IsSent.stored h;
        frame = IsSent.frame h;
      };
      heard = (received_heard P s tag asked t h, tt);
      said = (IsSent.room h, tt);
    }

-- ---- what waits fails, and what runs continues

-- the open commands: that which runs, and those that wait
record IsSplit (running : Option Line) (ws : List Waiting) (us : List Shape) : Type 0 where
  front : List Shape
  back : List Shape
  parts : us ≡ front ++ back
  ours : AreOpen (running_one running ++ []) front
  apart : AreApart (running_one running ++ [])
  others : AreOpen ws back
  free : AreFree front ws

split_open : (running : Option Line) (ws : List Waiting) (us : List Shape) → AreOpen (running_one running ++ ws) us
    → AreApart (running_one running ++ ws) → IsSplit running ws us
split_open None ws us ours apart =
    record { front = []; back = us; parts = refl; ours = refl; apart = tt; others = ours; free = free_first ws }
split_open (Some line) ws us ours apart = record {
  front = opened line.tag ours.0 Stage.Received ∷ [];
  back = ours.1;
  parts = ours.2;
  ours = (ours.0, [], refl, ours.3, refl);
  apart = (refl, tt);
  others = ours.4;
  free = free_second (opened line.tag ours.0 Stage.Received) ws apart.0;
}

-- where 64 wait, the new one and all that wait fail
full_follows : (P : Tag → Bool) (s : Server) (tag : Tag) (reading : Result Command Misread) (asked : SentCommand) (t : Dialogue) → IsSent P s tag asked t
    → FollowsTo P t (answers (in_error s)
    (Reply.Ack tag ∷ (fails tag 9009 (kind_in reading) ++ all_fail 9007 s.waiting)))
full_follows P s tag reading asked t h =
    let k : IsSplit s.running s.waiting (IsSent.uses h) = split_open s.running s.waiting (IsSent.uses h) (IsSent.ours h) (IsSent.apart h) in
    let u : Dialogue = says_failure (after t (server_line (reply_text (Reply.Ack tag)))) tag 9009 (kind_in reading) in
    let all : IsAt P (selected s) (acts_of s) (IsSplit.front k ++ (IsSplit.back k ++ [])) u =
    subst (λ (us : List Shape). IsAt P (selected s) (acts_of s) (IsSplit.front k ++ us) u) (sym (append-nil (IsSplit.back k)))
    (subst (λ (us : List Shape). IsAt P (selected s) (acts_of s) us u) (IsSplit.parts k) (refused_now P s tag asked t 9009 (kind_in reading) h)) in
    let two = refused_heard P s tag asked t 9009 (kind_in reading) h in
    record {
      follows = record {
        uses = IsSplit.front k;
        ours = IsSplit.ours k;
        apart = IsSplit.apart k;
        at = subst (λ (us : List Shape). IsAt P (selected s) (acts_of s) us (server_lines u (reply_texts (all_fail 9007 s.waiting))))
            (append-nil (IsSplit.front k))
            (all_fail_at P (selected s) (acts_of s) 9007 s.waiting (IsSplit.back k) (IsSplit.front k) [] u (IsSplit.others k)
            (IsSplit.free k) all);
        stored = IsSent.stored h;
        frame = IsSent.frame h;
      };
      heard = (
        received_heard P s tag asked t h,
        (
          two.0,
          (
            two.1,
            all_fail_heard P (selected s) (acts_of s) 9007 s.waiting (IsSplit.back k) (IsSplit.front k) [] u (IsSplit.others k)
                (IsSplit.free k) all,
          ),
        ),
      );
      said = (
        IsSent.room h,
        (IsSent.room h, (IsSent.room h, all_fail_said 9007 s.waiting (IsSplit.back k) (IsSplit.others k))),
      );
    }

-- a standard command, or a faulty line under a standard tag
stands_follows : (P : Tag → Bool) (s : Server) (tag : Tag) (reading : Result Command Misread) (asked : SentCommand) (t : Dialogue)
    → IsOpen (record { tag = tag; reading = reading }) asked → IsSent P s tag asked t → FollowsTo P t (stands s tag reading)
stands_follows P s tag reading asked t one h =
    branch (FollowsTo P t) (s.error && not (is_clear reading)) _ _ (λ refused. refused_follows P s tag asked t 9008 (kind_in reading) h)
    (λ other. branch (FollowsTo P t) s.error _ _ (λ error. queued_follows P s tag reading asked t false one h)
    (λ calm. branch (FollowsTo P t) (nat_le 64 (length s.waiting)) _ _ (λ full. full_follows P s tag reading asked t h)
    (λ room. queued_follows P s tag reading asked t s.error one h)))

-- ---- an abort

texts_more : (xs ys : List Reply) → reply_texts (xs ++ ys) ≡ reply_texts xs ++ reply_texts ys
texts_more [] ys = refl
texts_more (x ∷ xs) ys = ap (λ (l : List (List ℕ)). reply_text x ∷ l) (texts_more xs ys)

-- the abort ends after all others have failed
abort_ends : (P : Tag → Bool) (new : Server) (tag : Tag) (ws : List Waiting) (rest : List Shape) (t : Dialogue) → IsTag tag → AreOpen ws rest
    → IsAt P (selected (still new [])) (acts_of new) (rest ++ opened tag (SentCommand.Known Command.AbortE) Stage.Received ∷ []) t
    → IsInVolume new.stored → IsInVolume (offset new.frame)
    → FollowsTo P t (answers (still new []) (all_fail 9007 ws ++ Reply.Done tag ∷ []))
abort_ends P new tag ws rest t room ours at stored frame =
    let last : List Shape = opened tag (SentCommand.Known Command.AbortE) Stage.Received ∷ [] in
    let u : Dialogue = server_lines t (reply_texts (all_fail 9007 ws)) in
    let h : IsAt P (selected (still new [])) (acts_of new) last u =
    all_fail_at P (selected (still new [])) (acts_of new) 9007 ws rest [] last t ours (free_first ws) at in
    let same : server_lines t (reply_texts (all_fail 9007 ws ++ Reply.Done tag ∷ [])) ≡ after u (server_line (reply_text (Reply.Done tag))) =
    ap (server_lines t) (texts_more (all_fail 9007 ws) (Reply.Done tag ∷ []))
    ∙ server_append t (reply_texts (all_fail 9007 ws)) (reply_texts (Reply.Done tag ∷ [])) in
    record {
      follows = none_open P new _
          (subst (IsAt P (selected (still new [])) (acts_of new) []) (sym same)
          (ends_first P (selected (still new [])) (selected (still new [])) (acts_of new) (acts_of new) tag Command.AbortE Stage.Received [] u room
          (λ n k is. completed_so (selected (still new [])) Command.AbortE n k refl is) (λ k is. tells_same P u.reported (acts_of new) h.tells) h))
          stored frame;
      heard = heard_texts t (all_fail 9007 ws) (Reply.Done tag ∷ [])
          (all_fail_heard P (selected (still new [])) (acts_of new) 9007 ws rest [] last t ours (free_first ws) at)
          (heard_there u (Reply.Done tag) [] (opened tag (SentCommand.Known Command.AbortE) Stage.Received) [] room refl h.shaped, tt);
      said = replies_join (all_fail 9007 ws) (Reply.Done tag ∷ []) (all_fail_said 9007 ws rest ours) (room, tt);
    }

-- whatever runs fails first
aborted_by : (P : Tag → Bool) (s : Server) (running : Option Line) (tag : Tag) (t : Dialogue)
    → IsSent P (record s { running = running }) tag (SentCommand.Known Command.AbortE) t → FollowsTo P t (aborted (record s { running = running }) tag)
aborted_by P s None tag t h =
    line_first P _ t (Reply.Ack tag) _ (received_heard P (record s { running = None }) tag (SentCommand.Known Command.AbortE) t h) (IsSent.room h)
    (abort_ends P (in_error s) tag s.waiting (IsSent.uses h) _ (IsSent.room h) (IsSent.ours h)
    (received P (record s { running = None }) tag (SentCommand.Known Command.AbortE) t h) (IsSent.stored h) (IsSent.frame h))
aborted_by P s (Some line) tag t h =
    let now : Server = record s { running = Some line } in
    let u : Dialogue = after t (server_line (reply_text (Reply.Ack tag))) in
    let last : List Shape = opened tag (SentCommand.Known Command.AbortE) Stage.Received ∷ [] in
    let f = IsSent.ours h in
    let name : Option Kind = Some (kind_of line.command) in
    let at : IsAt P (selected now) (acts_of now) (opened line.tag (SentCommand.Known line.command) Stage.Received ∷ (f.1 ++ last)) u =
    subst (λ (a : SentCommand). IsAt P (selected now) (acts_of now) (opened line.tag a Stage.Received ∷ (f.1 ++ last)) u) f.3.asks
    (subst (λ (us : List Shape). IsAt P (selected now) (acts_of now) (us ++ last) u) f.2
    (received P now tag (SentCommand.Known Command.AbortE) t h)) in
    let two = fails_heard P (selected now) (acts_of now) [] line.tag (SentCommand.Known line.command) (f.1 ++ last) u 9007 name f.3.room tt at in
    line_first P _ t (Reply.Ack tag) _ (received_heard P now tag (SentCommand.Known Command.AbortE) t h) (IsSent.room h)
    (line_first P _ u (Reply.Error line.tag 9007 name) _ two.0 f.3.room
    (line_first P _ _ (Reply.Done line.tag) _ two.1 f.3.room
    (abort_ends P (in_error s) tag s.waiting f.1 _ (IsSent.room h) f.4
    (fails_first P (selected now) (selected (still s [])) (acts_of s) line.tag line.command (f.1 ++ last) u 9007 name f.3.room
    (λ n k is. stopped_so (selected now) line.command n k refl is) at)
    (IsSent.stored h) (IsSent.frame h))))

-- ---- a line

-- a line is read, with its tag, under which no command runs or waits; it may be one that may be carried out at once
sent_so : (b : Bool) (P : Tag → Bool) (s : Selected) (acts : List Act) (xs : List Shape) (d : Dialogue) (line : List ℕ) (tag : Tag)
    (asked : SentCommand) → IsCounted P tag asked → HaveOthers tag xs → IsAt P s acts xs d
    → IsAt P s acts (xs ++ opened tag asked Stage.Sent ∷ []) (cond b (sending (at_once d line) tag asked) (sending d tag asked))
sent_so true P s acts xs d line tag asked counts others h =
    sent_at P s acts xs (at_once d line) tag asked counts others (at_once_at P s acts xs d line h)
sent_so false P s acts xs d line tag asked counts others h = sent_at P s acts xs d tag asked counts others h

is_sent : (P : Tag → Bool) (s : Server) (line : List ℕ) (tag : Tag) (asked : SentCommand) (t : Dialogue) → IsTag tag → IsCounted P tag asked
    → (runs_under tag s.running || waits_under tag s.waiting) ≡ false → Follows P s t → IsSent P s tag asked (sent_tagged t line tag asked)
is_sent P s line tag asked t room counts anew f =
    let under : waits_under tag (open_at s) ≡ false = under_one tag s.running s.waiting anew in record {
      uses = f.uses;
      ours = f.ours;
      apart = f.apart;
      under = under;
      room = room;
      at = sent_so (foreign_event tag asked) P (selected s) (acts_of s) f.uses t line tag asked counts
          (others_open tag (open_at s) f.uses f.ours under) f.at;
      stored = f.stored;
      frame = f.frame;
    }

is_the_abort : (c : Command) → is_abort (Ok c) ≡ true → c ≡ Command.AbortE
is_the_abort Command.AbortE e = refl
is_the_abort c e = absurd (false≢true e)

tagged_follows : (P : Tag → Bool) (s : Server) (tag : Tag) (reading : Result Command Misread) (u : Dialogue)
    → (runs_under tag s.running || waits_under tag s.waiting) ≡ false → FollowsTo P u (fresh s tag reading) → FollowsTo P u (tagged s tag reading)
tagged_follows P s tag reading u anew f =
    branch (FollowsTo P u) (runs_under tag s.running || waits_under tag s.waiting) _ _ (λ used. absurd (false≢true (sym anew ∙ used)))
    (λ free. f)

command_follows : (P : Tag → Bool) (s : Server) (line : List ℕ) (tag : Tag) (c : Command) (t : Dialogue) → ReadsCommand line (Ok (tag, c))
    → (runs_under tag s.running || waits_under tag s.waiting) ≡ false → Follows P s t
    → FollowsTo P (sent_tagged t line tag (SentCommand.Known c)) (fresh s tag (Ok c))
command_follows P s line tag c t reads anew f =
    let fit : IsLineFit (Ok (tag, c)) = read_is_fit line (Ok (tag, c)) reads in
    let u : Dialogue = sent_tagged t line tag (SentCommand.Known c) in
    let h : IsSent P s tag (SentCommand.Known c) u = is_sent P s line tag (SentCommand.Known c) t fit.0 (λ e. absurd (false≢true e)) anew f in
    branch (FollowsTo P u) (is_abort (Ok c)) _ _
    (λ aborts. aborted_by P s s.running tag u (subst (λ (d : Command). IsSent P s tag (SentCommand.Known d) u) (is_the_abort c aborts) h))
    (λ other. stands_follows P s tag (Ok c) (SentCommand.Known c) u (record {
      asks = refl;
      room = fit.0;
      sort = (read_is_writable line tag c reads).tagged.sort ∙ sym (standard_kind c other);
      plain = other;
      fit = fit.1;
    }) h)

misread_follows : (P : Tag → Bool) (s : Server) (line : List ℕ) (tag : Tag) (why : Misread) (asked : SentCommand) (t : Dialogue) → IsTag tag
    → IsAskedAs (Err why) asked → IsCounted P tag asked
    → (runs_under tag s.running || waits_under tag s.waiting) ≡ false → Follows P s t
    → FollowsTo P (sent_tagged t line tag asked) (fresh s tag (Err why))
misread_follows P s line tag why asked t room fits counts anew f =
    let u : Dialogue = sent_tagged t line tag asked in
    let h : IsSent P s tag asked u = is_sent P s line tag asked t room counts anew f in
    branch (FollowsTo P u) (is_event_tag tag) _ _ (λ event. refused_follows P s tag asked u (fault_number why) (kind_in (Err why)) h)
    (λ standard. stands_follows P s tag (Err why) asked u
    (record { asks = fits; room = room; sort = standard; plain = refl; fit = tt }) h)

unknown_as : (b : Bool) (line : List ℕ) (why : Misread) → IsAskedAs (Err why) (cond b SentCommand.Asking (SentCommand.Foreign line))
unknown_as true line why = tt
unknown_as false line why = tt

-- a refusal without a tag is under no open command
standard_others : (ws : List Waiting) (us : List Shape) → AreOpen ws us → HaveOthers (Event 0) us
standard_others [] us h = subst (HaveOthers (Event 0)) (sym h) tt
standard_others (w ∷ ws) us h =
    subst (HaveOthers (Event 0)) (sym h.2) (apart_from w.tag h.3.sort, standard_others ws h.1 h.4)
  where
    apart_from : (tag : Tag) → is_event_tag tag ≡ false → tag_is tag (Event 0) ≡ false
    apart_from (Std n) e = refl
    apart_from (Event n) e = absurd (false≢true (sym e))

no_tag_at : (P : Tag → Bool) (s : Server) (t : Dialogue) (xs : List Shape) → HaveOthers (Event 0) xs → IsAt P (selected s) (acts_of s) xs t
    → IsAt P (selected s) (acts_of s) xs (after t (server_line (reply_text (Reply.Error (Event 0) 9001 None))))
no_tag_at P s t xs free h =
    let text : List ℕ = reply_text (Reply.Error (Event 0) 9001 None) in
    subst (IsAt P (selected s) (acts_of s) xs)
    (sym (said_is t (Reply.Error (Event 0) 9001 None) (omega arith)
    ∙ ap (heard_under t text (Event 0) witness.Error) (not_found (Event 0) xs t.uses h.shaped free)))
    (faulting_at P (selected s) (acts_of s) xs t (Reported.Unasked text) refl refl h)

no_tag_follows : (P : Tag → Bool) (s : Server) (line : List ℕ) (t : Dialogue) → Follows P s t
    → Follows P s (after (one_more (at_once t line)) (server_line (reply_text (Reply.Error (Event 0) 9001 None))))
no_tag_follows P s line t f = record {
  uses = f.uses;
  ours = f.ours;
  apart = f.apart;
  at = no_tag_at P s (one_more (at_once t line)) f.uses (standard_others (open_at s) f.uses f.ours)
      (one_more_at P (selected s) (acts_of s) f.uses (at_once t line) (at_once_at P (selected s) (acts_of s) f.uses t line f.at));
  stored = f.stored;
  frame = f.frame;
}

-- a line with a tag that this profile does not know is under one of these tags
abbrev pub CountsLine : (Tag → Bool) → Option (Tag × SentCommand) → Type 0
CountsLine P None = Unit {0}
CountsLine P (Some (tag, what)) = IsCounted P tag what

-- the answers to a line: each for an open command, or the refusal of a line without a tag
abbrev pub AreAnswersTo : Result (Tag × Command) LineFault → Dialogue → List Reply → Type 0
AreAnswersTo (Ok command) t said = AreHeard t (reply_texts said)
AreAnswersTo (Err LineFault.NoTag) t said = said ≡ Reply.Error (Event 0) 9001 None ∷ []
AreAnswersTo (Err (LineFault.UnknownCommand tag)) t said = AreHeard t (reply_texts said)
AreAnswersTo (Err (LineFault.BadArguments tag kind)) t said = AreHeard t (reply_texts said)

-- a witness follows after a line of the client and the answers to it
pub record FollowsLine (P : Tag → Bool) (r : Result (Tag × Command) LineFault) (t : Dialogue) (a : Answer) : Type 0 where
  pub follows : Follows P a.server (server_lines t (reply_texts a.said))
  pub heard : AreAnswersTo r t a.said
  pub said : AreReplies a.said

line_follows : (P : Tag → Bool) (s : Server) (line : List ℕ) (r : Result (Tag × Command) LineFault) (t : Dialogue) → ReadsCommand line r
    → uses_again s r ≡ false → CountsLine P (sent line r) → Follows P s t
    → FollowsLine P r (client_sent t line (sent line r)) (server_read s (reading_of r))
line_follows P s line (Ok (tag, c)) t reads anew counts f =
    let to = tagged_follows P s tag (Ok c) _ anew (command_follows P s line tag c t reads anew f) in
    record { follows = to.follows; heard = to.heard; said = to.said }
line_follows P s line (Err LineFault.NoTag) t reads anew counts f =
    record { follows = no_tag_follows P s line t f; heard = refl; said = (omega arith, tt) }
line_follows P s line (Err (LineFault.UnknownCommand tag)) t reads anew counts f =
    let to = tagged_follows P s tag (Err Misread.UnknownCommand) _ anew
    (misread_follows P s line tag Misread.UnknownCommand (unknown line) t (read_is_fit line (Err (LineFault.UnknownCommand tag)) reads)
    (unknown_as (is_asking (drop 6 line)) line Misread.UnknownCommand) counts anew f) in
    record { follows = to.follows; heard = to.heard; said = to.said }
line_follows P s line (Err (LineFault.BadArguments tag k)) t reads anew counts f =
    let to = tagged_follows P s tag (Err (Misread.BadArguments k)) _ anew
    (misread_follows P s line tag (Misread.BadArguments k) (SentCommand.Foreign line) t (read_is_fit line (Err (LineFault.BadArguments tag k)) reads) tt counts anew f) in
    record { follows = to.follows; heard = to.heard; said = to.said }

-- both read a line of the client, and the witness reads what is answered
pub read_follows : (P : Tag → Bool) (s : Server) (line : List ℕ) (t : Dialogue) → uses_again s (command_of line) ≡ false
    → CountsLine P (sent line (command_of line)) → Follows P s t
    → FollowsLine P (command_of line) (after t (client_line line)) (server_read s (reading_of (command_of line)))
read_follows P s line t anew counts f = line_follows P s line (command_of line) t (reads_command line) anew counts f
