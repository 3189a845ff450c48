-- The connections of a client, one after another: the features that it holds are true of what a witness wrote of them.
use Rattle.witness_laws.proofs.Names.{◌&&◌, ◌++◌, ◌<◌, ◌∙◌, ◌∷◌, ◌≡◌, [], Act, ap, append-nil, append_assoc, arith, Bool, client_left, ClientEnd}
use Rattle.witness_laws.proofs.Names.{cond, contacts, done_on, due, end_connected, end_left, false, false≢true, Feature, is_running, is_some}
use Rattle.witness_laws.proofs.Names.{left_state, Line, List, list_all, lt-ltb, ltb-true, map, map-append, may_abort, may_resume, nat_le, nat_lt}
use Rattle.witness_laws.proofs.Names.{new_client_end, next_number, next_of, None, numbered as on_connection, Option, or_parts, Planned, refl}
use Rattle.witness_laws.proofs.Names.{Reported, said_all, sends_abort, sends_next, silence, Some, Sound, State, subst, sym, Tag, Tally, true, ℕ}
use Rattle.contact_ledger.specs.Ledgers.{connection_most}
use Rattle.protocol_model.specs.Client.{Client}
use Rattle.dmis_program.specs.Meaning.{Meaning}
use Rattle.dmis_program.specs.Programs.{IsProgram}
use Rattle.client_core.specs.Calls.{Call, Connected, Send, Feed, ReadOne, Abort, Resume, Leave, Restart, Sent, possible, done_by, behind_call, behind_calls}
use Rattle.client_core.specs.Clients.{are_ours, is_apart, may_connect, may_read}
use Rattle.client_core.proofs.Fits.{both}
use Rattle.client_core.proofs.Runs.{program_stays, due_running}
use Rattle.record_text.specs.Told.{told_between, told_by, told_behind}
use Rattle.record_text.proofs.Counts.{Grows, grows_told, heard_grows, numbered_done}
use Rattle.record_text.proofs.RunSounds.{sound_served, served_ours}
use Rattle.record_text.proofs.Tells.{told_are_sound}
use Rattle.record_text.proofs.Views.{read_all}
use Rattle.witness.specs.Numbering.{numbered_from}
use Rattle.witness.specs.Runs.{parts_of, SoundByTold}
use Rattle.witness.proofs.NextContacts.{numbered_all}
use Rattle.witness.proofs.SameRuns.{told_sound}
use Rattle.witness_laws.specs.Acts.{all_done, BeginsWith}
use Rattle.witness_laws.specs.Lines.{IsNewClient, witnessed, unasked}
use Rattle.witness_laws.specs.Lines.IsNewClient.{never_on}
use Rattle.witness_laws.specs.Lines.IsOurClient.{our_client}
use Rattle.witness_laws.specs.Visits.{stays, Visit, is_visit, calls_of, told_of, behind_visits, told_of_all, some_unasked, HoldsTrue, BeginSo, written_of}
use Rattle.witness_laws.proofs.client.Entries.{entries_of}
use Rattle.witness_laws.proofs.client.Ledgers.{still_true, true_longer}
use Rattle.witness_laws.proofs.client.Seeing.{told_begins}

-- ---- what is counted on one connection

grows_not : (y z : Tally) → z.counted ≡ y.counted → z.connection ≡ y.connection → Grows y z
grows_not y z same number = record { more = []; acts = same ∙ sym (append-nil y.counted); number = number }

sends_grows : (c : Client) (l : List Planned) (number : Option ℕ) → Grows c.table.tally (sends_next c l number).client.table.tally
sends_grows c [] number = grows_not c.table.tally c.table.tally refl refl
sends_grows c (q ∷ qs) None = grows_not c.table.tally c.table.tally refl refl
sends_grows c (q ∷ qs) (Some n) = grows_not c.table.tally (sends_next c (q ∷ qs) (Some n)).client.table.tally refl refl

aborts_grows : (c : Client) (number : Option ℕ) → Grows c.table.tally (sends_abort c number).client.table.tally
aborts_grows c None = grows_not c.table.tally c.table.tally refl refl
aborts_grows c (Some n) = grows_not c.table.tally c.table.tally refl refl

done_grows : (call : Call) (e : ClientEnd) → stays call ≡ true → Grows e.client.table.tally (done_by call e).client.table.tally
done_grows (Connected n) e on = absurd (false≢true on)
done_grows Send e on = sends_grows e.client e.client.table.tally.unsent (next_number Tag.Std e.client.table.standard e.client.drawn)
done_grows (Feed bytes) e on = grows_not e.client.table.tally e.client.table.tally refl refl
done_grows ReadOne e on = read_all e.client (λ (d : Client). Grows e.client.table.tally d.table.tally) (record {
  same = grows_not e.client.table.tally e.client.table.tally refl refl;
  fault = λ cause. grows_not e.client.table.tally e.client.table.tally refl refl;
  reply = λ t m b s is. heard_grows e.client.program.features e.client.table b t m is;
}) (next_of e.input.rest)
done_grows Abort e on = aborts_grows e.client (next_number Tag.Event e.client.table.event e.client.event_drawn)
done_grows Resume e on = grows_not e.client.table.tally (done_by Resume e).client.table.tally refl refl
done_grows Leave e on = absurd (false≢true on)
done_grows (Restart k) e on = absurd (false≢true on)
done_grows (Sent k) e on = grows_not e.client.table.tally e.client.table.tally refl refl

call_grows : (call : Call) (e : ClientEnd) → stays call ≡ true → Grows e.client.table.tally (behind_call call e).client.table.tally
call_grows call e on = go (possible call e)
  where
    go : (b : Bool) → Grows e.client.table.tally (cond b (done_by call e) e).client.table.tally
    go true = done_grows call e on
    go false = grows_not e.client.table.tally e.client.table.tally refl refl

-- the acts that calls count on a connection
record AreCountedOn (n : ℕ) (calls : List Call) (e : ClientEnd) : Type 0 where
  more : List Act
  acts : (behind_calls calls e).client.table.tally.counted ≡ e.client.table.tally.counted ++ more
  told : told_behind calls e ≡ done_on n more

done_more : (n : ℕ) (xs ys : List Act) → done_on n xs ++ done_on n ys ≡ done_on n (xs ++ ys)
done_more n [] ys = refl
done_more n (x ∷ xs) ys = ap (λ (l : List (ℕ × Act)). (n, x) ∷ l) (done_more n xs ys)

counted_on : (n : ℕ) (calls : List Call) (e : ClientEnd) → list_all stays calls ≡ true → e.client.table.tally.connection ≡ n
    → AreCountedOn n calls e
counted_on n [] e on number = record { more = []; acts = sym (append-nil e.client.table.tally.counted); told = refl }
counted_on n (call ∷ calls) e on number =
    let parts = both (stays call) (list_all stays calls) on in
    let g : Grows e.client.table.tally (behind_call call e).client.table.tally = call_grows call e parts.0 in
    let rest : AreCountedOn n calls (behind_call call e) = counted_on n calls (behind_call call e) parts.1 (g.number ∙ number) in
    let first : told_by call e ≡ done_on n g.more =
    grows_told e.client.table.tally (behind_call call e).client.table.tally g
    ∙ (numbered_done e.client.table.tally.connection g.more ∙ ap (λ (k : ℕ). done_on k g.more) number) in
    record {
      more = g.more ++ AreCountedOn.more rest;
      acts = AreCountedOn.acts rest ∙ (ap (λ (l : List Act). l ++ AreCountedOn.more rest) g.acts
          ∙ append_assoc e.client.table.tally.counted g.more (AreCountedOn.more rest));
      told = ap (λ (l : List (ℕ × Act)). l ++ told_behind calls (behind_call call e)) first
          ∙ (ap (λ (l : List (ℕ × Act)). done_on n g.more ++ l) (AreCountedOn.told rest)
          ∙ done_more n g.more (AreCountedOn.more rest));
    }

-- ---- a client on no connection does nothing

left_rests : (s : State) → is_running (left_state s) ≡ false
left_rests State.Apart = refl
left_rests State.Running = refl
left_rests State.Failing = refl
left_rests State.Aborting = refl
left_rests State.Halted = refl
left_rests State.Done = refl
left_rests State.Faulted = refl

never_aborts : (s : State) → may_abort (left_state s) ≡ false
never_aborts State.Apart = refl
never_aborts State.Running = refl
never_aborts State.Failing = refl
never_aborts State.Aborting = refl
never_aborts State.Halted = refl
never_aborts State.Done = refl
never_aborts State.Faulted = refl

never_resumes : (c : Client) (s : State) → may_resume c (left_state s) ≡ false
never_resumes c State.Apart = refl
never_resumes c State.Running = refl
never_resumes c State.Failing = refl
never_resumes c State.Aborting = refl
never_resumes c State.Halted = refl
never_resumes c State.Done = refl
never_resumes c State.Faulted = refl

not_possible : (call : Call) (e : ClientEnd) → possible call e ≡ false → (behind_call call e).client ≡ e.client
not_possible call e never = ap (λ (b : Bool). (cond b (done_by call e) e).client) never

never_sends : (c : Client) → is_some (due (client_left c)) ≡ false
never_sends c = go (is_some (due (client_left c))) refl
  where
    go : (b : Bool) → is_some (due (client_left c)) ≡ b → is_some (due (client_left c)) ≡ false
    go true is = absurd (false≢true (sym (left_rests c.state) ∙ ap is_running (due_running (client_left c) is).running))
    go false is = is

fed_same : (bytes : List ℕ) (e : ClientEnd) (b : Bool) → (cond b (done_by (Feed bytes) e) e).client ≡ e.client
fed_same bytes e true = refl
fed_same bytes e false = refl

sent_same : (k : ℕ) (e : ClientEnd) (b : Bool) → (cond b (done_by (Sent k) e) e).client ≡ e.client
sent_same k e true = refl
sent_same k e false = refl

off_call : (c : Client) (call : Call) (e : ClientEnd) → e.client ≡ client_left c → stays call ≡ true
    → (behind_call call e).client ≡ client_left c
off_call c (Connected n) e is on = absurd (false≢true on)
off_call c Send e is on = not_possible Send e (ap (λ (d : Client). is_some (due d)) is ∙ never_sends c) ∙ is
off_call c (Feed bytes) e is on = fed_same bytes e (possible (Feed bytes) e) ∙ is
off_call c ReadOne e is on = not_possible ReadOne e (ap may_read is) ∙ is
off_call c Abort e is on = not_possible Abort e (ap (λ (d : Client). may_abort d.state) is ∙ never_aborts c.state) ∙ is
off_call c Resume e is on = not_possible Resume e (ap (λ (d : Client). may_resume d d.state) is ∙ never_resumes (client_left c) c.state) ∙ is
off_call c Leave e is on = absurd (false≢true on)
off_call c (Restart k) e is on = absurd (false≢true on)
off_call c (Sent k) e is on = sent_same k e (possible (Sent k) e) ∙ is

off_calls : (c : Client) (calls : List Call) (e : ClientEnd) → e.client ≡ client_left c → list_all stays calls ≡ true
    → (behind_calls calls e).client ≡ client_left c
off_calls c [] e is on = is
off_calls c (call ∷ calls) e is on =
    let parts = both (stays call) (list_all stays calls) on in
    off_calls c calls (behind_call call e) (off_call c call e is parts.0) parts.1

-- ---- one connection

-- a client after a connection, and what was reported of it after what was reported earlier
record IsVisited (p : Meaning) (es : List (ℕ × Reported)) (n : ℕ) (d : Client) (reported : List Reported) : Type 0 where
  program : d.program ≡ p
  sound : SoundByTold p.features d.table.tally.features (es ++ map (on_connection n) reported)

-- what a client keeps of a connection for the next one
abbrev anew : Client → ClientEnd
anew c = new_client_end c.program c.table.tally.features c.window

may_anew : (n : ℕ) (c : Client) → may_connect n (client_left c) ≡ true → possible (Connected n) (anew c) ≡ true
may_anew n c may =
    let first = both (is_apart (client_left c).state) (nat_lt c.last n && nat_le n connection_most) may in
    let second = both (nat_lt c.last n) (nat_le n connection_most) first.1 in
    let above : c.last < n = ltb-true c.last n second.0 in
    ap (λ (b : Bool). b && nat_le n connection_most) (lt-ltb 0 n (omega (arith, above))) ∙ second.1

-- these are the first features of the program
sound_ours : (p : Meaning) (fs : List Feature) (es : List (ℕ × Reported)) → SoundByTold p.features fs es → are_ours p.features fs ≡ true
sound_ours p fs es h =
    let l : List (ℕ × Act) = numbered_from true None (parts_of es) in
    served_ours p.features fs (contacts l) (sound_served p.features fs l (told_sound es l p.features fs (numbered_all es l refl) h))

told_parts : (n : ℕ) (acts : List Act) (reported : List Reported) → (b : BeginsWith acts reported)
    → entries_of n acts ++ map (on_connection n) b.more ≡ map (on_connection n) reported
told_parts n acts reported b = sym (ap (map (on_connection n)) b.parts ∙ map-append (on_connection n) (all_done acts) b.more)

connected_visit : (n m : ℕ) (c : Client) (calls : List Call) (reported : List Reported) (es : List (ℕ × Reported)) → IsProgram c.program
    → list_all stays calls ≡ true → SoundByTold c.program.features c.table.tally.features es
    → possible (Connected n) (anew c) ≡ true
    → BeginsWith (behind_calls calls (end_connected n (anew c))).client.table.tally.counted reported
    → IsVisited c.program es m (behind_calls calls (end_connected n (anew c))).client reported
connected_visit n m c calls reported es program on sound may begins =
    let p : Meaning = c.program in
    let fs : List Feature = c.table.tally.features in
    let ours : are_ours p.features fs ≡ true = sound_ours p fs es sound in
    let e : ClientEnd = end_connected n (anew c) in
    let counted : AreCountedOn n calls e = counted_on n calls e on refl in
    let acts : List Act = (behind_calls calls e).client.table.tally.counted in
    let same : AreCountedOn.more counted ≡ acts = sym (AreCountedOn.acts counted) in
    let stays_is : (behind_calls calls e).client.program ≡ p =
    subst (λ (b : Bool). (behind_calls calls (cond b e (anew c))).client.program ≡ p) may
    (program_stays p fs c.window (Connected n ∷ calls) program ours) in
    record {
      program = stays_is;
      sound = subst (λ (l : List (ℕ × Reported)). SoundByTold p.features (behind_calls calls e).client.table.tally.features (es ++ l))
          (told_parts m acts reported begins)
          (still_true p.features fs (behind_calls calls e).client.table.tally.features n m es (map (on_connection m) begins.more) acts sound
          (λ l h. subst (λ (k : List (ℕ × Act)). Sound p.features (behind_calls calls e).client.table.tally.features (l ++ k))
          (AreCountedOn.told counted ∙ ap (done_on n) same)
          (subst (λ (b : Bool). Sound p.features (behind_calls calls (cond b e (anew c))).client.table.tally.features
          (l ++ (told_between (anew c) (cond b e (anew c)) ++ told_behind calls (cond b e (anew c))))) may
          (told_are_sound p fs c.window (Connected n ∷ calls) l program h))));
    }

-- what a witness that reads with the client reports begins with what is counted
begins_connected : (ordered : Bool) (n : ℕ) (c : Client) (calls : List Call) (unread : List Line) → IsProgram c.program
    → are_ours c.program.features c.table.tally.features ≡ true → possible (Connected n) (anew c) ≡ true
    → unasked calls (end_connected n (anew c)) false ≡ false
    → BeginsWith (behind_calls calls (end_connected n (anew c))).client.table.tally.counted
    (said_all (witnessed calls (end_connected n (anew c)) (silence ordered)) unread).reported
begins_connected ordered n c calls unread program ours may none =
    subst (λ (b : Bool). unasked calls (cond b (end_connected n (anew c)) (anew c)) (cond b false false) ≡ false
    → BeginsWith (behind_calls calls (cond b (end_connected n (anew c)) (anew c))).client.table.tally.counted
    (said_all (witnessed calls (cond b (end_connected n (anew c)) (anew c)) (cond b (silence ordered) (silence ordered))) unread).reported) may
    (told_begins ordered (anew c) (Connected n ∷ calls) unread (our_client c.program c.table.tally.features c.window program ours)) none

left_visit : (n : ℕ) (c d : Client) (es : List (ℕ × Reported)) (reported : List Reported) → d ≡ client_left c
    → SoundByTold c.program.features c.table.tally.features es → IsVisited c.program es n d reported
left_visit n c d es reported is sound = subst (λ (x : Client). IsVisited c.program es n x reported) (sym is) (record {
  program = refl;
  sound = true_longer c.program.features c.table.tally.features es (map (on_connection n) reported) sound;
})

one_visit : (ordered : Bool) (v : Visit) (e : ClientEnd) (es : List (ℕ × Reported)) → IsProgram e.client.program
    → list_all stays v.calls ≡ true → unasked (calls_of v) e false ≡ false
    → SoundByTold e.client.program.features e.client.table.tally.features es
    → IsVisited e.client.program es v.number (behind_calls (calls_of v) e).client
    (said_all (witnessed (calls_of v) e (silence ordered)) v.unread).reported
one_visit ordered v e es program on none sound = go (may_connect v.own (client_left e.client)) refl none
  where
    go : (b : Bool) → may_connect v.own (client_left e.client) ≡ b
        → unasked v.calls (cond b (end_connected v.own (end_left e)) (end_left e)) (cond b false false) ≡ false
        → IsVisited e.client.program es v.number (behind_calls v.calls (cond b (end_connected v.own (end_left e)) (end_left e))).client
        (said_all (witnessed v.calls (cond b (end_connected v.own (end_left e)) (end_left e)) (cond b (silence ordered) (silence ordered)))
        v.unread).reported
    go true may none_now =
        let again = may_anew v.own e.client may in
        connected_visit v.own v.number e.client v.calls
        (said_all (witnessed v.calls (end_connected v.own (end_left e)) (silence ordered)) v.unread).reported es program on sound again
        (begins_connected ordered v.own e.client v.calls v.unread program
        (sound_ours e.client.program e.client.table.tally.features es sound) again none_now)
    go false never none_now = left_visit v.number e.client (behind_calls v.calls (end_left e)).client es
        (said_all (witnessed v.calls (end_left e) (silence ordered)) v.unread).reported (off_calls e.client v.calls (end_left e) refl on) sound

-- ---- connections, one after another

visits_true : (ordered : Bool) (p : Meaning) → IsProgram p → (vs : List Visit) (e : ClientEnd) (es : List (ℕ × Reported))
    → e.client.program ≡ p → list_all is_visit vs ≡ true → some_unasked vs e ≡ false
    → SoundByTold p.features e.client.table.tally.features es
    → SoundByTold p.features (behind_visits vs e).client.table.tally.features (es ++ told_of_all ordered vs e)
visits_true ordered p program [] e es same on none sound =
    subst (λ (l : List (ℕ × Reported)). SoundByTold p.features e.client.table.tally.features l) (sym (append-nil es)) sound
visits_true ordered p program (v ∷ vs) e es same on none sound =
    let parts = both (is_visit v) (list_all is_visit vs) on in
    let quiet = or_parts (unasked (calls_of v) e false) (some_unasked vs (behind_calls (calls_of v) e)) none in
    let one : IsVisited e.client.program (es ++ v.others) v.number (behind_calls (calls_of v) e).client
    (said_all (witnessed (calls_of v) e (silence ordered)) v.unread).reported =
    one_visit ordered v e (es ++ v.others) (subst IsProgram (sym same) program) parts.0 quiet.0
    (subst (λ (q : Meaning). SoundByTold q.features e.client.table.tally.features (es ++ v.others)) (sym same)
    (true_longer p.features e.client.table.tally.features es v.others sound)) in
    let now : SoundByTold e.client.program.features (behind_calls (calls_of v) e).client.table.tally.features (es ++ told_of ordered v e) =
    subst (λ (l : List (ℕ × Reported)). SoundByTold e.client.program.features (behind_calls (calls_of v) e).client.table.tally.features l)
    (append_assoc es v.others
    (map (on_connection v.number) (said_all (witnessed (calls_of v) e (silence ordered)) v.unread).reported)) (IsVisited.sound one) in
    subst (λ (l : List (ℕ × Reported)). SoundByTold p.features
    (behind_visits vs (behind_calls (calls_of v) e)).client.table.tally.features l)
    (append_assoc es (told_of ordered v e) (told_of_all ordered vs (behind_calls (calls_of v) e)))
    (visits_true ordered p program vs (behind_calls (calls_of v) e) (es ++ told_of ordered v e) (IsVisited.program one ∙ same) parts.1 quiet.1
    (subst (λ (q : Meaning). SoundByTold q.features (behind_calls (calls_of v) e).client.table.tally.features (es ++ told_of ordered v e)) same
    now))

pub held_are_true : (ordered : Bool) (p : Meaning) (e : ClientEnd) (visits : List Visit) (earlier : List (ℕ × Reported))
    → IsNewClient p e → list_all is_visit visits ≡ true → some_unasked visits e ≡ false → HoldsTrue p e earlier
    → HoldsTrue p (behind_visits visits e) (earlier ++ told_of_all ordered visits e)
held_are_true ordered p _ visits earlier (never_on kept window program) on none sound =
    visits_true ordered p program visits (new_client_end p kept window) earlier refl on none sound

-- ---- any witness

any_visit : (v : Visit) (e : ClientEnd) (es : List (ℕ × Reported)) (reported : List Reported) → IsProgram e.client.program
    → list_all stays v.calls ≡ true → SoundByTold e.client.program.features e.client.table.tally.features es
    → BeginsWith (behind_calls (calls_of v) e).client.table.tally.counted reported
    → IsVisited e.client.program es v.number (behind_calls (calls_of v) e).client reported
any_visit v e es reported program on sound begins = go (may_connect v.own (client_left e.client)) refl begins
  where
    go : (b : Bool) → may_connect v.own (client_left e.client) ≡ b
        → BeginsWith (behind_calls v.calls (cond b (end_connected v.own (end_left e)) (end_left e))).client.table.tally.counted reported
        → IsVisited e.client.program es v.number (behind_calls v.calls (cond b (end_connected v.own (end_left e)) (end_left e))).client
        reported
    go true may begins_now = connected_visit v.own v.number e.client v.calls reported es program on sound (may_anew v.own e.client may)
        begins_now
    go false never begins_now = left_visit v.number e.client (behind_calls v.calls (end_left e)).client es reported
        (off_calls e.client v.calls (end_left e) refl on) sound

any_true : (p : Meaning) → IsProgram p → (vs : List Visit) (rs : List (List Reported)) (e : ClientEnd) (es : List (ℕ × Reported))
    → e.client.program ≡ p → list_all is_visit vs ≡ true → BeginSo vs rs e → SoundByTold p.features e.client.table.tally.features es
    → SoundByTold p.features (behind_visits vs e).client.table.tally.features (es ++ written_of vs rs)
any_true p program [] [] e es same on begin sound =
    subst (λ (l : List (ℕ × Reported)). SoundByTold p.features e.client.table.tally.features l) (sym (append-nil es)) sound
any_true p program [] (r ∷ rs) e es same on begin sound = absurd begin
any_true p program (v ∷ vs) [] e es same on begin sound = absurd begin
any_true p program (v ∷ vs) (r ∷ rs) e es same on begin sound =
    let parts = both (is_visit v) (list_all is_visit vs) on in
    let one : IsVisited e.client.program (es ++ v.others) v.number (behind_calls (calls_of v) e).client r =
    any_visit v e (es ++ v.others) r (subst IsProgram (sym same) program) parts.0
    (subst (λ (q : Meaning). SoundByTold q.features e.client.table.tally.features (es ++ v.others)) (sym same)
    (true_longer p.features e.client.table.tally.features es v.others sound)) begin.0 in
    let written : List (ℕ × Reported) = v.others ++ map (on_connection v.number) r in
    let now : SoundByTold e.client.program.features (behind_calls (calls_of v) e).client.table.tally.features (es ++ written) =
    subst (λ (l : List (ℕ × Reported)). SoundByTold e.client.program.features (behind_calls (calls_of v) e).client.table.tally.features l)
    (append_assoc es v.others (map (on_connection v.number) r)) (IsVisited.sound one) in
    subst (λ (l : List (ℕ × Reported)). SoundByTold p.features
    (behind_visits vs (behind_calls (calls_of v) e)).client.table.tally.features l)
    (append_assoc es written (written_of vs rs))
    (any_true p program vs rs (behind_calls (calls_of v) e) (es ++ written) (IsVisited.program one ∙ same) parts.1 begin.1
    (subst (λ (q : Meaning). SoundByTold q.features (behind_calls (calls_of v) e).client.table.tally.features (es ++ written)) same now))

pub held_are_true_so : (p : Meaning) (e : ClientEnd) (visits : List Visit) (reports : List (List Reported)) (earlier : List (ℕ × Reported))
    → IsNewClient p e → list_all is_visit visits ≡ true → BeginSo visits reports e → HoldsTrue p e earlier
    → HoldsTrue p (behind_visits visits e) (earlier ++ written_of visits reports)
held_are_true_so p _ visits reports earlier (never_on kept window program) on begin sound =
    any_true p program visits reports (new_client_end p kept window) earlier refl on begin sound
