-- What a client has counted and holds only grows in its turns, and the features by which it grew are reported to its watcher.
use Rattle.link_world.proofs.Names.{[], ◌++◌, ◌+◌, ◌<◌, ◌∙◌, ◌∷◌, ◌≡◌, ◌≤◌, ap, append-nil, append_assoc, arith, Client, ClientEnd, ClientFault}
use Rattle.link_world.proofs.Names.{ClientMoved, ClientMovedWithin, ClientStopped, ClientStoppedWithin, ClientTurn, Completed, drop, drop-append_seam}
use Rattle.link_world.proofs.Names.{drop_more, end_left, Err, Feature, Front, front_read, get_or, Hears, IfErr, IfOk, length, length-append, List}
use Rattle.link_world.proofs.Names.{Moved, next_of, None, Note, notes_from, Ok, Option, Planned, PumpFault, Reading, refl, Reply, Result, Sending}
use Rattle.link_world.proofs.Names.{sends, sends_next, Some, Stage, subst, sym, Table, Tag, Taking, TellsRun, Wanted, Writing, ℕ}
use Rattle.std.proofs.Math.ListN.{drop_of_length-le}
use Rattle.protocol_model.specs.Replies.{Mark}
use Rattle.protocol_model.proofs.HeardTables.{heard}
use Rattle.protocol_model.proofs.table.Replying.{fine, front_refl, Grows, grows_refl, grows_trans, reads_grows}
use Rattle.protocol_model.proofs.quiet_run.Hears.{front_cases}
use Rattle.link_world.specs.Pumps.{begins, has, reads, takes, writes}

-- ---- a client's turn

-- what a client holds after a turn began with what it held
abbrev pub ClientGrows : ClientEnd → ClientEnd → Type 0
ClientGrows old new = Grows old.client.table.tally new.client.table.tally

reply_grows : (ws : List Wanted) (b : Table) (t : Tag) (m : Mark) (c : Table) → heard ws b t m ≡ fine c → Grows b.tally c.tally
reply_grows ws b t Mark.Ack c is = reads_grows ws (Reply.Ack t ∷ []) b c (c, is, refl)
reply_grows ws b t (Mark.Given d) c is = reads_grows ws (Reply.Given t d ∷ []) b c (c, is, refl)
reply_grows ws b t Mark.Done c is = reads_grows ws (Reply.Done t ∷ []) b c (c, is, refl)
reply_grows ws b t Mark.Error c is = reads_grows ws (Reply.Error t 0 None ∷ []) b c (c, is, refl)

read_grows : (c : Client) (f : Front) → Grows c.table.tally (front_read c f).table.tally
read_grows c f = front_cases c f (λ (d : Client). Grows c.table.tally d.table.tally) (record {
  same = grows_refl c.table.tally;
  fault = λ cause. grows_refl c.table.tally;
  hears = λ t m b is. reply_grows c.program.features c.table t m b is;
})

next_grows : (c : Client) (ps : List Planned) (n : Option ℕ) → Grows c.table.tally (sends_next c ps n).client.table.tally
next_grows c [] n = grows_refl c.table.tally
next_grows c (p ∷ ps) None = grows_refl c.table.tally
next_grows c (p ∷ ps) (Some n) = record {
  counted = front_refl c.table.tally.counted;
  features = front_refl c.table.tally.features;
}

left_grows : (e : ClientEnd) → ClientGrows e (end_left e)
left_grows e = record {
  counted = front_refl e.client.table.tally.counted;
  features = front_refl e.client.table.tally.features;
}

turn_grows : (least : ℕ) (start : ClientEnd) (stage : Stage) (read written : List ℕ) (e : ClientEnd)
    → ClientTurn least start stage read written e → ClientGrows start e
turn_grows least start _ _ _ _ begins = grows_refl start.client.table.tally
turn_grows least start _ _ _ _ (sends e t is) =
    grows_trans start.client.table.tally e.client.table.tally _ (turn_grows least start Sending [] [] e t)
    (next_grows e.client e.client.table.tally.unsent _)
turn_grows least start _ _ _ _ (writes e count t none within) = turn_grows least start Sending [] [] e t
turn_grows least start _ _ _ _ (takes e read written t out may) = turn_grows least start Writing [] written e t
turn_grows least start _ _ _ _ (has e read written t enough) = turn_grows least start Taking read written e t
turn_grows least start _ _ _ _ (reads e read written t may is) =
    grows_trans start.client.table.tally e.client.table.tally _ (turn_grows least start Reading read written e t)
    (read_grows e.client (next_of e.input.rest))

moved_grows : (least : ℕ) (old new : ClientEnd) (left left_now taken taken_now : Option (List ℕ)) (moved : Moved)
    → ClientMoved least old new left left_now taken taken_now moved → ClientGrows old new
moved_grows least old new left left_now taken taken_now moved h = turn_grows least old Reading h.read h.written new h.turn

stopped_grows : (least bound : ℕ) (old new : ClientEnd) (left left_now taken taken_now : Option (List ℕ))
    (fault : PumpFault ClientFault) → ClientStopped least bound old new left left_now taken taken_now fault → ClientGrows old new
stopped_grows least bound old new left left_now taken taken_now fault h =
    subst (ClientGrows old) (sym h.leaves)
    (grows_trans old.client.table.tally h.last.client.table.tally (end_left h.last).client.table.tally
    (turn_grows least old h.stage h.read h.written h.last h.turn) (left_grows h.last))

-- whether whole or stopped
pub turned_grows : (bound calls calls_now least : ℕ) (old new : ClientEnd) (left left_now taken taken_now : Option (List ℕ))
    (r : Result Moved (PumpFault ClientFault))
    → IfOk r (λ moved. ClientMovedWithin bound calls calls_now least old new left left_now taken taken_now moved)
    → IfErr r (λ fault. ClientStoppedWithin bound calls calls_now least old new left left_now taken taken_now fault)
    → ClientGrows old new
turned_grows bound calls calls_now least old new left left_now taken taken_now (Ok moved) m s =
    moved_grows least old new left left_now taken taken_now moved m.whole
turned_grows bound calls calls_now least old new left left_now taken taken_now (Err fault) m s =
    stopped_grows least bound old new left left_now taken taken_now fault s.front

-- ---- what is reported

pub hears_none : {T : Type 0} (told : Option (List T)) → Hears told told []
hears_none None = tt
hears_none (Some notes) = sym (append-nil notes)

pub hears_more : {T : Type 0} (told mid now : Option (List T)) (first then : List T) → Hears told mid first → Hears mid now then
    → Hears told now (first ++ then)
hears_more told mid None first then h g = tt
hears_more told None (Some now) first then h g = absurd g
hears_more None (Some mid) (Some now) first then h g = absurd h
hears_more {T} (Some before) (Some mid) (Some now) first then h g =
    g ∙ ap (λ (l : List T). l ++ then) h ∙ append_assoc before first then

-- the features up to one of them are reported
pub record ToldSoFar (fs : List Feature) (first at : ℕ) (told told_now : Option (List Note)) : Type 0 where
  pub notes : List Note
  pub heard : Hears told told_now notes
  pub whole : notes ++ notes_from (at + 1) (drop at fs) ≡ notes_from (first + 1) (drop first fs)

pub told_none : (fs : List Feature) (first : ℕ) (told : Option (List Note)) → ToldSoFar fs first first told told
told_none fs first told = record { notes = []; heard = hears_none told; whole = refl }

pub told_one : (fs : List Feature) (first at : ℕ) (f : Feature) (told mid now : Option (List Note)) → at < length fs
    → f ≡ get_or fs at f → ToldSoFar fs first at told mid → Hears mid now (Completed (at + 1) f ∷ [])
    → ToldSoFar fs first (at + 1) told now
told_one fs first at f told mid now short is h one = record {
  notes = h.notes ++ Completed (at + 1) f ∷ [];
  heard = hears_more told mid now h.notes (Completed (at + 1) f ∷ []) h.heard one;
  whole = append_assoc h.notes (Completed (at + 1) f ∷ []) (notes_from (at + 1 + 1) (drop (at + 1) fs))
      ∙ ap (λ (l : List Note). h.notes ++ l) (sym next) ∙ h.whole;
}
  where
    next : notes_from (at + 1) (drop at fs) ≡ Completed (at + 1) f ∷ notes_from (at + 1 + 1) (drop (at + 1) fs)
    next = ap (notes_from (at + 1)) (drop_more fs at f short ∙ ap (λ (x : Feature). x ∷ drop (at + 1) fs) (sym is))

pub told_all : (fs : List Feature) (first at : ℕ) (told now : Option (List Note)) → length fs ≤ at
    → ToldSoFar fs first at told now → Hears told now (notes_from (first + 1) (drop first fs))
told_all fs first at told now past h =
    subst (Hears told now)
    (sym (append-nil h.notes) ∙ ap (λ (l : List Feature). h.notes ++ notes_from (at + 1) l) (sym (drop_of_length-le fs past)) ∙ h.whole)
    h.heard

-- ---- a call of a run

pub turn_tells : (old new : ClientEnd) (before behind : List Feature) (told now : Option (List Note)) → ClientGrows old new
    → before ≡ old.client.table.tally.features → behind ≡ new.client.table.tally.features
    → Hears told now (notes_from (length before + 1) (drop (length before) behind)) → TellsRun old new told now
turn_tells old new before behind told now grows was is notes = record {
  completed = more;
  joined = sym grows.features.1;
  heard = subst (λ (fs : List Feature). Hears told now (notes_from (length fs + 1) more)) was
      (subst (λ (fs : List Feature). Hears told now (notes_from (length before + 1) fs)) rest notes);
}
  where
    more : List Feature
    more = grows.features.0

    rest : drop (length before) behind ≡ more
    rest = ap (drop (length before)) (is ∙ sym grows.features.1 ∙ ap (λ (fs : List Feature). fs ++ more) (sym was))
        ∙ drop-append_seam before more

pub tells_none : (e : ClientEnd) (told : Option (List Note)) → TellsRun e e told told
tells_none e told = record {
  completed = [];
  joined = sym (append-nil e.client.table.tally.features);
  heard = hears_none told;
}

notes_more : (n : ℕ) (fs gs : List Feature) → notes_from n (fs ++ gs) ≡ notes_from n fs ++ notes_from (n + length fs) gs
notes_more n [] gs = ap (λ (m : ℕ). notes_from m gs) (omega arith)
notes_more n (f ∷ fs) gs =
    ap (λ (l : List Note). Completed n f ∷ l) (notes_more (n + 1) fs gs
    ∙ ap (λ (m : ℕ). notes_from (n + 1) fs ++ notes_from m gs) (omega arith))

pub tells_more : (old mid new : ClientEnd) (told told_mid now : Option (List Note)) → TellsRun old mid told told_mid
    → TellsRun mid new told_mid now → TellsRun old new told now
tells_more old mid new told told_mid now h g = record {
  completed = h.completed ++ g.completed;
  joined = g.joined ∙ ap (λ (l : List Feature). l ++ g.completed) h.joined ∙ append_assoc before h.completed g.completed;
  heard = subst (Hears told now) (sym all) (hears_more told told_mid now _ _ h.heard g.heard);
}
  where
    before : List Feature
    before = old.client.table.tally.features

    count : length before + 1 + length h.completed ≡ length mid.client.table.tally.features + 1
    count = let one = ap length h.joined in let two = length-append before h.completed in omega (arith, one, two)

    all : notes_from (length before + 1) (h.completed ++ g.completed)
        ≡ notes_from (length before + 1) h.completed ++ notes_from (length mid.client.table.tally.features + 1) g.completed
    all = notes_more (length before + 1) h.completed g.completed
        ∙ ap (λ (n : ℕ). notes_from (length before + 1) h.completed ++ notes_from n g.completed) count

-- a client that leaves completes nothing
pub tells_left : (old mid new : ClientEnd) (told now : Option (List Note)) → new ≡ end_left mid → TellsRun old mid told now
    → TellsRun old new told now
tells_left old mid new told now left h =
    tells_more old mid new told now now h (subst (λ (e : ClientEnd). TellsRun mid e now now) (sym left) (record {
      completed = [];
      joined = sym (append-nil mid.client.table.tally.features);
      heard = hears_none now;
    }))

-- a watcher that says what it received has received these notes and no others
pub only_these : (old new : ClientEnd) (more : List Feature) (told now : List Note)
    → new.client.table.tally.features ≡ old.client.table.tally.features ++ more → TellsRun old new (Some told) (Some now)
    → now ≡ told ++ notes_from (length old.client.table.tally.features + 1) more
only_these old new more told now is h =
    h.heard ∙ ap (λ (l : List Feature). told ++ notes_from (length before + 1) l)
    (sym (drop-append_seam before h.completed) ∙ ap (drop (length before)) (sym h.joined ∙ is) ∙ drop-append_seam before more)
  where
    before : List Feature
    before = old.client.table.tally.features
