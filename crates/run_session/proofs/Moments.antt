-- A run is a list of moments, whose record's file is what a killed run leaves.
use Rattle.run_session.proofs.Names.{May, HasFollowed, HasReported, HasTold, pace}
use Rattle.run_session.proofs.Paces.{filed_at}
use Rattle.run_session.specs.Records.{is_filed}
use Rattle.run_session.proofs.Names.{[], ◌++◌, ◌+◌, ◌∙◌, ◌∷◌, ◌≡◌, ◌≤◌, Abort, Act, ap, append-nil, append_assoc, AreAsked, AreNotes, AreFit, error_note}
use Rattle.run_session.proofs.Names.{AreWritten, arith, begins, behind_call, behind_calls, behind_moments, Bool, Call, Calls, calls, calls_in}
use Rattle.run_session.proofs.Names.{ClientEnd, cond, confirms, Connected, done_by, drop, drop-length, end_connected, entry_line, false, false≢true}
use Rattle.run_session.proofs.Names.{Feed, Fits, AreSaid, Growth, inl, Says, inr, IsKept, IsPartGiven, IsRunCall, Leave, length, length-append, List, map}
use Rattle.run_session.proofs.Names.{Moment, new_client_end, numbered, Option, Outside, Pair, possible, Ran, ReadOne, recorded_by, refl, Restart}
use Rattle.run_session.proofs.Names.{Resume, Send, Sent, State, subst, sym, take, take-append_seam, Tell, tells, told_behind, told_by, told_now, true}
use Rattle.run_session.proofs.Names.{ℕ}
use Rattle.contact_ledger.specs.ContactTexts.{contacts_text}
use Rattle.contact_ledger.specs.Lines.{text_of}
use Rattle.dmis_program.specs.Meaning.{Meaning}
use Rattle.dmis_program.specs.Programs.{IsProgram}
use Rattle.dmis_program.specs.declared.features.Wanted.{Wanted}
use Rattle.record_text.specs.Beginnings.{BeginsWith}
use Rattle.record_text.specs.declared.opening.Beginning.{Beginning}
use Rattle.record_text.proofs.Killed.{says_what_was_told}
use Rattle.record_text.specs.Runs.{IsKilledRun, IsRecordOf, run_begun}
use Rattle.record_text.specs.Tellings.{entries_of}
use Rattle.run_session.specs.Errors.{Talk}
use Rattle.run_session.specs.Killed.{IsBegun, IsLeft}
use Rattle.run_session.specs.Records.{forgets, says}
use Rattle.run_session.proofs.Filing.{grows, has_all}
use Rattle.run_session.proofs.Kept.{call_keeps, Stays, Reports, call_reports}
use Rattle.run_session.proofs.Reporting.{all_reported}

same_cond : (b : Bool) (g : Growth) → cond b g g ≡ g
same_cond true g = refl
same_cond false g = refl

-- a call that begins no plan changes nothing of the record
same_growth : (call : Call) (e : ClientEnd) (g : Growth) → IsRunCall call → cond (possible call e) (recorded_by call e g) g ≡ g
same_growth (Connected n) e g h = absurd h
same_growth Resume e g h = absurd h
same_growth (Restart k) e g h = absurd h
same_growth Send e g h = same_cond (possible Send e) g
same_growth (Feed bytes) e g h = same_cond (possible (Feed bytes) e) g
same_growth ReadOne e g h = same_cond (possible ReadOne e) g
same_growth Abort e g h = same_cond (possible Abort e) g
same_growth Leave e g h = same_cond (possible Leave e) g
same_growth (Sent k) e g h = same_cond (possible (Sent k) e) g

run_fits : (first : ℕ) (call : Call) (e : ClientEnd) → IsRunCall call → Fits first call e
run_fits first (Connected n) e h = absurd h
run_fits first Resume e h = tt
run_fits first (Restart k) e h = absurd h
run_fits first Send e h = tt
run_fits first (Feed bytes) e h = tt
run_fits first ReadOne e h = tt
run_fits first Abort e h = tt
run_fits first Leave e h = tt
run_fits first (Sent k) e h = tt

are_notes : (notes : List Says) (last : ℕ) → AreSaid notes → 1 ≤ last → AreNotes notes last
are_notes [] last h some = tt
are_notes ((note, text) ∷ notes) last h some = (h.0, some, are_notes notes last h.1 some)

-- a run keeps the number of its connection
ran_last : {b : May} (first : Pair) (v : Talk) (ps : List ℕ) (p : Pair) (t : Talk) → Ran b first v ps p t → p.end.client.last ≡ first.end.client.last
ran_last first v _ _ _ (begins ps) = refl
ran_last first v _ _ _ (calls ps p t u call r is free talks) = Stays.last (call_keeps call p.end is) ∙ ran_last first v ps p t r
ran_last first v _ _ _ (tells ps p t u lacks errors r records lines) = ran_last first v ps p t r
ran_last first v _ _ _ (says ps p t said r can other on) = ran_last first v ps p t r
ran_last first v _ _ _ (forgets ps p t u r lost) = ran_last first v ps p t r
ran_last first v _ _ _ (confirms n ps p t r counted) = ran_last first v (n ∷ ps) p t r

-- the moments from one pair to another
record Moments (n : ℕ) (p q : Pair) : Type 0 where
  moments : List Moment
  leads : behind_moments moments p ≡ q
  fit : AreFit n moments p.end
  reports : Reports p.end (calls_in moments)

before : {b : May} (n : ℕ) (first : Pair) (v : Talk) (ps : List ℕ) (p q : Pair) (t : Talk) → 1 ≤ first.end.client.last → Ran b first v ps p t
    → Moments n p q → Moments n first q
before n first v _ _ q _ some (begins ps) s = s
before n first v _ _ q _ some (confirms k ps p t r counted) s = before n first v (k ∷ ps) p q t some r s
before n first v _ _ q _ some (forgets ps p t u r lost) s = before n first v ps p q t some r s
before n first v _ _ q _ some (calls ps p t u call r is free talks) s = before n first v ps p q t some r (record {
  moments = Calls call ∷ s.moments;
  leads = ap (λ (g : Growth). behind_moments s.moments (record { end = behind_call call p.end; recording = g }))
      (same_growth call p.end p.recording is) ∙ s.leads;
  fit = (run_fits n call p.end is, s.fit);
  reports = call_reports call (calls_in s.moments) p.end is s.reports;
})
before n first v _ _ q _ some (says ps p t said r can other on) s = before n first v ps p q t some r (record {
  moments = Tell true (said ∷ []) ∷ s.moments;
  leads = s.leads;
  fit = (are_notes (said ∷ []) p.end.client.last (can, tt) (subst (λ (k : ℕ). 1 ≤ k) (sym (ran_last first v ps p t r)) some), s.fit);
  reports = s.reports;
})
before n first v _ _ q _ some (tells ps p t u lacks errors r records lines) s = before n first v ps p q t some r (record {
  moments = Tell lacks (map error_note errors) ∷ s.moments;
  leads = s.leads;
  fit = (are_notes (map error_note errors) p.end.client.last lines (subst (λ (k : ℕ). 1 ≤ k) (sym (ran_last first v ps p t r)) some), s.fit);
  reports = s.reports;
})

moments_of : {b : May} (n : ℕ) (ps : List ℕ) (first p : Pair) (v t : Talk) → 1 ≤ first.end.client.last → Ran b first v ps p t → Moments n first p
moments_of n ps first p v t some r = before n first v ps p p t some r (record {
  moments = [];
  leads = refl;
  fit = tt;
  reports = record { more = []; acts = sym (append-nil p.end.client.table.tally.counted); told = refl };
})

has_number : (part : Option (List ℕ)) (ws : List Wanted) (bytes : List ℕ) (b : Beginning) → BeginsWith part ws bytes b → 1 ≤ b.connection
has_number part ws bytes b (inl h) = let is = h.1.connection in omega (arith, is)
has_number part ws bytes b (inr h) = let is = h.3.connection in omega (arith, is)

has_held : (part : Option (List ℕ)) (ws : List Wanted) (bytes : List ℕ) (b : Beginning) → BeginsWith part ws bytes b
    → b.held ≤ length b.text.items
has_held part ws bytes b (inl h) = let is = h.1.held in omega (arith, is)
has_held part ws bytes b (inr h) = let is = h.3.held in omega (arith, is)

now : (call : Call) (e : ClientEnd) (b : Bool) → b ≡ true → cond b (done_by call e) e ≡ done_by call e
now call e true may = refl
now call e false may = absurd (false≢true may)

-- before the connection is made nothing is due
begun_same : (p : Meaning) (window : ℕ) (b : Beginning) (x : Bool)
    → cond x (recorded_by (Connected b.connection) (run_begun p window b).end (run_begun p window b).recording)
    (run_begun p window b).recording ≡ (run_begun p window b).recording
begun_same p window b true = ap (λ (t : List ℕ). record (run_begun p window b).recording { text = t }) (append-nil b.text.items)
begun_same p window b false = refl

-- what is left has at least what the record began with
held_most : (held first moment safe left a b c : ℕ) → held ≤ first → moment ≡ first + a → safe ≡ moment + b → left ≡ safe + c → held ≤ left
held_most held first moment safe left a b c h f m s = omega (arith, h, f, m, s)

-- a run as its moments, the first of which is that the client comes to the connection
record Led (p : Meaning) (b : Beginning) (window : ℕ) (q : Pair) : Type 0 where
  moments : List Moment
  fit : AreFit b.connection moments (new_client_end p b.features window)
  leads : behind_moments moments (run_begun p window b) ≡ q
  told : told_behind (calls_in moments) (new_client_end p b.features window) ≡ numbered b.connection q.end.client.table.tally.counted

ends : (ms : List Moment) (q : Pair) → (behind_moments ms q).end ≡ behind_calls (calls_in ms) q.end
ends [] q = refl
ends (Calls call ∷ ms) q = ends ms _
ends (Tell lacks errors ∷ ms) q = ends ms _

led : {x : May} (p : Meaning) (part : Option (List ℕ)) (bytes : List ℕ) (b : Beginning) (window : ℕ) (ps : List ℕ) (first q : Pair)
    (v t : Talk) → IsBegun p part bytes b window first → Ran x first v ps q t → Led p b window q
led p part bytes b window ps first q v t h ran = record {
  moments = Calls (Connected b.connection) ∷ m.moments;
  fit = (least b.connection, subst (λ (e : ClientEnd). AreFit b.connection m.moments e) joined m.fit);
  leads = ap (λ (x : Pair). behind_moments m.moments x) begun_is ∙ m.leads;
  told = ap (λ (l : List (ℕ × Act)). l ++ told_behind (calls_in m.moments) (behind_call (Connected b.connection) start)) none
      ∙ (ap (told_behind (calls_in m.moments)) (sym joined) ∙ counts);
}
  where
    start : ClientEnd
    start = new_client_end p b.features window

    is_now : behind_call (Connected b.connection) start ≡ end_connected b.connection start
    is_now = now (Connected b.connection) start (possible (Connected b.connection) start) h.can

    joined : first.end ≡ behind_call (Connected b.connection) start
    joined = ap (λ (x : Pair). x.end) h.start ∙ sym is_now

    least : (n : ℕ) → n ≤ n
    least n = omega arith

    some : 1 ≤ first.end.client.last
    some = subst (λ (x : Pair). 1 ≤ x.end.client.last) (sym h.start) (has_number part p.features bytes b h.begins)

    m : Moments b.connection first q
    m = moments_of b.connection ps first q v t some ran

    begun_is : behind_moments (Calls (Connected b.connection) ∷ []) (run_begun p window b) ≡ first
    begun_is = ap (λ (g : Growth). record { end = behind_call (Connected b.connection) start; recording = g })
        (begun_same p window b (possible (Connected b.connection) start))
        ∙ (ap (λ (e : ClientEnd). record { end = e; recording = (run_begun p window b).recording }) is_now ∙ sym h.start)

    none : told_by (Connected b.connection) start ≡ []
    none = ap (λ (e : ClientEnd). numbered e.client.table.tally.connection e.client.table.tally.counted) is_now

    more_is : m.reports.more ≡ q.end.client.table.tally.counted
    more_is = sym (ap (λ (l : List Act). l ++ m.reports.more) (ap (λ (x : Pair). x.end.client.table.tally.counted) h.start))
        ∙ (sym m.reports.acts
        ∙ ap (λ (e : ClientEnd). e.client.table.tally.counted) (sym (ends m.moments first) ∙ ap (λ (x : Pair). x.end) m.leads))

    counts : told_behind (calls_in m.moments) first.end ≡ numbered b.connection q.end.client.table.tally.counted
    counts = m.reports.told
        ∙ (ap (λ (n : ℕ). numbered n m.reports.more) (ap (λ (x : Pair). x.end.client.table.tally.connection) h.start)
        ∙ ap (numbered b.connection) more_is)

pub killed : (p : Meaning) (part : Option (List ℕ)) (bytes : List ℕ) (b : Beginning) (window : ℕ) (first : Pair) (before : List (ℕ × Act)) (s : State) (o : Outside)
    (left : List ℕ) → IsBegun p part bytes b window first → IsKept first before s o
    → AreWritten (numbered b.connection s.pair.end.client.table.tally.counted) → IsLeft o left → IsKilledRun p part bytes left
killed p part bytes b window first before s o left h k written is =
    let l : Led p b window s.pair = led p part bytes b window s.book.pauses first s.pair k.begun s.talk h k.ran.ran in
    let at = grows first k.safe.begun k.safe.pauses k.safe.moment k.safe.talk k.safe.ran in
    record {
      begun = b;
      begins = h.begins;
      window = window;
      moments = l.moments;
      fit = l.fit;
      written = subst AreWritten (sym l.told) written;
      count = length left;
      held = held_most b.held (length b.text.items) (length k.safe.moment.recording.text) (length o.safe) (length left)
          (length at.0) (length k.safe.rest) (length is.more)
          (has_held part p.features bytes b h.begins)
          (ap length (at.1 ∙ ap (λ (t : List ℕ). t ++ at.0) (ap (λ (x : Pair). x.recording.text) h.start)) ∙ length-append b.text.items at.0)
          (sym (ap length k.safe.text) ∙ length-append k.safe.moment.recording.text k.safe.rest)
          (sym (ap length is.safe) ∙ length-append o.safe is.more);
      left = sym (ap (λ (x : Pair). take (length left) x.recording.text) l.leads
          ∙ (ap (take (length left)) (sym k.front.1 ∙ (ap (λ (t : List ℕ). t ++ k.front.0) (sym is.file) ∙ append_assoc left is.rest k.front.0))
          ∙ take-append_seam left (is.rest ++ k.front.0)));
    }

-- then nothing is due
nothing_due : (e : ClientEnd) (g : Growth) → g.told ≡ length e.client.table.tally.counted → (told_now e g).text ≡ g.text
nothing_due e g all =
    ap (λ (l : List Act). g.text
    ++ text_of (map entry_line (entries_of e.client.program.features g.telling.connection g.telling.counted l)))
    (ap (λ (k : ℕ). drop k e.client.table.tally.counted) all ∙ drop-length e.client.table.tally.counted)
    ∙ append-nil g.text

pub whole : (p : Meaning) (part : Option (List ℕ)) (bytes : List ℕ) (b : Beginning) (window : ℕ) (first : Pair) (before : List (ℕ × Act)) (s : State) (o : Outside)
    → IsProgram p → IsPartGiven part → AreAsked p.features → IsBegun p part bytes b window first → IsKept first before s o
    → AreWritten (numbered b.connection s.pair.end.client.table.tally.counted)
    → HasFollowed s → s.book.short ≡ false → is_filed (pace s.stage) ≡ true → s.book.keeps ≡ true → s.book.lost ≡ false
    → IsRecordOf part p.features s.pair.end.client.table.tally.features
    (b.told ++ numbered b.connection s.pair.end.client.table.tally.counted) o.file
whole p part bytes b window first before s o program given asked h k written followed long filed keeps sound =
    let at = filed_at (pace s.stage) s filed (followed long) in
    let all : s.pair.recording.told ≡ length s.pair.end.client.table.tally.counted = at.0.recorded keeps in
    let file : o.file ≡ s.pair.recording.text = has_all first before s o k sound at.1 in
    let l : Led p b window s.pair = led p part bytes b window s.book.pauses first s.pair k.begun s.talk h k.ran.ran in
    let start : ClientEnd = new_client_end p b.features window in
    let said = says_what_was_told p part bytes b window l.moments program given asked h.begins l.fit (subst AreWritten (sym l.told) written) in
    let end : behind_calls (calls_in l.moments) start ≡ s.pair.end =
    sym (ends l.moments (run_begun p window b)) ∙ ap (λ (x : Pair). x.end) l.leads in
    subst (λ (t : List ℕ). IsRecordOf part p.features s.pair.end.client.table.tally.features
    (b.told ++ numbered b.connection s.pair.end.client.table.tally.counted) t)
    (ap (λ (x : Pair). (told_now x.end x.recording).text) l.leads ∙ (nothing_due s.pair.end s.pair.recording all ∙ sym file))
    (subst (λ (e : ClientEnd). IsRecordOf part p.features e.client.table.tally.features
    (b.told ++ numbered b.connection s.pair.end.client.table.tally.counted)
    (told_now (behind_moments l.moments (run_begun p window b)).end (behind_moments l.moments (run_begun p window b)).recording).text) end
    (subst (λ (told : List (ℕ × Act)). IsRecordOf part p.features (behind_calls (calls_in l.moments) start).client.table.tally.features
    (b.told ++ told)
    (told_now (behind_moments l.moments (run_begun p window b)).end (behind_moments l.moments (run_begun p window b)).recording).text) l.told said))

-- before the client has counted anything, all of it has its line
pub told : (p : Meaning) (part : Option (List ℕ)) (bytes : List ℕ) (b : Beginning) (window : ℕ) (s : State) → IsBegun p part bytes b window s.pair
    → s.reports.told ≡ 0 → HasTold s
told p part bytes b window s h none =
    let counted = sym (ap (λ (x : Pair). length x.end.client.table.tally.counted) h.start) in
    record { recorded = λ keeps. ap (λ (x : Pair). x.recording.told) h.start ∙ counted; reported = λ named. none ∙ counted }

pub contacts : (before : List (ℕ × Act)) (s : State) → HasReported before s.pair s.reports → HasFollowed s → s.book.short ≡ false
    → is_filed (pace s.stage) ≡ true → s.reports.named ≡ true
    → s.reports.text ≡ contacts_text (before ++ numbered s.reports.number s.pair.end.client.table.tally.counted)
contacts before s has followed long filed named =
    let at = filed_at (pace s.stage) s filed (followed long) in all_reported before s has (at.0.reported named)
