-- What a run begins with, what its record says at each moment, and what runs over one file leave, each killed at any moment.
use Rattle.record_text.proofs.RunNames.{[], ◌++◌, ◌+◌, ◌-◌, ◌<◌, ◌∙◌, ◌∷◌, ◌≡◌, ◌≤◌, ◌⊎◌, Act, ap, append-nil, append_assoc, AreAsked, AreFit}
use Rattle.record_text.proofs.RunNames.{AreRecordLines, AreWritten, arith, BeginsWith, behind_moments, Bool, calls_in, client_behind, ClientEnd}
use Rattle.record_text.proofs.RunNames.{Completed, contacts, contacts_more, Continues, Entry, entry_line, false, false≢true, Feature, Follow, Follows}
use Rattle.record_text.proofs.RunNames.{Growth, head_lines, inl, inr, IsNew, IsPartGiven, IsProgram, IsRecorded, IsSame, Kept, length, length-append}
use Rattle.record_text.proofs.RunNames.{List, ltb-false, ltb-true, MadeContact, map, Meaning, Moment, nat_lt, new_client_end, nothing_kept, Option}
use Rattle.record_text.proofs.RunNames.{record_lines, Recorded, recorded, refl, Noted, Sound, subst, sym, take, take-append-add, take_all, text_of}
use Rattle.record_text.proofs.RunNames.{told_behind, true, Wanted, whole_lines, ℕ}
use Rattle.contact_ledger.proofs.WrittenTexts.{text_more}
use Rattle.record_text.specs.Reading.{AreTornHead, IsRecord, IsUnbegun}
use Rattle.record_text.specs.Cuts.{begun, ReadsCut, unbegun}
use Rattle.record_text.specs.Stages.{body, head, Leads, Stage, start, within}
use Rattle.record_text.specs.declared.entries.Entry.TheVariants.{Told}
use Rattle.record_text.proofs.CutTexts.{cut_read, whole_read}
use Rattle.record_text.proofs.RecordFacts.{record_holds}
use Rattle.record_text.proofs.RecordOnes.{not_unbegun}
use Rattle.record_text.proofs.StageOnes.{leads_one}
use Rattle.record_text.proofs.StageReads.{record_leads}
use Rattle.record_text.proofs.StageShapes.{Halves, leads_split}
use Rattle.record_text.specs.declared.opening.Beginning.{Beginning}
use Rattle.record_text.specs.declared.versions.Version.{Version}
use Rattle.record_text.specs.declared.versions.Version.TheVariants.{Second}
use Rattle.record_text.specs.Recordings.{told_now}
use Rattle.record_text.specs.Runs.{AreKilledRuns, HasAllOf, IsKilledRun, IsRecordOf, no_run, one_more, run_begun}
use Rattle.record_text.proofs.Wholes.{Found, whole_found, whole_then}
use Rattle.record_text.proofs.RunEntries.{follow_more, Parts, follow_parts, Grown, follow_grown}
use Rattle.record_text.proofs.Stands.{Base, due, Stands, lines_joined, Reached, moments_stand}
use Rattle.record_text.proofs.Tells.{is_told, IsTold}
use Rattle.record_text.proofs.Views.{view}

-- ---- what a run begins with

-- contacts that are used up were made
follow_fits : (ws : List Wanted) (es : List Entry) (old new : Kept) → old.used ≤ length (contacts old.told) → Follow ws old es new
    → new.used ≤ length (contacts new.told)
follow_fits ws [] old new fits f = subst (λ (k : Kept). k.used ≤ length (contacts k.told)) (sym f) fits
follow_fits ws (e ∷ es) old new fits f = follow_fits ws es f.0 new (one_fits e f.0 f.1) f.2
  where
    told_fits : (n : ℕ) (a : Act) → old.used ≤ length (contacts (old.told ++ (n, a) ∷ []))
    told_fits n a =
        let more : length (contacts (old.told ++ (n, a) ∷ []))
        ≡ length (contacts old.told) + length (contacts ((n, a) ∷ [])) =
        ap (λ (l : List MadeContact). length l) (contacts_more old.told ((n, a) ∷ []))
        ∙ length-append (contacts old.told) (contacts ((n, a) ∷ [])) in
        omega (arith, fits, more)

    one_fits : (x : Entry) (mid : Kept) → Follows ws old x mid → mid.used ≤ length (contacts mid.told)
    one_fits (Told n a) mid g = subst (λ (k : Kept). k.used ≤ length (contacts k.told)) (sym g.2) (told_fits n a)
    one_fits (Noted n note text) mid g = subst (λ (k : Kept). k.used ≤ length (contacts k.told)) (sym g.2) fits
    one_fits (Completed n label) mid g = subst (λ (k : Kept). k.used ≤ length (contacts k.told)) (sym g.1.more) (omega arith)

-- the entries of the record that a run continues, and what they keep
record Started (part : Option (List ℕ)) (ws : List Wanted) (b : Beginning) : Type 0 where
  version : Version
  entries : List Entry
  kept : Kept
  text : b.text.items ≡ text_of (record_lines version part ws entries)
  follow : Follow ws nothing_kept entries kept
  features : kept.features ≡ b.features
  told : kept.told ≡ b.told
  next : b.connection ≡ kept.last + 1
  fits : kept.used ≤ length (contacts kept.told)
  sound : Sound ws b.features b.told

new_started : (part : Option (List ℕ)) (ws : List Wanted) (b : Beginning) → IsNew part ws b → Started part ws b
new_started part ws b h = record {
  version = Second;
  entries = [];
  kept = nothing_kept;
  text = h.text ∙ ap text_of (sym (append-nil (head_lines Second part ws)));
  follow = refl;
  features = sym h.features;
  told = sym h.told;
  next = h.connection;
  fits = omega arith;
  sound = subst (λ (fs : List Feature). Sound ws fs b.told) (sym h.features) (record { starts = []; runs = tt });
}

continued_started : (part : Option (List ℕ)) (ws : List Wanted) (bytes : List ℕ) (r : Recorded) (b : Beginning) → IsRecord bytes r
    → IsSame part ws r → Continues bytes r b → Started part ws b
continued_started part ws bytes r b h same g =
    let found : Found bytes b.text.items = whole_found bytes b.text.items g.text in
    let holds : IsRecorded r = record_holds (whole_lines bytes) r h in
    let follow : Follow ws nothing_kept h.entries h.kept =
    subst (λ (l : List Wanted). Follow l nothing_kept h.entries h.kept) same.asked_is h.follow in
    record {
      version = h.version;
      entries = h.entries;
      kept = h.kept;
      text = found.text_is ∙ (ap text_of h.whole
          ∙ (ap (λ (p : Option (List ℕ)). text_of (record_lines h.version p r.asked h.entries)) same.part_is
          ∙ ap (λ (l : List Wanted). text_of (record_lines h.version part l h.entries)) same.asked_is));
      follow = follow;
      features = sym (ap (λ (x : Recorded). x.features) h.says) ∙ sym g.features;
      told = sym (ap (λ (x : Recorded). x.told) h.says) ∙ sym g.told;
      next = g.connection ∙ ap (λ (x : Recorded). x.last + 1) h.says;
      fits = follow_fits ws h.entries nothing_kept h.kept (omega arith) follow;
      sound = subst (λ (l : List Wanted). Sound l b.features b.told) same.asked_is
          (subst (λ (fs : List Feature). Sound r.asked fs b.told) (sym g.features)
          (subst (λ (l : List (ℕ × Act)). Sound r.asked r.features l) (sym g.told) holds.sound));
    }

started : (part : Option (List ℕ)) (ws : List Wanted) (bytes : List ℕ) (b : Beginning) → BeginsWith part ws bytes b → Started part ws b
started part ws bytes b (inl h) = new_started part ws b h.1
started part ws bytes b (inr h) = continued_started part ws bytes h.0 b h.1 h.2 h.3

-- ---- after moments

abbrev base_of : (part : Option (List ℕ)) (ws : List Wanted) (b : Beginning) → Started part ws b → Base
base_of part ws b s = record { kept = Started.kept s; first = b.connection; text = b.text.items }

begun_stands : (p : Meaning) (part : Option (List ℕ)) (window : ℕ) (b : Beginning) → (s : Started part p.features b)
    → Stands (base_of part p.features b s) b.told (view (new_client_end p b.features window).client) (run_begun p window b).recording
begun_stands p part window b s =
    let next : b.connection ≡ (Started.kept s).last + 1 = Started.next s in
    record {
      done = [];
      text = sym (append-nil b.text.items);
      kept = Started.kept s;
      follow = refl;
      features = Started.features s;
      told = Started.told s;
      held = refl;
      reach = λ n first above. omega (arith, next, first);
      few = omega arith;
      fits = Started.fits s;
      most = omega arith;
      placed = λ some. absurd (omega (arith, some));
      on = λ on. absurd (false≢true on);
    }

-- a run of a program from what it began with
record IsRun (p : Meaning) (part : Option (List ℕ)) (b : Beginning) (window : ℕ) (ms : List Moment) : Type 0 where
  start : Started part p.features b
  reached : Reached p (base_of part p.features b start) b.told (new_client_end p b.features window)
      (behind_moments ms (run_begun p window b)).end (calls_in ms) (behind_moments ms (run_begun p window b)).recording
  same : (behind_moments ms (run_begun p window b)).end.client.program ≡ p

is_run : (p : Meaning) (part : Option (List ℕ)) (bytes : List ℕ) (b : Beginning) (window : ℕ) (ms : List Moment) → IsProgram p
    → AreAsked p.features → BeginsWith part p.features bytes b → AreFit b.connection ms (new_client_end p b.features window)
    → AreWritten (told_behind (calls_in ms) (new_client_end p b.features window)) → IsRun p part b window ms
is_run p part bytes b window ms program asked begins fit written =
    let s : Started part p.features b = started part p.features bytes b begins in
    let new : ClientEnd = new_client_end p b.features window in
    let reached : Reached p (base_of part p.features b s) b.told new (behind_moments ms (run_begun p window b)).end (calls_in ms)
    (behind_moments ms (run_begun p window b)).recording =
    moments_stand p b.features window b.told (base_of part p.features b s) program (Started.sound s) asked ms b.told new
    (run_begun p window b).recording (record { calls = []; end_is = refl; acts_are = sym (append-nil b.told) }) fit written
    (begun_stands p part window b s) in
    let told : IsTold p (b.told ++ told_behind (calls_in ms) new) (client_behind (calls_in ms) p b.features window) =
    is_told p b.features window (calls_in ms) b.told program (Started.sound s) in
    record { start = s; reached = reached; same = ap (λ (e : ClientEnd). e.client.program) reached.end_is ∙ told.same }

-- the lines of entries after those of a record
record_more : (v : Version) (part : Option (List ℕ)) (ws : List Wanted) (es more : List Entry)
    → text_of (record_lines v part ws es) ++ text_of (map entry_line more) ≡ text_of (record_lines v part ws (es ++ more))
record_more v part ws es more =
    sym (text_more (record_lines v part ws es) (map entry_line more))
    ∙ ap text_of (append_assoc (head_lines v part ws) (map entry_line es) (map entry_line more)
    ∙ ap (λ (ls : List (List ℕ)). head_lines v part ws ++ ls) (sym (mapped es)))
  where
    mapped : (xs : List Entry) → map entry_line (xs ++ more) ≡ map entry_line xs ++ map entry_line more
    mapped [] = refl
    mapped (x ∷ xs) = ap (λ (ls : List (List ℕ)). entry_line x ∷ ls) (mapped xs)

-- a text of entries that follow one another is a record of what they leave
record_of : (v : Version) (part : Option (List ℕ)) (ws : List Wanted) (es : List Entry) (kept : Kept) (fs : List Feature) (acts : List (ℕ × Act))
    (text : List ℕ) → IsPartGiven part → AreAsked ws → Follow ws nothing_kept es kept → kept.features ≡ fs → kept.told ≡ acts
    → text ≡ text_of (record_lines v part ws es) → IsRecordOf part ws fs acts text
record_of v part ws es kept fs acts text given asked f features told is = (
  kept.last,
  kept.errors,
  kept.notes,
  subst (λ (t : List ℕ). IsRecord t (says fs acts)) (sym is)
      (subst (λ (l : List (ℕ × Act)). IsRecord (text_of (record_lines v part ws es)) (says fs l)) told
      (subst (λ (l : List Feature). IsRecord (text_of (record_lines v part ws es)) (says l kept.told)) features
      (whole_read v part ws es kept given asked f))),
)
  where
    says : List Feature → List (ℕ × Act) → Recorded
    says l told = record { part = part; asked = ws; features = l; told = told; last = kept.last; errors = kept.errors; notes = kept.notes }

-- the text says what the client holds, once what is due is added
pub says_what_was_told : (p : Meaning) (part : Option (List ℕ)) (bytes : List ℕ) (b : Beginning) (window : ℕ) (ms : List Moment)
    → IsProgram p → IsPartGiven part → AreAsked p.features → BeginsWith part p.features bytes b
    → AreFit b.connection ms (new_client_end p b.features window)
    → AreWritten (told_behind (calls_in ms) (new_client_end p b.features window))
    → IsRecordOf part p.features (client_behind (calls_in ms) p b.features window).table.tally.features
    (b.told ++ told_behind (calls_in ms) (new_client_end p b.features window))
    (told_now (behind_moments ms (run_begun p window b)).end (behind_moments ms (run_begun p window b)).recording).text
says_what_was_told p part bytes b window ms program given asked begins fit written =
    let run : IsRun p part b window ms = is_run p part bytes b window ms program asked begins fit written in
    let s : Started part p.features b = IsRun.start run in
    let e : ClientEnd = (behind_moments ms (run_begun p window b)).end in
    let r : Growth = (behind_moments ms (run_begun p window b)).recording in
    let acts : List (ℕ × Act) = b.told ++ told_behind (calls_in ms) (new_client_end p b.features window) in
    let h : Stands (base_of part p.features b s) acts (view e.client) r = Reached.stands (IsRun.reached run) in
    let more : List Entry = h.done ++ due (view e.client) r in
    let follow : Follow p.features (Started.kept s) more h.kept =
    subst (λ (q : Meaning). Follow q.features (Started.kept s) more h.kept) (IsRun.same run) h.follow in
    let text : (told_now e r).text ≡ text_of (record_lines (Started.version s) part p.features (Started.entries s ++ more)) =
    lines_joined r.text h.done (due (view e.client) r) b.text.items h.text
    ∙ (ap (λ (t : List ℕ). t ++ text_of (map entry_line more)) (Started.text s)
    ∙ record_more (Started.version s) part p.features (Started.entries s) more) in
    subst (λ (fs : List Feature). IsRecordOf part p.features fs acts (told_now e r).text)
    (ap (λ (x : ClientEnd). x.client.table.tally.features) (Reached.end_is (IsRun.reached run)))
    (record_of (Started.version s) part p.features (Started.entries s ++ more) h.kept e.client.table.tally.features acts (told_now e r).text given asked
    (follow_more p.features (Started.entries s) more nothing_kept (Started.kept s) h.kept (Started.follow s) follow) h.features h.told text)

-- ---- a run that is killed

-- the entries of a text at the moment at which a run is killed
record WasWritten (p : Meaning) (part : Option (List ℕ)) (b : Beginning) (text : List ℕ) : Type 0 where
  version : Version
  entries : List Entry
  kept : Kept
  follow : Follow p.features nothing_kept entries kept
  text_is : text ≡ text_of (record_lines version part p.features entries)
  added : List ℕ
  parts : text ≡ b.text.items ++ added

killed_text : (p : Meaning) (part : Option (List ℕ)) (bytes : List ℕ) (b : Beginning) (window : ℕ) (ms : List Moment) → IsProgram p
    → AreAsked p.features → BeginsWith part p.features bytes b → AreFit b.connection ms (new_client_end p b.features window)
    → AreWritten (told_behind (calls_in ms) (new_client_end p b.features window))
    → WasWritten p part b (behind_moments ms (run_begun p window b)).recording.text
killed_text p part bytes b window ms program asked begins fit written =
    let run : IsRun p part b window ms = is_run p part bytes b window ms program asked begins fit written in
    let s : Started part p.features b = IsRun.start run in
    let e : ClientEnd = (behind_moments ms (run_begun p window b)).end in
    let r : Growth = (behind_moments ms (run_begun p window b)).recording in
    let acts : List (ℕ × Act) = b.told ++ told_behind (calls_in ms) (new_client_end p b.features window) in
    let h : Stands (base_of part p.features b s) acts (view e.client) r = Reached.stands (IsRun.reached run) in
    let follow : Follow p.features (Started.kept s) (h.done ++ due (view e.client) r) h.kept =
    subst (λ (q : Meaning). Follow q.features (Started.kept s) (h.done ++ due (view e.client) r) h.kept) (IsRun.same run) h.follow in
    let cut : Parts p.features h.done (due (view e.client) r) (Started.kept s) h.kept =
    follow_parts p.features h.done (due (view e.client) r) (Started.kept s) h.kept follow in
    record {
      version = Started.version s;
      entries = Started.entries s ++ h.done;
      kept = cut.mid;
      follow = follow_more p.features (Started.entries s) h.done nothing_kept (Started.kept s) cut.mid (Started.follow s) cut.front;
      text_is = h.text ∙ (ap (λ (t : List ℕ). t ++ text_of (map entry_line h.done)) (Started.text s)
          ∙ record_more (Started.version s) part p.features (Started.entries s) h.done);
      added = text_of (map entry_line h.done);
      parts = h.text;
    }

-- the prefix of it that a file has
data Reads (part : Option (List ℕ)) (ws : List Wanted) (new : List ℕ) : Type 0 where
  none_yet : IsUnbegun new → Reads part ws new
  is_one : (kept : Kept) → IsRecord new (recorded part ws kept) → Reads part ws new

cut_reads : (v : Version) (part : Option (List ℕ)) (ws : List Wanted) (es : List Entry) (kept : Kept) (count : ℕ) → IsPartGiven part → AreAsked ws
    → Follow ws nothing_kept es kept → Reads part ws (take count (text_of (record_lines v part ws es)))
cut_reads v part ws es kept count given asked f = go (nat_lt count (length text)) refl
  where
    text : List ℕ
    text = text_of (record_lines v part ws es)

    cut : ReadsCut part ws es (take count (text_of (record_lines v part ws es)))
        → Reads part ws (take count (text_of (record_lines v part ws es)))
    cut (unbegun u) = none_yet u
    cut (begun k left follow is) = is_one left is

    go : (b : Bool) → nat_lt count (length (text_of (record_lines v part ws es))) ≡ b
        → Reads part ws (take count (text_of (record_lines v part ws es)))
    go true less = cut (cut_read v part ws es kept count given asked f (ltb-true count _ less))
    go false all = subst (λ (t : List ℕ). Reads part ws t)
        (sym (take_all count (text_of (record_lines v part ws es)) (ltb-false count _ all)))
        (is_one kept (whole_read v part ws es kept given asked f))

killed_reads : (p : Meaning) (part : Option (List ℕ)) (old new : List ℕ) → IsProgram p → IsPartGiven part → AreAsked p.features
    → IsKilledRun p part old new → Reads part p.features new
killed_reads p part old new program given asked k =
    let w = killed_text p part old k.begun k.window k.moments program asked k.begins k.fit k.written in
    subst (λ (t : List ℕ). Reads part p.features t)
    (ap (λ (t : List ℕ). take k.count t) (sym (WasWritten.text_is w)) ∙ sym k.left)
    (cut_reads (WasWritten.version w) part p.features (WasWritten.entries w) (WasWritten.kept w) k.count given asked (WasWritten.follow w))

-- ---- nothing is lost

abbrev kept_at : Stage → Kept
kept_at start = nothing_kept
kept_at (head part asked) = nothing_kept
kept_at (within part asked u) = nothing_kept
kept_at (body part asked kept) = kept

body_grown : (ls : List (List ℕ)) (part other : Option (List ℕ)) (asked wanted : List Wanted) (old new : Kept)
    → Leads (body part asked old) ls (body other wanted new) → Grown old new
body_grown [] part other asked wanted old new h = follow_grown asked [] old new (ap kept_at h)
body_grown (l ∷ ls) part other asked wanted old new h =
    let one = h.1 in
    let first : Grown old one.mid = follow_grown asked (one.follows.entry ∷ []) old one.mid (one.mid, one.follows.follows, refl) in
    let rest : Leads (body part asked one.mid) ls (body other wanted new) =
    subst (λ (s : Stage). Leads s ls (body other wanted new)) one.next h.2 in
    grown_twice old one.mid new first (body_grown ls part other asked wanted one.mid new rest)
  where
    grown_twice : (a b c : Kept) → Grown a b → Grown b c → Grown a c
    grown_twice a b c f g = record {
      features = f.features ++ g.features;
      features_are = g.features_are ∙ (ap (λ (xs : List Feature). xs ++ g.features) f.features_are
          ∙ append_assoc a.features f.features g.features);
      acts = f.acts ++ g.acts;
      acts_are = g.acts_are ∙ (ap (λ (xs : List (ℕ × Act)). xs ++ g.acts) f.acts_are ∙ append_assoc a.told f.acts g.acts);
    }

-- where the lines of a record are followed by others, they say first what it says
lines_grown : (lines rest : List (List ℕ)) (r s : Recorded) → AreRecordLines lines r → AreRecordLines (lines ++ rest) s
    → (old : Kept) × (new : Kept) × (r ≡ recorded r.part r.asked old) × (s ≡ recorded s.part s.asked new) × Grown old new
lines_grown lines rest r s h g =
    let a = record_leads lines r h in
    let b = record_leads (lines ++ rest) s g in
    let halves : Halves lines rest start (body s.part s.asked b.0) = leads_split lines rest start (body s.part s.asked b.0) b.2 in
    let same : halves.mid ≡ body r.part r.asked a.0 = leads_one lines start halves.mid (body r.part r.asked a.0) halves.front a.2 in (
      a.0,
      b.0,
      a.1,
      b.1,
      body_grown rest r.part s.part r.asked s.asked a.0 b.0
          (subst (λ (x : Stage). Leads x rest (body s.part s.asked b.0)) same halves.behind),
    )

-- nor do they begin a head
not_torn : (bytes : List ℕ) (r : Recorded) (new : List ℕ) (rest : List (List ℕ)) → IsRecord bytes r
    → whole_lines new ≡ whole_lines bytes ++ rest → IsUnbegun new → ⊥
not_torn bytes r new rest h lines u =
    let t : AreTornHead (whole_lines new) = u.torn in
    let short : 0 < length t.behind = t.short in
    not_unbegun bytes r h (record {
      torn = record {
        version = t.version;
        part = t.part;
        asked = t.asked;
        part_given = t.part_given;
        are_asked = t.are_asked;
        behind = rest ++ t.behind;
        front = t.front ∙ (ap (λ (ls : List (List ℕ)). ls ++ t.behind) lines ∙ append_assoc (whole_lines bytes) rest t.behind);
        short = omega (arith, short, length-append rest t.behind);
      };
      ours = λ none. absurd (some_line (sym none ∙ h.whole));
    })
  where
    some_line : [] ≡ record_lines h.version r.part r.asked h.entries → ⊥
    some_line e = cc

-- the file keeps what the run found whole
record KeptOld (old new : List ℕ) : Type 0 where
  rest : List (List ℕ)
  lines : whole_lines new ≡ whole_lines old ++ rest

killed_keeps : (p : Meaning) (part : Option (List ℕ)) (old new : List ℕ) (r : Recorded) → IsProgram p → AreAsked p.features
    → (k : IsKilledRun p part old new) → IsRecord old r → KeptOld old new
killed_keeps p part old new r program asked k is = go k.begins
  where
    w : WasWritten p part k.begun (behind_moments k.moments (run_begun p k.window k.begun)).recording.text
    w = killed_text p part old k.begun k.window k.moments program asked k.begins k.fit k.written

    go : BeginsWith part p.features old k.begun → KeptOld old new
    go (inl h) = absurd (not_unbegun old r is h.0)
    go (inr h) =
        let text : List ℕ = k.begun.text.items in
        let continues : Continues old h.0 k.begun = h.3 in
        let held : length text ≤ k.count = held_in continues.held k.held in
        let at : length text + (k.count - length text) ≡ k.count = omega (arith, held) in
        let new_is : new ≡ text ++ take (k.count - length text) (WasWritten.added w) =
        k.left ∙ (ap (λ (t : List ℕ). take k.count t) (WasWritten.parts w)
        ∙ (ap (λ (n : ℕ). take n (text ++ WasWritten.added w)) (sym at)
        ∙ take-append-add text (WasWritten.added w) (k.count - length text))) in
        record {
          rest = whole_lines (take (k.count - length text) (WasWritten.added w));
          lines = ap whole_lines new_is
              ∙ whole_then old text (take (k.count - length text) (WasWritten.added w)) continues.text;
        }
      where
        held_in : k.begun.held ≡ length k.begun.text.items → k.begun.held ≤ k.count → length k.begun.text.items ≤ k.count
        held_in e le = omega (arith, e, le)

one_kept : (p : Meaning) (part : Option (List ℕ)) (old new : List ℕ) (r : Recorded) → IsProgram p → IsPartGiven part → AreAsked p.features
    → IsKilledRun p part old new → IsRecord old r → HasAllOf part p.features r new
one_kept p part old new r program given asked k is = go (killed_reads p part old new program given asked k)
  where
    keeps : KeptOld old new
    keeps = killed_keeps p part old new r program asked k is

    go : Reads part p.features new → HasAllOf part p.features r new
    go (none_yet u) = absurd (not_torn old r new (KeptOld.rest keeps) is (KeptOld.lines keeps) u)
    go (is_one kept now) =
        let says : Recorded = recorded part p.features kept in
        let grown = lines_grown (whole_lines old) (KeptOld.rest keeps) r says is
        (subst (λ (ls : List (List ℕ)). AreRecordLines ls says) (KeptOld.lines keeps) now) in
        let holds : IsRecorded says = record_holds (whole_lines new) says now in
        let g : Grown grown.0 grown.1 = grown.4 in
        record {
          says = says;
          is = now;
          same = record { part_is = refl; asked_is = refl };
          sound = holds.sound;
          features = g.features;
          features_are = ap (λ (x : Recorded). x.features) grown.3 ∙ (g.features_are
              ∙ ap (λ (l : List Feature). l ++ g.features) (sym (ap (λ (x : Recorded). x.features) grown.2)));
          acts = g.acts;
          acts_are = ap (λ (x : Recorded). x.told) grown.3 ∙ (g.acts_are
              ∙ ap (λ (l : List (ℕ × Act)). l ++ g.acts) (sym (ap (λ (x : Recorded). x.told) grown.2)));
        }

pub kept_by_all : (p : Meaning) (part : Option (List ℕ)) (old new : List ℕ) (r : Recorded) → IsProgram p → IsPartGiven part
    → AreAsked p.features → AreKilledRuns p part old new → IsRecord old r → IsSame part p.features r → HasAllOf part p.features r new
kept_by_all p part old new r program given asked no_run is same =
    let holds : IsRecorded r = record_holds (whole_lines old) r is in
    record {
      says = r;
      is = is;
      same = same;
      sound = subst (λ (l : List Wanted). Sound l r.features r.told) same.asked_is holds.sound;
      features = [];
      features_are = sym (append-nil r.features);
      acts = [];
      acts_are = sym (append-nil r.told);
    }
kept_by_all p part old new r program given asked (one_more mid last runs k) is same =
    let before : HasAllOf part p.features r mid = kept_by_all p part old mid r program given asked runs is same in
    let after : HasAllOf part p.features before.says new = one_kept p part mid new before.says program given asked k before.is in
    record {
      says = after.says;
      is = after.is;
      same = after.same;
      sound = after.sound;
      features = before.features ++ after.features;
      features_are = after.features_are ∙ (ap (λ (l : List Feature). l ++ after.features) before.features_are
          ∙ append_assoc r.features before.features after.features);
      acts = before.acts ++ after.acts;
      acts_are = after.acts_are ∙ (ap (λ (l : List (ℕ × Act)). l ++ after.acts) before.acts_are
          ∙ append_assoc r.told before.acts after.acts);
    }

pub begun_by_all : (p : Meaning) (part : Option (List ℕ)) (old new : List ℕ) → IsProgram p → IsPartGiven part → AreAsked p.features
    → AreKilledRuns p part old new → IsUnbegun old
    → IsUnbegun new ⊎ ((r : Recorded) × IsRecord new r × IsSame part p.features r × Sound p.features r.features r.told)
begun_by_all p part old new program given asked no_run none = inl none
begun_by_all p part old new program given asked (one_more mid last runs k) none = go (killed_reads p part mid new program given asked k)
  where
    go : Reads part p.features new
        → IsUnbegun new ⊎ ((r : Recorded) × IsRecord new r × IsSame part p.features r × Sound p.features r.features r.told)
    go (none_yet u) = inl u
    go (is_one kept now) =
        let holds : IsRecorded (recorded part p.features kept) = record_holds (whole_lines new) (recorded part p.features kept) now in
        inr (recorded part p.features kept, now, record { part_is = refl; asked_is = refl }, holds.sound)
