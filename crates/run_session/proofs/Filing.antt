-- What the file of a record has during its run.
use Rattle.effects.specs.declared.vocabulary.Answer.{Answer}
use Rattle.effects.specs.declared.vocabulary.Answer.TheVariants as answer
use Rattle.run_session.proofs.Names.{anything, HasFiled, KeepsNoting, May}
use Rattle.std.specs.Prelude.{◌||◌, is_err}
use Rattle.run_session.proofs.ClientCalls.{or_false, or_true}
use Rattle.run_session.specs.Errors.{Talk}
use Rattle.run_session.specs.Errors.Records.{takes_all, takes_none}
use Rattle.run_session.specs.Records.{forgets, says}
use Rattle.run_session.specs.Records.{answered, Grown, did, is_done, is_made, is_record, Listed, Made, marked, marked_at, Named, Origin, Record, replaced, Report, Stood, Whole, with_marks, Write}
use Rattle.run_session.proofs.Names.{[], ◌++◌, ◌∙◌, ◌∷◌, ◌≡◌, ◌≤◌, ◌⊎◌, Act, AddsErrors, ap, append-nil, append_assoc, arith, At, begins, Book, Bool}
use Rattle.run_session.proofs.Names.{Bytes, calls, ClientEnd, cond, confirms, Done, drop, drop-append_seam, End, Err, error_note, Failed, false}
use Rattle.run_session.proofs.Names.{false≢true, filed, filed_by, Found, GoesOn, Growth, HasReported, HaveLines, inl, inr, IsKept, IsQuiet, IsRun, IsRunOf, IsSafe, Keeps, lacking}
use Rattle.run_session.proofs.Names.{length, List, Missing, new_lines, None, Nothing, of_file, Ok, OnErr, OnOk, Option, outcome, outcome_by, Outside}
use Rattle.run_session.proofs.Names.{Pair, Ran, refl, Reply, Reports, Result, Short, Some, Stage, State, subst, suc, sym, take, take-append-drop, tells}
use Rattle.run_session.proofs.Names.{the_reply, told_now, told_unless, Took, true, map, note_lines, Says, with_acts, with_notes, writes, zero, ℕ}

-- lines are added at the end
grown_by : (lacks : Bool) (e : ClientEnd) (notes : List Says) (g : Growth)
    → (more : List ℕ) × ((with_notes notes (told_unless lacks e g)).text ≡ g.text ++ more)
grown_by true e notes g = (note_lines g.telling.connection notes, refl)
grown_by false e notes g =
    let acts : List ℕ = new_lines e.client.program.features g e.client.table.tally.counted in
    let lines : List ℕ = note_lines g.telling.connection notes in
    (acts ++ lines, append_assoc g.text acts lines)

pub grows : {b : May} (first : Pair) (v : Talk) (ps : List ℕ) (p : Pair) (t : Talk) → Ran b first v ps p t → (more : List ℕ) × (p.recording.text ≡ first.recording.text ++ more)
grows first v _ _ _ (begins ps) = ([], sym (append-nil first.recording.text))
grows first v _ _ _ (calls ps p t u call r run free talks) = grows first v ps p t r
grows first v _ _ _ (forgets ps p t u r lost) = grows first v ps p t r
grows first v _ _ _ (confirms n ps p t r counted) = grows first v (n ∷ ps) p t r
grows first v _ _ _ (says ps p t said r can other on) =
    let before = grows first v ps p t r in
    let added = grown_by true p.end (said ∷ []) p.recording in
    (before.0 ++ added.0, added.1 ∙ (ap (λ (t : List ℕ). t ++ added.0) before.1 ∙ append_assoc first.recording.text before.0 added.0))
grows first v _ _ _ (tells ps p t u lacks errors r records lines) =
    let before = grows first v ps p t r in
    let added = grown_by lacks p.end (map error_note errors) p.recording in
    (before.0 ++ added.0, added.1 ∙ (ap (λ (t : List ℕ). t ++ added.0) before.1 ∙ append_assoc first.recording.text before.0 added.0))

-- what is known of the record's file is the same
pub record IsSameFile (s t : State) : Type 0 where
  pub lost : t.book.lost ≡ s.book.lost
  pub filed : t.book.filed ≡ s.book.filed
  pub settled : t.book.settled ≡ s.book.settled

pub same_file : (s t : State) → of_file t.book ≡ of_file s.book → IsSameFile s t
same_file s t same = record {
  lost = ap (λ (b : Book). b.lost) same;
  filed = ap (λ (b : Book). b.filed) same;
  settled = ap (λ (b : Book). b.settled) same;
}

-- the client and the record are later ones, and nothing is written
pub moved : (first : Pair) (before : List (ℕ × Act)) (s t : State) (o : Outside) → KeepsNoting s t → IsSameFile s t
    → IsKept first before s o → IsKept first before t o
moved first before s t o keeps same k =
    let w : Origin = record { may = anything; first = s.pair; begun = s.talk; before = before; marks = o.marks } in
    let more = grows s.pair s.talk t.book.pauses t.pair t.talk
    (keeps w refl (record { ran = begins s.book.pauses; reported = k.ran.reported; same = k.ran.same })).ran in
    record {
      begun = k.begun;
      ran = keeps (record { may = anything; first = first; begun = k.begun; before = before; marks = o.marks }) refl k.ran;
      front = (
        k.front.0 ++ more.0,
        sym (append_assoc o.file k.front.0 more.0)
            ∙ (ap (λ (x : List ℕ). x ++ more.0) k.front.1 ∙ sym more.1),
      );
      filed = λ l. k.filed (sym same.lost ∙ l) ∙ sym same.filed;
      within = k.within;
      safe = subst (λ (n : ℕ). IsSafe first n o.safe) (sym same.settled) k.safe;
    }

pub weak : (s t : State) → Keeps s t → KeepsNoting s t
weak s t keeps = λ w on run. keeps w run

-- what is outside after an answer at a stage that writes this
abbrev pub by_write : Option Write → ℕ → State → Reply → Outside → Outside
by_write w n s reply o =
    record (outcome_by n w (lacking s) reply o) { marks = marked w (did w reply) s o.marks }

pub moved_on : (s t : State) (reply : Reply) → writes s.stage ≡ None → KeepsNoting s t → IsSameFile s t → GoesOn s reply t
moved_on s t reply quiet keeps same = λ first before o n k.
    subst (λ (w : Option Write). IsKept first before t (by_write w n s reply o)) (sym quiet) (moved first before s t o keeps same k)

-- later ones after an answer
pub goes_further : (s m t : State) (reply : Reply) → GoesOn s reply m → Keeps m t → of_file t.book ≡ of_file m.book → GoesOn s reply t
goes_further s m t reply goes keeps same = λ first before o n k.
    moved first before m t (outcome n s reply o) (weak m t keeps) (same_file m t same) (goes first before o n k)

pub record IsSame (s t : State) : Type 0 where
  pub pair : t.pair ≡ s.pair
  pub talk : t.talk ≡ s.talk
  pub reports : t.reports ≡ s.reports

-- one with the same client, record and pauses
same_ran : (w : Origin) (s t : State) → IsSame s t → t.book.pauses ≡ s.book.pauses → IsRunOf w s → IsRunOf w t
same_ran w s t same pauses ran =
    subst (λ (ps : List ℕ). IsRun w ps t.pair t.talk t.reports) (sym pauses)
    (subst (λ (r : Reports). IsRun w s.book.pauses t.pair t.talk r) (sym same.reports)
    (subst (λ (u : Talk). IsRun w s.book.pauses t.pair u s.reports) (sym same.talk)
    (subst (λ (p : Pair). IsRun w s.book.pauses p s.talk s.reports) (sym same.pair) ran)))

-- ---- the record's file was written, or not

-- what it lacks is what is left of the text
left_of : (first : Pair) (before : List (ℕ × Act)) (s : State) (o : Outside) → IsKept first before s o → (lost : Bool) → s.book.lost ≡ lost
    → (rest : List ℕ) × ((o.file ++ lacking s) ++ rest ≡ s.pair.recording.text)
left_of first before s o k true is = (
  k.front.0,
  ap (λ (x : List ℕ). x ++ k.front.0)
      (ap (λ (b : Bool). o.file ++ cond b [] (drop s.book.filed s.pair.recording.text)) is ∙ append-nil o.file) ∙ k.front.1,
)
left_of first before s o k false is = (
  [],
  append-nil (o.file ++ lacking s)
      ∙ (ap (λ (b : Bool). o.file ++ cond b [] (drop s.book.filed s.pair.recording.text)) is
      ∙ (ap (λ (x : List ℕ). o.file ++ x) (rest_is ∙ refl) ∙ k.front.1)),
)
  where
    rest_is : drop s.book.filed s.pair.recording.text ≡ k.front.0
    rest_is = ap (λ (x : List ℕ). drop s.book.filed x) (sym k.front.1)
        ∙ (ap (λ (x : ℕ). drop x (o.file ++ k.front.0)) (sym (k.filed is)) ∙ drop-append_seam o.file k.front.0)

all_of : (first : Pair) (before : List (ℕ × Act)) (s : State) (o : Outside) → IsKept first before s o → s.book.lost ≡ false → o.file ++ lacking s ≡ s.pair.recording.text
all_of first before s o k is =
    ap (λ (b : Bool). o.file ++ cond b [] (drop s.book.filed s.pair.recording.text)) is
    ∙ (ap (λ (x : List ℕ). o.file ++ x)
    (ap (λ (x : List ℕ). drop s.book.filed x) (sym k.front.1)
    ∙ (ap (λ (x : ℕ). drop x (o.file ++ k.front.0)) (sym (k.filed is)) ∙ drop-append_seam o.file k.front.0))
    ∙ k.front.1)

-- the file has all of the text if it lacks nothing
pub has_all : (first : Pair) (before : List (ℕ × Act)) (s : State) (o : Outside) → IsKept first before s o → s.book.lost ≡ false → HasFiled s
    → o.file ≡ s.pair.recording.text
has_all first before s o k is none = sym (append-nil o.file) ∙ (ap (λ (x : List ℕ). o.file ++ x) (sym none) ∙ all_of first before s o k is)

-- more is written after what is safe
within_more : (o : Outside) (text : List ℕ) → (rest : List ℕ) × (o.safe ++ rest ≡ o.file)
    → (rest : List ℕ) × (o.safe ++ rest ≡ o.file ++ text)
within_more o text w = (w.0 ++ text, sym (append_assoc o.safe w.0 text) ∙ ap (λ (x : List ℕ). x ++ text) w.1)

-- all of it was written
filed_file : (first : Pair) (before : List (ℕ × Act)) (s t : State) (o : Outside) → s.book.lost ≡ false → t.pair ≡ s.pair → IsKept first before s o
    → ((o.file ++ lacking s) ++ [] ≡ t.pair.recording.text) × (length (o.file ++ lacking s) ≡ length s.pair.recording.text)
filed_file first before s t o sound same k = (
  append-nil (o.file ++ lacking s) ∙ (all_of first before s o k sound ∙ ap (λ (p : Pair). p.recording.text) (sym same)),
  ap length (all_of first before s o k sound),
)

-- a definite number is as small as itself
least : (n : ℕ) → n ≤ n
least n = omega arith

pub filed_on : (s t : State) (forced : Bool) → writes s.stage ≡ Some (Record forced) → s.book.lost ≡ false → IsSame s t
    → t.book ≡ filed s → GoesOn s Done t
filed_on s t false w sound same book = λ first before o n k.
    subst (λ (x : Option Write). IsKept first before t (by_write x n s Done o)) (sym w) (record {
      begun = k.begun;
      ran = same_ran (record { may = anything; first = first; begun = k.begun; before = before; marks = o.marks }) s t same (ap (λ (b : Book). b.pauses) (book ∙ ap (λ (x : Option Write). filed_by x s) w)) k.ran;
      front = ([], (filed_file first before s t o sound same.pair k).0);
      filed = λ l. (filed_file first before s t o sound same.pair k).1
          ∙ sym (ap (λ (b : Book). b.filed) (book ∙ ap (λ (x : Option Write). filed_by x s) w));
      within = within_more o (lacking s) k.within;
      safe = subst (λ (b : Book). IsSafe first b.settled o.safe) (sym (book ∙ ap (λ (x : Option Write). filed_by x s) w)) k.safe;
    })
filed_on s t true w sound same book = λ first before o n k.
    subst (λ (x : Option Write). IsKept first before t (by_write x n s Done o)) (sym w) (record {
      begun = k.begun;
      ran = same_ran (record { may = anything; first = first; begun = k.begun; before = before; marks = o.marks }) s t same (ap (λ (b : Book). b.pauses) (book ∙ ap (λ (x : Option Write). filed_by x s) w)) k.ran;
      front = ([], (filed_file first before s t o sound same.pair k).0);
      filed = λ l. (filed_file first before s t o sound same.pair k).1
          ∙ sym (ap (λ (b : Book). b.filed) (book ∙ ap (λ (x : Option Write). filed_by x s) w));
      within = ([], append-nil (o.file ++ lacking s));
      safe = subst (λ (b : Book). IsSafe first b.settled (o.file ++ lacking s))
          (sym (book ∙ ap (λ (x : Option Write). filed_by x s) w)) (record {
            moment = s.pair;
            pauses = s.book.pauses;
            begun = k.begun;
            talk = s.talk;
            ran = k.ran.ran;
            rest = [];
            text = append-nil s.pair.recording.text ∙ sym (all_of first before s o k sound);
            features = least s.pair.recording.telling.counted.features;
          });
    })

-- some of it was written
some_of : (first : Pair) (before : List (ℕ × Act)) (s : State) (o : Outside) (n : ℕ) → IsKept first before s o
    → (rest : List ℕ) × ((o.file ++ take n (lacking s)) ++ rest ≡ s.pair.recording.text)
some_of first before s o n k =
    let all = left_of first before s o k s.book.lost refl in (
      drop n (lacking s) ++ all.0,
      sym (append_assoc (o.file ++ take n (lacking s)) (drop n (lacking s)) all.0)
          ∙ (ap (λ (x : List ℕ). x ++ all.0)
          (append_assoc o.file (take n (lacking s)) (drop n (lacking s)) ∙ ap (λ (x : List ℕ). o.file ++ x) (take-append-drop n (lacking s)))
          ∙ all.1),
    )

safe_more : (first : Pair) (count : ℕ) (safe more : List ℕ) → IsSafe first count safe → IsSafe first count (safe ++ more)
safe_more first count safe more h = record {
  moment = h.moment;
  pauses = h.pauses;
  begun = h.begun;
  talk = h.talk;
  ran = h.ran;
  rest = h.rest ++ more;
  text = sym (append_assoc h.moment.recording.text h.rest more) ∙ ap (λ (x : List ℕ). x ++ more) h.text;
  features = h.features;
}

lost_kept : (first : Pair) (begun : Talk) (before : List (ℕ × Act)) (s t : State) (p : Outside)
    → IsRunOf (record { may = anything; first = first; begun = begun; before = before; marks = p.marks }) s → IsSame s t → t.book ≡ record (s.book) { lost = true }
    → (rest : List ℕ) × (p.file ++ rest ≡ s.pair.recording.text) → (rest : List ℕ) × (p.safe ++ rest ≡ p.file)
    → IsSafe first s.book.settled p.safe → IsKept first before t p
lost_kept first begun before s t p ran same book front within safe = record {
  begun = begun;
  ran = same_ran (record { may = anything; first = first; begun = begun; before = before; marks = p.marks }) s t same (ap (λ (b : Book). b.pauses) book) ran;
  front = (front.0, front.1 ∙ ap (λ (x : Pair). x.recording.text) (sym same.pair));
  filed = λ l. absurd (false≢true (sym l ∙ ap (λ (b : Book). b.lost) book));
  within = within;
  safe = subst (λ (b : Book). IsSafe first b.settled p.safe) (sym book) safe;
}

-- the file is lost: whatever was answered, it has the first bytes
lost_on : (first : Pair) (before : List (ℕ × Act)) (s t : State) (o : Outside) (n : ℕ) (forced : Bool) (reply : Reply) → IsSame s t → t.book ≡ record (s.book) { lost = true } → IsKept first before s o
    → IsKept first before t (by_write (Some (Record forced)) n s reply o)
lost_on first before s t o n false Done same book k =
    lost_kept first k.begun before s t _ k.ran same book (left_of first before s o k s.book.lost refl) (within_more o (lacking s) k.within) k.safe
lost_on first before s t o n true Done same book k =
    lost_kept first k.begun before s t _ k.ran same book (left_of first before s o k s.book.lost refl) ([], append-nil (o.file ++ lacking s))
    (subst (λ (x : List ℕ). IsSafe first s.book.settled x) (within_more o (lacking s) k.within).1
    (safe_more first s.book.settled o.safe (within_more o (lacking s) k.within).0 k.safe))
lost_on first before s t o n false (Bytes bytes) same book k =
    lost_kept first k.begun before s t _ k.ran same book (some_of first before s o n k) (within_more o (take n (lacking s)) k.within) k.safe
lost_on first before s t o n false End same book k =
    lost_kept first k.begun before s t _ k.ran same book (some_of first before s o n k) (within_more o (take n (lacking s)) k.within) k.safe
lost_on first before s t o n false Missing same book k =
    lost_kept first k.begun before s t _ k.ran same book (some_of first before s o n k) (within_more o (take n (lacking s)) k.within) k.safe
lost_on first before s t o n false Found same book k =
    lost_kept first k.begun before s t _ k.ran same book (some_of first before s o n k) (within_more o (take n (lacking s)) k.within) k.safe
lost_on first before s t o n false Nothing same book k =
    lost_kept first k.begun before s t _ k.ran same book (some_of first before s o n k) (within_more o (take n (lacking s)) k.within) k.safe
lost_on first before s t o n false (At ms) same book k =
    lost_kept first k.begun before s t _ k.ran same book (some_of first before s o n k) (within_more o (take n (lacking s)) k.within) k.safe
lost_on first before s t o n false (Took count) same book k =
    lost_kept first k.begun before s t _ k.ran same book (some_of first before s o n k) (within_more o (take n (lacking s)) k.within) k.safe
lost_on first before s t o n false (Failed why) same book k =
    lost_kept first k.begun before s t _ k.ran same book (some_of first before s o n k) (within_more o (take n (lacking s)) k.within) k.safe
lost_on first before s t o n false Short same book k =
    lost_kept first k.begun before s t _ k.ran same book (some_of first before s o n k) (within_more o (take n (lacking s)) k.within) k.safe
lost_on first before s t o n true (Bytes bytes) same book k =
    lost_kept first k.begun before s t _ k.ran same book (some_of first before s o n k) (within_more o (take n (lacking s)) k.within) k.safe
lost_on first before s t o n true End same book k =
    lost_kept first k.begun before s t _ k.ran same book (some_of first before s o n k) (within_more o (take n (lacking s)) k.within) k.safe
lost_on first before s t o n true Missing same book k =
    lost_kept first k.begun before s t _ k.ran same book (some_of first before s o n k) (within_more o (take n (lacking s)) k.within) k.safe
lost_on first before s t o n true Found same book k =
    lost_kept first k.begun before s t _ k.ran same book (some_of first before s o n k) (within_more o (take n (lacking s)) k.within) k.safe
lost_on first before s t o n true Nothing same book k =
    lost_kept first k.begun before s t _ k.ran same book (some_of first before s o n k) (within_more o (take n (lacking s)) k.within) k.safe
lost_on first before s t o n true (At ms) same book k =
    lost_kept first k.begun before s t _ k.ran same book (some_of first before s o n k) (within_more o (take n (lacking s)) k.within) k.safe
lost_on first before s t o n true (Took count) same book k =
    lost_kept first k.begun before s t _ k.ran same book (some_of first before s o n k) (within_more o (take n (lacking s)) k.within) k.safe
lost_on first before s t o n true (Failed why) same book k =
    lost_kept first k.begun before s t _ k.ran same book (some_of first before s o n k) (within_more o (take n (lacking s)) k.within) k.safe
lost_on first before s t o n true Short same book k =
    lost_kept first k.begun before s t _ k.ran same book (some_of first before s o n k) (within_more o (take n (lacking s)) k.within) k.safe

record_of : (w : Option Write) → is_record w ≡ true → (forced : Bool) × (w ≡ Some (Record forced))
record_of None is = absurd (false≢true is)
record_of (Some (Record forced)) is = (forced, refl)
record_of (Some Grown) is = absurd (false≢true is)
record_of (Some Made) is = absurd (false≢true is)
record_of (Some Named) is = absurd (false≢true is)
record_of (Some Listed) is = absurd (false≢true is)
record_of (Some Report) is = absurd (false≢true is)
record_of (Some Stood) is = absurd (false≢true is)
record_of (Some (Whole kept)) is = absurd (false≢true is)

pub lost_goes : (s t : State) (reply : Reply) → is_record (writes s.stage) ≡ true → IsSame s t → t.book ≡ record (s.book) { lost = true } → GoesOn s reply t
lost_goes s t reply is same book = λ first before o n k.
    let w = record_of (writes s.stage) is in subst (λ (x : Option Write). IsKept first before t (by_write x n s reply o)) (sym w.1)
    (lost_on first before s t o n w.0 reply same book k)

-- ---- acts and errors

same_text : (g : Growth) → with_notes [] g ≡ g
same_text g = ap (λ (t : List ℕ). record g { text = t }) (append-nil g.text)

-- from one record to another, with these pauses that are to come
abbrev Tells : List ℕ → ClientEnd → Growth → Growth → Talk → Talk → Type 0
Tells ps e g h t u = (b : May) (first : Pair) (v : Talk) → Ran b first v ps (record { end = e; recording = g }) t
    → Ran b first v ps (record { end = e; recording = h }) u

acts_keep : (ps : List ℕ) (e : ClientEnd) (g h : Growth) (t : Talk) → h ≡ with_acts e.client.program.features e.client.table.tally.counted g
    → Tells ps e g h t t
acts_keep ps e g h t is = λ b first v ran.
    subst (λ (x : Growth). Ran b first v ps (record { end = e; recording = x }) t) (same_text (told_now e g) ∙ sym is)
    (tells ps (record { end = e; recording = g }) t t false [] ran (takes_none t) tt)

errors_keep : (ps : List ℕ) (e : ClientEnd) (g h : Growth) (t : Talk) → HaveLines t.errors → h ≡ with_notes (map error_note t.errors) g
    → Tells ps e g h t (record t { errors = [] })
errors_keep ps e g h t lines is = λ b first v ran.
    subst (λ (x : Growth). Ran b first v ps (record { end = e; recording = x }) (record t { errors = [] })) (sym is)
    (tells ps (record { end = e; recording = g }) t (record t { errors = [] }) true t.errors ran (takes_all t) lines)

pub first_lines : (n : ℕ) (errors : List (List ℕ)) → HaveLines errors → HaveLines (take n errors)
first_lines zero [] h = tt
first_lines zero (e ∷ errors) h = tt
first_lines (suc n) [] h = tt
first_lines (suc n) (e ∷ errors) h = (h.0, first_lines n errors h.1)

-- ---- a new session

pub new_kept : (before : List (ℕ × Act)) (s : State) → s.book ≡ record {
  lost = false;
  filed = length s.pair.recording.text;
  settled = s.pair.recording.telling.counted.features;
  pauses = s.book.pauses;
  keeps = s.book.keeps;
  short = s.book.short;
  spent = s.book.spent;
  key = s.book.key;
  noted = s.book.noted;
}
    → HasReported before s.pair s.reports → IsKept s.pair before s (record { file = s.pair.recording.text; safe = s.pair.recording.text; marks = s.reports.marks })
new_kept before s book reported = record {
  begun = s.talk;
  ran = record { ran = begins s.book.pauses; reported = reported; same = refl };
  front = ([], append-nil s.pair.recording.text);
  filed = λ l. sym (ap (λ (b : Book). b.filed) book);
  within = ([], append-nil s.pair.recording.text);
  safe = subst (λ (b : Book). IsSafe s.pair b.settled s.pair.recording.text) (sym book) (record {
    moment = s.pair;
    pauses = s.book.pauses;
    begun = s.talk;
    talk = s.talk;
    ran = begins s.book.pauses;
    rest = [];
    text = append-nil s.pair.recording.text;
    features = least s.pair.recording.telling.counted.features;
  });
}

-- acts get their lines, or memory runs out for them
pub told_acts_keep : {A E : Type 0} (r : Result A E) (ps : List ℕ) (e : ClientEnd) (g h : Growth) (t : Talk)
    → OnOk r (h ≡ with_acts e.client.program.features e.client.table.tally.counted g) → OnErr r (h ≡ g) → Tells ps e g h t t
told_acts_keep (Ok a) ps e g h t done same = acts_keep ps e g h t done
told_acts_keep (Err why) ps e g h t done same =
    λ b first v ran. subst (λ (x : Growth). Ran b first v ps (record { end = e; recording = x }) t) (sym same) ran

-- likewise errors, of which the first get theirs
pub told_errors_keep : {A E : Type 0} (r : Result A E) (ps : List ℕ) (e : ClientEnd) (g h : Growth) (t : Talk) → HaveLines t.errors
    → OnOk r (h ≡ with_notes (map error_note t.errors) g) → OnErr r ((n : ℕ) × AddsErrors t.errors g h n)
    → Tells ps e g h t (record t { errors = []; lost = t.lost || is_err r })
told_errors_keep (Ok a) ps e g h t lines done some = λ b first v ran.
    subst (λ (x : Bool). Ran b first v ps (record { end = e; recording = h }) (record t { errors = []; lost = x })) (sym (or_false t.lost))
    (errors_keep ps e g h t lines done b first v ran)
told_errors_keep (Err why) ps e g h t lines done some =
    let u : Talk = record t { errors = take some.0 t.errors; lost = t.lost || true } in λ b first v ran.
    errors_keep ps e g h u (first_lines some.0 t.errors lines) some.1.added b first v
    (forgets ps (record { end = e; recording = g }) t u ran (or_true t.lost))

pub told_on : (ps : List ℕ) (e : ClientEnd) (g h : Growth) (t u v : Talk) → Tells ps e g h t u → v ≡ u → Tells ps e g h t v
told_on ps e g h t u v keeps is = λ b first w ran.
    subst (λ (x : Talk). Ran b first w ps (record { end = e; recording = h }) x) (sym is) (keeps b first w ran)

pub filed_goes : (s t : State) → is_record (writes s.stage) ≡ true → s.book.lost ≡ false → IsSame s t → t.book ≡ filed s → GoesOn s Done t
filed_goes s t is sound same book =
    let w = record_of (writes s.stage) is in filed_on s t w.0 w.1 sound same book

-- ---- the stages that write nothing

pub is_quiet : (st a : Stage) → writes a ≡ None → st ≡ a → writes st ≡ None
is_quiet st a h e = ap writes e ∙ h

pub or_quiet : {X : Type 0} (st a : Stage) → writes a ≡ None → (X → writes st ≡ None) → (st ≡ a) ⊎ X → writes st ≡ None
or_quiet st a h f (inl e) = ap writes e ∙ h
or_quiet st a h f (inr x) = f x

pub arm_on : (v s t : State) (reply : Reply) → v ≡ s → writes v.stage ≡ None → Keeps s t → of_file t.book ≡ of_file s.book → GoesOn s reply t
arm_on v s t reply is quiet keeps same =
    moved_on s t reply (ap (λ (x : State). writes x.stage) (sym is) ∙ quiet) (weak s t keeps) (same_file s t same)

pub arm : (v s t : State) (reply : Reply) → v ≡ s → writes v.stage ≡ None → Keeps s t → t.book ≡ s.book → GoesOn s reply t
arm v s t reply is quiet keeps same = arm_on v s t reply is quiet keeps (ap of_file same)

-- ---- the others

-- an answer that is not that it was done
pub undone : (a : Answer) → (a ≡ answer.Done → ⊥) → is_done (the_reply a) ≡ false
undone answer.Done not = absurd (not refl)
undone (answer.Bytes bytes) not = refl
undone answer.End not = refl
undone answer.Missing not = refl
undone answer.Found not = refl
undone answer.Nothing not = refl
undone (answer.At ms) not = refl
undone (answer.Took count) not = refl
undone (answer.Failed why) not = refl
undone answer.Short not = refl

pub unmade : (a : Answer) → (a ≡ answer.Done → ⊥) → (a ≡ answer.Found → ⊥) → is_made (the_reply a) ≡ false
unmade answer.Done not other = absurd (not refl)
unmade answer.Found not other = absurd (other refl)
unmade (answer.Bytes bytes) not other = refl
unmade answer.End not other = refl
unmade answer.Missing not other = refl
unmade answer.Nothing not other = refl
unmade (answer.At ms) not other = refl
unmade (answer.Took count) not other = refl
unmade (answer.Failed why) not other = refl
unmade answer.Short not other = refl

-- what it does not write to is the record's file
other_file : (w : Option Write) → is_record w ≡ false → (n : ℕ) (text : List ℕ) (reply : Reply) (o : Outside) → outcome_by n w text reply o ≡ o
other_file None is n text reply o = refl
other_file (Some (Record forced)) is n text reply o = absurd (false≢true (sym is))
other_file (Some Grown) is n text reply o = refl
other_file (Some Made) is n text reply o = refl
other_file (Some Named) is n text reply o = refl
other_file (Some Listed) is n text reply o = refl
other_file (Some Report) is n text reply o = refl
other_file (Some Stood) is n text reply o = refl
other_file (Some (Whole kept)) is n text reply o = refl

-- later ones after an answer by which another file was written, or not
pub noted_goes : (v s t : State) (reply : Reply) → v ≡ s → is_record (writes v.stage) ≡ false → Keeps (answered s reply) t
    → of_file t.book ≡ of_file s.book → GoesOn s reply t
noted_goes v s t reply is other keeps same = λ first before o n k.
    moved first before (answered s reply) t (outcome n s reply o) (weak (answered s reply) t keeps) (same_file (answered s reply) t same)
    (subst (λ (p : Outside). IsKept first before (answered s reply) (record p { marks = marked_at s reply o.marks }))
    (sym (other_file (writes s.stage) (ap (λ (x : State). is_record (writes x.stage)) (sym is) ∙ other) n (lacking s) reply o)) (record {
      begun = k.begun;
      ran = record { ran = k.ran.ran; reported = k.ran.reported; same = ap (marked_at s reply) k.ran.same };
      front = k.front;
      filed = k.filed;
      within = k.within;
      safe = k.safe;
    }))

-- likewise, if nothing else has changed
pub quiet_keeps : (s t : State) → IsQuiet s t → Keeps s t
quiet_keeps s t quiet = λ w run. subst (λ (x : State). IsRunOf w x) (sym quiet) run

pub quiet_goes : (v s t : State) (reply : Reply) → v ≡ s → is_record (writes v.stage) ≡ false → IsQuiet (answered s reply) t → GoesOn s reply t
quiet_goes v s t reply is other quiet = noted_goes v s t reply is other (quiet_keeps (answered s reply) t quiet)
    (ap (λ (x : State). of_file x.book) quiet)

-- what is known after an answer at a stage that writes this
pub noted : (s : State) (reply : Reply) (w : Option Write) (done : Bool) → writes s.stage ≡ w → did w reply ≡ done
    → with_marks (marked w done s s.reports.marks) s ≡ answered s reply
noted s reply w done at is = sym (ap (λ (x : Option Write). with_marks (marked x (did x reply) s s.reports.marks) s) at
    ∙ ap (λ (b : Bool). with_marks (marked w b s s.reports.marks) s) is)

pub whole_noted : (s : State) (reply : Reply) (done : Bool) → writes s.stage ≡ Some (Whole (replaced s.stage)) → is_done reply ≡ done
    → with_marks (marked (Some (Whole (replaced s.stage))) done s s.reports.marks) s ≡ answered s reply
whole_noted s reply done at is = noted s reply (Some (Whole (replaced s.stage))) done at is

pub stood_noted : (s : State) (reply : Reply) (done : Bool) → s.stage ≡ Stage.Standing → is_done reply ≡ done
    → with_marks (marked (Some Stood) done s s.reports.marks) s ≡ answered s reply
stood_noted s reply done at is = noted s reply (Some Stood) done (ap writes at) is

pub report_noted : (s : State) (reply : Reply) (done : Bool) → s.stage ≡ Stage.Printing → is_done reply ≡ done
    → with_marks (marked (Some Report) done s s.reports.marks) s ≡ answered s reply
report_noted s reply done at is = noted s reply (Some Report) done (ap writes at) is

pub contacts_noted : (s : State) (reply : Reply) (done : Bool) → s.stage ≡ Stage.Reporting → is_done reply ≡ done
    → with_marks (marked (Some Grown) done s s.reports.marks) s ≡ answered s reply
contacts_noted s reply done at is = noted s reply (Some Grown) done (ap writes at) is

pub features_noted : (s : State) (reply : Reply) (done : Bool) → s.stage ≡ Stage.Listing → is_done reply ≡ done
    → with_marks (marked (Some Listed) done s s.reports.marks) s ≡ answered s reply
features_noted s reply done at is = noted s reply (Some Listed) done (ap writes at) is

pub made_noted : (s : State) (reply : Reply) (done : Bool) → s.stage ≡ Stage.MakingFeatures → is_made reply ≡ done
    → with_marks (marked (Some Made) done s s.reports.marks) s ≡ answered s reply
made_noted s reply done at is = noted s reply (Some Made) done (ap writes at) is

pub named_noted : (s : State) (reply : Reply) (done : Bool) → s.stage ≡ Stage.BeginningFeatures → is_done reply ≡ done
    → with_marks (marked (Some Named) done s s.reports.marks) s ≡ answered s reply
named_noted s reply done at is = noted s reply (Some Named) done (ap writes at) is

pub is_other : (st a : Stage) → is_record (writes a) ≡ false → st ≡ a → is_record (writes st) ≡ false
is_other st a h e = ap (λ (x : Stage). is_record (writes x)) e ∙ h

pub or_other : {X : Type 0} (st a : Stage) → is_record (writes a) ≡ false → (X → is_record (writes st) ≡ false) → (st ≡ a) ⊎ X
    → is_record (writes st) ≡ false
or_other st a h f (inl e) = is_other st a h e
or_other st a h f (inr x) = f x
