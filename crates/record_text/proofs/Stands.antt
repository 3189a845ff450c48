-- What holds of a record while it follows a client: its entries follow one another, and what they leave is what the client holds.
use Rattle.record_text.proofs.RunNames.{[], ◌++◌, ◌+◌, ◌<◌, ◌||◌, ◌∙◌, ◌∷◌, ◌≡◌, ◌≤◌, Abort, Act, act_of, AllByRecursion, ap, append-nil, append_assoc}
use Rattle.record_text.proofs.RunNames.{AreAsked, AreFit, AreNotes, IsNoteText, Note, noted, Says, AreWritten, arith, begins_session, behind_call, behind_calls, behind_moments, Bool}
use Rattle.record_text.proofs.RunNames.{Call, Calls, calls_in, Client, client_behind, client_connected, ClientEnd, cond, Connected, connection_most}
use Rattle.record_text.proofs.RunNames.{contacts, Counted, counted_after, counted_next, Datum, done_by, drop, drop-length, entries_of, Entry, entry_line}
use Rattle.record_text.proofs.RunNames.{false, false≢true, Feature, Feed, Fits, Follow, Growth, IsConnection, IsProgram, IsProgress, IsWrittenAct, Kept}
use Rattle.record_text.proofs.RunNames.{Leave, leb-true, length, length-append, List, ltb-true, map, Meaning, Moment, nat_le, nat_lt}
use Rattle.record_text.proofs.RunNames.{new_client_end, next_number, next_of, numbered, Option, passed_over, Point, possible, ReadOne, recorded_by, refl}
use Rattle.record_text.proofs.RunNames.{Restart, Resume, Send, Sent, Sound, subst, suc, sym, Table, Tag, take_all, tallied, Tally, Tell}
use Rattle.record_text.proofs.RunNames.{tells_homed, text_of, told_behind, told_by, told_unless, touches_in, true, Wanted, with_notes, with_noted, ℕ}
use Rattle.std.proofs.lemmas.List.{drop-append-le}
use Rattle.dme_line.specs.declared.commands.Kind.{Kind}
use Rattle.protocol_model.specs.Replies.{Mark}
use Rattle.protocol_model.specs.Open.{Effect}
use Rattle.protocol_model.specs.declared.plans.Planned.{Planned}
use Rattle.protocol_model.proofs.HeardTables.{heard}
use Rattle.protocol_model.proofs.table.Replying.{fine, step_cases}
use Rattle.protocol_model.proofs.invariant.Touching.{Keeps, measured_keeps}
use Rattle.client_core.specs.Clients.{is_apart, may_connect, may_read}
use Rattle.client_core.proofs.Fits.{both}
use Rattle.record_text.proofs.ToldLines.{lines_more}
use Rattle.record_text.specs.Growths.{begun}
use Rattle.record_text.specs.Recordings.{told_now}
use Rattle.record_text.proofs.RunEntries.{entries_more, after_more, follow_more, Parts, follow_parts, follow_last, Later, later}
use Rattle.record_text.proofs.Moves.{Moves, Rests, measured_moves}
use Rattle.record_text.proofs.Counts.{Grows, grows_told, heard_grows, IsGoing}
use Rattle.record_text.proofs.Tells.{is_told, IsTold, Tells}
use Rattle.record_text.proofs.Views.{aborts_view, none_anew, none_told, read_all, sends_view, told_to, View, view, view_by, with_none}

-- ---- the invariant

-- what a run began with: what its record kept, the number of its first connection, and the text
pub record Base : Type 0 where
  pub kept : Kept
  pub first : ℕ
  pub text : List ℕ

-- the acts without lines, their entries, and what is counted after them
abbrev pub due_acts : View → Growth → List Act
due_acts v r = drop r.told v.counted

abbrev pub due : View → Growth → List Entry
due v r = entries_of v.program.features r.telling.connection r.telling.counted (due_acts v r)

abbrev pub due_counted : View → Growth → Counted
due_counted v r = counted_after v.program.features r.telling.connection r.telling.counted (due_acts v r)

-- on a connection: it has the number under which lines are added, and as many points are counted as the client has
pub record IsOn (v : View) (r : Growth) (kept : Kept) : Type 0 where
  pub number : r.telling.connection ≡ v.connection
  pub connection : IsConnection v.connection
  pub below : v.connection ≤ v.last
  pub last : kept.last ≤ v.connection
  pub points : (due_counted v r).points ≡ length v.points
  pub unused : kept.used + length v.points ≤ length (contacts kept.told)

-- once the client has made a connection: the number under which lines are added is that of one, and no line has a greater one
pub record IsPlaced (n last : ℕ) (kept : Kept) : Type 0 where
  pub connection : IsConnection n
  pub below : n ≤ last
  pub last_line : kept.last ≤ n

-- a record, once what is due is added, keeps the features that the client holds and the acts that were reported
pub record Stands (b : Base) (acts : List (ℕ × Act)) (v : View) (r : Growth) : Type 0 where
  pub done : List Entry
  pub text : r.text ≡ b.text ++ text_of (map entry_line done)
  pub kept : Kept
  pub follow : Follow v.program.features b.kept (done ++ due v r) kept
  pub features : kept.features ≡ v.features
  pub told : kept.told ≡ acts
  pub held : (due_counted v r).features ≡ length v.features
  pub reach : (n : ℕ) → b.first ≤ n → v.last < n → kept.last ≤ n
  pub few : r.told ≤ length v.counted
  pub fits : kept.used ≤ length (contacts kept.told)
  pub most : v.last ≤ connection_most
  pub placed : 1 ≤ v.last → IsPlaced r.telling.connection v.last kept
  pub on : v.on ≡ true → IsOn v r kept

-- ---- lines are added

-- the record once what is due is added
abbrev pub all_told : View → Growth → Growth
all_told v r = record {
  telling = record { connection = r.telling.connection; counted = due_counted v r };
  told = length v.counted;
  text = r.text ++ text_of (map entry_line (due v r));
}

pub lines_joined : (text : List ℕ) (done more : List Entry) (old : List ℕ) → text ≡ old ++ text_of (map entry_line done)
    → text ++ text_of (map entry_line more) ≡ old ++ text_of (map entry_line (done ++ more))
lines_joined text done more old e =
    ap (λ (t : List ℕ). t ++ text_of (map entry_line more)) e
    ∙ (append_assoc old (text_of (map entry_line done)) (text_of (map entry_line more))
    ∙ ap (λ (t : List ℕ). old ++ t) (sym (lines_more done more)))

-- where no act is without its lines
record NoneDue (ws : List Wanted) (n : ℕ) (c : Counted) (l : List Act) : Type 0 where
  entries : entries_of ws n c l ≡ []
  counted : counted_after ws n c l ≡ c

none_due : (ws : List Wanted) (n : ℕ) (c : Counted) (l : List Act) → l ≡ [] → NoneDue ws n c l
none_due ws n c l e = record {
  entries = ap (λ (k : List Act). entries_of ws n c k) e;
  counted = ap (λ (k : List Act). counted_after ws n c k) e;
}

pub told_stands : (b : Base) (acts : List (ℕ × Act)) (v : View) (r : Growth) → Stands b acts v r → Stands b acts v (all_told v r)
told_stands b acts v r h =
    let none : NoneDue v.program.features r.telling.connection (due_counted v r) (due_acts v (all_told v r)) =
    none_due v.program.features r.telling.connection (due_counted v r) (due_acts v (all_told v r)) (drop-length v.counted) in
    record {
      done = h.done ++ due v r;
      text = lines_joined r.text h.done (due v r) b.text h.text;
      kept = h.kept;
      follow = subst (λ (l : List Entry). Follow v.program.features b.kept l h.kept)
          (sym (ap (λ (l : List Entry). (h.done ++ due v r) ++ l) (NoneDue.entries none) ∙ append-nil (h.done ++ due v r))) h.follow;
      features = h.features;
      told = h.told;
      held = ap (λ (c : Counted). c.features) (NoneDue.counted none) ∙ h.held;
      reach = h.reach;
      few = omega arith;
      fits = h.fits;
      most = h.most;
      placed = h.placed;
      on = λ on. let o = h.on on in record {
        number = o.number;
        connection = o.connection;
        below = o.below;
        last = o.last;
        points = ap (λ (c : Counted). c.points) (NoneDue.counted none) ∙ o.points;
        unused = o.unused;
      };
    }

-- ---- notes

-- the entries of notes follow what is kept, and keep the same
record NotesKept (ws : List Wanted) (n : ℕ) (kept : Kept) (notes : List Says) : Type 0 where
  new : Kept
  follow : Follow ws kept (noted n notes) new
  features : new.features ≡ kept.features
  told : new.told ≡ kept.told
  used : new.used ≡ kept.used
  last : new.last ≤ n

notes_kept : (ws : List Wanted) (n last : ℕ) (kept : Kept) (notes : List Says) → IsConnection n → kept.last ≤ n → AreNotes notes last
    → NotesKept ws n kept notes
notes_kept ws n last kept [] connection above h = record {
  new = kept;
  follow = refl;
  features = refl;
  told = refl;
  used = refl;
  last = above;
}
notes_kept ws n last kept ((note, text) ∷ notes) connection above h =
    let mid : Kept = with_noted kept n note text in
    let rest : NotesKept ws n mid notes = notes_kept ws n last mid notes connection (omega arith) h.2 in
    record {
      new = NotesKept.new rest;
      follow = (mid, ((connection, h.0), above, refl), NotesKept.follow rest);
      features = NotesKept.features rest;
      told = NotesKept.told rest;
      used = NotesKept.used rest;
      last = NotesKept.last rest;
    }

-- notes are added; what was due before is due after them
notes_stand : (b : Base) (acts : List (ℕ × Act)) (v : View) (r : Growth) (notes : List Says) → AreNotes notes v.last
    → Stands b acts v r → Stands b acts v (with_notes notes r)
notes_stand b acts v r [] are h = record {
  done = h.done;
  text = append-nil r.text ∙ h.text;
  kept = h.kept;
  follow = h.follow;
  features = h.features;
  told = h.told;
  held = h.held;
  reach = h.reach;
  few = h.few;
  fits = h.fits;
  most = h.most;
  placed = h.placed;
  on = λ on. let o = h.on on in record {
    number = o.number;
    connection = o.connection;
    below = o.below;
    last = o.last;
    points = o.points;
    unused = o.unused;
  };
}
notes_stand b acts v r ((note, text) ∷ notes) are h =
    let ws : List Wanted = v.program.features in
    let n : ℕ = r.telling.connection in
    let p : IsPlaced n v.last h.kept = h.placed are.1 in
    let cut : Parts ws h.done (due v r) b.kept h.kept = follow_parts ws h.done (due v r) b.kept h.kept h.follow in
    let grows : cut.mid.last ≤ h.kept.last = follow_last ws (due v r) cut.mid h.kept cut.behind in
    let last_line : h.kept.last ≤ n = p.last_line in
    let k : NotesKept ws n cut.mid ((note, text) ∷ notes) =
    notes_kept ws n v.last cut.mid ((note, text) ∷ notes) p.connection (omega (arith, grows, last_line)) are in
    let more : List Entry = noted n ((note, text) ∷ notes) in
    let l : Later ws n r.telling.counted (NotesKept.new k) h.kept (due_acts v r) =
    later ws n r.telling.counted cut.mid (NotesKept.new k) h.kept (due_acts v r) (NotesKept.features k) (NotesKept.told k)
    (NotesKept.used k) (NotesKept.last k) p.last_line cut.behind in
    let last : l.new.last ≤ n = l.last in
    let below : n ≤ v.last = p.below in
    let used : l.new.used ≡ h.kept.used = l.used in
    let count : length (contacts l.new.told) ≡ length (contacts h.kept.told) =
    ap (λ (x : List (ℕ × Act)). length (contacts x)) l.told in
    let fits : h.kept.used ≤ length (contacts h.kept.told) = h.fits in
    record {
      done = h.done ++ more;
      text = lines_joined r.text h.done more b.text h.text;
      kept = l.new;
      follow = follow_more ws (h.done ++ more) (due v r) b.kept (NotesKept.new k) l.new
          (follow_more ws h.done more b.kept cut.mid (NotesKept.new k) cut.front (NotesKept.follow k)) l.follow;
      features = l.features ∙ h.features;
      told = l.told ∙ h.told;
      held = h.held;
      reach = λ m first above. omega (arith, last, below, above);
      few = h.few;
      fits = omega (arith, used, count, fits);
      most = h.most;
      placed = λ some. record { connection = p.connection; below = p.below; last_line = last };
      on = λ on. let o = h.on on in
          let number : n ≡ v.connection = o.number in
          let unused : h.kept.used + length v.points ≤ length (contacts h.kept.told) = o.unused in
          record {
            number = o.number;
            connection = o.connection;
            below = o.below;
            last = omega (arith, last, number);
            points = o.points;
            unused = omega (arith, used, count, unused);
          };
    }

-- ---- a plan begins

-- the next view begins without points, and with all its counted acts told; the number of lines is that of its connection
record Begins (b : Base) (v w : View) (n told : ℕ) (kept : Kept) : Type 0 where
  program : w.program ≡ v.program
  features : w.features ≡ v.features
  points : w.points ≡ []
  all : told ≡ length w.counted
  reach : (m : ℕ) → b.first ≤ m → w.last < m → kept.last ≤ m
  most : w.last ≤ connection_most
  placed : 1 ≤ w.last → IsPlaced n w.last kept
  number : w.on ≡ true → n ≡ w.connection
  connection : w.on ≡ true → IsConnection w.connection
  below : w.on ≡ true → w.connection ≤ w.last
  last : w.on ≡ true → kept.last ≤ w.connection

begun_stands : (b : Base) (acts : List (ℕ × Act)) (v w : View) (r : Growth) (n told : ℕ) → (h : Stands b acts v r)
    → Begins b v w n told (Stands.kept h) → Stands b acts w (begun n told (length v.features) (all_told v r).text)
begun_stands b acts v w r n told h g =
    let c : Counted = record { features = length v.features; points = 0 } in
    let none : NoneDue w.program.features n c (drop told w.counted) =
    none_due w.program.features n c (drop told w.counted)
    (ap (λ (k : ℕ). drop k w.counted) (Begins.all g) ∙ drop-length w.counted) in
    let all : List Entry = h.done ++ due v r in
    let no_points : length w.points ≡ 0 = ap (λ (l : List Point). length l) (Begins.points g) in
    let fits : h.kept.used ≤ length (contacts h.kept.told) = h.fits in
    record {
      done = all;
      text = lines_joined r.text h.done (due v r) b.text h.text;
      kept = h.kept;
      follow = subst (λ (l : List Entry). Follow w.program.features b.kept l h.kept)
          (sym (ap (λ (l : List Entry). all ++ l) (NoneDue.entries none) ∙ append-nil all))
          (subst (λ (p : Meaning). Follow p.features b.kept all h.kept) (sym (Begins.program g)) h.follow);
      features = h.features ∙ sym (Begins.features g);
      told = h.told;
      held = ap (λ (k : Counted). k.features) (NoneDue.counted none) ∙ ap (λ (l : List Feature). length l) (sym (Begins.features g));
      reach = Begins.reach g;
      few = few_all (Begins.all g);
      fits = h.fits;
      most = Begins.most g;
      placed = Begins.placed g;
      on = λ on. record {
        number = Begins.number g on;
        connection = Begins.connection g on;
        below = Begins.below g on;
        last = Begins.last g on;
        points = ap (λ (k : Counted). k.points) (NoneDue.counted none) ∙ sym no_points;
        unused = omega (arith, no_points, fits);
      };
    }
  where
    few_all : told ≡ length w.counted → told ≤ length w.counted
    few_all e = omega (arith, e)

-- ---- a reply counts acts

-- what holds after a change that says these acts
abbrev StandsTo : Base → List (ℕ × Act) → View → View → Growth → Type 0
StandsTo b acts v w r = Stands b (acts ++ told_to v w) w r

same_stands : (b : Base) (acts : List (ℕ × Act)) (v w : View) (r : Growth) → w ≡ v → Stands b acts v r → StandsTo b acts v w r
same_stands b acts v w r same h = subst (λ (x : View). StandsTo b acts v x r) (sym same)
    (with_none (λ (l : List (ℕ × Act)). Stands b l v r) acts (told_to v v) (none_told v.connection v.counted) h)

-- the connection of what moves is that of the lines
abbrev moved_on : List Wanted → ℕ → Counted → Kept → List Act → List Feature → List Point → Type 0
moved_on ws n c kept more fs ps = Moves ws n c kept more fs ps

moves_stands : (b : Base) (acts : List (ℕ × Act)) (p : Meaning) (on : Bool) (last : ℕ) (y z : Tally) (more : List Act) (r : Growth)
    → on ≡ true → z.counted ≡ y.counted ++ more → z.connection ≡ y.connection → (h : Stands b acts (view_by p on last y) r)
    → Moves p.features r.telling.connection (due_counted (view_by p on last y) r) (Stands.kept h) more z.features z.points
    → Stands b (acts ++ numbered y.connection more) (view_by p on last z) r
moves_stands b acts p on last y z more r is counted number h m =
    let n : ℕ = r.telling.connection in
    let c : Counted = r.telling.counted in
    let o : IsOn (view_by p on last y) r h.kept = h.on is in
    let few : r.told ≤ length y.counted = h.few in
    let acts_are : drop r.told z.counted ≡ drop r.told y.counted ++ more =
    ap (λ (l : List Act). drop r.told l) counted ∙ drop-append-le r.told y.counted more h.few in
    let entries : entries_of p.features n c (drop r.told z.counted)
    ≡ entries_of p.features n c (drop r.told y.counted)
    ++ entries_of p.features n (counted_after p.features n c (drop r.told y.counted)) more =
    ap (λ (l : List Act). entries_of p.features n c l) acts_are ∙ entries_more p.features n c (drop r.told y.counted) more in
    let after : counted_after p.features n c (drop r.told z.counted)
    ≡ counted_after p.features n (counted_after p.features n c (drop r.told y.counted)) more =
    ap (λ (l : List Act). counted_after p.features n c l) acts_are ∙ after_more p.features n c (drop r.told y.counted) more in
    let old : List Entry = entries_of p.features n c (drop r.told y.counted) in
    let new : List Entry = entries_of p.features n (counted_after p.features n c (drop r.told y.counted)) more in
    let grown : length z.counted ≡ length y.counted + length more =
    ap (λ (l : List Act). length l) counted ∙ length-append y.counted more in
    let upto : m.new.last ≤ n = m.last in
    let numbers : n ≡ y.connection = o.number in
    let below : y.connection ≤ last = o.below in
    let room : m.new.used + length z.points ≤ length (contacts m.new.told) = m.unused in
    record {
      done = h.done;
      text = h.text;
      kept = m.new;
      follow = subst (λ (l : List Entry). Follow p.features b.kept l m.new)
          (append_assoc h.done old new ∙ ap (λ (l : List Entry). h.done ++ l) (sym entries))
          (follow_more p.features (h.done ++ old) new b.kept h.kept m.new h.follow m.follow);
      features = m.features;
      told = m.told ∙ (ap (λ (l : List (ℕ × Act)). l ++ numbered n more) h.told
          ∙ ap (λ (k : ℕ). acts ++ numbered k more) o.number);
      held = ap (λ (k : Counted). k.features) after ∙ m.held;
      reach = λ k first above. omega (arith, upto, numbers, below, above);
      few = omega (arith, few, grown);
      fits = omega (arith, room);
      most = h.most;
      placed = λ some. record {
        connection = subst IsConnection (sym o.number) o.connection;
        below = omega (arith, numbers, below);
        last_line = m.last;
      };
      on = λ on. record {
        number = o.number ∙ sym number;
        connection = subst IsConnection (sym number) o.connection;
        below = subst (λ (k : ℕ). k ≤ last) (sym number) o.below;
        last = omega (arith, upto, numbers, number);
        points = ap (λ (k : Counted). k.points) after ∙ m.points;
        unused = m.unused;
      };
    }

-- the tally in which a command is counted before its touch is measured
abbrev on_its_way : Kind → Option Datum → Planned → List Planned → Tally → Tally
on_its_way kind given q rest y = record y {
  session = y.session || begins_session kind;
  todo = passed_over (tells_homed kind given) rest;
  unsent = passed_over (tells_homed kind given) y.unsent;
  counted = y.counted ++ act_of q.does given;
  completed = suc y.completed;
}

-- acts with the number of a connection can be written
unnumbered : (n : ℕ) (acts : List Act) → AreWritten (numbered n acts) → AllByRecursion IsWrittenAct acts
unnumbered n [] h = tt
unnumbered n (a ∷ acts) h = (h.0, unnumbered n acts h.1)

-- what a tally keeps while acts are counted
record IsCounted (y z : Tally) (more : List Act) : Type 0 where
  acts : z.counted ≡ y.counted ++ more
  number : z.connection ≡ y.connection

told_more : (p : Meaning) (on : Bool) (last : ℕ) (y z : Tally) (more : List Act) → IsCounted y z more
    → told_to (view_by p on last y) (view_by p on last z) ≡ numbered y.connection more
told_more p on last y z more g =
    grows_told y z (record { more = more; acts = IsCounted.acts g; number = IsCounted.number g })

counted_stands : (b : Base) (acts : List (ℕ × Act)) (p : Meaning) (on : Bool) (last : ℕ) (y : Tally) (kind : Kind) (given : Option Datum)
    (q : Planned) (rest : List Planned) (r : Growth) → on ≡ true → AreAsked p.features → y.todo ≡ q ∷ rest
    → IsCounted y (counted_next p.features kind given (q ∷ rest) y) (act_of q.does given)
    → IsGoing (view_by p on last y) (contacts acts) → Stands b acts (view_by p on last y) r
    → AreWritten (told_to (view_by p on last y) (view_by p on last (counted_next p.features kind given (q ∷ rest) y)))
    → StandsTo b acts (view_by p on last y) (view_by p on last (counted_next p.features kind given (q ∷ rest) y)) r
counted_stands b acts p on last y kind given q rest r is asked todo g going h written =
    let mid : Tally = on_its_way kind given q rest y in
    let z : Tally = counted_next p.features kind given (q ∷ rest) y in
    let more : List Act = act_of q.does given in
    let o : IsOn (view_by p on last y) r h.kept = h.on is in
    let c : Counted = due_counted (view_by p on last y) r in
    let told : told_to (view_by p on last y) (view_by p on last z) ≡ numbered y.connection more = told_more p on last y z more g in
    let rests : Rests y.connection c h.kept y.features y.points = record {
      features = h.features;
      connection = o.connection;
      last = o.last;
      held = h.held;
      points = o.points;
      unused = o.unused;
    } in
    let moves : Moves p.features y.connection c h.kept more z.features z.points =
    measured_moves p.features q.does given mid c h.kept going.left (touches_in rest) asked
    (unnumbered y.connection more (subst AreWritten told written)) rests
    (subst (λ (l : List (ℕ × Act)). IsProgress p.features y.connection y.features y.points (contacts l) going.left) (sym h.told)
    going.progress)
    (ap touches_in (sym todo) ∙ going.touches) in
    subst (λ (l : List (ℕ × Act)). Stands b (acts ++ l) (view_by p on last z) r) (sym told)
    (moves_stands b acts p on last y z more r is (IsCounted.acts g) (IsCounted.number g) h
    (subst (λ (n : ℕ). Moves p.features n c h.kept more z.features z.points) (sym o.number) moves))

counted_is : (ws : List Wanted) (kind : Kind) (given : Option Datum) (q : Planned) (rest : List Planned) (y : Tally)
    → (counted_next ws kind given (q ∷ rest) y).connection ≡ y.connection
    → IsCounted y (counted_next ws kind given (q ∷ rest) y) (act_of q.does given)
counted_is ws kind given q rest y number = record {
  acts = Keeps.counted (measured_keeps ws q.does given (on_its_way kind given q rest y));
  number = number;
}

effect_stands : (b : Base) (acts : List (ℕ × Act)) (p : Meaning) (on : Bool) (last : ℕ) (y : Tally) (e : Effect) (r : Growth) → on ≡ true
    → AreAsked p.features → (tallied p.features e y).connection ≡ y.connection → IsGoing (view_by p on last y) (contacts acts)
    → Stands b acts (view_by p on last y) r → AreWritten (told_to (view_by p on last y) (view_by p on last (tallied p.features e y)))
    → StandsTo b acts (view_by p on last y) (view_by p on last (tallied p.features e y)) r
effect_stands b acts p on last y Effect.Quiet r is asked number going h written =
    same_stands b acts (view_by p on last y) (view_by p on last y) r refl h
effect_stands b acts p on last y Effect.Failure r is asked number going h written =
    same_stands b acts (view_by p on last y) (view_by p on last y) r refl h
effect_stands b acts p on last y (Effect.Count kind given) r is asked number going h written = go y.todo refl number written
  where
    go : (todo : List Planned) → y.todo ≡ todo → (counted_next p.features kind given todo y).connection ≡ y.connection
        → AreWritten (told_to (view_by p on last y) (view_by p on last (counted_next p.features kind given todo y)))
        → StandsTo b acts (view_by p on last y) (view_by p on last (counted_next p.features kind given todo y)) r
    go [] todo same acts_written = same_stands b acts (view_by p on last y) (view_by p on last y) r refl h
    go (q ∷ rest) todo same acts_written =
        counted_stands b acts p on last y kind given q rest r is asked todo (counted_is p.features kind given q rest y same) going h
        acts_written

-- what holds after a tally became another one, if the acts that it then says can be written
abbrev StandsAt : Base → List (ℕ × Act) → Meaning → Bool → ℕ → Growth → Tally → Tally → Type 0
StandsAt b acts p on last r y z = AreWritten (told_to (view_by p on last y) (view_by p on last z))
    → StandsTo b acts (view_by p on last y) (view_by p on last z) r

-- an expected reply
heard_stands : (b : Base) (acts : List (ℕ × Act)) (p : Meaning) (on : Bool) (last : ℕ) (old new : Table) (t : Tag) (m : Mark)
    (r : Growth)
    → on ≡ true → AreAsked p.features → heard p.features old t m ≡ fine new → IsGoing (view_by p on last old.tally) (contacts acts)
    → Stands b acts (view_by p on last old.tally) r → StandsAt b acts p on last r old.tally new.tally
heard_stands b acts p on last old new t m r is asked hears going h =
    let none : StandsAt b acts p on last r old.tally old.tally =
    λ written. same_stands b acts (view_by p on last old.tally) (view_by p on last old.tally) r refl h in
    let grows : Grows old.tally new.tally = heard_grows p.features old new t m hears in
    step_cases p.features old t m new (StandsAt b acts p on last r old.tally new.tally) hears
    (λ zero_tag same. subst (λ (x : Table). StandsAt b acts p on last r old.tally x.tally) same none)
    (λ n hs e sort here after. subst (λ (x : Table). StandsAt b acts p on last r old.tally x.tally) (sym after)
    (λ written. effect_stands b acts p on last old.tally e r is asked (ap (λ (x : Table). x.tally.connection) (sym after) ∙ grows.number)
    going h written))
    (λ n hs e sort other here after. subst (λ (x : Table). StandsAt b acts p on last r old.tally x.tally) (sym after) none)

read_stands : (b : Base) (acts : List (ℕ × Act)) (e : ClientEnd) (r : Growth) → e.client.on ≡ true → AreAsked e.client.program.features
    → IsGoing (view e.client) (contacts acts) → Stands b acts (view e.client) r
    → AreWritten (told_to (view e.client) (view (done_by ReadOne e).client))
    → StandsTo b acts (view e.client) (view (done_by ReadOne e).client) r
read_stands b acts e r on asked going h =
    read_all e.client (λ (d : Client). AreWritten (told_to (view e.client) (view d)) → StandsTo b acts (view e.client) (view d) r) (record {
      same = λ written. same_stands b acts (view e.client) (view e.client) r refl h;
      fault = λ cause written. same_stands b acts (view e.client) (view e.client) r refl h;
      reply = λ t m c s is. heard_stands b acts e.client.program e.client.on e.client.last e.client.table c t m r on asked is going h;
    }) (next_of e.input.rest)

-- ---- calls

read_on : (c : Client) → may_read c ≡ true → c.on ≡ true
read_on c e = (both c.on _ e).0

-- without an act more
quiet_stands : (b : Base) (acts : List (ℕ × Act)) (v w : View) (r : Growth) → told_to v w ≡ [] → Stands b acts w r
    → StandsTo b acts v w r
quiet_stands b acts v w r none h = with_none (λ (l : List (ℕ × Act)). Stands b l w r) acts (told_to v w) none h

connected_begins : (b : Base) (acts : List (ℕ × Act)) (n : ℕ) (c : Client) (r : Growth) → may_connect n c ≡ true → b.first ≤ n
    → (h : Stands b acts (view c) r) → Begins b (view c) (view (client_connected n c)) n 0 (Stands.kept h)
connected_begins b acts n c r may first h =
    let numbers = both (nat_lt c.last n) (nat_le n connection_most) (both (is_apart c.state) _ may).1 in
    let above : c.last < n = ltb-true c.last n numbers.0 in
    let most : n ≤ connection_most = leb-true n connection_most numbers.1 in
    record {
      program = refl;
      features = refl;
      points = refl;
      all = refl;
      reach = λ m least beyond. h.reach m least (omega (arith, above, beyond));
      most = most;
      placed = λ some. record {
        connection = (omega (arith, above), most);
        below = omega arith;
        last_line = h.reach n first above;
      };
      number = λ on. refl;
      connection = λ on. (omega (arith, above), most);
      below = λ on. omega arith;
      last = λ on. h.reach n first above;
    }

resumed_begins : (b : Base) (acts : List (ℕ × Act)) (e : ClientEnd) (r : Growth) → (h : Stands b acts (view e.client) r)
    → Begins b (view e.client) (view (done_by Resume e).client) r.telling.connection (length e.client.table.tally.counted) (Stands.kept h)
resumed_begins b acts e r h = record {
  program = refl;
  features = refl;
  points = refl;
  all = refl;
  reach = h.reach;
  most = h.most;
  placed = h.placed;
  number = λ on. IsOn.number (h.on on);
  connection = λ on. IsOn.connection (h.on on);
  below = λ on. IsOn.below (h.on on);
  last = λ on. IsOn.last (h.on on);
}

restarted_begins : (b : Base) (acts : List (ℕ × Act)) (k : ℕ) (e : ClientEnd) (r : Growth) → length e.client.table.tally.features ≤ k
    → (h : Stands b acts (view e.client) r)
    → Begins b (view e.client) (view (done_by (Restart k) e).client) e.client.last 0 (Stands.kept h)
restarted_begins b acts k e r all h = record {
  program = refl;
  features = take_all k e.client.table.tally.features all;
  points = refl;
  all = refl;
  reach = h.reach;
  most = h.most;
  placed = λ some. placed_last some (h.placed some);
  number = λ on. absurd (false≢true on);
  connection = λ on. absurd (false≢true on);
  below = λ on. absurd (false≢true on);
  last = λ on. absurd (false≢true on);
}
  where
    placed_last : 1 ≤ e.client.last → IsPlaced r.telling.connection e.client.last h.kept → IsPlaced e.client.last e.client.last h.kept
    placed_last some p =
        let below : r.telling.connection ≤ e.client.last = p.below in
        let last_line : h.kept.last ≤ r.telling.connection = p.last_line in
        record { connection = (some, h.most); below = omega arith; last_line = omega (arith, below, last_line) }

left_stands : (b : Base) (acts : List (ℕ × Act)) (e : ClientEnd) (r : Growth) → Stands b acts (view e.client) r
    → Stands b acts (view (done_by Leave e).client) r
left_stands b acts e r h = record {
  done = h.done;
  text = h.text;
  kept = h.kept;
  follow = h.follow;
  features = h.features;
  told = h.told;
  held = h.held;
  reach = h.reach;
  few = h.few;
  fits = h.fits;
  most = h.most;
  placed = h.placed;
  on = λ on. absurd (false≢true on);
}

done_stands : (b : Base) (acts : List (ℕ × Act)) (call : Call) (e : ClientEnd) (r : Growth) → possible call e ≡ true
    → AreAsked e.client.program.features → Fits b.first call e → Tells acts (view e.client) → Stands b acts (view e.client) r
    → AreWritten (told_to (view e.client) (view (done_by call e).client))
    → StandsTo b acts (view e.client) (view (done_by call e).client) (recorded_by call e r)
done_stands b acts (Connected n) e r may asked fit tells h written =
    quiet_stands b acts (view e.client) (view (client_connected n e.client)) (recorded_by (Connected n) e r)
    (none_anew n e.client.table.tally.counted)
    (begun_stands b acts (view e.client) (view (client_connected n e.client)) r n 0 h (connected_begins b acts n e.client r may fit h))
done_stands b acts Send e r may asked fit tells h written = same_stands b acts (view e.client) (view (done_by Send e).client) r
    (sends_view e.client e.client.table.tally.unsent (next_number Tag.Std e.client.table.standard e.client.drawn)) h
done_stands b acts (Feed bytes) e r may asked fit tells h written = same_stands b acts (view e.client) (view e.client) r refl h
done_stands b acts ReadOne e r may asked fit tells h written =
    read_stands b acts e r (read_on e.client may) asked (Tells.going tells (read_on e.client may)) h written
done_stands b acts Abort e r may asked fit tells h written = same_stands b acts (view e.client) (view (done_by Abort e).client) r
    (aborts_view e.client (next_number Tag.Event e.client.table.event e.client.event_drawn)) h
done_stands b acts Resume e r may asked fit tells h written =
    quiet_stands b acts (view e.client) (view (done_by Resume e).client) (recorded_by Resume e r)
    (none_told e.client.table.tally.connection e.client.table.tally.counted)
    (begun_stands b acts (view e.client) (view (done_by Resume e).client) r r.telling.connection (length e.client.table.tally.counted) h
    (resumed_begins b acts e r h))
done_stands b acts Leave e r may asked fit tells h written =
    quiet_stands b acts (view e.client) (view (done_by Leave e).client) r
    (none_told e.client.table.tally.connection e.client.table.tally.counted) (left_stands b acts e r h)
done_stands b acts (Restart k) e r may asked fit tells h written =
    let most : k ≤ length e.client.table.tally.features = leb-true k (length e.client.table.tally.features) may in
    let same : length e.client.table.tally.features ≡ k = omega (arith, most, fit) in
    quiet_stands b acts (view e.client) (view (done_by (Restart k) e).client) (recorded_by (Restart k) e r)
    (none_anew e.client.last e.client.table.tally.counted)
    (subst (λ (i : ℕ). Stands b acts (view (done_by (Restart k) e).client) (begun e.client.last 0 i (told_now e r).text)) same
    (begun_stands b acts (view e.client) (view (done_by (Restart k) e).client) r e.client.last 0 h (restarted_begins b acts k e r fit h)))
done_stands b acts (Sent k) e r may asked fit tells h written = same_stands b acts (view e.client) (view e.client) r refl h

call_stands : (b : Base) (acts : List (ℕ × Act)) (call : Call) (e : ClientEnd) (r : Growth) → AreAsked e.client.program.features
    → Fits b.first call e → Tells acts (view e.client) → Stands b acts (view e.client) r → AreWritten (told_by call e)
    → Stands b (acts ++ told_by call e) (view (behind_call call e).client) (cond (possible call e) (recorded_by call e r) r)
call_stands b acts call e r asked fit tells h written = go (possible call e) refl written
  where
    go : (x : Bool) → possible call e ≡ x → AreWritten (told_to (view e.client) (view (cond x (done_by call e) e).client))
        → StandsTo b acts (view e.client) (view (cond x (done_by call e) e).client) (cond x (recorded_by call e r) r)
    go true may acts_written = done_stands b acts call e r may asked fit tells h acts_written
    go false never acts_written = same_stands b acts (view e.client) (view e.client) r refl h

-- ---- moments, from a client that was never on a connection

-- calls led to it, and these acts were reported
pub record IsAt (p : Meaning) (kept : List Feature) (window : ℕ) (earlier acts : List (ℕ × Act)) (e : ClientEnd) : Type 0 where
  pub calls : List Call
  pub end_is : e ≡ behind_calls calls (new_client_end p kept window)
  pub acts_are : acts ≡ earlier ++ told_behind calls (new_client_end p kept window)

ends_more : (calls : List Call) (call : Call) (e : ClientEnd)
    → behind_calls (calls ++ call ∷ []) e ≡ behind_call call (behind_calls calls e)
ends_more [] call e = refl
ends_more (x ∷ calls) call e = ends_more calls call (behind_call x e)

told_last : (calls : List Call) (call : Call) (e : ClientEnd)
    → told_behind (calls ++ call ∷ []) e ≡ told_behind calls e ++ told_by call (behind_calls calls e)
told_last [] call e = append-nil (told_by call e)
told_last (x ∷ calls) call e = ap (λ (l : List (ℕ × Act)). told_by x e ++ l) (told_last calls call (behind_call x e))
    ∙ sym (append_assoc (told_by x e) (told_behind calls (behind_call x e)) (told_by call (behind_calls calls (behind_call x e))))

at_next : (p : Meaning) (kept : List Feature) (window : ℕ) (earlier acts : List (ℕ × Act)) (e : ClientEnd) (call : Call)
    → IsAt p kept window earlier acts e → IsAt p kept window earlier (acts ++ told_by call e) (behind_call call e)
at_next p kept window earlier acts e call h =
    let new : ClientEnd = new_client_end p kept window in
    let calls : List Call = h.calls in
    record {
      calls = calls ++ call ∷ [];
      end_is = ap (behind_call call) h.end_is ∙ sym (ends_more calls call new);
      acts_are = ap (λ (l : List (ℕ × Act)). l ++ told_by call e) h.acts_are
          ∙ (append_assoc earlier (told_behind calls new) (told_by call e)
          ∙ ap (λ (l : List (ℕ × Act)). earlier ++ l) (ap (λ (x : ClientEnd). told_behind calls new ++ told_by call x) h.end_is
          ∙ sym (told_last calls call new)));
    }

at_told : (p : Meaning) (kept : List Feature) (window : ℕ) (earlier acts : List (ℕ × Act)) (e : ClientEnd) → IsProgram p
    → Sound p.features kept earlier → IsAt p kept window earlier acts e → IsTold p acts e.client
at_told p kept window earlier acts e program sound h =
    subst (λ (x : ClientEnd). IsTold p acts x.client) (sym h.end_is)
    (subst (λ (l : List (ℕ × Act)). IsTold p l (client_behind h.calls p kept window)) (sym h.acts_are)
    (is_told p kept window h.calls earlier program sound))

-- acts that can be written, in two parts
written_front : (xs ys : List (ℕ × Act)) → AreWritten (xs ++ ys) → AreWritten xs
written_front [] ys h = tt
written_front (x ∷ xs) ys h = (h.0, written_front xs ys h.1)

written_behind : (xs ys : List (ℕ × Act)) → AreWritten (xs ++ ys) → AreWritten ys
written_behind [] ys h = h
written_behind (x ∷ xs) ys h = written_behind xs ys h.1

-- what is known of a client and its record after moments
pub record Reached (p : Meaning) (b : Base) (acts : List (ℕ × Act)) (e f : ClientEnd) (calls : List Call) (r : Growth) : Type 0 where
  pub end_is : f ≡ behind_calls calls e
  pub stands : Stands b (acts ++ told_behind calls e) (view f.client) r

pub moments_stand : (p : Meaning) (kept : List Feature) (window : ℕ) (earlier : List (ℕ × Act)) (b : Base) → IsProgram p
    → Sound p.features kept earlier → AreAsked p.features → (ms : List Moment) (acts : List (ℕ × Act)) (e : ClientEnd) (r : Growth)
    → IsAt p kept window earlier acts e → AreFit b.first ms e → AreWritten (told_behind (calls_in ms) e)
    → Stands b acts (view e.client) r
    → Reached p b acts e (behind_moments ms (record { end = e; recording = r })).end (calls_in ms)
    (behind_moments ms (record { end = e; recording = r })).recording
moments_stand p kept window earlier b program sound asked [] acts e r at fit written h = record {
  end_is = refl;
  stands = with_none (λ (l : List (ℕ × Act)). Stands b l (view e.client) r) acts [] refl h;
}
moments_stand p kept window earlier b program sound asked (Tell lacks notes ∷ ms) acts e r at fit written h =
    moments_stand p kept window earlier b program sound asked ms acts e (with_notes notes (told_unless lacks e r)) at fit.1 written
    (notes_stand b acts (view e.client) (told_unless lacks e r) notes fit.0 (unless lacks))
  where
    unless : (x : Bool) → Stands b acts (view e.client) (told_unless x e r)
    unless true = h
    unless false = told_stands b acts (view e.client) r h
moments_stand p kept window earlier b program sound asked (Calls call ∷ ms) acts e r at fit written h =
    let told : IsTold p acts e.client = at_told p kept window earlier acts e program sound at in
    let here : AreAsked e.client.program.features = subst (λ (q : Meaning). AreAsked q.features) (sym told.same) asked in
    let next : Stands b (acts ++ told_by call e) (view (behind_call call e).client) (cond (possible call e) (recorded_by call e r) r) =
    call_stands b acts call e r here fit.0 told.tells h
    (written_front (told_by call e) (told_behind (calls_in ms) (behind_call call e)) written) in
    let rest = moments_stand p kept window earlier b program sound asked ms (acts ++ told_by call e) (behind_call call e)
    (cond (possible call e) (recorded_by call e r) r) (at_next p kept window earlier acts e call at) fit.1
    (written_behind (told_by call e) (told_behind (calls_in ms) (behind_call call e)) written) next in
    record {
      end_is = rest.end_is;
      stands = subst (λ (l : List (ℕ × Act)). Stands b l
          (view (behind_moments ms (record {
            end = behind_call call e;
            recording = cond (possible call e) (recorded_by call e r) r;
          })).end.client) (behind_moments ms (record {
            end = behind_call call e;
            recording = cond (possible call e) (recorded_by call e r) r;
          })).recording)
          (append_assoc acts (told_by call e) (told_behind (calls_in ms) (behind_call call e))) rest.stands;
    }
