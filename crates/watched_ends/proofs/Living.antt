-- What is true of a session and of the outside, whatever was answered.
use Rattle.std.proofs.Common.{◌≡◌, ◌≢◌, ◌⊎◌, ℕ, List, [], ◌∷◌, ◌++◌, refl, ap, sym, ◌∙◌, subst, inl, inr, Bool, true, false, true≢false}
use Rattle.effects.specs.declared.vocabulary.Slot.{Slot}
use Rattle.effects.specs.declared.vocabulary.Slot.TheVariants.{Up, Down, Order}
use Rattle.effects.specs.Effects.{Ask, Open, Read, Print, Say, Exit, Where, Reply, Done, Bytes, End, Missing, Found, Nothing, At as Timed, Took, Failed, Short, Did}
use Rattle.watched_ends.specs.declared.recorded.Order.TheVariants as ordered
use Rattle.watched_ends.specs.declared.recorded.Order as the
use Rattle.watched_ends.specs.declared.stages.Stage.{Stage}
use Rattle.watched_ends.specs.declared.stages.Stage.TheVariants.{Opening, Reading, Noting, Printing, Saying, Telling, Exiting}
use Rattle.watched_ends.specs.Jobs.{IsAnswer}
use Rattle.watched_ends.specs.Sessions.{Called, State, start, asked, asked_at, place_of, name_of, cannot_read, cannot_write, out_of_memory, Says, Tells, Notes, IsShort, IsOpened, IsReadOn, IsEnded, IsFinished, IsDue, IsPrinted, AreNotes, After, Steps, Led, begun, more, with_piece}
use Rattle.watched_ends.specs.Outside.{Outside, untouched, asks, fails, opens, finds, reads, prints, answers, outside}
use Rattle.watched_ends.specs.Claims.{files, all_files, Reports, Prints, Kept, blamed, IsNotTheirs, IsLast, Comes, is_whole, is_failed, is_other, is_short}

-- the files that are opened by the time that one is, and those that were read by then
abbrev pub first_files : Slot → Called → List (Slot × Where)
first_files Up c = (Up, place_of Up c) ∷ []
first_files Down c = (Up, place_of Up c) ∷ (Down, place_of Down c) ∷ []
first_files Order c = files c

abbrev pub before : Slot → List Slot
before Up = []
before Down = Up ∷ []
before Order = Up ∷ Down ∷ []

-- a session has what was read, and nothing else was asked for
abbrev pub At : Slot → Called → State → Outside → Type 0
At slot c s o = (s.called ≡ c) × (s.up ≡ o.up) × (s.down ≡ o.down) × (s.order ≡ o.order) × (o.opened ≡ first_files slot c)
    × (o.ended ≡ before slot) × (o.printed ≡ []) × (o.said ≡ []) × (o.failed ≡ [])

-- notes are said
pub record IsNoted (c : Called) (s : State) (o : Outside) : Type 0 where
  pub order : the.Order
  pub reports : Reports c o s.text order s.status
  pub theirs : order ≢ ordered.NotTheirs
  pub notes_are : AreNotes c o.up o.down order s.said
  pub said : o.said ≡ s.said ∷ []
  pub printed : o.printed ≡ []
  pub failed : o.failed ≡ []

-- the text is printed
pub record IsShown (c : Called) (s : State) (o : Outside) : Type 0 where
  pub prints : Prints c o s.status
  pub said : o.said ≡ prints.notes ∷ []
  pub failed : o.failed ≡ []

abbrev pub Live : Stage → Called → State → Outside → Type 0
Live Opening c s o = At s.slot c s o
Live Reading c s o = At s.slot c s o
Live Noting c s o = IsNoted c s o
Live Printing c s o = IsShown c s o
Live Saying c s o = Comes c o s.status
Live Telling c s o = Comes c o s.status
Live Exiting c s o = Comes c o s.status

pub record Inv (c : Called) (s : State) (o : Outside) : Type 0 where
  pub kept : Kept c o
  pub live : Live s.stage c s o

-- the session that asks for this at a stage
settled : (c : Called) (t : State) (p : Outside) (st : Stage) (ask : Ask) → t.stage ≡ st → asked_at st t ≡ ask
    → Kept c (asks p ask) → Live st c t (asks p ask) → Inv c t (asks p (asked t))
settled c t p st ask e a k l =
    let is : asked t ≡ ask = ap (λ (x : Stage). asked_at x t) e ∙ a in
    subst (λ (x : Ask). Inv c t (asks p x)) (sym is)
    (record { kept = k; live = subst (λ (x : Stage). Live x c t (asks p ask)) (sym e) l })

-- nothing is printed yet
unprinted : (c : Called) (o : Outside) (slot : Slot) → o.opened ≡ first_files slot c → o.printed ≡ [] → Kept c o
unprinted c o Up e p = record { opened = ((Down, place_of Down c) ∷ (Order, place_of Order c) ∷ [], ap (λ (x : List (Slot × Where)). x ++ (Down, place_of Down c) ∷ (Order, place_of Order c) ∷ []) (sym e)); printed = inl p }
unprinted c o Down e p = record { opened = ((Order, place_of Order c) ∷ [], ap (λ (x : List (Slot × Where)). x ++ (Order, place_of Order c) ∷ []) (sym e)); printed = inl p }
unprinted c o Order e p = record { opened = ([], ap (λ (x : List (Slot × Where)). x ++ []) (sym e)); printed = inl p }

all_kept : (c : Called) (o : Outside) (n : ℕ) → Prints c o n → Kept c o
all_kept c o n p = record { opened = ([], ap (λ (x : List (Slot × Where)). x ++ []) (sym p.reports.opened)); printed = inr (n, p) }

-- one more thing is said
printed_said : (c : Called) (o : Outside) (m : List ℕ) (n : ℕ) → Prints c o n → Prints c (asks o (Say m)) n
printed_said c o m n p = record {
  text = p.text;
  order = p.order;
  notes = p.notes;
  reports = record { opened = p.reports.opened; ended = p.reports.ended; answer = p.reports.answer };
  theirs = p.theirs;
  notes_are = p.notes_are;
  noted = (p.noted.0 ++ m ∷ [], ap (λ (x : List (List ℕ)). x ++ m ∷ []) p.noted.1);
  printed = p.printed;
}

kept_said : (c : Called) (o : Outside) (m : List ℕ) → Kept c o → Kept c (asks o (Say m))
kept_said c o m k = record { opened = k.opened; printed = elim k.printed [ inl e ↦ inl e | inr p ↦ inr (p.0, printed_said c o m p.0 p.1) ] }

-- one more thing fails
printed_failed : (c : Called) (o : Outside) (ask : Ask) (n : ℕ) → Prints c o n → Prints c (fails o ask) n
printed_failed c o ask n p = record {
  text = p.text;
  order = p.order;
  notes = p.notes;
  reports = record { opened = p.reports.opened; ended = p.reports.ended; answer = p.reports.answer };
  theirs = p.theirs;
  notes_are = p.notes_are;
  noted = p.noted;
  printed = p.printed;
}

kept_failed : (c : Called) (o : Outside) (ask : Ask) → Kept c o → Kept c (fails o ask)
kept_failed c o ask k = record { opened = k.opened; printed = elim k.printed [ inl e ↦ inl e | inr p ↦ inr (p.0, printed_failed c o ask p.0 p.1) ] }

-- nothing was said, or notes were
abbrev pub Quiet : Called → Outside → Type 0
Quiet c o = (o.said ≡ []) ⊎ ((notes : List ℕ) × (order : the.Order) × AreNotes c o.up o.down order notes × (o.said ≡ notes ∷ []))

last_said : (c : Called) (o : Outside) (m : List ℕ) → Quiet c o → IsLast c (asks o (Say m)) m
last_said c o m (inl e) = inl (ap (λ (x : List (List ℕ)). x ++ m ∷ []) e)
last_said c o m (inr h) = inr (h.0, h.1, h.2, ap (λ (x : List (List ℕ)). x ++ m ∷ []) h.3)

-- it says why, and ends
says : (c : Called) (t : State) (p : Outside) (m : List ℕ) (n : ℕ) → Says m n t → Kept c p → Comes c (asks p (Say m)) n → Inv c t (asks p (asked t))
says c t p m n h k l = settled c t p Saying (Say m) h.stage (ap Say h.said) (kept_said c p m k) (subst (Comes c (asks p (Say m))) (sym h.status) l)

tells : (c : Called) (t : State) (p : Outside) (m : List ℕ) (n : ℕ) → Tells m n t → Kept c p → Comes c (asks p (Say m)) n → Inv c t (asks p (asked t))
tells c t p m n h k l = settled c t p Telling (Say m) h.stage (ap Say h.last) (kept_said c p m k) (subst (Comes c (asks p (Say m))) (sym h.status) l)

ends_short : (c : Called) (t : State) (p : Outside) → IsShort t → Kept c p → Quiet c p → Inv c t (asks p (asked t))
ends_short c t p h k q = tells c t p out_of_memory 4 h k (is_short (last_said c p out_of_memory q))

-- a file is blamed
blames : (c : Called) (t : State) (o : Outside) (ask : Ask) → Says (blamed c ask) 1 t → Kept c o → o.said ≡ [] → o.failed ≡ [] → Inv c t (asks (fails o ask) (asked t))
blames c t o ask h k s f = says c t (fails o ask) (blamed c ask) 1 h (kept_failed c o ask k)
    (is_failed ask (ap (λ (x : List Ask). x ++ ask ∷ []) f) (last_said c (fails o ask) (blamed c ask) (inl s)))

-- the answer to an open file: nothing changes, or it fails
opens_either : (P : Outside → Type 0) (o : Outside) (slot : Slot) (place : Where) (r : Reply) → P o → P (fails o (Open slot place)) → P (opens o slot place r)
opens_either P o slot place Done a b = a
opens_either P o slot place Short a b = a
opens_either P o Up place Missing a b = b
opens_either P o Down place Missing a b = b
opens_either P o Order place Missing a b = a
opens_either P o slot place (Bytes piece) a b = b
opens_either P o slot place End a b = b
opens_either P o slot place Found a b = b
opens_either P o slot place Nothing a b = b
opens_either P o slot place (Timed ms) a b = b
opens_either P o slot place (Took count) a b = b
opens_either P o slot place (Failed why) a b = b

-- a file was opened, or not
opening : (slot : Slot) (s t : State) (o : Outside) (r : Reply) → s.slot ≡ slot → At s.slot s.called s o → Kept s.called o → IsOpened slot s r t
    → Inv s.called t (asks (opens o slot (place_of slot s.called) r) (asked t))
opening slot s t o Done e a k h = subst (λ (x : State). Inv s.called x (asks o (asked x))) (sym h) (record { kept = k; live = a })
opening slot s t o Short e a k h = ends_short s.called t o h k (inl a.7)
opening Order s t o Missing e a k h = subst (λ (x : State). Inv s.called x (asks o (asked x))) (sym h) (record { kept = k; live = a })
opening Up s t o Missing e a k h = blames s.called t o (Open Up (place_of Up s.called)) h k a.7 a.8
opening Down s t o Missing e a k h = blames s.called t o (Open Down (place_of Down s.called)) h k a.7 a.8
opening slot s t o (Bytes piece) e a k h = blames s.called t o (Open slot (place_of slot s.called)) h k a.7 a.8
opening slot s t o End e a k h = blames s.called t o (Open slot (place_of slot s.called)) h k a.7 a.8
opening slot s t o Found e a k h = blames s.called t o (Open slot (place_of slot s.called)) h k a.7 a.8
opening slot s t o Nothing e a k h = blames s.called t o (Open slot (place_of slot s.called)) h k a.7 a.8
opening slot s t o (Timed ms) e a k h = blames s.called t o (Open slot (place_of slot s.called)) h k a.7 a.8
opening slot s t o (Took count) e a k h = blames s.called t o (Open slot (place_of slot s.called)) h k a.7 a.8
opening slot s t o (Failed why) e a k h = blames s.called t o (Open slot (place_of slot s.called)) h k a.7 a.8

-- bytes were read
keeping : (slot : Slot) (s t : State) (o : Outside) (piece : List ℕ) → s.stage ≡ Reading → s.slot ≡ slot → At slot s.called s o → t ≡ with_piece slot s piece
    → Inv s.called t (asks (finds o slot piece) (asked t))
keeping Up s t o piece st e a h = subst (λ (x : State). Inv s.called x (asks (finds o Up piece) (asked x))) (sym h)
    (settled s.called (with_piece Up s piece) (finds o Up piece) Reading (Read s.slot) st refl (unprinted s.called (finds o Up piece) Up a.4 a.6)
    (subst (λ (x : Slot). At x s.called (with_piece Up s piece) (finds o Up piece)) (sym e)
    (refl, ap (λ (x : List ℕ). x ++ piece) a.1, a.2, a.3, a.4, a.5, a.6, a.7, a.8)))
keeping Down s t o piece st e a h = subst (λ (x : State). Inv s.called x (asks (finds o Down piece) (asked x))) (sym h)
    (settled s.called (with_piece Down s piece) (finds o Down piece) Reading (Read s.slot) st refl (unprinted s.called (finds o Down piece) Down a.4 a.6)
    (subst (λ (x : Slot). At x s.called (with_piece Down s piece) (finds o Down piece)) (sym e)
    (refl, a.1, ap (λ (x : List ℕ). x ++ piece) a.2, a.3, a.4, a.5, a.6, a.7, a.8)))
keeping Order s t o piece st e a h = subst (λ (x : State). Inv s.called x (asks (finds o Order piece) (asked x))) (sym h)
    (settled s.called (with_piece Order s piece) (finds o Order piece) Reading (Read s.slot) st refl (unprinted s.called (finds o Order piece) Order a.4 a.6)
    (subst (λ (x : Slot). At x s.called (with_piece Order s piece) (finds o Order piece)) (sym e)
    (refl, a.1, a.2, ap (λ (x : List ℕ). x ++ piece) a.3, a.4, a.5, a.6, a.7, a.8)))

-- a recording was read to its end
next_file : (slot next : Slot) (s t : State) (o : Outside) → t ≡ record s { stage = Opening; slot = next } → At slot s.called s o
    → first_files slot s.called ++ (next, place_of next s.called) ∷ [] ≡ first_files next s.called → before slot ++ slot ∷ [] ≡ before next
    → Inv s.called t (asks (reads o slot End) (asked t))
next_file slot next s t o h a f b =
    let p : Outside = asks (reads o slot End) (Open next (place_of next s.called)) in
    let is : p.opened ≡ first_files next s.called = ap (λ (x : List (Slot × Where)). x ++ (next, place_of next s.called) ∷ []) a.4 ∙ f in
    subst (λ (x : State). Inv s.called x (asks (reads o slot End) (asked x))) (sym h) (record {
      kept = unprinted s.called p next is a.6;
      live = (refl, a.1, a.2, a.3, is, ap (λ (x : List Slot). x ++ slot ∷ []) a.5 ∙ b, a.6, a.7, a.8);
    })

abbrev are_theirs : the.Order → Bool
are_theirs ordered.NotTheirs = false
are_theirs ordered.Whole = true
are_theirs ordered.Part = true
are_theirs ordered.Unknown = true

-- notes are to be said
noting : (order : the.Order) (s t : State) (o : Outside) (notes text : List ℕ) (status : ℕ) → are_theirs order ≡ true → At Order s.called s o
    → IsAnswer s.called.job o.up o.down o.order text order status → AreNotes s.called o.up o.down order notes → Notes notes text status t
    → Inv s.called t (asks (reads o Order End) (asked t))
noting order s t o notes text status e a r n h =
    let p : Outside = asks (reads o Order End) (Say notes) in
    let ended : p.ended ≡ all_files = ap (λ (x : List Slot). x ++ Order ∷ []) a.5 in
    settled s.called t (reads o Order End) Noting (Say notes) h.stage (ap Say h.said) (unprinted s.called p Order a.4 a.6) (record {
      order = order;
      reports = record {
        opened = a.4;
        ended = ended;
        answer = subst (λ (x : List ℕ). IsAnswer s.called.job o.up o.down o.order x order t.status) (sym h.text)
            (subst (λ (x : ℕ). IsAnswer s.called.job o.up o.down o.order text order x) (sym h.status) r);
      };
      theirs = λ f. true≢false (sym e ∙ ap are_theirs f);
      notes_are = subst (AreNotes s.called o.up o.down order) (sym h.said) n;
      said = ap (λ (x : List (List ℕ)). x ++ notes ∷ []) a.7 ∙ ap (λ (x : List ℕ). x ∷ []) (sym h.said);
      printed = a.6;
      failed = a.8;
    })

-- all was read
due : (order : the.Order) (s t : State) (o : Outside) (notes text : List ℕ) (status : ℕ) → At Order s.called s o
    → IsAnswer s.called.job o.up o.down o.order text order status → AreNotes s.called o.up o.down order notes → IsDue order s.called notes text status t
    → Inv s.called t (asks (reads o Order End) (asked t))
due ordered.Whole s t o notes text status a r n h = noting ordered.Whole s t o notes text status refl a r n h
due ordered.Part s t o notes text status a r n h = noting ordered.Part s t o notes text status refl a r n h
due ordered.Unknown s t o notes text status a r n h = noting ordered.Unknown s t o notes text status refl a r n h
due ordered.NotTheirs s t o notes text status a r n h =
    let m : List ℕ = notes ++ cannot_read (name_of Order s.called) in
    let ended : o.ended ++ Order ∷ [] ≡ all_files = ap (λ (x : List Slot). x ++ Order ∷ []) a.5 in
    says s.called t (reads o Order End) m 1 h (unprinted s.called (reads o Order End) Order a.4 a.6)
    (is_other a.8 a.6 (record {
      text = text;
      notes = notes;
      status = status;
      reports = record { opened = a.4; ended = ended; answer = r };
      notes_are = n;
      said = ap (λ (x : List (List ℕ)). x ++ m ∷ []) a.7;
    }))

finished : (s t : State) (o : Outside) → At Order s.called s o → IsFinished s t → Inv s.called t (asks (reads o Order End) (asked t))
finished s t o a h = due h.known s t o h.notes h.text h.status a
    (subst (λ (x : List ℕ). IsAnswer s.called.job o.up o.down x h.text h.known h.status) a.3
    (subst (λ (x : List ℕ). IsAnswer s.called.job o.up x s.order h.text h.known h.status) a.2
    (subst (λ (x : List ℕ). IsAnswer s.called.job x s.down s.order h.text h.known h.status) a.1 h.answer)))
    (subst (λ (x : List ℕ). AreNotes s.called o.up x h.known h.notes) a.2
    (subst (λ (x : List ℕ). AreNotes s.called x s.down h.known h.notes) a.1 h.notes_are))
    h.due

-- a file was read on, or not
reading : (slot : Slot) (s t : State) (o : Outside) (r : Reply) → s.stage ≡ Reading → s.slot ≡ slot → At slot s.called s o → Kept s.called o
    → IsReadOn slot s r t → Inv s.called t (asks (reads o slot r) (asked t))
reading slot s t o (Bytes piece) st e a k h = keeping slot s t o piece st e a h
reading Up s t o End st e a k h = next_file Up Down s t o h a refl refl
reading Down s t o End st e a k h = next_file Down Order s t o h a refl refl
reading Order s t o End st e a k h = finished s t o a h
reading slot s t o Short st e a k h = ends_short s.called t o h k (inl a.7)
reading slot s t o Done st e a k h = blames s.called t o (Read slot) h k a.7 a.8
reading slot s t o Missing st e a k h = blames s.called t o (Read slot) h k a.7 a.8
reading slot s t o Found st e a k h = blames s.called t o (Read slot) h k a.7 a.8
reading slot s t o Nothing st e a k h = blames s.called t o (Read slot) h k a.7 a.8
reading slot s t o (Timed ms) st e a k h = blames s.called t o (Read slot) h k a.7 a.8
reading slot s t o (Took count) st e a k h = blames s.called t o (Read slot) h k a.7 a.8
reading slot s t o (Failed why) st e a k h = blames s.called t o (Read slot) h k a.7 a.8

-- the notes were said: the text is to be printed
noted : (c : Called) (s t : State) (o : Outside) → IsNoted c s o → t ≡ record s { stage = Printing } → Inv c t (asks o (asked t))
noted c s t o n h =
    let p : Outside = asks o (Print s.text) in
    let prints : Prints c p s.status = record {
      text = s.text;
      order = n.order;
      notes = s.said;
      reports = record { opened = n.reports.opened; ended = n.reports.ended; answer = n.reports.answer };
      theirs = n.theirs;
      notes_are = n.notes_are;
      noted = ([], n.said);
      printed = ap (λ (x : List (List ℕ)). x ++ s.text ∷ []) n.printed;
    } in
    subst (λ (x : State). Inv c x (asks o (asked x))) (sym h)
    (record { kept = all_kept c p s.status prints; live = record { prints = prints; said = n.said; failed = n.failed } })

quiet : (c : Called) (s : State) (o : Outside) → IsShown c s o → Quiet c o
quiet c s o n = inr (n.prints.notes, n.prints.order, n.prints.notes_are, n.said)

unwritten : (c : Called) (s t : State) (o : Outside) → IsShown c s o → Tells cannot_write 1 t → Inv c t (asks (fails o (Print s.text)) (asked t))
unwritten c s t o n h = tells c t (fails o (Print s.text)) cannot_write 1 h (kept_failed c o (Print s.text) (all_kept c o s.status n.prints))
    (is_failed (Print s.text) (ap (λ (x : List Ask). x ++ Print s.text ∷ []) n.failed) (last_said c (fails o (Print s.text)) cannot_write (quiet c s o n)))

-- the text was printed, or not
printing : (c : Called) (s t : State) (o : Outside) (r : Reply) → IsShown c s o → IsPrinted s r t → Inv c t (asks (prints o s.text r) (asked t))
printing c s t o Done n h = subst (λ (x : State). Inv c x (asks o (asked x))) (sym h)
    (record { kept = all_kept c o s.status n.prints; live = is_whole s.status n.prints n.failed n.said })
printing c s t o Short n h = ends_short c t o h (all_kept c o s.status n.prints) (quiet c s o n)
printing c s t o (Bytes piece) n h = unwritten c s t o n h
printing c s t o End n h = unwritten c s t o n h
printing c s t o Missing n h = unwritten c s t o n h
printing c s t o Found n h = unwritten c s t o n h
printing c s t o Nothing n h = unwritten c s t o n h
printing c s t o (Timed ms) n h = unwritten c s t o n h
printing c s t o (Took count) n h = unwritten c s t o n h
printing c s t o (Failed why) n h = unwritten c s t o n h

-- what is asked when memory runs out for an answer
abbrev IsQuiet : Called → Outside → Type 0
IsQuiet c p = Kept c p × Quiet c p

short_now : (c : Called) (t : State) (p : Outside) → IsShort t → IsQuiet c p → Inv c t (asks p (asked t))
short_now c t p h q = ends_short c t p h q.0 q.1

reads_quiet : (slot : Slot) (c : Called) (s : State) (o : Outside) (r : Reply) → At slot c s o → IsQuiet c (reads o slot r)
reads_quiet Up c s o (Bytes piece) a = (unprinted c (finds o Up piece) Up a.4 a.6, inl a.7)
reads_quiet Down c s o (Bytes piece) a = (unprinted c (finds o Down piece) Down a.4 a.6, inl a.7)
reads_quiet Order c s o (Bytes piece) a = (unprinted c (finds o Order piece) Order a.4 a.6, inl a.7)
reads_quiet slot c s o End a = (unprinted c (reads o slot End) slot a.4 a.6, inl a.7)
reads_quiet slot c s o Short a = (unprinted c o slot a.4 a.6, inl a.7)
reads_quiet slot c s o Done a = (unprinted c (fails o (Read slot)) slot a.4 a.6, inl a.7)
reads_quiet slot c s o Missing a = (unprinted c (fails o (Read slot)) slot a.4 a.6, inl a.7)
reads_quiet slot c s o Found a = (unprinted c (fails o (Read slot)) slot a.4 a.6, inl a.7)
reads_quiet slot c s o Nothing a = (unprinted c (fails o (Read slot)) slot a.4 a.6, inl a.7)
reads_quiet slot c s o (Timed ms) a = (unprinted c (fails o (Read slot)) slot a.4 a.6, inl a.7)
reads_quiet slot c s o (Took count) a = (unprinted c (fails o (Read slot)) slot a.4 a.6, inl a.7)
reads_quiet slot c s o (Failed why) a = (unprinted c (fails o (Read slot)) slot a.4 a.6, inl a.7)

prints_quiet : (c : Called) (s : State) (o : Outside) (r : Reply) → IsShown c s o → IsQuiet c (prints o s.text r)
prints_quiet c s o Done n = (all_kept c o s.status n.prints, quiet c s o n)
prints_quiet c s o Short n = (all_kept c o s.status n.prints, quiet c s o n)
prints_quiet c s o (Bytes piece) n = (kept_failed c o (Print s.text) (all_kept c o s.status n.prints), quiet c s o n)
prints_quiet c s o End n = (kept_failed c o (Print s.text) (all_kept c o s.status n.prints), quiet c s o n)
prints_quiet c s o Missing n = (kept_failed c o (Print s.text) (all_kept c o s.status n.prints), quiet c s o n)
prints_quiet c s o Found n = (kept_failed c o (Print s.text) (all_kept c o s.status n.prints), quiet c s o n)
prints_quiet c s o Nothing n = (kept_failed c o (Print s.text) (all_kept c o s.status n.prints), quiet c s o n)
prints_quiet c s o (Timed ms) n = (kept_failed c o (Print s.text) (all_kept c o s.status n.prints), quiet c s o n)
prints_quiet c s o (Took count) n = (kept_failed c o (Print s.text) (all_kept c o s.status n.prints), quiet c s o n)
prints_quiet c s o (Failed why) n = (kept_failed c o (Print s.text) (all_kept c o s.status n.prints), quiet c s o n)

over : (c : Called) (s t : State) (o : Outside) → Kept c o → Comes c o s.status → t ≡ record s { stage = Exiting } → Inv c t (asks o (asked t))
over c s t o k l h = subst (λ (x : State). Inv c x (asks o (asked x))) (sym h) (record { kept = k; live = l })

-- an answer
came : (st : Stage) (c : Called) (s t : State) (o : Outside) (r : Reply) → s.stage ≡ st → Kept c o → Live st c s o → After st s r t
    → Inv c t (asks (answers o (asked_at st s) r) (asked t))
came Opening c s t o r e k a h = subst
    (λ (d : Called). At s.slot d s o → Kept d o → Inv d t (asks (opens o s.slot (place_of s.slot s.called) r) (asked t))) a.0
    (λ b l. opening s.slot s t o r refl b l h) a k
came Reading c s t o r e k a h = subst
    (λ (d : Called). At s.slot d s o → Kept d o → Inv d t (asks (reads o s.slot r) (asked t))) a.0
    (λ b l. reading s.slot s t o r e refl b l h) a k
came Noting c s t o r e k n h = noted c s t o n h
came Printing c s t o r e k n h = printing c s t o r n h
came Saying c s t o r e k l h = over c s t o k l h
came Telling c s t o r e k l h = over c s t o k l h
came Exiting c s t o r e k l h = subst (λ (x : State). Inv c x (asks o (asked x))) (sym h) (settled c s o Exiting (Exit s.status) e refl k l)

-- an answer for which memory ran out
short_came : (st : Stage) (c : Called) (s t : State) (o : Outside) (r : Reply) → s.stage ≡ st → Kept c o → Live st c s o → After st s Short t
    → Inv c t (asks (answers o (asked_at st s) r) (asked t))
short_came Opening c s t o r e k a h = short_now c t (opens o s.slot (place_of s.slot s.called) r) h
    (opens_either (IsQuiet c) o s.slot (place_of s.slot s.called) r (k, inl a.7) (kept_failed c o (Open s.slot (place_of s.slot s.called)) k, inl a.7))
short_came Reading c s t o r e k a h = short_now c t (reads o s.slot r) h (reads_quiet s.slot c s o r a)
short_came Noting c s t o r e k n h = noted c s t o n h
short_came Printing c s t o r e k n h = short_now c t (prints o s.text r) h (prints_quiet c s o r n)
short_came Saying c s t o r e k l h = over c s t o k l h
short_came Telling c s t o r e k l h = over c s t o k l h
short_came Exiting c s t o r e k l h = subst (λ (x : State). Inv c x (asks o (asked x))) (sym h) (settled c s o Exiting (Exit s.status) e refl k l)

pub always : (c : Called) (past : List Did) (s : State) → Led c past s → Inv c s (asks (outside past) (asked s))
always c _ _ begun = record {
  kept = unprinted c (asks untouched (Open Up (place_of Up c))) Up refl refl;
  live = (refl, refl, refl, refl, refl, refl, refl, refl, refl);
}
always c _ _ (more past s t r l h) =
    let i : Inv c s (asks (outside past) (asked s)) = always c past s l in
    elim h [
      | inl a ↦ came s.stage c s t (asks (outside past) (asked s)) r refl i.kept i.live a
      | inr a ↦ short_came s.stage c s t (asks (outside past) (asked s)) r refl i.kept i.live a
    ]

abbrev is_exit : Ask → Bool
is_exit (Exit n) = true
is_exit ask = false

abbrev exit_status : Ask → ℕ
exit_status (Exit n) = n
exit_status _ = 0

pub kept : (c : Called) (past : List Did) (s : State) → Led c past s → Kept c (asks (outside past) (asked s))
kept c past s l = (always c past s l).kept

exit_at : (st : Stage) (c : Called) (s : State) (o : Outside) (status : ℕ) → asked_at st s ≡ Exit status → Live st c s (asks o (asked_at st s)) → Comes c o status
exit_at Exiting c s o status e l = subst (Comes c o) (ap exit_status e) l
exit_at Opening c s o status e l = absurd (true≢false (sym (ap is_exit e)))
exit_at Reading c s o status e l = absurd (true≢false (sym (ap is_exit e)))
exit_at Noting c s o status e l = absurd (true≢false (sym (ap is_exit e)))
exit_at Printing c s o status e l = absurd (true≢false (sym (ap is_exit e)))
exit_at Saying c s o status e l = absurd (true≢false (sym (ap is_exit e)))
exit_at Telling c s o status e l = absurd (true≢false (sym (ap is_exit e)))

pub comes : (c : Called) (past : List Did) (s : State) (status : ℕ) → Led c past s → asked s ≡ Exit status → Comes c (outside past) status
comes c past s status l e = exit_at s.stage c s (outside past) status e (always c past s l).live

last_at : (st : Stage) (s t : State) (r : Reply) (status : ℕ) → asked_at st s ≡ Exit status → After st s r t ⊎ After st s Short t → t ≡ s
last_at Exiting s t r status e (inl h) = h
last_at Exiting s t r status e (inr h) = h
last_at Opening s t r status e h = absurd (true≢false (sym (ap is_exit e)))
last_at Reading s t r status e h = absurd (true≢false (sym (ap is_exit e)))
last_at Noting s t r status e h = absurd (true≢false (sym (ap is_exit e)))
last_at Printing s t r status e h = absurd (true≢false (sym (ap is_exit e)))
last_at Saying s t r status e h = absurd (true≢false (sym (ap is_exit e)))
last_at Telling s t r status e h = absurd (true≢false (sym (ap is_exit e)))

pub last : (s t : State) (r : Reply) (status : ℕ) → asked s ≡ Exit status → Steps s r t → t ≡ s
last s t r status e h = last_at s.stage s t r status e h
