-- What a client's turn makes of its end.
use Rattle.link_world.proofs.Names.{[], ◌&&◌, ◌*◌, ◌++◌, ◌+◌, ◌<◌, ◌↔◌, ◌∙◌, ◌∷◌, ◌≡◌, ◌≢◌, ◌≤◌, AllOut, ap, append-nil, append_assoc, Appends}
use Rattle.link_world.proofs.Names.{Appends-nil, arith, Bool, Came, CameShort, ClientEnd, ClientFault, ClientMoved, ClientMovedWithin, ClientStopped}
use Rattle.link_world.proofs.Names.{ClientStoppedWithin, ClientTurn, Consumes, Consumes-nil, Consumes-trans, drop, due, end_fed, end_left, end_read}
use Rattle.link_world.proofs.Names.{end_sent, end_taken, Err, Event, false, false≢true, fed, fed_behind, found, Framing, FramingFault, Front}
use Rattle.link_world.proofs.Names.{front_read, GoesOn, HasRefused, IfErr, inl, inr, is_some, IsErr, IsErrAnd, IsFound, IsLineDue, IsLost}
use Rattle.link_world.proofs.Names.{IsPullFault, IsPushFault, IsReadRefused, IsRefused, IsSendRefused, IsTakeFault, IsTrue, left_by, length}
use Rattle.link_world.proofs.Names.{length-append, length-take-le, lines_read, List, may_read, new_server_end, next_lines, next_of, None, not}
use Rattle.link_world.proofs.Names.{of_client, Ok, Option, PumpFault, Pushed, Reading, ReadsOn, refl, Result, Sending, sends, Some, Stage, subst, sym}
use Rattle.link_world.proofs.Names.{take, take-append-le, Taking, true, World, Writing, ℕ}
use Rattle.protocol_model.specs.World.{is_any}
use Rattle.client_core.specs.Clients.{is_faulted}
use Rattle.link_world.specs.Pumps.{begins, has, reads, takes, writes}
use Rattle.link_world.specs.PumpParts.{IsReadFault}
use Rattle.link_world.proofs.EventsLeft.{left_of, less}

-- what holds of a fault holds of the result that has it
pub if_err : {A E : Type 0} (r : Result A E) (f : E) (Is : E → Type 0) → IsErr r → IsErrAnd r (λ e. e ≡ f) → Is f → IfErr r Is
if_err (Ok x) f Is e s h = tt
if_err (Err x) f Is e s h = subst Is (sym s) h

-- a test that has failed
pub not_there : (b : Bool) (There : Type 0) → (IsTrue b ↔ There) → b ≡ false → There → ⊥
not_there b There is never there = false≢true (sym never ∙ is.1 there)

-- ---- sending

-- a client together with a server that was never there
abbrev pub alone : ClientEnd → World
alone e = record { client = e; server = new_server_end []; links = []; written = [] }

pub sending_less : (a b : ClientEnd) → is_some (due a.client) ≡ true → b ≡ end_sent a
    → left_of Event.ClientSends (alone b) < left_of Event.ClientSends (alone a)
sending_less a b is same = subst (λ (e : ClientEnd). left_of Event.ClientSends (alone e) < left_of Event.ClientSends (alone a)) (sym same)
    (less Event.ClientSends (alone a) refl is)

pub goes_none : (stage : Stage) (read written : List ℕ) (e : ClientEnd) → GoesOn stage read written e e
goes_none stage read written e = λ least start t. t

pub sent_more : (a b c : ClientEnd) → GoesOn Sending [] [] a b → is_some (due b.client) ≡ true → c ≡ end_sent b
    → GoesOn Sending [] [] a c
sent_more a b c h is same = λ least start t.
    subst (λ (e : ClientEnd). ClientTurn least start Sending [] [] e) (sym same) (sends b (h least start t) is)

-- a client that refuses to send
pub send_goes : (a b c : ClientEnd) (why : ClientFault) → GoesOn Sending [] [] a b
    → IsSendRefused (is_some (due b.client)) b c (end_sent b) why → GoesOn Sending [] [] a c
send_goes a b c ClientFault.NotNow h r = subst (GoesOn Sending [] [] a) (sym r.0) h
send_goes a b c (ClientFault.Faulted cause) h (inl r) = subst (GoesOn Sending [] [] a) (sym r.1) h
send_goes a b c (ClientFault.Faulted cause) h (inr r) = sent_more a b c h r.0 r.1
send_goes a b c ClientFault.Memory h r = subst (GoesOn Sending [] [] a) (sym r) h

-- ---- where it stops

-- a refusal is a reason to stop
refused_why : (least bound read written held : ℕ) (left_now : Option (List ℕ)) (e : ClientEnd) (f : PumpFault ClientFault) → HasRefused e f
    → Rattle.link_world.specs.Pumps.ClientWhy least bound read written held left_now e f
refused_why least bound read written held left_now e PumpFault.ReadFailed r = absurd r
refused_why least bound read written held left_now e PumpFault.WriteFailed r = absurd r
refused_why least bound read written held left_now e PumpFault.Ended r = absurd r
refused_why least bound read written held left_now e PumpFault.TurnsSpent r = absurd r
refused_why least bound read written held left_now e (PumpFault.Core why) r = r
refused_why least bound read written held left_now e PumpFault.Memory r = tt

-- nothing is lost
pub none_lost : {F : Type 0} (f : PumpFault F) → IsLost f []
none_lost PumpFault.ReadFailed = refl
none_lost PumpFault.WriteFailed = refl
none_lost PumpFault.Ended = refl
none_lost PumpFault.TurnsSpent = refl
none_lost (PumpFault.Core why) = refl
none_lost PumpFault.Memory = tt

-- ---- how many lines were read

-- whether no line is read at a stage or before it
abbrev pub is_unread : Stage → Bool
is_unread Sending = true
is_unread Writing = true
is_unread Taking = true
is_unread _ = false

pub none_read : (least : ℕ) (start : ClientEnd) (stage : Stage) (read written : List ℕ) (e : ClientEnd)
    (t : ClientTurn least start stage read written e) → is_unread stage ≡ true → lines_read t ≡ 0
none_read least start _ _ _ _ begins is = refl
none_read least start _ _ _ _ (sends e t due) is = none_read least start Sending [] [] e t refl
none_read least start _ _ _ _ (writes e count t none within) is = none_read least start Sending [] [] e t refl
none_read least start _ _ _ _ (takes e read written t out may) is = none_read least start Writing [] written e t refl
none_read least start _ _ _ _ (has e read written t enough) is = absurd (false≢true is)
none_read least start _ _ _ _ (reads e read written t may any) is = absurd (false≢true is)

-- a turn that has stopped before it read lines
pub unread_within : (bound calls calls_now least : ℕ) (old new : ClientEnd) (left left_now taken taken_now : Option (List ℕ))
    (f : PumpFault ClientFault) (s : ClientStopped least bound old new left left_now taken taken_now f) → is_unread s.stage ≡ true
    → calls_now ≤ calls + bound → ClientStoppedWithin bound calls calls_now least old new left left_now taken taken_now f
unread_within bound calls calls_now least old new left left_now taken taken_now f s is most = record {
  front = s;
  within = let none = none_read least old s.stage s.read s.written s.last (s.turn) is in omega (arith, most, none);
}

-- the calls of a port in addition to those that were counted
pub stopped_beside : (more bound calls calls_now least : ℕ) (old new : ClientEnd) (left left_now taken taken_now : Option (List ℕ))
    (f : PumpFault ClientFault) → ClientStoppedWithin bound calls calls_now least old new left left_now taken taken_now f
    → ClientStoppedWithin bound (more + calls) (more + calls_now) least old new left left_now taken taken_now f
stopped_beside more bound calls calls_now least old new left left_now taken taken_now f s = record {
  front = s.front;
  within = let before = s.within in omega (arith, before);
}

-- while it sends
pub stops_sending : (a b : ClientEnd) (f : PumpFault ClientFault) (least bound calls calls_now : ℕ) (left taken : Option (List ℕ))
    → GoesOn Sending [] [] a b → HasRefused b f → calls_now ≤ calls + bound
    → ClientStoppedWithin bound calls calls_now least a (end_left b) left left taken taken f
stops_sending a b f least bound calls calls_now left taken h r most = unread_within bound calls calls_now least a (end_left b) left left
    taken taken f (record {
      stage = Sending;
      read = [];
      written = [];
      lost = [];
      last = b;
      turn = h least a begins;
      leaves = refl;
      consumed = Consumes-nil left;
      is_lost = none_lost f;
      appended = Appends-nil taken;
      why = refused_why least bound 0 0 (length a.input.rest) left b f r;
    }) refl most

push_why : (least bound read held n m : ℕ) (left_now : Option (List ℕ)) (e : ClientEnd) (f : PumpFault ClientFault) → m ≡ n
    → IsPushFault bound n f → Rattle.link_world.specs.Pumps.ClientWhy least bound read m held left_now e f
push_why least bound read held n m left_now e PumpFault.ReadFailed same r = absurd r
push_why least bound read held n m left_now e PumpFault.WriteFailed same r = tt
push_why least bound read held n m left_now e PumpFault.Ended same r = absurd r
push_why least bound read held n m left_now e PumpFault.TurnsSpent same r = omega (arith, r, same)
push_why least bound read held n m left_now e (PumpFault.Core why) same r = absurd r
push_why least bound read held n m left_now e PumpFault.Memory same r = absurd r

-- while what it has written goes out
pub stops_writing : (a b : ClientEnd) (f : PumpFault ClientFault) (least bound calls calls_now : ℕ)
    (left taken taken_now : Option (List ℕ)) (bytes : List ℕ) → GoesOn Sending [] [] a b → due b.client ≡ None → bytes ≡ b.out
    → Pushed bytes taken taken_now bound f → calls_now ≤ calls + bound
    → ClientStoppedWithin bound calls calls_now least a (end_left b) left left taken taken_now f
stops_writing a b f least bound calls calls_now left taken taken_now bytes h none are pushed most =
    let p : Pushed b.out taken taken_now bound f = subst (λ (xs : List ℕ). Pushed xs taken taken_now bound f) are pushed in
    unread_within bound calls calls_now least a (end_left b) left left taken taken_now f (record {
      stage = Writing;
      read = [];
      written = take p.count b.out;
      lost = [];
      last = end_taken p.count b;
      turn = writes b p.count (h least a begins) none p.within;
      leaves = refl;
      consumed = Consumes-nil left;
      is_lost = none_lost f;
      appended = p.appended;
      why = push_why least bound 0 (length a.input.rest) p.count (length (take p.count b.out)) left (end_taken p.count b) f
          (length-take-le p.count b.out p.within) p.why;
    }) refl most

-- ---- all is out

pub all_out : (a b c : ClientEnd) (taken taken_now : Option (List ℕ)) (bound left count : ℕ) (bytes : List ℕ)
    → GoesOn Sending [] [] a b → due b.client ≡ None → b.input ≡ a.input → bytes ≡ b.out → count ≡ length b.out → c ≡ end_taken count b
    → Appends taken taken_now bytes → bound ≤ left + length bytes → AllOut a c taken taken_now bound left count
all_out a b c taken taken_now bound left count bytes h none held are is same appended counted = record {
  written = b.out;
  turn = λ least.
      subst (λ (e : ClientEnd). ClientTurn least a Writing [] b.out e) (sym same)
      (subst (λ (bytes : List ℕ). ClientTurn least a Writing [] bytes (end_taken count b)) (whole count b.out is)
      (writes b count (h least a begins) none (omega (arith, is))));
  out = ap (λ (e : ClientEnd). e.out) same ∙ nothing count b.out is;
  held = ap (λ (e : ClientEnd). e.input) same ∙ held;
  appended = subst (Appends taken taken_now) are appended;
  counted = subst (λ (xs : List ℕ). bound ≤ left + length xs) are counted;
  count_is = is;
}
  where
    whole : (n : ℕ) (bytes : List ℕ) → n ≡ length bytes → take n bytes ≡ bytes
    whole n [] is = ap (λ (k : ℕ). take k []) is
    whole n (x ∷ xs) is = ap (λ (k : ℕ). take k (x ∷ xs)) is ∙ ap (λ (ys : List ℕ). x ∷ ys) (whole (length xs) xs refl)

    nothing : (n : ℕ) (bytes : List ℕ) → n ≡ length bytes → drop n bytes ≡ []
    nothing n [] is = ap (λ (k : ℕ). drop k []) is
    nothing n (x ∷ xs) is = ap (λ (k : ℕ). drop k (x ∷ xs)) is ∙ nothing (length xs) xs refl

-- ---- bytes come

pub fed_twice : (f : Option FramingFault) (rest xs ys : List ℕ) → fed (fed_behind f rest xs) ys ≡ fed_behind f rest (xs ++ ys)
fed_twice None rest xs ys = ap (λ (l : List ℕ). record { rest = l; fault = None }) (append_assoc rest xs ys)
fed_twice (Some f) rest xs ys = refl

pub fed_nothing : (f : Option FramingFault) (rest : List ℕ) → fed_behind f rest [] ≡ record { rest = rest; fault = f }
fed_nothing None rest = ap (λ (l : List ℕ). record { rest = l; fault = None }) (append-nil rest)
fed_nothing (Some f) rest = refl

pub fed_none : (e : ClientEnd) → end_fed [] e ≡ e
fed_none e = ap (λ (f : Framing). record e { input = f }) (fed_nothing e.input.fault e.input.rest)

pub came_none : (e : ClientEnd) (left : Option (List ℕ)) (budget : ℕ) → Came e e left left budget budget 0
came_none e left budget = record {
  read = [];
  fed = sym (fed_none e);
  consumed = Consumes-nil left;
  counted = omega arith;
  count_is = refl;
}

pub came_more : (a b c : ClientEnd) (left mid left_now : Option (List ℕ)) (budget now then count more : ℕ) (piece tail : List ℕ)
    → Came a b left mid budget now count → Consumes mid left_now (take more piece) → c ≡ end_fed (take more (piece ++ tail)) b
    → now ≡ then + 1 → 0 < more → more ≤ length piece → Came a c left left_now budget then (count + more)
came_more a b c left mid left_now budget now then count more piece tail h consumed same step some within =
    let is : length (take more piece) ≡ more = length-take-le more piece within in
    let total = length-append h.read (take more piece) in
    let before = h.counted in
    let counted = h.count_is in record {
      read = h.read ++ take more piece;
      fed = same ∙ (ap (λ (xs : List ℕ). end_fed xs b) (take-append-le more piece tail within) ∙ (ap (end_fed (take more piece)) h.fed
          ∙ ap (λ (f : Framing). record a { input = f }) (fed_twice a.input.fault a.input.rest h.read (take more piece))));
      consumed = Consumes-trans left mid left_now h.read (take more piece) h.consumed consumed;
      counted = omega (arith, before, step, some, is, total);
      count_is = omega (arith, counted, is, total);
    }

pull_lost : (f : PumpFault ClientFault) (now : ℕ) (left_now : Option (List ℕ)) → IsPullFault now left_now f → IsLost f []
pull_lost f now left_now r = none_lost f

pub pull_why : {F : Type 0} (least budget now count m : ℕ) (left_now : Option (List ℕ)) (f : PumpFault F) → budget ≤ now + m → count ≡ m
    → count < least → IsPullFault now left_now f → IsTakeFault least budget m left_now f
pull_why least budget now count m left_now PumpFault.ReadFailed most is few r = tt
pull_why least budget now count m left_now PumpFault.WriteFailed most is few r = absurd r
pull_why least budget now count m left_now PumpFault.Ended most is few r = (omega (arith, is, few), r)
pull_why least budget now count m left_now PumpFault.TurnsSpent most is few r = omega (arith, most, r)
pull_why least budget now count m left_now (PumpFault.Core why) most is few r = absurd r
pull_why least budget now count m left_now PumpFault.Memory most is few r = absurd r

-- no piece was pulled
pub pulls_none : (a b : ClientEnd) (left mid left_now : Option (List ℕ)) (least budget now count : ℕ) (f : PumpFault ClientFault)
    → Came a b left mid budget now count → Consumes mid left_now [] → count < least → IsPullFault now left_now f
    → CameShort least a b left left_now budget f
pulls_none a b left mid left_now least budget now count f h consumed few r = record {
  read = h.read;
  lost = [];
  fed = h.fed;
  consumed = Consumes-trans left mid left_now h.read [] h.consumed consumed;
  is_lost = pull_lost f now left_now r;
  why = pull_why least budget now count (length h.read) left_now f h.counted h.count_is few r;
}

may_stay : (e : ClientEnd) (on faulted : Bool) → (on && not faulted) ≡ true → faulted ≡ true → ⊥
may_stay e true true may is = false≢true may
may_stay e true false may is = false≢true is
may_stay e false faulted may is = false≢true may

-- a piece was pulled, and could not be fed
pub feeds_none : (a b c : ClientEnd) (left mid left_now : Option (List ℕ)) (least budget now count : ℕ) (bytes : List ℕ) (why : ClientFault)
    → Came a b left mid budget now count → Consumes mid left_now bytes → may_read a.client ≡ true → c ≡ b
    → IsRefused (may_read b.client) b why → CameShort least a c left left_now budget (of_client why)
feeds_none a b c left mid left_now least budget now count bytes ClientFault.NotNow h consumed may same r =
    absurd (false≢true (sym r.1 ∙ (ap (λ (e : ClientEnd). may_read e.client) h.fed ∙ may)))
feeds_none a b c left mid left_now least budget now count bytes (ClientFault.Faulted cause) h consumed may same r =
    absurd (may_stay b b.client.on (is_faulted b.client.state) (ap (λ (e : ClientEnd). may_read e.client) h.fed ∙ may) r.0)
feeds_none a b c left mid left_now least budget now count bytes ClientFault.Memory h consumed may same r = record {
  read = h.read;
  lost = bytes;
  fed = same ∙ h.fed;
  consumed = Consumes-trans left mid left_now h.read bytes h.consumed consumed;
  is_lost = tt;
  why = tt;
}

-- ---- lines are read

-- lines are read, each of two bytes or more
pub record LinesRead (a b : ClientEnd) (budget now : ℕ) : Type 0 where
  pub goes : ReadsOn budget now a b
  pub counted : 2 * budget + length b.input.rest ≤ 2 * now + length a.input.rest

pub lines_none : (e : ClientEnd) (budget : ℕ) → LinesRead e e budget budget
lines_none e budget = record { goes = λ least start read written t. (t, omega arith); counted = omega arith }

pub one_line : (f : Front) → next_lines f ≤ 1
one_line (Ok None) = omega arith
one_line (Ok (Some found)) = omega arith
one_line (Err why) = omega arith

pub no_line : (f : Front) → (IsLineDue f → ⊥) → next_lines f ≡ 0
no_line (Ok None) none = refl
no_line (Ok (Some found)) none = absurd (none refl)
no_line (Err why) none = refl

read_goes : (a b c : ClientEnd) (budget now then : ℕ) → ReadsOn budget now a b → then + next_lines (next_of b.input.rest) ≤ now
    → may_read b.client ≡ true → is_any (next_of b.input.rest) ≡ true
    → (c ≡ end_read b) → ReadsOn budget then a c
read_goes a b c budget now then h step may is same = λ least start read written t.
    let p : (f : ClientTurn least start Reading read written b) × (now + lines_read f ≤ budget + lines_read t) =
    h least start read written t in
    let before = p.1 in
    subst (λ (e : ClientEnd). (f : ClientTurn least start Reading read written e)
    × (then + lines_read f ≤ budget + lines_read t)) (sym (same))
    (reads b read written p.0 may is, omega (arith, before, step))

any_line : (f : Front) → IsLineDue f → is_any f ≡ true
any_line (Ok None) line = absurd (false≢true line)
any_line (Ok (Some found)) line = refl
any_line (Err why) line = refl

pub two_less : (input : Framing) (f : Front) → next_of input.rest ≡ f → IsLineDue f → length (left_by f input).rest + 2 ≤ length input.rest
two_less input (Ok None) is line = absurd (false≢true line)
two_less input (Ok (Some (line, rest))) is there =
    let f : IsFound input.rest line rest = found input.rest line rest is in
    let count = ap length f.parts ∙ length-append line (13 ∷ 10 ∷ rest) in omega (arith, count)
two_less input (Err why) is line = absurd line

pub lines_more : (a b c : ClientEnd) (budget now then : ℕ) → LinesRead a b budget now → now ≡ then + 1 → may_read b.client ≡ true
    → IsLineDue (next_of b.input.rest) → (c ≡ end_read b) → LinesRead a c budget then
lines_more a b c budget now then h step may is same =
    let less : length c.input.rest + 2 ≤ length b.input.rest =
    subst (λ (e : ClientEnd). length e.input.rest + 2 ≤ length b.input.rest) (sym (same))
    (two_less b.input (next_of b.input.rest) refl is) in
    let before = h.counted in
    let one = one_line (next_of b.input.rest) in record {
      goes = read_goes a b c budget now then h.goes (omega (arith, one, step)) may (any_line (next_of b.input.rest) is) same;
      counted = omega (arith, before, less, step);
    }

-- no whole line is left, and nothing has changed
pub record NothingLeft (b c : ClientEnd) : Type 0 where
  pub same : c ≡ b
  pub none : next_of c.input.rest ≡ Ok None

pub lines_end : (b c : ClientEnd) → (IsLineDue (next_of b.input.rest) → ⊥) → is_faulted c.client.state ≡ false
    → (c ≡ end_read b) → NothingLeft b c
lines_end b c none fine same = go (next_of b.input.rest) refl
  where
    is : c ≡ end_read b
    is = same

    met : (f : Front) → next_of b.input.rest ≡ f
        → is_faulted (front_read b.client f).state ≡ false
    met f e = subst (λ (x : Front). is_faulted (front_read b.client x).state ≡ false) e
        (subst (λ (x : ClientEnd). is_faulted x.client.state ≡ false) is fine)

    go : (f : Front) → next_of b.input.rest ≡ f → NothingLeft b c
    go (Ok None) e =
        let unchanged : c ≡ b = is ∙ ap (λ (x : Front). record {
          client = front_read b.client x;
          input = left_by x b.input;
          out = b.out;
        }) e in
        record { same = unchanged; none = ap (λ (x : ClientEnd). next_of x.input.rest) unchanged ∙ e }
    go (Ok (Some found)) e = absurd (none (subst IsLineDue (sym e) refl))
    go (Err FramingFault.LineTooLong) e = absurd (false≢true (sym (met (Err FramingFault.LineTooLong) e)))
    go (Err FramingFault.BadByte) e = absurd (false≢true (sym (met (Err FramingFault.BadByte) e)))

-- no more lines are read
pub record LinesStop (a c : ClientEnd) (budget now held : ℕ) (f : PumpFault ClientFault) : Type 0 where
  pub goes : ReadsOn budget now a c
  pub why : IsReadFault budget held c f

-- what is left of a budget may be less
pub spends_more : (a b : ClientEnd) (budget now then : ℕ) → ReadsOn budget now a b → then ≤ now → ReadsOn budget then a b
spends_more a b budget now then h less = λ least start read written t.
    let p : (f : ClientTurn least start Reading read written b) × (now + lines_read f ≤ budget + lines_read t) =
    h least start read written t in
    let before = p.1 in (p.0, omega (arith, before, less))

pub stays : (a b c : ClientEnd) (budget now then : ℕ) → ReadsOn budget now a b → then ≤ now → c ≡ b → ReadsOn budget then a c
stays a b c budget now then h less same = subst (ReadsOn budget then a) (sym same) (spends_more a b budget now then h less)

off_reads : (e : ClientEnd) → e.client.on ≡ false → may_read e.client ≡ false
off_reads e off = ap (λ (b : Bool). b && not (is_faulted e.client.state)) off

pub read_stops : (a b c : ClientEnd) (why : ClientFault) (budget now then held : ℕ) → ReadsOn budget now a b
    → then + next_lines (next_of b.input.rest) ≤ now → IsReadRefused b c why
    → (why ≢ ClientFault.Memory → may_read b.client ≡ true → c ≡ end_read b)
    → (may_read b.client ≡ false → c ≡ b) → LinesStop a c budget then held (of_client why)
read_stops a b c ClientFault.NotNow budget now then held h step r is before = record {
  goes = stays a b c budget now then h (omega (arith, step)) r.0;
  why = (
    subst (λ (e : ClientEnd). is_faulted e.client.state ≡ false) (sym r.0) r.2,
    subst (λ (e : ClientEnd). may_read e.client ≡ false) (sym r.0) (off_reads b r.1),
  );
}
read_stops a b c (ClientFault.Faulted cause) budget now then held h step r is before =
    record { goes = go (may_read b.client) refl; why = (r.0, r.1) }
  where
    met : may_read b.client ≡ true → c ≡ end_read b
    met = is (λ (e : ClientFault.Faulted cause ≡ ClientFault.Memory). cc)

    front : (f : Front) → next_of b.input.rest ≡ f → may_read b.client ≡ true → ReadsOn budget then a c
    front (Ok None) e may =
        let unchanged : c ≡ b = met may ∙ ap (λ (x : Front). record {
          client = front_read b.client x;
          input = left_by x b.input;
          out = b.out;
        }) e in
        absurd (may_stay b b.client.on (is_faulted b.client.state) may
        (subst (λ (x : ClientEnd). is_faulted x.client.state ≡ true) unchanged r.0))
    front (Ok (Some found)) e may = read_goes a b c budget now then h step may (ap is_any e) (met may)
    front (Err why) e may = read_goes a b c budget now then h step may (ap is_any e) (met may)

    go : (m : Bool) → may_read b.client ≡ m → ReadsOn budget then a c
    go true may = front (next_of b.input.rest) refl may
    go false never = stays a b c budget now then h (omega (arith, step)) (before never)
read_stops a b c ClientFault.Memory budget now then held h step r is before =
    record { goes = stays a b c budget now then h (omega (arith, step)) r; why = tt }

pub lines_spent : (a b : ClientEnd) (budget now : ℕ) → LinesRead a b budget now → now ≡ 0
    → LinesStop a b budget now (length a.input.rest) PumpFault.TurnsSpent
lines_spent a b budget now h none = let counted = h.counted in record { goes = h.goes; why = omega (arith, counted, none) }

-- ---- the whole turn

-- the client refuses to read
pub stops_asking : (a b c : ClientEnd) (why : ClientFault) (least bound calls calls_now mid count : ℕ)
    (left taken taken_now : Option (List ℕ)) → AllOut a b taken taken_now bound mid count → c ≡ b → IsRefused (may_read b.client) b why
    → calls_now ≤ calls + bound → ClientStoppedWithin bound calls calls_now least a (end_left c) left left taken taken_now (of_client why)
stops_asking a b c why least bound calls calls_now mid count left taken taken_now h same r most = unread_within bound calls calls_now
    least a (end_left c) left left taken taken_now (of_client why) (record {
      stage = Writing;
      read = [];
      written = h.written;
      lost = [];
      last = b;
      turn = h.turn least;
      leaves = ap end_left same;
      consumed = Consumes-nil left;
      is_lost = none_lost (of_client why);
      appended = h.appended;
      why = refused_why least bound 0 (length h.written) (length a.input.rest) left b (of_client why) (refused why r);
    }) refl most
  where
    refused : (why : ClientFault) → IsRefused (may_read b.client) b why → HasRefused b (of_client why)
    refused ClientFault.NotNow r = r
    refused (ClientFault.Faulted cause) r = r
    refused ClientFault.Memory r = tt

take_why : (least bound mid read written held : ℕ) (left_now : Option (List ℕ)) (e : ClientEnd) (f : PumpFault ClientFault)
    → bound ≤ mid + written → IsTakeFault least mid read left_now f
    → Rattle.link_world.specs.Pumps.ClientWhy least bound read written held left_now e f
take_why least bound mid read written held left_now e PumpFault.ReadFailed most r = tt
take_why least bound mid read written held left_now e PumpFault.WriteFailed most r = absurd r
take_why least bound mid read written held left_now e PumpFault.Ended most r = r
take_why least bound mid read written held left_now e PumpFault.TurnsSpent most r = omega (arith, most, r)
take_why least bound mid read written held left_now e (PumpFault.Core why) most r = absurd r
take_why least bound mid read written held left_now e PumpFault.Memory most r = tt

pub stops_taking : (a b c d : ClientEnd) (f : PumpFault ClientFault) (least bound calls calls_now mid count : ℕ)
    (left left_now taken taken_now : Option (List ℕ)) → AllOut a b taken taken_now bound mid count → may_read b.client ≡ true
    → c ≡ end_fed [] b → CameShort least c d left left_now mid f → calls_now ≤ calls + bound
    → ClientStoppedWithin bound calls calls_now least a (end_left d) left left_now taken taken_now f
stops_taking a b c d f least bound calls calls_now mid count left left_now taken taken_now h may same s most = unread_within bound calls
    calls_now least a (end_left d) left left_now taken taken_now f (record {
      stage = Taking;
      read = s.read;
      written = h.written;
      lost = s.lost;
      last = end_fed s.read b;
      turn = takes b s.read h.written (h.turn least) h.out may;
      leaves = ap end_left (s.fed ∙ ap (end_fed s.read) (same ∙ fed_none b));
      consumed = s.consumed;
      is_lost = s.is_lost;
      appended = h.appended;
      why = take_why least bound mid (length s.read) (length h.written) (length a.input.rest) left_now (end_fed s.read b) f h.counted s.why;
    }) refl most

pub longer : (f : Option FramingFault) (rest bytes : List ℕ) → length (fed_behind f rest bytes).rest ≤ length rest + length bytes
longer None rest bytes = let total = length-append rest bytes in omega (arith, total)
longer (Some f) rest bytes = omega arith

read_why : (least bound mid late read written held now : ℕ) (left_now : Option (List ℕ)) (e : ClientEnd) (f : PumpFault ClientFault)
    → bound ≤ mid + written → mid ≤ late + read → now ≤ held + read → IsReadFault late now e f
    → Rattle.link_world.specs.Pumps.ClientWhy least bound read written held left_now e f
read_why least bound mid late read written held now left_now e PumpFault.ReadFailed out come few r = absurd r
read_why least bound mid late read written held now left_now e PumpFault.WriteFailed out come few r = absurd r
read_why least bound mid late read written held now left_now e PumpFault.Ended out come few r = absurd r
read_why least bound mid late read written held now left_now e PumpFault.TurnsSpent out come few r = omega (arith, out, come, few, r)
read_why least bound mid late read written held now left_now e (PumpFault.Core why) out come few r = r
read_why least bound mid late read written held now left_now e PumpFault.Memory out come few r = tt

-- as many bytes have come as were asked for, and it reads
has_come : (a b c d : ClientEnd) (least bound mid late count come : ℕ) (left left_now taken taken_now : Option (List ℕ))
    (h : AllOut a b taken taken_now bound mid count) → may_read b.client ≡ true → c ≡ end_fed [] b
    → (s : Came c d left left_now mid late come) → least ≤ come → (t : ClientTurn least a Reading s.read h.written d) × (lines_read t ≡ 0)
has_come a b c d least bound mid late count come left left_now taken taken_now h may same s enough =
    let many = s.count_is in
    let t : ClientTurn least a Taking s.read h.written (end_fed s.read b) =
    takes b s.read h.written (h.turn least) h.out may in
    let u : (t : ClientTurn least a Taking s.read h.written d) × (lines_read t ≡ 0) =
    subst (λ (e : ClientEnd). (t : ClientTurn least a Taking s.read h.written e) × (lines_read t ≡ 0))
    (sym (s.fed ∙ ap (end_fed s.read) (same ∙ fed_none b)))
    (t, none_read least a Taking s.read h.written (end_fed s.read b) t refl) in
    (has d s.read h.written u.0 (omega (arith, many, enough)), u.1)

-- it has continued to read from there
reads_from : (a b c d e : ClientEnd) (least bound mid late now count come : ℕ) (left left_now taken taken_now : Option (List ℕ))
    (h : AllOut a b taken taken_now bound mid count) → may_read b.client ≡ true → c ≡ end_fed [] b
    → (s : Came c d left left_now mid late come) → least ≤ come → ReadsOn late now d e → (t : ClientTurn least a Reading s.read h.written e) × (lines_read t ≤ late)
reads_from a b c d e least bound mid late now count come left left_now taken taken_now h may same s enough goes =
    let t : (t : ClientTurn least a Reading s.read h.written d) × (lines_read t ≡ 0) =
    has_come a b c d least bound mid late count come left left_now taken taken_now h may same s enough in
    let u : (u : ClientTurn least a Reading s.read h.written e) × (now + lines_read u ≤ late + lines_read t.0) =
    goes least a s.read h.written t.0 in
    let none = t.1 in
    let few = u.1 in (u.0, omega (arith, none, few))

pub stops_reading : (a b c d e : ClientEnd) (f : PumpFault ClientFault) (least bound calls calls_now mid late now count come : ℕ)
    (left left_now taken taken_now : Option (List ℕ)) → AllOut a b taken taken_now bound mid count → may_read b.client ≡ true
    → c ≡ end_fed [] b → Came c d left left_now mid late come → least ≤ come
    → ReadsOn late now d e → IsReadFault late (length d.input.rest) e f → calls_now + late ≤ calls + bound
    → ClientStoppedWithin bound calls calls_now least a (end_left e) left left_now taken taken_now f
stops_reading a b c d e f least bound calls calls_now mid late now count come left left_now taken taken_now h may same s enough goes r most =
    record {
      front = record {
        stage = Reading;
        read = s.read;
        written = h.written;
        lost = [];
        last = e;
        turn = (read_on).0;
        leaves = refl;
        consumed = subst (Consumes left left_now) (sym (append-nil s.read)) s.consumed;
        is_lost = none_lost f;
        appended = h.appended;
        why = read_why least bound mid late (length s.read) (length h.written) (length a.input.rest) (length d.input.rest) left_now e f h.counted
            s.counted few r;
      };
      within = let lines = (read_on).1 in omega (arith, most, lines);
    }
  where
    read_on : (t : ClientTurn least a Reading s.read h.written e) × (lines_read t ≤ late)
    read_on = reads_from a b c d e least bound mid late now count come left left_now taken taken_now h may same s enough goes

    few : length d.input.rest ≤ length a.input.rest + length s.read
    few = subst (λ (x : Framing). length d.input.rest ≤ length x.rest + length s.read) h.held
        (subst (λ (x : ClientEnd). length x.input.rest ≤ length b.input.rest + length s.read)
        (sym (s.fed ∙ ap (end_fed s.read) (same ∙ fed_none b))) (longer b.input.fault b.input.rest s.read))

pub has_moved : (a b c d e : ClientEnd) (least bound calls calls_now mid late now count come : ℕ)
    (left left_now taken taken_now : Option (List ℕ)) → AllOut a b taken taken_now bound mid count → may_read b.client ≡ true
    → c ≡ end_fed [] b → Came c d left left_now mid late come → least ≤ come
    → ReadsOn late now d e → next_of e.input.rest ≡ Ok None → may_read e.client ≡ true → calls_now + late ≤ calls + bound
    → ClientMovedWithin bound calls calls_now least a e left left_now taken taken_now (record { read = come; written = count })
has_moved a b c d e least bound calls calls_now mid late now count come left left_now taken taken_now h may same s enough goes none may_now
    most = record {
      whole = record {
        read = s.read;
        written = h.written;
        turn = (read_on).0;
        may = may_now;
        all = none;
        consumed = s.consumed;
        appended = h.appended;
        read_is = s.count_is;
        written_is = h.count_is;
      };
      within = let lines = (read_on).1 in omega (arith, most, lines);
    }
  where
    read_on : (t : ClientTurn least a Reading s.read h.written e) × (lines_read t ≤ late)
    read_on = reads_from a b c d e least bound mid late now count come left left_now taken taken_now h may same s enough goes
