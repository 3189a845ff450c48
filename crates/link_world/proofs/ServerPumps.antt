-- What a server's turn makes of its end.
use Rattle.link_world.proofs.Names.{[], ◌&&◌, ◌*◌, ◌++◌, ◌+◌, ◌<◌, ◌||◌, ◌∙◌, ◌∷◌, ◌≡◌, ◌≤◌, and_parts, ap, append-nil, Appends, Appends-nil, arith}
use Rattle.link_world.proofs.Names.{Bool, Consumes, Consumes-nil, Consumes-trans, contact_count, drop, ends, Err, false, false≢true, fed, fed_behind}
use Rattle.link_world.proofs.Names.{Framing, FramingFault, Front, front_served, has_work, is_line, is_none, is_some, IsFeedFault, IsLineDue}
use Rattle.link_world.proofs.Names.{IsPullFault, IsPushFault, IsRunnable, IsServerReadFault, IsSound, IsTakeFault, IsWorkFault, Job, knows, length}
use Rattle.link_world.proofs.Names.{length-append, length-take-le, Line, List, may_end, may_feed, may_turn, new_client_end, next_of, None, of_server}
use Rattle.link_world.proofs.Names.{Ok, Option, option_map, Outcome, PumpFault, Pushed, ReadIn, Reading, refl, Result, running_job, Server}
use Rattle.link_world.proofs.Names.{ServerCame, ServerCameShort, ServerEnd, ServerFault, ServerGoesOn, ServerMovedWithin, ServerReadStops}
use Rattle.link_world.proofs.Names.{ServerStoppedWithin, ServerTurn, ServerValue, ServerWhy, serving_fed, serving_left, serving_machined}
use Rattle.link_world.proofs.Names.{serving_read, serving_taken, serving_turned, Some, Stage, steps_made, steps_of, steps_of_one, subst, sym, take}
use Rattle.link_world.proofs.Names.{take-append-le, Taking, true, turns, with_end, Working, World, Writing, ℕ}
use Rattle.server_core.specs.Serving.{IsReadFault}
use Rattle.link_world.specs.ServerPumps.{begins, has, reads, takes, writes}
use Rattle.link_world.proofs.ServerWork.{one_if, turn_less, machine_less}
use Rattle.link_world.proofs.ClientPumps.{fed_twice, fed_nothing, none_lost, pull_why, longer, two_less}

-- ---- bytes come

fed_none : (s : ServerValue) → with_end s (serving_fed [] s.end) ≡ s
fed_none s = ap (λ (f : Framing). with_end s (record (s.end) { input = f })) (fed_nothing s.end.input.fault s.end.input.rest)

pub server_came_none : (s : ServerValue) (left : Option (List ℕ)) (budget : ℕ) → ServerCame s s left left budget budget 0
server_came_none s left budget = record {
  read = [];
  fed = sym (fed_none s);
  consumed = Consumes-nil left;
  counted = omega arith;
  count_is = refl;
}

pub server_came_more : (a b c : ServerValue) (left mid left_now : Option (List ℕ)) (budget now then count more : ℕ) (piece tail : List ℕ)
    → ServerCame a b left mid budget now count → Consumes mid left_now (take more piece)
    → c ≡ with_end b (serving_fed (take more (piece ++ tail)) b.end)
    → now ≡ then + 1 → 0 < more → more ≤ length piece → ServerCame a c left left_now budget then (count + more)
server_came_more a b c left mid left_now budget now then count more piece tail h consumed same step some within =
    let is : length (take more piece) ≡ more = length-take-le more piece within in
    let total = length-append h.read (take more piece) in
    let before = h.counted in
    let counted = h.count_is in record {
      read = h.read ++ take more piece;
      fed = same ∙ (ap (λ (xs : List ℕ). with_end b (serving_fed xs b.end)) (take-append-le more piece tail within)
          ∙ (ap (λ (s : ServerValue). with_end s (serving_fed (take more piece) s.end)) h.fed
          ∙ ap (λ (f : Framing). with_end a (record (a.end) { input = f }))
          (fed_twice a.end.input.fault a.end.input.rest h.read (take more piece))));
      consumed = Consumes-trans left mid left_now h.read (take more piece) h.consumed consumed;
      counted = omega (arith, before, step, some, is, total);
      count_is = omega (arith, counted, is, total);
    }

pub server_pulls_none : (a b : ServerValue) (left mid left_now : Option (List ℕ)) (least budget now count : ℕ) (f : PumpFault ServerFault)
    → ServerCame a b left mid budget now count → Consumes mid left_now [] → count < least → IsPullFault now left_now f
    → ServerCameShort least a b left left_now budget f
server_pulls_none a b left mid left_now least budget now count f h consumed few r = record {
  read = h.read;
  lost = [];
  fed = h.fed;
  consumed = Consumes-trans left mid left_now h.read [] h.consumed consumed;
  is_lost = none_lost f;
  why = pull_why least budget now count (length h.read) left_now f h.counted h.count_is few r;
}

fault_same : (f : Option FramingFault) (rest xs : List ℕ) → (fed_behind f rest xs).fault ≡ f
fault_same None rest xs = refl
fault_same (Some f) rest xs = refl

pub may_stay : (a b : ServerValue) (read : List ℕ) → b ≡ with_end a (serving_fed read a.end) → may_feed a.end ≡ true → may_feed b.end ≡ true
may_stay a b read fed may = ap (λ (s : ServerValue). may_feed s.end) fed
    ∙ (ap (λ (f : Option FramingFault). a.end.server.on && is_none f) (fault_same a.end.input.fault a.end.input.rest read) ∙ may)

pub server_feeds_none : (a b c : ServerValue) (left mid left_now : Option (List ℕ)) (least budget now count : ℕ) (bytes : List ℕ)
    (why : ServerFault) → ServerCame a b left mid budget now count → Consumes mid left_now bytes → may_feed a.end ≡ true → c ≡ b
    → IsFeedFault b.end why → ServerCameShort least a c left left_now budget (of_server why)
server_feeds_none a b c left mid left_now least budget now count bytes ServerFault.NotNow h consumed may same r =
    absurd (false≢true (sym r ∙ (and_parts _ _ (may_stay a b h.read h.fed may)).0))
server_feeds_none a b c left mid left_now least budget now count bytes (ServerFault.Framing why) h consumed may same r =
    absurd (false≢true (sym (ap is_none r) ∙ (and_parts _ _ (may_stay a b h.read h.fed may)).1))
server_feeds_none a b c left mid left_now least budget now count bytes ServerFault.NothingRuns h consumed may same r = absurd r
server_feeds_none a b c left mid left_now least budget now count bytes ServerFault.WrongOutcome h consumed may same r = absurd r
server_feeds_none a b c left mid left_now least budget now count bytes ServerFault.OutOfVolume h consumed may same r = absurd r
server_feeds_none a b c left mid left_now least budget now count bytes ServerFault.Memory h consumed may same r = record {
  read = h.read;
  lost = bytes;
  fed = same ∙ h.fed;
  consumed = Consumes-trans left mid left_now h.read bytes h.consumed consumed;
  is_lost = tt;
  why = tt;
}

-- ---- lines are read

pub record ServerLinesRead (a b : ServerValue) (budget now : ℕ) : Type 0 where
  pub goes : (answer : Job → ℕ → Outcome) → ServerGoesOn answer Reading budget now a b
  pub counted : 2 * budget + length b.end.input.rest ≤ 2 * now + length a.end.input.rest

pub server_lines_none : (s : ServerValue) (budget : ℕ) → ServerLinesRead s s budget budget
server_lines_none s budget = record {
  goes = λ answer. record { setup = refl; turn = λ least start read t. (t, omega arith) };
  counted = omega arith;
}

-- what is left of a budget may be less
pub goes_less : (answer : Job → ℕ → Outcome) (stage : Stage) (budget now then : ℕ) (a b : ServerValue)
    → ServerGoesOn answer stage budget now a b → then ≤ now → ServerGoesOn answer stage budget then a b
goes_less answer stage budget now then a b h less = record {
  setup = h.setup;
  turn = λ least start read t.
      let p : (u : ServerTurn answer least start stage read [] b.end) × (now + steps_made u ≤ budget + steps_made t) =
      h.turn least start read t in
      let before = p.1 in (p.0, omega (arith, before, less));
}

line_there : (f : Front) → IsLineDue f → is_line f ≡ true
line_there (Ok None) due = absurd (false≢true due)
line_there (Ok (Some found)) due = refl
line_there (Err why) due = absurd due

served_rest : (e : ServerEnd) (f : Front) → next_of e.input.rest ≡ f → IsLineDue f
    → length (front_served e f).input.rest + 2 ≤ length e.input.rest
served_rest e (Ok None) is line = absurd (false≢true line)
served_rest e (Ok (Some (found, rest))) is line = two_less e.input (Ok (Some (found, rest))) is line
served_rest e (Err why) is line = absurd line

pub server_lines_more : (a b c : ServerValue) (budget now then : ℕ) → ServerLinesRead a b budget now → now ≡ then + 1
    → b.end.server.on ≡ true → IsLineDue (next_of b.end.input.rest)
    → (c ≡ with_end b (serving_read b.end)) → ServerLinesRead a c budget then
server_lines_more a b c budget now then h step on is same =
    let less : length c.end.input.rest + 2 ≤ length b.end.input.rest =
    subst (λ (s : ServerValue). length s.end.input.rest + 2 ≤ length b.end.input.rest) (sym (same))
    (served_rest b.end (next_of b.end.input.rest) refl is) in
    let before = h.counted in record {
      goes = λ answer. record {
        setup = ap (λ (s : ServerValue). s.setup) (same) ∙ (h.goes answer).setup;
        turn = λ least start read t.
            let p : (u : ServerTurn answer least start Reading read [] b.end) × (now + steps_made u ≤ budget + steps_made t) =
            (h.goes answer).turn least start read t in
            let few = p.1 in
            subst (λ (s : ServerValue). (u : ServerTurn answer least start Reading read [] s.end)
            × (then + steps_made u ≤ budget + steps_made t)) (sym (same))
            (reads b.end read p.0 on (line_there (next_of b.end.input.rest) is), omega (arith, few, step));
      };
      counted = omega (arith, before, less, step);
    }

ok_err : (x : Bool) (f : ServerFault) → ◌≡◌ {A = Result Bool ServerFault} (Ok x) (Err f) → ⊥
ok_err x f e = cc

-- what is answered is answered on a connection
pub is_on : (b x : Bool) (f : ServerFault) → (b ≡ false → ◌≡◌ {A = Result Bool ServerFault} (Ok x) (Err f)) → b ≡ true
is_on true x f never = refl
is_on false x f never = absurd (ok_err x f (never refl))

-- no more lines are read
pub server_read_stops : (a b c : ServerValue) (why : ServerFault) (budget now : ℕ) → ServerLinesRead a b budget now → IsReadFault b c why
    → (why ≡ ServerFault.NotNow → b.end.server.on ≡ false) → ServerReadStops a c budget (of_server why)
server_read_stops a b c ServerFault.NotNow budget now h r off = record {
  last = b;
  goes = λ answer. goes_less answer Reading budget now 0 a b (h.goes answer) (omega arith);
  setup = ap (λ (s : ServerValue). s.setup) r ∙ (h.goes (λ job n. Outcome.Fault)).setup;
  same = ap (λ (s : ServerValue). serving_left s.end) r;
  why = off refl;
}
server_read_stops a b c (ServerFault.Framing why) budget now h r off = record {
  last = b;
  goes = λ answer. goes_less answer Reading budget now 0 a b (h.goes answer) (omega arith);
  setup = ap (λ (s : ServerValue). s.setup) r.1 ∙ (h.goes (λ job n. Outcome.Fault)).setup;
  same = ap (λ (s : ServerValue). serving_left s.end) r.1;
  why = r.0;
}
server_read_stops a b c ServerFault.NothingRuns budget now h r off = absurd r
server_read_stops a b c ServerFault.WrongOutcome budget now h r off = absurd r
server_read_stops a b c ServerFault.OutOfVolume budget now h r off = absurd r
server_read_stops a b c ServerFault.Memory budget now h r off = record {
  last = b;
  goes = λ answer. goes_less answer Reading budget now 0 a b (h.goes answer) (omega arith);
  setup = ap (λ (s : ServerValue). s.setup) r.1 ∙ (h.goes (λ job n. Outcome.Fault)).setup;
  same = ap (λ (s : ServerValue). serving_left s.end) r.1;
  why = tt;
}

pub server_lines_spent : (a b : ServerValue) (budget now : ℕ) → ServerLinesRead a b budget now → now ≡ 0
    → ServerReadStops a b budget PumpFault.TurnsSpent
server_lines_spent a b budget now h none = let counted = h.counted in record {
  last = b;
  goes = λ answer. goes_less answer Reading budget now 0 a b (h.goes answer) (omega arith);
  setup = (h.goes (λ job n. Outcome.Fault)).setup;
  same = refl;
  why = omega (arith, counted, none);
}

-- ---- bytes come in, and lines are read

asked_why : (least bound : ℕ) (left_now : Option (List ℕ)) (e : ServerEnd) (why : ServerFault) (held : ℕ) → IsSound e.input
    → IsFeedFault e why → ServerWhy least bound 0 0 held left_now e (of_server why)
asked_why least bound left_now e ServerFault.NotNow held sound r = r
asked_why least bound left_now e (ServerFault.Framing why) held sound r = sound.kept why r
asked_why least bound left_now e ServerFault.NothingRuns held sound r = absurd r
asked_why least bound left_now e ServerFault.WrongOutcome held sound r = absurd r
asked_why least bound left_now e ServerFault.OutOfVolume held sound r = absurd r
asked_why least bound left_now e ServerFault.Memory held sound r = tt

pub server_stops_asking : (a b : ServerValue) (why : ServerFault) (answer : Job → ℕ → Outcome) (least bound calls : ℕ)
    (left taken : Option (List ℕ)) → b ≡ a → IsSound a.end.input → IsFeedFault a.end why
    → ServerStoppedWithin answer bound calls calls least a.end (serving_left b.end) left left taken taken (of_server why)
server_stops_asking a b why answer least bound calls left taken same sound r = record {
  front = record {
    stage = Taking;
    read = [];
    written = [];
    lost = [];
    last = a.end;
    turn = begins;
    leaves = ap (λ (s : ServerValue). serving_left s.end) same;
    consumed = Consumes-nil left;
    is_lost = none_lost (of_server why);
    appended = Appends-nil taken;
    why = asked_why least bound left a.end why (length a.end.input.rest) sound r;
  };
  within = omega arith;
}

take_why : (least bound read held : ℕ) (left_now : Option (List ℕ)) (e : ServerEnd) (f : PumpFault ServerFault)
    → IsTakeFault least bound read left_now f → ServerWhy least bound read 0 held left_now e f
take_why least bound read held left_now e PumpFault.ReadFailed r = tt
take_why least bound read held left_now e PumpFault.WriteFailed r = absurd r
take_why least bound read held left_now e PumpFault.Ended r = r
take_why least bound read held left_now e PumpFault.TurnsSpent r = omega (arith, r)
take_why least bound read held left_now e (PumpFault.Core why) r = absurd r
take_why least bound read held left_now e PumpFault.Memory r = tt

-- fed nothing, and then these
fed_now : (a b c : ServerValue) (read : List ℕ) → b ≡ with_end a (serving_fed [] a.end) → c ≡ with_end b (serving_fed read b.end)
    → c ≡ with_end a (serving_fed read a.end)
fed_now a b c read same fed = fed ∙ ap (λ (s : ServerValue). with_end s (serving_fed read s.end)) (same ∙ fed_none a)

pub server_stops_taking : (a b c : ServerValue) (f : PumpFault ServerFault) (answer : Job → ℕ → Outcome) (least bound calls calls_now : ℕ)
    (left left_now taken : Option (List ℕ)) → may_feed a.end ≡ true → b ≡ with_end a (serving_fed [] a.end)
    → ServerCameShort least b c left left_now bound f → calls_now ≤ calls + bound
    → ServerStoppedWithin answer bound calls calls_now least a.end (serving_left c.end) left left_now taken taken f
server_stops_taking a b c f answer least bound calls calls_now left left_now taken may same s most = record {
  front = record {
    stage = Taking;
    read = s.read;
    written = [];
    lost = s.lost;
    last = serving_fed s.read a.end;
    turn = takes s.read may;
    leaves = ap (λ (x : ServerValue). serving_left x.end) (fed_now a b c s.read same s.fed);
    consumed = s.consumed;
    is_lost = s.is_lost;
    appended = Appends-nil taken;
    why = take_why least bound (length s.read) (length a.end.input.rest) left_now (serving_fed s.read a.end) f s.why;
  };
  within = omega (arith, most);
}

few : (a c : ServerValue) (read : List ℕ) → c ≡ with_end a (serving_fed read a.end)
    → length c.end.input.rest ≤ length a.end.input.rest + length read
few a c read same = subst (λ (s : ServerValue). length s.end.input.rest ≤ length a.end.input.rest + length read) (sym same)
    (longer a.end.input.fault a.end.input.rest read)

has_come : (a c : ServerValue) (answer : Job → ℕ → Outcome) (least come : ℕ) (read : List ℕ) → may_feed a.end ≡ true
    → c ≡ with_end a (serving_fed read a.end) → come ≡ length read → least ≤ come → (t : ServerTurn answer least a.end Reading read [] c.end) × (steps_made t ≡ 0)
has_come a c answer least come read may same many enough =
    let t : (t : ServerTurn answer least a.end Taking read [] c.end) × (steps_made t ≡ 0) =
    subst (λ (s : ServerValue). (t : ServerTurn answer least a.end Taking read [] s.end) × (steps_made t ≡ 0)) (sym same)
    (takes read may, refl) in
    (has c.end read t.0 (omega (arith, many, enough)), t.1)

-- bytes have come, and it has continued from there
comes_on : (a b c d : ServerValue) (answer : Job → ℕ → Outcome) (least bound mid late come : ℕ) (left left_now : Option (List ℕ))
    → may_feed a.end ≡ true → b ≡ with_end a (serving_fed [] a.end) → (s : ServerCame b c left left_now bound mid come) → least ≤ come
    → ServerGoesOn answer Reading mid late c d → (t : ServerTurn answer least a.end Reading s.read [] d.end) × (late + steps_made t ≤ mid)
comes_on a b c d answer least bound mid late come left left_now may same s enough goes =
    let t : (t : ServerTurn answer least a.end Reading s.read [] c.end) × (steps_made t ≡ 0) =
    has_come a c answer least come s.read may (fed_now a b c s.read same s.fed) s.count_is enough in
    let u : (u : ServerTurn answer least a.end Reading s.read [] d.end) × (late + steps_made u ≤ mid + steps_made t.0) =
    goes.turn least a.end s.read t.0 in
    let none = t.1 in
    let few = u.1 in (u.0, omega (arith, none, few))

read_why : (least bound mid read held now : ℕ) (left_now : Option (List ℕ)) (e : ServerEnd) (f : PumpFault ServerFault)
    → bound ≤ mid + read → now ≤ held + read → IsServerReadFault mid now e f → ServerWhy least bound read 0 held left_now e f
read_why least bound mid read held now left_now e PumpFault.ReadFailed come most r = absurd r
read_why least bound mid read held now left_now e PumpFault.WriteFailed come most r = absurd r
read_why least bound mid read held now left_now e PumpFault.Ended come most r = absurd r
read_why least bound mid read held now left_now e PumpFault.TurnsSpent come most r = omega (arith, come, most, r)
read_why least bound mid read held now left_now e (PumpFault.Core why) come most r = r
read_why least bound mid read held now left_now e PumpFault.Memory come most r = tt

pub server_stops_reading : (a b c d : ServerValue) (f : PumpFault ServerFault) (answer : Job → ℕ → Outcome)
    (least bound calls calls_now mid come : ℕ)
    (left left_now taken : Option (List ℕ)) → may_feed a.end ≡ true → b ≡ with_end a (serving_fed [] a.end)
    → ServerCame b c left left_now bound mid come → least ≤ come → ServerReadStops c d mid f → calls_now + mid ≤ calls + bound
    → ServerStoppedWithin answer bound calls calls_now least a.end (serving_left d.end) left left_now taken taken f
server_stops_reading a b c d f answer least bound calls calls_now mid come left left_now taken may same s enough r most = record {
  front = record {
    stage = Reading;
    read = s.read;
    written = [];
    lost = [];
    last = r.last.end;
    turn = (read_on).0;
    leaves = r.same;
    consumed = subst (Consumes left left_now) (sym (append-nil s.read)) s.consumed;
    is_lost = none_lost f;
    appended = Appends-nil taken;
    why = read_why least bound mid (length s.read) (length a.end.input.rest) (length c.end.input.rest) left_now r.last.end f s.counted
        (few a c s.read (fed_now a b c s.read same s.fed)) r.why;
  };
  within = let steps = (read_on).1 in omega (arith, most, steps);
}
  where
    read_on : (t : ServerTurn answer least a.end Reading s.read [] r.last.end) × (0 + steps_made t ≤ mid)
    read_on = comes_on a b c r.last answer least bound mid 0 come left left_now may same s enough (r.goes answer)

pub reads_in : (a b c d : ServerValue) (least bound calls calls_now mid late come : ℕ) (left left_now : Option (List ℕ))
    → may_feed a.end ≡ true
    → b ≡ with_end a (serving_fed [] a.end) → ServerCame b c left left_now bound mid come → least ≤ come
    → ((answer : Job → ℕ → Outcome) → ServerGoesOn answer Reading mid late c d) → 2 * mid ≤ 2 * late + length c.end.input.rest
    → next_of d.end.input.rest ≡ Ok None → calls_now + mid ≤ calls + bound
    → ReadIn least calls calls_now a d left left_now bound late come
reads_in a b c d least bound calls calls_now mid late come left left_now may same s enough goes counted none most_calls =
    let most = few a c s.read (fed_now a b c s.read same s.fed) in
    let before = s.counted in record {
      read = s.read;
      setup = (goes (λ job n. Outcome.Fault)).setup ∙ ap (λ (x : ServerValue). x.setup) (fed_now a b c s.read same s.fed);
      turn = λ answer.
          let p : (t : ServerTurn answer least a.end Reading s.read [] d.end) × (late + steps_made t ≤ mid) =
          comes_on a b c d answer least bound mid late come left left_now may same s enough (goes answer) in
          let steps = p.1 in (p.0, omega (arith, most_calls, steps));
      none = none;
      consumed = s.consumed;
      counted = omega (arith, most, before, counted);
      count_is = s.count_is;
    }

-- ---- the server works

-- a server together with a client that was never there
abbrev pub beside : ServerEnd → World
beside e = record { client = new_client_end (record { features = []; steps = [] }) [] 1; server = e; links = []; written = [] }

pub works_none : (answer : Job → ℕ → Outcome) (budget : ℕ) (s : ServerValue) → ServerGoesOn answer Working budget budget s s
works_none answer budget s = record { setup = refl; turn = λ least start read t. (t, omega arith) }

pub works_same : (answer : Job → ℕ → Outcome) (a b : ServerValue) → b ≡ a → ServerGoesOn answer Working 1 0 a b
works_same answer a b same = subst (ServerGoesOn answer Working 1 0 a) (sym same)
    (goes_less answer Working 1 1 0 a a (works_none answer 1 a) (omega arith))

pub works_on : (answer : Job → ℕ → Outcome) (budget now then : ℕ) (a b c : ServerValue) → ServerGoesOn answer Working budget now a b
    → now ≡ then + 1 → ServerGoesOn answer Working 1 0 b c → ServerGoesOn answer Working budget then a c
works_on answer budget now then a b c p step q = record {
  setup = q.setup ∙ p.setup;
  turn = λ least start read t.
      let u : (u : ServerTurn answer least start Working read [] b.end) × (now + steps_made u ≤ budget + steps_made t) =
      p.turn least start read t in
      let v : (v : ServerTurn answer least start Working read [] c.end) × (0 + steps_made v ≤ 1 + steps_made u.0) =
      q.turn least start read u.0 in
      let before = u.1 in
      let one = v.1 in (v.0, omega (arith, before, one, step));
}

pub works_turn : (answer : Job → ℕ → Outcome) (a b : ServerValue) → may_turn a.end.server ≡ true → b ≡ with_end a (serving_turned a.end)
    → ServerGoesOn answer Working 1 0 a b
works_turn answer a b may same = subst (ServerGoesOn answer Working 1 0 a) (sym same)
    (record { setup = refl; turn = λ least start read t. (turns a.end read t may, omega arith) })

pub works_end : (answer : Job → ℕ → Outcome) (a b : ServerValue) (o : Outcome)
    → Some o ≡ option_map (λ job. answer job (contact_count a.end.server.ledger)) (running_job a.end.server)
    → b ≡ with_end a (serving_machined o a.end) → ServerGoesOn answer Working 1 0 a b
works_end answer a b o is same = go (running_job a.end.server) refl is
  where
    go : (job : Option Job) → running_job a.end.server ≡ job
        → Some o ≡ option_map (λ j. answer j (contact_count a.end.server.ledger)) job → ServerGoesOn answer Working 1 0 a b
    go None e found = absurd (cc)
    go (Some job) e found =
        let ended : o ≡ answer job (contact_count a.end.server.ledger) = cc in
        subst (ServerGoesOn answer Working 1 0 a) (sym (same ∙ ap (λ (x : Outcome). with_end a (serving_machined x a.end)) ended))
        (record { setup = refl; turn = λ least start read t. (ends a.end read job t e, omega arith) })

fewer : (r q : Option Line) (m n : ℕ) → one_if r + 2 * m < one_if q + 2 * n → steps_of_one r + 2 * m < steps_of_one q + 2 * n
fewer None None m n h = h
fewer None (Some line) m n h = h
fewer (Some line) None m n h = h
fewer (Some line) (Some other) m n h = h

-- what is to be done if nothing runs is a turn
pub has_turn : (answer : Job → ℕ → Outcome) (s : Server) → has_work s ≡ true
    → None ≡ option_map (λ j. answer j (contact_count s.ledger)) (running_job s) → may_turn s ≡ true
has_turn answer s work none = go (running_job s) (may_turn s) work none
  where
    go : (job : Option Job) (b : Bool) → (is_some job || b) ≡ true → None ≡ option_map (λ j. answer j (contact_count s.ledger)) job
        → b ≡ true
    go None b work none = work
    go (Some job) b work none = absurd (cc)

pub turn_fewer : (a b : ServerValue) → may_turn a.end.server ≡ true → b ≡ with_end a (serving_turned a.end)
    → steps_of b.end.server < steps_of a.end.server
turn_fewer a b may same = subst (λ (s : ServerValue). steps_of s.end.server < steps_of a.end.server) (sym same)
    (fewer (serving_turned a.end).server.running a.end.server.running (length (serving_turned a.end).server.waiting)
    (length a.end.server.waiting) (turn_less (beside a.end) may))

pub end_fewer : (a b : ServerValue) (o : Outcome) → may_end a.end.server.running o ≡ true
    → ((line : Line) → a.end.server.running ≡ Some line → IsRunnable a.end.server line) → b ≡ with_end a (serving_machined o a.end)
    → steps_of b.end.server < steps_of a.end.server
end_fewer a b o may fine same = subst (λ (s : ServerValue). steps_of s.end.server < steps_of a.end.server) (sym same)
    (fewer (serving_machined o a.end).server.running a.end.server.running (length (serving_machined o a.end).server.waiting)
    (length a.end.server.waiting) (machine_less (beside a.end) o may fine))

steps_most : (running : Option Line) (n : ℕ) → n ≤ 64 → steps_of_one running + 2 * n ≤ 129
steps_most None n few = omega (arith, few)
steps_most (Some line) n few = omega (arith, few)

pub most_steps : (s : ServerValue) → length s.end.server.waiting ≤ 64 → steps_of s.end.server ≤ 129
most_steps s few = steps_most s.end.server.running (length s.end.server.waiting) few

-- ---- the whole turn

-- the calls of a port in addition to those that were counted
pub serving_stopped_beside : (more : ℕ) (answer : Job → ℕ → Outcome) (bound calls calls_now least : ℕ) (old new : ServerEnd)
    (left left_now taken taken_now : Option (List ℕ)) (f : PumpFault ServerFault)
    → ServerStoppedWithin answer bound calls calls_now least old new left left_now taken taken_now f
    → ServerStoppedWithin answer bound (calls + more) (calls_now + more) least old new left left_now taken taken_now f
serving_stopped_beside more answer bound calls calls_now least old new left left_now taken taken_now f s = record {
  front = s.front;
  within = let before = s.within in omega (arith, before);
}

work_why : (least bound mid read held : ℕ) (left_now : Option (List ℕ)) (e : ServerEnd) (f : PumpFault ServerFault)
    → 2 * bound ≤ 2 * mid + 3 * read + held → IsWorkFault mid f → ServerWhy least bound read 0 held left_now e f
work_why least bound mid read held left_now e PumpFault.ReadFailed most r = absurd r
work_why least bound mid read held left_now e PumpFault.WriteFailed most r = absurd r
work_why least bound mid read held left_now e PumpFault.Ended most r = absurd r
work_why least bound mid read held left_now e PumpFault.TurnsSpent most r = omega (arith, most, r)
work_why least bound mid read held left_now e (PumpFault.Core why) most r = absurd r
work_why least bound mid read held left_now e PumpFault.Memory most r = tt

-- it has read, and has continued to work from there
works_from : (a b c : ServerValue) (answer : Job → ℕ → Outcome) (least bound calls calls_now mid late come : ℕ)
    (left left_now : Option (List ℕ)) (h : ReadIn least calls calls_now a b left left_now bound mid come)
    → ServerGoesOn answer Working mid late b c → (t : ServerTurn answer least a.end Working h.read [] c.end) × (calls_now + late + steps_made t ≤ calls + bound)
works_from a b c answer least bound calls calls_now mid late come left left_now h goes =
    let t : (t : ServerTurn answer least a.end Reading h.read [] b.end) × (calls_now + mid + steps_made t ≤ calls + bound) =
    h.turn answer in
    let u : (u : ServerTurn answer least a.end Working h.read [] c.end) × (late + steps_made u ≤ mid + steps_made t.0) =
    goes.turn least a.end h.read (knows b.end h.read t.0 h.none) in
    let before = t.1 in
    let few = u.1 in (u.0, omega (arith, before, few))

pub server_stops_working : (a b c : ServerValue) (f : PumpFault ServerFault) (answer : Job → ℕ → Outcome)
    (least bound calls calls_now more mid late come : ℕ) (left left_now taken : Option (List ℕ))
    → ReadIn least calls calls_now a b left left_now bound mid come → ServerGoesOn answer Working mid late b c → IsWorkFault mid f
    → ServerStoppedWithin answer bound (calls + more) (calls_now + more) least a.end (serving_left c.end) left left_now taken taken f
server_stops_working a b c f answer least bound calls calls_now more mid late come left left_now taken h goes r = record {
  front = record {
    stage = Working;
    read = h.read;
    written = [];
    lost = [];
    last = c.end;
    turn = (work_on).0;
    leaves = refl;
    consumed = subst (Consumes left left_now) (sym (append-nil h.read)) h.consumed;
    is_lost = none_lost f;
    appended = Appends-nil taken;
    why = work_why least bound mid (length h.read) (length a.end.input.rest) left_now c.end f h.counted r;
  };
  within = let steps = (work_on).1 in omega (arith, steps);
}
  where
    work_on : (t : ServerTurn answer least a.end Working h.read [] c.end) × (calls_now + late + steps_made t ≤ calls + bound)
    work_on = works_from a b c answer least bound calls calls_now mid late come left left_now h goes

idle_turn : (s : Server) → has_work s ≡ false → may_turn s ≡ false
idle_turn s idle = go (is_some (running_job s)) (may_turn s) idle
  where
    go : (a b : Bool) → (a || b) ≡ false → b ≡ false
    go true b e = absurd (false≢true (sym e))
    go false b e = e

idle_job : (s : Server) → has_work s ≡ false → running_job s ≡ None
idle_job s idle = go (running_job s) (may_turn s) idle
  where
    go : (a : Option Job) (b : Bool) → (is_some a || b) ≡ false → a ≡ None
    go (Some job) b e = absurd (false≢true (sym e))
    go None b e = refl

push_why : (least bound mid late read written held n : ℕ) (left_now : Option (List ℕ)) (e : ServerEnd) (f : PumpFault ServerFault)
    → 2 * bound ≤ 2 * mid + 3 * read + held → mid ≤ late + 129 → written ≡ n → IsPushFault late n f
    → ServerWhy least bound read written held left_now e f
push_why least bound mid late read written held n left_now e PumpFault.ReadFailed most work same r = absurd r
push_why least bound mid late read written held n left_now e PumpFault.WriteFailed most work same r = tt
push_why least bound mid late read written held n left_now e PumpFault.Ended most work same r = absurd r
push_why least bound mid late read written held n left_now e PumpFault.TurnsSpent most work same r = omega (arith, most, work, same, r)
push_why least bound mid late read written held n left_now e (PumpFault.Core why) most work same r = absurd r
push_why least bound mid late read written held n left_now e PumpFault.Memory most work same r = absurd r

pub server_stops_writing : (a b c : ServerValue) (f : PumpFault ServerFault) (answer : Job → ℕ → Outcome)
    (least bound calls calls_now pushes pushes_now mid late come : ℕ) (left left_now taken taken_now : Option (List ℕ)) (bytes : List ℕ)
    → ReadIn least calls calls_now a b left left_now bound mid come → ServerGoesOn answer Working mid late b c
    → has_work c.end.server ≡ false → mid ≤ late + 129 → bytes ≡ c.end.out → Pushed bytes taken taken_now late f
    → pushes_now ≤ pushes + late
    → ServerStoppedWithin answer bound (calls + pushes) (calls_now + pushes_now) least a.end (serving_left c.end) left left_now taken
    taken_now f
server_stops_writing a b c f answer least bound calls calls_now pushes pushes_now mid late come left left_now taken taken_now bytes h goes
    idle work are pushed most = record {
      front = record {
        stage = Writing;
        read = h.read;
        written = take p.count c.end.out;
        lost = [];
        last = serving_taken p.count c.end;
        turn = writes c.end h.read p.count (work_on).0 (idle_turn c.end.server idle)
            (idle_job c.end.server idle) p.within;
        leaves = refl;
        consumed = subst (Consumes left left_now) (sym (append-nil h.read)) h.consumed;
        is_lost = none_lost f;
        appended = p.appended;
        why = push_why least bound mid late (length h.read) (length (take p.count c.end.out)) (length a.end.input.rest) p.count left_now
            (serving_taken p.count c.end) f h.counted work (length-take-le p.count c.end.out p.within) p.why;
      };
      within = let steps = (work_on).1 in omega (arith, steps, most);
    }
  where
    work_on : (t : ServerTurn answer least a.end Working h.read [] c.end) × (calls_now + late + steps_made t ≤ calls + bound)
    work_on = works_from a b c answer least bound calls calls_now mid late come left left_now h goes

    p : Pushed c.end.out taken taken_now late f
    p = subst (λ (xs : List ℕ). Pushed xs taken taken_now late f) are pushed

pub has_served : (a b c d : ServerValue) (answer : Job → ℕ → Outcome)
    (least bound calls calls_now pushes pushes_now mid late come gone : ℕ) (left left_now taken taken_now : Option (List ℕ))
    (bytes : List ℕ) → ReadIn least calls calls_now a b left left_now bound mid come
    → ServerGoesOn answer Working mid late b c → has_work c.end.server ≡ false → bytes ≡ c.end.out → gone ≡ length c.end.out
    → Appends taken taken_now bytes → d ≡ with_end c (serving_taken gone c.end) → pushes_now ≤ pushes + late
    → ServerMovedWithin answer bound (calls + pushes) (calls_now + pushes_now) least a.end d.end left left_now taken taken_now
    (record { read = come; written = gone })
has_served a b c d answer least bound calls calls_now pushes pushes_now mid late come gone left left_now taken taken_now bytes h goes idle
    are is appended same most = record {
      whole = record {
        read = h.read;
        written = c.end.out;
        turn = (wrote).0;
        all = ap (λ (s : ServerValue). s.end.out) same ∙ nothing gone c.end.out is;
        consumed = h.consumed;
        appended = subst (Appends taken taken_now) are appended;
        read_is = h.count_is;
        written_is = is;
      };
      within = let steps = (wrote).1 in omega (arith, steps, most);
    }
  where
    work_on : (t : ServerTurn answer least a.end Working h.read [] c.end) × (calls_now + late + steps_made t ≤ calls + bound)
    work_on = works_from a b c answer least bound calls calls_now mid late come left left_now h goes

    whole : (n : ℕ) (bytes : List ℕ) → n ≡ length bytes → take n bytes ≡ bytes
    whole n [] is = ap (λ (k : ℕ). take k []) is
    whole n (x ∷ xs) is = ap (λ (k : ℕ). take k (x ∷ xs)) is ∙ ap (λ (ys : List ℕ). x ∷ ys) (whole (length xs) xs refl)

    nothing : (n : ℕ) (bytes : List ℕ) → n ≡ length bytes → drop n bytes ≡ []
    nothing n [] is = ap (λ (k : ℕ). drop k []) is
    nothing n (x ∷ xs) is = ap (λ (k : ℕ). drop k (x ∷ xs)) is ∙ nothing (length xs) xs refl

    wrote : (t : ServerTurn answer least a.end Writing h.read c.end.out d.end) × (calls_now + late + steps_made t ≤ calls + bound)
    wrote =
        let t : (t : ServerTurn answer least a.end Working h.read [] c.end) × (calls_now + late + steps_made t ≤ calls + bound) =
        work_on in
        subst (λ (s : ServerValue). (t : ServerTurn answer least a.end Writing h.read c.end.out s.end)
        × (calls_now + late + steps_made t ≤ calls + bound)) (sym same)
        (subst (λ (xs : List ℕ). (t : ServerTurn answer least a.end Writing h.read xs (serving_taken gone c.end))
        × (calls_now + late + steps_made t ≤ calls + bound)) (whole gone c.end.out is)
        (writes c.end h.read gone t.0 (idle_turn c.end.server idle) (idle_job c.end.server idle) (omega (arith, is)), t.1))

-- what the check needs if the server does one thing
pub ruleset working = (works_same, works_turn, works_end, turn_fewer, end_fewer)

pub ruleset worked = (works_none, works_on, most_steps)
