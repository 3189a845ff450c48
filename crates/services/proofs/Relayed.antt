-- What the relay of `watch` keeps: all that came was read, and what it was sent on and has waiting is all that came.
use Rattle.std.proofs.Common.{◌≡◌, ◌⊎◌, inl, inr, refl, sym, subst, ap, ◌∙◌, true≢false, ℕ, Bool, true, false, ◌||◌, if◌then◌else◌, List, [], ◌++◌, append_assoc, append-nil, arith}
use Rattle.std.specs.Prelude.{◌<◌, ◌-◌, ◌^◌, suc, nat_lt, take, drop, min, length}
use Rattle.std.proofs.lemmas.List.{take-append-drop, drop_min}
use Rattle.effects.specs.declared.vocabulary.Peer.{Peer}
use Rattle.effects.specs.declared.vocabulary.Peer.TheVariants.{Client, Server}
use Rattle.watched_ends.specs.Limits.{Limited, Within, Past, fresh, up_of, up_sent, down_of, down_sent, due_of, without_due, IsTold, IsRead, all, some, none}
use Rattle.effects.specs.Effects.{Reply, Bytes, Done, End, Took}
use Rattle.services.specs.Relays.{RelayTalk, RelayEnd, RelayTraffic, RelayOutside, RelayState, IsGiven, came, heard, told_more, up_passed, down_passed, hearing, nothing_passed, Relayed, begins, hears, tells, loses, ups, downs}
use Rattle.services.specs.Relays.{is_aside, due, due_at, Phase, Before, Opening, Between, Joined, Ending, Closing, phase, phase_of, outcome, makes, begins_told, IsBegun, ReadyAt, GoesOn}
use Rattle.services.specs.Relays.{Begins, not_opened, Event, Quiet, Taken, Came, Written, WentUp, WentDown, event_of, passed, Numbered, is_off, is_over, IsAt, IsPassed, IsRelaying, HasPassed, EndsAt, with_end, Stands, Relays, may_lose, has_failed, failed, must_fail, Fails, Counts, Steps, Stops, IsOnly, IsShort, Turns, Opens, refusing, failing}
use Rattle.services.specs.declared.relay_stages.RelayStage.{RelayStage}
use Rattle.services.specs.declared.relay_stages.RelayStage.TheVariants as stage

-- ---- whole, and in order

whole_heard : (came_there sent waits piece : List ℕ) → came_there ≡ sent ++ waits → came_there ++ piece ≡ sent ++ (waits ++ piece)
whole_heard came_there sent waits piece is = ap (λ (l : List ℕ). l ++ piece) is ∙ append_assoc sent waits piece

whole_sent : (came_there sent waits : List ℕ) (n : ℕ) → came_there ≡ sent ++ waits → came_there ≡ (sent ++ take n waits) ++ drop n waits
whole_sent came_there sent waits n is = is ∙ (ap (λ (l : List ℕ). sent ++ l) (sym (take-append-drop n waits))
    ∙ sym (append_assoc sent (take n waits) (drop n waits)))

-- what each end was sent, and what waits for it, is all that came from the other
pub record IsWhole (f : RelayTraffic) (r : Limited) : Type 0 where
  pub up : f.from_client ≡ f.to_server ++ up_of r
  pub down : f.from_server ≡ f.to_client ++ down_of r

read_same : (r t : Limited) → IsRead r t → (up_of t ≡ up_of r) × (down_of t ≡ down_of r)
read_same _ _ (all r w reads client server few within) = (refl, refl)
read_same _ _ (some r w reads stop over) = (refl, refl)
read_same _ _ (none up down due) = (refl, refl)

came_same : (peer : Peer) (bytes : List ℕ) (f : RelayTraffic) (r : Limited) → IsWhole f r → IsWhole (heard peer bytes f) (came peer r bytes)
came_same Client bytes f (Within r) w = record { up = whole_heard f.from_client f.to_server r.up bytes w.up; down = w.down }
came_same Client bytes f (Past up down due) w = record { up = whole_heard f.from_client f.to_server up bytes w.up; down = w.down }
came_same Server bytes f (Within r) w = record { up = w.up; down = whole_heard f.from_server f.to_client r.down bytes w.down }
came_same Server bytes f (Past up down due) w = record { up = w.up; down = whole_heard f.from_server f.to_client down bytes w.down }

same_whole : (f : RelayTraffic) (r t : Limited) → (up_of t ≡ up_of r) × (down_of t ≡ down_of r) → IsWhole f r → IsWhole f t
same_whole f r t same w = record {
  up = w.up ∙ ap (λ (l : List ℕ). f.to_server ++ l) (sym same.0);
  down = w.down ∙ ap (λ (l : List ℕ). f.to_client ++ l) (sym same.1);
}

cleared_same : (r : Limited) → (up_of (without_due r) ≡ up_of r) × (down_of (without_due r) ≡ down_of r)
cleared_same (Within r) = (refl, refl)
cleared_same (Past up down due) = (refl, refl)

up_whole : (n : ℕ) (f : RelayTraffic) (r : Limited) → IsWhole f r → IsWhole (up_passed (take n (up_of r)) f) (up_sent n r)
up_whole n f (Within r) w = record { up = whole_sent f.from_client f.to_server r.up n w.up; down = w.down }
up_whole n f (Past up down due) w = record { up = whole_sent f.from_client f.to_server up n w.up; down = w.down }

down_whole : (n : ℕ) (f : RelayTraffic) (r : Limited) → IsWhole f r → IsWhole (down_passed (take n (down_of r)) f) (down_sent n r)
down_whole n f (Within r) w = record { up = w.up; down = whole_sent f.from_server f.to_client r.down n w.down }
down_whole n f (Past up down due) w = record { up = w.up; down = whole_sent f.from_server f.to_client down n w.down }

pub all_whole : (number : ℕ) (is_told : Bool) (f : RelayTraffic) (r : Limited) → Relayed number is_told f r → IsWhole f r
all_whole number _ _ _ (begins is_told) = record { up = refl; down = refl }
all_whole number _ _ _ (hears is_told peer bytes f r read h is) = same_whole (heard peer bytes f) (came peer r bytes) read
    (read_same (came peer r bytes) read is) (came_same peer bytes f r (all_whole number is_told f r h))
all_whole number _ _ _ (tells is_told f r h) =
    let w = same_whole f r (without_due r) (cleared_same r) (all_whole number is_told f r h) in record { up = w.up; down = w.down }
all_whole number _ _ _ (loses is_told f r h) = same_whole f r (without_due r) (cleared_same r) (all_whole number is_told f r h)
all_whole number _ _ _ (ups is_told n f r h) = up_whole n f r (all_whole number is_told f r h)
all_whole number _ _ _ (downs is_told n f r h may) = down_whole n f r (all_whole number is_told f r h)

-- ---- before a connection

or_true : (b : Bool) → b || true ≡ true
or_true true = refl
or_true false = refl

made_stays : (o : RelayOutside) (st : RelayStage) (reply : Reply) → o.is_made ≡ true → (outcome st reply o).is_made ≡ true
made_stays o st reply is = ap (λ (b : Bool). b || makes st reply) is

begun_stays : (o : RelayOutside) (st : RelayStage) (reply : Reply) → o.is_begun ≡ true → (outcome st reply o).is_begun ≡ true
begun_stays o st reply is = ap (λ (b : Bool). b || begins_told st reply) is

all_ready : (p : Phase) (n : ℕ) (o : RelayOutside) → IsBegun o → ReadyAt p n o
all_ready Before n o is = λ later. is
all_ready Opening n o is = (is.0, λ later. is.1)
all_ready Between n o is = is
all_ready Joined n o is = is
all_ready Ending n o is = is
all_ready Closing n o is = tt

abbrev pub is_begun : Phase → Bool
is_begun Between = true
is_begun Joined = true
is_begun Ending = true
is_begun p = false

begun_of : (p : Phase) (n : ℕ) (o : RelayOutside) → is_begun p ≡ true → ReadyAt p n o → IsBegun o
begun_of Before n o is ready = absurd (true≢false (sym is))
begun_of Opening n o is ready = absurd (true≢false (sym is))
begun_of Between n o is ready = ready
begun_of Joined n o is ready = ready
begun_of Ending n o is ready = ready
begun_of Closing n o is ready = absurd (true≢false (sym is))

-- once the told file has begun
pub begun_goes : (s t : RelayState) (reply : Reply) → is_begun (phase s) ≡ true → GoesOn s reply t
begun_goes s t reply is = λ o ready. let was = begun_of (phase s) s.talk.number o is ready in
    all_ready (phase t) t.talk.number (outcome s.stage reply o) (made_stays o s.stage reply was.0, begun_stays o s.stage reply was.1)

pub closing_goes : (s t : RelayState) (reply : Reply) → phase t ≡ Closing → GoesOn s reply t
closing_goes s t reply is = λ o ready. subst (λ (p : Phase). ReadyAt p t.talk.number (outcome s.stage reply o)) (sym is) tt

-- before that, a server is called only if connections were taken before
pub opening_goes : (s t : RelayState) (reply : Reply) → phase s ≡ Opening → t.talk ≡ s.talk → (0 < s.talk.number) ⊎ (phase t ≡ Opening)
    → GoesOn s reply t
opening_goes s t reply is same next = λ o ready.
    let was : (o.is_made ≡ true) × (0 < s.talk.number → o.is_begun ≡ true) = subst (λ (p : Phase). ReadyAt p s.talk.number o) is ready in
    let number : t.talk.number ≡ s.talk.number = ap (λ (x : RelayTalk). x.number) same in
    let made = made_stays o s.stage reply was.0 in
    elim next [
      | inl later ↦ all_ready (phase t) t.talk.number (outcome s.stage reply o) (made, begun_stays o s.stage reply (was.1 later))
      | inr opens ↦ subst (λ (p : Phase). ReadyAt p t.talk.number (outcome s.stage reply o)) (sym opens)
          (made, λ later. begun_stays o s.stage reply (was.1 (subst (λ (n : ℕ). 0 < n) number later)))
    ]

pub made_goes : (s t : RelayState) (reply : Reply) → phase s ≡ Before → makes s.stage reply ≡ true → phase t ≡ Opening → t.talk ≡ s.talk
    → GoesOn s reply t
made_goes s t reply is makes_it opens same = λ o ready.
    let was : 0 < s.talk.number → IsBegun o = subst (λ (p : Phase). ReadyAt p s.talk.number o) is ready in
    let number : t.talk.number ≡ s.talk.number = ap (λ (x : RelayTalk). x.number) same in
    subst (λ (p : Phase). ReadyAt p t.talk.number (outcome s.stage reply o)) (sym opens) (
      ap (λ (b : Bool). o.is_made || b) makes_it ∙ or_true o.is_made,
      λ later. begun_stays o s.stage reply (was (subst (λ (n : ℕ). 0 < n) number later)).1,
    )

pub begins_goes : (s t : RelayState) (reply : Reply) → phase s ≡ Opening → begins_told s.stage reply ≡ true → GoesOn s reply t
begins_goes s t reply is begins_it = λ o ready.
    let was : (o.is_made ≡ true) × (0 < s.talk.number → o.is_begun ≡ true) = subst (λ (p : Phase). ReadyAt p s.talk.number o) is ready in
    all_ready (phase t) t.talk.number (outcome s.stage reply o)
    (made_stays o s.stage reply was.0, ap (λ (b : Bool). o.is_begun || b) begins_it ∙ or_true o.is_begun)

same_ready : (p : Phase) (n : ℕ) (o : RelayOutside) (st : RelayStage) (reply : Reply) → ReadyAt p n o → ReadyAt p n (outcome st reply o)
same_ready Before n o st reply ready = λ later. (made_stays o st reply (ready later).0, begun_stays o st reply (ready later).1)
same_ready Opening n o st reply ready = (made_stays o st reply ready.0, λ later. begun_stays o st reply (ready.1 later))
same_ready Between n o st reply ready = (made_stays o st reply ready.0, begun_stays o st reply ready.1)
same_ready Joined n o st reply ready = (made_stays o st reply ready.0, begun_stays o st reply ready.1)
same_ready Ending n o st reply ready = (made_stays o st reply ready.0, begun_stays o st reply ready.1)
same_ready Closing n o st reply ready = tt

-- ---- the parts of a step

same_fails : (s t : RelayState) (reply : Reply) → must_fail s.stage reply ≡ false → t.end ≡ s.end → Fails s reply t
same_fails s t reply may same = λ due. elim due [
  | inl was ↦ ap has_failed same ∙ was
  | inr must ↦ absurd (true≢false (sym must ∙ may))
]

failed_fails : (s t : RelayState) (reply : Reply) → t.end ≡ failed s.end → Fails s reply t
failed_fails s t reply is = λ due. ap has_failed is

same_relays : (s t : RelayState) (reply : Reply) → event_of s.stage reply ≡ Quiet → (is_over t ≡ false → is_over s ≡ false)
    → t.talk ≡ s.talk → Relays s reply t
same_relays s t reply quiet stays same = λ stands f h on.
    subst (λ (e : Event). Relayed t.talk.number t.talk.is_told (passed e s.talk.relay f) t.talk.relay) (sym quiet)
    (subst (λ (x : RelayTalk). Relayed x.number x.is_told f x.relay) (sym same) (h (stays on)))

quiet_or_taken : (e : Event) → e ≡ Quiet → e ≡ Taken → ⊥
quiet_or_taken e quiet taken = absurd cc

-- nothing was received or sent, and no connection taken
quiet_steps : (s t : RelayState) (reply : Reply) → GoesOn s reply t → event_of s.stage reply ≡ Quiet
    → (is_over t ≡ false → is_over s ≡ false) → t.talk ≡ s.talk → Fails s reply t → Counts s.stage s.end t.end
    → (Stands s → Stands t) → Steps s reply t
quiet_steps s t reply goes quiet stays same fails counts stands = record {
  goes = goes;
  stands = stands;
  relays = same_relays s t reply quiet stays same;
  numbers = subst (λ (e : Event). Numbered e s.talk t.talk) (sym quiet) (ap (λ (x : RelayTalk). x.number) same);
  ended = λ ends. inl (sym (ap (λ (x : RelayTalk). x.has_ended) same) ∙ ends, quiet_or_taken (event_of s.stage reply) quiet);
  keeps = λ told. inl (ap (λ (x : RelayTalk). x.is_told) same ∙ told);
  fails = fails;
  counts = counts;
}

-- a stage that is not aside is the one that is due
turned_due : (st next : RelayStage) → is_aside st ≡ false → due_at st next ≡ st
turned_due st next is = ap (λ (b : Bool). if b then next else st) is

turned_stands : (s t : RelayState) → Turns s t → Stands t
turned_stands s t turns = subst (λ (x : RelayStage). IsAt x t.talk t.end) (sym (turned_due t.stage t.next turns.plain)) turns.stands

-- likewise, with the status kept
kept_steps : (s t : RelayState) (reply : Reply) → GoesOn s reply t → event_of s.stage reply ≡ Quiet → (is_over t ≡ false → is_over s ≡ false)
    → t.talk ≡ s.talk → t.end ≡ s.end → must_fail s.stage reply ≡ false → (Stands s → Stands t) → Steps s reply t
kept_steps s t reply goes quiet stays same end may = quiet_steps s t reply goes quiet stays same (same_fails s t reply may end)
    (inl (ap (λ (e : RelayEnd). e.left) end))

failed_steps : (s t : RelayState) (reply : Reply) → GoesOn s reply t → event_of s.stage reply ≡ Quiet
    → (is_over t ≡ false → is_over s ≡ false) → t.talk ≡ s.talk → t.end ≡ failed s.end → (Stands s → Stands t) → Steps s reply t
failed_steps s t reply goes quiet stays same end = quiet_steps s t reply goes quiet stays same (failed_fails s t reply end)
    (inl (ap (λ (e : RelayEnd). e.left) end))

-- before the first connection
pub made_steps : (s t : RelayState) (reply : Reply) → phase s ≡ Before → makes s.stage reply ≡ true → phase t ≡ Opening
    → event_of s.stage reply ≡ Quiet → t.talk ≡ s.talk → t.end ≡ s.end → must_fail s.stage reply ≡ false → Stands t → Steps s reply t
made_steps s t reply is makes_it opens quiet same end may stands = kept_steps s t reply (made_goes s t reply is makes_it opens same) quiet
    (λ on. ap (λ (p : Phase). is_off p s.end) is) same end may (λ was. stands)

pub refused_steps : (s t : RelayState) (reply : Reply) → event_of s.stage reply ≡ Quiet → t ≡ refusing s → Steps s reply t
refused_steps s t reply quiet is = let closes : phase t ≡ Closing = ap phase is in
    failed_steps s t reply (closing_goes s t reply closes) quiet (λ on. absurd (true≢false (sym (ap (λ (p : Phase). is_off p t.end) closes) ∙ on)))
    (ap (λ (x : RelayState). x.talk) is) (ap (λ (x : RelayState). x.end) is)
    (λ was. subst Stands (sym is) (λ zero. absurd cc))

pub opening_steps : (s t : RelayState) (reply : Reply) → phase s ≡ Opening → phase t ≡ Opening → event_of s.stage reply ≡ Quiet
    → t.talk ≡ s.talk → t.end ≡ s.end → must_fail s.stage reply ≡ false → Stands t → Steps s reply t
opening_steps s t reply is opens quiet same end may stands = kept_steps s t reply (opening_goes s t reply is same (inr opens)) quiet
    (λ on. ap (λ (p : Phase). is_off p s.end) is) same end may (λ was. stands)

pub opens_steps : (s t : RelayState) (reply : Reply) → Opens s t → phase s ≡ Opening → event_of s.stage reply ≡ Quiet
    → must_fail s.stage reply ≡ false → Steps s reply t
opens_steps s t reply opens is quiet may = kept_steps s t reply (opening_goes s t reply is opens.turns.talk opens.next) quiet
    (λ on. ap (λ (p : Phase). is_off p s.end) is) opens.turns.talk opens.turns.end may (λ was. turned_stands s t opens.turns)

pub opening_fails : (s t : RelayState) (reply : Reply) → phase s ≡ Opening → 0 < s.talk.number → event_of s.stage reply ≡ Quiet
    → t.talk ≡ s.talk → t.end ≡ failed s.end → Stands t → Steps s reply t
opening_fails s t reply is later quiet same end stands = failed_steps s t reply (opening_goes s t reply is same (inl later)) quiet
    (λ on. ap (λ (p : Phase). is_off p s.end) is) same end (λ was. stands)

pub begins_steps : (s t : RelayState) (reply : Reply) → phase s ≡ Opening → begins_told s.stage reply ≡ true → event_of s.stage reply ≡ Quiet
    → t.talk ≡ s.talk → t.end ≡ s.end → must_fail s.stage reply ≡ false → Stands t → Steps s reply t
begins_steps s t reply is begins_it quiet same end may stands = kept_steps s t reply (begins_goes s t reply is begins_it) quiet
    (λ on. ap (λ (p : Phase). is_off p s.end) is) same end may (λ was. stands)

-- between two connections
off_stays : (s t : RelayState) → is_over t ≡ true → is_over t ≡ false → is_over s ≡ false
off_stays s t off on = absurd (true≢false (sym off ∙ on))

pub rest_steps : (s t : RelayState) (reply : Reply) → phase s ≡ Between → is_over t ≡ true → event_of s.stage reply ≡ Quiet
    → t.talk ≡ s.talk → t.end ≡ s.end → must_fail s.stage reply ≡ false → Stands t → Steps s reply t
rest_steps s t reply is off quiet same end may stands = kept_steps s t reply (begun_goes s t reply (ap is_begun is)) quiet
    (off_stays s t off) same end may (λ was. stands)

-- at the end of one
pub ending_steps : (s t : RelayState) (reply : Reply) → phase s ≡ Ending → phase t ≡ Ending → event_of s.stage reply ≡ Quiet
    → t.talk ≡ s.talk → t.end ≡ s.end → must_fail s.stage reply ≡ false → (Stands s → Stands t) → Steps s reply t
ending_steps s t reply is ends quiet same end may stands = kept_steps s t reply (begun_goes s t reply (ap is_begun is)) quiet
    (λ on. ap (λ (p : Phase). is_off p s.end) is ∙ (ap has_failed (sym end) ∙ (sym (ap (λ (p : Phase). is_off p t.end) ends) ∙ on)))
    same end may stands

pub ending_fails : (s t : RelayState) (reply : Reply) → phase s ≡ Ending → is_over t ≡ true → event_of s.stage reply ≡ Quiet
    → t.talk ≡ s.talk → t.end ≡ failed s.end → Stands t → Steps s reply t
ending_fails s t reply is off quiet same end stands = failed_steps s t reply (begun_goes s t reply (ap is_begun is)) quiet
    (off_stays s t off) same end (λ was. stands)

-- between two connections, and at the end of all
abbrev pub is_rest : Phase → Bool
is_rest Between = true
is_rest Closing = true
is_rest p = false

rest_over : (p : Phase) (e : RelayEnd) → is_rest p ≡ true → is_off p e ≡ true
rest_over Before e is = is
rest_over Opening e is = is
rest_over Between e is = refl
rest_over Joined e is = is
rest_over Ending e is = absurd (true≢false (sym is))
rest_over Closing e is = refl

pub left_steps : (s t : RelayState) (reply : Reply) → s.stage ≡ stage.Leaving → is_rest (phase t) ≡ true → t.talk ≡ s.talk
    → t.end.status ≡ s.end.status → Counts s.stage s.end t.end → Stands t → Steps s reply t
left_steps s t reply is off same status counts stands =
    let there : phase s ≡ Ending = ap (λ (x : RelayStage). phase_of (due_at x s.next)) is in
    quiet_steps s t reply (begun_goes s t reply (ap is_begun there)) (ap (λ (x : RelayStage). event_of x reply) is)
    (off_stays s t (rest_over (phase t) t.end off)) same (λ due. elim due [
      | inl was ↦ ap (λ (n : ℕ). nat_lt 0 n) status ∙ was
      | inr must ↦ absurd (true≢false (sym must ∙ ap (λ (x : RelayStage). must_fail x reply) is))
    ]) counts (λ was. stands)

pub forced_steps : (s t : RelayState) (reply : Reply) → s.stage ≡ stage.Forcing → may_lose stage.Forcing reply ≡ true → is_over t ≡ true
    → t.talk ≡ record (s.talk) { is_told = false } → t.end ≡ failed s.end → Stands t → Steps s reply t
forced_steps s t reply is may off same end stands =
    let there : phase s ≡ Ending = ap (λ (x : RelayStage). phase_of (due_at x s.next)) is in record {
      goes = begun_goes s t reply (ap is_begun there);
      stands = λ was. stands;
      relays = λ at f h on. absurd (true≢false (sym off ∙ on));
      numbers = subst (λ (e : Event). Numbered e s.talk t.talk) (sym (ap (λ (x : RelayStage). event_of x reply) is))
          (ap (λ (x : RelayTalk). x.number) same);
      ended = λ ends. inl (
        sym (ap (λ (x : RelayTalk). x.has_ended) same) ∙ ends,
        quiet_or_taken (event_of s.stage reply) (ap (λ (x : RelayStage). event_of x reply) is),
      );
      keeps = λ told. inr (ap (λ (x : RelayStage). may_lose x reply) is ∙ may, ap has_failed end);
      fails = failed_fails s t reply end;
      counts = inl (ap (λ (e : RelayEnd). e.left) end);
    }

-- at the end
closing_stays : (s t : RelayState) → phase t ≡ Closing → is_over t ≡ false → is_over s ≡ false
closing_stays s t closes on = absurd (true≢false (sym (ap (λ (p : Phase). is_off p t.end) closes) ∙ on))

pub closing_steps : (s t : RelayState) (reply : Reply) → phase t ≡ Closing → event_of s.stage reply ≡ Quiet → t.talk ≡ s.talk → t.end ≡ s.end
    → must_fail s.stage reply ≡ false → (Stands s → Stands t) → Steps s reply t
closing_steps s t reply closes quiet same end may stands = kept_steps s t reply (closing_goes s t reply closes) quiet (closing_stays s t closes)
    same end may stands

pub due_steps : (s t : RelayState) (reply : Reply) → due t ≡ due s → event_of s.stage reply ≡ Quiet → t.talk ≡ s.talk → t.end ≡ s.end
    → must_fail s.stage reply ≡ false → Steps s reply t
due_steps s t reply same quiet talk end may = kept_steps s t reply
    (λ o ready. same_ready (phase t) t.talk.number o s.stage reply
    (subst (λ (x : RelayTalk). ReadyAt (phase t) x.number o) (sym talk)
    (subst (λ (x : RelayStage). ReadyAt (phase_of x) s.talk.number o) (sym same) ready)))
    quiet (λ on. sym (ap (λ (x : RelayStage). is_off (phase_of x) s.end) same)
    ∙ (sym (ap (λ (e : RelayEnd). is_off (phase t) e) end) ∙ on)) talk end may
    (λ was. subst (λ (x : RelayTalk). IsAt (due t) x t.end) (sym talk)
    (subst (λ (e : RelayEnd). IsAt (due t) s.talk e) (sym end)
    (subst (λ (x : RelayStage). IsAt x s.talk s.end) (sym same) was)))

pub same_due : (st : RelayStage) → due_at st st ≡ st
same_due st = cases (is_aside st)
  where
    cases : (b : Bool) → (if b then st else st) ≡ st
    cases true = refl
    cases false = refl

-- on a connection
pub stage_steps : (s t : RelayState) (reply : Reply) → phase s ≡ Joined → event_of s.stage reply ≡ Quiet → t.talk ≡ s.talk → t.end ≡ s.end
    → must_fail s.stage reply ≡ false → Stands t → Steps s reply t
stage_steps s t reply is quiet same end may stands = kept_steps s t reply (begun_goes s t reply (ap is_begun is)) quiet
    (λ on. ap (λ (p : Phase). is_off p s.end) is) same end may (λ was. stands)

pub stage_fails : (s t : RelayState) (reply : Reply) → phase s ≡ Joined → event_of s.stage reply ≡ Quiet → t.talk ≡ s.talk
    → t.end ≡ failed s.end → Stands t → Steps s reply t
stage_fails s t reply is quiet same end stands = failed_steps s t reply (begun_goes s t reply (ap is_begun is)) quiet
    (λ on. ap (λ (p : Phase). is_off p s.end) is) same end (λ was. stands)

pub turn_steps : (s t : RelayState) (reply : Reply) → Turns s t → phase s ≡ Joined → event_of s.stage reply ≡ Quiet
    → must_fail s.stage reply ≡ false → Steps s reply t
turn_steps s t reply turns is quiet may = stage_steps s t reply is quiet turns.talk turns.end may (turned_stands s t turns)

pub turn_fails : (s t : RelayState) (reply : Reply) → Turns (failing s) t → phase s ≡ Joined → event_of s.stage reply ≡ Quiet → Steps s reply t
turn_fails s t reply turns is quiet = stage_fails s t reply is quiet turns.talk turns.end (turned_stands (failing s) t turns)

-- a client is taken
taken_moved : (s m t : RelayState) → s.stage ≡ stage.Accepting → m.talk.relay ≡ fresh m.talk.number
    → (s.talk.number < 2 ^ 64 - 1 → m.talk.number ≡ suc s.talk.number) → m.talk.is_told ≡ s.talk.is_told → m.talk.has_ended ≡ false
    → m.end ≡ s.end → Turns m t → Steps s Done t
taken_moved s m t is new number told begun end turns =
    let there : phase s ≡ Between = ap (λ (x : RelayStage). phase_of (due_at x s.next)) is in
    let event : event_of s.stage Done ≡ Taken = ap (λ (x : RelayStage). event_of x Done) is in record {
      goes = begun_goes s t Done (ap is_begun there);
      stands = λ was. turned_stands m t turns;
      relays = λ at f h on. subst (λ (e : Event). Relayed t.talk.number t.talk.is_told (passed e s.talk.relay f) t.talk.relay) (sym event)
          (subst (λ (x : RelayTalk). Relayed x.number x.is_told nothing_passed x.relay) (sym turns.talk)
          (subst (λ (r : Limited). Relayed m.talk.number m.talk.is_told nothing_passed r) (sym new) (begins m.talk.is_told)));
      numbers = subst (λ (e : Event). Numbered e s.talk t.talk) (sym event)
          (λ few. ap (λ (x : RelayTalk). x.number) turns.talk ∙ number few);
      ended = λ ends. absurd (true≢false (sym ends ∙ (ap (λ (x : RelayTalk). x.has_ended) turns.talk ∙ begun)));
      keeps = λ was. inl (ap (λ (x : RelayTalk). x.is_told) turns.talk ∙ (told ∙ was));
      fails = same_fails s t Done (ap (λ (x : RelayStage). must_fail x Done) is) (turns.end ∙ end);
      counts = inl (ap (λ (e : RelayEnd). e.left) (turns.end ∙ end));
    }

pub taken_steps : (v s m t : RelayState) → v ≡ s → s.stage ≡ stage.Accepting → m.talk.relay ≡ fresh m.talk.number
    → (v.talk.number < 2 ^ 64 - 1 → m.talk.number ≡ suc v.talk.number) → m.talk.is_told ≡ v.talk.is_told → m.talk.has_ended ≡ false
    → m.end ≡ v.end → Turns m t → Steps s Done t
taken_steps v s m t now is new number told begun end turns = subst (λ (x : RelayState). Steps x Done t) now
    (taken_moved v m t (ap (λ (x : RelayState). x.stage) now ∙ is) new number told begun end turns)

-- ---- what is received and sent on

-- bytes of an end were given to the relay
given_relayed : (s t : RelayTalk) (peer : Peer) (bytes : List ℕ) (f : RelayTraffic) → IsGiven s peer bytes t
    → t ≡ record s { relay = t.relay } → Relayed s.number s.is_told f s.relay → Relayed t.number t.is_told (heard peer bytes f) t.relay
given_relayed s t peer bytes f given same h =
    subst (λ (x : RelayTalk). Relayed x.number x.is_told (heard peer bytes f) x.relay) (sym same) (cases s.is_told refl)
  where
    cases : (b : Bool) → s.is_told ≡ b → Relayed s.number s.is_told (heard peer bytes f) t.relay
    cases true is = hears s.is_told peer bytes f s.relay t.relay h (given.0 is)
    cases false is = let c = given.1 is in
        subst (λ (b : Bool). Relayed s.number b (heard peer bytes f) t.relay) (sym is)
        (subst (λ (r : Limited). Relayed s.number false (heard peer bytes f) r) (sym c.cleared)
        (loses s.is_told (heard peer bytes f) c.read (hears s.is_told peer bytes f s.relay c.read h c.is)))

with_relay : (a b : RelayTalk) (r : Limited) → b.relay ≡ r → b.number ≡ a.number → b.is_told ≡ a.is_told → b.has_ended ≡ a.has_ended
    → b ≡ record a { relay = r }
with_relay a b r relay number told same = ap (λ (x : Limited). record b { relay = x }) relay
    ∙ (ap (λ (n : ℕ). record b { relay = r; number = n }) number
    ∙ (ap (λ (x : Bool). record a { relay = r; is_told = x; has_ended = b.has_ended }) told
    ∙ ap (λ (x : Bool). record a { relay = r; has_ended = x }) same))

-- a relay that something was given to or sent from, and then another stage is next
still : (s m t : RelayState) → m ≡ record s { talk = record (s.talk) { relay = m.talk.relay } } → Turns m t
    → t.talk ≡ record (s.talk) { relay = t.talk.relay }
still s m t same turns = turns.talk ∙ (ap (λ (x : RelayState). x.talk) same
    ∙ ap (λ (r : Limited). record (s.talk) { relay = r }) (sym (ap (λ (x : RelayTalk). x.relay) turns.talk)))

abbrev IsOn : RelayState → Type 0
IsOn s = phase s ≡ Joined

-- the relay was given or has lost something, and nothing else was
moved_steps : (s t : RelayState) (reply : Reply) (e : Event) → IsOn s → event_of s.stage reply ≡ e → (e ≡ Taken → ⊥) → Numbered e s.talk t.talk
    → t.talk.is_told ≡ s.talk.is_told → t.talk.has_ended ≡ s.talk.has_ended → t.end ≡ s.end → must_fail s.stage reply ≡ false → Stands t
    → ((f : RelayTraffic) → Stands s → Relayed s.talk.number s.talk.is_told f s.talk.relay
    → Relayed t.talk.number t.talk.is_told (passed e s.talk.relay f) t.talk.relay) → Steps s reply t
moved_steps s t reply e is event untaken number told same end may stands moves = record {
  goes = begun_goes s t reply (ap is_begun is);
  stands = λ was. stands;
  relays = λ at f h on. subst (λ (x : Event). Relayed t.talk.number t.talk.is_told (passed x s.talk.relay f) t.talk.relay) (sym event)
      (moves f at (h (ap (λ (p : Phase). is_off p s.end) is)));
  numbers = subst (λ (x : Event). Numbered x s.talk t.talk) (sym event) number;
  ended = λ ends. inl (sym same ∙ ends, λ taken. untaken (sym event ∙ taken));
  keeps = λ was. inl (told ∙ was);
  fails = same_fails s t reply may end;
  counts = inl (ap (λ (x : RelayEnd). x.left) end);
}

hears_on : (s : RelayState) (p : Peer) (bytes : List ℕ) → s.stage ≡ hearing p
    → IsOn s × (event_of s.stage (Bytes bytes) ≡ Came p bytes) × (must_fail s.stage (Bytes bytes) ≡ false)
hears_on s Client bytes is = (
  ap (λ (x : RelayStage). phase_of (due_at x s.next)) is,
  ap (λ (x : RelayStage). event_of x (Bytes bytes)) is,
  ap (λ (x : RelayStage). must_fail x (Bytes bytes)) is,
)
hears_on s Server bytes is = (
  ap (λ (x : RelayStage). phase_of (due_at x s.next)) is,
  ap (λ (x : RelayStage). event_of x (Bytes bytes)) is,
  ap (λ (x : RelayStage). must_fail x (Bytes bytes)) is,
)

came_or_taken : (p : Peer) (bytes : List ℕ) → Came p bytes ≡ Taken → ⊥
came_or_taken p bytes is = absurd cc

pub came_steps : (v s m t : RelayState) (peer : Peer) (bytes : List ℕ) → v ≡ s → s.stage ≡ hearing peer → IsGiven v.talk peer bytes m.talk
    → m ≡ record v { talk = record (v.talk) { relay = m.talk.relay } } → Turns m t → Steps s (Bytes bytes) t
came_steps v s m t peer bytes now at given same turns =
    let is = hears_on v peer bytes (ap (λ (x : RelayState). x.stage) now ∙ at) in
    let talk = still v m t same turns in
    subst (λ (x : RelayState). Steps x (Bytes bytes) t) now
    (moved_steps v t (Bytes bytes) (Came peer bytes) is.0 is.1 (came_or_taken peer bytes) (ap (λ (x : RelayTalk). x.number) talk)
    (ap (λ (x : RelayTalk). x.is_told) talk) (ap (λ (x : RelayTalk). x.has_ended) talk)
    (turns.end ∙ ap (λ (x : RelayState). x.end) same) is.2 (turned_stands m t turns)
    (λ f was h. given_relayed v.talk t.talk peer bytes f (subst (λ (x : RelayTalk). IsGiven v.talk peer bytes x) (sym turns.talk) given) talk h))

pub came_stops : (s t : RelayState) (peer : Peer) (bytes : List ℕ) → s.stage ≡ hearing peer → t.stage ≡ s.stage
    → t.talk ≡ record (s.talk) { relay = t.talk.relay } → t.end ≡ s.end → Stops s (Bytes bytes) t
came_stops s t peer bytes at kept same end = let is = hears_on s peer bytes at in record {
  stage = kept;
  numbers = subst (λ (e : Event). Numbered e s.talk t.talk) (sym is.1) (ap (λ (x : RelayTalk). x.number) same);
  ended = λ ends. inl (sym (ap (λ (x : RelayTalk). x.has_ended) same) ∙ ends, λ taken. came_or_taken peer bytes (sym is.1 ∙ taken));
  keeps = λ was. inl (ap (λ (x : RelayTalk). x.is_told) same ∙ was);
  left = ap (λ (x : RelayEnd). x.left) end;
}

-- an end has sent nothing
pub hears_quiet : (s : RelayState) (p : Peer) → s.stage ≡ hearing p → phase s ≡ Joined
hears_quiet s p is = (hears_on s p [] is).0

-- an end sends nothing more
pub ended_steps : (s t : RelayState) (p : Peer) → s.stage ≡ hearing p → Turns (with_end p s) t → Steps s End t
ended_steps s t Server is turns = turn_steps s t End turns (hears_quiet s Server is) (ap (λ (x : RelayStage). event_of x End) is)
    (ap (λ (x : RelayStage). must_fail x End) is)
ended_steps s t Client is turns =
    let there : phase s ≡ Joined = hears_quiet s Client is in
    let quiet : event_of s.stage End ≡ Quiet = ap (λ (x : RelayStage). event_of x End) is in record {
      goes = begun_goes s t End (ap is_begun there);
      stands = λ was. turned_stands (with_end Client s) t turns;
      relays = λ at f h on. subst (λ (e : Event). Relayed t.talk.number t.talk.is_told (passed e s.talk.relay f) t.talk.relay) (sym quiet)
          (subst (λ (x : RelayTalk). Relayed x.number x.is_told f x.relay) (sym turns.talk) (h (ap (λ (p : Phase). is_off p s.end) there)));
      numbers = subst (λ (e : Event). Numbered e s.talk t.talk) (sym quiet) (ap (λ (x : RelayTalk). x.number) turns.talk);
      ended = λ ends. inr (is, refl);
      keeps = λ told. inl (ap (λ (x : RelayTalk). x.is_told) turns.talk ∙ told);
      fails = same_fails s t End (ap (λ (x : RelayStage). must_fail x End) is) turns.end;
      counts = inl (ap (λ (e : RelayEnd). e.left) turns.end);
    }

pub cleared_due : (r : Limited) → due_of (without_due r) ≡ []
cleared_due (Within r) = refl
cleared_due (Past up down due) = refl

-- what was due was written, or cannot be
told_moved : (s t : RelayState) (reply : Reply) → s.stage ≡ stage.Telling → event_of stage.Telling reply ≡ Written
    → must_fail stage.Telling reply ≡ false → t.talk ≡ record (s.talk) { relay = without_due s.talk.relay } → t.end ≡ s.end
    → due t ≡ stage.PassingUp → Steps s reply t
told_moved s t reply is written may same end next = moved_steps s t reply Written (ap (λ (x : RelayStage). phase_of (due_at x s.next)) is)
    (ap (λ (x : RelayStage). event_of x reply) is ∙ written) (λ taken. absurd cc) (ap (λ (x : RelayTalk). x.number) same)
    (ap (λ (x : RelayTalk). x.is_told) same) (ap (λ (x : RelayTalk). x.has_ended) same) end
    (ap (λ (x : RelayStage). must_fail x reply) is ∙ may)
    (subst (λ (x : RelayStage). IsAt x t.talk t.end) (sym next) (ap (λ (x : RelayTalk). due_of x.relay) same ∙ cleared_due s.talk.relay))
    (λ f was h. subst (λ (x : RelayTalk). Relayed x.number x.is_told (told_more (due_of s.talk.relay) f) x.relay) (sym same)
    (tells s.talk.is_told f s.talk.relay h))

pub told_steps : (v s t : RelayState) (reply : Reply) → v ≡ s → s.stage ≡ stage.Telling → event_of stage.Telling reply ≡ Written
    → must_fail stage.Telling reply ≡ false → t.talk.relay ≡ without_due v.talk.relay → t.talk.number ≡ v.talk.number
    → t.talk.is_told ≡ v.talk.is_told → t.talk.has_ended ≡ v.talk.has_ended → t.end ≡ v.end → due t ≡ stage.PassingUp → Steps s reply t
told_steps v s t reply now is written may relay number told same end next = subst (λ (x : RelayState). Steps x reply t) now
    (told_moved v t reply (ap (λ (x : RelayState). x.stage) now ∙ is) written may
    (with_relay v.talk t.talk (without_due v.talk.relay) relay number told same) end next)

pub untold_steps : (s t : RelayState) (reply : Reply) → s.stage ≡ stage.Telling → may_lose stage.Telling reply ≡ true
    → event_of stage.Telling reply ≡ Quiet → t.talk ≡ record (s.talk) { relay = without_due s.talk.relay; is_told = false }
    → t.end ≡ failed s.end → Stands t → Steps s reply t
untold_steps s t reply is may quiet same end stands =
    let there : phase s ≡ Joined = ap (λ (x : RelayStage). phase_of (due_at x s.next)) is in
    let event : event_of s.stage reply ≡ Quiet = ap (λ (x : RelayStage). event_of x reply) is ∙ quiet in record {
      goes = begun_goes s t reply (ap is_begun there);
      stands = λ was. stands;
      relays = λ at f h on. subst (λ (x : Event). Relayed t.talk.number t.talk.is_told (passed x s.talk.relay f) t.talk.relay) (sym event)
          (subst (λ (x : RelayTalk). Relayed x.number x.is_told f x.relay) (sym same)
          (loses s.talk.is_told f s.talk.relay (h (ap (λ (p : Phase). is_off p s.end) there))));
      numbers = subst (λ (x : Event). Numbered x s.talk t.talk) (sym event) (ap (λ (x : RelayTalk). x.number) same);
      ended = λ ends. inl (sym (ap (λ (x : RelayTalk). x.has_ended) same) ∙ ends, quiet_or_taken (event_of s.stage reply) event);
      keeps = λ told. inr (ap (λ (x : RelayStage). may_lose x reply) is ∙ may, ap has_failed end);
      fails = failed_fails s t reply end;
      counts = inl (ap (λ (e : RelayEnd). e.left) end);
    }

-- as many bytes were taken as could be
up_min : (n : ℕ) (r : Limited) → up_sent (min n (length (up_of r))) r ≡ up_sent n r
up_min n (Within r) = ap (λ (l : List ℕ). Within (record r { up = l })) (drop_min n r.up)
up_min n (Past up down due) = ap (λ (l : List ℕ). Past l down due) (drop_min n up)

down_min : (n : ℕ) (r : Limited) → down_sent (min n (length (down_of r))) r ≡ down_sent n r
down_min n (Within r) = ap (λ (l : List ℕ). Within (record r { down = l })) (drop_min n r.down)
down_min n (Past up down due) = ap (λ (l : List ℕ). Past up l due) (drop_min n down)

up_moved : (s t : RelayState) (n : ℕ) → s.stage ≡ stage.PassingUp
    → t.talk ≡ record (s.talk) { relay = up_sent (min n (length (up_of s.talk.relay))) s.talk.relay } → t.end ≡ s.end → Stands t
    → Steps s (Took n) t
up_moved s t n is same end stands = moved_steps s t (Took n) (WentUp n) (ap (λ (x : RelayStage). phase_of (due_at x s.next)) is)
    (ap (λ (x : RelayStage). event_of x (Took n)) is) (λ taken. absurd cc) (ap (λ (x : RelayTalk). x.number) same)
    (ap (λ (x : RelayTalk). x.is_told) same) (ap (λ (x : RelayTalk). x.has_ended) same) end
    (ap (λ (x : RelayStage). must_fail x (Took n)) is) stands
    (λ f was h. subst (λ (x : RelayTalk). Relayed x.number x.is_told (up_passed (take n (up_of s.talk.relay)) f) x.relay) (sym same)
    (subst (λ (r : Limited). Relayed s.talk.number s.talk.is_told (up_passed (take n (up_of s.talk.relay)) f) r) (sym (up_min n s.talk.relay))
    (ups s.talk.is_told n f s.talk.relay h)))

down_moved : (s t : RelayState) (n : ℕ) → s.stage ≡ stage.PassingDown → t.talk ≡ record (s.talk) { relay = t.talk.relay }
    → (IsTold s.talk.relay → t.talk.relay ≡ down_sent (min n (length (down_of s.talk.relay))) s.talk.relay) → t.end ≡ s.end → Stands t
    → Steps s (Took n) t
down_moved s t n is same sends end stands = moved_steps s t (Took n) (WentDown n) (ap (λ (x : RelayStage). phase_of (due_at x s.next)) is)
    (ap (λ (x : RelayStage). event_of x (Took n)) is) (λ taken. absurd cc) (ap (λ (x : RelayTalk). x.number) same)
    (ap (λ (x : RelayTalk). x.is_told) same) (ap (λ (x : RelayTalk). x.has_ended) same) end
    (ap (λ (x : RelayStage). must_fail x (Took n)) is) stands
    (λ f was h. let may : IsTold s.talk.relay = subst (λ (x : RelayStage). IsAt (due_at x s.next) s.talk s.end) is was in
    subst (λ (x : RelayTalk). Relayed x.number x.is_told (down_passed (take n (down_of s.talk.relay)) f) t.talk.relay) (sym same)
    (subst (λ (r : Limited). Relayed s.talk.number s.talk.is_told (down_passed (take n (down_of s.talk.relay)) f) r)
    (sym (sends may ∙ down_min n s.talk.relay)) (downs s.talk.is_told n f s.talk.relay h may)))

-- likewise, and then another stage is next
pub up_steps : (v s m t : RelayState) (n : ℕ) → v ≡ s → s.stage ≡ stage.PassingUp
    → m.talk.relay ≡ up_sent (min n (length (up_of v.talk.relay))) v.talk.relay → m.talk.number ≡ v.talk.number
    → m.talk.is_told ≡ v.talk.is_told → m.talk.has_ended ≡ v.talk.has_ended → m.end ≡ v.end → Turns m t → Steps s (Took n) t
up_steps v s m t n now is relay number told same end turns = subst (λ (x : RelayState). Steps x (Took n) t) now
    (up_moved v t n (ap (λ (x : RelayState). x.stage) now ∙ is)
    (turns.talk ∙ with_relay v.talk m.talk (up_sent (min n (length (up_of v.talk.relay))) v.talk.relay) relay number told same)
    (turns.end ∙ end) (turned_stands m t turns))

pub down_steps : (s m t : RelayState) (n : ℕ) → s.stage ≡ stage.PassingDown
    → m ≡ record s { talk = record (s.talk) { relay = m.talk.relay } }
    → (IsTold s.talk.relay → m.talk.relay ≡ down_sent (min n (length (down_of s.talk.relay))) s.talk.relay) → Turns m t → Steps s (Took n) t
down_steps s m t n is same sends turns = down_moved s t n is (still s m t same turns)
    (λ may. ap (λ (x : RelayTalk). x.relay) turns.talk ∙ sends may) (turns.end ∙ ap (λ (x : RelayState). x.end) same) (turned_stands m t turns)

-- ---- memory has run out

pub quiet_stops : (s t : RelayState) (reply : Reply) → t.stage ≡ s.stage → event_of s.stage reply ≡ Quiet → t.talk ≡ s.talk
    → t.end.left ≡ s.end.left → Stops s reply t
quiet_stops s t reply same quiet talk left = record {
  stage = same;
  numbers = subst (λ (e : Event). Numbered e s.talk t.talk) (sym quiet) (ap (λ (x : RelayTalk). x.number) talk);
  ended = λ ends. inl (sym (ap (λ (x : RelayTalk). x.has_ended) talk) ∙ ends, quiet_or_taken (event_of s.stage reply) quiet);
  keeps = λ was. inl (ap (λ (x : RelayTalk). x.is_told) talk ∙ was);
  left = left;
}

short_goes : (s m t : RelayState) (reply : Reply) → m.stage ≡ s.stage → IsOnly m.stage ⊎ (phase t ≡ Closing) → GoesOn s reply t
short_goes s m t reply same at = elim at [
  | inl on ↦ begun_goes s t reply (ap (λ (x : RelayStage). is_begun (phase_of (due_at x s.next))) (sym same)
      ∙ ap (λ (x : RelayStage). is_begun (phase_of x)) (turned_due m.stage s.next on.0) ∙ ap is_begun on.1)
  | inr closes ↦ closing_goes s t reply closes
]

pub short_steps : (s m t : RelayState) (reply : Reply) → Stops s reply m → IsShort m t → Steps s reply t
short_steps s m t reply stops short = record {
  goes = short_goes s m t reply stops.stage short.at;
  stands = λ was. short.stands;
  relays = λ at f h on. absurd (true≢false (sym short.off ∙ on));
  numbers = subst (λ (x : RelayTalk). Numbered (event_of s.stage reply) s.talk x) (sym short.talk) stops.numbers;
  ended = subst (λ (x : RelayTalk). EndsAt s.stage reply s.talk x) (sym short.talk) stops.ended;
  keeps = λ was. elim (stops.keeps was) [
    | inl told ↦ inl (ap (λ (x : RelayTalk). x.is_told) short.talk ∙ told)
    | inr may ↦ inr (may, short.failed)
  ];
  fails = λ due. short.failed;
  counts = inl (short.left ∙ stops.left);
}

pub fails_short : (s t : RelayState) → Turns (failing s) t → phase t ≡ Ending → is_aside s.stage ≡ false → phase_of s.stage ≡ Joined
    → IsShort s t
fails_short s t turns ends plain on = record {
  talk = turns.talk;
  failed = ap has_failed turns.end;
  left = ap (λ (e : RelayEnd). e.left) turns.end;
  off = ap (λ (p : Phase). is_off p t.end) ends ∙ ap has_failed turns.end;
  stands = turned_stands (failing s) t turns;
  at = inl (plain, on);
}

pub gives_short : (s t : RelayState) → t.talk ≡ s.talk → t.end ≡ record (s.end) { status = 4 } → phase t ≡ Closing → Stands t → IsShort s t
gives_short s t same end closes stands = record {
  talk = same;
  failed = ap has_failed end;
  left = ap (λ (e : RelayEnd). e.left) end;
  off = ap (λ (p : Phase). is_off p t.end) closes;
  stands = stands;
  at = inr closes;
}

pub same_steps : (s : RelayState) (reply : Reply) → s.stage ≡ stage.Exiting → Steps s reply s
same_steps s reply is = due_steps s s reply refl (ap (λ (x : RelayStage). event_of x reply) is) refl refl
    (ap (λ (x : RelayStage). must_fail x reply) is)

pub taken_stops : (v s m t : RelayState) → v ≡ s → s.stage ≡ stage.Accepting → t ≡ m → m.stage ≡ v.stage
    → (v.talk.number < 2 ^ 64 - 1 → m.talk.number ≡ suc v.talk.number) → m.talk.is_told ≡ v.talk.is_told → m.talk.has_ended ≡ false
    → m.end ≡ v.end → Stops s Done t
taken_stops v s m t now is same kept number told begun end = subst (λ (x : RelayState). Stops x Done t) now
    (subst (λ (x : RelayState). Stops v Done x) (sym same) (record {
      stage = kept;
      numbers = subst (λ (e : Event). Numbered e v.talk m.talk)
          (sym (ap (λ (x : RelayStage). event_of x Done) (ap (λ (x : RelayState). x.stage) now ∙ is))) number;
      ended = λ ends. absurd (true≢false (sym ends ∙ begun));
      keeps = λ was. inl (told ∙ was);
      left = ap (λ (e : RelayEnd). e.left) end;
    }))

untold_stops_at : (s t : RelayState) (reply : Reply) (st : RelayStage) → s.stage ≡ st → may_lose st reply ≡ true → event_of st reply ≡ Quiet
    → t.stage ≡ s.stage → t.talk.number ≡ s.talk.number → t.talk.has_ended ≡ s.talk.has_ended → t.end.left ≡ s.end.left → Stops s reply t
untold_stops_at s t reply st is may quiet same number ended left = record {
  stage = same;
  numbers = subst (λ (e : Event). Numbered e s.talk t.talk) (sym (ap (λ (x : RelayStage). event_of x reply) is ∙ quiet)) number;
  ended = λ ends. inl (sym ended ∙ ends, quiet_or_taken (event_of s.stage reply) (ap (λ (x : RelayStage). event_of x reply) is ∙ quiet));
  keeps = λ was. inr (ap (λ (x : RelayStage). may_lose x reply) is ∙ may);
  left = left;
}

pub untold_stops : (s t : RelayState) (reply : Reply) → s.stage ≡ stage.Telling → may_lose stage.Telling reply ≡ true
    → event_of stage.Telling reply ≡ Quiet → t.stage ≡ s.stage → t.talk.number ≡ s.talk.number → t.talk.has_ended ≡ s.talk.has_ended
    → t.end.left ≡ s.end.left → Stops s reply t
untold_stops s t reply = untold_stops_at s t reply stage.Telling

pub forced_stops : (s t : RelayState) (reply : Reply) → s.stage ≡ stage.Forcing → may_lose stage.Forcing reply ≡ true
    → t.stage ≡ s.stage → t.talk.number ≡ s.talk.number → t.talk.has_ended ≡ s.talk.has_ended → t.end.left ≡ s.end.left → Stops s reply t
forced_stops s t reply is may = untold_stops_at s t reply stage.Forcing is may refl

-- ---- a new session

not_less : 0 < 0 → ⊥
not_less later = omega (arith, later)

pub new_begins : (count : ℕ) (s : RelayState) → s.stage ≡ stage.Making → s.talk.relay ≡ fresh 0 → s.talk.number ≡ 0 → s.talk.is_told ≡ true
    → s.end.status ≡ 0 → s.end.left ≡ count → Begins count s
new_begins count s is relay number told whole left = record {
  ready = subst (λ (x : RelayStage). ReadyAt (phase_of (due_at x s.next)) s.talk.number not_opened) (sym is)
      (subst (λ (n : ℕ). 0 < n → IsBegun not_opened) (sym number) (λ later. absurd (not_less later)));
  stands = subst (λ (x : RelayStage). IsAt (due_at x s.next) s.talk s.end) (sym is) tt;
  relays = λ on. subst (λ (r : Limited). Relayed s.talk.number s.talk.is_told nothing_passed r) (sym relay)
      (subst (λ (n : ℕ). Relayed s.talk.number s.talk.is_told nothing_passed (fresh n)) number (begins s.talk.is_told));
  number = number;
  told = told;
  whole = whole;
  left = left;
}

-- ---- at the end of a connection

pub told_due : (r : Limited) → IsTold r → due_of r ≡ []
told_due (Within r) told = told.written
told_due (Past up down due) told = told

-- what came was sent on, where nothing waits
all_sent : (came_there sent waits : List ℕ) → came_there ≡ sent ++ waits → waits ≡ [] → sent ≡ came_there
all_sent came_there sent waits is empty = sym (is ∙ (ap (λ (l : List ℕ). sent ++ l) empty ∙ append-nil sent))

ending_stands : (s : RelayState) → phase s ≡ Ending → Stands s → s.end.status ≡ 0 → IsPassed s.talk
ending_stands s is stands well = cases (due s) is stands
  where
    cases : (st : RelayStage) → phase_of st ≡ Ending → IsAt st s.talk s.end → IsPassed s.talk
    cases stage.Forcing here at = at well
    cases stage.Settling here at = at well
    cases stage.Leaving here at = at well
    cases stage.Making here at = absurd cc
    cases stage.Listening here at = absurd cc
    cases stage.Listing here at = absurd cc
    cases stage.Creating here at = absurd cc
    cases stage.Heading here at = absurd cc
    cases stage.Removing here at = absurd cc
    cases stage.Discarding here at = absurd cc
    cases stage.SettingAside here at = absurd cc
    cases stage.Beginning here at = absurd cc
    cases stage.Logged here at = absurd cc
    cases stage.Accepting here at = absurd cc
    cases stage.Pausing here at = absurd cc
    cases stage.Connecting here at = absurd cc
    cases stage.Joining here at = absurd cc
    cases stage.HearingClient here at = absurd cc
    cases stage.HearingServer here at = absurd cc
    cases stage.Tracing here at = absurd cc
    cases stage.Stamping here at = absurd cc
    cases stage.Logging here at = absurd cc
    cases stage.Saving here at = absurd cc
    cases stage.Noting here at = absurd cc
    cases stage.Telling here at = absurd cc
    cases stage.PassingUp here at = absurd cc
    cases stage.ClosingUp here at = absurd cc
    cases stage.PassingDown here at = absurd cc
    cases stage.ClosingDown here at = absurd cc
    cases stage.Timing here at = absurd cc
    cases stage.Waiting here at = absurd cc
    cases stage.Saying here at = absurd cc
    cases stage.Parting here at = absurd cc
    cases stage.Exiting here at = absurd cc

pub nothing_left : (s : RelayState) (f : RelayTraffic) → phase s ≡ Ending → s.end.status ≡ 0 → Stands s → IsRelaying s f → HasPassed s f
nothing_left s f is well stands relays =
    let on : is_over s ≡ false = ap (λ (p : Phase). is_off p s.end) is ∙ ap (λ (n : ℕ). nat_lt 0 n) well in
    let whole = all_whole s.talk.number s.talk.is_told f s.talk.relay (relays on) in
    let passed_on = ending_stands s is stands well in record {
      up = all_sent f.from_client f.to_server (up_of s.talk.relay) whole.up passed_on.up;
      written = passed_on.written;
      down = elim passed_on.down [
        | inl told ↦ inl (told.0, all_sent f.from_server f.to_client (down_of s.talk.relay) whole.down told.1)
        | inr ended ↦ inr ended
      ];
    }
