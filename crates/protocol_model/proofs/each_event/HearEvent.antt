-- The client reads a reply, and all that holds is kept.
use Rattle.protocol_model.proofs.Names.{[], ◌&&◌, ◌∙◌, ◌∷◌, ◌≡◌, ◌≤◌, ap, arith, asks_data, Becomes, Bool, Closes, cond, count_open, Counts, Datum}
use Rattle.protocol_model.proofs.Names.{Effect, ends_abort, eqb, eqb-true, false, false≢true, first_state, fits, heard_in, is_event_tag, is_failed}
use Rattle.protocol_model.proofs.Names.{is_whole, judged, judged_ack, judged_given, last_state, List, None, OpenCommand, Option, refl, Some, Stage}
use Rattle.protocol_model.proofs.Names.{State, state_behind, Std, subst, sym, Table, Tag, tag_is, true}
use Rattle.dme_line.specs.declared.tags.Tag.TheVariants.{Event}
use Rattle.protocol_model.specs.Replies.{Mark}
use Rattle.protocol_model.proofs.table.Walks.{two, staged, heard_cases}
use Rattle.protocol_model.proofs.table.Counts.{is_error, no_break, done_moves}
use Rattle.protocol_model.proofs.invariant.Holding.{HasEvents, HasState}

-- ---- states

last_has_state : (b : Table) (whole : Bool) (state : State) → (state ≡ State.Running → b.tally.failed ≡ false) → (zero_open : Bool)
    → eqb (count_open b.standard) 0 ≡ zero_open
    → HasState (cond whole State.Done (cond zero_open State.Halted State.Failing)) b
last_has_state b true state running zero_open e = tt
last_has_state b false state running true e = eqb-true (count_open b.standard) 0 e
last_has_state b false state running false e = tt

failing_state : (b : Table) → HasState (last_state State.Failing (is_whole b) (count_open b.standard)) b
failing_state b = go (is_whole b) (eqb (count_open b.standard) 0) refl
  where
    go : (whole zero_open : Bool) → eqb (count_open b.standard) 0 ≡ zero_open
        → HasState (cond whole State.Done (cond zero_open State.Halted State.Failing)) b
    go true zero_open e = tt
    go false true e = eqb-true (count_open b.standard) 0 e
    go false false e = tt

running_state : (b : Table) → b.tally.failed ≡ false → HasState (last_state State.Running (is_whole b) (count_open b.standard)) b
running_state b calm = go (is_whole b)
  where
    go : (whole : Bool) → HasState (cond whole State.Done State.Running) b
    go true = tt
    go false = calm

-- the state after a reply fits the table after it if the state before it fitted, and the number of open commands does not grow
pub has_state : (state : State) (ends : Bool) (b c : Table) → HasState state b → count_open c.standard ≤ count_open b.standard
    → HasState (state_behind state ends c) c
has_state State.Apart ends b c h le = tt
has_state State.Running ends b c h le = go c.tally.failed refl
  where
    go : (failed : Bool) → c.tally.failed ≡ failed → HasState (last_state (first_state State.Running ends failed) (is_whole c)
        (count_open c.standard)) c
    go true e = failing_state c
    go false e = running_state c e
has_state State.Failing ends b c h le = failing_state c
has_state State.Aborting true b c h le = failing_state c
has_state State.Aborting false b c h le = tt
has_state State.Halted ends b c h le = let none : count_open b.standard ≡ 0 = h in omega arith
has_state State.Done ends b c h le = tt
has_state State.Faulted ends b c h le = h

-- if no event command is held, each later state has none
pub failing_events : (b : Table) (abort : Option Tag) (event : List OpenCommand) → event ≡ []
    → HasEvents (last_state State.Failing (is_whole b) (count_open b.standard)) abort event
failing_events b abort event none = go (is_whole b) (eqb (count_open b.standard) 0)
  where
    go : (whole zero_open : Bool) → HasEvents (cond whole State.Done (cond zero_open State.Halted State.Failing)) abort event
    go true zero_open = none
    go false true = none
    go false false = none

running_events : (b : Table) (abort : Option Tag) (event : List OpenCommand) → event ≡ []
    → HasEvents (last_state State.Running (is_whole b) (count_open b.standard)) abort event
running_events b abort event none = go (is_whole b)
  where
    go : (whole : Bool) → HasEvents (cond whole State.Done State.Running) abort event
    go true = none
    go false = none

-- a standard reply ends no abort
ends_no_abort : (abort : Option Tag) (a t : Tag) (m : Mark) → abort ≡ Some a → is_event_tag a ≡ true → is_event_tag t ≡ false
    → ends_abort abort t m ≡ false
ends_no_abort abort a t m is sort other = ap (λ (o : Option Tag). ends_abort o t m) is ∙ go m
  where
    apart : (u v : Tag) → is_event_tag u ≡ true → is_event_tag v ≡ false → tag_is u v ≡ false
    apart (Std i) v e f = absurd (false≢true e)
    apart (Event i) (Std j) e f = refl
    apart (Event i) (Event j) e f = absurd (false≢true (sym f))

    go : (n : Mark) → ends_abort (Some a) t n ≡ false
    go Mark.Ack = refl
    go (Mark.Given p) = refl
    go Mark.Done = apart a t sort other
    go Mark.Error = apart a t sort other

-- after a reply on a standard tag, the open event commands are still such as the state allows
pub standard_events : (state : State) (abort : Option Tag) (event : List OpenCommand) (t : Tag) (m : Mark) (b : Table)
    → is_event_tag t ≡ false
    → HasEvents state abort event → HasEvents (state_behind state (ends_abort abort t m) b) abort event
standard_events State.Apart abort event t m b sort h = h
standard_events State.Running abort event t m b sort h = go b.tally.failed
  where
    go : (failed : Bool) → HasEvents (last_state (first_state State.Running (ends_abort abort t m) failed) (is_whole b)
        (count_open b.standard)) abort event
    go true = failing_events b abort event h
    go false = running_events b abort event h
standard_events State.Failing abort event t m b sort h = failing_events b abort event h
standard_events State.Aborting abort event t m b sort h =
    subst (λ (ends : Bool). HasEvents (last_state (first_state State.Aborting ends b.tally.failed) (is_whole b) (count_open b.standard))
    abort event) (sym (ends_no_abort abort h.tag t m h.abort_is h.sort sort)) h
standard_events State.Halted abort event t m b sort h = h
standard_events State.Done abort event t m b sort h = h
standard_events State.Faulted abort event t m b sort h = h

-- ---- a reply to an abort

ack_ends : (s : Stage) → judged_ack s ≡ Closes → ⊥
ack_ends Stage.Sent e = cc
ack_ends Stage.Received e = cc
ack_ends (Stage.Given p) e = cc
ack_ends Stage.Failed e = cc

ack_counts : (s : Stage) (given : Option Datum) → judged_ack s ≡ Counts given → ⊥
ack_counts Stage.Sent given e = cc
ack_counts Stage.Received given e = cc
ack_counts (Stage.Given p) given e = cc
ack_counts Stage.Failed given e = cc

data_ends : (b : Bool) (s : Stage) (p : Datum) → judged_given b s p ≡ Closes → ⊥
data_ends true Stage.Sent p e = cc
data_ends true Stage.Received p e = cc
data_ends true (Stage.Given q) p e = cc
data_ends true Stage.Failed p e = cc
data_ends false s p e = cc

data_counts : (b : Bool) (s : Stage) (p : Datum) (given : Option Datum) → judged_given b s p ≡ Counts given → ⊥
data_counts true Stage.Sent p given e = cc
data_counts true Stage.Received p given e = cc
data_counts true (Stage.Given q) p given e = cc
data_counts true Stage.Failed p given e = cc
data_counts false s p given e = cc

-- what the reply left of the abort: still there, or gone by its end
pub data AbortLeft (held : OpenCommand) (m : Mark) (hs : List OpenCommand) : Type 0 where
  there : (s : Stage) → hs ≡ staged held s ∷ [] → ((a : Option Tag) (t : Tag) → ends_abort a t m ≡ false) → AbortLeft held m hs
  gone : hs ≡ [] → m ≡ Mark.Done → AbortLeft held m hs

no_end : (m : Mark) → (m ≡ Mark.Done → ⊥) → is_error m ≡ false → (a : Option Tag) (t : Tag) → ends_abort a t m ≡ false
no_end m other n None t = refl
no_end Mark.Ack other n (Some a) t = refl
no_end (Mark.Given p) other n (Some a) t = refl
no_end Mark.Done other n (Some a) t = absurd (other refl)
no_end Mark.Error other n (Some a) t = absurd (false≢true (sym n))

closes_by : (held : OpenCommand) (m : Mark) (hs : List OpenCommand) → is_error m ≡ false → judged true held.kind held.stage m ≡ Closes
    → hs ≡ []
    → AbortLeft held m hs
closes_by held Mark.Ack hs n v e = absurd (ack_ends held.stage v)
closes_by held (Mark.Given p) hs n v e = absurd (data_ends (true && fits held.kind p) held.stage p v)
closes_by held Mark.Done hs n v e = gone e refl
closes_by held Mark.Error hs n v e = absurd (false≢true (sym n))

counts_by : (held : OpenCommand) (m : Mark) (hs : List OpenCommand) (given : Option Datum) → is_error m ≡ false
    → judged true held.kind held.stage m ≡ Counts given → hs ≡ [] → AbortLeft held m hs
counts_by held Mark.Ack hs given n v e = absurd (ack_counts held.stage given v)
counts_by held (Mark.Given p) hs given n v e = absurd (data_counts (true && fits held.kind p) held.stage p given v)
counts_by held Mark.Done hs given n v e = gone e refl
counts_by held Mark.Error hs given n v e = absurd (false≢true (sym n))

becomes_by : (held : OpenCommand) (m : Mark) (hs : List OpenCommand) (s : Stage) → is_error m ≡ false
    → judged true held.kind held.stage m ≡ Becomes s
    → hs ≡ staged held s ∷ [] → AbortLeft held m hs
becomes_by held m hs s n v e = there s e (no_end m (λ (d : m ≡ Mark.Done). not_done d) n)
  where
    not_done : m ≡ Mark.Done → ⊥
    not_done d = done_moves true (asks_data held.kind) held.stage s
        (subst (λ (x : Mark). judged true held.kind held.stage x ≡ Becomes s) d v)

-- a reply is on the tag of this abort, and either left it open or ended it
pub record IsAbortReply (held : OpenCommand) (t : Tag) (m : Mark) (hs : List OpenCommand) : Type 0 where
  pub same : tag_is held.tag t ≡ true
  pub left : AbortLeft held m hs

-- if one event command is open, an expected reply that is not an error is on its tag, and leaves it open or ends it
pub abort_reply : (held : OpenCommand) (t : Tag) (m : Mark) (hs : List OpenCommand) (e : Effect) → heard_in true (held ∷ []) t m ≡ two hs e
    → is_error m ≡ false → IsAbortReply held t m hs
abort_reply held t m hs e is n =
    heard_cases true held [] t m hs e (IsAbortReply held t m hs) is
    (λ s same v g f. record { same = same; left = becomes_by held m hs s n v g })
    (λ same v g f. absurd (no_break true held.kind held.stage m n v))
    (λ same v g f. record { same = same; left = closes_by held m hs n v g })
    (λ given same v g f. record { same = same; left = counts_by held m hs given n v g })
    (λ rest other later g. absurd (nowhere later))
  where
    nowhere : {rest : List OpenCommand} → heard_in (true && is_failed held.stage) [] t m ≡ two rest e → ⊥
    nowhere later = cc
