-- What a client holds open and counts, next to what a witness knows and reports.
use Rattle.witness_laws.proofs.Names.{◌&&◌, ◌++◌, ◌==◌, ◌||◌, ◌∙◌, ◌∷◌, ◌≡◌, [], and_parts, ap, AreCounted, Asking, Bool, Command, cond, Dialogue}
use Rattle.witness_laws.proofs.Names.{false, false≢true, Foreign, has_turn, HasNoAbort, HaveArguments, if_cases, if_false, if_true, is_event_kind}
use Rattle.witness_laws.proofs.Names.{is_failed, is_held, is_homing, Kind, kind_of, Known, List, list_any, map, None, not, OpenCommand, or_parts}
use Rattle.witness_laws.proofs.Names.{passed_over, Planned, refl, SentCommand, Stage, subst, sym, Table, Tag, tag_is, Tally, true, Use, use_renewed}
use Rattle.witness_laws.proofs.Names.{waits, without_homing, ℕ}
use Rattle.witness.specs.declared.lines.SentCommand.TheVariants.{Known as Sends}
use Rattle.client_core.proofs.Fronts.{live_kinds, live_failed, live_calm}
use Rattle.witness_laws.specs.Acts.{all_done, Claims}
use Rattle.witness_laws.proofs.client.Cuts.{kind_by, stage_by, entry, picks, picks_in, picks_out, all_failed, has_tag, other_tag}
use Rattle.witness_laws.proofs.client.Holding.{Holds}
use Rattle.witness_laws.proofs.client.Knowing.{Selected, selected_after, Agrees}
use Rattle.witness_laws.proofs.orders.Counts.{Each}

-- ---- the uses of a client's commands

abbrev pub is_standard : Tag → Bool
is_standard (Tag.Std n) = true
is_standard (Tag.Event n) = false

abbrev pub is_event : Tag → Bool
is_event (Tag.Std n) = false
is_event (Tag.Event n) = true

abbrev pub is_lost : Stage → Bool
is_lost Stage.Sent = false
is_lost Stage.Received = false
is_lost (Stage.Given d) = false
is_lost Stage.Lost = true

-- a use is a command of a client: under a tag of its sort, and no other was open under that
pub record IsOurs (u : Use) : Type 0 where
  pub command : Command
  pub sends : u.command ≡ Sends command
  pub alone : u.rival ≡ None
  pub lost : u.has_failed ≡ is_lost u.stage
  pub sort : is_event_kind (kind_of command) ≡ is_event u.tag
  pub some : tag_is u.tag (Tag.Event 0) ≡ false

abbrev pub AreOurs : List Use → Type 0
AreOurs us = Each IsOurs us

pub ours_front : (us vs : List Use) → AreOurs (us ++ vs) → AreOurs us
ours_front [] vs h = tt
ours_front (u ∷ us) vs h = (h.0, ours_front us vs h.1)

pub ours_rest : (us vs : List Use) → AreOurs (us ++ vs) → AreOurs vs
ours_rest [] vs h = h
ours_rest (u ∷ us) vs h = ours_rest us vs h.1

-- what is known of it changes nothing of that
pub renewed_ours : (f : Known → Known) (us : List Use) → AreOurs us → AreOurs (map (use_renewed f) us)
renewed_ours f [] h = tt
renewed_ours f (u ∷ us) h = (
  record {
    command = IsOurs.command h.0;
    sends = IsOurs.sends h.0;
    alone = IsOurs.alone h.0;
    lost = IsOurs.lost h.0;
    sort = IsOurs.sort h.0;
    some = IsOurs.some h.0;
  },
  renewed_ours f us h.1,
)

pub picks_renewed : (test : Tag → Bool) (f : Known → Known) (us : List Use) → picks test (map (use_renewed f) us) ≡ picks test us
picks_renewed test f [] = refl
picks_renewed test f (u ∷ us) = ap (λ (l : List OpenCommand). cond (test u.tag) (entry u ∷ l) l) (picks_renewed test f us)

-- ---- those that have not failed

abbrev pub command_in : SentCommand → Command
command_in (Sends c) = c
command_in Asking = Command.AbortE
command_in (Foreign line) = Command.AbortE

-- the commands for which the machine is used, without those that have failed, in the order in which they were sent
abbrev pub live : List Use → List Command
live [] = []
live (u ∷ us) = cond (waits u) (command_in u.command ∷ live us) (live us)

pub live_in : (u : Use) (us : List Use) → waits u ≡ true → live (u ∷ us) ≡ command_in u.command ∷ live us
live_in u us e = if_true {A = List Command} (waits u) (command_in u.command ∷ live us) (live us) e

pub live_out : (u : Use) (us : List Use) → waits u ≡ false → live (u ∷ us) ≡ live us
live_out u us e = if_false {A = List Command} (waits u) (command_in u.command ∷ live us) (live us) e

pub live_more : (us vs : List Use) → live (us ++ vs) ≡ live us ++ live vs
live_more [] vs = refl
live_more (u ∷ us) vs = go (waits u) refl (live_more us vs)
  where
    go : (b : Bool) → waits u ≡ b → live (us ++ vs) ≡ live us ++ live vs → live (u ∷ (us ++ vs)) ≡ live (u ∷ us) ++ live vs
    go true e rest = live_in u (us ++ vs) e ∙ (ap (λ (l : List Command). command_in u.command ∷ l) rest
        ∙ ap (λ (l : List Command). l ++ live vs) (sym (live_in u us e)))
    go false e rest = live_out u (us ++ vs) e ∙ (rest ∙ ap (λ (l : List Command). l ++ live vs) (sym (live_out u us e)))

pub none_live : (us : List Use) → list_any waits us ≡ false → live us ≡ []
none_live [] e = refl
none_live (u ∷ us) e = go (waits u) refl e (none_live us)
  where
    go : (b : Bool) → waits u ≡ b → (b || list_any waits us) ≡ false → (list_any waits us ≡ false → live us ≡ []) → live (u ∷ us) ≡ []
    go true is n rest = absurd (false≢true (sym n))
    go false is n rest = live_out u us is ∙ rest n

pub live_renewed : (f : Known → Known) (us : List Use) → live (map (use_renewed f) us) ≡ live us
live_renewed f [] = refl
live_renewed f (u ∷ us) = ap (λ (l : List Command). cond (waits u) (command_in u.command ∷ l) l) (live_renewed f us)

pub waits_renewed : (f : Known → Known) (us : List Use) → list_any waits (map (use_renewed f) us) ≡ list_any waits us
waits_renewed f [] = refl
waits_renewed f (u ∷ us) = ap (λ (b : Bool). waits u || b) (waits_renewed f us)

pub live_none : (us : List Use) → live us ≡ [] → list_any waits us ≡ false
live_none [] e = refl
live_none (u ∷ us) e = go (waits u) refl (live_none us)
  where
    go : (b : Bool) → waits u ≡ b → (live us ≡ [] → list_any waits us ≡ false) → list_any waits (u ∷ us) ≡ false
    go true is rest = let some : command_in u.command ∷ live us ≡ [] = sym (live_in u us is) ∙ e in absurd (cc)
    go false is rest = ap (λ (b : Bool). b || list_any waits us) is ∙ rest (sym (live_out u us is) ∙ e)

-- ---- whether a use waits

pub same_failed : (s : Stage) → is_failed (stage_by s) ≡ is_lost s
same_failed Stage.Sent = refl
same_failed Stage.Received = refl
same_failed (Stage.Given d) = refl
same_failed Stage.Lost = refl

-- an event command does not
pub event_rests : (u : Use) → IsOurs u → is_event u.tag ≡ true → waits u ≡ false
event_rests u h e = ap (λ (a : SentCommand). has_turn a && not u.has_failed) (IsOurs.sends h)
    ∙ ap (λ (b : Bool). not b && not u.has_failed) (IsOurs.sort h ∙ e)

-- another does if it has not failed
pub standard_waits : (u : Use) → IsOurs u → is_event u.tag ≡ false → waits u ≡ not (is_failed (stage_by u.stage))
standard_waits u h e = ap (λ (a : SentCommand). has_turn a && not u.has_failed) (IsOurs.sends h)
    ∙ (ap (λ (b : Bool). not b && not u.has_failed) (IsOurs.sort h ∙ e) ∙ ap not (IsOurs.lost h ∙ sym (same_failed u.stage)))

pub sorts : (t : Tag) → is_event t ≡ not (is_standard t)
sorts (Tag.Std n) = refl
sorts (Tag.Event n) = refl

pub failed_rests : (u : Use) → IsOurs u → is_failed (stage_by u.stage) ≡ true → waits u ≡ false
failed_rests u h e = go (is_event u.tag) refl
  where
    go : (b : Bool) → is_event u.tag ≡ b → waits u ≡ false
    go true is = event_rests u h is
    go false is = standard_waits u h is ∙ ap not e

-- if all standard commands have failed, none waits
pub failed_wait : (us : List Use) → AreOurs us → all_failed (picks is_standard us) ≡ true → list_any waits us ≡ false
failed_wait [] h e = refl
failed_wait (u ∷ us) h e = go (is_standard u.tag) refl (failed_wait us h.1)
  where
    go : (b : Bool) → is_standard u.tag ≡ b → (all_failed (picks is_standard us) ≡ true → list_any waits us ≡ false)
        → list_any waits (u ∷ us) ≡ false
    go true is rest =
        let both : (is_failed (stage_by u.stage) ≡ true) × (all_failed (picks is_standard us) ≡ true) =
        and_parts (is_failed (stage_by u.stage)) (all_failed (picks is_standard us)) (sym (ap all_failed (picks_in is_standard u us is)) ∙ e) in
        ap (λ (b : Bool). b || list_any waits us) (failed_rests u h.0 both.0) ∙ rest both.1
    go false is rest = ap (λ (b : Bool). b || list_any waits us) (event_rests u h.0 (sorts u.tag ∙ ap not is))
        ∙ rest (sym (ap all_failed (picks_out is_standard u us is)) ∙ e)

-- their kinds are those of the client's commands that have not failed
pub live_are : (us : List Use) → AreOurs us → live_kinds (picks is_standard us) ≡ map kind_of (live us)
live_are [] h = refl
live_are (u ∷ us) h = go (is_standard u.tag) refl (live_are us h.1)
  where
    inner : (b : Bool) → is_failed (stage_by u.stage) ≡ b → is_standard u.tag ≡ true → live_kinds (picks is_standard us) ≡ map kind_of (live us)
        → live_kinds (entry u ∷ picks is_standard us) ≡ map kind_of (live (u ∷ us))
    inner true failed is rest = live_failed (entry u) (picks is_standard us) failed
        ∙ (rest ∙ ap (map kind_of) (sym (live_out u us (failed_rests u h.0 failed))))
    inner false calm is rest = live_calm (entry u) (picks is_standard us) calm
        ∙ (ap (λ (l : List Kind). kind_by u.command ∷ l) rest
        ∙ (ap (λ (a : SentCommand). kind_by a ∷ map kind_of (live us)) (IsOurs.sends h.0)
        ∙ (ap (λ (a : SentCommand). kind_of (command_in a) ∷ map kind_of (live us)) (sym (IsOurs.sends h.0))
        ∙ ap (map kind_of) (sym (live_in u us (standard_waits u h.0 (sorts u.tag ∙ ap not is) ∙ ap not calm))))))

    go : (b : Bool) → is_standard u.tag ≡ b → live_kinds (picks is_standard us) ≡ map kind_of (live us)
        → live_kinds (picks is_standard (u ∷ us)) ≡ map kind_of (live (u ∷ us))
    go true is rest = ap live_kinds (picks_in is_standard u us is) ∙ inner (is_failed (stage_by u.stage)) refl is rest
    go false is rest = ap live_kinds (picks_out is_standard u us is)
        ∙ (rest ∙ ap (map kind_of) (sym (live_out u us (event_rests u h.0 (sorts u.tag ∙ ap not is)))))

pub no_kinds : (cs : List Command) → map kind_of cs ≡ [] → cs ≡ []
no_kinds [] e = refl
no_kinds (c ∷ cs) e = absurd (cc)

-- a tag that no open command has is that of no use
pub not_held : (test : Tag → Bool) (t : Tag) (us : List Use) → test t ≡ true → is_held t (picks test us) ≡ false
    → list_any (has_tag t) us ≡ false
not_held test t [] sort e = refl
not_held test t (u ∷ us) sort e = go (test u.tag) refl (not_held test t us sort)
  where
    inner : test u.tag ≡ true → is_held t (entry u ∷ picks test us) ≡ false
        → (is_held t (picks test us) ≡ false → list_any (has_tag t) us ≡ false) → list_any (has_tag t) (u ∷ us) ≡ false
    inner is free deeper = if_cases {A = Bool} (tag_is u.tag t) true (is_held t (picks test us)) false (list_any (has_tag t) (u ∷ us) ≡ false)
        free (λ same no. absurd (false≢true (sym no)))
        (λ other rest. ap (λ (b : Bool). b || list_any (has_tag t) us) other ∙ deeper rest)

    go : (b : Bool) → test u.tag ≡ b → (is_held t (picks test us) ≡ false → list_any (has_tag t) us ≡ false)
        → list_any (has_tag t) (u ∷ us) ≡ false
    go true is deeper = inner is (ap (is_held t) (sym (picks_in test u us is)) ∙ e) deeper
    go false is deeper = ap (λ (b : Bool). b || list_any (has_tag t) us) (other_tag test t u sort is)
        ∙ deeper (ap (is_held t) (sym (picks_out test u us is)) ∙ e)

-- ---- the commands of plans

abbrev pub commands_of : List Planned → List Command
commands_of [] = []
commands_of (p ∷ ps) = p.command ∷ commands_of ps

abbrev commands_without : List Command → List Command
commands_without [] = []
commands_without (c ∷ cs) = cond (is_homing c) cs (c ∷ cs)

without_commands : (ps : List Planned) → commands_of (without_homing ps) ≡ commands_without (commands_of ps)
without_commands [] = refl
without_commands (p ∷ ps) = go (is_homing p.command)
  where
    go : (b : Bool) → commands_of (cond b ps (p ∷ ps)) ≡ cond b (commands_of ps) (p.command ∷ commands_of ps)
    go true = refl
    go false = refl

-- what is passed over of the same commands is the same
pub passed_commands : (told : Bool) (ps qs : List Planned) → commands_of ps ≡ commands_of qs
    → commands_of (passed_over told ps) ≡ commands_of (passed_over told qs)
passed_commands false ps qs e = e
passed_commands true ps qs e = without_commands ps ∙ (ap commands_without e ∙ sym (without_commands qs))

-- ---- what is known along the uses

-- what is selected below a use, and below uses
abbrev pub selected_past : Selected → Use → Selected
selected_past v u = cond (waits u) (selected_after v (command_in u.command)) v

abbrev pub selected_all : Selected → List Use → Selected
selected_all v [] = v
selected_all v (u ∷ us) = selected_all (selected_past v u) us

-- each use that waits knows what is selected above it; the second argument: all uses
abbrev pub KnowsIf : Bool → Bool → List Use → Selected → Use → Type 0
KnowsIf true lossy all v u = Holds lossy all u.line v u.known
KnowsIf false lossy all v u = Unit {0}

abbrev pub AreKnown : Bool → List Use → Selected → List Use → Type 0
AreKnown lossy all v [] = Unit {0}
AreKnown lossy all v (u ∷ us) = KnowsIf (waits u) lossy all v u × AreKnown lossy all (selected_past v u) us

pub selected_join : (v : Selected) (us vs : List Use) → selected_all v (us ++ vs) ≡ selected_all (selected_all v us) vs
selected_join v [] vs = refl
selected_join v (u ∷ us) vs = selected_join (selected_past v u) us vs

pub known_join : (lossy : Bool) (all : List Use) (v : Selected) (us vs : List Use) → AreKnown lossy all v us
    → AreKnown lossy all (selected_all v us) vs → AreKnown lossy all v (us ++ vs)
known_join lossy all v [] vs h g = g
known_join lossy all v (u ∷ us) vs h g = (h.0, known_join lossy all (selected_past v u) us vs h.1 g)

pub known_front : (lossy : Bool) (all : List Use) (v : Selected) (us vs : List Use) → AreKnown lossy all v (us ++ vs) → AreKnown lossy all v us
known_front lossy all v [] vs h = tt
known_front lossy all v (u ∷ us) vs h = (h.0, known_front lossy all (selected_past v u) us vs h.1)

pub known_rest : (lossy : Bool) (all : List Use) (v : Selected) (us vs : List Use) → AreKnown lossy all v (us ++ vs)
    → AreKnown lossy all (selected_all v us) vs
known_rest lossy all v [] vs h = h
known_rest lossy all v (u ∷ us) vs h = known_rest lossy all (selected_past v u) us vs h.1

pub selected_renewed : (f : Known → Known) (v : Selected) (us : List Use) → selected_all v (map (use_renewed f) us) ≡ selected_all v us
selected_renewed f v [] = refl
selected_renewed f v (u ∷ us) = selected_renewed f (selected_past v u) us

-- a use that does not wait selects nothing
pub past_none : (v : Selected) (u : Use) → waits u ≡ false → selected_past v u ≡ v
past_none v u e = ap (λ (b : Bool). cond b (selected_after v (command_in u.command)) v) e

pub past_one : (v : Selected) (u : Use) → waits u ≡ true → selected_past v u ≡ selected_after v (command_in u.command)
past_one v u e = ap (λ (b : Bool). cond b (selected_after v (command_in u.command)) v) e

pub none_past : (v : Selected) (us : List Use) → list_any waits us ≡ false → selected_all v us ≡ v
none_past v [] e = refl
none_past v (u ∷ us) e = let parts = or_parts (waits u) (list_any waits us) e in
    ap (λ (w : Selected). selected_all w us) (past_none v u parts.0) ∙ none_past v us parts.1

pub none_known : (lossy : Bool) (all : List Use) (v : Selected) (us : List Use) → list_any waits us ≡ false → AreKnown lossy all v us
none_known lossy all v [] e = tt
none_known lossy all v (u ∷ us) e = let parts = or_parts (waits u) (list_any waits us) e in (
  subst (λ (b : Bool). KnowsIf b lossy all v u) (sym parts.0) tt,
  none_known lossy all (selected_past v u) us parts.1,
)

-- what is known of each is renewed
pub known_moved : (lossy later : Bool) (us vs : List Use) (f : Known → Known) (v : Selected) (ws : List Use)
    → ((top : ℕ) (w : Selected) (k : Known) → Holds lossy us top w k → Holds later vs top w (f k))
    → AreKnown lossy us v ws → AreKnown later vs v (map (use_renewed f) ws)
known_moved lossy later us vs f v [] m h = tt
known_moved lossy later us vs f v (w ∷ ws) m h =
    (go (waits w) h.0, known_moved lossy later us vs f (selected_past v w) ws m h.1)
  where
    go : (b : Bool) → KnowsIf b lossy us v w → KnowsIf b later vs v (use_renewed f w)
    go true g = m w.line v w.known g
    go false g = tt

-- ---- a table and a witness

-- where no command has failed, what is open and what is unsent is what is to be counted; a witness that knows what is selected reports of each
-- its act; and what is known for each that is open, and for the next, is what is selected above it
pub record IsNext (lossy : Bool) (d : Dialogue) (y : Tally) : Type 0 where
  pub base : Selected
  pub commands : live d.uses ++ commands_of y.unsent ≡ commands_of y.todo
  pub agrees : Agrees base y.todo
  pub known : AreKnown lossy d.uses base d.uses
  pub last : Holds lossy d.uses d.lines (selected_all base d.uses) d.known

-- a witness has the client's open commands at the client's stages, and has reported what is counted; the first argument: a line came that belongs
-- to no command
pub record AgreesOn (lossy : Bool) (b : Table) (d : Dialogue) : Type 0 where
  pub ours : AreOurs d.uses
  pub rising : AreCounted 0 d.uses d.lines
  pub straight : d.crossed ≡ false
  pub events : list_any (λ (m : ℕ). m == 0) d.events ≡ false
  pub standard : picks is_standard d.uses ≡ b.standard
  pub event : picks is_event d.uses ≡ b.event
  pub exact : lossy ≡ false → d.reported ≡ all_done b.tally.counted
  pub claims : Claims b.tally.counted d.reported
  pub arguments : HaveArguments b.tally.unsent
  pub no_abort : HasNoAbort b.tally.unsent
  pub calm : b.tally.failed ≡ false → IsNext lossy d b.tally
