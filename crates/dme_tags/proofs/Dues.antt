-- Which mark is taken in and which refusal is due, by what is held under the tag.
use Rattle.dme_tags.proofs.Names.{[], ◌&&◌, ◌↔◌, ◌∙◌, ◌∷◌, ◌≡◌, ◌⊎◌, ahead_of, all_failed, and_parts, Answer, ap, asks_data, AwaitsData, Becomes}
use Rattle.dme_tags.proofs.Names.{Bool, Breaks, Cause, cause_of, Closes, cond, Counts, Datum, Effect, Err, Event, false, false≢true, fits, fits_asks}
use Rattle.dme_tags.proofs.Names.{HasData, Heard, heard, heard_event, heard_in, heard_standard, held_kind, IfErr, IfOk, inl, inr, is_failed, is_next}
use Rattle.dme_tags.proofs.Names.{IsErrOf, IsNext, IsOk, IsRefused, judged, judged_ack, judged_done, judged_error, judged_given, Kind, kind_under}
use Rattle.dme_tags.proofs.Names.{List, Mark, may_be_given, None, not, Ok, OpenCommand, OpenValue, Option, put_before, refl, Refused, Result, settled}
use Rattle.dme_tags.proofs.Names.{Some, Stage, standing, standing_in, Std, subst, sym, Tag, tag_is, TagFault, true, Verdict, ℕ}
use Rattle.dme_tags.proofs.Fitting.{asked}
use Rattle.dme_tags.proofs.Refusals.{refused_standard, refused_event}

-- ---- why a mark is refused

abbrev pub Standing : Type 0
Standing = Option (Kind × Stage)

abbrev pub refusal_of : Verdict → Option Cause
refusal_of (Becomes stage) = None
refusal_of Breaks = None
refusal_of Closes = None
refusal_of (Counts given) = None
refusal_of (Refused why) = Some why

abbrev pub refusal_under : Standing → Bool → Mark → Option Cause
refusal_under None front m = Some Cause.UnknownTag
refusal_under (Some (k, stage)) front m = refusal_of (judged front k stage m)

abbrev refusal_in : Heard → Option Cause
refusal_in (Ok r) = None
refusal_in (Err why) = Some why

abbrev pub refusal_heard : Answer → Option Cause
refusal_heard (Ok r) = None
refusal_heard (Err why) = Some why

settled_refusal : (h : OpenCommand) (hs : List OpenCommand) (v : Verdict) → refusal_in (settled h hs v) ≡ refusal_of v
settled_refusal h hs (Becomes stage) = refl
settled_refusal h hs Breaks = refl
settled_refusal h hs Closes = refl
settled_refusal h hs (Counts given) = refl
settled_refusal h hs (Refused why) = refl

put_refusal : (h : OpenCommand) (r : Heard) → refusal_in (put_before h r) ≡ refusal_in r
put_refusal h (Ok r) = refl
put_refusal h (Err why) = refl

pub and_true : (b : Bool) → (b && true) ≡ b
and_true true = refl
and_true false = refl

pub and_assoc : (a b c : Bool) → ((a && b) && c) ≡ (a && (b && c))
and_assoc true b c = refl
and_assoc false b c = refl

refusal_is : (front : Bool) (hs : List OpenCommand) (t : Tag) (m : Mark)
    → refusal_in (heard_in front hs t m) ≡ refusal_under (standing_in t hs) (front && all_failed (ahead_of t hs)) m
refusal_is front [] t m = refl
refusal_is front (h ∷ hs) t m = go (refusal_is (front && is_failed h.stage) hs t m) (tag_is h.tag t)
  where
    go : refusal_in (heard_in (front && is_failed h.stage) hs t m)
        ≡ refusal_under (standing_in t hs) ((front && is_failed h.stage) && all_failed (ahead_of t hs)) m
        → (b : Bool) → refusal_in (cond b (settled h hs (judged front h.kind h.stage m))
        (put_before h (heard_in (front && is_failed h.stage) hs t m)))
        ≡ refusal_under (cond b (Some (h.kind, h.stage)) (standing_in t hs)) (front && all_failed (cond b [] (h ∷ ahead_of t hs))) m
    go deeper true = settled_refusal h hs (judged front h.kind h.stage m)
        ∙ ap (λ (b : Bool). refusal_of (judged b h.kind h.stage m)) (sym (and_true front))
    go deeper false = put_refusal h (heard_in (front && is_failed h.stage) hs t m)
        ∙ (deeper ∙ ap (λ (b : Bool). refusal_under (standing_in t hs) b m)
        (and_assoc front (is_failed h.stage) (all_failed (ahead_of t hs))))

standard_refusal : (o : OpenValue) (r : Heard) → refusal_heard (heard_standard o r) ≡ refusal_in r
standard_refusal o (Ok r) = refl
standard_refusal o (Err why) = refl

event_refusal : (o : OpenValue) (r : Heard) → refusal_heard (heard_event o r) ≡ refusal_in r
event_refusal o (Ok r) = refl
event_refusal o (Err why) = refl

pub refusal_due : (o : OpenValue) (t : Tag) (m : Mark) → refusal_heard (heard o t m) ≡ refusal_under (standing t o) (is_next t o) m
refusal_due o (Std n) m = standard_refusal o (heard_in (not o.failed) o.standard (Std n) m) ∙ refusal_is (not o.failed) o.standard (Std n) m
refusal_due o (Event n) m = event_refusal o (heard_in true o.event (Event n) m) ∙ refusal_is true o.event (Event n) m

pub next_only : (t : Tag) (o : OpenValue) → is_next t o ≡ true → IsNext t o
next_only (Std n) o e = go o.failed e
  where
    go : (f : Bool) → (not f && all_failed (ahead_of (Std n) o.standard)) ≡ true → (f ≡ false)
        × (all_failed (ahead_of (Std n) o.standard) ≡ true)
    go true h = absurd (false≢true h)
    go false h = (refl, h)
next_only (Event n) o e = e

pub next_all : (t : Tag) (o : OpenValue) → IsNext t o → is_next t o ≡ true
next_all (Std n) o e = ap (λ (f : Bool). not f && all_failed (ahead_of (Std n) o.standard)) e.0 ∙ e.1
next_all (Event n) o e = e

-- ---- an answer of a call that agrees with the table

abbrev pub IsSaid : Option Cause → Option Cause → Type 0
IsSaid due None = ⊥
IsSaid due (Some why) = due ≡ Some why

abbrev pub Fits : {T : Type 0} → Result T TagFault → Option Cause → Type 0
Fits (Ok x) due = due ≡ None
Fits (Err f) due = IsSaid due (cause_of f)

refused_said : (a : Answer) (c : Option Cause) → IsRefused a c → IsSaid (refusal_heard a) c
refused_said a None h = h
refused_said a (Some why) h = ap refusal_heard h

pub fits_err : (T : Type 0) (o : OpenValue) (t : Tag) (m : Mark) (f : TagFault) → IsRefused (heard o t m) (cause_of f)
    → Fits {T = T} (Err f) (refusal_under (standing t o) (is_next t o) m)
fits_err T o t m f h = subst (λ (due : Option Cause). IsSaid due (cause_of f)) (refusal_due o t m)
    (refused_said (heard o t m) (cause_of f) h)

pub fits_ok : (T : Type 0) (o n : OpenValue) (t : Tag) (m : Mark) (e : Effect) (x : T) → heard o t m ≡ Ok (n, e)
    → Fits {T = T} (Ok x) (refusal_under (standing t o) (is_next t o) m)
fits_ok T o n t m e x h = sym (refusal_due o t m) ∙ ap refusal_heard h

-- ---- data

-- the answer to data for a command at the front, and for any other
data_none : (d : Bool) (s : Stage) (p : Datum) → refusal_of (judged_given d s p) ≡ None → (d ≡ true) × (s ≡ Stage.Received)
data_none true Stage.Sent p e = absurd (cc)
data_none true Stage.Received p e = (refl, refl)
data_none true (Stage.Given q) p e = absurd (cc)
data_none true Stage.Failed p e = absurd (cc)
data_none false s p e = absurd (cc)

data_second : (d : Bool) (s : Stage) (p : Datum) → refusal_of (judged_given d s p) ≡ Some Cause.SecondData → (d ≡ true)
    × ((q : Datum) × (s ≡ Stage.Given q))
data_second true Stage.Sent p e = absurd (cc)
data_second true Stage.Received p e = absurd (cc)
data_second true (Stage.Given q) p e = (refl, (q, refl))
data_second true Stage.Failed p e = absurd (cc)
data_second false s p e = absurd (cc)

-- ---- each answer exactly when it is due

pub none_some : (c : Cause) (due : Option Cause) → due ≡ Some c → due ≡ None → ⊥
none_some c due a b = cc

-- the fault for a cause
abbrev pub fault_for : Option Cause → TagFault
fault_for None = TagFault.Memory
fault_for (Some Cause.NotResponse) = TagFault.Memory
fault_for (Some Cause.LineTooLong) = TagFault.Memory
fault_for (Some Cause.BadByte) = TagFault.Memory
fault_for (Some Cause.UnknownTag) = TagFault.UnknownTag
fault_for (Some Cause.OutOfOrder) = TagFault.OutOfOrder
fault_for (Some Cause.NoData) = TagFault.NoData
fault_for (Some Cause.SecondData) = TagFault.SecondData
fault_for (Some Cause.TagsSpent) = TagFault.TagsSpent

fault_back : (f : TagFault) → f ≡ fault_for (cause_of f)
fault_back TagFault.UnknownTag = refl
fault_back TagFault.OutOfOrder = refl
fault_back TagFault.NoData = refl
fault_back TagFault.SecondData = refl
fault_back TagFault.TagsSpent = refl
fault_back TagFault.Memory = refl

pub said_is : (due c : Option Cause) → IsSaid due c → due ≡ c
said_is due None h = absurd h
said_is due (Some why) h = h

pub ok_exactly : {T : Type 0} (r : Result T TagFault) (due : Option Cause) → Fits r due → IsOk r ↔ (due ≡ None)
ok_exactly (Ok x) due h = (λ _. h, λ _. refl)
ok_exactly (Err f) due h = (λ no. absurd (false≢true no), λ none. absurd (go (cause_of f) h none))
  where
    go : (c : Option Cause) → IsSaid due c → due ≡ None → ⊥
    go None said none = said
    go (Some why) said none = none_some why due said none

pub err_exactly : {T : Type 0} (r : Result T TagFault) (due : Option Cause) (why : Cause) (f : TagFault) → cause_of f ≡ Some why
    → Fits r due → IsErrOf r f ↔ (due ≡ Some why)
err_exactly {T} (Ok x) due why f is h = (λ e. absurd (go e), λ e. absurd (none_some why due e h))
  where
    go : ◌≡◌ {A = Result T TagFault} (Ok x) (Err f) → ⊥
    go e = cc
err_exactly {T} (Err g) due why f is h = (
  λ e. said_is due (cause_of g) h ∙ ap cause_of (same e) ∙ is,
  λ e. ap (λ (k : TagFault). Err k) (fault_back g ∙ ap fault_for (sym (said_is due (cause_of g) h) ∙ e ∙ sym is) ∙ sym (fault_back f)),
)
  where
    same : ◌≡◌ {A = Result T TagFault} (Err g) (Err f) → g ≡ f
    same e = cc

-- a call that is refused answers one of these faults
pub named_by : {T : Type 0} (r : Result T TagFault) (due : Option Cause) (P : TagFault → Type 0) → Fits r due
    → ((why : Cause) → due ≡ Some why → P (fault_for (Some why))) → IfErr r P
named_by (Ok x) due P h each = tt
named_by (Err f) due P h each = go (cause_of f) refl h
  where
    go : (c : Option Cause) → cause_of f ≡ c → IsSaid due c → P f
    go None is said = absurd said
    go (Some why) is said = subst P (sym (fault_back f ∙ ap fault_for is)) (each why said)

-- ---- the conditions

pub compose : {A B C : Type 0} → A ↔ B → B ↔ C → A ↔ C
compose f g = (λ a. g.0 (f.0 a), λ c. f.1 (g.1 c))

pub next_iff : (t : Tag) (o : OpenValue) (A : Type 0) → (A × (is_next t o ≡ true)) ↔ (A × IsNext t o)
next_iff t o A = (λ h. (h.0, next_only t o h.1), λ h. (h.0, next_all t o h.1))

abbrev kind_part : Standing → Option Kind
kind_part None = None
kind_part (Some (k, s)) = Some k

held_kind_is : (t : Tag) (hs : List OpenCommand) → held_kind t hs ≡ kind_part (standing_in t hs)
held_kind_is t [] = refl
held_kind_is t (h ∷ hs) = go (held_kind_is t hs) (tag_is h.tag t)
  where
    go : held_kind t hs ≡ kind_part (standing_in t hs) → (b : Bool)
        → cond b (Some h.kind) (held_kind t hs) ≡ kind_part (cond b (Some (h.kind, h.stage)) (standing_in t hs))
    go deeper true = refl
    go deeper false = deeper

kind_under_is : (t : Tag) (o : OpenValue) → kind_under t o ≡ kind_part (standing t o)
kind_under_is (Std n) o = held_kind_is (Std n) o.standard
kind_under_is (Event n) o = held_kind_is (Event n) o.event

nothing_stands : (s : Standing) → kind_part s ≡ None → s ≡ None
nothing_stands None e = refl
nothing_stands (Some (k, s)) e = absurd (cc)

-- why a mark is refused under whose tag a command is held: the cause is never that no command is held
pub ack_causes : (s : Stage) (why : Cause) → refusal_of (judged_ack s) ≡ Some why → why ≡ Cause.OutOfOrder
ack_causes Stage.Sent why e = absurd (cc)
ack_causes Stage.Received why e = cc
ack_causes (Stage.Given q) why e = cc
ack_causes Stage.Failed why e = cc

data_causes : (d : Bool) (s : Stage) (p : Datum) (why : Cause) → refusal_of (judged_given d s p) ≡ Some why
    → (why ≡ Cause.OutOfOrder) ⊎ (why ≡ Cause.SecondData)
data_causes true Stage.Sent p why e = inl (cc)
data_causes true Stage.Received p why e = absurd (cc)
data_causes true (Stage.Given q) p why e = inr (cc)
data_causes true Stage.Failed p why e = inl (cc)
data_causes false s p why e = inl (cc)

pub error_causes : (s : Stage) (why : Cause) → refusal_of (judged_error s) ≡ Some why → ⊥
error_causes Stage.Sent why e = cc
error_causes Stage.Received why e = cc
error_causes (Stage.Given q) why e = cc
error_causes Stage.Failed why e = cc

pub done_causes : (b a : Bool) (s : Stage) (why : Cause) → refusal_of (judged_done b a s) ≡ Some why
    → (why ≡ Cause.OutOfOrder) ⊎ (why ≡ Cause.NoData)
done_causes true true Stage.Sent why e = inl (cc)
done_causes true true Stage.Received why e = inr (cc)
done_causes true true (Stage.Given q) why e = absurd (cc)
done_causes true true Stage.Failed why e = absurd (cc)
done_causes true false Stage.Sent why e = inl (cc)
done_causes true false Stage.Received why e = absurd (cc)
done_causes true false (Stage.Given q) why e = absurd (cc)
done_causes true false Stage.Failed why e = absurd (cc)
done_causes false a Stage.Sent why e = inl (cc)
done_causes false a Stage.Received why e = inl (cc)
done_causes false a (Stage.Given q) why e = inl (cc)
done_causes false a Stage.Failed why e = absurd (cc)

-- the faults for one of two causes, or that no command is held
pub named_two : (why a b : Cause) → (why ≡ a) ⊎ (why ≡ b) → (fault_for (Some why) ≡ TagFault.UnknownTag)
    ⊎ (fault_for (Some why) ≡ fault_for (Some a)) ⊎ (fault_for (Some why) ≡ fault_for (Some b))
named_two why a b (inl e) = inr (inl (ap (λ (w : Cause). fault_for (Some w)) e))
named_two why a b (inr e) = inr (inr (ap (λ (w : Cause). fault_for (Some w)) e))

unknown_two : (a : Cause) → (Cause.UnknownTag ≡ a → ⊥) → (Cause.UnknownTag ≡ Cause.OutOfOrder) ⊎ (Cause.UnknownTag ≡ a) → ⊥
unknown_two a apart (inl e) = cc
unknown_two a apart (inr e) = apart e

unknown_judged : (front : Bool) (k : Kind) (s : Stage) (m : Mark) → refusal_of (judged front k s m) ≡ Some Cause.UnknownTag → ⊥
unknown_judged front k s Mark.Ack e = go (ack_causes s Cause.UnknownTag e)
  where
    go : Cause.UnknownTag ≡ Cause.OutOfOrder → ⊥
    go e = cc
unknown_judged front k s (Mark.Given p) e = unknown_two _ go (data_causes (front && fits k p) s p Cause.UnknownTag e)
  where
    go : Cause.UnknownTag ≡ Cause.SecondData → ⊥
    go e = cc
unknown_judged front k s Mark.Error e = error_causes s Cause.UnknownTag e
unknown_judged front k s Mark.Done e = unknown_two _ go (done_causes front (asks_data k) s Cause.UnknownTag e)
  where
    go : Cause.UnknownTag ≡ Cause.NoData → ⊥
    go e = cc

unknown_due : (s : Standing) (front : Bool) (m : Mark) → (refusal_under s front m ≡ Some Cause.UnknownTag) ↔ (s ≡ None)
unknown_due None front m = (λ _. refl, λ _. refl)
unknown_due (Some (k, s)) front m = (λ e. absurd (unknown_judged front k s m e), λ e. absurd (cc))

unknown_kind : (o : OpenValue) (t : Tag) (m : Mark) → (refusal_under (standing t o) (is_next t o) m ≡ Some Cause.UnknownTag)
    ↔ (kind_under t o ≡ None)
unknown_kind o t m = compose (unknown_due (standing t o) (is_next t o) m)
    (λ e. kind_under_is t o ∙ ap kind_part e, λ e. nothing_stands (standing t o) (sym (kind_under_is t o) ∙ e))

-- what is held under a tag, in its parts
abbrev kind_or : Standing → Kind → Kind
kind_or None d = d
kind_or (Some (k, s)) d = k

abbrev stage_or : Standing → Stage → Stage
stage_or None d = d
stage_or (Some (k, s)) d = s

pub kinds_same : (j k : Kind) (s r : Stage) → ◌≡◌ {A = Standing} (Some (j, s)) (Some (k, r)) → j ≡ k
kinds_same j k s r e = ap (λ (x : Standing). kind_or x j) e

pub stages_same : (j k : Kind) (s r : Stage) → ◌≡◌ {A = Standing} (Some (j, s)) (Some (k, r)) → s ≡ r
stages_same j k s r e = ap (λ (x : Standing). stage_or x s) e

-- a command that asks for data is at this stage
abbrev pub Asks : Standing → Stage → Type 0
Asks st s = (k : Kind) × (asks_data k ≡ true) × (st ≡ Some (k, s))

-- what is asked of a command that asks for data, by what is given to it
asked_of : (j k : Kind) (s r : Stage) (b : Bool) (d : Datum) → may_be_given (Some j) d ≡ true → asks_data k ≡ true
    → ◌≡◌ {A = Standing} (Some (j, s)) (Some (k, r)) → b ≡ true
    → refusal_of (judged_given (b && fits j d) s d) ≡ refusal_of (judged_given true r d)
asked_of j k s r b d may asks is front =
    let fit : fits j d ≡ true = asked j d may ∙ (ap asks_data (kinds_same j k s r is) ∙ asks) in
    ap (λ (x : Bool). refusal_of (judged_given (x && fits j d) s d)) front
    ∙ (ap (λ (x : Bool). refusal_of (judged_given x s d)) fit
    ∙ ap (λ (x : Stage). refusal_of (judged_given true x d)) (stages_same j k s r is))

awaits_due : (s : Standing) (b : Bool) (d : Datum) → may_be_given (kind_part s) d ≡ true → (refusal_under s b (Mark.Given d) ≡ None)
    ↔ (Asks s Stage.Received × (b ≡ true))
awaits_due None b d may = (λ e. absurd (cc), λ e. absurd (go e.0.0 e.0.2))
  where
    go : (k : Kind) → ◌≡◌ {A = Standing} None (Some (k, Stage.Received)) → ⊥
    go k e = cc
awaits_due (Some (k, s)) b d may = (only, all)
  where
    only : refusal_of (judged_given (b && fits k d) s d) ≡ None → Asks (Some (k, s)) Stage.Received × (b ≡ true)
    only e = let both = data_none (b && fits k d) s d e in let parts = and_parts b (fits k d) both.0 in
        ((k, fits_asks k d parts.1, ap (λ (x : Stage). Some (k, x)) both.1), parts.0)

    all : Asks (Some (k, s)) Stage.Received × (b ≡ true) → refusal_of (judged_given (b && fits k d) s d) ≡ None
    all e = asked_of k e.0.0 s Stage.Received b d may e.0.1 e.0.2 e.1

-- a command that asks for data has them
abbrev pub HasAsked : Standing → Type 0
HasAsked st = (k : Kind) × (asks_data k ≡ true) × ((q : Datum) × (st ≡ Some (k, Stage.Given q)))

second_due : (s : Standing) (b : Bool) (d : Datum) → may_be_given (kind_part s) d ≡ true
    → (refusal_under s b (Mark.Given d) ≡ Some Cause.SecondData) ↔ (HasAsked s × (b ≡ true))
second_due None b d may = (λ e. absurd (cc), λ e. absurd (go e.0.0 e.0.2.0 e.0.2.1))
  where
    go : (k : Kind) (q : Datum) → ◌≡◌ {A = Standing} None (Some (k, Stage.Given q)) → ⊥
    go k q e = cc
second_due (Some (k, s)) b d may = (only, all)
  where
    only : refusal_of (judged_given (b && fits k d) s d) ≡ Some Cause.SecondData → HasAsked (Some (k, s)) × (b ≡ true)
    only e = let both = data_second (b && fits k d) s d e in let parts = and_parts b (fits k d) both.0 in
        ((k, fits_asks k d parts.1, (both.1.0, ap (λ (x : Stage). Some (k, x)) both.1.1)), parts.0)

    all : HasAsked (Some (k, s)) × (b ≡ true) → refusal_of (judged_given (b && fits k d) s d) ≡ Some Cause.SecondData
    all e = asked_of k e.0.0 s (Stage.Given e.0.2.0) b d may e.0.1 e.0.2.1 e.1

data_named : (s : Standing) (b : Bool) (p : Datum) (why : Cause) → refusal_under s b (Mark.Given p) ≡ Some why
    → (fault_for (Some why) ≡ TagFault.UnknownTag) ⊎ (fault_for (Some why) ≡ TagFault.OutOfOrder) ⊎ (fault_for (Some why) ≡ TagFault.SecondData)
data_named None b p why e = inl (ap fault_for (sym e))
data_named (Some (k, s)) b p why e = named_two why _ _ (data_causes (b && fits k p) s p why e)

-- ---- what a call knows of its answer

abbrev pub Agrees : {T : Type 0} → OpenValue → Tag → Mark → Result T TagFault → Type 0
Agrees o t m r = Fits r (refusal_under (standing t o) (is_next t o) m)

pub unknown_exactly : {T : Type 0} (o : OpenValue) (t : Tag) (m : Mark) (r : Result T TagFault) → Agrees o t m r
    → IsErrOf r TagFault.UnknownTag
    ↔ (kind_under t o ≡ None)
unknown_exactly o t m r h = compose (err_exactly r _ Cause.UnknownTag TagFault.UnknownTag refl h) (unknown_kind o t m)

may_under : (o : OpenValue) (t : Tag) (d : Datum) → may_be_given (kind_under t o) d ≡ true
    → may_be_given (kind_part (standing t o)) d ≡ true
may_under o t d may = ap (λ (k : Option Kind). may_be_given k d) (sym (kind_under_is t o)) ∙ may

pub data_exactly : {T : Type 0} (o : OpenValue) (t : Tag) (d : Datum) (r : Result T TagFault) → may_be_given (kind_under t o) d ≡ true
    → Agrees o t (Mark.Given d) r → IsOk r ↔ AwaitsData t o
data_exactly o t d r may h = compose (ok_exactly r _ h) (compose (awaits_due (standing t o) (is_next t o) d (may_under o t d may))
    (next_iff t o (Asks (standing t o) Stage.Received)))

pub second_exactly : {T : Type 0} (o : OpenValue) (t : Tag) (d : Datum) (r : Result T TagFault) → may_be_given (kind_under t o) d ≡ true
    → Agrees o t (Mark.Given d) r → IsErrOf r TagFault.SecondData ↔ HasData t o
second_exactly o t d r may h = compose (err_exactly r _ Cause.SecondData TagFault.SecondData refl h)
    (compose (second_due (standing t o) (is_next t o) d (may_under o t d may)) (next_iff t o (HasAsked (standing t o))))

pub data_told : {T : Type 0} (o : OpenValue) (t : Tag) (p : Datum) (r : Result T TagFault) → Agrees o t (Mark.Given p) r
    → IfErr r (λ f. (f ≡ TagFault.UnknownTag) ⊎ (f ≡ TagFault.OutOfOrder) ⊎ (f ≡ TagFault.SecondData))
data_told o t p r h = named_by r _ (λ f. (f ≡ TagFault.UnknownTag) ⊎ (f ≡ TagFault.OutOfOrder)
    ⊎ (f ≡ TagFault.SecondData)) h (data_named (standing t o) (is_next t o) p)

agrees : (T : Type 0) (o n : OpenValue) (t : Tag) (m : Mark) (e : T → Effect) (r : Result T TagFault)
    → IfOk r (λ x. heard o t m ≡ Ok (n, e x))
    → IfErr r (λ f. IsRefused (heard o t m) (cause_of f)) → Agrees o t m r
agrees T o n t m e (Ok x) ok refused = fits_ok T o n t m (e x) x ok
agrees T o n t m e (Err f) ok refused = fits_err T o t m f refused

-- from what is known of the list of one sort of tags
pub agrees_standard : {T : Type 0} (o : OpenValue) (failed : Bool) (hs gs : List OpenCommand) (t : Tag) (n : ℕ) (m : Mark) (e : T
    → Effect) (r : Result T TagFault)
    → t ≡ Std n → failed ≡ o.failed → hs ≡ o.standard
    → IfOk r (λ x. heard_in (not failed) hs t m ≡ Ok (gs, e x)) → IfErr r (λ f. IsRefused (heard_in (not failed) hs t m) (cause_of f))
    → Agrees o t m r
agrees_standard {T} o failed hs gs t n m e (Ok x) is bad held ok refused =
    subst (λ (u : Tag). Agrees o u m (Ok x)) (sym is)
    (sym (refusal_due o (Std n) m) ∙ (standard_refusal o (heard_in (not o.failed) o.standard (Std n) m)
    ∙ (ap (λ (f : Bool). refusal_in (heard_in (not f) o.standard (Std n) m)) (sym bad)
    ∙ (ap (λ (l : List OpenCommand). refusal_in (heard_in (not failed) l (Std n) m)) (sym held)
    ∙ (ap (λ (u : Tag). refusal_in (heard_in (not failed) hs u m)) (sym is) ∙ ap refusal_in ok)))))
agrees_standard {T} o failed hs gs t n m e (Err f) is bad held ok refused =
    fits_err T o t m f (refused_standard o hs t n m (cause_of f) is held
    (subst (λ (b : Bool). IsRefused (heard_in (not b) hs t m) (cause_of f)) bad refused))

pub agrees_event : {T : Type 0} (o : OpenValue) (hs gs : List OpenCommand) (t : Tag) (n : ℕ) (m : Mark) (e : T → Effect)
    (r : Result T TagFault)
    → t ≡ Event n → hs ≡ o.event
    → IfOk r (λ x. heard_in true hs t m ≡ Ok (gs, e x)) → IfErr r (λ f. IsRefused (heard_in true hs t m) (cause_of f)) → Agrees o t m r
agrees_event {T} o hs gs t n m e (Ok x) is held ok refused =
    subst (λ (u : Tag). Agrees o u m (Ok x)) (sym is)
    (sym (refusal_due o (Event n) m) ∙ (event_refusal o (heard_in true o.event (Event n) m)
    ∙ (ap (λ (l : List OpenCommand). refusal_in (heard_in true l (Event n) m)) (sym held)
    ∙ (ap (λ (u : Tag). refusal_in (heard_in true hs u m)) (sym is) ∙ ap refusal_in ok))))
agrees_event {T} o hs gs t n m e (Err f) is held ok refused = fits_err T o t m f (refused_event o hs t n m (cause_of f) is held refused)
