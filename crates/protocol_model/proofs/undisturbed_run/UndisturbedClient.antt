-- A client that follows one plan from its first command on: what it has sent are the first lines of the plan.
use Rattle.protocol_model.proofs.Names.{[], ◌&&◌, ◌++◌, ◌||◌, ◌∙◌, ◌∷◌, ◌≡◌, ◌⊎◌, ap, append_assoc, append_cancel_right, arith, asks_homed, behind}
use Rattle.protocol_model.proofs.Names.{Bool, Cause, Client, client_connected, client_hears, client_read, Command, command_bytes, cond, count_open}
use Rattle.protocol_model.proofs.Names.{Datum, Does, ends_abort, eqb, Err, false, false≢true, faulted, first_state, followed, Frame, frame_behind}
use Rattle.protocol_model.proofs.Names.{FramingFault, Front, front_read, given_for, given_homed, given_point, given_under, heard_on, held_now}
use Rattle.protocol_model.proofs.Names.{held_under, homed_of, inl, inr, is_apart, is_asking, is_failed, is_homing, is_whole, Kind, kind_of}
use Rattle.protocol_model.proofs.Names.{last_state, length, length-append, Line, line_read, lines_from, List, measuring, None, not, NotHomedText}
use Rattle.protocol_model.proofs.Names.{NotPoint, NotResponse, Ok, OpenCommand, Option, plan, Planned, planned, Point, point_of, refl, Response}
use Rattle.protocol_model.proofs.Names.{response_of, response_read, Result, sends_next, Some, Start, State, Step, subst, suc, sym, Table, Tag, tag_at}
use Rattle.protocol_model.proofs.Names.{tag_is, Tally, tool_behind, true, up_to, ℕ}
use Rattle.fixed_um.specs.declared.frames.Frame.TheVariants.{Machine}
use Rattle.dme_line.specs.declared.responses.Mark.{Mark as Marked}
use Rattle.protocol_model.specs.Replies.{Mark}
use Rattle.protocol_model.proofs.HeardTables.{heard}
use Rattle.protocol_model.proofs.table.Basics.{if_false}
use Rattle.protocol_model.proofs.table.Replying.{fine}
use Rattle.protocol_model.proofs.written_lines.Writable.{command_bytes_more}
use Rattle.protocol_model.proofs.undisturbed_run.Following.{AreAsked, IsFilled, AreFilled, AreCalm, kinds_held, kinds_of}
use Rattle.protocol_model.proofs.undisturbed_run.Homing.{FirstTells, HasNoHoming, followed_cons, AreQuiet, IsLeft, Asked, Unasked}
use Rattle.protocol_model.proofs.undisturbed_run.Homing.{IsBefore, IsBehind, HoldsNoHoming, homes_is, holds_more, step_holds}
use Rattle.protocol_model.proofs.undisturbed_run.Homing.{measuring_homes_not, measuring_asks_not}
use Rattle.protocol_model.proofs.undisturbed_run.Counting.{IsCalm, Follows, heard_follows}
use Rattle.protocol_model.proofs.undisturbed_run.PlaceTags.{number_at, drawn_at, tags_more, calm_more, lines_start}

-- on the connection of this number it has sent these first commands of the plan as it is followed, under the tags of their places; where it
-- was answered that the machine is homed, it has sent no command that homes it
pub record IsOnPlan (n : ℕ) (told : Bool) (steps : List Planned) (c : Client) (written : List ℕ) : Type 0 where
  pub on : c.on ≡ true
  pub away : is_apart c.state ≡ false
  pub first : c.last ≡ n
  pub sent : List Planned
  pub follows : Follows told steps sent c.table
  pub holds : told ≡ true → HoldsNoHoming c.table.standard
  pub drawn : c.drawn ≡ drawn_at (length sent)
  pub written_is : written ≡ command_bytes (lines_from 0 sent)

-- the first act that a client has counted says what is reported
abbrev pub HasTold : Bool → Client → Type 0
HasTold told c = FirstTells told c.table.tally.counted

-- ---- replies

last_away : (s : State) (whole : Bool) (open_now : ℕ) → is_apart s ≡ false → is_apart (last_state s whole open_now) ≡ false
last_away State.Apart whole open_now h = h
last_away State.Running true open_now h = refl
last_away State.Running false open_now h = refl
last_away State.Failing true open_now h = refl
last_away State.Failing false open_now h = go (eqb open_now 0)
  where
    go : (b : Bool) → is_apart (cond b State.Halted State.Failing) ≡ false
    go true = refl
    go false = refl
last_away State.Aborting whole open_now h = refl
last_away State.Halted whole open_now h = refl
last_away State.Done whole open_now h = refl
last_away State.Faulted whole open_now h = refl

first_away : (s : State) (ends failed : Bool) → is_apart s ≡ false → is_apart (first_state s ends failed) ≡ false
first_away State.Apart ends failed h = h
first_away State.Running ends true h = refl
first_away State.Running ends false h = refl
first_away State.Failing ends failed h = refl
first_away State.Aborting true failed h = refl
first_away State.Aborting false failed h = refl
first_away State.Halted ends failed h = refl
first_away State.Done ends failed h = refl
first_away State.Faulted ends failed h = refl

pub stays_faulted : (n : ℕ) (told : Bool) (steps : List Planned) (c : Client) (written : List ℕ) (cause : Cause)
    → IsOnPlan n told steps c written → IsOnPlan n told steps (faulted cause c) written
stays_faulted n told steps c written cause h = record {
  on = h.on;
  away = refl;
  first = h.first;
  sent = h.sent;
  follows = h.follows;
  holds = h.holds;
  drawn = h.drawn;
  written_is = h.written_is;
}

hears_on : (n : ℕ) (told : Bool) (steps : List Planned) (c : Client) (written : List ℕ) (t : Tag) (m : Mark)
    → AreAsked (followed told steps) → IsOnPlan n told steps c written
    → (r : Result Table Cause) → heard c.program.features c.table t m ≡ r → HasTold told (client_hears c t m r)
    → IsOnPlan n told steps (client_hears c t m r) written
hears_on n told steps c written t m asked h (Ok b) e tells = record {
  on = h.on;
  away = last_away (first_state c.state (ends_abort c.abort t m) b.tally.failed) (is_whole b) (count_open b.standard)
      (first_away c.state (ends_abort c.abort t m) b.tally.failed h.away);
  first = h.first;
  sent = h.sent;
  follows = heard_follows c.program.features told steps h.sent asked c.table t m b e tells h.follows;
  holds = λ is. step_holds c.program.features c.table t m b e (h.holds is);
  drawn = h.drawn;
  written_is = h.written_is;
}
hears_on n told steps c written t m asked h (Err cause) e tells = stays_faulted n told steps c written cause h

pub read_on : (n : ℕ) (told : Bool) (steps : List Planned) (c : Client) (written : List ℕ) (t : Tag) (m : Mark)
    → AreAsked (followed told steps) → IsOnPlan n told steps c written → HasTold told (client_read c t m)
    → IsOnPlan n told steps (client_read c t m) written
read_on n told steps c written t m asked h tells = go (tag_is t (Tag.Event 0)) refl tells
  where
    go : (b : Bool) → tag_is t (Tag.Event 0) ≡ b
        → HasTold told (cond b c (client_hears c t m (heard_on c.program.features c.table t m)))
        → IsOnPlan n told steps (cond b c (client_hears c t m (heard_on c.program.features c.table t m))) written
    go true e tells = h
    go false e tells = hears_on n told steps c written t m asked h (heard_on c.program.features c.table t m)
        (if_false {A = Result Table Cause} (tag_is t (Tag.Event 0)) (fine c.table) (heard_on c.program.features c.table t m) e) tells

-- ---- whatever is read

one_of : (n : ℕ) (told : Bool) (steps : List Planned) (written : List ℕ) (b : Bool) (d e : Client) → IsOnPlan n told steps d written
    → (HasTold told e → IsOnPlan n told steps e written) → HasTold told (cond b d e) → IsOnPlan n told steps (cond b d e) written
one_of n told steps written true d e p q tells = p
one_of n told steps written false d e p q tells = q tells

point_on : (n : ℕ) (told : Bool) (steps : List Planned) (c : Client) (written : List ℕ) (t : Tag) (r : Result Point NotPoint)
    → AreAsked (followed told steps) → IsOnPlan n told steps c written → HasTold told (given_point c t r)
    → IsOnPlan n told steps (given_point c t r) written
point_on n told steps c written t (Ok p) asked h tells = read_on n told steps c written t (Mark.Given (Datum.Point p)) asked h tells
point_on n told steps c written t (Err why) asked h tells = stays_faulted n told steps c written Cause.NotResponse h

homed_on : (n : ℕ) (told : Bool) (steps : List Planned) (c : Client) (written : List ℕ) (t : Tag) (r : Result Bool NotHomedText)
    → AreAsked (followed told steps) → IsOnPlan n told steps c written → HasTold told (given_homed c t r)
    → IsOnPlan n told steps (given_homed c t r) written
homed_on n told steps c written t (Ok homed) asked h tells =
    read_on n told steps c written t (Mark.Given (Datum.Homed homed)) asked h tells
homed_on n told steps c written t (Err why) asked h tells = stays_faulted n told steps c written Cause.NotResponse h

for_on : (n : ℕ) (told : Bool) (steps : List Planned) (c : Client) (written : List ℕ) (t : Tag) (text : List ℕ)
    (k : Kind) → AreAsked (followed told steps) → IsOnPlan n told steps c written → HasTold told (given_for c t text k)
    → IsOnPlan n told steps (given_for c t text k) written
for_on n told steps c written t text Kind.PtMeas asked h tells =
    point_on n told steps c written t (point_of text) asked h tells
for_on n told steps c written t text Kind.IsHomed asked h tells =
    homed_on n told steps c written t (homed_of text) asked h tells
for_on n told steps c written t text Kind.StartSession asked h tells = stays_faulted n told steps c written Cause.OutOfOrder h
for_on n told steps c written t text Kind.EndSession asked h tells = stays_faulted n told steps c written Cause.OutOfOrder h
for_on n told steps c written t text Kind.ClearAllErrors asked h tells = stays_faulted n told steps c written Cause.OutOfOrder h
for_on n told steps c written t text Kind.Home asked h tells = stays_faulted n told steps c written Cause.OutOfOrder h
for_on n told steps c written t text Kind.OnPtMeasReport asked h tells = stays_faulted n told steps c written Cause.OutOfOrder h
for_on n told steps c written t text Kind.GoTo asked h tells = stays_faulted n told steps c written Cause.OutOfOrder h
for_on n told steps c written t text Kind.ChangeTool asked h tells = stays_faulted n told steps c written Cause.OutOfOrder h
for_on n told steps c written t text Kind.SetCsyTransformation asked h tells =
    stays_faulted n told steps c written Cause.OutOfOrder h
for_on n told steps c written t text Kind.SetCoordSystem asked h tells = stays_faulted n told steps c written Cause.OutOfOrder h
for_on n told steps c written t text Kind.AbortE asked h tells = stays_faulted n told steps c written Cause.OutOfOrder h

under_on : (n : ℕ) (told : Bool) (steps : List Planned) (c : Client) (written : List ℕ) (t : Tag) (text : List ℕ)
    (kind : Option Kind)
    → AreAsked (followed told steps) → IsOnPlan n told steps c written → HasTold told (given_under c t text kind)
    → IsOnPlan n told steps (given_under c t text kind) written
under_on n told steps c written t text None asked h tells = stays_faulted n told steps c written Cause.UnknownTag h
under_on n told steps c written t text (Some k) asked h tells = for_on n told steps c written t text k asked h tells

response_on : (n : ℕ) (told : Bool) (steps : List Planned) (c : Client) (written : List ℕ) (t : Tag) (m : Marked)
    → AreAsked (followed told steps) → IsOnPlan n told steps c written → HasTold told (response_read c t m)
    → IsOnPlan n told steps (response_read c t m) written
response_on n told steps c written t Marked.Ack asked h tells = read_on n told steps c written t Mark.Ack asked h tells
response_on n told steps c written t (Marked.Given text) asked h tells =
    one_of n told steps written (tag_is t (Tag.Event 0)) c (given_under c t text (held_under t c)) h
    (λ later. under_on n told steps c written t text (held_under t c) asked h later) tells
response_on n told steps c written t Marked.Done asked h tells = read_on n told steps c written t Mark.Done asked h tells
response_on n told steps c written t (Marked.Error text) asked h tells =
    read_on n told steps c written t Mark.Error asked h tells

line_on : (n : ℕ) (told : Bool) (steps : List Planned) (c : Client) (written : List ℕ)
    (r : Result Response NotResponse)
    → AreAsked (followed told steps) → IsOnPlan n told steps c written → HasTold told (line_read c r)
    → IsOnPlan n told steps (line_read c r) written
line_on n told steps c written (Ok r) asked h tells = response_on n told steps c written r.tag r.mark asked h tells
line_on n told steps c written (Err refused) asked h tells = stays_faulted n told steps c written Cause.NotResponse h

-- after what is read a client is still on its plan, where the first act that it has counted says what is reported
pub front_on : (n : ℕ) (told : Bool) (steps : List Planned) (c : Client) (written : List ℕ) (f : Front)
    → AreAsked (followed told steps) → IsOnPlan n told steps c written → HasTold told (front_read c f)
    → IsOnPlan n told steps (front_read c f) written
front_on n told steps c written (Ok None) asked h tells = h
front_on n told steps c written (Ok (Some (line, rest))) asked h tells =
    line_on n told steps c written (response_of line) asked h tells
front_on n told steps c written (Err FramingFault.LineTooLong) asked h tells =
    stays_faulted n told steps c written Cause.LineTooLong h
front_on n told steps c written (Err FramingFault.BadByte) asked h tells = stays_faulted n told steps c written Cause.BadByte h

-- ---- what is read leaves the connection

hears_last : (c : Client) (t : Tag) (m : Mark) (r : Result Table Cause) → (client_hears c t m r).last ≡ c.last
hears_last c t m (Ok b) = refl
hears_last c t m (Err cause) = refl

either_last : (c : Client) (b : Bool) (d : Client) → d.last ≡ c.last → (cond b c d).last ≡ c.last
either_last c true d e = refl
either_last c false d e = e

client_last : (c : Client) (t : Tag) (m : Mark) → (client_read c t m).last ≡ c.last
client_last c t m = either_last c (tag_is t (Tag.Event 0)) (client_hears c t m (heard_on c.program.features c.table t m))
    (hears_last c t m (heard_on c.program.features c.table t m))

point_last : (c : Client) (t : Tag) (r : Result Point NotPoint) → (given_point c t r).last ≡ c.last
point_last c t (Ok p) = client_last c t (Mark.Given (Datum.Point p))
point_last c t (Err why) = refl

homed_last : (c : Client) (t : Tag) (r : Result Bool NotHomedText) → (given_homed c t r).last ≡ c.last
homed_last c t (Ok homed) = client_last c t (Mark.Given (Datum.Homed homed))
homed_last c t (Err why) = refl

for_last : (c : Client) (t : Tag) (text : List ℕ) (k : Kind) → (given_for c t text k).last ≡ c.last
for_last c t text Kind.PtMeas = point_last c t (point_of text)
for_last c t text Kind.IsHomed = homed_last c t (homed_of text)
for_last c t text Kind.StartSession = refl
for_last c t text Kind.EndSession = refl
for_last c t text Kind.ClearAllErrors = refl
for_last c t text Kind.Home = refl
for_last c t text Kind.OnPtMeasReport = refl
for_last c t text Kind.GoTo = refl
for_last c t text Kind.ChangeTool = refl
for_last c t text Kind.SetCsyTransformation = refl
for_last c t text Kind.SetCoordSystem = refl
for_last c t text Kind.AbortE = refl

under_last : (c : Client) (t : Tag) (text : List ℕ) (k : Option Kind)
    → (given_under c t text k).last ≡ c.last
under_last c t text None = refl
under_last c t text (Some k) = for_last c t text k

response_last : (c : Client) (t : Tag) (m : Marked) → (response_read c t m).last ≡ c.last
response_last c t Marked.Ack = client_last c t Mark.Ack
response_last c t (Marked.Given text) = either_last c (tag_is t (Tag.Event 0)) (given_under c t text (held_under t c))
    (under_last c t text (held_under t c))
response_last c t Marked.Done = client_last c t Mark.Done
response_last c t (Marked.Error text) = client_last c t Mark.Error

line_last : (c : Client) (r : Result Response NotResponse) → (line_read c r).last ≡ c.last
line_last c (Ok r) = response_last c r.tag r.mark
line_last c (Err refused) = refl

-- a client that reads stays on its connection
pub read_last : (c : Client) (f : Front) → (front_read c f).last ≡ c.last
read_last c (Ok None) = refl
read_last c (Ok (Some (line, rest))) = line_last c (response_of line)
read_last c (Err FramingFault.LineTooLong) = refl
read_last c (Err FramingFault.BadByte) = refl

-- ---- a command is sent

kinds_more : (hs : List OpenCommand) (x : OpenCommand) → kinds_held (hs ++ x ∷ []) ≡ kinds_held hs ++ x.kind ∷ []
kinds_more [] x = refl
kinds_more (h ∷ hs) x = ap (λ (l : List Kind). h.kind ∷ l) (kinds_more hs x)

kinds_join : (ps qs : List Planned) → kinds_of (ps ++ qs) ≡ kinds_of ps ++ kinds_of qs
kinds_join [] qs = refl
kinds_join (p ∷ ps) qs = ap (λ (l : List Kind). kind_of p.command ∷ l) (kinds_join ps qs)

filled_more : (hs : List OpenCommand) (x : OpenCommand) → AreFilled hs → IsFilled x.kind x.stage → AreFilled (hs ++ x ∷ [])
filled_more [] x h e = (e, tt)
filled_more (y ∷ hs) x h e = (h.0, filled_more hs x h.1 e)

-- if the question is the last that is open, it is open
is_asked : (hs : List OpenCommand) (ks : List Kind) → AreCalm hs → kinds_held hs ≡ ks ++ Kind.IsHomed ∷ [] → is_asking hs ≡ true
is_asked [] [] calm e = absurd (cc)
is_asked [] (k ∷ ks) calm e = absurd (cc)
is_asked (h ∷ hs) [] calm e =
    let first : h.kind ≡ Kind.IsHomed = ap (λ (l : List Kind). first_of l h.kind) e in
    ap (λ (k : Kind). (asks_homed k && not (is_failed h.stage)) || is_asking hs) first
    ∙ ap (λ (b : Bool). not b || is_asking hs) calm.0
  where
    first_of : List Kind → Kind → Kind
    first_of [] d = d
    first_of (k ∷ ks) d = k
is_asked (h ∷ hs) (k ∷ ks) calm e = or_true (asks_homed h.kind && not (is_failed h.stage)) (is_asking hs)
    (is_asked hs ks calm.1 (ap others_of e))
  where
    others_of : List Kind → List Kind
    others_of [] = []
    others_of (k ∷ ks) = ks

    or_true : (a b : Bool) → b ≡ true → (a || b) ≡ true
    or_true true b e = refl
    or_true false b e = e

-- what the phase gives for the command that is sent: it does not home where the machine is reported to be homed, and the phase after it
record IsSent (told : Bool) (hs : List OpenCommand) (y : Tally) (x : OpenCommand) (p : Planned) (others : List Planned) : Type 0 where
  no_homing : told ≡ true → is_homing p.command ≡ false
  phase : IsBefore (hs ++ x ∷ []) (record y { unsent = others }) ⊎ IsBehind told (record y { unsent = others })

abbrev first_planned : List Planned → Planned → Planned
first_planned [] d = d
first_planned (q ∷ qs) d = q

abbrev other_planned : List Planned → List Planned
other_planned [] = []
other_planned (q ∷ qs) = qs

-- before the question is counted, quiet commands go out, and then the question
sent_before : (told : Bool) (hs : List OpenCommand) (y : Tally) (x : OpenCommand) (p : Planned) (others : List Planned) (b : IsBefore hs y)
    (later : List Planned) → AreQuiet later → p ∷ others ≡ later ++ b.ask ∷ b.home ∷ b.rest → x.kind ≡ kind_of p.command
    → kinds_held hs ++ kinds_of (p ∷ others) ≡ kinds_of y.todo → IsSent told hs y x p others
sent_before told hs y x p others b (q ∷ later) quiet e kind_is kinds = record {
  no_homing = λ t. ap (λ (r : Planned). is_homing r.command) (ap (λ (l : List Planned). first_planned l p) e) ∙ quiet.0.homes;
  phase = inl (record {
    quiet = b.quiet;
    are_quiet = b.are_quiet;
    ask = b.ask;
    home = b.home;
    rest = b.rest;
    question = b.question;
    todo = b.todo;
    counted = b.counted;
    left = Unasked later quiet.1 (ap other_planned e);
  });
}
sent_before told hs y x p others b [] quiet e kind_is kinds =
    let first : p ≡ b.ask = ap (λ (l : List Planned). first_planned l p) e in
    let rest : others ≡ b.home ∷ b.rest = ap other_planned e in
    let cut : kinds_held hs ≡ kinds_of b.quiet = append_cancel_right (kinds_held hs) (kinds_of b.quiet)
    (kinds_of (b.ask ∷ b.home ∷ b.rest)) (ap (λ (l : List Planned). kinds_held hs ++ kinds_of l) (sym e)
    ∙ (kinds ∙ (ap kinds_of b.todo ∙ kinds_join b.quiet (b.ask ∷ b.home ∷ b.rest)))) in
    let question : x.kind ≡ Kind.IsHomed = kind_is ∙ (ap (λ (r : Planned). kind_of r.command) first ∙ ap kind_of b.question.asks) in
    record {
      no_homing = λ t. ap (λ (r : Planned). is_homing r.command) first ∙ ap is_homing b.question.asks;
      phase = inl (record {
        quiet = b.quiet;
        are_quiet = b.are_quiet;
        ask = b.ask;
        home = b.home;
        rest = b.rest;
        question = b.question;
        todo = b.todo;
        counted = b.counted;
        left = Asked rest (kinds_more hs x ∙ (ap (λ (l : List Kind). l ++ x.kind ∷ []) cut
            ∙ ap (λ (k : Kind). kinds_of b.quiet ++ k ∷ []) question));
      });
    }

sent_by : (told : Bool) (hs : List OpenCommand) (y : Tally) (x : OpenCommand) (p : Planned) (others : List Planned) → y.unsent ≡ p ∷ others
    → x.kind ≡ kind_of p.command → kinds_held hs ++ kinds_of (p ∷ others) ≡ kinds_of y.todo → AreCalm hs → is_asking hs ≡ false
    → IsBefore hs y ⊎ IsBehind told y → IsSent told hs y x p others
sent_by told hs y x p others unsent kind_is kinds calm quiet (inl b) = go b.left
  where
    go : IsLeft hs b.quiet b.ask b.home b.rest y.unsent → IsSent told hs y x p others
    go (Asked e k) = absurd (false≢true (sym quiet ∙ is_asked hs (kinds_of b.quiet) calm k))
    go (Unasked later are e) = sent_before told hs y x p others b later are (sym unsent ∙ e) kind_is kinds
sent_by told hs y x p others unsent kind_is kinds calm quiet (inr b) = record {
  no_homing = λ t. (subst HasNoHoming unsent (b.unsent t)).0;
  phase = inr (record {
    no_question = b.no_question;
    todo = b.todo;
    unsent = λ t. (subst HasNoHoming unsent (b.unsent t)).1;
  });
}

-- the next command, under the tag of its place
pub sends_on : (n : ℕ) (told : Bool) (steps : List Planned) (c : Client) (written : List ℕ) (p : Planned) (others : List Planned)
    (number : Option ℕ) (h : IsOnPlan n told steps c written) → c.table.tally.unsent ≡ p ∷ others → c.table.tally.failed ≡ false
    → is_asking c.table.standard ≡ false → number ≡ Some (number_at (length h.sent))
    → IsOnPlan n told steps (sends_next c (p ∷ others) number).client (written
    ++ command_bytes (sends_next c (p ∷ others) number).lines)
sends_on n told steps c written p others number h unsent failed quiet is =
    let k : IsCalm told h.sent h.follows.finished c.table.standard c.table.tally = h.follows.calm failed in
    let kinds : kinds_held c.table.standard ++ kinds_of (p ∷ others) ≡ kinds_of c.table.tally.todo =
    ap (λ (l : List Planned). kinds_held c.table.standard ++ kinds_of l) (sym unsent) ∙ k.kinds in
    let s : IsSent told c.table.standard c.table.tally x p others =
    sent_by told c.table.standard c.table.tally x p others unsent refl kinds k.calm quiet k.phase in
    subst (λ (o : Option ℕ). IsOnPlan n told steps (sends_next c (p ∷ others) o).client (written
    ++ command_bytes (sends_next c (p ∷ others) o).lines)) (sym is) (record {
      on = h.on;
      away = h.away;
      first = h.first;
      sent = h.sent ++ p ∷ [];
      follows = record {
        whole = append_assoc h.sent (p ∷ []) (followed told others)
            ∙ (ap (λ (l : List Planned). h.sent ++ l) (sym (followed_cons told p others s.no_homing))
            ∙ (ap (λ (l : List Planned). h.sent ++ followed told l) (sym unsent) ∙ h.follows.whole));
        finished = h.follows.finished;
        parts = h.follows.parts;
        acts = h.follows.acts;
        calm = λ e. record {
          calm = calm_more c.table.standard x k.calm refl;
          filled = filled_more c.table.standard x k.filled tt;
          tags = tags_more c.table.standard (length h.follows.finished) (length h.sent) x k.tags k.places refl;
          kinds = ap (λ (l : List Kind). l ++ kinds_of others) (kinds_more c.table.standard x)
              ∙ (append_assoc (kinds_held c.table.standard) (kind_of p.command ∷ []) (kinds_of others) ∙ kinds);
          places = omega (arith, k.places, longer_held c.table.standard, longer h.sent p);
          phase = s.phase;
        };
      };
      holds = λ t. holds_more c.table.standard x (h.holds t) (homes_is p.command ∙ s.no_homing t);
      drawn = ap drawn_at (longer h.sent p);
      written_is = ap (λ (l : List ℕ). l ++ command_bytes (line ∷ [])) h.written_is
          ∙ (sym (command_bytes_more (lines_from 0 h.sent) (line ∷ [])) ∙ ap command_bytes (sym (lines_start h.sent (p ∷ []))));
    })
  where
    x : OpenCommand
    x = held_now (tag_at (length h.sent)) (kind_of p.command)

    line : Line
    line = record { tag = tag_at (length h.sent); command = p.command }

    longer : (xs : List Planned) (y : Planned) → suc (length xs) ≡ length (xs ++ y ∷ [])
    longer xs y = omega (arith, length-append xs (y ∷ []))

    longer_held : (hs : List OpenCommand) → suc (length hs) ≡ length (hs ++ x ∷ [])
    longer_held hs = omega (arith, length-append hs (x ∷ []))

-- ---- the plan begins

-- on a new connection a client begins its plan
pub begins_on : (n : ℕ) (told : Bool) (c : Client) → suc c.last ≡ n
    → IsOnPlan n told (plan c.program (length c.table.tally.features) Start.NewConnection) (client_connected (suc c.last) c) []
begins_on n told c last = record {
  on = refl;
  away = refl;
  first = last;
  sent = [];
  follows = record {
    whole = refl;
    finished = [];
    parts = refl;
    acts = tt;
    calm = λ e. record {
      calm = tt;
      filled = tt;
      tags = tt;
      kinds = refl;
      places = refl;
      phase = inl (record {
        quiet = planned Command.StartSession Does.Nothing ∷ planned Command.ClearAllErrors Does.Nothing ∷ [];
        are_quiet = (
          record { nothing = refl; asks = refl; homes = refl },
          (record { nothing = refl; asks = refl; homes = refl }, tt),
        );
        ask = planned Command.IsHomed Does.AsksHomed;
        home = planned Command.Home Does.Homes;
        rest = planned Command.OnPtMeasReport Does.Nothing ∷ measuring tool frame steps;
        question = record {
          asks = refl;
          does = refl;
          homes = refl;
          no_homing = (refl, measuring_homes_not tool frame steps);
          asks_no_more = refl;
          no_question = (refl, measuring_asks_not tool frame steps);
        };
        todo = refl;
        counted = refl;
        left = Unasked (planned Command.StartSession Does.Nothing ∷ planned Command.ClearAllErrors Does.Nothing ∷ []) (
          record { nothing = refl; asks = refl; homes = refl },
          (record { nothing = refl; asks = refl; homes = refl }, tt),
        ) refl;
      });
    };
  };
  holds = λ t. tt;
  drawn = refl;
  written_is = refl;
}
  where
    done : ℕ
    done = length c.table.tally.features

    tool : Option (List ℕ)
    tool = tool_behind None (up_to done c.program.steps)

    frame : Frame
    frame = frame_behind Machine (up_to done c.program.steps)

    steps : List Step
    steps = behind done c.program.steps
