-- What makes an order clear.
use Rattle.witness_laws.proofs.Names.{◌&&◌, ◌==◌, ◌||◌, ◌∙◌, ◌∷◌, ◌≡◌, [], Ack, all_renewed, answered, ap, at_once, at_once_line, Bool, client_sent}
use Rattle.witness_laws.proofs.Names.{command_of, Dialogue, Down, downs, Err, Error, false, false≢true, Fault, foreign_event, Given, given_for}
use Rattle.witness_laws.proofs.Names.{given_homed, given_point, given_to, has_failed_under, Heard, heard_as, if◌then◌else◌, is_error, is_error_signal}
use Rattle.witness_laws.proofs.Names.{is_open, is_refusal, is_under, IsClear, IsSure, Kind, kind_of, last_under, Line, List, list_any}
use Rattle.witness_laws.proofs.Names.{list_any-append, map, None, NotHomedText, NotPoint, NotResponse, Ok, Option, or_from, or_parts, Point, refl}
use Rattle.witness_laws.proofs.Names.{refuses, Response, response_of, Result, said, sending, sent, SentCommand, Signal, signal_of, silence, Some}
use Rattle.witness_laws.proofs.Names.{some_at_once, some_sends, sym, Tag, tag_is, true, two_send, unknowing, Up, ups, Use, use_heard, use_renewed, ℕ}
use Rattle.witness.specs.Asking.{Done}
use Rattle.witness_laws.proofs.orders.Commands.{stays_closed}
use Rattle.witness_laws.proofs.orders.Counts.{AreHeard, heard_keeps, heard_failed, Each, each_map, each_more, each_left}
use Rattle.witness_laws.proofs.orders.Swaps.{new_use, and_no}
use Rattle.witness_laws.proofs.orders.Sinking.{open_unknowing}

-- ---- no two lines of the client use one tag

-- of the commands under a tag, at most one is open or sent later
abbrev Lone : Tag → Dialogue → List (List ℕ) → Type 0
Lone tag d later = ((is_open tag d.uses && some_sends tag later) || two_send tag later) ≡ false

once_more : (o s a w : Bool) → ((o && (s || a)) || ((s && a) || w)) ≡ false → (((o || (s || false)) && a) || w) ≡ false
once_more true true a w e = absurd (cc)
once_more true false a w e = e
once_more false true a w e = e
once_more false false a w e = e

sending_lone : (t : Tag) (d : Dialogue) (tag : Tag) (what : SentCommand) (later : List (List ℕ))
    → ((is_open t d.uses && (tag_is tag t || some_sends t later)) || ((tag_is tag t && some_sends t later) || two_send t later)) ≡ false
    → Lone t (sending d tag what) later
sending_lone t d tag what later once =
    ap (λ (b : Bool). (b && some_sends t later) || two_send t later)
    (list_any-append (λ (u : Use). tag_is u.tag t) d.uses (new_use d.lines tag what (last_under tag d.uses None) d.known ∷ []))
    ∙ once_more (is_open t d.uses) (tag_is tag t) (some_sends t later) (two_send t later) once

if_lone : (t : Tag) (d : Dialogue) (line : List ℕ) (tag : Tag) (what : SentCommand) (later : List (List ℕ))
    → ((is_open t d.uses && (tag_is tag t || some_sends t later)) || ((tag_is tag t && some_sends t later) || two_send t later)) ≡ false → (b : Bool)
    → Lone t (if b then sending (at_once d line) tag what else sending d tag what) later
if_lone t d line tag what later once true =
    sending_lone t (at_once d line) tag what later
    (ap (λ (o : Bool). (o && (tag_is tag t || some_sends t later)) || ((tag_is tag t && some_sends t later) || two_send t later)) (open_unknowing t d.uses)
    ∙ once)
if_lone t d line tag what later once false = sending_lone t d tag what later once

client_lone : (t : Tag) (d : Dialogue) (line : List ℕ) (w : Option (Tag × SentCommand)) (later : List (List ℕ))
    → ((is_open t d.uses && (is_under t w || some_sends t later)) || ((is_under t w && some_sends t later) || two_send t later)) ≡ false
    → Lone t (client_sent d line w) later
client_lone t d line None later once =
    ap (λ (o : Bool). (o && some_sends t later) || two_send t later) (open_unknowing t d.uses) ∙ once
client_lone t d line (Some (tag, what)) later once = if_lone t d line tag what later once (foreign_event tag what)

no_more : (o n a w : Bool) → (o ≡ false → n ≡ false) → ((o && a) || w) ≡ false → ((n && a) || w) ≡ false
no_more o false a w fewer once = (or_parts (o && a) w once).1
no_more true true a w fewer once = once
no_more false true a w fewer once = absurd (cc (fewer refl))

answered_lone : (t : Tag) (d : Dialogue) (line : List ℕ) (later : List (List ℕ)) → Lone t d later → Lone t (said d (Down line)) later
answered_lone t d line later once =
    no_more (is_open t d.uses) (is_open t (said d (Down line)).uses) (some_sends t later) (two_send t later) (stays_closed t d line) once

failed_open : (tag : Tag) (uses : List Use) → has_failed_under tag uses ≡ true → is_open tag uses ≡ true
failed_open tag [] e = e
failed_open tag (u ∷ uses) e = go (failed_open tag uses) (tag_is u.tag tag) e where
  go : (has_failed_under tag uses ≡ true → is_open tag uses ≡ true) → (b : Bool) → (if b then u.has_failed else has_failed_under tag uses) ≡ true
      → (b || is_open tag uses) ≡ true
  go rest true e = refl
  go rest false e = rest e

lone_sure : (d : Dialogue) (later : List (List ℕ)) (r : Result Response NotResponse) → ((tag : Tag) → Lone tag d later) → IsSure d.uses later r
lone_sure d later (Ok r) once = λ end failed.
    ap (λ (b : Bool). b && some_sends r.tag later) (sym (failed_open r.tag d.uses failed))
    ∙ (or_parts (is_open r.tag d.uses && some_sends r.tag later) (two_send r.tag later) (once r.tag)).0
lone_sure d later (Err why) once = tt

lone_clear : (d : Dialogue) (lines : List Line) → some_at_once (ups lines) ≡ false → ((tag : Tag) → Lone tag d (ups lines)) → IsClear d lines
lone_clear d [] waits once = tt
lone_clear d (Up line ∷ lines) waits once =
    lone_clear (said d (Up line)) lines ((or_parts (at_once_line line) (some_at_once (ups lines)) waits).1)
    (λ tag. client_lone tag d line (sent line (command_of line)) (ups lines) (once tag))
lone_clear d (Down line ∷ lines) waits once = (
  waits,
  lone_sure d (ups lines) (response_of line) once,
  lone_clear (said d (Down line)) lines waits (λ tag. answered_lone tag d line (ups lines) (once tag)),
)

pub one_use_is_clear : (ordered : Bool) (lines : List Line) → some_at_once (ups lines) ≡ false → ((tag : Tag) → two_send tag (ups lines) ≡ false)
    → IsClear (silence ordered) lines
one_use_is_clear ordered lines waits once = lone_clear (silence ordered) lines waits once

-- ---- the server refuses nothing

abbrev Unfailed : List Use → Type 0
Unfailed uses = Each (λ (u : Use). u.has_failed ≡ false) uses

sending_unfailed : (d : Dialogue) (tag : Tag) (what : SentCommand) → Unfailed d.uses → Unfailed (sending d tag what).uses
sending_unfailed d tag what w = each_more (λ (u : Use). u.has_failed ≡ false) d.uses (new_use d.lines tag what (last_under tag d.uses None) d.known ∷ []) w (refl, tt)

if_unfailed : (d : Dialogue) (line : List ℕ) (tag : Tag) (what : SentCommand) → Unfailed d.uses → (b : Bool)
    → Unfailed (if b then sending (at_once d line) tag what else sending d tag what).uses
if_unfailed d line tag what w true = sending_unfailed (at_once d line) tag what (each_map (λ (u : Use). u.has_failed ≡ false) unknowing (λ u e. e) d.uses w)
if_unfailed d line tag what w false = sending_unfailed d tag what w

client_unfailed : (d : Dialogue) (line : List ℕ) (w : Option (Tag × SentCommand)) → Unfailed d.uses → Unfailed (client_sent d line w).uses
client_unfailed d line None none = each_map (λ (u : Use). u.has_failed ≡ false) unknowing (λ u e. e) d.uses none
client_unfailed d line (Some (tag, what)) none = if_unfailed d line tag what none (foreign_event tag what)

point_is_no_error : (p : Result Point NotPoint) → is_error (given_point p) ≡ false
point_is_no_error (Ok p) = refl
point_is_no_error (Err why) = refl

homed_is_no_error : (homed : Result Bool NotHomedText) → is_error (given_homed homed) ≡ false
homed_is_no_error (Ok homed) = refl
homed_is_no_error (Err why) = refl

data_are_no_error : (k : Kind) (p : Result Point NotPoint) (homed : Result Bool NotHomedText) → is_error (given_for k p homed) ≡ false
data_are_no_error Kind.PtMeas p homed = point_is_no_error p
data_are_no_error Kind.IsHomed p homed = homed_is_no_error homed
data_are_no_error _ p homed = refl

given_is_no_error : (c : SentCommand) (p : Result Point NotPoint) (homed : Result Bool NotHomedText) → is_error (given_to c p homed) ≡ false
given_is_no_error (SentCommand.Known command) p homed = data_are_no_error (kind_of command) p homed
given_is_no_error SentCommand.Asking p homed = refl
given_is_no_error (SentCommand.Foreign line) p homed = refl

signal_is_no_error : (signal : Signal) → is_error_signal signal ≡ false → (c : SentCommand) → is_error (heard_as c signal) ≡ false
signal_is_no_error Ack e c = refl
signal_is_no_error (Given p homed) e c = given_is_no_error c p homed
signal_is_no_error Done e c = refl
signal_is_no_error Error e c = absurd (false≢true (sym e))

heard_no_error : (r : Result Response NotResponse) → is_refusal r ≡ false → AreHeard (λ h. is_error h ≡ false) (answered r)
heard_no_error (Ok r) e = signal_is_no_error (signal_of r.mark) e
heard_no_error (Err why) e = tt

heard_unfailed : (n : ℕ) (h : Heard) → is_error h ≡ false → (u : Use) → u.has_failed ≡ false → (use_heard n h u).has_failed ≡ false
heard_unfailed n h none u e =
    heard_failed n h u ∙ or_from u.has_failed ((u.line == n) && is_error h) e (and_no (u.line == n) (is_error h) none)

answered_unfailed : (d : Dialogue) (line : List ℕ) → refuses line ≡ false → Unfailed d.uses → Unfailed (said d (Down line)).uses
answered_unfailed d line e w = heard_keeps (λ x. Unfailed x.uses) (λ h. is_error h ≡ false)
    (λ x y p. each_map (λ (u : Use). u.has_failed ≡ false) (use_renewed (all_renewed Fault)) (λ u e. e) x.uses p)
    (λ x at u h ended q p. each_left (λ (u : Use). u.has_failed ≡ false) (map (use_heard u.line h) x.uses) at ended (each_map (λ (u : Use). u.has_failed ≡ false) (use_heard u.line h) (heard_unfailed u.line h q) x.uses p))
    d line (answered (response_of line)) (heard_no_error (response_of line) e) w

none_failed : (tag : Tag) (uses : List Use) → Unfailed uses → has_failed_under tag uses ≡ false
none_failed tag [] w = refl
none_failed tag (u ∷ uses) w = go (tag_is u.tag tag) (none_failed tag uses w.1) where
  go : (b : Bool) → has_failed_under tag uses ≡ false → (if b then u.has_failed else has_failed_under tag uses) ≡ false
  go true e = w.0
  go false e = e

unfailed_sure : (d : Dialogue) (later : List (List ℕ)) (r : Result Response NotResponse) → Unfailed d.uses → IsSure d.uses later r
unfailed_sure d later (Ok r) w = λ end failed. absurd (false≢true (sym (none_failed r.tag d.uses w) ∙ failed))
unfailed_sure d later (Err why) w = tt

unfailed_clear : (d : Dialogue) (lines : List Line) → some_at_once (ups lines) ≡ false → list_any refuses (downs lines) ≡ false → Unfailed d.uses
    → IsClear d lines
unfailed_clear d [] waits e w = tt
unfailed_clear d (Up line ∷ lines) waits e w =
    unfailed_clear (said d (Up line)) lines ((or_parts (at_once_line line) (some_at_once (ups lines)) waits).1) e
    (client_unfailed d line (sent line (command_of line)) w)
unfailed_clear d (Down line ∷ lines) waits e w =
    let parts = or_parts (refuses line) (list_any refuses (downs lines)) e in (
      waits,
      unfailed_sure d (ups lines) (response_of line) w,
      unfailed_clear (said d (Down line)) lines waits parts.1 (answered_unfailed d line parts.0 w),
    )

pub no_refusal_is_clear : (ordered : Bool) (lines : List Line) → some_at_once (ups lines) ≡ false → list_any refuses (downs lines) ≡ false
    → IsClear (silence ordered) lines
no_refusal_is_clear ordered lines waits e = unfailed_clear (silence ordered) lines waits e tt
