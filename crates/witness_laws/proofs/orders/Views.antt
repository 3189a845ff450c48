-- What makes an order causal and clear depends only on the open lines, and on which of them have failed.
use Rattle.witness_laws.proofs.Names.{◌&&◌, ◌++◌, ◌+◌, ◌==◌, ◌||◌, ◌∙◌, ◌∷◌, ◌≡◌, [], after_mark, all_renewed, answered, answered_known, ap, at_once}
use Rattle.witness_laws.proofs.Names.{at_once_line, at_use, Bool, client_sent, command_of, cond, Dialogue, Down, Err, false, Fault, faulting}
use Rattle.witness_laws.proofs.Names.{first_under, foreign_event, has_failed_under, Heard, heard_as, heard_under, hearing, if_own, if◌then◌else◌}
use Rattle.witness_laws.proofs.Names.{is_end, is_error, is_lost, is_open, is_out_of_turn, is_report, is_rival, IsBehind, IsCausal, IsClear, IsCounted}
use Rattle.witness_laws.proofs.Names.{IsSure, Known, last_under, left_over, Line, line_of, List, map, Mark, None, nothing, NotInTurn, NotResponse, Ok}
use Rattle.witness_laws.proofs.Names.{one_more, Option, or_parts, position_from, position_from-zero, refl, remove, Reported, Response, response_of}
use Rattle.witness_laws.proofs.Names.{Result, said, sending, sending_after, sent, SentCommand, Server, server_answered, Signal, silence, slice_get}
use Rattle.witness_laws.proofs.Names.{Some, some_at_once, Stage, stage_with, subst, suc, sym, Tag, tag_is, true, unknowing, Up, ups, Use, use_heard}
use Rattle.witness_laws.proofs.Names.{use_renewed, zero, ℕ}
use Rattle.witness_laws.proofs.orders.Counts.{said_counted}
use Rattle.witness_laws.proofs.orders.Sends.{AfterSend, after_send, NotEarly}
use Rattle.witness_laws.proofs.orders.Sinking.{early_of, one_more_answered}
use Rattle.witness_laws.proofs.orders.Sorting.{behind_first, behind_later, sure_later}

-- ---- open lines that are the same but for their stage and for what is known

pub data AlikeUse : Use → Use → Type 0 where
  alike : (tag : Tag) (command : SentCommand) (line : ℕ) (s t : Stage) (has_failed : Bool) (r q : Option ℕ) (k m : Known)
      → AlikeUse
      (record { tag = tag; command = command; line = line; stage = s; has_failed = has_failed; rival = r; known = k })
      (record { tag = tag; command = command; line = line; stage = t; has_failed = has_failed; rival = q; known = m })

pub data AlikeUses : List Use → List Use → Type 0 where
  none : AlikeUses [] []
  one : (u v : Use) (us vs : List Use) → AlikeUse u v → AlikeUses us vs → AlikeUses (u ∷ us) (v ∷ vs)

same_use : (u : Use) → AlikeUse u u
same_use u = alike u.tag u.command u.line u.stage u.stage u.has_failed u.rival u.rival u.known u.known

same_uses : (uses : List Use) → AlikeUses uses uses
same_uses [] = none
same_uses (u ∷ uses) = one u u uses uses (same_use u) (same_uses uses)

renewed_alike : (f g : Known → Known) (u v : Use) → AlikeUse u v → AlikeUse (use_renewed f u) (use_renewed g v)
renewed_alike f g _ _ (alike tag command line s t failed r q k m) = alike tag command line s t failed r q (f k) (g m)

if_unknowing : (u v : Use) → AlikeUse u v → (x y : Bool) → AlikeUse (if x then unknowing u else u) (if y then unknowing v else v)
if_unknowing _ _ (alike tag command line s t failed r q k m) true true = alike tag command line s t failed r q nothing nothing
if_unknowing _ _ (alike tag command line s t failed r q k m) true false = alike tag command line s t failed r q nothing m
if_unknowing _ _ (alike tag command line s t failed r q k m) false true = alike tag command line s t failed r q k nothing
if_unknowing _ _ (alike tag command line s t failed r q k m) false false = alike tag command line s t failed r q k m

marked_alike : (h : Heard) (u v : Use) → AlikeUse u v
    → AlikeUse (after_mark (use_renewed (answered_known h) u) h) (after_mark (use_renewed (answered_known h) v) h)
marked_alike h _ _ (alike tag command line s t failed r q k m) =
    alike tag command line (stage_with command s h) (stage_with command t h) (failed || is_error h) r q (answered_known h k) (answered_known h m)

own_alike : (h : Heard) (u v : Use) → AlikeUse u v → (own : Bool)
    → AlikeUse (if own then after_mark (use_renewed (answered_known h) u) h else u) (if own then after_mark (use_renewed (answered_known h) v) h else v)
own_alike h u v l true = marked_alike h u v l
own_alike h u v l false = l

if_own_alike : (n : ℕ) (h : Heard) (u v : Use) → AlikeUse u v → AlikeUse (if_own n h u) (if_own n h v)
if_own_alike n h _ _ (alike tag command line s t failed r q k m) =
    own_alike h _ _ (if_unknowing _ _ (alike tag command line s t failed r q k m) (is_rival n r && is_error h) (is_rival n q && is_error h)) (line == n)

heard_alike : (n : ℕ) (h : Heard) (u v : Use) → AlikeUse u v → AlikeUse (use_heard n h u) (use_heard n h v)
heard_alike n h u v l = renewed_alike (all_renewed (Mark n h)) (all_renewed (Mark n h)) (if_own n h u) (if_own n h v) (if_own_alike n h u v l)

map_alike : (f g : Use → Use) → ((u v : Use) → AlikeUse u v → AlikeUse (f u) (g v)) → (us vs : List Use) → AlikeUses us vs
    → AlikeUses (map f us) (map g vs)
map_alike f g step _ _ none = none
map_alike f g step _ _ (one u v us vs l ls) = one (f u) (g v) (map f us) (map g vs) (step u v l) (map_alike f g step us vs ls)

append_alike : (us vs xs ys : List Use) → AlikeUses us vs → AlikeUses xs ys → AlikeUses (us ++ xs) (vs ++ ys)
append_alike _ _ xs ys none more = more
append_alike _ _ xs ys (one u v us vs l ls) more = one u v (us ++ xs) (vs ++ ys) l (append_alike us vs xs ys ls more)

remove_alike : (us vs : List Use) → AlikeUses us vs → (at : ℕ) → AlikeUses (remove us at) (remove vs at)
remove_alike _ _ none zero = none
remove_alike _ _ none (suc at) = none
remove_alike _ _ (one u v us vs l ls) zero = ls
remove_alike _ _ (one u v us vs l ls) (suc at) = one u v (remove us at) (remove vs at) l (remove_alike us vs ls at)

left_alike : (us vs : List Use) → AlikeUses us vs → (at : ℕ) (ended : Bool) → AlikeUses (left_over us at ended) (left_over vs at ended)
left_alike us vs ls at true = remove_alike us vs ls at
left_alike us vs ls at false = ls

tag_alike : (tag : Tag) (u v : Use) → AlikeUse u v → tag_is u.tag tag ≡ tag_is v.tag tag
tag_alike tag _ _ (alike _ command line s t failed r q k m) = refl

from_alike : (tag : Tag) (n : ℕ) (us vs : List Use) → AlikeUses us vs
    → position_from (λ (u : Use). tag_is u.tag tag) n us ≡ position_from (λ (u : Use). tag_is u.tag tag) n vs
from_alike tag n _ _ none = refl
from_alike tag n _ _ (one u v us vs l ls) =
    ap (λ (b : Bool). cond b (Some n) (position_from (λ (u : Use). tag_is u.tag tag) (n + 1) us)) (tag_alike tag u v l)
    ∙ ap (λ (o : Option ℕ). cond (tag_is v.tag tag) (Some n) o) (from_alike tag (n + 1) us vs ls)

first_alike : (tag : Tag) (us vs : List Use) → AlikeUses us vs → first_under tag us ≡ first_under tag vs
first_alike tag us vs ls =
    position_from-zero (λ (u : Use). tag_is u.tag tag) us ∙ from_alike tag 0 us vs ls ∙ sym (position_from-zero (λ (u : Use). tag_is u.tag tag) vs)

open_alike : (tag : Tag) (us vs : List Use) → AlikeUses us vs → is_open tag us ≡ is_open tag vs
open_alike tag _ _ none = refl
open_alike tag _ _ (one u v us vs l ls) =
    ap (λ (b : Bool). b || is_open tag us) (tag_alike tag u v l) ∙ ap (λ (b : Bool). tag_is v.tag tag || b) (open_alike tag us vs ls)

failed_is : (u v : Use) → AlikeUse u v → u.has_failed ≡ v.has_failed
failed_is _ _ (alike tag command line s t failed r q k m) = refl

failed_alike : (tag : Tag) (us vs : List Use) → AlikeUses us vs → has_failed_under tag us ≡ has_failed_under tag vs
failed_alike tag _ _ none = refl
failed_alike tag _ _ (one u v us vs l ls) =
    ap (λ (b : Bool). if b then u.has_failed else has_failed_under tag us) (tag_alike tag u v l)
    ∙ ap (λ (b : Bool). if tag_is v.tag tag then b else has_failed_under tag us) (failed_is u v l)
    ∙ ap (λ (b : Bool). if tag_is v.tag tag then v.has_failed else b) (failed_alike tag us vs ls)

pub data AlikeMaybe : Option Use → Option Use → Type 0 where
  nowhere : AlikeMaybe None None
  there : (u v : Use) → AlikeUse u v → AlikeMaybe (Some u) (Some v)

get_alike : (us vs : List Use) → AlikeUses us vs → (at : ℕ) → AlikeMaybe (slice_get us at) (slice_get vs at)
get_alike _ _ none at = nowhere
get_alike _ _ (one u v us vs l ls) zero = there u v l
get_alike _ _ (one u v us vs l ls) (suc at) = get_alike us vs ls at

-- ---- dialogues with the same open lines

pub record IsAlike (d e : Dialogue) : Type 0 where
  pub lines_are : d.lines ≡ e.lines
  pub uses_are : AlikeUses d.uses e.uses

fault_alike : (d e : Dialogue) (x y : Reported) → IsAlike d e → IsAlike (faulting d x) (faulting e y)
fault_alike d e x y l = record {
  lines_are = l.lines_are;
  uses_are = map_alike (use_renewed (all_renewed Fault)) (use_renewed (all_renewed Fault)) (renewed_alike (all_renewed Fault) (all_renewed Fault)) d.uses
      e.uses l.uses_are;
}

fault_left : (d e : Dialogue) (x : Reported) → IsAlike d e → IsAlike (faulting d x) e
fault_left d e x l = record { lines_are = l.lines_are; uses_are = left d.uses e.uses l.uses_are } where
  left : (us vs : List Use) → AlikeUses us vs → AlikeUses (map (use_renewed (all_renewed Fault)) us) vs
  left _ _ none = none
  left _ _ (one u v us vs l ls) =
      one (use_renewed (all_renewed Fault) u) v (map (use_renewed (all_renewed Fault)) us) vs (renewed_alike (all_renewed Fault) (λ k. k) u v l)
      (left us vs ls)

alike_sym : (d e : Dialogue) → IsAlike d e → IsAlike e d
alike_sym d e l = record { lines_are = sym l.lines_are; uses_are = turn d.uses e.uses l.uses_are } where
  turn_one : (u v : Use) → AlikeUse u v → AlikeUse v u
  turn_one _ _ (alike tag command line s t failed r q k m) = alike tag command line t s failed q r m k

  turn : (us vs : List Use) → AlikeUses us vs → AlikeUses vs us
  turn _ _ none = none
  turn _ _ (one u v us vs l ls) = one v u vs us (turn_one u v l) (turn us vs ls)

hearing_alike : (at : ℕ) (h : Heard) (ended : Bool) (u v : Use) → AlikeUse u v → (d e : Dialogue) → IsAlike d e
    → IsAlike (hearing d at u h ended) (hearing e at v h ended)
hearing_alike at h ended _ _ (alike tag command line s t failed r q k m) d e l = record {
  lines_are = l.lines_are;
  uses_are = left_alike (map (use_heard line h) d.uses) (map (use_heard line h) e.uses)
      (map_alike (use_heard line h) (use_heard line h) (heard_alike line h) d.uses e.uses l.uses_are) at ended;
}

if_early : (at : ℕ) (h : Heard) (ended : Bool) (u v : Use) → AlikeUse u v → (d e : Dialogue) → IsAlike d e → (x y : Bool)
    → IsAlike
    (if x then hearing (faulting d (Reported.Broken NotInTurn u.tag)) at (use_renewed (all_renewed Fault) u) h ended else hearing d at u h ended)
    (if y then hearing (faulting e (Reported.Broken NotInTurn v.tag)) at (use_renewed (all_renewed Fault) v) h ended else hearing e at v h ended)
if_early at h ended u v l d e p true true =
    hearing_alike at h ended (use_renewed (all_renewed Fault) u) (use_renewed (all_renewed Fault) v)
    (renewed_alike (all_renewed Fault) (all_renewed Fault) u v l) (faulting d (Reported.Broken NotInTurn u.tag)) (faulting e (Reported.Broken NotInTurn v.tag))
    (fault_alike d e (Reported.Broken NotInTurn u.tag) (Reported.Broken NotInTurn v.tag) p)
if_early at h ended u v l d e p true false =
    hearing_alike at h ended (use_renewed (all_renewed Fault) u) v (renewed_alike (all_renewed Fault) (λ k. k) u v l)
    (faulting d (Reported.Broken NotInTurn u.tag)) e (fault_left d e (Reported.Broken NotInTurn u.tag) p)
if_early at h ended u v l d e p false true =
    hearing_alike at h ended u (use_renewed (all_renewed Fault) v) (renewed_alike (λ k. k) (all_renewed Fault) u v l) d
    (faulting e (Reported.Broken NotInTurn v.tag))
    (alike_sym (faulting e (Reported.Broken NotInTurn v.tag)) d (fault_left e d (Reported.Broken NotInTurn v.tag) (alike_sym d e p)))
if_early at h ended u v l d e p false false = hearing_alike at h ended u v l d e p

heard_at_alike : (at : ℕ) (signal : Signal) (u v : Use) → AlikeUse u v → (d e : Dialogue) → IsAlike d e
    → IsAlike (at_use d at signal (Some u)) (at_use e at signal (Some v))
heard_at_alike at signal _ _ (alike tag command line s t failed r q k m) d e p =
    if_early at (heard_as command signal) (is_end signal) _ _ (alike tag command line s t failed r q k m) d e p
    (is_out_of_turn d.uses at (record { tag = tag; command = command; line = line; stage = s; has_failed = failed; rival = r; known = k }) (heard_as command signal))
    (is_out_of_turn e.uses at (record { tag = tag; command = command; line = line; stage = t; has_failed = failed; rival = q; known = m }) (heard_as command signal))

use_alike : (at : ℕ) (signal : Signal) (x y : Option Use) → AlikeMaybe x y → (d e : Dialogue) → IsAlike d e
    → IsAlike (at_use d at signal x) (at_use e at signal y)
use_alike at signal _ _ nowhere d e p = p
use_alike at signal _ _ (there u v l) d e p = heard_at_alike at signal u v l d e p

if_report : (line : List ℕ) (d e : Dialogue) → IsAlike d e → (x y : Bool)
    → IsAlike (if x then d else faulting d (Reported.Unasked line)) (if y then e else faulting e (Reported.Unasked line))
if_report line d e p true true = p
if_report line d e p true false =
    alike_sym (faulting e (Reported.Unasked line)) d (fault_left e d (Reported.Unasked line) (alike_sym d e p))
if_report line d e p false true = fault_left d e (Reported.Unasked line) p
if_report line d e p false false = fault_alike d e (Reported.Unasked line) (Reported.Unasked line) p

under_alike : (line : List ℕ) (tag : Tag) (signal : Signal) (d e : Dialogue) → IsAlike d e → (at : Option ℕ)
    → IsAlike (heard_under d line tag signal at) (heard_under e line tag signal at)
under_alike line tag signal d e p None = if_report line d e p (is_report tag signal d.events) (is_report tag signal e.events)
under_alike line tag signal d e p (Some at) =
    use_alike at signal (slice_get d.uses at) (slice_get e.uses at) (get_alike d.uses e.uses p.uses_are at) d e p

answered_alike : (line : List ℕ) (r : Option (Tag × Signal)) (d e : Dialogue) → IsAlike d e → IsAlike (server_answered d line r) (server_answered e line r)
answered_alike line None d e p = fault_alike d e (Reported.Other Server line) (Reported.Other Server line) p
answered_alike line (Some (tag, signal)) d e p =
    subst (λ (at : Option ℕ). IsAlike (heard_under d line tag signal (first_under tag d.uses)) (heard_under e line tag signal at))
    (first_alike tag d.uses e.uses p.uses_are) (under_alike line tag signal d e p (first_under tag d.uses))

sending_alike : (tag : Tag) (what : SentCommand) (d e : Dialogue) (b c : Option (ℕ × Bool)) → IsAlike d e
    → IsAlike (sending_after d tag what b) (sending_after e tag what c)
sending_alike tag what d e b c p = record {
  lines_are = ap (λ (n : ℕ). n + 1) p.lines_are;
  uses_are = append_alike d.uses e.uses _ _ p.uses_are
      (one _ _ [] []
      (subst (λ (n : ℕ). AlikeUse
      (record { tag = tag; command = what; line = d.lines; stage = Stage.Sent; has_failed = false; rival = line_of b; known = if is_lost b then nothing else d.known })
      (record { tag = tag; command = what; line = n; stage = Stage.Sent; has_failed = false; rival = line_of c; known = if is_lost c then nothing else e.known }))
      p.lines_are (alike tag what d.lines Stage.Sent Stage.Sent false (line_of b) (line_of c) _ _)) none);
}

at_once_alike : (line : List ℕ) (d e : Dialogue) → IsAlike d e → IsAlike (at_once d line) (at_once e line)
at_once_alike line d e p = record {
  lines_are = p.lines_are;
  uses_are = map_alike unknowing unknowing (λ u v l. if_unknowing u v l true true) d.uses e.uses p.uses_are;
}

if_at_once : (line : List ℕ) (tag : Tag) (what : SentCommand) (d e : Dialogue) → IsAlike d e → (b : Bool)
    → IsAlike (if b then sending (at_once d line) tag what else sending d tag what) (if b then sending (at_once e line) tag what else sending e tag what)
if_at_once line tag what d e p true = sending_alike tag what (at_once d line) (at_once e line) _ _ (at_once_alike line d e p)
if_at_once line tag what d e p false = sending_alike tag what d e _ _ p

client_alike : (line : List ℕ) (w : Option (Tag × SentCommand)) (d e : Dialogue) → IsAlike d e → IsAlike (client_sent d line w) (client_sent e line w)
client_alike line None d e p = record {
  lines_are = ap (λ (n : ℕ). n + 1) p.lines_are;
  uses_are = (at_once_alike line d e p).uses_are;
}
client_alike line (Some (tag, what)) d e p = if_at_once line tag what d e p (foreign_event tag what)

pub said_alike : (line : Line) (d e : Dialogue) → IsAlike d e → IsAlike (said d line) (said e line)
said_alike (Up line) d e p = client_alike line (sent line (command_of line)) d e p
said_alike (Down line) d e p = answered_alike line (answered (response_of line)) d e p

-- ---- orders

behind_alike : (d e : Dialogue) (later : List (List ℕ)) (r : Result Response NotResponse) → IsAlike d e → IsBehind d.uses later r
    → IsBehind e.uses later r
behind_alike d e later (Ok r) same behind = λ none. behind (open_alike r.tag d.uses e.uses same.uses_are ∙ none)
behind_alike d e later (Err why) same behind = tt

sure_alike : (d e : Dialogue) (later : List (List ℕ)) (r : Result Response NotResponse) → IsAlike d e → IsSure d.uses later r → IsSure e.uses later r
sure_alike d e later (Ok r) same sure = λ end failed. sure end (failed_alike r.tag d.uses e.uses same.uses_are ∙ failed)
sure_alike d e later (Err why) same sure = tt

pub causal_alike : (d e : Dialogue) (lines : List Line) → IsAlike d e → IsCausal d lines → IsCausal e lines
causal_alike d e [] same causal = tt
causal_alike d e (Up line ∷ lines) same causal = causal_alike (said d (Up line)) (said e (Up line)) lines (said_alike (Up line) d e same) causal
causal_alike d e (Down line ∷ lines) same causal = (
  behind_alike d e (ups lines) (response_of line) same causal.0,
  causal_alike (said d (Down line)) (said e (Down line)) lines (said_alike (Down line) d e same) causal.1,
)

pub clear_alike : (d e : Dialogue) (lines : List Line) → IsAlike d e → IsClear d lines → IsClear e lines
clear_alike d e [] same clear = tt
clear_alike d e (Up line ∷ lines) same clear = clear_alike (said d (Up line)) (said e (Up line)) lines (said_alike (Up line) d e same) clear
clear_alike d e (Down line ∷ lines) same clear = (
  clear.0,
  sure_alike d e (ups lines) (response_of line) same clear.1,
  clear_alike (said d (Down line)) (said e (Down line)) lines (said_alike (Down line) d e same) clear.2,
)

pub same_alike : (d : Dialogue) → IsAlike d d
same_alike d = record { lines_are = refl; uses_are = same_uses d.uses }

pub silence_alike : (a b : Bool) → IsAlike (silence a) (silence b)
silence_alike a b = record { lines_are = refl; uses_are = none }

-- ---- a line of the client is read before one of the server that came before it

trans_use : (u v w : Use) → AlikeUse u v → AlikeUse v w → AlikeUse u w
trans_use _ _ _ (alike tag command line s t failed r q k m) (alike _ _ _ _ b _ _ p _ n) = alike tag command line s b failed r p k n

trans_uses : (us vs ws : List Use) → AlikeUses us vs → AlikeUses vs ws → AlikeUses us ws
trans_uses _ _ _ none none = none
trans_uses _ _ _ (one u v us vs l ls) (one _ w _ ws k ks) = one u w us ws (trans_use u v w l k) (trans_uses us vs ws ls ks)

alike_trans : (d e f : Dialogue) → IsAlike d e → IsAlike e f → IsAlike d f
alike_trans d e f p q =
    record { lines_are = p.lines_are ∙ q.lines_are; uses_are = trans_uses d.uses e.uses f.uses p.uses_are q.uses_are }

unordered : Dialogue → Dialogue
unordered d = record d { ordered = false }

unordered_alike : (d : Dialogue) → IsAlike d (unordered d)
unfolding unordered
unordered_alike d = record { lines_are = refl; uses_are = same_uses d.uses }

sending_swapped : (d : Dialogue) (tag : Tag) (what : SentCommand) (line : List ℕ) (r : Option (Tag × Signal)) → IsCounted d → NotEarly d.uses tag r
    → IsAlike (sending (server_answered d line r) tag what) (server_answered (sending d tag what) line r)
unfolding unordered
sending_swapped d tag what line r c early =
    let e : Dialogue = unordered d in
    let a : AfterSend e tag what line r = after_send e tag what line r c refl early in
    alike_trans _ _ _
    (sending_alike tag what (server_answered d line r) (server_answered e line r) (last_under tag (server_answered d line r).uses None) a.last
    (answered_alike line r d e (unordered_alike d)))
    (alike_trans _ _ _ (subst (IsAlike (sending_after (server_answered e line r) tag what a.last)) (sym a.same) (same_alike _))
    (answered_alike line r (sending e tag what) (sending d tag what)
    (sending_alike tag what e d (last_under tag e.uses None) (last_under tag d.uses None) (alike_sym d e (unordered_alike d)))))

-- what is known counts for nothing here
unknowing_alike : (d : Dialogue) (line : List ℕ) → IsAlike (at_once d line) d
unknowing_alike d line = record { lines_are = refl; uses_are = all d.uses } where
  all : (uses : List Use) → AlikeUses (map unknowing uses) uses
  all [] = none
  all (u ∷ uses) = one (unknowing u) u (map unknowing uses) uses
      (alike u.tag u.command u.line u.stage u.stage u.has_failed u.rival u.rival nothing u.known) (all uses)

if_swapped : (d : Dialogue) (up line : List ℕ) (tag : Tag) (what : SentCommand) (r : Option (Tag × Signal)) → IsCounted d → NotEarly d.uses tag r → (b : Bool)
    → IsAlike (if b then sending (at_once (server_answered d line r) up) tag what else sending (server_answered d line r) tag what)
    (server_answered (if b then sending (at_once d up) tag what else sending d tag what) line r)
if_swapped d up line tag what r c early true =
    alike_trans _ _ _
    (sending_alike tag what (at_once (server_answered d line r) up) (server_answered d line r) _ _ (unknowing_alike (server_answered d line r) up))
    (alike_trans _ _ _ (sending_swapped d tag what line r c early)
    (answered_alike line r (sending d tag what) (sending (at_once d up) tag what)
    (sending_alike tag what d (at_once d up) _ _ (alike_sym (at_once d up) d (unknowing_alike d up)))))
if_swapped d up line tag what r c early false = sending_swapped d tag what line r c early

one_more_alike : (d e : Dialogue) → IsAlike d e → IsAlike (one_more d) (one_more e)
one_more_alike d e p = record { lines_are = ap (λ (n : ℕ). n + 1) p.lines_are; uses_are = p.uses_are }

none_swapped : (d : Dialogue) (up down : List ℕ) (r : Option (Tag × Signal))
    → IsAlike (client_sent (server_answered d down r) up None) (server_answered (client_sent d up None) down r)
none_swapped d up down r =
    subst (IsAlike (one_more (at_once (server_answered d down r) up))) (sym (one_more_answered (at_once d up) down r))
    (one_more_alike (at_once (server_answered d down r) up) (server_answered (at_once d up) down r)
    (alike_trans _ _ _ (unknowing_alike (server_answered d down r) up)
    (answered_alike down r d (at_once d up) (alike_sym (at_once d up) d (unknowing_alike d up)))))

pub alike_swapped : (d : Dialogue) (up down : List ℕ) → IsCounted d → IsBehind d.uses (up ∷ []) (response_of down)
    → IsAlike (said (said d (Down down)) (Up up)) (said (said d (Up up)) (Down down))
alike_swapped d up down c behind = go (sent up (command_of up)) refl where
  go : (w : Option (Tag × SentCommand)) → sent up (command_of up) ≡ w
      → IsAlike (client_sent (server_answered d down (answered (response_of down))) up w) (server_answered (client_sent d up w) down (answered (response_of down)))
  go None is = none_swapped d up down (answered (response_of down))
  go (Some (tag, what)) is =
      if_swapped d up down tag what (answered (response_of down)) c (early_of d.uses up tag what (response_of down) is behind) (foreign_event tag what)

ups_swapped : (before after : List Line) (up down : List ℕ)
    → ups (before ++ Down down ∷ Up up ∷ after) ≡ ups (before ++ Up up ∷ Down down ∷ after)
ups_swapped [] after up down = refl
ups_swapped (Up line ∷ before) after up down = ap (λ (l : List (List ℕ)). line ∷ l) (ups_swapped before after up down)
ups_swapped (Down line ∷ before) after up down = ups_swapped before after up down

pub causal_swapped : (d : Dialogue) (before after : List Line) (up down : List ℕ) → IsCounted d → IsCausal d (before ++ Down down ∷ Up up ∷ after)
    → IsCausal d (before ++ Up up ∷ Down down ∷ after)
causal_swapped d [] after up down c causal = (
  behind_later d up (ups after) (response_of down) causal.0,
  causal_alike (said (said d (Down down)) (Up up)) (said (said d (Up up)) (Down down)) after
      (alike_swapped d up down c (behind_first d.uses up (ups after) (response_of down) causal.0)) causal.1,
)
causal_swapped d (Up line ∷ before) after up down c causal =
    causal_swapped (said d (Up line)) before after up down (said_counted d (Up line) c) causal
causal_swapped d (Down line ∷ before) after up down c causal = (
  subst (λ (l : List (List ℕ)). IsBehind d.uses l (response_of line)) (ups_swapped before after up down) causal.0,
  causal_swapped (said d (Down line)) before after up down (said_counted d (Down line) c) causal.1,
)

pub clear_swapped : (d : Dialogue) (before after : List Line) (up down : List ℕ) → IsCounted d → IsCausal d (before ++ Down down ∷ Up up ∷ after)
    → IsClear d (before ++ Down down ∷ Up up ∷ after) → IsClear d (before ++ Up up ∷ Down down ∷ after)
clear_swapped d [] after up down c causal clear = (
  (or_parts (at_once_line up) (some_at_once (ups after)) clear.0).1,
  sure_later d up (ups after) (response_of down) clear.1,
  clear_alike (said (said d (Down down)) (Up up)) (said (said d (Up up)) (Down down)) after
      (alike_swapped d up down c (behind_first d.uses up (ups after) (response_of down) causal.0)) clear.2,
)
clear_swapped d (Up line ∷ before) after up down c causal clear =
    clear_swapped (said d (Up line)) before after up down (said_counted d (Up line) c) causal clear
clear_swapped d (Down line ∷ before) after up down c causal clear = (
  subst (λ (l : List (List ℕ)). some_at_once l ≡ false) (ups_swapped before after up down) clear.0,
  subst (λ (l : List (List ℕ)). IsSure d.uses l (response_of line)) (ups_swapped before after up down) clear.1,
  clear_swapped (said d (Down line)) before after up down (said_counted d (Down line) c) causal.1 clear.2,
)

-- ---- lines of the client earlier, and all others in their order

pub data IsSooner (first : List Line) : List Line → Type 0 where
  same : IsSooner first first
  swapped : (before after : List Line) (up down : List ℕ) → IsSooner first (before ++ Down down ∷ Up up ∷ after)
      → IsSooner first (before ++ Up up ∷ Down down ∷ after)

pub sooner_causal : (d : Dialogue) (first lines : List Line) → IsCounted d → IsSooner first lines → IsCausal d first → IsCausal d lines
sooner_causal d first _ c same causal = causal
sooner_causal d first _ c (swapped before after up down p) causal =
    causal_swapped d before after up down c (sooner_causal d first (before ++ Down down ∷ Up up ∷ after) c p causal)

pub sooner_clear : (d : Dialogue) (first lines : List Line) → IsCounted d → IsSooner first lines → IsCausal d first → IsClear d first → IsClear d lines
sooner_clear d first _ c same causal clear = clear
sooner_clear d first _ c (swapped before after up down p) causal clear =
    clear_swapped d before after up down c (sooner_causal d first (before ++ Down down ∷ Up up ∷ after) c p causal)
    (sooner_clear d first (before ++ Down down ∷ Up up ∷ after) c p causal clear)
