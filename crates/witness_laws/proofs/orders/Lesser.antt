-- Of two dialogues with the same open lines, one knows no more than the other and claims no more: so it stays, whatever lines come.
use Rattle.witness_laws.proofs.Names.{◌&&◌, ◌++◌, ◌+◌, ◌==◌, ◌||◌, ◌∙◌, ◌∷◌, ◌≡◌, [], after_mark, all_renewed, answered, answered_known, ap, at_once}
use Rattle.witness_laws.proofs.Names.{at_use, below, Bool, ClaimNoMore, Client, client_sent, command_of, cond, Dialogue, Down, false, false≢true}
use Rattle.witness_laws.proofs.Names.{Fault, faulting, filter, first_under, foreign_event, fresh, Heard, heard_as, heard_under, hearing, if_own}
use Rattle.witness_laws.proofs.Names.{if◌then◌else◌, is_end, is_error, is_lost, is_out_of_turn, is_report, is_rival, is_some, Known, last_under}
use Rattle.witness_laws.proofs.Names.{later, left_over, Line, line_of, List, list_any, map, Mark, None, nothing, NotInTurn, one_more, Option}
use Rattle.witness_laws.proofs.Names.{position_from, position_from-zero, refl, remove, Renewal, Reported, reported_by, response_of, said, sending}
use Rattle.witness_laws.proofs.Names.{sending_after, sent, SentCommand, Server, server_answered, Signal, slice_get, Some, Stage, stage_with, subst}
use Rattle.witness_laws.proofs.Names.{suc, sym, Tag, tag_is, take, true, unasked, unknowing, unless_crossed, Up, Use, use_heard, use_renewed, waits}
use Rattle.witness_laws.proofs.Names.{with_event, without_rival, zero, ℕ}
use Rattle.witness_laws.proofs.orders.Claiming.{IsFair, same_claims, more_chosen, reported_less}
use Rattle.witness_laws.proofs.orders.Knowing.{Covers, Hits, LessKnown, nothing_less, same_known, all_less, answered_less, if_nothing, crossed_less, same_standing}
use Rattle.witness_laws.proofs.orders.Knowing.{below_less}

-- ---- open lines

pub data LessUse (Live : ℕ → Type 0) : Use → Use → Type 0 where
  alike : (tag : Tag) (command : SentCommand) (line : ℕ) (at : Stage) (has_failed : Bool) (more less : Option ℕ) (k m : Known)
      → Live line → Covers Live more less → LessKnown Live k m
      → LessUse Live
      (record { tag = tag; command = command; line = line; stage = at; has_failed = has_failed; rival = more; known = k })
      (record { tag = tag; command = command; line = line; stage = at; has_failed = has_failed; rival = less; known = m })

pub data LessUses (Live : ℕ → Type 0) : List Use → List Use → Type 0 where
  none : LessUses Live [] []
  one : (u v : Use) (us vs : List Use) → LessUse Live u v → LessUses Live us vs → LessUses Live (u ∷ us) (v ∷ vs)

known_less : (Live : ℕ → Type 0) (u v : Use) → LessUse Live u v → LessKnown Live u.known v.known
known_less Live _ _ (alike tag command line at failed more lesser k m live covers l) = l

pub same_use : (Live : ℕ → Type 0) (u : Use) → Live u.line → LessUse Live u u
same_use Live u live =
    alike u.tag u.command u.line u.stage u.has_failed u.rival u.rival u.known u.known live (λ line l hit. hit) (same_known Live u.known)

use_less : (Live : ℕ → Type 0) (r : Renewal) → Hits Live r → (u v : Use) → LessUse Live u v
    → LessUse Live (use_renewed (all_renewed r) u) (use_renewed (all_renewed r) v)
use_less Live r hits _ _ (alike tag command line at failed more lesser k m live covers l) =
    alike tag command line at failed more lesser (all_renewed r k) (all_renewed r m) live covers (all_less Live r hits k m l)

unknowing_less : (Live : ℕ → Type 0) (u v : Use) → LessUse Live u v → LessUse Live (unknowing u) v
unknowing_less Live _ _ (alike tag command line at failed more lesser k m live covers l) =
    alike tag command line at failed more lesser nothing m live covers (nothing_less Live m)

both_unknowing : (Live : ℕ → Type 0) (u v : Use) → LessUse Live u v → LessUse Live (unknowing u) (unknowing v)
both_unknowing Live _ _ (alike tag command line at failed more lesser k m live covers l) =
    alike tag command line at failed more lesser nothing nothing live covers (nothing_less Live nothing)

unless_less : (Live : ℕ → Type 0) (u v : Use) → LessUse Live u v → (x y e : Bool) → (y ≡ true → x ≡ true)
    → LessUse Live (if x && e then unknowing u else u) (if y && e then unknowing v else v)
unless_less Live u v l true true true hits = both_unknowing Live u v l
unless_less Live u v l true false true hits = unknowing_less Live u v l
unless_less Live u v l true true false hits = l
unless_less Live u v l true false false hits = l
unless_less Live u v l false true e hits = absurd (false≢true (hits refl))
unless_less Live u v l false false e hits = l

rival_less : (Live : ℕ → Type 0) (n : ℕ) (h : Heard) → Live n → (u v : Use) → LessUse Live u v
    → LessUse Live (without_rival n h u) (without_rival n h v)
rival_less Live n h live _ _ (alike tag command line at failed more lesser k m here covers l) =
    unless_less Live _ _ (alike tag command line at failed more lesser k m here covers l) (is_rival n more) (is_rival n lesser) (is_error h) (covers n live)

marked_less : (Live : ℕ → Type 0) (h : Heard) (u v : Use) → LessUse Live u v
    → LessUse Live (after_mark (use_renewed (answered_known h) u) h) (after_mark (use_renewed (answered_known h) v) h)
marked_less Live h _ _ (alike tag command line at failed more lesser k m live covers l) =
    alike tag command line (stage_with command at h) (failed || is_error h) more lesser (answered_known h k) (answered_known h m) live covers
    (answered_less Live h k m l)

own_less : (Live : ℕ → Type 0) (h : Heard) (u v : Use) → LessUse Live u v → (own : Bool)
    → LessUse Live (if own then after_mark (use_renewed (answered_known h) u) h else u)
    (if own then after_mark (use_renewed (answered_known h) v) h else v)
own_less Live h u v l true = marked_less Live h u v l
own_less Live h u v l false = l

if_own_less : (Live : ℕ → Type 0) (n : ℕ) (h : Heard) → Live n → (u v : Use) → LessUse Live u v → LessUse Live (if_own n h u) (if_own n h v)
if_own_less Live n h live _ _ (alike tag command line at failed more lesser k m here covers l) =
    own_less Live h _ _ (rival_less Live n h live _ _ (alike tag command line at failed more lesser k m here covers l)) (line == n)

pub heard_less : (Live : ℕ → Type 0) (n : ℕ) (h : Heard) → Live n → (u v : Use) → LessUse Live u v
    → LessUse Live (use_heard n h u) (use_heard n h v)
heard_less Live n h live u v l = use_less Live (Mark n h) live (if_own n h u) (if_own n h v) (if_own_less Live n h live u v l)

-- ---- lists of them

map_less : (Live : ℕ → Type 0) (f g : Use → Use) → ((u v : Use) → LessUse Live u v → LessUse Live (f u) (g v)) → (us vs : List Use)
    → LessUses Live us vs → LessUses Live (map f us) (map g vs)
map_less Live f g step _ _ none = none
map_less Live f g step _ _ (one u v us vs l ls) = one (f u) (g v) (map f us) (map g vs) (step u v l) (map_less Live f g step us vs ls)

pub append_less : (Live : ℕ → Type 0) (us vs xs ys : List Use) → LessUses Live us vs → LessUses Live xs ys → LessUses Live (us ++ xs) (vs ++ ys)
append_less Live _ _ xs ys none more = more
append_less Live _ _ xs ys (one u v us vs l ls) more = one u v (us ++ xs) (vs ++ ys) l (append_less Live us vs xs ys ls more)

remove_less : (Live : ℕ → Type 0) (us vs : List Use) → LessUses Live us vs → (at : ℕ) → LessUses Live (remove us at) (remove vs at)
remove_less Live _ _ none zero = none
remove_less Live _ _ none (suc at) = none
remove_less Live _ _ (one u v us vs l ls) zero = ls
remove_less Live _ _ (one u v us vs l ls) (suc at) = one u v (remove us at) (remove vs at) l (remove_less Live us vs ls at)

left_less : (Live : ℕ → Type 0) (us vs : List Use) → LessUses Live us vs → (at : ℕ) (ended : Bool)
    → LessUses Live (left_over us at ended) (left_over vs at ended)
left_less Live us vs ls at true = remove_less Live us vs ls at
left_less Live us vs ls at false = ls

waits_less : (Live : ℕ → Type 0) (u v : Use) → LessUse Live u v → waits u ≡ waits v
waits_less Live _ _ (alike tag command line at failed more lesser k m live covers l) = refl

ahead_less : (Live : ℕ → Type 0) (us vs : List Use) → LessUses Live us vs → (at : ℕ) → list_any waits (take at us) ≡ list_any waits (take at vs)
ahead_less Live _ _ none zero = refl
ahead_less Live _ _ none (suc at) = refl
ahead_less Live _ _ (one u v us vs l ls) zero = refl
ahead_less Live _ _ (one u v us vs l ls) (suc at) =
    ap (λ (b : Bool). b || list_any waits (take at us)) (waits_less Live u v l)
    ∙ ap (λ (b : Bool). waits v || b) (ahead_less Live us vs ls at)

tag_less : (Live : ℕ → Type 0) (tag : Tag) (u v : Use) → LessUse Live u v → tag_is u.tag tag ≡ tag_is v.tag tag
tag_less Live tag _ _ (alike _ command line at failed more lesser k m live covers l) = refl

from_less : (Live : ℕ → Type 0) (tag : Tag) (n : ℕ) (us vs : List Use) → LessUses Live us vs
    → position_from (λ (u : Use). tag_is u.tag tag) n us ≡ position_from (λ (u : Use). tag_is u.tag tag) n vs
from_less Live tag n _ _ none = refl
from_less Live tag n _ _ (one u v us vs l ls) =
    ap (λ (b : Bool). cond b (Some n) (position_from (λ (u : Use). tag_is u.tag tag) (n + 1) us)) (tag_less Live tag u v l)
    ∙ ap (λ (o : Option ℕ). cond (tag_is v.tag tag) (Some n) o) (from_less Live tag (n + 1) us vs ls)

first_less : (Live : ℕ → Type 0) (tag : Tag) (us vs : List Use) → LessUses Live us vs → first_under tag us ≡ first_under tag vs
first_less Live tag us vs ls =
    position_from-zero (λ (u : Use). tag_is u.tag tag) us ∙ from_less Live tag 0 us vs ls
    ∙ sym (position_from-zero (λ (u : Use). tag_is u.tag tag) vs)

later_less : (Live : ℕ → Type 0) (tag : Tag) (found : Option (ℕ × Bool)) (u v : Use) → LessUse Live u v → later tag u found ≡ later tag v found
later_less Live tag found _ _ (alike _ command line at failed more lesser k m live covers l) = refl

last_less : (Live : ℕ → Type 0) (tag : Tag) (found : Option (ℕ × Bool)) (us vs : List Use) → LessUses Live us vs
    → last_under tag us found ≡ last_under tag vs found
last_less Live tag found _ _ none = refl
last_less Live tag found _ _ (one u v us vs l ls) =
    ap (last_under tag us) (later_less Live tag found u v l) ∙ last_less Live tag (later tag v found) us vs ls

pub data LessMaybe (Live : ℕ → Type 0) : Option Use → Option Use → Type 0 where
  nowhere : LessMaybe Live None None
  there : (u v : Use) → LessUse Live u v → LessMaybe Live (Some u) (Some v)

get_less : (Live : ℕ → Type 0) (us vs : List Use) → LessUses Live us vs → (at : ℕ) → LessMaybe Live (slice_get us at) (slice_get vs at)
get_less Live _ _ none at = nowhere
get_less Live _ _ (one u v us vs l ls) zero = there u v l
get_less Live _ _ (one u v us vs l ls) (suc at) = get_less Live us vs ls at

-- ---- a dialogue; f: the reports that are compared

pub data Less (Live : ℕ → Type 0) (f : Reported → Bool) : Dialogue → Dialogue → Type 0 where
  less : (ordered : Bool) (lines : ℕ) (us vs : List Use) (events : List ℕ) (crossed : Bool) (k m : Known) (xs ys : List Reported)
      → LessUses Live us vs → LessKnown Live k m → ClaimNoMore (filter f xs) (filter f ys)
      → Less Live f
      (record { ordered = ordered; lines = lines; uses = us; events = events; crossed = crossed; known = k; reported = xs })
      (record { ordered = ordered; lines = lines; uses = vs; events = events; crossed = crossed; known = m; reported = ys })

-- ---- a line of the server

fault_less : (Live : ℕ → Type 0) (f : Reported → Bool) → IsFair f → (x : Reported) (d e : Dialogue) → Less Live f d e
    → Less Live f (faulting d x) (faulting e x)
fault_less Live f fair x _ _ (less ordered lines us vs events crossed k m xs ys ls l p) =
    less ordered lines (map (use_renewed (all_renewed Fault)) us) (map (use_renewed (all_renewed Fault)) vs) events crossed
    (all_renewed Fault k) (all_renewed Fault m) (xs ++ x ∷ []) (ys ++ x ∷ [])
    (map_less Live (use_renewed (all_renewed Fault)) (use_renewed (all_renewed Fault)) (use_less Live Fault tt) us vs ls)
    (all_less Live Fault tt k m l) (more_chosen f fair xs ys (x ∷ []) (x ∷ []) p (same_claims (x ∷ [])))

report_less : (Live : ℕ → Type 0) (crossed : Bool) (h : Heard) (tag : Tag) (command : SentCommand) (at : Stage) (u v : Use) → LessUse Live u v
    → ClaimNoMore (reported_by (unless_crossed crossed u.known) tag command at h) (reported_by (unless_crossed crossed v.known) tag command at h)
report_less Live crossed h tag command at u v l =
    reported_less Live (unless_crossed crossed u.known) (unless_crossed crossed v.known)
    (crossed_less Live crossed u.known v.known (known_less Live u v l)) tag command at h

hearing_less : (Live : ℕ → Type 0) (f : Reported → Bool) → IsFair f → (at : ℕ) (h : Heard) (ended : Bool) (u v : Use) → LessUse Live u v
    → (d e : Dialogue) → Less Live f d e → Less Live f (hearing d at u h ended) (hearing e at v h ended)
hearing_less Live f fair at h ended _ _ (alike tag command line here failed more less_rival a b live covers kl) _ _
    (less ordered lines us vs events crossed k m xs ys ls l p) =
    less ordered lines (left_over (map (use_heard line h) us) at ended) (left_over (map (use_heard line h) vs) at ended) events crossed
    (all_renewed (Mark line h) k) (all_renewed (Mark line h) m) (xs ++ _) (ys ++ _)
    (left_less Live (map (use_heard line h) us) (map (use_heard line h) vs)
    (map_less Live (use_heard line h) (use_heard line h) (heard_less Live line h live) us vs ls) at ended)
    (all_less Live (Mark line h) live k m l)
    (more_chosen f fair xs ys _ _ p
    (report_less Live crossed h tag command here _ _
    (heard_less Live line h live _ _ (alike tag command line here failed more less_rival a b live covers kl))))

turn_less : (Live : ℕ → Type 0) (us vs : List Use) → LessUses Live us vs → (at : ℕ) (h : Heard) (u v : Use) → LessUse Live u v
    → is_out_of_turn us at u h ≡ is_out_of_turn vs at v h
turn_less Live us vs ls at h _ _ (alike tag command line here failed more lesser k m live covers l) = rw (ahead_less Live us vs ls at) refl

if_early : (Live : ℕ → Type 0) (f : Reported → Bool) → IsFair f → (at : ℕ) (h : Heard) (ended : Bool) (u v : Use) → LessUse Live u v
    → (d e : Dialogue) → Less Live f d e → (x y : Bool) → x ≡ y
    → Less Live f
    (if x then hearing (faulting d (Reported.Broken NotInTurn u.tag)) at (use_renewed (all_renewed Fault) u) h ended else hearing d at u h ended)
    (if y then hearing (faulting e (Reported.Broken NotInTurn v.tag)) at (use_renewed (all_renewed Fault) v) h ended else hearing e at v h ended)
if_early Live f fair at h ended _ _ (alike tag command line here failed more lesser k m live covers l) d e p true true same =
    hearing_less Live f fair at h ended _ _
    (use_less Live Fault tt _ _ (alike tag command line here failed more lesser k m live covers l))
    (faulting d (Reported.Broken NotInTurn tag)) (faulting e (Reported.Broken NotInTurn tag)) (fault_less Live f fair (Reported.Broken NotInTurn tag) d e p)
if_early Live f fair at h ended u v l d e p true false same = absurd (cc (same))
if_early Live f fair at h ended u v l d e p false true same = absurd (cc (same))
if_early Live f fair at h ended u v l d e p false false same = hearing_less Live f fair at h ended u v l d e p

at_less : (Live : ℕ → Type 0) (f : Reported → Bool) → IsFair f → (at : ℕ) (signal : Signal) (x y : Option Use) → LessMaybe Live x y
    → (d e : Dialogue) → Less Live f d e → Less Live f (at_use d at signal x) (at_use e at signal y)
at_less Live f fair at signal _ _ nowhere d e p = p
at_less Live f fair at signal _ _ (there u v l) _ _ (less ordered lines us vs events crossed k m xs ys ls kl p) =
    go u v l
  where
    go : (u v : Use) → LessUse Live u v
        → Less Live f (at_use (record { ordered = ordered; lines = lines; uses = us; events = events; crossed = crossed; known = k; reported = xs }) at signal (Some u))
        (at_use (record { ordered = ordered; lines = lines; uses = vs; events = events; crossed = crossed; known = m; reported = ys }) at signal (Some v))
    go _ _ (alike tag command line here failed more lesser a b live covers ul) =
        if_early Live f fair at (heard_as command signal) (is_end signal) _ _ (alike tag command line here failed more lesser a b live covers ul) _ _
        (less ordered lines us vs events crossed k m xs ys ls kl p) _ _
        (turn_less Live us vs ls at (heard_as command signal) _ _ (alike tag command line here failed more lesser a b live covers ul))

if_report : (Live : ℕ → Type 0) (f : Reported → Bool) → IsFair f → (line : List ℕ) (d e : Dialogue) → Less Live f d e → (b : Bool)
    → Less Live f (if b then d else faulting d (Reported.Unasked line)) (if b then e else faulting e (Reported.Unasked line))
if_report Live f fair line d e p true = p
if_report Live f fair line d e p false = fault_less Live f fair (Reported.Unasked line) d e p

unasked_less : (Live : ℕ → Type 0) (f : Reported → Bool) → IsFair f → (line : List ℕ) (tag : Tag) (signal : Signal) (d e : Dialogue) → Less Live f d e
    → Less Live f (unasked d line tag signal) (unasked e line tag signal)
unasked_less Live f fair line tag signal _ _ (less ordered lines us vs events crossed k m xs ys ls kl p) =
    if_report Live f fair line _ _ (less ordered lines us vs events crossed k m xs ys ls kl p) (is_report tag signal events)

under_less : (Live : ℕ → Type 0) (f : Reported → Bool) → IsFair f → (line : List ℕ) (tag : Tag) (signal : Signal) (d e : Dialogue) → Less Live f d e
    → (at : Option ℕ) → Less Live f (heard_under d line tag signal at) (heard_under e line tag signal at)
under_less Live f fair line tag signal d e p None = unasked_less Live f fair line tag signal d e p
under_less Live f fair line tag signal _ _ (less ordered lines us vs events crossed k m xs ys ls kl p) (Some at) =
    at_less Live f fair at signal (slice_get us at) (slice_get vs at) (get_less Live us vs ls at) _ _
    (less ordered lines us vs events crossed k m xs ys ls kl p)

pub answered_less_line : (Live : ℕ → Type 0) (f : Reported → Bool) → IsFair f → (line : List ℕ) (what : Option (Tag × Signal)) (d e : Dialogue)
    → Less Live f d e → Less Live f (server_answered d line what) (server_answered e line what)
answered_less_line Live f fair line None d e p = fault_less Live f fair (Reported.Other Server line) d e p
answered_less_line Live f fair line (Some (tag, signal)) _ _ (less ordered lines us vs events crossed k m xs ys ls kl p) =
    subst (λ (at : Option ℕ). Less Live f
    (heard_under (record { ordered = ordered; lines = lines; uses = us; events = events; crossed = crossed; known = k; reported = xs }) line tag signal (first_under tag us))
    (heard_under (record { ordered = ordered; lines = lines; uses = vs; events = events; crossed = crossed; known = m; reported = ys }) line tag signal at))
    (first_less Live tag us vs ls)
    (under_less Live f fair line tag signal _ _ (less ordered lines us vs events crossed k m xs ys ls kl p) (first_under tag us))

-- ---- a line of the client

sending_less : (Live : ℕ → Type 0) (f : Reported → Bool) (tag : Tag) (what : SentCommand) (d e : Dialogue) (b : Option (ℕ × Bool)) → Live d.lines
    → Less Live f d e → Less Live f (sending_after d tag what b) (sending_after e tag what b)
sending_less Live f tag what _ _ b live (less ordered lines us vs events crossed k m xs ys ls l p) =
    less ordered (lines + 1) (us ++ _ ∷ []) (vs ++ _ ∷ []) (with_event tag events) (crossed || (ordered && is_some (line_of b)))
    (below (fresh lines (line_of b) (is_lost b)) what k) (below (fresh lines (line_of b) (is_lost b)) what m) xs ys
    (append_less Live us vs _ _ ls (one _ _ [] []
    (alike tag what lines Stage.Sent false (line_of b) (line_of b) (if is_lost b then nothing else k) (if is_lost b then nothing else m)
    live (λ line here hit. hit) (if_nothing Live (is_lost b) k m l)) none))
    (below_less Live (fresh lines (line_of b) (is_lost b)) (fresh lines (line_of b) (is_lost b))
    (same_standing Live (fresh lines (line_of b) (is_lost b))) what k m l) p

pub sent_less : (Live : ℕ → Type 0) (f : Reported → Bool) (tag : Tag) (what : SentCommand) (d e : Dialogue) → Live d.lines → Less Live f d e
    → Less Live f (sending d tag what) (sending e tag what)
sent_less Live f tag what _ _ live (less ordered lines us vs events crossed k m xs ys ls l p) =
    subst (λ (b : Option (ℕ × Bool)). Less Live f
    (sending_after (record { ordered = ordered; lines = lines; uses = us; events = events; crossed = crossed; known = k; reported = xs }) tag what (last_under tag us None))
    (sending_after (record { ordered = ordered; lines = lines; uses = vs; events = events; crossed = crossed; known = m; reported = ys }) tag what b))
    (last_less Live tag None us vs ls)
    (sending_less Live f tag what _ _ (last_under tag us None) live (less ordered lines us vs events crossed k m xs ys ls l p))

at_once_less : (Live : ℕ → Type 0) (f : Reported → Bool) → IsFair f → (line : List ℕ) (d e : Dialogue) → Less Live f d e
    → Less Live f (at_once d line) (at_once e line)
at_once_less Live f fair line _ _ (less ordered lines us vs events crossed k m xs ys ls l p) =
    less ordered lines (map unknowing us) (map unknowing vs) events crossed nothing nothing (xs ++ Reported.Other Client line ∷ [])
    (ys ++ Reported.Other Client line ∷ []) (map_less Live unknowing unknowing (both_unknowing Live) us vs ls) (nothing_less Live nothing)
    (more_chosen f fair xs ys _ _ p (same_claims (Reported.Other Client line ∷ [])))

pub one_more_less : (Live : ℕ → Type 0) (f : Reported → Bool) (d e : Dialogue) → Less Live f d e → Less Live f (one_more d) (one_more e)
one_more_less Live f _ _ (less ordered lines us vs events crossed k m xs ys ls l p) = less ordered (lines + 1) us vs events crossed k m xs ys ls l p

if_at_once : (Live : ℕ → Type 0) (f : Reported → Bool) → IsFair f → (line : List ℕ) (tag : Tag) (what : SentCommand) (d e : Dialogue) → Live d.lines
    → Less Live f d e → (b : Bool)
    → Less Live f (if b then sending (at_once d line) tag what else sending d tag what) (if b then sending (at_once e line) tag what else sending e tag what)
if_at_once Live f fair line tag what d e live p true =
    sent_less Live f tag what (at_once d line) (at_once e line) live (at_once_less Live f fair line d e p)
if_at_once Live f fair line tag what d e live p false = sent_less Live f tag what d e live p

client_less : (Live : ℕ → Type 0) (f : Reported → Bool) → IsFair f → (line : List ℕ) (what : Option (Tag × SentCommand)) (d e : Dialogue)
    → Live d.lines → Less Live f d e → Less Live f (client_sent d line what) (client_sent e line what)
client_less Live f fair line None d e live p = one_more_less Live f (at_once d line) (at_once e line) (at_once_less Live f fair line d e p)
client_less Live f fair line (Some (tag, what)) d e live p = if_at_once Live f fair line tag what d e live p (foreign_event tag what)

-- ---- lines

pub said_less : (Live : ℕ → Type 0) (f : Reported → Bool) → IsFair f → (line : Line) (d e : Dialogue) → Live d.lines → Less Live f d e
    → Less Live f (said d line) (said e line)
said_less Live f fair (Up line) d e live p = client_less Live f fair line (sent line (command_of line)) d e live p
said_less Live f fair (Down line) d e live p = answered_less_line Live f fair line (answered (response_of line)) d e p
