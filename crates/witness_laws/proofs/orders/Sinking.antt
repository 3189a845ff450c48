-- A line of the server is read before the client's later lines, or after them: what is reported then, and after any further lines.
use Rattle.witness_laws.proofs.Names.{◌&&◌, ◌++◌, ◌+◌, ◌||◌, ◌∙◌, ◌∷◌, ◌≡◌, ◌≤◌, [], answered, ap, append-nil, arith, at_once, at_once_line, at_use}
use Rattle.witness_laws.proofs.Names.{below, Bool, ClaimNoMore, Client, client_sent, command_of, cond, Dialogue, Down, eqb-true, Err, false}
use Rattle.witness_laws.proofs.Names.{false≢true, faulting, filter, filter-append, first_under, foreign_event, frame_of, fresh, heard_as, heard_under}
use Rattle.witness_laws.proofs.Names.{if◌then◌else◌, is_at_once, is_open, is_out_of_turn, is_report, is_some, is_under, IsBehind, IsCounted, IsPart}
use Rattle.witness_laws.proofs.Names.{IsSure, Known, last_under, Line, line_of, List, map, None, nothing, NotResponse, Ok, one_more, Option, or_parts}
use Rattle.witness_laws.proofs.Names.{Progress, refl, Reported, Response, response_of, Result, said, said_all, sending, sending_after, sent}
use Rattle.witness_laws.proofs.Names.{SentCommand, server_answered, Signal, slice_get, Some, Stage, subst, sym, Tag, tag_is, tool_of, true, unknowing}
use Rattle.witness_laws.proofs.Names.{Up, Use, with_event, ℕ}
use Rattle.witness_laws.proofs.orders.Claiming.{IsFair, same_claims, claims_trans, part_trans, chosen}
use Rattle.witness_laws.proofs.orders.Counts.{lines_answered, ordered_answered, at_once_counted, answered_nothing, AllBlank, KnowsNothing, all_unknowing, Without}
use Rattle.witness_laws.proofs.orders.Counts.{Each}
use Rattle.witness_laws.proofs.orders.Knowing.{Covers, LessKnown, nothing_less, same_known, tool_less, frame_less, LessStanding, gone, stands, below_less}
use Rattle.witness_laws.proofs.orders.Lesser.{LessUse, LessUses, none, one, same_use, append_less, Less, less, answered_less_line, sent_less, one_more_less}
use Rattle.witness_laws.proofs.orders.Lesser.{said_less, alike as alike_use}
use Rattle.witness_laws.proofs.orders.Sends.{AfterSend, after_send, Agrees, alike, ended, IsEndOf, NotEarly}

-- ---- what one claims, and after any further lines

pub record Claims (f : Reported → Bool) (d e : Dialogue) : Type 0 where
  pub reported : ClaimNoMore (filter f d.reported) (filter f e.reported)
  pub tool : IsPart (tool_of d.known) (tool_of e.known)
  pub frame : IsPart (frame_of d.known) (frame_of e.known)

pub trans : (f : Reported → Bool) (a b c : Dialogue) → Claims f a b → Claims f b c → Claims f a c
trans f a b c p q = record {
  reported = claims_trans (filter f a.reported) (filter f b.reported) (filter f c.reported) p.reported q.reported;
  tool = part_trans (tool_of a.known) (tool_of b.known) (tool_of c.known) p.tool q.tool;
  frame = part_trans (frame_of a.known) (frame_of b.known) (frame_of c.known) p.frame q.frame;
}

abbrev pub Below : (Reported → Bool) → Dialogue → Dialogue → Type 0
Below f d e = (rest : List Line) → Claims f (said_all d rest) (said_all e rest)

pub below_trans : (f : Reported → Bool) (a b c : Dialogue) → Below f a b → Below f b c → Below f a c
below_trans f a b c p q = λ rest. trans f (said_all a rest) (said_all b rest) (said_all c rest) (p rest) (q rest)

less_claims : (Live : ℕ → Type 0) (f : Reported → Bool) (d e : Dialogue) → Less Live f d e → Claims f d e
less_claims Live f _ _ (less ordered lines us vs events crossed k m xs ys ls l p) =
    record { reported = p; tool = tool_less Live k m l; frame = frame_less Live k m l }

-- ---- numbers of lines

sent_lines : (d : Dialogue) (line : List ℕ) (tag : Tag) (what : SentCommand) (b : Bool)
    → (if b then sending (at_once d line) tag what else sending d tag what).lines ≡ d.lines + 1
sent_lines d line tag what true = refl
sent_lines d line tag what false = refl

client_sent_lines : (d : Dialogue) (line : List ℕ) (what : Option (Tag × SentCommand)) → (client_sent d line what).lines ≡ d.lines + 1
client_sent_lines d line None = refl
client_sent_lines d line (Some (tag, what)) = sent_lines d line tag what (foreign_event tag what)

lines_grow : (d : Dialogue) (line : Line) → d.lines ≤ (said d line).lines
lines_grow d (Up line) =
    let e : (client_sent d line (sent line (command_of line))).lines ≡ d.lines + 1 = client_sent_lines d line (sent line (command_of line)) in
    omega (arith, e)
lines_grow d (Down line) =
    let e : (server_answered d line (answered (response_of line))).lines ≡ d.lines = lines_answered d line (answered (response_of line)) in
    omega (arith, e)

abbrev pub LiveFrom : (ℕ → Type 0) → ℕ → Type 0
LiveFrom Live n = (m : ℕ) → n ≤ m → Live m

pub less_below : (Live : ℕ → Type 0) (f : Reported → Bool) → IsFair f → (d e : Dialogue) → LiveFrom Live d.lines → Less Live f d e → Below f d e
less_below Live f fair d e live p [] = less_claims Live f d e p
less_below Live f fair d e live p (line ∷ rest) =
    less_below Live f fair (said d line) (said e line)
    (λ m here. live m (let g : d.lines ≤ (said d line).lines = lines_grow d line in omega (arith, g, here)))
    (said_less Live f fair line d e (live d.lines (omega arith)) p) rest

-- ---- the same

abbrev pub Any : ℕ → Type 0
Any n = Unit {0}

abbrev AllLive : (ℕ → Type 0) → List Use → Type 0
AllLive Live uses = Each (λ (u : Use). Live u.line) uses

same_uses : (Live : ℕ → Type 0) (uses : List Use) → AllLive Live uses → LessUses Live uses uses
same_uses Live [] all = none
same_uses Live (u ∷ uses) all = one u u uses uses (same_use Live u all.0) (same_uses Live uses all.1)

any_live : (uses : List Use) → AllLive Any uses
any_live [] = tt
any_live (u ∷ uses) = (tt, any_live uses)

same_less : (f : Reported → Bool) → IsFair f → (d : Dialogue) → Less Any f d d
same_less f fair d =
    less d.ordered d.lines d.uses d.uses d.events d.crossed d.known d.known d.reported d.reported (same_uses Any d.uses (any_live d.uses))
    (same_known Any d.known) (chosen f fair d.reported d.reported (same_claims d.reported))

pub same_below : (f : Reported → Bool) → IsFair f → (d e : Dialogue) → d ≡ e → Below f d e
same_below f fair d e same = subst (Below f d) same (less_below Any f fair d d (λ m here. tt) (same_less f fair d))

-- ---- a command whose rival ended in between

abbrev other_than : ℕ → ℕ → Type 0
other_than p n = n ≡ p → ⊥

without_live : (p : ℕ) (uses : List Use) → Without p uses → AllLive (other_than p) uses
without_live p [] w = tt
without_live p (u ∷ uses) w = (w.0, without_live p uses w.1)

lost_standing : (n p : ℕ) (failed : Bool) → LessStanding Any (fresh n (Some p) failed) (fresh n None false)
lost_standing n p true = gone _
lost_standing n p false = stands n Progress.Sent (Some p) None (λ line live hit. absurd (false≢true hit))

lost_known : (failed : Bool) (k : Known) → LessKnown Any (if failed then nothing else k) k
lost_known true k = nothing_less Any k
lost_known false k = same_known Any k

-- of a dialogue that does not take the order for known
abbrev unordered : Dialogue → Dialogue
unordered d = record d { ordered = false }

by_order : (P : Dialogue → Type 0) (d : Dialogue) → d.ordered ≡ false → P (unordered d) → P d
by_order P d e p = subst (λ (o : Bool). P (record d { ordered = o })) (sym e) p

lost_less : (f : Reported → Bool) → IsFair f → (d : Dialogue) (tag : Tag) (what : SentCommand) (p : ℕ) (failed : Bool)
    → Less Any f (sending_after (unordered d) tag what (Some (p, failed))) (sending_after (unordered d) tag what None)
lost_less f fair d tag what p failed =
    less false (d.lines + 1) (d.uses ++ _ ∷ []) (d.uses ++ _ ∷ []) (with_event tag d.events) (d.crossed || false)
    (below (fresh d.lines (Some p) failed) what d.known) (below (fresh d.lines None false) what d.known) d.reported d.reported
    (append_less Any d.uses d.uses _ _ (same_uses Any d.uses (any_live d.uses))
    (one _ _ [] []
    (alike_use tag what d.lines Stage.Sent false (Some p) None (if failed then nothing else d.known) d.known tt (λ line live hit. absurd (false≢true hit))
    (lost_known failed d.known)) none))
    (below_less Any (fresh d.lines (Some p) failed) (fresh d.lines None false) (lost_standing d.lines p failed) what d.known d.known (same_known Any d.known))
    (chosen f fair d.reported d.reported (same_claims d.reported))

kept_covers : (p : ℕ) → Covers (other_than p) None (Some p)
kept_covers p = λ line live hit. absurd (live (sym (eqb-true p line hit)))

kept_less : (f : Reported → Bool) → IsFair f → (d : Dialogue) (tag : Tag) (what : SentCommand) (p : ℕ) → other_than p d.lines → Without p d.uses
    → Less (other_than p) f (sending_after (unordered d) tag what None) (sending_after (unordered d) tag what (Some (p, false)))
kept_less f fair d tag what p next others =
    less false (d.lines + 1) (d.uses ++ _ ∷ []) (d.uses ++ _ ∷ []) (with_event tag d.events) (d.crossed || false)
    (below (fresh d.lines None false) what d.known) (below (fresh d.lines (Some p) false) what d.known) d.reported d.reported
    (append_less (other_than p) d.uses d.uses _ _ (same_uses (other_than p) d.uses (without_live p d.uses others))
    (one _ _ [] []
    (alike_use tag what d.lines Stage.Sent false None (Some p) d.known d.known next (kept_covers p) (same_known (other_than p) d.known)) none))
    (below_less (other_than p) (fresh d.lines None false) (fresh d.lines (Some p) false) (stands d.lines Progress.Sent None (Some p) (kept_covers p)) what
    d.known d.known (same_known (other_than p) d.known))
    (chosen f fair d.reported d.reported (same_claims d.reported))

-- ---- a command that is sent before or after a line of the server

abbrev Sooner : Dialogue → Tag → SentCommand → List ℕ → Option (Tag × Signal) → Dialogue
Sooner d tag what line r = server_answered (sending d tag what) line r

abbrev After : Dialogue → Tag → SentCommand → List ℕ → Option (Tag × Signal) → Dialogue
After d tag what line r = sending (server_answered d line r) tag what

agrees_below : (f : Reported → Bool) → IsFair f → (d e : Dialogue) (tag : Tag) (what : SentCommand) (r : Option (Tag × Signal)) → e.ordered ≡ false
    → (x y : Option (ℕ × Bool)) → Agrees d tag r e x y → Below f (sending_after e tag what x) (sending_after e tag what y)
agrees_below f fair d e tag what r free _ _ (alike b) = same_below f fair _ _ refl
agrees_below f fair d e tag what r free _ _ (ended p failed end before others) =
    by_order (λ (e : Dialogue). Below f (sending_after e tag what (Some (p, failed))) (sending_after e tag what None)) e free
    (less_below Any f fair _ _ (λ m here. tt) (lost_less f fair e tag what p failed))

agrees_above : (f : Reported → Bool) → IsFair f → (d e : Dialogue) (tag : Tag) (what : SentCommand) (r : Option (Tag × Signal)) → e.ordered ≡ false
    → (IsEndOf d.uses tag r true → ⊥) → (x y : Option (ℕ × Bool)) → Agrees d tag r e x y
    → Below f (sending_after e tag what y) (sending_after e tag what x)
agrees_above f fair d e tag what r free sure _ _ (alike b) = same_below f fair _ _ refl
agrees_above f fair d e tag what r free sure _ _ (ended p true end before others) = absurd (sure end)
agrees_above f fair d e tag what r free sure _ _ (ended p false end before others) =
    by_order (λ (e : Dialogue). Below f (sending_after e tag what None) (sending_after e tag what (Some (p, false)))) e free
    (less_below (other_than p) f fair _ _ (λ m here same. omega (arith, here, same, before))
    (kept_less f fair e tag what p (λ same. omega (arith, same, before)) others))

no_order : (d : Dialogue) (b : Option (ℕ × Bool)) → d.ordered ≡ false → (d.ordered && is_some (line_of b)) ≡ false
no_order d b free = ap (λ (o : Bool). o && is_some (line_of b)) free

send_below : (f : Reported → Bool) → IsFair f → (d : Dialogue) (tag : Tag) (what : SentCommand) (line : List ℕ) (r : Option (Tag × Signal)) → IsCounted d
    → d.ordered ≡ false → NotEarly d.uses tag r → Below f (Sooner d tag what line r) (After d tag what line r)
send_below f fair d tag what line r c free early =
    let a : AfterSend d tag what line r = after_send d tag what line r c (no_order d (last_under tag d.uses None) free) early in
    below_trans f _ _ _ (same_below f fair _ _ a.same)
    (agrees_below f fair d (server_answered d line r) tag what r (ordered_answered d line r ∙ free) a.last _ a.agrees)

send_above : (f : Reported → Bool) → IsFair f → (d : Dialogue) (tag : Tag) (what : SentCommand) (line : List ℕ) (r : Option (Tag × Signal)) → IsCounted d
    → d.ordered ≡ false → NotEarly d.uses tag r → (IsEndOf d.uses tag r true → ⊥) → Below f (After d tag what line r) (Sooner d tag what line r)
send_above f fair d tag what line r c free early sure =
    let a : AfterSend d tag what line r = after_send d tag what line r c (no_order d (last_under tag d.uses None) free) early in
    below_trans f _ _ _
    (agrees_above f fair d (server_answered d line r) tag what r (ordered_answered d line r ∙ free) sure a.last _ a.agrees)
    (same_below f fair _ _ (sym a.same))

-- ---- a line that may be carried out at once

dropped : (f : Reported → Bool) (xs : List Reported) (x : Reported) → f x ≡ false → filter f (xs ++ x ∷ []) ≡ filter f xs
dropped f xs x e = filter-append f xs (x ∷ []) ∙ ap (λ (b : Bool). filter f xs ++ cond b (x ∷ []) []) e ∙ append-nil (filter f xs)

unknowing_uses : (uses : List Use) → LessUses Any (map unknowing uses) uses
unknowing_uses [] = none
unknowing_uses (u ∷ uses) =
    one _ _ (map unknowing uses) uses
    (alike_use u.tag u.command u.line u.stage u.has_failed u.rival u.rival nothing u.known tt (λ line live hit. hit) (nothing_less Any u.known))
    (unknowing_uses uses)

at_once_less : (f : Reported → Bool) → IsFair f → (d : Dialogue) (line : List ℕ) → f (Reported.Other Client line) ≡ false → Less Any f (at_once d line) d
at_once_less f fair d line drops =
    less d.ordered d.lines (map unknowing d.uses) d.uses d.events d.crossed nothing d.known (d.reported ++ Reported.Other Client line ∷ []) d.reported
    (unknowing_uses d.uses) (nothing_less Any d.known)
    (subst (λ (l : List Reported). ClaimNoMore l (filter f d.reported)) (sym (dropped f d.reported (Reported.Other Client line) drops))
    (chosen f fair d.reported d.reported (same_claims d.reported)))

blank_use : (u v : Use) → LessUse Any u v → u.known ≡ nothing → LessUse Any u (unknowing v)
blank_use _ _ (alike_use tag command line at failed more lesser k m live covers l) e =
    alike_use tag command line at failed more lesser k nothing live covers (subst (λ (x : Known). LessKnown Any x nothing) (sym e) (nothing_less Any nothing))

blank_uses : (us vs : List Use) → LessUses Any us vs → AllBlank us → LessUses Any us (map unknowing vs)
blank_uses _ _ none b = none
blank_uses _ _ (one u v us vs l ls) b = one u (unknowing v) us (map unknowing vs) (blank_use u v l b.0) (blank_uses us vs ls b.1)

blank_less : (f : Reported → Bool) (d e : Dialogue) (line : List ℕ) → f (Reported.Other Client line) ≡ false → Less Any f d e → KnowsNothing d
    → Less Any f d (at_once e line)
blank_less f _ _ line drops (less ordered lines us vs events crossed k m xs ys ls l p) b =
    less ordered lines us (map unknowing vs) events crossed k nothing xs (ys ++ Reported.Other Client line ∷ []) (blank_uses us vs ls b.uses)
    (subst (λ (x : Known). LessKnown Any x nothing) (sym b.known) (nothing_less Any nothing))
    (subst (ClaimNoMore (filter f xs)) (sym (dropped f ys (Reported.Other Client line) drops)) p)

at_once_before : (f : Reported → Bool) → IsFair f → (d : Dialogue) (line down : List ℕ) (r : Option (Tag × Signal)) → f (Reported.Other Client line) ≡ false
    → Less Any f (server_answered (at_once d line) down r) (at_once (server_answered d down r) line)
at_once_before f fair d line down r drops =
    blank_less f (server_answered (at_once d line) down r) (server_answered d down r) line drops
    (answered_less_line Any f fair down r (at_once d line) d (at_once_less f fair d line drops))
    (answered_nothing (at_once d line) down r (record { uses = all_unknowing d.uses; known = refl }))

-- ---- one more line

if_one_more : (d e : Dialogue) (x : Bool) → (if x then one_more d else one_more e) ≡ one_more (if x then d else e)
if_one_more d e true = refl
if_one_more d e false = refl

use_one_more : (d : Dialogue) (at : ℕ) (signal : Signal) (u : Option Use) → at_use (one_more d) at signal u ≡ one_more (at_use d at signal u)
use_one_more d at signal None = refl
use_one_more d at signal (Some u) = if_one_more _ _ (is_out_of_turn d.uses at u (heard_as u.command signal))

under_one_more : (d : Dialogue) (line : List ℕ) (tag : Tag) (signal : Signal) (at : Option ℕ)
    → heard_under (one_more d) line tag signal at ≡ one_more (heard_under d line tag signal at)
under_one_more d line tag signal None = if_one_more d (faulting d (Reported.Unasked line)) (is_report tag signal d.events)
under_one_more d line tag signal (Some at) = use_one_more d at signal (slice_get d.uses at)

pub one_more_answered : (d : Dialogue) (line : List ℕ) (r : Option (Tag × Signal))
    → server_answered (one_more d) line r ≡ one_more (server_answered d line r)
one_more_answered d line None = refl
one_more_answered d line (Some (tag, signal)) = under_one_more d line tag signal (first_under tag d.uses)

-- ---- a line of each end

pub open_unknowing : (tag : Tag) (uses : List Use) → is_open tag (map unknowing uses) ≡ is_open tag uses
open_unknowing tag [] = refl
open_unknowing tag (u ∷ uses) = ap (λ (b : Bool). tag_is u.tag tag || b) (open_unknowing tag uses)

pub early_unknowing : (uses : List Use) (tag : Tag) (r : Option (Tag × Signal)) → NotEarly uses tag r → NotEarly (map unknowing uses) tag r
early_unknowing uses tag None early = tt
early_unknowing uses tag (Some (t, signal)) early = λ e. early (sym (open_unknowing t uses) ∙ e)

abbrev MayDrop : (Reported → Bool) → List ℕ → Option (Tag × SentCommand) → Type 0
MayDrop f line w = is_at_once w ≡ true → f (Reported.Other Client line) ≡ false

if_below : (f : Reported → Bool) → IsFair f → (d : Dialogue) (up down : List ℕ) (tag : Tag) (what : SentCommand) (r : Option (Tag × Signal))
    → IsCounted d → d.ordered ≡ false → NotEarly d.uses tag r → (b : Bool) → (b ≡ true → f (Reported.Other Client up) ≡ false)
    → Below f (server_answered (if b then sending (at_once d up) tag what else sending d tag what) down r)
    (if b then sending (at_once (server_answered d down r) up) tag what else sending (server_answered d down r) tag what)
if_below f fair d up down tag what r c free early true drops =
    below_trans f _ _ _
    (send_below f fair (at_once d up) tag what down r (at_once_counted d up c) free (early_unknowing d.uses tag r early))
    (less_below Any f fair _ _ (λ m here. tt) (sent_less Any f tag what _ _ tt (at_once_before f fair d up down r (drops refl))))
if_below f fair d up down tag what r c free early false drops = send_below f fair d tag what down r c free early

pub early_of : (uses : List Use) (up : List ℕ) (tag : Tag) (what : SentCommand) (r : Result Response NotResponse) → sent up (command_of up) ≡ Some (tag, what)
    → IsBehind uses (up ∷ []) r → NotEarly uses tag (answered r)
early_of uses up tag what (Ok r) is behind =
    λ none. (or_parts (tag_is tag r.tag) false (ap (λ w. is_under r.tag w || false) (sym is) ∙ behind none)).0
early_of uses up tag what (Err why) is behind = tt

pub swap_below : (f : Reported → Bool) → IsFair f → (d : Dialogue) (up down : List ℕ) → IsCounted d → d.ordered ≡ false
    → IsBehind d.uses (up ∷ []) (response_of down) → (at_once_line up ≡ true → f (Reported.Other Client up) ≡ false)
    → Below f (said (said d (Up up)) (Down down)) (said (said d (Down down)) (Up up))
swap_below f fair d up down c free behind drops = go (sent up (command_of up)) refl drops where
  go : (w : Option (Tag × SentCommand)) → sent up (command_of up) ≡ w → MayDrop f up w
      → Below f (server_answered (client_sent d up w) down (answered (response_of down))) (client_sent (server_answered d down (answered (response_of down))) up w)
  go None is may =
      below_trans f _ _ _
      (same_below f fair _ _ (one_more_answered (at_once d up) down (answered (response_of down))))
      (less_below Any f fair _ _ (λ m here. tt)
      (one_more_less Any f _ _ (at_once_before f fair d up down (answered (response_of down)) (may refl))))
  go (Some (tag, what)) is may =
      if_below f fair d up down tag what (answered (response_of down)) c free (early_of d.uses up tag what (response_of down) is behind)
      (foreign_event tag what) may

not_sure : (uses : List Use) (up : List ℕ) (tag : Tag) (what : SentCommand) (r : Result Response NotResponse) → sent up (command_of up) ≡ Some (tag, what)
    → IsSure uses (up ∷ []) r → IsEndOf uses tag (answered r) true → ⊥
not_sure uses up tag what (Ok r) is sure end =
    false≢true (sym (or_parts (tag_is tag r.tag) false (ap (λ w. is_under r.tag w || false) (sym is) ∙ sure end.1 end.2)).0 ∙ end.0)
not_sure uses up tag what (Err why) is sure end = end

pub swap_above : (f : Reported → Bool) → IsFair f → (d : Dialogue) (up down : List ℕ) → IsCounted d → d.ordered ≡ false
    → IsBehind d.uses (up ∷ []) (response_of down) → at_once_line up ≡ false → IsSure d.uses (up ∷ []) (response_of down)
    → Below f (said (said d (Down down)) (Up up)) (said (said d (Up up)) (Down down))
swap_above f fair d up down c free behind waits sure = go (sent up (command_of up)) refl waits where
  in_turn : (e : Dialogue) (tag : Tag) (what : SentCommand) → foreign_event tag what ≡ false → client_sent e up (Some (tag, what)) ≡ sending e tag what
  in_turn e tag what later = ap (λ (b : Bool). if b then sending (at_once e up) tag what else sending e tag what) later

  go : (w : Option (Tag × SentCommand)) → sent up (command_of up) ≡ w → is_at_once w ≡ false
      → Below f (client_sent (server_answered d down (answered (response_of down))) up w) (server_answered (client_sent d up w) down (answered (response_of down)))
  go None is later = absurd (false≢true (sym later))
  go (Some (tag, what)) is later =
      below_trans f _ _ _ (same_below f fair _ _ (in_turn (server_answered d down (answered (response_of down))) tag what later))
      (below_trans f _ _ _
      (send_above f fair d tag what down (answered (response_of down)) c free (early_of d.uses up tag what (response_of down) is behind)
      (not_sure d.uses up tag what (response_of down) is sure))
      (same_below f fair _ _ (ap (λ (e : Dialogue). server_answered e down (answered (response_of down))) (sym (in_turn d tag what later)))))
