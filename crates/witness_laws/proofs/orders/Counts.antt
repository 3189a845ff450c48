-- What stays as it is while lines are read.
use Rattle.witness_laws.proofs.Names.{◌&&◌, ◌++◌, ◌+◌, ◌<◌, ◌==◌, ◌||◌, ◌∙◌, ◌∷◌, ◌≡◌, ◌≤◌, [], after_mark, all_renewed, Answer, answered}
use Rattle.witness_laws.proofs.Names.{answered_known, ap, append-nil, append_assoc, AreCounted, arith, at_once, at_use, Bool, client_sent, command_of}
use Rattle.witness_laws.proofs.Names.{Dialogue, Down, false, Fault, faulting, first_under, foreign_event, Heard, heard_as, heard_under, hearing}
use Rattle.witness_laws.proofs.Names.{if◌then◌else◌, is_answer, is_end, is_error, is_out_of_turn, is_report, is_rival, IsCounted, IsPrefix, Known}
use Rattle.witness_laws.proofs.Names.{left_over, Line, List, list_any, map, Mark, ne_eqb, None, nothing, NotInTurn, Option, refl, remove, Reported}
use Rattle.witness_laws.proofs.Names.{response_of, said, said_all, sending, sent, SentCommand, Server, server_answered, Signal, silence, slice_get}
use Rattle.witness_laws.proofs.Names.{Some, subst, suc, sym, Tag, true, unknowing, Up, Use, use_heard, use_renewed, without_rival, zero, ℕ}

-- ---- what faults and marks keep, a line of the server keeps; Q: the marks that are heard

abbrev pub KeptByFaults : (Dialogue → Type 0) → Type 0
KeptByFaults P = (d : Dialogue) (x : Reported) → P d → P (faulting d x)

abbrev pub KeptByMarks : (Dialogue → Type 0) → (Heard → Type 0) → Type 0
KeptByMarks P Q = (d : Dialogue) (at : ℕ) (u : Use) (h : Heard) (ended : Bool) → Q h → P d → P (hearing d at u h ended)

abbrev pub AreHeard : (Heard → Type 0) → Option (Tag × Signal) → Type 0
AreHeard Q None = Unit {0}
AreHeard Q (Some (tag, signal)) = (command : SentCommand) → Q (heard_as command signal)

if_early : (P : Dialogue → Type 0) (Q : Heard → Type 0) → KeptByFaults P → KeptByMarks P Q → (d : Dialogue) (at : ℕ) (u : Use) (h : Heard) (ended : Bool)
    → Q h → P d → (b : Bool)
    → P (if b then hearing (faulting d (Reported.Broken NotInTurn u.tag)) at (use_renewed (all_renewed Fault) u) h ended else hearing d at u h ended)
if_early P Q faults marks d at u h ended q p true =
    marks (faulting d (Reported.Broken NotInTurn u.tag)) at (use_renewed (all_renewed Fault) u) h ended q (faults d (Reported.Broken NotInTurn u.tag) p)
if_early P Q faults marks d at u h ended q p false = marks d at u h ended q p

use_keeps : (P : Dialogue → Type 0) (Q : Heard → Type 0) → KeptByFaults P → KeptByMarks P Q → (d : Dialogue) (at : ℕ) (signal : Signal)
    → ((command : SentCommand) → Q (heard_as command signal)) → P d → (u : Option Use) → P (at_use d at signal u)
use_keeps P Q faults marks d at signal q p None = p
use_keeps P Q faults marks d at signal q p (Some u) =
    if_early P Q faults marks d at u (heard_as u.command signal) (is_end signal) (q u.command) p
    (is_out_of_turn d.uses at u (heard_as u.command signal))

if_report : (P : Dialogue → Type 0) → KeptByFaults P → (d : Dialogue) (line : List ℕ) → P d → (b : Bool)
    → P (if b then d else faulting d (Reported.Unasked line))
if_report P faults d line p true = p
if_report P faults d line p false = faults d (Reported.Unasked line) p

under_keeps : (P : Dialogue → Type 0) (Q : Heard → Type 0) → KeptByFaults P → KeptByMarks P Q → (d : Dialogue) (line : List ℕ) (tag : Tag)
    (signal : Signal) → ((command : SentCommand) → Q (heard_as command signal)) → P d → (at : Option ℕ) → P (heard_under d line tag signal at)
under_keeps P Q faults marks d line tag signal q p None = if_report P faults d line p (is_report tag signal d.events)
under_keeps P Q faults marks d line tag signal q p (Some at) = use_keeps P Q faults marks d at signal q p (slice_get d.uses at)

pub heard_keeps : (P : Dialogue → Type 0) (Q : Heard → Type 0) → KeptByFaults P → KeptByMarks P Q → (d : Dialogue) (line : List ℕ)
    (what : Option (Tag × Signal)) → AreHeard Q what → P d → P (server_answered d line what)
heard_keeps P Q faults marks d line None q p = faults d (Reported.Other Server line) p
heard_keeps P Q faults marks d line (Some (tag, signal)) q p = under_keeps P Q faults marks d line tag signal q p (first_under tag d.uses)

any_heard : (what : Option (Tag × Signal)) → AreHeard (λ h. Unit {0}) what
any_heard None = tt
any_heard (Some (tag, signal)) = λ command. tt

pub answered_keeps : (P : Dialogue → Type 0) → KeptByFaults P
    → ((d : Dialogue) (at : ℕ) (u : Use) (h : Heard) (ended : Bool) → P d → P (hearing d at u h ended)) → (d : Dialogue) (line : List ℕ)
    (what : Option (Tag × Signal)) → P d → P (server_answered d line what)
answered_keeps P faults marks d line what p =
    heard_keeps P (λ h. Unit {0}) faults (λ e at u h ended q p. marks e at u h ended p) d line what (any_heard what) p

-- ---- numbers of lines, and what is known of the order

pub lines_answered : (d : Dialogue) (line : List ℕ) (what : Option (Tag × Signal)) → (server_answered d line what).lines ≡ d.lines
lines_answered d line what = answered_keeps (λ e. e.lines ≡ d.lines) (λ e x p. p) (λ e at u h ended p. p) d line what refl

pub ordered_answered : (d : Dialogue) (line : List ℕ) (what : Option (Tag × Signal)) → (server_answered d line what).ordered ≡ d.ordered
ordered_answered d line what = answered_keeps (λ e. e.ordered ≡ d.ordered) (λ e x p. p) (λ e at u h ended p. p) d line what refl

-- ---- a command after a mark

either_kept : {B : Type 0} (look : Use → B) (x y : Use) (b : Bool) → look x ≡ look y → look (if b then x else y) ≡ look y
either_kept look x y true e = e
either_kept look x y false e = refl

pub heard_field : {B : Type 0} (look : Use → B) (n : ℕ) (h : Heard) (u : Use)
    → look (after_mark (use_renewed (answered_known h) (without_rival n h u)) h) ≡ look (without_rival n h u) → look (unknowing u) ≡ look u
    → look (if u.line == n then after_mark (use_renewed (answered_known h) (without_rival n h u)) h else without_rival n h u) ≡ look u
heard_field look n h u own rival =
    either_kept look (after_mark (use_renewed (answered_known h) (without_rival n h u)) h) (without_rival n h u) (u.line == n) own
    ∙ either_kept look (unknowing u) u (is_rival n u.rival && is_error h) rival

pub heard_line : (n : ℕ) (h : Heard) (u : Use) → (use_heard n h u).line ≡ u.line
heard_line n h u = heard_field (λ (v : Use). v.line) n h u refl refl

pub heard_tag : (n : ℕ) (h : Heard) (u : Use) → (use_heard n h u).tag ≡ u.tag
heard_tag n h u = heard_field (λ (v : Use). v.tag) n h u refl refl

or_not : (b : Bool) → b ≡ (b || false)
or_not true = refl
or_not false = refl

own_failed : (h : Heard) (w : Use) (own : Bool)
    → (if own then after_mark (use_renewed (answered_known h) w) h else w).has_failed ≡ (w.has_failed || (own && is_error h))
own_failed h w true = refl
own_failed h w false = or_not w.has_failed

pub heard_failed : (n : ℕ) (h : Heard) (u : Use) → (use_heard n h u).has_failed ≡ (u.has_failed || ((u.line == n) && is_error h))
heard_failed n h u =
    own_failed h (without_rival n h u) (u.line == n)
    ∙ ap (λ (b : Bool). (without_rival n h u).has_failed || (b && is_error h)) (ap (λ (m : ℕ). m == n) refl)
    ∙ ap (λ (b : Bool). b || ((u.line == n) && is_error h)) (either_kept (λ (v : Use). v.has_failed) (unknowing u) u (is_rival n u.rival && is_error h) refl)

-- ---- open commands are in order

pub bound : (first : ℕ) (uses : List Use) (next : ℕ) → AreCounted first uses next → first ≤ next
bound first [] next c = c
bound first (u ∷ uses) next c = let r : suc u.line ≤ next = bound (suc u.line) uses next c.1 in omega (arith, c.0, r)

lower : (low first : ℕ) (uses : List Use) (next : ℕ) → low ≤ first → AreCounted first uses next → AreCounted low uses next
lower low first [] next e c = omega (arith, e, c)
lower low first (u ∷ uses) next e c = (omega (arith, e, c.0), c.1)

pub higher : (first : ℕ) (uses : List Use) (next : ℕ) → AreCounted first uses next → AreCounted first uses (next + 1)
higher first [] next c = omega (arith, c)
higher first (u ∷ uses) next c = (c.0, higher (suc u.line) uses next c.1)

pub one_counted : (first : ℕ) (uses : List Use) (u : Use) → AreCounted first uses u.line → AreCounted first (uses ++ u ∷ []) (u.line + 1)
one_counted first [] u c = (c, omega arith)
one_counted first (x ∷ uses) u c = (c.0, one_counted (suc x.line) uses u c.1)

pub map_counted : (f : Use → Use) → ((u : Use) → (f u).line ≡ u.line) → (first : ℕ) (uses : List Use) (next : ℕ) → AreCounted first uses next
    → AreCounted first (map f uses) next
map_counted f same first [] next c = c
map_counted f same first (u ∷ uses) next c =
    subst (λ (n : ℕ). (first ≤ n) × AreCounted (suc n) (map f uses) next) (sym (same u)) (c.0, map_counted f same (suc u.line) uses next c.1)

less_counted : (first : ℕ) (uses : List Use) (at : ℕ) (next : ℕ) → AreCounted first uses next → AreCounted first (remove uses at) next
less_counted first [] zero next c = c
less_counted first [] (suc at) next c = c
less_counted first (u ∷ uses) zero next c = lower first (suc u.line) uses next (omega (arith, c.0)) c.1
less_counted first (u ∷ uses) (suc at) next c = (c.0, less_counted (suc u.line) uses at next c.1)

left_counted : (first : ℕ) (uses : List Use) (at : ℕ) (ended : Bool) (next : ℕ) → AreCounted first uses next
    → AreCounted first (left_over uses at ended) next
left_counted first uses at true next c = less_counted first uses at next c
left_counted first uses at false next c = c

pub fault_counted : (d : Dialogue) (x : Reported) → IsCounted d → IsCounted (faulting d x)
fault_counted d x c = map_counted (use_renewed (all_renewed Fault)) (λ u. refl) 0 d.uses d.lines c

hearing_counted : (d : Dialogue) (at : ℕ) (u : Use) (h : Heard) (ended : Bool) → IsCounted d → IsCounted (hearing d at u h ended)
hearing_counted d at u h ended c =
    left_counted 0 (map (use_heard u.line h) d.uses) at ended d.lines
    (map_counted (use_heard u.line h) (heard_line u.line h) 0 d.uses d.lines c)

pub answered_counted : (d : Dialogue) (line : List ℕ) (what : Option (Tag × Signal)) → IsCounted d → IsCounted (server_answered d line what)
answered_counted d line what c = answered_keeps IsCounted fault_counted hearing_counted d line what c

pub at_once_counted : (d : Dialogue) (line : List ℕ) → IsCounted d → IsCounted (at_once d line)
at_once_counted d line c = map_counted unknowing (λ u. refl) 0 d.uses d.lines c

sending_counted : (d : Dialogue) (tag : Tag) (what : SentCommand) → IsCounted d → IsCounted (sending d tag what)
sending_counted d tag what c = one_counted 0 d.uses _ c

if_at_once : (d : Dialogue) (line : List ℕ) (tag : Tag) (what : SentCommand) → IsCounted d → (b : Bool)
    → IsCounted (if b then sending (at_once d line) tag what else sending d tag what)
if_at_once d line tag what c true = sending_counted (at_once d line) tag what (at_once_counted d line c)
if_at_once d line tag what c false = sending_counted d tag what c

client_counted : (d : Dialogue) (line : List ℕ) (what : Option (Tag × SentCommand)) → IsCounted d → IsCounted (client_sent d line what)
client_counted d line None c = higher 0 (map unknowing d.uses) d.lines (at_once_counted d line c)
client_counted d line (Some (tag, what)) c = if_at_once d line tag what c (foreign_event tag what)

pub said_counted : (d : Dialogue) (line : Line) → IsCounted d → IsCounted (said d line)
said_counted d (Up line) c = client_counted d line (sent line (command_of line)) c
said_counted d (Down line) c = answered_counted d line (answered (response_of line)) c

pub all_counted : (d : Dialogue) (lines : List Line) → IsCounted d → IsCounted (said_all d lines)
all_counted d [] c = c
all_counted d (line ∷ lines) c = all_counted (said d line) lines (said_counted d line c)

pub silence_counted : (ordered : Bool) → IsCounted (silence ordered)
silence_counted ordered = omega arith

pub counted_after : (ordered : Bool) (lines : List Line) → IsCounted (said_all (silence ordered) lines)
counted_after ordered lines = all_counted (silence ordered) lines (silence_counted ordered)

-- ---- each of the open commands

abbrev pub Each : {A : Type 0} → (A → Type 0) → List A → Type 0
Each P [] = Unit {0}
Each P (x ∷ xs) = P x × Each P xs

pub each_map : {A : Type 0} (P : A → Type 0) (f : A → A) → ((x : A) → P x → P (f x)) → (xs : List A) → Each P xs → Each P (map f xs)
each_map P f h [] e = tt
each_map P f h (x ∷ xs) e = (h x e.0, each_map P f h xs e.1)

pub each_more : {A : Type 0} (P : A → Type 0) (xs ys : List A) → Each P xs → Each P ys → Each P (xs ++ ys)
each_more P [] ys e g = g
each_more P (x ∷ xs) ys e g = (e.0, each_more P xs ys e.1 g)

each_less : (P : Use → Type 0) (uses : List Use) (at : ℕ) → Each P uses → Each P (remove uses at)
each_less P [] zero e = tt
each_less P [] (suc at) e = tt
each_less P (u ∷ uses) zero e = e.1
each_less P (u ∷ uses) (suc at) e = (e.0, each_less P uses at e.1)

pub each_left : (P : Use → Type 0) (uses : List Use) (at : ℕ) (ended : Bool) → Each P uses → Each P (left_over uses at ended)
each_left P uses at true e = each_less P uses at e
each_left P uses at false e = e

-- ---- one of them is before the next line, and no other is on its line

abbrev pub Without : ℕ → List Use → Type 0
Without n uses = Each (λ (u : Use). u.line ≡ n → ⊥) uses

pub is_before : (first : ℕ) (before : List Use) (u : Use) (after : List Use) (next : ℕ) → AreCounted first (before ++ u ∷ after) next → u.line < next
is_before first [] u after next c = bound (suc u.line) after next c.1
is_before first (x ∷ before) u after next c = is_before (suc x.line) before u after next c.1

later_other : (n first : ℕ) (uses : List Use) (next : ℕ) → n < first → AreCounted first uses next → Without n uses
later_other n first [] next e c = tt
later_other n first (u ∷ uses) next e c =
    ((λ same. omega (arith, e, c.0, same)), later_other n (suc u.line) uses next (omega (arith, e, c.0)) c.1)

pub line_from : (first : ℕ) (before : List Use) (u : Use) (after : List Use) (next : ℕ) → AreCounted first (before ++ u ∷ after) next → first ≤ u.line
line_from first [] u after next c = c.0
line_from first (x ∷ before) u after next c =
    let r : suc x.line ≤ u.line = line_from (suc x.line) before u after next c.1 in omega (arith, c.0, r)

pub others_without : (first : ℕ) (before : List Use) (u : Use) (after : List Use) (next : ℕ) → AreCounted first (before ++ u ∷ after) next
    → Without u.line (before ++ after)
others_without first [] u after next c = later_other u.line (suc u.line) after next (omega arith) c.1
others_without first (x ∷ before) u after next c =
    let r : suc x.line ≤ u.line = line_from (suc x.line) before u after next c.1 in
    ((λ same. omega (arith, r, same)), others_without (suc x.line) before u after next c.1)

pub map_without : (n : ℕ) (f : Use → Use) → ((u : Use) → (f u).line ≡ u.line) → (uses : List Use) → Without n uses → Without n (map f uses)
map_without n f same = each_map (λ (u : Use). u.line ≡ n → ⊥) f (λ u other e. other (sym (same u) ∙ e))

-- ---- a command among others

abbrev pub line_is : ℕ → Use → Bool
line_is n u = u.line == n

pub none_below : (first : ℕ) (uses : List Use) (next n : ℕ) → AreCounted first uses next → n < first → list_any (line_is n) uses ≡ false
none_below first [] next n c low = refl
none_below first (u ∷ uses) next n c low =
    ap (λ (b : Bool). b || list_any (line_is n) uses) (ne_eqb u.line n (λ e. omega (arith, c.0, low, e)))
    ∙ none_below (suc u.line) uses next n c.1 (omega (arith, c.0, low))

pub none_above : (first : ℕ) (uses : List Use) (next : ℕ) → AreCounted first uses next → list_any (line_is next) uses ≡ false
none_above first [] next c = refl
none_above first (u ∷ uses) next c =
    let high = bound (suc u.line) uses next c.1 in
    ap (λ (b : Bool). b || list_any (line_is next) uses) (ne_eqb u.line next (λ e. omega (arith, high, e)))
    ∙ none_above (suc u.line) uses next c.1

pub none_before : (first : ℕ) (before : List Use) (u : Use) (after : List Use) (next : ℕ) → AreCounted first (before ++ u ∷ after) next
    → list_any (line_is u.line) before ≡ false
none_before first [] u after next c = refl
none_before first (v ∷ before) u after next c =
    let high = line_from (suc v.line) before u after next c.1 in
    ap (λ (b : Bool). b || list_any (line_is u.line) before) (ne_eqb v.line u.line (λ e. omega (arith, high, e)))
    ∙ none_before (suc v.line) before u after next c.1

pub none_after : (first : ℕ) (before : List Use) (u : Use) (after : List Use) (next : ℕ) → AreCounted first (before ++ u ∷ after) next
    → list_any (line_is u.line) after ≡ false
none_after first [] u after next c = none_below (suc u.line) after next u.line c.1 (omega arith)
none_after first (v ∷ before) u after next c = none_after (suc v.line) before u after next c.1

pub renewed_counted : (f : Known → Known) (first : ℕ) (uses : List Use) (next : ℕ) → AreCounted first uses next
    → AreCounted first (map (use_renewed f) uses) next
renewed_counted f = map_counted (use_renewed f) (λ u. refl)

pub marked_counted : (f : Known → Known) (first : ℕ) (before : List Use) (u v : Use) (after : List Use) (next : ℕ) → v.line ≡ u.line
    → AreCounted first (before ++ u ∷ after) next → AreCounted first (map (use_renewed f) before ++ v ∷ map (use_renewed f) after) next
marked_counted f first [] u v after next same c =
    subst (λ (n : ℕ). (first ≤ n) × AreCounted (suc n) (map (use_renewed f) after) next) (sym same)
    (c.0, renewed_counted f (suc u.line) after next c.1)
marked_counted f first (w ∷ before) u v after next same c = (c.0, marked_counted f (suc w.line) before u v after next same c.1)

pub gone_counted : (f : Known → Known) (first : ℕ) (before : List Use) (u : Use) (after : List Use) (next : ℕ)
    → AreCounted first (before ++ u ∷ after) next → AreCounted first (map (use_renewed f) before ++ map (use_renewed f) after) next
gone_counted f first [] u after next c = lower first (suc u.line) (map (use_renewed f) after) next (omega (arith, c.0))
    (renewed_counted f (suc u.line) after next c.1)
gone_counted f first (w ∷ before) u after next c = (c.0, gone_counted f (suc w.line) before u after next c.1)

-- ---- once nothing is known, the server changes that no more

abbrev pub AllBlank : List Use → Type 0
AllBlank uses = Each (λ (u : Use). u.known ≡ nothing) uses

pub record KnowsNothing (d : Dialogue) : Type 0 where
  pub uses : AllBlank d.uses
  pub known : d.known ≡ nothing

pub all_unknowing : (uses : List Use) → AllBlank (map unknowing uses)
all_unknowing [] = tt
all_unknowing (u ∷ uses) = (refl, all_unknowing uses)

answered_blank : (k : Known) (b : Bool) → k ≡ nothing → (if b then all_renewed Answer k else k) ≡ nothing
answered_blank k true e = ap (all_renewed Answer) e
answered_blank k false e = e

own_blank : (h : Heard) (w : Use) (own : Bool) → w.known ≡ nothing
    → (if own then after_mark (use_renewed (answered_known h) w) h else w).known ≡ nothing
own_blank h w true e = answered_blank w.known (is_answer h) e
own_blank h w false e = e

rival_blank : (u : Use) (b : Bool) → u.known ≡ nothing → (if b then unknowing u else u).known ≡ nothing
rival_blank u true e = refl
rival_blank u false e = e

heard_blank : (n : ℕ) (h : Heard) (u : Use) → u.known ≡ nothing → (use_heard n h u).known ≡ nothing
heard_blank n h u e =
    ap (all_renewed (Mark n h))
    (own_blank h (without_rival n h u) (u.line == n) (rival_blank u (is_rival n u.rival && is_error h) e))

pub answered_nothing : (d : Dialogue) (line : List ℕ) (what : Option (Tag × Signal)) → KnowsNothing d → KnowsNothing (server_answered d line what)
answered_nothing d line what b = answered_keeps KnowsNothing
    (λ e x p. record {
      uses = each_map (λ (v : Use). v.known ≡ nothing) (use_renewed (all_renewed Fault)) (λ u k. ap (all_renewed Fault) k) e.uses p.uses;
      known = ap (all_renewed Fault) p.known;
    })
    (λ e at u h ended p. record {
      uses = each_left (λ (v : Use). v.known ≡ nothing) (map (use_heard u.line h) e.uses) at ended (each_map (λ (v : Use). v.known ≡ nothing) (use_heard u.line h) (heard_blank u.line h) e.uses p.uses);
      known = ap (all_renewed (Mark u.line h)) p.known;
    }) d line what b

-- ---- what is reported comes after what was

pub prefix_more : (xs ys more : List Reported) → IsPrefix xs ys → IsPrefix xs (ys ++ more)
prefix_more xs ys more p = record {
  rest = p.rest ++ more;
  parts = ap (λ (l : List Reported). l ++ more) p.parts ∙ append_assoc xs p.rest more;
}

pub same_prefix : (xs : List Reported) → IsPrefix xs xs
same_prefix xs = record { rest = []; parts = sym (append-nil xs) }

pub answered_prefix : (xs : List Reported) (d : Dialogue) (line : List ℕ) (what : Option (Tag × Signal)) → IsPrefix xs d.reported
    → IsPrefix xs (server_answered d line what).reported
answered_prefix xs d line what p =
    answered_keeps (λ e. IsPrefix xs e.reported) (λ e x q. prefix_more xs e.reported _ q) (λ e at u h ended q. prefix_more xs e.reported _ q) d line what p
