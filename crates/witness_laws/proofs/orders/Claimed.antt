-- Recordings claim no more than a witness that knows the order.
use Rattle.witness_laws.proofs.Names.{◌&&◌, ◌++◌, ◌||◌, ◌∙◌, ◌∷◌, ◌≡◌, [], answered, ap, append-nil, at_once, at_once_line, at_use, Bool, ClaimNoMore}
use Rattle.witness_laws.proofs.Names.{Client, client_sent, command_of, cond, Dialogue, Down, downs, false, faulting, filter, filter-append}
use Rattle.witness_laws.proofs.Names.{first_under, foreign_event, heard_as, heard_under, if◌then◌else◌, in_turn, is_at_once_report, is_out_of_turn}
use Rattle.witness_laws.proofs.Names.{is_report, is_some, IsCausal, last_under, ledger, Line, line_of, List, list_any-append, map, None, not, Option}
use Rattle.witness_laws.proofs.Names.{or_parts, refl, Reported, reported_at_once, reported_first, response_of, said, said_all, sending, sent}
use Rattle.witness_laws.proofs.Names.{SentCommand, server_answered, Signal, silence, slice_get, Some, some_at_once, subst, sym, Tag, true, Up, ups}
use Rattle.witness_laws.proofs.Names.{Use, ℕ}
use Rattle.witness_laws.proofs.orders.Claiming.{IsFair, all_fair, all_of, in_turn_fair}
use Rattle.witness_laws.proofs.orders.Counts.{answered_keeps, silence_counted}
use Rattle.witness_laws.proofs.orders.More.{ups_report_first}
use Rattle.witness_laws.proofs.orders.Sinking.{Claims}
use Rattle.witness_laws.proofs.orders.Sorting.{Drops, none_drops, sort_below}
use Rattle.witness_laws.proofs.orders.Views.{causal_alike, silence_alike}

pub ups_append : (lines more : List Line) → ups (lines ++ more) ≡ ups lines ++ ups more
ups_append [] more = refl
ups_append (Up line ∷ lines) more = ap (λ (l : List (List ℕ)). line ∷ l) (ups_append lines more)
ups_append (Down line ∷ lines) more = ups_append lines more

pub downs_append : (lines more : List Line) → downs (lines ++ more) ≡ downs lines ++ downs more
downs_append [] more = refl
downs_append (Up line ∷ lines) more = downs_append lines more
downs_append (Down line ∷ lines) more = ap (λ (l : List (List ℕ)). line ∷ l) (downs_append lines more)

pub only_ups : (up : List (List ℕ)) → ups (map Up up) ≡ up
only_ups [] = refl
only_ups (line ∷ up) = ap (λ (l : List (List ℕ)). line ∷ l) (only_ups up)

pub no_downs : (up : List (List ℕ)) → downs (map Up up) ≡ []
no_downs [] = refl
no_downs (line ∷ up) = no_downs up

-- ---- a witness that does not take the order for known

abbrev pub unordered : Dialogue → Dialogue
unordered d = record d { ordered = false }

if_unordered : (d e : Dialogue) (x : Bool) → (if x then unordered d else unordered e) ≡ unordered (if x then d else e)
if_unordered d e true = refl
if_unordered d e false = refl

use_unordered : (d : Dialogue) (at : ℕ) (signal : Signal) (u : Option Use) → at_use (unordered d) at signal u ≡ unordered (at_use d at signal u)
use_unordered d at signal None = refl
use_unordered d at signal (Some u) = if_unordered _ _ (is_out_of_turn d.uses at u (heard_as u.command signal))

under_unordered : (d : Dialogue) (line : List ℕ) (tag : Tag) (signal : Signal) (at : Option ℕ)
    → heard_under (unordered d) line tag signal at ≡ unordered (heard_under d line tag signal at)
under_unordered d line tag signal None = if_unordered d (faulting d (Reported.Unasked line)) (is_report tag signal d.events)
under_unordered d line tag signal (Some at) = use_unordered d at signal (slice_get d.uses at)

answered_unordered : (d : Dialogue) (line : List ℕ) (r : Option (Tag × Signal)) → server_answered (unordered d) line r ≡ unordered (server_answered d line r)
answered_unordered d line None = refl
answered_unordered d line (Some (tag, signal)) = under_unordered d line tag signal (first_under tag d.uses)

crossed_is : (c x o : Bool) → (c || (o && x)) ≡ false → (c || (false && x)) ≡ (c || (o && x))
crossed_is c x o e = ap (λ (b : Bool). b || false) ((or_parts c (o && x) e).0) ∙ sym e

sending_unordered : (d : Dialogue) (tag : Tag) (what : SentCommand) → (sending d tag what).crossed ≡ false
    → sending (unordered d) tag what ≡ unordered (sending d tag what)
sending_unordered d tag what e =
    ap (λ (c : Bool). record (unordered (sending d tag what)) { crossed = c })
    (crossed_is d.crossed (is_some (line_of (last_under tag d.uses None))) d.ordered e)

if_sending : (d : Dialogue) (line : List ℕ) (tag : Tag) (what : SentCommand) (b : Bool)
    → (if b then sending (at_once d line) tag what else sending d tag what).crossed ≡ false
    → (if b then sending (at_once (unordered d) line) tag what else sending (unordered d) tag what)
    ≡ unordered (if b then sending (at_once d line) tag what else sending d tag what)
if_sending d line tag what true e = sending_unordered (at_once d line) tag what e
if_sending d line tag what false e = sending_unordered d tag what e

client_unordered : (d : Dialogue) (line : List ℕ) (w : Option (Tag × SentCommand)) → (client_sent d line w).crossed ≡ false
    → client_sent (unordered d) line w ≡ unordered (client_sent d line w)
client_unordered d line None e = refl
client_unordered d line (Some (tag, what)) e = if_sending d line tag what (foreign_event tag what) e

said_unordered : (d : Dialogue) (line : Line) → (said d line).crossed ≡ false → said (unordered d) line ≡ unordered (said d line)
said_unordered d (Up line) e = client_unordered d line (sent line (command_of line)) e
said_unordered d (Down line) e = answered_unordered d line (answered (response_of line))

if_first : (d : Dialogue) (line : List ℕ) (tag : Tag) (what : SentCommand) (b : Bool)
    → (if b then sending (at_once d line) tag what else sending d tag what).crossed ≡ false → d.crossed ≡ false
if_first d line tag what true e = (or_parts d.crossed (d.ordered && is_some (line_of (last_under tag (at_once d line).uses None))) e).0
if_first d line tag what false e = (or_parts d.crossed (d.ordered && is_some (line_of (last_under tag d.uses None))) e).0

client_first : (d : Dialogue) (line : List ℕ) (w : Option (Tag × SentCommand)) → (client_sent d line w).crossed ≡ false → d.crossed ≡ false
client_first d line None e = e
client_first d line (Some (tag, what)) e = if_first d line tag what (foreign_event tag what) e

answered_crossed : (d : Dialogue) (line : List ℕ) (r : Option (Tag × Signal)) → (server_answered d line r).crossed ≡ d.crossed
answered_crossed d line r = answered_keeps (λ e. e.crossed ≡ d.crossed) (λ e x p. p) (λ e at u h ended p. p) d line r refl

said_first : (d : Dialogue) (line : Line) → (said d line).crossed ≡ false → d.crossed ≡ false
said_first d (Up line) e = client_first d line (sent line (command_of line)) e
said_first d (Down line) e = sym (answered_crossed d line (answered (response_of line))) ∙ e

all_first : (d : Dialogue) (lines : List Line) → (said_all d lines).crossed ≡ false → d.crossed ≡ false
all_first d [] e = e
all_first d (line ∷ lines) e = said_first d line (all_first (said d line) lines e)

pub all_unordered : (d : Dialogue) (lines : List Line) → (said_all d lines).crossed ≡ false → said_all (unordered d) lines ≡ unordered (said_all d lines)
all_unordered d [] e = refl
all_unordered d (line ∷ lines) e =
    ap (λ (x : Dialogue). said_all x lines) (said_unordered d line (all_first (said d line) lines e)) ∙ all_unordered (said d line) lines e

pub told_unordered : (lines : List Line) → (said_all (silence true) lines).crossed ≡ false
    → (said_all (silence false) lines).reported ≡ (said_all (silence true) lines).reported
told_unordered lines e = ap (λ (d : Dialogue). d.reported) (all_unordered (silence true) lines e)

-- ---- what recordings claim

abbrev chosen_in_turn : Reported → Bool
chosen_in_turn r = not (is_at_once_report r)

none_chosen : (line : List ℕ) (b : Bool) → at_once_line line ≡ b → filter chosen_in_turn (reported_at_once line b) ≡ []
none_chosen line true e = ap (λ (b : Bool). cond (not b) (Reported.Other Client line ∷ []) []) e
none_chosen line false e = refl

none_in_turn : (up : List (List ℕ)) → filter chosen_in_turn (reported_first up) ≡ []
none_in_turn [] = refl
none_in_turn (line ∷ up) =
    filter-append chosen_in_turn (reported_at_once line (at_once_line line)) (reported_first up)
    ∙ ap (λ (l : List Reported). l ++ filter chosen_in_turn (reported_first up)) (none_chosen line (at_once_line line) refl)
    ∙ none_in_turn up

all_drop : (up : List (List ℕ)) → Drops chosen_in_turn up
all_drop [] = tt
all_drop (line ∷ up) = ((λ e. ap not e), all_drop up)

-- f: the reports that are compared
claimed : (f : Reported → Bool) → IsFair f → (lines : List Line) (later : List (List ℕ)) → IsCausal (silence false) (lines ++ map Up later)
    → Drops f (ups lines ++ later) → filter f (reported_first later) ≡ []
    → ClaimNoMore (filter f (ledger (ups lines ++ later) (downs lines)).reported) (filter f (said_all (silence false) lines).reported)
claimed f fair lines later causal drops quiet =
    let above : ups (lines ++ map Up later) ≡ ups lines ++ later =
    ups_append lines (map Up later) ∙ ap (λ (l : List (List ℕ)). ups lines ++ l) (only_ups later) in
    let below : downs (lines ++ map Up later) ≡ downs lines =
    downs_append lines (map Up later) ∙ ap (λ (l : List (List ℕ)). downs lines ++ l) (no_downs later) ∙ append-nil (downs lines) in
    let all : Claims f (ledger (ups (lines ++ map Up later)) (downs (lines ++ map Up later))) (said_all (silence false) (lines ++ map Up later)) =
    sort_below f fair (silence false) (lines ++ map Up later) (silence_counted false) refl causal (subst (Drops f) (sym above) drops) [] in
    subst (ClaimNoMore (filter f (ledger (ups lines ++ later) (downs lines)).reported))
    (ap (filter f) (ups_report_first (silence false) lines later)
    ∙ filter-append f (said_all (silence false) lines).reported (reported_first later)
    ∙ ap (λ (l : List Reported). filter f (said_all (silence false) lines).reported ++ l) quiet
    ∙ append-nil (filter f (said_all (silence false) lines).reported))
    (subst (λ (d : Dialogue). ClaimNoMore (filter f d.reported) (filter f (said_all (silence false) (lines ++ map Up later)).reported))
    (ap (λ (l : List (List ℕ)). ledger l (downs (lines ++ map Up later))) above ∙ ap (ledger (ups lines ++ later)) below) all.reported)

pub any_claim : (lines : List Line) (later : List (List ℕ)) → IsCausal (silence false) (lines ++ map Up later)
    → ClaimNoMore (in_turn (ledger (ups lines ++ later) (downs lines)).reported) (in_turn (said_all (silence false) lines).reported)
any_claim lines later causal = claimed chosen_in_turn in_turn_fair lines later causal (all_drop (ups lines ++ later)) (none_in_turn later)

pub causal_without : (lines : List Line) → IsCausal (silence true) lines → IsCausal (silence false) lines
causal_without lines causal = causal_alike (silence true) (silence false) lines (silence_alike true false) causal

pub ordered_claim : (lines : List Line) (later : List (List ℕ)) → IsCausal (silence true) (lines ++ map Up later)
    → (said_all (silence true) lines).crossed ≡ false
    → ClaimNoMore (in_turn (ledger (ups lines ++ later) (downs lines)).reported) (in_turn (said_all (silence true) lines).reported)
ordered_claim lines later causal free =
    subst (λ (l : List Reported). ClaimNoMore (in_turn (ledger (ups lines ++ later) (downs lines)).reported) (in_turn l)) (told_unordered lines free)
    (any_claim lines later (causal_without (lines ++ map Up later) causal))

none_first : (up : List (List ℕ)) → some_at_once up ≡ false → reported_first up ≡ []
none_first [] e = refl
none_first (line ∷ up) e =
    let parts = or_parts (at_once_line line) (some_at_once up) e in
    ap (λ (b : Bool). reported_at_once line b ++ reported_first up) parts.0 ∙ none_first up parts.1

pub all_claim : (lines : List Line) (later : List (List ℕ)) → IsCausal (silence true) (lines ++ map Up later)
    → (said_all (silence true) lines).crossed ≡ false → some_at_once (ups lines ++ later) ≡ false
    → ClaimNoMore (ledger (ups lines ++ later) (downs lines)).reported (said_all (silence true) lines).reported
all_claim lines later causal free waits =
    subst (λ (l : List Reported). ClaimNoMore (ledger (ups lines ++ later) (downs lines)).reported l)
    (all_of (said_all (silence false) lines).reported ∙ told_unordered lines free)
    (subst (λ (l : List Reported). ClaimNoMore l (filter (λ (x : Reported). true) (said_all (silence false) lines).reported))
    (all_of (ledger (ups lines ++ later) (downs lines)).reported)
    (claimed (λ x. true) all_fair lines later (causal_without (lines ++ map Up later) causal) (none_drops (λ x. true) (ups lines ++ later) waits)
    (all_of (reported_first later) ∙ none_first later
    ((or_parts (some_at_once (ups lines)) (some_at_once later) (sym (list_any-append at_once_line (ups lines) later) ∙ waits)).1))))
