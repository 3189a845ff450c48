-- All lines of the client are read first: what is reported then.
use Rattle.witness_laws.proofs.Names.{◌++◌, ◌∙◌, ◌∷◌, ◌≡◌, [], answered, ap, at_once, at_once_line, Bool, Client, client_lines, client_sent}
use Rattle.witness_laws.proofs.Names.{command_of, Dialogue, Down, downs, Err, false, false≢true, filter, foreign_event, frame_of, has_failed_under}
use Rattle.witness_laws.proofs.Names.{if◌then◌else◌, is_open, IsBehind, IsCausal, IsClear, IsCounted, IsSure, last_under, ledger, Line, List}
use Rattle.witness_laws.proofs.Names.{list_any-append, map, None, NotResponse, Ok, Option, or_from, or_parts, refl, Reported, Response, response_of}
use Rattle.witness_laws.proofs.Names.{Result, said, said_all, sending, sends, sent, SentCommand, server_lines, silence, Some, some_at_once}
use Rattle.witness_laws.proofs.Names.{some_sends, subst, sym, Tag, tag_is, tool_of, true, unknowing, Up, ups, Use, ℕ}
use Rattle.witness_laws.specs.Orders.{Same}
use Rattle.witness_laws.proofs.orders.Claiming.{IsFair, all_fair, all_of, claims_both, part_both}
use Rattle.witness_laws.proofs.orders.Counts.{said_counted, ordered_answered, silence_counted}
use Rattle.witness_laws.proofs.orders.Swaps.{new_use}
use Rattle.witness_laws.proofs.orders.Sinking.{Claims, Below, below_trans, same_below, swap_below, swap_above, open_unknowing}

-- ---- lines one after another

pub all_append : (d : Dialogue) (lines more : List Line) → said_all d (lines ++ more) ≡ said_all (said_all d lines) more
all_append d [] more = refl
all_append d (line ∷ lines) more = all_append (said d line) lines more

pub all_ups : (d : Dialogue) (up : List (List ℕ)) → said_all d (map Up up) ≡ client_lines d up
all_ups d [] = refl
all_ups d (line ∷ up) = all_ups (said d (Up line)) up

pub all_downs : (d : Dialogue) (down : List (List ℕ)) → said_all d (map Down down) ≡ server_lines d down
all_downs d [] = refl
all_downs d (line ∷ down) = all_downs (said d (Down line)) down

below_more : (f : Reported → Bool) (d e : Dialogue) (lines : List Line) → Below f d e → Below f (said_all d lines) (said_all e lines)
below_more f d e lines p = λ rest.
    subst (λ (x : Dialogue). Claims f x (said_all (said_all e lines) rest)) (all_append d lines rest)
    (subst (Claims f (said_all d (lines ++ rest))) (all_append e lines rest) (p (lines ++ rest)))

below_ups : (f : Reported → Bool) (d e : Dialogue) (up : List (List ℕ)) → Below f d e → Below f (client_lines d up) (client_lines e up)
below_ups f d e up p =
    subst (λ (x : Dialogue). Below f x (client_lines e up)) (all_ups d up)
    (subst (Below f (said_all d (map Up up))) (all_ups e up) (below_more f d e (map Up up) p))

below_downs : (f : Reported → Bool) (d e : Dialogue) (down : List (List ℕ)) → Below f d e → Below f (server_lines d down) (server_lines e down)
below_downs f d e down p =
    subst (λ (x : Dialogue). Below f x (server_lines e down)) (all_downs d down)
    (subst (Below f (said_all d (map Down down))) (all_downs e down) (below_more f d e (map Down down) p))

-- ---- a line of the client, and what is open

if_ordered : (d : Dialogue) (line : List ℕ) (tag : Tag) (what : SentCommand) (b : Bool)
    → (if b then sending (at_once d line) tag what else sending d tag what).ordered ≡ d.ordered
if_ordered d line tag what true = refl
if_ordered d line tag what false = refl

client_ordered : (d : Dialogue) (line : List ℕ) (w : Option (Tag × SentCommand)) → (client_sent d line w).ordered ≡ d.ordered
client_ordered d line None = refl
client_ordered d line (Some (tag, what)) = if_ordered d line tag what (foreign_event tag what)

pub said_ordered : (d : Dialogue) (line : Line) → (said d line).ordered ≡ d.ordered
said_ordered d (Up line) = client_ordered d line (sent line (command_of line))
said_ordered d (Down line) = ordered_answered d line (answered (response_of line))

failed_unknowing : (tag : Tag) (uses : List Use) → has_failed_under tag (map unknowing uses) ≡ has_failed_under tag uses
failed_unknowing tag [] = refl
failed_unknowing tag (u ∷ uses) = ap (λ (b : Bool). if tag_is u.tag tag then u.has_failed else b) (failed_unknowing tag uses)

-- more commands are open than before, at the end, and these have not failed
record OpensMore (d e : Dialogue) : Type 0 where
  there : (tag : Tag) → is_open tag e.uses ≡ false → is_open tag d.uses ≡ false
  failed : (tag : Tag) → has_failed_under tag e.uses ≡ true → has_failed_under tag d.uses ≡ true

failed_end : (tag : Tag) (uses : List Use) (u : Use) → u.has_failed ≡ false → has_failed_under tag (uses ++ u ∷ []) ≡ true → has_failed_under tag uses ≡ true
failed_end tag [] u none e = go (tag_is u.tag tag) e where
  go : (b : Bool) → (if b then u.has_failed else false) ≡ true → false ≡ true
  go true e = sym none ∙ e
  go false e = e
failed_end tag (x ∷ uses) u none e = go (failed_end tag uses u none) (tag_is x.tag tag) e where
  go : (has_failed_under tag (uses ++ u ∷ []) ≡ true → has_failed_under tag uses ≡ true) → (b : Bool)
      → (if b then x.has_failed else has_failed_under tag (uses ++ u ∷ [])) ≡ true → (if b then x.has_failed else has_failed_under tag uses) ≡ true
  go rest true e = e
  go rest false e = rest e

sending_opens : (d : Dialogue) (tag : Tag) (what : SentCommand) → OpensMore d (sending d tag what)
sending_opens d tag what = record {
  there = λ t e.
      (or_parts (is_open t d.uses) (is_open t (new_use d.lines tag what (last_under tag d.uses None) d.known ∷ []))
      (sym (list_any-append (λ (u : Use). tag_is u.tag t) d.uses (new_use d.lines tag what (last_under tag d.uses None) d.known ∷ [])) ∙ e)).0;
  failed = λ t e. failed_end t d.uses (new_use d.lines tag what (last_under tag d.uses None) d.known) refl e;
}

if_opens : (d : Dialogue) (line : List ℕ) (tag : Tag) (what : SentCommand) (b : Bool)
    → OpensMore d (if b then sending (at_once d line) tag what else sending d tag what)
if_opens d line tag what true = record {
  there = λ t e. sym (open_unknowing t d.uses) ∙ (sending_opens (at_once d line) tag what).there t e;
  failed = λ t e. sym (failed_unknowing t d.uses) ∙ (sending_opens (at_once d line) tag what).failed t e;
}
if_opens d line tag what false = sending_opens d tag what

client_opens : (d : Dialogue) (line : List ℕ) (w : Option (Tag × SentCommand)) → OpensMore d (client_sent d line w)
client_opens d line None = record {
  there = λ t e. sym (open_unknowing t d.uses) ∙ e;
  failed = λ t e. sym (failed_unknowing t d.uses) ∙ e;
}
client_opens d line (Some (tag, what)) = if_opens d line tag what (foreign_event tag what)

up_opens : (d : Dialogue) (line : List ℕ) → OpensMore d (said d (Up line))
up_opens d line = client_opens d line (sent line (command_of line))

pub behind_first : (uses : List Use) (up : List ℕ) (later : List (List ℕ)) (r : Result Response NotResponse)
    → IsBehind uses (up ∷ later) r → IsBehind uses (up ∷ []) r
behind_first uses up later (Ok r) behind =
    λ none. or_from (sends r.tag up) false ((or_parts (sends r.tag up) (some_sends r.tag later) (behind none)).0) refl
behind_first uses up later (Err why) behind = tt

pub behind_later : (d : Dialogue) (up : List ℕ) (later : List (List ℕ)) (r : Result Response NotResponse)
    → IsBehind d.uses (up ∷ later) r → IsBehind (said d (Up up)).uses later r
behind_later d up later (Ok r) behind =
    λ none. (or_parts (sends r.tag up) (some_sends r.tag later) (behind ((up_opens d up).there r.tag none))).1
behind_later d up later (Err why) behind = tt

sure_first : (uses : List Use) (up : List ℕ) (later : List (List ℕ)) (r : Result Response NotResponse)
    → IsSure uses (up ∷ later) r → IsSure uses (up ∷ []) r
sure_first uses up later (Ok r) sure =
    λ end failed. or_from (sends r.tag up) false ((or_parts (sends r.tag up) (some_sends r.tag later) (sure end failed)).0) refl
sure_first uses up later (Err why) sure = tt

pub sure_later : (d : Dialogue) (up : List ℕ) (later : List (List ℕ)) (r : Result Response NotResponse)
    → IsSure d.uses (up ∷ later) r → IsSure (said d (Up up)).uses later r
sure_later d up later (Ok r) sure =
    λ end failed. (or_parts (sends r.tag up) (some_sends r.tag later) (sure end ((up_opens d up).failed r.tag failed))).1
sure_later d up later (Err why) sure = tt

-- ---- a line of the server sinks below the client's later lines

-- the reports that are compared leave out lines that may be carried out at once
abbrev pub Drops : (Reported → Bool) → List (List ℕ) → Type 0
Drops f [] = Unit {0}
Drops f (line ∷ lines) = (at_once_line line ≡ true → f (Reported.Other Client line) ≡ false) × Drops f lines

sink_below : (f : Reported → Bool) → IsFair f → (d : Dialogue) (up : List (List ℕ)) (down : List ℕ) → IsCounted d → d.ordered ≡ false
    → IsBehind d.uses up (response_of down) → Drops f up
    → Below f (said (client_lines d up) (Down down)) (client_lines (said d (Down down)) up)
sink_below f fair d [] down c free behind drops = same_below f fair _ _ refl
sink_below f fair d (line ∷ up) down c free behind drops =
    below_trans f _ _ _
    (sink_below f fair (said d (Up line)) up down (said_counted d (Up line) c) (said_ordered d (Up line) ∙ free)
    (behind_later d line up (response_of down) behind) drops.1)
    (below_ups f (said (said d (Up line)) (Down down)) (said (said d (Down down)) (Up line)) up
    (swap_below f fair d line down c free (behind_first d.uses line up (response_of down) behind) drops.0))

sink_above : (f : Reported → Bool) → IsFair f → (d : Dialogue) (up : List (List ℕ)) (down : List ℕ) → IsCounted d → d.ordered ≡ false
    → IsBehind d.uses up (response_of down) → some_at_once up ≡ false → IsSure d.uses up (response_of down)
    → Below f (client_lines (said d (Down down)) up) (said (client_lines d up) (Down down))
sink_above f fair d [] down c free behind later sure = same_below f fair _ _ refl
sink_above f fair d (line ∷ up) down c free behind later sure =
    let parts = or_parts (at_once_line line) (some_at_once up) later in
    below_trans f _ _ _
    (below_ups f (said (said d (Down down)) (Up line)) (said (said d (Up line)) (Down down)) up
    (swap_above f fair d line down c free (behind_first d.uses line up (response_of down) behind) parts.0
    (sure_first d.uses line up (response_of down) sure)))
    (sink_above f fair (said d (Up line)) up down (said_counted d (Up line) c) (said_ordered d (Up line) ∙ free)
    (behind_later d line up (response_of down) behind) parts.1 (sure_later d line up (response_of down) sure))

-- ---- all lines of the client first

pub sort_below : (f : Reported → Bool) → IsFair f → (d : Dialogue) (lines : List Line) → IsCounted d → d.ordered ≡ false → IsCausal d lines
    → Drops f (ups lines) → Below f (server_lines (client_lines d (ups lines)) (downs lines)) (said_all d lines)
sort_below f fair d [] c free causal drops = same_below f fair _ _ refl
sort_below f fair d (Up line ∷ lines) c free causal drops =
    sort_below f fair (said d (Up line)) lines (said_counted d (Up line) c) (said_ordered d (Up line) ∙ free) causal drops.1
sort_below f fair d (Down line ∷ lines) c free causal drops =
    below_trans f _ _ _
    (below_downs f (said (client_lines d (ups lines)) (Down line)) (client_lines (said d (Down line)) (ups lines)) (downs lines)
    (sink_below f fair d (ups lines) line c free causal.0 drops))
    (sort_below f fair (said d (Down line)) lines (said_counted d (Down line) c) (said_ordered d (Down line) ∙ free) causal.1 drops)

pub sort_above : (f : Reported → Bool) → IsFair f → (d : Dialogue) (lines : List Line) → IsCounted d → d.ordered ≡ false → IsCausal d lines
    → IsClear d lines → Below f (said_all d lines) (server_lines (client_lines d (ups lines)) (downs lines))
sort_above f fair d [] c free causal clear = same_below f fair _ _ refl
sort_above f fair d (Up line ∷ lines) c free causal clear =
    sort_above f fair (said d (Up line)) lines (said_counted d (Up line) c) (said_ordered d (Up line) ∙ free) causal clear
sort_above f fair d (Down line ∷ lines) c free causal clear =
    below_trans f _ _ _
    (sort_above f fair (said d (Down line)) lines (said_counted d (Down line) c) (said_ordered d (Down line) ∙ free) causal.1 clear.2)
    (below_downs f (client_lines (said d (Down line)) (ups lines)) (said (client_lines d (ups lines)) (Down line)) (downs lines)
    (sink_above f fair d (ups lines) line c free causal.0 clear.0 clear.1))

pub none_drops : (f : Reported → Bool) (up : List (List ℕ)) → some_at_once up ≡ false → Drops f up
none_drops f [] e = tt
none_drops f (line ∷ up) e =
    let parts = or_parts (at_once_line line) (some_at_once up) e in ((λ is. absurd (false≢true (sym parts.0 ∙ is))), none_drops f up parts.1)

-- ---- with a clear order it is the same

-- below, with all reports, where lines that may be carried out at once come before all lines of the server
sort_clear : (d : Dialogue) (lines : List Line) → IsCounted d → d.ordered ≡ false → IsCausal d lines → IsClear d lines
    → Below (λ x. true) (server_lines (client_lines d (ups lines)) (downs lines)) (said_all d lines)
sort_clear d [] c free causal clear = same_below (λ x. true) all_fair _ _ refl
sort_clear d (Up line ∷ lines) c free causal clear =
    sort_clear (said d (Up line)) lines (said_counted d (Up line) c) (said_ordered d (Up line) ∙ free) causal clear
sort_clear d (Down line ∷ lines) c free causal clear =
    below_trans (λ x. true) _ _ _
    (below_downs (λ x. true) (said (client_lines d (ups lines)) (Down line)) (client_lines (said d (Down line)) (ups lines)) (downs lines)
    (sink_below (λ x. true) all_fair d (ups lines) line c free causal.0 (none_drops (λ x. true) (ups lines) clear.0)))
    (sort_clear (said d (Down line)) lines (said_counted d (Down line) c) (said_ordered d (Down line) ∙ free) causal.1 clear.2)

both_claim : (d e : Dialogue) → Claims (λ x. true) d e → Claims (λ x. true) e d → Same d e
both_claim d e p q = record {
  reported = sym (all_of d.reported)
      ∙ claims_both (filter (λ (x : Reported). true) d.reported) (filter (λ (x : Reported). true) e.reported) p.reported q.reported
      ∙ all_of e.reported;
  tool = part_both (tool_of d.known) (tool_of e.known) p.tool q.tool;
  frame = part_both (frame_of d.known) (frame_of e.known) p.frame q.frame;
}

pub same_sorted : (lines : List Line) → IsCausal (silence false) lines → IsClear (silence false) lines
    → Same (said_all (silence false) lines) (ledger (ups lines) (downs lines))
same_sorted lines causal clear =
    both_claim (said_all (silence false) lines) (ledger (ups lines) (downs lines))
    (sort_above (λ x. true) all_fair (silence false) lines (silence_counted false) refl causal clear [])
    (sort_clear (silence false) lines (silence_counted false) refl causal clear [])

pub same_told : (lines : List Line) → IsCausal (silence false) lines → IsClear (silence false) lines
    → (said_all (silence false) lines).reported ≡ (ledger (ups lines) (downs lines)).reported
same_told lines causal clear = (same_sorted lines causal clear).reported
