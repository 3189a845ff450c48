-- A command may be read before the replies to others, with the same result.
use Rattle.witness_laws.proofs.Names.{◌&&◌, ◌++◌, ◌∙◌, ◌∷◌, ◌≡◌, [], after, answered, answers, ap, AreFresh, at_once, Bool, client_lines}
use Rattle.witness_laws.proofs.Names.{client_sent, command_of, Dialogue, Down, Err, false, false≢true, foreign_event, if◌then◌else◌, is_of, is_open}
use Rattle.witness_laws.proofs.Names.{is_some, IsBehind, IsCausal, IsCounted, IsFresh, IsNew, last_under, left_over, line_of, List}
use Rattle.witness_laws.proofs.Names.{list_any, map, None, NotResponse, Ok, Option, or_from, or_parts, refl, remove, Response, response_of, Result}
use Rattle.witness_laws.proofs.Names.{said, sending, sending_after, Sends, sent, sent_tagged, SentCommand, server_answered, server_lines, Signal}
use Rattle.witness_laws.proofs.Names.{Some, subst, suc, sym, Tag, tag_is, true, Up, Use, use_heard, zero, ℕ}
use Rattle.witness_laws.proofs.orders.Counts.{answered_keeps, said_counted}
use Rattle.witness_laws.proofs.orders.More.{ups_after, open_heard}
use Rattle.witness_laws.proofs.orders.Sends.{AfterSend, after_send, Agrees, alike, ended, IsEndOf, NotEarly, open_fault}
use Rattle.witness_laws.proofs.orders.Sinking.{early_of}
use Rattle.witness_laws.proofs.orders.Sorting.{behind_first, behind_later}
use Rattle.witness_laws.proofs.orders.Swaps.{last_none, one_tag, and_no}

-- ---- no command is opened by a line of the server

remove_closed : (tag : Tag) (uses : List Use) (at : ℕ) → is_open tag uses ≡ false → is_open tag (remove uses at) ≡ false
remove_closed tag [] zero e = e
remove_closed tag [] (suc at) e = e
remove_closed tag (u ∷ uses) zero e = (or_parts (tag_is u.tag tag) (is_open tag uses) e).1
remove_closed tag (u ∷ uses) (suc at) e =
    let parts = or_parts (tag_is u.tag tag) (is_open tag uses) e in
    or_from (tag_is u.tag tag) (is_open tag (remove uses at)) parts.0 (remove_closed tag uses at parts.1)

left_closed : (tag : Tag) (uses : List Use) (at : ℕ) (ended : Bool) → is_open tag uses ≡ false → is_open tag (left_over uses at ended) ≡ false
left_closed tag uses at true e = remove_closed tag uses at e
left_closed tag uses at false e = e

closed_answered : (tag : Tag) (d : Dialogue) (line : List ℕ) (r : Option (Tag × Signal)) → is_open tag d.uses ≡ false
    → is_open tag (server_answered d line r).uses ≡ false
closed_answered tag d line r e = answered_keeps (λ x. is_open tag x.uses ≡ false) (λ x y p. open_fault tag x.uses ∙ p)
    (λ x at u h ended p. left_closed tag (map (use_heard u.line h) x.uses) at ended (open_heard tag u.line h x.uses ∙ p)) d line r e

pub stays_closed : (tag : Tag) (d : Dialogue) (line : List ℕ) → is_open tag d.uses ≡ false → is_open tag (said d (Down line)).uses ≡ false
stays_closed tag d line e = closed_answered tag d line (answered (response_of line)) e

-- ---- a command under a tag under which none is open

no_end : (uses : List Use) (tag : Tag) (r : Option (Tag × Signal)) (failed : Bool) → is_open tag uses ≡ false → IsEndOf uses tag r failed → ⊥
no_end uses tag None failed e end = end
no_end uses tag (Some (t, signal)) failed e end =
    false≢true (sym e ∙ ap (λ (x : Tag). is_open x uses) (one_tag tag t end.0) ∙ end.3)

agree : (d : Dialogue) (tag : Tag) (r : Option (Tag × Signal)) (e : Dialogue) → is_open tag d.uses ≡ false → (x y : Option (ℕ × Bool)) → Agrees d tag r e x y
    → x ≡ y
agree d tag r e none _ _ (alike b) = refl
agree d tag r e none _ _ (ended p failed end before others) = absurd (no_end d.uses tag r failed none end)

swap_sending : (d : Dialogue) (tag : Tag) (what : SentCommand) (line : List ℕ) (r : Option (Tag × Signal)) → IsCounted d → is_open tag d.uses ≡ false
    → NotEarly d.uses tag r → sending (server_answered d line r) tag what ≡ server_answered (sending d tag what) line r
swap_sending d tag what line r c none early =
    let free : (d.ordered && is_some (line_of (last_under tag d.uses None))) ≡ false =
    ap (λ (b : Option (ℕ × Bool)). d.ordered && is_some (line_of b)) (last_none tag d.uses None none) ∙ and_no d.ordered false refl in
    let a : AfterSend d tag what line r = after_send d tag what line r c free early in
    sym (a.same ∙ ap (sending_after (server_answered d line r) tag what) (agree d tag r (server_answered d line r) none a.last _ a.agrees))

in_turn : (d : Dialogue) (line : List ℕ) (tag : Tag) (what : SentCommand) → foreign_event tag what ≡ false → sent_tagged d line tag what ≡ sending d tag what
in_turn d line tag what later = ap (λ (b : Bool). if b then sending (at_once d line) tag what else sending d tag what) later

swap_tagged : (d : Dialogue) (up : List ℕ) (tag : Tag) (what : SentCommand) (line : List ℕ) (r : Option (Tag × Signal)) → IsCounted d
    → foreign_event tag what ≡ false → is_open tag d.uses ≡ false → NotEarly d.uses tag r
    → sent_tagged (server_answered d line r) up tag what ≡ server_answered (sent_tagged d up tag what) line r
swap_tagged d up tag what line r c later none early =
    in_turn (server_answered d line r) up tag what later
    ∙ swap_sending d tag what line r c none early
    ∙ ap (λ (e : Dialogue). server_answered e line r) (sym (in_turn d up tag what later))

pub swap_said : (d : Dialogue) (up down : List ℕ) → IsCounted d → IsFresh d.uses up → IsBehind d.uses (up ∷ []) (response_of down)
    → said (said d (Down down)) (Up up) ≡ said (said d (Up up)) (Down down)
swap_said d up down c fresh behind = go (sent up (command_of up)) refl fresh where
  go : (w : Option (Tag × SentCommand)) → sent up (command_of up) ≡ w → IsNew d.uses w
      → client_sent (server_answered d down (answered (response_of down))) up w ≡ server_answered (client_sent d up w) down (answered (response_of down))
  go None is new = absurd new
  go (Some (tag, what)) is new =
      swap_tagged d up tag what down (answered (response_of down)) c new.0 new.1 (early_of d.uses up tag what (response_of down) is behind)

-- a fresh line stays so while the server's lines are read
stays_new : (d : Dialogue) (down : List ℕ) (w : Option (Tag × SentCommand)) → IsNew d.uses w → IsNew (said d (Down down)).uses w
stays_new d down None new = new
stays_new d down (Some (tag, what)) new = (new.0, stays_closed tag d down new.1)

stays_fresh : (d : Dialogue) (up down : List ℕ) → IsFresh d.uses up → IsFresh (said d (Down down)).uses up
stays_fresh d up down fresh = stays_new d down (sent up (command_of up)) fresh

-- many lines of the client and one of the server
swap_up : (d : Dialogue) (up : List (List ℕ)) (down : List ℕ) → IsCounted d → AreFresh d up → IsBehind d.uses up (response_of down)
    → client_lines (said d (Down down)) up ≡ said (client_lines d up) (Down down)
swap_up d [] down c fresh behind = refl
swap_up d (line ∷ up) down c fresh behind =
    ap (λ (e : Dialogue). client_lines e up) (swap_said d line down c fresh.0 (behind_first d.uses line up (response_of down) behind))
    ∙ swap_up (said d (Up line)) up down (said_counted d (Up line) c) fresh.1 (behind_later d line up (response_of down) behind)

stay_fresh : (d : Dialogue) (up : List (List ℕ)) (down : List ℕ) → IsCounted d → AreFresh d up → IsBehind d.uses up (response_of down)
    → AreFresh (said d (Down down)) up
stay_fresh d [] down c fresh behind = tt
stay_fresh d (line ∷ up) down c fresh behind = (
  stays_fresh d line down fresh.0,
  subst (λ (e : Dialogue). AreFresh e up)
      (sym (swap_said d line down c fresh.0 (behind_first d.uses line up (response_of down) behind)))
      (stay_fresh (said d (Up line)) up down (said_counted d (Up line) c) fresh.1 (behind_later d line up (response_of down) behind)),
)

-- many lines of each end
pub swap_all : (d : Dialogue) (up down : List (List ℕ)) → IsCounted d → AreFresh d up → IsCausal d (map Down down ++ map Up up)
    → client_lines (server_lines d down) up ≡ server_lines (client_lines d up) down
swap_all d up [] c fresh causal = refl
swap_all d up (line ∷ down) c fresh causal =
    let behind : IsBehind d.uses up (response_of line) =
    subst (λ (l : List (List ℕ)). IsBehind d.uses l (response_of line)) (ups_after down up) causal.0 in
    swap_all (said d (Down line)) up down (said_counted d (Down line) c) (stay_fresh d up line c fresh behind) causal.1
    ∙ ap (λ (e : Dialogue). server_lines e down) (swap_up d up line c fresh behind)

-- ---- what makes an order causal

pub ups_are_causal : (d : Dialogue) (up : List (List ℕ)) → IsCausal d (map Up up)
ups_are_causal d [] = tt
ups_are_causal d (line ∷ up) = ups_are_causal (said d (Up line)) up

-- a command, and lines that are no responses under its tag
early_other : (uses : List Use) (tag : Tag) (r : Result Response NotResponse) → is_of tag r ≡ false → NotEarly uses tag (answered r)
early_other uses tag (Ok r) other = λ none. other
early_other uses tag (Err why) other = tt

pub swap_command : (d : Dialogue) (line : List ℕ) (tag : Tag) (what : SentCommand) (down : List (List ℕ)) → IsCounted d → is_open tag d.uses ≡ false
    → foreign_event tag what ≡ false → list_any (answers tag) down ≡ false
    → after (server_lines d down) (Sends line (Some (tag, what))) ≡ server_lines (after d (Sends line (Some (tag, what)))) down
swap_command d line tag what [] c none later others = refl
swap_command d line tag what (answer ∷ down) c none later others =
    let parts = or_parts (answers tag answer) (list_any (answers tag) down) others in
    swap_command (said d (Down answer)) line tag what down (said_counted d (Down answer) c) (stays_closed tag d answer none) later parts.1
    ∙ ap (λ (e : Dialogue). server_lines e down)
    (swap_tagged d line tag what answer (answered (response_of answer)) c later none (early_other d.uses tag (response_of answer) parts.0))
