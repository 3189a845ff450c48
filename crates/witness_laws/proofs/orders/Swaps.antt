-- A command may be read before the replies to others.
use Rattle.witness_laws.proofs.Names.{◌&&◌, ◌++◌, ◌+◌, ◌==◌, ◌||◌, ◌∙◌, ◌∷◌, ◌≡◌, [], all_renewed, ap, below, Bool, Dialogue, eqb-true, Event, false}
use Rattle.witness_laws.proofs.Names.{false≢true, Fault, faulting, fresh, has_turn, Heard, heard_at, hearing, if◌then◌else◌, is_error, is_lost}
use Rattle.witness_laws.proofs.Names.{is_open, is_out_of_turn, is_some, Known, last_under, later, left_over, length, line_of, List, list_any, map}
use Rattle.witness_laws.proofs.Names.{map-append, Mark, may_not_come, None, nothing, NotInTurn, Option, or_from, or_parts, refl, remove, Reported}
use Rattle.witness_laws.proofs.Names.{reported_by, sending_after, SentCommand, Some, Stage, Standing, Std, subst, suc, sym, Tag, tag_is, take, true}
use Rattle.witness_laws.proofs.Names.{unknowing, unless_crossed, Use, use_heard, use_renewed, waits, with_event, zero, ℕ}
use Rattle.witness_laws.proofs.orders.Counts.{heard_line, heard_tag, heard_failed}
use Rattle.witness_laws.proofs.orders.Knowing.{then_renewed, below_renewed}
use Rattle.witness.specs.declared.lines.Progress.{Progress}

-- ---- the command that was sent last under a tag, after a mark

abbrev pub heard_last : ℕ → Heard → Option (ℕ × Bool) → Option (ℕ × Bool)
heard_last n h None = None
heard_last n h (Some (p, failed)) = Some (p, failed || ((p == n) && is_error h))

last_if : (n : ℕ) (h : Heard) (line : ℕ) (failed : Bool) (found : Option (ℕ × Bool)) (b : Bool)
    → (if b then Some (line, failed || ((line == n) && is_error h)) else heard_last n h found) ≡ heard_last n h (if b then Some (line, failed) else found)
last_if n h line failed found true = refl
last_if n h line failed found false = refl

later_heard : (n : ℕ) (h : Heard) (tag : Tag) (u : Use) (found : Option (ℕ × Bool))
    → later tag (use_heard n h u) (heard_last n h found) ≡ heard_last n h (later tag u found)
later_heard n h tag u found =
    ap (λ (t : Tag). if tag_is t tag then Some ((use_heard n h u).line, (use_heard n h u).has_failed) else heard_last n h found) (heard_tag n h u)
    ∙ ap (λ (m : ℕ). if tag_is u.tag tag then Some (m, (use_heard n h u).has_failed) else heard_last n h found) (heard_line n h u)
    ∙ ap (λ (b : Bool). if tag_is u.tag tag then Some (u.line, b) else heard_last n h found) (heard_failed n h u)
    ∙ last_if n h u.line u.has_failed found (tag_is u.tag tag)

last_heard : (n : ℕ) (h : Heard) (tag : Tag) (uses : List Use) (found : Option (ℕ × Bool))
    → last_under tag (map (use_heard n h) uses) (heard_last n h found) ≡ heard_last n h (last_under tag uses found)
last_heard n h tag [] found = refl
last_heard n h tag (u ∷ uses) found =
    ap (last_under tag (map (use_heard n h) uses)) (later_heard n h tag u found) ∙ last_heard n h tag uses (later tag u found)

pub last_fault : (tag : Tag) (uses : List Use) (found : Option (ℕ × Bool))
    → last_under tag (map (use_renewed (all_renewed Fault)) uses) found ≡ last_under tag uses found
last_fault tag [] found = refl
last_fault tag (u ∷ uses) found = last_fault tag uses (later tag u found)

last_append : (tag : Tag) (us vs : List Use) (found : Option (ℕ × Bool)) → last_under tag (us ++ vs) found ≡ last_under tag vs (last_under tag us found)
last_append tag [] vs found = refl
last_append tag (u ∷ us) vs found = last_append tag us vs (later tag u found)

later_none : (tag : Tag) (u : Use) (found : Option (ℕ × Bool)) → tag_is u.tag tag ≡ false → later tag u found ≡ found
later_none tag u found e = ap (λ (b : Bool). if b then Some (u.line, u.has_failed) else found) e

later_this : (tag : Tag) (u : Use) (found : Option (ℕ × Bool)) → tag_is u.tag tag ≡ true → later tag u found ≡ Some (u.line, u.has_failed)
later_this tag u found e = ap (λ (b : Bool). if b then Some (u.line, u.has_failed) else found) e

pub last_none : (tag : Tag) (uses : List Use) (found : Option (ℕ × Bool)) → is_open tag uses ≡ false → last_under tag uses found ≡ found
last_none tag [] found e = refl
last_none tag (u ∷ uses) found e =
    let no = or_parts (tag_is u.tag tag) (is_open tag uses) e in
    ap (last_under tag uses) (later_none tag u found no.0) ∙ last_none tag uses found no.1

last_any : (tag : Tag) (uses : List Use) (x y : Option (ℕ × Bool)) → is_open tag uses ≡ true → last_under tag uses x ≡ last_under tag uses y
last_any tag [] x y e = absurd (false≢true e)
last_any tag (u ∷ uses) x y e = go (last_any tag uses (later tag u x) (later tag u y)) (tag_is u.tag tag) refl (is_open tag uses) refl where
  go : (is_open tag uses ≡ true → last_under tag uses (later tag u x) ≡ last_under tag uses (later tag u y)) → (b : Bool) → tag_is u.tag tag ≡ b
      → (c : Bool) → is_open tag uses ≡ c → last_under tag uses (later tag u x) ≡ last_under tag uses (later tag u y)
  go rest true is c there_is = ap (last_under tag uses) (later_this tag u x is ∙ sym (later_this tag u y is))
  go rest false is true there_is = rest there_is
  go rest false is false there_is = absurd (false≢true (sym (or_from (tag_is u.tag tag) (is_open tag uses) is there_is) ∙ e))

-- ---- a command that was just sent, after a fault or a mark of another

line_same : (n : ℕ) (h : Heard) (b : Option (ℕ × Bool)) → line_of (heard_last n h b) ≡ line_of b
line_same n h None = refl
line_same n h (Some (p, failed)) = refl

abbrev pub new_use : ℕ → Tag → SentCommand → Option (ℕ × Bool) → Known → Use
new_use n tag what b k = record {
  tag = tag;
  command = what;
  line = n;
  stage = Stage.Sent;
  has_failed = false;
  rival = line_of b;
  known = if is_lost b then nothing else k;
}

new_fault : (n : ℕ) (tag : Tag) (what : SentCommand) (b : Option (ℕ × Bool)) (k : Known)
    → use_renewed (all_renewed Fault) (new_use n tag what b k) ≡ new_use n tag what b (all_renewed Fault k)
new_fault n tag what None k = refl
new_fault n tag what (Some (p, true)) k = refl
new_fault n tag what (Some (p, false)) k = refl

fresh_fault : (n : ℕ) (rival : Option ℕ) (lost : Bool) → then_renewed Fault (fresh n rival lost) ≡ fresh n rival lost
fresh_fault n rival true = refl
fresh_fault n rival false = refl

-- an error of its rival
new_hit : (m n p : ℕ) (tag : Tag) (what : SentCommand) (h : Heard) (k : Known) (failed hit : Bool)
    → use_renewed (all_renewed (Mark n h)) (if hit then unknowing (new_use m tag what (Some (p, failed)) k) else new_use m tag what (Some (p, failed)) k)
    ≡ new_use m tag what (Some (p, failed || hit)) (all_renewed (Mark n h) k)
new_hit m n p tag what h k true true = refl
new_hit m n p tag what h k true false = refl
new_hit m n p tag what h k false true = refl
new_hit m n p tag what h k false false = refl

new_heard : (m n : ℕ) (tag : Tag) (what : SentCommand) (b : Option (ℕ × Bool)) (k : Known) (h : Heard) → (m == n) ≡ false
    → use_heard n h (new_use m tag what b k) ≡ new_use m tag what (heard_last n h b) (all_renewed (Mark n h) k)
new_heard m n tag what None k h other = rw other refl
new_heard m n tag what (Some (p, failed)) k h other = rw other (new_hit m n p tag what h k failed ((p == n) && is_error h))

fresh_hit : (m p : ℕ) (hit : Bool)
    → (if hit then None else Some (record { line = m; rival = Some p; progress = Progress.Sent })) ≡ fresh m (Some p) hit
fresh_hit m p true = refl
fresh_hit m p false = refl

fresh_heard : (m n : ℕ) (b : Option (ℕ × Bool)) (h : Heard) → (m == n) ≡ false
    → then_renewed (Mark n h) (fresh m (line_of b) (is_lost b)) ≡ fresh m (line_of (heard_last n h b)) (is_lost (heard_last n h b))
fresh_heard m n None h other = rw other refl
fresh_heard m n (Some (p, true)) h other = refl
fresh_heard m n (Some (p, false)) h other = rw other (fresh_hit m p ((p == n) && is_error h))

-- ---- one more open command, at the end

abbrev pub InList : List Use → ℕ → Type 0
InList [] at = ⊥
InList (u ∷ uses) zero = Unit {0}
InList (u ∷ uses) (suc at) = InList uses at

pub in_there : (before : List Use) (u : Use) (after : List Use) → InList (before ++ u ∷ after) (length before)
in_there [] u after = tt
in_there (x ∷ before) u after = in_there before u after

pub in_map : (f : Use → Use) (uses : List Use) (at : ℕ) → InList uses at → InList (map f uses) at
in_map f [] at e = e
in_map f (u ∷ uses) zero e = tt
in_map f (u ∷ uses) (suc at) e = in_map f uses at e

remove_append : (uses : List Use) (at : ℕ) (x : Use) → InList uses at → remove (uses ++ x ∷ []) at ≡ remove uses at ++ x ∷ []
remove_append [] at x e = absurd e
remove_append (u ∷ uses) zero x e = refl
remove_append (u ∷ uses) (suc at) x e = ap (λ (l : List Use). u ∷ l) (remove_append uses at x e)

left_append : (uses : List Use) (at : ℕ) (ended : Bool) (x : Use) → InList uses at → left_over (uses ++ x ∷ []) at ended ≡ left_over uses at ended ++ x ∷ []
left_append uses at true x e = remove_append uses at x e
left_append uses at false x e = refl

ahead_append : (uses : List Use) (at : ℕ) (x : Use) → InList uses at → take at (uses ++ x ∷ []) ≡ take at uses
ahead_append [] at x e = absurd e
ahead_append (u ∷ uses) zero x e = refl
ahead_append (u ∷ uses) (suc at) x e = ap (λ (l : List Use). u ∷ l) (ahead_append uses at x e)

-- ---- a command is sent, and then a fault or a mark is read

abbrev made : Bool → ℕ → List ℕ → List Use → Bool → Known → List Reported → Dialogue
made o n events us c k xs = record { ordered = o; lines = n; uses = us; events = events; crossed = c; known = k; reported = xs }

same_parts : (o : Bool) (n : ℕ) (events : List ℕ) (us vs : List Use) (c e : Bool) (k m : Known) (xs ys : List Reported)
    → us ≡ vs → c ≡ e → k ≡ m → xs ≡ ys
    → made o n events us c k xs ≡ made o n events vs e m ys
same_parts o n events us vs c e k m xs ys p q r s =
    ap (λ (l : List Use). made o n events l c k xs) p
    ∙ ap (λ (b : Bool). made o n events vs b k xs) q
    ∙ ap (λ (x : Known). made o n events vs e x xs) r
    ∙ ap (λ (l : List Reported). made o n events vs e m l) s

pub send_fault : (d : Dialogue) (tag : Tag) (what : SentCommand) (b : Option (ℕ × Bool)) (x : Reported)
    → faulting (sending_after d tag what b) x ≡ sending_after (faulting d x) tag what b
send_fault d tag what b x =
    same_parts d.ordered (d.lines + 1) (with_event tag d.events) _ _ _ _ _ _ _ _
    (map-append (use_renewed (all_renewed Fault)) d.uses (new_use d.lines tag what b d.known ∷ [])
    ∙ ap (λ (u : Use). map (use_renewed (all_renewed Fault)) d.uses ++ u ∷ []) (new_fault d.lines tag what b d.known))
    refl
    (below_renewed Fault (fresh d.lines (line_of b) (is_lost b)) what d.known
    ∙ ap (λ (s : Option Standing). below s what (all_renewed Fault d.known)) (fresh_fault d.lines (line_of b) (is_lost b)))
    refl

pub or_no : (x y : Bool) → y ≡ false → (x || y) ≡ x
or_no true y e = refl
or_no false y e = e

send_hearing : (d : Dialogue) (tag : Tag) (what : SentCommand) (b : Option (ℕ × Bool)) (at : ℕ) (u : Use) (h : Heard) (ended : Bool)
    → InList d.uses at → (d.lines == u.line) ≡ false → (d.ordered && is_some (line_of b)) ≡ false
    → hearing (sending_after d tag what b) at u h ended ≡ sending_after (hearing d at u h ended) tag what (heard_last u.line h b)
send_hearing d tag what b at u h ended here other free =
    same_parts d.ordered (d.lines + 1) (with_event tag d.events) _ _ _ _ _ _ _ _
    (ap (λ (l : List Use). left_over l at ended) (map-append (use_heard u.line h) d.uses (new_use d.lines tag what b d.known ∷ []))
    ∙ left_append (map (use_heard u.line h) d.uses) at ended (use_heard u.line h (new_use d.lines tag what b d.known))
    (in_map (use_heard u.line h) d.uses at here)
    ∙ ap (λ (x : Use). left_over (map (use_heard u.line h) d.uses) at ended ++ x ∷ []) (new_heard d.lines u.line tag what b d.known h other))
    (ap (λ (r : Option ℕ). d.crossed || (d.ordered && is_some r)) (sym (line_same u.line h b)))
    (below_renewed (Mark u.line h) (fresh d.lines (line_of b) (is_lost b)) what d.known
    ∙ ap (λ (s : Option Standing). below s what (all_renewed (Mark u.line h) d.known)) (fresh_heard d.lines u.line b h other))
    (ap (λ (c : Bool). d.reported ++ reported_by (unless_crossed c (use_heard u.line h u).known) u.tag u.command u.stage h)
    (or_no d.crossed (d.ordered && is_some (line_of b)) free))

if_early : (d : Dialogue) (tag : Tag) (what : SentCommand) (b : Option (ℕ × Bool)) (at : ℕ) (u : Use) (h : Heard) (ended : Bool)
    → InList d.uses at → (d.lines == u.line) ≡ false → (d.ordered && is_some (line_of b)) ≡ false → (x : Bool)
    → (if x then hearing (faulting (sending_after d tag what b) (Reported.Broken NotInTurn u.tag)) at (use_renewed (all_renewed Fault) u) h ended
    else hearing (sending_after d tag what b) at u h ended)
    ≡ sending_after
    (if x then hearing (faulting d (Reported.Broken NotInTurn u.tag)) at (use_renewed (all_renewed Fault) u) h ended else hearing d at u h ended)
    tag what (heard_last u.line h b)
if_early d tag what b at u h ended here other free true =
    ap (λ (e : Dialogue). hearing e at (use_renewed (all_renewed Fault) u) h ended) (send_fault d tag what b (Reported.Broken NotInTurn u.tag))
    ∙ send_hearing (faulting d (Reported.Broken NotInTurn u.tag)) tag what b at (use_renewed (all_renewed Fault) u) h ended
    (in_map (use_renewed (all_renewed Fault)) d.uses at here) other free
if_early d tag what b at u h ended here other free false = send_hearing d tag what b at u h ended here other free

pub send_heard_at : (d : Dialogue) (tag : Tag) (what : SentCommand) (b : Option (ℕ × Bool)) (at : ℕ) (u : Use) (h : Heard) (ended : Bool)
    → InList d.uses at → (d.lines == u.line) ≡ false → (d.ordered && is_some (line_of b)) ≡ false
    → heard_at (sending_after d tag what b) at u h ended ≡ sending_after (heard_at d at u h ended) tag what (heard_last u.line h b)
send_heard_at d tag what b at u h ended here other free =
    ap (λ (l : List Use). if has_turn u.command && (list_any waits l && may_not_come u h)
    then hearing (faulting (sending_after d tag what b) (Reported.Broken NotInTurn u.tag)) at (use_renewed (all_renewed Fault) u) h ended
    else hearing (sending_after d tag what b) at u h ended)
    (ahead_append d.uses at (new_use d.lines tag what b d.known) here)
    ∙ if_early d tag what b at u h ended here other free (is_out_of_turn d.uses at u h)

-- ---- which command was sent last under a tag, after the mark

pub one_tag : (a b : Tag) → tag_is a b ≡ true → a ≡ b
one_tag (Std n) (Std m) e = ap Std (eqb-true n m e)
one_tag (Std n) (Event m) e = absurd (false≢true e)
one_tag (Event n) (Std m) e = absurd (false≢true e)
one_tag (Event n) (Event m) e = ap Event (eqb-true n m e)

-- it is the same, or its end was read and there is none; the second argument: what was there before, with the mark
pub data IsLast (tag : Tag) (u : Use) (ended : Bool) : Option (ℕ × Bool) → Option (ℕ × Bool) → Type 0 where
  stays : (b : Option (ℕ × Bool)) → IsLast tag u ended b b
  ends : tag_is u.tag tag ≡ true → ended ≡ true → IsLast tag u ended (Some (u.line, u.has_failed)) None

pub removed_map : (f : Use → Use) (before : List Use) (u : Use) (after : List Use)
    → remove (map f (before ++ u ∷ after)) (length before) ≡ map f before ++ map f after
removed_map f [] u after = refl
removed_map f (x ∷ before) u after = ap (λ (l : List Use). f x ∷ l) (removed_map f before u after)

pub and_no : (x y : Bool) → y ≡ false → (x && y) ≡ false
and_no true y e = e
and_no false y e = refl

abbrev last_as : ℕ → Bool → Option (ℕ × Bool)
last_as p failed = Some (p, failed)

not_failed : (n p : ℕ) (h : Heard) (failed : Bool) → is_error h ≡ false → heard_last n h (Some (p, failed)) ≡ Some (p, failed)
not_failed n p h failed none =
    ap (last_as p) (or_no failed ((p == n) && is_error h) (and_no (p == n) (is_error h) none))

last_removed : (tag : Tag) (before : List Use) (u : Use) (after : List Use) (h : Heard) → is_open u.tag before ≡ false → is_error h ≡ false
    → IsLast tag u true (heard_last u.line h (last_under tag (before ++ u ∷ after) None))
    (last_under tag (map (use_heard u.line h) before ++ map (use_heard u.line h) after) None)
last_removed tag before u after h first none = go (tag_is u.tag tag) refl (is_open tag after) refl where
  left : last_under tag (map (use_heard u.line h) before ++ map (use_heard u.line h) after) None
      ≡ heard_last u.line h (last_under tag after (last_under tag before None))
  left = last_append tag (map (use_heard u.line h) before) (map (use_heard u.line h) after) None
      ∙ ap (last_under tag (map (use_heard u.line h) after)) (last_heard u.line h tag before None)
      ∙ last_heard u.line h tag after (last_under tag before None)

  all : last_under tag (before ++ u ∷ after) None ≡ last_under tag after (later tag u (last_under tag before None))
  all = last_append tag before (u ∷ after) None

  stay : last_under tag after (later tag u (last_under tag before None)) ≡ last_under tag after (last_under tag before None)
      → IsLast tag u true (heard_last u.line h (last_under tag (before ++ u ∷ after) None))
      (last_under tag (map (use_heard u.line h) before ++ map (use_heard u.line h) after) None)
  stay same = subst (IsLast tag u true (heard_last u.line h (last_under tag (before ++ u ∷ after) None)))
      (ap (heard_last u.line h) (all ∙ same) ∙ sym left) (stays (heard_last u.line h (last_under tag (before ++ u ∷ after) None)))

  go : (x : Bool) → tag_is u.tag tag ≡ x → (y : Bool) → is_open tag after ≡ y
      → IsLast tag u true (heard_last u.line h (last_under tag (before ++ u ∷ after) None))
      (last_under tag (map (use_heard u.line h) before ++ map (use_heard u.line h) after) None)
  go false is y there_is = stay (ap (last_under tag after) (later_none tag u (last_under tag before None) is))
  go true is true there_is = stay (last_any tag after (later tag u (last_under tag before None)) (last_under tag before None) there_is)
  go true is false there_is =
      let no : last_under tag before None ≡ None =
      last_none tag before None (ap (λ (t : Tag). is_open t before) (sym (one_tag u.tag tag is)) ∙ first) in
      let was : heard_last u.line h (last_under tag (before ++ u ∷ after) None) ≡ Some (u.line, u.has_failed) =
      ap (heard_last u.line h) (all ∙ ap (last_under tag after) (later_this tag u (last_under tag before None) is)
      ∙ last_none tag after (Some (u.line, u.has_failed)) there_is) ∙ not_failed u.line u.line h u.has_failed none in
      let gone : last_under tag (map (use_heard u.line h) before ++ map (use_heard u.line h) after) None ≡ None =
      left ∙ ap (λ (b : Option (ℕ × Bool)). heard_last u.line h (last_under tag after b)) no ∙ ap (heard_last u.line h) (last_none tag after None there_is) in
      subst (λ (b : Option (ℕ × Bool)). IsLast tag u true b (last_under tag (map (use_heard u.line h) before ++ map (use_heard u.line h) after) None))
      (sym was) (subst (IsLast tag u true (Some (u.line, u.has_failed))) (sym gone) (ends is refl))

pub last_hearing : (d : Dialogue) (tag : Tag) (before : List Use) (u : Use) (after : List Use) (h : Heard) (ended : Bool) → d.uses ≡ before ++ u ∷ after
    → is_open u.tag before ≡ false → (ended ≡ true → is_error h ≡ false)
    → IsLast tag u ended (heard_last u.line h (last_under tag d.uses None)) (last_under tag (hearing d (length before) u h ended).uses None)
last_hearing d tag before u after h true parts first none =
    subst (λ (l : List Use). IsLast tag u true (heard_last u.line h (last_under tag l None))
    (last_under tag (remove (map (use_heard u.line h) l) (length before)) None)) (sym parts)
    (subst (λ (l : List Use). IsLast tag u true (heard_last u.line h (last_under tag (before ++ u ∷ after) None)) (last_under tag l None))
    (sym (removed_map (use_heard u.line h) before u after)) (last_removed tag before u after h first (none refl)))
last_hearing d tag before u after h false parts first none =
    subst (IsLast tag u false (heard_last u.line h (last_under tag d.uses None))) (sym (last_heard u.line h tag d.uses None))
    (stays (heard_last u.line h (last_under tag d.uses None)))
