-- A witness reads a line of the client: it then keeps and reports what the rules say of the lines that came.
use Rattle.witness.proofs.Names.{[], ◌&&◌, ◌++◌, ◌+◌, ◌<◌, ◌==◌, ◌||◌, ◌∙◌, ◌∷◌, ◌≡◌, ◌≤◌, add-one, after, all_for, all_reported, and-false, Answers}
use Rattle.witness.proofs.Names.{ap, append-nil, arith, at_once, at_once_below, below, below_sent, Bool, by_progress, Command, count_sent, Csy}
use Rattle.witness.proofs.Names.{csy_after, Dialogue, done_before, error_at, error_of, events_of, false, fault_since, first_of, for_line}
use Rattle.witness.proofs.Names.{foreign_event, fresh, Heard, heard_as, if◌then◌else◌, is_answer, is_at_once, is_crossed, is_done, is_doubtful}
use Rattle.witness.proofs.Names.{is_end, is_error, is_for, is_some, Known, known_below, known_for, last_csy, last_of, last_part, last_tool}
use Rattle.witness.proofs.Names.{last_under, last_zero, later as later_line, Line, line_at, List, lt-ltb, map, map-append, mark_in, marks, may_hold}
use Rattle.witness.proofs.Names.{may_hold_for, nat_lt, ne_eqb, None, not, nothing, open_lines, Option, or-false, owner, part_after, place, Point}
use Rattle.witness.proofs.Names.{progress_of, refl, remove, Reported, reported_at_once, rival_of, seen, sending, sending_after, Sends, SentCommand}
use Rattle.witness.proofs.Names.{Signal, slice_get, Some, Stage, stage_of, Standing, standing, standing_of, subst, suc, sym, Tag, tag_is, tool_after}
use Rattle.witness.proofs.Names.{true, unknowing, Use, with_event, without, witnessed, zero, zero_after, ℕ}
use Rattle.fixed_um.specs.Points.{point_opposite}
use Rattle.dme_line.specs.declared.commands.Csy.TheVariants.{MachineCsy, PartCsy}
use Rattle.dme_line.specs.declared.tags.Tag.TheVariants.{Event, Std}
use Rattle.witness.proofs.KnownForUses.{four, built, three}
use Rattle.witness.proofs.Standings.{same}
use Rattle.witness.specs.Histories.{Sent, with_mark}
use Rattle.witness.specs.Known.{unless_part as unless_part_holds}
use Rattle.witness.specs.Rules.{unless_part}

-- ---- open lines stand above what comes

HoldsTrue : Bool → Type 0
HoldsTrue true = Unit {0}
HoldsTrue false = ⊥

false_true : false ≡ true → ⊥
unfolding HoldsTrue
false_true e = subst HoldsTrue (sym e) tt

abbrev Under : ℕ → List Sent → Type 0
Under n [] = Unit {0}
Under n (s ∷ ss) = (place s < n) × Under n ss

wider : (n : ℕ) (ss : List Sent) → Under n ss → Under (suc n) ss
wider n [] u = tt
wider n (s ∷ ss) (p, u) = (omega (arith, p), wider n ss u)

one_under : (n : ℕ) (ss : List Sent) (s : Sent) → Under n ss → place s < n → Under n (ss ++ s ∷ [])
one_under n [] s u p = (p, tt)
one_under n (x ∷ ss) s (q, u) p = (q, one_under n ss s u p)

without_one : (n : ℕ) (ss : List Sent) (k : ℕ) → Under n ss → Under n (remove ss k)
without_one n [] zero u = tt
without_one n [] (suc k) u = tt
without_one n (s ∷ ss) zero (p, u) = u
without_one n (s ∷ ss) (suc k) (p, u) = (p, without_one n ss k u)

without_some : (n : ℕ) (ss : List Sent) (k : Option ℕ) → Under n ss → Under n (without ss k)
without_some n ss None u = u
without_some n ss (Some k) u = without_one n ss k u

ended : (n : ℕ) (ss : List Sent) (k : Option ℕ) (b : Bool) → Under n ss → Under n (if b then without ss k else ss)
ended n ss k true u = without_some n ss k u
ended n ss k false u = u

pub all_under : (h : List Line) → Under (count_sent h) (open_lines h)
all_under [] = tt
all_under (Sends line None ∷ h) = wider (count_sent h) (open_lines h) (all_under h)
all_under (Sends line (Some (tag, c)) ∷ h) =
    one_under (suc (count_sent h)) (open_lines h) (record { above = h; tag = tag; command = c })
    (wider (count_sent h) (open_lines h) (all_under h)) (omega arith)
all_under (Answers line None ∷ h) = all_under h
all_under (Answers line (Some (tag, signal)) ∷ h) =
    ended (count_sent h) (open_lines h) (first_of tag (open_lines h)) (is_end signal) (all_under h)

-- ---- nothing was heard of a line that stands below

IsUnder : ℕ → Option Sent → Type 0
IsUnder n None = Unit {0}
IsUnder n (Some s) = place s < n

at_under : (n : ℕ) (ss : List Sent) (k : ℕ) → Under n ss → IsUnder n (slice_get ss k)
unfolding IsUnder
at_under n [] k u = tt
at_under n (s ∷ ss) zero (p, u) = p
at_under n (s ∷ ss) (suc k) (p, u) = at_under n ss k u

line_under : (n : ℕ) (ss : List Sent) (k : Option ℕ) → Under n ss → IsUnder n (line_at ss k)
unfolding IsUnder
line_under n ss None u = tt
line_under n ss (Some k) u = at_under n ss k u

not_place : (n m : ℕ) → m < n → (n == m) ≡ false
not_place n m p = ne_eqb n m (λ e. omega (arith, p, e))

not_heard : (sort : Heard → Bool) (n k : ℕ) (signal : Signal) (o : Option Sent) → IsUnder k o → k ≤ n
    → is_for sort n (for_line signal o) ≡ false
unfolding IsUnder
not_heard sort n k signal None u w = refl
not_heard sort n k signal (Some s) u w = ap (λ b. b && sort (heard_as s.command signal)) (not_place n (place s) (omega (arith, u, w)))

not_marked : (n k : ℕ) (signal : Signal) (o : Option Sent) (ms : List Heard) → IsUnder k o → k ≤ n → with_mark n (for_line signal o) ms ≡ ms
unfolding IsUnder
not_marked n k signal None ms u w = refl
not_marked n k signal (Some s) ms u w = ap (λ b. if b then heard_as s.command signal ∷ ms else ms) (not_place n (place s) (omega (arith, u, w)))

not_for : (sort : Heard → Bool) (n : ℕ) (what : Option (Tag × Signal)) (h : List Line) → count_sent h ≤ n → is_for sort n (mark_in what h) ≡ false
not_for sort n None h w = refl
not_for sort n (Some (tag, signal)) h w =
    not_heard sort n (count_sent h) signal (owner tag h) (line_under (count_sent h) (open_lines h) (first_of tag (open_lines h)) (all_under h)) w

no_mark : (n : ℕ) (what : Option (Tag × Signal)) (h : List Line) (ms : List Heard) → count_sent h ≤ n → with_mark n (mark_in what h) ms ≡ ms
no_mark n None h ms w = refl
no_mark n (Some (tag, signal)) h ms w =
    not_marked n (count_sent h) signal (owner tag h) ms (line_under (count_sent h) (open_lines h) (first_of tag (open_lines h)) (all_under h)) w

pub no_marks : (n : ℕ) (h : List Line) → count_sent h ≤ n → marks n h ≡ []
no_marks n [] w = refl
no_marks n (Sends line what ∷ h) w = no_marks n h (omega (arith, w))
no_marks n (Answers line what ∷ h) w = no_mark n what h (marks n h) (omega (arith, w)) ∙ no_marks n h (omega (arith, w))

no_error : (n : ℕ) (h : List Line) → count_sent h ≤ n → error_at n h ≡ false
no_error n [] w = refl
no_error n (Sends line what ∷ h) w = no_error n h (omega (arith, w))
no_error n (Answers line what ∷ h) w =
    ap (λ b. b || is_for is_error n (mark_in what h)) (no_error n h (omega (arith, w))) ∙ not_for is_error n what h (omega (arith, w))

none_before : (k n : ℕ) (h : List Line) → count_sent h ≤ n → done_before k n h ≡ true
none_before k n [] w = refl
none_before k n (Sends line what ∷ h) w = none_before k n h (omega (arith, w))
none_before k n (Answers line what ∷ h) w =
    ap (λ b. (not b || is_done (progress_of (marks k h))) && done_before k n h) (not_for is_answer n what h (omega (arith, w)))
    ∙ none_before k n h (omega (arith, w))

none_below : (n : ℕ) (h : List Line) → count_sent h ≤ n → at_once_below n h ≡ false
none_below n [] w = refl
none_below n (Sends line what ∷ h) w =
    ap (λ b. (is_at_once what && b) || at_once_below n h) (not_less n (count_sent h) (omega (arith, w)))
    ∙ ap (λ b. b || at_once_below n h) (and-false (is_at_once what))
    ∙ none_below n h (omega (arith, w)) where
      not_less : (a b : ℕ) → b ≤ a → nat_lt a b ≡ false
      not_less a b p = grind (arith, p)
none_below n (Answers line what ∷ h) w = none_below n h (omega (arith, w))

-- ---- the last change stands above

abbrev Bound : {A : Type 0} → ℕ → Option (A × Sent) → Type 0
Bound n None = Unit {0}
Bound n (Some (a, s)) = place s < n

bound_wider : {A : Type 0} (n : ℕ) (x : Option (A × Sent)) → Bound n x → Bound (suc n) x
bound_wider n None u = tt
bound_wider n (Some (a, s)) u = omega (arith, u)

unless_bound : (n : ℕ) (x : Option (Csy × Sent)) → Bound n x → Bound n (unless_part x)
unless_bound n None u = tt
unless_bound n (Some (MachineCsy, s)) u = u
unless_bound n (Some (PartCsy, s)) u = tt

tool_bound : (n : ℕ) (s : Sent) (c : Command) (x : Option (List ℕ × Sent)) → Bound n x → place s < n → Bound n (tool_after s c x)
tool_bound n s Command.StartSession x u q = tt
tool_bound n s Command.EndSession x u q = tt
tool_bound n s Command.ClearAllErrors x u q = u
tool_bound n s Command.IsHomed x u q = u
tool_bound n s Command.Home x u q = tt
tool_bound n s Command.OnPtMeasReport x u q = u
tool_bound n s (Command.GoTo p) x u q = u
tool_bound n s (Command.PtMeas p d) x u q = u
tool_bound n s (Command.ChangeTool t) x u q = q
tool_bound n s (Command.SetCsyTransformation p) x u q = u
tool_bound n s (Command.SetCoordSystem c) x u q = u
tool_bound n s Command.AbortE x u q = u

csy_bound : (n : ℕ) (s : Sent) (c : Command) (x : Option (Csy × Sent)) → Bound n x → place s < n → Bound n (csy_after s c x)
csy_bound n s Command.StartSession x u q = tt
csy_bound n s Command.EndSession x u q = tt
csy_bound n s Command.ClearAllErrors x u q = u
csy_bound n s Command.IsHomed x u q = u
csy_bound n s Command.Home x u q = u
csy_bound n s Command.OnPtMeasReport x u q = u
csy_bound n s (Command.GoTo p) x u q = u
csy_bound n s (Command.PtMeas p d) x u q = u
csy_bound n s (Command.ChangeTool t) x u q = u
csy_bound n s (Command.SetCsyTransformation p) x u q = unless_bound n x u
csy_bound n s (Command.SetCoordSystem c) x u q = q
csy_bound n s Command.AbortE x u q = u

zero_bound : (n : ℕ) (s : Sent) (c : Command) (x : Option (Point × Sent)) → Bound n x → place s < n → Bound n (zero_after s c x)
zero_bound n s Command.StartSession x u q = tt
zero_bound n s Command.EndSession x u q = tt
zero_bound n s Command.ClearAllErrors x u q = u
zero_bound n s Command.IsHomed x u q = u
zero_bound n s Command.Home x u q = u
zero_bound n s Command.OnPtMeasReport x u q = u
zero_bound n s (Command.GoTo p) x u q = u
zero_bound n s (Command.PtMeas p d) x u q = u
zero_bound n s (Command.ChangeTool t) x u q = u
zero_bound n s (Command.SetCsyTransformation p) x u q = q
zero_bound n s (Command.SetCoordSystem c) x u q = u
zero_bound n s Command.AbortE x u q = u

part_bound : (n : ℕ) (c : Command) (z x : Option (Point × Sent)) → Bound n z → Bound n x → Bound n (part_after c z x)
part_bound n Command.StartSession z x v u = tt
part_bound n Command.EndSession z x v u = tt
part_bound n Command.ClearAllErrors z x v u = u
part_bound n Command.IsHomed z x v u = u
part_bound n Command.Home z x v u = u
part_bound n Command.OnPtMeasReport z x v u = u
part_bound n (Command.GoTo p) z x v u = u
part_bound n (Command.PtMeas p d) z x v u = u
part_bound n (Command.ChangeTool t) z x v u = u
part_bound n (Command.SetCsyTransformation p) z x v u = u
part_bound n (Command.SetCoordSystem c) z x v u = v
part_bound n Command.AbortE z x v u = u

sent_bound : {A : Type 0} (f : Sent → Command → Option (A × Sent) → Option (A × Sent)) (h : List Line)
    → ((s : Sent) (c : Command) (x : Option (A × Sent)) → Bound (suc (count_sent h)) x → place s < suc (count_sent h) → Bound (suc (count_sent h)) (f s c x))
    → (what : Option (Tag × SentCommand)) (x : Option (A × Sent)) → Bound (count_sent h) x → Bound (suc (count_sent h)) (below_sent f None h what x)
sent_bound f h e None x u = tt
sent_bound f h e (Some (tag, SentCommand.Known c)) x u =
    e (record { above = h; tag = tag; command = SentCommand.Known c }) c x (bound_wider (count_sent h) x u) (omega arith)
sent_bound f h e (Some (tag, SentCommand.Asking)) x u = bound_wider (count_sent h) x u
sent_bound f h e (Some (tag, SentCommand.Foreign line)) x u = tt

tool_under : (h : List Line) → Bound (count_sent h) (last_tool h)
tool_under [] = tt
tool_under (Sends line what ∷ h) = sent_bound tool_after h (tool_bound (suc (count_sent h))) what (last_tool h) (tool_under h)
tool_under (Answers line what ∷ h) = tool_under h

csy_under : (h : List Line) → Bound (count_sent h) (last_csy h)
csy_under [] = tt
csy_under (Sends line what ∷ h) = sent_bound csy_after h (csy_bound (suc (count_sent h))) what (last_csy h) (csy_under h)
csy_under (Answers line what ∷ h) = csy_under h

zero_under : (h : List Line) → Bound (count_sent h) (last_zero h)
zero_under [] = tt
zero_under (Sends line what ∷ h) = sent_bound zero_after h (zero_bound (suc (count_sent h))) what (last_zero h) (zero_under h)
zero_under (Answers line what ∷ h) = zero_under h

part_under : (h : List Line) → Bound (count_sent h) (last_part h)
part_under [] = tt
part_under (Sends line what ∷ h) = sent_bound (λ s c x. part_after c (last_zero h) x) h
    (λ s c x u q. part_bound (suc (count_sent h)) c (last_zero h) x (bound_wider (count_sent h) (last_zero h) (zero_under h)) u) what (last_part h) (part_under h)
part_under (Answers line what ∷ h) = part_under h

-- ---- a line that may be carried out at once

lost_now : (s : Sent) (line : List ℕ) (what : Option (Tag × SentCommand)) (h : List Line) → is_at_once what ≡ true → place s < count_sent h
    → standing_of s (Sends line what ∷ h) ≡ None
lost_now s line what h e p =
    ap (λ b. if ((b && nat_lt (place s) (count_sent h)) || at_once_below (place s) h) || is_doubtful s (Sends line what ∷ h) then None
    else by_progress s (fault_since (place s) h) (progress_of (marks (place s) h))) e
    ∙ ap (λ b. if (b || at_once_below (place s) h) || is_doubtful s (Sends line what ∷ h) then None
    else by_progress s (fault_since (place s) h) (progress_of (marks (place s) h))) (lt-ltb (place s) (count_sent h) p)

lost_for : {A : Type 0} (u : Sent) (x : Option (A × Sent)) (line : List ℕ) (what : Option (Tag × SentCommand)) (h : List Line)
    → is_at_once what ≡ true → Bound (count_sent h) x → may_hold_for u x (Sends line what ∷ h) ≡ None
lost_for u None line what h e b = refl
lost_for u (Some (a, s)) line what h e b =
    ap (λ o. if done_before (place s) (place u) h then standing a o else None) (lost_now s line what h e b)
    ∙ same (done_before (place s) (place u) h) None

bound_most : {A : Type 0} (n m : ℕ) (x : Option (A × Sent)) → n ≤ m → Bound n x → Bound m x
bound_most n m None w b = tt
bound_most n m (Some (a, s)) w b = omega (arith, w, b)

all_lost : (u : Sent) (line : List ℕ) (what : Option (Tag × SentCommand)) (h : List Line) → is_at_once what ≡ true → place u ≤ count_sent h
    → all_for u (Sends line what ∷ h) ≡ nothing
all_lost u line what h e w =
    four (lost_for u (last_tool u.above) line what h e (bound_most (place u) (count_sent h) (last_tool u.above) w (tool_under u.above)))
    (lost_for u (last_csy u.above) line what h e (bound_most (place u) (count_sent h) (last_csy u.above) w (csy_under u.above)))
    (lost_for u (last_part u.above) line what h e (bound_most (place u) (count_sent h) (last_part u.above) w (part_under u.above)))
    (lost_for u (last_zero u.above) line what h e (bound_most (place u) (count_sent h) (last_zero u.above) w (zero_under u.above)))

known_lost : (u : Sent) (line : List ℕ) (what : Option (Tag × SentCommand)) (h : List Line) → is_at_once what ≡ true → place u ≤ count_sent h
    → known_for u (Sends line what ∷ h) ≡ nothing
known_lost u line what h e w =
    ap (λ k. if is_doubtful u (Sends line what ∷ h) then nothing else k) (all_lost u line what h e w)
    ∙ same (is_doubtful u (Sends line what ∷ h)) nothing

uses_lost : (line : List ℕ) (what : Option (Tag × SentCommand)) (h : List Line) → is_at_once what ≡ true
    → (xs : List Sent) → Under (count_sent h) xs → map unknowing (map (seen h) xs) ≡ map (seen (Sends line what ∷ h)) xs
uses_lost line what h e [] u = refl
uses_lost line what h e (s ∷ xs) (p, u) =
    ap (λ k. built s (stage_of s.command (marks (place s) h)) (error_at (place s) h) k ∷ map unknowing (map (seen h) xs))
    (sym (known_lost s line what h e (omega (arith, p))))
    ∙ ap (λ us. seen (Sends line what ∷ h) s ∷ us) (uses_lost line what h e xs u)

-- ---- any other line

same_error : (r : Option ℕ) (line : List ℕ) (what : Option (Tag × SentCommand)) (h : List Line)
    → error_of r (Sends line what ∷ h) ≡ error_of r h
same_error None line what h = refl
same_error (Some n) line what h = refl

same_standing : (s : Sent) (line : List ℕ) (what : Option (Tag × SentCommand)) (h : List Line) → is_at_once what ≡ false
    → standing_of s (Sends line what ∷ h) ≡ standing_of s h
same_standing s line what h e =
    ap (λ b. if ((b && nat_lt (place s) (count_sent h)) || at_once_below (place s) h) || is_doubtful s (Sends line what ∷ h) then None
    else by_progress s (fault_since (place s) h) (progress_of (marks (place s) h))) e
    ∙ ap (λ d. if at_once_below (place s) h || d then None
    else by_progress s (fault_since (place s) h) (progress_of (marks (place s) h))) (same_error (rival_of s.tag s.above) line what h)

same_hold : {A : Type 0} (x : Option (A × Sent)) (line : List ℕ) (what : Option (Tag × SentCommand)) (h : List Line) → is_at_once what ≡ false
    → may_hold x (Sends line what ∷ h) ≡ may_hold x h
same_hold None line what h e = refl
same_hold (Some (a, s)) line what h e = ap (standing a) (same_standing s line what h e)

same_for : {A : Type 0} (u : Sent) (x : Option (A × Sent)) (line : List ℕ) (what : Option (Tag × SentCommand)) (h : List Line)
    → is_at_once what ≡ false → may_hold_for u x (Sends line what ∷ h) ≡ may_hold_for u x h
same_for u None line what h e = refl
same_for u (Some (a, s)) line what h e =
    ap (λ o. if done_before (place s) (place u) h then standing a o else None) (same_standing s line what h e)

same_known : (u : Sent) (line : List ℕ) (what : Option (Tag × SentCommand)) (h : List Line) → is_at_once what ≡ false
    → known_for u (Sends line what ∷ h) ≡ known_for u h
same_known u line what h e =
    ap (λ d. if d then nothing else all_for u (Sends line what ∷ h)) (same_error (rival_of u.tag u.above) line what h)
    ∙ ap (λ k. if is_doubtful u h then nothing else k)
    (four (same_for u (last_tool u.above) line what h e) (same_for u (last_csy u.above) line what h e)
    (same_for u (last_part u.above) line what h e) (same_for u (last_zero u.above) line what h e))

uses_same : (line : List ℕ) (what : Option (Tag × SentCommand)) (h : List Line) → is_at_once what ≡ false
    → (xs : List Sent) → map (seen h) xs ≡ map (seen (Sends line what ∷ h)) xs
uses_same line what h e [] = refl
uses_same line what h e (s ∷ xs) =
    ap (λ k. built s (stage_of s.command (marks (place s) h)) (error_at (place s) h) k ∷ map (seen h) xs) (sym (same_known s line what h e))
    ∙ ap (λ us. seen (Sends line what ∷ h) s ∷ us) (uses_same line what h e xs)

-- ---- a line with a tag, that is not carried out at once

abbrev newest : List Line → Tag → SentCommand → Sent
newest h tag c = record { above = h; tag = tag; command = c }

new_for : {A : Type 0} (x : Option (A × Sent)) (line : List ℕ) (tag : Tag) (c : SentCommand) (h : List Line)
    → is_at_once (Some (tag, c)) ≡ false
    → may_hold_for (newest h tag c) x (Sends line (Some (tag, c)) ∷ h) ≡ may_hold x h
new_for None line tag c h e = refl
new_for (Some (a, s)) line tag c h e =
    ap (λ b. if b then standing a (standing_of s (Sends line (Some (tag, c)) ∷ h)) else None) (none_before (place s) (count_sent h) h (omega arith))
    ∙ ap (standing a) (same_standing s line (Some (tag, c)) h e)

new_known : (line : List ℕ) (tag : Tag) (c : SentCommand) (h : List Line) → is_at_once (Some (tag, c)) ≡ false
    → known_for (newest h tag c) (Sends line (Some (tag, c)) ∷ h) ≡ (if error_of (rival_of tag h) h then nothing else known_below h)
new_known line tag c h e =
    ap (λ d. if d then nothing else all_for (newest h tag c) (Sends line (Some (tag, c)) ∷ h)) (same_error (rival_of tag h) line (Some (tag, c)) h)
    ∙ ap (λ k. if error_of (rival_of tag h) h then nothing else k)
    (four (new_for (last_tool h) line tag c h e) (new_for (last_csy h) line tag c h e)
    (new_for (last_part h) line tag c h e) (new_for (last_zero h) line tag c h e))

new_standing : (line : List ℕ) (tag : Tag) (c : SentCommand) (h : List Line) → is_at_once (Some (tag, c)) ≡ false
    → standing_of (newest h tag c) (Sends line (Some (tag, c)) ∷ h) ≡ fresh (count_sent h) (rival_of tag h) (error_of (rival_of tag h) h)
new_standing line tag c h e =
    same_standing (newest h tag c) line (Some (tag, c)) h e
    ∙ ap (λ b. if b || error_of (rival_of tag h) h then None
    else by_progress (newest h tag c) (fault_since (count_sent h) h) (progress_of (marks (count_sent h) h))) (none_below (count_sent h) h (omega arith))
    ∙ ap (λ ms. if error_of (rival_of tag h) h then None else by_progress (newest h tag c) (fault_since (count_sent h) h) (progress_of ms))
    (no_marks (count_sent h) h (omega arith))

unless_hold : (x : Option (Csy × Sent)) (line : List ℕ) (what : Option (Tag × SentCommand)) (h : List Line) → is_at_once what ≡ false
    → may_hold (unless_part x) (Sends line what ∷ h) ≡ unless_part_holds (may_hold x h)
unless_hold None line what h e = refl
unless_hold (Some (MachineCsy, s)) line what h e = ap (standing MachineCsy) (same_standing s line what h e) ∙ machine (standing_of s h) where
  machine : (o : Option Standing) → standing MachineCsy o ≡ unless_part_holds (standing MachineCsy o)
  machine None = refl
  machine (Some s) = refl
unless_hold (Some (PartCsy, s)) line what h e = part (standing_of s h) where
  part : (o : Option Standing) → None ≡ unless_part_holds (standing PartCsy o)
  part None = refl
  part (Some s) = refl

below_known : (line : List ℕ) (tag : Tag) (c : SentCommand) (h : List Line) → is_at_once (Some (tag, c)) ≡ false
    → known_below (Sends line (Some (tag, c)) ∷ h) ≡ below (fresh (count_sent h) (rival_of tag h) (error_of (rival_of tag h) h)) c (known_below h)
below_known line tag (SentCommand.Foreign text) h e = refl
below_known line tag SentCommand.Asking h e =
    four (same_hold (last_tool h) line (Some (tag, SentCommand.Asking)) h e) (same_hold (last_csy h) line (Some (tag, SentCommand.Asking)) h e)
    (same_hold (last_part h) line (Some (tag, SentCommand.Asking)) h e) (same_hold (last_zero h) line (Some (tag, SentCommand.Asking)) h e)
below_known line tag (SentCommand.Known Command.StartSession) h e = refl
below_known line tag (SentCommand.Known Command.EndSession) h e = refl
below_known line tag (SentCommand.Known Command.ClearAllErrors) h e =
    four (same_hold (last_tool h) line (Some (tag, (SentCommand.Known Command.ClearAllErrors))) h e) (same_hold (last_csy h) line (Some (tag, (SentCommand.Known Command.ClearAllErrors))) h e)
    (same_hold (last_part h) line (Some (tag, (SentCommand.Known Command.ClearAllErrors))) h e) (same_hold (last_zero h) line (Some (tag, (SentCommand.Known Command.ClearAllErrors))) h e)
below_known line tag (SentCommand.Known Command.IsHomed) h e =
    four (same_hold (last_tool h) line (Some (tag, (SentCommand.Known Command.IsHomed))) h e) (same_hold (last_csy h) line (Some (tag, (SentCommand.Known Command.IsHomed))) h e)
    (same_hold (last_part h) line (Some (tag, (SentCommand.Known Command.IsHomed))) h e) (same_hold (last_zero h) line (Some (tag, (SentCommand.Known Command.IsHomed))) h e)
below_known line tag (SentCommand.Known Command.Home) h e =
    four refl (same_hold (last_csy h) line (Some (tag, (SentCommand.Known Command.Home))) h e)
    (same_hold (last_part h) line (Some (tag, (SentCommand.Known Command.Home))) h e) (same_hold (last_zero h) line (Some (tag, (SentCommand.Known Command.Home))) h e)
below_known line tag (SentCommand.Known Command.OnPtMeasReport) h e =
    four (same_hold (last_tool h) line (Some (tag, (SentCommand.Known Command.OnPtMeasReport))) h e) (same_hold (last_csy h) line (Some (tag, (SentCommand.Known Command.OnPtMeasReport))) h e)
    (same_hold (last_part h) line (Some (tag, (SentCommand.Known Command.OnPtMeasReport))) h e) (same_hold (last_zero h) line (Some (tag, (SentCommand.Known Command.OnPtMeasReport))) h e)
below_known line tag (SentCommand.Known (Command.GoTo p)) h e =
    four (same_hold (last_tool h) line (Some (tag, (SentCommand.Known (Command.GoTo p)))) h e) (same_hold (last_csy h) line (Some (tag, (SentCommand.Known (Command.GoTo p)))) h e)
    (same_hold (last_part h) line (Some (tag, (SentCommand.Known (Command.GoTo p)))) h e) (same_hold (last_zero h) line (Some (tag, (SentCommand.Known (Command.GoTo p)))) h e)
below_known line tag (SentCommand.Known (Command.PtMeas p d)) h e =
    four (same_hold (last_tool h) line (Some (tag, (SentCommand.Known (Command.PtMeas p d)))) h e) (same_hold (last_csy h) line (Some (tag, (SentCommand.Known (Command.PtMeas p d)))) h e)
    (same_hold (last_part h) line (Some (tag, (SentCommand.Known (Command.PtMeas p d)))) h e) (same_hold (last_zero h) line (Some (tag, (SentCommand.Known (Command.PtMeas p d)))) h e)
below_known line tag (SentCommand.Known (Command.ChangeTool t)) h e =
    four (ap (standing t) (new_standing line tag (SentCommand.Known (Command.ChangeTool t)) h e)) (same_hold (last_csy h) line (Some (tag, (SentCommand.Known (Command.ChangeTool t)))) h e)
    (same_hold (last_part h) line (Some (tag, (SentCommand.Known (Command.ChangeTool t)))) h e) (same_hold (last_zero h) line (Some (tag, (SentCommand.Known (Command.ChangeTool t)))) h e)
below_known line tag (SentCommand.Known (Command.SetCsyTransformation p)) h e =
    four (same_hold (last_tool h) line (Some (tag, (SentCommand.Known (Command.SetCsyTransformation p)))) h e) (unless_hold (last_csy h) line (Some (tag, (SentCommand.Known (Command.SetCsyTransformation p)))) h e)
    (same_hold (last_part h) line (Some (tag, (SentCommand.Known (Command.SetCsyTransformation p)))) h e) (ap (standing (point_opposite p)) (new_standing line tag (SentCommand.Known (Command.SetCsyTransformation p)) h e))
below_known line tag (SentCommand.Known (Command.SetCoordSystem c)) h e =
    four (same_hold (last_tool h) line (Some (tag, (SentCommand.Known (Command.SetCoordSystem c)))) h e) (ap (standing c) (new_standing line tag (SentCommand.Known (Command.SetCoordSystem c)) h e))
    (same_hold (last_zero h) line (Some (tag, (SentCommand.Known (Command.SetCoordSystem c)))) h e) (same_hold (last_zero h) line (Some (tag, (SentCommand.Known (Command.SetCoordSystem c)))) h e)
below_known line tag (SentCommand.Known Command.AbortE) h e =
    four (same_hold (last_tool h) line (Some (tag, (SentCommand.Known Command.AbortE))) h e) (same_hold (last_csy h) line (Some (tag, (SentCommand.Known Command.AbortE))) h e)
    (same_hold (last_part h) line (Some (tag, (SentCommand.Known Command.AbortE))) h e) (same_hold (last_zero h) line (Some (tag, (SentCommand.Known Command.AbortE))) h e)

-- ---- the parts of a witness

abbrev parted : Bool → ℕ → List Use → List ℕ → Bool → Known → List Reported → Dialogue
parted ordered lines uses events crossed known reported = record {
  ordered = ordered;
  lines = lines;
  uses = uses;
  events = events;
  crossed = crossed;
  known = known;
  reported = reported;
}

five_parts : (o : Bool) (ev : List ℕ) {a b : ℕ} {c d : List Use} {i j : Bool} {e f : Known} {g h : List Reported}
    → a ≡ b → c ≡ d → i ≡ j → e ≡ f → g ≡ h → parted o a c ev i e g ≡ parted o b d ev j f h
five_parts o ev {a} {b} {c} {d} {i} {j} {e} {f} {g} {h} p q t r s =
    ap (λ x. parted o x c ev i e g) p ∙ ap (λ x. parted o b x ev i e g) q ∙ ap (λ x. parted o b d ev x e g) t
    ∙ ap (λ x. parted o b d ev j x g) r ∙ ap (λ x. parted o b d ev j f x) s

-- the line that was open last under a tag, and whether it has failed
abbrev pair : List Line → Option ℕ → Option (ℕ × Bool)
pair h None = None
pair h (Some n) = Some (n, error_at n h)

last_pair : (tag : Tag) (h : List Line) (xs : List Sent) (found : Option ℕ)
    → last_under tag (map (seen h) xs) (pair h found) ≡ pair h (last_of tag xs found)
last_pair tag h [] found = refl
last_pair tag h (s ∷ xs) found =
    ap (last_under tag (map (seen h) xs)) (either (tag_is s.tag tag)) ∙ last_pair tag h xs (later_line tag s found) where
      either : (b : Bool) → (if b then Some (place s, error_at (place s) h) else pair h found) ≡ pair h (if b then Some (place s) else found)
      either true = refl
      either false = refl

sent_after : (o cr : Bool) (h : List Line) (line : List ℕ) (tag : Tag) (c : SentCommand) (us : List Use) (k : Known) (rs : List Reported) (r : Option ℕ)
    → sending_after (parted o (count_sent h) us (events_of h) cr k rs) tag c (pair (Sends line (Some (tag, c)) ∷ h) r)
    ≡ parted o (count_sent h + 1)
    (us ++ record {
      tag = tag;
      command = c;
      line = count_sent h;
      stage = Stage.Sent;
      has_failed = false;
      rival = r;
      known = if error_of r h then nothing else k;
    } ∷ [])
    (with_event tag (events_of h)) (cr || (o && is_some r)) (below (fresh (count_sent h) r (error_of r h)) c k) rs
sent_after o cr h line tag c us k rs None = refl
sent_after o cr h line tag c us k rs (Some n) = refl

new_use : (line : List ℕ) (tag : Tag) (c : SentCommand) (h : List Line) (k : Known)
    → known_for (newest h tag c) (Sends line (Some (tag, c)) ∷ h) ≡ k
    → built (newest h tag c) Stage.Sent false k ≡ seen (Sends line (Some (tag, c)) ∷ h) (newest h tag c)
new_use line tag c h k e = sym (three (newest h tag c)
    (ap (stage_of c) (no_marks (count_sent h) h (omega arith))) (no_error (count_sent h) h (omega arith)) e)

sent_step : (o : Bool) (h : List Line) (line : List ℕ) (tag : Tag) (c : SentCommand) (k : Known) (rs : List Reported)
    → known_for (newest h tag c) (Sends line (Some (tag, c)) ∷ h) ≡ (if error_of (rival_of tag h) h then nothing else k)
    → below (fresh (count_sent h) (rival_of tag h) (error_of (rival_of tag h) h)) c k ≡ known_below (Sends line (Some (tag, c)) ∷ h)
    → rs ≡ all_reported o (Sends line (Some (tag, c)) ∷ h)
    → sending (parted o (count_sent h) (map (seen (Sends line (Some (tag, c)) ∷ h)) (open_lines h)) (events_of h) (is_crossed o h) k rs) tag c
    ≡ witnessed o (Sends line (Some (tag, c)) ∷ h)
sent_step o h line tag c k rs known_is below_is rs_is =
    ap (sending_after (parted o (count_sent h) (map (seen (Sends line (Some (tag, c)) ∷ h)) (open_lines h)) (events_of h) (is_crossed o h) k rs) tag c)
    (last_pair tag (Sends line (Some (tag, c)) ∷ h) (open_lines h) None)
    ∙ sent_after o (is_crossed o h) h line tag c (map (seen (Sends line (Some (tag, c)) ∷ h)) (open_lines h)) k rs (rival_of tag h)
    ∙ five_parts o (with_event tag (events_of h)) (add-one (count_sent h))
    (ap (λ u. map (seen (Sends line (Some (tag, c)) ∷ h)) (open_lines h) ++ u ∷ [])
    (new_use line tag c h (if error_of (rival_of tag h) h then nothing else k) known_is)
    ∙ sym (map-append (seen (Sends line (Some (tag, c)) ∷ h)) (open_lines h) (newest h tag c ∷ [])))
    refl below_is rs_is

-- ---- a line of the client

foreign_known : (line : List ℕ) (tag : Tag) (c : SentCommand) (h : List Line) → is_at_once (Some (tag, c)) ≡ true
    → below (fresh (count_sent h) (rival_of tag h) (error_of (rival_of tag h) h)) c nothing ≡ known_below (Sends line (Some (tag, c)) ∷ h)
foreign_known line (Std n) c h e = absurd (false_true e)
foreign_known line (Event n) (SentCommand.Known c) h e = absurd (false_true e)
foreign_known line (Event n) SentCommand.Asking h e = absurd (false_true e)
foreign_known line (Event n) (SentCommand.Foreign text) h e = refl

tagged_more : (o : Bool) (h : List Line) (line : List ℕ) (tag : Tag) (c : SentCommand) (b : Bool) → is_at_once (Some (tag, c)) ≡ b
    → (if b then sending (at_once (witnessed o h) line) tag c else sending (witnessed o h) tag c) ≡ witnessed o (Sends line (Some (tag, c)) ∷ h)
tagged_more o h line tag c true e =
    ap (λ us. sending (parted o (count_sent h) us (events_of h) (is_crossed o h) nothing (all_reported o h ++ reported_at_once line true)) tag c)
    (uses_lost line (Some (tag, c)) h e (open_lines h) (all_under h))
    ∙ sent_step o h line tag c nothing (all_reported o h ++ reported_at_once line true)
    (known_lost (newest h tag c) line (Some (tag, c)) h e (omega arith) ∙ sym (same (error_of (rival_of tag h) h) nothing))
    (foreign_known line tag c h e)
    (ap (λ b. all_reported o h ++ reported_at_once line b) (sym e))
tagged_more o h line tag c false e =
    ap (λ us. sending (parted o (count_sent h) us (events_of h) (is_crossed o h) (known_below h) (all_reported o h)) tag c)
    (uses_same line (Some (tag, c)) h e (open_lines h))
    ∙ sent_step o h line tag c (known_below h) (all_reported o h) (new_known line tag c h e) (sym (below_known line tag c h e))
    (sym (append-nil (all_reported o h)) ∙ ap (λ b. all_reported o h ++ reported_at_once line b) (sym e))

-- a witness that reads one more line of the client
pub sends_more : (o : Bool) (h : List Line) (line : List ℕ) (what : Option (Tag × SentCommand))
    → after (witnessed o h) (Sends line what) ≡ witnessed o (Sends line what ∷ h)
sends_more o h line None =
    five_parts o (events_of h) (add-one (count_sent h)) (uses_lost line None h refl (open_lines h) (all_under h))
    (sym (or-false (is_crossed o h)) ∙ ap (λ b. is_crossed o h || b) (sym (and-false o))) refl refl
sends_more o h line (Some (tag, c)) = tagged_more o h line tag c (foreign_event tag c) refl
