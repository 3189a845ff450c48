-- One knows no more than another: what becomes of it with each line.
use Rattle.witness_laws.proofs.Names.{◌&&◌, ◌==◌, ◌∙◌, ◌≡◌, all_renewed, Answer, answered_known, ap, Begun, below, below_command, Bool, Command, Csy}
use Rattle.witness_laws.proofs.Names.{Done, done, false, false≢true, Fault, frame_by, frame_of, Heard, if_done, if◌then◌else◌, is_answer, is_error}
use Rattle.witness_laws.proofs.Names.{is_rival, IsPart, Known, known, MachineCsy, Mark, None, nothing, one_renewed, Option, part_at, PartCsy, Point}
use Rattle.witness_laws.proofs.Names.{point_opposite, Progress, refl, Renewal, renewed, SentCommand, Some, Standing, standing, tool_of, true, unknown}
use Rattle.witness_laws.proofs.Names.{unless_crossed, unless_part, unless_refused, with_mark, ℕ}
use Rattle.witness.specs.declared.lines.Progress.TheVariants.{Sent}

-- ---- what becomes of a change that was just sent

abbrev pub then_renewed : Renewal → Option Standing → Option Standing
then_renewed r None = None
then_renewed r (Some s) = renewed r s

one_standing : {A : Type 0} (r : Renewal) (a : A) (s : Option Standing) → one_renewed r (standing a s) ≡ standing a (then_renewed r s)
one_standing r a None = refl
one_standing r a (Some s) = refl

part_standing : (s : Option Standing) → standing MachineCsy s ≡ unless_part (standing MachineCsy s)
part_standing None = refl
part_standing (Some s) = refl

no_part_standing : (s : Option Standing) → None ≡ unless_part (standing PartCsy s)
no_part_standing None = refl
no_part_standing (Some s) = refl

part_renewed : (r : Renewal) (c : Option (Csy × Standing)) → one_renewed r (unless_part c) ≡ unless_part (one_renewed r c)
part_renewed r None = refl
part_renewed r (Some (MachineCsy, s)) = part_standing (renewed r s)
part_renewed r (Some (PartCsy, s)) = no_part_standing (renewed r s)

below_command_renewed : (r : Renewal) (s : Option Standing) (c : Command) (k : Known)
    → all_renewed r (below_command s c k) ≡ below_command (then_renewed r s) c (all_renewed r k)
below_command_renewed r s Command.StartSession k = refl
below_command_renewed r s Command.EndSession k = refl
below_command_renewed r s Command.ClearAllErrors k = refl
below_command_renewed r s Command.IsHomed k = refl
below_command_renewed r s Command.Home k = refl
below_command_renewed r s Command.OnPtMeasReport k = refl
below_command_renewed r s (Command.GoTo p) k = refl
below_command_renewed r s (Command.PtMeas p d) k = refl
below_command_renewed r s (Command.ChangeTool tool) k =
    ap (λ x. record { tool = x; csy = one_renewed r k.csy; part = one_renewed r k.part; zero = one_renewed r k.zero }) (one_standing r tool s)
below_command_renewed r s (Command.SetCsyTransformation p) k =
    ap (λ x. record {
      tool = one_renewed r k.tool;
      csy = one_renewed r (unless_part k.csy);
      part = one_renewed r k.part;
      zero = x;
    }) (one_standing r (point_opposite p) s)
    ∙ ap (λ x. record {
      tool = one_renewed r k.tool;
      csy = x;
      part = one_renewed r k.part;
      zero = standing (point_opposite p) (then_renewed r s);
    }) (part_renewed r k.csy)
below_command_renewed r s (Command.SetCoordSystem csy) k =
    ap (λ x. record { tool = one_renewed r k.tool; csy = x; part = one_renewed r k.zero; zero = one_renewed r k.zero }) (one_standing r csy s)
below_command_renewed r s Command.AbortE k = refl

pub below_renewed : (r : Renewal) (s : Option Standing) (what : SentCommand) (k : Known)
    → all_renewed r (below s what k) ≡ below (then_renewed r s) what (all_renewed r k)
below_renewed r s (SentCommand.Known c) k = below_command_renewed r s c k
below_renewed r s SentCommand.Asking k = refl
below_renewed r s (SentCommand.Foreign line) k = refl

-- ---- one change

-- an error of a line that may yet have a mark ends the one if it ends the other
abbrev pub Covers : (ℕ → Type 0) → Option ℕ → Option ℕ → Type 0
Covers Live more less = (line : ℕ) → Live line → is_rival line less ≡ true → is_rival line more ≡ true

pub data LessStanding (Live : ℕ → Type 0) : Option Standing → Option Standing → Type 0 where
  gone : (x : Option Standing) → LessStanding Live None x
  stands : (line : ℕ) (p : Progress) (more less : Option ℕ) → Covers Live more less
      → LessStanding Live (Some (record { line = line; rival = more; progress = p })) (Some (record { line = line; rival = less; progress = p }))

pub data LessOne (Live : ℕ → Type 0) {A : Type 0} : Option (A × Standing) → Option (A × Standing) → Type 0 where
  lost : (x : Option (A × Standing)) → LessOne Live None x
  kept : (a : A) (line : ℕ) (p : Progress) (more less : Option ℕ) → Covers Live more less
      → LessOne Live (Some (a, record { line = line; rival = more; progress = p })) (Some (a, record { line = line; rival = less; progress = p }))

same_covers : (Live : ℕ → Type 0) (r : Option ℕ) → Covers Live r r
same_covers Live r = λ line live hit. hit

pub same_standing : (Live : ℕ → Type 0) (s : Option Standing) → LessStanding Live s s
same_standing Live None = gone None
same_standing Live (Some s) = stands s.line s.progress s.rival s.rival (same_covers Live s.rival)

same_one : (Live : ℕ → Type 0) {A : Type 0} (x : Option (A × Standing)) → LessOne Live x x
same_one Live None = lost None
same_one Live (Some (a, s)) = kept a s.line s.progress s.rival s.rival (same_covers Live s.rival)

standing_less : (Live : ℕ → Type 0) {A : Type 0} (a : A) (s t : Option Standing) → LessStanding Live s t
    → LessOne Live (standing a s) (standing a t)
standing_less Live a _ _ (gone x) = lost (standing a x)
standing_less Live a _ _ (stands line p more less covers) = kept a line p more less covers

unless_less : (Live : ℕ → Type 0) (line : ℕ) (p : Progress) (more less : Option ℕ) → Covers Live more less → (x y e : Bool) → (y ≡ true → x ≡ true)
    → LessStanding Live (if x && e then None else Some (record { line = line; rival = more; progress = p }))
    (if y && e then None else Some (record { line = line; rival = less; progress = p }))
unless_less Live line p more less covers true y true hits = gone _
unless_less Live line p more less covers true true false hits = stands line p more less covers
unless_less Live line p more less covers true false false hits = stands line p more less covers
unless_less Live line p more less covers false true e hits = absurd (false≢true (hits refl))
unless_less Live line p more less covers false false e hits = stands line p more less covers

mark_less : (Live : ℕ → Type 0) (line : ℕ) (p : Progress) (h : Heard) (more less : Option ℕ) → Covers Live more less
    → LessStanding Live (with_mark (record { line = line; rival = more; progress = p }) p h)
    (with_mark (record { line = line; rival = less; progress = p }) p h)
mark_less Live line Sent Heard.Received more less covers = stands line Begun more less covers
mark_less Live line Sent (Heard.Given d) more less covers = gone None
mark_less Live line Sent Heard.Unread more less covers = gone None
mark_less Live line Sent Heard.Complete more less covers = gone None
mark_less Live line Sent Heard.Failed more less covers = gone None
mark_less Live line Begun Heard.Received more less covers = gone None
mark_less Live line Begun (Heard.Given d) more less covers = gone None
mark_less Live line Begun Heard.Unread more less covers = gone None
mark_less Live line Begun Heard.Complete more less covers = stands line Done more less covers
mark_less Live line Begun Heard.Failed more less covers = gone None
mark_less Live line Done Heard.Received more less covers = gone None
mark_less Live line Done (Heard.Given d) more less covers = gone None
mark_less Live line Done Heard.Unread more less covers = gone None
mark_less Live line Done Heard.Complete more less covers = gone None
mark_less Live line Done Heard.Failed more less covers = gone None

-- ---- a renewal

abbrev pub Hits : (ℕ → Type 0) → Renewal → Type 0
Hits Live Fault = Unit {0}
Hits Live (Mark line h) = Live line
Hits Live Answer = Unit {0}

either_mark : (Live : ℕ → Type 0) (n : ℕ) (h : Heard) → Live n → (line : ℕ) (p : Progress) (more less : Option ℕ) → Covers Live more less → (own : Bool)
    → LessStanding Live
    (if own then with_mark (record { line = line; rival = more; progress = p }) p h
    else unless_refused (record { line = line; rival = more; progress = p }) n h)
    (if own then with_mark (record { line = line; rival = less; progress = p }) p h
    else unless_refused (record { line = line; rival = less; progress = p }) n h)
either_mark Live n h live line p more less covers true = mark_less Live line p h more less covers
either_mark Live n h live line p more less covers false =
    unless_less Live line p more less covers (is_rival n more) (is_rival n less) (is_error h) (covers n live)

renewed_less : (Live : ℕ → Type 0) (r : Renewal) → Hits Live r → (line : ℕ) (p : Progress) (more less : Option ℕ) → Covers Live more less
    → LessStanding Live (renewed r (record { line = line; rival = more; progress = p }))
    (renewed r (record { line = line; rival = less; progress = p }))
renewed_less Live Fault hits line Sent more less covers = stands line Sent more less covers
renewed_less Live Fault hits line Begun more less covers = gone None
renewed_less Live Fault hits line Done more less covers = gone None
renewed_less Live (Mark n h) hits line p more less covers = either_mark Live n h hits line p more less covers (line == n)
renewed_less Live Answer hits line Sent more less covers = gone None
renewed_less Live Answer hits line Begun more less covers = gone None
renewed_less Live Answer hits line Done more less covers = stands line Done more less covers

one_less : (Live : ℕ → Type 0) (r : Renewal) → Hits Live r → {A : Type 0} (x y : Option (A × Standing)) → LessOne Live x y
    → LessOne Live (one_renewed r x) (one_renewed r y)
one_less Live r hits _ _ (lost y) = lost (one_renewed r y)
one_less Live r hits _ _ (kept a line p more less covers) =
    standing_less Live a (renewed r (record { line = line; rival = more; progress = p }))
    (renewed r (record { line = line; rival = less; progress = p })) (renewed_less Live r hits line p more less covers)

-- ---- all that is known

pub record LessKnown (Live : ℕ → Type 0) (k m : Known) : Type 0 where
  pub tool : LessOne Live k.tool m.tool
  pub csy : LessOne Live k.csy m.csy
  pub part : LessOne Live k.part m.part
  pub zero : LessOne Live k.zero m.zero

pub nothing_less : (Live : ℕ → Type 0) (m : Known) → LessKnown Live nothing m
nothing_less Live m = record { tool = lost m.tool; csy = lost m.csy; part = lost m.part; zero = lost m.zero }

pub same_known : (Live : ℕ → Type 0) (k : Known) → LessKnown Live k k
same_known Live k = record { tool = same_one Live k.tool; csy = same_one Live k.csy; part = same_one Live k.part; zero = same_one Live k.zero }

pub all_less : (Live : ℕ → Type 0) (r : Renewal) → Hits Live r → (k m : Known) → LessKnown Live k m → LessKnown Live (all_renewed r k) (all_renewed r m)
all_less Live r hits k m l = record {
  tool = one_less Live r hits k.tool m.tool l.tool;
  csy = one_less Live r hits k.csy m.csy l.csy;
  part = one_less Live r hits k.part m.part l.part;
  zero = one_less Live r hits k.zero m.zero l.zero;
}

if_answered : (Live : ℕ → Type 0) (b : Bool) (k m : Known) → LessKnown Live k m
    → LessKnown Live (if b then all_renewed Answer k else k) (if b then all_renewed Answer m else m)
if_answered Live true k m l = all_less Live Answer tt k m l
if_answered Live false k m l = l

pub answered_less : (Live : ℕ → Type 0) (h : Heard) (k m : Known) → LessKnown Live k m → LessKnown Live (answered_known h k) (answered_known h m)
answered_less Live h k m l = if_answered Live (is_answer h) k m l

pub if_nothing : (Live : ℕ → Type 0) (b : Bool) (k m : Known) → LessKnown Live k m
    → LessKnown Live (if b then nothing else k) (if b then nothing else m)
if_nothing Live true k m l = nothing_less Live nothing
if_nothing Live false k m l = l

pub crossed_less : (Live : ℕ → Type 0) (b : Bool) (k m : Known) → LessKnown Live k m → LessKnown Live (unless_crossed b k) (unless_crossed b m)
crossed_less Live b k m l = if_nothing Live b k m l

part_less : (Live : ℕ → Type 0) (x y : Option (Csy × Standing)) → LessOne Live x y → LessOne Live (unless_part x) (unless_part y)
part_less Live _ _ (lost y) = lost (unless_part y)
part_less Live _ _ (kept MachineCsy line p more less covers) = kept MachineCsy line p more less covers
part_less Live _ _ (kept PartCsy line p more less covers) = lost None

below_command_less : (Live : ℕ → Type 0) (s t : Option Standing) → LessStanding Live s t → (c : Command) (k m : Known) → LessKnown Live k m
    → LessKnown Live (below_command s c k) (below_command t c m)
below_command_less Live s t l Command.StartSession k m e = nothing_less Live nothing
below_command_less Live s t l Command.EndSession k m e = nothing_less Live nothing
below_command_less Live s t l Command.ClearAllErrors k m e = e
below_command_less Live s t l Command.IsHomed k m e = e
below_command_less Live s t l Command.Home k m e = record { tool = lost None; csy = e.csy; part = e.part; zero = e.zero }
below_command_less Live s t l Command.OnPtMeasReport k m e = e
below_command_less Live s t l (Command.GoTo p) k m e = e
below_command_less Live s t l (Command.PtMeas p d) k m e = e
below_command_less Live s t l (Command.ChangeTool tool) k m e =
    record { tool = standing_less Live tool s t l; csy = e.csy; part = e.part; zero = e.zero }
below_command_less Live s t l (Command.SetCsyTransformation p) k m e = record {
  tool = e.tool;
  csy = part_less Live k.csy m.csy e.csy;
  part = e.part;
  zero = standing_less Live (point_opposite p) s t l;
}
below_command_less Live s t l (Command.SetCoordSystem csy) k m e =
    record { tool = e.tool; csy = standing_less Live csy s t l; part = e.zero; zero = e.zero }
below_command_less Live s t l Command.AbortE k m e = e

pub below_less : (Live : ℕ → Type 0) (s t : Option Standing) → LessStanding Live s t → (what : SentCommand) (k m : Known) → LessKnown Live k m
    → LessKnown Live (below s what k) (below t what m)
below_less Live s t l (SentCommand.Known c) k m e = below_command_less Live s t l c k m e
below_less Live s t l SentCommand.Asking k m e = e
below_less Live s t l (SentCommand.Foreign line) k m e = nothing_less Live nothing

-- ---- the tool and the frame

pub done_part : (Live : ℕ → Type 0) {A : Type 0} (x y : Option (A × Standing)) → LessOne Live x y → IsPart (done x) (done y)
done_part Live _ _ (lost y) = unknown (done y)
done_part Live _ _ (kept a line p more less covers) = known (if_done a p)

pub by_part : (c : Csy) (p q : Option Point) → IsPart p q → IsPart (frame_by (Some c) p) (frame_by (Some c) q)
by_part MachineCsy p q e = known (frame_by (Some MachineCsy) q)
by_part PartCsy _ _ (unknown q) = unknown (part_at q)
by_part PartCsy _ _ (known q) = known (part_at q)

frame_part : (c d : Option Csy) (p q : Option Point) → IsPart c d → IsPart p q → IsPart (frame_by c p) (frame_by d q)
frame_part _ _ p q (unknown d) e = unknown (frame_by d q)
frame_part _ _ p q (known None) e = unknown None
frame_part _ _ p q (known (Some c)) e = by_part c p q e

pub tool_less : (Live : ℕ → Type 0) (k m : Known) → LessKnown Live k m → IsPart (tool_of k) (tool_of m)
tool_less Live k m l = done_part Live k.tool m.tool l.tool

pub frame_less : (Live : ℕ → Type 0) (k m : Known) → LessKnown Live k m → IsPart (frame_of k) (frame_of m)
frame_less Live k m l =
    frame_part (done k.csy) (done m.csy) (done k.part) (done m.part) (done_part Live k.csy m.csy l.csy) (done_part Live k.part m.part l.part)
