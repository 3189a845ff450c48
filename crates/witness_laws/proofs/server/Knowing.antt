-- What may be known for one line is what may be known for the line above it, and what that line changes.
use Rattle.witness_laws.proofs.Names.{◌++◌, ◌∷◌, ◌≡◌, ◌⊎◌, [], all_renewed, Answer, answering, ap, at, below, below_command, Bool, Command, cond, Csy}
use Rattle.witness_laws.proofs.Names.{false, if_true, inl, inr, Known, List, MachineCsy, map, None, nothing, one_renewed, Option, PartCsy, Point}
use Rattle.witness_laws.proofs.Names.{point_opposite, Progress, refl, Renewal, renewed, SentCommand, Some, Stage, Standing, standing, subst, sym}
use Rattle.witness_laws.proofs.Names.{true, unknowing, unless_part, Use, ℕ}

-- ---- less is known

-- of one thing nothing is known, or just this
abbrev pub IsOrNone : {A : Type 0} → Option (A × Standing) → Option (A × Standing) → Type 0
IsOrNone None e = Unit {0}
IsOrNone (Some x) e = e ≡ Some x

-- likewise of a coordinate system with the part's zero point, which only counts if the coordinate system is known
abbrev pub IsFrameOrNone : Option (Csy × Standing) → Option (Point × Standing) → Option (Csy × Standing) → Option (Point × Standing) → Type 0
IsFrameOrNone None part csy other = Unit {0}
IsFrameOrNone (Some x) part csy other = (csy ≡ Some x) × IsOrNone part other

-- all that is known is known there too
pub record IsWithin (k e : Known) : Type 0 where
  pub tool : IsOrNone k.tool e.tool
  pub zero : IsOrNone k.zero e.zero
  pub frame : IsFrameOrNone k.csy k.part e.csy e.part

one_itself : {A : Type 0} (x : Option (A × Standing)) → IsOrNone x x
one_itself None = tt
one_itself (Some x) = refl

frame_itself : (csy : Option (Csy × Standing)) (part other : Option (Point × Standing)) → IsOrNone part other → IsFrameOrNone csy part csy other
frame_itself None part other h = tt
frame_itself (Some x) part other h = (refl, h)

pub within_itself : (k : Known) → IsWithin k k
within_itself k = record { tool = one_itself k.tool; zero = one_itself k.zero; frame = frame_itself k.csy k.part k.part (one_itself k.part) }

one_trans : {A : Type 0} (x y z : Option (A × Standing)) → IsOrNone x y → IsOrNone y z → IsOrNone x z
one_trans None y z h g = tt
one_trans (Some x) y z h g = subst (λ o. IsOrNone o z) h g

frame_trans : (a : Option (Csy × Standing)) (p : Option (Point × Standing)) (b : Option (Csy × Standing)) (q : Option (Point × Standing))
    (c : Option (Csy × Standing)) (r : Option (Point × Standing)) → IsFrameOrNone a p b q → IsFrameOrNone b q c r → IsFrameOrNone a p c r
frame_trans None p b q c r h g = tt
frame_trans (Some x) p b q c r h g =
    let both : (c ≡ Some x) × IsOrNone q r = subst (λ o. IsFrameOrNone o q c r) h.0 g in (both.0, one_trans p q r h.1 both.1)

pub within_trans : (k e f : Known) → IsWithin k e → IsWithin e f → IsWithin k f
within_trans k e f h g = record {
  tool = one_trans k.tool e.tool f.tool h.tool g.tool;
  zero = one_trans k.zero e.zero f.zero h.zero g.zero;
  frame = frame_trans k.csy k.part e.csy e.part f.csy f.part h.frame g.frame;
}

pub nothing_within : (e : Known) → IsWithin nothing e
nothing_within e = record { tool = tt; zero = tt; frame = tt }

-- ---- what happens to changes

one_renews : {A : Type 0} (r : Renewal) (x y : Option (A × Standing)) → IsOrNone x y → IsOrNone (one_renewed r x) (one_renewed r y)
one_renews r None y h = tt
one_renews r (Some x) y h =
    subst (λ o. IsOrNone (one_renewed r (Some x)) (one_renewed r o)) (sym h) (one_itself (one_renewed r (Some x)))

frame_renews : (r : Renewal) (a : Option (Csy × Standing)) (p : Option (Point × Standing)) (b : Option (Csy × Standing))
    (q : Option (Point × Standing)) → IsFrameOrNone a p b q
    → IsFrameOrNone (one_renewed r a) (one_renewed r p) (one_renewed r b) (one_renewed r q)
frame_renews r None p b q h = tt
frame_renews r (Some x) p b q h =
    subst (λ o. IsFrameOrNone (one_renewed r (Some x)) (one_renewed r p) (one_renewed r o) (one_renewed r q)) (sym h.0)
    (frame_itself (one_renewed r (Some x)) (one_renewed r p) (one_renewed r q) (one_renews r p q h.1))

pub within_renewed : (r : Renewal) (k e : Known) → IsWithin k e → IsWithin (all_renewed r k) (all_renewed r e)
within_renewed r k e h = record {
  tool = one_renews r k.tool e.tool h.tool;
  zero = one_renews r k.zero e.zero h.zero;
  frame = frame_renews r k.csy k.part e.csy e.part h.frame;
}

-- a change is lost, or is this then
abbrev pub Becomes : Option Standing → Standing → Type 0
Becomes o s = (o ≡ None) ⊎ (o ≡ Some s)

one_becomes : {A : Type 0} (a : A) (o : Option Standing) (s : Standing) → Becomes o s → IsOrNone (standing a o) (Some (a, s))
one_becomes a o s (inl e) = subst (λ p. IsOrNone (standing a p) (Some (a, s))) (sym e) tt
one_becomes a o s (inr e) = subst (λ p. IsOrNone (standing a p) (Some (a, s))) (sym e) refl

-- an answer only takes what is known
answer_takes : (s : Standing) (p : Progress) → s.progress ≡ p → Becomes (answering s p) s
answer_takes s Progress.Sent e = inl refl
answer_takes s Progress.Begun e = inl refl
answer_takes s Progress.Done e = inr refl

one_answered : {A : Type 0} (x : Option (A × Standing)) → IsOrNone (one_renewed Answer x) x
one_answered None = tt
one_answered (Some (a, s)) = one_becomes a (answering s s.progress) s (answer_takes s s.progress refl)

frame_answered : (csy : Option (Csy × Standing)) (part : Option (Point × Standing))
    → IsFrameOrNone (one_renewed Answer csy) (one_renewed Answer part) csy part
frame_answered None part = tt
frame_answered (Some (a, s)) part = go (answering s s.progress) (answer_takes s s.progress refl)
  where
    go : (o : Option Standing) → Becomes o s → IsFrameOrNone (standing a o) (one_renewed Answer part) (Some (a, s)) part
    go o (inl e) = subst (λ p. IsFrameOrNone (standing a p) (one_renewed Answer part) (Some (a, s)) part) (sym e) tt
    go o (inr e) =
        subst (λ p. IsFrameOrNone (standing a p) (one_renewed Answer part) (Some (a, s)) part) (sym e) (refl, one_answered part)

pub answer_within : (k : Known) → IsWithin (all_renewed Answer k) k
answer_within k = record { tool = one_answered k.tool; zero = one_answered k.zero; frame = frame_answered k.csy k.part }

-- ---- below a line

unless_both : (a : Option (Csy × Standing)) (p : Option (Point × Standing)) (b : Option (Csy × Standing)) (q : Option (Point × Standing))
    → IsFrameOrNone a p b q → IsFrameOrNone (unless_part a) p (unless_part b) q
unless_both None p b q h = tt
unless_both (Some (MachineCsy, s)) p b q h = (ap unless_part h.0, h.1)
unless_both (Some (PartCsy, s)) p b q h = tt

command_within : (o : Option Standing) (c : Command) (k e : Known) → IsWithin k e → IsWithin (below_command o c k) (below_command o c e)
command_within o Command.StartSession k e h = within_itself nothing
command_within o Command.EndSession k e h = within_itself nothing
command_within o Command.Home k e h = record { tool = tt; zero = h.zero; frame = h.frame }
command_within o (Command.ChangeTool tool) k e h = record { tool = one_itself (standing tool o); zero = h.zero; frame = h.frame }
command_within o (Command.SetCsyTransformation p) k e h = record {
  tool = h.tool;
  zero = one_itself (standing (point_opposite p) o);
  frame = unless_both k.csy k.part e.csy e.part h.frame;
}
command_within o (Command.SetCoordSystem csy) k e h =
    record { tool = h.tool; zero = h.zero; frame = frame_itself (standing csy o) k.zero e.zero h.zero }
command_within o Command.ClearAllErrors k e h = h
command_within o Command.IsHomed k e h = h
command_within o Command.OnPtMeasReport k e h = h
command_within o (Command.GoTo p) k e h = h
command_within o (Command.PtMeas p d) k e h = h
command_within o Command.AbortE k e h = h

pub below_within : (o : Option Standing) (what : SentCommand) (k e : Known) → IsWithin k e → IsWithin (below o what k) (below o what e)
below_within o (SentCommand.Known c) k e h = command_within o c k e h
below_within o SentCommand.Asking k e h = h
below_within o (SentCommand.Foreign line) k e h = within_itself nothing

unless_renewed : (r : Renewal) (csy : Option (Csy × Standing)) (part : Option (Point × Standing))
    → IsFrameOrNone (one_renewed r (unless_part csy)) part (unless_part (one_renewed r csy)) part
unless_renewed r None part = tt
unless_renewed r (Some (PartCsy, s)) part = tt
unless_renewed r (Some (MachineCsy, s)) part = go (renewed r s)
  where
    go : (o : Option Standing) → IsFrameOrNone (standing MachineCsy o) part (unless_part (standing MachineCsy o)) part
    go None = tt
    go (Some t) = (refl, one_itself part)

frame_becomes : (csy : Csy) (part : Option (Point × Standing)) (o : Option Standing) (t : Standing) → Becomes o t
    → IsFrameOrNone (standing csy o) part (Some (csy, t)) part
frame_becomes csy part o t (inl e) = subst (λ p. IsFrameOrNone (standing csy p) part (Some (csy, t)) part) (sym e) tt
frame_becomes csy part o t (inr e) = subst (λ p. IsFrameOrNone (standing csy p) part (Some (csy, t)) part) (sym e) (refl, one_itself part)

-- what happens below a line happens above it, and to its own change
command_renewed : (r : Renewal) (s t : Standing) (c : Command) (k : Known) → Becomes (renewed r s) t
    → IsWithin (all_renewed r (below_command (Some s) c k)) (below_command (Some t) c (all_renewed r k))
command_renewed r s t Command.StartSession k h = within_itself nothing
command_renewed r s t Command.EndSession k h = within_itself nothing
command_renewed r s t Command.Home k h = record {
  tool = tt;
  zero = one_itself (one_renewed r k.zero);
  frame = frame_itself (one_renewed r k.csy) (one_renewed r k.part) (one_renewed r k.part) (one_itself (one_renewed r k.part));
}
command_renewed r s t (Command.ChangeTool tool) k h = record {
  tool = one_becomes tool (renewed r s) t h;
  zero = one_itself (one_renewed r k.zero);
  frame = frame_itself (one_renewed r k.csy) (one_renewed r k.part) (one_renewed r k.part) (one_itself (one_renewed r k.part));
}
command_renewed r s t (Command.SetCsyTransformation p) k h = record {
  tool = one_itself (one_renewed r k.tool);
  zero = one_becomes (point_opposite p) (renewed r s) t h;
  frame = unless_renewed r k.csy (one_renewed r k.part);
}
command_renewed r s t (Command.SetCoordSystem csy) k h = record {
  tool = one_itself (one_renewed r k.tool);
  zero = one_itself (one_renewed r k.zero);
  frame = frame_becomes csy (one_renewed r k.zero) (renewed r s) t h;
}
command_renewed r s t Command.ClearAllErrors k h = within_itself (all_renewed r k)
command_renewed r s t Command.IsHomed k h = within_itself (all_renewed r k)
command_renewed r s t Command.OnPtMeasReport k h = within_itself (all_renewed r k)
command_renewed r s t (Command.GoTo p) k h = within_itself (all_renewed r k)
command_renewed r s t (Command.PtMeas p d) k h = within_itself (all_renewed r k)
command_renewed r s t Command.AbortE k h = within_itself (all_renewed r k)

pub below_renewed : (r : Renewal) (s t : Standing) (what : SentCommand) (k : Known) → Becomes (renewed r s) t
    → IsWithin (all_renewed r (below (Some s) what k)) (below (Some t) what (all_renewed r k))
below_renewed r s t (SentCommand.Known c) k h = command_renewed r s t c k h
below_renewed r s t SentCommand.Asking k h = within_itself (all_renewed r k)
below_renewed r s t (SentCommand.Foreign line) k h = within_itself nothing

-- what a line that fails has begun is lost
unless_lost : (r : Renewal) (csy : Option (Csy × Standing)) (part : Option (Point × Standing))
    → IsFrameOrNone (one_renewed r (unless_part csy)) part (one_renewed r csy) part
unless_lost r None part = tt
unless_lost r (Some (PartCsy, s)) part = tt
unless_lost r (Some (MachineCsy, s)) part =
    frame_itself (one_renewed r (Some (MachineCsy, s))) part part (one_itself part)

none_left : {A : Type 0} (a : A) (o : Option Standing) (e : Option (A × Standing)) → o ≡ None → IsOrNone (standing a o) e
none_left a o e is = subst (λ p. IsOrNone (standing a p) e) (sym is) tt

no_frame_left : (csy : Csy) (o : Option Standing) (p : Option (Point × Standing)) (e : Option (Csy × Standing)) (q : Option (Point × Standing))
    → o ≡ None → IsFrameOrNone (standing csy o) p e q
no_frame_left csy o p e q is = subst (λ x. IsFrameOrNone (standing csy x) p e q) (sym is) tt

command_lost : (r : Renewal) (s : Standing) (c : Command) (k : Known) → renewed r s ≡ None
    → IsWithin (all_renewed r (below_command (Some s) c k)) (all_renewed r k)
command_lost r s Command.StartSession k h = nothing_within (all_renewed r k)
command_lost r s Command.EndSession k h = nothing_within (all_renewed r k)
command_lost r s Command.Home k h = record {
  tool = tt;
  zero = one_itself (one_renewed r k.zero);
  frame = frame_itself (one_renewed r k.csy) (one_renewed r k.part) (one_renewed r k.part) (one_itself (one_renewed r k.part));
}
command_lost r s (Command.ChangeTool tool) k h = record {
  tool = none_left tool (renewed r s) (one_renewed r k.tool) h;
  zero = one_itself (one_renewed r k.zero);
  frame = frame_itself (one_renewed r k.csy) (one_renewed r k.part) (one_renewed r k.part) (one_itself (one_renewed r k.part));
}
command_lost r s (Command.SetCsyTransformation p) k h = record {
  tool = one_itself (one_renewed r k.tool);
  zero = none_left (point_opposite p) (renewed r s) (one_renewed r k.zero) h;
  frame = unless_lost r k.csy (one_renewed r k.part);
}
command_lost r s (Command.SetCoordSystem csy) k h = record {
  tool = one_itself (one_renewed r k.tool);
  zero = one_itself (one_renewed r k.zero);
  frame = no_frame_left csy (renewed r s) (one_renewed r k.zero) (one_renewed r k.csy) (one_renewed r k.part) h;
}
command_lost r s Command.ClearAllErrors k h = within_itself (all_renewed r k)
command_lost r s Command.IsHomed k h = within_itself (all_renewed r k)
command_lost r s Command.OnPtMeasReport k h = within_itself (all_renewed r k)
command_lost r s (Command.GoTo p) k h = within_itself (all_renewed r k)
command_lost r s (Command.PtMeas p d) k h = within_itself (all_renewed r k)
command_lost r s Command.AbortE k h = within_itself (all_renewed r k)

pub below_lost : (r : Renewal) (s : Standing) (what : SentCommand) (k : Known) → renewed r s ≡ None
    → IsWithin (all_renewed r (below (Some s) what k)) (all_renewed r k)
below_lost r s (SentCommand.Known c) k h = command_lost r s c k h
below_lost r s SentCommand.Asking k h = within_itself (all_renewed r k)
below_lost r s (SentCommand.Foreign line) k h = nothing_within (all_renewed r k)

-- ---- lines, one below another

-- how far the change of a line is that has not failed
abbrev pub begun_at : Stage → Progress
begun_at Stage.Sent = Progress.Sent
begun_at _ = Progress.Begun

abbrev pub pending : ℕ → Stage → Standing
pending n at = record { line = n; rival = None; progress = begun_at at }

-- what may be known below a line
abbrev pub next : Use → Known → Known
next u e = cond u.has_failed e (below (Some (pending u.line u.stage)) u.command e)

-- what may be known for these lines, but those that have failed, and below them
abbrev pub AreWithin : Known → List Use → Known → Type 0
AreWithin e [] k = IsWithin k e
AreWithin e (u ∷ us) k = (u.has_failed ≡ false → IsWithin u.known e) × AreWithin (next u e) us k

next_within : (u : Use) (k e : Known) → IsWithin k e → IsWithin (next u k) (next u e)
next_within u k e h = go u.has_failed
  where
    go : (b : Bool) → IsWithin (cond b k (below (Some (pending u.line u.stage)) u.command k))
        (cond b e (below (Some (pending u.line u.stage)) u.command e))
    go true = h
    go false = below_within (Some (pending u.line u.stage)) u.command k e h

pub are_within : (e f : Known) (us : List Use) (k : Known) → IsWithin e f → AreWithin e us k → AreWithin f us k
are_within e f [] k h g = within_trans k e f g h
are_within e f (u ∷ us) k h g =
    (λ waiting. within_trans u.known e f (g.0 waiting) h, are_within (next u e) (next u f) us k (next_within u e f h) g.1)

-- one line more
pub more_within : (e : Known) (us : List Use) (u : Use) (x k : Known) → AreWithin e us x → IsWithin u.known x → IsWithin k (next u x)
    → AreWithin e (us ++ u ∷ []) k
more_within e [] u x k h g l = (λ waiting. within_trans u.known x e g h, within_trans k (next u x) (next u e) l (next_within u x e h))
more_within e (v ∷ us) u x k h g l = (h.0, more_within (next v e) us u x k h.1 g l)

-- what happens to a line and to the changes above it
pub record IsStep (r : Renewal) (u v : Use) : Type 0 where
  pub waiting : v.has_failed ≡ false → u.has_failed ≡ false
  pub known : v.has_failed ≡ false → IsWithin v.known (all_renewed r u.known)
  pub next : (e : Known) → IsWithin (all_renewed r (next u e)) (next v (all_renewed r e))

abbrev pub AreSteps : Renewal → List Use → List Use → Type 0
AreSteps r [] [] = Unit {0}
AreSteps r (u ∷ us) (v ∷ vs) = IsStep r u v × AreSteps r us vs
AreSteps r _ _ = ⊥

pub steps_within : (r : Renewal) (e : Known) (us vs : List Use) (k : Known) → AreSteps r us vs → AreWithin e us k
    → AreWithin (all_renewed r e) vs (all_renewed r k)
steps_within r e [] [] k h g = within_renewed r k e g
steps_within r e [] (v ∷ vs) k h g = absurd h
steps_within r e (u ∷ us) [] k h g = absurd h
steps_within r e (u ∷ us) (v ∷ vs) k h g = (
  λ waiting. within_trans v.known (all_renewed r u.known) (all_renewed r e) (IsStep.known h.0 waiting)
      (within_renewed r u.known e (g.0 (IsStep.waiting h.0 waiting))),
  are_within (all_renewed r (next u e)) (next v (all_renewed r e)) vs (all_renewed r k) (IsStep.next h.0 e)
      (steps_within r (next u e) us vs k h.1 g.1),
)

-- the lines after one that has failed rest on those before it
pub gone_within : (e : Known) (before : List Use) (u : Use) (after : List Use) (k : Known) → u.has_failed ≡ true
    → AreWithin e (before ++ u ∷ after) k → AreWithin e (before ++ after) k
gone_within e [] u after k failed h =
    subst (λ x. AreWithin x after k) (if_true u.has_failed e (below (Some (pending u.line u.stage)) u.command e) failed) h.1
gone_within e (v ∷ before) u after k failed h = (h.0, gone_within (next v e) before u after k failed h.1)

-- nothing is known any more
pub nothing_left : (e : Known) (us : List Use) (k : Known) → AreWithin e us k → AreWithin e (map unknowing us) nothing
nothing_left e [] k h = nothing_within e
nothing_left e (u ∷ us) k h = (λ waiting. nothing_within e, nothing_left (next u e) us k h.1)
