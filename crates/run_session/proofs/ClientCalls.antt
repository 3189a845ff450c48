-- What the calls of a client leave of a run.
use Rattle.run_session.proofs.Names.{◌∙◌, ◌≡◌, Bool, Call, calls, ClientEnd, cond, done_by, end_read, Err, false, false≢true, Growth, held, IfErr}
use Rattle.run_session.proofs.Names.{inl, inr, IsFree, IsRunCall, List, Ok, OnErr, OnOk, Pair, possible, Ran, ReadOne, refl, Result, subst, sym, true}
use Rattle.run_session.proofs.Names.{ℕ}
use Rattle.run_session.proofs.Names.{ap, Feed, May, Send}
use Rattle.run_session.proofs.Noting.{spent}
use Rattle.run_session.specs.Errors.{Follows, Hears, noted_by, Talk}
use Rattle.run_session.specs.Records.{forgets}
use Rattle.std.specs.Prelude.{◌||◌, is_err}
use Rattle.client_core.specs.Clients.{may_read}
use Rattle.client_core.specs.Refusals.{IsReadRefused, IsSendRefused}
use Rattle.client_core.specs.declared.faults.ClientFault.{ClientFault}

pub or_true : (b : Bool) → (b || true) ≡ true
or_true true = refl
or_true false = refl

pub or_false : (b : Bool) → (b || false) ≡ b
or_false true = refl
or_false false = refl

-- from one client to another, with these pauses that are to come
abbrev pub Moves : List ℕ → ClientEnd → ClientEnd → Growth → Talk → Talk → Type 0
Moves ps e f g t u = (b : May) (first : Pair) (v : Talk) → Ran b first v ps (record { end = e; recording = g }) t
    → Ran b first v ps (record { end = f; recording = g }) u

pub same_keeps : (ps : List ℕ) (e f : ClientEnd) (g : Growth) (t : Talk) → f ≡ e → Moves ps e f g t t
same_keeps ps e f g t is = λ b first v ran. subst (λ (x : ClientEnd). Ran b first v ps (record { end = x; recording = g }) t) (sym is) ran

done_now : (call : Call) (e : ClientEnd) (b : Bool) → possible call e ≡ b → b ≡ true → cond b (done_by call e) e ≡ done_by call e
done_now call e true is may = refl
done_now call e false is may = absurd (false≢true may)

-- a call that is possible
pub call_keeps : (ps : List ℕ) (call : Call) (e f : ClientEnd) (g : Growth) (t u : Talk) → IsRunCall call
    → ((b : Bool) → IsFree b (held ps) e call) → possible call e ≡ true → f ≡ done_by call e → Follows call e t u → Moves ps e f g t u
call_keeps ps call e f g t u run free may is follows = λ b first v ran.
    subst (λ (x : ClientEnd). Ran b first v ps (record { end = x; recording = g }) u)
    (done_now call e (possible call e) refl may ∙ sym is)
    (calls ps (record { end = e; recording = g }) t u call ran run (free b.aborts) follows)

-- bytes are fed, and heard
pub feeds_keep : {A : Type 0} (r : Result A ClientFault) (ps bytes : List ℕ) (e f : ClientEnd) (g : Growth) (t u v : Talk) (before after : List ℕ)
    → OnOk r (f ≡ done_by (Feed bytes) e) → OnErr r (f ≡ e) → OnOk r (possible (Feed bytes) e ≡ true)
    → Hears e.client.program.features bytes t u before after → v ≡ record u { lost = u.lost || is_err r } → Moves ps e f g t v
feeds_keep (Ok a) ps bytes e f g t u v before after done same may heard is = λ b first x ran.
    subst (λ (y : Talk). Ran b first x ps (record { end = f; recording = g }) y)
    (ap (λ (lost : Bool). record u { lost = lost }) (sym (or_false u.lost)) ∙ sym is)
    (call_keeps ps (Feed bytes) e f g t u tt (λ b. tt) may done (before, after, heard) b first x ran)
feeds_keep (Err why) ps bytes e f g t u v before after done same may heard is = λ b first x ran.
    forgets ps (record { end = f; recording = g }) t v (same_keeps ps e f g t same b first x ran) (ap (λ (y : Talk). y.lost) is ∙ or_true u.lost)

-- bytes are not heard
pub unheard_keeps : (ps : List ℕ) (e : ClientEnd) (g : Growth) (t u : Talk) → u.lost ≡ true → Moves ps e e g t u
unheard_keeps ps e g t u lost = λ b first v ran. forgets ps (record { end = e; recording = g }) t u ran lost

-- no line is written
pub unsent_keeps : (why : ClientFault) (ps : List ℕ) (e f : ClientEnd) (g : Growth) (t : Talk) → ((b : Bool) → IsFree b (held ps) e Send)
    → IsSendRefused (possible Send e) e f (done_by Send e) why → Moves ps e f g t t
unsent_keeps ClientFault.NotNow ps e f g t free r = same_keeps ps e f g t r.0
unsent_keeps (ClientFault.Faulted cause) ps e f g t free (inl r) = same_keeps ps e f g t r.1
unsent_keeps (ClientFault.Faulted cause) ps e f g t free (inr r) = λ b first v ran.
    subst (λ (u : Talk). Ran b first v ps (record { end = f; recording = g }) u) (sym (spent e f t r.0 r.1 r.2))
    (call_keeps ps Send e f g t (noted_by Send e t) tt free r.0 r.1 refl b first v ran)
unsent_keeps ClientFault.Memory ps e f g t free r = same_keeps ps e f g t r

unread_keeps : (why : ClientFault) (may : Bool) (ps : List ℕ) (e f : ClientEnd) (g : Growth) (t : Talk) → may_read e.client ≡ may → IsReadRefused e f why
    → ((why ≡ ClientFault.Memory → ⊥) → may ≡ true → f ≡ end_read e) → (may ≡ false → f ≡ e) → Moves ps e f g t t
unread_keeps why false ps e f g t is refused met before = same_keeps ps e f g t (before refl)
unread_keeps ClientFault.NotNow true ps e f g t is refused met before = same_keeps ps e f g t refused.0
unread_keeps (ClientFault.Faulted cause) true ps e f g t is refused met before = call_keeps ps ReadOne e f g t t tt (λ b. tt) is (met (λ x. is_memory x) refl) refl
  where
    is_memory : (ClientFault.Faulted cause ≡ ClientFault.Memory) → ⊥
    is_memory x = subst at x tt
      where
        at : ClientFault → Type 0
        at (ClientFault.Faulted c) = Unit {0}
        at ClientFault.NotNow = Unit {0}
        at ClientFault.Memory = ⊥
unread_keeps ClientFault.Memory true ps e f g t is refused met before = same_keeps ps e f g t refused

-- a line is read
pub reads_keeps : (r : Result Bool ClientFault) (ps : List ℕ) (e f : ClientEnd) (g : Growth) (t : Talk) → OnOk r (f ≡ end_read e)
    → OnOk r (may_read e.client ≡ true) → IfErr r (λ why. IsReadRefused e f why)
    → IfErr r (λ why. (why ≡ ClientFault.Memory → ⊥) → may_read e.client ≡ true → f ≡ end_read e)
    → (may_read e.client ≡ false → f ≡ e) → Moves ps e f g t t
reads_keeps (Ok line) ps e f g t done may refused met before = call_keeps ps ReadOne e f g t t tt (λ b. tt) may done refl
reads_keeps (Err why) ps e f g t done may refused met before = unread_keeps why (may_read e.client) ps e f g t refl refused met before
