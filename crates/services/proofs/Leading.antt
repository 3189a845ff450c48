-- A session that is run is where its answers lead.
use Rattle.std.proofs.Common.{◌≡◌, inl, inr, refl, ◌∙◌, true≢false, ℕ, zero, suc, Bool, true, false, List, [], ◌∷◌, ◌++◌, Option, Some, None, sym, ap, subst, if◌then◌else◌}
use Rattle.effects.specs.declared.vocabulary.Growth.{Growth}
use Rattle.effects.specs.Effects.{Ask, Make, Reply, Done, Short, Did, Carries}
use Rattle.services.specs.declared.stages.Stage.{Stage}
use Rattle.services.specs.Sessions.{State, Outside, untouched, outcome, makes, is_done, due, due_at, Ready, IsPlain, IsStatus, HasServed, Asks, AsksAt, Steps, Led, starts, follows, NoneBroken, WasSeen, AreSeen}

abbrev pub IsLed : State → State → Option (List Did) → Type 0
IsLed first s None = Unit {0}
IsLed first s (Some past) = (o : Outside) × Led first past s o

-- by hands that report, and have done nothing
abbrev pub AreLed : State → Option (List Did) → State → Option (List Did) → Type 0
AreLed first told s now = told ≡ Some [] → IsLed first s now

pub led_start : (s : State) (told : Option (List Did)) → AreLed s told s told
led_start s told t = subst (IsLed s s) (sym t) (untouched, starts)

one : (first s t : State) (old new : Option (List Did)) (ask : Ask) (r : Reply) → IsLed first s old → (s.stage ≡ Stage.Exiting → ⊥) → Asks s ask
    → Carries old new ask r → Steps s r t → IsLed first t new
one first s t None new ask r l on a k h = subst (IsLed first t) (sym k) tt
one first s t (Some past) new ask r l on a k h = subst (IsLed first t) (sym k) (outcome s.stage s.core r l.0, follows past s t l.0 ask r l.1 on a h)

pub led_more : (first s t : State) (old new : Option (List Did)) (ask : Ask) (r q : Reply) → IsLed first s old → (s.stage ≡ Stage.Exiting → ⊥)
    → Asks s ask → Carries old new ask r → q ≡ r → Steps s q t → IsLed first t new
led_more first s t old new ask r q l on a k e h = one first s t old new ask r l on a k (subst (λ x. Steps s x t) e h)

-- what holds at first holds wherever it is led
pub led_ready : (first : State) (past : List Did) (s : State) (o : Outside) → Ready (due first) first.core untouched → Led first past s o
    → Ready (due s) s.core o
led_ready first _ _ _ is starts = is
led_ready first _ _ _ is (follows past s t o ask reply led on asks steps) = steps.goes o (led_ready first past s o is led)

is_false : (b : Bool) → (b ≡ true → ⊥) → b ≡ false
is_false true not = absurd (not refl)
is_false false not = refl

-- where nothing was broken off at the end, nothing was on the way
none_broken : (first : State) (past : List Did) (s : State) (o : Outside) → (led : Led first past s o) → s.core.broken ≡ false
    → NoneBroken first past s o led
none_broken first _ _ _ starts is = tt
none_broken first _ _ _ (follows past s t o ask reply led on asks steps) is = (
  none_broken first past s o led (is_false s.core.broken (λ was. true≢false (sym (steps.breaks (inl was)) ∙ is))),
  λ off. true≢false (sym (steps.breaks (inr off)) ∙ is),
)

with_status : (n : ℕ) (A B : Type 0) → (A → B) → IsStatus n A → IsStatus n B
with_status zero A B f is = f is
with_status (suc zero) A B f is = tt
with_status (suc (suc zero)) A B f is = absurd is
with_status (suc (suc (suc zero))) A B f is = absurd is
with_status (suc (suc (suc (suc zero)))) A B f is = tt
with_status (suc (suc (suc (suc (suc n))))) A B f is = absurd is

pub served_at_exit : (first : State) (past : List Did) (s : State) (o : Outside) → Ready (due first) first.core untouched
    → (led : Led first past s o) → s.stage ≡ Stage.Exiting → IsStatus s.core.status (HasServed s.core o × NoneBroken first past s o led)
served_at_exit first past s o is led at =
    with_status s.core.status (HasServed s.core o) (HasServed s.core o × NoneBroken first past s o led)
    (λ served. (served, none_broken first past s o led served.unbroken))
    (subst (λ (st : Stage). Ready (due_at st s.next) s.core o) at (led_ready first past s o is led))

-- a file was seen to be a plain one by this answer, or before
if_seen : (b : Bool) (new o : Outside) → new.seen ≡ o.seen → (if b then new else o).seen ≡ o.seen
if_seen true new o same = same
if_seen false new o same = refl

abbrev name_in : Option (List ℕ × Reply) → List ℕ
name_in None = []
name_in (Some seen) = seen.0

abbrev reply_in : Option (List ℕ × Reply) → Reply
reply_in None = Short
reply_in (Some seen) = seen.1

seen_after : (st : Stage) (s : State) (ask : Ask) (reply : Reply) (o : Outside) (past : List Did) (name : List ℕ) → AsksAt st s ask
    → (IsPlain name o → WasSeen name past) → IsPlain name (outcome st s.core reply o) → WasSeen name ((ask, reply) ∷ past)
seen_after Stage.Logged s ask reply o past name asks before is = inr (before is)
seen_after Stage.Looking s ask reply o past name asks before is =
    let called : s.core.name ≡ name = ap name_in is in
    let done : reply ≡ Done = ap reply_in is in
    inl cc
seen_after Stage.Making s ask reply o past name asks before is = inr (before (sym (if_seen (makes reply) (record o { is_made = true; next = s.core.text }) o refl) ∙ is))
seen_after Stage.Listening s ask reply o past name asks before is = inr (before (sym (if_seen (is_done reply) (record o { is_listened = true }) o refl) ∙ is))
seen_after Stage.Discarding s ask reply o past name asks before is = inr (before is)
seen_after Stage.SettingAside s ask reply o past name asks before is = inr (before is)
seen_after Stage.Beginning s ask reply o past name asks before is = inr (before (sym (if_seen (is_done reply) (record o { safe = o.next }) o refl) ∙ is))
seen_after Stage.Peeking s ask reply o past name asks before is = inr (before is)
seen_after Stage.Accepting s ask reply o past name asks before is = inr (before is)
seen_after Stage.Pausing s ask reply o past name asks before is = inr (before is)
seen_after Stage.Checking s ask reply o past name asks before is = inr (before is)
seen_after Stage.Timing s ask reply o past name asks before is = inr (before is)
seen_after Stage.Receiving s ask reply o past name asks before is = inr (before is)
seen_after Stage.Tracing s ask reply o past name asks before is = inr (before is)
seen_after Stage.Stamping s ask reply o past name asks before is = inr (before is)
seen_after Stage.Logging s ask reply o past name asks before is = inr (before is)
seen_after Stage.Keeping s ask reply o past name asks before is = inr (before (sym (if_seen (is_done reply) (record o { safe = o.safe ++ s.core.text }) o refl) ∙ is))
seen_after Stage.Sending s ask reply o past name asks before is = inr (before is)
seen_after Stage.Leaving s ask reply o past name asks before is = inr (before is)
seen_after Stage.Replacing s ask reply o past name asks before is = inr (before (sym (if_seen (is_done reply) (record o { is_whole = true }) o refl) ∙ is))
seen_after Stage.Printing s ask reply o past name asks before is = inr (before (sym (if_seen (is_done reply) (record o { is_printed = true }) o refl) ∙ is))
seen_after Stage.Saying s ask reply o past name asks before is = inr (before is)
seen_after Stage.Telling s ask reply o past name asks before is = inr (before is)
seen_after Stage.Exiting s ask reply o past name asks before is = inr (before is)

-- a file is made at one stage, by its name
make_at : (st : Stage) (s : State) (growth : Growth) (name beside text : List ℕ) → AsksAt st s (Make growth name beside text)
    → (st ≡ Stage.Making) × (name ≡ s.core.name)
make_at Stage.Logged s growth name beside text asks = absurd asks
make_at Stage.Looking s growth name beside text asks = absurd cc
make_at Stage.Making s growth name beside text asks = (refl, asks.0)
make_at Stage.Listening s growth name beside text asks = absurd asks
make_at Stage.Discarding s growth name beside text asks = absurd cc
make_at Stage.SettingAside s growth name beside text asks = absurd asks
make_at Stage.Beginning s growth name beside text asks = absurd cc
make_at Stage.Peeking s growth name beside text asks = absurd asks
make_at Stage.Accepting s growth name beside text asks = absurd asks
make_at Stage.Pausing s growth name beside text asks = absurd cc
make_at Stage.Checking s growth name beside text asks = absurd asks
make_at Stage.Timing s growth name beside text asks = absurd cc
make_at Stage.Receiving s growth name beside text asks = absurd cc
make_at Stage.Tracing s growth name beside text asks = absurd asks
make_at Stage.Stamping s growth name beside text asks = absurd cc
make_at Stage.Logging s growth name beside text asks = absurd asks
make_at Stage.Keeping s growth name beside text asks = absurd cc
make_at Stage.Sending s growth name beside text asks = absurd cc
make_at Stage.Leaving s growth name beside text asks = absurd cc
make_at Stage.Replacing s growth name beside text asks = absurd asks
make_at Stage.Printing s growth name beside text asks = absurd cc
make_at Stage.Saying s growth name beside text asks = absurd asks
make_at Stage.Telling s growth name beside text asks = absurd asks
make_at Stage.Exiting s growth name beside text asks = absurd cc

make_seen : (s : State) (o : Outside) (past : List Did) (ask : Ask) → ((name : List ℕ) → IsPlain name o → WasSeen name past)
    → Ready (due s) s.core o → Asks s ask → (growth : Growth) (name beside text : List ℕ) → ask ≡ Make growth name beside text → WasSeen name past
make_seen s o past ask before ready asks growth name beside text is =
    let at = make_at s.stage s growth name beside text (subst (λ (a : Ask). Asks s a) is asks) in
    before name (subst (λ (n : List ℕ). IsPlain n o) (sym at.1) (subst (λ (st : Stage). Ready (due_at st s.next) s.core o) at.0 ready).1)

pub all_seen : (first : State) (past : List Did) (s : State) (o : Outside) → Ready (due first) first.core untouched → Led first past s o
    → ((name : List ℕ) → IsPlain name o → WasSeen name past) × AreSeen past
all_seen first _ _ _ is starts = (λ name plain. absurd cc, tt)
all_seen first _ _ _ is (follows past s t o ask reply led on asks steps) =
    let before = all_seen first past s o is led in (
      λ name. seen_after s.stage s ask reply o past name asks (before.0 name),
      (make_seen s o past ask before.0 (led_ready first past s o is led) asks, before.1),
    )
