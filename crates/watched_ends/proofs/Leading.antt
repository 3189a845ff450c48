-- A session that is run is where its answers lead.
use Rattle.std.proofs.Common.{◌≡◌, ℕ, IfSome, List, [], ◌∷◌, Option, Some, None, refl, ap, sym, ◌∙◌, subst}
use Rattle.effects.specs.Effects.{Ask, Reply, Exit, Did, Carries}
use Rattle.watched_ends.specs.Sessions.{Called, State, start, asked, Steps, Led, begun, more, IsExit}

abbrev pub IsLed : Called → State → Option (List Did) → Type 0
IsLed c s None = Unit {0}
IsLed c s (Some past) = Led c past s

-- from a new session, and hands that report and have done nothing
abbrev pub AreLed : State → Option (List Did) → State → Option (List Did) → Type 0
AreLed first told s now = (c : Called) → first ≡ start c → told ≡ Some [] → IsLed c s now

pub led_start : (s : State) (told : Option (List Did)) → AreLed s told s told
led_start s told c e t = subst (IsLed c s) (sym t) (subst (Led c []) (sym e) begun)

one : (c : Called) (s t : State) (old new : Option (List Did)) (r : Reply) → IsLed c s old → Carries old new (asked s) r → Steps s r t → IsLed c t new
one c s t None new r l k h = subst (IsLed c t) (sym k) tt
one c s t (Some past) new r l k h = subst (IsLed c t) (sym k) (more past s t r l h)

pub led_more : (c : Called) (s t : State) (old new : Option (List Did)) (ask : Ask) (r q : Reply) → IsLed c s old → ask ≡ asked s → Carries old new ask r
    → q ≡ r → Steps s q t → IsLed c t new
led_more c s t old new ask r q l a k e h = one c s t old new r l (subst (λ x. Carries old new x r) a k) (subst (λ x. Steps s x t) e h)

pub led_exit : (c : Called) (s : State) (now : Option (List Did)) (status : ℕ) → IsLed c s now → asked s ≡ Exit status → IfSome now (λ past. IsExit c past status)
led_exit c s None status l e = tt
led_exit c s (Some past) status l e = (s, l, e)
