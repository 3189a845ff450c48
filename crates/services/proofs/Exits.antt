-- A session at its end comes to its exit.
use Rattle.std.proofs.Common.{◌≡◌, ◌≤◌, ◌+◌, ◌-◌, ◌∙◌, ap, arith, ℕ, true, Result, Ok, Err}
use Rattle.std.proofs.lemmas.Bool.{false≢true}
use Rattle.std.specs.Prelude.{is_err}
use Rattle.services.specs.Ends.{After, Ahead, ahead, ahead_at, IsWithin, Nears, NearsOn, none, one, relay_ahead, relay_ahead_at}
use Rattle.services.specs.Files.{count_of}
use Rattle.services.specs.Relays.{RelayState}
use Rattle.services.specs.declared.recordings.Made.{Made}
use Rattle.services.specs.Sessions.{State, is_closing}
use Rattle.services.specs.declared.relay_stages.RelayStage.{RelayStage}
use Rattle.services.specs.declared.relay_stages.RelayStage.TheVariants as relay
use Rattle.services.specs.declared.stages.Stage.{Stage}

-- memory has run out
closing_many : (st next : Stage) → is_closing st ≡ true → 2 ≤ (ahead_at st next).left
closing_many st next is = grind arith

pub nears_short : {A E : Type 0} (r : Result A E) (s t u : State) → is_err r ≡ true → ((ahead s).ends ≡ true → NearsOn r s t)
    → (is_closing t.stage ≡ true → IsWithin 1 (ahead u)) → Nears (ahead s) (ahead u)
nears_short (Ok a) s t u is nears last = absurd (false≢true is)
nears_short (Err e) s t u is nears last = λ end.
    let n : (t.stage ≡ s.stage) × (is_closing s.stage ≡ true) = nears end in
    let w : IsWithin 1 (ahead u) = last (ap is_closing n.0 ∙ n.1) in
    record { ends = IsWithin.ends w; fewer = omega (arith, IsWithin.fewer w, closing_many s.stage s.next n.1) }

-- after many answers
after : (n : ℕ) (a b : Ahead) → a.ends ≡ true → After n a b → IsWithin (a.left - n) b
after _ _ _ end (none a) = record { ends = end; fewer = omega arith }
after _ _ _ end (one n a b c before nears) =
    let w : IsWithin (a.left - n) b = after n a b end before in
    let v : IsWithin (b.left - 1) c = nears (IsWithin.ends w) in
    record { ends = IsWithin.ends v; fewer = omega (arith, IsWithin.fewer w, IsWithin.fewer v) }

over : (n : ℕ) (a b : Ahead) → a.ends ≡ true → After n a b → a.left ≤ n → IsWithin 0 b
over n a b end before many =
    let w : IsWithin (a.left - n) b = after n a b end before in
    record { ends = IsWithin.ends w; fewer = omega (arith, IsWithin.fewer w, many) }

-- of `serve`
few : (st next : Stage) → (ahead_at st next).left ≤ 4
few st next = grind arith

is_exit : (st next : Stage) → IsWithin 0 (ahead_at st next) → st ≡ Stage.Exiting
is_exit st next w = grind (arith, IsWithin.ends w, IsWithin.fewer w)

pub ends_exit : (n : ℕ) (s t : State) → (ahead s).ends ≡ true → After n (ahead s) (ahead t) → 4 ≤ n → t.stage ≡ Stage.Exiting
ends_exit n s t end a many = is_exit t.stage t.next (over n (ahead s) (ahead t) end a (omega (arith, few s.stage s.next, many)))

pub replaced_exit : (n : ℕ) (s t : State) → s.stage ≡ Stage.Replacing → After n (ahead s) (ahead t) → 3 ≤ n → t.stage ≡ Stage.Exiting
replaced_exit n s t e a many = is_exit t.stage t.next (over n (ahead s) (ahead t) (ap (λ (st : Stage). (ahead_at st s.next).ends) e) a
    (omega (arith, ap (λ (st : Stage). (ahead_at st s.next).left) e, many)))

-- of `watch`
count_most : (made : Made) → count_of made ≤ 3
count_most made = grind arith

relay_few : (st next : RelayStage) (files : ℕ) → (relay_ahead_at st next files).left ≤ 2 + files
relay_few st next files = grind arith

is_relay_exit : (st next : RelayStage) (files : ℕ) → IsWithin 0 (relay_ahead_at st next files) → st ≡ relay.Exiting
is_relay_exit st next files w = grind (arith, IsWithin.ends w, IsWithin.fewer w)

pub relay_exits : (n : ℕ) (s t : RelayState) → (relay_ahead s).ends ≡ true → After n (relay_ahead s) (relay_ahead t) → 5 ≤ n
    → t.stage ≡ relay.Exiting
relay_exits n s t end a many = is_relay_exit t.stage t.next (count_of t.files)
    (over n (relay_ahead s) (relay_ahead t) end a (omega (arith, relay_few s.stage s.next (count_of s.files), count_most s.files, many)))
