-- What a reply does to the open commands that have not failed.
use Rattle.client_core.proofs.Names.{[], ◌&&◌, ◌++◌, ◌||◌, ◌∙◌, ◌∷◌, ◌≡◌, and_false, ap, AreFilled, ask_nothing, AskNothing, asks_homed, Becomes}
use Rattle.client_core.proofs.Names.{becomes_calm, becomes_filled, Bool, Closes, cond, count_open, Counts, counts_given, Datum, Effect, failed_stays}
use Rattle.client_core.proofs.Names.{false, false≢true, heard_in, if_false, if_true, is_asking, is_failed, is_failed-true, IsFilled, IsGiven, judged}
use Rattle.client_core.proofs.Names.{Kind, List, never_counts, no_closes, no_counts, not, OpenCommand, Option, refl, subst, suc, sym, Tag, true, ℕ}
use Rattle.std.proofs.Math.Bool.{and-true}
use Rattle.protocol_model.specs.Replies.{Mark}
use Rattle.protocol_model.specs.declared.held.Stage.{Stage}
use Rattle.protocol_model.proofs.table.Walks.{heard_cases, staged, two}

-- the kinds of those that have not failed, in sending order
abbrev pub live_kinds : List OpenCommand → List Kind
live_kinds [] = []
live_kinds (h ∷ hs) = cond (is_failed h.stage) (live_kinds hs) (h.kind ∷ live_kinds hs)

pub live_failed : (h : OpenCommand) (hs : List OpenCommand) → is_failed h.stage ≡ true → live_kinds (h ∷ hs) ≡ live_kinds hs
live_failed h hs e = if_true {A = List Kind} (is_failed h.stage) (live_kinds hs) (h.kind ∷ live_kinds hs) e

pub live_calm : (h : OpenCommand) (hs : List OpenCommand) → is_failed h.stage ≡ false → live_kinds (h ∷ hs) ≡ h.kind ∷ live_kinds hs
live_calm h hs e = if_false {A = List Kind} (is_failed h.stage) (live_kinds hs) (h.kind ∷ live_kinds hs) e

-- what a reply's effect means for them: they stay, one has failed, or the first is counted, with the data that it asks for
abbrev pub Fronted : Bool → List Kind → List Kind → Effect → Type 0
Fronted front ks ls Effect.Quiet = ls ≡ ks
Fronted front ks ls Effect.Failure = Unit {0}
Fronted front ks ls (Effect.Count k given) = (front ≡ true) × (ks ≡ k ∷ ls) × IsGiven k given

-- one more before them
behind_one : (k : Kind) (ks ls : List Kind) (e : Effect) → Fronted false ks ls e → Fronted false (k ∷ ks) (k ∷ ls) e
behind_one k ks ls Effect.Quiet h = ap (λ (l : List Kind). k ∷ l) h
behind_one k ks ls Effect.Failure h = tt
behind_one k ks ls (Effect.Count kind given) h = absurd (false≢true h.0)

-- the mark is at the command's own tag
becomes_front : (front : Bool) (h : OpenCommand) (hs : List OpenCommand) (m : Mark) (s : Stage) (b : Bool) → is_failed h.stage ≡ b
    → judged front h.kind h.stage m ≡ Becomes s
    → Fronted front (live_kinds (h ∷ hs)) (live_kinds (staged h s ∷ hs)) Effect.Quiet
becomes_front front h hs m s true failed v =
    let still : s ≡ Stage.Failed = failed_stays front h.kind m s
    (ap (λ (x : Stage). judged front h.kind x m) (sym (is_failed-true h.stage failed)) ∙ v) in
    live_failed (staged h s) hs (ap is_failed still) ∙ sym (live_failed h hs failed)
becomes_front front h hs m s false calm v = live_calm (staged h s) hs (becomes_calm front h.kind h.stage m s calm v)
    ∙ sym (live_calm h hs calm)

closes_front : (front : Bool) (h : OpenCommand) (hs : List OpenCommand) (m : Mark) (b : Bool) → is_failed h.stage ≡ b
    → judged front h.kind h.stage m ≡ Closes
    → Fronted front (live_kinds (h ∷ hs)) (live_kinds hs) Effect.Quiet
closes_front front h hs m true failed v = sym (live_failed h hs failed)
closes_front front h hs m false calm v = absurd (no_closes front h.kind h.stage m calm v)

counts_front : (front : Bool) (h : OpenCommand) (hs : List OpenCommand) (m : Mark) (given : Option Datum) (b : Bool) → is_failed h.stage ≡ b
    → IsFilled h.kind h.stage → judged front h.kind h.stage m ≡ Counts given
    → Fronted front (live_kinds (h ∷ hs)) (live_kinds hs) (Effect.Count h.kind given)
counts_front front h hs m given true failed filled v = absurd (never_counts front h.kind m given
    (ap (λ (x : Stage). judged front h.kind x m) (sym (is_failed-true h.stage failed)) ∙ v))
counts_front true h hs m given false calm filled v = (refl, live_calm h hs calm, counts_given h.kind h.stage m given filled v)
counts_front false h hs m given false calm filled v = absurd (no_counts h.kind h.stage m given v)

-- the mark follows it
past_front : (front : Bool) (h : OpenCommand) (hs rest : List OpenCommand) (e : Effect) (b : Bool) → is_failed h.stage ≡ b
    → Fronted (front && b) (live_kinds hs) (live_kinds rest) e
    → Fronted front (live_kinds (h ∷ hs)) (live_kinds (h ∷ rest)) e
past_front front h hs rest e true failed later =
    subst (λ (f : Bool). Fronted f (live_kinds (h ∷ hs)) (live_kinds (h ∷ rest)) e) (and-true front)
    (subst (λ (ks : List Kind). Fronted (front && true) ks (live_kinds (h ∷ rest)) e) (sym (live_failed h hs failed))
    (subst (λ (ls : List Kind). Fronted (front && true) (live_kinds hs) ls e) (sym (live_failed h rest failed)) later))
past_front front h hs rest e false calm later =
    looser front (live_kinds (h ∷ hs)) (live_kinds (h ∷ rest)) e
    (subst (λ (ks : List Kind). Fronted false ks (live_kinds (h ∷ rest)) e) (sym (live_calm h hs calm))
    (subst (λ (ls : List Kind). Fronted false (h.kind ∷ live_kinds hs) ls e) (sym (live_calm h rest calm))
    (behind_one h.kind (live_kinds hs) (live_kinds rest) e (subst (λ (f : Bool). Fronted f (live_kinds hs) (live_kinds rest) e)
    (and_false front) later))))
  where
    looser : (f : Bool) (ks ls : List Kind) (x : Effect) → Fronted false ks ls x → Fronted f ks ls x
    looser f ks ls Effect.Quiet g = g
    looser f ks ls Effect.Failure g = tt
    looser f ks ls (Effect.Count k given) g = absurd (false≢true g.0)

pub fronted : (front : Bool) (hs : List OpenCommand) (t : Tag) (m : Mark) (gs : List OpenCommand) (e : Effect)
    → heard_in front hs t m ≡ two gs e
    → AreFilled hs → Fronted front (live_kinds hs) (live_kinds gs) e
fronted front [] t m gs e is filled = absurd (cc)
fronted front (h ∷ hs) t m gs e is filled =
    heard_cases front h hs t m gs e (Fronted front (live_kinds (h ∷ hs)) (live_kinds gs) e) is
    (λ s same v g f. rw (g, f) (becomes_front front h hs m s (is_failed h.stage) refl v))
    (λ same v g f. rw f tt)
    (λ same v g f. rw (g, f) (closes_front front h hs m (is_failed h.stage) refl v))
    (λ given same v g f. rw (g, f) (counts_front front h hs m given (is_failed h.stage) refl filled.0 v))
    (λ rest other later g. rw g (past_front front h hs rest e (is_failed h.stage) refl
    (fronted (front && is_failed h.stage) hs t m rest e later filled.1)))

-- if no command is open, no command is left that has not failed
pub none_live : (hs : List OpenCommand) → count_open hs ≡ 0 → live_kinds hs ≡ []
none_live [] e = refl
none_live (h ∷ hs) e = go (is_failed h.stage) refl (none_live hs)
  where
    go : (b : Bool) → is_failed h.stage ≡ b → (count_open hs ≡ 0 → live_kinds hs ≡ []) → live_kinds (h ∷ hs) ≡ []
    go true failed others = live_failed h hs failed ∙ others (sym
        (if_true {A = ℕ} (is_failed h.stage) (count_open hs) (suc (count_open hs)) failed) ∙ e)
    go false calm others = let more : suc (count_open hs) ≡ 0 =
        sym (if_false {A = ℕ} (is_failed h.stage) (count_open hs) (suc (count_open hs)) calm) ∙ e in absurd (cc)

-- a command that was just sent is the last of them
pub live_more : (hs : List OpenCommand) (x : OpenCommand) → is_failed x.stage ≡ false
    → live_kinds (hs ++ x ∷ []) ≡ live_kinds hs ++ x.kind ∷ []
live_more [] x calm = live_calm x [] calm
live_more (h ∷ hs) x calm = go (is_failed h.stage) refl (live_more hs x calm)
  where
    go : (b : Bool) → is_failed h.stage ≡ b → live_kinds (hs ++ x ∷ []) ≡ live_kinds hs ++ x.kind ∷ []
        → live_kinds (h ∷ (hs ++ x ∷ [])) ≡ live_kinds (h ∷ hs) ++ x.kind ∷ []
    go true failed others = live_failed h (hs ++ x ∷ []) failed
        ∙ (others ∙ ap (λ (l : List Kind). l ++ x.kind ∷ []) (sym (live_failed h hs failed)))
    go false live others = live_calm h (hs ++ x ∷ []) live ∙ (ap (λ (l : List Kind). h.kind ∷ l) others
        ∙ ap (λ (l : List Kind). l ++ x.kind ∷ []) (sym (live_calm h hs live)))

-- ---- the data that they were given

-- they still are those that are asked for
pub stay_filled : (front : Bool) (hs : List OpenCommand) (t : Tag) (m : Mark) (gs : List OpenCommand) (e : Effect)
    → heard_in front hs t m ≡ two gs e
    → AreFilled hs → AreFilled gs
stay_filled front [] t m gs e is filled = absurd (cc)
stay_filled front (h ∷ hs) t m gs e is filled =
    heard_cases front h hs t m gs e (AreFilled gs) is
    (λ s same v g f. rw g (becomes_filled front h.kind h.stage m s v, filled.1))
    (λ same v g f. rw g (tt, filled.1))
    (λ same v g f. rw g filled.1)
    (λ given same v g f. rw g filled.1)
    (λ rest other later g. rw g (filled.0, stay_filled (front && is_failed h.stage) hs t m rest e later filled.1))

-- a command that was just sent has none
pub filled_more : (hs : List OpenCommand) (x : OpenCommand) → AreFilled hs → IsFilled x.kind x.stage → AreFilled (hs ++ x ∷ [])
filled_more [] x h one = (one, tt)
filled_more (y ∷ hs) x h one = (h.0, filled_more hs x h.1 one)

-- ---- the question whether the machine is homed

-- one of these kinds asks it
abbrev pub ask : List Kind → Bool
ask [] = false
ask (k ∷ ks) = asks_homed k || ask ks

-- if it is not open, no command that has not failed asks it
pub none_asks : (hs : List OpenCommand) → is_asking hs ≡ false → ask (live_kinds hs) ≡ false
none_asks [] e = refl
none_asks (h ∷ hs) e =
    let a : AskNothing h hs = ask_nothing h hs e in
    go (is_failed h.stage) refl a.first (none_asks hs a.others)
  where
    go : (b : Bool) → is_failed h.stage ≡ b → (asks_homed h.kind && not (is_failed h.stage)) ≡ false → ask (live_kinds hs) ≡ false
        → ask (live_kinds (h ∷ hs)) ≡ false
    go true failed first others = ap ask (live_failed h hs failed) ∙ others
    go false calm first others = ap ask (live_calm h hs calm)
        ∙ (ap (λ (b : Bool). b || ask (live_kinds hs)) (sym (and-true (asks_homed h.kind))
        ∙ (ap (λ (b : Bool). asks_homed h.kind && not b) (sym calm) ∙ first)) ∙ others)

-- no command follows the question
abbrev pub IsAskedLast : List Kind → Type 0
IsAskedLast [] = Unit {0}
IsAskedLast (k ∷ ks) = (asks_homed k ≡ true → ks ≡ []) × IsAskedLast ks

pub asked_last : (ks : List Kind) (k : Kind) → ask ks ≡ false → IsAskedLast (ks ++ k ∷ [])
asked_last [] k e = (λ asks. refl, tt)
asked_last (x ∷ ks) k e =
    let none = neither (asks_homed x) (ask ks) e in
    (λ is. absurd (false≢true (sym none.0 ∙ is)), asked_last ks k none.1)
  where
    neither : (a b : Bool) → (a || b) ≡ false → (a ≡ false) × (b ≡ false)
    neither true b e = absurd (false≢true (sym e))
    neither false b e = (refl, e)
