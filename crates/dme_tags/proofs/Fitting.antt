-- Open commands have the data that they ask for, and no other.
use Rattle.dme_tags.proofs.Names.{[], ◌&&◌, ◌++◌, ◌||◌, ◌∙◌, ◌∷◌, ◌≡◌, and_parts, ap, AreFit, asks_data, Becomes, Bool, Counts, Datum, Effect}
use Rattle.dme_tags.proofs.Names.{effect_heard, effect_of, Ended, Err, false, false≢true, fits, fits_asks, has_its_data, Heard, heard_cases, heard_in}
use Rattle.dme_tags.proofs.Names.{is_failed, is_fit, judged, judged_ack, judged_done, judged_error, judged_given, Kind, List, Mark, may_be_given}
use Rattle.dme_tags.proofs.Names.{None, not, Ok, OpenCommand, Option, refl, Some, Stage, sym, Tag, true, two}

-- data that may be given to a command are those that it asks for, where it asks for any
pub asked : (k : Kind) (d : Datum) → may_be_given (Some k) d ≡ true → fits k d ≡ asks_data k
asked k d h = go (asks_data k) refl (fits k d) refl h
  where
    go : (a : Bool) → asks_data k ≡ a → (f : Bool) → fits k d ≡ f → (not a || f) ≡ true → fits k d ≡ asks_data k
    go true asks true fit h = fit ∙ sym asks
    go true asks false fit h = absurd (false≢true h)
    go false asks true fit h = absurd (false≢true (sym asks ∙ fits_asks k d fit))
    go false asks false fit h = fit ∙ sym asks

-- ---- a mark keeps that

fit_ack : (k : Kind) (s x : Stage) → judged_ack s ≡ Becomes x → is_fit k x ≡ true
fit_ack k Stage.Sent x e = let same : x ≡ Stage.Received = cc in ap (is_fit k) same
fit_ack k Stage.Received x e = absurd (cc)
fit_ack k (Stage.Given d) x e = absurd (cc)
fit_ack k Stage.Failed x e = absurd (cc)

fit_given : (k : Kind) (d : Datum) (b : Bool) (s x : Stage) → (b ≡ true → fits k d ≡ true) → judged_given b s d ≡ Becomes x
    → is_fit k x ≡ true
fit_given k d true Stage.Sent x fit e = absurd (cc)
fit_given k d true Stage.Received x fit e = let same : x ≡ Stage.Given d = cc in ap (is_fit k) same ∙ fit refl
fit_given k d true (Stage.Given q) x fit e = absurd (cc)
fit_given k d true Stage.Failed x fit e = absurd (cc)
fit_given k d false s x fit e = absurd (cc)

fit_error : (k : Kind) (s x : Stage) → judged_error s ≡ Becomes x → is_fit k x ≡ true
fit_error k Stage.Sent x e = absurd (cc)
fit_error k Stage.Received x e = absurd (cc)
fit_error k (Stage.Given d) x e = absurd (cc)
fit_error k Stage.Failed x e = let same : x ≡ Stage.Failed = cc in ap (is_fit k) same

fit_done : (k : Kind) (b a : Bool) (s x : Stage) → judged_done b a s ≡ Becomes x → is_fit k x ≡ true
fit_done k true true Stage.Sent x e = absurd (cc)
fit_done k true true Stage.Received x e = absurd (cc)
fit_done k true true (Stage.Given d) x e = absurd (cc)
fit_done k true true Stage.Failed x e = absurd (cc)
fit_done k true false Stage.Sent x e = absurd (cc)
fit_done k true false Stage.Received x e = absurd (cc)
fit_done k true false (Stage.Given d) x e = absurd (cc)
fit_done k true false Stage.Failed x e = absurd (cc)
fit_done k false a Stage.Sent x e = absurd (cc)
fit_done k false a Stage.Received x e = absurd (cc)
fit_done k false a (Stage.Given d) x e = absurd (cc)
fit_done k false a Stage.Failed x e = absurd (cc)

fit_becomes : (front : Bool) (k : Kind) (s x : Stage) (m : Mark) → judged front k s m ≡ Becomes x → is_fit k x ≡ true
fit_becomes front k s x Mark.Ack e = fit_ack k s x e
fit_becomes front k s x (Mark.Given d) e = fit_given k d (front && fits k d) s x (λ b. (and_parts front (fits k d) b).1) e
fit_becomes front k s x Mark.Error e = fit_error k s x e
fit_becomes front k s x Mark.Done e = fit_done k front (asks_data k) s x e

pub fit_heard : (front : Bool) (hs gs : List OpenCommand) (t : Tag) (m : Mark) (e : Effect) → heard_in front hs t m ≡ Ok (gs, e)
    → AreFit hs → AreFit gs
fit_heard front [] gs t m e is fit = absurd (cc)
fit_heard front (h ∷ hs) gs t m e is fit =
    heard_cases front h hs t m gs e (AreFit gs) is
    (λ s same v g f. rw g (fit_becomes front h.kind h.stage s m v, fit.1))
    (λ same v g f. rw g (refl, fit.1))
    (λ same v g f. rw g fit.1)
    (λ given same v g f. rw g fit.1)
    (λ rest other later g. rw g (fit.0, fit_heard (front && is_failed h.stage) hs rest t m e later fit.1))

-- ---- what is counted has its data

fit_counts : (k : Kind) (b a : Bool) (s : Stage) (given : Option Datum) → asks_data k ≡ a → judged_done b a s ≡ Counts given
    → is_fit k s ≡ true → has_its_data (Ended.Counted k given) ≡ true
fit_counts k true true Stage.Sent given is e fit = absurd (cc)
fit_counts k true true Stage.Received given is e fit = absurd (cc)
fit_counts k true true (Stage.Given d) given is e fit = let same : given ≡ Some d = cc
    in ap (λ (x : Option Datum). has_its_data (Ended.Counted k x)) same ∙ fit
fit_counts k true true Stage.Failed given is e fit = absurd (cc)
fit_counts k true false Stage.Sent given is e fit = absurd (cc)
fit_counts k true false Stage.Received given is e fit = let same : given ≡ None = cc
    in ap (λ (x : Option Datum). has_its_data (Ended.Counted k x)) same ∙ ap not is
fit_counts k true false (Stage.Given d) given is e fit = let same : given ≡ Some d = cc
    in ap (λ (x : Option Datum). has_its_data (Ended.Counted k x)) same ∙ fit
fit_counts k true false Stage.Failed given is e fit = absurd (cc)
fit_counts k false a Stage.Sent given is e fit = absurd (cc)
fit_counts k false a Stage.Received given is e fit = absurd (cc)
fit_counts k false a (Stage.Given d) given is e fit = absurd (cc)
fit_counts k false a Stage.Failed given is e fit = absurd (cc)

quiet_end : (x : Ended) → effect_of x ≡ Effect.Quiet → has_its_data x ≡ true
quiet_end (Ended.Counted k given) e = absurd (cc)
quiet_end Ended.Closed e = refl

no_failure : (x : Ended) → effect_of x ≡ Effect.Failure → has_its_data x ≡ true
no_failure (Ended.Counted k given) e = absurd (cc)
no_failure Ended.Closed e = absurd (cc)

counted_end : (x : Ended) (k : Kind) (given : Option Datum) → effect_of x ≡ Effect.Count k given
    → has_its_data (Ended.Counted k given) ≡ true → has_its_data x ≡ true
counted_end (Ended.Counted j other) k given e fit =
    let kinds : j ≡ k = cc in
    let datums : other ≡ given = cc in
    ap (λ (x : Kind). has_its_data (Ended.Counted x other)) kinds
    ∙ (ap (λ (x : Option Datum). has_its_data (Ended.Counted k x)) datums ∙ fit)
counted_end Ended.Closed k given e fit = refl

data_at_end : (front : Bool) (hs gs : List OpenCommand) (t : Tag) (x : Ended) → heard_in front hs t Mark.Done ≡ Ok (gs, effect_of x)
    → AreFit hs
    → has_its_data x ≡ true
data_at_end front [] gs t x is fit = absurd (cc)
data_at_end front (h ∷ hs) gs t x is fit =
    heard_cases front h hs t Mark.Done gs (effect_of x) (has_its_data x ≡ true) is
    (λ s same v g f. quiet_end x f)
    (λ same v g f. no_failure x f)
    (λ same v g f. quiet_end x f)
    (λ given same v g f. counted_end x h.kind given f (fit_counts h.kind front (asks_data h.kind) h.stage given refl v fit.0))
    (λ rest other later g. data_at_end (front && is_failed h.stage) hs rest t x later fit.1)

pub data_heard : (front : Bool) (hs : List OpenCommand) (t : Tag) (x : Ended)
    → effect_heard (heard_in front hs t Mark.Done) ≡ Some (effect_of x)
    → AreFit hs → has_its_data x ≡ true
data_heard front hs t x is fit = go (heard_in front hs t Mark.Done) refl is
  where
    go : (r : Heard) → heard_in front hs t Mark.Done ≡ r → effect_heard r ≡ Some (effect_of x) → has_its_data x ≡ true
    go (Ok (gs, e)) heard_is some =
        let same : e ≡ effect_of x = cc in
        data_at_end front hs gs t x (heard_is ∙ ap (λ (f : Effect). two gs f) same) fit
    go (Err why) heard_is some = absurd (cc)

-- a command more that was just sent
pub fit_sent : (hs : List OpenCommand) (h : OpenCommand) → h.stage ≡ Stage.Sent → AreFit hs → AreFit (hs ++ h ∷ [])
fit_sent [] h sent fit = (ap (is_fit h.kind) sent, tt)
fit_sent (g ∷ gs) h sent fit = (fit.0, fit_sent gs h sent fit.1)
