-- The tag that is drawn next, by the sort of tags.
use Rattle.dme_tags.proofs.Names.{◌∙◌, ◌≡◌, ap, AreSpent, Bool, cond, Event, is_event_kind, is_event_sort, is_held, IsSpentFor, Kind, List}
use Rattle.dme_tags.proofs.Names.{next_number, next_tag, numbered, OpenCommand, OpenValue, Option, Std, sym, Tag, tagged, true≢false, ℕ}
use Rattle.dme_tags.specs.declared.drawing.Sort.{Sort}

pub next_standard : (o : OpenValue) (kind : Kind) (s : Sort) (hs : List OpenCommand) (d : ℕ) (r : Option Tag)
    → is_event_sort s ≡ is_event_kind kind
    → s ≡ Sort.Standard
    → hs ≡ o.standard → d ≡ o.drawn → tagged (numbered Sort.Standard) (next_number (numbered Sort.Standard) hs d) ≡ r → next_tag o kind ≡ r
next_standard o kind s hs d r same is held last e =
    ap (λ (b : Bool). cond b (tagged Event (next_number Event o.event o.event_drawn)) (tagged Std (next_number Std o.standard o.drawn)))
    (sym same ∙ ap is_event_sort is)
    ∙ ap (λ (gs : List OpenCommand). tagged Std (next_number Std gs o.drawn)) (sym held)
    ∙ ap (λ (n : ℕ). tagged Std (next_number Std hs n)) (sym last) ∙ e

pub next_event : (o : OpenValue) (kind : Kind) (s : Sort) (hs : List OpenCommand) (d : ℕ) (r : Option Tag)
    → is_event_sort s ≡ is_event_kind kind
    → s ≡ Sort.Event
    → hs ≡ o.event → d ≡ o.event_drawn → tagged (numbered Sort.Event) (next_number (numbered Sort.Event) hs d) ≡ r → next_tag o kind ≡ r
next_event o kind s hs d r same is held last e =
    ap (λ (b : Bool). cond b (tagged Event (next_number Event o.event o.event_drawn)) (tagged Std (next_number Std o.standard o.drawn)))
    (sym same ∙ ap is_event_sort is)
    ∙ ap (λ (gs : List OpenCommand). tagged Event (next_number Event gs o.event_drawn)) (sym held)
    ∙ ap (λ (n : ℕ). tagged Event (next_number Event hs n)) (sym last) ∙ e

pub spent_standard : (o : OpenValue) (kind : Kind) (s : Sort) (hs : List OpenCommand) → is_event_sort s ≡ is_event_kind kind
    → s ≡ Sort.Standard
    → hs ≡ o.standard
    → AreSpent Sort.Standard hs → IsSpentFor kind o
spent_standard o kind s hs same is held all (Std n) of within = ap (is_held (Std n)) (sym held) ∙ all n of.numbered.0 within
spent_standard o kind s hs same is held all (Event n) of within = absurd (true≢false (of.sort ∙ sym same ∙ ap is_event_sort is))

pub spent_event : (o : OpenValue) (kind : Kind) (s : Sort) (hs : List OpenCommand) → is_event_sort s ≡ is_event_kind kind → s ≡ Sort.Event
    → hs ≡ o.event
    → AreSpent Sort.Event hs → IsSpentFor kind o
spent_event o kind s hs same is held all (Std n) of within = absurd (true≢false (sym (of.sort ∙ sym same ∙ ap is_event_sort is)))
spent_event o kind s hs same is held all (Event n) of within = ap (is_held (Event n)) (sym held) ∙ all n of.numbered.0 within
