-- A mark that is refused in the list of its sort of tags is refused by the open commands.
use Rattle.dme_tags.proofs.Names.{◌∙◌, ◌≡◌, ap, Cause, Event, heard, heard_event, heard_in, heard_standard, IsRefused, List, Mark, None, not}
use Rattle.dme_tags.proofs.Names.{OpenCommand, OpenValue, Option, Some, Std, sym, Tag, true, ℕ}

pub refused_standard : (o : OpenValue) (hs : List OpenCommand) (t : Tag) (n : ℕ) (m : Mark) (cause : Option Cause) → t ≡ Std n
    → hs ≡ o.standard
    → IsRefused (heard_in (not o.failed) hs t m) cause → IsRefused (heard o t m) cause
refused_standard o hs t n m None is held r = r
refused_standard o hs t n m (Some cause) is held r =
    ap (λ (u : Tag). heard o u m) is
    ∙ ap (heard_standard o) (ap (λ (gs : List OpenCommand). heard_in (not o.failed) gs (Std n) m) (sym held)
    ∙ ap (λ (u : Tag). heard_in (not o.failed) hs u m) (sym is) ∙ r)

pub refused_event : (o : OpenValue) (hs : List OpenCommand) (t : Tag) (n : ℕ) (m : Mark) (cause : Option Cause) → t ≡ Event n → hs ≡ o.event
    → IsRefused (heard_in true hs t m) cause → IsRefused (heard o t m) cause
refused_event o hs t n m None is held r = r
refused_event o hs t n m (Some cause) is held r =
    ap (λ (u : Tag). heard o u m) is
    ∙ ap (heard_event o) (ap (λ (gs : List OpenCommand). heard_in true gs (Event n) m) (sym held)
    ∙ ap (λ (u : Tag). heard_in true hs u m) (sym is)
    ∙ r)
