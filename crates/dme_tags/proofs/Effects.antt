-- The effect of a mark, apart from the open commands, is the same on both sorts of tags.
use Rattle.dme_tags.proofs.Names.{◌∙◌, ◌≡◌, Effect, effect_heard, Err, Event, Heard, heard, heard_event, heard_in, heard_standard, Mark, not, Ok}
use Rattle.dme_tags.proofs.Names.{OpenValue, Option, refl, Std, true, ℕ}

on_standard : (o : OpenValue) (h : Heard) → effect_heard (heard_standard o h) ≡ effect_heard h
on_standard o (Ok (hs, effect)) = refl
on_standard o (Err cause) = refl

on_event : (o : OpenValue) (h : Heard) → effect_heard (heard_event o h) ≡ effect_heard h
on_event o (Ok (hs, effect)) = refl
on_event o (Err cause) = refl

pub standard_effect : (o : OpenValue) (n : ℕ) (m : Mark) (effect : Option Effect)
    → effect_heard (heard_in (not o.failed) o.standard (Std n) m) ≡ effect
    → effect_heard (heard o (Std n) m) ≡ effect
standard_effect o n m effect is = on_standard o (heard_in (not o.failed) o.standard (Std n) m) ∙ is

pub event_effect : (o : OpenValue) (n : ℕ) (m : Mark) (effect : Option Effect) → effect_heard (heard_in true o.event (Event n) m) ≡ effect
    → effect_heard (heard o (Event n) m) ≡ effect
event_effect o n m effect is = on_event o (heard_in true o.event (Event n) m) ∙ is
