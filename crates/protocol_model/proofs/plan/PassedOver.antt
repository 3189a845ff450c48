-- A plan whose homing is skipped: it fits as before, and has the same touches.
use Rattle.protocol_model.proofs.Names.{[], ◌++◌, ◌∙◌, ◌∷◌, ◌≡◌, ap, Bool, Command, Does, false, false≢true, is_homing, List, passed_over, Planned}
use Rattle.protocol_model.proofs.Names.{refl, subst, sym, true, without_homing}
use Rattle.protocol_model.proofs.table.Basics.{if_true, if_false}
use Rattle.protocol_model.proofs.plan.Fitting.{Know, known_by, FitsOne, Fits, IsSane}
use Rattle.protocol_model.proofs.plan.Marks.{touch_in, touches_in, HasNoAbort}

-- the command that homes the machine
pub homing_is : (c : Command) → is_homing c ≡ true → c ≡ Command.Home
homing_is Command.Home e = refl
homing_is Command.StartSession e = absurd (false≢true e)
homing_is Command.EndSession e = absurd (false≢true e)
homing_is Command.ClearAllErrors e = absurd (false≢true e)
homing_is Command.IsHomed e = absurd (false≢true e)
homing_is Command.OnPtMeasReport e = absurd (false≢true e)
homing_is (Command.GoTo p) e = absurd (false≢true e)
homing_is (Command.PtMeas p d) e = absurd (false≢true e)
homing_is (Command.ChangeTool n) e = absurd (false≢true e)
homing_is (Command.SetCsyTransformation p) e = absurd (false≢true e)
homing_is (Command.SetCoordSystem system) e = absurd (false≢true e)
homing_is Command.AbortE e = absurd (false≢true e)

-- what holds of each suffix of a plan holds of it with the next homing skipped
pub passes : (P : List Planned → Type 0) → ((p : Planned) (ps : List Planned) → is_homing p.command ≡ true → P (p ∷ ps) → P ps)
    → (told : Bool) (ps : List Planned) → P ps → P (passed_over told ps)
passes P rest false ps h = h
passes P rest true [] h = h
passes P rest true (p ∷ ps) h = go (is_homing p.command) refl
  where
    go : (b : Bool) → is_homing p.command ≡ b → P (without_homing (p ∷ ps))
    go true e = subst P (sym (if_true {A = List Planned} (is_homing p.command) ps (p ∷ ps) e)) (rest p ps e h)
    go false e = subst P (sym (if_false {A = List Planned} (is_homing p.command) ps (p ∷ ps) e)) h

-- it fits
pub passed_fits : (k : Know) (told : Bool) (ps : List Planned) → Fits k ps → Fits k (passed_over told ps)
passed_fits k told ps h = passes (Fits k) (λ p qs e f. subst (λ (l : Know). Fits l qs)
    (ap (known_by k) (homing_is p.command e)) f.1) told ps h

-- it is sane
pub passed_sane : (told : Bool) (ps : List Planned) → IsSane ps → IsSane (passed_over told ps)
passed_sane told ps h = passes IsSane (λ p qs e f. f.1) told ps h

-- it has no abort
pub passed_no_abort : (told : Bool) (ps : List Planned) → HasNoAbort ps → HasNoAbort (passed_over told ps)
passed_no_abort told ps h = passes HasNoAbort (λ p qs e f. f.1) told ps h

-- it has the same touches
pub passed_touches : (k : Know) (told : Bool) (ps : List Planned) → Fits k ps → touches_in (passed_over told ps) ≡ touches_in ps
passed_touches k told ps h =
    (passes (λ qs. (touches_in qs ≡ touches_in ps) × Fits k qs) (λ p qs e f. (
      ap (λ (d : Does). touch_in d ++ touches_in qs) (sym (homes p e f.1.0)) ∙ f.0,
      subst (λ (l : Know). Fits l qs) (ap (known_by k) (homing_is p.command e)) f.1.1,
    )) told ps (refl, h)).0
  where
    homes : (p : Planned) → is_homing p.command ≡ true → FitsOne k p.command p.does → p.does ≡ Does.Homes
    homes p e f = subst (λ (c : Command). FitsOne k c p.does) (homing_is p.command e) f

-- if no command precedes what is unsent when the homing is skipped, the homing is skipped in what is unsent
pub passed_behind : (steps unsent : List Planned) (told : Bool) → (told ≡ true → steps ≡ [])
    → passed_over told (steps ++ unsent) ≡ steps ++ passed_over told unsent
passed_behind steps unsent false none = refl
passed_behind steps unsent true none = ap (λ (l : List Planned). without_homing (l ++ unsent)) (none refl)
    ∙ ap (λ (l : List Planned). l ++ without_homing unsent) (sym (none refl))
