-- The kinds of commands are all in the table.
use Rattle.dme_line.proofs.Names.{[], ◌∙◌, ◌∷◌, ◌≡◌, Bool, cond, false, false≢true, find, Kind, List, MatchOption, None, Option, refl, Some, subst}
use Rattle.dme_line.proofs.Names.{sym, true}
use Rattle.dme_line.specs.declared.commands.Kind.TheVariants.{ClearAllErrors, EndSession, GoTo, Home, IsHomed, OnPtMeasReport, StartSession}
use Rattle.dme_line.specs.declared.commands.Kind.TheVariants.{AbortE, ChangeTool, PtMeas, SetCoordSystem, SetCsyTransformation}
use Rattle.dme_line.specs.declared.reading.TheConstants.{KINDS}

abbrev NoneOf : (Kind → Bool) → List Kind → Type 0
NoneOf p [] = Unit {0}
NoneOf p (k ∷ ks) = (p k ≡ false) × NoneOf p ks

found_step : (p : Kind → Bool) (k : Kind) (ks : List Kind) (b : Bool) (o : Option Kind) → p k ≡ b → o ≡ cond b (Some k) (find p ks)
    → ((q : Option Kind) → q ≡ find p ks → MatchOption q (NoneOf p ks) (λ l. p l ≡ true))
    → MatchOption o ((p k ≡ false) × NoneOf p ks) (λ l. p l ≡ true)
found_step p k ks true o e f g = subst (λ (q : Option Kind). MatchOption q ((p k ≡ false) × NoneOf p ks) (λ l. p l ≡ true)) (sym f) e
found_step p k ks false None e f g = (e, g None f)
found_step p k ks false (Some l) e f g = g (Some l) f

found_in : (p : Kind → Bool) (ks : List Kind) (o : Option Kind) → o ≡ find p ks → MatchOption o (NoneOf p ks) (λ l. p l ≡ true)
found_in p [] o f = subst (λ (q : Option Kind). MatchOption q (Unit {0}) (λ l. p l ≡ true)) (sym f) tt
found_in p (k ∷ ks) o f = found_step p k ks (p k) o refl f (λ q e. found_in p ks q e)

not_so : (b : Bool) → b ≡ false → b ≡ true → ⊥
not_so b e h = false≢true (sym e ∙ h)

each_kind : (p : Kind → Bool) → NoneOf p KINDS → (k : Kind) → p k ≡ true → ⊥
each_kind p h StartSession = not_so (p StartSession) h.0
each_kind p h EndSession = not_so (p EndSession) h.1.0
each_kind p h ClearAllErrors = not_so (p ClearAllErrors) h.1.1.0
each_kind p h IsHomed = not_so (p IsHomed) h.1.1.1.0
each_kind p h Home = not_so (p Home) h.1.1.1.1.0
each_kind p h OnPtMeasReport = not_so (p OnPtMeasReport) h.1.1.1.1.1.0
each_kind p h GoTo = not_so (p GoTo) h.1.1.1.1.1.1.0
each_kind p h PtMeas = not_so (p PtMeas) h.1.1.1.1.1.1.1.0
each_kind p h ChangeTool = not_so (p ChangeTool) h.1.1.1.1.1.1.1.1.0
each_kind p h SetCsyTransformation = not_so (p SetCsyTransformation) h.1.1.1.1.1.1.1.1.1.0
each_kind p h SetCoordSystem = not_so (p SetCoordSystem) h.1.1.1.1.1.1.1.1.1.1.0
each_kind p h AbortE = not_so (p AbortE) h.1.1.1.1.1.1.1.1.1.1.1.0

none_of_kinds : (p : Kind → Bool) (o : Option Kind) → MatchOption o (NoneOf p KINDS) (λ k. p k ≡ true)
    → MatchOption o ((k : Kind) → p k ≡ true → ⊥) (λ k. p k ≡ true)
none_of_kinds p None h = each_kind p h
none_of_kinds p (Some k) h = h

pub kind_found : (p : Kind → Bool) (o : Option Kind) → o ≡ find p KINDS → MatchOption o ((k : Kind) → p k ≡ true → ⊥) (λ k. p k ≡ true)
kind_found p o f = none_of_kinds p o (found_in p KINDS o f)
