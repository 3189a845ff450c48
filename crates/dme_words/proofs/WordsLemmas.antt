-- The order of a subcommand, from its name and its values.
use Rattle.dme_words.proofs.Names.{[], ◌∙◌, ◌≡◌, ◌≢◌, ap, App, Asks, AsksForNothing, Err, FailsBy, fault_of, HasFault, HasKind, HasMatchesOf}
use Rattle.dme_words.proofs.Names.{HasNoValue, IfErr, IfOk, inl, inr, is_simple, IsAmong, IsAskable, IsCalled, IsErrAnd, IsOrderOf, IsRefusal}
use Rattle.dme_words.proofs.Names.{IsRefusedOf, IsSomeAnd, kind_of, List, None, Ok, Option, refl, Result, Row, Some, subcommand_of}
use Rattle.dme_words.proofs.Names.{subcommand_rows_of, subst, sym, Text, whole_line}
use Rattle.std.specs.Prelude.{String}
use Rattle.std.specs.declared.alloc.Global.{Global}
use Rattle.clap.specs.declared.parser.matches.ArgMatches.{ArgMatches}
use Rattle.dme_words.specs.declared.orders.Order.{Order}
use Rattle.dme_words.specs.declared.words.WordsFault.{WordsFault}
use Rattle.dme_words.specs.declared.words.WordsFault.TheVariants.{Control, Line, Memory, Misfits, NoValue}
use Rattle.clap.specs.declared.error.Error.{Error}
use Rattle.clap.specs.declared.error.kind.ErrorKind.TheVariants.{OutOfMemory}
use Rattle.dme_words.proofs.AskedLemmas.{asked}

-- what a parse has found may be asked for
found_askable : (a : App) (words : List Text) (m : ArgMatches) → a ≡ whole_line → FailsBy {T = ArgMatches} (fault_of a words) (Ok m)
    → HasMatchesOf a words m → IsSomeAnd (subcommand_rows_of m) IsAskable
found_askable a words m is none has = subst (λ (found : Option (Text × List Row)). IsSomeAnd found IsAskable)
    (sym ((has (ap is_simple is ∙ refl)).1 ∙ ap (λ (x : App). subcommand_of x words) is))
    (asked words (subst (λ (x : App). fault_of x words ≡ []) is none))

-- likewise for an answer of either kind
pub names_askable : (a : App) (words : List Text) (answer : Result ArgMatches Error) → a ≡ whole_line
    → FailsBy (fault_of a words) answer → IfOk answer (HasMatchesOf a words)
    → IfOk answer (λ m. IsSomeAnd (subcommand_rows_of m) IsAskable)
names_askable a words (Ok m) is none has = found_askable a words m is none has
names_askable a words (Err e) is kinds has = tt

of_this : (a : App) (words : List Text) (error told : Error) → a ≡ whole_line → HasKind (fault_of a words) error
    → (kind_of error ≢ OutOfMemory) → told ≡ error → HasFault words told
of_this a words error told is (inl memory) other same = absurd (other memory)
of_this a words error told is (inr among) other same = rw same
    (record { fault = subst (λ (x : App). IsAmong (kind_of error) (fault_of x words)) is among; told = other })

-- a subcommand that a parse has found asks for nothing
has_no_value : (a : App) (words : List Text) (m : ArgMatches) (fault : WordsFault) → a ≡ whole_line → fault_of a words ≡ []
    → HasMatchesOf a words m → AsksForNothing (subcommand_rows_of m) fault → HasNoValue words fault
has_no_value a words m fault is none has asks = record {
  faultless = subst (λ (x : App). fault_of x words ≡ []) is none;
  named = subst (λ (found : Option (Text × List Row)). AsksForNothing found fault) ((has (ap is_simple is ∙ refl)).1
      ∙ ap (λ (x : App). subcommand_of x words) is) asks;
}

-- no subcommand is refused for a bad line, or for a control character
no_line : (p : Text × List Row) (told : Error) → IsRefusedOf p (Line told) → ⊥
no_line p told (inl none) = none
no_line p told (inr (inl (is, none))) = none
no_line p told (inr (inr (inl (is, none)))) = none
no_line p told (inr (inr (inr (inl (is, inl (inl none)))))) = none
no_line p told (inr (inr (inr (inl (is, inl (inr (inl none))))))) = none
no_line p told (inr (inr (inr (inl (is, inl (inr (inr (inl none)))))))) = none
no_line p told (inr (inr (inr (inl (is, inl (inr (inr (inr none)))))))) = none
no_line p told (inr (inr (inr (inl (is, inr none))))) = none
no_line p told (inr (inr (inr (inr (inl (is, none)))))) = none
no_line p told (inr (inr (inr (inr (inr (inl (is, inl none))))))) = none
no_line p told (inr (inr (inr (inr (inr (inl (is, inr (inl none)))))))) = none
no_line p told (inr (inr (inr (inr (inr (inl (is, inr (inr none)))))))) = none
no_line p told (inr (inr (inr (inr (inr (inr (inl (is, none)))))))) = none
no_line p told (inr (inr (inr (inr (inr (inr (inr (inl (is, none))))))))) = none
no_line p told (inr (inr (inr (inr (inr (inr (inr (inr (inl (is, none)))))))))) = none
no_line p told (inr (inr (inr (inr (inr (inr (inr (inr (inr (is, none)))))))))) = none

no_control : (p : Text × List Row) (shown : String Global) → IsRefusedOf p (Control shown) → ⊥
no_control p shown (inl none) = none
no_control p shown (inr (inl (is, none))) = none
no_control p shown (inr (inr (inl (is, none)))) = none
no_control p shown (inr (inr (inr (inl (is, inl (inl none)))))) = none
no_control p shown (inr (inr (inr (inl (is, inl (inr (inl none))))))) = none
no_control p shown (inr (inr (inr (inl (is, inl (inr (inr (inl none)))))))) = none
no_control p shown (inr (inr (inr (inl (is, inl (inr (inr (inr none)))))))) = none
no_control p shown (inr (inr (inr (inl (is, inr none))))) = none
no_control p shown (inr (inr (inr (inr (inl (is, none)))))) = none
no_control p shown (inr (inr (inr (inr (inr (inl (is, inl none))))))) = none
no_control p shown (inr (inr (inr (inr (inr (inl (is, inr (inl none)))))))) = none
no_control p shown (inr (inr (inr (inr (inr (inl (is, inr (inr none)))))))) = none
no_control p shown (inr (inr (inr (inr (inr (inr (inl (is, none)))))))) = none
no_control p shown (inr (inr (inr (inr (inr (inr (inr (inl (is, none))))))))) = none
no_control p shown (inr (inr (inr (inr (inr (inr (inr (inr (inl (is, none)))))))))) = none
no_control p shown (inr (inr (inr (inr (inr (inr (inr (inr (inr (is, none)))))))))) = none

none_called : (found : Option (Text × List Row)) (told : Error) → AsksForNothing found (Line told) → ⊥
none_called None told asks = asks
none_called (Some p) told asks = no_line p told asks

none_controlled : (found : Option (Text × List Row)) (shown : String Global) → AsksForNothing found (Control shown) → ⊥
none_controlled None shown asks = asks
none_controlled (Some p) shown asks = no_control p shown asks

refused_value : (a : App) (words : List Text) (m : ArgMatches) (fault : WordsFault) → a ≡ whole_line → fault_of a words ≡ []
    → HasMatchesOf a words m → AsksForNothing (subcommand_rows_of m) fault → IsRefusal words fault
refused_value a words m (Line told) is none has asks = absurd (none_called (subcommand_rows_of m) told asks)
refused_value a words m (Control shown) is none has asks = absurd (none_controlled (subcommand_rows_of m) shown asks)
refused_value a words m Memory is none has asks = tt
refused_value a words m (NoValue wanted text) is none has asks = has_no_value a words m (NoValue wanted text) is none has asks
refused_value a words m (Misfits why) is none has asks = has_no_value a words m (Misfits why) is none has asks

-- what is asked or refused, by the answer of a parse
pub asked_or_refused : (a : App) (words : List Text) (answer : Result ArgMatches Error) (result : Result Order WordsFault) → a ≡ whole_line
    → FailsBy (fault_of a words) answer → IfOk answer (HasMatchesOf a words)
    → IfOk answer (λ m. IfOk result (IsOrderOf (subcommand_rows_of m)))
    → IfOk answer (λ m. IfErr result (AsksForNothing (subcommand_rows_of m)))
    → IfErr answer (λ error. IsErrAnd result (IsCalled error))
    → IfOk result (Asks words) × IfErr result (IsRefusal words)
asked_or_refused a words (Ok m) (Ok order) is none has order_is taken called = (
  record {
    faultless = subst (λ (x : App). fault_of x words ≡ []) is none;
    named = subst (λ (found : Option (Text × List Row)). IsOrderOf found order) ((has (ap is_simple is ∙ refl)).1
        ∙ ap (λ (x : App). subcommand_of x words) is) order_is;
  },
  tt,
)
asked_or_refused a words (Ok m) (Err fault) is none has order_is taken called = (tt, refused_value a words m fault is none has taken)
asked_or_refused a words (Err error) (Ok order) is kinds has order_is taken called = absurd called
asked_or_refused a words (Err error) (Err (Line told)) is kinds has order_is taken called =
    (tt, of_this a words error told is kinds called.0 called.1)
asked_or_refused a words (Err error) (Err Memory) is kinds has order_is taken called = (tt, tt)
asked_or_refused a words (Err error) (Err (Control shown)) is kinds has order_is taken called = absurd called
asked_or_refused a words (Err error) (Err (NoValue wanted text)) is kinds has order_is taken called = absurd called
asked_or_refused a words (Err error) (Err (Misfits why)) is kinds has order_is taken called = absurd called
