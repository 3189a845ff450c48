-- The answers that words give, one after the other.
use Rattle.dme_words.proofs.Names.{[], ◌∷◌, ◌≡◌, ◌∙◌, Err, List, None, Ok, Option, Result, Some, Text, refl, sym}
use Rattle.std.proofs.Common.{◌++◌, append_assoc}
use Rattle.program_lowering.specs.Prompts.{Answer}
use Rattle.dme_words.specs.Answers.{AddsAnswers, HasNoAnswer, and_others}
use Rattle.dme_words.specs.declared.words.Wanted.{Wanted}
use Rattle.dme_words.specs.declared.words.Wanted.TheVariants as wanted
use Rattle.dme_words.specs.declared.words.WordsFault.{WordsFault}
use Rattle.dme_words.specs.declared.words.WordsFault.TheVariants.{Control, Line, Memory, Misfits, NoValue}

pub adds_one : (old middle new : List Answer) (word : Text) (given : Option Answer) (answer : Answer) (others : Result (List Answer) Text)
    → given ≡ Some answer → middle ≡ old ++ answer ∷ [] → AddsAnswers middle new others → AddsAnswers old new (and_others word given others)
adds_one old middle new word given answer (Ok answers) is one adds = rw (is, adds, one) (append_assoc old (answer ∷ []) answers)
adds_one old middle new word given answer (Err bad) is one adds = absurd adds

pub refuses_later : (word : Text) (given : Option Answer) (answer : Answer) (others : Result (List Answer) Text) (fault : WordsFault)
    → given ≡ Some answer → HasNoAnswer others fault → HasNoAnswer (and_others word given others) fault
refuses_later word given answer others fault is none = rw is (go others fault none)
  where
    go : (others : Result (List Answer) Text) (fault : WordsFault) → HasNoAnswer others fault → HasNoAnswer (and_others word (Some answer) others) fault
    go others Memory none = tt
    go others (NoValue wanted.Answer bad) none = rw none refl
    go others (NoValue wanted.Code bad) none = none
    go others (NoValue wanted.Form bad) none = none
    go others (NoValue wanted.FindingForm bad) none = none
    go others (NoValue wanted.SummaryForm bad) none = none
    go others (NoValue wanted.Separator bad) none = none
    go others (NoValue wanted.Sign bad) none = none
    go others (NoValue (wanted.Seconds option) bad) none = none
    go others (NoValue (wanted.Name option) bad) none = none
    go others (Line error) none = none
    go others (Control shown) none = none
    go others (Misfits why) none = none

pub only_added : (new : List Answer) (given : Result (List Answer) Text) → AddsAnswers [] new given → given ≡ Ok new
only_added new (Ok answers) adds = rw adds refl
only_added new (Err bad) adds = absurd adds

pub ruleset added = (adds_one, refuses_later)

pub ruleset all_added = (only_added)
