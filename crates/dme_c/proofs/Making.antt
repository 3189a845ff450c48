-- Exactly one of the possible outcomes is due for texts, so the answer of a call that makes a core determines for each whether it is due.
use Rattle.dme_c.proofs.Names.{◌&&◌, ◌≡◌, AnswersJust, arith, Bool, ClientEnd, Err, false, Feature, inl, inr, is_window, IsBadFeatures, IsBadProgram}
use Rattle.dme_c.proofs.Names.{IsBadSetup, IsBadWindow, IsClientOf, IsErr, IsNotOurs, IsWhy, List, Meaning, Means, not, Ok, program_of, refl, Result}
use Rattle.dme_c.proofs.Names.{Say, subst, true, ℕ}
use Rattle.contact_ledger.specs.FeatureTexts.{IsDamagedFeatures, IsFeatures}
use Rattle.tool_rack.specs.Setups.{setup_of, SetupValue}
use Rattle.dme_c.specs.Codes.{not_made_number}
use Rattle.dme_c.specs.declared.codes.NotMade.{NotMade}

-- what is read is not refused
read_and_refused : {A E : Type 0} (r : Result A E) {x : A} → r ≡ Ok x → IsErr r → ⊥
read_and_refused (Ok y) read refused = absurd (cc)
read_and_refused (Err e) read refused = absurd (cc)

frames_alike : (setup program : List ℕ) {one other : SetupValue} → setup_of setup ≡ Ok one → setup_of setup ≡ Ok other
    → program_of one.frames program ≡ program_of other.frames program
frames_alike setup program here there = cc

pub first_of_both : (a b : Bool) → a && b ≡ true → a ≡ true
first_of_both true b due = refl
first_of_both false b due = absurd (cc)

pub second_of_both : (a b : Bool) → a && b ≡ true → b ≡ true
second_of_both true b due = due
second_of_both false b due = absurd (cc)

pub not_true : (a : Bool) → not a ≡ true → a ≡ false
not_true true due = absurd (cc)
not_true false due = refl

-- setup and program are read in one way, and what is read is not refused
module _ {setup program : List ℕ} where
  pub setup_first : IsBadProgram setup program → IsBadSetup setup → ⊥
  setup_first later bad = read_and_refused _ later.setup_is bad

  pub no_bad_setup : {meaning : Meaning} → Means setup program meaning → IsBadSetup setup → ⊥
  no_bad_setup means bad = read_and_refused _ means.setup_is bad

  pub no_bad_program : {meaning : Meaning} → Means setup program meaning → IsBadProgram setup program → ⊥
  no_bad_program means bad = read_and_refused _ means.means
      (subst IsErr (frames_alike setup program bad.setup_is means.setup_is) bad.refused)

  one_meaning : {one other : Meaning} → Means setup program one → Means setup program other → one ≡ other
  one_meaning one other = let alike = frames_alike setup program one.setup_is other.setup_is in
      let here = one.means in let there = other.means in cc

-- what a number says about a fault: it is this one, or another
pub here : {number due : ℕ} {Holds : Type 0} → number ≡ due → Holds → AnswersJust number due Holds
here is holds = (λ _. holds, λ _. inl is)

pub elsewhere : {number due : ℕ} {Holds : Type 0} → (number ≡ due → ⊥) → (Holds → ⊥) → AnswersJust number due Holds
elsewhere differ never = (λ is. absurd (differ is), λ holds. absurd (never holds))

pub unknown : {number due : ℕ} {Holds : Type 0} → number ≡ 3 → (number ≡ due → ⊥) → AnswersJust number due Holds
unknown memory differ = (λ is. absurd (differ is), λ _. inr memory)

-- a text of features is read in one way
abbrev pub One : Type 0
One = (bytes : List ℕ) (a b : List Feature) → IsFeatures bytes a → IsFeatures bytes b → a ≡ b

abbrev pub NeverBoth : Type 0
NeverBoth = (bytes : List ℕ) (a : List Feature) (n : ℕ) → IsFeatures bytes a → IsDamagedFeatures bytes n → ⊥

module _ (one : One) (never_both : NeverBoth) (setup program features : List ℕ) (window : ℕ) where
  abbrev Why : NotMade → Type 0
  Why = IsWhy setup program features window

  abbrev Client : ClientEnd → Type 0
  Client = IsClientOf setup program features window

  no_bad_features : {meaning : Meaning} {kept : List Feature} → Say setup program features meaning kept
      → IsBadFeatures setup program features → ⊥
  no_bad_features says bad = never_both features _ bad.damaged.line says.features_are bad.damaged.line_is

  no_bad_window : is_window window ≡ true → IsBadWindow setup program features window → ⊥
  no_bad_window is bad = let outside = bad.outside in absurd (cc)

  are_others : {client : ClientEnd} → Client client → IsNotOurs setup program features window → ⊥
  are_others made bad = let meaning = one_meaning made.texts.program_is bad.texts.program_is in
      let kept = one features _ _ made.texts.features_are bad.texts.features_are in
      let ours = made.ours in let others = bad.others in absurd (cc)

  pub one_client : {here there : ClientEnd} → Client here → Client there → there ≡ here
  one_client made other = let meaning = one_meaning made.texts.program_is other.texts.program_is in
      let kept = one features _ _ made.texts.features_are other.texts.features_are in
      let left = made.client_is in let right = other.client_is in cc

  pub refused_features : (why : NotMade) → Why why → (number : ℕ) → number ≡ not_made_number why
      → AnswersJust number 6 (IsBadFeatures setup program features)
  refused_features NotMade.Memory w number is = unknown is (λ due. omega arith)
  refused_features NotMade.BadSetup w number is = elsewhere (λ due. omega arith) (λ bad. no_bad_setup bad.program_is w)
  refused_features NotMade.BadProgram w number is = elsewhere (λ due. omega arith) (λ bad. no_bad_program bad.program_is w)
  refused_features NotMade.BadFeatures w number is = here is w
  refused_features NotMade.BadWindow w number is = elsewhere (λ due. omega arith) (no_bad_features w.texts)
  refused_features NotMade.NotOurs w number is = elsewhere (λ due. omega arith) (no_bad_features w.texts)

  pub refused_window : (why : NotMade) → Why why → (number : ℕ) → number ≡ not_made_number why
      → AnswersJust number 7 (IsBadWindow setup program features window)
  refused_window NotMade.Memory w number is = unknown is (λ due. omega arith)
  refused_window NotMade.BadSetup w number is = elsewhere (λ due. omega arith) (λ bad. no_bad_setup bad.texts.program_is w)
  refused_window NotMade.BadProgram w number is = elsewhere (λ due. omega arith) (λ bad. no_bad_program bad.texts.program_is w)
  refused_window NotMade.BadFeatures w number is = elsewhere (λ due. omega arith) (λ bad. no_bad_features bad.texts w)
  refused_window NotMade.BadWindow w number is = here is w
  refused_window NotMade.NotOurs w number is = elsewhere (λ due. omega arith) (no_bad_window w.window_is)

  pub refused_others : (why : NotMade) → Why why → (number : ℕ) → number ≡ not_made_number why
      → AnswersJust number 8 (IsNotOurs setup program features window)
  refused_others NotMade.Memory w number is = unknown is (λ due. omega arith)
  refused_others NotMade.BadSetup w number is = elsewhere (λ due. omega arith) (λ bad. no_bad_setup bad.texts.program_is w)
  refused_others NotMade.BadProgram w number is = elsewhere (λ due. omega arith) (λ bad. no_bad_program bad.texts.program_is w)
  refused_others NotMade.BadFeatures w number is = elsewhere (λ due. omega arith) (λ bad. no_bad_features bad.texts w)
  refused_others NotMade.BadWindow w number is = elsewhere (λ due. omega arith) (λ bad. no_bad_window bad.window_is w)
  refused_others NotMade.NotOurs w number is = here is w

  -- if a client is due, nothing is refused except if out of memory
  pub no_client : (why : NotMade) → Why why → (client : ClientEnd) → Client client → not_made_number why ≡ 3
  no_client NotMade.Memory w client due = refl
  no_client NotMade.BadSetup w client due = absurd (no_bad_setup due.texts.program_is w)
  no_client NotMade.BadProgram w client due = absurd (no_bad_program due.texts.program_is w)
  no_client NotMade.BadFeatures w client due = absurd (no_bad_features due.texts w)
  no_client NotMade.BadWindow w client due = absurd (no_bad_window due.window_is w)
  no_client NotMade.NotOurs w client due = absurd (are_others due w)

  pub made_features : {client : ClientEnd} → Client client → AnswersJust 0 6 (IsBadFeatures setup program features)
  made_features made = elsewhere (λ is. omega arith) (no_bad_features made.texts)

  pub made_others : {client : ClientEnd} → Client client → AnswersJust 0 8 (IsNotOurs setup program features window)
  made_others made = elsewhere (λ is. omega arith) (are_others made)
