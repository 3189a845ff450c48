-- Exactly one outcome is due for texts and a part, so the answer of the call that begins a record determines for each whether it is due.
use Rattle.dme_c.proofs.Names.{[], ◌∙◌, ◌≡◌, ◌≢◌, ◌≤◌, AnswersJust, ap, arith, ClientEnd, Err, false, IfErr, inl, inr, is_window, IsBadProgram}
use Rattle.dme_c.proofs.Names.{IsBadSetup, IsDue, IsDueFor, IsName, IsOfTexts, List, Meaning, Ok, RecordRefusal, RecordValue, refl, RefusesBytes}
use Rattle.dme_c.proofs.Names.{Result, subst, sym, true, ℕ}
use Rattle.dme_c.specs.Beginning.{IsAsked, IsBadPart, IsBegun, IsLabel, IsNoWindow, IsNumberOf, IsOfRecord, IsWhyNot, label_in, line_in}
use Rattle.dme_c.specs.Beginning.{Asks, not_begun_number, part_of, RefusesRecord}
use Rattle.dme_c.specs.declared.record_making.NotBegun.{NotBegun}
use Rattle.dme_c.proofs.Making.{setup_first, no_bad_setup, no_bad_program, here, elsewhere, unknown}

-- what a refusal reports next to its number
pub number_of : (why : NotBegun) (number : ℕ) → number ≡ not_begun_number why → IsNumberOf number
number_of NotBegun.Memory number is = inr (inl (omega arith, omega arith))
number_of NotBegun.BadSetup number is = inr (inl (omega arith, omega arith))
number_of NotBegun.BadProgram number is = inr (inl (omega arith, omega arith))
number_of NotBegun.BadPart number is = inr (inr (inr (omega arith, omega arith)))
number_of NotBegun.BadWindow number is = inr (inr (inl is))
number_of (NotBegun.Damaged line) number is = inr (inr (inr (omega arith, omega arith)))
number_of NotBegun.OtherPart number is = inr (inr (inr (omega arith, omega arith)))
number_of (NotBegun.OtherProgram label) number is = inr (inr (inr (omega arith, omega arith)))

pub not_zero : (why : NotBegun) (number : ℕ) → number ≡ not_begun_number why → number ≡ 0 → ⊥
not_zero NotBegun.Memory number is zero = omega arith
not_zero NotBegun.BadSetup number is zero = omega arith
not_zero NotBegun.BadProgram number is zero = omega arith
not_zero NotBegun.BadPart number is zero = omega arith
not_zero NotBegun.BadWindow number is zero = omega arith
not_zero (NotBegun.Damaged line) number is zero = omega arith
not_zero NotBegun.OtherPart number is zero = omega arith
not_zero (NotBegun.OtherProgram label) number is zero = omega arith

pub line_of : (why : NotBegun) (number : ℕ) → number ≡ not_begun_number why → number ≢ 9 → line_in why ≡ 0
line_of NotBegun.Memory number is other = refl
line_of NotBegun.BadSetup number is other = refl
line_of NotBegun.BadProgram number is other = refl
line_of NotBegun.BadPart number is other = refl
line_of NotBegun.BadWindow number is other = refl
line_of (NotBegun.Damaged line) number is other = absurd (other is)
line_of NotBegun.OtherPart number is other = refl
line_of (NotBegun.OtherProgram label) number is other = refl

pub label_of : (why : NotBegun) (number : ℕ) → number ≡ not_begun_number why → number ≢ 11 → label_in why ≡ []
label_of NotBegun.Memory number is other = refl
label_of NotBegun.BadSetup number is other = refl
label_of NotBegun.BadProgram number is other = refl
label_of NotBegun.BadPart number is other = refl
label_of NotBegun.BadWindow number is other = refl
label_of (NotBegun.Damaged line) number is other = refl
label_of NotBegun.OtherPart number is other = refl
label_of (NotBegun.OtherProgram label) number is other = absurd (other is)

pub name_of : (why : NotBegun) (number : ℕ) → number ≡ not_begun_number why → number ≡ 11 → IsLabel why → IsName (label_in why)
name_of NotBegun.Memory number is eleven named = absurd (omega arith)
name_of NotBegun.BadSetup number is eleven named = absurd (omega arith)
name_of NotBegun.BadProgram number is eleven named = absurd (omega arith)
name_of NotBegun.BadPart number is eleven named = absurd (omega arith)
name_of NotBegun.BadWindow number is eleven named = absurd (omega arith)
name_of (NotBegun.Damaged line) number is eleven named = absurd (omega arith)
name_of NotBegun.OtherPart number is eleven named = absurd (omega arith)
name_of (NotBegun.OtherProgram label) number is eleven named = named

module _ (setup program part : List ℕ) (window : ℕ) where
  abbrev Why : NotBegun → Type 0
  Why = IsWhyNot setup program part window

  two_windows : is_window window ≡ true → IsNoWindow setup program part window → ⊥
  two_windows is bad = let outside = bad.outside in absurd (cc)

  -- why a record is refused, for texts that are not
  pub of_record : (why : NotBegun) → IsOfRecord why → IsAsked setup program part window → Why why
  of_record NotBegun.Memory of asked = tt
  of_record NotBegun.BadSetup of asked = absurd of
  of_record NotBegun.BadProgram of asked = absurd of
  of_record NotBegun.BadPart of asked = absurd of
  of_record NotBegun.BadWindow of asked = absurd of
  of_record (NotBegun.Damaged line) of asked = asked
  of_record NotBegun.OtherPart of asked = asked
  of_record (NotBegun.OtherProgram label) of asked = asked

  pub all_of_record : {A : Type 0} (r : Result A NotBegun) → IfErr r IsOfRecord → IsAsked setup program part window → IfErr r Why
  all_of_record (Ok x) of asked = tt
  all_of_record (Err why) of asked = of_record why of asked

  pub refused_setup : (why : NotBegun) → Why why → (number : ℕ) → number ≡ not_begun_number why
      → AnswersJust number 4 (IsBadSetup setup)
  refused_setup NotBegun.Memory w number is = unknown is (λ due. omega arith)
  refused_setup NotBegun.BadSetup w number is = here is w
  refused_setup NotBegun.BadProgram w number is = elsewhere (λ due. omega arith) (setup_first w)
  refused_setup NotBegun.BadPart w number is = elsewhere (λ due. omega arith) (no_bad_setup w.program_is)
  refused_setup NotBegun.BadWindow w number is = elsewhere (λ due. omega arith) (no_bad_setup w.asks.program_is)
  refused_setup (NotBegun.Damaged line) w number is = elsewhere (λ due. omega arith) (no_bad_setup w.asks.program_is)
  refused_setup NotBegun.OtherPart w number is = elsewhere (λ due. omega arith) (no_bad_setup w.asks.program_is)
  refused_setup (NotBegun.OtherProgram label) w number is = elsewhere (λ due. omega arith) (no_bad_setup w.asks.program_is)

  pub refused_program : (why : NotBegun) → Why why → (number : ℕ) → number ≡ not_begun_number why
      → AnswersJust number 5 (IsBadProgram setup program)
  refused_program NotBegun.Memory w number is = unknown is (λ due. omega arith)
  refused_program NotBegun.BadSetup w number is = elsewhere (λ due. omega arith) (λ bad. setup_first bad w)
  refused_program NotBegun.BadProgram w number is = here is w
  refused_program NotBegun.BadPart w number is = elsewhere (λ due. omega arith) (no_bad_program w.program_is)
  refused_program NotBegun.BadWindow w number is = elsewhere (λ due. omega arith) (no_bad_program w.asks.program_is)
  refused_program (NotBegun.Damaged line) w number is = elsewhere (λ due. omega arith) (no_bad_program w.asks.program_is)
  refused_program NotBegun.OtherPart w number is = elsewhere (λ due. omega arith) (no_bad_program w.asks.program_is)
  refused_program (NotBegun.OtherProgram label) w number is = elsewhere (λ due. omega arith) (no_bad_program w.asks.program_is)

  pub refused_part : (why : NotBegun) → Why why → (number : ℕ) → number ≡ not_begun_number why
      → AnswersJust number 12 (IsBadPart setup program part)
  refused_part NotBegun.Memory w number is = unknown is (λ due. omega arith)
  refused_part NotBegun.BadSetup w number is = elsewhere (λ due. omega arith) (λ bad. no_bad_setup bad.program_is w)
  refused_part NotBegun.BadProgram w number is = elsewhere (λ due. omega arith) (λ bad. no_bad_program bad.program_is w)
  refused_part NotBegun.BadPart w number is = here is w
  refused_part NotBegun.BadWindow w number is = elsewhere (λ due. omega arith) (λ bad. bad.refused w.asks.part_is)
  refused_part (NotBegun.Damaged line) w number is = elsewhere (λ due. omega arith) (λ bad. bad.refused w.asks.part_is)
  refused_part NotBegun.OtherPart w number is = elsewhere (λ due. omega arith) (λ bad. bad.refused w.asks.part_is)
  refused_part (NotBegun.OtherProgram label) w number is = elsewhere (λ due. omega arith) (λ bad. bad.refused w.asks.part_is)

  pub refused_window : (why : NotBegun) → Why why → (number : ℕ) → number ≡ not_begun_number why
      → AnswersJust number 7 (IsNoWindow setup program part window)
  refused_window NotBegun.Memory w number is = unknown is (λ due. omega arith)
  refused_window NotBegun.BadSetup w number is = elsewhere (λ due. omega arith) (λ bad. no_bad_setup bad.asks.program_is w)
  refused_window NotBegun.BadProgram w number is = elsewhere (λ due. omega arith) (λ bad. no_bad_program bad.asks.program_is w)
  refused_window NotBegun.BadPart w number is = elsewhere (λ due. omega arith) (λ bad. w.refused bad.asks.part_is)
  refused_window NotBegun.BadWindow w number is = here is w
  refused_window (NotBegun.Damaged line) w number is = elsewhere (λ due. omega arith) (two_windows w.window_is)
  refused_window NotBegun.OtherPart w number is = elsewhere (λ due. omega arith) (two_windows w.window_is)
  refused_window (NotBegun.OtherProgram label) w number is = elsewhere (λ due. omega arith) (two_windows w.window_is)

  pub refused_record : (why : NotBegun) → Why why → (number : ℕ) → number ≡ not_begun_number why
      → RefusesRecord setup program part window number
  refused_record NotBegun.Memory w number is = λ low high. absurd (omega arith)
  refused_record NotBegun.BadSetup w number is = λ low high. absurd (omega arith)
  refused_record NotBegun.BadProgram w number is = λ low high. absurd (omega arith)
  refused_record NotBegun.BadPart w number is = λ low high. absurd (omega arith)
  refused_record NotBegun.BadWindow w number is = λ low high. absurd (omega arith)
  refused_record (NotBegun.Damaged line) w number is = λ low high. w
  refused_record NotBegun.OtherPart w number is = λ low high. w
  refused_record (NotBegun.OtherProgram label) w number is = λ low high. w

  pub asked_of : {held : ℕ} {client : ClientEnd} {kept : RecordValue} → IsBegun setup program part window held client kept
      → IsAsked setup program part window
  asked_of begun = record { meaning = begun.meaning; asks = begun.asks; window_is = begun.window_is }

  -- if nothing is refused, the answer is 0
  pub begun_setup : IsAsked setup program part window → AnswersJust 0 4 (IsBadSetup setup)
  begun_setup asked = elsewhere (λ is. omega arith) (no_bad_setup asked.asks.program_is)

  pub begun_program : IsAsked setup program part window → AnswersJust 0 5 (IsBadProgram setup program)
  begun_program asked = elsewhere (λ is. omega arith) (no_bad_program asked.asks.program_is)

  pub begun_part : IsAsked setup program part window → AnswersJust 0 12 (IsBadPart setup program part)
  begun_part asked = elsewhere (λ is. omega arith) (λ bad. bad.refused asked.asks.part_is)

  pub begun_window : IsAsked setup program part window → AnswersJust 0 7 (IsNoWindow setup program part window)
  begun_window asked = elsewhere (λ is. omega arith) (two_windows asked.window_is)

module _ (setup program part bytes : List ℕ) where
  abbrev Due : NotBegun → Type 0
  Due = IsDue setup program part bytes

  -- what is due for the bytes, once the texts and the part are accepted
  due_for : (meaning : Meaning) → Asks setup program part meaning → (why : NotBegun)
      → IsDueFor (part_of part) meaning.features bytes why → Due why
  due_for meaning asks NotBegun.Memory due = tt
  due_for meaning asks NotBegun.BadSetup due = tt
  due_for meaning asks NotBegun.BadProgram due = tt
  due_for meaning asks NotBegun.BadPart due = tt
  due_for meaning asks NotBegun.BadWindow due = tt
  due_for meaning asks (NotBegun.Damaged line) due = record { meaning = meaning; asks = asks; refuses = due }
  due_for meaning asks NotBegun.OtherPart due = record { meaning = meaning; asks = asks; refuses = due }
  due_for meaning asks (NotBegun.OtherProgram label) due = record { meaning = meaning; asks = asks; refuses = due }

  pub all_due : {A : Type 0} (r : Result A NotBegun) (meaning : Meaning) → Asks setup program part meaning
      → IfErr r (IsDueFor (part_of part) meaning.features bytes) → IfErr r Due
  all_due (Ok x) meaning asks due = tt
  all_due (Err why) meaning asks due = due_for meaning asks why due

  -- nothing is due for the bytes if the texts are refused
  pub texts_due : (why : NotBegun) → IsOfTexts why → Due why
  texts_due NotBegun.Memory of = tt
  texts_due NotBegun.BadSetup of = tt
  texts_due NotBegun.BadProgram of = tt
  texts_due NotBegun.BadPart of = tt
  texts_due NotBegun.BadWindow of = tt
  texts_due (NotBegun.Damaged line) of = absurd of
  texts_due NotBegun.OtherPart of = absurd of
  texts_due (NotBegun.OtherProgram label) of = absurd of

  -- the number says for which of the refusals
  pub due_damaged : (why : NotBegun) → Due why → (number : ℕ) → number ≡ not_begun_number why → number ≡ 9
      → RefusesBytes setup program part bytes (RecordRefusal.Damaged (line_in why))
  due_damaged NotBegun.Memory due number is nine = absurd (omega arith)
  due_damaged NotBegun.BadSetup due number is nine = absurd (omega arith)
  due_damaged NotBegun.BadProgram due number is nine = absurd (omega arith)
  due_damaged NotBegun.BadPart due number is nine = absurd (omega arith)
  due_damaged NotBegun.BadWindow due number is nine = absurd (omega arith)
  due_damaged (NotBegun.Damaged line) due number is nine = due
  due_damaged NotBegun.OtherPart due number is nine = absurd (omega arith)
  due_damaged (NotBegun.OtherProgram label) due number is nine = absurd (omega arith)

  pub due_part : (why : NotBegun) → Due why → (number : ℕ) → number ≡ not_begun_number why → number ≡ 10
      → RefusesBytes setup program part bytes RecordRefusal.OtherPart
  due_part NotBegun.Memory due number is ten = absurd (omega arith)
  due_part NotBegun.BadSetup due number is ten = absurd (omega arith)
  due_part NotBegun.BadProgram due number is ten = absurd (omega arith)
  due_part NotBegun.BadPart due number is ten = absurd (omega arith)
  due_part NotBegun.BadWindow due number is ten = absurd (omega arith)
  due_part (NotBegun.Damaged line) due number is ten = absurd (omega arith)
  due_part NotBegun.OtherPart due number is ten = due
  due_part (NotBegun.OtherProgram label) due number is ten = absurd (omega arith)

  pub due_program : (why : NotBegun) → Due why → (number : ℕ) → number ≡ not_begun_number why → number ≡ 11
      → RefusesBytes setup program part bytes (RecordRefusal.OtherProgram (label_in why))
  due_program NotBegun.Memory due number is eleven = absurd (omega arith)
  due_program NotBegun.BadSetup due number is eleven = absurd (omega arith)
  due_program NotBegun.BadProgram due number is eleven = absurd (omega arith)
  due_program NotBegun.BadPart due number is eleven = absurd (omega arith)
  due_program NotBegun.BadWindow due number is eleven = absurd (omega arith)
  due_program (NotBegun.Damaged line) due number is eleven = absurd (omega arith)
  due_program NotBegun.OtherPart due number is eleven = absurd (omega arith)
  due_program (NotBegun.OtherProgram label) due number is eleven = due
