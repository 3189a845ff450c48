use Rattle.record_text.proofs.Names.{◌∙◌, ◌∷◌, ◌≡◌, ap, false, IsNoteText, List, Note, subst, sym, true, ℕ}
use Rattle.record_text.proofs.RecordFields.{no_word, noted_parts, noted_rest, noted_word, one_note}
use Rattle.record_text.proofs.entry_reading.read_noted.Goals as goal

pub returns-in_default-next_field : goal.returns-in_default-next_field
returns-in_default-next_field c a h = no_word c.args.line.now a.2 c.first_field.result.0.now a.0 a.1 (c.first_field.ensures
    ∙ ap (λ (fs : List (List ℕ)). c.first_field.result.0.now ∷ fs) c.in_default-next_field.ensures) h.0 h.2

pub returns-in_default-note_of : goal.returns-in_default-note_of
returns-in_default-note_of c a h = c.in_default-note_of.ensures a.1 (noted_word c.args.line.now a.2 c.first_field.result.0.now
    c.in-Some-next_field.word.now _ a.0 a.1 (c.first_field.ensures
    ∙ ap (λ (fs : List (List ℕ)). c.first_field.result.0.now ∷ fs) c.in-Some-next_field.ensures) h.0 h.2)

pub returns-in_default-text_after : goal.returns-in_default-text_after
returns-in_default-text_after c a h = c.in_default-text_after.ensures a.2 (noted_parts c.args.line.now c.first_field.result.0.now
    c.in-Some-next_field.word.now a.2 _ a.0 a.1 (c.first_field.ensures
    ∙ ap (λ (fs : List (List ℕ)). c.first_field.result.0.now ∷ fs) c.in-Some-next_field.ensures) h.0 h.2)

pub returns-then-not-can_say : goal.returns-then-not-can_say
returns-then-not-can_say c a h =
    let fields = c.first_field.ensures
    ∙ ap (λ (fs : List (List ℕ)). c.first_field.result.0.now ∷ fs) c.in-Some-next_field.ensures in
    let word = noted_word c.args.line.now a.2 c.first_field.result.0.now c.in-Some-next_field.word.now _ a.0 a.1 fields h.0 h.2 in
    let note : a.1 ≡ c.in-Some-note_of.note = one_note a.1 c.in-Some-note_of.note (sym word ∙ c.in-Some-note_of.ensures) in
    let text : c.in-Some-text_after.text.now ≡ a.2 = noted_rest c.args.line.now c.first_field.result.0.now c.in-Some-next_field.word.now
    c.in-Some-text_after.text.now a.2 _ a.0 a.1 fields h.0 h.2 c.in-Some-text_after.ensures in
    let said : IsNoteText c.in-Some-note_of.note c.in-Some-text_after.text.now =
    subst (λ (n : Note). IsNoteText n c.in-Some-text_after.text.now) note
    (subst (λ (t : List ℕ). IsNoteText a.1 t) (sym text) h.1) in
    let yes : c.can_say.result ≡ true = c.can_say.ensures.1 said in
    let no : c.can_say.result ≡ false = c.if-not-can_say.true in
    absurd cc
