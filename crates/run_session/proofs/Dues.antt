-- Notes that come to a record.
use Rattle.run_session.proofs.Names.{[], ◌++◌, ◌∙◌, ◌∷◌, ◌≡◌, ap, ap₂, Book, Err, false, FollowsTold, Growth, IsNoteText, is_error, List, Ok, OnErr, OnOk, Option}
use Rattle.run_session.proofs.Names.{refl, Reply, Result, Says, Some, State, StaysTold, subst, sym, with_notes, ℕ}
use Rattle.run_session.specs.Evidence.{can_note, given_due}
use Rattle.run_session.specs.Records.{AddsNotes, closed, made_at, noted_now, says, time_of, with_due, with_note, with_said}

pub adds_note : {A E : Type 0} (r : Result A E) (g h : Growth) (one : Says) → IsNoteText one.0 one.1 → is_error one.0 ≡ false
    → OnOk r (h ≡ with_notes (one ∷ []) g) → OnErr r (h ≡ g) → AddsNotes g h
adds_note (Ok a) g h one can other done none = subst (AddsNotes g) (sym done) (record {
  keeps = λ may first begun ps e t on ran. says ps (record { end = e; recording = g }) t one ran can other on;
  told = refl;
})
adds_note (Err e) g h one can other done none =
    subst (AddsNotes g) (sym none) (record { keeps = λ may first begun ps e t on ran. ran; told = refl })

pub adds_more : (g h i : Growth) → AddsNotes g h → AddsNotes h i → AddsNotes g i
adds_more g h i first next = record {
  keeps = λ may p begun ps e t on ran. next.keeps may p begun ps e t on (first.keeps may p begun ps e t on ran);
  told = next.told ∙ first.told;
}

-- a session whose record has other notes
abbrev pub with_growth : Growth → State → State
with_growth h s = record s { pair = record (s.pair) { recording = h } }

-- one list after another
said_on : (xs ys : List Says) (g : Growth) → with_said (xs ++ ys) g ≡ with_said ys (with_said xs g)
said_on [] ys g = refl
said_on (x ∷ xs) ys g = said_on xs ys (with_note (can_note x) x g)

pub due_said : {A E : Type 0} (r : Result A E) (v s : State) (answered : Option (List ℕ)) (time : List ℕ) (gs ms : List Says) (g h : Growth) → v ≡ s
    → answered ≡ Some time → gs ≡ given_due v.book.noted → ms ≡ made_at s time → g ≡ with_said gs v.pair.recording → OnOk r (h ≡ with_said ms g)
    → OnOk r (with_growth h v ≡ with_due s answered)
due_said (Ok a) v s answered time gs ms g h is at first rest said done = ap (λ (x : Growth). with_growth x v)
    (done ∙ (ap (with_said ms) said ∙ (sym (said_on gs ms v.pair.recording)
    ∙ ap₂ (λ (xs ys : List Says). with_said (xs ++ ys) v.pair.recording) first (rest ∙ ap (λ (x : State). made_at x time) (sym is)))))
    ∙ (ap (λ (x : State). with_due x (Some time)) is ∙ ap (with_due s) (sym at))
due_said (Err e) v s answered time gs ms g h is at first rest said done = tt

pub noted_is : (s m n : State) (reply : Reply) → m ≡ with_due s (time_of reply) → n ≡ closed m → n ≡ noted_now s reply
noted_is s m n reply due is = is ∙ ap closed due

pub noted_book : (s m n t : Book) → m ≡ s → n ≡ record m { noted = n.noted } → t ≡ n → t ≡ record s { noted = t.noted }
noted_book s m n t first next last = subst (λ (x : Book). x ≡ record s { noted = x.noted }) (sym last)
    (next ∙ ap (λ (x : Book). record x { noted = n.noted }) first)

pub told_further : {A E : Type 0} (r : Result A E) (s n t : State) → StaysTold s n → OnOk r (FollowsTold n t) → OnOk r (FollowsTold s t)
told_further (Ok a) s n t told f = λ has. f (told has)
told_further (Err e) s n t told f = tt
