-- A command that goes out under the tag that was drawn for it is what `protocol_model` sends.
use Rattle.client_core.proofs.Names.{[], ◌<◌, ◌∙◌, ◌∷◌, ◌≡◌, ap, Bool, Cause, client_aborted, client_sent, Command, drop, drop-cons, Event, false}
use Rattle.client_core.proofs.Names.{faulted, is_event_kind, Kind, kind_of, length, List, Meaning, next_number, next_tag, None, OpenValue, Option}
use Rattle.client_core.proofs.Names.{Planned, Progress, refl, seen, slice_index_or, Some, State, Std, suc, sym, Tag, tagged, with_drawn, ℕ}
use Rattle.std.proofs.lemmas.Option.{none-some}

-- the number of a drawn tag
record IsDrawn (sort : ℕ → Tag) (number : Option ℕ) (tag : Tag) : Type 0 where
  n : ℕ
  number_is : number ≡ Some n
  tag_is : sort n ≡ tag

drawn_as : (sort : ℕ → Tag) (number : Option ℕ) (tag : Tag) → tagged sort number ≡ Some tag → IsDrawn sort number tag
drawn_as sort None tag is = absurd (none-some _ is)
drawn_as sort (Some n) tag is = record { n = n; number_is = refl; tag_is = cc is }

not_drawn : (sort : ℕ → Tag) (number : Option ℕ) → tagged sort number ≡ None → number ≡ None
not_drawn sort None is = refl
not_drawn sort (Some n) is = absurd (none-some _ (sym is))

standard_tag : (o : OpenValue) (k : Kind) (answer : Option Tag) → is_event_kind k ≡ false → next_tag o k ≡ answer
    → tagged Std (next_number Std o.standard o.drawn) ≡ answer
standard_tag o k answer standard is = rw standard at is

pub first_left : (plan : List Planned) (sent : ℕ) (p : Planned) → sent < length plan → p ≡ slice_index_or plan sent p
    → drop sent plan ≡ p ∷ drop (suc sent) plan
first_left plan sent p within is = drop-cons plan sent p within ∙ ap (λ (q : Planned). q ∷ drop (suc sent) plan) (sym is)

-- one command more is sent
abbrev pub sent_one : Progress → Progress
sent_one y = record y { unsent = suc y.unsent }

-- what is sent: the client after it, and the line
client_at : (program : Meaning) (window : ℕ) (on : Bool) (state : State) (cause : Option Cause) (o after : OpenValue) (y : Progress)
    (abort : Option Tag) (p : Planned) (tag : Tag) (n : ℕ)
    → drop y.unsent y.plan.items ≡ p ∷ drop (suc y.unsent) y.plan.items → next_number Std o.standard o.drawn ≡ Some n → Std n ≡ tag
    → after ≡ with_drawn o tag (kind_of p.command)
    → seen program window on state cause after (sent_one y) abort
    ≡ (client_sent (seen program window on state cause o y abort)).client
client_at program window on state cause o after y abort p tag n first number_is tag_is held =
    rw (held, ← tag_is, first, number_is) refl

lines_at : (program : Meaning) (window : ℕ) (on : Bool) (state : State) (cause : Option Cause) (o : OpenValue) (y : Progress)
    (abort : Option Tag) (p : Planned) (tag : Tag) (n : ℕ)
    → drop y.unsent y.plan.items ≡ p ∷ drop (suc y.unsent) y.plan.items → next_number Std o.standard o.drawn ≡ Some n → Std n ≡ tag
    → (client_sent (seen program window on state cause o y abort)).lines ≡ record { tag = tag; command = p.command } ∷ []
lines_at program window on state cause o y abort p tag n first number_is tag_is = rw (← tag_is, first, number_is) refl

abort_at : (program : Meaning) (window : ℕ) (on : Bool) (state : State) (cause : Option Cause) (o after : OpenValue) (y : Progress)
    (abort : Option Tag) (tag : Tag) (n : ℕ)
    → next_number Event o.event o.event_drawn ≡ Some n → Event n ≡ tag → after ≡ with_drawn o tag Kind.AbortE
    → seen program window on State.Aborting cause after y (Some tag)
    ≡ (client_aborted (seen program window on state cause o y abort)).client
abort_at program window on state cause o after y abort tag n number_is tag_is held = rw (held, ← tag_is, number_is) refl

abort_line_at : (program : Meaning) (window : ℕ) (on : Bool) (state : State) (cause : Option Cause) (o : OpenValue) (y : Progress)
    (abort : Option Tag) (tag : Tag) (n : ℕ)
    → next_number Event o.event o.event_drawn ≡ Some n → Event n ≡ tag
    → (client_aborted (seen program window on state cause o y abort)).lines ≡ record { tag = tag; command = Command.AbortE } ∷ []
abort_line_at program window on state cause o y abort tag n number_is tag_is = rw (← tag_is, number_is) refl

pub sent_client : (program : Meaning) (window : ℕ) (on : Bool) (state : State) (cause : Option Cause) (o after : OpenValue)
    (y : Progress)
    (abort : Option Tag) (p : Planned) (tag : Tag)
    → y.unsent < length y.plan.items → p ≡ slice_index_or y.plan.items y.unsent p → is_event_kind (kind_of p.command) ≡ false
    → next_tag o (kind_of p.command) ≡ Some tag → after ≡ with_drawn o tag (kind_of p.command)
    → seen program window on state cause after (sent_one y) abort
    ≡ (client_sent (seen program window on state cause o y abort)).client
sent_client program window on state cause o after y abort p tag within is standard next held =
    let d : IsDrawn Std (next_number Std o.standard o.drawn) tag =
    drawn_as _ _ _ (standard_tag o (kind_of p.command) (Some tag) standard next) in
    client_at program window on state cause o after y abort p tag d.n (first_left y.plan.items y.unsent p within is) d.number_is
    d.tag_is held

pub sent_lines : (program : Meaning) (window : ℕ) (on : Bool) (state : State) (cause : Option Cause) (o : OpenValue) (y : Progress)
    (abort : Option Tag) (p : Planned) (tag : Tag)
    → y.unsent < length y.plan.items → p ≡ slice_index_or y.plan.items y.unsent p → is_event_kind (kind_of p.command) ≡ false
    → next_tag o (kind_of p.command) ≡ Some tag
    → (client_sent (seen program window on state cause o y abort)).lines ≡ record { tag = tag; command = p.command } ∷ []
sent_lines program window on state cause o y abort p tag within is standard next =
    let d : IsDrawn Std (next_number Std o.standard o.drawn) tag =
    drawn_as _ _ _ (standard_tag o (kind_of p.command) (Some tag) standard next) in
    lines_at program window on state cause o y abort p tag d.n (first_left y.plan.items y.unsent p within is) d.number_is d.tag_is

-- no tag is free
pub sent_none : (program : Meaning) (window : ℕ) (on : Bool) (state : State) (cause : Option Cause) (o : OpenValue) (y : Progress)
    (abort : Option Tag) (p : Planned)
    → y.unsent < length y.plan.items → p ≡ slice_index_or y.plan.items y.unsent p → is_event_kind (kind_of p.command) ≡ false
    → next_tag o (kind_of p.command) ≡ None
    → client_sent (seen program window on state cause o y abort)
    ≡ record { client = faulted Cause.TagsSpent (seen program window on state cause o y abort); lines = [] }
sent_none program window on state cause o y abort p within is standard next =
    let d : next_number Std o.standard o.drawn ≡ None = not_drawn _ _ (standard_tag o (kind_of p.command) None standard next) in
    rw (first_left y.plan.items y.unsent p within is, d) refl

-- an abort is sent
pub aborted_client : (program : Meaning) (window : ℕ) (on : Bool) (state : State) (cause : Option Cause) (o after : OpenValue)
    (y : Progress)
    (abort : Option Tag) (tag : Tag) → next_tag o Kind.AbortE ≡ Some tag → after ≡ with_drawn o tag Kind.AbortE
    → seen program window on State.Aborting cause after y (Some tag)
    ≡ (client_aborted (seen program window on state cause o y abort)).client
aborted_client program window on state cause o after y abort tag next held =
    let d : IsDrawn Event (next_number Event o.event o.event_drawn) tag = drawn_as _ _ _ next in
    abort_at program window on state cause o after y abort tag d.n d.number_is d.tag_is held

pub aborted_lines : (program : Meaning) (window : ℕ) (on : Bool) (state : State) (cause : Option Cause) (o : OpenValue)
    (y : Progress)
    (abort : Option Tag) (tag : Tag) → next_tag o Kind.AbortE ≡ Some tag
    → (client_aborted (seen program window on state cause o y abort)).lines ≡ record { tag = tag; command = Command.AbortE } ∷ []
aborted_lines program window on state cause o y abort tag next =
    let d : IsDrawn Event (next_number Event o.event o.event_drawn) tag = drawn_as _ _ _ next in
    abort_line_at program window on state cause o y abort tag d.n d.number_is d.tag_is

pub aborted_none : (program : Meaning) (window : ℕ) (on : Bool) (state : State) (cause : Option Cause) (o : OpenValue)
    (y : Progress)
    (abort : Option Tag) → next_tag o Kind.AbortE ≡ None
    → client_aborted (seen program window on state cause o y abort)
    ≡ record { client = faulted Cause.TagsSpent (seen program window on state cause o y abort); lines = [] }
aborted_none program window on state cause o y abort next =
    let d : next_number Event o.event o.event_drawn ≡ None = not_drawn _ _ next in rw d refl
