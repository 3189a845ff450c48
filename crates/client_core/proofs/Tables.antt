-- What a mark does to the open commands decides what it does to the table.
use Rattle.client_core.proofs.Names.{◌∙◌, ◌≡◌, ap, Bool, Cause, Datum, Effect, effect_heard, Err, Event, failed_behind, false, Heard, heard_event}
use Rattle.client_core.proofs.Names.{heard_in, heard_standard, is_count, IsRefused, Kind, List, Meaning, None, not, Ok, OpenValue, Option, Progress}
use Rattle.client_core.proofs.Names.{refl, Result, seen, Some, State, Std, subst, sym, table_of, Tag, tally_of, true, Wanted, ℕ}
use Rattle.dme_tags.specs.Opened.{heard}
use Rattle.dme_line.specs.Tags.{is_event_tag}
use Rattle.protocol_model.specs.Replies.{Mark}
use Rattle.protocol_model.specs.Client as client
use Rattle.client_core.proofs.TalliesOn.{tallied_on}

fst_of : {A B C : Type 0} (x y : A) (v w : B) → Path (Result (A × B) C) (Ok (x, v)) (Ok (y, w)) → x ≡ y
fst_of x y v w is = ap (λ r. elim r [ Ok p ↦ p.0 | Err e ↦ x ]) is

snd_of : {A B C : Type 0} (x y : A) (v w : B) → Path (Result (A × B) C) (Ok (x, v)) (Ok (y, w)) → v ≡ w
snd_of x y v w is = ap (λ r. elim r [ Ok p ↦ p.1 | Err e ↦ v ]) is

never : {A C : Type 0} (x : A) (e : C) → Path (Result A C) (Ok x) (Err e) → ⊥
never x e is = absurd (cc is)

on_standard : (ws : List Wanted) (o after : OpenValue) (y : client.Tally) (effect : Effect) (h : Heard)
    → heard_standard o h ≡ Ok (after, effect)
    → client.heard_standard ws (table_of o y) h ≡ Ok (table_of after (client.tallied ws effect y))
on_standard ws o after y effect (Ok (hs, e)) is =
    let whole : record o { standard = hs; failed = failed_behind e o.failed } ≡ after = fst_of _ _ _ _ is in
    let same : e ≡ effect = snd_of _ _ _ _ is in
    subst (λ (a : OpenValue). client.heard_standard ws (table_of o y) (Ok (hs, e)) ≡ Ok (table_of a (client.tallied ws effect y))) whole
    (subst (λ (f : Effect). client.heard_standard ws (table_of o y) (Ok (hs, e))
    ≡ Ok (record { standard = hs; event = o.event; tally = client.tallied ws f y })) same refl)
on_standard ws o after y effect (Err cause) is = absurd (never _ _ (sym is))

on_event : (ws : List Wanted) (o after : OpenValue) (y : client.Tally) (effect : Effect) (h : Heard) → heard_event o h ≡ Ok (after, effect)
    → client.heard_event (table_of o y) h ≡ Ok (table_of after y)
on_event ws o after y effect (Ok (hs, e)) is =
    let whole : record o { event = hs } ≡ after = fst_of _ _ _ _ is in
    subst (λ (a : OpenValue). client.heard_event (table_of o y) (Ok (hs, e)) ≡ Ok (table_of a y)) whole refl
on_event ws o after y effect (Err cause) is = absurd (never _ _ (sym is))

-- a mark that is expected
pub on_table : (ws : List Wanted) (o after : OpenValue) (y : client.Tally) (t : Tag) (m : Mark) (effect : Effect)
    → heard o t m ≡ Ok (after, effect)
    → y.failed ≡ o.failed → client.heard_on ws (table_of o y) t m ≡ Ok (table_of after (tallied_on t ws effect y))
on_table ws o after y (Std n) m effect is same =
    ap (λ (b : Bool). client.heard_standard ws (table_of o y) (heard_in (not b) o.standard (Std n) m)) same
    ∙ on_standard ws o after y effect (heard_in (not o.failed) o.standard (Std n) m) is
on_table ws o after y (Event n) m effect is same = on_event ws o after y effect (heard_in true o.event (Event n) m) is

off_standard : (ws : List Wanted) (o : OpenValue) (y : client.Tally) (cause : Cause) (h : Heard) → heard_standard o h ≡ Err cause
    → client.heard_standard ws (table_of o y) h ≡ Err cause
off_standard ws o y cause (Ok (hs, e)) is = absurd (never _ _ is)
off_standard ws o y cause (Err why) is = ap (λ (c : Result (OpenValue × Effect) Cause). elim c [ Ok p ↦ Err cause | Err w ↦ Err w ]) is

off_event : (o : OpenValue) (y : client.Tally) (cause : Cause) (h : Heard) → heard_event o h ≡ Err cause
    → client.heard_event (table_of o y) h ≡ Err cause
off_event o y cause (Ok (hs, e)) is = absurd (never _ _ is)
off_event o y cause (Err why) is = ap (λ (c : Result (OpenValue × Effect) Cause). elim c [ Ok p ↦ Err cause | Err w ↦ Err w ]) is

-- a mark that is not
pub off_table : (ws : List Wanted) (o : OpenValue) (y : client.Tally) (t : Tag) (m : Mark) (cause : Cause) → heard o t m ≡ Err cause
    → y.failed ≡ o.failed → client.heard_on ws (table_of o y) t m ≡ Err cause
off_table ws o y (Std n) m cause is same =
    ap (λ (b : Bool). client.heard_standard ws (table_of o y) (heard_in (not b) o.standard (Std n) m)) same
    ∙ off_standard ws o y cause (heard_in (not o.failed) o.standard (Std n) m) is
off_table ws o y (Event n) m cause is same = off_event o y cause (heard_in true o.event (Event n) m) is

-- ---- the whole client

-- the numbers of the drawn tags stay
pub record StaysDrawn (o after : OpenValue) : Type 0 where
  pub drawn : after.drawn ≡ o.drawn
  pub event_drawn : after.event_drawn ≡ o.event_drawn

drawn_standard : (o after : OpenValue) (effect : Effect) (h : Heard) → heard_standard o h ≡ Ok (after, effect) → StaysDrawn o after
drawn_standard o after effect (Ok (hs, e)) is =
    let whole : record o { standard = hs; failed = failed_behind e o.failed } ≡ after = fst_of _ _ _ _ is in
    record { drawn = sym (ap (λ (a : OpenValue). a.drawn) whole); event_drawn = sym (ap (λ (a : OpenValue). a.event_drawn) whole) }
drawn_standard o after effect (Err cause) is = absurd (never _ _ (sym is))

drawn_event : (o after : OpenValue) (effect : Effect) (h : Heard) → heard_event o h ≡ Ok (after, effect) → StaysDrawn o after
drawn_event o after effect (Ok (hs, e)) is =
    let whole : record o { event = hs } ≡ after = fst_of _ _ _ _ is in
    record { drawn = sym (ap (λ (a : OpenValue). a.drawn) whole); event_drawn = sym (ap (λ (a : OpenValue). a.event_drawn) whole) }
drawn_event o after effect (Err cause) is = absurd (never _ _ (sym is))

pub stays_drawn : (o after : OpenValue) (t : Tag) (m : Mark) (effect : Effect) → heard o t m ≡ Ok (after, effect) → StaysDrawn o after
stays_drawn o after (Std n) m effect is = drawn_standard o after effect (heard_in (not o.failed) o.standard (Std n) m) is
stays_drawn o after (Event n) m effect is = drawn_event o after effect (heard_in true o.event (Event n) m) is

failed_standard : (o after : OpenValue) (effect : Effect) (h : Heard) → heard_standard o h ≡ Ok (after, effect)
    → after.failed ≡ failed_behind effect o.failed
failed_standard o after effect (Ok (hs, e)) is =
    let whole : record o { standard = hs; failed = failed_behind e o.failed } ≡ after = fst_of _ _ _ _ is in
    let same : e ≡ effect = snd_of _ _ _ _ is in
    sym (ap (λ (a : OpenValue). a.failed) whole) ∙ ap (λ (f : Effect). failed_behind f o.failed) same
failed_standard o after effect (Err cause) is = absurd (never _ _ (sym is))

failed_event : (o after : OpenValue) (effect : Effect) (h : Heard) → heard_event o h ≡ Ok (after, effect) → after.failed ≡ o.failed
failed_event o after effect (Ok (hs, e)) is = sym (ap (λ (a : OpenValue). a.failed) (fst_of (record o { event = hs }) after e effect is))
failed_event o after effect (Err cause) is = absurd (never _ _ (sym is))

-- a mark that counts no command
uncounted_tally : (ws : List Wanted) (p : Progress) (effect : Effect) (failed : Bool) → is_count effect ≡ false
    → client.tallied ws effect (tally_of failed p) ≡ tally_of (failed_behind effect failed) p
uncounted_tally ws p Effect.Quiet failed is = refl
uncounted_tally ws p Effect.Failure failed is = refl
uncounted_tally ws p (Effect.Count k given) failed is = absurd (cc is)

pub uncounted : (ws : List Wanted) (o after : OpenValue) (p : Progress) (t : Tag) (m : Mark) (effect : Effect) → is_count effect ≡ false
    → heard o t m ≡ Ok (after, effect) → client.heard_on ws (table_of o (tally_of o.failed p)) t m
    ≡ Ok (table_of after (tally_of after.failed p))
uncounted ws o after p (Std n) m effect quiet is =
    on_table ws o after (tally_of o.failed p) (Std n) m effect is refl
    ∙ ap (λ (y : client.Tally). Ok (table_of after y)) (uncounted_tally ws p effect o.failed quiet
    ∙ ap (λ (f : Bool). tally_of f p) (sym (failed_standard o after effect (heard_in (not o.failed) o.standard (Std n) m) is)))
uncounted ws o after p (Event n) m effect quiet is =
    on_table ws o after (tally_of o.failed p) (Event n) m effect is refl
    ∙ ap (λ (f : Bool). Ok (table_of after (tally_of f p))) (sym (failed_event o after effect (heard_in true o.event (Event n) m) is))

-- a mark that counts one under a standard tag
pub counted : (ws : List Wanted) (o after : OpenValue) (p q : Progress) (n : ℕ) (m : Mark) (k : Kind) (given : Option Datum)
    → heard o (Std n) m ≡ Ok (after, Effect.Count k given)
    → ((failed : Bool) → tally_of failed q ≡ client.counted_next ws k given (tally_of failed p).todo (tally_of failed p))
    → client.heard_on ws (table_of o (tally_of o.failed p)) (Std n) m ≡ Ok (table_of after (tally_of after.failed q))
counted ws o after p q n m k given is counts =
    on_table ws o after (tally_of o.failed p) (Std n) m (Effect.Count k given) is refl
    ∙ ap (λ (y : client.Tally). Ok (table_of after y)) (sym (counts o.failed)
    ∙ ap (λ (f : Bool). tally_of f q) (sym (failed_standard o after (Effect.Count k given) (heard_in (not o.failed) o.standard (Std n) m)
    is)))

-- and one under an event tag
pub counted_event : (ws : List Wanted) (o after : OpenValue) (p : Progress) (n : ℕ) (m : Mark) (effect : Effect)
    → heard o (Event n) m ≡ Ok (after, effect) → client.heard_on ws (table_of o (tally_of o.failed p)) (Event n) m
    ≡ Ok (table_of after (tally_of after.failed p))
counted_event ws o after p n m effect is =
    on_table ws o after (tally_of o.failed p) (Event n) m effect is refl
    ∙ ap (λ (f : Bool). Ok (table_of after (tally_of f p))) (sym (failed_event o after effect (heard_in true o.event (Event n) m) is))

-- a mark that is unexpected
pub refused : (ws : List Wanted) (o : OpenValue) (p : Progress) (t : Tag) (m : Mark) (why : Option Cause) (cause : Cause)
    → IsRefused (heard o t m) why
    → why ≡ Some cause → client.heard_on ws (table_of o (tally_of o.failed p)) t m ≡ Err cause
refused ws o p t m None cause is same = absurd (is)
refused ws o p t m (Some d) cause is same =
    let one : d ≡ cause = cc same in
    subst (λ (e : Cause). client.heard_on ws (table_of o (tally_of o.failed p)) t m ≡ Err e) one
    (off_table ws o (tally_of o.failed p) t m d is refl)

-- the end of a command is read that counts the next one of the plan
pub counted_read : (program : Meaning) (window : ℕ) (on : Bool) (state : State) (cause : Option Cause) (o after : OpenValue)
    (p q : Progress)
    (abort : Option Tag) (t : Tag) (effect : Effect) (k : Kind) (given : Option Datum) (ends : Bool)
    → is_event_tag t ≡ false
    → heard o t Mark.Done ≡ Ok (after, effect)
    → effect_heard (heard o t Mark.Done) ≡ Some (Effect.Count k given)
    → ((failed : Bool) → tally_of failed q ≡ client.counted_next program.features k given (tally_of failed p).todo (tally_of failed p))
    → q.connection ≡ p.connection → ends ≡ client.ends_abort abort t Mark.Done
    → seen program window on (client.state_behind state ends (table_of after (tally_of after.failed q))) cause after q abort
    ≡ client.client_read (seen program window on state cause o p abort) t Mark.Done
counted_read program window on state cause o after p q abort (Event n) effect k given ends standard is counts told
    number_is ends_is = absurd (cc standard)
counted_read program window on state cause o after p q abort (Std n) effect k given ends standard is counts told
    number_is ends_is =
    let one : Some effect ≡ Some (Effect.Count k given) = sym (ap effect_heard is) ∙ counts in
    let same : effect ≡ Effect.Count k given = cc one in
    let heard_is : heard o (Std n) Mark.Done ≡ Ok (after, Effect.Count k given) = is ∙ ap (λ (e : Effect). Ok (after, e)) same in
    let d : StaysDrawn o after = stays_drawn o after (Std n) Mark.Done (Effect.Count k given) heard_is in
    rw (counted program.features o after p q n Mark.Done k given heard_is told, d.drawn, d.event_drawn, number_is, ends_is) refl
