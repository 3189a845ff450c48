-- A client's table changes as its open commands do.
use Rattle.dme_tags.proofs.Names.{[], ◌∙◌, ◌∷◌, ◌≡◌, ap, Bool, Cause, Client, cond, counted_next, Datum, Effect, Err, Event, failed_behind, false}
use Rattle.dme_tags.proofs.Names.{Heard, heard, heard_event, heard_in, heard_on, heard_standard, is_event_kind, Kind, List, Mark, measured}
use Rattle.dme_tags.proofs.Names.{next_number, next_tag, None, not, number_of, Ok, OpenCommand, OpenValue, Option, refl, Result, Some, Std, sym}
use Rattle.dme_tags.proofs.Names.{Table, Tag, tagged, tallied, Tally, true, ℕ}
use Rattle.protocol_model.specs.Client as client
use Rattle.protocol_model.specs.declared.plans.Planned.{Planned}
use Rattle.protocol_model.specs.declared.plans.Does.{Does}
use Rattle.dme_tags.specs.Tables.{IsTableOf, table_behind}

-- ---- marks

abbrev Answered : Type 0
Answered = Result (OpenValue × Effect) Cause

ok_same : (a b : OpenValue × Effect) → ◌≡◌ {A = Answered} (Ok a) (Ok b) → a ≡ b
ok_same a b is = cc

measured_failed : (c : Client) (does : Does) (given : Option Datum) (y : Tally)
    → (measured c.program.features does given y).failed ≡ y.failed
measured_failed c Does.Nothing given y = refl
measured_failed c Does.AsksHomed given y = refl
measured_failed c Does.Homes given y = refl
measured_failed c (Does.Moves p f) given y = refl
measured_failed c (Does.Changes n) given y = refl
measured_failed c (Does.Frames f) given y = refl
measured_failed c (Does.Touches t true) None y = refl
measured_failed c (Does.Touches t true) (Some (Datum.Point p)) y = refl
measured_failed c (Does.Touches t false) None y = refl
measured_failed c (Does.Touches t false) (Some (Datum.Point p)) y = refl
measured_failed c (Does.Touches t true) (Some (Datum.Homed homed)) y = refl
measured_failed c (Does.Touches t false) (Some (Datum.Homed homed)) y = refl

tallied_failed : (c : Client) (effect : Effect) (y : Tally) → (tallied c.program.features effect y).failed ≡ failed_behind effect y.failed
tallied_failed c Effect.Quiet y = refl
tallied_failed c Effect.Failure y = refl
tallied_failed c (Effect.Count k given) y = go y.todo
  where
    go : (todo : List Planned) → (counted_next c.program.features k given todo y).failed ≡ y.failed
    go [] = refl
    go (p ∷ todo) = measured_failed c p.does given _

on_standard : (b : Table) (o : OpenValue) (n : ℕ) (m : Mark) → IsTableOf b o
    → heard_in (not b.tally.failed) b.standard (Std n) m ≡ heard_in (not o.failed) o.standard (Std n) m
on_standard b o n m at = ap (λ (f : Bool). heard_in (not f) b.standard (Std n) m) at.failed
    ∙ ap (λ (hs : List OpenCommand). heard_in (not o.failed) hs (Std n) m) at.standard

on_event : (b : Table) (o : OpenValue) (n : ℕ) (m : Mark) → IsTableOf b o
    → heard_in true b.event (Event n) m ≡ heard_in true o.event (Event n) m
on_event b o n m at = ap (λ (hs : List OpenCommand). heard_in true hs (Event n) m) at.event

taken_standard : (c : Client) (o next : OpenValue) (n : ℕ) (effect : Effect) (r : Heard) → IsTableOf c.table o
    → heard_standard o r ≡ Ok (next, effect)
    → client.heard_standard c.program.features c.table r ≡ Ok (table_behind c next (Std n) effect)
taken_standard c o next n effect (Ok (hs, e)) at is =
    let both = ok_same _ _ is in
    let new : record o { standard = hs; failed = failed_behind e o.failed } ≡ next = ap (λ (p : OpenValue × Effect). p.0) both in
    let same : e ≡ effect = ap (λ (p : OpenValue × Effect). p.1) both in
    ap (λ (gs : List OpenCommand). Ok (record { standard = gs; event = c.table.event; tally = tallied c.program.features e c.table.tally }))
    (ap (λ (p : OpenValue). p.standard) new)
    ∙ ap (λ (gs : List OpenCommand). Ok (record {
      standard = next.standard;
      event = gs;
      tally =
          tallied c.program.features e c.table.tally;
    }))
    (at.event ∙ ap (λ (p : OpenValue). p.event) new)
    ∙ ap (λ (f : Effect). Ok (record { standard = next.standard; event = next.event; tally = tallied c.program.features f c.table.tally }))
    same
taken_standard c o next n effect (Err cause) at is = absurd (cc)

taken_event : (c : Client) (o next : OpenValue) (n : ℕ) (effect : Effect) (r : Heard) → IsTableOf c.table o
    → heard_event o r ≡ Ok (next, effect)
    → client.heard_event c.table r ≡ Ok (table_behind c next (Event n) effect)
taken_event c o next n effect (Ok (hs, e)) at is =
    let new : record o { event = hs } ≡ next = ap (λ (p : OpenValue × Effect). p.0) (ok_same _ _ is) in
    ap (λ (gs : List OpenCommand). Ok (record { standard = gs; event = hs; tally = c.table.tally })) (at.standard
    ∙ ap (λ (p : OpenValue). p.standard) new)
    ∙ ap (λ (gs : List OpenCommand). Ok (record { standard = next.standard; event = gs; tally = c.table.tally }))
    (ap (λ (p : OpenValue). p.event) new)
taken_event c o next n effect (Err cause) at is = absurd (cc)

pub taken : (c : Client) (o next : OpenValue) (t : Tag) (m : Mark) (effect : Effect) → IsTableOf c.table o → heard o t m ≡ Ok (next, effect)
    → heard_on c.program.features c.table t m ≡ Ok (table_behind c next t effect)
taken c o next (Std n) m effect at is =
    ap (client.heard_standard c.program.features c.table) (on_standard c.table o n m at)
    ∙ taken_standard c o next n effect (heard_in (not o.failed) o.standard (Std n) m) at is
taken c o next (Event n) m effect at is =
    ap (client.heard_event c.table) (on_event c.table o n m at) ∙ taken_event c o next n effect (heard_in true o.event (Event n) m) at is

failed_standard : (o next : OpenValue) (effect : Effect) (r : Heard) → heard_standard o r ≡ Ok (next, effect)
    → failed_behind effect o.failed ≡ next.failed
failed_standard o next effect (Ok (hs, e)) is =
    let both = ok_same _ _ is in
    let new : record o { standard = hs; failed = failed_behind e o.failed } ≡ next = ap (λ (p : OpenValue × Effect). p.0) both in
    let same : e ≡ effect = ap (λ (p : OpenValue × Effect). p.1) both in
    ap (λ (f : Effect). failed_behind f o.failed) (sym same) ∙ ap (λ (p : OpenValue). p.failed) new
failed_standard o next effect (Err cause) is = absurd (cc)

failed_event : (o next : OpenValue) (effect : Effect) (r : Heard) → heard_event o r ≡ Ok (next, effect) → o.failed ≡ next.failed
failed_event o next effect (Ok (hs, e)) is = let new : record o { event = hs }
    ≡ next = ap (λ (p : OpenValue × Effect). p.0) (ok_same _ _ is)
    in ap (λ (p : OpenValue). p.failed) new
failed_event o next effect (Err cause) is = absurd (cc)

pub kept : (c : Client) (o next : OpenValue) (t : Tag) (m : Mark) (effect : Effect) → IsTableOf c.table o → heard o t m ≡ Ok (next, effect)
    → IsTableOf (table_behind c next t effect) next
kept c o next (Std n) m effect at is = record {
  standard = refl;
  event = refl;
  failed = tallied_failed c effect c.table.tally ∙ ap (failed_behind effect) at.failed
      ∙ failed_standard o next effect (heard_in (not o.failed) o.standard (Std n) m) is;
}
kept c o next (Event n) m effect at is = record {
  standard = refl;
  event = refl;
  failed = at.failed ∙ failed_event o next effect (heard_in true o.event (Event n) m) is;
}

refused_standard : (c : Client) (o : OpenValue) (cause : Cause) (r : Heard) → heard_standard o r ≡ Err cause
    → client.heard_standard c.program.features c.table r ≡ Err cause
refused_standard c o cause (Ok (hs, e)) is = absurd (cc)
refused_standard c o cause (Err why) is = let same : why ≡ cause = cc in ap (λ (w : Cause). Err w) same

refused_event : (c : Client) (o : OpenValue) (cause : Cause) (r : Heard) → heard_event o r ≡ Err cause
    → client.heard_event c.table r ≡ Err cause
refused_event c o cause (Ok (hs, e)) is = absurd (cc)
refused_event c o cause (Err why) is = let same : why ≡ cause = cc in ap (λ (w : Cause). Err w) same

pub refused : (c : Client) (o : OpenValue) (t : Tag) (m : Mark) (cause : Cause) → IsTableOf c.table o → heard o t m ≡ Err cause
    → heard_on c.program.features c.table t m ≡ Err cause
refused c o (Std n) m cause at is =
    ap (client.heard_standard c.program.features c.table) (on_standard c.table o n m at)
    ∙ refused_standard c o cause (heard_in (not o.failed) o.standard (Std n) m) is
refused c o (Event n) m cause at is =
    ap (client.heard_event c.table) (on_event c.table o n m at) ∙ refused_event c o cause (heard_in true o.event (Event n) m) is

-- ---- tags

untagged : (sort : ℕ → Tag) → ((n : ℕ) → number_of (sort n) ≡ n) → (r : Option ℕ) (t : Tag) → tagged sort r ≡ Some t
    → (r ≡ Some (number_of t)) × (t ≡ sort (number_of t))
untagged sort its None t is = absurd (cc)
untagged sort its (Some n) t is =
    let same : sort n ≡ t = cc in
    let number : n ≡ number_of t = sym (its n) ∙ ap number_of same in
    (ap (λ (k : ℕ). Some k) number, sym same ∙ ap sort number)

untagged_none : (sort : ℕ → Tag) (r : Option ℕ) → tagged sort r ≡ None → r ≡ None
untagged_none sort None is = refl
untagged_none sort (Some n) is = absurd (cc)

its_standard : (o : OpenValue) (kind : Kind) (r : Option Tag) → is_event_kind kind ≡ false → next_tag o kind ≡ r
    → tagged Std (next_number Std o.standard o.drawn) ≡ r
its_standard o kind r e is =
    ap (λ (b : Bool). cond b (tagged Event (next_number Event o.event o.event_drawn)) (tagged Std (next_number Std o.standard o.drawn)))
    (sym e) ∙ is

pub standard : (o : OpenValue) (kind : Kind) (t : Tag) → is_event_kind kind ≡ false → next_tag o kind ≡ Some t
    → (next_number Std o.standard o.drawn ≡ Some (number_of t)) × (t ≡ Std (number_of t))
standard o kind t e is = untagged Std (λ n. refl) (next_number Std o.standard o.drawn) t (its_standard o kind (Some t) e is)

pub no_standard : (o : OpenValue) (kind : Kind) → is_event_kind kind ≡ false → next_tag o kind ≡ None
    → next_number Std o.standard o.drawn ≡ None
no_standard o kind e is = untagged_none Std (next_number Std o.standard o.drawn) (its_standard o kind None e is)

pub event : (o : OpenValue) (t : Tag) → next_tag o Kind.AbortE ≡ Some t → (next_number Event o.event o.event_drawn ≡ Some (number_of t))
    × (t ≡ Event (number_of t))
event o t is = untagged Event (λ n. refl) (next_number Event o.event o.event_drawn) t is

pub no_event : (o : OpenValue) → next_tag o Kind.AbortE ≡ None → next_number Event o.event o.event_drawn ≡ None
no_event o is = untagged_none Event (next_number Event o.event o.event_drawn) is
