-- A counted command is what `protocol_model` counts.
use Rattle.client_core.proofs.Names.{[], ◌++◌, ◌||◌, ◌∷◌, ◌≡◌, act_of, ap, begins_session, Bool, counted_next, Datum, Does, drop, false, is_contact}
use Rattle.client_core.proofs.Names.{Kind, List, measured, measured_so, None, Option, passed_over, Planned, Progress, refl, Some, suc, sym, Tally}
use Rattle.client_core.proofs.Names.{tally_of, tells_homed, true, Wanted}

-- the next command of the plan
pub counted_is : (ws : List Wanted) (kind : Kind) (given : Option Datum) (p q : Progress) (planned : Planned) (rest : List Planned)
    → drop p.todo p.plan.items ≡ planned ∷ rest
    → ((y : Tally) → measured ws planned.does given (measured_so p.connection p.points p.features y)
    ≡ measured_so p.connection q.points q.features y)
    → q.connection ≡ p.connection → q.session ≡ (p.session || begins_session kind)
    → drop q.todo q.plan.items ≡ passed_over (tells_homed kind given) rest
    → drop q.unsent q.plan.items ≡ passed_over (tells_homed kind given) (drop p.unsent p.plan.items)
    → q.counted.items ≡ p.counted.items ++ act_of planned.does given → q.completed ≡ suc p.completed
    → (failed : Bool) → tally_of failed q ≡ counted_next ws kind given (tally_of failed p).todo (tally_of failed p)
counted_is ws kind given p q planned rest first measures number session todo unsent acts completed failed =
    rw (first, number, session, todo, unsent, acts, completed) (sym (measures (record (tally_of failed p) {
      session = p.session || begins_session kind;
      todo = passed_over (tells_homed kind given) rest;
      unsent = passed_over (tells_homed kind given) (drop p.unsent p.plan.items);
      counted = p.counted.items ++ act_of planned.does given;
      completed = suc p.completed;
    })))

-- after the whole plan nothing
pub none_counted : (ws : List Wanted) (kind : Kind) (given : Option Datum) (p : Progress) → drop p.todo p.plan.items ≡ []
    → (failed : Bool) → tally_of failed p ≡ counted_next ws kind given (tally_of failed p).todo (tally_of failed p)
none_counted ws kind given p none failed =
    ap (λ (l : List Planned). counted_next ws kind given l (tally_of failed p)) (sym none)

-- what is no contact measures nothing
pub unmeasured : (ws : List Wanted) (does : Does) (given : Option Datum) (y : Tally) → is_contact does given ≡ false
    → measured ws does given y ≡ y
unmeasured ws Does.Nothing given y e = refl
unmeasured ws Does.AsksHomed given y e = refl
unmeasured ws Does.Homes given y e = refl
unmeasured ws (Does.Moves p f) given y e = refl
unmeasured ws (Does.Changes n) given y e = refl
unmeasured ws (Does.Frames f) given y e = refl
unmeasured ws (Does.Touches t false) None y e = refl
unmeasured ws (Does.Touches t true) None y e = refl
unmeasured ws (Does.Touches t false) (Some (Datum.Homed h)) y e = refl
unmeasured ws (Does.Touches t true) (Some (Datum.Homed h)) y e = refl
unmeasured ws (Does.Touches t false) (Some (Datum.Point p)) y e = absurd (cc e)
unmeasured ws (Does.Touches t true) (Some (Datum.Point p)) y e = absurd (cc e)
