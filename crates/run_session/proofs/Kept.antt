-- What the calls of a run keep of a client, and what they report.
use Rattle.run_session.proofs.Names.{[], ◌++◌, ◌∙◌, ◌∷◌, ◌≡◌, Abort, Act, ap, append-nil, append_assoc, behind_call, behind_calls, Bool, Call}
use Rattle.run_session.proofs.Names.{ClientEnd, cond, Connected, done_by, false, Feed, IsRunCall, Leave, List, numbered, possible, ReadOne, refl}
use Rattle.run_session.proofs.Names.{Restart, Resume, Send, Sent, sym, told_behind, true, ℕ}
use Rattle.line_framing.specs.Next.{next_of}
use Rattle.protocol_model.specs.Client.{Client, next_number, Tally}
use Rattle.record_text.proofs.Counts.{Grows, grows_told, heard_grows}
use Rattle.record_text.proofs.Views.{aborts_view, read_all, sends_view, View, view}
use Rattle.dme_line.specs.declared.tags.Tag.{Tag}
use Rattle.record_text.proofs.RunNames.{◌||◌, act_of, begins_session, counted_next, Datum, fine, heard, measured, passed_over, Planned, Some}
use Rattle.record_text.proofs.RunNames.{None, Option, step_cases, subst, suc, Table, tallied, tells_homed, Wanted}
use Rattle.contact_ledger.specs.declared.features.Feature.{Feature}
use Rattle.fixed_um.specs.declared.lengths.Point.{Point}
use Rattle.contact_ledger.specs.declared.features.Origin.{Origin}
use Rattle.protocol_model.specs.Client.{joined, origin_of}
use Rattle.run_session.specs.Records.{AddsFeatures}
use Rattle.protocol_model.specs.Open.{Effect}
use Rattle.protocol_model.specs.Replies.{Mark}
use Rattle.protocol_model.specs.declared.plans.Does.{Does}

-- acts are counted after those that were, on the same connection, and features are complete after those that were
pub record Stays (c d : Client) : Type 0 where
  pub grows : Grows c.table.tally d.table.tally
  pub adds : AddsFeatures c.table.tally.features d.table.tally.features
  pub last : d.last ≡ c.last

pub none_added : (xs ys : List Feature) → ys ≡ xs → AddsFeatures xs ys
none_added xs ys is = record { more = []; is = is ∙ sym (append-nil xs) }

joined_adds : (ws : List Wanted) (fs : List Feature) (points : List Point) (origin : Option Origin) → AddsFeatures fs (joined ws fs points origin)
joined_adds [] fs points origin = none_added fs fs refl
joined_adds (w ∷ ws) [] points origin = record { more = joined (w ∷ ws) [] points origin; is = refl }
joined_adds (w ∷ ws) (f ∷ fs) points origin =
    let rest = joined_adds ws fs points origin in record { more = rest.more; is = ap (λ (l : List Feature). f ∷ l) rest.is }

measured_adds : (ws : List Wanted) (does : Does) (given : Option Datum) (y : Tally) → AddsFeatures y.features (measured ws does given y).features
measured_adds ws (Does.Touches t false) (Some (Datum.Point p)) y = none_added y.features y.features refl
measured_adds ws (Does.Touches t true) (Some (Datum.Point p)) y =
    joined_adds ws y.features (y.points ++ p ∷ []) (origin_of y.connection t.frame)
measured_adds ws (Does.Touches t false) (Some (Datum.Homed homed)) y = none_added y.features y.features refl
measured_adds ws (Does.Touches t true) (Some (Datum.Homed homed)) y = none_added y.features y.features refl
measured_adds ws (Does.Touches t false) None y = none_added y.features y.features refl
measured_adds ws (Does.Touches t true) None y = none_added y.features y.features refl
measured_adds ws Does.Nothing given y = none_added y.features y.features refl
measured_adds ws Does.AsksHomed given y = none_added y.features y.features refl
measured_adds ws Does.Homes given y = none_added y.features y.features refl
measured_adds ws (Does.Moves p f) given y = none_added y.features y.features refl
measured_adds ws (Does.Changes n) given y = none_added y.features y.features refl
measured_adds ws (Does.Frames f) given y = none_added y.features y.features refl

effect_adds : (ws : List Wanted) (e : Effect) (y : Tally) → AddsFeatures y.features (tallied ws e y).features
effect_adds ws Effect.Quiet y = none_added y.features y.features refl
effect_adds ws Effect.Failure y = none_added y.features y.features refl
effect_adds ws (Effect.Count kind given) y = go y.todo
  where
    go : (todo : List Planned) → AddsFeatures y.features (counted_next ws kind given todo y).features
    go [] = none_added y.features y.features refl
    go (q ∷ rest) = measured_adds ws q.does given (record y {
      session = y.session || begins_session kind;
      todo = passed_over (tells_homed kind given) rest;
      unsent = passed_over (tells_homed kind given) y.unsent;
      counted = y.counted ++ act_of q.does given;
      completed = suc y.completed;
    })

heard_adds : (ws : List Wanted) (b c : Table) (t : Tag) (m : Mark) → heard ws b t m ≡ fine c → AddsFeatures b.tally.features c.tally.features
heard_adds ws b c t m is =
    let same : AddsFeatures b.tally.features b.tally.features = none_added b.tally.features b.tally.features refl in
    step_cases ws b t m c (AddsFeatures b.tally.features c.tally.features) is
    (λ zero_tag same_table. subst (λ (x : Table). AddsFeatures b.tally.features x.tally.features) same_table same)
    (λ n hs e sort here after. subst (λ (x : Table). AddsFeatures b.tally.features x.tally.features) (sym after) (effect_adds ws e b.tally))
    (λ n hs e sort other here after. subst (λ (x : Table). AddsFeatures b.tally.features x.tally.features) (sym after) same)

none_more : (y z : Tally) → z.counted ≡ y.counted → z.connection ≡ y.connection → Grows y z
none_more y z same number = record { more = []; acts = same ∙ sym (append-nil y.counted); number = number }

keeps_same : (c d : Client) → view d ≡ view c → Stays c d
keeps_same c d is = record {
  grows = none_more c.table.tally d.table.tally (ap (λ (v : View). v.counted) is) (ap (λ (v : View). v.connection) is);
  adds = none_added c.table.tally.features d.table.tally.features (ap (λ (v : View). v.features) is);
  last = ap (λ (v : View). v.last) is;
}

done_keeps : (call : Call) (e : ClientEnd) → IsRunCall call → Stays e.client (done_by call e).client
done_keeps (Connected n) e h = absurd h
done_keeps Resume e h = absurd h
done_keeps (Restart k) e h = absurd h
done_keeps Send e h = keeps_same e.client (done_by Send e).client
    (sends_view e.client e.client.table.tally.unsent (next_number Tag.Std e.client.table.standard e.client.drawn))
done_keeps (Feed bytes) e h = keeps_same e.client e.client refl
done_keeps ReadOne e h = read_all e.client (λ (d : Client). Stays e.client d) (record {
  same = keeps_same e.client e.client refl;
  fault = λ cause. record {
    grows = none_more e.client.table.tally e.client.table.tally refl refl;
    adds = none_added e.client.table.tally.features e.client.table.tally.features refl;
    last = refl;
  };
  reply = λ t m b s is. record {
    grows = heard_grows e.client.program.features e.client.table b t m is;
    adds = heard_adds e.client.program.features e.client.table b t m is;
    last = refl;
  };
}) (next_of e.input.rest)
done_keeps Abort e h = keeps_same e.client (done_by Abort e).client
    (aborts_view e.client (next_number Tag.Event e.client.table.event e.client.event_drawn))
done_keeps Leave e h = record {
  grows = none_more e.client.table.tally (done_by Leave e).client.table.tally refl refl;
  adds = none_added e.client.table.tally.features (done_by Leave e).client.table.tally.features refl;
  last = refl;
}
done_keeps (Sent k) e h = keeps_same e.client e.client refl

pub call_keeps : (call : Call) (e : ClientEnd) → IsRunCall call → Stays e.client (behind_call call e).client
call_keeps call e h = go (possible call e)
  where
    go : (b : Bool) → Stays e.client (cond b (done_by call e) e).client
    go true = done_keeps call e h
    go false = keeps_same e.client e.client refl

-- ---- what calls report

pub numbered_more : (n : ℕ) (xs ys : List Act) → numbered n (xs ++ ys) ≡ numbered n xs ++ numbered n ys
numbered_more n [] ys = refl
numbered_more n (x ∷ xs) ys = ap (λ (l : List (ℕ × Act)). (n, x) ∷ l) (numbered_more n xs ys)

-- they report what is counted by them
pub record Reports (e : ClientEnd) (calls : List Call) : Type 0 where
  pub more : List Act
  pub acts : (behind_calls calls e).client.table.tally.counted ≡ e.client.table.tally.counted ++ more
  pub told : told_behind calls e ≡ numbered e.client.table.tally.connection more

pub call_reports : (call : Call) (calls : List Call) (e : ClientEnd) → IsRunCall call → Reports (behind_call call e) calls
    → Reports e (call ∷ calls)
call_reports call calls e is rest = record {
  more = first.more ++ rest.more;
  acts = rest.acts ∙ (ap (λ (l : List Act). l ++ rest.more) first.acts ∙ append_assoc y.counted first.more rest.more);
  told = ap (λ (l : List (ℕ × Act)). l ++ told_behind calls f) (grows_told y z first)
      ∙ (ap (λ (l : List (ℕ × Act)). numbered y.connection first.more ++ l)
      (rest.told ∙ ap (λ (n : ℕ). numbered n rest.more) first.number)
      ∙ sym (numbered_more y.connection first.more rest.more));
}
  where
    f : ClientEnd
    f = behind_call call e

    y : Tally
    y = e.client.table.tally

    z : Tally
    z = f.client.table.tally

    first : Grows y z
    first = (call_keeps call e is).grows
