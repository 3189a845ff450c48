-- What holds of the reported acts after every list of calls.
use Rattle.record_text.proofs.RunNames.{[], ◌++◌, ◌<◌, ◌∙◌, ◌∷◌, ◌≡◌, Abort, Act, acts_done, acts_more, acts_none, acts_on, ap, append-nil, append_assoc}
use Rattle.record_text.proofs.RunNames.{are_ours, AreUpTo, arith, behind_call, behind_calls, behind_holds, Bool, Call, Client, client_behind}
use Rattle.record_text.proofs.RunNames.{client_connected, ClientEnd, cond, Connected, contacts, contacts_more, done_by, done_on, drop, drop-append_seam}
use Rattle.record_text.proofs.RunNames.{EndsUnfinished, false, false≢true, Feature, Feed, first_touches, Holds, is_apart, IsProgram, Leave, length, List}
use Rattle.record_text.proofs.RunNames.{ltb-true, MadeContact, may_connect, may_read, Meaning, nat_lt, new_client_end, next_number, next_of, plan}
use Rattle.record_text.proofs.RunNames.{plan_touches, Plans, plans_begun, Point, possible, program_has, program_is_plain, progress_new, progress_served}
use Rattle.record_text.proofs.RunNames.{ReadOne, refl, Restart, Resume, Send, Sent, Served, served_sound, served_take, Serves, Sound, subst, suc, sym}
use Rattle.record_text.proofs.RunNames.{Table, Tag, take, take-append_seam, told_behind, told_by, Touch, true, up_to_above, up_to_done, up_to_join, Wanted}
use Rattle.record_text.proofs.RunNames.{with_made, zero, ℕ}
use Rattle.protocol_model.specs.declared.plans.Start.{Start}
use Rattle.client_core.proofs.Fits.{both}
use Rattle.record_text.proofs.RunSounds.{sound_served, served_ours, serves_count, IsCut, cut_at}
use Rattle.record_text.proofs.Views.{View, view, view_by, told_to, none_told, none_anew, with_none, sends_view, aborts_view, read_all}
use Rattle.record_text.proofs.Counts.{IsGoing, Grows, grows_told, heard_grows, heard_goes, numbered_done}

-- ---- what was counted on the present connection

-- no act was reported on a connection to come; on a connection, what is counted are the acts reported there
pub record IsHere (told : List (ℕ × Act)) (v : View) : Type 0 where
  pub up_to : AreUpTo v.last told
  pub number : v.on ≡ true → v.connection ≡ v.last
  pub here : v.on ≡ true → acts_on v.last told ≡ v.counted

-- of a client on no connection nothing more is claimed
here_off : (told : List (ℕ × Act)) (v : View) → AreUpTo v.last told → v.on ≡ false → IsHere told v
here_off told v up off = record {
  up_to = up;
  number = λ on. absurd (false≢true (sym off ∙ on));
  here = λ on. absurd (false≢true (sym off ∙ on));
}

-- acts are counted after those that were
grown_here : (p : Meaning) (last : ℕ) (told : List (ℕ × Act)) (b c : Table) → Grows b.tally c.tally
    → IsHere told (view_by p true last b.tally)
    → IsHere (told ++ told_to (view_by p true last b.tally) (view_by p true last c.tally)) (view_by p true last c.tally)
grown_here p last told b c g h =
    let more : told_to (view_by p true last b.tally) (view_by p true last c.tally) ≡ done_on last g.more =
    grows_told b.tally c.tally g ∙ (numbered_done b.tally.connection g.more
    ∙ ap (λ (n : ℕ). done_on n g.more) (h.number refl)) in
    subst (λ (l : List (ℕ × Act)). IsHere (told ++ l) (view_by p true last c.tally)) (sym more)
    (record {
      up_to = up_to_join last told (done_on last g.more) h.up_to (up_to_done last g.more);
      number = λ on. g.number ∙ h.number refl;
      here = λ on. acts_more last told (done_on last g.more)
          ∙ (ap (λ (l : List Act). acts_on last told ++ l) (acts_done last g.more)
          ∙ (ap (λ (l : List Act). l ++ g.more) (h.here refl) ∙ sym g.acts));
    })

-- what holds after a change that says these acts
abbrev HereTo : List (ℕ × Act) → View → View → Type 0
HereTo told v w = IsHere (told ++ told_to v w) w

here_same : (told : List (ℕ × Act)) (v w : View) → w ≡ v → IsHere told v → HereTo told v w
here_same told v w same h = subst (HereTo told v) (sym same)
    (with_none (λ (l : List (ℕ × Act)). IsHere l v) told (told_to v v) (none_told v.connection v.counted) h)

read_on : (c : Client) → may_read c ≡ true → c.on ≡ true
read_on c e = (both c.on _ e).0

read_here : (told : List (ℕ × Act)) (e : ClientEnd) → e.client.on ≡ true → IsHere told (view e.client)
    → HereTo told (view e.client) (view (done_by ReadOne e).client)
read_here told e on h =
    read_all e.client (λ (d : Client). HereTo told (view e.client) (view d)) (record {
      same = here_same told (view e.client) (view e.client) refl h;
      fault = λ cause. here_same told (view e.client) (view e.client) refl h;
      reply = λ t m b s is. go e.client.on on b (heard_grows e.client.program.features e.client.table b t m is) h;
    }) (next_of e.input.rest)
  where
    go : (now : Bool) → now ≡ true → (b : Table) → Grows e.client.table.tally b.tally
        → IsHere told (view_by e.client.program now e.client.last e.client.table.tally)
        → HereTo told (view_by e.client.program now e.client.last e.client.table.tally)
        (view_by e.client.program now e.client.last b.tally)
    go true is b g i = grown_here e.client.program e.client.last told e.client.table b g i
    go false is b g i = absurd (false≢true is)

connected_here : (told : List (ℕ × Act)) (n : ℕ) (c : Client) → may_connect n c ≡ true → IsHere told (view c)
    → IsHere told (view (client_connected n c))
connected_here told n c may h =
    let numbers = both (nat_lt c.last n) _ (both (is_apart c.state) _ may).1 in
    let above : c.last < n = ltb-true c.last n numbers.0 in
    record {
      up_to = up_to_above c.last n told (omega (arith, above)) h.up_to;
      number = λ on. refl;
      here = λ on. acts_none c.last n told h.up_to above;
    }

pub done_here : (told : List (ℕ × Act)) (call : Call) (e : ClientEnd) → possible call e ≡ true → IsHere told (view e.client)
    → HereTo told (view e.client) (view (done_by call e).client)
done_here told (Connected n) e may h =
    with_none (λ (l : List (ℕ × Act)). IsHere l (view (client_connected n e.client))) told
    (told_to (view e.client) (view (client_connected n e.client))) (none_anew n e.client.table.tally.counted)
    (connected_here told n e.client may h)
done_here told Send e may h = here_same told (view e.client) (view (done_by Send e).client)
    (sends_view e.client e.client.table.tally.unsent (next_number Tag.Std e.client.table.standard e.client.drawn)) h
done_here told (Feed bytes) e may h = here_same told (view e.client) (view e.client) refl h
done_here told ReadOne e may h = read_here told e (read_on e.client may) h
done_here told Abort e may h = here_same told (view e.client) (view (done_by Abort e).client)
    (aborts_view e.client (next_number Tag.Event e.client.table.event e.client.event_drawn)) h
done_here told Resume e may h =
    with_none (λ (l : List (ℕ × Act)). IsHere l (view (done_by Resume e).client)) told
    (told_to (view e.client) (view (done_by Resume e).client)) (none_told e.client.table.tally.connection e.client.table.tally.counted)
    (record { up_to = h.up_to; number = h.number; here = h.here })
done_here told Leave e may h =
    with_none (λ (l : List (ℕ × Act)). IsHere l (view (done_by Leave e).client)) told
    (told_to (view e.client) (view (done_by Leave e).client)) (none_told e.client.table.tally.connection e.client.table.tally.counted)
    (here_off told (view (done_by Leave e).client) h.up_to refl)
done_here told (Restart k) e may h =
    with_none (λ (l : List (ℕ × Act)). IsHere l (view (done_by (Restart k) e).client)) told
    (told_to (view e.client) (view (done_by (Restart k) e).client)) (none_anew e.client.last e.client.table.tally.counted)
    (here_off told (view (done_by (Restart k) e).client) h.up_to refl)
done_here told (Sent k) e may h = here_same told (view e.client) (view e.client) refl h

call_here : (told : List (ℕ × Act)) (call : Call) (e : ClientEnd) → IsHere told (view e.client)
    → IsHere (told ++ told_by call e) (view (behind_call call e).client)
call_here told call e h = go (possible call e) refl
  where
    go : (b : Bool) → possible call e ≡ b → HereTo told (view e.client) (view (cond b (done_by call e) e).client)
    go true may = done_here told call e may h
    go false never = here_same told (view e.client) (view e.client) refl h

calls_here : (told : List (ℕ × Act)) (calls : List Call) (e : ClientEnd) → IsHere told (view e.client)
    → IsHere (told ++ told_behind calls e) (view (behind_calls calls e).client)
calls_here told [] e h = with_none (λ (l : List (ℕ × Act)). IsHere l (view e.client)) told [] refl h
calls_here told (call ∷ calls) e h =
    subst (λ (l : List (ℕ × Act)). IsHere l (view (behind_calls calls (behind_call call e)).client))
    (append_assoc told (told_by call e) (told_behind calls (behind_call call e)))
    (calls_here (told ++ told_by call e) calls (behind_call call e) (call_here told call e h))

pub new_here : (p : Meaning) (kept : List Feature) (window : ℕ) → IsHere [] (view (new_client_end p kept window).client)
new_here p kept window = here_off [] (view (new_client_end p kept window).client) tt refl

-- after every list of calls, from any program and any features
behind_here : (p : Meaning) (kept : List Feature) (window : ℕ) (calls : List Call)
    → IsHere (told_behind calls (new_client_end p kept window)) (view (client_behind calls p kept window))
behind_here p kept window calls = calls_here [] calls (new_client_end p kept window) (new_here p kept window)

pub counted_were_told : (p : Meaning) (kept : List Feature) (window : ℕ) (calls : List Call)
    → (client_behind calls p kept window).on ≡ true
    → acts_on (client_behind calls p kept window).last (told_behind calls (new_client_end p kept window))
    ≡ (client_behind calls p kept window).table.tally.counted
counted_were_told p kept window calls on = IsHere.here (behind_here p kept window calls) on

-- ---- what serves the features

-- the features that a client holds are served by the contacts of these acts; on a connection it continues with the next one, and on none it
-- has no points
pub record Tells (acts : List (ℕ × Act)) (v : View) : Type 0 where
  pub served : Served v.program.features v.features (contacts acts)
  pub going : v.on ≡ true → IsGoing v (contacts acts)
  pub rests : v.on ≡ false → v.points ≡ []

tells_off : (acts : List (ℕ × Act)) (v : View) → Served v.program.features v.features (contacts acts) → v.on ≡ false → v.points ≡ []
    → Tells acts v
tells_off acts v served off none = record {
  served = served;
  going = λ on. absurd (false≢true (sym off ∙ on));
  rests = λ off. none;
}

tells_on : (acts : List (ℕ × Act)) (v : View) → IsGoing v (contacts acts) → v.on ≡ true → Tells acts v
tells_on acts v g on = record {
  served = progress_served v.program.features v.connection v.features v.points (contacts acts) g.left g.progress;
  going = λ on. g;
  rests = λ off. absurd (false≢true (sym off ∙ on));
}

-- at the beginning of a plan nothing is unfinished
plan_goes : (p : Meaning) (last n : ℕ) (counted : List Act) (fs : List Feature) (start : Start) (ms : List MadeContact) → IsProgram p
    → Served p.features fs ms
    → IsGoing (record {
      program = p;
      on = true;
      last = last;
      connection = n;
      todo = plan p (length fs) start;
      counted = counted;
      points = [];
      features = fs;
    }) ms
plan_goes p last n counted fs start ms program served = record {
  left = drop (length fs) p.features;
  touches = plan_touches p (length fs) start (program_is_plain p program);
  progress = progress_new p.features n fs ms served (program_has p (program_is_plain p program));
  ended = λ none. refl;
}

-- what holds after a change that says these acts
abbrev TellsTo : List (ℕ × Act) → View → View → Type 0
TellsTo acts v w = Tells (acts ++ told_to v w) w

tells_same : (acts : List (ℕ × Act)) (v w : View) → w ≡ v → Tells acts v → TellsTo acts v w
tells_same acts v w same h = subst (TellsTo acts v) (sym same)
    (with_none (λ (l : List (ℕ × Act)). Tells l v) acts (told_to v v) (none_told v.connection v.counted) h)

read_tells : (acts : List (ℕ × Act)) (e : ClientEnd) (p : Meaning) (plans : Plans) → Holds p e.client plans → e.client.on ≡ true
    → Tells acts (view e.client)
    → TellsTo acts (view e.client) (view (done_by ReadOne e).client)
read_tells acts e p plans holds on h =
    read_all e.client (λ (d : Client). TellsTo acts (view e.client) (view d)) (record {
      same = tells_same acts (view e.client) (view e.client) refl h;
      fault = λ cause. tells_same acts (view e.client) (view e.client) refl h;
      reply = λ t m b s is. tells_on
          (acts ++ told_to (view e.client) (view_by e.client.program e.client.on e.client.last b.tally))
          (view_by e.client.program e.client.on e.client.last b.tally)
          (subst (λ (ms : List MadeContact). IsGoing (view_by e.client.program e.client.on e.client.last b.tally) ms)
          (sym (contacts_more acts (told_to (view e.client) (view_by e.client.program e.client.on e.client.last b.tally))))
          (heard_goes e.client.program e.client.on e.client.last holds.program e.client.table b t m plans (contacts acts) is
          (holds.live on) (h.going on))) on;
    }) (next_of e.input.rest)

done_tells : (acts : List (ℕ × Act)) (call : Call) (e : ClientEnd) (p : Meaning) (plans : Plans) → Holds p e.client plans
    → possible call e ≡ true → Tells acts (view e.client) → TellsTo acts (view e.client) (view (done_by call e).client)
done_tells acts (Connected n) e p plans holds may h =
    with_none (λ (l : List (ℕ × Act)). Tells l (view (client_connected n e.client))) acts
    (told_to (view e.client) (view (client_connected n e.client))) (none_anew n e.client.table.tally.counted)
    (tells_on acts (view (client_connected n e.client))
    (plan_goes e.client.program n n [] e.client.table.tally.features Start.NewConnection (contacts acts) holds.program h.served) refl)
done_tells acts Send e p plans holds may h = tells_same acts (view e.client) (view (done_by Send e).client)
    (sends_view e.client e.client.table.tally.unsent (next_number Tag.Std e.client.table.standard e.client.drawn)) h
done_tells acts (Feed bytes) e p plans holds may h = tells_same acts (view e.client) (view e.client) refl h
done_tells acts ReadOne e p plans holds may h = read_tells acts e p plans holds (read_on e.client may) h
done_tells acts Abort e p plans holds may h = tells_same acts (view e.client) (view (done_by Abort e).client)
    (aborts_view e.client (next_number Tag.Event e.client.table.event e.client.event_drawn)) h
done_tells acts Resume e p plans holds may h =
    with_none (λ (l : List (ℕ × Act)). Tells l (view (done_by Resume e).client)) acts
    (told_to (view e.client) (view (done_by Resume e).client)) (none_told e.client.table.tally.connection e.client.table.tally.counted)
    (record {
      served = h.served;
      going = λ on. let g = plan_goes e.client.program e.client.last e.client.table.tally.connection e.client.table.tally.counted
          e.client.table.tally.features Start.SameConnection (contacts acts) holds.program h.served
          in record { left = g.left; touches = g.touches; progress = g.progress; ended = g.ended };
      rests = λ off. refl;
    })
done_tells acts Leave e p plans holds may h =
    with_none (λ (l : List (ℕ × Act)). Tells l (view (done_by Leave e).client)) acts
    (told_to (view e.client) (view (done_by Leave e).client)) (none_told e.client.table.tally.connection e.client.table.tally.counted)
    (tells_off acts (view (done_by Leave e).client) h.served refl refl)
done_tells acts (Restart k) e p plans holds may h =
    with_none (λ (l : List (ℕ × Act)). Tells l (view (done_by (Restart k) e).client)) acts
    (told_to (view e.client) (view (done_by (Restart k) e).client)) (none_anew e.client.last e.client.table.tally.counted)
    (tells_off acts (view (done_by (Restart k) e).client)
    (served_take k e.client.program.features e.client.table.tally.features (contacts acts) h.served) refl refl)
done_tells acts (Sent k) e p plans holds may h = tells_same acts (view e.client) (view e.client) refl h

call_tells : (acts : List (ℕ × Act)) (call : Call) (e : ClientEnd) (p : Meaning) (plans : Plans) → Holds p e.client plans
    → Tells acts (view e.client) → Tells (acts ++ told_by call e) (view (behind_call call e).client)
call_tells acts call e p plans holds h = go (possible call e) refl
  where
    go : (b : Bool) → possible call e ≡ b → TellsTo acts (view e.client) (view (cond b (done_by call e) e).client)
    go true may = done_tells acts call e p plans holds may h
    go false never = tells_same acts (view e.client) (view e.client) refl h

-- ---- calls, from a client that was never on a connection

calls_more : (calls : List Call) (call : Call) (e : ClientEnd)
    → behind_calls (calls ++ call ∷ []) e ≡ behind_call call (behind_calls calls e)
calls_more [] call e = refl
calls_more (x ∷ calls) call e = calls_more calls call (behind_call x e)

-- calls led to it
record IsBehind (p : Meaning) (kept : List Feature) (window : ℕ) (e : ClientEnd) : Type 0 where
  calls : List Call
  is : e ≡ behind_calls calls (new_client_end p kept window)

behind_one_more : (p : Meaning) (kept : List Feature) (window : ℕ) (call : Call) (e : ClientEnd) → IsBehind p kept window e
    → IsBehind p kept window (behind_call call e)
behind_one_more p kept window call e b = record {
  calls = IsBehind.calls b ++ call ∷ [];
  is = ap (behind_call call) (IsBehind.is b) ∙ sym (calls_more (IsBehind.calls b) call (new_client_end p kept window));
}

behind_tells : (p : Meaning) (kept : List Feature) (window : ℕ) → IsProgram p → are_ours p.features kept ≡ true
    → (acts : List (ℕ × Act)) (calls : List Call) (e : ClientEnd) → IsBehind p kept window e → Tells acts (view e.client)
    → Tells (acts ++ told_behind calls e) (view (behind_calls calls e).client)
behind_tells p kept window program ours acts [] e b h = with_none (λ (l : List (ℕ × Act)). Tells l (view e.client)) acts [] refl h
behind_tells p kept window program ours acts (call ∷ calls) e b h =
    let before : List Call = IsBehind.calls b in
    let holds : Holds p e.client (plans_begun before p kept window) =
    subst (λ (x : ClientEnd). Holds p x.client (plans_begun before p kept window)) (sym (IsBehind.is b))
    (behind_holds p kept window before program ours) in
    subst (λ (l : List (ℕ × Act)). Tells l (view (behind_calls calls (behind_call call e)).client))
    (append_assoc acts (told_by call e) (told_behind calls (behind_call call e)))
    (behind_tells p kept window program ours (acts ++ told_by call e) calls (behind_call call e)
    (behind_one_more p kept window call e b) (call_tells acts call e p (plans_begun before p kept window) holds h))

-- what was reported after calls, from features that are sound for earlier acts
pub record IsTold (p : Meaning) (acts : List (ℕ × Act)) (c : Client) : Type 0 where
  pub same : c.program ≡ p
  pub tells : Tells acts (view c)

pub is_told : (p : Meaning) (kept : List Feature) (window : ℕ) (calls : List Call) (earlier : List (ℕ × Act)) → IsProgram p
    → Sound p.features kept earlier
    → IsTold p (earlier ++ told_behind calls (new_client_end p kept window)) (client_behind calls p kept window)
is_told p kept window calls earlier program sound =
    let served : Served p.features kept (contacts earlier) = sound_served p.features kept earlier sound in
    let ours : are_ours p.features kept ≡ true = served_ours p.features kept (contacts earlier) served in
    record {
      same = Holds.same (behind_holds p kept window calls program ours);
      tells = behind_tells p kept window program ours earlier calls (new_client_end p kept window) (record { calls = []; is = refl })
          (tells_off earlier (view (new_client_end p kept window).client) served refl refl);
    }

pub told_are_sound : (p : Meaning) (kept : List Feature) (window : ℕ) (calls : List Call) (earlier : List (ℕ × Act)) → IsProgram p
    → Sound p.features kept earlier
    → Sound p.features (client_behind calls p kept window).table.tally.features
    (earlier ++ told_behind calls (new_client_end p kept window))
told_are_sound p kept window calls earlier program sound =
    let acts : List (ℕ × Act) = earlier ++ told_behind calls (new_client_end p kept window) in
    let c : Client = client_behind calls p kept window in
    let t : IsTold p acts c = is_told p kept window calls earlier program sound in
    served_sound p.features c.table.tally.features acts
    (subst (λ (q : Meaning). Served q.features c.table.tally.features (contacts acts)) t.same t.tells.served)

-- ---- the unfinished feature

-- the touches made are the first of the next feature
made_are_first : (front left : List Wanted) (made : List Touch) (n k : ℕ) → length front ≡ n → length made ≡ k → (left ≡ [] → made ≡ [])
    → made ≡ take k (first_touches (drop n (front ++ with_made made left)))
made_are_first front left made n k many long none =
    subst (λ (i : ℕ). made ≡ take k (first_touches (drop i (front ++ with_made made left)))) many
    (subst (λ (ws : List Wanted). made ≡ take k (first_touches ws)) (sym (drop-append_seam front (with_made made left)))
    (subst (λ (i : ℕ). made ≡ take i (first_touches (with_made made left))) long (go left none)))
  where
    take_none : (i : ℕ) → ◌≡◌ {A = List Touch} [] (take i [])
    take_none zero = refl
    take_none (suc i) = refl

    go : (ws : List Wanted) → (ws ≡ [] → made ≡ []) → made ≡ take (length made) (first_touches (with_made made ws))
    go [] empty = empty refl ∙ take_none (length made)
    go (w ∷ ws) empty = sym (take-append_seam made w.touches)

-- if there is no point, no touch was made
none_made : (n : ℕ) (ts : List Touch) (ps : List Point) (ms : List MadeContact) → Serves n ts ps ms → ps ≡ [] → ts ≡ []
none_made n [] ps ms h none = refl
none_made n (t ∷ ts) [] ms h none = absurd h
none_made n (t ∷ ts) (p ∷ ps) ms h none = absurd (cc)

ends_going : (ws : List Wanted) (acts : List (ℕ × Act)) (v : View) → v.program.features ≡ ws → IsGoing v (contacts acts)
    → EndsUnfinished ws v.features v.points v.connection acts
ends_going ws acts v same g =
    let h = g.progress in
    let cut : IsCut acts h.before h.run = cut_at acts h.before h.run h.parts in
    let served : Served v.program.features v.features (contacts cut.before) =
    subst (λ (l : List MadeContact). Served v.program.features v.features l) (sym cut.first) h.served in
    let first : h.made ≡ take (length v.points) (first_touches (drop (length v.features) (h.front ++ with_made h.made g.left))) =
    made_are_first h.front g.left h.made (length v.features) (length v.points) h.long
    (sym (serves_count v.connection h.made v.points h.run h.serves))
    (λ none. none_made v.connection h.made v.points h.run h.serves (g.ended none)) in
    record {
      before = cut.before;
      run = cut.after;
      parts = cut.parts;
      sound = served_sound ws v.features cut.before (subst (λ (l : List Wanted). Served l v.features (contacts cut.before)) same served);
      serves = subst (λ (ms : List MadeContact).
          Serves v.connection (take (length v.points) (first_touches (drop (length v.features) ws))) v.points ms) (sym cut.then)
          (subst (λ (ts : List Touch). Serves v.connection ts v.points h.run)
          (first ∙ ap (λ (l : List Wanted). take (length v.points) (first_touches (drop (length v.features) l))) (sym h.whole ∙ same))
          h.serves);
    }

-- without points nothing is unfinished, whatever the connection
ends_none : (ws : List Wanted) (acts : List (ℕ × Act)) (fs : List Feature) (points : List Point) (n : ℕ) → points ≡ []
    → Served ws fs (contacts acts) → EndsUnfinished ws fs points n acts
ends_none ws acts fs points n none served =
    subst (λ (ps : List Point). EndsUnfinished ws fs ps n acts) (sym none) (record {
      before = acts;
      run = [];
      parts = sym (append-nil acts);
      sound = served_sound ws fs acts served;
      serves = no_touch (first_touches (drop (length fs) ws));
    })
  where
    no_touch : (ts : List Touch) → Serves n (take 0 ts) [] []
    no_touch ts = tt

ends_told : (p : Meaning) (acts : List (ℕ × Act)) (c : Client) → IsTold p acts c
    → (c.on ≡ true → c.table.tally.connection ≡ c.last)
    → EndsUnfinished p.features c.table.tally.features c.table.tally.points c.last acts
ends_told p acts c t number = go c.on refl
  where
    go : (b : Bool) → c.on ≡ b → EndsUnfinished p.features c.table.tally.features c.table.tally.points c.last acts
    go true on =
        subst (λ (n : ℕ). EndsUnfinished p.features c.table.tally.features c.table.tally.points n acts) (number on)
        (ends_going p.features acts (view c) (ap (λ (q : Meaning). q.features) t.same) (t.tells.going on))
    go false off =
        ends_none p.features acts c.table.tally.features c.table.tally.points c.last (t.tells.rests off)
        (subst (λ (q : Meaning). Served q.features c.table.tally.features (contacts acts)) t.same t.tells.served)

pub told_ends_unfinished : (p : Meaning) (kept : List Feature) (window : ℕ) (calls : List Call) (earlier : List (ℕ × Act)) → IsProgram p
    → Sound p.features kept earlier
    → EndsUnfinished p.features (client_behind calls p kept window).table.tally.features
    (client_behind calls p kept window).table.tally.points (client_behind calls p kept window).last
    (earlier ++ told_behind calls (new_client_end p kept window))
told_ends_unfinished p kept window calls earlier program sound =
    ends_told p (earlier ++ told_behind calls (new_client_end p kept window)) (client_behind calls p kept window)
    (is_told p kept window calls earlier program sound) (IsHere.number (behind_here p kept window calls))
