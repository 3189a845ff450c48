-- The events of instructions, one after another.
use Rattle.link_world.proofs.Names.{[], ◌++◌, ◌+◌, ◌<◌, ◌∙◌, ◌∷◌, ◌≡◌, ◌≤◌, ◌⊎◌, ap, append_assoc, AreMade, ArePlayed, arith, Bool, drop, Err, Event}
use Rattle.link_world.proofs.Names.{false, false≢true, Headline, inl, inr, Instruction, IsOne, IsReached, IsRound, IsSameKind, Job, Leading, length}
use Rattle.link_world.proofs.Names.{List, Makes, None, Ok, OnErr, OnOk, Option, Outcome, Plays, PlaysPart, PlaysTraced, Point, refl, Result, rules}
use Rattle.link_world.proofs.Names.{run_of, simulated, slice_index_or, Some, Staged, staged, start, subst, suc, sym, take, take_all, take_more, Then}
use Rattle.link_world.proofs.Names.{TraceValue, true, World, WorldValue, zero, ℕ}
use Rattle.link_world.proofs.AllBytes.{one_cut}
use Rattle.link_world.proofs.EventLists.{run_append, leads_more, leads_none, leads_world, leads_value, traces_none}
use Rattle.link_world.proofs.SameKind.{same_run}
use Rattle.link_world.proofs.Reached.{headline}

-- ---- one event

pub once_made : (e : Event) (l m : Staged)
    → Leading (e ∷ []) l m
    → Makes (λ cut w. IsOne (Some e) cut) false None l m
once_made e l m leads = record { events = e ∷ []; made = inl refl; leads = leads; told_is = tt }

pub once_cut : (e : Event) (l m : Staged) → m ≡ l
    → Makes (λ cut w. IsOne (Some e) cut) true None l m
once_cut e l m same = record {
  events = [];
  made = inr (refl, refl);
  leads = subst (λ (x : Staged). Leading [] l x) (sym same) (leads_none l);
  told_is = tt;
}

one_as : (some : World → Option Event) (e : Event) (cut : Bool) (l m : Staged) → some l.world ≡ Some e
    → Makes (λ cut w. IsOne (Some e) cut) cut None l m → Makes (λ cut w. IsOne (some w) cut) cut None l m
one_as some e cut l m is h = record {
  events = h.events;
  made = subst (λ (o : Option Event). IsOne o cut h.events) (sym is) h.made;
  leads = h.leads;
  told_is = tt;
}

pub part_as : {E : Type 0} (r : Result (Unit {0}) E) (some : World → Option Event) (e : Event) (l m : Staged) → some l.world ≡ Some e
    → PlaysPart r (λ cut w. IsOne (Some e) cut) l m → PlaysPart r (λ cut w. IsOne (some w) cut) l m
part_as (Ok u) some e l m is h = one_as some e false l m is (h)
part_as (Err f) some e l m is h = one_as some e true l m is (h)

pub none_made : (some : World → Option Event) (l : Staged) → some l.world ≡ None
    → Makes (λ cut w. IsOne (some w) cut) false None l l
none_made some l is = record {
  events = [];
  made = subst (λ (o : Option Event). IsOne o false []) (sym is) refl;
  leads = leads_none l;
  told_is = tt;
}

-- ---- more instructions

played_append : (answer : Job → ℕ → Outcome) (xs ys : List Instruction) (cut : Bool) (w : World) (es fs : List Event)
    → ArePlayed answer xs false w es → ArePlayed answer ys cut (run_of es w) fs
    → ArePlayed answer (xs ++ ys) cut w (es ++ fs)
played_append answer [] ys cut w es fs h then =
    subst (λ (x : List Event). ArePlayed answer ys cut (run_of x w) fs → ArePlayed answer ys cut w (x ++ fs))
    (sym h) (λ y. y) then
played_append answer (x ∷ xs) ys cut w es fs h then =
    go (λ more. played_append answer xs ys cut (run_of h.front w) h.back fs more
    (subst (λ (v : World). ArePlayed answer ys cut v fs)
    (ap (λ (l : List Event). run_of l w) h.whole ∙ run_append h.front h.back w) then)) h.parts
  where
    go : (ArePlayed answer xs false (run_of h.front w) h.back
        → ArePlayed answer (xs ++ ys) cut (run_of h.front w) (h.back ++ fs))
        → (AreMade answer x false w h.front × ArePlayed answer xs false (run_of h.front w) h.back)
        ⊎ ((false ≡ true) × AreMade answer x true w h.front × (h.back ≡ []))
        → Then (AreMade answer x) (ArePlayed answer (xs ++ ys)) cut w (es ++ fs)
    go later (inl both) = record {
      front = h.front;
      back = h.back ++ fs;
      whole = ap (λ (l : List Event). l ++ fs) h.whole ∙ append_assoc h.front h.back fs;
      parts = inl (both.0, later both.1);
    }
    go later (inr never) = absurd (false≢true never.0)

-- one instruction after others
one_whole : (answer : Job → ℕ → Outcome) (i : Instruction) (w : World) (fs : List Event)
    → AreMade answer i false w fs → ArePlayed answer (i ∷ []) false w fs
one_whole answer i w fs h = record { front = fs; back = []; whole = search rules; parts = inl (h, refl) }

one_ends : (answer : Job → ℕ → Outcome) (i : Instruction) (ys : List Instruction) (w : World) (fs : List Event)
    → AreMade answer i true w fs → ArePlayed answer (i ∷ ys) true w fs
one_ends answer i ys w fs h = record { front = fs; back = []; whole = search rules; parts = inr (refl, h, refl) }

pub none_played : (answer : Job → ℕ → Outcome) (l : Staged)
    → Makes (ArePlayed answer []) false None l l
none_played answer l = record { events = []; made = refl; leads = leads_none l; told_is = tt }

pub played_more : (answer : Job → ℕ → Outcome) (all : List Instruction) (n : ℕ) (i : Instruction) (l k m : Staged)
    → n < length all → i ≡ slice_index_or all n i
    → Makes (ArePlayed answer (take n all)) false None l k → Makes (AreMade answer i) false None k m
    → Makes (ArePlayed answer (take (n + 1) all)) false None l m
played_more answer all n i l k m short is h one = record {
  events = h.events ++ one.events;
  made = subst (λ (xs : List Instruction). ArePlayed answer xs false l.world (h.events ++ one.events)) (sym next)
      (played_append answer (take n all) (i ∷ []) false l.world h.events one.events h.made
      (subst (λ (x : Staged). ArePlayed answer (i ∷ []) false x.world one.events) h.leads.is
      (one_whole answer i k.world one.events one.made)));
  leads = leads_more l k m h.events one.events h.leads one.leads;
  told_is = tt;
}
  where
    next : take (n + 1) all ≡ take n all ++ i ∷ []
    next = take_more all n i short ∙ ap (λ (x : Instruction). take n all ++ x ∷ []) (sym is)

split_at : (all : List Instruction) (n : ℕ) (i : Instruction) → n < length all → i ≡ slice_index_or all n i
    → take n all ++ i ∷ drop (suc n) all ≡ all
split_at [] n i short is = absurd (omega (arith, short))
split_at (x ∷ all) zero i short is = ap (λ (y : Instruction). y ∷ all) is
split_at (x ∷ all) (suc n) i short is = ap (λ (ys : List Instruction). x ∷ ys) (split_at all n i (omega (arith, short)) is)

pub played_cut : (answer : Job → ℕ → Outcome) (all : List Instruction) (n : ℕ) (i : Instruction) (l k m : Staged)
    → n < length all → i ≡ slice_index_or all n i
    → Makes (ArePlayed answer (take n all)) false None l k → Makes (AreMade answer i) true None k m
    → Makes (ArePlayed answer all) true None l m
played_cut answer all n i l k m short is h one = record {
  events = h.events ++ one.events;
  made = subst (λ (xs : List Instruction). ArePlayed answer xs true l.world (h.events ++ one.events)) (split_at all n i short is)
      (played_append answer (take n all) (i ∷ drop (suc n) all) true l.world h.events one.events h.made
      (subst (λ (x : Staged). ArePlayed answer (i ∷ drop (suc n) all) true x.world one.events) h.leads.is
      (one_ends answer i (drop (suc n) all) k.world one.events one.made)));
  leads = leads_more l k m h.events one.events h.leads one.leads;
  told_is = tt;
}

pub played_all : (answer : Job → ℕ → Outcome) (all : List Instruction) (n : ℕ) (l k : Staged) → length all ≤ n
    → Makes (ArePlayed answer (take n all)) false None l k → Makes (ArePlayed answer all) false None l k
played_all answer all n l k past h =
    subst (λ (xs : List Instruction). Makes (ArePlayed answer xs) false None l k) (take_all n all past) h

pub made_as : (now first : Job → ℕ → Outcome) (i : Instruction) (cut : Bool) (k m : Staged) → now ≡ first
    → Makes (AreMade now i) cut None k m → Makes (AreMade first i) cut None k m
made_as now first i cut k m same h = subst (λ (a : Job → ℕ → Outcome). Makes (AreMade a i) cut None k m) same h

-- ---- if memory runs out before all

no_round : (answer : Job → ℕ → Outcome) (w : World) → IsRound answer true w []
no_round answer w = record { front = []; back = []; whole = refl; parts = inr (refl, tt, refl) }

nothing_counted : (answer : Job → ℕ → Outcome) (n : ℕ) (w : World)
    → AreMade answer (Instruction.Rounds n) true w []
nothing_counted answer zero w = record { rounds = []; rest = []; whole = refl; are = tt; end = inl (refl, refl) }
nothing_counted answer (suc n) w = record {
  rounds = [];
  rest = [];
  whole = refl;
  are = tt;
  end = inr (refl, omega arith, no_round answer w);
}

nothing_made : (answer : Job → ℕ → Outcome) (i : Instruction) (w : World) → AreMade answer i true w []
nothing_made answer (Instruction.Once e) w = inr (refl, refl)
nothing_made answer Instruction.Auto w = one_cut _
nothing_made answer Instruction.UpAll w = one_cut _
nothing_made answer Instruction.DownAll w = one_cut _
nothing_made answer Instruction.ServerReadsAll w = tt
nothing_made answer Instruction.ClientReadsAll w = tt
nothing_made answer (Instruction.Rounds n) w = nothing_counted answer n w
nothing_made answer Instruction.Quiet w = record {
  rounds = [];
  rest = [];
  whole = refl;
  are = tt;
  busy = search rules;
  few = omega arith;
  end = inr (refl, omega arith, no_round answer w);
}

nothing_played : (answer : Job → ℕ → Outcome) (is : List Instruction) (w : World)
    → ArePlayed answer is true w []
nothing_played answer [] w = refl
nothing_played answer (i ∷ is) w = one_ends answer i is w [] (nothing_made answer i w)

-- ---- the world after what was played

run_reached : (l : WorldValue) (are : Bool → World → List Event → Type 0) (cut : Bool) (m : WorldValue) (t u : TraceValue) → IsReached l
    → Makes are cut None (staged l t) (staged m u) → IsReached m
run_reached l are cut m t u h made =
    subst IsReached (sym (leads_value made.events l m t u made.leads)) (record {
      program = h.program;
      is_program = h.is_program;
      window = h.window;
      few = h.few;
      events = h.events ++ made.events;
      reached = ap (run_of made.events) h.reached
          ∙ sym (run_append h.events made.events (start h.program l.setup.tools h.window));
    })

-- what was played continues the run, and what always holds, holds after it
pub record IsBehind (l m : WorldValue) : Type 0 where
  pub kind : IsSameKind l m
  pub always : Headline m.world

kind_behind : (l : WorldValue) (are : Bool → World → List Event → Type 0) (cut : Bool) (m : WorldValue) (t u : TraceValue)
    → Makes are cut None (staged l t) (staged m u) → IsSameKind l m
kind_behind l are cut m t u made = same_run made.events l m (leads_value made.events l m t u made.leads)

made_behind : (l : WorldValue) (are : Bool → World → List Event → Type 0) (cut : Bool) (m : WorldValue) (t u : TraceValue) → IsReached l
    → Makes are cut None (staged l t) (staged m u) → IsBehind l m
made_behind l are cut m t u h made =
    let reached : IsReached m = run_reached l are cut m t u h made in record {
      kind = kind_behind l are cut m t u made;
      always = headline m reached;
    }

pub played_behind : {E : Type 0} (r : Result (Unit {0}) E) (are : Bool → World → List Event → Type 0) (l m : WorldValue) (t u : TraceValue)
    → IsReached l → PlaysPart r are (staged l t) (staged m u) → IsBehind l m
played_behind (Ok x) are l m t u h made = made_behind l are false m t u h made
played_behind (Err f) are l m t u h made = made_behind l are true m t u h made

-- ---- a schedule

plays_all : (answer : Job → ℕ → Outcome) (is : List Instruction) (cut : Bool) (l m : WorldValue) (t u : TraceValue)
    → Makes (ArePlayed answer is) cut None (staged l t) (staged m u) → PlaysTraced answer is cut l.world m.world t u
plays_all answer is cut l m t u h = record {
  events = h.events;
  made = h.made;
  leads = leads_world h.events (staged l t) (staged m u) h.leads;
  traces = h.leads.traces;
}

-- without its trace
plays_alone : (answer : Job → ℕ → Outcome) (is : List Instruction) (cut : Bool) (w v : World) (t u : TraceValue)
    → PlaysTraced answer is cut w v t u → Plays answer is cut w v
plays_alone answer is cut w v t u h = record { events = h.events; made = h.made; leads = h.leads }

pub traced_ok : {E : Type 0} (r : Result (Unit {0}) E) (answer : Job → ℕ → Outcome) (is : List Instruction) (l m : WorldValue) (t u : TraceValue)
    → PlaysPart r (ArePlayed answer is) (staged l t) (staged m u) → OnOk r (PlaysTraced answer is false l.world m.world t u)
traced_ok (Ok x) answer is l m t u h = plays_all answer is false l m t u h
traced_ok (Err f) answer is l m t u h = tt

pub traced_err : {E : Type 0} (r : Result (Unit {0}) E) (answer : Job → ℕ → Outcome) (is : List Instruction) (l m : WorldValue) (t u : TraceValue)
    → PlaysPart r (ArePlayed answer is) (staged l t) (staged m u) → OnErr r (PlaysTraced answer is true l.world m.world t u)
traced_err (Ok x) answer is l m t u h = tt
traced_err (Err f) answer is l m t u h = plays_all answer is true l m t u h

pub plays_ok : {E : Type 0} (r : Result (Unit {0}) E) (answer : Job → ℕ → Outcome) (is : List Instruction) (l m : WorldValue) (t u : TraceValue)
    → PlaysPart r (ArePlayed answer is) (staged l t) (staged m u) → OnOk r (Plays answer is false l.world m.world)
plays_ok (Ok x) answer is l m t u h = plays_alone answer is false l.world m.world t u (plays_all answer is false l m t u h)
plays_ok (Err f) answer is l m t u h = tt

pub plays_err : {E : Type 0} (r : Result (Unit {0}) E) (answer : Job → ℕ → Outcome) (is : List Instruction) (l m : WorldValue) (t u : TraceValue)
    → PlaysPart r (ArePlayed answer is) (staged l t) (staged m u) → OnErr r (Plays answer is true l.world m.world)
plays_err (Ok x) answer is l m t u h = tt
plays_err (Err f) answer is l m t u h = plays_alone answer is true l.world m.world t u (plays_all answer is true l m t u h)

-- as the machine of a setup answers
pub played_as : {E : Type 0} (r : Result (Unit {0}) E) (shifts now : List Point) (is done : List Instruction) (l m : Staged) → now ≡ shifts
    → done ≡ is → PlaysPart r (ArePlayed (simulated now) done) l m → PlaysPart r (ArePlayed (simulated shifts) is) l m
played_as r shifts now is done l m same these h =
    subst (λ (xs : List Instruction). PlaysPart r (ArePlayed (simulated shifts) xs) l m) these
    (subst (λ (ps : List Point). PlaysPart r (ArePlayed (simulated ps) done) l m) same h)

-- if memory runs out before all
pub none_traced : {E : Type 0} (r : Result (Unit {0}) E) (answer : Job → ℕ → Outcome) (is : List Instruction) (w : World) (t : TraceValue)
    → OnErr r (PlaysTraced answer is true w w t t)
none_traced (Ok u) answer is w t = tt
none_traced (Err f) answer is w t =
    record { events = []; made = nothing_played answer is w; leads = refl; traces = traces_none w t }

pub none_plays : {E : Type 0} (r : Result (Unit {0}) E) (answer : Job → ℕ → Outcome) (is : List Instruction) (w : World)
    → OnErr r (Plays answer is true w w)
none_plays (Ok u) answer is w = tt
none_plays (Err f) answer is w = record { events = []; made = nothing_played answer is w; leads = refl }
