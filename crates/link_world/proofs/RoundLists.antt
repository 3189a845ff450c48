-- Quiet rounds, one after another.
use Rattle.link_world.proofs.Names.{[], ◌++◌, ◌+◌, ◌<◌, ◌∙◌, ◌∷◌, ◌≡◌, ◌≢◌, All, all_of, ap, append-nil, AreCounted, AreQuiet, AreRounds, AreTurns}
use Rattle.link_world.proofs.Names.{arith, Bool, Event, false, false≢true, flat_map-append, inl, inr, IsRound, Job, Leading, length, length-append}
use Rattle.link_world.proofs.Names.{List, Makes, None, Option, Outcome, refl, rounds_most, rules, run_of, Some, Staged, subst, sym, true, World, ℕ}
use Rattle.std.proofs.lemmas.List.Elements.{All-push}
use Rattle.link_world.specs.Parts.{is_any}
use Rattle.link_world.proofs.EventLists.{run_append, leads_more, leads_none, leads_end, leads_world, none_there}

-- n whole rounds; each of them did something if that is required
pub record SoMany (answer : Job → ℕ → Outcome) (must : Bool) (n : ℕ) (cut : Bool) (w : World) (events : List Event)
    : Type 0
  where
    pub rounds : List (List Event)
    pub whole : events ≡ all_of rounds
    pub are : AreRounds answer w rounds
    pub busy : must ≡ true → All (λ r. r ≢ []) rounds
    pub count : length rounds ≡ n

all_more : (rounds : List (List Event)) (r : List Event) → all_of (rounds ++ r ∷ []) ≡ all_of rounds ++ r
all_more rounds r = flat_map-append (λ (es : List Event). es) rounds (r ∷ []) ∙ ap (λ (es : List Event). all_of rounds ++ es) (append-nil r)

are_more : (answer : Job → ℕ → Outcome) (w : World) (rounds : List (List Event)) (r : List Event)
    → AreRounds answer w rounds → IsRound answer false (run_of (all_of rounds) w) r
    → AreRounds answer w (rounds ++ r ∷ [])
are_more answer w [] r h one = (one, tt)
are_more answer w (x ∷ rounds) r h one = (
  h.0,
  are_more answer (run_of x w) rounds r h.1
      (subst (λ (v : World). IsRound answer false v r) (run_append x (all_of rounds) w) one),
)

any_is : (es : List Event) → true ≡ is_any es → es ≢ []
any_is es is none = false≢true (sym (is ∙ ap is_any none))

-- the world after the rounds so far
abbrev Behind : (Job → ℕ → Outcome) → Bool → World → List (List Event) → List Event → Type 0
Behind answer cut w rounds r = IsRound answer cut (run_of (all_of rounds) w) r

behind : (answer : Job → ℕ → Outcome) (cut : Bool) (l k : Staged) (es : List Event) (rounds : List (List Event))
    (r : List Event) → Leading es l k → es ≡ all_of rounds → IsRound answer cut k.world r
    → Behind answer cut l.world rounds r
behind answer cut l k es rounds r leads whole h =
    subst (λ (v : World). IsRound answer cut v r)
    (leads_world es l k leads ∙ ap (λ (x : List Event). run_of x l.world) whole) h

pub none_yet : (answer : Job → ℕ → Outcome) (must : Bool) (l : Staged)
    → Makes (SoMany answer must 0) false None l l
none_yet answer must l = record {
  events = [];
  made = record { rounds = []; whole = refl; are = tt; busy = λ e. search rules; count = refl };
  leads = leads_none l;
  told_is = tt;
}

pub round_more : (answer : Job → ℕ → Outcome) (must : Bool) (n : ℕ) (b : Bool) (l k m : Staged)
    → Makes (SoMany answer must n) false None l k → Makes (IsRound answer) false (Some b) k m
    → (must ≡ true → b ≡ true) → Makes (SoMany answer must (n + 1)) false None l m
round_more answer must n b l k m h one busy = record {
  events = h.events ++ one.events;
  made = record {
    rounds = h.made.rounds ++ one.events ∷ [];
    whole = ap (λ (es : List Event). es ++ one.events) h.made.whole ∙ sym (all_more h.made.rounds one.events);
    are = are_more answer l.world h.made.rounds one.events h.made.are
        (behind answer false l k h.events h.made.rounds one.events h.leads h.made.whole one.made);
    busy = λ e. All-push (λ r. r ≢ []) h.made.rounds one.events (h.made.busy e) (any_is one.events (sym (busy e) ∙ one.told_is));
    count = let long = length-append h.made.rounds (one.events ∷ []) in let count = h.made.count in omega (arith, long, count);
  };
  leads = leads_more l k m h.events one.events h.leads one.leads;
  told_is = tt;
}

-- ---- a number of rounds

pub counted_whole : (answer : Job → ℕ → Outcome) (n : ℕ) (l k : Staged)
    → Makes (SoMany answer false n) false None l k → Makes (AreCounted answer n) false None l k
counted_whole answer n l k h = record {
  events = h.events;
  made = record {
    rounds = h.made.rounds;
    rest = [];
    whole = h.made.whole ∙ sym (append-nil (all_of h.made.rounds));
    are = h.made.are;
    end = inl (h.made.count, refl);
  };
  leads = h.leads;
  told_is = tt;
}

pub counted_cut : (answer : Job → ℕ → Outcome) (i n : ℕ) (l k m : Staged)
    → Makes (SoMany answer false i) false None l k → i < n → Makes (IsRound answer) true None k m
    → Makes (AreCounted answer n) true None l m
counted_cut answer i n l k m h few one = record {
  events = h.events ++ one.events;
  made = record {
    rounds = h.made.rounds;
    rest = one.events;
    whole = ap (λ (es : List Event). es ++ one.events) h.made.whole;
    are = h.made.are;
    end = inr (
      refl,
      (let count = h.made.count in omega (arith, count, few)),
      behind answer true l k h.events h.made.rounds one.events h.leads h.made.whole one.made,
    );
  };
  leads = leads_more l k m h.events one.events h.leads one.leads;
  told_is = tt;
}

-- ---- until one does nothing

pub quiet_whole : (answer : Job → ℕ → Outcome) (l k : Staged)
    → Makes (SoMany answer true rounds_most) false None l k → Makes (AreQuiet answer) false None l k
quiet_whole answer l k h = record {
  events = h.events;
  made = record {
    rounds = h.made.rounds;
    rest = [];
    whole = h.made.whole ∙ sym (append-nil (all_of h.made.rounds));
    are = h.made.are;
    busy = h.made.busy refl;
    few = let count = h.made.count in omega (arith, count);
    end = inl (refl, inl h.made.count);
  };
  leads = h.leads;
  told_is = tt;
}

pub quiet_stops : (answer : Job → ℕ → Outcome) (i : ℕ) (b : Bool) (l k m : Staged)
    → Makes (SoMany answer true i) false None l k → i < rounds_most
    → Makes (IsRound answer) false (Some b) k m → b ≡ false → Makes (AreQuiet answer) false None l m
quiet_stops answer i b l k m h few one still =
    let none : one.events ≡ [] = none_there one.events (sym still ∙ one.told_is) in record {
      events = h.events;
      made = record {
        rounds = h.made.rounds;
        rest = [];
        whole = h.made.whole ∙ sym (append-nil (all_of h.made.rounds));
        are = h.made.are;
        busy = h.made.busy refl;
        few = let count = h.made.count in omega (arith, count, few);
        end = inl (
          refl,
          inr (behind answer false l k h.events h.made.rounds [] h.leads h.made.whole
              (subst (λ (es : List Event). IsRound answer false k.world es) none one.made)),
        );
      };
      leads = leads_end l k m h.events h.leads (subst (λ (es : List Event). Leading es k m) none one.leads);
      told_is = tt;
    }

pub quiet_cut : (answer : Job → ℕ → Outcome) (i : ℕ) (l k m : Staged)
    → Makes (SoMany answer true i) false None l k → i < rounds_most → Makes (IsRound answer) true None k m
    → Makes (AreQuiet answer) true None l m
quiet_cut answer i l k m h few one = record {
  events = h.events ++ one.events;
  made = record {
    rounds = h.made.rounds;
    rest = one.events;
    whole = ap (λ (es : List Event). es ++ one.events) h.made.whole;
    are = h.made.are;
    busy = h.made.busy refl;
    few = let count = h.made.count in omega (arith, count, few);
    end = inr (
      refl,
      (let count = h.made.count in omega (arith, count, few)),
      behind answer true l k h.events h.made.rounds one.events h.leads h.made.whole one.made,
    );
  };
  leads = leads_more l k m h.events one.events h.leads one.leads;
  told_is = tt;
}

-- ---- while a command is due

pub turns_whole : (answer : Job → ℕ → Outcome) (n : ℕ) (l k : Staged)
    → Makes (SoMany answer true n) false None l k → IsRound answer false k.world []
    → Makes (AreTurns answer n) false None l k
turns_whole answer n l k h still = record {
  events = h.events;
  made = record {
    rounds = h.made.rounds;
    rest = [];
    whole = h.made.whole ∙ sym (append-nil (all_of h.made.rounds));
    end = inl (
      record {
        busy = record { are = h.made.are; busy = h.made.busy refl };
        still = behind answer false l k h.events h.made.rounds [] h.leads h.made.whole still;
      },
      h.made.count,
      refl,
    );
  };
  leads = h.leads;
  told_is = tt;
}

pub turns_cut : (answer : Job → ℕ → Outcome) (n : ℕ) (l k m : Staged)
    → Makes (SoMany answer true n) false None l k → Makes (IsRound answer) true None k m
    → Makes (AreTurns answer 0) true None l m
turns_cut answer n l k m h one = record {
  events = h.events ++ one.events;
  made = record {
    rounds = h.made.rounds;
    rest = one.events;
    whole = ap (λ (es : List Event). es ++ one.events) h.made.whole;
    end = inr (
      refl,
      record { are = h.made.are; busy = h.made.busy refl },
      behind answer true l k h.events h.made.rounds one.events h.leads h.made.whole one.made,
    );
  };
  leads = leads_more l k m h.events one.events h.leads one.leads;
  told_is = tt;
}

-- ---- as a machine answered at first

pub round_as : (now first : Job → ℕ → Outcome) (cut : Bool) (told : Option Bool) (k m : Staged) → now ≡ first
    → Makes (IsRound now) cut told k m → Makes (IsRound first) cut told k m
round_as now first cut told k m same h = subst (λ (a : Job → ℕ → Outcome). Makes (IsRound a) cut told k m) same h

pub many_at : (answer : Job → ℕ → Outcome) (must : Bool) (i n : ℕ) (l k : Staged) → i ≡ n
    → Makes (SoMany answer must i) false None l k → Makes (SoMany answer must n) false None l k
many_at answer must i n l k same h = subst (λ (j : ℕ). Makes (SoMany answer must j) false None l k) same h
