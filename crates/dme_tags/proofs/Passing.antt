-- The numbers that are passed over are held, and a tag that is drawn is free.
use Rattle.dme_tags.proofs.Names.{◌+◌, ◌-◌, ◌<◌, ◌↔◌, ◌∙◌, ◌≡◌, ◌≤◌, ◌⊎◌, ap, ArePassedOver, arith, Bool, cond, Err, Event, false, first_free, found}
use Rattle.dme_tags.proofs.Names.{IfErr, IfOk, inl, inr, is_event_kind, is_held, IsBetween, IsErrOf, IsSpentFor, Kind, List, next_number, next_tag}
use Rattle.dme_tags.proofs.Names.{None, none_free, Ok, OnErr, OpenCommand, OpenValue, Option, or_else, refl, Result, Some, Std, subst, suc, sym, Tag}
use Rattle.dme_tags.proofs.Names.{TagFault, tagged, true, true≢false, ℕ}
use Rattle.protocol_model.proofs.table.Drawing.{IsFound}
use Rattle.protocol_model.proofs.table.NextNumber.{before_first}

next_passed_of : (sort : ℕ → Tag) (hs : List OpenCommand) (d left all m i : ℕ) → all ≤ d + left
    → or_else (first_free sort hs (suc d) left) (first_free sort hs 1 all) ≡ Some m
    → ((d < i) × (i < m)) ⊎ ((m ≤ d) × (((d < i) × (i ≤ all)) ⊎ ((1 ≤ i) × (i < m)))) → is_held (sort i) hs ≡ true
next_passed_of sort hs d left all m i enough is between = go (first_free sort hs (suc d) left) refl is between
  where
    go : (a : Option ℕ) → first_free sort hs (suc d) left ≡ a → or_else a (first_free sort hs 1 all) ≡ Some m
        → ((d < i) × (i < m)) ⊎ ((m ≤ d) × (((d < i) × (i ≤ all)) ⊎ ((1 ≤ i) × (i < m)))) → is_held (sort i) hs ≡ true
    go (Some k) e is (inl b) = before_first sort hs (suc d) left m i (e ∙ is) (omega (arith, b.0)) b.1
    go (Some k) e is (inr b) = let f : IsFound sort hs (suc d) left m = found sort hs (suc d) left m (e ∙ is) in absurd (no_way b.0 f.from)
      where
        no_way : m ≤ d → suc d ≤ m → ⊥
        no_way low high = omega arith
    go None e is (inl b) = before_first sort hs 1 all m i is (omega (arith, b.0)) b.1
    go None e is (inr (low, inl b)) = none_free sort hs (suc d) left i e (omega (arith, b.0)) (omega (arith, b.1, enough))
    go None e is (inr (low, inr b)) = before_first sort hs 1 all m i is b.0 b.1

enough_left : (d : ℕ) → 9999 ≤ d + (9999 - d)
enough_left d = omega arith

next_passed : (sort : ℕ → Tag) (hs : List OpenCommand) (d m i : ℕ) → next_number sort hs d ≡ Some m → IsBetween d i m
    → is_held (sort i) hs ≡ true
next_passed sort hs d m i is between = next_passed_of sort hs d (9999 - d) 9999 m i (enough_left d) is between

standard_passed : (o : OpenValue) (t : Tag) (r : Option ℕ) → next_number Std o.standard o.drawn ≡ r → tagged Std r ≡ Some t
    → ArePassedOver t o
standard_passed o t None e is = absurd (cc)
standard_passed o t (Some m) e is =
    let same : Std m ≡ t = cc in
    subst (λ (u : Tag). ArePassedOver u o) same (λ i between. next_passed Std o.standard o.drawn m i e between)

event_passed : (o : OpenValue) (t : Tag) (r : Option ℕ) → next_number Event o.event o.event_drawn ≡ r → tagged Event r ≡ Some t
    → ArePassedOver t o
event_passed o t None e is = absurd (cc)
event_passed o t (Some m) e is =
    let same : Event m ≡ t = cc in
    subst (λ (u : Tag). ArePassedOver u o) same (λ i between. next_passed Event o.event o.event_drawn m i e between)

pub passed_over : (o : OpenValue) (kind : Kind) (t : Tag) → next_tag o kind ≡ Some t → ArePassedOver t o
passed_over o kind t is = go (is_event_kind kind) is
  where
    go : (b : Bool) → cond b (tagged Event (next_number Event o.event o.event_drawn)) (tagged Std (next_number Std o.standard o.drawn))
        ≡ Some t → ArePassedOver t o
    go true is = event_passed o t (next_number Event o.event o.event_drawn) refl is
    go false is = standard_passed o t (next_number Std o.standard o.drawn) refl is

-- ---- a tag that is drawn is free

record IsFree (sort : ℕ → Tag) (hs : List OpenCommand) (m : ℕ) : Type 0 where
  free : is_held (sort m) hs ≡ false
  from : 1 ≤ m
  below : m ≤ 9999

number_free : (sort : ℕ → Tag) (hs : List OpenCommand) (d left all m : ℕ) → left ≡ 9999 - d → all ≡ 9999
    → or_else (first_free sort hs (suc d) left) (first_free sort hs 1 all) ≡ Some m → IsFree sort hs m
number_free sort hs d left all m l a is = go (first_free sort hs (suc d) left) refl is
  where
    go : (r : Option ℕ) → first_free sort hs (suc d) left ≡ r → or_else r (first_free sort hs 1 all) ≡ Some m → IsFree sort hs m
    go (Some k) e is = let f : IsFound sort hs (suc d) left m = found sort hs (suc d) left m (e ∙ is) in
        record { free = f.free; from = omega (arith, f.from); below = omega (arith, f.from, f.below, l) }
    go None e is = let f : IsFound sort hs 1 all m = found sort hs 1 all m is
        in record { free = f.free; from = f.from; below = omega (arith, f.below, a) }

not_spent : (o : OpenValue) (kind : Kind) (t : Tag) → next_tag o kind ≡ Some t → IsSpentFor kind o → ⊥
not_spent o kind t is spent = go (is_event_kind kind) refl is
  where
    event : is_event_kind kind ≡ true → (r : Option ℕ) → next_number Event o.event o.event_drawn ≡ r → tagged Event r ≡ Some t → ⊥
    event e None number is = cc
    event e (Some m) number is =
        let f : IsFree Event o.event m = number_free Event o.event o.event_drawn (9999 - o.event_drawn) 9999 m refl refl number in
        true≢false (sym (spent (Event m) (record { numbered = (f.from, f.below); sort = sym e }) f.below) ∙ f.free)

    standard : is_event_kind kind ≡ false → (r : Option ℕ) → next_number Std o.standard o.drawn ≡ r → tagged Std r ≡ Some t → ⊥
    standard e None number is = cc
    standard e (Some m) number is =
        let f : IsFree Std o.standard m = number_free Std o.standard o.drawn (9999 - o.drawn) 9999 m refl refl number in
        let below : m ≤ 99999 = omega (arith, f.below) in
        true≢false (sym (spent (Std m) (record { numbered = (f.from, below); sort = sym e }) f.below) ∙ f.free)

    go : (b : Bool) → is_event_kind kind ≡ b → cond b (tagged Event (next_number Event o.event o.event_drawn))
        (tagged Std (next_number Std o.standard o.drawn)) ≡ Some t → ⊥
    go true e is = event e (next_number Event o.event o.event_drawn) refl is
    go false e is = standard e (next_number Std o.standard o.drawn) refl is

pub spent_exactly : (o : OpenValue) (kind : Kind) (r : Result Tag TagFault) → IfOk r (λ t. next_tag o kind ≡ Some t)
    → OnErr r (IsSpentFor kind o)
    → IfErr r (λ f. f ≡ TagFault.TagsSpent) → IsErrOf r TagFault.TagsSpent ↔ IsSpentFor kind o
spent_exactly o kind (Ok t) ok spent named = (λ e. absurd (apart e), λ s. absurd (not_spent o kind t ok s))
  where
    apart : ◌≡◌ {A = Result Tag TagFault} (Ok t) (Err TagFault.TagsSpent) → ⊥
    apart e = cc
spent_exactly o kind (Err f) ok spent named = (λ _. spent, λ _. ap (λ (g : TagFault). Err g) named)
