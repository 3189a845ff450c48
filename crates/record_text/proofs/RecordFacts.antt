-- What holds of each record: its claim is sound, and its connections ascend.
use Rattle.record_text.proofs.Names.{[], ◌++◌, ◌+◌, ◌-◌, ◌∙◌, ◌∷◌, ◌≡◌, ◌≤◌, Act, AllByRecursion, ap, AreAsked, AreRecordLines, arith, CanBeWritten}
use Rattle.record_text.proofs.Names.{Completed, completed_feature, Completes, connection_most, contacts, drop, Entry, Feature, Follow, Follows}
use Rattle.record_text.proofs.Names.{IsAsked, IsPointCount, IsRecorded, IsWrittenEntry, Kept, length, length-append, List, MadeContact, nothing_kept}
use Rattle.record_text.proofs.Names.{Recorded, recorded, refl, Note, Noted, Serves, slice_get, Some, subst, suc, sym, take, take-append-drop, take_all}
use Rattle.record_text.proofs.Names.{Told, Wanted, with_completed, with_noted, with_told, zero, ℕ}
use Rattle.std.proofs.Math.Seq.{take-append-le}
use Rattle.protocol_model.specs.Undisturbed.{AreUpTo}
use Rattle.protocol_model.proofs.invariant.Served.{contacts_more, Served, served_more, served_push, served_sound, up_to_above, up_to_more}
use Rattle.record_text.proofs.BodySteps.{serves_length}
use Rattle.record_text.proofs.StageLines.{all_more}

-- ---- a wanted feature at a place

record AtPlace (ws : List Wanted) (n : ℕ) (w : Wanted) : Type 0 where
  front : List Wanted
  later : List Wanted
  whole : ws ≡ front ++ w ∷ later
  count : length front ≡ n

at_place : (ws : List Wanted) (n : ℕ) (w : Wanted) → slice_get ws n ≡ Some w → AtPlace ws n w
at_place [] zero w e = absurd cc
at_place [] (suc n) w e = absurd cc
at_place (x ∷ xs) zero w e =
    let same : x ≡ w = cc in
    record { front = []; later = xs; whole = ap (λ (y : Wanted). y ∷ xs) same; count = refl }
at_place (x ∷ xs) (suc n) w e =
    let r = at_place xs n w e in
    record {
      front = x ∷ r.front;
      later = r.later;
      whole = ap (λ (ys : List Wanted). x ∷ ys) r.whole;
      count = ap (λ (k : ℕ). suc k) r.count;
    }

asked_at : (ws : List Wanted) (n : ℕ) (w : Wanted) → AreAsked ws → slice_get ws n ≡ Some w → IsAsked w
asked_at [] zero w h e = absurd cc
asked_at [] (suc n) w h e = absurd cc
asked_at (x ∷ xs) zero w h e =
    let same : x ≡ w = cc in
    subst (λ (y : Wanted). IsAsked y) same h.0
asked_at (x ∷ xs) (suc n) w h e = asked_at xs n w h.1 e

-- ---- what is kept

record IsWell (asked : List Wanted) (kept : Kept) : Type 0 where
  few : kept.used ≤ length (contacts kept.told)
  served : Served asked kept.features (take kept.used (contacts kept.told))
  last : kept.last ≤ connection_most
  up_to : AreUpTo kept.last kept.told
  writable : AllByRecursion CanBeWritten kept.features

told_well : (asked : List Wanted) (old new : Kept) (n : ℕ) (a : Act) → IsWell asked old → n ≤ connection_most → old.last ≤ n
    → new ≡ with_told old n a → IsWell asked new
told_well asked old new n a h most above e =
    let more = contacts_more old.told ((n, a) ∷ []) in
    let few = h.few in
    let next : Kept = with_told old n a in
    let front : take old.used (contacts next.told) ≡ take old.used (contacts old.told) =
    ap (λ (ms : List MadeContact). take old.used ms) more ∙ take-append-le old.used (contacts old.told) (contacts ((n, a) ∷ [])) h.few in
    let well : IsWell asked next = record {
      few = rw more (omega (arith, few, length-append (contacts old.told) (contacts ((n, a) ∷ []))));
      served = subst (λ (ms : List MadeContact). Served asked old.features ms) (sym front) h.served;
      last = most;
      up_to = up_to_more n old.told n a (up_to_above old.last n old.told above h.up_to) (omega arith);
      writable = h.writable;
    } in
    subst (λ (k : Kept). IsWell asked k) (sym e) well

noted_well : (asked : List Wanted) (old new : Kept) (n : ℕ) (note : Note) (text : List ℕ) → IsWell asked old → n ≤ connection_most
    → old.last ≤ n → new ≡ with_noted old n note text → IsWell asked new
noted_well asked old new n note text h most above e =
    let next : Kept = with_noted old n note text in
    let well : IsWell asked next = record {
      few = h.few;
      served = h.served;
      last = most;
      up_to = up_to_above old.last n old.told above h.up_to;
      writable = h.writable;
    } in
    subst (λ (k : Kept). IsWell asked k) (sym e) well

-- the contacts up to the last run
behind_used : (used count : ℕ) (ms : List MadeContact) → used + count ≤ length ms
    → take (length ms - count) ms ≡ take used ms ++ drop used (take (length ms - count) ms)
behind_used used count ms h =
    let low : used ≤ length ms - count = omega (arith, h) in
    sym (take-append-drop used (take (length ms - count) ms))
    ∙ ap (λ (xs : List MadeContact). xs ++ drop used (take (length ms - count) ms)) (take_less used (length ms - count) ms low)
  where
    take_less : (n m : ℕ) (xs : List MadeContact) → n ≤ m → take n (take m xs) ≡ take n xs
    take_less zero zero [] h = refl
    take_less zero zero (x ∷ xs) h = refl
    take_less zero (suc m) [] h = refl
    take_less zero (suc m) (x ∷ xs) h = refl
    take_less (suc n) zero xs h = absurd (omega (arith, h))
    take_less (suc n) (suc m) [] h = refl
    take_less (suc n) (suc m) (x ∷ xs) h = ap (λ (ys : List MadeContact). x ∷ ys) (take_less n m xs (omega (arith, h)))

pushed : (asked : List Wanted) (fs : List Feature) (w : Wanted) (f : Feature) (n used : ℕ) (ms : List MadeContact)
    → slice_get asked (length fs) ≡ Some w → f.label ≡ w.label → used + length w.touches ≤ length ms
    → Serves n w.touches f.points (drop (length ms - length w.touches) ms) → Served asked fs (take used ms)
    → Served asked (fs ++ f ∷ []) (take (length ms) ms)
pushed asked fs w f n used ms e label few serves h =
    let at = at_place asked (length fs) w e in
    let cut = length ms - length w.touches in
    let longer : Served asked fs (take cut ms) = subst (λ (xs : List MadeContact). Served asked fs xs)
    (sym (behind_used used (length w.touches) ms few)) (served_more asked fs (take used ms) (drop used (take cut ms)) h) in
    let split : Served (at.front ++ w ∷ at.later) fs (take cut ms) =
    subst (λ (ws : List Wanted). Served ws fs (take cut ms)) at.whole longer in
    let more = served_push at.front w at.later fs f (take cut ms) (drop cut ms) n at.count split label serves in
    subst (λ (ws : List Wanted). Served ws (fs ++ f ∷ []) (take (length ms) ms)) (sym at.whole)
    (subst (λ (xs : List MadeContact). Served (at.front ++ w ∷ at.later) (fs ++ f ∷ []) xs)
    (take-append-drop cut ms ∙ sym (take_all (length ms) ms (omega arith))) more)

completed_well : (asked : List Wanted) (old new : Kept) (n : ℕ) (label : List ℕ) → AreAsked asked → IsWell asked old
    → IsWrittenEntry (Completed n label) → Completes asked old n label new → IsWell asked new
completed_well asked old new n label all h written c =
    let f = completed_feature n c.wanted c.points in
    let ms = contacts old.told in
    let next : Kept = with_completed old n c.wanted c.points in
    let long = serves_length n c.wanted.touches c.points (drop (length ms - length c.wanted.touches) ms) c.run.serves in
    let wanted = asked_at asked (length old.features) c.wanted all c.next in
    let well : IsWell asked next = record {
      few = omega arith;
      served = pushed asked old.features c.wanted f n old.used ms c.next refl c.run.unused c.run.serves h.served;
      last = written.0.1;
      up_to = subst (λ (k : ℕ). AreUpTo k old.told) (sym c.same) h.up_to;
      writable = all_more CanBeWritten old.features f h.writable
          (subst (λ (k : ℕ). IsPointCount k) long wanted.counted, written.0);
    } in
    subst (λ (k : Kept). IsWell asked k) (sym c.more) well

follows_well : (asked : List Wanted) (old new : Kept) (e : Entry) → AreAsked asked → IsWell asked old → Follows asked old e new
    → IsWell asked new
follows_well asked old new (Told n a) all h f = told_well asked old new n a h f.0.0.1 f.1 f.2
follows_well asked old new (Noted n note text) all h f = noted_well asked old new n note text h f.0.0.1 f.1 f.2
follows_well asked old new (Completed n label) all h f = completed_well asked old new n label all h f.0 f.1

follow_well : (es : List Entry) (asked : List Wanted) (old new : Kept) → AreAsked asked → IsWell asked old → Follow asked old es new
    → IsWell asked new
follow_well [] asked old new all h f = subst (λ (k : Kept). IsWell asked k) (sym f) h
follow_well (e ∷ es) asked old new all h f = follow_well es asked f.0 new all (follows_well asked old f.0 e all h f.1) f.2

nothing_well : (asked : List Wanted) → IsWell asked nothing_kept
nothing_well asked = record { few = omega arith; served = tt; last = omega arith; up_to = tt; writable = tt }

-- so each record is sound
pub record_holds : (lines : List (List ℕ)) (r : Recorded) → AreRecordLines lines r → IsRecorded r
record_holds lines r h =
    let well = follow_well h.entries r.asked nothing_kept h.kept h.asked (nothing_well r.asked) h.follow in
    let ms = contacts h.kept.told in
    let whole : Served r.asked h.kept.features ms = subst (λ (xs : List MadeContact). Served r.asked h.kept.features xs)
    (take-append-drop h.kept.used ms) (served_more r.asked h.kept.features (take h.kept.used ms) (drop h.kept.used ms) well.served) in
    let found : IsRecorded (recorded r.part r.asked h.kept) = record {
      part = h.part;
      asked = h.asked;
      sound = served_sound r.asked h.kept.features h.kept.told whole;
      writable = well.writable;
      last = well.last;
      up_to = well.up_to;
    } in
    subst (λ (s : Recorded). IsRecorded s) (sym h.says) found
