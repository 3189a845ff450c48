-- Commands in a slab, listed by their keys.
use Rattle.dme_tags.proofs.Names.{[], ◌&&◌, ◌++◌, ◌+◌, ◌-◌, ◌<◌, ◌==◌, ◌||◌, ◌∙◌, ◌∷◌, ◌≡◌, ◌≢◌, ◌≤◌, ap, AreKeys, arith, asks_homed, Bool}
use Rattle.dme_tags.proofs.Names.{command_at, cond, count_by, false, get_or, get_or-set_other, get_or-set_same, get_or_default, is_failed, is_open}
use Rattle.dme_tags.proofs.Names.{is_open_question, is_some, IsApart, IsSome, length, length-append, length-map, List, list_any, listed, map, None}
use Rattle.dme_tags.proofs.Names.{not, OpenCommand, Option, refl, remove, set, Slab, slab_len, slot, Slots, Some, Stage, subst, suc, sym, true}
use Rattle.dme_tags.proofs.Names.{true≢false, Updates, with_value, zero, ℕ}
use Rattle.std.proofs.lemmas.List.Edits.{length-remove}
use Rattle.std.proofs.lemmas.List.Sums.{sum_by-cons, sum_by-remove, sum_by-set, sum_by_push}

-- ---- a slot that is not a listed one

-- what is at a listed key is its command
filled : (slots : Slots) (k : ℕ) (h : OpenCommand) → slot slots k ≡ Some h → command_at slots k ≡ h
filled slots k h e = rw e refl

occupied : (slots : Slots) (k : ℕ) (h : OpenCommand) → slot slots k ≡ Some h → IsSome (slot slots k)
occupied slots k h e = rw e refl

vacant : (slots : Slots) (k : ℕ) → slot slots k ≡ None → IsSome (slot slots k) → ⊥
vacant slots k e some = let no : is_some (slot slots k) ≡ false = rw e refl in true≢false (sym some ∙ no)

elsewhere : (s r : Slab OpenCommand) (k : ℕ) (x : Option OpenCommand) (ks : List ℕ) → Updates s r k x → IsApart k ks → AreKeys s.slots ks
    → AreKeys r.slots ks
elsewhere s r k x [] u apart are = tt
elsewhere s r k x (j ∷ js) u apart are =
    (rw (u.others j (λ e. apart.0 (sym e))) are.0, are.1, elsewhere s r k x js u apart.1 are.2)

same_elsewhere : (s r : Slab OpenCommand) (k : ℕ) (x : Option OpenCommand) (ks : List ℕ) → Updates s r k x → IsApart k ks
    → listed r.slots ks ≡ listed s.slots ks
same_elsewhere s r k x [] u apart = refl
same_elsewhere s r k x (j ∷ js) u apart =
    rw (u.others j (λ e. apart.0 (sym e)), same_elsewhere s r k x js u apart.1) refl

-- ---- a further command

apart_push : (k j : ℕ) (ks : List ℕ) → IsApart k ks → k ≢ j → IsApart k (ks ++ j ∷ [])
apart_push k j [] apart other = (other, tt)
apart_push k j (i ∷ is) apart other = (apart.0, apart_push k j is apart.1 other)

absent : (slots : Slots) (k : ℕ) (ks : List ℕ) → slot slots k ≡ None → AreKeys slots ks → IsApart k ks
absent slots k [] none are = tt
absent slots k (j ∷ js) none are =
    (λ e. vacant slots j (subst (λ (i : ℕ). slot slots i ≡ None) e none) are.0, absent slots k js none are.2)

keys_push : (slots : Slots) (k : ℕ) (ks : List ℕ) → IsSome (slot slots k) → IsApart k ks → AreKeys slots ks
    → AreKeys slots (ks ++ k ∷ [])
keys_push slots k [] some apart are = (some, tt, tt)
keys_push slots k (j ∷ js) some apart are =
    (are.0, apart_push j k js are.1 (λ e. apart.0 (sym e)), keys_push slots k js some apart.1 are.2)

listed_push : (slots : Slots) (k : ℕ) (ks : List ℕ) → listed slots (ks ++ k ∷ []) ≡ listed slots ks ++ command_at slots k ∷ []
listed_push slots k [] = refl
listed_push slots k (j ∷ js) = ap (λ (hs : List OpenCommand). command_at slots j ∷ hs) (listed_push slots k js)

pub keys_inserted : (s r : Slab OpenCommand) (k : ℕ) (h : OpenCommand) (ks : List ℕ) → slot s.slots k ≡ None → Updates s r k (Some h)
    → AreKeys s.slots ks → AreKeys r.slots (ks ++ k ∷ [])
keys_inserted s r k h ks none u are =
    let apart : IsApart k ks = absent s.slots k ks none are in
    keys_push r.slots k ks (occupied r.slots k h u.changed) apart (elsewhere s r k (Some h) ks u apart are)

pub list_inserted : (s r : Slab OpenCommand) (k : ℕ) (h : OpenCommand) (ks : List ℕ) → slot s.slots k ≡ None → Updates s r k (Some h)
    → AreKeys s.slots ks → listed r.slots (ks ++ k ∷ []) ≡ listed s.slots ks ++ h ∷ []
list_inserted s r k h ks none u are =
    let apart : IsApart k ks = absent s.slots k ks none are in
    listed_push r.slots k ks ∙ ap (λ (g : OpenCommand). listed r.slots ks ++ g ∷ []) (filled r.slots k h u.changed)
    ∙ ap (λ (hs : List OpenCommand). hs ++ h ∷ []) (same_elsewhere s r k (Some h) ks u apart)

-- ---- the command at a place

pub key_at : (slots : Slots) (ks : List ℕ) (i d : ℕ) → AreKeys slots ks → i < length ks → IsSome (slot slots (get_or ks i d))
key_at slots [] i d are within = absurd (omega (arith, within))
key_at slots (k ∷ ks) zero d are within = are.0
key_at slots (k ∷ ks) (suc i) d are within = key_at slots ks i d are.2 (omega (arith, within))

pub command_listed : (slots : Slots) (ks : List ℕ) (i d : ℕ) (h : OpenCommand) → i < length ks → slot slots (get_or ks i d) ≡ Some h
    → get_or (listed slots ks) i h ≡ h
command_listed slots [] i d h within e = refl
command_listed slots (k ∷ ks) zero d h within e = filled slots k h e
command_listed slots (k ∷ ks) (suc i) d h within e = command_listed slots ks i d h (omega (arith, within)) e

apart_at : (k : ℕ) (ks : List ℕ) (i d : ℕ) → IsApart k ks → i < length ks → k ≢ get_or ks i d
apart_at k [] i d apart within = absurd (omega (arith, within))
apart_at k (j ∷ js) zero d apart within = apart.0
apart_at k (j ∷ js) (suc i) d apart within = apart_at k js i d apart.1 (omega (arith, within))

-- ---- a command that is changed

pub keys_changed : (s r : Slab OpenCommand) (ks : List ℕ) (i d : ℕ) (h : OpenCommand) → i < length ks → Updates s r (get_or ks i d) (Some h)
    → AreKeys s.slots ks → AreKeys r.slots ks
keys_changed s r [] i d h within u are = tt
keys_changed s r (k ∷ ks) zero d h within u are =
    (occupied r.slots k h u.changed, are.1, elsewhere s r k (Some h) ks u are.1 are.2)
keys_changed s r (k ∷ ks) (suc i) d h within u are =
    let inside : i < length ks = omega (arith, within) in
    (rw (u.others k (apart_at k ks i d are.1 inside)) are.0, are.1, keys_changed s r ks i d h inside u are.2)

pub list_changed : (s r : Slab OpenCommand) (ks : List ℕ) (i d : ℕ) (h : OpenCommand) → i < length ks → Updates s r (get_or ks i d) (Some h)
    → AreKeys s.slots ks → listed r.slots ks ≡ set (listed s.slots ks) i h
list_changed s r [] i d h within u are = absurd (omega (arith, within))
list_changed s r (k ∷ ks) zero d h within u are =
    rw (filled r.slots k h u.changed, same_elsewhere s r k (Some h) ks u are.1) refl
list_changed s r (k ∷ ks) (suc i) d h within u are =
    let inside : i < length ks = omega (arith, within) in
    rw (u.others k (apart_at k ks i d are.1 inside), list_changed s r ks i d h inside u are.2) refl

-- ---- a command that is removed

apart_removed : (k : ℕ) (ks : List ℕ) (i : ℕ) → IsApart k ks → IsApart k (remove ks i)
apart_removed k [] zero apart = tt
apart_removed k [] (suc i) apart = tt
apart_removed k (j ∷ js) zero apart = apart.1
apart_removed k (j ∷ js) (suc i) apart = (apart.0, apart_removed k js i apart.1)

pub keys_removed : (s r : Slab OpenCommand) (ks : List ℕ) (i d : ℕ) → i < length ks → Updates s r (get_or ks i d) None
    → AreKeys s.slots ks → AreKeys r.slots (remove ks i)
keys_removed s r [] i d within u are = absurd (omega (arith, within))
keys_removed s r (k ∷ ks) zero d within u are = elsewhere s r k None ks u are.1 are.2
keys_removed s r (k ∷ ks) (suc i) d within u are =
    let inside : i < length ks = omega (arith, within) in
    (rw (u.others k (apart_at k ks i d are.1 inside)) are.0, apart_removed k ks i are.1, keys_removed s r ks i d inside u are.2)

pub list_removed : (s r : Slab OpenCommand) (ks : List ℕ) (i d : ℕ) → i < length ks → Updates s r (get_or ks i d) None
    → AreKeys s.slots ks → listed r.slots (remove ks i) ≡ remove (listed s.slots ks) i
list_removed s r [] i d within u are = absurd (omega (arith, within))
list_removed s r (k ∷ ks) zero d within u are = same_elsewhere s r k None ks u are.1
list_removed s r (k ∷ ks) (suc i) d within u are =
    let inside : i < length ks = omega (arith, within) in
    rw (u.others k (apart_at k ks i d are.1 inside), list_removed s r ks i d inside u are.2) refl

-- ---- what the calls on a list of commands need

pub within_keys : (slots : Slots) (ks : List ℕ) (hs : List OpenCommand) (i : ℕ) → listed slots ks ≡ hs → i < length hs → i < length ks
within_keys slots ks hs i is within =
    subst (λ (n : ℕ). i < n) (ap length (sym is) ∙ length-map ks (command_at slots)) within

pub key_there : (slots : Slots) (ks : List ℕ) (i key : ℕ) → AreKeys slots ks → i < length ks → key ≡ get_or ks i key
    → IsSome (slot slots key)
key_there slots ks i key are within is = subst (λ (k : ℕ). IsSome (slot slots k)) (sym is) (key_at slots ks i key are within)

pub command_there : (slots : Slots) (ks : List ℕ) (hs : List OpenCommand) (i key : ℕ) (h : OpenCommand) → listed slots ks ≡ hs
    → i < length ks
    → key ≡ get_or ks i key → slot slots key ≡ Some h → get_or hs i h ≡ h
command_there slots ks hs i key h list within is e =
    ap (λ (gs : List OpenCommand). get_or gs i h) (sym list)
    ∙ command_listed slots ks i key h within (ap (slot slots) (sym is) ∙ e)

-- ---- a write at an occupied key

shorter : (slots : Slots) (k : ℕ) → IsSome (slot slots k) → k < length slots
shorter [] k some = absurd (true≢false (sym some))
shorter (x ∷ xs) zero some = omega arith
shorter (x ∷ xs) (suc k) some = let rest : k < length xs = shorter xs k some in omega (arith, rest)

pub written : (s : Slab OpenCommand) (k : ℕ) (h : OpenCommand) → IsSome (slot s.slots k) → Updates s (with_value s k h) k (Some h)
written s k h some = record {
  changed = get_or-set_same s.slots k (Some h) None (shorter s.slots k some);
  others = λ j other. get_or-set_other s.slots k j (Some h) None other;
}

pub as_many : (s : Slab OpenCommand) (k : ℕ) (h : OpenCommand) → IsSome (slot s.slots k) → slab_len (with_value s k h) ≡ slab_len s
as_many s k h some =
    let one : ◌≡◌ {A = ℕ} (cond (is_some (slot s.slots k)) 1 0) 1 = ap (λ (b : Bool). cond b 1 0) some in
    let sums : slab_len (with_value s k h) + cond (is_some (slot s.slots k)) 1 0 ≡ slab_len s + 1 =
    sum_by-set (λ (x : Option OpenCommand). cond (is_some x) 1 0) s.slots k (Some h) None (shorter s.slots k some) in
    omega (arith, one, sums)

-- a listed command was written, and no other has changed
pub record IsWritten (s r : Slab OpenCommand) (ks : List ℕ) (i : ℕ) (h g : OpenCommand) : Type 0 where
  pub keys : AreKeys r.slots ks
  pub many : slab_len r ≡ slab_len s
  pub list : listed r.slots ks ≡ set (listed s.slots ks) i g
  pub within : i < length (listed s.slots ks)
  pub here : get_or (listed s.slots ks) i h ≡ h

pub written_at : (s : Slab OpenCommand) (ks : List ℕ) (hs : List OpenCommand) (i key : ℕ) (h g : OpenCommand) → listed s.slots ks ≡ hs
    → i < length hs
    → key ≡ get_or ks i key → slot s.slots key ≡ Some h → AreKeys s.slots ks → IsWritten s (with_value s key g) ks i h g
written_at s ks hs i key h g list within is e are =
    let inside : i < length ks = within_keys s.slots ks hs i list within in
    let some : IsSome (slot s.slots key) = occupied s.slots key h e in
    let u : Updates s (with_value s key g) (get_or ks i key) (Some g) =
    subst (λ (k : ℕ). Updates s (with_value s key g) k (Some g)) is (written s key g some) in
    record {
      keys = keys_changed s (with_value s key g) ks i key g inside u are;
      many = as_many s key g some;
      list = list_changed s (with_value s key g) ks i key g inside u are;
      within = subst (λ (gs : List OpenCommand). i < length gs) (sym list) within;
      here = command_there s.slots ks (listed s.slots ks) i key h refl inside is e;
    }

-- a listed command was removed, and no other has changed
pub record IsRemoved (s r : Slab OpenCommand) (ks js : List ℕ) (i : ℕ) (h : OpenCommand) : Type 0 where
  pub keys : AreKeys r.slots js
  pub list : listed r.slots js ≡ remove (listed s.slots ks) i
  pub within : i < length (listed s.slots ks)
  pub here : get_or (listed s.slots ks) i h ≡ h

pub removed_at : (s r : Slab OpenCommand) (ks js : List ℕ) (hs : List OpenCommand) (i key : ℕ) (h : OpenCommand) → listed s.slots ks ≡ hs
    → i < length hs
    → key ≡ get_or ks i key → js ≡ remove ks i → slot s.slots key ≡ Some h → Updates s r key None → AreKeys s.slots ks
    → IsRemoved s r ks js i h
removed_at s r ks js hs i key h list within is items e u are =
    let inside : i < length ks = within_keys s.slots ks hs i list within in
    let v : Updates s r (get_or ks i key) None = subst (λ (k : ℕ). Updates s r k None) is u in
    record {
      keys = subst (λ (ls : List ℕ). AreKeys r.slots ls) (sym items) (keys_removed s r ks i key inside v are);
      list = ap (listed r.slots) items ∙ list_removed s r ks i key inside v are;
      within = subst (λ (gs : List OpenCommand). i < length gs) (sym list) within;
      here = command_there s.slots ks (listed s.slots ks) i key h refl inside is e;
    }

-- a command was inserted after those that are listed, into a slab that was given room
pub record IsInserted (s r : Slab OpenCommand) (ks js : List ℕ) (h : OpenCommand) : Type 0 where
  pub keys : AreKeys r.slots js
  pub list : listed r.slots js ≡ listed s.slots ks ++ h ∷ []

pub inserted_at : (s m r : Slab OpenCommand) (ks ls js : List ℕ) (key : ℕ) (h : OpenCommand) → m.slots ≡ s.slots → ls ≡ ks
    → js ≡ ls ++ key ∷ []
    → slot m.slots key ≡ None → Updates m r key (Some h) → AreKeys s.slots ks → IsInserted s r ks js h
inserted_at s m r ks ls js key h same kept items none u are =
    let items_are : js ≡ ks ++ key ∷ [] = items ∙ ap (λ (l : List ℕ). l ++ key ∷ []) kept in
    let before : AreKeys m.slots ks = subst (λ (slots : Slots). AreKeys slots ks) (sym same) are in
    record {
      keys = subst (λ (l : List ℕ). AreKeys r.slots l) (sym items_are) (keys_inserted m r key h ks none u before);
      list = ap (listed r.slots) items_are ∙ list_inserted m r key h ks none u before
          ∙ ap (λ (slots : Slots). listed slots ks ++ h ∷ []) same;
    }

-- ---- counts

-- one of the commands is such if their count is not 0
positive : (n : ℕ) → true ≡ not ((1 + n) == 0)
positive n = grind arith

zero_more : (n : ℕ) → n ≡ 0 + n
zero_more n = omega arith

counted_more : (b : Bool) (c : Bool) (n : ℕ) → c ≡ not (n == 0) → (b || c) ≡ not ((cond b 1 0 + n) == 0)
counted_more true c n e = positive n
counted_more false c n e = e ∙ ap (λ (m : ℕ). not (m == 0)) (zero_more n)

pub any_counted : (p : OpenCommand → Bool) (hs : List OpenCommand) → list_any p hs ≡ not (count_by p hs == 0)
any_counted p [] = refl
any_counted p (h ∷ hs) = counted_more (p h) (list_any p hs) (count_by p hs) (any_counted p hs)
    ∙ ap (λ (n : ℕ). not (n == 0)) (sym (sum_by-cons (λ (g : OpenCommand). cond (p g) 1 0) h hs))

pub counted_pushed : (p : OpenCommand → Bool) (hs gs : List OpenCommand) (h : OpenCommand) (n one : ℕ) → n ≡ count_by p hs
    → one ≡ cond (p h) 1 0
    → gs ≡ hs ++ h ∷ [] → n + one ≡ count_by p gs
counted_pushed p hs gs h n one counts is list =
    let sums : count_by p (hs ++ h ∷ []) ≡ count_by p hs + cond (p h) 1 0 = sum_by_push (λ (g : OpenCommand). cond (p g) 1 0) hs h in
    ap (λ (m : ℕ). m + one) counts ∙ ap (λ (m : ℕ). count_by p hs + m) is ∙ sym sums ∙ ap (count_by p) (sym list)

changed_sums : (p : OpenCommand → Bool) (hs : List OpenCommand) (i : ℕ) (h g : OpenCommand) → i < length hs → get_or hs i h ≡ h
    → count_by p (set hs i g) + cond (p h) 1 0 ≡ count_by p hs + cond (p g) 1 0
changed_sums p hs i h g within is =
    ap (λ (k : OpenCommand). count_by p (set hs i g) + cond (p k) 1 0) (sym is)
    ∙ sum_by-set (λ (k : OpenCommand). cond (p k) 1 0) hs i g h within

removed_sums : (p : OpenCommand → Bool) (hs : List OpenCommand) (i : ℕ) (h : OpenCommand) → i < length hs → get_or hs i h ≡ h
    → count_by p (remove hs i) + cond (p h) 1 0 ≡ count_by p hs
removed_sums p hs i h within is =
    ap (λ (k : OpenCommand). count_by p (remove hs i) + cond (p k) 1 0) (sym is)
    ∙ sum_by-remove (λ (k : OpenCommand). cond (p k) 1 0) hs i h within

-- a command that changes can be taken off the count of all and itself
pub enough_changed : (p : OpenCommand → Bool) (hs : List OpenCommand) (i : ℕ) (h g : OpenCommand) (n one more : ℕ) → i < length hs
    → get_or hs i h ≡ h
    → n ≡ count_by p hs → one ≡ cond (p h) 1 0 → more ≡ cond (p g) 1 0 → one ≤ n + more
enough_changed p hs i h g n one more within is counts old new =
    let sums : count_by p (set hs i g) + cond (p h) 1 0 ≡ count_by p hs + cond (p g) 1 0 = changed_sums p hs i h g within is in
    omega (arith, sums, counts, old, new)

pub counted_changed : (p : OpenCommand → Bool) (hs gs : List OpenCommand) (i : ℕ) (h g : OpenCommand) (n one more : ℕ) → i < length hs
    → get_or hs i h ≡ h → n ≡ count_by p hs → one ≡ cond (p h) 1 0 → more ≡ cond (p g) 1 0 → gs ≡ set hs i g
    → n + more - one ≡ count_by p gs
counted_changed p hs gs i h g n one more within is counts old new list =
    let sums : count_by p (set hs i g) + cond (p h) 1 0 ≡ count_by p hs + cond (p g) 1 0 = changed_sums p hs i h g within is in
    let same : count_by p gs ≡ count_by p (set hs i g) = ap (count_by p) list in
    omega (arith, sums, counts, old, new, same)

pub counted_alike : (p : OpenCommand → Bool) (hs gs : List OpenCommand) (i : ℕ) (h g : OpenCommand) (n : ℕ) → i < length hs
    → get_or hs i h ≡ h → n ≡ count_by p hs → p g ≡ p h → gs ≡ set hs i g → n ≡ count_by p gs
counted_alike p hs gs i h g n within is counts alike list =
    let sums : count_by p (set hs i g) + cond (p h) 1 0 ≡ count_by p hs + cond (p g) 1 0 = changed_sums p hs i h g within is in
    let one : ◌≡◌ {A = ℕ} (cond (p g) 1 0) (cond (p h) 1 0) = ap (λ (b : Bool). cond b 1 0) alike in
    let same : count_by p gs ≡ count_by p (set hs i g) = ap (count_by p) list in
    omega (arith, sums, counts, one, same)

-- a command that has not failed before nor after counts as it did
pub open_alike : (h : OpenCommand) (stage : Stage) → is_failed h.stage ≡ false → is_failed stage ≡ false
    → is_open (record h { stage = stage }) ≡ is_open h
open_alike h stage before after = ap not (after ∙ sym before)

pub question_alike : (h : OpenCommand) (stage : Stage) → is_failed h.stage ≡ false → is_failed stage ≡ false
    → is_open_question (record h { stage = stage }) ≡ is_open_question h
question_alike h stage before after = ap (λ (b : Bool). asks_homed h.kind && not b) (after ∙ sym before)

pub enough_removed : (p : OpenCommand → Bool) (hs : List OpenCommand) (i : ℕ) (h : OpenCommand) (n one : ℕ) → i < length hs
    → get_or hs i h ≡ h
    → n ≡ count_by p hs → one ≡ cond (p h) 1 0 → one ≤ n
enough_removed p hs i h n one within is counts old =
    let sums : count_by p (remove hs i) + cond (p h) 1 0 ≡ count_by p hs = removed_sums p hs i h within is in
    omega (arith, sums, counts, old)

pub counted_removed : (p : OpenCommand → Bool) (hs gs : List OpenCommand) (i : ℕ) (h : OpenCommand) (n one : ℕ) → i < length hs
    → get_or hs i h ≡ h
    → n ≡ count_by p hs → one ≡ cond (p h) 1 0 → gs ≡ remove hs i → n - one ≡ count_by p gs
counted_removed p hs gs i h n one within is counts old list =
    let sums : count_by p (remove hs i) + cond (p h) 1 0 ≡ count_by p hs = removed_sums p hs i h within is in
    let same : count_by p gs ≡ count_by p (remove hs i) = ap (count_by p) list in
    omega (arith, sums, counts, old, same)

-- ---- the same in the terms of the calls

pub enough_at : (p : OpenCommand → Bool) (slots : Slots) (ks : List ℕ) (hs : List OpenCommand) (i key : ℕ) (h g : OpenCommand)
    (n one more : ℕ)
    → listed slots ks ≡ hs → i < length hs → key ≡ get_or ks i key → slot slots key ≡ Some h → n ≡ count_by p (listed slots ks)
    → one ≡ cond (p h) 1 0 → more ≡ cond (p g) 1 0 → one ≤ n + more
enough_at p slots ks hs i key h g n one more list within is e counts old new =
    enough_changed p (listed slots ks) i h g n one more (subst (λ (gs : List OpenCommand). i < length gs) (sym list) within)
    (command_there slots ks (listed slots ks) i key h refl (within_keys slots ks hs i list within) is e) counts old new

pub enough_left : (p : OpenCommand → Bool) (slots : Slots) (ks : List ℕ) (hs : List OpenCommand) (i key : ℕ) (h : OpenCommand) (n one : ℕ)
    → listed slots ks ≡ hs → i < length hs → key ≡ get_or ks i key → slot slots key ≡ Some h → n ≡ count_by p (listed slots ks)
    → one ≡ cond (p h) 1 0 → one ≤ n
enough_left p slots ks hs i key h n one list within is e counts old =
    enough_removed p (listed slots ks) i h n one (subst (λ (gs : List OpenCommand). i < length gs) (sym list) within)
    (command_there slots ks (listed slots ks) i key h refl (within_keys slots ks hs i list within) is e) counts old

pub one_more : (s m r : Slab OpenCommand) (ks ls js : List ℕ) (key : ℕ) → m.slots ≡ s.slots → ls ≡ ks → js ≡ ls ++ key ∷ []
    → slab_len r ≡ slab_len m + 1 → slab_len s ≡ length ks → slab_len r ≡ length js
one_more s m r ks ls js key same kept items longer many =
    let as_before : slab_len m ≡ slab_len s = ap (count_by is_some) same in
    let all : length js ≡ length ks + 1 =
    ap length items ∙ ap (λ (l : List ℕ). length (l ++ key ∷ [])) kept ∙ length-append ks (key ∷ []) in
    omega (arith, as_before, all, longer, many)

pub one_fewer : (n m : ℕ) (ks js : List ℕ) (i : ℕ) → i < length ks → js ≡ remove ks i → n + 1 ≡ m → m ≡ length ks → n ≡ length js
one_fewer n m ks js i within items shorter_by many =
    let rest : length (remove ks i) + 1 ≡ length ks = length-remove ks i within in
    let same : length js ≡ length (remove ks i) = ap length items in
    omega (arith, rest, same, shorter_by, many)

pub same_stage : (hs : List OpenCommand) (i : ℕ) (h g : OpenCommand) (stage : Stage) → i < length hs → get_or hs i h ≡ h → get_or hs i g ≡ g
    → set hs i (record h { stage = stage }) ≡ set hs i (record g { stage = stage })
same_stage hs i h g stage within here there =
    let same : h ≡ g = sym here ∙ get_or_default hs i h g within ∙ there in
    ap (λ (k : OpenCommand). set hs i (record k { stage = stage })) same

-- commands at one place are one
pub not_failed : (hs : List OpenCommand) (i : ℕ) (h g : OpenCommand) → i < length hs → get_or hs i h ≡ h → get_or hs i g ≡ g
    → is_failed h.stage ≡ false → is_failed g.stage ≡ false
not_failed hs i h g within here there unfailed =
    let same : g ≡ h = sym there ∙ get_or_default hs i g h within ∙ here in
    ap (λ (k : OpenCommand). is_failed k.stage) same ∙ unfailed
