-- The entries that follow a head, one line more at a time.
use Rattle.record_text.proofs.Names.{[], ◌++◌, ◌+◌, ◌-◌, ◌∙◌, ◌∷◌, ◌≡◌, AddsEntry, ap, arith, Asking, body, Damaged, drop, drop-drop, Entry}
use Rattle.record_text.proofs.Names.{entry_line, Err, Follows, FollowsLine, HasHead, inl, IsDamagedRecord, IsErr, IsErrAnd, IsRecord, IsWrittenEntry}
use Rattle.record_text.proofs.Names.{Kept, Leads, LeadsNowhere, List, Memory, nothing_kept, Ok, Option, ReadsRecord, Recorded, recorded, RecordFault}
use Rattle.record_text.proofs.Names.{refl, Result, Stage, start, StopsAfter, subst, sym, take, take-add, take-append-drop, take_one_more, Wanted}
use Rattle.record_text.proofs.Names.{whole_lines, ℕ}
use Rattle.record_text.proofs.StageOnes.{one_line, written_follows}
use Rattle.record_text.proofs.StageReads.{record_read, damaged}
use Rattle.record_text.proofs.StageRuns.{leads_more, take_whole}

-- ---- a line

-- a line of no entry follows nothing
pub no_line : (asked : List Wanted) (old new : Kept) (line : List ℕ) → ((e : Entry) → IsWrittenEntry e × (line ≡ entry_line e) → ⊥)
    → FollowsLine asked old line new → ⊥
no_line asked old new line none h = none h.entry (written_follows asked old new h.entry h.follows, h.line_is)

-- an entry that cannot follow
pub no_entry_line : (asked : List Wanted) (old new : Kept) (line : List ℕ) (e : Entry) → IsWrittenEntry e → line ≡ entry_line e
    → ((k : Kept) → Follows asked old e k → ⊥) → FollowsLine asked old line new → ⊥
no_entry_line asked old new line e w is none h =
    let same : h.entry ≡ e = one_line h.entry e (written_follows asked old new h.entry h.follows) w (sym h.line_is ∙ is) in
    none new (subst (λ (x : Entry). Follows asked old x new) same h.follows)

-- ---- lines

-- how far entries were read
pub record AreRead (from : Stage) (lines rest : List (List ℕ)) (above number : ℕ) (part : Option (List ℕ)) (asked : List Wanted) (kept : Kept) : Type 0
  where
    pub place : ℕ
    pub number_is : number ≡ above + place
    pub led : Leads from (take place lines) (body part asked kept)
    pub here : drop place lines ≡ rest

pub none_read : (from : Stage) (lines : List (List ℕ)) (above : ℕ) (part : Option (List ℕ)) (asked : List Wanted)
    → from ≡ body part asked nothing_kept → AreRead from lines lines above above part asked nothing_kept
none_read from lines above part asked e = record { place = 0; number_is = omega arith; led = sym e; here = refl }

pub one_read : (from : Stage) (lines rest more : List (List ℕ)) (line : List ℕ) (above number : ℕ) (part : Option (List ℕ))
    (asked : List Wanted) (old new : Kept) → AreRead from lines rest above number part asked old → rest ≡ line ∷ more
    → FollowsLine asked old line new → AreRead from lines more above (number + 1) part asked new
one_read from lines rest more line above number part asked old new h e f =
    let t = take_one_more h.place lines more line (h.here ∙ e) in
    let sum = h.number_is in
    let step : AddsEntry part asked old line (body part asked new) = record { mid = new; follows = f; next = refl } in
    record {
      place = h.place + 1;
      number_is = omega (arith, sum);
      led = rw t.0 (leads_more (take h.place lines) (line ∷ []) from (body part asked old) (body part asked new) h.led
          (body part asked new, step, refl));
      here = t.1;
    }

pub all_read : (from : Stage) (lines rest : List (List ℕ)) (above number : ℕ) (part : Option (List ℕ)) (asked : List Wanted) (kept : Kept)
    → AreRead from lines rest above number part asked kept → rest ≡ [] → Leads from lines (body part asked kept)
all_read from lines rest above number part asked kept h e =
    subst (λ (ls : List (List ℕ)). Leads from ls (body part asked kept)) (take_whole h.place lines (h.here ∙ e)) h.led

no_step : (part : Option (List ℕ)) (asked : List Wanted) (old : Kept) (line : List ℕ) (new : Stage)
    → ((k : Kept) → FollowsLine asked old line k → ⊥) → AddsEntry part asked old line new → ⊥
no_step part asked old line new none h = none h.mid h.follows

pub stops : (from : Stage) (lines rest more : List (List ℕ)) (line : List ℕ) (above number n : ℕ) (part : Option (List ℕ))
    (asked : List Wanted) (old : Kept) → AreRead from lines rest above number part asked old → rest ≡ line ∷ more
    → (n ≡ number + 1) × ((k : Kept) → FollowsLine asked old line k → ⊥) → StopsAfter from lines above n
stops from lines rest more line above number n part asked old h e f =
    let sum = h.number_is in
    let here = f.0 in
    record {
      place = h.place;
      stage = body part asked old;
      line = line;
      more = more;
      number = omega (arith, sum, here);
      led = h.led;
      here = h.here ∙ e;
      nowhere = λ new. no_step part asked old line new f.1;
    }

-- ---- after a head

whole : (bytes : List ℕ) (asking : Asking) (rest : List ℕ) (number : ℕ) → HasHead bytes asking rest number
    → whole_lines bytes ≡ take number (whole_lines bytes) ++ whole_lines rest
whole bytes asking rest number h = sym (take-append-drop number (whole_lines bytes))
    ∙ ap (λ (ls : List (List ℕ)). take number (whole_lines bytes) ++ ls) h.left

pub record_after : (bytes : List ℕ) (asking : Asking) (rest : List ℕ) (number : ℕ) (kept : Kept) → HasHead bytes asking rest number
    → Leads (body asking.part asking.asked nothing_kept) (whole_lines rest) (body asking.part asking.asked kept)
    → IsRecord bytes (recorded asking.part asking.asked kept)
record_after bytes asking rest number kept h l =
    record_read bytes asking.part asking.asked kept (subst (λ (ls : List (List ℕ)). Leads start ls (body asking.part asking.asked kept))
    (sym (whole bytes asking rest number h)) (leads_more (take number (whole_lines bytes)) (whole_lines rest) start
    (body asking.part asking.asked nothing_kept) (body asking.part asking.asked kept) h.read l))

take_sum : (n m : ℕ) (ls : List (List ℕ)) → take (n + m) ls ≡ take n ls ++ take m (drop n ls)
take_sum n m ls = take-add n m ls

pub damaged_after : (bytes : List ℕ) (asking : Asking) (rest : List ℕ) (number n : ℕ) → HasHead bytes asking rest number
    → StopsAfter (body asking.part asking.asked nothing_kept) (whole_lines rest) number n → IsDamagedRecord bytes n
damaged_after bytes asking rest number n h s =
    let lines = whole_lines bytes in
    let sum = s.number in
    let back : n - 1 ≡ number + s.place = omega (arith, sum) in
    let read : take (n - 1) lines ≡ take number lines ++ take s.place (whole_lines rest) = ap (λ (k : ℕ). take k lines) back
    ∙ take_sum number s.place lines ∙ ap (λ (ls : List (List ℕ)). take number lines ++ take s.place ls) h.left in
    let left : drop (n - 1) lines ≡ s.line ∷ s.more = ap (λ (k : ℕ). drop k lines) back ∙ sym (drop-drop s.place number lines)
    ∙ ap (λ (ls : List (List ℕ)). drop s.place ls) h.left ∙ s.here in
    let above : Leads start (take (n - 1) lines) s.stage = subst (λ (ls : List (List ℕ)). Leads start ls s.stage) (sym read)
    (leads_more (take number lines) (take s.place (whole_lines rest)) start (body asking.part asking.asked nothing_kept) s.stage h.read s.led) in
    let bad : LeadsNowhere bytes n = record {
      stage = s.stage;
      line = s.line;
      more = s.more;
      first = omega (arith, sum);
      above = above;
      here = left;
      nowhere = s.nowhere;
    } in
    inl (damaged bytes n bad)

-- ---- what is answered

pub fault_read : {A : Type 0} (bytes : List ℕ) (r : Result (Option Recorded) RecordFault) (fault : RecordFault) → IsErr r
    → IsErrAnd r (λ e. e ≡ fault) → ((n : ℕ) → ◌≡◌ {A = Result A RecordFault} (Err fault) (Err (Damaged n)) → IsDamagedRecord bytes n)
    → ReadsRecord bytes r
fault_read bytes (Ok x) fault a h f = absurd cc
fault_read bytes (Err (Damaged n)) fault a h f = f n (ap (λ (x : RecordFault). Err x) (sym h))
fault_read bytes (Err Memory) fault a h f = tt
