-- What a text is, from the stages to which its lines lead.
use Rattle.record_text.proofs.Names.{[], ◌++◌, ◌+◌, ◌-◌, ◌∙◌, ◌∷◌, ◌≡◌, ◌≤◌, ap, append_assoc, AreRecordLines, AreTornHead, arith, Asking, Begins}
use Rattle.record_text.proofs.Names.{Between, body, Done, drop, HasTornHead, head, inl, inr, IsBadHead, IsDamagedRecord, IsOpen, IsRecord, IsUnbegun}
use Rattle.record_text.proofs.Names.{Kept, Leads, LeadsNowhere, List, Next, none, Option, Place, Recorded, recorded, some, Stage, stage_of, start}
use Rattle.record_text.proofs.Names.{subst, sym, take, take_one_more, Wanted, whole_lines, Within, within, ℕ}
use Rattle.contact_ledger.specs.Damage.{IsDamaged}
use Rattle.record_text.proofs.StageLines.{StageLines, stage_lines, stage_torn, stage_begins, body_record}
use Rattle.record_text.proofs.StageOnes.{leads_one}
use Rattle.record_text.proofs.StageShapes.{leads_split, lead_record}

-- ---- a record

pub record_read : (bytes : List ℕ) (part : Option (List ℕ)) (asked : List Wanted) (kept : Kept)
    → Leads start (whole_lines bytes) (body part asked kept) → IsRecord bytes (recorded part asked kept)
record_read bytes part asked kept h =
    body_record part asked kept (whole_lines bytes) (stage_lines (whole_lines bytes) (body part asked kept) h)

-- the lines of a record lead to what it says
pub record_leads : (lines : List (List ℕ)) (r : Recorded) → AreRecordLines lines r → (kept : Kept) × (r ≡ recorded r.part r.asked kept)
    × Leads start lines (body r.part r.asked kept)
record_leads lines r h = (
  h.kept,
  h.says,
  subst (λ (ls : List (List ℕ)). Leads start ls (body r.part r.asked h.kept)) (sym h.whole)
      (lead_record h.version r.part r.asked h.entries h.kept h.part h.asked h.follow),
)

-- ---- not yet a record

some_line : (asking : Asking) (place : Place) → IsOpen place → StageLines (stage_of asking place) [] → ⊥
some_line asking Between o h = let e = h.lines_are in absurd cc
some_line asking (Within u) o h = let e = h.lines_are in absurd cc
some_line asking Done o h = o

open_stage : (asking : Asking) (place : Place) (lines : List (List ℕ)) → IsOpen place → StageLines (stage_of asking place) lines
    → AreTornHead lines
open_stage asking Between lines o h = stage_torn (head asking.part asking.asked) lines tt h
open_stage asking (Within u) lines o h = stage_torn (within asking.part asking.asked u) lines tt h
open_stage asking Done lines o h = absurd o

pub unbegun : (bytes : List ℕ) → HasTornHead bytes → IsUnbegun bytes
unbegun bytes (none e b) = record {
  torn = stage_torn start (whole_lines bytes) tt (record { none = e });
  ours = λ same. b;
}
unbegun bytes (some asking place o v l) =
    let h = stage_lines (whole_lines bytes) (stage_of asking place) l in
    record {
      torn = open_stage asking place (whole_lines bytes) o h;
      ours = λ same. absurd (some_line asking place o
          (subst (λ (ls : List (List ℕ)). StageLines (stage_of asking place) ls) same h));
    }

-- ---- a damaged line

one_back : (n : ℕ) → 1 ≤ n → n - 1 + 1 ≡ n
one_back n h = omega (arith, h)

leads_on : (lines more : List (List ℕ)) (line : List ℕ) (n : ℕ) (s : Stage) → drop (n - 1) lines ≡ line ∷ more
    → Leads start (take (n - 1) lines) s → ((q : Stage) → Next s line q → ⊥) → take n lines ≡ take (n - 1) lines ++ line ∷ []
    → Begins (take n lines) → ⊥
leads_on lines more line n s here above nowhere one b =
    let lead = record_leads (take n lines ++ b.behind) b.says b.whole in
    let all : Leads start (take (n - 1) lines ++ (line ∷ b.behind)) (body b.says.part b.says.asked lead.0) =
    subst (λ (ls : List (List ℕ)). Leads start ls (body b.says.part b.says.asked lead.0))
    (ap (λ (ls : List (List ℕ)). ls ++ b.behind) one ∙ append_assoc (take (n - 1) lines) (line ∷ []) b.behind) lead.2 in
    let split = leads_split (take (n - 1) lines) (line ∷ b.behind) start (body b.says.part b.says.asked lead.0) all in
    let same = leads_one (take (n - 1) lines) start split.mid s split.front above in
    nowhere split.behind.0 (subst (λ (p : Stage). Next p line split.behind.0) same split.behind.1)

pub damaged : (bytes : List ℕ) (n : ℕ) → LeadsNowhere bytes n → IsDamaged Begins (whole_lines bytes) n
damaged bytes n h =
    let t = take_one_more (n - 1) (whole_lines bytes) h.more h.line h.here in
    let back = one_back n h.first in
    let one : take n (whole_lines bytes) ≡ take (n - 1) (whole_lines bytes) ++ h.line ∷ [] =
    ap (λ (k : ℕ). take k (whole_lines bytes)) (sym back) ∙ t.0 in
    let last = t.2 in
    record {
      first = h.first;
      last = omega (arith, last, back);
      above = stage_begins h.stage (take (n - 1) (whole_lines bytes))
          (stage_lines (take (n - 1) (whole_lines bytes)) h.stage h.above);
      torn = leads_on (whole_lines bytes) h.more h.line n h.stage h.here h.above h.nowhere one;
    }

pub bad_head : (bytes : List ℕ) (n : ℕ) → IsBadHead bytes n → IsDamagedRecord bytes n
bad_head bytes n (inl h) = inl (damaged bytes n h)
bad_head bytes n (inr h) = inr h
