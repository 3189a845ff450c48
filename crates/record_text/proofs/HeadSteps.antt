-- Lines that cannot follow in a head.
use Rattle.record_text.proofs.Names.{[], ◌≡◌, ap, codes, Damaged, Err, feature_line, head, inl, inr, IsAskedTouch, IsName, IsPart, IsPointCount, List}
use Rattle.record_text.proofs.Names.{Next, None, Ok, Option, part_line, RecordFault, Result, Stage, sym, Touch, touch_line, Unfinished, Wanted, within}
use Rattle.record_text.proofs.Names.{ℕ}

abbrev line_of_fault : RecordFault → ℕ → ℕ
line_of_fault (Damaged n) other = n
line_of_fault _ other = other

abbrev number_of : {A : Type 0} → Result A RecordFault → ℕ → ℕ
number_of (Ok x) other = other
number_of (Err fault) other = line_of_fault fault other

pub same_number : {A : Type 0} (number n : ℕ) → ◌≡◌ {A = Result A RecordFault} (Err (Damaged number)) (Err (Damaged n)) → n ≡ number
same_number {A} number n e = ap (λ (r : Result A RecordFault). number_of r 0) (sym e)

no_next : (part : Option (List ℕ)) (asked : List Wanted) (line : List ℕ) (new : Stage)
    → ((text : List ℕ) → part ≡ None → asked ≡ [] → IsPart text → line ≡ part_line text → ⊥)
    → ((o : List ℕ × ℕ) → IsName o.0 × IsPointCount o.1 × (line ≡ feature_line o.0 o.1) → ⊥)
    → (line ≡ codes "END" → ⊥) → Next (head part asked) line new → ⊥
no_next part asked line new a b d (inl h) = a h.text h.first h.alone h.is_part h.line_is
no_next part asked line new a b d (inr (inl h)) = b (h.label, h.count) (h.named, h.counted, h.line_is)
no_next part asked line new a b d (inr (inr h)) = d h.line_is

pub no_between : {A : Type 0} (part : Option (List ℕ)) (asked : List Wanted) (line : List ℕ) (number n : ℕ)
    → ◌≡◌ {A = Result A RecordFault} (Err (Damaged number)) (Err (Damaged n))
    → ((text : List ℕ) → part ≡ None → asked ≡ [] → IsPart text → line ≡ part_line text → ⊥)
    → ((o : List ℕ × ℕ) → IsName o.0 × IsPointCount o.1 × (line ≡ feature_line o.0 o.1) → ⊥)
    → (line ≡ codes "END" → ⊥) → (n ≡ number) × ((new : Stage) → Next (head part asked) line new → ⊥)
no_between part asked line number n e a b d = (same_number number n e, λ new. no_next part asked line new a b d)

no_touch : (part : Option (List ℕ)) (asked : List Wanted) (u : Unfinished) (line : List ℕ) (new : Stage)
    → ((t : Touch) → IsAskedTouch t × (line ≡ touch_line t) → ⊥) → Next (within part asked u) line new → ⊥
no_touch part asked u line new a (inl h) = a h.touch (h.is_touch, h.line_is)
no_touch part asked u line new a (inr h) = a h.touch (h.is_touch, h.line_is)

pub no_within : {A : Type 0} (part : Option (List ℕ)) (asked : List Wanted) (u : Unfinished) (line : List ℕ) (number n : ℕ)
    → ◌≡◌ {A = Result A RecordFault} (Err (Damaged number)) (Err (Damaged n))
    → ((t : Touch) → IsAskedTouch t × (line ≡ touch_line t) → ⊥)
    → (n ≡ number) × ((new : Stage) → Next (within part asked u) line new → ⊥)
no_within part asked u line number n e a = (same_number number n e, λ new. no_touch part asked u line new a)
