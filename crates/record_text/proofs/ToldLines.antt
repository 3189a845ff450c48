-- What the entries of acts add to a text, one act after another.
use Rattle.record_text.proofs.Names.{[], ◌++◌, ◌+◌, ◌<◌, ◌∙◌, ◌∷◌, ◌≡◌, ◌≤◌, Act, act_line, ap, append-nil, append_assoc, arith, Bool, completed_line}
use Rattle.record_text.proofs.Names.{counted, Counts, entries_of, Entry, entry_line, false, is_contact, le-leb, leb-true, length, List, map, nat_le}
use Rattle.record_text.proofs.Names.{None, refl, slice_get, Some, sym, Telling, text_more, text_of, told_on, true, Wanted, ℕ}

-- an act that is no contact, or that follows the last wanted feature, counts for nothing
pub counts_other : (wanted : List Wanted) (t : Telling) (act : Act) (text : List ℕ) → is_contact act ≡ false
    → Counts wanted t act t text text
counts_other wanted t act text p = record {
  same = refl;
  count = rw p refl;
  text = rw (p, append-nil text) refl;
}

pub counts_beyond : (wanted : List Wanted) (t : Telling) (act : Act) (text : List ℕ) → is_contact act ≡ true
    → slice_get wanted t.counted.features ≡ None → Counts wanted t act t text text
counts_beyond wanted t act text p q = record {
  same = refl;
  count = rw (p, q) refl;
  text = rw (p, q, append-nil text) refl;
}

not_yet : (n m : ℕ) → m < n → nat_le n m ≡ false
not_yet n m h = go (nat_le n m) refl
  where
    go : (b : Bool) → nat_le n m ≡ b → b ≡ false
    go false e = refl
    go true e = let l : n ≤ m = leb-true n m e in absurd (omega arith)

-- a contact that is a point of the next feature, and not its last; or is its last
pub counts_point : (wanted : List Wanted) (n features points : ℕ) (act : Act) (w : Wanted) (text : List ℕ) → is_contact act ≡ true
    → slice_get wanted features ≡ Some w → points + 1 < length w.touches
    → Counts wanted (record { connection = n; counted = record { features = features; points = points } }) act
    (record { connection = n; counted = record { features = features; points = points + 1 } }) text text
counts_point wanted n features points act w text p q r =
    let few : nat_le (length w.touches) (points + 1) ≡ false = not_yet (length w.touches) (points + 1) r in
    record {
      same = refl;
      count = rw (p, q, few) refl;
      text = rw (p, q, few, append-nil text) refl;
    }

pub counts_last : (wanted : List Wanted) (n features points : ℕ) (act : Act) (w : Wanted) (before after : List ℕ) → is_contact act ≡ true
    → slice_get wanted features ≡ Some w → length w.touches ≤ points + 1
    → after ≡ before ++ text_of (completed_line n w.label ∷ [])
    → Counts wanted (record { connection = n; counted = record { features = features; points = points } }) act
    (record { connection = n; counted = record { features = features + 1; points = 0 } }) before after
counts_last wanted n features points act w before after p q r s =
    let all : nat_le (length w.touches) (points + 1) ≡ true = le-leb (length w.touches) (points + 1) r in
    record {
      same = refl;
      count = rw (p, q, all) refl;
      text = rw (p, q, all) s;
    }

map_more : (xs ys : List Entry) → map entry_line (xs ++ ys) ≡ map entry_line xs ++ map entry_line ys
map_more [] ys = refl
map_more (x ∷ xs) ys = ap (λ (r : List (List ℕ)). entry_line x ∷ r) (map_more xs ys)

pub lines_more : (xs ys : List Entry) → text_of (map entry_line (xs ++ ys)) ≡ text_of (map entry_line xs) ++ text_of (map entry_line ys)
lines_more xs ys = ap (λ (r : List (List ℕ)). text_of r) (map_more xs ys) ∙ text_more (map entry_line xs) (map entry_line ys)

pieces : (b0 line more rest : List ℕ) → ((b0 ++ (line ++ 10 ∷ [])) ++ more) ++ rest ≡ b0 ++ (line ++ 10 ∷ (more ++ rest))
pieces b0 line more rest = append_assoc (b0 ++ (line ++ 10 ∷ [])) more rest ∙ append_assoc b0 (line ++ 10 ∷ []) (more ++ rest)
    ∙ ap (λ (t : List ℕ). b0 ++ t) (append_assoc line (10 ∷ []) (more ++ rest))

-- the line of an act, the lines that follow it, and those of the acts that are left
pub told_text : (wanted : List Wanted) (t new : Telling) (n : ℕ) (act : Act) (acts : List Act) (b0 b1 b2 whole : List ℕ)
    → n ≡ t.connection → Counts wanted t act new b1 b2 → b1 ≡ b0 ++ text_of (act_line (n, act) ∷ [])
    → b0 ++ text_of (map entry_line (entries_of wanted t.connection t.counted (act ∷ acts))) ≡ whole
    → b2 ++ text_of (map entry_line (entries_of wanted new.connection new.counted acts)) ≡ whole
told_text wanted t new n act acts b0 b1 b2 whole same h given w =
    let p : b1 ≡ b0 ++ text_of (act_line (t.connection, act) ∷ []) =
    given ∙ ap (λ (k : ℕ). b0 ++ text_of (act_line (k, act) ∷ [])) same in
    let more = (counted wanted t.connection act t.counted).1 in
    let rest = entries_of wanted t.connection (counted wanted t.connection act t.counted).0 acts in
    let line = act_line (t.connection, act) in
    let joined : text_of (map entry_line (more ++ rest)) ≡ text_of (map entry_line more) ++ text_of (map entry_line rest) =
    lines_more more rest in
    let text : b2 ≡ (b0 ++ (line ++ 10 ∷ [])) ++ text_of (map entry_line more) = h.text ∙ ap (λ (x : List ℕ). x ++ text_of (map
    entry_line more)) p in
    rw (h.same, h.count, text) (pieces b0 line (text_of (map entry_line more)) (text_of (map entry_line rest))
    ∙ ap (λ (x : List ℕ). b0 ++ (line ++ 10 ∷ x)) (sym joined) ∙ w)

pub told_count : (wanted : List Wanted) (t new final : Telling) (act : Act) (acts : List Act) (b1 b2 : List ℕ)
    → Counts wanted t act new b1 b2 → told_on wanted t (act ∷ acts) ≡ final → told_on wanted new acts ≡ final
told_count wanted t new final act acts b1 b2 h w = rw (h.same, h.count) w
