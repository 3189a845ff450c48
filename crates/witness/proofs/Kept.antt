-- How many bytes of an end are kept after its lines were read.
use Rattle.witness.proofs.Names.{[], ◌&&◌, ◌++◌, ◌+◌, ◌==◌, ◌∷◌, ◌≡◌, ◌≤◌, after_first, ap, arith, behind_content, Bool, content_len, content_of}
use Rattle.witness.proofs.Names.{drop, ending, Err, false, Framing, Front, if◌then◌else◌, IsLineDue, left_after, length, length-append, List}
use Rattle.witness.proofs.Names.{ltb-false, nat_lt, next_of, None, Ok, refl, Some, subst, sym, take, take-append-drop, true, verdict, ℕ}
use Rattle.line_framing.specs.declared.faults.FramingFault.TheVariants.{BadByte, LineTooLong}

abbrev closed : Bool → List ℕ → List ℕ → Front
closed b c more = if b then Ok (Some (c, more)) else Err BadByte

abbrev judged : Bool → List ℕ → List ℕ → Front
judged b c after = if b then Err LineTooLong else ending c after

-- after a content that no line end follows comes at most its CR
not_ended : (c after : List ℕ) → length c ≤ 65536 → ending c after ≡ Ok None → length (c ++ after) ≤ 65537
not_ended c [] short is = let count = length-append c [] in omega (arith, count, short)
not_ended c (x ∷ []) short is = let count = length-append c (x ∷ []) in omega (arith, count, short)
not_ended c (x ∷ y ∷ more) short is = go ((x == 13) && (y == 10)) is
  where
    go : (b : Bool) → closed b c more ≡ Ok None → length (c ++ x ∷ y ∷ more) ≤ 65537
    go true e = absurd cc
    go false e = absurd cc

short_or_long : (c after : List ℕ) → verdict c after ≡ Ok None → length (c ++ after) ≤ 65537
short_or_long c after is = go (nat_lt 65536 (length c)) refl is
  where
    go : (b : Bool) → nat_lt 65536 (length c) ≡ b → judged b c after ≡ Ok None → length (c ++ after) ≤ 65537
    go true e none = absurd cc
    go false e none = not_ended c after (ltb-false 65536 (length c) e) none

none_few : (bytes : List ℕ) → next_of bytes ≡ Ok None → length bytes ≤ 65537
none_few bytes is =
    subst (λ (bs : List ℕ). length bs ≤ 65537) (take-append-drop (content_len bytes) bytes)
    (short_or_long (content_of bytes) (behind_content bytes) is)

few_by : (f : Framing) (front : Front) → next_of f.rest ≡ front → (IsLineDue front → ⊥) → length (left_after front f).rest ≤ 65537
few_by f (Ok None) is ended = none_few f.rest is
few_by f (Ok (Some found)) is ended = absurd (ended refl)
few_by f (Err fault) is ended = omega arith

pub few_left : (f : Framing) → (IsLineDue (next_of f.rest) → ⊥) → length (after_first f).rest ≤ 65537
few_left f ended = few_by f (next_of f.rest) refl ended

none_by : (f : Framing) (front : Front) → next_of f.rest ≡ front → (IsLineDue front → ⊥) → IsLineDue (next_of (left_after front f).rest) → ⊥
none_by f (Ok None) is ended = subst (λ (front : Front). IsLineDue front → ⊥) (sym is) ended
none_by f (Ok (Some found)) is ended = absurd (ended refl)
none_by f (Err fault) is ended = λ due. absurd cc

pub none_left : (f : Framing) → (IsLineDue (next_of f.rest) → ⊥) → IsLineDue (next_of (after_first f).rest) → ⊥
none_left f ended = none_by f (next_of f.rest) refl ended
