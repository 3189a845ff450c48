-- What is at the start of bytes: one thing, and more bytes do not undo it.
use Rattle.line_framing.proofs.Names.{[], ◌&&◌, ◌++◌, ◌<◌, ◌∙◌, ◌∷◌, ◌≡◌, ◌≤◌, and_parts, ap, append_assoc, arith, BadByte, BeginsWith}
use Rattle.line_framing.proofs.Names.{behind_content, Bool, cond, content_len, content_of, ending, eqb, eqb-true, Err, false, FramingFault, Front}
use Rattle.line_framing.proofs.Names.{is_content, IsFound, IsLine, le-ltb, length, length-prefix_len, LineTooLong, List, lt-ltb, ltb, ltb-false}
use Rattle.line_framing.proofs.Names.{ltb-true, Next, next_of, None, Ok, refl, Some, subst, sym, true, verdict, ℕ}
use Rattle.line_framing.proofs.Cuts.{begins, one_cut, cut_stays, prefix_len-le-append}

-- any cut of bytes says what is at their front
pub next_is : (bytes c a : List ℕ) → BeginsWith bytes c a → next_of bytes ≡ verdict c a
next_is bytes c a h =
    let same : (content_of bytes ≡ c) × (behind_content bytes ≡ a) = one_cut bytes _ _ _ _ (begins bytes) h in
    ap (λ (d : List ℕ). verdict d (behind_content bytes)) same.0 ∙ ap (λ (b : List ℕ). verdict c b) same.1

-- the relation and the function say one thing
pub next_holds : (bytes : List ℕ) → Next bytes (next_of bytes)
next_holds bytes = record { content = content_of bytes; after = behind_content bytes; begins = begins bytes; decides = refl }

-- and no other
pub next_from : (bytes : List ℕ) (r : Front) → Next bytes r → r ≡ next_of bytes
next_from bytes r h = h.decides ∙ sym (next_is bytes h.content h.after h.begins)

-- one thing is at the start of bytes
pub one_next : (bytes : List ℕ) (r s : Front) → Next bytes r → Next bytes s → r ≡ s
one_next bytes r s h g = next_from bytes r h ∙ sym (next_from bytes s g)

-- a line and its end are found, whatever follows
short_verdict : (c a : List ℕ) → length c ≤ 65536 → verdict c a ≡ ending c a
short_verdict c a h = ap (λ (b : Bool). cond {A = Front} b (Err LineTooLong) (ending c a)) (le-ltb 65536 (length c) h)

pub first_line_at : (line more : List ℕ) → IsLine line → next_of (line ++ 13 ∷ 10 ∷ more) ≡ Ok (Some (line, more))
first_line_at line more h =
    next_is _ line (13 ∷ 10 ∷ more) (record {
      parts = refl;
      free = h.free;
      stop = λ c rest is. let same : c ≡ 13 = cc
          in ap is_content same;
    })
    ∙ short_verdict line (13 ∷ 10 ∷ more) h.short

-- the line and the rest of what is found
abbrev line_in : Front → List ℕ
line_in (Ok None) = []
line_in (Ok (Some p)) = p.0
line_in (Err fault) = []

abbrev rest_in : Front → List ℕ
rest_in (Ok None) = []
rest_in (Ok (Some p)) = p.1
rest_in (Err fault) = []

-- equal findings have equal lines and rests
pub same_found : (line rest other left : List ℕ) → ◌≡◌ {A = Front} (Ok (Some (line, rest))) (Ok (Some (other, left))) → (line ≡ other)
    × (rest ≡ left)
same_found line rest other left h = (ap line_in h, ap rest_in h)

-- the three ways of a verdict
ended_by : (c : List ℕ) (x y : ℕ) (m line rest : List ℕ) (b : Bool) → (eqb x 13 && eqb y 10) ≡ b
    → cond {A = Front} b (Ok (Some (c, m))) (Err BadByte) ≡ Ok (Some (line, rest)) → (c ≡ line) × (x ∷ y ∷ m ≡ 13 ∷ 10 ∷ rest)
ended_by c x y m line rest true e h =
    let ex : x ≡ 13 = eqb-true x 13 (and_parts (eqb x 13) (eqb y 10) e).0 in
    let ey : y ≡ 10 = eqb-true y 10 (and_parts (eqb x 13) (eqb y 10) e).1 in
    let same = same_found c m line rest h in
    let tail : m ≡ rest = same.1 in
    let behind : x ∷ y ∷ m ≡ 13 ∷ 10 ∷ rest = cc in
    (same.0, behind)
ended_by c x y m line rest false e h = absurd (cc)

waits_by : (c line rest : List ℕ) (b : Bool) → cond {A = Front} b (Ok None) (Err BadByte) ≡ Ok (Some (line, rest)) → ⊥
waits_by c line rest true h = cc
waits_by c line rest false h = cc

ending_found : (c a line rest : List ℕ) → ending c a ≡ Ok (Some (line, rest)) → (c ≡ line) × (a ≡ 13 ∷ 10 ∷ rest)
ending_found c [] line rest h = absurd (cc)
ending_found c (x ∷ []) line rest h = absurd (waits_by c line rest (eqb x 13) h)
ending_found c (x ∷ y ∷ m) line rest h = ended_by c x y m line rest (eqb x 13 && eqb y 10) refl h

found_by : (c a line rest : List ℕ) (b : Bool) → ltb 65536 (length c) ≡ b
    → cond {A = Front} b (Err LineTooLong) (ending c a) ≡ Ok (Some (line, rest)) → (length c ≤ 65536) × (c ≡ line) × (a ≡ 13 ∷ 10 ∷ rest)
found_by c a line rest true e h = absurd (cc)
found_by c a line rest false e h =
    let parts = ending_found c a line rest h in
    (ltb-false 65536 (length c) e, parts.0, parts.1)

-- what is found is a line, and it stood there with its end
pub found : (bytes line rest : List ℕ) → next_of bytes ≡ Ok (Some (line, rest)) → IsFound bytes line rest
found bytes line rest h =
    let cut = begins bytes in
    let parts = found_by (content_of bytes) (behind_content bytes) line rest _ refl h in
    let same : content_of bytes ≡ line = parts.1 in
    let end : behind_content bytes ≡ 13 ∷ 10 ∷ rest = parts.2 in
    record {
      is_line = record { free = rw (← same) cut.free; short = rw (← same) parts.0 };
      parts = cut.parts ∙ (ap (λ (l : List ℕ). l ++ behind_content bytes) same ∙ ap (λ (l : List ℕ). line ++ l) end);
    }

-- a line that is found stays the first one when bytes are appended
pub found_stays : (bytes line rest more : List ℕ) → next_of bytes ≡ Ok (Some (line, rest))
    → next_of (bytes ++ more) ≡ Ok (Some (line, rest ++ more))
found_stays bytes line rest more h =
    let f = found bytes line rest h in
    let same : bytes ++ more ≡ line ++ 13 ∷ 10 ∷ (rest ++ more) = ap (λ (l : List ℕ). l ++ more) f.parts
    ∙ append_assoc line (13 ∷ 10 ∷ rest) more in
    ap next_of same ∙ first_line_at line (rest ++ more) f.is_line

-- and a fault stays a fault
bad_by : (c : List ℕ) (x : ℕ) (f : FramingFault) (b : Bool) → cond {A = Front} b (Ok None) (Err BadByte) ≡ Err f → (b ≡ false)
    × (f ≡ BadByte)
bad_by c x f true h = absurd (cc)
bad_by c x f false h = let same : f ≡ BadByte = cc in (refl, same)

unended_by : (c m : List ℕ) (f : FramingFault) (b : Bool) → cond {A = Front} b (Ok (Some (c, m))) (Err BadByte) ≡ Err f → (b ≡ false)
    × (f ≡ BadByte)
unended_by c m f true h = absurd (cc)
unended_by c m f false h = let same : f ≡ BadByte = cc in (refl, same)

bad_end : (c : List ℕ) (x : ℕ) (more : List ℕ) → eqb x 13 ≡ false → ending c (x ∷ more) ≡ Err BadByte
bad_end c x [] e = ap (λ (b : Bool). cond {A = Front} b (Ok None) (Err BadByte)) e
bad_end c x (y ∷ more) e = ap (λ (b : Bool). cond {A = Front} (b && eqb y 10) (Ok (Some (c, more))) (Err BadByte)) e

ending_stays : (c : List ℕ) (x : ℕ) (a more : List ℕ) (f : FramingFault) → ending c (x ∷ a) ≡ Err f → ending c (x ∷ (a ++ more)) ≡ Err f
ending_stays c x [] more f h =
    let bad = bad_by c x f (eqb x 13) h in
    let same : f ≡ BadByte = bad.1 in
    let end : ending c (x ∷ more) ≡ Err BadByte = bad_end c x more bad.0 in
    cc
ending_stays c x (y ∷ a) more f h =
    let bad = unended_by c a f (eqb x 13 && eqb y 10) h in
    let same : f ≡ BadByte = bad.1 in
    let end : ending c (x ∷ y ∷ (a ++ more)) ≡ Err BadByte = ap (λ (b : Bool). cond {A = Front} b (Ok (Some (c, a ++ more))) (Err BadByte))
    bad.0 in
    cc

too_long : (bytes : List ℕ) → 65536 < content_len bytes → next_of bytes ≡ Err LineTooLong
too_long bytes h =
    ap (λ (b : Bool). cond {A = Front} b (Err LineTooLong) (ending (content_of bytes) (behind_content bytes)))
    (lt-ltb 65536 (length (content_of bytes)) (rw (length-prefix_len is_content bytes) h))

stays_by : (bytes more : List ℕ) (f : FramingFault) (a : List ℕ) (b : Bool) → behind_content bytes ≡ a
    → ltb 65536 (length (content_of bytes)) ≡ b → cond {A = Front} b (Err LineTooLong) (ending (content_of bytes) a) ≡ Err f
    → next_of (bytes ++ more) ≡ Err f
stays_by bytes more f a true ea e h =
    let same : f ≡ LineTooLong = cc in
    let long : 65536 < content_len bytes = rw (length-prefix_len is_content bytes) at (ltb-true 65536 _ e) in
    let end : next_of (bytes ++ more) ≡ Err LineTooLong = too_long (bytes ++ more)
    (omega (arith, long, prefix_len-le-append is_content bytes more)) in
    cc
stays_by bytes more f [] false ea e h = absurd (cc)
stays_by bytes more f (x ∷ a) false ea e h =
    next_is (bytes ++ more) (content_of bytes) (x ∷ (a ++ more))
    (cut_stays bytes (content_of bytes) x a more (subst (λ (l : List ℕ). BeginsWith bytes (content_of bytes) l) ea (begins bytes)))
    ∙ (short_verdict (content_of bytes) (x ∷ (a ++ more)) (ltb-false 65536 _ e) ∙ ending_stays (content_of bytes) x a more f h)

pub fault_stays : (bytes more : List ℕ) (f : FramingFault) → next_of bytes ≡ Err f → next_of (bytes ++ more) ≡ Err f
fault_stays bytes more f h = stays_by bytes more f (behind_content bytes) _ refl refl h
