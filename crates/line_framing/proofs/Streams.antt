-- Lists of lines as bytes: what is taken from them piece by piece is these lines.
use Rattle.line_framing.proofs.Names.{[], ◌&&◌, ◌++◌, ◌<◌, ◌||◌, ◌∙◌, ◌∷◌, ◌≡◌, ◌≤◌, ap, append_assoc, AreLines, AreSame, arith, BadByte}
use Rattle.line_framing.proofs.Names.{behind_content, Bool, cond, content_of, ending, eqb, eqb-true, Err, false, fault_in, fault_of, FramingFault}
use Rattle.line_framing.proofs.Names.{Front, IfOk, is_bad_end, is_content, IsLine, IsNone, IsRead, IsStream, length, length-append, line_bytes}
use Rattle.line_framing.proofs.Names.{LineTooLong, List, next_of, None, not, not-false, Ok, Option, refl, Some, subst, suc, sym, TakesFirst, true}
use Rattle.line_framing.proofs.Names.{true≢false, zero, ℕ}
use Rattle.line_framing.proofs.Cuts.{begins}
use Rattle.line_framing.proofs.FirstLine.{first_line_at, found, found_stays, fault_stays, same_found}

pub line_bytes-append : (xs ys : List (List ℕ)) → line_bytes (xs ++ ys) ≡ line_bytes xs ++ line_bytes ys
line_bytes-append [] ys = refl
line_bytes-append (x ∷ xs) ys =
    ap (λ (l : List ℕ). x ++ 13 ∷ 10 ∷ l) (line_bytes-append xs ys) ∙ sym (append_assoc x (13 ∷ 10 ∷ line_bytes xs) (line_bytes ys))

pub AreLines-append : (xs ys : List (List ℕ)) → AreLines xs → AreLines ys → AreLines (xs ++ ys)
AreLines-append [] ys h g = g
AreLines-append (x ∷ xs) ys h g = (h.0, AreLines-append xs ys h.1 g)

-- where bytes and what is to come are lines, no fault is at their front
pub no_fault : (bytes more : List ℕ) (xs : List (List ℕ)) (fault : FramingFault) → AreLines xs → bytes ++ more ≡ line_bytes xs
    → next_of bytes ≡ Err fault → ⊥
no_fault bytes more [] fault h e next =
    let stays : next_of [] ≡ Err fault = ap next_of (sym e) ∙ fault_stays bytes more fault next in
    cc
no_fault bytes more (x ∷ xs) fault h e next =
    let stays : next_of (x ++ 13 ∷ 10 ∷ line_bytes xs) ≡ Err fault = ap next_of (sym e) ∙ fault_stays bytes more fault next in
    let first = first_line_at x (line_bytes xs) h.0 in
    cc

-- and the line that is there is the first of them, with the others after it
pub takes_first : (bytes more : List ℕ) (xs : List (List ℕ)) (line left : List ℕ) → AreLines xs → bytes ++ more ≡ line_bytes xs
    → next_of bytes ≡ Ok (Some (line, left)) → TakesFirst xs line left more
takes_first bytes more [] line left h e next =
    let stays : next_of [] ≡ Ok (Some (line, left ++ more)) = ap next_of (sym e) ∙ found_stays bytes line left more next in
    absurd (cc)
takes_first bytes more (x ∷ xs) line left h e next =
    let stays = ap next_of (sym e) ∙ found_stays bytes line left more next in
    let same = same_found x (line_bytes xs) line (left ++ more) (sym (first_line_at x (line_bytes xs) h.0) ∙ stays) in
    record { others = xs; first = ap (λ (l : List ℕ). l ∷ xs) same.0; behind = sym same.1 }

-- if nothing is found in the bytes of lines, there are no lines
pub none_left : (xs : List (List ℕ)) → AreLines xs → next_of (line_bytes xs) ≡ Ok None → xs ≡ []
none_left [] h next = refl
none_left (x ∷ xs) h next = let first = first_line_at x (line_bytes xs) h.0 in absurd (cc)

-- the lines, the rest and its fault are determined by the bytes
same_stream : (xs ys : List (List ℕ)) (rest left : List ℕ) → line_bytes xs ++ rest ≡ line_bytes ys ++ left → AreLines xs → AreLines ys
    → ((line more : List ℕ) → IsLine line → rest ≡ line ++ 13 ∷ 10 ∷ more → ⊥)
    → ((line more : List ℕ) → IsLine line → left ≡ line ++ 13 ∷ 10 ∷ more → ⊥) → (xs ≡ ys) × (rest ≡ left)
same_stream [] [] rest left e hx hy nx ny = (refl, e)
same_stream [] (y ∷ ys) rest left e hx hy nx ny = absurd (nx y (line_bytes ys ++ left) hy.0 (e
    ∙ append_assoc y (13 ∷ 10 ∷ line_bytes ys) left))
same_stream (x ∷ xs) [] rest left e hx hy nx ny = absurd (ny x (line_bytes xs ++ rest) hx.0 (sym e
    ∙ append_assoc x (13 ∷ 10 ∷ line_bytes xs) rest))
same_stream (x ∷ xs) (y ∷ ys) rest left e hx hy nx ny =
    let bytes : x ++ 13 ∷ 10 ∷ (line_bytes xs ++ rest) ≡ y ++ 13 ∷ 10 ∷ (line_bytes ys ++ left) =
    sym (append_assoc x (13 ∷ 10 ∷ line_bytes xs) rest) ∙ (e ∙ append_assoc y (13 ∷ 10 ∷ line_bytes ys) left) in
    let one = same_found x (line_bytes xs ++ rest) y (line_bytes ys ++ left) (sym (first_line_at x (line_bytes xs ++ rest) hx.0)
    ∙ (ap next_of bytes ∙ first_line_at y (line_bytes ys ++ left) hy.0)) in
    let others = same_stream xs ys rest left one.1 hx.1 hy.1 nx ny in
    (ap (λ (l : List ℕ). l ∷ xs) one.0 ∙ ap (λ (ls : List (List ℕ)). y ∷ ls) others.0, others.1)

pub one_stream : (bytes : List ℕ) (xs ys : List (List ℕ)) (rest left : List ℕ) (fault other : Option FramingFault)
    → IsStream bytes xs rest fault → IsStream bytes ys left other → AreSame xs ys rest left fault other
one_stream bytes xs ys rest left fault other h g =
    let same = same_stream xs ys rest left (sym h.parts ∙ g.parts) h.whole g.whole h.no_more g.no_more in
    record { lines_are = same.0; rests_are = same.1; faults_are = h.faulty ∙ (ap fault_of same.1 ∙ sym g.faulty) }

-- one line more in front
pub stream_more : (bytes line left rest : List ℕ) (lines : List (List ℕ)) (fault : Option FramingFault)
    → next_of bytes ≡ Ok (Some (line, left)) → IsStream left lines rest fault → IsStream bytes (line ∷ lines) rest fault
stream_more bytes line left rest lines fault next h =
    let f = found bytes line left next in
    record {
      parts = f.parts ∙ (ap (λ (l : List ℕ). line ++ 13 ∷ 10 ∷ l) h.parts ∙ sym (append_assoc line (13 ∷ 10 ∷ line_bytes lines) rest));
      whole = (f.is_line, h.whole);
      no_more = h.no_more;
      faulty = h.faulty;
    }

-- where no line is at the front, the fault of the bytes is what is there
stop_is : (x : ℕ) → is_content x ≡ false → eqb x 13 ≡ false → eqb x 10 ≡ true
stop_is x h e = not-false _ (sym (ap (λ (b : Bool). not b && not (eqb x 10)) e) ∙ h)

bad_one : (c : List ℕ) (x : ℕ) (b : Bool) → eqb x 13 ≡ b → is_content x ≡ false
    → cond {A = Option FramingFault} (eqb x 10) (Some BadByte) None ≡ fault_in (cond {A = Front} b (Ok None) (Err BadByte))
bad_one c x true e h = let same : x ≡ 13 = eqb-true x 13 e in
    ap (λ (y : ℕ). cond {A = Option FramingFault} (eqb y 10) (Some BadByte) None) same
bad_one c x false e h = ap (λ (b : Bool). cond {A = Option FramingFault} b (Some BadByte) None) (stop_is x h e)

bad_two : (c : List ℕ) (x y : ℕ) (m : List ℕ) (b d : Bool) → eqb x 13 ≡ b → eqb y 10 ≡ d → is_content x ≡ false
    → IfOk (cond {A = Front} (b && d) (Ok (Some (c, m))) (Err BadByte)) IsNone
    → cond {A = Option FramingFault} (eqb x 10 || (b && not d)) (Some BadByte) None
    ≡ fault_in (cond {A = Front} (b && d) (Ok (Some (c, m))) (Err BadByte))
bad_two c x y m true true e g h none = absurd (true≢false none)
bad_two c x y m true false e g h none = let same : x ≡ 13 = eqb-true x 13 e
    in ap (λ (z : ℕ). cond {A = Option FramingFault} (eqb z 10 || true) (Some BadByte) None) same
bad_two c x y m false d e g h none = ap (λ (b : Bool). cond {A = Option FramingFault} (b || false) (Some BadByte) None) (stop_is x h e)

bad_behind : (c a : List ℕ) → ((x : ℕ) (more : List ℕ) → a ≡ x ∷ more → is_content x ≡ false) → IfOk (ending c a) IsNone
    → cond {A = Option FramingFault} (is_bad_end a) (Some BadByte) None ≡ fault_in (ending c a)
bad_behind c [] stop none = refl
bad_behind c (x ∷ []) stop none = bad_one c x (eqb x 13) refl (stop x [] refl)
bad_behind c (x ∷ y ∷ m) stop none = bad_two c x y m (eqb x 13) (eqb y 10) refl refl (stop x (y ∷ m) refl) none

fault_by : (c a : List ℕ) (b : Bool) → ((x : ℕ) (more : List ℕ) → a ≡ x ∷ more → is_content x ≡ false)
    → IfOk (cond {A = Front} b (Err LineTooLong) (ending c a)) IsNone
    → cond {A = Option FramingFault} b (Some LineTooLong) (cond {A = Option FramingFault} (is_bad_end a) (Some BadByte) None)
    ≡ fault_in (cond {A = Front} b (Err LineTooLong) (ending c a))
fault_by c a true stop none = refl
fault_by c a false stop none = bad_behind c a stop none

pub fault_is : (bytes : List ℕ) → IfOk (next_of bytes) IsNone → fault_of bytes ≡ fault_in (next_of bytes)
fault_is bytes none = fault_by (content_of bytes) (behind_content bytes) _ (begins bytes).stop none

pub stream_end : (bytes : List ℕ) → IfOk (next_of bytes) IsNone → IsStream bytes [] bytes (fault_in (next_of bytes))
stream_end bytes none = record {
  parts = refl;
  whole = tt;
  no_more = λ line more h e. true≢false (subst (λ (r : Front). IfOk r IsNone) (ap next_of e ∙ first_line_at line more h) none);
  faulty = sym (fault_is bytes none);
}

-- each list of bytes is a stream
read_by : (bytes : List ℕ) (n : ℕ) (front : Front) → next_of bytes ≡ front → length bytes ≤ n
    → ((left : List ℕ) → length left < n → IsRead left) → IsRead bytes
read_by bytes n (Ok None) next short later =
    record {
      lines = [];
      rest = bytes;
      fault = fault_in (next_of bytes);
      stream = stream_end bytes (subst (λ (r : Front). IfOk r IsNone) (sym next) refl);
    }
read_by bytes n (Ok (Some (line, left))) next short later =
    let f = found bytes line left next in
    let count = ap length f.parts ∙ length-append line (13 ∷ 10 ∷ left) in
    let r = later left (omega (arith, count)) in
    record {
      lines = line ∷ r.lines;
      rest = r.rest;
      fault = r.fault;
      stream = stream_more bytes line left r.rest r.lines r.fault next r.stream;
    }
read_by bytes n (Err fault) next short later =
    record {
      lines = [];
      rest = bytes;
      fault = fault_in (next_of bytes);
      stream = stream_end bytes (subst (λ (r : Front). IfOk r IsNone) (sym next) tt);
    }

read_within : (n : ℕ) (bytes : List ℕ) → length bytes < n → IsRead bytes
read_within zero bytes h = absurd (omega (arith, h))
read_within (suc n) bytes h = read_by bytes n (next_of bytes) refl (omega (arith, h)) (read_within n)

pub some_stream : (bytes : List ℕ) → IsRead bytes
some_stream bytes = read_within (suc (length bytes)) bytes (omega arith)
