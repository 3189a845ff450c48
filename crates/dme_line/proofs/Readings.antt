-- Each reading is computed, with what shows that it is the one.
use Rattle.dme_line.proofs.Names.{[], ◌&&◌, ◌*◌, ◌++◌, ◌+◌, ◌-◌, ◌/◌, ◌==◌, ◌∙◌, ◌∷◌, ◌≡◌, ◌≤◌, ◌⊎◌, and_from, and_parts, ap, are_spaces, arith}
use Rattle.dme_line.proofs.Names.{Begins, Bool, codes, Command, cond, drop, eq-eqb, eqb-true, Err, Event, false, false≢true, HasCoordinates}
use Rattle.dme_line.proofs.Names.{homed_digit, if◌then◌else◌, inl, inr, is_event_kind, is_event_tag, is_name_part, is_word, IsHomedCall, IsHomedText}
use Rattle.dme_line.proofs.Names.{IsMarkText, IsNumbered, IsOneWord, IsPointText, IsResponseLine, IsTag, IsTagged, Kind, kind_name, last_digit}
use Rattle.dme_line.proofs.Names.{le-leb, leb-true, LineFault, List, Mark, nat_le, None, NotHomedText, NotPoint, NotResponse, Ok, Option, Point}
use Rattle.dme_line.proofs.Names.{point_tokens, prefix_len, ReadsCommand, ReadsHomed, ReadsPoint, ReadsResponse, refl, Response, Result, Some, Std}
use Rattle.dme_line.proofs.Names.{subst, sym, Tag, take, Token, tokens, true, wire_limit, written_tag, ℕ}
use Rattle.dme_line.proofs.TagLemmas.{one_tag, tag_numbered}
use Rattle.dme_line.proofs.NameCutLemmas.{name_cut}
use Rattle.dme_line.proofs.CommandLemmas.{SaysHere, says_here}
use Rattle.dme_line.proofs.HomedLemmas.{CallHere, call_here, call_from}
use Rattle.dme_line.proofs.ToolLemmas.{same_word}
use Rattle.dme_line.proofs.Deciding.{Decided, decided_by, both, test, same_bytes, shapes, words, first_of, others_of}
use Rattle.dme_line.proofs.Deciding.{filled, filled_of, has_shape, Length, length_is, OneWord, one_word, Saying, saying}

-- ---- tags

abbrev is_digit : ℕ → Bool
is_digit c = nat_le 48 c && nat_le c 57

abbrev is_standard : List ℕ → Bool
is_standard (a ∷ b ∷ c ∷ d ∷ e ∷ s ∷ text) = is_digit a && (is_digit b && (is_digit c && (is_digit d && (is_digit e && (s == 32)))))
is_standard _ = false

abbrev is_event : List ℕ → Bool
is_event (a ∷ b ∷ c ∷ d ∷ e ∷ s ∷ text) = (a == 69) && (is_digit b && (is_digit c && (is_digit d && (is_digit e && (s == 32)))))
is_event _ = false

-- a line begins with a tag and a space
record Tagged (line : List ℕ) : Type 0 where
  pub tag : Tag
  pub text : List ℕ
  pub is_tag : IsTag tag
  pub parts : line ≡ written_tag tag ++ (32 ∷ text)

record IsDigit (c : ℕ) : Type 0 where
  pub value : ℕ
  pub small : value ≤ 9
  pub is : c ≡ 48 + value

digit_is : (c : ℕ) → is_digit c ≡ true → IsDigit c
digit_is c h =
    let parts = and_parts (nat_le 48 c) (nat_le c 57) h in
    let low : 48 ≤ c = leb-true _ _ parts.0 in
    let high : c ≤ 57 = leb-true _ _ parts.1 in
    record { value = c - 48; small = omega (arith, high); is = omega (arith, low) }

digit_last : (n : ℕ) → is_digit (last_digit n) ≡ true
digit_last n = and_from _ _ (le-leb 48 (last_digit n) (omega arith)) (le-leb (last_digit n) 57 (omega arith))

five_are : (a b c d e : ℕ) → a ≤ 9 → b ≤ 9 → c ≤ 9 → d ≤ 9 → e ≤ 9 → (text : List ℕ)
    → (48 + a) ∷ (48 + b) ∷ (48 + c) ∷ (48 + d) ∷ (48 + e) ∷ 32 ∷ text
    ≡ written_tag (Std (10000 * a + (1000 * b + (100 * c + (10 * d + e))))) ++ (32 ∷ text)
five_are a b c d e p q r s t text =
    let n : ℕ = 10000 * a + (1000 * b + (100 * c + (10 * d + e))) in
    let f : last_digit (n / 10000) ≡ 48 + a = omega (arith, p, q, r, s, t) in
    let g : last_digit (n / 1000) ≡ 48 + b = omega (arith, p, q, r, s, t) in
    let h : last_digit (n / 100) ≡ 48 + c = omega (arith, p, q, r, s, t) in
    let k : last_digit (n / 10) ≡ 48 + d = omega (arith, p, q, r, s, t) in
    let l : last_digit n ≡ 48 + e = omega (arith, p, q, r, s, t) in
    sym (λ i. f i ∷ g i ∷ h i ∷ k i ∷ l i ∷ 32 ∷ text)

four_are : (b c d e : ℕ) → b ≤ 9 → c ≤ 9 → d ≤ 9 → e ≤ 9 → (text : List ℕ)
    → 69 ∷ (48 + b) ∷ (48 + c) ∷ (48 + d) ∷ (48 + e) ∷ 32 ∷ text ≡ written_tag (Event (1000 * b + (100 * c + (10 * d + e)))) ++ (32 ∷ text)
four_are b c d e q r s t text =
    let n : ℕ = 1000 * b + (100 * c + (10 * d + e)) in
    let g : last_digit (n / 1000) ≡ 48 + b = omega (arith, q, r, s, t) in
    let h : last_digit (n / 100) ≡ 48 + c = omega (arith, q, r, s, t) in
    let k : last_digit (n / 10) ≡ 48 + d = omega (arith, q, r, s, t) in
    let l : last_digit n ≡ 48 + e = omega (arith, q, r, s, t) in
    sym (λ i. 69 ∷ g i ∷ h i ∷ k i ∷ l i ∷ 32 ∷ text)

six_same : (a b c d e s x y z u v w : ℕ) (text : List ℕ) → a ≡ x → b ≡ y → c ≡ z → d ≡ u → e ≡ v → s ≡ w
    → a ∷ b ∷ c ∷ d ∷ e ∷ s ∷ text ≡ x ∷ y ∷ z ∷ u ∷ v ∷ w ∷ text
six_same a b c d e s x y z u v w text f g h k l m = λ i. f i ∷ g i ∷ h i ∷ k i ∷ l i ∷ m i ∷ text

standard_found : (line : List ℕ) → is_standard line ≡ true → Tagged line
standard_found (a ∷ b ∷ c ∷ d ∷ e ∷ s ∷ text) h =
    let p = and_parts (is_digit a) _ h in
    let q = and_parts (is_digit b) _ p.1 in
    let r = and_parts (is_digit c) _ q.1 in
    let t = and_parts (is_digit d) _ r.1 in
    let u = and_parts (is_digit e) (s == 32) t.1 in
    let first : IsDigit a = digit_is a p.0 in
    let second : IsDigit b = digit_is b q.0 in
    let third : IsDigit c = digit_is c r.0 in
    let fourth : IsDigit d = digit_is d t.0 in
    let fifth : IsDigit e = digit_is e u.0 in
    record {
      tag = Std (10000 * first.value + (1000 * second.value + (100 * third.value + (10 * fourth.value + fifth.value))));
      text = text;
      is_tag = omega (arith, first.small, second.small, third.small, fourth.small, fifth.small);
      parts = six_same a b c d e s _ _ _ _ _ _ text first.is second.is third.is fourth.is fifth.is (eqb-true s 32 u.1)
          ∙ five_are first.value second.value third.value fourth.value fifth.value first.small second.small third.small fourth.small
          fifth.small text;
    }
standard_found [] h = absurd (false≢true h)
standard_found (a ∷ []) h = absurd (false≢true h)
standard_found (a ∷ b ∷ []) h = absurd (false≢true h)
standard_found (a ∷ b ∷ c ∷ []) h = absurd (false≢true h)
standard_found (a ∷ b ∷ c ∷ d ∷ []) h = absurd (false≢true h)
standard_found (a ∷ b ∷ c ∷ d ∷ e ∷ []) h = absurd (false≢true h)

event_found : (line : List ℕ) → is_event line ≡ true → Tagged line
event_found (a ∷ b ∷ c ∷ d ∷ e ∷ s ∷ text) h =
    let p = and_parts (a == 69) _ h in
    let q = and_parts (is_digit b) _ p.1 in
    let r = and_parts (is_digit c) _ q.1 in
    let t = and_parts (is_digit d) _ r.1 in
    let u = and_parts (is_digit e) (s == 32) t.1 in
    let second : IsDigit b = digit_is b q.0 in
    let third : IsDigit c = digit_is c r.0 in
    let fourth : IsDigit d = digit_is d t.0 in
    let fifth : IsDigit e = digit_is e u.0 in
    record {
      tag = Event (1000 * second.value + (100 * third.value + (10 * fourth.value + fifth.value)));
      text = text;
      is_tag = omega (arith, second.small, third.small, fourth.small, fifth.small);
      parts = six_same a b c d e s _ _ _ _ _ _ text (eqb-true a 69 p.0) second.is third.is fourth.is fifth.is (eqb-true s 32 u.1)
          ∙ four_are second.value third.value fourth.value fifth.value second.small third.small fourth.small fifth.small text;
    }
event_found [] h = absurd (false≢true h)
event_found (a ∷ []) h = absurd (false≢true h)
event_found (a ∷ b ∷ []) h = absurd (false≢true h)
event_found (a ∷ b ∷ c ∷ []) h = absurd (false≢true h)
event_found (a ∷ b ∷ c ∷ d ∷ []) h = absurd (false≢true h)
event_found (a ∷ b ∷ c ∷ d ∷ e ∷ []) h = absurd (false≢true h)

tag_tests : (t : Tag) (text : List ℕ) → (is_standard (written_tag t ++ (32 ∷ text)) ≡ true)
    ⊎ (is_event (written_tag t ++ (32 ∷ text)) ≡ true)
tag_tests (Std n) text = inl (and_from _ _ (digit_last (n / 10000))
    (and_from _ _ (digit_last (n / 1000)) (and_from _ _ (digit_last (n / 100))
    (and_from _ _ (digit_last (n / 10)) (and_from _ _ (digit_last n) refl)))))
tag_tests (Event n) text = inr (and_from _ _ refl (and_from _ _ (digit_last (n / 1000))
    (and_from _ _ (digit_last (n / 100)) (and_from _ _ (digit_last (n / 10)) (and_from _ _ (digit_last n) refl)))))

tagged : (line : List ℕ) → Decided (Tagged line)
tagged line = go (test (is_standard line)) (test (is_event line))
  where
    neither : (is_standard line ≡ true → ⊥) → (is_event line ≡ true → ⊥) → (t : Tagged line)
        → (is_standard (written_tag t.tag ++ (32 ∷ t.text)) ≡ true) ⊎ (is_event (written_tag t.tag ++ (32 ∷ t.text)) ≡ true) → ⊥
    neither standard event t (inl e) = standard (ap is_standard t.parts ∙ e)
    neither standard event t (inr e) = event (ap is_event t.parts ∙ e)

    go : Decided (is_standard line ≡ true) → Decided (is_event line ≡ true) → Decided (Tagged line)
    go (inl s) e = inl (standard_found line s)
    go (inr s) (inl e) = inl (event_found line e)
    go (inr s) (inr e) = inr (λ t. neither s e t (tag_tests t.tag t.text))

numbered : (t : Tag) → IsTag t → Decided (IsNumbered t)
numbered (Std n) le = decided_by (λ (e : nat_le 1 n ≡ true). (leb-true 1 n e, le)) (λ (h : (1 ≤ n) × (n ≤ 99999)). le-leb 1 n h.0)
    (test (nat_le 1 n))
numbered (Event n) le = decided_by (λ (e : nat_le 1 n ≡ true). (leb-true 1 n e, le)) (λ (h : (1 ≤ n) × (n ≤ 9999)). le-leb 1 n h.0)
    (test (nat_le 1 n))

-- ---- commands

pub record CommandRead (line : List ℕ) : Type 0 where
  pub result : Result (Tag × Command) LineFault
  pub reads : ReadsCommand line result

same_sort : (a b : Bool) → Decided (a ≡ b)
same_sort true true = inl refl
same_sort true false = inr (λ e. false≢true (sym e))
same_sort false true = inr (λ e. false≢true e)
same_sort false false = inl refl

-- the name is that of a command
known : (line : List ℕ) (t : Tag) (name rest : List ℕ) (k : Kind) → Begins line t name rest → is_word (kind_name k) name ≡ true
    → Decided (is_event_tag t ≡ is_event_kind k) → Decided (Saying k (tokens rest)) → CommandRead line
known line t name rest k b is (inr sort) says = record {
  result = Err (LineFault.BadArguments t k);
  reads = (name, rest, b, is, λ c h. let here : SaysHere t k rest c = says_here line t t name rest k c b is h in sort here.fits.sort);
}
known line t name rest k b is (inl sort) (inr none) = record {
  result = Err (LineFault.BadArguments t k);
  reads = (
    name,
    rest,
    b,
    is,
    λ c h. let here : SaysHere t k rest c = says_here line t t name rest k c b is h
        in none (record { command = c; says = here.says }),
  );
}
known line t name rest k b is (inl sort) (inl s) = record {
  result = Ok (t, s.command);
  reads = record {
    name = name;
    rest = rest;
    kind = k;
    begins = b;
    known = is;
    fits = record { numbered = b.tagged.numbered; sort = sort };
    says = s.says;
  };
}

-- a word is the name of one of these kinds
abbrev IsOneOf : List ℕ → List Kind → Type 0
IsOneOf name [] = ⊥
IsOneOf name (k ∷ ks) = (is_word (kind_name k) name ≡ true) ⊎ IsOneOf name ks

record Named (name : List ℕ) : Type 0 where
  pub kind : Kind
  pub is : is_word (kind_name kind) name ≡ true

either : {P Q : Type 0} → Decided P → Decided Q → Decided (P ⊎ Q)
either (inl p) q = inl (inl p)
either (inr p) (inl q) = inl (inr q)
either (inr p) (inr q) = inr (λ h. elim h [ inl x ↦ p x | inr y ↦ q y ])

one_of : (name : List ℕ) (ks : List Kind) → Decided (IsOneOf name ks)
one_of name [] = inr (λ h. h)
one_of name (k ∷ ks) = either (test (is_word (kind_name k) name)) (one_of name ks)

named_one : (name : List ℕ) (ks : List Kind) → IsOneOf name ks → Named name
named_one name [] h = absurd h
named_one name (k ∷ ks) (inl is) = record { kind = k; is = is }
named_one name (k ∷ ks) (inr h) = named_one name ks h

abbrev all_kinds : List Kind
all_kinds = Kind.StartSession ∷ Kind.EndSession ∷ Kind.ClearAllErrors ∷ Kind.Home ∷ Kind.OnPtMeasReport ∷ Kind.GoTo ∷ Kind.PtMeas
    ∷ Kind.ChangeTool ∷ Kind.SetCsyTransformation ∷ Kind.SetCoordSystem ∷ Kind.AbortE ∷ Kind.IsHomed ∷ []

among_all : (name : List ℕ) (k : Kind) → is_word (kind_name k) name ≡ true → IsOneOf name all_kinds
among_all name Kind.StartSession e = inl e
among_all name Kind.EndSession e = inr (inl e)
among_all name Kind.ClearAllErrors e = inr (inr (inl e))
among_all name Kind.Home e = inr (inr (inr (inl e)))
among_all name Kind.OnPtMeasReport e = inr (inr (inr (inr (inl e))))
among_all name Kind.GoTo e = inr (inr (inr (inr (inr (inl e)))))
among_all name Kind.PtMeas e = inr (inr (inr (inr (inr (inr (inl e))))))
among_all name Kind.ChangeTool e = inr (inr (inr (inr (inr (inr (inr (inl e)))))))
among_all name Kind.SetCsyTransformation e = inr (inr (inr (inr (inr (inr (inr (inr (inl e))))))))
among_all name Kind.SetCoordSystem e = inr (inr (inr (inr (inr (inr (inr (inr (inr (inl e)))))))))
among_all name Kind.AbortE e = inr (inr (inr (inr (inr (inr (inr (inr (inr (inr (inl e))))))))))
among_all name Kind.IsHomed e = inr (inr (inr (inr (inr (inr (inr (inr (inr (inr (inr (inl e)))))))))))

-- the line has a tag and a name
named : (line : List ℕ) (t : Tag) (name rest : List ℕ) → Begins line t name rest → CommandRead line
named line t name rest b = go (one_of name all_kinds)
  where
    found : Named name → CommandRead line
    found n = known line t name rest n.kind b n.is (same_sort (is_event_tag t) (is_event_kind n.kind)) (saying n.kind (tokens rest))

    go : Decided (IsOneOf name all_kinds) → CommandRead line
    go (inr none) = record { result = Err (LineFault.UnknownCommand t); reads = (name, rest, b, λ k e. none (among_all name k e)) }
    go (inl h) = found (named_one name all_kinds h)

no_tag : (line : List ℕ) → ((t : Tag) (text : List ℕ) → IsTagged line t text → ⊥) → CommandRead line
no_tag line none = record { result = Err LineFault.NoTag; reads = none }

pub command_reading : (line : List ℕ) → CommandRead line
command_reading line = go (tagged line)
  where
    same_tagged : (a : Tagged line) (t : Tag) (text : List ℕ) → IsTagged line t text → a.tag ≡ t
    same_tagged a t text h = (one_tag a.tag t (32 ∷ a.text) (32 ∷ text) a.is_tag (tag_numbered t h.numbered) (sym a.parts ∙ h.parts)).tag

    numbers : (a : Tagged line) → Decided (IsNumbered a.tag) → CommandRead line
    numbers a (inl n) =
        let k : ℕ = prefix_len is_name_part a.text in
        named line a.tag (take k a.text) (drop k a.text) (record {
          text = a.text;
          tagged = record { numbered = n; parts = a.parts };
          named = name_cut a.text;
        })
    numbers a (inr none) = no_tag line (λ t text h. none (subst IsNumbered (sym (same_tagged a t text h)) h.numbered))

    go : Decided (Tagged line) → CommandRead line
    go (inl a) = numbers a (numbered a.tag a.is_tag)
    go (inr none) = no_tag line (λ t text h. none (record { tag = t; text = text; is_tag = tag_numbered t h.numbered; parts = h.parts }))

-- ---- responses

-- a test goes one way or the other
if_cases : {A : Type 0} (b : Bool) (x y z : A) (P : Type 0) → cond b x y ≡ z → (b ≡ true → x ≡ z → P) → (b ≡ false → y ≡ z → P) → P
if_cases true x y z P e yes_case no_case = yes_case refl e
if_cases false x y z P e yes_case no_case = no_case refl e

pub record ResponseRead (line : List ℕ) : Type 0 where
  pub result : Result Response NotResponse
  pub reads : ReadsResponse line result

abbrev given_of : List ℕ → Option Mark
given_of [] = None
given_of (s ∷ text) = if s == 32 then Some (Mark.Given text) else None

abbrev error_of : List ℕ → Option Mark
error_of [] = Some (Mark.Error [])
error_of (s ∷ text) = if s == 32 then Some (Mark.Error text) else None

abbrev mark_from : List ℕ → Option Mark
mark_from [] = None
mark_from (c ∷ text) =
    if c == 38 then (if are_spaces text then Some Mark.Ack else None)
    else if c == 35 then given_of text
    else if c == 37 then (if are_spaces text then Some Mark.Done else None)
    else if c == 33 then error_of text
    else None

-- a text that is a mark is found to be it
mark_only : (text : List ℕ) (m : Mark) → IsMarkText text m → mark_from text ≡ Some m
mark_only text Mark.Ack h = ap mark_from h.1 ∙ ap (λ (b : Bool). if b then Some Mark.Ack else None) h.2
mark_only text (Mark.Given given) h = ap mark_from h
mark_only text Mark.Done h = ap mark_from h.1 ∙ ap (λ (b : Bool). if b then Some Mark.Done else None) h.2
mark_only text (Mark.Error given) (inl h) = ap mark_from h
mark_only text (Mark.Error given) (inr h) = ap mark_from h.0 ∙ ap (λ (t : List ℕ). Some (Mark.Error t)) (sym h.1)

some_mark : (a b : Mark) → ◌≡◌ {A = Option Mark} (Some a) (Some b) → a ≡ b
some_mark a b e = cc

no_mark : (b : Mark) → ◌≡◌ {A = Option Mark} None (Some b) → ⊥
no_mark b e = cc

first_same : (a b : ℕ) (text : List ℕ) → a ≡ b → a ∷ text ≡ b ∷ text
first_same a b text e = ap (λ (x : ℕ). x ∷ text) e

-- and what is found is one
given_found : (text : List ℕ) (m : Mark) → given_of text ≡ Some m → IsMarkText (35 ∷ text) m
given_found [] m e = absurd (no_mark m e)
given_found (s ∷ text) m e = if_cases {A = Option Mark} (s == 32) (Some (Mark.Given text)) None (Some m) (IsMarkText (35 ∷ s ∷ text) m) e
    (λ is same. subst (IsMarkText (35 ∷ s ∷ text)) (some_mark (Mark.Given text) m same)
    (ap (λ (l : List ℕ). 35 ∷ l) (first_same s 32 text (eqb-true s 32 is))))
    (λ is none. absurd (no_mark m none))

error_found : (text : List ℕ) (m : Mark) → error_of text ≡ Some m → IsMarkText (33 ∷ text) m
error_found [] m e = subst (IsMarkText (33 ∷ [])) (some_mark (Mark.Error []) m e) (inr (refl, refl))
error_found (s ∷ text) m e = if_cases {A = Option Mark} (s == 32) (Some (Mark.Error text)) None (Some m) (IsMarkText (33 ∷ s ∷ text) m) e
    (λ is same. subst (IsMarkText (33 ∷ s ∷ text)) (some_mark (Mark.Error text) m same)
    (inl (ap (λ (l : List ℕ). 33 ∷ l) (first_same s 32 text (eqb-true s 32 is)))))
    (λ is none. absurd (no_mark m none))

spaces_found : (c : ℕ) (text : List ℕ) (n m : Mark) → ((are_spaces text ≡ true) → IsMarkText (c ∷ text) n)
    → (if are_spaces text then Some n else None) ≡ Some m → IsMarkText (c ∷ text) m
spaces_found c text n m is_one e = if_cases {A = Option Mark} (are_spaces text) (Some n) None (Some m) (IsMarkText (c ∷ text) m) e
    (λ is same. subst (IsMarkText (c ∷ text)) (some_mark n m same) (is_one is))
    (λ is none. absurd (no_mark m none))

mark_found : (text : List ℕ) (m : Mark) → mark_from text ≡ Some m → IsMarkText text m
mark_found [] m e = absurd (no_mark m e)
mark_found (c ∷ text) m e = if_cases {A = Option Mark} (c == 38) _ _ (Some m) (IsMarkText (c ∷ text) m) e
    (λ is found. spaces_found c text Mark.Ack m (λ spaces. (text, first_same c 38 text (eqb-true c 38 is), spaces)) found)
    (λ is other. if_cases {A = Option Mark} (c == 35) _ _ (Some m) (IsMarkText (c ∷ text) m) other
    (λ is found. subst (λ (x : ℕ). IsMarkText (x ∷ text) m) (sym (eqb-true c 35 is)) (given_found text m found))
    (λ is other. if_cases {A = Option Mark} (c == 37) _ _ (Some m) (IsMarkText (c ∷ text) m) other
    (λ is found. spaces_found c text Mark.Done m (λ spaces. (text, first_same c 37 text (eqb-true c 37 is), spaces)) found)
    (λ is other. if_cases {A = Option Mark} (c == 33) _ _ (Some m) (IsMarkText (c ∷ text) m) other
    (λ is found. subst (λ (x : ℕ). IsMarkText (x ∷ text) m) (sym (eqb-true c 33 is)) (error_found text m found))
    (λ is none. absurd (no_mark m none)))))

pub response_reading : (line : List ℕ) → ResponseRead line
response_reading line = go (tagged line)
  where
    text_is : (a : Tagged line) (r : Response) (h : IsResponseLine line r) → h.text ≡ a.text
    text_is a r h = let same = (one_tag r.tag a.tag (32 ∷ h.text) (32 ∷ a.text) h.tagged a.is_tag (sym h.parts ∙ a.parts)).behind in cc

    none_in : (a : Tagged line) → mark_from a.text ≡ None → (r : Response) → IsResponseLine line r → ⊥
    none_in a e r h = no_mark r.mark (sym e ∙ mark_only a.text r.mark
        (subst (λ (t : List ℕ). IsMarkText t r.mark) (text_is a r h) h.marked))

    marks : (a : Tagged line) (o : Option Mark) → mark_from a.text ≡ o → ResponseRead line
    marks a None e = record { result = Err (record {}); reads = none_in a e }
    marks a (Some m) e = record {
      result = Ok (record { tag = a.tag; mark = m });
      reads = record { text = a.text; tagged = a.is_tag; parts = a.parts; marked = mark_found a.text m e };
    }

    go : Decided (Tagged line) → ResponseRead line
    go (inl a) = marks a (mark_from a.text) refl
    go (inr none) = record {
      result = Err (record {});
      reads = λ r h. none
          (record { tag = r.tag; text = h.text; is_tag = h.tagged; parts = h.parts });
    }

-- ---- points

pub record PointRead (text : List ℕ) : Type 0 where
  pub result : Result Point NotPoint
  pub reads : ReadsPoint text result

abbrev point_shape : List ℕ
point_shape = 3 ∷ 0 ∷ 3 ∷ 1 ∷ 2 ∷ 3 ∷ 0 ∷ 3 ∷ 1 ∷ 2 ∷ 3 ∷ 0 ∷ 3 ∷ 1 ∷ []

abbrev IsFlush : List ℕ → Type 0
IsFlush text = (more : List ℕ) → text ≡ 32 ∷ more → ⊥

flush : (text : List ℕ) → Decided (IsFlush text)
flush [] = inl (λ more e. absurd (cc))
flush (c ∷ text) = go (test (c == 32))
  where
    first : (a : ℕ) (more : List ℕ) → c ∷ text ≡ a ∷ more → c ≡ a
    first a more e = cc

    go : Decided ((c == 32) ≡ true) → Decided (IsFlush (c ∷ text))
    go (inl e) = inr (λ f. f text (first_same c 32 text (eqb-true c 32 e)))
    go (inr no_space) = inl (λ more e. no_space (eq-eqb c 32 (first 32 more e)))

-- the words of a point, and the names between them
abbrev HasNames : List (List ℕ) → Type 0
HasNames ws = (first_of ws ≡ codes "X") × ((first_of (others_of (others_of ws)) ≡ codes "Y")
    × (first_of (others_of (others_of (others_of (others_of ws)))) ≡ codes "Z"))

abbrev x_of : List (List ℕ) → List ℕ
x_of ws = first_of (others_of ws)

abbrev y_of : List (List ℕ) → List ℕ
y_of ws = first_of (others_of (others_of (others_of ws)))

abbrev z_of : List (List ℕ) → List ℕ
z_of ws = first_of (others_of (others_of (others_of (others_of (others_of ws)))))

record Coordinates (x y z : List ℕ) : Type 0 where
  pub point : Point
  pub has : HasCoordinates x y z point

coordinates : (x y z : List ℕ) → Decided (Coordinates x y z)
coordinates x y z = decided_by here there (both (length_is 3 wire_limit x) (both (length_is 3 wire_limit y) (length_is 3 wire_limit z)))
  where
    here : Length 3 wire_limit x × (Length 3 wire_limit y × Length 3 wire_limit z) → Coordinates x y z
    here h = record {
      point = record { x = h.0.value; y = h.1.0.value; z = h.1.1.value };
      has = record { x_reads = h.0.reads; y_reads = h.1.0.reads; z_reads = h.1.1.reads };
    }

    there : Coordinates x y z → Length 3 wire_limit x × (Length 3 wire_limit y × Length 3 wire_limit z)
    there c = (
      record { value = c.point.x; reads = c.has.x_reads },
      (record { value = c.point.y; reads = c.has.y_reads }, record { value = c.point.z; reads = c.has.z_reads }),
    )

record Spelled (text : List ℕ) : Type 0 where
  pub point : Point
  pub is : IsPointText text point

spelled_is : (text : List ℕ) → Decided (Spelled text)
spelled_is text = decided_by here there (both (flush text) (both (has_shape point_shape ts)
    (both (both (same_bytes (first_of ws) (codes "X")) (both (same_bytes (first_of (others_of (others_of ws))) (codes "Y"))
    (same_bytes (first_of (others_of (others_of (others_of (others_of ws))))) (codes "Z")))) (coordinates (x_of ws) (y_of ws) (z_of ws)))))
  where
    ts : List Token
    ts = tokens text

    ws : List (List ℕ)
    ws = words ts

    named_so : (x y z a b c : List ℕ) → a ≡ codes "X" → b ≡ codes "Y" → c ≡ codes "Z"
        → filled point_shape (a ∷ x ∷ b ∷ y ∷ c ∷ z ∷ []) ≡ point_tokens x y z
    named_so x y z a b c e f g = λ i. filled point_shape (e i ∷ x ∷ f i ∷ y ∷ g i ∷ z ∷ [])

    here : IsFlush text × ((shapes ts ≡ point_shape) × (HasNames ws × Coordinates (x_of ws) (y_of ws) (z_of ws))) → Spelled text
    here h = record {
      point = h.1.1.1.point;
      is = record {
        x = x_of ws;
        y = y_of ws;
        z = z_of ws;
        flush = h.0;
        spelled = filled_of point_shape ts h.1.0 ∙ named_so (x_of ws) (y_of ws) (z_of ws) _ _ _ h.1.1.0.0 h.1.1.0.1.0 h.1.1.0.1.1;
        reads = h.1.1.1.has;
      };
    }

    there : Spelled text → IsFlush text × ((shapes ts ≡ point_shape) × (HasNames ws × Coordinates (x_of ws) (y_of ws) (z_of ws)))
    there s = (
      s.is.flush,
      (
        ap shapes s.is.spelled,
        (
          subst (λ (l : List Token). HasNames (words l)) (sym s.is.spelled) (refl, (refl, refl)),
          subst (λ (l : List Token). Coordinates (x_of (words l)) (y_of (words l)) (z_of (words l))) (sym s.is.spelled)
              (record { point = s.point; has = s.is.reads }),
        ),
      ),
    )

pub point_reading : (text : List ℕ) → PointRead text
point_reading text = go (spelled_is text)
  where
    go : Decided (Spelled text) → PointRead text
    go (inl s) = record { result = Ok s.point; reads = s.is }
    go (inr none) = record { result = Err (record {}); reads = λ p h. none (record { point = p; is = h }) }

-- ---- answers to IsHomed

pub record HomedRead (text : List ℕ) : Type 0 where
  pub result : Result Bool NotHomedText
  pub reads : ReadsHomed text result

record Digit (text : List ℕ) : Type 0 where
  pub homed : Bool
  pub is : text ≡ homed_digit homed

digit_is_said : (text : List ℕ) → Decided (Digit text)
digit_is_said text = go (same_bytes text (homed_digit true)) (same_bytes text (homed_digit false))
  where
    neither : (text ≡ homed_digit true → ⊥) → (text ≡ homed_digit false → ⊥) → (b : Bool) → text ≡ homed_digit b → ⊥
    neither one zero true e = one e
    neither one zero false e = zero e

    go : Decided (text ≡ homed_digit true) → Decided (text ≡ homed_digit false) → Decided (Digit text)
    go (inl e) zero = inl (record { homed = true; is = e })
    go (inr one) (inl e) = inl (record { homed = false; is = e })
    go (inr one) (inr zero) = inr (λ d. neither one zero d.homed d.is)

record Call (text : List ℕ) : Type 0 where
  pub homed : Bool
  pub is : IsHomedCall text homed

call_is : (text : List ℕ) → Decided (Call text)
call_is text = go (test (is_word (kind_name Kind.IsHomed) name)) (one_word (tokens rest))
  where
    name : List ℕ
    name = take (prefix_len is_name_part text) text

    rest : List ℕ
    rest = drop (prefix_len is_name_part text) text

    here : (c : Call text) → CallHere name rest c.homed
    here c = call_here text name rest c.homed (name_cut text) c.is

    word_is : (w : OneWord (tokens rest)) (c : Call text) → w.word ≡ homed_digit c.homed
    word_is w c = same_word (tokens rest) w.word (homed_digit c.homed) w.spelled (here c).spelled

    told : is_word (kind_name Kind.IsHomed) name ≡ true → (w : OneWord (tokens rest)) → Decided (Digit w.word) → Decided (Call text)
    told known w (inr none) = inr (λ c. none (record { homed = c.homed; is = word_is w c }))
    told known w (inl d) = inl (record {
      homed = d.homed;
      is = call_from text name rest d.homed (name_cut text) (record {
        known = known;
        spelled = subst (λ (x : List ℕ). IsOneWord (tokens rest) x) d.is w.spelled;
      });
    })

    go : Decided (is_word (kind_name Kind.IsHomed) name ≡ true) → Decided (OneWord (tokens rest)) → Decided (Call text)
    go (inr other) word = inr (λ c. other (here c).known)
    go (inl known) (inr none) = inr (λ c. none (record { word = homed_digit c.homed; spelled = (here c).spelled }))
    go (inl known) (inl w) = told known w (digit_is_said w.word)

pub homed_reading : (text : List ℕ) → HomedRead text
homed_reading text = go (digit_is_said text) (call_is text)
  where
    neither : (Digit text → ⊥) → (Call text → ⊥) → (b : Bool) → IsHomedText text b → ⊥
    neither no_digit no_call b (inl e) = no_digit (record { homed = b; is = e })
    neither no_digit no_call b (inr h) = no_call (record { homed = b; is = h })

    go : Decided (Digit text) → Decided (Call text) → HomedRead text
    go (inl d) call = record { result = Ok d.homed; reads = inl d.is }
    go (inr no_digit) (inl c) = record { result = Ok c.homed; reads = inr c.is }
    go (inr no_digit) (inr no_call) = record { result = Err (record {}); reads = neither no_digit no_call }
