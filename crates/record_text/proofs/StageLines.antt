-- What the lines that lead to a stage are, and how a record that begins with them can continue.
use Rattle.record_text.proofs.Names.{[], ◌++◌, ◌+◌, ◌<◌, ◌∙◌, ◌∷◌, ◌≡◌, AddsEntry, AddsTouch, AllByRecursion, ap, append-nil, append_assoc, AreAsked}
use Rattle.record_text.proofs.Names.{AreRecordLines, AreTornHead, arith, asked_lines, Begins, body, codes, EndsFeature, EndsHead, Entry, entry_line}
use Rattle.record_text.proofs.Names.{feature_line, Follow, Follows, head, head_lines, header, inl, inr, IsAsked, IsAskedTouch, IsName, IsPartGiven}
use Rattle.record_text.proofs.Names.{IsPointCount, Kept, Leads, length, length-append, List, map, NamesPart, Next, None, nothing_kept, OpensFeature}
use Rattle.record_text.proofs.Names.{Option, part_lines, pos, record_lines, recorded, refl, Some, Stage, start, subst, suc, sym, Touch, touch_line}
use Rattle.record_text.proofs.Names.{Second, Unfinished, Version, Wanted, wanted_lines, wanted_with, with_touch, within, zero, ℕ}
use Rattle.fixed_um.specs.declared.frames.Frame.TheVariants.{Machine}

-- ---- lists

pub all_more : {X : Type 0} (P : X → Type 0) (xs : List X) (y : X) → AllByRecursion P xs → P y → AllByRecursion P (xs ++ y ∷ [])
all_more P [] y h g = (g, tt)
all_more P (x ∷ xs) y h g = (h.0, all_more P xs y h.1 g)

touches_more : (ts : List Touch) (t : Touch) → map touch_line (ts ++ t ∷ []) ≡ map touch_line ts ++ touch_line t ∷ []
touches_more [] t = refl
touches_more (x ∷ ts) t = ap (λ (r : List (List ℕ)). touch_line x ∷ r) (touches_more ts t)

entries_more : (es : List Entry) (e : Entry) → map entry_line (es ++ e ∷ []) ≡ map entry_line es ++ entry_line e ∷ []
entries_more [] e = refl
entries_more (x ∷ es) e = ap (λ (r : List (List ℕ)). entry_line x ∷ r) (entries_more es e)

asked_more : (ws : List Wanted) (w : Wanted) → asked_lines (ws ++ w ∷ []) ≡ asked_lines ws ++ wanted_lines w
asked_more [] w = append-nil (wanted_lines w)
asked_more (x ∷ ws) w = ap (λ (r : List (List ℕ)). wanted_lines x ++ r) (asked_more ws w)
    ∙ sym (append_assoc (wanted_lines x) (asked_lines ws) (wanted_lines w))

-- ---- what the lines are

pub record HeadLines (part : Option (List ℕ)) (asked : List Wanted) (lines : List (List ℕ)) : Type 0 where
  pub version : Version
  pub given : IsPartGiven part
  pub are_asked : AreAsked asked
  pub lines_are : lines ≡ header version ∷ (part_lines part ++ asked_lines asked)

-- the lines of an unfinished feature
abbrev pub unfinished_lines : Unfinished → List (List ℕ)
unfinished_lines u = feature_line u.label u.count ∷ map touch_line u.touches

pub record WithinLines (part : Option (List ℕ)) (asked : List Wanted) (u : Unfinished) (lines : List (List ℕ)) : Type 0 where
  pub version : Version
  pub given : IsPartGiven part
  pub are_asked : AreAsked asked
  pub label : IsName u.label
  pub counted : IsPointCount u.count
  pub touches : AllByRecursion IsAskedTouch u.touches
  pub short : length u.touches < u.count
  pub lines_are : lines ≡ header version ∷ (part_lines part ++ (asked_lines asked ++ unfinished_lines u))

pub record BodyLines (part : Option (List ℕ)) (asked : List Wanted) (kept : Kept) (lines : List (List ℕ)) : Type 0 where
  pub version : Version
  pub given : IsPartGiven part
  pub are_asked : AreAsked asked
  pub entries : List Entry
  pub follow : Follow asked nothing_kept entries kept
  pub lines_are : lines ≡ record_lines version part asked entries

pub record NoLines (lines : List (List ℕ)) : Type 0 where
  pub none : lines ≡ []

abbrev pub StageLines : Stage → List (List ℕ) → Type 0
StageLines start lines = NoLines lines
StageLines (head part asked) lines = HeadLines part asked lines
StageLines (within part asked u) lines = WithinLines part asked u lines
StageLines (body part asked kept) lines = BodyLines part asked kept lines

-- ---- one more line

named : (part : Option (List ℕ)) (asked : List Wanted) (lines : List (List ℕ)) (line : List ℕ) (q : Stage) → HeadLines part asked lines
    → NamesPart part asked line q → StageLines q (lines ++ line ∷ [])
named part asked lines line q h n =
    let none : part_lines part ≡ [] = ap (λ (p : Option (List ℕ)). part_lines p) n.first in
    let no_more : asked_lines asked ≡ [] = ap (λ (ws : List Wanted). asked_lines ws) n.alone in
    let only : lines ≡ header h.version ∷ [] = rw (h.lines_are, none, no_more) refl in
    let found : HeadLines (Some n.text) [] (lines ++ line ∷ []) = record {
      version = h.version;
      given = n.is_part;
      are_asked = tt;
      lines_are = rw (only, n.line_is) refl;
    } in
    subst (λ (s : Stage). StageLines s (lines ++ line ∷ [])) (sym n.next) found

opened : (part : Option (List ℕ)) (asked : List Wanted) (lines : List (List ℕ)) (line : List ℕ) (q : Stage) → HeadLines part asked lines
    → OpensFeature part asked line q → StageLines q (lines ++ line ∷ [])
opened part asked lines line q h n =
    let u : Unfinished = record { label = n.label; count = n.count; touches = [] } in
    let low = n.counted.0 in
    let found : WithinLines part asked u (lines ++ line ∷ []) = record {
      version = h.version;
      given = h.given;
      are_asked = h.are_asked;
      label = n.named;
      counted = n.counted;
      touches = tt;
      short = omega (arith, low);
      lines_are = rw (h.lines_are, n.line_is) (ap (λ (r : List (List ℕ)). header h.version ∷ r)
          (append_assoc (part_lines part) (asked_lines asked) (feature_line n.label n.count ∷ [])));
    } in
    subst (λ (s : Stage). StageLines s (lines ++ line ∷ [])) (sym n.next) found

ended : (part : Option (List ℕ)) (asked : List Wanted) (lines : List (List ℕ)) (line : List ℕ) (q : Stage) → HeadLines part asked lines
    → EndsHead part asked line q → StageLines q (lines ++ line ∷ [])
ended part asked lines line q h n =
    let found : BodyLines part asked nothing_kept (lines ++ line ∷ []) = record {
      version = h.version;
      given = h.given;
      are_asked = h.are_asked;
      entries = [];
      follow = refl;
      lines_are = rw (h.lines_are, n.line_is) (ap (λ (r : List (List ℕ)). header h.version ∷ r)
          (append_assoc (part_lines part) (asked_lines asked) (codes "END" ∷ [])))
          ∙ sym (append-nil (head_lines h.version part asked));
    } in
    subst (λ (s : Stage). StageLines s (lines ++ line ∷ [])) (sym n.next) found

-- the lines of an unfinished feature with a touch more
touched : (v : Version) (part : Option (List ℕ)) (asked : List Wanted) (u : Unfinished) (lines : List (List ℕ)) (line : List ℕ) (t : Touch)
    → lines ≡ header v ∷ (part_lines part ++ (asked_lines asked ++ unfinished_lines u)) → line ≡ touch_line t
    → lines ++ line ∷ [] ≡ header v ∷ (part_lines part ++ (asked_lines asked ++ unfinished_lines (with_touch u t)))
touched v part asked u lines line t e f =
    let more : unfinished_lines u ++ touch_line t ∷ [] ≡ unfinished_lines (with_touch u t) =
    ap (λ (r : List (List ℕ)). feature_line u.label u.count ∷ r) (sym (touches_more u.touches t)) in
    rw (e, f) (ap (λ (r : List (List ℕ)). header v ∷ r) (append_assoc (part_lines part) (asked_lines asked ++ unfinished_lines u) (touch_line t ∷ [])
    ∙ ap (λ (r : List (List ℕ)). part_lines part ++ r) (append_assoc (asked_lines asked) (unfinished_lines u) (touch_line t ∷ [])
    ∙ ap (λ (r : List (List ℕ)). asked_lines asked ++ r) more)))

added : (part : Option (List ℕ)) (asked : List Wanted) (u : Unfinished) (lines : List (List ℕ)) (line : List ℕ) (q : Stage)
    → WithinLines part asked u lines → AddsTouch part asked u line q → StageLines q (lines ++ line ∷ [])
added part asked u lines line q h n =
    let more = n.more in
    let found : WithinLines part asked (with_touch u n.touch) (lines ++ line ∷ []) = record {
      version = h.version;
      given = h.given;
      are_asked = h.are_asked;
      label = h.label;
      counted = h.counted;
      touches = all_more IsAskedTouch u.touches n.touch h.touches n.is_touch;
      short = omega (arith, more, length-append u.touches (n.touch ∷ []));
      lines_are = touched h.version part asked u lines line n.touch h.lines_are n.line_is;
    } in
    subst (λ (s : Stage). StageLines s (lines ++ line ∷ [])) (sym n.next) found

finished : (part : Option (List ℕ)) (asked : List Wanted) (u : Unfinished) (lines : List (List ℕ)) (line : List ℕ) (q : Stage)
    → WithinLines part asked u lines → EndsFeature part asked u line q → StageLines q (lines ++ line ∷ [])
finished part asked u lines line q h n =
    let w : Wanted = wanted_with u n.touch in
    let whole = n.whole in
    let count : u.count ≡ length w.touches = omega (arith, whole, length-append u.touches (n.touch ∷ [])) in
    let same : unfinished_lines (with_touch u n.touch) ≡ wanted_lines w =
    ap (λ (k : ℕ). feature_line u.label k ∷ map touch_line (u.touches ++ n.touch ∷ [])) count in
    let found : HeadLines part (asked ++ w ∷ []) (lines ++ line ∷ []) = record {
      version = h.version;
      given = h.given;
      are_asked = all_more IsAsked asked w h.are_asked (record {
        label = h.label;
        counted = subst (λ (k : ℕ). IsPointCount k) count h.counted;
        touches = all_more IsAskedTouch u.touches n.touch h.touches n.is_touch;
      });
      lines_are = touched h.version part asked u lines line n.touch h.lines_are n.line_is
          ∙ ap (λ (r : List (List ℕ)). header h.version ∷ (part_lines part ++ (asked_lines asked ++ r))) same
          ∙ ap (λ (r : List (List ℕ)). header h.version ∷ (part_lines part ++ r)) (sym (asked_more asked w));
    } in
    subst (λ (s : Stage). StageLines s (lines ++ line ∷ [])) (sym n.next) found

follow_more : (asked : List Wanted) (old mid new : Kept) (es : List Entry) (e : Entry) → Follow asked old es mid
    → Follows asked mid e new → Follow asked old (es ++ e ∷ []) new
follow_more asked old mid new [] e h g = (new, subst (λ (k : Kept). Follows asked k e new) h g, refl)
follow_more asked old mid new (x ∷ es) e h g = (h.0, h.1, follow_more asked h.0 mid new es e h.2 g)

entered : (part : Option (List ℕ)) (asked : List Wanted) (kept : Kept) (lines : List (List ℕ)) (line : List ℕ) (q : Stage)
    → BodyLines part asked kept lines → AddsEntry part asked kept line q → StageLines q (lines ++ line ∷ [])
entered part asked kept lines line q h n =
    let e = n.follows.entry in
    let found : BodyLines part asked n.mid (lines ++ line ∷ []) = record {
      version = h.version;
      given = h.given;
      are_asked = h.are_asked;
      entries = h.entries ++ e ∷ [];
      follow = follow_more asked nothing_kept kept n.mid h.entries e h.follow n.follows.follows;
      lines_are = rw (h.lines_are, n.follows.line_is)
          (append_assoc (head_lines h.version part asked) (map entry_line h.entries) (entry_line e ∷ []))
          ∙ ap (λ (r : List (List ℕ)). head_lines h.version part asked ++ r) (sym (entries_more h.entries e));
    } in
    subst (λ (s : Stage). StageLines s (lines ++ line ∷ [])) (sym n.next) found

begun : (lines : List (List ℕ)) (line : List ℕ) (q : Stage) → NoLines lines → Next start line q
    → StageLines q (lines ++ line ∷ [])
begun lines line q h n =
    let found : HeadLines None [] (lines ++ line ∷ []) = record {
      version = n.0;
      given = tt;
      are_asked = tt;
      lines_are = rw (h.none, n.1) refl;
    } in
    subst (λ (s : Stage). StageLines s (lines ++ line ∷ [])) (sym n.2) found

line_more : (p q : Stage) (lines : List (List ℕ)) (line : List ℕ) → StageLines p lines → Next p line q → StageLines q (lines ++ line ∷ [])
line_more start q lines line h n = begun lines line q h n
line_more (head part asked) q lines line h (inl n) = named part asked lines line q h n
line_more (head part asked) q lines line h (inr (inl n)) = opened part asked lines line q h n
line_more (head part asked) q lines line h (inr (inr n)) = ended part asked lines line q h n
line_more (within part asked u) q lines line h (inl n) = added part asked u lines line q h n
line_more (within part asked u) q lines line h (inr n) = finished part asked u lines line q h n
line_more (body part asked kept) q lines line h n = entered part asked kept lines line q h n

lines_more : (lines before : List (List ℕ)) (p q : Stage) → StageLines p before → Leads p lines q → StageLines q (before ++ lines)
lines_more [] before p q h l = subst (λ (s : Stage). StageLines s (before ++ [])) (sym l)
    (subst (λ (ls : List (List ℕ)). StageLines p ls) (sym (append-nil before)) h)
lines_more (line ∷ lines) before p q h l = subst (λ (ls : List (List ℕ)). StageLines q ls) (append_assoc before (line ∷ []) lines)
    (lines_more lines (before ++ line ∷ []) l.0 q (line_more p l.0 before line h l.1) l.2)

-- lines that lead to a stage are such lines
pub stage_lines : (lines : List (List ℕ)) (s : Stage) → Leads start lines s → StageLines s lines
stage_lines lines s l = lines_more lines [] start s (record { none = refl }) l

-- ---- and how a record continues them

torn_less : (lines : List (List ℕ)) (line : List ℕ) → AreTornHead (lines ++ line ∷ []) → AreTornHead lines
torn_less lines line h = record {
  version = h.version;
  part = h.part;
  asked = h.asked;
  part_given = h.part_given;
  are_asked = h.are_asked;
  behind = line ∷ h.behind;
  front = h.front ∙ append_assoc lines (line ∷ []) h.behind;
  short = omega arith;
}

torn_head : (part : Option (List ℕ)) (asked : List Wanted) (lines : List (List ℕ)) → HeadLines part asked lines → AreTornHead lines
torn_head part asked lines h = record {
  version = h.version;
  part = part;
  asked = asked;
  part_given = h.given;
  are_asked = h.are_asked;
  behind = codes "END" ∷ [];
  front = sym (ap (λ (ls : List (List ℕ)). ls ++ codes "END" ∷ []) h.lines_are
      ∙ ap (λ (r : List (List ℕ)). header h.version ∷ r) (append_assoc (part_lines part) (asked_lines asked) (codes "END" ∷ [])));
  short = omega arith;
}

-- a touch that can be asked for
abbrev some_touch : Touch
some_touch = record {
  target = record { x = pos 0; y = pos 0; z = pos 0 };
  dir = None;
  tool = codes "T";
  frame = Machine;
}

some_asked : IsAskedTouch some_touch
some_asked = record {
  target = record { x = omega arith; y = omega arith; z = omega arith };
  dir = tt;
  tool = record { named = refl; capitals = refl };
  frame = tt;
}

torn_within : (k : ℕ) (part : Option (List ℕ)) (asked : List Wanted) (u : Unfinished) (lines : List (List ℕ))
    → u.count ≡ length u.touches + suc k → WithinLines part asked u lines → AreTornHead lines
torn_within zero part asked u lines e h =
    let w : Wanted = wanted_with u some_touch in
    let line = touch_line some_touch in
    let step : EndsFeature part asked u line (head part (asked ++ w ∷ [])) = record {
      touch = some_touch;
      is_touch = some_asked;
      line_is = refl;
      whole = omega (arith, e);
      next = refl;
    } in
    torn_less lines line (torn_head part (asked ++ w ∷ []) (lines ++ line ∷ [])
    (finished part asked u lines line (head part (asked ++ w ∷ [])) h step))
torn_within (suc k) part asked u lines e h =
    let line = touch_line some_touch in
    let next : Unfinished = with_touch u some_touch in
    let step : AddsTouch part asked u line (within part asked next) = record {
      touch = some_touch;
      is_touch = some_asked;
      line_is = refl;
      more = omega (arith, e);
      next = refl;
    } in
    torn_less lines line (torn_within k part asked next (lines ++ line ∷ [])
    (omega (arith, e, length-append u.touches (some_touch ∷ [])))
    (added part asked u lines line (within part asked next) h step))

pub record Missing (n m : ℕ) : Type 0 where
  pub less : ℕ
  pub sum : m ≡ n + suc less

missing : (n m : ℕ) → n < m → Missing n m
missing zero zero h = absurd (omega arith)
missing zero (suc m) h = record { less = m; sum = omega arith }
missing (suc n) zero h = absurd (omega arith)
missing (suc n) (suc m) h =
    let r = missing n m (omega arith) in
    let e = r.sum in
    record { less = r.less; sum = omega (arith, e) }

-- a stage before END
abbrev pub IsHeadStage : Stage → Type 0
IsHeadStage start = Unit {0}
IsHeadStage (head part asked) = Unit {0}
IsHeadStage (within part asked u) = Unit {0}
IsHeadStage (body part asked kept) = ⊥

pub stage_torn : (s : Stage) (lines : List (List ℕ)) → IsHeadStage s → StageLines s lines → AreTornHead lines
stage_torn start lines o h = record {
  version = Second;
  part = None;
  asked = [];
  part_given = tt;
  are_asked = tt;
  behind = head_lines Second None [];
  front = ap (λ (ls : List (List ℕ)). ls ++ head_lines Second None []) (sym h.none);
  short = omega arith;
}
stage_torn (head part asked) lines o h = torn_head part asked lines h
stage_torn (within part asked u) lines o h =
    let m = missing (length u.touches) u.count h.short in
    torn_within m.less part asked u lines m.sum h
stage_torn (body part asked kept) lines o h = absurd o

pub torn_begins : (lines : List (List ℕ)) → AreTornHead lines → Begins lines
torn_begins lines h = record {
  says = recorded h.part h.asked nothing_kept;
  behind = h.behind;
  whole = record {
    version = h.version;
    entries = [];
    kept = nothing_kept;
    part = h.part_given;
    asked = h.are_asked;
    follow = refl;
    says = refl;
    whole = sym h.front ∙ sym (append-nil (head_lines h.version h.part h.asked));
  };
}

-- lines that lead to the stage after a head are a record's
pub body_record : (part : Option (List ℕ)) (asked : List Wanted) (kept : Kept) (lines : List (List ℕ)) → BodyLines part asked kept lines
    → AreRecordLines lines (recorded part asked kept)
body_record part asked kept lines h = record {
  version = h.version;
  entries = h.entries;
  kept = kept;
  part = h.given;
  asked = h.are_asked;
  follow = h.follow;
  says = refl;
  whole = h.lines_are;
}

body_begins : (part : Option (List ℕ)) (asked : List Wanted) (kept : Kept) (lines : List (List ℕ)) → BodyLines part asked kept lines
    → Begins lines
body_begins part asked kept lines h = record {
  says = recorded part asked kept;
  behind = [];
  whole = subst (λ (ls : List (List ℕ)). AreRecordLines ls (recorded part asked kept)) (sym (append-nil lines))
      (body_record part asked kept lines h);
}

-- some record begins with the lines that lead to a stage
pub stage_begins : (s : Stage) (lines : List (List ℕ)) → StageLines s lines → Begins lines
stage_begins start lines h = torn_begins lines (stage_torn start lines tt h)
stage_begins (head part asked) lines h = torn_begins lines (torn_head part asked lines h)
stage_begins (within part asked u) lines h = torn_begins lines (stage_torn (within part asked u) lines tt h)
stage_begins (body part asked kept) lines h = body_begins part asked kept lines h
