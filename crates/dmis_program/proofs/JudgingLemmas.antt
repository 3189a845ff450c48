-- What a statement says where no refusal is due may be said there.
use Rattle.dmis_program.proofs.Names.{◌&&◌, ◌<◌, ◌==◌, ◌≡◌, ◌≤◌, arith, Begins, Block, Bool, Closes, cond, context_of, count_wanted, Ends, Err, false}
use Rattle.dmis_program.proofs.Names.{Goes, IfOk, is_none, is_start, is_too_few, is_unsupported, Keyword, keyword_of, length, List, ltb-false}
use Rattle.dmis_program.proofs.Names.{misplaced, nat_le, nat_tests, None, not, NotDmis, offset_of, Ok, Option, Passes, Point, ReaderState, Recalls}
use Rattle.dmis_program.proofs.Names.{refl, Refusal, refused_by, Result, saying, Selects, settled, Some, Statement, StatementMeaning, subst, Touches}
use Rattle.dmis_program.proofs.Names.{true, Unsupported, word_refusal, ℕ}
use Rattle.dmis_program.specs.Judging.{judged}
use Rattle.dmis_program.proofs.Sound.{SaidBy, IsAllowed, MayFollow}
use Rattle.dmis_program.proofs.SayingLemmas.{bind_if, unless_if, said_of_if}

-- no refusal by the word and the place, and then what follows
when_none : {A : Type 0} (P : A → Type 0) (o : Option Refusal) (r : Result A Refusal) → (o ≡ None → IfOk r P) → IfOk (refused_by o r) P
when_none P (Some refusal) r h = tt
when_none P None r h = h refl

-- of three tests the last one gives no refusal
last_none : (a b : Bool) (x y : Refusal) (o : Option Refusal) → cond a (Some x) (cond b (Some y) o) ≡ None → o ≡ None
last_none true b x y o h = absurd cc
last_none false true x y o h = absurd cc
last_none false false x y o h = h

-- the places of blocks
outside : (block : Option Block) → misplaced Keyword.Meas (count_wanted block) ≡ None → block ≡ None
outside None h = refl
outside (Some b) h = absurd cc

at_end : (block : Option Block) → misplaced Keyword.Endfil (count_wanted block) ≡ None → block ≡ None
at_end None h = refl
at_end (Some b) h = absurd cc

inside : (block : Option Block) → misplaced Keyword.Ptmeas (count_wanted block) ≡ None → (b : Block) × (block ≡ Some b)
inside None h = absurd cc
inside (Some b) h = (b, refl)

inside_ends : (block : Option Block) → misplaced Keyword.Endmes (count_wanted block) ≡ None → (b : Block) × (block ≡ Some b)
inside_ends None h = absurd cc
inside_ends (Some b) h = (b, refl)

some_tool : (tool : Option (List ℕ)) → is_none tool ≡ false → (name : List ℕ) × (tool ≡ Some name)
some_tool None h = absurd cc
some_tool (Some name) h = (name, refl)

some_offset : (offset : Option Point) → is_none offset ≡ false → (p : Point) × (offset ≡ Some p)
some_offset None h = absurd cc
some_offset (Some p) h = (p, refl)

enough : (block : Option Block) (b : Block) (count : ℕ) → block ≡ Some b → is_too_few (count_wanted block) count ≡ false → b.wanted ≤ count
enough None b count e h = absurd cc
enough (Some d) b count e h = let same : d.wanted ≡ b.wanted = cc in omega (arith, same, ltb-false count d.wanted h)

settled_if : (frames : List (List ℕ × Point)) (tool : Option (List ℕ)) (block : Option Block) (count : ℕ) (keyword : Keyword)
    (said : StatementMeaning)
    → misplaced keyword (count_wanted block) ≡ None → SaidBy keyword said
    → IfOk (settled frames tool (count_wanted block) count said) (IsAllowed frames tool block count)
settled_if frames tool block count keyword (Goes target) h g = g
settled_if frames tool block count keyword (Begins name wanted) h g =
    (outside block (subst (λ (k : Keyword). misplaced k (count_wanted block) ≡ None) g.0 h), g.1, g.2)
settled_if frames tool block count keyword (Touches target direction) h g =
    unless_if (IsAllowed frames tool block count) (is_none tool) _ (Ok (Touches target direction)) (λ e.
    (g.1, g.2, some_tool tool e, inside block (subst (λ (k : Keyword). misplaced k (count_wanted block) ≡ None) g.0 h)))
settled_if frames tool block count keyword Ends h g =
    let b = inside_ends block (subst (λ (k : Keyword). misplaced k (count_wanted block) ≡ None) g h) in
    unless_if (IsAllowed frames tool block count) (is_too_few (count_wanted block) count) _ (Ok Ends)
    (λ e. (b.0, b.1, enough block b.0 count b.1 e))
settled_if frames tool block count keyword (Selects name) h g = g
settled_if frames tool block count keyword (Recalls name) h g =
    unless_if (IsAllowed frames tool block count) (is_none (offset_of frames name)) _ (Ok (Recalls name))
    (λ e. some_offset (offset_of frames name) e)
settled_if frames tool block count keyword Closes h g = at_end block (subst (λ (k : Keyword). misplaced k (count_wanted block) ≡ None) g h)
settled_if frames tool block count keyword Passes h g = tt

both_if : (P : Type 0) (Q : StatementMeaning → Type 0) (r : Result StatementMeaning Refusal) → P → IfOk r Q → IfOk r (λ said. P × Q said)
both_if P Q (Ok said) p h = (p, h)
both_if P Q (Err e) p h = tt

below_most : (n : ℕ) → nat_le 10000 n ≡ false → n < 10000
below_most n h = grind (arith, nat_tests)

pub judged_if : (frames : List (List ℕ × Point)) (c : ReaderState) (s : Statement)
    → IfOk (judged frames (context_of c) s) (MayFollow frames c)
unfolding judged
judged_if frames c s =
    let keyword = keyword_of s.word in
    unless_if (MayFollow frames c) (nat_le 10000 c.number) _ _ (λ few.
    when_none (MayFollow frames c) (word_refusal c.number (context_of c).wanted keyword s.params) _ (λ none.
    let place = last_none (c.number == 0 && not (is_start keyword)) (is_unsupported (c.number == 0) keyword s.params) NotDmis Unsupported
    (misplaced keyword (count_wanted c.open_block)) none in
    both_if (c.number < 10000) (IsAllowed frames c.tool c.open_block (length c.touches)) _ (below_most c.number few) (
    bind_if (SaidBy keyword) (IsAllowed frames c.tool c.open_block (length c.touches)) (saying s) _ (said_of_if keyword s) (λ said h.
    settled_if frames c.tool c.open_block (length c.touches) keyword said place h))))
