-- The table of passes has those over each line.
use Rattle.program_lowering.proofs.Names.{[], AllByRecursion, and_parts, ◌&&◌, ◌++◌, ◌+◌, ◌==◌, ◌∙◌, ◌∷◌, ◌≡◌, ap, arith, Bool, codes, cond, decimal, eqb-true, false, filter, leb-true, length, length-append, List, nat_le, None, not, Option, refl, Some}
use Rattle.program_lowering.proofs.Names.{Statement, subst, sym, true, ℕ}
use Rattle.std.proofs.lemmas.Bool.{eq-eqb}
use Rattle.std.specs.BTreeMap.{insert_entry, is_at}
use Rattle.std.specs.Cmp.{unsigned_tied}
use Rattle.std.specs.Map.{lookup}
use Rattle.std.specs.Option.{unwrap_or}
use Rattle.std.proofs.Common.{Equal, Greater, is_eq, Less, nat_cmp, Ordering}
use Rattle.std.specs.Ordering.{match_ordering}
use Rattle.program_lowering.specs.Carried.{PassCounts, is_last, none_passed, pass_of, passed}
use Rattle.program_lowering.specs.Flats.{with_pass}
use Rattle.program_lowering.specs.Lowering.{are_apart, is_on, passes_over}

-- a line without room for it
pub no_room : (line : List ℕ) (pass : ℕ) → length line ≡ 4096 → with_pass line pass ≡ line
no_room line pass full = go (nat_le pass 1) (nat_le (length (line ++ more)) 4096) refl
  where
    more : List ℕ
    more = codes ", pass " ++ decimal pass

    over : nat_le (length (line ++ more)) 4096 ≡ true → ⊥
    over h = omega (arith, length-append line more, length-append (codes ", pass ") (decimal pass), full, leb-true _ _ h)

    go : (a b : Bool) → nat_le (length (line ++ more)) 4096 ≡ b → cond a line (cond b (line ++ more) line) ≡ line
    go true b e = refl
    go false true e = absurd (over e)
    go false false e = refl

-- statements on one line that follow one another
pub one_pass : (line : ℕ) (given above : List Statement) → AllByRecursion (λ (s : Statement). s.line ≡ line) given → (given ≡ [] → ⊥) → is_on line above ≡ false
    → passes_over line (given ++ above) ≡ passes_over line above + 1
one_pass line [] above on some off = absurd (some refl)
one_pass line (s ∷ []) above on some off = rw (eq-eqb line s.line (sym on.0), off) refl
one_pass line (s ∷ (t ∷ given)) above on some off =
    rw (eq-eqb line s.line (sym on.0), eq-eqb line t.line (sym on.1.0)) (rest (one_pass line (t ∷ given) above on.1 (λ e. absurd cc) off))
  where
    rest : passes_over line (t ∷ (given ++ above)) ≡ passes_over line above + 1
        → cond (true && not (is_on line (given ++ above))) (passes_over line (given ++ above) + 1) (passes_over line (given ++ above)) ≡ passes_over line above + 1
    rest h = rw (eq-eqb line t.line (sym on.1.0)) at h

-- and where none does
pub as_statements : (line : ℕ) (all : List Statement) → are_apart all ≡ true → passes_over line all ≡ length (filter (λ (s : Statement). line == s.line) all)
as_statements line [] h = refl
as_statements line (s ∷ above) h =
    let both = and_parts (not (is_on s.line above)) (are_apart above) h in
    go (line == s.line) refl both.0 (as_statements line above both.1)
  where
    go : (b : Bool) → (line == s.line) ≡ b → not (is_on s.line above) ≡ true → passes_over line above ≡ length (filter (λ (t : Statement). line == t.line) above)
        → cond (b && not (is_on line above)) (passes_over line above + 1) (passes_over line above)
        ≡ length (cond b (s ∷ filter (λ (t : Statement). line == t.line) above) (filter (λ (t : Statement). line == t.line) above))
    go false e apart more = more
    go true e apart more =
        let here : not (is_on line above) ≡ true = ap (λ (n : ℕ). not (is_on n above)) (eqb-true line s.line e) ∙ apart in
        rw (here, more) (omega arith)

pub record HasPassed (all : List Statement) (p : PassCounts) : Type 0 where
  pub last : (line : ℕ) → is_last p.last line ≡ is_on line all
  pub count : (line : ℕ) → pass_of p line ≡ passes_over line all

none_over : (line : ℕ) → pass_of none_passed line ≡ 0
unfolding pass_of
none_over line = refl

pub none_is_passed : HasPassed [] none_passed
none_is_passed = record { last = λ line. refl; count = none_over }

-- what is found once more is there
tied : (q k : ℕ) → is_at (nat_cmp q) k ≡ true → q ≡ k
tied q k h = eqb-true q k (sym (unsigned_tied q k) ∙ h)

found_after : (q k v : ℕ) (es : List (ℕ × ℕ)) → lookup (is_at (nat_cmp q)) (insert_entry nat_cmp es k v)
    ≡ cond (is_at (nat_cmp q) k) (Some v) (lookup (is_at (nat_cmp q)) es)
found_after q k v [] = refl
found_after q k v (e ∷ es) = go (nat_cmp k e.0) refl (found_after q k v es)
  where
    once : (b : Bool) (o : Option ℕ) → cond b (Some v) o ≡ cond b (Some v) (cond b (Some e.1) o)
    once true o = refl
    once false o = refl

    twice : (a b : Bool) (o : Option ℕ) → (a ≡ true → b ≡ true → ⊥) → cond a (Some e.1) (cond b (Some v) o) ≡ cond b (Some v) (cond a (Some e.1) o)
    twice true true o h = absurd (h refl refl)
    twice true false o h = refl
    twice false b o h = refl

    go : (r : Ordering) → nat_cmp k e.0 ≡ r
        → lookup (is_at (nat_cmp q)) (insert_entry nat_cmp es k v) ≡ cond (is_at (nat_cmp q) k) (Some v) (lookup (is_at (nat_cmp q)) es)
        → lookup (is_at (nat_cmp q)) (match_ordering r ((k, v) ∷ e ∷ es) ((e.0, v) ∷ es) (e ∷ insert_entry nat_cmp es k v))
        ≡ cond (is_at (nat_cmp q) k) (Some v) (cond (is_at (nat_cmp q) e.0) (Some e.1) (lookup (is_at (nat_cmp q)) es))
    go Less h more = refl
    go Equal h more =
        let same : k ≡ e.0 = tied k e.0 (ap is_eq h) in
        once (is_at (nat_cmp q) e.0) (lookup (is_at (nat_cmp q)) es)
        ∙ ap (λ (x : ℕ). cond (is_at (nat_cmp q) x) (Some v) (cond (is_at (nat_cmp q) e.0) (Some e.1) (lookup (is_at (nat_cmp q)) es))) (sym same)
    go Greater h more = ap (λ (o : Option ℕ). cond (is_at (nat_cmp q) e.0) (Some e.1) o) more
        ∙ twice (is_at (nat_cmp q) e.0) (is_at (nat_cmp q) k) (lookup (is_at (nat_cmp q)) es) (λ a b.
        let same : k ≡ e.0 = sym (tied q k b) ∙ tied q e.0 a in
        let both : true ≡ false = sym (unsigned_tied k k ∙ eq-eqb k k refl) ∙ (ap (λ (x : ℕ). is_eq (nat_cmp k x)) same ∙ ap is_eq h) in absurd cc)

-- at a statement on the line of the last one, and on another
again : (p : PassCounts) (line : ℕ) → is_last p.last line ≡ true → passed p line ≡ p
unfolding passed
again p line e = rw e refl

once_more : (p : PassCounts) (line : ℕ) → is_last p.last line ≡ false
    → passed p line ≡ record { last = Some line; counts = insert_entry nat_cmp p.counts line (pass_of p line + 1) }
unfolding passed
once_more p line e = rw e refl

or_none : (d : Bool) (v : ℕ) (o : Option ℕ) → unwrap_or (cond d (Some v) o) 0 ≡ cond d v (unwrap_or o 0)
or_none true v o = refl
or_none false v o = refl

count_over : (p : PassCounts) (last : Option ℕ) (line n v : ℕ) → pass_of (record { last = last; counts = insert_entry nat_cmp p.counts n v }) line
    ≡ cond (line == n) v (pass_of p line)
unfolding pass_of
count_over p last line n v = ap (λ (o : Option ℕ). unwrap_or o 0) (found_after line n v p.counts)
    ∙ (or_none (is_at (nat_cmp line) n) v (lookup (is_at (nat_cmp line)) p.counts)
    ∙ ap (λ (b : Bool). cond b v (unwrap_or (lookup (is_at (nat_cmp line)) p.counts) 0)) (unsigned_tied line n))

stays_on : (line n : ℕ) (o : Option ℕ) → is_last o n ≡ true → is_last o line ≡ (line == n)
stays_on line n None e = absurd cc
stays_on line n (Some last) e = ap (λ (k : ℕ). line == k) (sym (eqb-true n last e))

-- whether the statement above is on this line, too
is_now : (all : List Statement) (p : PassCounts) (line n : ℕ) (b : Bool) → HasPassed all p → is_last p.last n ≡ b → (line == n) ≡ true
    → is_on line all ≡ b
is_now all p line n b h e f = sym (h.last line) ∙ (ap (is_last p.last) (eqb-true line n f) ∙ e)

on_it : (all : List Statement) (s : Statement) (p : PassCounts) (line : ℕ) (d : Bool) → HasPassed all p → is_last p.last s.line ≡ true
    → (line == s.line) ≡ d → pass_of p line ≡ cond (d && not (is_on line all)) (passes_over line all + 1) (passes_over line all)
on_it all s p line true h e f = rw (is_now all p line s.line true h e f) (h.count line)
on_it all s p line false h e f = h.count line

off_it : (all : List Statement) (s : Statement) (p : PassCounts) (line : ℕ) (d : Bool) → HasPassed all p → is_last p.last s.line ≡ false
    → (line == s.line) ≡ d → cond d (pass_of p s.line + 1) (pass_of p line)
    ≡ cond (d && not (is_on line all)) (passes_over line all + 1) (passes_over line all)
off_it all s p line true h e f = rw (is_now all p line s.line false h e f)
    (ap (λ (n : ℕ). n + 1) (ap (pass_of p) (sym (eqb-true line s.line f)) ∙ h.count line))
off_it all s p line false h e f = h.count line

pub one_more_passed : (all : List Statement) (s : Statement) (p : PassCounts) → HasPassed all p → HasPassed (s ∷ all) (passed p s.line)
one_more_passed all s p h = go (is_last p.last s.line) refl
  where
    go : (b : Bool) → is_last p.last s.line ≡ b → HasPassed (s ∷ all) (passed p s.line)
    go true e = subst (HasPassed (s ∷ all)) (sym (again p s.line e)) (record {
      last = λ line. stays_on line s.line p.last e;
      count = λ line. on_it all s p line (line == s.line) h e refl;
    })
    go false e = subst (HasPassed (s ∷ all)) (sym (once_more p s.line e)) (record {
      last = λ line. refl;
      count = λ line. count_over p (Some s.line) line s.line (pass_of p s.line + 1) ∙ off_it all s p line (line == s.line) h e refl;
    })
