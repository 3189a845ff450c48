-- The statements of a text outside macros and those within, which have all its macros.
use Rattle.std.proofs.Common.{◌≡◌, ◌∙◌, ℕ, ◌+◌, Bool, true, false, List, [], ◌∷◌, ◌++◌, append_assoc, arith, cond, refl, ap, sym}
use Rattle.std.specs.Prelude.{◌&&◌, ◌||◌, not, nat_lt, Some}
use Rattle.std.proofs.lemmas.Bool.{lt-ltb}
use Rattle.dmis_text.specs.declared.elements.Statement.{Statement}
use Rattle.program_flow.specs.Calls.{Frame, begun, trace}
use Rattle.program_flow.specs.Flow.{Control, to}
use Rattle.program_flow.specs.Macros.{begins_macro, body_of, ends_macro, has_end, has_label, macro_after, macro_name, outside, outside_after}
use Rattle.program_flow.proofs.Frames.{trace-same}
use Rattle.program_flow.specs.Named.{count_ends, ends_below, inside, inside_after, within_after, within_by}

pub some_end : (below : List Statement) → has_end below ≡ nat_lt 0 (count_ends below)
some_end [] = refl
some_end (s ∷ below) = go (ends_macro s) (some_end below)
  where
    go : (b : Bool) → has_end below ≡ nat_lt 0 (count_ends below) → (b || has_end below) ≡ nat_lt 0 (cond b (count_ends below + 1) (count_ends below))
    go true h = sym (lt-ltb 0 (count_ends below + 1) (omega arith))
    go false h = h

-- whether a statement is within a macro, and whether those below it are
abbrev pub is_inside : Bool → Statement → List Statement → Bool
is_inside within s below = within_by within (count_ends below) (begins_macro s)

abbrev pub next_within : Bool → Statement → List Statement → Bool
next_within within s below = within_after within (ends_macro s) (is_inside within s below)

-- a choice by two tests, in either order
chosen : {A : Type 0} (f : Bool → A) (b e : Bool) (other : A) → (e && b) ≡ true → cond (b && e) (f true) other ≡ f (e && b)
chosen f true true other h = refl
chosen f true false other h = absurd cc
chosen f false true other h = absurd cc
chosen f false false other h = absurd cc

otherwise : {A : Type 0} (f : Bool → A) (b e : Bool) (first : A) → (e && b) ≡ false → cond (b && e) first (f false) ≡ f (e && b)
otherwise f true true first h = absurd cc
otherwise f true false first h = refl
otherwise f false true first h = refl
otherwise f false false first h = refl

pub outside_next : (within : Bool) (s : Statement) (below : List Statement) → is_inside within s below ≡ false
    → outside_after within (s ∷ below) ≡ s ∷ outside_after (next_within within s below) below
unfolding outside_after
outside_next true s below h = absurd cc
outside_next false s below h =
    ap (λ (e : Bool). cond (begins_macro s && e) (outside_after true below) (s ∷ outside_after false below)) (some_end below)
    ∙ otherwise (λ (b : Bool). s ∷ outside_after b below) (begins_macro s) (nat_lt 0 (count_ends below)) (outside_after true below) h

pub outside_passed : (within : Bool) (s : Statement) (below : List Statement) → is_inside within s below ≡ true
    → outside_after within (s ∷ below) ≡ outside_after (next_within within s below) below
unfolding outside_after
outside_passed true s below h = refl
outside_passed false s below h =
    ap (λ (e : Bool). cond (begins_macro s && e) (outside_after true below) (s ∷ outside_after false below)) (some_end below)
    ∙ chosen (λ (b : Bool). outside_after b below) (begins_macro s) (nat_lt 0 (count_ends below)) (s ∷ outside_after false below) h

pub inside_next : (within : Bool) (s : Statement) (below : List Statement) → is_inside within s below ≡ true
    → inside_after within (s ∷ below) ≡ s ∷ inside_after (next_within within s below) below
unfolding inside_after
inside_next true s below h = refl
inside_next false s below h =
    ap (λ (e : Bool). cond (begins_macro s && e) (s ∷ inside_after true below) (inside_after false below)) (some_end below)
    ∙ chosen (λ (b : Bool). s ∷ inside_after b below) (begins_macro s) (nat_lt 0 (count_ends below)) (inside_after false below) h

pub inside_passed : (within : Bool) (s : Statement) (below : List Statement) → is_inside within s below ≡ false
    → inside_after within (s ∷ below) ≡ inside_after (next_within within s below) below
unfolding inside_after
inside_passed true s below h = absurd cc
inside_passed false s below h =
    ap (λ (e : Bool). cond (begins_macro s && e) (s ∷ inside_after true below) (inside_after false below)) (some_end below)
    ∙ otherwise (λ (b : Bool). inside_after b below) (begins_macro s) (nat_lt 0 (count_ends below)) (s ∷ inside_after true below) h

-- the same macros
within_end : (below : List Statement) → has_end (inside_after true below) ≡ has_end below
unfolding inside_after
within_end [] = refl
within_end (s ∷ below) = go (ends_macro s) (within_end below)
  where
    go : (b : Bool) → has_end (inside_after true below) ≡ has_end below → (b || has_end (inside_after (not b) below)) ≡ (b || has_end below)
    go true h = refl
    go false h = h

within_body : (below : List Statement) → body_of (inside_after true below) ≡ body_of below
unfolding inside_after
within_body [] = refl
within_body (s ∷ below) = go (ends_macro s) (within_body below)
  where
    go : (b : Bool) → body_of (inside_after true below) ≡ body_of below
        → cond b [] (s ∷ body_of (inside_after (not b) below)) ≡ cond b [] (s ∷ body_of below)
    go true h = refl
    go false h = ap (λ (ss : List Statement). s ∷ ss) h

pub same_macros : (name : List ℕ) (within : Bool) (text : List Statement) → macro_after name within (inside_after within text) ≡ macro_after name within text
unfolding macro_after inside_after
same_macros name true [] = refl
same_macros name false [] = refl
same_macros name true (s ∷ below) = same_macros name (not (ends_macro s)) below
same_macros name false (s ∷ below) =
    go (begins_macro s) (has_end below) refl refl (within_end below) (within_body below) (same_macros name true below) (same_macros name false below)
  where
    go : (b e : Bool) → begins_macro s ≡ b → has_end below ≡ e → has_end (inside_after true below) ≡ has_end below
        → body_of (inside_after true below) ≡ body_of below
        → macro_after name true (inside_after true below) ≡ macro_after name true below
        → macro_after name false (inside_after false below) ≡ macro_after name false below
        → macro_after name false (cond (b && e) (s ∷ inside_after true below) (inside_after false below))
        ≡ cond (b && e) (cond (has_label (macro_name s) name) (Some (record { params = s.params; body = body_of below })) (macro_after name true below))
        (macro_after name false below)
    go true true begins ends end body inner outer = rw (begins, end, ends, body, inner) refl
    go true false begins ends end body inner outer = outer
    go false e begins ends end body inner outer = outer

-- one statement more, as the code takes it
ends_fewer : (s : Statement) (rest : List Statement) (ends : ℕ) → ends ≡ count_ends (s ∷ rest) → ends_below ends (ends_macro s) ≡ count_ends rest
ends_fewer s rest ends e = go (ends_macro s) e
  where
    go : (b : Bool) → ends ≡ cond b (count_ends rest + 1) (count_ends rest) → ends_below ends b ≡ count_ends rest
    go true e = omega (arith, e)
    go false e = e

pub record IsSplit (outs ins rest all_outs all_ins : List Statement) (next : Bool) (less : ℕ) : Type 0 where
  pub outside : outs ++ outside_after next rest ≡ all_outs
  pub inside : ins ++ inside_after next rest ≡ all_ins
  pub ends : less ≡ count_ends rest

-- by what the calls answer
record IsTaken (within : Bool) (s : Statement) (rest : List Statement) (less : ℕ) (inside next : Bool) : Type 0 where
  ends : less ≡ count_ends rest
  here : inside ≡ is_inside within s rest
  after : next ≡ next_within within s rest

is_taken : (within : Bool) (s : Statement) (rest items : List Statement) (ends less : ℕ) (last begins inside next : Bool) → items ≡ s ∷ rest
    → ends ≡ count_ends items → last ≡ ends_macro s → less ≡ ends_below ends last → begins ≡ begins_macro s → inside ≡ within_by within less begins
    → next ≡ within_after within last inside → IsTaken within s rest less inside next
is_taken within s rest items ends less last begins inside next are count lasts few begin here after =
    let l : less ≡ count_ends rest = few ∙ (ap (λ (b : Bool). ends_below ends b) lasts ∙ ends_fewer s rest ends (count ∙ ap count_ends are)) in
    let i : inside ≡ is_inside within s rest =
    here ∙ (ap (λ (n : ℕ). within_by within n begins) l ∙ ap (λ (b : Bool). within_by within (count_ends rest) b) begin) in
    record {
      ends = l;
      here = i;
      after = after ∙ (ap (λ (b : Bool). within_after within b inside) lasts ∙ ap (λ (b : Bool). within_after within (ends_macro s) b) i);
    }

-- a list that the statement joins, and one that it does not
joined : (front new rest items all : List Statement) (s : Statement) (within next after : Bool) (left : Bool → List Statement → List Statement)
    → items ≡ s ∷ rest → front ++ left within items ≡ all → new ≡ front ++ (s ∷ []) → next ≡ after → left within (s ∷ rest) ≡ s ∷ left after rest
    → new ++ left next rest ≡ all
joined front new rest items all s within next after left are whole more n step = ap (λ (ss : List Statement). ss ++ left next rest) more
    ∙ (append_assoc front (s ∷ []) (left next rest) ∙ (ap (λ (b : Bool). front ++ (s ∷ left b rest)) n ∙ (ap (λ (ss : List Statement). front ++ ss) (sym step)
    ∙ (ap (λ (ss : List Statement). front ++ left within ss) (sym are) ∙ whole))))

passed : (front rest items all : List Statement) (s : Statement) (within next after : Bool) (left : Bool → List Statement → List Statement)
    → items ≡ s ∷ rest → front ++ left within items ≡ all → next ≡ after → left within (s ∷ rest) ≡ left after rest → front ++ left next rest ≡ all
passed front rest items all s within next after left are whole n step = ap (λ (b : Bool). front ++ left b rest) n
    ∙ (ap (λ (ss : List Statement). front ++ ss) (sym step) ∙ (ap (λ (ss : List Statement). front ++ left within ss) (sym are) ∙ whole))

pub taken_inside : (within : Bool) (s : Statement) (rest items outs ins new all_outs all_ins : List Statement) (ends less : ℕ)
    (last begins inside next : Bool) → items ≡ s ∷ rest → ends ≡ count_ends items → outs ++ outside_after within items ≡ all_outs
    → ins ++ inside_after within items ≡ all_ins → new ≡ ins ++ (s ∷ []) → last ≡ ends_macro s → less ≡ ends_below ends last
    → begins ≡ begins_macro s → inside ≡ within_by within less begins → next ≡ within_after within last inside → inside ≡ true
    → IsSplit outs new rest all_outs all_ins next less
taken_inside within s rest items outs ins new all_outs all_ins ends less last begins inside next are count out into more lasts few begin here after it_is =
    let a = is_taken within s rest items ends less last begins inside next are count lasts few begin here after in let h = sym a.here ∙ it_is in record {
      outside = passed outs rest items all_outs s within next _ outside_after are out a.after (outside_passed within s rest h);
      inside = joined ins new rest items all_ins s within next _ inside_after are into more a.after (inside_next within s rest h);
      ends = a.ends;
    }

pub taken_outside : (within : Bool) (s : Statement) (rest items outs ins new all_outs all_ins : List Statement) (ends less : ℕ)
    (last begins inside next : Bool) → items ≡ s ∷ rest → ends ≡ count_ends items → outs ++ outside_after within items ≡ all_outs
    → ins ++ inside_after within items ≡ all_ins → new ≡ outs ++ (s ∷ []) → last ≡ ends_macro s → less ≡ ends_below ends last
    → begins ≡ begins_macro s → inside ≡ within_by within less begins → next ≡ within_after within last inside → inside ≡ false
    → IsSplit new ins rest all_outs all_ins next less
taken_outside within s rest items outs ins new all_outs all_ins ends less last begins inside next are count out into more lasts few begin here after is_not =
    let a = is_taken within s rest items ends less last begins inside next are count lasts few begin here after in let h = sym a.here ∙ is_not in record {
      outside = joined outs new rest items all_outs s within next _ outside_after are out more a.after (outside_next within s rest h);
      inside = passed ins rest items all_ins s within next _ inside_after are into a.after (inside_passed within s rest h);
      ends = a.ends;
    }

-- at the first statement
pub begun_left : (macros : List Statement) (calls : List Frame) (outer : List Statement) (c : Control) (text : List Statement) → macros ≡ inside text
    → calls ≡ [] → outer ≡ outside text → c ≡ to 0 []
    → trace 1000000 macros (calls ++ (record { name = []; statements = outer; control = c } ∷ [])) [] ≡ trace 1000000 text (begun text) []
begun_left macros calls outer c text ms cs os at =
    ap (λ (ks : List Frame). trace 1000000 macros (ks ++ (record { name = []; statements = outer; control = c } ∷ [])) []) cs
    ∙ (ap (λ (ss : List Statement). trace 1000000 macros (record { name = []; statements = ss; control = c } ∷ []) []) os
    ∙ (ap (λ (k : Control). trace 1000000 macros (record { name = []; statements = outside text; control = k } ∷ []) []) at
    ∙ trace-same 1000000 text macros (begun text) []
    (λ name. ap (λ (ss : List Statement). macro_after name false ss) ms ∙ same_macros name false text)))
