-- What is written of a statement in inches, and noted, is what is written of it in millimetres.
use Rattle.std.proofs.Common.{◌≡◌, ℕ, Bool, true, false, cond, List, None, Result, Ok, Err, refl, ap, sym, ◌∙◌, ◌⊎◌, inl, inr}
use Rattle.dmis_text.specs.Statements.{has_open_text}
use Rattle.dmis_text.specs.declared.elements.Statement.{Statement}
use Rattle.dmis_program.specs.Keywords.{keyword_of}
use Rattle.dmis_program.specs.LookBack.{saying}
use Rattle.dmis_program.specs.Meaning.{closes}
use Rattle.dmis_program.proofs.Sound.{SaidBy}
use Rattle.dmis_program.specs.declared.faults.Refusal.{Refusal}
use Rattle.dmis_program.specs.declared.keywords.Keyword.{Keyword}
use Rattle.dmis_program.specs.declared.keywords.Keyword.TheVariants as word
use Rattle.dmis_program.specs.declared.sayings.StatementMeaning.{StatementMeaning}
use Rattle.dmis_program.specs.declared.sayings.StatementMeaning.TheVariants as said
use Rattle.program_lowering.specs.Flats.{flat_said}
use Rattle.program_lowering.specs.Inches.{params_in, stated}
use Rattle.program_lowering.specs.Lowering.{is_closing, passed_over}
use Rattle.program_lowering.specs.Texts.{is_operator_text}
use Rattle.program_lowering.specs.OperatorTexts.{flat_meant, text_refusal}
use Rattle.program_lowering.specs.Words.{passed_reason}
use Rattle.program_lowering.proofs.SaidLemmas.{says}
use Rattle.program_lowering.proofs.TextLemmas.{is_text, text_word}

-- the words whose parameters have a unit, or are one
abbrev pub IsMoved : Keyword → Type 0
IsMoved k = (k ≡ word.Goto) ⊎ (k ≡ word.Ptmeas) ⊎ (k ≡ word.Units)

by_keyword : (b : Bool) (k : Keyword) → ((params : List (List ℕ)) → params_in k b params ≡ params) ⊎ IsMoved k
by_keyword b word.Goto = inr (inl refl)
by_keyword b word.Ptmeas = inr (inr (inl refl))
by_keyword b word.Units = inr (inr (inr refl))
by_keyword b word.Dmismn = inl (λ params. refl)
by_keyword b word.Meas = inl (λ params. refl)
by_keyword b word.Endmes = inl (λ params. refl)
by_keyword b word.Snslct = inl (λ params. refl)
by_keyword b word.Recall = inl (λ params. refl)
by_keyword b word.Endfil = inl (λ params. refl)
by_keyword b word.Mode = inl (λ params. refl)
by_keyword b word.Definition = inl (λ params. refl)
by_keyword b word.Passed = inl (λ params. refl)
by_keyword b word.Unknown = inl (λ params. refl)

same_either : (o : Bool) (x y : List (List ℕ)) → y ≡ x → cond o x y ≡ x
same_either true x y e = refl
same_either false x y e = e

pub stated_or : (b : Bool) (s : Statement) → (stated b s ≡ s) ⊎ IsMoved (keyword_of s.word)
stated_or b s = go (by_keyword b (keyword_of s.word))
  where
    go : ((params : List (List ℕ)) → params_in (keyword_of s.word) b params ≡ params) ⊎ IsMoved (keyword_of s.word)
        → (stated b s ≡ s) ⊎ IsMoved (keyword_of s.word)
    go (inl same) = inl (ap (λ (params : List (List ℕ)). record s { params = params })
        (same_either (has_open_text s) s.params (params_in (keyword_of s.word) b s.params) (same s.params)))
    go (inr moved) = inr moved

not_passed : (k : Keyword) → IsMoved k → k ≡ word.Passed → ⊥
not_passed k (inl e) p = let same : word.Goto ≡ word.Passed = sym e ∙ p in absurd cc
not_passed k (inr (inl e)) p = let same : word.Ptmeas ≡ word.Passed = sym e ∙ p in absurd cc
not_passed k (inr (inr e)) p = let same : word.Units ≡ word.Passed = sym e ∙ p in absurd cc

no_text : (s : Statement) → IsMoved (keyword_of s.word) → is_operator_text s ≡ false
no_text s moved = go (is_operator_text s) refl
  where
    go : (b : Bool) → is_operator_text s ≡ b → b ≡ false
    go true e = absurd (not_passed (keyword_of s.word) moved (ap keyword_of (is_text s e).word_is ∙ text_word))
    go false e = refl

-- refused for its form alike
pub text_same : (b : Bool) (s : Statement) → text_refusal (stated b s) ≡ text_refusal s
text_same b s = go (stated_or b s)
  where
    go : (stated b s ≡ s) ⊎ IsMoved (keyword_of s.word) → text_refusal (stated b s) ≡ text_refusal s
    go (inl e) = ap text_refusal e
    go (inr moved) = rw (no_text (stated b s) moved, no_text s moved) refl

-- no block begins
begins_not : (k : Keyword) → IsMoved k → k ≡ word.Meas → ⊥
begins_not k (inl e) p = let same : word.Goto ≡ word.Meas = sym e ∙ p in absurd cc
begins_not k (inr (inl e)) p = let same : word.Ptmeas ≡ word.Meas = sym e ∙ p in absurd cc
begins_not k (inr (inr e)) p = let same : word.Units ≡ word.Meas = sym e ∙ p in absurd cc

flat_by : (k : Keyword) (params other : List (List ℕ)) (m : StatementMeaning) → IsMoved k → SaidBy k m → flat_said k params m ≡ flat_said k other m
flat_by k params other (said.Goes target) moved h = refl
flat_by k params other (said.Begins name count) moved h = absurd (begins_not k moved h.0)
flat_by k params other (said.Touches target direction) moved h = refl
flat_by k params other said.Ends moved h = refl
flat_by k params other (said.Selects name) moved h = refl
flat_by k params other (said.Recalls name) moved h = refl
flat_by k params other said.Closes moved h = refl
flat_by k params other said.Passes moved h = refl

-- written alike
pub flat_same : (b : Bool) (s : Statement) (m : StatementMeaning) → saying (stated b s) ≡ Ok m → flat_meant (stated b s) m ≡ flat_meant s m
flat_same b s m h = go (stated_or b s)
  where
    go : (stated b s ≡ s) ⊎ IsMoved (keyword_of s.word) → flat_meant (stated b s) m ≡ flat_meant s m
    go (inl e) = ap (λ (t : Statement). flat_meant t m) e
    go (inr moved) = rw (no_text (stated b s) moved, no_text s moved)
        (flat_by (keyword_of s.word) (stated b s).params s.params m moved (says (keyword_of s.word) (stated b s) m h))

-- noted alike
ends_not : (k : Keyword) → IsMoved k → k ≡ word.Endfil → ⊥
ends_not k (inl e) p = let same : word.Goto ≡ word.Endfil = sym e ∙ p in absurd cc
ends_not k (inr (inl e)) p = let same : word.Ptmeas ≡ word.Endfil = sym e ∙ p in absurd cc
ends_not k (inr (inr e)) p = let same : word.Units ≡ word.Endfil = sym e ∙ p in absurd cc

no_reason : (k : Keyword) (name : List ℕ) → IsMoved k → passed_reason k name ≡ None
no_reason k name (inl e) = rw e refl
no_reason k name (inr (inl e)) = rw e refl
no_reason k name (inr (inr e)) = rw e refl

nothing_noted : (s : Statement) (r : Result StatementMeaning Refusal) → IsMoved (keyword_of s.word) → passed_over s r ≡ None
nothing_noted s (Ok (said.Goes target)) moved = refl
nothing_noted s (Ok (said.Begins name count)) moved = refl
nothing_noted s (Ok (said.Touches target direction)) moved = refl
nothing_noted s (Ok said.Ends) moved = refl
nothing_noted s (Ok (said.Selects name)) moved = refl
nothing_noted s (Ok (said.Recalls name)) moved = refl
nothing_noted s (Ok said.Closes) moved = refl
nothing_noted s (Ok said.Passes) moved = rw (no_text s moved) (no_reason (keyword_of s.word) s.word moved)
nothing_noted s (Err e) moved = refl

closes_not : (k : Keyword) (m : StatementMeaning) → (k ≡ word.Endfil → ⊥) → SaidBy k m → closes m ≡ false
closes_not k (said.Goes target) other h = refl
closes_not k (said.Begins name count) other h = refl
closes_not k (said.Touches target direction) other h = refl
closes_not k said.Ends other h = refl
closes_not k (said.Selects name) other h = refl
closes_not k (said.Recalls name) other h = refl
closes_not k said.Closes other h = absurd (other h)
closes_not k said.Passes other h = refl

no_end : (s : Statement) (r : Result StatementMeaning Refusal) → saying s ≡ r → (keyword_of s.word ≡ word.Endfil → ⊥) → is_closing r ≡ false
no_end s (Ok m) e other = closes_not (keyword_of s.word) m other (says (keyword_of s.word) s m e)
no_end s (Err refusal) e other = refl

-- only `ENDFIL` closes a program
pub closes_nothing : (s : Statement) → (keyword_of s.word ≡ word.Endfil → ⊥) → is_closing (saying s) ≡ false
closes_nothing s other = no_end s (saying s) refl other

pub record NotedAlike (s : Statement) (m : StatementMeaning) : Type 0 where
  pub notes : passed_over s (saying s) ≡ passed_over s (Ok m)
  pub ends : is_closing (saying s) ≡ closes m

pub noted_same : (b : Bool) (s : Statement) (m : StatementMeaning) → saying (stated b s) ≡ Ok m → NotedAlike s m
noted_same b s m h = go (stated_or b s)
  where
    go : (stated b s ≡ s) ⊎ IsMoved (keyword_of s.word) → NotedAlike s m
    go (inl e) =
        let says : saying s ≡ Ok m = ap saying (sym e) ∙ h in
        record { notes = ap (passed_over s) says; ends = ap is_closing says }
    go (inr moved) = record {
      notes = nothing_noted s (saying s) moved ∙ sym (nothing_noted s (Ok m) moved);
      ends = closes_nothing s (ends_not (keyword_of s.word) moved)
          ∙ sym (closes_not (keyword_of s.word) m (ends_not (keyword_of s.word) moved) (says (keyword_of s.word) (stated b s) m h));
    }
