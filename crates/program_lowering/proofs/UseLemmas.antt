-- The frames that touches refer to: what is carried of them is what is above.
use Rattle.program_lowering.proofs.Names.{[], ◌&&◌, ◌||◌, ◌∙◌, ◌∷◌, ◌≡◌, ap, Bool, Carried, Choices, cond, Err, false, followed, frame_said}
use Rattle.program_lowering.proofs.Names.{has_open_text, Keyword, keyword_of, left_out_at, List, nearest, None, not, noted, Ok, Option, Reason, refl, Refusal}
use Rattle.program_lowering.proofs.Names.{Result, SaidBy, saying, Some, Statement, StatementMeaning, sym, true, ℕ}
use Rattle.std.proofs.Common.{◌⊎◌, inl, inr}
use Rattle.std.proofs.lemmas.List.Folds.{list_any-append}
use Rattle.std.specs.Str.{bytes_eq}
use Rattle.dmis_program.specs.Keywords.{is_among}
use Rattle.dmis_program.specs.declared.keywords.Keyword.TheVariants as word
use Rattle.dmis_program.specs.declared.sayings.StatementMeaning.TheVariants as said
use Rattle.program_lowering.specs.Carried.{selected_after, used_after, with_frame}
use Rattle.program_lowering.specs.Inches.{stated}
use Rattle.program_lowering.specs.Lowering.{counted_at, kept_above}
use Rattle.program_lowering.specs.StoredFrames.{alignments, by_frame, is_frame, is_touch, is_used, labelled_frame, named_frame, selecting, unless_used}
use Rattle.program_lowering.proofs.SaidLemmas.{Tells, says, tells}
use Rattle.program_lowering.proofs.StatedLemmas.{IsMoved, stated_or}
use Rattle.tool_rack.specs.Setups.{has_name}

-- the names that touches refer to, and those with the frame that is selected
pub record Uses (counted : List Statement) (selected : Option (List ℕ)) (used : List (List ℕ)) : Type 0 where
  pub found : (name : List ℕ) → has_name used name ≡ is_used counted name
  pub coming : (name : List ℕ) → has_name (with_frame used selected) name ≡ (is_frame (nearest frame_said counted) name || is_used counted name)

abbrev pub HasUses : List Statement → Carried → Type 0
HasUses counted c = Uses counted c.selected c.used

twice : (a b : Bool) → (a || (a || b)) ≡ (a || b)
twice true b = refl
twice false b = refl

turned : (a b : Bool) → (a || (b || false)) ≡ (b || a)
turned true true = refl
turned true false = refl
turned false true = refl
turned false false = refl

-- after a statement that says this
abbrev is_touching : StatementMeaning → Bool
is_touching (said.Touches target direction) = true
is_touching _ = false

stay : (counted : List Statement) (t : Statement) (selected : Option (List ℕ)) (used : List (List ℕ)) → is_touch (keyword_of t.word) ≡ false
    → frame_said (saying t) ≡ None → Uses counted selected used → Uses (t ∷ counted) selected used
stay counted t selected used e f h = record { found = λ name. rw e (h.found name); coming = λ name. rw (e, f) (h.coming name) }

uses_said : (counted : List Statement) (t : Statement) (selected : Option (List ℕ)) (used : List (List ℕ)) (m : StatementMeaning)
    → is_touch (keyword_of t.word) ≡ is_touching m → frame_said (saying t) ≡ frame_said (Ok m) → Uses counted selected used
    → Uses (t ∷ counted) (selected_after selected m) (used_after selected used m)
uses_said counted t selected used (said.Touches target direction) e f h = record {
  found = λ name. rw e (h.coming name);
  coming = λ name. rw (e, f) (h.coming name ∙ sym (twice (is_frame (nearest frame_said counted) name) (is_used counted name)));
}
uses_said counted t selected used (said.Recalls other) e f h = record {
  found = λ name. rw e (h.found name);
  coming = λ name. rw (e, f) (list_any-append (λ m. bytes_eq m name) used (other ∷ []) ∙ turned (has_name used name) (bytes_eq other name)
      ∙ ap (λ (b : Bool). bytes_eq other name || b) (h.found name));
}
uses_said counted t selected used (said.Goes target) e f h = stay counted t selected used e f h
uses_said counted t selected used (said.Begins name count) e f h = stay counted t selected used e f h
uses_said counted t selected used said.Ends e f h = stay counted t selected used e f h
uses_said counted t selected used (said.Selects name) e f h = stay counted t selected used e f h
uses_said counted t selected used said.Closes e f h = stay counted t selected used e f h
uses_said counted t selected used said.Passes e f h = stay counted t selected used e f h

-- whether it is a touch, and what it selects, does not depend on the unit
by_saying : (k : Keyword) (params : List (List ℕ)) (m : StatementMeaning) → SaidBy k m → Tells k params m → is_touch k ≡ is_touching m
by_saying k params (said.Goes target) a e = rw e refl
by_saying k params (said.Begins name count) a e = rw a.0 refl
by_saying k params (said.Touches target direction) a e = rw a.0 refl
by_saying k params said.Ends a e = rw a refl
by_saying k params (said.Selects name) a e = rw e refl
by_saying k params (said.Recalls name) a e = rw e.0 refl
by_saying k params said.Closes a e = rw a refl
by_saying k params said.Passes a e = e

recalls_not : (k : Keyword) → IsMoved k → k ≡ word.Recall → ⊥
recalls_not k (inl e) p = let same : word.Goto ≡ word.Recall = sym e ∙ p in absurd cc
recalls_not k (inr (inl e)) p = let same : word.Ptmeas ≡ word.Recall = sym e ∙ p in absurd cc
recalls_not k (inr (inr e)) p = let same : word.Units ≡ word.Recall = sym e ∙ p in absurd cc

none_said : (s : Statement) (r : Result StatementMeaning Refusal) → saying s ≡ r → IsMoved (keyword_of s.word) → frame_said r ≡ None
none_said s (Ok (said.Recalls name)) e moved =
    absurd (recalls_not (keyword_of s.word) moved (tells (keyword_of s.word) s (said.Recalls name) e).0)
none_said s (Ok (said.Goes target)) e moved = refl
none_said s (Ok (said.Begins name count)) e moved = refl
none_said s (Ok (said.Touches target direction)) e moved = refl
none_said s (Ok said.Ends) e moved = refl
none_said s (Ok (said.Selects name)) e moved = refl
none_said s (Ok said.Closes) e moved = refl
none_said s (Ok said.Passes) e moved = refl
none_said s (Err refusal) e moved = refl

frame_same : (b : Bool) (s : Statement) (m : StatementMeaning) → saying (stated b s) ≡ Ok m → frame_said (saying s) ≡ frame_said (Ok m)
frame_same b s m h = go (stated_or b s)
  where
    go : (stated b s ≡ s) ⊎ IsMoved (keyword_of s.word) → frame_said (saying s) ≡ frame_said (Ok m)
    go (inl e) = ap frame_said (ap saying (sym e) ∙ h)
    go (inr moved) = none_said s (saying s) refl moved ∙ sym (none_said (stated b s) (Ok m) h moved)

uses_after : (b : Bool) (counted : List Statement) (t : Statement) (c : Carried) (m : StatementMeaning) → saying (stated b t) ≡ Ok m
    → HasUses counted c → HasUses (t ∷ counted) (followed c t m)
uses_after b counted t c m h =
    uses_said counted t c.selected c.used m
    (by_saying (keyword_of t.word) (stated b t).params m (says (keyword_of t.word) (stated b t) m h) (tells (keyword_of t.word) (stated b t) m h))
    (frame_same b t m h)

-- after one that is left out, and after one that counts
pub uses_left : (choices : Choices) (above : List Statement) (s : Statement) (c : Carried) (reason : Reason) → left_out_at choices above s ≡ Some reason
    → HasUses (kept_above choices above) c → HasUses (kept_above choices (s ∷ above)) (noted c s (Some reason))
uses_left choices above s c reason e h = rw e h

pub uses_kept : (b : Bool) (choices : Choices) (above : List Statement) (s : Statement) (c : Carried) (m : StatementMeaning)
    → left_out_at choices above s ≡ None → saying (stated b (counted_at choices above s)) ≡ Ok m → HasUses (kept_above choices above) c
    → HasUses (kept_above choices (s ∷ above)) (followed c (counted_at choices above s) m)
uses_kept b choices above s c m e says h = rw e (uses_after b (kept_above choices above) (counted_at choices above s) c m says h)

-- the same frames are selected where the same are used
unless_alike : (p q : List ℕ → Bool) → ((name : List ℕ) → p name ≡ q name) → (o : Option (List ℕ)) → unless_used p o ≡ unless_used q o
unless_alike p q e None = refl
unless_alike p q e (Some name) = rw (e name) refl

named_alike : (p q : List ℕ → Bool) → ((name : List ℕ) → p name ≡ q name) → (k : Keyword) (s : Statement) → named_frame p k s ≡ named_frame q k s
named_alike p q e word.Unknown s = ap (λ (o : Option (List ℕ)). cond (is_among s.word alignments) o None) (unless_alike p q e (labelled_frame s.label))
named_alike p q e word.Recall s = refl
named_alike p q e word.Dmismn s = refl
named_alike p q e word.Goto s = refl
named_alike p q e word.Meas s = refl
named_alike p q e word.Ptmeas s = refl
named_alike p q e word.Endmes s = refl
named_alike p q e word.Snslct s = refl
named_alike p q e word.Endfil s = refl
named_alike p q e word.Units s = refl
named_alike p q e word.Mode s = refl
named_alike p q e word.Definition s = refl
named_alike p q e word.Passed s = refl

pub counted_alike : (choices : Choices) (above : List Statement) (s : Statement) (c : Carried) → HasUses (kept_above choices above) c
    → by_frame choices (has_name c.used) s ≡ counted_at choices above s
counted_alike choices above s c h =
    ap (λ (o : Option (List ℕ)). selecting (cond (choices.stored_frames && not (has_open_text s)) o None) s)
    (named_alike (has_name c.used) (is_used (kept_above choices above)) h.found (keyword_of s.word) s)

pub none_used : Uses [] None []
none_used = record { found = λ name. refl; coming = λ name. refl }
