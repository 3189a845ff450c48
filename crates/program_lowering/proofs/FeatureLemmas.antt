-- A `FEAT` with a label: the lines from which it is read back with its values.
use Rattle.program_lowering.proofs.Names.{[], ◌&&◌, ◌∙◌, ◌≡◌, and_parts, ap, arith, Bool, bytes_eq, codes, cond, Err, false, flat, IfOk}
use Rattle.program_lowering.proofs.Names.{flat_line, leb-true, length, length-append, List, list_all, nat_le, None, Ok, Option, refl, Result, Some}
use Rattle.program_lowering.proofs.Names.{Statement, subst, sym, text_reading, true, ℕ}
use Rattle.std.specs.Prelude.{IfSome}
use Rattle.std.proofs.lemmas.Slice.Eq.{bytes_eq-Decides}
use Rattle.dmis_text.specs.Statements.{has_open_text}
use Rattle.program_flow.specs.LookBack.{value_said}
use Rattle.std.specs.Result.{result_ok}
use Rattle.program_flow.specs.Texts.{expanded}
use Rattle.program_flow.specs.Variables.{Entry, entry_value}
use Rattle.program_flow.specs.declared.faults.ValueFault.{ValueFault}
use Rattle.program_lowering.specs.Carried.{AreRead, GivesFeature, IsFeature, IsRead, Knows, line_with, named_as}
use Rattle.program_lowering.specs.Lowering.{ended}
use Rattle.program_lowering.specs.OperatorTexts.{is_solid}
use Rattle.program_lowering.specs.declared.values.FeatureLines.{FeatureLines}
use Rattle.program_lowering.specs.Valued.{commanded, feature_by, feature_label, has_variables, held_or_none, is_feature, is_word, new_params, valued, valued_as}
use Rattle.program_lowering.specs.Labels.{collides}
use Rattle.program_lowering.specs.Valued.{own_params, params_at, word_in}
use Rattle.program_lowering.proofs.ValuedLemmas.{GoodWord, first_short, one_line, read_is, same_place}

-- the line of a word
pub word_read : (name line : List ℕ) → is_word name ≡ true → line ≡ ended (flat_line (flat name []) 1)
    → IsRead line (record { line = 1; label = None; word = name; params = [] })
word_read name line h e =
    let a = and_parts (list_all is_solid name) _ h in
    let b = and_parts (nat_le 1 (length name)) (nat_le (length name) 4000) a.1 in
    record {
      only = ap text_reading e ∙ one_line (flat name []) (record {
        word = a.0;
        some_word = leb-true 1 (length name) b.0;
        params = refl;
        short = first_short name [] (omega (arith, length-append name [], leb-true (length name) 4000 b.1));
        few = omega arith;
      });
    }

-- both lines
pub are_lines : (s : Statement) (name label line : List ℕ) (made : Result (List (List ℕ)) ValueFault) → bytes_eq s.word (codes "FEAT") ≡ true
    → is_word name ≡ true → label ≡ ended (flat_line (flat name []) 1) → line ≡ line_with s.word made → IsFeature label line s (feature_by s name made)
are_lines s name label line made is word l e = record {
  name = name;
  params = held_or_none s.word made;
  named = word_read name label word l;
  read = read_is s.word line made good e;
  is = refl;
}
  where
    good : GoodWord s.word
    good = let same = (bytes_eq-Decides s.word (codes "FEAT")).0 is in rw same record { solid = refl; some = omega arith; short = omega arith }

pub feature_is : (above : List Statement) (s : Statement) (entries : List Entry) (declared b : Bool) (label : List ℕ)
    → bytes_eq s.word (codes "FEAT") ≡ true → has_open_text s ≡ false → declared ≡ true → s.label ≡ Some label → Knows above entries declared
    → b ≡ collides above s
    → named_as s (commanded above s) (word_in (result_ok (expanded (entry_value entries) label))) (own_params b (entry_value entries) s.params) ≡ valued above s
feature_is above s entries declared b label is shut some named k clash =
    let so : (has_variables above && is_feature s) ≡ true = rw (sym k.some, some, is, shut) refl in
    let name : feature_label above s s.label ≡ word_in (result_ok (expanded (value_said above) label)) =
    ap (feature_label above s) named ∙ ap (λ (b : Bool). cond b (word_in (result_ok (expanded (value_said above) label))) None) so in
    rw (clash, k.holds.values) (same (word_in (result_ok (expanded (value_said above) label))) ∙ ap (valued_as above s) (sym name))
  where
    same : (o : Option (List ℕ)) → named_as s (commanded above s) o (params_at above s) ≡ valued_as above s o
    same None = refl
    same (Some name) = refl

pub gives_feature : {E : Type 0} (above : List Statement) (s : Statement) (entries : List Entry) (declared b : Bool) (label : List ℕ)
    (r : Result (Option FeatureLines) E) → bytes_eq s.word (codes "FEAT") ≡ true → has_open_text s ≡ false → declared ≡ true
    → s.label ≡ Some label → Knows above entries declared → b ≡ collides above s
    → IfOk r (λ lines. GivesFeature lines s (commanded above s) (named_as s (commanded above s) (word_in (result_ok (expanded (entry_value entries) label)))
    (own_params b (entry_value entries) s.params)))
    → IfOk r (λ lines. GivesFeature lines s (commanded above s) (valued above s))
gives_feature above s entries declared b label r is shut some named k clash h =
    subst (λ (v : Statement). IfOk r (λ lines. GivesFeature lines s (commanded above s) v)) (feature_is above s entries declared b label is shut some named k clash) h

pub readable : {E : Type 0} (s other v : Statement) (r : Result (Option FeatureLines) E) → IfOk r (λ lines. GivesFeature lines s other v)
    → IfOk r (λ lines. IfSome lines (λ f. AreRead f))
readable s other v (Ok None) h = tt
readable s other v (Ok (Some f)) h = ((_, h.named), (_, h.read))
readable s other v (Err e) h = tt

-- and what is made of both statements
pub labelled_is : (s v named read : Statement) (label line : List ℕ) (f : IsFeature label line s v)
    → named ≡ record { line = s.line; label = None; word = f.name; params = [] }
    → read ≡ record { line = s.line; label = None; word = s.word; params = f.params } → ◌≡◌ {A = Statement} (record read { label = Some named.word }) v
labelled_is s v named read label line f h g =
    ap (λ (x : Statement). record read { label = Some x.word }) h ∙ (ap (λ (x : Statement). record x { label = Some f.name }) g ∙ sym f.is)

pub valued_line : (above : List Statement) (s : Statement) → (valued above s).line ≡ s.line
valued_line above s = go (feature_label above s s.label)
  where
    go : (o : Option (List ℕ)) → (valued_as above s o).line ≡ s.line
    go None = same_place s (new_params above s)
    go (Some label) = refl
