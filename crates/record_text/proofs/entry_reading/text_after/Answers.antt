use Rattle.record_text.proofs.Names.{[], ◌++◌, ◌∙◌, ◌∷◌, ◌≡◌, ap, List, sym, ℕ}
use Rattle.record_text.proofs.RecordFields.{append_same, tail_found}
use Rattle.record_text.proofs.entry_reading.text_after.Goals as goal

pub returns-in_default-after_prefix : goal.returns-in_default-after_prefix
returns-in_default-after_prefix c rest e =
    let behind : List ℕ = 32 ∷ (c.args.word.now ++ 32 ∷ rest) in
    let after : c.in-Some.rest.now ≡ behind = append_same c.args.number.now c.in-Some.rest.now behind (sym c.in-Some.ensures ∙ e) in
    c.in_default-after_prefix.ensures (c.args.word.now ++ 32 ∷ rest)
    (after ∙ ap (λ (p : List ℕ). p ++ (c.args.word.now ++ 32 ∷ rest)) (sym c.as_slice.ensures))

pub returns-in_default-after_prefix-2 : goal.returns-in_default-after_prefix-2
returns-in_default-after_prefix-2 c rest e =
    let behind : List ℕ = 32 ∷ (c.args.word.now ++ 32 ∷ rest) in
    let after : c.in-Some.rest.now ≡ behind = append_same c.args.number.now c.in-Some.rest.now behind (sym c.in-Some.ensures ∙ e) in
    let found : c.in-Some.rest.now ≡ 32 ∷ c.in-Some-after_prefix.rest.now = c.in-Some-after_prefix.ensures
    ∙ ap (λ (p : List ℕ). p ++ c.in-Some-after_prefix.rest.now) c.as_slice.ensures in
    let word : c.in-Some-after_prefix.rest.now ≡ c.args.word.now ++ 32 ∷ rest = append_same (32 ∷ []) _ _ (sym found ∙ after) in
    c.in_default-after_prefix-2.ensures (32 ∷ rest) word

pub returns : goal.returns
returns c =
    let found : c.in-Some.rest.now ≡ 32 ∷ c.in-Some-after_prefix.rest.now = c.in-Some-after_prefix.ensures
    ∙ ap (λ (p : List ℕ). p ++ c.in-Some-after_prefix.rest.now) c.as_slice.ensures in
    tail_found (λ x. x.now) c.args.line.now c.args.number.now c.in-Some.rest.now c.in-Some-after_prefix.rest.now c.args.word.now
    c.in-Some-after_prefix-2.rest.now _ c.as_slice-2.ensures c.in-Some.ensures found c.in-Some-after_prefix-2.ensures c.after_prefix-4.result
    c.after_prefix-4.ensures
