use Rattle.std.proofs.Common.{◌++◌, ◌-◌, ◌∙◌, ◌≡◌, ap, arith, drop, length, length-append, List, subst, sym, take-append-drop, true≢false, ℕ}
use Rattle.std.proofs.lemmas.List.{append_cancel_right}
use Rattle.std.proofs.lemmas.Slice.Eq.{bytes_eq-Decides}
use Rattle.std.proofs.Math.Seq.{drop-append_seam}
use Rattle.effects.proofs.called.is_with.Goals as goal

-- what is left of a text with this ending is the ending
drop_name : (name ending : List ℕ) → drop (length (name ++ ending) - length ending) (name ++ ending) ≡ ending
drop_name name ending =
    let count = length-append name ending in
    let front : length (name ++ ending) - length ending ≡ length name = omega (arith, count) in
    ap (λ n. drop n (name ++ ending)) front ∙ drop-append_seam name ending

pub returns-in-None : goal.returns-in-None
returns-in-None c = (
  λ t. absurd (true≢false (sym t)),
  λ e. absurd (true≢false (sym ((bytes_eq-Decides (drop (length c.args.longer.now - length c.args.ending.now) c.args.longer.now) c.args.ending.now).1
      (subst (λ (l : List ℕ). drop (length l - length c.args.ending.now) l ≡ c.args.ending.now) (sym e) (drop_name c.args.name.now c.args.ending.now)))
      ∙ c.in-None.ensures.cases)),
)

pub returns-in-Some : goal.returns-in-Some
returns-in-Some c =
    let longer = c.args.longer.now in
    let name = c.args.name.now in
    let ending = c.args.ending.now in
    let front = c.in-Some.front.now in
    let n = length longer - length ending in
    let parts : longer ≡ front ++ ending =
    sym (take-append-drop n longer) ∙ ap (λ x. x ++ drop n longer) (sym c.in-Some.ensures.cases.1)
    ∙ ap (λ x. front ++ x) ((bytes_eq-Decides (drop n longer) ending).0 c.in-Some.ensures.cases.0) in (
      λ t. parts ∙ ap (λ x. x ++ ending) ((bytes_eq-Decides front name).0 (sym c.eq.ensures ∙ t)),
      λ e. c.eq.ensures ∙ (bytes_eq-Decides front name).1 (append_cancel_right front name ending (sym parts ∙ e)),
    )
