-- Lists of calls: first in, first out.
use Rattle.std.proofs.Common.{◌≡◌, List, [], ◌∷◌, ◌++◌, sym, ◌∙◌, ap, append_assoc}
use Rattle.std.proofs.lemmas.List.{append-nil}
use Rattle.protocol_model.specs.declared.lines.Waiting.{Waiting}
use Rattle.command_queue.specs.Calls.{Call, Put, Full, Took, TookNone, Drained, Do, put_by, taken_by}

-- what waited and what calls put, in order, is what they took and what waits then
pub in_order : (calls : List Call) (before after : List Waiting) → Do before calls after → before ++ put_by calls ≡ taken_by calls ++ after
in_order [] before after d = append-nil before ∙ d
in_order (Put w ∷ calls) before after (between, (d, more)) =
    sym (append_assoc before (w ∷ []) (put_by calls)) ∙ (ap (λ (l : List Waiting). l ++ put_by calls) (sym d.1)
    ∙ in_order calls between after more)
in_order (Full w ∷ calls) before after (between, (d, more)) =
    ap (λ (l : List Waiting). l ++ put_by calls) (sym d.1) ∙ in_order calls between after more
in_order (Took w ∷ calls) before after (between, (d, more)) =
    ap (λ (l : List Waiting). l ++ put_by calls) d ∙ ap (λ (l : List Waiting). w ∷ l) (in_order calls between after more)
in_order (TookNone ∷ calls) before after (between, (d, more)) =
    ap (λ (l : List Waiting). l ++ put_by calls) (d.0 ∙ sym d.1) ∙ in_order calls between after more
in_order (Drained ws ∷ calls) before after (between, (d, more)) =
    let rest : put_by calls ≡ taken_by calls ++ after = ap (λ (l : List Waiting). l ++ put_by calls) (sym d.1)
    ∙ in_order calls between after more in
    ap (λ (l : List Waiting). l ++ put_by calls) (sym d.0) ∙ (ap (λ (l : List Waiting). ws ++ l) rest
    ∙ sym (append_assoc ws (taken_by calls) after))

pub first_in_first_out : (calls : List Call) (after : List Waiting) → Do [] calls after → put_by calls ≡ taken_by calls ++ after
first_in_first_out calls after d = in_order calls [] after d
