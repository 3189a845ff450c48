use Rattle.record_text.proofs.Names.{[], ◌++◌, ◌+◌, ◌<◌, ◌∙◌, ◌∷◌, ◌≡◌, ap, get_or, last_frame, length, List, refl, sym, take, take_more, Touch, ℕ}
use Rattle.record_text.proofs.runs.last_frame.Goals as goal

last_more : (ts : List Touch) (t : Touch) → last_frame (ts ++ t ∷ []) ≡ t.frame
last_more [] t = refl
last_more (x ∷ []) t = refl
last_more (x ∷ y ∷ ts) t = last_more (y ∷ ts) t

last_taken : (n : ℕ) (ts : List Touch) (t : Touch) → n < length ts → t ≡ get_or ts n t → t.frame ≡ last_frame (take (n + 1) ts)
last_taken n ts t h e = ap (λ (x : Touch). x.frame) e ∙ sym (last_more (take n ts) (get_or ts n t))
    ∙ ap (λ (xs : List Touch). last_frame xs) (sym (take_more ts n t h))

pub loop-touch-preserved : goal.loop-touch-preserved
loop-touch-preserved c = last_taken c.loop-touch.touch-index c.args.touches.now c.touch-item.result c.loop-touch-test.true c.touch-item.is
