-- The lines of what waits, one command after another.
use Rattle.server_core.proofs.Names.{[], ◌++◌, ◌∙◌, ◌∷◌, ◌≡◌, all_fail, ap, append_assoc, fails, kind_in, length, Line, List, Option, Reply}
use Rattle.server_core.proofs.Names.{reply_bytes, running_fails, suc, sym, Tag, Waiting, ℕ}
use Rattle.protocol_model.proofs.written_lines.Writable.{reply_bytes_more}

pub aborted_more : (out more done : List ℕ) (ws rest : List Waiting) (w : Waiting) → ws ≡ w ∷ rest
    → more ≡ out ++ reply_bytes (fails w.tag 9007 (kind_in w.reading)) → out ++ reply_bytes (all_fail 9007 ws) ≡ done
    → more ++ reply_bytes (all_fail 9007 rest) ≡ done
aborted_more out more done ws rest w is wrote whole =
    ap (λ (xs : List ℕ). xs ++ reply_bytes (all_fail 9007 rest)) wrote
    ∙ (append_assoc out (reply_bytes (fails w.tag 9007 (kind_in w.reading))) (reply_bytes (all_fail 9007 rest))
    ∙ (ap (λ (xs : List ℕ). out ++ xs) (sym (reply_bytes_more (fails w.tag 9007 (kind_in w.reading)) (all_fail 9007 rest)))
    ∙ (ap (λ (xs : List Waiting). out ++ reply_bytes (all_fail 9007 xs)) (sym is) ∙ whole)))

pub one_less : (ws rest : List Waiting) (w : Waiting) → ws ≡ w ∷ rest → length ws ≡ suc (length rest)
one_less ws rest w is = ap length is

-- what is said first, and what then
pub said_then : (out more last : List ℕ) (first then : List Reply) → more ≡ out ++ reply_bytes first → last ≡ more ++ reply_bytes then
    → last ≡ out ++ reply_bytes (first ++ then)
said_then out more last first then a b =
    b ∙ (ap (λ (xs : List ℕ). xs ++ reply_bytes then) a
    ∙ (append_assoc out (reply_bytes first) (reply_bytes then) ∙ ap (λ (xs : List ℕ). out ++ xs) (sym (reply_bytes_more first then))))

pub abort_said : (out received stopped emptied done : List ℕ) (t : Tag) (running : Option Line) (ws : List Waiting)
    → received ≡ out ++ reply_bytes (Reply.Ack t ∷ [])
    → stopped ≡ received ++ reply_bytes (running_fails running)
    → emptied ≡ stopped ++ reply_bytes (all_fail 9007 ws)
    → done ≡ emptied ++ reply_bytes (Reply.Done t ∷ [])
    → done ≡ out ++ reply_bytes (Reply.Ack t ∷ (running_fails running ++ (all_fail 9007 ws ++ Reply.Done t ∷ [])))
abort_said out received stopped emptied done t running ws a b c d =
    said_then out received done (Reply.Ack t ∷ []) (running_fails running ++ (all_fail 9007 ws ++ Reply.Done t ∷ [])) a
    (said_then received stopped done (running_fails running) (all_fail 9007 ws ++ Reply.Done t ∷ []) b
    (said_then stopped emptied done (all_fail 9007 ws) (Reply.Done t ∷ []) c d))
