-- Lines that are cut off bytes.
use Rattle.witness.proofs.Names.{[], ◌++◌, ◌<◌, ◌∙◌, ◌∷◌, ◌≡◌, ap, append-nil, append_assoc, arith, Err, fault_in, FramingFault, Front, IfOk, IsNone}
use Rattle.witness.proofs.Names.{IsStream, length, length-append, List, next_of, None, Ok, Option, refl, Some, subst, sym, ℕ}
use Rattle.line_framing.proofs.FirstLine.{found}
use Rattle.line_framing.proofs.Streams.{stream_end, stream_more}

-- what is left after a line is shorter
pub shorter : (bytes line rest : List ℕ) → next_of bytes ≡ Ok (Some (line, rest)) → length rest < length bytes
shorter bytes line rest next =
    let f = found bytes line rest next in
    let count = ap length f.parts ∙ length-append line (13 ∷ 10 ∷ rest) in
    omega (arith, count)

-- one line more is cut off
pub cut_more : (bytes here line left : List ℕ) (so_far : List (List ℕ)) → next_of here ≡ Ok (Some (line, left))
    → ((lines : List (List ℕ)) (rest : List ℕ) (fault : Option FramingFault) → IsStream here lines rest fault
    → IsStream bytes (so_far ++ lines) rest fault)
    → (lines : List (List ℕ)) (rest : List ℕ) (fault : Option FramingFault) → IsStream left lines rest fault
    → IsStream bytes ((so_far ++ line ∷ []) ++ lines) rest fault
cut_more bytes here line left so_far next before lines rest fault stream =
    subst (λ (all : List (List ℕ)). IsStream bytes all rest fault) (sym (append_assoc so_far (line ∷ []) lines))
    (before (line ∷ lines) rest fault (stream_more here line left rest lines fault next stream))

-- no whole line is left
pub cut_end : (bytes here : List ℕ) (so_far : List (List ℕ)) → next_of here ≡ Ok None
    → ((lines : List (List ℕ)) (rest : List ℕ) (fault : Option FramingFault) → IsStream here lines rest fault
    → IsStream bytes (so_far ++ lines) rest fault)
    → IsStream bytes so_far here None
cut_end bytes here so_far next before =
    subst (λ (f : Option FramingFault). IsStream bytes so_far here f) (ap fault_in next)
    (subst (λ (all : List (List ℕ)). IsStream bytes all here (fault_in (next_of here))) (append-nil so_far)
    (before [] here (fault_in (next_of here)) (stream_end here (subst (λ (r : Front). IfOk r IsNone) (sym next) refl))))

-- what is left is not a line
pub cut_fault : (bytes here : List ℕ) (so_far : List (List ℕ)) (why : FramingFault) → next_of here ≡ Err why
    → ((lines : List (List ℕ)) (rest : List ℕ) (fault : Option FramingFault) → IsStream here lines rest fault
    → IsStream bytes (so_far ++ lines) rest fault)
    → IsStream bytes so_far here (Some why)
cut_fault bytes here so_far why next before =
    subst (λ (f : Option FramingFault). IsStream bytes so_far here f) (ap fault_in next)
    (subst (λ (all : List (List ℕ)). IsStream bytes all here (fault_in (next_of here))) (append-nil so_far)
    (before [] here (fault_in (next_of here)) (stream_end here (subst (λ (r : Front). IfOk r IsNone) (sym next) tt))))
