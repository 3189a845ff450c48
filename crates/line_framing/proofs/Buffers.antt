-- How positions in a rest relate to what is at its front.
use Rattle.line_framing.proofs.Names.{◌++◌, ◌+◌, ◌∙◌, ◌∷◌, ◌≡◌, ◌≤◌, ap, arith, behind_content, Bool, content_len, content_of, drop, drop-drop, Err}
use Rattle.line_framing.proofs.Names.{false, FramingFault, is_content, IsLine, length, length-append, length-drop, length-take, List, next_of, Ok}
use Rattle.line_framing.proofs.Names.{prefix_len-le-length, Result, Some, subst, sym, take, true, verdict, ℕ}
use Rattle.line_framing.specs.Buffer.{HasFront, HasVerdict}
use Rattle.line_framing.proofs.Cuts.{prefix_len_from, prefix_len-le-append}
use Rattle.line_framing.proofs.FirstLine.{found}

-- a search that continues ends where one from the start would
pub search_goes_on : (rest : List ℕ) (searched : ℕ) → searched ≤ content_len rest
    → searched + content_len (drop searched rest) ≡ content_len rest
search_goes_on rest searched known =
    let all = prefix_len_from is_content searched rest known in
    omega (arith, known, all)

-- a content ends within its bytes
pub content_fits : (rest : List ℕ) → content_len rest ≤ length rest
content_fits rest = prefix_len-le-length is_content rest

-- a line that is at the start of a rest, by its length, has its end there
pub line_fits : (rest : List ℕ) (n : ℕ) → next_of rest ≡ Ok (Some (take n rest, drop (n + 2) rest)) → n + 2 ≤ length rest
line_fits rest n next =
    let f = found rest (take n rest) (drop (n + 2) rest) next in
    let count = ap length f.parts ∙ length-append (take n rest) (13 ∷ 10 ∷ drop (n + 2) rest) in
    omega (arith, count, length-take n rest, length-drop (n + 2) rest)

-- a line that is found, by its places
whole : (rest : List ℕ) (end : ℕ) (content behind : List ℕ) → content ≡ take end rest → drop 2 behind ≡ drop (end + 2) rest
    → next_of rest ≡ Ok (Some (content, drop 2 behind)) → HasFront rest end (Ok true)
whole rest end content behind ec left next =
    let here : next_of rest ≡ Ok (Some (take end rest, drop (end + 2) rest)) = next
    ∙ (ap (λ (l : List ℕ). Ok (Some (l, drop 2 behind))) ec ∙ ap (λ (l : List ℕ). Ok (Some (take end rest, l))) left) in
    let f = found rest content (drop 2 behind) next in
    (here, subst IsLine ec f.is_line, line_fits rest end here)

-- what the two parts of the rest are is what is at its front
pub has_front : (rest : List ℕ) (end : ℕ) (content behind : List ℕ) (r : Result Bool FramingFault) → end ≡ content_len rest
    → content ≡ take end rest → behind ≡ drop end rest → HasVerdict content behind r → HasFront rest end r
has_front rest end content behind r n ec eb h =
    let front : content ≡ content_of rest = ec ∙ ap (λ (k : ℕ). take k rest) n in
    let back : behind ≡ behind_content rest = eb ∙ ap (λ (k : ℕ). drop k rest) n in
    let same : next_of rest ≡ verdict content behind = sym (ap (λ (l : List ℕ). verdict l behind) front
    ∙ ap (λ (l : List ℕ). verdict (content_of rest) l) back) in
    let left : drop 2 behind ≡ drop (end + 2) rest = ap (drop 2) eb ∙ drop-drop 2 end rest in
    elim r as (λ (v : Result Bool FramingFault). HasVerdict content behind v → HasFront rest end v) [
      | Ok b ↦ elim b as (λ (t : Bool). HasVerdict content behind (Ok t) → HasFront rest end (Ok t)) [
        | true ↦ λ g. whole rest end content behind ec left (same ∙ g)
        | false ↦ λ g. same ∙ g
      ]
      | Err fault ↦ λ g. same ∙ g
    ] h

-- a longer rest keeps what is known of its front
pub longer_content : (rest piece : List ℕ) (searched : ℕ) → searched ≤ content_len rest → searched ≤ content_len (rest ++ piece)
longer_content rest piece searched known = omega (arith, known, prefix_len-le-append is_content rest piece)
