-- The lines that a server answers, put together from their parts.
use Rattle.server_core.proofs.Names.{[], ◌++◌, ◌∙◌, ◌∷◌, ◌≡◌, ap, append_assoc, Event, List, Point, Reply, reply_bytes, Std, Tag, written_tag, ℕ}
use Rattle.dme_line.specs.Points.{written_point}
use Rattle.server_core.proofs.Aborting.{said_then}
use Rattle.protocol_model.specs.declared.held.Datum.{Datum}

-- a text and what follows it, appended one after the other
two_parts : (out mid done text end : List ℕ) → mid ≡ out ++ text → done ≡ mid ++ end → done ≡ out ++ (text ++ end)
two_parts out mid done text end a b = b ∙ (ap (λ (l : List ℕ). l ++ end) a ∙ append_assoc out text end)

received_bytes : (text : List ℕ) (t : Tag) → text ≡ written_tag t → text ++ 32 ∷ 38 ∷ 13 ∷ 10 ∷ [] ≡ reply_bytes (Reply.Ack t ∷ [])
received_bytes text (Std n) e = ap (λ (l : List ℕ). l ++ 32 ∷ 38 ∷ 13 ∷ 10 ∷ []) e
received_bytes text (Event n) e = ap (λ (l : List ℕ). l ++ 32 ∷ 38 ∷ 13 ∷ 10 ∷ []) e

complete_bytes : (text : List ℕ) (t : Tag) → text ≡ written_tag t → text ++ 32 ∷ 37 ∷ 13 ∷ 10 ∷ [] ≡ reply_bytes (Reply.Done t ∷ [])
complete_bytes text (Std n) e = ap (λ (l : List ℕ). l ++ 32 ∷ 37 ∷ 13 ∷ 10 ∷ []) e
complete_bytes text (Event n) e = ap (λ (l : List ℕ). l ++ 32 ∷ 37 ∷ 13 ∷ 10 ∷ []) e

point_bytes : (text : List ℕ) (t : Tag) (p : Point) → text ≡ written_tag t
    → text ++ 32 ∷ 35 ∷ 32 ∷ (written_point p ++ 13 ∷ 10 ∷ []) ≡ reply_bytes (Reply.Given t (Datum.Point p) ∷ [])
point_bytes text (Std n) p e = ap (λ (l : List ℕ). l ++ 32 ∷ 35 ∷ 32 ∷ (written_point p ++ 13 ∷ 10 ∷ [])) e
point_bytes text (Event n) p e = ap (λ (l : List ℕ). l ++ 32 ∷ 35 ∷ 32 ∷ (written_point p ++ 13 ∷ 10 ∷ [])) e

pub received_says : (out mid done text : List ℕ) (t : Tag) → mid ≡ out ++ text → done ≡ mid ++ 32 ∷ 38 ∷ 13 ∷ 10 ∷ []
    → text ≡ written_tag t → done ≡ out ++ reply_bytes (Reply.Ack t ∷ [])
received_says out mid done text t a b e = two_parts out mid done text (32 ∷ 38 ∷ 13 ∷ 10 ∷ []) a b
    ∙ ap (λ (l : List ℕ). out ++ l) (received_bytes text t e)

pub complete_says : (out mid done text : List ℕ) (t : Tag) → mid ≡ out ++ text → done ≡ mid ++ 32 ∷ 37 ∷ 13 ∷ 10 ∷ []
    → text ≡ written_tag t → done ≡ out ++ reply_bytes (Reply.Done t ∷ [])
complete_says out mid done text t a b e = two_parts out mid done text (32 ∷ 37 ∷ 13 ∷ 10 ∷ []) a b
    ∙ ap (λ (l : List ℕ). out ++ l) (complete_bytes text t e)

pub point_says : (out tagged spaced marked opened given done text : List ℕ) (t : Tag) (p : Point) → tagged ≡ out ++ text
    → spaced ≡ tagged ++ 32 ∷ [] → marked ≡ spaced ++ 35 ∷ [] → opened ≡ marked ++ 32 ∷ [] → given ≡ opened ++ written_point p
    → done ≡ given ++ 13 ∷ 10 ∷ [] → text ≡ written_tag t → done ≡ out ++ reply_bytes (Reply.Given t (Datum.Point p) ∷ [])
point_says out tagged spaced marked opened given done text t p a b c d g h e =
    let rest : List ℕ = written_point p ++ 13 ∷ 10 ∷ [] in
    let last : done ≡ opened ++ rest = two_parts opened given done (written_point p) (13 ∷ 10 ∷ []) g h in
    let third : done ≡ marked ++ 32 ∷ rest = two_parts marked opened done (32 ∷ []) rest d last in
    let second : done ≡ spaced ++ 35 ∷ 32 ∷ rest = two_parts spaced marked done (35 ∷ []) (32 ∷ rest) c third in
    let first : done ≡ tagged ++ 32 ∷ 35 ∷ 32 ∷ rest = two_parts tagged spaced done (32 ∷ []) (35 ∷ 32 ∷ rest) b second in
    two_parts out tagged done text (32 ∷ 35 ∷ 32 ∷ rest) a first ∙ ap (λ (l : List ℕ). out ++ l) (point_bytes text t p e)

pub touched_says : (out given done : List ℕ) (t : Tag) (p : Point) → given ≡ out ++ reply_bytes (Reply.Given t (Datum.Point p) ∷ [])
    → done ≡ given ++ reply_bytes (Reply.Done t ∷ [])
    → done ≡ out ++ reply_bytes (Reply.Given t (Datum.Point p) ∷ Reply.Done t ∷ [])
touched_says out given done t p a b = said_then out given done (Reply.Given t (Datum.Point p) ∷ []) (Reply.Done t ∷ []) a b
