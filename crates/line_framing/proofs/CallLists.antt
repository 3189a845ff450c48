-- Lists of calls on one buffer: nothing that was fed is lost, and the pieces do not matter.
use Rattle.line_framing.proofs.Names.{[], ◌++◌, ◌∙◌, ◌∷◌, ◌≡◌, ap, append-nil, append_assoc, Err, fault_in, FramingFault, Front, IsStream, line_bytes}
use Rattle.line_framing.proofs.Names.{List, next_of, None, Ok, Option, refl, Some, subst, sym, ℕ}
use Rattle.line_framing.specs.Framing.{Framing, left_by, no_bytes}
use Rattle.line_framing.specs.Calls.{after_calls, Ask, bytes_fed, Call, Feed, handed_out, IsAccounted, line_in, NoLineLeft}
use Rattle.line_framing.proofs.FirstLine.{found, fault_stays}
use Rattle.line_framing.proofs.Streams.{one_stream, stream_end}

abbrev at : List ℕ → Option FramingFault → Framing
at rest fault = record { rest = rest; fault = fault }

-- after a fault nothing happens any more
stuck_by : (rest : List ℕ) (fault : FramingFault) (front : Front) → front ≡ Err fault
    → (left_by front (at rest (Some fault)) ≡ at rest (Some fault)) × (line_in front ≡ [])
stuck_by rest fault (Ok found) h = absurd (cc)
stuck_by rest fault (Err other) h =
    let same : other ≡ fault = cc in
    (ap (λ (f : FramingFault). at rest (Some f)) same, refl)

stuck : (rest : List ℕ) (fault : FramingFault) (calls : List Call) → next_of rest ≡ Err fault
    → (after_calls (at rest (Some fault)) calls ≡ at rest (Some fault)) × (handed_out (at rest (Some fault)) calls ≡ [])
stuck rest fault [] h = (refl, refl)
stuck rest fault (Feed piece ∷ calls) h = stuck rest fault calls h
stuck rest fault (Ask ∷ calls) h =
    let here = stuck_by rest fault (next_of rest) h in
    let later = stuck rest fault calls h in (
      ap (λ (f : Framing). after_calls f calls) here.0 ∙ later.0,
      ap (λ (ls : List (List ℕ)). ls ++ handed_out (left_by (next_of rest) (at rest (Some fault))) calls) here.1
          ∙ (ap (λ (f : Framing). handed_out f calls) here.0 ∙ later.1),
    )

stuck_accounted : (rest : List ℕ) (fault : FramingFault) (calls : List Call) → next_of rest ≡ Err fault
    → IsAccounted (rest ++ bytes_fed calls) (handed_out (at rest (Some fault)) calls) (after_calls (at rest (Some fault)) calls)
stuck_accounted rest fault calls h =
    let end = stuck rest fault calls h in
    rw (end.0, end.1) (record {
      refused = bytes_fed calls;
      parts = refl;
      whole = tt;
      taken = λ e. absurd (cc);
      sound = record { kept = λ other e. let same : fault ≡ other = cc in h ∙ ap (λ (f : FramingFault). Err f) same };
    })

-- the bytes fed are the lines handed out and the rest, call by call
asked : (rest : List ℕ) (calls : List Call) (front : Front) → next_of rest ≡ front
    → ((r : List ℕ) → IsAccounted (r ++ bytes_fed calls) (handed_out (at r None) calls) (after_calls (at r None) calls))
    → IsAccounted (rest ++ bytes_fed calls) (line_in front ++ handed_out (left_by front (at rest None)) calls)
    (after_calls (left_by front (at rest None)) calls)
asked rest calls (Ok None) h later = later rest
asked rest calls (Ok (Some (line, left))) h later =
    let f = found rest line left h in
    let a = later left in
    let front : rest ++ bytes_fed calls ≡ line ++ 13 ∷ 10 ∷ (left ++ bytes_fed calls) = ap (λ (l : List ℕ). l ++ bytes_fed calls) f.parts
    ∙ append_assoc line (13 ∷ 10 ∷ left) (bytes_fed calls) in
    record {
      refused = a.refused;
      parts = front ∙ (ap (λ (l : List ℕ). line ++ 13 ∷ 10 ∷ l) a.parts
          ∙ sym (append_assoc line (13 ∷ 10 ∷ line_bytes (handed_out (at left None) calls)) ((after_calls (at left None) calls).rest
          ++ a.refused)));
      whole = (f.is_line, a.whole);
      taken = a.taken;
      sound = a.sound;
    }
asked rest calls (Err fault) h later = stuck_accounted rest fault calls h

accounted : (calls : List Call) (rest : List ℕ) → IsAccounted (rest ++ bytes_fed calls) (handed_out (at rest None) calls)
    (after_calls (at rest None) calls)
accounted [] rest = record { refused = []; parts = refl; whole = tt; taken = λ e. refl; sound = record { kept = λ fault e. absurd (cc) } }
accounted (Feed piece ∷ calls) rest =
    subst (λ (l : List ℕ). IsAccounted l (handed_out (at (rest ++ piece) None) calls) (after_calls (at (rest ++ piece) None) calls))
    (append_assoc rest piece (bytes_fed calls)) (accounted calls (rest ++ piece))
accounted (Ask ∷ calls) rest = asked rest calls (next_of rest) refl (accounted calls)

pub nothing_is_lost : (calls : List Call) → IsAccounted (bytes_fed calls) (handed_out no_bytes calls) (after_calls no_bytes calls)
nothing_is_lost calls = accounted calls []

-- what was refused after a fault does not change what is at the front
same_front : (rest refused : List ℕ) (fault : Option FramingFault) → (fault ≡ None → refused ≡ [])
    → ((f : FramingFault) → fault ≡ Some f → next_of rest ≡ Err f) → next_of (rest ++ refused) ≡ next_of rest
same_front rest refused None taken kept = ap (λ (l : List ℕ). next_of (rest ++ l)) (taken refl) ∙ ap next_of (append-nil rest)
same_front rest refused (Some f) taken kept = fault_stays rest refused f (kept f refl) ∙ sym (kept f refl)

accounted_stream : (bytes : List ℕ) (lines : List (List ℕ)) (left : Framing) (a : IsAccounted bytes lines left) → NoLineLeft left
    → IsStream bytes lines (left.rest ++ a.refused) (fault_in (next_of left.rest))
accounted_stream bytes lines left a none =
    let same = same_front left.rest a.refused left.fault a.taken a.sound.kept in
    let end = stream_end (left.rest ++ a.refused) (rw same none) in
    record { parts = a.parts; whole = a.whole; no_more = end.no_more; faulty = ap fault_in (sym same) ∙ end.faulty }

-- where no line is left, the lines handed out are those of the bytes fed, and the fault is theirs
pub handed_out_all : (calls : List Call) → NoLineLeft (after_calls no_bytes calls) → (rest : List ℕ)
    × IsStream (bytes_fed calls) (handed_out no_bytes calls) rest (fault_in (next_of (after_calls no_bytes calls).rest))
handed_out_all calls none =
    let a = nothing_is_lost calls in
    ((after_calls no_bytes calls).rest ++ a.refused, accounted_stream _ _ (after_calls no_bytes calls) a none)

-- so the pieces do not matter
pub same_lines : (calls others : List Call) → bytes_fed calls ≡ bytes_fed others → NoLineLeft (after_calls no_bytes calls)
    → NoLineLeft (after_calls no_bytes others) → (handed_out no_bytes calls ≡ handed_out no_bytes others)
    × (fault_in (next_of (after_calls no_bytes calls).rest) ≡ fault_in (next_of (after_calls no_bytes others).rest))
same_lines calls others e h g =
    let left = handed_out_all calls h in
    let right = handed_out_all others g in
    let same = one_stream (bytes_fed others) _ _ _ _ _ _ (subst
    (λ (l : List ℕ). IsStream l (handed_out no_bytes calls) left.0 (fault_in (next_of (after_calls no_bytes calls).rest))) e left.1)
    right.1 in
    (same.lines_are, same.faults_are)
