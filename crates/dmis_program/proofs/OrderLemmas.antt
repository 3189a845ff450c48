-- The first statement that is refused decides, and after the end nothing is read.
use Rattle.dmis_program.proofs.Names.{[], ◌++◌, ◌∷◌, ◌≡◌, closes, context_at, ended, Err, judged, length, List, Ok, Option, Point, refl, Refusal}
use Rattle.dmis_program.proofs.Names.{Statement, StatementMeaning, steps_from, TextFault, true, ℕ}
use Rattle.dmis_program.specs.Order.{above_behind, AreRead, steps_along}

pub refused_behind : (frames : List (List ℕ × Point)) (fault : Option TextFault) (lines : ℕ) (above front : List Statement) (s : Statement)
    (behind : List Statement) (refusal : Refusal) → AreRead frames above front
    → judged frames (context_at frames (above_behind above front)) s ≡ Err refusal
    → steps_from frames fault lines above (front ++ s ∷ behind) ≡ Err (refusal, s.line)
refused_behind frames fault lines above [] s behind refusal h e = rw e refl
refused_behind frames fault lines above (f ∷ front) s behind refusal h e =
    rw (h.0.1, h.0.2, refused_behind frames fault lines (f ∷ above) front s behind refusal h.1 e) refl

pub endless_behind : (frames : List (List ℕ × Point)) (fault : Option TextFault) (lines : ℕ) (above statements : List Statement)
    → AreRead frames above statements → steps_from frames fault lines above statements
    ≡ Err (ended fault (length (above_behind above statements)) lines)
endless_behind frames fault lines above [] h = refl
endless_behind frames fault lines above (f ∷ statements) h =
    rw (h.0.1, h.0.2, endless_behind frames fault lines (f ∷ above) statements h.1) refl

pub accepted_behind : (frames : List (List ℕ × Point)) (fault : Option TextFault) (lines : ℕ) (above front : List Statement) (s : Statement)
    (behind : List Statement) (said : StatementMeaning) → AreRead frames above front
    → judged frames (context_at frames (above_behind above front)) s ≡ Ok said → closes said ≡ true
    → steps_from frames fault lines above (front ++ s ∷ behind) ≡ Ok (steps_along frames above front)
accepted_behind frames fault lines above [] s behind said h e end = rw (e, end) refl
accepted_behind frames fault lines above (f ∷ front) s behind said h e end =
    rw (h.0.1, h.0.2, accepted_behind frames fault lines (f ∷ above) front s behind said h.1 e end) refl
