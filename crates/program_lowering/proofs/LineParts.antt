-- Lines are written part by part.
use Rattle.program_lowering.proofs.Names.{[], ◌++◌, ◌∙◌, ◌∷◌, ◌≡◌, after_word, ap, append-nil, append_assoc, as_read, Bool, Choices, codes, decimal}
use Rattle.program_lowering.proofs.Names.{encode_lower, ended_lines, false, Flat, flat_line, flat_text, head_lines}
use Rattle.program_lowering.proofs.Names.{is_some, line_for, List, marked, Names, None, note_for, note_start}
use Rattle.program_lowering.proofs.Names.{Option, options_text, Reason, refl, setup_name, shown_name, Some, Statement}
use Rattle.program_lowering.proofs.Names.{map, sym, text_for, true, with_commas, ℕ}
use Rattle.program_lowering.specs.Heads.{value_line}
use Rattle.program_lowering.specs.Prompts.{Answer}
use Rattle.program_lowering.specs.Flats.{with_pass}
use Rattle.sha2.specs.Sha256.{sha256}
use Rattle.program_lowering.specs.Lowering.{ended}
use Rattle.program_lowering.specs.Reasons.{detail, joint, reason_text}

pub line_none : (line pass : ℕ) (o : Option Flat) (old : List ℕ) (written : Bool) → written ≡ is_some o → written ≡ false
    → old ≡ old ++ ended_lines (line_for line pass o)
line_none line pass None old written e h = sym (append-nil old)
line_none line pass (Some f) old written e h = let both : true ≡ false = sym e ∙ h in absurd cc

pub line_some : (line pass : ℕ) (o : Option Flat) (old text whole made most new : List ℕ) (written : Bool) → written ≡ is_some o → written ≡ true
    → text ≡ text_for o → whole ≡ text ++ (codes " $$ line " ++ decimal line) → made ≡ with_pass whole pass → most ≡ old ++ made → new ≡ most ++ 10 ∷ []
    → new ≡ old ++ ended_lines (line_for line pass o)
line_some line pass None old text whole made most new written e h t a b c d = let both : false ≡ true = sym e ∙ h in absurd cc
line_some line pass (Some f) old text whole made most new written e h t a b c d =
    rw (d, c, b, a, t, append-nil (with_pass (flat_line f line) pass ++ 10 ∷ [])) (append_assoc old (with_pass (flat_line f line) pass) (10 ∷ []))

-- a note
pub note_is : (s : Statement) (reason : Reason) (old start mark shown told new : List ℕ) → start ≡ old ++ note_start s
    → mark ≡ start ++ joint reason → shown ≡ mark ++ reason_text reason → told ≡ shown ++ detail reason s.params
    → new ≡ told ++ 10 ∷ [] → new ≡ old ++ note_for s (Some reason)
note_is s reason old start mark shown told new a b c d e =
    rw (
      e,
      d,
      c,
      b,
      a,
      append_assoc old (note_start s) (joint reason),
      append_assoc old (note_start s ++ joint reason) (reason_text reason),
      append_assoc old ((note_start s ++ joint reason) ++ reason_text reason) (detail reason s.params),
      append_assoc old (((note_start s ++ joint reason) ++ reason_text reason) ++ detail reason s.params) (10 ∷ []),
      append_assoc (note_start s) (joint reason) (reason_text reason),
      append_assoc (note_start s) (joint reason ++ reason_text reason) (detail reason s.params),
      append_assoc (joint reason) (reason_text reason) (detail reason s.params),
      append_assoc (note_start s) (joint reason ++ (reason_text reason ++ detail reason s.params)) (10 ∷ []),
    )
    refl

-- the head
six : (a b c d e f : List ℕ) → (((((a ++ b) ++ c) ++ d) ++ e) ++ f) ≡ (a ++ (b ++ (c ++ (d ++ (e ++ f)))))
six a b c d e f =
    rw (
      append_assoc a b c,
      append_assoc a (b ++ c) d,
      append_assoc b c d,
      append_assoc a (b ++ (c ++ d)) e,
      append_assoc b (c ++ d) e,
      append_assoc c d e,
      append_assoc a (b ++ (c ++ (d ++ e))) f,
      append_assoc b (c ++ (d ++ e)) f,
      append_assoc c (d ++ e) f,
      append_assoc d e f,
    )
    refl

pub head_is : (names : Names) (choices : Choices) (answers : List Answer) (source none one two three four last whole program digest setup options : List ℕ)
    → none ≡ [] → program ≡ shown_name names.program → digest ≡ encode_lower (sha256 source)
    → setup ≡ shown_name (setup_name names.setup) → options ≡ options_text choices
    → one ≡ none ++ ended (codes "$$ flat program, written by dme lower")
    → two ≡ one ++ ended (codes "$$ source: " ++ program)
    → three ≡ two ++ ended (codes "$$ SHA-256 of the source: " ++ digest)
    → four ≡ three ++ ended (codes "$$ setup: " ++ setup)
    → last ≡ four ++ ended (codes "$$ options:" ++ options)
    → whole ≡ last ++ ended_lines (map value_line answers)
    → whole ≡ ended_lines (head_lines names choices answers source)
head_is names choices answers source none one two three four last whole program digest setup options is p d s o a b c e f g =
    rw (g, f, e, c, b, a, is, p, d, s, o) (six (ended (codes "$$ flat program, written by dme lower")) (ended (codes "$$ source: " ++ shown_name names.program))
    (ended (codes "$$ SHA-256 of the source: " ++ encode_lower (sha256 source))) (ended (codes "$$ setup: " ++ shown_name (setup_name names.setup)))
    (ended (codes "$$ options:" ++ options_text choices)) (ended_lines (map value_line answers)))

-- parameters, each after its mark
commas_are : (mark : ℕ) (p : List ℕ) (ps : List (List ℕ)) → mark ∷ with_commas p ps ≡ marked mark (p ∷ ps)
commas_are mark p [] = ap (λ (xs : List ℕ). mark ∷ xs) (sym (append-nil p))
commas_are mark p (q ∷ ps) = ap (λ (xs : List ℕ). mark ∷ (p ++ xs)) (commas_are 44 q ps)

pub marked_is : (ps : List (List ℕ)) → marked 47 ps ≡ after_word ps
marked_is [] = refl
marked_is (p ∷ ps) = sym (commas_are 47 p ps)

pub as_read_is : (s : Statement) (old middle new : List ℕ) → middle ≡ old ++ s.word → new ≡ middle ++ marked 47 s.params
    → new ≡ old ++ flat_text (as_read s)
as_read_is s old middle new e h = rw (h, e, append_assoc old s.word (marked 47 s.params)) (ap (λ (xs : List ℕ). old ++ (s.word ++ xs)) (marked_is s.params))

pub ruleset marks = (as_read_is)

pub ruleset lines = (line_none, line_some)
