-- Nothing is left out of a program that is flat.
use Rattle.program_lowering.proofs.Names.{[], ◌∷◌, ◌≡◌, AllByRecursion, ap, Bool, Choices, closes, cond, context_at, continued, Err, false}
use Rattle.program_lowering.proofs.Names.{in_manual, is_unknown, judged, kept, kept_below, left_out_at, List, Meaning, meant, None, Ok, Option, Point, refl, Refusal, Result, Statement}
use Rattle.program_lowering.proofs.Names.{StatementMeaning, Step, steps_from, steps_of, sym, text_refusal, TextFault, true, up_to_refused, with_front}
use Rattle.program_lowering.proofs.Names.{◌&&◌, ◌++◌, ◌||◌, manual_after, mode, Reason, Some, unless_left_out, ℕ}
use Rattle.program_lowering.specs.Manual.{is_manual, is_mode}
use Rattle.program_lowering.specs.declared.words.Reason.TheVariants.{Manual}
use Rattle.program_lowering.proofs.AboveLemmas.{accepted_if}
use Rattle.program_lowering.proofs.RunLemmas.{accepted_known}
use Rattle.program_lowering.proofs.ReadBackLemmas.{by_tests, meant_steps}
use Rattle.program_lowering.proofs.FrameLemmas.{no_text}
use Rattle.program_lowering.proofs.Names.{◌==◌, bound_count, bound_said, is_unsupported, length, nearest, not}
use Rattle.program_lowering.specs.Lowering.{counted_at, kept_above}
use Rattle.program_lowering.specs.StoredFrames.{by_frame, is_used, named_frame, selecting, stored_frame}
use Rattle.program_lowering.proofs.Runs.{steps_up_to}
use Rattle.std.proofs.Common.{codes, ◌∙◌}
use Rattle.std.specs.Str.{bytes_eq}
use Rattle.std.proofs.lemmas.Slice.Eq.{bytes_eq-Decides}
use Rattle.dmis_text.specs.Statements.{has_open_text}
use Rattle.dmis_program.specs.Keywords.{keyword_of}
use Rattle.dmis_program.specs.LookBack.{saying}
use Rattle.dmis_program.specs.Sayings.{is_badly_formed, said_by, said_of, units}
use Rattle.dmis_program.specs.declared.faults.Refusal.TheVariants.{BadArguments, NoProgMode, NotMillimetres}
use Rattle.dmis_program.specs.declared.keywords.Keyword.{Keyword}
use Rattle.dmis_program.specs.declared.keywords.Keyword.TheVariants as word
use Rattle.dmis_program.specs.declared.sayings.StatementMeaning.TheVariants.{Passes}
use Rattle.program_lowering.specs.Inches.{all_stated, in_inches, inches_after, is_unit, params_in, stated, unit_params}
use Rattle.program_lowering.specs.Texts.{begins_with}
use Rattle.program_lowering.proofs.StatedLemmas.{text_same}
use Rattle.program_lowering.proofs.Names.{is_none, is_operator_text}
use Rattle.program_lowering.proofs.TextLemmas.{is_text}
use Rattle.dmis_program.specs.Keywords.{definitions, is_among, passed}
use Rattle.program_flow.specs.LookBack.{fault_of, is_declaration, kind_said, value_said}
use Rattle.program_flow.specs.Blocks.{is_label, part_named, part_of}
use Rattle.program_flow.specs.Calls.{carried_out, is_plain, trace}
use Rattle.program_flow.specs.Flow.{carried, to}
use Rattle.program_flow.specs.Macros.{name_before, name_of, outside, outside_after, without_parameters}
use Rattle.program_flow.specs.declared.blocks.Part.TheVariants.{Other}
use Rattle.program_flow.proofs.Plain.{call-other, only, outside-other}
use Rattle.program_flow.proofs.Straight.{drop-next}
use Rattle.std.specs.List.{position}
use Rattle.std.specs.Prelude.{is_some}
use Rattle.program_lowering.proofs.Names.{subst, ◌+◌, ◌≤◌, and_parts, arith, drop, eqb-true, nat_tests, suc, zero}
use Rattle.program_lowering.specs.Cartesian.{all_cartesian, cartesian, no_reference, reference_after}
use Rattle.program_lowering.specs.declared.cartesian.Reference.{Reference}
use Rattle.program_lowering.proofs.CartesianLemmas.{accepted_already}
use Rattle.program_lowering.proofs.EvenLemmas.{accepted_as_it_is}
use Rattle.program_lowering.specs.EvenTouches.{all_touched, touched_from}
use Rattle.program_lowering.specs.Prompts.{Answer, answered}
use Rattle.program_lowering.proofs.Names.{map}
use Rattle.program_lowering.specs.Valued.{all_valued, commanded, feature_label, has_variables, valued, valued_as}

-- the steps of some statements, of which one line can hold each text for the operator up to the statement that closes the program
abbrev ends_there : Result StatementMeaning Refusal → Bool
ends_there (Ok m) = closes m
ends_there (Err refusal) = true

abbrev FitTo : List (List ℕ × Point) → List Statement → List Statement → Type 0
FitTo frames aboves [] = Unit {0}
FitTo frames aboves (s ∷ below) = (text_refusal s ≡ None) × (ends_there (judged frames (context_at frames aboves) s) ≡ false → FitTo frames (s ∷ aboves) below)

record Alike (frames : List (List ℕ × Point)) (fault : Option TextFault) (lines : ℕ) (aboves below : List Statement) (steps : List Step) : Type 0 where
  steps_are : steps_from frames fault lines aboves below ≡ Ok steps
  fits : FitTo frames aboves below

-- where the first is accepted, what follows it may be exchanged for what is alike
record IsNext (frames : List (List ℕ × Point)) (fault : Option TextFault) (lines : ℕ) (aboves : List Statement) (s : Statement)
    (below whole : List Statement) : Type 0 where
  other : List Statement
  is : whole ≡ s ∷ other
  behind : (more : List Step) → Alike frames fault lines (s ∷ aboves) below more → Alike frames fault lines (s ∷ aboves) other more

alike_on : (frames : List (List ℕ × Point)) (fault : Option TextFault) (lines : ℕ) (aboves : List Statement) (s : Statement)
    (below other : List Statement) (steps : List Step) (m : StatementMeaning) → judged frames (context_at frames aboves) s ≡ Ok m
    → ((more : List Step) → Alike frames fault lines (s ∷ aboves) below more → Alike frames fault lines (s ∷ aboves) other more)
    → FitTo frames aboves (s ∷ below)
    → cond (closes m) (Ok []) (with_front (steps_of frames (context_at frames aboves) m) (steps_from frames fault lines (s ∷ aboves) below)) ≡ Ok steps
    → Alike frames fault lines aboves (s ∷ other) steps
alike_on frames fault lines aboves s below other steps m e behind fits h = go (closes m) refl (steps_from frames fault lines (s ∷ aboves) below) refl h
  where
    go : (b : Bool) → closes m ≡ b → (r : Result (List Step) (Refusal × ℕ)) → steps_from frames fault lines (s ∷ aboves) below ≡ r
        → cond b (Ok []) (with_front (steps_of frames (context_at frames aboves) m) r) ≡ Ok steps → Alike frames fault lines aboves (s ∷ other) steps
    go true c r i g = record { steps_are = rw (e, c) g; fits = (fits.0, λ goes_on. let never : true ≡ false = sym (ap ends_there e ∙ c) ∙ goes_on in absurd cc) }
    go false c (Err refusal) i g = absurd cc
    go false c (Ok more) i g =
        let a = behind more (record { steps_are = i; fits = fits.1 (ap ends_there e ∙ c) }) in
        record { steps_are = rw (e, c, a.steps_are) g; fits = (fits.0, λ goes_on. a.fits) }

alike_next : (frames : List (List ℕ × Point)) (fault : Option TextFault) (lines : ℕ) (aboves : List Statement) (s : Statement)
    (below whole : List Statement) (steps : List Step)
    → ((m : StatementMeaning) → judged frames (context_at frames aboves) s ≡ Ok m → IsNext frames fault lines aboves s below whole)
    → Alike frames fault lines aboves (s ∷ below) steps → Alike frames fault lines aboves whole steps
alike_next frames fault lines aboves s below whole steps next h = go (judged frames (context_at frames aboves) s) refl h.steps_are
  where
    go : (r : Result StatementMeaning Refusal) → judged frames (context_at frames aboves) s ≡ r
        → continued s.line r (steps_of frames (context_at frames aboves)) (steps_from frames fault lines (s ∷ aboves) below) ≡ Ok steps
        → Alike frames fault lines aboves whole steps
    go (Err refusal) e g = absurd cc
    go (Ok m) e g =
        let n = next m e in
        subst (λ (ss : List Statement). Alike frames fault lines aboves ss steps) (sym n.is)
        (alike_on frames fault lines aboves s below n.other steps m e n.behind h.fits g)

all_fit_to : (frames : List (List ℕ × Point)) (aboves below : List Statement) → AllByRecursion (λ (s : Statement). text_refusal s ≡ None) below
    → FitTo frames aboves below
all_fit_to frames aboves [] h = tt
all_fit_to frames aboves (s ∷ below) h = (h.0, λ goes_on. all_fit_to frames (s ∷ aboves) below h.1)

-- so nothing is cut off
up_to_end : (frames : List (List ℕ × Point)) (fault : Option TextFault) (lines : ℕ) (aboves below : List Statement) (steps : List Step)
    → Alike frames fault lines aboves below steps → steps_up_to frames fault lines aboves below ≡ Ok steps
up_to_end frames fault lines aboves [] steps h = h.steps_are
up_to_end frames fault lines aboves (s ∷ below) steps h =
    by_meaning (judged frames (context_at frames aboves) s) refl h.steps_are (λ more fit i. up_to_end frames fault lines (s ∷ aboves) below more (record { steps_are = i; fits = fit }))
  where
    by_closing : (m : StatementMeaning) → judged frames (context_at frames aboves) s ≡ Ok m → (b : Bool) → closes m ≡ b
        → (r : Result (List Step) (Refusal × ℕ)) → steps_from frames fault lines (s ∷ aboves) below ≡ r
        → cond b (Ok []) (with_front (steps_of frames (context_at frames aboves) m) r) ≡ Ok steps
        → ((more : List Step) → FitTo frames (s ∷ aboves) below → steps_from frames fault lines (s ∷ aboves) below ≡ Ok more
        → steps_up_to frames fault lines (s ∷ aboves) below ≡ Ok more)
        → steps_up_to frames fault lines aboves (s ∷ below) ≡ Ok steps
    by_closing m e true c r i g rest = rw (h.fits.0, e, c) g
    by_closing m e false c (Err refusal) i g rest = absurd cc
    by_closing m e false c (Ok more) i g rest = rw (h.fits.0, e, c, rest more (h.fits.1 (ap ends_there e ∙ c)) i) g

    by_meaning : (r : Result StatementMeaning Refusal) → judged frames (context_at frames aboves) s ≡ r
        → continued s.line r (steps_of frames (context_at frames aboves)) (steps_from frames fault lines (s ∷ aboves) below) ≡ Ok steps
        → ((more : List Step) → FitTo frames (s ∷ aboves) below → steps_from frames fault lines (s ∷ aboves) below ≡ Ok more
        → steps_up_to frames fault lines (s ∷ aboves) below ≡ Ok more)
        → steps_up_to frames fault lines aboves (s ∷ below) ≡ Ok steps
    by_meaning (Err refusal) e g rest = absurd cc
    by_meaning (Ok m) e g rest = by_closing m e (closes m) refl (steps_from frames fault lines (s ∷ aboves) below) refl g rest

-- a mode that is accepted is not manual
same_mode : (params : List (List ℕ)) (m : StatementMeaning) → mode params ≡ Ok m → is_manual params ≡ false
same_mode [] m h = refl
same_mode (only ∷ []) m h = go (bytes_eq only (codes "PROG")) refl h
  where
    go : (b : Bool) → bytes_eq only (codes "PROG") ≡ b → cond (b || false) (Ok Passes) (Err NoProgMode) ≡ Ok m → bytes_eq only (codes "MAN") ≡ false
    go false e g = absurd cc
    go true e g = let is = (bytes_eq-Decides only (codes "PROG")).0 e in rw is refl
same_mode (first ∷ second ∷ rest) m h = refl

said_mode : (s : Statement) (m : StatementMeaning) → said_of word.Mode s ≡ Ok m → mode s.params ≡ Ok m
unfolding said_of said_by
said_mode s m h = go (is_badly_formed word.Mode s) h
  where
    go : (b : Bool) → cond b (Err BadArguments) (mode s.params) ≡ Ok m → mode s.params ≡ Ok m
    go true h = absurd cc
    go false h = h

by_mode : (s : Statement) (k : Keyword) (m : StatementMeaning) → said_of k s ≡ Ok m → cond (is_mode k) (is_manual s.params) false ≡ false
by_mode s word.Mode m h = same_mode s.params m (said_mode s m h)
by_mode s word.Units m h = refl
by_mode s word.Goto m h = refl
by_mode s word.Ptmeas m h = refl
by_mode s word.Dmismn m h = refl
by_mode s word.Meas m h = refl
by_mode s word.Endmes m h = refl
by_mode s word.Snslct m h = refl
by_mode s word.Recall m h = refl
by_mode s word.Endfil m h = refl
by_mode s word.Definition m h = refl
by_mode s word.Passed m h = refl
by_mode s word.Unknown m h = refl

-- so nothing that is accepted is left out
record IsCounted (choices : Choices) (aboves : List Statement) (s : Statement) : Type 0 where
  mode : in_manual (s ∷ aboves) ≡ false
  stays : left_out_at choices aboves s ≡ None
  same : counted_at choices aboves s ≡ s

-- and no frame is selected but by `RECALL/D`
none_named : (used : List ℕ → Bool) (k : Keyword) (s : Statement) (first : Bool) → is_unknown k ≡ false → is_unsupported first k s.params ≡ false → named_frame used k s ≡ None
none_named used word.Recall s first h g = rw g refl
none_named used word.Unknown s first h g = absurd cc
none_named used word.Dmismn s first h g = refl
none_named used word.Goto s first h g = refl
none_named used word.Meas s first h g = refl
none_named used word.Ptmeas s first h g = refl
none_named used word.Endmes s first h g = refl
none_named used word.Snslct s first h g = refl
none_named used word.Endfil s first h g = refl
none_named used word.Units s first h g = refl
none_named used word.Mode s first h g = refl
none_named used word.Definition s first h g = refl
none_named used word.Passed s first h g = refl

same_statement : (choices : Choices) (used : List ℕ → Bool) (s : Statement) → named_frame used (keyword_of s.word) s ≡ None → by_frame choices used s ≡ s
same_statement choices used s h = go (choices.stored_frames && not (has_open_text s))
  where
    go : (b : Bool) → selecting (cond b (named_frame used (keyword_of s.word) s) None) s ≡ s
    go true = rw h refl
    go false = refl

no_manual : (a : Bool) (o : Option Reason) → cond (a && false) (Some Manual) o ≡ o
no_manual true o = refl
no_manual false o = refl

counted : (frames : List (List ℕ × Point)) (choices : Choices) (aboves : List Statement) (s : Statement) (m : StatementMeaning)
    → in_manual aboves ≡ false → judged frames (context_at frames aboves) s ≡ Ok m → IsCounted choices aboves s
counted frames choices aboves s m above e =
    let a = accepted_if frames (context_at frames aboves) s m e in
    let here : in_manual (s ∷ aboves) ≡ false = ap (λ (b : Bool). manual_after b s) above ∙ by_mode s (keyword_of s.word) m a.says in
    let known = accepted_known frames (context_at frames aboves) s m a in
    let tests = by_tests (length aboves) (bound_count (nearest bound_said aboves)) (keyword_of s.word) s.params a.known in
    record {
      mode = here;
      stays = go aboves here known;
      same = same_statement choices (is_used (kept_above choices aboves)) s
          (none_named (is_used (kept_above choices aboves)) (keyword_of s.word) s (length aboves == 0) known tests.second);
    }
  where
    go : (aboves : List Statement) → in_manual (s ∷ aboves) ≡ false → is_unknown (keyword_of s.word) ≡ false → left_out_at choices aboves s ≡ None
    go [] here known = refl
    go (t ∷ more) here known = rw (here, known) (no_manual choices.skip_manual None)

all_kept : (frames : List (List ℕ × Point)) (choices : Choices) (fault : Option TextFault) (lines : ℕ) (aboves below : List Statement)
    (steps : List Step) → in_manual aboves ≡ false → Alike frames fault lines aboves below steps
    → Alike frames fault lines aboves (kept_below choices aboves below) steps
all_kept frames choices fault lines aboves [] steps above h = h
all_kept frames choices fault lines aboves (s ∷ below) steps above h =
    alike_next frames fault lines aboves s below (kept_below choices aboves (s ∷ below)) steps (λ m e.
    let c = counted frames choices aboves s m above e in record {
      other = kept_below choices (s ∷ aboves) below;
      is = rw (c.stays, c.same) refl;
      behind = λ more g. all_kept frames choices fault lines (s ∷ aboves) below more c.mode g;
    }) h

-- a unit that is accepted is the millimetre
same_units : (params : List (List ℕ)) (m : StatementMeaning) → units params ≡ Ok m → (begins_with (codes "INCH") params ≡ false) × (unit_params params ≡ params)
same_units [] m h = absurd cc
same_units (first ∷ rest) m h = go (bytes_eq first (codes "MM")) refl h
  where
    go : (b : Bool) → bytes_eq first (codes "MM") ≡ b → cond b (Ok Passes) (Err NotMillimetres) ≡ Ok m
        → (bytes_eq first (codes "INCH") ≡ false) × (cond (bytes_eq first (codes "INCH")) (codes "MM") first ∷ rest ≡ first ∷ rest)
    go false e g = absurd cc
    go true e g = let is = (bytes_eq-Decides first (codes "MM")).0 e in rw is (refl, refl)

-- a statement of a flat program is in millimetres already
record InMillimetres (s : Statement) : Type 0 where
  same : stated false s ≡ s
  unit : inches_after false s ≡ false

said_units : (s : Statement) (m : StatementMeaning) → said_of word.Units s ≡ Ok m → units s.params ≡ Ok m
unfolding said_of said_by
said_units s m h = go (is_badly_formed word.Units s) h
  where
    go : (b : Bool) → cond b (Err BadArguments) (units s.params) ≡ Ok m → units s.params ≡ Ok m
    go true h = absurd cc
    go false h = h

by_word : (s : Statement) (k : Keyword) (m : StatementMeaning) → keyword_of s.word ≡ k → said_of k s ≡ Ok m
    → (params_in k false s.params ≡ s.params) × (cond (is_unit k) (begins_with (codes "INCH") s.params) false ≡ false)
by_word s word.Units m e h = let u = same_units s.params m (said_units s m h) in (u.1, u.0)
by_word s word.Goto m e h = (refl, refl)
by_word s word.Ptmeas m e h = (refl, refl)
by_word s word.Dmismn m e h = (refl, refl)
by_word s word.Meas m e h = (refl, refl)
by_word s word.Endmes m e h = (refl, refl)
by_word s word.Snslct m e h = (refl, refl)
by_word s word.Recall m e h = (refl, refl)
by_word s word.Endfil m e h = (refl, refl)
by_word s word.Mode m e h = (refl, refl)
by_word s word.Definition m e h = (refl, refl)
by_word s word.Passed m e h = (refl, refl)
by_word s word.Unknown m e h = (refl, refl)

in_millimetres_already : (s : Statement) (m : StatementMeaning) → saying s ≡ Ok m → InMillimetres s
in_millimetres_already s m h =
    let w = by_word s (keyword_of s.word) m refl h in
    record {
      same = ap (λ (params : List (List ℕ)). record s { params = params }) (either (has_open_text s) _ w.0);
      unit = w.1;
    }
  where
    either : (o : Bool) (y : List (List ℕ)) → y ≡ s.params → cond o s.params y ≡ s.params
    either true y e = refl
    either false y e = e

stated_alike : (frames : List (List ℕ × Point)) (fault : Option TextFault) (lines : ℕ) (aboves sources below : List Statement) (steps : List Step)
    → in_inches sources ≡ false → Alike frames fault lines aboves below steps
    → Alike frames fault lines aboves (all_stated sources below) steps
stated_alike frames fault lines aboves sources [] steps unit h = h
stated_alike frames fault lines aboves sources (s ∷ below) steps unit h =
    alike_next frames fault lines aboves s below (all_stated sources (s ∷ below)) steps (λ m e.
    let mm = in_millimetres_already s m (accepted_if frames (context_at frames aboves) s m e).says in record {
      other = all_stated (s ∷ sources) below;
      is = ap (λ (t : Statement). t ∷ all_stated (s ∷ sources) below) (ap (λ (b : Bool). stated b s) unit ∙ mm.same);
      behind = λ more g. stated_alike frames fault lines (s ∷ aboves) (s ∷ sources) below more (ap (λ (b : Bool). inches_after b s) unit ∙ mm.unit) g;
    }) h

-- a flat program declares no variable, so each statement is its own with values
record IsPlainWord (s : Statement) : Type 0 where
  no_assign : bytes_eq s.word (codes "ASSIGN") ≡ false
  no_declaration : is_declaration s ≡ false

unknown_words : (is_unknown (keyword_of (codes "ASSIGN")) ≡ true) × (is_unknown (keyword_of (codes "DECL")) ≡ true)
unfolding keyword_of
unknown_words = (refl, refl)

other_word : (word other : List ℕ) → is_unknown (keyword_of other) ≡ true → is_unknown (keyword_of word) ≡ false → bytes_eq word other ≡ false
other_word word other h g = go (bytes_eq word other) refl
  where
    go : (b : Bool) → bytes_eq word other ≡ b → b ≡ false
    go false e = refl
    go true e = let is = (bytes_eq-Decides word other).0 e in let same = rw is at g in absurd cc

plain_word : (s : Statement) → is_unknown (keyword_of s.word) ≡ false → IsPlainWord s
plain_word s known = record {
  no_assign = other_word s.word (codes "ASSIGN") unknown_words.0 known;
  no_declaration = rw (other_word s.word (codes "DECL") unknown_words.1 known) refl;
}

itself : (above : List Statement) (s : Statement) → IsPlainWord s → has_variables above ≡ false → valued above s ≡ s
itself above s plain none = go s.label
  where
    stays : commanded above s ≡ s
    stays = rw (plain.no_assign, none) refl

    no_label : (label : List ℕ) → feature_label above s (Some label) ≡ None
    no_label label = rw none refl

    go : (o : Option (List ℕ)) → valued_as above s (feature_label above s o) ≡ s
    go None = stays
    go (Some label) = ap (valued_as above s) (no_label label) ∙ stays

none_then : (above : List Statement) (s : Statement) → IsPlainWord s → has_variables above ≡ false → has_variables (carried above s) ≡ false
none_then above s plain none = go (is_none (fault_of (kind_said above) (value_said above) s))
  where
    go : (b : Bool) → has_variables (cond b (s ∷ above) above) ≡ false
    go true = rw (none, plain.no_declaration) refl
    go false = none

valued_alike : (frames : List (List ℕ × Point)) (fault : Option TextFault) (lines : ℕ) (aboves above below : List Statement) (steps : List Step)
    → has_variables above ≡ false → Alike frames fault lines aboves below steps
    → Alike frames fault lines aboves (all_valued above below) steps
valued_alike frames fault lines aboves above [] steps none h = h
valued_alike frames fault lines aboves above (s ∷ below) steps none h =
    alike_next frames fault lines aboves s below (all_valued above (s ∷ below)) steps (λ m e.
    let plain = plain_word s (accepted_known frames (context_at frames aboves) s m (accepted_if frames (context_at frames aboves) s m e)) in record {
      other = all_valued (carried above s) below;
      is = ap (λ (t : Statement). t ∷ all_valued (carried above s) below) (itself above s plain none);
      behind = λ more g. valued_alike frames fault lines (s ∷ aboves) (carried above s) below more (none_then above s plain none) g;
    }) h

-- nor is a value asked for in it
prompt_word : is_unknown (keyword_of (codes "PROMPT")) ≡ true
unfolding keyword_of
prompt_word = refl

unasked : (answers : List Answer) (s : Statement) → is_unknown (keyword_of s.word) ≡ false → answered answers s ≡ s
unasked answers s known = rw (other_word s.word (codes "PROMPT") prompt_word known) refl

answered_alike : (frames : List (List ℕ × Point)) (fault : Option TextFault) (lines : ℕ) (answers : List Answer) (aboves below : List Statement)
    (steps : List Step) → Alike frames fault lines aboves below steps → Alike frames fault lines aboves (map (answered answers) below) steps
answered_alike frames fault lines answers aboves [] steps h = h
answered_alike frames fault lines answers aboves (s ∷ below) steps h =
    alike_next frames fault lines aboves s below (map (answered answers) (s ∷ below)) steps (λ m e.
    let known = accepted_known frames (context_at frames aboves) s m (accepted_if frames (context_at frames aboves) s m e) in record {
      other = map (answered answers) below;
      is = ap (λ (t : Statement). t ∷ map (answered answers) below) (unasked answers s known);
      behind = λ more g. answered_alike frames fault lines answers (s ∷ aboves) below more g;
    }) h

-- and its coordinates are Cartesian
cartesian_alike : (frames : List (List ℕ × Point)) (fault : Option TextFault) (lines : ℕ) (ref : Reference) (aboves below : List Statement)
    (steps : List Step) → Alike frames fault lines aboves below steps → Alike frames fault lines aboves (all_cartesian ref below) steps
cartesian_alike frames fault lines ref aboves [] steps h = h
cartesian_alike frames fault lines ref aboves (s ∷ below) steps h =
    alike_next frames fault lines aboves s below (all_cartesian ref (s ∷ below)) steps (λ m e.
    let known = (accepted_if frames (context_at frames aboves) s m e).known in
    let tests = by_tests (length aboves) (bound_count (nearest bound_said aboves)) (keyword_of s.word) s.params known in
    let after = reference_after ref (cartesian ref s) in record {
      other = all_cartesian after below;
      is = ap (λ (t : Statement). t ∷ all_cartesian after below) (accepted_already (length aboves == 0) ref s tests.second);
      behind = λ more g. cartesian_alike frames fault lines after (s ∷ aboves) below more g;
    }) h

-- and each block has its touches
touched_alike : (frames : List (List ℕ × Point)) (fault : Option TextFault) (lines : ℕ) (aboves below : List Statement)
    (steps : List Step) → Alike frames fault lines aboves below steps → Alike frames fault lines aboves (all_touched aboves below) steps
touched_alike frames fault lines aboves [] steps h = h
touched_alike frames fault lines aboves (s ∷ below) steps h =
    alike_next frames fault lines aboves s below (all_touched aboves (s ∷ below)) steps (λ m e. record {
      other = all_touched (s ∷ aboves) below;
      is = ap (λ (given : List Statement). given ++ (s ∷ all_touched (s ∷ aboves) below)) (accepted_as_it_is frames aboves s m e);
      behind = λ more g. touched_alike frames fault lines (s ∷ aboves) below more g;
    }) h

chosen_alike : (frames : List (List ℕ × Point)) (choices : Choices) (fault : Option TextFault) (lines : ℕ) (below : List Statement)
    (steps : List Step) → Alike frames fault lines [] below steps → Alike frames fault lines [] (touched_from choices [] below) steps
chosen_alike frames choices fault lines below steps h = go choices.even_touches
  where
    go : (b : Bool) → Alike frames fault lines [] (cond b (all_touched [] below) below) steps
    go true = touched_alike frames fault lines [] below steps h
    go false = h

-- nor has it a word of control flow, so each statement comes out in its place
label_unknown : (word : List ℕ) → is_label word ≡ true → is_unknown (keyword_of word) ≡ true
unfolding keyword_of
label_unknown [] h = absurd cc
label_unknown (c ∷ cs) h = let is : c ≡ 40 = eqb-true c 40 (and_parts _ _ h).0 in rw is refl

not_label : (word : List ℕ) → is_unknown (keyword_of word) ≡ false → is_label word ≡ false
not_label word known = go (is_label word) refl
  where
    go : (b : Bool) → is_label word ≡ b → b ≡ false
    go false e = refl
    go true e = let h = label_unknown word e in absurd cc

flow_words : AllByRecursion (λ (w : List ℕ). is_unknown (keyword_of w) ≡ true)
    (codes "IF" ∷ codes "DO" ∷ codes "SELECT" ∷ codes "CASE" ∷ codes "JUMPTO" ∷ codes "ELSE" ∷ codes "ENDIF" ∷ codes "ENDDO" ∷ codes "DFTCAS"
    ∷ codes "ENDCAS" ∷ codes "ENDSEL" ∷ [])
unfolding keyword_of
flow_words = (refl, (refl, (refl, (refl, (refl, (refl, (refl, (refl, (refl, (refl, (refl, tt)))))))))))

other_named : (word : List ℕ) (params : List (List ℕ)) → is_unknown (keyword_of word) ≡ false → part_named word params ≡ Other
other_named word [] known = rw (
  other_word word (codes "ELSE") flow_words.1.1.1.1.1.0 known,
  other_word word (codes "ENDIF") flow_words.1.1.1.1.1.1.0 known,
  other_word word (codes "ENDDO") flow_words.1.1.1.1.1.1.1.0 known,
  other_word word (codes "DFTCAS") flow_words.1.1.1.1.1.1.1.1.0 known,
  other_word word (codes "ENDCAS") flow_words.1.1.1.1.1.1.1.1.1.0 known,
  other_word word (codes "ENDSEL") flow_words.1.1.1.1.1.1.1.1.1.1.0 known,
  not_label word known,
) refl
other_named word (param ∷ params) known = rw (
  other_word word (codes "IF") flow_words.0 known,
  other_word word (codes "DO") flow_words.1.0 known,
  other_word word (codes "SELECT") flow_words.1.1.0 known,
  other_word word (codes "CASE") flow_words.1.1.1.0 known,
  other_word word (codes "JUMPTO") flow_words.1.1.1.1.0 known,
) refl

other_part : (s : Statement) → is_unknown (keyword_of s.word) ≡ false → part_of s ≡ Other
unfolding part_of
other_part s known = go (is_none s.label)
  where
    go : (b : Bool) → cond b (part_named s.word s.params) Other ≡ Other
    go true = other_named s.word s.params known
    go false = refl

-- nor of macros and calls
abbrev NoName : List ℕ → Type 0
NoName word = name_before word (position (λ b. b == 61) word) ≡ None

one_of : (word other : List ℕ) (k rest : Keyword) → NoName other → is_unknown (cond (bytes_eq word other) k rest) ≡ false
    → (is_unknown rest ≡ false → NoName word) → NoName word
one_of word other k rest none h next = go (bytes_eq word other) refl h
  where
    go : (b : Bool) → bytes_eq word other ≡ b → is_unknown (cond b k rest) ≡ false → NoName word
    go true e g = subst NoName (sym ((bytes_eq-Decides word other).0 e)) none
    go false e g = next g

one_among : (word : List ℕ) (others : List (List ℕ)) (k rest : Keyword) → AllByRecursion NoName others
    → is_unknown (cond (is_among word others) k rest) ≡ false → (is_unknown rest ≡ false → NoName word) → NoName word
one_among word [] k rest none h next = next h
one_among word (other ∷ others) k rest none h next = go (bytes_eq word other) refl (λ g. one_among word others k rest none.1 g next) h
  where
    go : (b : Bool) → bytes_eq word other ≡ b → (is_unknown (cond (is_among word others) k rest) ≡ false → NoName word)
        → is_unknown (cond (b || is_among word others) k rest) ≡ false → NoName word
    go true e later g = subst NoName (sym ((bytes_eq-Decides word other).0 e)) none.0
    go false e later g = later g

no_name : (word : List ℕ) → is_unknown (keyword_of word) ≡ false → NoName word
unfolding keyword_of
no_name word h =
    one_of word (codes "DMISMN") _ _ refl h (λ h. one_of word (codes "GOTO") _ _ refl h (λ h. one_of word (codes "MEAS") _ _ refl h
    (λ h. one_of word (codes "PTMEAS") _ _ refl h (λ h. one_of word (codes "ENDMES") _ _ refl h (λ h. one_of word (codes "SNSLCT") _ _ refl h
    (λ h. one_of word (codes "RECALL") _ _ refl h (λ h. one_of word (codes "ENDFIL") _ _ refl h (λ h. one_of word (codes "UNITS") _ _ refl h
    (λ h. one_of word (codes "MODE") _ _ refl h (λ h. one_among word definitions _ _ (refl, (refl, (refl, tt))) h
    (λ h. one_among word passed _ _ (refl, (refl, (refl, (refl, (refl, (refl, (refl, (refl, (refl, (refl, tt)))))))))) h (λ h. absurd cc))))))))))))

call_words : (is_unknown (keyword_of (codes "CALL")) ≡ true) × ((is_unknown (keyword_of (codes "MACRO")) ≡ true)
    × (is_unknown (keyword_of (codes "ENDMAC")) ≡ true))
unfolding keyword_of
call_words = (refl, (refl, refl))

no_end : (b : Bool) → not (false || (false || (true && (b && false)))) ≡ true
no_end true = refl
no_end false = refl

plain_flow : (s : Statement) → is_unknown (keyword_of s.word) ≡ false → is_plain s ≡ true
plain_flow s known = go s.label (without_parameters s.params) (other_word s.word (codes "CALL") call_words.0 known)
    (other_word s.word (codes "MACRO") call_words.1.0 known) (other_word s.word (codes "ENDMAC") call_words.1.1 known) (no_name s.word known)
  where
    go : (label : Option (List ℕ)) (bare : Bool) → bytes_eq s.word (codes "CALL") ≡ false → bytes_eq s.word (codes "MACRO") ≡ false
        → bytes_eq s.word (codes "ENDMAC") ≡ false → NoName s.word
        → not ((is_none label && (bytes_eq s.word (codes "CALL") && not bare))
        || (is_some (name_of label s.word bare) || (is_none label && (bytes_eq s.word (codes "ENDMAC") && bare)))) ≡ true
    go (Some label) bare call macro end none = rw macro refl
    go None true call macro end none = rw (call, end, none) refl
    go None false call macro end none = rw call (no_end (bytes_eq s.word (codes "ENDMAC")))

flow_next : (frames : List (List ℕ × Point)) (fault : Option TextFault) (lines : ℕ) (aboves above text all : List Statement) (n place : ℕ)
    (s : Statement) (below : List Statement) (m : StatementMeaning) → judged frames (context_at frames aboves) s ≡ Ok m
    → drop place all ≡ outside_after false (s ∷ below) → 10000 ≤ n + length aboves
    → ((more : List Step) (p : ℕ) → n ≡ suc p → drop (place + 1) all ≡ outside_after false below → Alike frames fault lines (s ∷ aboves) below more
    → Alike frames fault lines (s ∷ aboves) (trace p text (only all (to (place + 1) []) ∷ []) (carried above s)) more)
    → IsNext frames fault lines aboves s below (trace n text (only all (to place []) ∷ []) above)
flow_next frames fault lines aboves above text all zero place s below m e d few behind =
    let short = (accepted_if frames (context_at frames aboves) s m e).few in absurd (grind (arith, nat_tests, few, short))
flow_next frames fault lines aboves above text all (suc n) place s below m e d few behind =
    let known = accepted_known frames (context_at frames aboves) s m (accepted_if frames (context_at frames aboves) s m e) in
    let plain = plain_flow s known in
    let here : drop place all ≡ s ∷ outside_after false below = d ∙ outside-other s below plain in record {
      other = trace n text (only all (to (place + 1) []) ∷ []) (carried above s);
      is = call-other n place text all above s (outside_after false below) here plain (other_part s known);
      behind = λ more g. behind more n refl (drop-next place all s (outside_after false below) here) g;
    }

flow_alike : (frames : List (List ℕ × Point)) (fault : Option TextFault) (lines : ℕ) (aboves above text all : List Statement) (n place : ℕ)
    (below : List Statement) (steps : List Step) → drop place all ≡ outside_after false below → 10000 ≤ n + length aboves
    → Alike frames fault lines aboves below steps
    → Alike frames fault lines aboves (trace n text (only all (to place []) ∷ []) above) steps
flow_alike frames fault lines aboves above text all n place [] steps d few h = let e = h.steps_are in absurd cc
flow_alike frames fault lines aboves above text all n place (s ∷ below) steps d few h =
    alike_next frames fault lines aboves s below (trace n text (only all (to place []) ∷ []) above) steps (λ m e.
    flow_next frames fault lines aboves above text all n place s below m e d few
    (λ more p is rest g. flow_alike frames fault lines (s ∷ aboves) (carried above s) text all p (place + 1) below more rest (omega (arith, few, is)) g)) h

pub valued_source : (frames : List (List ℕ × Point)) (choices : Choices) (answers : List Answer) (fault : Option TextFault) (lines : ℕ) (statements : List Statement)
    (m : Meaning) → AllByRecursion (λ (s : Statement). text_refusal s ≡ None) statements → meant (steps_from frames fault lines [] statements) ≡ Ok m
    → meant (steps_up_to frames fault lines [] (all_stated [] (kept choices (touched_from choices [] (all_cartesian no_reference (all_valued [] (carried_out (map (answered answers) statements)))))))) ≡ Ok m
valued_source frames choices answers fault lines statements m fit h =
    let found = meant_steps m (steps_from frames fault lines [] statements) h in
    let source : Alike frames fault lines [] statements found.0 = record { steps_are = found.1; fits = all_fit_to frames [] statements fit } in
    let asked = answered_alike frames fault lines answers [] statements found.0 source in
    let text = map (answered answers) statements in
    let flows = flow_alike frames fault lines [] [] text (outside text) 1000000 0 text found.0 refl (omega arith) asked in
    let values = valued_alike frames fault lines [] [] (carried_out text) found.0 refl flows in
    let all = touched_from choices [] (all_cartesian no_reference (all_valued [] (carried_out text))) in
    let places = cartesian_alike frames fault lines no_reference [] (all_valued [] (carried_out text)) found.0 values in
    let touches = chosen_alike frames choices fault lines (all_cartesian no_reference (all_valued [] (carried_out text))) found.0 places in
    let counts = all_kept frames choices fault lines [] all found.0 refl touches in
    ap meant (up_to_end frames fault lines [] (all_stated [] (kept choices all)) found.0
    (stated_alike frames fault lines [] [] (kept choices all) found.0 refl counts))
    ∙ ap (λ (all : Meaning). Ok all) (sym found.2)
