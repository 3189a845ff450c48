-- Touches from the nominal: what the code sees is what is looked back for, what is given, and that a block with its touches is given nothing.
use Rattle.program_lowering.proofs.Names.{[], ◌&&◌, ◌++◌, ◌==◌, ◌||◌, ◌∙◌, ◌∷◌, ◌≡◌, AllByRecursion, ap, append_assoc, arith, Bool, bound_count, bound_said}
use Rattle.program_lowering.proofs.Names.{BadArguments, bytes_eq, Carried, GivesStep, Choices, cond, context_at, Err, false, in_manual, is_badly_formed, is_none, IfOk, judged, length, ltb-true, List}
use Rattle.program_lowering.proofs.Names.{left_out_in, manual_after, nat_le, nat_lt, nat_tests, nearest, None, not, NotDmis, Ok, Option, or_else, Point, refl, Refusal, Result, SaidBy, Some}
use Rattle.program_lowering.proofs.Names.{Statement, StatementMeaning, step, suc, subst, sym, TextFault, touched, touched_with, true, without_parameters, zero, ℕ, ◌<◌, ◌+◌}
use Rattle.std.proofs.Common.{filter, length-append}
use Rattle.dmis_program.specs.Keywords.{keyword_of}
use Rattle.dmis_program.specs.Sayings.{said_by, said_of}
use Rattle.dmis_program.specs.Judging.{settled}
use Rattle.dmis_program.specs.declared.faults.Refusal.TheVariants.{TooFewPoints}
use Rattle.dmis_program.specs.declared.faults.StatementFault.{StatementFault}
use Rattle.dmis_program.specs.declared.faults.StatementFault.TheVariants as faults
use Rattle.dmis_program.specs.declared.keywords.Keyword.{Keyword}
use Rattle.dmis_program.specs.declared.keywords.Keyword.TheVariants as word
use Rattle.dmis_program.specs.declared.sayings.StatementMeaning.TheVariants as said
use Rattle.dmis_program.proofs.SayingLemmas.{said_of_if}
use Rattle.program_lowering.proofs.AboveLemmas.{accepted_if}
use Rattle.program_lowering.proofs.Runs.{ran, run}
use Rattle.program_flow.specs.Blocks.{part_of}
use Rattle.program_flow.specs.Calls.{line_digits}
use Rattle.program_flow.proofs.Steps.{line_digits_are}
use Rattle.std.proofs.Common.{codes, decimal}
use Rattle.program_lowering.specs.Flats.{note_line}
use Rattle.program_lowering.specs.Lowering.{note_for, note_start}
use Rattle.program_lowering.specs.Reasons.{start_text, touches_text}
use Rattle.program_lowering.specs.Texts.{begins_with}
use Rattle.program_lowering.specs.Words.{given_word}
use Rattle.tool_rack.specs.Setups.{has_name}
use Rattle.program_lowering.specs.StoredFrames.{by_frame, selecting}
use Rattle.program_lowering.specs.declared.words.Reason.TheVariants.{Manual, Touched}
use Rattle.program_lowering.specs.Carried.{Seen, entered, judged_in, noted, all_steps, bore_among, features_after, filling_due, latest, seen_after, seen_by, touch_steps, touched_step, touches_due, unless_closed, with_feature}
use Rattle.program_flow.specs.Numbers.{Fraction}
use Rattle.program_lowering.specs.Cartesian.{◌>>=◌, Triple, moved_by, number_in, numbers_in}
use Rattle.program_lowering.specs.EvenTouches.{EachBelow, Filling, all_touched, angle_text, begun, bore_at, bore_named, bore_said, end_of, ends_block, feature_name, fewest, filling_by, filling_of, filling_with}
use Rattle.program_lowering.specs.EvenTouches.{from_centre, given_by, is_as_asked, is_bare, is_endmes, is_touch, ends_nominals, last_of, level_at, notice, outward_at, there_and_back, to_centre, touch_at, touch_on, touched_from, touches_before, touches_to, waiting, waiting_after}
use Rattle.program_lowering.specs.declared.even.Bore.{Bore}
use Rattle.program_lowering.specs.declared.even.Feature.{Feature}
use Rattle.program_lowering.specs.declared.even.Touch.{Touch}
use Rattle.program_lowering.specs.declared.even.Wanted.{Wanted}

-- ---- what the code sees

pub record Looks (above : List Statement) (seen : Seen) : Type 0 where
  pub waiting : seen.waiting ≡ waiting above
  pub bores : (name : List ℕ) → bore_among seen.features name ≡ bore_named above name
  pub manual : seen.manual ≡ in_manual above

abbrev pub Sees : Choices → List Statement → Seen → Type 0
Sees choices above seen = choices.even_touches ≡ true → Looks above seen

latest_more : (name : List ℕ) (found : Option Bore) (features : List Feature) (f : Feature)
    → latest name found (features ++ f ∷ []) ≡ cond (bytes_eq f.name name) f.bore (latest name found features)
latest_more name found [] f = refl
latest_more name found (g ∷ features) f = latest_more name (cond (bytes_eq g.name name) g.bore found) features f

bores_after : (above : List Statement) (features : List Feature) (s : Statement) (name : List ℕ) → bore_among features name ≡ bore_named above name
    → bore_among (features_after features s) name ≡ bore_named (s ∷ above) name
bores_after above features s name h = go (ends_nominals (keyword_of s.word) s) (feature_name s.label)
  where
    go : (b : Bool) (o : Option (List ℕ)) → bore_among (cond b [] (with_feature features o (bore_said s))) name
        ≡ cond b None (bore_at name o (bore_said s) (bore_named above name))
    go true o = refl
    go false None = h
    go false (Some given) = latest_more name None features (record { name = given; bore = bore_said s })
        ∙ ap (λ (x : Option Bore). cond (bytes_eq given name) (bore_said s) x) h

looks_after : (above : List Statement) (seen : Seen) (s : Statement) → Looks above seen → Looks (s ∷ above) (seen_after seen s)
looks_after above seen s h = record {
  waiting = ap (λ (w : Option Wanted). waiting_after w (keyword_of s.word) s) h.waiting;
  bores = λ name. bores_after above seen.features s name (h.bores name);
  manual = ap (λ (b : Bool). manual_after b s) h.manual;
}

pub sees_after : (choices : Choices) (above : List Statement) (seen : Seen) (s : Statement) → Sees choices above seen
    → Sees choices (s ∷ above) (seen_by choices seen s)
sees_after choices above seen s h = λ e. rw e (looks_after above seen s (h e))

pub sees_none : (choices : Choices) → Sees choices [] (record { waiting = None; features = []; manual = false })
sees_none choices = λ e. record { waiting = refl; bores = λ name. refl; manual = refl }

filling_same : (w : Option Wanted) (f g : List ℕ → Option Bore) → ((name : List ℕ) → f name ≡ g name) → filling_of w f ≡ filling_of w g
filling_same None f g h = refl
filling_same (Some w) f g h = ap (λ (o : Option Bore). cond (nat_le (fewest w.cylinder) w.count && nat_le w.count 1000) (filling_with w o) None) (h w.name)

due_is : (above : List Statement) (seen : Seen) (s : Statement) → Looks above seen → touches_before above s ≡ given_by s.line (filling_due seen s)
due_is above seen s h = rw (h.manual, h.waiting) (go (ends_block (in_manual above) s))
  where
    go : (b : Bool) → cond b (given_by s.line (filling_of (waiting above) (bore_named above))) []
        ≡ given_by s.line (cond b (filling_of (waiting above) (bore_among seen.features)) None)
    go true = ap (given_by s.line) (sym (filling_same (waiting above) (bore_among seen.features) (bore_named above) h.bores))
    go false = refl

pub touched_next : (choices : Choices) (above below : List Statement) (seen : Seen) (s : Statement) → Sees choices above seen
    → touched_from choices above (s ∷ below) ≡ (touches_due choices seen s ++ s ∷ []) ++ touched_from choices (s ∷ above) below
touched_next choices above below seen s h = go choices.even_touches refl
  where
    go : (b : Bool) → choices.even_touches ≡ b → cond b (touches_before above s ++ (s ∷ all_touched (s ∷ above) below)) (s ∷ below)
        ≡ (cond b (given_by s.line (filling_due seen s)) [] ++ s ∷ []) ++ cond b (all_touched (s ∷ above) below) below
    go true e = rw (due_is above seen s (h e)) (sym (append_assoc (given_by s.line (filling_due seen s)) (s ∷ []) (all_touched (s ∷ above) below)))
    go false e = refl

pub no_more : (choices : Choices) (above : List Statement) → touched_from choices above [] ≡ []
no_more choices above = go choices.even_touches
  where
    go : (b : Bool) → ◌≡◌ {A = List Statement} (cond b [] []) []
    go true = refl
    go false = refl

-- ---- several steps

pub steps_append : (frames : List (List ℕ × Point)) (choices : Choices) (c : Carried) (xs ys : List Statement)
    → all_steps frames choices c (xs ++ ys) ≡ unless_closed (all_steps frames choices c xs) (λ d. all_steps frames choices d ys)
steps_append frames choices c [] ys = refl
steps_append frames choices c (s ∷ xs) ys = go (step frames choices c s) (λ d. steps_append frames choices d xs ys)
  where
    go : (r : Result (Bool × Carried) Refusal) → ((d : Carried) → all_steps frames choices d (xs ++ ys)
        ≡ unless_closed (all_steps frames choices d xs) (λ e. all_steps frames choices e ys)) → unless_closed r (λ d. all_steps frames choices d (xs ++ ys))
        ≡ unless_closed (unless_closed r (λ d. all_steps frames choices d xs)) (λ d. all_steps frames choices d ys)
    go (Err refusal) more = refl
    go (Ok (true, d)) more = refl
    go (Ok (false, d)) more = more d

abbrev pub AllOn : ℕ → List Statement → Type 0
AllOn line statements = AllByRecursion (λ (s : Statement). s.line ≡ line) statements

pub run_through : (frames : List (List ℕ × Point)) (choices : Choices) (fault : Option TextFault) (n line : ℕ) (xs left : List Statement) (c : Carried)
    → AllOn line xs → run frames choices fault n (xs ++ left) c ≡ ran line (all_steps frames choices c xs) (run frames choices fault n left)
run_through frames choices fault n line [] left c on = refl
run_through frames choices fault n line (s ∷ xs) left c on =
    ap (λ (k : ℕ). ran k (step frames choices c s) (run frames choices fault n (xs ++ left))) on.0
    ∙ go (step frames choices c s) (λ d. run_through frames choices fault n line xs left d on.1)
  where
    go : (r : Result (Bool × Carried) Refusal) → ((d : Carried) → run frames choices fault n (xs ++ left) d
        ≡ ran line (all_steps frames choices d xs) (run frames choices fault n left)) → ran line r (run frames choices fault n (xs ++ left))
        ≡ ran line (unless_closed r (λ d. all_steps frames choices d xs)) (run frames choices fault n left)
    go (Err refusal) more = refl
    go (Ok (true, d)) more = refl
    go (Ok (false, d)) more = more d

touches_on : (line : ℕ) (c : Triple) (touches : List Touch) → AllOn line (there_and_back line c touches)
touches_on line c [] = (refl, tt)
touches_on line c (t ∷ touches) = (refl, (refl, touches_on line c touches))

given_on : (line : ℕ) (o : Option Filling) → AllOn line (given_by line o)
given_on line None = tt
given_on line (Some f) = (refl, touches_on line f.end f.touches)

all_more : (line : ℕ) (xs ys : List Statement) → AllOn line xs → AllOn line ys → AllOn line (xs ++ ys)
all_more line [] ys h g = g
all_more line (x ∷ xs) ys h g = (h.0, all_more line xs ys h.1 g)

pub due_on : (choices : Choices) (seen : Seen) (s : Statement) → AllOn s.line (touches_due choices seen s ++ s ∷ [])
due_on choices seen s = all_more s.line (touches_due choices seen s) (s ∷ []) (go choices.even_touches) (refl, tt)
  where
    go : (b : Bool) → AllOn s.line (cond b (given_by s.line (filling_due seen s)) [])
    go true = given_on s.line (filling_due seen s)
    go false = tt

pub before_on : (above : List Statement) (s : Statement) → AllOn s.line (touches_before above s)
before_on above s = go (ends_block (in_manual above) s)
  where
    go : (b : Bool) → AllOn s.line (cond b (given_by s.line (filling_of (waiting above) (bore_named above))) [])
    go true = given_on s.line (filling_of (waiting above) (bore_named above))
    go false = tt

pub one_step : (frames : List (List ℕ × Point)) (choices : Choices) (c : Carried) (s : Statement) → all_steps frames choices c (s ∷ []) ≡ step frames choices c s
one_step frames choices c s = go (step frames choices c s)
  where
    go : (r : Result (Bool × Carried) Refusal) → unless_closed r (λ d. Ok (false, d)) ≡ r
    go (Err refusal) = refl
    go (Ok (true, d)) = refl
    go (Ok (false, d)) = refl

-- what the code gives by steps, of which the first ones close the program, are refused, or are followed by others
pub closed_by : (frames : List (List ℕ × Point)) (choices : Choices) (c d : Carried) (xs ys : List Statement) → all_steps frames choices c xs ≡ Ok (true, d)
    → all_steps frames choices c (xs ++ ys) ≡ Ok (true, d)
closed_by frames choices c d xs ys h = steps_append frames choices c xs ys ∙ ap (λ (r : Result (Bool × Carried) Refusal). unless_closed r (λ e. all_steps frames choices e ys)) h

pub fails_by : (frames : List (List ℕ × Point)) (choices : Choices) (c d : Carried) (xs ys : List Statement) (fault : StatementFault)
    → GivesStep (Err fault) d (all_steps frames choices c xs) → GivesStep (Err fault) d (all_steps frames choices c (xs ++ ys))
fails_by frames choices c d xs ys (faults.Refused refusal) h =
    steps_append frames choices c xs ys ∙ ap (λ (r : Result (Bool × Carried) Refusal). unless_closed r (λ e. all_steps frames choices e ys)) h
fails_by frames choices c d xs ys faults.Memory h = tt

pub goes_by : (frames : List (List ℕ × Point)) (choices : Choices) (c d e : Carried) (xs ys : List Statement) (r : Result Bool StatementFault)
    → all_steps frames choices c xs ≡ Ok (false, d) → GivesStep r e (all_steps frames choices d ys) → GivesStep r e (all_steps frames choices c (xs ++ ys))
goes_by frames choices c d e xs ys r h g =
    let is : all_steps frames choices c (xs ++ ys) ≡ all_steps frames choices d ys =
    steps_append frames choices c xs ys ∙ ap (λ (r : Result (Bool × Carried) Refusal). unless_closed r (λ e. all_steps frames choices e ys)) h in
    subst (λ (due : Result (Bool × Carried) Refusal). GivesStep r e due) (sym is) g

-- ---- the statement that is noted

notice_left : (choices : Choices) (manual : Bool) (line : ℕ) (f : Filling) → left_out_in choices manual (notice line f) ≡ Some Touched
unfolding keyword_of part_of
notice_left choices manual line f = go choices.skip_manual manual
  where
    go : (a b : Bool) → cond (a && (b && false)) (Some Manual) (Some Touched) ≡ Some Touched
    go true true = refl
    go true false = refl
    go false b = refl

notice_stays : (choices : Choices) (used : List ℕ → Bool) (line : ℕ) (f : Filling) → by_frame choices used (notice line f) ≡ notice line f
unfolding keyword_of
notice_stays choices used line f = go (choices.stored_frames && true)
  where
    go : (b : Bool) → selecting (cond b None None) (notice line f) ≡ notice line f
    go true = refl
    go false = refl

pub notice_next : (frames : List (List ℕ × Point)) (choices : Choices) (c : Carried) (line : ℕ) (f : Filling) → (c.above.number == 0) ≡ false
    → step frames choices c (notice line f) ≡ Ok (false, noted (entered c line) (notice line f) (Some Touched))
notice_next frames choices c line f some = rw (some, notice_left choices (manual_after c.manual (notice line f)) line f) refl

pub notice_first : (frames : List (List ℕ × Point)) (choices : Choices) (c : Carried) (line : ℕ) (f : Filling) → c.above.number ≡ 0
    → step frames choices c (notice line f) ≡ Err NotDmis
unfolding judged_in keyword_of
notice_first frames choices c line f none = rw (none, notice_stays choices (has_name c.used) line f) refl

touch_by_touch : (frames : List (List ℕ × Point)) (choices : Choices) (line : ℕ) (end : Triple) (c : Carried) (touches : List Touch)
    → touch_steps frames choices line end c touches ≡ all_steps frames choices c (there_and_back line end touches)
touch_by_touch frames choices line end c [] = sym (one_step frames choices c (to_centre line end))
touch_by_touch frames choices line end c (t ∷ touches) =
    go (all_steps frames choices c (from_centre line t)) (λ d. touch_by_touch frames choices line end d touches)
    ∙ sym (steps_append frames choices c (from_centre line t) (there_and_back line end touches))
  where
    go : (r : Result (Bool × Carried) Refusal) → ((d : Carried) → touch_steps frames choices line end d touches
        ≡ all_steps frames choices d (there_and_back line end touches))
        → unless_closed r (λ d. touch_steps frames choices line end d touches)
        ≡ unless_closed r (λ d. all_steps frames choices d (there_and_back line end touches))
    go (Err refusal) more = refl
    go (Ok (true, d)) more = refl
    go (Ok (false, d)) more = more d

pub filling_first : (frames : List (List ℕ × Point)) (choices : Choices) (c : Carried) (line : ℕ) (f : Filling) → c.above.number ≡ 0
    → all_steps frames choices c (given_by line (Some f)) ≡ Err NotDmis
filling_first frames choices c line f none = ap (λ (r : Result (Bool × Carried) Refusal). unless_closed r
    (λ d. all_steps frames choices d (there_and_back line f.end f.touches))) (notice_first frames choices c line f none)

pub filling_next : (frames : List (List ℕ × Point)) (choices : Choices) (c d e : Carried) (line : ℕ) (f : Filling) (end : Triple) (touches : List Touch)
    (r : Result Bool StatementFault) → d ≡ noted (entered c line) (notice line f) (Some Touched) → GivesStep r e (touch_steps frames choices line end d touches)
    → end ≡ f.end → touches ≡ f.touches → (c.above.number == 0) ≡ false → GivesStep r e (all_steps frames choices c (given_by line (Some f)))
filling_next frames choices c d e line f end touches r after g at_end all some =
    let is : touch_steps frames choices line end d touches ≡ all_steps frames choices c (given_by line (Some f)) =
    touch_by_touch frames choices line end d touches
    ∙ (ap (λ (x : Triple). all_steps frames choices d (there_and_back line x touches)) at_end
    ∙ (ap (λ (xs : List Touch). all_steps frames choices d (there_and_back line f.end xs)) all
    ∙ (ap (λ (x : Carried). all_steps frames choices x (there_and_back line f.end f.touches)) after
    ∙ sym (ap (λ (r : Result (Bool × Carried) Refusal). unless_closed r (λ d. all_steps frames choices d
    (there_and_back line f.end f.touches))) (notice_next frames choices c line f some))))) in
    subst (λ (due : Result (Bool × Carried) Refusal). GivesStep r e due) is g

-- ---- a statement after what is given before it

due_some : (choices : Choices) (seen : Seen) (s : Statement) (f : Filling) → filling_due seen s ≡ Some f → choices.even_touches ≡ true
    → given_by s.line (Some f) ++ s ∷ [] ≡ touches_due choices seen s ++ s ∷ []
due_some choices seen s f h e = sym (ap (λ (b : Bool). cond b (given_by s.line (filling_due seen s)) [] ++ s ∷ []) e
    ∙ ap (λ (o : Option Filling). given_by s.line o ++ s ∷ []) h)

pub touched_closes : (frames : List (List ℕ × Point)) (choices : Choices) (seen : Seen) (c d : Carried) (s : Statement) (f : Filling)
    → filling_due seen s ≡ Some f → all_steps frames choices c (given_by s.line (Some f)) ≡ Ok (true, d) → choices.even_touches ≡ true
    → touched_step frames choices seen c s ≡ Ok (true, d)
touched_closes frames choices seen c d s f h g e = subst (λ (xs : List Statement). all_steps frames choices c xs ≡ Ok (true, d))
    (due_some choices seen s f h e) (closed_by frames choices c d (given_by s.line (Some f)) (s ∷ []) g)

pub touched_fails : (frames : List (List ℕ × Point)) (choices : Choices) (seen : Seen) (c d : Carried) (s : Statement) (f : Filling) (fault : StatementFault)
    (r : Result Bool StatementFault) → filling_due seen s ≡ Some f → GivesStep (Err fault) d (all_steps frames choices c (given_by s.line (Some f)))
    → r ≡ Err fault → choices.even_touches ≡ true → GivesStep r d (touched_step frames choices seen c s)
touched_fails frames choices seen c d s f fault r h g k e =
    subst (λ (x : Result Bool StatementFault). GivesStep x d (touched_step frames choices seen c s)) (sym k)
    (subst (λ (xs : List Statement). GivesStep (Err fault) d (all_steps frames choices c xs))
    (due_some choices seen s f h e) (fails_by frames choices c d (given_by s.line (Some f)) (s ∷ []) fault g))

pub touched_goes : (frames : List (List ℕ × Point)) (choices : Choices) (seen : Seen) (c d e : Carried) (s : Statement) (f : Filling)
    (r : Result Bool StatementFault) → filling_due seen s ≡ Some f → all_steps frames choices c (given_by s.line (Some f)) ≡ Ok (false, d)
    → GivesStep r e (step frames choices d s) → choices.even_touches ≡ true → GivesStep r e (touched_step frames choices seen c s)
touched_goes frames choices seen c d e s f r h g k asked =
    subst (λ (xs : List Statement). GivesStep r e (all_steps frames choices c xs)) (due_some choices seen s f h asked)
    (goes_by frames choices c d e (given_by s.line (Some f)) (s ∷ []) r g
    (subst (λ (due : Result (Bool × Carried) Refusal). GivesStep r e due) (sym (one_step frames choices d s)) k))

-- ---- texts, part by part

four : (a b c d : List ℕ) → (((a ++ b) ++ c) ++ d) ≡ (a ++ (b ++ (c ++ d)))
four a b c d = append_assoc (a ++ b) c d ∙ append_assoc a b (c ++ d)

five : (a b c d e : List ℕ) → ((((a ++ b) ++ c) ++ d) ++ e) ≡ (a ++ (b ++ (c ++ (d ++ e))))
five a b c d e = four (a ++ b) c d e ∙ append_assoc a b (c ++ (d ++ e))

seven : (a b c d e f g : List ℕ) → (((a ++ (b ++ (c ++ (d ++ e)))) ++ f) ++ g) ≡ (a ++ (b ++ (c ++ (d ++ (e ++ (f ++ g))))))
seven a b c d e f g = ap (λ (x : List ℕ). (x ++ f) ++ g) (sym (five a b c d e)) ∙ (append_assoc ((((a ++ b) ++ c) ++ d) ++ e) f g
    ∙ (append_assoc (((a ++ b) ++ c) ++ d) e (f ++ g) ∙ five a b c d (e ++ (f ++ g))))

parts : (a b c d p q r new : List ℕ) → p ≡ a ++ b → q ≡ p ++ c → r ≡ q ++ d → new ≡ r → new ≡ ((a ++ b) ++ c) ++ d
parts a b c d p q r new h g k l = l ∙ (k ∙ ap (λ (x : List ℕ). x ++ d) (g ∙ ap (λ (x : List ℕ). x ++ c) h))

pub angle_is : (n t : ℕ) (p q r new : List ℕ) → p ≡ codes "360*" → q ≡ p ++ decimal t → r ≡ q ++ codes "/" → new ≡ r ++ decimal n → new ≡ angle_text n t
unfolding angle_text
angle_is n t p q r new h g k l =
    l ∙ (ap (λ (x : List ℕ). x ++ decimal n) (k ∙ ap (λ (x : List ℕ). x ++ codes "/") (g ∙ ap (λ (x : List ℕ). x ++ decimal t) h))
    ∙ (four (codes "360*") (decimal t) (codes "/") (decimal n) ∙ (ap (λ (x : List ℕ). codes "360*" ++ (x ++ (codes "/" ++ decimal n))) (line_digits_are t)
    ∙ ap (λ (x : List ℕ). codes "360*" ++ (line_digits t ++ (codes "/" ++ x))) (line_digits_are n))))

pub touches_are : (count name from old p q r s t new : List ℕ) → p ≡ old ++ count → q ≡ p ++ codes " touches of F(" → r ≡ q ++ name
    → s ≡ r ++ codes "), each from " → t ≡ s ++ from → new ≡ t ++ codes ": see that the way there is free" → new ≡ old ++ touches_text count name from
unfolding touches_text
touches_are count name from old p q r s t new h g k l m is =
    let front = codes " touches of F(" in
    let way = codes "), each from " in
    let free = codes ": see that the way there is free" in
    is ∙ (ap (λ (x : List ℕ). x ++ free) m ∙ (ap (λ (x : List ℕ). (x ++ from) ++ free) (l ∙ (ap (λ (x : List ℕ). x ++ way)
    (parts old count front name p q r r h g k refl) ∙ five old count front name way))
    ∙ seven old count front name way from free))

pub notice_is : (line : ℕ) (f : Filling) (old start said text new count name from : List ℕ) → start ≡ old ++ note_line line → said ≡ start ++ codes "ENDMES is given "
    → text ≡ said ++ touches_text count name from → new ≡ text ++ 10 ∷ [] → count ≡ decimal f.count → name ≡ f.name → from ≡ start_text f.cylinder
    → new ≡ old ++ note_for (notice line f) (Some Touched)
unfolding note_start
notice_is line f old start said text new count name from h g k l of called way =
    let mark = codes "ENDMES is given " in
    let told = touches_text (decimal f.count) f.name (start_text f.cylinder) in
    l ∙ (ap (λ (x : List ℕ). x ++ 10 ∷ []) (parts old (note_line line) mark told start said text text h g
    (k ∙ (ap (λ (x : List ℕ). said ++ touches_text x name from) of ∙ (ap (λ (x : List ℕ). said ++ touches_text (decimal f.count) x from) called
    ∙ ap (λ (x : List ℕ). said ++ touches_text (decimal f.count) f.name x) way))) refl)
    ∙ (five old (note_line line) mark told (10 ∷ [])
    ∙ ap (λ (x : List ℕ). old ++ x) (sym (append_assoc (note_line line) given_word (32 ∷ (told ++ 10 ∷ []))))))

-- ---- a block with its touches

record Counts (above : List Statement) (r : Result StatementMeaning Refusal) (w : Wanted) : Type 0 where
  wanted : bound_count (or_else (bound_said r) (nearest bound_said above)) ≡ Some w.count
  none : touched_with r (touched above) ≡ 0

record Waits (above : List Statement) (w : Wanted) : Type 0 where
  wanted : bound_count (nearest bound_said above) ≡ Some w.count
  none : touched above ≡ 0

begun_counts : (above : List Statement) (circle cylinder : Bool) (r : Result StatementMeaning Refusal) (w : Wanted) → begun circle cylinder r ≡ Some w
    → Counts above r w
begun_counts above circle cylinder (Ok (said.Begins name count)) w h = go (circle || cylinder) h
  where
    go : (b : Bool) → cond b (Some (record { name = name; count = count; cylinder = cylinder })) None ≡ Some w
        → Counts above (Ok (said.Begins name count)) w
    go true g = let e : record { name = name; count = count; cylinder = cylinder } ≡ w = cc in record { wanted = ap (λ (v : Wanted). Some v.count) e; none = refl }
    go false g = absurd cc
begun_counts above circle cylinder (Ok (said.Goes target)) w h = absurd cc
begun_counts above circle cylinder (Ok (said.Touches target direction)) w h = absurd cc
begun_counts above circle cylinder (Ok said.Ends) w h = absurd cc
begun_counts above circle cylinder (Ok (said.Selects name)) w h = absurd cc
begun_counts above circle cylinder (Ok (said.Recalls name)) w h = absurd cc
begun_counts above circle cylinder (Ok said.Closes) w h = absurd cc
begun_counts above circle cylinder (Ok said.Passes) w h = absurd cc
begun_counts above circle cylinder (Err refusal) w h = absurd cc

-- what neither begins nor ends a block, and is no touch
abbrev is_quiet : Keyword → Bool
is_quiet word.Meas = false
is_quiet word.Ptmeas = false
is_quiet word.Endmes = false
is_quiet word.Dmismn = true
is_quiet word.Goto = true
is_quiet word.Snslct = true
is_quiet word.Recall = true
is_quiet word.Endfil = true
is_quiet word.Units = true
is_quiet word.Mode = true
is_quiet word.Definition = true
is_quiet word.Passed = true
is_quiet word.Unknown = true

not_quiet : (k l : Keyword) → is_quiet k ≡ true → is_quiet l ≡ false → k ≡ l → ⊥
not_quiet k l h g e = let both : true ≡ false = sym h ∙ (ap is_quiet e ∙ g) in absurd cc

quiet : (above : List Statement) (k : Keyword) (r : Result StatementMeaning Refusal) (w : Wanted) → is_quiet k ≡ true → IfOk r (SaidBy k)
    → Waits above w → Counts above r w
quiet above k (Ok (said.Begins name count)) w h by g = absurd (not_quiet k word.Meas h refl by.0)
quiet above k (Ok (said.Touches target direction)) w h by g = absurd (not_quiet k word.Ptmeas h refl by.0)
quiet above k (Ok said.Ends) w h by g = absurd (not_quiet k word.Endmes h refl by)
quiet above k (Ok (said.Goes target)) w h by g = record { wanted = g.wanted; none = g.none }
quiet above k (Ok (said.Selects name)) w h by g = record { wanted = g.wanted; none = g.none }
quiet above k (Ok (said.Recalls name)) w h by g = record { wanted = g.wanted; none = g.none }
quiet above k (Ok said.Closes) w h by g = record { wanted = g.wanted; none = g.none }
quiet above k (Ok said.Passes) w h by g = record { wanted = g.wanted; none = g.none }
quiet above k (Err refusal) w h by g = record { wanted = g.wanted; none = g.none }

waits : (above : List Statement) (w : Wanted) → waiting above ≡ Some w → Waits above w
waits [] w h = absurd cc
waits (s ∷ above) w h =
    let c = go (keyword_of s.word) (λ g. waits above w g) h in record { wanted = c.wanted; none = c.none }
  where
    go : (k : Keyword) → (waiting above ≡ Some w → Waits above w) → waiting_after (waiting above) k s ≡ Some w → Counts above (said_of k s) w
    go word.Meas more g = begun_counts above (begins_with (codes "CIRCLE") s.params) (begins_with (codes "CYLNDR") s.params) (said_of word.Meas s) w g
    go word.Ptmeas more g = absurd cc
    go word.Endmes more g = absurd cc
    go word.Dmismn more g = quiet above word.Dmismn (said_of word.Dmismn s) w refl (said_of_if word.Dmismn s) (more g)
    go word.Goto more g = quiet above word.Goto (said_of word.Goto s) w refl (said_of_if word.Goto s) (more g)
    go word.Snslct more g = quiet above word.Snslct (said_of word.Snslct s) w refl (said_of_if word.Snslct s) (more g)
    go word.Recall more g = quiet above word.Recall (said_of word.Recall s) w refl (said_of_if word.Recall s) (more g)
    go word.Endfil more g = quiet above word.Endfil (said_of word.Endfil s) w refl (said_of_if word.Endfil s) (more g)
    go word.Units more g = quiet above word.Units (said_of word.Units s) w refl (said_of_if word.Units s) (more g)
    go word.Mode more g = quiet above word.Mode (said_of word.Mode s) w refl (said_of_if word.Mode s) (more g)
    go word.Definition more g = quiet above word.Definition (said_of word.Definition s) w refl (said_of_if word.Definition s) (more g)
    go word.Passed more g = quiet above word.Passed (said_of word.Passed s) w refl (said_of_if word.Passed s) (more g)
    go word.Unknown more g = quiet above word.Unknown (said_of word.Unknown s) w refl (said_of_if word.Unknown s) (more g)

-- an `ENDMES` that is accepted ends a block with its touches
ends_is : (s : Statement) (m : StatementMeaning) → said_of word.Endmes s ≡ Ok m → m ≡ said.Ends
unfolding said_of said_by
ends_is s m h = go (is_badly_formed word.Endmes s) s.params h
  where
    go : (b : Bool) (params : List (List ℕ)) → cond b (Err BadArguments) (without_parameters said.Ends params) ≡ Ok m
        → m ≡ said.Ends
    go true params g = absurd cc
    go false [] g = cc
    go false (first ∷ rest) g = absurd cc

enough : (frames : List (List ℕ × Point)) (tool : Option (List ℕ)) (count : ℕ) → settled frames tool (Some count) 0 said.Ends ≡ Ok said.Ends
    → (cylinder : Bool) → nat_le (fewest cylinder) count ≡ true → ⊥
enough frames tool count h cylinder g = go (nat_lt 0 count) refl h
  where
    go : (b : Bool) → nat_lt 0 count ≡ b → cond b (Err TooFewPoints) (Ok said.Ends) ≡ Ok said.Ends → ⊥
    go true e k = absurd cc
    go false e k = some cylinder g
      where
        some : (b : Bool) → nat_le (fewest b) count ≡ true → ⊥
        some true f = absurd (grind (arith, nat_tests, e, f))
        some false f = absurd (grind (arith, nat_tests, e, f))

nothing_given : (frames : List (List ℕ × Point)) (above : List Statement) (line : ℕ) (w : Option Wanted) (bores : List ℕ → Option Bore) → waiting above ≡ w
    → settled frames (context_at frames above).tool (context_at frames above).wanted (context_at frames above).touched said.Ends ≡ Ok said.Ends
    → given_by line (filling_of w bores) ≡ []
nothing_given frames above line None bores e h = refl
nothing_given frames above line (Some w) bores e h = go (nat_le (fewest w.cylinder) w.count) refl
  where
    go : (b : Bool) → nat_le (fewest w.cylinder) w.count ≡ b → given_by line (cond (b && nat_le w.count 1000) (filling_with w (bores w.name)) None) ≡ []
    go false g = refl
    go true g =
        let c = waits above w e in
        absurd (enough frames (context_at frames above).tool w.count (rw (c.wanted, c.none) at h) w.cylinder g)

pub accepted_as_it_is : (frames : List (List ℕ × Point)) (above : List Statement) (s : Statement) (m : StatementMeaning)
    → judged frames (context_at frames above) s ≡ Ok m → touches_before above s ≡ []
accepted_as_it_is frames above s m e =
    let a = accepted_if frames (context_at frames above) s m e in
    go (keyword_of s.word) (is_none s.label && (is_bare s.params && not (in_manual above))) a.says a.settles
  where
    go : (k : Keyword) (b : Bool) → said_of k s ≡ Ok m
        → settled frames (context_at frames above).tool (context_at frames above).wanted (context_at frames above).touched m ≡ Ok m
        → cond (is_endmes k && b) (given_by s.line (filling_of (waiting above) (bore_named above))) [] ≡ []
    go word.Endmes true says settles =
        nothing_given frames above s.line (waiting above) (bore_named above) refl (rw (ends_is s m says) at settles)
    go word.Endmes false says settles = refl
    go word.Meas b says settles = refl
    go word.Ptmeas b says settles = refl
    go word.Dmismn b says settles = refl
    go word.Goto b says settles = refl
    go word.Snslct b says settles = refl
    go word.Recall b says settles = refl
    go word.Endfil b says settles = refl
    go word.Units b says settles = refl
    go word.Mode b says settles = refl
    go word.Definition b says settles = refl
    go word.Passed b says settles = refl
    go word.Unknown b says settles = refl

-- ---- laws

pub no_waiting : (above : List Statement) (s : Statement) → waiting above ≡ None → touches_before above s ≡ []
no_waiting above s e = rw e (go (ends_block (in_manual above) s))
  where
    go : (b : Bool) → ◌≡◌ {A = List Statement} (cond b [] []) []
    go true = refl
    go false = refl

not_begun : (k : Keyword) (s : Statement) → (k ≡ word.Meas → ⊥) → waiting_after None k s ≡ None
not_begun word.Meas s h = absurd (h refl)
not_begun word.Ptmeas s h = refl
not_begun word.Endmes s h = refl
not_begun word.Dmismn s h = refl
not_begun word.Goto s h = refl
not_begun word.Snslct s h = refl
not_begun word.Recall s h = refl
not_begun word.Endfil s h = refl
not_begun word.Units s h = refl
not_begun word.Mode s h = refl
not_begun word.Definition s h = refl
not_begun word.Passed s h = refl
not_begun word.Unknown s h = refl

touched_once : (above since : List Statement) (touch : Statement) → keyword_of touch.word ≡ word.Ptmeas
    → AllByRecursion (λ (o : Statement). keyword_of o.word ≡ word.Meas → ⊥) since → waiting (since ++ touch ∷ above) ≡ None
touched_once above [] touch e h = rw e refl
touched_once above (o ∷ since) touch e h = rw (touched_once above since touch e h.1) (not_begun (keyword_of o.word) o h.0)

pub with_touch : (above since : List Statement) (touch s : Statement) → keyword_of touch.word ≡ word.Ptmeas
    → AllByRecursion (λ (o : Statement). keyword_of o.word ≡ word.Meas → ⊥) since → touches_before (since ++ touch ∷ above) s ≡ []
with_touch above since touch s e h = no_waiting (since ++ touch ∷ above) s (touched_once above since touch e h)

-- as many touches as are asked for
touches_count : (bore : Bore) (n t : ℕ) (touches : List Touch) → touches_to bore n t ≡ Some touches → length touches ≡ t
touches_count bore n zero touches h = let e : [] ≡ touches = cc in sym (ap (λ (ts : List Touch). length ts) e)
touches_count bore n (suc t) touches h = go (touches_to bore n t) (touch_at bore n t) refl (λ earlier e. touches_count bore n t earlier e) h
  where
    go : (o : Option (List Touch)) (p : Option Touch) → touches_to bore n t ≡ o
        → ((earlier : List Touch) → touches_to bore n t ≡ Some earlier → length earlier ≡ t) → (o >>= λ earlier. (p >>= λ touch. Some (earlier ++ touch ∷ []))) ≡ Some touches → length touches ≡ suc t
    go None p e more g = absurd cc
    go (Some earlier) None e more g = absurd cc
    go (Some earlier) (Some touch) e more g =
        let is : (earlier ++ touch ∷ []) ≡ touches = cc in
        sym (ap (λ (ts : List Touch). length ts) is) ∙ omega (arith, length-append earlier (touch ∷ []), more earlier e)

-- without one of them there are none
pub none_without : (bore : Bore) (n t m : ℕ) (earlier : List Touch) → touches_to bore n t ≡ Some earlier → touch_at bore n t ≡ None → t < m
    → touches_to bore n m ≡ None
none_without bore n t zero earlier h g few = absurd (omega (arith, few))
none_without bore n t (suc m) earlier h g few = go (nat_lt t m) refl (λ less. none_without bore n t m earlier h g less)
  where
    go : (b : Bool) → nat_lt t m ≡ b → (t < m → touches_to bore n m ≡ None) → touches_to bore n (suc m) ≡ None
    go true e more = rw (more (ltb-true t m e)) refl
    go false e more = let is : m ≡ t = grind (arith, nat_tests, e, few) in rw (is, h, g) refl

pub some_more : (bore : Bore) (n t : ℕ) (earlier new : List Touch) (touch : Touch) → touches_to bore n t ≡ Some earlier → touch_at bore n t ≡ Some touch
    → new ≡ earlier ++ touch ∷ [] → touches_to bore n (t + 1) ≡ Some new
some_more bore n t earlier new touch h g k =
    let next : suc t ≡ t + 1 = omega arith in
    subst (λ (m : ℕ). touches_to bore n m ≡ Some new) next (rw (h, g, k) refl)

touches_kept : (line : ℕ) (c : Triple) (touches : List Touch) → length (filter is_touch (there_and_back line c touches)) ≡ length touches
touches_kept line c [] = refl
touches_kept line c (t ∷ touches) = ap suc (touches_kept line c touches)

-- what holds of all values of a step holds of the value after it
bound : {A B : Type 0} (P : B → Type 0) (o : Option A) (f : A → Option B) (b : B) → ((a : A) → f a ≡ Some b → P b) → (o >>= f) ≡ Some b → P b
bound P None f b more h = absurd cc
bound P (Some a) f b more h = more a h

made_from : (centre : Triple) (radius : Fraction) (way : Triple) (t : Touch) → touch_on centre radius way ≡ Some t → t.from ≡ centre
made_from centre radius way t h = bound from (moved_by centre radius way) _ t (λ place. bound from (numbers_in (codes "0" ∷ codes "0" ∷ codes "0" ∷ [])) _ t
    (λ nowhere. bound from (number_in (codes "-1")) _ t (λ back. bound from (moved_by nowhere back way) _ t
    (λ direction g. let is : record { from = centre; place = place; direction = direction } ≡ t = cc in sym (ap (λ (x : Touch). x.from) is))))) h
  where
    from : Touch → Type 0
    from x = x.from ≡ centre

-- each touch, from the t-th on, is made from where this move ends
abbrev MadeFrom : ℕ → (ℕ → Statement) → ℕ → List Touch → Type 0
MadeFrom line moves t [] = Unit {0}
MadeFrom line moves t (x ∷ touches) = (to_centre line x.from ≡ moves t) × MadeFrom line moves (suc t) touches

one_more_from : (line : ℕ) (moves : ℕ → Statement) (t u : ℕ) (touches : List Touch) (x : Touch) → MadeFrom line moves t touches
    → t + length touches ≡ u → to_centre line x.from ≡ moves u → MadeFrom line moves t (touches ++ x ∷ [])
one_more_from line moves t u [] x h e g = (g ∙ ap moves (sym (let at : t + 0 ≡ u = e in let is : t ≡ u = omega (arith, at) in is)), tt)
one_more_from line moves t u (y ∷ touches) x h e g =
    (h.0, one_more_from line moves (suc t) u touches x h.1 (omega (arith, e)) g)

all_from : (bore : Bore) (n line t : ℕ) (touches : List Touch) → touches_to bore n t ≡ Some touches
    → MadeFrom line (λ u. to_centre line (level_at bore n u).centre) 0 touches
all_from bore n line zero touches h = let e : [] ≡ touches = cc in
    subst (λ (ts : List Touch). MadeFrom line (λ u. to_centre line (level_at bore n u).centre) 0 ts) e tt
all_from bore n line (suc t) touches h = go (touches_to bore n t) (touch_at bore n t) refl refl (λ earlier e. all_from bore n line t earlier e) h
  where
    moves : ℕ → Statement
    moves u = to_centre line (level_at bore n u).centre

    go : (o : Option (List Touch)) (p : Option Touch) → touches_to bore n t ≡ o → touch_at bore n t ≡ p
        → ((earlier : List Touch) → touches_to bore n t ≡ Some earlier → MadeFrom line moves 0 earlier)
        → (o >>= λ earlier. (p >>= λ touch. Some (earlier ++ touch ∷ []))) ≡ Some touches → MadeFrom line moves 0 touches
    go None p e f more g = absurd cc
    go (Some earlier) None e f more g = absurd cc
    go (Some earlier) (Some x) e f more g =
        let is : (earlier ++ x ∷ []) ≡ touches = cc in
        let from : x.from ≡ (level_at bore n t).centre = bound (λ (y : Touch). y.from ≡ (level_at bore n t).centre)
        (outward_at bore.plane (angle_text (level_at bore n t).count (level_at bore n t).touch)) (touch_on (level_at bore n t).centre bore.radius) x
        (λ way k. made_from (level_at bore n t).centre bore.radius way x k) f in
        subst (λ (ts : List Touch). MadeFrom line moves 0 ts) is (one_more_from line moves 0 t earlier x (more earlier e)
        (omega (arith, touches_count bore n t earlier e)) (ap (λ (c : Triple). to_centre line c) from))

each_below : (line : ℕ) (end : Triple) (moves : ℕ → Statement) (t : ℕ) (touches : List Touch) (before : Statement) → MadeFrom line moves t touches
    → EachBelow moves t before (there_and_back line end touches)
each_below line end moves t [] before h = ((λ e. absurd cc), tt)
each_below line end moves t (x ∷ touches) before h = ((λ e. absurd cc), ((λ e. h.0), each_below line end moves (suc t) touches _ h.1))

ends_there : (line : ℕ) (c : Triple) (touches : List Touch) (before : Statement) → last_of before (there_and_back line c touches) ≡ to_centre line c
ends_there line c [] before = refl
ends_there line c (t ∷ touches) before = ends_there line c touches _

record IsFilled (above : List Statement) (line : ℕ) (w : Wanted) (bore : Option Bore) (given : List Statement) : Type 0 where
  count : (given ≡ [] → ⊥) → length (filter is_touch given) ≡ w.count
  back : (b : Bore) (before : Statement) → bore ≡ Some b → (given ≡ [] → ⊥) → last_of before given ≡ to_centre line (end_of b)
  below : (b : Bore) (before : Statement) → bore ≡ Some b → EachBelow (λ t. to_centre line (level_at b w.count t).centre) 0 before given

not_filled : (above : List Statement) (line : ℕ) (w : Wanted) (o : Option Bore) → IsFilled above line w o []
not_filled above line w o =
    record { count = λ some. absurd (some refl); back = λ b before h some. absurd (some refl); below = λ b before h. tt }

filled_by : (above : List Statement) (line : ℕ) (w : Wanted) (bore : Bore) (o : Option (List Touch)) → touches_to bore w.count w.count ≡ o
    → IsFilled above line w (Some bore) (given_by line
    (o >>= λ touches. Some (record { name = w.name; count = w.count; cylinder = w.cylinder; end = end_of bore; touches = touches })))
filled_by above line w bore None e = not_filled above line w (Some bore)
filled_by above line w bore (Some touches) e = record {
  count = λ some. touches_kept line (end_of bore) touches ∙ touches_count bore w.count w.count touches e;
  back = λ b before h some. let is : bore ≡ b = cc in ends_there line (end_of bore) touches _ ∙ ap (λ (x : Bore). to_centre line (end_of x)) is;
  below = λ b before h. let is : bore ≡ b = cc in subst (λ (x : Bore). EachBelow (λ t. to_centre line (level_at x w.count t).centre) 0 before
      (given_by line (Some (record { name = w.name; count = w.count; cylinder = w.cylinder; end = end_of bore; touches = touches })))) is (
        (λ g. absurd cc),
        each_below line (end_of bore) (λ t. to_centre line (level_at bore w.count t).centre) 0 touches _
            (all_from bore w.count line w.count touches e),
      );
}

filled_with : (above : List Statement) (line : ℕ) (w : Wanted) (o : Option Bore) → IsFilled above line w o (given_by line (filling_with w o))
filled_with above line w None = not_filled above line w None
filled_with above line w (Some bore) = go (is_as_asked w.cylinder bore.far)
  where
    go : (b : Bool) → IsFilled above line w (Some bore) (given_by line (cond b (filling_by w bore) None))
    go true = filled_by above line w bore (touches_to bore w.count w.count) refl
    go false = not_filled above line w (Some bore)

filled : (above : List Statement) (s : Statement) (w : Wanted) → waiting above ≡ Some w
    → IsFilled above s.line w (bore_named above w.name) (touches_before above s)
filled above s w e = rw e (go (ends_block (in_manual above) s) (nat_le (fewest w.cylinder) w.count && nat_le w.count 1000))
  where
    go : (a b : Bool) → IsFilled above s.line w (bore_named above w.name)
        (cond a (given_by s.line (cond b (filling_with w (bore_named above w.name)) None)) [])
    go true true = filled_with above s.line w (bore_named above w.name)
    go true false = not_filled above s.line w (bore_named above w.name)
    go false b = not_filled above s.line w (bore_named above w.name)

pub asked_count : (above : List Statement) (s : Statement) (w : Wanted) → waiting above ≡ Some w → (touches_before above s ≡ [] → ⊥)
    → length (filter is_touch (touches_before above s)) ≡ w.count
asked_count above s w e = (filled above s w e).count

pub asked_below : (above : List Statement) (s : Statement) (w : Wanted) (bore : Bore) → waiting above ≡ Some w → bore_named above w.name ≡ Some bore
    → EachBelow (λ t. to_centre s.line (level_at bore w.count t).centre) 0 s (touches_before above s)
asked_below above s w bore e h = (filled above s w e).below bore s h

pub asked_back : (above : List Statement) (s : Statement) (w : Wanted) (bore : Bore) → waiting above ≡ Some w → bore_named above w.name ≡ Some bore
    → (touches_before above s ≡ [] → ⊥) → last_of s (touches_before above s) ≡ to_centre s.line (end_of bore)
asked_back above s w bore e h some = (filled above s w e).back bore s h some
