-- What a client has counted follows its plan, and so do the commands that are open: kept by every reply.
use Rattle.protocol_model.proofs.Names.{[], ◌++◌, ◌+◌, ◌||◌, ◌∙◌, ◌∷◌, ◌≡◌, ◌⊎◌, Act, act_in, act_of, acts_planned, ap, append-nil, append_assoc}
use Rattle.protocol_model.proofs.Names.{AreActs, arith, asks_homed, Becomes, begins_session, Bool, counted_next, Datum, Does, Effect, false}
use Rattle.protocol_model.proofs.Names.{false≢true, followed, heard_in, inl, inr, is_failed, is_homing, judged, Kind, kind_of, length, length-append}
use Rattle.protocol_model.proofs.Names.{List, mark_of, measured, not, OpenCommand, Option, passed_over, Planned, refl, Reply, Some, Stage, Std, subst}
use Rattle.protocol_model.proofs.Names.{suc, sym, Table, Tag, tag_of, tallied, Tally, tells_homed, true, Wanted, without_homing, ℕ}
use Rattle.protocol_model.specs.Replies.{Mark}
use Rattle.protocol_model.proofs.HeardTables.{heard}
use Rattle.protocol_model.proofs.table.Basics.{if_true}
use Rattle.protocol_model.proofs.table.Walks.{two, staged, heard_cases}
use Rattle.protocol_model.proofs.table.Replying.{fine, step_cases, Reads, IsFront, Grows, reads_grows}
use Rattle.protocol_model.proofs.table.Asking.{tells_unasked}
use Rattle.protocol_model.proofs.invariant.Touching.{Keeps, measured_keeps}
use Rattle.protocol_model.proofs.undisturbed_run.Following.{IsAskedBy, IsAsked, AreAsked, asked_at, acts_join, planned_more, act_stands, IsGiven}
use Rattle.protocol_model.proofs.undisturbed_run.Following.{IsFilled, AreFilled, has_datum, AreCalm, HaveTags, kinds_held, kinds_of, becomes_calm}
use Rattle.protocol_model.proofs.undisturbed_run.Following.{becomes_filled, no_closes, no_counts, counts_given}
use Rattle.protocol_model.proofs.undisturbed_run.Homing.{FirstTells, first_tells_front, HasNoHoming, HasNoQuestion, followed_cons}
use Rattle.protocol_model.proofs.undisturbed_run.Homing.{followed_passed, AreQuiet, IsQuestion, IsLeft, Asked, Unasked, IsBefore}
use Rattle.protocol_model.proofs.undisturbed_run.Homing.{IsBehind, answer_of, tells_is}

-- ---- what a reply does to open commands that have not failed

-- nothing to their tags and kinds, or one of them fails
data Kept (hs gs : List OpenCommand) (e : Effect) : Type 0 where
  Same : e ≡ Effect.Quiet → AreCalm gs → AreFilled gs → ((place : ℕ) → HaveTags place hs → HaveTags place gs)
      → kinds_held gs ≡ kinds_held hs → Kept hs gs e
  Broke : e ≡ Effect.Failure → Kept hs gs e

-- or the first is counted, with the data that it asks for
data Moved (hs gs : List OpenCommand) (e : Effect) : Type 0 where
  Stays : Kept hs gs e → Moved hs gs e
  Counted : (h : OpenCommand) (given : Option Datum) → hs ≡ h ∷ gs → e ≡ Effect.Count h.kind given → IsGiven h.kind given → Moved hs gs e

first_kept : (front : Bool) (h : OpenCommand) (hs gs : List OpenCommand) (m : Mark) (e : Effect) (s : Stage) → AreCalm (h ∷ hs)
    → AreFilled (h ∷ hs)
    → judged front h.kind h.stage m ≡ Becomes s → gs ≡ staged h s ∷ hs → e ≡ Effect.Quiet → Kept (h ∷ hs) gs e
first_kept front h hs gs m e s calm filled v g f = subst (λ (l : List OpenCommand). Kept (h ∷ hs) l e) (sym g)
    (Same f (becomes_calm front h.kind h.stage m s calm.0 v, calm.1) (becomes_filled front h.kind h.stage m s v, filled.1)
    (λ place tags. tags) refl)

kept_behind : (h : OpenCommand) (hs rest : List OpenCommand) (e : Effect) → is_failed h.stage ≡ false → IsFilled h.kind h.stage
    → Kept hs rest e
    → Kept (h ∷ hs) (h ∷ rest) e
kept_behind h hs rest e calm filled (Same quiet others fill tags kinds) =
    Same quiet (calm, others) (filled, fill) (λ place t. (t.0, tags (suc place) t.1)) (ap (λ (l : List Kind). h.kind ∷ l) kinds)
kept_behind h hs rest e calm filled (Broke failure) = Broke failure

behind_kept : (hs : List OpenCommand) (t : Tag) (m : Mark) (gs : List OpenCommand) (e : Effect) → AreCalm hs → AreFilled hs
    → heard_in false hs t m ≡ two gs e → Kept hs gs e
behind_kept [] t m gs e calm filled is = absurd (cc)
behind_kept (h ∷ hs) t m gs e calm filled is =
    heard_cases false h hs t m gs e (Kept (h ∷ hs) gs e) is
    (λ s same v g f. first_kept false h hs gs m e s calm filled v g f)
    (λ same v g f. Broke f)
    (λ same v g f. absurd (no_closes false h.kind h.stage m calm.0 v))
    (λ given same v g f. absurd (no_counts h.kind h.stage m given v))
    (λ rest other later g. subst (λ (l : List OpenCommand). Kept (h ∷ hs) l e) (sym g)
    (kept_behind h hs rest e calm.0 filled.0 (behind_kept hs t m rest e calm.1 filled.1 later)))

front_moved : (hs : List OpenCommand) (t : Tag) (m : Mark) (gs : List OpenCommand) (e : Effect) → AreCalm hs → AreFilled hs
    → heard_in true hs t m ≡ two gs e → Moved hs gs e
front_moved [] t m gs e calm filled is = absurd (cc)
front_moved (h ∷ hs) t m gs e calm filled is =
    heard_cases true h hs t m gs e (Moved (h ∷ hs) gs e) is
    (λ s same v g f. Stays (first_kept true h hs gs m e s calm filled v g f))
    (λ same v g f. Stays (Broke f))
    (λ same v g f. absurd (no_closes true h.kind h.stage m calm.0 v))
    (λ given same v g f. Counted h given (ap (λ (l : List OpenCommand). h ∷ l) (sym g)) f (counts_given h.kind h.stage m given filled.0 v))
    (λ rest other later g. Stays (subst (λ (l : List OpenCommand). Kept (h ∷ hs) l e) (sym g)
    (kept_behind h hs rest e calm.0 filled.0 (behind_kept hs t m rest e calm.1 filled.1
    (subst (λ (b : Bool). heard_in b hs t m ≡ two rest e) calm.0 later)))))

-- ---- a client's open commands and its tally follow a plan

-- if nothing has failed: none of the open commands has, their tags are those of their places, with the unsent ones they are what is to
-- be counted, with the counted ones they are as many as were sent, and the question whether the machine is homed is counted or not
pub record IsCalm (told : Bool) (sent finished : List Planned) (hs : List OpenCommand) (y : Tally) : Type 0 where
  pub calm : AreCalm hs
  pub filled : AreFilled hs
  pub tags : HaveTags (length finished) hs
  pub kinds : kinds_held hs ++ kinds_of y.unsent ≡ kinds_of y.todo
  pub places : length finished + length hs ≡ length sent
  pub phase : IsBefore hs y ⊎ IsBehind told y

-- what was sent, and what is counted, are the first commands of the plan as it is followed
pub record IsFollowing (told : Bool) (steps sent : List Planned) (hs : List OpenCommand) (y : Tally) : Type 0 where
  pub whole : sent ++ followed told y.unsent ≡ followed told steps
  pub finished : List Planned
  pub parts : finished ++ followed told y.todo ≡ followed told steps
  pub acts : AreActs y.counted (acts_planned finished)
  pub calm : y.failed ≡ false → IsCalm told sent finished hs y

-- ---- what is counted

abbrev first_kind : List Kind → Kind → Kind
first_kind [] d = d
first_kind (k ∷ ks) d = k

abbrev other_kinds : List Kind → List Kind
other_kinds [] = []
other_kinds (k ∷ ks) = ks

no_kinds : (hs : List OpenCommand) → kinds_held hs ≡ [] → hs ≡ []
no_kinds [] e = refl
no_kinds (h ∷ hs) e = absurd (cc)

held_long : (hs : List OpenCommand) → length (kinds_held hs) ≡ length hs
held_long [] = refl
held_long (h ∷ hs) = ap suc (held_long hs)

kinds_long : (ps : List Planned) → length (kinds_of ps) ≡ length ps
kinds_long [] = refl
kinds_long (p ∷ ps) = ap suc (kinds_long ps)

-- what is left after the first command that is counted: whether the machine is reported to be homed, and the state of the question then
record IsCounted (told : Bool) (h : OpenCommand) (gs : List OpenCommand) (given : Option Datum) (p : Planned) (todo unsent : List Planned)
    (acts : List Act) : Type 0 where
  told_so : tells_homed h.kind given ≡ true → told ≡ true
  no_homing : told ≡ true → is_homing p.command ≡ false
  kinds : kinds_held gs ++ kinds_of (passed_over (tells_homed h.kind given) unsent)
      ≡ kinds_of (passed_over (tells_homed h.kind given) todo)
  phase : (z : Tally) → z.todo ≡ passed_over (tells_homed h.kind given) todo → z.unsent ≡ passed_over (tells_homed h.kind given) unsent
      → z.counted ≡ acts ++ act_of p.does given → IsBefore gs z ⊎ IsBehind told z

-- a command that says nothing: what is left is what was
nothing_told : (told : Bool) (h : OpenCommand) (gs : List OpenCommand) (given : Option Datum) (p : Planned) (todo unsent : List Planned)
    (acts : List Act)
    → asks_homed h.kind ≡ false → (told ≡ true → is_homing p.command ≡ false) → kinds_held gs ++ kinds_of unsent ≡ kinds_of todo
    → ((z : Tally) → z.todo ≡ todo → z.unsent ≡ unsent → z.counted ≡ acts ++ act_of p.does given → IsBefore gs z ⊎ IsBehind told z)
    → IsCounted told h gs given p todo unsent acts
nothing_told told h gs given p todo unsent acts asks homes kinds phase =
    let quiet : tells_homed h.kind given ≡ false = tells_unasked h.kind given asks in
    record {
      told_so = λ e. absurd (false≢true (sym quiet ∙ e));
      no_homing = homes;
      kinds = ap (λ (t : Bool). kinds_held gs ++ kinds_of (passed_over t unsent)) quiet
          ∙ (kinds ∙ ap (λ (t : Bool). kinds_of (passed_over t todo)) (sym quiet));
      phase = λ z e f. phase z (e ∙ ap (λ (t : Bool). passed_over t todo) quiet) (f ∙ ap (λ (t : Bool). passed_over t unsent) quiet);
    }

-- the question is counted with its answer
question_told : (told : Bool) (h : OpenCommand) (gs : List OpenCommand) (given : Option Datum) (ask home : Planned)
    (rest unsent : List Planned)
    (question : IsQuestion ask home rest) (acts : List Act)
    → h.kind ≡ Kind.IsHomed → gs ≡ [] → unsent ≡ home ∷ rest → (homed : Bool) → given ≡ Some (Datum.Homed homed) → homed ≡ told
    → IsCounted told h gs given ask (home ∷ rest) unsent acts
question_told told h gs given ask home rest unsent question acts kind_is none left homed is same =
    let tells : tells_homed h.kind given ≡ told = ap (λ (k : Kind). tells_homed k given) kind_is
    ∙ (ap (λ (o : Option Datum). tells_homed Kind.IsHomed o) is ∙ (tells_is homed ∙ same)) in
    record {
      told_so = λ e. sym tells ∙ e;
      no_homing = λ e. ap is_homing question.asks;
      kinds = ap (λ (l : List OpenCommand). kinds_held l ++ kinds_of (passed_over (tells_homed h.kind given) unsent)) none
          ∙ ap (λ (l : List Planned). kinds_of (passed_over (tells_homed h.kind given) l)) left;
      phase = λ z e f c. inr (record {
        no_question = subst HasNoQuestion (sym (e ∙ ap (λ (t : Bool). passed_over t (home ∷ rest)) tells)) (asks_none told);
        todo = λ t. subst HasNoHoming (sym (e ∙ (ap (λ (b : Bool). passed_over b (home ∷ rest)) (tells ∙ t) ∙ passed))) question.no_homing;
        unsent = λ t. subst HasNoHoming (sym (f ∙ (ap (λ (l : List Planned). passed_over (tells_homed h.kind given) l) left
            ∙ (ap (λ (b : Bool). passed_over b (home ∷ rest)) (tells ∙ t) ∙ passed)))) question.no_homing;
      });
    }
  where
    passed : without_homing (home ∷ rest) ≡ rest
    passed = if_true {A = List Planned} (is_homing home.command) rest (home ∷ rest) question.homes

    asks_none : (b : Bool) → HasNoQuestion (passed_over b (home ∷ rest))
    asks_none false = (question.asks_no_more, question.no_question)
    asks_none true = subst HasNoQuestion (sym passed) question.no_question

too_long : (hs : List OpenCommand) (gs : List OpenCommand) (later rest : List Planned) (ask home : Planned) (k : Kind)
    → k ∷ (kinds_held gs ++ kinds_of (later ++ ask ∷ home ∷ rest)) ≡ kinds_of (ask ∷ home ∷ rest) → ⊥
too_long hs gs later rest ask home k e =
    let a : suc (length (kinds_held gs ++ kinds_of (later ++ ask ∷ home ∷ rest))) ≡ suc (suc (length (kinds_of rest))) = ap length e in
    let b : length (kinds_held gs ++ kinds_of (later ++ ask ∷ home ∷ rest))
    ≡ length (kinds_held gs) + length (kinds_of (later ++ ask ∷ home ∷ rest)) = length-append _ _ in
    let c : length (kinds_of (later ++ ask ∷ home ∷ rest)) ≡ length (later ++ ask ∷ home ∷ rest) = kinds_long _ in
    let d : length (later ++ ask ∷ home ∷ rest) ≡ length later + suc (suc (length rest)) = length-append later _ in
    let f : length (kinds_of rest) ≡ length rest = kinds_long rest in
    omega (arith, a, b, c, d, f)

-- the first of the plan's commands that are not counted, where the question is not counted
counted_before : (told : Bool) (h : OpenCommand) (gs : List OpenCommand) (given : Option Datum) (p : Planned) (todo unsent : List Planned)
    (acts : List Act) (quiet : List Planned) (ask home : Planned) (rest : List Planned) (question : IsQuestion ask home rest)
    → AreQuiet quiet → p ∷ todo ≡ quiet ++ ask ∷ home ∷ rest → acts ≡ [] → IsLeft (h ∷ gs) quiet ask home rest unsent
    → kinds_held (h ∷ gs) ++ kinds_of unsent ≡ kinds_of (p ∷ todo) → IsGiven h.kind given → FirstTells told (acts ++ act_of p.does given)
    → IsCounted told h gs given p todo unsent acts
counted_before told h gs given p todo unsent acts (q ∷ quiet) ask home rest question q_quiet is none left kinds fit tells =
    let first : p ≡ q = ap (λ (l : List Planned). first_of l q) is in
    let others : todo ≡ quiet ++ ask ∷ home ∷ rest = ap others_of is in
    let same : h.kind ≡ kind_of p.command = ap (λ (l : List Kind). first_kind l h.kind) kinds in
    nothing_told told h gs given p todo unsent acts
    (ap asks_homed same ∙ (ap (λ (x : Planned). asks_homed (kind_of x.command)) first ∙ q_quiet.0.asks))
    (λ e. ap (λ (x : Planned). is_homing x.command) first ∙ q_quiet.0.homes)
    (ap other_kinds kinds)
    (λ z e f c. inl (record {
      quiet = quiet;
      are_quiet = q_quiet.1;
      ask = ask;
      home = home;
      rest = rest;
      question = question;
      todo = e ∙ others;
      counted = c ∙ (ap (λ (d : Does). acts ++ act_of d given) (ap (λ (x : Planned). x.does) first ∙ q_quiet.0.nothing)
          ∙ (append-nil acts ∙ none));
      left = subst (IsLeft gs quiet ask home rest) (sym f) (behind left);
    }))
  where
    first_of : List Planned → Planned → Planned
    first_of [] d = d
    first_of (x ∷ xs) d = x

    others_of : List Planned → List Planned
    others_of [] = []
    others_of (x ∷ xs) = xs

    behind : IsLeft (h ∷ gs) (q ∷ quiet) ask home rest unsent → IsLeft gs quiet ask home rest unsent
    behind (Asked e k) = Asked e (ap other_kinds k)
    behind (Unasked later are e) = Unasked later are e
counted_before told h gs given p todo unsent acts [] ask home rest question q_quiet is none left kinds fit tells = go left
  where
    first_of : List Planned → Planned → Planned
    first_of [] d = d
    first_of (x ∷ xs) d = x

    others_of : List Planned → List Planned
    others_of [] = []
    others_of (x ∷ xs) = xs

    first : p ≡ ask
    first = ap (λ (l : List Planned). first_of l p) is

    others : todo ≡ home ∷ rest
    others = ap others_of is

    same : h.kind ≡ Kind.IsHomed
    same = ap (λ (l : List Kind). first_kind l h.kind) kinds
        ∙ (ap (λ (x : Planned). kind_of x.command) first ∙ ap kind_of question.asks)

    answer : (homed : Bool) × (given ≡ Some (Datum.Homed homed))
    answer = answer_of given (subst (λ (k : Kind). IsGiven k given) same fit)

    told_is : answer.0 ≡ told
    told_is = subst (λ (l : List Act). FirstTells told l) (ap (λ (l : List Act). l ++ act_of p.does given) none
        ∙ (ap (λ (d : Does). act_of d given) (ap (λ (x : Planned). x.does) first ∙ question.does)
        ∙ ap (λ (o : Option Datum). act_of Does.AsksHomed o) answer.1)) tells

    go : IsLeft (h ∷ gs) [] ask home rest unsent → IsCounted told h gs given p todo unsent acts
    go (Asked e k) = subst (λ (x : Planned). IsCounted told h gs given x todo unsent acts) (sym first)
        (subst (λ (l : List Planned). IsCounted told h gs given ask l unsent acts) (sym others)
        (question_told told h gs given ask home rest unsent question acts same (no_kinds gs (ap other_kinds k)) e answer.0 answer.1
        told_is))
    go (Unasked later are e) = absurd (too_long gs gs later rest ask home h.kind
        (ap (λ (l : List Planned). h.kind ∷ (kinds_held gs ++ kinds_of l)) (sym e) ∙ (kinds ∙ ap kinds_of is)))

-- and if it is
counted_behind : (told : Bool) (h : OpenCommand) (gs : List OpenCommand) (given : Option Datum) (p : Planned) (todo unsent : List Planned)
    (acts : List Act) → HasNoQuestion (p ∷ todo) → (told ≡ true → HasNoHoming (p ∷ todo)) → (told ≡ true → HasNoHoming unsent)
    → kinds_held (h ∷ gs) ++ kinds_of unsent ≡ kinds_of (p ∷ todo) → IsCounted told h gs given p todo unsent acts
counted_behind told h gs given p todo unsent acts no_question no_homing left kinds =
    let same : h.kind ≡ kind_of p.command = ap (λ (l : List Kind). first_kind l h.kind) kinds in
    nothing_told told h gs given p todo unsent acts (ap asks_homed same ∙ no_question.0) (λ e. (no_homing e).0) (ap other_kinds kinds)
    (λ z e f c. inr (record {
      no_question = subst HasNoQuestion (sym e) no_question.1;
      todo = λ t. subst HasNoHoming (sym e) (no_homing t).1;
      unsent = λ t. subst HasNoHoming (sym f) (left t);
    }))

counted_phase : (told : Bool) (h : OpenCommand) (gs : List OpenCommand) (given : Option Datum) (p : Planned) (todo : List Planned)
    (y : Tally)
    → y.todo ≡ p ∷ todo → IsBefore (h ∷ gs) y ⊎ IsBehind told y → kinds_held (h ∷ gs) ++ kinds_of y.unsent ≡ kinds_of (p ∷ todo)
    → IsGiven h.kind given → FirstTells told (y.counted ++ act_of p.does given) → IsCounted told h gs given p todo y.unsent y.counted
counted_phase told h gs given p todo y is (inl b) kinds fit tells =
    counted_before told h gs given p todo y.unsent y.counted b.quiet b.ask b.home b.rest b.question b.are_quiet (sym is ∙ b.todo) b.counted
    b.left kinds fit tells
counted_phase told h gs given p todo y is (inr b) kinds fit tells =
    counted_behind told h gs given p todo y.unsent y.counted (subst HasNoQuestion is b.no_question)
    (λ t. subst HasNoHoming is (b.todo t)) b.unsent kinds

-- the first command of a list that is to be counted
counts : (ws : List Wanted) (told : Bool) (steps sent : List Planned) (h : OpenCommand) (gs : List OpenCommand) (y : Tally)
    (given : Option Datum)
    (finished todo : List Planned) → y.todo ≡ todo
    → AreAsked (followed told steps) → sent ++ followed told y.unsent ≡ followed told steps
    → finished ++ followed told todo ≡ followed told steps
    → AreActs y.counted (acts_planned finished) → y.failed ≡ false → IsCalm told sent finished (h ∷ gs) y → IsGiven h.kind given
    → FirstTells told (counted_next ws h.kind given todo y).counted → IsFollowing told steps sent gs (counted_next ws h.kind given todo y)
counts ws told steps sent h gs y given finished [] todo_is asked whole parts acts failed calm fit tells =
    absurd (go (calm.kinds ∙ ap kinds_of todo_is))
  where
    go : h.kind ∷ (kinds_held gs ++ kinds_of y.unsent) ≡ [] → ⊥
    go e = cc
counts ws told steps sent h gs y given finished (p ∷ rest) todo_is asked whole parts acts failed calm fit tells =
    let t : Bool = tells_homed h.kind given in
    let mid : Tally = record y {
      session = y.session || begins_session h.kind;
      todo = passed_over t rest;
      unsent = passed_over t y.unsent;
      counted = y.counted ++ act_of p.does given;
      completed = suc y.completed;
    } in
    let next : Tally = measured ws p.does given mid in
    let keeps : Keeps mid next = measured_keeps ws p.does given mid in
    let kinds : kinds_held (h ∷ gs) ++ kinds_of y.unsent ≡ kinds_of (p ∷ rest) = calm.kinds ∙ ap kinds_of todo_is in
    let c : IsCounted told h gs given p rest y.unsent y.counted =
    counted_phase told h gs given p rest y todo_is calm.phase kinds fit (subst (FirstTells told) keeps.counted tells) in
    let cut : finished ++ p ∷ followed told rest ≡ followed told steps = ap (λ (l : List Planned). finished ++ l)
    (sym (followed_cons told p rest c.no_homing)) ∙ parts in
    let one : IsAsked p = asked_at finished p (followed told rest) (subst AreAsked (sym cut) asked) in
    let same : kind_of p.command ≡ h.kind = sym (ap (λ (l : List Kind). first_kind l h.kind) kinds) in
    record {
      whole = ap (λ (l : List Planned). sent ++ followed told l) keeps.unsent
          ∙ (ap (λ (l : List Planned). sent ++ l) (followed_passed told t y.unsent c.told_so) ∙ whole);
      finished = finished ++ p ∷ [];
      parts = ap (λ (l : List Planned). (finished ++ p ∷ []) ++ followed told l) keeps.todo
          ∙ (ap (λ (l : List Planned). (finished ++ p ∷ []) ++ l) (followed_passed told t rest c.told_so)
          ∙ (append_assoc finished (p ∷ []) (followed told rest) ∙ cut));
      acts = subst (λ (l : List Act). AreActs l (acts_planned (finished ++ p ∷ []))) (sym keeps.counted)
          (subst (λ (l : List Does). AreActs (y.counted ++ act_of p.does given) l) (sym (planned_more finished (p ∷ [])))
          (acts_join y.counted (act_of p.does given) (acts_planned finished) (acts_planned (p ∷ [])) acts
          (subst (λ (l : List Does). AreActs (act_of p.does given) l) (sym (append-nil (act_in p.does)))
          (act_stands p.does given (has_datum p.does h.kind given (subst (λ (k : Kind). IsAskedBy p.does k) same one) fit)))));
      calm = λ e. record {
        calm = calm.calm.1;
        filled = calm.filled.1;
        tags = subst (λ (k : ℕ). HaveTags k gs) (longer finished p) calm.tags.1;
        kinds = ap (λ (l : List Planned). kinds_held gs ++ kinds_of l) keeps.unsent ∙ (c.kinds ∙ ap kinds_of (sym keeps.todo));
        places = omega (arith, calm.places, longer finished p);
        phase = c.phase next keeps.todo keeps.unsent keeps.counted;
      };
    }
  where
    longer : (xs : List Planned) (x : Planned) → suc (length xs) ≡ length (xs ++ x ∷ [])
    longer xs x = omega (arith, length-append xs (x ∷ []))

-- ---- every reply

-- where something has failed, nothing is counted
abbrev IsUncounted : Effect → Type 0
IsUncounted Effect.Quiet = Unit {0}
IsUncounted Effect.Failure = Unit {0}
IsUncounted (Effect.Count k given) = ⊥

uncounted : (hs : List OpenCommand) (t : Tag) (m : Mark) (gs : List OpenCommand) (e : Effect) → heard_in false hs t m ≡ two gs e
    → IsUncounted e
uncounted [] t m gs e is = absurd (cc)
uncounted (h ∷ hs) t m gs e is =
    heard_cases false h hs t m gs e (IsUncounted e) is
    (λ s same v g f. subst IsUncounted (sym f) tt)
    (λ same v g f. subst IsUncounted (sym f) tt)
    (λ same v g f. subst IsUncounted (sym f) tt)
    (λ given same v g f. absurd (no_counts h.kind h.stage m given v))
    (λ rest other later g. uncounted hs t m rest e later)

stays_failed : (ws : List Wanted) (told : Bool) (steps sent : List Planned) (hs gs : List OpenCommand) (y : Tally) (e : Effect)
    → IsFollowing told steps sent hs y → y.failed ≡ true → IsUncounted e → IsFollowing told steps sent gs (tallied ws e y)
stays_failed ws told steps sent hs gs y Effect.Quiet f failed un =
    record { whole = f.whole; finished = f.finished; parts = f.parts; acts = f.acts; calm = λ e. absurd (false≢true (sym e ∙ failed)) }
stays_failed ws told steps sent hs gs y Effect.Failure f failed un =
    record { whole = f.whole; finished = f.finished; parts = f.parts; acts = f.acts; calm = λ e. absurd (false≢true (sym e)) }
stays_failed ws told steps sent hs gs y (Effect.Count k given) f failed un = absurd un

same_before : (hs gs : List OpenCommand) (y : Tally) → kinds_held gs ≡ kinds_held hs → IsBefore hs y → IsBefore gs y
same_before hs gs y kinds b = record {
  quiet = b.quiet;
  are_quiet = b.are_quiet;
  ask = b.ask;
  home = b.home;
  rest = b.rest;
  question = b.question;
  todo = b.todo;
  counted = b.counted;
  left = go b.left;
}
  where
    go : IsLeft hs b.quiet b.ask b.home b.rest y.unsent → IsLeft gs b.quiet b.ask b.home b.rest y.unsent
    go (Asked e k) = Asked e (kinds ∙ k)
    go (Unasked later are e) = Unasked later are e

same_phase : (told : Bool) (hs gs : List OpenCommand) (y : Tally) → kinds_held gs ≡ kinds_held hs → IsBefore hs y ⊎ IsBehind told y
    → IsBefore gs y ⊎ IsBehind told y
same_phase told hs gs y kinds (inl b) = inl (same_before hs gs y kinds b)
same_phase told hs gs y kinds (inr b) = inr b

moved_follows : (ws : List Wanted) (told : Bool) (steps sent : List Planned) (hs gs : List OpenCommand) (y : Tally) (e : Effect)
    → AreAsked (followed told steps) → (f : IsFollowing told steps sent hs y) → y.failed ≡ false → Moved hs gs e
    → FirstTells told (tallied ws e y).counted → IsFollowing told steps sent gs (tallied ws e y)
moved_follows ws told steps sent hs gs y e asked f failed (Stays (Same quiet calm filled tags kinds)) tells =
    let c : IsCalm told sent f.finished hs y = f.calm failed in
    let long : length gs ≡ length hs = sym (held_long gs) ∙ (ap length kinds ∙ held_long hs) in
    subst (λ (x : Effect). IsFollowing told steps sent gs (tallied ws x y)) (sym quiet) (record {
      whole = f.whole;
      finished = f.finished;
      parts = f.parts;
      acts = f.acts;
      calm = λ still. record {
        calm = calm;
        filled = filled;
        tags = tags (length f.finished) c.tags;
        kinds = ap (λ (l : List Kind). l ++ kinds_of y.unsent) kinds ∙ c.kinds;
        places = omega (arith, c.places, long);
        phase = same_phase told hs gs y kinds c.phase;
      };
    })
moved_follows ws told steps sent hs gs y e asked f failed (Stays (Broke failure)) tells =
    subst (λ (x : Effect). IsFollowing told steps sent gs (tallied ws x y)) (sym failure)
    (record { whole = f.whole; finished = f.finished; parts = f.parts; acts = f.acts; calm = λ still. absurd (false≢true (sym still)) })
moved_follows ws told steps sent hs gs y e asked f failed (Counted h given is count fit) tells =
    subst (λ (x : Effect). IsFollowing told steps sent gs (tallied ws x y)) (sym count)
    (counts ws told steps sent h gs y given f.finished y.todo refl asked f.whole f.parts f.acts failed
    (subst (λ (l : List OpenCommand). IsCalm told sent f.finished l y) is (f.calm failed)) fit
    (subst (λ (x : Effect). FirstTells told (tallied ws x y).counted) count tells))

standard_follows : (ws : List Wanted) (told : Bool) (steps sent : List Planned) (hs gs : List OpenCommand) (y : Tally) (t : Tag) (m : Mark)
    (e : Effect)
    → AreAsked (followed told steps) → IsFollowing told steps sent hs y → (b : Bool) → y.failed ≡ b
    → heard_in (not y.failed) hs t m ≡ two gs e → FirstTells told (tallied ws e y).counted → IsFollowing told steps sent gs (tallied ws e y)
standard_follows ws told steps sent hs gs y t m e asked f true failed is tells =
    stays_failed ws told steps sent hs gs y e f failed (uncounted hs t m gs e
    (subst (λ (b : Bool). heard_in (not b) hs t m ≡ two gs e) failed is))
standard_follows ws told steps sent hs gs y t m e asked f false calm is tells =
    let c : IsCalm told sent f.finished hs y = f.calm calm in
    moved_follows ws told steps sent hs gs y e asked f calm (front_moved hs t m gs e c.calm c.filled
    (subst (λ (b : Bool). heard_in (not b) hs t m ≡ two gs e) calm is)) tells

-- each reply leaves a table that follows the plan
abbrev pub Follows : Bool → List Planned → List Planned → Table → Type 0
Follows told steps sent b = IsFollowing told steps sent b.standard b.tally

-- after a reply what is counted still follows the plan, where the first act that is counted says what is reported
pub heard_follows : (ws : List Wanted) (told : Bool) (steps sent : List Planned) → AreAsked (followed told steps) → (b : Table) (t : Tag)
    (m : Mark) (c : Table)
    → heard ws b t m ≡ fine c → FirstTells told c.tally.counted → Follows told steps sent b → Follows told steps sent c
heard_follows ws told steps sent asked b t m c is tells f =
    step_cases ws b t m c (Follows told steps sent c) is
    (λ zero_tag same. subst (Follows told steps sent) same f)
    (λ n hs e tag here after. subst (Follows told steps sent) (sym after)
    (standard_follows ws told steps sent b.standard hs b.tally (Std n) m e asked f b.tally.failed refl here
    (subst (λ (x : Table). FirstTells told x.tally.counted) after tells)))
    (λ n hs e tag other here after. subst (Follows told steps sent) (sym after) f)

-- so it does after replies, one after another
pub reads_follow : (ws : List Wanted) (told : Bool) (steps sent : List Planned) → AreAsked (followed told steps) → (rs : List Reply)
    (b c : Table) → Reads ws b rs c → FirstTells told c.tally.counted → Follows told steps sent b → Follows told steps sent c
reads_follow ws told steps sent asked [] b c reads tells f = subst (Follows told steps sent) reads f
reads_follow ws told steps sent asked (r ∷ rs) b c reads tells f =
    let grows : Grows reads.0.tally c.tally = reads_grows ws rs reads.0 c reads.2 in
    let front : IsFront reads.0.tally.counted c.tally.counted = grows.counted in
    reads_follow ws told steps sent asked rs reads.0 c reads.2 tells
    (heard_follows ws told steps sent asked b (tag_of r) (mark_of r) reads.0 reads.1
    (first_tells_front told reads.0.tally.counted front.0 (subst (FirstTells told) (sym front.1) tells)) f)
