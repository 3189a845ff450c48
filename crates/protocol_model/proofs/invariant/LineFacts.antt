-- Small facts on lines that run, wait and come.
use Rattle.protocol_model.proofs.Names.{[], ◌&&◌, ◌++◌, ◌||◌, ◌∙◌, ◌∷◌, ◌≡◌, ◌≤◌, ap, append_assoc, arith, asks_homed, Bool, Command, count_open}
use Rattle.protocol_model.proofs.Names.{Does, false, false≢true, is_asking, is_clear, is_clearing, is_event_tag, is_held, kind_of, length}
use Rattle.protocol_model.proofs.Names.{length-append, Line, List, None, Ok, OpenCommand, Option, Planned, refl, runs_under, Some, Std, subst, suc}
use Rattle.protocol_model.proofs.Names.{sym, Tag, tag_is, true, waits_under}
use Rattle.dme_line.specs.declared.tags.Tag.TheVariants.{Event}
use Rattle.protocol_model.proofs.table.Basics.{if_cases, if_false, tag_is-refl, tag_is-true}
use Rattle.protocol_model.proofs.table.Walks.{AreDistinct}
use Rattle.protocol_model.proofs.invariant.Holding.{listed, received, sent_now, all_received, all_sent, all_wait, AreStandard, AreNoClears}
use Rattle.protocol_model.proofs.invariant.Holding.{IsClearFirst, IsAskedLast, commands_of, commands_in}
use Rattle.protocol_model.proofs.table.Asking.{AskNothing, ask_nothing}

-- if one tag differs from another, the other differs from the one
pub tag_is_false : (t u : Tag) → tag_is t u ≡ false → tag_is u t ≡ false
tag_is_false t u e = go (tag_is u t) refl
  where
    go : (b : Bool) → tag_is u t ≡ b → tag_is u t ≡ false
    go false f = f
    go true f = let same : tag_is t u ≡ true = subst (λ (x : Tag). tag_is t x ≡ true) (sym (tag_is-true u t f)) (tag_is-refl t)
        in absurd (false≢true (sym e ∙ same))

-- the first of these that come is not among those that are received
held_parts : (t : Tag) (h : OpenCommand) (hs : List OpenCommand) → is_held t (h ∷ hs) ≡ false
    → (tag_is h.tag t ≡ false) × (is_held t hs ≡ false)
held_parts t h hs e = if_cases {A = Bool} (tag_is h.tag t) true (is_held t hs) false ((tag_is h.tag t ≡ false) × (is_held t hs ≡ false)) e
    (λ same no_way. absurd (false≢true (sym no_way)))
    (λ other rest. (other, rest))

-- a tag that is not held in two lists together is not held in the second
pub not_held_behind : (t : Tag) (xs ys : List OpenCommand) → is_held t (xs ++ ys) ≡ false → is_held t ys ≡ false
not_held_behind t [] ys e = e
not_held_behind t (x ∷ xs) ys e = not_held_behind t xs ys (held_parts t x (xs ++ ys) e).1

-- nor in the first
pub not_held_before : (t : Tag) (xs ys : List OpenCommand) → is_held t (xs ++ ys) ≡ false → is_held t xs ≡ false
not_held_before t [] ys e = refl
not_held_before t (x ∷ xs) ys e = let parts = held_parts t x (xs ++ ys) e
    in if_false {A = Bool} (tag_is x.tag t) true (is_held t xs) parts.0 ∙ not_held_before t xs ys parts.1

-- if each tag is held once, the tag of a command is not held before it
pub apart_from : (xs : List OpenCommand) (y : OpenCommand) (ys : List OpenCommand) → AreDistinct (xs ++ y ∷ ys) → is_held y.tag xs ≡ false
apart_from [] y ys d = refl
apart_from (x ∷ xs) y ys d =
    let here : tag_is y.tag x.tag ≡ false = (held_parts x.tag y ys (not_held_behind x.tag xs (y ∷ ys) d.0)).0 in
    if_false {A = Bool} (tag_is x.tag y.tag) true (is_held y.tag xs) (tag_is_false y.tag x.tag here) ∙ apart_from xs y ys d.1

waits_not : (t : Tag) (queued : List Line) → is_held t (all_received queued) ≡ false → waits_under t (all_wait queued) ≡ false
waits_not t [] e = refl
waits_not t (l ∷ ls) e = let parts = held_parts t (received l) (all_received ls) e
    in ap (λ (b : Bool). b || waits_under t (all_wait ls)) parts.0 ∙ waits_not t ls parts.1

-- a tag that is held by none of the received commands neither runs nor waits
pub not_in_use : (t : Tag) (running : Option Line) (queued : List Line) → is_held t (all_received (listed running ++ queued)) ≡ false
    → (runs_under t running || waits_under t (all_wait queued)) ≡ false
not_in_use t None queued e = waits_not t queued e
not_in_use t (Some l) queued e = let parts = held_parts t (received l) (all_received queued) e
    in ap (λ (b : Bool). b || waits_under t (all_wait queued)) parts.0 ∙ waits_not t queued parts.1

-- an event tag is not the tag of a standard line
event_not_held : (t : Tag) (ls : List Line) → AreStandard ls → is_event_tag t ≡ true → is_held t (all_received ls) ≡ false
event_not_held t [] sorts e = refl
event_not_held t (l ∷ ls) sorts e = if_false {A = Bool} (tag_is l.tag t) true (is_held t (all_received ls)) (apart l.tag t sorts.0 e)
    ∙ event_not_held t ls sorts.2 e
  where
    apart : (u v : Tag) → is_event_tag u ≡ false → is_event_tag v ≡ true → tag_is u v ≡ false
    apart (Std n) (Std m) a b = absurd (false≢true b)
    apart (Std n) (Event m) a b = refl
    apart (Event n) v a b = absurd (false≢true (sym a))

-- nor does an event tag, where only standard lines run and wait
pub event_not_in_use : (t : Tag) (running : Option Line) (queued : List Line) → AreStandard (listed running ++ queued)
    → is_event_tag t ≡ true → (runs_under t running || waits_under t (all_wait queued)) ≡ false
event_not_in_use t running queued sorts e = not_in_use t running queued (event_not_held t (listed running ++ queued) sorts e)

-- ---- lists of lines

-- if two lists together are standard lines, so is the first
pub standard_before : (xs ys : List Line) → AreStandard (xs ++ ys) → AreStandard xs
standard_before [] ys h = tt
standard_before (x ∷ xs) ys h = (h.0, h.1, standard_before xs ys h.2)

-- and so is the second
pub standard_behind : (xs ys : List Line) → AreStandard (xs ++ ys) → AreStandard ys
standard_behind [] ys h = h
standard_behind (x ∷ xs) ys h = standard_behind xs ys h.2

-- where in two lists together a line that asks is the last, it is so in the second
pub asked_behind : (xs ys : List Line) → IsAskedLast (xs ++ ys) → IsAskedLast ys
asked_behind [] ys h = h
asked_behind (x ∷ xs) ys h = asked_behind xs ys h.1

-- if none of the lines asks, any line may follow them
pub asked_more : (xs ys : List Line) (l : Line) → is_asking (all_received xs ++ all_sent ys) ≡ false → IsAskedLast ((xs ++ ys) ++ l ∷ [])
asked_more [] [] l h = ((λ e. refl), tt)
asked_more [] (y ∷ ys) l h = let a : AskNothing (sent_now y) (all_sent ys) = ask_nothing (sent_now y) (all_sent ys) h in (
  (λ e. absurd (never (asks_homed (kind_of y.command)) e a.first)),
  asked_more [] ys l a.others,
)
  where
    never : (asks : Bool) → asks ≡ true → (asks && true) ≡ false → ⊥
    never true e f = false≢true (sym f)
    never false e f = false≢true e
asked_more (x ∷ xs) ys l h =
    let a : AskNothing (received x) (all_received xs ++ all_sent ys) = ask_nothing (received x) (all_received xs ++ all_sent ys) h in (
      (λ e. absurd (never (asks_homed (kind_of x.command)) e a.first)),
      asked_more xs ys l a.others,
    )
  where
    never : (asks : Bool) → asks ≡ true → (asks && true) ≡ false → ⊥
    never true e f = false≢true (sym f)
    never false e f = false≢true e

-- two lists of standard lines are such lines together
pub standard_join : (xs ys : List Line) → AreStandard xs → AreStandard ys → AreStandard (xs ++ ys)
standard_join [] ys h g = g
standard_join (x ∷ xs) ys h g = (h.0, h.1, standard_join xs ys h.2 g)

-- where two lists of lines together have no ClearAllErrors, the second has none
pub no_clears_behind : (xs ys : List Line) → AreNoClears (xs ++ ys) → AreNoClears ys
no_clears_behind [] ys h = h
no_clears_behind (x ∷ xs) ys h = no_clears_behind xs ys h.1

-- two lists of lines without ClearAllErrors have none together
pub no_clears_join : (xs ys : List Line) → AreNoClears xs → AreNoClears ys → AreNoClears (xs ++ ys)
no_clears_join [] ys h g = g
no_clears_join (x ∷ xs) ys h g = (h.0, no_clears_join xs ys h.1 g)

-- lines without ClearAllErrors have none out of its place, whether anything has failed or not
pub clear_first_none : (failed : Bool) (ls : List Line) → AreNoClears ls → IsClearFirst failed ls
clear_first_none failed [] h = tt
clear_first_none failed (l ∷ ls) h = ((λ e. absurd (false≢true (sym h.0 ∙ e))), h.1)

-- two lists of received lines: the open commands of the first, then those of the second
pub received_more : (xs ys : List Line) → all_received (xs ++ ys) ≡ all_received xs ++ all_received ys
received_more [] ys = refl
received_more (x ∷ xs) ys = ap (λ (l : List OpenCommand). received x ∷ l) (received_more xs ys)

-- two lists of lines that were just sent, likewise
pub sent_more : (xs ys : List Line) → all_sent (xs ++ ys) ≡ all_sent xs ++ all_sent ys
sent_more [] ys = refl
sent_more (x ∷ xs) ys = ap (λ (l : List OpenCommand). sent_now x ∷ l) (sent_more xs ys)

-- what waits of two lists of lines: that of the first, then that of the second
pub wait_more : (xs ys : List Line) → all_wait (xs ++ ys) ≡ all_wait xs ++ all_wait ys
wait_more [] ys = refl
wait_more (x ∷ xs) ys = ap (λ (l : List _). record { tag = x.tag; reading = Ok x.command } ∷ l) (wait_more xs ys)

-- one more after what runs and waits: the same lines in all
pub one_behind : (busy queued : List Line) (x : Line) (coming : List Line)
    → busy ++ (queued ++ x ∷ coming) ≡ busy ++ ((queued ++ x ∷ []) ++ coming)
one_behind busy queued x coming = ap (λ (l : List Line). busy ++ l) (sym (append_assoc queued (x ∷ []) coming))

-- a command received after what runs and waits is open like one more line that waits last
pub received_behind : (busy queued : List Line) (x : Line) (coming : List Line)
    → all_received (busy ++ queued) ++ received x ∷ all_sent coming ≡ all_received (busy ++ (queued ++ x ∷ [])) ++ all_sent coming
received_behind busy queued x coming =
    sym (append_assoc (all_received (busy ++ queued)) (received x ∷ []) (all_sent coming))
    ∙ ap (λ (l : List OpenCommand). l ++ all_sent coming) (sym (received_more (busy ++ queued) (x ∷ []))
    ∙ ap all_received (append_assoc busy queued (x ∷ [])))

-- ---- how many

count_received : (ls : List Line) (hs : List OpenCommand) → length ls ≤ count_open (all_received ls ++ hs)
count_received [] hs = omega arith
count_received (l ∷ ls) hs = let rest = count_received ls hs in omega arith

-- as many wait as there are lines
pub wait_long : (ls : List Line) → length (all_wait ls) ≡ length ls
wait_long [] = refl
wait_long (l ∷ ls) = ap suc (wait_long ls)

-- no more lines wait than commands are open
pub few_wait : (busy queued : List Line) (hs : List OpenCommand) → length queued ≤ count_open (all_received (busy ++ queued) ++ hs)
few_wait busy queued hs = omega (arith, count_received (busy ++ queued) hs, length-append busy queued)

-- ---- commands

-- a server and a client take the same commands for ClearAllErrors
pub clear_same : (c : Command) → is_clear (Ok c) ≡ is_clearing c
clear_same Command.StartSession = refl
clear_same Command.EndSession = refl
clear_same Command.ClearAllErrors = refl
clear_same Command.IsHomed = refl
clear_same Command.Home = refl
clear_same Command.OnPtMeasReport = refl
clear_same (Command.GoTo p) = refl
clear_same (Command.PtMeas p d) = refl
clear_same (Command.ChangeTool n) = refl
clear_same (Command.SetCsyTransformation p) = refl
clear_same (Command.SetCoordSystem system) = refl
clear_same Command.AbortE = refl

-- the commands of two lists of lines: those of the first, then those of the second
pub commands_more : (xs ys : List Line) → commands_in (xs ++ ys) ≡ commands_in xs ++ commands_in ys
commands_more [] ys = refl
commands_more (x ∷ xs) ys = ap (λ (l : List Command). x.command ∷ l) (commands_more xs ys)

-- the commands of two lists of steps, likewise
pub steps_more : (xs ys : List Planned) → commands_of (xs ++ ys) ≡ commands_of xs ++ commands_of ys
steps_more [] ys = refl
steps_more (x ∷ xs) ys = ap (λ (l : List Command). x.command ∷ l) (steps_more xs ys)

-- steps that mean no lines are the empty list; those that mean a line and others are a first step and others
pub no_steps : (steps : List Planned) → commands_of steps ≡ [] → steps ≡ []
no_steps [] e = refl
no_steps (p ∷ ps) e = absurd (cc)

-- the first of these steps has this command, and the rest have the others
pub record IsFirstStep (steps : List Planned) (c : Command) (others : List Command) : Type 0 where
  pub does : Does
  pub rest : List Planned
  pub is : steps ≡ record { command = c; does = does } ∷ rest
  pub commands : commands_of rest ≡ others

abbrev head_or : List Command → Command → Command
head_or [] d = d
head_or (c ∷ cs) d = c

abbrev tail_of : List Command → List Command
tail_of [] = []
tail_of (c ∷ cs) = cs

-- steps whose commands are this one and others begin with such a first step
pub first_step : (steps : List Planned) (c : Command) (others : List Command) → commands_of steps ≡ c ∷ others → IsFirstStep steps c others
first_step [] c others e = absurd (cc)
first_step (p ∷ ps) c others e =
    let same : p.command ≡ c = ap (λ (l : List Command). head_or l c) e in
    record {
      does = p.does;
      rest = ps;
      is = ap (λ (x : Command). record { command = x; does = p.does } ∷ ps) same;
      commands = ap tail_of e;
    }
