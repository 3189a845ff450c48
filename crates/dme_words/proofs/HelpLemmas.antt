-- Words without a fault do not call for help: a walk over them does not stop at `help`, and it stops at a subcommand.
use Rattle.dme_words.proofs.Names.{[], ◌∙◌, ◌∷◌, ◌≡◌, after_flag, after_step, ap, App, arg_by_index, arg_by_long, arith, Bool, bundle, bytes_eq}
use Rattle.dme_words.proofs.Names.{check_fault, codes, cond, defaults_fault, done, ErrorKind, false, finished, fold, Held, idle, is_some, Kinds}
use Rattle.dme_words.proofs.Names.{length, level_fault, List, long_met, long_of, long_or_other, names_of, next, None, none-some, Option, option}
use Rattle.dme_words.proofs.Names.{or_else, other_fault, Outcome, plain, plain_word, positional, refl, refused, Row, Rule, same_Some, settle_fault}
use Rattle.dme_words.proofs.Names.{settled, Shape, short_of, short_or_plain, Some, Step, step_fault, subcommand, subcommand_met, subcommand_or_other}
use Rattle.dme_words.proofs.Names.{sym, Text, to_positional, trailing, true, turn_fault, value, Waiting, waits, Walk, walk, walk_from, walked_from}
use Rattle.dme_words.proofs.Names.{word_fault, word_met, ℕ}
use Rattle.clap.specs.Walk.{Names, walked}
use Rattle.clap.specs.Faults.{walk_fault}

-- no list with an element is empty
pub not_empty : {A : Type 0} (x : A) (xs : List A) → x ∷ xs ≡ [] → ⊥
not_empty x xs e = let none : length (x ∷ xs) ≡ 0 = ap length e in omega arith

pub first_none : (a b : Kinds) → or_else a b ≡ [] → a ≡ []
first_none [] b none = refl
first_none (k ∷ ks) b none = none

pub second_none : (a b : Kinds) → or_else a b ≡ [] → b ≡ []
second_none [] b none = none
second_none (k ∷ ks) b none = absurd (not_empty k ks none)

last_none : (a b c d e : Kinds) → or_else a (or_else b (or_else c (or_else d e))) ≡ [] → e ≡ []
last_none a b c d e none = second_none d e (second_none c _ (second_none b _ (second_none a _ none)))

-- the walk has not stopped at `help`
abbrev pub NotAtHelp : Option (Text × List Text) → Type 0
NotAtHelp stopped = (rest : List Text) → stopped ≡ Some (codes "help", rest) → ⊥

-- the word names no subcommand but one other than `help`
abbrev IsNoHelp : Step → Type 0
IsNoHelp (next waiting) = Unit {0}
IsNoHelp (trailing position) = Unit {0}
IsNoHelp (subcommand name) = name ≡ codes "help" → ⊥
IsNoHelp value = Unit {0}

plain_step : (c : List Rule) (waiting : Waiting) (word : Text) (h : Held) → IsNoHelp (plain_word c waiting word h).1
plain_step c idle word h = tt
plain_step c (option id) word h = tt
plain_step c positional word h = tt

flag_step : (c : List Rule) (waiting : Waiting) (word : Text) (h : Held) (o : Outcome) → IsNoHelp (after_flag c waiting word h o).1
flag_step c waiting word h done = tt
flag_step c waiting word h (waits id) = tt
flag_step c waiting word h plain = plain_step c waiting word h
flag_step c waiting word h refused = plain_step c waiting word h

other_step : (c : List Rule) (waiting : Waiting) (word : Text) (long : Option (Text × Option Text)) (h : Held)
    → IsNoHelp (long_or_other c waiting word long h).1
other_step c waiting word (Some p) h = flag_step c waiting word (long_met c (arg_by_long c p.0) p.1 h).0
    (long_met c (arg_by_long c p.0) p.1 h).1
other_step c waiting word None h = go (short_of word)
  where
    go : (flags : Option Text) → IsNoHelp (short_or_plain c waiting word flags h).1
    go (Some flags) = flag_step c waiting word (bundle c flags h).0 (bundle c flags h).1
    go None = plain_step c waiting word h

-- a word without a fault names no `help`
word_step : (s : Shape) (names : Names) (is_trailing : Bool) (waiting : Waiting) (position : ℕ) (word : Text) (h : Held)
    → s.disable_help_subcommand ≡ false → word_fault s names is_trailing waiting word h ≡ []
    → IsNoHelp (word_met s.rules names is_trailing waiting position word h).1
word_step s names true waiting position word h on none = tt
word_step s names false waiting position word h on none = go (subcommand_met names waiting word) none
  where
    dashes : (b : Bool) → IsNoHelp (cond b (h, trailing position) (long_or_other s.rules waiting word (long_of word) h)).1
    dashes true = tt
    dashes false = other_step s.rules waiting word (long_of word) h

    go : (met : Option Text) → other_fault s met word h ≡ [] → IsNoHelp (subcommand_or_other s.rules met waiting position word h).1
    go (Some name) none = λ at_help. not_empty ErrorKind.DisplayHelp _ (rw (at_help, on) at none)
    go None none = dashes (bytes_eq word (45 ∷ 45 ∷ []))

-- a step that names no `help` does not stop there
step_stops : (c : List Rule) (word : Text) (w : Walk) (h : Held) (step : Step)
    → w.stopped ≡ None → IsNoHelp step → NotAtHelp (after_step c word w h step).stopped
step_stops c word w h (next waiting) going free = λ rest at_help. none-some _ (sym going ∙ at_help)
step_stops c word w h (trailing position) going free = λ rest at_help. none-some _ (sym going ∙ at_help)
step_stops c word w h (subcommand name) going free = λ rest at_help. free (ap (λ (p : Text × List Text). p.0) (same_Some _ _ at_help))
step_stops c word w h value going free = go (arg_by_index c w.position)
  where
    go : (a : Option Rule) → NotAtHelp (to_positional c a word w h).stopped
    go None = λ rest at_help. none-some _ (sym going ∙ at_help)
    go (Some a) = λ rest at_help. none-some _ at_help

-- one more word without a fault
turn_stops : (s : Shape) (names : Names) (w : Walk) (word : Text) (stopped : Option (Text × List Text)) → w.stopped ≡ stopped
    → s.disable_help_subcommand ≡ false → NotAtHelp stopped → turn_fault s names w word ≡ []
    → NotAtHelp (walked_from s.rules names stopped w word).stopped
turn_stops s names w word (Some p) is on before none =
    λ rest at_help. before p.1 (ap (λ (name : Text). Some (name, p.1)) (ap (λ (q : Text × List Text). q.0) (same_Some _ _ at_help)))
turn_stops s names w word None is on before none =
    let met = word_met s.rules names w.is_trailing w.waiting w.position word w.held in
    let free : or_else (word_fault s names w.is_trailing w.waiting word w.held) (step_fault s w.position met.0 met.1) ≡ [] = rw is at none
    in
    step_stops s.rules word w met.0 met.1 is (word_step s names w.is_trailing w.waiting w.position word w.held on (first_none _ _ free))

-- words without a fault
pub walk_stops : (s : Shape) (names : Names) (w : Walk) (words : List Text)
    → s.disable_help_subcommand ≡ false → NotAtHelp w.stopped → walk_fault s names w words ≡ []
    → NotAtHelp (fold (walked s.rules names) w words).stopped
unfolding walked walk_fault
walk_stops s names w [] on before none = before
walk_stops s names w (word ∷ words) on before none =
    walk_stops s names (walked s.rules names w word) words on
    (turn_stops s names w word w.stopped refl on before (first_none _ _ none))
    (second_none _ _ none)

-- where a built command's level has no fault, a required subcommand was entered
pub entered_there : (a : App) (h : Held) (words : List Text) (met : Option (Text × List Row)) (below : Kinds)
    → a.top.arg_required_else_help ≡ false → a.top.subcommand_required ≡ true
    → level_fault a.top (names_of a) h words (is_some met) below ≡ [] → is_some met ≡ true
entered_there a h words (Some p) below unasked required none = refl
entered_there a h words None below unasked required none =
    let checks : check_fault a.top (finished a.top.rules (walk a.top.rules (names_of a) h words).held) false ≡ [] =
    last_none (walk_fault a.top (names_of a) (walk_from h) words) below
    (settle_fault a.top.rules a.top.args_override_self (walk a.top.rules (names_of a) h words).held)
    (defaults_fault (settled a.top.rules (walk a.top.rules (names_of a) h words).held).rows a.top.rules) _ none in
    absurd (not_empty ErrorKind.MissingSubcommand [] (rw (unasked, required) at checks))
