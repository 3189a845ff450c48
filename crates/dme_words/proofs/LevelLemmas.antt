-- What a level of the command line without a fault has found: each value has passed the parser of its argument.
use Rattle.dme_words.proofs.Names.{[], ◌&&◌, ◌++◌, ◌<◌, ◌∙◌, ◌∷◌, ◌≡◌, ◌⊎◌, action_fault, action_of, after_flag, after_step, ap, arg_by_id}
use Rattle.dme_words.proofs.Names.{arg_by_index, arg_by_long, arg_by_short, arith, attached_value, Bool, bundle, bundle_fault, bundle_step}
use Rattle.dme_words.proofs.Names.{bundle_step_fault, bytes_eq, bytes_eq-Decides, chars, CommandLine, cond, done, drop}
use Rattle.dme_words.proofs.Names.{encode_utf8, false, find, flag_met, flag_word_fault, fold, Held, idle, inl, inr, is_pending, Kinds}
use Rattle.dme_words.proofs.Names.{length, List, long_fault, long_met, long_of, long_or_other, more_values, most_values, next, None, none-some}
use Rattle.dme_words.proofs.Names.{Option, option, option_fault, option_map_or, option_met, option_word, or_else, other_fault, Outcome, plain}
use Rattle.dme_words.proofs.Names.{plain_word, positional, positional_fault, positional_held, range_kinds, react_fault, reacted, reading_by, refl}
use Rattle.dme_words.proofs.Names.{refused, repeat_fault, Row, Rule, same_Some, set_fault, settle_fault, settled, settled_rows, Shape, short_fault}
use Rattle.dme_words.proofs.Names.{short_met, short_of, short_or_plain, slice_get, Some, Step, step_fault, subcommand, subcommand_met}
use Rattle.dme_words.proofs.Names.{subcommand_or_other, subst, suc, sym, takes_several, takes_values, Text, to_positional, trailing, true, turn_fault}
use Rattle.dme_words.proofs.Names.{unwrap_or_range, use_fault, used, used_as, value, ValueParser, values_fault, values_kinds, values_or_missing}
use Rattle.dme_words.proofs.Names.{Waiting, waits, Walk, walked_from, with_values, without, word_fault, word_met, zero, ℕ}
use Rattle.clap.specs.Walk.{Names, bundle_met, walked}
use Rattle.clap.specs.Faults.{flags_fault, walk_fault}
use Rattle.clap.specs.declared.builder.action.ArgAction.{ArgAction}
use Rattle.clap.specs.declared.builder.action.ArgAction.TheVariants.{Append, Help, Set, SetTrue}
use Rattle.clap.specs.declared.builder.range.ValueRange.{ValueRange}
use Rattle.clap.specs.declared.parser.matches.ValueSource.{ValueSource}
use Rattle.dme_words.proofs.HelpLemmas.{first_none, second_none, not_empty}

-- an argument that the rules know by its id, and that has one value, or one at each use, or is a flag, or asks for help
abbrev pub Known : List Rule → Rule → Type 0
Known c a = (arg_by_id c a.id ≡ Some a)
    × (((action_of a ≡ Set) × (a.range ≡ Some (record { start_inclusive = 1; end_inclusive = 1 })))
    ⊎ ((action_of a ≡ SetTrue) × (0 < length a.missing)) ⊎ (action_of a ≡ Help)
    ⊎ ((action_of a ≡ Append) × (a.range ≡ Some (record { start_inclusive = 1; end_inclusive = 1 }))))

abbrev pub Knows : List Rule → List Rule → Type 0
Knows c [] = Unit {0}
Knows c (a ∷ rest) = Known c a × Knows c rest

-- the row is that of an argument of the rules, and its values have passed
pub record Fits (c : List Rule) (r : Row) : Type 0 where
  pub rule : Rule
  pub known : arg_by_id c r.id ≡ Some rule
  pub passed : values_fault rule r.values ≡ []
  pub filled : 0 < length r.values
  pub reads : r.reading ≡ reading_by rule

abbrev pub AllFit : List Rule → List Row → Type 0
AllFit c [] = Unit {0}
AllFit c (r ∷ rs) = Fits c r × AllFit c rs

pub known_found : (c : List Rule) (p : Rule → Bool) (rules : List Rule) (a : Rule) → Knows c rules → find p rules ≡ Some a → Known c a
known_found c p [] a all e = absurd (none-some _ e)
known_found c p (x ∷ xs) a all e = go (p x) e (known_found c p xs a all.1)
  where
    go : (b : Bool) → cond b (Some x) (find p xs) ≡ Some a → (find p xs ≡ Some a → Known c a) → Known c a
    go true e behind = subst (Known c) (same_Some _ _ e) all.0
    go false e behind = behind e

-- values after values
both_pass : (again : Bool) (parser : ValueParser) (xs ys : List Text) → values_kinds again parser xs ≡ []
    → values_kinds again parser ys ≡ []
    → values_kinds again parser (xs ++ ys) ≡ []
both_pass again parser [] ys first second = second
both_pass again parser (x ∷ xs) ys first second =
    ap (λ (k : Kinds). or_else k (values_kinds again parser (xs ++ ys))) (first_none _ _ first)
    ∙ both_pass again parser xs ys (second_none _ _ first) second

more_than : {A : Type 0} (xs ys : List A) → 0 < length xs → 0 < length (xs ++ ys)
more_than [] ys lt = absurd (omega arith)
more_than (x ∷ xs) ys lt = omega arith

module _ (c : List Rule) where
  fit_without : (id : Text) (rows : List Row) → AllFit c rows → AllFit c (without id rows)
  fit_without id [] fit = tt
  fit_without id (r ∷ rs) fit = go (bytes_eq r.id id) (fit_without id rs fit.1)
    where
      go : (b : Bool) → AllFit c (without id rs) → AllFit c (cond b ([] ++ rs) (r ∷ without id rs))
      go true behind = fit.1
      go false behind = (fit.0, behind)

  pub fit_with : (a : Rule) (s : ValueSource) (values : List Text) (rows : List Row) → arg_by_id c a.id ≡ Some a
      → values_fault a values ≡ []
      → 0 < length values → AllFit c rows → AllFit c (with_values a.id (reading_by a) s values rows)
  fit_with a s values [] is pass some fit = (record { rule = a; known = is; passed = pass; filled = some; reads = refl }, tt)
  fit_with a s values (r ∷ rs) is pass some fit = go (bytes_eq r.id a.id) refl (fit_with a s values rs is pass some fit.1)
    where
      same : bytes_eq r.id a.id ≡ true → a ≡ fit.0.rule
      same e = same_Some _ _ (sym is ∙ sym (ap (arg_by_id c) ((bytes_eq-Decides r.id a.id).0 e)) ∙ fit.0.known)

      go : (b : Bool) → bytes_eq r.id a.id ≡ b → AllFit c (with_values a.id (reading_by a) s values rs)
          → AllFit c (cond b (more_values s values r ++ rs) (r ∷ with_values a.id (reading_by a) s values rs))
      go true e behind = (
        record {
          rule = fit.0.rule;
          known = fit.0.known;
          passed = both_pass _ _ r.values values fit.0.passed (subst (λ (x : Rule). values_fault x values ≡ []) (same e) pass);
          filled = more_than r.values values fit.0.filled;
          reads = fit.0.reads;
        },
        fit.1,
      )
      go false e behind = (fit.0, behind)

  -- one use of an argument
  use_fits : (again : Bool) (a : Rule) (values : List Text) (rows : List Row) → Known c a → use_fault again a values rows ≡ []
      → AllFit c rows → AllFit c (used a values rows)
  use_fits again a values rows known none fit = elim known.1 [
    | inl one ↦ set values one.0 one.1 none
    | inr other ↦ elim other [
      | inl flag ↦ raised values flag.0 flag.1 none
      | inr rest ↦ elim rest [
        | inl help ↦ absurd (not_empty _ _ (subst (λ (x : ArgAction). action_fault x again a (values_or_missing a values) rows ≡ []) help
            (second_none (range_kinds (unwrap_or_range a.range).start_inclusive (most_values a) (length values)) _ none)))
        | inr more ↦ appended values more.0 more.1 none
      ]
    ]
  ]
    where
      passes : (values : List Text)
          → action_fault (action_of a) again a (values_or_missing a values) rows ≡ set_fault again a (values_or_missing a values) rows
          → use_fault again a values rows ≡ [] → values_fault a (values_or_missing a values) ≡ []
      passes values is none = second_none (repeat_fault again a.id rows) _
          (sym is ∙ second_none (range_kinds (unwrap_or_range a.range).start_inclusive (most_values a) (length values)) _ none)

      as_set : (values : List Text) (x : ArgAction) → action_of a ≡ x
          → action_fault (action_of a) again a values rows ≡ action_fault x again a values rows
      as_set values x is = ap (λ (x : ArgAction). action_fault x again a values rows) is

      there : (values : List Text) → 0 < length a.missing → 0 < length (values_or_missing a values)
      there [] some = some
      there (v ∷ vs) some = omega arith

      raised : (values : List Text) → action_of a ≡ SetTrue → 0 < length a.missing → use_fault again a values rows ≡ []
          → AllFit c (used a values rows)
      raised values is some none =
          subst (λ (x : ArgAction). AllFit c (used_as x a.id (reading_by a) (values_or_missing a values) rows)) (sym is)
          (fit_with a CommandLine (values_or_missing a values) (without a.id rows) known.0
          (passes values (as_set (values_or_missing a values) SetTrue is) none) (there values some) (fit_without a.id rows fit))

      set : (values : List Text) → action_of a ≡ Set → a.range ≡ Some (record { start_inclusive = 1; end_inclusive = 1 })
          → use_fault again a values rows ≡ [] → AllFit c (used a values rows)
      set [] is one none = absurd (not_empty _ _ (subst (λ (o : Option ValueRange).
          range_kinds (unwrap_or_range o).start_inclusive (unwrap_or_range o).end_inclusive 0 ≡ []) one (first_none _ _ none)))
      set (v ∷ vs) is one none = subst (λ (x : ArgAction). AllFit c (used_as x a.id (reading_by a) (v ∷ vs) rows)) (sym is)
          (fit_with a CommandLine (v ∷ vs) (without a.id rows) known.0
          (passes (v ∷ vs) (as_set (v ∷ vs) Set is) none) (omega arith) (fit_without a.id rows fit))

      appended : (values : List Text) → action_of a ≡ Append → a.range ≡ Some (record { start_inclusive = 1; end_inclusive = 1 })
          → use_fault again a values rows ≡ [] → AllFit c (used a values rows)
      appended [] is one none = absurd (not_empty _ _ (subst (λ (o : Option ValueRange).
          range_kinds (unwrap_or_range o).start_inclusive (unwrap_or_range o).end_inclusive 0 ≡ []) one (first_none _ _ none)))
      appended (v ∷ vs) is one none = subst (λ (x : ArgAction). AllFit c (used_as x a.id (reading_by a) (v ∷ vs) rows)) (sym is)
          (fit_with a CommandLine (v ∷ vs) rows known.0
          (subst (λ (x : ArgAction). action_fault x again a (v ∷ vs) rows ≡ []) is
          (second_none (range_kinds (unwrap_or_range a.range).start_inclusive (most_values a) (length (v ∷ vs))) _ none)) (omega arith) fit)

  module _ (again : Bool) (all : Knows c c) where
    pub settle_fits : (h : Held) → settle_fault c again h ≡ [] → AllFit c h.rows → AllFit c (settled c h).rows
    settle_fits h none fit = go h.pending none
      where
        by_id : (p : Text × List Text) (found : Option Rule) → arg_by_id c p.0 ≡ found
            → option_map_or (λ a. use_fault again a p.1 h.rows) found [] ≡ []
            → AllFit c (Rattle.clap.specs.Walk.used_by_id found p.1 h.rows)
        by_id p None is none = fit
        by_id p (Some a) is none = use_fits again a p.1 h.rows (known_found c _ c a all is) none fit

        go : (pending : Option (Text × List Text))
            → option_map_or (λ p. option_map_or (λ a. use_fault again a p.1 h.rows) (arg_by_id c p.0) []) pending [] ≡ []
            → AllFit c (settled_rows c pending h.rows)
        go None none = fit
        go (Some p) none = by_id p (arg_by_id c p.0) refl none

    react_fits : (a : Rule) (values : List Text) (h : Held) → Known c a → react_fault c again a values h ≡ [] → AllFit c h.rows
        → AllFit c (reacted c a values h).rows
    react_fits a values h known none fit =
        use_fits again a values (settled c h).rows known (second_none _ _ none) (settle_fits h (first_none _ _ none) fit)

    option_fits : (a : Rule) (v : Option Text) (h : Held) → Known c a → option_fault c again a v h ≡ [] → AllFit c h.rows
        → AllFit c (option_met c a v h).0.rows
    option_fits a (Some v) h known none fit = react_fits a (v ∷ []) h known none fit
    option_fits a None h known none fit = settle_fits h none fit

    long_fits : (found : Option Rule) (v : Option Text) (h : Held) → ((a : Rule) → found ≡ Some a → Known c a)
        → long_fault c again found v h ≡ [] → AllFit c h.rows → AllFit c (long_met c found v h).0.rows
    long_fits None v h known none fit = fit
    long_fits (Some a) v h known none fit = go (takes_values a) v none
      where
        go : (b : Bool) (v : Option Text)
            → cond b (option_fault c again a v h) (cond (Rattle.std.specs.Option.is_some v)
            (Rattle.clap.specs.declared.error.kind.ErrorKind.TheVariants.TooManyValues ∷ []) (react_fault c again a [] h)) ≡ []
            → AllFit c (cond b (option_met c a v h) (flag_met c a v h)).0.rows
        go true v none = option_fits a v h (known a refl) none fit
        go false (Some v) none = fit
        go false None none = react_fits a [] h (known a refl) none fit

    bundle_fits : (k : ℕ) (flags : Text) (skip : ℕ) (so_far : Outcome) (h : Held) → flags_fault c again k flags skip h ≡ []
        → AllFit c h.rows → AllFit c (bundle_met c k flags skip so_far h).0.rows
    unfolding bundle_met flags_fault
    bundle_fits zero flags skip so_far h none fit = fit
    bundle_fits (suc k) flags skip so_far h none fit = go (slice_get (chars flags) 0) skip none (bundle_fits k)
      where
        flag : (x : ℕ) (found : Option Rule) → arg_by_short c x ≡ found → (rest : Text)
            → short_fault c again found rest h (flags_fault c again k rest 0) ≡ []
            → ((flags : Text) (skip : ℕ) (so_far : Outcome) (h : Held) → flags_fault c again k flags skip h ≡ []
            → AllFit c h.rows → AllFit c (bundle_met c k flags skip so_far h).0.rows)
            → AllFit c (short_met c found rest h (bundle_met c k rest 0 done)).0.rows
        flag x None is rest none behind = fit
        flag x (Some a) is rest none behind = which (takes_values a) none
          where
            known : Known c a
            known = known_found c _ c a all is

            which : (b : Bool) → cond b (option_fault c again a (attached_value rest) h)
                (or_else (react_fault c again a [] h) (flags_fault c again k rest 0 (reacted c a [] h))) ≡ []
                → AllFit c (cond b (option_met c a (attached_value rest) h) (bundle_met c k rest 0 done (reacted c a [] h))).0.rows
            which true none = option_fits a (attached_value rest) h known none fit
            which false none = behind rest 0 done (reacted c a [] h) (second_none _ _ none) (react_fits a [] h known
                (first_none _ _ none) fit)

        go : (first : Option ℕ) (skip : ℕ) → bundle_step_fault c again first flags skip h (flags_fault c again k) ≡ []
            → ((flags : Text) (skip : ℕ) (so_far : Outcome) (h : Held) → flags_fault c again k flags skip h ≡ []
            → AllFit c h.rows → AllFit c (bundle_met c k flags skip so_far h).0.rows)
            → AllFit c (bundle_step c first flags skip so_far h (bundle_met c k)).0.rows
        go None skip none behind = fit
        go (Some x) zero none behind = flag x (arg_by_short c x) refl (drop (length (encode_utf8 x)) flags) none behind
        go (Some x) (suc skip) none behind = behind (drop (length (encode_utf8 x)) flags) skip so_far h none fit

    plain_fits : (waiting : Waiting) (word : Text) (h : Held) → AllFit c h.rows → AllFit c (plain_word c waiting word h).0.rows
    plain_fits idle word h fit = fit
    plain_fits positional word h fit = fit
    plain_fits (option id) word h fit = go (arg_by_id c id)
      where
        go : (found : Option Rule) → AllFit c (option_word found id word h).0.rows
        go None = fit
        go (Some a) = fit

    flag_fits : (waiting : Waiting) (word : Text) (h : Held) (o : Outcome) → AllFit c h.rows
        → AllFit c (after_flag c waiting word h o).0.rows
    flag_fits waiting word h done fit = fit
    flag_fits waiting word h (waits id) fit = fit
    flag_fits waiting word h plain fit = plain_fits waiting word h fit
    flag_fits waiting word h refused fit = plain_fits waiting word h fit

    long_known : (name : Text) (found : Option Rule) → arg_by_long c name ≡ found → (a : Rule) → found ≡ Some a → Known c a
    long_known name found is a e = known_found c _ c a all (is ∙ e)

    other_fits : (waiting : Waiting) (word : Text) (long : Option (Text × Option Text)) (h : Held)
        → flag_word_fault c again long word h ≡ []
        → AllFit c h.rows → AllFit c (long_or_other c waiting word long h).0.rows
    other_fits waiting word (Some p) h none fit = flag_fits waiting word (long_met c (arg_by_long c p.0) p.1 h).0
        (long_met c (arg_by_long c p.0) p.1 h).1 (long_fits (arg_by_long c p.0) p.1 h (long_known p.0 _ refl) none fit)
    other_fits waiting word None h none fit = go (short_of word) none
      where
        go : (flags : Option Text) → option_map_or (λ flags. bundle_fault c again flags h) flags [] ≡ []
            → AllFit c (short_or_plain c waiting word flags h).0.rows
        go None none = plain_fits waiting word h fit
        go (Some flags) none = flag_fits waiting word (bundle c flags h).0 (bundle c flags h).1
            (bundle_fits (length flags) flags h.skip plain (record h { skip = 0 }) none fit)

module _ (s : Shape) (names : Names) (all : Knows s.rules s.rules) where
  word_fits : (is_trailing : Bool) (waiting : Waiting) (position : ℕ) (word : Text) (h : Held)
      → word_fault s names is_trailing waiting word h ≡ [] → AllFit s.rules h.rows
      → AllFit s.rules (word_met s.rules names is_trailing waiting position word h).0.rows
  word_fits true waiting position word h none fit = fit
  word_fits false waiting position word h none fit = go (subcommand_met names waiting word) none
    where
      dashes : (b : Bool) → cond b [] (flag_word_fault s.rules s.args_override_self (long_of word) word h) ≡ []
          → AllFit s.rules (cond b (h, trailing position) (long_or_other s.rules waiting word (long_of word) h)).0.rows
      dashes true none = fit
      dashes false none = other_fits s.rules s.args_override_self all waiting word (long_of word) h none fit

      go : (met : Option Text) → other_fault s met word h ≡ []
          → AllFit s.rules (subcommand_or_other s.rules met waiting position word h).0.rows
      go (Some name) none = fit
      go None none = dashes (bytes_eq word (45 ∷ 45 ∷ [])) none

  held_fits : (a : Rule) (word : Text) (h : Held) → positional_fault s.rules s.args_override_self a h ≡ [] → AllFit s.rules h.rows
      → AllFit s.rules (positional_held s.rules a word h).rows
  held_fits a word h none fit = go (is_pending a h.pending && takes_several a) none
    where
      go : (b : Bool) → cond b [] (settle_fault s.rules s.args_override_self h) ≡ [] → AllFit s.rules (cond b h (settled s.rules h)).rows
      go true none = fit
      go false none = settle_fits s.rules s.args_override_self all h none fit

  step_fits : (word : Text) (w : Walk) (h : Held) (step : Step) → step_fault s w.position h step ≡ [] → AllFit s.rules h.rows
      → AllFit s.rules (after_step s.rules word w h step).held.rows
  step_fits word w h (next waiting) none fit = fit
  step_fits word w h (trailing position) none fit = fit
  step_fits word w h (subcommand name) none fit = fit
  step_fits word w h value none fit = go (arg_by_index s.rules w.position) none
    where
      go : (found : Option Rule)
          → option_map_or (λ a. positional_fault s.rules s.args_override_self a h) found (Rattle.clap.specs.Faults.stray_fault s) ≡ []
          → AllFit s.rules (to_positional s.rules found word w h).held.rows
      go None none = fit
      go (Some a) none = held_fits a word h none fit

  turn_fits : (w : Walk) (word : Text) (stopped : Option (Text × List Text)) → w.stopped ≡ stopped → turn_fault s names w word ≡ []
      → AllFit s.rules w.held.rows → AllFit s.rules (walked_from s.rules names stopped w word).held.rows
  turn_fits w word (Some p) is none fit = fit
  turn_fits w word None is none fit =
      let met = word_met s.rules names w.is_trailing w.waiting w.position word w.held in
      let free : or_else (word_fault s names w.is_trailing w.waiting word w.held) (step_fault s w.position met.0 met.1) ≡ [] = rw is at none
      in
      step_fits word w met.0 met.1 (second_none (word_fault s names w.is_trailing w.waiting word w.held) _ free)
      (word_fits w.is_trailing w.waiting w.position word w.held (first_none _ _ free) fit)

  -- the rows of a walk over words without a fault
  pub walk_fits : (w : Walk) (words : List Text) → walk_fault s names w words ≡ [] → AllFit s.rules w.held.rows
      → AllFit s.rules (fold (walked s.rules names) w words).held.rows
  unfolding walked walk_fault
  walk_fits w [] none fit = fit
  walk_fits w (word ∷ words) none fit = walk_fits (walked s.rules names w word) words (second_none (turn_fault s names w word) _ none)
      (turn_fits w word w.stopped refl (first_none _ _ none) fit)
