-- What a subcommand without a fault has found: the values that it cannot do without, each passed by the parser of its argument.
use Rattle.dme_words.proofs.Names.{[], ◌&&◌, ◌++◌, ◌<◌, ◌||◌, ◌∙◌, ◌∷◌, ◌≡◌, action_of, ap, arg_by_id, arith, Bool, bool_text, bytes_eq}
use Rattle.dme_words.proofs.Names.{bytes_eq-Decides, check_fault, check_kinds, codes, cond, default_fault, default_rows, DefaultValue, ErrorKind}
use Rattle.dme_words.proofs.Names.{explicit_source, false, find, finished, first_of, fold, given_default_fault, has_default, has_row, HasAll, HasFlag}
use Rattle.dme_words.proofs.Names.{HasIf, HasRead, HasSigned, HasValue, Held, is_empty, is_some, length, level_fault, List, more_values, ne_eqb}
use Rattle.dme_words.proofs.Names.{negsuc, None, not, nothing_held, one_of, Option, option_map_or, or_else, parser_of_value, pos, read_as, reading_by}
use Rattle.dme_words.proofs.Names.{reading_of, refl, request_kinds, Row, rows_after, Rule, same_Some, settle_fault, settled, Shape, Some, subst, sym}
use Rattle.dme_words.proofs.Names.{Text, true, true≢false, value_kinds, ValueParser, values_fault, walk, walk_fault, walk_from, with_default}
use Rattle.dme_words.proofs.Names.{with_values, ℕ, ℤ}
use Rattle.std.specs.List.{list_any}
use Rattle.clap.specs.Takes.{is_given}
use Rattle.clap.specs.Faults.{defaults_fault}
use Rattle.clap.specs.declared.builder.value_parser.Reading.{Reading}
use Rattle.clap.specs.declared.builder.value_parser.ValueParser.TheVariants.{Bool as OfBool, Boolish, Char, Falsey, Float, Names, NonEmptyString}
use Rattle.clap.specs.declared.builder.value_parser.ValueParser.TheVariants.{Signed, String, Unsigned, Values}
use Rattle.clap.proofs.ValueTestLemmas.{accepts-Accepts}
use Rattle.dme_words.proofs.HelpLemmas.{first_none, second_none, not_empty}
use Rattle.dme_words.proofs.LevelLemmas.{AllFit, Fits, Known, Knows, fit_with, settle_fits, walk_fits}

-- ---- defaults

default_fits : (c : List Rule) (a : Rule) (rows : List Row) → Known c a → default_fault rows a ≡ [] → AllFit c rows
    → AllFit c (with_default rows a)
default_fits c a rows known none fit = go (has_row a.id rows) none
  where
    given : (values : List Text) → cond (is_empty values) [] (given_default_fault a values) ≡ []
        → AllFit c (default_rows a.id (reading_by a) values rows)
    given [] none = fit
    given (v ∷ vs) none =
        let some : is_empty (v ∷ vs) ≡ false = ne_eqb _ _ (λ e. omega arith) in
        fit_with c a DefaultValue (v ∷ vs) rows known.0 (second_none (request_kinds (action_of a)) (values_fault a (v ∷ vs))
        (subst (λ (b : Bool). cond b [] (given_default_fault a (v ∷ vs)) ≡ []) some none)) (omega arith) fit

    go : (b : Bool) → cond (b || is_empty a.defaults) [] (given_default_fault a a.defaults) ≡ []
        → AllFit c (cond b rows (default_rows a.id (reading_by a) a.defaults rows))
    go true none = fit
    go false none = given a.defaults none

pub defaults_fit : (c rules : List Rule) (rows : List Row) → Knows c rules → defaults_fault rows rules ≡ [] → AllFit c rows
    → AllFit c (fold with_default rows rules)
unfolding defaults_fault
defaults_fit c [] rows all none fit = fit
defaults_fit c (a ∷ rest) rows all none fit = defaults_fit c rest (with_default rows a) all.1 (second_none (default_fault rows a) _ none)
    (default_fits c a rows all.0 (first_none _ _ none) fit)

either_kept : (d x y : Bool) → (d || x) ≡ true → (x ≡ true → y ≡ true) → (d || y) ≡ true
either_kept true x y has kept = refl
either_kept false x y has kept = kept has

row_kept : (id other : Text) (how : Reading) (values : List Text) (rows : List Row) → has_row id rows ≡ true
    → has_row id (with_values other how DefaultValue values rows) ≡ true
row_kept id other how values [] has = absurd (true≢false (sym has))
row_kept id other how values (r ∷ rs) has = go (bytes_eq r.id other) (row_kept id other how values rs)
  where
    go : (b : Bool) → (has_row id rs ≡ true → has_row id (with_values other how DefaultValue values rs) ≡ true)
        → has_row id (cond b (more_values DefaultValue values r ++ rs) (r ∷ with_values other how DefaultValue values rs)) ≡ true
    go true behind = has
    go false behind = either_kept (bytes_eq r.id id) (has_row id rs) _ has behind

row_made : (id : Text) (how : Reading) (values : List Text) (rows : List Row)
    → has_row id (with_values id how DefaultValue values rows) ≡ true
row_made id how values [] = ap (λ b. b || false) ((bytes_eq-Decides id id).1 refl)
row_made id how values (r ∷ rs) = go (bytes_eq r.id id) refl (row_made id how values rs)
  where
    go : (b : Bool) → bytes_eq r.id id ≡ b → has_row id (with_values id how DefaultValue values rs) ≡ true
        → has_row id (cond b (more_values DefaultValue values r ++ rs) (r ∷ with_values id how DefaultValue values rs)) ≡ true
    go true is behind = ap (λ b. b || has_row id rs) is
    go false is behind = ap (λ b. b || has_row id (with_values id how DefaultValue values rs)) is ∙ behind

default_keeps : (id : Text) (rows : List Row) (a : Rule) → has_row id rows ≡ true → has_row id (with_default rows a) ≡ true
default_keeps id rows a has = go (has_row a.id rows)
  where
    given : (values : List Text) → has_row id (default_rows a.id (reading_by a) values rows) ≡ true
    given [] = has
    given (v ∷ vs) = row_kept id a.id (reading_by a) (v ∷ vs) rows has

    go : (b : Bool) → has_row id (cond b rows (default_rows a.id (reading_by a) a.defaults rows)) ≡ true
    go true = has
    go false = given a.defaults

default_makes : (rows : List Row) (a : Rule) → 0 < length a.defaults → has_row a.id (with_default rows a) ≡ true
default_makes rows a some = go (has_row a.id rows) refl
  where
    given : (values : List Text) → 0 < length values → has_row a.id (default_rows a.id (reading_by a) values rows) ≡ true
    given [] some = absurd (omega arith)
    given (v ∷ vs) some = row_made a.id (reading_by a) (v ∷ vs) rows

    go : (b : Bool) → has_row a.id rows ≡ b → has_row a.id (cond b rows (default_rows a.id (reading_by a) a.defaults rows)) ≡ true
    go true is = is
    go false is = given a.defaults some

defaults_keep : (id : Text) (rules : List Rule) (rows : List Row) → has_row id rows ≡ true
    → has_row id (fold with_default rows rules) ≡ true
defaults_keep id [] rows has = has
defaults_keep id (a ∷ rest) rows has = defaults_keep id rest (with_default rows a) (default_keeps id rows a has)

-- each argument with a default has a row
abbrev pub HasDefaulted : List Row → List Rule → Type 0
HasDefaulted rows [] = Unit {0}
HasDefaulted rows (a ∷ rest) = (0 < length a.defaults → has_row a.id rows ≡ true) × HasDefaulted rows rest

pub defaulted : (rules : List Rule) (rows : List Row) → HasDefaulted (fold with_default rows rules) rules
defaulted [] rows = tt
defaulted (a ∷ rest) rows =
    (λ some. defaults_keep a.id rest (with_default rows a) (default_makes rows a some), defaulted rest (with_default rows a))

-- ---- what is required

abbrev pub HasNeeded : List Row → List Rule → Type 0
HasNeeded rows [] = Unit {0}
HasNeeded rows (a ∷ rest) = (a.required ≡ true → has_row a.id rows ≡ true) × HasNeeded rows rest

given_there : (id : Text) (rows : List Row) → is_given id rows ≡ true → has_row id rows ≡ true
given_there id [] given = absurd (true≢false (sym given))
given_there id (r ∷ rs) given = go (bytes_eq r.id id) given (given_there id rs)
  where
    go : (b : Bool) → option_map_or (λ r. explicit_source r.source) (cond b (Some r) (find (λ r. bytes_eq r.id id) rs)) false ≡ true
        → (is_given id rs ≡ true → has_row id rs ≡ true) → (b || has_row id rs) ≡ true
    go true given behind = refl
    go false given behind = behind given

needed : (rules : List Rule) (rows : List Row) → list_any (λ a. a.required && not (is_given a.id rows)) rules ≡ false → HasNeeded rows rules
needed [] rows none = tt
needed (a ∷ rest) rows none = (
  λ wanted. given_there a.id rows (first a.required (is_given a.id rows) none wanted),
  needed rest rows (second (a.required && not (is_given a.id rows)) none),
)
  where
    second : (b : Bool) → (b || list_any (λ a. a.required && not (is_given a.id rows)) rest) ≡ false
        → list_any (λ a. a.required && not (is_given a.id rows)) rest ≡ false
    second true none = absurd (true≢false none)
    second false none = none

    first : (b d : Bool) → ((b && not d) || list_any (λ a. a.required && not (is_given a.id rows)) rest) ≡ false → b ≡ true → d ≡ true
    first b true none wanted = refl
    first true false none wanted = absurd (true≢false none)
    first false false none wanted = absurd (true≢false (sym wanted))

wants_none : (a b d : Bool) → check_kinds a b d ≡ [] → d ≡ false
wants_none true b d none = absurd (not_empty _ _ none)
wants_none false true d none = absurd (not_empty _ _ none)
wants_none false false true none = absurd (not_empty _ _ none)
wants_none false false false none = refl

-- ---- a level

-- what a subcommand without a fault has found
record Found (c : List Rule) (rows : List Row) : Type 0 where
  pub fit : AllFit c rows
  pub defaulted : HasDefaulted rows c
  pub needed : HasNeeded rows c

level_found : (s : Shape) (words : List Text) → s.subcommand_negates_reqs ≡ false → Knows s.rules s.rules
    → level_fault s [] nothing_held words false [] ≡ [] → Found s.rules (rows_after s.rules [] words)
level_found s words strict all none =
    let end : Held = (walk s.rules [] nothing_held words).held in
    let walked = walk_fits s [] all (walk_from nothing_held) words (first_none _ _ none) tt in
    let behind : or_else (settle_fault s.rules s.args_override_self end) (or_else (defaults_fault (settled s.rules end).rows s.rules)
    (check_fault s (finished s.rules end) false)) ≡ [] = second_none (walk_fault s [] (walk_from nothing_held) words) _ none in
    let last = second_none (settle_fault s.rules s.args_override_self end) _ behind in
    let checks : check_fault s (finished s.rules end) false ≡ [] = second_none (defaults_fault (settled s.rules end).rows s.rules) _ last in
    let wanted : list_any (λ a. a.required && not (is_given a.id (finished s.rules end))) s.rules ≡ false =
    wants_none _ _ _ (subst (λ (b : Bool). check_kinds (not false
    && (s.arg_required_else_help && not (list_any (λ r. explicit_source r.source) (finished s.rules end))))
    (not false && s.subcommand_required)
    (not (b && false) && list_any (λ a. a.required && not (is_given a.id (finished s.rules end))) s.rules) ≡ []) strict checks) in
    record {
      fit = defaults_fit s.rules s.rules (settled s.rules end).rows all (first_none _ _ last)
          (settle_fits s.rules s.args_override_self all end (first_none _ _ behind) walked);
      defaulted = defaulted s.rules (settled s.rules end).rows;
      needed = needed s.rules (finished s.rules end) wanted;
    }

-- ---- one value

-- the first value of the argument a, which passed
pub record HasPassed (a : Rule) (id : Text) (rows : List Row) : Type 0 where
  pub text : Text
  pub first : first_of id rows ≡ Some text
  pub read : one_of id rows ≡ Some (read_as (reading_by a) text)
  pub passed : value_kinds a.ignore_case (parser_of_value a.parser) text ≡ []

row_passed : (c : List Rule) (a : Rule) (id : Text) (r : Row) (rows : List Row) → arg_by_id c id ≡ Some a → Fits c r → r.id ≡ id
    → find (λ r. bytes_eq r.id id) rows ≡ Some r → HasPassed a id rows
row_passed c a id r rows is fit same found = go r.values refl fit.filled
  where
    rule : fit.rule ≡ a
    rule = same_Some _ _ (sym fit.known ∙ ap (arg_by_id c) same ∙ is)

    go : (values : List Text) → r.values ≡ values → 0 < length values → HasPassed a id rows
    go [] e some = absurd (omega arith)
    go (v ∷ vs) e some = record {
      text = v;
      first = rw (found, e) refl;
      read = rw (found, e, fit.reads, rule) refl;
      passed = first_none _ _ (subst (λ (x : Rule). values_fault x (v ∷ vs) ≡ []) rule
          (subst (λ (xs : List Text). values_fault fit.rule xs ≡ []) e fit.passed));
    }

pub value_passed : (c : List Rule) (a : Rule) (id : Text) (rows : List Row) → arg_by_id c id ≡ Some a → AllFit c rows
    → has_row id rows ≡ true
    → HasPassed a id rows
value_passed c a id rows is fit has = go (find (λ r. bytes_eq r.id id) rows) refl (there rows fit has)
  where
    there : (rows : List Row) → AllFit c rows → has_row id rows ≡ true
        → (r : Row) × (find (λ r. bytes_eq r.id id) rows ≡ Some r) × Fits c r × (r.id ≡ id)
    there [] fit has = absurd (true≢false (sym has))
    there (r ∷ rs) fit has = elim_head (bytes_eq r.id id) refl has (there rs fit.1)
      where
        elim_head : (b : Bool) → bytes_eq r.id id ≡ b → (b || has_row id rs) ≡ true
            → (has_row id rs ≡ true → (r : Row) × (find (λ r. bytes_eq r.id id) rs ≡ Some r) × Fits c r × (r.id ≡ id))
            → (x : Row) × (cond b (Some r) (find (λ r. bytes_eq r.id id) rs) ≡ Some x) × Fits c x × (x.id ≡ id)
        elim_head true e has behind = (r, refl, fit.0, (bytes_eq-Decides r.id id).0 e)
        elim_head false e has behind = behind has

    go : (o : Option Row) → find (λ r. bytes_eq r.id id) rows ≡ o
        → ((r : Row) × (find (λ r. bytes_eq r.id id) rows ≡ Some r) × Fits c r × (r.id ≡ id)) → HasPassed a id rows
    go o e found = row_passed c a id found.0 rows is found.2 found.3 found.1

-- an accepted value
accepted : (a : Bool) (k : ErrorKind) → cond a [] (k ∷ []) ≡ [] → a ≡ true
accepted true k none = refl
accepted false k none = absurd (not_empty _ _ none)

-- an option with a row has a value
has_value : (c : List Rule) (id : Text) (rows : List Row) → is_some (arg_by_id c id) ≡ true → AllFit c rows → has_row id rows ≡ true
    → HasValue id rows
has_value c id rows known fit has = go (arg_by_id c id) refl known
  where
    go : (found : Option Rule) → arg_by_id c id ≡ found → is_some found ≡ true → HasValue id rows
    go None is known = absurd (true≢false (sym known))
    go (Some a) is known = ap is_some (value_passed c a id rows is fit has).first

-- a number with a row is in range
has_number : (c : List Rule) (a : Rule) (id : Text) (low : ℕ) (high : ℤ) (rows : List Row) → arg_by_id c id ≡ Some a
    → a.parser ≡ Some (Signed (pos low) high) → AllFit c rows → has_row id rows ≡ true → HasSigned id (pos low) high rows
has_number c a id low high rows is parser fit has =
    let value = value_passed c a id rows is fit has in
    let ranged : value_kinds a.ignore_case (Signed (pos low) high) value.text ≡ [] =
    subst (λ (o : Option ValueParser). value_kinds a.ignore_case (parser_of_value o) value.text ≡ []) parser value.passed in
    record {
      text = value.text;
      written = value.first;
      read = subst (λ (o : Option ValueParser). one_of id rows ≡ Some (read_as (reading_of (parser_of_value o)) value.text)) parser
          value.read;
      ranged = accepts-Accepts a.ignore_case (Signed (pos low) high) value.text (accepted _ _ ranged);
    }

-- a text that is `true` or `false` writes one of the two
written_bool : (id text : Text) (rows : List Row) → (bytes_eq text (codes "true") || bytes_eq text (codes "false")) ≡ true
    → first_of id rows ≡ Some text → one_of id rows ≡ Some text → HasFlag id rows
written_bool id text rows is first read = go (bytes_eq text (codes "true")) refl (bytes_eq text (codes "false")) refl is
  where
    told : (b : Bool) → text ≡ bool_text b → HasFlag id rows
    told b e = record { is_set = b; written = first ∙ ap (λ (t : Text). Some t) e; read = read ∙ ap (λ (t : Text). Some t) e }

    go : (a : Bool) → bytes_eq text (codes "true") ≡ a → (b : Bool) → bytes_eq text (codes "false") ≡ b → (a || b) ≡ true
        → HasFlag id rows
    go true raised b lowered is = told true ((bytes_eq-Decides text (codes "true")).0 raised)
    go false raised true lowered is = told false ((bytes_eq-Decides text (codes "false")).0 lowered)
    go false raised false lowered is = absurd (true≢false (sym is))

-- the flag with a row is set, or it is not
has_flag : (c : List Rule) (a : Rule) (id : Text) (rows : List Row) → arg_by_id c id ≡ Some a → a.parser ≡ Some OfBool
    → AllFit c rows → has_row id rows ≡ true → HasFlag id rows
has_flag c a id rows is parser fit has =
    let value = value_passed c a id rows is fit has in
    let passed : value_kinds a.ignore_case OfBool value.text ≡ [] =
    subst (λ (o : Option ValueParser). value_kinds a.ignore_case (parser_of_value o) value.text ≡ []) parser value.passed in
    written_bool id value.text rows (accepted _ _ passed) value.first
    (subst (λ (o : Option ValueParser). one_of id rows ≡ Some (read_as (reading_of (parser_of_value o)) value.text)) parser
    value.read)

-- an argument with a row has what its parser asks for
has_read : (c : List Rule) (a : Rule) (p : Option ValueParser) (rows : List Row) → arg_by_id c a.id ≡ Some a → a.parser ≡ p
    → AllFit c rows → has_row a.id rows ≡ true → HasRead p a.id rows
has_read c a (Some OfBool) rows is parser fit has = has_flag c a a.id rows is parser fit has
has_read c a (Some (Signed (pos low) high)) rows is parser fit has = has_number c a a.id low high rows is parser fit has
has_read c a (Some (Signed (negsuc low) high)) rows is parser fit has = has_value c a.id rows (ap is_some is) fit has
has_read c a None rows is parser fit has = has_value c a.id rows (ap is_some is) fit has
has_read c a (Some String) rows is parser fit has = has_value c a.id rows (ap is_some is) fit has
has_read c a (Some NonEmptyString) rows is parser fit has = has_value c a.id rows (ap is_some is) fit has
has_read c a (Some Boolish) rows is parser fit has = has_value c a.id rows (ap is_some is) fit has
has_read c a (Some Falsey) rows is parser fit has = has_value c a.id rows (ap is_some is) fit has
has_read c a (Some (Unsigned low high)) rows is parser fit has = has_value c a.id rows (ap is_some is) fit has
has_read c a (Some Float) rows is parser fit has = has_value c a.id rows (ap is_some is) fit has
has_read c a (Some Char) rows is parser fit has = has_value c a.id rows (ap is_some is) fit has
has_read c a (Some (Names names)) rows is parser fit has = has_value c a.id rows (ap is_some is) fit has
has_read c a (Some (Values values)) rows is parser fit has = has_value c a.id rows (ap is_some is) fit has

-- an argument that is needed or has a default has a row
has_one : (c : List Rule) (a : Rule) (rows : List Row) → arg_by_id c a.id ≡ Some a → AllFit c rows
    → (0 < length a.defaults → has_row a.id rows ≡ true) → (a.required ≡ true → has_row a.id rows ≡ true)
    → HasIf (a.required || has_default a.defaults) (HasRead a.parser a.id rows)
has_one c a rows is fit defaulted needed = go a.required refl a.defaults refl
  where
    go : (r : Bool) → a.required ≡ r → (values : List Text) → a.defaults ≡ values
        → HasIf (r || has_default values) (HasRead a.parser a.id rows)
    go true wanted values same = has_read c a a.parser rows is refl fit (needed wanted)
    go false wanted [] same = tt
    go false wanted (v ∷ vs) same =
        has_read c a a.parser rows is refl fit (defaulted (subst (λ (xs : List Text). 0 < length xs) (sym same) (omega arith)))

has_all : (c rules : List Rule) (rows : List Row) → Knows c rules → AllFit c rows → HasDefaulted rows rules → HasNeeded rows rules
    → HasAll rules rows
has_all c [] rows all fit defaulted needed = tt
has_all c (a ∷ rest) rows all fit defaulted needed =
    (has_one c a rows all.0.0 fit defaulted.0 needed.0, has_all c rest rows all.1 fit defaulted.1 needed.1)

-- a subcommand without a fault has all its values
pub level_has : (s : Shape) (words : List Text) → s.subcommand_negates_reqs ≡ false → Knows s.rules s.rules
    → level_fault s [] nothing_held words false [] ≡ [] → HasAll s.rules (rows_after s.rules [] words)
level_has s words strict all none =
    let found = level_found s words strict all none in
    has_all s.rules s.rules (rows_after s.rules [] words) all found.fit found.defaulted found.needed
