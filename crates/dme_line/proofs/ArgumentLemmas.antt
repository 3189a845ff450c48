-- Lists of arguments and their tokens.
use Rattle.dme_line.proofs.Names.{[], ◌++◌, ◌+◌, ◌∙◌, ◌∷◌, ◌≡◌, ◌⊎◌, ap, append_assoc, Argument, argument_tokens, arith, Close, Comma, enclosed}
use Rattle.dme_line.proofs.Names.{get_or, inl, inr, IsPlaceLong, length, List, list_tokens, Open, refl, Single, sym, Token, tokens, Triple, ℕ}

-- a closing parenthesis alone
pub closed_by_one : (bytes : List ℕ) → length bytes ≡ 1 → get_or bytes 0 0 ≡ 41 → tokens bytes ≡ Close ∷ []
closed_by_one [] one mark = absurd (omega (arith, one))
closed_by_one (c ∷ []) one mark = ap (λ (d : ℕ). tokens (d ∷ [])) mark
closed_by_one (c ∷ d ∷ cs) one mark = absurd (omega (arith, one))

-- what follows an argument: the others, each after a comma, and the closing parenthesis
abbrev pub tail_tokens : List Argument → List Token
tail_tokens [] = Close ∷ []
tail_tokens (a ∷ more) = Comma ∷ (argument_tokens a ++ tail_tokens more)

pub list_tokens-tail : (a : Argument) (more : List Argument)
    → list_tokens (a ∷ more) ++ (Close ∷ []) ≡ argument_tokens a ++ tail_tokens more
list_tokens-tail a [] = refl
list_tokens-tail a (b ∷ more) =
    append_assoc (argument_tokens a) (Comma ∷ list_tokens (b ∷ more)) (Close ∷ [])
    ∙ ap (λ (ts : List Token). argument_tokens a ++ (Comma ∷ ts)) (list_tokens-tail b more)

-- an argument and what follows it
pub record SamePair (a b : Argument) (us vs : List Token) : Type 0 where
  pub argument : a ≡ b
  pub behind : us ≡ vs

pub same_argument : (a b : Argument) (us vs : List Token) → argument_tokens a ++ us ≡ argument_tokens b ++ vs → SamePair a b us vs
same_argument (Single n x) (Single m y) us vs e = record { argument = cc; behind = cc }
same_argument (Single n x) (Triple m i j k) us vs e = absurd cc
same_argument (Triple n i j k) (Single m y) us vs e = absurd cc
same_argument (Triple n i j k) (Triple m o p q) us vs e = record { argument = cc; behind = cc }

-- the arguments after one are determined by their tokens
pub same_tail : (args others : List Argument) → tail_tokens args ≡ tail_tokens others → args ≡ others
same_tail [] [] e = refl
same_tail [] (b ∷ others) e = absurd cc
same_tail (a ∷ args) [] e = absurd cc
same_tail (a ∷ args) (b ∷ others) e =
    let behind : argument_tokens a ++ tail_tokens args ≡ argument_tokens b ++ tail_tokens others = cc in
    let p = same_argument a b (tail_tokens args) (tail_tokens others) behind in
    let q = same_tail args others p.behind in
    let r = p.argument in
    cc

-- the tokens of an enclosed list that is not empty
pub enclosed-tail : (a : Argument) (more : List Argument) (ts : List Token) → Open ∷ ts ≡ enclosed (list_tokens (a ∷ more))
    → ts ≡ argument_tokens a ++ tail_tokens more
enclosed-tail a more ts e =
    let t = list_tokens-tail a more in
    cc

-- arguments are determined by their tokens
empty_differs : (a : Argument) (us : List Token) → (Close ∷ []) ≡ argument_tokens a ++ us → ⊥
empty_differs (Single n x) us e = cc
empty_differs (Triple n i j k) us e = cc

abbrev inner : List Argument → List Token
inner args = list_tokens args ++ (Close ∷ [])

same_inner : (args others : List Argument) → inner args ≡ inner others → args ≡ others
same_inner [] [] e = refl
same_inner [] (b ∷ others) e = absurd (empty_differs b (tail_tokens others) (e ∙ list_tokens-tail b others))
same_inner (a ∷ args) [] e = absurd (empty_differs a (tail_tokens args) (sym e ∙ list_tokens-tail a args))
same_inner (a ∷ args) (b ∷ others) e =
    let p = same_argument a b (tail_tokens args) (tail_tokens others) (sym (list_tokens-tail a args) ∙ e ∙ list_tokens-tail b others) in
    let q = same_tail args others p.behind in
    let r = p.argument in
    cc

pub same_arguments : (args others : List Argument) → enclosed (list_tokens args) ≡ enclosed (list_tokens others) → args ≡ others
same_arguments args others e = let f : inner args ≡ inner others = cc in same_inner args others f

-- ---- what is left of a list of three or four as it is read

-- no list of that many arguments is enclosed there
abbrev pub NoPlace : List Token → Type 0
NoPlace ts = (arguments : List Argument) → IsPlaceLong arguments → ts ≡ enclosed (list_tokens arguments) → ⊥

abbrev NoArgument : List Token → Type 0
NoArgument ts = (a : Argument) (us : List Token) → ts ≡ argument_tokens a ++ us → ⊥

abbrev NoNext : List Token → Type 0
NoNext ts = (a : Argument) (us : List Token) → ts ≡ Comma ∷ (argument_tokens a ++ us) → ⊥

-- three or four arguments: two, one more, and at most one more
record IsLong (args : List Argument) : Type 0 where
  a : Argument
  b : Argument
  d : Argument
  more : List Argument
  is : args ≡ a ∷ b ∷ d ∷ more
  few : (more ≡ []) ⊎ ((e : Argument) × (more ≡ e ∷ []))

few_more : (n : ℕ) (args : List Argument) → (length args + 3 ≡ 3) ⊎ (length args + 3 ≡ 4) → (args ≡ []) ⊎ ((e : Argument) × (args ≡ e ∷ []))
few_more n [] h = inl refl
few_more n (a ∷ []) h = inr (a, refl)
few_more n (a ∷ b ∷ args) h = absurd (elim h [ inl e ↦ omega (arith, e) | inr e ↦ omega (arith, e) ])

is_long : (args : List Argument) → IsPlaceLong args → IsLong args
is_long [] h = absurd (elim h [ inl e ↦ omega (arith, e) | inr e ↦ omega (arith, e) ])
is_long (a ∷ []) h = absurd (elim h [ inl e ↦ omega (arith, e) | inr e ↦ omega (arith, e) ])
is_long (a ∷ b ∷ []) h = absurd (elim h [ inl e ↦ omega (arith, e) | inr e ↦ omega (arith, e) ])
is_long (a ∷ b ∷ d ∷ more) h =
    let few : (length more + 3 ≡ 3) ⊎ (length more + 3 ≡ 4) = elim h [ inl e ↦ inl (omega (arith, e)) | inr e ↦ inr (omega (arith, e)) ] in
    record { a = a; b = b; d = d; more = more; is = refl; few = few_more 0 more few }

pub no_first : (ts us : List Token) → ts ≡ Open ∷ us → NoArgument us → NoPlace ts
no_first ts us o none args long e =
    let l = is_long args long in
    none l.a (tail_tokens (l.b ∷ l.d ∷ l.more)) (enclosed-tail l.a (l.b ∷ l.d ∷ l.more) us (sym o ∙ e
    ∙ ap (λ (x : List Argument). enclosed (list_tokens x)) l.is))

-- what is left after the first argument
behind_first : (ts us vs : List Token) (x a : Argument) (more : List Argument) → ts ≡ Open ∷ us → us ≡ argument_tokens x ++ vs
    → ts ≡ enclosed (list_tokens (a ∷ more)) → vs ≡ tail_tokens more
behind_first ts us vs x a more o f e = (same_argument x a vs (tail_tokens more) (sym f ∙ enclosed-tail a more us (sym o ∙ e))).behind

-- and after each further one
behind_next : (us vs : List Token) (x a : Argument) (more : List Argument) → us ≡ Comma ∷ (argument_tokens x ++ vs)
    → us ≡ tail_tokens (a ∷ more) → vs ≡ tail_tokens more
behind_next us vs x a more f e =
    let g : argument_tokens x ++ vs ≡ argument_tokens a ++ tail_tokens more = cc in
    (same_argument x a vs (tail_tokens more) g).behind

pub no_second : (ts us vs : List Token) (x : Argument) → ts ≡ Open ∷ us → us ≡ argument_tokens x ++ vs → NoNext vs → NoPlace ts
no_second ts us vs x o f none args long e =
    let l = is_long args long in
    none l.b (tail_tokens (l.d ∷ l.more)) (behind_first ts us vs x l.a (l.b ∷ l.d ∷ l.more) o f (e
    ∙ ap (λ (y : List Argument). enclosed (list_tokens y)) l.is))

pub no_third : (ts us vs ws : List Token) (x y : Argument) → ts ≡ Open ∷ us → us ≡ argument_tokens x ++ vs
    → vs ≡ Comma ∷ (argument_tokens y ++ ws) → NoNext ws → NoPlace ts
no_third ts us vs ws x y o f g none args long e =
    let l = is_long args long in
    let h = behind_first ts us vs x l.a (l.b ∷ l.d ∷ l.more) o f (e ∙ ap (λ (z : List Argument). enclosed (list_tokens z)) l.is) in
    none l.d (tail_tokens l.more) (behind_next vs ws y l.b (l.d ∷ l.more) g h)

-- what is left after the third
behind_third : (ts us vs ws xs : List Token) (x y z : Argument) (args : List Argument) (l : IsLong args) → ts ≡ Open ∷ us
    → us ≡ argument_tokens x ++ vs → vs ≡ Comma ∷ (argument_tokens y ++ ws) → ws ≡ Comma ∷ (argument_tokens z ++ xs)
    → ts ≡ enclosed (list_tokens args) → xs ≡ tail_tokens l.more
behind_third ts us vs ws xs x y z args l o f g h e =
    let k = behind_first ts us vs x l.a (l.b ∷ l.d ∷ l.more) o f (e ∙ ap (λ (w : List Argument). enclosed (list_tokens w)) l.is) in
    behind_next ws xs z l.d l.more h (behind_next vs ws y l.b (l.d ∷ l.more) g k)

pub no_fourth : (ts us vs ws xs : List Token) (x y z : Argument) → ts ≡ Open ∷ us → us ≡ argument_tokens x ++ vs
    → vs ≡ Comma ∷ (argument_tokens y ++ ws) → ws ≡ Comma ∷ (argument_tokens z ++ xs) → (xs ≡ Close ∷ [] → ⊥) → NoNext xs → NoPlace ts
no_fourth ts us vs ws xs x y z o f g h not_end none args long e =
    let l = is_long args long in
    let k = behind_third ts us vs ws xs x y z args l o f g h e in
    elim l.few [
      | inl p ↦ not_end (k ∙ ap tail_tokens p)
      | inr q ↦ none q.0 (Close ∷ []) (k ∙ ap tail_tokens q.1)
    ]

pub no_end : (ts us vs ws xs ys : List Token) (x y z w : Argument) → ts ≡ Open ∷ us → us ≡ argument_tokens x ++ vs
    → vs ≡ Comma ∷ (argument_tokens y ++ ws) → ws ≡ Comma ∷ (argument_tokens z ++ xs) → xs ≡ Comma ∷ (argument_tokens w ++ ys)
    → (ys ≡ Close ∷ [] → ⊥) → NoPlace ts
no_end ts us vs ws xs ys x y z w o f g h i not_end args long e =
    let l = is_long args long in
    let k = behind_third ts us vs ws xs x y z args l o f g h e in
    elim l.few [
      | inl p ↦ let j = k ∙ ap tail_tokens p in absurd cc
      | inr q ↦ not_end (behind_next xs ys w q.0 [] i (k ∙ ap tail_tokens q.1))
    ]
