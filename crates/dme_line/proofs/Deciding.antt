-- Whether tokens are spelled as arguments are, and what their words say: all of it can be computed.
use Rattle.dme_line.proofs.Names.{[], ◌++◌, ◌∙◌, ◌∷◌, ◌≡◌, ◌⊎◌, ap, Argument, argument_tokens, arith, bare_word, Bool, bytes_eq, bytes_eq-Decides}
use Rattle.dme_line.proofs.Names.{Close, codes, Comma, Command, component_limit, Csy, csy_name, Direction, drop, enclosed, Err, false, false≢true}
use Rattle.dme_line.proofs.Names.{folded, HasLengths, HasNoAngles, if◌then◌else◌, inl, inr, is_name_text, is_word, IsAlong, IsAxis, IsOneWord}
use Rattle.dme_line.proofs.Names.{IsPlace, IsReport, IsSystem, IsTarget, IsTool, IsTransformation, IsZero, Kind, length, List, list_tokens}
use Rattle.dme_line.proofs.Names.{MachineCsy, MatchOption, negsuc, None, NumeralFault, Ok, Open, Option, PartCsy, Point, pos, Reads, ReadsDirection}
use Rattle.dme_line.proofs.Names.{refl, Result, Says, Seven, Single, single_named, Some, subst, suc, sym, take, take-append-drop, Token, Triple}
use Rattle.dme_line.proofs.Names.{triple_named, true, volume_limit, wire_limit, Word, zero, ℕ, ℤ}
use Rattle.fixed_um.specs.Computed.{is_zero_text, value_of}
use Rattle.fixed_um.proofs.ComputedLemmas.{is_zero_text-is, value_of-reads}
use Rattle.dme_line.proofs.ArgumentLemmas.{tail_tokens, list_tokens-tail, same_argument}
use Rattle.dme_line.proofs.PlaceLemmas.{not_refused, axis_refused, axis_missing, along_refused, along_is, place_target, place_ijk}
use Rattle.dme_line.proofs.ToolLemmas.{tool_read, same_word}

-- ---- what is so or is not so

-- a statement holds, or it is false
abbrev pub Decided : Type 0 → Type 0
Decided P = P ⊎ (P → ⊥)

-- of two statements that follow from each other, the one is decided as the other is
pub decided_by : {P Q : Type 0} → (P → Q) → (Q → P) → Decided P → Decided Q
decided_by f g (inl p) = inl (f p)
decided_by f g (inr none) = inr (λ q. none (g q))

-- where two statements are decided, it is decided whether both hold
pub both : {P Q : Type 0} → Decided P → Decided Q → Decided (P × Q)
both (inl p) (inl q) = inl (p, q)
both (inl p) (inr none) = inr (λ h. none h.1)
both (inr none) q = inr (λ h. none h.0)

-- it is decided whether a test is true
pub test : (b : Bool) → Decided (b ≡ true)
test true = inl refl
test false = inr (λ e. false≢true e)

-- it is decided whether two texts are the same
pub same_bytes : (xs ys : List ℕ) → Decided (xs ≡ ys)
same_bytes xs ys = decided_by (bytes_eq-Decides xs ys).0 (bytes_eq-Decides xs ys).1 (test (bytes_eq xs ys))

-- ---- the shape of tokens, and their words

-- a number for the shape of a token: a parenthesis that opens or closes, a comma, or a word
abbrev pub shape : Token → ℕ
shape Open = 0
shape Close = 1
shape Comma = 2
shape (Word w) = 3

-- the shapes of tokens, in order
abbrev pub shapes : List Token → List ℕ
shapes [] = []
shapes (t ∷ ts) = shape t ∷ shapes ts

-- the words among tokens, in order
abbrev pub words : List Token → List (List ℕ)
words [] = []
words (Open ∷ ts) = words ts
words (Close ∷ ts) = words ts
words (Comma ∷ ts) = words ts
words (Word w ∷ ts) = w ∷ words ts

-- the first of these words, or an empty one if there is no first
abbrev pub first_of : List (List ℕ) → List ℕ
first_of [] = []
first_of (w ∷ ws) = w

-- the words after the first
abbrev pub others_of : List (List ℕ) → List (List ℕ)
others_of [] = []
others_of (w ∷ ws) = ws

-- the tokens of these shapes with these words
abbrev pub filled : List ℕ → List (List ℕ) → List Token
filled [] ws = []
filled (zero ∷ ns) ws = Open ∷ filled ns ws
filled (suc zero ∷ ns) ws = Close ∷ filled ns ws
filled (suc (suc zero) ∷ ns) ws = Comma ∷ filled ns ws
filled (suc (suc (suc n)) ∷ ns) ws = Word (first_of ws) ∷ filled ns (others_of ws)

filled_again : (ts : List Token) → ts ≡ filled (shapes ts) (words ts)
filled_again [] = refl
filled_again (Open ∷ ts) = ap (λ (l : List Token). Open ∷ l) (filled_again ts)
filled_again (Close ∷ ts) = ap (λ (l : List Token). Close ∷ l) (filled_again ts)
filled_again (Comma ∷ ts) = ap (λ (l : List Token). Comma ∷ l) (filled_again ts)
filled_again (Word w ∷ ts) = ap (λ (l : List Token). Word w ∷ l) (filled_again ts)

-- tokens of a shape are that shape with their words
pub filled_of : (ns : List ℕ) (ts : List Token) → shapes ts ≡ ns → ts ≡ filled ns (words ts)
filled_of ns ts e = filled_again ts ∙ ap (λ (l : List ℕ). filled l (words ts)) e

-- it is decided whether tokens have these shapes
pub has_shape : (ns : List ℕ) (ts : List Token) → Decided (shapes ts ≡ ns)
has_shape ns ts = same_bytes (shapes ts) ns

-- ---- a prefix of tokens

length_shapes : (ts : List Token) → length (shapes ts) ≡ length ts
length_shapes [] = refl
length_shapes (t ∷ ts) = ap suc (length_shapes ts)

take_front : (us vs : List Token) → take (length us) (us ++ vs) ≡ us
take_front [] vs = refl
take_front (u ∷ us) vs = ap (λ (l : List Token). u ∷ l) (take_front us vs)

-- tokens begin with ones of this shape
pub record Front (ns : List ℕ) (ts : List Token) : Type 0 where
  pub front : List Token
  pub behind : List Token
  pub shaped : shapes front ≡ ns
  pub parts : ts ≡ front ++ behind

-- it is decided whether they do
pub front_is : (ns : List ℕ) (ts : List Token) → Decided (Front ns ts)
front_is ns ts = decided_by here there (has_shape ns (take (length ns) ts))
  where
    here : shapes (take (length ns) ts) ≡ ns → Front ns ts
    here e = record { front = take (length ns) ts; behind = drop (length ns) ts; shaped = e; parts = sym (take-append-drop (length ns) ts) }

    there : Front ns ts → shapes (take (length ns) ts) ≡ ns
    there f =
        let long : length ns ≡ length f.front = ap length (sym f.shaped) ∙ length_shapes f.front in
        ap shapes (ap (λ (l : List Token). take (length ns) l) f.parts
        ∙ (ap (λ (k : ℕ). take k (f.front ++ f.behind)) long ∙ take_front f.front f.behind)) ∙ f.shaped

-- ---- arguments

-- tokens begin with an argument
pub record FirstArgument (ts : List Token) : Type 0 where
  pub argument : Argument
  pub behind : List Token
  pub parts : ts ≡ argument_tokens argument ++ behind

-- a name and one word, or three, in its parentheses
first_argument : (ts : List Token) → Decided (FirstArgument ts)
first_argument ts = go (front_is (3 ∷ 0 ∷ 3 ∷ 1 ∷ []) ts) (front_is (3 ∷ 0 ∷ 3 ∷ 2 ∷ 3 ∷ 2 ∷ 3 ∷ 1 ∷ []) ts)
  where
    none_of : (Front (3 ∷ 0 ∷ 3 ∷ 1 ∷ []) ts → ⊥) → (Front (3 ∷ 0 ∷ 3 ∷ 2 ∷ 3 ∷ 2 ∷ 3 ∷ 1 ∷ []) ts → ⊥) → (a : Argument) (us : List Token)
        → ts ≡ argument_tokens a ++ us → ⊥
    none_of single triple (Single n x) us e = single (record {
      front = argument_tokens (Single n x);
      behind = us;
      shaped = refl;
      parts = e;
    })
    none_of single triple (Triple n i j k) us e = triple (record {
      front = argument_tokens (Triple n i j k);
      behind = us;
      shaped = refl;
      parts = e;
    })

    go : Decided (Front (3 ∷ 0 ∷ 3 ∷ 1 ∷ []) ts) → Decided (Front (3 ∷ 0 ∷ 3 ∷ 2 ∷ 3 ∷ 2 ∷ 3 ∷ 1 ∷ []) ts) → Decided (FirstArgument ts)
    go (inl f) triple =
        let ws : List (List ℕ) = words f.front in
        inl (record {
          argument = Single (first_of ws) (first_of (others_of ws));
          behind = f.behind;
          parts = f.parts ∙ ap (λ (l : List Token). l ++ f.behind) (filled_of (3 ∷ 0 ∷ 3 ∷ 1 ∷ []) f.front f.shaped);
        })
    go (inr single) (inl f) =
        let ws : List (List ℕ) = words f.front in
        inl (record {
          argument = Triple (first_of ws) (first_of (others_of ws)) (first_of (others_of (others_of ws)))
              (first_of (others_of (others_of (others_of ws))));
          behind = f.behind;
          parts = f.parts ∙ ap (λ (l : List Token). l ++ f.behind) (filled_of (3 ∷ 0 ∷ 3 ∷ 2 ∷ 3 ∷ 2 ∷ 3 ∷ 1 ∷ []) f.front f.shaped);
        })
    go (inr single) (inr triple) = inr (λ f. none_of single triple f.argument f.behind f.parts)

cons_behind : (m : Token) (us vs : List Token) → (m ∷ us) ≡ (m ∷ vs) → us ≡ vs
cons_behind m us vs e = cc

-- that many arguments and the closing parenthesis, each argument after a comma
pub record Behind (k : ℕ) (ts : List Token) : Type 0 where
  pub arguments : List Argument
  pub long : length arguments ≡ k
  pub parts : ts ≡ tail_tokens arguments

-- a mark, an argument, and that many more
pub record Chain (mark : Token) (k : ℕ) (ts : List Token) : Type 0 where
  pub argument : Argument
  pub more : List Argument
  pub long : length more ≡ k
  pub parts : ts ≡ mark ∷ (argument_tokens argument ++ tail_tokens more)

chain_is : (mark : Token) (k : ℕ) (ts : List Token) → ((ws : List (List ℕ)) → filled (shape mark ∷ []) ws ≡ mark ∷ [])
    → ((us : List Token) → Decided (Behind k us)) → Decided (Chain mark k ts)
chain_is mark k ts one rest = go (front_is (shape mark ∷ []) ts)
  where
    told : (us : List Token) → ts ≡ mark ∷ us → (a : FirstArgument us) → Decided (Behind k a.behind) → Decided (Chain mark k ts)
    told us is a (inr none) = inr (λ c. none (record {
      arguments = c.more;
      long = c.long;
      parts = (same_argument a.argument c.argument a.behind (tail_tokens c.more) (sym a.parts
          ∙ cons_behind mark us _ (sym is ∙ c.parts))).behind;
    }))
    told us is a (inl b) = inl (record {
      argument = a.argument;
      more = b.arguments;
      long = b.long;
      parts = is ∙ ap (λ (l : List Token). mark ∷ l) (a.parts ∙ ap (λ (l : List Token). argument_tokens a.argument ++ l) b.parts);
    })

    argued : (us : List Token) → ts ≡ mark ∷ us → Decided (FirstArgument us) → Decided (Chain mark k ts)
    argued us is (inr none) = inr (λ c. none (record {
      argument = c.argument;
      behind = tail_tokens c.more;
      parts = cons_behind mark us _ (sym is ∙ c.parts);
    }))
    argued us is (inl a) = told us is a (rest a.behind)

    go : Decided (Front (shape mark ∷ []) ts) → Decided (Chain mark k ts)
    go (inr none) = inr (λ c. none (record {
      front = mark ∷ [];
      behind = argument_tokens c.argument ++ tail_tokens c.more;
      shaped = refl;
      parts = c.parts;
    }))
    go (inl f) = argued f.behind (f.parts ∙ ap (λ (l : List Token). l ++ f.behind) (filled_of (shape mark ∷ []) f.front f.shaped
        ∙ one (words f.front))) (first_argument f.behind)

none_long : (args : List Argument) → length args ≡ 0 → args ≡ []
none_long [] e = refl
none_long (a ∷ args) e = absurd (omega (arith, e))

behind_is : (k : ℕ) (ts : List Token) → Decided (Behind k ts)
behind_is zero ts = decided_by (λ (e : shapes ts ≡ 1 ∷ []). record { arguments = []; long = refl; parts = filled_of (1 ∷ []) ts e })
    (λ (b : Behind 0 ts). ap shapes (b.parts ∙ ap tail_tokens (none_long b.arguments b.long))) (has_shape (1 ∷ []) ts)
behind_is (suc k) ts = decided_by here (λ (b : Behind (suc k) ts). there b.arguments b.long b.parts)
    (chain_is Comma k ts (λ ws. refl) (λ us. behind_is k us))
  where
    here : Chain Comma k ts → Behind (suc k) ts
    here c = record { arguments = c.argument ∷ c.more; long = ap suc c.long; parts = c.parts }

    there : (args : List Argument) → length args ≡ suc k → ts ≡ tail_tokens args → Chain Comma k ts
    there [] e f = absurd (omega (arith, e))
    there (a ∷ more) e f = record { argument = a; more = more; long = omega (arith, e); parts = f }

-- that many arguments in their parentheses, and one
pub record Listed (k : ℕ) (ts : List Token) : Type 0 where
  pub arguments : List Argument
  pub long : length arguments ≡ suc k
  pub spelled : ts ≡ enclosed (list_tokens arguments)

listed_is : (k : ℕ) (ts : List Token) → Decided (Listed k ts)
listed_is k ts = decided_by here (λ (l : Listed k ts). there l.arguments l.long l.spelled)
    (chain_is Open k ts (λ ws. refl) (λ us. behind_is k us))
  where
    here : Chain Open k ts → Listed k ts
    here c = record {
      arguments = c.argument ∷ c.more;
      long = ap suc c.long;
      spelled = c.parts
          ∙ ap (λ (l : List Token). Open ∷ l) (sym (list_tokens-tail c.argument c.more));
    }

    there : (args : List Argument) → length args ≡ suc k → ts ≡ enclosed (list_tokens args) → Chain Open k ts
    there [] e f = absurd (omega (arith, e))
    there (a ∷ more) e f = record {
      argument = a;
      more = more;
      long = omega (arith, e);
      parts = f
          ∙ ap (λ (l : List Token). Open ∷ l) (list_tokens-tail a more);
    }

-- ---- numerals and places

-- a text reads as a number at this scale, within this limit
pub record Length (scale limit : ℕ) (text : List ℕ) : Type 0 where
  pub value : ℤ
  pub reads : Reads scale limit text (Ok value)

-- it is decided whether a text does
pub length_is : (scale limit : ℕ) (text : List ℕ) → Decided (Length scale limit text)
length_is scale limit text = go (value_of scale limit text) (value_of-reads scale limit text)
  where
    go : (r : Result ℤ NumeralFault) → Reads scale limit text r → Decided (Length scale limit text)
    go (Ok v) h = inl (record { value = v; reads = h })
    go (Err why) h = inr (λ l. not_refused scale limit text l.value why l.reads h)

record Axis (name : List ℕ) (args : List Argument) : Type 0 where
  pub value : ℤ
  pub is : IsAxis name args value

axis_is : (name : List ℕ) (args : List Argument) → Decided (Axis name args)
axis_is name args = go (single_named name args) refl
  where
    read : (numeral : List ℕ) → single_named name args ≡ Some numeral → (r : Result ℤ NumeralFault) → Reads 3 wire_limit numeral r
        → Decided (Axis name args)
    read numeral e (Ok v) h = inl (record { value = v; is = record { numeral = numeral; found = e; reads = h } })
    read numeral e (Err why) h = inr (λ a. axis_refused name numeral args why a.value e h a.is)

    go : (o : Option (List ℕ)) → single_named name args ≡ o → Decided (Axis name args)
    go None e = inr (λ a. axis_missing name args a.value e a.is)
    go (Some numeral) e = read numeral e (value_of 3 wire_limit numeral) (value_of-reads 3 wire_limit numeral)

record Target (args : List Argument) : Type 0 where
  pub point : Point
  pub is : IsTarget args point

target_is : (args : List Argument) → Decided (Target args)
target_is args = decided_by here there (both (axis_is (codes "X") args) (both (axis_is (codes "Y") args) (axis_is (codes "Z") args)))
  where
    here : Axis (codes "X") args × (Axis (codes "Y") args × Axis (codes "Z") args) → Target args
    here h = record {
      point = record { x = h.0.value; y = h.1.0.value; z = h.1.1.value };
      is = record { x = h.0.is; y = h.1.0.is; z = h.1.1.is };
    }

    there : Target args → Axis (codes "X") args × (Axis (codes "Y") args × Axis (codes "Z") args)
    there t = (
      record { value = t.point.x; is = t.is.x },
      (
        record { value = t.point.y; is = t.is.y },
        record { value = t.point.z; is = t.is.z },
      ),
    )

-- three words as a direction
record Heading (i j k : List ℕ) : Type 0 where
  pub result : Result (Option Direction) NumeralFault
  pub reads : ReadsDirection i j k result

heading : (i j k : List ℕ) → Heading i j k
heading i j k = first (value_of 6 component_limit i) (value_of-reads 6 component_limit i)
  where
    some : (x y z : ℤ) → Reads 6 component_limit i (Ok x) → Reads 6 component_limit j (Ok y) → Reads 6 component_limit k (Ok z)
        → (x ≡ pos 0 → y ≡ pos 0 → z ≡ pos 0 → ⊥) → Heading i j k
    some x y z f g h not_zero = record {
      result = Ok (Some (record { i = x; j = y; k = z }));
      reads = (f, g, h, record { i_within = f.1; j_within = g.1; k_within = h.1; not_zero = not_zero });
    }

    all : (x y z : ℤ) → Reads 6 component_limit i (Ok x) → Reads 6 component_limit j (Ok y) → Reads 6 component_limit k (Ok z)
        → Heading i j k
    all (pos zero) (pos zero) (pos zero) f g h = record { result = Ok None; reads = (f, g, h) }
    all (pos zero) (pos zero) (pos (suc n)) f g h = some _ _ _ f g h (λ a b c. cc)
    all (pos zero) (pos zero) (negsuc n) f g h = some _ _ _ f g h (λ a b c. cc)
    all (pos zero) (pos (suc n)) z f g h = some _ _ _ f g h (λ a b c. cc)
    all (pos zero) (negsuc n) z f g h = some _ _ _ f g h (λ a b c. cc)
    all (pos (suc n)) y z f g h = some _ _ _ f g h (λ a b c. cc)
    all (negsuc n) y z f g h = some _ _ _ f g h (λ a b c. cc)

    third : (x y : ℤ) → Reads 6 component_limit i (Ok x) → Reads 6 component_limit j (Ok y) → (r : Result ℤ NumeralFault)
        → Reads 6 component_limit k r → Heading i j k
    third x y f g (Ok z) h = all x y z f g h
    third x y f g (Err why) h = record { result = Err why; reads = inr (inr (x, y, f, g, h)) }

    second : (x : ℤ) → Reads 6 component_limit i (Ok x) → (r : Result ℤ NumeralFault) → Reads 6 component_limit j r → Heading i j k
    second x f (Ok y) g = third x y f g (value_of 6 component_limit k) (value_of-reads 6 component_limit k)
    second x f (Err why) g = record { result = Err why; reads = inr (inl (x, f, g)) }

    first : (r : Result ℤ NumeralFault) → Reads 6 component_limit i r → Heading i j k
    first (Ok x) f = second x f (value_of 6 component_limit j) (value_of-reads 6 component_limit j)
    first (Err why) f = record { result = Err why; reads = inl f }

record Along (args : List Argument) : Type 0 where
  pub direction : Direction
  pub is : IsAlong args direction

along_found : (args : List Argument) → Decided (Along args)
along_found args = go (triple_named (codes "IJK") args) refl
  where
    told : (o : Option Direction) → MatchOption o ((d : Direction) → IsAlong args d → ⊥) (λ d. IsAlong args d) → Decided (Along args)
    told None none = inr (λ a. none a.direction a.is)
    told (Some d) is = inl (record { direction = d; is = is })

    read : (ws : List ℕ × List ℕ × List ℕ) → Some ws ≡ triple_named (codes "IJK") args → (r : Result (Option Direction) NumeralFault)
        → ReadsDirection ws.0 ws.1 ws.2 r → Decided (Along args)
    read ws e (Ok o) h = told o (along_is args ws o e h)
    read ws e (Err why) h = inr (λ a. along_refused args ws a.direction why e h a.is)

    missing : triple_named (codes "IJK") args ≡ None → (a : Along args) → ⊥
    missing e a = let f = a.is.found in cc

    go : (o : Option (List ℕ × List ℕ × List ℕ)) → triple_named (codes "IJK") args ≡ o → Decided (Along args)
    go None e = inr (missing e)
    go (Some ws) e = let h : Heading ws.0 ws.1 ws.2 = heading ws.0 ws.1 ws.2 in read ws (sym e) h.result h.reads

record Move (ts : List Token) : Type 0 where
  pub point : Point
  pub is : IsPlace ts point None

move_is : (ts : List Token) → Decided (Move ts)
move_is ts = go (listed_is 2 ts)
  where
    aimed : (l : Listed 2 ts) → Decided (Target l.arguments) → Decided (Move ts)
    aimed l (inl t) = inl (record {
      point = t.point;
      is = record {
        arguments = l.arguments;
        spelled = l.spelled;
        target = t.is;
        ijk = l.long;
      };
    })
    aimed l (inr none) = inr (λ m. none (record { point = m.point; is = place_target ts l.arguments m.point None l.spelled m.is }))

    go : Decided (Listed 2 ts) → Decided (Move ts)
    go (inl l) = aimed l (target_is l.arguments)
    go (inr none) = inr (λ m. none (record { arguments = m.is.arguments; long = m.is.ijk; spelled = m.is.spelled }))

record Directed (ts : List Token) : Type 0 where
  pub point : Point
  pub direction : Direction
  pub is : IsPlace ts point (Some direction)

directed_is : (ts : List Token) → Decided (Directed ts)
directed_is ts = go (listed_is 3 ts)
  where
    aimed : (l : Listed 3 ts) → Decided (Target l.arguments × Along l.arguments) → Decided (Directed ts)
    aimed l (inl h) = inl (record {
      point = h.0.point;
      direction = h.1.direction;
      is = record { arguments = l.arguments; spelled = l.spelled; target = h.0.is; ijk = (l.long, h.1.is) };
    })
    aimed l (inr none) = inr (λ a. none (
      record { point = a.point; is = place_target ts l.arguments a.point (Some a.direction) l.spelled a.is },
      record { direction = a.direction; is = (place_ijk ts l.arguments a.point (Some a.direction) l.spelled a.is).1 },
    ))

    go : Decided (Listed 3 ts) → Decided (Directed ts)
    go (inl l) = aimed l (both (target_is l.arguments) (along_found l.arguments))
    go (inr none) = inr (λ a. none (record { arguments = a.is.arguments; long = a.is.ijk.0; spelled = a.is.spelled }))

-- ---- the other arguments

-- tokens are one word in parentheses
pub record OneWord (ts : List Token) : Type 0 where
  pub word : List ℕ
  pub spelled : IsOneWord ts word

-- it is decided whether they are
pub one_word : (ts : List Token) → Decided (OneWord ts)
one_word ts = decided_by (λ (e : shapes ts ≡ 0 ∷ 3 ∷ 1 ∷ []). record {
  word = first_of (words ts);
  spelled = filled_of (0 ∷ 3 ∷ 1 ∷ []) ts e;
}) (λ (w : OneWord ts). ap shapes w.spelled) (has_shape (0 ∷ 3 ∷ 1 ∷ []) ts)

record Tool (ts : List Token) : Type 0 where
  pub name : List ℕ
  pub is : IsTool ts name

tool_is : (ts : List Token) → Decided (Tool ts)
tool_is ts = go (one_word ts)
  where
    told : (o : Option (List ℕ)) → MatchOption o ((name : List ℕ) → IsTool ts name → ⊥) (λ name. IsTool ts name) → Decided (Tool ts)
    told None none = inr (λ t. none t.name t.is)
    told (Some n) is = inl (record { name = n; is = is })

    go : Decided (OneWord ts) → Decided (Tool ts)
    go (inr none) = inr (λ t. none (record { word = t.is.word; spelled = t.is.spelled }))
    go (inl w) = told (if is_name_text (bare_word w.word) then Some (folded (bare_word w.word)) else None)
        (tool_read ts w.word (bare_word w.word) (Ok (if is_name_text (bare_word w.word) then Some (folded (bare_word w.word)) else None))
        w.spelled refl refl)

record System (ts : List Token) : Type 0 where
  pub csy : Csy
  pub is : IsSystem ts csy

system_is : (ts : List Token) → Decided (System ts)
system_is ts = go (one_word ts)
  where
    neither : (w : OneWord ts) → (is_word (csy_name MachineCsy) w.word ≡ true → ⊥) → (is_word (csy_name PartCsy) w.word ≡ true → ⊥)
        → (csy : Csy) → IsSystem ts csy → ⊥
    neither w machine part MachineCsy h = machine (subst (λ (v : List ℕ). is_word (csy_name MachineCsy) v ≡ true)
        (same_word ts h.word w.word h.spelled w.spelled) h.named)
    neither w machine part PartCsy h = part (subst (λ (v : List ℕ). is_word (csy_name PartCsy) v ≡ true)
        (same_word ts h.word w.word h.spelled w.spelled) h.named)

    named : (w : OneWord ts) → Decided (is_word (csy_name MachineCsy) w.word ≡ true) → Decided (is_word (csy_name PartCsy) w.word ≡ true)
        → Decided (System ts)
    named w (inl m) part = inl (record { csy = MachineCsy; is = record { word = w.word; spelled = w.spelled; named = m } })
    named w (inr m) (inl p) = inl (record { csy = PartCsy; is = record { word = w.word; spelled = w.spelled; named = p } })
    named w (inr m) (inr p) = inr (λ s. neither w m p s.csy s.is)

    go : Decided (OneWord ts) → Decided (System ts)
    go (inr none) = inr (λ s. none (record { word = s.is.word; spelled = s.is.spelled }))
    go (inl w) = named w (test (is_word (csy_name MachineCsy) w.word)) (test (is_word (csy_name PartCsy) w.word))

abbrev report_shape : List ℕ
report_shape = 0 ∷ 3 ∷ 0 ∷ 1 ∷ 2 ∷ 3 ∷ 0 ∷ 1 ∷ 2 ∷ 3 ∷ 0 ∷ 1 ∷ 1 ∷ []

report_is : (ts : List Token) → Decided (IsReport ts)
report_is ts = decided_by here there (both (has_shape report_shape ts)
    (both (test (is_word (codes "X") (first_of (words ts)))) (both (test (is_word (codes "Y") (first_of (others_of (words ts)))))
    (test (is_word (codes "Z") (first_of (others_of (others_of (words ts)))))))))
  where
    here : (shapes ts ≡ report_shape) × ((is_word (codes "X") (first_of (words ts)) ≡ true)
        × ((is_word (codes "Y") (first_of (others_of (words ts))) ≡ true)
        × (is_word (codes "Z") (first_of (others_of (others_of (words ts)))) ≡ true))) → IsReport ts
    here h = record {
      x = first_of (words ts);
      y = first_of (others_of (words ts));
      z = first_of (others_of (others_of (words ts)));
      spelled = filled_of report_shape ts h.0;
      x_named = h.1.0;
      y_named = h.1.1.0;
      z_named = h.1.1.1;
    }

    there : IsReport ts → (shapes ts ≡ report_shape) × ((is_word (codes "X") (first_of (words ts)) ≡ true)
        × ((is_word (codes "Y") (first_of (others_of (words ts))) ≡ true)
        × (is_word (codes "Z") (first_of (others_of (others_of (words ts)))) ≡ true)))
    there r = (
      ap shapes r.spelled,
      (
        ap (λ (l : List Token). is_word (codes "X") (first_of (words l))) r.spelled ∙ r.x_named,
        (
          ap (λ (l : List Token). is_word (codes "Y") (first_of (others_of (words l)))) r.spelled ∙ r.y_named,
          ap (λ (l : List Token). is_word (codes "Z") (first_of (others_of (others_of (words l))))) r.spelled ∙ r.z_named,
        ),
      ),
    )

abbrev seven_shape : List ℕ
seven_shape = 0 ∷ 3 ∷ 2 ∷ 3 ∷ 2 ∷ 3 ∷ 2 ∷ 3 ∷ 2 ∷ 3 ∷ 2 ∷ 3 ∷ 2 ∷ 3 ∷ 1 ∷ []

abbrev seven_of : List (List ℕ) → Seven
seven_of ws = record {
  system = first_of ws;
  x = first_of (others_of ws);
  y = first_of (others_of (others_of ws));
  z = first_of (others_of (others_of (others_of ws)));
  a = first_of (others_of (others_of (others_of (others_of ws))));
  b = first_of (others_of (others_of (others_of (others_of (others_of ws)))));
  c = first_of (others_of (others_of (others_of (others_of (others_of (others_of ws))))));
}

zero_is : (text : List ℕ) → Decided (IsZero text)
zero_is text = decided_by (is_zero_text-is text).0 (is_zero_text-is text).1 (test (is_zero_text text))

record Transformation (ts : List Token) : Type 0 where
  pub point : Point
  pub is : IsTransformation ts point

-- a length for each axis
record Lengths (s : Seven) : Type 0 where
  pub point : Point
  pub are : HasLengths s point

lengths_are : (s : Seven) → Decided (Lengths s)
lengths_are s = decided_by here there (both (length_is 3 volume_limit s.x)
    (both (length_is 3 volume_limit s.y) (length_is 3 volume_limit s.z)))
  where
    here : Length 3 volume_limit s.x × (Length 3 volume_limit s.y × Length 3 volume_limit s.z) → Lengths s
    here h = record {
      point = record { x = h.0.value; y = h.1.0.value; z = h.1.1.value };
      are = record { x = h.0.reads; y = h.1.0.reads; z = h.1.1.reads };
    }

    there : Lengths s → Length 3 volume_limit s.x × (Length 3 volume_limit s.y × Length 3 volume_limit s.z)
    there l = (
      record { value = l.point.x; reads = l.are.x },
      (
        record { value = l.point.y; reads = l.are.y },
        record { value = l.point.z; reads = l.are.z },
      ),
    )

angles_are : (s : Seven) → Decided (HasNoAngles s)
angles_are s = decided_by (λ (h : IsZero s.a × (IsZero s.b × IsZero s.c)). record { a = h.0; b = h.1.0; c = h.1.1 })
    (λ (h : HasNoAngles s). (h.a, (h.b, h.c))) (both (zero_is s.a) (both (zero_is s.b) (zero_is s.c)))

transformation_is : (ts : List Token) → Decided (Transformation ts)
transformation_is ts = decided_by here there (both (has_shape seven_shape ts)
    (both (test (is_word (codes "PartCsy") (seven_of (words ts)).system))
    (both (lengths_are (seven_of (words ts))) (angles_are (seven_of (words ts))))))
  where
    here : (shapes ts ≡ seven_shape) × ((is_word (codes "PartCsy") (seven_of (words ts)).system ≡ true)
        × (Lengths (seven_of (words ts)) × HasNoAngles (seven_of (words ts)))) → Transformation ts
    here h = record {
      point = h.1.1.0.point;
      is = record {
        words = seven_of (words ts);
        spelled = filled_of seven_shape ts h.0;
        named = h.1.0;
        lengths = h.1.1.0.are;
        angles = h.1.1.1;
      };
    }

    there : Transformation ts → (shapes ts ≡ seven_shape) × ((is_word (codes "PartCsy") (seven_of (words ts)).system ≡ true)
        × (Lengths (seven_of (words ts)) × HasNoAngles (seven_of (words ts))))
    there t =
        let same : t.is.words ≡ seven_of (words ts) = sym (ap (λ (l : List Token). seven_of (words l)) t.is.spelled) in (
          ap shapes t.is.spelled,
          (
            subst (λ (s : Seven). is_word (codes "PartCsy") s.system ≡ true) same t.is.named,
            (
              record { point = t.point; are = subst (λ (s : Seven). HasLengths s t.point) same t.is.lengths },
              subst (λ (s : Seven). HasNoAngles s) same t.is.angles,
            ),
          ),
        )

-- ---- what the tokens after a command's name say

-- tokens say a command of this kind
pub record Saying (k : Kind) (ts : List Token) : Type 0 where
  pub command : Command
  pub says : Says k ts command

nothing_is : (ts : List Token) → Decided (ts ≡ enclosed [])
nothing_is ts = decided_by (λ (e : shapes ts ≡ 0 ∷ 1 ∷ []). filled_of (0 ∷ 1 ∷ []) ts e) (λ (e : ts ≡ enclosed []). ap shapes e)
    (has_shape (0 ∷ 1 ∷ []) ts)

touch_is : (ts : List Token) → Decided (Saying Kind.PtMeas ts)
touch_is ts = go (move_is ts) (directed_is ts)
  where
    neither : (Move ts → ⊥) → (Directed ts → ⊥) → (p : Point) (d : Option Direction) → IsPlace ts p d → ⊥
    neither move directed p None h = move (record { point = p; is = h })
    neither move directed p (Some d) h = directed (record { point = p; direction = d; is = h })

    go : Decided (Move ts) → Decided (Directed ts) → Decided (Saying Kind.PtMeas ts)
    go (inl m) a = inl (record { command = Command.PtMeas m.point None; says = (m.point, None, m.is, refl) })
    go (inr m) (inl a) = inl (record {
      command = Command.PtMeas a.point (Some a.direction);
      says = (a.point, Some a.direction, a.is, refl);
    })
    go (inr m) (inr a) = inr (λ s. neither m a s.says.0 s.says.1 s.says.2)

-- it is decided whether they do, for each kind
pub saying : (k : Kind) (ts : List Token) → Decided (Saying k ts)
saying Kind.StartSession ts = decided_by (λ (e : ts ≡ enclosed []). record { command = Command.StartSession; says = (e, refl) })
    (λ (s : Saying Kind.StartSession ts). s.says.0) (nothing_is ts)
saying Kind.EndSession ts = decided_by (λ (e : ts ≡ enclosed []). record { command = Command.EndSession; says = (e, refl) })
    (λ (s : Saying Kind.EndSession ts). s.says.0) (nothing_is ts)
saying Kind.ClearAllErrors ts = decided_by (λ (e : ts ≡ enclosed []). record { command = Command.ClearAllErrors; says = (e, refl) })
    (λ (s : Saying Kind.ClearAllErrors ts). s.says.0) (nothing_is ts)
saying Kind.IsHomed ts = decided_by (λ (e : ts ≡ enclosed []). record { command = Command.IsHomed; says = (e, refl) })
    (λ (s : Saying Kind.IsHomed ts). s.says.0) (nothing_is ts)
saying Kind.Home ts = decided_by (λ (e : ts ≡ enclosed []). record { command = Command.Home; says = (e, refl) })
    (λ (s : Saying Kind.Home ts). s.says.0) (nothing_is ts)
saying Kind.OnPtMeasReport ts = decided_by (λ (r : IsReport ts). record { command = Command.OnPtMeasReport; says = (r, refl) })
    (λ (s : Saying Kind.OnPtMeasReport ts). s.says.0) (report_is ts)
saying Kind.GoTo ts = decided_by (λ (m : Move ts). record { command = Command.GoTo m.point; says = (m.point, m.is, refl) })
    (λ (s : Saying Kind.GoTo ts). record { point = s.says.0; is = s.says.1 }) (move_is ts)
saying Kind.PtMeas ts = touch_is ts
saying Kind.ChangeTool ts = decided_by (λ (t : Tool ts). record { command = Command.ChangeTool t.name; says = (t.name, t.is, refl) })
    (λ (s : Saying Kind.ChangeTool ts). record { name = s.says.0; is = s.says.1 }) (tool_is ts)
saying Kind.SetCsyTransformation ts = decided_by (λ (t : Transformation ts). record {
  command = Command.SetCsyTransformation t.point;
  says = (t.point, t.is, refl);
}) (λ (s : Saying Kind.SetCsyTransformation ts). record { point = s.says.0; is = s.says.1 })
    (transformation_is ts)
saying Kind.SetCoordSystem ts = decided_by (λ (t : System ts). record {
  command = Command.SetCoordSystem t.csy;
  says = (t.csy, t.is, refl);
}) (λ (s : Saying Kind.SetCoordSystem ts). record { csy = s.says.0; is = s.says.1 }) (system_is ts)
saying Kind.AbortE ts = decided_by (λ (e : ts ≡ enclosed []). record { command = Command.AbortE; says = (e, refl) })
    (λ (s : Saying Kind.AbortE ts). s.says.0) (nothing_is ts)
