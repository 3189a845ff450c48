-- Entries of acts that are added in pieces, and entries that follow one another.
use Rattle.record_text.proofs.RunNames.{[], ◌++◌, ◌+◌, ◌-◌, ◌∙◌, ◌∷◌, ◌≡◌, ◌≤◌, Act, ap, append-nil, append_assoc, arith, Completed, completed_feature}
use Rattle.record_text.proofs.RunNames.{Completes, contacts, Counted, counted, counted_after, drop, entries_of, Entry, Feature, Follow, Follows}
use Rattle.record_text.proofs.RunNames.{IsLastRun, Kept, length, List, refl, Noted, Serves, slice_get, subst, sym, Wanted, with_completed}
use Rattle.record_text.proofs.RunNames.{with_noted, with_told, ℕ}
use Rattle.record_text.specs.declared.entries.Entry.TheVariants.{Told}

-- ---- entries of acts

pub entries_more : (ws : List Wanted) (n : ℕ) (c : Counted) (xs ys : List Act)
    → entries_of ws n c (xs ++ ys) ≡ entries_of ws n c xs ++ entries_of ws n (counted_after ws n c xs) ys
entries_more ws n c [] ys = refl
entries_more ws n c (a ∷ xs) ys =
    let more : List Entry = (counted ws n a c).1 in
    let after : Counted = (counted ws n a c).0 in
    ap (λ (l : List Entry). Told n a ∷ l)
    (ap (λ (l : List Entry). more ++ l) (entries_more ws n after xs ys)
    ∙ sym (append_assoc more (entries_of ws n after xs) (entries_of ws n (counted_after ws n after xs) ys)))

pub after_more : (ws : List Wanted) (n : ℕ) (c : Counted) (xs ys : List Act)
    → counted_after ws n c (xs ++ ys) ≡ counted_after ws n (counted_after ws n c xs) ys
after_more ws n c [] ys = refl
after_more ws n c (a ∷ xs) ys = after_more ws n (counted ws n a c).0 xs ys

-- ---- entries that follow

pub follow_more : (ws : List Wanted) (xs ys : List Entry) (a b c : Kept) → Follow ws a xs b → Follow ws b ys c → Follow ws a (xs ++ ys) c
follow_more ws [] ys a b c f g = subst (λ (k : Kept). Follow ws k ys c) f g
follow_more ws (x ∷ xs) ys a b c f g = (f.0, f.1, follow_more ws xs ys f.0 b c f.2 g)

pub record Parts (ws : List Wanted) (xs ys : List Entry) (a c : Kept) : Type 0 where
  pub mid : Kept
  pub front : Follow ws a xs mid
  pub behind : Follow ws mid ys c

pub follow_parts : (ws : List Wanted) (xs ys : List Entry) (a c : Kept) → Follow ws a (xs ++ ys) c → Parts ws xs ys a c
follow_parts ws [] ys a c f = record { mid = a; front = refl; behind = f }
follow_parts ws (x ∷ xs) ys a c f =
    let rest : Parts ws xs ys f.0 c = follow_parts ws xs ys f.0 c f.2 in
    record { mid = rest.mid; front = (f.0, f.1, rest.front); behind = rest.behind }

-- features and acts only grow
pub record Grown (old new : Kept) : Type 0 where
  pub features : List Feature
  pub features_are : new.features ≡ old.features ++ features
  pub acts : List (ℕ × Act)
  pub acts_are : new.told ≡ old.told ++ acts

one_grown : (ws : List Wanted) (old new : Kept) (e : Entry) → Follows ws old e new → Grown old new
one_grown ws old new (Told n a) f = record {
  features = [];
  features_are = ap (λ (k : Kept). k.features) f.2 ∙ sym (append-nil old.features);
  acts = (n, a) ∷ [];
  acts_are = ap (λ (k : Kept). k.told) f.2;
}
one_grown ws old new (Noted n note text) f = record {
  features = [];
  features_are = ap (λ (k : Kept). k.features) f.2 ∙ sym (append-nil old.features);
  acts = [];
  acts_are = ap (λ (k : Kept). k.told) f.2 ∙ sym (append-nil old.told);
}
one_grown ws old new (Completed n label) f =
    let c = f.1 in
    record {
      features = completed_feature n c.wanted c.points ∷ [];
      features_are = ap (λ (k : Kept). k.features) c.more;
      acts = [];
      acts_are = ap (λ (k : Kept). k.told) c.more ∙ sym (append-nil old.told);
    }

pub grown_more : (a b c : Kept) → Grown a b → Grown b c → Grown a c
grown_more a b c f g = record {
  features = f.features ++ g.features;
  features_are = g.features_are ∙ (ap (λ (l : List Feature). l ++ g.features) f.features_are
      ∙ append_assoc a.features f.features g.features);
  acts = f.acts ++ g.acts;
  acts_are = g.acts_are ∙ (ap (λ (l : List (ℕ × Act)). l ++ g.acts) f.acts_are ∙ append_assoc a.told f.acts g.acts);
}

pub follow_grown : (ws : List Wanted) (es : List Entry) (old new : Kept) → Follow ws old es new → Grown old new
follow_grown ws [] old new f = record {
  features = [];
  features_are = ap (λ (k : Kept). k.features) f ∙ sym (append-nil old.features);
  acts = [];
  acts_are = ap (λ (k : Kept). k.told) f ∙ sym (append-nil old.told);
}
follow_grown ws (e ∷ es) old new f = grown_more old f.0 new (one_grown ws old f.0 e f.1) (follow_grown ws es f.0 new f.2)

-- numbers of connections never decrease
one_last : (ws : List Wanted) (old new : Kept) (e : Entry) → Follows ws old e new → old.last ≤ new.last
one_last ws old new (Told n a) f =
    let upto : old.last ≤ n = f.1 in
    let is : new.last ≡ n = ap (λ (k : Kept). k.last) f.2 in
    omega (arith, upto, is)
one_last ws old new (Noted n note text) f =
    let upto : old.last ≤ n = f.1 in
    let is : new.last ≡ n = ap (λ (k : Kept). k.last) f.2 in
    omega (arith, upto, is)
one_last ws old new (Completed n label) f =
    let c = f.1 in
    let same : n ≡ old.last = c.same in
    let is : new.last ≡ n = ap (λ (k : Kept). k.last) c.more in
    omega (arith, same, is)

pub follow_last : (ws : List Wanted) (es : List Entry) (old new : Kept) → Follow ws old es new → old.last ≤ new.last
follow_last ws [] old new f =
    let is : new.last ≡ old.last = ap (λ (k : Kept). k.last) f in
    omega (arith, is)
follow_last ws (e ∷ es) old new f =
    let first : old.last ≤ f.0.last = one_last ws old f.0 e f.1 in
    let rest : f.0.last ≤ new.last = follow_last ws es f.0 new f.2 in
    omega (arith, first, rest)

-- the entries of acts follow what is kept, which has the same features and acts as something else that they follow: they leave the same, with
-- no greater connection than theirs
pub record Later (ws : List Wanted) (n : ℕ) (c : Counted) (mid kept : Kept) (acts : List Act) : Type 0 where
  pub new : Kept
  pub follow : Follow ws mid (entries_of ws n c acts) new
  pub features : new.features ≡ kept.features
  pub told : new.told ≡ kept.told
  pub used : new.used ≡ kept.used
  pub last : new.last ≤ n

-- the same features and acts, as many contacts used up, and the same last connection: they differ in errors at most
record AreAlike (a b : Kept) : Type 0 where
  features : a.features ≡ b.features
  told : a.told ≡ b.told
  used : a.used ≡ b.used
  last : a.last ≡ b.last

-- an entry that follows one follows the other, and leaves alike
abbrev OneAlike : List Wanted → Kept → Entry → Kept → Type 0
OneAlike ws mid e new = (other : Kept) × Follows ws mid e other × AreAlike other new

one_alike : (ws : List Wanted) (old mid new : Kept) (e : Entry) → AreAlike mid old → Follows ws old e new → OneAlike ws mid e new
one_alike ws old mid new (Told n a) h f = (
  with_told mid n a,
  (f.0, subst (λ (k : ℕ). k ≤ n) (sym h.last) f.1, refl),
  subst (λ (k : Kept). AreAlike (with_told mid n a) k) (sym f.2) (record {
    features = h.features;
    told = ap (λ (l : List (ℕ × Act)). l ++ (n, a) ∷ []) h.told;
    used = h.used;
    last = refl;
  }),
)
one_alike ws old mid new (Noted n note text) h f = (
  with_noted mid n note text,
  (f.0, subst (λ (k : ℕ). k ≤ n) (sym h.last) f.1, refl),
  subst (λ (k : Kept). AreAlike (with_noted mid n note text) k) (sym f.2)
      (record { features = h.features; told = h.told; used = h.used; last = refl }),
)
one_alike ws old mid new (Completed n label) h f =
    let c : Completes ws old n label new = f.1 in
    let w : Wanted = c.wanted in
    let run : IsLastRun old w n c.points = c.run in
    let moved : IsLastRun mid w n c.points = record {
      unused = subst (λ (l : List (ℕ × Act)). mid.used + length w.touches ≤ length (contacts l)) (sym h.told)
          (subst (λ (k : ℕ). k + length w.touches ≤ length (contacts old.told)) (sym h.used) run.unused);
      serves = subst (λ (l : List (ℕ × Act)). Serves n w.touches c.points (drop (length (contacts l) - length w.touches) (contacts l)))
          (sym h.told) run.serves;
    } in (
      with_completed mid n w c.points,
      (
        f.0,
        record {
          wanted = w;
          points = c.points;
          next = ap (λ (l : List Feature). slice_get ws (length l)) h.features ∙ c.next;
          label_is = c.label_is;
          same = c.same ∙ sym h.last;
          run = moved;
          more = refl;
        },
      ),
      subst (λ (k : Kept). AreAlike (with_completed mid n w c.points) k) (sym c.more) (record {
        features = ap (λ (l : List Feature). l ++ completed_feature n w c.points ∷ []) h.features;
        told = h.told;
        used = ap (λ (l : List (ℕ × Act)). length (contacts l)) h.told;
        last = refl;
      }),
    )

-- and so do entries, one after another
abbrev AllAlike : List Wanted → Kept → List Entry → Kept → Type 0
AllAlike ws mid es new = (other : Kept) × Follow ws mid es other × AreAlike other new

all_alike : (ws : List Wanted) (es : List Entry) (old mid new : Kept) → AreAlike mid old → Follow ws old es new → AllAlike ws mid es new
all_alike ws [] old mid new h f = (mid, refl, subst (λ (k : Kept). AreAlike mid k) (sym f) h)
all_alike ws (e ∷ es) old mid new h f =
    let one : OneAlike ws mid e f.0 = one_alike ws old mid f.0 e h f.1 in
    let rest : AllAlike ws one.0 es new = all_alike ws es f.0 one.0 new one.2 f.2 in
    (rest.0, (one.0, one.1, rest.1), rest.2)

pub later : (ws : List Wanted) (n : ℕ) (c : Counted) (old mid kept : Kept) (acts : List Act) → mid.features ≡ old.features
    → mid.told ≡ old.told → mid.used ≡ old.used → mid.last ≤ n → kept.last ≤ n → Follow ws old (entries_of ws n c acts) kept
    → Later ws n c mid kept acts
later ws n c old mid kept [] features told used last upto f = record {
  new = mid;
  follow = refl;
  features = features ∙ ap (λ (k : Kept). k.features) (sym f);
  told = told ∙ ap (λ (k : Kept). k.told) (sym f);
  used = used ∙ ap (λ (k : Kept). k.used) (sym f);
  last = last;
}
later ws n c old mid kept (a ∷ acts) features told used last upto f =
    let alike : AreAlike (with_told mid n a) f.0 = subst (λ (k : Kept). AreAlike (with_told mid n a) k) (sym f.1.2) (record {
      features = features;
      told = ap (λ (l : List (ℕ × Act)). l ++ (n, a) ∷ []) told;
      used = used;
      last = refl;
    }) in
    let rest : AllAlike ws (with_told mid n a) ((counted ws n a c).1 ++ entries_of ws n (counted ws n a c).0 acts) kept =
    all_alike ws ((counted ws n a c).1 ++ entries_of ws n (counted ws n a c).0 acts) f.0 (with_told mid n a) kept alike f.2 in
    record {
      new = rest.0;
      follow = (with_told mid n a, (f.1.0, last, refl), rest.1);
      features = rest.2.features;
      told = rest.2.told;
      used = rest.2.used;
      last = subst (λ (k : ℕ). k ≤ n) (sym rest.2.last) upto;
    }
