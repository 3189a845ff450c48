-- Point texts.
use Rattle.dme_line.proofs.Names.{[], ◌++◌, ◌-◌, ◌∙◌, ◌∷◌, ◌≡◌, ◌≤◌, and_from, ap, argument_tokens, arith, Close, codes, Comma, drop, Err, get_or}
use Rattle.dme_line.proofs.Names.{is_word_byte, IsPointText, length, List, NotPoint, Ok, Open, Point, point_tokens, Reads, ReadsPoint, refl, rest_of}
use Rattle.dme_line.proofs.Names.{Result, Single, subst, sym, take, Token, tokens, true, wire_limit, Word, ℕ, ℤ}
use Rattle.fixed_um.specs.Fronts.{BeginsWithLength, is_length_byte}
use Rattle.dme_line.proofs.PlaceLemmas.{one_length, same_point}
use Rattle.dme_line.proofs.TokenLemmas.{tokens-word, tokens-mark}
use Rattle.dme_line.proofs.WireTexts.{all_weaker, plain_word}
use Rattle.dme_line.proofs.WrittenLemmas.{three_axes}

-- the bytes at the start of a slice and the rest of it
pub one_in_front : (xs : List ℕ) (a : ℕ) → 1 ≤ length xs → get_or xs 0 0 ≡ a → xs ≡ a ∷ take (length xs - 1) (drop 1 xs)
one_in_front [] a some h = absurd (omega arith)
one_in_front (x ∷ xs) a some h = rw (rest_of (x ∷ xs) 1) (ap (λ (y : ℕ). y ∷ xs) h)

pub two_in_front : (xs : List ℕ) (a b : ℕ) → 2 ≤ length xs → get_or xs 0 0 ≡ a → get_or xs 1 0 ≡ b
    → xs ≡ a ∷ b ∷ take (length xs - 2) (drop 2 xs)
two_in_front [] a b some h g = absurd (omega arith)
two_in_front (x ∷ []) a b some h g = absurd (omega arith)
two_in_front (x ∷ y ∷ xs) a b some h g = rw (rest_of (x ∷ y ∷ xs) 2)
    (ap (λ (u : ℕ). u ∷ y ∷ xs) h ∙ ap (λ (u : ℕ). a ∷ u ∷ xs) g)

-- an axis of this name is at the start of the rest of a text
pub record BeginsWithAxis (letter : ℕ) (text rest : List ℕ) (value : ℤ) : Type 0 where
  pub numeral : List ℕ
  pub spelled : tokens text ≡ argument_tokens (Single (letter ∷ []) numeral) ++ tokens rest
  pub reads : Reads 3 wire_limit numeral (Ok value)

-- an axis in its written form
pub axis_in_front : (letter limit : ℕ) (bytes text behind rest : List ℕ) (value : ℤ) → is_word_byte letter ≡ true → limit ≡ wire_limit
    → bytes ≡ letter ∷ 40 ∷ text → BeginsWithLength limit text behind value → behind ≡ 41 ∷ rest → BeginsWithAxis letter bytes rest value
axis_in_front letter limit bytes text behind rest value is most e f g =
    let words = all_weaker is_length_byte is_word_byte f.numeral plain_word f.bytes in
    let inner : tokens text ≡ Word f.numeral ∷ Close ∷ tokens rest = ap tokens (f.parts ∙ ap (λ (t : List ℕ). f.numeral ++ t) g)
    ∙ tokens-word f.numeral (41 ∷ rest) words f.some refl ∙ ap (λ (ts : List Token). Word f.numeral ∷ ts) (tokens-mark 41 rest refl) in
    record {
      numeral = f.numeral;
      spelled = ap tokens e ∙ tokens-word (letter ∷ []) (40 ∷ text) (and_from _ _ is refl) (omega arith) refl
          ∙ ap (λ (ts : List Token). Word (letter ∷ []) ∷ ts) (tokens-mark 40 text refl ∙ ap (λ (ts : List Token). Open ∷ ts) inner);
      reads = subst (λ (n : ℕ). Reads 3 n f.numeral (Ok value)) most f.reads;
    }

-- three axes in front of the rest of a text, with their values
pub record BeginsWithThree (text rest : List ℕ) (x y z : ℤ) : Type 0 where
  pub first : List ℕ
  pub second : List ℕ
  pub third : List ℕ
  pub spelled : tokens text ≡ point_tokens first second third ++ tokens rest
  pub x_reads : Reads 3 wire_limit first (Ok x)
  pub y_reads : Reads 3 wire_limit second (Ok y)
  pub z_reads : Reads 3 wire_limit third (Ok z)

-- three axes in their written form
pub point_in_front : (l m n : ℕ) (text t0 b0 t1 b1 t2 b2 rest : List ℕ) (x y z : ℤ) → l ≡ wire_limit → m ≡ wire_limit → n ≡ wire_limit
    → text ≡ 88 ∷ 40 ∷ t0 → BeginsWithLength l t0 b0 x → b0 ≡ 41 ∷ 44 ∷ 32 ∷ 89 ∷ 40 ∷ t1
    → BeginsWithLength m t1 b1 y → b1 ≡ 41 ∷ 44 ∷ 32 ∷ 90 ∷ 40 ∷ t2 → BeginsWithLength n t2 b2 z → b2 ≡ 41 ∷ rest
    → BeginsWithThree text rest x y z
point_in_front l m n text t0 b0 t1 b1 t2 b2 rest x y z lm mm nm e f g h i j k =
    let a = axis_in_front 88 l text t0 b0 (44 ∷ 32 ∷ 89 ∷ 40 ∷ t1) x refl lm e f g in
    let b = axis_in_front 89 m (89 ∷ 40 ∷ t1) t1 b1 (44 ∷ 32 ∷ 90 ∷ 40 ∷ t2) y refl mm refl h i in
    let d = axis_in_front 90 n (90 ∷ 40 ∷ t2) t2 b2 rest z refl nm refl j k in
    record {
      first = a.numeral;
      second = b.numeral;
      third = d.numeral;
      spelled = three_axes _ _ _ _ _ _ _ _ _ a.spelled refl b.spelled refl d.spelled;
      x_reads = a.reads;
      y_reads = b.reads;
      z_reads = d.reads;
    }

-- no third axis
third : (ts t u v w : List Token) (x y a b z : List ℕ) → ts ≡ argument_tokens (Single (codes "X") x) ++ t → t ≡ Comma ∷ u
    → u ≡ argument_tokens (Single (codes "Y") y) ++ v → v ≡ Comma ∷ w → ts ≡ point_tokens a b z
    → w ≡ argument_tokens (Single (codes "Z") z) ++ []
third ts t u v w x y a b z p q r s e = cc

pub no_z : (ts t u v w : List Token) (x y : List ℕ) → ts ≡ argument_tokens (Single (codes "X") x) ++ t → t ≡ Comma ∷ u
    → u ≡ argument_tokens (Single (codes "Y") y) ++ v → v ≡ Comma ∷ w
    → ((z : List ℕ) (us : List Token) → w ≡ argument_tokens (Single (codes "Z") z) ++ us → ⊥) → (a b z : List ℕ) → ts ≡ point_tokens a b z
    → ⊥
no_z ts t u v w x y p q r s none a b z e = none z [] (third ts t u v w x y a b z p q r s e)

-- a text stands for one point
one_words : (x y z a b d : List ℕ) → point_tokens x y z ≡ point_tokens a b d → (x ≡ a) × (y ≡ b) × (z ≡ d)
one_words x y z a b d e = (cc, cc, cc)

pub one_point : (text : List ℕ) (p q : Point) → IsPointText text p → IsPointText text q → p ≡ q
one_point text p q f g =
    let same = one_words f.x f.y f.z g.x g.y g.z (sym f.spelled ∙ g.spelled) in
    let x = subst (λ (w : List ℕ). Reads 3 wire_limit w (Ok p.x)) same.0 f.reads.x_reads in
    let y = subst (λ (w : List ℕ). Reads 3 wire_limit w (Ok p.y)) same.1 f.reads.y_reads in
    let z = subst (λ (w : List ℕ). Reads 3 wire_limit w (Ok p.z)) same.2 f.reads.z_reads in
    same_point p q (one_length 3 wire_limit g.x p.x q.x x g.reads.x_reads) (one_length 3 wire_limit g.y p.y q.y y g.reads.y_reads)
    (one_length 3 wire_limit g.z p.z q.z z g.reads.z_reads)

one_fault : (a b : NotPoint) → a ≡ b
one_fault a b = λ n. record {}

-- a text is read as a point in one way
pub one_point_reading : (text : List ℕ) (x y : Result Point NotPoint) → ReadsPoint text x → ReadsPoint text y → x ≡ y
one_point_reading text (Ok p) (Ok q) f g = ap (λ (r : Point). Ok r) (one_point text p q f g)
one_point_reading text (Ok p) (Err b) f g = absurd (g p f)
one_point_reading text (Err a) (Ok q) f g = absurd (f q g)
one_point_reading text (Err a) (Err b) f g = ap (λ (x : NotPoint). Err x) (one_fault a b)
